use Rattle.std.proofs.Common.{option_map, sym, ap, ◌∙◌}
use Rattle.std.specs.Prelude.{◌++◌}
use Rattle.rel_flaws.specs.View.{variable_of, variables_seen}
use Rattle.rel_flaws.proofs.Indexes.{in_front_of, behind, found_last}
use Rattle.rel_flaws.proofs.scope.Layers.own.Goals as goal

pub returns-in-Some : goal.returns-in-Some
returns-in-Some c =
    in_front_of c.args.name.now c.args.self.params.now (variables_seen c.args.self.locals.now ++ variables_seen c.args.self.result.now) c.in-Some.seen
    (sym c.in-Some.is ∙ c.get.ensures)

pub returns-in-Some-get : goal.returns-in-Some-get
returns-in-Some-get c =
    in_front_of c.args.name.now c.args.self.locals.now (variables_seen c.args.self.result.now) c.in-Some-get.seen
    (sym c.in-Some-get.is ∙ c.get-in-None.ensures)
    ∙ behind c.args.name.now c.args.self.params.now (variables_seen c.args.self.locals.now ++ variables_seen c.args.self.result.now)
    (sym c.in-None.is ∙ c.get.ensures)

pub returns-in-None-get : goal.returns-in-None-get
returns-in-None-get c =
    ap (option_map (variable_of c.args.name.now)) c.get-in-None-get.ensures ∙ sym (found_last c.args.name.now c.args.self.result.now)
    ∙ behind c.args.name.now c.args.self.locals.now (variables_seen c.args.self.result.now) (sym c.in-None-get.is ∙ c.get-in-None.ensures)
    ∙ behind c.args.name.now c.args.self.params.now (variables_seen c.args.self.locals.now ++ variables_seen c.args.self.result.now)
    (sym c.in-None.is ∙ c.get.ensures)
