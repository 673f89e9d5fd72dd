use Rattle.std.proofs.Common.{option_map, sym, ap, ◌∙◌}
use Rattle.rel_flaws.specs.View.{variable_of, variables_seen}
use Rattle.rel_flaws.proofs.Indexes.{in_front_of, behind, found_last}
use Rattle.rel_flaws.proofs.scope.Layers.global.Goals as goal

pub returns-in-Some : goal.returns-in-Some
returns-in-Some c =
    in_front_of c.args.name.now c.args.self.interface.now (variables_seen c.args.self.globals.now) c.in-Some.seen (sym c.in-Some.is ∙ c.get.ensures)

pub returns-in-None : goal.returns-in-None
returns-in-None c =
    ap (option_map (variable_of c.args.name.now)) c.get-in-None.ensures ∙ sym (found_last c.args.name.now c.args.self.globals.now)
    ∙ behind c.args.name.now c.args.self.interface.now (variables_seen c.args.self.globals.now) (sym c.in-None.is ∙ c.get.ensures)
