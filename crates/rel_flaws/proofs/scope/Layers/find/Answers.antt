use Rattle.std.proofs.Common.{option_map, sym, ap, ◌∙◌}
use Rattle.rel_flaws.specs.View.{variable_of, globals_seen, own_seen}
use Rattle.rel_flaws.proofs.Indexes.{found_first, found_next}
use Rattle.rel_flaws.proofs.scope.Layers.find.Goals as goal

pub returns-in-Some : goal.returns-in-Some
returns-in-Some c =
    found_first c.args.name.now (globals_seen c.args.self) (own_seen c.args.self) (variable_of c.args.name.now c.in-Some.seen)
    (sym (ap (option_map (variable_of c.args.name.now)) c.in-Some.is) ∙ c.global.ensures)

pub returns-in-None : goal.returns-in-None
returns-in-None c =
    c.own.ensures ∙ found_next c.args.name.now (globals_seen c.args.self) (own_seen c.args.self)
    (sym (ap (option_map (variable_of c.args.name.now)) c.in-None.is) ∙ c.global.ensures)
