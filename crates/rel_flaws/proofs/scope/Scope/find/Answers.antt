use Rattle.std.proofs.Common.{option_map, sym, ap, ◌∙◌}
use Rattle.rel_flaws.proofs.Indexes.{in_front, behind_quantified}
use Rattle.rel_flaws.proofs.scope.Scope.find.Goals as goal

pub returns-in-Some : goal.returns-in-Some
returns-in-Some c =
    in_front c.args.name.now c.args.self.now c.in-Some.class.now (sym (ap (option_map (λ class. class.now)) c.in-Some.is) ∙ c.find.ensures)

pub returns-in-None : goal.returns-in-None
returns-in-None c =
    c.find-in-None.ensures ∙ behind_quantified c.args.name.now c.args.self.now (sym (ap (option_map (λ class. class.now)) c.in-None.is) ∙ c.find.ensures)
