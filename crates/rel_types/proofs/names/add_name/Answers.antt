use Rattle.std.proofs.Common.{◌∷◌, sym, subst}
use Rattle.rel_types.specs.Lookups.{SameNames, names_in}
use Rattle.rel_types.proofs.Repeats.{names_with}
use Rattle.rel_types.proofs.names.add_name.Goals as goal

pub returns-clause-added : goal.returns-clause-added
returns-clause-added c =
    subst (λ new. SameNames (names_in new) (c.args.name.now ∷ names_in c.args.names.now)) (sym c.in_ok-insert.ensures) (names_with c.args.names.now c.args.name.now _)
