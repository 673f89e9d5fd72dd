use Rattle.std.proofs.Common.{refl}
use Rattle.rel_top.proofs.Endings.{ends_well, decided_well, yes_well, not_unread, no_memory, undecided}
use Rattle.rel_top.proofs.run.run.Goals as goal

pub returns-in-Ok-clause-yes : goal.returns-in-Ok-clause-yes
returns-in-Ok-clause-yes g c = yes_well _ _ _ _ _ _ c.in-Ok.ensures.answer c.print_answer.ensures

pub returns-in-Ok-clause-ends : goal.returns-in-Ok-clause-ends
returns-in-Ok-clause-ends g c = ends_well _ _ _ _ _ _ c.in-Ok.ensures.answer c.print_answer.ensures

pub returns-in-Ok-clause-decided : goal.returns-in-Ok-clause-decided
returns-in-Ok-clause-decided g c = decided_well _ _ _ _ _ _ _ (λ name failed. failed.0) c.in-Ok.ensures.answer c.print_answer.ensures

pub returns-in-Ok-clause-quiet : goal.returns-in-Ok-clause-quiet
returns-in-Ok-clause-quiet g c read put memory = c.in-Ok.ensures.quiet (not_unread _ _ _ c.print_answer.ensures read put)

pub returns-in-Err-clause-ends : goal.returns-in-Err-clause-ends
returns-in-Err-clause-ends g c = no_memory _ _ _ _ (record { nothing = refl; quiet = refl })

pub returns-in-Err-clause-decided : goal.returns-in-Err-clause-decided
returns-in-Err-clause-decided g c = undecided _ _ _ _ (record { nothing = refl; quiet = refl })
