use Rattle.std.proofs.Common.{◌≡◌, Option, None, take}
use Rattle.rel_lang.specs.Syntax.{Interface, Module}
use Rattle.rel_flaws.specs.Flaws.{first_in}
use Rattle.rel_flaws.specs.View.{pass_of, tables_seen}
use Rattle.rel_types.specs.ModuleView.{IsGiven, IsAroundModule, fault_of_body}
use Rattle.rel_types.proofs.InModules.{seen_body}
use Rattle.rel_types.proofs.modules.methods_fault.Given as goal

abbrev pub invariant-loop-method : goal.invariant-loop-method
invariant-loop-method l =
    (i : Option Interface) (m : Module) → IsGiven i l.given → IsAroundModule i m l.around
    → first_in (λ b. fault_of_body (tables_seen l.tables) (pass_of l.pass) i m (seen_body b)) (take l.method-index l.method-items) ≡ None
