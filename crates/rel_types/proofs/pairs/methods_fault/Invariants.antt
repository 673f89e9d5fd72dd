use Rattle.std.proofs.Common.{◌≡◌, Option, None, take}
use Rattle.rel_lang.specs.Syntax.{Bundle, Interface, Module}
use Rattle.rel_lang.specs.View.{align_of}
use Rattle.rel_flaws.specs.Flaws.{first_in}
use Rattle.rel_flaws.specs.View.{pass_of}
use Rattle.rel_types.specs.ModuleView.{AreModules, fault_of_method}
use Rattle.rel_types.proofs.pairs.methods_fault.Given as goal

abbrev pub invariant-loop-method : goal.invariant-loop-method
invariant-loop-method l =
    (b : Bundle) (i : Option Interface) (m n : Option Module) → AreModules b i m n l.known l.modules
    → first_in (λ a. fault_of_method b (pass_of l.pass) i m n (a.0, a.1, align_of a.2)) (take l.method-index l.method-items) ≡ None
