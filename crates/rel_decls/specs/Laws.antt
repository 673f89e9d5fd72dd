-- Laws of the definitions, which functions of `laws` prove.
use Rattle.std.specs.Prelude.{◌≡◌, ◌≢◌, ℕ, List}
use Rattle.rel_lang.specs.Syntax.{Bundle}
use Rattle.rel_lang.specs.Text.{StandsFor}
use Rattle.rel_decls.specs.declared.fault.TextFault.{TextFault}
use Rattle.rel_decls.specs.declared.fault.TextFault.TheVariants.{Memory}
use Rattle.rel_decls.specs.Faults.{HasFault, StandsForNone}

-- No text stands for two bundles.
abbrev pub TextsStandForOneBundle : Type 0
TextsStandForOneBundle = (text : List ℕ) (b c : Bundle) → StandsFor text b → StandsFor text c → b ≡ c

-- No text has two faults.
abbrev pub TextsHaveOneFault : Type 0
TextsHaveOneFault = (text : List ℕ) (f g : TextFault) → HasFault text f → HasFault text g → f ≢ Memory → g ≢ Memory → f ≡ g

-- A text with a fault stands for no bundle within the limits.
abbrev pub FaultyTextsStandForNone : Type 0
FaultyTextsStandForNone = (text : List ℕ) (f : TextFault) → HasFault text f → f ≢ Memory → StandsForNone text
