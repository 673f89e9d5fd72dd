-- Which fault is told.
use Rattle.std.specs.Prelude.{◌≡◌, Some}
use Rattle.rel_lang.specs.Syntax.{Bundle}
use Rattle.rel_flaws.specs.View.{kind_of}
use Rattle.rel_types.specs.Items.{first_fault}
use Rattle.rel_types.specs.declared.fault.TypeFault.{TypeFault}
use Rattle.rel_types.specs.declared.fault.TypeFault.TheVariants as faults

-- it is the bundle's first fault; nothing is said of want of memory
abbrev pub IsFirst : Bundle → TypeFault → Type 0
IsFirst b (faults.Fault k at) = first_fault b ≡ Some (record { kind = kind_of k; at = at })
IsFirst b faults.Memory = Unit {0}
