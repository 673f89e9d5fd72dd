-- The place that a target stands for.
use Rattle.rel_logic.specs.declared.substitution.Target.{Target}
use Rattle.rel_logic.specs.declared.substitution.Target.TheVariants.{Variable, Number}
use Rattle.rel_logic.specs.Substitution.{Place, variable, number}

abbrev pub place_of : Target → Place
place_of (Variable n) = variable n
place_of (Number n) = number n
