use Rattle.std.proofs.Common.{◌≡◌, ◌++◌, map, take}
use Rattle.rel_logic.specs.View.{trm_of, fml_of}
use Rattle.rel_encode.specs.View.{numbers_in}
use Rattle.rel_encode.proofs.Gathered.{gathered, of_variable}
use Rattle.rel_encode.proofs.facts.add_facts_of_variables.Given as goal

abbrev pub invariant-loop-i : goal.invariant-loop-i
invariant-loop-i l =
    map fml_of l.facts
    ≡ map fml_of l.initial.facts ++ gathered (of_variable (numbers_in l.names) (trm_of l.st.alloc)) (take l.i l.variables.items.now) (take l.i l.st.vars) (take l.i l.st.vars)
