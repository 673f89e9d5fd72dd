-- The truth of a formula in a state. It ranges over finite sets alone, so it is a test.
use Rattle.std.specs.Prelude.{Bool, true, false, not, ◌&&◌, ◌||◌, ◌∷◌, Some, int_lt, int_le}
use Rattle.rel_list.specs.References.{Obj, each}
use Rattle.rel_list.specs.Regions.{is_member, is_within, some}
use Rattle.rel_lang.specs.Syntax.{Word, Class, Formula, True, False, Eq, Lt, Le, Member, Subset, Not, And, Or, Implies, Every, Exists}
use Rattle.rel_lang.specs.State.{Tables, class_number, Reference, as_number, as_reference, as_region, same_value, ByQuantifier, State, Variable, Scope, set_variable}
use Rattle.rel_lang.specs.Value.{value_of}

-- A quantified name is a variable that nothing else can name. It has one value in the present state and the one at entry.
abbrev pub quantified : Word → Word → Variable
quantified x c = record { name = x; owner = ByQuantifier; ty = Class c; is_assignable = false }

abbrev pub with_quantified : Word → Obj → State → State
with_quantified x o s = set_variable ByQuantifier x (Reference (Some o)) s

module _ (tables : Tables) where
  abbrev pub holds : Scope → Formula → State → State → Bool
  holds sc True entry s = true
  holds sc False entry s = false
  holds sc (Eq a b) entry s = same_value (value_of tables sc a entry s) (value_of tables sc b entry s)
  holds sc (Lt a b) entry s = int_lt (as_number (value_of tables sc a entry s)) (as_number (value_of tables sc b entry s))
  holds sc (Le a b) entry s = int_le (as_number (value_of tables sc a entry s)) (as_number (value_of tables sc b entry s))
  holds sc (Member a g) entry s = is_member (as_reference (value_of tables sc a entry s)) (as_region (value_of tables sc g entry s))
  holds sc (Subset g h) entry s = is_within (as_region (value_of tables sc g entry s)) (as_region (value_of tables sc h entry s))
  holds sc (Not p) entry s = not (holds sc p entry s)
  holds sc (And p q) entry s = holds sc p entry s && holds sc q entry s
  holds sc (Or p q) entry s = holds sc p entry s || holds sc q entry s
  holds sc (Implies p q) entry s = not (holds sc p entry s) || holds sc q entry s
  -- over the members of the class
  holds sc (Every x c g p) entry s =
      each (class_number tables c) (as_region (value_of tables sc g entry s)) (λ o. holds (quantified x c ∷ sc) p (with_quantified x o entry) (with_quantified x o s))
  holds sc (Exists x c g p) entry s =
      some (class_number tables c) (as_region (value_of tables sc g entry s)) (λ o. holds (quantified x c ∷ sc) p (with_quantified x o entry) (with_quantified x o s))
