-- The footprint of an expression and of a formula: the locations whose values it reads in the present state.
use Rattle.std.specs.Prelude.{Bool, false, not, ◌&&◌, ◌||◌, ◌∷◌, Some, None, bytes_eq}
use Rattle.rel_list.specs.References.{Obj, Ref, same_obj}
use Rattle.rel_list.specs.Regions.{some}
use Rattle.rel_lang.specs.Syntax.{Word, Expression, Var, Num, Null, Empty, Alloc, Add, Sub, Mul, Field, Single, Union, Meet, Minus, Image, Filter, Old, Formula, True, False, Eq, Lt, Le, Member, Subset, Not, And, Or, Implies, Every, Exists}
use Rattle.rel_lang.specs.State.{Tables, class_number, as_reference, as_region, State, Scope}
use Rattle.rel_lang.specs.Value.{value_of, has_location}
use Rattle.rel_lang.specs.Truth.{quantified, with_quantified, holds}

-- it is the object, which null is not
abbrev pub is_object : Ref → Obj → Bool
is_object None o = false
is_object (Some p) o = same_obj p o

module _ (tables : Tables) (sc : Scope) (o : Obj) (f : Word) where
  -- the location of f in o is read
  abbrev pub expression_reads : Expression → State → State → Bool
  expression_reads (Var x) entry s = false
  expression_reads (Num n) entry s = false
  expression_reads Null entry s = false
  expression_reads Empty entry s = false
  expression_reads Alloc entry s = false
  expression_reads (Add a b) entry s = expression_reads a entry s || expression_reads b entry s
  expression_reads (Sub a b) entry s = expression_reads a entry s || expression_reads b entry s
  expression_reads (Mul n a) entry s = expression_reads a entry s
  expression_reads (Field a g) entry s = expression_reads a entry s || (bytes_eq f g && is_object (as_reference (value_of tables sc a entry s)) o)
  expression_reads (Single a) entry s = expression_reads a entry s
  expression_reads (Union a b) entry s = expression_reads a entry s || expression_reads b entry s
  expression_reads (Meet a b) entry s = expression_reads a entry s || expression_reads b entry s
  expression_reads (Minus a b) entry s = expression_reads a entry s || expression_reads b entry s
  -- an image reads the locations of the place
  expression_reads (Image a g) entry s = expression_reads a entry s || has_location tables sc (record { region = a; field = g }) entry s o f
  expression_reads (Filter a c) entry s = expression_reads a entry s
  -- another state's
  expression_reads (Old a) entry s = false

module _ (tables : Tables) (o : Obj) (f : Word) where
  -- The right part of `and`, `or` and `implies` is read only where it decides.
  abbrev pub reads : Scope → Formula → State → State → Bool
  reads sc True entry s = false
  reads sc False entry s = false
  reads sc (Eq a b) entry s = expression_reads tables sc o f a entry s || expression_reads tables sc o f b entry s
  reads sc (Lt a b) entry s = expression_reads tables sc o f a entry s || expression_reads tables sc o f b entry s
  reads sc (Le a b) entry s = expression_reads tables sc o f a entry s || expression_reads tables sc o f b entry s
  reads sc (Member a b) entry s = expression_reads tables sc o f a entry s || expression_reads tables sc o f b entry s
  reads sc (Subset a b) entry s = expression_reads tables sc o f a entry s || expression_reads tables sc o f b entry s
  reads sc (Not p) entry s = reads sc p entry s
  reads sc (And p q) entry s = reads sc p entry s || (holds tables sc p entry s && reads sc q entry s)
  reads sc (Or p q) entry s = reads sc p entry s || (not (holds tables sc p entry s) && reads sc q entry s)
  reads sc (Implies p q) entry s = reads sc p entry s || (holds tables sc p entry s && reads sc q entry s)
  -- a quantifier reads what its region reads, and its body for each member of the class
  reads sc (Every x c g p) entry s = expression_reads tables sc o f g entry s || some (class_number tables c) (as_region (value_of tables sc g entry s))
      (λ m. reads (quantified x c ∷ sc) p (with_quantified x m entry) (with_quantified x m s))
  reads sc (Exists x c g p) entry s = expression_reads tables sc o f g entry s || some (class_number tables c) (as_region (value_of tables sc g entry s))
      (λ m. reads (quantified x c ∷ sc) p (with_quantified x m entry) (with_quantified x m s))
