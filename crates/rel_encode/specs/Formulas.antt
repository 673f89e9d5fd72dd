-- The formula of the logic that says what a formula of the language says.
use Rattle.std.specs.Prelude.{ℕ, List, [], ◌∷◌}
use Rattle.rel_lang.specs.Syntax.{Formula, True, False, Eq, Lt, Le, Member, Subset, Not, And, Or, Implies, Every, Exists, Decl}
use Rattle.rel_logic.specs.Syntax.{ref_sort, Trm, bound, Fml, verum, falsum, eq, lt, le, member, is, no, and, or, imp, every, some}
use Rattle.rel_encode.specs.Numbers.{Numbers, number_of_class}
use Rattle.rel_encode.specs.Terms.{Store, lifted, bound_store, member_declared, term_of}

-- ---- conjunctions

abbrev pub joined : Fml → Fml → Fml
joined verum g = g
joined f verum = f
joined f g = and f g

-- All of the formulas, nested to the right, without those that are `true`.
abbrev pub conj : List Fml → Fml
conj [] = verum
conj (f ∷ fs) = joined f (conj fs)

-- ---- regions

-- the innermost reference is a member of the region, of the class; the region stands outside the quantifier
abbrev pub is_member_of_class : ℕ → Trm → Fml
is_member_of_class c g = and (member (bound 0) (lifted 1 g)) (is c (bound 0))

-- of each such member, the body
abbrev pub each_member : ℕ → Trm → Fml → Fml
each_member c g f = every ref_sort (imp (is_member_of_class c g) f)

abbrev pub some_member : ℕ → Trm → Fml → Fml
some_member c g f = some ref_sort (and (is_member_of_class c g) f)

-- each member of the first region is one of the second
abbrev pub subset : Trm → Trm → Fml
subset g h = every ref_sort (imp (member (bound 0) (lifted 1 g)) (member (bound 0) (lifted 1 h)))

-- ---- formulas

module _ (numbers : Numbers) where
  abbrev pub fol_of : List Decl → Formula → Store → Store → Fml
  fol_of sc True entry now = verum
  fol_of sc False entry now = falsum
  fol_of sc (Eq a b) entry now = eq (term_of numbers sc a entry now) (term_of numbers sc b entry now)
  fol_of sc (Lt a b) entry now = lt (term_of numbers sc a entry now) (term_of numbers sc b entry now)
  fol_of sc (Le a b) entry now = le (term_of numbers sc a entry now) (term_of numbers sc b entry now)
  fol_of sc (Member a g) entry now = member (term_of numbers sc a entry now) (term_of numbers sc g entry now)
  fol_of sc (Subset g h) entry now = subset (term_of numbers sc g entry now) (term_of numbers sc h entry now)
  fol_of sc (Not p) entry now = no (fol_of sc p entry now)
  fol_of sc (And p q) entry now = and (fol_of sc p entry now) (fol_of sc q entry now)
  fol_of sc (Or p q) entry now = or (fol_of sc p entry now) (fol_of sc q entry now)
  fol_of sc (Implies p q) entry now = imp (fol_of sc p entry now) (fol_of sc q entry now)
  fol_of sc (Every x c g p) entry now =
      each_member (number_of_class numbers c) (term_of numbers sc g entry now) (fol_of (member_declared x c ∷ sc) p (bound_store entry) (bound_store now))
  fol_of sc (Exists x c g p) entry now =
      some_member (number_of_class numbers c) (term_of numbers sc g entry now) (fol_of (member_declared x c ∷ sc) p (bound_store entry) (bound_store now))
