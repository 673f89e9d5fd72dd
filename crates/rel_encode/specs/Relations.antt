-- The formula of the logic that says what a relation formula says.
use Rattle.std.specs.Prelude.{ℕ, List, [], ◌∷◌, Option, Some, None}
use Rattle.rel_lang.specs.Syntax.{Ty, Int, Rgn, Class, Left, Right, Expression, Var, Num, Null, Empty, Alloc, Add, Sub, Mul, Field, Single, Union, Meet, Minus, Image, Filter, Old, RelFormula, RelTrue, RelFalse, OnLeft, OnRight, Both, Agree, AgreeImage, RelNot, RelAnd, RelOr, RelImplies, RelEvery, RelExists, Eventually, Decl}
use Rattle.rel_lang.specs.State.{find_named}
use Rattle.rel_logic.specs.Syntax.{Srt, int_sort, ref_sort, rgn_sort, bij_sort, Trm, bound, null, sel, Fml, verum, falsum, eq, member, is, paired, ext, no, and, or, imp, every, some}
use Rattle.rel_encode.specs.Numbers.{Numbers, NumberedField, number_of_class, find_numbered}
use Rattle.rel_encode.specs.Terms.{PairStore, lifted, lifted_store, bound_store, member_declared, term_of, field_term}
use Rattle.rel_encode.specs.Formulas.{conj, each_member, some_member, fol_of}

-- ---- sorts

abbrev pub sort_of_type : Ty → Srt
sort_of_type Int = int_sort
sort_of_type Rgn = rgn_sort
sort_of_type (Class c) = ref_sort

abbrev pub sort_of_declared : Option Decl → Srt
sort_of_declared None = int_sort
sort_of_declared (Some d) = sort_of_type d.ty

abbrev pub sort_of_field : Option NumberedField → Srt
sort_of_field None = int_sort
sort_of_field (Some d) = sort_of_type d.ty

-- the sort of the values of a typed expression
abbrev pub sort_of_expression : Numbers → List Decl → Expression → Srt
sort_of_expression numbers sc (Var x) = sort_of_declared (find_named (λ d. d.name) x sc)
sort_of_expression numbers sc (Num n) = int_sort
sort_of_expression numbers sc Null = ref_sort
sort_of_expression numbers sc Empty = rgn_sort
sort_of_expression numbers sc Alloc = rgn_sort
sort_of_expression numbers sc (Add a b) = int_sort
sort_of_expression numbers sc (Sub a b) = int_sort
sort_of_expression numbers sc (Mul n a) = int_sort
sort_of_expression numbers sc (Field a f) = sort_of_field (find_numbered f numbers)
sort_of_expression numbers sc (Single a) = rgn_sort
sort_of_expression numbers sc (Union a b) = rgn_sort
sort_of_expression numbers sc (Meet a b) = rgn_sort
sort_of_expression numbers sc (Minus a b) = rgn_sort
sort_of_expression numbers sc (Image a f) = rgn_sort
sort_of_expression numbers sc (Filter a c) = rgn_sort
sort_of_expression numbers sc (Old a) = sort_of_expression numbers sc a

-- ---- related values

-- Each member of the left region has its partner in the right one. The numbers are 1 for the member and 0 for the partner.
abbrev pub left_members_paired : Trm → Trm → Trm → Fml
left_members_paired p g h =
    every ref_sort (imp (member (bound 0) (lifted 1 g)) (some ref_sort (and (paired (lifted 2 p) (bound 1) (bound 0)) (member (bound 0) (lifted 2 h)))))

abbrev pub right_members_paired : Trm → Trm → Trm → Fml
right_members_paired p g h =
    every ref_sort (imp (member (bound 0) (lifted 1 h)) (some ref_sort (and (paired (lifted 2 p) (bound 0) (bound 1)) (member (bound 0) (lifted 2 g)))))

-- The two terms, which have the sort, have related values: numbers are equal, references are both null or a pair, and members have partners.
abbrev pub related_terms : Srt → Trm → Trm → Trm → Fml
related_terms ref_sort p t u = or (and (eq t null) (eq u null)) (paired p t u)
related_terms rgn_sort p t u = and (left_members_paired p t u) (right_members_paired p t u)
related_terms _ p t u = eq t u

-- Each object of the class in the left region has its partner in the right one, with related values in the two maps.
abbrev pub left_agrees : Srt → ℕ → Trm → Trm → Trm → Trm → Trm → Fml
left_agrees s c p g h m n =
    each_member c g (some ref_sort (and (paired (lifted 2 p) (bound 1) (bound 0))
    (and (member (bound 0) (lifted 2 h)) (related_terms s (lifted 2 p) (sel (lifted 2 m) (bound 1)) (sel (lifted 2 n) (bound 0))))))

-- and the other way; the left value stays first
abbrev pub right_agrees : Srt → ℕ → Trm → Trm → Trm → Trm → Trm → Fml
right_agrees s c p g h m n =
    each_member c h (some ref_sort (and (paired (lifted 2 p) (bound 0) (bound 1))
    (and (member (bound 0) (lifted 2 g)) (related_terms s (lifted 2 p) (sel (lifted 2 m) (bound 0)) (sel (lifted 2 n) (bound 1))))))

-- every pair is of references that are allocated on their sides
abbrev pub inside : Trm → Trm → Trm → Fml
inside p alloc alloc' =
    every ref_sort (every ref_sort (imp (paired (lifted 2 p) (bound 1) (bound 0)) (and (member (bound 1) (lifted 2 alloc)) (member (bound 0) (lifted 2 alloc')))))

-- The two references are of the class, and neither has a partner.
abbrev pub linkable : ℕ → Trm → Trm → Trm → Fml
linkable c p a b =
    conj (is c a
    ∷ is c b
    ∷ every ref_sort (no (paired (lifted 1 p) (lifted 1 a) (bound 0)))
    ∷ every ref_sort (no (paired (lifted 1 p) (bound 0) (lifted 1 b)))
    ∷ [])

-- ---- relation formulas

-- under a quantifier that binds a variable of one side
abbrev pub bound_left : PairStore → PairStore
bound_left st = record {
  left = bound_store st.left;
  right = lifted_store st.right;
  left_entry = bound_store st.left_entry;
  right_entry = lifted_store st.right_entry;
  bij = lifted 1 st.bij;
}

abbrev pub bound_right : PairStore → PairStore
bound_right st = record {
  left = lifted_store st.left;
  right = bound_store st.right;
  left_entry = lifted_store st.left_entry;
  right_entry = bound_store st.right_entry;
  bij = lifted 1 st.bij;
}

-- under a quantifier that binds the bijection
abbrev pub bound_bijection : PairStore → PairStore
bound_bijection st = record {
  left = lifted_store st.left;
  right = lifted_store st.right;
  left_entry = lifted_store st.left_entry;
  right_entry = lifted_store st.right_entry;
  bij = bound 0;
}

-- some extension, between what is allocated now
abbrev pub some_extension : PairStore → Fml → Fml
some_extension st f = some bij_sort (and (ext (lifted 1 st.bij) (bound 0)) (and (inside (bound 0) (lifted 1 st.left.alloc) (lifted 1 st.right.alloc)) f))

module _ (numbers : Numbers) where
  abbrev pub agree_on : Option NumberedField → Trm → Trm → Trm → Trm → Trm → Fml
  agree_on None p g h m n = verum
  agree_on (Some d) p g h m n =
      and (left_agrees (sort_of_type d.ty) d.class p g h m n) (right_agrees (sort_of_type d.ty) d.class p g h m n)

  abbrev pub rel_of : List Decl → List Decl → RelFormula → PairStore → Fml
  rel_of l r RelTrue st = verum
  rel_of l r RelFalse st = falsum
  rel_of l r (OnLeft p) st = fol_of numbers l p st.left_entry st.left
  rel_of l r (OnRight p) st = fol_of numbers r p st.right_entry st.right
  rel_of l r (Both p) st = and (fol_of numbers l p st.left_entry st.left) (fol_of numbers r p st.right_entry st.right)
  rel_of l r (Agree a b) st =
      related_terms (sort_of_expression numbers l a) st.bij (term_of numbers l a st.left_entry st.left) (term_of numbers r b st.right_entry st.right)
  rel_of l r (AgreeImage g f) st =
      agree_on (find_numbered f numbers) st.bij (term_of numbers l g st.left_entry st.left) (term_of numbers r g st.right_entry st.right)
      (field_term numbers l f st.left) (field_term numbers r f st.right)
  rel_of l r (RelNot a) st = no (rel_of l r a st)
  rel_of l r (RelAnd a b) st = and (rel_of l r a st) (rel_of l r b st)
  rel_of l r (RelOr a b) st = or (rel_of l r a st) (rel_of l r b st)
  rel_of l r (RelImplies a b) st = imp (rel_of l r a st) (rel_of l r b st)
  rel_of l r (RelEvery Left x c g a) st =
      each_member (number_of_class numbers c) (term_of numbers l g st.left_entry st.left) (rel_of (member_declared x c ∷ l) r a (bound_left st))
  rel_of l r (RelEvery Right x c g a) st =
      each_member (number_of_class numbers c) (term_of numbers r g st.right_entry st.right) (rel_of l (member_declared x c ∷ r) a (bound_right st))
  rel_of l r (RelExists Left x c g a) st =
      some_member (number_of_class numbers c) (term_of numbers l g st.left_entry st.left) (rel_of (member_declared x c ∷ l) r a (bound_left st))
  rel_of l r (RelExists Right x c g a) st =
      some_member (number_of_class numbers c) (term_of numbers r g st.right_entry st.right) (rel_of l (member_declared x c ∷ r) a (bound_right st))
  rel_of l r (Eventually a) st = some_extension st (rel_of l r a (bound_bijection st))
