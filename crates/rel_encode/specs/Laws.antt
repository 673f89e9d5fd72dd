-- What the encoding means: each term has the value of its expression, and each formula is true exactly where the program's formula is.
use Rattle.std.specs.Prelude.{◌≡◌, ◌↔◌, ℕ, Bool, IsTrue, IsFalse, List, map, take, Some}
use Rattle.std.specs.List.{AllByRecursion, list_any}
use Rattle.rel_list.specs.References.{Obj, Ref, Region, is_in}
use Rattle.rel_list.specs.Regions.{is_within}
use Rattle.rel_list.specs.Pairs.{Pairs, has, can_link}
use Rattle.rel_lang.specs.Syntax.{Word, Ty, Int, Rgn, Class, Expression, Formula, RelFormula, Effect, Decl}
use Rattle.rel_lang.specs.State.{Tables, State, Scope, value_in, IsWellFormed}
use Rattle.rel_lang.specs.Value.{value_of}
use Rattle.rel_lang.specs.Truth.{holds}
use Rattle.rel_lang.specs.Relation.{Moment, RelHolds}
use Rattle.rel_lang.specs.Typed.{AreDistinct, HasType, IsTypedFormula, IsTypedRel, IsTypedEffect}
use Rattle.rel_lang.specs.Meets.{lists_location}
use Rattle.rel_logic.specs.Syntax.{Srt, map_int_sort, map_ref_sort, map_rgn_sort, Trm, Fml}
use Rattle.rel_logic.specs.Truth.{Elem, ref, rgn, bij, HasSort, Valuation, value, IsTrueAt}
use Rattle.rel_encode.specs.Numbers.{Numbers, numbered, declarations_of}
use Rattle.rel_encode.specs.Terms.{Store, PairStore, term_of}
use Rattle.rel_encode.specs.Formulas.{conj, fol_of}
use Rattle.rel_encode.specs.Relations.{sort_of_type, inside, linkable, rel_of}
use Rattle.rel_encode.specs.Facts.{basics, grow}
use Rattle.rel_encode.specs.Frame.{lists_global, frame_of}
use Rattle.rel_encode.specs.Meaning.{elem_of, field_map, HasTypedHeap, StandsFor, HasWellFormedStates, StandsForBoth}

-- The term has the expression's value, wherever the two stores stand for two states.
abbrev pub IsExactTerm : Numbers → List Decl → Expression → Store → Store → Trm → Type 0
IsExactTerm numbers ds e entry now t =
    (tables : Tables) (sc : Scope) (old : Bool) (ty : Ty) → numbers ≡ numbered tables → ds ≡ declarations_of sc → HasType tables old sc e ty
    → (r : Valuation) (bs : List Elem) (before s : State) → HasTypedHeap tables before → HasTypedHeap tables s
    → StandsFor tables sc r bs entry before → StandsFor tables sc r bs now s
    → value r bs t ≡ elem_of (value_of tables sc e before s)

-- The formula is true exactly where the program's formula is.
abbrev pub IsExactFormula : Numbers → List Decl → Formula → Store → Store → Fml → Type 0
IsExactFormula numbers ds p entry now f =
    (tables : Tables) (sc : Scope) (old : Bool) → numbers ≡ numbered tables → ds ≡ declarations_of sc → IsTypedFormula tables old sc p
    → (r : Valuation) (bs : List Elem) (before s : State) → HasTypedHeap tables before → HasTypedHeap tables s
    → StandsFor tables sc r bs entry before → StandsFor tables sc r bs now s
    → IsTrueAt r bs f ↔ IsTrue (holds tables sc p before s)

-- The formula is true exactly where the relation holds, of two sides in well-formed states.
abbrev pub IsExactRelation : Numbers → List Decl → List Decl → RelFormula → PairStore → Fml → Type 0
IsExactRelation numbers ls rs a st f =
    (tables : Tables) (left right : Moment) (old : Bool) → numbers ≡ numbered tables → ls ≡ declarations_of left.scope → rs ≡ declarations_of right.scope
    → IsTypedRel tables old left.scope right.scope a
    → (r : Valuation) (bs : List Elem) (q : Pairs) → HasWellFormedStates tables left → HasWellFormedStates tables right → StandsForBoth tables r bs st left right q
    → IsTrueAt r bs f ↔ RelHolds tables a left right q

-- All of the facts hold in every well-formed state that the store stands for.
abbrev pub AreTrueFacts : Numbers → List Decl → Store → List Fml → Type 0
AreTrueFacts numbers ds st facts =
    (tables : Tables) (sc : Scope) → numbers ≡ numbered tables → ds ≡ declarations_of sc → AreDistinct (map (λ d. d.name) tables.fields)
    → (r : Valuation) (bs : List Elem) (s : State) → IsWellFormed tables sc s → StandsFor tables sc r bs st s
    → AllByRecursion (IsTrueAt r bs) facts

-- What has changed between the two states is listed: no other variable of the framed ones, and no other location of an object that was allocated.
pub record ChangesListed (tables : Tables) (sc framed : Scope) (writes : List Effect) (before s : State) : Type 0 where
  pub variables : AllByRecursion (λ v. IsFalse (lists_global writes v.name) → value_in s v ≡ value_in before v) framed
  pub locations : (o : Obj) (f : Word) → IsTrue (is_in o before.alloc) → IsFalse (list_any (lists_location tables sc before o f) writes) → s.heap o f ≡ before.heap o f

-- The formula is true exactly where this is so.
abbrev pub IsExactFrame : Numbers → List Decl → ℕ → List Effect → Store → Store → Fml → Type 0
IsExactFrame numbers ds framed writes before after f =
    (tables : Tables) (globals sc : Scope) → numbers ≡ numbered tables → ds ≡ declarations_of sc → AllByRecursion (IsTypedEffect tables globals sc) writes
    → (r : Valuation) (bs : List Elem) (s t : State) → HasTypedHeap tables s → HasTypedHeap tables t
    → StandsFor tables sc r bs before s → StandsFor tables sc r bs after t
    → IsTrueAt r bs f ↔ ChangesListed tables sc (take framed sc) writes s t

-- Every pair is of references that are allocated on their sides.
abbrev pub IsExactInside : Trm → Trm → Trm → Fml → Type 0
IsExactInside p alloc alloc' f =
    (r : Valuation) (bs : List Elem) (q : Pairs) (g h : Region) → value r bs p ≡ bij q → value r bs alloc ≡ rgn g → value r bs alloc' ≡ rgn h
    → IsTrueAt r bs f ↔ ((a b : Obj) → IsTrue (has q a b) → IsTrue (is_in a g) × IsTrue (is_in b h))

-- Both are references of the class that can be linked.
abbrev pub IsExactLinkable : ℕ → Trm → Trm → Trm → Fml → Type 0
IsExactLinkable c p a b f =
    (r : Valuation) (bs : List Elem) (q : Pairs) (x y : Ref) → value r bs p ≡ bij q → value r bs a ≡ ref x → value r bs b ≡ ref y
    → IsTrueAt r bs f ↔ ((m n : Obj) × (x ≡ Some m) × (y ≡ Some n) × (m.class ≡ c) × IsTrue (can_link q m n))

-- What was allocated before is so after.
abbrev pub IsExactGrowth : Trm → Trm → Fml → Type 0
IsExactGrowth before after f =
    (r : Valuation) (bs : List Elem) (g h : Region) → value r bs before ≡ rgn g → value r bs after ≡ rgn h
    → IsTrueAt r bs f ↔ IsTrue (is_within g h)

-- ---- valuations

-- the sort of a field's map
abbrev pub sort_of_map : Ty → Srt
sort_of_map Int = map_int_sort
sort_of_map Rgn = map_rgn_sort
sort_of_map (Class c) = map_ref_sort

-- The values of a well-formed state have the sorts that their terms have, so a valuation can give them.
pub record HasSortedValues (tables : Tables) (sc : Scope) (s : State) : Type 0 where
  pub variables : AllByRecursion (λ v. HasSort (sort_of_type v.ty) (elem_of (value_in s v))) sc
  pub maps : AllByRecursion (λ d. HasSort (sort_of_map d.ty) (field_map tables d.name d.ty s)) tables.fields

abbrev pub WellFormedStatesHaveSortedValues : Type 0
WellFormedStatesHaveSortedValues = (tables : Tables) (sc : Scope) (s : State) → IsWellFormed tables sc s → HasSortedValues tables sc s

-- ---- the law of terms, formulas and relations

-- Each term is exact.
abbrev pub TermsAreExact : Type 0
TermsAreExact = (numbers : Numbers) (ds : List Decl) (e : Expression) (entry now : Store) → IsExactTerm numbers ds e entry now (term_of numbers ds e entry now)

-- Each formula is.
abbrev pub FormulasAreExact : Type 0
FormulasAreExact = (numbers : Numbers) (ds : List Decl) (p : Formula) (entry now : Store) → IsExactFormula numbers ds p entry now (fol_of numbers ds p entry now)

-- Each relation formula is.
abbrev pub RelationsAreExact : Type 0
RelationsAreExact = (numbers : Numbers) (ls rs : List Decl) (a : RelFormula) (st : PairStore) → IsExactRelation numbers ls rs a st (rel_of numbers ls rs a st)

-- ---- laws of states, which functions of `laws_of_states` prove

abbrev pub FactsAreTrue : Type 0
FactsAreTrue = (numbers : Numbers) (ds : List Decl) (st : Store) → AreTrueFacts numbers ds st (basics numbers ds st)

abbrev pub PairsInsideAreExact : Type 0
PairsInsideAreExact = (p alloc alloc' : Trm) → IsExactInside p alloc alloc' (inside p alloc alloc')

abbrev pub LinkableIsExact : Type 0
LinkableIsExact = (c : ℕ) (p a b : Trm) → IsExactLinkable c p a b (linkable c p a b)

abbrev pub GrowthIsExact : Type 0
GrowthIsExact = (before after : Trm) → IsExactGrowth before after (grow before after)

-- A conjunction is true exactly where all its members are.
abbrev pub ConjunctionsAreExact : Type 0
ConjunctionsAreExact = (r : Valuation) (bs : List Elem) (fs : List Fml) → IsTrueAt r bs (conj fs) ↔ AllByRecursion (IsTrueAt r bs) fs

abbrev pub FramesAreExact : Type 0
FramesAreExact =
    (numbers : Numbers) (ds : List Decl) (framed : ℕ) (writes : List Effect) (before after : Store)
    → IsExactFrame numbers ds framed writes before after (frame_of numbers ds framed writes before after)
