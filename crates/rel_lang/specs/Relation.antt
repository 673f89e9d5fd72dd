-- Bijections of references, related values and relational truth.
use Rattle.std.specs.Prelude.{◌≡◌, ◌⊎◌, Bool, true, false, ◌&&◌, IsTrue, ◌∷◌, Some, None}
use Rattle.std.specs.Ordering.{int_eq}
use Rattle.std.specs.FinSet as set
use Rattle.rel_list.specs.References.{Obj, Region, is_in}
use Rattle.rel_list.specs.Regions.{are_matched}
use Rattle.rel_list.specs.Pairs.{Pairs, has, IsOneToOne, Extends}
use Rattle.rel_lang.specs.Syntax.{Word, Side, Left, Right, Expression, Image, Formula, RelFormula, RelTrue, RelFalse, OnLeft, OnRight, Both, Agree, AgreeImage, RelNot, RelAnd, RelOr, RelImplies, RelEvery, RelExists, Eventually}
use Rattle.rel_lang.specs.State.{Tables, class_number, has_field, Value, Number, Reference, Objects, as_region, State, Scope}
use Rattle.rel_lang.specs.Value.{value_of}
use Rattle.rel_lang.specs.Truth.{quantified, with_quantified, holds}
use Rattle.rel_lang.specs.Footprint.{expression_reads, reads}

-- a partial bijection between the allocated references of two states, of equal classes
pub record IsBijection (q : Pairs) (s t : State) : Type 0 where
  pub one_to_one : IsOneToOne q
  pub allocated : (a b : Obj) → IsTrue (has q a b) → IsTrue (is_in a s.alloc) × IsTrue (is_in b t.alloc)

-- each member on either side has its partner on the other
abbrev pub related_regions : Pairs → Region → Region → Bool
related_regions q g h = are_matched (λ a b. has q a b) g h && are_matched (λ b a. has q a b) h g

-- numbers where they are equal, references where both are null or they are a pair
abbrev pub related : Pairs → Value → Value → Bool
related q (Number m) (Number n) = int_eq m n
related q (Reference None) (Reference None) = true
related q (Reference (Some a)) (Reference (Some b)) = has q a b
related q (Objects g) (Objects h) = related_regions q g h
related q _ _ = false

-- One side: what is in scope, the state at entry, and the present one.
pub record Moment : Type 0 where
  pub scope : Scope
  pub entry : State
  pub now : State

-- the moment at which something begins
abbrev pub at_entry : Scope → State → Moment
at_entry sc s = record { scope = sc; entry = s; now = s }

abbrev pub with_member : Word → Word → Obj → Moment → Moment
with_member x c o m = record { scope = quantified x c ∷ m.scope; entry = with_quantified x o m.entry; now = with_quantified x o m.now }

module _ (tables : Tables) where
  abbrev pub value_at : Moment → Expression → Value
  value_at m e = value_of tables m.scope e m.entry m.now

  abbrev pub holds_at : Moment → Formula → Bool
  holds_at m p = holds tables m.scope p m.entry m.now

  -- the object is a member of the region, of the class
  abbrev pub IsMemberOf : Word → Expression → Moment → Obj → Type 0
  IsMemberOf c g m o = IsTrue (is_in o (as_region (value_at m g))) × (o.class ≡ class_number tables c)

  abbrev pub objects_with : Word → Region → Region
  objects_with f g = set.retain g (has_field tables f)

  -- each object of the field's class in either region has its partner in the other, and the two values of the field are related
  abbrev pub agree_image : Pairs → Word → State → State → Region → Region → Bool
  agree_image q f s t g h =
      are_matched (λ a b. has q a b && related q (s.heap a f) (t.heap b f)) (objects_with f g) h
      && are_matched (λ b a. has q a b && related q (s.heap a f) (t.heap b f)) (objects_with f h) g

  -- Truth at two moments under a set of pairs. `or` and `some` say that not all of the parts are false, and `eventually` that not every extension
  -- makes its formula false; each formula is true where it isn't false.
  abbrev pub RelHolds : RelFormula → Moment → Moment → Pairs → Type 0
  RelHolds RelTrue l r q = Unit {0}
  RelHolds RelFalse l r q = ⊥
  RelHolds (OnLeft p) l r q = IsTrue (holds_at l p)
  RelHolds (OnRight p) l r q = IsTrue (holds_at r p)
  RelHolds (Both p) l r q = IsTrue (holds_at l p) × IsTrue (holds_at r p)
  RelHolds (Agree a b) l r q = IsTrue (related q (value_at l a) (value_at r b))
  RelHolds (AgreeImage g f) l r q = IsTrue (agree_image q f l.now r.now (as_region (value_at l g)) (as_region (value_at r g)))
  RelHolds (RelNot a) l r q = ¬ (RelHolds a l r q)
  RelHolds (RelAnd a b) l r q = RelHolds a l r q × RelHolds b l r q
  RelHolds (RelOr a b) l r q = ¬ (¬ (RelHolds a l r q) × ¬ (RelHolds b l r q))
  RelHolds (RelImplies a b) l r q = RelHolds a l r q → RelHolds b l r q
  RelHolds (RelEvery Left x c g a) l r q = (o : Obj) → IsMemberOf c g l o → RelHolds a (with_member x c o l) r q
  RelHolds (RelEvery Right x c g a) l r q = (o : Obj) → IsMemberOf c g r o → RelHolds a l (with_member x c o r) q
  RelHolds (RelExists Left x c g a) l r q = ¬ ((o : Obj) → IsMemberOf c g l o → ¬ (RelHolds a (with_member x c o l) r q))
  RelHolds (RelExists Right x c g a) l r q = ¬ ((o : Obj) → IsMemberOf c g r o → ¬ (RelHolds a l (with_member x c o r) q))
  RelHolds (Eventually a) l r q = ¬ ((more : Pairs) → Extends q more → IsBijection more l.now r.now → ¬ (RelHolds a l r more))

-- ---- the footprint on one side

abbrev pub same_side : Side → Side → Bool
same_side Left Left = true
same_side Right Right = true
same_side _ _ = false

abbrev pub on_side : {A : Type 0} → Side → A → A → A
on_side Left a b = a
on_side Right a b = b

module _ (tables : Tables) (side : Side) (o : Obj) (f : Word) where
  abbrev pub expression_reads_at : Moment → Expression → Bool
  expression_reads_at m e = expression_reads tables m.scope o f e m.entry m.now

  abbrev pub formula_reads_at : Moment → Formula → Bool
  formula_reads_at m p = reads tables o f m.scope p m.entry m.now

  -- The location of f in o is read on the side, by a formula without `eventually`.
  abbrev pub RelReads : RelFormula → Moment → Moment → Pairs → Type 0
  RelReads RelTrue l r q = ⊥
  RelReads RelFalse l r q = ⊥
  RelReads (OnLeft p) l r q = IsTrue (same_side side Left && formula_reads_at l p)
  RelReads (OnRight p) l r q = IsTrue (same_side side Right && formula_reads_at r p)
  RelReads (Both p) l r q = IsTrue (formula_reads_at (on_side side l r) p)
  RelReads (Agree a b) l r q = IsTrue (expression_reads_at (on_side side l r) (on_side side a b))
  RelReads (AgreeImage g h) l r q = IsTrue (expression_reads_at (on_side side l r) (Image g h))
  RelReads (RelNot a) l r q = RelReads a l r q
  RelReads (RelAnd a b) l r q = RelReads a l r q ⊎ (RelHolds tables a l r q × RelReads b l r q)
  RelReads (RelOr a b) l r q = RelReads a l r q ⊎ (¬ (RelHolds tables a l r q) × RelReads b l r q)
  RelReads (RelImplies a b) l r q = RelReads a l r q ⊎ (RelHolds tables a l r q × RelReads b l r q)
  RelReads (RelEvery Left x c g a) l r q =
      IsTrue (same_side side Left && expression_reads_at l g) ⊎ ((m : Obj) × IsMemberOf tables c g l m × RelReads a (with_member x c m l) r q)
  RelReads (RelEvery Right x c g a) l r q =
      IsTrue (same_side side Right && expression_reads_at r g) ⊎ ((m : Obj) × IsMemberOf tables c g r m × RelReads a l (with_member x c m r) q)
  RelReads (RelExists Left x c g a) l r q =
      IsTrue (same_side side Left && expression_reads_at l g) ⊎ ((m : Obj) × IsMemberOf tables c g l m × RelReads a (with_member x c m l) r q)
  RelReads (RelExists Right x c g a) l r q =
      IsTrue (same_side side Right && expression_reads_at r g) ⊎ ((m : Obj) × IsMemberOf tables c g r m × RelReads a l (with_member x c m r) q)
  RelReads (Eventually a) l r q = ⊥
