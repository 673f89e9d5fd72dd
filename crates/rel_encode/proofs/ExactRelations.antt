-- The formula of a relation formula is true exactly where the relation holds.
use Rattle.std.proofs.Common.{◌≡◌, ◌↔◌, Bool, IsTrue, IsNone, IsSome, List, ◌∷◌, Option, Some, None, refl, sym, ap, subst, ◌∙◌, true≢false}
use Rattle.std.specs.Prelude.{option_map}
use Rattle.rel_list.specs.References.{Obj, is_in}
use Rattle.rel_list.specs.Pairs.{Pairs, has, Extends}
use Rattle.rel_lang.specs.Syntax.{Word, Rgn, Left, Right, Expression, RelFormula, RelTrue, RelFalse, OnLeft, OnRight, Both, Agree, AgreeImage, RelNot, RelAnd, RelOr, RelImplies, RelEvery, RelExists, Eventually, Decl}
use Rattle.rel_lang.specs.State.{Tables, class_number, find_field, find_variable, as_region}
use Rattle.rel_lang.specs.Relation.{Moment, with_member, value_at, IsMemberOf, RelHolds}
use Rattle.rel_lang.specs.Truth.{quantified}
use Rattle.rel_lang.specs.Typed.{HasType, IsTypedRel}
use Rattle.rel_logic.specs.Syntax.{Trm, bound, Fml}
use Rattle.rel_logic.specs.Truth.{Elem, ref, bij, as_rgn, as_pairs, Valuation, value, IsTrueAt}
use Rattle.rel_encode.specs.Numbers.{Numbers, numbered, numbered_field, declarations_of}
use Rattle.rel_encode.specs.Terms.{Store, PairStore, lifted, term_of, field_term}
use Rattle.rel_encode.specs.Relations.{related_terms, bound_left, bound_right, bound_bijection, inside, agree_on, rel_of}
use Rattle.rel_encode.specs.Meaning.{HasTypedHeap, StandsForBoth, HasWellFormedStates}
use Rattle.rel_encode.specs.Laws.{IsExactRelation}
use Rattle.rel_encode.proofs.Small.{under_one, exact_inside}
use Rattle.rel_encode.proofs.Lifts.{lifted_stands, bound_stands}
use Rattle.rel_encode.proofs.Named.{map_value}
use Rattle.rel_encode.proofs.ExactTerms.{term_value, region_value}
use Rattle.rel_encode.proofs.Regions.{both_ways, parts, each_member_true, some_member_true}
use Rattle.rel_encode.proofs.ExactFormulas.{formula_true}
use Rattle.rel_encode.proofs.ValueKinds.{HaveKinds, formed_kinds, quantified_kinds, value_kind, field_found, expression_sort}
use Rattle.rel_encode.proofs.Related.{related_true, agree_true}

-- ---- sides whose values are of their types' kinds

pub record IsTypedSide (tables : Tables) (m : Moment) : Type 0 where
  pub entry_heap : HasTypedHeap tables m.entry
  pub now_heap : HasTypedHeap tables m.now
  pub entry_kinds : HaveKinds m.scope m.entry
  pub now_kinds : HaveKinds m.scope m.now

formed_side : (tables : Tables) (m : Moment) → HasWellFormedStates tables m → IsTypedSide tables m
formed_side tables m h = record {
  entry_heap = h.entry.locations;
  now_heap = h.now.locations;
  entry_kinds = formed_kinds tables m.scope m.entry h.entry;
  now_kinds = formed_kinds tables m.scope m.now h.now;
}

with_typed_member : (tables : Tables) (x c : Word) (o : Obj) (m : Moment) → IsNone (find_variable x m.scope) → IsTypedSide tables m → IsTypedSide tables (with_member x c o m)
with_typed_member tables x c o m none h = record {
  entry_heap = h.entry_heap;
  now_heap = h.now_heap;
  entry_kinds = quantified_kinds x c o m.scope m.entry none h.entry_kinds;
  now_kinds = quantified_kinds x c o m.scope m.now none h.now_kinds;
}

-- ---- stores under quantifiers

module _ (tables : Tables) (r : Valuation) (bs : List Elem) (st : PairStore) (a b : Moment) (q : Pairs) (h : StandsForBoth tables r bs st a b q) where
  left_bound : (x c : Word) (o : Obj) → IsNone (find_variable x a.scope) → StandsForBoth tables r (ref (Some o) ∷ bs) (bound_left st) (with_member x c o a) b q
  left_bound x c o none = record {
    left = bound_stands tables r bs x c o a.scope st.left a.now none h.left;
    left_entry = bound_stands tables r bs x c o a.scope st.left_entry a.entry none h.left_entry;
    right = lifted_stands tables r bs (ref (Some o)) b.scope st.right b.now h.right;
    right_entry = lifted_stands tables r bs (ref (Some o)) b.scope st.right_entry b.entry h.right_entry;
    bij = under_one r bs (ref (Some o)) st.bij ∙ h.bij;
  }

  right_bound : (x c : Word) (o : Obj) → IsNone (find_variable x b.scope) → StandsForBoth tables r (ref (Some o) ∷ bs) (bound_right st) a (with_member x c o b) q
  right_bound x c o none = record {
    left = lifted_stands tables r bs (ref (Some o)) a.scope st.left a.now h.left;
    left_entry = lifted_stands tables r bs (ref (Some o)) a.scope st.left_entry a.entry h.left_entry;
    right = bound_stands tables r bs x c o b.scope st.right b.now none h.right;
    right_entry = bound_stands tables r bs x c o b.scope st.right_entry b.entry none h.right_entry;
    bij = under_one r bs (ref (Some o)) st.bij ∙ h.bij;
  }

  bijection_bound : (more : Pairs) → StandsForBoth tables r (bij more ∷ bs) (bound_bijection st) a b more
  bijection_bound more = record {
    left = lifted_stands tables r bs (bij more) a.scope st.left a.now h.left;
    left_entry = lifted_stands tables r bs (bij more) a.scope st.left_entry a.entry h.left_entry;
    right = lifted_stands tables r bs (bij more) b.scope st.right b.now h.right;
    right_entry = lifted_stands tables r bs (bij more) b.scope st.right_entry b.entry h.right_entry;
    bij = refl;
  }

-- ---- connectives

not_same : {A C : Type 0} → A ↔ C → (¬ A) ↔ (¬ C)
not_same h = (λ n c. n (h.1 c), λ n a. n (h.0 a))

or_same : {A B C D : Type 0} → A ↔ C → B ↔ D → (¬ (¬ A × ¬ B)) ↔ (¬ (¬ C × ¬ D))
or_same h k = (λ n m. n (λ a. m.0 (h.0 a), λ b. m.1 (k.0 b)), λ n m. n (λ c. m.0 (h.1 c), λ d. m.1 (k.1 d)))

implies_same : {A B C D : Type 0} → A ↔ C → B ↔ D → (A → B) ↔ (C → D)
implies_same h k = (λ f c. k.0 (f (h.1 c)), λ f a. k.1 (f (h.0 a)))

there_is : {A : Type 0} (o : Option A) → IsSome o → (a : A) × (o ≡ Some a)
there_is None h = absurd (true≢false (sym h))
there_is (Some a) h = (a, refl)

-- ---- relation formulas

module _ (tables : Tables) (r : Valuation) where
  abbrev term : Moment → Expression → Store → Store → Trm
  term m e entry now = term_of (numbered tables) (declarations_of m.scope) e entry now

  abbrev formula : RelFormula → PairStore → Moment → Moment → Fml
  formula f st a b = rel_of (numbered tables) (declarations_of a.scope) (declarations_of b.scope) f st

  -- the formula's truth, where the store stands for the two sides
  abbrev IsTrueOf : RelFormula → PairStore → List Elem → Moment → Moment → Type 0
  IsTrueOf f st bs a b = IsTrueAt r bs (formula f st a b)

  agrees : (x y : Expression) (a b : Moment) (old : Bool) (bs : List Elem) (st : PairStore) (q : Pairs) → IsTypedSide tables a → IsTypedSide tables b
      → StandsForBoth tables r bs st a b q → IsTypedRel tables old a.scope b.scope (Agree x y) → IsTrueOf (Agree x y) st bs a b ↔ RelHolds tables (Agree x y) a b q
  agrees x y a b old bs st q typed_a typed_b h typed =
      let v = term_value tables a.scope r bs x typed.0 old st.left_entry st.left a.entry a.now typed_a.entry_heap typed_a.now_heap h.left_entry h.left typed.1 in
      let w = term_value tables b.scope r bs y typed.0 old st.right_entry st.right b.entry b.now typed_b.entry_heap typed_b.now_heap h.right_entry h.right typed.2 in
      let k = value_kind tables a.scope x typed.0 old a.entry a.now typed_a.entry_heap typed_a.now_heap typed_a.entry_kinds typed_a.now_kinds typed.1 in
      let l = value_kind tables b.scope y typed.0 old b.entry b.now typed_b.entry_heap typed_b.now_heap typed_b.entry_kinds typed_b.now_kinds typed.2 in
      subst (λ s. IsTrueAt r bs (related_terms s st.bij (term a x st.left_entry st.left) (term b y st.right_entry st.right))
      ↔ RelHolds tables (Agree x y) a b q) (sym (expression_sort tables a.scope x typed.0 old typed.1))
      (related_true r bs st.bij q h.bij typed.0 (term a x st.left_entry st.left) (term b y st.right_entry st.right) _ _ v w k l)

  images_agree : (g : Expression) (f : Word) (a b : Moment) (old : Bool) (bs : List Elem) (st : PairStore) (q : Pairs) → IsTypedSide tables a → IsTypedSide tables b
      → StandsForBoth tables r bs st a b q → IsTypedRel tables old a.scope b.scope (AgreeImage g f) → IsTrueOf (AgreeImage g f) st bs a b ↔ RelHolds tables (AgreeImage g f) a b q
  images_agree g f a b old bs st q typed_a typed_b h typed =
      let d = there_is (find_field tables f) typed.2 in
      let v = region_value _ _ (term_value tables a.scope r bs g Rgn old st.left_entry st.left a.entry a.now typed_a.entry_heap typed_a.now_heap h.left_entry h.left typed.0) in
      let w = region_value _ _ (term_value tables b.scope r bs g Rgn old st.right_entry st.right b.entry b.now typed_b.entry_heap typed_b.now_heap h.right_entry h.right typed.1) in
      subst (λ n. IsTrueAt r bs (agree_on (numbered tables) n st.bij (term a g st.left_entry st.left) (term b g st.right_entry st.right)
      (field_term (numbered tables) (declarations_of a.scope) f st.left) (field_term (numbered tables) (declarations_of b.scope) f st.right)) ↔ RelHolds tables (AgreeImage g f) a b q)
      (sym (field_found tables f ∙ ap (option_map (numbered_field tables)) d.1))
      (agree_true tables f d.0 d.1 r bs st.bij q h.bij a.now b.now typed_a.now_heap typed_b.now_heap
      (field_term (numbered tables) (declarations_of a.scope) f st.left) (field_term (numbered tables) (declarations_of b.scope) f st.right)
      (map_value tables r bs a.scope f d.0 st.left a.now d.1 h.left) (map_value tables r bs b.scope f d.0 st.right b.now d.1 h.right)
      (term a g st.left_entry st.left) (term b g st.right_entry st.right) _ _ v w)

  on_left : (g : Expression) (a b : Moment) (old : Bool) (bs : List Elem) (st : PairStore) (q : Pairs) → IsTypedSide tables a → StandsForBoth tables r bs st a b q
      → HasType tables old a.scope g Rgn → as_rgn (value r bs (term a g st.left_entry st.left)) ≡ as_region (value_at tables a g)
  on_left g a b old bs st q typed_a h typed =
      region_value _ _ (term_value tables a.scope r bs g Rgn old st.left_entry st.left a.entry a.now typed_a.entry_heap typed_a.now_heap h.left_entry h.left typed)

  on_right : (g : Expression) (a b : Moment) (old : Bool) (bs : List Elem) (st : PairStore) (q : Pairs) → IsTypedSide tables b → StandsForBoth tables r bs st a b q
      → HasType tables old b.scope g Rgn → as_rgn (value r bs (term b g st.right_entry st.right)) ≡ as_region (value_at tables b g)
  on_right g a b old bs st q typed_b h typed =
      region_value _ _ (term_value tables b.scope r bs g Rgn old st.right_entry st.right b.entry b.now typed_b.entry_heap typed_b.now_heap h.right_entry h.right typed)

  -- of each member, and of some member
  each_is : (c : Word) (g : Expression) (m : Moment) (P : Obj → Type 0)
      → ((o : Obj) → IsTrue (is_in o (as_region (value_at tables m g))) → o.class ≡ class_number tables c → P o) ↔ ((o : Obj) → IsMemberOf tables c g m o → P o)
  each_is c g m P = (λ each o h. each o h.0 h.1, λ each o h k. each o (h, k))

  some_is : (c : Word) (g : Expression) (m : Moment) (P : Obj → Type 0)
      → (¬ ((o : Obj) → IsTrue (is_in o (as_region (value_at tables m g))) → o.class ≡ class_number tables c → ¬ (P o))) ↔ (¬ ((o : Obj) → IsMemberOf tables c g m o → ¬ (P o)))
  some_is c g m P = not_same (each_is c g m (λ o. ¬ (P o)))

  extension : (f : RelFormula) (a b : Moment) (bs : List Elem) (st : PairStore) (q : Pairs) → StandsForBoth tables r bs st a b q
      → ((more : Pairs) → IsTrueOf f (bound_bijection st) (bij more ∷ bs) a b ↔ RelHolds tables f a b more)
      → IsTrueOf (Eventually f) st bs a b ↔ RelHolds tables (Eventually f) a b q
  extension f a b bs st q h same = (
    λ one none. one (λ v e. none v.pairs (subst (λ p. Extends p v.pairs) (before v.pairs) e.0)
        (record { one_to_one = v.one_to_one; allocated = (allocated v.pairs).0 (e.1).0 }) ((same v.pairs).0 (e.1).1)),
    λ one none. one (λ more extends bijection e. none (record { pairs = more; one_to_one = bijection.one_to_one })
        (subst (λ p. Extends p more) (sym (before more)) extends, ((allocated more).1 bijection.allocated, (same more).1 e))),
  )
    where
      before : (more : Pairs) → as_pairs (value r (bij more ∷ bs) (lifted 1 st.bij)) ≡ q
      before more = ap as_pairs (under_one r bs (bij more) st.bij ∙ h.bij)

      allocated : (more : Pairs) → IsTrueAt r (bij more ∷ bs) (inside (bound 0) (lifted 1 st.left.alloc) (lifted 1 st.right.alloc))
          ↔ ((m n : Obj) → IsTrue (has more m n) → IsTrue (is_in m a.now.alloc) × IsTrue (is_in n b.now.alloc))
      allocated more =
          exact_inside (bound 0) (lifted 1 st.left.alloc) (lifted 1 st.right.alloc) r (bij more ∷ bs) more a.now.alloc b.now.alloc refl
          (under_one r bs (bij more) st.left.alloc ∙ h.left.alloc) (under_one r bs (bij more) st.right.alloc ∙ h.right.alloc)

  pub relation_true : (f : RelFormula) (a b : Moment) (old : Bool) (bs : List Elem) (st : PairStore) (q : Pairs) → IsTypedSide tables a → IsTypedSide tables b
      → StandsForBoth tables r bs st a b q → IsTypedRel tables old a.scope b.scope f → IsTrueOf f st bs a b ↔ RelHolds tables f a b q
  relation_true RelTrue a b old bs st q typed_a typed_b h typed = (λ x. x, λ x. x)
  relation_true RelFalse a b old bs st q typed_a typed_b h typed = (λ x. x, λ x. x)
  relation_true (OnLeft p) a b old bs st q typed_a typed_b h typed =
      formula_true tables r p a.scope old bs st.left_entry st.left a.entry a.now typed_a.entry_heap typed_a.now_heap h.left_entry h.left typed
  relation_true (OnRight p) a b old bs st q typed_a typed_b h typed =
      formula_true tables r p b.scope old bs st.right_entry st.right b.entry b.now typed_b.entry_heap typed_b.now_heap h.right_entry h.right typed
  relation_true (Both p) a b old bs st q typed_a typed_b h typed =
      parts (formula_true tables r p a.scope old bs st.left_entry st.left a.entry a.now typed_a.entry_heap typed_a.now_heap h.left_entry h.left typed.0)
      (formula_true tables r p b.scope old bs st.right_entry st.right b.entry b.now typed_b.entry_heap typed_b.now_heap h.right_entry h.right typed.1)
  relation_true (Agree x y) a b old bs st q typed_a typed_b h typed = agrees x y a b old bs st q typed_a typed_b h typed
  relation_true (AgreeImage g f) a b old bs st q typed_a typed_b h typed = images_agree g f a b old bs st q typed_a typed_b h typed
  relation_true (RelNot f) a b old bs st q typed_a typed_b h typed = not_same (relation_true f a b old bs st q typed_a typed_b h typed)
  relation_true (RelAnd f g) a b old bs st q typed_a typed_b h typed =
      parts (relation_true f a b old bs st q typed_a typed_b h typed.0) (relation_true g a b old bs st q typed_a typed_b h typed.1)
  relation_true (RelOr f g) a b old bs st q typed_a typed_b h typed =
      or_same (relation_true f a b old bs st q typed_a typed_b h typed.0) (relation_true g a b old bs st q typed_a typed_b h typed.1)
  relation_true (RelImplies f g) a b old bs st q typed_a typed_b h typed =
      implies_same (relation_true f a b old bs st q typed_a typed_b h typed.0) (relation_true g a b old bs st q typed_a typed_b h typed.1)
  relation_true (RelEvery Left x c g f) a b old bs st q typed_a typed_b h typed =
      both_ways (each_member_true r bs (term a g st.left_entry st.left) _ (on_left g a b old bs st q typed_a h typed.1) (formula f (bound_left st) (record a { scope = quantified x c ∷ a.scope }) b) (λ o. RelHolds tables f (with_member x c o a) b q)
      (λ o. relation_true f (with_member x c o a) b old (ref (Some o) ∷ bs) (bound_left st) q (with_typed_member tables x c o a (typed.0).0 typed_a) typed_b
      (left_bound tables r bs st a b q h x c o (typed.0).0) typed.2) (class_number tables c)) (each_is c g a (λ o. RelHolds tables f (with_member x c o a) b q))
  relation_true (RelEvery Right x c g f) a b old bs st q typed_a typed_b h typed =
      both_ways (each_member_true r bs (term b g st.right_entry st.right) _ (on_right g a b old bs st q typed_b h typed.1) (formula f (bound_right st) a (record b { scope = quantified x c ∷ b.scope })) (λ o. RelHolds tables f a (with_member x c o b) q)
      (λ o. relation_true f a (with_member x c o b) old (ref (Some o) ∷ bs) (bound_right st) q typed_a (with_typed_member tables x c o b (typed.0).0 typed_b)
      (right_bound tables r bs st a b q h x c o (typed.0).0) typed.2) (class_number tables c)) (each_is c g b (λ o. RelHolds tables f a (with_member x c o b) q))
  relation_true (RelExists Left x c g f) a b old bs st q typed_a typed_b h typed =
      both_ways (some_member_true r bs (term a g st.left_entry st.left) _ (on_left g a b old bs st q typed_a h typed.1) (formula f (bound_left st) (record a { scope = quantified x c ∷ a.scope }) b) (λ o. RelHolds tables f (with_member x c o a) b q)
      (λ o. relation_true f (with_member x c o a) b old (ref (Some o) ∷ bs) (bound_left st) q (with_typed_member tables x c o a (typed.0).0 typed_a) typed_b
      (left_bound tables r bs st a b q h x c o (typed.0).0) typed.2) (class_number tables c)) (some_is c g a (λ o. RelHolds tables f (with_member x c o a) b q))
  relation_true (RelExists Right x c g f) a b old bs st q typed_a typed_b h typed =
      both_ways (some_member_true r bs (term b g st.right_entry st.right) _ (on_right g a b old bs st q typed_b h typed.1) (formula f (bound_right st) a (record b { scope = quantified x c ∷ b.scope })) (λ o. RelHolds tables f a (with_member x c o b) q)
      (λ o. relation_true f a (with_member x c o b) old (ref (Some o) ∷ bs) (bound_right st) q typed_a (with_typed_member tables x c o b (typed.0).0 typed_b)
      (right_bound tables r bs st a b q h x c o (typed.0).0) typed.2) (class_number tables c)) (some_is c g b (λ o. RelHolds tables f a (with_member x c o b) q))
  relation_true (Eventually f) a b old bs st q typed_a typed_b h typed =
      extension f a b bs st q h (λ more. relation_true f a b old (bij more ∷ bs) (bound_bijection st) more typed_a typed_b (bijection_bound tables r bs st a b q h more) typed)

pub exact_relation : (numbers : Numbers) (ls rs : List Decl) (f : RelFormula) (st : PairStore) → IsExactRelation numbers ls rs f st (rel_of numbers ls rs f st)
exact_relation numbers ls rs f st tables a b old is_n is_l is_r typed r bs q formed_a formed_b h =
    subst (λ n. IsTrueAt r bs (rel_of n ls rs f st) ↔ RelHolds tables f a b q) (sym is_n)
    (subst (λ l. IsTrueAt r bs (rel_of (numbered tables) l rs f st) ↔ RelHolds tables f a b q) (sym is_l)
    (subst (λ d. IsTrueAt r bs (rel_of (numbered tables) (declarations_of a.scope) d f st) ↔ RelHolds tables f a b q) (sym is_r)
    (relation_true tables r f a b old bs st q (formed_side tables a formed_a) (formed_side tables b formed_b) h typed)))
