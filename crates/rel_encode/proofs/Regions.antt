-- What the quantifiers over references say: each reference, each member of a region, and some of them.
use Rattle.std.proofs.Common.{◌≡◌, ◌↔◌, ℕ, IsTrue, List, ◌∷◌, Some, None, sym, ap, subst, ◌∙◌}
use Rattle.rel_list.specs.References.{Obj, Ref, Region, is_in}
use Rattle.rel_logic.specs.Syntax.{ref_sort, Trm, bound, Fml, member, imp, every, some}
use Rattle.rel_logic.specs.Truth.{Elem, ref, as_rgn, Valuation, value, IsMember, IsOfClass, IsTrueAt}
use Rattle.rel_encode.specs.Terms.{lifted}
use Rattle.rel_encode.specs.Formulas.{each_member, some_member}
use Rattle.rel_encode.proofs.Small.{under_one}

pub along : {A B : Type 0} → A ≡ B → A ↔ B
along {A} e = subst (λ B. A ↔ B) e (λ a. a, λ a. a)

pub both_ways : {A B C : Type 0} → A ↔ B → B ↔ C → A ↔ C
both_ways f g = (λ a. g.0 (f.0 a), λ c. f.1 (g.1 c))

pub turned : {A B : Type 0} → A ↔ B → B ↔ A
turned f = (f.1, f.0)

pub parts : {A B C D : Type 0} → A ↔ C → B ↔ D → (A × B) ↔ (C × D)
parts f g = (λ h. (f.0 h.0, g.0 h.1), λ h. (f.1 h.0, g.1 h.1))

module _ (r : Valuation) (bs : List Elem) where
  -- of no null
  pub some_reference : (f : Fml) (P : Obj → Type 0) → ¬ (IsTrueAt r (ref None ∷ bs) f) → ((o : Obj) → IsTrueAt r (ref (Some o) ∷ bs) f ↔ P o)
      → IsTrueAt r bs (some ref_sort f) ↔ ¬ ((o : Obj) → ¬ (P o))
  some_reference f P not_null same = (λ one none. one (at none), λ one none. one (λ o p. none (Some o) ((same o).1 p)))
    where
      at : ((o : Obj) → ¬ (P o)) → (v : Ref) → ¬ (IsTrueAt r (ref v ∷ bs) f)
      at none None h = not_null h
      at none (Some o) h = none o ((same o).0 h)

  module _ (t : Trm) (g : Region) (is : as_rgn (value r bs t) ≡ g) where
    inner : (v : Ref) → as_rgn (value r (ref v ∷ bs) (lifted 1 t)) ≡ g
    inner v = ap as_rgn (under_one r bs (ref v) t) ∙ is

    enters : (o : Obj) → IsTrue (is_in o g) → IsMember (Some o) (as_rgn (value r (ref (Some o) ∷ bs) (lifted 1 t)))
    enters o h = subst (IsMember (Some o)) (sym (inner (Some o))) h

    leaves : (o : Obj) → IsMember (Some o) (as_rgn (value r (ref (Some o) ∷ bs) (lifted 1 t))) → IsTrue (is_in o g)
    leaves o h = subst (IsMember (Some o)) (inner (Some o)) h

    module _ (f : Fml) (P : Obj → Type 0) (same : (o : Obj) → IsTrueAt r (ref (Some o) ∷ bs) f ↔ P o) where
      pub each_of_region : IsTrueAt r bs (every ref_sort (imp (member (bound 0) (lifted 1 t)) f)) ↔ ((o : Obj) → IsTrue (is_in o g) → P o)
      each_of_region = (λ each o h. (same o).0 (each (Some o) (enters o h)), λ each v. at each v)
        where
          at : ((o : Obj) → IsTrue (is_in o g) → P o) → (v : Ref) → IsMember v (as_rgn (value r (ref v ∷ bs) (lifted 1 t))) → IsTrueAt r (ref v ∷ bs) f
          at each None h = absurd h
          at each (Some o) h = (same o).1 (each o (leaves o h))

      pub each_member_true : (c : ℕ) → IsTrueAt r bs (each_member c t f) ↔ ((o : Obj) → IsTrue (is_in o g) → o.class ≡ c → P o)
      each_member_true c = (λ each o h k. (same o).0 (each (Some o) (enters o h, k)), λ each v. at each v)
        where
          at : ((o : Obj) → IsTrue (is_in o g) → o.class ≡ c → P o) → (v : Ref)
              → IsMember v (as_rgn (value r (ref v ∷ bs) (lifted 1 t))) × IsOfClass c v → IsTrueAt r (ref v ∷ bs) f
          at each None h = absurd h.0
          at each (Some o) h = (same o).1 (each o (leaves o h.0) h.1)

      pub some_member_true : (c : ℕ) → IsTrueAt r bs (some_member c t f) ↔ ¬ ((o : Obj) → IsTrue (is_in o g) → o.class ≡ c → ¬ (P o))
      some_member_true c = (λ one none. one (λ v. at none v), λ one none. one (λ o h k p. none (Some o) ((enters o h, k), (same o).1 p)))
        where
          at : ((o : Obj) → IsTrue (is_in o g) → o.class ≡ c → ¬ (P o)) → (v : Ref)
              → ¬ ((IsMember v (as_rgn (value r (ref v ∷ bs) (lifted 1 t))) × IsOfClass c v) × IsTrueAt r (ref v ∷ bs) f)
          at none None h = absurd h.0.0
          at none (Some o) h = none o (leaves o h.0.0) h.0.1 ((same o).0 h.1)
