-- What formulas do with regions, member by member.
use Rattle.std.proofs.Common.{◌≡◌, ◌↔◌, ℕ, Bool, true, false, not, ◌&&◌, ◌||◌, ◌==◌, IsTrue, List, [], ◌∷◌, refl, sym, ap, ◌∙◌, ⊎_elim}
use Rattle.std.specs.Ordering.{eq_by_cmp}
use Rattle.std.specs.List.{list_any}
use Rattle.std.specs.FinSet as set
use Rattle.std.proofs.lemmas.Bool.Decides.{Decides-eqb}
use Rattle.rel_list.specs.References.{Obj, obj_cmp, Region, is_in, one}
use Rattle.rel_list.specs.Regions.{nothing, meet, minus, of_class, united, united_over, some, are_matched}
use Rattle.rel_list.proofs.Sets.{obj_total, obj_alone, union_has_both, ties, tied, and_both, or_one, all_any, any_all}

pub nothing_has_none : (o : Obj) → is_in o nothing ≡ false
nothing_has_none = set.contains-empty obj_cmp

pub meet_has : (g h : Region) (o : Obj) → is_in o (meet g h) ≡ (is_in o g && is_in o h)
meet_has = set.contains-intersection obj_total

pub minus_has : (g h : Region) (o : Obj) → is_in o (minus g h) ≡ (is_in o g && not (is_in o h))
minus_has = set.contains-difference obj_total

-- a test keeps the members that pass it
pub retained : (g : Region) (p : Obj → Bool) (o : Obj) → is_in o (set.retain g p) ≡ (is_in o g && p o)
retained g p o = set.contains-retain g p o (λ x e. ap p (sym (obj_alone o x e)))

pub of_class_has : (c : ℕ) (g : Region) (o : Obj) → is_in o (of_class c g) ≡ (is_in o g && (o.class == c))
of_class_has c g o = retained g (λ m. m.class == c) o

pub one_has : (p o : Obj) → is_in o (one p) ≡ eq_by_cmp obj_cmp o p
one_has p o = set.contains-insert obj_total set.empty p o ∙ ap (λ b. eq_by_cmp obj_cmp o p || b) (nothing_has_none o) ∙ or_false _
  where
    or_false : (b : Bool) → (b || false) ≡ b
    or_false true = refl
    or_false false = refl

pub one_has_itself : (o : Obj) → is_in o (one o) ≡ true
one_has_itself o = one_has o o ∙ tied o

pub one_has_no_other : (p o : Obj) → is_in o (one p) ≡ true → o ≡ p
one_has_no_other p o e = ties o p (sym (one_has p o) ∙ e)

-- ---- some member

-- an item that passes
pub any_item : (f : Obj → Bool) (xs : List Obj) → list_any f xs ≡ true → (o : Obj) × (list_any (eq_by_cmp obj_cmp o) xs ≡ true) × (f o ≡ true)
any_item f [] e = cc
any_item f (x ∷ xs) e =
    ⊎_elim (λ h. (x, ap (λ b. b || list_any (eq_by_cmp obj_cmp x) xs) (tied x), h))
    (λ h. let rest = any_item f xs h in (rest.0, or_later (eq_by_cmp obj_cmp rest.0 x) _ rest.1, rest.2)) (or_one _ _ e)
  where
    or_later : (a b : Bool) → b ≡ true → (a || b) ≡ true
    or_later true b e = refl
    or_later false b e = e

pub item_any : (f : Obj → Bool) (xs : List Obj) (o : Obj) → list_any (eq_by_cmp obj_cmp o) xs ≡ true → f o ≡ true → list_any f xs ≡ true
item_any f [] o e h = cc
item_any f (x ∷ xs) o e h =
    ⊎_elim (λ t. ap (λ b. b || list_any f xs) (ap f (sym (ties o x t)) ∙ h)) (λ t. or_later (f x) _ (item_any f xs o t h)) (or_one _ _ e)
  where
    or_later : (a b : Bool) → b ≡ true → (a || b) ≡ true
    or_later true b e = refl
    or_later false b e = e

-- some member of the class passes
pub some_is_any : (c : ℕ) (g : Region) (p : Obj → Bool) → IsTrue (some c g p) ↔ ((o : Obj) × IsTrue (is_in o g) × (o.class ≡ c) × IsTrue (p o))
some_is_any c g p = (
  λ e. let h = any_item _ (set.items g) e in
      let both = and_both _ _ h.2 in
      (h.0, set.contains-items g h.0 ∙ h.1, (Decides-eqb _ _).0 both.0, both.1),
  λ e. item_any _ (set.items g) e.0 (sym (set.contains-items g e.0) ∙ e.1) (ap (λ b. b && p e.0) ((Decides-eqb _ _).1 e.2) ∙ e.3),
)

-- each member of the first region is matched by one of the second
pub matched_is_each : (p : Obj → Obj → Bool) (g h : Region)
    → IsTrue (are_matched p g h) ↔ ((a : Obj) → IsTrue (is_in a g) → (b : Obj) × IsTrue (is_in b h) × IsTrue (p a b))
matched_is_each p g h = (
  λ e a within. let m = any_item (p a) (set.items h) (all_any _ _ e a (sym (set.contains-items g a) ∙ within)) in
      (m.0, set.contains-items h m.0 ∙ m.1, m.2),
  λ e. any_all _ _ (λ a one. let m = e a (set.contains-items g a ∙ one) in
      item_any (p a) (set.items h) m.0 (sym (set.contains-items h m.0) ∙ m.1) m.2),
)

-- ---- a union over the members

united_has : (f : Obj → Region) (xs : List Obj) (o : Obj) → is_in o (united f xs) ≡ list_any (λ m. is_in o (f m)) xs
united_has f [] o = nothing_has_none o
united_has f (x ∷ xs) o = union_has_both (f x) (united f xs) o ∙ ap (λ b. is_in o (f x) || b) (united_has f xs o)

-- what the union has is in what some member gives
pub united_over_has : (f : Obj → Region) (g : Region) (o : Obj)
    → IsTrue (is_in o (united_over f g)) ↔ ((m : Obj) × IsTrue (is_in m g) × IsTrue (is_in o (f m)))
united_over_has f g o = (
  λ e. let h = any_item (λ m. is_in o (f m)) (set.items g) (sym (united_has f (set.items g) o) ∙ e) in
      (h.0, set.contains-items g h.0 ∙ h.1, h.2),
  λ e. united_has f (set.items g) o ∙ item_any (λ m. is_in o (f m)) (set.items g) e.0 (sym (set.contains-items g e.0) ∙ e.1) e.2,
)
