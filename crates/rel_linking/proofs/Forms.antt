-- A typed bundle is straight exactly where it consists of two units and a judgement of which all that is asked holds.
use Rattle.std.proofs.Common.{◌≡◌, ◌≢◌, inl, Bool, true, false, if◌then◌else◌, IsSomeAnd, List, [], ◌∷◌, map, Option, Some, None, bytes_eq, option_and_then, option_map, refl, sym, ap, subst, ◌∙◌}
use Rattle.std.proofs.lemmas.Slice.Eq.{bytes_eq-Decides}
use Rattle.rel_lang.specs.Syntax.{Word, Proc, UnitItem, Judgement, OfUnit, OfJudgement, Bundle}
use Rattle.rel_lang.specs.State.{find_named}
use Rattle.rel_lang.specs.Lookup.{find_proc, Subject, subject_of}
use Rattle.rel_lang.specs.Typed.{IsTyped, IsTypedJudgement}
use Rattle.rel_lang.specs.declared.bundle.UnitItem as U
use Rattle.rel_lang.specs.declared.bundle.Proc as Q
use Rattle.rel_lang.specs.declared.bundle.Judgement as J
use Rattle.rel_lang.specs.declared.bundle.Item as I
use Rattle.rel_lang.specs.declared.bundle.Item.TheVariants as IV
use Rattle.rel_lang.specs.View.{proc_of, unit_of, judgement_of, item_of}
use Rattle.rel_linking.specs.Form as F
use Rattle.rel_linking.specs.Form.{HasParts, IsStraight}
use Rattle.rel_linking.specs.Parts.{Held, IsJudged, AreJudged, parts_of_held}
use Rattle.rel_linking.proofs.FormsScope.{some_map}
use Rattle.rel_linking.proofs.FormsUnit.{plain_unit, is_plain}

-- ---- the subjects of a typed judgement

differs : (x y : Word) → x ≢ y → bytes_eq x y ≡ false
differs x y apart = one (bytes_eq x y) (λ e. apart ((bytes_eq-Decides x y).0 e))
  where
    one : (b : Bool) → (b ≡ true → ⊥) → b ≡ false
    one true h = absurd (h refl)
    one false h = refl

abbrev in_unit : UnitItem → Proc → Subject
in_unit u p = record { unit = u; proc = p }

abbrev found_in : Word → UnitItem → Option Subject
found_in x u = option_map (in_unit u) (find_proc x u.procs)

abbrev three : UnitItem → UnitItem → Judgement → Bundle
three l r j = record { items = OfUnit l ∷ OfUnit r ∷ OfJudgement j ∷ [] }

-- what is found in a unit of one procedure is this one
proc_named : (u : UnitItem) (p : Proc) → u.procs ≡ p ∷ [] → (x : Word) (P : Subject → Type 0) → IsSomeAnd (found_in x u) P → x ≡ p.name
proc_named u p e x P s =
    one (bytes_eq x p.name) (λ t. (bytes_eq-Decides x p.name).0 t) (subst (λ ps. IsSomeAnd (option_map (in_unit u) (find_proc x ps)) P) e s)
  where
    one : (b : Bool) → (b ≡ true → x ≡ p.name) → IsSomeAnd (option_map (in_unit u) (if b then Some p else None)) P → x ≡ p.name
    one true f t = f refl
    one false f t = absurd t

left_at : (l r : UnitItem) (j : Judgement) → j.left.0 ≡ l.name → subject_of (three l r j) j.left ≡ found_in j.left.1 l
left_at l r j e =
    ap (λ b. option_and_then (found_in j.left.1) (if b then Some l else find_named (λ u. u.name) j.left.0 (r ∷ []))) ((bytes_eq-Decides j.left.0 l.name).1 e)

right_at : (l r : UnitItem) (j : Judgement) → j.right.0 ≡ r.name → l.name ≢ r.name → subject_of (three l r j) j.right ≡ found_in j.right.1 r
right_at l r j e apart =
    ap (λ b. option_and_then (found_in j.right.1) (if b then Some l else find_named (λ u. u.name) j.right.0 (r ∷ []))) (differs j.right.0 l.name (λ d. apart (sym d ∙ e)))
    ∙ ap (λ b. option_and_then (found_in j.right.1) (if b then Some r else None)) ((bytes_eq-Decides j.right.0 r.name).1 e)

some_of : {X : Type 0} (o : Option X) (P : X → Type 0) (R : Type 0) → ((x : X) → P x → R) → IsSomeAnd o P → R
some_of None P R f s = absurd s
some_of (Some x) P R f s = f x s

module _ (l r : UnitItem) (j : Judgement) (p q : Proc) (typed : IsTyped (three l r j)) (left : l.procs ≡ p ∷ []) (right : r.procs ≡ q ∷ []) where
  abbrev AreSubjects : Subject → Subject → Type 0
  AreSubjects x y = IsTypedJudgement (three l r j) j x y

  abbrev HasRight : Subject → Type 0
  HasRight x = IsSomeAnd (subject_of (three l r j) j.right) (AreSubjects x)

  left_named : j.left.0 ≡ l.name → j.left ≡ (l.name, p.name)
  left_named e =
      let f = proc_named l p left j.left.1 HasRight (subst (λ o. IsSomeAnd o HasRight) (left_at l r j e) typed.items.1.1.0) in
      λ i. (e i, f i)

  right_named : j.right.0 ≡ r.name → j.right ≡ (r.name, q.name)
  right_named e =
      let there = some_of (subject_of (three l r j) j.left) HasRight (IsSomeAnd (subject_of (three l r j) j.right) (λ y. Unit {0}))
      (λ x s. some_map (subject_of (three l r j) j.right) (AreSubjects x) (λ y. Unit {0}) (λ y h. tt) s) typed.items.1.1.0 in
      let f = proc_named r q right j.right.1 (λ y. Unit {0}) (subst (λ o. IsSomeAnd o (λ y. Unit {0})) (right_at l r j e (λ d. typed.names.0 (inl d))) there) in
      λ i. (e i, f i)

-- ---- the parts

module _ (h : Held) where
  abbrev all : Bundle
  all = three (unit_of h.left) (unit_of h.right) (judgement_of h.judgement)

  parts_there : IsTyped all → h.left.procs ≡ h.left_proc ∷ [] → h.right.procs ≡ h.right_proc ∷ [] → IsJudged h → HasParts all (parts_of_held h)
  parts_there t left right k =
      let l = unit_of h.left in
      let r = unit_of h.right in
      let j = judgement_of h.judgement in
      let p = proc_of h.left_proc in
      let q = proc_of h.right_proc in
      record {
        items = refl;
        left = plain_unit h.left h.left_proc left k.left;
        right = plain_unit h.right h.right_proc right k.right;
        left_named = left_named l r j p q t (ap (map proc_of) left) (ap (map proc_of) right) k.about.left;
        right_named = right_named l r j p q t (ap (map proc_of) left) (ap (map proc_of) right) k.about.right;
        needs = k.needs;
        gives = k.gives;
        align = k.align;
      }

  judged_where : HasParts all (parts_of_held h) → IsJudged h
  judged_where t = record {
    left = is_plain h.left h.left_proc t.left;
    right = is_plain h.right h.right_proc t.right;
    about = record { left = ap (λ w. w.0) t.left_named; right = ap (λ w. w.0) t.right_named };
    needs = t.needs;
    gives = t.gives;
    align = t.align;
  }

-- ---- bundles

abbrev pub items_of : List I.Item → Bundle
items_of xs = record { items = map item_of xs }

abbrev pub made : U.UnitItem → U.UnitItem → J.Judgement → List I.Item
made l r j = IV.UnitItem l ∷ IV.UnitItem r ∷ IV.Judge j ∷ []

pub straight : (xs : List I.Item) (l r : U.UnitItem) (j : J.Judgement) → xs ≡ made l r j → IsTyped (items_of xs) → (k : AreJudged l r j)
    → IsStraight (items_of xs) (parts_of_held (record { left = l; left_proc = k.left_proc; right = r; right_proc = k.right_proc; judgement = j }))
straight xs l r j e t k =
    let h : Held = record { left = l; left_proc = k.left_proc; right = r; right_proc = k.right_proc; judgement = j } in
    record {
      typed = t;
      parts = subst (λ ys. HasParts (items_of ys) (parts_of_held h)) (sym e) (parts_there h (subst (λ ys. IsTyped (items_of ys)) e t) k.left k.right k.judged);
    }

from_unit : (x : I.Item) (u : UnitItem) → item_of x ≡ OfUnit u → (v : U.UnitItem) × (x ≡ IV.UnitItem v)
from_unit (IV.UnitItem v) u e = (v, refl)
from_unit (IV.Class v) u e = cc
from_unit (IV.Interface v) u e = cc
from_unit (IV.Module v) u e = cc
from_unit (IV.Client v) u e = cc
from_unit (IV.Judge v) u e = cc
from_unit (IV.Pair v) u e = cc

from_judge : (x : I.Item) (j : Judgement) → item_of x ≡ OfJudgement j → (v : J.Judgement) × (x ≡ IV.Judge v)
from_judge (IV.Judge v) j e = (v, refl)
from_judge (IV.UnitItem v) j e = cc
from_judge (IV.Class v) j e = cc
from_judge (IV.Interface v) j e = cc
from_judge (IV.Module v) j e = cc
from_judge (IV.Client v) j e = cc
from_judge (IV.Pair v) j e = cc

from_proc : (ps : List Q.Proc) (q : Proc) → map proc_of ps ≡ q ∷ [] → (p : Q.Proc) × (ps ≡ p ∷ []) × (proc_of p ≡ q)
from_proc [] q e = cc
from_proc (p ∷ []) q e = (p, refl, cc)
from_proc (p ∷ r ∷ ps) q e = cc

-- a straight bundle's items
pub made_of : (xs : List I.Item) (k : F.Parts) → map item_of xs ≡ OfUnit k.left ∷ OfUnit k.right ∷ OfJudgement k.judgement ∷ []
    → (l : U.UnitItem) × (r : U.UnitItem) × (j : J.Judgement) × (xs ≡ made l r j)
made_of [] k e = cc
made_of (x ∷ []) k e = cc
made_of (x ∷ y ∷ []) k e = cc
made_of (x ∷ y ∷ z ∷ []) k e =
    let a = from_unit x k.left cc in
    let b = from_unit y k.right cc in
    let c = from_judge z k.judgement cc in
    (a.0, b.0, c.0, λ i. a.1 i ∷ b.1 i ∷ c.1 i ∷ [])
made_of (x ∷ y ∷ z ∷ w ∷ xs) k e = cc

judged_made : (l r : U.UnitItem) (j : J.Judgement) (k : F.Parts) → HasParts (items_of (made l r j)) k → AreJudged l r j
judged_made l r j k t =
    let e : OfUnit (unit_of l) ∷ OfUnit (unit_of r) ∷ OfJudgement (judgement_of j) ∷ [] ≡ OfUnit k.left ∷ OfUnit k.right ∷ OfJudgement k.judgement ∷ [] = t.items in
    let el : unit_of l ≡ k.left = cc in
    let er : unit_of r ≡ k.right = cc in
    let ej : judgement_of j ≡ k.judgement = cc in
    let p = from_proc l.procs k.left_proc (ap (λ u. u.procs) el ∙ t.left.procs) in
    let q = from_proc r.procs k.right_proc (ap (λ u. u.procs) er ∙ t.right.procs) in
    let h : Held = record { left = l; left_proc = p.0; right = r; right_proc = q.0; judgement = j } in
    let same : k ≡ parts_of_held h =
    λ i. record { left = sym el i; left_proc = sym p.2 i; right = sym er i; right_proc = sym q.2 i; judgement = sym ej i } in
    record { left_proc = p.0; right_proc = q.0; left = p.1; right = q.1; judged = judged_where h (subst (HasParts (items_of (made l r j))) same t) }

pub judged : (xs : List I.Item) (l r : U.UnitItem) (j : J.Judgement) (k : F.Parts) → xs ≡ made l r j → IsStraight (items_of xs) k → AreJudged l r j
judged xs l r j k e t = judged_made l r j k (subst (λ ys. HasParts (items_of ys) k) e t.parts)
