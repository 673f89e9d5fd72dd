-- An expression has a type exactly where it has no flaw and the type that is inferred fits.
use Rattle.std.proofs.Common.{◌≡◌, ◌≢◌, Bool, true, false, not, ◌&&◌, ◌||◌, ◌↔◌, ◌⊎◌, inl, inr, ⊎_elim, List, [], ◌∷◌, Option, Some, None, IsTrue, IsSomeAnd, refl, sym, ap, subst}
use Rattle.std.specs.Prelude.{bytes_eq, is_some}
use Rattle.std.proofs.lemmas.Bool.{or_parts, or_from, and_parts, and_from, not-false, not_from_true}
use Rattle.std.proofs.lemmas.Slice.Eq.{bytes_eq-Decides}
use Rattle.rel_lang.specs.Syntax.{Word, Ty, Int, Rgn, Class, Expression, Var, Num, Null, Empty, Alloc, Add, Sub, Mul, Field, Single, Union, Meet, Minus, Image, Filter, Old}
use Rattle.rel_lang.specs.State.{Tables, ClassField, find_field, Scope, Variable, find_variable}
use Rattle.rel_lang.specs.Typed.{IsAmong, IsReferenceType, HasType}
use Rattle.rel_flaws.specs.Inference.{is_among, same_type, is_class_type, Inferred, NoType, AnyClass, Exactly, fits, is_reference, have_one_type, typed_where, type_of_variable, type_of_field, type_of_image, misplaces_old, is_class, has_unknown, infer}
use Rattle.rel_types.proofs.Equivalences.{iff_back}

-- ---- names

either_law : {A B : Type 0} (x y : Bool) → (A ↔ (x ≡ true)) → (B ↔ (y ≡ true)) → (A ⊎ B) ↔ ((x || y) ≡ true)
either_law true y p q = (λ h. refl, λ h. inl (p.1 refl))
either_law false y p q = (⊎_elim (λ a. absurd (no (p.0 a))) q.0, λ h. inr (q.1 h))
  where
    no : ◌≡◌ {A = Bool} false true → ⊥
    no e = absurd cc

pub among_law : (x : Word) (ys : List Word) → IsAmong x ys ↔ (is_among x ys ≡ true)
among_law x [] = (λ h. absurd h, λ h. absurd cc)
among_law x (y ∷ ys) = either_law (bytes_eq x y) (is_among x ys) (iff_back (bytes_eq-Decides x y)) (among_law x ys)

-- ---- types

pub type_law : (t u : Ty) → (same_type t u ≡ true) ↔ (t ≡ u)
type_law Int Int = (λ h. refl, λ h. refl)
type_law Rgn Rgn = (λ h. refl, λ h. refl)
type_law (Class c) (Class d) = (λ h. ap Class ((bytes_eq-Decides c d).0 h), λ h. (bytes_eq-Decides c d).1 (cc))
type_law Int Rgn = (λ h. absurd cc, λ h. absurd cc)
type_law Int (Class d) = (λ h. absurd cc, λ h. absurd cc)
type_law Rgn Int = (λ h. absurd cc, λ h. absurd cc)
type_law Rgn (Class d) = (λ h. absurd cc, λ h. absurd cc)
type_law (Class c) Int = (λ h. absurd cc, λ h. absurd cc)
type_law (Class c) Rgn = (λ h. absurd cc, λ h. absurd cc)

class_type_law : (t : Ty) → IsReferenceType t ↔ (is_class_type t ≡ true)
class_type_law Int = (λ h. absurd h, λ h. absurd cc)
class_type_law Rgn = (λ h. absurd h, λ h. absurd cc)
class_type_law (Class c) = (λ h. refl, λ h. tt)

-- a reference has some class
pub reference_law : (i : Inferred) → ((c : Word) × (fits i (Class c) ≡ true)) ↔ (is_reference i ≡ true)
reference_law NoType = (λ h. absurd (no h.1), λ h. absurd (no h))
  where
    no : ◌≡◌ {A = Bool} false true → ⊥
    no e = absurd cc
reference_law AnyClass = (λ h. refl, λ h. ([], refl))
reference_law (Exactly Int) = (λ h. h.1, λ h. absurd cc)
reference_law (Exactly Rgn) = (λ h. h.1, λ h. absurd cc)
reference_law (Exactly (Class d)) = (λ h. refl, λ h. (d, (bytes_eq-Decides d d).1 refl))

-- two that can be compared have a type in common
pub one_type_law : (i j : Inferred) → ((t : Ty) × (fits i t ≡ true) × (fits j t ≡ true)) ↔ (have_one_type i j ≡ true)
one_type_law NoType j = (λ h. h.1, λ h. absurd cc)
one_type_law AnyClass j = (λ h. to h.0 h.1 h.2, λ h. let c = (reference_law j).1 h in (Class c.0, refl, c.1))
  where
    to : (t : Ty) → is_class_type t ≡ true → fits j t ≡ true → is_reference j ≡ true
    to Int e h = absurd cc
    to Rgn e h = absurd cc
    to (Class c) e h = (reference_law j).0 (c, h)
one_type_law (Exactly u) j = (λ h. subst (λ t. fits j t ≡ true) (sym ((type_law u h.0).0 h.1)) h.2, λ h. (u, (type_law u u).1 refl, h))

pub where_law : (b : Bool) (r t : Ty) → (fits (typed_where b r) t ≡ true) ↔ ((b ≡ true) × (t ≡ r))
where_law true r t = (λ h. (refl, sym ((type_law r t).0 h)), λ h. (type_law r t).1 (sym h.1))
where_law false r t = (λ h. absurd cc, λ h. absurd cc)

-- ---- expressions

-- no unknown name, no misplaced `old`, and a type that fits
abbrev pub AreFine : Bool → Bool → Bool → Type 0
AreFine unknown misplaced fitting = (unknown ≡ false) × (misplaced ≡ false) × (fitting ≡ true)

one_law : {A : Type 0} (u m f : Bool) (r t : Ty) → (A ↔ AreFine u m f) → (A × (t ≡ r)) ↔ AreFine u m (fits (typed_where f r) t)
one_law u m f r t p = (
  λ h. let x = p.0 h.0 in (x.0, x.1, (where_law f r t).1 (x.2, h.1)),
  λ h. let e = (where_law f r t).0 h.2 in (p.1 (h.0, h.1, e.0), e.1),
)

two_law : {A B : Type 0} (u v m n f g : Bool) (r t : Ty) → (A ↔ AreFine u m f) → (B ↔ AreFine v n g) → (A × B × (t ≡ r)) ↔ AreFine (u || v) (m || n) (fits (typed_where (f && g) r) t)
two_law u v m n f g r t p q = (
  λ h.
      let x = p.0 h.0 in
      let y = q.0 h.1 in
      (or_from u v x.0 y.0, or_from m n x.1 y.1, (where_law (f && g) r t).1 (and_from f g x.2 y.2, h.2)),
  λ h.
      let a = or_parts u v h.0 in
      let b = or_parts m n h.1 in
      let e = (where_law (f && g) r t).0 h.2 in
      let d = and_parts f g e.0 in
      (p.1 (a.0, b.0, d.0), q.1 (a.1, b.1, d.1), e.1),
)

variable_law : (o : Option Variable) (t : Ty) → IsSomeAnd o (λ v. v.ty ≡ t) ↔ AreFine (not (is_some o)) false (fits (type_of_variable o) t)
variable_law None t = (λ h. absurd h, λ h. absurd cc)
variable_law (Some v) t = (λ h. (refl, refl, (type_law v.ty t).1 h), λ h. (type_law v.ty t).0 h.2)

field_law : (A : Ty → Type 0) (o : Option ClassField) (u m : Bool) (i : Inferred) (t : Ty) → ((s : Ty) → A s ↔ AreFine u m (fits i s))
    → IsSomeAnd o (λ d. A (Class d.class) × (t ≡ d.ty)) ↔ AreFine (u || not (is_some o)) m (fits (type_of_field o i) t)
field_law A None u m i t p = (λ h. absurd h, λ h. absurd cc)
field_law A (Some d) u m i t p = (
  λ h.
      let x = (one_law u m (fits i (Class d.class)) d.ty t (p (Class d.class))).0 h in
      (or_from u false x.0 refl, x.1, x.2),
  λ h. (one_law u m (fits i (Class d.class)) d.ty t (p (Class d.class))).1 ((or_parts u false h.0).0, h.1, h.2),
)

image_law : (A : Type 0) (o : Option ClassField) (u m : Bool) (i : Inferred) (t : Ty) → (A ↔ AreFine u m (fits i Rgn))
    → IsSomeAnd o (λ d. A × (d.ty ≢ Int) × (t ≡ Rgn)) ↔ AreFine (u || not (is_some o)) m (fits (type_of_image o i) t)
image_law A None u m i t p = (λ h. absurd h, λ h. absurd cc)
image_law A (Some d) u m i t p = (to, from)
  where
    isnt : (b : Bool) → same_type d.ty Int ≡ b → (d.ty ≢ Int) → not b ≡ true
    isnt true e h = absurd (h ((type_law d.ty Int).0 e))
    isnt false e h = refl

    is : (b : Bool) → same_type d.ty Int ≡ b → not b ≡ true → d.ty ≢ Int
    is true e h k = absurd cc
    is false e h k = let same = (type_law d.ty Int).1 k in absurd cc

    to : (A × (d.ty ≢ Int) × (t ≡ Rgn)) → AreFine (u || false) m (fits (typed_where (fits i Rgn && not (same_type d.ty Int)) Rgn) t)
    to h =
        let x = p.0 h.0 in
        (or_from u false x.0 refl, x.1, (where_law _ Rgn t).1 (and_from (fits i Rgn) (not (same_type d.ty Int)) x.2 (isnt (same_type d.ty Int) refl h.1), h.2))

    from : AreFine (u || false) m (fits (typed_where (fits i Rgn && not (same_type d.ty Int)) Rgn) t) → (A × (d.ty ≢ Int) × (t ≡ Rgn))
    from h =
        let e = (where_law (fits i Rgn && not (same_type d.ty Int)) Rgn t).0 h.2 in
        let f = and_parts (fits i Rgn) (not (same_type d.ty Int)) e.0 in
        (p.1 ((or_parts u false h.0).0, h.1, f.0), is (same_type d.ty Int) refl f.1, e.1)

single_law : (A : Ty → Type 0) (u m : Bool) (i : Inferred) (t : Ty) → ((s : Ty) → A s ↔ AreFine u m (fits i s))
    → ((c : Word) × A (Class c) × (t ≡ Rgn)) ↔ AreFine u m (fits (typed_where (is_reference i) Rgn) t)
single_law A u m i t p = (
  λ h.
      let x = (p (Class h.0)).0 h.1 in
      (x.0, x.1, (where_law (is_reference i) Rgn t).1 ((reference_law i).0 (h.0, x.2), h.2)),
  λ h.
      let e = (where_law (is_reference i) Rgn t).0 h.2 in
      let c = (reference_law i).1 e.0 in
      (c.0, (p (Class c.0)).1 (h.0, h.1, c.1), e.1),
)

filter_law : {A C : Type 0} (u k m f : Bool) (t : Ty) → (A ↔ AreFine u m f) → (C ↔ (k ≡ true)) → (A × C × (t ≡ Rgn)) ↔ AreFine (u || not k) m (fits (typed_where f Rgn) t)
filter_law u k m f t p q = (
  λ h.
      let x = p.0 h.0 in
      (or_from u (not k) x.0 (not_from_true k (q.0 h.1)), x.1, (where_law f Rgn t).1 (x.2, h.2)),
  λ h.
      let a = or_parts u (not k) h.0 in
      let e = (where_law f Rgn t).0 h.2 in
      (p.1 (a.0, h.1, e.0), q.1 (not-false k a.1), e.1),
)

plain_law : (r t : Ty) → (t ≡ r) ↔ AreFine false false (same_type r t)
plain_law r t = (λ h. (refl, refl, (type_law r t).1 (sym h)), λ h. sym ((type_law r t).0 h.2))

old_law : {A : Type 0} (old u m f : Bool) → (A ↔ AreFine u m f) → (IsTrue old × A) ↔ AreFine u (not old || m) f
old_law old u m f p = (
  λ h. let x = p.0 h.1 in (x.0, or_from (not old) m (not_from_true old h.0) x.1, x.2),
  λ h. let a = or_parts (not old) m h.1 in (not-false old a.0, p.1 (h.0, a.1, h.2)),
)

pub expression_law : (tables : Tables) (old : Bool) (sc : Scope) (e : Expression) (t : Ty)
    → HasType tables old sc e t ↔ ((has_unknown tables sc e ≡ false) × (misplaces_old old e ≡ false) × (fits (infer tables sc e) t ≡ true))
expression_law tables old sc (Var x) t = variable_law (find_variable x sc) t
expression_law tables old sc (Num n) t = plain_law Int t
expression_law tables old sc Null t = (λ h. (refl, refl, (class_type_law t).0 h), λ h. (class_type_law t).1 h.2)
expression_law tables old sc Empty t = plain_law Rgn t
expression_law tables old sc Alloc t = plain_law Rgn t
expression_law tables old sc (Add a b) t = two_law _ _ _ _ _ _ Int t (expression_law tables old sc a Int) (expression_law tables old sc b Int)
expression_law tables old sc (Sub a b) t = two_law _ _ _ _ _ _ Int t (expression_law tables old sc a Int) (expression_law tables old sc b Int)
expression_law tables old sc (Mul n a) t = one_law _ _ _ Int t (expression_law tables old sc a Int)
expression_law tables old sc (Field a f) t = field_law (HasType tables old sc a) (find_field tables f) _ _ (infer tables sc a) t (expression_law tables old sc a)
expression_law tables old sc (Single a) t = single_law (HasType tables old sc a) _ _ (infer tables sc a) t (expression_law tables old sc a)
expression_law tables old sc (Union a b) t = two_law _ _ _ _ _ _ Rgn t (expression_law tables old sc a Rgn) (expression_law tables old sc b Rgn)
expression_law tables old sc (Meet a b) t = two_law _ _ _ _ _ _ Rgn t (expression_law tables old sc a Rgn) (expression_law tables old sc b Rgn)
expression_law tables old sc (Minus a b) t = two_law _ _ _ _ _ _ Rgn t (expression_law tables old sc a Rgn) (expression_law tables old sc b Rgn)
expression_law tables old sc (Image a f) t = image_law (HasType tables old sc a Rgn) (find_field tables f) _ _ (infer tables sc a) t (expression_law tables old sc a Rgn)
expression_law tables old sc (Filter a c) t = filter_law _ (is_class tables c) _ _ t (expression_law tables old sc a Rgn) (among_law c tables.classes)
expression_law tables old sc (Old a) t = old_law old _ _ _ (expression_law tables false sc a t)
