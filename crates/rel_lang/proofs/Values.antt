-- In a well-formed state the value of a typed expression fits its type.
use Rattle.std.proofs.Common.{◌≡◌, Bool, true, false, ◌&&◌, ◌==◌, if◌then◌else◌, IsTrue, IfSome, IsSomeAnd, MatchBool, List, [], ◌∷◌, Option, Some, None, refl, sym, ap, subst, ◌∙◌, ⊎_elim}
use Rattle.std.specs.Prelude.{bytes_eq, ℤ}
use Rattle.std.specs.List.{AllByRecursion}
use Rattle.std.specs.FinSet as set
use Rattle.rel_list.specs.References.{Obj, Region, is_in, just}
use Rattle.rel_list.specs.Regions.{nothing, is_within}
use Rattle.rel_list.proofs.Sets.{obj_total, union_has_both, and_both, or_one}
use Rattle.rel_list.proofs.Regions.{nothing_has_none, meet_has, minus_has, of_class_has, one_has_no_other, united_over_has}
use Rattle.rel_lang.specs.Syntax.{Word, Ty, Int, Rgn, Class, Expression, Var, Num, Null, Empty, Alloc, Add, Sub, Mul, Field, Single, Union, Meet, Minus, Image, Filter, Old}
use Rattle.rel_lang.specs.State.{find_named, ClassField, Tables, class_number, find_field, is_of_field, Value, Number, Reference, Objects, as_reference, as_region, objects_in, default, fits_type, State, Scope, find_variable, value_in, read_variable, read_field, default_of, LocationFits, IsWellFormed}
use Rattle.rel_lang.specs.Typed.{HasType}
use Rattle.rel_lang.specs.Value.{value_of}
use Rattle.rel_lang.specs.Laws.{TypedValuesFit}

-- ---- lists by name

-- what holds of all holds of the one that is found
pub found : {A : Type 0} (P : A → Type 0) (name : A → Word) (x : Word) (xs : List A) → AllByRecursion P xs → IfSome (find_named name x xs) P
found P name x [] all = tt
found P name x (a ∷ rest) all =
    elim (bytes_eq x (name a)) as (λ b. IfSome (if b then Some a else find_named name x rest) P) [ true ↦ all.0 | false ↦ found P name x rest all.1 ]

pub both_some : {A : Type 0} {P Q : A → Type 0} (o : Option A) → IfSome o P → IsSomeAnd o Q → (a : A) × (o ≡ Some a) × P a × Q a
both_some None p q = absurd q
both_some (Some a) p q = (a, refl, p, q)

-- ---- regions within others

abbrev pub Within : Region → Region → Type 0
Within g h = (o : Obj) → IsTrue (is_in o g) → IsTrue (is_in o h)

pub is_within_each : (g h : Region) → IsTrue (is_within g h) → Within g h
is_within_each g h = set.is_subset-contains obj_total g h

pub each_is_within : (g h : Region) → Within g h → IsTrue (is_within g h)
each_is_within g h = set.contains-is_subset obj_total g h

no_member : {A : Type 0} (o : Obj) → IsTrue (is_in o nothing) → A
no_member o e = absurd (true_false (sym e ∙ nothing_has_none o))
  where
    true_false : true ≡ false → ⊥
    true_false e = cc

-- ---- values that fit

module _ (tables : Tables) where
  abbrev pub Fits : Region → Ty → Value → Type 0
  Fits alloc t v = IsTrue (fits_type tables t alloc v)

  pub default_fits : (t : Ty) (alloc : Region) → Fits alloc t (default t)
  default_fits Int alloc = refl
  default_fits Rgn alloc = each_is_within nothing alloc (λ o. no_member o)
  default_fits (Class c) alloc = refl

  -- with more objects
  pub fits_more : (t : Ty) (v : Value) (g h : Region) → Within g h → Fits g t v → Fits h t v
  fits_more Int (Number n) g h more fits = refl
  fits_more Int (Reference r) g h more fits = cc
  fits_more Int (Objects k) g h more fits = cc
  fits_more Rgn (Number n) g h more fits = cc
  fits_more Rgn (Reference r) g h more fits = cc
  fits_more Rgn (Objects k) g h more fits = each_is_within k h (λ o e. more o (is_within_each k g fits o e))
  fits_more (Class c) (Number n) g h more fits = cc
  fits_more (Class c) (Reference None) g h more fits = refl
  fits_more (Class c) (Reference (Some o)) g h more fits =
      let both = and_both _ _ fits in ap (λ b. b && (o.class == class_number tables c)) (more o both.0) ∙ both.1
  fits_more (Class c) (Objects k) g h more fits = cc

  -- the objects of a value that fits are allocated
  pub objects_fit : (t : Ty) (v : Value) (alloc : Region) → Fits alloc t v → Within (objects_in v) alloc
  objects_fit Int (Number n) alloc fits o e = no_member o e
  objects_fit Int (Reference r) alloc fits o e = cc
  objects_fit Int (Objects k) alloc fits o e = cc
  objects_fit Rgn (Number n) alloc fits o e = cc
  objects_fit Rgn (Reference r) alloc fits o e = cc
  objects_fit Rgn (Objects k) alloc fits o e = is_within_each k alloc fits o e
  objects_fit (Class c) (Number n) alloc fits o e = cc
  objects_fit (Class c) (Reference None) alloc fits o e = no_member o e
  objects_fit (Class c) (Reference (Some p)) alloc fits o e = subst (λ q. IsTrue (is_in q alloc)) (sym (one_has_no_other p o e)) (and_both _ _ fits).0
  objects_fit (Class c) (Objects k) alloc fits o e = cc

  region_within : (v : Value) (alloc : Region) → Fits alloc Rgn v → Within (as_region v) alloc
  region_within (Number n) alloc fits = cc
  region_within (Reference r) alloc fits = cc
  region_within (Objects k) alloc fits = is_within_each k alloc fits

  default_has_none : (t : Ty) (o : Obj) → IsTrue (is_in o (objects_in (default t))) → ⊥
  default_has_none Int o e = no_member o e
  default_has_none Rgn o e = no_member o e
  default_has_none (Class c) o e = no_member o e

  -- the objects that a location names are allocated
  location_within : (d : Option ClassField) (alloc : Region) (v : Value) (m : Obj) → LocationFits tables d alloc v m → Within (objects_in v) alloc
  location_within None alloc v m fits o e = no_member o (subst (λ w. IsTrue (is_in o (objects_in w))) fits e)
  location_within (Some d) alloc v m fits o e =
      elim (is_in m alloc && is_of_field tables (Some d) m) as (λ b. MatchBool b (Fits alloc d.ty v) (v ≡ default d.ty) → IsTrue (is_in o alloc)) [
        | true ↦ λ h. objects_fit d.ty v alloc h o e
        | false ↦ λ h. absurd (default_has_none d.ty o (subst (λ w. IsTrue (is_in o (objects_in w))) h e))
      ] fits

  -- the field of an allocated object of its class fits the field's type
  location_fits : (d : ClassField) (alloc : Region) (v : Value) (m : Obj) → LocationFits tables (Some d) alloc v m
      → IsTrue (is_in m alloc && (m.class == class_number tables d.class)) → Fits alloc d.ty v
  location_fits d alloc v m fits e = subst (λ b. MatchBool b (Fits alloc d.ty v) (v ≡ default d.ty)) e fits

  pub field_fits : (f : Word) (d : ClassField) (r : Value) (s : State) → find_field tables f ≡ Some d → ((o : Obj) → LocationFits tables (find_field tables f) s.alloc (s.heap o f) o)
      → Fits s.alloc (Class d.class) r → Fits s.alloc d.ty (read_field tables (as_reference r) f s)
  field_fits f d (Number n) s is formed fits = cc
  field_fits f d (Reference None) s is formed fits = subst (λ w. Fits s.alloc d.ty (default_of w)) (sym is) (default_fits d.ty s.alloc)
  field_fits f d (Reference (Some o)) s is formed fits = location_fits d s.alloc (s.heap o f) o (subst (λ w. LocationFits tables w s.alloc (s.heap o f) o) is (formed o)) fits
  field_fits f d (Objects k) s is formed fits = cc

  module _ (sc : Scope) where
    pub variable_fits : (x : Word) (t : Ty) (s : State) → IsWellFormed tables sc s → IsSomeAnd (find_variable x sc) (λ v. v.ty ≡ t) → Fits s.alloc t (read_variable (find_variable x sc) s)
    variable_fits x t s formed typed =
        let h = both_some {P = λ v. Fits s.alloc v.ty (value_in s v)} (find_variable x sc) (found _ _ x sc formed.variables) typed in
        subst (λ o. Fits s.alloc t (read_variable o s)) (sym h.1) (subst (λ u. Fits s.alloc u (value_in s h.0)) h.3 h.2)

    -- what fits at one type fits at an equal one
    at_type : (t u : Ty) (v : Value) (alloc : Region) → t ≡ u → Fits alloc u v → Fits alloc t v
    at_type t u v alloc e fits = subst (λ w. Fits alloc w v) (sym e) fits

    region_fits : (k alloc : Region) (t : Ty) → t ≡ Rgn → Within k alloc → Fits alloc t (Objects k)
    region_fits k alloc t e within = at_type t Rgn (Objects k) alloc e (each_is_within k alloc within)

    number_fits : (n : ℤ) (alloc : Region) (t : Ty) → t ≡ Int → Fits alloc t (Number n)
    number_fits n alloc t e = at_type t Int (Number n) alloc e refl

    null_fits : (t : Ty) (alloc : Region) → HasType tables true sc Null t → Fits alloc t (Reference None)
    null_fits Int alloc h = absurd h
    null_fits Rgn alloc h = absurd h
    null_fits (Class c) alloc h = refl

    single_within : (v : Value) (c : Word) (alloc : Region) → Fits alloc (Class c) v → Within (just (as_reference v)) alloc
    single_within (Number n) c alloc fits = cc
    single_within (Reference r) c alloc fits = objects_fit (Class c) (Reference r) alloc fits
    single_within (Objects k) c alloc fits = cc

    if_some : {A : Type 0} (o : Option A) → IfSome o (λ a. Unit {0})
    if_some None = tt
    if_some (Some a) = tt

    field_at : (a : Expression) (f : Word) (t : Ty) (old : Bool) (entry s : State) → IsWellFormed tables sc s
        → ((u : Ty) → HasType tables old sc a u → Fits s.alloc u (value_of tables sc a entry s))
        → HasType tables old sc (Field a f) t → Fits s.alloc t (value_of tables sc (Field a f) entry s)
    field_at a f t old entry s formed part typed =
        let h = both_some {P = λ d. Unit {0}} (find_field tables f) (if_some _) typed in
        at_type t (h.0).ty _ s.alloc (h.3).1 (field_fits f h.0 _ s h.1 (λ o. formed.locations o f) (part (Class (h.0).class) (h.3).0))

    image_at : (a : Expression) (f : Word) (t : Ty) (old : Bool) (entry s : State) → IsWellFormed tables sc s
        → HasType tables old sc (Image a f) t → Fits s.alloc t (value_of tables sc (Image a f) entry s)
    image_at a f t old entry s formed typed =
        let h = both_some {P = λ d. Unit {0}} (find_field tables f) (if_some _) typed in
        region_fits _ s.alloc t (h.3).2 (λ o e. let m = (united_over_has _ _ o).0 e in location_within (find_field tables f) s.alloc (s.heap m.0 f) m.0 (formed.locations m.0 f) o m.2)

    -- The value of a typed expression fits its type.
    pub value_fits : (e : Expression) (t : Ty) (old : Bool) (entry s : State) → IsWellFormed tables sc entry → IsWellFormed tables sc s → Within entry.alloc s.alloc
        → HasType tables old sc e t → Fits s.alloc t (value_of tables sc e entry s)
    value_fits (Var x) t old entry s before formed grown typed = variable_fits x t s formed typed
    value_fits (Num n) t old entry s before formed grown typed = number_fits n s.alloc t typed
    value_fits Null t old entry s before formed grown typed = null_fits t s.alloc typed
    value_fits Empty t old entry s before formed grown typed = region_fits nothing s.alloc t typed (λ o e. no_member o e)
    value_fits Alloc t old entry s before formed grown typed = region_fits s.alloc s.alloc t typed (λ o e. e)
    value_fits (Add a b) t old entry s before formed grown typed = number_fits _ s.alloc t typed.2
    value_fits (Sub a b) t old entry s before formed grown typed = number_fits _ s.alloc t typed.2
    value_fits (Mul n a) t old entry s before formed grown typed = number_fits _ s.alloc t typed.1
    value_fits (Field a f) t old entry s before formed grown typed = field_at a f t old entry s formed (λ u. value_fits a u old entry s before formed grown) typed
    value_fits (Single a) t old entry s before formed grown typed =
        region_fits _ s.alloc t typed.2 (single_within _ typed.0 s.alloc (value_fits a (Class typed.0) old entry s before formed grown typed.1))
    value_fits (Union a b) t old entry s before formed grown typed =
        region_fits _ s.alloc t typed.2 (λ o e. ⊎_elim (region_within _ s.alloc (value_fits a Rgn old entry s before formed grown typed.0) o)
        (region_within _ s.alloc (value_fits b Rgn old entry s before formed grown typed.1) o) (or_one _ _ (sym (union_has_both _ _ o) ∙ e)))
    value_fits (Meet a b) t old entry s before formed grown typed =
        region_fits _ s.alloc t typed.2 (λ o e. region_within _ s.alloc (value_fits a Rgn old entry s before formed grown typed.0) o (and_both _ _ (sym (meet_has _ _ o) ∙ e)).0)
    value_fits (Minus a b) t old entry s before formed grown typed =
        region_fits _ s.alloc t typed.2 (λ o e. region_within _ s.alloc (value_fits a Rgn old entry s before formed grown typed.0) o (and_both _ _ (sym (minus_has _ _ o) ∙ e)).0)
    value_fits (Image a f) t old entry s before formed grown typed = image_at a f t old entry s formed typed
    value_fits (Filter a c) t old entry s before formed grown typed =
        region_fits _ s.alloc t typed.2 (λ o e. region_within _ s.alloc (value_fits a Rgn old entry s before formed grown typed.0) o (and_both _ _ (sym (of_class_has _ _ o) ∙ e)).0)
    value_fits (Old a) t old entry s before formed grown typed =
        fits_more t _ entry.alloc s.alloc grown (value_fits a t false entry entry before before (λ o e. e) typed.1)

pub values_fit : TypedValuesFit
values_fit tables sc old e t entry s before formed grown typed = value_fits tables sc e t old entry s before formed (is_within_each entry.alloc s.alloc grown) typed
