-- The value of a typed expression is of its type's kind, and the term's sort is the type's.
use Rattle.std.proofs.Common.{◌≡◌, Bool, true, false, if◌then◌else◌, IsNone, IsSomeAnd, List, [], ◌∷◌, map, Some, None, refl, sym, ap, subst, ◌∙◌}
use Rattle.std.specs.Prelude.{bytes_eq, option_map}
use Rattle.std.specs.List.{AllByRecursion}
use Rattle.rel_list.specs.References.{Obj}
use Rattle.rel_lang.specs.Syntax.{Word, Ty, Int, Rgn, Class, Expression, Var, Num, Null, Empty, Alloc, Add, Sub, Mul, Field, Single, Union, Meet, Minus, Image, Filter, Old, Decl}
use Rattle.rel_lang.specs.State.{find_named, Tables, find_field, Value, Reference, fits_type, State, Scope, find_variable, value_in, read_variable, IsWellFormed}
use Rattle.rel_lang.specs.Truth.{quantified, with_quantified}
use Rattle.rel_lang.specs.Typed.{HasType}
use Rattle.rel_lang.specs.Value.{value_of}
use Rattle.rel_lang.proofs.Values.{found, both_some}
use Rattle.rel_encode.specs.Numbers.{numbered_field, numbered, find_numbered, declarations_of}
use Rattle.rel_encode.specs.Relations.{sort_of_type, sort_of_declared, sort_of_field, sort_of_expression}
use Rattle.rel_encode.specs.Meaning.{HasTypedHeap}
use Rattle.rel_encode.proofs.OfKind.{IsOfKind, fits_kind, read_kind, is_there}
use Rattle.rel_encode.proofs.Lifts.{HaveSameValues, others_stay, quantified_value}

-- ---- variables

abbrev pub HaveKinds : Scope → State → Type 0
HaveKinds sc s = AllByRecursion (λ v. IsOfKind v.ty (value_in s v)) sc

pub formed_kinds : (tables : Tables) (sc : Scope) (s : State) → IsWellFormed tables sc s → HaveKinds sc s
formed_kinds tables sc s formed = each sc formed.variables
  where
    each : (vs : Scope) → AllByRecursion (λ v. fits_type tables v.ty s.alloc (value_in s v) ≡ true) vs → HaveKinds vs s
    each [] h = tt
    each (v ∷ vs) h = (fits_kind tables v.ty s.alloc (value_in s v) h.0, each vs h.1)

same_kinds : (sc : Scope) (s u : State) → HaveSameValues sc s u → HaveKinds sc s → HaveKinds sc u
same_kinds [] s u same h = tt
same_kinds (v ∷ vs) s u same h = (subst (IsOfKind v.ty) (sym same.0) h.0, same_kinds vs s u same.1 h.1)

pub quantified_kinds : (x c : Word) (o : Obj) (sc : Scope) (s : State) → IsNone (find_variable x sc) → HaveKinds sc s → HaveKinds (quantified x c ∷ sc) (with_quantified x o s)
quantified_kinds x c o sc s none h =
    (subst (IsOfKind (Class c)) (sym (quantified_value x o s c)) tt, same_kinds sc s (with_quantified x o s) (others_stay x o s sc none) h)

-- ---- expressions

module _ (tables : Tables) (sc : Scope) where
  variable_kind : (x : Word) (t : Ty) (s : State) → HaveKinds sc s → IsSomeAnd (find_variable x sc) (λ v. v.ty ≡ t) → IsOfKind t (read_variable (find_variable x sc) s)
  variable_kind x t s kinds typed =
      let h = both_some {P = λ v. IsOfKind v.ty (value_in s v)} (find_variable x sc) (found _ _ x sc kinds) typed in
      subst (λ o. IsOfKind t (read_variable o s)) (sym h.1) (subst (λ u. IsOfKind u (value_in s h.0)) h.3 h.2)

  null_kind : (t : Ty) → HasType tables true sc Null t → IsOfKind t (Reference None)
  null_kind Int h = absurd h
  null_kind Rgn h = absurd h
  null_kind (Class c) h = tt

  at_type : (t u : Ty) (v : Value) → t ≡ u → IsOfKind u v → IsOfKind t v
  at_type t u v e h = subst (λ w. IsOfKind w v) (sym e) h

  field_kind : (a : Expression) (f : Word) (t : Ty) (old : Bool) (before s : State) → HasTypedHeap tables s → HasType tables old sc (Field a f) t
      → IsOfKind t (value_of tables sc (Field a f) before s)
  field_kind a f t old before s heap typed = let d = is_there (find_field tables f) typed in at_type t (d.0).ty _ (d.2).1 (read_kind tables f d.0 s d.1 heap _)

  -- what is said of an image's type
  image_type : (a : Expression) (f : Word) (t : Ty) (old : Bool) → HasType tables old sc (Image a f) t → t ≡ Rgn
  image_type a f t old typed = (is_there (find_field tables f) typed).2.2

  pub value_kind : (e : Expression) (t : Ty) (old : Bool) (before s : State) → HasTypedHeap tables before → HasTypedHeap tables s → HaveKinds sc before → HaveKinds sc s
      → HasType tables old sc e t → IsOfKind t (value_of tables sc e before s)
  value_kind (Var x) t old before s h k b n typed = variable_kind x t s n typed
  value_kind (Num m) t old before s h k b n typed = at_type t Int _ typed tt
  value_kind Null t old before s h k b n typed = null_kind t typed
  value_kind Empty t old before s h k b n typed = at_type t Rgn _ typed tt
  value_kind Alloc t old before s h k b n typed = at_type t Rgn _ typed tt
  value_kind (Add c d) t old before s h k b n typed = at_type t Int _ typed.2 tt
  value_kind (Sub c d) t old before s h k b n typed = at_type t Int _ typed.2 tt
  value_kind (Mul m c) t old before s h k b n typed = at_type t Int _ typed.1 tt
  value_kind (Field c f) t old before s h k b n typed = field_kind c f t old before s k typed
  value_kind (Single c) t old before s h k b n typed = at_type t Rgn _ typed.2 tt
  value_kind (Union c d) t old before s h k b n typed = at_type t Rgn _ typed.2 tt
  value_kind (Meet c d) t old before s h k b n typed = at_type t Rgn _ typed.2 tt
  value_kind (Minus c d) t old before s h k b n typed = at_type t Rgn _ typed.2 tt
  value_kind (Image c f) t old before s h k b n typed = at_type t Rgn _ (image_type c f t old typed) tt
  value_kind (Filter c x) t old before s h k b n typed = at_type t Rgn _ typed.2 tt
  value_kind (Old c) t old before s h k b n typed = value_kind c t false before before h h b b typed.1

-- ---- sorts

-- what is found in a list that is made from another
pub found_in_map : {A B : Type 0} (h : A → B) (name : B → Word) (x : Word) (xs : List A)
    → find_named name x (map h xs) ≡ option_map h (find_named (λ a. name (h a)) x xs)
found_in_map h name x [] = refl
found_in_map h name x (a ∷ xs) =
    elim (bytes_eq x (name (h a))) as (λ b. (if b then Some (h a) else find_named name x (map h xs)) ≡ option_map h (if b then Some a else find_named (λ a. name (h a)) x xs)) [
      | true ↦ refl
      | false ↦ found_in_map h name x xs
    ]

pub field_found : (tables : Tables) (f : Word) → find_numbered f (numbered tables) ≡ option_map (numbered_field tables) (find_field tables f)
field_found tables f = found_in_map (numbered_field tables) (λ d. d.name) f tables.fields

module _ (tables : Tables) (sc : Scope) where
  variable_sort : (x : Word) (t : Ty) → IsSomeAnd (find_variable x sc) (λ v. v.ty ≡ t)
      → sort_of_declared (find_named (λ d. d.name) x (declarations_of sc)) ≡ sort_of_type t
  variable_sort x t typed =
      let v = is_there (find_variable x sc) typed in
      ap sort_of_declared (found_in_map (λ v. record { name = v.name; ty = v.ty }) (λ (d : Decl). d.name) x sc)
      ∙ ap (λ o. sort_of_declared (option_map (λ v. record { name = v.name; ty = v.ty }) o)) v.1 ∙ ap sort_of_type v.2

  field_sort : (a : Expression) (f : Word) (t : Ty) (old : Bool) → HasType tables old sc (Field a f) t → sort_of_field (find_numbered f (numbered tables)) ≡ sort_of_type t
  field_sort a f t old typed =
      let d = is_there (find_field tables f) typed in
      ap sort_of_field (field_found tables f) ∙ ap (λ o. sort_of_field (option_map (numbered_field tables) o)) d.1 ∙ ap sort_of_type (sym (d.2).1)

  pub expression_sort : (e : Expression) (t : Ty) (old : Bool) → HasType tables old sc e t → sort_of_expression (numbered tables) (declarations_of sc) e ≡ sort_of_type t
  expression_sort (Var x) t old typed = variable_sort x t typed
  expression_sort (Num m) t old typed = ap sort_of_type (sym typed)
  expression_sort Null Int old typed = absurd typed
  expression_sort Null Rgn old typed = absurd typed
  expression_sort Null (Class c) old typed = refl
  expression_sort Empty t old typed = ap sort_of_type (sym typed)
  expression_sort Alloc t old typed = ap sort_of_type (sym typed)
  expression_sort (Add c d) t old typed = ap sort_of_type (sym typed.2)
  expression_sort (Sub c d) t old typed = ap sort_of_type (sym typed.2)
  expression_sort (Mul m c) t old typed = ap sort_of_type (sym typed.1)
  expression_sort (Field c f) t old typed = field_sort c f t old typed
  expression_sort (Single c) t old typed = ap sort_of_type (sym typed.2)
  expression_sort (Union c d) t old typed = ap sort_of_type (sym typed.2)
  expression_sort (Meet c d) t old typed = ap sort_of_type (sym typed.2)
  expression_sort (Minus c d) t old typed = ap sort_of_type (sym typed.2)
  expression_sort (Image c f) t old typed = ap sort_of_type (sym (image_type tables sc c f t old typed))
  expression_sort (Filter c x) t old typed = ap sort_of_type (sym typed.2)
  expression_sort (Old c) t old typed = expression_sort c t false typed.1
