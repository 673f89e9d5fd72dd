-- What looks variables up gives the same for scopes in which each name finds the same, whoever owns it.
use Rattle.std.proofs.Common.{◌≡◌, Bool, true, false, not, ◌&&◌, ◌||◌, if◌then◌else◌, [], ◌∷◌, ◌++◌, Option, Some, None, option_map, refl, sym, ap, ap₂, ◌∙◌}
use Rattle.std.specs.Prelude.{bytes_eq, is_some}
use Rattle.rel_lang.specs.Syntax.{Word, Ty, Int, Rgn, Left, Right, Expression, Var, Num, Null, Empty, Alloc, Add, Sub, Mul, Field, Single, Union, Meet, Minus, Image, Filter, Old, Formula, True, False, Eq, Lt, Le, Member, Subset, Not, And, Or, Implies, Every, Exists, RelFormula, RelTrue, RelFalse, OnLeft, OnRight, Both, Agree, AgreeImage, RelNot, RelAnd, RelOr, RelImplies, RelEvery, RelExists, Eventually}
use Rattle.rel_lang.specs.State.{Tables, find_field, Scope, Variable, find_variable}
use Rattle.rel_lang.specs.Truth.{quantified}
use Rattle.rel_lang.specs.Typed.{is_code, is_test}
use Rattle.rel_flaws.specs.Flaws.{Flaws, flawless}
use Rattle.rel_flaws.specs.Inference.{is_in_scope, fits, is_reference, have_one_type, typed_where, type_of_variable, type_of_field, type_of_image, misplaces_old, is_class, is_field, has_unknown, formula_has_unknown, rel_has_unknown, binds_twice, rel_binds_twice, infer, is_ill_typed, rel_is_ill_typed, flaws_of_formula, flaws_of_rel, flaws_of_test, flaws_of_code, flaws_of_value, flaws_of_region}
use Rattle.rel_types.specs.Lookups.{without_owner, SameLookups}

-- ---- scopes

-- in front of other variables
abbrev pub or_else : Option Variable → Option Variable → Option Variable
or_else None o = o
or_else (Some v) o = Some v

pub found_before : (x : Word) (sc sd : Scope) → find_variable x (sc ++ sd) ≡ or_else (find_variable x sc) (find_variable x sd)
found_before x [] sd = refl
found_before x (v ∷ sc) sd =
    elim (bytes_eq x v.name) as (λ b. (if b then Some v else find_variable x (sc ++ sd)) ≡ or_else (if b then Some v else find_variable x sc) (find_variable x sd)) [
      | true ↦ refl
      | false ↦ found_before x sc sd
    ]

pub ownerless_before : (o p : Option Variable) → option_map without_owner (or_else o p) ≡ or_else (option_map without_owner o) (option_map without_owner p)
ownerless_before None p = refl
ownerless_before (Some v) p = refl

pub same_after : (sc sd sc' sd' : Scope) → SameLookups sc sc' → SameLookups sd sd' → SameLookups (sc ++ sd) (sc' ++ sd')
same_after sc sd sc' sd' h k x =
    ap (option_map without_owner) (found_before x sc sd) ∙ ownerless_before (find_variable x sc) (find_variable x sd)
    ∙ ap₂ or_else (h x) (k x)
    ∙ sym (ap (option_map without_owner) (found_before x sc' sd') ∙ ownerless_before (find_variable x sc') (find_variable x sd'))

pub same_front : (v : Variable) (sc sd : Scope) → SameLookups sc sd → SameLookups (v ∷ sc) (v ∷ sd)
same_front v sc sd h x =
    elim (bytes_eq x v.name) as (λ b. option_map without_owner (if b then Some v else find_variable x sc) ≡ option_map without_owner (if b then Some v else find_variable x sd)) [
      | true ↦ refl
      | false ↦ h x
    ]

-- ---- what is asked of a variable

-- What doesn't ask for the owner of a variable gives the same for two that differ in that alone.
pub asked : {X : Type 0} (f : Option Variable → X) → ((o : Option Variable) → f (option_map without_owner o) ≡ f o)
    → (o p : Option Variable) → option_map without_owner o ≡ option_map without_owner p → f o ≡ f p
asked f k o p h = sym (k o) ∙ ap f h ∙ k p

some_kept : (o : Option Variable) → is_some (option_map without_owner o) ≡ is_some o
some_kept None = refl
some_kept (Some v) = refl

type_kept : (o : Option Variable) → type_of_variable (option_map without_owner o) ≡ type_of_variable o
type_kept None = refl
type_kept (Some v) = refl

pub in_same : (sc sd : Scope) → SameLookups sc sd → (x : Word) → is_in_scope x sc ≡ is_in_scope x sd
in_same sc sd h x = asked is_some some_kept (find_variable x sc) (find_variable x sd) (h x)

-- ---- expressions

pub unknown_same : (tables : Tables) (sc sd : Scope) → SameLookups sc sd → (e : Expression) → has_unknown tables sc e ≡ has_unknown tables sd e
unknown_same tables sc sd h (Var x) = ap not (in_same sc sd h x)
unknown_same tables sc sd h (Num n) = refl
unknown_same tables sc sd h Null = refl
unknown_same tables sc sd h Empty = refl
unknown_same tables sc sd h Alloc = refl
unknown_same tables sc sd h (Add a b) = ap₂ (λ x y. x || y) (unknown_same tables sc sd h a) (unknown_same tables sc sd h b)
unknown_same tables sc sd h (Sub a b) = ap₂ (λ x y. x || y) (unknown_same tables sc sd h a) (unknown_same tables sc sd h b)
unknown_same tables sc sd h (Mul n a) = unknown_same tables sc sd h a
unknown_same tables sc sd h (Field a f) = ap (λ x. x || not (is_field tables f)) (unknown_same tables sc sd h a)
unknown_same tables sc sd h (Single a) = unknown_same tables sc sd h a
unknown_same tables sc sd h (Union a b) = ap₂ (λ x y. x || y) (unknown_same tables sc sd h a) (unknown_same tables sc sd h b)
unknown_same tables sc sd h (Meet a b) = ap₂ (λ x y. x || y) (unknown_same tables sc sd h a) (unknown_same tables sc sd h b)
unknown_same tables sc sd h (Minus a b) = ap₂ (λ x y. x || y) (unknown_same tables sc sd h a) (unknown_same tables sc sd h b)
unknown_same tables sc sd h (Image a f) = ap (λ x. x || not (is_field tables f)) (unknown_same tables sc sd h a)
unknown_same tables sc sd h (Filter a c) = ap (λ x. x || not (is_class tables c)) (unknown_same tables sc sd h a)
unknown_same tables sc sd h (Old a) = unknown_same tables sc sd h a

pub infer_same : (tables : Tables) (sc sd : Scope) → SameLookups sc sd → (e : Expression) → infer tables sc e ≡ infer tables sd e
infer_same tables sc sd h (Var x) = asked type_of_variable type_kept (find_variable x sc) (find_variable x sd) (h x)
infer_same tables sc sd h (Num n) = refl
infer_same tables sc sd h Null = refl
infer_same tables sc sd h Empty = refl
infer_same tables sc sd h Alloc = refl
infer_same tables sc sd h (Add a b) = ap₂ (λ i j. typed_where (fits i Int && fits j Int) Int) (infer_same tables sc sd h a) (infer_same tables sc sd h b)
infer_same tables sc sd h (Sub a b) = ap₂ (λ i j. typed_where (fits i Int && fits j Int) Int) (infer_same tables sc sd h a) (infer_same tables sc sd h b)
infer_same tables sc sd h (Mul n a) = ap (λ i. typed_where (fits i Int) Int) (infer_same tables sc sd h a)
infer_same tables sc sd h (Field a f) = ap (type_of_field (find_field tables f)) (infer_same tables sc sd h a)
infer_same tables sc sd h (Single a) = ap (λ i. typed_where (is_reference i) Rgn) (infer_same tables sc sd h a)
infer_same tables sc sd h (Union a b) = ap₂ (λ i j. typed_where (fits i Rgn && fits j Rgn) Rgn) (infer_same tables sc sd h a) (infer_same tables sc sd h b)
infer_same tables sc sd h (Meet a b) = ap₂ (λ i j. typed_where (fits i Rgn && fits j Rgn) Rgn) (infer_same tables sc sd h a) (infer_same tables sc sd h b)
infer_same tables sc sd h (Minus a b) = ap₂ (λ i j. typed_where (fits i Rgn && fits j Rgn) Rgn) (infer_same tables sc sd h a) (infer_same tables sc sd h b)
infer_same tables sc sd h (Image a f) = ap (type_of_image (find_field tables f)) (infer_same tables sc sd h a)
infer_same tables sc sd h (Filter a c) = ap (λ i. typed_where (fits i Rgn) Rgn) (infer_same tables sc sd h a)
infer_same tables sc sd h (Old a) = infer_same tables sc sd h a

-- ---- formulas

binds_same : (sc sd : Scope) → SameLookups sc sd → (p : Formula) → binds_twice sc p ≡ binds_twice sd p
binds_same sc sd h True = refl
binds_same sc sd h False = refl
binds_same sc sd h (Eq a b) = refl
binds_same sc sd h (Lt a b) = refl
binds_same sc sd h (Le a b) = refl
binds_same sc sd h (Member a b) = refl
binds_same sc sd h (Subset a b) = refl
binds_same sc sd h (Not p) = binds_same sc sd h p
binds_same sc sd h (And p q) = ap₂ (λ x y. x || y) (binds_same sc sd h p) (binds_same sc sd h q)
binds_same sc sd h (Or p q) = ap₂ (λ x y. x || y) (binds_same sc sd h p) (binds_same sc sd h q)
binds_same sc sd h (Implies p q) = ap₂ (λ x y. x || y) (binds_same sc sd h p) (binds_same sc sd h q)
binds_same sc sd h (Every x c g p) =
    ap₂ (λ x y. x || y) (in_same sc sd h x) (binds_same (quantified x c ∷ sc) (quantified x c ∷ sd) (same_front (quantified x c) sc sd h) p)
binds_same sc sd h (Exists x c g p) =
    ap₂ (λ x y. x || y) (in_same sc sd h x) (binds_same (quantified x c ∷ sc) (quantified x c ∷ sd) (same_front (quantified x c) sc sd h) p)

formula_unknown_same : (tables : Tables) (sc sd : Scope) → SameLookups sc sd → (p : Formula) → formula_has_unknown tables sc p ≡ formula_has_unknown tables sd p
formula_unknown_same tables sc sd h True = refl
formula_unknown_same tables sc sd h False = refl
formula_unknown_same tables sc sd h (Eq a b) = ap₂ (λ x y. x || y) (unknown_same tables sc sd h a) (unknown_same tables sc sd h b)
formula_unknown_same tables sc sd h (Lt a b) = ap₂ (λ x y. x || y) (unknown_same tables sc sd h a) (unknown_same tables sc sd h b)
formula_unknown_same tables sc sd h (Le a b) = ap₂ (λ x y. x || y) (unknown_same tables sc sd h a) (unknown_same tables sc sd h b)
formula_unknown_same tables sc sd h (Member a b) = ap₂ (λ x y. x || y) (unknown_same tables sc sd h a) (unknown_same tables sc sd h b)
formula_unknown_same tables sc sd h (Subset a b) = ap₂ (λ x y. x || y) (unknown_same tables sc sd h a) (unknown_same tables sc sd h b)
formula_unknown_same tables sc sd h (Not p) = formula_unknown_same tables sc sd h p
formula_unknown_same tables sc sd h (And p q) = ap₂ (λ x y. x || y) (formula_unknown_same tables sc sd h p) (formula_unknown_same tables sc sd h q)
formula_unknown_same tables sc sd h (Or p q) = ap₂ (λ x y. x || y) (formula_unknown_same tables sc sd h p) (formula_unknown_same tables sc sd h q)
formula_unknown_same tables sc sd h (Implies p q) = ap₂ (λ x y. x || y) (formula_unknown_same tables sc sd h p) (formula_unknown_same tables sc sd h q)
formula_unknown_same tables sc sd h (Every x c g p) =
    ap₂ (λ x y. not (is_class tables c) || x || y) (unknown_same tables sc sd h g) (formula_unknown_same tables (quantified x c ∷ sc) (quantified x c ∷ sd) (same_front (quantified x c) sc sd h) p)
formula_unknown_same tables sc sd h (Exists x c g p) =
    ap₂ (λ x y. not (is_class tables c) || x || y) (unknown_same tables sc sd h g) (formula_unknown_same tables (quantified x c ∷ sc) (quantified x c ∷ sd) (same_front (quantified x c) sc sd h) p)

ill_typed_same : (tables : Tables) (sc sd : Scope) → SameLookups sc sd → (p : Formula) → is_ill_typed tables sc p ≡ is_ill_typed tables sd p
ill_typed_same tables sc sd h True = refl
ill_typed_same tables sc sd h False = refl
ill_typed_same tables sc sd h (Eq a b) = ap₂ (λ i j. not (have_one_type i j)) (infer_same tables sc sd h a) (infer_same tables sc sd h b)
ill_typed_same tables sc sd h (Lt a b) = ap₂ (λ i j. not (fits i Int && fits j Int)) (infer_same tables sc sd h a) (infer_same tables sc sd h b)
ill_typed_same tables sc sd h (Le a b) = ap₂ (λ i j. not (fits i Int && fits j Int)) (infer_same tables sc sd h a) (infer_same tables sc sd h b)
ill_typed_same tables sc sd h (Member a b) = ap₂ (λ i j. not (is_reference i && fits j Rgn)) (infer_same tables sc sd h a) (infer_same tables sc sd h b)
ill_typed_same tables sc sd h (Subset a b) = ap₂ (λ i j. not (fits i Rgn && fits j Rgn)) (infer_same tables sc sd h a) (infer_same tables sc sd h b)
ill_typed_same tables sc sd h (Not p) = ill_typed_same tables sc sd h p
ill_typed_same tables sc sd h (And p q) = ap₂ (λ x y. x || y) (ill_typed_same tables sc sd h p) (ill_typed_same tables sc sd h q)
ill_typed_same tables sc sd h (Or p q) = ap₂ (λ x y. x || y) (ill_typed_same tables sc sd h p) (ill_typed_same tables sc sd h q)
ill_typed_same tables sc sd h (Implies p q) = ap₂ (λ x y. x || y) (ill_typed_same tables sc sd h p) (ill_typed_same tables sc sd h q)
ill_typed_same tables sc sd h (Every x c g p) =
    ap₂ (λ i y. not (fits i Rgn) || y) (infer_same tables sc sd h g) (ill_typed_same tables (quantified x c ∷ sc) (quantified x c ∷ sd) (same_front (quantified x c) sc sd h) p)
ill_typed_same tables sc sd h (Exists x c g p) =
    ap₂ (λ i y. not (fits i Rgn) || y) (infer_same tables sc sd h g) (ill_typed_same tables (quantified x c ∷ sc) (quantified x c ∷ sd) (same_front (quantified x c) sc sd h) p)

pub formula_same : (tables : Tables) (old : Bool) (sc sd : Scope) → SameLookups sc sd → (p : Formula) → flaws_of_formula tables old sc p ≡ flaws_of_formula tables old sd p
formula_same tables old sc sd h p = rw (binds_same sc sd h p, formula_unknown_same tables sc sd h p, ill_typed_same tables sc sd h p) refl

pub test_same : (tables : Tables) (sc sd : Scope) → SameLookups sc sd → (p : Formula) → flaws_of_test tables sc p ≡ flaws_of_test tables sd p
test_same tables sc sd h p = ap {A = Flaws} (λ f. record f { not_code = not (is_test p) }) (formula_same tables false sc sd h p)

pub code_same : (tables : Tables) (sc sd : Scope) → SameLookups sc sd → (e : Expression) → flaws_of_code tables sc e ≡ flaws_of_code tables sd e
code_same tables sc sd h e = ap (λ u. record flawless { unknown = u; old_here = misplaces_old false e; not_code = not (is_code e) }) (unknown_same tables sc sd h e)

pub value_same : (tables : Tables) (sc sd : Scope) → SameLookups sc sd → (e : Expression) (t : Ty) → flaws_of_value tables sc e t ≡ flaws_of_value tables sd e t
value_same tables sc sd h e t = ap₂ {A = Flaws} (λ f i. record f { wrong_type = not (fits i t) }) (code_same tables sc sd h e) (infer_same tables sc sd h e)

pub region_same : (tables : Tables) (sc sd : Scope) → SameLookups sc sd → (g : Expression) → flaws_of_region tables sc g ≡ flaws_of_region tables sd g
region_same tables sc sd h g =
    ap₂ (λ u i. record flawless { unknown = u; old_here = misplaces_old false g; wrong_type = not (fits i Rgn) }) (unknown_same tables sc sd h g) (infer_same tables sc sd h g)

-- ---- relational formulas

rel_binds_same : (l l' r r' : Scope) → SameLookups l l' → SameLookups r r' → (a : RelFormula) → rel_binds_twice l r a ≡ rel_binds_twice l' r' a
rel_binds_same l l' r r' h k RelTrue = refl
rel_binds_same l l' r r' h k RelFalse = refl
rel_binds_same l l' r r' h k (OnLeft p) = binds_same l l' h p
rel_binds_same l l' r r' h k (OnRight p) = binds_same r r' k p
rel_binds_same l l' r r' h k (Both p) = ap₂ (λ x y. x || y) (binds_same l l' h p) (binds_same r r' k p)
rel_binds_same l l' r r' h k (Agree a b) = refl
rel_binds_same l l' r r' h k (AgreeImage g f) = refl
rel_binds_same l l' r r' h k (RelNot a) = rel_binds_same l l' r r' h k a
rel_binds_same l l' r r' h k (RelAnd a b) = ap₂ (λ x y. x || y) (rel_binds_same l l' r r' h k a) (rel_binds_same l l' r r' h k b)
rel_binds_same l l' r r' h k (RelOr a b) = ap₂ (λ x y. x || y) (rel_binds_same l l' r r' h k a) (rel_binds_same l l' r r' h k b)
rel_binds_same l l' r r' h k (RelImplies a b) = ap₂ (λ x y. x || y) (rel_binds_same l l' r r' h k a) (rel_binds_same l l' r r' h k b)
rel_binds_same l l' r r' h k (RelEvery Left x c g a) = ap₂ (λ x y. x || y) (in_same l l' h x) (rel_binds_same (quantified x c ∷ l) (quantified x c ∷ l') r r' (same_front (quantified x c) l l' h) k a)
rel_binds_same l l' r r' h k (RelEvery Right x c g a) = ap₂ (λ x y. x || y) (in_same r r' k x) (rel_binds_same l l' (quantified x c ∷ r) (quantified x c ∷ r') h (same_front (quantified x c) r r' k) a)
rel_binds_same l l' r r' h k (RelExists Left x c g a) = ap₂ (λ x y. x || y) (in_same l l' h x) (rel_binds_same (quantified x c ∷ l) (quantified x c ∷ l') r r' (same_front (quantified x c) l l' h) k a)
rel_binds_same l l' r r' h k (RelExists Right x c g a) = ap₂ (λ x y. x || y) (in_same r r' k x) (rel_binds_same l l' (quantified x c ∷ r) (quantified x c ∷ r') h (same_front (quantified x c) r r' k) a)
rel_binds_same l l' r r' h k (Eventually a) = rel_binds_same l l' r r' h k a

rel_unknown_same : (tables : Tables) (l l' r r' : Scope) → SameLookups l l' → SameLookups r r' → (a : RelFormula) → rel_has_unknown tables l r a ≡ rel_has_unknown tables l' r' a
rel_unknown_same tables l l' r r' h k RelTrue = refl
rel_unknown_same tables l l' r r' h k RelFalse = refl
rel_unknown_same tables l l' r r' h k (OnLeft p) = formula_unknown_same tables l l' h p
rel_unknown_same tables l l' r r' h k (OnRight p) = formula_unknown_same tables r r' k p
rel_unknown_same tables l l' r r' h k (Both p) = ap₂ (λ x y. x || y) (formula_unknown_same tables l l' h p) (formula_unknown_same tables r r' k p)
rel_unknown_same tables l l' r r' h k (Agree a b) = ap₂ (λ x y. x || y) (unknown_same tables l l' h a) (unknown_same tables r r' k b)
rel_unknown_same tables l l' r r' h k (AgreeImage g f) = ap₂ (λ x y. x || y || not (is_field tables f)) (unknown_same tables l l' h g) (unknown_same tables r r' k g)
rel_unknown_same tables l l' r r' h k (RelNot a) = rel_unknown_same tables l l' r r' h k a
rel_unknown_same tables l l' r r' h k (RelAnd a b) = ap₂ (λ x y. x || y) (rel_unknown_same tables l l' r r' h k a) (rel_unknown_same tables l l' r r' h k b)
rel_unknown_same tables l l' r r' h k (RelOr a b) = ap₂ (λ x y. x || y) (rel_unknown_same tables l l' r r' h k a) (rel_unknown_same tables l l' r r' h k b)
rel_unknown_same tables l l' r r' h k (RelImplies a b) = ap₂ (λ x y. x || y) (rel_unknown_same tables l l' r r' h k a) (rel_unknown_same tables l l' r r' h k b)
rel_unknown_same tables l l' r r' h k (RelEvery Left x c g a) = ap₂ (λ x y. not (is_class tables c) || x || y) (unknown_same tables l l' h g) (rel_unknown_same tables (quantified x c ∷ l) (quantified x c ∷ l') r r' (same_front (quantified x c) l l' h) k a)
rel_unknown_same tables l l' r r' h k (RelEvery Right x c g a) = ap₂ (λ x y. not (is_class tables c) || x || y) (unknown_same tables r r' k g) (rel_unknown_same tables l l' (quantified x c ∷ r) (quantified x c ∷ r') h (same_front (quantified x c) r r' k) a)
rel_unknown_same tables l l' r r' h k (RelExists Left x c g a) = ap₂ (λ x y. not (is_class tables c) || x || y) (unknown_same tables l l' h g) (rel_unknown_same tables (quantified x c ∷ l) (quantified x c ∷ l') r r' (same_front (quantified x c) l l' h) k a)
rel_unknown_same tables l l' r r' h k (RelExists Right x c g a) = ap₂ (λ x y. not (is_class tables c) || x || y) (unknown_same tables r r' k g) (rel_unknown_same tables l l' (quantified x c ∷ r) (quantified x c ∷ r') h (same_front (quantified x c) r r' k) a)
rel_unknown_same tables l l' r r' h k (Eventually a) = rel_unknown_same tables l l' r r' h k a

rel_ill_typed_same : (tables : Tables) (l l' r r' : Scope) → SameLookups l l' → SameLookups r r' → (a : RelFormula) → rel_is_ill_typed tables l r a ≡ rel_is_ill_typed tables l' r' a
rel_ill_typed_same tables l l' r r' h k RelTrue = refl
rel_ill_typed_same tables l l' r r' h k RelFalse = refl
rel_ill_typed_same tables l l' r r' h k (OnLeft p) = ill_typed_same tables l l' h p
rel_ill_typed_same tables l l' r r' h k (OnRight p) = ill_typed_same tables r r' k p
rel_ill_typed_same tables l l' r r' h k (Both p) = ap₂ (λ x y. x || y) (ill_typed_same tables l l' h p) (ill_typed_same tables r r' k p)
rel_ill_typed_same tables l l' r r' h k (Agree a b) = ap₂ (λ i j. not (have_one_type i j)) (infer_same tables l l' h a) (infer_same tables r r' k b)
rel_ill_typed_same tables l l' r r' h k (AgreeImage g f) = ap₂ (λ i j. not (fits i Rgn && fits j Rgn)) (infer_same tables l l' h g) (infer_same tables r r' k g)
rel_ill_typed_same tables l l' r r' h k (RelNot a) = rel_ill_typed_same tables l l' r r' h k a
rel_ill_typed_same tables l l' r r' h k (RelAnd a b) = ap₂ (λ x y. x || y) (rel_ill_typed_same tables l l' r r' h k a) (rel_ill_typed_same tables l l' r r' h k b)
rel_ill_typed_same tables l l' r r' h k (RelOr a b) = ap₂ (λ x y. x || y) (rel_ill_typed_same tables l l' r r' h k a) (rel_ill_typed_same tables l l' r r' h k b)
rel_ill_typed_same tables l l' r r' h k (RelImplies a b) = ap₂ (λ x y. x || y) (rel_ill_typed_same tables l l' r r' h k a) (rel_ill_typed_same tables l l' r r' h k b)
rel_ill_typed_same tables l l' r r' h k (RelEvery Left x c g a) = ap₂ (λ i y. not (fits i Rgn) || y) (infer_same tables l l' h g) (rel_ill_typed_same tables (quantified x c ∷ l) (quantified x c ∷ l') r r' (same_front (quantified x c) l l' h) k a)
rel_ill_typed_same tables l l' r r' h k (RelEvery Right x c g a) = ap₂ (λ i y. not (fits i Rgn) || y) (infer_same tables r r' k g) (rel_ill_typed_same tables l l' (quantified x c ∷ r) (quantified x c ∷ r') h (same_front (quantified x c) r r' k) a)
rel_ill_typed_same tables l l' r r' h k (RelExists Left x c g a) = ap₂ (λ i y. not (fits i Rgn) || y) (infer_same tables l l' h g) (rel_ill_typed_same tables (quantified x c ∷ l) (quantified x c ∷ l') r r' (same_front (quantified x c) l l' h) k a)
rel_ill_typed_same tables l l' r r' h k (RelExists Right x c g a) = ap₂ (λ i y. not (fits i Rgn) || y) (infer_same tables r r' k g) (rel_ill_typed_same tables l l' (quantified x c ∷ r) (quantified x c ∷ r') h (same_front (quantified x c) r r' k) a)
rel_ill_typed_same tables l l' r r' h k (Eventually a) = rel_ill_typed_same tables l l' r r' h k a

pub rel_same : (tables : Tables) (old : Bool) (l l' r r' : Scope) → SameLookups l l' → SameLookups r r' → (a : RelFormula) → flaws_of_rel tables old l r a ≡ flaws_of_rel tables old l' r' a
rel_same tables old l l' r r' h k a = rw (rel_binds_same l l' r r' h k a, rel_unknown_same tables l l' r r' h k a, rel_ill_typed_same tables l l' r r' h k a) refl
