-- What is written, allocated and put at its default keeps states well formed.
use Rattle.std.proofs.Common.{◌≡◌, Bool, true, false, ◌&&◌, ◌||◌, ◌==◌, if◌then◌else◌, IsTrue, IfSome, MatchBool, List, [], ◌∷◌, ◌++◌, Option, Some, None, refl, sym, ap, subst, ◌∙◌, inl, inr, true≢false}
use Rattle.std.specs.Prelude.{bytes_eq}
use Rattle.std.specs.List.{AllByRecursion}
use Rattle.std.specs.Ordering.{eq_by_cmp}
use Rattle.std.specs.FinSet as set
use Rattle.std.proofs.lemmas.Slice.Eq.{bytes_eq-Decides}
use Rattle.rel_list.specs.References.{Obj, obj_cmp, Region, is_in, same_obj}
use Rattle.rel_list.proofs.Sets.{obj_total, ties, and_both, same_obj_is}
use Rattle.rel_lang.specs.Syntax.{Word, Ty}
use Rattle.rel_lang.specs.State.{ClassField, Tables, class_number, find_field, is_of_field, Value, default, default_of, Owner, ByInterface, ByModule, ByUnit, ByClient, ByCall, ByQuantifier, same_owner, State, Variable, Scope, find_variable, is_variable, value_in, write_variable, with_defaults, write_field, with_object, LocationFits}
use Rattle.rel_lang.specs.Typed.{IsAmong, AreDistinct, names_of}
use Rattle.rel_lang.specs.Laws.{Agree}
use Rattle.rel_lang.proofs.Values.{found, Within, Fits, default_fits, fits_more}

-- ---- variables of one type

abbrev pub AgreeAll : Scope → Scope → Type 0
AgreeAll vs ws = AllByRecursion (λ v. AllByRecursion (Agree v) ws) vs

same_name : (v w : Variable) → IsTrue (is_variable w.owner w.name v) → w.name ≡ v.name
same_name v w e = (bytes_eq-Decides w.name v.name).0 (and_both _ _ e).1

pub all_append : {A : Type 0} (P : A → Type 0) (xs ys : List A) → AllByRecursion P xs → AllByRecursion P ys → AllByRecursion P (xs ++ ys)
all_append P [] ys h i = i
all_append P (x ∷ xs) ys h i = (h.0, all_append P xs ys h.1 i)

pub all_left : {A : Type 0} (P : A → Type 0) (xs ys : List A) → AllByRecursion P (xs ++ ys) → AllByRecursion P xs
all_left P [] ys h = tt
all_left P (x ∷ xs) ys h = (h.0, all_left P xs ys h.1)

pub all_right : {A : Type 0} (P : A → Type 0) (xs ys : List A) → AllByRecursion P (xs ++ ys) → AllByRecursion P ys
all_right P [] ys h = h
all_right P (x ∷ xs) ys h = all_right P xs ys h.1

pub all_weaker : {A : Type 0} (P Q : A → Type 0) → ((a : A) → P a → Q a) → (xs : List A) → AllByRecursion P xs → AllByRecursion Q xs
all_weaker P Q f [] h = tt
all_weaker P Q f (x ∷ xs) h = (f x h.0, all_weaker P Q f xs h.1)

pub all_everywhere : {A : Type 0} (P : A → Type 0) → ((a : A) → P a) → (xs : List A) → AllByRecursion P xs
all_everywhere P f [] = tt
all_everywhere P f (x ∷ xs) = (f x, all_everywhere P f xs)

-- in a scope in which no name stands twice
pub distinct_agree : (sc : Scope) → AreDistinct (names_of sc) → AgreeAll sc sc
distinct_agree [] h = tt
distinct_agree (v ∷ vs) h = ((λ e. refl, first vs h.0), both vs h.0 (distinct_agree vs h.1))
  where
    first : (ws : Scope) → ¬ (IsAmong v.name (names_of ws)) → AllByRecursion (Agree v) ws
    first [] h = tt
    first (w ∷ ws) h = (λ e. absurd (h (inl (sym (same_name v w e)))), first ws (λ i. h (inr i)))

    both : (ws : Scope) → ¬ (IsAmong v.name (names_of ws)) → AgreeAll ws vs → AgreeAll ws (v ∷ vs)
    both [] h all = tt
    both (w ∷ ws) h all = ((λ e. absurd (h (inl (same_name w v e))), all.0), both ws (λ i. h (inr i)) all.1)

-- ---- writing a variable

module _ (tables : Tables) where
  abbrev pub AllFit : Region → Scope → State → Type 0
  AllFit alloc sc s = AllByRecursion (λ v. Fits tables alloc v.ty (value_in s v)) sc

  value_or_old : (b : Bool) (t u : Ty) (alloc : Region) (new old : Value) → (IsTrue b → t ≡ u) → Fits tables alloc u new → Fits tables alloc t old → Fits tables alloc t (if b then new else old)
  value_or_old true t u alloc new old e h i = subst (λ w. Fits tables alloc w new) (sym (e refl)) h
  value_or_old false t u alloc new old e h i = i

  -- what is written fits its variable's type, and all others keep theirs
  pub write_fits : (v : Variable) (value : Value) (alloc : Region) (s : State) (ws : Scope) → Fits tables alloc v.ty value → AllByRecursion (Agree v) ws
      → AllFit alloc ws s → AllFit alloc ws (write_variable (Some v) value s)
  write_fits v value alloc s [] fits agree all = tt
  write_fits v value alloc s (w ∷ ws) fits agree all =
      (value_or_old (is_variable w.owner w.name v) w.ty v.ty alloc value (value_in s w) agree.0 fits all.0, write_fits v value alloc s ws fits agree.1 all.1)

  pub found_fits : (x : Word) (value : Value) (alloc : Region) (s : State) (sc ws : Scope) → IfSome (find_variable x sc) (λ v. Fits tables alloc v.ty value) → AgreeAll sc ws
      → AllFit alloc ws s → AllFit alloc ws (write_variable (find_variable x sc) value s)
  found_fits x value alloc s sc ws fits agree all = at_option (find_variable x sc) (found _ _ x sc agree) fits
    where
      at_option : (o : Option Variable) → IfSome o (λ v. AllByRecursion (Agree v) ws) → IfSome o (λ v. Fits tables alloc v.ty value) → AllFit alloc ws (write_variable o value s)
      at_option None a f = all
      at_option (Some v) a f = write_fits v value alloc s ws f a all

  same_owner_itself : (o : Owner) → same_owner o o ≡ true
  same_owner_itself (ByInterface a) = (bytes_eq-Decides a a).1 refl
  same_owner_itself (ByModule a) = (bytes_eq-Decides a a).1 refl
  same_owner_itself (ByUnit a) = (bytes_eq-Decides a a).1 refl
  same_owner_itself (ByClient a) = (bytes_eq-Decides a a).1 refl
  same_owner_itself ByCall = refl
  same_owner_itself ByQuantifier = refl

  pub variable_itself : (v : Variable) → is_variable v.owner v.name v ≡ true
  variable_itself v = ap (λ b. b && bytes_eq v.name v.name) (same_owner_itself v.owner) ∙ (bytes_eq-Decides v.name v.name).1 refl

  -- the variable itself has what was written
  pub written_fits : (v : Variable) (value : Value) (alloc : Region) (s : State) → Fits tables alloc v.ty value → Fits tables alloc v.ty (value_in (write_variable (Some v) value s) v)
  written_fits v value alloc s fits = subst (λ b. Fits tables alloc v.ty (if b then value else value_in s v)) (sym (variable_itself v)) fits

  -- variables put at their defaults fit, and those beside them as before
  pub defaults_fit : (vs : Scope) (alloc : Region) (s : State) → AgreeAll vs vs → AllFit alloc vs (with_defaults vs s)
  defaults_fit [] alloc s agree = tt
  defaults_fit (v ∷ vs) alloc s agree = (
    written_fits v (default v.ty) alloc (with_defaults vs s) (default_fits tables v.ty alloc),
    write_fits v (default v.ty) alloc (with_defaults vs s) vs (default_fits tables v.ty alloc) agree.0.1
        (defaults_fit vs alloc s (all_weaker _ _ (λ w h. h.1) vs agree.1)),
  )

  pub beside_defaults : (vs ws : Scope) (alloc : Region) (s : State) → AgreeAll vs ws → AllFit alloc ws s → AllFit alloc ws (with_defaults vs s)
  beside_defaults [] ws alloc s agree all = all
  beside_defaults (v ∷ vs) ws alloc s agree all =
      write_fits v (default v.ty) alloc (with_defaults vs s) ws (default_fits tables v.ty alloc) agree.0 (beside_defaults vs ws alloc s agree.1 all)

  -- ---- writing a location, and new objects

  abbrev pub Locations : State → Type 0
  Locations s = (o : Obj) (f : Word) → LocationFits tables (find_field tables f) s.alloc (s.heap o f) o

  fits_there : (d : ClassField) (s : State) (value : Value) (o : Obj) → IsTrue (is_in o s.alloc && (o.class == class_number tables d.class)) → Fits tables s.alloc d.ty value
      → LocationFits tables (Some d) s.alloc value o
  fits_there d s value o at fits = subst (λ b. MatchBool b (Fits tables s.alloc d.ty value) (value ≡ default d.ty)) (sym at) fits

  pub field_write_fits : (o : Obj) (f : Word) (d : ClassField) (value : Value) (s : State) → find_field tables f ≡ Some d
      → IsTrue (is_in o s.alloc && (o.class == class_number tables d.class)) → Fits tables s.alloc d.ty value → Locations s → Locations (write_field o f value s)
  field_write_fits o f d value s is at fits all p g =
      elim (same_obj p o && bytes_eq g f) as (λ b. (same_obj p o && bytes_eq g f) ≡ b → LocationFits tables (find_field tables g) s.alloc (if b then value else s.heap p g) p) [
        | true ↦ λ e. let here = and_both _ _ e in
            subst (λ q. LocationFits tables (find_field tables g) s.alloc value q) (sym ((same_obj_is p o).0 here.0))
            (subst (λ h. LocationFits tables (find_field tables h) s.alloc value o) (sym ((bytes_eq-Decides g f).0 here.1))
            (subst (λ w. LocationFits tables w s.alloc value o) (sym is) (fits_there d s value o at fits)))
        | false ↦ λ e. all p g
      ] refl

  default_fits_there : (d : Option ClassField) (alloc : Region) (o : Obj) → LocationFits tables d alloc (default_of d) o
  default_fits_there None alloc o = refl
  default_fits_there (Some d) alloc o =
      elim (is_in o alloc && is_of_field tables (Some d) o) as (λ b. MatchBool b (Fits tables alloc d.ty (default d.ty)) (default d.ty ≡ default d.ty)) [ true ↦ default_fits tables d.ty alloc | false ↦ refl ]

  -- a location fits where there are more objects, if its own object isn't among the new ones
  fits_later : (d : Option ClassField) (g h : Region) (value : Value) (o : Obj) → Within g h → is_in o h ≡ is_in o g → LocationFits tables d g value o → LocationFits tables d h value o
  fits_later None g h value o grown same fits = fits
  fits_later (Some d) g h value o grown same fits =
      subst (λ b. MatchBool (b && is_of_field tables (Some d) o) (Fits tables h d.ty value) (value ≡ default d.ty)) (sym same)
      (elim (is_in o g && is_of_field tables (Some d) o) as (λ b. MatchBool b (Fits tables g d.ty value) (value ≡ default d.ty) → MatchBool b (Fits tables h d.ty value) (value ≡ default d.ty)) [
        | true ↦ fits_more tables d.ty value g h grown
        | false ↦ λ e. e
      ] fits)

  pub insert_within : (o : Obj) (g : Region) → Within g (set.insert g o)
  insert_within o g p e = set.contains-insert obj_total g o p ∙ or_later (eq_by_cmp obj_cmp p o) _ e
    where
      or_later : (a b : Bool) → b ≡ true → (a || b) ≡ true
      or_later true b e = refl
      or_later false b e = e

  insert_other : (o p : Obj) (g : Region) → same_obj p o ≡ false → is_in p (set.insert g o) ≡ is_in p g
  insert_other o p g other = set.contains-insert obj_total g o p ∙ not_first (eq_by_cmp obj_cmp p o) (is_in p g) (ties p o)
    where
      not_first : (a b : Bool) → (a ≡ true → p ≡ o) → (a || b) ≡ b
      not_first true b e = absurd (true≢false (sym ((same_obj_is p o).1 (e refl)) ∙ other))
      not_first false b e = refl

  pub object_locations_fit : (o : Obj) (s : State) → Locations s → Locations (with_object tables o s)
  object_locations_fit o s all p f =
      elim (same_obj p o) as (λ b. same_obj p o ≡ b → LocationFits tables (find_field tables f) (set.insert s.alloc o) (if b then default_of (find_field tables f) else s.heap p f) p) [
        | true ↦ λ e. default_fits_there (find_field tables f) (set.insert s.alloc o) p
        | false ↦ λ e. fits_later (find_field tables f) s.alloc (set.insert s.alloc o) (s.heap p f) p (insert_within o s.alloc) (insert_other o p s.alloc e) (all p f)
      ] refl
