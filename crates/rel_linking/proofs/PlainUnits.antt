-- A procedure of a plain unit meets its specification.
use Rattle.std.proofs.Common.{◌≡◌, ◌≢◌, ◌⊎◌, Bool, true, false, ◌||◌, if◌then◌else◌, IsTrue, IsFalse, ⊎_elim, inl, inr, Option, Some, None, List, [], ◌∷◌, ◌++◌, map, refl, sym, ap, subst, ◌∙◌}
use Rattle.std.specs.List.{AllByRecursion, list_any}
use Rattle.std.specs.Str.{bytes_eq}
use Rattle.std.specs.FinSet.{contains-is_subset}
use Rattle.rel_list.proofs.Sets.{obj_total}
use Rattle.rel_list.specs.References.{Obj, Region, is_in}
use Rattle.rel_list.specs.Regions.{is_within}
use Rattle.rel_lang.specs.Syntax.{Word, Ty, Int, Formula, True, At, Assign, Block, End, Then, Decl, Effect, Global, Locations, Proc, UnitItem}
use Rattle.rel_lang.specs.State.{Tables, Value, find_field, default, Owner, ByUnit, ByCall, State, Variable, Scope, find_variable, write_variable, with_defaults, ClassField, LocationFits, IsWellFormed}
use Rattle.rel_lang.specs.Scope.{Setting, declared, unit_globals, unit_setting, result_name, result_variable, pre_scope, post_scope, own_variables, body_scope}
use Rattle.rel_lang.specs.Truth.{holds}
use Rattle.rel_lang.specs.Run.{code_of, begin, unit_program}
use Rattle.rel_lang.specs.Meets.{is_found, lists_variable, may_change, unit_contract, EndsWell, Meets}
use Rattle.rel_lang.specs.Typed.{IsAmong, AreDistinct}
use Rattle.rel_linking.specs.Form.{IsListed, AssignsListed, IsPlainUnit}
use Rattle.rel_linking.proofs.FormsScope.{AreInts}
use Rattle.rel_linking.proofs.FormsUnit.{pre_is, body_is, ints_append}
use Rattle.rel_linking.proofs.Runs.{each_append, words_differ, not_the_calls, final, run_end, final_alloc, final_heap, defaults_alloc, defaults_heap, IsNumber, AreNumbers, fit_numbers, numbers_fit, default_number, write_numbers, write_apart, write_itself, final_numbers}

-- ---- the start

pub defaults_numbers : (sc xs : Scope) (s : State) → AreInts xs → AreNumbers sc s → AreNumbers sc (with_defaults xs s)
defaults_numbers sc [] s i a = a
defaults_numbers sc (x ∷ xs) s i a = write_numbers sc (Some x) (default x.ty) (with_defaults xs s) (default_number x.ty i.0) (defaults_numbers sc xs s i.1 a)

own_numbers : (xs : Scope) (s : State) → AreInts xs → AreNumbers xs (with_defaults xs s)
own_numbers [] s i = tt
own_numbers (x ∷ xs) s i =
    let below = with_defaults xs s in (
      subst IsNumber (sym (write_itself x (default x.ty) below)) (default_number x.ty i.0),
      write_numbers xs (Some x) (default x.ty) below (default_number x.ty i.0) (own_numbers xs s i.1),
    )

pub int_globals : (u : UnitItem) → AllByRecursion (λ d. d.ty ≡ Int) u.globals → AreInts (unit_globals u)
int_globals u all = go u.globals all
  where
    go : (ds : List Decl) → AllByRecursion (λ d. d.ty ≡ Int) ds → AreInts (declared (ByUnit u.name) true ds)
    go [] a = tt
    go (d ∷ ds) a = (a.0, go ds a.1)

module _ (u : UnitItem) (q : Proc) (plain : IsPlainUnit u q) where
  abbrev g : Setting
  g = unit_setting u q

  pub own_is : own_variables g ≡ result_variable (Some q.result)
  own_is = ap (λ ds. declared ByCall true ds ++ result_variable (Some q.result)) plain.locals

  pub ints_own : AreInts (own_variables g)
  ints_own = subst AreInts (sym own_is) (plain.result, tt)

  pub ints_pre : AreInts (pre_scope g)
  ints_pre = subst AreInts (sym (pre_is u q plain.params)) (int_globals u plain.ints)

  pub ints_all : AreInts (body_scope g)
  ints_all = ints_append (pre_scope g) (own_variables g) ints_pre ints_own

  pub begin_numbers : (tables : Tables) (s : State) → IsWellFormed tables (pre_scope g) s → AreNumbers (body_scope g) (begin g s)
  begin_numbers tables s formed =
      each_append _ (pre_scope g) (own_variables g)
      (defaults_numbers (pre_scope g) (own_variables g) s ints_own (fit_numbers tables (pre_scope g) s ints_pre formed.variables))
      (own_numbers (own_variables g) s ints_own)

-- ---- what may change

or_false : (b : Bool) → IsFalse (b || false) → b ≡ false
or_false true h = absurd cc
or_false false h = refl

or_left : (a b : Bool) → (a || b) ≡ false → a ≡ false
or_left true b h = absurd cc
or_left false b h = refl

or_right : (a b : Bool) → (a || b) ≡ false → b ≡ false
or_right true b h = absurd cc
or_right false b h = h

-- nothing listed changes the variable, so the listed name is another
listed_apart : (globals : Scope) (o : Owner) (y x : Word) (writes : List Effect) → list_any (lists_variable globals o y) writes ≡ false → IsListed writes x
    → lists_variable globals o y (Global x) ≡ false
listed_apart globals o y x [] none l = absurd l
listed_apart globals o y x (Global z ∷ es) none (inl e) =
    subst (λ w. lists_variable globals o y (Global w) ≡ false) (sym e) (or_left (lists_variable globals o y (Global z)) (list_any (lists_variable globals o y) es) none)
listed_apart globals o y x (Global z ∷ es) none (inr l) = listed_apart globals o y x es (or_right (lists_variable globals o y (Global z)) (list_any (lists_variable globals o y) es) none) l
listed_apart globals o y x (Locations p ∷ es) none l = listed_apart globals o y x es none l

-- what a name finds before a variable of the call
found_before : (x : Word) (sc : Scope) (t : Ty) (P : Option Variable → Type 0) → ((v : Variable) → find_variable x sc ≡ Some v → P (Some v))
    → (find_variable x sc ≡ None → P (find_variable x (result_variable (Some t)))) → P (find_variable x (sc ++ result_variable (Some t)))
found_before x [] t P some none = none refl
found_before x (v ∷ vs) t P some none =
    elim (bytes_eq x v.name) as (λ b. ((w : Variable) → (if b then Some v else find_variable x vs) ≡ Some w → P (Some w))
    → ((if b then Some v else find_variable x vs) ≡ None → P (find_variable x (result_variable (Some t)))) → P (if b then Some v else find_variable x (vs ++ result_variable (Some t)))) [
      | true ↦ λ s n. s v refl
      | false ↦ λ s n. found_before x vs t P s n
    ] some none

no_result : (u : UnitItem) → AreDistinct (result_name ∷ map (λ d. d.name) u.globals) → (v : Variable) → find_variable result_name (unit_globals u) ≡ Some v → ⊥
no_result u distinct = go u.globals (λ m. distinct.0 m)
  where
    go : (ds : List Decl) → (IsAmong result_name (map (λ d. d.name) ds) → ⊥) → (v : Variable) → find_variable result_name (declared (ByUnit u.name) true ds) ≡ Some v → ⊥
    go [] none v e = cc
    go (d ∷ ds) none v e =
        go ds (λ m. none (inr m)) v
        (ap (λ b. if b then Some (record { name = d.name; owner = ByUnit u.name; ty = d.ty; is_assignable = true }) else find_variable result_name (declared (ByUnit u.name) true ds)) (sym (words_differ result_name d.name (λ same. none (inl same)))) ∙ e)

module _ (u : UnitItem) (t : Ty) (writes : List Effect) (distinct : AreDistinct (result_name ∷ map (λ d. d.name) u.globals)) (o : Owner) (y : Word)
    (other : o ≢ ByCall) (none : list_any (lists_variable (unit_globals u) o y) writes ≡ false) where
  abbrev the_result : Variable
  the_result = record { name = result_name; owner = ByCall; ty = t; is_assignable = true }

  -- an assigned variable is another one
  pub target_apart : (x : Word) → (x ≡ result_name) ⊎ IsListed writes x → (v : Value) (s : State)
      → (write_variable (find_variable x (unit_globals u ++ result_variable (Some t))) v s).vars o y ≡ s.vars o y
  target_apart x which v s =
      found_before x (unit_globals u) t (λ f. (write_variable f v s).vars o y ≡ s.vars o y)
      (λ w e. write_apart w v s o y (⊎_elim
      (λ is. absurd (no_result u distinct w (subst (λ z. find_variable z (unit_globals u) ≡ Some w) is e)))
      (λ l. subst (λ f. is_found o y f ≡ false) e (listed_apart (unit_globals u) o y x writes none l)) which))
      (λ e. elim (bytes_eq x result_name) as (λ b. (write_variable (if b then Some the_result else None) v s).vars o y ≡ s.vars o y) [
        | true ↦ write_apart the_result v s o y (not_the_calls o y result_name other)
        | false ↦ refl
      ])

-- ---- the end

pub final_keeps : (writes : List Effect) (tables : Tables) (sc : Scope) (o : Owner) (y : Word)
    → ((x : Word) → (x ≡ result_name) ⊎ IsListed writes x → (v : Value) (s : State) → (write_variable (find_variable x sc) v s).vars o y ≡ s.vars o y)
    → (b : Block) (s : State) → AssignsListed writes b → (final tables sc b s).vars o y ≡ s.vars o y
final_keeps writes tables sc o y apart End s l = refl
final_keeps writes tables sc o y apart (Then (At at (Assign x e)) cs) s l = final_keeps writes tables sc o y apart cs _ l.2 ∙ apart x l.0 _ s
final_keeps writes tables sc o y apart (Then c cs) s l = absurd l

location_same : (tables : Tables) (d : Option ClassField) (s t : State) (o : Obj) (f : Word) → t.alloc ≡ s.alloc → t.heap ≡ s.heap
    → LocationFits tables d s.alloc (s.heap o f) o → LocationFits tables d t.alloc (t.heap o f) o
location_same tables d s t o f a h l =
    subst (λ r. LocationFits tables d r (t.heap o f) o) (sym a) (subst (λ v. LocationFits tables d s.alloc v o) (ap (λ k. k o f) (sym h)) l)

within_same : (g h : Region) → h ≡ g → IsTrue (is_within g h)
within_same g h e = contains-is_subset obj_total g h (λ o here. subst (λ r. IsTrue (is_in o r)) (sym e) here)

holds_true : (tables : Tables) (sc : Scope) (p : Formula) (entry s : State) → p ≡ True → IsTrue (holds tables sc p entry s)
holds_true tables sc p entry s e = subst (λ f. IsTrue (holds tables sc f entry s)) (sym e) refl

module _ (tables : Tables) (u : UnitItem) (q : Proc) (distinct : AreDistinct (result_name ∷ map (λ d. d.name) u.globals)) (plain : IsPlainUnit u q) (s : State)
    (formed : IsWellFormed tables (pre_scope (unit_setting u q)) s) where
  abbrev the_setting : Setting
  the_setting = unit_setting u q

  abbrev entry : State
  entry = begin the_setting s

  abbrev end : State
  end = final tables (body_scope the_setting) q.body.commands entry

  end_alloc : end.alloc ≡ s.alloc
  end_alloc = final_alloc q.spec.writes tables (body_scope the_setting) q.body.commands entry plain.lists ∙ defaults_alloc (own_variables the_setting) s

  end_heap : end.heap ≡ s.heap
  end_heap = final_heap q.spec.writes tables (body_scope the_setting) q.body.commands entry plain.lists ∙ defaults_heap (own_variables the_setting) s

  keeps : (o : Owner) (y : Word) → o ≢ ByCall → IsFalse (may_change (unit_contract u q) o y) → end.vars o y ≡ entry.vars o y
  keeps o y other none =
      final_keeps q.spec.writes tables (body_scope the_setting) o y
      (subst (λ sc. (x : Word) → (x ≡ result_name) ⊎ IsListed q.spec.writes x → (v : Value) (t : State) → (write_variable (find_variable x sc) v t).vars o y ≡ t.vars o y)
      (sym (body_is u q plain.params plain.locals))
      (target_apart u q.result q.spec.writes distinct o y other (or_false _ none)))
      q.body.commands entry plain.lists

  pub ends_well : EndsWell tables (unit_contract u q) entry end
  ends_well = record {
    formed = record {
      variables =
          numbers_fit tables (body_scope the_setting) end (ints_all u q plain)
          (final_numbers q.spec.writes tables (body_scope the_setting) q.body.commands entry plain.lists (begin_numbers u q plain tables s formed));
      locations = λ o f. location_same tables (find_field tables f) s end o f end_alloc end_heap (formed.locations o f);
    };
    grown = within_same entry.alloc end.alloc (end_alloc ∙ sym (defaults_alloc (own_variables the_setting) s));
    ensures = (holds_true tables (post_scope the_setting) q.spec.gives.formula entry end plain.gives, tt);
    changes = record {
      variables = keeps;
      locations = λ o f here none. ap (λ h. h o f) (final_heap q.spec.writes tables (body_scope the_setting) q.body.commands entry plain.lists);
    };
  }

pub plain_meets : (tables : Tables) (u : UnitItem) (q : Proc) → AreDistinct (result_name ∷ map (λ d. d.name) u.globals) → IsPlainUnit u q
    → Meets (unit_program tables u) (unit_contract u q) q.body.commands
plain_meets tables u q distinct plain s start n k =
    let e = run_end q.spec.writes (unit_program tables u) n (code_of (unit_setting u q) false) q.body.commands (begin (unit_setting u q) s) k plain.lists in
    record {
      safe = λ bad. cc;
      ends = λ t m is.
          let same : final tables (body_scope (unit_setting u q)) q.body.commands (begin (unit_setting u q) s) ≡ t = cc in
          subst (EndsWell tables (unit_contract u q) (begin (unit_setting u q) s)) same (ends_well tables u q distinct plain s start.formed);
    }
