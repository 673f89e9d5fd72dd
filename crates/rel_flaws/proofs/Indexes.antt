-- Looking up in an index is looking up in the list that it stands for.
use Rattle.std.proofs.Common.{◌≡◌, ℕ, true, false, List, [], ◌∷◌, ◌++◌, map, fold, Option, Some, None, option_map, ◌+◌, ◌<◌, length, get_or, take, sym, ap, refl, ◌∙◌}
use Rattle.std.specs.Prelude.{bytes_eq, is_some, if◌then◌else◌, ◌||◌}
use Rattle.std.specs.List.{list_any}
use Rattle.std.specs.Map.{lookup, set_value}
use Rattle.indexmap.specs.IndexMap.{insert_entry}
use Rattle.std.proofs.lemmas.List.{take_more}
use Rattle.std.proofs.lemmas.Slice.Eq.{bytes_eq-Decides}
use denote.Ref.{Bor}
use Rattle.rel_lang.specs.Syntax.{Word}
use Rattle.rel_lang.specs.State.{find_named, find_variable, Scope, Variable}
use Rattle.rel_lang.specs.Truth.{quantified}
use Rattle.rel_flaws.specs.Entries.{find_entry, with_entry, with_value, last_first}
use Rattle.rel_flaws.specs.View.{field_of, variable_of, variables_seen, layers_seen, scope_of}
use Rattle.rel_flaws.specs.declared.scope.SeenField.{SeenField}
use Rattle.rel_flaws.specs.declared.scope.Seen.{Seen}
use Rattle.rel_flaws.specs.declared.scope.Scope as S

pub some_of_map : {A B : Type 0} (f : A → B) (o : Option A) → is_some (option_map f o) ≡ is_some o
some_of_map f None = refl
some_of_map f (Some a) = refl

-- ---- what `indexmap` finds and adds

abbrev pub entries : {V : Type 0} → List (Bor (List ℕ) × V) → List (Word × V)
entries es = map (λ e. (e.0.now, e.1)) es

pub looked_up : {V : Type 0} (x : Word) (es : List (Bor (List ℕ) × V)) → lookup (λ k. bytes_eq x k.now) es ≡ find_entry x (entries es)
looked_up x [] = refl
looked_up x (e ∷ es) =
    ap (λ o. if bytes_eq x e.0.now then Some e.1 else o) (looked_up x es)

pub added : {V : Type 0} (k : Bor (List ℕ)) (v : V) (es : List (Bor (List ℕ) × V)) → is_some (find_entry k.now (entries es)) ≡ false
    → entries (insert_entry (λ x y. bytes_eq x.now y.now) es k v) ≡ with_entry (entries es) k.now v
added k v [] h = refl
added k v (e ∷ es) h =
    (elim (bytes_eq k.now e.0.now) as (λ b. is_some (if b then Some e.1 else find_entry k.now (entries es)) ≡ false
    → entries (if b then (e.0, v) ∷ es else e ∷ insert_entry (λ x y. bytes_eq x.now y.now) es k v) ≡ (if b then (e.0.now, e.1) ∷ entries es else (e.0.now, e.1) ∷ with_entry (entries es) k.now v)) [
      | true ↦ λ f. (cc)
      | false ↦ λ f. ap (λ r. (e.0.now, e.1) ∷ r) (added k v es f)
    ]) h

pub replaced : {V : Type 0} (x : Word) (v : V) (es : List (Bor (List ℕ) × V)) → entries (set_value (λ k. bytes_eq x k.now) es v) ≡ with_value (entries es) x v
replaced x v [] = refl
replaced x v (e ∷ es) =
    elim (bytes_eq x e.0.now) as (λ b. entries (if b then (e.0, v) ∷ es else e ∷ set_value (λ k. bytes_eq x k.now) es v) ≡ (if b then (e.0.now, v) ∷ entries es else (e.0.now, e.1) ∷ with_value (entries es) x v)) [
      | true ↦ refl
      | false ↦ ap (λ r. (e.0.now, e.1) ∷ r) (replaced x v es)
    ]

pub absent : {V : Type 0} (x : Word) (v : V) (es : List (Word × V)) → None ≡ find_entry x es → with_value es x v ≡ es
absent x v [] h = refl
absent x v (e ∷ es) h =
    (elim (bytes_eq x e.0) as (λ b. None ≡ (if b then Some e.1 else find_entry x es) → (if b then (e.0, v) ∷ es else e ∷ with_value es x v) ≡ e ∷ es) [
      | true ↦ λ f. cc
      | false ↦ λ f. ap (λ r. e ∷ r) (absent x v es f)
    ]) h

pub kept : {V : Type 0} (x : Word) (v : V) (es : List (Word × V)) → is_some (find_entry x es) ≡ true → with_entry es x v ≡ es
kept x v [] h = cc
kept x v (e ∷ es) h =
    (elim (bytes_eq x e.0) as (λ b. is_some (if b then Some e.1 else find_entry x es) ≡ true → (if b then e ∷ es else e ∷ with_entry es x v) ≡ e ∷ es) [
      | true ↦ λ f. refl
      | false ↦ λ f. ap (λ r. e ∷ r) (kept x v es f)
    ]) h

-- ---- what the lists give

pub is_listed : {V : Type 0} (x : Word) (es : List (Word × V)) → is_some (find_entry x es) ≡ list_any (λ y. bytes_eq x y) (map (λ e. e.0) es)
is_listed x [] = refl
is_listed x (e ∷ es) =
    elim (bytes_eq x e.0) as (λ b. is_some (if b then Some e.1 else find_entry x es) ≡ (b || list_any (λ y. bytes_eq x y) (map (λ d. d.0) es))) [
      | true ↦ refl
      | false ↦ is_listed x es
    ]

pub found_field : (x : Word) (es : List (Word × SeenField)) → option_map (field_of x) (find_entry x es) ≡ find_named (λ d. d.name) x (map (λ e. field_of e.0 e.1) es)
found_field x [] = refl
found_field x (e ∷ es) =
    (elim (bytes_eq x e.0) as (λ b. bytes_eq x e.0 ≡ b → option_map (field_of x) (if b then Some e.1 else find_entry x es)
    ≡ (if b then Some (field_of e.0 e.1) else find_named (λ d. d.name) x (map (λ d. field_of d.0 d.1) es))) [
      | true ↦ λ same. ap (λ y. Some (field_of y e.1)) ((bytes_eq-Decides x e.0).0 same)
      | false ↦ λ differs. found_field x es
    ]) refl

-- in front of other variables
abbrev pub before : Option Variable → Option Variable → Option Variable
before None o = o
before (Some v) o = Some v

found_variable : (x : Word) (es : List (Word × Seen)) (rest : Scope)
    → find_variable x (map (λ e. variable_of e.0 e.1) es ++ rest) ≡ before (option_map (variable_of x) (find_entry x es)) (find_variable x rest)
found_variable x [] rest = refl
found_variable x (e ∷ es) rest =
    (elim (bytes_eq x e.0) as (λ b. bytes_eq x e.0 ≡ b → (if b then Some (variable_of e.0 e.1) else find_variable x (map (λ d. variable_of d.0 d.1) es ++ rest))
    ≡ before (option_map (variable_of x) (if b then Some e.1 else find_entry x es)) (find_variable x rest)) [
      | true ↦ λ same. ap (λ y. Some (variable_of y e.1)) (sym ((bytes_eq-Decides x e.0).0 same))
      | false ↦ λ differs. found_variable x es rest
    ]) refl

found_quantified : (x : Word) (qs : List (Word × Word)) (rest : Scope)
    → find_variable x (map (λ q. quantified q.0 q.1) qs ++ rest) ≡ before (option_map (quantified x) (find_entry x qs)) (find_variable x rest)
found_quantified x [] rest = refl
found_quantified x (q ∷ qs) rest =
    (elim (bytes_eq x q.0) as (λ b. bytes_eq x q.0 ≡ b → (if b then Some (quantified q.0 q.1) else find_variable x (map (λ d. quantified d.0 d.1) qs ++ rest))
    ≡ before (option_map (quantified x) (if b then Some q.1 else find_entry x qs)) (find_variable x rest)) [
      | true ↦ λ same. ap (λ y. Some (quantified y q.1)) (sym ((bytes_eq-Decides x q.0).0 same))
      | false ↦ λ differs. found_quantified x qs rest
    ]) refl

found_in_both : (x : Word) (sc rest : Scope) → find_variable x (sc ++ rest) ≡ before (find_variable x sc) (find_variable x rest)
found_in_both x [] rest = refl
found_in_both x (v ∷ sc) rest =
    elim (bytes_eq x v.name) as (λ b. (if b then Some v else find_variable x (sc ++ rest)) ≡ before (if b then Some v else find_variable x sc) (find_variable x rest)) [
      | true ↦ refl
      | false ↦ found_in_both x sc rest
    ]

pub found_last : (x : Word) (es : List (Word × Seen)) → find_variable x (map (λ e. variable_of e.0 e.1) es) ≡ option_map (variable_of x) (find_entry x es)
found_last x [] = refl
found_last x (e ∷ es) =
    (elim (bytes_eq x e.0) as (λ b. bytes_eq x e.0 ≡ b → (if b then Some (variable_of e.0 e.1) else find_variable x (map (λ d. variable_of d.0 d.1) es))
    ≡ option_map (variable_of x) (if b then Some e.1 else find_entry x es)) [
      | true ↦ λ same. ap (λ y. Some (variable_of y e.1)) (sym ((bytes_eq-Decides x e.0).0 same))
      | false ↦ λ differs. found_last x es
    ]) refl

-- in front of a list of variables, or behind it
pub in_front_of : (x : Word) (es : List (Word × Seen)) (rest : Scope) (v : Seen) → Some v ≡ find_entry x es → Some (variable_of x v) ≡ find_variable x (variables_seen es ++ rest)
in_front_of x es rest v e = ap (λ o. before (option_map (variable_of x) o) (find_variable x rest)) e ∙ sym (found_variable x es rest)

pub behind : (x : Word) (es : List (Word × Seen)) (rest : Scope) → None ≡ find_entry x es → find_variable x rest ≡ find_variable x (variables_seen es ++ rest)
behind x es rest e = ap (λ o. before (option_map (variable_of x) o) (find_variable x rest)) e ∙ sym (found_variable x es rest)

-- in front of other variables, or behind some of which none has the name
pub found_first : (x : Word) (sc rest : Scope) (v : Variable) → Some v ≡ find_variable x sc → Some v ≡ find_variable x (sc ++ rest)
found_first x sc rest v e = ap (λ o. before o (find_variable x rest)) e ∙ sym (found_in_both x sc rest)

pub found_next : (x : Word) (sc rest : Scope) → None ≡ find_variable x sc → find_variable x rest ≡ find_variable x (sc ++ rest)
found_next x sc rest e = ap (λ o. before o (find_variable x rest)) e ∙ sym (found_in_both x sc rest)

-- a quantified name, or none of them
pub in_front : (x : Word) (s : S.Scope) (k : Word) → Some k ≡ find_entry x s.quantified → Some (quantified x k) ≡ find_variable x (scope_of s)
in_front x s k e =
    ap (λ o. before (option_map (quantified x) o) (find_variable x (layers_seen s.layers))) e ∙ sym (found_quantified x s.quantified (layers_seen s.layers))

pub behind_quantified : (x : Word) (s : S.Scope) → None ≡ find_entry x s.quantified → find_variable x (layers_seen s.layers) ≡ find_variable x (scope_of s)
behind_quantified x s e =
    ap (λ o. before (option_map (quantified x) o) (find_variable x (layers_seen s.layers))) e ∙ sym (found_quantified x s.quantified (layers_seen s.layers))

-- ---- quantified names

pub pushed : (qs : List (Bor Word × Bor Word)) (q : Bor Word × Bor Word) → last_first (qs ++ q ∷ []) ≡ (q.0.now, q.1.now) ∷ last_first qs
pushed qs q = onto qs []
  where
    onto : (qs : List (Bor Word × Bor Word)) (done : List (Word × Word))
        → fold (λ d p. (p.0.now, p.1.now) ∷ d) done (qs ++ q ∷ []) ≡ (q.0.now, q.1.now) ∷ fold (λ d p. (p.0.now, p.1.now) ∷ d) done qs
    onto [] done = refl
    onto (p ∷ ps) done = onto ps ((p.0.now, p.1.now) ∷ done)

pub one_more : (qs : List (Bor Word × Bor Word)) (i : ℕ) (d : Bor Word × Bor Word) → i < length qs
    → last_first (take (i + 1) qs) ≡ ((get_or qs i d).0.now, (get_or qs i d).1.now) ∷ last_first (take i qs)
one_more qs i d h = ap last_first (take_more qs i d h) ∙ pushed (take i qs) (get_or qs i d)

-- one step of the search for a name
pub step_found : (x : Word) (qs : List (Bor Word × Bor Word)) (i : ℕ) (d : Bor Word × Bor Word) → i < length qs
    → bytes_eq x (get_or qs i d).0.now ≡ true → Some (get_or qs i d).1.now ≡ find_entry x (last_first (take (i + 1) qs))
step_found x qs i d h e = rw (one_more qs i d h, e) refl

pub step_passed : (x : Word) (qs : List (Bor Word × Bor Word)) (i : ℕ) (d : Bor Word × Bor Word) → i < length qs
    → bytes_eq x (get_or qs i d).0.now ≡ false → find_entry x (last_first (take i qs)) ≡ find_entry x (last_first (take (i + 1) qs))
step_passed x qs i d h e = rw (one_more qs i d h, e) refl

pub ruleset indexes = (some_of_map, looked_up, added, kept, is_listed, found_field)
