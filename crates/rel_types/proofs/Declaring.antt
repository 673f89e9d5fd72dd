-- Scopes that give the same for each name, and what declarations add.
use Rattle.std.proofs.Common.{◌≡◌, ℕ, ◌<◌, ◌+◌, Bool, true, false, if◌then◌else◌, List, [], ◌∷◌, ◌++◌, map, take, get_or, length, Option, Some, None, option_map, refl, sym, ap, ◌∙◌, subst, append_assoc}
use Rattle.std.specs.Prelude.{bytes_eq, is_some}
use Rattle.std.proofs.lemmas.Slice.Eq.{bytes_eq-Decides}
use Rattle.std.proofs.lemmas.List.{take_more, map-append}
use Rattle.rel_lang.specs.Syntax as syntax
use Rattle.rel_lang.specs.Syntax.{Word}
use Rattle.rel_lang.specs.State.{Owner, ByQuantifier, Scope, Variable, find_variable}
use Rattle.rel_lang.specs.Scope.{declared}
use Rattle.rel_lang.specs.View.{decl_of}
use Rattle.rel_lang.specs.declared.bundle.Decl.{Decl}
use Rattle.rel_flaws.specs.Inference.{is_in_scope}
use Rattle.rel_flaws.specs.Entries.{find_entry, with_entry}
use Rattle.rel_flaws.specs.View.{variable_of, variables_seen}
use Rattle.rel_types.specs.Lookups.{without_owner, SameLookups}
use Rattle.rel_flaws.specs.declared.scope.Seen.{Seen}
use Rattle.rel_types.proofs.Lookups.{or_else, found_before, same_after}

-- ---- scopes

pub same_self : (sc : Scope) → SameLookups sc sc
same_self sc x = refl

pub same_then : (sc sd se : Scope) → SameLookups sc sd → SameLookups sd se → SameLookups sc se
same_then sc sd se h k x = h x ∙ k x

-- whoever owns them
pub same_declared : (o p : Owner) (is_assignable : Bool) (ds : List syntax.Decl) → SameLookups (declared o is_assignable ds) (declared p is_assignable ds)
same_declared o p b [] x = refl
same_declared o p b (d ∷ ds) x =
    elim (bytes_eq x d.name) as (λ e. option_map without_owner (if e then Some (record { name = d.name; owner = o; ty = d.ty; is_assignable = b }) else find_variable x (declared o b ds))
    ≡ option_map without_owner (if e then Some (record { name = d.name; owner = p; ty = d.ty; is_assignable = b }) else find_variable x (declared p b ds))) [
      | true ↦ refl
      | false ↦ same_declared o p b ds x
    ]

-- ---- one more name

or_none : (o : Option Variable) → or_else o None ≡ o
or_none None = refl
or_none (Some v) = refl

-- one of another name, which is last
not_last : (x : Word) (sc : Scope) (w : Variable) → bytes_eq x w.name ≡ false → find_variable x (sc ++ w ∷ []) ≡ find_variable x sc
not_last x sc w h =
    found_before x sc (w ∷ []) ∙ ap (or_else (find_variable x sc)) (ap {A = Bool} (λ b. if b then Some w else None) h) ∙ or_none (find_variable x sc)

inserted : (es : List (Word × Seen)) (y : Word) (v : Seen) (x : Word) → find_variable x (variables_seen (with_entry es y v)) ≡ find_variable x (variables_seen es ++ variable_of y v ∷ [])
inserted [] y v x = refl
inserted (e ∷ es) y v x =
    (elim (bytes_eq y e.0) as (λ b. bytes_eq y e.0 ≡ b
    → find_variable x (variables_seen (if b then e ∷ es else e ∷ with_entry es y v)) ≡ find_variable x (variables_seen (e ∷ es) ++ variable_of y v ∷ [])) [
      | true ↦ λ same. there ((bytes_eq-Decides y e.0).0 same)
      | false ↦ λ differs. elim (bytes_eq x e.0) as (λ c. (if c then Some (variable_of e.0 e.1) else find_variable x (variables_seen (with_entry es y v)))
          ≡ (if c then Some (variable_of e.0 e.1) else find_variable x (variables_seen es ++ variable_of y v ∷ []))) [
            | true ↦ refl
            | false ↦ inserted es y v x
          ]
    ]) refl
  where
    there : y ≡ e.0 → find_variable x (variables_seen (e ∷ es)) ≡ find_variable x (variables_seen (e ∷ es) ++ variable_of y v ∷ [])
    there same =
        (elim (bytes_eq x e.0) as (λ c. bytes_eq x e.0 ≡ c → (if c then Some (variable_of e.0 e.1) else find_variable x (variables_seen es))
        ≡ (if c then Some (variable_of e.0 e.1) else find_variable x (variables_seen es ++ variable_of y v ∷ []))) [
          | true ↦ λ is. refl
          | false ↦ λ isnt. sym (not_last x (variables_seen es) (variable_of y v) (ap (bytes_eq x) same ∙ isnt))
        ]) refl

pub insert_same : (es : List (Word × Seen)) (y : Word) (v : Seen) (w : Variable) → variable_of y v ≡ w → SameLookups (variables_seen (with_entry es y v)) (variables_seen es ++ w ∷ [])
insert_same es y v w e x = ap (option_map without_owner) (inserted es y v x ∙ ap (λ u. find_variable x (variables_seen es ++ u ∷ [])) e)

-- ---- a list of declarations

-- the first so many declarations, and the next
pub more_declared : (after before base : Scope) (is_assignable : Bool) (ds : List Decl) (i : ℕ) (d : Decl) → i < length ds → d ≡ get_or ds i d
    → SameLookups before (base ++ declared ByQuantifier is_assignable (map decl_of (take i ds)))
    → SameLookups after (before ++ declared ByQuantifier is_assignable (decl_of d ∷ []))
    → SameLookups after (base ++ declared ByQuantifier is_assignable (map decl_of (take (i + 1) ds)))
more_declared after before base b ds i d h is old new =
    let first : Scope = declared ByQuantifier b (map decl_of (take i ds)) in
    let last : Scope = declared ByQuantifier b (decl_of d ∷ []) in
    let parts : (first ++ last) ≡ declared ByQuantifier b (map decl_of (take (i + 1) ds)) =
    sym (ap (λ l. declared ByQuantifier b (map decl_of l)) (take_more ds i d h ∙ ap (λ a. take i ds ++ a ∷ []) (sym is))
    ∙ ap (declared ByQuantifier b) (map-append decl_of (take i ds) (d ∷ []))
    ∙ map-append _ (map decl_of (take i ds)) (decl_of d ∷ [])) in
    subst (SameLookups after) (append_assoc base first last ∙ ap (λ s. base ++ s) parts)
    (same_then after (before ++ last) ((base ++ first) ++ last) new (same_after before last (base ++ first) last old (same_self last)))

-- ---- what an index has

pub seen_in : (x : Word) (es : List (Word × Seen)) → is_some (find_entry x es) ≡ is_in_scope x (variables_seen es)
seen_in x [] = refl
seen_in x (e ∷ es) =
    elim (bytes_eq x e.0) as (λ b. is_some (if b then Some e.1 else find_entry x es) ≡ is_some (if b then Some (variable_of e.0 e.1) else find_variable x (variables_seen es))) [
      | true ↦ refl
      | false ↦ seen_in x es
    ]
