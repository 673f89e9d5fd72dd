-- What a body in a module declares again of its own doing.
use Rattle.std.proofs.Common.{◌≡◌, ℕ, ◌<◌, ◌+◌, Bool, false, ◌||◌, List, [], ◌∷◌, ◌++◌, map, take, get_or, length, refl, sym, ap, ap₂, ◌∙◌}
use Rattle.std.specs.Prelude.{is_some}
use Rattle.std.specs.List.{list_any}
use Rattle.std.proofs.lemmas.Bool.{or_parts}
use Rattle.std.proofs.lemmas.List.{take_more, map-append}
use Rattle.std.proofs.lemmas.List.Folds.{list_any-append}
use Rattle.rel_lang.specs.Syntax.{Word, Decl}
use Rattle.rel_lang.specs.State.{Scope}
use Rattle.rel_lang.specs.Scope.{Setting, result_name, globals_of}
use Rattle.rel_lang.specs.Typed.{names_of}
use Rattle.rel_lang.specs.View.{decl_of}
use Rattle.rel_lang.specs.declared.bundle.Decl as D
use Rattle.rel_flaws.specs.Entries.{find_entry}
use Rattle.rel_flaws.specs.Inference.{is_among, is_in_scope}
use Rattle.rel_flaws.specs.View.{variables_seen}
use Rattle.rel_flaws.specs.declared.scope.Seen.{Seen}
use Rattle.rel_types.specs.Items.{repeats, declared_names, seen_by_members, clashes_in_module}
use Rattle.rel_types.specs.Lookups.{SameLookups}
use Rattle.rel_types.proofs.Lookups.{in_same}
use Rattle.rel_types.proofs.Declaring.{seen_in}
use Rattle.rel_types.proofs.Repeats.{or_false, among_both, named_in, repeats_both}

-- ---- a body whose parameters are right in the interface

-- names that are right behind some others are seen again behind more where they are among these
repeats_beside : (s t xs : List Word) → repeats s xs ≡ false → repeats (s ++ t) xs ≡ list_any (λ x. is_among x t) xs
repeats_beside s t [] e = refl
repeats_beside s t (x ∷ xs) e =
    let parts = or_parts (is_among x s) (repeats (x ∷ s) xs) e in
    ap₂ (λ a b. a || b) (among_both x s t ∙ ap (λ b. b || is_among x t) parts.0) (repeats_beside (x ∷ s) t xs parts.1)

declared_in : (sc : Scope) (ds : List Decl) → list_any (λ x. is_among x (names_of sc)) (declared_names ds) ≡ list_any (λ d. is_in_scope d.name sc) ds
declared_in sc [] = refl
declared_in sc (d ∷ ds) = ap₂ (λ a b. a || b) (sym (named_in sc d.name)) (declared_in sc ds)

pub clashes_are_repeats : (g : Setting) → repeats (seen_by_members g.interface) (declared_names g.parameters) ≡ false
    → repeats (seen_by_members (globals_of g)) (declared_names (g.parameters ++ g.locals)) ≡ clashes_in_module g
clashes_are_repeats g right =
    ap (repeats (seen_by_members (globals_of g))) (map-append _ g.parameters g.locals)
    ∙ repeats_both (seen_by_members (globals_of g)) (declared_names g.parameters) (declared_names g.locals)
    ∙ ap (λ b. b || repeats (declared_names g.parameters ++ seen_by_members (globals_of g)) (declared_names g.locals))
    (ap (λ ns. repeats (result_name ∷ ns) (declared_names g.parameters)) (map-append _ g.interface g.own)
    ∙ repeats_beside (seen_by_members g.interface) (names_of g.own) (declared_names g.parameters) right ∙ declared_in g.own g.parameters)

-- ---- globals that are the same

pub declared_same : (sc sd : Scope) → SameLookups sc sd → (ds : List Decl) → list_any (λ d. is_in_scope d.name sc) ds ≡ list_any (λ d. is_in_scope d.name sd) ds
declared_same sc sd h [] = refl
declared_same sc sd h (d ∷ ds) = ap₂ (λ a b. a || b) (in_same sc sd h d.name) (declared_same sc sd h ds)

-- ---- a loop over declarations

-- one more of them
pub one_more_named : (es : List (Word × Seen)) (ds : List D.Decl) (i : ℕ) (d : D.Decl) (name : Word) (found has : Bool) → i < length ds → d ≡ get_or ds i d
    → name ≡ d.name → has ≡ is_some (find_entry name es) → found ≡ list_any (λ e. is_in_scope e.name (variables_seen es)) (map decl_of (take i ds))
    → (found || has) ≡ list_any (λ e. is_in_scope e.name (variables_seen es)) (map decl_of (take (i + 1) ds))
one_more_named es ds i d name found has h is same asked gone =
    ap₂ (λ a b. a || b) gone (asked ∙ seen_in name es ∙ ap (λ x. is_in_scope x (variables_seen es)) same ∙ sym (or_false (is_in_scope d.name (variables_seen es))))
    ∙ sym (
    ap (λ l. list_any (λ e. is_in_scope e.name (variables_seen es)) (map decl_of l)) (take_more ds i d h ∙ ap (λ a. take i ds ++ a ∷ []) (sym is))
    ∙ ap (list_any (λ e. is_in_scope e.name (variables_seen es))) (map-append decl_of (take i ds) (d ∷ []))
    ∙ list_any-append _ (map decl_of (take i ds)) (decl_of d ∷ [])
    )
