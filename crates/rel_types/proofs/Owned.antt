-- What a body has of its own, and the names that it may not have.
use Rattle.std.proofs.Common.{◌≡◌, Bool, ◌||◌, List, [], ◌++◌, sym, ap, ap₂, ◌∙◌, subst, append-nil, refl}
use Rattle.std.specs.Prelude.{is_some}
use Rattle.std.proofs.lemmas.List.{map-append}
use Rattle.rel_lang.specs.Syntax.{Word, Decl}
use Rattle.rel_lang.specs.State.{Scope}
use Rattle.rel_lang.specs.Typed.{names_of}
use Rattle.rel_flaws.specs.Entries.{find_entry}
use Rattle.rel_flaws.specs.Inference.{is_among, is_in_scope}
use Rattle.rel_flaws.specs.View.{variables_seen}
use Rattle.rel_flaws.specs.declared.scope.Seen.{Seen}
use Rattle.rel_types.specs.Items.{repeats, declared_names}
use Rattle.rel_types.specs.Lookups.{SameLookups, SameNames}
use Rattle.rel_types.proofs.Declaring.{same_then, seen_in}
use Rattle.rel_types.proofs.Repeats.{among_both, named_in, same_names_after, repeats_same, repeats_both}

-- the locals, behind the parameters
pub repeated_locals : (before none own : List Word) (ps ls : List Decl) (b : Bool) → none ≡ [] → SameNames own (declared_names ps ++ none)
    → b ≡ repeats (own ++ before) (declared_names ls) → b ≡ repeats (declared_names ps ++ before) (declared_names ls)
repeated_locals before none own ps ls b is_none added second =
    let names : List Word = declared_names ps in
    let of_own : SameNames own names = λ x. added x ∙ ap (is_among x) (ap (λ l. names ++ l) is_none ∙ append-nil names) in
    second ∙ repeats_same (own ++ before) (names ++ before) (same_names_after own before names before of_own (λ x. refl)) (declared_names ls)

-- parameters, then locals
pub repeated_own : (before none own : List Word) (ps ls : List Decl) (a b : Bool) → none ≡ []
    → a ≡ repeats (none ++ before) (declared_names ps) → SameNames own (declared_names ps ++ none) → b ≡ repeats (own ++ before) (declared_names ls)
    → (a || b) ≡ repeats before (declared_names (ps ++ ls))
repeated_own before none own ps ls a b is_none first added second =
    ap₂ (λ x y. x || y) (first ∙ ap (λ l. repeats (l ++ before) (declared_names ps)) is_none) (repeated_locals before none own ps ls b is_none added second)
    ∙ sym (ap (repeats before) (map-append _ ps ls) ∙ repeats_both before (declared_names ps) (declared_names ls))

-- declared where nothing else is
pub alone : (after before extra base : Scope) → before ≡ [] → SameLookups after (before ++ extra) → SameLookups extra base → SameLookups after base
alone after before extra base is h k = same_then after extra base (subst (λ b. SameLookups after (b ++ extra)) is h) k

-- one of the globals has the name
pub of_global : (x : Word) (es fs : List (Word × Seen)) → (is_some (find_entry x es) || is_some (find_entry x fs)) ≡ is_in_scope x (variables_seen es ++ variables_seen fs)
of_global x es fs =
    ap₂ (λ a b. a || b) (seen_in x es ∙ named_in (variables_seen es) x) (seen_in x fs ∙ named_in (variables_seen fs) x)
    ∙ sym (named_in (variables_seen es ++ variables_seen fs) x ∙ ap (is_among x) (map-append _ (variables_seen es) (variables_seen fs))
    ∙ among_both x (names_of (variables_seen es)) (names_of (variables_seen fs)))
