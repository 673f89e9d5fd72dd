-- The first fault of a place and of what comes after it.
use Rattle.std.proofs.Common.{◌≡◌, Bool, ◌||◌, List, [], ◌++◌, Option, Some, None, option_map, refl, sym, ap, ap₂, ◌∙◌, subst, append-nil}
use Rattle.std.proofs.lemmas.List.Folds.{list_any-append}
use Rattle.rel_lang.specs.Syntax.{Word, Ty, Decl, Clause}
use Rattle.rel_lang.specs.State.{Tables, Scope}
use Rattle.rel_lang.specs.Scope.{Setting}
use Rattle.rel_flaws.specs.Flaws.{Flaws, flawless, Pass, Fault, first_of}
use Rattle.rel_flaws.specs.Inference.{names_unknown_class, have_unknown_types}
use Rattle.rel_flaws.specs.View.{variables_seen, fault_of}
use Rattle.rel_flaws.specs.declared.kind.Fault as T
use Rattle.rel_flaws.specs.declared.scope.Seen.{Seen}
use Rattle.rel_types.specs.Items.{clause_fault}
use Rattle.rel_types.specs.Lookups.{SameLookups}
use Rattle.rel_types.specs.OwnView.{decls_in, type_in, setting_of}
use Rattle.rel_types.specs.declared.around.Globals as G
use Rattle.rel_types.specs.declared.own.Own as O
use Rattle.rel_types.proofs.Settings.{clause_same}

-- ---- two in turn

-- the first has one
pub found_here : (r : Option T.Fault) (f : T.Fault) (a b : Option Fault) → r ≡ Some f → option_map fault_of r ≡ a → Some (fault_of f) ≡ first_of a b
found_here r f a b is here = ap (λ g. first_of g b) (sym (ap (option_map fault_of) is) ∙ here)

-- the first has none
pub found_next : (r s : Option T.Fault) (a b : Option Fault) → r ≡ None → option_map fault_of r ≡ a → option_map fault_of s ≡ b → option_map fault_of s ≡ first_of a b
found_next r s a b is here next = next ∙ ap (λ g. first_of g b) (sym (ap (option_map fault_of) is) ∙ here)

-- ---- flaws

pub declared_flaws : (f : Flaws) (t t' u u' : Bool) → f ≡ flawless → t ≡ t' → u ≡ u' → record f { twice = t; unknown = u } ≡ record flawless { twice = t'; unknown = u' }
declared_flaws f t t' u u' none h k =
    ap {A = Flaws} (λ g. record g { twice = t; unknown = u }) none ∙ ap₂ {C = Flaws} (λ a b. record flawless { twice = a; unknown = b }) h k

pub unknown_of_both : (tables : Tables) (ps ls : List Decl) (ty : Ty) (a b n : Bool) → a ≡ have_unknown_types tables ps → b ≡ have_unknown_types tables ls → n ≡ names_unknown_class tables ty
    → ((a || b) || n) ≡ (have_unknown_types tables (ps ++ ls) || names_unknown_class tables ty)
unknown_of_both tables ps ls ty a b n h k l = ap₂ (λ x y. x || y) (ap₂ (λ x y. x || y) h k ∙ sym (list_any-append _ ps ls)) l

-- ---- scopes

pub seen_same : (sc sd se : Scope) → sc ≡ sd → SameLookups sd se → SameLookups sc se
seen_same sc sd se e h = subst (λ s. SameLookups s se) (sym e) h

pub clause_seen : (tables : Tables) (pass : Pass) (old : Bool) (sc sd se : Scope) (c : Clause) → sc ≡ sd → SameLookups sd se
    → clause_fault tables pass old sc c ≡ clause_fault tables pass old se c
clause_seen tables pass old sc sd se c e h = clause_same tables pass old sc se (seen_same sc sd se e h) c

-- ---- settings

-- of a body with these variables of its own
pub setting_is : (g : G.Globals) (o : O.Own) (ps ls : List Decl) (r : Option Ty) → decls_in o.params ≡ ps → decls_in o.locals ≡ ls → type_in o ≡ r
    → setting_of g o ≡ record { interface = variables_seen g.interface.now; own = variables_seen g.own.now; parameters = ps; locals = ls; result = r }
setting_is g o ps ls r h k l =
    ap₂ {C = Setting} (λ qs ms. record { interface = variables_seen g.interface.now; own = variables_seen g.own.now; parameters = qs; locals = ms; result = type_in o }) h k
    ∙ ap {B = Setting} (λ t. record { interface = variables_seen g.interface.now; own = variables_seen g.own.now; parameters = ps; locals = ls; result = t }) l

-- nothing is seen
pub none_seen : (es : List (Word × Seen)) → es ≡ [] → SameLookups (variables_seen es) []
none_seen es e = seen_same (variables_seen es) [] [] (ap variables_seen e) (λ x. refl)

pub no_globals : (es : List (Word × Seen)) → es ≡ [] → SameLookups (variables_seen es ++ variables_seen es) []
no_globals es e = seen_same (variables_seen es ++ variables_seen es) [] [] (ap (λ l. variables_seen l ++ variables_seen l) e) (λ x. refl)

-- one layer, and an empty one behind it
pub alone_seen : (es none : List (Word × Seen)) (sc : Scope) → none ≡ [] → SameLookups (variables_seen es) sc → SameLookups (variables_seen es ++ variables_seen none) sc
alone_seen es none sc e h =
    seen_same (variables_seen es ++ variables_seen none) (variables_seen es) sc (ap (λ l. variables_seen es ++ variables_seen l) e ∙ append-nil (variables_seen es)) h
