-- What the scopes of a setting give, and what is said of clauses, places and effects.
use Rattle.std.proofs.Common.{◌≡◌, Bool, not, List, [], ◌∷◌, ◌++◌, refl, sym, ap, ap₂, subst, append_assoc}
use Rattle.rel_lang.specs.Syntax.{Place, Effect, Global, Locations, Clause, RelClause}
use Rattle.rel_lang.specs.State.{Tables, Scope}
use Rattle.rel_lang.specs.Scope.{Setting, result_variable, globals_of, parameters_of, own_variables, pre_scope, post_scope, body_scope}
use Rattle.rel_flaws.specs.Flaws.{Flaws, either, Pass, fault_at}
use Rattle.rel_flaws.specs.Inference.{is_field}
use Rattle.rel_flaws.specs.Code.{unknown_where}
use Rattle.rel_types.specs.Items.{flaws_of_place, flaws_of_effect, flaws_of_all, clause_fault, rel_clause_fault}
use Rattle.rel_types.specs.Lookups.{SameLookups}
use Rattle.rel_types.proofs.Lookups.{same_after, in_same, formula_same, rel_same, region_same}

-- ---- scopes

pub pre_same : (g : Setting) (globals own : Scope) → SameLookups globals (globals_of g) → SameLookups own (parameters_of g) → SameLookups (globals ++ own) (pre_scope g)
pre_same g globals own h k = same_after globals own (globals_of g) (parameters_of g) h k

pub post_same : (g : Setting) (globals own : Scope) → SameLookups globals (globals_of g) → SameLookups own (parameters_of g ++ result_variable g.result) → SameLookups (globals ++ own) (post_scope g)
post_same g globals own h k =
    subst (SameLookups (globals ++ own)) (sym (append_assoc (globals_of g) (parameters_of g) (result_variable g.result)))
    (same_after globals own (globals_of g) (parameters_of g ++ result_variable g.result) h k)

pub body_same : (g : Setting) (globals own : Scope) → SameLookups globals (globals_of g) → SameLookups own (parameters_of g ++ own_variables g) → SameLookups (globals ++ own) (body_scope g)
body_same g globals own h k =
    subst (SameLookups (globals ++ own)) (sym (append_assoc (globals_of g) (parameters_of g) (own_variables g)))
    (same_after globals own (globals_of g) (parameters_of g ++ own_variables g) h k)

-- ---- clauses, places and effects

pub clause_same : (tables : Tables) (pass : Pass) (old : Bool) (sc sd : Scope) → SameLookups sc sd → (c : Clause) → clause_fault tables pass old sc c ≡ clause_fault tables pass old sd c
clause_same tables pass old sc sd h c = ap (fault_at pass c.at) (formula_same tables old sc sd h c.formula)

pub rel_clause_same : (tables : Tables) (pass : Pass) (old : Bool) (l l' r r' : Scope) → SameLookups l l' → SameLookups r r' → (c : RelClause)
    → rel_clause_fault tables pass old l r c ≡ rel_clause_fault tables pass old l' r' c
rel_clause_same tables pass old l l' r r' h k c = ap (fault_at pass c.at) (rel_same tables old l l' r r' h k c.formula)

pub place_same : (tables : Tables) (sc sd : Scope) → SameLookups sc sd → (p : Place) → flaws_of_place tables sc p ≡ flaws_of_place tables sd p
place_same tables sc sd h p = ap (either (unknown_where (not (is_field tables p.field)))) (region_same tables sc sd h p.region)

pub effect_same : (tables : Tables) (g g' sc sd : Scope) → SameLookups g g' → SameLookups sc sd → (e : Effect) → flaws_of_effect tables g sc e ≡ flaws_of_effect tables g' sd e
effect_same tables g g' sc sd h k (Global x) = ap (λ b. unknown_where (not b)) (in_same g g' h x)
effect_same tables g g' sc sd h k (Locations p) = place_same tables sc sd k p

-- flaws that agree on each member agree on all
pub all_same : {X : Type 0} (tables : Tables) (f g : X → Flaws) → ((x : X) → f x ≡ g x) → (xs : List X) → flaws_of_all tables f xs ≡ flaws_of_all tables g xs
all_same tables f g h [] = refl
all_same tables f g h (x ∷ xs) = ap₂ either (h x) (all_same tables f g h xs)
