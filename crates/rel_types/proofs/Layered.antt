-- What the layers of a body's variables give.
use Rattle.std.proofs.Common.{◌≡◌, true, [], ◌++◌, sym, subst, append-nil}
use Rattle.rel_lang.specs.State.{Scope, ByCall}
use Rattle.rel_lang.specs.Scope.{Setting, declared, result_variable, globals_of, parameters_of, pre_scope, post_scope, body_scope}
use Rattle.rel_types.specs.Lookups.{SameLookups}
use Rattle.rel_types.proofs.Lookups.{same_after}
use Rattle.rel_types.proofs.Declaring.{same_self}
use Rattle.rel_types.proofs.Settings.{pre_same, post_same, body_same}

-- the three scopes of a setting, by what the layers have; `none` has nothing
pub layers_pre : (g : Setting) (params none : Scope) → SameLookups params (parameters_of g) → none ≡ [] → SameLookups (globals_of g ++ (params ++ (none ++ none))) (pre_scope g)
layers_pre g params none h is =
    pre_same g (globals_of g) (params ++ (none ++ none)) (same_self (globals_of g))
    (subst (λ n. SameLookups (params ++ (n ++ n)) (parameters_of g)) (sym is) (subst (λ s. SameLookups s (parameters_of g)) (sym (append-nil params)) h))

pub layers_post : (g : Setting) (params none result : Scope) → SameLookups params (parameters_of g) → none ≡ [] → SameLookups result (result_variable g.result)
    → SameLookups (globals_of g ++ (params ++ (none ++ result))) (post_scope g)
layers_post g params none result h is k =
    post_same g (globals_of g) (params ++ (none ++ result)) (same_self (globals_of g))
    (subst (λ n. SameLookups (params ++ (n ++ result)) (parameters_of g ++ result_variable g.result)) (sym is)
    (same_after params result (parameters_of g) (result_variable g.result) h k))

pub layers_body : (g : Setting) (params locals result : Scope) → SameLookups params (parameters_of g) → SameLookups locals (declared ByCall true g.locals)
    → SameLookups result (result_variable g.result) → SameLookups (globals_of g ++ (params ++ (locals ++ result))) (body_scope g)
layers_body g params locals result h k l =
    body_same g (globals_of g) (params ++ (locals ++ result)) (same_self (globals_of g))
    (same_after params (locals ++ result) (parameters_of g) (declared ByCall true g.locals ++ result_variable g.result) h
    (same_after locals result (declared ByCall true g.locals) (result_variable g.result) k l))
