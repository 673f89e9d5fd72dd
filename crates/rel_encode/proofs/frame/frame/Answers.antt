-- The first variables of the scope are those that are framed.
use Rattle.std.proofs.Common.{◌≡◌, List, ◌++◌, IfOk, map, take, sym, ap, subst, ◌∙◌}
use Rattle.rel_lang.specs.Syntax.{Decl}
use Rattle.rel_lang.specs.View.{decl_of}
use Rattle.rel_logic.specs.View.{trm_of, fml_of}
use Rattle.rel_encode.specs.Numbers.{field_of}
use Rattle.rel_encode.specs.Formulas.{conj}
use Rattle.rel_encode.specs.Frame.{kept_variables, kept_fields}
use Rattle.rel_encode.specs.Changes.{numbers_before, scope_before, store_before, effects_of}
use Rattle.rel_encode.proofs.Gathered.{first_framed}
use Rattle.rel_encode.proofs.frame.frame.Goals as goal

pub returns : goal.returns
returns c =
    let change = c.args.change.now in
    let vars = λ (ds : List Decl). kept_variables (effects_of change) ds (map trm_of change.before.now.vars) (map trm_of change.after.now.vars) in
    let fields = kept_fields (numbers_before change) (scope_before change) (store_before change) (effects_of change)
    (map field_of change.names.now.fields.items.now) (map trm_of change.before.now.maps) (map trm_of change.after.now.maps) in
    let framed = first_framed decl_of c.as_slice-scope.result.now c.args.framed c.min-framed.result c.min-framed.ensures
    ∙ ap (λ xs. take c.args.framed (map decl_of xs)) c.as_slice-scope.ensures in
    let variables = c.in_ok-add_kept_variables.ensures ∙ ap (λ l. map fml_of l ++ vars (map decl_of (take c.min-framed.result c.as_slice-scope.result.now))) c.new-facts.ensures ∙ ap vars framed in
    subst (λ g. IfOk c.conj.result (λ f. fml_of f ≡ g)) (ap conj (c.in_ok-add_kept_fields.ensures ∙ ap (λ l. l ++ fields) variables)) c.conj.ensures
