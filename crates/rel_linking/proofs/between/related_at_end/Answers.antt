use Rattle.std.proofs.Common.{◌≡◌, IfOk, map, ap, subst, ◌∙◌}
use Rattle.rel_lang.specs.View as trees
use Rattle.rel_lang.specs.View.{decl_of}
use Rattle.rel_logic.specs.View.{fml_of}
use Rattle.rel_encode.specs.Relations.{rel_of}
use Rattle.rel_encode.specs.View.{pair_store_of}
use Rattle.rel_linking.proofs.Equations.{on_ok, stores_are, hyps_are}
use Rattle.rel_linking.proofs.between.related_at_end.Goals as goal

pub returns-clause-goal : goal.returns-clause-goal
returns-clause-goal c =
    let left = ap (map decl_of) c.in_ok-left_places.ensures ∙ c.in_ok-left_scope.ensures in
    let right = ap (map decl_of) c.in_ok-right_places.ensures ∙ c.in_ok-right_scope.ensures in
    let stores = ap pair_store_of c.get.ensures
    ∙ stores_are c.args.left.now c.args.right.now c.args.left_block.now c.args.right_block.now _ _ (pair_store_of c.in_ok-stores.stores) c.new-first.result.first_fresh
    left right c.in_ok-stores.ensures (ap (λ l. l.first_fresh) c.new-first.ensures) _ c.in_ok-ended.ensures.stores in
    subst (λ x. IfOk c.relation_outside.result (λ f. fml_of f ≡ x)) (λ i. rel_of (c.requires.numbers i) (left i) (right i) (trees.rel_of c.args.gives.now) (stores i)) c.relation_outside.ensures

pub returns-clause-hyps : goal.returns-clause-hyps
returns-clause-hyps c =
    let left = ap (map decl_of) c.in_ok-left_places.ensures ∙ c.in_ok-left_scope.ensures in
    let right = ap (map decl_of) c.in_ok-right_places.ensures ∙ c.in_ok-right_scope.ensures in
    on_ok c.relation_outside.result _
    (hyps_are c.args.left.now c.args.right.now c.args.left_block.now c.args.right_block.now _ _ (pair_store_of c.in_ok-stores.stores) c.new-first.result.first_fresh
    left right c.in_ok-stores.ensures (ap (λ l. l.first_fresh) c.new-first.ensures) _ _ c.in_ok-ended.ensures.hyps)
