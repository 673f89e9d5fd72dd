use Rattle.std.proofs.Common.{ap₂, ◌∙◌}
use Rattle.rel_flaws.specs.View.{pass_of, layers_seen, tables_seen}
use Rattle.rel_lang.specs.State.{tables_of}
use Rattle.rel_lang.specs.View.{rel_clause_of}
use Rattle.rel_types.specs.Items as items
use Rattle.rel_types.proofs.Settings.{rel_clause_same}
use Rattle.rel_types.proofs.SameItems.{rel_clause_with}
use Rattle.rel_types.proofs.aligned.relation_fault.Goals as goal

pub returns : goal.returns
returns c b l r known left right =
    let tables = tables_seen c.args.known.now.tables in
    let pass = pass_of c.args.pass in
    let clause = rel_clause_of c.args.clause.now in
    c.in_ok-fault.ensures.fault
    ∙ ap₂ (λ x y. items.rel_clause_fault tables pass c.args.old x y clause) c.new-left.ensures c.new-right.ensures
    ∙ rel_clause_same tables pass c.args.old (layers_seen c.args.left) l (layers_seen c.args.right) r left right clause
    ∙ rel_clause_with tables (tables_of b) known.tables pass c.args.old l r clause
