use Rattle.std.proofs.Common.{◌∙◌}
use Rattle.rel_lang.specs.View.{clause_of}
use Rattle.rel_flaws.specs.View.{tables_seen, scope_of, layers_seen, pass_of}
use Rattle.rel_types.proofs.Heads.{clause_seen}
use Rattle.rel_types.proofs.members.clause_fault_in.Goals as goal

pub returns : goal.returns
returns c sc h =
    c.in_ok-fault.ensures.fault
    ∙ clause_seen (tables_seen c.args.tables.now) (pass_of c.args.pass) c.args.old (scope_of c.new-scope.result) (layers_seen c.args.layers) sc (clause_of c.args.clause.now)
    c.new-scope.ensures h
