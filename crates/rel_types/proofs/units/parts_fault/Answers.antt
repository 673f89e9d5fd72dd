use Rattle.std.proofs.Common.{true, ◌++◌, map, ap, ◌∙◌}
use Rattle.rel_lang.specs.State.{ByUnit, ByQuantifier}
use Rattle.rel_lang.specs.View.{decl_of, unit_of}
use Rattle.rel_flaws.specs.CodeView.{callees_seen}
use Rattle.rel_flaws.specs.View.{tables_seen, pass_of, variables_seen}
use Rattle.rel_types.proofs.Calling.{procs_alone}
use Rattle.rel_types.proofs.Declaring.{same_declared}
use Rattle.rel_types.proofs.Heads.{none_seen}
use Rattle.rel_types.proofs.Owned.{alone}
use Rattle.rel_types.proofs.SameMembers.{unit_same}
use Rattle.rel_types.proofs.units.parts_fault.Goals as goal

pub returns : goal.returns
returns c =
    let unit = unit_of c.args.unit.now in
    c.in_ok-fault.ensures
    ∙ unit_same (tables_seen c.args.tables.now) (pass_of c.args.pass) unit (variables_seen c.new-none.result) (variables_seen c.add_all.new.index)
    (callees_seen c.add_procs.new.callees ++ callees_seen c.new-methods.result)
    (none_seen c.new-none.result c.new-none.ensures)
    (alone _ _ _ _ (ap variables_seen c.new-own.ensures) c.in_ok-add_all.ensures (same_declared ByQuantifier (ByUnit unit.name) true (map decl_of c.args.unit.now.globals)))
    (procs_alone c.add_procs.new.callees c.new-procs.result c.new-methods.result c.args.unit.now.procs c.new-procs.ensures c.new-methods.ensures c.in_ok-add_procs.ensures)
