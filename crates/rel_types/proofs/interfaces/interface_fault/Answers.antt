use Rattle.std.proofs.Common.{true, map, ap, ◌∙◌}
use Rattle.rel_lang.specs.Scope.{interface_globals}
use Rattle.rel_lang.specs.State.{ByInterface, ByQuantifier}
use Rattle.rel_lang.specs.View.{decl_of, interface_of}
use Rattle.rel_flaws.specs.Flaws.{either, fault_at, first_of}
use Rattle.rel_flaws.specs.View.{tables_seen, flaws_of, pass_of, variables_seen}
use Rattle.rel_types.specs.Items.{clause_fault}
use Rattle.rel_types.proofs.Declaring.{same_declared}
use Rattle.rel_types.proofs.Heads.{found_here, found_next, none_seen, alone_seen}
use Rattle.rel_types.proofs.Owned.{alone}
use Rattle.rel_types.proofs.SameMembers.{methods_same}
use Rattle.rel_types.proofs.interfaces.interface_fault.Goals as goal

pub returns-in-Some : goal.returns-in-Some
returns-in-Some c =
    let interface = interface_of c.args.interface.now in
    let globals = interface_globals interface in
    let same = alone _ _ _ _ (ap variables_seen c.new-own.ensures) c.in_ok-add_all.ensures (same_declared ByQuantifier (ByInterface interface.name) true (map decl_of c.args.interface.now.globals)) in
    let seen = alone_seen c.add_all.new.index c.new-none.result globals c.new-none.ensures same in
    found_here _ _ _ _ c.in-Some.is
    (c.fault.ensures ∙ ap (fault_at (pass_of c.args.pass) interface.at) (c.either.ensures ∙ ap (either (flaws_of c.args.more)) (c.in_ok-flaws.ensures globals seen)))

pub returns : goal.returns
returns c =
    let pass = pass_of c.args.pass in
    let tables = tables_seen c.args.tables.now in
    let interface = interface_of c.args.interface.now in
    let globals = interface_globals interface in
    let same = alone _ _ _ _ (ap variables_seen c.new-own.ensures) c.in_ok-add_all.ensures (same_declared ByQuantifier (ByInterface interface.name) true (map decl_of c.args.interface.now.globals)) in
    let seen = alone_seen c.add_all.new.index c.new-none.result globals c.new-none.ensures same in
    found_next _ _ _ _ c.in-None.is
    (c.fault.ensures ∙ ap (fault_at pass interface.at) (c.either.ensures ∙ ap (either (flaws_of c.args.more)) (c.in_ok-flaws.ensures globals seen)))
    (c.in_ok-fault-in-None.ensures globals seen
    ∙ ap (first_of (clause_fault tables pass true globals interface.init_ensures))
    (methods_same tables pass interface (variables_seen c.add_all.new.index) (variables_seen c.new-none.result) same (none_seen c.new-none.result c.new-none.ensures)))
