use Rattle.std.proofs.Common.{ap, sym, ◌∙◌, option_map, Option}
use Rattle.rel_lang.specs.Syntax.{Sig}
use Rattle.rel_lang.specs.View.{sig_of}
use Rattle.rel_flaws.specs.Flaws.{Flaws, Fault}
use Rattle.rel_flaws.specs.View.{tables_seen, pass_of, fault_of}
use Rattle.rel_types.specs.Items.{sig_fault}
use Rattle.rel_types.specs.Lookups.{names_in}
use Rattle.rel_types.specs.OwnView.{sig_setting}
use Rattle.rel_types.proofs.Named.{told, told_asks, is_told, named_here, named_next}
use Rattle.rel_types.proofs.interfaces.methods_fault.Goals as goal

pub returns-in-Some : goal.returns-in-Some
returns-in-Some c =
    let fault : Flaws → Sig → Option Fault = λ more q. sig_fault (tables_seen c.args.tables.now) (pass_of c.args.pass) (sig_setting c.args.globals q) more q in
    let item = c.method-item.result in
    let seen = names_in c.loop-method.seen in
    named_here (λ q. q.name) (told (λ q. q.name) fault) (told_asks (λ q. q.name) fault) sig_of _ _ seen c.as_slice-method-items.result.now c.loop-method.method-index item
    c.loop-method-test.true c.method-item.is c.loop-method.invariant
    (sym (ap (option_map fault_of) c.in-Some.is)
    ∙ is_told (λ q. q.name) fault _ _ _ _ seen (sig_of item) c.in_ok-fault.ensures c.none.ensures c.in_ok-add_name.ensures.was_there c.as_str.ensures)

pub loop-method-preserved : goal.loop-method-preserved
loop-method-preserved c =
    let fault : Flaws → Sig → Option Fault = λ more q. sig_fault (tables_seen c.args.tables.now) (pass_of c.args.pass) (sig_setting c.args.globals q) more q in
    let item = c.method-item.result in
    let seen = names_in c.loop-method.seen in
    named_next (λ q. q.name) (told (λ q. q.name) fault) (told_asks (λ q. q.name) fault) sig_of _ seen (names_in c.add_name.new.names) c.as_slice-method-items.result.now c.loop-method.method-index item
    c.as_str.result.now c.loop-method-test.true c.method-item.is c.loop-method.invariant
    (sym (ap (option_map fault_of) c.in-None.is)
    ∙ is_told (λ q. q.name) fault _ _ _ _ seen (sig_of item) c.in_ok-fault.ensures c.none.ensures c.in_ok-add_name.ensures.was_there c.as_str.ensures)
    c.as_str.ensures c.in_ok-add_name.ensures.added
