use Rattle.std.proofs.Common.{◌≡◌, [], map, drop}
use Rattle.rel_lang.specs.View.{proc_of}
use Rattle.rel_flaws.specs.View.{tables_seen, pass_of}
use Rattle.rel_types.specs.Items.{first_named, proc_fault}
use Rattle.rel_types.specs.Lookups.{names_in}
use Rattle.rel_types.specs.OwnView.{proc_setting, callees_in}
use Rattle.rel_types.proofs.Named.{told}
use Rattle.rel_types.proofs.units.procs_fault.Given as goal

abbrev pub invariant-loop-proc : goal.invariant-loop-proc
invariant-loop-proc l =
    let fault = told (λ q. q.name) (λ more q. proc_fault (tables_seen l.tables) (pass_of l.pass) (proc_setting l.around.globals q) (callees_in l.around) more q) in
    first_named (λ q. q.name) fault [] (map proc_of l.procs) ≡ first_named (λ q. q.name) fault (names_in l.seen) (map proc_of (drop l.proc-index l.proc-items))
