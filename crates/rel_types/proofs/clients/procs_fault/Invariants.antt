use Rattle.std.proofs.Common.{◌≡◌, Option, [], map, drop}
use Rattle.rel_lang.specs.Syntax.{Interface, Client}
use Rattle.rel_lang.specs.View.{proc_of}
use Rattle.rel_flaws.specs.View.{pass_of, tables_seen}
use Rattle.rel_types.specs.ClientView.{IsAroundClient, fault_of_proc}
use Rattle.rel_types.specs.Items.{first_named}
use Rattle.rel_types.specs.Lookups.{names_in}
use Rattle.rel_types.proofs.clients.procs_fault.Given as goal

abbrev pub invariant-loop-proc : goal.invariant-loop-proc
invariant-loop-proc l =
    (i : Option Interface) (c : Client) → IsAroundClient i c l.around
    → first_named (λ q. q.name) (fault_of_proc (tables_seen l.tables) (pass_of l.pass) i c) [] (map proc_of l.procs)
    ≡ first_named (λ q. q.name) (fault_of_proc (tables_seen l.tables) (pass_of l.pass) i c) (names_in l.names) (map proc_of (drop l.proc-index l.proc-items))
