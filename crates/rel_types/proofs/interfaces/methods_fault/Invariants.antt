use Rattle.std.proofs.Common.{◌≡◌, [], map, drop}
use Rattle.rel_lang.specs.View.{sig_of}
use Rattle.rel_flaws.specs.View.{tables_seen, pass_of}
use Rattle.rel_types.specs.Items.{first_named, sig_fault}
use Rattle.rel_types.specs.Lookups.{names_in}
use Rattle.rel_types.specs.OwnView.{sig_setting}
use Rattle.rel_types.proofs.Named.{told}
use Rattle.rel_types.proofs.interfaces.methods_fault.Given as goal

abbrev pub invariant-loop-method : goal.invariant-loop-method
invariant-loop-method l =
    let fault = told (λ q. q.name) (λ more q. sig_fault (tables_seen l.tables) (pass_of l.pass) (sig_setting l.globals q) more q) in
    first_named (λ q. q.name) fault [] (map sig_of l.methods) ≡ first_named (λ q. q.name) fault (names_in l.seen) (map sig_of (drop l.method-index l.method-items))
