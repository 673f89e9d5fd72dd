use Rattle.std.proofs.Common.{◌≡◌, ◌++◌, map}
use Rattle.rel_lang.specs.View.{decl_of, block_of}
use Rattle.rel_logic.specs.View.{fml_of}
use Rattle.rel_encode.specs.View.{store_of}
use Rattle.rel_linking.specs.Obligation.{walk}
use Rattle.rel_linking.proofs.Equations.{rest_of}
use Rattle.rel_linking.proofs.bodies.walk_block.Given as goal

abbrev pub invariant-loop-i : goal.invariant-loop-i
invariant-loop-i l =
    let ds = map decl_of l.variables.items.now in
    let rest = rest_of ds (store_of l.store) l.first l.commands l.i in
    let whole = walk ds (store_of l.initial.store) l.first (block_of l.commands) in
    record { store : rest.store ≡ whole.store; hyps : map fml_of l.hyps ++ rest.hyps ≡ map fml_of l.initial.hyps ++ whole.hyps }
