-- A variable of the list is put into the index, and places leave it as it is.
use Rattle.std.proofs.Common.{◌+◌, true, map, take, sym, ap, subst, ◌∙◌, arith}
use Rattle.rel_lang.specs.View.{effect_of}
use Rattle.rel_flaws.specs.Entries.{with_entry}
use Rattle.rel_encode.specs.Changes.{AreListed}
use Rattle.rel_encode.proofs.Changed.{listed_variable, listed_others}
use Rattle.rel_encode.proofs.frame.listed.Goals as goal
use Rattle.rel_encode.proofs.frame.listed.Goals.{in-Var+in_ok-insert, in_default}

pub loop-i-preserved : goal.loop-i-preserved
loop-i-preserved c =
    elim c.match-at.branch [
      | in-Var+in_ok-insert w ↦ subst (λ es. AreListed es (take (c.loop-i.i + 1) (map effect_of c.args.writes.now)))
          (sym (w.index-is ∙ w.in_ok-insert.ensures ∙ ap (λ x. with_entry c.loop-i.index x true) w.as_str.ensures))
          (listed_variable c.args.writes.now c.loop-i.i c.at.result.now w.in-Var.x true c.loop-i.index (omega arith) c.at.ensures (ap effect_of w.in-Var.is) c.loop-i.invariant)
      | in_default w ↦ subst (λ es. AreListed es (take (c.loop-i.i + 1) (map effect_of c.args.writes.now))) (sym w.index-is)
          (listed_others c.args.writes.now c.loop-i.i c.at.result.now c.loop-i.index (omega arith) c.at.ensures w.in_default.not-Var c.loop-i.invariant)
    ]
