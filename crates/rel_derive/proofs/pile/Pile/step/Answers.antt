-- The children of a good step take the place of the top node.
use Rattle.std.proofs.Common.{subst}
use Rattle.rules_table.specs.View.{step_of}
use Rattle.rel_derive.specs.Rules.{Moves}
use Rattle.rel_derive.specs.Pile.{nodes_over, nodes_of, rest_of}
use Rattle.rel_derive.proofs.Piles.{replaced, replaced_within}
use Rattle.rel_derive.proofs.Sound.{after_sound, moves}
use Rattle.rel_derive.proofs.pile.Pile.step.Goals as goal

pub returns-clause-kept : goal.returns-clause-kept
returns-clause-kept c =
    let q = c.raise.new.self in
    let t = c.replace.new.self in
    let done = c.in_ok-children.ensures in
    let base = c.replace.ensures.base in
    let items = c.in-Ok-replace.ensures.ok in
    record {
      within = replaced_within q t c.in_ok-children.children.items done.0 c.in-Ok.ensures.raised base items done.2;
      sound = after_sound q.base (step_of c.args.step.now) done.0 done.1 (nodes_of q) (nodes_over q.base (rest_of q)) (nodes_of t) c.in-Ok.ensures.raised.top c.raise.ensures.kept.sound (replaced q t c.in_ok-children.children.items done.0 c.in-Ok.ensures.raised base items done.2);
    }

pub returns-clause-answer : goal.returns-clause-answer
returns-clause-answer c =
    let q = c.raise.new.self in
    let t = c.replace.new.self in
    let done = c.in_ok-children.ensures in
    let base = c.replace.ensures.base in
    let items = c.in-Ok-replace.ensures.ok in
    let m = moves q.base (step_of c.args.step.now) done.0 done.1 (nodes_of q) (nodes_over q.base (rest_of q)) (nodes_of t) c.in-Ok.ensures.raised.top c.raise.ensures.kept.sound (replaced q t c.in_ok-children.children.items done.0 c.in-Ok.ensures.raised base items done.2) in
    (subst (λ x. Moves x (step_of c.args.step.now) (nodes_of t)) c.raise.ensures.same m.0, m.1)
