use Rattle.std.proofs.Common.{refl}
use Rattle.rel_lang.specs.View.{body_of}
use Rattle.rel_types.specs.ByName.{AreLocals}
use Rattle.rel_types.proofs.Knowing.{adds_none, adds_one, adds_more, adds_all}
use Rattle.rel_types.proofs.bodies.add_locals.Goals as goal

pub loop-name-init : goal.loop-name-init
loop-name-init c = adds_none AreLocals (λ b. b.0) c.args.bodies.now

pub loop-name-preserved : goal.loop-name-preserved
loop-name-preserved c =
    adds_more AreLocals (λ b. b.0) (λ p. (p.0, body_of p.1)) c.args.bodies.now c.loop-name.bodies c.insert.new.self c.as_slice-name-items.result.now c.loop-name.name-index c.loop-name-item.result
    c.loop-name-test.true c.loop-name-item.is c.loop-name.invariant
    (adds_one AreLocals (λ b. b.0) c.loop-name.bodies c.insert.new.self (c.loop-name-item.result.0, body_of c.loop-name-item.result.1) c.as_str.result.now _
    c.in_ok-insert.ensures c.as_str.ensures refl)

pub returns : goal.returns
returns c =
    adds_all AreLocals (λ b. b.0) (λ l. l) (λ p. (p.0, body_of p.1)) c.args.bodies.now c.loop-name.bodies c.as_slice-name-items.result.now c.args.methods.now c.loop-name.name-index
    c.loop-name-test.false c.as_slice-name-items.ensures c.loop-name.invariant
