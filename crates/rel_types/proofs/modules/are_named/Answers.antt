use Rattle.std.proofs.Common.{◌≡◌, ◌<◌, [], length, get_or, true, false, sym, refl, ap, ◌∙◌, arith}
use Rattle.std.specs.Prelude.{bytes_eq}
use denote.Ref.{Bor}
use Rattle.rel_lang.specs.Syntax.{Word}
use Rattle.rel_types.proofs.SameNames.{names_differ, other_name, same_name, from_not}
use Rattle.rel_types.proofs.modules.are_named.Goals as goal

pub returns-then-names-len : goal.returns-then-names-len
returns-then-names-len c =
    names_differ (λ b. b.0) (λ n. n.now) c.args.methods.now c.args.names.now (λ e. c.if-names-len.true (sym e ∙ sym c.len.ensures))

pub returns-then-ne : goal.returns-then-ne
returns-then-ne c =
    let name : Bor Word = get_or c.args.names.now c.loop-i.i (record { ref_ptr = (0, 0); now = [] }) in
    let within : c.loop-i.i < length c.args.names.now = c.loop-i-test.true in
    let all : length c.args.names.now ≡ length c.args.methods.now = c.if-names-len.false ∙ c.len.ensures in
    other_name (λ b. b.0) (λ n. n.now) c.args.methods.now c.args.names.now c.loop-i.i c.at.result.now name c.at.result.now _
    (ap (λ x. bytes_eq x name.now) (sym c.as_str.ensures) ∙ from_not (bytes_eq c.as_str.result.now name.now) c.ne.result true c.ne.ensures c.if-ne.true)
    (omega (arith, within, all)) within c.at.ensures refl c.loop-i.invariant

pub loop-i-preserved : goal.loop-i-preserved
loop-i-preserved c =
    let name : Bor Word = get_or c.args.names.now c.loop-i.i (record { ref_ptr = (0, 0); now = [] }) in
    let within : c.loop-i.i < length c.args.names.now = c.loop-i-test.true in
    let all : length c.args.names.now ≡ length c.args.methods.now = c.if-names-len.false ∙ c.len.ensures in
    same_name (λ b. b.0) (λ n. n.now) c.args.methods.now c.args.names.now c.loop-i.i c.at.result.now name c.at.result.now _
    (ap (λ x. bytes_eq x name.now) (sym c.as_str.ensures) ∙ from_not (bytes_eq c.as_str.result.now name.now) c.ne.result false c.ne.ensures c.if-ne.false)
    (omega (arith, within, all)) within c.at.ensures refl c.loop-i.invariant
