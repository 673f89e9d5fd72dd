use Rattle.std.proofs.Common.{map}
use Rattle.rel_lang.specs.View.{effect_of}
use Rattle.rel_linking.proofs.FormsUnit.{plain_assigns}
use Rattle.rel_linking.proofs.form.plain.assigns_listed.Goals as goal

pub returns : goal.returns
returns c =
    let same = plain_assigns c.in_ok-names.names (map effect_of c.args.writes.now) c.in_ok-names.ensures c.args.commands.now in
    (λ t. same.0 (c.are_plain.ensures.0 t), λ l. c.are_plain.ensures.1 (same.1 l))
