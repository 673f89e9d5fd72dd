use Rattle.std.proofs.Common.{sym, ap, ◌∙◌}
use Rattle.std.specs.Prelude.{is_some}
use Rattle.rel_flaws.specs.Entries.{find_entry, with_entry}
use Rattle.rel_flaws.proofs.Indexes.{entries, added, kept}
use Rattle.rel_flaws.proofs.index.Index.insert.Goals as goal

pub returns-then-has : goal.returns-then-has
returns-then-has g c = sym (kept c.args.name.now c.args.value c.args.self.now (sym c.has.ensures ∙ c.if-has.true))

pub returns : goal.returns
returns g c =
    ap entries c.in_ok-insert.ensures.entries
    ∙ added c.args.name c.args.value c.self.inside.entries.entries (ap (λ l. is_some (find_entry c.args.name.now l)) c.self.view_is ∙ sym c.has.ensures ∙ c.if-has.false)
    ∙ ap (λ l. with_entry l c.args.name.now c.args.value) c.self.view_is
