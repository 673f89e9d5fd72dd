use Rattle.std.proofs.Common.{sym, ap, ◌∙◌}
use Rattle.std.specs.Option.{option_copied_mut}
use Rattle.rel_flaws.specs.Entries.{with_value}
use Rattle.rel_flaws.proofs.Indexes.{entries, looked_up, replaced, absent}
use Rattle.rel_flaws.proofs.index.Index.put.Goals.{in-Some, in_default}
use Rattle.rel_flaws.proofs.index.Index.put.Goals as goal

pub returns : goal.returns
returns g c =
    elim c.match-get_mut.branch [
      | in-Some w ↦ ap (λ i. entries i.entries.entries) w.self-inside-is
          ∙ ap entries (c.get_mut.follows.holds c.args.value).0
          ∙ replaced c.args.name.now c.args.value c.self.inside.entries.entries
          ∙ ap (λ l. with_value l c.args.name.now c.args.value) c.self.view_is
      | in_default w ↦ ap (λ i. entries i.entries.entries) w.self-inside-is
          ∙ ap (λ m. entries m.entries) c.get_mut.follows.holds-at-none
          ∙ sym (absent c.args.name.now c.args.value (entries c.self.inside.entries.entries)
          (ap option_copied_mut (sym w.in_default.is) ∙ c.get_mut.ensures.value ∙ looked_up c.args.name.now c.self.inside.entries.entries))
          ∙ ap (λ l. with_value l c.args.name.now c.args.value) c.self.view_is
    ]
