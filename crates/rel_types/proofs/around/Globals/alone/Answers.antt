use Rattle.std.proofs.Common.{◌++◌, ap, ◌∙◌, append-nil}
use Rattle.rel_flaws.specs.View.{variables_seen}
use Rattle.rel_types.specs.OwnView.{globals_in}
use Rattle.rel_types.proofs.around.Globals.alone.Goals as goal

pub returns : goal.returns
returns c = ap (λ l. globals_in c.args.self ++ (variables_seen l ++ (variables_seen l ++ variables_seen l))) c.requires ∙ append-nil (globals_in c.args.self)
