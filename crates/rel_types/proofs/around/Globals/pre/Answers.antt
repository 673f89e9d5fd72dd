use Rattle.std.proofs.Common.{ap}
use Rattle.rel_flaws.specs.View.{variables_seen}
use Rattle.rel_types.specs.OwnView.{setting_of}
use Rattle.rel_types.proofs.Layered.{layers_pre}
use Rattle.rel_types.proofs.around.Globals.pre.Goals as goal

pub returns : goal.returns
returns c o h = layers_pre (setting_of c.args.self o) (variables_seen c.args.own.now.params) (variables_seen c.args.own.now.none) h.params (ap variables_seen h.none)
