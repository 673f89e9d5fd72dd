use Rattle.std.proofs.Common.{ap}
use Rattle.rel_flaws.specs.View.{variables_seen}
use Rattle.rel_types.specs.OwnView.{setting_of}
use Rattle.rel_types.proofs.Layered.{layers_post}
use Rattle.rel_types.proofs.around.Globals.post.Goals as goal

pub returns : goal.returns
returns c o h =
    layers_post (setting_of c.args.self o) (variables_seen c.args.own.now.params) (variables_seen c.args.own.now.none) (variables_seen c.args.own.now.result)
    h.params (ap variables_seen h.none) h.result
