use Rattle.rel_flaws.specs.View.{variables_seen}
use Rattle.rel_types.specs.OwnView.{setting_of}
use Rattle.rel_types.proofs.Layered.{layers_body}
use Rattle.rel_types.proofs.around.Globals.body.Goals as goal

pub returns : goal.returns
returns c o h =
    layers_body (setting_of c.args.self o) (variables_seen c.args.own.now.params) (variables_seen c.args.own.now.locals) (variables_seen c.args.own.now.result)
    h.params h.locals h.result
