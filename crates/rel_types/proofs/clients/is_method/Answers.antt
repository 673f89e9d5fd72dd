use Rattle.std.proofs.Common.{◌∙◌}
use Rattle.rel_types.proofs.InClients.{has_method}
use Rattle.rel_types.proofs.clients.is_method.Goals as goal

pub returns : goal.returns
returns c i same = c.has.ensures ∙ has_method c.args.methods.now c.args.name.now i same
