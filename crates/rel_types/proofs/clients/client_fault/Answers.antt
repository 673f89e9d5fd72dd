use Rattle.rel_types.proofs.InModules.{unwrapped}
use Rattle.rel_types.proofs.clients.client_fault.Goals as goal

pub returns : goal.returns
returns c i seen = c.in_ok-fault.ensures i seen (unwrapped i c.args.interface _ _ c.unwrap_or-given.ensures c.no_interface-none.ensures seen)
