use Rattle.std.proofs.Common.{◌∙◌}
use Rattle.rel_lang.specs.Lookup.{main_name}
use Rattle.rel_types.proofs.InClients.{has_proc}
use Rattle.rel_types.proofs.clients.has_main.Goals as goal

pub returns : goal.returns
returns c ps same = c.has.ensures ∙ has_proc c.args.procs.now main_name ps same
