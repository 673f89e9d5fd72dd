use Rattle.rel_lang.specs.State.{ByClient}
use Rattle.rel_lang.specs.View.{client_of}
use Rattle.rel_types.proofs.InModules.{declared_alone}
use Rattle.rel_types.proofs.InClients.{procs_alone}
use Rattle.rel_types.proofs.clients.given_fault.Goals as goal

pub returns : goal.returns
returns c i seen given =
    let k = client_of c.args.client.now in
    c.in_ok-fault.ensures i seen (record {
      interface = given.globals;
      own = declared_alone (ByClient k.name) k.globals c.add_all.new.index c.new-own.result c.new-own.ensures c.in_ok-add_all.ensures;
      procs = procs_alone c.args.client.now.procs c.add_procs.new.callees c.new-procs.result c.new-procs.ensures c.in_ok-add_procs.ensures;
      methods = given.methods;
    }) (c.in_ok-declared.ensures i given)
