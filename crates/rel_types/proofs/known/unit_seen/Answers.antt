use Rattle.std.proofs.Common.{map, sym, subst}
use Rattle.std.proofs.lemmas.Simd.{map-map}
use Rattle.rel_lang.specs.State.{ByUnit}
use Rattle.rel_lang.specs.Typed.{signature_of_proc}
use Rattle.rel_lang.specs.View.{decl_of, proc_of}
use Rattle.rel_flaws.specs.CodeView.{callees_seen}
use Rattle.rel_types.specs.Called.{SameCallees}
use Rattle.rel_types.specs.Known.{IsProcSeen}
use Rattle.rel_types.proofs.Knowing.{from_none}
use Rattle.rel_types.proofs.KnownItems.{added_to_none, called_from_none}
use Rattle.rel_types.proofs.known.unit_seen.Goals as goal

pub returns : goal.returns
returns c = record {
  globals = added_to_none (ByUnit c.args.unit.now.name) c.new-globals.result c.add_all.new.index (map decl_of c.args.unit.now.globals) c.new-globals.ensures c.in_ok-add_all.ensures;
  procs =
      subst (SameCallees (callees_seen c.add_procs.new.callees)) (sym (map-map signature_of_proc proc_of c.args.unit.now.procs))
      (called_from_none c.new-procs.result c.add_procs.new.callees (map (λ q. signature_of_proc (proc_of q)) c.args.unit.now.procs) c.new-procs.ensures c.in_ok-add_procs.ensures);
  bodies = from_none IsProcSeen (λ q. q.name) c.new-bodies.result c.add_owns.new.bodies (map proc_of c.args.unit.now.procs) c.new-bodies.ensures c.in_ok-add_owns.ensures;
}
