use Rattle.std.proofs.Common.{map, refl}
use Rattle.rel_lang.specs.State.{ByModule, find_named}
use Rattle.rel_lang.specs.View.{decl_of, body_of}
use Rattle.rel_flaws.specs.Entries.{find_entry}
use Rattle.rel_types.specs.ByName.{AreLocals}
use Rattle.rel_types.specs.Known.{HasLocals}
use Rattle.rel_types.proofs.Knowing.{from_none}
use Rattle.rel_types.proofs.KnownItems.{added_to_none, both_mapped}
use Rattle.rel_types.proofs.known.module_seen.Goals as goal

pub returns : goal.returns
returns c = record {
  interface = c.as_str.ensures;
  globals = added_to_none (ByModule c.args.item.now.name) c.new-globals.result c.add_all.new.index (map decl_of c.args.item.now.globals) c.new-globals.ensures c.in_ok-add_all.ensures;
  init = refl;
  bodies = λ x.
      both_mapped (λ b. b.1) HasLocals (find_named (λ b. b.0) x (map (λ p. (p.0, body_of p.1)) c.args.item.now.methods)) (find_entry x c.add_locals.new.bodies)
      (from_none AreLocals (λ b. b.0) c.new-bodies.result c.add_locals.new.bodies (map (λ p. (p.0, body_of p.1)) c.args.item.now.methods) c.new-bodies.ensures c.in_ok-add_locals.ensures x);
}
