use Rattle.std.proofs.Common.{map, sym, ◌∙◌, subst}
use Rattle.std.proofs.lemmas.Simd.{map-map}
use Rattle.rel_lang.specs.State.{ByInterface}
use Rattle.rel_lang.specs.Typed.{signature_of_method}
use Rattle.rel_lang.specs.View.{decl_of, sig_of}
use Rattle.rel_flaws.specs.CodeView.{callees_seen}
use Rattle.rel_types.specs.Called.{SameCallees}
use Rattle.rel_types.proofs.KnownItems.{added_to_none, called_from_none}
use Rattle.rel_types.proofs.known.interface_seen.Goals as goal

pub returns : goal.returns
returns c = record {
  globals = added_to_none (ByInterface c.args.interface.now.name) c.new-globals.result c.add_all.new.index (map decl_of c.args.interface.now.globals) c.new-globals.ensures c.in_ok-add_all.ensures;
  methods =
      subst (SameCallees (callees_seen c.add_methods.new.callees)) (sym (map-map signature_of_method sig_of c.args.interface.now.methods))
      (called_from_none c.new-methods.result c.add_methods.new.callees (map (λ q. signature_of_method (sig_of q)) c.args.interface.now.methods) c.new-methods.ensures c.in_ok-add_methods.ensures);
  names = c.in_ok-names.ensures ∙ sym (map-map (λ q. q.name) sig_of c.args.interface.now.methods);
}
