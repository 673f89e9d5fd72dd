use Rattle.std.proofs.Common.{map, option_map, ap, sym, ◌∙◌}
use Rattle.rel_flaws.specs.Alignments.{Sides}
use Rattle.rel_flaws.specs.AlignmentView.{judgement_about}
use Rattle.rel_flaws.specs.CodeView.{code_of}
use Rattle.rel_flaws.specs.View.{pass_of, tables_seen}
use Rattle.rel_lang.specs.Lookup.{judgements_of, find_judgement}
use Rattle.rel_lang.specs.State.{tables_of}
use Rattle.rel_lang.specs.View.{align_of}
use Rattle.rel_types.proofs.Knowledge.{align_same}
use Rattle.rel_types.proofs.SameSubjects.{same_align}
use Rattle.rel_types.proofs.SameTables.{align_with}
use Rattle.rel_types.proofs.aligned.aligned_fault.Goals as goal

pub returns : goal.returns
returns c b s known left right judgements units =
    let tables = tables_seen c.args.known.now.tables in
    let pass = pass_of c.args.pass in
    let align = align_of c.args.align.now in
    let seen : Sides = record {
      left = code_of c.args.left;
      right = code_of c.args.right;
      judgements = map (λ e. judgement_about e.0 e.1) c.args.known.now.judgements;
      units = option_map (λ u. (u.0.now, u.1.now)) c.args.units;
    } in
    let told : Sides = record seen { judgements = judgements_of b.items } in
    c.in_ok-fault.ensures.fault ∙ same_align tables pass seen (judgements_of b.items) known.judgements align
    ∙ align_same tables pass told s (record {
      left = left;
      right = right;
      judgements = λ j. ap (find_judgement j) (sym judgements);
      units = sym units;
    }) align
    ∙ align_with tables (tables_of b) known.tables pass s align
