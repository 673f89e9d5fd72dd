-- What the values of the code that goes over alignments stand for.
use Rattle.std.specs.Prelude.{[], map, option_map}
use Rattle.rel_lang.specs.Syntax.{Word, Judgement, RelTrue, Woven}
use Rattle.rel_flaws.specs.Alignments.{Sides}
use Rattle.rel_flaws.specs.CodeView.{code_of}
use Rattle.rel_flaws.specs.declared.sides.Subjects as J
use Rattle.rel_flaws.specs.declared.sides.Sides as S

-- A judgement about these procedures. What else it says is left out, since nothing here reads it.
abbrev pub judgement_about : Word → J.Subjects → Judgement
judgement_about x j = record {
  at = 0;
  name = x;
  left = (j.left.0.now, j.left.1.now);
  right = (j.right.0.now, j.right.1.now);
  needs = record { at = 0; formula = RelTrue };
  gives = record { at = 0; formula = RelTrue };
  align = Woven [];
}

abbrev pub sides_of : S.Sides → Sides
sides_of s = record {
  left = code_of s.left;
  right = code_of s.right;
  judgements = map (λ e. judgement_about e.0 e.1) s.judgements.now;
  units = option_map (λ u. (u.0.now, u.1.now)) s.units;
}
