-- Looking up a judgement.
use Rattle.std.proofs.Common.{◌≡◌, true, false, List, [], ◌∷◌, map, Some, option_map, ap, refl}
use Rattle.std.specs.Prelude.{bytes_eq, if◌then◌else◌}
use Rattle.std.proofs.lemmas.Slice.Eq.{bytes_eq-Decides}
use Rattle.rel_lang.specs.Syntax.{Word}
use Rattle.rel_lang.specs.State.{find_named}
use Rattle.rel_flaws.specs.Entries.{find_entry}
use Rattle.rel_flaws.specs.AlignmentView.{judgement_about}
use Rattle.rel_flaws.specs.declared.sides.Subjects.{Subjects}

pub found_judgement : (x : Word) (es : List (Word × Subjects))
    → option_map (judgement_about x) (find_entry x es) ≡ find_named (λ j. j.name) x (map (λ e. judgement_about e.0 e.1) es)
found_judgement x [] = refl
found_judgement x (e ∷ es) =
    (elim (bytes_eq x e.0) as (λ b. bytes_eq x e.0 ≡ b → option_map (judgement_about x) (if b then Some e.1 else find_entry x es)
    ≡ (if b then Some (judgement_about e.0 e.1) else find_named (λ j. j.name) x (map (λ d. judgement_about d.0 d.1) es))) [
      | true ↦ λ same. ap (λ y. Some (judgement_about y e.1)) ((bytes_eq-Decides x e.0).0 same)
      | false ↦ λ differs. found_judgement x es
    ]) refl
