-- The first fault of an alignment depends on the judgements' names and subjects alone.
use Rattle.std.proofs.Common.{◌≡◌, List, [], ◌∷◌, Option, Some, None, option_map, sym, ap, refl, ◌∙◌}
use Rattle.std.specs.Prelude.{Bool, false, not, ◌&&◌, is_some}
use Rattle.rel_lang.specs.Syntax.{Word, Judgement, Command, At, Skip, Assign, Load, Store, New, Call, If, While, BiCommand, BiAt, BiForm, Split, Sync, SyncCall, BiIf, BiWhile, Link, Note, BiBlock, BiEnd, BiThen, Act, ActSeq, ActSync, ActCall, ActIf, ActWhile, ActLink, ActNote, ActDrop, WeaveStep, Align, Given, Woven}
use Rattle.rel_lang.specs.State.{Tables}
use Rattle.rel_lang.specs.Lookup.{find_judgement}
use Rattle.rel_types.specs.Known.{subjects, SameSubjects}
use Rattle.rel_flaws.specs.Flaws.{Pass, fault_at, first_of, first_in}
use Rattle.rel_flaws.specs.Code.{unknown_where}
use Rattle.rel_flaws.specs.Alignments.{Sides, same_subject, is_about_procedures, is_about, is_call_by, flaws_of_biform, flaws_of_act, joint_fault, bicommand_fault, inner_bifault, biblock_fault, step_fault, align_fault}

abbrev are_about : Word → Word × Word → Option ((Word × Word) × (Word × Word)) → Bool
are_about p u None = false
are_about p u (Some b) = same_subject b.0 (u.0, p) && same_subject b.1 (u.1, p)

about_is : (p : Word) (u : Word × Word) (o : Option Judgement) → is_about_procedures p u o ≡ are_about p u (option_map subjects o)
about_is p u None = refl
about_is p u (Some k) = refl

found_is : (o : Option Judgement) → is_some o ≡ is_some (option_map subjects o)
found_is None = refl
found_is (Some k) = refl

same_about : (o : Option (Word × Word)) (j p : Word) (js ks : List Judgement) → SameSubjects js ks → is_about o j p js ≡ is_about o j p ks
same_about None j p js ks same = refl
same_about (Some u) j p js ks same =
    about_is p u (find_judgement j js) ∙ ap (are_about p u) (same j) ∙ sym (about_is p u (find_judgement j ks))

module _ (tables : Tables) (pass : Pass) (s : Sides) (ks : List Judgement) (same : SameSubjects s.judgements ks) where
  abbrev other : Sides
  other = record s { judgements = ks }

  same_call : (j : Word) (c : Command) → is_call_by s j c ≡ is_call_by other j c
  same_call j (At at Skip) = refl
  same_call j (At at (Assign x e)) = refl
  same_call j (At at (Load x y f)) = refl
  same_call j (At at (Store y f e)) = refl
  same_call j (At at (New x c)) = refl
  same_call j (At at (Call x p es)) = same_about s.units j p s.judgements ks same
  same_call j (At at (If p a b)) = refl
  same_call j (At at (While p q b)) = refl

  same_flaws : (f : BiForm) → flaws_of_biform tables s f ≡ flaws_of_biform tables other f
  same_flaws (Split a b) = refl
  same_flaws (Sync c) = refl
  same_flaws (SyncCall c j) = ap (λ b. unknown_where (not b)) (same_call j c)
  same_flaws (BiIf p q a b) = refl
  same_flaws (BiWhile l b) = refl
  same_flaws (Link x y) = refl
  same_flaws (Note a) = refl

  same_joint : (c : Command) → joint_fault tables pass s c ≡ joint_fault tables pass other c
  same_joint (At at f) = refl

  mutual
    same_bicommand : (c : BiCommand) → bicommand_fault tables pass s c ≡ bicommand_fault tables pass other c
    same_bicommand (BiAt at f) =
        ap (λ g. first_of (fault_at pass at g) (inner_bifault tables pass s f)) (same_flaws f)
        ∙ ap (first_of (fault_at pass at (flaws_of_biform tables other f))) (same_inner f)

    same_inner : (f : BiForm) → inner_bifault tables pass s f ≡ inner_bifault tables pass other f
    same_inner (Split a b) = refl
    same_inner (Sync c) = same_joint c
    same_inner (SyncCall c j) = same_joint c
    same_inner (BiIf p q a b) =
        ap (λ g. first_of g (biblock_fault tables pass s b)) (same_biblock a) ∙ ap (first_of (biblock_fault tables pass other a)) (same_biblock b)
    same_inner (BiWhile l b) = same_biblock b
    same_inner (Link x y) = refl
    same_inner (Note a) = refl

    same_biblock : (b : BiBlock) → biblock_fault tables pass s b ≡ biblock_fault tables pass other b
    same_biblock BiEnd = refl
    same_biblock (BiThen c cs) =
        ap (λ g. first_of g (biblock_fault tables pass s cs)) (same_bicommand c) ∙ ap (first_of (bicommand_fault tables pass other c)) (same_biblock cs)

  same_act : (a : Act) → flaws_of_act tables s a ≡ flaws_of_act tables other a
  same_act (ActSeq i j) = refl
  same_act ActSync = refl
  same_act (ActCall j) =
      ap (λ b. unknown_where (not b)) (found_is (find_judgement j s.judgements) ∙ ap is_some (same j) ∙ sym (found_is (find_judgement j ks)))
  same_act ActIf = refl
  same_act (ActWhile a m n) = refl
  same_act (ActLink x y) = refl
  same_act (ActNote a) = refl
  same_act ActDrop = refl

  same_steps : (ts : List WeaveStep) → first_in (step_fault tables pass s) ts ≡ first_in (step_fault tables pass other) ts
  same_steps [] = refl
  same_steps (t ∷ ts) =
      ap (λ g. first_of (fault_at pass t.at g) (first_in (step_fault tables pass s) ts)) (same_act t.act)
      ∙ ap (first_of (step_fault tables pass other t)) (same_steps ts)

  pub same_align : (a : Align) → align_fault tables pass s a ≡ align_fault tables pass other a
  same_align (Given b) = same_biblock b
  same_align (Woven ts) = same_steps ts
