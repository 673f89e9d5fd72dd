-- What biprograms and weavings have wrong, and the first fault of an alignment.
use Rattle.std.specs.Prelude.{Bool, true, false, not, ◌&&◌, ◌||◌, List, Option, Some, None, is_some, bytes_eq}
use Rattle.rel_lang.specs.Syntax.{Word, Formula, RelFormula, Command, At, Call, BiLoop, BiCommand, BiAt, BiForm, Split, Sync, SyncCall, BiIf, BiWhile, Link, Note, BiBlock, BiEnd, BiThen, Act, ActCall, ActWhile, ActLink, ActNote, WeaveStep, Align, Given, Woven, Judgement}
use Rattle.rel_lang.specs.State.{Tables, Scope, Variable, find_variable}
use Rattle.rel_lang.specs.Lookup.{find_judgement}
use Rattle.rel_flaws.specs.Flaws.{Flaws, flawless, either, Pass, Fault, fault_at, first_of, first_in}
use Rattle.rel_flaws.specs.Inference.{is_in_scope, same_type, is_class_type, flaws_of_formula, flaws_of_rel, flaws_of_test}
use Rattle.rel_flaws.specs.Code.{Code, unknown_where, flaws_of_form, inner_fault, block_fault}

-- What the code of the two sides can name, the bundle's judgements, and the two units whose procedures are aligned. Where the bodies of two modules
-- are aligned there are no units, and no judgement can be used.
pub record Sides : Type 0 where
  pub left : Code
  pub right : Code
  pub judgements : List Judgement
  pub units : Option (Word × Word)

abbrev pub same_subject : Word × Word → Word × Word → Bool
same_subject a b = bytes_eq a.0 b.0 && bytes_eq a.1 b.1

abbrev pub is_about_procedures : Word → Word × Word → Option Judgement → Bool
is_about_procedures p u None = false
is_about_procedures p u (Some k) = same_subject k.left (u.0, p) && same_subject k.right (u.1, p)

-- the judgement of this name is about the procedures p of the two units
abbrev pub is_about : Option (Word × Word) → Word → Word → List Judgement → Bool
is_about None j p js = false
is_about (Some u) j p js = is_about_procedures p u (find_judgement j js)

abbrev pub is_call_by : Sides → Word → Command → Bool
is_call_by s j (At at (Call x p es)) = is_about s.units j p s.judgements
is_call_by s j _ = false

-- the two are references of one class
abbrev pub are_linked : Option Variable → Option Variable → Bool
are_linked (Some v) (Some w) = is_class_type v.ty && same_type v.ty w.ty
are_linked _ _ = false

abbrev pub flaws_of_link : Scope → Scope → Word → Word → Flaws
flaws_of_link l r x y = record flawless {
  unknown = not (is_in_scope x l) || not (is_in_scope y r);
  wrong_type = not (are_linked (find_variable x l) (find_variable y r));
}

module _ (tables : Tables) where
  -- a relational invariant, a guard or a note
  abbrev pub flaws_of_relation : Sides → RelFormula → Flaws
  flaws_of_relation s a = flaws_of_rel tables true s.left.scope s.right.scope a

  abbrev pub flaws_of_tests : Sides → Formula → Formula → Flaws
  flaws_of_tests s p q = either (flaws_of_test tables s.left.scope p) (flaws_of_test tables s.right.scope q)

  abbrev pub flaws_of_loop : Sides → BiLoop → Flaws
  flaws_of_loop s l =
      either (flaws_of_tests s l.tests.0 l.tests.1)
      (either (either (flaws_of_formula tables true s.left.scope l.invs.0) (flaws_of_formula tables true s.right.scope l.invs.1))
      (either (flaws_of_relation s l.rel) (either (flaws_of_relation s l.guards.0) (flaws_of_relation s l.guards.1))))

  -- what a bicommand has wrong, its commands and blocks apart
  abbrev pub flaws_of_biform : Sides → BiForm → Flaws
  flaws_of_biform s (Split a b) = flawless
  flaws_of_biform s (Sync c) = flawless
  flaws_of_biform s (SyncCall c j) = unknown_where (not (is_call_by s j c))
  flaws_of_biform s (BiIf p q a b) = flaws_of_tests s p q
  flaws_of_biform s (BiWhile l b) = flaws_of_loop s l
  flaws_of_biform s (Link x y) = flaws_of_link s.left.scope s.right.scope x y
  flaws_of_biform s (Note a) = flaws_of_relation s a

  abbrev pub flaws_of_act : Sides → Act → Flaws
  flaws_of_act s (ActCall j) = unknown_where (not (is_some (find_judgement j s.judgements)))
  flaws_of_act s (ActWhile a m n) = either (flaws_of_relation s a) (either (flaws_of_relation s m) (flaws_of_relation s n))
  flaws_of_act s (ActLink x y) = flaws_of_link s.left.scope s.right.scope x y
  flaws_of_act s (ActNote a) = flaws_of_relation s a
  flaws_of_act s _ = flawless

  module _ (pass : Pass) where
    -- one command that runs on both sides
    abbrev pub joint_fault : Sides → Command → Option Fault
    joint_fault s (At at f) =
        first_of (fault_at pass at (either (flaws_of_form tables s.left f) (flaws_of_form tables s.right f)))
        (first_of (inner_fault tables pass s.left f) (inner_fault tables pass s.right f))

    abbrev mutual
      pub bicommand_fault : Sides → BiCommand → Option Fault
      bicommand_fault s (BiAt at f) = first_of (fault_at pass at (flaws_of_biform s f)) (inner_bifault s f)

      pub inner_bifault : Sides → BiForm → Option Fault
      inner_bifault s (Split a b) = first_of (block_fault tables pass s.left a) (block_fault tables pass s.right b)
      inner_bifault s (Sync c) = joint_fault s c
      inner_bifault s (SyncCall c j) = joint_fault s c
      inner_bifault s (BiIf p q a b) = first_of (biblock_fault s a) (biblock_fault s b)
      inner_bifault s (BiWhile l b) = biblock_fault s b
      inner_bifault s f = None

      pub biblock_fault : Sides → BiBlock → Option Fault
      biblock_fault s BiEnd = None
      biblock_fault s (BiThen c cs) = first_of (bicommand_fault s c) (biblock_fault s cs)

    abbrev pub step_fault : Sides → WeaveStep → Option Fault
    step_fault s t = fault_at pass t.at (flaws_of_act s t.act)

    abbrev pub align_fault : Sides → Align → Option Fault
    align_fault s (Given b) = biblock_fault s b
    align_fault s (Woven ts) = first_in (step_fault s) ts
