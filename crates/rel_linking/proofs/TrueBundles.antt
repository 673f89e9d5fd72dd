-- A straight bundle whose obligation is valid is true.
use Rattle.std.proofs.Common.{◌≡◌, false, true, if◌then◌else◌, inl, IsSomeAnd, List, [], ◌∷◌, map, Option, Some, None, sym, ap, subst, ◌∙◌}
use Rattle.std.specs.List.{AllByRecursion}
use Rattle.std.specs.Option.{option_map, option_and_then}
use Rattle.rel_lang.specs.Syntax.{Word, Proc, UnitItem, Item, OfUnit, OfJudgement, Bundle}
use Rattle.rel_lang.specs.State.{Tables, tables_of, class_items, fields_of, find_named}
use Rattle.rel_lang.specs.Scope.{unit_setting, pre_scope, post_scope}
use Rattle.rel_lang.specs.Lookup.{Subject, units_of, find_proc, subject_of}
use Rattle.rel_lang.specs.Run.{unit_program}
use Rattle.rel_lang.specs.Meets.{Meets, unit_contract}
use Rattle.rel_lang.specs.Judgement.{setting_of, IsTrueOf, IsTrueJudgement}
use Rattle.rel_lang.specs.Typed.{AreDistinct, IsTypedRel, IsTypedBody, IsTypedProc, IsTypedUnit, IsTypedJudgement, IsTypedItem, item_name, signature_of_proc}
use Rattle.rel_lang.specs.TrueBundle.{IsTrueItem, IsTrueBundle}
use Rattle.rel_logic.specs.Syntax.{Sqt}
use Rattle.rel_logic.specs.Truth.{IsValid}
use Rattle.rel_linking.specs.Form.{Parts, IsPlainUnit, IsStraight}
use Rattle.rel_linking.specs.Obligation.{obligation_of}
use Rattle.rel_linking.proofs.Runs.{word_itself, words_differ}
use Rattle.rel_linking.proofs.PlainUnits.{plain_meets}
use Rattle.rel_linking.proofs.Walks.{no_tables}
use Rattle.rel_linking.proofs.Related.{judgement_true}

abbrev within : UnitItem → Proc → Subject
within u p = record { unit = u; proc = p }

-- the procedure of a plain unit is found under its name
found_proc : (u : UnitItem) (q : Proc) → IsPlainUnit u q → option_map (within u) (find_proc q.name u.procs) ≡ Some (within u q)
found_proc u q plain =
    ap (λ ps. option_map (within u) (find_proc q.name ps)) plain.procs
    ∙ ap (λ b. option_map (within u) (if b then Some q else None)) (word_itself q.name)

-- its body is typed
typed_body : (u : UnitItem) (q : Proc) → IsTypedUnit no_tables u → IsPlainUnit u q → IsTypedBody no_tables (unit_setting u q) (map signature_of_proc u.procs) q.body.commands
typed_body u q typed plain =
    (subst (AllByRecursion (λ p. IsTypedProc no_tables (unit_setting u p) (map signature_of_proc u.procs) p)) plain.procs typed.procs).0.body

module _ (b : Bundle) (k : Parts) (form : IsStraight b k) (valid : IsValid (obligation_of k)) where
  abbrev three : List Item
  three = OfUnit k.left ∷ OfUnit k.right ∷ OfJudgement k.judgement ∷ []

  abbrev tables : Tables
  tables = tables_of b

  typed : AllByRecursion (IsTypedItem b) three
  typed = subst (AllByRecursion (IsTypedItem b)) form.parts.items form.typed.items

  names : AreDistinct (map item_name three)
  names = subst (λ is. AreDistinct (map item_name is)) form.parts.items form.typed.names

  abbrev left_subject : Subject
  left_subject = within k.left k.left_proc

  abbrev right_subject : Subject
  right_subject = within k.right k.right_proc

  abbrev found : Word × Word → Option UnitItem → Option Subject
  found w o = option_and_then (λ u. option_map (within u) (find_proc w.1 u.procs)) o

  abbrev unit_named : Word → List UnitItem → Option UnitItem
  unit_named x us = find_named (λ u. u.name) x us

  left_found : subject_of b k.judgement.left ≡ Some left_subject
  left_found =
      ap (subject_of b) form.parts.left_named
      ∙ ap (λ is. found (k.left.name, k.left_proc.name) (unit_named k.left.name (units_of is))) form.parts.items
      ∙ ap (λ c. found (k.left.name, k.left_proc.name) (if c then Some k.left else unit_named k.left.name (k.right ∷ []))) (word_itself k.left.name)
      ∙ found_proc k.left k.left_proc form.parts.left

  right_found : subject_of b k.judgement.right ≡ Some right_subject
  right_found =
      ap (subject_of b) form.parts.right_named
      ∙ ap (λ is. found (k.right.name, k.right_proc.name) (unit_named k.right.name (units_of is))) form.parts.items
      ∙ ap (λ c. found (k.right.name, k.right_proc.name) (if c then Some k.left else unit_named k.right.name (k.right ∷ [])))
      (words_differ k.right.name k.left.name (λ e. names.0 (inl (sym e))))
      ∙ ap (λ c. found (k.right.name, k.right_proc.name) (if c then Some k.right else None)) (word_itself k.right.name)
      ∙ found_proc k.right k.right_proc form.parts.right

  -- there are no classes
  tables_are : tables ≡ no_tables
  tables_are = ap (λ is. record { classes = map (λ c. c.name) (class_items is); fields = fields_of (class_items is) }) form.parts.items

  left_unit : IsTypedUnit no_tables k.left
  left_unit = subst (λ t. IsTypedUnit t k.left) tables_are typed.0

  right_unit : IsTypedUnit no_tables k.right
  right_unit = subst (λ t. IsTypedUnit t k.right) tables_are typed.1.0

  typed_judgement : IsTypedJudgement b k.judgement left_subject right_subject
  typed_judgement =
      subst (λ o. IsSomeAnd o (λ r. IsTypedJudgement b k.judgement left_subject r)) right_found
      (subst (λ o. IsSomeAnd o (λ l. IsSomeAnd (subject_of b k.judgement.right) (λ r. IsTypedJudgement b k.judgement l r))) left_found typed.1.1.0)

  true_of : IsTrueOf no_tables k.judgement left_subject right_subject
  true_of =
      judgement_true k form.parts.left form.parts.right _ _ (typed_body k.left k.left_proc left_unit form.parts.left) (typed_body k.right k.right_proc right_unit form.parts.right)
      (subst (λ t. IsTypedRel t false (pre_scope (setting_of left_subject)) (pre_scope (setting_of right_subject)) k.judgement.needs.formula) tables_are typed_judgement.needs)
      (subst (λ t. IsTypedRel t true (post_scope (setting_of left_subject)) (post_scope (setting_of right_subject)) k.judgement.gives.formula) tables_are typed_judgement.gives)
      valid

  the_judgement : IsTrueJudgement b k.judgement
  the_judgement =
      subst (λ o. IsSomeAnd o (λ l. IsSomeAnd (subject_of b k.judgement.right) (λ r. IsTrueOf tables k.judgement l r))) (sym left_found)
      (subst (λ o. IsSomeAnd o (λ r. IsTrueOf tables k.judgement left_subject r)) (sym right_found)
      (subst (λ t. IsTrueOf t k.judgement left_subject right_subject) (sym tables_are) true_of))

  unit_true : (u : UnitItem) (q : Proc) → IsTypedUnit tables u → IsPlainUnit u q → IsTrueItem b (OfUnit u)
  unit_true u q t plain =
      subst (AllByRecursion (λ p. Meets (unit_program tables u) (unit_contract u p) p.body.commands)) (sym plain.procs) (plain_meets tables u q t.names plain, tt)

  pub true_bundle : IsTrueBundle b
  true_bundle = record {
    typed = form.typed;
    items =
        subst (AllByRecursion (IsTrueItem b)) (sym form.parts.items)
        (unit_true k.left k.left_proc typed.0 form.parts.left, (unit_true k.right k.right_proc typed.1.0 form.parts.right, (the_judgement, tt)));
  }

-- so is one whose obligation is this sequent
pub enough : (q : Sqt) (k : Parts) → q ≡ obligation_of k → (b : Bundle) → IsStraight b k → IsValid q → IsTrueBundle b
enough q k same b form valid = true_bundle b k form (subst IsValid same valid)
