use Rattle.std.proofs.Common.{◌≡◌, ap, sym, subst, ◌∙◌, ◌+◌, ◌∷◌, []}
use Rattle.std.specs.Prelude.{IfSome, IfNone}
use Rattle.rel_flaws.specs.Inference.{is_class}
use Rattle.rel_lang.specs.State.{tables_of, class_items, class_number}
use Rattle.rel_lang.specs.View.{bundle_of, item_of}
use Rattle.rel_lang.specs.declared.bundle.Item.TheVariants as items
use Rattle.rel_types.specs.Numbers.{field_infos}
use Rattle.rel_types.proofs.Numbering.{AreGathered, listed_at, gathered_class, gathered_other, gathered_all}
use Rattle.rel_types.proofs.numbers.numbers_of.Goals.{in-Some+in_ok-copy-in-Some+in_ok-push-in-Some+in_ok-add_fields-in-Some, in-None}
use Rattle.rel_types.proofs.numbers.numbers_of.Goals as goal

pub number_of-number-requires : goal.number_of-number-requires
number_of-number-requires c =
    let is = subst (λ r. IfSome r (λ x. c.item-item.result ≡ items.Class x.now)) c.in-Some.is c.class_in.ensures.some in (
      bundle_of c.args.bundle.now,
      c.requires,
      ap (is_class (tables_of (bundle_of c.args.bundle.now))) c.as_str.ensures
          ∙ listed_at _ c.args.bundle.now.items c.loop-item.item-index c.item-item.result c.in-Some.class.now (cc) c.loop-item-test.true c.item-item.is is,
    )

pub loop-item-preserved : goal.loop-item-preserved
loop-item-preserved c =
    let b = bundle_of c.args.bundle.now in
    elim c.match-class_in.branch [
      | in-Some+in_ok-copy-in-Some+in_ok-push-in-Some+in_ok-add_fields-in-Some w ↦
          gathered_class (tables_of b) _ c.args.bundle.now.items c.loop-item.item-index c.item-item.result (cc) c.loop-item-test.true c.item-item.is
          w.in-Some.class.now c.loop-item.classes c.match-class_in.classes c.loop-item.fields c.match-class_in.fields w.number_of-number.result w.in_ok-copy-in-Some.field-0
          (subst (λ r. IfSome r (λ x. c.item-item.result ≡ items.Class x.now)) w.in-Some.is c.class_in.ensures.some)
          c.loop-item.invariant w.in_ok-copy-in-Some.ensures (w.classes-is ∙ w.in_ok-push-in-Some.ensures.ok)
          (w.number_of-number.ensures b c.requires ∙ ap (class_number (tables_of b)) w.as_str.ensures)
          (ap field_infos w.fields-is ∙ w.in_ok-add_fields-in-Some.ensures)
      | in-None w ↦
          subst (λ n. AreGathered (tables_of b) n c.match-class_in.fields c.args.bundle.now.items (c.loop-item.item-index + 1)) (sym w.classes-is)
          (subst (λ f. AreGathered (tables_of b) c.loop-item.classes f c.args.bundle.now.items (c.loop-item.item-index + 1)) (sym w.fields-is)
          (gathered_other (tables_of b) _ c.args.bundle.now.items c.loop-item.item-index c.item-item.result (cc) c.loop-item-test.true c.item-item.is
          c.loop-item.classes c.loop-item.fields
          (subst (λ r. IfNone r (class_items (item_of c.item-item.result ∷ []) ≡ [])) w.in-None.is c.class_in.ensures.none) c.loop-item.invariant))
    ]

pub returns-clause-classes : goal.returns-clause-classes
returns-clause-classes c = (gathered_all (tables_of (bundle_of c.args.bundle.now)) c.loop-item.classes c.loop-item.fields _ c.args.bundle.now.items c.loop-item.item-index (cc) c.loop-item-test.false c.loop-item.invariant).0

pub returns-clause-fields : goal.returns-clause-fields
returns-clause-fields c = (gathered_all (tables_of (bundle_of c.args.bundle.now)) c.loop-item.classes c.loop-item.fields _ c.args.bundle.now.items c.loop-item.item-index (cc) c.loop-item-test.false c.loop-item.invariant).1
