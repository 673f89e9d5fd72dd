use Rattle.std.proofs.Common.{ap₂, subst}
use Rattle.rel_lang.specs.State.{ClassField}
use Rattle.rel_lang.specs.View.{type_of}
use Rattle.rel_types.specs.ByName.{Adds, IsFieldSeen}
use Rattle.rel_types.proofs.Knowing.{adds_none, adds_one, adds_more, adds_all}
use Rattle.rel_types.proofs.KnownItems.{fields_of_one}
use Rattle.rel_types.proofs.classes.add_fields.Goals as goal

pub loop-field-init : goal.loop-field-init
loop-field-init c = adds_none IsFieldSeen (λ d. d.name) c.args.fields.now

pub loop-field-preserved : goal.loop-field-preserved
loop-field-preserved c =
    adds_more IsFieldSeen (λ d. d.name) (λ d. record { name = d.name; class = c.args.class.now.name; ty = type_of d.ty }) c.args.fields.now c.loop-field.fields c.insert.new.self
    c.as_slice-field-items.result.now c.loop-field.field-index c.field-item.result c.loop-field-test.true c.field-item.is c.loop-field.invariant
    (adds_one IsFieldSeen (λ d. d.name) c.loop-field.fields c.insert.new.self (record { name = c.field-item.result.name; class = c.args.class.now.name; ty = type_of c.field-item.result.ty })
    c.as_str-in-loop-field.result.now _ c.in_ok-insert.ensures c.as_str-in-loop-field.ensures
    (ap₂ {C = ClassField} (λ k t. record { name = c.field-item.result.name; class = k; ty = t }) c.as_str.ensures c.of.ensures))

pub returns : goal.returns
returns c =
    subst (Adds IsFieldSeen (λ d. d.name) c.args.fields.now c.loop-field.fields) (fields_of_one c.args.class.now)
    (adds_all IsFieldSeen (λ d. d.name) (λ l. l) (λ d. record { name = d.name; class = c.args.class.now.name; ty = type_of d.ty }) c.args.fields.now c.loop-field.fields
    c.as_slice-field-items.result.now c.args.class.now.fields c.loop-field.field-index c.loop-field-test.false c.as_slice-field-items.ensures c.loop-field.invariant)
