-- Each step adds what the field at its place gives.
use Rattle.std.proofs.Common.{◌+◌, ◌++◌, map, take, ap, ◌∙◌, arith}
use Rattle.rel_logic.specs.View.{fml_of}
use Rattle.rel_encode.specs.Changes.{numbers_before, scope_before, store_before, effects_of}
use Rattle.rel_encode.proofs.Gathered.{gathered, of_field, gathered_more, gathered_all, fields_gathered, grown}
use Rattle.rel_encode.proofs.frame.add_kept_fields.Goals as goal

pub loop-i-preserved : goal.loop-i-preserved
loop-i-preserved c =
    let change = c.args.change.now in
    let f = of_field (effects_of change) (numbers_before change) (scope_before change) (store_before change) in
    let ds = change.names.now.fields.items.now in
    let bs = change.before.now.maps in
    let rest = change.after.now.maps in
    let i = c.loop-i.i in
    let d = c.at.result.now in
    let b = c.at-in-loop-i.result.now in
    let a = c.at-in-loop-i-2.result.now in
    grown (map fml_of c.args.facts.now) (map fml_of c.loop-i.facts) (map fml_of c.add_kept_field.new.facts)
    (gathered f (take i ds) (take i bs) (take i rest)) (gathered f (take (i + 1) ds) (take (i + 1) bs) (take (i + 1) rest)) (f d b a)
    c.loop-i.invariant c.in_ok-add_kept_field.ensures
    (gathered_more f ds bs rest i d b a (omega arith) (omega arith) (omega arith) c.at.ensures c.at-in-loop-i.ensures c.at-in-loop-i-2.ensures)

pub returns : goal.returns
returns c =
    let change = c.args.change.now in
    let f = of_field (effects_of change) (numbers_before change) (scope_before change) (store_before change) in
    let ds = change.names.now.fields.items.now in
    let bs = change.before.now.maps in
    let rest = change.after.now.maps in
    c.loop-i.invariant ∙ ap (λ l. map fml_of c.args.facts.now ++ l)
    (gathered_all f ds bs rest c.loop-i.i (omega arith)
    ∙ fields_gathered (effects_of change) (numbers_before change) (scope_before change) (store_before change) ds bs rest)
