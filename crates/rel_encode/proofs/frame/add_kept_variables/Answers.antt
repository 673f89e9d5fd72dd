-- Each step adds what the variable at its place gives.
use Rattle.std.proofs.Common.{◌+◌, ◌++◌, [], ◌∷◌, map, take, ap, ◌∙◌, arith}
use Rattle.std.specs.Prelude.{◌||◌, if◌then◌else◌}
use Rattle.rel_logic.specs.Syntax.{eq}
use Rattle.rel_logic.specs.View.{trm_of, fml_of}
use Rattle.rel_logic.specs.Equal.{same_trm}
use Rattle.rel_encode.specs.Changes.{effects_of}
use Rattle.rel_encode.proofs.Gathered.{gathered, of_kept, gathered_more, gathered_all, kept_gathered, grown}
use Rattle.rel_encode.proofs.frame.add_kept_variables.Goals as goal

pub loop-i-preserved : goal.loop-i-preserved
loop-i-preserved c =
    let f = of_kept (effects_of c.args.change.now) in
    let ds = c.args.scope.now in
    let bs = c.args.change.now.before.now.vars in
    let rest = c.args.change.now.after.now.vars in
    let i = c.loop-i.i in
    let d = c.index-scope-i.result in
    let b = c.at.result.now in
    let a = c.at-in-loop-i.result.now in
    grown (map fml_of c.args.facts.now) (map fml_of c.loop-i.facts) (map fml_of c.add_kept_variable.new.facts)
    (gathered f (take i ds) (take i bs) (take i rest)) (gathered f (take (i + 1) ds) (take (i + 1) bs) (take (i + 1) rest)) (f d b a)
    c.loop-i.invariant
    (c.in_ok-add_kept_variable.ensures ∙ ap (λ l. map fml_of c.loop-i.facts ++ (if l || same_trm (trm_of b) (trm_of a) then [] else eq (trm_of a) (trm_of b) ∷ [])) (c.in_ok-index.ensures d.name))
    (gathered_more f ds bs rest i d b a (omega arith) (omega arith) (omega arith) c.index-scope-i.is c.at.ensures c.at-in-loop-i.ensures)

pub returns : goal.returns
returns c =
    let f = of_kept (effects_of c.args.change.now) in
    let ds = c.args.scope.now in
    let bs = c.args.change.now.before.now.vars in
    let rest = c.args.change.now.after.now.vars in
    c.loop-i.invariant ∙ ap (λ l. map fml_of c.args.facts.now ++ l)
    (gathered_all f ds bs rest c.loop-i.i (omega arith) ∙ kept_gathered (effects_of c.args.change.now) ds bs rest)
