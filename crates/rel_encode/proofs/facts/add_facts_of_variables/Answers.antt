-- Each step adds what the variable at its place gives.
use Rattle.std.proofs.Common.{◌+◌, ◌++◌, map, take, ap, ◌∙◌, arith}
use Rattle.rel_logic.specs.View.{trm_of, fml_of}
use Rattle.rel_encode.specs.View.{numbers_in}
use Rattle.rel_encode.proofs.Gathered.{gathered, of_variable, gathered_more, gathered_all, variables_gathered, grown}
use Rattle.rel_encode.proofs.facts.add_facts_of_variables.Goals as goal

pub loop-i-preserved : goal.loop-i-preserved
loop-i-preserved c =
    let f = of_variable (numbers_in c.args.names.now) (trm_of c.args.st.now.alloc) in
    let ds = c.args.variables.now.items.now in
    let ts = c.args.st.now.vars in
    let i = c.loop-i.i in
    let d = c.at.result.now in
    let t = c.at-in-loop-i.result.now in
    grown (map fml_of c.args.facts.now) (map fml_of c.loop-i.facts) (map fml_of c.add_facts_of_variable.new.facts)
    (gathered f (take i ds) (take i ts) (take i ts)) (gathered f (take (i + 1) ds) (take (i + 1) ts) (take (i + 1) ts)) (f d t t)
    c.loop-i.invariant c.in_ok-add_facts_of_variable.ensures
    (gathered_more f ds ts ts i d t t (omega arith) (omega arith) (omega arith) c.at.ensures c.at-in-loop-i.ensures c.at-in-loop-i.ensures)

pub returns : goal.returns
returns c =
    let f = of_variable (numbers_in c.args.names.now) (trm_of c.args.st.now.alloc) in
    let ds = c.args.variables.now.items.now in
    let ts = c.args.st.now.vars in
    c.loop-i.invariant ∙ ap (λ l. map fml_of c.args.facts.now ++ l)
    (gathered_all f ds ts ts c.loop-i.i (omega arith) ∙ variables_gathered (numbers_in c.args.names.now) (trm_of c.args.st.now.alloc) ds ts)
