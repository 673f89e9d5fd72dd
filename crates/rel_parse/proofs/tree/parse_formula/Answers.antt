use Rattle.rel_lang.specs.Refusal.{limits}
use Rattle.rel_lang.specs.Text.{show_formula}
use Rattle.rel_lang.specs.View.{formula_of}
use Rattle.rel_parse.specs.Formulas.{formula_at}
use Rattle.rel_parse.specs.Trees.{Any}
use Rattle.rel_parse.proofs.Formulas.{formula_reads}
use Rattle.rel_parse.proofs.Trees.{is_exact}
use Rattle.rel_parse.proofs.tree.parse_formula.Goals as goal

pub returns-clause-read : goal.returns-clause-read
returns-clause-read c =
    (is_exact (λ x. (x.0, x.1.now)) formula_of show_formula Any formula_at (formula_reads limits) c.args.depth c.args.from c.args.tokens.now c.requires.kinds c.requires.inside c.requires.at_most c.formula.result c.numbered.result c.formula.ensures c.numbered.ensures).read

pub returns-clause-only : goal.returns-clause-only
returns-clause-only c =
    (is_exact (λ x. (x.0, x.1.now)) formula_of show_formula Any formula_at (formula_reads limits) c.args.depth c.args.from c.args.tokens.now c.requires.kinds c.requires.inside c.requires.at_most c.formula.result c.numbered.result c.formula.ensures c.numbered.ensures).only

pub returns-clause-found : goal.returns-clause-found
returns-clause-found c =
    (is_exact (λ x. (x.0, x.1.now)) formula_of show_formula Any formula_at (formula_reads limits) c.args.depth c.args.from c.args.tokens.now c.requires.kinds c.requires.inside c.requires.at_most c.formula.result c.numbered.result c.formula.ensures c.numbered.ensures).found

pub returns-clause-refused : goal.returns-clause-refused
returns-clause-refused c =
    (is_exact (λ x. (x.0, x.1.now)) formula_of show_formula Any formula_at (formula_reads limits) c.args.depth c.args.from c.args.tokens.now c.requires.kinds c.requires.inside c.requires.at_most c.formula.result c.numbered.result c.formula.ensures c.numbered.ensures).refused
