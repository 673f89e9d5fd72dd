use Rattle.rel_lang.specs.Refusal.{limits}
use Rattle.rel_lang.specs.Text.{show_expression}
use Rattle.rel_lang.specs.View.{expression_of}
use Rattle.rel_parse.specs.Expressions.{expression_at}
use Rattle.rel_parse.specs.Trees.{Any}
use Rattle.rel_parse.proofs.Expressions.{expression_reads}
use Rattle.rel_parse.proofs.Trees.{is_exact}
use Rattle.rel_parse.proofs.tree.parse_expr.Goals as goal

pub returns-clause-read : goal.returns-clause-read
returns-clause-read c =
    (is_exact (λ x. (x.0, x.1.now)) expression_of show_expression Any expression_at (expression_reads limits) c.args.depth c.args.from c.args.tokens.now c.requires.kinds c.requires.inside c.requires.at_most c.expression.result c.numbered.result c.expression.ensures c.numbered.ensures).read

pub returns-clause-only : goal.returns-clause-only
returns-clause-only c =
    (is_exact (λ x. (x.0, x.1.now)) expression_of show_expression Any expression_at (expression_reads limits) c.args.depth c.args.from c.args.tokens.now c.requires.kinds c.requires.inside c.requires.at_most c.expression.result c.numbered.result c.expression.ensures c.numbered.ensures).only

pub returns-clause-found : goal.returns-clause-found
returns-clause-found c =
    (is_exact (λ x. (x.0, x.1.now)) expression_of show_expression Any expression_at (expression_reads limits) c.args.depth c.args.from c.args.tokens.now c.requires.kinds c.requires.inside c.requires.at_most c.expression.result c.numbered.result c.expression.ensures c.numbered.ensures).found

pub returns-clause-refused : goal.returns-clause-refused
returns-clause-refused c =
    (is_exact (λ x. (x.0, x.1.now)) expression_of show_expression Any expression_at (expression_reads limits) c.args.depth c.args.from c.args.tokens.now c.requires.kinds c.requires.inside c.requires.at_most c.expression.result c.numbered.result c.expression.ensures c.numbered.ensures).refused
