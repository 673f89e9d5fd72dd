use Rattle.rel_lang.specs.Refusal.{limits}
use Rattle.rel_lang.specs.Text.{show_rel}
use Rattle.rel_lang.specs.View.{rel_of}
use Rattle.rel_parse.specs.Relations.{rel_at}
use Rattle.rel_parse.specs.Trees.{Any}
use Rattle.rel_parse.proofs.Relations.{rel_reads}
use Rattle.rel_parse.proofs.Trees.{is_exact}
use Rattle.rel_parse.proofs.tree.parse_rel.Goals as goal

pub returns-clause-read : goal.returns-clause-read
returns-clause-read c =
    (is_exact (λ x. (x.0, x.1.now)) rel_of show_rel Any rel_at (rel_reads limits) c.args.depth c.args.from c.args.tokens.now c.requires.kinds c.requires.inside c.requires.at_most c.rel.result c.numbered.result c.rel.ensures c.numbered.ensures).read

pub returns-clause-only : goal.returns-clause-only
returns-clause-only c =
    (is_exact (λ x. (x.0, x.1.now)) rel_of show_rel Any rel_at (rel_reads limits) c.args.depth c.args.from c.args.tokens.now c.requires.kinds c.requires.inside c.requires.at_most c.rel.result c.numbered.result c.rel.ensures c.numbered.ensures).only

pub returns-clause-found : goal.returns-clause-found
returns-clause-found c =
    (is_exact (λ x. (x.0, x.1.now)) rel_of show_rel Any rel_at (rel_reads limits) c.args.depth c.args.from c.args.tokens.now c.requires.kinds c.requires.inside c.requires.at_most c.rel.result c.numbered.result c.rel.ensures c.numbered.ensures).found

pub returns-clause-refused : goal.returns-clause-refused
returns-clause-refused c =
    (is_exact (λ x. (x.0, x.1.now)) rel_of show_rel Any rel_at (rel_reads limits) c.args.depth c.args.from c.args.tokens.now c.requires.kinds c.requires.inside c.requires.at_most c.rel.result c.numbered.result c.rel.ensures c.numbered.ensures).refused
