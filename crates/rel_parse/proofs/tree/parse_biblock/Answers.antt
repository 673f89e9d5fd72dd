use Rattle.std.proofs.Common.{arith}
use Rattle.rel_lang.specs.Refusal.{limits}
use Rattle.rel_lang.specs.Text.{show_biblock, IsShapedBiblock}
use Rattle.rel_lang.specs.View.{biblock_of}
use Rattle.rel_parse.specs.Biprograms.{biblock_at}
use Rattle.rel_parse.proofs.Biprograms.{biblock_reads}
use Rattle.rel_parse.proofs.Trees.{is_exact}
use Rattle.rel_parse.proofs.tree.parse_biblock.Goals as goal

pub returns-clause-read : goal.returns-clause-read
returns-clause-read c =
    (is_exact (λ x. (x.0, x.1.now)) biblock_of show_biblock IsShapedBiblock (biblock_at limits.most) (λ d left sum. biblock_reads limits d left sum (omega arith)) c.args.depth c.args.from c.args.tokens.now c.requires.kinds c.requires.inside c.requires.at_most c.biblock.result c.numbered.result c.biblock.ensures c.numbered.ensures).read

pub returns-clause-only : goal.returns-clause-only
returns-clause-only c =
    (is_exact (λ x. (x.0, x.1.now)) biblock_of show_biblock IsShapedBiblock (biblock_at limits.most) (λ d left sum. biblock_reads limits d left sum (omega arith)) c.args.depth c.args.from c.args.tokens.now c.requires.kinds c.requires.inside c.requires.at_most c.biblock.result c.numbered.result c.biblock.ensures c.numbered.ensures).only

pub returns-clause-found : goal.returns-clause-found
returns-clause-found c =
    (is_exact (λ x. (x.0, x.1.now)) biblock_of show_biblock IsShapedBiblock (biblock_at limits.most) (λ d left sum. biblock_reads limits d left sum (omega arith)) c.args.depth c.args.from c.args.tokens.now c.requires.kinds c.requires.inside c.requires.at_most c.biblock.result c.numbered.result c.biblock.ensures c.numbered.ensures).found

pub returns-clause-refused : goal.returns-clause-refused
returns-clause-refused c =
    (is_exact (λ x. (x.0, x.1.now)) biblock_of show_biblock IsShapedBiblock (biblock_at limits.most) (λ d left sum. biblock_reads limits d left sum (omega arith)) c.args.depth c.args.from c.args.tokens.now c.requires.kinds c.requires.inside c.requires.at_most c.biblock.result c.numbered.result c.biblock.ensures c.numbered.ensures).refused
