-- Lists of bicommands, as a loop reads them, and the depth that is left.
use Rattle.std.proofs.Common.{◌≡◌, ℕ, zero, suc, ◌-◌, ◌<◌, List, [], ◌∷◌, map, refl, ap, arith, rules}
use Rattle.rel_lang.specs.Syntax.{BiThen, BiAt, BiIf, BiWhile, At}
use Rattle.rel_lang.specs.View.{formula_of, loop_of, biform_of, bicommand_of, biblock_of, biblock_from}
use Rattle.rel_lang.specs.declared.formula.Formula.{Formula}
use Rattle.rel_lang.specs.declared.biprogram.BiLoop.{BiLoop}
use Rattle.rel_lang.specs.declared.biprogram.BiForm as B
use Rattle.rel_lang.specs.declared.biprogram.BiCommand.{BiCommand}
use Rattle.rel_lexer.specs.declared.Token.{Token}
use Rattle.rel_parse.specs.declared.fault.Fault.{Fault}
use Rattle.rel_parse.specs.Gives.{Fails}
use Rattle.rel_parse.specs.Reading.{Got, made, placed, too_deep_at}
use Rattle.rel_parse.specs.Expressions.{expression_at}
use Rattle.rel_parse.specs.Commands.{atom_at, begins_atom}
use Rattle.rel_parse.specs.Biprograms.{atom_command_at, begins_bicommand, many_bicommands_at, bicommands_at, biblock_at, biform_at, bicommand_at}
use Rattle.rel_parse.proofs.Loop.{fails_then}

pub biblock_is : (cs : List BiCommand) → biblock_from (map bicommand_of cs) ≡ biblock_of cs
biblock_is [] = refl
biblock_is (c ∷ cs) = ap (λ b. BiThen (bicommand_of c) b) (biblock_is cs)

pub bicommands_found : (most left : ℕ) (ts rest : List Token) (cs : List BiCommand) → many_bicommands_at most (bicommand_at most left) ts ≡ Got (map bicommand_of cs) rest → bicommands_at most left ts ≡ Got (biblock_of cs) rest
bicommands_found most left ts rest cs e = rw e (ap (λ b. Got b rest) (biblock_is cs))

pub bicommands_fail : (most left : ℕ) (ts : List Token) (e : Fault) → Fails e (many_bicommands_at most (bicommand_at most left) ts) → Fails e (bicommands_at most left ts)
bicommands_fail most left ts e h = fails_then e (many_bicommands_at most (bicommand_at most left) ts) (λ x rest. Got (biblock_from x) rest) h

pub bicommand_at_more : (most left : ℕ) (ts : List Token) → 0 < left
    → bicommand_at most left ts ≡ made (λ q. BiAt q.0 q.1) (placed (biform_at most (left - 1) (biblock_at most (left - 1)))) ts
unfolding bicommand_at
bicommand_at_more most zero ts lt = absurd (omega arith)
bicommand_at_more most (suc left) ts lt = let e : suc left - 1 ≡ left = omega arith in rw e refl

pub bicommand_at_none : (most left : ℕ) (ts : List Token) → left ≡ 0 → bicommand_at most left ts ≡ too_deep_at begins_bicommand ts
unfolding bicommand_at
bicommand_at_none most left ts e = rw e refl

pub atom_command_more : (most left : ℕ) (ts : List Token) → 0 < left → atom_command_at most left ts ≡ made (λ q. At q.0 q.1) (placed (atom_at most (expression_at (left - 1)))) ts
unfolding atom_command_at
atom_command_more most zero ts lt = absurd (omega arith)
atom_command_more most (suc left) ts lt = let e : suc left - 1 ≡ left = omega arith in rw e refl

pub atom_command_none : (most left : ℕ) (ts : List Token) → left ≡ 0 → atom_command_at most left ts ≡ too_deep_at begins_atom ts
unfolding atom_command_at
atom_command_none most left ts e = rw e refl

pub if_is : (p q : Formula) (a b : List BiCommand) → biform_of (B.If p q a b) ≡ BiIf (formula_of p) (formula_of q) (biblock_of a) (biblock_of b)
if_is p q a b = search (rules, B.the_lemmas, biblock_is)

pub while_is : (l : BiLoop) (b : List BiCommand) → biform_of (B.While l b) ≡ BiWhile (loop_of l) (biblock_of b)
while_is l b = search (rules, B.the_lemmas, biblock_is)
