-- Lists of commands, as a loop reads them.
use Rattle.std.proofs.Common.{◌≡◌, ℕ, zero, suc, ◌-◌, ◌<◌, Bool, true, false, if◌then◌else◌, length, List, [], ◌∷◌, map, refl, ap, arith, rules}
use Rattle.rel_lang.specs.Syntax.{Then, At, If, While}
use Rattle.rel_lang.specs.View.{formula_of, form_of, command_of, block_of, block_from}
use Rattle.rel_lang.specs.declared.command.Command.{Command}
use Rattle.rel_lang.specs.declared.formula.Formula.{Formula}
use Rattle.rel_lang.specs.declared.command.Form as F
use Rattle.rel_lexer.specs.declared.Token.{Token}
use Rattle.rel_parse.specs.declared.fault.Fault.{Fault}
use Rattle.rel_parse.specs.declared.fault.Fault.TheVariants as faults
use Rattle.rel_parse.specs.Gives.{Fails}
use Rattle.rel_parse.specs.Reading.{Reading, Got, made, placed, too_deep_at}
use Rattle.rel_parse.specs.Expressions.{expression_at}
use Rattle.rel_parse.specs.Formulas.{formula_at}
use Rattle.rel_parse.specs.Commands.{begins_command, many_commands_at, commands_at, block_at, form_at, command_at}
use Rattle.rel_parse.proofs.Loop.{fails_then}

pub block_is : (cs : List Command) → block_from (map command_of cs) ≡ block_of cs
block_is [] = refl
block_is (c ∷ cs) = ap (λ b. Then (command_of c) b) (block_is cs)

pub commands_found : (most left : ℕ) (ts rest : List Token) (cs : List Command) → many_commands_at most (command_at most left) ts ≡ Got (map command_of cs) rest → commands_at most left ts ≡ Got (block_of cs) rest
commands_found most left ts rest cs e = rw e (ap (λ b. Got b rest) (block_is cs))

pub commands_fail : (most left : ℕ) (ts : List Token) (e : Fault) → Fails e (many_commands_at most (command_at most left) ts) → Fails e (commands_at most left ts)
commands_fail most left ts e h = fails_then e (many_commands_at most (command_at most left) ts) (λ x rest. Got (block_from x) rest) h

pub command_at_more : (most left : ℕ) (ts : List Token) → 0 < left
    → command_at most left ts ≡ made (λ q. At q.0 q.1) (placed (form_at most (expression_at (left - 1)) (formula_at (left - 1)) (block_at most (left - 1)))) ts
unfolding command_at
command_at_more most zero ts lt = absurd (omega arith)
command_at_more most (suc left) ts lt = let e : suc left - 1 ≡ left = omega arith in rw e refl

pub command_at_none : (most left : ℕ) (ts : List Token) → left ≡ 0 → command_at most left ts ≡ too_deep_at begins_command ts
unfolding command_at
command_at_none most left ts e = rw e refl

-- the code's refusal of a tree that is too deep
pub too_deep_fails : {X : Type 0} (begins : List Token → Bool) (ts : List Token) (b : Bool) (e : Fault) (read : Reading X)
    → b ≡ begins ts → e ≡ (if b then faults.TooDeep (length ts) else faults.Unexpected (length ts)) → read ≡ too_deep_at begins ts → Fails e read
too_deep_fails {X} begins ts b e read same is h = rw (is, h) (too_deep_by X begins ts b same)
  where
    too_deep_by : (X : Type 0) (begins : List Token → Bool) (ts : List Token) (b : Bool) → b ≡ begins ts → Fails {Y = X} (if b then faults.TooDeep (length ts) else faults.Unexpected (length ts)) (too_deep_at begins ts)
    too_deep_by X begins ts true same = rw (← same) refl
    too_deep_by X begins ts false same = rw (← same) refl

-- ---- the trees that the code's commands stand for

pub if_is : (p : Formula) (a b : List Command) → form_of (F.If p a b) ≡ If (formula_of p) (block_of a) (block_of b)
if_is p a b = search (rules, F.the_lemmas, block_is)

pub while_is : (p q : Formula) (b : List Command) → form_of (F.While p q b) ≡ While (formula_of p) (formula_of q) (block_of b)
while_is p q b = search (rules, F.the_lemmas, block_is)
