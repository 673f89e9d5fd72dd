-- What the run of digits is, by what the parser of integers answers.
use Rattle.std.proofs.Common.{◌≡◌, refl, sym, subst, arith}
use Rattle.rel_lexer.proofs.Numbers.{number-zero, number-wide, number-token, some}
use Rattle.rel_lexer.proofs.Faults.{bad-next}
use mir.Syntax.{w128}
use Rattle.std.specs.Prelude.{Ok, Err}
use Rattle.std.specs.Str.{chars}
use Rattle.std.specs.Str.Parse.{ParsesSigned}
use Rattle.std.specs.Int.RustNames.{FitsSigned}
use Rattle.std.proofs.lemmas.Int.{to_z-of_z}
use Rattle.rel_lang.specs.Tokens.{number_piece}
use Rattle.std.specs.declared.num.ParseIntError.{ParseIntError}
use Rattle.rel_lexer.specs.Pieces.{IsToken}
use Rattle.rel_lexer.specs.declared.Kind.TheVariants.{Number}
use Rattle.rel_lexer.proofs.parts.number.Goals as goal
use Rattle.rel_lexer.proofs.parts.number.Goals.{else-first-eq48-via-then-first-eq48+else-len-ne1, else-first-eq48-via-else-first-eq48}

pub overflow_add-result : goal.overflow_add-result
overflow_add-result c =
    let run = c.digits_len-len.ensures in
    let positive = some c.args.rest.now c.args.first c.digits_len-len.result c.utf8.rest c.requires.begins c.requires.passes run in
    omega (arith, run.boundary.0, positive, c.requires.places)

pub returns-then-len-ne1 : goal.returns-then-len-ne1
returns-then-len-ne1 c = bad-next _ c.args.at (number-zero c.args.rest.now c.args.first c.digits_len-len.result c.utf8.rest c.requires.begins c.requires.passes c.digits_len-len.ensures c.if-first-eq48.true c.if-len-ne1.true)

pub returns-in-Err : goal.returns-in-Err
returns-in-Err c =
    let parsed = subst (λ t. ParsesSigned w128 10 t (Err c.in-Err.field-0)) c.split_at.ensures.front c.in-Err.ensures.value.0 in
    let alone : c.args.first ≡ 48 → c.digits_len-len.result ≡ 1 = λ zero. elim c.else-first-eq48.branch [ else-first-eq48-via-then-first-eq48+else-len-ne1 w ↦ w.if-len-ne1.false | else-first-eq48-via-else-first-eq48 w ↦ absurd (w.if-first-eq48.false zero) ] in
    (refl, number-wide c.args.rest.now c.args.first c.digits_len-len.result c.utf8.rest c.requires.begins c.requires.passes c.digits_len-len.ensures c.in-Err.field-0 parsed alone)

pub returns-in-Ok : goal.returns-in-Ok
returns-in-Ok c =
    let text = c.args.rest.now in
    let n = c.digits_len-len.result in
    let v = c.in-Ok.value in
    let parsed = c.in-Ok.ensures.value.0 in
    let fits : FitsSigned w128 v = subst (FitsSigned w128) (sym parsed.1) parsed.0.1 in
    let alone : c.args.first ≡ 48 → n ≡ 1 = λ zero. elim c.else-first-eq48.branch [ else-first-eq48-via-then-first-eq48+else-len-ne1 w ↦ w.if-len-ne1.false | else-first-eq48-via-else-first-eq48 w ↦ absurd (w.if-first-eq48.false zero) ] in
    subst (λ z. IsToken (number_piece (chars text)) text (Number z) n) (sym (to_z-of_z w128 v fits))
    (number-token text c.args.first n c.utf8.rest c.requires.begins c.requires.passes c.digits_len-len.ensures ParseIntError v (subst (λ t. ParsesSigned {E = ParseIntError} w128 10 t (Ok v)) c.split_at.ensures.front parsed) alone)
