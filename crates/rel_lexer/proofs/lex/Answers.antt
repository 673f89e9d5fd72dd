-- Each part of the text adds its token, and a place where nothing begins is the text's first fault.
use Rattle.std.proofs.Common.{◌≡◌, ◌+◌, length, not, take, drop, sym, ap, ◌∙◌, subst, arith}
use Rattle.std.specs.Prelude.{Ok, [], ◌∷◌, ◌++◌, refl}
use Rattle.std.specs.Str.{chars}
use Rattle.rel_lang.specs.Tokens.{piece_at}
use Rattle.rel_lexer.specs.declared.Token.{Token}
use Rattle.rel_lexer.specs.Pieces.{IsPart, part_len}
use Rattle.std.proofs.ResultArms.{chosen}
use Rattle.std.proofs.lemmas.Bool.{eqb-true, eqb-false}
use Rattle.rel_lexer.proofs.Walk.{refused, finished, Walked, walked-past, walked-token}
use Rattle.rel_lexer.proofs.lex.Goals as goal
use Rattle.rel_lexer.proofs.lex.Goals.{in-Token+else-is_err, in_default}

pub returns-in-Err-clause-refused : goal.returns-in-Err-clause-refused
returns-in-Err-clause-refused c =
    let loop = c.loop-rest in
    let some : length loop.rest.now ≡ 0 → ⊥ = eqb-false (length loop.rest.now) 0 (sym c.loop-rest-test.ensures) in
    refused c.args.text.now loop.tokens.items loop.rest.now loop.at loop.invariant.utf8 loop.invariant.so_far (omega arith) c.in-Err.fault c.in-Err.ensures

pub returns-clause-tokens : goal.returns-clause-tokens
returns-clause-tokens c =
    let loop = c.loop-rest in
    finished c.args.text.now loop.tokens.items loop.rest.now loop.at loop.invariant.utf8 loop.invariant.so_far (eqb-true (length loop.rest.now) 0 (sym c.loop-rest-test.ensures))

-- the part is pushed if it is a token, and the text after it is left
pub loop-rest-preserved : goal.loop-rest-preserved
loop-rest-preserved c =
    let text = c.args.text.now in
    let loop = c.loop-rest in
    let rest = loop.rest.now in
    let parts = c.split_at.ensures in
    let after = c.split_at.result.1.now in
    let front_len : length c.split_at.result.0.now ≡ part_len c.in-Ok.part = parts.front_len ∙ c.len.ensures in
    let after_is : after ≡ drop (part_len c.in-Ok.part) rest = parts.back ∙ ap (λ n. drop n rest) c.len.ensures in
    elim c.match-part.branch [
      | in-Token+else-is_err w ↦
          (let kind = w.in-Token.kind in
          let n = w.in-Token.field-1 in
          let len : part_len c.in-Ok.part ≡ n = ap part_len w.in-Token.is in
          let part = subst (λ p. IsPart (piece_at (chars rest)) loop.at rest (Ok p)) w.in-Token.is c.in-Ok.ensures in
          let pushed = chosen _ _ _ _ w.push.ensures.items (w.is_err.ensures.negation ∙ ap not w.if-is_err.false) in
          let t : Token = record { kind = kind; text = c.split_at.result.0; at = loop.at } in
          let walked = walked-token text loop.tokens.items rest loop.at loop.invariant kind n t part refl (parts.front ∙ ap (λ k. take k rest) (c.len.ensures ∙ len)) refl after (after_is ∙ ap (λ k. drop k rest) len) in
          subst (λ v. Walked text v.items after (loop.at + length c.split_at.result.0.now)) (sym w.tokens-is)
          (subst (λ l. Walked text l after (loop.at + length c.split_at.result.0.now)) (sym pushed)
          (subst (λ k. Walked text (loop.tokens.items ++ (t ∷ [])) after (loop.at + k)) (sym (front_len ∙ len)) walked)))
      | in_default w ↦
          subst (λ v. Walked text v.items after (loop.at + length c.split_at.result.0.now)) (sym w.tokens-is)
          (subst (λ k. Walked text loop.tokens.items after (loop.at + k)) (sym front_len) (walked-past text loop.tokens.items rest loop.at loop.invariant c.in-Ok.part c.in-Ok.ensures w.in_default.not-Token after after_is))
    ]
