use Rattle.std.proofs.Common.{◌<◌, ◌≤◌, length, sym, ap, ◌∙◌, rules}
use Rattle.rel_lang.specs.Refusal.{place_behind}
use Rattle.rel_lexer.specs.Tokens.{tokens_of}
use Rattle.rel_decls.proofs.Places.{place_held, place_past}
use Rattle.rel_decls.proofs.refused_place.Goals as goal

pub returns-in-Some : goal.returns-in-Some
returns-in-Some t =
    let lt : t.saturating_sub.result < length t.args.tokens.now = search rules in
    sym (place_held t.args.whole t.saturating_sub.result t.args.tokens.now t.in-Some.token.now lt t.in-Some.ensures.lookup.1)
    ∙ ap (λ n. place_behind t.args.whole n (tokens_of t.args.tokens.now)) t.saturating_sub.ensures

pub returns-in-None : goal.returns-in-None
returns-in-None t =
    let le : length t.args.tokens.now ≤ t.saturating_sub.result = search rules in
    sym (place_past t.args.whole t.saturating_sub.result t.args.tokens.now le)
    ∙ ap (λ n. place_behind t.args.whole n (tokens_of t.args.tokens.now)) t.saturating_sub.ensures
