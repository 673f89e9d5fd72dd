-- A blank, and a comment.
use Rattle.std.proofs.Common.{◌≡◌, ℕ, suc, ◌+◌, ◌<◌, Bool, true, false, not, List, [], ◌∷◌, length, drop, IsUtf8, ⊎_elim, refl, sym, ap, ◌∙◌, arith}
use Rattle.std.specs.Prelude.{codes, nat_eq, take_while, ◌==◌, None}
use Rattle.std.specs.List.{starts_with}
use Rattle.std.specs.Str.{chars, IsAscii}
use Rattle.std.specs.Str.Pattern.{HasPrefixMatch, FindsTextPrefix}
use Rattle.std.proofs.lemmas.Bool.{false≢true, and_parts, eqb-true, eq-eqb, cond-true, cond-false, cases_Bool}
use Rattle.std.proofs.lemmas.Bool.Decides.{nat_tests}
use Rattle.std.proofs.lemmas.List.Sums.{take_while-cons}
use Rattle.std.proofs.lemmas.Str.Ascii.{IsAscii-cons, IsAscii-nil}
use Rattle.rel_lang.specs.Tokens.{piece_at, is_blank, is_line_feed, slash, comment_piece, run_len}
use Rattle.rel_lang.specs.Tokens.Piece.{gap, bad}
use Rattle.rel_lexer.specs.Pieces.{BeginsWith, IsRun, IsGap, chars_in}
use Rattle.rel_lexer.proofs.Cuts.{first_byte, starts-so, starts-not, some-from_chars}

abbrev stays : ℕ → Bool
stays c = not (is_line_feed c)

blank-ascii : (c : ℕ) → is_blank c ≡ true → c < 128
blank-ascii c blank = grind (arith, nat_tests)

pub blank-gap : (text : List ℕ) (c : ℕ) → IsUtf8 text → BeginsWith text c → is_blank c ≡ true → IsGap (piece_at (chars text)) text 1
blank-gap text c utf8 begins blank =
    let first = first_byte text c utf8 begins (blank-ascii c blank) in
    record {
      some = omega arith;
      boundary = first.boundary;
      is = ap piece_at begins ∙ cond-true (is_blank c) _ _ blank ∙ ap gap (sym first.one);
    }

comment-ascii : IsAscii (codes "//")
comment-ascii = IsAscii-cons 47 (codes "/") (omega arith) (IsAscii-cons 47 [] (omega arith) IsAscii-nil)

-- the second character decides
comment-is : (cs : List ℕ) → starts_with nat_eq (slash ∷ cs) (codes "//") ≡ true → comment_piece cs ≡ gap (length (take_while stays (slash ∷ cs)))
comment-is [] starts = absurd (false≢true starts)
comment-is (d ∷ cs) starts =
    let same : slash ≡ d = eqb-true slash d (and_parts _ _ starts).0 in
    let sized : length (take_while stays (slash ∷ d ∷ cs)) ≡ 2 + run_len stays cs = ap (λ x. length (take_while stays (slash ∷ x ∷ cs))) (sym same) ∙ ap length (take_while-cons stays slash (slash ∷ cs) ∙ ap (λ l. slash ∷ l) (take_while-cons stays slash cs)) ∙ omega arith in
    cond-true (d == slash) _ _ (eq-eqb d slash (sym same)) ∙ ap gap (sym sized)

comment-not : (cs : List ℕ) → starts_with nat_eq (slash ∷ cs) (codes "//") ≡ false → comment_piece cs ≡ bad 0
comment-not [] starts = refl
comment-not (d ∷ cs) starts =
    ⊎_elim
    (λ same. absurd (false≢true (sym starts ∙ ap (λ x. starts_with nat_eq (slash ∷ x ∷ cs) (codes "//")) (eqb-true d slash same))))
    (λ other. cond-false (d == slash) _ _ other)
    (cases_Bool (d == slash))

module _ (text : List ℕ) (utf8 : IsUtf8 text) (begins : BeginsWith text slash) where
  abbrev after : List ℕ
  after = drop 1 (chars text)

  pub comment-gap : (n : ℕ) → HasPrefixMatch (FindsTextPrefix (codes "//")) text → IsRun stays text n → IsGap (comment_piece after) text n
  comment-gap n found run =
      let starts = starts-so (codes "//") text comment-ascii utf8 found in
      let is = comment-is after (ap (λ l. starts_with nat_eq l (codes "//")) (sym begins) ∙ starts.chars_start) in
      let counted : length (take_while stays (slash ∷ after)) ≡ chars_in n text = ap (λ l. length (take_while stays l)) (sym begins) ∙ ap length (sym run.spells) in
      let passes : length (take_while stays (slash ∷ after)) ≡ suc (run_len stays after) = ap length (take_while-cons stays slash after) in
      record {
        some = some-from_chars text n (omega arith);
        boundary = run.boundary;
        is = is ∙ ap gap counted;
      }

  pub comment-bad : FindsTextPrefix (codes "//") text None → comment_piece after ≡ bad 0
  comment-bad lacks = comment-not after (ap (λ l. starts_with nat_eq l (codes "//")) (sym begins) ∙ starts-not (codes "//") text comment-ascii utf8 lacks)
