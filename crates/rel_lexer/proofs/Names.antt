-- A name or a reserved word.
use Rattle.std.proofs.Common.{◌≡◌, ℕ, ◌+◌, true, not, Some, None, cond, List, [], ◌∷◌, length, take, drop, ⊎_elim, ap, ◌∙◌, arith}
use Rattle.std.specs.Prelude.{take_while, ◌==◌}
use Rattle.std.specs.List.{list_all}
use Rattle.std.specs.Str.{chars}
use Rattle.std.proofs.lemmas.Bool.{or_cases, and_from, eqb-true}
use Rattle.std.proofs.lemmas.List.Sums.{take_while-cons}
use Rattle.unicode_ident.proofs.IdentLemmas.{is_xid_continue-ascii, is_xid_start-is_xid_continue}
use Rattle.rel_lang.specs.Tokens.{begins_name, continues_name, run_len, has_name_form, is_reserved}
use Rattle.rel_lang.specs.Tokens.Piece.{token}
use Rattle.rel_lexer.specs.declared.Kind.{Kind}
use Rattle.rel_lexer.specs.declared.Kind.TheVariants.{Word, Name}
use Rattle.rel_lexer.specs.declared.keywords.Keyword.{Keyword}
use Rattle.rel_lexer.specs.Words.{keyword_of}
use Rattle.rel_lexer.specs.Tokens.{IsOfKind}
use Rattle.rel_lexer.proofs.Spellings.{is_found, keyword_is, reserved_is_found}
use Rattle.rel_lexer.specs.Pieces.{BeginsWith, IsRun, IsToken, chars_in}
use Rattle.rel_lexer.proofs.Cuts.{some-from_chars, take_while-all}

-- what may begin a name may go on with it
begins-continues : (c : ℕ) → begins_name c ≡ true → continues_name c ≡ true
begins-continues c begins =
    ⊎_elim (is_xid_start-is_xid_continue c) (λ same. ap continues_name (eqb-true c 95 same) ∙ is_xid_continue-ascii 95 (omega arith)) (or_cases _ (c == 95) begins)

module _ (text : List ℕ) (c n : ℕ) (begins : BeginsWith text c) (passes : begins_name c ≡ true) (run : IsRun continues_name text n) where
  abbrev after : List ℕ
  after = drop 1 (chars text)

  spelled : chars (take n text) ≡ c ∷ take_while continues_name after
  spelled =
      run.spells ∙ ap (take_while continues_name) begins ∙ take_while-cons continues_name c after
      ∙ ap (λ b. cond b (c ∷ take_while continues_name after) []) (begins-continues c passes)

  pub formed : has_name_form (chars (take n text)) ≡ true
  formed = ap has_name_form spelled ∙ and_from (begins_name c) (list_all continues_name (take_while continues_name after)) passes (take_while-all continues_name after)

  pub name-token : (kind : Kind) → IsOfKind kind (take n text) → IsToken (token (1 + run_len continues_name after)) text kind n
  name-token kind of_kind =
      let counted : 1 + run_len continues_name after ≡ chars_in n text = omega (arith, ap length spelled) in
      record {
        some = some-from_chars text n (omega arith);
        boundary = run.boundary;
        is = ap token counted;
        of_kind = of_kind;
      }

-- a text with the form of a name is a reserved word or a name
pub word-kind : (text : List ℕ) (k : Keyword) → keyword_of text ≡ Some k → IsOfKind (Word k) text
word-kind text k found = keyword_is text k found

pub name-kind : (text : List ℕ) → has_name_form (chars text) ≡ true → keyword_of text ≡ None → IsOfKind Name text
name-kind text form none = and_from (has_name_form (chars text)) (not (is_reserved text)) form (ap not (reserved_is_found text ∙ ap is_found none))
