-- The byte of a token behind others.
use Rattle.std.proofs.Common.{◌≡◌, ℕ, zero, suc, ◌<◌, ◌≤◌, List, [], ◌∷◌, length, get_or, refl, sym, ap, arith}
use Rattle.rel_lang.specs.Refusal.{place_behind}
use Rattle.rel_lexer.specs.declared.Token.{Token}
use Rattle.rel_lexer.specs.Tokens.{tokens_of}

pub place_held : (whole n : ℕ) (ts : List Token) (t : Token) → n < length ts → t ≡ get_or ts n t → place_behind whole n (tokens_of ts) ≡ t.at
place_held whole n [] t lt e = absurd (omega (arith, lt))
place_held whole zero (u ∷ ts) t lt e = ap (λ x. x.at) (sym e)
place_held whole (suc n) (u ∷ ts) t lt e = place_held whole n ts t (omega (arith, lt)) e

pub place_past : (whole n : ℕ) (ts : List Token) → length ts ≤ n → place_behind whole n (tokens_of ts) ≡ whole
place_past whole n [] le = refl
place_past whole zero (u ∷ ts) le = absurd (omega (arith, le))
place_past whole (suc n) (u ∷ ts) le = place_past whole n ts (omega (arith, le))
