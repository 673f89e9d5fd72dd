-- What a writer has taken, and a reader has given, after one more piece.
use Rattle.std.proofs.Common.{ℕ, ◌+◌, ◌<◌, ◌≤◌, List, ◌++◌, Some, None, Option, IfSome, length, take, drop, sym, ap, subst, arith, ◌-◌, length-append}
use Rattle.std.proofs.Math.Seq.{take-add}
use Rattle.std.proofs.lemmas.List.{take_rest}
use Rattle.std.proofs.KnownBytes.{Appends-trans, Consumes-trans}
use Rattle.std.specs.Io.KnownBytes.{Appends, Consumes}

pub one_more_written : (old mid new : Option (List ℕ)) (content : List ℕ) (at n : ℕ) → Appends old mid (take at content) →
    Appends mid new (take n (take (length content - at) (drop at content))) → Appends old new (take (at + n) content)
one_more_written old mid new content at n before piece =
    let rest : Appends mid new (take n (drop at content)) = subst (λ rest. Appends mid new (take n rest)) (take_rest content at) piece in
    subst (Appends old new) (sym (take-add at n content)) (Appends-trans old mid new (take at content) (take n (drop at content)) before rest)

pub one_more_given : (old mid new : Option (List ℕ)) (before piece : List ℕ) (limit : ℕ) → length before + length piece ≤ limit + 1 →
    Consumes old mid before → Consumes mid new piece → (taken : List ℕ) × (length taken ≤ limit + 1) × Consumes old new taken
one_more_given old mid new before piece limit within given more =
    (before ++ piece, omega (arith, length-append before piece), Consumes-trans old mid new before piece given more)

-- more than the limit was given, so more than the limit was there
pub longer : (old new : Option (List ℕ)) (content : List ℕ) (limit : ℕ) → Consumes old new content → limit < length content →
    IfSome old (λ whole. limit < length whole)
longer None new content limit given more = tt
longer (Some whole) None content limit given more = absurd given
longer (Some whole) (Some rest) content limit given more =
    omega (arith, ap length given, length-append content rest)
