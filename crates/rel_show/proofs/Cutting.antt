-- The text that is printed for a bundle is cut into the bundle's tokens.
use Rattle.std.proofs.Common.{ℕ, suc, List, [], ◌∷◌, ◌++◌, sym, ap, subst, append_assoc}
use Rattle.std.specs.List.{AllByRecursion}
use Rattle.std.specs.Result.{result_ok}
use Rattle.std.specs.Str.{IsUtf8}
use Rattle.rel_lang.specs.Syntax.{Item, OfClass, OfInterface, OfModule, OfUnit, OfClient, OfJudgement, OfPair}
use Rattle.rel_lang.specs.Text.{Said, CanBeSaid, Mark, text_of, element, repeated, show_item, spaced, shown}
use Rattle.rel_lang.proofs.Writes.{all_left, all_right}
use Rattle.rel_show.proofs.Spelled.{PrintedTextsAreCut}
use Rattle.rel_show.proofs.Fixed.{IsKnown, fit}
use Rattle.rel_show.proofs.Walk.{IsFit, Reads, nothing, spaced_mark, last_mark}
use Rattle.rel_show.proofs.ItemWords.{item}

-- it holds of what each mark says
abbrev AllSaid : (Said → Type 0) → List Mark → Type 0
AllSaid P ms = AllByRecursion (λ m. P m.said) ms

abbrev IsText : Said → Type 0
IsText s = IsUtf8 (text_of s)

fits : (ms : List Mark) → AllSaid IsKnown ms → AllSaid CanBeSaid ms → AllSaid IsText ms → AllSaid IsFit ms
fits [] known can utf8 = tt
fits (m ∷ ms) known can utf8 = (fit m.said known.0 can.0 utf8.0, fits ms known.1 can.1 utf8.1)

same_said : (P : Said → Type 0) (n : ℕ) (ms : List Mark) → AllSaid P (element n ms) → AllSaid P ms
same_said P n [] all = all
same_said P n (m ∷ ms) all = all

renumbered : (n : ℕ) (ms ns : List Mark) (text : List ℕ) → Reads text (ms ++ ns) → Reads text (element n ms ++ ns)
renumbered n [] ns text reads = reads
renumbered n (m ∷ ms) ns text reads = record {
  utf8 = reads.utf8;
  from = λ at. let f = reads.from at in record { found = f.found; cut = f.cut; spelled = f.spelled };
}

abbrev HasSome : List Mark → Type 0
HasSome [] = ⊥
HasSome (m ∷ ms) = Unit {0}

-- a line before a text
line : (ms : List Mark) → HasSome ms → AllSaid IsFit ms → (text : List ℕ) (ns : List Mark) → Reads text ns → Reads (spaced ms ++ 10 ∷ text) (ms ++ ns)
line [] some fit text ns behind = absurd some
line (m ∷ []) some fit text ns behind = last_mark m fit.0 text ns behind
line (m ∷ n ∷ ms) some fit text ns behind =
    subst (λ t. Reads t ((m ∷ n ∷ ms) ++ ns)) (sym (append_assoc (text_of m.said) (32 ∷ spaced (n ∷ ms)) (10 ∷ text)))
    (spaced_mark m fit.0 (spaced (n ∷ ms) ++ 10 ∷ text) ((n ∷ ms) ++ ns) (line (n ∷ ms) tt fit.1 text ns behind))

-- an item has tokens
item_some : (i : Item) → HasSome (show_item i)
item_some (OfClass c) = tt
item_some (OfInterface i) = tt
item_some (OfModule m) = tt
item_some (OfUnit u) = tt
item_some (OfClient c) = tt
item_some (OfJudgement j) = tt
item_some (OfPair p) = tt

lines : (is : List Item) (n : ℕ) → AllSaid CanBeSaid (repeated show_item n is) → AllSaid IsText (repeated show_item n is) → Reads (shown is) (repeated show_item n is)
lines [] n can utf8 = nothing
lines (i ∷ is) n can utf8 =
    let first = element n (show_item i) in
    let rest = repeated show_item (suc n) is in
    let fit_marks =
    fits (show_item i) (item i).all (same_said CanBeSaid n (show_item i) (all_left (λ m. CanBeSaid m.said) first rest can))
    (same_said IsText n (show_item i) (all_left (λ m. IsText m.said) first rest utf8)) in
    let behind = lines is (suc n) (all_right (λ m. CanBeSaid m.said) first rest can) (all_right (λ m. IsText m.said) first rest utf8) in
    renumbered n (show_item i) rest (shown (i ∷ is)) (line (show_item i) (item_some i) fit_marks (shown is) rest behind)

pub printed_is_cut : PrintedTextsAreCut
printed_is_cut b printable utf8 =
    let whole = lines b.items 1 printable.words utf8 in
    let start = whole.from 0 in
    record { utf8 = whole.utf8; found = start.found; cut = ap result_ok start.cut; spelled = start.spelled }
