-- A text stands for one bundle at most.
use Rattle.std.proofs.Common.{◌≡◌, ℕ, suc, ◌+◌, ◌<◌, ◌≤◌, List, [], ◌∷◌, Some, Result, Ok, Err, refl, sym, ap, ◌∙◌, subst, arith}
use Rattle.std.specs.List.{AllByRecursion}
use Rattle.std.specs.Result.{result_ok}
use Rattle.rel_lang.specs.Syntax.{Item, Bundle}
use Rattle.rel_lang.specs.Tokens.{Token as Piece, LexicalFault, lexed}
use Rattle.rel_lang.specs.Text.{Mark, Match, show_item, show_tokens, IsShapedItem, IsPrintable}
use Rattle.rel_lang.specs.Refusal.{Limits, IsWithin}
use Rattle.rel_lexer.specs.declared.Kind.{Kind}
use Rattle.rel_lexer.specs.declared.Token.{Token}
use Rattle.rel_lexer.specs.Tokens.{tokens_of}
use Rattle.rel_parse.proofs.Laws.{HaveKinds}
use Rattle.rel_decls.specs.Items.{begins_item, item_at}
use Rattle.rel_decls.specs.Laws.{TextsStandForOneBundle}
use Rattle.rel_decls.proofs.Ends.{all_told, match_spelled, same_lists}
use Rattle.rel_decls.proofs.Items.{item_reads, item_shallow}
use Rattle.rel_decls.proofs.Kinded.{AreKinded, have_kinds}

-- ---- the code's tokens

held : Kind → Piece → Token
held k p = record { kind = k; text = record { ref_ptr = (0, 0); now = p.text }; at = p.at }

all_held : (ps : List Piece) → AreKinded ps → List Token
all_held [] h = []
all_held (p ∷ ps) h = held h.0.0 p ∷ all_held ps h.1

held_are : (ps : List Piece) (h : AreKinded ps) → tokens_of (all_held ps h) ≡ ps
unfolding held all_held
held_are [] h = refl
held_are (p ∷ ps) h = ap (λ l. p ∷ l) (held_are ps h.1)

held_have_kinds : (ps : List Piece) (h : AreKinded ps) → HaveKinds (all_held ps h)
unfolding held all_held
held_have_kinds [] h = tt
held_have_kinds (p ∷ ps) h = (h.0.1, held_have_kinds ps h.1)

-- ---- limits that some marks are within

depths : List Mark → ℕ
depths [] = 0
depths (m ∷ ms) = m.depth + depths ms

elements : List Mark → ℕ
elements [] = 0
elements (m ∷ ms) = m.element + elements ms

within_totals : (l : Limits) (ms : List Mark) → depths ms ≤ l.deepest → elements ms ≤ l.most → AllByRecursion (IsWithin l) ms
unfolding depths elements
within_totals l [] deep wide = tt
within_totals l (m ∷ ms) deep wide = ((omega (arith, deep), omega (arith, wide)), within_totals l ms (omega (arith, deep)) (omega (arith, wide)))

-- ---- the bundle

module _ (l : Limits) (deep : 0 < l.deepest) (wide : 0 < l.most) (b c : Bundle) (ts : List Token) where
  same_items : HaveKinds ts → IsPrintable b → IsPrintable c → AllByRecursion (IsWithin l) (show_tokens b) → Match (show_tokens b) (tokens_of ts) → Match (show_tokens c) (tokens_of ts) → b.items ≡ c.items
  same_items kinds one two within first second =
      let told = λ (xs : List Item). all_told l show_item IsShapedItem (item_at l) begins_item (item_reads l deep wide) (item_shallow l) refl 1 xs in
      same_lists l show_item IsShapedItem (item_at l) begins_item (item_reads l deep wide) (item_shallow l) refl 1 b.items c.items ts kinds (one.shapes, one.words) within (two.shapes, two.words)
      (match_spelled (show_tokens b) ts (told b.items) first) (match_spelled (show_tokens c) ts (told c.items) second)

is_ok : (o : Result (List Piece) LexicalFault) (ps : List Piece) → result_ok o ≡ Some ps → o ≡ Ok ps
is_ok (Ok qs) ps e = let same : qs ≡ ps = cc in ap Ok same
is_ok (Err f) ps e = absurd cc

some_is : {A : Type 0} (x y : A) → Some x ≡ Some y → x ≡ y
some_is x y e = cc

pub one_bundle : TextsStandForOneBundle
one_bundle text b c one two =
    let ps = one.found in
    let kinded = have_kinds text ps one.utf8 (is_ok (lexed text) ps one.cut) in
    let are = held_are ps kinded in
    let same = some_is two.found ps (sym two.cut ∙ one.cut) in
    let first = subst (λ us. Match (show_tokens b) us) (sym are) one.spelled in
    let second = subst (λ us. Match (show_tokens c) us) (sym are) (subst (λ us. Match (show_tokens c) us) same two.spelled) in
    let deepest = suc (depths (show_tokens b)) in
    let most = suc (elements (show_tokens b)) in
    let within = within_totals (record { deepest = deepest; most = most }) (show_tokens b) (omega arith) (omega arith) in
    let items = same_items (record { deepest = deepest; most = most }) (omega arith) (omega arith) b c (all_held ps kinded) (held_have_kinds ps kinded) one.printable two.printable within first second in
    ap (λ (xs : List Item). record { items = xs }) items
