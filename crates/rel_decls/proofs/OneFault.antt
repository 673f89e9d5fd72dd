-- A text has one fault at most, and a text with a fault stands for no bundle within the limits.
use Rattle.std.proofs.Common.{◌≡◌, ◌≢◌, ℕ, zero, suc, ◌≤◌, List, [], ◌∷◌, length, Option, Some, None, Result, Ok, Err, ◌⊎◌, ⊎_elim, inl, inr, refl, sym, ap, ◌∙◌, subst, le_refl, take_all, arith}
use Rattle.std.specs.Prelude.{IfOk, IfErr}
use Rattle.std.specs.Result.{result_ok}
use Rattle.std.specs.Str.{IsUtf8, IsValidUpTo}
use Rattle.std.proofs.lemmas.Str.{utf8_valid_len-IsValidUpTo}
use Rattle.rel_lang.specs.Syntax.{Bundle}
use Rattle.rel_lang.specs.Tokens.{Token as Piece, LexicalFault, lexed, tokens}
use Rattle.rel_lang.specs.Text.{Says, Mark, Match, show_item, show_tokens, IsShapedItem, IsPrintable, StandsFor}
use Rattle.rel_lang.specs.Refusal.{limits, IsBefore, GoesOn, Fits, Reason, Unexpected, TooDeep, TooMany, IsRefused, reach, place_behind}
use Rattle.rel_lang.proofs.Refusals.{within_is_not_over, one_refusal}
use Rattle.rel_parse.proofs.Laws.{IsToldBy, AreTold}
use Rattle.rel_parse.proofs.Along.{le_reach, within_all}
use Rattle.rel_parse.proofs.Both.{compared}
use Rattle.rel_lang.specs.declared.fault.LexKind.{LexKind}
use Rattle.rel_lang.specs.declared.fault.LexKind.TheVariants.{BadChar, WideLiteral}
use Rattle.rel_decls.specs.declared.fault.TextFault.{TextFault}
use Rattle.rel_decls.specs.declared.fault.TextFault.TheVariants as faults
use Rattle.rel_decls.specs.Items.{begins_item, item_at}
use Rattle.rel_decls.specs.Faults.{lexical, IsRefusedAt, HasFault, StandsForNone, IsTold}
use Rattle.rel_decls.proofs.Ends.{all_told}
use Rattle.rel_decls.proofs.Items.{item_reads, item_shallow}
use Rattle.rel_decls.proofs.Standing.{some_depth, some_width}

-- ---- what is said of the tokens

is_before : (ms : List Mark) (ps : List Piece) (o : Option (List ℕ)) → IsToldBy o ms → Match ms ps → IsBefore o ps
is_before ms ps None told match = tt
is_before [] ps (Some w) told match = absurd told
is_before (n ∷ ms) [] (Some w) told match = absurd match
is_before (n ∷ ms) (p ∷ ps) (Some w) told match = subst (λ s. Says p.text s) told match.0

-- marks that tokens say go on with as many of them as are asked for
match_goes : (n : ℕ) (ms : List Mark) (ps : List Piece) → n ≤ length ps → AreTold ms → Match ms ps → GoesOn n ms ps
match_goes zero ms ps le told match = tt
match_goes (suc n) [] [] le told match = absurd (omega (arith, le))
match_goes (suc n) [] (p ∷ ps) le told match = absurd match
match_goes (suc n) (m ∷ ms) [] le told match = absurd match
match_goes (suc n) (m ∷ ms) (p ∷ ps) le told match = (match.0, match.1, is_before ms ps m.told told.0 match.2, match_goes n ms ps (omega (arith, le)) told.1 match.2)

goes_within : (n : ℕ) (ms : List Mark) (ps : List Piece) → GoesOn n ms ps → n ≤ length ps
goes_within zero ms ps g = omega arith
goes_within (suc n) [] ps g = absurd g
goes_within (suc n) (m ∷ ms) [] g = absurd g
goes_within (suc n) (m ∷ ms) (p ∷ ps) g = let h = goes_within n ms ps g.3 in omega (arith, h)

some_is : {A : Type 0} (x y : A) → Some x ≡ Some y → x ≡ y
some_is x y e = cc

-- ---- what is refused stands for no bundle within the limits

module _ (r : Reason) (n : ℕ) (ps : List Piece) (b : Bundle) (refused : IsRefused r n ps) (match : Match (show_tokens b) ps) where
  within_tokens : n ≤ length ps
  within_tokens =
      let y = refused.begun.0 in
      let less = le_reach r n in
      let far = goes_within (reach r n) (show_tokens y) ps refused.begun.2 in
      omega (arith, less, far)

  told : AreTold (show_tokens b)
  told = all_told limits show_item IsShapedItem (item_at limits) begins_item (item_reads limits some_depth some_width) (item_shallow limits) refl 1 b.items

  never_within : IsPrintable b → Fits b → ⊥
  never_within printable fits =
      elim (compared (suc n) (length ps)) [
        | inl lt ↦
            within_is_not_over limits r n (suc n) (show_tokens b) (omega arith) (within_all limits (show_tokens b) (suc n) fits)
            (refused.stuck b printable (match_goes (suc n) (show_tokens b) ps lt told match))
        | inr ge ↦ refused.ended b printable (omega (arith, ge, within_tokens)) match
      ]

-- ---- the text

no_valid_part : (text : List ℕ) (at : ℕ) → IsUtf8 text → IsValidUpTo text at → ⊥
no_valid_part text at utf8 valid = valid.longest (length text) valid.short (subst IsUtf8 (sym (take_all (length text) text (le_refl (length text)))) utf8)

one_valid_part : (text : List ℕ) (m n : ℕ) → IsValidUpTo text m → IsValidUpTo text n → m ≡ n
one_valid_part text m n one two = sym (utf8_valid_len-IsValidUpTo text m one) ∙ utf8_valid_len-IsValidUpTo text n two

no_tokens : (text : List ℕ) (found : List Piece) (f : LexicalFault) → tokens text ≡ Some found → lexed text ≡ Err f → ⊥
no_tokens text found f cut fault = let none : None ≡ Some found = sym (ap result_ok fault) ∙ cut in cc

refused_for_none : (r : Reason) (text : List ℕ) (at : ℕ) → IsRefusedAt r text at → StandsForNone text
refused_for_none r text at refused b stands fits =
    let same = some_is stands.found refused.found (sym stands.cut ∙ refused.cut) in
    never_within r refused.passed refused.found b refused.refused (subst (λ ps. Match (show_tokens b) ps) same stands.spelled) stands.printable fits

pub unfit : (text : List ℕ) (f : TextFault) → HasFault text f → f ≢ faults.Memory → StandsForNone text
unfit text (faults.NotUtf8 at) has some = λ b stands fits. no_valid_part text at stands.utf8 has
unfit text (faults.Lexical why at) has some = λ b stands fits. no_tokens text stands.found (lexical why at) stands.cut has.1
unfit text (faults.Syntax at) has some = refused_for_none Unexpected text at has
unfit text (faults.TooDeep at) has some = refused_for_none TooDeep text at has
unfit text (faults.TooMany at) has some = refused_for_none TooMany text at has
unfit text faults.Memory has some = absurd (some refl)

-- ---- one fault

same_lexical : (k j : LexKind) (m n : ℕ) → lexical k m ≡ lexical j n → faults.Lexical k m ≡ faults.Lexical j n
same_lexical BadChar BadChar m n e = let same : m ≡ n = cc in ap (λ at. faults.Lexical BadChar at) same
same_lexical BadChar WideLiteral m n e = absurd cc
same_lexical WideLiteral BadChar m n e = absurd cc
same_lexical WideLiteral WideLiteral m n e = let same : m ≡ n = cc in ap (λ at. faults.Lexical WideLiteral at) same

err_is : (A : Type 0) {E : Type 0} (x y : E) → ◌≡◌ {A = Result A E} (Err x) (Err y) → x ≡ y
err_is A x y e = cc

abbrev refusal : Reason → ℕ → TextFault
refusal Unexpected at = faults.Syntax at
refusal TooDeep at = faults.TooDeep at
refusal TooMany at = faults.TooMany at

same_refusal : (r s : Reason) (text : List ℕ) (m n : ℕ) → IsRefusedAt r text m → IsRefusedAt s text n → refusal r m ≡ refusal s n
same_refusal r s text m n one two =
    let found = some_is two.found one.found (sym two.cut ∙ one.cut) in
    let both = one_refusal r s one.passed two.passed one.found one.refused (subst (λ ps. IsRefused s two.passed ps) found two.refused) in
    let places : m ≡ n = one.place ∙ (λ i. place_behind (length text) (both.1 i) (sym found i)) ∙ sym two.place in
    (λ i. refusal (both.0 i) (places i))

is_not_utf8 : (text : List ℕ) (at : ℕ) (g : TextFault) → IsValidUpTo text at → HasFault text g → g ≢ faults.Memory → faults.NotUtf8 at ≡ g
is_not_utf8 text at (faults.NotUtf8 n) valid has some = ap (λ k. faults.NotUtf8 k) (one_valid_part text at n valid has)
is_not_utf8 text at (faults.Lexical why n) valid has some = absurd (no_valid_part text at has.0 valid)
is_not_utf8 text at (faults.Syntax n) valid has some = absurd (no_valid_part text at has.utf8 valid)
is_not_utf8 text at (faults.TooDeep n) valid has some = absurd (no_valid_part text at has.utf8 valid)
is_not_utf8 text at (faults.TooMany n) valid has some = absurd (no_valid_part text at has.utf8 valid)
is_not_utf8 text at faults.Memory valid has some = absurd (some refl)

is_lexical : (text : List ℕ) (why : LexKind) (at : ℕ) (g : TextFault) → IsUtf8 text → lexed text ≡ Err (lexical why at) → HasFault text g → g ≢ faults.Memory → faults.Lexical why at ≡ g
is_lexical text why at (faults.NotUtf8 n) utf8 fault has some = absurd (no_valid_part text n utf8 has)
is_lexical text why at (faults.Lexical other n) utf8 fault has some = same_lexical why other at n (err_is (List Piece) (lexical why at) (lexical other n) (sym fault ∙ has.1))
is_lexical text why at (faults.Syntax n) utf8 fault has some = absurd (no_tokens text has.found (lexical why at) has.cut fault)
is_lexical text why at (faults.TooDeep n) utf8 fault has some = absurd (no_tokens text has.found (lexical why at) has.cut fault)
is_lexical text why at (faults.TooMany n) utf8 fault has some = absurd (no_tokens text has.found (lexical why at) has.cut fault)
is_lexical text why at faults.Memory utf8 fault has some = absurd (some refl)

is_refusal : (r : Reason) (text : List ℕ) (at : ℕ) (g : TextFault) → IsRefusedAt r text at → HasFault text g → g ≢ faults.Memory → refusal r at ≡ g
is_refusal r text at (faults.NotUtf8 n) refused has some = absurd (no_valid_part text n refused.utf8 has)
is_refusal r text at (faults.Lexical why n) refused has some = absurd (no_tokens text refused.found (lexical why n) refused.cut has.1)
is_refusal r text at (faults.Syntax n) refused has some = same_refusal r Unexpected text at n refused has
is_refusal r text at (faults.TooDeep n) refused has some = same_refusal r TooDeep text at n refused has
is_refusal r text at (faults.TooMany n) refused has some = same_refusal r TooMany text at n refused has
is_refusal r text at faults.Memory refused has some = absurd (some refl)

pub one_fault : (text : List ℕ) (f g : TextFault) → HasFault text f → HasFault text g → f ≢ faults.Memory → g ≢ faults.Memory → f ≡ g
one_fault text (faults.NotUtf8 at) g has other some more = is_not_utf8 text at g has other more
one_fault text (faults.Lexical why at) g has other some more = is_lexical text why at g has.0 has.1 other more
one_fault text (faults.Syntax at) g has other some more = is_refusal Unexpected text at g has other more
one_fault text (faults.TooDeep at) g has other some more = is_refusal TooDeep text at g has other more
one_fault text (faults.TooMany at) g has other some more = is_refusal TooMany text at g has other more
one_fault text faults.Memory g has other some more = absurd (some refl)

-- ---- the answer

is_memory : (e : TextFault) → (e ≡ faults.Memory) ⊎ (e ≢ faults.Memory)
is_memory (faults.NotUtf8 at) = inr (λ e. cc)
is_memory (faults.Lexical why at) = inr (λ e. cc)
is_memory (faults.Syntax at) = inr (λ e. cc)
is_memory (faults.TooDeep at) = inr (λ e. cc)
is_memory (faults.TooMany at) = inr (λ e. cc)
is_memory faults.Memory = inl refl

pub missed : {A : Type 0} (text : List ℕ) (result : Result A TextFault) → IfErr result (λ e. HasFault text e) → IfErr result (λ e. e ≢ faults.Memory → StandsForNone text)
missed text (Ok x) has = tt
missed text (Err e) has = λ some. unfit text e has some

pub told_by : (text : List ℕ) (e f : TextFault) → HasFault text e → HasFault text f → f ≢ faults.Memory → (e ≡ f) ⊎ (e ≡ faults.Memory)
told_by text e f has fault some = ⊎_elim (λ none. inr none) (λ more. inl (one_fault text e f has fault more some)) (is_memory e)

pub is_told : {A : Type 0} (view : A → Bundle) (text : List ℕ) (result : Result A TextFault) → IfOk result (λ b. StandsFor text (view b)) → IfOk result (λ b. Fits (view b)) → IfErr result (λ e. HasFault text e) → IsTold text result
is_told view text (Ok x) stands fits has = λ f fault some. absurd (unfit text f fault some (view x) stands fits)
is_told view text (Err e) stands fits has = λ f fault some. told_by text e f has fault some
