-- From what is found for two units and a judgement to what is found for a bundle.
use Rattle.std.proofs.Common.{◌≡◌, ◌≢◌, ℕ, suc, ◌+◌, ◌^◌, ◌<◌, ◌≤◌, List, [], ◌∷◌, ◌++◌, length, map, get_or, Option, Some, None, refl, sym, ap, subst, ◌∙◌, arith}
use Rattle.std.specs.List.{AllByRecursion}
use Rattle.std.proofs.lemmas.List.{length-map}
use Rattle.std.specs.Prelude.{codes}
use Rattle.rel_lang.specs.Syntax.{At, Form, Skip, Assign, Load, Store, New, Call, If, While, Block, End, Then, Proc, UnitItem}
use Rattle.rel_lang.specs.Text.{Mark, word, ended, show_decl, element, repeated, show_command, show_commands, show_globals, show_locals, show_spec, show_body, show_head, show_proc, show_unit, show_item}
use Rattle.rel_lang.specs.Refusal.{limits, IsWithin, Fits}
use Rattle.rel_lang.specs.State.{tables_of}
use Rattle.rel_lang.specs.Typed.{IsTyped}
use Rattle.rel_lang.specs.declared.bundle.UnitItem as U
use Rattle.rel_lang.specs.declared.bundle.Judgement as J
use Rattle.rel_lang.specs.declared.bundle.Proc as Q
use Rattle.rel_lang.specs.declared.bundle.Item as I
use Rattle.rel_lang.specs.declared.bundle.Item.TheVariants as IV
use Rattle.rel_lang.specs.View.{decl_of, proc_of, unit_of, item_of}
use Rattle.rel_logic.specs.View.{sequent_of}
use Rattle.rel_logic.specs.declared.sequent.Sequent.{Sequent}
use Rattle.rel_encode.specs.Numbers.{Numbers, numbered}
use Rattle.rel_linking.specs.Obligation.{no_numbers, block_len, obligation_of}
use Rattle.rel_linking.specs.Parts.{AreJudged, HasFew}
use Rattle.rel_linking.specs.Scope.{parts_of, IsAnswer, IsAnswerFor}
use Rattle.rel_linking.specs.Sorted.{IsWellSorted}
use Rattle.rel_linking.proofs.Forms.{items_of, made, straight, made_of, judged}
use Rattle.rel_linking.proofs.Lengths.{block_len_is}
use Rattle.rel_linking.proofs.Sorted.{obligation_is_sorted}
use Rattle.rel_linking.proofs.TrueBundles.{enough}

pub found : (xs : List I.Item) (l r : U.UnitItem) (j : J.Judgement) (o : Option Sequent) → xs ≡ made l r j → Fits (items_of xs) → IsTyped (items_of xs) → IsAnswerFor l r j o → IsAnswer (items_of xs) o
found xs l r j None e f t none = λ k s. none (judged xs l r j k e s)
found xs l r j (Some q) e f t some =
    let s = straight xs l r j e t some.0 in
    let sorted : IsWellSorted (sequent_of q) = subst IsWellSorted (sym some.1) (obligation_is_sorted _ _ s f) in
    record { parts = _; straight = s; value = some.1; sorted = sorted; enough = enough _ _ some.1 _ s }

-- the items, where there are three
pub three_are : (xs : List I.Item) (x y z : I.Item) (l r : U.UnitItem) (j : J.Judgement) → length xs ≡ 3 → x ≡ get_or xs 0 x → y ≡ get_or xs 1 y → z ≡ get_or xs 2 z
    → x ≡ IV.UnitItem l → y ≡ IV.UnitItem r → z ≡ IV.Judge j → xs ≡ made l r j
three_are [] x y z l r j h a b c p q s = absurd (omega arith)
three_are (u ∷ []) x y z l r j h a b c p q s = absurd (omega arith)
three_are (u ∷ v ∷ []) x y z l r j h a b c p q s = absurd (omega arith)
three_are (u ∷ v ∷ w ∷ []) x y z l r j h a b c p q s = λ i. (sym a ∙ p) i ∷ (sym b ∙ q) i ∷ (sym c ∙ s) i ∷ []
three_are (u ∷ v ∷ w ∷ t ∷ ts) x y z l r j h a b c p q s = absurd (omega arith)

pub not_three : (xs : List I.Item) → length xs ≢ 3 → IsAnswer (items_of xs) None
not_three xs h k s = let m = made_of xs k s.parts.items in h (ap length m.3)

pub first_other : (xs : List I.Item) (x : I.Item) → x ≡ get_or xs 0 x → ((l : U.UnitItem) → x ≡ IV.UnitItem l → ⊥) → IsAnswer (items_of xs) None
first_other xs x a h k s = let m = made_of xs k s.parts.items in h m.0 (a ∙ ap (λ ys. get_or ys 0 x) m.3)

pub second_other : (xs : List I.Item) (x : I.Item) → x ≡ get_or xs 1 x → ((l : U.UnitItem) → x ≡ IV.UnitItem l → ⊥) → IsAnswer (items_of xs) None
second_other xs x a h k s = let m = made_of xs k s.parts.items in h m.1 (a ∙ ap (λ ys. get_or ys 1 x) m.3)

pub third_other : (xs : List I.Item) (x : I.Item) → x ≡ get_or xs 2 x → ((j : J.Judgement) → x ≡ IV.Judge j → ⊥) → IsAnswer (items_of xs) None
third_other xs x a h k s = let m = made_of xs k s.parts.items in h m.2 (a ∙ ap (λ ys. get_or ys 2 x) m.3)

pub ruleset answers = (found, three_are, not_three, first_other, second_other, third_other)

-- the sequent of the one procedure of each
pub for_three : (l r : U.UnitItem) (j : J.Judgement) (p q : Q.Proc) (s : Sequent) → AreJudged l r j → p ≡ get_or l.procs 0 p → q ≡ get_or r.procs 0 q
    → sequent_of s ≡ obligation_of (parts_of l p r q j) → (k : AreJudged l r j) × (sequent_of s ≡ obligation_of (parts_of l k.left_proc r k.right_proc j))
for_three l r j p q s k el er e =
    let left : p ≡ k.left_proc = el ∙ ap (λ ps. get_or ps 0 p) k.left in
    let right : q ≡ k.right_proc = er ∙ ap (λ ps. get_or ps 0 q) k.right in
    (k, e ∙ (λ i. obligation_of (parts_of l (left i) r (right i) j)))

-- their bundle has no classes
pub none_numbered : (xs : List I.Item) (l r : U.UnitItem) (j : J.Judgement) (n : Numbers) → xs ≡ made l r j → n ≡ numbered (tables_of (items_of xs)) → n ≡ no_numbers
none_numbered xs l r j n e h = h ∙ ap (λ ys. numbered (tables_of (items_of ys))) e
