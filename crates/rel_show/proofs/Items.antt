-- What is written of an item, and the line that it makes.
use Rattle.std.proofs.Common.{◌≡◌, List, [], ◌∷◌, ◌++◌, map, refl, sym, ap, ◌∙◌, append_assoc}
use Rattle.rel_lang.specs.Syntax.{Item, OfClass, OfInterface, OfModule, OfUnit, OfClient, OfJudgement, OfPair}
use Rattle.rel_lang.specs.Text.{Mark, text_of, spaced, shown, show_class, show_interface, show_module, show_unit, show_client, show_judgement, show_pair, show_item}
use Rattle.rel_lang.specs.View.{item_of}
use Rattle.rel_show.specs.Written.{written}
use Rattle.rel_show.proofs.Repetitions.{IsByElement}

-- marks of which there is one at least have a space behind them where they are written
ends : (m : Mark) (ms : List Mark) → written (m ∷ ms) ≡ spaced (m ∷ ms) ++ 32 ∷ []
ends m [] = refl
ends m (k ∷ ks) = ap (λ t. text_of m.said ++ 32 ∷ t) (ends k ks) ∙ sym (append_assoc (text_of m.said) (32 ∷ spaced (k ∷ ks)) (32 ∷ []))

ends_all : (ms : List Mark) → (ms ≡ [] → ⊥) → written ms ≡ spaced ms ++ 32 ∷ []
ends_all [] some = absurd (some refl)
ends_all (m ∷ ms) some = ends m ms

pub written_item : (i : Item) → written (show_item i) ≡ spaced (show_item i) ++ 32 ∷ []
written_item (OfClass c) = ends_all (show_class c) (λ e. cc)
written_item (OfInterface i) = ends_all (show_interface i) (λ e. cc)
written_item (OfModule m) = ends_all (show_module m) (λ e. cc)
written_item (OfUnit u) = ends_all (show_unit u) (λ e. cc)
written_item (OfClient c) = ends_all (show_client c) (λ e. cc)
written_item (OfJudgement j) = ends_all (show_judgement j) (λ e. cc)
written_item (OfPair p) = ends_all (show_pair p) (λ e. cc)

-- the lines of the items
pub by_line : IsByElement (λ n is. shown (map item_of is)) (λ i. spaced (show_item (item_of i)) ++ 10 ∷ [])
by_line = record {
  none = λ n. refl;
  more = λ n i is. sym (append_assoc (spaced (show_item (item_of i))) (10 ∷ []) (shown (map item_of is)));
}
