-- What is written of marks that follow one another.
use Rattle.std.proofs.Common.{◌≡◌, ℕ, zero, suc, List, [], ◌∷◌, ◌++◌, refl, sym, ap, ◌∙◌, append_assoc, arith, Result}
use Rattle.std.specs.Result.{OnOk}
use Rattle.std.proofs.lemmas.Result.{on_ok_weaker}
use Rattle.rel_list.specs.declared.Memory.{Memory}
use Rattle.rel_lang.specs.Text.{Mark, text_of, tree, begins, element}
use Rattle.rel_show.specs.Written.{written}

pub written-append : (a b : List Mark) → written (a ++ b) ≡ written a ++ written b
written-append [] b = refl
written-append (m ∷ ms) b = ap (λ t. text_of m.said ++ 32 ∷ t) (written-append ms b) ∙ sym (append_assoc (text_of m.said) (32 ∷ written ms) (written b))

pub written-begins : (at : ℕ) (ms : List Mark) → written (begins at ms) ≡ written ms
written-begins at [] = refl
written-begins at (m ∷ ms) = refl

pub written-tree : (d : ℕ) (ms : List Mark) → written (tree d ms) ≡ written ms
written-tree d [] = refl
written-tree d (m ∷ ms) = refl

pub written-element : (n : ℕ) (ms : List Mark) → written (element n ms) ≡ written ms
written-element n [] = refl
written-element n (m ∷ ms) = refl

-- what two calls write, one behind the other
pub joined : (start middle end : List ℕ) (ms ns : List Mark) → middle ≡ start ++ written ms → end ≡ middle ++ written ns → end ≡ start ++ written (ms ++ ns)
joined start middle end ms ns first second =
    second ∙ ap (λ t. t ++ written ns) first ∙ append_assoc start (written ms) (written ns) ∙ ap (λ t. start ++ t) (sym (written-append ms ns))

-- and the last call of a function
pub joined_last : (start middle end : List ℕ) (ms ns : List Mark) (r : Result (Unit {0}) Memory) → middle ≡ start ++ written ms
    → OnOk r (end ≡ middle ++ written ns) → OnOk r (end ≡ start ++ written (ms ++ ns))
joined_last start middle end ms ns r first last =
    let both = λ (second : end ≡ middle ++ written ns). joined start middle end ms ns first second in
    on_ok_weaker r both last

pub ruleset writing = (append_assoc, written-append, written-begins)
