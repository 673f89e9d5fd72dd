-- Lists of one, and biprograms of one command.
use Rattle.std.proofs.Common.{◌≡◌, ◌↔◌, ℕ, Bool, IsTrue, List, [], ◌∷◌, length, get_or, refl, sym, ap, ◌∙◌, subst, arith}
use Rattle.rel_lang.specs.Syntax.{Block, BiForm, Split, BiAt, BiBlock, BiEnd, BiThen, Align, Given}
use Rattle.rel_lang.specs.Syntax as S
use Rattle.rel_lang.specs.declared.biprogram.BiCommand.{BiCommand}
use Rattle.rel_lang.specs.View.{biform_of, bicommand_of, biblock_of}
use Rattle.rel_linking.specs.Form.{IsSplitOf}
use Rattle.rel_lang.specs.declared.bundle.UnitItem as U
use Rattle.rel_lang.specs.declared.bundle.Proc as Q
use Rattle.rel_lang.specs.declared.bundle.Judgement as J
use Rattle.rel_linking.specs.Parts.{held, IsSplitForm, IsJudged, AreJudged}
use Rattle.rel_linking.proofs.Views.{bicommand_is}

pub one_proc : {X : Type 0} (xs : List X) (d : X) → length xs ≡ 1 → xs ≡ get_or xs 0 d ∷ []
one_proc [] d h = absurd (omega arith)
one_proc (x ∷ []) d h = refl
one_proc (x ∷ y ∷ xs) d h = absurd (omega arith)

-- ---- one command of a biprogram

-- one command's alignment
abbrev alone : S.BiCommand → Align
alone c = Given (BiThen c BiEnd)

made : (at : ℕ) (f : BiForm) (l r : Block) → IsSplitForm f l r → IsSplitOf (alone (BiAt at f)) l r
made at (Split a b) l r h = h
made at _ l r h = absurd h

form_made : (at : ℕ) (f : BiForm) (l r : Block) → IsSplitOf (alone (BiAt at f)) l r → IsSplitForm f l r
form_made at (Split a b) l r h = h
form_made at _ l r h = absurd h

pub split_here : (cs : List BiCommand) (d : BiCommand) (l r : Block) → length cs ≡ 1
    → IsSplitForm (biform_of (get_or cs 0 d).form) l r → IsSplitOf (Given (biblock_of cs)) l r
split_here [] d l r h s = absurd (omega arith)
split_here (c ∷ []) d l r h s = subst (λ x. IsSplitOf (alone x) l r) (sym (bicommand_is c)) (made c.at (biform_of c.form) l r s)
split_here (c ∷ e ∷ cs) d l r h s = absurd (omega arith)

pub split_form : (cs : List BiCommand) (d : BiCommand) (l r : Block) → length cs ≡ 1
    → IsSplitOf (Given (biblock_of cs)) l r → IsSplitForm (biform_of (get_or cs 0 d).form) l r
split_form [] d l r h s = absurd (omega arith)
split_form (c ∷ []) d l r h s = form_made c.at (biform_of c.form) l r (subst (λ x. IsSplitOf (alone x) l r) (bicommand_is c) s)
split_form (c ∷ e ∷ cs) d l r h s = absurd (omega arith)

-- a list of two or more commands isn't one split
more_than_one : (at : ℕ) (f : BiForm) (c : S.BiCommand) (b : BiBlock) (l r : Block) → IsSplitOf (Given (BiThen (BiAt at f) (BiThen c b))) l r → ⊥
more_than_one at (Split a b) c d l r h = h
more_than_one at _ c d l r h = h

pub split_one : (cs : List BiCommand) (l r : Block) → IsSplitOf (Given (biblock_of cs)) l r → length cs ≡ 1
split_one [] l r s = absurd s
split_one (c ∷ []) l r s = refl
split_one (c ∷ e ∷ cs) l r s =
    absurd (more_than_one c.at (biform_of c.form) (bicommand_of e) (biblock_of cs) l r
    (subst (λ x. IsSplitOf (Given (BiThen x (BiThen (bicommand_of e) (biblock_of cs)))) l r) (bicommand_is c) s))

pub ruleset split_list = (split_here, split_form, split_one)

-- ---- the one procedure of each unit

one_is : {X : Type 0} (xs : List X) (x : X) → length xs ≡ 1 → x ≡ get_or xs 0 x → xs ≡ x ∷ []
one_is xs x h e = one_proc xs x h ∙ ap (λ y. y ∷ []) (sym e)

pub judged_alone : (l r : U.UnitItem) (j : J.Judgement) (p q : Q.Proc) (b : Bool) → length l.procs ≡ 1 → length r.procs ≡ 1 → p ≡ get_or l.procs 0 p → q ≡ get_or r.procs 0 q
    → IsTrue b ↔ IsJudged (held l p r q j) → IsTrue b ↔ AreJudged l r j
judged_alone l r j p q b hl hr el er h =
    let left = one_is l.procs p hl el in
    let right = one_is r.procs q hr er in (
      λ t. record { left_proc = p; right_proc = q; left = left; right = right; judged = h.0 t },
      λ k.
          let lp : k.left_proc ≡ p = let both = sym k.left ∙ left in cc in
          let rp : k.right_proc ≡ q = let both = sym k.right ∙ right in cc in
          h.1 (subst (λ x. IsJudged (held l x r q j)) lp (subst (λ y. IsJudged (held l k.left_proc r y j)) rp k.judged)),
    )
