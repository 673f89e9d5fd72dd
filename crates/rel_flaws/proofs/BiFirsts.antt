-- The first fault of a block of bicommands.
use Rattle.std.proofs.Common.{◌≡◌, ℕ, ◌+◌, ◌<◌, ◌≤◌, List, [], ◌∷◌, map, Option, Some, None, get_or, take, length, sym, ap, refl, ◌∙◌, rules}
use Rattle.rel_lang.specs.State.{Tables}
use Rattle.rel_lang.specs.Syntax.{BiIf, BiWhile, BiThen}
use Rattle.rel_lang.specs.View.{formula_of, loop_of, biform_of, bicommand_of, biblock_of, biblock_from, weave_step_of}
use Rattle.rel_lang.specs.declared.biprogram.BiCommand as C
use Rattle.rel_lang.specs.declared.biprogram.BiForm as F
use Rattle.rel_lang.specs.declared.biprogram.BiLoop as L
use Rattle.rel_lang.specs.declared.biprogram.WeaveStep as W
use Rattle.rel_lang.specs.declared.formula.Formula as P
use Rattle.rel_flaws.specs.Alignments.{Sides, bicommand_fault, inner_bifault, biblock_fault, step_fault}
use Rattle.rel_flaws.specs.Flaws.{Pass, Fault, first_of, first_in}
use Rattle.rel_flaws.proofs.Firsts.{none_more, first_here, none_whole}

biblock_is : (cs : List C.BiCommand) → biblock_from (map bicommand_of cs) ≡ biblock_of cs
biblock_is [] = refl
biblock_is (c ∷ cs) = ap (λ b. BiThen (bicommand_of c) b) (biblock_is cs)

if_is : (p q : P.Formula) (a b : List C.BiCommand) → biform_of (F.If p q a b) ≡ BiIf (formula_of p) (formula_of q) (biblock_of a) (biblock_of b)
if_is p q a b = search (rules, F.the_lemmas, biblock_is)

while_is : (l : L.BiLoop) (b : List C.BiCommand) → biform_of (F.While l b) ≡ BiWhile (loop_of l) (biblock_of b)
while_is l b = search (rules, F.the_lemmas, biblock_is)

-- a block is a list of bicommands
of_biblock : (tables : Tables) (pass : Pass) (s : Sides) (cs : List C.BiCommand)
    → biblock_fault tables pass s (biblock_of cs) ≡ first_in (λ c. bicommand_fault tables pass s (bicommand_of c)) cs
of_biblock tables pass s [] = refl
of_biblock tables pass s (c ∷ cs) = ap (first_of (bicommand_fault tables pass s (bicommand_of c))) (of_biblock tables pass s cs)

module _ (tables : Tables) (pass : Pass) (s : Sides) where
  abbrev pub fault_in : C.BiCommand → Option Fault
  fault_in c = bicommand_fault tables pass s (bicommand_of c)

  -- one command's fault, where those before it have none
  pub biblock_some : (items cs : List C.BiCommand) (i : ℕ) (d : C.BiCommand) (f : Fault) → items ≡ cs → i < length items → d ≡ get_or items i d
      → first_in fault_in (take i cs) ≡ None → Some f ≡ fault_in d → Some f ≡ biblock_fault tables pass s (biblock_of cs)
  biblock_some items cs i d f same h at before here =
      sym (of_biblock tables pass s cs ∙ ap (first_in fault_in) (sym same)
      ∙ first_here fault_in items i d f h (ap (λ l. first_in fault_in (take i l)) same ∙ before) (ap fault_in (sym at) ∙ sym here))

  pub biblock_more : (items cs : List C.BiCommand) (i : ℕ) (d : C.BiCommand) → items ≡ cs → i < length items → d ≡ get_or items i d
      → first_in fault_in (take i cs) ≡ None → None ≡ fault_in d → first_in fault_in (take (i + 1) cs) ≡ None
  biblock_more items cs i d same h at before here =
      ap (λ l. first_in fault_in (take (i + 1) l)) (sym same)
      ∙ none_more fault_in items i d h (ap (λ l. first_in fault_in (take i l)) same ∙ before) (ap fault_in (sym at) ∙ sym here)

  pub biblock_none : (items cs : List C.BiCommand) (i : ℕ) → items ≡ cs → length items ≤ i → first_in fault_in (take i cs) ≡ None
      → None ≡ biblock_fault tables pass s (biblock_of cs)
  biblock_none items cs i same h before =
      sym (of_biblock tables pass s cs ∙ ap (first_in fault_in) (sym same)
      ∙ none_whole fault_in items i h (ap (λ l. first_in fault_in (take i l)) same ∙ before))

  pub biif_some : (p q : P.Formula) (a b : List C.BiCommand) (form : F.BiForm) (f : Fault) → form ≡ F.If p q a b
      → Some f ≡ biblock_fault tables pass s (biblock_of a) → Some f ≡ inner_bifault tables pass s (biform_of form)
  biif_some p q a b form f is here =
      ap (λ g. first_of g (biblock_fault tables pass s (biblock_of b))) here ∙ sym (ap (inner_bifault tables pass s) (ap biform_of is ∙ if_is p q a b))

  pub biif_none : (p q : P.Formula) (a b : List C.BiCommand) (form : F.BiForm) → form ≡ F.If p q a b → None ≡ biblock_fault tables pass s (biblock_of a)
      → biblock_fault tables pass s (biblock_of b) ≡ inner_bifault tables pass s (biform_of form)
  biif_none p q a b form is here =
      ap (λ g. first_of g (biblock_fault tables pass s (biblock_of b))) here ∙ sym (ap (inner_bifault tables pass s) (ap biform_of is ∙ if_is p q a b))

  pub in_biwhile : (l : L.BiLoop) (b : List C.BiCommand) (form : F.BiForm) → form ≡ F.While l b
      → biblock_fault tables pass s (biblock_of b) ≡ inner_bifault tables pass s (biform_of form)
  in_biwhile l b form is = sym (ap (inner_bifault tables pass s) (ap biform_of is ∙ while_is l b))

-- ---- steps of a weaving

in_map : {X Y : Type 0} (f : Y → Option Fault) (g : X → Y) (xs : List X) → first_in f (map g xs) ≡ first_in (λ x. f (g x)) xs
in_map f g [] = refl
in_map f g (x ∷ xs) = ap (first_of (f (g x))) (in_map f g xs)

module _ (tables : Tables) (pass : Pass) (s : Sides) where
  abbrev pub fault_at_step : W.WeaveStep → Option Fault
  fault_at_step w = step_fault tables pass s (weave_step_of w)

  pub steps_some : (items ws : List W.WeaveStep) (i : ℕ) (w : W.WeaveStep) (f : Fault) → items ≡ ws → i < length items → w ≡ get_or items i w
      → first_in fault_at_step (take i ws) ≡ None → Some f ≡ fault_at_step w → Some f ≡ first_in (step_fault tables pass s) (map weave_step_of ws)
  steps_some items ws i w f same h at before here =
      sym (in_map (step_fault tables pass s) weave_step_of ws ∙ ap (first_in fault_at_step) (sym same)
      ∙ first_here fault_at_step items i w f h (ap (λ l. first_in fault_at_step (take i l)) same ∙ before) (ap fault_at_step (sym at) ∙ sym here))

  pub steps_more : (items ws : List W.WeaveStep) (i : ℕ) (w : W.WeaveStep) → items ≡ ws → i < length items → w ≡ get_or items i w
      → first_in fault_at_step (take i ws) ≡ None → None ≡ fault_at_step w → first_in fault_at_step (take (i + 1) ws) ≡ None
  steps_more items ws i w same h at before here =
      ap (λ l. first_in fault_at_step (take (i + 1) l)) (sym same)
      ∙ none_more fault_at_step items i w h (ap (λ l. first_in fault_at_step (take i l)) same ∙ before) (ap fault_at_step (sym at) ∙ sym here)

  pub steps_none : (items ws : List W.WeaveStep) (i : ℕ) → items ≡ ws → length items ≤ i → first_in fault_at_step (take i ws) ≡ None
      → None ≡ first_in (step_fault tables pass s) (map weave_step_of ws)
  steps_none items ws i same h before =
      sym (in_map (step_fault tables pass s) weave_step_of ws ∙ ap (first_in fault_at_step) (sym same)
      ∙ none_whole fault_at_step items i h (ap (λ l. first_in fault_at_step (take i l)) same ∙ before))
