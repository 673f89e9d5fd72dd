-- The first fault of a list.
use Rattle.std.proofs.Common.{◌≡◌, ℕ, suc, ◌+◌, ◌<◌, ◌≤◌, List, [], ◌∷◌, ◌++◌, Option, Some, None, get_or, take, drop, length, sym, ap, refl, ◌∙◌, rules}
use Rattle.std.proofs.Math.Seq.{drop-cons}
use Rattle.std.proofs.lemmas.List.{take_more, take_all, take-append-drop}
use Rattle.rel_lang.specs.State.{Tables}
use Rattle.rel_lang.specs.Syntax.{If, While}
use Rattle.rel_lang.specs.View.{formula_of, form_of, command_of, block_of}
use Rattle.rel_lang.specs.declared.command.Command as C
use Rattle.rel_lang.specs.declared.command.Form as F
use Rattle.rel_lang.specs.declared.formula.Formula as P
use Rattle.rel_lang.proofs.Same.{block_is}
use Rattle.rel_flaws.specs.Flaws.{Pass, Fault, first_of, first_in}
use Rattle.rel_flaws.specs.Code.{Code, command_fault, inner_fault, block_fault}

module _ {X : Type 0} (fault : X → Option Fault) where
  in_both : (xs ys : List X) → first_in fault (xs ++ ys) ≡ first_of (first_in fault xs) (first_in fault ys)
  in_both [] ys = refl
  in_both (x ∷ xs) ys = ap (first_of (fault x)) (in_both xs ys) ∙ sym (of_three (fault x) (first_in fault xs) (first_in fault ys))
    where
      of_three : (f g h : Option Fault) → first_of (first_of f g) h ≡ first_of f (first_of g h)
      of_three None g h = refl
      of_three (Some f) g h = refl

  -- none so far, and none here
  pub none_more : (xs : List X) (i : ℕ) (d : X) → i < length xs → first_in fault (take i xs) ≡ None → fault (get_or xs i d) ≡ None
      → first_in fault (take (i + 1) xs) ≡ None
  none_more xs i d h before here =
      ap (first_in fault) (take_more xs i d h) ∙ in_both (take i xs) (get_or xs i d ∷ []) ∙ ap (λ f. first_of f (first_in fault (get_or xs i d ∷ []))) before
      ∙ ap (λ f. first_of f None) here

  -- none so far, and one here
  pub first_here : (xs : List X) (i : ℕ) (d : X) (f : Fault) → i < length xs → first_in fault (take i xs) ≡ None → fault (get_or xs i d) ≡ Some f
      → first_in fault xs ≡ Some f
  first_here xs i d f h before here =
      ap (first_in fault) (sym (take-append-drop i xs)) ∙ in_both (take i xs) (drop i xs) ∙ ap (λ g. first_of g (first_in fault (drop i xs))) before
      ∙ ap (first_in fault) (drop-cons xs i d h) ∙ ap (λ g. first_of g (first_in fault (drop (suc i) xs))) here

  pub none_whole : (xs : List X) (i : ℕ) → length xs ≤ i → first_in fault (take i xs) ≡ None → first_in fault xs ≡ None
  none_whole xs i h before = ap (first_in fault) (sym (take_all i xs h)) ∙ before

-- ---- blocks

if_is : (p : P.Formula) (a b : List C.Command) → form_of (F.If p a b) ≡ If (formula_of p) (block_of a) (block_of b)
if_is p a b = search (rules, F.the_lemmas, block_is)

while_is : (p q : P.Formula) (b : List C.Command) → form_of (F.While p q b) ≡ While (formula_of p) (formula_of q) (block_of b)
while_is p q b = search (rules, F.the_lemmas, block_is)

-- a block is a list of commands
pub of_block : (tables : Tables) (pass : Pass) (code : Code) (cs : List C.Command)
    → block_fault tables pass code (block_of cs) ≡ first_in (λ c. command_fault tables pass code (command_of c)) cs
of_block tables pass code [] = refl
of_block tables pass code (c ∷ cs) = ap (first_of (command_fault tables pass code (command_of c))) (of_block tables pass code cs)

module _ (tables : Tables) (pass : Pass) (code : Code) where
  abbrev pub fault_in : C.Command → Option Fault
  fault_in c = command_fault tables pass code (command_of c)

  -- one command's fault, where those before it have none
  pub block_some : (items cs : List C.Command) (i : ℕ) (d : C.Command) (f : Fault) → items ≡ cs → i < length items → d ≡ get_or items i d
      → first_in fault_in (take i cs) ≡ None → Some f ≡ fault_in d → Some f ≡ block_fault tables pass code (block_of cs)
  block_some items cs i d f same h at before here =
      sym (of_block tables pass code cs ∙ ap (first_in fault_in) (sym same)
      ∙ first_here fault_in items i d f h (ap (λ l. first_in fault_in (take i l)) same ∙ before) (ap fault_in (sym at) ∙ sym here))

  pub block_more : (items cs : List C.Command) (i : ℕ) (d : C.Command) → items ≡ cs → i < length items → d ≡ get_or items i d
      → first_in fault_in (take i cs) ≡ None → None ≡ fault_in d → first_in fault_in (take (i + 1) cs) ≡ None
  block_more items cs i d same h at before here =
      ap (λ l. first_in fault_in (take (i + 1) l)) (sym same)
      ∙ none_more fault_in items i d h (ap (λ l. first_in fault_in (take i l)) same ∙ before) (ap fault_in (sym at) ∙ sym here)

  pub block_none : (items cs : List C.Command) (i : ℕ) → items ≡ cs → length items ≤ i → first_in fault_in (take i cs) ≡ None
      → None ≡ block_fault tables pass code (block_of cs)
  block_none items cs i same h before =
      sym (of_block tables pass code cs ∙ ap (first_in fault_in) (sym same)
      ∙ none_whole fault_in items i h (ap (λ l. first_in fault_in (take i l)) same ∙ before))

  pub if_some : (p : P.Formula) (a b : List C.Command) (form : F.Form) (f : Fault) → form ≡ F.If p a b
      → Some f ≡ block_fault tables pass code (block_of a) → Some f ≡ inner_fault tables pass code (form_of form)
  if_some p a b form f is here =
      ap (λ g. first_of g (block_fault tables pass code (block_of b))) here ∙ sym (ap (inner_fault tables pass code) (ap form_of is ∙ if_is p a b))

  pub if_none : (p : P.Formula) (a b : List C.Command) (form : F.Form) → form ≡ F.If p a b → None ≡ block_fault tables pass code (block_of a)
      → block_fault tables pass code (block_of b) ≡ inner_fault tables pass code (form_of form)
  if_none p a b form is here =
      ap (λ g. first_of g (block_fault tables pass code (block_of b))) here ∙ sym (ap (inner_fault tables pass code) (ap form_of is ∙ if_is p a b))

  pub in_while : (p q : P.Formula) (b : List C.Command) (form : F.Form) → form ≡ F.While p q b
      → block_fault tables pass code (block_of b) ≡ inner_fault tables pass code (form_of form)
  in_while p q b form is = sym (ap (inner_fault tables pass code) (ap form_of is ∙ while_is p q b))
