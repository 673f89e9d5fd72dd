-- Walks along blocks and the obligation, as the code computes them.
use Rattle.std.proofs.Common.{◌≡◌, ℕ, suc, ◌+◌, List, [], ◌∷◌, ◌++◌, length, drop, map, replicate, Result, Ok, Err, OnOk, refl, sym, ap, ◌∙◌, arith}
use Rattle.std.proofs.lemmas.List.{length-map}
use Rattle.rel_lang.specs.Syntax.{RelFormula, Block, Decl}
use Rattle.rel_lang.specs.View.{decl_of, block_of}
use Rattle.rel_lang.specs.declared.bundle.Decl as D
use Rattle.rel_lang.specs.declared.command.Command.{Command}
use Rattle.rel_logic.specs.Syntax.{var, Fml, Srt, int_sort, rgn_sort, bij_sort, Sqt}
use Rattle.rel_encode.specs.Numbers.{Numbers}
use Rattle.rel_encode.specs.Terms as E
use Rattle.rel_encode.specs.Relations.{inside, rel_of}
use Rattle.rel_linking.specs.Obligation.{no_numbers, Walked, walk, block_len, ended, left_alloc, right_alloc, bijection, first_fresh, at_call, at_start, left_walk, right_walk, at_end, obligation_between, with_result}
use Rattle.rel_linking.proofs.Lengths.{block_len_is}

pub on_ok : {A E : Type 0} (r : Result A E) (P : Type 0) → P → OnOk r P
on_ok (Ok a) P h = h
on_ok (Err e) P h = tt

-- what is still to walk after i commands
abbrev pub rest_of : List Decl → E.Store → ℕ → List Command → ℕ → Walked
rest_of ds st n cs i = walk ds st (n + i) (block_of (drop i cs))

module _ (ls rs : List D.Decl) (a b : List Command) where
  abbrev left : List Decl
  left = map decl_of ls

  abbrev right : List Decl
  right = map decl_of rs

  abbrev l : Block
  l = block_of a

  abbrev r : Block
  r = block_of b

  -- where the bodies end

  module _ (lds rds : List Decl) (st : E.PairStore) (first : ℕ) (el : lds ≡ with_result left) (er : rds ≡ with_result right) (es : st ≡ at_start left right)
      (ef : first ≡ first_fresh left right) where
    abbrev left_to : Walked
    left_to = walk lds st.left first l

    abbrev right_to : Walked
    right_to = walk rds st.right (first + length a) r

    left_is : left_to ≡ left_walk left right l r
    left_is = λ i. walk (el i) (es i).left (ef i) l

    right_is : right_to ≡ right_walk left right l r
    right_is = λ i. walk (er i) (es i).right (ef i + sym (block_len_is a) i) r

    pub stores_are : (end : E.PairStore) → end ≡ ended st left_to right_to → end ≡ at_end left right l r
    stores_are end e = e ∙ (λ i. ended (es i) (left_is i) (right_is i))

    pub hyps_are : (old new : List Fml) → new ≡ old ++ left_to.hyps ++ right_to.hyps → new ≡ old ++ (left_walk left right l r).hyps ++ (right_walk left right l r).hyps
    hyps_are old new e = e ∙ (λ i. old ++ (left_is i).hyps ++ (right_is i).hyps)

  -- from what the code computes
  pub obligation_is : (m n p : ℕ) (numbers : Numbers) (needs gives : RelFormula) (sorts : List Srt) (first all : List Fml) (goal : Fml)
      → m ≡ length ls → n ≡ length rs → p ≡ length a + length b → numbers ≡ no_numbers
      → sorts ≡ (replicate m int_sort ++ rgn_sort ∷ replicate n int_sort) ++ rgn_sort ∷ bij_sort ∷ replicate p int_sort
      → first ≡ inside (var (bijection left right)) (var (left_alloc left right)) (var (right_alloc left right)) ∷ rel_of numbers left right needs (at_call left right) ∷ []
      → all ≡ first ++ (left_walk left right l r).hyps ++ (right_walk left right l r).hyps
      → goal ≡ rel_of no_numbers (with_result left) (with_result right) gives (at_end left right l r)
      → record { sorts = sorts; hyps = all; goal = goal } ≡ obligation_between left right l r needs gives
  obligation_is m n p numbers needs gives sorts first all goal em en ep none es ef ea eg =
      let lengths : m ≡ length left = em ∙ sym (length-map ls decl_of) in
      let lengths' : n ≡ length right = en ∙ sym (length-map rs decl_of) in
      let blocks : p ≡ block_len l + block_len r = ep ∙ (λ i. sym (block_len_is a) i + sym (block_len_is b) i) in
      let sorted = es ∙ (λ i. (replicate (lengths i) int_sort ++ rgn_sort ∷ replicate (lengths' i) int_sort) ++ rgn_sort ∷ bij_sort ∷ replicate (blocks i) int_sort) in
      let hyps = ea ∙ (λ i.
      (ef ∙ ap (λ ns. inside (var (bijection left right)) (var (left_alloc left right)) (var (right_alloc left right)) ∷ rel_of ns left right needs (at_call left right) ∷ []) none) i
      ++ (left_walk left right l r).hyps ++ (right_walk left right l r).hyps) in
      λ i. record { sorts = sorted i; hyps = hyps i; goal = eg i }
