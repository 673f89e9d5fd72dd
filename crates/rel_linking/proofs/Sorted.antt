-- The formulas of an obligation are closed and well sorted, and its lists are short.
use Rattle.std.proofs.Common.{◌≡◌, ℕ, suc, ◌+◌, ◌≤◌, ◌<◌, ◌^◌, pos, true, List, [], ◌∷◌, ◌++◌, length, replicate, Some, slice_get, refl, sym, ap, subst, ◌∙◌, append_assoc, length-append, zero-add, arith}
use Rattle.std.specs.List.{AllByRecursion}
use Rattle.std.proofs.lemmas.List.{length-replicate, replicate-append-replicate, append-nil}
use Rattle.std.proofs.lemmas.List.Elements.{All-from_recursion}
use Rattle.rel_lang.specs.Syntax.{Int, Bundle, Block, Decl}
use Rattle.rel_lang.specs.Scope.{result_name}
use Rattle.rel_lang.specs.Refusal.{Fits}
use Rattle.rel_lang.proofs.Writes.{all_append}
use Rattle.rel_logic.specs.Syntax.{Srt, int_sort, ref_sort, rgn_sort, bij_sort, var, int}
use Rattle.rel_logic.specs.Sorting.{is_of, is_well_sorted}
use Rattle.rel_encode.specs.Relations.{inside}
use Rattle.rel_linking.specs.Form.{Parts, IsStraight}
use Rattle.rel_linking.specs.Obligation as numbers
use Rattle.rel_linking.specs.Obligation.{with_result, variables_from, start_store, block_len, walk, sorts_between, obligation_of}
use Rattle.rel_linking.specs.Sorted.{IsWellSorted}
use Rattle.rel_linking.proofs.Limits.{both_short}
use Rattle.rel_linking.proofs.SortsFrom.{AreIntTerms, From, start, here, next, past, ints}
use Rattle.rel_linking.proofs.IntTerms.{AreIntDecls, IsSorted, agreement_sorted, walk_sorted, walk_len}

-- ---- the sorts of the variables

-- the same sorts, each run of ints in front of what follows
abbrev sorts_in_order : ℕ → ℕ → ℕ → ℕ → List Srt
sorts_in_order l r a b =
    replicate l int_sort ++ rgn_sort ∷ (replicate r int_sort ++ rgn_sort ∷ bij_sort ∷ (replicate a int_sort ++ (replicate b int_sort ++ [])))

in_order : (l r a b : ℕ)
    → (replicate l int_sort ++ rgn_sort ∷ replicate r int_sort) ++ rgn_sort ∷ bij_sort ∷ replicate (a + b) int_sort ≡ sorts_in_order l r a b
in_order l r a b =
    let tail = rgn_sort ∷ bij_sort ∷ replicate (a + b) int_sort in
    let fresh : replicate (a + b) int_sort ≡ replicate a int_sort ++ (replicate b int_sort ++ []) =
    sym (replicate-append-replicate a b int_sort) ∙ ap (λ xs. replicate a int_sort ++ xs) (sym (append-nil (replicate b int_sort))) in
    append_assoc (replicate l int_sort) (rgn_sort ∷ replicate r int_sort) tail
    ∙ ap (λ xs. replicate l int_sort ++ rgn_sort ∷ (replicate r int_sort ++ rgn_sort ∷ bij_sort ∷ xs)) fresh

-- `inside` at a variable of each sort that it takes
inside_sorted : (sorts : List Srt) (p g h : ℕ) → slice_get sorts p ≡ Some bij_sort → slice_get sorts g ≡ Some rgn_sort → slice_get sorts h ≡ Some rgn_sort
    → IsSorted sorts (inside (var p) (var g) (var h))
inside_sorted sorts p g h at_p at_g at_h = rw (at_p, at_g, at_h) refl

with_result_ints : (ds : List Decl) → AreIntDecls ds → AreIntDecls (with_result ds)
with_result_ints ds h = all_append (λ d. d.ty ≡ Int) ds (record { name = result_name; ty = Int } ∷ []) h (refl, tt)

module _ (left right : List Decl) (a b : Block) where
  abbrev sorts : List Srt
  sorts = sorts_between left right a b

  record HaveSorts : Type 0 where
    lefts : AreIntTerms sorts (variables_from 0 (length left))
    left_alloc : slice_get sorts (numbers.left_alloc left right) ≡ Some rgn_sort
    rights : AreIntTerms sorts (variables_from (numbers.first_right left right) (length right))
    right_alloc : slice_get sorts (numbers.right_alloc left right) ≡ Some rgn_sort
    bijection : slice_get sorts (numbers.bijection left right) ≡ Some bij_sort
    left_fresh : AreIntTerms sorts (variables_from (numbers.first_fresh left right) (block_len a))
    right_fresh : AreIntTerms sorts (variables_from (numbers.first_fresh left right + block_len a) (block_len b))

  have_sorts : HaveSorts
  have_sorts =
      let l = length left in
      let r = length right in
      let m = block_len a in
      let n = block_len b in
      let last = replicate n int_sort ++ [] in
      let fresh = replicate m int_sort ++ last in
      let behind_right = rgn_sort ∷ bij_sort ∷ fresh in
      let behind_left = rgn_sort ∷ (replicate r int_sort ++ behind_right) in
      let at_start : From sorts 0 (replicate l int_sort ++ behind_left) = start sorts (replicate l int_sort ++ behind_left) (in_order l r m n) in
      let at_left_alloc : From sorts l behind_left = subst (λ n. From sorts n behind_left) (zero-add l) (past sorts 0 l int_sort behind_left at_start) in
      let at_right : From sorts (suc l) (replicate r int_sort ++ behind_right) = next sorts l rgn_sort (replicate r int_sort ++ behind_right) at_left_alloc in
      let at_right_alloc : From sorts (suc l + r) behind_right = past sorts (suc l) r int_sort behind_right at_right in
      let at_bijection : From sorts (suc (suc l + r)) (bij_sort ∷ fresh) = next sorts (suc l + r) rgn_sort (bij_sort ∷ fresh) at_right_alloc in
      let at_fresh : From sorts (suc (suc (suc l + r))) fresh = next sorts (suc (suc l + r)) bij_sort fresh at_bijection in
      record {
        lefts = ints sorts 0 l behind_left at_start;
        left_alloc = here sorts l rgn_sort (replicate r int_sort ++ behind_right) at_left_alloc;
        rights = ints sorts (suc l) r behind_right at_right;
        right_alloc = here sorts (suc l + r) rgn_sort (bij_sort ∷ fresh) at_right_alloc;
        bijection = here sorts (suc (suc l + r)) bij_sort fresh at_bijection;
        left_fresh = ints sorts (suc (suc (suc l + r))) m last at_fresh;
        right_fresh = ints sorts (suc (suc (suc l + r)) + m) n [] (past sorts (suc (suc (suc l + r))) m int_sort last at_fresh);
      }

  sorts_len : length sorts ≡ length left + suc (length right) + suc (suc (block_len a + block_len b))
  sorts_len =
      let l = length left in
      let r = length right in
      length-append (replicate l int_sort ++ rgn_sort ∷ replicate r int_sort) (rgn_sort ∷ bij_sort ∷ replicate (block_len a + block_len b) int_sort)
      ∙ (λ i. length-append (replicate l int_sort) (rgn_sort ∷ replicate r int_sort) i + suc (suc (length-replicate (block_len a + block_len b) int_sort i)))
      ∙ (λ i. length-replicate l int_sort i + suc (length-replicate r int_sort i) + suc (suc (block_len a + block_len b)))

-- ---- the obligation

pub obligation_is_sorted : (b : Bundle) (k : Parts) → IsStraight b k → Fits b → IsWellSorted (obligation_of k)
obligation_is_sorted b k straight fits =
    let left = k.left.globals in
    let right = k.right.globals in
    let left_block = k.left_proc.body.commands in
    let right_block = k.right_proc.body.commands in
    let parts = straight.parts in
    let have = have_sorts left right left_block right_block in
    let sorts = sorts_between left right left_block right_block in
    let zero_term : AreIntTerms sorts (int (pos 0) ∷ []) = (refl, tt) in
    let left_start = numbers.left_start left right in
    let right_start = numbers.right_start left right in
    let fresh = numbers.first_fresh left right in
    let left_walk = numbers.left_walk left right left_block right_block in
    let right_walk = numbers.right_walk left right left_block right_block in
    let left_sorted = walk_sorted sorts k.left_proc.spec.writes (with_result left) left_start fresh left_block
    (all_append _ (variables_from 0 (length left)) (int (pos 0) ∷ []) have.lefts zero_term) parts.left.lists have.left_fresh in
    let right_sorted = walk_sorted sorts k.right_proc.spec.writes (with_result right) right_start (fresh + block_len left_block) right_block
    (all_append _ (variables_from (numbers.first_right left right) (length right)) (int (pos 0) ∷ []) have.rights zero_term) parts.right.lists have.right_fresh in
    let short = both_short b k parts fits in
    let left_globals = short.0.globals in
    let left_commands = short.0.commands in
    let right_globals = short.1.globals in
    let right_commands = short.1.commands in
    let left_len = walk_len (with_result left) left_start fresh left_block in
    let right_len = walk_len (with_result right) right_start (fresh + block_len left_block) right_block in
    let all_len = length-append left_walk.hyps right_walk.hyps in
    record {
      hyps = All-from_recursion (IsSorted sorts) (obligation_of k).hyps (
        inside_sorted sorts (numbers.bijection left right) (numbers.left_alloc left right) (numbers.right_alloc left right) have.bijection have.left_alloc have.right_alloc,
        (
          agreement_sorted sorts left right k.judgement.needs.formula (numbers.at_call left right) parts.left.ints have.lefts have.rights parts.needs,
          all_append (IsSorted sorts) left_walk.hyps right_walk.hyps left_sorted.0 right_sorted.0,
        ),
      );
      goal = agreement_sorted sorts (with_result left) (with_result right) k.judgement.gives.formula (numbers.at_end left right left_block right_block)
          (with_result_ints left parts.left.ints) left_sorted.1 right_sorted.1 parts.gives;
      few_variables = omega (arith, sorts_len left right left_block right_block, left_globals, left_commands, right_globals, right_commands);
      few_hyps = omega (arith, all_len, left_len, right_len, left_commands, right_commands);
    }
