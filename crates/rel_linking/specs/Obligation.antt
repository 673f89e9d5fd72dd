-- The one obligation of such a bundle: where the two procedures end, the postcondition holds.
use Rattle.std.specs.Prelude.{ℕ, zero, suc, ◌+◌, pos, if◌then◌else◌, List, [], ◌∷◌, ◌++◌, length, replicate, bytes_eq}
use Rattle.rel_lang.specs.Syntax.{Word, Int, RelFormula, At, Assign, Block, End, Then, Decl}
use Rattle.rel_lang.specs.Scope.{result_name}
use Rattle.rel_logic.specs.Syntax.{Srt, int_sort, rgn_sort, bij_sort, Trm, var, int, Fml, eq, Sqt}
use Rattle.rel_encode.specs.Numbers.{Numbers}
use Rattle.rel_encode.specs.Terms.{Store, PairStore, term_of}
use Rattle.rel_encode.specs.Relations.{inside, rel_of}
use Rattle.rel_linking.specs.Form.{Parts}

-- a bundle without classes
abbrev pub no_numbers : Numbers
no_numbers = record { classes = []; fields = [] }

-- ---- what is seen, and the terms that stand for it

-- a precondition sees the globals, and a body and a postcondition see these and `result`
abbrev pub with_result : List Decl → List Decl
with_result ds = ds ++ record { name = result_name; ty = Int } ∷ []

-- so many variables, from n on
abbrev pub variables_from : ℕ → ℕ → List Trm
variables_from n zero = []
variables_from n (suc count) = var n ∷ variables_from (suc n) count

-- the globals are the variables from n on
abbrev pub globals_store : ℕ → ℕ → List Decl → Store
globals_store n alloc ds = record { vars = variables_from n (length ds); maps = []; alloc = var alloc }

-- and where the body starts, `result` is 0
abbrev pub start_store : ℕ → ℕ → List Decl → Store
start_store n alloc ds = record { vars = variables_from n (length ds) ++ int (pos 0) ∷ []; maps = []; alloc = var alloc }

-- ---- a walk along a block

-- the term in the place of the first variable of the name
abbrev pub with_term : Word → Trm → List Decl → List Trm → List Trm
with_term x t (d ∷ ds) (u ∷ us) = if bytes_eq x d.name then t ∷ us else u ∷ with_term x t ds us
with_term x t _ us = us

abbrev pub assigned_store : Word → Trm → List Decl → Store → Store
assigned_store x t ds st = record { vars = with_term x t ds st.vars; maps = st.maps; alloc = st.alloc }

-- what a walk along a block gives: an equation for each assignment, and the store at the end
pub record Walked : Type 0 where
  pub hyps : List Fml
  pub store : Store

-- each command takes the next variable, from n on
abbrev pub walk : List Decl → Store → ℕ → Block → Walked
walk ds st n End = record { hyps = []; store = st }
walk ds st n (Then (At at (Assign x e)) cs) =
    let rest = walk ds (assigned_store x (var n) ds st) (suc n) cs in
    record { hyps = eq (var n) (term_of no_numbers ds e st st) ∷ rest.hyps; store = rest.store }
walk ds st n (Then c cs) = walk ds st (suc n) cs

-- where both sides have walked
abbrev pub ended : PairStore → Walked → Walked → PairStore
ended st left right = record { left = left.store; right = right.store; left_entry = st.left_entry; right_entry = st.right_entry; bij = st.bij }

abbrev pub block_len : Block → ℕ
block_len End = 0
block_len (Then c cs) = suc (block_len cs)

-- The variables are: the left globals, the left allocated references, the same on the right, the bijection, and then one for each assignment.
module _ (left right : List Decl) where
  abbrev pub left_alloc : ℕ
  left_alloc = length left

  abbrev pub first_right : ℕ
  first_right = suc left_alloc

  abbrev pub right_alloc : ℕ
  right_alloc = first_right + length right

  abbrev pub bijection : ℕ
  bijection = suc right_alloc

  abbrev pub first_fresh : ℕ
  first_fresh = suc bijection

  -- where the procedures are called
  abbrev pub left_globals : Store
  left_globals = globals_store 0 left_alloc left

  abbrev pub right_globals : Store
  right_globals = globals_store first_right right_alloc right

  abbrev pub at_call : PairStore
  at_call = record { left = left_globals; right = right_globals; left_entry = left_globals; right_entry = right_globals; bij = var bijection }

  -- where their bodies start
  abbrev pub left_start : Store
  left_start = start_store 0 left_alloc left

  abbrev pub right_start : Store
  right_start = start_store first_right right_alloc right

  abbrev pub at_start : PairStore
  at_start = record { left = left_start; right = right_start; left_entry = left_start; right_entry = right_start; bij = var bijection }

  -- where they end
  module _ (left_block right_block : Block) where
    abbrev pub left_walk : Walked
    left_walk = walk (with_result left) left_start first_fresh left_block

    abbrev pub right_walk : Walked
    right_walk = walk (with_result right) right_start (first_fresh + block_len left_block) right_block

    abbrev pub at_end : PairStore
    at_end = ended at_start left_walk right_walk

    abbrev pub sorts_between : List Srt
    sorts_between =
        replicate left_alloc int_sort
        ++ rgn_sort ∷ replicate (length right) int_sort
        ++ rgn_sort ∷ bij_sort ∷ replicate (block_len left_block + block_len right_block) int_sort

    abbrev pub obligation_between : RelFormula → RelFormula → Sqt
    obligation_between needs gives = record {
      sorts = sorts_between;
      hyps =
          inside (var bijection) (var left_alloc) (var right_alloc)
          ∷ rel_of no_numbers left right needs at_call
          ∷ left_walk.hyps ++ right_walk.hyps;
      goal = rel_of no_numbers (with_result left) (with_result right) gives at_end;
    }

abbrev pub obligation_of : Parts → Sqt
obligation_of k =
    obligation_between k.left.globals k.right.globals k.left_proc.body.commands k.right_proc.body.commands k.judgement.needs.formula k.judgement.gives.formula
