-- A walk along a block: its equations are true of the values that the run assigns, and its store stands for the state at the end.
use Rattle.std.proofs.Common.{◌≡◌, ℕ, zero, suc, ◌+◌, pos, Bool, true, false, if◌then◌else◌, inl, inr, List, [], ◌∷◌, ◌++◌, get_or, drop, length, Some, refl, sym, ap, ◌∙◌, arith}
use Rattle.std.specs.List.{AllByRecursion}
use Rattle.std.specs.Str.{bytes_eq}
use Rattle.rel_lang.specs.Syntax.{Word, At, Assign, Block, End, Then, Effect}
use Rattle.rel_lang.specs.State.{Tables, Value, State, Variable, Scope, find_variable, write_variable}
use Rattle.rel_lang.specs.Value.{value_of}
use Rattle.rel_lang.specs.Typed.{IsAmong, AreDistinct, names_of, Names, IsTypedBlock}
use Rattle.rel_logic.specs.Syntax.{Trm, var}
use Rattle.rel_logic.specs.Truth.{Elem, number, rgn, Valuation, IsTrueAt}
use Rattle.rel_encode.specs.Numbers.{declarations_of}
use Rattle.rel_encode.specs.Terms.{Store}
use Rattle.rel_encode.specs.Meaning.{elem_of, HasTypedHeap, AreValues, AreMaps, StandsFor}
use Rattle.rel_encode.proofs.ExactTerms.{exact_term}
use Rattle.rel_linking.specs.Form.{AssignsListed}
use Rattle.rel_linking.specs.Obligation.{no_numbers, with_term, assigned_store, walk, block_len}
use Rattle.rel_linking.proofs.Runs.{word_itself, words_differ, write_alloc, write_heap, final, write_itself, write_other, write_found_other}

-- a bundle without classes
abbrev pub no_tables : Tables
no_tables = record { classes = []; fields = [] }

-- ---- an assignment

turned : (x y : Word) → bytes_eq x y ≡ false → bytes_eq y x ≡ false
turned x y e = words_differ y x (λ same. absurd (clash (bytes_eq x y) (same_text x y (sym same)) e))
  where
    clash : (b : Bool) → b ≡ true → b ≡ false → ⊥
    clash b t f = cc

    same_text : (a b : Word) → a ≡ b → bytes_eq a b ≡ true
    same_text a b is = ap (λ z. bytes_eq z b) is ∙ word_itself b

module _ (r : Valuation) where
  -- the values stay where another variable is written
  values_other : (sc : Scope) (ts : List Trm) (s : State) (w : Variable) (v : Value) → (IsAmong w.name (names_of sc) → ⊥) → AreValues r [] sc ts s
      → AreValues r [] sc ts (write_variable (Some w) v s)
  values_other [] [] s w v other h = tt
  values_other [] (t ∷ ts) s w v other h = absurd h
  values_other (x ∷ xs) [] s w v other h = absurd h
  values_other (x ∷ xs) (t ∷ ts) s w v other h = (
    h.0 ∙ ap elem_of (sym (write_other w v s x.owner x.name (words_differ x.name w.name (λ e. other (inl (sym e)))))),
    values_other xs ts s w v (λ k. other (inr k)) h.1,
  )

  values_write : (n : ℕ) (x : Word) (v : Value) (s : State) (sc : Scope) (ts : List Trm) → AreDistinct (names_of sc) → r n ≡ elem_of v → AreValues r [] sc ts s
      → AreValues r [] sc (with_term x (var n) (declarations_of sc) ts) (write_variable (find_variable x sc) v s)
  values_write n x v s [] [] distinct at h = tt
  values_write n x v s [] (t ∷ ts) distinct at h = absurd h
  values_write n x v s (y ∷ ys) [] distinct at h = absurd h
  values_write n x v s (y ∷ ys) (t ∷ ts) distinct at h = cases (bytes_eq x y.name) refl (values_write n x v s ys ts distinct.1 at h.1)
    where
      cases : (b : Bool) → bytes_eq x y.name ≡ b → AreValues r [] ys (with_term x (var n) (declarations_of ys) ts) (write_variable (find_variable x ys) v s)
          → AreValues r [] (y ∷ ys) (if b then var n ∷ ts else t ∷ with_term x (var n) (declarations_of ys) ts) (write_variable (if b then Some y else find_variable x ys) v s)
      cases true e later = (at ∙ ap elem_of (sym (write_itself y v s)), values_other ys ts s y v distinct.0 h.1)
      cases false e later = (h.0 ∙ ap elem_of (sym (write_found_other x ys v s y.owner y.name (turned x y.name e))), later)

  no_maps : (ms : List Trm) (s t : State) → AreMaps no_tables r [] [] ms s → AreMaps no_tables r [] [] ms t
  no_maps [] s t h = tt
  no_maps (m ∷ ms) s t h = absurd h

  stands_write : (n : ℕ) (x : Word) (v : Value) (s : State) (sc : Scope) (st : Store) → AreDistinct (names_of sc) → r n ≡ elem_of v → StandsFor no_tables sc r [] st s
      → StandsFor no_tables sc r [] (assigned_store x (var n) (declarations_of sc) st) (write_variable (find_variable x sc) v s)
  stands_write n x v s sc st distinct at h = record {
    variables = values_write n x v s sc st.vars distinct at h.variables;
    maps = no_maps st.maps s (write_variable (find_variable x sc) v s) h.maps;
    alloc = h.alloc ∙ ap rgn (sym (write_alloc (find_variable x sc) v s));
  }

-- without fields every location holds 0
pub same_heap : (s t : State) → t.heap ≡ s.heap → HasTypedHeap no_tables s → HasTypedHeap no_tables t
same_heap s t e h o f = ap (λ k. k o f) e ∙ h o f

-- ---- a walk

module _ (r : Valuation) (ns : Names) where
  -- the values that the run assigns are those of the variables from n on
  abbrev pub Follows : ℕ → Block → State → Type 0
  Follows n End s = Unit {0}
  Follows n (Then (At at (Assign x e)) cs) s =
      (r n ≡ elem_of (value_of no_tables ns.scope e s s))
      × Follows (suc n) cs (write_variable (find_variable x ns.scope) (value_of no_tables ns.scope e s s) s)
  Follows n (Then c cs) s = ⊥

  pub walk_true : (writes : List Effect) (b : Block) (n : ℕ) (st : Store) (s : State)
      → AssignsListed writes b → IsTypedBlock no_tables ns b → AreDistinct (names_of ns.scope) → HasTypedHeap no_tables s
      → StandsFor no_tables ns.scope r [] st s → Follows n b s
      → AllByRecursion (IsTrueAt r []) (walk (declarations_of ns.scope) st n b).hyps
      × StandsFor no_tables ns.scope r [] (walk (declarations_of ns.scope) st n b).store (final no_tables ns.scope b s)
  walk_true writes End n st s l t distinct heap stands f = (tt, stands)
  walk_true writes (Then (At at (Assign x e)) cs) n st s l t distinct heap stands f =
      let v = value_of no_tables ns.scope e s s in
      let after = write_variable (find_variable x ns.scope) v s in
      let is = exact_term no_numbers (declarations_of ns.scope) e st st no_tables ns.scope false t.0.0 refl refl t.0.2.1 r [] s s heap heap stands stands in
      let below = walk_true writes cs (suc n) (assigned_store x (var n) (declarations_of ns.scope) st) after l.2 t.1 distinct
      (same_heap s after (write_heap (find_variable x ns.scope) v s) heap) (stands_write r n x v s ns.scope st distinct f.0 stands) f.1 in
      ((f.0 ∙ sym is, below.0), below.1)
  walk_true writes (Then c cs) n st s l t distinct heap stands f = absurd l

-- ---- where values stand in a list of them

abbrev pub nth : List Elem → Valuation
nth values n = get_or values n (number (pos 0))

pub at_here : (values : List Elem) (n : ℕ) (y : Elem) (ys : List Elem) → drop n values ≡ y ∷ ys → nth values n ≡ y
at_here values zero y ys e = ap (λ l. get_or l 0 (number (pos 0))) e
at_here [] (suc n) y ys e = cc
at_here (x ∷ xs) (suc n) y ys e = at_here xs n y ys e

pub at_next : (values : List Elem) (n : ℕ) (y : Elem) (ys : List Elem) → drop n values ≡ y ∷ ys → drop (suc n) values ≡ ys
at_next [] zero y ys e = cc
at_next (x ∷ xs) zero y ys e = cc
at_next [] (suc n) y ys e = cc
at_next (x ∷ xs) (suc n) y ys e = at_next xs n y ys e

pub at_after : (values : List Elem) (n : ℕ) (xs ys : List Elem) → drop n values ≡ xs ++ ys → drop (n + length xs) values ≡ ys
at_after values n [] ys e = let same : n + 0 ≡ n = omega arith in ap (λ m. drop m values) same ∙ e
at_after values n (x ∷ xs) ys e =
    let same : n + suc (length xs) ≡ suc n + length xs = omega arith in
    ap (λ m. drop m values) same ∙ at_after values (suc n) xs ys (at_next values n x (xs ++ ys) e)

module _ (ns : Names) where
  -- the values that a run assigns
  abbrev pub assigned : Block → State → List Elem
  assigned End s = []
  assigned (Then (At at (Assign x e)) cs) s =
      elem_of (value_of no_tables ns.scope e s s) ∷ assigned cs (write_variable (find_variable x ns.scope) (value_of no_tables ns.scope e s s) s)
  assigned (Then c cs) s = []

  pub length-assigned : (writes : List Effect) (b : Block) (s : State) → AssignsListed writes b → length (assigned b s) ≡ block_len b
  length-assigned writes End s l = refl
  length-assigned writes (Then (At at (Assign x e)) cs) s l = ap suc (length-assigned writes cs _ l.2)
  length-assigned writes (Then c cs) s l = absurd l

  pub follows : (values : List Elem) (writes : List Effect) (b : Block) (n : ℕ) (s : State) (rest : List Elem) → AssignsListed writes b → drop n values ≡ assigned b s ++ rest
      → Follows (nth values) ns n b s
  follows values writes End n s rest l e = tt
  follows values writes (Then (At at (Assign x e)) cs) n s rest l is =
      (at_here values n _ _ is, follows values writes cs (suc n) _ rest l.2 (at_next values n _ _ is))
  follows values writes (Then c cs) n s rest l is = absurd l
