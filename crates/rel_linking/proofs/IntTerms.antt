-- Arithmetic over int terms is an int term, and what is said of int terms is well sorted.
use Rattle.std.proofs.Common.{◌≡◌, ℕ, suc, ◌≤◌, IsTrue, Bool, true, false, if◌then◌else◌, List, [], ◌∷◌, length, Option, Some, None, bytes_eq, refl, sym, ap, subst, arith}
use Rattle.std.specs.List.{AllByRecursion}
use Rattle.rel_lang.specs.Syntax.{Word, Int, Expression, Var, Num, Add, Sub, RelFormula, Agree, At, Assign, Block, End, Then, Effect, Decl}
use Rattle.rel_lang.specs.State.{find_named}
use Rattle.rel_logic.specs.Syntax.{Srt, int_sort, Trm, var, Fml, eq}
use Rattle.rel_logic.specs.Sorting.{sort_at, takes, are_of_one, is_well_sorted}
use Rattle.rel_encode.specs.Terms.{Store, PairStore, term_named, term_of}
use Rattle.rel_encode.specs.Relations.{sort_of_declared, sort_of_expression, related_terms, rel_of}
use Rattle.rel_linking.specs.Form.{IsArithmetic, IsAgreement, AssignsListed}
use Rattle.rel_linking.specs.Obligation.{no_numbers, variables_from, with_term, assigned_store, walk, block_len}
use Rattle.rel_linking.proofs.SortsFrom.{IsIntTerm, AreIntTerms}

abbrev pub AreIntDecls : List Decl → Type 0
AreIntDecls ds = AllByRecursion (λ d. d.ty ≡ Int) ds

-- ---- sorts of expressions

declared_int : (x : Word) (ds : List Decl) → AreIntDecls ds → sort_of_declared (find_named (λ d. d.name) x ds) ≡ int_sort
declared_int x [] h = refl
declared_int x (d ∷ ds) h =
    elim (bytes_eq x d.name) as (λ b. sort_of_declared (if b then Some d else find_named (λ d. d.name) x ds) ≡ int_sort) [
      | true ↦ ap (λ t. sort_of_declared (Some (record { name = d.name; ty = t }))) h.0
      | false ↦ declared_int x ds h.1
    ]

expression_int : (ds : List Decl) (e : Expression) → AreIntDecls ds → IsArithmetic e → sort_of_expression no_numbers ds e ≡ int_sort
expression_int ds (Var x) h a = declared_int x ds h
expression_int ds (Num n) h a = refl
expression_int ds (Add c d) h a = refl
expression_int ds (Sub c d) h a = refl
expression_int ds e h a = absurd a

module _ (sorts : List Srt) where
  abbrev pub IsSorted : Fml → Type 0
  IsSorted f = IsTrue (is_well_sorted sorts f)

  -- ---- terms of expressions

  named_int : (x : Word) (ds : List Decl) (ts : List Trm) → AreIntTerms sorts ts → IsIntTerm sorts (term_named (λ d. d.name) x ds ts)
  named_int x [] ts h = refl
  named_int x (d ∷ ds) [] h = refl
  named_int x (d ∷ ds) (t ∷ ts) h =
      elim (bytes_eq x d.name) as (λ b. IsIntTerm sorts (if b then t else term_named (λ d. d.name) x ds ts)) [
        | true ↦ h.0
        | false ↦ named_int x ds ts h.1
      ]

  both_int : (a b : Option Srt) → a ≡ Some int_sort → b ≡ Some int_sort → takes int_sort a (takes int_sort b (Some int_sort)) ≡ Some int_sort
  both_int a b h k i = takes int_sort (h i) (takes int_sort (k i) (Some int_sort))

  term_int : (ds : List Decl) (e : Expression) (entry now : Store) → AreIntTerms sorts now.vars → IsArithmetic e → IsIntTerm sorts (term_of no_numbers ds e entry now)
  term_int ds (Var x) entry now h a = named_int x ds now.vars h
  term_int ds (Num n) entry now h a = refl
  term_int ds (Add c d) entry now h a = both_int _ _ (term_int ds c entry now h a.0) (term_int ds d entry now h a.1)
  term_int ds (Sub c d) entry now h a = both_int _ _ (term_int ds c entry now h a.0) (term_int ds d entry now h a.1)
  term_int ds e entry now h a = absurd a

  -- ---- formulas

  equal_sorted : (t u : Trm) → IsIntTerm sorts t → IsIntTerm sorts u → IsSorted (eq t u)
  equal_sorted t u h k i = are_of_one (h i) (k i)

  pub agreement_sorted : (l r : List Decl) (f : RelFormula) (st : PairStore) → AreIntDecls l → AreIntTerms sorts st.left.vars → AreIntTerms sorts st.right.vars → IsAgreement f
      → IsSorted (rel_of no_numbers l r f st)
  agreement_sorted l r (Agree e f) st ints left right a =
      let t = term_of no_numbers l e st.left_entry st.left in
      let u = term_of no_numbers r f st.right_entry st.right in
      subst (λ s. IsSorted (related_terms s st.bij t u)) (sym (expression_int l e ints a.0))
      (equal_sorted t u (term_int l e st.left_entry st.left left a.0) (term_int r f st.right_entry st.right right a.1))
  agreement_sorted l r f st ints left right a = absurd a

  -- ---- walks

  with_int : (x : Word) (t : Trm) (ds : List Decl) (us : List Trm) → IsIntTerm sorts t → AreIntTerms sorts us → AreIntTerms sorts (with_term x t ds us)
  with_int x t [] us h k = k
  with_int x t (d ∷ ds) [] h k = k
  with_int x t (d ∷ ds) (u ∷ us) h k =
      elim (bytes_eq x d.name) as (λ b. AreIntTerms sorts (if b then t ∷ us else u ∷ with_term x t ds us)) [
        | true ↦ (h, k.1)
        | false ↦ (k.0, with_int x t ds us h k.1)
      ]

  pub walk_sorted : (writes : List Effect) (ds : List Decl) (st : Store) (n : ℕ) (b : Block) → AreIntTerms sorts st.vars → AssignsListed writes b → AreIntTerms sorts (variables_from n (block_len b))
      → AllByRecursion IsSorted (walk ds st n b).hyps × AreIntTerms sorts (walk ds st n b).store.vars
  walk_sorted writes ds st n End h a fresh = (tt, h)
  walk_sorted writes ds st n (Then (At at (Assign x e)) cs) h a fresh =
      let rest = walk_sorted writes ds (assigned_store x (var n) ds st) (suc n) cs (with_int x (var n) ds st.vars fresh.0 h) a.2 fresh.1 in
      ((equal_sorted (var n) (term_of no_numbers ds e st st) fresh.0 (term_int ds e st st h a.1), rest.0), rest.1)
  walk_sorted writes ds st n (Then c cs) h a fresh = absurd a

pub walk_len : (ds : List Decl) (st : Store) (n : ℕ) (b : Block) → length (walk ds st n b).hyps ≤ block_len b
walk_len ds st n End = omega arith
walk_len ds st n (Then (At at (Assign x e)) cs) =
    let rest = walk_len ds (assigned_store x (var n) ds st) (suc n) cs in omega (arith, rest)
walk_len ds st n (Then c cs) = let rest = walk_len ds st (suc n) cs in omega (arith, rest)
