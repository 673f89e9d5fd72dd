-- What the law of every table stands on: formulas that are known at a node, and children that keep its models.
use Rattle.std.proofs.Common.{◌≡◌, ◌↔◌, ◌⊎◌, inl, inr, ⊎_elim, ℕ, zero, suc, ◌==◌, Bool, true, false, if◌then◌else◌, List, [], ◌∷◌, ◌++◌, length, get_or, slice_get, All, Option, Some, None, refl, sym, ap, subst, arith}
use Rattle.std.specs.List.{AllByRecursion}
use Rattle.std.proofs.lemmas.Option.{slice_get_within, get_or_from_slice_get}
use Rattle.std.proofs.lemmas.List.{append-nil}
use Rattle.std.proofs.lemmas.List.Elements.{All-append, All-from_recursion}
use Rattle.std.proofs.lemmas.Bool.Decides.{Decides-eqb}
use Rattle.rel_logic.specs.Syntax.{Srt, Trm, var, Fml, Nod}
use Rattle.rel_logic.specs.Truth.{Carrier, elem, HasSort, Valuation, changed, AgreeOn, FitsSorts, IsTrueAt}
use Rattle.rel_logic.specs.Substitution.{instantiated}
use Rattle.rel_logic.specs.Sorting.{sort_at, is_sorted, is_well_sorted}
use Rattle.rel_logic.proofs.Values.{is_false, instantiated_true}
use Rattle.rel_logic.proofs.Sorts.{same_truth, truth_depends, sorted_term_closed, sorted_value}
use Rattle.rules_table.specs.Nodes.{Stp, Outcome, bad, kids, IsSound, IsModel, HasNoModel, LosesNoModel, AreSorted}
use Rattle.rules_table.specs.Table.{adds, one_child, two_children, fresh_child, holds, formula, the_formula, term, on, on_two_formulas, on_three_terms}

-- well sorted over the node's variables, and true in each of its models
pub record IsKnown (n : Nod) (f : Fml) : Type 0 where
  pub sorted : is_well_sorted n.sorts f ≡ true
  pub holds : (r : Valuation) → IsModel n r → IsTrueAt r [] f

-- the children's formulas are well sorted, and each model of the node is one of a child, whatever values it gives fresh variables
abbrev pub IsKept : Nod → Outcome → Type 0
IsKept n (kids added) = AreSorted n added × LosesNoModel n added
IsKept n _ = Unit {0}

-- the node's own formulas are known
pub known_at : (n : Nod) → IsSound n → (i : ℕ) (f : Fml) → slice_get n.forms i ≡ Some f → IsKnown n f
known_at n sound i f e =
    let same = get_or_from_slice_get n.forms i f f e in
    let within = slice_get_within n.forms i f e in
    record {
      sorted = subst (λ g. is_well_sorted n.sorts g ≡ true) same (sound.sorted i f within);
      holds = λ r m. subst (λ g. IsTrueAt r [] g) same (m.1 i f within);
    }

pub by_test : (n : Nod) (b : Bool) (x y : Outcome) → IsKept n x → IsKept n y → IsKept n (if b then x else y)
by_test n true x y h k = h
by_test n false x y h k = k

-- a rule behind a test
pub tested : (n : Nod) (b : Bool) (x : Outcome) → (b ≡ true → IsKept n x) → IsKept n (if b then x else bad)
tested n true x h = h refl
tested n false x h = tt

-- a rule on what may be missing
pub on_kept : {A : Type 0} (n : Nod) (rule : A → Outcome) (o : Option A) → ((x : A) → o ≡ Some x → IsKept n (rule x)) → IsKept n (on rule o)
on_kept n rule None h = tt
on_kept n rule (Some x) h = h x refl

pub three_kept : (n : Nod) (s : Stp) (rule : Trm → Trm → Trm → Outcome) → ((a b c : Trm) → IsKept n (rule a b c)) → IsKept n (on_three_terms s rule)
three_kept n s rule h =
    on_kept n _ (term s 0) (λ a e. on_kept n _ (term s 1) (λ b e. on_kept n (rule a b) (term s 2) (λ c e. h a b c)))

pub formula_known : (n : Nod) → IsSound n → (s : Stp) (k : ℕ) (f : Fml) → formula n s k ≡ Some f → IsKnown n f
formula_known n sound s k f e = known_at n sound (get_or s.nums k 0) f e

pub formula_where : (n : Nod) → IsSound n → (b : Bool) (s : Stp) (f : Fml) → (if b then formula n s 0 else None) ≡ Some f → IsKnown n f
formula_where n sound true s f e = formula_known n sound s 0 f e
formula_where n sound false s f e = cc

pub the_known : (n : Nod) → IsSound n → (s : Stp) (rule : Fml → Outcome) → ((f : Fml) → IsKnown n f → IsKept n (rule f)) → IsKept n (on rule (the_formula n s))
the_known n sound s rule k = on_kept n rule (the_formula n s) (λ f e. k f (formula_where n sound (holds 1 0 0 s) s f e))

pub two_known : (n : Nod) → IsSound n → (s : Stp) (rule : Fml → Fml → Outcome) → ((f g : Fml) → IsKnown n f → IsKnown n g → IsKept n (rule f g)) → IsKept n (on_two_formulas n s rule)
two_known n sound s rule h =
    on_kept n _ (formula n s 0) (λ f e. on_kept n (rule f) (formula n s 1) (λ g d. h f g (formula_known n sound s 0 f e) (formula_known n sound s 1 g d)))

-- ---- children without fresh variables

module _ (n : Nod) where
  abbrev SortedAll : List Fml → Type 0
  SortedAll fs = AllByRecursion (λ f. is_well_sorted n.sorts f ≡ true) fs

  known_sorted : (fs : List Fml) → AllByRecursion (IsKnown n) fs → SortedAll fs
  known_sorted [] k = tt
  known_sorted (f ∷ fs) k = (k.0.sorted, known_sorted fs k.1)

  known_holds : (fs : List Fml) → AllByRecursion (IsKnown n) fs → (r : Valuation) → IsModel n r → AllByRecursion (IsTrueAt r []) fs
  known_holds [] k r m = tt
  known_holds (f ∷ fs) k r m = (k.0.holds r m, known_holds fs k.1 r m)

  -- a child without fresh variables whose formulas are true has the node's model
  pub added_true : (r : Valuation) → IsModel n r → (fs : List Fml) → AllByRecursion (IsTrueAt r []) fs → ¬ (HasNoModel n r (adds fs))
  added_true r m fs t h =
      h r (λ i below. refl) (subst (λ sorts. FitsSorts sorts r) (sym (append-nil n.sorts)) m.0, All-append (IsTrueAt r []) n.forms fs m.1 (All-from_recursion (IsTrueAt r []) fs t))

  pub added_sorted : (fs : List Fml) → SortedAll fs → AllByRecursion (λ f. is_well_sorted (n.sorts ++ []) f ≡ true) fs
  added_sorted fs h = subst (λ sorts. AllByRecursion (λ f. is_well_sorted sorts f ≡ true) fs) (sym (append-nil n.sorts)) h

  -- known formulas are added
  pub one_kept : (fs : List Fml) → AllByRecursion (IsKnown n) fs → IsKept n (one_child fs)
  one_kept fs k = ((added_sorted fs (known_sorted fs k), tt), λ r h m. added_true r m fs (known_holds fs k r m) h.0)

  -- in each model the formulas of either child are true
  pub two_kept : (fs gs : List Fml) → SortedAll fs → SortedAll gs
      → ((r : Valuation) → IsModel n r → ¬ (¬ (AllByRecursion (IsTrueAt r []) fs) × ¬ (AllByRecursion (IsTrueAt r []) gs))) → IsKept n (two_children fs gs)
  two_kept fs gs s t one =
      ((added_sorted fs s, (added_sorted gs t, tt)), λ r h m. one r m (λ a. added_true r m fs a h.0, λ b. added_true r m gs b h.1.0))

-- ---- a child with a fresh variable

push_cases : {A : Type 0} (xs : List A) (x : A) (i : ℕ) (y : A) → slice_get (xs ++ x ∷ []) i ≡ Some y → (slice_get xs i ≡ Some y) ⊎ ((i ≡ length xs) × (x ≡ y))
push_cases [] x zero y e = let same : x ≡ y = cc in inr (refl, same)
push_cases [] x (suc i) y e = cc
push_cases (z ∷ xs) x zero y e = inl e
push_cases (z ∷ xs) x (suc i) y e = ⊎_elim (λ k. inl k) (λ k. inr (ap suc k.0, k.1)) (push_cases xs x i y e)

pub pushed : {A : Type 0} (xs : List A) (x : A) → slice_get (xs ++ x ∷ []) (length xs) ≡ Some x
pushed [] x = refl
pushed (y ∷ xs) x = pushed xs x

module _ (n : Nod) (s : Srt) (v : Carrier s) (r : Valuation) where
  abbrev pub with_fresh : Valuation
  with_fresh = changed r (length n.sorts) (elem s v)

  pub agrees : AgreeOn n.sorts r with_fresh
  agrees i below =
      sym (ap (λ b. if b then elem s v else r i) (is_false (i == length n.sorts) (Decides-eqb i (length n.sorts)) (λ e. omega (arith, below, e))))

  pub at_fresh : with_fresh (length n.sorts) ≡ elem s v
  at_fresh = ap (λ b. if b then elem s v else r (length n.sorts)) ((Decides-eqb (length n.sorts) (length n.sorts)).1 refl)

  fits : IsModel n r → FitsSorts (n.sorts ++ s ∷ []) with_fresh
  fits m i t e = ⊎_elim
      (λ k. subst (HasSort t) (agrees i (slice_get_within n.sorts i t k)) (m.0 i t k))
      (λ k. subst (λ j. HasSort t (with_fresh j)) (sym k.0) (subst (λ u. HasSort u (with_fresh (length n.sorts))) k.1 (v, at_fresh)))
      (push_cases n.sorts s i t e)

  still : IsSound n → IsModel n r → All (IsTrueAt with_fresh []) n.forms
  still sound m k d below = subst (λ P. P) (truth_depends n.sorts r with_fresh agrees (get_or n.forms k d) (sound.sorted k d below)) (m.1 k d below)

  -- a child whose formulas are true at some value of its fresh variable has a model
  pub fresh_true : IsSound n → IsModel n r → (fs : List Fml) → AllByRecursion (IsTrueAt with_fresh []) fs → ¬ (HasNoModel n r (record { fresh = s ∷ []; forms = fs }))
  fresh_true sound m fs t h = h with_fresh agrees (fits m, All-append (IsTrueAt with_fresh []) n.forms fs (still sound m) (All-from_recursion (IsTrueAt with_fresh []) fs t))

  pub body_truth : (g : Fml) → is_sorted n.sorts (s ∷ []) g ≡ true → IsTrueAt r (elem s v ∷ []) g ↔ IsTrueAt with_fresh [] (instantiated (var (length n.sorts)) g)
  body_truth g e =
      let same = same_truth n.sorts (s ∷ []) r with_fresh (elem s v ∷ []) (elem s v ∷ []) agrees (λ i below. refl) g e in
      let inst = instantiated_true (var (length n.sorts)) refl with_fresh g in (
        λ a. inst.1 (subst (λ x. IsTrueAt with_fresh (x ∷ []) g) (sym at_fresh) (subst (λ P. P) same a)),
        λ a. subst (λ P. P) (sym same) (subst (λ x. IsTrueAt with_fresh (x ∷ []) g) at_fresh (inst.0 a)),
      )

-- some value of the fresh variable makes the formula true
pub fresh_kept : (n : Nod) → IsSound n → (s : Srt) (f : Fml) → is_well_sorted (n.sorts ++ s ∷ []) f ≡ true
    → ((r : Valuation) → IsModel n r → ¬ ((v : Carrier s) → ¬ (IsTrueAt (with_fresh n s v r) [] f))) → IsKept n (fresh_child s f)
fresh_kept n sound s f sorted some = (((sorted, tt), tt), λ r h m. some r m (λ v t. fresh_true n s v r sound m (f ∷ []) (t, tt) h.0))

-- ---- a term put for a bound number

module _ (n : Nod) (r : Valuation) (m : IsModel n r) where
  -- the term's value is one of the quantifier's
  pub at_term : (t : Trm) (s : Srt) (g : Fml) → sort_at n.sorts [] t ≡ Some s → (c : Carrier s) × (IsTrueAt r [] (instantiated t g) ↔ IsTrueAt r (elem s c ∷ []) g)
  at_term t s g sorted =
      let h = sorted_value n.sorts t s sorted r m.0 in
      (h.0, subst (λ x. IsTrueAt r [] (instantiated t g) ↔ IsTrueAt r (x ∷ []) g) h.1 (instantiated_true t (sorted_term_closed n.sorts t s sorted) r g))
