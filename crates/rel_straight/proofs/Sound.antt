-- A sequent with an accepted derivation is valid.
use Rattle.std.proofs.Common.{◌≡◌, ℕ, ◌+◌, ◌≤◌, max, ℤ, pos, ◌+ℤ◌, ◌-ℤ◌, ◌*ℤ◌, ◌≤ℤ◌, ◌<ℤ◌, List, [], ◌∷◌, ◌++◌, map, slice_get, All, Option, Some, None, refl, sym, ap, ap₂, subst, ◌∙◌, arith}
use Rattle.std.proofs.lemmas.Int.{ints, by_lt_z}
use Rattle.std.proofs.lemmas.List.Elements.{All-nil, All-cons, All-head, All-tail, All-push, All-weaker}
use Rattle.std.proofs.Math.IntN.{*ℤ-zero}
use Rattle.std.proofs.lemmas.Option.{slice_get_within, get_or_from_slice_get}
use Rattle.rel_logic.specs.Syntax.{Srt, int_sort, Trm, var, int, add, sub, Fml, eq, lt, no, Sqt, Nod}
use Rattle.rel_logic.specs.Truth.{number, as_number, Valuation, value, IsTrueAt, FitsSorts, IsValid}
use Rattle.rel_straight.specs.declared.step.Step.{Step}
use Rattle.rel_straight.specs.declared.step.Step.TheVariants.{Neint, Farkas}
use Rattle.rel_straight.specs.Linear.{Linear, number_form, minus, times, term_sort, form_of, IsLinear, bounded_form, IsUsable, Pair, form_at, IsUsableAt, product, IsGoodPair, sum_of, IsGoodSum}
use Rattle.rel_straight.specs.Rules.{SplitsAt, GoodStep, child, Runs, first_stack, IsAccepted}
use Rattle.rel_straight.proofs.Weigh.{sign, valued, valued_plus, valued_minus, valued_times, valued_number, valued_variable, valued_constant}
use Rattle.rel_logic.proofs.Stable.{stable}

-- one more than the greatest variable, or 0
abbrev top_trm : Trm → ℕ
top_trm (var n) = n + 1
top_trm (int z) = 0
top_trm (add t u) = max (top_trm t) (top_trm u)
top_trm (sub t u) = max (top_trm t) (top_trm u)
top_trm _ = 0

abbrev top_fml : Fml → ℕ
top_fml (eq t u) = max (top_trm t) (top_trm u)
top_fml (lt t u) = max (top_trm t) (top_trm u)
top_fml (no f) = top_fml f
top_fml _ = 0

abbrev top_forms : List Fml → ℕ
top_forms [] = 0
top_forms (f ∷ fs) = max (top_fml f) (top_forms fs)

top_all : (fs : List Fml) → All (λ f. top_fml f ≤ top_forms fs) fs
top_all [] = All-nil _
top_all (f ∷ fs) = All-cons (λ g. top_fml g ≤ top_forms (f ∷ fs)) f fs (omega arith) (All-weaker (λ g. top_fml g ≤ top_forms fs) (λ g. top_fml g ≤ top_forms (f ∷ fs)) (λ g h. omega arith) fs (top_all fs))

module _ (r : Valuation) where
  abbrev numbers : ℕ → ℤ
  numbers n = as_number (r n)

  abbrev number_of : Trm → ℤ
  number_of t = as_number (value r [] t)

  module _ (n : ℕ) where
    term_value : (t : Trm) → IsLinear t → top_trm t ≤ n → valued numbers n (form_of t) ≡ number_of t
    term_value (var v) l h = valued_variable numbers v n (omega arith)
    term_value (int z) l h = valued_number numbers n z
    term_value (add t u) l h = valued_plus numbers n (form_of t) (form_of u) ∙ ap₂ (λ p q. p +ℤ q) (term_value t l.0 (omega arith)) (term_value u l.1 (omega arith))
    term_value (sub t u) l h = valued_minus numbers n (form_of t) (form_of u) ∙ ap₂ (λ p q. p -ℤ q) (term_value t l.0 (omega arith)) (term_value u l.1 (omega arith))
    term_value t l h = absurd l

    difference_value : (t u : Trm) → IsLinear t → IsLinear u → max (top_trm t) (top_trm u) ≤ n → valued numbers n (minus (form_of t) (form_of u)) ≡ number_of t -ℤ number_of u
    difference_value t u l m h = valued_minus numbers n (form_of t) (form_of u) ∙ ap₂ (λ p q. p -ℤ q) (term_value t l (omega arith)) (term_value u m (omega arith))

    at_most : (k : ℤ) (a : Linear) → (k *ℤ valued numbers n a) ≤ℤ pos 0 → valued numbers n (times k a) ≤ℤ pos 0
    at_most k a h = subst (λ z. z ≤ℤ pos 0) (sym (valued_times numbers n k a)) h

    none_less : (a b : ℤ) → a ≡ b → a -ℤ b ≡ pos 0
    none_less a b e = omega (arith, ints)

    nothing : (k z : ℤ) → z ≡ pos 0 → (k *ℤ z) ≤ℤ pos 0
    nothing k z e = subst (λ w. w ≤ℤ pos 0) (sym (ap (λ w. k *ℤ w) e ∙ *ℤ-zero k)) (omega (arith, ints))

    less : (a b z : ℤ) → a <ℤ b → z ≡ (a -ℤ b) +ℤ pos 1 → z ≤ℤ pos 0
    less a b z h e = omega (arith, ints)

    not_less : (a b z : ℤ) → ¬ (a <ℤ b) → z ≡ b -ℤ a → z ≤ℤ pos 0
    not_less a b z h e = by_lt_z a b (λ lower. absurd (h lower)) (λ le. omega (arith, ints))

    formula_value : (sorts : List Srt) (f : Fml) (k : ℤ) → IsUsable sorts f k → top_fml f ≤ n → IsTrueAt r [] f → valued numbers n (times k (bounded_form f)) ≤ℤ pos 0
    formula_value sorts (eq t u) k l h holds =
        at_most k (bounded_form (eq t u)) (nothing k _ (difference_value t u l.2 l.3 h ∙ none_less _ _ (ap as_number holds)))
    formula_value sorts (lt t u) k l h holds =
        at_most k (bounded_form (lt t u))
        (sign k _ l.0 (less (number_of t) (number_of u) _ holds
        (valued_plus numbers n (minus (form_of t) (form_of u)) (number_form (pos 1))
        ∙ ap₂ (λ p q. p +ℤ q) (difference_value t u l.1 l.2 h) (valued_number numbers n (pos 1)))))
    formula_value sorts (no (lt t u)) k l h holds =
        at_most k (bounded_form (no (lt t u)))
        (sign k _ l.0 (not_less (number_of t) (number_of u) _ holds (difference_value u t l.1 l.2 (omega arith))))
    formula_value sorts f k l h holds = absurd l

    pair_value : (sorts : List Srt) (forms : List Fml) → All (IsTrueAt r []) forms → All (λ f. top_fml f ≤ n) forms
        → (i : ℕ) (k : ℤ) (o : Option Fml) → slice_get forms i ≡ o → IsUsableAt sorts o k → valued numbers n (times k (form_at o)) ≤ℤ pos 0
    pair_value sorts forms all tops i k None e l = absurd l
    pair_value sorts forms all tops i k (Some f) e l =
        let within = slice_get_within forms i f e in
        let is_f = get_or_from_slice_get forms i f f e in
        formula_value sorts f k l (subst (λ g. top_fml g ≤ n) is_f (tops i f within)) (subst (λ g. IsTrueAt r [] g) is_f (all i f within))

    both : (a b z : ℤ) → a ≤ℤ pos 0 → b ≤ℤ pos 0 → z ≡ a +ℤ b → z ≤ℤ pos 0
    both a b z h g e = omega (arith, ints)

    zero_value : (z : ℤ) → z ≡ pos 0 → z ≤ℤ pos 0
    zero_value z e = omega (arith, ints)

    sum_value : (d : Nod) → All (IsTrueAt r []) d.forms → All (λ f. top_fml f ≤ n) d.forms
        → (ps : List Pair) → All (IsGoodPair d) ps → valued numbers n (sum_of d.forms ps) ≤ℤ pos 0
    sum_value d all tops [] good = zero_value _ (valued_number numbers n (pos 0))
    sum_value d all tops (p ∷ ps) good =
        both _ _ _ (pair_value d.sorts d.forms all tops p.0 p.1 (slice_get d.forms p.0) refl (All-head (IsGoodPair d) p ps good).0)
        (sum_value d all tops ps (All-tail (IsGoodPair d) p ps good))
        (valued_plus numbers n (product d.forms p) (sum_of d.forms ps))

  int_value : (sorts : List Srt) → FitsSorts sorts r → (t : Trm) → term_sort sorts t ≡ Some int_sort → value r [] t ≡ number (number_of t)
  int_value sorts fits (var v) e = let h = fits v int_sort e in h.1 ∙ ap number (sym (ap as_number h.1))
  int_value sorts fits (int z) e = refl
  int_value sorts fits (add t u) e = refl
  int_value sorts fits (sub t u) e = refl
  int_value sorts fits t e = cc

-- no valuation that fits the sorts makes all formulas of the node true
abbrev IsRefuted : Nod → Type 0
IsRefuted d = (r : Valuation) → FitsSorts d.sorts r → All (IsTrueAt r []) d.forms → ⊥

abbrev AllRefuted : List Nod → Type 0
AllRefuted [] = Unit {0}
AllRefuted (d ∷ ds) = IsRefuted d × AllRefuted ds

split : (ds es : List Nod) → AllRefuted (ds ++ es) → AllRefuted ds × AllRefuted es
split [] es h = (tt, h)
split (d ∷ ds) es h = let rest = split ds es h.1 in ((h.0, rest.0), rest.1)

above_zero : (z c : ℤ) → z ≤ℤ pos 0 → z ≡ c → pos 0 <ℤ c → ⊥
above_zero z c h e g = omega (arith, ints)

farkas_refutes : (d : Nod) (ps : List Pair) → IsGoodSum d ps → IsRefuted d
farkas_refutes d ps good r fits all =
    let n = top_forms d.forms in
    above_zero _ _ (sum_value r n d all (top_all d.forms) ps good.pairs)
    (valued_constant (numbers r) n (sum_of d.forms ps) good.no_variable) good.above

no_lower : (a b : ℤ) → a ≤ℤ b → b ≤ℤ a → a ≡ b
no_lower a b h g = omega (arith, ints)

neint_refutes : (d : Nod) (i : ℕ) (children : List (List Fml)) → SplitsAt d i children → AllRefuted (map (child d) children) → IsRefuted d
neint_refutes d i children s h r fits all =
    let t = s.left in
    let u = s.right in
    let refuted = subst (λ cs. AllRefuted (map (child d) cs)) s.added h in
    let differ = subst (λ g. IsTrueAt r [] g) (get_or_from_slice_get d.forms i _ _ s.formula) (all i (no (eq t u)) (slice_get_within d.forms i _ s.formula)) in
    by_lt_z (number_of r t) (number_of r u)
    (λ lower. refuted.0 r fits (All-push (IsTrueAt r []) d.forms (lt t u) all lower))
    (λ above. by_lt_z (number_of r u) (number_of r t)
    (λ lower. refuted.1.0 r fits (All-push (IsTrueAt r []) d.forms (lt u t) all lower))
    (λ below. differ (int_value r d.sorts fits t s.left_int ∙ ap number (no_lower _ _ below above) ∙ sym (int_value r d.sorts fits u s.right_int))))

step_refutes : (d : Nod) (s : Step) (children : List (List Fml)) → GoodStep d s children → AllRefuted (map (child d) children) → IsRefuted d
step_refutes d (Neint i) children good h = neint_refutes d i children good h
step_refutes d (Farkas ps) children good h = farkas_refutes d ps good.0

runs_refute : (steps : List Step) (stack : List Nod) → Runs stack steps [] → AllRefuted stack
runs_refute [] stack e = subst AllRefuted (sym e) tt
runs_refute (s ∷ steps) [] h = tt
runs_refute (s ∷ steps) (d ∷ below) h =
    let moves = h.1 in
    let parts = split (map (child d) moves.0) below (subst AllRefuted moves.2 (runs_refute steps h.0 h.2)) in
    (step_refutes d s moves.0 moves.1 parts.0, parts.1)

pub valid_from_accepted : (q : Sqt) (steps : List Step) → IsAccepted q steps → IsValid q
valid_from_accepted q steps h r fits hyps =
    stable r [] q.goal (λ fails. (runs_refute steps (first_stack q) h).0 r fits (All-push (IsTrueAt r []) q.hyps (no q.goal) hyps fails))
