-- A formula of the logic is true exactly where the program's formula is.
use Rattle.std.proofs.Common.{◌≡◌, ◌↔◌, ℕ, ℤ, ◌<ℤ◌, ◌≤ℤ◌, int_lt, int_le, Bool, true, false, not, ◌&&◌, ◌||◌, IsTrue, List, ◌∷◌, Some, None, refl, sym, ap, subst, ◌∙◌, true≢false, arith}
use Rattle.std.proofs.lemmas.Int.{ints}
use Rattle.std.proofs.lemmas.Bool.Decides.{Decides-int_eq}
use Rattle.rel_list.specs.References.{Obj, Ref, Region, is_in}
use Rattle.rel_list.specs.Regions.{is_member, some}
use Rattle.rel_list.proofs.Sets.{same_ref_is, same_region_is, each_is_all}
use Rattle.rel_list.proofs.Regions.{some_is_any}
use Rattle.rel_lang.specs.Syntax.{Int, Rgn, Class, Expression, Formula, True, False, Eq, Lt, Le, Member, Subset, Not, And, Or, Implies, Every, Exists, Decl}
use Rattle.rel_lang.specs.State.{Tables, class_number, Value, Number, Reference, Objects, same_value, State, Scope}
use Rattle.rel_lang.specs.Truth.{quantified, with_quantified, holds}
use Rattle.rel_lang.specs.Typed.{IsTypedFormula}
use Rattle.rel_lang.proofs.Values.{Within, is_within_each, each_is_within}
use Rattle.rel_logic.specs.Syntax.{Trm, Fml}
use Rattle.rel_logic.specs.Truth.{Elem, number, ref, rgn, Valuation, IsMember, IsTrueAt}
use Rattle.rel_encode.specs.Numbers.{Numbers, numbered, declarations_of}
use Rattle.rel_encode.specs.Terms.{Store, bound_store, term_of}
use Rattle.rel_encode.specs.Formulas.{fol_of}
use Rattle.rel_encode.specs.Meaning.{elem_of, HasTypedHeap, StandsFor}
use Rattle.rel_encode.specs.Laws.{IsExactFormula}
use Rattle.rel_encode.proofs.Lifts.{bound_stands}
use Rattle.rel_encode.proofs.ExactTerms.{term_value, number_value, reference_value, region_value}
use Rattle.rel_encode.proofs.Small.{subset_true}
use Rattle.rel_encode.proofs.Regions.{along, both_ways, turned, each_member_true, some_member_true}

-- ---- values

pub equal_values : (v w : Value) → (elem_of v ≡ elem_of w) ↔ IsTrue (same_value v w)
equal_values (Number m) (Number n) = (λ e. let h : m ≡ n = cc in (Decides-int_eq m n).1 h, λ e. ap number ((Decides-int_eq m n).0 e))
equal_values (Reference a) (Reference b) = (λ e. let h : a ≡ b = cc in (same_ref_is a b).1 h, λ e. ap ref ((same_ref_is a b).0 e))
equal_values (Objects g) (Objects h) = (λ e. let k : g ≡ h = cc in (same_region_is g h).1 k, λ e. ap rgn ((same_region_is g h).0 e))
equal_values v w = (λ e. cc, λ e. cc)

pub equal_elems : (e f : Elem) (v w : Value) → e ≡ elem_of v → f ≡ elem_of w → (e ≡ f) ↔ IsTrue (same_value v w)
equal_elems e f v w is_v is_w = both_ways (λ h. sym is_v ∙ h ∙ is_w, λ h. is_v ∙ h ∙ sym is_w) (equal_values v w)

not_false : (b : Bool) → ¬ (b ≡ false) → IsTrue b
not_false true h = refl
not_false false h = absurd (h refl)

is_less : (m n : ℤ) → (m <ℤ n) ↔ IsTrue (int_lt m n)
is_less m n = (λ h. not_false (int_lt m n) (λ e. omega (arith, ints)), λ h. omega (arith, ints))

is_at_most : (m n : ℤ) → (m ≤ℤ n) ↔ IsTrue (int_le m n)
is_at_most m n = (λ h. not_false (int_le m n) (λ e. omega (arith, ints)), λ h. omega (arith, ints))

is_among : (x : Ref) (g : Region) → IsMember x g ↔ IsTrue (is_member x g)
is_among None g = (λ h. absurd h, λ h. absurd (true≢false (sym h)))
is_among (Some o) g = (λ h. h, λ h. h)

-- ---- tests

pub never : {A : Type 0} → false ≡ true → A
never e = absurd (true≢false (sym e))

not_is : {A : Type 0} (a : Bool) → A ↔ IsTrue a → (¬ A) ↔ IsTrue (not a)
not_is true h = (λ n. absurd (n (h.1 refl)), λ e. never e)
not_is false h = (λ n. refl, λ e x. never (h.0 x))

pub and_is : {A B : Type 0} (a b : Bool) → A ↔ IsTrue a → B ↔ IsTrue b → (A × B) ↔ IsTrue (a && b)
and_is true b h k = (λ x. k.0 x.1, λ e. (h.1 refl, k.1 e))
and_is false b h k = (λ x. never (h.0 x.0), λ e. never e)

or_is : {A B : Type 0} (a b : Bool) → A ↔ IsTrue a → B ↔ IsTrue b → (¬ (¬ A × ¬ B)) ↔ IsTrue (a || b)
or_is true b h k = (λ n. refl, λ e n. n.0 (h.1 refl))
or_is false true h k = (λ n. refl, λ e n. n.1 (k.1 refl))
or_is false false h k = (λ n. absurd (n (λ x. never (h.0 x), λ x. never (k.0 x))), λ e. never e)

implies_is : {A B : Type 0} (a b : Bool) → A ↔ IsTrue a → B ↔ IsTrue b → (A → B) ↔ IsTrue (not a || b)
implies_is true b h k = (λ f. k.0 (f (h.1 refl)), λ e x. k.1 e)
implies_is false b h k = (λ f. refl, λ e x. never (h.0 x))

-- what can't be false is true
pub is_true : (b : Bool) → ¬ (¬ (IsTrue b)) → IsTrue b
is_true true h = refl
is_true false h = absurd (h (λ e. never e))

some_is : (c : ℕ) (g : Region) (p : Obj → Bool) → (¬ ((o : Obj) → IsTrue (is_in o g) → o.class ≡ c → ¬ (IsTrue (p o)))) ↔ IsTrue (some c g p)
some_is c g p = (
  λ h. is_true _ (λ none. h (λ o within is_c passes. none ((some_is_any c g p).1 (o, within, is_c, passes)))),
  λ e none. let one = (some_is_any c g p).0 e in none one.0 one.1 one.2 one.3,
)

-- ---- formulas

module _ (tables : Tables) (r : Valuation) where
  abbrev term : Scope → Expression → Store → Store → Trm
  term sc e entry now = term_of (numbered tables) (declarations_of sc) e entry now

  abbrev formula : Scope → Formula → Store → Store → Fml
  formula sc p entry now = fol_of (numbered tables) (declarations_of sc) p entry now

  pub formula_true : (p : Formula) (sc : Scope) (old : Bool) (bs : List Elem) (entry now : Store) (before s : State) → HasTypedHeap tables before → HasTypedHeap tables s
      → StandsFor tables sc r bs entry before → StandsFor tables sc r bs now s → IsTypedFormula tables old sc p
      → IsTrueAt r bs (formula sc p entry now) ↔ IsTrue (holds tables sc p before s)
  formula_true True sc old bs entry now before s h k b n typed = (λ x. refl, λ e. tt)
  formula_true False sc old bs entry now before s h k b n typed = (λ x. absurd x, λ e. never e)
  formula_true (Eq c d) sc old bs entry now before s h k b n typed =
      equal_elems _ _ _ _ (term_value tables sc r bs c typed.0 old entry now before s h k b n typed.1) (term_value tables sc r bs d typed.0 old entry now before s h k b n typed.2)
  formula_true (Lt c d) sc old bs entry now before s h k b n typed =
      let v = number_value _ _ (term_value tables sc r bs c Int old entry now before s h k b n typed.0) in
      let w = number_value _ _ (term_value tables sc r bs d Int old entry now before s h k b n typed.1) in
      both_ways (along (λ i. v i <ℤ w i)) (is_less _ _)
  formula_true (Le c d) sc old bs entry now before s h k b n typed =
      let v = number_value _ _ (term_value tables sc r bs c Int old entry now before s h k b n typed.0) in
      let w = number_value _ _ (term_value tables sc r bs d Int old entry now before s h k b n typed.1) in
      both_ways (along (λ i. v i ≤ℤ w i)) (is_at_most _ _)
  formula_true (Member c d) sc old bs entry now before s h k b n typed =
      let v = reference_value _ _ (term_value tables sc r bs c (Class typed.0) old entry now before s h k b n typed.1) in
      let w = region_value _ _ (term_value tables sc r bs d Rgn old entry now before s h k b n typed.2) in
      both_ways (along (λ i. IsMember (v i) (w i))) (is_among _ _)
  formula_true (Subset c d) sc old bs entry now before s h k b n typed =
      let v = region_value _ _ (term_value tables sc r bs c Rgn old entry now before s h k b n typed.0) in
      let w = region_value _ _ (term_value tables sc r bs d Rgn old entry now before s h k b n typed.1) in
      both_ways (subset_true r bs (term sc c entry now) (term sc d entry now)) (both_ways (along (λ i. Within (v i) (w i))) (each_is_within _ _, is_within_each _ _))
  formula_true (Not p) sc old bs entry now before s h k b n typed = not_is _ (formula_true p sc old bs entry now before s h k b n typed)
  formula_true (And p q) sc old bs entry now before s h k b n typed =
      and_is _ _ (formula_true p sc old bs entry now before s h k b n typed.0) (formula_true q sc old bs entry now before s h k b n typed.1)
  formula_true (Or p q) sc old bs entry now before s h k b n typed =
      or_is _ _ (formula_true p sc old bs entry now before s h k b n typed.0) (formula_true q sc old bs entry now before s h k b n typed.1)
  formula_true (Implies p q) sc old bs entry now before s h k b n typed =
      implies_is _ _ (formula_true p sc old bs entry now before s h k b n typed.0) (formula_true q sc old bs entry now before s h k b n typed.1)
  formula_true (Every x c g p) sc old bs entry now before s h k b n typed =
      let region = region_value _ _ (term_value tables sc r bs g Rgn old entry now before s h k b n typed.1) in
      both_ways (each_member_true r bs (term sc g entry now) _ region (formula (quantified x c ∷ sc) p (bound_store entry) (bound_store now)) (λ o. IsTrue (holds tables (quantified x c ∷ sc) p (with_quantified x o before) (with_quantified x o s)))
      (λ o. formula_true p (quantified x c ∷ sc) old (ref (Some o) ∷ bs) (bound_store entry) (bound_store now) (with_quantified x o before) (with_quantified x o s) h k
      (bound_stands tables r bs x c o sc entry before (typed.0).0 b) (bound_stands tables r bs x c o sc now s (typed.0).0 n) typed.2) (class_number tables c))
      (turned (each_is_all _ _ _))
  formula_true (Exists x c g p) sc old bs entry now before s h k b n typed =
      let region = region_value _ _ (term_value tables sc r bs g Rgn old entry now before s h k b n typed.1) in
      both_ways (some_member_true r bs (term sc g entry now) _ region (formula (quantified x c ∷ sc) p (bound_store entry) (bound_store now)) (λ o. IsTrue (holds tables (quantified x c ∷ sc) p (with_quantified x o before) (with_quantified x o s)))
      (λ o. formula_true p (quantified x c ∷ sc) old (ref (Some o) ∷ bs) (bound_store entry) (bound_store now) (with_quantified x o before) (with_quantified x o s) h k
      (bound_stands tables r bs x c o sc entry before (typed.0).0 b) (bound_stands tables r bs x c o sc now s (typed.0).0 n) typed.2) (class_number tables c))
      (some_is _ _ _)

pub exact_formula : (numbers : Numbers) (ds : List Decl) (p : Formula) (entry now : Store) → IsExactFormula numbers ds p entry now (fol_of numbers ds p entry now)
exact_formula numbers ds p entry now tables sc old is_n is_d typed r bs before s h k b n =
    subst (λ m. IsTrueAt r bs (fol_of m ds p entry now) ↔ IsTrue (holds tables sc p before s)) (sym is_n)
    (subst (λ d. IsTrueAt r bs (fol_of (numbered tables) d p entry now) ↔ IsTrue (holds tables sc p before s)) (sym is_d)
    (formula_true tables r p sc old bs entry now before s h k b n typed))
