-- How far a loop over multiples has summed their forms.
use Rattle.std.proofs.Common.{◌≡◌, ℕ, zero, suc, ◌+◌, ◌<◌, ◌≤◌, ℤ, pos, List, [], ◌∷◌, length, get_or, drop, zip, Option, Some, None, refl, sym, ap, subst, ◌∙◌, arith}
use Rattle.rel_logic.specs.Syntax.{Trm, Nod}
use Rattle.rules_int.specs.declared.dense.Dense.{Dense}
use Rattle.rules_int.specs.declared.forms.Form.{Form}
use Rattle.rules_int.specs.Linear.{Linear, number_form, plus, joined}
use Rattle.rules_int.specs.Table.{Multiple, product, sum_from, sum_of}
use Rattle.rules_int.specs.Forms.{Fits, IsLike}
use Rattle.rules_int.proofs.Progress.{zero_fits}
use Rattle.rules_int.specs.Made.{IsFormOf, dense_at}

-- the sum so far, which the rest of the multiples goes on from
pub record Summed (n : Nod) (ms rest : List Multiple) (sum : Form Dense) : Type 0 where
  pub form : Linear
  pub like : IsLike sum.constant (dense_at sum.numbers) form
  pub goes_on : sum_from n (Some form) rest ≡ sum_of n ms

pub begins : (n : Nod) (ms : List Multiple) (sum : Form Dense) → IsLike sum.constant (dense_at sum.numbers) (number_form (pos 0)) → Summed n ms ms sum
begins n ms sum like = record { form = number_form (pos 0); like = like; goes_on = refl }

no_sum : (n : Nod) (ms : List Multiple) → sum_from n None ms ≡ None
no_sum n [] = refl
no_sum n (m ∷ ms) = no_sum n ms

module _ (n : Nod) (ms : List Multiple) (m : Multiple) (rest : List Multiple) (sum : Form Dense) (s : Summed n ms (m ∷ rest) sum) where
  stops_at : (o : Option Linear) → IsFormOf dense_at o None → sum_from n o rest ≡ sum_of n ms → IsFormOf dense_at (sum_of n ms) None
  stops_at None h e = subst (λ o. IsFormOf dense_at o None) (sym (no_sum n rest) ∙ e) tt
  stops_at (Some g) h e = absurd h

  pub stops : ((g : Linear) → IsLike sum.constant (dense_at sum.numbers) g → IsFormOf dense_at (joined plus (Some g) (product n m)) None) → IsFormOf dense_at (sum_of n ms) None
  stops none = stops_at (joined plus (Some s.form) (product n m)) (none s.form s.like) s.goes_on

  more_at : (o : Option Linear) (next : Form Dense) → IsFormOf dense_at o (Some next) → sum_from n o rest ≡ sum_of n ms → Summed n ms rest next
  more_at None next h e = absurd h
  more_at (Some g) next h e = record { form = g; like = h; goes_on = e }

  pub more : (next : Form Dense) → ((g : Linear) → IsLike sum.constant (dense_at sum.numbers) g → IsFormOf dense_at (joined plus (Some g) (product n m)) (Some next)) → Summed n ms rest next
  more next made = more_at (joined plus (Some s.form) (product n m)) next (made s.form s.like) s.goes_on

pub ends : (n : Nod) (ms : List Multiple) (sum : Form Dense) → Summed n ms [] sum → IsFormOf dense_at (sum_of n ms) (Some sum)
ends n ms sum s = subst (λ o. IsFormOf dense_at o (Some sum)) s.goes_on s.like

zip_next : (is : List ℕ) (ks : List ℤ) (j : ℕ) (d : ℕ) (e : ℤ) → j < length is → length is ≤ length ks → drop j (zip is ks) ≡ (get_or is j d, get_or ks j e) ∷ drop (suc j) (zip is ks)
zip_next [] ks j d e within fit = absurd (omega (arith, within))
zip_next (i ∷ is) [] j d e within fit = absurd (omega (arith, fit))
zip_next (i ∷ is) (k ∷ ks) zero d e within fit = refl
zip_next (i ∷ is) (k ∷ ks) (suc j) d e within fit = zip_next is ks j d e (omega (arith, within)) (omega (arith, fit))

pub zip_more : (is : List ℕ) (ks : List ℤ) (j : ℕ) (d : ℕ) (e : ℤ) → j < length is → length is ≤ length ks → drop j (zip is ks) ≡ (get_or is j d, get_or ks j e) ∷ drop (j + 1) (zip is ks)
zip_more is ks j d e within fit =
    let next : suc j ≡ j + 1 = omega arith in
    zip_next is ks j d e within fit ∙ ap (λ m. (get_or is j d, get_or ks j e) ∷ drop m (zip is ks)) next

pub nothing_like : (sum : Dense) → ((x : Trm) → dense_at sum x ≡ pos 0) → IsLike (pos 0) (dense_at sum) (number_form (pos 0))
nothing_like sum zeros = record { constant_is = refl; numbers_are = zeros; constant_fits = zero_fits; numbers_fit = λ x. subst Fits (sym (zeros x)) zero_fits }

pub zip_past : (is : List ℕ) (ks : List ℤ) (j : ℕ) → length is ≤ j → drop j (zip is ks) ≡ []
zip_past [] ks zero past = refl
zip_past [] ks (suc j) past = refl
zip_past (i ∷ is) ks zero past = absurd (omega (arith, past))
zip_past (i ∷ is) [] (suc j) past = refl
zip_past (i ∷ is) (k ∷ ks) (suc j) past = zip_past is ks j (omega (arith, past))
