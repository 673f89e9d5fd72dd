-- A term is put in the place of a name.
use Rattle.std.proofs.Common.{◌≡◌, ℕ, zero, suc, ◌+◌, ◌≤◌, true, false, if◌then◌else◌, List, [], ◌∷◌, length, set, map, Option, Some, None, refl, sym, ap, ◌∙◌, arith}
use Rattle.std.specs.Str.{bytes_eq}
use Rattle.std.proofs.lemmas.List.{map-set, length-map}
use Rattle.rel_lang.specs.Syntax.{Word, Decl}
use Rattle.rel_lang.specs.View.{decl_of}
use Rattle.rel_lang.specs.declared.bundle.Decl as D
use Rattle.rel_logic.specs.Syntax.{Trm, var}
use Rattle.rel_logic.specs.View.{trm_of}
use Rattle.rel_logic.specs.declared.term.Term.{Term, Var}
use Rattle.rel_encode.specs.Places.{next, place_named}
use Rattle.rel_encode.specs.Terms.{Store}
use Rattle.rel_encode.proofs.Lookups.{place_in_map}
use Rattle.rel_linking.specs.Obligation.{with_term, assigned_store}
use Rattle.rel_linking.proofs.Layouts.{variable_is}

abbrev placed : Option ℕ → Trm → List Trm → List Trm
placed None t ts = ts
placed (Some k) t ts = set ts k t

placed_empty : (o : Option ℕ) (t : Trm) → placed o t [] ≡ []
placed_empty None t = refl
placed_empty (Some k) t = refl

placed_later : (o : Option ℕ) (t u : Trm) (us : List Trm) → placed (next o) t (u ∷ us) ≡ u ∷ placed o t us
placed_later None t u us = refl
placed_later (Some k) t u us = let one : k + 1 ≡ suc k = omega arith in ap (λ m. set (u ∷ us) m t) one

with_term_is : (x : Word) (t : Trm) (ds : List Decl) (ts : List Trm) → with_term x t ds ts ≡ placed (place_named (λ d. d.name) x ds) t ts
with_term_is x t [] ts = refl
with_term_is x t (d ∷ ds) [] = sym (placed_empty (place_named (λ d. d.name) x (d ∷ ds)) t)
with_term_is x t (d ∷ ds) (u ∷ us) =
    elim (bytes_eq x d.name) as (λ b. (if b then t ∷ us else u ∷ with_term x t ds us) ≡ placed (if b then Some 0 else next (place_named (λ d. d.name) x ds)) t (u ∷ us)) [
      | true ↦ refl
      | false ↦ ap (λ l. u ∷ l) (with_term_is x t ds us) ∙ sym (placed_later (place_named (λ d. d.name) x ds) t u us)
    ]

set_far : (ts : List Trm) (k : ℕ) (t : Trm) → length ts ≤ k → set ts k t ≡ ts
set_far [] k t h = refl
set_far (u ∷ us) zero t h = absurd (omega arith)
set_far (u ∷ us) (suc k) t h = ap (λ l. u ∷ l) (set_far us k t (omega (arith, h)))

module _ (x : Word) (n : ℕ) (ds : List D.Decl) (ts : List Term) (maps : List Trm) (alloc : Trm) where
  abbrev whole : List Trm → Store
  whole vars = record { vars = vars; maps = maps; alloc = alloc }

  abbrev IsAssigned : List Trm → Type 0
  IsAssigned vars = whole vars ≡ assigned_store x (var n) (map decl_of ds) (whole (map trm_of ts))

  at_place : (o : Option ℕ) → o ≡ place_named (λ d. d.name) x ds → IsAssigned (placed o (var n) (map trm_of ts))
  at_place o e = ap whole
      (ap (λ p. placed p (var n) (map trm_of ts)) (e ∙ sym (place_in_map (λ d. d.name) decl_of x ds)) ∙ sym (with_term_is x (var n) (map decl_of ds) (map trm_of ts)))

  pub put_at : (k : ℕ) (new : List Term) → Some k ≡ place_named (λ d. d.name) x ds → new ≡ set ts k (Var n) → IsAssigned (map trm_of new)
  put_at k new e put = ap whole (ap (map trm_of) put ∙ map-set trm_of ts k (Var n) ∙ ap (set (map trm_of ts) k) (variable_is n)) ∙ at_place (Some k) e

  pub put_far : (k : ℕ) → Some k ≡ place_named (λ d. d.name) x ds → length ts ≤ k → IsAssigned (map trm_of ts)
  put_far k e h =
      let far : length (map trm_of ts) ≤ k = omega (arith, h, length-map ts trm_of) in
      ap whole (sym (set_far (map trm_of ts) k (var n) far)) ∙ at_place (Some k) e

  pub put_nowhere : None ≡ place_named (λ d. d.name) x ds → IsAssigned (map trm_of ts)
  put_nowhere e = at_place None e
