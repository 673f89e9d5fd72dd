-- Reading the array that a tree is.
use Rattle.std.proofs.Common.{◌≡◌, ℕ, zero, suc, ◌-◌, ◌<◌, List, Some, option_and_then, sym, ap, ◌∙◌, arith}
use Rattle.serde_json.specs.Data.{Data}
use Rattle.rel_proofio.specs.Parts.{Word, headed}
use Rattle.rel_proofio.specs.Words.{term_head, fol_head}
use Rattle.rel_proofio.specs.Trees.{term_with, term_in, fml_with, fml_in}
use Rattle.rel_proofio.specs.declared.words.TermHead.{TermHead}
use Rattle.rel_proofio.specs.declared.words.FolHead.{FolHead}

less_one : (n : ℕ) → suc n - 1 ≡ n
less_one n = omega arith

pub term_here : (n : ℕ) (d : Data) (w : Word) (ds : List Data) (h : TermHead) → 0 < n → Some (w, ds) ≡ headed d → Some h ≡ term_head w
    → term_in n d ≡ term_with (term_in (n - 1)) h ds
term_here zero d w ds h lt e s = absurd (omega arith)
term_here (suc n) d w ds h lt e s =
    ap (option_and_then (λ p. option_and_then (λ k. term_with (term_in n) k p.1) (term_head p.0))) (sym e)
    ∙ (ap (option_and_then (λ k. term_with (term_in n) k ds)) (sym s) ∙ ap (λ m. term_with (term_in m) h ds) (sym (less_one n)))

pub fml_here : (n : ℕ) (d : Data) (w : Word) (ds : List Data) (h : FolHead) → 0 < n → Some (w, ds) ≡ headed d → Some h ≡ fol_head w
    → fml_in n d ≡ fml_with (term_in (n - 1)) (fml_in (n - 1)) h ds
fml_here zero d w ds h lt e s = absurd (omega arith)
fml_here (suc n) d w ds h lt e s =
    ap (option_and_then (λ p. option_and_then (λ k. fml_with (term_in n) (fml_in n) k p.1) (fol_head p.0))) (sym e)
    ∙ (ap (option_and_then (λ k. fml_with (term_in n) (fml_in n) k ds)) (sym s) ∙ ap (λ m. fml_with (term_in m) (fml_in m) h ds) (sym (less_one n)))
