-- Looking up a callee, and the arguments of a call.
use Rattle.std.proofs.Common.{◌≡◌, ℕ, zero, suc, ◌<◌, true, false, List, [], ◌∷◌, ◌++◌, map, length, get_or, drop, Option, Some, None, option_map, sym, ap, refl, ◌∙◌}
use Rattle.std.specs.Prelude.{bytes_eq, ◌==◌, if◌then◌else◌}
use Rattle.std.proofs.Math.Seq.{drop-cons}
use Rattle.std.proofs.lemmas.List.{length-map}
use Rattle.std.proofs.lemmas.Slice.Eq.{bytes_eq-Decides}
use Rattle.rel_lang.specs.Syntax.{Word, Expression, Decl}
use Rattle.rel_lang.specs.State.{find_named, Tables, Scope}
use Rattle.rel_lang.specs.Typed.{Signature}
use Rattle.rel_lang.specs.View.{expression_of, decl_of}
use Rattle.rel_lang.specs.declared.expr.Expr as E
use Rattle.rel_lang.specs.declared.bundle.Decl as D
use Rattle.rel_flaws.specs.Flaws.{either}
use Rattle.rel_flaws.specs.Code.{flaws_of_arguments}
use Rattle.rel_flaws.specs.Entries.{find_entry, without_front}
use Rattle.rel_flaws.specs.CodeView.{callee_of, callees_seen}
use Rattle.rel_flaws.specs.Parts.{argument_flaws}
use Rattle.rel_flaws.specs.declared.code.Callee.{Callee}

pub found_callee : (x : Word) (es : List (Word × Callee)) → option_map (callee_of x) (find_entry x es) ≡ find_named (λ q. q.name) x (map (λ e. callee_of e.0 e.1) es)
found_callee x [] = refl
found_callee x (e ∷ es) =
    (elim (bytes_eq x e.0) as (λ b. bytes_eq x e.0 ≡ b → option_map (callee_of x) (if b then Some e.1 else find_entry x es)
    ≡ (if b then Some (callee_of e.0 e.1) else find_named (λ q. q.name) x (map (λ d. callee_of d.0 d.1) es))) [
      | true ↦ λ same. ap (λ y. Some (callee_of y e.1)) ((bytes_eq-Decides x e.0).0 same)
      | false ↦ λ differs. found_callee x es
    ]) refl

-- in front of others, or behind some of which none has the name
abbrev before : Option Signature → Option Signature → Option Signature
before None o = o
before (Some q) o = Some q

found_in_both : (x : Word) (es : List (Word × Callee)) (rest : List Signature)
    → find_named (λ q. q.name) x (callees_seen es ++ rest) ≡ before (option_map (callee_of x) (find_entry x es)) (find_named (λ q. q.name) x rest)
found_in_both x [] rest = refl
found_in_both x (e ∷ es) rest =
    (elim (bytes_eq x e.0) as (λ b. bytes_eq x e.0 ≡ b → (if b then Some (callee_of e.0 e.1) else find_named (λ q. q.name) x (callees_seen es ++ rest))
    ≡ before (option_map (callee_of x) (if b then Some e.1 else find_entry x es)) (find_named (λ q. q.name) x rest)) [
      | true ↦ λ same. ap (λ y. Some (callee_of y e.1)) (sym ((bytes_eq-Decides x e.0).0 same))
      | false ↦ λ differs. found_in_both x es rest
    ]) refl

pub callee_in_front : (x : Word) (es : List (Word × Callee)) (rest : List Signature) (v : Callee) → Some v ≡ find_entry x es
    → Some (callee_of x v) ≡ find_named (λ q. q.name) x (callees_seen es ++ rest)
callee_in_front x es rest v e = ap (λ o. before (option_map (callee_of x) o) (find_named (λ q. q.name) x rest)) e ∙ sym (found_in_both x es rest)

pub callee_behind : (x : Word) (es : List (Word × Callee)) (rest : List Signature) → None ≡ find_entry x es
    → find_named (λ q. q.name) x rest ≡ find_named (λ q. q.name) x (callees_seen es ++ rest)
callee_behind x es rest e = ap (λ o. before (option_map (callee_of x) o) (find_named (λ q. q.name) x rest)) e ∙ sym (found_in_both x es rest)

-- ---- arguments

front_of_drop : {X : Type 0} (i : ℕ) (xs : List X) → without_front (drop i xs) ≡ drop (suc i) xs
front_of_drop zero [] = refl
front_of_drop zero (x ∷ xs) = refl
front_of_drop (suc i) [] = refl
front_of_drop (suc i) (x ∷ xs) = front_of_drop i xs

front_of_map : {X Y : Type 0} (f : X → Y) (xs : List X) → without_front (map f xs) ≡ map f (without_front xs)
front_of_map f [] = refl
front_of_map f (x ∷ xs) = refl

one_argument : (tables : Tables) (sc : Scope) (e : Expression) (es : List Expression) (ds : List Decl)
    → flaws_of_arguments tables sc (e ∷ es) ds ≡ either (argument_flaws tables sc e ds) (flaws_of_arguments tables sc es (without_front ds))
one_argument tables sc e es [] = refl
one_argument tables sc e es (d ∷ ds) = refl

pub one_more_argument : (tables : Tables) (sc : Scope) (es : List E.Expr) (ds : List D.Decl) (i : ℕ) (d : E.Expr) → i < length es
    → either (argument_flaws tables sc (expression_of (get_or es i d)) (map decl_of (drop i ds))) (flaws_of_arguments tables sc (map expression_of (drop (suc i) es)) (map decl_of (drop (suc i) ds)))
    ≡ flaws_of_arguments tables sc (map expression_of (drop i es)) (map decl_of (drop i ds))
one_more_argument tables sc es ds i d h =
    sym (ap (λ l. flaws_of_arguments tables sc (map expression_of l) (map decl_of (drop i ds))) (drop-cons es i d h)
    ∙ one_argument tables sc (expression_of (get_or es i d)) (map expression_of (drop (suc i) es)) (map decl_of (drop i ds))
    ∙ ap (λ l. either (argument_flaws tables sc (expression_of (get_or es i d)) (map decl_of (drop i ds))) (flaws_of_arguments tables sc (map expression_of (drop (suc i) es)) l))
    (front_of_map decl_of (drop i ds) ∙ ap (map decl_of) (front_of_drop i ds)))

pub same_lengths : (es : List E.Expr) (ds : List D.Decl) → (length (map expression_of es) == length (map decl_of ds)) ≡ (length es == length ds)
same_lengths es ds = simp length-map
