-- Procedures and methods that are the same for each name, and one more of them.
use Rattle.std.proofs.Common.{◌≡◌, ℕ, ◌<◌, ◌+◌, Bool, true, false, if◌then◌else◌, List, [], ◌∷◌, ◌++◌, map, take, get_or, length, Option, Some, None, refl, sym, ap, ap₂, ◌∙◌, append_assoc, append-nil}
use Rattle.std.specs.Prelude.{bytes_eq}
use Rattle.std.proofs.lemmas.Slice.Eq.{bytes_eq-Decides}
use Rattle.std.proofs.lemmas.List.{take_more, map-append}
use Rattle.std.proofs.lemmas.Simd.{map-map}
use Rattle.rel_lang.specs.Syntax.{Word}
use Rattle.rel_lang.specs.State.{find_named}
use Rattle.rel_lang.specs.Typed.{Signature, signature_of_proc}
use Rattle.rel_lang.specs.View.{proc_of}
use Rattle.rel_lang.specs.declared.bundle.Proc.{Proc}
use Rattle.rel_flaws.specs.Entries.{with_entry}
use Rattle.rel_flaws.specs.CodeView.{callee_of}
use Rattle.rel_flaws.specs.CodeView.{callees_seen}
use Rattle.rel_types.specs.Called.{SameCallees}
use Rattle.rel_flaws.specs.declared.code.Callee.{Callee}

-- ---- the first of a name in two lists

abbrev pub or_next : {A : Type 0} → Option A → Option A → Option A
or_next None o = o
or_next (Some a) o = Some a

next_none : {A : Type 0} (o : Option A) → or_next o None ≡ o
next_none None = refl
next_none (Some a) = refl

pub found_both : {A : Type 0} (name : A → Word) (x : Word) (xs ys : List A) → find_named name x (xs ++ ys) ≡ or_next (find_named name x xs) (find_named name x ys)
found_both name x [] ys = refl
found_both name x (a ∷ xs) ys =
    elim (bytes_eq x (name a)) as (λ b. (if b then Some a else find_named name x (xs ++ ys)) ≡ or_next (if b then Some a else find_named name x xs) (find_named name x ys)) [
      | true ↦ refl
      | false ↦ found_both name x xs ys
    ]

pub callees_after : (ss ts ss' ts' : List Signature) → SameCallees ss ss' → SameCallees ts ts' → SameCallees (ss ++ ts) (ss' ++ ts')
callees_after ss ts ss' ts' h k x =
    found_both (λ q. q.name) x ss ts ∙ ap₂ or_next (h x) (k x) ∙ sym (found_both (λ q. q.name) x ss' ts')

-- ---- one more

-- one of another name, which is last
other_last : (x : Word) (ss : List Signature) (q : Signature) → bytes_eq x q.name ≡ false → find_named (λ q. q.name) x (ss ++ q ∷ []) ≡ find_named (λ q. q.name) x ss
other_last x ss q h =
    found_both (λ r. r.name) x ss (q ∷ []) ∙ ap (or_next (find_named (λ r. r.name) x ss)) (ap {A = Bool} (λ b. if b then Some q else None) h)
    ∙ next_none (find_named (λ r. r.name) x ss)

with_callee : (es : List (Word × Callee)) (y : Word) (v : Callee) (x : Word)
    → find_named (λ q. q.name) x (callees_seen (with_entry es y v)) ≡ find_named (λ q. q.name) x (callees_seen es ++ callee_of y v ∷ [])
with_callee [] y v x = refl
with_callee (e ∷ es) y v x =
    (elim (bytes_eq y e.0) as (λ b. bytes_eq y e.0 ≡ b
    → find_named (λ q. q.name) x (callees_seen (if b then e ∷ es else e ∷ with_entry es y v)) ≡ find_named (λ q. q.name) x (callees_seen (e ∷ es) ++ callee_of y v ∷ [])) [
      | true ↦ λ same. there ((bytes_eq-Decides y e.0).0 same)
      | false ↦ λ differs. elim (bytes_eq x e.0) as (λ c. (if c then Some (callee_of e.0 e.1) else find_named (λ q. q.name) x (callees_seen (with_entry es y v)))
          ≡ (if c then Some (callee_of e.0 e.1) else find_named (λ q. q.name) x (callees_seen es ++ callee_of y v ∷ []))) [
            | true ↦ refl
            | false ↦ with_callee es y v x
          ]
    ]) refl
  where
    there : y ≡ e.0 → find_named (λ q. q.name) x (callees_seen (e ∷ es)) ≡ find_named (λ q. q.name) x (callees_seen (e ∷ es) ++ callee_of y v ∷ [])
    there same =
        (elim (bytes_eq x e.0) as (λ c. bytes_eq x e.0 ≡ c → (if c then Some (callee_of e.0 e.1) else find_named (λ q. q.name) x (callees_seen es))
        ≡ (if c then Some (callee_of e.0 e.1) else find_named (λ q. q.name) x (callees_seen es ++ callee_of y v ∷ []))) [
          | true ↦ λ is. refl
          | false ↦ λ isnt. sym (other_last x (callees_seen es) (callee_of y v) (ap (bytes_eq x) same ∙ isnt))
        ]) refl

pub insert_callee : (es : List (Word × Callee)) (y : Word) (v : Callee) (q : Signature) → callee_of y v ≡ q → SameCallees (callees_seen (with_entry es y v)) (callees_seen es ++ q ∷ [])
insert_callee es y v q e x = with_callee es y v x ∙ ap (λ u. find_named (λ r. r.name) x (callees_seen es ++ u ∷ [])) e

-- the first so many of a list, and the next
pub more_callees : {X : Type 0} (sign : X → Signature) (after before base : List Signature) (xs : List X) (i : ℕ) (d : X) → i < length xs → d ≡ get_or xs i d
    → SameCallees before (base ++ map sign (take i xs)) → SameCallees after (before ++ sign d ∷ []) → SameCallees after (base ++ map sign (take (i + 1) xs))
more_callees sign after before base xs i d h is old new x =
    new x ∙ callees_after before (sign d ∷ []) (base ++ map sign (take i xs)) (sign d ∷ []) old (λ y. refl) x
    ∙ ap (find_named (λ r. r.name) x) (append_assoc base (map sign (take i xs)) (sign d ∷ [])
    ∙ ap (λ l. base ++ l) (sym (ap (map sign) (take_more xs i d h ∙ ap (λ a. take i xs ++ a ∷ []) (sym is)) ∙ map-append sign (take i xs) (d ∷ []))))

-- procedures, and no methods
pub procs_alone : (after before methods : List (Word × Callee)) (ps : List Proc) → before ≡ [] → methods ≡ []
    → SameCallees (callees_seen after) (callees_seen before ++ map (λ q. signature_of_proc (proc_of q)) ps) → SameCallees (callees_seen after ++ callees_seen methods) (map signature_of_proc (map proc_of ps))
procs_alone after before methods ps none without h x =
    ap (find_named (λ q. q.name) x) (ap (λ m. callees_seen after ++ callees_seen m) without ∙ append-nil (callees_seen after))
    ∙ h x ∙ ap (λ l. find_named (λ q. q.name) x (callees_seen l ++ map (λ q. signature_of_proc (proc_of q)) ps)) none
    ∙ ap (find_named (λ q. q.name) x) (sym (map-map signature_of_proc proc_of ps))
