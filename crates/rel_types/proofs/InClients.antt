-- The procedures of a client: their names, and what surrounds them.
use Rattle.std.proofs.Common.{◌≡◌, ℕ, suc, ◌+◌, ◌<◌, ◌≤◌, true, false, ◌||◌, if◌then◌else◌, List, [], ◌∷◌, ◌++◌, map, length, get_or, drop, Option, Some, None, option_map, refl, sym, ap, ap₂, ◌∙◌, arith}
use Rattle.std.specs.Prelude.{bytes_eq, is_some}
use Rattle.std.proofs.Math.ListN.{drop_of_length-le}
use Rattle.std.proofs.Math.Seq.{drop-cons}
use Rattle.rel_lang.specs.Syntax.{Word, Proc, Sig, Interface, Client}
use Rattle.rel_lang.specs.State.{find_named, Tables}
use Rattle.rel_lang.specs.declared.bundle.Proc as Q
use Rattle.rel_lang.specs.View.{proc_of}
use Rattle.rel_lang.specs.Lookup.{find_proc, find_method}
use Rattle.rel_lang.specs.Typed.{signature_of_proc}
use Rattle.rel_flaws.specs.Flaws.{flawless, Pass, Fault, first_of}
use Rattle.rel_flaws.specs.Entries.{find_entry}
use Rattle.rel_flaws.specs.CodeView.{callee_of, callees_seen}
use Rattle.rel_flaws.specs.Inference.{is_among}
use Rattle.rel_flaws.proofs.Callees.{found_callee}
use Rattle.rel_flaws.specs.declared.code.Callee.{Callee}
use Rattle.rel_types.specs.Items.{first_named, methods_of_interface, signatures_of, proc_fault, setting_in_client, callees_in_client}
use Rattle.rel_types.specs.Called.{SameCallees}
use Rattle.rel_types.specs.ClientView.{fault_of_proc, is_main_with_parameters}
use Rattle.rel_types.specs.Lookups.{SameNames}
use Rattle.rel_types.proofs.InModules.{signed}

-- ---- names

some_of : {A B : Type 0} (f : A → B) (o : Option A) → is_some o ≡ is_some (option_map f o)
some_of f None = refl
some_of f (Some a) = refl

method_named : (x : Word) (qs : List Sig) → is_some (find_method x qs) ≡ is_among x (map (λ q. q.name) qs)
method_named x [] = refl
method_named x (q ∷ qs) =
    elim (bytes_eq x q.name) as (λ b. is_some (if b then Some q else find_method x qs) ≡ (b || is_among x (map (λ r. r.name) qs))) [
      | true ↦ refl
      | false ↦ method_named x qs
    ]

proc_signed : (x : Word) (qs : List Proc) → find_named (λ q. q.name) x (map signature_of_proc qs) ≡ option_map signature_of_proc (find_proc x qs)
proc_signed x [] = refl
proc_signed x (q ∷ qs) =
    elim (bytes_eq x q.name) as (λ b. (if b then Some (signature_of_proc q) else find_named (λ r. r.name) x (map signature_of_proc qs))
    ≡ option_map signature_of_proc (if b then Some q else find_proc x qs)) [
      | true ↦ refl
      | false ↦ proc_signed x qs
    ]

-- an index has the names of the methods, or of the procedures
pub has_method : (es : List (Word × Callee)) (x : Word) (i : Option Interface) → SameCallees (callees_seen es) (signatures_of i)
    → is_some (find_entry x es) ≡ is_among x (map (λ q. q.name) (methods_of_interface i))
has_method es x i same =
    some_of (callee_of x) (find_entry x es) ∙ ap is_some (found_callee x es ∙ same x ∙ signed x (methods_of_interface i)) ∙ sym (some_of _ (find_method x (methods_of_interface i)))
    ∙ method_named x (methods_of_interface i)

pub has_proc : (es : List (Word × Callee)) (x : Word) (qs : List Proc) → SameCallees (callees_seen es) (map signature_of_proc qs) → is_some (find_entry x es) ≡ is_some (find_proc x qs)
has_proc es x qs same =
    some_of (callee_of x) (find_entry x es) ∙ ap is_some (found_callee x es ∙ same x ∙ proc_signed x qs) ∙ sym (some_of signature_of_proc (find_proc x qs))

-- ---- the first fault, where each is told which names stand before it

module _ {X Y : Type 0} (name : Y → Word) (fault : List Word → Y → Option Fault) (view : X → Y)
    (alike : (s t : List Word) → SameNames s t → (y : Y) → fault s y ≡ fault t y) where
  named_alike : (s t : List Word) → SameNames s t → (ys : List Y) → first_named name fault s ys ≡ first_named name fault t ys
  named_alike s t same [] = refl
  named_alike s t same (y ∷ ys) = ap₂ first_of (alike s t same y) (named_alike (name y ∷ s) (name y ∷ t) (λ x. ap (λ b. bytes_eq x (name y) || b) (same x)) ys)

  -- the first fault from here on
  abbrev pub named_from : List Word → List X → ℕ → Option Fault
  named_from s xs i = first_named name fault s (map view (drop i xs))

  one_named : (s : List Word) (xs : List X) (i : ℕ) (d : X) → i < length xs → d ≡ get_or xs i d
      → named_from s xs i ≡ first_of (fault s (view d)) (first_named name fault (name (view d) ∷ s) (map view (drop (i + 1) xs)))
  one_named s xs i d h is =
      let next : suc i ≡ i + 1 = omega arith in
      ap (λ l. first_named name fault s (map view l)) (drop-cons xs i d h)
      ∙ ap (λ e. first_of (fault s (view e)) (first_named name fault (name (view e) ∷ s) (map view (drop (suc i) xs)))) (sym is)
      ∙ ap (λ n. first_of (fault s (view d)) (first_named name fault (name (view d) ∷ s) (map view (drop n xs)))) next

  pub some_named : (all : Option Fault) (s : List Word) (xs : List X) (i : ℕ) (d : X) (f : Fault) → i < length xs → d ≡ get_or xs i d
      → all ≡ named_from s xs i → Some f ≡ fault s (view d) → Some f ≡ all
  some_named all s xs i d f h is so_far here =
      sym (so_far ∙ one_named s xs i d h is ∙ ap (λ g. first_of g (first_named name fault (name (view d) ∷ s) (map view (drop (i + 1) xs)))) (sym here))

  pub none_named : (all : Option Fault) (s t : List Word) (xs : List X) (i : ℕ) (d : X) → i < length xs → d ≡ get_or xs i d
      → all ≡ named_from s xs i → None ≡ fault s (view d) → SameNames t (name (view d) ∷ s) → all ≡ named_from t xs (i + 1)
  none_named all s t xs i d h is so_far here same =
      so_far ∙ one_named s xs i d h is ∙ ap (λ g. first_of g (first_named name fault (name (view d) ∷ s) (map view (drop (i + 1) xs)))) (sym here)
      ∙ named_alike (name (view d) ∷ s) t (λ x. sym (same x)) (map view (drop (i + 1) xs))

  pub ends_named : (all : Option Fault) (s : List Word) (xs : List X) (i : ℕ) → length xs ≤ i → all ≡ named_from s xs i → None ≡ all
  ends_named all s xs i h so_far = sym (so_far ∙ ap (λ l. first_named name fault s (map view l)) (drop_of_length-le xs h))

-- a procedure's fault asks only which names stand before it
pub proc_alike : (tables : Tables) (pass : Pass) (i : Option Interface) (c : Client) (s t : List Word) → SameNames s t → (q : Proc)
    → fault_of_proc tables pass i c s q ≡ fault_of_proc tables pass i c t q
proc_alike tables pass i c s t same q =
    ap (λ b. proc_fault tables pass (setting_in_client i c q) (callees_in_client i c)
    (record flawless { twice = b || is_among q.name (map (λ m. m.name) (methods_of_interface i)); no_main = is_main_with_parameters q }) q) (same q.name)

-- the procedures of a client, alone in an index
pub procs_alone : (qs : List Q.Proc) (es none : List (Word × Callee)) → none ≡ []
    → SameCallees (callees_seen es) (callees_seen none ++ map (λ q. signature_of_proc (proc_of q)) qs) → SameCallees (callees_seen es) (map signature_of_proc (map proc_of qs))
procs_alone qs es none nothing same x =
    same x ∙ ap (λ l. find_named (λ q. q.name) x (callees_seen l ++ map (λ q. signature_of_proc (proc_of q)) qs)) nothing
    ∙ ap (find_named (λ q. q.name) x) (twice qs)
  where
    twice : (qs : List Q.Proc) → map (λ q. signature_of_proc (proc_of q)) qs ≡ map signature_of_proc (map proc_of qs)
    twice [] = refl
    twice (q ∷ qs) = ap (λ l. signature_of_proc (proc_of q) ∷ l) (twice qs)
