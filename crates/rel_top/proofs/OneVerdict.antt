-- There is one verdict at most on the bytes of two files.
use Rattle.std.proofs.Common.{◌≡◌, ◌≢◌, ℕ, List, [], ◌∷◌, Option, Some, None, refl, sym, ap, subst, ◌∙◌, arith}
use Rattle.rel_io.specs.Told.{Told, untold, absent, bytes, IsToldAs}
use Rattle.rel_lang.specs.Syntax.{Bundle}
use Rattle.rel_flaws.specs.Flaws.{Fault}
use Rattle.rel_types.specs.Items.{first_fault}
use Rattle.rel_straight.specs.declared.step.Step.{Step}
use Rattle.rel_straight.specs.declared.checker.Verdict as D
use Rattle.rel_straight.specs.declared.checker.Verdict.TheVariants.{Accepted, BadStep, OpenNodes}
use Rattle.rel_straight.specs.Stack.{IsVerdict}
use Rattle.rel_straight.proofs.Exact.{verdict_is_only}
use Rattle.rel_straight.proofs.Sound.{valid_from_accepted}
use Rattle.rel_linking.specs.Form.{Parts, IsStraight}
use Rattle.rel_linking.specs.Obligation.{obligation_of}
use Rattle.rel_decls.proofs.OneFault.{one_fault, unfit}
use Rattle.rel_decls.proofs.OneBundle.{one_bundle}
use Rattle.rel_top.specs.Ending.{AreTold}
use Rattle.rel_top.specs.ProofFile.{proof_of}
use Rattle.rel_top.specs.Verdict.{Refusal, too_large, bad_text, IsRefused, IsRead, IsIllTyped, IsBuilt, IsNotBuilt, Outcome, no_proof, bad_step, open_nodes, accepted, HasOutcome, Verdict, refused, ill_typed, not_built, judged, printed, IsJudgedAs, IsShownAs, Command, check, show, HasVerdict}

-- ---- a bundle has one list of parts at most

pub same_parts : (b : Bundle) (k l : Parts) → IsStraight b k → IsStraight b l → k ≡ l
same_parts b k l f g =
    let items = sym f.parts.items ∙ g.parts.items in
    let left : k.left ≡ l.left = cc in
    let right : k.right ≡ l.right = cc in
    let judgement : k.judgement ≡ l.judgement = cc in
    let left_procs : k.left_proc ∷ [] ≡ l.left_proc ∷ [] = sym f.parts.left.procs ∙ ap (λ u. u.procs) left ∙ g.parts.left.procs in
    let right_procs : k.right_proc ∷ [] ≡ l.right_proc ∷ [] = sym f.parts.right.procs ∙ ap (λ u. u.procs) right ∙ g.parts.right.procs in
    let left_proc : k.left_proc ≡ l.left_proc = cc in
    let right_proc : k.right_proc ≡ l.right_proc = cc in
    λ i. record { left = left i; left_proc = left_proc i; right = right i; right_proc = right_proc i; judgement = judgement i }

-- ---- a proof file comes to one outcome

some_is : {A : Type 0} (x y : A) → ◌≡◌ {A = Option A} (Some x) (Some y) → x ≡ y
some_is x y e = cc

none_is : {A : Type 0} (o : Option A) (x : A) → o ≡ None → o ≡ Some x → ⊥
none_is o x e f = absurd cc

abbrev pub outcome_of : D.Verdict → Outcome
outcome_of Accepted = accepted
outcome_of (BadStep n) = bad_step n
outcome_of (OpenNodes n) = open_nodes n

-- the bytes say steps that come to this verdict
pub record ComesTo (k : Parts) (content : List ℕ) (v : D.Verdict) : Type 0 where
  pub steps : List Step
  pub said : proof_of content ≡ Some steps
  pub holds : IsVerdict (obligation_of k) steps v

comes : (k : Parts) (o : Outcome) (content : List ℕ) → HasOutcome k o content → (o ≢ no_proof) → (v : D.Verdict) × (o ≡ outcome_of v) × ComesTo k content v
comes k no_proof content h some = absurd (some refl)
comes k (bad_step n) content h some = (BadStep n, refl, record { steps = h.steps; said = h.said; holds = h.holds })
comes k (open_nodes n) content h some = (OpenNodes n, refl, record { steps = h.steps; said = h.said; holds = h.holds })
comes k accepted content h some = (Accepted, refl, record { steps = h.steps; said = h.said; holds = (h.holds, valid_from_accepted (obligation_of k) h.steps h.holds) })

same_end : (k : Parts) (content : List ℕ) (v w : D.Verdict) → ComesTo k content v → ComesTo k content w → v ≡ w
same_end k content v w g h =
    let same : g.steps ≡ h.steps = some_is g.steps h.steps (sym g.said ∙ h.said) in
    verdict_is_only (obligation_of k) h.steps w h.holds v (subst (λ ss. IsVerdict (obligation_of k) ss v) same g.holds)

not_said : (k : Parts) (o : Outcome) (content : List ℕ) → proof_of content ≡ None → HasOutcome k o content → o ≡ no_proof
not_said k no_proof content e h = refl
not_said k (bad_step n) content e h = absurd (none_is (proof_of content) h.steps e h.said)
not_said k (open_nodes n) content e h = absurd (none_is (proof_of content) h.steps e h.said)
not_said k accepted content e h = absurd (none_is (proof_of content) h.steps e h.said)

is_said : (k : Parts) (o p : Outcome) (content : List ℕ) → o ≢ no_proof → p ≢ no_proof → HasOutcome k o content → HasOutcome k p content → o ≡ p
is_said k o p content some other g h =
    let a = comes k o content g some in
    let b = comes k p content h other in
    a.1 ∙ ap outcome_of (same_end k content a.0 b.0 a.2 b.2) ∙ sym b.1

one_outcome : (k : Parts) (o p : Outcome) (content : List ℕ) → HasOutcome k o content → HasOutcome k p content → o ≡ p
one_outcome k no_proof p content g h = sym (not_said k p content g h)
one_outcome k (bad_step n) no_proof content g h = not_said k (bad_step n) content h g
one_outcome k (bad_step n) (bad_step m) content g h = is_said k (bad_step n) (bad_step m) content (λ e. cc) (λ e. cc) g h
one_outcome k (bad_step n) (open_nodes m) content g h = is_said k (bad_step n) (open_nodes m) content (λ e. cc) (λ e. cc) g h
one_outcome k (bad_step n) accepted content g h = is_said k (bad_step n) accepted content (λ e. cc) (λ e. cc) g h
one_outcome k (open_nodes n) no_proof content g h = not_said k (open_nodes n) content h g
one_outcome k (open_nodes n) (bad_step m) content g h = is_said k (open_nodes n) (bad_step m) content (λ e. cc) (λ e. cc) g h
one_outcome k (open_nodes n) (open_nodes m) content g h = is_said k (open_nodes n) (open_nodes m) content (λ e. cc) (λ e. cc) g h
one_outcome k (open_nodes n) accepted content g h = is_said k (open_nodes n) accepted content (λ e. cc) (λ e. cc) g h
one_outcome k accepted no_proof content g h = not_said k accepted content h g
one_outcome k accepted (bad_step m) content g h = is_said k accepted (bad_step m) content (λ e. cc) (λ e. cc) g h
one_outcome k accepted (open_nodes m) content g h = is_said k accepted (open_nodes m) content (λ e. cc) (λ e. cc) g h
one_outcome k accepted accepted content g h = refl

-- ---- a text is refused for one reason, or read as one bundle

one_refusal : (text : List ℕ) (r s : Refusal) → IsRefused text r → IsRefused text s → r ≡ s
one_refusal text too_large too_large g h = refl
one_refusal text too_large (bad_text f) g h = let short = h.0 in absurd (omega (arith, g, short))
one_refusal text (bad_text f) too_large g h = let short = g.0 in absurd (omega (arith, h, short))
one_refusal text (bad_text e) (bad_text f) g h = ap bad_text (one_fault text e f g.2 h.2 g.1 h.1)

pub not_read : (text : List ℕ) (r : Refusal) (b : Bundle) → IsRefused text r → IsRead text b → ⊥
not_read text too_large b g h = let short = h.short in omega (arith, g, short)
not_read text (bad_text f) b g h = unfit text f g.2 g.1 b h.stands h.fits

not_both : (text : List ℕ) (k : Parts) → IsNotBuilt text → IsBuilt text k → ⊥
not_both text k g h = g.other k (subst (λ b. IsStraight b k) (one_bundle text h.bundle g.bundle h.read.stands g.read.stands) h.straight)

-- a bundle has one first fault at most
one_type_fault : (text : List ℕ) (e f : Fault) → IsIllTyped text e → IsIllTyped text f → e ≡ f
one_type_fault text e f g h =
    some_is e f (sym g.fault ∙ ap first_fault (one_bundle text g.bundle h.bundle g.read.stands h.read.stands) ∙ h.fault)

faulty : (text : List ℕ) (f : Fault) (b : Bundle) → IsIllTyped text f → IsRead text b → first_fault b ≡ None → ⊥
faulty text f b g read none = none_is (first_fault b) f none (ap first_fault (one_bundle text b g.bundle read.stands g.read.stands) ∙ g.fault)

one_parts : (text : List ℕ) (k l : Parts) → IsBuilt text k → IsBuilt text l → k ≡ l
one_parts text k l g h = same_parts h.bundle k l (subst (λ b. IsStraight b k) (one_bundle text g.bundle h.bundle g.read.stands h.read.stands) g.straight) h.straight

-- ---- the two files

pub same_content : (t : Told) → t ≢ untold → (c d : List ℕ) → IsToldAs t c → IsToldAs t d → c ≡ d
same_content untold told c d e f = absurd (told refl)
same_content absent told c d e f = absurd e
same_content (bytes content) told c d e f = e ∙ sym f

module _ (bundle proof : Told) (told : bundle ≢ untold) (also : proof ≢ untold) where
  -- what holds of the bytes told holds of these
  here : (P : List ℕ → Type 0) (text : List ℕ) → IsToldAs bundle text → (c : List ℕ) × IsToldAs bundle c × P c → P text
  here P text is h = subst P (same_content bundle told h.0 text h.1 is) h.2

  there : (P : List ℕ → Type 0) (content : List ℕ) → IsToldAs proof content → (c : List ℕ) × IsToldAs proof c × P c → P content
  there P content is h = subst P (same_content proof also h.0 content h.1 is) h.2

  one_judged : (v w : Verdict) → IsJudgedAs bundle proof v → IsJudgedAs bundle proof w → v ≡ w
  one_judged (printed b) w g h = absurd g
  one_judged (refused r) (printed b) g h = absurd h
  one_judged not_built (printed b) g h = absurd h
  one_judged (ill_typed f) (printed b) g h = absurd h
  one_judged (judged k o) (printed b) g h = absurd h
  one_judged (refused r) (ill_typed f) g h = let n = here (λ text. IsIllTyped text f) g.0 g.1 h in absurd (not_read g.0 r n.bundle g.2 n.read)
  one_judged (ill_typed f) (refused s) g h = let n = here (λ text. IsIllTyped text f) h.0 h.1 g in absurd (not_read h.0 s n.bundle h.2 n.read)
  one_judged (ill_typed e) (ill_typed f) g h = ap ill_typed (one_type_fault g.0 e f g.2 (here (λ text. IsIllTyped text f) g.0 g.1 h))
  one_judged (ill_typed f) not_built g h = let n = here IsNotBuilt g.0 g.1 h in absurd (faulty g.0 f n.bundle g.2 n.read n.faultless)
  one_judged (ill_typed f) (judged k o) g h = let n = here (λ text. IsBuilt text k) g.0 g.1 h.0 in absurd (faulty g.0 f n.bundle g.2 n.read n.faultless)
  one_judged not_built (ill_typed f) g h = let n = here IsNotBuilt h.0 h.1 g in absurd (faulty h.0 f n.bundle h.2 n.read n.faultless)
  one_judged (judged k o) (ill_typed f) g h = let n = here (λ text. IsBuilt text k) h.0 h.1 g.0 in absurd (faulty h.0 f n.bundle h.2 n.read n.faultless)
  one_judged (refused r) (refused s) g h = ap refused (one_refusal g.0 r s g.2 (here (λ text. IsRefused text s) g.0 g.1 h))
  one_judged (refused r) not_built g h = let n = here IsNotBuilt g.0 g.1 h in absurd (not_read g.0 r n.bundle g.2 n.read)
  one_judged (refused r) (judged k o) g h = let n = here (λ text. IsBuilt text k) g.0 g.1 h.0 in absurd (not_read g.0 r n.bundle g.2 n.read)
  one_judged not_built (refused s) g h = let n = here IsNotBuilt h.0 h.1 g in absurd (not_read h.0 s n.bundle h.2 n.read)
  one_judged not_built not_built g h = refl
  one_judged not_built (judged k o) g h = absurd (not_both g.0 k g.2 (here (λ text. IsBuilt text k) g.0 g.1 h.0))
  one_judged (judged k o) (refused s) g h = let n = here (λ text. IsBuilt text k) h.0 h.1 g.0 in absurd (not_read h.0 s n.bundle h.2 n.read)
  one_judged (judged k o) not_built g h = absurd (not_both h.0 k h.2 (here (λ text. IsBuilt text k) h.0 h.1 g.0))
  one_judged (judged k o) (judged l p) g h =
      let same : k ≡ l = one_parts g.0.0 k l g.0.2 (here (λ text. IsBuilt text l) g.0.0 g.0.1 h.0) in
      let outcome : HasOutcome k p g.1.0 = there (HasOutcome k p) g.1.0 g.1.1 (subst (λ m. (c : List ℕ) × IsToldAs proof c × HasOutcome m p c) (sym same) h.1) in
      let last : o ≡ p = one_outcome k o p g.1.0 g.1.2 outcome in
      λ i. judged (same i) (last i)

  one_shown : (v w : Verdict) → IsShownAs bundle v → IsShownAs bundle w → v ≡ w
  one_shown (ill_typed f) w g h = absurd g
  one_shown not_built w g h = absurd g
  one_shown (judged k o) w g h = absurd g
  one_shown (refused r) (ill_typed f) g h = absurd h
  one_shown (printed b) (ill_typed f) g h = absurd h
  one_shown (refused r) not_built g h = absurd h
  one_shown (refused r) (judged k o) g h = absurd h
  one_shown (printed b) not_built g h = absurd h
  one_shown (printed b) (judged k o) g h = absurd h
  one_shown (refused r) (refused s) g h = ap refused (one_refusal g.0 r s g.2 (here (λ text. IsRefused text s) g.0 g.1 h))
  one_shown (refused r) (printed b) g h = absurd (not_read g.0 r b g.2 (here (λ text. IsRead text b) g.0 g.1 h))
  one_shown (printed b) (refused s) g h = absurd (not_read h.0 s b h.2 (here (λ text. IsRead text b) h.0 h.1 g))
  one_shown (printed b) (printed c) g h = ap printed (one_bundle g.0 b c g.2.stands (here (λ text. IsRead text c) g.0 g.1 h).stands)

pub one_verdict : (told : List ℕ → Told) (c : Command) → AreTold told c → (v w : Verdict) → HasVerdict told c v → HasVerdict told c w → v ≡ w
one_verdict told (check bundle proof) are v w g h = one_judged (told bundle) (told proof) are.0 are.1 v w g h
one_verdict told (show bundle) are v w g h = one_shown (told bundle) (told bundle) are are v w g h
