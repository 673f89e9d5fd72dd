-- What the bytes of a bundle and of a proof file come to.
use Rattle.std.specs.Prelude.{◌≡◌, ◌≢◌, ℕ, ◌<◌, ◌≤◌, ◌^◌, List, [], ◌∷◌, map, length, None, Some, codes}
use Rattle.rel_io.specs.Told.{Told, IsToldAs}
use Rattle.rel_lang.specs.Refusal.{Fits}
use Rattle.rel_lang.specs.Syntax.{OfUnit, OfJudgement, Bundle}
use Rattle.rel_lang.specs.Text.{spaced, show_item, StandsFor}
use Rattle.rel_decls.specs.Faults.{HasFault}
use Rattle.rel_decls.specs.declared.fault.TextFault.{TextFault}
use Rattle.rel_decls.specs.declared.fault.TextFault.TheVariants as faults
use Rattle.rel_flaws.specs.Flaws.{Fault}
use Rattle.rel_types.specs.Items.{first_fault}
use Rattle.rel_straight.specs.Rules.{IsAccepted}
use Rattle.rel_straight.specs.Stack.{IsBadStep, LeavesOpen}
use Rattle.rel_straight.specs.declared.step.Step.{Step}
use Rattle.rel_linking.specs.Form.{Parts, IsStraight}
use Rattle.rel_linking.specs.Obligation.{obligation_of}
use Rattle.rel_top.specs.ProofFile.{proof_of}
use Rattle.rel_top.specs.Report.{line, large_line, text_fault_line, type_fault_line, bundle_line, proof_line, bad_step_line, open_nodes_line, item_line, yes_line}
use Rattle.rel_top.specs.declared.status.Status.{Status}
use Rattle.rel_top.specs.declared.status.Status.TheVariants.{Yes, Refused}

-- ---- the bytes of a bundle

-- why they aren't read: they are too many, or their text has this fault
pub data Refusal : Type 0 where
  too_large : Refusal
  bad_text : TextFault → Refusal

abbrev pub IsRefused : List ℕ → Refusal → Type 0
IsRefused text too_large = 2 ^ 22 < length text
IsRefused text (bad_text f) = (length text ≤ 2 ^ 22) × (f ≢ faults.Memory) × HasFault text f

-- at most 4,194,304 bytes, which stand for this bundle within the limits
pub record IsRead (text : List ℕ) (b : Bundle) : Type 0 where
  pub short : length text ≤ 2 ^ 22
  pub stands : StandsFor text b
  pub fits : Fits b

-- their bundle isn't typed, and this is its first fault
pub record IsIllTyped (text : List ℕ) (f : Fault) : Type 0 where
  pub bundle : Bundle
  pub read : IsRead text bundle
  pub fault : first_fault bundle ≡ Some f

-- their bundle can be judged, and these are its parts
pub record IsBuilt (text : List ℕ) (k : Parts) : Type 0 where
  pub bundle : Bundle
  pub read : IsRead text bundle
  pub faultless : first_fault bundle ≡ None
  pub straight : IsStraight bundle k

-- their bundle can't be judged so far
pub record IsNotBuilt (text : List ℕ) : Type 0 where
  pub bundle : Bundle
  pub read : IsRead text bundle
  pub faultless : first_fault bundle ≡ None
  pub other : (k : Parts) → ¬ (IsStraight bundle k)

-- ---- the bytes of a proof file

-- what they come to: they aren't of the form, step n isn't good, n nodes are left open, or the derivation is accepted
pub data Outcome : Type 0 where
  no_proof : Outcome
  bad_step : ℕ → Outcome
  open_nodes : ℕ → Outcome
  accepted : Outcome

-- the bytes of a proof file say steps that have the property
pub record Says (content : List ℕ) (P : List Step → Type 0) : Type 0 where
  pub steps : List Step
  pub said : proof_of content ≡ Some steps
  pub holds : P steps

-- the bytes of a proof file come to this, for a bundle of these parts
abbrev pub HasOutcome : Parts → Outcome → List ℕ → Type 0
HasOutcome k no_proof content = proof_of content ≡ None
HasOutcome k (bad_step n) content = Says content (λ steps. IsBadStep (obligation_of k) steps n)
HasOutcome k (open_nodes n) content = Says content (λ steps. LeavesOpen (obligation_of k) steps n)
HasOutcome k accepted content = Says content (λ steps. IsAccepted (obligation_of k) steps)

-- ---- the two files

-- the bundle isn't read; or it isn't typed; or it can't be judged so far; or its parts are these and its proof file comes to this; or it is printed
pub data Verdict : Type 0 where
  refused : Refusal → Verdict
  ill_typed : Fault → Verdict
  not_built : Verdict
  judged : Parts → Outcome → Verdict
  printed : Bundle → Verdict

-- bytes that may stand there, by what is told, have the property
abbrev pub MayHold : Told → (List ℕ → Type 0) → Type 0
MayHold told P = (content : List ℕ) × IsToldAs told content × P content

-- the verdict of `check` on what is told of a bundle's file and of a proof's, which only a bundle that can be judged needs
abbrev pub IsJudgedAs : Told → Told → Verdict → Type 0
IsJudgedAs bundle proof (refused r) = MayHold bundle (λ text. IsRefused text r)
IsJudgedAs bundle proof (ill_typed f) = MayHold bundle (λ text. IsIllTyped text f)
IsJudgedAs bundle proof not_built = MayHold bundle IsNotBuilt
IsJudgedAs bundle proof (judged k o) = MayHold bundle (λ text. IsBuilt text k) × MayHold proof (λ content. HasOutcome k o content)
IsJudgedAs bundle proof (printed b) = ⊥

-- that of `show`
abbrev pub IsShownAs : Told → Verdict → Type 0
IsShownAs bundle (refused r) = MayHold bundle (λ text. IsRefused text r)
IsShownAs bundle (ill_typed f) = ⊥
IsShownAs bundle not_built = ⊥
IsShownAs bundle (judged k o) = ⊥
IsShownAs bundle (printed b) = MayHold bundle (λ text. IsRead text b)

-- ---- what words ask for

pub data Command : Type 0 where
  check : List ℕ → List ℕ → Command
  show : List ℕ → Command

abbrev pub words_of : Command → List (List ℕ)
words_of (check bundle proof) = codes "check" ∷ bundle ∷ proof ∷ []
words_of (show bundle) = codes "show" ∷ bundle ∷ []

-- the verdict on what is told of the files that a command names
abbrev pub HasVerdict : (List ℕ → Told) → Command → Verdict → Type 0
HasVerdict told (check bundle proof) v = IsJudgedAs (told bundle) (told proof) v
HasVerdict told (show bundle) v = IsShownAs (told bundle) v

-- ---- how a call ends with it, and what it prints

abbrev pub outcome_status : Outcome → Status
outcome_status no_proof = Refused
outcome_status (bad_step n) = Refused
outcome_status (open_nodes n) = Refused
outcome_status accepted = Yes

-- the lines of the items, each with the number of its obligations, and of the yes
abbrev pub yes_lines : Parts → List (List ℕ)
yes_lines k = item_line (OfUnit k.left) 0 ∷ item_line (OfUnit k.right) 0 ∷ item_line (OfJudgement k.judgement) 1 ∷ yes_line 3 1 ∷ []

abbrev pub outcome_lines : Parts → Outcome → List (List ℕ)
outcome_lines k no_proof = proof_line ∷ []
outcome_lines k (bad_step n) = bad_step_line (OfJudgement k.judgement) n ∷ []
outcome_lines k (open_nodes n) = open_nodes_line (OfJudgement k.judgement) n ∷ []
outcome_lines k accepted = yes_lines k

abbrev pub refusal_line : Refusal → List ℕ
refusal_line too_large = large_line
refusal_line (bad_text f) = text_fault_line f

abbrev pub verdict_status : Verdict → Status
verdict_status (refused r) = Refused
verdict_status (ill_typed f) = Refused
verdict_status not_built = Refused
verdict_status (judged k o) = outcome_status o
verdict_status (printed b) = Yes

abbrev pub verdict_lines : Verdict → List (List ℕ)
verdict_lines (refused r) = refusal_line r ∷ []
verdict_lines (ill_typed f) = type_fault_line f ∷ []
verdict_lines not_built = bundle_line ∷ []
verdict_lines (judged k o) = outcome_lines k o
verdict_lines (printed b) = map (λ i. line (spaced (show_item i))) b.items
