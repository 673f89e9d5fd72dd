-- What the answers of the parts of `check` and `show` say, each under a word of its own.
use Rattle.std.specs.Prelude.{◌≡◌, ◌⊎◌, ℕ, List, Option, Some, None}
use Rattle.rel_io.specs.Told.{Told}
use Rattle.rel_lang.specs.Syntax.{Bundle}
use Rattle.rel_lang.specs.TrueBundle.{IsTrueBundle}
use Rattle.rel_flaws.specs.Flaws.{Fault}
use Rattle.rel_types.specs.Items.{first_fault}
use Rattle.rel_straight.specs.declared.step.Step.{Step}
use Rattle.rel_logic.specs.declared.sequent.Sequent.{Sequent}
use Rattle.rel_linking.specs.Form.{Parts, IsStraight}
use Rattle.rel_linking.specs.Scope.{IsObligationOf, IsAnswer}
use Rattle.rel_top.specs.declared.check.Answer.{Answer}
use Rattle.rel_top.specs.declared.status.Status.{Status}
use Rattle.rel_top.specs.declared.status.Status.TheVariants.{Yes, OutputFault}
use Rattle.rel_top.specs.Ending.{Words, Reply, unread, answer, HasReply, status_of, lines_of, Output, IsPrinted, IsCutOff}
use Rattle.rel_top.specs.Headline.{IsYes}
use Rattle.rel_top.specs.ProofFile.{proof_of}
use Rattle.rel_top.specs.Verdict.{Refusal, IsRefused, IsRead, Outcome, accepted, HasOutcome, refused, ill_typed, not_built, judged, printed, MayHold}

-- the answer that this reply is
abbrev pub answer_of : Reply → Answer
answer_of r = record { status = status_of r; lines = lines_of r }

-- of a bundle of these parts, whatever they are
unfoldable pub OfParts : Bundle → (Parts → Reply) → Answer → Type 0
OfParts b reply a = (k : Parts) → IsStraight b k → a ≡ answer_of (reply k)

-- the sequent is the obligation of a bundle that can be judged
unfoldable pub IsObligation : Bundle → Sequent → Type 0
IsObligation b q = IsObligationOf b q

-- the obligation of the bundle, or none where it can't be judged
unfoldable pub IsFound : Bundle → Option Sequent → Type 0
IsFound b o = IsAnswer b o

-- the answer is an outcome of a proof file's bytes, and where they are accepted the bundle of the parts is true
pub record IsOutcomeAnswer (b : Bundle) (k : Parts) (content : List ℕ) (a : Answer) : Type 0 where
  pub outcome : Outcome
  pub has : HasOutcome k outcome content
  pub enough : outcome ≡ accepted → IsTrueBundle b
  pub is : a ≡ answer_of (answer (judged k outcome))

-- of these steps
unfoldable pub IsStepsAnswer : Bundle → List Step → Answer → Type 0
IsStepsAnswer b steps a = (k : Parts) → IsStraight b k → (content : List ℕ) → proof_of content ≡ Some steps → IsOutcomeAnswer b k content a

-- of a proof file's bytes
unfoldable pub IsProofAnswer : Bundle → List ℕ → Answer → Type 0
IsProofAnswer b content a = (k : Parts) → IsStraight b k → IsOutcomeAnswer b k content a

-- of a bundle that can be judged, by the proof file under the name
unfoldable pub IsJudgedAnswer : Bundle → (List ℕ → Told) → (List ℕ → Type 0) → List ℕ → Answer → Type 0
IsJudgedAnswer b told Failed proof a = (Failed proof × (a ≡ answer_of (unread proof))) ⊎ MayHold (told proof) (λ content. IsProofAnswer b content a)

-- of a bundle without a fault
unfoldable pub IsTypedAnswer : Bundle → (List ℕ → Told) → (List ℕ → Type 0) → List ℕ → Answer → Type 0
IsTypedAnswer b told Failed proof a =
    (((k : Parts) → ¬ (IsStraight b k)) × (a ≡ answer_of (answer not_built)))
    ⊎ ((k : Parts) × IsStraight b k × IsJudgedAnswer b told Failed proof a)

-- of a bundle
unfoldable pub IsBundleAnswer : Bundle → (List ℕ → Told) → (List ℕ → Type 0) → List ℕ → Answer → Type 0
IsBundleAnswer b told Failed proof a =
    ((f : Fault) × (first_fault b ≡ Some f) × (a ≡ answer_of (answer (ill_typed f))))
    ⊎ ((first_fault b ≡ None) × IsTypedAnswer b told Failed proof a)

-- of a text
unfoldable pub IsTextAnswer : List ℕ → (List ℕ → Told) → (List ℕ → Type 0) → List ℕ → Answer → Type 0
IsTextAnswer text told Failed proof a =
    ((r : Refusal) × IsRefused text r × (a ≡ answer_of (answer (refused r))))
    ⊎ ((b : Bundle) × IsRead text b × IsBundleAnswer b told Failed proof a)

-- of the two files under the names
unfoldable pub IsCheckAnswer : (List ℕ → Told) → (List ℕ → Type 0) → List ℕ → List ℕ → Answer → Type 0
IsCheckAnswer told Failed bundle proof a = (Failed bundle × (a ≡ answer_of (unread bundle))) ⊎ MayHold (told bundle) (λ text. IsTextAnswer text told Failed proof a)

-- of a text that is to be printed
unfoldable pub IsPrintAnswer : List ℕ → Answer → Type 0
IsPrintAnswer text a =
    ((r : Refusal) × IsRefused text r × (a ≡ answer_of (answer (refused r))))
    ⊎ ((b : Bundle) × IsRead text b × (a ≡ answer_of (answer (printed b))))

-- of the file under the name
unfoldable pub IsShowAnswer : (List ℕ → Told) → (List ℕ → Type 0) → List ℕ → Answer → Type 0
IsShowAnswer told Failed bundle a = (Failed bundle × (a ≡ answer_of (unread bundle))) ⊎ MayHold (told bundle) (λ text. IsPrintAnswer text a)

-- The answer is a reply that comes where it may, and a yes means what it says.
pub record IsReply (told : List ℕ → Told) (Failed : List ℕ → Type 0) (words : Words) (a : Answer) : Type 0 where
  pub reply : Reply
  pub has : HasReply told Failed words reply
  pub is : a ≡ answer_of reply
  pub true : a.status ≡ Yes → IsYes told words

-- of the words
unfoldable pub IsWordsAnswer : (List ℕ → Told) → (List ℕ → Type 0) → Words → Answer → Type 0
IsWordsAnswer told Failed words a = IsReply told Failed words a

-- all lines of the answer were printed, or a put failed
unfoldable pub IsPrintedAs : Output → Answer → Status → Type 0
IsPrintedAs out a status = ((status ≡ a.status) × IsPrinted out a.lines) ⊎ ((status ≡ OutputFault) × IsCutOff out a.lines)
