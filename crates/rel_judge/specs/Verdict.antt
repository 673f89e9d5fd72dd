-- The verdict on the bytes of a bundle and of a proof file: each comes exactly for its cause.
use Rattle.std.specs.Prelude.{◌≡◌, ◌≢◌, ℕ, ◌<◌, ◌≤◌, List, [], ◌∷◌, length, Some, None, Ok, Err}
use Rattle.rel_lang.specs.Refusal.{Fits}
use Rattle.rel_lang.specs.Syntax.{Bundle}
use Rattle.rel_lang.specs.Text.{StandsFor}
use Rattle.rel_decls.specs.Faults.{HasFault}
use Rattle.rel_decls.specs.declared.fault.TextFault.{TextFault}
use Rattle.rel_decls.specs.declared.fault.TextFault.TheVariants as text_faults
use Rattle.rel_flaws.specs.Flaws.{Fault}
use Rattle.rel_flaws.specs.View.{kind_of}
use Rattle.rel_types.specs.Items.{first_fault}
use Rattle.rel_linking.specs.Form.{Parts, IsStraight}
use Rattle.rel_linking.specs.Obligation.{obligation_of}
use Rattle.rules_table.specs.Nodes.{Stp}
use Rattle.rel_derive.specs.Outcomes.{IsOutcome}
use Rattle.rel_derive.specs.declared.verdict.Outcome.{Outcome}
use Rattle.rel_derive.specs.declared.verdict.Outcome.TheVariants as outcomes
use Rattle.rel_proofio.specs.ProofFile.{proof_of}
use Rattle.rel_proofio.specs.declared.fault.ProofFault.{ProofFault}
use Rattle.rel_proofio.specs.declared.fault.ProofFault.TheVariants as proof_faults
use Rattle.rel_proofio.specs.declared.fault.Spot.TheVariants as spots
use Rattle.rel_report.specs.declared.verdict.Verdict.{Verdict}
use Rattle.rel_report.specs.declared.verdict.Verdict.TheVariants.{TooLargeBundle, NotUtf8, Lexical, Syntax, TooDeep, TooMany, Typing, NotBuilt, TooLargeProof, NotJson, MalformedFile, MalformedProof, MalformedStep, TooLong, ProofCount, BadStep, OpenNodes, Yes}
use Rattle.rel_judge.specs.declared.verdict.TheConstants.{BUNDLE_LIMIT, PROOF_LIMIT}

-- ---- the bytes of a bundle

-- they are few enough, and their text has this fault
pub record IsFaulty (text : List ℕ) (f : TextFault) : Type 0 where
  pub short : length text ≤ BUNDLE_LIMIT
  pub fault : HasFault text f

-- they are few enough, and stand for this bundle within the limits
pub record IsRead (text : List ℕ) (b : Bundle) : Type 0 where
  pub short : length text ≤ BUNDLE_LIMIT
  pub stands : StandsFor text b
  pub fits : Fits b

-- their bundle isn't typed, and this is its first fault
pub record IsIllTyped (text : List ℕ) (f : Fault) : Type 0 where
  pub bundle : Bundle
  pub read : IsRead text bundle
  pub fault : first_fault bundle ≡ Some f

-- their bundle is typed, and can't be judged so far
pub record IsNotBuilt (text : List ℕ) : Type 0 where
  pub bundle : Bundle
  pub read : IsRead text bundle
  pub faultless : first_fault bundle ≡ None
  pub other : (k : Parts) → ¬ (IsStraight bundle k)

-- their bundle is this one, which can be judged, with these parts
pub record IsBuilt (text : List ℕ) (b : Bundle) (k : Parts) : Type 0 where
  pub read : IsRead text b
  pub faultless : first_fault b ≡ None
  pub straight : IsStraight b k

-- The verdicts on bytes that aren't read as a bundle.
abbrev pub IsUnreadAs : List ℕ → Verdict → Type 0
IsUnreadAs text TooLargeBundle = BUNDLE_LIMIT < length text
IsUnreadAs text (NotUtf8 at) = IsFaulty text (text_faults.NotUtf8 at)
IsUnreadAs text (Lexical kind at) = IsFaulty text (text_faults.Lexical kind at)
IsUnreadAs text (Syntax at) = IsFaulty text (text_faults.Syntax at)
IsUnreadAs text (TooDeep at) = IsFaulty text (text_faults.TooDeep at)
IsUnreadAs text (TooMany at) = IsFaulty text (text_faults.TooMany at)
IsUnreadAs text v = ⊥

-- The verdicts on a bundle's bytes for which no proof file is needed.
abbrev pub IsRefusedAs : List ℕ → Verdict → Type 0
IsRefusedAs text (Typing kind at) = IsIllTyped text (record { kind = kind_of kind; at = at })
IsRefusedAs text NotBuilt = IsNotBuilt text
IsRefusedAs text v = IsUnreadAs text v

-- ---- the bytes of a proof file

-- they are few enough, and this is their first fault
pub record IsUnreadable (content : List ℕ) (f : ProofFault) : Type 0 where
  pub short : length content ≤ PROOF_LIMIT
  pub fault : proof_of content ≡ Err f

-- they are few enough, and say these derivations
pub record Says (content : List ℕ) (derivations : List (List Stp)) : Type 0 where
  pub short : length content ≤ PROOF_LIMIT
  pub said : proof_of content ≡ Ok derivations

-- they say as many derivations, where there is one obligation
pub record HasCount (content : List ℕ) (proofs obligations : ℕ) : Type 0 where
  pub derivations : List (List Stp)
  pub says : Says content derivations
  pub count : length derivations ≡ proofs
  pub one : obligations ≡ 1
  pub differ : proofs ≢ obligations

-- they say one derivation, and this is its outcome for the obligation of a bundle of these parts
pub record HasOutcome (k : Parts) (content : List ℕ) (o : Outcome) : Type 0 where
  pub steps : List Stp
  pub says : Says content (steps ∷ [])
  pub outcome : IsOutcome (obligation_of k) steps o

-- the one obligation is number 0, and stands in the third item, where the judgement begins
pub record IsInJudgement (k : Parts) (obligation item at : ℕ) : Type 0 where
  pub first : obligation ≡ 0
  pub third : item ≡ 2
  pub place : at ≡ k.judgement.at

-- The verdicts on a proof file's bytes, for a bundle of these parts.
abbrev pub IsJudgedAs : Parts → List ℕ → Verdict → Type 0
IsJudgedAs k content TooLargeProof = PROOF_LIMIT < length content
IsJudgedAs k content NotJson = IsUnreadable content proof_faults.NotJson
IsJudgedAs k content MalformedFile = IsUnreadable content (proof_faults.Malformed spots.File)
IsJudgedAs k content (MalformedProof p) = IsUnreadable content (proof_faults.Malformed (spots.Proof p))
IsJudgedAs k content (MalformedStep p s) = IsUnreadable content (proof_faults.Malformed (spots.Step p s))
IsJudgedAs k content (TooLong p) = IsUnreadable content (proof_faults.TooLong p)
IsJudgedAs k content (ProofCount proofs obligations) = HasCount content proofs obligations
IsJudgedAs k content (BadStep obligation step item at) = IsInJudgement k obligation item at × HasOutcome k content (outcomes.BadStep step)
IsJudgedAs k content (OpenNodes nodes obligation item at) = IsInJudgement k obligation item at × HasOutcome k content (outcomes.OpenNodes nodes)
IsJudgedAs k content (Yes counts) = (counts ≡ 0 ∷ 0 ∷ 1 ∷ []) × HasOutcome k content outcomes.Accepted
IsJudgedAs k content v = ⊥
