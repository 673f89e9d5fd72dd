-- What the parts of a judgement say, each under a word of its own.
use Rattle.std.specs.Prelude.{◌≡◌, ℕ, ◌<◌, ◌^◌, List, length}
use Rattle.rel_lang.specs.Syntax.{Bundle}
use Rattle.rel_decls.specs.declared.fault.TextFault.{TextFault}
use Rattle.rel_linking.specs.Form.{Parts, IsStraight}
use Rattle.rel_linking.specs.Scope.{IsObligationOf}
use Rattle.rel_logic.specs.declared.sequent.Sequent.{Sequent}
use Rattle.rules_table.specs.Nodes.{Stp}
use Rattle.rel_derive.specs.declared.verdict.Outcome.{Outcome}
use Rattle.rel_proofio.specs.declared.fault.ProofFault.{ProofFault}
use Rattle.rel_report.specs.declared.verdict.Verdict.{Verdict}
use Rattle.rel_judge.specs.Verdict.{IsFaulty, IsRead, IsBuilt, IsUnreadAs, IsRefusedAs, IsUnreadable, Says, HasOutcome, IsJudgedAs}
use Rattle.rel_judge.specs.declared.verdict.Stop.{Stop}
use Rattle.rel_judge.specs.declared.verdict.Stop.TheVariants as stops

-- a judgement ended early, with a verdict of this kind or without memory
abbrev pub StopsWith : (Verdict → Type 0) → Stop → Type 0
StopsWith P (stops.Refused v) = P v
StopsWith P stops.Memory = Unit {0}

-- the verdict on every text that has this fault
unfoldable pub IsVerdictOn : TextFault → Verdict → Type 0
IsVerdictOn f v = (text : List ℕ) → IsFaulty text f → IsUnreadAs text v

-- the verdict on every text that is read as this bundle
unfoldable pub Refuses : Bundle → Verdict → Type 0
Refuses b v = (text : List ℕ) → IsRead text b → IsRefusedAs text v

-- the sequent is the obligation of the bundle, which can be judged
unfoldable pub IsObligation : Bundle → Sequent → Type 0
IsObligation b q = IsObligationOf b q

-- the text is read as this bundle, which can be judged
unfoldable pub IsReadyFor : List ℕ → Bundle → Type 0
IsReadyFor text b = (k : Parts) × IsBuilt text b k

-- the verdict on every proof file that has this fault
unfoldable pub IsVerdictOnProof : ProofFault → Verdict → Type 0
IsVerdictOnProof f v = (k : Parts) (content : List ℕ) → IsUnreadable content f → IsJudgedAs k content v

-- few enough steps for numbers of 32 bits
abbrev pub IsShort : {A : Type 0} → List A → Type 0
IsShort steps = length steps < 2 ^ 32

-- the verdict on every proof file that says these derivations, for the bundle
unfoldable pub IsVerdictOnDerivations : Bundle → List (List Stp) → Verdict → Type 0
IsVerdictOnDerivations b derivations v = (k : Parts) (content : List ℕ) → IsStraight b k → Says content derivations → IsJudgedAs k content v

-- the judgement of a bundle that can be judged begins at this byte
unfoldable pub IsPlace : Bundle → ℕ → Type 0
IsPlace b at = (k : Parts) → IsStraight b k → at ≡ k.judgement.at

-- the verdict on every proof file whose one derivation has this outcome, for the bundle
unfoldable pub IsVerdictOnOutcome : Bundle → Outcome → Verdict → Type 0
IsVerdictOnOutcome b o v = (k : Parts) (content : List ℕ) → IsStraight b k → HasOutcome k content o → IsJudgedAs k content v

-- the verdict on the proof file's bytes, for the bundle
unfoldable pub IsVerdictOnProofFile : Bundle → List ℕ → Verdict → Type 0
IsVerdictOnProofFile b content v = (k : Parts) → IsStraight b k → IsJudgedAs k content v
