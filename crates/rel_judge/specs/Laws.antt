-- The law of verdicts, which a function of `laws` proves.
use Rattle.std.specs.Prelude.{◌≡◌, ℕ, List}
use Rattle.rel_lang.specs.Syntax.{Bundle}
use Rattle.rel_linking.specs.Form.{Parts}
use Rattle.rel_report.specs.declared.verdict.Verdict.{Verdict}
use Rattle.rel_judge.specs.Verdict.{IsRead, IsBuilt, IsUnreadAs, IsRefusedAs, IsJudgedAs}

-- A text that isn't read as a bundle, or is refused as one, has one verdict, and can't be judged by a proof file as well. A proof
-- file has one verdict for a bundle.
pub record VerdictsAreUnique : Type 0 where
  pub unread : (text : List ℕ) (v w : Verdict) → IsUnreadAs text v → IsUnreadAs text w → v ≡ w
  pub unread_or_read : (text : List ℕ) (v : Verdict) (b : Bundle) → IsUnreadAs text v → ¬ (IsRead text b)
  pub refused : (text : List ℕ) (v w : Verdict) → IsRefusedAs text v → IsRefusedAs text w → v ≡ w
  pub refused_or_built : (text : List ℕ) (v : Verdict) (b : Bundle) (k : Parts) → IsRefusedAs text v → ¬ (IsBuilt text b k)
  pub judged : (k : Parts) (content : List ℕ) (v w : Verdict) → IsJudgedAs k content v → IsJudgedAs k content w → v ≡ w
