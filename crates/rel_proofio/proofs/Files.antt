-- The whole text of a proof file, and its outer object.
use Rattle.std.proofs.Common.{◌≡◌, ℕ, cond, List, [], ◌∷◌, length, None, refl, ap, ◌∙◌, arith}
use Rattle.std.proofs.lemmas.List.{length-map}
use Rattle.std.proofs.lemmas.Bool.{false_from_ne_true}
use Rattle.std.proofs.lemmas.Str.{IsUtf8-from_is_utf8, is_utf8-from_IsUtf8}
use Rattle.std.specs.Str.{IsUtf8, is_utf8}
use Rattle.std.specs.Prelude.{String}
use Rattle.std.specs.declared.alloc.Global.{Global}
use Rattle.serde_json.specs.Data.{Data}
use Rattle.serde_json.specs.Read.{read}
use Rattle.serde_json.specs.View.{members_of, members_view}
use Rattle.serde_json.specs.declared.value.Value.{Value}
use Rattle.rel_proofio.specs.ProofFile.{count_members, json_of}

count_of : (ms : List (String Global × Data)) → count_members (members_of ms) ≡ length ms
count_of [] = refl
count_of (m ∷ ms) = omega (arith, count_of ms)

pub count_view : (ms : List (String Global × Value)) → count_members (members_view ms) ≡ length ms
count_view ms = count_of _ ∙ length-map ms _

pub json_of_text : (bs : List ℕ) → IsUtf8 bs → json_of bs ≡ read bs
json_of_text bs u = ap (λ t. cond t (read bs) None) (is_utf8-from_IsUtf8 bs u)

pub json_of_refused : (bs : List ℕ) → ¬ (IsUtf8 bs) → json_of bs ≡ None
json_of_refused bs wrong =
    ap (λ t. cond t (read bs) None) (false_from_ne_true (is_utf8 bs) (λ t. wrong (IsUtf8-from_is_utf8 bs t)))
