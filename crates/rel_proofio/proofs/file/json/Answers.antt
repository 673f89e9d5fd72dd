-- A text that is no UTF-8 has no value, and another has the value that the reader gives.
use Rattle.std.proofs.Common.{◌∙◌, sym, ap, ok_or}
use Rattle.serde_json.specs.Read.{read}
use Rattle.rel_proofio.specs.declared.fault.ProofFault.TheVariants.{NotJson}
use Rattle.rel_proofio.proofs.Files.{json_of_text, json_of_refused}
use Rattle.rel_proofio.proofs.file.json.Goals as goal

pub returns-in_default-clause-not_json : goal.returns-in_default-clause-not_json
returns-in_default-clause-not_json c = λ _. ap (λ o. ok_or o NotJson) (json_of_refused c.args.bytes.now c.in_default.ensures.cases.0)

pub returns-in-Ok-from_str-clause-ok : goal.returns-in-Ok-from_str-clause-ok
returns-in-Ok-from_str-clause-ok c =
    json_of_text c.args.bytes.now c.in-Ok.ensures.cases.1
    ∙ (ap read (sym c.in-Ok.ensures.cases.0) ∙ c.in-Ok-from_str.ensures.ok)
