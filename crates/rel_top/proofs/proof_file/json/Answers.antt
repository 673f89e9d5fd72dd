-- A text that is no UTF-8 has no value, and another has the value that the reader gives.
use Rattle.std.proofs.Common.{◌∙◌, sym, ap, arith}
use Rattle.serde_json.specs.Read.{read}
use Rattle.rel_top.proofs.ProofFiles.{json_of_text, json_of_refused}
use Rattle.rel_top.proofs.proof_file.json.Goals as goal

pub returns-in_default-clause-not_built : goal.returns-in_default-clause-not_built
returns-in_default-clause-not_built c = λ _. json_of_refused c.args.bytes.now c.in_default.ensures.cases.0

pub returns-in-Ok-from_str-clause-ok : goal.returns-in-Ok-from_str-clause-ok
returns-in-Ok-from_str-clause-ok c =
    json_of_text c.args.bytes.now (omega arith) c.in-Ok.ensures.cases.1
    ∙ (ap read (sym c.in-Ok.ensures.cases.0) ∙ c.in-Ok-from_str.ensures.ok)
