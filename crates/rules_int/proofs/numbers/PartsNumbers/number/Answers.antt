use Rattle.std.proofs.Common.{ℤ, pos, sym, ap, ◌∙◌, SFits, to_z-of_z, rules, Bor}
use Rattle.std.specs.Int.{w128}
use Rattle.std.proofs.lemmas.List.{get_or-map}
use Rattle.rel_logic.specs.declared.term.Term.{Term}
use Rattle.rel_logic.specs.Syntax.{Trm}
use Rattle.rel_logic.specs.View.{trm_of}
use Rattle.rules_int.specs.Entries.{IsPlace}
use Rattle.rules_int.specs.Forms.{entries_of}
use Rattle.rules_int.proofs.Progress.{absent}
use Rattle.rules_int.proofs.Places.{number_found, within_items}
use Rattle.rules_int.proofs.numbers.PartsNumbers.number.Goals as goal

pub returns-in-Some : goal.returns-in-Some
returns-in-Some c =
    let es = c.args.self.now.entries.items in
    let a = trm_of c.args.atom.now in
    let place : IsPlace (entries_of c.args.self.now) a c.in-Some.i = search rules in
    let fits : SFits w128 c.index.result.now.1 = search rules in
    to_z-of_z fits ∙ (ap (λ (e : Bor Term × ℤ). e.1) c.index.ensures ∙ (sym (ap (λ (e : Trm × ℤ). e.1) (get_or-map (λ (e : Bor Term × ℤ). (trm_of e.0.now, e.1)) es c.in-Some.i c.index.result.now (a, pos 0) (within_items _ es a c.in-Some.i place))) ∙ sym (number_found (entries_of c.args.self.now) a c.in-Some.i place)))

pub returns-in-None : goal.returns-in-None
returns-in-None c = sym (absent (entries_of c.args.self.now) (trm_of c.args.atom.now) (search rules))
