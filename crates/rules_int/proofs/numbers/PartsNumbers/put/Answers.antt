use Rattle.std.proofs.Common.{◌≡◌, ℤ, true, if◌then◌else◌, set, map, sym, ap, subst, ◌∙◌, to_z-of_z, rules, Bor, is_ok}
use Rattle.std.proofs.lemmas.List.{map-set}
use Rattle.rel_logic.specs.declared.term.Term.{Term}
use Rattle.rel_logic.specs.Equal.{same_trm}
use Rattle.rel_logic.specs.View.{trm_of}
use Rattle.rules_int.specs.Entries.{number_at, are_distinct, IsPlace}
use Rattle.rules_int.specs.Forms.{entries_of}
use Rattle.rules_int.proofs.Places.{put_found, distinct_found, put_after, distinct_after}
use Rattle.rules_int.proofs.numbers.PartsNumbers.put.Goals as goal

pub invariant_of-self : goal.invariant_of-self
invariant_of-self c =
    let a = trm_of c.args.atom.now in
    let es = entries_of c.args.self.now in
    let place : IsPlace es a c.in-Some.i = search rules in
    record {
      distinct = subst (λ z. are_distinct (map (λ (e : Bor Term × ℤ). (trm_of e.0.now, e.1)) (set c.args.self.now.entries.items c.in-Some.i (c.args.atom, z))) ≡ true) (sym (to_z-of_z c.ranges.number))
          (ap are_distinct (map-set (λ (e : Bor Term × ℤ). (trm_of e.0.now, e.1)) c.args.self.now.entries.items c.in-Some.i (c.args.atom, c.args.number)) ∙ distinct_found es a c.in-Some.i c.args.number place c.args.self.now.distinct);
    }

pub invariant_of-self-in-None : goal.invariant_of-self-in-None
invariant_of-self-in-None c = record {
  distinct = distinct_after (λ (e : Bor Term × ℤ). (trm_of e.0.now, e.1)) (is_ok c.push.result) c.push.new.self.items c.args.self.now.entries.items _ c.push.ensures.items (c.in-None.ensures) c.args.self.now.distinct;
}

pub returns-in-Some : goal.returns-in-Some
returns-in-Some c b =
    let a = trm_of c.args.atom.now in
    let es = entries_of c.args.self.now in
    let place : IsPlace es a c.in-Some.i = search rules in
    subst (λ z. number_at (map (λ (e : Bor Term × ℤ). (trm_of e.0.now, e.1)) (set c.args.self.now.entries.items c.in-Some.i (c.args.atom, z))) b ≡ (if same_trm a b then c.args.number else number_at es b)) (sym (to_z-of_z c.ranges.number))
    (ap (λ es. number_at es b) (map-set (λ (e : Bor Term × ℤ). (trm_of e.0.now, e.1)) c.args.self.now.entries.items c.in-Some.i (c.args.atom, c.args.number)) ∙ put_found es a c.in-Some.i c.args.number place b)

pub returns-in_ok-push-in-None : goal.returns-in_ok-push-in-None
returns-in_ok-push-in-None c b =
    put_after (λ (e : Bor Term × ℤ). (trm_of e.0.now, e.1)) c.push.new.self.items c.args.self.now.entries.items _ c.in_ok-push-in-None.ensures.items c.in-None.ensures b
    ∙ ap (λ z. if same_trm (trm_of c.args.atom.now) b then z else number_at (entries_of c.args.self.now) b) (to_z-of_z c.ranges.number)
