use Rattle.std.proofs.Common.{◌≡◌, ◌+◌, ◌<◌, ◌≤◌, get_or, take, ℤ, ◌*ℤ◌, true, length, refl, sym, ap, subst, ◌∙◌, SFits, to_z-of_z, rules, Bor}
use Rattle.std.specs.Int.{w128}
use Rattle.rel_logic.specs.declared.term.Term.{Term}
use Rattle.rel_logic.specs.View.{trm_of}
use Rattle.rules_int.specs.Forms.{entries_of, parts_at, AreMultiplesAt}
use Rattle.rules_int.specs.Entries.{has_atom}
use Rattle.rules_int.proofs.Multiples.{compared_more, compared_all, has_entry}
use Rattle.rules_int.proofs.numbers.are_multiples_at.Goals as goal

pub returns-then-not-is_multiple : goal.returns-then-not-is_multiple
returns-then-not-is_multiple g c =
    let i = c.loop-entry.entry-index in
    let items = c.args.parts.now.entries.items in
    let at : c.entry-item.result ≡ get_or items i c.entry-item.result = c.entry-item.is ∙ ap (λ xs. get_or xs i c.entry-item.result) c.deref-entry-items.ensures.value in
    let within : i < length items = subst (λ xs. i < length xs) c.deref-entry-items.ensures.value c.loop-entry-test.true in
    let has = subst (λ (e : Bor Term × ℤ). has_atom (entries_of c.args.parts.now) (trm_of e.0.now) ≡ true) (sym at) (has_entry (λ (e : Bor Term × ℤ). (trm_of e.0.now, e.1)) items i c.entry-item.result within) in
    let k : SFits w128 c.args.k = c.ranges.k in
    let f : SFits w128 c.number.result = search rules in
    let h : SFits w128 c.number-in-loop-entry.result = search rules in
    let isnt = simp to_z-of_z at c.is_multiple.ensures in
    (λ e. cc, λ all. let yes = isnt.1 (c.number.ensures ∙ (all (trm_of c.entry-item.result.0.now) has ∙ ap (λ z. c.args.k *ℤ z) (sym c.number-in-loop-entry.ensures))) in cc)

pub loop-entry-preserved : goal.loop-entry-preserved
loop-entry-preserved g c =
    let i = c.loop-entry.entry-index in
    let items = c.args.parts.now.entries.items in
    let at : c.entry-item.result ≡ get_or items i c.entry-item.result = c.entry-item.is ∙ ap (λ xs. get_or xs i c.entry-item.result) c.deref-entry-items.ensures.value in
    let within : i < length items = subst (λ xs. i < length xs) c.deref-entry-items.ensures.value c.loop-entry-test.true in
    let k : SFits w128 c.args.k = c.ranges.k in
    let f : SFits w128 c.number.result = search rules in
    let h : SFits w128 c.number-in-loop-entry.result = search rules in
    let is = simp to_z-of_z at c.is_multiple.ensures in
    let same = sym c.number.ensures ∙ (is.0 c.if-not-is_multiple.false ∙ ap (λ z. c.args.k *ℤ z) c.number-in-loop-entry.ensures) in
    let so_far = simp to_z-of_z at c.loop-entry.invariant in
    subst (λ k. AreMultiplesAt (take (i + 1) (entries_of c.args.parts.now)) k (g.N.Numbers.at c.args.numbers.now) (parts_at c.args.other.now)) (sym (to_z-of_z c.ranges.k))
    (compared_more (λ (e : Bor Term × ℤ). (trm_of e.0.now, e.1)) items i c.entry-item.result c.args.k (g.N.Numbers.at c.args.numbers.now) (parts_at c.args.other.now) within so_far
    (subst (λ (e : Bor Term × ℤ). g.N.Numbers.at c.args.numbers.now (trm_of e.0.now) ≡ c.args.k *ℤ parts_at c.args.other.now (trm_of e.0.now)) at same))

pub returns : goal.returns
returns g c =
    let items = c.args.parts.now.entries.items in
    let past = subst (λ xs. length xs ≤ c.loop-entry.entry-index) c.deref-entry-items.ensures.value c.loop-entry-test.false in
    let k : SFits w128 c.args.k = c.ranges.k in
    let so_far = simp to_z-of_z at c.loop-entry.invariant in
    (λ e. compared_all (λ (e : Bor Term × ℤ). (trm_of e.0.now, e.1)) items c.loop-entry.entry-index c.args.k (g.N.Numbers.at c.args.numbers.now) (parts_at c.args.other.now) past so_far, λ all. refl)
