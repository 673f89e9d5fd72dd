use Rattle.std.proofs.Common.{◌≡◌, ◌∷◌, ◌+◌, ◌<◌, ◌≤◌, get_or, drop, ℤ, length, sym, ap, subst, ◌∙◌, SFits, to_z-of_z, rules, Bor}
use Rattle.std.specs.Int.{w128}
use Rattle.rel_logic.specs.declared.term.Term.{Term}
use Rattle.rel_logic.specs.View.{trm_of}
use Rattle.rules_int.specs.Entries.{Entries}
use Rattle.rules_int.specs.Forms.{entries_of, join, CanJoin}
use Rattle.rules_int.proofs.Progress.{Progress, begins, stops, goes_on, ends}
use Rattle.rules_int.proofs.Places.{left_over, nothing_left}
use Rattle.rules_int.proofs.join.join_all.Goals as goal

pub loop-entry-init : goal.loop-entry-init
loop-entry-init g c = begins c.args.how (g.N.Numbers.at c.args.numbers.now) (entries_of c.args.other.now) c.args.other.now.distinct c.requires

pub returns-in-None : goal.returns-in-None
returns-in-None g c =
    let i = c.loop-entry.entry-index in
    let items = c.args.other.now.entries.items in
    let es = entries_of c.args.other.now in
    let at : c.entry-item.result ≡ get_or items i c.entry-item.result = c.entry-item.is ∙ ap (λ xs. get_or xs i c.entry-item.result) c.deref-entry-items.ensures.value in
    let within : i < length items = subst (λ xs. i < length xs) c.deref-entry-items.ensures.value c.loop-entry-test.true in
    let rest = left_over (λ (e : Bor Term × ℤ). (trm_of e.0.now, e.1)) items i c.entry-item.result within ∙ ap (λ (e : Bor Term × ℤ). (trm_of e.0.now, e.1) ∷ drop (i + 1) es) (sym at) in
    let p = subst (λ (rest : Entries). Progress c.args.how (g.N.Numbers.at c.args.numbers.now) (g.N.Numbers.at c.loop-entry.numbers) es rest) rest c.loop-entry.invariant in
    let f : SFits w128 c.number.result = search rules in
    let h : SFits w128 c.entry-item.result.1 = search rules in
    let cannot = simp to_z-of_z at c.in-None.ensures in
    stops c.args.how _ _ _ (trm_of c.entry-item.result.0.now) c.entry-item.result.1 _ p (subst (λ x. ¬ (CanJoin c.args.how x c.entry-item.result.1)) c.number.ensures cannot)

pub loop-entry-preserved : goal.loop-entry-preserved
loop-entry-preserved g c =
    let i = c.loop-entry.entry-index in
    let items = c.args.other.now.entries.items in
    let es = entries_of c.args.other.now in
    let at : c.entry-item.result ≡ get_or items i c.entry-item.result = c.entry-item.is ∙ ap (λ xs. get_or xs i c.entry-item.result) c.deref-entry-items.ensures.value in
    let within : i < length items = subst (λ xs. i < length xs) c.deref-entry-items.ensures.value c.loop-entry-test.true in
    let rest = left_over (λ (e : Bor Term × ℤ). (trm_of e.0.now, e.1)) items i c.entry-item.result within ∙ ap (λ (e : Bor Term × ℤ). (trm_of e.0.now, e.1) ∷ drop (i + 1) es) (sym at) in
    let p = subst (λ (rest : Entries). Progress c.args.how (g.N.Numbers.at c.args.numbers.now) (g.N.Numbers.at c.loop-entry.numbers) es rest) rest c.loop-entry.invariant in
    let f : SFits w128 c.number.result = search rules in
    let h : SFits w128 c.entry-item.result.1 = search rules in
    let k : SFits w128 c.in-Some.z = search rules in
    let made = simp to_z-of_z at c.in-Some.ensures in
    let put = simp to_z-of_z at c.in_ok-put-in-Some.ensures in
    goes_on c.args.how _ _ _ (trm_of c.entry-item.result.0.now) c.entry-item.result.1 _ p (g.N.Numbers.at c.put.new.self) c.in-Some.z put
    (made.0 ∙ ap (λ x. join c.args.how x c.entry-item.result.1) c.number.ensures)
    (subst (λ x. CanJoin c.args.how x c.entry-item.result.1) c.number.ensures made.1)

pub returns : goal.returns
returns g c =
    let items = c.args.other.now.entries.items in
    let past = subst (λ xs. length xs ≤ c.loop-entry.entry-index) c.deref-entry-items.ensures.value c.loop-entry-test.false in
    let rest = nothing_left (λ (e : Bor Term × ℤ). (trm_of e.0.now, e.1)) items c.loop-entry.entry-index past in
    ends c.args.how _ _ _ (subst (λ (rest : Entries). Progress c.args.how (g.N.Numbers.at c.args.numbers.now) (g.N.Numbers.at c.loop-entry.numbers) (entries_of c.args.other.now) rest) rest c.loop-entry.invariant)
