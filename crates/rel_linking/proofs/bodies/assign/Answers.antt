use Rattle.std.proofs.Common.{◌≡◌, ◌≤◌, length, map, sym, ap, ◌∙◌, arith}
use Rattle.rel_logic.specs.View.{trm_of}
use Rattle.rel_encode.specs.Places.{place_named}
use Rattle.rel_linking.proofs.Assigned.{put_at, put_far, put_nowhere}
use Rattle.rel_linking.proofs.bodies.assign.Goals as goal

pub returns-then-k-len : goal.returns-then-k-len
returns-then-k-len c =
    let st = c.args.store.now in
    put_at c.args.x.now c.args.n c.args.variables.now.items.now st.vars (map trm_of st.maps) (trm_of st.alloc) c.in-Some.k c.put.new.list
    (sym c.in-Some.is ∙ c.place.ensures ∙ ap (λ y. place_named (λ d. d.name) y c.args.variables.now.items.now) c.as_str.ensures) c.put.ensures

pub returns-else-k-len : goal.returns-else-k-len
returns-else-k-len c =
    let st = c.args.store.now in
    let far : length st.vars ≤ c.in-Some.k = omega arith in
    put_far c.args.x.now c.args.n c.args.variables.now.items.now st.vars (map trm_of st.maps) (trm_of st.alloc) c.in-Some.k
    (sym c.in-Some.is ∙ c.place.ensures ∙ ap (λ y. place_named (λ d. d.name) y c.args.variables.now.items.now) c.as_str.ensures) far

pub returns-in-None : goal.returns-in-None
returns-in-None c =
    let st = c.args.store.now in
    put_nowhere c.args.x.now c.args.n c.args.variables.now.items.now st.vars (map trm_of st.maps) (trm_of st.alloc)
    (sym c.in-None.is ∙ c.place.ensures ∙ ap (λ y. place_named (λ d. d.name) y c.args.variables.now.items.now) c.as_str.ensures)
