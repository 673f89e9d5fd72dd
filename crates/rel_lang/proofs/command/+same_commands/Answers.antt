use Rattle.std.proofs.Common.{refl, arith, rules}
use Rattle.rel_lang.proofs.Same.{plain, same_whole, same_blocks, same_if, same_while, if_parts, while_parts}
use Rattle.rel_lang.proofs.command.+same_commands.Goals as goal

pub same_commands-returns : goal.same_commands-returns
same_commands-returns t c =
    (λ _. same_blocks c.args.a.now c.args.b.now (same_whole plain _ _ c.loop-i.i (omega arith) (omega arith) c.loop-i.invariant), λ _. refl)

pub same_form-returns-in-If-matches : goal.same_form-returns-in-If-matches
same_form-returns-in-If-matches t c =
    let a = c.in-If in
    let b = c.in-If-matches in
    (λ _. same_if _ _ a.p b.q a.c a.d b.e b.f a.is b.is (search rules) (search rules) (search rules), λ _. refl)

pub same_form-returns-in_default-matches-6 : goal.same_form-returns-in_default-matches-6
same_form-returns-in_default-matches-6 t c =
    let a = c.in-If in
    let b = c.in-If-matches in
    (λ h. search rules, λ e. let parts = if_parts _ _ a.p b.q a.c a.d b.e b.f a.is b.is e in search (rules, parts.1))

pub same_form-returns-in_default-matches-6-2 : goal.same_form-returns-in_default-matches-6-2
same_form-returns-in_default-matches-6-2 t c =
    let a = c.in-If in
    let b = c.in-If-matches in
    (λ h. search rules, λ e. let parts = if_parts _ _ a.p b.q a.c a.d b.e b.f a.is b.is e in search (rules, parts.0))

pub same_form-returns-in-While-matches : goal.same_form-returns-in-While-matches
same_form-returns-in-While-matches t c =
    let a = c.in-While in
    let b = c.in-While-matches in
    (λ _. same_while _ _ a.p b.q a.i b.j a.c b.d a.is b.is (search rules) (search rules) (search rules), λ _. refl)

pub same_form-returns-in_default-matches-7 : goal.same_form-returns-in_default-matches-7
same_form-returns-in_default-matches-7 t c =
    let a = c.in-While in
    let b = c.in-While-matches in
    (λ h. search rules, λ e. let part = while_parts _ _ a.p b.q a.i b.j a.c b.d a.is b.is e in search (rules, part))
