use Rattle.std.proofs.Common.{map, option_map, sym, ap, refl, ◌∙◌}
use Rattle.rel_lang.specs.Lookup.{find_method}
use Rattle.rel_lang.specs.View.{decl_of}
use Rattle.rel_flaws.specs.CodeView.{callee_of}
use Rattle.rel_flaws.proofs.Callees.{found_callee}
use Rattle.rel_types.specs.Items.{methods_of_interface}
use Rattle.rel_types.proofs.InModules.{signed, own_of_some, own_of_none}
use Rattle.rel_types.proofs.given.own_of_method.Goals as goal

pub returns-in-Some : goal.returns-in-Some
returns-in-Some c i m given =
    let x = c.args.name.now in
    let methods = methods_of_interface i in
    own_of_some i m (map decl_of c.args.locals.now) (find_method x methods) (callee_of x c.in-Some.method) _
    (sym (ap (option_map (callee_of x)) (sym c.get.ensures ∙ c.in-Some.is)) ∙ found_callee x c.args.interface.now.methods ∙ given.methods x ∙ signed x methods) refl refl refl

pub returns-in-None : goal.returns-in-None
returns-in-None c i m given =
    let x = c.args.name.now in
    let methods = methods_of_interface i in
    own_of_none i m (map decl_of c.args.locals.now) (find_method x methods) _
    (sym (ap (option_map (callee_of x)) (sym c.get.ensures ∙ c.in-None.is)) ∙ found_callee x c.args.interface.now.methods ∙ given.methods x ∙ signed x methods) refl refl refl
