use Rattle.std.proofs.Common.{map, option_map, sym, ap, ◌∙◌}
use Rattle.rel_lang.specs.Lookup.{find_module}
use Rattle.rel_lang.specs.View.{pair_of}
use Rattle.rel_flaws.specs.Flaws.{fault_at, either}
use Rattle.rel_flaws.specs.View.{flaws_of, fault_of, pass_of}
use Rattle.rel_types.specs.Items.{interface_of_module}
use Rattle.rel_types.specs.ModuleView.{flaws_of_modules, inside_fault_of}
use Rattle.rel_types.proofs.Both.{some_first, none_first}
use Rattle.rel_types.proofs.InModules.{found_module, unwrapped, names_kept}
use Rattle.rel_types.proofs.pairs.pair_fault.Goals as goal

pub returns-in-Some : goal.returns-in-Some
returns-in-Some c b known =
    let pass = pass_of c.args.pass in
    let p = pair_of c.args.pair.now in
    let m = find_module b p.left in
    let n = find_module b p.right in
    let i = interface_of_module b m in
    let left = found_module b c.args.known.now known p.left c.as_str.result.now _ c.as_str.ensures c.find-left.ensures in
    let right = found_module b c.args.known.now known p.right c.as_str-2.result.now _ c.as_str-2.ensures c.find-right.ensures in
    some_first _ (fault_at pass p.at (either (flaws_of c.args.more) (flaws_of_modules i m n (map (λ a. a.1) p.methods)))) (inside_fault_of b pass i m n p) (sym (ap (option_map fault_of) c.in-Some.is) ∙ c.fault.ensures
    ∙ ap (fault_at pass p.at) (c.either-flaws.ensures
    ∙ ap (either (flaws_of c.args.more)) (c.flaws_of_pair.ensures i m n (c.interface_of-interface.ensures b m known left) left right
    ∙ sym (ap (flaws_of_modules i m n) (names_kept c.args.pair.now.methods)))))

pub returns : goal.returns
returns c b known =
    let pass = pass_of c.args.pass in
    let p = pair_of c.args.pair.now in
    let m = find_module b p.left in
    let n = find_module b p.right in
    let i = interface_of_module b m in
    let left = found_module b c.args.known.now known p.left c.as_str.result.now _ c.as_str.ensures c.find-left.ensures in
    let right = found_module b c.args.known.now known p.right c.as_str-2.result.now _ c.as_str-2.ensures c.find-right.ensures in
    let interface = c.interface_of-interface.ensures b m known left in
    none_first _ (fault_at pass p.at (either (flaws_of c.args.more) (flaws_of_modules i m n (map (λ a. a.1) p.methods)))) (inside_fault_of b pass i m n p) (sym (ap (option_map fault_of) c.in-None.is) ∙ c.fault.ensures
    ∙ ap (fault_at pass p.at) (c.either-flaws.ensures
    ∙ ap (either (flaws_of c.args.more)) (c.flaws_of_pair.ensures i m n interface left right ∙ sym (ap (flaws_of_modules i m n) (names_kept c.args.pair.now.methods)))))
    (c.in_ok-fault-in-None.ensures b i m n (record {
      known = known;
      interface = unwrapped i c.interface_of-interface.result _ _ c.unwrap_or.ensures c.no_interface-none.ensures interface;
      left = left;
      right = right;
    }))
