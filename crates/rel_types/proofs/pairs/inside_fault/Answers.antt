use Rattle.std.proofs.Common.{option_map, sym, ap, ◌∙◌}
use Rattle.rel_lang.specs.State.{find_variable}
use Rattle.rel_flaws.specs.View.{fault_of}
use Rattle.rel_types.specs.Items.{globals_of_side}
use Rattle.rel_types.specs.Lookups.{without_owner}
use Rattle.rel_types.specs.OwnView.{setting_of}
use Rattle.rel_types.proofs.Both.{some_first, none_first}
use Rattle.rel_types.proofs.InModules.{side_globals}
use Rattle.rel_types.proofs.pairs.inside_fault.Goals as goal

pub returns-in-Some : goal.returns-in-Some
returns-in-Some c b i m n k =
    let left = c.init_in-left.ensures i m k.interface k.left in
    let right = c.init_in-right.ensures i n k.interface k.right in
    some_first _ _ _ (sym (ap (option_map fault_of) c.in-Some.is) ∙ c.in_ok-fault.ensures b (globals_of_side i m) (globals_of_side i n) k.known
    (λ x. ap (λ sc. option_map without_owner (find_variable x sc)) c.alone-globals.ensures
    ∙ side_globals i m (setting_of c.init_in-left.result.around.globals c.init_in-left.result.own) left.setting x)
    (λ x. ap (λ sc. option_map without_owner (find_variable x sc)) c.alone-others.ensures
    ∙ side_globals i n (setting_of c.init_in-right.result.around.globals c.init_in-right.result.own) right.setting x))

pub returns-in-Some-2 : goal.returns-in-Some-2
returns-in-Some-2 c b i m n k =
    let left = c.init_in-left.ensures i m k.interface k.left in
    let right = c.init_in-right.ensures i n k.interface k.right in
    none_first _ _ _ (sym (ap (option_map fault_of) c.in-None.is) ∙ c.in_ok-fault.ensures b (globals_of_side i m) (globals_of_side i n) k.known
    (λ x. ap (λ sc. option_map without_owner (find_variable x sc)) c.alone-globals.ensures
    ∙ side_globals i m (setting_of c.init_in-left.result.around.globals c.init_in-left.result.own) left.setting x)
    (λ x. ap (λ sc. option_map without_owner (find_variable x sc)) c.alone-others.ensures
    ∙ side_globals i n (setting_of c.init_in-right.result.around.globals c.init_in-right.result.own) right.setting x))
    (some_first _ _ _ (sym (ap (option_map fault_of) c.in-Some-2.is) ∙ c.in_ok-fault-in-None.ensures b i _ _ k.known left right))

pub returns-in_ok-fault-in-None-2 : goal.returns-in_ok-fault-in-None-2
returns-in_ok-fault-in-None-2 c b i m n k =
    let left = c.init_in-left.ensures i m k.interface k.left in
    let right = c.init_in-right.ensures i n k.interface k.right in
    none_first _ _ _ (sym (ap (option_map fault_of) c.in-None.is) ∙ c.in_ok-fault.ensures b (globals_of_side i m) (globals_of_side i n) k.known
    (λ x. ap (λ sc. option_map without_owner (find_variable x sc)) c.alone-globals.ensures
    ∙ side_globals i m (setting_of c.init_in-left.result.around.globals c.init_in-left.result.own) left.setting x)
    (λ x. ap (λ sc. option_map without_owner (find_variable x sc)) c.alone-others.ensures
    ∙ side_globals i n (setting_of c.init_in-right.result.around.globals c.init_in-right.result.own) right.setting x))
    (none_first _ _ _ (sym (ap (option_map fault_of) c.in-None-2.is) ∙ c.in_ok-fault-in-None.ensures b i _ _ k.known left right)
    (c.in_ok-fault-in-None-2.ensures b i m n k))
