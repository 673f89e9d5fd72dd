use Rattle.std.proofs.Common.{refl}
use Rattle.rel_flaws.specs.View.{pass_of}
use Rattle.rel_types.specs.Items.{signatures_of, code_in_module, module_sides}
use Rattle.rel_types.specs.ModuleView.{or_nothing}
use Rattle.rel_types.proofs.InModules.{in_module}
use Rattle.rel_types.proofs.pairs.bodies_fault.Goals as goal

pub returns : goal.returns
returns c b i l r known left right =
    c.in_ok-fault.ensures b (module_sides b (pass_of c.args.pass) (code_in_module i l) (code_in_module i r)) known
    (in_module i l _ (c.code_of_body-left.ensures c.args.left.own (or_nothing l) (signatures_of i) c.in_ok-first.ensures left.setting left.callees))
    (in_module i r _ (c.code_of_body-right.ensures c.args.right.own (or_nothing r) (signatures_of i) c.in_ok-second.ensures right.setting right.callees))
    refl refl
