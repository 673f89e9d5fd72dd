use Rattle.std.proofs.Common.{option_map, sym, ap, ◌∙◌}
use Rattle.rel_flaws.specs.CodeView.{callee_of, callees_seen}
use Rattle.rel_flaws.proofs.Callees.{found_callee, callee_in_front, callee_behind}
use Rattle.rel_flaws.proofs.code.Code.find_callee.Goals as goal

pub returns-in-Some : goal.returns-in-Some
returns-in-Some c =
    callee_in_front c.args.name.now c.args.self.now.procs.now (callees_seen c.args.self.now.methods.now) c.in-Some.callee (sym c.in-Some.is ∙ c.get.ensures)

pub returns-in-None : goal.returns-in-None
returns-in-None c =
    ap (option_map (callee_of c.args.name.now)) c.get-in-None.ensures ∙ found_callee c.args.name.now c.args.self.now.methods.now
    ∙ callee_behind c.args.name.now c.args.self.now.procs.now (callees_seen c.args.self.now.methods.now) (sym c.in-None.is ∙ c.get.ensures)
