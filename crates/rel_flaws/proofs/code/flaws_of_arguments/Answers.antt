use Rattle.std.proofs.Common.{◌≡◌, ◌-◌, suc, map, drop, get_or, ap, ◌∙◌, arith}
use Rattle.rel_lang.specs.View.{expression_of, decl_of}
use Rattle.rel_flaws.specs.Flaws.{either}
use Rattle.rel_flaws.specs.Code as code
use Rattle.rel_flaws.specs.Parts.{argument_flaws}
use Rattle.rel_flaws.specs.View.{tables_seen, scope_of, flaws_of}
use Rattle.rel_flaws.proofs.Callees.{one_more_argument}
use Rattle.rel_flaws.proofs.code.flaws_of_arguments.Goals as goal

pub loop-i-preserved : goal.loop-i-preserved
loop-i-preserved c =
    let e : c.loop-i.i ≡ suc (c.loop-i.i - 1) = omega arith in
    record {
      within = omega arith;
      gathered =
          c.either-flaws.ensures
          ∙ ap (λ f. either f (flaws_of c.loop-i.flaws))
          (c.flaws_of_argument.ensures
          ∙ ap (λ a. argument_flaws (tables_seen c.args.tables.now) (scope_of c.args.scope.now) (expression_of a) (map decl_of (drop (c.loop-i.i - 1) c.args.params.now))) c.at.ensures)
          ∙ ap (either (argument_flaws (tables_seen c.args.tables.now) (scope_of c.args.scope.now) (expression_of (get_or c.args.args.now (c.loop-i.i - 1) c.at.result.now)) (map decl_of (drop (c.loop-i.i - 1) c.args.params.now))))
          (c.loop-i.invariant.gathered
          ∙ ap (λ k. code.flaws_of_arguments (tables_seen c.args.tables.now) (scope_of c.args.scope.now) (map expression_of (drop k c.args.args.now)) (map decl_of (drop k c.args.params.now))) e)
          ∙ one_more_argument (tables_seen c.args.tables.now) (scope_of c.args.scope.now) c.args.args.now c.args.params.now (c.loop-i.i - 1) c.at.result.now (omega arith);
    }

pub returns : goal.returns
returns c =
    let e : c.loop-i.i ≡ 0 = omega arith in
    c.loop-i.invariant.gathered
    ∙ ap (λ k. code.flaws_of_arguments (tables_seen c.args.tables.now) (scope_of c.args.scope.now) (map expression_of (drop k c.args.args.now)) (map decl_of (drop k c.args.params.now))) e
