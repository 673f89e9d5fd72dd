use Rattle.std.proofs.Common.{◌∷◌, [], sym, ap₂, subst}
use Rattle.rel_lang.specs.Lookup.{judgements_of}
use Rattle.rel_lang.specs.View.{item_of, judgement_of}
use Rattle.rel_types.specs.ByName.{Adds, IsAbout}
use Rattle.rel_types.proofs.Knowing.{adds_one}
use Rattle.rel_types.proofs.by_name.add_judgement.Goals as goal

pub returns-in_ok-insert : goal.returns-in_ok-insert
returns-in_ok-insert c =
    subst (λ item. Adds IsAbout (λ j. j.name) c.args.judgements.now c.insert.new.self (judgements_of (item_of item ∷ []))) (sym c.in-Judge.is)
    (adds_one IsAbout (λ j. j.name) c.args.judgements.now c.insert.new.self (judgement_of c.in-Judge.judgement) c.as_str-in-Judge-4.result.now _ c.in_ok-insert.ensures c.as_str-in-Judge-4.ensures
    (ap₂ (λ l r. (l, r)) (ap₂ (λ u p. (u, p)) c.as_str.ensures c.as_str-in-Judge.ensures) (ap₂ (λ u p. (u, p)) c.as_str-in-Judge-2.ensures c.as_str-in-Judge-3.ensures)))
