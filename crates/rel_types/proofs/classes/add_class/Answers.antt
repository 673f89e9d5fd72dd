use Rattle.std.proofs.Common.{◌∷◌, [], ◌++◌, sym, subst}
use Rattle.rel_lang.specs.View.{item_of}
use Rattle.rel_types.specs.ByName.{AreCounted, class_names}
use Rattle.rel_types.proofs.Knowing.{counted_one}
use Rattle.rel_types.proofs.classes.add_class.Goals as goal

pub returns-in_ok-insert-in-Class : goal.returns-in_ok-insert-in-Class
returns-in_ok-insert-in-Class c names h =
    subst (λ item. AreCounted (names ++ class_names (item_of item ∷ [])) c.insert.new.self c.in_ok-after-in-Class.after) (sym c.in-Class.is)
    (counted_one names c.args.classes.now c.insert.new.self c.in-Class.class.name c.as_str.result.now c.args.count c.in_ok-after-in-Class.after c.in_ok-insert-in-Class.ensures c.as_str.ensures c.in_ok-after-in-Class.ensures h)
