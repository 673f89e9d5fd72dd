use Rattle.std.proofs.Common.{sym, ◌∙◌}
use Rattle.rel_lang.specs.Lookup.{judgements_of}
use Rattle.rel_lang.specs.View.{bundle_of}
use Rattle.rel_types.specs.ByName.{class_names}
use Rattle.rel_types.proofs.KnownTables.{same_tables, place_is_position, same_subjects}
use Rattle.rel_types.proofs.known.known_of.Goals as goal

pub returns : goal.returns
returns c =
    let items = (bundle_of c.args.bundle.now).items in
    record {
      tables = same_tables (bundle_of c.args.bundle.now) (record { classes = c.in_ok-classes.classes; fields = c.in_ok-fields.fields }) c.in_ok-classes.ensures c.in_ok-fields.ensures;
      numbers = λ x n e. place_is_position x (class_names items) n (sym (c.in_ok-classes.ensures x) ∙ e);
      interfaces = c.in_ok-interfaces.ensures;
      units = c.in_ok-units.ensures;
      modules = c.in_ok-modules.ensures;
      judgements = same_subjects (judgements_of items) c.in_ok-judgements.judgements c.in_ok-judgements.ensures;
    }
