-- What parts of formulas and commands have wrong, as the code tells it.
use Rattle.std.specs.Prelude.{Bool, not, ◌||◌, ◌==◌, length, bytes_eq, List, [], ◌∷◌}
use Rattle.rel_lang.specs.Syntax.{Word, Expression, Rgn, Class, Decl}
use Rattle.rel_lang.specs.State.{Tables, Scope}
use Rattle.rel_lang.specs.Lookup.{main_name}
use Rattle.rel_flaws.specs.Flaws.{Flaws, flawless, either}
use Rattle.rel_flaws.specs.Inference.{Exactly, infer, fits, is_class, is_in_scope, has_unknown, misplaces_old, flaws_of_code, flaws_of_value}
use Rattle.rel_flaws.specs.Code as code

-- what the name, the class and the region of a quantifier have wrong
abbrev pub binder_flaws : Tables → Bool → Scope → Word → Word → Expression → Flaws
binder_flaws tables old sc x c g = record flawless {
  twice = is_in_scope x sc;
  unknown = not (is_class tables c) || has_unknown tables sc g;
  old_here = misplaces_old old g;
  wrong_type = not (fits (infer tables sc g) Rgn);
}

module _ (tables : Tables) where
  abbrev pub assign_flaws : Scope → Word → Expression → Flaws
  assign_flaws sc x e = either (code.flaws_of_target sc x (infer tables sc e)) (flaws_of_code tables sc e)

  abbrev pub new_flaws : Scope → Word → Word → Flaws
  new_flaws sc x c = either (code.unknown_where (not (is_class tables c))) (code.flaws_of_target sc x (Exactly (Class c)))

  -- of an argument, with the parameters from its own on
  abbrev pub argument_flaws : Scope → Expression → List Decl → Flaws
  argument_flaws sc e [] = flaws_of_code tables sc e
  argument_flaws sc e (d ∷ ds) = flaws_of_value tables sc e d.ty

-- of a call of a known procedure or method, its target and its arguments apart
abbrev pub call_flaws : Bool → Word → List Expression → List Decl → Flaws
call_flaws may_call p es ds = record flawless { not_visible = not may_call || bytes_eq p main_name; wrong_arity = not (length es == length ds) }
