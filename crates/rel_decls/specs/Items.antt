-- How items and bundles are read.
use Rattle.std.specs.Prelude.{ℕ, Bool, ◌||◌, List, [], ◌∷◌}
use Rattle.rel_lang.specs.Syntax.{Word, Decl, Place, Effect, Clause, RelClause, Body, Proc, Sig, ClassItem, Interface, Module, UnitItem, Client, Judgement, ModulePair, Align, Item, OfClass, OfInterface, OfModule, OfUnit, OfClient, OfJudgement, OfPair, Bundle}
use Rattle.rel_lang.specs.Refusal.{Limits}
use Rattle.rel_lexer.specs.declared.Token.{Token}
use Rattle.rel_lexer.specs.declared.Kind.TheVariants as kind
use Rattle.rel_lexer.specs.declared.keywords.Keyword.TheVariants as word
use Rattle.rel_lexer.specs.declared.symbols.Symbol.TheVariants as symbol
use Rattle.rel_parse.specs.Reading.{Reader, Got, is_next, name_at, made, both, after, before, placed, either, many_at, unexpected}
use Rattle.rel_decls.specs.Declarations.{decls_at, fields_at}
use Rattle.rel_decls.specs.Specifications.{places_at, writes_at, clause_at, rel_clause_at}
use Rattle.rel_decls.specs.Procedures.{body_from, content_at, proc_at, sig_at}
use Rattle.rel_decls.specs.Alignments.{align_at}

-- between braces
abbrev pub opened : {A : Type 0} → Reader A → Reader A
opened r = after (kind.Symbol symbol.OpenBrace) r

abbrev pub closed : {A : Type 0} → Reader A → Reader A
closed r = before (kind.Symbol symbol.CloseBrace) r

abbrev pub globals_at : Limits → Reader (List Decl)
globals_at l = decls_at (kind.Word word.Global) l.most

-- ---- classes and interfaces

unfoldable pub class_at : Limits → Reader ClassItem
class_at l =
    made (λ p. record { at = p.0; name = p.1.0; fields = p.1.1 })
    (placed (after (kind.Word word.Class) (both name_at (opened (closed (fields_at l.most))))))

unfoldable pub boundary_at : Limits → Reader (ℕ × List Place)
boundary_at l = placed (after (kind.Word word.Boundary) (places_at l))

-- what the init ensures, and what it writes
unfoldable pub init_at : Limits → Reader (Clause × List Effect)
init_at l = both (after (kind.Word word.Init) (after (kind.Word word.Ensures) (clause_at l))) (writes_at l)

abbrev pub sigs_at : Limits → Reader (List Sig)
sigs_at l = many_at (is_next (kind.Word word.Method)) (sig_at l) l.most

abbrev pub interface_from : ℕ × (Word × (List Decl × ((ℕ × List Place) × ((Clause × List Effect) × List Sig)))) → Interface
interface_from p = record {
  at = p.0;
  name = p.1.0;
  globals = p.1.1.0;
  boundary_at = p.1.1.1.0.0;
  boundary = p.1.1.1.0.1;
  init_ensures = p.1.1.1.1.0.0;
  init_writes = p.1.1.1.1.0.1;
  methods = p.1.1.1.1.1;
}

unfoldable pub interface_at : Limits → Reader Interface
interface_at l =
    made interface_from
    (placed (after (kind.Word word.Interface) (both name_at (opened (both (globals_at l) (both (boundary_at l) (both (init_at l) (closed (sigs_at l)))))))))

-- ---- modules, units and clients

unfoldable pub init_body_at : Limits → Reader Body
init_body_at l = made body_from (placed (after (kind.Word word.Init) (content_at l)))

unfoldable pub method_at : Limits → Reader (Word × Body)
method_at l = made (λ p. (p.1.0, body_from (p.0, p.1.1))) (placed (after (kind.Word word.Method) (both name_at (content_at l))))

-- with a semicolon behind it
unfoldable pub invariant_at : Limits → Reader Clause
invariant_at l = after (kind.Word word.Invariant) (before (kind.Symbol symbol.Semicolon) (clause_at l))

abbrev pub methods_at : Limits → Reader (List (Word × Body))
methods_at l = many_at (is_next (kind.Word word.Method)) (method_at l) l.most

-- a name, and the name of an interface
abbrev pub titled_at : Reader (Word × Word)
titled_at = both name_at (after (kind.Symbol symbol.Colon) name_at)

abbrev pub module_from : ℕ × ((Word × Word) × (List Decl × (Clause × (Body × List (Word × Body))))) → Module
module_from p = record {
  at = p.0;
  name = p.1.0.0;
  interface = p.1.0.1;
  globals = p.1.1.0;
  invariant = p.1.1.1.0;
  init = p.1.1.1.1.0;
  methods = p.1.1.1.1.1;
}

unfoldable pub module_at : Limits → Reader Module
module_at l =
    made module_from
    (placed (after (kind.Word word.Module) (both titled_at (opened (both (globals_at l) (both (invariant_at l) (both (init_body_at l) (closed (methods_at l)))))))))

abbrev pub procs_at : Limits → Reader (List Proc)
procs_at l = many_at (is_next (kind.Word word.Proc)) (proc_at l) l.most

-- globals and procedures, between braces
unfoldable pub program_at : Limits → Reader (List Decl × List Proc)
program_at l = opened (both (globals_at l) (closed (procs_at l)))

unfoldable pub unit_at : Limits → Reader UnitItem
unit_at l =
    made (λ p. record { at = p.0; name = p.1.0; globals = p.1.1.0; procs = p.1.1.1 })
    (placed (after (kind.Word word.Unit) (both name_at (program_at l))))

unfoldable pub client_at : Limits → Reader Client
client_at l =
    made (λ p. record { at = p.0; name = p.1.0.0; interface = p.1.0.1; globals = p.1.1.0; procs = p.1.1.1 })
    (placed (after (kind.Word word.Client) (both titled_at (program_at l))))

-- ---- judgements and pairs of modules

-- a unit's name and a procedure's
abbrev pub subject_at : Reader (Word × Word)
subject_at = both name_at (after (kind.Symbol symbol.Dot) name_at)

abbrev pub rivals_at : {A : Type 0} → Reader A → Reader (A × A)
rivals_at r = both r (after (kind.Symbol symbol.Tilde) r)

-- a name, and what it is about
abbrev pub about_at : {A : Type 0} → Reader A → Reader (Word × (A × A))
about_at r = both name_at (after (kind.Symbol symbol.Colon) (rivals_at r))

abbrev pub judgement_from : ℕ × ((Word × ((Word × Word) × (Word × Word))) × (RelClause × (RelClause × Align))) → Judgement
judgement_from p = record {
  at = p.0;
  name = p.1.0.0;
  left = p.1.0.1.0;
  right = p.1.0.1.1;
  needs = p.1.1.0;
  gives = p.1.1.1.0;
  align = p.1.1.1.1;
}

unfoldable pub judgement_at : Limits → Reader Judgement
judgement_at l =
    made judgement_from
    (placed (after (kind.Word word.Judge) (both (about_at subject_at) (both (after (kind.Word word.Requires) (rel_clause_at l)) (both (after (kind.Word word.Ensures) (rel_clause_at l)) (align_at l))))))

-- with a semicolon behind it
unfoldable pub coupling_at : Limits → Reader RelClause
coupling_at l = after (kind.Word word.Coupling) (before (kind.Symbol symbol.Semicolon) (rel_clause_at l))

unfoldable pub pair_init_at : Limits → Reader (ℕ × Align)
pair_init_at l = placed (after (kind.Word word.Init) (align_at l))

unfoldable pub pair_method_at : Limits → Reader (ℕ × Word × Align)
pair_method_at l = made (λ p. (p.0, p.1.0, p.1.1)) (placed (after (kind.Word word.Method) (both name_at (align_at l))))

abbrev pub pair_methods_at : Limits → Reader (List (ℕ × Word × Align))
pair_methods_at l = many_at (is_next (kind.Word word.Method)) (pair_method_at l) l.most

abbrev pub pair_from : ℕ × ((Word × (Word × Word)) × (RelClause × ((ℕ × Align) × List (ℕ × Word × Align)))) → ModulePair
pair_from p = record {
  at = p.0;
  name = p.1.0.0;
  left = p.1.0.1.0;
  right = p.1.0.1.1;
  coupling = p.1.1.0;
  init = p.1.1.1.0;
  methods = p.1.1.1.1;
}

unfoldable pub pair_at : Limits → Reader ModulePair
pair_at l =
    made pair_from
    (placed (after (kind.Word word.Pair) (both (about_at name_at) (opened (both (coupling_at l) (both (pair_init_at l) (closed (pair_methods_at l))))))))

-- ---- items and bundles

-- a client, a judgement or a pair
unfoldable pub other_item_at : Limits → Reader Item
other_item_at l =
    either (is_next (kind.Word word.Client)) (made OfClient (client_at l))
    (either (is_next (kind.Word word.Judge)) (made OfJudgement (judgement_at l)) (made OfPair (pair_at l)))

unfoldable pub item_at : Limits → Reader Item
item_at l =
    either (is_next (kind.Word word.Class)) (made OfClass (class_at l))
    (either (is_next (kind.Word word.Interface)) (made OfInterface (interface_at l))
    (either (is_next (kind.Word word.Module)) (made OfModule (module_at l))
    (either (is_next (kind.Word word.Unit)) (made OfUnit (unit_at l)) (other_item_at l))))

abbrev pub begins_item : List Token → Bool
begins_item ts =
    is_next (kind.Word word.Class) ts || (is_next (kind.Word word.Interface) ts || (is_next (kind.Word word.Module) ts
    || (is_next (kind.Word word.Unit) ts || (is_next (kind.Word word.Client) ts || (is_next (kind.Word word.Judge) ts || is_next (kind.Word word.Pair) ts)))))

unfoldable pub items_at : Limits → Reader (List Item)
items_at l = many_at begins_item (item_at l) l.most

-- no token is left
abbrev pub end_at : Reader Unit
end_at [] = Got tt []
end_at (t ∷ ts) = unexpected (t ∷ ts)

unfoldable pub bundle_at : Limits → Reader Bundle
bundle_at l = made (λ p. record { items = p.0 }) (both (items_at l) end_at)
