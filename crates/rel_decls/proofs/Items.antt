-- Items are read exactly.
use Rattle.std.proofs.Common.{◌≡◌, ℕ, ◌+◌, ◌<◌, true, List, [], ◌∷◌, ◌++◌, length, ◌⊎◌, inl, inr, refl, sym, ap, subst, append_assoc, arith}
use Rattle.std.specs.Prelude.{codes}
use Rattle.std.specs.List.{AllByRecursion}
use Rattle.std.proofs.lemmas.Bool.{or_cases}
use Rattle.rel_lang.specs.Syntax.{Word, Decl, Place, Effect, Clause, RelClause, Body, Proc, Sig, Interface, Module, Client, Align, Item, OfClass, OfInterface, OfModule, OfUnit, OfClient, OfJudgement, OfPair}
use Rattle.rel_lang.specs.Text.{Mark, word, named, begins, braced, ended, repeated, listed, show_decl, show_place, show_globals, show_writes, show_clause, show_rel_clause, show_boundary, show_sig, show_proc, show_body, show_align, IsShapedAlign, show_class, show_interface, show_method, show_module, show_unit, show_client, show_subject, show_judgement, show_pair_method, show_pair, show_item, IsShapedItem}
use Rattle.rel_lang.specs.Refusal.{Limits, limits, GoesOn}
use Rattle.rel_lexer.specs.declared.Token.{Token}
use Rattle.rel_lexer.specs.Tokens.{tokens_of}
use Rattle.rel_lexer.specs.declared.Kind.{Kind}
use Rattle.rel_lexer.specs.declared.Kind.TheVariants as kind
use Rattle.rel_lexer.specs.declared.keywords.Keyword.TheVariants as keyword
use Rattle.rel_lexer.specs.declared.symbols.Symbol.TheVariants as symbol
use Rattle.rel_parse.specs.Reading.{Reader, is_next, name_at, both, after, before}
use Rattle.rel_parse.specs.Firsts.{First, This}
use Rattle.rel_parse.proofs.Laws.{Reads, Always, Good, AreTold, HaveKinds, NeverBegins, AlwaysBegins, SomeBegins, ShapeAll, IsFixed, IsShallow, fixed_text, name_reads, both_reads, after_reads, before_reads, placed_reads}
use Rattle.rel_parse.proofs.Single.{is_fixed}
use Rattle.rel_parse.proofs.Firsts.{BeginsAs, Image, are_apart, choose_of, production, always_begins, never_begins}
use Rattle.rel_decls.specs.Procedures.{Content, body_from, proc_at, sig_at}
use Rattle.rel_decls.specs.Specifications.{places_at, clause_at, rel_clause_at}
use Rattle.rel_decls.specs.Alignments.{align_at}
use Rattle.rel_decls.specs.Items.{opened, closed, globals_at, class_at, boundary_at, init_at, sigs_at, interface_from, interface_at, init_body_at, method_at, invariant_at, methods_at, titled_at, module_from, module_at, procs_at, program_at, unit_at, client_at, subject_at, about_at, judgement_from, judgement_at, coupling_at, pair_init_at, pair_method_at, pair_methods_at, pair_from, pair_at, other_item_at, item_at, begins_item}
use Rattle.rel_decls.proofs.Declarations.{remade, shaped, word_never, all_always, decls_reads, fields_reads}
use Rattle.rel_decls.proofs.Specifications.{close_brace, show_close, closed_many, places_reads, clause_reads, rel_clause_reads}
use Rattle.rel_decls.proofs.Writes.{writes_reads}
use Rattle.rel_decls.proofs.Procedures.{show_content, ShapeContent, content_reads, proc_reads, sig_reads}
use Rattle.rel_decls.proofs.Alignments.{align_reads}

abbrev ShapePair : ℕ × Word × Align → Type 0
ShapePair m = IsShapedAlign m.2

laid_interface : (g b c w s e : List Mark) → g ++ (b ++ ((c ++ w) ++ (s ++ e))) ≡ ((((g ++ b) ++ c) ++ w) ++ s) ++ e
laid_interface g b c w s e = simp append_assoc

laid_module : (g v q b m e : List Mark) → g ++ ((v ++ q) ++ (b ++ (m ++ e))) ≡ (((g ++ v) ++ (q ++ b)) ++ m) ++ e
laid_module g v q b m e = simp append_assoc

module _ (l : Limits) (deep : 0 < l.deepest) (wide : 0 < l.most) where
  -- globals, before what doesn't begin so
  globals_reads : {B : Type 0} (show2 : B → List Mark) (Shape2 : B → Type 0) (b : Reader B) → Reads l show2 Shape2 b → NeverBegins show2 Shape2 (is_next (kind.Word keyword.Global))
      → Reads l {X = List Decl × B} (λ q. show_globals q.0 ++ show2 q.1) (ShapeAll Always Shape2) (both (globals_at l) b)
  globals_reads show2 Shape2 b two never = decls_reads l (kind.Word keyword.Global) tt show2 Shape2 b two never

  -- ---- classes

  class_reads : Reads l show_class Always (class_at l)
  unfolding class_at
  class_reads =
      remade l (λ (p : ℕ × (Word × List Decl)). begins p.0 (word (codes "class") ∷ named p.1.0 ∷ word (codes "{") ∷ (repeated (ended (codes ";") show_decl) 1 p.1.1 ++ word (codes "}") ∷ [])))
      (λ p. Always p.1.0 × AllByRecursion (Always {X = Decl}) p.1.1) _ show_class Always (λ p. record { at = p.0; name = p.1.0; fields = p.1.1 }) (λ c. (c.at, (c.name, c.fields)))
      (placed_reads l _ _ _ (after_reads l _ _ _ (kind.Word keyword.Class) tt
      (both_reads l (λ x. named x ∷ []) Always name_at _ _ _ (name_reads l) (after_reads l _ _ _ (kind.Symbol symbol.OpenBrace) tt (fields_reads l)))))
      (λ p. refl) (λ c. refl) (λ c. refl) (λ c h. tt) (λ c h. (tt, all_always c.fields))

  -- ---- interfaces

  sig_some : SomeBegins show_sig Always (is_next (kind.Word keyword.Method))
  sig_some [] kinds e = absurd cc
  sig_some (t ∷ ts) kinds e = let x = (sig_reads l deep wide).one in (record x.0 { at = t.at }, x.1, (is_fixed t (kind.Word keyword.Method) tt kinds.0 e, (refl, tt), tt, tt))

  abbrev show_sigs : List Sig → List Mark
  show_sigs ss = repeated show_sig 1 ss ++ word (codes "}") ∷ []

  sigs_reads : Reads l show_sigs (AllByRecursion (Always {X = Sig})) (closed (sigs_at l))
  sigs_reads = closed_many l (kind.Word keyword.Method) tt show_sig Always (sig_at l) (sig_reads l deep wide) (λ s. (This (kind.Word keyword.Method), inl refl, (tt, refl))) sig_some (λ s. (omega arith, refl)) refl

  abbrev show_init : Clause × List Effect → List Mark
  show_init p = word (codes "init") ∷ word (codes "ensures") ∷ (show_clause p.0 ++ show_writes p.1)

  abbrev ShapeInit : Clause × List Effect → Type 0
  ShapeInit p = Always p.0 × AllByRecursion (Always {X = Effect}) p.1

  init_reads : Reads l show_init ShapeInit (init_at l)
  unfolding init_at
  init_reads =
      both_reads l (λ c. word (codes "init") ∷ word (codes "ensures") ∷ show_clause c) Always _ show_writes (AllByRecursion (Always {X = Effect})) _
      (after_reads l (λ c. word (codes "ensures") ∷ show_clause c) Always _ (kind.Word keyword.Init) tt (after_reads l show_clause Always (clause_at l) (kind.Word keyword.Ensures) tt (clause_reads l))) (writes_reads l deep)

  abbrev show_bounds : ℕ × List Place → List Mark
  show_bounds p = show_boundary p.0 p.1

  boundary_reads : Reads l show_bounds (λ p. AllByRecursion (Always {X = Place}) p.1) (boundary_at l)
  unfolding boundary_at
  boundary_reads =
      placed_reads l (λ ps. word (codes "boundary") ∷ braced (listed show_place ps)) (AllByRecursion (Always {X = Place})) _
      (after_reads l (λ ps. braced (listed show_place ps)) (AllByRecursion (Always {X = Place})) (places_at l) (kind.Word keyword.Boundary) tt (places_reads l))

  abbrev Bounded : Type 0
  Bounded = (ℕ × List Place) × ((Clause × List Effect) × List Sig)

  abbrev show_bounded : Bounded → List Mark
  show_bounded p = show_bounds p.0 ++ (show_init p.1.0 ++ show_sigs p.1.1)

  abbrev ShapeBounded : Bounded → Type 0
  ShapeBounded p = AllByRecursion (Always {X = Place}) p.0.1 × (ShapeInit p.1.0 × AllByRecursion (Always {X = Sig}) p.1.1)

  bounded_reads : Reads l show_bounded ShapeBounded (both (boundary_at l) (both (init_at l) (closed (sigs_at l))))
  bounded_reads =
      both_reads l show_bounds (λ p. AllByRecursion (Always {X = Place}) p.1) _ (λ (p : (Clause × List Effect) × List Sig). show_init p.0 ++ show_sigs p.1) _ _ boundary_reads
      (both_reads l show_init ShapeInit _ show_sigs _ _ init_reads sigs_reads)

  interface_reads : Reads l show_interface Always (interface_at l)
  unfolding interface_at
  interface_reads =
      remade l (λ (p : ℕ × (Word × (List Decl × Bounded))). begins p.0 (word (codes "interface") ∷ named p.1.0 ∷ word (codes "{") ∷ (show_globals p.1.1.0 ++ show_bounded p.1.1.1)))
      (λ p. Always p.1.0 × (AllByRecursion (Always {X = Decl}) p.1.1.0 × ShapeBounded p.1.1.1)) _ show_interface Always interface_from
      (λ i. (i.at, (i.name, (i.globals, ((i.boundary_at, i.boundary), ((i.init_ensures, i.init_writes), i.methods))))))
      (placed_reads l _ _ _ (after_reads l _ _ _ (kind.Word keyword.Interface) tt
      (both_reads l (λ x. named x ∷ []) Always name_at _ _ _ (name_reads l) (after_reads l _ _ _ (kind.Symbol symbol.OpenBrace) tt
      (globals_reads show_bounded ShapeBounded _ bounded_reads
      (word_never (This (kind.Word keyword.Global) ∷ []) (kind.Word keyword.Boundary) tt show_bounded ShapeBounded refl (λ p. (This (kind.Word keyword.Boundary), inl refl, (tt, refl)))))))))
      (λ p. refl) (λ i. refl)
      (λ i. ap (λ ms. begins i.at (word (codes "interface") ∷ named i.name ∷ word (codes "{") ∷ ms))
      (laid_interface (show_globals i.globals) (show_bounds (i.boundary_at, i.boundary)) (word (codes "init") ∷ word (codes "ensures") ∷ show_clause i.init_ensures) (show_writes i.init_writes) (repeated show_sig 1 i.methods) (word (codes "}") ∷ [])))
      (λ i h. tt) (λ i h. (tt, (all_always i.globals, (all_always i.boundary, ((tt, all_always i.init_writes), all_always i.methods)))))

  -- ---- modules

  abbrev show_init_body : Body → List Mark
  show_init_body b = begins b.at (word (codes "init") ∷ show_body b)

  init_body_reads : Reads l show_init_body Always (init_body_at l)
  unfolding init_body_at
  init_body_reads =
      remade l (λ (p : ℕ × Content). begins p.0 (word (codes "init") ∷ show_content l deep wide p.1)) (λ p. ShapeContent l deep wide p.1) _ show_init_body Always body_from (λ b. (b.at, (b.locals, b.commands)))
      (placed_reads l _ _ _ (after_reads l (show_content l deep wide) (ShapeContent l deep wide) _ (kind.Word keyword.Init) tt (content_reads l deep wide)))
      (λ p. refl) (λ b. refl) (λ b. refl) (λ b h. tt) (λ b h. (all_always b.locals, tt))

  method_reads : Reads l show_method Always (method_at l)
  unfolding method_at
  method_reads =
      remade l (λ (p : ℕ × (Word × Content)). begins p.0 (word (codes "method") ∷ named p.1.0 ∷ show_content l deep wide p.1.1)) (λ p. Always p.1.0 × ShapeContent l deep wide p.1.1) _ show_method Always (λ p. (p.1.0, body_from (p.0, p.1.1)))
      (λ m. (m.1.at, (m.0, (m.1.locals, m.1.commands))))
      (placed_reads l _ _ _ (after_reads l _ _ _ (kind.Word keyword.Method) tt (both_reads l (λ x. named x ∷ []) Always name_at (show_content l deep wide) (ShapeContent l deep wide) _ (name_reads l) (content_reads l deep wide))))
      (λ p. refl) (λ m. refl) (λ m. refl) (λ m h. tt) (λ m h. (tt, (all_always m.1.locals, tt)))

  method_some : SomeBegins show_method Always (is_next (kind.Word keyword.Method))
  method_some [] kinds e = absurd cc
  method_some (t ∷ ts) kinds e = let x = method_reads.one in ((x.0.0, record x.0.1 { at = t.at }), x.1, (is_fixed t (kind.Word keyword.Method) tt kinds.0 e, (refl, tt), tt, tt))

  abbrev show_methods : List (Word × Body) → List Mark
  show_methods ms = repeated show_method 1 ms ++ word (codes "}") ∷ []

  methods_reads : Reads l show_methods (AllByRecursion (Always {X = Word × Body})) (closed (methods_at l))
  methods_reads = closed_many l (kind.Word keyword.Method) tt show_method Always (method_at l) method_reads (λ s. (This (kind.Word keyword.Method), inl refl, (tt, refl))) method_some (λ s. (omega arith, refl)) refl

  abbrev show_invariant : Clause → List Mark
  show_invariant c = word (codes "invariant") ∷ (show_clause c ++ word (codes ";") ∷ [])

  invariant_reads : Reads l show_invariant Always (invariant_at l)
  unfolding invariant_at
  invariant_reads = after_reads l (λ c. show_clause c ++ word (codes ";") ∷ []) Always _ (kind.Word keyword.Invariant) tt (before_reads l show_clause Always (clause_at l) (kind.Symbol symbol.Semicolon) tt (clause_reads l))

  abbrev Guarded : Type 0
  Guarded = Clause × (Body × List (Word × Body))

  abbrev show_guarded : Guarded → List Mark
  show_guarded p = show_invariant p.0 ++ (show_init_body p.1.0 ++ show_methods p.1.1)

  abbrev ShapeGuarded : Guarded → Type 0
  ShapeGuarded p = Always p.0 × (Always p.1.0 × AllByRecursion (Always {X = Word × Body}) p.1.1)

  guarded_reads : Reads l show_guarded ShapeGuarded (both (invariant_at l) (both (init_body_at l) (closed (methods_at l))))
  guarded_reads = both_reads l show_invariant Always _ (λ (p : Body × List (Word × Body)). show_init_body p.0 ++ show_methods p.1) _ _ invariant_reads (both_reads l show_init_body Always _ show_methods _ _ init_body_reads methods_reads)

  abbrev show_titled : Word × Word → List Mark
  show_titled p = named p.0 ∷ word (codes ":") ∷ named p.1 ∷ []

  titled_reads : Reads l show_titled (λ p. Always p.0 × Always p.1) titled_at
  titled_reads = both_reads l (λ x. named x ∷ []) Always name_at (λ x. word (codes ":") ∷ named x ∷ []) Always _ (name_reads l) (after_reads l (λ x. named x ∷ []) Always name_at (kind.Symbol symbol.Colon) tt (name_reads l))

  module_reads : Reads l show_module Always (module_at l)
  unfolding module_at
  module_reads =
      remade l (λ (p : ℕ × ((Word × Word) × (List Decl × Guarded))). begins p.0 (word (codes "module") ∷ (show_titled p.1.0 ++ word (codes "{") ∷ (show_globals p.1.1.0 ++ show_guarded p.1.1.1))))
      (λ p. (Always p.1.0.0 × Always p.1.0.1) × (AllByRecursion (Always {X = Decl}) p.1.1.0 × ShapeGuarded p.1.1.1)) _ show_module Always module_from
      (λ m. (m.at, ((m.name, m.interface), (m.globals, (m.invariant, (m.init, m.methods))))))
      (placed_reads l _ _ _ (after_reads l _ _ _ (kind.Word keyword.Module) tt
      (both_reads l show_titled (λ p. Always p.0 × Always p.1) titled_at _ _ _ titled_reads (after_reads l _ _ _ (kind.Symbol symbol.OpenBrace) tt
      (globals_reads show_guarded ShapeGuarded _ guarded_reads
      (word_never (This (kind.Word keyword.Global) ∷ []) (kind.Word keyword.Invariant) tt show_guarded ShapeGuarded refl (λ p. (This (kind.Word keyword.Invariant), inl refl, (tt, refl)))))))))
      (λ p. refl) (λ m. refl)
      (λ m. ap (λ ms. begins m.at (word (codes "module") ∷ named m.name ∷ word (codes ":") ∷ named m.interface ∷ word (codes "{") ∷ ms))
      (laid_module (show_globals m.globals) (word (codes "invariant") ∷ show_clause m.invariant) (word (codes ";") ∷ []) (show_init_body m.init) (repeated show_method 1 m.methods) (word (codes "}") ∷ [])))
      (λ m h. tt) (λ m h. ((tt, tt), (all_always m.globals, (tt, (tt, all_always m.methods)))))

  -- ---- units and clients

  proc_some : SomeBegins show_proc Always (is_next (kind.Word keyword.Proc))
  proc_some [] kinds e = absurd cc
  proc_some (t ∷ ts) kinds e = let x = (proc_reads l deep wide).one in (record x.0 { at = t.at; body = record x.0.body { at = t.at } }, x.1, (is_fixed t (kind.Word keyword.Proc) tt kinds.0 e, (refl, (refl, tt)), tt, tt))

  abbrev show_procs : List Proc → List Mark
  show_procs ps = repeated show_proc 1 ps ++ word (codes "}") ∷ []

  procs_reads : Reads l show_procs (AllByRecursion (Always {X = Proc})) (closed (procs_at l))
  procs_reads = closed_many l (kind.Word keyword.Proc) tt show_proc Always (proc_at l) (proc_reads l deep wide) (λ s. (This (kind.Word keyword.Proc), inl refl, (tt, refl))) proc_some (λ s. (omega arith, refl)) refl

  no_global : NeverBegins show_procs (AllByRecursion (Always {X = Proc})) (is_next (kind.Word keyword.Global))
  no_global [] ts kinds good goes = never_begins (This (kind.Word keyword.Global) ∷ []) (This close_brace ∷ []) (show_close tt) ts refl (This close_brace, inl refl, (tt, refl)) kinds (tt, tt) goes
  no_global (p ∷ ps) ts kinds good goes = never_begins (This (kind.Word keyword.Global) ∷ []) (This (kind.Word keyword.Proc) ∷ []) (show_procs (p ∷ ps)) ts refl (This (kind.Word keyword.Proc), inl refl, (tt, refl)) kinds good.1 goes

  abbrev Program : Type 0
  Program = List Decl × List Proc

  abbrev show_program : Program → List Mark
  show_program p = word (codes "{") ∷ (show_globals p.0 ++ show_procs p.1)

  abbrev ShapeProgram : Program → Type 0
  ShapeProgram p = AllByRecursion (Always {X = Decl}) p.0 × AllByRecursion (Always {X = Proc}) p.1

  program_reads : Reads l show_program ShapeProgram (program_at l)
  unfolding program_at
  program_reads = after_reads l (λ (p : Program). show_globals p.0 ++ show_procs p.1) ShapeProgram _ (kind.Symbol symbol.OpenBrace) tt (globals_reads show_procs (AllByRecursion (Always {X = Proc})) _ procs_reads no_global)

  unit_reads : Reads l show_unit Always (unit_at l)
  unfolding unit_at
  unit_reads =
      remade l (λ (p : ℕ × (Word × Program)). begins p.0 (word (codes "unit") ∷ named p.1.0 ∷ show_program p.1.1)) (λ p. Always p.1.0 × ShapeProgram p.1.1) _ show_unit Always
      (λ p. record { at = p.0; name = p.1.0; globals = p.1.1.0; procs = p.1.1.1 }) (λ u. (u.at, (u.name, (u.globals, u.procs))))
      (placed_reads l _ _ _ (after_reads l _ _ _ (kind.Word keyword.Unit) tt (both_reads l (λ x. named x ∷ []) Always name_at show_program ShapeProgram _ (name_reads l) program_reads)))
      (λ p. refl) (λ u. refl) (λ u. simp append_assoc) (λ u h. tt) (λ u h. (tt, (all_always u.globals, all_always u.procs)))

  client_reads : Reads l show_client Always (client_at l)
  unfolding client_at
  client_reads =
      remade l (λ (p : ℕ × ((Word × Word) × Program)). begins p.0 (word (codes "client") ∷ (show_titled p.1.0 ++ show_program p.1.1))) (λ p. (Always p.1.0.0 × Always p.1.0.1) × ShapeProgram p.1.1) _ show_client Always
      (λ p. record { at = p.0; name = p.1.0.0; interface = p.1.0.1; globals = p.1.1.0; procs = p.1.1.1 }) (λ u. (u.at, ((u.name, u.interface), (u.globals, u.procs))))
      (placed_reads l _ _ _ (after_reads l _ _ _ (kind.Word keyword.Client) tt (both_reads l show_titled (λ p. Always p.0 × Always p.1) titled_at show_program ShapeProgram _ titled_reads program_reads)))
      (λ p. refl) (λ u. refl) (λ u. simp append_assoc) (λ u h. tt) (λ u h. ((tt, tt), (all_always u.globals, all_always u.procs)))

  -- ---- judgements

  subject_reads : Reads l show_subject (λ p. Always p.0 × Always p.1) subject_at
  subject_reads = both_reads l (λ x. named x ∷ []) Always name_at (λ x. word (codes ".") ∷ named x ∷ []) Always _ (name_reads l) (after_reads l (λ x. named x ∷ []) Always name_at (kind.Symbol symbol.Dot) tt (name_reads l))

  module _ {A : Type 0} (show : A → List Mark) (Shape : A → Type 0) (r : Reader A) (one : Reads l show Shape r) where
    abbrev show_about : Word × (A × A) → List Mark
    show_about p = named p.0 ∷ word (codes ":") ∷ (show p.1.0 ++ word (codes "~") ∷ show p.1.1)

    abbrev ShapeAbout : Word × (A × A) → Type 0
    ShapeAbout p = Always p.0 × (Shape p.1.0 × Shape p.1.1)

    about_reads : Reads l show_about ShapeAbout (about_at r)
    about_reads =
        both_reads l (λ x. named x ∷ []) Always name_at (λ (p : A × A). word (codes ":") ∷ (show p.0 ++ word (codes "~") ∷ show p.1)) (λ p. Shape p.0 × Shape p.1) _ (name_reads l)
        (after_reads l (λ (p : A × A). show p.0 ++ word (codes "~") ∷ show p.1) (λ p. Shape p.0 × Shape p.1) _ (kind.Symbol symbol.Colon) tt
        (both_reads l show Shape r (λ a. word (codes "~") ∷ show a) Shape _ one (after_reads l show Shape r (kind.Symbol symbol.Tilde) tt one)))

  abbrev Subjects : Type 0
  Subjects = Word × ((Word × Word) × (Word × Word))

  abbrev Promises : Type 0
  Promises = RelClause × (RelClause × Align)

  abbrev show_promises : Promises → List Mark
  show_promises p = word (codes "requires") ∷ (show_rel_clause p.0 ++ word (codes "ensures") ∷ (show_rel_clause p.1.0 ++ show_align p.1.1))

  abbrev ShapePromises : Promises → Type 0
  ShapePromises p = Always p.0 × (Always p.1.0 × IsShapedAlign p.1.1)

  promises_reads : Reads l show_promises ShapePromises (both (after (kind.Word keyword.Requires) (rel_clause_at l)) (both (after (kind.Word keyword.Ensures) (rel_clause_at l)) (align_at l)))
  promises_reads =
      both_reads l (λ c. word (codes "requires") ∷ show_rel_clause c) Always _ (λ (p : RelClause × Align). word (codes "ensures") ∷ (show_rel_clause p.0 ++ show_align p.1)) (λ p. Always p.0 × IsShapedAlign p.1) _
      (after_reads l show_rel_clause Always (rel_clause_at l) (kind.Word keyword.Requires) tt (rel_clause_reads l))
      (both_reads l (λ c. word (codes "ensures") ∷ show_rel_clause c) Always _ show_align IsShapedAlign _ (after_reads l show_rel_clause Always (rel_clause_at l) (kind.Word keyword.Ensures) tt (rel_clause_reads l)) (align_reads l wide))

  judgement_reads : Reads l show_judgement (λ j. IsShapedAlign j.align) (judgement_at l)
  unfolding judgement_at
  judgement_reads =
      remade l (λ (p : ℕ × (Subjects × Promises)). begins p.0 (word (codes "judge") ∷ (show_about show_subject (λ p. Always p.0 × Always p.1) subject_at subject_reads p.1.0 ++ show_promises p.1.1)))
      (λ p. (Always p.1.0.0 × ((Always p.1.0.1.0.0 × Always p.1.0.1.0.1) × (Always p.1.0.1.1.0 × Always p.1.0.1.1.1))) × ShapePromises p.1.1) _ show_judgement (λ j. IsShapedAlign j.align) judgement_from
      (λ j. (j.at, ((j.name, (j.left, j.right)), (j.needs, (j.gives, j.align)))))
      (placed_reads l _ _ _ (after_reads l _ _ _ (kind.Word keyword.Judge) tt
      (both_reads l _ _ (about_at subject_at) show_promises ShapePromises _ (about_reads show_subject (λ p. Always p.0 × Always p.1) subject_at subject_reads) promises_reads)))
      (λ p. refl) (λ j. refl)
      (λ j. ap (λ ms. begins j.at (word (codes "judge") ∷ named j.name ∷ word (codes ":") ∷ (show_subject j.left ++ word (codes "~") ∷ (show_subject j.right ++ word (codes "requires") ∷ ms))))
      (sym (append_assoc (show_rel_clause j.needs) (word (codes "ensures") ∷ show_rel_clause j.gives) (show_align j.align))))
      (λ j h. h.1.1.1) (λ j h. ((tt, ((tt, tt), (tt, tt))), (tt, (tt, h))))

  -- ---- pairs of modules

  abbrev show_coupling : RelClause → List Mark
  show_coupling c = word (codes "coupling") ∷ (show_rel_clause c ++ word (codes ";") ∷ [])

  coupling_reads : Reads l show_coupling Always (coupling_at l)
  unfolding coupling_at
  coupling_reads = after_reads l (λ c. show_rel_clause c ++ word (codes ";") ∷ []) Always _ (kind.Word keyword.Coupling) tt (before_reads l show_rel_clause Always (rel_clause_at l) (kind.Symbol symbol.Semicolon) tt (rel_clause_reads l))

  abbrev show_pair_init : ℕ × Align → List Mark
  show_pair_init p = begins p.0 (word (codes "init") ∷ show_align p.1)

  pair_init_reads : Reads l show_pair_init (λ p. IsShapedAlign p.1) (pair_init_at l)
  unfolding pair_init_at
  pair_init_reads = placed_reads l (λ a. word (codes "init") ∷ show_align a) IsShapedAlign _ (after_reads l show_align IsShapedAlign (align_at l) (kind.Word keyword.Init) tt (align_reads l wide))

  pair_method_reads : Reads l show_pair_method ShapePair (pair_method_at l)
  unfolding pair_method_at
  pair_method_reads =
      remade l (λ (p : ℕ × (Word × Align)). begins p.0 (word (codes "method") ∷ named p.1.0 ∷ show_align p.1.1)) (λ p. Always p.1.0 × IsShapedAlign p.1.1) _ show_pair_method ShapePair (λ p. (p.0, p.1.0, p.1.1)) (λ m. (m.0, (m.1, m.2)))
      (placed_reads l _ _ _ (after_reads l _ _ _ (kind.Word keyword.Method) tt (both_reads l (λ x. named x ∷ []) Always name_at show_align IsShapedAlign _ (name_reads l) (align_reads l wide))))
      (λ p. refl) (λ m. refl) (λ m. refl) (λ m h. h.1) (λ m h. (tt, h))

  pair_method_some : SomeBegins show_pair_method ShapePair (is_next (kind.Word keyword.Method))
  pair_method_some [] kinds e = absurd cc
  pair_method_some (t ∷ ts) kinds e = let x = pair_method_reads.one in ((t.at, x.0.1, x.0.2), x.1, (is_fixed t (kind.Word keyword.Method) tt kinds.0 e, (refl, tt), tt, tt))

  abbrev show_pair_methods : List (ℕ × Word × Align) → List Mark
  show_pair_methods ms = repeated show_pair_method 1 ms ++ word (codes "}") ∷ []

  pair_methods_reads : Reads l show_pair_methods (AllByRecursion ShapePair) (closed (pair_methods_at l))
  pair_methods_reads = closed_many l (kind.Word keyword.Method) tt show_pair_method ShapePair (pair_method_at l) pair_method_reads (λ s. (This (kind.Word keyword.Method), inl refl, (tt, refl))) pair_method_some (λ s. (omega arith, refl)) refl

  abbrev Coupled : Type 0
  Coupled = RelClause × ((ℕ × Align) × List (ℕ × Word × Align))

  abbrev show_coupled : Coupled → List Mark
  show_coupled p = word (codes "{") ∷ (show_coupling p.0 ++ (show_pair_init p.1.0 ++ show_pair_methods p.1.1))

  abbrev ShapeCoupled : Coupled → Type 0
  ShapeCoupled p = Always p.0 × (IsShapedAlign p.1.0.1 × AllByRecursion ShapePair p.1.1)

  coupled_reads : Reads l show_coupled ShapeCoupled (opened (both (coupling_at l) (both (pair_init_at l) (closed (pair_methods_at l)))))
  coupled_reads =
      after_reads l (λ (p : Coupled). show_coupling p.0 ++ (show_pair_init p.1.0 ++ show_pair_methods p.1.1)) ShapeCoupled _ (kind.Symbol symbol.OpenBrace) tt
      (both_reads l show_coupling Always _ (λ (p : (ℕ × Align) × List (ℕ × Word × Align)). show_pair_init p.0 ++ show_pair_methods p.1) _ _ coupling_reads
      (both_reads l show_pair_init (λ p. IsShapedAlign p.1) _ show_pair_methods _ _ pair_init_reads pair_methods_reads))

  abbrev show_name : Word → List Mark
  show_name x = named x ∷ []

  pair_reads : Reads l show_pair (λ p. IsShapedAlign p.init.1 × AllByRecursion ShapePair p.methods) (pair_at l)
  unfolding pair_at
  pair_reads =
      remade l (λ (p : ℕ × ((Word × (Word × Word)) × Coupled)). begins p.0 (word (codes "pair") ∷ (show_about show_name Always name_at (name_reads l) p.1.0 ++ show_coupled p.1.1)))
      (λ p. (Always p.1.0.0 × (Always p.1.0.1.0 × Always p.1.0.1.1)) × ShapeCoupled p.1.1) _ show_pair (λ p. IsShapedAlign p.init.1 × AllByRecursion ShapePair p.methods) pair_from
      (λ p. (p.at, ((p.name, (p.left, p.right)), (p.coupling, (p.init, p.methods)))))
      (placed_reads l _ _ _ (after_reads l _ _ _ (kind.Word keyword.Pair) tt
      (both_reads l _ _ (about_at name_at) show_coupled ShapeCoupled _ (about_reads show_name Always name_at (name_reads l)) coupled_reads)))
      (λ p. refl) (λ p. refl) (λ p. simp append_assoc) (λ p h. h.1.1) (λ p h. ((tt, (tt, tt)), (tt, h)))

pub item_shallow : (l : Limits) (i : Item) → IsShallow l (show_item i)
item_shallow l (OfClass c) = (omega arith, refl)
item_shallow l (OfInterface i) = (omega arith, refl)
item_shallow l (OfModule m) = (omega arith, refl)
item_shallow l (OfUnit u) = (omega arith, refl)
item_shallow l (OfClient c) = (omega arith, refl)
item_shallow l (OfJudgement j) = (omega arith, refl)
item_shallow l (OfPair p) = (omega arith, refl)

-- ---- all items

abbrev item_firsts : List First
item_firsts =
    This (kind.Word keyword.Class) ∷ This (kind.Word keyword.Interface) ∷ This (kind.Word keyword.Module) ∷ This (kind.Word keyword.Unit)
    ∷ This (kind.Word keyword.Client) ∷ This (kind.Word keyword.Judge) ∷ This (kind.Word keyword.Pair) ∷ []

abbrev Of : {A : Type 0} → (A → Item) → (A → Type 0) → Item → Type 0
Of f Shape = Image f Shape

abbrev OneOf : Item → Type 0
OneOf i =
    Of OfClass Always i ⊎ (Of OfInterface Always i ⊎ (Of OfModule Always i ⊎ (Of OfUnit Always i
    ⊎ (Of OfClient Always i ⊎ (Of OfJudgement (λ j. IsShapedAlign j.align) i ⊎ Of OfPair (λ p. IsShapedAlign p.init.1 × AllByRecursion ShapePair p.methods) i)))))

one_of : (i : Item) → IsShapedItem i → OneOf i
one_of (OfClass c) h = inl (c, refl, tt)
one_of (OfInterface c) h = inr (inl (c, refl, tt))
one_of (OfModule c) h = inr (inr (inl (c, refl, tt)))
one_of (OfUnit c) h = inr (inr (inr (inl (c, refl, tt))))
one_of (OfClient c) h = inr (inr (inr (inr (inl (c, refl, tt)))))
one_of (OfJudgement c) h = inr (inr (inr (inr (inr (inl (c, refl, h))))))
one_of (OfPair c) h = inr (inr (inr (inr (inr (inr (c, refl, h))))))

shaped_as : (i : Item) → OneOf i → IsShapedItem i
shaped_as i (inl a) = subst IsShapedItem a.1 tt
shaped_as i (inr (inl a)) = subst IsShapedItem a.1 tt
shaped_as i (inr (inr (inl a))) = subst IsShapedItem a.1 tt
shaped_as i (inr (inr (inr (inl a)))) = subst IsShapedItem a.1 tt
shaped_as i (inr (inr (inr (inr (inl a))))) = subst IsShapedItem a.1 tt
shaped_as i (inr (inr (inr (inr (inr (inl a)))))) = subst IsShapedItem a.1 a.2
shaped_as i (inr (inr (inr (inr (inr (inr a)))))) = subst IsShapedItem a.1 a.2

some_item_mark : (l : Limits) (i : Item) → 0 < length (show_item i)
some_item_mark l (OfClass c) = omega arith
some_item_mark l (OfInterface c) = omega arith
some_item_mark l (OfModule c) = omega arith
some_item_mark l (OfUnit c) = omega arith
some_item_mark l (OfClient c) = omega arith
some_item_mark l (OfJudgement c) = omega arith
some_item_mark l (OfPair c) = omega arith

told_item : (l : Limits) → 0 < l.deepest → 0 < l.most → (i : Item) → AreTold (show_item i)
told_item l deep wide (OfClass c) = (class_reads l deep wide).told c
told_item l deep wide (OfInterface c) = (interface_reads l deep wide).told c
told_item l deep wide (OfModule c) = (module_reads l deep wide).told c
told_item l deep wide (OfUnit c) = (unit_reads l deep wide).told c
told_item l deep wide (OfClient c) = (client_reads l deep wide).told c
told_item l deep wide (OfJudgement c) = (judgement_reads l deep wide).told c
told_item l deep wide (OfPair c) = (pair_reads l deep wide).told c

pub item_reads : (l : Limits) → 0 < l.deepest → 0 < l.most → Reads l show_item IsShapedItem (item_at l)
unfolding item_at other_item_at
item_reads l deep wide =
    shaped l show_item _ OneOf (item_at l)
    (choose_of (production l show_class Always (class_at l) show_item OfClass (This (kind.Word keyword.Class) ∷ []) (class_reads l deep wide) (λ a. refl) (λ a. (This (kind.Word keyword.Class), inl refl, (tt, refl))))
    (choose_of (production l show_interface Always (interface_at l) show_item OfInterface (This (kind.Word keyword.Interface) ∷ []) (interface_reads l deep wide) (λ a. refl) (λ a. (This (kind.Word keyword.Interface), inl refl, (tt, refl))))
    (choose_of (production l show_module Always (module_at l) show_item OfModule (This (kind.Word keyword.Module) ∷ []) (module_reads l deep wide) (λ a. refl) (λ a. (This (kind.Word keyword.Module), inl refl, (tt, refl))))
    (choose_of (production l show_unit Always (unit_at l) show_item OfUnit (This (kind.Word keyword.Unit) ∷ []) (unit_reads l deep wide) (λ a. refl) (λ a. (This (kind.Word keyword.Unit), inl refl, (tt, refl))))
    (choose_of (production l show_client Always (client_at l) show_item OfClient (This (kind.Word keyword.Client) ∷ []) (client_reads l deep wide) (λ a. refl) (λ a. (This (kind.Word keyword.Client), inl refl, (tt, refl))))
    (choose_of (production l show_judgement (λ j. IsShapedAlign j.align) (judgement_at l) show_item OfJudgement (This (kind.Word keyword.Judge) ∷ []) (judgement_reads l deep wide) (λ a. refl) (λ a. (This (kind.Word keyword.Judge), inl refl, (tt, refl))))
    (production l show_pair (λ p. IsShapedAlign p.init.1 × AllByRecursion ShapePair p.methods) (pair_at l) show_item OfPair (This (kind.Word keyword.Pair) ∷ []) (pair_reads l deep wide) (λ a. refl) (λ a. (This (kind.Word keyword.Pair), inl refl, (tt, refl)))) refl) refl) refl) refl) refl) refl)
    IsShapedItem shaped_as one_of (some_item_mark l) (told_item l deep wide)

item_first : (i : Item) → BeginsAs item_firsts (show_item i)
item_first (OfClass c) = (This (kind.Word keyword.Class), inl refl, (tt, refl))
item_first (OfInterface c) = (This (kind.Word keyword.Interface), inr (inl refl), (tt, refl))
item_first (OfModule c) = (This (kind.Word keyword.Module), inr (inr (inl refl)), (tt, refl))
item_first (OfUnit c) = (This (kind.Word keyword.Unit), inr (inr (inr (inl refl))), (tt, refl))
item_first (OfClient c) = (This (kind.Word keyword.Client), inr (inr (inr (inr (inl refl)))), (tt, refl))
item_first (OfJudgement c) = (This (kind.Word keyword.Judge), inr (inr (inr (inr (inr (inl refl))))), (tt, refl))
item_first (OfPair c) = (This (kind.Word keyword.Pair), inr (inr (inr (inr (inr (inr (inl refl)))))), (tt, refl))

pub item_always : AlwaysBegins show_item IsShapedItem begins_item
item_always i ts kinds good goes = always_begins item_firsts (show_item i) ts (item_first i) kinds good.1 goes

some_depth : 0 < limits.deepest
some_depth = omega arith

some_width : 0 < limits.most
some_width = omega arith

begun : (t : Token) (ts : List Token) → HaveKinds (t ∷ ts) → begins_item (t ∷ ts) ≡ true → (i : Item) × Good show_item IsShapedItem i × GoesOn 1 (show_item i) (tokens_of (t ∷ ts))
begun t ts kinds e =
    elim (or_cases _ _ e) [
      | inl n ↦ let x = (class_reads limits some_depth some_width).one in (OfClass (record x.0 { at = t.at }), (tt, x.1.1), (is_fixed t (kind.Word keyword.Class) tt kinds.0 n, (refl, tt), tt, tt))
      | inr e ↦ elim (or_cases _ _ e) [
        | inl n ↦ let x = (interface_reads limits some_depth some_width).one in (OfInterface (record x.0 { at = t.at }), (tt, x.1.1), (is_fixed t (kind.Word keyword.Interface) tt kinds.0 n, (refl, tt), tt, tt))
        | inr e ↦ elim (or_cases _ _ e) [
          | inl n ↦ let x = (module_reads limits some_depth some_width).one in (OfModule (record x.0 { at = t.at }), (tt, x.1.1), (is_fixed t (kind.Word keyword.Module) tt kinds.0 n, (refl, tt), tt, tt))
          | inr e ↦ elim (or_cases _ _ e) [
            | inl n ↦ let x = (unit_reads limits some_depth some_width).one in (OfUnit (record x.0 { at = t.at }), (tt, x.1.1), (is_fixed t (kind.Word keyword.Unit) tt kinds.0 n, (refl, tt), tt, tt))
            | inr e ↦ elim (or_cases _ _ e) [
              | inl n ↦ let x = (client_reads limits some_depth some_width).one in (OfClient (record x.0 { at = t.at }), (tt, x.1.1), (is_fixed t (kind.Word keyword.Client) tt kinds.0 n, (refl, tt), tt, tt))
              | inr e ↦ elim (or_cases _ _ e) [
                | inl n ↦ let x = (judgement_reads limits some_depth some_width).one in (OfJudgement (record x.0 { at = t.at }), x.1, (is_fixed t (kind.Word keyword.Judge) tt kinds.0 n, (refl, tt), tt, tt))
                | inr n ↦ let x = (pair_reads limits some_depth some_width).one in (OfPair (record x.0 { at = t.at }), x.1, (is_fixed t (kind.Word keyword.Pair) tt kinds.0 n, (refl, tt), tt, tt))
              ]
            ]
          ]
        ]
      ]
    ]

pub item_some : SomeBegins show_item IsShapedItem begins_item
item_some [] kinds e = absurd cc
item_some (t ∷ ts) kinds e = begun t ts kinds e

no_item : (k : Kind) (fixed : IsFixed k) → are_apart item_firsts (This k ∷ []) ≡ true → NeverBegins (λ (u : Unit {0}). word (fixed_text k) ∷ []) (Always {X = Unit {0}}) begins_item
no_item k fixed apart = word_never item_firsts k fixed (λ (u : Unit {0}). word (fixed_text k) ∷ []) Always apart (λ u. (This k, inl refl, (fixed, refl)))

pub item_never : (k : Kind) → (k ≡ kind.Symbol symbol.CloseParenthesis) ⊎ (k ≡ kind.Symbol symbol.CloseBracket) → NeverBegins (λ (u : Unit {0}). word (fixed_text k) ∷ []) (Always {X = Unit {0}}) begins_item
item_never k which =
    elim which [
      | inl h ↦ subst (λ j. NeverBegins (λ (u : Unit {0}). word (fixed_text j) ∷ []) (Always {X = Unit {0}}) begins_item) (sym h) (no_item (kind.Symbol symbol.CloseParenthesis) tt refl)
      | inr h ↦ subst (λ j. NeverBegins (λ (u : Unit {0}). word (fixed_text j) ∷ []) (Always {X = Unit {0}}) begins_item) (sym h) (no_item (kind.Symbol symbol.CloseBracket) tt refl)
    ]
