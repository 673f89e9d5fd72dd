-- Bodies, procedures and methods are read exactly.
use Rattle.std.proofs.Common.{◌≡◌, ◌+◌, ◌<◌, List, [], ◌∷◌, ◌++◌, refl, sym, ap, subst, append_assoc, arith}
use Rattle.std.specs.Prelude.{codes}
use Rattle.std.proofs.Math.Path.{fun_ext}
use Rattle.std.specs.List.{AllByRecursion}
use Rattle.rel_lang.specs.Syntax.{Word, Ty, Block, Decl, Spec, Proc}
use Rattle.rel_lang.specs.Text.{Mark, word, named, begins, braced, show_type, show_locals, show_commands, show_params, show_head, show_clause, show_spec, show_proc, show_sig}
use Rattle.rel_lang.specs.Refusal.{Limits}
use Rattle.rel_lexer.specs.declared.Kind.TheVariants as kind
use Rattle.rel_lexer.specs.declared.keywords.Keyword.TheVariants as keyword
use Rattle.rel_lexer.specs.declared.symbols.Symbol.TheVariants as symbol
use Rattle.rel_parse.specs.Reading.{is_next, name_at, before}
use Rattle.rel_parse.specs.Firsts.{This}
use Rattle.rel_parse.specs.Commands.{commands_at}
use Rattle.rel_parse.proofs.Laws.{Reads, Always, NeverBegins, name_reads, both_reads, after_reads, before_reads, placed_reads}
use Rattle.rel_decls.specs.Specifications.{clause_at, spec_at}
use Rattle.rel_decls.specs.Procedures.{Content, content_at, Head, head_at, proc_from, proc_at, sig_at}
use Rattle.rel_parse.proofs.Commands.{to_brace_reads, to_brace_never}
use Rattle.rel_decls.proofs.Declarations.{remade, all_always, type_reads, decls_reads, params_reads}
use Rattle.rel_decls.proofs.Specifications.{close_brace, clause_reads}
use Rattle.rel_decls.proofs.Writes.{writes_reads}

module _ (l : Limits) (deep : 0 < l.deepest) (wide : 0 < l.most) where
  pub spec_reads : Reads l show_spec Always (spec_at l)
  unfolding spec_at
  spec_reads =
      remade l _ _ _ show_spec Always (λ p. record { needs = p.0; gives = p.1.0; writes = p.1.1 }) (λ s. (s.needs, (s.gives, s.writes)))
      (both_reads l _ _ _ _ _ _ (after_reads l show_clause Always (clause_at l) (kind.Word keyword.Requires) tt (clause_reads l))
      (both_reads l _ _ _ _ _ _ (after_reads l show_clause Always (clause_at l) (kind.Word keyword.Ensures) tt (clause_reads l)) (writes_reads l deep)))
      (λ p. refl) (λ s. refl) (λ s. simp append_assoc) (λ s h. tt) (λ s h. (tt, (tt, all_always s.writes)))

  abbrev pub show_content : Content → List Mark
  show_content c = braced (show_locals c.0 ++ show_commands 1 1 c.1)

  abbrev pub ShapeContent : Content → Type 0
  ShapeContent c = AllByRecursion (Always {X = Decl}) c.0 × Always c.1

  abbrev commands_closed : Block → List Mark
  commands_closed b = show_commands 1 1 b ++ word (codes "}") ∷ []

  closed_commands : Reads l commands_closed Always (before close_brace (commands_at l.most l.deepest))
  closed_commands = to_brace_reads l 1 l.deepest (omega arith) wide

  no_local : NeverBegins commands_closed Always (is_next (kind.Word keyword.Var))
  no_local = to_brace_never 1 (This (kind.Word keyword.Var) ∷ []) refl

  pub content_reads : Reads l show_content ShapeContent (content_at l)
  unfolding content_at
  content_reads =
      subst (λ s. Reads l s ShapeContent (content_at l)) (fun_ext shown)
      (after_reads l (λ (c : Content). show_locals c.0 ++ (show_commands 1 1 c.1 ++ word (codes "}") ∷ [])) ShapeContent _ (kind.Symbol symbol.OpenBrace) tt
      (decls_reads l (kind.Word keyword.Var) tt commands_closed Always _ closed_commands no_local))
    where
      shown : (c : Content) → word (codes "{") ∷ (show_locals c.0 ++ (show_commands 1 1 c.1 ++ word (codes "}") ∷ [])) ≡ show_content c
      shown c = simp append_assoc

  abbrev show_heading : Head → List Mark
  show_heading h = show_head h.0 h.1.0 h.1.1

  abbrev ShapeHead : Head → Type 0
  ShapeHead h = Always h.0 × (AllByRecursion (Always {X = Decl}) h.1.0 × Always h.1.1)

  head_reads : Reads l show_heading ShapeHead (head_at l)
  unfolding head_at
  head_reads =
      both_reads l (λ x. named x ∷ []) Always name_at (λ (p : List Decl × Ty). show_params p.0 ++ word (codes ":") ∷ show_type p.1 ∷ []) (λ p. AllByRecursion (Always {X = Decl}) p.0 × Always p.1) _ (name_reads l)
      (both_reads l show_params (AllByRecursion (Always {X = Decl})) _ (λ t. word (codes ":") ∷ show_type t ∷ []) Always _ (params_reads l) (after_reads l (λ t. show_type t ∷ []) Always _ (kind.Symbol symbol.Colon) tt (type_reads l)))

  good_params : (ds : List Decl) → AllByRecursion (Always {X = Decl}) ds
  good_params ds = all_always ds

  pub proc_reads : Reads l show_proc Always (proc_at l)
  unfolding proc_at
  proc_reads =
      remade l _ _ _ show_proc Always proc_from (λ p. (p.at, (p.body.at, ((p.name, (p.params, p.result)), (p.spec, (p.body.locals, p.body.commands))))))
      (placed_reads l _ _ _ (placed_reads l _ _ _
      (after_reads l (λ (p : Head × (Spec × Content)). show_heading p.0 ++ (show_spec p.1.0 ++ show_content p.1.1)) _ _ (kind.Word keyword.Proc) tt
      (both_reads l show_heading ShapeHead (head_at l) (λ (p : Spec × Content). show_spec p.0 ++ show_content p.1) _ _ head_reads
      (both_reads l show_spec Always _ show_content ShapeContent _ spec_reads content_reads)))))
      (λ p. refl) (λ p. refl)
      (λ p. ap (λ ms. begins p.at (begins p.body.at (word (codes "proc") ∷ ms))) (sym (append_assoc (show_head p.name p.params p.result) (show_spec p.spec) (show_content (p.body.locals, p.body.commands)))))
      (λ p h. tt) (λ p h. ((tt, (all_always p.params, tt)), (tt, (all_always p.body.locals, tt))))

  pub sig_reads : Reads l show_sig Always (sig_at l)
  unfolding sig_at
  sig_reads =
      remade l _ _ _ show_sig Always (λ p. record { at = p.0; name = p.1.0.0; params = p.1.0.1.0; result = p.1.0.1.1; spec = p.1.1 }) (λ s. (s.at, ((s.name, (s.params, s.result)), s.spec)))
      (placed_reads l _ _ _
      (after_reads l (λ (p : Head × Spec). show_heading p.0 ++ (show_spec p.1 ++ word (codes ";") ∷ [])) _ _ (kind.Word keyword.Method) tt
      (both_reads l show_heading ShapeHead (head_at l) (λ s. show_spec s ++ word (codes ";") ∷ []) Always _ head_reads (before_reads l show_spec Always _ (kind.Symbol symbol.Semicolon) tt spec_reads))))
      (λ p. refl) (λ p. refl)
      (λ s. ap (λ ms. begins s.at (word (codes "method") ∷ ms)) (sym (append_assoc (show_head s.name s.params s.result) (show_spec s.spec) (word (codes ";") ∷ []))))
      (λ p h. tt) (λ p h. ((tt, (all_always p.params, tt)), tt))
