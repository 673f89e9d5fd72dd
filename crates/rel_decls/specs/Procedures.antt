-- How bodies, procedures and methods are read.
use Rattle.std.specs.Prelude.{ℕ, List}
use Rattle.rel_lang.specs.Syntax.{Word, Ty, Block, Decl, Spec, Body, Proc, Sig}
use Rattle.rel_lang.specs.Refusal.{Limits}
use Rattle.rel_lexer.specs.declared.Kind.TheVariants as kind
use Rattle.rel_lexer.specs.declared.keywords.Keyword.TheVariants as word
use Rattle.rel_lexer.specs.declared.symbols.Symbol.TheVariants as symbol
use Rattle.rel_parse.specs.Reading.{Reader, name_at, made, both, after, before, placed}
use Rattle.rel_parse.specs.Commands.{commands_at}
use Rattle.rel_decls.specs.Declarations.{type_at, decls_at, params_at}
use Rattle.rel_decls.specs.Specifications.{spec_at}

-- a body between its braces: the locals and the commands
abbrev pub Content : Type 0
Content = List Decl × Block

unfoldable pub content_at : Limits → Reader Content
content_at l =
    after (kind.Symbol symbol.OpenBrace)
    (both (decls_at (kind.Word word.Var) l.most) (before (kind.Symbol symbol.CloseBrace) (commands_at l.most l.deepest)))

abbrev pub body_from : ℕ × Content → Body
body_from p = record { at = p.0; locals = p.1.0; commands = p.1.1 }

-- the name, the parameters and the type of the result
abbrev pub Head : Type 0
Head = Word × (List Decl × Ty)

unfoldable pub head_at : Limits → Reader Head
head_at l = both name_at (both (params_at l.most) (after (kind.Symbol symbol.Colon) type_at))

abbrev pub proc_from : ℕ × (ℕ × (Head × (Spec × Content))) → Proc
proc_from p = record {
  at = p.0;
  name = p.1.1.0.0;
  params = p.1.1.0.1.0;
  result = p.1.1.0.1.1;
  spec = p.1.1.1.0;
  body = body_from (p.1.0, p.1.1.1.1);
}

unfoldable pub proc_at : Limits → Reader Proc
proc_at l = made proc_from (placed (placed (after (kind.Word word.Proc) (both (head_at l) (both (spec_at l) (content_at l))))))

unfoldable pub sig_at : Limits → Reader Sig
sig_at l =
    made (λ p. record { at = p.0; name = p.1.0.0; params = p.1.0.1.0; result = p.1.0.1.1; spec = p.1.1 })
    (placed (after (kind.Word word.Method) (both (head_at l) (before (kind.Symbol symbol.Semicolon) (spec_at l)))))
