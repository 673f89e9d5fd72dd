-- The text of a name has its form.
use Rattle.std.proofs.Common.{ap, ◌∙◌, subst}
use Rattle.std.specs.Str.{chars}
use Rattle.rel_lang.specs.Tokens.{has_name_form}
use Rattle.rel_lexer.specs.Tokens.{IsOfKind}
use Rattle.rel_lexer.proofs.Names.{formed, name-token}
use Rattle.rel_lexer.proofs.parts.name.Goals as goal

pub name_kind-requires : goal.name_kind-requires
name_kind-requires c = ap (λ l. has_name_form (chars l)) c.split_at.ensures.front ∙ formed c.args.rest.now c.args.first c.name_len-len.result c.requires.begins c.requires.passes c.name_len-len.ensures

pub returns : goal.returns
returns c = name-token c.args.rest.now c.args.first c.name_len-len.result c.requires.begins c.requires.passes c.name_len-len.ensures c.name_kind.result (subst (IsOfKind c.name_kind.result) c.split_at.ensures.front c.name_kind.ensures)
