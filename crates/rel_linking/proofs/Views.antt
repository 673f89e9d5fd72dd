-- A command's view, from the view of its form.
use Rattle.std.proofs.Common.{◌≡◌, rules}
use Rattle.rel_lang.specs.Syntax.{At, BiAt}
use Rattle.rel_lang.specs.declared.command.Command.{Command}
use Rattle.rel_lang.specs.declared.command.Form.{the_lemmas}
use Rattle.rel_lang.specs.declared.biprogram.BiCommand.{BiCommand}
use Rattle.rel_lang.specs.declared.biprogram.BiForm as B
use Rattle.rel_lang.specs.View.{form_of, command_of, biform_of, bicommand_of}

pub command_is : (c : Command) → command_of c ≡ At c.at (form_of c.form)
command_is c = search (rules, the_lemmas)

pub bicommand_is : (c : BiCommand) → bicommand_of c ≡ BiAt c.at (biform_of c.form)
bicommand_is c = search (rules, B.the_lemmas)
