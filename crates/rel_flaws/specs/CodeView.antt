-- What the values of the code that goes over commands stand for.
use Rattle.std.specs.Prelude.{◌++◌, List, map}
use Rattle.rel_lang.specs.Syntax.{Word}
use Rattle.rel_lang.specs.Typed.{Signature}
use Rattle.rel_lang.specs.View.{decl_of}
use Rattle.rel_flaws.specs.Code as code
use Rattle.rel_flaws.specs.View.{type_seen, scope_of}
use Rattle.rel_flaws.specs.declared.code.Callee as C
use Rattle.rel_flaws.specs.declared.code.Code as D

abbrev pub callee_of : Word → C.Callee → Signature
callee_of p c = record { name = p; params = map decl_of c.params.now; result = type_seen c.result }

-- the procedures or methods that an index has, by name
abbrev pub callees_seen : List (Word × C.Callee) → List Signature
callees_seen es = map (λ e. callee_of e.0 e.1) es

abbrev pub code_of : D.Code → code.Code
code_of c = record { scope = scope_of c.scope; callees = callees_seen c.procs.now ++ callees_seen c.methods.now; may_call = c.may_call }
