-- The run of a client that is linked with a module, and the same run under a watch on the client's code.
use Rattle.std.specs.Prelude.{ℕ, Bool, true, false, not, ◌||◌, List, ◌++◌, map, Option, Some, None, option_map}
use Rattle.std.specs.List.{filter_map}
use Rattle.rel_lang.specs.Syntax.{Body, Proc, Sig, Interface, Module, Client}
use Rattle.rel_lang.specs.State.{Tables, State}
use Rattle.rel_lang.specs.Scope.{pre_scope, client_setting, signature_setting, method_setting, init_setting}
use Rattle.rel_lang.specs.Truth.{holds}
use Rattle.rel_lang.specs.Run.{Picks, Outcome, and_then, Callee, Watch, unwatched, Program, code_of, begin, run_of, module_program}
use Rattle.rel_lang.specs.Lookup.{find_method, find_body}
use Rattle.rel_lang.specs.Boundary.{in_boundary}

abbrev pub client_callee : Interface → Client → Proc → Callee
client_callee i c q = record { name = q.name; setting = client_setting i c q; commands = q.body.commands; is_watched = true }

abbrev pub method_callee : Interface → Module → Sig → Body → Callee
method_callee i m q b = record { name = q.name; setting = method_setting i m q b; commands = b.commands; is_watched = false }

-- the methods, with the bodies that the module gives them
abbrev pub method_callees : Interface → Module → List Callee
method_callees i m = filter_map (λ q. option_map (method_callee i m q) (find_body q.name m.methods)) i.methods

-- the client's procedures and the module's methods
abbrev pub linked_program : Tables → Interface → Module → Client → Watch → Program
linked_program tables i m c w = record { tables = tables; callees = map (client_callee i c) c.procs ++ method_callees i m; watch = w }

-- The module's init and then the client's main, both at the bound. What main returns is the value of `result` in the state in which it ends.
abbrev pub linked_under : Watch → Tables → Interface → Module → Client → Proc → ℕ → State → Picks → Outcome
linked_under w tables i m c main n s k =
    and_then (run_of (module_program tables) n (code_of (init_setting i m) false) m.init.commands (begin (init_setting i m) s) k)
    (λ t j. run_of (linked_program tables i m c w) n (code_of (client_setting i c main) true) main.body.commands (begin (client_setting i c main) t) j)

abbrev pub linked : Tables → Interface → Module → Client → Proc → ℕ → State → Picks → Outcome
linked = linked_under unwatched

-- the precondition of the method of this name, where there is one, at the arguments
abbrev pub is_ready : Tables → Interface → Option Sig → State → Bool
is_ready tables i None s = true
is_ready tables i (Some q) s = holds tables (pre_scope (signature_setting i q)) q.spec.needs.formula s s

-- Client code touches no location of the boundary as it is at that moment, and calls no method whose precondition is false.
abbrev pub client_watch : Tables → Interface → Watch
client_watch tables i = record {
  may_touch = λ s o f. not (in_boundary tables i s o f);
  may_call = λ q s. q.is_watched || is_ready tables i (find_method q.name i.methods) s;
}

abbrev pub strict : Tables → Interface → Module → Client → Proc → ℕ → State → Picks → Outcome
strict tables i = linked_under (client_watch tables i) tables i
