-- What surrounds the procedures of a client.
use Rattle.std.specs.Prelude.{Bool, not, ◌&&◌, bytes_eq, List, map, Option, is_none}
use Rattle.rel_lang.specs.Syntax.{Word, Proc, Interface, Client}
use Rattle.rel_lang.specs.State.{Tables}
use Rattle.rel_lang.specs.Scope.{client_globals}
use Rattle.rel_lang.specs.Lookup.{main_name, find_main}
use Rattle.rel_lang.specs.Typed.{signature_of_proc}
use Rattle.rel_flaws.specs.Flaws.{Flaws, flawless, either, Pass, Fault}
use Rattle.rel_flaws.specs.View.{variables_seen}
use Rattle.rel_flaws.specs.CodeView.{callees_seen}
use Rattle.rel_types.specs.Items.{globals_of_interface, signatures_of, flaws_of_globals, setting_in_client, callees_in_client, flaws_of_client_proc, is_empty, proc_fault}
use Rattle.rel_types.specs.Called.{SameCallees}
use Rattle.rel_types.specs.Lookups.{SameLookups}
use Rattle.rel_types.specs.declared.around.Around as A

pub record IsAroundClient (i : Option Interface) (c : Client) (a : A.Around) : Type 0 where
  pub interface : SameLookups (variables_seen a.globals.interface.now) (globals_of_interface i)
  pub own : SameLookups (variables_seen a.globals.own.now) (client_globals c)
  pub procs : SameCallees (callees_seen a.procs.now) (map signature_of_proc c.procs)
  pub methods : SameCallees (callees_seen a.methods.now) (signatures_of i)

-- what a client has wrong at its place
abbrev pub flaws_of_client : Tables → Option Interface → Client → Flaws
flaws_of_client tables i c =
    either (flaws_of_globals tables (globals_of_interface i) c.globals) (record flawless { unknown = is_none i; no_main = is_none (find_main c) })

-- a procedure of a client, where these names stand before it
abbrev pub fault_of_proc : Tables → Pass → Option Interface → Client → List Word → Proc → Option Fault
fault_of_proc tables pass i c seen q = proc_fault tables pass (setting_in_client i c q) (callees_in_client i c) (flaws_of_client_proc i seen q) q

abbrev pub is_main_with_parameters : Proc → Bool
is_main_with_parameters q = bytes_eq q.name main_name && not (is_empty q.params)
