-- What small programs do, and when small formulas are true.
use Rattle.std.proofs.Common.{List, ◌≡◌, ℕ, ℤ, pos, Bool, true, false, ◌&&◌, ◌||◌, true≢false, IsTrue, [], ◌∷◌, Some, None, refl, sym, ap, ◌∙◌, rules, not, ⊎_elim, inl, zero, suc, IsFalse, subst, if◌then◌else◌, ◌≢◌, ◌++◌}
use Rattle.std.specs.Prelude.{codes, bytes_eq}
use Rattle.std.proofs.lemmas.Slice.Eq.{bytes_eq-Decides}
use Rattle.std.specs.Ordering.{is_eq}
use Rattle.std.specs.Cmp.{IsTotalOrder, tied_itself}
use Rattle.std.specs.Cmp.Rules.{comparing}
use Rattle.std.specs.FinSet as set
use Rattle.rel_list.specs.References.{Obj, same_obj, Region, is_in}
use Rattle.rel_list.specs.Regions.{nothing, is_within}
use Rattle.rel_list.specs.Pairs.{Pairs, pair_cmp, has, Extends}
use Rattle.rel_list.proofs.Sets.{and_both}
use Rattle.rel_list.proofs.Regions.{retained, matched_is_each}
use Rattle.rel_lang.specs.Syntax as syntax
use Rattle.rel_lang.specs.Syntax.{Word, Ty, Int, Rgn, Class, Decl, Expression, Var, Num, Null, Add, Old, Formula, True, Eq, Lt, Command, At, Form, Skip, Assign, Load, Store, New, Call, If, While, Block, End, Then, Image}
use Rattle.rel_lang.specs.State.{Tables, Value, Number, Reference, Objects, Owner, ByInterface, ByModule, ByClient, ByCall, State, has_field, set_variable, with_object, Scope, write_variable, find_variable, is_variable, ByUnit, ByQuantifier, fits_type, value_in, with_defaults}
use Rattle.rel_lang.specs.Scope.{Setting, post_scope, body_scope, result_name, init_setting, method_setting, client_setting, module_globals, declared}
use Rattle.rel_lang.specs.Typed.{IsAmong, AreDistinct, HasType, IsTypedFormula, Signature, Names, IsTypedCommand, IsTypedSpec, IsTypedModule, IsTypedClient}
use Rattle.rel_lang.specs.Truth.{quantified, with_quantified, holds}
use Rattle.rel_lang.specs.Run.{Picks, Outcome, Done, Fault, Out, NoPick, unwatched, Program, code_of, begin, run_of, Code, module_program, and_then}
use Rattle.rel_lang.specs.Relation.{IsBijection, related_regions, related, objects_with, agree_image}
use Rattle.rel_lang.specs.Linked.{linked, strict, linked_program, client_watch}
use Rattle.rel_lang.specs.Value.{value_of}
use Rattle.rel_lang.specs.Meets.{Contract, IsStart, EndsWell, RunsWell, init_contract, method_contract, main_contract}
use Rattle.rel_lang.specs.Good.{IsGood}
use Rattle.rel_lang.proofs.Values.{each_is_within}
use Rattle.std.specs.List.{AllByRecursion, list_any}
use Rattle.rel_lang.specs.Respects.{IsLinkedStart, Respects}
use Rattle.rel_lang.proofs.Writes.{all_append}
use Rattle.rel_lang.proofs.Growth.{defaults_allocate_none}

-- ---- a class with two fields, three variables, and a procedure

abbrev x : Word
x = codes "x"

abbrev y : Word
y = codes "y"

abbrev p : Word
p = codes "p"

abbrev f : Word
f = codes "f"

abbrev node : Word
node = codes "node"

abbrev tables : Tables
tables = record {
  classes = node ∷ [];
  fields = record { name = f; class = node; ty = Int } ∷ [];
}

abbrev int_named : Word → Decl
int_named z = record { name = z; ty = Int }

abbrev blank : State
blank = record { vars = λ o z. Number (pos 0); alloc = nothing; heap = λ o g. Number (pos 0) }

-- x is a local of p, y a local of the caller and x one too
abbrev caller : Setting
caller = record { interface = []; own = []; parameters = []; locals = int_named x ∷ int_named y ∷ []; result = Some Int }

abbrev callee : Setting
callee = record { interface = []; own = []; parameters = []; locals = int_named x ∷ []; result = Some Int }

abbrev one : Command → Block
one c = Then c End

abbrev two : Form → Form → Block
two a b = Then (At 0 a) (Then (At 0 b) End)

-- p gives its local x as its result
abbrev program : Program
program = record {
  tables = tables;
  callees = record { name = p; setting = callee; commands = one (At 0 (Assign result_name (Var x))); is_watched = false } ∷ [];
  watch = unwatched;
}

abbrev run : ℕ → Block → Picks → Outcome
run n b k = run_of program n (code_of caller false) b (begin caller blank) k

abbrev local : Word → Outcome → Value
local z (Done s k) = s.vars ByCall z
local z o = Number (pos 99)

-- ---- runs

load_at_null : run 5 (one (At 0 (Load x y f))) [] ≡ Fault
load_at_null = refl

store_at_null : run 5 (one (At 0 (Store y f (Num (pos 1))))) [] ≡ Fault
store_at_null = refl

abbrev count_to : ℤ → Block
count_to n = one (At 0 (While (Lt (Var x) (Num n)) True (one (At 0 (Assign x (Add (Var x) (Num (pos 1))))))))

turns_cost_one : (run 1 (count_to (pos 2)) [] ≡ Out) × (local x (run 2 (count_to (pos 2)) []) ≡ Number (pos 2))
turns_cost_one = (refl, refl)

calls_cost_one : (run 0 (one (At 0 (Call y p []))) [] ≡ Out) × (local y (run 1 (one (At 0 (Call y p []))) []) ≡ Number (pos 0))
calls_cost_one = (refl, refl)

-- the caller's x comes back as 7, and p's began at 0
locals_are_own : (local x (run 1 (two (Assign x (Num (pos 7))) (Call y p [])) []) ≡ Number (pos 7))
    × (local y (run 1 (two (Assign x (Num (pos 7))) (Call y p [])) []) ≡ Number (pos 0))
locals_are_own = (refl, refl)

new_needs_a_pick : (run 1 (one (At 0 (New x node))) [] ≡ NoPick) × (run 1 (one (At 0 (New x node))) (None ∷ []) ≡ NoPick)
    × (run 1 (one (At 0 (New x node))) (Some (record { class = 1; number = 0 }) ∷ []) ≡ NoPick)
new_needs_a_pick = (refl, refl, refl)

old_result_is_0 : (s t : State) → holds tables (post_scope caller) (Eq (Old (Var result_name)) (Num (pos 0))) (begin caller s) t ≡ true
old_result_is_0 s t = refl

-- ---- new objects

abbrev node_at : ℕ → Obj
node_at n = record { class = 0; number = n }

-- an object that is allocated can't be taken again
new_takes_no_allocated : (s : State) (n : ℕ) → is_in (node_at n) s.alloc ≡ true
    → run_of program 1 (code_of caller false) (one (At 0 (New x node))) s (Some (node_at n) ∷ []) ≡ NoPick
new_takes_no_allocated s n inside = rw inside refl

-- one that isn't is allocated, with its field at 0, and x refers to it
new_object : (s : State) (n : ℕ) → is_in (node_at n) s.alloc ≡ false
    → run_of program 1 (code_of caller false) (one (At 0 (New x node))) s (Some (node_at n) ∷ [])
    ≡ Done (set_variable ByCall x (Reference (Some (node_at n))) (with_object tables (node_at n) s)) []
new_object s n outside = rw outside refl

-- ---- a client with a module

abbrev clause : Formula → syntax.Clause
clause q = record { at = 0; formula = q }

abbrev nothing_said : syntax.Spec
nothing_said = record { needs = clause True; gives = clause True; writes = [] }

abbrev body : Block → syntax.Body
body b = record { at = 0; locals = []; commands = b }

-- the boundary is the field f of the objects in the global x; the method p says nothing
abbrev store : syntax.Interface
store = record {
  at = 0;
  name = codes "store";
  globals = record { name = x; ty = Rgn } ∷ [];
  boundary_at = 0;
  boundary = record { region = Var x; field = f } ∷ [];
  init_ensures = clause True;
  init_writes = [];
  methods = record { at = 0; name = p; params = []; result = Int; spec = nothing_said } ∷ [];
}

-- its own global y is 1 after p
abbrev kept : syntax.Module
kept = record {
  at = 0;
  name = codes "same";
  interface = codes "store";
  globals = int_named y ∷ [];
  invariant = clause True;
  init = body End;
  methods = (p, body (one (At 0 (Assign y (Num (pos 1)))))) ∷ [];
}

-- a main with this body, in a client of the module's name with a global of its name
abbrev main : Block → syntax.Proc
main b = record { at = 0; name = codes "main"; params = []; result = Int; spec = nothing_said; body = body b }

abbrev user : Ty → Block → syntax.Client
user t b = record { at = 0; name = codes "same"; interface = codes "store"; globals = record { name = y; ty = t } ∷ []; procs = main b ∷ [] }

-- y refers to an object, and g is the boundary's region
abbrev inside : Region → State
inside g = set_variable (ByInterface (codes "store")) x (Objects g) (set_variable (ByClient (codes "same")) y (Reference (Some (node_at 0))) blank)

abbrev load : Block
load = one (At 0 (Load result_name y f))

abbrev class_node : Ty
class_node = Class node

-- a load of a boundary location by a client is a fault under the watch, and none without it
watched_load : (g : Region) → is_in (node_at 0) g ≡ true → strict tables store kept (user class_node load) (main load) 1 (inside g) [] ≡ Fault
watched_load g within = rw within refl

unwatched_load : (g : Region) → local result_name (linked tables store kept (user class_node load) (main load) 1 (inside g) []) ≡ Number (pos 0)
unwatched_load g = refl

-- outside the boundary the watch lets it be
outside_load : (g : Region) → is_in (node_at 0) g ≡ false → local result_name (strict tables store kept (user class_node load) (main load) 1 (inside g) []) ≡ Number (pos 0)
outside_load g without = rw without refl

abbrev set_and_call : Block
set_and_call = two (Assign y (Num (pos 7))) (Call result_name p [])

abbrev global : Owner → Outcome → Value
global o (Done s k) = s.vars o y
global o _ = Number (pos 99)

-- the module's y is set, and the client's is left alone
globals_are_own : (global (ByModule (codes "same")) (linked tables store kept (user Int set_and_call) (main set_and_call) 1 blank []) ≡ Number (pos 1))
    × (global (ByClient (codes "same")) (linked tables store kept (user Int set_and_call) (main set_and_call) 1 blank []) ≡ Number (pos 7))
globals_are_own = (refl, refl)

-- ---- formulas

-- what is old is read at entry, in an invariant too, and a quantified name keeps its value there
old_reads_the_entry : (s : State) → holds tables (body_scope caller) (Eq (Old (Var x)) (Num (pos 0))) (begin caller s) (set_variable ByCall x (Number (pos 7)) s) ≡ true
old_reads_the_entry s = refl

-- a quantified name has one value in the present and at entry
old_keeps_quantified : (entry s : State) (o : Obj)
    → holds tables (quantified x node ∷ []) (Eq (Old (Var x)) (Var x)) (with_quantified x o entry) (with_quantified x o s) ≡ same_obj o o
old_keeps_quantified entry s o = refl

-- ---- relations

null_is_alone : (q : Pairs) (a : Obj) → (related q (Reference None) (Reference (Some a)) ≡ false) × (related q (Reference (Some a)) (Reference None) ≡ false)
null_is_alone q a = (refl, refl)

-- a region with a member that has no partner isn't related
lonely_member : (q : Pairs) (g h : Region) (a : Obj) → IsTrue (is_in a g) → ((b : Obj) → ¬ (IsTrue (has q a b))) → ¬ (IsTrue (related_regions q g h))
lonely_member q g h a within lonely e =
    let m = (matched_is_each _ g h).0 (and_both _ _ e).0 a within in
    lonely m.0 m.2

lonely_on_the_right : (q : Pairs) (g h : Region) (b : Obj) → IsTrue (is_in b h) → ((a : Obj) → ¬ (IsTrue (has q a b))) → ¬ (IsTrue (related_regions q g h))
lonely_on_the_right q g h b within lonely e =
    let m = (matched_is_each _ h g).0 (and_both _ _ e).1 b within in
    lonely m.0 m.2

-- `agree` needs a partner of each object of the field's class on both sides, whatever the values
agree_needs_left_partners : (q : Pairs) (s t : State) (g h : Region) (n : ℕ) → IsTrue (is_in (node_at n) g) → ((b : Obj) → ¬ (IsTrue (has q (node_at n) b)))
    → ¬ (IsTrue (agree_image tables q f s t g h))
agree_needs_left_partners q s t g h n within lonely e =
    let kept_too : IsTrue (is_in (node_at n) (objects_with tables f g)) = retained g (has_field tables f) (node_at n) ∙ ap (λ b. b && true) within in
    let m = (matched_is_each _ _ h).0 (and_both _ _ e).0 (node_at n) kept_too in
    lonely m.0 (and_both _ _ m.2).0

agree_needs_right_partners : (q : Pairs) (s t : State) (g h : Region) (n : ℕ) → IsTrue (is_in (node_at n) h) → ((a : Obj) → ¬ (IsTrue (has q a (node_at n))))
    → ¬ (IsTrue (agree_image tables q f s t g h))
agree_needs_right_partners q s t g h n within lonely e =
    let kept_too : IsTrue (is_in (node_at n) (objects_with tables f h)) = retained h (has_field tables f) (node_at n) ∙ ap (λ b. b && true) within in
    let m = (matched_is_each _ _ g).0 (and_both _ _ e).1 (node_at n) kept_too in
    lonely m.0 (and_both _ _ m.2).0

-- an object that isn't allocated has no partner, and is related to another under an extension
new_objects_are_not_related : (q : Pairs) (s t : State) (a b : Obj) → IsBijection q s t → is_in a s.alloc ≡ false → ¬ (IsTrue (related q (Reference (Some a)) (Reference (Some b))))
new_objects_are_not_related q s t a b bijection new e = true≢false (sym (bijection.allocated a b e).0 ∙ new)

pair_total : IsTotalOrder pair_cmp
pair_total = search (comparing, rules)

new_objects_are_related_under_an_extension : (q : Pairs) (a b : Obj) → Extends q (set.insert q (a, b)) × IsTrue (related (set.insert q (a, b)) (Reference (Some a)) (Reference (Some b)))
new_objects_are_related_under_an_extension q a b = (
  λ c d e. set.contains-insert pair_total q (a, b) (c, d) ∙ or_later _ _ e,
  set.contains-insert pair_total q (a, b) (a, b) ∙ ap (λ r. is_eq r || has q a b) (tied_itself pair_total (a, b)),
)
  where
    or_later : (u v : Bool) → v ≡ true → (u || v) ≡ true
    or_later true v e = refl
    or_later false v e = e

-- ---- typing

abbrev is_among : Word → List Word → Bool
is_among z [] = false
is_among z (w ∷ ws) = bytes_eq z w || is_among z ws

abbrev are_distinct : List Word → Bool
are_distinct [] = true
are_distinct (z ∷ zs) = not (is_among z zs) && are_distinct zs

among_is_tested : (z : Word) (ws : List Word) → IsAmong z ws → is_among z ws ≡ true
among_is_tested z [] e = absurd e
among_is_tested z (w ∷ ws) e =
    ⊎_elim (λ here. ap (λ b. b || is_among z ws) ((bytes_eq-Decides z w).1 here)) (λ later. or_true (bytes_eq z w) _ (among_is_tested z ws later)) e
  where
    or_true : (u v : Bool) → v ≡ true → (u || v) ≡ true
    or_true true v h = refl
    or_true false v h = h

distinct : (zs : List Word) → are_distinct zs ≡ true → AreDistinct zs
distinct [] e = tt
distinct (z ∷ zs) e =
    let both = and_both _ _ e in
    (λ among. true≢false (sym (among_is_tested z zs among) ∙ false_of _ both.0), distinct zs both.1)
  where
    false_of : (b : Bool) → not b ≡ true → b ≡ false
    false_of true h = cc
    false_of false h = refl

-- the module and the client above are typed
kept_is_typed : IsTypedModule tables store kept
kept_is_typed = record {
  interface = refl;
  types = (tt, tt);
  names = distinct (result_name ∷ x ∷ y ∷ []) refl;
  invariant = tt;
  init = record { names = distinct (x ∷ y ∷ []) refl; locals = tt; commands = tt };
  listed = refl;
  methods = (record { names = distinct (x ∷ y ∷ result_name ∷ []) refl; locals = tt; commands = ((Int, (refl, refl), (refl, refl)), tt) }, tt);
}

nothing_is_typed : (g : Setting) → IsTypedSpec tables g nothing_said
nothing_is_typed g = record { needs = tt; gives = tt; writes = tt }

user_is_typed : IsTypedClient tables store (user class_node load)
user_is_typed = record {
  interface = refl;
  types = (inl refl, tt);
  names = distinct (result_name ∷ x ∷ y ∷ []) refl;
  proc_names = distinct (codes "main" ∷ p ∷ []) refl;
  main = refl;
  procs = (
    record {
      params = tt;
      result = tt;
      spec = nothing_is_typed _;
      body = record { names = distinct (x ∷ y ∷ result_name ∷ []) refl; locals = tt; commands = ((refl, (refl, refl)), tt) };
    },
    tt,
  );
}

-- a module's body calls nothing, and nothing calls a `main`
module_calls_nothing : (q : Word) → ¬ (IsTypedCommand tables (record { scope = body_scope (init_setting store kept); callees = [] }) (At 0 (Call y q [])))
module_calls_nothing q typed = typed.1

main_is_not_called : (ns : Names) (z : Word) (es : List Expression) → ¬ (IsTypedCommand tables ns (At 0 (Call z (codes "main") es)))
main_is_not_called ns z es typed = typed.0 refl

-- a parameter isn't assigned
abbrev with_parameter : Setting
with_parameter = record { interface = []; own = []; parameters = int_named x ∷ []; locals = []; result = Some Int }

parameters_stay : (ns : List Signature) → ¬ (IsTypedCommand tables (record { scope = body_scope with_parameter; callees = ns }) (At 0 (Assign x (Num (pos 1)))))
parameters_stay ns typed = true≢false (sym (typed.1).0)

-- null has every class, what is old isn't read in a precondition, and an int field has no image
null_is_null : (sc : Scope) → IsTypedFormula tables false sc (Eq Null Null)
null_is_null sc = (class_node, tt, tt)

no_old_before : (sc : Scope) (e : Expression) (t : Ty) → ¬ (HasType tables false sc (Old e) t)
no_old_before sc e t typed = true≢false (sym typed.0)

no_int_image : (sc : Scope) (g : Expression) (t : Ty) → ¬ (HasType tables true sc (Image g f) t)
no_int_image sc g t typed = typed.1 refl

-- ---- a good module

end_runs : (q : Program) (n : ℕ) (c : Code) (s : State) (k : Picks) → run_of q n c End s k ≡ Done s k
end_runs q zero c s k = refl
end_runs q (suc n) c s k = refl

assign_runs : (q : Program) (n : ℕ) (c : Code) (z : Word) (e : Expression) (s : State) (k : Picks)
    → run_of q n c (one (At 0 (Assign z e))) s k ≡ Done (write_variable (find_variable z c.scope) (value_of q.tables c.scope e s s) s) k
assign_runs q zero c z e s k = refl
assign_runs q (suc n) c z e s k = refl

-- a run that is done in a state that ends well
runs_well : (c : Contract) (entry t : State) (j : Picks) (run : Outcome) → run ≡ Done t j → EndsWell tables c entry t → RunsWell tables c entry run
runs_well c entry t j run is well = record {
  safe = λ fault. done_is_no_fault (sym is ∙ fault);
  ends = λ u k done. subst (EndsWell tables c entry) (state_is (sym is ∙ done)) well;
}
  where
    done_is_no_fault : {s : State} {k : Picks} → Done s k ≡ Fault → ⊥
    done_is_no_fault e = cc

    state_is : {s r : State} {k i : Picks} → Done s k ≡ Done r i → s ≡ r
    state_is e = cc

all_within : (g : Region) → IsTrue (is_within g g)
all_within g = each_is_within g g (λ o e. e)

-- a variable that may not change isn't the one that is written
unwritten : (b : Bool) (v w : Value) → IsFalse (b || false) → (if b then v else w) ≡ w
unwritten true v w h = absurd (true≢false h)
unwritten false v w h = refl

init_ends : (s : State) → IsStart tables (init_contract store kept) s → EndsWell tables (init_contract store kept) s s
init_ends s start = record {
  formed = start.formed;
  grown = all_within s.alloc;
  ensures = (refl, (refl, tt));
  changes = record { variables = λ o z other may. refl; locations = λ o g inside may. refl };
}

abbrev set_body : syntax.Body
set_body = body (one (At 0 (Assign y (Num (pos 1)))))

abbrev set_method : syntax.Sig
set_method = record { at = 0; name = p; params = []; result = Int; spec = nothing_said }

abbrev before : State → State
before s = begin (method_setting store kept set_method set_body) s

method_ends : (s : State) → IsStart tables (method_contract store kept set_method set_body) s
    → EndsWell tables (method_contract store kept set_method set_body) (before s) (set_variable (ByModule (codes "same")) y (Number (pos 1)) (before s))
method_ends s start = record {
  formed = record { variables = (start.formed.variables.0, (refl, (refl, tt))); locations = start.formed.locations };
  grown = all_within s.alloc;
  ensures = (refl, (refl, tt));
  changes = record { variables = λ o z other may. unwritten (is_variable o z (record { name = y; owner = ByModule (codes "same"); ty = Int; is_assignable = true })) _ _ may; locations = λ o g inside may. refl };
}

kept_is_good : IsGood tables store kept
kept_is_good = record {
  framed = λ s t formed later same holds. refl;
  init = λ s start n k. runs_well (init_contract store kept) s s k _ (end_runs (module_program tables) n (code_of (init_setting store kept) false) s k) (init_ends s start);
  methods = ((λ s start n k. runs_well (method_contract store kept set_method set_body) (before s) _ k _ (assign_runs (module_program tables) n (code_of (method_setting store kept set_method set_body) false) y (Num (pos 1)) (before s) k) (method_ends s start)), tt);
}

-- ---- a client that respects the interface

abbrev idle : syntax.Client
idle = user Int End

abbrev idle_setting : Setting
idle_setting = client_setting store idle (main End)

idle_is_typed : IsTypedClient tables store idle
idle_is_typed = record {
  interface = refl;
  types = (tt, tt);
  names = distinct (result_name ∷ x ∷ y ∷ []) refl;
  proc_names = distinct (codes "main" ∷ p ∷ []) refl;
  main = refl;
  procs = (
    record {
      params = tt;
      result = tt;
      spec = nothing_is_typed _;
      body = record { names = distinct (x ∷ y ∷ result_name ∷ []) refl; locals = tt; commands = tt };
    },
    tt,
  );
}

-- a client's variable is none of the module's
client_apart_from : (n k : Word) (z : Word) (ds : List Decl) → list_any (is_variable (ByClient n) z) (declared (ByModule k) true ds) ≡ false
client_apart_from n k z [] = refl
client_apart_from n k z (d ∷ ds) = client_apart_from n k z ds

-- a call's `result` is no other variable
begun : (o : Owner) (z : Word) (t : State) → o ≢ ByCall → (begin idle_setting t).vars o z ≡ t.vars o z
begun (ByInterface n) z t other = refl
begun (ByModule n) z t other = refl
begun (ByUnit n) z t other = refl
begun (ByClient n) z t other = refl
begun ByCall z t other = absurd (other refl)
begun ByQuantifier z t other = refl

module _ (m : syntax.Module) (good : IsGood tables store m) (s : State) (start : IsLinkedStart tables store m idle (main End) s) where
  nothing_more : (vs : Scope) → AllByRecursion (λ v. IsTrue (fits_type tables v.ty s.alloc (value_in s v))) vs → AllByRecursion (λ v. IsTrue (fits_type tables v.ty s.alloc (value_in s v))) (vs ++ [])
  nothing_more vs h = all_append _ vs [] h tt

  init_start : IsStart tables (init_contract store m) s
  init_start = record {
    formed = record { variables = (start.start.formed.variables.0, nothing_more (module_globals m) start.inside.variables); locations = start.start.formed.locations };
    defaults = start.start.defaults;
    requires = tt;
  }

  abbrev init_entry : State
  init_entry = begin (init_setting store m) s

  -- init's locals are a call's too
  init_begun : (vs : List Decl) (o : Owner) (z : Word) → o ≢ ByCall → (with_defaults (declared ByCall true vs ++ []) s).vars o z ≡ s.vars o z
  init_begun [] o z other = refl
  init_begun (d ∷ ds) (ByInterface n) z other = init_begun ds (ByInterface n) z other
  init_begun (d ∷ ds) (ByModule n) z other = init_begun ds (ByModule n) z other
  init_begun (d ∷ ds) (ByUnit n) z other = init_begun ds (ByUnit n) z other
  init_begun (d ∷ ds) (ByClient n) z other = init_begun ds (ByClient n) z other
  init_begun (d ∷ ds) ByCall z other = absurd (other refl)
  init_begun (d ∷ ds) ByQuantifier z other = init_begun ds ByQuantifier z other

  main_ends : (t : State) → EndsWell tables (init_contract store m) init_entry t → EndsWell tables (main_contract store m idle (main End)) (begin idle_setting s) (begin idle_setting t)
  main_ends t ends = record {
    formed = record {
      variables = (ends.formed.variables.0, (subst (λ v. IsTrue (fits_type tables Int t.alloc v)) (sym own_is) (int_fits (value_in s (record { name = y; owner = ByClient (codes "same"); ty = Int; is_assignable = true })) s.alloc t.alloc start.start.formed.variables.1.0), (refl, tt)));
      locations = ends.formed.locations;
    };
    grown = subst (λ g. IsTrue (is_within g t.alloc)) (defaults_allocate_none (declared ByCall true m.init.locals ++ []) s) ends.grown;
    ensures = (refl, tt);
    changes = record {
      variables = λ o z other may. begun o z t other ∙ ends.changes.variables o z other may ∙ init_begun m.init.locals o z other ∙ sym (begun o z s other);
      locations = λ o g inside may. ends.changes.locations o g (subst (λ a. IsTrue (is_in o a)) (sym (defaults_allocate_none (declared ByCall true m.init.locals ++ []) s)) inside) refl ∙ heap_is m.init.locals o g;
    };
  }
    where
      int_fits : (v : Value) (g h : Region) → IsTrue (fits_type tables Int g v) → IsTrue (fits_type tables Int h v)
      int_fits (Number n) g h e = refl
      int_fits (Reference r) g h e = cc
      int_fits (Objects k) g h e = cc

      own_is : t.vars (ByClient (codes "same")) y ≡ s.vars (ByClient (codes "same")) y
      own_is = ends.changes.variables (ByClient (codes "same")) y (λ e. cc) (client_apart_from (codes "same") m.name y m.globals) ∙ init_begun m.init.locals (ByClient (codes "same")) y (λ e. cc)

      heap_is : (ds : List Decl) (o : Obj) (g : Word) → (with_defaults (declared ByCall true ds ++ []) s).heap o g ≡ s.heap o g
      heap_is [] o g = refl
      heap_is (d ∷ ds) o g = heap_is ds o g

  idle_runs : (n : ℕ) (k : Picks) → RunsWell tables (main_contract store m idle (main End)) (begin idle_setting s) (strict tables store m idle (main End) n s k)
  idle_runs n k = after (run_of (module_program tables) n (code_of (init_setting store m) false) m.init.commands init_entry k) (good.init s init_start n k)
    where
      after : (a : Outcome) → RunsWell tables (init_contract store m) init_entry a → RunsWell tables (main_contract store m idle (main End)) (begin idle_setting s)
          (and_then a (λ t j. run_of (linked_program tables store m idle (client_watch tables store)) n (code_of idle_setting true) End (begin idle_setting t) j))
      after (Done t j) well =
          runs_well (main_contract store m idle (main End)) (begin idle_setting s) (begin idle_setting t) j _
          (end_runs (linked_program tables store m idle (client_watch tables store)) n (code_of idle_setting true) (begin idle_setting t) j) (main_ends t (well.ends t j refl))
      after Fault well = absurd (well.safe refl)
      after Out well = record { safe = λ e. cc; ends = λ t j e. cc }
      after NoPick well = record { safe = λ e. cc; ends = λ t j e. cc }

idle_respects : Respects tables store idle
idle_respects = record {
  typed = idle_is_typed;
  apart = (tt, tt);
  runs = λ m typed good s start n k. idle_runs m good s start n k;
}
