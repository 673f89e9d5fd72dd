-- What is allocated stays so.
use Rattle.std.proofs.Common.{◌≡◌, ℕ, zero, suc, Bool, true, false, not, ◌&&◌, ◌||◌, ◌==◌, if◌then◌else◌, IsTrue, Option, Some, None, List, [], ◌∷◌, map, refl, sym, subst, ◌∙◌}
use Rattle.std.specs.Ordering.{eq_by_cmp}
use Rattle.std.specs.FinSet as set
use Rattle.rel_list.specs.References.{Obj, obj_cmp, Ref, Region, is_in}
use Rattle.rel_list.proofs.Sets.{obj_total}
use Rattle.rel_lang.specs.Syntax.{Word, Decl, Command, At, Form, Skip, Assign, Load, Store, New, Call, If, While, Block, End, Then}
use Rattle.rel_lang.specs.State.{class_number, Variable, Value, State, Scope, find_variable, write_variable, with_defaults, with_object}
use Rattle.rel_lang.specs.Scope.{Setting, own_variables}
use Rattle.rel_lang.specs.Truth.{holds}
use Rattle.rel_lang.specs.Value.{value_of}
use Rattle.rel_lang.specs.Run.{Picks, Outcome, Done, Fault, Out, NoPick, and_then, Callee, Program, find_callee, Code, code_of, begin, with_arguments, with_new_call, called, pick, touch, call, step, step_command, steps, run_of}
use Rattle.rel_lang.specs.Laws.{NoObjectGoes}

abbrev pub Within : Region → Region → Type 0
Within g h = (o : Obj) → IsTrue (is_in o g) → IsTrue (is_in o h)

-- a run from a state with these objects keeps them
abbrev pub Grows : Region → Outcome → Type 0
Grows g (Done t k) = Within g t.alloc
Grows g Fault = Unit {0}
Grows g Out = Unit {0}
Grows g NoPick = Unit {0}

grows_and_then : (g : Region) (a : Outcome) (f : State → Picks → Outcome) → Grows g a → ((s : State) (k : Picks) → Grows s.alloc (f s k)) → Grows g (and_then a f)
grows_and_then g (Done s k) f first next = further (f s k) (next s k)
  where
    further : (b : Outcome) → Grows s.alloc b → Grows g b
    further (Done t j) h = λ o e. h o (first o e)
    further Fault h = tt
    further Out h = tt
    further NoPick h = tt
grows_and_then g Fault f first next = tt
grows_and_then g Out f first next = tt
grows_and_then g NoPick f first next = tt

grows_if : (g : Region) (t : Bool) (a b : Outcome) → Grows g a → Grows g b → Grows g (if t then a else b)
grows_if g true a b h i = h
grows_if g false a b h i = i

-- writing variables allocates nothing
write_allocates_none : (v : Option Variable) (value : Value) (s : State) → (write_variable v value s).alloc ≡ s.alloc
write_allocates_none None value s = refl
write_allocates_none (Some v) value s = refl

pub defaults_allocate_none : (sc : Scope) (s : State) → (with_defaults sc s).alloc ≡ s.alloc
defaults_allocate_none [] s = refl
defaults_allocate_none (v ∷ vs) s = defaults_allocate_none vs s

pub arguments_allocate_none : (g : Setting) (vs : List Value) (s : State) → (called g vs s).alloc ≡ s.alloc
arguments_allocate_none g vs s = arguments g.parameters vs
  where
    arguments : (ds : List Decl) (ws : List Value) → (with_arguments ds ws (with_new_call s)).alloc ≡ s.alloc
    arguments [] ws = refl
    arguments (d ∷ ds) [] = refl
    arguments (d ∷ ds) (w ∷ ws) = arguments ds ws

same_within : (g h : Region) → g ≡ h → Within h g
same_within g h e o inside = subst (λ r. IsTrue (is_in o r)) (sym e) inside

writes_grow : (v : Option Variable) (value : Value) (s : State) (k : Picks) → Grows s.alloc (Done (write_variable v value s) k)
writes_grow v value s k = same_within _ _ (write_allocates_none v value s)

object_within : (p : Program) (o : Obj) (s : State) → Within s.alloc (with_object p.tables o s).alloc
object_within p o s q inside = set.contains-insert obj_total s.alloc o q ∙ or_later (eq_by_cmp obj_cmp q o) _ inside
  where
    or_later : (a b : Bool) → b ≡ true → (a || b) ≡ true
    or_later true b e = refl
    or_later false b e = e

pick_grows : (g : Region) (c : ℕ) (s : State) (k : Picks) (next : Obj → Picks → Outcome) → ((o : Obj) (j : Picks) → Grows g (next o j)) → Grows g (pick c s k next)
pick_grows g c s [] next h = tt
pick_grows g c s (None ∷ k) next h = tt
pick_grows g c s (Some o ∷ k) next h = grows_if g (o.class == c && not (is_in o s.alloc)) _ _ (h o k) tt

module _ (p : Program) (again : Code → Block → State → Picks → Outcome) (h : (c : Code) (b : Block) (s : State) (k : Picks) → Grows s.alloc (again c b s k)) where
  touch_grows : (g : Region) (c : Code) (r : Ref) (f : Word) (s : State) (next : Obj → Outcome) → ((o : Obj) → Grows g (next o)) → Grows g (touch p again c r f s next)
  touch_grows g c None f s next i = tt
  touch_grows g c (Some o) f s next i = grows_if g (not c.is_watched || p.watch.may_touch s o f) _ _ (i o) tt

  call_grows : (c : Code) (q : Option Callee) (x : Word) (vs : List Value) (s : State) (k : Picks) → Grows s.alloc (call p again c q x vs s k)
  call_grows c None x vs s k = tt
  call_grows c (Some q) x vs s k =
      grows_if s.alloc (not c.is_watched || p.watch.may_call q (called q.setting vs s)) _ _
      (grows_and_then s.alloc _ _ (subst (λ g. Grows g (again (code_of q.setting q.is_watched) q.commands (begin q.setting (called q.setting vs s)) k)) entered
      (h (code_of q.setting q.is_watched) q.commands (begin q.setting (called q.setting vs s)) k))
      (λ t j. same_within _ _ (write_allocates_none (find_variable x c.scope) _ _)))
      tt
    where
      entered : (begin q.setting (called q.setting vs s)).alloc ≡ s.alloc
      entered = defaults_allocate_none (own_variables q.setting) _ ∙ arguments_allocate_none q.setting vs s

  mutual
    step_grows : (c : Code) (f : Form) (s : State) (k : Picks) → Grows s.alloc (step p again c f s k)
    step_grows c Skip s k = λ o e. e
    step_grows c (Assign x e) s k = writes_grow _ _ s k
    step_grows c (Load x y f) s k = touch_grows s.alloc c _ f s _ (λ o. writes_grow _ _ s k)
    step_grows c (Store y f e) s k = touch_grows s.alloc c _ f s _ (λ o q inside. inside)
    step_grows c (New x d) s k =
        pick_grows s.alloc (class_number p.tables d) s k _ (λ o j q inside. same_within _ _ (write_allocates_none (find_variable x c.scope) _ (with_object p.tables o s)) q (object_within p o s q inside))
    step_grows c (Call x q es) s k = call_grows c (find_callee q p.callees) x (map (λ e. value_of p.tables c.scope e s s) es) s k
    step_grows c (If t a b) s k = grows_if s.alloc (holds p.tables c.scope t s s) _ _ (steps_grow c a s k) (steps_grow c b s k)
    step_grows c (While t i b) s k =
        grows_if s.alloc (holds p.tables c.scope t s s) _ _ (grows_and_then s.alloc _ _ (h c b s k) (h c (Then (At 0 (While t i b)) End))) (λ o e. e)

    command_grows : (c : Code) (d : Command) (s : State) (k : Picks) → Grows s.alloc (step_command p again c d s k)
    command_grows c (At at f) s k = step_grows c f s k

    steps_grow : (c : Code) (b : Block) (s : State) (k : Picks) → Grows s.alloc (steps p again c b s k)
    steps_grow c End s k = λ o e. e
    steps_grow c (Then d ds) s k = grows_and_then s.alloc _ _ (command_grows c d s k) (steps_grow c ds)

abbrev never : Code → Block → State → Picks → Outcome
never c b s k = Out

pub run_grows : (p : Program) (n : ℕ) (c : Code) (b : Block) (s : State) (k : Picks) → Grows s.alloc (run_of p n c b s k)
run_grows p zero = steps_grow p never (λ c b s k. tt)
run_grows p (suc n) = steps_grow p (run_of p n) (run_grows p n)

pub no_object_goes : NoObjectGoes
no_object_goes p n c b s t k j e =
    set.contains-is_subset obj_total s.alloc t.alloc (subst (Grows s.alloc) e (run_grows p n c b s k))
