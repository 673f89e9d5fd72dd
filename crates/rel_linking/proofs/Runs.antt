-- Straight runs of ints: where they end, what they leave as it was, and that every value stays a number.
use Rattle.std.proofs.Common.{◌≡◌, ◌≢◌, ℕ, zero, suc, Bool, true, false, ◌&&◌, if◌then◌else◌, IsTrue, List, [], ◌∷◌, ◌++◌, Option, Some, None, refl, sym, ap, subst, ◌∙◌}
use Rattle.std.specs.List.{AllByRecursion}
use Rattle.std.specs.Str.{bytes_eq}
use Rattle.std.proofs.lemmas.Slice.Eq.{bytes_eq-Decides}
use Rattle.rel_list.specs.References.{Region}
use Rattle.rel_lang.specs.Syntax.{Word, Ty, Int, Expression, Var, Num, Add, Sub, At, Assign, Block, End, Then, Effect}
use Rattle.rel_lang.specs.State.{Tables, Value, Number, Reference, Objects, as_number, default, fits_type, Owner, ByInterface, ByModule, ByUnit, ByClient, ByCall, ByQuantifier, same_owner, State, Variable, is_variable, Scope, find_variable, value_in, read_variable, write_variable, with_defaults}
use Rattle.rel_lang.specs.Value.{value_of}
use Rattle.rel_lang.specs.Run.{Program, Code, Picks, Outcome, Done, Out, steps, run_of}
use Rattle.rel_linking.specs.Form.{IsArithmetic, AssignsListed}
use Rattle.rel_linking.proofs.FormsScope.{AreInts}

-- ---- lists and tests

pub each_more : {X : Type 0} (P Q : X → Type 0) → ((x : X) → P x → Q x) → (xs : List X) → AllByRecursion P xs → AllByRecursion Q xs
each_more P Q h [] a = tt
each_more P Q h (x ∷ xs) a = (h x a.0, each_more P Q h xs a.1)

pub each_append : {X : Type 0} (P : X → Type 0) (xs ys : List X) → AllByRecursion P xs → AllByRecursion P ys → AllByRecursion P (xs ++ ys)
each_append P [] ys a b = b
each_append P (x ∷ xs) ys a b = (a.0, each_append P xs ys a.1 b)

pub append_empty : {X : Type 0} (xs : List X) → xs ++ [] ≡ xs
append_empty [] = refl
append_empty (x ∷ xs) = ap (λ l. x ∷ l) (append_empty xs)

pub same_word : (x y : Word) → bytes_eq x y ≡ true → x ≡ y
same_word x y = (bytes_eq-Decides x y).0

pub word_itself : (x : Word) → bytes_eq x x ≡ true
word_itself x = (bytes_eq-Decides x x).1 refl

unless : (b : Bool) → (b ≡ true → ⊥) → b ≡ false
unless true k = absurd (k refl)
unless false k = refl

pub words_differ : (x y : Word) → (x ≡ y → ⊥) → bytes_eq x y ≡ false
words_differ x y h = unless (bytes_eq x y) (λ e. h (same_word x y e))

pub owner_itself : (o : Owner) → same_owner o o ≡ true
owner_itself (ByInterface a) = word_itself a
owner_itself (ByModule a) = word_itself a
owner_itself (ByUnit a) = word_itself a
owner_itself (ByClient a) = word_itself a
owner_itself ByCall = refl
owner_itself ByQuantifier = refl

and_false : (b : Bool) → (b && false) ≡ false
and_false true = refl
and_false false = refl

-- no variable of the call is another owner's
pub not_the_calls : (o : Owner) (x y : Word) → o ≢ ByCall → (same_owner o ByCall && bytes_eq x y) ≡ false
not_the_calls (ByInterface a) x y h = refl
not_the_calls (ByModule a) x y h = refl
not_the_calls (ByUnit a) x y h = refl
not_the_calls (ByClient a) x y h = refl
not_the_calls ByCall x y h = absurd (h refl)
not_the_calls ByQuantifier x y h = refl

-- ---- a write leaves the heap and the allocated references alone

pub write_alloc : (o : Option Variable) (v : Value) (s : State) → (write_variable o v s).alloc ≡ s.alloc
write_alloc None v s = refl
write_alloc (Some x) v s = refl

pub write_heap : (o : Option Variable) (v : Value) (s : State) → (write_variable o v s).heap ≡ s.heap
write_heap None v s = refl
write_heap (Some x) v s = refl

-- ---- the end of a straight run

abbrev pub final : Tables → Scope → Block → State → State
final tables sc End s = s
final tables sc (Then (At at (Assign x e)) cs) s = final tables sc cs (write_variable (find_variable x sc) (value_of tables sc e s s) s)
final tables sc (Then c cs) s = s

module _ (writes : List Effect) where
  pub steps_end : (p : Program) (again : Code → Block → State → Picks → Outcome) (c : Code) (b : Block) (s : State) (k : Picks) → AssignsListed writes b
      → steps p again c b s k ≡ Done (final p.tables c.scope b s) k
  steps_end p again c End s k l = refl
  steps_end p again c (Then (At at (Assign x e)) cs) s k l = steps_end p again c cs _ k l.2
  steps_end p again c (Then d cs) s k l = absurd l

  pub run_end : (p : Program) (n : ℕ) (c : Code) (b : Block) (s : State) (k : Picks) → AssignsListed writes b → run_of p n c b s k ≡ Done (final p.tables c.scope b s) k
  run_end p zero c b s k l = steps_end p (λ _ _ _ _. Out) c b s k l
  run_end p (suc n) c b s k l = steps_end p (run_of p n) c b s k l

  -- ---- so does a run

  pub final_alloc : (tables : Tables) (sc : Scope) (b : Block) (s : State) → AssignsListed writes b → (final tables sc b s).alloc ≡ s.alloc
  final_alloc tables sc End s l = refl
  final_alloc tables sc (Then (At at (Assign x e)) cs) s l = final_alloc tables sc cs _ l.2 ∙ write_alloc (find_variable x sc) _ s
  final_alloc tables sc (Then d cs) s l = absurd l

  pub final_heap : (tables : Tables) (sc : Scope) (b : Block) (s : State) → AssignsListed writes b → (final tables sc b s).heap ≡ s.heap
  final_heap tables sc End s l = refl
  final_heap tables sc (Then (At at (Assign x e)) cs) s l = final_heap tables sc cs _ l.2 ∙ write_heap (find_variable x sc) _ s
  final_heap tables sc (Then d cs) s l = absurd l

pub defaults_alloc : (sc : Scope) (s : State) → (with_defaults sc s).alloc ≡ s.alloc
defaults_alloc [] s = refl
defaults_alloc (x ∷ xs) s = defaults_alloc xs s

pub defaults_heap : (sc : Scope) (s : State) → (with_defaults sc s).heap ≡ s.heap
defaults_heap [] s = refl
defaults_heap (x ∷ xs) s = defaults_heap xs s

-- ---- every value is a number

abbrev pub IsNumber : Value → Type 0
IsNumber v = v ≡ Number (as_number v)

abbrev pub AreNumbers : Scope → State → Type 0
AreNumbers sc s = AllByRecursion (λ v. IsNumber (value_in s v)) sc

int_number : (tables : Tables) (g : Region) (v : Value) → IsTrue (fits_type tables Int g v) → IsNumber v
int_number tables g (Number n) h = refl
int_number tables g (Reference r) h = absurd cc
int_number tables g (Objects r) h = absurd cc

number_int : (tables : Tables) (g : Region) (v : Value) → IsNumber v → IsTrue (fits_type tables Int g v)
number_int tables g (Number n) h = refl
number_int tables g (Reference r) h = absurd cc
number_int tables g (Objects r) h = absurd cc

-- each variable fits its type
abbrev pub AreFit : Tables → Scope → State → Type 0
AreFit tables sc s = AllByRecursion (λ v. IsTrue (fits_type tables v.ty s.alloc (value_in s v))) sc

pub fit_numbers : (tables : Tables) (sc : Scope) (s : State) → AreInts sc → AreFit tables sc s → AreNumbers sc s
fit_numbers tables [] s i f = tt
fit_numbers tables (v ∷ vs) s i f =
    (int_number tables s.alloc (value_in s v) (subst (λ t. IsTrue (fits_type tables t s.alloc (value_in s v))) i.0 f.0), fit_numbers tables vs s i.1 f.1)

pub numbers_fit : (tables : Tables) (sc : Scope) (s : State) → AreInts sc → AreNumbers sc s → AreFit tables sc s
numbers_fit tables [] s i f = tt
numbers_fit tables (v ∷ vs) s i f =
    (subst (λ t. IsTrue (fits_type tables t s.alloc (value_in s v))) (sym i.0) (number_int tables s.alloc (value_in s v) f.0), numbers_fit tables vs s i.1 f.1)

pub default_number : (t : Ty) → t ≡ Int → IsNumber (default t)
default_number t e = subst (λ u. IsNumber (default u)) (sym e) refl

read_if : (b : Bool) (x : Variable) (o : Option Variable) (s : State) → IsNumber (value_in s x) → IsNumber (read_variable o s) → IsNumber (read_variable (if b then Some x else o) s)
read_if true x o s h k = h
read_if false x o s h k = k

pub read_number : (sc : Scope) (s : State) → AreNumbers sc s → (x : Word) → IsNumber (read_variable (find_variable x sc) s)
read_number [] s a x = refl
read_number (v ∷ vs) s a x = read_if (bytes_eq x v.name) v (find_variable x vs) s a.0 (read_number vs s a.1 x)

pub value_number : (tables : Tables) (sc : Scope) (before s : State) → AreNumbers sc s → (e : Expression) → IsArithmetic e → IsNumber (value_of tables sc e before s)
value_number tables sc before s a (Var x) h = read_number sc s a x
value_number tables sc before s a (Num n) h = refl
value_number tables sc before s a (Add e f) h = refl
value_number tables sc before s a (Sub e f) h = refl
value_number tables sc before s a _ h = absurd h

number_if : (b : Bool) (v w : Value) → IsNumber v → IsNumber w → IsNumber (if b then v else w)
number_if true v w h k = h
number_if false v w h k = k

pub write_numbers : (sc : Scope) (o : Option Variable) (v : Value) (s : State) → IsNumber v → AreNumbers sc s → AreNumbers sc (write_variable o v s)
write_numbers sc None v s h a = a
write_numbers sc (Some w) v s h a = each_more _ _ (λ x k. number_if (is_variable x.owner x.name w) v (value_in s x) h k) sc a

pub final_numbers : (writes : List Effect) (tables : Tables) (sc : Scope) (b : Block) (s : State) → AssignsListed writes b → AreNumbers sc s → AreNumbers sc (final tables sc b s)
final_numbers writes tables sc End s l a = a
final_numbers writes tables sc (Then (At at (Assign x e)) cs) s l a =
    final_numbers writes tables sc cs _ l.2 (write_numbers sc (find_variable x sc) _ s (value_number tables sc s s a e l.1) a)
final_numbers writes tables sc (Then d cs) s l a = absurd l

-- ---- one variable is written, and the others keep their values

if_false : (b : Bool) (v w : Value) → b ≡ false → (if b then v else w) ≡ w
if_false true v w e = absurd cc
if_false false v w e = refl

if_true : (b : Bool) (v w : Value) → b ≡ true → (if b then v else w) ≡ v
if_true true v w e = refl
if_true false v w e = absurd cc

-- what isn't the variable keeps its value
pub write_apart : (w : Variable) (v : Value) (s : State) (o : Owner) (y : Word) → is_variable o y w ≡ false → (write_variable (Some w) v s).vars o y ≡ s.vars o y
write_apart w v s o y h = if_false (is_variable o y w) v (s.vars o y) h

-- so does a variable of another name
pub write_other : (w : Variable) (v : Value) (s : State) (o : Owner) (y : Word) → bytes_eq y w.name ≡ false → (write_variable (Some w) v s).vars o y ≡ s.vars o y
write_other w v s o y h = write_apart w v s o y (ap (λ b. same_owner o w.owner && b) h ∙ and_false (same_owner o w.owner))

pub write_itself : (w : Variable) (v : Value) (s : State) → (write_variable (Some w) v s).vars w.owner w.name ≡ v
write_itself w v s = if_true (is_variable w.owner w.name w) v (value_in s w) (ap (λ b. b && bytes_eq w.name w.name) (owner_itself w.owner) ∙ word_itself w.name)

-- the variable that a name finds has this name
pub write_found_other : (x : Word) (sc : Scope) (v : Value) (s : State) (o : Owner) (y : Word) → bytes_eq y x ≡ false → (write_variable (find_variable x sc) v s).vars o y ≡ s.vars o y
write_found_other x [] v s o y h = refl
write_found_other x (u ∷ us) v s o y h =
    elim (bytes_eq x u.name) as (λ b. bytes_eq x u.name ≡ b → (write_variable (if b then Some u else find_variable x us) v s).vars o y ≡ s.vars o y) [
      | true ↦ λ e. write_other u v s o y (ap (bytes_eq y) (sym (same_word x u.name e)) ∙ h)
      | false ↦ λ e. write_found_other x us v s o y h
    ] refl
