-- What commands have wrong, and the first fault of a block.
use Rattle.std.specs.Prelude.{Bool, true, false, not, ◌==◌, ◌||◌, List, [], ◌∷◌, length, Option, Some, None, bytes_eq}
use Rattle.rel_lang.specs.Syntax.{Word, Ty, Class, Expression, Command, At, Form, Skip, Assign, Load, Store, New, Call, If, While, Block, End, Then, Decl}
use Rattle.rel_lang.specs.State.{Tables, ClassField, find_field, find_named, Scope, Variable, find_variable}
use Rattle.rel_lang.specs.Lookup.{main_name}
use Rattle.rel_lang.specs.Typed.{Signature}
use Rattle.rel_flaws.specs.Flaws.{Flaws, flawless, either, Pass, Fault, fault_at, first_of}
use Rattle.rel_flaws.specs.Inference.{is_in_scope, same_type, Inferred, Exactly, fits, infer, is_class, flaws_of_formula, flaws_of_test, flaws_of_code, flaws_of_value}

-- What code can name: variables, and the procedures or methods that a call can mean. The code of a module may name its interface's methods and
-- call none of them.
pub record Code : Type 0 where
  pub scope : Scope
  pub callees : List Signature
  pub may_call : Bool

abbrev pub find_callee : Word → Code → Option Signature
find_callee p code = find_named (λ q. q.name) p code.callees

abbrev pub unknown_where : Bool → Flaws
unknown_where holds = record flawless { unknown = holds }

abbrev pub wrong_type_where : Bool → Flaws
wrong_type_where holds = record flawless { wrong_type = holds }

-- the variable has this type
abbrev pub has_type : Ty → Option Variable → Bool
has_type t None = false
has_type t (Some v) = same_type v.ty t

abbrev pub cannot_be_assigned : Option Variable → Bool
cannot_be_assigned None = false
cannot_be_assigned (Some v) = not v.is_assignable

abbrev pub cannot_take : Inferred → Option Variable → Bool
cannot_take i None = true
cannot_take i (Some v) = not (fits i v.ty)

-- a variable that is assigned something of this type
abbrev pub flaws_of_target : Scope → Word → Inferred → Flaws
flaws_of_target sc x i = record flawless {
  unknown = not (is_in_scope x sc);
  target = cannot_be_assigned (find_variable x sc);
  wrong_type = cannot_take i (find_variable x sc);
}

-- a variable that refers to an object of the class
abbrev pub flaws_of_reference : Scope → Word → Word → Flaws
flaws_of_reference sc y c = record flawless { unknown = not (is_in_scope y sc); wrong_type = not (has_type (Class c) (find_variable y sc)) }

module _ (tables : Tables) where
  -- the arguments of a call, each of the type of its parameter where there is one
  abbrev pub flaws_of_arguments : Scope → List Expression → List Decl → Flaws
  flaws_of_arguments sc [] ds = flawless
  flaws_of_arguments sc (e ∷ es) [] = either (flaws_of_code tables sc e) (flaws_of_arguments sc es [])
  flaws_of_arguments sc (e ∷ es) (d ∷ ds) = either (flaws_of_value tables sc e d.ty) (flaws_of_arguments sc es ds)

  abbrev pub flaws_of_load : Scope → Word → Word → Option ClassField → Flaws
  flaws_of_load sc x y None = unknown_where true
  flaws_of_load sc x y (Some d) = either (flaws_of_reference sc y d.class) (flaws_of_target sc x (Exactly d.ty))

  abbrev pub flaws_of_store : Scope → Word → Expression → Option ClassField → Flaws
  flaws_of_store sc y e None = unknown_where true
  flaws_of_store sc y e (Some d) = either (flaws_of_reference sc y d.class) (flaws_of_value tables sc e d.ty)

  abbrev pub flaws_of_call : Code → Word → Word → List Expression → Option Signature → Flaws
  flaws_of_call code x p es None = unknown_where true
  flaws_of_call code x p es (Some q) =
      either (record flawless { not_visible = not code.may_call || bytes_eq p main_name; wrong_arity = not (length es == length q.params) })
      (either (flaws_of_target code.scope x (Exactly q.result)) (flaws_of_arguments code.scope es q.params))

  -- what a command has wrong, its blocks apart
  abbrev pub flaws_of_form : Code → Form → Flaws
  flaws_of_form code Skip = flawless
  flaws_of_form code (Assign x e) = either (flaws_of_target code.scope x (infer tables code.scope e)) (flaws_of_code tables code.scope e)
  flaws_of_form code (Load x y f) = flaws_of_load code.scope x y (find_field tables f)
  flaws_of_form code (Store y f e) = flaws_of_store code.scope y e (find_field tables f)
  flaws_of_form code (New x c) = either (unknown_where (not (is_class tables c))) (flaws_of_target code.scope x (Exactly (Class c)))
  flaws_of_form code (Call x p es) = flaws_of_call code x p es (find_callee p code)
  flaws_of_form code (If p a b) = flaws_of_test tables code.scope p
  flaws_of_form code (While p q b) = either (flaws_of_test tables code.scope p) (flaws_of_formula tables true code.scope q)

  module _ (pass : Pass) where
    -- The first fault of a command, which comes before those of its blocks.
    abbrev mutual
      pub command_fault : Code → Command → Option Fault
      command_fault code (At at f) = first_of (fault_at pass at (flaws_of_form code f)) (inner_fault code f)

      pub inner_fault : Code → Form → Option Fault
      inner_fault code (If p a b) = first_of (block_fault code a) (block_fault code b)
      inner_fault code (While p q b) = block_fault code b
      inner_fault code f = None

      pub block_fault : Code → Block → Option Fault
      block_fault code End = None
      block_fault code (Then c cs) = first_of (command_fault code c) (block_fault code cs)
