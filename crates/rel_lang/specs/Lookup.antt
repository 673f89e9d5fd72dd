-- Items and their parts by name.
use Rattle.std.specs.Prelude.{List, [], ◌∷◌, Option, codes, option_map, option_and_then}
use Rattle.rel_lang.specs.Syntax.{Word, Body, Proc, Sig, Interface, Module, UnitItem, Client, Judgement, Item, OfInterface, OfModule, OfUnit, OfJudgement, Bundle}
use Rattle.rel_lang.specs.State.{find_named}

abbrev pub interfaces_of : List Item → List Interface
interfaces_of [] = []
interfaces_of (OfInterface i ∷ is) = i ∷ interfaces_of is
interfaces_of (_ ∷ is) = interfaces_of is

abbrev pub modules_of : List Item → List Module
modules_of [] = []
modules_of (OfModule m ∷ is) = m ∷ modules_of is
modules_of (_ ∷ is) = modules_of is

abbrev pub units_of : List Item → List UnitItem
units_of [] = []
units_of (OfUnit u ∷ is) = u ∷ units_of is
units_of (_ ∷ is) = units_of is

abbrev pub judgements_of : List Item → List Judgement
judgements_of [] = []
judgements_of (OfJudgement j ∷ is) = j ∷ judgements_of is
judgements_of (_ ∷ is) = judgements_of is

abbrev pub find_interface : Bundle → Word → Option Interface
find_interface b x = find_named (λ i. i.name) x (interfaces_of b.items)

abbrev pub find_module : Bundle → Word → Option Module
find_module b x = find_named (λ m. m.name) x (modules_of b.items)

abbrev pub find_unit : Bundle → Word → Option UnitItem
find_unit b x = find_named (λ u. u.name) x (units_of b.items)

abbrev pub find_judgement : Word → List Judgement → Option Judgement
find_judgement x js = find_named (λ j. j.name) x js

abbrev pub find_proc : Word → List Proc → Option Proc
find_proc x ps = find_named (λ p. p.name) x ps

abbrev pub find_method : Word → List Sig → Option Sig
find_method x qs = find_named (λ q. q.name) x qs

-- what a module gives as the method's body
abbrev pub find_body : Word → List (Word × Body) → Option Body
find_body x bs = option_map (λ b. b.1) (find_named (λ b. b.0) x bs)

abbrev pub main_name : Word
main_name = codes "main"

abbrev pub find_main : Client → Option Proc
find_main c = find_proc main_name c.procs

-- a procedure, and the unit that it is in
pub record Subject : Type 0 where
  pub unit : UnitItem
  pub proc : Proc

-- the procedure that the two names tell
abbrev pub subject_of : Bundle → Word × Word → Option Subject
subject_of b w = option_and_then (λ u. option_map (λ p. record { unit = u; proc = p }) (find_proc w.1 u.procs)) (find_unit b w.0)
