-- The parts of a bundle as the code holds them, and what is asked of them where the bundle is typed.
use Rattle.std.specs.Prelude.{◌≡◌, ◌<◌, ◌^◌, ◌⊎◌, ◌↔◌, IsTrue, is_some, List, [], ◌∷◌, length, map}
use Rattle.std.specs.List.{AllByRecursion}
use Rattle.rel_lang.specs.Syntax.{Word, Int, True, Command, At, Assign, Block, BiForm, Split, Effect, Global, Locations, without_at}
use Rattle.rel_lang.specs.Scope.{result_name}
use Rattle.rel_lang.specs.declared.command.Command as C
use Rattle.rel_lang.specs.declared.bundle.Decl as D
use Rattle.rel_lang.specs.declared.bundle.Effect as E
use Rattle.rel_lang.specs.declared.bundle.Proc as Q
use Rattle.rel_lang.specs.declared.bundle.UnitItem as U
use Rattle.rel_lang.specs.declared.bundle.Judgement as J
use Rattle.rel_lang.specs.View.{type_of, effect_of, formula_of, command_of, rel_of, align_of, block_of, unit_of, proc_of, judgement_of}
use Rattle.rel_flaws.specs.Entries.{find_entry, with_entry}
use Rattle.rel_linking.specs.Form as F
use Rattle.rel_linking.specs.Form.{IsArithmetic, IsAgreement, IsListed, IsGlobal, AssignsListed, IsSplitOf}

-- names without more
abbrev pub Names : Type 0
Names = List (Word × Unit {0})

abbrev pub IsIndexed : Word → Names → Type 0
IsIndexed x names = IsTrue (is_some (find_entry x names))

-- these are the names of the listed globals
abbrev pub Lists : Names → List Effect → Type 0
Lists names writes = (x : Word) → IsIndexed x names ↔ IsListed writes x

-- with the name of a listed global
abbrev pub with_listed : Names → Effect → Names
with_listed names (Global x) = with_entry names x tt
with_listed names (Locations p) = names

-- arithmetic is assigned to `result` or to one of these names
abbrev pub IsPlainCommand : Names → Command → Type 0
IsPlainCommand names (At at (Assign x e)) = ((x ≡ result_name) ⊎ IsIndexed x names) × IsArithmetic e
IsPlainCommand names c = ⊥

abbrev pub IsPlainIn : Names → C.Command → Type 0
IsPlainIn names c = IsPlainCommand names (command_of c)

abbrev pub IsOfGlobal : E.Effect → Type 0
IsOfGlobal e = IsGlobal (effect_of e)

abbrev pub IsInt : D.Decl → Type 0
IsInt d = type_of d.ty ≡ Int

-- what is asked of a unit with this one procedure
pub record IsPlain (u : U.UnitItem) (p : Q.Proc) : Type 0 where
  pub ints : AllByRecursion IsInt u.globals
  pub params : p.params ≡ []
  pub result : type_of p.result ≡ Int
  pub needs : formula_of p.spec.needs.formula ≡ True
  pub gives : formula_of p.spec.gives.formula ≡ True
  pub locals : p.body.locals ≡ []
  pub writes : AllByRecursion IsOfGlobal p.spec.writes
  pub commands : AssignsListed (map effect_of p.spec.writes) (block_of p.body.commands)

-- the biprogram's form splits into the two blocks
abbrev pub IsSplitForm : BiForm → Block → Block → Type 0
IsSplitForm (Split a b) l r = (without_at a ≡ without_at l) × (without_at b ≡ without_at r)
IsSplitForm f l r = ⊥

-- two units, one procedure of each, and a judgement
pub record Held : Type 0 where
  pub left : U.UnitItem
  pub left_proc : Q.Proc
  pub right : U.UnitItem
  pub right_proc : Q.Proc
  pub judgement : J.Judgement

abbrev pub held : U.UnitItem → Q.Proc → U.UnitItem → Q.Proc → J.Judgement → Held
held l p r q j = record { left = l; left_proc = p; right = r; right_proc = q; judgement = j }

-- the judgement is about these two units
pub record IsAbout (l r : U.UnitItem) (j : J.Judgement) : Type 0 where
  pub left : j.left.0 ≡ l.name
  pub right : j.right.0 ≡ r.name

-- what is asked of them
pub record IsJudged (h : Held) : Type 0 where
  pub left : IsPlain h.left h.left_proc
  pub right : IsPlain h.right h.right_proc
  pub about : IsAbout h.left h.right h.judgement
  pub needs : IsAgreement (rel_of h.judgement.needs.formula)
  pub gives : IsAgreement (rel_of h.judgement.gives.formula)
  pub align : IsSplitOf (align_of h.judgement.align) (block_of h.left_proc.body.commands) (block_of h.right_proc.body.commands)

abbrev pub parts_of_held : Held → F.Parts
parts_of_held h = record {
  left = unit_of h.left;
  left_proc = proc_of h.left_proc;
  right = unit_of h.right;
  right_proc = proc_of h.right_proc;
  judgement = judgement_of h.judgement;
}

-- the two units have one procedure each, and what is asked of them and of the judgement holds
pub record AreJudged (l r : U.UnitItem) (j : J.Judgement) : Type 0 where
  pub left_proc : Q.Proc
  pub right_proc : Q.Proc
  pub left : l.procs ≡ left_proc ∷ []
  pub right : r.procs ≡ right_proc ∷ []
  pub judged : IsJudged (held l left_proc r right_proc j)

-- few enough variables for numbers of 32 bits
pub record HasFew (u : U.UnitItem) : Type 0 where
  pub globals : length u.globals < 2 ^ 30
  pub commands : AllByRecursion (λ p. length p.body.commands < 2 ^ 30) u.procs
