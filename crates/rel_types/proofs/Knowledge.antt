-- Code and alignments have the same faults where they know the same.
use Rattle.std.proofs.Common.{◌≡◌, Bool, true, not, ◌||◌, ◌==◌, List, [], ◌∷◌, length, Option, Some, None, option_map, refl, sym, ap, ap₂, ◌∙◌}
use Rattle.std.specs.Prelude.{bytes_eq, is_some}
use Rattle.rel_lang.specs.Syntax.{Word, Class, Expression, Formula, RelFormula, Command, At, Form, Skip, Assign, Load, Store, New, Call, If, While, Block, End, Then, Decl, BiLoop, BiCommand, BiAt, BiForm, Split, Sync, SyncCall, BiIf, BiWhile, Link, Note, BiBlock, BiEnd, BiThen, Judgement, Act, ActSeq, ActSync, ActCall, ActIf, ActWhile, ActLink, ActNote, ActDrop, Align, Given, Woven}
use Rattle.rel_lang.specs.State.{Tables, ClassField, find_field, Scope, Variable, find_variable}
use Rattle.rel_lang.specs.Lookup.{main_name, find_judgement}
use Rattle.rel_lang.specs.Typed.{Signature}
use Rattle.rel_flaws.specs.Flaws.{Flaws, flawless, either, Pass, Fault, fault_at, first_of, first_in}
use Rattle.rel_flaws.specs.Inference.{Inferred, Exactly, infer, is_class}
use Rattle.rel_flaws.specs.Code.{Code, find_callee, unknown_where, has_type, cannot_be_assigned, cannot_take, flaws_of_target, flaws_of_reference, flaws_of_arguments, flaws_of_load, flaws_of_store, flaws_of_call, flaws_of_form, command_fault, inner_fault, block_fault}
use Rattle.rel_flaws.specs.Alignments.{Sides, is_about, is_about_procedures, is_call_by, are_linked, flaws_of_link, flaws_of_relation, flaws_of_tests, flaws_of_loop, flaws_of_biform, flaws_of_act, joint_fault, bicommand_fault, inner_bifault, biblock_fault, step_fault, align_fault}
use Rattle.rel_types.specs.Lookups.{without_owner, SameLookups, SameCode, SameSides}
use Rattle.rel_types.proofs.Lookups.{asked, infer_same, formula_same, rel_same, test_same, code_same, value_same}

-- ---- variables

-- the flaws of an assigned variable, by what is found
abbrev pub target_flaws : Inferred → Option Variable → Flaws
target_flaws i o = record flawless { unknown = not (is_some o); target = cannot_be_assigned o; wrong_type = cannot_take i o }

target_kept : (i : Inferred) (o : Option Variable) → target_flaws i (option_map without_owner o) ≡ target_flaws i o
target_kept i None = refl
target_kept i (Some v) = refl

pub target_same : (sc sd : Scope) → SameLookups sc sd → (x : Word) (i : Inferred) → flaws_of_target sc x i ≡ flaws_of_target sd x i
target_same sc sd h x i = asked (target_flaws i) (target_kept i) (find_variable x sc) (find_variable x sd) (h x)

abbrev pub reference_flaws : Word → Option Variable → Flaws
reference_flaws c o = record flawless { unknown = not (is_some o); wrong_type = not (has_type (Class c) o) }

reference_kept : (c : Word) (o : Option Variable) → reference_flaws c (option_map without_owner o) ≡ reference_flaws c o
reference_kept c None = refl
reference_kept c (Some v) = refl

pub reference_same : (sc sd : Scope) → SameLookups sc sd → (y c : Word) → flaws_of_reference sc y c ≡ flaws_of_reference sd y c
reference_same sc sd h y c = asked (reference_flaws c) (reference_kept c) (find_variable y sc) (find_variable y sd) (h y)

-- ---- commands

pub arguments_same : (tables : Tables) (sc sd : Scope) → SameLookups sc sd → (es : List Expression) (ds : List Decl) → flaws_of_arguments tables sc es ds ≡ flaws_of_arguments tables sd es ds
arguments_same tables sc sd h [] ds = refl
arguments_same tables sc sd h (e ∷ es) [] = ap₂ either (code_same tables sc sd h e) (arguments_same tables sc sd h es [])
arguments_same tables sc sd h (e ∷ es) (d ∷ ds) = ap₂ either (value_same tables sc sd h e d.ty) (arguments_same tables sc sd h es ds)

load_same : (tables : Tables) (sc sd : Scope) → SameLookups sc sd → (x y : Word) (o : Option ClassField) → flaws_of_load tables sc x y o ≡ flaws_of_load tables sd x y o
load_same tables sc sd h x y None = refl
load_same tables sc sd h x y (Some d) = ap₂ either (reference_same sc sd h y d.class) (target_same sc sd h x (Exactly d.ty))

store_same : (tables : Tables) (sc sd : Scope) → SameLookups sc sd → (y : Word) (e : Expression) (o : Option ClassField) → flaws_of_store tables sc y e o ≡ flaws_of_store tables sd y e o
store_same tables sc sd h y e None = refl
store_same tables sc sd h y e (Some d) = ap₂ either (reference_same sc sd h y d.class) (value_same tables sc sd h e d.ty)

call_same : (tables : Tables) (c d : Code) → SameCode c d → (x p : Word) (es : List Expression) (o : Option Signature) → flaws_of_call tables c x p es o ≡ flaws_of_call tables d x p es o
call_same tables c d h x p es None = refl
call_same tables c d h x p es (Some q) =
    ap₂ either (ap {A = Bool} {B = Flaws} (λ b. record flawless { not_visible = not b || bytes_eq p main_name; wrong_arity = not (length es == length q.params) }) h.may_call)
    (ap₂ either (target_same c.scope d.scope h.scope x (Exactly q.result)) (arguments_same tables c.scope d.scope h.scope es q.params))

pub form_same : (tables : Tables) (c d : Code) → SameCode c d → (f : Form) → flaws_of_form tables c f ≡ flaws_of_form tables d f
form_same tables c d h Skip = refl
form_same tables c d h (Assign x e) =
    ap₂ either (target_same c.scope d.scope h.scope x (infer tables c.scope e) ∙ ap (flaws_of_target d.scope x) (infer_same tables c.scope d.scope h.scope e)) (code_same tables c.scope d.scope h.scope e)
form_same tables c d h (Load x y f) = load_same tables c.scope d.scope h.scope x y (find_field tables f)
form_same tables c d h (Store y f e) = store_same tables c.scope d.scope h.scope y e (find_field tables f)
form_same tables c d h (New x k) = ap (either (unknown_where (not (is_class tables k)))) (target_same c.scope d.scope h.scope x (Exactly (Class k)))
form_same tables c d h (Call x p es) = call_same tables c d h x p es (find_callee p c) ∙ ap (flaws_of_call tables d x p es) (h.callees p)
form_same tables c d h (If p a b) = test_same tables c.scope d.scope h.scope p
form_same tables c d h (While p q b) = ap₂ either (test_same tables c.scope d.scope h.scope p) (formula_same tables true c.scope d.scope h.scope q)

mutual
  pub command_same : (tables : Tables) (pass : Pass) (c d : Code) → SameCode c d → (k : Command) → command_fault tables pass c k ≡ command_fault tables pass d k
  command_same tables pass c d h (At at f) = ap₂ first_of (ap (fault_at pass at) (form_same tables c d h f)) (inner_same tables pass c d h f)

  pub inner_same : (tables : Tables) (pass : Pass) (c d : Code) → SameCode c d → (f : Form) → inner_fault tables pass c f ≡ inner_fault tables pass d f
  inner_same tables pass c d h Skip = refl
  inner_same tables pass c d h (Assign x e) = refl
  inner_same tables pass c d h (Load x y f) = refl
  inner_same tables pass c d h (Store y f e) = refl
  inner_same tables pass c d h (New x k) = refl
  inner_same tables pass c d h (Call x p es) = refl
  inner_same tables pass c d h (If p a b) = ap₂ first_of (block_same tables pass c d h a) (block_same tables pass c d h b)
  inner_same tables pass c d h (While p q b) = block_same tables pass c d h b

  pub block_same : (tables : Tables) (pass : Pass) (c d : Code) → SameCode c d → (b : Block) → block_fault tables pass c b ≡ block_fault tables pass d b
  block_same tables pass c d h End = refl
  block_same tables pass c d h (Then k ks) = ap₂ first_of (command_same tables pass c d h k) (block_same tables pass c d h ks)

-- ---- bicommands

about_same : (o : Option (Word × Word)) (j p : Word) (js ks : List Judgement) → find_judgement j js ≡ find_judgement j ks → is_about o j p js ≡ is_about o j p ks
about_same None j p js ks h = refl
about_same (Some u) j p js ks h = ap (is_about_procedures p u) h

called_same : (s t : Sides) → SameSides s t → (j : Word) (c : Command) → is_call_by s j c ≡ is_call_by t j c
called_same s t h j (At at (Call x p es)) = about_same s.units j p s.judgements t.judgements (h.judgements j) ∙ ap (λ u. is_about u j p t.judgements) h.units
called_same s t h j (At at Skip) = refl
called_same s t h j (At at (Assign x e)) = refl
called_same s t h j (At at (Load x y f)) = refl
called_same s t h j (At at (Store y f e)) = refl
called_same s t h j (At at (New x k)) = refl
called_same s t h j (At at (If p a b)) = refl
called_same s t h j (At at (While p q b)) = refl

abbrev pub link_flaws : Option Variable → Option Variable → Flaws
link_flaws o p = record flawless { unknown = not (is_some o) || not (is_some p); wrong_type = not (are_linked o p) }

link_kept : (o p : Option Variable) → link_flaws (option_map without_owner o) (option_map without_owner p) ≡ link_flaws o p
link_kept None None = refl
link_kept None (Some w) = refl
link_kept (Some v) None = refl
link_kept (Some v) (Some w) = refl

link_same : (l l' r r' : Scope) → SameLookups l l' → SameLookups r r' → (x y : Word) → flaws_of_link l r x y ≡ flaws_of_link l' r' x y
link_same l l' r r' h k x y =
    sym (link_kept (find_variable x l) (find_variable y r)) ∙ ap₂ link_flaws (h x) (k y) ∙ link_kept (find_variable x l') (find_variable y r')

relation_same : (tables : Tables) (s t : Sides) → SameSides s t → (a : RelFormula) → flaws_of_relation tables s a ≡ flaws_of_relation tables t a
relation_same tables s t h a = rel_same tables true s.left.scope t.left.scope s.right.scope t.right.scope h.left.scope h.right.scope a

tests_same : (tables : Tables) (s t : Sides) → SameSides s t → (p q : Formula) → flaws_of_tests tables s p q ≡ flaws_of_tests tables t p q
tests_same tables s t h p q = ap₂ either (test_same tables s.left.scope t.left.scope h.left.scope p) (test_same tables s.right.scope t.right.scope h.right.scope q)

loop_same : (tables : Tables) (s t : Sides) → SameSides s t → (l : BiLoop) → flaws_of_loop tables s l ≡ flaws_of_loop tables t l
loop_same tables s t h l =
    ap₂ either (tests_same tables s t h l.tests.0 l.tests.1)
    (ap₂ either (ap₂ either (formula_same tables true s.left.scope t.left.scope h.left.scope l.invs.0) (formula_same tables true s.right.scope t.right.scope h.right.scope l.invs.1))
    (ap₂ either (relation_same tables s t h l.rel) (ap₂ either (relation_same tables s t h l.guards.0) (relation_same tables s t h l.guards.1))))

pub biform_same : (tables : Tables) (s t : Sides) → SameSides s t → (f : BiForm) → flaws_of_biform tables s f ≡ flaws_of_biform tables t f
biform_same tables s t h (Split a b) = refl
biform_same tables s t h (Sync c) = refl
biform_same tables s t h (SyncCall c j) = ap (λ b. unknown_where (not b)) (called_same s t h j c)
biform_same tables s t h (BiIf p q a b) = tests_same tables s t h p q
biform_same tables s t h (BiWhile l b) = loop_same tables s t h l
biform_same tables s t h (Link x y) = link_same s.left.scope t.left.scope s.right.scope t.right.scope h.left.scope h.right.scope x y
biform_same tables s t h (Note a) = relation_same tables s t h a

joint_same : (tables : Tables) (pass : Pass) (s t : Sides) → SameSides s t → (c : Command) → joint_fault tables pass s c ≡ joint_fault tables pass t c
joint_same tables pass s t h (At at f) =
    ap₂ first_of (ap (fault_at pass at) (ap₂ either (form_same tables s.left t.left h.left f) (form_same tables s.right t.right h.right f)))
    (ap₂ first_of (inner_same tables pass s.left t.left h.left f) (inner_same tables pass s.right t.right h.right f))

mutual
  pub bicommand_same : (tables : Tables) (pass : Pass) (s t : Sides) → SameSides s t → (c : BiCommand) → bicommand_fault tables pass s c ≡ bicommand_fault tables pass t c
  bicommand_same tables pass s t h (BiAt at f) = ap₂ first_of (ap (fault_at pass at) (biform_same tables s t h f)) (inner_bisame tables pass s t h f)

  inner_bisame : (tables : Tables) (pass : Pass) (s t : Sides) → SameSides s t → (f : BiForm) → inner_bifault tables pass s f ≡ inner_bifault tables pass t f
  inner_bisame tables pass s t h (Split a b) = ap₂ first_of (block_same tables pass s.left t.left h.left a) (block_same tables pass s.right t.right h.right b)
  inner_bisame tables pass s t h (Sync c) = joint_same tables pass s t h c
  inner_bisame tables pass s t h (SyncCall c j) = joint_same tables pass s t h c
  inner_bisame tables pass s t h (BiIf p q a b) = ap₂ first_of (biblock_same tables pass s t h a) (biblock_same tables pass s t h b)
  inner_bisame tables pass s t h (BiWhile l b) = biblock_same tables pass s t h b
  inner_bisame tables pass s t h (Link x y) = refl
  inner_bisame tables pass s t h (Note a) = refl

  pub biblock_same : (tables : Tables) (pass : Pass) (s t : Sides) → SameSides s t → (b : BiBlock) → biblock_fault tables pass s b ≡ biblock_fault tables pass t b
  biblock_same tables pass s t h BiEnd = refl
  biblock_same tables pass s t h (BiThen c cs) = ap₂ first_of (bicommand_same tables pass s t h c) (biblock_same tables pass s t h cs)

-- ---- weavings

act_same : (tables : Tables) (s t : Sides) → SameSides s t → (a : Act) → flaws_of_act tables s a ≡ flaws_of_act tables t a
act_same tables s t h (ActSeq m n) = refl
act_same tables s t h ActSync = refl
act_same tables s t h (ActCall j) = ap (λ o. unknown_where (not (is_some o))) (h.judgements j)
act_same tables s t h ActIf = refl
act_same tables s t h (ActWhile a m n) = ap₂ either (relation_same tables s t h a) (ap₂ either (relation_same tables s t h m) (relation_same tables s t h n))
act_same tables s t h (ActLink x y) = link_same s.left.scope t.left.scope s.right.scope t.right.scope h.left.scope h.right.scope x y
act_same tables s t h (ActNote a) = relation_same tables s t h a
act_same tables s t h ActDrop = refl

-- two searches that agree on each member find the same
pub first_in_same : {X : Type 0} (f g : X → Option Fault) → ((x : X) → f x ≡ g x) → (xs : List X) → first_in f xs ≡ first_in g xs
first_in_same f g h [] = refl
first_in_same f g h (x ∷ xs) = ap₂ first_of (h x) (first_in_same f g h xs)

pub align_same : (tables : Tables) (pass : Pass) (s t : Sides) → SameSides s t → (a : Align) → align_fault tables pass s a ≡ align_fault tables pass t a
align_same tables pass s t h (Given b) = biblock_same tables pass s t h b
align_same tables pass s t h (Woven ts) =
    first_in_same (step_fault tables pass s) (step_fault tables pass t) (λ w. ap (fault_at pass w.at) (act_same tables s t h w.act)) ts
