-- The fixed words of commands, biprograms and items are reserved words and symbols.
use Rattle.std.proofs.Common.{ℕ, suc, List, [], ◌∷◌, ◌++◌, refl}
use Rattle.std.specs.Prelude.{codes}
use Rattle.rel_lang.specs.Syntax.{Word, Ty, Int, Rgn, Class, Command, At, Form, Skip, Assign, Load, Store, New, Call, If, While, Block, End, Then, BiLoop, BiCommand, BiAt, BiForm, Split, Sync, SyncCall, BiIf, BiWhile, Link, Note, BiBlock, BiEnd, BiThen, Act, ActSeq, ActSync, ActCall, ActIf, ActWhile, ActLink, ActNote, ActDrop, WeaveStep, Align, Given, Woven, Decl, Place, Effect, Global, Locations, Clause, RelClause, Spec, Body, Proc, Sig, Item, OfClass, OfInterface, OfModule, OfUnit, OfClient, OfJudgement, OfPair}
use Rattle.rel_lang.specs.Text.{Mark, word, counted, behind, ended, show_expression, show_form, show_command, show_commands, show_block, show_loop, show_biform, show_bicommand, show_bicommands, show_act, show_place_numbers, show_weave_step, show_align, show_type, show_decl, show_globals, show_params, show_place, show_effect, show_writes, show_clause, show_rel_clause, show_spec, show_locals, show_body, show_head, show_proc, show_sig, show_boundary, show_method, show_subject, show_pair_method, show_item}
use Rattle.rel_show.proofs.Fixed.{IsKnown}
use Rattle.rel_show.proofs.Words.{Known, none, first, fixed, called, join, began, treed, numbered, in_braces, each, with_commas, name, expression, formula, relation, parted}

mutual
  form : (d : ℕ) (f : Form) → Known (show_form d f)
  form d Skip = first refl none
  form d (Assign x e) = first tt (first refl (expression (suc d) e))
  form d (Load x y f) = first tt (first refl (first tt (first refl (first tt none))))
  form d (Store y f e) = first tt (first refl (first tt (first refl (expression (suc d) e))))
  form d (New x c) = first tt (first refl (first refl (first tt none)))
  form d (Call x p es) =
      first tt (first refl (first refl (first tt (first refl (join (with_commas (show_expression (suc d)) (expression (suc d)) es) (fixed (codes ")") refl none))))))
  form d (If p a b) = first refl (join (join (formula (suc d) p) (in_braces _ (commands (suc d) 1 a))) (fixed (codes "else") refl (in_braces _ (commands (suc d) 1 b))))
  form d (While p q b) = first refl (join (join (formula (suc d) p) (fixed (codes "inv") refl (formula (suc d) q))) (in_braces _ (commands (suc d) 1 b)))

  command : (d : ℕ) (c : Command) → Known (show_command d c)
  command d (At at f) = began at _ (treed d _ (form d f))

  commands : (d n : ℕ) (b : Block) → Known (show_commands d n b)
  commands d n End = none
  commands d n (Then c cs) = join (numbered n _ (command d c)) (fixed (codes ";") refl (commands d (suc n) cs))

block : (d : ℕ) (b : Block) → Known (show_block d b)
block d b = in_braces _ (commands d 1 b)

loop : (d : ℕ) (l : BiLoop) → Known (show_loop d l)
loop d l =
    fixed (codes "while") refl (join (join (join (parted _ _ (formula d l.tests.0) (formula d l.tests.1))
    (fixed (codes "inv") refl (parted _ _ (formula d l.invs.0) (formula d l.invs.1))))
    (fixed (codes "rel") refl (relation d l.rel)))
    (fixed (codes "align") refl (parted _ _ (relation d l.guards.0) (relation d l.guards.1))))

mutual
  biform : (d : ℕ) (f : BiForm) → Known (show_biform d f)
  biform d (Split a b) = fixed (codes "split") refl (join (block (suc d) a) (block (suc d) b))
  biform d (Sync c) = first refl (command (suc d) c)
  biform d (SyncCall c j) = first refl (join (command (suc d) c) (fixed (codes "using") refl (called j none)))
  biform d (BiIf p q a b) =
      fixed (codes "if") refl (join (join (parted _ _ (formula (suc d) p) (formula (suc d) q)) (in_braces _ (bicommands (suc d) 1 a)))
      (fixed (codes "else") refl (in_braces _ (bicommands (suc d) 1 b))))
  biform d (BiWhile l b) = join (loop (suc d) l) (in_braces _ (bicommands (suc d) 1 b))
  biform d (Link x y) = first refl (first tt (first refl (first tt none)))
  biform d (Note r) = first refl (relation (suc d) r)

  bicommand : (d : ℕ) (c : BiCommand) → Known (show_bicommand d c)
  bicommand d (BiAt at f) = began at _ (treed d _ (biform d f))

  bicommands : (d n : ℕ) (b : BiBlock) → Known (show_bicommands d n b)
  bicommands d n BiEnd = none
  bicommands d n (BiThen c cs) = join (numbered n _ (bicommand d c)) (fixed (codes ";") refl (bicommands d (suc n) cs))

act : (a : Act) → Known (show_act a)
act (ActSeq i j) = first refl (first tt (first tt none))
act ActSync = first refl none
act (ActCall j) = first refl (first tt none)
act ActIf = first refl none
act (ActWhile r m n) = fixed (codes "while") refl (parted _ _ (relation 1 r) (parted _ _ (relation 1 m) (relation 1 n)))
act (ActLink x y) = first refl (first tt (first refl (first tt none)))
act (ActNote r) = first refl (relation 1 r)
act ActDrop = first refl none

place_numbers : (ns : List ℕ) → Known (show_place_numbers ns)
place_numbers [] = none
place_numbers (n ∷ ns) = first tt (each (λ i. counted i ∷ []) (λ i. first tt none) 1 ns)

step : (s : WeaveStep) → Known (show_weave_step s)
step s = began s.at _ (fixed (codes "at") refl (join (place_numbers s.place) (act s.act)))

semicolon : {ms : List Mark} → Known ms → Known (ms ++ word (codes ";") ∷ [])
semicolon k = join k (fixed (codes ";") refl none)

align : (a : Align) → Known (show_align a)
align (Given b) = fixed (codes "bi") refl (in_braces _ (bicommands 1 1 b))
align (Woven ss) = fixed (codes "weave") refl (in_braces _ (each (ended (codes ";") show_weave_step) (λ s. semicolon (step s)) 1 ss))

of_type : (t : Ty) → IsKnown (show_type t).said
of_type Int = refl
of_type Rgn = refl
of_type (Class c) = tt

decl : (d : Decl) → Known (show_decl d)
decl d = first tt (first refl (first (of_type d.ty) none))

globals : (ds : List Decl) → Known (show_globals ds)
globals ds = each (behind (codes "global") (ended (codes ";") show_decl)) (λ d. fixed (codes "global") refl (semicolon (decl d))) 1 ds

locals : (ds : List Decl) → Known (show_locals ds)
locals ds = each (behind (codes "var") (ended (codes ";") show_decl)) (λ d. fixed (codes "var") refl (semicolon (decl d))) 1 ds

params : (ds : List Decl) → Known (show_params ds)
params ds = fixed (codes "(") refl (join (with_commas show_decl decl ds) (fixed (codes ")") refl none))

place : (p : Place) → Known (show_place p)
place p = join (expression 1 p.region) (fixed (codes "@") refl (called p.field none))

effect : (e : Effect) → Known (show_effect e)
effect (Global x) = name x
effect (Locations p) = place p

writes : (es : List Effect) → Known (show_writes es)
writes es = fixed (codes "writes") refl (in_braces _ (with_commas show_effect effect es))

clause : (c : Clause) → Known (show_clause c)
clause c = began c.at _ (formula 1 c.formula)

rel_clause : (c : RelClause) → Known (show_rel_clause c)
rel_clause c = began c.at _ (relation 1 c.formula)

spec : (s : Spec) → Known (show_spec s)
spec s = fixed (codes "requires") refl (join (join (clause s.needs) (fixed (codes "ensures") refl (clause s.gives))) (writes s.writes))

body : (b : Body) → Known (show_body b)
body b = in_braces _ (join (locals b.locals) (commands 1 1 b.commands))

typed : (t : Ty) → Known (show_type t ∷ [])
typed t = first (of_type t) none

head : (x : Word) (ds : List Decl) (t : Ty) → Known (show_head x ds t)
head x ds t = called x (join (params ds) (fixed (codes ":") refl (typed t)))

proc : (p : Proc) → Known (show_proc p)
proc p = began p.at _ (began p.body.at _ (fixed (codes "proc") refl (join (join (head p.name p.params p.result) (spec p.spec)) (body p.body))))

sig : (s : Sig) → Known (show_sig s)
sig s = began s.at _ (fixed (codes "method") refl (join (join (head s.name s.params s.result) (spec s.spec)) (fixed (codes ";") refl none)))

boundary : (at : ℕ) (ps : List Place) → Known (show_boundary at ps)
boundary at ps = began at _ (fixed (codes "boundary") refl (in_braces _ (with_commas show_place place ps)))

method : (m : Word × Body) → Known (show_method m)
method m = began m.1.at _ (fixed (codes "method") refl (called m.0 (body m.1)))

subject : (s : Word × Word) → Known (show_subject s)
subject s = first tt (first refl (first tt none))

pair_method : (m : ℕ × Word × Align) → Known (show_pair_method m)
pair_method m = began m.0 _ (fixed (codes "method") refl (called m.1 (align m.2)))

-- of each item
pub item : (i : Item) → Known (show_item i)
item (OfClass c) = began c.at _ (fixed (codes "class") refl (called c.name (in_braces _ (each (ended (codes ";") show_decl) (λ d. semicolon (decl d)) 1 c.fields))))
item (OfInterface i) =
    began i.at _ (fixed (codes "interface") refl (called i.name (in_braces _ (join (join (join (join (globals i.globals) (boundary i.boundary_at i.boundary))
    (fixed (codes "init") refl (fixed (codes "ensures") refl (clause i.init_ensures)))) (writes i.init_writes)) (each show_sig sig 1 i.methods)))))
item (OfModule m) =
    began m.at _ (fixed (codes "module") refl (called m.name (fixed (codes ":") refl (called m.interface (in_braces _ (join (join (join (globals m.globals)
    (fixed (codes "invariant") refl (clause m.invariant)))
    (fixed (codes ";") refl (began m.init.at _ (fixed (codes "init") refl (body m.init))))) (each show_method method 1 m.methods)))))))
item (OfUnit u) = began u.at _ (fixed (codes "unit") refl (called u.name (in_braces _ (join (globals u.globals) (each show_proc proc 1 u.procs)))))
item (OfClient c) =
    began c.at _ (fixed (codes "client") refl (called c.name (fixed (codes ":") refl (called c.interface (in_braces _ (join (globals c.globals) (each show_proc proc 1 c.procs)))))))
item (OfJudgement j) =
    began j.at _ (fixed (codes "judge") refl (called j.name (fixed (codes ":") refl (join (join (join (join (subject j.left) (fixed (codes "~") refl (subject j.right)))
    (fixed (codes "requires") refl (rel_clause j.needs))) (fixed (codes "ensures") refl (rel_clause j.gives))) (align j.align)))))
item (OfPair p) =
    began p.at _ (fixed (codes "pair") refl (called p.name (fixed (codes ":") refl (called p.left (fixed (codes "~") refl (called p.right
    (in_braces _ (fixed (codes "coupling") refl (join (join (rel_clause p.coupling)
    (fixed (codes ";") refl (began p.init.0 _ (fixed (codes "init") refl (align p.init.1))))) (each show_pair_method pair_method 1 p.methods))))))))))
