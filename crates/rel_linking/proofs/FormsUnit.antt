-- What a unit of one procedure sees, and where it is of the form.
use Rattle.std.proofs.Common.{◌≡◌, ◌↔◌, inl, inr, ⊎_elim, true, false, Some, List, [], ◌∷◌, ◌++◌, map, refl, ap, ◌∙◌}
use Rattle.std.specs.List.{AllByRecursion}
use Rattle.std.proofs.lemmas.List.{append-nil}
use Rattle.rel_lang.specs.Syntax.{Int, Command, At, Assign, Block, Then, Effect, Proc, UnitItem}
use Rattle.rel_lang.specs.State.{ByCall, Scope}
use Rattle.rel_lang.specs.Scope.{declared, unit_globals, unit_setting, result_variable, pre_scope, post_scope, body_scope}
use Rattle.rel_lang.specs.declared.command.Command as C
use Rattle.rel_lang.specs.declared.bundle.Decl as D
use Rattle.rel_lang.specs.declared.bundle.Effect as E
use Rattle.rel_lang.specs.declared.bundle.Proc as Q
use Rattle.rel_lang.specs.declared.bundle.UnitItem as U
use Rattle.rel_lang.specs.View.{decl_of, effect_of, command_of, block_of, proc_of, unit_of}
use Rattle.rel_linking.specs.Form.{IsGlobal, AssignsListed, IsPlainUnit}
use Rattle.rel_linking.specs.Parts.{Names, Lists, IsInt, IsOfGlobal, IsPlainCommand, IsPlainIn, IsPlain}
use Rattle.rel_linking.proofs.FormsScope.{AreInts}

-- ---- scopes

pub pre_is : (u : UnitItem) (p : Proc) → p.params ≡ [] → pre_scope (unit_setting u p) ≡ unit_globals u
pre_is u p e = ap (λ ds. unit_globals u ++ declared ByCall false ds) e ∙ append-nil (unit_globals u)

pub post_is : (u : UnitItem) (p : Proc) → p.params ≡ [] → post_scope (unit_setting u p) ≡ unit_globals u ++ result_variable (Some p.result)
post_is u p e = ap (λ sc. sc ++ result_variable (Some p.result)) (pre_is u p e)

pub body_is : (u : UnitItem) (p : Proc) → p.params ≡ [] → p.body.locals ≡ [] → body_scope (unit_setting u p) ≡ unit_globals u ++ result_variable (Some p.result)
body_is u p e f =
    ap (λ sc. sc ++ (declared ByCall true p.body.locals ++ result_variable (Some p.result))) (pre_is u p e)
    ∙ ap (λ ds. unit_globals u ++ (declared ByCall true ds ++ result_variable (Some p.result))) f

pub ints_append : (xs ys : Scope) → AreInts xs → AreInts ys → AreInts (xs ++ ys)
ints_append [] ys a b = b
ints_append (x ∷ xs) ys a b = (a.0, ints_append xs ys a.1 b)

-- ---- commands

module _ (ns : Names) (ws : List Effect) (same : Lists ns ws) where
  assigns_command : (c : Command) (rest : Block) → IsPlainCommand ns c → AssignsListed ws rest → AssignsListed ws (Then c rest)
  assigns_command (At at (Assign x e)) rest p later = (⊎_elim (λ r. inl r) (λ k. inr ((same x).0 k)) p.0, p.1, later)
  assigns_command _ rest p later = absurd p

  plain_command : (c : Command) (rest : Block) → AssignsListed ws (Then c rest) → IsPlainCommand ns c × AssignsListed ws rest
  plain_command (At at (Assign x e)) rest l = ((⊎_elim (λ r. inl r) (λ k. inr ((same x).1 k)) l.0, l.1), l.2)
  plain_command _ rest l = absurd l

  assigns_all : (cs : List C.Command) → AllByRecursion (IsPlainIn ns) cs → AssignsListed ws (block_of cs)
  assigns_all [] all = tt
  assigns_all (c ∷ cs) all = assigns_command (command_of c) (block_of cs) all.0 (assigns_all cs all.1)

  all_plain : (cs : List C.Command) → AssignsListed ws (block_of cs) → AllByRecursion (IsPlainIn ns) cs
  all_plain [] l = tt
  all_plain (c ∷ cs) l = let both = plain_command (command_of c) (block_of cs) l in (both.0, all_plain cs both.1)

  pub plain_assigns : (cs : List C.Command) → AllByRecursion (IsPlainIn ns) cs ↔ AssignsListed ws (block_of cs)
  plain_assigns cs = (assigns_all cs, all_plain cs)

-- ---- units

globals_of_writes : (ws : List E.Effect) → AllByRecursion IsOfGlobal ws → AllByRecursion IsGlobal (map effect_of ws)
globals_of_writes [] all = tt
globals_of_writes (w ∷ ws) all = (all.0, globals_of_writes ws all.1)

writes_of_globals : (ws : List E.Effect) → AllByRecursion IsGlobal (map effect_of ws) → AllByRecursion IsOfGlobal ws
writes_of_globals [] all = tt
writes_of_globals (w ∷ ws) all = (all.0, writes_of_globals ws all.1)

none_of : {X Y : Type 0} (f : X → Y) (xs : List X) → map f xs ≡ [] → xs ≡ []
none_of f [] e = refl
none_of f (x ∷ xs) e = cc

ints_of : (ds : List D.Decl) → AllByRecursion IsInt ds → AllByRecursion (λ d. d.ty ≡ Int) (map decl_of ds)
ints_of [] all = tt
ints_of (d ∷ ds) all = (all.0, ints_of ds all.1)

of_ints : (ds : List D.Decl) → AllByRecursion (λ d. d.ty ≡ Int) (map decl_of ds) → AllByRecursion IsInt ds
of_ints [] all = tt
of_ints (d ∷ ds) all = (all.0, of_ints ds all.1)

pub plain_unit : (u : U.UnitItem) (p : Q.Proc) → u.procs ≡ p ∷ [] → IsPlain u p → IsPlainUnit (unit_of u) (proc_of p)
plain_unit u p one h = record {
  procs = ap (map proc_of) one;
  ints = ints_of u.globals h.ints;
  params = ap (map decl_of) h.params;
  result = h.result;
  needs = h.needs;
  gives = h.gives;
  writes = globals_of_writes p.spec.writes h.writes;
  locals = ap (map decl_of) h.locals;
  lists = h.commands;
}

pub is_plain : (u : U.UnitItem) (p : Q.Proc) → IsPlainUnit (unit_of u) (proc_of p) → IsPlain u p
is_plain u p h = record {
  ints = of_ints u.globals h.ints;
  params = none_of decl_of p.params h.params;
  result = h.result;
  needs = h.needs;
  gives = h.gives;
  locals = none_of decl_of p.body.locals h.locals;
  writes = writes_of_globals p.spec.writes h.writes;
  commands = h.lists;
}
