-- From a well-formed state a typed body ends in one.
use Rattle.std.proofs.Common.{◌≡◌, ℕ, zero, suc, pos, Bool, true, false, not, ◌&&◌, ◌||◌, ◌==◌, if◌then◌else◌, IsTrue, IsFalse, IfSome, IsSomeAnd, List, [], ◌∷◌, ◌++◌, map, Option, Some, None, refl, sym, ap, subst, ◌∙◌, ⊎_elim, true≢false}
use Rattle.std.specs.List.{AllByRecursion}
use Rattle.std.specs.FinSet as set
use Rattle.rel_list.specs.References.{Obj, Ref, Region, is_in}
use Rattle.rel_list.proofs.Sets.{obj_total, tied, and_both}
use Rattle.rel_lang.specs.Syntax.{Word, Ty, Class, Decl, Expression, Command, At, Skip, Assign, Load, Store, New, Call, If, While, Block, End, Then}
use Rattle.rel_lang.specs.State.{find_named, class_number, find_field, Value, Number, Reference, Objects, as_reference, ByCall, same_owner, State, Variable, Scope, find_variable, value_in, read_variable, read_field, write_variable, with_defaults, write_field, with_object, IsWellFormed}
use Rattle.rel_lang.specs.Scope.{Setting, declared, globals_of, parameters_of, own_variables, pre_scope, body_scope, result_name, result_variable}
use Rattle.rel_lang.specs.Value.{value_of}
use Rattle.rel_lang.specs.Truth.{holds}
use Rattle.rel_lang.specs.Typed.{AreDistinct, names_of, HasType, Signature, Names, IsTarget, AreArguments, IsTypedCommand, IsTypedBlock}
use Rattle.rel_lang.specs.Run.{Picks, Outcome, Done, Fault, Out, NoPick, and_then, Callee, Program, find_callee, Code, code_of, begin, with_call_of, with_new_call, with_arguments, called, pick, touch, returned, call, step, step_command, steps, run_of}
use Rattle.rel_lang.specs.Laws.{IsOneOf, Agree, AreGlobals, IsCalleeFor, IsTypedIn, TypedRunsEndWellFormed}
use Rattle.rel_lang.proofs.Values.{found, both_some, Within, Fits, fits_more, field_fits, variable_fits, value_fits}
use Rattle.rel_lang.proofs.Writes.{AgreeAll, all_append, all_left, all_right, all_weaker, distinct_agree, AllFit, write_fits, written_fits, defaults_fit, beside_defaults, Locations, field_write_fits, insert_within, object_locations_fit}
use Rattle.rel_lang.proofs.Growth.{Grows, defaults_allocate_none, arguments_allocate_none, run_grows}

if_some : {A : Type 0} (o : Option A) → IfSome o (λ a. Unit {0})
if_some None = tt
if_some (Some a) = tt

one_of_all : (P : Variable → Type 0) (v : Variable) (ws : Scope) → IsOneOf v ws → AllByRecursion P ws → P v
one_of_all P v [] one all = absurd one
one_of_all P v (w ∷ ws) one all = ⊎_elim (λ e. subst P (sym e) all.0) (λ later. one_of_all P v ws later all.1) one

all_of_part : (P : Variable → Type 0) (vs ws : Scope) → AllByRecursion (λ v. IsOneOf v ws) vs → AllByRecursion P ws → AllByRecursion P vs
all_of_part P vs ws part all = all_weaker (λ v. IsOneOf v ws) P (λ v one. one_of_all P v ws one all) vs part

-- of A ++ B that agree with themselves, parts agree
agree_left : (vs ws us : Scope) → AgreeAll (vs ++ ws) us → AgreeAll vs us
agree_left vs ws us h = all_left _ vs ws h

agree_right : (vs ws us : Scope) → AgreeAll (vs ++ ws) us → AgreeAll ws us
agree_right vs ws us h = all_right _ vs ws h

with_left : (us vs ws : Scope) → AgreeAll us (vs ++ ws) → AgreeAll us vs
with_left us vs ws h = all_weaker _ _ (λ v. all_left (Agree v) vs ws) us h

with_right : (us vs ws : Scope) → AgreeAll us (vs ++ ws) → AgreeAll us ws
with_right us vs ws h = all_weaker _ _ (λ v. all_right (Agree v) vs ws) us h

-- a variable of a call is no global
call_agrees : (v : Variable) (ws : Scope) → v.owner ≡ ByCall → AllByRecursion (λ w. IsFalse (same_owner w.owner ByCall)) ws → AllByRecursion (Agree v) ws
call_agrees v ws is all = all_weaker (λ w. IsFalse (same_owner w.owner ByCall)) (Agree v)
    (λ w other e. absurd (true≢false (sym (subst (λ o. IsTrue (same_owner w.owner o)) is (and_both _ _ e).0) ∙ other))) ws all

calls_agree : (is_assignable : Bool) (ds : List Decl) (ws : Scope) → AllByRecursion (λ w. IsFalse (same_owner w.owner ByCall)) ws → AgreeAll (declared ByCall is_assignable ds) ws
calls_agree a [] ws all = tt
calls_agree a (d ∷ ds) ws all = (call_agrees (record { name = d.name; owner = ByCall; ty = d.ty; is_assignable = a }) ws refl all, calls_agree a ds ws all)

result_agrees : (r : Option Ty) (ws : Scope) → AllByRecursion (λ w. IsFalse (same_owner w.owner ByCall)) ws → AgreeAll (result_variable r) ws
result_agrees None ws all = tt
result_agrees (Some t) ws all = (call_agrees (record { name = result_name; owner = ByCall; ty = t; is_assignable = true }) ws refl all, tt)

own_agree : (g : Setting) (ws : Scope) → AllByRecursion (λ w. IsFalse (same_owner w.owner ByCall)) ws → AgreeAll (own_variables g) ws
own_agree g ws all = all_append _ (declared ByCall true g.locals) (result_variable g.result) (calls_agree true g.locals ws all) (result_agrees g.result ws all)

-- ---- settings

-- what a body's code needs to know of its setting
record IsSetting (p : Program) (globals : Scope) (g : Setting) (ns : List Signature) : Type 0 where
  names : AreDistinct (names_of (body_scope g))
  sees : AllByRecursion (λ v. IsOneOf v globals) (globals_of g)
  answered : (x : Word) → IfSome (find_named (λ q. q.name) x ns) (λ q. IsSomeAnd (find_callee x p.callees) (IsCalleeFor q))

module _ (p : Program) (globals : Scope) (are : AreGlobals globals) where
  abbrev FormedIn : Scope → State → Type 0
  FormedIn sc s = IsWellFormed p.tables sc s

  abbrev Both : Setting → State → Type 0
  Both g s = FormedIn globals s × FormedIn (body_scope g) s

  abbrev Formed : Setting → Outcome → Type 0
  Formed g (Done t k) = Both g t
  Formed g Fault = Unit {0}
  Formed g Out = Unit {0}
  Formed g NoPick = Unit {0}

  formed_if : (g : Setting) (b : Bool) (x y : Outcome) → Formed g x → Formed g y → Formed g (if b then x else y)
  formed_if g true x y h i = h
  formed_if g false x y h i = i

  formed_and_then : (g : Setting) (a : Outcome) (f : State → Picks → Outcome) → Formed g a → ((s : State) (k : Picks) → Both g s → Formed g (f s k)) → Formed g (and_then a f)
  formed_and_then g (Done s k) f first next = next s k first
  formed_and_then g Fault f first next = tt
  formed_and_then g Out f first next = tt
  formed_and_then g NoPick f first next = tt

  scope_agrees : (g : Setting) (ns : List Signature) → IsSetting p globals g ns → AgreeAll (body_scope g) globals
  scope_agrees g ns is =
      all_append _ (pre_scope g) (own_variables g)
      (all_append _ (globals_of g) (parameters_of g) (all_of_part _ (globals_of g) globals is.sees are.agree) (calls_agree false g.parameters globals are.of_items))
      (own_agree g globals are.of_items)

  write_formed : (o : Option Variable) (value : Value) (s : State) (ws : Scope) → IfSome o (λ v. AllByRecursion (Agree v) ws) → IfSome o (λ v. Fits p.tables s.alloc v.ty value)
      → FormedIn ws s → FormedIn ws (write_variable o value s)
  write_formed None value s ws agree fits formed = formed
  write_formed (Some v) value s ws agree fits formed = record { variables = write_fits p.tables v value s.alloc s ws fits agree formed.variables; locations = formed.locations }

  target_fits : (o : Option Variable) (t : Ty) (value : Value) (alloc : Region) → Fits p.tables alloc t value → IsSomeAnd o (λ v. IsTrue v.is_assignable × (v.ty ≡ t))
      → IfSome o (λ v. Fits p.tables alloc v.ty value)
  target_fits None t value alloc fits target = tt
  target_fits (Some v) t value alloc fits target = subst (λ u. Fits p.tables alloc u value) (sym target.1) fits

  -- a target takes a value that fits
  write_both : (g : Setting) (ns : List Signature) → IsSetting p globals g ns → (x : Word) (t : Ty) (value : Value) (s : State) → Fits p.tables s.alloc t value
      → IsSomeAnd (find_variable x (body_scope g)) (λ v. IsTrue v.is_assignable × (v.ty ≡ t)) → Both g s → Both g (write_variable (find_variable x (body_scope g)) value s)
  write_both g ns is x t value s fits target both =
      let fit = target_fits (find_variable x (body_scope g)) t value s.alloc fits target in (
        write_formed _ value s globals (found _ _ x (body_scope g) (scope_agrees g ns is)) fit both.0,
        write_formed _ value s (body_scope g) (found _ _ x (body_scope g) (distinct_agree (body_scope g) is.names)) fit both.1,
      )

  code_fits : (g : Setting) (e : Expression) (t : Ty) (s : State) → Both g s → HasType p.tables false (body_scope g) e t
      → Fits p.tables s.alloc t (value_of p.tables (body_scope g) e s s)
  code_fits g e t s both typed = value_fits p.tables (body_scope g) e t false s s both.1 both.1 (λ o h. h) typed

  abbrev refers_in : Region → Word → Ref → Bool
  refers_in alloc c None = true
  refers_in alloc c (Some o) = is_in o alloc && (o.class == class_number p.tables c)

  reference_fits : (v : Value) (o : Obj) (c : Word) (alloc : Region) → as_reference v ≡ Some o → Fits p.tables alloc (Class c) v → IsTrue (is_in o alloc && (o.class == class_number p.tables c))
  reference_fits (Number n) o c alloc is fits = cc
  reference_fits (Reference None) o c alloc is fits = cc
  reference_fits (Reference (Some q)) o c alloc is fits = subst (λ r. IsTrue (refers_in alloc c r)) is fits
  reference_fits (Objects k) o c alloc is fits = cc

  -- ---- entering a body

  abbrev ArgumentsFit : Region → List Decl → List Value → Type 0
  ArgumentsFit alloc [] [] = Unit {0}
  ArgumentsFit alloc (d ∷ ds) (v ∷ vs) = Fits p.tables alloc d.ty v × ArgumentsFit alloc ds vs
  ArgumentsFit alloc _ _ = ⊥

  arguments_fit : (ds : List Decl) (vs : List Value) (alloc : Region) (s : State) → ArgumentsFit alloc ds vs → AgreeAll (declared ByCall false ds) (declared ByCall false ds)
      → AllFit p.tables alloc (declared ByCall false ds) (with_arguments ds vs s)
  arguments_fit [] vs alloc s fit agree = tt
  arguments_fit (d ∷ ds) [] alloc s fit agree = absurd fit
  arguments_fit (d ∷ ds) (v ∷ vs) alloc s fit agree = (
    written_fits p.tables (record { name = d.name; owner = ByCall; ty = d.ty; is_assignable = false }) v alloc (with_arguments ds vs s) fit.0,
    write_fits p.tables (record { name = d.name; owner = ByCall; ty = d.ty; is_assignable = false }) v alloc (with_arguments ds vs s) (declared ByCall false ds) fit.0 agree.0.1
        (arguments_fit ds vs alloc s fit.1 (all_weaker _ _ (λ w h. h.1) (declared ByCall false ds) agree.1)),
  )

  beside_arguments : (ds : List Decl) (vs : List Value) (ws : Scope) (alloc : Region) (s : State) → ArgumentsFit alloc ds vs → AgreeAll (declared ByCall false ds) ws
      → AllFit p.tables alloc ws s → AllFit p.tables alloc ws (with_arguments ds vs s)
  beside_arguments [] vs ws alloc s fit agree all = all
  beside_arguments (d ∷ ds) [] ws alloc s fit agree all = absurd fit
  beside_arguments (d ∷ ds) (v ∷ vs) ws alloc s fit agree all =
      write_fits p.tables (record { name = d.name; owner = ByCall; ty = d.ty; is_assignable = false }) v alloc (with_arguments ds vs s) ws fit.0 agree.0
      (beside_arguments ds vs ws alloc s fit.1 agree.1 all)

  -- globals don't see whose call it is
  beside_call : (ws : Scope) (alloc : Region) (s t : State) → AllByRecursion (λ w. IsFalse (same_owner w.owner ByCall)) ws → AllFit p.tables alloc ws t
      → AllFit p.tables alloc ws (with_call_of s t)
  beside_call [] alloc s t items all = tt
  beside_call (w ∷ ws) alloc s t items all =
      (subst (λ b. Fits p.tables alloc w.ty (if b then s.vars w.owner w.name else value_in t w)) (sym items.0) all.0, beside_call ws alloc s t items.1 all.1)

  beside_new_call : (ws : Scope) (alloc : Region) (s : State) → AllByRecursion (λ w. IsFalse (same_owner w.owner ByCall)) ws → AllFit p.tables alloc ws s
      → AllFit p.tables alloc ws (with_new_call s)
  beside_new_call [] alloc s items all = tt
  beside_new_call (w ∷ ws) alloc s items all =
      (subst (λ b. Fits p.tables alloc w.ty (if b then Number (pos 0) else value_in s w)) (sym items.0) all.0, beside_new_call ws alloc s items.1 all.1)

  defaults_locations : (vs : Scope) (s : State) → Locations p.tables s → Locations p.tables (with_defaults vs s)
  defaults_locations [] s all = all
  defaults_locations (v ∷ vs) s all = defaults_locations vs s all

  arguments_locations : (ds : List Decl) (vs : List Value) (s : State) → Locations p.tables s → Locations p.tables (with_arguments ds vs s)
  arguments_locations [] vs s all = all
  arguments_locations (d ∷ ds) [] s all = all
  arguments_locations (d ∷ ds) (v ∷ vs) s all = arguments_locations ds vs s all

  -- a body whose arguments fit begins in a well-formed state
  entered : (g : Setting) (ns : List Signature) (vs : List Value) (s : State) → IsSetting p globals g ns → ArgumentsFit s.alloc g.parameters vs → FormedIn globals s
      → Both g (begin g (called g vs s))
  entered g ns vs s is fit formed = (
    record { variables = here globals globals_fit; locations = locations },
    record { variables = here (body_scope g) scope_fits; locations = locations },
  )
    where
      self : AgreeAll (body_scope g) (body_scope g)
      self = distinct_agree (body_scope g) is.names

      own : AgreeAll (own_variables g) (body_scope g)
      own = agree_right (pre_scope g) (own_variables g) (body_scope g) self

      pre : AgreeAll (pre_scope g) (pre_scope g)
      pre = with_left (pre_scope g) (pre_scope g) (own_variables g) (agree_left (pre_scope g) (own_variables g) (body_scope g) self)

      parameters : AgreeAll (parameters_of g) (parameters_of g)
      parameters = with_right (parameters_of g) (globals_of g) (parameters_of g) (agree_right (globals_of g) (parameters_of g) (pre_scope g) pre)

      globals_fit : AllFit p.tables s.alloc globals (begin g (called g vs s))
      globals_fit = beside_defaults p.tables (own_variables g) globals s.alloc _ (own_agree g globals are.of_items)
          (beside_arguments g.parameters vs globals s.alloc _ fit (calls_agree false g.parameters globals are.of_items) (beside_new_call globals s.alloc s are.of_items formed.variables))

      scope_fits : AllFit p.tables s.alloc (body_scope g) (begin g (called g vs s))
      scope_fits = all_append _ (pre_scope g) (own_variables g)
          (all_append _ (globals_of g) (parameters_of g) (all_of_part _ (globals_of g) globals is.sees globals_fit)
          (beside_defaults p.tables (own_variables g) (parameters_of g) s.alloc _
          (with_right (own_variables g) (globals_of g) (parameters_of g) (with_left (own_variables g) (pre_scope g) (own_variables g) own))
          (arguments_fit g.parameters vs s.alloc _ fit parameters)))
          (defaults_fit p.tables (own_variables g) s.alloc _ (with_right (own_variables g) (pre_scope g) (own_variables g) own))

      alloc_is : (begin g (called g vs s)).alloc ≡ s.alloc
      alloc_is = defaults_allocate_none (own_variables g) _ ∙ arguments_allocate_none g vs s

      here : (ws : Scope) → AllFit p.tables s.alloc ws (begin g (called g vs s)) → AllFit p.tables (begin g (called g vs s)).alloc ws (begin g (called g vs s))
      here ws all = subst (λ a. AllFit p.tables a ws (begin g (called g vs s))) (sym alloc_is) all

      locations : Locations p.tables (begin g (called g vs s))
      locations = defaults_locations (own_variables g) _ (arguments_locations g.parameters vs _ formed.locations)

  -- ---- leaving a body

  calls_later : (is_assignable : Bool) (ds : List Decl) (g h : Region) (s t : State) → Within g h → AllFit p.tables g (declared ByCall is_assignable ds) s
      → AllFit p.tables h (declared ByCall is_assignable ds) (with_call_of s t)
  calls_later a [] g h s t grown all = tt
  calls_later a (d ∷ ds) g h s t grown all = (fits_more p.tables d.ty _ g h grown all.0, calls_later a ds g h s t grown all.1)

  result_later : (r : Option Ty) (g h : Region) (s t : State) → Within g h → AllFit p.tables g (result_variable r) s → AllFit p.tables h (result_variable r) (with_call_of s t)
  result_later None g h s t grown all = tt
  result_later (Some u) g h s t grown all = (fits_more p.tables u _ g h grown all.0, tt)

  -- the caller's variables come back to a state that has grown
  left : (g : Setting) (ns : List Signature) (s t : State) → IsSetting p globals g ns → Within s.alloc t.alloc → Both g s → FormedIn globals t → Both g (with_call_of s t)
  left g ns s t is grown both formed = (
    record { variables = globals_fit; locations = formed.locations },
    record { variables = scope_fits; locations = formed.locations },
  )
    where
      globals_fit : AllFit p.tables t.alloc globals (with_call_of s t)
      globals_fit = beside_call globals t.alloc s t are.of_items formed.variables

      before : AllFit p.tables s.alloc (body_scope g) s
      before = both.1.variables

      scope_fits : AllFit p.tables t.alloc (body_scope g) (with_call_of s t)
      scope_fits = all_append _ (pre_scope g) (own_variables g)
          (all_append _ (globals_of g) (parameters_of g) (all_of_part _ (globals_of g) globals is.sees globals_fit)
          (calls_later false g.parameters s.alloc t.alloc s t grown (all_right _ (globals_of g) (parameters_of g) (all_left _ (pre_scope g) (own_variables g) before))))
          (all_append _ (declared ByCall true g.locals) (result_variable g.result)
          (calls_later true g.locals s.alloc t.alloc s t grown (all_left _ (declared ByCall true g.locals) (result_variable g.result) (all_right _ (pre_scope g) (own_variables g) before)))
          (result_later g.result s.alloc t.alloc s t grown (all_right _ (declared ByCall true g.locals) (result_variable g.result) (all_right _ (pre_scope g) (own_variables g) before))))

  result_fits : (g : Setting) (u : Ty) (t : State) → g.result ≡ Some u → FormedIn (body_scope g) t → Fits p.tables t.alloc u (t.vars ByCall result_name)
  result_fits g u t is formed =
      (subst (λ r. AllFit p.tables t.alloc (result_variable r) t) is
      (all_right _ (declared ByCall true g.locals) (result_variable g.result) (all_right _ (pre_scope g) (own_variables g) formed.variables))).0

  arguments_of : (g : Setting) (ns : List Signature) (s : State) → Both g s → (es : List Expression) (ds : List Decl)
      → AreArguments p.tables (record { scope = body_scope g; callees = ns }) es ds → ArgumentsFit s.alloc ds (map (λ e. value_of p.tables (body_scope g) e s s) es)
  arguments_of g ns s both [] [] are_arguments = tt
  arguments_of g ns s both [] (d ∷ ds) are_arguments = absurd are_arguments
  arguments_of g ns s both (e ∷ es) [] are_arguments = absurd are_arguments
  arguments_of g ns s both (e ∷ es) (d ∷ ds) are_arguments =
      (code_fits g e d.ty s both are_arguments.0.1, arguments_of g ns s both es ds are_arguments.1)

  setting_of : (g : Setting) (b : Block) (typed : IsTypedIn p globals g b) → IsSetting p globals g typed.callees
  setting_of g b typed = record { names = typed.typed.names; sees = typed.sees; answered = typed.answered }

  module _ (bodies : AllByRecursion (λ c. IsTypedIn p globals c.setting c.commands) p.callees) (again : Code → Block → State → Picks → Outcome)
      (grow : (c : Code) (b : Block) (s : State) (k : Picks) → Grows s.alloc (again c b s k))
      (h : (g : Setting) (ns : List Signature) (b : Block) → IsSetting p globals g ns → IsTypedBlock p.tables (record { scope = body_scope g; callees = ns }) b
      → (w : Bool) (s : State) (k : Picks) → Both g s → Formed g (again (code_of g w) b s k)) where
    returns : (g : Setting) (ns : List Signature) → IsSetting p globals g ns → (w : Bool) (q : Setting) (u : Ty) (x : Word) (s : State) (a : Outcome) → q.result ≡ Some u
        → IsTarget p.tables (record { scope = body_scope g; callees = ns }) x u → Both g s → Formed q a → Grows s.alloc a → Formed g (and_then a (returned p again (code_of g w) x s))
    returns g ns is w q u x s (Done t k) result target both formed grown =
        write_both g ns is x u (t.vars ByCall result_name) (with_call_of s t) (result_fits q u t result formed.1) target (left g ns s t is grown both formed.0)
    returns g ns is w q u x s Fault result target both formed grown = tt
    returns g ns is w q u x s Out result target both formed grown = tt
    returns g ns is w q u x s NoPick result target both formed grown = tt

    call_formed : (g : Setting) (ns : List Signature) → IsSetting p globals g ns → (w : Bool) (c : Callee) (q : Signature) (x : Word) (vs : List Value) (s : State) (k : Picks)
        → IsTypedIn p globals c.setting c.commands → IsCalleeFor q c → IsTarget p.tables (record { scope = body_scope g; callees = ns }) x q.result → ArgumentsFit s.alloc q.params vs
        → Both g s → Formed g (call p again (code_of g w) (Some c) x vs s k)
    call_formed g ns is w c q x vs s k typed for target fit both =
        formed_if g (not w || p.watch.may_call c (called c.setting vs s)) _ _
        (returns g ns is w c.setting q.result x s _ for.1 target both
        (h c.setting typed.callees c.commands (setting_of c.setting c.commands typed) typed.typed.commands c.is_watched _ k
        (entered c.setting typed.callees vs s (setting_of c.setting c.commands typed) (subst (λ ds. ArgumentsFit s.alloc ds vs) (sym for.0) fit) both.0))
        (subst (λ a. Grows a (again (code_of c.setting c.is_watched) c.commands (begin c.setting (called c.setting vs s)) k)) alloc_is
        (grow (code_of c.setting c.is_watched) c.commands (begin c.setting (called c.setting vs s)) k)))
        tt
      where
        alloc_is : (begin c.setting (called c.setting vs s)).alloc ≡ s.alloc
        alloc_is = defaults_allocate_none (own_variables c.setting) _ ∙ arguments_allocate_none c.setting vs s

    touch_formed : (g : Setting) (w : Bool) (r : Ref) (f : Word) (s : State) (next : Obj → Outcome) → ((o : Obj) → r ≡ Some o → Formed g (next o))
        → Formed g (touch p again (code_of g w) r f s next)
    touch_formed g w None f s next i = tt
    touch_formed g w (Some o) f s next i = formed_if g (not w || p.watch.may_touch s o f) _ _ (i o refl) tt

    pick_formed : (g : Setting) (c : ℕ) (s : State) (k : Picks) (next : Obj → Picks → Outcome) → ((o : Obj) (j : Picks) → IsTrue (o.class == c) → Formed g (next o j))
        → Formed g (pick c s k next)
    pick_formed g c s [] next i = tt
    pick_formed g c s (None ∷ k) next i = tt
    pick_formed g c s (Some o ∷ k) next i =
        elim (o.class == c && not (is_in o s.alloc)) as (λ b. (o.class == c && not (is_in o s.alloc)) ≡ b → Formed g (if b then next o k else NoPick)) [
          | true ↦ λ e. i o k (and_both _ _ e).0
          | false ↦ λ e. tt
        ] refl

    insert_itself : (o : Obj) (r : Region) → is_in o (set.insert r o) ≡ true
    insert_itself o r = set.contains-insert obj_total r o o ∙ ap (λ b. b || is_in o r) (tied o)

    new_object_formed : (ws : Scope) (o : Obj) (s : State) → FormedIn ws s → FormedIn ws (with_object p.tables o s)
    new_object_formed ws o s formed = record {
      variables = all_weaker _ _ (λ v. fits_more p.tables v.ty (value_in s v) s.alloc (set.insert s.alloc o) (insert_within p.tables o s.alloc)) ws formed.variables;
      locations = object_locations_fit p.tables o s formed.locations;
    }

    store_formed : (ws : Scope) (o : Obj) (f : Word) (value : Value) (s : State) → Locations p.tables (write_field o f value s) → FormedIn ws s → FormedIn ws (write_field o f value s)
    store_formed ws o f value s locations formed = record { variables = formed.variables; locations = locations }

    module _ (g : Setting) (ns : List Signature) (is : IsSetting p globals g ns) (w : Bool) where
      abbrev named : Names
      named = record { scope = body_scope g; callees = ns }

      load_formed : (x y f : Word) (s : State) (k : Picks) → IsTypedCommand p.tables named (At 0 (Load x y f)) → Both g s → Formed g (step p again (code_of g w) (Load x y f) s k)
      load_formed x y f s k typed both =
          let d = both_some {P = λ d. Unit {0}} (find_field p.tables f) (if_some _) typed in
          let fits = variable_fits p.tables (body_scope g) y (Class (d.0).class) s both.1 (d.3).0 in
          touch_formed g w (as_reference (read_variable (find_variable y (body_scope g)) s)) f s _ (λ o e.
          write_both g ns is x (d.0).ty (s.heap o f) s
          (subst (λ r. Fits p.tables s.alloc (d.0).ty (read_field p.tables r f s)) e (field_fits p.tables f d.0 (read_variable (find_variable y (body_scope g)) s) s d.1 (λ m. both.1.locations m f) fits))
          (d.3).1 both)

      store_typed : (y f : Word) (e : Expression) (s : State) (k : Picks) → IsTypedCommand p.tables named (At 0 (Store y f e)) → Both g s → Formed g (step p again (code_of g w) (Store y f e) s k)
      store_typed y f e s k typed both =
          let d = both_some {P = λ d. Unit {0}} (find_field p.tables f) (if_some _) typed in
          let fits = variable_fits p.tables (body_scope g) y (Class (d.0).class) s both.1 (d.3).0 in
          touch_formed g w (as_reference (read_variable (find_variable y (body_scope g)) s)) f s _ (λ o is_o.
          let locations = field_write_fits p.tables o f d.0 (value_of p.tables (body_scope g) e s s) s d.1 (reference_fits _ o (d.0).class s.alloc is_o fits) (code_fits g e (d.0).ty s both (d.3).1.1) both.1.locations in
          (store_formed globals o f _ s locations both.0, store_formed (body_scope g) o f _ s locations both.1))

      call_typed : (x q : Word) (es : List Expression) (s : State) (k : Picks) → IsTypedCommand p.tables named (At 0 (Call x q es)) → Both g s → Formed g (step p again (code_of g w) (Call x q es) s k)
      call_typed x q es s k typed both =
          let sig = both_some (find_named (λ u. u.name) q ns) (is.answered q) typed.1 in
          let c = both_some (find_callee q p.callees) (found _ _ q p.callees bodies) sig.2 in
          subst (λ o. Formed g (call p again (code_of g w) o x (map (λ e. value_of p.tables (body_scope g) e s s) es) s k)) (sym c.1)
          (call_formed g ns is w c.0 sig.0 x _ s k c.2 c.3 (sig.3).1 (arguments_of g ns s both es (sig.0).params (sig.3).0) both)

      mutual
        command_formed : (d : Command) (s : State) (k : Picks) → IsTypedCommand p.tables named d → Both g s → Formed g (step_command p again (code_of g w) d s k)
        command_formed (At at Skip) s k typed both = both
        command_formed (At at (Assign x e)) s k typed both = write_both g ns is x typed.0 _ s (code_fits g e typed.0 s both typed.2.1) typed.1 both
        command_formed (At at (Load x y f)) s k typed both = load_formed x y f s k typed both
        command_formed (At at (Store y f e)) s k typed both = store_typed y f e s k typed both
        command_formed (At at (New x d)) s k typed both =
            pick_formed g (class_number p.tables d) s k _ (λ o j of_class.
            write_both g ns is x (Class d) (Reference (Some o)) (with_object p.tables o s)
            (ap (λ b. b && (o.class == class_number p.tables d)) (insert_itself o s.alloc) ∙ of_class) typed.0
            (new_object_formed globals o s both.0, new_object_formed (body_scope g) o s both.1))
        command_formed (At at (Call x q es)) s k typed both = call_typed x q es s k typed both
        command_formed (At at (If t a b)) s k typed both =
            formed_if g (holds p.tables (body_scope g) t s s) _ _ (block_formed a s k typed.1 both) (block_formed b s k typed.2 both)
        command_formed (At at (While t i b)) s k typed both =
            formed_if g (holds p.tables (body_scope g) t s s) _ _
            (formed_and_then g _ _ (h g ns b is typed.2 w s k both) (λ u j formed. h g ns (Then (At 0 (While t i b)) End) is (typed, tt) w u j formed)) both

        block_formed : (b : Block) (s : State) (k : Picks) → IsTypedBlock p.tables named b → Both g s → Formed g (steps p again (code_of g w) b s k)
        block_formed End s k typed both = both
        block_formed (Then d ds) s k typed both = formed_and_then g _ _ (command_formed d s k typed.0 both) (λ u j formed. block_formed ds u j typed.1 formed)

  abbrev never : Code → Block → State → Picks → Outcome
  never c b s k = Out

  run_formed : AllByRecursion (λ c. IsTypedIn p globals c.setting c.commands) p.callees → (n : ℕ) (g : Setting) (ns : List Signature) (b : Block) → IsSetting p globals g ns
      → IsTypedBlock p.tables (record { scope = body_scope g; callees = ns }) b → (w : Bool) (s : State) (k : Picks) → Both g s → Formed g (run_of p n (code_of g w) b s k)
  run_formed bodies zero g ns b is typed w s k both = block_formed bodies never (λ c b s k. tt) (λ g ns b is typed w s k both. tt) g ns is w b s k typed both
  run_formed bodies (suc n) g ns b is typed w s k both = block_formed bodies (run_of p n) (run_grows p n) (run_formed bodies n) g ns is w b s k typed both

pub end_well_formed : TypedRunsEndWellFormed
end_well_formed p globals g b program typed w n s t k j formed formed_too e =
    subst (Formed p globals program.are_globals g) e
    (run_formed p globals program.are_globals program.bodies n g typed.callees b (setting_of p globals program.are_globals g b typed) typed.typed.commands w s k (formed, formed_too))
