-- A block is typed exactly where it has no fault.
use Rattle.std.proofs.Common.{◌≡◌, ◌≢◌, ℕ, Bool, true, false, not, ◌↔◌, if◌then◌else◌, List, [], ◌∷◌, length, Option, Some, None, IsTrue, IsSomeAnd, refl, sym, ap, subst, ◌∙◌}
use Rattle.std.specs.Prelude.{◌==◌, bytes_eq, is_some}
use Rattle.std.proofs.Math.Dec.{eqb-suc-suc, eqb-suc-zero, eqb-zero-suc}
use Rattle.std.proofs.lemmas.Bool.{not-false, not_from_true}
use Rattle.rel_lang.specs.Syntax.{Word, Ty, Class, Expression, Formula, Command, At, Form, Skip, Assign, Load, Store, New, Call, If, While, Block, End, Then, Decl}
use Rattle.rel_lang.specs.State.{Tables, ClassField, find_field, find_named, Scope, Variable, find_variable}
use Rattle.rel_lang.specs.Lookup.{main_name}
use Rattle.rel_lang.specs.Typed.{is_code, is_test, HasType, Signature, Names, IsCode, IsTest, IsTarget, RefersTo, AreArguments, IsTypedCommand, IsTypedBlock}
use Rattle.rel_flaws.specs.Flaws.{Flaws, flawless, either, fault_at}
use Rattle.rel_flaws.specs.Inference.{same_type, Inferred, Exactly, fits, infer, is_class, flaws_of_formula, flaws_of_test, flaws_of_value}
use Rattle.rel_flaws.specs.Code.{Code, find_callee, unknown_where, has_type, cannot_be_assigned, cannot_take, flaws_of_target, flaws_of_reference, flaws_of_arguments, flaws_of_load, flaws_of_store, flaws_of_call, flaws_of_form, inner_fault, command_fault, block_fault}
use Rattle.rel_types.proofs.Equivalences.{iff_then, iff_back, iff_both}
use Rattle.rel_types.proofs.Clean.{IsClean, clean_both, HasNoFault, no_fault_at, no_fault_in_both}
use Rattle.rel_types.proofs.Distinct.{apart_is_false}
use Rattle.rel_types.proofs.Expressions.{AreFine, among_law, type_law, expression_law}
use Rattle.rel_types.proofs.Formulas.{two_clean, formula_law}

-- ---- what code can name

-- what a call in this code can mean
abbrev pub callable : Code → List Signature
callable code = if code.may_call then code.callees else []

abbrev pub names_in : Code → Names
names_in code = record { scope = code.scope; callees = callable code }

-- ---- tests and values

with_code : (f : Flaws) (b : Bool) → f.not_code ≡ false → (IsTrue b × IsClean f) ↔ IsClean (record f { not_code = not b })
with_code f b none = (
  λ h. ap (λ c. record f { not_code = not c }) h.0 ∙ ap (λ (g : Flaws). record g { not_code = false }) h.1,
  λ h. (not-false b (ap (λ (g : Flaws). g.not_code) h), ap (λ (g : Flaws). record g { not_code = f.not_code }) h ∙ ap (λ c. record flawless { not_code = c }) none),
)

pub test_law : (tables : Tables) (ns : Names) (p : Formula) → IsTest tables ns p ↔ IsClean (flaws_of_test tables ns.scope p)
test_law tables ns p = iff_then (iff_both (λ b. b, λ b. b) (formula_law tables false ns.scope p)) (with_code (flaws_of_formula tables false ns.scope p) (is_test p) refl)

-- the flaws that a value can have
abbrev value_flaws : Bool → Bool → Bool → Bool → Flaws
value_flaws unknown misplaced loose ill = record flawless { unknown = unknown; old_here = misplaced; not_code = loose; wrong_type = ill }

from_value : (u m k w : Bool) → u ≡ false → m ≡ false → k ≡ false → w ≡ false → IsClean (value_flaws u m k w)
from_value u m k w eu em ek ew = rw (eu, em, ek, ew) refl

value_law : {A : Type 0} (k u m f : Bool) → (A ↔ AreFine u m f) → (IsTrue k × A) ↔ IsClean (value_flaws u m (not k) (not f))
value_law k u m f p = (
  λ h. let x = p.0 h.1 in from_value u m (not k) (not f) x.0 x.1 (not_from_true k h.0) (not_from_true f x.2),
  λ h. (not-false k (ap (λ x. x.not_code) h), p.1 (ap (λ x. x.unknown) h, ap (λ x. x.old_here) h, not-false f (ap (λ x. x.wrong_type) h))),
)

code_law : (tables : Tables) (ns : Names) (e : Expression) (t : Ty) → IsCode tables ns e t ↔ IsClean (flaws_of_value tables ns.scope e t)
code_law tables ns e t = value_law (is_code e) _ _ _ (expression_law tables false ns.scope e t)

-- ---- variables

abbrev target_flaws : Option Variable → Inferred → Flaws
target_flaws o i = record flawless { unknown = not (is_some o); target = cannot_be_assigned o; wrong_type = cannot_take i o }

from_target : (v : Variable) (i : Inferred) → IsTrue v.is_assignable → fits i v.ty ≡ true → IsClean (target_flaws (Some v) i)
from_target v i a f = ap (λ b. record flawless { target = not b; wrong_type = not (fits i v.ty) }) a ∙ ap (λ b. record flawless { wrong_type = not b }) f

target_of : (o : Option Variable) (t : Ty) → IsSomeAnd o (λ v. IsTrue v.is_assignable × (v.ty ≡ t)) ↔ IsClean (target_flaws o (Exactly t))
target_of None t = (λ h. absurd h, λ h. let e = ap (λ x. x.unknown) h in absurd cc)
target_of (Some v) t = (
  λ h. from_target v (Exactly t) h.0 ((type_law t v.ty).1 (sym h.1)),
  λ h. (not-false v.is_assignable (ap (λ x. x.target) h), sym ((type_law t v.ty).0 (not-false (same_type t v.ty) (ap (λ x. x.wrong_type) h)))),
)

assign_law : (o : Option Variable) (i : Inferred) (k u m : Bool) (A : Ty → Type 0) → ((t : Ty) → A t ↔ AreFine u m (fits i t))
    → ((t : Ty) × IsSomeAnd o (λ v. IsTrue v.is_assignable × (v.ty ≡ t)) × (IsTrue k × A t)) ↔ IsClean (either (target_flaws o i) (value_flaws u m (not k) false))
assign_law None i k u m A p = (λ h. absurd h.1, λ h. let e = ap (λ x. x.unknown) h in absurd cc)
assign_law (Some v) i k u m A p = (
  λ h.
      let x = (p h.0).0 h.2.1 in
      (clean_both (target_flaws (Some v) i) (value_flaws u m (not k) false)).1 (
        from_target v i h.1.0 (subst (λ s. fits i s ≡ true) (sym h.1.1) x.2),
        from_value u m (not k) false x.0 x.1 (not_from_true k h.2.0) refl,
      ),
  λ h.
      let c = (clean_both (target_flaws (Some v) i) (value_flaws u m (not k) false)).0 h in (
        v.ty,
        (not-false v.is_assignable (ap (λ x. x.target) c.0), refl),
        (not-false k (ap (λ x. x.not_code) c.1), (p v.ty).1 (ap (λ x. x.unknown) c.1, ap (λ x. x.old_here) c.1, not-false (fits i v.ty) (ap (λ x. x.wrong_type) c.0))),
      ),
)

reference_of : (o : Option Variable) (t : Ty) → IsSomeAnd o (λ v. v.ty ≡ t) ↔ IsClean (record flawless { unknown = not (is_some o); wrong_type = not (has_type t o) })
reference_of None t = (λ h. absurd h, λ h. let e = ap (λ x. x.unknown) h in absurd cc)
reference_of (Some v) t = (
  λ h. ap (λ b. record flawless { wrong_type = not b }) ((type_law v.ty t).1 h),
  λ h. (type_law v.ty t).0 (not-false (same_type v.ty t) (ap (λ x. x.wrong_type) h)),
)

pub where_unknown : (k : Bool) → (k ≡ true) ↔ IsClean (unknown_where (not k))
where_unknown k = (λ h. ap (λ b. unknown_where (not b)) h, λ h. not-false k (ap (λ x. x.unknown) h))

-- ---- fields

load_law : (tables : Tables) (ns : Names) (x y : Word) (o : Option ClassField) → IsSomeAnd o (λ d. RefersTo tables ns y d.class × IsTarget tables ns x d.ty) ↔ IsClean (flaws_of_load tables ns.scope x y o)
load_law tables ns x y None = (λ h. absurd h, λ h. let e = ap (λ x. x.unknown) h in absurd cc)
load_law tables ns x y (Some d) =
    two_clean (flaws_of_reference ns.scope y d.class) (flaws_of_target ns.scope x (Exactly d.ty)) (reference_of (find_variable y ns.scope) (Class d.class)) (target_of (find_variable x ns.scope) d.ty)

store_law : (tables : Tables) (ns : Names) (y : Word) (e : Expression) (o : Option ClassField) → IsSomeAnd o (λ d. RefersTo tables ns y d.class × IsCode tables ns e d.ty) ↔ IsClean (flaws_of_store tables ns.scope y e o)
store_law tables ns y e None = (λ h. absurd h, λ h. let e = ap (λ x. x.unknown) h in absurd cc)
store_law tables ns y e (Some d) =
    two_clean (flaws_of_reference ns.scope y d.class) (flaws_of_value tables ns.scope e d.ty) (reference_of (find_variable y ns.scope) (Class d.class)) (code_law tables ns e d.ty)

-- ---- calls

arguments_law : (tables : Tables) (ns : Names) (es : List Expression) (ds : List Decl)
    → AreArguments tables ns es ds ↔ (((length es == length ds) ≡ true) × IsClean (flaws_of_arguments tables ns.scope es ds))
arguments_law tables ns [] [] = (λ h. (refl, refl), λ h. tt)
arguments_law tables ns [] (d ∷ ds) = (λ h. absurd h, λ h. let e = eqb-zero-suc (length ds) in absurd cc)
arguments_law tables ns (e ∷ es) [] = (λ h. absurd h, λ h. let e = eqb-suc-zero (length es) in absurd cc)
arguments_law tables ns (e ∷ es) (d ∷ ds) = joined (code_law tables ns e d.ty) (arguments_law tables ns es ds)
  where
    joined : {A B : Type 0} → (A ↔ IsClean (flaws_of_value tables ns.scope e d.ty)) → (B ↔ (((length es == length ds) ≡ true) × IsClean (flaws_of_arguments tables ns.scope es ds)))
        → (A × B) ↔ (((length (e ∷ es) == length (d ∷ ds)) ≡ true) × IsClean (flaws_of_arguments tables ns.scope (e ∷ es) (d ∷ ds)))
    joined p q = (
      λ h.
          let y = q.0 h.1 in
          (eqb-suc-suc (length es) (length ds) ∙ y.0, (clean_both (flaws_of_value tables ns.scope e d.ty) (flaws_of_arguments tables ns.scope es ds)).1 (p.0 h.0, y.1)),
      λ h.
          let c = (clean_both (flaws_of_value tables ns.scope e d.ty) (flaws_of_arguments tables ns.scope es ds)).0 h.1 in
          (p.1 c.0, q.1 (sym (eqb-suc-suc (length es) (length ds)) ∙ h.0, c.1)),
    )

call_law : (tables : Tables) (scope : Scope) (callees : List Signature) (v : Bool) (x p : Word) (es : List Expression)
    → let code : Code = record { scope = scope; callees = callees; may_call = v } in
    IsTypedCommand tables (names_in code) (At 0 (Call x p es)) ↔ IsClean (flaws_of_call tables code x p es (find_callee p code))
call_law tables scope callees false x p es = (λ h. absurd h.1, λ h. absurd (never (find_named (λ q. q.name) p callees) h))
  where
    never : (o : Option Signature) → IsClean (flaws_of_call tables (record { scope = scope; callees = callees; may_call = false }) x p es o) → ⊥
    never None h = let e = ap (λ x. x.unknown) h in absurd cc
    never (Some q) h = let e = ap (λ x. x.not_visible) h in absurd cc
call_law tables scope callees true x p es = meant (find_named (λ q. q.name) p callees)
  where
    meant : (o : Option Signature) → ((p ≢ main_name) × IsSomeAnd o (λ q. AreArguments tables (record { scope = scope; callees = callees }) es q.params × IsTarget tables (record { scope = scope; callees = callees }) x q.result))
        ↔ IsClean (flaws_of_call tables (record { scope = scope; callees = callees; may_call = true }) x p es o)
    meant None = (λ h. absurd h.1, λ h. let e = ap (λ x. x.unknown) h in absurd cc)
    meant (Some q) =
        let first : Flaws = record flawless { not_visible = bytes_eq p main_name; wrong_arity = not (length es == length q.params) } in
        let target : Flaws = flaws_of_target scope x (Exactly q.result) in
        let rest : Flaws = flaws_of_arguments tables scope es q.params in
        let args = arguments_law tables (record { scope = scope; callees = callees }) es q.params in (
          λ h.
              let a = args.0 h.1.0 in
              (clean_both first (either target rest)).1 (
                ap (λ b. record flawless { not_visible = b; wrong_arity = not (length es == length q.params) }) ((apart_is_false p main_name).1 h.0) ∙ ap (λ b. record flawless { wrong_arity = not b }) a.0,
                (clean_both target rest).1 ((target_of (find_variable x scope) q.result).0 h.1.1, a.1),
              ),
          λ h.
              let c = (clean_both first (either target rest)).0 h in
              let d = (clean_both target rest).0 c.1 in
              ((apart_is_false p main_name).0 (ap (λ x. x.not_visible) c.0), (args.1 (not-false (length es == length q.params) (ap (λ x. x.wrong_arity) c.0), d.1), (target_of (find_variable x scope) q.result).1 d.0)),
        )

-- ---- commands

-- what a command has wrong, and what its blocks have
abbrev pub IsFineForm : Tables → Code → Form → Type 0
IsFineForm tables code f = IsClean (flaws_of_form tables code f) × HasNoFault (λ pass. inner_fault tables pass code f)

-- a command with no blocks
plain : {A : Type 0} (f : Flaws) → (A ↔ IsClean f) → A ↔ (IsClean f × HasNoFault (λ pass. None))
plain f p = (λ h. (p.0 h, (refl, refl)), λ h. p.1 h.0)

mutual
  pub form_law : (tables : Tables) (code : Code) (at : ℕ) (f : Form) → IsTypedCommand tables (names_in code) (At at f) ↔ IsFineForm tables code f
  form_law tables code at Skip = (λ h. (refl, (refl, refl)), λ h. tt)
  form_law tables code at (Assign x e) =
      plain (flaws_of_form tables code (Assign x e)) (assign_law (find_variable x code.scope) (infer tables code.scope e) (is_code e) _ _ (HasType tables false code.scope e) (expression_law tables false code.scope e))
  form_law tables code at (Load x y f) = plain (flaws_of_form tables code (Load x y f)) (load_law tables (names_in code) x y (find_field tables f))
  form_law tables code at (Store y f e) = plain (flaws_of_form tables code (Store y f e)) (store_law tables (names_in code) y e (find_field tables f))
  form_law tables code at (New x c) =
      plain (flaws_of_form tables code (New x c)) (iff_then (λ h. (h.1, h.0), λ h. (h.1, h.0))
      (two_clean (unknown_where (not (is_class tables c))) (flaws_of_target code.scope x (Exactly (Class c))) (iff_then (among_law c tables.classes) (where_unknown (is_class tables c))) (target_of (find_variable x code.scope) (Class c))))
  form_law tables code at (Call x p es) = plain (flaws_of_form tables code (Call x p es)) (call_law tables code.scope code.callees code.may_call x p es)
  form_law tables code at (If t a b) =
      let test = test_law tables (names_in code) t in
      let left = block_law tables code a in
      let right = block_law tables code b in
      let sum = no_fault_in_both (λ pass. block_fault tables pass code a) (λ pass. block_fault tables pass code b) in
      (λ h. (test.0 h.0, sum.1 (left.0 h.1, right.0 h.2)), λ h. let s = sum.0 h.1 in (test.1 h.0, left.1 s.0, right.1 s.1))
  form_law tables code at (While t i b) =
      let test = test_law tables (names_in code) t in
      let kept = formula_law tables true code.scope i in
      let body = block_law tables code b in
      let sum = clean_both (flaws_of_test tables code.scope t) (flaws_of_formula tables true code.scope i) in
      (λ h. (sum.1 (test.0 h.0, kept.0 h.1), body.0 h.2), λ h. let s = sum.0 h.0 in (test.1 s.0, kept.1 s.1, body.1 h.1))

  pub command_law : (tables : Tables) (code : Code) (c : Command) → IsTypedCommand tables (names_in code) c ↔ HasNoFault (λ pass. command_fault tables pass code c)
  command_law tables code (At at f) =
      let form = form_law tables code at f in
      let place = no_fault_at at (flaws_of_form tables code f) in
      let sum = no_fault_in_both (λ pass. fault_at pass at (flaws_of_form tables code f)) (λ pass. inner_fault tables pass code f) in
      (λ h. let x = form.0 h in sum.1 (place.1 x.0, x.1), λ h. let s = sum.0 h in form.1 (place.0 s.0, s.1))

  pub block_law : (tables : Tables) (code : Code) (b : Block) → IsTypedBlock tables (names_in code) b ↔ HasNoFault (λ pass. block_fault tables pass code b)
  block_law tables code End = (λ h. (refl, refl), λ h. tt)
  block_law tables code (Then c cs) = iff_then (iff_both (command_law tables code c) (block_law tables code cs)) (iff_back (no_fault_in_both (λ pass. command_fault tables pass code c) (λ pass. block_fault tables pass code cs)))
