-- The states from which a plain unit's procedure runs, and lists of values that have the sorts of variables.
use Rattle.std.proofs.Common.{◌≡◌, zero, suc, pos, true, List, [], ◌∷◌, ◌++◌, length, replicate, Some, refl, ap, subst, ◌∙◌}
use Rattle.rel_lang.specs.Syntax.{Ty, Int, At, Assign, Block, End, Then, Decl, Effect, Proc, UnitItem}
use Rattle.rel_lang.specs.State.{Number, default, Owner, ByUnit, ByCall, State, Scope, find_variable, with_defaults}
use Rattle.rel_lang.specs.Scope.{declared, unit_globals, unit_setting, result_name, result_variable}
use Rattle.rel_lang.specs.Run.{begin}
use Rattle.rel_lang.specs.Typed.{Names}
use Rattle.rel_logic.specs.Syntax.{Srt, int_sort}
use Rattle.rel_logic.specs.Truth.{Elem, HasSort, FitsSorts}
use Rattle.rel_encode.specs.Meaning.{elem_of}
use Rattle.rel_linking.specs.Form.{AssignsListed, IsPlainUnit}
use Rattle.rel_linking.specs.Obligation.{block_len}
use Rattle.rel_linking.proofs.Runs.{AreNumbers, value_number, write_numbers, write_itself, write_apart}
use Rattle.rel_linking.proofs.PlainUnits.{own_is}
use Rattle.rel_linking.proofs.Starts.{values_of}
use Rattle.rel_linking.proofs.Walks.{no_tables, nth, assigned}

-- ---- the state from which a plain unit's procedure runs

-- what its body sees
abbrev pub flat : UnitItem → Proc → Scope
flat u q = unit_globals u ++ result_variable (Some q.result)

module _ (u : UnitItem) (q : Proc) (plain : IsPlainUnit u q) (s : State) where
  pub begin_is : begin (unit_setting u q) s ≡ with_defaults (result_variable (Some q.result)) s
  begin_is = ap (λ sc. with_defaults sc s) (own_is u q plain)

  default_zero : (t : Ty) → t ≡ Int → default t ≡ Number (pos 0)
  default_zero t e = ap default e

  pub result_zero : (begin (unit_setting u q) s).vars ByCall result_name ≡ Number (pos 0)
  result_zero =
      ap (λ t. t.vars ByCall result_name) begin_is
      ∙ write_itself (record { name = result_name; owner = ByCall; ty = q.result; is_assignable = true }) (default q.result) s
      ∙ default_zero q.result plain.result

  pub values_same : (ds : List Decl) → values_of (ByUnit u.name) (begin (unit_setting u q) s) ds ≡ values_of (ByUnit u.name) s ds
  values_same ds = ap (λ t. values_of (ByUnit u.name) t ds) begin_is ∙ go ds
    where
      go : (ds : List Decl) → values_of (ByUnit u.name) (with_defaults (result_variable (Some q.result)) s) ds ≡ values_of (ByUnit u.name) s ds
      go [] = refl
      go (d ∷ ds) =
          ap (λ v. elem_of v ∷ values_of (ByUnit u.name) (with_defaults (result_variable (Some q.result)) s) ds)
          (write_apart (record { name = result_name; owner = ByCall; ty = q.result; is_assignable = true }) (default q.result) s (ByUnit u.name) d.name refl)
          ∙ ap (λ l. elem_of (s.vars (ByUnit u.name) d.name) ∷ l) (go ds)

-- ---- values of the sorts

abbrev pub Fit : List Srt → List Elem → Type 0
Fit [] [] = Unit {0}
Fit [] (e ∷ es) = ⊥
Fit (t ∷ ts) [] = ⊥
Fit (t ∷ ts) (e ∷ es) = HasSort t e × Fit ts es

pub fit_sorts : (ts : List Srt) (es : List Elem) → Fit ts es → FitsSorts ts (nth es)
fit_sorts [] es f i s e = cc
fit_sorts (t ∷ ts) [] f i s e = absurd f
fit_sorts (t ∷ ts) (e ∷ es) f zero s is = let same : t ≡ s = cc in subst (λ x. HasSort x e) same f.0
fit_sorts (t ∷ ts) (e ∷ es) f (suc i) s is = fit_sorts ts es f.1 i s is

pub fit_append : (ts us : List Srt) (es fs : List Elem) → Fit ts es → Fit us fs → Fit (ts ++ us) (es ++ fs)
fit_append [] us [] fs f g = g
fit_append [] us (e ∷ es) fs f g = absurd f
fit_append (t ∷ ts) us [] fs f g = absurd f
fit_append (t ∷ ts) us (e ∷ es) fs f g = (f.0, fit_append ts us es fs f.1 g)

pub fit_values : (o : Owner) (s : State) (ds : List Decl) → AreNumbers (declared o true ds) s → Fit (replicate (length ds) int_sort) (values_of o s ds)
fit_values o s [] a = tt
fit_values o s (d ∷ ds) a = ((_, ap elem_of a.0), fit_values o s ds a.1)

pub fit_assigned : (ns : Names) (writes : List Effect) (b : Block) (s : State) → AssignsListed writes b → AreNumbers ns.scope s
    → Fit (replicate (block_len b) int_sort) (assigned ns b s)
fit_assigned ns writes End s l a = tt
fit_assigned ns writes (Then (At at (Assign x e)) cs) s l a =
    let number = value_number no_tables ns.scope s s a e l.1 in
    ((_, ap elem_of number), fit_assigned ns writes cs _ l.2 (write_numbers ns.scope (find_variable x ns.scope) _ s number a))
fit_assigned ns writes (Then c cs) s l a = absurd l
