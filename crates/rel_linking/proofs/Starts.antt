-- The stores with which a side starts stand for its first states.
use Rattle.std.proofs.Common.{◌≡◌, ℕ, suc, pos, true, List, [], ◌∷◌, ◌++◌, drop, length, map, Some, refl, sym, ap, ◌∙◌}
use Rattle.rel_lang.specs.Syntax.{Ty, Int, Decl}
use Rattle.rel_lang.specs.State.{Number, Owner, ByCall, State, Scope}
use Rattle.rel_lang.specs.Scope.{declared, result_name, result_variable}
use Rattle.rel_logic.specs.Syntax.{Trm}
use Rattle.rel_logic.specs.Truth.{Elem, rgn, Valuation}
use Rattle.rel_encode.specs.Numbers.{declarations_of}
use Rattle.rel_encode.specs.Meaning.{elem_of, AreValues, StandsFor}
use Rattle.rel_linking.specs.Obligation.{with_result, variables_from, globals_store, start_store}
use Rattle.rel_linking.proofs.Walks.{no_tables, nth, at_here, at_next}

-- ---- scopes as they are declared

pub globals_declared : (o : Owner) (ds : List Decl) → ds ≡ declarations_of (declared o true ds)
globals_declared o [] = refl
globals_declared o (d ∷ ds) = ap (λ l. d ∷ l) (globals_declared o ds)

pub result_declared : (o : Owner) (ds : List Decl) (t : Ty) → t ≡ Int → with_result ds ≡ declarations_of (declared o true ds ++ result_variable (Some t))
result_declared o [] t e = ap (λ u. record { name = result_name; ty = u } ∷ []) (sym e)
result_declared o (d ∷ ds) t e = ap (λ l. d ∷ l) (result_declared o ds t e)

-- ---- the values of an item's variables

abbrev pub values_of : Owner → State → List Decl → List Elem
values_of o s ds = map (λ d. elem_of (s.vars o d.name)) ds

-- the variables from n on have them
variables_true : (values : List Elem) (o : Owner) (ds : List Decl) (n : ℕ) (s : State) (rest : List Elem) → drop n values ≡ values_of o s ds ++ rest
    → AreValues (nth values) [] (declared o true ds) (variables_from n (length ds)) s
variables_true values o [] n s rest e = tt
variables_true values o (d ∷ ds) n s rest e = (at_here values n _ _ e, variables_true values o ds (suc n) s rest (at_next values n _ _ e))

values_append : (r : Valuation) (xs ys : Scope) (ts us : List Trm) (s : State) → AreValues r [] xs ts s → AreValues r [] ys us s → AreValues r [] (xs ++ ys) (ts ++ us) s
values_append r [] ys [] us s a b = b
values_append r [] ys (t ∷ ts) us s a b = absurd a
values_append r (x ∷ xs) ys [] us s a b = absurd a
values_append r (x ∷ xs) ys (t ∷ ts) us s a b = (a.0, values_append r xs ys ts us s a.1 b)

module _ (values : List Elem) (o : Owner) (ds : List Decl) (n alloc : ℕ) (s : State) (rest : List Elem) (at : drop n values ≡ values_of o s ds ++ rest)
    (region : nth values alloc ≡ rgn s.alloc) where
  pub globals_stand : StandsFor no_tables (declared o true ds) (nth values) [] (globals_store n alloc ds) s
  globals_stand = record { variables = variables_true values o ds n s rest at; maps = tt; alloc = region }

  pub start_stands : (t : Ty) → s.vars ByCall result_name ≡ Number (pos 0)
      → StandsFor no_tables (declared o true ds ++ result_variable (Some t)) (nth values) [] (start_store n alloc ds) s
  start_stands t zero = record {
    variables = values_append (nth values) (declared o true ds) (result_variable (Some t)) _ _ s (variables_true values o ds n s rest at) (ap elem_of (sym zero), tt);
    maps = tt;
    alloc = region;
  }
