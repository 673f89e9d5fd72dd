-- Where the obligation is valid, the judgement is true.
use Rattle.std.proofs.Common.{◌≡◌, ◌↔◌, ℕ, ◌+◌, Bool, false, true, IsTrue, zero-add, List, [], ◌∷◌, ◌++◌, length, drop, replicate, Some, refl, sym, ap, subst, ◌∙◌, append_assoc}
use Rattle.std.proofs.lemmas.List.{length-map}
use Rattle.std.proofs.lemmas.List.Elements.{All-from_recursion}
use lib.ListN.{replicate-append-replicate}
use Rattle.std.specs.List.{AllByRecursion}
use Rattle.rel_list.specs.References.{is_in}
use Rattle.rel_list.specs.Pairs.{Pairs}
use Rattle.rel_lang.specs.Syntax.{Block, Decl, Proc, UnitItem}
use Rattle.rel_lang.specs.State.{ByUnit, State, Scope, IsWellFormed}
use Rattle.rel_lang.specs.Scope.{unit_globals, unit_setting, result_variable, pre_scope, post_scope, body_scope, own_variables}
use Rattle.rel_lang.specs.Lookup.{Subject}
use Rattle.rel_lang.specs.Run.{Picks, Done, code_of, begin, unit_program}
use Rattle.rel_lang.specs.Relation.{IsBijection, Moment, at_entry, RelHolds}
use Rattle.rel_lang.specs.Judgement.{subject_run, EndsRelated, IsTrueOf}
use Rattle.rel_lang.specs.Typed.{AreDistinct, names_of, Signature, Names, IsTypedRel, IsTypedBlock, IsTypedBody}
use Rattle.rel_logic.specs.Syntax.{int_sort, rgn_sort, bij_sort, var}
use Rattle.rel_logic.specs.Truth.{Elem, Valuation, FitsSorts, IsTrueAt, IsValid}
use Rattle.rel_logic.specs.Truth as T
use Rattle.rel_encode.specs.Numbers.{declarations_of}
use Rattle.rel_encode.specs.Terms.{PairStore}
use Rattle.rel_encode.specs.Relations.{inside, rel_of}
use Rattle.rel_encode.specs.Meaning.{HasTypedHeap, StandsFor, StandsForBoth}
use Rattle.rel_encode.proofs.Small.{exact_inside}
use Rattle.rel_encode.proofs.ExactRelations.{exact_relation}
use Rattle.rel_linking.specs.Form.{Parts, IsPlainUnit}
use Rattle.rel_linking.specs.Obligation.{no_numbers, with_result, globals_store, start_store, walk, block_len, left_alloc, first_right, right_alloc, bijection, first_fresh, left_globals, right_globals, left_start, right_start, at_call, left_walk, right_walk, at_end, obligation_of}
use Rattle.rel_linking.proofs.FormsScope.{AreInts}
use Rattle.rel_linking.proofs.FormsUnit.{pre_is, post_is, body_is}
use Rattle.rel_linking.proofs.Runs.{each_append, append_empty, final, final_alloc, final_heap, defaults_alloc, defaults_heap, run_end, AreNumbers, fit_numbers, numbers_fit, final_numbers}
use Rattle.rel_linking.proofs.PlainUnits.{int_globals, ints_all, begin_numbers}
use Rattle.rel_linking.proofs.Walks.{no_tables, same_heap, walk_true, nth, at_here, at_next, at_after, assigned, length-assigned, follows}
use Rattle.rel_linking.proofs.Starts.{globals_declared, result_declared, values_of, globals_stand, start_stands}
use Rattle.rel_linking.proofs.Ends.{Fit, flat, result_zero, values_same, fit_sorts, fit_append, fit_values, fit_assigned}

-- ---- one side: a procedure of a plain unit, from a well-formed state

module _ (u : UnitItem) (q : Proc) (plain : IsPlainUnit u q) (callees : List Signature) (body : IsTypedBody no_tables (unit_setting u q) callees q.body.commands)
    (s : State) (formed : IsWellFormed no_tables (pre_scope (unit_setting u q)) s) where
  abbrev pub first_state : State
  first_state = begin (unit_setting u q) s

  abbrev pub end : State
  end = final no_tables (flat u q) q.body.commands first_state

  abbrev pub seen : Names
  seen = record { scope = flat u q; callees = callees }

  the_body : body_scope (unit_setting u q) ≡ flat u q
  the_body = body_is u q plain.params plain.locals

  flat_distinct : AreDistinct (names_of (flat u q))
  flat_distinct = subst (λ sc. AreDistinct (names_of sc)) the_body body.names

  flat_typed : IsTypedBlock no_tables seen q.body.commands
  flat_typed = subst (λ sc. IsTypedBlock no_tables (record { scope = sc; callees = callees }) q.body.commands) the_body body.commands

  flat_ints : AreInts (flat u q)
  flat_ints = subst AreInts the_body (ints_all u q plain)

  -- ---- every value is a number

  pub pre_formed : IsWellFormed no_tables (unit_globals u) s
  pre_formed = subst (λ sc. IsWellFormed no_tables sc s) (pre_is u q plain.params) formed

  pub pre_numbers : AreNumbers (unit_globals u) s
  pre_numbers = fit_numbers no_tables (unit_globals u) s (int_globals u plain.ints) pre_formed.variables

  pub first_numbers : AreNumbers (flat u q) first_state
  first_numbers = subst (λ sc. AreNumbers sc first_state) the_body (begin_numbers u q plain no_tables s formed)

  end_numbers : AreNumbers (flat u q) end
  end_numbers = final_numbers q.spec.writes no_tables (flat u q) q.body.commands first_state plain.lists first_numbers

  -- ---- the states are well-formed

  first_alloc : first_state.alloc ≡ s.alloc
  first_alloc = defaults_alloc (own_variables (unit_setting u q)) s

  first_heap : first_state.heap ≡ s.heap
  first_heap = defaults_heap (own_variables (unit_setting u q)) s

  pub end_alloc : end.alloc ≡ s.alloc
  end_alloc = final_alloc q.spec.writes no_tables (flat u q) q.body.commands first_state plain.lists ∙ first_alloc

  end_heap : end.heap ≡ s.heap
  end_heap = final_heap q.spec.writes no_tables (flat u q) q.body.commands first_state plain.lists ∙ first_heap

  pub first_formed : IsWellFormed no_tables (flat u q) first_state
  first_formed = record {
    variables = numbers_fit no_tables (flat u q) first_state flat_ints first_numbers;
    locations = same_heap s first_state first_heap formed.locations;
  }

  pub end_formed : IsWellFormed no_tables (flat u q) end
  end_formed = record {
    variables = numbers_fit no_tables (flat u q) end flat_ints end_numbers;
    locations = same_heap s end end_heap formed.locations;
  }

  -- the run ends in this state
  pub run_is : (n : ℕ) (k : Picks) → subject_run no_tables (record { unit = u; proc = q }) n s k ≡ Done end k
  run_is n k =
      run_end q.spec.writes (unit_program no_tables u) n (code_of (unit_setting u q) false) q.body.commands first_state k plain.lists
      ∙ ap (λ sc. Done (final no_tables sc q.body.commands first_state) k) the_body

  -- ---- stores stand for the states

  module _ (values : List Elem) (first alloc fresh : ℕ) (rest more : List Elem) (base : drop first values ≡ values_of (ByUnit u.name) s u.globals ++ rest)
      (region : nth values alloc ≡ T.rgn s.alloc) (new : drop fresh values ≡ assigned seen q.body.commands first_state ++ more) where
    pub stands_before : StandsFor no_tables (unit_globals u) (nth values) [] (globals_store first alloc u.globals) s
    stands_before = globals_stand values (ByUnit u.name) u.globals first alloc s rest base region

    pub stands_first : StandsFor no_tables (flat u q) (nth values) [] (start_store first alloc u.globals) first_state
    stands_first =
        start_stands values (ByUnit u.name) u.globals first alloc first_state rest (base ∙ ap (λ l. l ++ rest) (sym (values_same u q plain s u.globals)))
        (region ∙ ap T.rgn (sym first_alloc)) q.result (result_zero u q plain s)

    pub walked : AllByRecursion (IsTrueAt (nth values) []) (walk (with_result u.globals) (start_store first alloc u.globals) fresh q.body.commands).hyps
        × StandsFor no_tables (flat u q) (nth values) [] (walk (with_result u.globals) (start_store first alloc u.globals) fresh q.body.commands).store end
    walked =
        subst (λ ds. AllByRecursion (IsTrueAt (nth values) []) (walk ds (start_store first alloc u.globals) fresh q.body.commands).hyps
        × StandsFor no_tables (flat u q) (nth values) [] (walk ds (start_store first alloc u.globals) fresh q.body.commands).store end)
        (sym (result_declared (ByUnit u.name) u.globals q.result plain.result))
        (walk_true (nth values) seen q.spec.writes q.body.commands fresh (start_store first alloc u.globals) first_state plain.lists flat_typed flat_distinct
        first_formed.locations stands_first (follows seen values q.spec.writes q.body.commands fresh first_state more plain.lists new))

-- ---- both sides

module _ (k : Parts) (lp : IsPlainUnit k.left k.left_proc) (rp : IsPlainUnit k.right k.right_proc) (lc rc : List Signature)
    (lb : IsTypedBody no_tables (unit_setting k.left k.left_proc) lc k.left_proc.body.commands)
    (rb : IsTypedBody no_tables (unit_setting k.right k.right_proc) rc k.right_proc.body.commands)
    (needs_typed : IsTypedRel no_tables false (pre_scope (unit_setting k.left k.left_proc)) (pre_scope (unit_setting k.right k.right_proc)) k.judgement.needs.formula)
    (gives_typed : IsTypedRel no_tables true (post_scope (unit_setting k.left k.left_proc)) (post_scope (unit_setting k.right k.right_proc)) k.judgement.gives.formula)
    (valid : IsValid (obligation_of k)) where
  abbrev ls : List Decl
  ls = k.left.globals

  abbrev rs : List Decl
  rs = k.right.globals

  abbrev la : Block
  la = k.left_proc.body.commands

  abbrev ra : Block
  ra = k.right_proc.body.commands

  abbrev left_subject : Subject
  left_subject = record { unit = k.left; proc = k.left_proc }

  abbrev right_subject : Subject
  right_subject = record { unit = k.right; proc = k.right_proc }

  abbrev left_pre : Scope
  left_pre = pre_scope (unit_setting k.left k.left_proc)

  abbrev right_pre : Scope
  right_pre = pre_scope (unit_setting k.right k.right_proc)

  abbrev left_flat : Scope
  left_flat = flat k.left k.left_proc

  abbrev right_flat : Scope
  right_flat = flat k.right k.right_proc

  -- what the two formulas see
  pres_are : ◌≡◌ {A = Scope × Scope} (left_pre, right_pre) (unit_globals k.left, unit_globals k.right)
  pres_are = λ i. (pre_is k.left k.left_proc lp.params i, pre_is k.right k.right_proc rp.params i)

  posts_are : ◌≡◌ {A = Scope × Scope} (post_scope (unit_setting k.left k.left_proc), post_scope (unit_setting k.right k.right_proc)) (left_flat, right_flat)
  posts_are = λ i. (post_is k.left k.left_proc lp.params i, post_is k.right k.right_proc rp.params i)

  module _ (s s' : State) (q : Pairs) (lf : IsWellFormed no_tables left_pre s) (rf : IsWellFormed no_tables right_pre s') (both : IsBijection q s s')
      (needs : RelHolds no_tables k.judgement.needs.formula (at_entry left_pre s) (at_entry right_pre s') q) where
    abbrev left_end : State
    left_end = end k.left k.left_proc lp lc lb s lf

    abbrev right_end : State
    right_end = end k.right k.right_proc rp rc rb s' rf

    abbrev left_begin : State
    left_begin = first_state k.left k.left_proc lp lc lb s lf

    abbrev right_begin : State
    right_begin = first_state k.right k.right_proc rp rc rb s' rf

    abbrev left_seen : Names
    left_seen = seen k.left k.left_proc lp lc lb s lf

    abbrev right_seen : Names
    right_seen = seen k.right k.right_proc rp rc rb s' rf

    abbrev the_bijection : T.Bij
    the_bijection = record { pairs = q; one_to_one = both.one_to_one }

    -- the values of the variables, in order
    abbrev right_new : List Elem
    right_new = assigned right_seen ra right_begin ++ []

    abbrev news : List Elem
    news = assigned left_seen la left_begin ++ right_new

    abbrev from_right_alloc : List Elem
    from_right_alloc = T.rgn s'.alloc ∷ (T.bij q ∷ news)

    abbrev from_right : List Elem
    from_right = values_of (ByUnit k.right.name) s' rs ++ from_right_alloc

    abbrev values : List Elem
    values = values_of (ByUnit k.left.name) s ls ++ (T.rgn s.alloc ∷ from_right)

    abbrev r : Valuation
    r = nth values

    -- ---- where they stand

    at_left_alloc : drop (left_alloc ls rs) values ≡ T.rgn s.alloc ∷ from_right
    at_left_alloc =
        ap (λ n. drop n values) (sym (zero-add _ ∙ length-map ls _))
        ∙ at_after values 0 (values_of (ByUnit k.left.name) s ls) (T.rgn s.alloc ∷ from_right) refl

    at_right : drop (first_right ls rs) values ≡ from_right
    at_right = at_next values (left_alloc ls rs) _ _ at_left_alloc

    at_right_alloc : drop (right_alloc ls rs) values ≡ from_right_alloc
    at_right_alloc =
        ap (λ n. drop (first_right ls rs + n) values) (sym (length-map rs _))
        ∙ at_after values (first_right ls rs) (values_of (ByUnit k.right.name) s' rs) from_right_alloc at_right

    at_bijection : drop (bijection ls rs) values ≡ T.bij q ∷ news
    at_bijection = at_next values (right_alloc ls rs) _ _ at_right_alloc

    at_fresh : drop (first_fresh ls rs) values ≡ news
    at_fresh = at_next values (bijection ls rs) _ _ at_bijection

    at_second : drop (first_fresh ls rs + block_len la) values ≡ right_new
    at_second =
        ap (λ n. drop (first_fresh ls rs + n) values) (sym (length-assigned left_seen k.left_proc.spec.writes la left_begin lp.lists))
        ∙ at_after values (first_fresh ls rs) (assigned left_seen la left_begin) right_new at_fresh

    left_region : r (left_alloc ls rs) ≡ T.rgn s.alloc
    left_region = at_here values (left_alloc ls rs) _ _ at_left_alloc

    right_region : r (right_alloc ls rs) ≡ T.rgn s'.alloc
    right_region = at_here values (right_alloc ls rs) _ _ at_right_alloc

    pairs_are : r (bijection ls rs) ≡ T.bij q
    pairs_are = at_here values (bijection ls rs) _ _ at_bijection

    -- ---- they have the sorts

    sorted : FitsSorts (obligation_of k).sorts r
    sorted = fit_sorts (obligation_of k).sorts values (subst (λ ts. Fit ts values) (sym regrouped)
        (fit_append _ _ _ _ (fit_values (ByUnit k.left.name) s ls (pre_numbers k.left k.left_proc lp lc lb s lf)) (
          (s.alloc, refl),
          fit_append _ _ _ _ (fit_values (ByUnit k.right.name) s' rs (pre_numbers k.right k.right_proc rp rc rb s' rf)) (
            (s'.alloc, refl),
            (
              (the_bijection, refl),
              fit_append _ _ _ _
                  (fit_assigned left_seen k.left_proc.spec.writes la left_begin lp.lists (first_numbers k.left k.left_proc lp lc lb s lf))
                  (fit_append _ [] _ []
                  (fit_assigned right_seen k.right_proc.spec.writes ra right_begin rp.lists (first_numbers k.right k.right_proc rp rc rb s' rf)) tt),
            ),
          ),
        )))
      where
        regrouped : (obligation_of k).sorts
            ≡ replicate (left_alloc ls rs) int_sort ++ (rgn_sort ∷ (replicate (length rs) int_sort ++ (rgn_sort ∷ (bij_sort ∷ (replicate (block_len la) int_sort ++ (replicate (block_len ra) int_sort ++ []))))))
        regrouped =
            append_assoc (replicate (left_alloc ls rs) int_sort) (rgn_sort ∷ replicate (length rs) int_sort) (rgn_sort ∷ bij_sort ∷ replicate (block_len la + block_len ra) int_sort)
            ∙ ap (λ ts. replicate (left_alloc ls rs) int_sort ++ (rgn_sort ∷ (replicate (length rs) int_sort ++ (rgn_sort ∷ (bij_sort ∷ ts)))))
            (sym (replicate-append-replicate (block_len la) (block_len ra) int_sort)
            ∙ ap (λ ts. replicate (block_len la) int_sort ++ ts) (sym (append_empty _)))

    -- ---- the stores stand for the states

    left_before : StandsFor no_tables (unit_globals k.left) r [] (left_globals ls rs) s
    left_before =
        stands_before k.left k.left_proc lp lc lb s lf values 0 (left_alloc ls rs) (first_fresh ls rs) (T.rgn s.alloc ∷ from_right) right_new refl left_region at_fresh

    right_before : StandsFor no_tables (unit_globals k.right) r [] (right_globals ls rs) s'
    right_before =
        stands_before k.right k.right_proc rp rc rb s' rf values (first_right ls rs) (right_alloc ls rs) (first_fresh ls rs + block_len la) from_right_alloc [] at_right right_region at_second

    left_first : StandsFor no_tables left_flat r [] (left_start ls rs) left_begin
    left_first =
        stands_first k.left k.left_proc lp lc lb s lf values 0 (left_alloc ls rs) (first_fresh ls rs) (T.rgn s.alloc ∷ from_right) right_new refl left_region at_fresh

    right_first : StandsFor no_tables right_flat r [] (right_start ls rs) right_begin
    right_first =
        stands_first k.right k.right_proc rp rc rb s' rf values (first_right ls rs) (right_alloc ls rs) (first_fresh ls rs + block_len la) from_right_alloc [] at_right right_region at_second

    left_walked : AllByRecursion (IsTrueAt r []) (left_walk ls rs la ra).hyps × StandsFor no_tables left_flat r [] (left_walk ls rs la ra).store left_end
    left_walked =
        walked k.left k.left_proc lp lc lb s lf values 0 (left_alloc ls rs) (first_fresh ls rs) (T.rgn s.alloc ∷ from_right) right_new refl left_region at_fresh

    right_walked : AllByRecursion (IsTrueAt r []) (right_walk ls rs la ra).hyps × StandsFor no_tables right_flat r [] (right_walk ls rs la ra).store right_end
    right_walked =
        walked k.right k.right_proc rp rc rb s' rf values (first_right ls rs) (right_alloc ls rs) (first_fresh ls rs + block_len la) from_right_alloc [] at_right right_region at_second

    -- ---- the hypotheses are true

    inside_true : IsTrueAt r [] (inside (var (bijection ls rs)) (var (left_alloc ls rs)) (var (right_alloc ls rs)))
    inside_true = (exact_inside (var (bijection ls rs)) (var (left_alloc ls rs)) (var (right_alloc ls rs)) r [] q s.alloc s'.alloc pairs_are left_region right_region).1 both.allocated

    needs_stand : StandsForBoth no_tables r [] (at_call ls rs) (at_entry (unit_globals k.left) s) (at_entry (unit_globals k.right) s') q
    needs_stand = record { left = left_before; left_entry = left_before; right = right_before; right_entry = right_before; bij = pairs_are }

    needs_true : IsTrueAt r [] (rel_of no_numbers ls rs k.judgement.needs.formula (at_call ls rs))
    needs_true =
        (exact_relation no_numbers ls rs k.judgement.needs.formula (at_call ls rs)
        no_tables (at_entry (unit_globals k.left) s) (at_entry (unit_globals k.right) s') false refl
        (globals_declared (ByUnit k.left.name) ls) (globals_declared (ByUnit k.right.name) rs)
        (subst (λ (x : Scope × Scope). IsTypedRel no_tables false x.0 x.1 k.judgement.needs.formula) pres_are needs_typed) r [] q
        (record { entry = pre_formed k.left k.left_proc lp lc lb s lf; now = pre_formed k.left k.left_proc lp lc lb s lf })
        (record { entry = pre_formed k.right k.right_proc rp rc rb s' rf; now = pre_formed k.right k.right_proc rp rc rb s' rf })
        needs_stand).1
        (subst (λ (x : Scope × Scope). RelHolds no_tables k.judgement.needs.formula (at_entry x.0 s) (at_entry x.1 s') q) pres_are needs)

    goal_true : IsTrueAt r [] (obligation_of k).goal
    goal_true = valid r sorted (All-from_recursion (IsTrueAt r []) (obligation_of k).hyps
        (inside_true, (needs_true, each_append (IsTrueAt r []) (left_walk ls rs la ra).hyps (right_walk ls rs la ra).hyps left_walked.0 right_walked.0)))

    -- ---- so the ends are related

    abbrev left_moment : Scope → Moment
    left_moment sc = record { scope = sc; entry = left_begin; now = left_end }

    abbrev right_moment : Scope → Moment
    right_moment sc = record { scope = sc; entry = right_begin; now = right_end }

    gives_stand : StandsForBoth no_tables r [] (at_end ls rs la ra) (left_moment left_flat) (right_moment right_flat) q
    gives_stand = record { left = left_walked.1; left_entry = left_first; right = right_walked.1; right_entry = right_first; bij = pairs_are }

    flat_gives : RelHolds no_tables k.judgement.gives.formula (left_moment left_flat) (right_moment right_flat) q
    flat_gives =
        (exact_relation no_numbers (with_result ls) (with_result rs) k.judgement.gives.formula (at_end ls rs la ra)
        no_tables (left_moment left_flat) (right_moment right_flat) true refl
        (result_declared (ByUnit k.left.name) ls k.left_proc.result lp.result) (result_declared (ByUnit k.right.name) rs k.right_proc.result rp.result)
        (subst (λ (x : Scope × Scope). IsTypedRel no_tables true x.0 x.1 k.judgement.gives.formula) posts_are gives_typed) r [] q
        (record { entry = first_formed k.left k.left_proc lp lc lb s lf; now = end_formed k.left k.left_proc lp lc lb s lf })
        (record { entry = first_formed k.right k.right_proc rp rc rb s' rf; now = end_formed k.right k.right_proc rp rc rb s' rf })
        gives_stand).0 goal_true

    pub ends_related : EndsRelated no_tables k.judgement left_subject right_subject s s' left_end right_end q
    ends_related = record {
      more = q;
      extends = λ a b h. h;
      bijection = record {
        one_to_one = both.one_to_one;
        allocated = λ a b h.
            let p = both.allocated a b h in (
              subst (λ g. IsTrue (is_in a g)) (sym (end_alloc k.left k.left_proc lp lc lb s lf)) p.0,
              subst (λ g. IsTrue (is_in b g)) (sym (end_alloc k.right k.right_proc rp rc rb s' rf)) p.1,
            );
      };
      gives = subst (λ (x : Scope × Scope). RelHolds no_tables k.judgement.gives.formula (left_moment x.0) (right_moment x.1) q) (sym posts_are) flat_gives;
    }

  pub judgement_true : IsTrueOf no_tables k.judgement left_subject right_subject
  judgement_true s s' q starts n n' p p' =
      let lf = starts.left_formed in
      let rf = starts.right_formed in
      let el = run_is k.left k.left_proc lp lc lb s lf n p in
      let er = run_is k.right k.right_proc rp rc rb s' rf n' p' in
      record {
        left_safe = λ bad. cc;
        right_safe = λ bad. cc;
        related = λ t t' m m' is is'.
            let same : end k.left k.left_proc lp lc lb s lf ≡ t = cc in
            let same' : end k.right k.right_proc rp rc rb s' rf ≡ t' = cc in
            subst (λ (x : State × State). EndsRelated no_tables k.judgement left_subject right_subject s s' x.0 x.1 q) (λ i. (same i, same' i)) (ends_related s s' q lf rf starts.bijection starts.needs);
      }
