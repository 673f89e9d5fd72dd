-- When a sequent's first node is sound.
use Rattle.std.proofs.Common.{◌≡◌, ◌↔◌, ◌-◌, ◌<◌, ◌^◌, Bool, true, false, IsTrue, IsFalse, List, [], ◌∷◌, ◌++◌, length, map, sym, ap, subst, ◌∙◌, arith}
use Rattle.std.specs.List.{AllByRecursion}
use Rattle.std.proofs.lemmas.List.{length_push, length-map}
use Rattle.std.proofs.lemmas.List.Elements.{All-push, All-from_recursion, recursion_from_All}
use Rattle.rel_logic.specs.Syntax.{Srt, Fml, no, Sqt}
use Rattle.rel_logic.specs.declared.term.Sort.{Sort}
use Rattle.rel_logic.specs.declared.fol.Fol.{Fol}
use Rattle.rel_logic.specs.declared.sequent.Sequent.{Sequent}
use Rattle.rel_logic.specs.View.{sort_of, fml_of, sequent_of}
use Rattle.rel_logic.specs.Sorting.{is_well_sorted}
use Rattle.rules_table.specs.Nodes.{IsSound}
use Rattle.rel_derive.specs.Rules.{first_node}
use Rattle.rel_derive.specs.Taken.{AreSortedOver}

before_last : {X : Type 0} (P : X → Type 0) (xs : List X) (x : X) → AllByRecursion P (xs ++ x ∷ []) → AllByRecursion P xs × P x
before_last P [] x all = (tt, all.0)
before_last P (y ∷ ys) x all = let rest = before_last P ys x all.1 in ((all.0, rest.0), rest.1)

each_view : (sorts : List Srt) (fs : List Fol) → AreSortedOver sorts fs → AllByRecursion (λ f. IsTrue (is_well_sorted sorts f)) (map fml_of fs)
each_view sorts [] all = tt
each_view sorts (f ∷ fs) all = (all.0, each_view sorts fs all.1)

each_code : (sorts : List Srt) (fs : List Fol) → AllByRecursion (λ f. IsTrue (is_well_sorted sorts f)) (map fml_of fs) → AreSortedOver sorts fs
each_code sorts [] all = tt
each_code sorts (f ∷ fs) all = (all.0, each_code sorts fs all.1)

module _ (sorts : List Srt) (hyps : List Fol) (goal : Fol) where
  abbrev whole : Sqt
  whole = record { sorts = sorts; hyps = map fml_of hyps; goal = fml_of goal }

  abbrev IsSortedHere : Fml → Type 0
  IsSortedHere f = IsTrue (is_well_sorted sorts f)

  taken : length sorts < 2 ^ 31 → length hyps < 2 ^ 31 - 1 → AreSortedOver sorts hyps → IsSortedHere (fml_of goal) → IsSound (first_node whole)
  taken few few_hyps sorted last = record {
    sorted = All-push IsSortedHere whole.hyps (no whole.goal) (All-from_recursion IsSortedHere whole.hyps (each_view sorts hyps sorted)) last;
    variables = few;
    formulas =
        let e = length_push whole.hyps (no whole.goal) in
        let same = length-map hyps fml_of in omega (arith, e, same, few_hyps);
  }

  given_up : IsSound (first_node whole) → (length sorts < 2 ^ 31) × (length hyps < 2 ^ 31 - 1) × AreSortedOver sorts hyps × IsSortedHere (fml_of goal)
  given_up sound =
      let parts = before_last IsSortedHere whole.hyps (no whole.goal) (recursion_from_All IsSortedHere (whole.hyps ++ no whole.goal ∷ []) sound.sorted) in
      let e = length_push whole.hyps (no whole.goal) in
      let same = length-map hyps fml_of in
      let most = sound.formulas in
      (sound.variables, omega (arith, e, same, most), each_code sorts hyps parts.0, parts.1)

pub is_sound : (s : Sequent) (sorts : List Sort) (b : Bool) → length s.sorts < 2 ^ 31 → length s.hyps < 2 ^ 31 - 1 → sorts ≡ s.sorts → AreSortedOver (map sort_of sorts) s.hyps
    → b ≡ is_well_sorted (map sort_of sorts) (fml_of s.goal) → IsTrue b ↔ IsSound (first_node (sequent_of s))
is_sound s sorts b few few_hyps same sorted is =
    let these = map sort_of s.sorts in
    let here : b ≡ is_well_sorted these (fml_of s.goal) = is ∙ ap (λ l. is_well_sorted (map sort_of l) (fml_of s.goal)) same in
    let e = length-map s.sorts sort_of in (
      λ holds. taken these s.hyps s.goal (omega (arith, e, few)) few_hyps (subst (λ l. AreSortedOver (map sort_of l) s.hyps) same sorted) (sym here ∙ holds),
      λ sound. here ∙ (given_up these s.hyps s.goal sound).3,
    )

pub is_unsound : (s : Sequent) (sorts : List Sort) (b : Bool) → sorts ≡ s.sorts → IsFalse b → IsTrue b ↔ AreSortedOver (map sort_of sorts) s.hyps → IsTrue b ↔ IsSound (first_node (sequent_of s))
is_unsound s sorts b same no_sort alike = (
  λ holds. absurd (neither b holds no_sort),
  λ sound. alike.1 (subst (λ l. AreSortedOver (map sort_of l) s.hyps) (sym same) (given_up (map sort_of s.sorts) s.hyps s.goal sound).2),
)
  where
    neither : (b : Bool) → IsTrue b → IsFalse b → ⊥
    neither true t f = cc
    neither false t f = cc
