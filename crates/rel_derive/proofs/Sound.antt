-- A sequent for which steps are accepted is valid.
use Rattle.std.proofs.Common.{◌≡◌, true, List, [], ◌∷◌, ◌++◌, map, get_or, refl, sym, ap, subst, ◌∙◌}
use Rattle.std.specs.List.{AllByRecursion}
use Rattle.std.proofs.lemmas.List.Elements.{All-from_recursion, All-append, All-push}
use Rattle.rel_logic.specs.declared.sequent.Node.{Node}
use Rattle.rel_logic.specs.Syntax.{Fml, no, Sqt, Nod}
use Rattle.rel_logic.specs.View.{node_of}
use Rattle.rel_logic.specs.Truth.{Valuation, IsTrueAt, IsValid}
use Rattle.rel_logic.specs.Sorting.{is_well_sorted}
use Rattle.rel_logic.proofs.Stable.{stable}
use Rattle.rel_logic.proofs.Kept.{sorted_with_more}
use Rattle.rules_table.specs.declared.theory.Added.{Added}
use Rattle.rules_table.specs.View.{addition_of}
use Rattle.rules_table.specs.Nodes.{Stp, Addition, child, Outcome, not_mine, bad, kids, IsSound, IsModel, HasNoModel, LosesNoModel, AreSorted}
use Rattle.rules_table.specs.Table.{propositional}
use Rattle.rules_table.specs.Law.{loses_no_model, adds_sorted}
use Rattle.rules_eq.specs.Table.{equality}
use Rattle.rules_eq.specs.Law as equality_law
use Rattle.rules_set.specs.Table.{regions}
use Rattle.rules_set.specs.Law as regions_law
use Rattle.rules_int.specs.Table.{integers}
use Rattle.rules_int.specs.Law as integers_law
use Rattle.rel_derive.specs.Rules.{otherwise, outcome_of_all, HasRoom, Moves, Runs, first_node, first_stack, IsAccepted}
use Rattle.rel_derive.specs.Answers.{IsStuck, IsRoomFor, AreChildren}

-- ---- the laws of all theories

-- what each theory promises of a step at a sound node
abbrev Promises : Nod → Outcome → Type 0
Promises n o = (added : List Addition) → o ≡ kids added → LosesNoModel n added × AreSorted n added

either : (P : Outcome → Type 0) (a b : Outcome) → P a → P b → P (otherwise a b)
either P not_mine b x y = y
either P bad b x y = x
either P (kids added) b x y = x

promises : (n : Nod) (s : Stp) → IsSound n → Promises n (outcome_of_all n s)
promises n s sound =
    either (Promises n) (otherwise (otherwise (propositional n s) (equality n s)) (regions n s)) (integers n s)
    (
    either (Promises n) (otherwise (propositional n s) (equality n s)) (regions n s)
    (
    either (Promises n) (propositional n s) (equality n s)
    (λ added e. (loses_no_model n s added sound e, adds_sorted n s added sound e))
    (λ added e. (equality_law.loses_no_model n s added sound e, equality_law.adds_sorted n s added sound e))
    )
    (λ added e. (regions_law.loses_no_model n s added sound e, regions_law.adds_sorted n s added sound e))
    )
    (λ added e. (integers_law.loses_no_model n s added sound e, integers_law.adds_sorted n s added sound e))

-- ---- lists of nodes

parts : {A : Type 0} (P : A → Type 0) (xs ys : List A) → AllByRecursion P (xs ++ ys) → AllByRecursion P xs × AllByRecursion P ys
parts P [] ys h = (tt, h)
parts P (x ∷ xs) ys h = let rest = parts P xs ys h.1 in ((h.0, rest.0), rest.1)

joined : {A : Type 0} (P : A → Type 0) (xs ys : List A) → AllByRecursion P xs → AllByRecursion P ys → AllByRecursion P (xs ++ ys)
joined P [] ys h g = g
joined P (x ∷ xs) ys h g = (h.0, joined P xs ys h.1 g)

-- ---- the children of a sound node are sound

child_sound : (n : Nod) (a : Addition) → IsSound n → AllByRecursion (λ f. is_well_sorted (n.sorts ++ a.fresh) f ≡ true) a.forms → HasRoom (child n a) → IsSound (child n a)
child_sound n a sound sorted room =
    let P = λ (f : Fml). is_well_sorted (n.sorts ++ a.fresh) f ≡ true in
    record {
      sorted = All-append P n.forms a.forms (λ i d below. sorted_with_more n.sorts a.fresh [] (get_or n.forms i d) (sound.sorted i d below)) (All-from_recursion P a.forms sorted);
      variables = room.0;
      formulas = room.1;
    }

all_sound : (n : Nod) (added : List Addition) → IsSound n → AreSorted n added → AllByRecursion HasRoom (map (child n) added) → AllByRecursion IsSound (map (child n) added)
all_sound n [] sound sorted room = tt
all_sound n (a ∷ rest) sound sorted room = (child_sound n a sound sorted.0 room.0, all_sound n rest sound sorted.1 room.1)

children_sound : (n : Nod) (s : Stp) (added : List Addition) → IsSound n → outcome_of_all n s ≡ kids added → AllByRecursion HasRoom (map (child n) added) → AllByRecursion IsSound (map (child n) added)
children_sound n s added sound e room = all_sound n added sound (promises n s sound added e).1 room

-- ---- refuted nodes

-- no valuation is a model
abbrev IsRefuted : Nod → Type 0
IsRefuted n = (r : Valuation) → ¬ (IsModel n r)

no_models : (n : Nod) (r : Valuation) (added : List Addition) → AllByRecursion IsRefuted (map (child n) added) → AllByRecursion (HasNoModel n r) added
no_models n r [] h = tt
no_models n r (a ∷ rest) h = (λ q agrees. h.0 q, no_models n r rest h.1)

step_refutes : (n : Nod) (s : Stp) (added : List Addition) → IsSound n → outcome_of_all n s ≡ kids added → AllByRecursion IsRefuted (map (child n) added) → IsRefuted n
step_refutes n s added sound e h r = (promises n s sound added e).0 r (no_models n r added h)

runs_refute : (steps : List Stp) (stack : List Nod) → Runs stack steps [] → AllByRecursion IsSound stack → AllByRecursion IsRefuted stack
runs_refute [] stack e sound = subst (AllByRecursion IsRefuted) (sym e) tt
runs_refute (s ∷ steps) [] run sound = tt
runs_refute (s ∷ steps) (n ∷ below) run sound =
    let move = run.1 in
    let good = move.1 in
    let kids_of = map (child n) good.0 in
    let next : run.0 ≡ kids_of ++ below = move.2 ∙ ap (λ cs. cs ++ below) good.2 in
    let room = parts HasRoom kids_of below (subst (AllByRecursion HasRoom) next run.2) in
    let kids_sound = children_sound n s good.0 sound.0 good.1 room.0 in
    let refuted = runs_refute steps run.0 run.3 (subst (AllByRecursion IsSound) (sym next) (joined IsSound kids_of below kids_sound sound.1)) in
    let halves = parts IsRefuted kids_of below (subst (AllByRecursion IsRefuted) next refuted) in
    (step_refutes n s good.0 sound.0 good.1 halves.0, halves.1)

pub accepted_sequents : (q : Sqt) (steps : List Stp) → IsSound (first_node q) → IsAccepted q steps → IsValid q
accepted_sequents q steps sound run r fits hyps =
    stable r [] q.goal
    (λ fails. (runs_refute steps (first_stack q) run (sound, tt)).0 r (fits, All-push (IsTrueAt r []) q.hyps (no q.goal) hyps fails))

-- ---- a step at the top of a stack of sound nodes

room_of : (n : Node) (added : List Added) → AllByRecursion (IsRoomFor n) added → AllByRecursion HasRoom (map (child (node_of n)) (map addition_of added))
room_of n [] room = tt
room_of n (a ∷ rest) room = (room.0, room_of n rest room.1)

all_have_room : (stack : List Nod) → AllByRecursion IsSound stack → AllByRecursion HasRoom stack
all_have_room [] sound = tt
all_have_room (n ∷ below) sound = ((sound.0.variables, sound.0.formulas), all_have_room below sound.1)

module _ (n : Node) (s : Stp) (added : List Added) (are : AreChildren n s added) (stack below after : List Nod) (top : stack ≡ node_of n ∷ below)
    (sound : AllByRecursion IsSound stack) (is_after : after ≡ map (child (node_of n)) (map addition_of added) ++ below) where
  abbrev kids_of : List Nod
  kids_of = map (child (node_of n)) (map addition_of added)

  tops_sound : AllByRecursion IsSound (node_of n ∷ below)
  tops_sound = subst (AllByRecursion IsSound) top sound

  pub after_sound : AllByRecursion IsSound after
  after_sound =
      subst (AllByRecursion IsSound) (sym is_after)
      (joined IsSound kids_of below (children_sound (node_of n) s (map addition_of added) tops_sound.0 are.good (room_of n added are.room)) tops_sound.1)

  pub moves : Moves stack s after × AllByRecursion HasRoom after
  moves = (subst (λ x. Moves x s after) (sym top) (kids_of, (map addition_of added, are.good, refl), is_after), all_have_room after after_sound)

pub stuck : (n : Node) (s : Stp) → ((added : List Addition) → ¬ (outcome_of_all (node_of n) s ≡ kids added)) → (stack below : List Nod) → stack ≡ node_of n ∷ below → IsStuck stack s
stuck n s none stack below top = subst (λ x. IsStuck x s) (sym top) (λ after m. none m.1.0 m.1.1)

pub empty_stuck : (s : Stp) (stack : List Nod) → stack ≡ [] → IsStuck stack s
empty_stuck s stack e = subst (λ x. IsStuck x s) (sym e) (λ after m. m)
