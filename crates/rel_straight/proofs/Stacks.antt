-- Stacks of nodes that are lists read from the end, and runs that go on.
use Rattle.std.proofs.Common.{◌≡◌, ℕ, ◌+◌, ◌-◌, ◌<◌, List, [], ◌∷◌, ◌++◌, length, map, reverse, take, set, slice_get, Some, refl, sym, ap, subst, ◌∙◌, append_assoc, length-append, take_all, arith}
use Rattle.std.proofs.lemmas.List.{take_more, map-append, reverse-append}
use Rattle.std.proofs.lemmas.Option.{slice_get_within, get_or_from_slice_get}
use Rattle.rel_logic.specs.declared.sequent.Node.{Node}
use Rattle.rel_logic.specs.Syntax.{Trm, lt, Nod}
use Rattle.rel_logic.specs.View.{node_of}
use Rattle.rel_straight.specs.declared.step.Step.{Step}
use Rattle.rel_straight.specs.declared.step.Step.TheVariants.{Neint}
use Rattle.rel_straight.specs.Rules.{child, Moves, Runs}
use Rattle.rel_straight.specs.Stack.{stacked, IsStuck, DiffersAt}

stacked_push : (nodes : List Node) (n : Node) → stacked (nodes ++ n ∷ []) ≡ node_of n ∷ stacked nodes
stacked_push nodes n = ap reverse (map-append node_of nodes (n ∷ [])) ∙ reverse-append (map node_of nodes) (node_of n ∷ [])

module _ (nodes : List Node) (top : Node) (is_top : slice_get nodes (length nodes - 1) ≡ Some top) where
  abbrev pub below : List Node
  below = take (length nodes - 1) nodes

  parts : nodes ≡ below ++ top ∷ []
  parts =
      let within : length nodes - 1 < length nodes = slice_get_within nodes (length nodes - 1) top is_top in
      sym (take_all (length nodes - 1 + 1) nodes (omega arith)) ∙ take_more nodes (length nodes - 1) top within
      ∙ ap (λ n. below ++ n ∷ []) (get_or_from_slice_get nodes (length nodes - 1) top top is_top)

  stacked_top : stacked nodes ≡ node_of top ∷ stacked below
  stacked_top = ap stacked parts ∙ stacked_push below top

  pub split_stuck : (i : ℕ) → ((t u : Trm) → ¬ (DiffersAt (node_of top) i t u)) → IsStuck (stacked nodes) (Neint i)
  split_stuck i none = subst (λ s. IsStuck s (Neint i)) (sym stacked_top)
      (λ after m. let s = m.1 in none s.left s.right (record { formula = s.formula; left_int = s.left_int; right_int = s.right_int }))

  set_at : (front rest : List Node) (n m : Node) → set (front ++ n ∷ rest) (length front) m ≡ front ++ m ∷ rest
  set_at [] rest n m = refl
  set_at (x ∷ front) rest n m = ap (λ xs. x ∷ xs) (set_at front rest n m)

  module _ (first second : Node) (after : List Node) (is_after : after ≡ set (nodes ++ first ∷ []) (length nodes - 1) second) where
    long : length below ≡ length nodes - 1
    long = let e : length nodes ≡ length (below ++ top ∷ []) = ap length parts in omega (arith, e, length-append below (top ∷ []))

    after_parts : after ≡ (below ++ second ∷ []) ++ first ∷ []
    after_parts =
        is_after
        ∙ ap (λ xs. set (xs ++ first ∷ []) (length nodes - 1) second) parts
        ∙ ap (λ xs. set xs (length nodes - 1) second) (append_assoc below (top ∷ []) (first ∷ []))
        ∙ ap (λ k. set (below ++ top ∷ first ∷ []) k second) (sym long)
        ∙ set_at below (first ∷ []) top second
        ∙ sym (append_assoc below (second ∷ []) (first ∷ []))

    stacked_after : stacked after ≡ node_of first ∷ node_of second ∷ stacked below
    stacked_after = ap stacked after_parts ∙ stacked_push (below ++ second ∷ []) first ∙ ap (λ s. node_of first ∷ s) (stacked_push below second)

    pub split_moves : (i : ℕ) (t u : Trm) → DiffersAt (node_of top) i t u
        → node_of first ≡ child (node_of top) (lt t u ∷ []) → node_of second ≡ child (node_of top) (lt u t ∷ [])
        → Moves (stacked nodes) (Neint i) (stacked after)
    split_moves i t u d e f = subst (λ s. Moves s (Neint i) (stacked after)) (sym stacked_top) (
      (lt t u ∷ []) ∷ (lt u t ∷ []) ∷ [],
      record { left = t; right = u; formula = d.formula; left_int = d.left_int; right_int = d.right_int; added = refl },
      stacked_after ∙ (λ j. e j ∷ f j ∷ stacked below),
    )

runs_more : (steps : List Step) (a b c : List Nod) (s : Step) → Runs a steps b → Moves b s c → Runs a (steps ++ s ∷ []) c
runs_more [] a b c s e m = (c, subst (λ x. Moves x s c) (sym e) m, refl)
runs_more (t ∷ steps) a b c s r m = (r.0, r.1, runs_more steps r.0 b c s r.2 m)

pub runs_next : (steps : List Step) (k : ℕ) (a b c : List Nod) (s : Step) → slice_get steps k ≡ Some s → Runs a (take k steps) b → Moves b s c → Runs a (take (k + 1) steps) c
runs_next steps k a b c s e r m =
    let within = slice_get_within steps k s e in
    let more = take_more steps k s within ∙ ap (λ x. take k steps ++ x ∷ []) (get_or_from_slice_get steps k s s e) in
    subst (λ xs. Runs a xs c) (sym more) (runs_more (take k steps) a b c s r m)
