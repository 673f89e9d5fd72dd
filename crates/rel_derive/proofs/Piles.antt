-- The nodes that a pile stands for, as its node is cut and grows.
use Rattle.std.proofs.Common.{◌≡◌, suc, ◌+◌, ◌-◌, ◌≤◌, List, [], ◌∷◌, ◌++◌, length, take, map, reverse, Result, Ok, Err, OnOk, OnErr, refl, sym, ap, subst, subst₂, ◌∙◌, length-append, take_all, arith}
use Rattle.std.proofs.lemmas.List.{append-nil, map-append, reverse-append, length-reverse, length-take-le, take-append-le, take-take, take_at}
use Rattle.std.specs.List.{AllByRecursion}
use Rattle.rel_list.specs.declared.Memory.{Memory}
use Rattle.rel_logic.specs.declared.sequent.Node.{Node}
use Rattle.rel_logic.specs.View.{sort_of, fml_of, node_of}
use Rattle.rules_table.specs.declared.theory.Added.{Added}
use Rattle.rules_table.specs.Nodes.{child, IsSound}
use Rattle.rules_table.specs.View.{addition_of}
use Rattle.rel_derive.specs.declared.pile.Waiting.{Waiting}
use Rattle.rel_derive.specs.declared.pile.Pile.{Pile}
use Rattle.rel_derive.specs.Pile.{cut, grown, waits_at, nothing, nodes_over, AreWithin, nodes_of, rest_of, IsSoundPile, IsRaised}

-- ---- a node that grew, cut to what was there before

cut_grown : (n : Node) (w v : Waiting) → (v.sorts ≤ length (cut n w).sorts) × (v.forms ≤ length (cut n w).forms) → cut (grown n w) v ≡ cut (cut n w) v
cut_grown n w v h i = record {
  sorts = take-append-le v.sorts (take w.sorts n.sorts) w.added.fresh h.0 i;
  forms = take-append-le v.forms (take w.forms n.forms) w.added.forms h.1 i;
}

pub over_grown : (n : Node) (w : Waiting) (ws : List Waiting) → AreWithin (cut n w) ws → nodes_over (grown n w) ws ≡ nodes_over (cut n w) ws
over_grown n w [] h = refl
over_grown n w (v ∷ vs) h =
    ap (λ (c : Node). node_of (record { sorts = c.sorts ++ v.added.fresh; forms = c.forms ++ v.added.forms }) ∷ nodes_over c vs) (cut_grown n w v h.0)

pub within_grown : (n : Node) (w : Waiting) (ws : List Waiting) → AreWithin (cut n w) ws → AreWithin (grown n w) ws
within_grown n w [] h = tt
within_grown n w (v ∷ vs) h =
    let s : v.sorts ≤ length (take w.sorts n.sorts ++ w.added.fresh) = omega (arith, h.0.0, length-append (take w.sorts n.sorts) w.added.fresh) in
    let f : v.forms ≤ length (take w.forms n.forms ++ w.added.forms) = omega (arith, h.0.1, length-append (take w.forms n.forms) w.added.forms) in
    ((s, f), subst (λ c. AreWithin c vs) (sym (cut_grown n w v h.0)) h.1)

-- ---- children of the whole node

whole : (n : Node) (a : Added) → cut n (waits_at n a) ≡ n
whole n a i = record { sorts = take_all (length n.sorts) n.sorts (omega arith) i; forms = take_all (length n.forms) n.forms (omega arith) i }

child_of_whole : (n : Node) (a : Added) → node_of (grown n (waits_at n a)) ≡ child (node_of n) (addition_of a)
child_of_whole n a =
    ap (λ (c : Node). node_of (record { sorts = c.sorts ++ a.fresh; forms = c.forms ++ a.forms })) (whole n a)
    ∙ (λ i. record { sorts = map-append sort_of n.sorts a.fresh i; forms = map-append fml_of n.forms a.forms i })

pub over_children : (n : Node) (added : List Added) (ws : List Waiting) → nodes_over n (map (waits_at n) added ++ ws) ≡ map (child (node_of n)) (map addition_of added) ++ nodes_over n ws
over_children n [] ws = refl
over_children n (a ∷ rest) ws =
    (λ i. child_of_whole n a i ∷ nodes_over (whole n a i) (map (waits_at n) rest ++ ws))
    ∙ ap (λ xs. child (node_of n) (addition_of a) ∷ xs) (over_children n rest ws)

pub within_children : (n : Node) (added : List Added) (ws : List Waiting) → AreWithin n ws → AreWithin n (map (waits_at n) added ++ ws)
within_children n [] ws h = h
within_children n (a ∷ rest) ws h =
    ((omega arith, omega arith), subst (λ c. AreWithin c (map (waits_at n) rest ++ ws)) (sym (whole n a)) (within_children n rest ws h))

-- a child that adds nothing to the whole node is the node
pub over_nothing : (n : Node) (ws : List Waiting) → nodes_over n (waits_at n nothing ∷ ws) ≡ node_of n ∷ nodes_over n ws
over_nothing n ws = ap (λ (c : Node). node_of (record { sorts = c.sorts ++ []; forms = c.forms ++ [] }) ∷ nodes_over c ws) (whole n nothing)
    ∙ (λ i. node_of (record { sorts = append-nil n.sorts i; forms = append-nil n.forms i }) ∷ nodes_over n ws)

pub within_nothing : (n : Node) (ws : List Waiting) → AreWithin n ws → AreWithin n (waits_at n nothing ∷ ws)
within_nothing n ws h = within_children n (nothing ∷ []) ws h

-- ---- the number of nodes

height : (n : Node) (ws : List Waiting) → length (nodes_over n ws) ≡ length ws
height n [] = refl
height n (w ∷ ws) = ap (λ k. suc k) (height (cut n w) ws)

pub height_of : (p : Pile) → length (nodes_of p) ≡ length p.waiting.items
height_of p = height p.base (reverse p.waiting.items) ∙ length-reverse p.waiting.items

-- ---- lists turned round

pub reversed_map : {X Y : Type 0} (f : X → Y) (xs : List X) → reverse (map f (reverse xs)) ≡ map f xs
reversed_map f [] = refl
reversed_map f (x ∷ xs) =
    ap (λ l. reverse (map f l)) (reverse-append (x ∷ []) xs) ∙ ap reverse (map-append f (reverse xs) (x ∷ [])) ∙ reverse-append (map f (reverse xs)) (f x ∷ [])
    ∙ ap (λ l. f x ∷ l) (reversed_map f xs)

-- ---- the top child settles

cut_cut : (n : Node) (w : Waiting) → cut (cut n w) w ≡ cut n w
cut_cut n w i = record { sorts = take-take w.sorts w.sorts n.sorts (omega arith) i; forms = take-take w.forms w.forms n.forms (omega arith) i }

over_cut : (n : Node) (w : Waiting) (ws : List Waiting) → nodes_over (cut n w) (w ∷ ws) ≡ nodes_over n (w ∷ ws)
over_cut n w ws =
    ap (λ (c : Node). node_of (record { sorts = c.sorts ++ w.added.fresh; forms = c.forms ++ w.added.forms }) ∷ nodes_over c ws) (cut_cut n w)

within_cut : (n : Node) (w : Waiting) (ws : List Waiting) → AreWithin n (w ∷ ws) → AreWithin (cut n w) (w ∷ ws)
within_cut n w ws h =
    let s : w.sorts ≤ length (take w.sorts n.sorts) = omega (arith, h.0.0, length-take-le w.sorts n.sorts h.0.0) in
    let f : w.forms ≤ length (take w.forms n.forms) = omega (arith, h.0.1, length-take-le w.forms n.forms h.0.1) in
    ((s, f), subst (λ c. AreWithin c ws) (sym (cut_cut n w)) h.1)

module _ (p q : Pile) (rest : List Waiting) (w v : Waiting) (before : p.waiting.items ≡ rest ++ w ∷ []) (after : q.waiting.items ≡ rest ++ v ∷ []) (sound : IsSoundPile p) where
  w_top : reverse p.waiting.items ≡ w ∷ reverse rest
  w_top = ap reverse before ∙ reverse-append rest (w ∷ [])

  v_top : reverse q.waiting.items ≡ v ∷ reverse rest
  v_top = ap reverse after ∙ reverse-append rest (v ∷ [])

  w_within : AreWithin p.base (w ∷ reverse rest)
  w_within = subst (AreWithin p.base) w_top sound.within

  long : length q.waiting.items ≡ length rest + 1
  long = ap length after ∙ length-append rest (v ∷ [])

  rest_is : rest_of q ≡ reverse rest
  rest_is = ap reverse (ap (λ xs. take (length q.waiting.items - 1) xs) after ∙ take_at rest (v ∷ []) (length q.waiting.items - 1) (omega (arith, long)))

  abbrev IsSame : Type 0
  IsSame = (nodes_of q ≡ nodes_of p) × IsSoundPile q

  same_if : nodes_over q.base (v ∷ reverse rest) ≡ nodes_over p.base (w ∷ reverse rest) → AreWithin q.base (v ∷ reverse rest) → IsSame
  same_if e within =
      let same : nodes_of q ≡ nodes_of p = ap (nodes_over q.base) v_top ∙ e ∙ sym (ap (nodes_over p.base) w_top) in
      (same, record { within = subst (AreWithin q.base) (sym v_top) within; sound = subst (AllByRecursion IsSound) (sym same) sound.sound })

  module _ (is_grown : q.base ≡ grown p.base w) (is_whole : v ≡ waits_at q.base nothing) where
    rest_within : AreWithin q.base (reverse rest)
    rest_within = subst (λ n. AreWithin n (reverse rest)) (sym is_grown) (within_grown p.base w (reverse rest) w_within.1)

    v_over : nodes_over q.base (v ∷ reverse rest) ≡ node_of q.base ∷ nodes_over q.base (reverse rest)
    v_over = ap (λ x. nodes_over q.base (x ∷ reverse rest)) is_whole ∙ over_nothing q.base (reverse rest)

    pub grown_same : IsSame
    grown_same = same_if
        (v_over ∙ (λ i. node_of (is_grown i) ∷ nodes_over (is_grown i) (reverse rest)) ∙ ap (λ xs. node_of (grown p.base w) ∷ xs) (over_grown p.base w (reverse rest) w_within.1))
        (subst (λ x. AreWithin q.base (x ∷ reverse rest)) (sym is_whole) (within_nothing q.base (reverse rest) rest_within))

    pub grown_raised : IsRaised q
    grown_raised = record {
      some = omega (arith, long);
      top = ap (nodes_over q.base) v_top ∙ v_over ∙ ap (λ xs. node_of q.base ∷ nodes_over q.base xs) (sym rest_is);
      within = subst (AreWithin q.base) (sym rest_is) rest_within;
    }

  pub cut_same : q.base ≡ cut p.base w → v ≡ w → IsSame
  cut_same is_cut is_w = same_if
      ((λ i. nodes_over (is_cut i) (is_w i ∷ reverse rest)) ∙ over_cut p.base w (reverse rest))
      (subst₂ (λ n x. AreWithin n (x ∷ reverse rest)) (sym is_cut) (sym is_w) (within_cut p.base w (reverse rest) w_within))

  pub settled_same : {U : Type 0} (r : Result U Memory) → OnOk r ((q.base ≡ grown p.base w) × (v ≡ waits_at q.base nothing)) → OnErr r ((q.base ≡ cut p.base w) × (v ≡ w)) → IsSame
  settled_same (Ok u) ok err = grown_same ok.0 ok.1
  settled_same (Err e) ok err = cut_same err.0 err.1

  pub settled_raised : {U : Type 0} (r : Result U Memory) → OnOk r ((q.base ≡ grown p.base w) × (v ≡ waits_at q.base nothing)) → OnOk r (IsRaised q)
  settled_raised (Ok u) ok = grown_raised ok.0 ok.1
  settled_raised (Err e) ok = tt

-- ---- the children take the place of the top one

module _ (q t : Pile) (children : List Waiting) (added : List Added) (raised : IsRaised q) (same_base : t.base ≡ q.base)
    (items : t.waiting.items ≡ take (length q.waiting.items - 1) q.waiting.items ++ children) (last_first : reverse children ≡ map (waits_at q.base) added) where
  reversed : reverse t.waiting.items ≡ map (waits_at q.base) added ++ rest_of q
  reversed = ap reverse items ∙ reverse-append (take (length q.waiting.items - 1) q.waiting.items) children ∙ ap (λ xs. xs ++ rest_of q) last_first

  pub replaced : nodes_of t ≡ map (child (node_of q.base)) (map addition_of added) ++ nodes_over q.base (rest_of q)
  replaced = (λ i. nodes_over (same_base i) (reversed i)) ∙ over_children q.base added (rest_of q)

  pub replaced_within : AreWithin t.base (reverse t.waiting.items)
  replaced_within = subst₂ AreWithin (sym same_base) (sym reversed) (within_children q.base added (rest_of q) raised.within)
