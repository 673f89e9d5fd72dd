-- Tokens that spell a tree's marks are those of a tree that is equal but for places: what is shown of all trees.
use Rattle.std.proofs.Common.{◌≡◌, ℕ, suc, List, [], ◌∷◌, ◌++◌, map, refl, sym, ap, subst}
use Rattle.std.specs.List.{AllByRecursion}
use Rattle.rel_lang.specs.Syntax.{Word}
use Rattle.rel_lang.specs.Tokens.{Token}
use Rattle.rel_lang.specs.Text.{Mark, Says, CanBeSaid, AreAt, Match, tree, element, begins, braced, repeated, ended}
use Rattle.rel_show.proofs.Spelled.{Spells}

-- the second marks say what the first do and begin trees at the places of the tokens, which say that too
abbrev pub Placed : List Mark → List Mark → List Token → Type 0
Placed [] [] [] = Unit {0}
Placed (m ∷ ms) (n ∷ ns) (t ∷ ts) = (n.said ≡ m.said) × Says t.text m.said × AreAt n.ats t.at × Placed ms ns ts
Placed _ _ _ = ⊥

pub placed_match : (ms ns : List Mark) (ts : List Token) → Placed ms ns ts → Match ns ts
placed_match [] [] [] p = tt
placed_match (m ∷ ms) (n ∷ ns) (t ∷ ts) p = (subst (Says t.text) (sym p.0) p.1, p.2, placed_match ms ns ts p.3)
placed_match ms ns ts p = absurd p

pub placed_said : (ms ns : List Mark) (ts : List Token) → Placed ms ns ts → AllByRecursion (λ m. CanBeSaid m.said) ms → AllByRecursion (λ m. CanBeSaid m.said) ns
placed_said [] [] [] p h = tt
placed_said (m ∷ ms) (n ∷ ns) (t ∷ ts) p h = (subst CanBeSaid (sym p.0) h.0, placed_said ms ns ts p.3 h.1)
placed_said ms ns ts p h = absurd p

pub placed_append : (ms ns us vs : List Mark) (ts ks : List Token) → Placed ms ns ts → Placed us vs ks → Placed (ms ++ us) (ns ++ vs) (ts ++ ks)
placed_append [] [] us vs [] ks p q = q
placed_append (m ∷ ms) (n ∷ ns) us vs (t ∷ ts) ks p q = (p.0, p.1, p.2, placed_append ms ns us vs ts ks p.3 q)
placed_append ms ns us vs ts ks p q = absurd p

pub spells_append : (ms us : List Mark) (ts : List Token) → Spells (ms ++ us) ts → (front : List Token) × (back : List Token) × (front ++ back ≡ ts) × Spells ms front × Spells us back
spells_append [] us ts s = ([], ts, refl, tt, s)
spells_append (m ∷ ms) us [] s = absurd s
spells_append (m ∷ ms) us (t ∷ ts) s =
    let r = spells_append ms us ts s.1 in
    (t ∷ r.0, r.1, ap (λ ks. t ∷ ks) r.2, (s.0, r.3), r.4)

-- Whatever tokens spell the marks, there are marks with this property that say the same and have the tokens' places.
pub record Placing (ms : List Mark) (good : List Mark → Type 0) : Type 0 where
  pub placing : (ts : List Token) → Spells ms ts → (ns : List Mark) × Placed ms ns ts × good ns

-- Whatever tokens spell the tree, they are those of a tree that is equal but for places.
pub record Places {X : Type 0} (strip : X → X) (show : X → List Mark) (x : X) : Type 0 where
  pub places : (ts : List Token) → Spells (show x) ts → (y : X) × (strip y ≡ strip x) × Placed (show x) (show y) ts

-- ---- one mark after the other

pub done : {good : List Mark → Type 0} → good [] → Placing [] good
done {good} g = record { placing = only }
  where
    only : (ts : List Token) → Spells [] ts → (ns : List Mark) × Placed [] ns ts × good ns
    only [] s = ([], tt, g)
    only (t ∷ ts) s = absurd s

-- the mark, with which no tree begins that has a place
pub keep : {m : Mark} {ms : List Mark} {good : List Mark → Type 0} → Placing ms (λ ns. good (record m { ats = [] } ∷ ns)) → Placing (m ∷ ms) good
keep {m} {ms} {good} rest = record { placing = first }
  where
    first : (ts : List Token) → Spells (m ∷ ms) ts → (ns : List Mark) × Placed (m ∷ ms) ns ts × good ns
    first [] s = absurd s
    first (t ∷ ts) s = let r = rest.placing ts s.1 in (record m { ats = [] } ∷ r.0, (refl, s.0, tt, r.1), r.2)

-- the mark, with which a tree begins that has a place
pub start : {m : Mark} {ms : List Mark} {good : List Mark → Type 0} → ((at : ℕ) → Placing ms λ ns. good (record m { ats = at ∷ [] } ∷ ns)) → Placing (m ∷ ms) good
start {m} {ms} {good} rest = record { placing = first }
  where
    first : (ts : List Token) → Spells (m ∷ ms) ts → (ns : List Mark) × Placed (m ∷ ms) ns ts × good ns
    first [] s = absurd s
    first (t ∷ ts) s = let r = (rest t.at).placing ts s.1 in (record m { ats = t.at ∷ [] } ∷ r.0, (refl, s.0, (refl, tt), r.1), r.2)

-- the mark, with which two trees begin
pub start_both : {m : Mark} {ms : List Mark} {good : List Mark → Type 0} → ((at : ℕ) → Placing ms λ ns. good (record m { ats = at ∷ at ∷ [] } ∷ ns)) → Placing (m ∷ ms) good
start_both {m} {ms} {good} rest = record { placing = first }
  where
    first : (ts : List Token) → Spells (m ∷ ms) ts → (ns : List Mark) × Placed (m ∷ ms) ns ts × good ns
    first [] s = absurd s
    first (t ∷ ts) s = let r = (rest t.at).placing ts s.1 in (record m { ats = t.at ∷ t.at ∷ [] } ∷ r.0, (refl, s.0, (refl, (refl, tt)), r.1), r.2)

-- ---- one tree after the other

-- some marks and those behind them
pub append : {ms ns : List Mark} {good : List Mark → Type 0} → Placing ms (λ us. Placing ns λ vs. good (us ++ vs)) → Placing (ms ++ ns) good
append {ms} {ns} {good} first = record { placing = both }
  where
    both : (ts : List Token) → Spells (ms ++ ns) ts → (vs : List Mark) × Placed (ms ++ ns) vs ts × good vs
    both ts s =
        let r = spells_append ms ns ts s in
        let p = first.placing r.0 r.3 in
        let q = (p.2).placing r.1 r.4 in
        (p.0 ++ q.0, subst (λ ks. Placed (ms ++ ns) (p.0 ++ q.0) ks) r.2 (placed_append ms p.0 ns q.0 r.0 r.1 p.1 q.1), q.2)

-- the marks of a tree
pub last : {X : Type 0} {strip : X → X} {show : X → List Mark} {x : X} {good : List Mark → Type 0}
    → Places strip show x → ((y : X) → strip y ≡ strip x → good (show y)) → Placing (show x) good
last {X} {strip} {show} {x} {good} tree rest = record { placing = λ ts s. let p = tree.places ts s in (show p.0, p.2, rest p.0 p.1) }

-- these marks are those of a tree that is equal but for places
abbrev pub Same : {X : Type 0} → (X → X) → (X → List Mark) → X → List Mark → Type 0
Same {X} strip show x ns = (y : X) × (strip y ≡ strip x) × (show y ≡ ns)

pub whole : {X : Type 0} {strip : X → X} {show : X → List Mark} {x : X} → Placing (show x) (Same strip show x) → Places strip show x
whole {X} {strip} {show} {x} p = record { places = λ ts s. let r = p.placing ts s in (r.2.0, r.2.1, subst (λ ns. Placed (show x) ns ts) (sym r.2.2) r.1) }

-- ---- marks of no tree that has a place

abbrev pub Plain : List Mark → Type 0
Plain ms = AllByRecursion (λ m. m.ats ≡ []) ms

plain_placed : (ms : List Mark) (ts : List Token) → Plain ms → Spells ms ts → Placed ms ms ts
plain_placed [] [] h s = tt
plain_placed (m ∷ ms) (t ∷ ts) h s = (refl, s.0, subst (λ ats. AreAt ats t.at) (sym h.0) tt, plain_placed ms ts h.1 s.1)
plain_placed ms ts h s = absurd s

pub plain_places : {X : Type 0} {strip : X → X} {show : X → List Mark} {x : X} → Plain (show x) → Places strip show x
plain_places {X} {strip} {show} {x} plain = record { places = λ ts s. (x, refl, plain_placed (show x) ts plain s) }

-- marks that stay
pub skip : {ms : List Mark} {good : List Mark → Type 0} → Plain ms → good ms → Placing ms good
skip {ms} {good} plain g = record { placing = λ ts s. (ms, plain_placed ms ts plain s, g) }

-- ---- what is told at the first mark

placed_tree : (d : ℕ) (ms ns : List Mark) (ts : List Token) → Placed ms ns ts → Placed (tree d ms) (tree d ns) ts
placed_tree d [] [] [] p = p
placed_tree d (m ∷ ms) (n ∷ ns) (t ∷ ts) p = p
placed_tree d ms ns ts p = absurd p

placed_element : (k : ℕ) (ms ns : List Mark) (ts : List Token) → Placed ms ns ts → Placed (element k ms) (element k ns) ts
placed_element k [] [] [] p = p
placed_element k (m ∷ ms) (n ∷ ns) (t ∷ ts) p = p
placed_element k ms ns ts p = absurd p

spells_tree : (d : ℕ) (ms : List Mark) (ts : List Token) → Spells (tree d ms) ts → Spells ms ts
spells_tree d [] ts s = s
spells_tree d (m ∷ ms) [] s = s
spells_tree d (m ∷ ms) (t ∷ ts) s = s

spells_element : (k : ℕ) (ms : List Mark) (ts : List Token) → Spells (element k ms) ts → Spells ms ts
spells_element k [] ts s = s
spells_element k (m ∷ ms) [] s = s
spells_element k (m ∷ ms) (t ∷ ts) s = s

pub element_places : {X : Type 0} {strip : X → X} {show : X → List Mark} {x : X} (k : ℕ) → Places strip show x → Places strip (λ y. element k (show y)) x
element_places {X} {strip} {show} {x} k p = record { places = λ ts s. let r = p.places ts (spells_element k (show x) ts s) in (r.0, r.1, placed_element k (show x) (show r.0) ts r.2) }

pub tree_places : {X : Type 0} {strip : X → X} {show : X → List Mark} {x : X} (d : ℕ) → Places strip show x → Places strip (λ y. tree d (show y)) x
tree_places {X} {strip} {show} {x} d p = record { places = λ ts s. let r = p.places ts (spells_tree d (show x) ts s) in (r.0, r.1, placed_tree d (show x) (show r.0) ts r.2) }

placed_begins : (at : ℕ) (m : Mark) (ms ns : List Mark) (t : Token) (ts : List Token) → Placed (m ∷ ms) ns (t ∷ ts) → Placed (begins at (m ∷ ms)) (begins t.at ns) (t ∷ ts)
placed_begins at m ms [] t ts p = absurd p
placed_begins at m ms (n ∷ ns) t ts p = (p.0, p.1, (refl, p.2), p.3)

-- a tree at a place, of which the first mark isn't known
pub started : (at : ℕ) (ms : List Mark) {good : List Mark → Type 0} → Placing ms (λ ns. (place : ℕ) → good (begins place ns)) → Placing (begins at ms) good
started at [] {good} p = record { placing = λ ts s. let r = p.placing ts s in (begins 0 r.0, none r.0 ts r.1, r.2 0) }
  where
    none : (ns : List Mark) (ts : List Token) → Placed [] ns ts → Placed [] (begins 0 ns) ts
    none [] ts h = h
    none (n ∷ ns) [] h = absurd h
    none (n ∷ ns) (t ∷ ts) h = absurd h
started at (m ∷ ms) {good} p = record { placing = some }
  where
    some : (ts : List Token) → Spells (begins at (m ∷ ms)) ts → (ns : List Mark) × Placed (begins at (m ∷ ms)) ns ts × good ns
    some [] s = absurd s
    some (t ∷ ts) s = let r = p.placing (t ∷ ts) s in (begins t.at r.0, placed_begins at m ms r.0 t ts r.1, r.2 t.at)

-- ---- lists

pub braced_places : {X : Type 0} {strip : X → X} {show : X → List Mark} {x : X} → Places strip show x → Places strip (λ y. braced (show y)) x
braced_places p = whole (keep (append (last p λ y e. keep (done (y, e, refl)))))

pub ended_places : {X : Type 0} {strip : X → X} {show : X → List Mark} {x : X} (w : Word) → Places strip show x → Places strip (ended w show) x
ended_places w p = whole (append (last p λ y e. keep (done (y, e, refl))))

pub repeated_places : {X : Type 0} {strip : X → X} {show : X → List Mark} → ((x : X) → Places strip show x) → (k : ℕ) (xs : List X) → Places (map strip) (repeated show k) xs
repeated_places one k [] = whole (done ([], refl, refl))
repeated_places one k (x ∷ xs) = whole (append (last (element_places k (one x)) λ y e. last (repeated_places one (suc k) xs) λ ys es. (y ∷ ys, cc, refl)))
