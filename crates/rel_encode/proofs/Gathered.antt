-- Lists that a loop over lists side by side makes.
use Rattle.std.proofs.Common.{◌≡◌, ℕ, zero, suc, ◌+◌, ◌<◌, ◌≤◌, min, Bool, true, false, List, [], ◌∷◌, ◌++◌, map, length, get_or, take, refl, sym, ap, subst, ◌∙◌, append_assoc, arith}
use Rattle.std.specs.Prelude.{if◌then◌else◌, ◌||◌}
use Rattle.std.proofs.lemmas.List.{take_more, take-map, take_min, length-take-le}
use Rattle.rel_lang.specs.Syntax.{Effect, Decl}
use Rattle.rel_lang.specs.View.{type_of, decl_of}
use Rattle.rel_lang.specs.declared.bundle.Decl as D
use Rattle.rel_lang.specs.declared.typed.FieldInfo as F
use Rattle.rel_logic.specs.Syntax.{Trm, Fml, eq}
use Rattle.rel_logic.specs.declared.term.Term.{Term}
use Rattle.rel_logic.specs.View.{trm_of}
use Rattle.rel_logic.specs.Equal.{same_trm}
use Rattle.rel_encode.specs.Numbers.{Numbers, field_of}
use Rattle.rel_encode.specs.Terms.{Store}
use Rattle.rel_encode.specs.Facts.{is_a_variable, variable_facts, map_facts, facts_of_variables, facts_of_maps}
use Rattle.rel_encode.specs.Frame.{lists_global, kept_variables, kept_field, kept_fields}

-- what the elements at each place give, one after another
abbrev pub gathered : {A B C D : Type 0} → (A → B → C → List D) → List A → List B → List C → List D
gathered f (a ∷ xs) (b ∷ ys) (c ∷ zs) = f a b c ++ gathered f xs ys zs
gathered f _ _ _ = []

module _ {A B C D : Type 0} (f : A → B → C → List D) where
  append_none : (ds : List D) → ds ++ [] ≡ ds
  append_none [] = refl
  append_none (d ∷ ds) = ap (λ l. d ∷ l) (append_none ds)

  gathered_last : (xs : List A) (ys : List B) (zs : List C) (a : A) (b : B) (c : C) → length xs ≡ length ys → length xs ≡ length zs
      → gathered f (xs ++ a ∷ []) (ys ++ b ∷ []) (zs ++ c ∷ []) ≡ gathered f xs ys zs ++ f a b c
  gathered_last [] [] [] a b c g h = append_none (f a b c)
  gathered_last [] [] (z ∷ zs) a b c g h = absurd (omega (arith, h))
  gathered_last [] (y ∷ ys) zs a b c g h = absurd (omega (arith, g))
  gathered_last (x ∷ xs) [] zs a b c g h = absurd (omega (arith, g))
  gathered_last (x ∷ xs) (y ∷ ys) [] a b c g h = absurd (omega (arith, h))
  gathered_last (x ∷ xs) (y ∷ ys) (z ∷ zs) a b c g h =
      ap (λ l. f x y z ++ l) (gathered_last xs ys zs a b c (omega (arith, g)) (omega (arith, h))) ∙ sym (append_assoc (f x y z) (gathered f xs ys zs) (f a b c))

  -- one more place
  pub gathered_more : (xs : List A) (ys : List B) (zs : List C) (i : ℕ) (a : A) (b : B) (c : C) → i < length xs → i < length ys → i < length zs
      → a ≡ get_or xs i a → b ≡ get_or ys i b → c ≡ get_or zs i c
      → gathered f (take (i + 1) xs) (take (i + 1) ys) (take (i + 1) zs) ≡ gathered f (take i xs) (take i ys) (take i zs) ++ f a b c
  gathered_more xs ys zs i a b c ha hb hc ea eb ec =
      let la = length-take-le i xs (omega (arith, ha)) in
      let lb = length-take-le i ys (omega (arith, hb)) in
      let lc = length-take-le i zs (omega (arith, hc)) in
      let ta : take (i + 1) xs ≡ take i xs ++ a ∷ [] = take_more xs i a ha ∙ ap (λ x. take i xs ++ x ∷ []) (sym ea) in
      let tb : take (i + 1) ys ≡ take i ys ++ b ∷ [] = take_more ys i b hb ∙ ap (λ x. take i ys ++ x ∷ []) (sym eb) in
      let tc : take (i + 1) zs ≡ take i zs ++ c ∷ [] = take_more zs i c hc ∙ ap (λ x. take i zs ++ x ∷ []) (sym ec) in
      (λ j. gathered f (ta j) (tb j) (tc j)) ∙ gathered_last (take i xs) (take i ys) (take i zs) a b c (la ∙ sym lb) (la ∙ sym lc)

  -- as many places as the shortest has
  pub gathered_all : (xs : List A) (ys : List B) (zs : List C) (i : ℕ) → i ≡ min (min (length xs) (length ys)) (length zs)
      → gathered f (take i xs) (take i ys) (take i zs) ≡ gathered f xs ys zs
  gathered_all [] ys zs i e = let none : i ≡ 0 = omega (arith, e) in ap (λ n. gathered f (take n []) (take n ys) (take n zs)) none
  gathered_all (x ∷ xs) [] zs i e = let none : i ≡ 0 = omega (arith, e) in ap (λ n. gathered f (take n (x ∷ xs)) (take n []) (take n zs)) none
  gathered_all (x ∷ xs) (y ∷ ys) [] i e = let none : i ≡ 0 = omega (arith, e) in ap (λ n. gathered f (take n (x ∷ xs)) (take n (y ∷ ys)) (take n [])) none
  gathered_all (x ∷ xs) (y ∷ ys) (z ∷ zs) zero e = absurd (omega (arith, e))
  gathered_all (x ∷ xs) (y ∷ ys) (z ∷ zs) (suc i) e = ap (λ l. f x y z ++ l) (gathered_all xs ys zs i (omega (arith, e)))

-- ---- what is gathered of a state

module _ (numbers : Numbers) (alloc : Trm) where
  abbrev pub of_variable : D.Decl → Term → Term → List Fml
  of_variable d t u = if is_a_variable (trm_of t) then variable_facts numbers alloc (type_of d.ty) (trm_of t) else []

  pub variables_gathered : (ds : List D.Decl) (ts : List Term) → gathered of_variable ds ts ts ≡ facts_of_variables numbers alloc (map decl_of ds) (map trm_of ts)
  variables_gathered [] ts = refl
  variables_gathered (d ∷ ds) [] = refl
  variables_gathered (d ∷ ds) (t ∷ ts) = ap (λ l. of_variable d t t ++ l) (variables_gathered ds ts)

  abbrev pub of_map : F.FieldInfo → Term → Term → List Fml
  of_map d t u = if is_a_variable (trm_of t) then map_facts numbers alloc (type_of d.ty) (trm_of t) else []

  pub maps_gathered : (ds : List F.FieldInfo) (ts : List Term) → gathered of_map ds ts ts ≡ facts_of_maps numbers alloc (map field_of ds) (map trm_of ts)
  maps_gathered [] ts = refl
  maps_gathered (d ∷ ds) [] = refl
  maps_gathered (d ∷ ds) (t ∷ ts) = ap (λ l. of_map d t t ++ l) (maps_gathered ds ts)

-- ---- what is gathered of a change

module _ (writes : List Effect) where
  abbrev pub of_kept : D.Decl → Term → Term → List Fml
  of_kept d b a = if lists_global writes d.name || same_trm (trm_of b) (trm_of a) then [] else eq (trm_of a) (trm_of b) ∷ []

  pub kept_gathered : (ds : List D.Decl) (ys xs : List Term) → gathered of_kept ds ys xs ≡ kept_variables writes (map decl_of ds) (map trm_of ys) (map trm_of xs)
  kept_gathered [] ys xs = refl
  kept_gathered (d ∷ ds) [] xs = refl
  kept_gathered (d ∷ ds) (b ∷ ys) [] = refl
  kept_gathered (d ∷ ds) (b ∷ ys) (a ∷ xs) = ap (λ l. of_kept d b a ++ l) (kept_gathered ds ys xs)

  module _ (numbers : Numbers) (sc : List Decl) (before : Store) where
    abbrev pub of_field : F.FieldInfo → Term → Term → List Fml
    of_field d b a = if same_trm (trm_of b) (trm_of a) then [] else kept_field numbers sc before writes d.name (trm_of b) (trm_of a) ∷ []

    pub fields_gathered : (ds : List F.FieldInfo) (ys xs : List Term)
        → gathered of_field ds ys xs ≡ kept_fields numbers sc before writes (map field_of ds) (map trm_of ys) (map trm_of xs)
    fields_gathered [] ys xs = refl
    fields_gathered (d ∷ ds) [] xs = refl
    fields_gathered (d ∷ ds) (b ∷ ys) [] = refl
    fields_gathered (d ∷ ds) (b ∷ ys) (a ∷ xs) = ap (λ l. of_field d b a ++ l) (fields_gathered ds ys xs)

-- ---- a list that grows

pub grown : {X : Type 0} (before old new : List X) (g h m : List X) → old ≡ before ++ g → new ≡ old ++ m → h ≡ g ++ m → new ≡ before ++ h
grown before old new g h m is more all = more ∙ ap (λ l. l ++ m) is ∙ append_assoc before g m ∙ ap (λ l. before ++ l) (sym all)

pub not_grown : {X : Type 0} (xs : List X) → xs ≡ xs ++ []
not_grown [] = refl
not_grown (x ∷ xs) = ap (λ l. x ∷ l) (not_grown xs)

-- ---- the first of a list

pub first_framed : {X Y : Type 0} (f : X → Y) (xs : List X) (n k : ℕ) → k ≡ min n (length xs) → map f (take k xs) ≡ take n (map f xs)
first_framed f xs n k e = ap (map f) (ap (λ m. take m xs) e ∙ take_min n xs) ∙ sym (take-map f n xs)
