-- What may be written is read exactly.
use Rattle.std.proofs.Common.{◌≡◌, ℕ, zero, suc, ◌+◌, ◌<◌, true, false, if◌then◌else◌, List, [], ◌∷◌, ◌++◌, length, ◌⊎◌, inl, inr, refl, sym, subst, append_assoc, arith}
use Rattle.std.specs.Prelude.{codes}
use Rattle.std.proofs.Math.Path.{fun_ext}
use Rattle.std.specs.List.{AllByRecursion}
use Rattle.rel_lang.specs.Syntax.{Word, Effect, Global, Locations}
use Rattle.rel_lang.specs.Text.{Mark, CanBeSaid, word, named, element, behind, repeated, listed, show_expression, show_effect, show_writes}
use Rattle.rel_lang.specs.Refusal.{Limits, TooMany}
use Rattle.rel_lexer.specs.declared.Token.{Token}
use Rattle.rel_lexer.specs.Tokens.{tokens_of}
use Rattle.rel_lexer.specs.declared.Kind.{Kind}
use Rattle.rel_lexer.specs.declared.Kind.TheVariants as kind
use Rattle.rel_lexer.specs.declared.keywords.Keyword.TheVariants as keyword
use Rattle.rel_lexer.specs.declared.symbols.Symbol.TheVariants as symbol
use Rattle.rel_parse.specs.Reading.{Reading, Got, Refused, Reader, then_read, unexpected, is_next, expect_at, made, both, after, either, with_first, many_at, listed_at}
use Rattle.rel_parse.specs.Firsts.{AName, This, begins_one}
use Rattle.rel_parse.proofs.Laws.{Good, AreTold, Reads, Always, NeverBegins, AlwaysBegins, SomeBegins, ShapeAll, ShapeEither, show_either, name_reads, word_reads, after_reads, either_reads, element_reads, named_reads, same_reads}
use Rattle.rel_parse.proofs.Along.{all_left, goes_out, told_join}
use Rattle.rel_parse.proofs.First.{over_at, over_reads}
use Rattle.rel_parse.proofs.Single.{is_fixed}
use Rattle.rel_parse.proofs.Firsts.{always_begins, never_begins, are_apart}
use Rattle.rel_decls.specs.Specifications.{effect_at, writes_at}
use Rattle.rel_parse.proofs.Expressions.{expression_reads, expression_never}
use Rattle.rel_decls.proofs.Declarations.{closed_reads, word_always, word_never}
use Rattle.rel_decls.proofs.Specifications.{close_brace, show_close, place_reads}
use Rattle.rel_decls.proofs.Effects.{sign, effect_then, told_effect}

abbrev comma : Kind
comma = kind.Symbol symbol.Comma

abbrev show_next : Effect → List Mark
show_next = behind (codes ",") show_effect

module _ (l : Limits) (deep : 0 < l.deepest) {B : Type 0} (show2 : B → List Mark) (Shape2 : B → Type 0) (b : Reader B) (two : Reads l show2 Shape2 b) (no_comma : NeverBegins show2 Shape2 (is_next comma)) (no_sign : NeverBegins show2 Shape2 (is_next sign)) where
  abbrev Several : Type 0
  Several = List Effect × B

  abbrev One : Type 0
  One = Effect × Several

  abbrev next_at : Reader Effect
  next_at = after comma (effect_at l)

  abbrev more : ℕ → Reader Several
  more left = both (many_at (is_next comma) next_at left) b

  abbrev show_many : ℕ → Several → List Mark
  show_many n q = repeated show_next n q.0 ++ show2 q.1

  abbrev ShapeMany : Several → Type 0
  ShapeMany = ShapeAll Always Shape2

  abbrev show_first : ℕ → One → List Mark
  show_first n w = element n (word (codes ",") ∷ (show_effect w.0 ++ show_many (suc n) w.1))

  abbrev ShapeOne : One → Type 0
  ShapeOne w = Always w.0 × ShapeMany w.1

  told_repeated : (n : ℕ) (xs : List Effect) → AreTold (repeated show_next n xs)
  told_repeated n [] = tt
  told_repeated n (x ∷ xs) = (tt, told_join (show_effect x) (repeated show_next (suc n) xs) (told_effect l deep show2 Shape2 b two no_sign x) (told_repeated (suc n) xs))

  told_first : (n : ℕ) (w : One) → AreTold (show_first n w)
  told_first n w =
      (tt, told_join (show_effect w.0) (show_many (suc n) w.1) (told_effect l deep show2 Shape2 b two no_sign w.0) (told_join (repeated show_next (suc n) w.1.0) (show2 w.1.1) (told_repeated (suc n) w.1.0) (two.told w.1.1)))

  no_sign_many : (n : ℕ) → NeverBegins (show_many n) ShapeMany (is_next sign)
  no_sign_many n ([], y) ts kinds good goes = no_sign y ts kinds (good.0.1, good.1) goes
  no_sign_many n (x ∷ xs, y) ts kinds good goes = never_begins (This sign ∷ []) (This comma ∷ []) (show_many n (x ∷ xs, y)) ts refl (This comma, inl refl, (tt, refl)) kinds good.1 goes

  first_begins : (n : ℕ) → AlwaysBegins (show_first n) ShapeOne (is_next comma)
  first_begins n w ts kinds good goes = always_begins (This comma ∷ []) (show_first n w) ts (This comma, inl refl, (tt, refl)) kinds good.1 goes

  some_first : (n : ℕ) → (w : One) × Good (show_first n) ShapeOne w
  some_first n = let x = (name_reads l).one in let y = two.one in ((Global x.0, ([], y.0)), ((tt, (tt, y.1.0)), (tt, (x.1.1.0, y.1.1))))

  first_passes : (n : ℕ) → SomeBegins (show_first n) ShapeOne (is_next comma)
  first_passes n [] kinds e = absurd cc
  first_passes n (t ∷ ts) kinds e = let w = some_first n in (w.0, w.1, (is_fixed t comma tt kinds.0 e, tt, tt, tt))

  -- ---- none or one and others

  abbrev all_of : One ⊎ B → Several
  all_of (inl w) = (w.0 ∷ w.1.0, w.1.1)
  all_of (inr y) = ([], y)

  abbrev first_or : Several → One ⊎ B
  first_or ([], y) = inr y
  first_or (x ∷ xs, y) = inl (x, (xs, y))

  back_first : (w : One ⊎ B) → first_or (all_of w) ≡ w
  back_first (inl w) = refl
  back_first (inr y) = refl

  back_all : (q : Several) → all_of (first_or q) ≡ q
  back_all ([], y) = refl
  back_all (x ∷ xs, y) = refl

  shown_all : (n : ℕ) (q : Several) → show_either (show_first n) show2 (first_or q) ≡ show_many n q
  shown_all n ([], y) = refl
  shown_all n (x ∷ xs, y) = sym (append_assoc (element n (show_next x)) (repeated show_next (suc n) xs) (show2 y))

  shape_to : (q : Several) → ShapeEither ShapeOne Shape2 (first_or q) → ShapeMany q
  shape_to ([], y) h = (tt, h)
  shape_to (x ∷ xs, y) h = ((tt, h.1.0), h.1.1)

  shape_from : (q : Several) → ShapeMany q → ShapeEither ShapeOne Shape2 (first_or q)
  shape_from ([], y) h = h.1
  shape_from (x ∷ xs, y) h = (tt, (h.0.1, h.1))

  by_one : (n : ℕ) (rf : Reader One) → Reads l (show_first n) ShapeOne rf → Reads l (show_many n) ShapeMany (made all_of (either (is_next comma) (made inl rf) (made inr b)))
  by_one n rf reads =
      let step = either_reads l (show_first n) ShapeOne rf show2 Shape2 b (is_next comma) reads two (first_begins n) no_comma in
      subst (λ s. Reads l s ShapeMany (made all_of (either (is_next comma) (made inl rf) (made inr b)))) (fun_ext (shown_all n))
      (named_reads l (show_either (show_first n) show2) (ShapeEither ShapeOne Shape2) (either (is_next comma) (made inl rf) (made inr b)) ShapeMany all_of first_or step back_first back_all shape_to shape_from)

  -- ---- readers that answer the same

  abbrev with_last : List Effect → Reading B → Reading Several
  with_last xs read = then_read read (λ y rest. Got (xs, y) rest)

  abbrev with_rest : Reading (List Effect) → Reading Several
  with_rest read = then_read read (λ xs rest. with_last xs (b rest))

  abbrev as_first : Effect → Reading Several → Reading One
  as_first x read = then_read read (λ q rest. Got (x, q) rest)

  abbrev as_some : Reading One → Reading Several
  as_some read = let one_kind : Reading (One ⊎ B) = then_read read (λ w rest. Got (inl w) rest) in then_read one_kind (λ w rest. Got (all_of w) rest)

  same_last : (x : Effect) (xs : List Effect) (read : Reading B) → as_some (as_first x (with_last xs read)) ≡ with_last (x ∷ xs) read
  same_last x xs (Refused why left) = refl
  same_last x xs (Got y rest) = refl

  same_rest : (x : Effect) (read : Reading (List Effect)) → as_some (as_first x (with_rest read)) ≡ with_rest (with_first x read)
  same_rest x (Refused why left) = refl
  same_rest x (Got xs rest) = same_last x xs (b rest)

  same_effect : (m : Reader (List Effect)) (read : Reading Effect) → as_some (then_read read (λ x rest. as_first x (with_rest (m rest)))) ≡ with_rest (then_read read (λ x rest. with_first x (m rest)))
  same_effect m (Refused why left) = refl
  same_effect m (Got x rest) = same_rest x (m rest)

  same_comma : (m : Reader (List Effect)) (read : Reading (Unit {0})) → as_some (then_read read (λ u us. then_read (effect_at l us) (λ x rest. as_first x (with_rest (m rest))))) ≡ with_rest (then_read (then_read read (λ u us. effect_at l us)) (λ x rest. with_first x (m rest)))
  same_comma m (Refused why left) = refl
  same_comma m (Got u us) = same_effect m (effect_at l us)

  abbrev as_none : Reading B → Reading Several
  as_none read = let one_kind : Reading (One ⊎ B) = then_read read (λ y rest. Got (inr y) rest) in then_read one_kind (λ w rest. Got (all_of w) rest)

  same_none : (read : Reading B) → as_none read ≡ with_last [] read
  same_none (Refused why left) = refl
  same_none (Got y rest) = refl

  more_same : (left : ℕ) (ts : List Token) → made all_of (either (is_next comma) (made inl (after comma (both (effect_at l) (more left)))) (made inr b)) ts ≡ more (suc left) ts
  unfolding many_at
  more_same left ts =
      elim (is_next comma ts) as (λ c. then_read (if c then made inl (after comma (both (effect_at l) (more left))) ts else made inr b ts) (λ w rest. Got (all_of w) rest)
      ≡ then_read (if c then then_read (next_at ts) (λ x rest. with_first x (many_at (is_next comma) next_at left rest)) else Got [] ts) (λ xs rest. with_last xs (b rest))) [
        | true ↦ same_comma (many_at (is_next comma) next_at left) (expect_at comma ts)
        | false ↦ same_none (b ts)
      ]

  full_same : (ts : List Token) → made all_of (either (is_next comma) (made inl (over_at TooMany (is_next comma))) (made inr b)) ts ≡ more 0 ts
  unfolding many_at
  full_same ts =
      elim (is_next comma ts) as (λ c. then_read (if c then then_read {A = One} (if c then Refused TooMany (length ts) else unexpected ts) (λ w rest. Got (inl w) rest) else made inr b ts) (λ w rest. Got (all_of w) rest)
      ≡ then_read (if c then Refused TooMany (length ts) else Got [] ts) (λ xs rest. with_last xs (b rest))) [
        | true ↦ refl
        | false ↦ same_none (b ts)
      ]

  -- ---- the effects behind commas, from number n on

  more_reads : (left n : ℕ) → n + left ≡ suc l.most → Reads l (show_many n) ShapeMany (more left)
  more_reads zero n sum =
      same_reads l (show_many n) ShapeMany _ (more 0) full_same
      (by_one n (over_at TooMany (is_next comma))
      (over_reads l (show_first n) ShapeOne TooMany (is_next comma) (some_first n) (λ w. omega arith) (told_first n) (λ w. (omega arith, omega (arith, sum))) (first_begins n) (first_passes n)))
  more_reads (suc left) n sum =
      same_reads l (show_many n) ShapeMany _ (more (suc left)) (more_same left)
      (by_one n (after comma (both (effect_at l) (more left)))
      (element_reads l (λ (w : One). word (codes ",") ∷ (show_effect w.0 ++ show_many (suc n) w.1)) ShapeOne (after comma (both (effect_at l) (more left))) n (omega (arith, sum)) (λ w. (omega arith, refl))
      (after_reads l (λ (w : One). show_effect w.0 ++ show_many (suc n) w.1) ShapeOne (both (effect_at l) (more left)) comma tt
      (effect_then l deep (show_many (suc n)) ShapeMany (more left) (more_reads left (suc n) (omega (arith, sum))) (no_sign_many (suc n))))))

  -- ---- effects with commas between them

  abbrev show_one : One → List Mark
  show_one w = show_effect w.0 ++ show_many 1 w.1

  abbrev all_listed : B ⊎ One → Several
  all_listed (inl y) = ([], y)
  all_listed (inr w) = (w.0 ∷ w.1.0, w.1.1)

  abbrev none_or : Several → B ⊎ One
  none_or ([], y) = inl y
  none_or (x ∷ xs, y) = inr (x, (xs, y))

  back_listed : (w : B ⊎ One) → none_or (all_listed w) ≡ w
  back_listed (inl y) = refl
  back_listed (inr w) = refl

  back_several : (q : Several) → all_listed (none_or q) ≡ q
  back_several ([], y) = refl
  back_several (x ∷ xs, y) = refl

  abbrev show_listed : Several → List Mark
  show_listed q = listed show_effect q.0 ++ show2 q.1

  shown_listed : (q : Several) → show_either show2 show_one (none_or q) ≡ show_listed q
  shown_listed ([], y) = refl
  shown_listed (x ∷ xs, y) = sym (append_assoc (show_effect x) (repeated show_next 1 xs) (show2 y))

  listed_to : (q : Several) → ShapeEither Shape2 ShapeOne (none_or q) → ShapeMany q
  listed_to ([], y) h = (tt, h)
  listed_to (x ∷ xs, y) h = ((tt, h.1.0), h.1.1)

  listed_from : (q : Several) → ShapeMany q → ShapeEither Shape2 ShapeOne (none_or q)
  listed_from ([], y) h = h.1
  listed_from (x ∷ xs, y) h = (tt, (h.0.1, h.1))

  abbrev listed_some : Reading One → Reading Several
  listed_some read = let one_kind : Reading (B ⊎ One) = then_read read (λ w rest. Got (inr w) rest) in then_read one_kind (λ w rest. Got (all_listed w) rest)

  some_last : (x : Effect) (xs : List Effect) (read : Reading B) → listed_some (as_first x (with_last xs read)) ≡ with_last (x ∷ xs) read
  some_last x xs (Refused why left) = refl
  some_last x xs (Got y rest) = refl

  some_rest : (x : Effect) (read : Reading (List Effect)) → listed_some (as_first x (with_rest read)) ≡ with_rest (with_first x read)
  some_rest x (Refused why left) = refl
  some_rest x (Got xs rest) = some_last x xs (b rest)

  some_effect : (m : Reader (List Effect)) (read : Reading Effect) → listed_some (then_read read (λ x rest. as_first x (with_rest (m rest)))) ≡ with_rest (then_read read (λ x rest. with_first x (m rest)))
  some_effect m (Refused why left) = refl
  some_effect m (Got x rest) = some_rest x (m rest)

  abbrev listed_none : Reading B → Reading Several
  listed_none read = let one_kind : Reading (B ⊎ One) = then_read read (λ y rest. Got (inl y) rest) in then_read one_kind (λ w rest. Got (all_listed w) rest)

  none_same : (read : Reading B) → listed_none read ≡ with_last [] read
  none_same (Refused why left) = refl
  none_same (Got y rest) = refl

  listed_same : (close : Kind) (ts : List Token) → made all_listed (either (is_next close) (made inl b) (made inr (both (effect_at l) (more l.most)))) ts ≡ both (listed_at close (effect_at l) l.most) b ts
  unfolding listed_at
  listed_same close ts =
      elim (is_next close ts) as (λ c. then_read (if c then made inl b ts else made inr (both (effect_at l) (more l.most)) ts) (λ w rest. Got (all_listed w) rest)
      ≡ then_read (if c then Got [] ts else then_read (effect_at l ts) (λ x rest. with_first x (many_at (is_next comma) next_at l.most rest))) (λ xs rest. with_last xs (b rest))) [
        | true ↦ none_same (b ts)
        | false ↦ some_effect (many_at (is_next comma) next_at l.most) (effect_at l ts)
      ]

  some_effect_mark : (d : Effect) → 0 < length (show_effect d)
  some_effect_mark (Global x) = omega arith
  some_effect_mark (Locations p) = (place_reads l).some_mark p

  pub effects_reads : (close : Kind) → AlwaysBegins show2 Shape2 (is_next close) → NeverBegins show_effect (Always {X = Effect}) (is_next close) → Reads l show_listed ShapeMany (both (listed_at close (effect_at l) l.most) b)
  effects_reads close always apart =
      let first = effect_then l deep (show_many 1) ShapeMany (more l.most) (more_reads l.most 1 (omega arith)) (no_sign_many 1) in
      let step = either_reads l show2 Shape2 b show_one ShapeOne (both (effect_at l) (more l.most)) (is_next close) two first always
      (λ w ts kinds good goes. apart w.0 ts kinds (tt, all_left (λ m. CanBeSaid m.said) (show_effect w.0) (show_many 1 w.1) good.1) (goes_out (show_effect w.0) (show_many 1 w.1) (tokens_of ts) 1 (some_effect_mark w.0) goes)) in
      same_reads l show_listed ShapeMany _ (both (listed_at close (effect_at l) l.most) b) (listed_same close)
      (subst (λ s. Reads l s ShapeMany (made all_listed (either (is_next close) (made inl b) (made inr (both (effect_at l) (more l.most)))))) (fun_ext shown_listed)
      (named_reads l (show_either show2 show_one) (ShapeEither Shape2 ShapeOne) _ ShapeMany all_listed none_or step back_listed back_several listed_to listed_from))

not_closed : NeverBegins show_effect (Always {X = Effect}) (is_next close_brace)
not_closed (Global x) ts kinds good goes = never_begins (This close_brace ∷ []) (AName ∷ []) (show_effect (Global x)) ts refl (AName, inl refl, (x, refl)) kinds good.1 goes
not_closed (Locations p) ts kinds good goes =
    expression_never 1 (This close_brace ∷ []) refl p.region ts kinds (tt, all_left (λ m. CanBeSaid m.said) (show_expression 1 p.region) (word (codes "@") ∷ named p.field ∷ []) good.1)
    (goes_out (show_expression 1 p.region) (word (codes "@") ∷ named p.field ∷ []) (tokens_of ts) 1 (some_mark p.region) goes)
  where
    some_mark : (e : Rattle.rel_lang.specs.Syntax.Expression) → 0 < length (show_expression 1 e)
    some_mark e = (expression_reads Rattle.rel_lang.specs.Refusal.limits 1 64 refl).some_mark e

module _ (l : Limits) (deep : 0 < l.deepest) where
  no_close : (k : Kind) → are_apart (This k ∷ []) (This close_brace ∷ []) ≡ true → NeverBegins show_close Always (begins_one (This k ∷ []))
  no_close k apart = word_never (This k ∷ []) close_brace tt show_close Always apart (λ u. (This close_brace, inl refl, (tt, refl)))

  pub writes_reads : Reads l show_writes (AllByRecursion (Always {X = Effect})) (writes_at l)
  writes_reads =
      after_reads l (λ es. word (codes "{") ∷ (listed show_effect es ++ word (codes "}") ∷ [])) (AllByRecursion (Always {X = Effect})) _ (kind.Word keyword.Writes) tt
      (after_reads l (λ es. listed show_effect es ++ word (codes "}") ∷ []) (AllByRecursion (Always {X = Effect})) _ (kind.Symbol symbol.OpenBrace) tt
      (closed_reads l (listed show_effect) (AllByRecursion (Always {X = Effect})) (listed_at close_brace (effect_at l) l.most) close_brace
      (effects_reads l deep show_close Always (expect_at close_brace) (word_reads l close_brace tt) (no_close comma refl) (no_close sign refl) close_brace
      (word_always close_brace tt show_close Always (λ u. (This close_brace, inl refl, (tt, refl)))) not_closed)))
