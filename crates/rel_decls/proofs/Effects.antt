-- An effect is read exactly before what doesn't begin with `@`.
use Rattle.std.proofs.Common.{◌≡◌, ℕ, zero, suc, ◌+◌, ◌<◌, ◌≤◌, Bool, true, false, not, ◌&&◌, List, [], ◌∷◌, ◌++◌, length, ◌⊎◌, inl, inr, refl, sym, ap, subst, arith}
use Rattle.std.specs.Prelude.{codes, if◌then◌else◌}
use Rattle.std.proofs.lemmas.List.{length-append}
use Rattle.rel_lang.specs.Syntax.{Word, Expression, Var, Num, Null, Empty, Alloc, Add, Sub, Mul, Field, Single, Union, Meet, Minus, Image as ImageOf, Filter, Old, Place, Effect, Global, Locations}
use Rattle.rel_lang.specs.Text.{Mark, CanBeSaid, word, named, show_expression, show_place, show_effect}
use Rattle.rel_lang.specs.Refusal.{Limits, GoesOn, AreWithin, Reason, Unexpected, TooDeep, TooMany, IsOverAt}
use Rattle.rel_lexer.specs.declared.Token.{Token}
use Rattle.rel_lexer.specs.Tokens.{tokens_of}
use Rattle.rel_lexer.specs.declared.Kind.{Kind}
use Rattle.rel_lexer.specs.declared.Kind.TheVariants as kind
use Rattle.rel_lexer.specs.declared.keywords.Keyword.TheVariants as keyword
use Rattle.rel_lexer.specs.declared.symbols.Symbol.TheVariants as symbol
use Rattle.rel_parse.specs.Reading.{Reading, Got, Refused, Reader, then_read, is_next, is_name_kind, name_at, made, both, either}
use Rattle.rel_parse.specs.Firsts.{First, AName, ANumber, This}
use Rattle.rel_parse.proofs.Laws.{HaveKinds, Spelled, Good, AllWithin, Refuses, Reads, Always, NeverBegins, AreTold, name_reads, both_reads, same_reads}
use Rattle.rel_parse.proofs.Along.{all_left, kinds_behind, spelled_length, goes_less, goes_out, told_join}
use Rattle.rel_parse.proofs.Both.{bind_got, bind_refused, got_is, got_not_refused}
use Rattle.rel_parse.proofs.Single.{clash, fixed_is}
use Rattle.rel_parse.proofs.Firsts.{BeginsAs, always_begins, never_begins}
use Rattle.rel_decls.specs.Specifications.{is_variable_next, place_at, effect_at}
use Rattle.rel_decls.proofs.Specifications.{place_reads}

abbrev pub sign : Kind
sign = kind.Symbol symbol.At

-- with what an expression begins that isn't a variable
abbrev other_firsts : List First
other_firsts =
    ANumber ∷ This (kind.Word keyword.Null) ∷ This (kind.Word keyword.Empty) ∷ This (kind.Word keyword.Alloc) ∷ This (kind.Symbol symbol.OpenBrace) ∷ This (kind.Word keyword.Old)
    ∷ This (kind.Symbol symbol.OpenParenthesis) ∷ []

abbrev parenthesis : BeginsAs other_firsts (word (codes "(") ∷ [])
parenthesis = (This (kind.Symbol symbol.OpenParenthesis), inr (inr (inr (inr (inr (inr (inl refl)))))), (tt, refl))

is_variable : (e : Expression) (ms : List Mark) → ((x : Word) × (e ≡ Var x)) ⊎ BeginsAs other_firsts (show_expression 1 e ++ ms)
is_variable (Var x) ms = inl (x, refl)
is_variable (Num n) ms = inr (ANumber, inl refl, (n, refl))
is_variable Null ms = inr (This (kind.Word keyword.Null), inr (inl refl), (tt, refl))
is_variable Empty ms = inr (This (kind.Word keyword.Empty), inr (inr (inl refl)), (tt, refl))
is_variable Alloc ms = inr (This (kind.Word keyword.Alloc), inr (inr (inr (inl refl))), (tt, refl))
is_variable (Single a) ms = inr (This (kind.Symbol symbol.OpenBrace), inr (inr (inr (inr (inl refl)))), (tt, refl))
is_variable (Old a) ms = inr (This (kind.Word keyword.Old), inr (inr (inr (inr (inr (inl refl))))), (tt, refl))
is_variable (Add a b) ms = inr (This (kind.Symbol symbol.OpenParenthesis), parenthesis.1, (tt, refl))
is_variable (Sub a b) ms = inr (This (kind.Symbol symbol.OpenParenthesis), parenthesis.1, (tt, refl))
is_variable (Mul n a) ms = inr (This (kind.Symbol symbol.OpenParenthesis), parenthesis.1, (tt, refl))
is_variable (Field a f) ms = inr (This (kind.Symbol symbol.OpenParenthesis), parenthesis.1, (tt, refl))
is_variable (Union a b) ms = inr (This (kind.Symbol symbol.OpenParenthesis), parenthesis.1, (tt, refl))
is_variable (Meet a b) ms = inr (This (kind.Symbol symbol.OpenParenthesis), parenthesis.1, (tt, refl))
is_variable (Minus a b) ms = inr (This (kind.Symbol symbol.OpenParenthesis), parenthesis.1, (tt, refl))
is_variable (ImageOf a f) ms = inr (This (kind.Symbol symbol.OpenParenthesis), parenthesis.1, (tt, refl))
is_variable (Filter a c) ms = inr (This (kind.Symbol symbol.OpenParenthesis), parenthesis.1, (tt, refl))

and_false : (a : Bool) → (a && false) ≡ false
and_false true = refl
and_false false = refl

name_kind : (a : Bool) (b : Bool) → (a && b) ≡ true → a ≡ true
name_kind true b e = refl
name_kind false b e = absurd cc

when : {A : Type 0} (b : Bool) (x y z : Reading A) → b ≡ true → (if b then x else y) ≡ z → x ≡ z
when true x y z e h = h
when false x y z e h = absurd cc

unless : {A : Type 0} (b : Bool) (x y z : Reading A) → b ≡ false → (if b then x else y) ≡ z → y ≡ z
unless true x y z e h = absurd cc
unless false x y z e h = h

module _ (l : Limits) (deep : 0 < l.deepest) {B : Type 0} (show2 : B → List Mark) (Shape2 : B → Type 0) (b : Reader B) (two : Reads l show2 Shape2 b) (never : NeverBegins show2 Shape2 (is_next sign)) where
  abbrev show_then : Effect × B → List Mark
  show_then q = show_effect q.0 ++ show2 q.1

  abbrev ShapeThen : Effect × B → Type 0
  ShapeThen q = Always q.0 × Shape2 q.1

  abbrev show_name_then : Word × B → List Mark
  show_name_then q = named q.0 ∷ show2 q.1

  abbrev show_place_then : Place × B → List Mark
  show_place_then q = show_place q.0 ++ show2 q.1

  name_then : Reads l show_name_then (λ q. Always q.0 × Shape2 q.1) (both name_at b)
  name_then = both_reads l (λ x. named x ∷ []) Always name_at show2 Shape2 b (name_reads l) two

  place_then : Reads l show_place_then (λ q. Always q.0 × Shape2 q.1) (both (place_at l) b)
  place_then = both_reads l show_place Always (place_at l) show2 Shape2 b (place_reads l) two

  -- ---- the two are told apart by two tokens

  variable_next : (x : Word) (y : B) (ts : List Token) → HaveKinds ts → Good show_name_then (λ q. Always q.0 × Shape2 q.1) (x, y) → GoesOn 2 (show_name_then (x, y)) (tokens_of ts) → is_variable_next ts ≡ true
  variable_next x y [] kinds good goes = absurd goes
  variable_next x y (t ∷ ts) kinds good goes =
      let name = always_begins (AName ∷ []) (show_name_then (x, y)) (t ∷ ts) (AName, inl refl, (x, refl)) kinds good.1 (goes.0, goes.1, goes.2, tt) in
      let second = never y ts kinds.1 (good.0.1, good.1.1) goes.3 in
      rw (name, second) refl

  second_sign : (f : Word) (ms : List Mark) (ts : List Token) → HaveKinds ts → GoesOn 1 (word (codes "@") ∷ named f ∷ ms) (tokens_of ts) → is_next sign ts ≡ true
  second_sign f ms [] kinds goes = absurd goes
  second_sign f ms (t ∷ ts) kinds goes = fixed_is t sign tt kinds.0 goes.0

  no_variable_by : (x : Word) (f : Word) (y : B) (ts : List Token) → HaveKinds ts → GoesOn 2 (show_place_then (record { region = Var x; field = f }, y)) (tokens_of ts) → is_variable_next ts ≡ false
  no_variable_by x f y [] kinds goes = absurd goes
  no_variable_by x f y (t ∷ ts) kinds goes = rw (second_sign f (show2 y) ts kinds.1 goes.3) (and_false (is_name_kind t.kind))

  no_variable : (p : Place) (y : B) (ts : List Token) → HaveKinds ts → Good show_place_then (λ q. Always q.0 × Shape2 q.1) (p, y) → GoesOn 2 (show_place_then (p, y)) (tokens_of ts) → is_variable_next ts ≡ false
  no_variable p y ts kinds good goes =
      elim (is_variable p.region (word (codes "@") ∷ named p.field ∷ [])) [
        | inl v ↦ no_variable_by v.0 p.field y ts kinds (subst (λ e. GoesOn 2 (show_place_then (record { region = e; field = p.field }, y)) (tokens_of ts)) v.1 goes)
        | inr f ↦
            let said = all_left (λ m. CanBeSaid m.said) (show_place p) (show2 y) good.1 in
            let enough = (place_reads l).some_mark p in
            let none = never_begins (AName ∷ []) other_firsts (show_place p) ts refl f kinds said (goes_out (show_place p) (show2 y) (tokens_of ts) 1 enough (goes_less (show_place p ++ show2 y) (tokens_of ts) 1 2 (omega arith) goes)) in
            rw none refl
      ]

  -- ---- one of the two, by the two tokens

  abbrev global_of : Word × B → Effect × B
  global_of q = (Global q.0, q.1)

  abbrev locations_of : Place × B → Effect × B
  locations_of q = (Locations q.0, q.1)

  abbrev chosen : Reader (Effect × B)
  chosen = either is_variable_next (made global_of (both name_at b)) (made locations_of (both (place_at l) b))

  abbrev with_rest : {A : Type 0} → A → Reading B → Reading (A × B)
  with_rest x read = then_read read (λ y after. Got (x, y) after)

  last_same : {A : Type 0} (f : A → Effect) (x : A) (read : Reading B) → then_read (with_rest x read) (λ q after. Got (f q.0, q.1) after) ≡ with_rest (f x) read
  last_same f x (Got y after) = refl
  last_same f x (Refused why left) = refl

  regroup : {A : Type 0} (f : A → Effect) (read : Reading A) → then_read (then_read read (λ x rest. with_rest x (b rest))) (λ q after. Got (f q.0, q.1) after) ≡ then_read (then_read read (λ x rest. Got (f x) rest)) (λ e rest. with_rest e (b rest))
  regroup f (Got x rest) = last_same f x (b rest)
  regroup f (Refused why left) = refl

  chosen_same : (ts : List Token) → chosen ts ≡ both (effect_at l) b ts
  unfolding effect_at
  chosen_same ts =
      elim (is_variable_next ts) as (λ v. (if v then made global_of (both name_at b) ts else made locations_of (both (place_at l) b) ts) ≡ then_read (if v then made Global name_at ts else made Locations (place_at l) ts) (λ e rest. with_rest e (b rest))) [
        | true ↦ regroup Global (name_at ts)
        | false ↦ regroup Locations (place_at l ts)
      ]

  long_name : (a : Word) (u : B) → 2 ≤ length (show_name_then (a, u))
  long_name a u = let some = two.some_mark u in omega (arith, some)

  long_place : (p : Place) (u : B) → 2 ≤ length (show_place_then (p, u))
  long_place p u =
      let len = length-append (show_place p) (show2 u) in
      let one = (place_reads l).some_mark p in
      let some = two.some_mark u in
      omega (arith, len, one, some)

  differ : (a : Word) (u : B) (p : Place) (v : B) (ts : List Token) (n : ℕ) → 2 ≤ n → HaveKinds ts → Good show_then ShapeThen (Global a, u) → Good show_then ShapeThen (Locations p, v)
      → GoesOn n (show_then (Global a, u)) (tokens_of ts) → GoesOn n (show_then (Locations p, v)) (tokens_of ts) → ⊥
  differ a u p v ts n long kinds good good2 goes goes2 =
      clash (is_variable_next ts) (variable_next a u ts kinds good (goes_less (show_name_then (a, u)) (tokens_of ts) 2 n long goes)) (no_variable p v ts kinds good2 (goes_less (show_place_then (p, v)) (tokens_of ts) 2 n long goes2))

  sole_by : (d : Effect) (u : B) (e : Effect) (v : B) (ts : List Token) (n : ℕ) → HaveKinds ts → Good show_then ShapeThen (d, u) → Good show_then ShapeThen (e, v) → (length (show_then (d, u)) ≤ n) ⊎ (length (show_then (e, v)) ≤ n)
      → AreWithin l n (show_then (d, u)) → GoesOn n (show_then (d, u)) (tokens_of ts) → GoesOn n (show_then (e, v)) (tokens_of ts) → ◌≡◌ {A = Effect × B} (e, v) (d, u)
  sole_by (Global a) u (Global c) v ts n kinds good good2 le within goes goes2 = ap global_of (name_then.sole (a, u) good (c, v) ts n kinds good2 le within goes goes2)
  sole_by (Locations p) u (Locations q) v ts n kinds good good2 le within goes goes2 = ap locations_of (place_then.sole (p, u) good (q, v) ts n kinds good2 le within goes goes2)
  sole_by (Global a) u (Locations q) v ts n kinds good good2 le within goes goes2 =
      let one = long_name a u in
      let other = long_place q v in
      let long : 2 ≤ n = elim le [ inl h ↦ omega (arith, h, one) | inr h ↦ omega (arith, h, other) ] in
      absurd (differ a u q v ts n long kinds good good2 goes goes2)
  sole_by (Locations p) u (Global c) v ts n kinds good good2 le within goes goes2 =
      let one = long_place p u in
      let other = long_name c v in
      let long : 2 ≤ n = elim le [ inl h ↦ omega (arith, h, one) | inr h ↦ omega (arith, h, other) ] in
      absurd (differ c v p u ts n long kinds good2 good goes2 goes)

  abbrev FoundThen : List Token → List Token → Effect × B → Type 0
  FoundThen ts rest x = Spelled (show_then x) ts rest × Good show_then ShapeThen x × AllWithin l show_then ShapeThen x

  found_by : (v : Bool) (ts rest : List Token) (x : Effect × B) → HaveKinds ts → is_variable_next ts ≡ v → chosen ts ≡ Got x rest → FoundThen ts rest x
  found_by true ts rest x kinds e h =
      let m = bind_got (both name_at b ts) (λ q after. Got (global_of q) after) x rest (when (is_variable_next ts) (made global_of (both name_at b) ts) (made locations_of (both (place_at l) b) ts) (Got x rest) e h) in
      let g : FoundThen ts m.1 (global_of m.0) = name_then.found ts m.1 m.0 kinds m.2 in
      let s = got_is m.3 in
      subst (FoundThen ts rest) s.0 (subst (λ us. FoundThen ts us (global_of m.0)) s.1 g)
  found_by false ts rest x kinds e h =
      let m = bind_got (both (place_at l) b ts) (λ q after. Got (locations_of q) after) x rest (unless (is_variable_next ts) (made global_of (both name_at b) ts) (made locations_of (both (place_at l) b) ts) (Got x rest) e h) in
      let g : FoundThen ts m.1 (locations_of m.0) = place_then.found ts m.1 m.0 kinds m.2 in
      let s = got_is m.3 in
      subst (FoundThen ts rest) s.0 (subst (λ us. FoundThen ts us (locations_of m.0)) s.1 g)

  -- a name is read where one comes next
  name_passes : (ts : List Token) (why : Reason) (left : ℕ) → HaveKinds ts → is_variable_next ts ≡ true → both name_at b ts ≡ Refused why left → 1 + left ≤ length ts
  name_passes [] why left kinds e h = absurd cc
  name_passes (t ∷ ts) why left kinds e h =
      elim (bind_refused (name_at (t ∷ ts)) (λ x rest. with_rest x (b rest)) why left h) [
        | inl refused ↦ absurd (got_not_refused (when (is_name_kind t.kind) (Got t.text.now ts) (Refused Unexpected (length (t ∷ ts))) (Refused why left) (name_kind (is_name_kind t.kind) (not (is_next sign ts)) e) refused))
        | inr s ↦
            let f = (name_reads l).found (t ∷ ts) s.1 s.0 kinds s.2 in
            let len = spelled_length (named s.0 ∷ []) (t ∷ ts) s.1 f.0 in
            let mid = kinds_behind (named s.0 ∷ []) (t ∷ ts) s.1 kinds f.0 in
            elim (bind_refused (b s.1) (λ y after. Got (s.0, y) after) why left s.3) [
              | inl k ↦ let r = (two.refused s.1 why left mid k).behind in omega (arith, r, len)
              | inr g ↦ absurd (got_not_refused g.3)
            ]
      ]

  -- an expression that is no deeper than the first may begin
  not_over : (why : Reason) (a : Word) (y : B) → IsOverAt l why 0 (show_place_then (record { region = Var a; field = a }, y)) → ⊥
  not_over Unexpected a y h = h
  not_over TooDeep a y h = omega (arith, h, deep)
  not_over TooMany a y h = omega (arith, h.1)

  goes_as : (a : Word) (y : B) (ts : List Token) → GoesOn 1 (show_then (Global a, y)) (tokens_of ts) → GoesOn 1 (show_place_then (record { region = Var a; field = a }, y)) (tokens_of ts)
  goes_as a y [] goes = absurd goes
  goes_as a y (t ∷ ts) goes = (goes.0, goes.1, goes.2, tt)

  refused_by : (v : Bool) (ts : List Token) (why : Reason) (left : ℕ) → HaveKinds ts → is_variable_next ts ≡ v → chosen ts ≡ Refused why left → Refuses l show_then ShapeThen why left ts
  refused_by true ts why left kinds e h =
      elim (bind_refused (both name_at b ts) (λ q after. Got (global_of q) after) why left (when (is_variable_next ts) (made global_of (both name_at b) ts) (made locations_of (both (place_at l) b) ts) (Refused why left) e h)) [
        | inl k ↦
            let g = name_then.refused ts why left kinds k in
            let passes = name_passes ts why left kinds e k in
            let some : 2 ≤ suc g.passed = omega (arith, g.behind, passes) in
            record {
              passed = g.passed;
              behind = g.behind;
              begun = (global_of g.begun.0, g.begun.1, g.begun.2, g.begun.3, g.begun.4);
              stuck = λ z good goes. stuck_name g some z.0 z.1 good goes;
            }
        | inr s ↦ absurd (got_not_refused s.3)
      ]
    where
      stuck_name : (g : Refuses l show_name_then (λ q. Always q.0 × Shape2 q.1) why left ts) → 2 ≤ suc g.passed → (d : Effect) (y : B) → Good show_then ShapeThen (d, y) → GoesOn (suc g.passed) (show_then (d, y)) (tokens_of ts) → IsOverAt l why g.passed (show_then (d, y))
      stuck_name g some (Global a) y good goes = g.stuck (a, y) good goes
      stuck_name g some (Locations p) y good goes = absurd (clash (is_variable_next ts) e (no_variable p y ts kinds good (goes_less (show_place_then (p, y)) (tokens_of ts) 2 (suc g.passed) some goes)))
  refused_by false ts why left kinds e h =
      elim (bind_refused (both (place_at l) b ts) (λ q after. Got (locations_of q) after) why left (unless (is_variable_next ts) (made global_of (both name_at b) ts) (made locations_of (both (place_at l) b) ts) (Refused why left) e h)) [
        | inl k ↦
            let g = place_then.refused ts why left kinds k in
            record {
              passed = g.passed;
              behind = g.behind;
              begun = (locations_of g.begun.0, g.begun.1, g.begun.2, g.begun.3, g.begun.4);
              stuck = λ z good goes. stuck_place g g.passed refl z.0 z.1 good goes;
            }
        | inr s ↦ absurd (got_not_refused s.3)
      ]
    where
      stuck_place : (g : Refuses l show_place_then (λ q. Always q.0 × Shape2 q.1) why left ts) (n : ℕ) → g.passed ≡ n → (d : Effect) (y : B) → Good show_then ShapeThen (d, y) → GoesOn (suc g.passed) (show_then (d, y)) (tokens_of ts) → IsOverAt l why g.passed (show_then (d, y))
      stuck_place g n same (Locations p) y good goes = g.stuck (p, y) good goes
      stuck_place g zero same (Global a) y good goes =
          absurd (not_over why a y (subst (λ n. IsOverAt l why n (show_place_then (record { region = Var a; field = a }, y))) same
          (g.stuck (record { region = Var a; field = a }, y) (good.0, (good.1.0, (tt, (good.1.0, good.1.1))))
          (subst (λ n. GoesOn (suc n) (show_place_then (record { region = Var a; field = a }, y)) (tokens_of ts)) (sym same) (goes_as a y ts (subst (λ n. GoesOn (suc n) (show_then (Global a, y)) (tokens_of ts)) same goes))))))
      stuck_place g (suc n) same (Global a) y good goes =
          let some : 2 ≤ suc g.passed = omega (arith, same) in
          absurd (clash (is_variable_next ts) (variable_next a y ts kinds good (goes_less (show_name_then (a, y)) (tokens_of ts) 2 (suc g.passed) some goes)) e)

  pub told_effect : (d : Effect) → AreTold (show_effect d)
  told_effect (Global a) = (tt, tt)
  told_effect (Locations p) = (place_reads l).told p

  pub effect_then : Reads l show_then ShapeThen (both (effect_at l) b)
  effect_then =
      same_reads l show_then ShapeThen chosen (both (effect_at l) b) chosen_same (record {
        one = (global_of name_then.one.0, name_then.one.1);
        some_mark = λ q. let len = length-append (show_effect q.0) (show2 q.1) in let some = two.some_mark q.1 in omega (arith, len, some);
        told = λ q. told_join (show_effect q.0) (show2 q.1) (told_effect q.0) (two.told q.1);
        sole = λ x good y ts n kinds good2 le within goes goes2. sole_by x.0 x.1 y.0 y.1 ts n kinds good good2 le within goes goes2;
        found = λ ts rest x kinds h. found_by (is_variable_next ts) ts rest x kinds refl h;
        refused = λ ts why left kinds h. refused_by (is_variable_next ts) ts why left kinds refl h;
      })
