-- An expression's reader is exact.
use Rattle.std.proofs.Common.{◌≡◌, ℕ, zero, suc, ◌+◌, ◌<◌, ◌≤◌, Bool, true, false, ◌||◌, List, [], ◌∷◌, ◌++◌, length, ℤ, Some, ◌⊎◌, inl, inr, refl, sym, ap, subst, ◌∙◌, arith}
use Rattle.std.proofs.lemmas.Bool.{and_parts, and_from, and_left, and_right, or_cases}
use Rattle.std.proofs.Math.Path.{fun_ext, ap₂}
use Rattle.std.specs.Prelude.{codes, if◌then◌else◌}
use Rattle.std.proofs.lemmas.List.{length-append, append-nil}
use Rattle.rel_lang.specs.Syntax.{Word, Expression, Var, Num, Null, Empty, Alloc, Add, Sub, Mul, Field, Single, Union, Meet, Minus, Image as Imaged, Filter, Old}
use Rattle.rel_lang.specs.Text.{Fixed, Mark, word, named, literally, tree, operation, show_expression}
use Rattle.rel_lang.specs.Refusal.{Limits, GoesOn, IsBefore, Reason}
use Rattle.rel_lexer.specs.declared.Token.{Token}
use Rattle.rel_lexer.specs.Tokens.{tokens_of}
use Rattle.rel_lexer.specs.declared.Kind.{Kind}
use Rattle.rel_lexer.specs.declared.Kind.TheVariants as kind
use Rattle.rel_lexer.specs.declared.keywords.Keyword.TheVariants as keyword
use Rattle.rel_lexer.specs.declared.symbols.Symbol.TheVariants as symbol
use Rattle.rel_parse.specs.declared.expr.Operator.{Operator}
use Rattle.rel_parse.specs.declared.expr.Operator.TheVariants as operator
use Rattle.rel_parse.specs.declared.expr.Selector.{Selector}
use Rattle.rel_parse.specs.declared.expr.Selector.TheVariants as selector
use Rattle.rel_parse.specs.Reading.{Reading, Got, Refused, Reader, then_read, unexpected, same_fixed, is_number_kind, is_name_kind, number_of, is_next, is_second, is_number_next, name_at, literal_at, made, both, after, before, either, too_deep_at}
use Rattle.rel_parse.specs.Firsts.{First, AName, ANumber, This, begins_one}
use Rattle.rel_parse.specs.Expressions.{expression_firsts, begins_expression, operator_at, selector_firsts, selector_at, combined, selected, Operation, operated, operation_at, is_factor, product_at, operated_at, parenthesized_at, expression_from, expression_at}
use Rattle.rel_parse.proofs.Laws.{HaveKinds, CanAllBeSaid, AreTold, Good, Reads, Always, NeverBegins, AlwaysBegins, SomeBegins, fixed_text, IsFixed, show_either, ShapeEither, name_reads, literal_reads, both_reads, after_reads, before_reads, told_reads, too_deep_reads}
use Rattle.rel_parse.proofs.Firsts.{BeginsAs, Part, Image, choose_of, meaning, meaning_at, production, leveled, whole, always_begins, never_begins, are_apart, among_front, among_back, some_mark, number_said, kind_said, number_of_kind, name_of_kind, fixed_of_kind, told_append}
use Rattle.rel_parse.proofs.Told.{told_first, told_first_reads, Tells, only, either_twice, if_taken}
use Rattle.rel_parse.proofs.Renamed.{made_made, made_after, made_before, made_either}

-- ---- operators and selectors

abbrev pub operator_text : Operator → Word
operator_text operator.Add = codes "+"
operator_text operator.Sub = codes "-"
operator_text operator.Union = codes "union"
operator_text operator.Meet = codes "meet"
operator_text operator.Minus = codes "minus"

abbrev show_operator : Operator → List Mark
show_operator o = word (operator_text o) ∷ []

abbrev pub selector_text : Selector → Word
selector_text selector.Field = codes "."
selector_text selector.Image = codes "@"
selector_text selector.Filter = codes "of"

abbrev show_selector : Selector → List Mark
show_selector s = word (selector_text s) ∷ []

abbrev operator_firsts : List First
operator_firsts = This (kind.Symbol symbol.Plus) ∷ This (kind.Symbol symbol.Minus) ∷ This (kind.Word keyword.Union) ∷ This (kind.Word keyword.Meet) ∷ This (kind.Word keyword.Minus) ∷ []

begins_operator : (o : Operator) (ms : List Mark) → BeginsAs operator_firsts (word (operator_text o) ∷ ms)
begins_operator operator.Add ms = (This (kind.Symbol symbol.Plus), inl refl, (tt, refl))
begins_operator operator.Sub ms = (This (kind.Symbol symbol.Minus), inr (inl refl), (tt, refl))
begins_operator operator.Union ms = (This (kind.Word keyword.Union), inr (inr (inl refl)), (tt, refl))
begins_operator operator.Meet ms = (This (kind.Word keyword.Meet), inr (inr (inr (inl refl))), (tt, refl))
begins_operator operator.Minus ms = (This (kind.Word keyword.Minus), inr (inr (inr (inr (inl refl)))), (tt, refl))

begins_selector : (s : Selector) (ms : List Mark) → BeginsAs selector_firsts (word (selector_text s) ∷ ms)
begins_selector selector.Field ms = (This (kind.Symbol symbol.Dot), inl refl, (tt, refl))
begins_selector selector.Image ms = (This (kind.Symbol symbol.At), inr (inl refl), (tt, refl))
begins_selector selector.Filter ms = (This (kind.Word keyword.Of), inr (inr (inl refl)), (tt, refl))

abbrev pub Any : {X : Type 0} → X → X → Type 0
Any x = Image (λ (u : Unit {0}). x) Always

module _ (l : Limits) where
  operator_reads : Reads l show_operator Always operator_at
  operator_reads =
      whole l show_operator _ _ _
      (choose_of (meaning l show_operator (kind.Symbol symbol.Plus) tt operator.Add refl)
      (choose_of (meaning l show_operator (kind.Symbol symbol.Minus) tt operator.Sub refl)
      (choose_of (meaning l show_operator (kind.Word keyword.Union) tt operator.Union refl)
      (choose_of (meaning l show_operator (kind.Word keyword.Meet) tt operator.Meet refl)
      (meaning l show_operator (kind.Word keyword.Minus) tt operator.Minus refl) refl) refl) refl) refl)
      total (λ o. omega arith) (λ o. (tt, tt))
    where
      total : (o : Operator) → Any operator.Add o ⊎ (Any operator.Sub o ⊎ (Any operator.Union o ⊎ (Any operator.Meet o ⊎ Any operator.Minus o)))
      total operator.Add = inl (tt, refl, tt)
      total operator.Sub = inr (inl (tt, refl, tt))
      total operator.Union = inr (inr (inl (tt, refl, tt)))
      total operator.Meet = inr (inr (inr (inl (tt, refl, tt))))
      total operator.Minus = inr (inr (inr (inr (tt, refl, tt))))

  selector_reads : Reads l show_selector Always selector_at
  selector_reads =
      whole l show_selector _ _ _
      (choose_of (meaning l show_selector (kind.Symbol symbol.Dot) tt selector.Field refl)
      (choose_of (meaning l show_selector (kind.Symbol symbol.At) tt selector.Image refl)
      (meaning l show_selector (kind.Word keyword.Of) tt selector.Filter refl) refl) refl)
      total (λ o. omega arith) (λ o. (tt, tt))
    where
      total : (s : Selector) → Any selector.Field s ⊎ (Any selector.Image s ⊎ Any selector.Filter s)
      total selector.Field = inl (tt, refl, tt)
      total selector.Image = inr (inl (tt, refl, tt))
      total selector.Filter = inr (inr (tt, refl, tt))

-- ---- what expressions begin with, and that their marks are told

abbrev other_firsts : List First
other_firsts =
    AName ∷ This (kind.Word keyword.Null) ∷ This (kind.Word keyword.Empty) ∷ This (kind.Word keyword.Alloc)
    ∷ This (kind.Symbol symbol.OpenBrace) ∷ This (kind.Word keyword.Old) ∷ This (kind.Symbol symbol.OpenParenthesis) ∷ []

opens : (m : Mark) (ms : List Mark) → m.said ≡ Fixed (codes "(") → BeginsAs other_firsts (m ∷ ms)
opens m ms e = (This (kind.Symbol symbol.OpenParenthesis), inr (inr (inr (inr (inr (inr (inl refl)))))), (tt, e))

-- a number, or one that begins otherwise
number_or : (d : ℕ) (x : Expression) (ms : List Mark) → ((n : ℤ) × (x ≡ Num n)) ⊎ BeginsAs other_firsts (show_expression d x ++ ms)
number_or d (Var x) ms = inr (AName, inl refl, (x, refl))
number_or d (Num n) ms = inl (n, refl)
number_or d Null ms = inr (This (kind.Word keyword.Null), inr (inl refl), (tt, refl))
number_or d Empty ms = inr (This (kind.Word keyword.Empty), inr (inr (inl refl)), (tt, refl))
number_or d Alloc ms = inr (This (kind.Word keyword.Alloc), inr (inr (inr (inl refl))), (tt, refl))
number_or d (Single a) ms = inr (This (kind.Symbol symbol.OpenBrace), inr (inr (inr (inr (inl refl)))), (tt, refl))
number_or d (Old a) ms = inr (This (kind.Word keyword.Old), inr (inr (inr (inr (inr (inl refl))))), (tt, refl))
number_or d (Add a b) ms = inr (opens _ _ refl)
number_or d (Sub a b) ms = inr (opens _ _ refl)
number_or d (Mul n a) ms = inr (opens _ _ refl)
number_or d (Field a f) ms = inr (opens _ _ refl)
number_or d (Union a b) ms = inr (opens _ _ refl)
number_or d (Meet a b) ms = inr (opens _ _ refl)
number_or d (Minus a b) ms = inr (opens _ _ refl)
number_or d (Imaged a f) ms = inr (opens _ _ refl)
number_or d (Filter a c) ms = inr (opens _ _ refl)

pub expression_begins : (d : ℕ) (x : Expression) (ms : List Mark) → BeginsAs expression_firsts (show_expression d x ++ ms)
expression_begins d x ms = elim (number_or d x ms) [
  | inl n ↦ subst (λ y. BeginsAs expression_firsts (show_expression d y ++ ms)) (sym n.1) (ANumber, inl refl, (n.0, refl))
  | inr b ↦ (b.0, inr b.1, b.2)
]

pub some_expression_mark : (d : ℕ) (x : Expression) → 0 < length (show_expression d x)
some_expression_mark d x = let b = subst (BeginsAs expression_firsts) (append-nil (show_expression d x)) (expression_begins d x []) in some_mark expression_firsts (show_expression d x) b

pub told_operation : (a b : List Mark) (w : Word) → AreTold a → AreTold b → AreTold (operation a w b)
told_operation a b w one two = (tt, told_append (a ++ word w ∷ b) (word (codes ")") ∷ []) (told_append a (word w ∷ b) one (tt, two)) (tt, tt))

pub told_expression : (d : ℕ) (x : Expression) → AreTold (show_expression d x)
told_expression d (Var x) = (tt, tt)
told_expression d (Num n) = (tt, tt)
told_expression d Null = (tt, tt)
told_expression d Empty = (tt, tt)
told_expression d Alloc = (tt, tt)
told_expression d (Add a b) = told_operation (show_expression (suc d) a) (show_expression (suc d) b) (codes "+") (told_expression (suc d) a) (told_expression (suc d) b)
told_expression d (Sub a b) = told_operation (show_expression (suc d) a) (show_expression (suc d) b) (codes "-") (told_expression (suc d) a) (told_expression (suc d) b)
told_expression d (Mul n a) = (tt, (refl, (tt, told_append (show_expression (suc d) a) (word (codes ")") ∷ []) (told_expression (suc d) a) (tt, tt))))
told_expression d (Field a f) = told_operation (show_expression (suc d) a) (named f ∷ []) (codes ".") (told_expression (suc d) a) (tt, tt)
told_expression d (Single a) = (tt, told_append (show_expression (suc d) a) (word (codes "}") ∷ []) (told_expression (suc d) a) (tt, tt))
told_expression d (Union a b) = told_operation (show_expression (suc d) a) (show_expression (suc d) b) (codes "union") (told_expression (suc d) a) (told_expression (suc d) b)
told_expression d (Meet a b) = told_operation (show_expression (suc d) a) (show_expression (suc d) b) (codes "meet") (told_expression (suc d) a) (told_expression (suc d) b)
told_expression d (Minus a b) = told_operation (show_expression (suc d) a) (show_expression (suc d) b) (codes "minus") (told_expression (suc d) a) (told_expression (suc d) b)
told_expression d (Imaged a f) = told_operation (show_expression (suc d) a) (named f ∷ []) (codes "@") (told_expression (suc d) a) (tt, tt)
told_expression d (Filter a c) = told_operation (show_expression (suc d) a) (named c ∷ []) (codes "of") (told_expression (suc d) a) (tt, tt)
told_expression d (Old a) = (tt, (tt, told_append (show_expression (suc d) a) (word (codes ")") ∷ []) (told_expression (suc d) a) (tt, tt)))

leveled_again : (d : ℕ) (x : Expression) → tree d (show_expression d x) ≡ show_expression d x
leveled_again d (Var x) = refl
leveled_again d _ = refl

selected_marks : (d : ℕ) (s : Selector) (a : Expression) (f : Word) → show_expression d (selected s a f) ≡ tree d (operation (show_expression (suc d) a) (selector_text s) (named f ∷ []))
selected_marks d selector.Field a f = refl
selected_marks d selector.Image a f = refl
selected_marks d selector.Filter a f = refl

combined_marks : (d : ℕ) (o : Operator) (a b : Expression) → show_expression d (combined o a b) ≡ tree d (operation (show_expression (suc d) a) (operator_text o) (show_expression (suc d) b))
combined_marks d operator.Add a b = refl
combined_marks d operator.Sub a b = refl
combined_marks d operator.Union a b = refl
combined_marks d operator.Meet a b = refl
combined_marks d operator.Minus a b = refl

-- ---- one level

abbrev Inside : Type 0
Inside = (ℤ × Expression) ⊎ (Expression × Operation)

abbrev inside : Inside → Expression
inside (inl m) = Mul m.0 m.1
inside (inr o) = operated o.0 o.1

refused_through : {A B : Type 0} (f : A → B) (read : Reading A) (why : Reason) (left : ℕ) → then_read read (λ y behind. Got (f y) behind) ≡ Refused why left → read ≡ Refused why left
refused_through f (Got y behind) why left e = absurd cc
refused_through f (Refused v n) why left e = let one : v ≡ why = cc in let two : n ≡ left = cc in ap (λ u. Refused u n) one ∙ ap (Refused why) two

module _ (l : Limits) (d : ℕ) (le : d ≤ l.deepest) (operand : Reader Expression) (below : Reads l (show_expression (suc d)) Always operand) where
  abbrev show_operation : Operation → List Mark
  show_operation (inl s) = word (selector_text s.0) ∷ named s.1 ∷ []
  show_operation (inr o) = word (operator_text o.0) ∷ show_expression (suc d) o.1

  operation_begins : (o : Operation) → BeginsAs (selector_firsts ++ operator_firsts) (show_operation o)
  operation_begins (inl s) = let b = begins_selector s.0 (named s.1 ∷ []) in (b.0, among_front selector_firsts operator_firsts b.0 b.1, b.2)
  operation_begins (inr o) = let b = begins_operator o.0 (show_expression (suc d) o.1) in (b.0, among_back selector_firsts operator_firsts b.0 b.1, b.2)

  operation_told : (o : Operation) → AreTold (show_operation o)
  operation_told (inl s) = (tt, (tt, tt))
  operation_told (inr o) = (tt, told_expression (suc d) o.1)

  operation_reads : Reads l show_operation Always (operation_at operand)
  operation_reads =
      whole l show_operation _ _ _
      (choose_of
      (production l (λ a. show_selector a.0 ++ named a.1 ∷ []) _ (both selector_at name_at) show_operation inl selector_firsts
      (both_reads l show_selector Always selector_at (λ x. named x ∷ []) Always name_at (selector_reads l) (name_reads l)) (λ a. refl) (λ a. begins_selector a.0 (named a.1 ∷ [])))
      (production l (λ a. show_operator a.0 ++ show_expression (suc d) a.1) _ (both operator_at operand) show_operation inr operator_firsts
      (both_reads l show_operator Always operator_at (show_expression (suc d)) Always operand (operator_reads l) below) (λ a. refl) (λ a. begins_operator a.0 (show_expression (suc d) a.1)))
      refl)
      total (λ o. some_mark (selector_firsts ++ operator_firsts) (show_operation o) (operation_begins o)) operation_told
    where
      total : (o : Operation) → Image {X = Operation} inl (λ (a : Selector × Word). Unit {0} × Unit {0}) o ⊎ Image {X = Operation} inr (λ (a : Operator × Expression). Unit {0} × Unit {0}) o
      total (inl s) = inl (s, refl, (tt, tt))
      total (inr o) = inr (o, refl, (tt, tt))

  -- ---- a factor, or an operand with an operation

  abbrev factor_at : Reader (ℤ × Expression)
  factor_at = both literal_at (after (kind.Symbol symbol.Star) operand)

  abbrev show_factor : ℤ × Expression → List Mark
  show_factor m = (literally m.0 ∷ []) ++ (word (codes "*") ∷ show_expression (suc d) m.1)

  abbrev show_told : ℤ × Expression → List Mark
  show_told m = told_first (codes "*") (show_factor m)

  abbrev TwoAlways : {A B : Type 0} → A × B → Type 0
  TwoAlways p = Unit {0} × Unit {0}

  product_reads : Reads l (λ e. word (codes "*") ∷ show_expression (suc d) e) Always (after (kind.Symbol symbol.Star) operand)
  product_reads = after_reads l (show_expression (suc d)) Always operand (kind.Symbol symbol.Star) tt below

  factor_reads : Reads l show_factor TwoAlways factor_at
  factor_reads = both_reads l (λ n. literally n ∷ []) Always literal_at (λ e. word (codes "*") ∷ show_expression (suc d) e) Always (after (kind.Symbol symbol.Star) operand) (literal_reads l) product_reads

  star_follows : (ts : List Token) → HaveKinds ts → IsBefore (Some (codes "*")) (tokens_of ts) → is_next (kind.Symbol symbol.Star) ts ≡ true
  star_follows [] kinds before = absurd before
  star_follows (t ∷ ts) kinds before =
      let e = kind_said (kind.Symbol symbol.Star) t tt kinds.0 (sym before) in
      ap (λ k. same_fixed k (kind.Symbol symbol.Star)) e

  passes : (x : ℤ × Expression) (ts : List Token) → HaveKinds ts → Good show_told TwoAlways x → GoesOn 1 (show_told x) (tokens_of ts) → is_factor ts ≡ true
  passes x [] kinds good goes = absurd goes
  passes x (t ∷ ts) kinds good goes =
      and_from (is_number_kind t.kind) (is_next (kind.Symbol symbol.Star) ts)
      (ap is_number_kind (number_said x.0 t kinds.0 good.1.0 goes.0)) (star_follows ts kinds.1 goes.2)

  star_told : (ts : List Token) → HaveKinds ts → is_next (kind.Symbol symbol.Star) ts ≡ true → IsBefore (Some (codes "*")) (tokens_of ts)
  star_told [] kinds e = absurd cc
  star_told (t ∷ ts) kinds e = fixed_of_kind t.kind (kind.Symbol symbol.Star) t.text.now kinds.0 e

  tells : (ts : List Token) → HaveKinds ts → is_factor ts ≡ true → Tells (codes "*") ts
  tells [] kinds e = absurd cc
  tells (t ∷ ts) kinds e = star_told ts kinds.1 (and_parts (is_number_kind t.kind) (is_next (kind.Symbol symbol.Star) ts) e).1

  told_factor_reads : Reads l show_told TwoAlways (only is_factor factor_at)
  told_factor_reads = told_first_reads l show_factor TwoAlways factor_at (codes "*") is_factor factor_reads (λ x. (refl, refl)) passes tells

  abbrev show_operated : Expression × Operation → List Mark
  show_operated o = show_expression (suc d) o.0 ++ show_operation o.1

  operated_reads : Reads l show_operated TwoAlways (both operand (operation_at operand))
  operated_reads = both_reads l (show_expression (suc d)) Always operand show_operation Always (operation_at operand) below operation_reads

  behind_number : (n : ℤ) (o : Operation) (ts : List Token) → HaveKinds ts → CanAllBeSaid (show_operated (Num n, o)) → GoesOn 2 (show_operated (Num n, o)) (tokens_of ts) → is_factor ts ≡ false
  behind_number n o [] kinds can goes = refl
  behind_number n o (t ∷ ts) kinds can goes =
      and_right (is_number_kind t.kind) (is_next (kind.Symbol symbol.Star) ts)
      (never_begins (This (kind.Symbol symbol.Star) ∷ []) (selector_firsts ++ operator_firsts) (show_operation o) ts refl (operation_begins o) kinds.1 can.1 goes.3)

  no_number : (ts : List Token) → is_number_next ts ≡ false → is_factor ts ≡ false
  no_number ts e = and_left (is_number_next ts) (is_second (kind.Symbol symbol.Star) ts) e

  goes_one : (ms : List Mark) (ts : List Token) → GoesOn 2 ms (tokens_of ts) → GoesOn 1 ms (tokens_of ts)
  goes_one [] ts goes = absurd goes
  goes_one (m ∷ ms) [] goes = absurd goes
  goes_one (m ∷ ms) (t ∷ ts) goes = (goes.0, goes.1, goes.2, tt)

  other : (y : Expression × Operation) (ts : List Token) → HaveKinds ts → Good show_operated TwoAlways y → GoesOn 2 (show_operated y) (tokens_of ts) → is_factor ts ≡ false
  other y ts kinds good goes = elim (number_or (suc d) y.0 (show_operation y.1)) [
    | inl n ↦ behind_number n.0 y.1 ts kinds (subst (λ x. CanAllBeSaid (show_operated (x, y.1))) n.1 good.1) (subst (λ x. GoesOn 2 (show_operated (x, y.1)) (tokens_of ts)) n.1 goes)
    | inr b ↦ no_number ts (never_begins (ANumber ∷ []) other_firsts (show_operated y) ts refl b kinds good.1 (goes_one (show_operated y) ts goes))
  ]

  long : (y : Expression × Operation) → 2 ≤ length (show_operated y)
  long y =
      let one = some_expression_mark (suc d) y.0 in
      let two = some_mark (selector_firsts ++ operator_firsts) (show_operation y.1) (operation_begins y.1) in
      let e = length-append (show_expression (suc d) y.0) (show_operation y.1) in
      omega (arith, one, two, e)

  longer : (x : ℤ × Expression) → 2 ≤ length (show_told x)
  longer x = omega arith

  first_number : (v : Bool) (n : ℤ) (t : Token) (ts : List Token) → v ≡ true
      → then_read {B = ℤ × Expression} (if v then Got n ts else unexpected (t ∷ ts)) (λ x rest. then_read {B = ℤ × Expression} (after (kind.Symbol symbol.Star) operand rest) (λ y behind. Got (x, y) behind))
      ≡ then_read {B = ℤ × Expression} (after (kind.Symbol symbol.Star) operand ts) (λ y behind. Got (n, y) behind)
  first_number true n t ts e = refl
  first_number false n t ts e = absurd cc

  late : (ts : List Token) (why : Reason) (left : ℕ) → HaveKinds ts → is_factor ts ≡ true → only is_factor factor_at ts ≡ Refused why left → 1 + left ≤ length ts
  late [] why left kinds pass h = absurd cc
  late (t ∷ ts) why left kinds pass h =
      let read : factor_at (t ∷ ts) ≡ Refused why left = if_taken (is_factor (t ∷ ts)) (factor_at (t ∷ ts)) (unexpected (t ∷ ts)) (Refused why left) pass h in
      let number = (and_parts (is_number_kind t.kind) (is_next (kind.Symbol symbol.Star) ts) pass).0 in
      let step = first_number (is_number_kind t.kind) (number_of t.kind) t ts number in
      let r = product_reads.refused ts why left kinds.1 (refused_through {B = ℤ × Expression} (λ y. (number_of t.kind, y)) (after (kind.Symbol symbol.Star) operand ts) why left (sym step ∙ read)) in
      let b = r.behind in
      omega (arith, b)

  abbrev show_inside : Inside → List Mark
  show_inside = show_either show_told show_operated

  inside_reads : Reads l show_inside (ShapeEither TwoAlways TwoAlways) (either is_factor (made inl factor_at) (made inr (both operand (operation_at operand))))
  inside_reads =
      let e = ap (λ r. either is_factor r (made inr (both operand (operation_at operand)))) (made_either inl is_factor factor_at (λ ts. unexpected ts))
      ∙ either_twice is_factor (made inl factor_at) (made inr (both operand (operation_at operand))) (made inl (λ ts. unexpected ts)) in
      subst (Reads l show_inside (ShapeEither TwoAlways TwoAlways)) e
      (told_reads l show_told TwoAlways (only is_factor factor_at) show_operated TwoAlways (both operand (operation_at operand)) is_factor
      told_factor_reads operated_reads passes other long longer late)

  -- ---- the parts

  abbrev enclosed_inside : Inside → List Mark
  enclosed_inside x = word (codes "(") ∷ (show_inside x ++ word (codes ")") ∷ [])

  enclosed_reads : Reads l enclosed_inside (ShapeEither TwoAlways TwoAlways) (after (kind.Symbol symbol.OpenParenthesis) (before (kind.Symbol symbol.CloseParenthesis) (either is_factor (made inl factor_at) (made inr (both operand (operation_at operand))))))
  enclosed_reads =
      after_reads l _ _ _ (kind.Symbol symbol.OpenParenthesis) tt
      (before_reads l show_inside (ShapeEither TwoAlways TwoAlways) _ (kind.Symbol symbol.CloseParenthesis) tt inside_reads)

  inside_marks : (x : Inside) → show_expression d (inside x) ≡ tree d (enclosed_inside x)
  inside_marks (inl m) = refl
  inside_marks (inr o) = operated_marks o.0 o.1
    where
      operated_marks : (a : Expression) (o : Operation) → show_expression d (operated a o) ≡ tree d (enclosed_inside (inr (a, o)))
      operated_marks a (inl s) = selected_marks d s.0 a s.1
      operated_marks a (inr c) = combined_marks d c.0 a c.1

  parenthesized_is : made inside (after (kind.Symbol symbol.OpenParenthesis) (before (kind.Symbol symbol.CloseParenthesis) (either is_factor (made inl factor_at) (made inr (both operand (operation_at operand))))))
      ≡ after (kind.Symbol symbol.OpenParenthesis) (parenthesized_at operand)
  parenthesized_is =
      let a = made inl factor_at in
      let b = made inr (both operand (operation_at operand)) in
      let in_parts : made inside (either is_factor a b) ≡ either is_factor (product_at operand) (operated_at operand)
      = made_either inside is_factor a b ∙ ap₂ (λ x y. either is_factor x y) (made_made inside inl factor_at) (made_made inside inr (both operand (operation_at operand))) in
      made_after inside (kind.Symbol symbol.OpenParenthesis) (before (kind.Symbol symbol.CloseParenthesis) (either is_factor a b))
      ∙ ap (after (kind.Symbol symbol.OpenParenthesis)) (made_before inside (kind.Symbol symbol.CloseParenthesis) (either is_factor a b) ∙ ap (before (kind.Symbol symbol.CloseParenthesis)) in_parts)

  abbrev IsParenthesized : Expression → Type 0
  IsParenthesized = Image inside (ShapeEither TwoAlways TwoAlways)

  parenthesized_part : Part l (show_expression d) (This (kind.Symbol symbol.OpenParenthesis) ∷ []) IsParenthesized (after (kind.Symbol symbol.OpenParenthesis) (parenthesized_at operand))
  parenthesized_part =
      subst (Part l (show_expression d) (This (kind.Symbol symbol.OpenParenthesis) ∷ []) IsParenthesized) parenthesized_is
      (leveled l d le enclosed_inside _ _ (show_expression d) inside (This (kind.Symbol symbol.OpenParenthesis) ∷ []) (λ x. (refl, refl)) enclosed_reads inside_marks
      (λ x. (This (kind.Symbol symbol.OpenParenthesis), inl refl, (tt, refl))))

  closed_reads : (close : Kind) → IsFixed close → Reads l (λ e. show_expression (suc d) e ++ word (fixed_text close) ∷ []) Always (before close operand)
  closed_reads close fixed = before_reads l (show_expression (suc d)) Always operand close fixed below

  single_part : Part l (show_expression d) (This (kind.Symbol symbol.OpenBrace) ∷ []) (Image Single Always) (made Single (after (kind.Symbol symbol.OpenBrace) (before (kind.Symbol symbol.CloseBrace) operand)))
  single_part =
      leveled l d le (λ e. word (codes "{") ∷ (show_expression (suc d) e ++ word (codes "}") ∷ [])) Always _ (show_expression d) Single (This (kind.Symbol symbol.OpenBrace) ∷ []) (λ x. (refl, refl))
      (after_reads l _ Always _ (kind.Symbol symbol.OpenBrace) tt (closed_reads (kind.Symbol symbol.CloseBrace) tt)) (λ a. refl) (λ a. (This (kind.Symbol symbol.OpenBrace), inl refl, (tt, refl)))

  old_part : Part l (show_expression d) (This (kind.Word keyword.Old) ∷ []) (Image Old Always) (made Old (after (kind.Word keyword.Old) (after (kind.Symbol symbol.OpenParenthesis) (before (kind.Symbol symbol.CloseParenthesis) operand))))
  old_part =
      leveled l d le (λ e. word (codes "old") ∷ word (codes "(") ∷ (show_expression (suc d) e ++ word (codes ")") ∷ [])) Always _ (show_expression d) Old (This (kind.Word keyword.Old) ∷ []) (λ x. (refl, refl))
      (after_reads l _ Always _ (kind.Word keyword.Old) tt (after_reads l _ Always _ (kind.Symbol symbol.OpenParenthesis) tt (closed_reads (kind.Symbol symbol.CloseParenthesis) tt)))
      (λ a. refl) (λ a. (This (kind.Word keyword.Old), inl refl, (tt, refl)))

  number_part : Part l (show_expression d) (ANumber ∷ []) (Image Num Always) (made Num literal_at)
  number_part = leveled l d le (λ n. literally n ∷ []) Always literal_at (show_expression d) Num (ANumber ∷ []) (λ x. (refl, refl)) (literal_reads l) (λ a. refl) (λ a. (ANumber, inl refl, (a, refl)))

  name_part : Part l (show_expression d) (AName ∷ []) (Image Var Always) (made Var name_at)
  name_part = leveled l d le (λ x. named x ∷ []) Always name_at (show_expression d) Var (AName ∷ []) (λ x. (refl, refl)) (name_reads l) (λ a. refl) (λ a. (AName, inl refl, (a, refl)))

  abbrev IsOne : Expression → Type 0
  IsOne x = Image Num Always x ⊎ (Image Var Always x ⊎ (Any Null x ⊎ (Any Empty x ⊎ (Any Alloc x ⊎ (Image Single Always x ⊎ (Image Old Always x ⊎ IsParenthesized x))))))

  expression_part : Part l (show_expression d) expression_firsts IsOne (expression_from operand)
  expression_part =
      choose_of number_part
      (choose_of name_part
      (choose_of (meaning_at l d le (show_expression d) (kind.Word keyword.Null) tt Null refl)
      (choose_of (meaning_at l d le (show_expression d) (kind.Word keyword.Empty) tt Empty refl)
      (choose_of (meaning_at l d le (show_expression d) (kind.Word keyword.Alloc) tt Alloc refl)
      (choose_of single_part (choose_of old_part parenthesized_part refl) refl) refl) refl) refl) refl) refl

  abbrev paren : (x : Inside) → ShapeEither TwoAlways TwoAlways x → IsOne (inside x)
  paren x shape = inr (inr (inr (inr (inr (inr (inr (x, refl, shape)))))))

  is_one : (x : Expression) → IsOne x
  is_one (Num n) = inl (n, refl, tt)
  is_one (Var x) = inr (inl (x, refl, tt))
  is_one Null = inr (inr (inl (tt, refl, tt)))
  is_one Empty = inr (inr (inr (inl (tt, refl, tt))))
  is_one Alloc = inr (inr (inr (inr (inl (tt, refl, tt)))))
  is_one (Single a) = inr (inr (inr (inr (inr (inl (a, refl, tt))))))
  is_one (Old a) = inr (inr (inr (inr (inr (inr (inl (a, refl, tt)))))))
  is_one (Mul n a) = paren (inl (n, a)) (tt, tt)
  is_one (Add a b) = paren (inr (a, inr (operator.Add, b))) (tt, tt)
  is_one (Sub a b) = paren (inr (a, inr (operator.Sub, b))) (tt, tt)
  is_one (Union a b) = paren (inr (a, inr (operator.Union, b))) (tt, tt)
  is_one (Meet a b) = paren (inr (a, inr (operator.Meet, b))) (tt, tt)
  is_one (Minus a b) = paren (inr (a, inr (operator.Minus, b))) (tt, tt)
  is_one (Field a f) = paren (inr (a, inl (selector.Field, f))) (tt, tt)
  is_one (Imaged a f) = paren (inr (a, inl (selector.Image, f))) (tt, tt)
  is_one (Filter a c) = paren (inr (a, inl (selector.Filter, c))) (tt, tt)

  level_reads : Reads l (show_expression d) Always (expression_from operand)
  level_reads = whole l (show_expression d) expression_firsts IsOne (expression_from operand) expression_part is_one (some_expression_mark d) (told_expression d)

-- ---- the first tokens

pub expression_always : (d : ℕ) → AlwaysBegins (show_expression d) Always begins_expression
expression_always d x ts kinds good goes = always_begins expression_firsts (show_expression d x) ts (subst (BeginsAs expression_firsts) (append-nil (show_expression d x)) (expression_begins d x [])) kinds good.1 goes

-- the tokens that begin none
pub expression_never : (d : ℕ) (cs : List First) → are_apart cs expression_firsts ≡ true → NeverBegins (show_expression d) Always (begins_one cs)
expression_never d cs apart x ts kinds good goes = never_begins cs expression_firsts (show_expression d x) ts apart (subst (BeginsAs expression_firsts) (append-nil (show_expression d x)) (expression_begins d x [])) kinds good.1 goes

module _ (d : ℕ) (t : Token) (ts : List Token) (kinds : HaveKinds (t ∷ ts)) where
  abbrev Begun : Type 0
  Begun = (x : Expression) × Good (show_expression d) Always x × GoesOn 1 (show_expression d x) (tokens_of (t ∷ ts))

  begun_number : is_number_kind t.kind ≡ true → Begun
  begun_number e = let n = number_of_kind t.kind t.text.now kinds.0 e in (Num n.0, (tt, (n.2, tt)), (n.1, tt, tt, tt))

  begun_name : is_name_kind t.kind ≡ true → Begun
  begun_name e = (Var t.text.now, (tt, (name_of_kind t.kind t.text.now kinds.0 e, tt)), (refl, tt, tt, tt))

  says : (k : Kind) → same_fixed t.kind k ≡ true → fixed_text k ≡ t.text.now
  says k e = fixed_of_kind t.kind k t.text.now kinds.0 e

  begun : is_number_kind t.kind || (is_name_kind t.kind || (same_fixed t.kind (kind.Word keyword.Null) || (same_fixed t.kind (kind.Word keyword.Empty) || (same_fixed t.kind (kind.Word keyword.Alloc)
      || (same_fixed t.kind (kind.Symbol symbol.OpenBrace) || (same_fixed t.kind (kind.Word keyword.Old) || same_fixed t.kind (kind.Symbol symbol.OpenParenthesis))))))) ≡ true → Begun
  begun e = elim (or_cases _ _ e) [
    | inl n ↦ begun_number n
    | inr e ↦
        elim (or_cases _ _ e) [
          | inl n ↦ begun_name n
          | inr e ↦
              elim (or_cases _ _ e) [
                | inl n ↦ (Null, (tt, (tt, tt)), (says (kind.Word keyword.Null) n, tt, tt, tt))
                | inr e ↦
                    elim (or_cases _ _ e) [
                      | inl n ↦ (Empty, (tt, (tt, tt)), (says (kind.Word keyword.Empty) n, tt, tt, tt))
                      | inr e ↦
                          elim (or_cases _ _ e) [
                            | inl n ↦ (Alloc, (tt, (tt, tt)), (says (kind.Word keyword.Alloc) n, tt, tt, tt))
                            | inr e ↦
                                elim (or_cases _ _ e) [
                                  | inl n ↦ (Single Null, (tt, (tt, (tt, (tt, tt)))), (says (kind.Symbol symbol.OpenBrace) n, tt, tt, tt))
                                  | inr e ↦
                                      elim (or_cases _ _ e) [
                                        | inl n ↦ (Old Null, (tt, (tt, (tt, (tt, (tt, tt))))), (says (kind.Word keyword.Old) n, tt, tt, tt))
                                        | inr n ↦
                                            (Add Null Null, (tt, (tt, (tt, (tt, (tt, (tt, tt)))))), (says (kind.Symbol symbol.OpenParenthesis) n, tt, tt, tt))
                                      ]
                                ]
                          ]
                    ]
              ]
        ]
  ]

pub expression_some : (d : ℕ) → SomeBegins (show_expression d) Always begins_expression
expression_some d [] kinds e = absurd cc
expression_some d (t ∷ ts) kinds e = begun d t ts kinds e

-- ---- the law

pub expression_reads : (l : Limits) (d left : ℕ) → d + left ≡ suc l.deepest → Reads l (show_expression d) Always (expression_at left)
unfolding expression_at
expression_reads l d zero sum =
    let over : l.deepest < d = omega arith in
    subst (λ s. Reads l s Always (too_deep_at begins_expression)) (fun_ext (leveled_again d))
    (too_deep_reads l (show_expression d) Always d begins_expression over (Null, (tt, (tt, tt))) (some_expression_mark d) (told_expression d) (expression_always d) (expression_some d))
expression_reads l d (suc left) sum =
    let le : d ≤ l.deepest = omega arith in
    let more : suc d + left ≡ suc l.deepest = omega arith in
    level_reads l d le (expression_at left) (expression_reads l (suc d) left more)
