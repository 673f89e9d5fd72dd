-- Atoms of commands with their semicolon are read exactly.
use Rattle.std.proofs.Common.{◌≡◌, ℕ, suc, ◌+◌, ◌<◌, ◌≤◌, Bool, true, false, List, [], ◌∷◌, ◌++◌, length, Some, ◌⊎◌, inl, inr, refl, sym, ap, subst, ◌∙◌, arith}
use Rattle.std.proofs.Math.Path.{fun_ext, ap₂}
use Rattle.std.proofs.lemmas.Bool.{and_parts, and_from, and_left, and_right}
use Rattle.std.proofs.lemmas.List.{length-append}
use Rattle.std.specs.Prelude.{codes, if◌then◌else◌}
use Rattle.std.specs.List.{AllByRecursion}
use Rattle.rel_lang.specs.Syntax.{Word, Expression, Var, Num, Null, Empty, Alloc, Add, Sub, Mul, Field, Single, Union, Meet, Minus, Image as Imaged, Filter, Old, Form, Skip, Assign, Load, Store, New, Call}
use Rattle.rel_lang.specs.Text.{Fixed, Mark, word, named, listed, show_expression, show_form}
use Rattle.rel_lang.specs.Tokens.{is_name}
use Rattle.rel_lang.specs.Refusal.{Limits, GoesOn, IsBefore, Reason}
use Rattle.rel_lexer.specs.declared.Token.{Token}
use Rattle.rel_lexer.specs.Tokens.{tokens_of}
use Rattle.rel_lexer.specs.declared.Kind.{Kind}
use Rattle.rel_lexer.specs.declared.Kind.TheVariants as kind
use Rattle.rel_lexer.specs.declared.keywords.Keyword.TheVariants as keyword
use Rattle.rel_lexer.specs.declared.symbols.Symbol.TheVariants as symbol
use Rattle.rel_lexer.proofs.Kinding.{kind_of_name}
use Rattle.rel_parse.specs.Reading.{Reading, Got, Refused, Reader, then_read, unexpected, same_fixed, is_name_kind, is_next, is_second, is_name_next, name_at, expect_at, made, both, after, before, either, listed_at}
use Rattle.rel_parse.specs.Firsts.{First, AName, ANumber, This}
use Rattle.rel_parse.specs.Expressions.{expression_firsts}
use Rattle.rel_parse.specs.Commands.{call_at, is_field_next, field_at, value_at, stored_at, named_at, atom_at}
use Rattle.rel_parse.proofs.Laws.{HaveKinds, CanAllBeSaid, AreTold, Good, Reads, Always, NeverBegins, AlwaysBegins, show_either, ShapeEither, name_reads, word_reads, both_reads, after_reads, before_reads, made_reads, told_reads, listed_reads}
use Rattle.rel_parse.proofs.Firsts.{BeginsAs, Image, choose_of, production, whole, always_begins, never_begins, kind_said, fixed_of_kind}
use Rattle.rel_parse.proofs.Told.{told_first, told_first_reads, Tells, only, either_twice, if_taken}
use Rattle.rel_parse.proofs.Renamed.{made_made, made_after, made_either}
use Rattle.rel_parse.proofs.Ended.{before_made, before_after, before_both, before_either, first_alone, then_then}
use Rattle.rel_parse.proofs.Expressions.{expression_begins, expression_never}

abbrev pub semicolon : Kind
semicolon = kind.Symbol symbol.Semicolon

abbrev pub closed : List Mark → List Mark
closed ms = ms ++ word (codes ";") ∷ []

abbrev close : Kind
close = kind.Symbol symbol.CloseParenthesis

abbrev dot : Kind
dot = kind.Symbol symbol.Dot

abbrev becomes : Kind
becomes = kind.Symbol symbol.ColonEqual

-- behind `x :=`: a new object's class, a call, a field, or an expression
pub data Value (C : Type 0) : Type 0 where
  Fresh : Word → Value C
  Called : C → Value C
  Loaded : Word → Word → Value C
  Plain : Expression → Value C

-- behind a name
pub data Rest (C : Type 0) : Type 0 where
  Stored : Word → Expression → Rest C
  Valued : Value C → Rest C

-- the procedure and the arguments
abbrev pub Calling : Type 0
Calling = Word × List Expression

abbrev pub valued_from : Word → Value Calling → Form
valued_from x (Fresh c) = New x c
valued_from x (Called p) = Call x p.0 p.1
valued_from x (Loaded y f) = Load x y f
valued_from x (Plain e) = Assign x e

abbrev pub named_from : Word → Rest Calling → Form
named_from x (Stored f e) = Store x f e
named_from x (Valued v) = valued_from x v

-- ---- the same readers, of these

abbrev pub value_raw : {C : Type 0} → Reader C → Reader Expression → Reader (Value C)
value_raw c e =
    either (is_next (kind.Word keyword.New)) (made Fresh (after (kind.Word keyword.New) name_at))
    (either (is_next (kind.Word keyword.Call)) (made Called (after (kind.Word keyword.Call) c))
    (either is_field_next (made (λ (p : Word × Word). Loaded p.0 p.1) field_at) (made Plain e)))

abbrev pub rest_raw : {C : Type 0} → Reader C → Reader Expression → Reader (Rest C)
rest_raw c e = either (is_next dot) (made (λ (p : Word × Expression). Stored p.0 p.1) (after dot (stored_at e))) (made Valued (after becomes (value_raw c e)))

valued_is : (most : ℕ) (e : Reader Expression) (x : Word) → made (valued_from x) (value_raw (call_at most e) e) ≡ value_at most e x
valued_is most e x =
    made_either (valued_from x) _ _ _
    ∙ ap₂ (either (is_next (kind.Word keyword.New))) (made_made (valued_from x) Fresh _)
    (made_either (valued_from x) _ _ _
    ∙ ap₂ (either (is_next (kind.Word keyword.Call))) (made_made (valued_from x) Called _)
    (made_either (valued_from x) _ _ _
    ∙ ap₂ (either is_field_next) (made_made (valued_from x) (λ p. Loaded p.0 p.1) _) (made_made (valued_from x) Plain e)))

named_is : (most : ℕ) (e : Reader Expression) (x : Word) → made (named_from x) (rest_raw (call_at most e) e) ≡ named_at most e x
named_is most e x =
    made_either (named_from x) _ _ _
    ∙ ap₂ (either (is_next dot)) (made_made (named_from x) (λ p. Stored p.0 p.1) _)
    (made_made (named_from x) Valued _ ∙ made_after (valued_from x) becomes _ ∙ ap (after becomes) (valued_is most e x))

then_named : (most : ℕ) (e : Reader Expression) (read : Reading Word)
    → then_read {A = Word × Rest Calling} (then_read read (λ x rest. then_read (rest_raw (call_at most e) e rest) (λ y behind. Got (x, y) behind))) (λ q behind. Got (named_from q.0 q.1) behind) ≡ then_read read (named_at most e)
then_named most e (Got x rest) = then_then (rest_raw (call_at most e) e rest) (λ y behind. Got (x, y) behind) (λ q behind. Got (named_from q.0 q.1) behind) ∙ ap (λ r. r rest) (named_is most e x)
then_named most e (Refused why left) = refl

abbrev pub name_from : Word × Rest Calling → Form
name_from q = named_from q.0 q.1

named_one : (most : ℕ) (e : Reader Expression) → made name_from (both name_at (rest_raw (call_at most e) e)) ≡ (λ ts. then_read (name_at ts) (named_at most e))
named_one most e = fun_ext (λ ts. then_named most e (name_at ts))

all_always : {A : Type 0} (xs : List A) → AllByRecursion Always xs
all_always [] = tt
all_always (x ∷ xs) = (tt, all_always xs)

-- ---- a name, or an expression that begins otherwise

abbrev other_firsts : List First
other_firsts =
    ANumber ∷ This (kind.Word keyword.Null) ∷ This (kind.Word keyword.Empty) ∷ This (kind.Word keyword.Alloc)
    ∷ This (kind.Symbol symbol.OpenBrace) ∷ This (kind.Word keyword.Old) ∷ This (kind.Symbol symbol.OpenParenthesis) ∷ []

opens : (m : Mark) (ms : List Mark) → m.said ≡ Fixed (codes "(") → BeginsAs other_firsts (m ∷ ms)
opens m ms e = (This (kind.Symbol symbol.OpenParenthesis), inr (inr (inr (inr (inr (inr (inl refl)))))), (tt, e))

name_or : (d : ℕ) (x : Expression) (ms : List Mark) → ((y : Word) × (x ≡ Var y)) ⊎ BeginsAs other_firsts (show_expression d x ++ ms)
name_or d (Var x) ms = inl (x, refl)
name_or d (Num n) ms = inr (ANumber, inl refl, (n, refl))
name_or d Null ms = inr (This (kind.Word keyword.Null), inr (inl refl), (tt, refl))
name_or d Empty ms = inr (This (kind.Word keyword.Empty), inr (inr (inl refl)), (tt, refl))
name_or d Alloc ms = inr (This (kind.Word keyword.Alloc), inr (inr (inr (inl refl))), (tt, refl))
name_or d (Single a) ms = inr (This (kind.Symbol symbol.OpenBrace), inr (inr (inr (inr (inl refl)))), (tt, refl))
name_or d (Old a) ms = inr (This (kind.Word keyword.Old), inr (inr (inr (inr (inr (inl refl))))), (tt, refl))
name_or d (Add a b) ms = inr (opens _ _ refl)
name_or d (Sub a b) ms = inr (opens _ _ refl)
name_or d (Mul n a) ms = inr (opens _ _ refl)
name_or d (Field a f) ms = inr (opens _ _ refl)
name_or d (Union a b) ms = inr (opens _ _ refl)
name_or d (Meet a b) ms = inr (opens _ _ refl)
name_or d (Minus a b) ms = inr (opens _ _ refl)
name_or d (Imaged a f) ms = inr (opens _ _ refl)
name_or d (Filter a c) ms = inr (opens _ _ refl)

-- ---- one level

refused_through : {A B : Type 0} (f : A → B) (read : Reading A) (why : Reason) (left : ℕ) → then_read read (λ y behind. Got (f y) behind) ≡ Refused why left → read ≡ Refused why left
refused_through f (Got y behind) why left e = absurd cc
refused_through f (Refused v n) why left e = let one : v ≡ why = cc in let two : n ≡ left = cc in ap (λ u. Refused u n) one ∙ ap (Refused why) two

module _ (l : Limits) (d : ℕ) (e : Reader Expression) (expressions : Reads l (show_expression (suc d)) Always e) where
  -- calls

  abbrev pub Arguments : List Expression → Type 0
  Arguments es = AllByRecursion Always es × Unit {0}

  abbrev pub show_arguments : List Expression → List Mark
  show_arguments es = listed (show_expression (suc d)) es ++ word (codes ")") ∷ []

  never_closes : NeverBegins (show_expression (suc d)) Always (is_next close)
  never_closes = expression_never (suc d) (This close ∷ []) refl

  always_closes : AlwaysBegins (λ (u : Unit {0}). word (codes ")") ∷ []) Always (is_next close)
  always_closes u ts kinds good goes = always_begins (This close ∷ []) (word (codes ")") ∷ []) ts (This close, inl refl, (tt, refl)) kinds good.1 goes

  apart : codes ")" ≡ codes "," → ⊥
  apart h = cc

  arguments_reads : Reads l show_arguments Arguments (before close (listed_at close e l.most))
  arguments_reads =
      let both_of = listed_reads l (show_expression (suc d)) Always e (λ (u : Unit {0}). word (codes ")") ∷ []) Always (expect_at close) close l.most refl tt expressions (word_reads l close tt) never_closes always_closes apart in
      let one : Reads l show_arguments Arguments (made (λ (q : List Expression × Unit {0}). q.0) (both (listed_at close e l.most) (expect_at close)))
      = made_reads l (λ (q : List Expression × Unit {0}). listed (show_expression (suc d)) q.0 ++ word (codes ")") ∷ []) _ _ show_arguments Arguments (λ q. q.0) (λ es. (es, tt)) both_of (λ q. refl) (λ es. refl) (λ es. refl) (λ es. refl) in
      subst (Reads l show_arguments Arguments) (first_alone close (listed_at close e l.most)) one

  abbrev pub show_call : Word × List Expression → List Mark
  show_call p = (named p.0 ∷ []) ++ (word (codes "(") ∷ show_arguments p.1)

  pub call_reads : Reads l show_call (λ p. Unit {0} × Arguments p.1) (call_at l.most e)
  call_reads = both_reads l _ _ _ _ _ _ (name_reads l) (after_reads l _ _ _ (kind.Symbol symbol.OpenParenthesis) tt arguments_reads)

  abbrev pub Calls : Calling → Type 0
  Calls p = Unit {0} × Arguments p.1

  pub all_calls : (p : Calling) → Calls p
  all_calls p = (tt, (all_always p.1, tt))

  pub calls_reads : Reads l (λ p. closed (word (codes "call") ∷ show_call p)) Calls (before semicolon (after (kind.Word keyword.Call) (call_at l.most e)))
  calls_reads = before_reads l _ _ _ semicolon tt (after_reads l _ _ _ (kind.Word keyword.Call) tt call_reads)

-- an atom, with what is read behind its word `call`
module _ (l : Limits) (d : ℕ) (e : Reader Expression) (expressions : Reads l (show_expression (suc d)) Always e) {C : Type 0} (show_call : C → List Mark) (Calls : C → Type 0) (c : Reader C) (all_calls : (x : C) → Calls x)
    (calls : Reads l (λ x. closed (word (codes "call") ∷ show_call x)) Calls (before semicolon (after (kind.Word keyword.Call) c))) where
  -- a field, or an expression

  abbrev field_ended : Reader (Word × Word)
  field_ended = both name_at (before semicolon (after dot name_at))

  abbrev show_behind : Word → List Mark
  show_behind f = closed (word (codes ".") ∷ named f ∷ [])

  abbrev show_field : Word × Word → List Mark
  show_field p = (named p.0 ∷ []) ++ show_behind p.1

  abbrev show_load : Word × Word → List Mark
  show_load p = told_first (codes ".") (show_field p)

  abbrev TwoAlways : {A B : Type 0} → A × B → Type 0
  TwoAlways p = Unit {0} × Unit {0}

  behind_reads : Reads l show_behind Always (before semicolon (after dot name_at))
  behind_reads = before_reads l _ _ _ semicolon tt (after_reads l _ _ _ dot tt (name_reads l))

  field_reads : Reads l show_field TwoAlways field_ended
  field_reads = both_reads l _ _ _ _ _ _ (name_reads l) behind_reads

  dot_follows : (ts : List Token) → HaveKinds ts → IsBefore (Some (codes ".")) (tokens_of ts) → is_next dot ts ≡ true
  dot_follows [] kinds before = absurd before
  dot_follows (t ∷ ts) kinds before = ap (λ k. same_fixed k dot) (kind_said dot t tt kinds.0 (sym before))

  passes : (x : Word × Word) (ts : List Token) → HaveKinds ts → Good show_load TwoAlways x → GoesOn 1 (show_load x) (tokens_of ts) → is_field_next ts ≡ true
  passes x [] kinds good goes = absurd goes
  passes x (t ∷ ts) kinds good goes =
      and_from (is_name_kind t.kind) (is_next dot ts) (ap is_name_kind (kind_of_name t.text.now t.kind kinds.0 (ap is_name (sym goes.0) ∙ good.1.0))) (dot_follows ts kinds.1 goes.2)

  dot_told : (ts : List Token) → HaveKinds ts → is_next dot ts ≡ true → IsBefore (Some (codes ".")) (tokens_of ts)
  dot_told [] kinds e = absurd cc
  dot_told (t ∷ ts) kinds e = fixed_of_kind t.kind dot t.text.now kinds.0 e

  tells : (ts : List Token) → HaveKinds ts → is_field_next ts ≡ true → Tells (codes ".") ts
  tells [] kinds e = absurd cc
  tells (t ∷ ts) kinds e = dot_told ts kinds.1 (and_parts (is_name_kind t.kind) (is_next dot ts) e).1

  load_reads : Reads l show_load TwoAlways (only is_field_next field_ended)
  load_reads = told_first_reads l show_field TwoAlways field_ended (codes ".") is_field_next field_reads (λ x. (refl, refl)) passes tells

  abbrev show_plain : Expression → List Mark
  show_plain x = closed (show_expression (suc d) x)

  plain_reads : Reads l show_plain Always (before semicolon e)
  plain_reads = before_reads l _ _ _ semicolon tt expressions

  behind_name : (n : Word) (ts : List Token) → HaveKinds ts → CanAllBeSaid (show_plain (Var n)) → GoesOn 2 (show_plain (Var n)) (tokens_of ts) → is_field_next ts ≡ false
  behind_name n [] kinds can goes = refl
  behind_name n (t ∷ ts) kinds can goes =
      and_right (is_name_kind t.kind) (is_next dot ts) (never_begins (This dot ∷ []) (This semicolon ∷ []) (word (codes ";") ∷ []) ts refl (This semicolon, inl refl, (tt, refl)) kinds.1 can.1 goes.3)

  no_name : (ts : List Token) → is_name_next ts ≡ false → is_field_next ts ≡ false
  no_name ts e = and_left (is_name_next ts) (is_second dot ts) e

  goes_one : (ms : List Mark) (ts : List Token) → GoesOn 2 ms (tokens_of ts) → GoesOn 1 ms (tokens_of ts)
  goes_one [] ts goes = absurd goes
  goes_one (m ∷ ms) [] goes = absurd goes
  goes_one (m ∷ ms) (t ∷ ts) goes = (goes.0, goes.1, goes.2, tt)

  other : (y : Expression) (ts : List Token) → HaveKinds ts → Good show_plain Always y → GoesOn 2 (show_plain y) (tokens_of ts) → is_field_next ts ≡ false
  other y ts kinds good goes = elim (name_or (suc d) y (word (codes ";") ∷ [])) [
    | inl n ↦ behind_name n.0 ts kinds (subst (λ x. CanAllBeSaid (show_plain x)) n.1 good.1) (subst (λ x. GoesOn 2 (show_plain x) (tokens_of ts)) n.1 goes)
    | inr b ↦ no_name ts (never_begins (AName ∷ []) other_firsts (show_plain y) ts refl b kinds good.1 (goes_one (show_plain y) ts goes))
  ]

  long : (y : Expression) → 2 ≤ length (show_plain y)
  long y =
      let one = expressions.some_mark y in
      let e : length (show_plain y) ≡ length (show_expression (suc d) y) + 1 = length-append (show_expression (suc d) y) (word (codes ";") ∷ []) in
      omega (arith, one, e)

  longer : (x : Word × Word) → 2 ≤ length (show_load x)
  longer x = omega arith

  late_by : (v : Bool) (n : Word) (ts : List Token) (why : Reason) (left : ℕ) → HaveKinds ts → v ≡ true
      → then_read {B = Word × Word} (if v then Got n ts else Refused why left) (λ x rest. then_read (before semicolon (after dot name_at) rest) (λ y behind. Got (x, y) behind)) ≡ Refused why left → left ≤ length ts
  late_by false n ts why left kinds e h = absurd cc
  late_by true n ts why left kinds e h =
      let r = behind_reads.refused ts why left kinds (refused_through (λ y. (n, y)) (before semicolon (after dot name_at) ts) why left h) in
      let b = r.behind in
      omega (arith, b)

  first_name : (t : Token) (ts : List Token) → is_name_kind t.kind ≡ true → name_at (t ∷ ts) ≡ Got t.text.now ts
  first_name t ts e = rw e refl

  late : (ts : List Token) (why : Reason) (left : ℕ) → HaveKinds ts → is_field_next ts ≡ true → only is_field_next field_ended ts ≡ Refused why left → 1 + left ≤ length ts
  late [] why left kinds pass h = absurd cc
  late (t ∷ ts) why left kinds pass h =
      let read : field_ended (t ∷ ts) ≡ Refused why left = if_taken (is_field_next (t ∷ ts)) (field_ended (t ∷ ts)) (unexpected (t ∷ ts)) (Refused why left) pass h in
      let is = (and_parts (is_name_kind t.kind) (is_next dot ts) pass).0 in
      let step : field_ended (t ∷ ts) ≡ then_read {B = Word × Word} (Got t.text.now ts) (λ x rest. then_read (before semicolon (after dot name_at) rest) (λ y behind. Got (x, y) behind))
      = ap (λ r. then_read {B = Word × Word} r (λ x rest. then_read (before semicolon (after dot name_at) rest) (λ y behind. Got (x, y) behind))) (first_name t ts is) in
      let le2 : left ≤ length ts = late_by true t.text.now ts why left kinds.1 refl (sym step ∙ read) in
      omega (arith, le2)

  abbrev operand_ended : Reader ((Word × Word) ⊎ Expression)
  operand_ended = either is_field_next (made inl field_ended) (made inr (before semicolon e))

  operand_reads : Reads l (show_either show_load show_plain) (ShapeEither TwoAlways Always) operand_ended
  operand_reads =
      let same = ap (λ r. either is_field_next r (made inr (before semicolon e))) (made_either inl is_field_next field_ended (λ ts. unexpected ts))
      ∙ either_twice is_field_next (made inl field_ended) (made inr (before semicolon e)) (made inl (λ ts. unexpected ts)) in
      subst (Reads l (show_either show_load show_plain) (ShapeEither TwoAlways Always)) same
      (told_reads l show_load TwoAlways (only is_field_next field_ended) show_plain Always (before semicolon e) is_field_next load_reads plain_reads passes other long longer late)

  -- values

  abbrev from_operand : (Word × Word) ⊎ Expression → Value C
  from_operand (inl p) = Loaded p.0 p.1
  from_operand (inr x) = Plain x

  abbrev show_value : Value C → List Mark
  show_value (Fresh x) = closed (word (codes "new") ∷ named x ∷ [])
  show_value (Called x) = closed (word (codes "call") ∷ show_call x)
  show_value (Loaded y f) = show_load (y, f)
  show_value (Plain x) = show_plain x

  abbrev value_ended : Reader (Value C)
  value_ended =
      either (is_next (kind.Word keyword.New)) (made Fresh (before semicolon (after (kind.Word keyword.New) name_at)))
      (either (is_next (kind.Word keyword.Call)) (made Called (before semicolon (after (kind.Word keyword.Call) c)))
      (made from_operand operand_ended))

  operand_same : before semicolon (either {X = Value C} is_field_next (made (λ p. Loaded p.0 p.1) field_at) (made Plain e)) ≡ made from_operand operand_ended
  operand_same =
      before_either semicolon is_field_next _ _
      ∙ ap₂ (either is_field_next) (before_made semicolon (λ p. Loaded p.0 p.1) field_at ∙ ap (made (λ p. Loaded p.0 p.1)) (before_both semicolon name_at (after dot name_at))) (before_made semicolon Plain e)
      ∙ sym (made_either from_operand is_field_next _ _ ∙ ap₂ (either is_field_next) (made_made from_operand inl field_ended) (made_made from_operand inr (before semicolon e)))

  value_same : before semicolon (value_raw c e) ≡ value_ended
  value_same =
      before_either semicolon (is_next (kind.Word keyword.New)) _ _
      ∙ ap₂ (either (is_next (kind.Word keyword.New))) (before_made semicolon Fresh _)
      (before_either semicolon (is_next (kind.Word keyword.Call)) _ _
      ∙ ap₂ (either (is_next (kind.Word keyword.Call))) (before_made semicolon Called _) operand_same)

  fresh_reads : Reads l (λ c. closed (word (codes "new") ∷ named c ∷ [])) Always (before semicolon (after (kind.Word keyword.New) name_at))
  fresh_reads = before_reads l _ _ _ semicolon tt (after_reads l _ _ _ (kind.Word keyword.New) tt (name_reads l))

  operand_shown : (a : (Word × Word) ⊎ Expression) → show_value (from_operand a) ≡ show_either show_load show_plain a
  operand_shown (inl p) = refl
  operand_shown (inr x) = refl

  operand_begins : (a : (Word × Word) ⊎ Expression) → BeginsAs expression_firsts (show_either show_load show_plain a)
  operand_begins (inl p) = (AName, inr (inl refl), (p.0, refl))
  operand_begins (inr x) = expression_begins (suc d) x (word (codes ";") ∷ [])

  value_total : (v : Value C) → Image Fresh Always v ⊎ (Image Called Calls v ⊎ Image from_operand (ShapeEither TwoAlways Always) v)
  value_total (Fresh x) = inl (x, refl, tt)
  value_total (Called x) = inr (inl (x, refl, all_calls x))
  value_total (Loaded y f) = inr (inr (inl (y, f), refl, (tt, tt)))
  value_total (Plain x) = inr (inr (inr x, refl, tt))

  value_marks : (v : Value C) → 0 < length (show_value v)
  value_marks (Fresh x) = fresh_reads.some_mark x
  value_marks (Called x) = calls.some_mark x
  value_marks (Loaded y f) = load_reads.some_mark (y, f)
  value_marks (Plain x) = plain_reads.some_mark x

  value_told : (v : Value C) → AreTold (show_value v)
  value_told (Fresh x) = fresh_reads.told x
  value_told (Called x) = calls.told x
  value_told (Loaded y f) = load_reads.told (y, f)
  value_told (Plain x) = plain_reads.told x

  value_reads : Reads l show_value Always value_ended
  value_reads =
      whole l show_value _ _ _
      (choose_of (production l _ _ _ show_value Fresh (This (kind.Word keyword.New) ∷ []) fresh_reads (λ x. refl) (λ x. (This (kind.Word keyword.New), inl refl, (tt, refl))))
      (choose_of (production l _ _ _ show_value Called (This (kind.Word keyword.Call) ∷ []) calls (λ x. refl) (λ x. (This (kind.Word keyword.Call), inl refl, (tt, refl))))
      (production l _ _ _ show_value from_operand expression_firsts operand_reads operand_shown operand_begins) refl) refl)
      value_total value_marks value_told

  -- behind a name

  abbrev show_stored : Word × Expression → List Mark
  show_stored p = closed (word (codes ".") ∷ ((named p.0 ∷ []) ++ (word (codes ":=") ∷ show_expression (suc d) p.1)))

  abbrev show_rest : Rest C → List Mark
  show_rest (Stored f x) = show_stored (f, x)
  show_rest (Valued v) = word (codes ":=") ∷ show_value v

  stored_reads : Reads l show_stored TwoAlways (before semicolon (after dot (stored_at e)))
  stored_reads = before_reads l _ _ _ semicolon tt (after_reads l _ _ _ dot tt (both_reads l _ _ _ _ _ _ (name_reads l) (after_reads l _ _ _ becomes tt expressions)))

  valued_reads : Reads l (λ v. word (codes ":=") ∷ show_value v) Always (after becomes value_ended)
  valued_reads = after_reads l _ _ _ becomes tt value_reads

  abbrev rest_ended : Reader (Rest C)
  rest_ended = either (is_next dot) (made (λ (p : Word × Expression). Stored p.0 p.1) (before semicolon (after dot (stored_at e)))) (made Valued (after becomes value_ended))

  rest_same : before semicolon (rest_raw c e) ≡ rest_ended
  rest_same =
      before_either semicolon (is_next dot) _ _
      ∙ ap₂ (either (is_next dot)) (before_made semicolon (λ p. Stored p.0 p.1) _)
      (before_made semicolon Valued _ ∙ ap (made Valued) (before_after semicolon becomes _ ∙ ap (after becomes) value_same))

  rest_total : (r : Rest C) → Image (λ (p : Word × Expression). Stored p.0 p.1) TwoAlways r ⊎ Image Valued Always r
  rest_total (Stored f x) = inl ((f, x), refl, (tt, tt))
  rest_total (Valued v) = inr (v, refl, tt)

  rest_marks : (r : Rest C) → 0 < length (show_rest r)
  rest_marks (Stored f x) = stored_reads.some_mark (f, x)
  rest_marks (Valued v) = valued_reads.some_mark v

  rest_told : (r : Rest C) → AreTold (show_rest r)
  rest_told (Stored f x) = stored_reads.told (f, x)
  rest_told (Valued v) = valued_reads.told v

  rest_reads : Reads l show_rest Always rest_ended
  rest_reads =
      whole l show_rest _ _ _
      (choose_of (production l _ _ _ show_rest (λ (p : Word × Expression). Stored p.0 p.1) (This dot ∷ []) stored_reads (λ p. refl) (λ p. (This dot, inl refl, (tt, refl))))
      (production l _ _ _ show_rest Valued (This becomes ∷ []) valued_reads (λ v. refl) (λ v. (This becomes, inl refl, (tt, refl)))) refl)
      rest_total rest_marks rest_told

  -- atoms

  abbrev pub show_named : Word × Rest C → List Mark
  show_named q = (named q.0 ∷ []) ++ show_rest q.1

  abbrev pub named_ended : Reader (Word × Rest C)
  named_ended = both name_at rest_ended

  pub named_reads : Reads l show_named TwoAlways named_ended
  named_reads = both_reads l _ _ _ _ _ _ (name_reads l) rest_reads

  pub named_same : before semicolon (both name_at (rest_raw c e)) ≡ named_ended
  named_same = before_both semicolon name_at (rest_raw c e) ∙ ap (both name_at) rest_same

pub skip_reads : (l : Limits) → Reads l (λ (u : Unit {0}). closed (word (codes "skip") ∷ [])) Always (before semicolon (expect_at (kind.Word keyword.Skip)))
skip_reads l = before_reads l _ _ _ semicolon tt (word_reads l (kind.Word keyword.Skip) tt)

-- atoms of commands
module _ (l : Limits) (d : ℕ) (e : Reader Expression) (expressions : Reads l (show_expression (suc d)) Always e) where
  abbrev pub show_atom : Word × Rest Calling → List Mark
  show_atom q = show_named l d e expressions (show_call l d e expressions) (Calls l d e expressions) (call_at l.most e) (all_calls l d e expressions) (calls_reads l d e expressions) q

  abbrev pub atom_named : Reader (Word × Rest Calling)
  atom_named = named_ended l d e expressions (show_call l d e expressions) (Calls l d e expressions) (call_at l.most e) (all_calls l d e expressions) (calls_reads l d e expressions)

  pub atom_reads : Reads l show_atom (λ q. Unit {0} × Unit {0}) atom_named
  atom_reads = named_reads l d e expressions (show_call l d e expressions) (Calls l d e expressions) (call_at l.most e) (all_calls l d e expressions) (calls_reads l d e expressions)

  pub atom_shown : (q : Word × Rest Calling) → closed (show_form d (name_from q)) ≡ show_atom q
  atom_shown (x, Stored f v) = refl
  atom_shown (x, Valued (Fresh c)) = refl
  atom_shown (x, Valued (Called p)) = refl
  atom_shown (x, Valued (Loaded y f)) = refl
  atom_shown (x, Valued (Plain v)) = refl

  abbrev pub atom_ended : Reader Form
  atom_ended = either (is_next (kind.Word keyword.Skip)) (made (λ u. Skip) (before semicolon (expect_at (kind.Word keyword.Skip)))) (made name_from atom_named)

  pub atom_same : before semicolon (atom_at l.most e) ≡ atom_ended
  atom_same =
      before_either semicolon (is_next (kind.Word keyword.Skip)) _ _
      ∙ ap₂ (either (is_next (kind.Word keyword.Skip))) (before_made semicolon (λ u. Skip) _)
      (ap (before semicolon) (sym (named_one l.most e)) ∙ before_made semicolon name_from (both name_at (rest_raw (call_at l.most e) e))
      ∙ ap (made name_from) (named_same l d e expressions (show_call l d e expressions) (Calls l d e expressions) (call_at l.most e) (all_calls l d e expressions) (calls_reads l d e expressions)))
