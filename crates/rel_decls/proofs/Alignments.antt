-- Weavings and alignments are read exactly.
use Rattle.std.proofs.Common.{◌≡◌, ◌≢◌, ℕ, zero, suc, ◌+◌, ◌<◌, Bool, true, false, List, [], ◌∷◌, ◌++◌, length, ◌⊎◌, inl, inr, refl, sym, ap, ◌∙◌, subst, arith}
use Rattle.std.specs.Prelude.{codes}
use Rattle.std.specs.List.{AllByRecursion}
use Rattle.rel_lang.specs.Syntax.{Word, RelFormula, Act, ActSeq, ActSync, ActCall, ActIf, ActWhile, ActLink, ActNote, ActDrop, WeaveStep, Align, Given, Woven}
use Rattle.rel_lang.specs.Text.{Mark, word, named, counted, begins, braced, ended, repeated, show_rel, show_biblock, show_act, show_place_numbers, show_weave_step, show_align, IsShapedBiblock, IsShapedStep, IsShapedAlign}
use Rattle.rel_lang.specs.Refusal.{Limits, GoesOn, Unexpected, IsOverAt}
use Rattle.rel_lexer.specs.declared.Token.{Token}
use Rattle.rel_lexer.specs.Tokens.{tokens_of}
use Rattle.rel_lexer.specs.declared.Kind.TheVariants as kind
use Rattle.rel_lexer.specs.declared.keywords.Keyword.TheVariants as keyword
use Rattle.rel_lexer.specs.declared.symbols.Symbol.TheVariants as symbol
use Rattle.rel_parse.specs.Reading.{Reading, Got, Refused, Reader, then_read, with_front, place_of, number_of, counted_as, is_next, is_number_next, expect_at, name_at, count_at, made, both, after, placed}
use Rattle.rel_parse.specs.Firsts.{First, ANumber, This}
use Rattle.rel_parse.specs.Relations.{rel_at}
use Rattle.rel_parse.specs.Biprograms.{biblock_at}
use Rattle.rel_parse.proofs.Laws.{HaveKinds, Good, AreTold, Reads, Always, AlwaysBegins, SomeBegins, ShapeAll, name_reads, count_reads, both_reads, after_reads, before_reads, placed_reads, many_reads, same_reads}
use Rattle.rel_parse.proofs.Along.{spelled_goes, told_join}
use Rattle.rel_parse.proofs.Single.{is_fixed}
use Rattle.rel_parse.proofs.Firsts.{BeginsAs, Part, Image, choose_of, meaning, production, whole, never_begins}
use Rattle.rel_decls.specs.Alignments.{named_act_at, word_act_at, act_at, counts_at, numbers_at, step_at, ended_step_at, steps_at, align_at}
use Rattle.rel_parse.proofs.Relations.{rel_reads}
use Rattle.rel_parse.proofs.Biprograms.{biblock_reads}
use Rattle.rel_decls.proofs.Declarations.{shaped}
use Rattle.rel_decls.proofs.Specifications.{closed_many}

-- ---- what steps do

abbrev ShapeCounts : ℕ × ℕ → Type 0
ShapeCounts p = Always p.0 × Always p.1

abbrev ShapeNames : Word × Word → Type 0
ShapeNames p = Always p.0 × Always p.1

abbrev Relations : Type 0
Relations = RelFormula × (RelFormula × RelFormula)

abbrev ShapeRelations : Relations → Type 0
ShapeRelations p = Always p.0 × (Always p.1.0 × Always p.1.1)

abbrev OneAct : Act → Type 0
OneAct a =
    Image (λ (p : ℕ × ℕ). ActSeq p.0 p.1) ShapeCounts a
    ⊎ (Image (λ (p : Relations). ActWhile p.0 p.1.0 p.1.1) ShapeRelations a
    ⊎ ((Image ActCall Always a ⊎ (Image (λ (p : Word × Word). ActLink p.0 p.1) ShapeNames a ⊎ Image ActNote Always a))
    ⊎ (Image (λ (u : Unit {0}). ActSync) Always a ⊎ (Image (λ (u : Unit {0}). ActIf) Always a ⊎ Image (λ (u : Unit {0}). ActDrop) Always a))))

one_act : (a : Act) → OneAct a
one_act (ActSeq i j) = inl ((i, j), refl, (tt, tt))
one_act (ActWhile r m n) = inr (inl ((r, (m, n)), refl, (tt, (tt, tt))))
one_act (ActCall j) = inr (inr (inl (inl (j, refl, tt))))
one_act (ActLink x y) = inr (inr (inl (inr (inl ((x, y), refl, (tt, tt))))))
one_act (ActNote r) = inr (inr (inl (inr (inr (r, refl, tt)))))
one_act ActSync = inr (inr (inr (inl (tt, refl, tt))))
one_act ActIf = inr (inr (inr (inr (inl (tt, refl, tt)))))
one_act ActDrop = inr (inr (inr (inr (inr (tt, refl, tt)))))

some_act_mark : (a : Act) → 0 < length (show_act a)
some_act_mark (ActSeq i j) = omega arith
some_act_mark (ActWhile r m n) = omega arith
some_act_mark (ActCall j) = omega arith
some_act_mark (ActLink x y) = omega arith
some_act_mark (ActNote r) = omega arith
some_act_mark ActSync = omega arith
some_act_mark ActIf = omega arith
some_act_mark ActDrop = omega arith

abbrev act_firsts : List First
act_firsts =
    This (kind.Word keyword.Seq) ∷ This (kind.Word keyword.While) ∷ This (kind.Word keyword.Call) ∷ This (kind.Word keyword.Link) ∷ This (kind.Word keyword.Note)
    ∷ This (kind.Word keyword.Sync) ∷ This (kind.Word keyword.If) ∷ This (kind.Word keyword.Drop) ∷ []

act_first : (a : Act) → BeginsAs act_firsts (show_act a)
act_first (ActSeq i j) = (This (kind.Word keyword.Seq), inl refl, (tt, refl))
act_first (ActWhile r m n) = (This (kind.Word keyword.While), inr (inl refl), (tt, refl))
act_first (ActCall j) = (This (kind.Word keyword.Call), inr (inr (inl refl)), (tt, refl))
act_first (ActLink x y) = (This (kind.Word keyword.Link), inr (inr (inr (inl refl))), (tt, refl))
act_first (ActNote r) = (This (kind.Word keyword.Note), inr (inr (inr (inr (inl refl)))), (tt, refl))
act_first ActSync = (This (kind.Word keyword.Sync), inr (inr (inr (inr (inr (inl refl))))), (tt, refl))
act_first ActIf = (This (kind.Word keyword.If), inr (inr (inr (inr (inr (inr (inl refl)))))), (tt, refl))
act_first ActDrop = (This (kind.Word keyword.Drop), inr (inr (inr (inr (inr (inr (inr (inl refl))))))), (tt, refl))

-- ---- the numbers of a place

not_number : (ts : List Token) → is_number_next ts ≡ false → count_at ts ≡ Refused Unexpected (length ts)
not_number [] e = refl
not_number (t ∷ ts) e = rw e refl

never_unexpected : (l : Limits) (n : ℕ) (ms : List Mark) → IsOverAt l Unexpected n ms → ⊥
never_unexpected l n [] h = h
never_unexpected l zero (m ∷ ms) h = h
never_unexpected l (suc n) (m ∷ ms) h = never_unexpected l n ms h

abbrev show_count : ℕ → List Mark
show_count n = counted n ∷ []

module _ (l : Limits) (wide : 0 < l.most) where
  rel_one : Reads l (show_rel 1) Always (rel_at l.deepest)
  rel_one = rel_reads l 1 l.deepest (omega arith)

  count_by : (v : Bool) (n : ℕ) (ts : List Token) → is_number_next ts ≡ v → HaveKinds ts → Good show_count Always n → GoesOn 1 (show_count n) (tokens_of ts) → is_number_next ts ≡ true
  count_by true n ts e kinds good goes = e
  count_by false n ts e kinds good goes =
      let h = (count_reads l).refused ts Unexpected (length ts) kinds (not_number ts e) in
      let none : h.passed ≡ 0 = omega (arith, h.behind) in
      absurd (never_unexpected l h.passed (show_count n) (h.stuck n good (subst (λ k. GoesOn (suc k) (show_count n) (tokens_of ts)) (sym none) goes)))

  count_always : AlwaysBegins show_count Always is_number_next
  count_always n ts kinds good goes = count_by (is_number_next ts) n ts refl kinds good goes

  count_some : SomeBegins show_count Always is_number_next
  count_some [] kinds e = absurd cc
  count_some (t ∷ ts) kinds e =
      let n = counted_as (number_of t.kind) in
      let f = (count_reads l).found (t ∷ ts) ts n kinds (rw e refl) in
      (n, f.1, spelled_goes (show_count n) (t ∷ ts) ts f.0)

  act_reads : Reads l show_act Always (act_at l)
  unfolding act_at named_act_at word_act_at
  act_reads =
      whole l show_act _ OneAct (act_at l)
      (choose_of (production l (λ (p : ℕ × ℕ). word (codes "seq") ∷ counted p.0 ∷ counted p.1 ∷ []) ShapeCounts (after (kind.Word keyword.Seq) (both count_at count_at)) show_act (λ p. ActSeq p.0 p.1) (This (kind.Word keyword.Seq) ∷ [])
      (after_reads l (λ (p : ℕ × ℕ). counted p.0 ∷ counted p.1 ∷ []) ShapeCounts _ (kind.Word keyword.Seq) tt (both_reads l show_count Always count_at show_count Always count_at (count_reads l) (count_reads l)))
      (λ a. refl) (λ a. (This (kind.Word keyword.Seq), inl refl, (tt, refl))))
      (choose_of (production l (λ (p : Relations). word (codes "while") ∷ (show_rel 1 p.0 ++ word (codes "|") ∷ (show_rel 1 p.1.0 ++ word (codes "|") ∷ show_rel 1 p.1.1))) ShapeRelations _ show_act (λ p. ActWhile p.0 p.1.0 p.1.1) (This (kind.Word keyword.While) ∷ [])
      (after_reads l _ ShapeRelations _ (kind.Word keyword.While) tt
      (both_reads l (show_rel 1) Always (rel_at l.deepest) _ _ _ rel_one (after_reads l _ _ _ (kind.Symbol symbol.Bar) tt
      (both_reads l (show_rel 1) Always (rel_at l.deepest) _ _ _ rel_one (after_reads l (show_rel 1) Always (rel_at l.deepest) (kind.Symbol symbol.Bar) tt rel_one)))))
      (λ a. refl) (λ a. (This (kind.Word keyword.While), inl refl, (tt, refl))))
      (choose_of
      (choose_of (production l (λ x. word (codes "call") ∷ named x ∷ []) Always (after (kind.Word keyword.Call) name_at) show_act ActCall (This (kind.Word keyword.Call) ∷ []) (after_reads l (λ x. named x ∷ []) Always name_at (kind.Word keyword.Call) tt (name_reads l))
      (λ a. refl) (λ a. (This (kind.Word keyword.Call), inl refl, (tt, refl))))
      (choose_of (production l (λ (p : Word × Word). word (codes "link") ∷ named p.0 ∷ word (codes "|") ∷ named p.1 ∷ []) ShapeNames _ show_act (λ p. ActLink p.0 p.1) (This (kind.Word keyword.Link) ∷ [])
      (after_reads l (λ (p : Word × Word). named p.0 ∷ word (codes "|") ∷ named p.1 ∷ []) ShapeNames _ (kind.Word keyword.Link) tt
      (both_reads l (λ x. named x ∷ []) Always name_at (λ x. word (codes "|") ∷ named x ∷ []) Always _ (name_reads l) (after_reads l (λ x. named x ∷ []) Always name_at (kind.Symbol symbol.Bar) tt (name_reads l))))
      (λ a. refl) (λ a. (This (kind.Word keyword.Link), inl refl, (tt, refl))))
      (production l (λ r. word (codes "note") ∷ show_rel 1 r) Always _ show_act ActNote (This (kind.Word keyword.Note) ∷ []) (after_reads l (show_rel 1) Always (rel_at l.deepest) (kind.Word keyword.Note) tt rel_one)
      (λ a. refl) (λ a. (This (kind.Word keyword.Note), inl refl, (tt, refl)))) refl) refl)
      (choose_of (meaning l show_act (kind.Word keyword.Sync) tt ActSync refl)
      (choose_of (meaning l show_act (kind.Word keyword.If) tt ActIf refl) (meaning l show_act (kind.Word keyword.Drop) tt ActDrop refl) refl) refl) refl) refl) refl)
      one_act some_act_mark told_act
    where
      told_act : (a : Act) → AreTold (show_act a)
      told_act (ActSeq i j) = (tt, (tt, (tt, tt)))
      told_act (ActWhile r m n) = (tt, told_join (show_rel 1 r) (word (codes "|") ∷ (show_rel 1 m ++ word (codes "|") ∷ show_rel 1 n)) (rel_one.told r) (tt, told_join (show_rel 1 m) (word (codes "|") ∷ show_rel 1 n) (rel_one.told m) (tt, rel_one.told n)))
      told_act (ActCall j) = (tt, (tt, tt))
      told_act (ActLink x y) = (tt, (tt, (tt, (tt, tt))))
      told_act (ActNote r) = (tt, rel_one.told r)
      told_act ActSync = (tt, tt)
      told_act ActIf = (tt, tt)
      told_act ActDrop = (tt, tt)

  -- ---- steps

  abbrev Numbered : Type 0
  Numbered = ℕ × (List ℕ × Act)

  abbrev numbered_at : Reader Numbered
  numbered_at = both count_at (both (counts_at l) (act_at l))

  abbrev show_numbered : Numbered → List Mark
  show_numbered p = counted p.0 ∷ (repeated show_count 1 p.1.0 ++ show_act p.1.1)

  abbrev ShapeNumbered : Numbered → Type 0
  ShapeNumbered p = Always p.0 × (AllByRecursion (Always {X = ℕ}) p.1.0 × Always p.1.1)

  numbered_reads : Reads l show_numbered ShapeNumbered numbered_at
  numbered_reads =
      both_reads l show_count Always count_at (λ (q : List ℕ × Act). repeated show_count 1 q.0 ++ show_act q.1) (ShapeAll Always Always) _ (count_reads l)
      (many_reads l show_count Always count_at show_act Always (act_at l) is_number_next 1 l.most (omega arith) (omega arith) (λ n. (omega arith, refl)) (count_reads l) act_reads count_always count_some
      (λ a ts kinds good goes. never_begins (ANumber ∷ []) act_firsts (show_act a) ts refl (act_first a) kinds good.1 goes))

  abbrev step_from : ℕ × Numbered → WeaveStep
  step_from p = record { at = p.0; place = p.1.0 ∷ p.1.1.0; act = p.1.1.1 }

  abbrev Counted : Type 0
  Counted = List ℕ × Act

  abbrev regrouped : Reading Numbered → Reading Counted
  regrouped read = then_read read (λ p rest. Got (p.0 ∷ p.1.0, p.1.1) rest)

  abbrev with_act : List ℕ → Reading Act → Reading Counted
  with_act ns read = then_read read (λ a rest. Got (ns, a) rest)

  abbrev with_count : ℕ → Reading Counted → Reading Numbered
  with_count n read = then_read read (λ q rest. Got (n, q) rest)

  last_same : (n : ℕ) (ns : List ℕ) (read : Reading Act) → regrouped (with_count n (with_act ns read)) ≡ with_act (n ∷ ns) read
  last_same n ns (Got a rest) = refl
  last_same n ns (Refused why left) = refl

  counts_same : (n : ℕ) (read : Reading (List ℕ)) → regrouped (with_count n (then_read read (λ ns rest. with_act ns (act_at l rest)))) ≡ then_read (with_front (n ∷ []) read) (λ ns rest. with_act ns (act_at l rest))
  counts_same n (Got ns rest) = last_same n ns (act_at l rest)
  counts_same n (Refused why left) = refl

  count_same : (read : Reading ℕ) → regrouped (then_read read (λ n rest. with_count n (both (counts_at l) (act_at l) rest))) ≡ then_read (then_read read (λ n rest. with_front (n ∷ []) (counts_at l rest))) (λ ns rest. with_act ns (act_at l rest))
  count_same (Got n rest) = counts_same n (counts_at l rest)
  count_same (Refused why left) = refl

  abbrev placed_as : ℕ → Reading Counted → Reading WeaveStep
  placed_as at read = then_read (then_read {B = ℕ × Counted} read (λ x rest. Got (at, x) rest)) (λ p rest. Got (record { at = p.0; place = p.1.0; act = p.1.1 }) rest)

  abbrev numbered_as : ℕ → Reading Numbered → Reading WeaveStep
  numbered_as at read = then_read (then_read {B = ℕ × Numbered} read (λ x rest. Got (at, x) rest)) (λ p rest. Got (step_from p) rest)

  placed_same : (at : ℕ) (read : Reading Numbered) → numbered_as at read ≡ placed_as at (regrouped read)
  placed_same at (Got p rest) = refl
  placed_same at (Refused why left) = refl

  word_same : (at : ℕ) (read : Reading (Unit {0})) → numbered_as at (then_read read (λ u rest. numbered_at rest)) ≡ placed_as at (then_read read (λ u rest. both (numbers_at l) (act_at l) rest))
  unfolding numbers_at
  word_same at (Got u rest) = placed_same at (numbered_at rest) ∙ ap (placed_as at) (count_same (count_at rest))
  word_same at (Refused why left) = refl

  step_same : (ts : List Token) → made step_from (placed (after (kind.Word keyword.At) numbered_at)) ts ≡ step_at l ts
  unfolding step_at
  step_same ts = word_same (place_of ts) (expect_at (kind.Word keyword.At) ts)

  abbrev NumberedStep : WeaveStep → Type 0
  NumberedStep = Image step_from (λ p. ShapeNumbered p.1)

  steps_part : Part l show_weave_step (This (kind.Word keyword.At) ∷ []) NumberedStep (made step_from (placed (after (kind.Word keyword.At) numbered_at)))
  steps_part =
      production l (λ (p : ℕ × Numbered). begins p.0 (word (codes "at") ∷ show_numbered p.1)) (λ p. ShapeNumbered p.1) _ show_weave_step step_from (This (kind.Word keyword.At) ∷ [])
      (placed_reads l (λ p. word (codes "at") ∷ show_numbered p) ShapeNumbered _ (after_reads l show_numbered ShapeNumbered numbered_at (kind.Word keyword.At) tt numbered_reads))
      (λ a. refl) (λ a. (This (kind.Word keyword.At), inl refl, (tt, refl)))

  told_counts : (n : ℕ) (ns : List ℕ) → AreTold (repeated show_count n ns)
  told_counts n [] = tt
  told_counts n (m ∷ ns) = (tt, told_counts (suc n) ns)

  told_numbers : (ns : List ℕ) → AreTold (show_place_numbers ns)
  told_numbers [] = tt
  told_numbers (n ∷ ns) = (tt, told_counts 1 ns)

  has_number : (s : WeaveStep) → NumberedStep s → IsShapedStep s
  has_number s h = subst IsShapedStep h.1 (λ e. absurd cc)

  numbered_step : (at : ℕ) (ns : List ℕ) (a : Act) → ns ≢ [] → NumberedStep (record { at = at; place = ns; act = a })
  numbered_step at [] a h = absurd (h refl)
  numbered_step at (n ∷ ns) a h = ((at, (n, (ns, a))), refl, (tt, (all ns, tt)))
    where
      all : (ns : List ℕ) → AllByRecursion (Always {X = ℕ}) ns
      all [] = tt
      all (n ∷ ns) = (tt, all ns)

  step_reads : Reads l show_weave_step IsShapedStep (step_at l)
  step_reads =
      same_reads l show_weave_step IsShapedStep _ (step_at l) step_same
      (shaped l show_weave_step (This (kind.Word keyword.At) ∷ []) NumberedStep _ steps_part IsShapedStep has_number (λ s h. numbered_step s.at s.place s.act h) (λ s. omega arith)
      (λ s. (tt, told_join (show_place_numbers s.place) (show_act s.act) (told_numbers s.place) (act_reads.told s.act))))

  abbrev show_step : WeaveStep → List Mark
  show_step = ended (codes ";") show_weave_step

  ended_step_reads : Reads l show_step IsShapedStep (ended_step_at l)
  ended_step_reads = before_reads l show_weave_step IsShapedStep (step_at l) (kind.Symbol symbol.Semicolon) tt step_reads

  step_some : SomeBegins show_step IsShapedStep (is_next (kind.Word keyword.At))
  step_some [] kinds e = absurd cc
  step_some (t ∷ ts) kinds e = let x = ended_step_reads.one in (record x.0 { at = t.at }, x.1, (is_fixed t (kind.Word keyword.At) tt kinds.0 e, (refl, tt), tt, tt))

  steps_reads : Reads l (λ ss. braced (repeated show_step 1 ss)) (AllByRecursion IsShapedStep) (steps_at l)
  unfolding steps_at
  steps_reads =
      after_reads l (λ ss. repeated show_step 1 ss ++ word (codes "}") ∷ []) (AllByRecursion IsShapedStep) _ (kind.Symbol symbol.OpenBrace) tt
      (closed_many l (kind.Word keyword.At) tt show_step IsShapedStep (ended_step_at l) ended_step_reads (λ s. (This (kind.Word keyword.At), inl refl, (tt, refl))) step_some (λ s. (omega arith, refl)) refl)

  -- ---- alignments

  abbrev OneAlign : Align → Type 0
  OneAlign a = Image Given IsShapedBiblock a ⊎ Image Woven (AllByRecursion IsShapedStep) a

  block_one : Reads l (show_biblock 1) IsShapedBiblock (biblock_at l.most l.deepest)
  block_one = biblock_reads l 1 l.deepest (omega arith) wide

  is_shaped : (a : Align) → OneAlign a → IsShapedAlign a
  is_shaped a (inl h) = subst IsShapedAlign h.1 h.2
  is_shaped a (inr h) = subst IsShapedAlign h.1 h.2

  one_align : (a : Align) → IsShapedAlign a → OneAlign a
  one_align (Given b) h = inl (b, refl, h)
  one_align (Woven ss) h = inr (ss, refl, h)

  some_align_mark : (a : Align) → 0 < length (show_align a)
  some_align_mark (Given b) = omega arith
  some_align_mark (Woven ss) = omega arith

  told_align : (a : Align) → AreTold (show_align a)
  told_align (Given b) = (tt, block_one.told b)
  told_align (Woven ss) = (tt, steps_reads.told ss)

  pub align_reads : Reads l show_align IsShapedAlign (align_at l)
  unfolding align_at
  align_reads =
      shaped l show_align _ OneAlign (align_at l)
      (choose_of (production l (λ b. word (codes "bi") ∷ show_biblock 1 b) IsShapedBiblock _ show_align Given (This (kind.Word keyword.Bi) ∷ []) (after_reads l (show_biblock 1) IsShapedBiblock (biblock_at l.most l.deepest) (kind.Word keyword.Bi) tt block_one)
      (λ a. refl) (λ a. (This (kind.Word keyword.Bi), inl refl, (tt, refl))))
      (production l (λ ss. word (codes "weave") ∷ braced (repeated show_step 1 ss)) (AllByRecursion IsShapedStep) _ show_align Woven (This (kind.Word keyword.Weave) ∷ []) (after_reads l (λ ss. braced (repeated show_step 1 ss)) (AllByRecursion IsShapedStep) (steps_at l) (kind.Word keyword.Weave) tt steps_reads)
      (λ a. refl) (λ a. (This (kind.Word keyword.Weave), inl refl, (tt, refl)))) refl)
      IsShapedAlign is_shaped one_align some_align_mark told_align
