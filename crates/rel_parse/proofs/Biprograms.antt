-- Bicommands with their semicolon, and biblocks, are read exactly.
use Rattle.std.proofs.Common.{◌≡◌, ℕ, zero, suc, ◌+◌, ◌<◌, ◌≤◌, true, List, [], ◌∷◌, ◌++◌, length, ◌⊎◌, inl, inr, refl, sym, ap, subst, ◌∙◌, append_assoc, arith}
use Rattle.std.proofs.Math.Path.{fun_ext, ap₂}
use Rattle.std.proofs.lemmas.Bool.{or_cases}
use Rattle.std.specs.Prelude.{codes}
use Rattle.std.specs.List.{AllByRecursion}
use Rattle.rel_lang.specs.Syntax.{Word, Formula, True, RelFormula, RelTrue, Command, At, Skip, Assign, Load, Store, New, Call, If, While, Block, End, BiLoop, BiCommand, BiAt, BiForm, Split, Sync, SyncCall, BiIf, BiWhile, Link, Note, BiBlock, BiEnd, BiThen}
use Rattle.rel_lang.specs.Text.{Mark, word, named, braced, sides, begins, tree, element, repeated, show_formula, show_rel, show_form, show_command, show_block, show_loop, show_biform, show_bicommand, show_bicommands, show_biblock, IsShapedBiform, IsShapedBicommand, IsShapedBiblock}
use Rattle.rel_lang.specs.Refusal.{Limits, GoesOn, Reason}
use Rattle.rel_lang.specs.View.{biblock_from}
use Rattle.rel_lexer.specs.declared.Token.{Token}
use Rattle.rel_lexer.specs.Tokens.{tokens_of}
use Rattle.rel_lexer.specs.declared.Kind.{Kind}
use Rattle.rel_lexer.specs.declared.Kind.TheVariants as kind
use Rattle.rel_lexer.specs.declared.keywords.Keyword.TheVariants as keyword
use Rattle.rel_lexer.specs.declared.symbols.Symbol.TheVariants as symbol
use Rattle.rel_parse.specs.Reading.{Refused, Reader, same_fixed, is_next, name_at, expect_at, made, both, after, before, placed, either, many_at, too_deep_at}
use Rattle.rel_parse.specs.Firsts.{First, This}
use Rattle.rel_parse.specs.Formulas.{formula_at}
use Rattle.rel_parse.specs.Relations.{rel_at}
use Rattle.rel_parse.specs.Commands.{branches_at, block_at}
use Rattle.rel_parse.specs.Biprograms.{sides_at, sync_at, loop_from, biloop_at, biform_at, bicommand_firsts, begins_bicommand, ended_bicommand_at, biblock_at, bicommand_at}
use Rattle.rel_parse.proofs.Laws.{HaveKinds, CanAllBeSaid, AreTold, Good, Refuses, Reads, Always, NeverBegins, AlwaysBegins, SomeBegins, IsBare, IsShallow, IsTooDeep, name_reads, word_reads, both_reads, after_reads, before_reads, made_reads, placed_reads, tree_reads, too_deep_reads, many_reads, many_none_reads}
use Rattle.rel_parse.proofs.Firsts.{BeginsAs, Part, Image, choose_of, production, always_begins, never_begins, some_mark, told_append, fixed_of_kind}
use Rattle.rel_parse.proofs.Ended.{before_made, before_after, before_placed, before_either, before_too_deep, made_first}
use Rattle.rel_parse.proofs.Renamed.{made_after}
use Rattle.rel_parse.proofs.Atoms.{semicolon, closed, Fresh, Called, Loaded, Plain, Stored, Valued}
use Rattle.rel_parse.proofs.Commands.{told_braced, told_form, told_commands, told_closed, begins_tree, unleveled, can_tree, block_reads}
use Rattle.rel_parse.proofs.Synced.{Synced, Idle, Does, synced_from, show_synced_at, synced_at, sync_is, synced_at_reads}
use Rattle.rel_parse.proofs.Formulas.{told_formula, formula_reads}
use Rattle.rel_parse.proofs.Relations.{told_rel, rel_reads}

-- the same trees, with their shape otherwise said
module _ (l : Limits) {X : Type 0} (show : X → List Mark) (P Q : X → Type 0) (r : Reader X) (to : (x : X) → P x → Q x) (from : (x : X) → Q x → P x) where
  shaped : (x : X) → Good show Q x → Good show P x
  shaped x good = (from x good.0, good.1)

  refused_still : Reads l show P r → (ts : List Token) (why : Reason) (left : ℕ) → HaveKinds ts → r ts ≡ Refused why left → Refuses l show Q why left ts
  refused_still one ts why left kinds h =
      let g = one.refused ts why left kinds h in
      record { passed = g.passed; behind = g.behind; begun = (g.begun.0, (to g.begun.0 g.begun.1.0, g.begun.1.1), g.begun.2, g.begun.3, g.begun.4); stuck = λ y good goes. g.stuck y (shaped y good) goes }

  pub reshaped : Reads l show P r → Reads l show Q r
  reshaped one = record {
    one = (one.one.0, (to one.one.0 one.one.1.0, one.one.1.1));
    some_mark = one.some_mark;
    told = one.told;
    sole = λ x good y ts n kinds good2 le within goes goes2. one.sole x (shaped x good) y ts n kinds (shaped y good2) le within goes goes2;
    found = λ ts rest x kinds h. let g = one.found ts rest x kinds h in (g.0, (to x g.1.0, g.1.1), g.2);
    refused = refused_still one;
  }

-- all trees of a kind that have a shape
module _ (l : Limits) {X : Type 0} (show : X → List Mark) (cs : List First) (P Q : X → Type 0) (r : Reader X) (to : (x : X) → P x → Q x) (from : (x : X) → Q x → P x) (marks : (x : X) → 0 < length (show x)) (told : (x : X) → AreTold (show x)) where
  whole_good : (x : X) → Good show Q x → Good show P x
  whole_good x good = (from x good.0, good.1)

  whole_refused : Part l show cs P r → (ts : List Token) (why : Reason) (left : ℕ) → HaveKinds ts → r ts ≡ Refused why left → Refuses l show Q why left ts
  whole_refused part ts why left kinds h =
      let g = part.refused ts why left kinds h in
      record { passed = g.passed; behind = g.behind; begun = (g.begun.0, (to g.begun.0 g.begun.1.0, g.begun.1.1), g.begun.2, g.begun.3, g.begun.4); stuck = λ y good goes. g.stuck y (whole_good y good) goes }

  whole_of : Part l show cs P r → Reads l show Q r
  whole_of part = record {
    one = (part.one.0, (to part.one.0 part.one.1.0, part.one.1.1));
    some_mark = marks;
    told = told;
    sole = λ x good y ts n kinds good2 le within goes goes2. part.sole x (whole_good x good) y ts n kinds (whole_good y good2) le within goes goes2;
    found = λ ts rest x kinds h. let g = part.found ts rest x kinds h in (g.0, (to x g.1.0, g.1.1), g.2);
    refused = whole_refused part;
  }

-- ---- told marks

told_sides : (a b : List Mark) → AreTold a → AreTold b → AreTold (sides a b)
told_sides a b one two = told_append a (word (codes "|") ∷ b) one (tt, two)

told_placed : (d at : ℕ) (ms : List Mark) → AreTold ms → AreTold (begins at (tree d ms))
told_placed d at [] told = tt
told_placed d at (m ∷ ms) told = told

told_element : (n : ℕ) (ms : List Mark) → AreTold ms → AreTold (element n ms)
told_element n [] told = tt
told_element n (m ∷ ms) told = told

told_command : (d : ℕ) (c : Command) → AreTold (show_command d c)
told_command d (At at f) = told_placed d at (show_form d f) (told_form d f)

told_block : (d : ℕ) (b : Block) → AreTold (show_block d b)
told_block d b = told_braced _ (told_commands d 1 b)

told_loop : (d : ℕ) (l : BiLoop) → AreTold (show_loop d l)
told_loop d l = (
  tt,
  told_append ((sides (show_formula d l.tests.0) (show_formula d l.tests.1) ++ word (codes "inv") ∷ sides (show_formula d l.invs.0) (show_formula d l.invs.1)) ++ word (codes "rel") ∷ show_rel d l.rel) (word (codes "align") ∷ sides (show_rel d l.guards.0) (show_rel d l.guards.1))
      (told_append (sides (show_formula d l.tests.0) (show_formula d l.tests.1) ++ word (codes "inv") ∷ sides (show_formula d l.invs.0) (show_formula d l.invs.1)) (word (codes "rel") ∷ show_rel d l.rel)
      (told_append (sides (show_formula d l.tests.0) (show_formula d l.tests.1)) (word (codes "inv") ∷ sides (show_formula d l.invs.0) (show_formula d l.invs.1))
      (told_sides _ _ (told_formula d l.tests.0) (told_formula d l.tests.1)) (tt, told_sides _ _ (told_formula d l.invs.0) (told_formula d l.invs.1)))
      (tt, told_rel d l.rel))
      (tt, told_sides _ _ (told_rel d l.guards.0) (told_rel d l.guards.1)),
)

mutual
  told_biform : (d : ℕ) (f : BiForm) → AreTold (show_biform d f)
  told_biform d (Split a b) = (tt, told_append (show_block (suc d) a) (show_block (suc d) b) (told_block (suc d) a) (told_block (suc d) b))
  told_biform d (Sync c) = (tt, told_command (suc d) c)
  told_biform d (SyncCall c j) = (tt, told_append (show_command (suc d) c) (word (codes "using") ∷ named j ∷ []) (told_command (suc d) c) (tt, (tt, tt)))
  told_biform d (BiIf p q a b) = (
    tt,
    told_append (sides (show_formula (suc d) p) (show_formula (suc d) q) ++ braced (show_bicommands (suc d) 1 a)) (word (codes "else") ∷ braced (show_bicommands (suc d) 1 b))
        (told_append (sides (show_formula (suc d) p) (show_formula (suc d) q)) (braced (show_bicommands (suc d) 1 a)) (told_sides _ _ (told_formula (suc d) p) (told_formula (suc d) q)) (told_braced _ (told_bicommands (suc d) 1 a)))
        (tt, told_braced _ (told_bicommands (suc d) 1 b)),
  )
  told_biform d (BiWhile l b) = told_append (show_loop (suc d) l) (braced (show_bicommands (suc d) 1 b)) (told_loop (suc d) l) (told_braced _ (told_bicommands (suc d) 1 b))
  told_biform d (Link x y) = (tt, (tt, (tt, (tt, tt))))
  told_biform d (Note r) = (tt, told_rel (suc d) r)

  told_bicommands : (d n : ℕ) (b : BiBlock) → AreTold (show_bicommands d n b)
  told_bicommands d n BiEnd = tt
  told_bicommands d n (BiThen (BiAt at f) cs) =
      told_append (element n (begins at (tree d (show_biform d f)))) (word (codes ";") ∷ show_bicommands d (suc n) cs) (told_element n _ (told_placed d at (show_biform d f) (told_biform d f))) (tt, told_bicommands d (suc n) cs)

-- ---- one level

abbrev TwoAlways : {A B : Type 0} → A × B → Type 0
TwoAlways p = Unit {0} × Unit {0}

module _ (l : Limits) (d left : ℕ) (bb : Reader BiBlock)
    (formulas : Reads l (show_formula (suc d)) Always (formula_at left)) (rels : Reads l (show_rel (suc d)) Always (rel_at left)) (blocks : Reads l (show_block (suc d)) Always (block_at l.most left))
    (syncs : Reads l (show_synced_at (suc d)) Always (synced_at l.most left)) (biblocks : Reads l (show_biblock (suc d)) IsShapedBiblock bb) where
  abbrev show_closed : BiForm → List Mark
  show_closed f = closed (show_biform d f)

  abbrev p : Reader Formula
  p = formula_at left

  abbrev r : Reader RelFormula
  r = rel_at left

  abbrev show_tests : Formula × Formula → List Mark
  show_tests q = show_formula (suc d) q.0 ++ (word (codes "|") ∷ show_formula (suc d) q.1)

  abbrev show_rels : RelFormula × RelFormula → List Mark
  show_rels q = show_rel (suc d) q.0 ++ (word (codes "|") ∷ show_rel (suc d) q.1)

  tests_reads : Reads l show_tests TwoAlways (sides_at p p)
  tests_reads = both_reads l _ _ _ _ _ _ formulas (after_reads l _ _ _ (kind.Symbol symbol.Bar) tt formulas)

  rels_reads : Reads l show_rels TwoAlways (sides_at r r)
  rels_reads = both_reads l _ _ _ _ _ _ rels (after_reads l _ _ _ (kind.Symbol symbol.Bar) tt rels)

  abbrev show_split : Block × Block → List Mark
  show_split q = closed (word (codes "split") ∷ (show_block (suc d) q.0 ++ show_block (suc d) q.1))

  split_reads : Reads l show_split TwoAlways (before semicolon (after (kind.Word keyword.Split) (both (block_at l.most left) (block_at l.most left))))
  split_reads = before_reads l _ _ _ semicolon tt (after_reads l _ _ _ (kind.Word keyword.Split) tt (both_reads l _ _ _ _ _ _ blocks blocks))

  abbrev show_link : Word × Word → List Mark
  show_link q = closed (word (codes "link") ∷ ((named q.0 ∷ []) ++ (word (codes "|") ∷ named q.1 ∷ [])))

  link_reads : Reads l show_link TwoAlways (before semicolon (after (kind.Word keyword.Link) (sides_at name_at name_at)))
  link_reads = before_reads l _ _ _ semicolon tt (after_reads l _ _ _ (kind.Word keyword.Link) tt (both_reads l _ _ _ _ _ _ (name_reads l) (after_reads l _ _ _ (kind.Symbol symbol.Bar) tt (name_reads l))))

  abbrev show_note : RelFormula → List Mark
  show_note x = closed (word (codes "note") ∷ show_rel (suc d) x)

  note_reads : Reads l show_note Always (before semicolon (after (kind.Word keyword.Note) r))
  note_reads = before_reads l _ _ _ semicolon tt (after_reads l _ _ _ (kind.Word keyword.Note) tt rels)

  abbrev show_synced : ℕ × Synced → List Mark
  show_synced q = word (codes "sync") ∷ show_synced_at (suc d) q

  sync_reads : Reads l show_synced Always (after (kind.Word keyword.Sync) (synced_at l.most left))
  sync_reads = after_reads l _ _ _ (kind.Word keyword.Sync) tt syncs

  abbrev Branches : (Formula × Formula) × (BiBlock × BiBlock) → Type 0
  Branches q = (Unit {0} × Unit {0}) × (IsShapedBiblock q.1.0 × IsShapedBiblock q.1.1)

  abbrev show_if : (Formula × Formula) × (BiBlock × BiBlock) → List Mark
  show_if q = closed (word (codes "if") ∷ (show_tests q.0 ++ (show_biblock (suc d) q.1.0 ++ (word (codes "else") ∷ show_biblock (suc d) q.1.1))))

  if_reads : Reads l show_if Branches (before semicolon (after (kind.Word keyword.If) (branches_at (sides_at p p) bb)))
  if_reads = before_reads l _ _ _ semicolon tt (after_reads l _ _ _ (kind.Word keyword.If) tt (both_reads l _ _ _ _ _ _ tests_reads (both_reads l _ _ _ _ _ _ biblocks (after_reads l _ _ _ (kind.Word keyword.Else) tt biblocks))))

  abbrev Head : Type 0
  Head = (Formula × Formula) × ((Formula × Formula) × (RelFormula × (RelFormula × RelFormula)))

  abbrev show_parts : Head → List Mark
  show_parts q = show_tests q.0 ++ (word (codes "inv") ∷ (show_tests q.1.0 ++ (word (codes "rel") ∷ (show_rel (suc d) q.1.1.0 ++ (word (codes "align") ∷ show_rels q.1.1.1)))))

  abbrev parts_of : BiLoop → Head
  parts_of h = (h.tests, (h.invs, (h.rel, h.guards)))

  abbrev Heads : Head → Type 0
  Heads q = (Unit {0} × Unit {0}) × ((Unit {0} × Unit {0}) × (Unit {0} × (Unit {0} × Unit {0})))

  head_reads : Reads l (λ h. show_parts (parts_of h)) (λ h. Heads (parts_of h)) (biloop_at p r)
  head_reads =
      made_reads l show_parts Heads _ (λ h. show_parts (parts_of h)) (λ h. Heads (parts_of h)) loop_from parts_of
      (both_reads l _ _ _ _ _ _ tests_reads (after_reads l _ _ _ (kind.Word keyword.Inv) tt (both_reads l _ _ _ _ _ _ tests_reads (after_reads l _ _ _ (kind.Word keyword.Rel) tt (both_reads l _ _ _ _ _ _ rels (after_reads l _ _ _ (kind.Word keyword.Align) tt rels_reads))))))
      (λ q. refl) (λ h. refl) (λ h. refl) (λ h. refl)

  abbrev Loops : BiLoop × BiBlock → Type 0
  Loops q = Heads (parts_of q.0) × IsShapedBiblock q.1

  abbrev show_while : BiLoop × BiBlock → List Mark
  show_while q = closed (word (codes "while") ∷ (show_parts (parts_of q.0) ++ show_biblock (suc d) q.1))

  while_reads : Reads l show_while Loops (before semicolon (after (kind.Word keyword.While) (both (biloop_at p r) bb)))
  while_reads = before_reads l _ _ _ semicolon tt (after_reads l _ _ _ (kind.Word keyword.While) tt (both_reads l _ _ _ _ _ _ head_reads biblocks))

  -- all of them

  abbrev synced_bi : ℕ × Synced → BiForm
  synced_bi q = synced_from q

  split_shown : (q : Block × Block) → show_closed (Split q.0 q.1) ≡ show_split q
  split_shown q = refl

  synced_shown : (q : ℕ × Synced) → show_closed (synced_from q) ≡ show_synced q
  synced_shown (at, Idle) = refl
  synced_shown (at, Does x (Stored f v)) = refl
  synced_shown (at, Does x (Valued (Fresh c))) = refl
  synced_shown (at, Does x (Valued (Called c))) = refl
  synced_shown (at, Does x (Valued (Loaded y f))) = refl
  synced_shown (at, Does x (Valued (Plain v))) = refl

  if_shown : (q : (Formula × Formula) × (BiBlock × BiBlock)) → show_closed (BiIf q.0.0 q.0.1 q.1.0 q.1.1) ≡ show_if q
  if_shown q = ap (λ ms. closed (word (codes "if") ∷ ms)) (append_assoc (show_tests q.0) (show_biblock (suc d) q.1.0) (word (codes "else") ∷ show_biblock (suc d) q.1.1))

  regroup : (a b c e f : List Mark) → (((a ++ b) ++ c) ++ e) ++ f ≡ (a ++ (b ++ (c ++ e))) ++ f
  regroup a b c e f = simp append_assoc

  while_shown : (q : BiLoop × BiBlock) → show_closed (BiWhile q.0 q.1) ≡ show_while q
  while_shown q =
      ap (λ ms. closed (word (codes "while") ∷ ms))
      (regroup (show_tests q.0.tests) (word (codes "inv") ∷ show_tests q.0.invs) (word (codes "rel") ∷ show_rel (suc d) q.0.rel) (word (codes "align") ∷ show_rels q.0.guards) (show_biblock (suc d) q.1))

  abbrev biform_ended : Reader BiForm
  biform_ended =
      either (is_next (kind.Word keyword.If)) (made (λ (q : (Formula × Formula) × (BiBlock × BiBlock)). BiIf q.0.0 q.0.1 q.1.0 q.1.1) (before semicolon (after (kind.Word keyword.If) (branches_at (sides_at p p) bb))))
      (either (is_next (kind.Word keyword.While)) (made (λ (q : BiLoop × BiBlock). BiWhile q.0 q.1) (before semicolon (after (kind.Word keyword.While) (both (biloop_at p r) bb))))
      (either (is_next (kind.Word keyword.Split)) (made (λ (q : Block × Block). Split q.0 q.1) (before semicolon (after (kind.Word keyword.Split) (both (block_at l.most left) (block_at l.most left)))))
      (either (is_next (kind.Word keyword.Sync)) (made synced_from (after (kind.Word keyword.Sync) (synced_at l.most left)))
      (either (is_next (kind.Word keyword.Link)) (made (λ (q : Word × Word). Link q.0 q.1) (before semicolon (after (kind.Word keyword.Link) (sides_at name_at name_at))))
      (made Note (before semicolon (after (kind.Word keyword.Note) r)))))))

  biform_same : before semicolon (biform_at l.most left bb) ≡ biform_ended
  biform_same =
      before_either semicolon (is_next (kind.Word keyword.If)) _ _
      ∙ ap₂ (either (is_next (kind.Word keyword.If))) (before_made semicolon (λ (q : (Formula × Formula) × (BiBlock × BiBlock)). BiIf q.0.0 q.0.1 q.1.0 q.1.1) _)
      (before_either semicolon (is_next (kind.Word keyword.While)) _ _
      ∙ ap₂ (either (is_next (kind.Word keyword.While))) (before_made semicolon (λ (q : BiLoop × BiBlock). BiWhile q.0 q.1) _)
      (before_either semicolon (is_next (kind.Word keyword.Split)) _ _
      ∙ ap₂ (either (is_next (kind.Word keyword.Split))) (before_made semicolon (λ (q : Block × Block). Split q.0 q.1) _)
      (before_either semicolon (is_next (kind.Word keyword.Sync)) _ _
      ∙ ap₂ (either (is_next (kind.Word keyword.Sync)))
      (before_after semicolon (kind.Word keyword.Sync) (sync_at l.most left) ∙ ap (after (kind.Word keyword.Sync)) (sync_is l.most left) ∙ sym (made_after synced_from (kind.Word keyword.Sync) (synced_at l.most left)))
      (before_either semicolon (is_next (kind.Word keyword.Link)) _ _
      ∙ ap₂ (either (is_next (kind.Word keyword.Link))) (before_made semicolon (λ (q : Word × Word). Link q.0 q.1) _) (before_made semicolon Note _)))))

  abbrev Made : BiForm → Type 0
  Made f =
      Image (λ (q : (Formula × Formula) × (BiBlock × BiBlock)). BiIf q.0.0 q.0.1 q.1.0 q.1.1) Branches f
      ⊎ (Image (λ (q : BiLoop × BiBlock). BiWhile q.0 q.1) Loops f
      ⊎ (Image (λ (q : Block × Block). Split q.0 q.1) TwoAlways f
      ⊎ (Image synced_from Always f
      ⊎ (Image (λ (q : Word × Word). Link q.0 q.1) TwoAlways f ⊎ Image Note Always f))))

  -- under `sync` stands an atom, or a call with its judgement
  sync_shaped : (q : ℕ × Synced) → IsShapedBiform (synced_from q)
  sync_shaped (at, Idle) = tt
  sync_shaped (at, Does x (Stored f v)) = tt
  sync_shaped (at, Does x (Valued (Fresh c))) = tt
  sync_shaped (at, Does x (Valued (Called c))) = tt
  sync_shaped (at, Does x (Valued (Loaded y f))) = tt
  sync_shaped (at, Does x (Valued (Plain v))) = tt

  shape_of : (f : BiForm) → Made f → IsShapedBiform f
  shape_of f (inl i) = subst IsShapedBiform i.1 (i.2.1.0, i.2.1.1)
  shape_of f (inr (inl i)) = subst IsShapedBiform i.1 i.2.1
  shape_of f (inr (inr (inl i))) = subst IsShapedBiform i.1 tt
  shape_of f (inr (inr (inr (inl i)))) = subst IsShapedBiform i.1 (sync_shaped i.0)
  shape_of f (inr (inr (inr (inr (inl i))))) = subst IsShapedBiform i.1 tt
  shape_of f (inr (inr (inr (inr (inr i))))) = subst IsShapedBiform i.1 tt

  atom_of : (c : Command) → IsShapedBiform (Sync c) → Image synced_from Always (Sync c)
  atom_of (At at Skip) shape = ((at, Idle), refl, tt)
  atom_of (At at (Assign x v)) shape = ((at, Does x (Valued (Plain v))), refl, tt)
  atom_of (At at (Load x y f)) shape = ((at, Does x (Valued (Loaded y f))), refl, tt)
  atom_of (At at (Store y f v)) shape = ((at, Does y (Stored f v)), refl, tt)
  atom_of (At at (New x c)) shape = ((at, Does x (Valued (Fresh c))), refl, tt)
  atom_of (At at (Call x q es)) shape = absurd shape
  atom_of (At at (If t x y)) shape = absurd shape
  atom_of (At at (While t i x)) shape = absurd shape

  call_of : (c : Command) (j : Word) → IsShapedBiform (SyncCall c j) → Image synced_from Always (SyncCall c j)
  call_of (At at (Call x q es)) j shape = ((at, Does x (Valued (Called ((q, es), j)))), refl, tt)
  call_of (At at Skip) j shape = absurd shape
  call_of (At at (Assign x v)) j shape = absurd shape
  call_of (At at (Load x y f)) j shape = absurd shape
  call_of (At at (Store y f v)) j shape = absurd shape
  call_of (At at (New x c)) j shape = absurd shape
  call_of (At at (If t x y)) j shape = absurd shape
  call_of (At at (While t i x)) j shape = absurd shape

  made_of : (f : BiForm) → IsShapedBiform f → Made f
  made_of (BiIf t u a b) shape = inl (((t, u), (a, b)), refl, ((tt, tt), (shape.0, shape.1)))
  made_of (BiWhile h b) shape = inr (inl ((h, b), refl, (((tt, tt), ((tt, tt), (tt, (tt, tt)))), shape)))
  made_of (Split a b) shape = inr (inr (inl ((a, b), refl, (tt, tt))))
  made_of (Sync c) shape = inr (inr (inr (inl (atom_of c shape))))
  made_of (SyncCall c j) shape = inr (inr (inr (inl (call_of c j shape))))
  made_of (Link x y) shape = inr (inr (inr (inr (inl ((x, y), refl, (tt, tt))))))
  made_of (Note x) shape = inr (inr (inr (inr (inr (x, refl, tt)))))

  biform_marks : (f : BiForm) → 0 < length (show_closed f)
  biform_marks (BiIf t u a b) = omega arith
  biform_marks (BiWhile h b) = omega arith
  biform_marks (Split a b) = omega arith
  biform_marks (Sync c) = omega arith
  biform_marks (SyncCall c j) = omega arith
  biform_marks (Link x y) = omega arith
  biform_marks (Note x) = omega arith

  biform_reads : Reads l show_closed IsShapedBiform biform_ended
  biform_reads =
      whole_of l show_closed _ Made IsShapedBiform _ shape_of made_of biform_marks (λ f. told_closed (show_biform d f) (told_biform d f))
      (choose_of (production l _ _ _ show_closed (λ (q : (Formula × Formula) × (BiBlock × BiBlock)). BiIf q.0.0 q.0.1 q.1.0 q.1.1) (This (kind.Word keyword.If) ∷ []) if_reads if_shown (λ q. (This (kind.Word keyword.If), inl refl, (tt, refl))))
      (choose_of (production l _ _ _ show_closed (λ (q : BiLoop × BiBlock). BiWhile q.0 q.1) (This (kind.Word keyword.While) ∷ []) while_reads while_shown (λ q. (This (kind.Word keyword.While), inl refl, (tt, refl))))
      (choose_of (production l _ _ _ show_closed (λ (q : Block × Block). Split q.0 q.1) (This (kind.Word keyword.Split) ∷ []) split_reads split_shown (λ q. (This (kind.Word keyword.Split), inl refl, (tt, refl))))
      (choose_of (production l _ _ _ show_closed synced_from (This (kind.Word keyword.Sync) ∷ []) sync_reads synced_shown (λ q. (This (kind.Word keyword.Sync), inl refl, (tt, refl))))
      (choose_of (production l _ _ _ show_closed (λ (q : Word × Word). Link q.0 q.1) (This (kind.Word keyword.Link) ∷ []) link_reads (λ q. refl) (λ q. (This (kind.Word keyword.Link), inl refl, (tt, refl))))
      (production l _ _ _ show_closed Note (This (kind.Word keyword.Note) ∷ []) note_reads (λ q. refl) (λ q. (This (kind.Word keyword.Note), inl refl, (tt, refl)))) refl) refl) refl) refl) refl)

  biform_bare : (f : BiForm) → IsBare (show_closed f)
  biform_bare (BiIf t u a b) = (refl, refl)
  biform_bare (BiWhile h b) = (refl, refl)
  biform_bare (Split a b) = (refl, refl)
  biform_bare (Sync c) = (refl, refl)
  biform_bare (SyncCall c j) = (refl, refl)
  biform_bare (Link x y) = (refl, refl)
  biform_bare (Note x) = (refl, refl)

  abbrev bicommand_from : ℕ × BiForm → BiCommand
  bicommand_from q = BiAt q.0 q.1

  abbrev bicommand_parts : BiCommand → ℕ × BiForm
  bicommand_parts (BiAt at f) = (at, f)

  parts_again : (c : BiCommand) → bicommand_from (bicommand_parts c) ≡ c
  parts_again (BiAt at f) = refl

  shape_again : (c : BiCommand) → IsShapedBiform (bicommand_parts c).1 ≡ IsShapedBicommand c
  shape_again (BiAt at f) = refl

  bicommand_shown : (c : BiCommand) → begins (bicommand_parts c).0 (tree d (show_closed (bicommand_parts c).1)) ≡ closed (show_bicommand d c)
  bicommand_shown (BiAt at (BiIf t u a b)) = refl
  bicommand_shown (BiAt at (BiWhile h b)) = refl
  bicommand_shown (BiAt at (Split a b)) = refl
  bicommand_shown (BiAt at (Sync c)) = refl
  bicommand_shown (BiAt at (SyncCall c j)) = refl
  bicommand_shown (BiAt at (Link x y)) = refl
  bicommand_shown (BiAt at (Note x)) = refl

  bicommand_same : made bicommand_from (placed biform_ended) ≡ before semicolon (made bicommand_from (placed (biform_at l.most left bb)))
  bicommand_same = sym (before_made semicolon bicommand_from _ ∙ ap (made bicommand_from) (before_placed semicolon (biform_at l.most left bb) ∙ ap placed biform_same))

  pub bilevel_reads : d ≤ l.deepest → Reads l (λ c. closed (show_bicommand d c)) IsShapedBicommand (before semicolon (made bicommand_from (placed (biform_at l.most left bb))))
  bilevel_reads le =
      let one = placed_reads l _ _ _ (tree_reads l show_closed IsShapedBiform biform_ended d le biform_bare biform_reads) in
      subst (Reads l (λ c. closed (show_bicommand d c)) IsShapedBicommand) bicommand_same
      (made_reads l _ _ _ (λ c. closed (show_bicommand d c)) IsShapedBicommand bicommand_from bicommand_parts one (λ q. refl) parts_again bicommand_shown shape_again)

-- ---- the first tokens of bicommands

abbrev show_each : ℕ → BiCommand → List Mark
show_each d c = closed (show_bicommand d c)

-- without the depth
abbrev show_flat : ℕ → BiCommand → List Mark
show_flat d (BiAt at f) = begins at (closed (show_biform d f))

flat_begins : (d : ℕ) (c : BiCommand) → BeginsAs bicommand_firsts (show_flat d c)
flat_begins d (BiAt at (Split a b)) = (This (kind.Word keyword.Split), inl refl, (tt, refl))
flat_begins d (BiAt at (Sync c)) = (This (kind.Word keyword.Sync), inr (inl refl), (tt, refl))
flat_begins d (BiAt at (SyncCall c j)) = (This (kind.Word keyword.Sync), inr (inl refl), (tt, refl))
flat_begins d (BiAt at (Link x y)) = (This (kind.Word keyword.Link), inr (inr (inl refl)), (tt, refl))
flat_begins d (BiAt at (Note x)) = (This (kind.Word keyword.Note), inr (inr (inr (inl refl))), (tt, refl))
flat_begins d (BiAt at (BiIf t u a b)) = (This (kind.Word keyword.If), inr (inr (inr (inr (inl refl)))), (tt, refl))
flat_begins d (BiAt at (BiWhile h b)) = (This (kind.Word keyword.While), inr (inr (inr (inr (inr (inl refl))))), (tt, refl))

flat_shown : (d : ℕ) (c : BiCommand) → tree d (show_flat d c) ≡ show_each d c
flat_shown d (BiAt at (Split a b)) = refl
flat_shown d (BiAt at (Sync c)) = refl
flat_shown d (BiAt at (SyncCall c j)) = refl
flat_shown d (BiAt at (Link x y)) = refl
flat_shown d (BiAt at (Note x)) = refl
flat_shown d (BiAt at (BiIf t u a b)) = refl
flat_shown d (BiAt at (BiWhile h b)) = refl

bicommand_begins : (d : ℕ) (c : BiCommand) → BeginsAs bicommand_firsts (show_each d c)
bicommand_begins d c = subst (BeginsAs bicommand_firsts) (flat_shown d c) (begins_tree bicommand_firsts d (show_flat d c) (flat_begins d c))

told_at : (at : ℕ) (ms : List Mark) → AreTold ms → AreTold (begins at ms)
told_at at [] told = tt
told_at at (m ∷ ms) told = told

flat_told : (d : ℕ) (c : BiCommand) → AreTold (show_flat d c)
flat_told d (BiAt at f) = told_at at (closed (show_biform d f)) (told_closed (show_biform d f) (told_biform d f))

always_bicommand : (d : ℕ) → AlwaysBegins (show_each d) IsShapedBicommand begins_bicommand
always_bicommand d c ts kinds good goes = always_begins bicommand_firsts (show_each d c) ts (bicommand_begins d c) kinds good.1 goes

always_flat : (d : ℕ) → AlwaysBegins (show_flat d) IsShapedBicommand begins_bicommand
always_flat d c ts kinds good goes = always_begins bicommand_firsts (show_flat d c) ts (flat_begins d c) kinds good.1 goes

-- one that begins with each word
abbrev plainest : BiLoop
plainest = record { tests = (True, True); invs = (True, True); rel = RelTrue; guards = (RelTrue, RelTrue) }

module _ (l : Limits) (d : ℕ) (t : Token) (ts : List Token) (kinds : HaveKinds (t ∷ ts)) where
  abbrev Some : Type 0
  Some = (c : BiCommand) × Good (show_flat d) IsShapedBicommand c × GoesOn 1 (show_flat d c) (tokens_of (t ∷ ts))

  some_split : same_fixed t.kind (kind.Word keyword.Split) ≡ true → Some
  some_split is = (BiAt t.at (Split End End), (tt, (tt, (tt, (tt, (tt, (tt, (tt, tt))))))), (fixed_of_kind t.kind (kind.Word keyword.Split) t.text.now kinds.0 is, (refl, tt), tt, tt))

  some_sync : same_fixed t.kind (kind.Word keyword.Sync) ≡ true → Some
  some_sync is = (BiAt t.at (Sync (At 0 Skip)), (tt, (tt, (tt, (tt, tt)))), (fixed_of_kind t.kind (kind.Word keyword.Sync) t.text.now kinds.0 is, (refl, tt), tt, tt))

  some_link : same_fixed t.kind (kind.Word keyword.Link) ≡ true → Some
  some_link is =
      let n = (name_reads l).one in
      (BiAt t.at (Link n.0 n.0), (tt, (tt, (n.1.1.0, (tt, (n.1.1.0, (tt, tt)))))), (fixed_of_kind t.kind (kind.Word keyword.Link) t.text.now kinds.0 is, (refl, tt), tt, tt))

  some_note : same_fixed t.kind (kind.Word keyword.Note) ≡ true → Some
  some_note is = (BiAt t.at (Note RelTrue), (tt, (tt, (tt, (tt, tt)))), (fixed_of_kind t.kind (kind.Word keyword.Note) t.text.now kinds.0 is, (refl, tt), tt, tt))

  some_if : same_fixed t.kind (kind.Word keyword.If) ≡ true → Some
  some_if is = (BiAt t.at (BiIf True True BiEnd BiEnd), ((tt, tt), (tt, (tt, (tt, (tt, (tt, (tt, (tt, (tt, (tt, (tt, tt))))))))))), (fixed_of_kind t.kind (kind.Word keyword.If) t.text.now kinds.0 is, (refl, tt), tt, tt))

  some_while : same_fixed t.kind (kind.Word keyword.While) ≡ true → Some
  some_while is =
      (BiAt t.at (BiWhile plainest BiEnd), (tt, (tt, (tt, (tt, (tt, (tt, (tt, (tt, (tt, (tt, (tt, (tt, (tt, (tt, (tt, (tt, (tt, (tt, tt)))))))))))))))))), (fixed_of_kind t.kind (kind.Word keyword.While) t.text.now kinds.0 is, (refl, tt), tt, tt))

  some_of : begins_bicommand (t ∷ ts) ≡ true → Some
  some_of pass =
      elim (or_cases (same_fixed t.kind (kind.Word keyword.Split)) _ pass) [
        | inl is ↦ some_split is
        | inr a ↦ elim (or_cases (same_fixed t.kind (kind.Word keyword.Sync)) _ a) [
          | inl is ↦ some_sync is
          | inr b ↦ elim (or_cases (same_fixed t.kind (kind.Word keyword.Link)) _ b) [
            | inl is ↦ some_link is
            | inr c ↦ elim (or_cases (same_fixed t.kind (kind.Word keyword.Note)) _ c) [
              | inl is ↦ some_note is
              | inr e ↦ elim (or_cases (same_fixed t.kind (kind.Word keyword.If)) _ e) [
                | inl is ↦ some_if is
                | inr is ↦ some_while is
              ]
            ]
          ]
        ]
      ]

some_flat : (l : Limits) (d : ℕ) → SomeBegins (show_flat d) IsShapedBicommand begins_bicommand
some_flat l d [] kinds pass = absurd cc
some_flat l d (t ∷ ts) kinds pass = some_of l d t ts kinds pass

some_bicommand : (l : Limits) (d : ℕ) → SomeBegins (show_each d) IsShapedBicommand begins_bicommand
some_bicommand l d ts kinds pass =
    let s = some_flat l d ts kinds pass in
    (s.0, (s.1.0, subst CanAllBeSaid (flat_shown d s.0) (can_tree d (show_flat d s.0) s.1.1)), subst (λ ms. GoesOn 1 ms (tokens_of ts)) (flat_shown d s.0) (unleveled d (show_flat d s.0) ts s.2))

too_deep_level : (l : Limits) (d : ℕ) → l.deepest < d → Reads l (show_each d) IsShapedBicommand (before semicolon (too_deep_at begins_bicommand))
too_deep_level l d lt =
    let one = too_deep_reads l (show_flat d) IsShapedBicommand d begins_bicommand lt (BiAt 0 (Note RelTrue), (tt, (tt, (tt, (tt, tt))))) (λ c. some_mark bicommand_firsts (show_flat d c) (flat_begins d c)) (flat_told d) (always_flat d) (some_flat l d) in
    subst (Reads l (show_each d) IsShapedBicommand) (sym (before_too_deep semicolon begins_bicommand)) (subst (λ show. Reads l show IsShapedBicommand (too_deep_at begins_bicommand)) (fun_ext (flat_shown d)) one)

-- ---- biblocks

list_of : BiBlock → List BiCommand
list_of BiEnd = []
list_of (BiThen c cs) = c ∷ list_of cs

block_again : (b : BiBlock) → biblock_from (list_of b) ≡ b
unfolding list_of
block_again BiEnd = refl
block_again (BiThen c cs) = ap (λ x. BiThen c x) (block_again cs)

list_again : (cs : List BiCommand) → list_of (biblock_from cs) ≡ cs
unfolding list_of
list_again [] = refl
list_again (c ∷ cs) = ap (λ xs. c ∷ xs) (list_again cs)

element_closed : (n at d : ℕ) (f : BiForm) → element n (closed (begins at (tree d (show_biform d f)))) ≡ closed (element n (begins at (tree d (show_biform d f))))
element_closed n at d (Split a b) = refl
element_closed n at d (Sync c) = refl
element_closed n at d (SyncCall c j) = refl
element_closed n at d (Link x y) = refl
element_closed n at d (Note x) = refl
element_closed n at d (BiIf t u a b) = refl
element_closed n at d (BiWhile h b) = refl

biblock_shown : (d n : ℕ) (b : BiBlock) → repeated (show_each d) n (list_of b) ≡ show_bicommands d n b
unfolding list_of
biblock_shown d n BiEnd = refl
biblock_shown d n (BiThen (BiAt at f) cs) =
    ap₂ (λ ms ns. ms ++ ns) (element_closed n at d f) (biblock_shown d (suc n) cs)
    ∙ append_assoc (element n (begins at (tree d (show_biform d f)))) (word (codes ";") ∷ []) (show_bicommands d (suc n) cs)

abbrev Rows : BiBlock → Type 0
Rows b = AllByRecursion IsShapedBicommand (list_of b) × Unit {0}

shape_of_rows : (b : BiBlock) → Rows b → IsShapedBiblock b
unfolding list_of
shape_of_rows BiEnd h = tt
shape_of_rows (BiThen c cs) h = (h.0.0, shape_of_rows cs (h.0.1, tt))

rows_of_shape : (b : BiBlock) → IsShapedBiblock b → Rows b
unfolding list_of
rows_of_shape BiEnd h = (tt, tt)
rows_of_shape (BiThen c cs) h = ((h.0, (rows_of_shape cs h.1).0), tt)

abbrev open_brace : Kind
open_brace = kind.Symbol symbol.OpenBrace

abbrev close_brace : Kind
close_brace = kind.Symbol symbol.CloseBrace

module _ (l : Limits) (d : ℕ) (r : Reader BiCommand) (commands : Reads l (show_each d) IsShapedBicommand r) where
  -- the bicommands before the closing brace
  abbrev ReadsRows : Type 0
  ReadsRows = Reads l {X = List BiCommand × Unit {0}} (λ q. repeated (show_each d) 1 q.0 ++ word (codes "}") ∷ []) (λ q. AllByRecursion IsShapedBicommand q.0 × Unit {0}) (both (many_at begins_bicommand r l.most) (expect_at close_brace))

  no_brace : NeverBegins (λ (u : Unit {0}). word (codes "}") ∷ []) Always begins_bicommand
  no_brace u ts kinds good goes = never_begins bicommand_firsts (This close_brace ∷ []) (word (codes "}") ∷ []) ts refl (This close_brace, inl refl, (tt, refl)) kinds good.1 goes

  shallow : d ≤ l.deepest → (c : BiCommand) → IsShallow l (show_each d c)
  shallow le (BiAt at (Split a b)) = (le, refl)
  shallow le (BiAt at (Sync c)) = (le, refl)
  shallow le (BiAt at (SyncCall c j)) = (le, refl)
  shallow le (BiAt at (Link x y)) = (le, refl)
  shallow le (BiAt at (Note x)) = (le, refl)
  shallow le (BiAt at (BiIf t u a b)) = (le, refl)
  shallow le (BiAt at (BiWhile h b)) = (le, refl)

  deep : l.deepest < d → (c : BiCommand) → IsTooDeep l (show_each d c)
  deep lt (BiAt at (Split a b)) = lt
  deep lt (BiAt at (Sync c)) = lt
  deep lt (BiAt at (SyncCall c j)) = lt
  deep lt (BiAt at (Link x y)) = lt
  deep lt (BiAt at (Note x)) = lt
  deep lt (BiAt at (BiIf t u a b)) = lt
  deep lt (BiAt at (BiWhile h b)) = lt

  rows_within : d ≤ l.deepest → ReadsRows
  rows_within le =
      many_reads l (show_each d) IsShapedBicommand r (λ (u : Unit {0}). word (codes "}") ∷ []) Always (expect_at close_brace) begins_bicommand 1 l.most (omega arith) (omega arith) (shallow le) commands (word_reads l close_brace tt) (always_bicommand d) (some_bicommand l d) no_brace

  rows_beyond : 0 < l.most → l.deepest < d → ReadsRows
  rows_beyond some lt =
      many_none_reads l (show_each d) IsShapedBicommand r (λ (u : Unit {0}). word (codes "}") ∷ []) Always (expect_at close_brace) begins_bicommand l.most some (deep lt) commands (word_reads l close_brace tt) (always_bicommand d) no_brace

  abbrev show_body : BiBlock → List Mark
  show_body b = show_bicommands d 1 b ++ word (codes "}") ∷ []

  biblock_by_rows : ReadsRows → Reads l (show_biblock d) IsShapedBiblock (after open_brace (before close_brace (made biblock_from (many_at begins_bicommand r l.most))))
  biblock_by_rows rows =
      let one : Reads l show_body Rows (made (λ (q : List BiCommand × Unit {0}). biblock_from q.0) (both (many_at begins_bicommand r l.most) (expect_at close_brace)))
      = made_reads l _ _ _ show_body Rows (λ q. biblock_from q.0) (λ b. (list_of b, tt)) rows (λ q. ap (λ xs. (xs, q.1)) (list_again q.0)) block_again (λ b. ap (λ ms. ms ++ word (codes "}") ∷ []) (biblock_shown d 1 b)) (λ b. refl) in
      let two = subst (Reads l show_body Rows) (made_first biblock_from close_brace (many_at begins_bicommand r l.most)) one in
      after_reads l _ _ _ open_brace tt (reshaped l show_body Rows IsShapedBiblock _ shape_of_rows rows_of_shape two)

biblock_for : (l : Limits) (d left : ℕ) → d + left ≡ suc l.deepest → 0 < l.most → Reads l (show_each d) IsShapedBicommand (ended_bicommand_at l.most left) → Reads l (show_biblock d) IsShapedBiblock (biblock_at l.most left)
biblock_for l d zero sum some commands = biblock_by_rows l d (ended_bicommand_at l.most zero) commands (rows_beyond l d (ended_bicommand_at l.most zero) commands some (omega arith))
biblock_for l d (suc left) sum some commands = biblock_by_rows l d (ended_bicommand_at l.most (suc left)) commands (rows_within l d (ended_bicommand_at l.most (suc left)) commands (omega arith))

-- ---- all bicommands

pub ended_bicommand_reads : (l : Limits) (d left : ℕ) → d + left ≡ suc l.deepest → 0 < l.most → Reads l (λ c. closed (show_bicommand d c)) IsShapedBicommand (ended_bicommand_at l.most left)
unfolding bicommand_at
ended_bicommand_reads l d zero sum some = too_deep_level l d (omega arith)
ended_bicommand_reads l d (suc left) sum some =
    let next : suc d + left ≡ suc l.deepest = omega arith in
    bilevel_reads l d left (biblock_at l.most left) (formula_reads l (suc d) left next) (rel_reads l (suc d) left next) (block_reads l (suc d) left next some) (synced_at_reads l (suc d) left next)
    (biblock_for l (suc d) left next some (ended_bicommand_reads l (suc d) left next some)) (omega arith)

pub biblock_reads : (l : Limits) (d left : ℕ) → d + left ≡ suc l.deepest → 0 < l.most → Reads l (show_biblock d) IsShapedBiblock (biblock_at l.most left)
biblock_reads l d left sum some = biblock_for l d left sum some (ended_bicommand_reads l d left sum some)
