-- Commands with their semicolon, and blocks, are read exactly.
use Rattle.std.proofs.Common.{◌≡◌, ℕ, zero, suc, ◌+◌, ◌<◌, ◌≤◌, true, List, [], ◌∷◌, ◌++◌, length, ◌⊎◌, inl, inr, refl, sym, ap, subst, ◌∙◌, append_assoc, arith}
use Rattle.std.proofs.Math.Path.{fun_ext, ap₂}
use Rattle.std.proofs.lemmas.Bool.{or_cases}
use Rattle.std.specs.Prelude.{codes}
use Rattle.std.specs.List.{AllByRecursion}
use Rattle.rel_lang.specs.Syntax.{Word, Expression, Formula, True, Command, At, Form, Skip, Assign, Load, Store, New, Call, If, While, Block, End, Then}
use Rattle.rel_lang.specs.Text.{Mark, word, braced, begins, tree, element, repeated, behind, listed, show_expression, show_formula, show_form, show_command, show_commands, show_block}
use Rattle.rel_lang.specs.Refusal.{Limits, GoesOn, Reason}
use Rattle.rel_lang.specs.View.{block_from}
use Rattle.rel_lexer.specs.declared.Token.{Token}
use Rattle.rel_lexer.specs.Tokens.{tokens_of}
use Rattle.rel_lexer.specs.declared.Kind.{Kind}
use Rattle.rel_lexer.specs.declared.Kind.TheVariants as kind
use Rattle.rel_lexer.specs.declared.keywords.Keyword.TheVariants as keyword
use Rattle.rel_lexer.specs.declared.symbols.Symbol.TheVariants as symbol
use Rattle.rel_parse.specs.Reading.{Refused, Reader, same_fixed, is_name_kind, is_next, expect_at, made, both, after, before, placed, either, many_at, too_deep_at}
use Rattle.rel_parse.specs.Firsts.{First, AName, ANumber, This, begins_one}
use Rattle.rel_parse.specs.Expressions.{expression_at}
use Rattle.rel_parse.specs.Formulas.{formula_at}
use Rattle.rel_parse.specs.Commands.{branches_at, loop_at, form_at, command_firsts, begins_command, ended_command_at, commands_at, block_at, command_at}
use Rattle.rel_parse.proofs.Laws.{HaveKinds, CanAllBeSaid, AreTold, Good, Refuses, Reads, Always, NeverBegins, AlwaysBegins, SomeBegins, IsBare, IsShallow, IsTooDeep, word_reads, both_reads, after_reads, before_reads, made_reads, placed_reads, tree_reads, too_deep_reads, many_reads, many_none_reads}
use Rattle.rel_parse.proofs.Firsts.{BeginsAs, IsFirst, are_apart, Image, choose_of, production, whole, always_begins, never_begins, some_mark, told_append, fixed_of_kind, name_of_kind}
use Rattle.rel_parse.proofs.Ended.{before_made, before_placed, before_either, before_too_deep, made_first}
use Rattle.rel_parse.proofs.Atoms.{semicolon, closed, Fresh, Called, Loaded, Plain, Stored, Valued, name_from, atom_reads, atom_shown, skip_reads, atom_ended, atom_same}
use Rattle.rel_parse.proofs.Expressions.{told_expression, expression_reads}
use Rattle.rel_parse.proofs.Formulas.{told_formula, formula_reads}

-- ---- told marks

told_repeated : (d n : ℕ) (es : List Expression) → AreTold (repeated (behind (codes ",") (show_expression d)) n es)
told_repeated d n [] = tt
told_repeated d n (e ∷ es) = (tt, told_append (show_expression d e) (repeated (behind (codes ",") (show_expression d)) (suc n) es) (told_expression d e) (told_repeated d (suc n) es))

told_listed : (d : ℕ) (es : List Expression) → AreTold (listed (show_expression d) es)
told_listed d [] = tt
told_listed d (e ∷ es) = told_append (show_expression d e) (repeated (behind (codes ",") (show_expression d)) 1 es) (told_expression d e) (told_repeated d 1 es)

pub told_braced : (ms : List Mark) → AreTold ms → AreTold (braced ms)
told_braced ms told = (tt, told_append ms (word (codes "}") ∷ []) told (tt, tt))

pub told_marked : (n at d : ℕ) (ms : List Mark) → AreTold ms → AreTold (element n (begins at (tree d ms)))
told_marked n at d [] told = tt
told_marked n at d (m ∷ ms) told = told

mutual
  pub told_form : (d : ℕ) (f : Form) → AreTold (show_form d f)
  told_form d Skip = (tt, tt)
  told_form d (Assign x v) = (tt, (tt, told_expression (suc d) v))
  told_form d (Load x y f) = (tt, (tt, (refl, (tt, (tt, tt)))))
  told_form d (Store y f v) = (tt, (tt, (tt, (tt, told_expression (suc d) v))))
  told_form d (New x c) = (tt, (tt, (tt, (tt, tt))))
  told_form d (Call x q es) = (tt, (tt, (tt, (tt, (tt, told_append (listed (show_expression (suc d)) es) (word (codes ")") ∷ []) (told_listed (suc d) es) (tt, tt))))))
  told_form d (If t x y) = (
    tt,
    told_append (show_formula (suc d) t ++ braced (show_commands (suc d) 1 x)) (word (codes "else") ∷ braced (show_commands (suc d) 1 y))
        (told_append (show_formula (suc d) t) (braced (show_commands (suc d) 1 x)) (told_formula (suc d) t) (told_braced (show_commands (suc d) 1 x) (told_commands (suc d) 1 x)))
        (tt, told_braced (show_commands (suc d) 1 y) (told_commands (suc d) 1 y)),
  )
  told_form d (While t i x) = (
    tt,
    told_append (show_formula (suc d) t ++ word (codes "inv") ∷ show_formula (suc d) i) (braced (show_commands (suc d) 1 x))
        (told_append (show_formula (suc d) t) (word (codes "inv") ∷ show_formula (suc d) i) (told_formula (suc d) t) (tt, told_formula (suc d) i))
        (told_braced (show_commands (suc d) 1 x) (told_commands (suc d) 1 x)),
  )

  pub told_commands : (d n : ℕ) (b : Block) → AreTold (show_commands d n b)
  told_commands d n End = tt
  told_commands d n (Then (At at f) cs) =
      told_append (element n (begins at (tree d (show_form d f)))) (word (codes ";") ∷ show_commands d (suc n) cs) (told_marked n at d (show_form d f) (told_form d f)) (tt, told_commands d (suc n) cs)

pub told_closed : (ms : List Mark) → AreTold ms → AreTold (closed ms)
told_closed ms told = told_append ms (word (codes ";") ∷ []) told (tt, tt)

-- ---- one level

module _ (l : Limits) (d : ℕ) (e : Reader Expression) (p : Reader Formula) (b : Reader Block)
    (expressions : Reads l (show_expression (suc d)) Always e) (formulas : Reads l (show_formula (suc d)) Always p) (blocks : Reads l (show_block (suc d)) Always b) where
  abbrev show_closed : Form → List Mark
  show_closed f = closed (show_form d f)

  abbrev show_if : Formula × (Block × Block) → List Mark
  show_if q = closed (word (codes "if") ∷ (show_formula (suc d) q.0 ++ (show_block (suc d) q.1.0 ++ (word (codes "else") ∷ show_block (suc d) q.1.1))))

  abbrev show_while : Formula × (Formula × Block) → List Mark
  show_while q = closed (word (codes "while") ∷ (show_formula (suc d) q.0 ++ (word (codes "inv") ∷ (show_formula (suc d) q.1.0 ++ show_block (suc d) q.1.1))))

  if_reads : Reads l show_if (λ q. Unit {0} × (Unit {0} × Unit {0})) (before semicolon (after (kind.Word keyword.If) (branches_at p b)))
  if_reads = before_reads l _ _ _ semicolon tt (after_reads l _ _ _ (kind.Word keyword.If) tt (both_reads l _ _ _ _ _ _ formulas (both_reads l _ _ _ _ _ _ blocks (after_reads l _ _ _ (kind.Word keyword.Else) tt blocks))))

  while_reads : Reads l show_while (λ q. Unit {0} × (Unit {0} × Unit {0})) (before semicolon (after (kind.Word keyword.While) (loop_at p b)))
  while_reads = before_reads l _ _ _ semicolon tt (after_reads l _ _ _ (kind.Word keyword.While) tt (both_reads l _ _ _ _ _ _ formulas (after_reads l _ _ _ (kind.Word keyword.Inv) tt (both_reads l _ _ _ _ _ _ formulas blocks))))

  if_shown : (q : Formula × (Block × Block)) → show_closed (If q.0 q.1.0 q.1.1) ≡ show_if q
  if_shown q = ap (λ ms. closed (word (codes "if") ∷ ms)) (append_assoc (show_formula (suc d) q.0) (show_block (suc d) q.1.0) (word (codes "else") ∷ show_block (suc d) q.1.1))

  while_shown : (q : Formula × (Formula × Block)) → show_closed (While q.0 q.1.0 q.1.1) ≡ show_while q
  while_shown q = ap (λ ms. closed (word (codes "while") ∷ ms)) (append_assoc (show_formula (suc d) q.0) (word (codes "inv") ∷ show_formula (suc d) q.1.0) (show_block (suc d) q.1.1))

  abbrev form_ended : Reader Form
  form_ended =
      either (is_next (kind.Word keyword.If)) (made (λ q. If q.0 q.1.0 q.1.1) (before semicolon (after (kind.Word keyword.If) (branches_at p b))))
      (either (is_next (kind.Word keyword.While)) (made (λ q. While q.0 q.1.0 q.1.1) (before semicolon (after (kind.Word keyword.While) (loop_at p b)))) (atom_ended l d e expressions))

  form_same : before semicolon (form_at l.most e p b) ≡ form_ended
  form_same =
      before_either semicolon (is_next (kind.Word keyword.If)) _ _
      ∙ ap₂ (either (is_next (kind.Word keyword.If))) (before_made semicolon (λ q. If q.0 q.1.0 q.1.1) _)
      (before_either semicolon (is_next (kind.Word keyword.While)) _ _
      ∙ ap₂ (either (is_next (kind.Word keyword.While))) (before_made semicolon (λ q. While q.0 q.1.0 q.1.1) _) (atom_same l d e expressions))

  form_total : (f : Form) → Image (λ (q : Formula × (Block × Block)). If q.0 q.1.0 q.1.1) (λ q. Unit {0} × (Unit {0} × Unit {0})) f
      ⊎ (Image (λ (q : Formula × (Formula × Block)). While q.0 q.1.0 q.1.1) (λ q. Unit {0} × (Unit {0} × Unit {0})) f
      ⊎ (Image (λ (u : Unit {0}). Skip) Always f ⊎ Image name_from (λ q. Unit {0} × Unit {0}) f))
  form_total (If t x y) = inl ((t, (x, y)), refl, (tt, (tt, tt)))
  form_total (While t i x) = inr (inl ((t, (i, x)), refl, (tt, (tt, tt))))
  form_total Skip = inr (inr (inl (tt, refl, tt)))
  form_total (Assign x v) = inr (inr (inr ((x, Valued (Plain v)), refl, (tt, tt))))
  form_total (Load x y f) = inr (inr (inr ((x, Valued (Loaded y f)), refl, (tt, tt))))
  form_total (Store y f v) = inr (inr (inr ((y, Stored f v), refl, (tt, tt))))
  form_total (New x c) = inr (inr (inr ((x, Valued (Fresh c)), refl, (tt, tt))))
  form_total (Call x q es) = inr (inr (inr ((x, Valued (Called (q, es))), refl, (tt, tt))))

  form_told : (f : Form) → AreTold (show_closed f)
  form_told f = told_closed (show_form d f) (told_form d f)

  form_marks : (f : Form) → 0 < length (show_closed f)
  form_marks (If t x y) = omega arith
  form_marks (While t i x) = omega arith
  form_marks Skip = omega arith
  form_marks (Assign x v) = omega arith
  form_marks (Load x y f) = omega arith
  form_marks (Store y f v) = omega arith
  form_marks (New x c) = omega arith
  form_marks (Call x q es) = omega arith

  form_reads : Reads l show_closed Always form_ended
  form_reads =
      whole l show_closed _ _ _
      (choose_of (production l _ _ _ show_closed (λ (q : Formula × (Block × Block)). If q.0 q.1.0 q.1.1) (This (kind.Word keyword.If) ∷ []) if_reads if_shown (λ q. (This (kind.Word keyword.If), inl refl, (tt, refl))))
      (choose_of (production l _ _ _ show_closed (λ (q : Formula × (Formula × Block)). While q.0 q.1.0 q.1.1) (This (kind.Word keyword.While) ∷ []) while_reads while_shown (λ q. (This (kind.Word keyword.While), inl refl, (tt, refl))))
      (choose_of (production l _ _ _ show_closed (λ (u : Unit {0}). Skip) (This (kind.Word keyword.Skip) ∷ []) (skip_reads l) (λ u. refl) (λ u. (This (kind.Word keyword.Skip), inl refl, (tt, refl))))
      (production l _ _ _ show_closed name_from (AName ∷ []) (atom_reads l d e expressions) (atom_shown l d e expressions) (λ q. (AName, inl refl, (q.0, refl)))) refl) refl) refl)
      form_total form_marks form_told

  form_bare : (f : Form) → IsBare (show_closed f)
  form_bare Skip = (refl, refl)
  form_bare _ = (refl, refl)

  abbrev command_parts : Command → ℕ × Form
  command_parts (At at f) = (at, f)

  abbrev command_from : ℕ × Form → Command
  command_from q = At q.0 q.1

  parts_again : (c : Command) → command_from (command_parts c) ≡ c
  parts_again (At at f) = refl

  command_shown : (c : Command) → begins (command_parts c).0 (tree d (show_closed (command_parts c).1)) ≡ closed (show_command d c)
  command_shown (At at Skip) = refl
  command_shown (At at (Assign x v)) = refl
  command_shown (At at (Load x y f)) = refl
  command_shown (At at (Store y f v)) = refl
  command_shown (At at (New x c)) = refl
  command_shown (At at (Call x q es)) = refl
  command_shown (At at (If t x y)) = refl
  command_shown (At at (While t i x)) = refl

  command_same : made command_from (placed form_ended) ≡ before semicolon (made command_from (placed (form_at l.most e p b)))
  command_same = sym (before_made semicolon command_from _ ∙ ap (made command_from) (before_placed semicolon (form_at l.most e p b) ∙ ap placed form_same))

  pub level_reads : d ≤ l.deepest → Reads l (λ c. closed (show_command d c)) Always (before semicolon (made command_from (placed (form_at l.most e p b))))
  level_reads le =
      let one = placed_reads l _ _ _ (tree_reads l show_closed Always form_ended d le form_bare form_reads) in
      subst (Reads l (λ c. closed (show_command d c)) Always) command_same
      (made_reads l _ _ _ (λ c. closed (show_command d c)) Always command_from command_parts one (λ q. refl) parts_again command_shown (λ c. refl))

-- ---- the first tokens of commands

abbrev show_each : ℕ → Command → List Mark
show_each d c = closed (show_command d c)

-- without the depth
abbrev show_flat : ℕ → Command → List Mark
show_flat d (At at f) = begins at (closed (show_form d f))

flat_begins : (d : ℕ) (c : Command) → BeginsAs command_firsts (show_flat d c)
flat_begins d (At at Skip) = (This (kind.Word keyword.Skip), inr (inl refl), (tt, refl))
flat_begins d (At at (Assign x v)) = (AName, inl refl, (x, refl))
flat_begins d (At at (Load x y f)) = (AName, inl refl, (x, refl))
flat_begins d (At at (Store y f v)) = (AName, inl refl, (y, refl))
flat_begins d (At at (New x c)) = (AName, inl refl, (x, refl))
flat_begins d (At at (Call x q es)) = (AName, inl refl, (x, refl))
flat_begins d (At at (If t x y)) = (This (kind.Word keyword.If), inr (inr (inl refl)), (tt, refl))
flat_begins d (At at (While t i x)) = (This (kind.Word keyword.While), inr (inr (inr (inl refl))), (tt, refl))

flat_shown : (d : ℕ) (c : Command) → tree d (show_flat d c) ≡ show_each d c
flat_shown d (At at Skip) = refl
flat_shown d (At at (Assign x v)) = refl
flat_shown d (At at (Load x y f)) = refl
flat_shown d (At at (Store y f v)) = refl
flat_shown d (At at (New x c)) = refl
flat_shown d (At at (Call x q es)) = refl
flat_shown d (At at (If t x y)) = refl
flat_shown d (At at (While t i x)) = refl

pub begins_tree : (cs : List First) (d : ℕ) (ms : List Mark) → BeginsAs cs ms → BeginsAs cs (tree d ms)
begins_tree cs d [] b = b
begins_tree cs d (m ∷ ms) (AName, among, first) = (AName, among, first)
begins_tree cs d (m ∷ ms) (ANumber, among, first) = (ANumber, among, first)
begins_tree cs d (m ∷ ms) (This k, among, first) = (This k, among, first)

command_begins : (d : ℕ) (c : Command) → BeginsAs command_firsts (show_each d c)
command_begins d c = subst (BeginsAs command_firsts) (flat_shown d c) (begins_tree command_firsts d (show_flat d c) (flat_begins d c))

flat_told : (d : ℕ) (c : Command) → AreTold (show_flat d c)
flat_told d (At at f) = told_placed at (closed (show_form d f)) (told_closed (show_form d f) (told_form d f))
  where
    told_placed : (at : ℕ) (ms : List Mark) → AreTold ms → AreTold (begins at ms)
    told_placed at [] told = tt
    told_placed at (m ∷ ms) told = told

always_command : (d : ℕ) → AlwaysBegins (show_each d) Always begins_command
always_command d c ts kinds good goes = always_begins command_firsts (show_each d c) ts (command_begins d c) kinds good.1 goes

always_flat : (d : ℕ) → AlwaysBegins (show_flat d) Always begins_command
always_flat d c ts kinds good goes = always_begins command_firsts (show_flat d c) ts (flat_begins d c) kinds good.1 goes

-- some command begins with a token that passes
some_flat : (d : ℕ) → SomeBegins (show_flat d) Always begins_command
some_flat d [] kinds pass = absurd cc
some_flat d (t ∷ ts) kinds pass =
    elim (or_cases (is_name_kind t.kind) _ pass) [
      | inl name ↦ (let n = name_of_kind t.kind t.text.now kinds.0 name in (At t.at (New t.text.now t.text.now), (tt, (n, (tt, (tt, (n, (tt, tt)))))), (refl, (refl, tt), tt, tt)))
      | inr word ↦ elim (or_cases (same_fixed t.kind (kind.Word keyword.Skip)) _ word) [
        | inl is ↦ (At t.at Skip, (tt, (tt, (tt, tt))), (fixed_of_kind t.kind (kind.Word keyword.Skip) t.text.now kinds.0 is, (refl, tt), tt, tt))
        | inr block ↦ elim (or_cases (same_fixed t.kind (kind.Word keyword.If)) _ block) [
          | inl is ↦ (At t.at (If True End End), (tt, (tt, (tt, (tt, (tt, (tt, (tt, (tt, (tt, tt))))))))), (fixed_of_kind t.kind (kind.Word keyword.If) t.text.now kinds.0 is, (refl, tt), tt, tt))
          | inr is ↦ (At t.at (While True True End), (tt, (tt, (tt, (tt, (tt, (tt, (tt, (tt, tt)))))))), (fixed_of_kind t.kind (kind.Word keyword.While) t.text.now kinds.0 is, (refl, tt), tt, tt))
        ]
      ]
    ]

pub unleveled : (d : ℕ) (ms : List Mark) (ts : List Token) → GoesOn 1 ms (tokens_of ts) → GoesOn 1 (tree d ms) (tokens_of ts)
unleveled d [] ts goes = goes
unleveled d (m ∷ ms) [] goes = goes
unleveled d (m ∷ ms) (t ∷ ts) goes = goes

pub can_tree : (d : ℕ) (ms : List Mark) → CanAllBeSaid ms → CanAllBeSaid (tree d ms)
can_tree d [] can = can
can_tree d (m ∷ ms) can = can

some_command : (d : ℕ) → SomeBegins (show_each d) Always begins_command
some_command d ts kinds pass =
    let s = some_flat d ts kinds pass in
    (s.0, (tt, subst CanAllBeSaid (flat_shown d s.0) (can_tree d (show_flat d s.0) s.1.1)), subst (λ ms. GoesOn 1 ms (tokens_of ts)) (flat_shown d s.0) (unleveled d (show_flat d s.0) ts s.2))

too_deep_level : (l : Limits) (d : ℕ) → l.deepest < d → Reads l (show_each d) Always (before semicolon (too_deep_at begins_command))
too_deep_level l d lt =
    let one = too_deep_reads l (show_flat d) Always d begins_command lt (At 0 Skip, (tt, (tt, (tt, tt)))) (λ c. some_mark command_firsts (show_flat d c) (flat_begins d c)) (flat_told d) (always_flat d) (some_flat d) in
    subst (Reads l (show_each d) Always) (sym (before_too_deep semicolon begins_command)) (subst (λ show. Reads l show Always (too_deep_at begins_command)) (fun_ext (flat_shown d)) one)

-- ---- blocks

list_of : Block → List Command
list_of End = []
list_of (Then c cs) = c ∷ list_of cs

block_again : (b : Block) → block_from (list_of b) ≡ b
unfolding list_of
block_again End = refl
block_again (Then c cs) = ap (λ x. Then c x) (block_again cs)

list_again : (cs : List Command) → list_of (block_from cs) ≡ cs
unfolding list_of
list_again [] = refl
list_again (c ∷ cs) = ap (λ xs. c ∷ xs) (list_again cs)

element_closed : (n at d : ℕ) (f : Form) → element n (closed (begins at (tree d (show_form d f)))) ≡ closed (element n (begins at (tree d (show_form d f))))
element_closed n at d Skip = refl
element_closed n at d (Assign x v) = refl
element_closed n at d (Load x y f) = refl
element_closed n at d (Store y f v) = refl
element_closed n at d (New x c) = refl
element_closed n at d (Call x q es) = refl
element_closed n at d (If t x y) = refl
element_closed n at d (While t i x) = refl

block_shown : (d n : ℕ) (b : Block) → repeated (show_each d) n (list_of b) ≡ show_commands d n b
unfolding list_of
block_shown d n End = refl
block_shown d n (Then (At at f) cs) =
    ap₂ (λ ms ns. ms ++ ns) (element_closed n at d f) (block_shown d (suc n) cs)
    ∙ append_assoc (element n (begins at (tree d (show_form d f)))) (word (codes ";") ∷ []) (show_commands d (suc n) cs)

all_always : (cs : List Command) → AllByRecursion Always cs
all_always [] = tt
all_always (c ∷ cs) = (tt, all_always cs)

abbrev open_brace : Kind
open_brace = kind.Symbol symbol.OpenBrace

abbrev close_brace : Kind
close_brace = kind.Symbol symbol.CloseBrace

-- a shape that all have may be left out
module _ (l : Limits) {X : Type 0} (show : X → List Mark) (P : X → Type 0) (r : Reader X) (total : (x : X) → P x) (one : Reads l show P r) where
  shaped : (x : X) → Good show Always x → Good show P x
  shaped x good = (total x, good.1)

  refused_still : (ts : List Token) (why : Reason) (left : ℕ) → HaveKinds ts → r ts ≡ Refused why left → Refuses l show Always why left ts
  refused_still ts why left kinds h =
      let g = one.refused ts why left kinds h in
      record { passed = g.passed; behind = g.behind; begun = (g.begun.0, (tt, g.begun.1.1), g.begun.2, g.begun.3, g.begun.4); stuck = λ y good goes. g.stuck y (shaped y good) goes }

  pub unshaped : Reads l show Always r
  unshaped = record {
    one = (one.one.0, (tt, one.one.1.1));
    some_mark = one.some_mark;
    told = one.told;
    sole = λ x good y ts n kinds good2 le within goes goes2. one.sole x (shaped x good) y ts n kinds (shaped y good2) le within goes goes2;
    found = λ ts rest x kinds h. let g = one.found ts rest x kinds h in (g.0, (tt, g.1.1), g.2);
    refused = refused_still;
  }

module _ (l : Limits) (d : ℕ) (r : Reader Command) (commands : Reads l (show_each d) Always r) where
  -- the commands before the closing brace
  abbrev Rows : Type 0
  Rows = Reads l {X = List Command × Unit {0}} (λ q. repeated (show_each d) 1 q.0 ++ word (codes "}") ∷ []) (λ q. AllByRecursion Always q.0 × Unit {0}) (both (many_at begins_command r l.most) (expect_at close_brace))

  no_brace : NeverBegins (λ (u : Unit {0}). word (codes "}") ∷ []) Always begins_command
  no_brace u ts kinds good goes = never_begins command_firsts (This close_brace ∷ []) (word (codes "}") ∷ []) ts refl (This close_brace, inl refl, (tt, refl)) kinds good.1 goes

  shallow : d ≤ l.deepest → (c : Command) → IsShallow l (show_each d c)
  shallow le (At at Skip) = (le, refl)
  shallow le (At at (Assign x v)) = (le, refl)
  shallow le (At at (Load x y f)) = (le, refl)
  shallow le (At at (Store y f v)) = (le, refl)
  shallow le (At at (New x c)) = (le, refl)
  shallow le (At at (Call x q es)) = (le, refl)
  shallow le (At at (If t x y)) = (le, refl)
  shallow le (At at (While t i x)) = (le, refl)

  deep : l.deepest < d → (c : Command) → IsTooDeep l (show_each d c)
  deep lt (At at Skip) = lt
  deep lt (At at (Assign x v)) = lt
  deep lt (At at (Load x y f)) = lt
  deep lt (At at (Store y f v)) = lt
  deep lt (At at (New x c)) = lt
  deep lt (At at (Call x q es)) = lt
  deep lt (At at (If t x y)) = lt
  deep lt (At at (While t i x)) = lt

  rows_within : d ≤ l.deepest → Rows
  rows_within le =
      many_reads l (show_each d) Always r (λ (u : Unit {0}). word (codes "}") ∷ []) Always (expect_at close_brace) begins_command 1 l.most (omega arith) (omega arith) (shallow le) commands (word_reads l close_brace tt) (always_command d) (some_command d) no_brace

  rows_beyond : 0 < l.most → l.deepest < d → Rows
  rows_beyond some lt =
      many_none_reads l (show_each d) Always r (λ (u : Unit {0}). word (codes "}") ∷ []) Always (expect_at close_brace) begins_command l.most some (deep lt) commands (word_reads l close_brace tt) (always_command d) no_brace

  abbrev show_body : Block → List Mark
  show_body b = show_commands d 1 b ++ word (codes "}") ∷ []

  body_by_rows : Rows → Reads l show_body Always (before close_brace (made block_from (many_at begins_command r l.most)))
  body_by_rows rows =
      let one : Reads l show_body (λ b. AllByRecursion Always (list_of b) × Unit {0}) (made (λ (q : List Command × Unit {0}). block_from q.0) (both (many_at begins_command r l.most) (expect_at close_brace)))
      = made_reads l _ _ _ show_body (λ b. AllByRecursion Always (list_of b) × Unit {0}) (λ q. block_from q.0) (λ b. (list_of b, tt)) rows (λ q. ap (λ xs. (xs, q.1)) (list_again q.0)) block_again (λ b. ap (λ ms. ms ++ word (codes "}") ∷ []) (block_shown d 1 b)) (λ b. refl) in
      let two = subst (Reads l show_body (λ b. AllByRecursion Always (list_of b) × Unit {0})) (made_first block_from close_brace (many_at begins_command r l.most)) one in
      unshaped l show_body (λ b. AllByRecursion Always (list_of b) × Unit {0}) _ (λ b. (all_always (list_of b), tt)) two

  block_by_rows : Rows → Reads l (show_block d) Always (after open_brace (before close_brace (made block_from (many_at begins_command r l.most))))
  block_by_rows rows = after_reads l show_body Always _ open_brace tt (body_by_rows rows)

block_for : (l : Limits) (d left : ℕ) → d + left ≡ suc l.deepest → 0 < l.most → Reads l (show_each d) Always (ended_command_at l.most left) → Reads l (show_block d) Always (block_at l.most left)
block_for l d zero sum some commands = block_by_rows l d (ended_command_at l.most zero) commands (rows_beyond l d (ended_command_at l.most zero) commands some (omega arith))
block_for l d (suc left) sum some commands = block_by_rows l d (ended_command_at l.most (suc left)) commands (rows_within l d (ended_command_at l.most (suc left)) commands (omega arith))

-- ---- all commands

pub ended_command_reads : (l : Limits) (d left : ℕ) → d + left ≡ suc l.deepest → 0 < l.most → Reads l (λ c. closed (show_command d c)) Always (ended_command_at l.most left)
unfolding command_at
ended_command_reads l d zero sum some = too_deep_level l d (omega arith)
ended_command_reads l d (suc left) sum some =
    let next : suc d + left ≡ suc l.deepest = omega arith in
    level_reads l d (expression_at left) (formula_at left) (block_at l.most left) (expression_reads l (suc d) left next) (formula_reads l (suc d) left next) (block_for l (suc d) left next some (ended_command_reads l (suc d) left next some)) (omega arith)

pub block_reads : (l : Limits) (d left : ℕ) → d + left ≡ suc l.deepest → 0 < l.most → Reads l (show_block d) Always (block_at l.most left)
block_reads l d left sum some = block_for l d left sum some (ended_command_reads l d left sum some)

-- ---- the commands before the closing brace of a body

abbrev pub show_to_brace : ℕ → Block → List Mark
show_to_brace d b = show_commands d 1 b ++ word (codes "}") ∷ []

pub to_brace_reads : (l : Limits) (d left : ℕ) → d + left ≡ suc l.deepest → 0 < l.most → Reads l (show_to_brace d) Always (before close_brace (commands_at l.most left))
to_brace_reads l d zero sum some =
    let one = ended_command_reads l d zero sum some in body_by_rows l d (ended_command_at l.most zero) one (rows_beyond l d (ended_command_at l.most zero) one some (omega arith))
to_brace_reads l d (suc left) sum some =
    let one = ended_command_reads l d (suc left) sum some in body_by_rows l d (ended_command_at l.most (suc left)) one (rows_within l d (ended_command_at l.most (suc left)) one (omega arith))

-- with these they begin
abbrev pub to_brace_firsts : List First
to_brace_firsts = This close_brace ∷ command_firsts

more_marks : (c : First) (n : ℕ) (ms ns : List Mark) → IsFirst c ms → IsFirst c (element n ms ++ ns)
more_marks AName n [] ns first = absurd first
more_marks ANumber n [] ns first = absurd first
more_marks (This k) n [] ns first = absurd first
more_marks AName n (m ∷ ms) ns first = first
more_marks ANumber n (m ∷ ms) ns first = first
more_marks (This k) n (m ∷ ms) ns first = first

pub to_brace_begins : (d : ℕ) (b : Block) → BeginsAs to_brace_firsts (show_to_brace d b)
to_brace_begins d b = subst (λ ms. BeginsAs to_brace_firsts (ms ++ word (codes "}") ∷ [])) (block_shown d 1 b) (begun (list_of b))
  where
    begun : (cs : List Command) → BeginsAs to_brace_firsts (repeated (show_each d) 1 cs ++ word (codes "}") ∷ [])
    begun [] = (This close_brace, inl refl, (tt, refl))
    begun (c ∷ cs) =
        let f = command_begins d c in
        (f.0, inr f.1, subst (IsFirst f.0) (sym (append_assoc (element 1 (show_each d c)) (repeated (show_each d) 2 cs) (word (codes "}") ∷ []))) (more_marks f.0 1 (show_each d c) (repeated (show_each d) 2 cs ++ word (codes "}") ∷ []) f.2))

pub to_brace_never : (d : ℕ) (cs : List First) → are_apart cs to_brace_firsts ≡ true → NeverBegins (show_to_brace d) Always (begins_one cs)
to_brace_never d cs apart b ts kinds good goes = never_begins cs to_brace_firsts (show_to_brace d b) ts apart (to_brace_begins d b) kinds good.1 goes
