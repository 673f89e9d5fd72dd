-- What stands under `sync` is read exactly.
use Rattle.std.proofs.Common.{◌≡◌, ℕ, zero, suc, ◌+◌, ◌<◌, ◌≤◌, Bool, true, false, List, [], ◌∷◌, ◌++◌, length, ◌⊎◌, inl, inr, refl, sym, ap, subst, ◌∙◌, arith}
use Rattle.std.proofs.Math.Path.{fun_ext, ap₂}
use Rattle.std.proofs.lemmas.Bool.{or_cases}
use Rattle.std.specs.Prelude.{codes, if◌then◌else◌}
use Rattle.rel_lang.specs.Syntax.{Word, Expression, At, Form, Skip, Assign, Load, Store, New, Call, BiForm, Sync, SyncCall}
use Rattle.rel_lang.specs.Text.{Mark, word, named, begins, tree, show_expression, show_form}
use Rattle.rel_lang.specs.Refusal.{Limits, Unexpected, TooDeep}
use Rattle.rel_lexer.specs.declared.Token.{Token}
use Rattle.rel_lexer.specs.declared.Kind.TheVariants as kind
use Rattle.rel_lexer.specs.declared.keywords.Keyword.TheVariants as keyword
use Rattle.rel_lexer.specs.declared.symbols.Symbol.TheVariants as symbol
use Rattle.rel_parse.specs.Reading.{Reading, Got, Refused, Reader, then_read, is_name_kind, is_next, name_at, expect_at, place_of, made, both, after, before, placed, either, too_deep_at}
use Rattle.rel_parse.specs.Firsts.{AName, This}
use Rattle.rel_parse.specs.Commands.{call_at, is_field_next, field_at, value_at, stored_at, named_at, atom_at, atom_firsts, begins_atom}
use Rattle.rel_parse.specs.Biprograms.{used_at, atom_command_at, sync_at}
use Rattle.rel_parse.specs.Expressions.{expression_at}
use Rattle.rel_parse.proofs.Laws.{AreTold, Reads, Always, SomeBegins, IsBare, name_reads, both_reads, after_reads, before_reads, placed_reads, tree_reads, too_deep_reads}
use Rattle.rel_parse.proofs.Firsts.{BeginsAs, Image, choose_of, production, whole, always_begins, some_mark, told_append, fixed_of_kind, name_of_kind}
use Rattle.rel_parse.proofs.Ended.{then_then, before_made, before_either, before_placed}
use Rattle.rel_parse.proofs.Atoms.{semicolon, closed, Calling, Value, Fresh, Called, Loaded, Plain, Rest, Stored, Valued, value_raw, rest_raw, Calls, all_calls, show_call, call_reads, show_named, named_ended, named_reads, named_same, skip_reads}
use Rattle.rel_parse.proofs.Commands.{told_closed, told_form}
use Rattle.rel_parse.proofs.Expressions.{expression_reads}

abbrev pub using : Reader Word
using = after (kind.Word keyword.Using) name_at

-- a call with its judgement
abbrev pub Judged : Type 0
Judged = Calling × Word

abbrev pub judged_at : ℕ → Reader Expression → Reader Judged
judged_at most e = both (call_at most e) using

pub data Synced : Type 0 where
  Idle : Synced
  Does : Word → Rest Judged → Synced

abbrev pub value_form : ℕ → Word → Value Judged → BiForm
value_form at x (Fresh c) = Sync (At at (New x c))
value_form at x (Called p) = SyncCall (At at (Call x p.0.0 p.0.1)) p.1
value_form at x (Loaded y f) = Sync (At at (Load x y f))
value_form at x (Plain v) = Sync (At at (Assign x v))

abbrev pub rest_form : ℕ → Word → Rest Judged → BiForm
rest_form at x (Stored f v) = Sync (At at (Store x f v))
rest_form at x (Valued v) = value_form at x v

abbrev pub synced_form : ℕ → Synced → BiForm
synced_form at Idle = Sync (At at Skip)
synced_form at (Does x r) = rest_form at x r

abbrev pub synced_raw : ℕ → Reader Expression → Reader Synced
synced_raw most e =
    either (is_next (kind.Word keyword.Skip)) (made (λ u. Idle) (expect_at (kind.Word keyword.Skip)))
    (made (λ (q : Word × Rest Judged). Does q.0 q.1) (both name_at (rest_raw (judged_at most e) e)))

-- ---- the same reader

abbrev behind : ℕ → Form → List Token → Reading BiForm
behind at f rest = used_at (At at f) rest

-- what is made of a part
through : {A B X : Type 0} (read : Reading A) (f : A → B) (k : B → List Token → Reading X) → then_read (then_read read (λ a rest. Got (f a) rest)) k ≡ then_read read (λ a rest. k (f a) rest)
through read f k = then_then read (λ a rest. Got (f a) rest) k

pushed : {A B X : Type 0} (read : Reading A) (s : Reader B) (g : A → B → X)
    → then_read read (λ p b. then_read (s b) (λ j c. Got (g p j) c)) ≡ then_read {A = A × B} (then_read read (λ p b. then_read (s b) (λ j c. Got (p, j) c))) (λ q c. Got (g q.0 q.1) c)
pushed {A = A} {B = B} (Got p b) s g = sym (then_then {B = A × B} (s b) (λ j c. Got (p, j) c) (λ q c. Got (g q.0 q.1) c))
pushed (Refused why left) s g = refl

behind_word : {A B X : Type 0} (read : Reading Unit) (c : Reader A) (s : Reader B) (g : A → B → X)
    → then_read (then_read read (λ u rest. c rest)) (λ p b. then_read (s b) (λ j last. Got (g p j) last)) ≡ then_read {A = A × B} (then_read read (λ u rest. both c s rest)) (λ q b. Got (g q.0 q.1) b)
behind_word (Got u rest) c s g = pushed (c rest) s g
behind_word (Refused why left) c s g = refl

-- the same of one reading or the other
branch : {A B X : Type 0} (a b : Reading A) (c d : Reading B) (k : A → List Token → Reading X) (g : B → List Token → Reading X) (v : Bool)
    → then_read a k ≡ then_read c g → then_read b k ≡ then_read d g → then_read (if v then a else b) k ≡ then_read (if v then c else d) g
branch a b c d k g true one two = one
branch a b c d k g false one two = two

module _ (most : ℕ) (e : Reader Expression) (at : ℕ) where
  value_behind : (x : Word) (ts : List Token) → then_read (value_at most e x ts) (behind at) ≡ then_read (value_raw (judged_at most e) e ts) (λ v rest. Got (value_form at x v) rest)
  value_behind x ts =
      let new = after (kind.Word keyword.New) name_at ts in
      let call = after (kind.Word keyword.Call) (call_at most e) ts in
      let judged = after (kind.Word keyword.Call) (judged_at most e) ts in
      let k : Form → List Token → Reading BiForm = behind at in
      let g : Value Judged → List Token → Reading BiForm = λ v rest. Got (value_form at x v) rest in
      let one : then_read (made (New x) (after (kind.Word keyword.New) name_at) ts) k ≡ then_read (made Fresh (after (kind.Word keyword.New) name_at) ts) g
      = through new (New x) k ∙ sym (through new Fresh g) in
      let two : then_read (made (λ (p : Calling). Call x p.0 p.1) (after (kind.Word keyword.Call) (call_at most e)) ts) k ≡ then_read (made Called (after (kind.Word keyword.Call) (judged_at most e)) ts) g
      = through call (λ p. Call x p.0 p.1) k
      ∙ behind_word (expect_at (kind.Word keyword.Call) ts) (call_at most e) using (λ p j. SyncCall (At at (Call x p.0 p.1)) j)
      ∙ sym (through judged Called g) in
      let three : then_read (made (λ (p : Word × Word). Load x p.0 p.1) field_at ts) k ≡ then_read (made (λ (p : Word × Word). Loaded p.0 p.1) field_at ts) g
      = through (field_at ts) (λ p. Load x p.0 p.1) k ∙ sym (through (field_at ts) (λ p. Loaded p.0 p.1) g) in
      let four : then_read (made (Assign x) e ts) k ≡ then_read (made Plain e ts) g = through (e ts) (Assign x) k ∙ sym (through (e ts) Plain g) in
      branch _ _ _ _ _ _ (is_next (kind.Word keyword.New) ts) one (branch _ _ _ _ _ _ (is_next (kind.Word keyword.Call) ts) two (branch _ _ _ _ _ _ (is_field_next ts) three four))

  valued_behind : (x : Word) (read : Reading Unit) → then_read (then_read read (λ u rest. value_at most e x rest)) (behind at)
      ≡ then_read (then_read (then_read read (λ u rest. value_raw (judged_at most e) e rest)) (λ v rest. Got (Valued v) rest)) (λ r rest. Got (rest_form at x r) rest)
  valued_behind x (Got u rest) = value_behind x rest ∙ sym (through (value_raw (judged_at most e) e rest) Valued (λ r last. Got (rest_form at x r) last))
  valued_behind x (Refused why left) = refl

  rest_behind : (x : Word) (ts : List Token) → then_read (named_at most e x ts) (behind at) ≡ then_read (rest_raw (judged_at most e) e ts) (λ r rest. Got (rest_form at x r) rest)
  rest_behind x ts =
      let dot = kind.Symbol symbol.Dot in
      let stored = after dot (stored_at e) ts in
      let k : Form → List Token → Reading BiForm = behind at in
      let g : Rest Judged → List Token → Reading BiForm = λ r rest. Got (rest_form at x r) rest in
      let one : then_read (made (λ (p : Word × Expression). Store x p.0 p.1) (after dot (stored_at e)) ts) k ≡ then_read (made (λ (p : Word × Expression). Stored p.0 p.1) (after dot (stored_at e)) ts) g
      = through stored (λ p. Store x p.0 p.1) k ∙ sym (through stored (λ p. Stored p.0 p.1) g) in
      branch _ _ _ _ _ _ (is_next dot ts) one (valued_behind x (expect_at (kind.Symbol symbol.ColonEqual) ts))

  abbrev does : Word × Rest Judged → Synced
  does q = Does q.0 q.1

  named_behind : (read : Reading Word) → then_read (then_read read (named_at most e)) (behind at)
      ≡ then_read (then_read (then_read {B = Word × Rest Judged} read (λ x rest. then_read (rest_raw (judged_at most e) e rest) (λ r last. Got (x, r) last))) (λ q rest. Got (does q) rest)) (λ s rest. Got (synced_form at s) rest)
  named_behind (Got x rest) =
      let raw = rest_raw (judged_at most e) e rest in
      let pair : Reading (Word × Rest Judged) = then_read raw (λ r last. Got (x, r) last) in
      rest_behind x rest
      ∙ sym (then_then {B = Word × Rest Judged} raw (λ r last. Got (x, r) last) (λ q last. Got (synced_form at (does q)) last))
      ∙ sym (through pair does (λ s last. Got (synced_form at s) last))
  named_behind (Refused why left) = refl

  atom_behind : (ts : List Token) → then_read (atom_at most e ts) (behind at) ≡ then_read (synced_raw most e ts) (λ s rest. Got (synced_form at s) rest)
  atom_behind ts =
      let skip = expect_at (kind.Word keyword.Skip) ts in
      let k : Form → List Token → Reading BiForm = behind at in
      let g : Synced → List Token → Reading BiForm = λ s rest. Got (synced_form at s) rest in
      let one : then_read (made (λ u. Skip) (expect_at (kind.Word keyword.Skip)) ts) k ≡ then_read (made (λ u. Idle) (expect_at (kind.Word keyword.Skip)) ts) g = through skip (λ u. Skip) k ∙ sym (through skip (λ u. Idle) g) in
      branch _ _ _ _ _ _ (is_next (kind.Word keyword.Skip) ts) one (named_behind (name_at ts))

abbrev pub synced_from : ℕ × Synced → BiForm
synced_from q = synced_form q.0 q.1

pub sync_same : (most : ℕ) (e : Reader Expression) → (λ ts. then_read (made (λ (q : ℕ × Form). At q.0 q.1) (placed (atom_at most e)) ts) used_at) ≡ made synced_from (placed (synced_raw most e))
sync_same most e = fun_ext (λ ts.
    let at = place_of ts in
    let pair : Reading (ℕ × Form) = then_read (atom_at most e ts) (λ f rest. Got (at, f) rest) in
    let k : ℕ × Form → List Token → Reading BiForm = λ q rest. used_at (At q.0 q.1) rest in
    let g : ℕ × Synced → List Token → Reading BiForm = λ q rest. Got (synced_from q) rest in
    let pair_of : Form → ℕ × Form = λ f. (at, f) in
    let synced_of : Synced → ℕ × Synced = λ s. (at, s) in
    through pair (λ q. At q.0 q.1) used_at ∙ through (atom_at most e ts) pair_of k ∙ atom_behind most e at ts ∙ sym (through (synced_raw most e ts) synced_of g))

-- ---- the law

abbrev pub TwoAlways : {A B : Type 0} → A × B → Type 0
TwoAlways p = Unit {0} × Unit {0}

module _ (l : Limits) (d : ℕ) (e : Reader Expression) (expressions : Reads l (show_expression (suc d)) Always e) where
  abbrev pub show_judged : Judged → List Mark
  show_judged p = show_call l d e expressions p.0 ++ (word (codes "using") ∷ named p.1 ∷ [])

  abbrev pub Judgeds : Judged → Type 0
  Judgeds p = Calls l d e expressions p.0 × Unit {0}

  pub judgeds : (p : Judged) → Judgeds p
  judgeds p = (all_calls l d e expressions p.0, tt)

  pub judged_reads : Reads l (λ p. closed (word (codes "call") ∷ show_judged p)) Judgeds (before semicolon (after (kind.Word keyword.Call) (judged_at l.most e)))
  judged_reads = before_reads l _ _ _ semicolon tt (after_reads l _ _ _ (kind.Word keyword.Call) tt (both_reads l _ _ _ _ _ _ (call_reads l d e expressions) (after_reads l _ _ _ (kind.Word keyword.Using) tt (name_reads l))))

  abbrev pub show_does : Word × Rest Judged → List Mark
  show_does q = show_named l d e expressions show_judged Judgeds (judged_at l.most e) judgeds judged_reads q

  abbrev pub does_ended : Reader (Word × Rest Judged)
  does_ended = named_ended l d e expressions show_judged Judgeds (judged_at l.most e) judgeds judged_reads

  pub does_reads : Reads l show_does (λ q. Unit {0} × Unit {0}) does_ended
  does_reads = named_reads l d e expressions show_judged Judgeds (judged_at l.most e) judgeds judged_reads

  abbrev pub show_synced : Synced → List Mark
  show_synced Idle = closed (word (codes "skip") ∷ [])
  show_synced (Does x r) = show_does (x, r)

  abbrev pub synced_ended : Reader Synced
  synced_ended =
      either (is_next (kind.Word keyword.Skip)) (made (λ u. Idle) (before semicolon (expect_at (kind.Word keyword.Skip))))
      (made (λ (q : Word × Rest Judged). Does q.0 q.1) does_ended)

  pub synced_same : before semicolon (synced_raw l.most e) ≡ synced_ended
  synced_same =
      before_either semicolon (is_next (kind.Word keyword.Skip)) _ _
      ∙ ap₂ (either (is_next (kind.Word keyword.Skip))) (before_made semicolon (λ u. Idle) _)
      (before_made semicolon (λ (q : Word × Rest Judged). Does q.0 q.1) (both name_at (rest_raw (judged_at l.most e) e))
      ∙ ap (made (λ (q : Word × Rest Judged). Does q.0 q.1)) (named_same l d e expressions show_judged Judgeds (judged_at l.most e) judgeds judged_reads))

  synced_total : (s : Synced) → Image (λ (u : Unit {0}). Idle) Always s ⊎ Image (λ (q : Word × Rest Judged). Does q.0 q.1) TwoAlways s
  synced_total Idle = inl (tt, refl, tt)
  synced_total (Does x r) = inr ((x, r), refl, (tt, tt))

  synced_marks : (s : Synced) → 0 < length (show_synced s)
  synced_marks Idle = omega arith
  synced_marks (Does x r) = does_reads.some_mark (x, r)

  synced_told : (s : Synced) → AreTold (show_synced s)
  synced_told Idle = (tt, (tt, tt))
  synced_told (Does x r) = does_reads.told (x, r)

  pub synced_reads : Reads l show_synced Always synced_ended
  synced_reads =
      whole l show_synced _ _ _
      (choose_of (production l _ _ _ show_synced (λ (u : Unit {0}). Idle) (This (kind.Word keyword.Skip) ∷ []) (skip_reads l) (λ u. refl) (λ u. (This (kind.Word keyword.Skip), inl refl, (tt, refl))))
      (production l _ _ _ show_synced (λ (q : Word × Rest Judged). Does q.0 q.1) (AName ∷ []) does_reads (λ q. refl) (λ q. (AName, inl refl, (q.0, refl)))) refl)
      synced_total synced_marks synced_told

-- ---- its marks, which are a command's

abbrev pub show_sync : ℕ → Synced → List Mark
show_sync d Idle = closed (show_form d Skip)
show_sync d (Does x (Stored f v)) = closed (show_form d (Store x f v))
show_sync d (Does x (Valued (Fresh c))) = closed (show_form d (New x c))
show_sync d (Does x (Valued (Called p))) = closed (show_form d (Call x p.0.0 p.0.1) ++ word (codes "using") ∷ named p.1 ∷ [])
show_sync d (Does x (Valued (Loaded y f))) = closed (show_form d (Load x y f))
show_sync d (Does x (Valued (Plain v))) = closed (show_form d (Assign x v))

abbrev pub show_synced_at : ℕ → ℕ × Synced → List Mark
show_synced_at d q = begins q.0 (tree d (show_sync d q.1))

abbrev flat_synced_at : ℕ → ℕ × Synced → List Mark
flat_synced_at d q = begins q.0 (show_sync d q.1)

sync_shown : (l : Limits) (d : ℕ) (e : Reader Expression) (expressions : Reads l (show_expression (suc d)) Always e) (s : Synced) → show_synced l d e expressions s ≡ show_sync d s
sync_shown l d e expressions Idle = refl
sync_shown l d e expressions (Does x (Stored f v)) = refl
sync_shown l d e expressions (Does x (Valued (Fresh c))) = refl
sync_shown l d e expressions (Does x (Valued (Called p))) = refl
sync_shown l d e expressions (Does x (Valued (Loaded y f))) = refl
sync_shown l d e expressions (Does x (Valued (Plain v))) = refl

sync_bare : (d : ℕ) (s : Synced) → IsBare (show_sync d s)
sync_bare d Idle = (refl, refl)
sync_bare d (Does x (Stored f v)) = (refl, refl)
sync_bare d (Does x (Valued (Fresh c))) = (refl, refl)
sync_bare d (Does x (Valued (Called p))) = (refl, refl)
sync_bare d (Does x (Valued (Loaded y f))) = (refl, refl)
sync_bare d (Does x (Valued (Plain v))) = (refl, refl)

flat_sync_begins : (d : ℕ) (q : ℕ × Synced) → BeginsAs atom_firsts (flat_synced_at d q)
flat_sync_begins d (at, Idle) = (This (kind.Word keyword.Skip), inr (inl refl), (tt, refl))
flat_sync_begins d (at, Does x (Stored f v)) = (AName, inl refl, (x, refl))
flat_sync_begins d (at, Does x (Valued (Fresh c))) = (AName, inl refl, (x, refl))
flat_sync_begins d (at, Does x (Valued (Called p))) = (AName, inl refl, (x, refl))
flat_sync_begins d (at, Does x (Valued (Loaded y f))) = (AName, inl refl, (x, refl))
flat_sync_begins d (at, Does x (Valued (Plain v))) = (AName, inl refl, (x, refl))

told_placed : (at : ℕ) (ms : List Mark) → AreTold ms → AreTold (begins at ms)
told_placed at [] told = tt
told_placed at (m ∷ ms) told = told

sync_told : (d : ℕ) (s : Synced) → AreTold (show_sync d s)
sync_told d Idle = (tt, (tt, tt))
sync_told d (Does x (Stored f v)) = told_closed (show_form d (Store x f v)) (told_form d (Store x f v))
sync_told d (Does x (Valued (Fresh c))) = told_closed (show_form d (New x c)) (told_form d (New x c))
sync_told d (Does x (Valued (Called p))) =
    told_closed (show_form d (Call x p.0.0 p.0.1) ++ word (codes "using") ∷ named p.1 ∷ [])
    (told_append (show_form d (Call x p.0.0 p.0.1)) (word (codes "using") ∷ named p.1 ∷ []) (told_form d (Call x p.0.0 p.0.1)) (tt, (tt, tt)))
sync_told d (Does x (Valued (Loaded y f))) = told_closed (show_form d (Load x y f)) (told_form d (Load x y f))
sync_told d (Does x (Valued (Plain v))) = told_closed (show_form d (Assign x v)) (told_form d (Assign x v))

levels_swap : (d at : ℕ) (ms : List Mark) → tree d (begins at ms) ≡ begins at (tree d ms)
levels_swap d at [] = refl
levels_swap d at (m ∷ ms) = refl

some_sync : (d : ℕ) → SomeBegins (flat_synced_at d) Always begins_atom
some_sync d [] kinds pass = absurd cc
some_sync d (t ∷ ts) kinds pass =
    elim (or_cases (is_name_kind t.kind) _ pass) [
      | inl name ↦ (let n = name_of_kind t.kind t.text.now kinds.0 name in ((t.at, Does t.text.now (Valued (Fresh t.text.now))), (tt, (n, (tt, (tt, (n, (tt, tt)))))), (refl, (refl, tt), tt, tt)))
      | inr is ↦ ((t.at, Idle), (tt, (tt, (tt, tt))), (fixed_of_kind t.kind (kind.Word keyword.Skip) t.text.now kinds.0 is, (refl, tt), tt, tt))
    ]

abbrev pub synced_at : ℕ → ℕ → Reader (ℕ × Synced)
synced_at most zero = too_deep_at begins_atom
synced_at most (suc left) = placed (before semicolon (synced_raw most (expression_at left)))

refuses : {X Y Z : Type 0} (v : Bool) (ts : List Token) (k : X → List Token → Reading Y) (f : Z → Y) (h : Y → List Token → Reading Y)
    → then_read {A = Y} (then_read {A = X} (if v then Refused TooDeep (length ts) else Refused Unexpected (length ts)) k) h ≡ then_read {A = Z} (if v then Refused TooDeep (length ts) else Refused Unexpected (length ts)) (λ z rest. Got (f z) rest)
refuses true ts k f h = refl
refuses false ts k f h = refl

-- the code's reader is this one
pub sync_is : (most left : ℕ) → before semicolon (sync_at most left) ≡ made synced_from (synced_at most left)
unfolding atom_command_at
sync_is most zero = fun_ext (λ ts. refuses (begins_atom ts) ts used_at synced_from (λ x rest. then_read (expect_at semicolon rest) (λ u last. Got x last)))
sync_is most (suc left) =
    ap (before semicolon) (sync_same most (expression_at left))
    ∙ before_made semicolon synced_from (placed (synced_raw most (expression_at left)))
    ∙ ap (made synced_from) (before_placed semicolon (synced_raw most (expression_at left)))

synced_level : (l : Limits) (d : ℕ) (e : Reader Expression) → Reads l (show_expression (suc d)) Always e → d ≤ l.deepest → Reads l (show_synced_at d) Always (placed (before semicolon (synced_raw l.most e)))
synced_level l d e expressions le =
    let one = subst (λ show. Reads l show Always (synced_ended l d e expressions)) (fun_ext (sync_shown l d e expressions)) (synced_reads l d e expressions) in
    let two = subst (Reads l (show_sync d) Always) (sym (synced_same l d e expressions)) one in
    placed_reads l (λ s. tree d (show_sync d s)) Always _ (tree_reads l (show_sync d) Always _ d le (sync_bare d) two)

synced_beyond : (l : Limits) (d : ℕ) → l.deepest < d → Reads l (show_synced_at d) Always (too_deep_at begins_atom)
synced_beyond l d lt =
    let one = too_deep_reads l (flat_synced_at d) Always d begins_atom lt ((0, Idle), (tt, (tt, (tt, tt)))) (λ q. some_mark atom_firsts (flat_synced_at d q) (flat_sync_begins d q)) (λ q. told_placed q.0 (show_sync d q.1) (sync_told d q.1))
    (λ q ts kinds good goes. always_begins atom_firsts (flat_synced_at d q) ts (flat_sync_begins d q) kinds good.1 goes) (some_sync d) in
    subst (λ show. Reads l show Always (too_deep_at begins_atom)) (fun_ext (λ q. levels_swap d q.0 (show_sync d q.1))) one

pub synced_at_reads : (l : Limits) (d left : ℕ) → d + left ≡ suc l.deepest → Reads l (show_synced_at d) Always (synced_at l.most left)
synced_at_reads l d zero sum = synced_beyond l d (omega arith)
synced_at_reads l d (suc left) sum = synced_level l d (expression_at left) (expression_reads l (suc d) left (omega arith)) (omega arith)
