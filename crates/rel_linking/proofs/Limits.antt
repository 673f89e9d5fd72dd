-- The limits of a text keep the numbers of variables within 32 bits.
use Rattle.std.proofs.Common.{◌≡◌, ℕ, suc, ◌+◌, ◌^◌, ◌<◌, ◌≤◌, List, [], ◌∷◌, ◌++◌, length, map, refl, sym, ap, subst, ◌∙◌, arith}
use Rattle.std.specs.List.{AllByRecursion}
use Rattle.std.proofs.lemmas.List.{length-map}
use Rattle.std.specs.Prelude.{codes}
use Rattle.rel_lang.specs.Syntax.{At, Form, Skip, Assign, Load, Store, New, Call, If, While, Block, End, Then, Proc, UnitItem, OfUnit, OfJudgement, Bundle}
use Rattle.rel_lang.specs.Text.{Mark, word, ended, show_decl, element, repeated, show_command, show_commands, show_globals, show_locals, show_spec, show_body, show_head, show_proc, show_unit, show_item}
use Rattle.rel_lang.specs.Refusal.{limits, IsWithin, Fits}
use Rattle.rel_lang.specs.declared.bundle.UnitItem as U
use Rattle.rel_lang.specs.declared.bundle.Judgement as J
use Rattle.rel_lang.specs.declared.bundle.Proc as Q
use Rattle.rel_lang.specs.declared.bundle.Item as I
use Rattle.rel_lang.specs.declared.bundle.Item.TheVariants as IV
use Rattle.rel_lang.specs.View.{decl_of, proc_of, unit_of, item_of}
use Rattle.rel_linking.specs.Form.{Parts, HasParts}
use Rattle.rel_linking.specs.Obligation.{block_len}
use Rattle.rel_linking.specs.Parts.{HasFew}
use Rattle.rel_linking.proofs.Forms.{items_of, made}
use Rattle.rel_linking.proofs.Lengths.{block_len_is}

abbrev AreWithin : List Mark → Type 0
AreWithin ms = AllByRecursion (IsWithin limits) ms

split : (ms ns : List Mark) → AreWithin (ms ++ ns) → AreWithin ms × AreWithin ns
split [] ns h = (tt, h)
split (m ∷ ms) ns h = let below = split ms ns h.1 in ((h.0, below.0), below.1)

-- a repetition of trees that have marks is short
repeated_few : {X : Type 0} (show : X → List Mark) → ((x : X) → (m : Mark) × (ms : List Mark) × (show x ≡ m ∷ ms)) → (n : ℕ) (xs : List X) → n ≤ 16385 → AreWithin (repeated show n xs)
    → n + length xs ≤ 16385
repeated_few show some n [] le h = omega arith
repeated_few show some n (x ∷ xs) le h =
    let parts = split (element n (show x)) (repeated show (suc n) xs) h in
    let first = some x in
    let marked : AreWithin (element n (first.0 ∷ first.1)) = subst (λ ms. AreWithin (element n ms)) first.2 parts.0 in
    let here = marked.0.1 in
    let more : suc n + length xs ≤ 16385 = repeated_few show some (suc n) xs (omega (arith, here)) parts.1 in
    omega (arith, more)

each_within : {X : Type 0} (show : X → List Mark) (P : X → Type 0) → ((n : ℕ) (x : X) → AreWithin (element n (show x)) → P x) → (n : ℕ) (xs : List X) → AreWithin (repeated show n xs) → AllByRecursion P xs
each_within show P f n [] h = tt
each_within show P f n (x ∷ xs) h =
    let parts = split (element n (show x)) (repeated show (suc n) xs) h in (f n x parts.0, each_within show P f (suc n) xs parts.1)

numbered_command : (d n at : ℕ) (f : Form) → AreWithin (element n (show_command d (At at f))) → n ≤ 16384
numbered_command d n at Skip h = h.0.1
numbered_command d n at (Assign x e) h = h.0.1
numbered_command d n at (Load x y f) h = h.0.1
numbered_command d n at (Store y f e) h = h.0.1
numbered_command d n at (New x c) h = h.0.1
numbered_command d n at (Call x p es) h = h.0.1
numbered_command d n at (If p a b) h = h.0.1
numbered_command d n at (While p q b) h = h.0.1

commands_few : (d n : ℕ) (b : Block) → n ≤ 16385 → AreWithin (show_commands d n b) → n + block_len b ≤ 16385
commands_few d n End le h = omega arith
commands_few d n (Then (At at f) cs) le h =
    let parts = split (element n (show_command d (At at f))) (word (codes ";") ∷ show_commands d (suc n) cs) h in
    let here = numbered_command d n at f parts.0 in
    let more : suc n + block_len cs ≤ 16385 = commands_few d (suc n) cs (omega (arith, here)) parts.1.1 in
    omega (arith, more)

few_commands : (n : ℕ) (p : Proc) → AreWithin (element n (show_proc p)) → 1 + block_len p.body.commands ≤ 16385
few_commands n p h =
    let body = split (show_head p.name p.params p.result ++ show_spec p.spec) (show_body p.body) h.1 in
    let inner = split (show_locals p.body.locals ++ show_commands 1 1 p.body.commands) (word (codes "}") ∷ []) body.1.1 in
    let commands = split (show_locals p.body.locals) (show_commands 1 1 p.body.commands) inner.0 in
    commands_few 1 1 p.body.commands (omega arith) commands.1

few_of : (n : ℕ) (u : UnitItem) → AreWithin (element n (show_unit u)) → (1 + length u.globals ≤ 16385) × AllByRecursion (λ p. 1 + block_len p.body.commands ≤ 16385) u.procs
few_of n u h =
    let inner = split (show_globals u.globals ++ repeated show_proc 1 u.procs) (word (codes "}") ∷ []) h.1.1.1 in
    let parts = split (show_globals u.globals) (repeated show_proc 1 u.procs) inner.0 in
    (repeated_few _ (λ d. (word (codes "global"), ended (codes ";") show_decl d, refl)) 1 u.globals (omega arith) parts.0, each_within show_proc _ few_commands 1 u.procs parts.1)

few_procs : (ps : List Q.Proc) → AllByRecursion (λ p. 1 + block_len p.body.commands ≤ 16385) (map proc_of ps) → AllByRecursion (λ p. length p.body.commands < 2 ^ 30) ps
few_procs [] h = tt
few_procs (p ∷ ps) h = (let few = h.0 in omega (arith, few, block_len_is p.body.commands), few_procs ps h.1)

has_few : (n : ℕ) (u : U.UnitItem) → AreWithin (element n (show_unit (unit_of u))) → HasFew u
has_few n u h =
    let few = few_of n (unit_of u) h in
    let globals = few.0 in
    record { globals = omega (arith, globals, length-map u.globals decl_of); commands = few_procs u.procs few.1 }

pub both_few : (xs : List I.Item) (l r : U.UnitItem) (j : J.Judgement) → xs ≡ made l r j → Fits (items_of xs) → HasFew l × HasFew r
both_few xs l r j e h =
    let fits : Fits (items_of (made l r j)) = subst (λ ys. Fits (items_of ys)) e h in
    let left = split (element 1 (show_unit (unit_of l))) (repeated show_item 2 (map item_of (IV.UnitItem r ∷ IV.Judge j ∷ []))) fits in
    let right = split (element 2 (show_unit (unit_of r))) (repeated show_item 3 (map item_of (IV.Judge j ∷ []))) left.1 in
    (has_few 1 l left.0, has_few 2 r right.0)

-- ---- the parts of a bundle

-- a unit with one procedure has few globals and few commands
pub record IsShort (u : UnitItem) (p : Proc) : Type 0 where
  pub globals : length u.globals ≤ 16384
  pub commands : block_len p.body.commands ≤ 16384

is_short : (n : ℕ) (u : UnitItem) (p : Proc) → u.procs ≡ p ∷ [] → AreWithin (element n (show_unit u)) → IsShort u p
is_short n u p one h =
    let few = few_of n u h in
    let globals = few.0 in
    let commands = (subst (AllByRecursion (λ p. 1 + block_len p.body.commands ≤ 16385)) one few.1).0 in
    record { globals = omega (arith, globals); commands = omega (arith, commands) }

pub both_short : (b : Bundle) (k : Parts) → HasParts b k → Fits b → IsShort k.left k.left_proc × IsShort k.right k.right_proc
both_short b k parts h =
    let fits : Fits (record { items = OfUnit k.left ∷ OfUnit k.right ∷ OfJudgement k.judgement ∷ [] }) = subst (λ is. Fits (record { items = is })) parts.items h in
    let left = split (element 1 (show_unit k.left)) (repeated show_item 2 (OfUnit k.right ∷ OfJudgement k.judgement ∷ [])) fits in
    let right = split (element 2 (show_unit k.right)) (repeated show_item 3 (OfJudgement k.judgement ∷ [])) left.1 in
    (is_short 1 k.left k.left_proc parts.left.procs left.0, is_short 2 k.right k.right_proc parts.right.procs right.0)
