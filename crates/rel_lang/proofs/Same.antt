-- Two lists of trees that are equal, and two lists of commands that are equal but for `at`.
use Rattle.std.proofs.Common.{◌≡◌, ℕ, ◌+◌, ◌<◌, ◌≤◌, List, [], ◌∷◌, ◌++◌, length, get_or, take, map, sym, ap, refl, ◌∙◌, rules}
use Rattle.std.proofs.lemmas.List.{map_more, get_or-map, length-map, take_all}
use Rattle.rel_lang.specs.Syntax.{Form, Block, End, Then, At, without_at, form_without_at, command_without_at}
use Rattle.rel_lang.specs.Syntax as syntax
use Rattle.rel_lang.specs.declared.command.Command.{Command}
use Rattle.rel_lang.specs.declared.command.Form as F
use Rattle.rel_lang.specs.declared.command.Form.TheFolds.{fold_out-Command}
use Rattle.rel_lang.specs.declared.formula.Formula as P
use Rattle.rel_lang.specs.View.{formula_of, form_of, form_step, command_of, command_step, block_of, block_from}

-- a command without its place
abbrev pub plain : Command → Form
plain c = form_without_at (form_of c.form)

pub same_more : {X Y : Type 0} (f : X → Y) (xs ys : List X) (i : ℕ) (d e : X) → i < length xs → i < length ys
    → map f (take i xs) ≡ map f (take i ys) → f (get_or xs i d) ≡ f (get_or ys i e) → map f (take (i + 1) xs) ≡ map f (take (i + 1) ys)
same_more f xs ys i d e h k same here =
    map_more f xs i d h ∙ ap (λ l. l ++ f (get_or xs i d) ∷ []) same ∙ ap (λ y. map f (take i ys) ++ y ∷ []) here ∙ sym (map_more f ys i e k)

pub same_at : {X Y : Type 0} (f : X → Y) (xs ys : List X) (i : ℕ) (d e : X) → i < length xs → i < length ys
    → map f xs ≡ map f ys → f (get_or xs i d) ≡ f (get_or ys i e)
same_at f xs ys i d e h k same =
    sym (get_or-map f xs i d (f d) h) ∙ ap (λ l. get_or l i (f d)) same ∙ get_or-map f ys i e (f d) k

pub same_length : {X Y : Type 0} (f : X → Y) (xs ys : List X) → map f xs ≡ map f ys → length xs ≡ length ys
same_length f xs ys same = simp length-map at (ap length same)

pub same_whole : {X Y : Type 0} (f : X → Y) (xs ys : List X) (i : ℕ) → length xs ≤ i → length ys ≤ i
    → map f (take i xs) ≡ map f (take i ys) → map f xs ≡ map f ys
same_whole f xs ys i h k same = sym (ap (map f) (take_all i xs h)) ∙ same ∙ ap (map f) (take_all i ys k)

abbrev blocked : List Form → Block
blocked [] = End
blocked (f ∷ fs) = Then (At 0 f) (blocked fs)

abbrev unblocked : Block → List Form
unblocked End = []
unblocked (Then (At at f) cs) = f ∷ unblocked cs

unblocked_blocked : (fs : List Form) → unblocked (blocked fs) ≡ fs
unblocked_blocked [] = refl
unblocked_blocked (f ∷ fs) = ap (λ l. f ∷ l) (unblocked_blocked fs)

command_is : (c : Command) → command_of c ≡ At c.at (form_of c.form)
command_is c = fold_out-Command Form syntax.Command form_step command_step c

without_at_is : (cs : List Command) → without_at (block_of cs) ≡ blocked (map plain cs)
without_at_is [] = refl
without_at_is (c ∷ cs) =
    ap (λ d. Then (command_without_at d) (without_at (block_of cs))) (command_is c) ∙ ap (λ b. Then (At 0 (plain c)) b) (without_at_is cs)

pub same_blocks : (a b : List Command) → map plain a ≡ map plain b → without_at (block_of a) ≡ without_at (block_of b)
same_blocks a b e = without_at_is a ∙ ap blocked e ∙ sym (without_at_is b)

pub same_forms : (a b : List Command) → without_at (block_of a) ≡ without_at (block_of b) → map plain a ≡ map plain b
same_forms a b e =
    sym (unblocked_blocked _) ∙ ap unblocked (sym (without_at_is a) ∙ e ∙ without_at_is b) ∙ unblocked_blocked _

pub ruleset same_lists = (same_more, same_at, same_length, same_blocks, same_forms)

-- what a command holds is read as a block
pub block_is : (cs : List Command) → block_from (map command_of cs) ≡ block_of cs
block_is [] = refl
block_is (c ∷ cs) = ap (λ b. Then (command_of c) b) (block_is cs)

-- how an `if` and a `while` are read
if_is : (p : P.Formula) (c d : List Command) → form_of (F.If p c d) ≡ syntax.If (formula_of p) (block_of c) (block_of d)
if_is p c d = search (rules, F.the_lemmas, block_is)

while_is : (p i : P.Formula) (c : List Command) → form_of (F.While p i c) ≡ syntax.While (formula_of p) (formula_of i) (block_of c)
while_is p i c = search (rules, F.the_lemmas, block_is)

pub same_if : (a b : F.Form) (p q : P.Formula) (c d e f : List Command) → a ≡ F.If p c d → b ≡ F.If q e f
    → formula_of p ≡ formula_of q → without_at (block_of c) ≡ without_at (block_of e) → without_at (block_of d) ≡ without_at (block_of f)
    → form_without_at (form_of a) ≡ form_without_at (form_of b)
same_if a b p q c d e f is_a is_b tests first second =
    ap (λ g. form_without_at (form_of g)) is_a ∙ ap form_without_at (if_is p c d)
    ∙ ap (λ r. syntax.If r (without_at (block_of c)) (without_at (block_of d))) tests
    ∙ ap (λ r. syntax.If (formula_of q) r (without_at (block_of d))) first
    ∙ ap (λ r. syntax.If (formula_of q) (without_at (block_of e)) r) second
    ∙ sym (ap (λ g. form_without_at (form_of g)) is_b ∙ ap form_without_at (if_is q e f))

pub same_while : (a b : F.Form) (p q i j : P.Formula) (c d : List Command) → a ≡ F.While p i c → b ≡ F.While q j d
    → formula_of p ≡ formula_of q → formula_of i ≡ formula_of j → without_at (block_of c) ≡ without_at (block_of d)
    → form_without_at (form_of a) ≡ form_without_at (form_of b)
same_while a b p q i j c d is_a is_b tests invariants body =
    ap (λ g. form_without_at (form_of g)) is_a ∙ ap form_without_at (while_is p i c)
    ∙ ap (λ r. syntax.While r (formula_of i) (without_at (block_of c))) tests
    ∙ ap (λ r. syntax.While (formula_of q) r (without_at (block_of c))) invariants
    ∙ ap (λ r. syntax.While (formula_of q) (formula_of j) r) body
    ∙ sym (ap (λ g. form_without_at (form_of g)) is_b ∙ ap form_without_at (while_is q j d))

pub if_parts : (a b : F.Form) (p q : P.Formula) (c d e f : List Command) → a ≡ F.If p c d → b ≡ F.If q e f
    → form_without_at (form_of a) ≡ form_without_at (form_of b)
    → (without_at (block_of c) ≡ without_at (block_of e)) × (without_at (block_of d) ≡ without_at (block_of f))
if_parts a b p q c d e f is_a is_b same =
    let k : syntax.If (formula_of p) (without_at (block_of c)) (without_at (block_of d)) ≡ syntax.If (formula_of q) (without_at (block_of e)) (without_at (block_of f)) =
    sym (ap (λ g. form_without_at (form_of g)) is_a ∙ ap form_without_at (if_is p c d)) ∙ same ∙ ap (λ g. form_without_at (form_of g)) is_b ∙ ap form_without_at (if_is q e f) in
    (cc, cc)

pub while_parts : (a b : F.Form) (p q i j : P.Formula) (c d : List Command) → a ≡ F.While p i c → b ≡ F.While q j d
    → form_without_at (form_of a) ≡ form_without_at (form_of b)
    → without_at (block_of c) ≡ without_at (block_of d)
while_parts a b p q i j c d is_a is_b same =
    let k : syntax.While (formula_of p) (formula_of i) (without_at (block_of c)) ≡ syntax.While (formula_of q) (formula_of j) (without_at (block_of d)) =
    sym (ap (λ g. form_without_at (form_of g)) is_a ∙ ap form_without_at (while_is p i c)) ∙ same ∙ ap (λ g. form_without_at (form_of g)) is_b ∙ ap form_without_at (while_is q j d) in
    cc
