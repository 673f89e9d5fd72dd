-- The fixed words of the grammar are reserved words and symbols.
use Rattle.std.proofs.Common.{◌≡◌, ℕ, suc, true, List, [], ◌∷◌, ◌++◌, refl}
use Rattle.std.specs.Prelude.{codes}
use Rattle.std.specs.List.{AllByRecursion}
use Rattle.rel_lang.specs.Syntax.{Word, Side, Left, Right, Expression, Var, Num, Null, Empty, Alloc, Add, Sub, Mul, Field, Single, Union, Meet, Minus, Image, Filter, Old, Formula, True, False, Eq, Lt, Le, Member, Subset, Not, And, Or, Implies, Every, Exists, RelFormula, RelTrue, RelFalse, OnLeft, OnRight, Both, Agree, AgreeImage, RelNot, RelAnd, RelOr, RelImplies, RelEvery, RelExists, Eventually}
use Rattle.rel_lang.specs.Text.{Mark, word, named, braced, begins, tree, element, repeated, behind, listed, operation, connective, quantified, show_expression, show_formula, show_side, show_rel, sides}
use Rattle.rel_lang.proofs.Writes.{all_append}
use Rattle.rel_show.proofs.Fixed.{is_fixed, IsKnown}

-- the fixed words of the marks are reserved words and symbols
pub record Known (ms : List Mark) : Type 0 where
  pub all : AllByRecursion (λ m. IsKnown m.said) ms

pub none : Known []
none = record { all = tt }

pub first : {m : Mark} {ms : List Mark} → IsKnown m.said → Known ms → Known (m ∷ ms)
first is rest = record { all = (is, rest.all) }

pub fixed : (w : Word) {ms : List Mark} → is_fixed w ≡ true → Known ms → Known (word w ∷ ms)
fixed w is rest = record { all = (is, rest.all) }

pub called : (x : Word) {ms : List Mark} → Known ms → Known (named x ∷ ms)
called x rest = record { all = (tt, rest.all) }

pub join : {xs ys : List Mark} → Known xs → Known ys → Known (xs ++ ys)
join {xs} {ys} a b = record { all = all_append (λ m. IsKnown m.said) xs ys a.all b.all }

pub began : (at : ℕ) (ms : List Mark) → Known ms → Known (begins at ms)
began at [] k = k
began at (m ∷ ms) k = record { all = k.all }

pub treed : (d : ℕ) (ms : List Mark) → Known ms → Known (tree d ms)
treed d [] k = k
treed d (m ∷ ms) k = record { all = k.all }

pub numbered : (n : ℕ) (ms : List Mark) → Known ms → Known (element n ms)
numbered n [] k = k
numbered n (m ∷ ms) k = record { all = k.all }

pub in_braces : (ms : List Mark) → Known ms → Known (braced ms)
in_braces ms k = fixed (codes "{") refl (join k (fixed (codes "}") refl none))

pub each : {X : Type 0} (show : X → List Mark) → ((x : X) → Known (show x)) → (n : ℕ) (xs : List X) → Known (repeated show n xs)
each show k n [] = none
each show k n (x ∷ xs) = join (numbered n (show x) (k x)) (each show k (suc n) xs)

pub with_commas : {X : Type 0} (show : X → List Mark) → ((x : X) → Known (show x)) → (xs : List X) → Known (listed show xs)
with_commas show k [] = none
with_commas show k (x ∷ xs) = join (k x) (each (behind (codes ",") show) (λ y. first refl (k y)) 1 xs)

operated : (a b : List Mark) (w : Word) → is_fixed w ≡ true → Known a → Known b → Known (operation a w b)
operated a b w is left right = fixed (codes "(") refl (join (join left (fixed w is right)) (fixed (codes ")") refl none))

connected : (a b : List Mark) (w : Word) → is_fixed w ≡ true → Known a → Known b → Known (connective a w b)
connected a b w is left right = fixed (codes "[") refl (join (join left (fixed w is right)) (fixed (codes "]") refl none))

pub name : (x : Word) → Known (named x ∷ [])
name x = called x none

pub expression : (d : ℕ) (e : Expression) → Known (show_expression d e)
expression d (Var x) = first tt none
expression d (Num n) = first tt none
expression d Null = first refl none
expression d Empty = first refl none
expression d Alloc = first refl none
expression d (Add a b) = treed d _ (operated _ _ (codes "+") refl (expression (suc d) a) (expression (suc d) b))
expression d (Sub a b) = treed d _ (operated _ _ (codes "-") refl (expression (suc d) a) (expression (suc d) b))
expression d (Mul n a) = first refl (first tt (first refl (join (expression (suc d) a) (fixed (codes ")") refl none))))
expression d (Field a f) = treed d _ (operated _ _ (codes ".") refl (expression (suc d) a) (name f))
expression d (Single a) = first refl (join (expression (suc d) a) (fixed (codes "}") refl none))
expression d (Union a b) = treed d _ (operated _ _ (codes "union") refl (expression (suc d) a) (expression (suc d) b))
expression d (Meet a b) = treed d _ (operated _ _ (codes "meet") refl (expression (suc d) a) (expression (suc d) b))
expression d (Minus a b) = treed d _ (operated _ _ (codes "minus") refl (expression (suc d) a) (expression (suc d) b))
expression d (Image a f) = treed d _ (operated _ _ (codes "@") refl (expression (suc d) a) (name f))
expression d (Filter a c) = treed d _ (operated _ _ (codes "of") refl (expression (suc d) a) (name c))
expression d (Old a) = first refl (first refl (join (expression (suc d) a) (fixed (codes ")") refl none)))

pub quantified_known : (x c : Word) (region body : List Mark) → Known region → Known body → Known (quantified x c region body)
quantified_known x c region body r b = called x (fixed (codes ":") refl (called c (fixed (codes "in") refl (join (join r (fixed (codes "{") refl b)) (fixed (codes "}") refl none)))))

pub formula : (d : ℕ) (p : Formula) → Known (show_formula d p)
formula d True = first refl none
formula d False = first refl none
formula d (Eq e f) = treed d _ (operated _ _ (codes "=") refl (expression (suc d) e) (expression (suc d) f))
formula d (Lt e f) = treed d _ (operated _ _ (codes "<") refl (expression (suc d) e) (expression (suc d) f))
formula d (Le e f) = treed d _ (operated _ _ (codes "<=") refl (expression (suc d) e) (expression (suc d) f))
formula d (Member e f) = treed d _ (operated _ _ (codes "in") refl (expression (suc d) e) (expression (suc d) f))
formula d (Subset e f) = treed d _ (operated _ _ (codes "sub") refl (expression (suc d) e) (expression (suc d) f))
formula d (Not p) = first refl (formula (suc d) p)
formula d (And p q) = treed d _ (connected _ _ (codes "and") refl (formula (suc d) p) (formula (suc d) q))
formula d (Or p q) = treed d _ (connected _ _ (codes "or") refl (formula (suc d) p) (formula (suc d) q))
formula d (Implies p q) = treed d _ (connected _ _ (codes "implies") refl (formula (suc d) p) (formula (suc d) q))
formula d (Every x c e p) = first refl (quantified_known x c _ _ (expression (suc d) e) (formula (suc d) p))
formula d (Exists x c e p) = first refl (quantified_known x c _ _ (expression (suc d) e) (formula (suc d) p))

side : (s : Side) → IsKnown (show_side s).said
side Left = refl
side Right = refl

pub relation : (d : ℕ) (r : RelFormula) → Known (show_rel d r)
relation d RelTrue = first refl none
relation d RelFalse = first refl none
relation d (OnLeft p) = first refl (formula (suc d) p)
relation d (OnRight p) = first refl (formula (suc d) p)
relation d (Both p) = first refl (formula (suc d) p)
relation d (Agree e f) = treed d _ (operated _ _ (codes "=:=") refl (expression (suc d) e) (expression (suc d) f))
relation d (AgreeImage e f) = first refl (join (expression (suc d) e) (fixed (codes "@") refl (called f none)))
relation d (RelNot r) = first refl (relation (suc d) r)
relation d (RelAnd r s) = treed d _ (connected _ _ (codes "and") refl (relation (suc d) r) (relation (suc d) s))
relation d (RelOr r s) = treed d _ (connected _ _ (codes "or") refl (relation (suc d) r) (relation (suc d) s))
relation d (RelImplies r s) = treed d _ (connected _ _ (codes "implies") refl (relation (suc d) r) (relation (suc d) s))
relation d (RelEvery s x c e r) = first refl (first (side s) (quantified_known x c _ _ (expression (suc d) e) (relation (suc d) r)))
relation d (RelExists s x c e r) = first refl (first (side s) (quantified_known x c _ _ (expression (suc d) e) (relation (suc d) r)))
relation d (Eventually r) = first refl (relation (suc d) r)

pub parted : (l r : List Mark) → Known l → Known r → Known (sides l r)
parted l r a b = join a (fixed (codes "|") refl b)
