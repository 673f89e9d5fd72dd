-- With no mark of an expression or a formula begins a tree that has a place.
use Rattle.std.proofs.Common.{ℕ, suc, List, [], ◌∷◌, ◌++◌, refl}
use Rattle.std.specs.Prelude.{codes}
use Rattle.rel_lang.specs.Syntax.{Word, Ty, Int, Rgn, Class, Side, Left, Right, Expression, Var, Num, Null, Empty, Alloc, Add, Sub, Mul, Field, Single, Union, Meet, Minus, Image, Filter, Old, Formula, True, False, Eq, Lt, Le, Member, Subset, Not, And, Or, Implies, Every, Exists, RelFormula, RelTrue, RelFalse, OnLeft, OnRight, Both, Agree, AgreeImage, RelNot, RelAnd, RelOr, RelImplies, RelEvery, RelExists, Eventually, BiLoop, Decl, Place, Effect, Global, Locations}
use Rattle.rel_lang.specs.Text.{Mark, word, named, tree, element, repeated, behind, ended, listed, operation, connective, quantified, braced, sides, show_expression, show_formula, show_side, show_rel, show_loop, show_type, show_decl, show_globals, show_params, show_place, show_effect, show_writes, show_locals, show_head}
use Rattle.rel_show.proofs.Places.{Plain}

pub plain_append : (ms ns : List Mark) → Plain ms → Plain ns → Plain (ms ++ ns)
plain_append [] ns p q = q
plain_append (m ∷ ms) ns p q = (p.0, plain_append ms ns p.1 q)

pub plain_tree : (d : ℕ) (ms : List Mark) → Plain ms → Plain (tree d ms)
plain_tree d [] p = p
plain_tree d (m ∷ ms) p = p

pub plain_element : (n : ℕ) (ms : List Mark) → Plain ms → Plain (element n ms)
plain_element n [] p = p
plain_element n (m ∷ ms) p = p

-- some marks, a word and some marks
pub plain_between : (ms : List Mark) (w : Word) (ns : List Mark) → Plain ms → Plain ns → Plain (ms ++ word w ∷ ns)
plain_between ms w ns p q = plain_append ms (word w ∷ ns) p (refl, q)

plain_operation : (d : ℕ) (ms : List Mark) (w : Word) (ns : List Mark) → Plain ms → Plain ns → Plain (tree d (operation ms w ns))
plain_operation d ms w ns p q = (refl, plain_between (ms ++ word w ∷ ns) (codes ")") [] (plain_between ms w ns p q) tt)

plain_connective : (d : ℕ) (ms : List Mark) (w : Word) (ns : List Mark) → Plain ms → Plain ns → Plain (tree d (connective ms w ns))
plain_connective d ms w ns p q = (refl, plain_between (ms ++ word w ∷ ns) (codes "]") [] (plain_between ms w ns p q) tt)

plain_quantified : (x c : Word) (ms ns : List Mark) → Plain ms → Plain ns → Plain (quantified x c ms ns)
plain_quantified x c ms ns p q = (refl, (refl, (refl, (refl, plain_between (ms ++ word (codes "{") ∷ ns) (codes "}") [] (plain_between ms (codes "{") ns p q) tt))))

pub plain_expression : (d : ℕ) (e : Expression) → Plain (show_expression d e)
plain_expression d (Var x) = (refl, tt)
plain_expression d (Num n) = (refl, tt)
plain_expression d Null = (refl, tt)
plain_expression d Empty = (refl, tt)
plain_expression d Alloc = (refl, tt)
plain_expression d (Add a b) = plain_operation d (show_expression (suc d) a) (codes "+") (show_expression (suc d) b) (plain_expression (suc d) a) (plain_expression (suc d) b)
plain_expression d (Sub a b) = plain_operation d (show_expression (suc d) a) (codes "-") (show_expression (suc d) b) (plain_expression (suc d) a) (plain_expression (suc d) b)
plain_expression d (Mul n a) = (refl, (refl, (refl, plain_between (show_expression (suc d) a) (codes ")") [] (plain_expression (suc d) a) tt)))
plain_expression d (Field a f) = plain_operation d (show_expression (suc d) a) (codes ".") (named f ∷ []) (plain_expression (suc d) a) (refl, tt)
plain_expression d (Single a) = (refl, plain_between (show_expression (suc d) a) (codes "}") [] (plain_expression (suc d) a) tt)
plain_expression d (Union a b) = plain_operation d (show_expression (suc d) a) (codes "union") (show_expression (suc d) b) (plain_expression (suc d) a) (plain_expression (suc d) b)
plain_expression d (Meet a b) = plain_operation d (show_expression (suc d) a) (codes "meet") (show_expression (suc d) b) (plain_expression (suc d) a) (plain_expression (suc d) b)
plain_expression d (Minus a b) = plain_operation d (show_expression (suc d) a) (codes "minus") (show_expression (suc d) b) (plain_expression (suc d) a) (plain_expression (suc d) b)
plain_expression d (Image a f) = plain_operation d (show_expression (suc d) a) (codes "@") (named f ∷ []) (plain_expression (suc d) a) (refl, tt)
plain_expression d (Filter a c) = plain_operation d (show_expression (suc d) a) (codes "of") (named c ∷ []) (plain_expression (suc d) a) (refl, tt)
plain_expression d (Old a) = (refl, (refl, plain_between (show_expression (suc d) a) (codes ")") [] (plain_expression (suc d) a) tt))

-- two expressions with a word between them
plain_test : (d : ℕ) (e : Expression) (w : Word) (f : Expression) → Plain (tree d (operation (show_expression (suc d) e) w (show_expression (suc d) f)))
plain_test d e w f = plain_operation d (show_expression (suc d) e) w (show_expression (suc d) f) (plain_expression (suc d) e) (plain_expression (suc d) f)

pub plain_formula : (d : ℕ) (p : Formula) → Plain (show_formula d p)
plain_formula d True = (refl, tt)
plain_formula d False = (refl, tt)
plain_formula d (Eq e f) = plain_test d e (codes "=") f
plain_formula d (Lt e f) = plain_test d e (codes "<") f
plain_formula d (Le e f) = plain_test d e (codes "<=") f
plain_formula d (Member e f) = plain_test d e (codes "in") f
plain_formula d (Subset e f) = plain_test d e (codes "sub") f
plain_formula d (Not p) = (refl, plain_formula (suc d) p)
plain_formula d (And p q) = plain_connective d (show_formula (suc d) p) (codes "and") (show_formula (suc d) q) (plain_formula (suc d) p) (plain_formula (suc d) q)
plain_formula d (Or p q) = plain_connective d (show_formula (suc d) p) (codes "or") (show_formula (suc d) q) (plain_formula (suc d) p) (plain_formula (suc d) q)
plain_formula d (Implies p q) = plain_connective d (show_formula (suc d) p) (codes "implies") (show_formula (suc d) q) (plain_formula (suc d) p) (plain_formula (suc d) q)
plain_formula d (Every x c e p) = (refl, plain_quantified x c (show_expression (suc d) e) (show_formula (suc d) p) (plain_expression (suc d) e) (plain_formula (suc d) p))
plain_formula d (Exists x c e p) = (refl, plain_quantified x c (show_expression (suc d) e) (show_formula (suc d) p) (plain_expression (suc d) e) (plain_formula (suc d) p))

plain_side : (s : Side) → Plain (show_side s ∷ [])
plain_side Left = (refl, tt)
plain_side Right = (refl, tt)

pub plain_rel : (d : ℕ) (r : RelFormula) → Plain (show_rel d r)
plain_rel d RelTrue = (refl, tt)
plain_rel d RelFalse = (refl, tt)
plain_rel d (OnLeft p) = (refl, plain_formula (suc d) p)
plain_rel d (OnRight p) = (refl, plain_formula (suc d) p)
plain_rel d (Both p) = (refl, plain_formula (suc d) p)
plain_rel d (Agree e f) = plain_test d e (codes "=:=") f
plain_rel d (AgreeImage e f) = (refl, plain_between (show_expression (suc d) e) (codes "@") (named f ∷ []) (plain_expression (suc d) e) (refl, tt))
plain_rel d (RelNot r) = (refl, plain_rel (suc d) r)
plain_rel d (RelAnd r s) = plain_connective d (show_rel (suc d) r) (codes "and") (show_rel (suc d) s) (plain_rel (suc d) r) (plain_rel (suc d) s)
plain_rel d (RelOr r s) = plain_connective d (show_rel (suc d) r) (codes "or") (show_rel (suc d) s) (plain_rel (suc d) r) (plain_rel (suc d) s)
plain_rel d (RelImplies r s) = plain_connective d (show_rel (suc d) r) (codes "implies") (show_rel (suc d) s) (plain_rel (suc d) r) (plain_rel (suc d) s)
plain_rel d (RelEvery s x c e r) = (refl, ((plain_side s).0, plain_quantified x c (show_expression (suc d) e) (show_rel (suc d) r) (plain_expression (suc d) e) (plain_rel (suc d) r)))
plain_rel d (RelExists s x c e r) = (refl, ((plain_side s).0, plain_quantified x c (show_expression (suc d) e) (show_rel (suc d) r) (plain_expression (suc d) e) (plain_rel (suc d) r)))
plain_rel d (Eventually r) = (refl, plain_rel (suc d) r)

-- ---- repetitions

pub plain_repeated : {X : Type 0} (show : X → List Mark) → ((x : X) → Plain (show x)) → (n : ℕ) (xs : List X) → Plain (repeated show n xs)
plain_repeated show one n [] = tt
plain_repeated show one n (x ∷ xs) = plain_append (element n (show x)) (repeated show (suc n) xs) (plain_element n (show x) (one x)) (plain_repeated show one (suc n) xs)

pub plain_listed : {X : Type 0} (show : X → List Mark) → ((x : X) → Plain (show x)) → (xs : List X) → Plain (listed show xs)
plain_listed show one [] = tt
plain_listed show one (x ∷ xs) = plain_append (show x) (repeated (behind (codes ",") show) 1 xs) (one x) (plain_repeated (behind (codes ",") show) (λ y. (refl, one y)) 1 xs)

pub plain_braced : (ms : List Mark) → Plain ms → Plain (braced ms)
plain_braced ms p = (refl, plain_between ms (codes "}") [] p tt)

pub plain_sides : (ms ns : List Mark) → Plain ms → Plain ns → Plain (sides ms ns)
plain_sides ms ns p q = plain_between ms (codes "|") ns p q

-- ---- declarations and effects

plain_type : (t : Ty) → Plain (show_type t ∷ [])
plain_type Int = (refl, tt)
plain_type Rgn = (refl, tt)
plain_type (Class c) = (refl, tt)

plain_decl : (d : Decl) → Plain (show_decl d)
plain_decl d = (refl, (refl, plain_type d.ty))

pub plain_ended : (d : Decl) → Plain (ended (codes ";") show_decl d)
plain_ended d = plain_between (show_decl d) (codes ";") [] (plain_decl d) tt

pub plain_globals : (ds : List Decl) → Plain (show_globals ds)
plain_globals ds = plain_repeated (behind (codes "global") (ended (codes ";") show_decl)) (λ d. (refl, plain_ended d)) 1 ds

pub plain_locals : (ds : List Decl) → Plain (show_locals ds)
plain_locals ds = plain_repeated (behind (codes "var") (ended (codes ";") show_decl)) (λ d. (refl, plain_ended d)) 1 ds

pub plain_fields : (ds : List Decl) → Plain (repeated (ended (codes ";") show_decl) 1 ds)
plain_fields ds = plain_repeated (ended (codes ";") show_decl) plain_ended 1 ds

plain_params : (ds : List Decl) → Plain (show_params ds)
plain_params ds = (refl, plain_between (listed show_decl ds) (codes ")") [] (plain_listed show_decl plain_decl ds) tt)

pub plain_place : (p : Place) → Plain (show_place p)
plain_place p = plain_between (show_expression 1 p.region) (codes "@") (named p.field ∷ []) (plain_expression 1 p.region) (refl, tt)

plain_effect : (e : Effect) → Plain (show_effect e)
plain_effect (Global x) = (refl, tt)
plain_effect (Locations p) = plain_place p

pub plain_writes : (es : List Effect) → Plain (show_writes es)
plain_writes es = (refl, plain_braced (listed show_effect es) (plain_listed show_effect plain_effect es))

pub plain_head : (name : Word) (params : List Decl) (result : Ty) → Plain (show_head name params result)
plain_head name params result = (refl, plain_between (show_params params) (codes ":") (show_type result ∷ []) (plain_params params) (plain_type result))

-- ---- loops of biprograms

pub plain_loop : (d : ℕ) (l : BiLoop) → Plain (show_loop d l)
plain_loop d l = (
  refl,
  plain_between _ (codes "align") _
      (plain_between _ (codes "rel") _
      (plain_between _ (codes "inv") _
      (plain_sides (show_formula d l.tests.0) (show_formula d l.tests.1) (plain_formula d l.tests.0) (plain_formula d l.tests.1))
      (plain_sides (show_formula d l.invs.0) (show_formula d l.invs.1) (plain_formula d l.invs.0) (plain_formula d l.invs.1)))
      (plain_rel d l.rel))
      (plain_sides (show_rel d l.guards.0) (show_rel d l.guards.1) (plain_rel d l.guards.0) (plain_rel d l.guards.1)),
)
