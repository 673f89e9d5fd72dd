-- A closed term put for a variable, or for a bound number that no quantifier takes.
use Rattle.std.specs.Prelude.{ℕ, ◌+◌, Bool, false, ◌==◌, if◌then◌else◌}
use Rattle.rel_logic.specs.Syntax.{Trm, var, bound, int, add, sub, mul, null, sel, sto, empty, one, cup, cap, less, img, of, link, Fml, verum, falsum, eq, lt, le, member, is, paired, ext, no, and, or, imp, every, some}

-- what a term is put for
pub data Place : Type 0 where
  variable : ℕ → Place
  number : ℕ → Place

abbrev pub is_variable : Place → ℕ → Bool
is_variable (variable n) m = m == n
is_variable (number n) m = false

abbrev pub is_number : Place → ℕ → Bool
is_number (variable n) m = false
is_number (number n) m = m == n

-- the same place, seen from under a quantifier
abbrev pub under : Place → Place
under (variable n) = variable n
under (number n) = number (n + 1)

-- t put for the place in a term
module _ (x : Place) (t : Trm) where
  abbrev pub put_term : Trm → Trm
  put_term (var n) = if is_variable x n then t else var n
  put_term (bound n) = if is_number x n then t else bound n
  put_term (int n) = int n
  put_term (add a b) = add (put_term a) (put_term b)
  put_term (sub a b) = sub (put_term a) (put_term b)
  put_term (mul k a) = mul k (put_term a)
  put_term null = null
  put_term (sel m a) = sel (put_term m) (put_term a)
  put_term (sto m a b) = sto (put_term m) (put_term a) (put_term b)
  put_term empty = empty
  put_term (one a) = one (put_term a)
  put_term (cup g h) = cup (put_term g) (put_term h)
  put_term (cap g h) = cap (put_term g) (put_term h)
  put_term (less g h) = less (put_term g) (put_term h)
  put_term (img m g) = img (put_term m) (put_term g)
  put_term (of c g) = of c (put_term g)
  put_term (link p a b) = link (put_term p) (put_term a) (put_term b)

-- t put for the place in a formula; t is closed, so it is the same under a quantifier
abbrev pub put : Place → Trm → Fml → Fml
put x t verum = verum
put x t falsum = falsum
put x t (eq a b) = eq (put_term x t a) (put_term x t b)
put x t (lt a b) = lt (put_term x t a) (put_term x t b)
put x t (le a b) = le (put_term x t a) (put_term x t b)
put x t (member a g) = member (put_term x t a) (put_term x t g)
put x t (is c a) = is c (put_term x t a)
put x t (paired p a b) = paired (put_term x t p) (put_term x t a) (put_term x t b)
put x t (ext p q) = ext (put_term x t p) (put_term x t q)
put x t (no f) = no (put x t f)
put x t (and f g) = and (put x t f) (put x t g)
put x t (or f g) = or (put x t f) (put x t g)
put x t (imp f g) = imp (put x t f) (put x t g)
put x t (every s f) = every s (put (under x) t f)
put x t (some s f) = some s (put (under x) t f)

-- t for variable n
abbrev pub substituted : ℕ → Trm → Fml → Fml
substituted n t f = put (variable n) t f

-- t for the outermost free bound number
abbrev pub instantiated : Trm → Fml → Fml
instantiated t f = put (number 0) t f
