-- The free bound numbers of terms and formulas.
use Rattle.std.specs.Prelude.{ℕ, ◌+◌, ◌-◌, max}
use Rattle.rel_logic.specs.Syntax.{Trm, var, bound, int, add, sub, mul, null, sel, sto, empty, one, cup, cap, less, img, of, link, Fml, verum, falsum, eq, lt, le, member, is, paired, ext, no, and, or, imp, every, some}

-- one more than the greatest bound number, or 0
abbrev pub free_bound_term : Trm → ℕ
free_bound_term (var n) = 0
free_bound_term (bound n) = n + 1
free_bound_term (int n) = 0
free_bound_term (add a b) = max (free_bound_term a) (free_bound_term b)
free_bound_term (sub a b) = max (free_bound_term a) (free_bound_term b)
free_bound_term (mul k a) = free_bound_term a
free_bound_term null = 0
free_bound_term (sel m a) = max (free_bound_term m) (free_bound_term a)
free_bound_term (sto m a b) = max (free_bound_term m) (max (free_bound_term a) (free_bound_term b))
free_bound_term empty = 0
free_bound_term (one a) = free_bound_term a
free_bound_term (cup g h) = max (free_bound_term g) (free_bound_term h)
free_bound_term (cap g h) = max (free_bound_term g) (free_bound_term h)
free_bound_term (less g h) = max (free_bound_term g) (free_bound_term h)
free_bound_term (img m g) = max (free_bound_term m) (free_bound_term g)
free_bound_term (of c g) = free_bound_term g
free_bound_term (link p a b) = max (free_bound_term p) (max (free_bound_term a) (free_bound_term b))

-- a quantifier takes the number 0, and lowers the others by one
abbrev pub free_bound_of : Fml → ℕ
free_bound_of verum = 0
free_bound_of falsum = 0
free_bound_of (eq a b) = max (free_bound_term a) (free_bound_term b)
free_bound_of (lt a b) = max (free_bound_term a) (free_bound_term b)
free_bound_of (le a b) = max (free_bound_term a) (free_bound_term b)
free_bound_of (member a g) = max (free_bound_term a) (free_bound_term g)
free_bound_of (is c a) = free_bound_term a
free_bound_of (paired p a b) = max (free_bound_term p) (max (free_bound_term a) (free_bound_term b))
free_bound_of (ext p q) = max (free_bound_term p) (free_bound_term q)
free_bound_of (no f) = free_bound_of f
free_bound_of (and f g) = max (free_bound_of f) (free_bound_of g)
free_bound_of (or f g) = max (free_bound_of f) (free_bound_of g)
free_bound_of (imp f g) = max (free_bound_of f) (free_bound_of g)
free_bound_of (every s f) = free_bound_of f - 1
free_bound_of (some s f) = free_bound_of f - 1
