-- The terms that stand for a state, and the term of an expression.
use Rattle.std.specs.Prelude.{ℕ, ◌+◌, pos, if◌then◌else◌, List, [], ◌∷◌, map, bytes_eq}
use Rattle.rel_lang.specs.Syntax.{Word, Class, Expression, Var, Num, Null, Empty, Alloc, Add, Sub, Mul, Field, Single, Union, Meet, Minus, Image, Filter, Old, Decl}
use Rattle.rel_logic.specs.Syntax.{Trm, var, bound, int, add, sub, mul, null, sel, sto, empty, one, cup, cap, less, img, of, link}
use Rattle.rel_encode.specs.Numbers.{Numbers, number_of_class}

-- A term for each variable of a scope, one for the map of each field, both in order of declaration, and one for the allocated references.
pub record Store : Type 0 where
  pub vars : List Trm
  pub maps : List Trm
  pub alloc : Trm

-- The present states of two sides, their states at entry, and the bijection.
pub record PairStore : Type 0 where
  pub left : Store
  pub right : Store
  pub left_entry : Store
  pub right_entry : Store
  pub bij : Trm

-- the term of the first one of this name; 0 where there is none
abbrev pub term_named : {A : Type 0} → (A → Word) → Word → List A → List Trm → Trm
term_named name x [] ts = int (pos 0)
term_named name x (a ∷ rest) [] = int (pos 0)
term_named name x (a ∷ rest) (t ∷ ts) = if bytes_eq x (name a) then t else term_named name x rest ts

-- ---- under quantifiers

-- The term under k more quantifiers: its bound numbers are higher by k.
module _ (k : ℕ) where
  abbrev pub lifted : Trm → Trm
  lifted (var n) = var n
  lifted (bound n) = bound (n + k)
  lifted (int n) = int n
  lifted (add a b) = add (lifted a) (lifted b)
  lifted (sub a b) = sub (lifted a) (lifted b)
  lifted (mul n a) = mul n (lifted a)
  lifted null = null
  lifted (sel m a) = sel (lifted m) (lifted a)
  lifted (sto m a b) = sto (lifted m) (lifted a) (lifted b)
  lifted empty = empty
  lifted (one a) = one (lifted a)
  lifted (cup g h) = cup (lifted g) (lifted h)
  lifted (cap g h) = cap (lifted g) (lifted h)
  lifted (less g h) = less (lifted g) (lifted h)
  lifted (img m g) = img (lifted m) (lifted g)
  lifted (of c g) = of c (lifted g)
  lifted (link p a b) = link (lifted p) (lifted a) (lifted b)

-- the store under one more quantifier
abbrev pub lifted_store : Store → Store
lifted_store st = record { vars = map (lifted 1) st.vars; maps = map (lifted 1) st.maps; alloc = lifted 1 st.alloc }

-- the same, where the quantifier binds a variable that now is the first one of the scope
abbrev pub bound_store : Store → Store
bound_store st = record { vars = bound 0 ∷ map (lifted 1) st.vars; maps = map (lifted 1) st.maps; alloc = lifted 1 st.alloc }

-- the variable that it binds
abbrev pub member_declared : Word → Word → Decl
member_declared x c = record { name = x; ty = Class c }

-- ---- expressions

module _ (numbers : Numbers) (scope : List Decl) where
  abbrev pub variable_term : Word → Store → Trm
  variable_term x st = term_named (λ d. d.name) x scope st.vars

  abbrev pub field_term : Word → Store → Trm
  field_term f st = term_named (λ d. d.name) f numbers.fields st.maps

  abbrev pub term_of : Expression → Store → Store → Trm
  term_of (Var x) entry now = variable_term x now
  term_of (Num n) entry now = int n
  term_of Null entry now = null
  term_of Empty entry now = empty
  term_of Alloc entry now = now.alloc
  term_of (Add a b) entry now = add (term_of a entry now) (term_of b entry now)
  term_of (Sub a b) entry now = sub (term_of a entry now) (term_of b entry now)
  term_of (Mul n a) entry now = mul n (term_of a entry now)
  term_of (Field a f) entry now = sel (field_term f now) (term_of a entry now)
  term_of (Single a) entry now = one (term_of a entry now)
  term_of (Union a b) entry now = cup (term_of a entry now) (term_of b entry now)
  term_of (Meet a b) entry now = cap (term_of a entry now) (term_of b entry now)
  term_of (Minus a b) entry now = less (term_of a entry now) (term_of b entry now)
  term_of (Image a f) entry now = img (field_term f now) (term_of a entry now)
  term_of (Filter a c) entry now = of (number_of_class numbers c) (term_of a entry now)
  term_of (Old a) entry now = term_of a entry entry
