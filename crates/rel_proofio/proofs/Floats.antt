-- The value of a term or a formula has no float.
use Rattle.std.proofs.Common.{◌≡◌, false, refl}
use Rattle.serde_json.specs.Written.{has_float}
use Rattle.rel_logic.specs.Syntax.{Trm, var, bound, int, add, sub, mul, null, sel, sto, empty, one, cup, cap, less, img, of, link, Fml, verum, falsum, eq, lt, le, member, is, paired, ext, no, and, or, imp, every, some}
use Rattle.rel_proofio.specs.Trees.{term_data, fml_data}

pub term_has_none : (t : Trm) → has_float (term_data t) ≡ false
term_has_none (var n) = refl
term_has_none (bound n) = refl
term_has_none (int k) = refl
term_has_none (add a b) = rw (term_has_none a, term_has_none b) refl
term_has_none (sub a b) = rw (term_has_none a, term_has_none b) refl
term_has_none (mul k a) = rw (term_has_none a) refl
term_has_none null = refl
term_has_none (sel m a) = rw (term_has_none m, term_has_none a) refl
term_has_none (sto m a b) = rw (term_has_none m, term_has_none a, term_has_none b) refl
term_has_none empty = refl
term_has_none (one a) = rw (term_has_none a) refl
term_has_none (cup g h) = rw (term_has_none g, term_has_none h) refl
term_has_none (cap g h) = rw (term_has_none g, term_has_none h) refl
term_has_none (less g h) = rw (term_has_none g, term_has_none h) refl
term_has_none (img m g) = rw (term_has_none m, term_has_none g) refl
term_has_none (of c g) = rw (term_has_none g) refl
term_has_none (link p a b) = rw (term_has_none p, term_has_none a, term_has_none b) refl

pub fml_has_none : (f : Fml) → has_float (fml_data f) ≡ false
fml_has_none verum = refl
fml_has_none falsum = refl
fml_has_none (eq a b) = rw (term_has_none a, term_has_none b) refl
fml_has_none (lt a b) = rw (term_has_none a, term_has_none b) refl
fml_has_none (le a b) = rw (term_has_none a, term_has_none b) refl
fml_has_none (member a g) = rw (term_has_none a, term_has_none g) refl
fml_has_none (is c a) = rw (term_has_none a) refl
fml_has_none (paired p a b) = rw (term_has_none p, term_has_none a, term_has_none b) refl
fml_has_none (ext p q) = rw (term_has_none p, term_has_none q) refl
fml_has_none (no g) = rw (fml_has_none g) refl
fml_has_none (and g h) = rw (fml_has_none g, fml_has_none h) refl
fml_has_none (or g h) = rw (fml_has_none g, fml_has_none h) refl
fml_has_none (imp g h) = rw (fml_has_none g, fml_has_none h) refl
fml_has_none (every s g) = rw (fml_has_none g) refl
fml_has_none (some s g) = rw (fml_has_none g) refl
