-- Finite sets of pairs of references, of which the bijections are some.
use Rattle.std.specs.Prelude.{◌≡◌, Bool, not, ◌&&◌, ◌==◌, if◌then◌else◌, IsTrue, Some}
use Rattle.std.specs.List.{list_any}
use Rattle.std.specs.declared.cmp.Ordering.{Ordering}
use Rattle.std.specs.Ordering.{on, then_cmp}
use Rattle.std.specs.FinSet as set
use Rattle.rel_list.specs.References.{Obj, obj_cmp, same_obj, Ref}

abbrev pub Pair : Type 0
Pair = Obj × Obj

abbrev pub pair_cmp : Pair → Pair → Ordering
pair_cmp = then_cmp (on (λ p. p.0) obj_cmp) (on (λ p. p.1) obj_cmp)

abbrev pub Pairs : Type 0
Pairs = set.FinSet pair_cmp

-- b is the partner of a
abbrev pub has : Pairs → Obj → Obj → Bool
has q a b = set.contains q (a, b)

-- each reference has one partner at most, on either side, and it is of its class
pub record IsOneToOne (q : Pairs) : Type 0 where
  pub classes : (a b : Obj) → IsTrue (has q a b) → a.class ≡ b.class
  pub one_right : (a b c : Obj) → IsTrue (has q a b) → IsTrue (has q a c) → b ≡ c
  pub one_left : (a b c : Obj) → IsTrue (has q a c) → IsTrue (has q b c) → a ≡ b

-- every pair of q is a pair of more
abbrev pub Extends : Pairs → Pairs → Type 0
Extends q more = (a b : Obj) → IsTrue (has q a b) → IsTrue (has more a b)

-- a has a partner on the right, b one on the left
abbrev pub is_paired_left : Pairs → Obj → Bool
is_paired_left q a = list_any (λ p. same_obj p.0 a) (set.items q)

abbrev pub is_paired_right : Pairs → Obj → Bool
is_paired_right q b = list_any (λ p. same_obj p.1 b) (set.items q)

-- the two are of one class, and neither has a partner
abbrev pub can_link : Pairs → Obj → Obj → Bool
can_link q a b = a.class == b.class && not (is_paired_left q a) && not (is_paired_right q b)

-- q and the pair of the two, where they can be linked; else q
abbrev pub linked : Pairs → Ref → Ref → Pairs
linked q (Some a) (Some b) = if can_link q a b then set.insert q (a, b) else q
linked q _ _ = q
