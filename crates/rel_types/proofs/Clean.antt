-- When there is no flaw, and no fault.
use Rattle.std.proofs.Common.{◌≡◌, ℕ, Bool, true, false, ◌||◌, ◌↔◌, if◌then◌else◌, List, [], ◌∷◌, Option, Some, None, refl, ap, ◌∙◌}
use Rattle.std.proofs.lemmas.Bool.{or_parts, or_from}
use Rattle.std.specs.List.{AllByRecursion}
use Rattle.rel_types.proofs.Equivalences.{iff_same, iff_then, iff_both}
use Rattle.rel_flaws.specs.Flaws.{Kind, Fault, Flaws, flawless, either, Pass, ForTwice, ForOthers, at_place, fault_at, first_of, first_in}

pub or_false : (a b : Bool) → ((a || b) ≡ false) ↔ ((a ≡ false) × (b ≡ false))
or_false a b = (λ h. or_parts a b h, λ h. or_from a b h.0 h.1)

-- ---- flaws

-- no flaw at all
abbrev pub IsClean : Flaws → Type 0
IsClean f = f ≡ flawless

-- each flaw is absent
pub record AreAbsent (f : Flaws) : Type 0 where
  pub twice : f.twice ≡ false
  pub unknown : f.unknown ≡ false
  pub missing : f.missing ≡ false
  pub no_main : f.no_main ≡ false
  pub not_visible : f.not_visible ≡ false
  pub wrong_arity : f.wrong_arity ≡ false
  pub target : f.target ≡ false
  pub old_here : f.old_here ≡ false
  pub not_code : f.not_code ≡ false
  pub wrong_type : f.wrong_type ≡ false

pub clean_parts : (f : Flaws) → IsClean f → AreAbsent f
clean_parts f e = record {
  twice = ap (λ g. g.twice) e;
  unknown = ap (λ g. g.unknown) e;
  missing = ap (λ g. g.missing) e;
  no_main = ap (λ g. g.no_main) e;
  not_visible = ap (λ g. g.not_visible) e;
  wrong_arity = ap (λ g. g.wrong_arity) e;
  target = ap (λ g. g.target) e;
  old_here = ap (λ g. g.old_here) e;
  not_code = ap (λ g. g.not_code) e;
  wrong_type = ap (λ g. g.wrong_type) e;
}

pub clean_whole : (f : Flaws) → AreAbsent f → IsClean f
clean_whole f a = rw (a.twice, a.unknown, a.missing, a.no_main, a.not_visible, a.wrong_arity, a.target, a.old_here, a.not_code, a.wrong_type) refl

pub clean_both : (f g : Flaws) → IsClean (either f g) ↔ (IsClean f × IsClean g)
clean_both f g = (
  λ h.
      let p = clean_parts (either f g) h in (
        clean_whole f (record {
          twice = (or_parts f.twice g.twice p.twice).0;
          unknown = (or_parts f.unknown g.unknown p.unknown).0;
          missing = (or_parts f.missing g.missing p.missing).0;
          no_main = (or_parts f.no_main g.no_main p.no_main).0;
          not_visible = (or_parts f.not_visible g.not_visible p.not_visible).0;
          wrong_arity = (or_parts f.wrong_arity g.wrong_arity p.wrong_arity).0;
          target = (or_parts f.target g.target p.target).0;
          old_here = (or_parts f.old_here g.old_here p.old_here).0;
          not_code = (or_parts f.not_code g.not_code p.not_code).0;
          wrong_type = (or_parts f.wrong_type g.wrong_type p.wrong_type).0;
        }),
        clean_whole g (record {
          twice = (or_parts f.twice g.twice p.twice).1;
          unknown = (or_parts f.unknown g.unknown p.unknown).1;
          missing = (or_parts f.missing g.missing p.missing).1;
          no_main = (or_parts f.no_main g.no_main p.no_main).1;
          not_visible = (or_parts f.not_visible g.not_visible p.not_visible).1;
          wrong_arity = (or_parts f.wrong_arity g.wrong_arity p.wrong_arity).1;
          target = (or_parts f.target g.target p.target).1;
          old_here = (or_parts f.old_here g.old_here p.old_here).1;
          not_code = (or_parts f.not_code g.not_code p.not_code).1;
          wrong_type = (or_parts f.wrong_type g.wrong_type p.wrong_type).1;
        }),
      ),
  λ h. ap (λ x. either x g) h.0 ∙ h.1,
)

-- ---- faults

-- no fault in either pass
abbrev pub HasNoFault : (Pass → Option Fault) → Type 0
HasNoFault fault = (fault ForTwice ≡ None) × (fault ForOthers ≡ None)

-- a kind that decides where a flaw is present, and else the next
next_kind : (at : ℕ) (flaw : Bool) (k : Kind) (o : Option Kind) → at_place at (if flaw then Some k else o) ≡ None → (flaw ≡ false) × (at_place at o ≡ None)
next_kind at true k o h = absurd cc
next_kind at false k o h = (refl, h)

absent : (at : ℕ) (f : Flaws) → HasNoFault (λ pass. fault_at pass at f) → AreAbsent f
absent at f h =
    let twice = next_kind at f.twice _ _ h.0 in
    let unknown = next_kind at f.unknown _ _ h.1 in
    let missing = next_kind at f.missing _ _ unknown.1 in
    let no_main = next_kind at f.no_main _ _ missing.1 in
    let not_visible = next_kind at f.not_visible _ _ no_main.1 in
    let wrong_arity = next_kind at f.wrong_arity _ _ not_visible.1 in
    let target = next_kind at f.target _ _ wrong_arity.1 in
    let old_here = next_kind at f.old_here _ _ target.1 in
    let not_code = next_kind at f.not_code _ _ old_here.1 in
    let wrong_type = next_kind at f.wrong_type _ _ not_code.1 in
    record {
      twice = twice.0;
      unknown = unknown.0;
      missing = missing.0;
      no_main = no_main.0;
      not_visible = not_visible.0;
      wrong_arity = wrong_arity.0;
      target = target.0;
      old_here = old_here.0;
      not_code = not_code.0;
      wrong_type = wrong_type.0;
    }

pub no_fault_at : (at : ℕ) (f : Flaws) → HasNoFault (λ pass. fault_at pass at f) ↔ IsClean f
no_fault_at at f = (λ h. clean_whole f (absent at f h), λ h. (ap (λ g. fault_at ForTwice at g) h, ap (λ g. fault_at ForOthers at g) h))

pub first_none : (a b : Option Fault) → (first_of a b ≡ None) ↔ ((a ≡ None) × (b ≡ None))
first_none None b = (λ h. (refl, h), λ h. h.1)
first_none (Some f) b = (λ h. absurd cc, λ h. absurd cc)

pub no_fault_in_both : (a b : Pass → Option Fault) → HasNoFault (λ pass. first_of (a pass) (b pass)) ↔ (HasNoFault a × HasNoFault b)
no_fault_in_both a b = (
  λ h.
      let x = (first_none (a ForTwice) (b ForTwice)).0 h.0 in
      let y = (first_none (a ForOthers) (b ForOthers)).0 h.1 in
      ((x.0, y.0), (x.1, y.1)),
  λ h. ((first_none (a ForTwice) (b ForTwice)).1 (h.0.0, h.1.0), (first_none (a ForOthers) (b ForOthers)).1 (h.0.1, h.1.1)),
)

pub no_fault_in_list : {X : Type 0} (fault : Pass → X → Option Fault) (xs : List X) → HasNoFault (λ pass. first_in (fault pass) xs) ↔ AllByRecursion (λ x. HasNoFault (λ pass. fault pass x)) xs
no_fault_in_list fault [] = (λ h. tt, λ h. (refl, refl))
no_fault_in_list fault (x ∷ xs) = iff_then (no_fault_in_both (λ pass. fault pass x) (λ pass. first_in (fault pass) xs)) (iff_both iff_same (no_fault_in_list fault xs))
