-- When a judgement is true.
use Rattle.std.specs.Prelude.{◌≡◌, ◌≢◌, ℕ, false, IsSomeAnd}
use Rattle.rel_list.specs.Pairs.{Pairs, Extends}
use Rattle.rel_lang.specs.Syntax.{Judgement, Bundle}
use Rattle.rel_lang.specs.State.{Tables, tables_of, State, IsWellFormed}
use Rattle.rel_lang.specs.Scope.{Setting, pre_scope, post_scope, unit_setting}
use Rattle.rel_lang.specs.Lookup.{Subject, subject_of}
use Rattle.rel_lang.specs.Run.{Picks, Outcome, Done, Fault, code_of, begin, run_of, unit_program}
use Rattle.rel_lang.specs.Relation.{IsBijection, Moment, at_entry, RelHolds}

abbrev pub setting_of : Subject → Setting
setting_of x = unit_setting x.unit x.proc

abbrev pub subject_run : Tables → Subject → ℕ → State → Picks → Outcome
subject_run tables x n s k = run_of (unit_program tables x.unit) n (code_of (setting_of x) false) x.proc.body.commands (begin (setting_of x) s) k

-- the end of a run that started in s, as the postcondition sees it
abbrev pub at_end : Subject → State → State → Moment
at_end x s t = record { scope = post_scope (setting_of x); entry = begin (setting_of x) s; now = t }

-- Some extension of the bijection is one of the final states and satisfies the postcondition.
pub record EndsRelated (tables : Tables) (j : Judgement) (l r : Subject) (s s' t t' : State) (q : Pairs) : Type 0 where
  pub more : Pairs
  pub extends : Extends q more
  pub bijection : IsBijection more t t'
  pub gives : RelHolds tables j.gives.formula (at_end l s t) (at_end r s' t') more

-- Neither side is a fault, whatever the other does, and where both are done they end related.
pub record RunRelated (tables : Tables) (j : Judgement) (l r : Subject) (s s' : State) (q : Pairs) (left right : Outcome) : Type 0 where
  pub left_safe : left ≢ Fault
  pub right_safe : right ≢ Fault
  pub related : (t t' : State) (k k' : Picks) → left ≡ Done t k → right ≡ Done t' k' → EndsRelated tables j l r s s' t t' q

-- two states in which the two sides may start, under a bijection of them
pub record AreStarts (tables : Tables) (j : Judgement) (l r : Subject) (s s' : State) (q : Pairs) : Type 0 where
  pub left_formed : IsWellFormed tables (pre_scope (setting_of l)) s
  pub right_formed : IsWellFormed tables (pre_scope (setting_of r)) s'
  pub bijection : IsBijection q s s'
  pub needs : RelHolds tables j.needs.formula (at_entry (pre_scope (setting_of l)) s) (at_entry (pre_scope (setting_of r)) s') q

-- from every two starts, at every two bounds and with all picks
abbrev pub IsTrueOf : Tables → Judgement → Subject → Subject → Type 0
IsTrueOf tables j l r =
    (s s' : State) (q : Pairs) → AreStarts tables j l r s s' q
    → (n n' : ℕ) (k k' : Picks) → RunRelated tables j l r s s' q (subject_run tables l n s k) (subject_run tables r n' s' k')

abbrev pub IsTrueJudgement : Bundle → Judgement → Type 0
IsTrueJudgement b j = IsSomeAnd (subject_of b j.left) (λ l. IsSomeAnd (subject_of b j.right) (λ r. IsTrueOf (tables_of b) j l r))
