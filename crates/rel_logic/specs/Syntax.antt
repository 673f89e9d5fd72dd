-- The trees of the logic, without boxes.
use Rattle.std.specs.Prelude.{ℕ, ℤ, List}

-- a sort
pub data Srt : Type 0 where
  int_sort : Srt
  ref_sort : Srt
  rgn_sort : Srt
  map_int_sort : Srt
  map_ref_sort : Srt
  map_rgn_sort : Srt
  bij_sort : Srt

-- a term; a bound number is 0 for the innermost quantifier
pub data Trm : Type 0 where
  var : ℕ → Trm
  bound : ℕ → Trm
  int : ℤ → Trm
  add : Trm → Trm → Trm
  sub : Trm → Trm → Trm
  mul : ℤ → Trm → Trm
  null : Trm
  sel : Trm → Trm → Trm
  sto : Trm → Trm → Trm → Trm
  empty : Trm
  one : Trm → Trm
  cup : Trm → Trm → Trm
  cap : Trm → Trm → Trm
  less : Trm → Trm → Trm
  img : Trm → Trm → Trm
  of : ℕ → Trm → Trm
  link : Trm → Trm → Trm → Trm

-- a formula
pub data Fml : Type 0 where
  verum : Fml
  falsum : Fml
  eq : Trm → Trm → Fml
  lt : Trm → Trm → Fml
  le : Trm → Trm → Fml
  member : Trm → Trm → Fml
  is : ℕ → Trm → Fml
  paired : Trm → Trm → Trm → Fml
  ext : Trm → Trm → Fml
  no : Fml → Fml
  and : Fml → Fml → Fml
  or : Fml → Fml → Fml
  imp : Fml → Fml → Fml
  every : Srt → Fml → Fml
  some : Srt → Fml → Fml

-- a sequent
pub record Sqt : Type 0 where
  pub sorts : List Srt
  pub hyps : List Fml
  pub goal : Fml

-- an open node of a derivation
pub record Nod : Type 0 where
  pub sorts : List Srt
  pub forms : List Fml
