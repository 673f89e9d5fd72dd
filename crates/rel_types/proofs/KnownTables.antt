-- What the tables and the judgements by name say of a bundle.
use Rattle.std.proofs.Common.{◌≡◌, ℕ, suc, true, false, ◌||◌, if◌then◌else◌, List, [], ◌∷◌, map, Option, Some, None, option_map, refl, sym, ap, ◌∙◌}
use Rattle.std.specs.Prelude.{bytes_eq, is_some}
use Rattle.std.proofs.lemmas.Slice.Eq.{bytes_eq-Decides}
use Rattle.rel_lang.specs.Syntax.{Word, Judgement, Bundle}
use Rattle.rel_lang.specs.State.{ClassField, class_items, fields_of, tables_of, find_named, position}
use Rattle.rel_lang.specs.Lookup.{find_judgement}
use Rattle.rel_flaws.specs.Inference.{is_among}
use Rattle.rel_flaws.specs.Entries.{find_entry}
use Rattle.rel_flaws.specs.View.{field_of, tables_seen}
use Rattle.rel_flaws.specs.AlignmentView.{judgement_about}
use Rattle.rel_flaws.specs.declared.scope.SeenField.{SeenField}
use Rattle.rel_flaws.specs.declared.scope.Tables as T
use Rattle.rel_flaws.specs.declared.sides.Subjects.{Subjects}
use Rattle.rel_flaws.proofs.Indexes.{some_of_map, is_listed, found_field}
use Rattle.rel_flaws.proofs.FoundJudgements.{found_judgement}
use Rattle.rel_types.specs.Lookups.{SameTables}
use Rattle.rel_types.specs.Known.{BothAre, subjects, SameSubjects}
use Rattle.rel_types.specs.ByName.{AreByName, IsFieldSeen, IsAbout, place_in, AreNumbered, class_names}

-- ---- classes

placed : (x : Word) (ys : List Word) → is_some (place_in x ys) ≡ is_among x ys
placed x [] = refl
placed x (y ∷ ys) =
    elim (bytes_eq x y) as (λ b. is_some (if b then Some 0 else option_map suc (place_in x ys)) ≡ (b || is_among x ys)) [
      | true ↦ refl
      | false ↦ some_of_map suc (place_in x ys) ∙ placed x ys
    ]

later : (p n : ℕ) (o : Option ℕ) → ((m : ℕ) → o ≡ Some m → m ≡ p) → option_map suc o ≡ Some n → n ≡ suc p
later p n None is h = absurd cc
later p n (Some m) is h = let k = is m refl in cc

pub place_is_position : (x : Word) (ys : List Word) (n : ℕ) → place_in x ys ≡ Some n → n ≡ position x ys
place_is_position x [] n e = absurd cc
place_is_position x (y ∷ ys) n e =
    (elim (bytes_eq x y) as (λ b. (if b then Some 0 else option_map suc (place_in x ys)) ≡ Some n → n ≡ (if b then 0 else suc (position x ys))) [
      | true ↦ λ h. cc
      | false ↦ λ h. later (position x ys) n (place_in x ys) (place_is_position x ys) h
    ]) e

-- ---- fields

named : {A : Type 0} (name : A → Word) (x : Word) (ms : List A) (a : A) → find_named name x ms ≡ Some a → name a ≡ x
named name x [] a e = absurd cc
named name x (m ∷ ms) a e =
    (elim (bytes_eq x (name m)) as (λ b. bytes_eq x (name m) ≡ b → (if b then Some m else find_named name x ms) ≡ Some a → name a ≡ x) [
      | true ↦ λ same h. let is = (bytes_eq-Decides x (name m)).0 same in cc
      | false ↦ λ differs h. named name x ms a h
    ]) refl e

seen_fields : (x : Word) (o : Option ClassField) (p : Option SeenField) → ((d : ClassField) → o ≡ Some d → d.name ≡ x) → BothAre IsFieldSeen o p → option_map (field_of x) p ≡ o
seen_fields x None None is h = refl
seen_fields x (Some d) (Some s) is h = ap (λ y. Some (field_of y s)) (sym (is d refl)) ∙ ap (λ f. Some f) h
seen_fields x None (Some s) is h = absurd h
seen_fields x (Some d) None is h = absurd h

-- ---- all of it

pub same_tables : (b : Bundle) (t : T.Tables) → AreNumbered (class_names b.items) t.classes → AreByName IsFieldSeen (λ d. d.name) (fields_of (class_items b.items)) t.fields
    → SameTables (tables_seen t) (tables_of b)
same_tables b t h k = record {
  classes = λ c. sym (is_listed c t.classes) ∙ ap is_some (h c) ∙ placed c (class_names b.items);
  fields = λ f. sym (found_field f t.fields) ∙ seen_fields f (find_named (λ d. d.name) f (fields_of (class_items b.items))) (find_entry f t.fields) (named (λ d. d.name) f (fields_of (class_items b.items))) (k f);
}

same_about : (x : Word) (o : Option Judgement) (p : Option Subjects) → BothAre IsAbout o p → option_map subjects (option_map (judgement_about x) p) ≡ option_map subjects o
same_about x None None h = refl
same_about x (Some j) (Some s) h = ap (λ w. Some w) h
same_about x None (Some s) h = absurd h
same_about x (Some j) None h = absurd h

pub same_subjects : (js : List Judgement) (es : List (Word × Subjects)) → AreByName IsAbout (λ j. j.name) js es → SameSubjects (map (λ e. judgement_about e.0 e.1) es) js
same_subjects js es h x = ap (option_map subjects) (sym (found_judgement x es)) ∙ same_about x (find_judgement x js) (find_entry x es) (h x)
