-- Where a file stands in a list of files, and what a change there does to what is told.
use Rattle.std.proofs.Common.{◌≡◌, ℕ, suc, zero, ◌+◌, ◌<◌, List, [], ◌∷◌, ◌++◌, cond, length, get_or, take, drop, set, refl, sym, ◌∙◌, ap, subst, arith}
use Rattle.std.proofs.Math.Seq.{drop-cons}
use Rattle.std.specs.Str.{bytes_eq}
use Rattle.std.proofs.lemmas.Slice.Eq.{bytes_eq-Decides}
use Rattle.std.proofs.lemmas.Bool.{cond-true, cond-false, false_from_ne_true}
use Rattle.std.proofs.lemmas.List.{take_more, set_split, take-append-drop, get_or_default}
use Rattle.rel_io.specs.Told.{absent, bytes}
use Rattle.std.specs.Prelude.{Result, Ok, Err}
use Rattle.rel_io.specs.Answers.{UnlessFailed}
use Rattle.rel_io.specs.declared.files.FileFault.{FileFault}
use Rattle.rel_io.specs.declared.files.FileFault.TheVariants.{Failed, TooLong, Memory}
use Rattle.rel_io.specs.Memory.{File, told_in, HaveDistinctNames, AreTold, IsPlace}

pub told_first : (file : File) (files : List File) (name : List ℕ) → file.0 ≡ name →
    told_in (file ∷ files) name ≡ bytes file.1
told_first file files name e = cond-true (bytes_eq file.0 name) _ _ ((bytes_eq-Decides file.0 name).1 e)

pub told_later : (file : File) (files : List File) (name : List ℕ) → ¬ (file.0 ≡ name) →
    told_in (file ∷ files) name ≡ told_in files name
told_later file files name differs =
    cond-false (bytes_eq file.0 name) _ _ (false_from_ne_true _ (λ t. differs ((bytes_eq-Decides file.0 name).0 t)))

differs_from : (file : File) (files : List File) (name : List ℕ) → told_in (file ∷ files) name ≡ absent → ¬ (file.0 ≡ name)
differs_from file files name none = λ e. let h : told_in (file ∷ files) name ≡ bytes file.1 = told_first file files name e in cc

pub told-append : (front back : List File) (name : List ℕ) → told_in front name ≡ absent →
    told_in (front ++ back) name ≡ told_in back name
told-append [] back name none = refl
told-append (file ∷ front) back name none =
    let differs : ¬ (file.0 ≡ name) = differs_from file front name none in
    told_later file (front ++ back) name differs
    ∙ told-append front back name (sym (told_later file front name differs) ∙ none)

-- none of the first i + 1 has the name, where none of the first i has it and the next has another
pub none_so_far : (files : List File) (name : List ℕ) (i : ℕ) (file : File) → i < length files →
    told_in (take i files) name ≡ absent → file ≡ get_or files i file → ¬ (file.0 ≡ name) →
    told_in (take (i + 1) files) name ≡ absent
none_so_far files name i file within none at differs =
    ap (λ front. told_in front name) (take_more files i file within)
    ∙ (told-append (take i files) (get_or files i file ∷ []) name none
    ∙ told_later (get_or files i file) [] name (λ e. differs (ap (λ f. f.0) at ∙ e)))

pub place_at : (files : List File) (name : List ℕ) (i : ℕ) (file : File) → i < length files →
    told_in (take i files) name ≡ absent → file ≡ get_or files i file → file.0 ≡ name → IsPlace files name i
place_at files name i file within none at named = record {
  within = within;
  none_before = none;
  here = λ any. ap (λ f. f.0) (get_or_default files i any file within ∙ sym at) ∙ named;
}

pub told_at : (files : List File) (name : List ℕ) (i : ℕ) (file : File) → IsPlace files name i →
    file ≡ get_or files i file → told_in files name ≡ bytes file.1
told_at files name i file place at =
    ap (λ all. told_in all name) (sym (take-append-drop i files))
    ∙ (told-append (take i files) (drop i files) name place.none_before
    ∙ (ap (λ all. told_in all name) (drop-cons files i file place.within)
    ∙ (told_first (get_or files i file) (drop (suc i) files) name (place.here file)
    ∙ ap (λ f. bytes f.1) (sym at))))

pub told-set_same : (files : List File) (i : ℕ) (name content : List ℕ) → IsPlace files name i →
    told_in (set files i (name, content)) name ≡ bytes content
told-set_same files i name content place =
    ap (λ all. told_in all name) (set_split files i (name, content) place.within)
    ∙ (told-append (take i files) ((name, content) ∷ drop (suc i) files) name place.none_before
    ∙ told_first (name, content) (drop (suc i) files) name refl)

set_other : (files : List File) (i : ℕ) (file : File) (other : List ℕ) → i < length files →
    (get_or files i file).0 ≡ file.0 → ¬ (other ≡ file.0) → told_in (set files i file) other ≡ told_in files other
set_other [] i file other within here differs = absurd (omega arith)
set_other (first ∷ files) zero file other within here differs =
    told_later file files other (λ e. differs (sym e)) ∙ sym (told_later first files other (λ e. differs (sym e ∙ here)))
set_other (first ∷ files) (suc i) file other within here differs =
    ap (λ rest. cond (bytes_eq first.0 other) (bytes first.1) rest)
    (set_other files i file other (omega arith) here differs)

pub told-set_other : (files : List File) (i : ℕ) (file : File) (other : List ℕ) → IsPlace files file.0 i →
    ¬ (other ≡ file.0) → told_in (set files i file) other ≡ told_in files other
told-set_other files i file other place differs = set_other files i file other place.within (place.here file) differs

pub told-push_same : (files : List File) (name content : List ℕ) → told_in files name ≡ absent →
    told_in (files ++ (name, content) ∷ []) name ≡ bytes content
told-push_same files name content none =
    told-append files ((name, content) ∷ []) name none ∙ told_first (name, content) [] name refl

pub told-push_other : (files : List File) (file : File) (other : List ℕ) → ¬ (other ≡ file.0) →
    told_in (files ++ file ∷ []) other ≡ told_in files other
told-push_other [] file other differs = told_later file [] other (λ e. differs (sym e))
told-push_other (first ∷ files) file other differs =
    ap (λ rest. cond (bytes_eq first.0 other) (bytes first.1) rest) (told-push_other files file other differs)

told_of : (front back : List File) (file : File) → HaveDistinctNames (front ++ file ∷ back) →
    told_in (front ++ file ∷ back) file.0 ≡ bytes file.1
told_of [] back file distinct = told_first file back file.0 refl
told_of (first ∷ front) back file distinct =
    let found : told_in (front ++ file ∷ back) file.0 ≡ bytes file.1 = told_of front back file distinct.1 in
    told_later first (front ++ file ∷ back) file.0
    (λ e. let h : told_in (front ++ file ∷ back) file.0 ≡ absent = subst (λ n. told_in (front ++ file ∷ back) n ≡ absent) e distinct.0 in cc)
    ∙ found

pub all_told : (files : List File) → HaveDistinctNames files → AreTold files
all_told files distinct = λ front back file e.
    ap (λ all. told_in all file.0) e ∙ told_of front back file (subst HaveDistinctNames e distinct)

pub ruleset put_lemmas = (told-set_same, told-set_other, told-push_same, told-push_other)

-- what holds anyway
pub unless_failed : {T : Type 0} (answer : Result T FileFault) (p : Type 0) → p → UnlessFailed answer p
unless_failed (Ok value) p h = h
unless_failed (Err Failed) p h = tt
unless_failed (Err TooLong) p h = h
unless_failed (Err Memory) p h = h
