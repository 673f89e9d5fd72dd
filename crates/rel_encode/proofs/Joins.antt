-- Conjunctions without the parts that are `true`.
use Rattle.std.proofs.Common.{◌≡◌, true, false, List, [], ◌∷◌, ◌++◌, Option, Some, map, refl, sym, ap, ◌∙◌, rules}
use Rattle.std.specs.Prelude.{option_to_list}
use Rattle.rel_logic.specs.declared.fol.Fol as F
use Rattle.rel_logic.specs.declared.fol.Fol.{Fol}
use Rattle.rel_logic.specs.View.{fml_of}
use Rattle.rel_logic.specs.Syntax.{Fml, verum, falsum, eq, lt, le, member, is, paired, ext, no, and, or, imp, every, some}
use Rattle.rel_encode.specs.Formulas.{joined, conj}
use Rattle.rel_encode.specs.Joins.{is_verum}

pub joined_first : (f g : Fml) → is_verum f ≡ true → joined f g ≡ g
joined_first verum g e = refl
joined_first f g e = cc

pub joined_second : (f g : Fml) → is_verum f ≡ false → is_verum g ≡ true → joined f g ≡ f
joined_second verum g e h = cc
joined_second f verum e h = refl
joined_second f g e h = cc

pub joined_both : (f g : Fml) → is_verum f ≡ false → is_verum g ≡ false → joined f g ≡ and f g
joined_both verum g e h = cc
joined_both f verum e h = cc
joined_both f g e h = refl

-- onto a conjunction of what comes behind
abbrev pub onto : List Fml → Fml → Fml
onto [] g = g
onto (f ∷ fs) g = joined f (onto fs g)

onto_true : (fs : List Fml) → onto fs verum ≡ conj fs
onto_true [] = refl
onto_true (f ∷ fs) = ap (joined f) (onto_true fs)

onto_last : (fs : List Fml) (f g : Fml) → onto (fs ++ f ∷ []) g ≡ onto fs (joined f g)
onto_last [] f g = refl
onto_last (h ∷ fs) f g = ap (joined h) (onto_last fs f g)

true_is : fml_of F.True ≡ verum
true_is = search (rules, F.the_lemmas)

pub nothing_joined : (fs : List Fol) → onto (map fml_of fs) (fml_of F.True) ≡ conj (map fml_of fs)
nothing_joined fs = ap (onto (map fml_of fs)) true_is ∙ onto_true (map fml_of fs)

-- one step from the last formula to the first
pub joined_popped : (fs rest : List Fol) (f : Fol) (o : Option Fol) (g all : Fml) → fs ≡ rest ++ option_to_list o → Some f ≡ o
    → g ≡ joined (fml_of f) all → onto (map fml_of rest) g ≡ onto (map fml_of fs) all
joined_popped fs rest f o g all split here e =
    ap (onto (map fml_of rest)) e ∙ sym (onto_last (map fml_of rest) (fml_of f) all)
    ∙ ap (λ l. onto l all) (sym (map_last rest f) ∙ ap (map fml_of) (ap (λ p. rest ++ option_to_list p) here ∙ sym split))
  where
    map_last : (rest : List Fol) (f : Fol) → map fml_of (rest ++ f ∷ []) ≡ map fml_of rest ++ fml_of f ∷ []
    map_last [] f = refl
    map_last (h ∷ rest) f = ap (λ l. fml_of h ∷ l) (map_last rest f)
