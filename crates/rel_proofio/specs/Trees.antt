-- Terms and formulas as JSON: the value of each, the text that is printed, and what is read.
use Rattle.std.specs.Prelude.{ℕ, zero, suc, ℤ, List, [], ◌∷◌, Option, None, option_map, option_and_then}
use Rattle.std.specs.Fmt.{signed_decimal}
use Rattle.serde_json.specs.Data.{Data, number, unsigned, string, array}
use Rattle.serde_json.specs.Find.{as_str}
use Rattle.serde_json.specs.View.{items_of}
use Rattle.serde_json.specs.Written.{compact_text}
use Rattle.rel_logic.specs.Syntax.{Srt, Trm, var, bound, int, add, sub, mul, null, sel, sto, empty, one as single, cup, cap, less, img, of, link, Fml, verum, falsum, eq, lt, le, member, is, paired, ext, no, and, or, imp, every, some}
use Rattle.rel_proofio.specs.Parts.{Word, number_of, integer_of, none, one, two, three, headed}
use Rattle.rel_proofio.specs.Words.{term_word, term_head, fol_word, fol_head, srt_word, srt_named}
use Rattle.rel_proofio.specs.declared.words.TermHead.{TermHead}
use Rattle.rel_proofio.specs.declared.words.TermHead.TheVariants as t
use Rattle.rel_proofio.specs.declared.words.FolHead.{FolHead}
use Rattle.rel_proofio.specs.declared.words.FolHead.TheVariants as f

-- ---- written

-- `["w",..]`
abbrev pub node : Word → List Data → Data
node w ds = array (items_of (string w ∷ ds))

abbrev pub numeral : ℕ → Data
numeral n = number (unsigned n)

abbrev pub digits : ℤ → Data
digits k = string (signed_decimal k)

abbrev pub term_data : Trm → Data
term_data (var n) = node (term_word t.Var) (numeral n ∷ [])
term_data (bound n) = node (term_word t.Bound) (numeral n ∷ [])
term_data (int k) = node (term_word t.Int) (digits k ∷ [])
term_data (add a b) = node (term_word t.Add) (term_data a ∷ term_data b ∷ [])
term_data (sub a b) = node (term_word t.Sub) (term_data a ∷ term_data b ∷ [])
term_data (mul k a) = node (term_word t.Mul) (digits k ∷ term_data a ∷ [])
term_data null = node (term_word t.Null) []
term_data (sel m a) = node (term_word t.Sel) (term_data m ∷ term_data a ∷ [])
term_data (sto m a b) = node (term_word t.Sto) (term_data m ∷ term_data a ∷ term_data b ∷ [])
term_data empty = node (term_word t.Empty) []
term_data (single a) = node (term_word t.One) (term_data a ∷ [])
term_data (cup g h) = node (term_word t.Cup) (term_data g ∷ term_data h ∷ [])
term_data (cap g h) = node (term_word t.Cap) (term_data g ∷ term_data h ∷ [])
term_data (less g h) = node (term_word t.Less) (term_data g ∷ term_data h ∷ [])
term_data (img m g) = node (term_word t.Img) (term_data m ∷ term_data g ∷ [])
term_data (of c g) = node (term_word t.Of) (numeral c ∷ term_data g ∷ [])
term_data (link p a b) = node (term_word t.Link) (term_data p ∷ term_data a ∷ term_data b ∷ [])

abbrev pub fml_data : Fml → Data
fml_data verum = node (fol_word f.True) []
fml_data falsum = node (fol_word f.False) []
fml_data (eq a b) = node (fol_word f.Eq) (term_data a ∷ term_data b ∷ [])
fml_data (lt a b) = node (fol_word f.Lt) (term_data a ∷ term_data b ∷ [])
fml_data (le a b) = node (fol_word f.Le) (term_data a ∷ term_data b ∷ [])
fml_data (member a g) = node (fol_word f.Member) (term_data a ∷ term_data g ∷ [])
fml_data (is c a) = node (fol_word f.Is) (numeral c ∷ term_data a ∷ [])
fml_data (paired p a b) = node (fol_word f.Paired) (term_data p ∷ term_data a ∷ term_data b ∷ [])
fml_data (ext p q) = node (fol_word f.Ext) (term_data p ∷ term_data q ∷ [])
fml_data (no g) = node (fol_word f.Not) (fml_data g ∷ [])
fml_data (and g h) = node (fol_word f.And) (fml_data g ∷ fml_data h ∷ [])
fml_data (or g h) = node (fol_word f.Or) (fml_data g ∷ fml_data h ∷ [])
fml_data (imp g h) = node (fol_word f.Imp) (fml_data g ∷ fml_data h ∷ [])
fml_data (every s g) = node (fol_word f.Every) (string (srt_word s) ∷ fml_data g ∷ [])
fml_data (some s g) = node (fol_word f.Exists) (string (srt_word s) ∷ fml_data g ∷ [])

-- the texts, without blanks
abbrev pub text_of_term : Trm → List ℕ
text_of_term a = compact_text (term_data a)

abbrev pub text_of : Fml → List ℕ
text_of g = compact_text (fml_data g)

-- ---- read

-- a term with this head over these arguments, of which `term` reads those that are terms
abbrev pub term_with : (Data → Option Trm) → TermHead → List Data → Option Trm
term_with term t.Var ds = option_map var (one number_of ds)
term_with term t.Bound ds = option_map bound (one number_of ds)
term_with term t.Int ds = option_map int (one integer_of ds)
term_with term t.Add ds = option_map (λ p. add p.0 p.1) (two term term ds)
term_with term t.Sub ds = option_map (λ p. sub p.0 p.1) (two term term ds)
term_with term t.Mul ds = option_map (λ p. mul p.0 p.1) (two integer_of term ds)
term_with term t.Null ds = none null ds
term_with term t.Sel ds = option_map (λ p. sel p.0 p.1) (two term term ds)
term_with term t.Sto ds = option_map (λ p. sto p.0 p.1.0 p.1.1) (three term term term ds)
term_with term t.Empty ds = none empty ds
term_with term t.One ds = option_map single (one term ds)
term_with term t.Cup ds = option_map (λ p. cup p.0 p.1) (two term term ds)
term_with term t.Cap ds = option_map (λ p. cap p.0 p.1) (two term term ds)
term_with term t.Less ds = option_map (λ p. less p.0 p.1) (two term term ds)
term_with term t.Img ds = option_map (λ p. img p.0 p.1) (two term term ds)
term_with term t.Of ds = option_map (λ p. of p.0 p.1) (two number_of term ds)
term_with term t.Link ds = option_map (λ p. link p.0 p.1.0 p.1.1) (three term term term ds)

-- a term of so many nested arrays at most
abbrev pub term_in : ℕ → Data → Option Trm
term_in zero d = None
term_in (suc n) d = option_and_then (λ p. option_and_then (λ h. term_with (term_in n) h p.1) (term_head p.0)) (headed d)

abbrev pub srt_in : Data → Option Srt
srt_in d = option_and_then srt_named (as_str d)

-- a formula with this head over these arguments
abbrev pub fml_with : (Data → Option Trm) → (Data → Option Fml) → FolHead → List Data → Option Fml
fml_with term fml f.True ds = none verum ds
fml_with term fml f.False ds = none falsum ds
fml_with term fml f.Eq ds = option_map (λ p. eq p.0 p.1) (two term term ds)
fml_with term fml f.Lt ds = option_map (λ p. lt p.0 p.1) (two term term ds)
fml_with term fml f.Le ds = option_map (λ p. le p.0 p.1) (two term term ds)
fml_with term fml f.Member ds = option_map (λ p. member p.0 p.1) (two term term ds)
fml_with term fml f.Is ds = option_map (λ p. is p.0 p.1) (two number_of term ds)
fml_with term fml f.Paired ds = option_map (λ p. paired p.0 p.1.0 p.1.1) (three term term term ds)
fml_with term fml f.Ext ds = option_map (λ p. ext p.0 p.1) (two term term ds)
fml_with term fml f.Not ds = option_map no (one fml ds)
fml_with term fml f.And ds = option_map (λ p. and p.0 p.1) (two fml fml ds)
fml_with term fml f.Or ds = option_map (λ p. or p.0 p.1) (two fml fml ds)
fml_with term fml f.Imp ds = option_map (λ p. imp p.0 p.1) (two fml fml ds)
fml_with term fml f.Every ds = option_map (λ p. every p.0 p.1) (two srt_in fml ds)
fml_with term fml f.Exists ds = option_map (λ p. some p.0 p.1) (two srt_in fml ds)

-- a formula of so many nested arrays at most, those of its terms included
abbrev pub fml_in : ℕ → Data → Option Fml
fml_in zero d = None
fml_in (suc n) d = option_and_then (λ p. option_and_then (λ h. fml_with (term_in n) (fml_in n) h p.1) (fol_head p.0)) (headed d)

-- how deep a tree in a proof file may be
abbrev pub deepest : ℕ
deepest = 100
