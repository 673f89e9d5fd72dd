-- The words that trees begin with, and those of the sorts.
use Rattle.std.specs.Prelude.{List, [], ◌∷◌, Option, codes, bytes_eq, find}
use Rattle.rel_logic.specs.Syntax.{Srt, int_sort, ref_sort, rgn_sort, map_int_sort, map_ref_sort, map_rgn_sort, bij_sort}
use Rattle.rel_proofio.specs.Parts.{Word}
use Rattle.rel_proofio.specs.declared.words.TermHead.{TermHead}
use Rattle.rel_proofio.specs.declared.words.TermHead.TheVariants as t
use Rattle.rel_proofio.specs.declared.words.FolHead.{FolHead}
use Rattle.rel_proofio.specs.declared.words.FolHead.TheVariants as f

abbrev pub term_word : TermHead → Word
term_word t.Var = codes "v"
term_word t.Bound = codes "b"
term_word t.Int = codes "int"
term_word t.Add = codes "add"
term_word t.Sub = codes "sub"
term_word t.Mul = codes "mul"
term_word t.Null = codes "null"
term_word t.Sel = codes "sel"
term_word t.Sto = codes "sto"
term_word t.Empty = codes "empty"
term_word t.One = codes "one"
term_word t.Cup = codes "cup"
term_word t.Cap = codes "cap"
term_word t.Less = codes "less"
term_word t.Img = codes "img"
term_word t.Of = codes "of"
term_word t.Link = codes "link"

unfoldable pub term_heads : List TermHead
term_heads =
    t.Var ∷ t.Bound ∷ t.Int ∷ t.Add ∷ t.Sub ∷ t.Mul ∷ t.Null ∷ t.Sel ∷ t.Sto ∷ t.Empty ∷ t.One ∷ t.Cup ∷ t.Cap ∷ t.Less ∷ t.Img ∷ t.Of ∷ t.Link ∷ []

abbrev pub term_head : Word → Option TermHead
term_head w = find (λ h. bytes_eq w (term_word h)) term_heads

abbrev pub fol_word : FolHead → Word
fol_word f.True = codes "true"
fol_word f.False = codes "false"
fol_word f.Eq = codes "eq"
fol_word f.Lt = codes "lt"
fol_word f.Le = codes "le"
fol_word f.Member = codes "in"
fol_word f.Is = codes "is"
fol_word f.Paired = codes "pair"
fol_word f.Ext = codes "ext"
fol_word f.Not = codes "not"
fol_word f.And = codes "and"
fol_word f.Or = codes "or"
fol_word f.Imp = codes "imp"
fol_word f.Every = codes "all"
fol_word f.Exists = codes "some"

unfoldable pub fol_heads : List FolHead
fol_heads =
    f.True ∷ f.False ∷ f.Eq ∷ f.Lt ∷ f.Le ∷ f.Member ∷ f.Is ∷ f.Paired ∷ f.Ext ∷ f.Not ∷ f.And ∷ f.Or ∷ f.Imp ∷ f.Every ∷ f.Exists ∷ []

abbrev pub fol_head : Word → Option FolHead
fol_head w = find (λ h. bytes_eq w (fol_word h)) fol_heads

abbrev pub srt_word : Srt → Word
srt_word int_sort = codes "Int"
srt_word ref_sort = codes "Ref"
srt_word rgn_sort = codes "Rgn"
srt_word map_int_sort = codes "MapI"
srt_word map_ref_sort = codes "MapR"
srt_word map_rgn_sort = codes "MapG"
srt_word bij_sort = codes "Bij"

unfoldable pub srts : List Srt
srts = int_sort ∷ ref_sort ∷ rgn_sort ∷ map_int_sort ∷ map_ref_sort ∷ map_rgn_sort ∷ bij_sort ∷ []

abbrev pub srt_named : Word → Option Srt
srt_named w = find (λ s. bytes_eq w (srt_word s)) srts
