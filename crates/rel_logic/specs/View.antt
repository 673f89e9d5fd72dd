-- The trees that the code's values stand for.
use Rattle.std.specs.Prelude.{map}
use Rattle.rel_logic.specs.declared.term.Sort.{Sort}
use Rattle.rel_logic.specs.declared.term.Sort.TheVariants as S
use Rattle.rel_logic.specs.declared.term.Term.{Term, fold-Term}
use Rattle.rel_logic.specs.declared.term.Term.TheOpen.{Term-F}
use Rattle.rel_logic.specs.declared.fol.Fol.{Fol, fold-Fol}
use Rattle.rel_logic.specs.declared.fol.Fol.TheOpen.{Fol-F}
use Rattle.rel_logic.specs.declared.sequent.Sequent.{Sequent}
use Rattle.rel_logic.specs.declared.sequent.Node.{Node}
use Rattle.rel_logic.specs.Syntax.{Srt, int_sort, ref_sort, rgn_sort, map_int_sort, map_ref_sort, map_rgn_sort, bij_sort, Trm, var, bound, int, add, sub, mul, null, sel, sto, empty, one, cup, cap, less, img, of, link, Fml, verum, falsum, eq, lt, le, member, is, paired, ext, no, and, or, imp, every, some, Sqt, Nod}

abbrev pub sort_of : Sort → Srt
sort_of S.Int = int_sort
sort_of S.Ref = ref_sort
sort_of S.Rgn = rgn_sort
sort_of S.MapI = map_int_sort
sort_of S.MapR = map_ref_sort
sort_of S.MapG = map_rgn_sort
sort_of S.Bij = bij_sort

abbrev pub term_step : Term-F Trm → Trm
term_step (Term-F.Var n) = var n
term_step (Term-F.Bound n) = bound n
term_step (Term-F.Int n) = int n
term_step (Term-F.Add a b) = add a b
term_step (Term-F.Sub a b) = sub a b
term_step (Term-F.Mul k a) = mul k a
term_step Term-F.Null = null
term_step (Term-F.Sel m a) = sel m a
term_step (Term-F.Sto m a b) = sto m a b
term_step Term-F.Empty = empty
term_step (Term-F.One a) = one a
term_step (Term-F.Cup g h) = cup g h
term_step (Term-F.Cap g h) = cap g h
term_step (Term-F.Less g h) = less g h
term_step (Term-F.Img m g) = img m g
term_step (Term-F.Of c g) = of c g
term_step (Term-F.Link p a b) = link p a b

abbrev pub trm_of : Term → Trm
trm_of = fold-Term Trm term_step

abbrev pub fol_step : Fol-F Fml → Fml
fol_step Fol-F.True = verum
fol_step Fol-F.False = falsum
fol_step (Fol-F.Eq a b) = eq (trm_of a) (trm_of b)
fol_step (Fol-F.Lt a b) = lt (trm_of a) (trm_of b)
fol_step (Fol-F.Le a b) = le (trm_of a) (trm_of b)
fol_step (Fol-F.Member a g) = member (trm_of a) (trm_of g)
fol_step (Fol-F.Is c a) = is c (trm_of a)
fol_step (Fol-F.Paired p a b) = paired (trm_of p) (trm_of a) (trm_of b)
fol_step (Fol-F.Ext p q) = ext (trm_of p) (trm_of q)
fol_step (Fol-F.Not f) = no f
fol_step (Fol-F.And f g) = and f g
fol_step (Fol-F.Or f g) = or f g
fol_step (Fol-F.Imp f g) = imp f g
fol_step (Fol-F.Every s f) = every (sort_of s) f
fol_step (Fol-F.Exists s f) = some (sort_of s) f

abbrev pub fml_of : Fol → Fml
fml_of = fold-Fol Fml fol_step

abbrev pub sequent_of : Sequent → Sqt
sequent_of s = record { sorts = map sort_of s.sorts; hyps = map fml_of s.hyps; goal = fml_of s.goal }

abbrev pub node_of : Node → Nod
node_of n = record { sorts = map sort_of n.sorts; forms = map fml_of n.forms }
