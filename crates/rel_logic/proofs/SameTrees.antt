-- The test of two trees decides whether they are the same.
use Rattle.std.proofs.Common.{◌≡◌, ◌↔◌, Bool, true, false, ◌&&◌, ◌==◌, IsTrue, Decides, refl}
use Rattle.std.specs.Ordering.{int_eq}
use Rattle.std.proofs.lemmas.Bool.Decides.{Decides-eqb, Decides-int_eq}
use Rattle.rel_list.proofs.Sets.{and_both}
use Rattle.rel_logic.specs.Syntax.{Srt, int_sort, ref_sort, rgn_sort, map_int_sort, map_ref_sort, map_rgn_sort, bij_sort, Trm, var, bound, int, add, sub, mul, null, sel, sto, empty, one, cup, cap, less, img, of, link, Fml, verum, falsum, eq, lt, le, member, is, paired, ext, no, and, or, imp, every, some}
use Rattle.rel_logic.specs.Sorting.{same_srt}
use Rattle.rel_logic.specs.Equal.{same_trm, same_fml}

same_srt_decides : (a b : Srt) → Decides (same_srt a b) (a ≡ b)
same_srt_decides int_sort int_sort = (λ e. refl, λ e. refl)
same_srt_decides ref_sort ref_sort = (λ e. refl, λ e. refl)
same_srt_decides rgn_sort rgn_sort = (λ e. refl, λ e. refl)
same_srt_decides map_int_sort map_int_sort = (λ e. refl, λ e. refl)
same_srt_decides map_ref_sort map_ref_sort = (λ e. refl, λ e. refl)
same_srt_decides map_rgn_sort map_rgn_sort = (λ e. refl, λ e. refl)
same_srt_decides bij_sort bij_sort = (λ e. refl, λ e. refl)
same_srt_decides a b = (λ e. cc, λ e. cc)

pub same_trm_is : (a b : Trm) → Decides (same_trm a b) (a ≡ b)
same_trm_is (var a0) (var b0) = (λ e. let p0 : a0 ≡ b0 = (Decides-eqb a0 b0).0 e in λ i. var (p0 i), λ e. let p0 : a0 ≡ b0 = cc in λ i. (Decides-eqb a0 b0).1 p0 i)
same_trm_is (bound a0) (bound b0) = (λ e. let p0 : a0 ≡ b0 = (Decides-eqb a0 b0).0 e in λ i. bound (p0 i), λ e. let p0 : a0 ≡ b0 = cc in λ i. (Decides-eqb a0 b0).1 p0 i)
same_trm_is (int a0) (int b0) = (λ e. let p0 : a0 ≡ b0 = (Decides-int_eq a0 b0).0 e in λ i. int (p0 i), λ e. let p0 : a0 ≡ b0 = cc in λ i. (Decides-int_eq a0 b0).1 p0 i)
same_trm_is (add a0 a1) (add b0 b1) = (λ e. let h = and_both (same_trm a0 b0) (same_trm a1 b1) e in let p0 : a0 ≡ b0 = (same_trm_is a0 b0).0 h.0 in let p1 : a1 ≡ b1 = (same_trm_is a1 b1).0 h.1 in λ i. add (p0 i) (p1 i), λ e. let p0 : a0 ≡ b0 = cc in let p1 : a1 ≡ b1 = cc in λ i. ((same_trm_is a0 b0).1 p0 i) && ((same_trm_is a1 b1).1 p1 i))
same_trm_is (sub a0 a1) (sub b0 b1) = (λ e. let h = and_both (same_trm a0 b0) (same_trm a1 b1) e in let p0 : a0 ≡ b0 = (same_trm_is a0 b0).0 h.0 in let p1 : a1 ≡ b1 = (same_trm_is a1 b1).0 h.1 in λ i. sub (p0 i) (p1 i), λ e. let p0 : a0 ≡ b0 = cc in let p1 : a1 ≡ b1 = cc in λ i. ((same_trm_is a0 b0).1 p0 i) && ((same_trm_is a1 b1).1 p1 i))
same_trm_is (mul a0 a1) (mul b0 b1) = (λ e. let h = and_both (int_eq a0 b0) (same_trm a1 b1) e in let p0 : a0 ≡ b0 = (Decides-int_eq a0 b0).0 h.0 in let p1 : a1 ≡ b1 = (same_trm_is a1 b1).0 h.1 in λ i. mul (p0 i) (p1 i), λ e. let p0 : a0 ≡ b0 = cc in let p1 : a1 ≡ b1 = cc in λ i. ((Decides-int_eq a0 b0).1 p0 i) && ((same_trm_is a1 b1).1 p1 i))
same_trm_is null null = (λ e. refl, λ e. refl)
same_trm_is (sel a0 a1) (sel b0 b1) = (λ e. let h = and_both (same_trm a0 b0) (same_trm a1 b1) e in let p0 : a0 ≡ b0 = (same_trm_is a0 b0).0 h.0 in let p1 : a1 ≡ b1 = (same_trm_is a1 b1).0 h.1 in λ i. sel (p0 i) (p1 i), λ e. let p0 : a0 ≡ b0 = cc in let p1 : a1 ≡ b1 = cc in λ i. ((same_trm_is a0 b0).1 p0 i) && ((same_trm_is a1 b1).1 p1 i))
same_trm_is (sto a0 a1 a2) (sto b0 b1 b2) = (λ e. let h = and_both (same_trm a0 b0) ((same_trm a1 b1) && (same_trm a2 b2)) e in let g = and_both (same_trm a1 b1) (same_trm a2 b2) h.1 in let p0 : a0 ≡ b0 = (same_trm_is a0 b0).0 h.0 in let p1 : a1 ≡ b1 = (same_trm_is a1 b1).0 g.0 in let p2 : a2 ≡ b2 = (same_trm_is a2 b2).0 g.1 in λ i. sto (p0 i) (p1 i) (p2 i), λ e. let p0 : a0 ≡ b0 = cc in let p1 : a1 ≡ b1 = cc in let p2 : a2 ≡ b2 = cc in λ i. ((same_trm_is a0 b0).1 p0 i) && (((same_trm_is a1 b1).1 p1 i) && ((same_trm_is a2 b2).1 p2 i)))
same_trm_is empty empty = (λ e. refl, λ e. refl)
same_trm_is (one a0) (one b0) = (λ e. let p0 : a0 ≡ b0 = (same_trm_is a0 b0).0 e in λ i. one (p0 i), λ e. let p0 : a0 ≡ b0 = cc in λ i. (same_trm_is a0 b0).1 p0 i)
same_trm_is (cup a0 a1) (cup b0 b1) = (λ e. let h = and_both (same_trm a0 b0) (same_trm a1 b1) e in let p0 : a0 ≡ b0 = (same_trm_is a0 b0).0 h.0 in let p1 : a1 ≡ b1 = (same_trm_is a1 b1).0 h.1 in λ i. cup (p0 i) (p1 i), λ e. let p0 : a0 ≡ b0 = cc in let p1 : a1 ≡ b1 = cc in λ i. ((same_trm_is a0 b0).1 p0 i) && ((same_trm_is a1 b1).1 p1 i))
same_trm_is (cap a0 a1) (cap b0 b1) = (λ e. let h = and_both (same_trm a0 b0) (same_trm a1 b1) e in let p0 : a0 ≡ b0 = (same_trm_is a0 b0).0 h.0 in let p1 : a1 ≡ b1 = (same_trm_is a1 b1).0 h.1 in λ i. cap (p0 i) (p1 i), λ e. let p0 : a0 ≡ b0 = cc in let p1 : a1 ≡ b1 = cc in λ i. ((same_trm_is a0 b0).1 p0 i) && ((same_trm_is a1 b1).1 p1 i))
same_trm_is (less a0 a1) (less b0 b1) = (λ e. let h = and_both (same_trm a0 b0) (same_trm a1 b1) e in let p0 : a0 ≡ b0 = (same_trm_is a0 b0).0 h.0 in let p1 : a1 ≡ b1 = (same_trm_is a1 b1).0 h.1 in λ i. less (p0 i) (p1 i), λ e. let p0 : a0 ≡ b0 = cc in let p1 : a1 ≡ b1 = cc in λ i. ((same_trm_is a0 b0).1 p0 i) && ((same_trm_is a1 b1).1 p1 i))
same_trm_is (img a0 a1) (img b0 b1) = (λ e. let h = and_both (same_trm a0 b0) (same_trm a1 b1) e in let p0 : a0 ≡ b0 = (same_trm_is a0 b0).0 h.0 in let p1 : a1 ≡ b1 = (same_trm_is a1 b1).0 h.1 in λ i. img (p0 i) (p1 i), λ e. let p0 : a0 ≡ b0 = cc in let p1 : a1 ≡ b1 = cc in λ i. ((same_trm_is a0 b0).1 p0 i) && ((same_trm_is a1 b1).1 p1 i))
same_trm_is (of a0 a1) (of b0 b1) = (λ e. let h = and_both (a0 == b0) (same_trm a1 b1) e in let p0 : a0 ≡ b0 = (Decides-eqb a0 b0).0 h.0 in let p1 : a1 ≡ b1 = (same_trm_is a1 b1).0 h.1 in λ i. of (p0 i) (p1 i), λ e. let p0 : a0 ≡ b0 = cc in let p1 : a1 ≡ b1 = cc in λ i. ((Decides-eqb a0 b0).1 p0 i) && ((same_trm_is a1 b1).1 p1 i))
same_trm_is (link a0 a1 a2) (link b0 b1 b2) = (λ e. let h = and_both (same_trm a0 b0) ((same_trm a1 b1) && (same_trm a2 b2)) e in let g = and_both (same_trm a1 b1) (same_trm a2 b2) h.1 in let p0 : a0 ≡ b0 = (same_trm_is a0 b0).0 h.0 in let p1 : a1 ≡ b1 = (same_trm_is a1 b1).0 g.0 in let p2 : a2 ≡ b2 = (same_trm_is a2 b2).0 g.1 in λ i. link (p0 i) (p1 i) (p2 i), λ e. let p0 : a0 ≡ b0 = cc in let p1 : a1 ≡ b1 = cc in let p2 : a2 ≡ b2 = cc in λ i. ((same_trm_is a0 b0).1 p0 i) && (((same_trm_is a1 b1).1 p1 i) && ((same_trm_is a2 b2).1 p2 i)))
same_trm_is a b = (λ e. cc, λ e. cc)

pub same_fml_is : (a b : Fml) → Decides (same_fml a b) (a ≡ b)
same_fml_is verum verum = (λ e. refl, λ e. refl)
same_fml_is falsum falsum = (λ e. refl, λ e. refl)
same_fml_is (eq a0 a1) (eq b0 b1) = (λ e. let h = and_both (same_trm a0 b0) (same_trm a1 b1) e in let p0 : a0 ≡ b0 = (same_trm_is a0 b0).0 h.0 in let p1 : a1 ≡ b1 = (same_trm_is a1 b1).0 h.1 in λ i. eq (p0 i) (p1 i), λ e. let p0 : a0 ≡ b0 = cc in let p1 : a1 ≡ b1 = cc in λ i. ((same_trm_is a0 b0).1 p0 i) && ((same_trm_is a1 b1).1 p1 i))
same_fml_is (lt a0 a1) (lt b0 b1) = (λ e. let h = and_both (same_trm a0 b0) (same_trm a1 b1) e in let p0 : a0 ≡ b0 = (same_trm_is a0 b0).0 h.0 in let p1 : a1 ≡ b1 = (same_trm_is a1 b1).0 h.1 in λ i. lt (p0 i) (p1 i), λ e. let p0 : a0 ≡ b0 = cc in let p1 : a1 ≡ b1 = cc in λ i. ((same_trm_is a0 b0).1 p0 i) && ((same_trm_is a1 b1).1 p1 i))
same_fml_is (le a0 a1) (le b0 b1) = (λ e. let h = and_both (same_trm a0 b0) (same_trm a1 b1) e in let p0 : a0 ≡ b0 = (same_trm_is a0 b0).0 h.0 in let p1 : a1 ≡ b1 = (same_trm_is a1 b1).0 h.1 in λ i. le (p0 i) (p1 i), λ e. let p0 : a0 ≡ b0 = cc in let p1 : a1 ≡ b1 = cc in λ i. ((same_trm_is a0 b0).1 p0 i) && ((same_trm_is a1 b1).1 p1 i))
same_fml_is (member a0 a1) (member b0 b1) = (λ e. let h = and_both (same_trm a0 b0) (same_trm a1 b1) e in let p0 : a0 ≡ b0 = (same_trm_is a0 b0).0 h.0 in let p1 : a1 ≡ b1 = (same_trm_is a1 b1).0 h.1 in λ i. member (p0 i) (p1 i), λ e. let p0 : a0 ≡ b0 = cc in let p1 : a1 ≡ b1 = cc in λ i. ((same_trm_is a0 b0).1 p0 i) && ((same_trm_is a1 b1).1 p1 i))
same_fml_is (is a0 a1) (is b0 b1) = (λ e. let h = and_both (a0 == b0) (same_trm a1 b1) e in let p0 : a0 ≡ b0 = (Decides-eqb a0 b0).0 h.0 in let p1 : a1 ≡ b1 = (same_trm_is a1 b1).0 h.1 in λ i. is (p0 i) (p1 i), λ e. let p0 : a0 ≡ b0 = cc in let p1 : a1 ≡ b1 = cc in λ i. ((Decides-eqb a0 b0).1 p0 i) && ((same_trm_is a1 b1).1 p1 i))
same_fml_is (paired a0 a1 a2) (paired b0 b1 b2) = (λ e. let h = and_both (same_trm a0 b0) ((same_trm a1 b1) && (same_trm a2 b2)) e in let g = and_both (same_trm a1 b1) (same_trm a2 b2) h.1 in let p0 : a0 ≡ b0 = (same_trm_is a0 b0).0 h.0 in let p1 : a1 ≡ b1 = (same_trm_is a1 b1).0 g.0 in let p2 : a2 ≡ b2 = (same_trm_is a2 b2).0 g.1 in λ i. paired (p0 i) (p1 i) (p2 i), λ e. let p0 : a0 ≡ b0 = cc in let p1 : a1 ≡ b1 = cc in let p2 : a2 ≡ b2 = cc in λ i. ((same_trm_is a0 b0).1 p0 i) && (((same_trm_is a1 b1).1 p1 i) && ((same_trm_is a2 b2).1 p2 i)))
same_fml_is (ext a0 a1) (ext b0 b1) = (λ e. let h = and_both (same_trm a0 b0) (same_trm a1 b1) e in let p0 : a0 ≡ b0 = (same_trm_is a0 b0).0 h.0 in let p1 : a1 ≡ b1 = (same_trm_is a1 b1).0 h.1 in λ i. ext (p0 i) (p1 i), λ e. let p0 : a0 ≡ b0 = cc in let p1 : a1 ≡ b1 = cc in λ i. ((same_trm_is a0 b0).1 p0 i) && ((same_trm_is a1 b1).1 p1 i))
same_fml_is (no a0) (no b0) = (λ e. let p0 : a0 ≡ b0 = (same_fml_is a0 b0).0 e in λ i. no (p0 i), λ e. let p0 : a0 ≡ b0 = cc in λ i. (same_fml_is a0 b0).1 p0 i)
same_fml_is (and a0 a1) (and b0 b1) = (λ e. let h = and_both (same_fml a0 b0) (same_fml a1 b1) e in let p0 : a0 ≡ b0 = (same_fml_is a0 b0).0 h.0 in let p1 : a1 ≡ b1 = (same_fml_is a1 b1).0 h.1 in λ i. and (p0 i) (p1 i), λ e. let p0 : a0 ≡ b0 = cc in let p1 : a1 ≡ b1 = cc in λ i. ((same_fml_is a0 b0).1 p0 i) && ((same_fml_is a1 b1).1 p1 i))
same_fml_is (or a0 a1) (or b0 b1) = (λ e. let h = and_both (same_fml a0 b0) (same_fml a1 b1) e in let p0 : a0 ≡ b0 = (same_fml_is a0 b0).0 h.0 in let p1 : a1 ≡ b1 = (same_fml_is a1 b1).0 h.1 in λ i. or (p0 i) (p1 i), λ e. let p0 : a0 ≡ b0 = cc in let p1 : a1 ≡ b1 = cc in λ i. ((same_fml_is a0 b0).1 p0 i) && ((same_fml_is a1 b1).1 p1 i))
same_fml_is (imp a0 a1) (imp b0 b1) = (λ e. let h = and_both (same_fml a0 b0) (same_fml a1 b1) e in let p0 : a0 ≡ b0 = (same_fml_is a0 b0).0 h.0 in let p1 : a1 ≡ b1 = (same_fml_is a1 b1).0 h.1 in λ i. imp (p0 i) (p1 i), λ e. let p0 : a0 ≡ b0 = cc in let p1 : a1 ≡ b1 = cc in λ i. ((same_fml_is a0 b0).1 p0 i) && ((same_fml_is a1 b1).1 p1 i))
same_fml_is (every a0 a1) (every b0 b1) = (λ e. let h = and_both (same_srt a0 b0) (same_fml a1 b1) e in let p0 : a0 ≡ b0 = (same_srt_decides a0 b0).0 h.0 in let p1 : a1 ≡ b1 = (same_fml_is a1 b1).0 h.1 in λ i. every (p0 i) (p1 i), λ e. let p0 : a0 ≡ b0 = cc in let p1 : a1 ≡ b1 = cc in λ i. ((same_srt_decides a0 b0).1 p0 i) && ((same_fml_is a1 b1).1 p1 i))
same_fml_is (some a0 a1) (some b0 b1) = (λ e. let h = and_both (same_srt a0 b0) (same_fml a1 b1) e in let p0 : a0 ≡ b0 = (same_srt_decides a0 b0).0 h.0 in let p1 : a1 ≡ b1 = (same_fml_is a1 b1).0 h.1 in λ i. some (p0 i) (p1 i), λ e. let p0 : a0 ≡ b0 = cc in let p1 : a1 ≡ b1 = cc in λ i. ((same_srt_decides a0 b0).1 p0 i) && ((same_fml_is a1 b1).1 p1 i))
same_fml_is a b = (λ e. cc, λ e. cc)

pub answers_alike : {A : Type 0} (a b : Bool) → IsTrue a ↔ A → Decides b A → a ≡ b
answers_alike true true h d = refl
answers_alike true false h d = let e = d.1 (h.0 refl) in cc
answers_alike false true h d = let e = h.1 (d.0 refl) in cc
answers_alike false false h d = refl
