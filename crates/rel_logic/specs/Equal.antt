-- Whether two trees are the same.
use Rattle.std.specs.Prelude.{Bool, true, false, ◌&&◌, ◌==◌}
use Rattle.std.specs.Ordering.{int_eq}
use Rattle.rel_logic.specs.Syntax.{Trm, var, bound, int, add, sub, mul, null, sel, sto, empty, one, cup, cap, less, img, of, link, Fml, verum, falsum, eq, lt, le, member, is, paired, ext, no, and, or, imp, every, some}
use Rattle.rel_logic.specs.Sorting.{same_srt}

abbrev pub same_trm : Trm → Trm → Bool
same_trm (var a0) (var b0) = a0 == b0
same_trm (bound a0) (bound b0) = a0 == b0
same_trm (int a0) (int b0) = int_eq a0 b0
same_trm (add a0 a1) (add b0 b1) = (same_trm a0 b0) && (same_trm a1 b1)
same_trm (sub a0 a1) (sub b0 b1) = (same_trm a0 b0) && (same_trm a1 b1)
same_trm (mul a0 a1) (mul b0 b1) = (int_eq a0 b0) && (same_trm a1 b1)
same_trm null null = true
same_trm (sel a0 a1) (sel b0 b1) = (same_trm a0 b0) && (same_trm a1 b1)
same_trm (sto a0 a1 a2) (sto b0 b1 b2) = (same_trm a0 b0) && ((same_trm a1 b1) && (same_trm a2 b2))
same_trm empty empty = true
same_trm (one a0) (one b0) = same_trm a0 b0
same_trm (cup a0 a1) (cup b0 b1) = (same_trm a0 b0) && (same_trm a1 b1)
same_trm (cap a0 a1) (cap b0 b1) = (same_trm a0 b0) && (same_trm a1 b1)
same_trm (less a0 a1) (less b0 b1) = (same_trm a0 b0) && (same_trm a1 b1)
same_trm (img a0 a1) (img b0 b1) = (same_trm a0 b0) && (same_trm a1 b1)
same_trm (of a0 a1) (of b0 b1) = (a0 == b0) && (same_trm a1 b1)
same_trm (link a0 a1 a2) (link b0 b1 b2) = (same_trm a0 b0) && ((same_trm a1 b1) && (same_trm a2 b2))
same_trm _ _ = false

abbrev pub same_fml : Fml → Fml → Bool
same_fml verum verum = true
same_fml falsum falsum = true
same_fml (eq a0 a1) (eq b0 b1) = (same_trm a0 b0) && (same_trm a1 b1)
same_fml (lt a0 a1) (lt b0 b1) = (same_trm a0 b0) && (same_trm a1 b1)
same_fml (le a0 a1) (le b0 b1) = (same_trm a0 b0) && (same_trm a1 b1)
same_fml (member a0 a1) (member b0 b1) = (same_trm a0 b0) && (same_trm a1 b1)
same_fml (is a0 a1) (is b0 b1) = (a0 == b0) && (same_trm a1 b1)
same_fml (paired a0 a1 a2) (paired b0 b1 b2) = (same_trm a0 b0) && ((same_trm a1 b1) && (same_trm a2 b2))
same_fml (ext a0 a1) (ext b0 b1) = (same_trm a0 b0) && (same_trm a1 b1)
same_fml (no a0) (no b0) = same_fml a0 b0
same_fml (and a0 a1) (and b0 b1) = (same_fml a0 b0) && (same_fml a1 b1)
same_fml (or a0 a1) (or b0 b1) = (same_fml a0 b0) && (same_fml a1 b1)
same_fml (imp a0 a1) (imp b0 b1) = (same_fml a0 b0) && (same_fml a1 b1)
same_fml (every a0 a1) (every b0 b1) = (same_srt a0 b0) && (same_fml a1 b1)
same_fml (some a0 a1) (some b0 b1) = (same_srt a0 b0) && (same_fml a1 b1)
same_fml _ _ = false
