-- Tokens of an alignment are those of an alignment that is equal but for places.
use Rattle.std.proofs.Common.{ℕ, suc, List, [], ◌∷◌, refl}
use Rattle.std.specs.Prelude.{codes}
use Rattle.rel_lang.specs.Syntax.{BiCommand, BiAt, BiForm, Split, Sync, SyncCall, BiIf, BiWhile, Link, Note, BiBlock, BiEnd, BiThen, Act, ActSeq, ActSync, ActCall, ActIf, ActWhile, ActLink, ActNote, ActDrop, WeaveStep, Align, Given, Woven}
use Rattle.rel_lang.specs.Text.{counted, tree, show_formula, show_rel, show_loop, show_biform, show_bicommand, show_bicommands, show_act, show_place_numbers, show_weave_step, show_align}
use Rattle.rel_show.specs.Places.{biform_without_at, bicommand_without_at, biblock_without_at, step_without_at, align_without_at}
use Rattle.rel_show.proofs.Places.{Places, Plain, plain_places, done, keep, start, append, last, skip, whole, started, tree_places, element_places, braced_places, ended_places, repeated_places}
use Rattle.rel_show.proofs.PlacesPlain.{plain_append, plain_formula, plain_rel, plain_repeated, plain_sides, plain_loop}
use Rattle.rel_show.proofs.PlacesCommands.{command_places, block_places}

mutual
  pub biform_places : (d : ℕ) (f : BiForm) → Places biform_without_at (show_biform d) f
  biform_places d (Split a b) = whole (keep (append (last (block_places (suc d) a) λ x ex. last (block_places (suc d) b) λ y ey. (Split x y, cc, refl))))
  biform_places d (Sync c) = whole (keep (last (command_places (suc d) c) λ x e. (Sync x, cc, refl)))
  biform_places d (SyncCall c j) = whole (keep (append (last (command_places (suc d) c) λ x e. keep (keep (done (SyncCall x j, cc, refl))))))
  biform_places d (BiIf p q a b) =
      whole (keep (append (append (skip (plain_sides (show_formula (suc d) p) (show_formula (suc d) q) (plain_formula (suc d) p) (plain_formula (suc d) q))
      (last (braced_places (bicommands_places (suc d) 1 a)) λ x ex. keep (last (braced_places (bicommands_places (suc d) 1 b)) λ y ey. (BiIf p q x y, cc, refl)))))))
  biform_places d (BiWhile l b) =
      whole (append {ms = show_loop (suc d) l} (skip (plain_loop (suc d) l) (last (braced_places (bicommands_places (suc d) 1 b)) λ x e. (BiWhile l x, cc, refl))))
  biform_places d (Link x y) = plain_places (refl, (refl, (refl, (refl, tt))))
  biform_places d (Note r) = plain_places (refl, plain_rel (suc d) r)

  pub bicommand_places : (d : ℕ) (c : BiCommand) → Places bicommand_without_at (show_bicommand d) c
  bicommand_places d (BiAt at f) = whole (started at (tree d (show_biform d f)) (last (tree_places d (biform_places d f)) λ g e place. (BiAt place g, cc, refl)))

  pub bicommands_places : (d n : ℕ) (b : BiBlock) → Places biblock_without_at (show_bicommands d n) b
  bicommands_places d n BiEnd = whole (done (BiEnd, refl, refl))
  bicommands_places d n (BiThen c cs) =
      whole (append (last (element_places n (bicommand_places d c)) λ x ex. keep (last (bicommands_places d (suc n) cs) λ y ey. (BiThen x y, cc, refl))))

-- ---- weavings

plain_numbers : (ns : List ℕ) → Plain (show_place_numbers ns)
plain_numbers [] = tt
plain_numbers (n ∷ ns) = (refl, plain_repeated (λ i. counted i ∷ []) (λ i. (refl, tt)) 1 ns)

plain_act : (a : Act) → Plain (show_act a)
plain_act (ActSeq i j) = (refl, (refl, (refl, tt)))
plain_act ActSync = (refl, tt)
plain_act (ActCall j) = (refl, (refl, tt))
plain_act ActIf = (refl, tt)
plain_act (ActWhile r m n) = (refl, plain_sides (show_rel 1 r) _ (plain_rel 1 r) (plain_sides (show_rel 1 m) (show_rel 1 n) (plain_rel 1 m) (plain_rel 1 n)))
plain_act (ActLink x y) = (refl, (refl, (refl, (refl, tt))))
plain_act (ActNote r) = (refl, plain_rel 1 r)
plain_act ActDrop = (refl, tt)

step_places : (s : WeaveStep) → Places step_without_at show_weave_step s
step_places s = whole (start λ place. skip (plain_append (show_place_numbers s.place) (show_act s.act) (plain_numbers s.place) (plain_act s.act)) (record s { at = place }, refl, refl))

-- ---- alignments

pub align_places : (a : Align) → Places align_without_at show_align a
align_places (Given b) = whole (keep (last (braced_places (bicommands_places 1 1 b)) λ x e. (Given x, cc, refl)))
align_places (Woven ss) = whole (keep (last (braced_places (repeated_places (λ s. ended_places (codes ";") (step_places s)) 1 ss)) λ x e. (Woven x, cc, refl)))
