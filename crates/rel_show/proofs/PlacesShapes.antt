-- What shape a tree has doesn't depend on its places.
use Rattle.std.proofs.Common.{◌≡◌, List, [], ◌∷◌, map, refl, sym, ap, ap₂, subst, ◌∙◌}
use Rattle.std.specs.List.{AllByRecursion}
use Rattle.rel_lang.specs.Syntax.{Command, At, Skip, BiCommand, BiAt, BiForm, Sync, SyncCall, BiIf, BiWhile, BiBlock, BiEnd, BiThen, Align, Given, Woven, Item, OfJudgement, OfPair, command_without_at}
use Rattle.rel_lang.specs.Text.{IsAtom, IsCall, IsShapedBiform, IsShapedBicommand, IsShapedBiblock, IsShapedStep, IsShapedAlign, IsShapedItem}
use Rattle.rel_show.specs.Places.{biform_without_at, bicommand_without_at, biblock_without_at, step_without_at, align_without_at, pair_method_without_at, item_without_at}

atom_shape : (c : Command) → IsAtom (command_without_at c) ≡ IsAtom c
atom_shape (At at Skip) = refl
atom_shape (At at f) = refl

call_shape : (c : Command) → IsCall (command_without_at c) ≡ IsCall c
call_shape (At at Skip) = refl
call_shape (At at f) = refl

abbrev both : Type 0 → Type 0 → Type 0
both s t = s × t

mutual
  biform_shape : (f : BiForm) → IsShapedBiform (biform_without_at f) ≡ IsShapedBiform f
  biform_shape (Sync c) = atom_shape c
  biform_shape (SyncCall c j) = call_shape c
  biform_shape (BiIf p q a b) = ap₂ both (biblock_shape a) (biblock_shape b)
  biform_shape (BiWhile l b) = biblock_shape b
  biform_shape f = refl

  bicommand_shape : (c : BiCommand) → IsShapedBicommand (bicommand_without_at c) ≡ IsShapedBicommand c
  bicommand_shape (BiAt at f) = biform_shape f

  biblock_shape : (b : BiBlock) → IsShapedBiblock (biblock_without_at b) ≡ IsShapedBiblock b
  biblock_shape BiEnd = refl
  biblock_shape (BiThen c cs) = ap₂ both (bicommand_shape c) (biblock_shape cs)

all_shape : {X : Type 0} (strip : X → X) (shaped : X → Type 0) → ((x : X) → shaped (strip x) ≡ shaped x) → (xs : List X) → AllByRecursion shaped (map strip xs) ≡ AllByRecursion shaped xs
all_shape strip shaped one [] = refl
all_shape strip shaped one (x ∷ xs) = ap₂ both (one x) (all_shape strip shaped one xs)

align_shape : (a : Align) → IsShapedAlign (align_without_at a) ≡ IsShapedAlign a
align_shape (Given b) = biblock_shape b
align_shape (Woven ss) = all_shape step_without_at IsShapedStep (λ s. refl) ss

pub item_shape : (i : Item) → IsShapedItem (item_without_at i) ≡ IsShapedItem i
item_shape (OfJudgement j) = align_shape j.align
item_shape (OfPair p) = ap₂ both (align_shape p.init.1) (all_shape pair_method_without_at (λ m. IsShapedAlign m.2) (λ m. align_shape m.2) p.methods)
item_shape i = refl

-- and lists that are equal but for places have the same shapes
pub same_shapes : {X : Type 0} (strip : X → X) (shaped : X → Type 0) → ((x : X) → shaped (strip x) ≡ shaped x) → (xs ys : List X) → map strip xs ≡ map strip ys → AllByRecursion shaped ys → AllByRecursion shaped xs
same_shapes strip shaped one xs ys e h = subst (λ t. t) (sym (all_shape strip shaped one ys) ∙ sym (ap (AllByRecursion shaped) e) ∙ all_shape strip shaped one xs) h
