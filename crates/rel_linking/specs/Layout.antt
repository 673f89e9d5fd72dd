-- The numbers of an obligation's variables, as the code holds them.
use Rattle.std.specs.Prelude.{List}
use Rattle.rel_lang.specs.Syntax.{Decl}
use Rattle.rel_linking.specs.declared.stores.Layout.{Layout}
use Rattle.rel_linking.specs.Obligation as numbers

abbrev pub layout_of : List Decl → List Decl → Layout
layout_of left right = record {
  left_alloc = numbers.left_alloc left right;
  first_right = numbers.first_right left right;
  right_alloc = numbers.right_alloc left right;
  bijection = numbers.bijection left right;
  first_fresh = numbers.first_fresh left right;
}
