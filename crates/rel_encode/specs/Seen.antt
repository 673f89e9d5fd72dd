-- What is seen from a part of a formula.
use Rattle.std.specs.Prelude.{List, ◌∷◌, map}
use Rattle.rel_lang.specs.Syntax.{Left, Right, Decl}
use Rattle.rel_lang.specs.View.{decl_of, side_of}
use Rattle.rel_encode.specs.Numbers.{Numbers}
use Rattle.rel_encode.specs.Terms.{Store, PairStore}
use Rattle.rel_encode.specs.Binders.{Binding, scope_under, store_under, bijection_under}
use Rattle.rel_encode.specs.View.{store_of, pair_store_of, numbers_in}
use Rattle.rel_encode.specs.BindersView.{binders_of}
use Rattle.rel_encode.specs.declared.terms.Seen as E
use Rattle.rel_encode.specs.declared.terms.BothSeen as B

-- ---- on its side

abbrev pub numbers_seen : E.Seen → Numbers
numbers_seen seen = numbers_in seen.names.now

abbrev pub scope_seen : E.Seen → List Decl
scope_seen seen = scope_under (side_of seen.side) (binders_of seen.binders.now) (map decl_of seen.variables.now.items.now)

abbrev pub entry_seen : E.Seen → Store
entry_seen seen = store_under (side_of seen.side) (binders_of seen.binders.now) (store_of seen.entry.now)

abbrev pub now_seen : E.Seen → Store
now_seen seen = store_under (side_of seen.side) (binders_of seen.binders.now) (store_of seen.present.now)

-- ---- on both sides

-- under quantifiers
abbrev pub pair_store_under : List Binding → PairStore → PairStore
pair_store_under bs st = record {
  left = store_under Left bs st.left;
  right = store_under Right bs st.right;
  left_entry = store_under Left bs st.left_entry;
  right_entry = store_under Right bs st.right_entry;
  bij = bijection_under bs st.bij;
}

abbrev pub numbers_both : B.BothSeen → Numbers
numbers_both seen = numbers_in seen.names.now

abbrev pub left_scope : B.BothSeen → List Decl
left_scope seen = scope_under Left (binders_of seen.binders.now) (map decl_of seen.left.now.items.now)

abbrev pub right_scope : B.BothSeen → List Decl
right_scope seen = scope_under Right (binders_of seen.binders.now) (map decl_of seen.right.now.items.now)

abbrev pub store_both : B.BothSeen → PairStore
store_both seen = pair_store_under (binders_of seen.binders.now) (pair_store_of seen.store.now)

-- under one more quantifier
abbrev pub left_scope_under : Binding → B.BothSeen → List Decl
left_scope_under b seen = scope_under Left (b ∷ binders_of seen.binders.now) (map decl_of seen.left.now.items.now)

abbrev pub right_scope_under : Binding → B.BothSeen → List Decl
right_scope_under b seen = scope_under Right (b ∷ binders_of seen.binders.now) (map decl_of seen.right.now.items.now)

abbrev pub store_both_under : Binding → B.BothSeen → PairStore
store_both_under b seen = pair_store_under (b ∷ binders_of seen.binders.now) (pair_store_of seen.store.now)
