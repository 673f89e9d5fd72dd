-- What the values of the code stand for.
use Rattle.std.specs.Prelude.{List, [], ◌∷◌, map}
use Rattle.rel_lang.specs.Syntax.{Side, Decl}
use Rattle.rel_lang.specs.View.{decl_of, side_of}
use Rattle.rel_logic.specs.View.{trm_of}
use Rattle.rel_encode.specs.Numbers.{Numbers, field_of}
use Rattle.rel_encode.specs.Terms.{Store, PairStore}
use Rattle.rel_encode.specs.declared.store.Store as S
use Rattle.rel_encode.specs.declared.store.PairStore as P
use Rattle.rel_encode.specs.declared.names.Names as N

abbrev pub store_of : S.Store → Store
store_of st = record { vars = map trm_of st.vars; maps = map trm_of st.maps; alloc = trm_of st.alloc }

abbrev pub pair_store_of : P.PairStore → PairStore
pair_store_of st = record {
  left = store_of st.left;
  right = store_of st.right;
  left_entry = store_of st.left_entry;
  right_entry = store_of st.right_entry;
  bij = trm_of st.bij;
}

abbrev pub numbers_in : N.Names → Numbers
numbers_in names = record { classes = names.classes.items.now; fields = map field_of names.fields.items.now }
