-- A text stands for the bundle that its tokens are read as, and for no other; and what is refused is refused where no bundle goes on.
use Rattle.std.proofs.Common.{◌≡◌, ℕ, suc, ◌-◌, ◌<◌, Bool, true, false, List, [], ◌∷◌, length, All, Some, Ok, ◌⊎◌, inl, inr, refl, sym, ap, subst, ◌∙◌, arith}
use Rattle.std.specs.Prelude.{codes}
use Rattle.std.specs.List.{AllByRecursion}
use Rattle.std.specs.Str.{IsUtf8}
use Rattle.std.proofs.lemmas.List.Elements.{recursion_from_All}
use Rattle.std.proofs.lemmas.Slice.Eq.{bytes_eq-Decides}
use Rattle.std.specs.Result.{result_ok}
use Rattle.rel_lang.specs.Syntax.{Item, Bundle}
use Rattle.rel_lang.specs.Tokens.{lexed, tokens}
use Rattle.rel_lang.specs.Text.{Match, word, repeated, show_item, show_tokens, IsShapedItem, IsPrintable, StandsFor}
use Rattle.rel_lang.specs.Refusal.{Limits, limits, IsWithin, Fits, Reason, Unexpected, TooDeep, TooMany, IsRefused, place_behind}
use Rattle.rel_lexer.specs.declared.Token.{Token}
use Rattle.rel_lexer.specs.declared.Kind.{Kind}
use Rattle.rel_lexer.specs.declared.Kind.TheVariants as kind
use Rattle.rel_lexer.specs.declared.symbols.Symbol.TheVariants as symbol
use Rattle.rel_lexer.specs.Words.{symbol_text}
use Rattle.rel_lexer.specs.Tokens.{tokens_of, HasKind}
use Rattle.rel_parse.specs.declared.fault.Fault.{Fault}
use Rattle.rel_parse.specs.declared.fault.Fault.TheVariants as reading
use Rattle.rel_parse.specs.Gives.{Fails}
use Rattle.rel_parse.specs.Reading.{Reading, Got, Refused, then_read, same_fixed, expect_at, both, many_at}
use Rattle.rel_parse.proofs.Laws.{HaveKinds, Spelled, Always, fixed_text, IsFixed, word_reads, many_reads}
use Rattle.rel_parse.proofs.Both.{bind_got, bind_refused, got_is, got_not_refused}
use Rattle.rel_parse.proofs.Single.{refused_is}
use Rattle.rel_decls.specs.Items.{begins_item, item_at, items_at, end_at, bundle_at}
use Rattle.rel_decls.specs.Faults.{IsRefusedAt, HasFault, placed_fault}
use Rattle.rel_decls.proofs.Ends.{Goods, Stops, many_found, same_lists, never_short, stops_of, match_spelled, spelled_match, all_told}
use Rattle.rel_decls.proofs.Items.{item_reads, item_shallow, item_always, item_some, item_never}

abbrev close : Kind
close = kind.Symbol symbol.CloseParenthesis

abbrev close_bracket : Kind
close_bracket = kind.Symbol symbol.CloseBracket

-- no token is both
apart : (k : Kind) → same_fixed k close ≡ true → same_fixed k close_bracket ≡ false
apart (kind.Symbol s) e = let same = (bytes_eq-Decides (symbol_text s) (codes ")")).0 e in rw same refl
apart (kind.Word w) e = refl
apart kind.Name e = refl
apart (kind.Number n) e = refl

length_pieces : (ts : List Token) → length (tokens_of ts) ≡ length ts
length_pieces [] = refl
length_pieces (t ∷ ts) = ap suc (length_pieces ts)

-- what is read up to the end
end_got : {A B : Type 0} (f : A → B) (mid rest : List Token) (x : A) (y : B) → then_read (end_at mid) (λ u behind. Got (f x) behind) ≡ Got y rest → (mid ≡ []) × (f x ≡ y)
end_got f [] rest x y e = (refl, (got_is e).0)
end_got f (t ∷ ts) rest x y e = absurd (got_not_refused (sym e))

module _ (l : Limits) (deep : 0 < l.deepest) (wide : 0 < l.most) where
  abbrev pub goods : ℕ → List Item → Type 0
  goods = Goods l show_item IsShapedItem (item_at l) begins_item (item_reads l deep wide) (item_shallow l) refl

  printable : (xs : List Item) → goods 1 xs → IsPrintable (record { items = xs })
  printable xs g = record { shapes = g.0; words = g.1 }

  good_of : (b : Bundle) → IsPrintable b → goods 1 b.items
  good_of b p = (p.shapes, p.words)

  abbrev Read : List Token → Bundle → Type 0
  Read ts b = Spelled (show_tokens b) ts [] × IsPrintable b × AllByRecursion (IsWithin l) (show_tokens b)

  bundle_found : (ts rest : List Token) (b : Bundle) → HaveKinds ts → bundle_at l ts ≡ Got b rest → Read ts b
  unfolding bundle_at items_at
  bundle_found ts rest b kinds e =
      let s = bind_got (both (items_at l) end_at ts) (λ p behind. Got (record { items = p.0 }) behind) b rest e in
      let t = bind_got (items_at l ts) (λ xs mid. then_read (end_at mid) (λ u behind. Got (xs, u) behind)) s.0 s.1 s.2 in
      let f = many_found l show_item IsShapedItem (item_at l) begins_item (item_reads l deep wide) (item_shallow l) refl l.most 1 ts t.1 t.0 (omega arith) kinds t.2 in
      let q = end_got (λ xs. (xs, tt)) t.1 s.1 t.0 s.0 t.3 in
      let same : record { items = t.0 } ≡ b = ap (λ (p : List Item × Unit {0}). record { items = p.0 }) q.1 ∙ (got_is s.3).0 in
      subst (Read ts) same (subst (λ us. Spelled (repeated show_item 1 t.0) ts us) q.0 f.0, printable t.0 f.1, f.2)

  abbrev Refusal : Reason → ℕ → List Token → Type 0
  Refusal why left ts =
      Stops l show_item IsShapedItem (item_at l) begins_item (item_reads l deep wide) (item_shallow l) refl why left ts
      × ((ys : List Item) → goods 1 ys → left ≡ 0 → Spelled (repeated show_item 1 ys) ts [] → ⊥)

  abbrev closed : Kind → List Token → Reading (List Item × Unit {0})
  closed k = both (many_at begins_item (item_at l) l.most) (expect_at k)

  closed_refused : (k : Kind) → (k ≡ close) ⊎ (k ≡ close_bracket) → (ts : List Token) (why : Reason) (left : ℕ) → HaveKinds ts → closed k ts ≡ Refused why left
      → Stops l show_item IsShapedItem (item_at l) begins_item (item_reads l deep wide) (item_shallow l) refl why left ts
  closed_refused k which ts why left kinds e =
      let fixed : IsFixed k = elim which [ inl h ↦ subst IsFixed (sym h) tt | inr h ↦ subst IsFixed (sym h) tt ] in
      let all = many_reads l show_item IsShapedItem (item_at l) (λ (u : Unit {0}). word (fixed_text k) ∷ []) (Always {X = Unit {0}}) (expect_at k) begins_item 1 l.most (omega arith) (omega arith) (item_shallow l) (item_reads l deep wide) (word_reads l k fixed) item_always item_some (item_never k which) in
      stops_of l show_item IsShapedItem (item_at l) begins_item (item_reads l deep wide) (item_shallow l) refl k why left ts (all.refused ts why left kinds e)

  items_refused : (ts : List Token) (why : Reason) (left : ℕ) → HaveKinds ts → items_at l ts ≡ Refused why left → Refusal why left ts
  unfolding items_at
  items_refused ts why left kinds e = (
    closed_refused close (inl refl) ts why left kinds (rw e refl),
    λ ys g z s. never_short l show_item IsShapedItem (item_at l) begins_item (item_reads l deep wide) (item_shallow l) refl l.most 1 ts ys why (omega arith) kinds g s (e ∙ ap (Refused why) z),
  )

  -- a token is left that begins no item
  over_refused : (ts : List Token) (xs : List Item) (t : Token) (us : List Token) (why : Reason) (left : ℕ) → HaveKinds ts → items_at l ts ≡ Got xs (t ∷ us) → Unexpected ≡ why → length (t ∷ us) ≡ left → Refusal why left ts
  unfolding items_at
  over_refused ts xs t us why left kinds e one two = (
    subst (λ w. Stops l show_item IsShapedItem (item_at l) begins_item (item_reads l deep wide) (item_shallow l) refl w left ts) one
        (subst (λ n. Stops l show_item IsShapedItem (item_at l) begins_item (item_reads l deep wide) (item_shallow l) refl Unexpected n ts) two (by_kind (same_fixed t.kind close) refl)),
    λ ys g z s. omega (arith, two, z),
  )
    where
      refuses : (k : Kind) → same_fixed t.kind k ≡ false → closed k ts ≡ Refused Unexpected (length (t ∷ us))
      refuses k f = rw (e, f) refl

      by_kind : (v : Bool) → same_fixed t.kind close ≡ v → Stops l show_item IsShapedItem (item_at l) begins_item (item_reads l deep wide) (item_shallow l) refl Unexpected (length (t ∷ us)) ts
      by_kind false f = closed_refused close (inl refl) ts Unexpected (length (t ∷ us)) kinds (refuses close f)
      by_kind true f = closed_refused close_bracket (inr refl) ts Unexpected (length (t ∷ us)) kinds (refuses close_bracket (apart t.kind f))

  end_refused : (ts : List Token) (xs : List Item) (mid : List Token) (why : Reason) (left : ℕ) → HaveKinds ts → items_at l ts ≡ Got xs mid → then_read {B = List Item × Unit {0}} (end_at mid) (λ u behind. Got (xs, u) behind) ≡ Refused why left → Refusal why left ts
  end_refused ts xs [] why left kinds e h = absurd (got_not_refused h)
  end_refused ts xs (t ∷ us) why left kinds e h = let q = refused_is h in over_refused ts xs t us why left kinds e q.0 q.1

  bundle_refused : (ts : List Token) (why : Reason) (left : ℕ) → HaveKinds ts → bundle_at l ts ≡ Refused why left → Refusal why left ts
  unfolding bundle_at
  bundle_refused ts why left kinds e =
      elim (bind_refused (both (items_at l) end_at ts) (λ p behind. Got (record { items = p.0 }) behind) why left e) [
        | inl h ↦
            elim (bind_refused (items_at l ts) (λ xs mid. then_read (end_at mid) (λ u behind. Got (xs, u) behind)) why left h) [
              | inl k ↦ items_refused ts why left kinds k
              | inr s ↦ end_refused ts s.0 s.1 why left kinds s.2 s.3
            ]
        | inr s ↦ absurd (got_not_refused s.3)
      ]

pub some_depth : 0 < limits.deepest
some_depth = omega arith

pub some_width : 0 < limits.most
some_width = omega arith

-- ---- the text

refusal_at : (ts : List Token) (why : Reason) (left : ℕ) → HaveKinds ts → bundle_at limits ts ≡ Refused why left → IsRefused why (length ts - left) (tokens_of ts)
refusal_at ts why left kinds e =
    let q = bundle_refused limits some_depth some_width ts why left kinds e in
    let s = q.0 in
    let same : s.passed ≡ length ts - left = omega (arith, s.behind) in
    let pieces = length_pieces ts in
    subst (λ n. IsRefused why n (tokens_of ts)) same (record {
      begun = (record { items = s.begun.0 }, printable limits some_depth some_width s.begun.0 s.begun.1, s.begun.2, s.begun.3);
      stuck = λ b p goes. s.stuck b.items (good_of limits some_depth some_width b p) goes;
      ended = λ b p e2 match.
          let told = all_told limits show_item IsShapedItem (item_at limits) begins_item (item_reads limits some_depth some_width) (item_shallow limits) refl 1 b.items in
          q.1 b.items (good_of limits some_depth some_width b p) (omega (arith, s.behind, e2, pieces)) (match_spelled (show_tokens b) ts told match);
    })

have_kinds : (ts : List Token) → All HasKind ts → HaveKinds ts
have_kinds ts h = recursion_from_All HasKind ts h

pub stands_for : (text : List ℕ) (ts rest : List Token) (b : Bundle) → IsUtf8 text → lexed text ≡ Ok (tokens_of ts) → All HasKind ts → bundle_at limits ts ≡ Got b rest → StandsFor text b
stands_for text ts rest b utf8 cut kinds read =
    let f = bundle_found limits some_depth some_width ts rest b (have_kinds ts kinds) read in
    record { utf8 = utf8; printable = f.1; found = tokens_of ts; cut = ap result_ok cut; spelled = spelled_match (show_tokens b) ts f.0 }

pub fits : (ts rest : List Token) (b : Bundle) → All HasKind ts → bundle_at limits ts ≡ Got b rest → Fits b
fits ts rest b kinds read = (bundle_found limits some_depth some_width ts rest b (have_kinds ts kinds) read).2

some_is : {A : Type 0} (x y : A) → Some x ≡ Some y → x ≡ y
some_is x y e = cc

-- the bundle that was read is the one
pub one_bundle : (text : List ℕ) (ts rest : List Token) (c b : Bundle) → lexed text ≡ Ok (tokens_of ts) → All HasKind ts → bundle_at limits ts ≡ Got c rest → StandsFor text b → c ≡ b
one_bundle text ts rest c b cut kinds read stands =
    let k = have_kinds ts kinds in
    let f = bundle_found limits some_depth some_width ts rest c k read in
    let same = some_is stands.found (tokens_of ts) (sym stands.cut ∙ ap result_ok cut) in
    let match : Match (show_tokens b) (tokens_of ts) = subst (λ us. Match (show_tokens b) us) same stands.spelled in
    let told = all_told limits show_item IsShapedItem (item_at limits) begins_item (item_reads limits some_depth some_width) (item_shallow limits) refl 1 b.items in
    let items = same_lists limits show_item IsShapedItem (item_at limits) begins_item (item_reads limits some_depth some_width) (item_shallow limits) refl 1 c.items b.items ts k (good_of limits some_depth some_width c f.1) f.2 (good_of limits some_depth some_width b stands.printable) f.0 (match_spelled (show_tokens b) ts told match) in
    ap (λ (xs : List Item). record { items = xs }) items

refused_at : (why : Reason) (text : List ℕ) (ts : List Token) (left : ℕ) → IsUtf8 text → lexed text ≡ Ok (tokens_of ts) → All HasKind ts → bundle_at limits ts ≡ Refused why left → IsRefusedAt why text (place_behind (length text) (length ts - left) (tokens_of ts))
refused_at why text ts left utf8 cut kinds e = record {
  utf8 = utf8;
  found = tokens_of ts;
  cut = ap result_ok cut;
  passed = length ts - left;
  refused = refusal_at ts why left (have_kinds ts kinds) e;
  place = refl;
}

-- a reader's refusal is the text's fault
pub has_fault : (text : List ℕ) (ts : List Token) (f : Fault) → IsUtf8 text → lexed text ≡ Ok (tokens_of ts) → All HasKind ts → Fails f (bundle_at limits ts) → HasFault text (placed_fault f (length text) ts)
has_fault text ts (reading.Unexpected left) utf8 cut kinds e = refused_at Unexpected text ts left utf8 cut kinds e
has_fault text ts (reading.TooDeep left) utf8 cut kinds e = refused_at TooDeep text ts left utf8 cut kinds e
has_fault text ts (reading.TooMany left) utf8 cut kinds e = refused_at TooMany text ts left utf8 cut kinds e
has_fault text ts reading.Memory utf8 cut kinds e = tt
