-- From what the parts of `check` find to what they answer.
use Rattle.std.proofs.Common.{◌≡◌, ◌≢◌, inl, inr, ℕ, zero, suc, ◌+◌, ◌^◌, ◌<◌, ◌≤◌, List, [], ◌∷◌, ◌++◌, length, map, take, get_or, replicate, Option, Some, None, Result, Ok, Err, option_and_then, refl, sym, ap, subst, ◌∙◌, cond, take_all, arith}
use Rattle.std.specs.Prelude.{nat_le, IfOk}
use Rattle.std.specs.Str.{is_utf8}
use Rattle.std.proofs.lemmas.Bool.{and_left, lt-leb}
use Rattle.std.proofs.lemmas.List.{length-map, length-replicate, map-append, take_more}
use Rattle.serde_json.specs.Read.{read}
use Rattle.rel_io.specs.Answers.{IfFailed, IfTooLong}
use Rattle.rel_io.specs.declared.files.FileFault.{FileFault}
use Rattle.rel_io.specs.declared.files.FileFault.TheVariants as faults
use Rattle.rel_io.specs.Told.{Told, untold, absent, bytes, IsToldAs, IsLonger}
use Rattle.rel_lang.specs.Syntax.{Item, OfUnit, OfJudgement, Bundle}
use Rattle.rel_lang.specs.View.{item_of, bundle_of}
use Rattle.rel_lang.specs.declared.bundle.Bundle as B
use Rattle.rel_lang.specs.declared.bundle.Item as I
use Rattle.rel_lang.specs.Refusal.{Fits}
use Rattle.rel_lang.specs.Text.{spaced, show_item, StandsFor}
use Rattle.rel_decls.specs.Faults.{HasFault}
use Rattle.rel_decls.specs.declared.fault.TextFault.{TextFault}
use Rattle.rel_decls.specs.declared.fault.TextFault.TheVariants as texts
use Rattle.rel_flaws.specs.Flaws.{Fault}
use Rattle.rel_types.specs.Items.{first_fault}
use Rattle.rel_logic.specs.declared.sequent.Sequent.{Sequent}
use Rattle.rel_logic.specs.Truth.{IsValid}
use Rattle.rel_logic.specs.View.{sequent_of}
use Rattle.rel_straight.specs.declared.step.Step.{Step}
use Rattle.rel_straight.specs.declared.checker.Verdict as D
use Rattle.rel_straight.specs.declared.checker.Verdict.TheVariants.{Accepted, BadStep, OpenNodes}
use Rattle.rel_straight.specs.Stack.{IsVerdict}
use Rattle.rel_linking.specs.Form.{Parts, IsStraight}
use Rattle.rel_linking.specs.Obligation.{obligation_of}
use Rattle.rel_linking.specs.Scope.{IsObligationOf, IsAnswer}
use Rattle.rel_top.specs.declared.check.Answer.{Answer}
use Rattle.rel_top.specs.Ending.{ReadFailed, unread, answer}
use Rattle.rel_top.specs.Judged.{OfParts, IsObligation, IsFound, IsStepsAnswer, IsProofAnswer, IsJudgedAnswer, IsTypedAnswer, IsBundleAnswer, IsTextAnswer, IsCheckAnswer, IsPrintAnswer, IsShowAnswer, answer_of}
use Rattle.rel_top.specs.ProofFile.{proof_of, json_of, steps_of, derivation_of}
use Rattle.rel_top.specs.Report.{line, text_fault_line, proof_line, bad_step_line, open_nodes_line, item_line, yes_line}
use Rattle.rel_top.specs.declared.status.Status.TheVariants.{Yes, Refused}
use Rattle.rel_top.specs.Verdict.{too_large, bad_text, Outcome, no_proof, bad_step, open_nodes, accepted, HasOutcome, refused, ill_typed, not_built, judged, printed, MayHold}
use Rattle.rel_top.proofs.FewSteps.{few_steps}
use Rattle.rel_top.proofs.OneVerdict.{same_parts, outcome_of}

-- ---- the items of a bundle that can be judged

items_are : (b : B.Bundle) (k : Parts) → IsStraight (bundle_of b) k → map item_of b.items ≡ OfUnit k.left ∷ OfUnit k.right ∷ OfJudgement k.judgement ∷ []
items_are b k straight = straight.parts.items

pub three_items : (b : B.Bundle) (q : Sequent) → IsObligation (bundle_of b) q → length b.items ≡ 3
unfolding IsObligation
three_items b q h = sym (length-map b.items item_of) ∙ ap length (items_are b h.parts h.straight)

-- an item by its number
nth_is : (xs : List I.Item) (ys : List Item) (i : ℕ) (x : I.Item) → map item_of xs ≡ ys → i < length xs → x ≡ get_or xs i x → item_of x ≡ get_or ys i (item_of x)
nth_is [] ys i x e lt is = absurd (omega arith)
nth_is (y ∷ xs) [] i x e lt is = let none : item_of y ∷ map item_of xs ≡ [] = e in absurd cc
nth_is (y ∷ xs) (z ∷ ys) zero x e lt is = let same : item_of y ∷ map item_of xs ≡ z ∷ ys = e in let first : item_of y ≡ z = cc in ap item_of is ∙ first
nth_is (y ∷ xs) (z ∷ ys) (suc i) x e lt is = let same : item_of y ∷ map item_of xs ≡ z ∷ ys = e in let rest : map item_of xs ≡ ys = cc in nth_is xs ys i x rest (omega (arith, lt)) is

-- ---- the lines

pub accepted_lines : (b : B.Bundle) (x y z : I.Item) (a : Answer) → length b.items ≡ 3 → x ≡ get_or b.items 0 x → y ≡ get_or b.items 1 y → z ≡ get_or b.items 2 z
    → a ≡ record { status = Yes; lines = item_line (item_of x) 0 ∷ item_line (item_of y) 0 ∷ item_line (item_of z) 1 ∷ yes_line 3 1 ∷ [] }
    → OfParts (bundle_of b) (λ k. answer (judged k accepted)) a
unfolding OfParts
accepted_lines b x y z a len first second third is k straight =
    let e = items_are b k straight in
    let u = nth_is b.items _ 0 x e (omega (arith, len)) first in
    let v = nth_is b.items _ 1 y e (omega (arith, len)) second in
    let w = nth_is b.items _ 2 z e (omega (arith, len)) third in
    is ∙ (λ i. record { status = Yes; lines = item_line (u i) 0 ∷ item_line (v i) 0 ∷ item_line (w i) 1 ∷ yes_line 3 1 ∷ [] })

-- the one line of an answer that refuses
module _ {E : Type 0} (r : Result Answer E) (text : List ℕ) (one : IfOk r (λ a. a ≡ record { status = Refused; lines = text ∷ [] })) where
  refusing : (P : Answer → Type 0) → ((a : Answer) → a ≡ record { status = Refused; lines = text ∷ [] } → P a) → IfOk r P
  refusing P f = by_result r one
    where
      by_result : (q : Result Answer E) → IfOk q (λ a. a ≡ record { status = Refused; lines = text ∷ [] }) → IfOk q P
      by_result (Ok a) h = f a h
      by_result (Err e) h = tt

  judge_line : (b : B.Bundle) (x : I.Item) (line : Item → List ℕ) (o : Outcome) → length b.items ≡ 3 → x ≡ get_or b.items 2 x → text ≡ line (item_of x)
      → ((k : Parts) → answer_of (answer (judged k o)) ≡ record { status = Refused; lines = line (OfJudgement k.judgement) ∷ [] })
      → IfOk r (λ a. OfParts (bundle_of b) (λ k. answer (judged k o)) a)
  unfolding OfParts
  judge_line b x line o len third same lines = refusing (λ a. OfParts (bundle_of b) (λ k. answer (judged k o)) a) (λ a is k straight.
      let w = nth_is b.items _ 2 x (items_are b k straight) (omega (arith, len)) third in
      is ∙ ap (λ t. record { status = Refused; lines = t ∷ [] }) (same ∙ ap line w) ∙ sym (lines k))

  pub bad_step_answer : (b : B.Bundle) (x : I.Item) (n : ℕ) → length b.items ≡ 3 → x ≡ get_or b.items 2 x → text ≡ bad_step_line (item_of x) n
      → IfOk r (λ a. OfParts (bundle_of b) (λ k. answer (judged k (bad_step n))) a)
  bad_step_answer b x n len third same = judge_line b x (λ i. bad_step_line i n) (bad_step n) len third same (λ k. refl)

  pub open_nodes_answer : (b : B.Bundle) (x : I.Item) (n : ℕ) → length b.items ≡ 3 → x ≡ get_or b.items 2 x → text ≡ open_nodes_line (item_of x) n
      → IfOk r (λ a. OfParts (bundle_of b) (λ k. answer (judged k (open_nodes n))) a)
  open_nodes_answer b x n len third same = judge_line b x (λ i. open_nodes_line i n) (open_nodes n) len third same (λ k. refl)

  pub no_proof_answer : (b : B.Bundle) → text ≡ proof_line → IfOk r (λ a. OfParts (bundle_of b) (λ k. answer (judged k no_proof)) a)
  unfolding OfParts
  no_proof_answer b same = refusing (λ a. OfParts (bundle_of b) (λ k. answer (judged k no_proof)) a) (λ a is k straight. is ∙ ap (λ t. record { status = Refused; lines = t ∷ [] }) same)

  pub faulty_answer : (f : TextFault) → f ≢ texts.Memory → text ≡ text_fault_line f → IfOk r (λ a. (f ≢ texts.Memory) × (a ≡ answer_of (answer (refused (bad_text f)))))
  faulty_answer f some same = refusing (λ a. (f ≢ texts.Memory) × (a ≡ answer_of (answer (refused (bad_text f))))) (λ a is. (some, is ∙ ap (λ t. record { status = Refused; lines = t ∷ [] }) same))

-- ---- a derivation

module _ (k : Parts) (content : List ℕ) (steps : List Step) (said : proof_of content ≡ Some steps) where
  has_outcome : (v : D.Verdict) → IsVerdict (obligation_of k) steps v → HasOutcome k (outcome_of v) content
  has_outcome Accepted h = record { steps = steps; said = said; holds = h.0 }
  has_outcome (BadStep n) h = record { steps = steps; said = said; holds = h }
  has_outcome (OpenNodes n) h = record { steps = steps; said = said; holds = h }

  is_valid : (v : D.Verdict) → IsVerdict (obligation_of k) steps v → outcome_of v ≡ accepted → IsValid (obligation_of k)
  is_valid Accepted h e = h.1
  is_valid (BadStep n) h e = absurd cc
  is_valid (OpenNodes n) h e = absurd cc

pub steps_answer : (b : Bundle) (q : Sequent) (steps : List Step) (v w : D.Verdict) (a : Answer) → IsObligation b q → IsVerdict (sequent_of q) steps v → v ≡ w
    → OfParts b (λ k. answer (judged k (outcome_of w))) a → IsStepsAnswer b steps a
unfolding IsObligation OfParts IsStepsAnswer
steps_answer b q steps v w a obligation has is_w is k straight content said =
    let parts = same_parts b obligation.parts k obligation.straight straight in
    let same : sequent_of q ≡ obligation_of k = obligation.value ∙ ap obligation_of parts in
    let h : IsVerdict (obligation_of k) steps v = subst (λ s. IsVerdict s steps v) same has in record {
      outcome = outcome_of v;
      has = has_outcome k content steps said v h;
      enough = λ e. obligation.enough (subst IsValid (sym same) (is_valid k content steps said v h e));
      is = is k straight ∙ ap (λ u. answer_of (answer (judged k (outcome_of u)))) (sym is_w);
    }

-- ---- a proof file's bytes

pub steps_said : (b : Bundle) (content : List ℕ) (steps : List Step) (a : Answer) → proof_of content ≡ Some steps → IsStepsAnswer b steps a → IsProofAnswer b content a
unfolding IsStepsAnswer IsProofAnswer
steps_said b content steps a said h = λ k straight. h k straight content said

pub no_steps : (b : Bundle) (content : List ℕ) (a : Answer) → proof_of content ≡ None → OfParts b (λ k. answer (judged k no_proof)) a → IsProofAnswer b content a
unfolding OfParts IsProofAnswer
no_steps b content a none is = λ k straight. record { outcome = no_proof; has = none; enough = λ e. absurd cc; is = is k straight }

pub ruleset of_proof = (steps_said, no_steps, few_steps)

-- ---- a proof file

longer : (t : Told) (n : ℕ) → IsLonger t n → MayHold t (λ content. n < length content)
longer untold n h = (replicate (suc n) 0, tt, subst (λ m. n < m) (sym (length-replicate (suc n) 0)) (omega arith))
longer absent n h = absurd h
longer (bytes content) n h = (content, refl, h)

json_too_long : (content : List ℕ) → 2 ^ 26 < length content → json_of content ≡ None
json_too_long content h = ap (λ t. cond t (read content) None) (and_left (nat_le (length content) (2 ^ 26)) (is_utf8 content) (lt-leb (length content) (2 ^ 26) h))

too_long : (content : List ℕ) → 2 ^ 26 < length content → proof_of content ≡ None
too_long content h = ap (λ d. option_and_then steps_of (option_and_then derivation_of d)) (json_too_long content h)

module _ (b : Bundle) (told : List ℕ → Told) (Failed : List ℕ → Type 0) (proof : List ℕ) (a : Answer) where
  pub proof_read : (content : List ℕ) → IsToldAs (told proof) content → IsProofAnswer b content a → IsJudgedAnswer b told Failed proof a
  unfolding IsJudgedAnswer
  proof_read content is_told h = inr (content, is_told, h)

  pub proof_unread : {T : Type 0} (r : Result T FileFault) (f : FileFault) → r ≡ Err f → f ≡ faults.Failed → IfFailed r (Failed proof) → a ≡ answer_of (unread proof) → IsJudgedAnswer b told Failed proof a
  unfolding IsJudgedAnswer
  proof_unread r f here e failed is = inl (subst (λ x. IfFailed x (Failed proof)) (here ∙ ap Err e) failed, is)

  pub proof_too_long : {T : Type 0} (r : Result T FileFault) (f : FileFault) → r ≡ Err f → f ≡ faults.TooLong → IfTooLong r (IsLonger (told proof) (2 ^ 26)) → OfParts b (λ k. answer (judged k no_proof)) a → IsJudgedAnswer b told Failed proof a
  unfolding IsJudgedAnswer
  proof_too_long r f here e h is =
      let c = longer (told proof) (2 ^ 26) (subst (λ x. IfTooLong x (IsLonger (told proof) (2 ^ 26))) (here ∙ ap Err e) h) in
      inr (c.0, c.1, no_steps b c.0 a (too_long c.0 c.2) is)

  -- ---- a bundle

  pub can_be_judged : (q : Sequent) → IsObligation b q → IsJudgedAnswer b told Failed proof a → IsTypedAnswer b told Failed proof a
  unfolding IsObligation IsTypedAnswer
  can_be_judged q obligation h = inr (obligation.parts, obligation.straight, h)

  pub cannot_be_judged : IsFound b None → a ≡ answer_of (answer not_built) → IsTypedAnswer b told Failed proof a
  unfolding IsFound IsTypedAnswer
  cannot_be_judged none is = inl (none, is)

  pub bundle_typed : (c : Bundle) → c ≡ b → first_fault b ≡ None → IsTypedAnswer c told Failed proof a → IsBundleAnswer b told Failed proof a
  unfolding IsBundleAnswer
  bundle_typed c same faultless h = inr (faultless, subst (λ x. IsTypedAnswer x told Failed proof a) same h)

  pub bundle_faulty : (f : Fault) × (first_fault b ≡ Some f) × (a ≡ answer_of (answer (ill_typed f))) → IsBundleAnswer b told Failed proof a
  unfolding IsBundleAnswer
  bundle_faulty h = inl h

pub found_some : (b : Bundle) (o : Option Sequent) (q s : Sequent) → IsAnswer b o → o ≡ Some q → s ≡ q → IsFound b (Some s)
unfolding IsFound
found_some b o q s h e f = subst (λ x. IsAnswer b (Some x)) (sym f) (subst (IsAnswer b) e h)

pub found_none : (b : Bundle) (o : Option Sequent) → IsAnswer b o → o ≡ None → IsFound b None
unfolding IsFound
found_none b o h e = subst (IsAnswer b) e h

pub is_obligation : (b : Bundle) (o : Option Sequent) (q s : Sequent) → IsFound b o → o ≡ Some q → s ≡ q → IsObligation b s
unfolding IsFound IsObligation
is_obligation b o q s h e f = subst (IsObligationOf b) (sym f) (subst (IsAnswer b) e h)

-- ---- a text

module _ (text : List ℕ) (told : List ℕ → Told) (Failed : List ℕ → Type 0) (proof : List ℕ) (a : Answer) where
  pub bundle_read : (b : Bundle) → length text ≤ 2 ^ 22 → StandsFor text b → Fits b → IsBundleAnswer b told Failed proof a → IsTextAnswer text told Failed proof a
  unfolding IsTextAnswer
  bundle_read b short stands fits h = inr (b, record { short = short; stands = stands; fits = fits }, h)

  pub text_refused : (f : TextFault) → length text ≤ 2 ^ 22 → f ≢ texts.Memory → HasFault text f → a ≡ answer_of (answer (refused (bad_text f))) → IsTextAnswer text told Failed proof a
  unfolding IsTextAnswer
  text_refused f short some fault is = inl (bad_text f, (short, some, fault), is)

-- ---- the two files

module _ (bundle : List ℕ) (told : List ℕ → Told) (Failed : List ℕ → Type 0) (proof : List ℕ) (a : Answer) where
  pub text_read : (text : List ℕ) → IsToldAs (told bundle) text → IsTextAnswer text told Failed proof a → IsCheckAnswer told Failed bundle proof a
  unfolding IsCheckAnswer
  text_read text is_told h = inr (text, is_told, h)

  pub text_unread : {T : Type 0} (r : Result T FileFault) (f : FileFault) → r ≡ Err f → f ≡ faults.Failed → IfFailed r (Failed bundle) → a ≡ answer_of (unread bundle) → IsCheckAnswer told Failed bundle proof a
  unfolding IsCheckAnswer
  text_unread r f here e failed is = inl (subst (λ x. IfFailed x (Failed bundle)) (here ∙ ap Err e) failed, is)

  pub text_too_long : {T : Type 0} (r : Result T FileFault) (f : FileFault) → r ≡ Err f → f ≡ faults.TooLong → IfTooLong r (IsLonger (told bundle) (2 ^ 22)) → a ≡ answer_of (answer (refused too_large)) → IsCheckAnswer told Failed bundle proof a
  unfolding IsCheckAnswer IsTextAnswer
  text_too_long r f here e h is =
      let c = longer (told bundle) (2 ^ 22) (subst (λ x. IfTooLong x (IsLonger (told bundle) (2 ^ 22))) (here ∙ ap Err e) h) in
      inr (c.0, c.1, inl (too_large, c.2, is))

-- ---- a text that is to be printed

module _ (text : List ℕ) (a : Answer) where
  pub print_read : (b : Bundle) → length text ≤ 2 ^ 22 → StandsFor text b → Fits b → a ≡ answer_of (answer (printed b)) → IsPrintAnswer text a
  unfolding IsPrintAnswer
  print_read b short stands fits is = inr (b, record { short = short; stands = stands; fits = fits }, is)

  pub print_refused : (f : TextFault) → length text ≤ 2 ^ 22 → f ≢ texts.Memory → HasFault text f → a ≡ answer_of (answer (refused (bad_text f))) → IsPrintAnswer text a
  unfolding IsPrintAnswer
  print_refused f short some fault is = inl (bad_text f, (short, some, fault), is)

module _ (bundle : List ℕ) (told : List ℕ → Told) (Failed : List ℕ → Type 0) (a : Answer) where
  pub show_read : (text : List ℕ) → IsToldAs (told bundle) text → IsPrintAnswer text a → IsShowAnswer told Failed bundle a
  unfolding IsShowAnswer
  show_read text is_told h = inr (text, is_told, h)

  pub show_unread : {T : Type 0} (r : Result T FileFault) (f : FileFault) → r ≡ Err f → f ≡ faults.Failed → IfFailed r (Failed bundle) → a ≡ answer_of (unread bundle) → IsShowAnswer told Failed bundle a
  unfolding IsShowAnswer
  show_unread r f here e failed is = inl (subst (λ x. IfFailed x (Failed bundle)) (here ∙ ap Err e) failed, is)

  pub show_too_long : {T : Type 0} (r : Result T FileFault) (f : FileFault) → r ≡ Err f → f ≡ faults.TooLong → IfTooLong r (IsLonger (told bundle) (2 ^ 22)) → a ≡ answer_of (answer (refused too_large)) → IsShowAnswer told Failed bundle a
  unfolding IsShowAnswer IsPrintAnswer
  show_too_long r f here e h is =
      let c = longer (told bundle) (2 ^ 22) (subst (λ x. IfTooLong x (IsLonger (told bundle) (2 ^ 22))) (here ∙ ap Err e) h) in
      inr (c.0, c.1, inl (too_large, c.2, is))

-- ---- the lines that are printed

abbrev printed_line : I.Item → List ℕ
printed_line i = line (spaced (show_item (item_of i)))

pub line_more : (before after : List (List ℕ)) (text : List ℕ) (xs ys : List I.Item) (i : ℕ) (x : I.Item) → ys ≡ xs → i < length ys → x ≡ get_or ys i x → text ≡ printed_line x
    → before ≡ map printed_line (take i xs) → after ≡ before ++ text ∷ [] → after ≡ map printed_line (take (i + 1) xs)
line_more before after text xs ys i x same within is said was now =
    let inside : i < length xs = subst (λ zs. i < length zs) same within in
    let found : x ≡ get_or xs i x = subst (λ zs. x ≡ get_or zs i x) same is in
    now ∙ ap (λ t. t ++ text ∷ []) was ∙ ap (λ t. map printed_line (take i xs) ++ t ∷ []) (said ∙ ap printed_line found)
    ∙ sym (map-append printed_line (take i xs) (get_or xs i x ∷ [])) ∙ ap (map printed_line) (sym (take_more xs i x inside))

pub lines_all : (now : List (List ℕ)) (xs : List I.Item) (i : ℕ) → length xs ≤ i → now ≡ map printed_line (take i xs) → now ≡ map printed_line xs
lines_all now xs i past h = h ∙ ap (map printed_line) (take_all i xs past)

pub shown_lines : (xs : List I.Item) → map printed_line xs ≡ map (λ i. line (spaced (show_item i))) (map item_of xs)
shown_lines [] = refl
shown_lines (x ∷ xs) = ap (λ l. printed_line x ∷ l) (shown_lines xs)

-- the text's answer, from before its bundle was read
pub text_moved : (text proof : List ℕ) (a : Answer) (t u : List ℕ → Told) (f g n : ℕ) (r s m : List ℕ → ℕ) → t ≡ u → f ≡ g → r ≡ s
    → IsTextAnswer text t (ReadFailed f n r m) proof a → IsTextAnswer text u (ReadFailed g n s m) proof a
text_moved text proof a t u f g n r s m told faults reads h =
    subst (λ x. IsTextAnswer text x (ReadFailed g n s m) proof a) told
    (subst (λ x. IsTextAnswer text t (ReadFailed x n s m) proof a) faults
    (subst (λ x. IsTextAnswer text t (ReadFailed f n x m) proof a) reads h))
