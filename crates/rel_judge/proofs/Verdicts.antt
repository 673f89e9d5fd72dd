-- From what the parts of a judgement answer to the verdict.
use Rattle.std.proofs.Common.{◌≡◌, ◌≢◌, ℕ, ◌≤◌, List, [], ◌∷◌, length, get_or, map, Option, Some, None, Result, Ok, Err, IfOk, IfErr, refl, sym, ap, subst, ◌∙◌, arith}
use Rattle.std.proofs.lemmas.List.{length-map}
use Rattle.std.proofs.lemmas.Result.{IfOk-weaker}
use Rattle.rel_lang.specs.Syntax.{OfJudgement, Judgement, Bundle}
use Rattle.rel_lang.specs.View.{item_of, bundle_of, judgement_of}
use Rattle.rel_lang.specs.declared.bundle.Bundle as B
use Rattle.rel_lang.specs.declared.bundle.Item as I
use Rattle.rel_lang.specs.declared.bundle.Item.TheVariants as IV
use Rattle.rel_lang.specs.declared.bundle.Judgement as D
use Rattle.rel_lang.specs.declared.fault.LexKind.{LexKind}
use Rattle.rel_lang.specs.declared.fault.TypeKind.{TypeKind}
use Rattle.rel_flaws.specs.View.{kind_of}
use Rattle.rel_types.specs.Items.{first_fault}
use Rattle.rel_types.specs.Told.{IsFirst}
use Rattle.rel_types.specs.declared.fault.TypeFault.{TypeFault}
use Rattle.rel_types.specs.declared.fault.TypeFault.TheVariants as type_faults
use Rattle.rel_decls.specs.Faults.{HasFault}
use Rattle.rel_decls.specs.declared.fault.TextFault.{TextFault}
use Rattle.rel_decls.specs.declared.fault.TextFault.TheVariants as text_faults
use Rattle.rel_linking.specs.Form.{Parts, IsStraight}
use Rattle.rel_linking.specs.Obligation.{obligation_of}
use Rattle.rel_linking.specs.Scope.{IsAnswer}
use Rattle.rel_logic.specs.View.{sequent_of}
use Rattle.rel_logic.specs.declared.sequent.Sequent.{Sequent}
use Rattle.rules_table.specs.Nodes.{Stp, IsSound}
use Rattle.rules_table.specs.View.{step_of}
use Rattle.rules_table.specs.declared.step.Step.{Step}
use Rattle.rel_derive.specs.Outcomes.{IsOutcome}
use Rattle.rel_derive.specs.declared.verdict.Outcome.{Outcome}
use Rattle.rel_derive.specs.declared.verdict.Outcome.TheVariants as outcomes
use Rattle.rel_proofio.specs.ProofFile.{proof_of}
use Rattle.rel_proofio.specs.declared.fault.ProofFault.{ProofFault}
use Rattle.rel_proofio.specs.declared.fault.ProofFault.TheVariants as proof_faults
use Rattle.rel_proofio.specs.declared.fault.Spot.TheVariants as spots
use Rattle.rel_report.specs.declared.verdict.Verdict.{Verdict}
use Rattle.rel_report.specs.declared.verdict.Verdict.TheVariants.{TooLargeBundle, NotUtf8, Lexical, Syntax, TooDeep, TooMany, Typing, NotBuilt, TooLargeProof, NotJson, MalformedFile, MalformedProof, MalformedStep, TooLong, ProofCount, BadStep, OpenNodes, Yes}
use Rattle.rel_judge.specs.Verdict.{IsRead, IsUnreadAs, IsRefusedAs, IsInJudgement}
use Rattle.rel_judge.specs.declared.verdict.Ready.{Ready}
use Rattle.rel_judge.specs.declared.verdict.Stop.{Stop}
use Rattle.rel_judge.specs.declared.verdict.Stop.TheVariants as stops
use Rattle.rel_judge.specs.declared.verdict.TheConstants.{BUNDLE_LIMIT, PROOF_LIMIT}
use Rattle.rel_judge.specs.Judged.{StopsWith, IsVerdictOn, Refuses, IsObligation, IsReadyFor, IsVerdictOnProof, IsVerdictOnDerivations, IsPlace, IsVerdictOnOutcome, IsVerdictOnProofFile}
use Rattle.rel_judge.proofs.Sorted.{node_is_sound}
use Rattle.rel_derive.specs.Rules.{first_node}

-- ---- the text of a bundle

pub on_not_utf8 : (at : ℕ) → IsVerdictOn (text_faults.NotUtf8 at) (NotUtf8 at)
unfolding IsVerdictOn
on_not_utf8 at text h = h

pub on_lexical : (kind : LexKind) (at : ℕ) → IsVerdictOn (text_faults.Lexical kind at) (Lexical kind at)
unfolding IsVerdictOn
on_lexical kind at text h = h

pub on_syntax : (at : ℕ) → IsVerdictOn (text_faults.Syntax at) (Syntax at)
unfolding IsVerdictOn
on_syntax at text h = h

pub on_too_deep : (at : ℕ) → IsVerdictOn (text_faults.TooDeep at) (TooDeep at)
unfolding IsVerdictOn
on_too_deep at text h = h

pub on_too_many : (at : ℕ) → IsVerdictOn (text_faults.TooMany at) (TooMany at)
unfolding IsVerdictOn
on_too_many at text h = h

pub ruleset on_texts = (on_not_utf8, on_lexical, on_syntax, on_too_deep, on_too_many)

pub text_refused : (text : List ℕ) (f : TextFault) (v : Verdict) → length text ≤ BUNDLE_LIMIT → HasFault text f → IsVerdictOn f v → IsUnreadAs text v
unfolding IsVerdictOn
text_refused text f v short fault h = h text (record { short = short; fault = fault })

refused_here : (text : List ℕ) (v : Verdict) → IsUnreadAs text v → IsRefusedAs text v
refused_here text TooLargeBundle h = h
refused_here text (NotUtf8 at) h = h
refused_here text (Lexical kind at) h = h
refused_here text (Syntax at) h = h
refused_here text (TooDeep at) h = h
refused_here text (TooMany at) h = h
refused_here text (Typing kind at) h = absurd h
refused_here text NotBuilt h = absurd h
refused_here text TooLargeProof h = absurd h
refused_here text NotJson h = absurd h
refused_here text MalformedFile h = absurd h
refused_here text (MalformedProof p) h = absurd h
refused_here text (MalformedStep p s) h = absurd h
refused_here text (TooLong p) h = absurd h
refused_here text (ProofCount n m) h = absurd h
refused_here text (BadStep o s i at) h = absurd h
refused_here text (OpenNodes n o i at) h = absurd h
refused_here text (Yes counts) h = absurd h

pub stopped_unread : (text : List ℕ) (s : Stop) → StopsWith (IsUnreadAs text) s → StopsWith (IsRefusedAs text) s
stopped_unread text (stops.Refused v) h = refused_here text v h
stopped_unread text stops.Memory h = tt

pub stopped_refused : (text : List ℕ) (b : Bundle) (s : Stop) → IsRead text b → StopsWith (Refuses b) s → StopsWith (IsRefusedAs text) s
unfolding Refuses
stopped_refused text b (stops.Refused v) read h = h text read
stopped_refused text b stops.Memory read h = tt

ill_typed : (b : Bundle) (kind : TypeKind) (at : ℕ) → first_fault b ≡ Some (record { kind = kind_of kind; at = at }) → Refuses b (Typing kind at)
unfolding Refuses
ill_typed b kind at fault text read = record { bundle = b; read = read; fault = fault }

pub first_is : (b : Bundle) (e : TypeFault) (kind : TypeKind) (at : ℕ) → e ≡ type_faults.Fault kind at → IsFirst b e → Refuses b (Typing kind at)
first_is b e kind at is first = ill_typed b kind at (subst (IsFirst b) is first)

not_built : (b : Bundle) → first_fault b ≡ None → IsAnswer b None → Refuses b NotBuilt
unfolding Refuses
not_built b faultless none text read = record { bundle = b; read = read; faultless = faultless; other = none }

is_obligation : (b : Bundle) (q : Sequent) → IsAnswer b (Some q) → IsObligation b q
unfolding IsObligation
is_obligation b q h = h

pub built_some : (b : Bundle) (o : Option Sequent) (q : Sequent) → o ≡ Some q → IsAnswer b o → IsObligation b q
built_some b o q is h = is_obligation b q (subst (IsAnswer b) is h)

pub built_none : (b : Bundle) (o : Option Sequent) → o ≡ None → first_fault b ≡ None → IsAnswer b o → Refuses b NotBuilt
built_none b o is faultless h = not_built b faultless (subst (IsAnswer b) is h)

is_ready : (text : List ℕ) (b : Bundle) (q : Sequent) → IsRead text b → first_fault b ≡ None → IsObligation b q → IsReadyFor text b
unfolding IsObligation IsReadyFor
is_ready text b q read faultless h = (h.parts, record { read = read; faultless = faultless; straight = h.straight })

pub ready : (text : List ℕ) (b t : B.Bundle) (r : Result Ready Stop) → t ≡ b → IsRead text (bundle_of b) → first_fault (bundle_of t) ≡ None → IfOk r (λ x. x.bundle ≡ t)
    → IfOk r (λ x. IsObligation (bundle_of x.bundle) x.obligation) → IfOk r (λ x. IsReadyFor text (bundle_of x.bundle))
ready text b t (Ok x) same read faultless is h =
    is_ready text (bundle_of x.bundle) x.obligation (subst (λ c. IsRead text (bundle_of c)) (sym (is ∙ same)) read)
    (subst (λ c. first_fault (bundle_of c) ≡ None) (sym is) faultless) h
ready text b t (Err e) same read faultless is h = tt

pub stopped : (text : List ℕ) (b t : B.Bundle) (r : Result Ready Stop) → t ≡ b → IsRead text (bundle_of b) → IfErr r (StopsWith (Refuses (bundle_of t))) → IfErr r (StopsWith (IsRefusedAs text))
stopped text b t (Ok x) same read h = tt
stopped text b t (Err s) same read h = stopped_refused text (bundle_of t) s (subst (λ c. IsRead text (bundle_of c)) (sym same) read) h

is_sound : (b : Bundle) (q : Sequent) → IsObligation b q → IsSound (first_node (sequent_of q))
unfolding IsObligation
is_sound b q h = node_is_sound (sequent_of q) h.sorted

pub sound_node : (b : Bundle) (s q : Sequent) → s ≡ q → IsObligation b q → IsSound (first_node (sequent_of s))
sound_node b s q same h = is_sound b s (subst (IsObligation b) (sym same) h)

-- ---- the form of a proof file

pub on_not_json : IsVerdictOnProof proof_faults.NotJson NotJson
unfolding IsVerdictOnProof
on_not_json k content h = h

pub on_malformed_file : IsVerdictOnProof (proof_faults.Malformed spots.File) MalformedFile
unfolding IsVerdictOnProof
on_malformed_file k content h = h

pub on_malformed_proof : (p : ℕ) → IsVerdictOnProof (proof_faults.Malformed (spots.Proof p)) (MalformedProof p)
unfolding IsVerdictOnProof
on_malformed_proof p k content h = h

pub on_malformed_step : (p s : ℕ) → IsVerdictOnProof (proof_faults.Malformed (spots.Step p s)) (MalformedStep p s)
unfolding IsVerdictOnProof
on_malformed_step p s k content h = h

pub on_too_long : (p : ℕ) → IsVerdictOnProof (proof_faults.TooLong p) (TooLong p)
unfolding IsVerdictOnProof
on_too_long p k content h = h

pub ruleset on_proofs = (on_not_json, on_malformed_file, on_malformed_proof, on_malformed_step, on_too_long)

-- ---- the place of the judgement

third_is : {X Y : Type 0} (f : X → Y) (xs : List X) (x : X) (p q r : Y) → length xs ≡ 3 → map f xs ≡ p ∷ q ∷ r ∷ [] → x ≡ get_or xs 2 x → f x ≡ r
third_is f (a ∷ b ∷ c ∷ []) x p q r len e is = let same : f c ≡ r = cc in ap f is ∙ same
third_is f [] x p q r len e is = absurd (omega arith)
third_is f (a ∷ []) x p q r len e is = absurd (omega arith)
third_is f (a ∷ b ∷ []) x p q r len e is = absurd (omega arith)
third_is f (a ∷ b ∷ c ∷ d ∷ xs) x p q r len e is = absurd (omega arith)

third_item : (b : B.Bundle) (x : I.Item) (k : Parts) → IsStraight (bundle_of b) k → length b.items ≡ 3 → x ≡ get_or b.items 2 x → item_of x ≡ OfJudgement k.judgement
third_item b x k straight len is = third_is item_of b.items x _ _ _ len straight.parts.items is

-- the item that is a judgement
judge_is : (x : I.Item) (j : Judgement) → item_of x ≡ OfJudgement j → (d : D.Judgement) × (x ≡ IV.Judge d)
judge_is (IV.Class c) j e = absurd cc
judge_is (IV.Interface c) j e = absurd cc
judge_is (IV.Module c) j e = absurd cc
judge_is (IV.UnitItem c) j e = absurd cc
judge_is (IV.Client c) j e = absurd cc
judge_is (IV.Judge d) j e = (d, refl)
judge_is (IV.Pair c) j e = absurd cc

pub place_of : (b : B.Bundle) (x : I.Item) (d : D.Judgement) → length b.items ≡ 3 → x ≡ get_or b.items 2 x → x ≡ IV.Judge d → IsPlace (bundle_of b) d.at
unfolding IsPlace
place_of b x d len is judge k straight =
    let same : OfJudgement (judgement_of d) ≡ OfJudgement k.judgement = ap item_of (sym judge) ∙ third_item b x k straight len is in
    let one : judgement_of d ≡ k.judgement = cc in
    ap (λ j. j.at) one

pub no_place : (b : B.Bundle) (x : I.Item) (at : ℕ) → length b.items ≡ 3 → x ≡ get_or b.items 2 x → ((d : D.Judgement) → x ≡ IV.Judge d → ⊥) → IsPlace (bundle_of b) at
unfolding IsPlace
no_place b x at len is other k straight = let d = judge_is x k.judgement (third_item b x k straight len is) in absurd (other d.0 d.1)

three_of : (b : B.Bundle) (k : Parts) → IsStraight (bundle_of b) k → length b.items ≡ 3
three_of b k straight = sym (length-map b.items item_of) ∙ ap length straight.parts.items

pub three_items : (b : B.Bundle) (q : Sequent) → IsObligation (bundle_of b) q → length b.items ≡ 3
unfolding IsObligation
three_items b q h = three_of b h.parts h.straight

-- ---- the derivation

on_accepted : (b : Bundle) (counts : List ℕ) → counts ≡ 0 ∷ 0 ∷ 1 ∷ [] → IsVerdictOnOutcome b outcomes.Accepted (Yes counts)
unfolding IsVerdictOnOutcome
on_accepted b counts is k content straight h = (is, h)

in_judgement : (b : Bundle) (k : Parts) (at : ℕ) → IsPlace b at → IsStraight b k → IsInJudgement k 0 2 at
unfolding IsPlace
in_judgement b k at place straight = record { first = refl; third = refl; place = place k straight }

on_bad_step : (b : Bundle) (step at : ℕ) → IsPlace b at → IsVerdictOnOutcome b (outcomes.BadStep step) (BadStep 0 step 2 at)
unfolding IsVerdictOnOutcome
on_bad_step b step at place k content straight h = (in_judgement b k at place straight, h)

on_open_nodes : (b : Bundle) (nodes at : ℕ) → IsPlace b at → IsVerdictOnOutcome b (outcomes.OpenNodes nodes) (OpenNodes nodes 0 2 at)
unfolding IsVerdictOnOutcome
on_open_nodes b nodes at place k content straight h = (in_judgement b k at place straight, h)

module _ (b : Bundle) (o : Outcome) where
  pub told_accepted : (counts : List ℕ) → o ≡ outcomes.Accepted → counts ≡ 0 ∷ 0 ∷ 1 ∷ [] → IsVerdictOnOutcome b o (Yes counts)
  told_accepted counts e is = subst (λ p. IsVerdictOnOutcome b p (Yes counts)) (sym e) (on_accepted b counts is)

  pub told_bad_step : (step at : ℕ) → o ≡ outcomes.BadStep step → IsPlace b at → IsVerdictOnOutcome b o (BadStep 0 step 2 at)
  told_bad_step step at e place = subst (λ p. IsVerdictOnOutcome b p (BadStep 0 step 2 at)) (sym e) (on_bad_step b step at place)

  pub told_open_nodes : (nodes at : ℕ) → o ≡ outcomes.OpenNodes nodes → IsPlace b at → IsVerdictOnOutcome b o (OpenNodes nodes 0 2 at)
  told_open_nodes nodes at e place = subst (λ p. IsVerdictOnOutcome b p (OpenNodes nodes 0 2 at)) (sym e) (on_open_nodes b nodes at place)

on_count : (b : Bundle) (ds : List (List Stp)) (n : ℕ) → length ds ≢ 1 → n ≡ length ds → IsVerdictOnDerivations b ds (ProofCount n 1)
unfolding IsVerdictOnDerivations
on_count b ds n some is k content straight says = record {
  derivations = ds;
  says = says;
  count = sym is;
  one = refl;
  differ = λ e. some (sym is ∙ e);
}

pub same_parts : (b : Bundle) (k l : Parts) → IsStraight b k → IsStraight b l → k ≡ l
same_parts b k l f g =
    let items = sym f.parts.items ∙ g.parts.items in
    let left : k.left ≡ l.left = cc in
    let right : k.right ≡ l.right = cc in
    let judgement : k.judgement ≡ l.judgement = cc in
    let left_procs : k.left_proc ∷ [] ≡ l.left_proc ∷ [] = sym f.parts.left.procs ∙ ap (λ u. u.procs) left ∙ g.parts.left.procs in
    let right_procs : k.right_proc ∷ [] ≡ l.right_proc ∷ [] = sym f.parts.right.procs ∙ ap (λ u. u.procs) right ∙ g.parts.right.procs in
    let left_proc : k.left_proc ≡ l.left_proc = cc in
    let right_proc : k.right_proc ≡ l.right_proc = cc in
    λ i. record { left = left i; left_proc = left_proc i; right = right i; right_proc = right_proc i; judgement = judgement i }

on_derivation : (b : Bundle) (q : Sequent) (steps : List Stp) (o : Outcome) (v : Verdict) → IsObligation b q → IsOutcome (sequent_of q) steps o → IsVerdictOnOutcome b o v → IsVerdictOnDerivations b (steps ∷ []) v
unfolding IsObligation IsVerdictOnDerivations IsVerdictOnOutcome
on_derivation b q steps o v obligation outcome verdict k content straight says =
    let parts = same_parts b obligation.parts k obligation.straight straight in
    let same : sequent_of q ≡ obligation_of k = obligation.value ∙ ap obligation_of parts in
    verdict k content straight (record { steps = steps; says = says; outcome = subst (λ s. IsOutcome s steps o) same outcome })

pub several : (b : Bundle) (ls : List (List Step)) (n m : ℕ) → n ≡ length ls → n ≢ 1 → m ≡ length ls → IsVerdictOnDerivations b (map (map step_of) ls) (ProofCount m 1)
several b ls n m is some same =
    let e = length-map ls (map step_of) in
    on_count b (map (map step_of) ls) m (λ one. some (is ∙ sym e ∙ one)) (same ∙ sym e)

one_list : (ls : List (List Step)) (x : List Step) → length ls ≡ 1 → x ≡ get_or ls 0 x → map step_of x ∷ [] ≡ map (map step_of) ls
one_list [] x len is = absurd (omega arith)
one_list (l ∷ []) x len is = ap (λ y. map step_of y ∷ []) is
one_list (l ∷ m ∷ ls) x len is = absurd (omega arith)

pub single : {E : Type 0} (b : Bundle) (s q : Sequent) (ls : List (List Step)) (n : ℕ) (x : List Step) (o : Outcome) (r : Result Verdict E) → s ≡ q → n ≡ length ls → n ≡ 1 → x ≡ get_or ls 0 x
    → IsObligation b q → IsOutcome (sequent_of s) (map step_of x) o → IfOk r (IsVerdictOnOutcome b o) → IfOk r (IsVerdictOnDerivations b (map (map step_of) ls))
single b s q ls n x o r same len one is obligation outcome h =
    IfOk-weaker r _ _ (λ v w. subst (λ ds. IsVerdictOnDerivations b ds v) (one_list ls x (sym len ∙ one) is)
    (on_derivation b s (map step_of x) o v (subst (IsObligation b) (sym same) obligation) outcome w)) h

-- ---- the proof file

on_said : (b : Bundle) (content : List ℕ) (ds : List (List Stp)) (v : Verdict) → length content ≤ PROOF_LIMIT → proof_of content ≡ Ok ds → IsVerdictOnDerivations b ds v → IsVerdictOnProofFile b content v
unfolding IsVerdictOnDerivations IsVerdictOnProofFile
on_said b content ds v short said h k straight = h k content straight (record { short = short; said = said })

on_unreadable : (b : Bundle) (content : List ℕ) (f : ProofFault) (v : Verdict) → length content ≤ PROOF_LIMIT → proof_of content ≡ Err f → IsVerdictOnProof f v → IsVerdictOnProofFile b content v
unfolding IsVerdictOnProof IsVerdictOnProofFile
on_unreadable b content f v short fault h k straight = h k content (record { short = short; fault = fault })

pub said : {E : Type 0} (b : Bundle) (content : List ℕ) (ds : List (List Stp)) (r : Result Verdict E) → length content ≤ PROOF_LIMIT → proof_of content ≡ Ok ds → IfOk r (IsVerdictOnDerivations b ds)
    → IfOk r (IsVerdictOnProofFile b content)
said b content ds r short is h = IfOk-weaker r _ _ (λ v. on_said b content ds v short is) h

pub unreadable : {E : Type 0} (b : Bundle) (content : List ℕ) (f : ProofFault) (r : Result Verdict E) → length content ≤ PROOF_LIMIT → (f ≢ proof_faults.Memory → proof_of content ≡ Err f)
    → IfOk r (λ v. f ≢ proof_faults.Memory) → IfOk r (IsVerdictOnProof f) → IfOk r (IsVerdictOnProofFile b content)
unreadable b content f (Ok v) short is some h = on_unreadable b content f v short (is some) h
unreadable b content f (Err e) short is some h = tt
