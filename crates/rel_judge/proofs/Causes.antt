-- The causes of verdicts, and that each cause has one verdict.
use Rattle.std.proofs.Common.{◌≡◌, ◌≢◌, ◌⊎◌, inl, inr, ℕ, ◌<◌, ◌≤◌, List, [], ◌∷◌, length, Some, None, Option, Ok, Err, refl, sym, ap, subst, ◌∙◌, arith}
use Rattle.rel_lang.specs.Syntax.{Bundle}
use Rattle.rel_lang.specs.declared.fault.TypeKind.{TypeKind}
use Rattle.rel_lang.specs.declared.fault.TypeKind.TheVariants as K
use Rattle.rel_flaws.specs.Flaws as F
use Rattle.rel_flaws.specs.Flaws.{Fault}
use Rattle.rel_flaws.specs.View.{kind_of}
use Rattle.rel_types.specs.Items.{first_fault}
use Rattle.rel_decls.specs.declared.fault.TextFault.{TextFault}
use Rattle.rel_decls.specs.declared.fault.TextFault.TheVariants as text_faults
use Rattle.rel_decls.proofs.OneFault.{one_fault, unfit}
use Rattle.rel_decls.proofs.OneBundle.{one_bundle}
use Rattle.rel_linking.specs.Form.{Parts, IsStraight}
use Rattle.rel_linking.specs.Obligation.{obligation_of}
use Rattle.rules_table.specs.Nodes.{Stp}
use Rattle.rel_derive.specs.Outcomes.{IsOutcome}
use Rattle.rel_derive.specs.declared.verdict.Outcome.{Outcome}
use Rattle.rel_derive.specs.declared.verdict.Outcome.TheVariants as outcomes
use Rattle.rel_derive.proofs.Exact.{outcome_is_only}
use Rattle.rel_proofio.specs.ProofFile.{proof_of}
use Rattle.rel_proofio.specs.declared.fault.ProofFault.{ProofFault}
use Rattle.rel_proofio.specs.declared.fault.ProofFault.TheVariants as proof_faults
use Rattle.rel_proofio.specs.declared.fault.Spot.TheVariants as spots
use Rattle.rel_report.specs.declared.verdict.Verdict.{Verdict}
use Rattle.rel_report.specs.declared.verdict.Verdict.TheVariants.{TooLargeBundle, NotUtf8, Lexical, Syntax, TooDeep, TooMany, Typing, NotBuilt, TooLargeProof, NotJson, MalformedFile, MalformedProof, MalformedStep, TooLong, ProofCount, BadStep, OpenNodes, Yes}
use Rattle.rel_judge.specs.declared.verdict.TheConstants.{BUNDLE_LIMIT, PROOF_LIMIT}
use Rattle.rel_judge.specs.Laws.{VerdictsAreUnique}
use Rattle.rel_judge.specs.Verdict.{IsFaulty, IsRead, IsIllTyped, IsNotBuilt, IsBuilt, IsUnreadAs, IsRefusedAs, IsUnreadable, Says, HasOutcome, IsInJudgement, IsJudgedAs}

-- ---- bytes that aren't read

abbrev text_verdict : TextFault → Verdict
text_verdict (text_faults.NotUtf8 at) = NotUtf8 at
text_verdict (text_faults.Lexical kind at) = Lexical kind at
text_verdict (text_faults.Syntax at) = Syntax at
text_verdict (text_faults.TooDeep at) = TooDeep at
text_verdict (text_faults.TooMany at) = TooMany at
text_verdict text_faults.Memory = TooLargeBundle

-- the text has a fault, of which this is the verdict
record OfFault (text : List ℕ) (v : Verdict) : Type 0 where
  fault : TextFault
  some : fault ≢ text_faults.Memory
  has : IsFaulty text fault
  is : v ≡ text_verdict fault

OfText : List ℕ → Verdict → Type 0
OfText text v = ((BUNDLE_LIMIT < length text) × (v ≡ TooLargeBundle)) ⊎ OfFault text v

of_text : (text : List ℕ) (v : Verdict) → IsUnreadAs text v → OfText text v
unfolding OfText
of_text text TooLargeBundle h = inl (h, refl)
of_text text (NotUtf8 at) h = inr (record { fault = text_faults.NotUtf8 at; some = λ e. cc; has = h; is = refl })
of_text text (Lexical kind at) h = inr (record { fault = text_faults.Lexical kind at; some = λ e. cc; has = h; is = refl })
of_text text (Syntax at) h = inr (record { fault = text_faults.Syntax at; some = λ e. cc; has = h; is = refl })
of_text text (TooDeep at) h = inr (record { fault = text_faults.TooDeep at; some = λ e. cc; has = h; is = refl })
of_text text (TooMany at) h = inr (record { fault = text_faults.TooMany at; some = λ e. cc; has = h; is = refl })
of_text text (Typing kind at) h = absurd h
of_text text NotBuilt h = absurd h
of_text text TooLargeProof h = absurd h
of_text text NotJson h = absurd h
of_text text MalformedFile h = absurd h
of_text text (MalformedProof p) h = absurd h
of_text text (MalformedStep p s) h = absurd h
of_text text (TooLong p) h = absurd h
of_text text (ProofCount n m) h = absurd h
of_text text (BadStep o s i at) h = absurd h
of_text text (OpenNodes n o i at) h = absurd h
of_text text (Yes counts) h = absurd h

not_read : (text : List ℕ) (v : Verdict) (b : Bundle) → OfText text v → IsRead text b → ⊥
unfolding OfText
not_read text v b (inl h) read = let large = h.0 in let short = read.short in omega (arith, large, short)
not_read text v b (inr h) read = unfit text h.fault h.has.fault h.some b read.stands read.fits

one_text : (text : List ℕ) (v w : Verdict) → OfText text v → OfText text w → v ≡ w
unfolding OfText
one_text text v w (inl g) (inl h) = g.1 ∙ sym h.1
one_text text v w (inl g) (inr h) = let large = g.0 in let short = h.has.short in absurd (omega (arith, large, short))
one_text text v w (inr g) (inl h) = let large = h.0 in let short = g.has.short in absurd (omega (arith, large, short))
one_text text v w (inr g) (inr h) = g.is ∙ ap text_verdict (one_fault text g.fault h.fault g.has.fault h.has.fault g.some h.some) ∙ sym h.is

pub one_unread : (text : List ℕ) (v w : Verdict) → IsUnreadAs text v → IsUnreadAs text w → v ≡ w
one_unread text v w g h = one_text text v w (of_text text v g) (of_text text w h)

pub unread_or_read : (text : List ℕ) (v : Verdict) (b : Bundle) → IsUnreadAs text v → IsRead text b → ⊥
unread_or_read text v b h read = not_read text v b (of_text text v h) read

-- ---- bundles that aren't judged

abbrev back : F.Kind → TypeKind
back F.Twice = K.Twice
back F.Unknown = K.Unknown
back F.Missing = K.Missing
back F.NoMain = K.NoMain
back F.NotVisible = K.NotVisible
back F.WrongArity = K.WrongArity
back F.Target = K.Target
back F.OldHere = K.OldHere
back F.NotCode = K.NotCode
back F.WrongType = K.WrongType

back_is : (k : TypeKind) → back (kind_of k) ≡ k
back_is K.Twice = refl
back_is K.Unknown = refl
back_is K.Missing = refl
back_is K.NoMain = refl
back_is K.NotVisible = refl
back_is K.WrongArity = refl
back_is K.Target = refl
back_is K.OldHere = refl
back_is K.NotCode = refl
back_is K.WrongType = refl

abbrev typing_of : Fault → Verdict
typing_of f = Typing (back f.kind) f.at

record OfType (text : List ℕ) (v : Verdict) : Type 0 where
  fault : Fault
  has : IsIllTyped text fault
  is : v ≡ typing_of fault

OfBundle : List ℕ → Verdict → Type 0
OfBundle text v = OfText text v ⊎ (OfType text v ⊎ (IsNotBuilt text × (v ≡ NotBuilt)))

of_unread : (text : List ℕ) (v : Verdict) → IsUnreadAs text v → OfBundle text v
unfolding OfBundle
of_unread text v h = inl (of_text text v h)

of_bundle : (text : List ℕ) (v : Verdict) → IsRefusedAs text v → OfBundle text v
unfolding OfBundle
of_bundle text TooLargeBundle h = of_unread text TooLargeBundle h
of_bundle text (NotUtf8 at) h = of_unread text (NotUtf8 at) h
of_bundle text (Lexical kind at) h = of_unread text (Lexical kind at) h
of_bundle text (Syntax at) h = of_unread text (Syntax at) h
of_bundle text (TooDeep at) h = of_unread text (TooDeep at) h
of_bundle text (TooMany at) h = of_unread text (TooMany at) h
of_bundle text (Typing kind at) h = inr (inl (record { fault = record { kind = kind_of kind; at = at }; has = h; is = ap (λ k. Typing k at) (sym (back_is kind)) }))
of_bundle text NotBuilt h = inr (inr (h, refl))
of_bundle text TooLargeProof h = absurd h
of_bundle text NotJson h = absurd h
of_bundle text MalformedFile h = absurd h
of_bundle text (MalformedProof p) h = absurd h
of_bundle text (MalformedStep p s) h = absurd h
of_bundle text (TooLong p) h = absurd h
of_bundle text (ProofCount n m) h = absurd h
of_bundle text (BadStep o s i at) h = absurd h
of_bundle text (OpenNodes n o i at) h = absurd h
of_bundle text (Yes counts) h = absurd h

pub same_bundle : (text : List ℕ) (b c : Bundle) → IsRead text b → IsRead text c → b ≡ c
same_bundle text b c g h = one_bundle text b c g.stands h.stands

none_is : {A : Type 0} (o : Option A) (x : A) → o ≡ None → o ≡ Some x → ⊥
none_is o x e f = absurd cc

some_is : {A : Type 0} (x y : A) → ◌≡◌ {A = Option A} (Some x) (Some y) → x ≡ y
some_is x y e = cc

module _ (text : List ℕ) where
  faultless : (f : Fault) (b : Bundle) → IsIllTyped text f → IsRead text b → first_fault b ≡ None → ⊥
  faultless f b h read none = none_is (first_fault b) f none (ap first_fault (same_bundle text b h.bundle read h.read) ∙ h.fault)

  one_fault_of : (e f : Fault) → IsIllTyped text e → IsIllTyped text f → e ≡ f
  one_fault_of e f g h = some_is e f (sym g.fault ∙ ap first_fault (same_bundle text g.bundle h.bundle g.read h.read) ∙ h.fault)

  one_of : (v w : Verdict) → OfBundle text v → OfBundle text w → v ≡ w
  unfolding OfBundle
  one_of v w (inl g) (inl h) = one_text text v w g h
  one_of v w (inl g) (inr (inl h)) = absurd (not_read text v h.has.bundle g h.has.read)
  one_of v w (inl g) (inr (inr h)) = absurd (not_read text v h.0.bundle g h.0.read)
  one_of v w (inr (inl g)) (inl h) = absurd (not_read text w g.has.bundle h g.has.read)
  one_of v w (inr (inl g)) (inr (inl h)) = g.is ∙ ap typing_of (one_fault_of g.fault h.fault g.has h.has) ∙ sym h.is
  one_of v w (inr (inl g)) (inr (inr h)) = absurd (faultless g.fault h.0.bundle g.has h.0.read h.0.faultless)
  one_of v w (inr (inr g)) (inl h) = absurd (not_read text w g.0.bundle h g.0.read)
  one_of v w (inr (inr g)) (inr (inl h)) = absurd (faultless h.fault g.0.bundle h.has g.0.read g.0.faultless)
  one_of v w (inr (inr g)) (inr (inr h)) = g.1 ∙ sym h.1

  pub one_refused : (v w : Verdict) → IsRefusedAs text v → IsRefusedAs text w → v ≡ w
  one_refused v w g h = one_of v w (of_bundle text v g) (of_bundle text w h)

  or_built : (v : Verdict) (b : Bundle) (k : Parts) → OfBundle text v → IsBuilt text b k → ⊥
  unfolding OfBundle
  or_built v b k (inl h) built = not_read text v b h built.read
  or_built v b k (inr (inl h)) built = faultless h.fault b h.has built.read built.faultless
  or_built v b k (inr (inr h)) built = h.0.other k (subst (λ c. IsStraight c k) (same_bundle text b h.0.bundle built.read h.0.read) built.straight)

  pub refused_or_built : (v : Verdict) (b : Bundle) (k : Parts) → IsRefusedAs text v → IsBuilt text b k → ⊥
  refused_or_built v b k h built = or_built v b k (of_bundle text v h) built

-- ---- proof files

abbrev proof_verdict : ProofFault → Verdict
proof_verdict proof_faults.NotJson = NotJson
proof_verdict (proof_faults.Malformed spots.File) = MalformedFile
proof_verdict (proof_faults.Malformed (spots.Proof p)) = MalformedProof p
proof_verdict (proof_faults.Malformed (spots.Step p s)) = MalformedStep p s
proof_verdict (proof_faults.TooLong p) = TooLong p
proof_verdict proof_faults.Memory = TooLargeProof

abbrev outcome_verdict : Parts → Outcome → Verdict
outcome_verdict k outcomes.Accepted = Yes (0 ∷ 0 ∷ 1 ∷ [])
outcome_verdict k (outcomes.BadStep s) = BadStep 0 s 2 k.judgement.at
outcome_verdict k (outcomes.OpenNodes n) = OpenNodes n 0 2 k.judgement.at

module _ (k : Parts) (content : List ℕ) where
  record OfForm (v : Verdict) : Type 0 where
    fault : ProofFault
    has : IsUnreadable content fault
    is : v ≡ proof_verdict fault

  record OfCount (v : Verdict) : Type 0 where
    derivations : List (List Stp)
    says : Says content derivations
    some : length derivations ≢ 1
    is : v ≡ ProofCount (length derivations) 1

  record OfOutcome (v : Verdict) : Type 0 where
    outcome : Outcome
    has : HasOutcome k content outcome
    is : v ≡ outcome_verdict k outcome

  OfProof : Verdict → Type 0
  OfProof v = ((PROOF_LIMIT < length content) × (v ≡ TooLargeProof)) ⊎ (OfForm v ⊎ (OfCount v ⊎ OfOutcome v))

  of_form : (f : ProofFault) → IsUnreadable content f → OfProof (proof_verdict f)
  unfolding OfProof
  of_form f h = inr (inl (record { fault = f; has = h; is = refl }))

  in_judgement : (f : ℕ → ℕ → ℕ → Verdict) (o i at : ℕ) → IsInJudgement k o i at → f o i at ≡ f 0 2 k.judgement.at
  in_judgement f o i at h = λ j. f (h.first j) (h.third j) (h.place j)

  of_proof : (v : Verdict) → IsJudgedAs k content v → OfProof v
  unfolding OfProof
  of_proof TooLargeProof h = inl (h, refl)
  of_proof NotJson h = of_form proof_faults.NotJson h
  of_proof MalformedFile h = of_form (proof_faults.Malformed spots.File) h
  of_proof (MalformedProof p) h = of_form (proof_faults.Malformed (spots.Proof p)) h
  of_proof (MalformedStep p s) h = of_form (proof_faults.Malformed (spots.Step p s)) h
  of_proof (TooLong p) h = of_form (proof_faults.TooLong p) h
  of_proof (ProofCount n m) h = inr (inr (inl (record {
    derivations = h.derivations;
    says = h.says;
    some = λ e. h.differ (sym h.count ∙ e ∙ sym h.one);
    is = λ j. ProofCount (sym h.count j) (h.one j);
  })))
  of_proof (BadStep o s i at) h = inr (inr (inr (record { outcome = outcomes.BadStep s; has = h.1; is = in_judgement (λ p j a. BadStep p s j a) o i at h.0 })))
  of_proof (OpenNodes n o i at) h = inr (inr (inr (record { outcome = outcomes.OpenNodes n; has = h.1; is = in_judgement (λ p j a. OpenNodes n p j a) o i at h.0 })))
  of_proof (Yes counts) h = inr (inr (inr (record { outcome = outcomes.Accepted; has = h.1; is = ap Yes h.0 })))
  of_proof TooLargeBundle h = absurd h
  of_proof (NotUtf8 at) h = absurd h
  of_proof (Lexical kind at) h = absurd h
  of_proof (Syntax at) h = absurd h
  of_proof (TooDeep at) h = absurd h
  of_proof (TooMany at) h = absurd h
  of_proof (Typing kind at) h = absurd h
  of_proof NotBuilt h = absurd h

  too_large : PROOF_LIMIT < length content → length content ≤ PROOF_LIMIT → ⊥
  too_large large short = omega (arith, large, short)

  not_said : (f : ProofFault) (ds : List (List Stp)) → proof_of content ≡ Err f → proof_of content ≡ Ok ds → ⊥
  not_said f ds e g = absurd cc

  same_said : (ds es : List (List Stp)) → proof_of content ≡ Ok ds → proof_of content ≡ Ok es → ds ≡ es
  same_said ds es e g = let same = sym e ∙ g in cc

  same_fault : (e f : ProofFault) → proof_of content ≡ Err e → proof_of content ≡ Err f → e ≡ f
  same_fault e f g h = let same = sym g ∙ h in cc

  one_outcome : (o p : Outcome) → HasOutcome k content o → HasOutcome k content p → o ≡ p
  one_outcome o p g h =
      let same = same_said (g.steps ∷ []) (h.steps ∷ []) g.says.said h.says.said in
      let steps : g.steps ≡ h.steps = cc in
      outcome_is_only (obligation_of k) h.steps p h.outcome o (subst (λ ss. IsOutcome (obligation_of k) ss o) steps g.outcome)

  one_of_proof : (v w : Verdict) → OfProof v → OfProof w → v ≡ w
  unfolding OfProof
  one_of_proof v w (inl g) (inl h) = g.1 ∙ sym h.1
  one_of_proof v w (inl g) (inr (inl h)) = absurd (too_large g.0 h.has.short)
  one_of_proof v w (inl g) (inr (inr (inl h))) = absurd (too_large g.0 h.says.short)
  one_of_proof v w (inl g) (inr (inr (inr h))) = absurd (too_large g.0 h.has.says.short)
  one_of_proof v w (inr (inl g)) (inl h) = absurd (too_large h.0 g.has.short)
  one_of_proof v w (inr (inl g)) (inr (inl h)) = g.is ∙ ap proof_verdict (same_fault g.fault h.fault g.has.fault h.has.fault) ∙ sym h.is
  one_of_proof v w (inr (inl g)) (inr (inr (inl h))) = absurd (not_said g.fault h.derivations g.has.fault h.says.said)
  one_of_proof v w (inr (inl g)) (inr (inr (inr h))) = absurd (not_said g.fault (h.has.steps ∷ []) g.has.fault h.has.says.said)
  one_of_proof v w (inr (inr (inl g))) (inl h) = absurd (too_large h.0 g.says.short)
  one_of_proof v w (inr (inr (inl g))) (inr (inl h)) = absurd (not_said h.fault g.derivations h.has.fault g.says.said)
  one_of_proof v w (inr (inr (inl g))) (inr (inr (inl h))) = g.is ∙ ap (λ ds. ProofCount (length ds) 1) (same_said g.derivations h.derivations g.says.said h.says.said) ∙ sym h.is
  one_of_proof v w (inr (inr (inl g))) (inr (inr (inr h))) = absurd (g.some (ap length (same_said g.derivations (h.has.steps ∷ []) g.says.said h.has.says.said)))
  one_of_proof v w (inr (inr (inr g))) (inl h) = absurd (too_large h.0 g.has.says.short)
  one_of_proof v w (inr (inr (inr g))) (inr (inl h)) = absurd (not_said h.fault (g.has.steps ∷ []) h.has.fault g.has.says.said)
  one_of_proof v w (inr (inr (inr g))) (inr (inr (inl h))) = absurd (h.some (ap length (same_said h.derivations (g.has.steps ∷ []) h.says.said g.has.says.said)))
  one_of_proof v w (inr (inr (inr g))) (inr (inr (inr h))) = g.is ∙ ap (outcome_verdict k) (one_outcome g.outcome h.outcome g.has h.has) ∙ sym h.is

  pub one_judged : (v w : Verdict) → IsJudgedAs k content v → IsJudgedAs k content w → v ≡ w
  one_judged v w g h = one_of_proof v w (of_proof v g) (of_proof w h)

-- ---- the law

pub unique_verdicts : VerdictsAreUnique
unique_verdicts = record {
  unread = one_unread;
  unread_or_read = unread_or_read;
  refused = one_refused;
  refused_or_built = refused_or_built;
  judged = one_judged;
}
