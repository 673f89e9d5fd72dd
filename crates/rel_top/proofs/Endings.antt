-- From what `check` answers to how `run` ends.
use Rattle.std.proofs.Common.{◌≡◌, ◌≢◌, inl, inr, ℕ, ◌+◌, ◌<◌, ◌≤◌, List, [], ◌∷◌, ◌++◌, length, take, drop, get_or, Option, Some, None, Result, Ok, Err, OnErr, refl, sym, ap, subst, ◌∙◌, append_assoc, append-nil, take-append-drop, length-append, take_all, arith}
use Rattle.std.proofs.Math.Seq.{take-append-add}
use Rattle.std.proofs.lemmas.List.{take_more, take-append-le}
use Rattle.std.proofs.lemmas.List.Folds.{concat-append}
use Rattle.std.specs.List.{concat}
use Rattle.rel_io.specs.Told.{Told, untold, absent, bytes, IsToldAs, Rose, Appends, AppendsFront}
use Rattle.rel_lang.specs.Syntax.{Bundle}
use Rattle.rel_lang.specs.TrueBundle.{IsTrueBundle, StandsForTrueBundle}
use Rattle.rel_top.specs.declared.check.Answer.{Answer}
use Rattle.rel_top.specs.declared.status.Status.{Status}
use Rattle.rel_top.specs.declared.status.Status.TheVariants.{Yes, FileFault, OutputFault, Memory}
use Rattle.rel_top.specs.Ending.{Words, Reply, usage, unread, answer, IsUnread, HasReply, status_of, lines_of, Output, output, IsPrinted, IsCutOff, IsSilent, EndsWith, Ends, AreTold, IsDecided}
use Rattle.rel_flaws.specs.Flaws.{Fault}
use Rattle.rel_types.specs.Items.{first_fault}
use Rattle.rel_linking.specs.Form.{Parts, IsStraight}
use Rattle.rel_top.specs.Headline.{WhereTold, IsYes}
use Rattle.rel_top.specs.Judged.{IsOutcomeAnswer, IsProofAnswer, IsJudgedAnswer, IsTypedAnswer, IsBundleAnswer, IsTextAnswer, IsCheckAnswer, IsPrintAnswer, IsShowAnswer, IsReply, IsWordsAnswer, IsPrintedAs, answer_of}
use Rattle.rel_top.specs.Verdict.{Refusal, IsRefused, IsRead, IsBuilt, Outcome, no_proof, bad_step, open_nodes, accepted, Verdict, refused, ill_typed, not_built, judged, printed, Command, check, show, words_of, outcome_status, HasVerdict}
use Rattle.rel_decls.proofs.OneBundle.{one_bundle}
use Rattle.rel_top.proofs.OneVerdict.{one_verdict}

-- ---- what is told of a file

where_told : (t : Told) (P : List ℕ → Type 0) (c : List ℕ) → IsToldAs t c → P c → WhereTold t P
where_told untold P c e p = tt
where_told absent P c e p = absurd e
where_told (bytes content) P c e p = subst P e p

-- ---- words

same_command : (c d : Command) (words : Words) → words ≡ words_of c → words ≡ words_of d → c ≡ d
same_command (check b p) (check e q) words h g = let same = sym h ∙ g in let one : b ≡ e = cc in let two : p ≡ q = cc in λ i. check (one i) (two i)
same_command (check b p) (show e) words h g = let same = sym h ∙ g in absurd cc
same_command (show b) (check e q) words h g = let same = sym h ∙ g in absurd cc
same_command (show b) (show e) words h g = let same = sym h ∙ g in let one : b ≡ e = cc in ap show one

is_accepted : (o : Outcome) → outcome_status o ≡ Yes → o ≡ accepted
is_accepted no_proof e = absurd cc
is_accepted (bad_step n) e = absurd cc
is_accepted (open_nodes n) e = absurd cc
is_accepted accepted e = refl

stands_for_true : (text : List ℕ) (b : Bundle) → IsRead text b → IsTrueBundle b → StandsForTrueBundle text
stands_for_true text b read holds =
    record { bundle = b; stands = read.stands; true = λ c other. subst IsTrueBundle (one_bundle text b c read.stands other) holds }

abbrev bundle_in : Command → List ℕ
bundle_in (check bundle proof) = bundle
bundle_in (show bundle) = bundle

module _ (told : List ℕ → Told) (Failed : List ℕ → Type 0) (words : Words) (a : Answer) (bundle proof : List ℕ) (e : words ≡ words_of (check bundle proof)) where
  of_unread : (name : List ℕ) → HasReply told Failed words (unread name) → a ≡ answer_of (unread name) → IsReply told Failed words a
  of_unread name has is = record { reply = unread name; has = has; is = is; true = λ y. absurd cc }

  module _ (text : List ℕ) (is_told : IsToldAs (told bundle) text) where
    of_refusal : (r : Refusal) → IsRefused text r → a ≡ answer_of (answer (refused r)) → IsReply told Failed words a
    of_refusal r h is = record { reply = answer (refused r); has = (check bundle proof, e, (text, is_told, h)); is = is; true = λ y. absurd cc }

    module _ (b : Bundle) (read : IsRead text b) where
      of_fault : (f : Fault) → first_fault b ≡ Some f → a ≡ answer_of (answer (ill_typed f)) → IsReply told Failed words a
      of_fault f fault is = record {
        reply = answer (ill_typed f);
        has = (check bundle proof, e, (text, is_told, record { bundle = b; read = read; fault = fault }));
        is = is;
        true = λ y. absurd cc;
      }

      of_other : first_fault b ≡ None → ((k : Parts) → ¬ (IsStraight b k)) → a ≡ answer_of (answer not_built) → IsReply told Failed words a
      of_other faultless other is = record {
        reply = answer not_built;
        has = (check bundle proof, e, (text, is_told, record { bundle = b; read = read; faultless = faultless; other = other }));
        is = is;
        true = λ y. absurd cc;
      }

      module _ (faultless : first_fault b ≡ None) (k : Parts) (straight : IsStraight b k) where
        built : IsBuilt text k
        built = record { bundle = b; read = read; faultless = faultless; straight = straight }

        of_content : (content : List ℕ) → IsToldAs (told proof) content → IsOutcomeAnswer b k content a → IsReply told Failed words a
        of_content content content_told h = record {
          reply = answer (judged k h.outcome);
          has = (check bundle proof, e, ((text, is_told, built), (content, content_told, h.has)));
          is = h.is;
          true = λ y other_bundle other_proof f.
              subst (λ c. WhereTold (told (bundle_in c)) StandsForTrueBundle) (same_command (check bundle proof) (check other_bundle other_proof) words e f)
              (where_told (told bundle) StandsForTrueBundle text is_told (stands_for_true text b read (h.enough (is_accepted h.outcome (sym (ap (λ c. c.status) h.is) ∙ y)))));
        }

        of_judged : IsJudgedAnswer b told Failed proof a → IsReply told Failed words a
        unfolding IsJudgedAnswer IsProofAnswer
        of_judged (inl h) = of_unread proof (check bundle proof, e, (h.0, inr (refl, (k, (text, is_told, built))))) h.1
        of_judged (inr h) = of_content h.0 h.1 (h.2 k straight)

      of_typed : first_fault b ≡ None → IsTypedAnswer b told Failed proof a → IsReply told Failed words a
      unfolding IsTypedAnswer
      of_typed faultless (inl h) = of_other faultless h.0 h.1
      of_typed faultless (inr h) = of_judged faultless h.0 h.1 h.2

      of_bundle : IsBundleAnswer b told Failed proof a → IsReply told Failed words a
      unfolding IsBundleAnswer
      of_bundle (inl h) = of_fault h.0 h.1 h.2
      of_bundle (inr h) = of_typed h.0 h.1

    of_text : IsTextAnswer text told Failed proof a → IsReply told Failed words a
    unfolding IsTextAnswer
    of_text (inl h) = of_refusal h.0 h.1 h.2
    of_text (inr h) = of_bundle h.0 h.1 h.2

  of_check : IsCheckAnswer told Failed bundle proof a → IsReply told Failed words a
  unfolding IsCheckAnswer
  of_check (inl h) = of_unread bundle (check bundle proof, e, (h.0, inl refl)) h.1
  of_check (inr h) = of_text h.0 h.1 h.2

  pub checked_answer : IsCheckAnswer told Failed bundle proof a → IsWordsAnswer told Failed words a
  unfolding IsWordsAnswer
  checked_answer h = of_check h

module _ (told : List ℕ → Told) (Failed : List ℕ → Type 0) (words : Words) (a : Answer) (bundle : List ℕ) (e : words ≡ words_of (show bundle)) where
  -- words that ask for a print ask for no judgement
  no_claim : IsYes told words
  no_claim other_bundle other_proof f = let same = sym e ∙ f in absurd cc

  of_print : (text : List ℕ) → IsToldAs (told bundle) text → IsPrintAnswer text a → IsReply told Failed words a
  unfolding IsPrintAnswer
  of_print text is_told (inl h) = record { reply = answer (refused h.0); has = (show bundle, e, (text, is_told, h.1)); is = h.2; true = λ y. no_claim }
  of_print text is_told (inr h) = record { reply = answer (printed h.0); has = (show bundle, e, (text, is_told, h.1)); is = h.2; true = λ y. no_claim }

  of_show : IsShowAnswer told Failed bundle a → IsReply told Failed words a
  unfolding IsShowAnswer
  of_show (inl h) = record { reply = unread bundle; has = (show bundle, e, (h.0, refl)); is = h.1; true = λ y. no_claim }
  of_show (inr h) = of_print h.0 h.1 h.2

  pub shown_answer : IsShowAnswer told Failed bundle a → IsWordsAnswer told Failed words a
  unfolding IsWordsAnswer
  shown_answer h = of_show h

pub usage_answer : (told : List ℕ → Told) (Failed : List ℕ → Type 0) (words : Words) (a : Answer)
    → ((bundle proof : List ℕ) → words ≢ words_of (check bundle proof)) → ((bundle : List ℕ) → words ≢ words_of (show bundle)) → a ≡ answer_of usage
    → IsWordsAnswer told Failed words a
unfolding IsWordsAnswer
usage_answer told Failed words a no_check no_show is = record { reply = usage; has = none; is = is; true = λ y. absurd cc }
  where
    none : (c : Command) → words ≢ words_of c
    none (check bundle proof) = no_check bundle proof
    none (show bundle) = no_show bundle

-- ---- what is printed

Appends_trans : (a b c : Option (List ℕ)) (x y : List ℕ) → Appends a b x → Appends b c y → Appends a c (x ++ y)
Appends_trans None b c x y p q = tt
Appends_trans (Some s) b c x y p q =
    let r : c ≡ Some ((s ++ x) ++ y) = subst (λ o. Appends o c y) p q in
    r ∙ ap Some (append_assoc s x y)

Appends_none : (a : Option (List ℕ)) → Appends a a []
Appends_none None = tt
Appends_none (Some s) = ap Some (sym (append-nil s))

pub printed_none : (w : Option (List ℕ)) (f : ℕ) (lines : List (List ℕ)) → IsPrinted (output w w f f) (take 0 lines)
printed_none w f lines = record { all = Appends_none w; quiet = refl }

concat_one : (xs : List (List ℕ)) (x : List ℕ) → concat (xs ++ x ∷ []) ≡ concat xs ++ x
concat_one xs x = concat-append xs (x ∷ []) ∙ ap (λ y. concat xs ++ y) (append-nil x)

-- the line that a loop is at
pub line_is : (piece text line : List ℕ) (items lines : List (List ℕ)) (i : ℕ) → piece ≡ text → text ≡ line → line ≡ get_or items i line → items ≡ lines → piece ≡ get_or lines i piece
line_is piece text line items lines i p q e same = let r = p ∙ q in r ∙ e ∙ (λ j. get_or (same j) i (sym r j))

pub on_err : {T E : Type 0} (r : Result T E) (P : Type 0) → P → OnErr r P
on_err (Ok x) P p = tt
on_err (Err e) P p = p

module _ (old mid new : Option (List ℕ)) (f g h : ℕ) (lines : List (List ℕ)) (i : ℕ) (line : List ℕ)
    (within : i < length lines) (is_line : line ≡ get_or lines i line) (before : IsPrinted (output old mid f g) (take i lines)) where
  abbrev front : List ℕ
  front = concat (take i lines)

  one_more : concat (take (i + 1) lines) ≡ front ++ line
  one_more = ap concat (take_more lines i line within) ∙ concat_one (take i lines) (get_or lines i line) ∙ ap (λ x. front ++ x) (sym is_line)

  pub printed_more : Appends mid new line → h ≡ g → IsPrinted (output old new f h) (take (i + 1) lines)
  printed_more p quiet = record {
    all = subst (Appends old new) (sym one_more) (Appends_trans old mid new front line before.all p);
    quiet = quiet ∙ before.quiet;
  }

  whole : concat lines ≡ (front ++ line) ++ concat (drop (i + 1) lines)
  whole = ap concat (sym (take-append-drop (i + 1) lines)) ∙ concat-append (take (i + 1) lines) (drop (i + 1) lines) ∙ ap (λ x. x ++ concat (drop (i + 1) lines)) one_more

  pub cut_off : AppendsFront mid new line → Rose g h → IsCutOff (output old new f h) lines
  cut_off p rose =
      let n = length front + p.0 in
      let some : n ≤ length (front ++ line) = let fits = p.1 in omega (arith, fits, length-append front line) in
      let taken : take n (concat lines) ≡ front ++ take p.0 line =
      ap (take n) whole ∙ take-append-le n (front ++ line) (concat (drop (i + 1) lines)) some ∙ take-append-add front line p.0 in
      let all : n ≤ length (concat lines) =
      let long = ap length whole in omega (arith, some, long, length-append (front ++ line) (concat (drop (i + 1) lines))) in
      record {
        front = (n, all, subst (Appends old new) (sym taken) (Appends_trans old mid new front (take p.0 line) before.all p.2));
        failed = subst (λ m. Rose m h) before.quiet rose;
      }

pub printed_all : (old new : Option (List ℕ)) (f g : ℕ) (lines : List (List ℕ)) (i : ℕ) → length lines ≤ i → IsPrinted (output old new f g) (take i lines) → IsPrinted (output old new f g) lines
printed_all old new f g lines i past h = subst (IsPrinted (output old new f g)) (take_all i lines past) h

pub all_printed : (out : Output) (a : Answer) → IsPrinted out a.lines → IsPrintedAs out a a.status
unfolding IsPrintedAs
all_printed out a h = inl (refl, h)

pub not_printed : (out : Output) (a : Answer) → IsCutOff out a.lines → IsPrintedAs out a OutputFault
unfolding IsPrintedAs
not_printed out a h = inr (refl, h)

-- ---- the end

ends_as : (r : Reply) (out : Output) → IsPrinted out (lines_of r) → EndsWith r out (status_of r)
ends_as usage out p = (refl, p)
ends_as (unread name) out p = (refl, p)
ends_as (answer (refused r)) out p = (refl, p)
ends_as (answer (ill_typed f)) out p = (refl, p)
ends_as (answer not_built) out p = (refl, p)
ends_as (answer (printed b)) out p = (refl, p)
ends_as (answer (judged k no_proof)) out p = (refl, p)
ends_as (answer (judged k (bad_step n))) out p = (refl, p)
ends_as (answer (judged k (open_nodes n))) out p = (refl, p)
ends_as (answer (judged k accepted)) out p = (refl, p)

ends_with : (r : Reply) (out : Output) (a : Answer) (status : Status) → a ≡ answer_of r → IsPrintedAs out a status → EndsWith r out status
unfolding IsPrintedAs
ends_with r out a status is (inl h) =
    subst (EndsWith r out) (sym (h.0 ∙ ap (λ b. b.status) is)) (ends_as r out (subst (IsPrinted out) (ap (λ b. b.lines) is) h.1))
ends_with r out a status is (inr h) = subst (EndsWith r out) (sym h.0) (subst (IsCutOff out) (ap (λ b. b.lines) is) h.1)

pub not_unread : (out : Output) (a : Answer) (status : Status) → IsPrintedAs out a status → status ≢ FileFault → status ≢ OutputFault → a.status ≢ FileFault
unfolding IsPrintedAs
not_unread out a status (inl p) read put e = read (p.0 ∙ e)
not_unread out a status (inr p) read put e = put p.0

-- a reply is the verdict, where the files are told and no read failed
is_verdict : (told : List ℕ → Told) (Failed : List ℕ → Type 0) (words : Words) (r : Reply) → HasReply told Failed words r
    → (c : Command) (v : Verdict) → words ≡ words_of c → AreTold told c → ((name : List ℕ) → ¬ (Failed name)) → HasVerdict told c v → r ≡ answer v
is_verdict told Failed words usage has c v e are none h = absurd (has c e)
is_verdict told Failed words (unread name) has c v e are none h = absurd (failed has.0 has.2)
  where
    failed : (d : Command) → IsUnread told Failed d name → ⊥
    failed (check bundle proof) f = none name f.0
    failed (show bundle) f = none name f.0
is_verdict told Failed words (answer w) has c v e are none h =
    ap answer (one_verdict told c are w v (subst (λ d. HasVerdict told d w) (same_command has.0 c words has.1 e) has.2) h)

module _ (told : List ℕ → Told) (Failed : List ℕ → Type 0) (words : Words) (out : Output) where
  pub ends_well : (a : Answer) (status : Status) → IsWordsAnswer told Failed words a → IsPrintedAs out a status → Ends (HasReply told Failed words) out status
  unfolding IsWordsAnswer Ends
  ends_well a status h p = inr (h.reply, h.has, ends_with h.reply out a status h.is p)

  pub decided_well : (a : Answer) (status : Status) (FilesFailed : Type 0) → ((name : List ℕ) → Failed name → FilesFailed) → IsWordsAnswer told Failed words a → IsPrintedAs out a status → IsDecided told FilesFailed words out status
  unfolding IsWordsAnswer IsDecided
  decided_well a status FilesFailed failed h p c v e are none has =
      let same = is_verdict told Failed words h.reply h.has c v e are (λ name f. none (failed name f)) has in (
        subst (λ r. EndsWith r out status) same (ends_with h.reply out a status h.is p),
        λ w other. one_verdict told c are w v other has,
      )

  pub yes_well : (a : Answer) (status : Status) → IsWordsAnswer told Failed words a → IsPrintedAs out a status → status ≡ Yes → IsYes told words
  unfolding IsWordsAnswer IsPrintedAs
  yes_well a status h (inl p) e = h.true (sym p.0 ∙ e)
  yes_well a status h (inr p) e = absurd cc

  pub no_memory : IsSilent out → Ends (HasReply told Failed words) out Memory
  unfolding Ends
  no_memory silent = inl (refl, silent)

pub undecided : (told : List ℕ → Told) (FilesFailed : Type 0) (words : Words) (out : Output) → IsSilent out → IsDecided told FilesFailed words out Memory
unfolding IsDecided
undecided told FilesFailed words out silent c v e are none has = (silent, λ w other. one_verdict told c are w v other has)
