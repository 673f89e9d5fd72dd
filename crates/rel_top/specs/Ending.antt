-- How a call of `run` ends: which answer comes where, and what it prints.
use Rattle.std.specs.Prelude.{◌≡◌, ◌≢◌, ◌⊎◌, ℕ, List, [], ◌∷◌, Option}
use Rattle.std.specs.List.{concat}
use Rattle.rel_io.specs.Told.{Told, untold, Rose, Appends, AppendsFront}
use Rattle.rel_top.specs.Report.{usage_line, fault_line}
use Rattle.rel_top.specs.Verdict.{IsBuilt, Verdict, MayHold, Command, check, show, words_of, HasVerdict, verdict_status, verdict_lines}
use Rattle.rel_linking.specs.Form.{Parts}
use Rattle.rel_top.specs.declared.status.Status.{Status}
use Rattle.rel_top.specs.declared.status.Status.TheVariants.{Yes, Refused, Usage, FileFault, OutputFault, Memory, Unproved}

abbrev pub Words : Type 0
Words = List (List ℕ)

-- what a call comes to: the words are no command, a file couldn't be read, or there is a verdict
pub data Reply : Type 0 where
  usage : Reply
  unread : List ℕ → Reply
  answer : Verdict → Reply

-- the counts of faults before and after a call, in all and of reads at each name, rose in all and at this name
abbrev pub ReadFailed : ℕ → ℕ → (List ℕ → ℕ) → (List ℕ → ℕ) → List ℕ → Type 0
ReadFailed faults new_faults reads new_reads name = Rose faults new_faults × Rose (reads name) (new_reads name)

-- a read of the file of this name failed: the bundle's, or the proof's, which isn't read before the bundle can be judged
abbrev pub IsUnread : (List ℕ → Told) → (List ℕ → Type 0) → Command → List ℕ → Type 0
IsUnread told Failed (check bundle proof) name =
    Failed name × ((name ≡ bundle) ⊎ ((name ≡ proof) × ((k : Parts) × MayHold (told bundle) (λ text. IsBuilt text k))))
IsUnread told Failed (show bundle) name = Failed name × (name ≡ bundle)

-- The reply to these words comes only so, of files that tell this and of which the reads at these names failed.
abbrev pub HasReply : (List ℕ → Told) → (List ℕ → Type 0) → Words → Reply → Type 0
HasReply told Failed words usage = (c : Command) → words ≢ words_of c
HasReply told Failed words (unread name) = (c : Command) × (words ≡ words_of c) × IsUnread told Failed c name
HasReply told Failed words (answer v) = (c : Command) × (words ≡ words_of c) × HasVerdict told c v

abbrev pub status_of : Reply → Status
status_of usage = Usage
status_of (unread name) = FileFault
status_of (answer v) = verdict_status v

abbrev pub lines_of : Reply → List (List ℕ)
lines_of usage = usage_line ∷ []
lines_of (unread name) = fault_line name ∷ []
lines_of (answer v) = verdict_lines v

-- what the output was given before and after the call, and its count of faults
pub record Output : Type 0 where
  pub written : Option (List ℕ)
  pub new_written : Option (List ℕ)
  pub faults : ℕ
  pub new_faults : ℕ

abbrev pub output : Option (List ℕ) → Option (List ℕ) → ℕ → ℕ → Output
output written new_written faults new_faults = record { written = written; new_written = new_written; faults = faults; new_faults = new_faults }

-- all lines were put, and no put failed
pub record IsPrinted (out : Output) (lines : List (List ℕ)) : Type 0 where
  pub all : Appends out.written out.new_written (concat lines)
  pub quiet : out.new_faults ≡ out.faults

-- a put failed, and nothing behind it was put
pub record IsCutOff (out : Output) (lines : List (List ℕ)) : Type 0 where
  pub front : AppendsFront out.written out.new_written (concat lines)
  pub failed : Rose out.faults out.new_faults

-- nothing was put
pub record IsSilent (out : Output) : Type 0 where
  pub nothing : out.new_written ≡ out.written
  pub quiet : out.new_faults ≡ out.faults

-- The lines of the reply were printed and the status is the reply's, or a put failed, or there was no memory.
abbrev pub EndsWith : Reply → Output → Status → Type 0
EndsWith r out Yes = (status_of r ≡ Yes) × IsPrinted out (lines_of r)
EndsWith r out Refused = (status_of r ≡ Refused) × IsPrinted out (lines_of r)
EndsWith r out Usage = (status_of r ≡ Usage) × IsPrinted out (lines_of r)
EndsWith r out FileFault = (status_of r ≡ FileFault) × IsPrinted out (lines_of r)
EndsWith r out OutputFault = IsCutOff out (lines_of r)
EndsWith r out Memory = IsSilent out
EndsWith r out Unproved = ⊥

-- There was no memory, or the call ends with a reply that comes where it may.
unfoldable pub Ends : (Reply → Type 0) → Output → Status → Type 0
Ends Has out status = ((status ≡ Memory) × IsSilent out) ⊎ ((r : Reply) × Has r × EndsWith r out status)

-- something is told of each file that the command names
abbrev pub AreTold : (List ℕ → Told) → Command → Type 0
AreTold told (check bundle proof) = (told bundle ≢ untold) × (told proof ≢ untold)
AreTold told (show bundle) = told bundle ≢ untold

-- Where the files are told and no read failed, the call ends with the verdict on them, and there is no other one.
unfoldable pub IsDecided : (List ℕ → Told) → Type 0 → Words → Output → Status → Type 0
IsDecided told FilesFailed words out status =
    (c : Command) (v : Verdict) → words ≡ words_of c → AreTold told c → ¬ FilesFailed → HasVerdict told c v
    → EndsWith (answer v) out status × ((w : Verdict) → HasVerdict told c w → w ≡ v)
