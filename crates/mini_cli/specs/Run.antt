-- What the status of a run over JSON says of what was read and written.
use Rattle.std.specs.Prelude.{◌≡◌, ℕ, ◌<◌, ◌≤◌, ◌⊎◌, List, [], ◌∷◌, ◌++◌, length, codes, Option, Some, None, string_bytes, IsUtf8}
use Rattle.std.specs.Io.KnownBytes.{Appends, Consumes, IsAtEnd}
use Rattle.serde_json.specs.Data.{Data}
use Rattle.serde_json.specs.Read.{read}
use Rattle.mini_model.specs.Faults.{Fault, name_of_defect}
use Rattle.mini_run.specs.Causes.{Rose, GrewWithin}
use Rattle.mini_cli.specs.declared.answering.Refusal.{Refusal}
use Rattle.mini_cli.specs.declared.answering.Refusal.TheVariants as refusal
use Rattle.mini_cli.specs.declared.running.Outcome.{Outcome}
use Rattle.mini_cli.specs.declared.running.Outcome.TheVariants.{Answer, Unread, Faulty, NoRoom}
use Rattle.mini_cli.specs.declared.status.Status.{Status}
use Rattle.mini_cli.specs.declared.status.Status.TheVariants.{Done, BadWords, NotJson, Refused, ReadFault, WriteFault, TooLong, OutOfMemory}

-- the number that the process ends with
abbrev pub code_of : Status → ℕ
code_of Done = 0
code_of BadWords = 1
code_of NotJson = 2
code_of Refused = 3
code_of ReadFault = 4
code_of WriteFault = 5
code_of TooLong = 6
code_of OutOfMemory = 7

-- what a run makes of a value: which texts are an answer, and which lines tell why there is none
pub record Task : Type 1 where
  pub answers : Data → List ℕ → Type 0
  pub refuses : Data → List ℕ → Type 0

-- the line of a refusal; want of memory has none
abbrev pub IfTold : Refusal → (List ℕ → Type 0) → Type 0
IfTold refusal.OutOfMemory P = Unit {0}
IfTold (refusal.Told line) P = P (string_bytes line)

-- a line of the notes: the name of a defect, and the place that has it
unfoldable pub note_line : List ℕ → List ℕ → List ℕ
note_line defect place = codes "refused: " ++ (defect ++ (codes " at " ++ (place ++ 10 ∷ [])))

-- the line of a fault of reading
abbrev pub note_of : Fault → List ℕ
note_of f = note_line (name_of_defect f.defect) f.at

-- ---- the input

abbrev pub IsNotJson : List ℕ → Type 0
IsNotJson input = IsUtf8 input → read input ≡ None

-- the bytes are JSON of a value of which this holds
pub record IsJsonOf (P : Data → Type 0) (input : List ℕ) : Type 0 where
  pub value : Data
  pub reads : read input ≡ Some value
  pub holds : P value

-- the text is an answer to the value that the bytes say
abbrev pub HasAnswer : Task → List ℕ → List ℕ → Type 0
HasAnswer t input text = IsJsonOf (λ d. t.answers d text) input

-- the line tells why that value has no answer
abbrev pub HasFault : Task → List ℕ → List ℕ → Type 0
HasFault t input line = IsJsonOf (λ d. t.refuses d line) input

-- what a whole input comes to
abbrev pub IsOutcome : Task → List ℕ → Outcome → Type 0
IsOutcome t input NoRoom = Unit {0}
IsOutcome t input Unread = IsNotJson input
IsOutcome t input (Faulty line) = HasFault t input (string_bytes line)
IsOutcome t input (Answer text) = HasAnswer t input (string_bytes text)

-- ---- sources and sinks

-- what a source or a sink told, and how often it had failed, before a call and after it
pub record Change : Type 0 where
  pub before : Option (List ℕ)
  pub after : Option (List ℕ)
  pub faults_before : ℕ
  pub faults_after : ℕ

abbrev pub changed : Option (List ℕ) → Option (List ℕ) → ℕ → ℕ → Change
changed old new faults_old faults_new = record { before = old; after = new; faults_before = faults_old; faults_after = faults_new }

-- no call was made
pub record IsUntouched (c : Change) : Type 0 where
  pub bytes : c.after ≡ c.before
  pub faults : c.faults_after ≡ c.faults_before

-- all of the line was written, unless the sink failed: then a beginning
pub record IsTold (c : Change) (line : List ℕ) : Type 0 where
  pub part : GrewWithin c.before c.after line
  pub all : Rose c.faults_before c.faults_after ⊎ Appends c.before c.after line

-- the source gave just these bytes, and its end
pub record Gave (source : Change) (input : List ℕ) : Type 0 where
  pub bytes : Consumes source.before source.after input
  pub end : IsAtEnd source.after
  pub short : length input ≤ 16777216

-- the source gave these bytes, more than are read
pub record GaveMore (source : Change) (input : List ℕ) : Type 0 where
  pub bytes : Consumes source.before source.after input
  pub long : 16777216 < length input

-- ---- the status

-- what came of an outcome: its text was written, or its line told
abbrev pub IsFinished : Outcome → Status → Change → Change → Type 0
IsFinished NoRoom OutOfMemory sink notes = IsUntouched sink × IsUntouched notes
IsFinished Unread NotJson sink notes = IsUntouched sink × IsUntouched notes
IsFinished (Faulty line) Refused sink notes = IsTold notes (string_bytes line) × IsUntouched sink
IsFinished (Answer text) Done sink notes = Appends sink.before sink.after (string_bytes text) × IsUntouched notes
IsFinished (Answer text) WriteFault sink notes = GrewWithin sink.before sink.after (string_bytes text) × Rose sink.faults_before sink.faults_after × IsUntouched notes
IsFinished _ _ sink notes = ⊥

-- what a status says of a whole input, and of what was written
abbrev pub IsDelivered : Task → Status → List ℕ → Change → Change → Type 0
IsDelivered t Done input sink notes = (text : List ℕ) × HasAnswer t input text × Appends sink.before sink.after text × IsUntouched notes
IsDelivered t WriteFault input sink notes = (text : List ℕ) × HasAnswer t input text × GrewWithin sink.before sink.after text × Rose sink.faults_before sink.faults_after × IsUntouched notes
IsDelivered t NotJson input sink notes = IsNotJson input × IsUntouched sink × IsUntouched notes
IsDelivered t Refused input sink notes = (line : List ℕ) × HasFault t input line × IsTold notes line × IsUntouched sink
IsDelivered t OutOfMemory input sink notes = IsUntouched sink × IsUntouched notes
IsDelivered t BadWords input sink notes = ⊥
IsDelivered t ReadFault input sink notes = ⊥
IsDelivered t TooLong input sink notes = ⊥

-- what a status says of a run that reads all that a source gives
abbrev pub IsReadDue : Task → Status → Change → Change → Change → Type 0
IsReadDue t BadWords source sink notes = ⊥
IsReadDue t ReadFault source sink notes = Rose source.faults_before source.faults_after × IsUntouched sink × IsUntouched notes
IsReadDue t TooLong source sink notes = ((input : List ℕ) × GaveMore source input) × IsUntouched sink × IsUntouched notes
IsReadDue t OutOfMemory source sink notes = IsUntouched sink × IsUntouched notes
IsReadDue t s source sink notes = (input : List ℕ) × Gave source input × IsDelivered t s input sink notes

-- what a status says of a run whose words name options, of which each is a task
module _ {O : Type 0} where
  abbrev pub IsDue : (List (List ℕ) → O → Type 0) → (O → Task) → Status → List (List ℕ) → Change → Change → Change → Type 0
  IsDue names task BadWords words source sink notes = ((o : O) → names words o → ⊥) × IsUntouched source × IsUntouched sink × IsUntouched notes
  IsDue names task s words source sink notes = (o : O) × names words o × IsReadDue (task o) s source sink notes

-- ---- a valid input

-- The source tells its bytes, which aren't too many; and they are JSON of a value that no line
-- refuses.
pub record IsValidInput (t : Task) (before : Option (List ℕ)) : Type 0 where
  pub input : List ℕ
  pub there : before ≡ Some input
  pub short : length input ≤ 16777216
  pub utf8 : IsUtf8 input
  pub value : Data
  pub reads : read input ≡ Some value
  pub free : (line : List ℕ) → t.refuses value line → ⊥

-- the answer was written, unless memory ran out, or the source or the sink failed, as their counts
-- of faults show
abbrev pub IsAnswered : Status → ℕ → ℕ → ℕ → ℕ → Type 0
IsAnswered Done source_before source_after sink_before sink_after = Unit {0}
IsAnswered OutOfMemory source_before source_after sink_before sink_after = Unit {0}
IsAnswered ReadFault source_before source_after sink_before sink_after = Rose source_before source_after
IsAnswered WriteFault source_before source_after sink_before sink_after = Rose sink_before sink_after
IsAnswered _ source_before source_after sink_before sink_after = ⊥
