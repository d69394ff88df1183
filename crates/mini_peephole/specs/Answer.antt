-- What a run answers, and when.
use Rattle.std.specs.Prelude.{◌≡◌, ℕ, ◌<◌, ◌≤◌, ◌⊎◌, List, [], ◌∷◌, ◌++◌, length, codes, map, Bool, decimal, if◌then◌else◌, Option, Some, None, Ok, IfSome, string_bytes, IsUtf8}
use Rattle.std.specs.Io.KnownBytes.{Appends, Consumes, IsAtEnd}
use Rattle.serde_json.specs.Data.{Data, Members, unsigned, number, boolean, array, object, no_members, member}
use Rattle.serde_json.specs.View.{view, items_of}
use Rattle.serde_json.specs.Written.{compact_text}
use Rattle.serde_json.specs.Read.{read}
use Rattle.mini_model.specs.Tree.{Tree}
use Rattle.mini_model.specs.Weight.{program_weight}
use Rattle.mini_tree.specs.declared.options.CompressOptions.{CompressOptions}
use Rattle.mini_accept.specs.Accept.{program_at, Accepts}
use Rattle.mini_scope.specs.Pointers.{early_fault}
use Rattle.mini_model.specs.Faults.{Fault, fault_of, name_of_defect}
use Rattle.mini_peephole.specs.ComesBack.{ComesBack}
use Rattle.mini_peephole.specs.Faithful.{earlier, later, Faithful, PassesBounded}
use Rattle.mini_peephole.specs.Minified.{IsMinified, HasDefect}
use Rattle.mini_peephole.specs.declared.minify.Minified.{Minified}
use Rattle.mini_run.specs.Causes.{Rose, GrewWithin}
use Rattle.mini_run.specs.Generated.{generated_data}
use Rattle.mini_run.specs.Words.{NameOrders, GoodWords}
use Rattle.mini_run.specs.declared.choice.Orders.{Orders}
use Rattle.mini_peephole.specs.declared.running.Outcome.{Outcome}
use Rattle.mini_peephole.specs.declared.running.Outcome.TheVariants.{Answer, Unread, Faulty, NoRoom}
use Rattle.mini_peephole.specs.declared.running.Status.{Status}
use Rattle.mini_peephole.specs.declared.running.Status.TheVariants.{Done, BadWords, NotJson, Refused, ReadFault, WriteFault, TooLong, OutOfMemory}

-- the number that the process ends with
abbrev pub code_of : Status → ℕ
code_of Done = 0
code_of BadWords = 1
code_of NotJson = 2
code_of Refused = 3
code_of ReadFault = 4
code_of WriteFault = 5
code_of TooLong = 6
code_of OutOfMemory = 7

-- compact JSON, and a newline
unfoldable pub line_of : Data → List ℕ
line_of d = compact_text d ++ 10 ∷ []

abbrev pub numbers_data : List ℕ → Data
numbers_data ns = array (items_of (map (λ n. number (unsigned n)) ns))

-- what is told of an answer besides its program
abbrev pub told_members : Minified → Members
told_members m = member (codes "kept") (numbers_data m.kept) (member (codes "passes") (number (unsigned m.passes)) (member (codes "settled") (boolean m.settled) (member (codes "symbols") (numbers_data m.symbols) no_members)))

abbrev pub answer_data : Minified → Data
answer_data m = object (member (codes "kept") (numbers_data m.kept) (member (codes "passes") (number (unsigned m.passes)) (member (codes "program") (view m.program) (member (codes "settled") (boolean m.settled) (member (codes "symbols") (numbers_data m.symbols) no_members)))))

-- what is written for an answer
abbrev pub answer_text : Minified → List ℕ
answer_text m = line_of (answer_data m)

-- what is told of a script that was generated: how many statements it has, what it weighed before
-- and after, how many passes were made, and whether nothing was left to rewrite
abbrev pub truth_text : Bool → List ℕ
truth_text b = if b then codes "true" else codes "false"

unfoldable pub weights_text : ℕ → ℕ → ℕ → ℕ → Bool → List ℕ
weights_text n before after passes settled =
    codes "statements=" ++ (decimal n ++ (codes " weight=" ++ (decimal before ++ (codes ".." ++ (decimal after ++ (codes " passes=" ++ (decimal passes ++ (codes " settled=" ++ (truth_text settled ++ 10 ∷ [])))))))))

-- what is told of a fault
unfoldable pub note_text : Fault → List ℕ
note_text f = codes "refused: " ++ (name_of_defect f.defect ++ (codes " at " ++ (f.at ++ 10 ∷ [])))

abbrev pub IsNotJson : List ℕ → Type 0
IsNotJson input = IsUtf8 input → read input ≡ None

-- the bytes are JSON, of a program to which this answer is faithful, and from which it was made by
-- rewrites; given again, it comes back
pub record HasAnswer (o : CompressOptions) (input : List ℕ) (m : Minified) : Type 0 where
  pub value : Data
  pub reads : read input ≡ Some value
  pub faithful : Faithful value o m
  pub passes : PassesBounded value o m
  pub minified : IsMinified value o m
  pub again : ComesBack o m

-- of a value this is an answer that is faithful and was made by rewrites, and its program and the
-- answer's weigh this
pub record IsWeighed (d : Data) (o : CompressOptions) (m : Minified) (before after : ℕ) : Type 0 where
  pub faithful : Faithful d o m
  pub passes : PassesBounded d o m
  pub minified : IsMinified d o m
  pub before_is : (t : Tree) → Accepts d t → before ≡ program_weight (earlier t)
  pub after_is : (u : Tree) → Accepts (view m.program) u → after ≡ program_weight (later m u)

-- the bytes are JSON, of a value that has this defect
pub record HasFault (o : CompressOptions) (input : List ℕ) (f : Fault) : Type 0 where
  pub value : Data
  pub reads : read input ≡ Some value
  pub defect : HasDefect value o f

-- what is an answer to bytes, under some options
abbrev pub Answering : Type 1
Answering = CompressOptions → List ℕ → Minified → Type 0

-- what a whole input comes to
abbrev pub IsOutcome : Answering → CompressOptions → List ℕ → Outcome → Type 0
IsOutcome A o input NoRoom = Unit {0}
IsOutcome A o input Unread = IsNotJson input
IsOutcome A o input (Faulty e) = (f : Fault) × HasFault o input f × (fault_of e ≡ Some f)
IsOutcome A o input (Answer s) = (m : Minified) × A o input m × (string_bytes s ≡ answer_text m)

-- what the script of n statements comes to
abbrev pub IsOutcomeOf : CompressOptions → ℕ → Outcome → Type 0
IsOutcomeOf o n NoRoom = Unit {0}
IsOutcomeOf o n Unread = ⊥
IsOutcomeOf o n (Faulty e) = (f : Fault) × HasDefect (generated_data n) o f × (fault_of e ≡ Some f)
IsOutcomeOf o n (Answer s) = (m : Minified) × (before : ℕ) × (after : ℕ) × IsWeighed (generated_data n) o m before after × (string_bytes s ≡ weights_text n before after m.passes m.settled)

-- what a source or a sink told, and how often it had failed, before a call and after it
pub record Change : Type 0 where
  pub before : Option (List ℕ)
  pub after : Option (List ℕ)
  pub faults_before : ℕ
  pub faults_after : ℕ

-- no call was made
pub record IsUntouched (c : Change) : Type 0 where
  pub bytes : c.after ≡ c.before
  pub faults : c.faults_after ≡ c.faults_before

-- all of the line was written, unless the sink failed: then a beginning
pub record IsTold (c : Change) (line : List ℕ) : Type 0 where
  pub part : GrewWithin c.before c.after line
  pub all : Rose c.faults_before c.faults_after ⊎ Appends c.before c.after line

-- the source gave just these bytes, and its end
pub record Gave (source : Change) (input : List ℕ) : Type 0 where
  pub bytes : Consumes source.before source.after input
  pub end : IsAtEnd source.after
  pub short : length input ≤ 16777216

-- the source gave these bytes, more than are read
pub record GaveMore (source : Change) (input : List ℕ) : Type 0 where
  pub bytes : Consumes source.before source.after input
  pub long : 16777216 < length input

-- what came of an outcome: what it has was written, or told
abbrev pub IsFinished : Outcome → Status → Change → Change → Type 0
IsFinished NoRoom OutOfMemory sink notes = IsUntouched sink × IsUntouched notes
IsFinished Unread NotJson sink notes = IsUntouched sink × IsUntouched notes
IsFinished (Faulty e) Refused sink notes = IfSome (fault_of e) (λ f. IsTold notes (note_text f)) × IsUntouched sink
IsFinished (Faulty e) OutOfMemory sink notes = IsUntouched sink × IsUntouched notes
IsFinished (Answer s) Done sink notes = Appends sink.before sink.after (string_bytes s) × IsUntouched notes
IsFinished (Answer s) WriteFault sink notes = GrewWithin sink.before sink.after (string_bytes s) × Rose sink.faults_before sink.faults_after × IsUntouched notes
IsFinished _ _ sink notes = ⊥

-- what a status says of a whole input, read under these options, and of what was written
abbrev pub IsDelivered : Answering → Status → CompressOptions → List ℕ → Change → Change → Type 0
IsDelivered A Done o input sink notes = (m : Minified) × A o input m × Appends sink.before sink.after (answer_text m) × IsUntouched notes
IsDelivered A WriteFault o input sink notes = (m : Minified) × A o input m × GrewWithin sink.before sink.after (answer_text m) × Rose sink.faults_before sink.faults_after × IsUntouched notes
IsDelivered A NotJson o input sink notes = IsNotJson input × IsUntouched sink × IsUntouched notes
IsDelivered A Refused o input sink notes = (f : Fault) × HasFault o input f × IsTold notes (note_text f) × IsUntouched sink
IsDelivered A OutOfMemory o input sink notes = IsUntouched sink × IsUntouched notes
IsDelivered A BadWords o input sink notes = ⊥
IsDelivered A ReadFault o input sink notes = ⊥
IsDelivered A TooLong o input sink notes = ⊥

-- what a status says of the script of n statements, under these options, and of what was written
abbrev pub IsDeliveredOf : Status → CompressOptions → ℕ → Change → Change → Type 0
IsDeliveredOf Done o n sink notes = (m : Minified) × (before : ℕ) × (after : ℕ) × IsWeighed (generated_data n) o m before after × Appends sink.before sink.after (weights_text n before after m.passes m.settled) × IsUntouched notes
IsDeliveredOf WriteFault o n sink notes = (m : Minified) × (before : ℕ) × (after : ℕ) × IsWeighed (generated_data n) o m before after × GrewWithin sink.before sink.after (weights_text n before after m.passes m.settled) × Rose sink.faults_before sink.faults_after × IsUntouched notes
IsDeliveredOf Refused o n sink notes = (f : Fault) × HasDefect (generated_data n) o f × IsTold notes (note_text f) × IsUntouched sink
IsDeliveredOf OutOfMemory o n sink notes = IsUntouched sink × IsUntouched notes
IsDeliveredOf s o n sink notes = ⊥

-- what the words order: to read a program, or to generate one of n statements
abbrev pub to_read : CompressOptions → Orders
to_read o = record { options = o; generate = None }

abbrev pub to_generate : CompressOptions → ℕ → Orders
to_generate o n = record { options = o; generate = Some n }

-- all was read, under the options that the words name, and the status tells what came of it
abbrev pub IsDueOfRead : Answering → Status → List (List ℕ) → Change → Change → Change → Type 0
IsDueOfRead A s words source sink notes = (o : CompressOptions) × NameOrders words (to_read o) × (input : List ℕ) × Gave source input × IsDelivered A s o input sink notes

-- nothing was read, and the status tells what came of the script
abbrev pub IsDueOfScript : Status → List (List ℕ) → Change → Change → Change → Type 0
IsDueOfScript s words source sink notes = (o : CompressOptions) × (n : ℕ) × NameOrders words (to_generate o n) × IsUntouched source × IsDeliveredOf s o n sink notes

abbrev pub IsDueOfAll : Status → List (List ℕ) → Change → Change → Change → Type 0
IsDueOfAll s words source sink notes = IsDueOfRead HasAnswer s words source sink notes ⊎ IsDueOfScript s words source sink notes

-- the words are good, and order to read
abbrev pub AskToRead : List (List ℕ) → Type 0
AskToRead words = (o : CompressOptions) × NameOrders words (to_read o)

-- what a status says of a run that reads, and generates nothing
abbrev pub IsReadDue : Answering → Status → List (List ℕ) → Change → Change → Change → Type 0
IsReadDue A BadWords words source sink notes = (AskToRead words → ⊥) × IsUntouched source × IsUntouched sink × IsUntouched notes
IsReadDue A ReadFault words source sink notes = AskToRead words × Rose source.faults_before source.faults_after × IsUntouched sink × IsUntouched notes
IsReadDue A TooLong words source sink notes = AskToRead words × ((input : List ℕ) × GaveMore source input) × IsUntouched sink × IsUntouched notes
IsReadDue A OutOfMemory words source sink notes = AskToRead words × IsUntouched sink × IsUntouched notes
IsReadDue A s words source sink notes = IsDueOfRead A s words source sink notes

-- what a status says of a run
abbrev pub IsDue : Status → List (List ℕ) → Change → Change → Change → Type 0
IsDue BadWords words source sink notes = (GoodWords words → ⊥) × IsUntouched source × IsUntouched sink × IsUntouched notes
IsDue ReadFault words source sink notes = AskToRead words × Rose source.faults_before source.faults_after × IsUntouched sink × IsUntouched notes
IsDue TooLong words source sink notes = AskToRead words × ((input : List ℕ) × GaveMore source input) × IsUntouched sink × IsUntouched notes
IsDue OutOfMemory words source sink notes = GoodWords words × IsUntouched sink × IsUntouched notes
IsDue Done words source sink notes = IsDueOfAll Done words source sink notes
IsDue WriteFault words source sink notes = IsDueOfAll WriteFault words source sink notes
IsDue NotJson words source sink notes = IsDueOfRead HasAnswer NotJson words source sink notes
IsDue Refused words source sink notes = IsDueOfAll Refused words source sink notes

-- The words are good; the source tells its bytes, which aren't too many; and they are JSON of a
-- program that is read under the options that the words name, and has no early error.
pub record IsValidInput (words : List (List ℕ)) (before : Option (List ℕ)) : Type 0 where
  pub options : CompressOptions
  pub name : NameOrders words (to_read options)
  pub input : List ℕ
  pub there : before ≡ Some input
  pub short : length input ≤ 16777216
  pub utf8 : IsUtf8 input
  pub value : Data
  pub reads : read input ≡ Some value
  pub program : Tree
  pub numbers : ℕ
  pub accepted : program_at options.max_depth value ≡ Ok (program, numbers)
  pub free : early_fault program ≡ None

-- The words are good and order the script of n statements, which is read under their options and
-- has no early error.
pub record IsValidScript (words : List (List ℕ)) : Type 0 where
  pub options : CompressOptions
  pub statements : ℕ
  pub name : NameOrders words (to_generate options statements)
  pub program : Tree
  pub numbers : ℕ
  pub accepted : program_at options.max_depth (generated_data statements) ≡ Ok (program, numbers)
  pub free : early_fault program ≡ None

-- the answer was written, unless memory ran out, or the source or the sink failed, as their counts
-- of faults show
abbrev pub IsAnswered : Status → ℕ → ℕ → ℕ → ℕ → Type 0
IsAnswered Done source_before source_after sink_before sink_after = Unit {0}
IsAnswered OutOfMemory source_before source_after sink_before sink_after = Unit {0}
IsAnswered ReadFault source_before source_after sink_before sink_after = Rose source_before source_after
IsAnswered WriteFault source_before source_after sink_before sink_after = Rose sink_before sink_after
IsAnswered _ source_before source_after sink_before sink_after = ⊥
