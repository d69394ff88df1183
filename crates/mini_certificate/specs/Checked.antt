-- What is answered to a certificate, and to a program of which one is to be made.
use Rattle.std.specs.Prelude.{◌≡◌, ◌⊎◌, ℕ, ◌<◌, List, length, codes, Some, None, Ok, Err}
use Rattle.serde_json.specs.Data.{Data}
use Rattle.mini_model.specs.Faults.{Fault, fault_under}
use Rattle.mini_model.specs.Tree.{Tree}
use Rattle.mini_accept.specs.Accept.{Accepts}
use Rattle.mini_laws.specs.Resolved.{resolved_program}
use Rattle.mini_laws.specs.Value.{VariableSet}
use Rattle.mini_laws.specs.Writable.{writable_in}
use Rattle.mini_log.specs.RowStep.{replayed}
use Rattle.mini_scope.specs.Pointers.{early_fault}
use Rattle.mini_tree.specs.declared.options.CompressOptions.{CompressOptions}
use Rattle.mini_checker.specs.declared.log.LogEntry.{LogEntry}
use Rattle.mini_replay.specs.Checking.{HasNoStep, NoStepLeft, Upheld, entries}
use Rattle.mini_run.specs.Words.{NameOrders}
use Rattle.mini_cli.specs.Run.{Task, note_of}
use Rattle.mini_writer.specs.Bare.{bare}
use Rattle.mini_writer.specs.Written.{program_data}
use Rattle.mini_certificate.specs.Certificates.{certificate_at, certificate_data, last_data, line_of, no_step_note, tree_at}

-- the words name these options, and don't ask for a program to be generated
abbrev pub NameOptions : List (List ℕ) → CompressOptions → Type 0
NameOptions words o = NameOrders words (record { options = o; generate = None })

-- the variables that can be written in a program, as its rows read them
abbrev pub writable : Tree → VariableSet
writable t = writable_in (resolved_program t)

-- ---- a log that is checked

-- The program has no early error, and each entry of the log in turn has a step. The last program
-- keeps all that the first one has to keep, and is lighter by at least the number of entries. That
-- is written, and is accepted as this program, but for its numbers and symbols.
pub record Holds (o : CompressOptions) (first : Tree) (log : List LogEntry) (text : List ℕ) : Type 0 where
  pub free : early_fault first ≡ None
  pub last : Tree
  pub leads : replayed o.sequences (writable first) (resolved_program first) (entries log) ≡ Some last
  pub upheld : Upheld o (resolved_program first) last (length log)
  pub written : text ≡ line_of (last_data last)
  pub accepted : (u : Tree) × Accepts (program_data last) u × (bare u ≡ bare last)

-- the program has an early error, and this is told of it
pub record FailsEarly (first : Tree) (line : List ℕ) : Type 0 where
  pub fault : Fault
  pub early : early_fault first ≡ Some fault
  pub told : line ≡ note_of (fault_under (codes "program") fault)

-- this entry is the first that has no step, and that is told
pub record FailsAt (o : CompressOptions) (first : Tree) (log : List LogEntry) (line : List ℕ) : Type 0 where
  pub free : early_fault first ≡ None
  pub entry : ℕ
  pub before : Tree
  pub no_step : HasNoStep o.sequences (writable first) (resolved_program first) before log entry
  pub told : line ≡ no_step_note entry

abbrev pub DoesNotHold : CompressOptions → Tree → List LogEntry → List ℕ → Type 0
DoesNotHold o first log line = FailsEarly first line ⊎ FailsAt o first log line

-- the value is a certificate of which this holds
pub record IsCertificateOf (o : CompressOptions) (d : Data) (P : Tree → List LogEntry → Type 0) : Type 0 where
  pub first : Tree
  pub log : List LogEntry
  pub read : certificate_at o.max_depth d ≡ Ok (first, log)
  pub holds : P first log

-- it is none, and this is told of its first defect
pub record IsNoCertificate (o : CompressOptions) (d : Data) (line : List ℕ) : Type 0 where
  pub fault : Fault
  pub read : certificate_at o.max_depth d ≡ Err fault
  pub told : line ≡ note_of fault

abbrev pub IsChecked : CompressOptions → Data → List ℕ → Type 0
IsChecked o d text = IsCertificateOf o d (λ first log. Holds o first log text)

abbrev pub IsRejected : CompressOptions → Data → List ℕ → Type 0
IsRejected o d line = IsNoCertificate o d line ⊎ IsCertificateOf o d (λ first log. DoesNotHold o first log line)

abbrev pub check_task : CompressOptions → Task
check_task o = record { answers = IsChecked o; refuses = IsRejected o }

-- ---- a log that is made

-- The program has no early error, and each entry of a log in turn has a step. No row has a step at
-- any path of the last program, unless the log has 4,294,967,295 entries. The last program keeps
-- all that the first one has to keep, and is lighter by at least the number of entries. The first
-- one and the log are written, and that is accepted as the first one, but for numbers. A check of
-- what is written says Yes and gives the last program, wherever the program is read: the options are
-- to agree on `sequences`, and to let it nest so deep.
pub record IsLogged (o : CompressOptions) (first : Tree) (text : List ℕ) : Type 0 where
  pub free : early_fault first ≡ None
  pub log : List LogEntry
  pub last : Tree
  pub leads : replayed o.sequences (writable first) (resolved_program first) (entries log) ≡ Some last
  pub upheld : Upheld o (resolved_program first) last (length log)
  pub complete : length log < 4294967295 → NoStepLeft o.sequences (writable first) last
  pub written : text ≡ line_of (certificate_data first log)
  pub accepted : (u : Tree) × Accepts (program_data first) u × (bare u ≡ bare first)
  pub agreed : (p : CompressOptions) (u : Tree) → p.sequences ≡ o.sequences → tree_at p.max_depth (program_data first) ≡ Ok u → IsChecked p (certificate_data first log) (line_of (last_data last))

-- the value is a program of which this holds
pub record IsProgramOf (o : CompressOptions) (d : Data) (P : Tree → Type 0) : Type 0 where
  pub first : Tree
  pub read : tree_at o.max_depth d ≡ Ok first
  pub holds : P first

-- this is told of its first defect
pub record IsNoProgram (o : CompressOptions) (d : Data) (line : List ℕ) : Type 0 where
  pub fault : Fault
  pub read : tree_at o.max_depth d ≡ Err fault
  pub told : line ≡ note_of fault

pub record HasEarlyError (first : Tree) (line : List ℕ) : Type 0 where
  pub fault : Fault
  pub early : early_fault first ≡ Some fault
  pub told : line ≡ note_of fault

abbrev pub log_task : CompressOptions → Task
log_task o = record {
  answers = λ d text. IsProgramOf o d (λ first. IsLogged o first text);
  refuses = λ d line. IsNoProgram o d line ⊎ IsProgramOf o d (λ first. HasEarlyError first line);
}
