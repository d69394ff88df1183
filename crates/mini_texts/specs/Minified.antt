-- The text of a program that was minified, and why there is none.
use Rattle.std.specs.Prelude.{◌≡◌, ◌⊎◌, ℕ, Bool, true, false, List, Err}
use Rattle.serde_json.specs.Data.{Data}
use Rattle.serde_json.specs.View.{view}
use Rattle.mini_model.specs.Faults.{Fault}
use Rattle.mini_model.specs.Tree.{Tree}
use Rattle.mini_accept.specs.Accept.{program_at, Accepts}
use Rattle.mini_accept.specs.Faults as accept
use Rattle.mini_estree.specs.Reads.{fault_told}
use Rattle.mini_tree.specs.declared.options.CompressOptions.{CompressOptions}
use Rattle.mini_peephole.specs.ComesBack.{ComesBack}
use Rattle.mini_peephole.specs.Faithful.{Faithful, PassesBounded}
use Rattle.mini_peephole.specs.Minified.{HasDefect, IsMinified}
use Rattle.mini_peephole.specs.declared.minify.Minified.{Minified}
use Rattle.mini_cli.specs.Run.{Task, note_of}
use Rattle.mini_texts.specs.Texts.{IsPrinted, IsUnprinted, IsReadUnprinted, text_task}
use Rattle.mini_texts.specs.declared.options.TextOrders.{TextOrders}

-- ---- the text of an answer

-- the line is the text of the answer's program
pub record IsPrintedAnswer (spaced : Bool) (m : Minified) (line : List ℕ) : Type 0 where
  pub program : Tree
  pub read : Accepts (view m.program) program
  pub printed : IsPrinted spaced program line

-- the line tells the first defect of the program of an answer that nests deeper than is read
pub record IsUnreadAnswer (d : Data) (line : List ℕ) : Type 0 where
  pub fault : accept.Fault
  pub read : program_at 4294967295 d ≡ Err fault
  pub told : line ≡ note_of (fault_told fault)

-- the line tells why the answer's program isn't printed
abbrev pub IsUnprintedAnswer : Bool → Minified → List ℕ → Type 0
IsUnprintedAnswer spaced m line =
    IsUnreadAnswer (view m.program) line
    ⊎ ((t : Tree) × Accepts (view m.program) t × IsUnprinted spaced t line)

-- the same, where nothing but what keeps a program that was read keeps it from its text
abbrev pub IsUnwrittenAnswer : Bool → Minified → List ℕ → Type 0
IsUnwrittenAnswer spaced m line =
    IsUnreadAnswer (view m.program) line
    ⊎ ((t : Tree) × Accepts (view m.program) t × IsReadUnprinted spaced t line)

-- ---- the text of a program that was minified

-- the value is a program that has this answer: it is faithful to it, and was made by rewrites;
-- given again, it comes back
pub record HasAnswer (o : CompressOptions) (d : Data) (m : Minified) : Type 0 where
  pub faithful : Faithful d o m
  pub passes : PassesBounded d o m
  pub minified : IsMinified d o m
  pub again : ComesBack o m

-- The value is a program that has a faithful answer, and the line is the text of the answer's
-- program.
pub record HasMinifiedText (spaced : Bool) (o : CompressOptions) (d : Data) (line : List ℕ) : Type 0 where
  pub answer : Minified
  pub made : HasAnswer o d answer
  pub printed : IsPrintedAnswer spaced answer line

-- The value has no such text, and the line tells why: its first defect, or what keeps an answer to
-- it from being printed.
pub data HasNoMinifiedText (spaced : Bool) (o : CompressOptions) (d : Data) (line : List ℕ) : Type 0 where
  refused : (f : Fault) → HasDefect d o f → line ≡ note_of f → HasNoMinifiedText spaced o d line
  unprinted : (m : Minified) → HasAnswer o d m → IsUnwrittenAnswer spaced m line → HasNoMinifiedText spaced o d line

abbrev pub minified_task : Bool → CompressOptions → Task
minified_task spaced o = record { answers = HasMinifiedText spaced o; refuses = HasNoMinifiedText spaced o }

-- ---- what is ordered

-- the program is minified, or printed as it is
abbrev pub task_of : Bool → Bool → CompressOptions → Task
task_of true spaced o = minified_task spaced o
task_of false spaced o = text_task (record { spaced = spaced; max_depth = o.max_depth })

abbrev pub ordered_task : TextOrders → Task
ordered_task o = task_of o.minify o.spaced o.options
