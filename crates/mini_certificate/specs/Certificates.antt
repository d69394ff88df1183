-- Which JSON is a certificate, a program with a log of rewrites of it, and what is written of one.
use Rattle.std.specs.Prelude.{ℕ, List, [], ◌∷◌, ◌++◌, codes, Option, Some, None, Result, Ok, Err}
use Rattle.serde_json.specs.Data.{Data, string, object, member, no_members}
use Rattle.serde_json.specs.Find.{get}
use Rattle.serde_json.specs.Written.{compact_text}
use Rattle.mini_model.specs.Faults.{Fault, bad_shape, fault, item_step, under, ◌>>=◌}
use Rattle.mini_model.specs.Tree.{Tree}
use Rattle.mini_accept.specs.Accept.{program_at}
use Rattle.mini_accept.specs.Faults as estree
use Rattle.mini_estree.specs.Reads.{fault_told}
use Rattle.mini_checker.specs.declared.log.LogEntry.{LogEntry}
use Rattle.mini_cli.specs.Run.{note_line}
use Rattle.mini_writer.specs.Written.{program_data}
use Rattle.mini_certificate.specs.Logs.{log_at, log_data}

-- ---- read

abbrev pub told : Result (Tree × ℕ) estree.Fault → Result Tree Fault
told (Ok r) = Ok r.0
told (Err f) = Err (fault_told f)

-- the tree of a program of ESTree, or its first defect
abbrev pub tree_at : ℕ → Data → Result Tree Fault
tree_at depth d = told (program_at depth d)

-- what has no such member is no certificate
abbrev pub member_or : Option Data → Result Data Fault
member_or None = fault bad_shape
member_or (Some d) = Ok d

-- the program and the log of an object that has both, or its first defect: those of the log go
-- before those of the program
abbrev pub certificate_at : ℕ → Data → Result (Tree × List LogEntry) Fault
certificate_at depth d = do
  l ← member_or (get (codes "log") d)
  p ← member_or (get (codes "program") d)
  log ← log_at l
  t ← under (codes "program") (tree_at depth p)
  Ok (t, log)

-- ---- written

-- compact JSON, and a newline
unfoldable pub line_of : Data → List ℕ
line_of d = compact_text d ++ 10 ∷ []

abbrev pub certificate_data : Tree → List LogEntry → Data
certificate_data t log = object (member (codes "log") (log_data log) (member (codes "program") (program_data t) no_members))

-- a program to which a log leads
abbrev pub last_data : Tree → Data
last_data u = object (member (codes "program") (program_data u) (member (codes "verdict") (string (codes "Yes")) no_members))

-- an entry of a log has no step
abbrev pub no_step_note : ℕ → List ℕ
no_step_note k = note_line (codes "NoStep") (47 ∷ item_step (codes "log") k)
