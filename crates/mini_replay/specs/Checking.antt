-- What a check of a log says, and what it proves.
use Rattle.std.specs.Prelude.{ℕ, ◌+◌, ◌≡◌, ◌≤◌, Bool, List, map, length, take, slice_get, Some, None}
use Rattle.mini_model.specs.declared.place.Position.TheVariants.{Elsewhere}
use Rattle.mini_model.specs.Tree.{Tree}
use Rattle.mini_model.specs.Weight.{weight}
use Rattle.mini_laws.specs.References.{reads, writes, counts_of}
use Rattle.mini_laws.specs.Value.{VariableSet}
use Rattle.mini_laws.specs.Writable.{writable_in}
use Rattle.mini_kept.specs.Loosely.{ProgramIsKeptLoosely}
use Rattle.mini_rows.specs.Switches.{Switches, let_go}
use Rattle.mini_tree.specs.declared.options.CompressOptions.{CompressOptions}
use Rattle.mini_context.specs.Facts.{Facts}
use Rattle.mini_log.specs.declared.row.LogRow.{LogRow}
use Rattle.mini_log.specs.RowStep.{Entry, entry_step, replayed, row_step}
use Rattle.mini_checker.specs.declared.log.LogEntry.{LogEntry}
use Rattle.mini_checker.specs.declared.log.Verdict.{Verdict}
use Rattle.mini_checker.specs.declared.log.Verdict.TheVariants.{Yes, No}
use Rattle.mini_replay.specs.Seeking.{IsPath}

-- the options, as the rows read them
abbrev pub switches_of : CompressOptions → Switches
switches_of o = record { sequences = o.sequences; join_vars = o.join_vars; keep_function_names = o.keep_names.function; keep_class_names = o.keep_names.class; edition = 2022 }

-- the entries, as plain ones
abbrev pub entry_of : LogEntry → Entry
entry_of x = record { at = x.at; row = x.row }

abbrev pub entries : List LogEntry → List Entry
entries log = map entry_of log

-- the entry at this index has no step, and those before it lead to u
pub record HasNoStep (sequences : Bool) (W : VariableSet) (t u : Tree) (log : List LogEntry) (k : ℕ) : Type 0 where
  pub entry : LogEntry
  pub there : slice_get log k ≡ Some entry
  pub before : replayed sequences W t (entries (take k log)) ≡ Some u
  pub no_step : entry_step sequences W u (entry_of entry) ≡ None

-- Yes is said where each entry in turn has a step, and they lead to u; else the first that has none
-- is named
abbrev pub Judged : Bool → VariableSet → Tree → Tree → List LogEntry → Verdict → Type 0
Judged sequences W t u log Yes = replayed sequences W t (entries log) ≡ Some u
Judged sequences W t u log (No k) = HasNoStep sequences W t u log k

-- how many entries were made
abbrev pub made_by : List LogEntry → Verdict → ℕ
made_by log Yes = length log
made_by log (No k) = k

-- the later program keeps all that the first one has to keep, and is lighter by so much at least
pub record Upheld (o : CompressOptions) (t u : Tree) (n : ℕ) : Type 0 where
  pub kept : ProgramIsKeptLoosely (let_go (switches_of o)) (writable_in t) t u
  pub lighter : weight Elsewhere u + n ≤ weight Elsewhere t

-- how often the tables say that each symbol is read and written is what counting a program anew
-- gives
pub record CountedAnew (f : Facts) (t : Tree) : Type 0 where
  pub reads : f.reads ≡ counts_of reads (length f.reads) t
  pub writes : f.writes ≡ counts_of writes (length f.reads) t

-- no row has a step at any path of a program
abbrev pub NoStepLeft : Bool → VariableSet → Tree → Type 0
NoStepLeft sequences W t = (r : LogRow) (q : List ℕ) → IsPath t q → row_step sequences W r t q ≡ None
