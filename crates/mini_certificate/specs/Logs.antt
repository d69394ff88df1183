-- Which JSON is which log of rewrites: a list of entries `[row, path]`. A row is named by its
-- number, and a path is the list of the indices that lead from the program to a node.
use Rattle.std.specs.Prelude.{ℕ, suc, ◌<◌, ◌^◌, nat_lt, List, [], ◌∷◌, map, codes, if◌then◌else◌, Option, Some, None, option_map, option_and_then, Result, Ok, Err}
use Rattle.std.specs.List.{AllByRecursion}
use Rattle.serde_json.specs.Data.{Data, unsigned, number, array, Items, no_items, item}
use Rattle.serde_json.specs.Find.{as_array, as_number, as_u64}
use Rattle.serde_json.specs.View.{items_of}
use Rattle.mini_model.specs.Faults.{Fault, bad_shape, fault_under, item_step, ◌>>=◌}
use Rattle.mini_checker.specs.declared.log.LogEntry.{LogEntry}

-- ---- read

abbrev pub if_small : ℕ → Option ℕ
if_small n = if nat_lt n (2 ^ 32) then Some n else None

-- a whole number below 2^32
abbrev pub number_at : Data → Option ℕ
number_at d = option_and_then if_small (option_and_then as_u64 (as_number d))

abbrev pub numbers_in : Items → Option (List ℕ)
numbers_in no_items = Some []
numbers_in (item d ds) = option_and_then (λ n. option_map (λ ns. n ∷ ns) (numbers_in ds)) (number_at d)

abbrev pub path_at : Data → Option (List ℕ)
path_at d = option_and_then numbers_in (as_array d)

abbrev pub entry_of : Option ℕ → Option (List ℕ) → Option LogEntry
entry_of (Some row) (Some at) = Some (record { at = at; row = row })
entry_of _ _ = None

abbrev pub entry_in : Items → Option LogEntry
entry_in (item r (item p no_items)) = entry_of (number_at r) (path_at p)
entry_in ds = None

abbrev pub entry_at : Data → Option LogEntry
entry_at d = option_and_then entry_in (as_array d)

-- an item of the log is no entry: the pointer goes from the object of which the log is a member
abbrev pub no_entry : ℕ → Fault
no_entry i = fault_under (item_step (codes "log") i) (record { defect = bad_shape; at = [] })

abbrev pub entry_or : ℕ → Option LogEntry → Result LogEntry Fault
entry_or i (Some x) = Ok x
entry_or i None = Err (no_entry i)

-- the entries from the item of this index on, or the first item that is none
abbrev pub entries_from : ℕ → Items → Result (List LogEntry) Fault
entries_from i no_items = Ok []
entries_from i (item d ds) = do
  x ← entry_or i (entry_at d)
  xs ← entries_from (suc i) ds
  Ok (x ∷ xs)

-- there is no log
abbrev pub no_log : Fault
no_log = fault_under (codes "log") (record { defect = bad_shape; at = [] })

abbrev pub entries_of : Option Items → Result (List LogEntry) Fault
entries_of None = Err no_log
entries_of (Some ds) = entries_from 0 ds

abbrev pub log_at : Data → Result (List LogEntry) Fault
log_at d = entries_of (as_array d)

-- ---- written

abbrev pub numbers_data : List ℕ → Data
numbers_data ns = array (items_of (map (λ n. number (unsigned n)) ns))

abbrev pub entry_data : LogEntry → Data
entry_data x = array (item (number (unsigned x.row)) (item (numbers_data x.at) no_items))

abbrev pub log_data : List LogEntry → Data
log_data log = array (items_of (map entry_data log))

-- its numbers are all below 2^32, as they are read
abbrev pub AreSmall : List ℕ → Type 0
AreSmall ns = AllByRecursion (λ n. n < 2 ^ 32) ns

abbrev pub HasSmall : LogEntry → Type 0
HasSmall x = (x.row < 2 ^ 32) × AreSmall x.at

abbrev pub HaveSmall : List LogEntry → Type 0
HaveSmall log = AllByRecursion HasSmall log

-- that is what was written of it, and it is small
pub record WrittenSmall (P : Type 0) (log : List LogEntry) : Type 0 where
  pub is : P
  pub small : HaveSmall log
