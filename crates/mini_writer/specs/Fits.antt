-- How large a value is, and which values are small enough.
use Rattle.std.specs.Prelude.{ℕ, ◌+◌, ◌≤◌, length}
use Rattle.serde_json.specs.Data.{Data, null, boolean, number, string, array, object, Items, no_items, item, Members, no_members, member}
use Rattle.mini_model.specs.Texts.{units_of}

-- how many JSON values there are: the value, and each that is in it
abbrev mutual
  pub values_in : Data → ℕ
  values_in null = 1
  values_in (boolean b) = 1
  values_in (number n) = 1
  values_in (string s) = 1
  values_in (array ds) = 1 + values_in_items ds
  values_in (object ms) = 1 + values_in_members ms

  pub values_in_items : Items → ℕ
  values_in_items no_items = 0
  values_in_items (item d ds) = values_in d + values_in_items ds

  pub values_in_members : Members → ℕ
  values_in_members no_members = 0
  values_in_members (member k d ms) = values_in d + values_in_members ms

-- how many UTF-16 units its texts have, the keys of its objects among them
abbrev mutual
  pub units_in : Data → ℕ
  units_in null = 0
  units_in (boolean b) = 0
  units_in (number n) = 0
  units_in (string s) = length (units_of s)
  units_in (array ds) = units_in_items ds
  units_in (object ms) = units_in_members ms

  pub units_in_items : Items → ℕ
  units_in_items no_items = 0
  units_in_items (item d ds) = units_in d + units_in_items ds

  pub units_in_members : Members → ℕ
  units_in_members no_members = 0
  units_in_members (member k d ms) = length (units_of k) + units_in d + units_in_members ms

-- The value is small enough.
pub record Fits (d : Data) : Type 0 where
  pub values : values_in d ≤ 16777216
  pub units : units_in d ≤ 16777216
