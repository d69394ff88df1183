-- The plain fields of a property.
use Rattle.std.specs.Prelude.{Option, Some, codes}
use Rattle.serde_json.specs.Data.{Data}
use Rattle.mini_accept.specs.Fields.{◌>>=◌, flag_at}
use Rattle.mini_accept.specs.Words.{word_at, property_kinds}
use Rattle.mini_plan.specs.declared.properties.PropertyFields.{PropertyFields}

abbrev pub property_fields : Data → Option PropertyFields
property_fields d = do
  kind ← word_at property_kinds (codes "kind") d
  is_method ← flag_at (codes "method") d
  shorthand ← flag_at (codes "shorthand") d
  computed ← flag_at (codes "computed") d
  Some (record { kind = kind; is_method = is_method; shorthand = shorthand; computed = computed })
