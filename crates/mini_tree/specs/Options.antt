-- The options where none is named.
use Rattle.std.specs.Prelude.{true, false}
use Rattle.mini_tree.specs.declared.options.CompressOptions.{CompressOptions}

abbrev pub default_options : CompressOptions
default_options = record { sequences = true; join_vars = true; keep_names = record { function = false; class = false }; passes = 4294967295; max_depth = 120; edition = 2022; pure_coercion = false; known_calls = false }
