-- What the context of a rewrite lets happen to names.
use Rattle.std.specs.Prelude.{false}
use Rattle.mini_model.specs.Tree.{Tree}
use Rattle.mini_laws.specs.Value.{Declared, Global, VariableSet}
use Rattle.mini_laws.specs.Writable.{writable_in}
use Rattle.mini_rows.specs.Switches.{Switches, Liberties, liberties}
use Rattle.mini_tree.specs.declared.options.CompressOptions.{CompressOptions}
use Rattle.mini_context.specs.declared.context.TraverseCtx.{TraverseCtx}
use Rattle.mini_context.specs.Facts.{Facts}
use Rattle.mini_context.specs.Tables.{mark_at}

-- the options, as the rows read them
abbrev pub switches_of : CompressOptions → Switches
switches_of o = record { sequences = o.sequences; join_vars = o.join_vars; keep_function_names = o.keep_names.function; keep_class_names = o.keep_names.class; edition = o.edition }

-- the variables that a table marks, by symbol
abbrev pub marked : Facts → VariableSet
marked f (Declared k) = mark_at f.writable k
marked f (Global s) = false

-- what a context tells: those that its table marks, and its options
abbrev pub allowed : TraverseCtx → Liberties
allowed c = liberties (switches_of c.options) (marked c.scopes)

-- what a program and options say: the variables that can be written in it, and these
abbrev pub allowed_in : CompressOptions → Tree → Liberties
allowed_in o q = liberties (switches_of o) (writable_in q)
