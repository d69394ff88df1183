-- 34, `minimize_normal_assignment_to_combined_logical_assignment`: `x = x || b` becomes `x ||= b`,
-- and so of `&&` and `??`, where x can be written.
use Rattle.std.specs.Prelude.{ℕ, Bool, false, ◌&&◌, List, [], ◌∷◌, Option, Some, None, if◌then◌else◌}
use Rattle.mini_model.specs.declared.name.Name.{Name}
use Rattle.mini_model.specs.declared.name.SymbolId.{SymbolId}
use Rattle.mini_model.specs.declared.operator.LogicalOperator.{LogicalOperator}
use Rattle.mini_model.specs.declared.place.Position.{Position}
use Rattle.mini_model.specs.Tree.{Tree}
use Rattle.mini_laws.specs.Value.{Declared, Global, VariableSet}
use Rattle.mini_node.specs.Children.{part, names_of}
use Rattle.mini_node.specs.Kinds.{assignment, logical_operator}
use Rattle.mini_rows.specs.Choices.{deciding}
use Rattle.mini_rows.specs.Editions.{WritesIn}
use Rattle.mini_tree.specs.declared.options.CompressOptions.{CompressOptions}
use Rattle.mini_context.specs.Facts.{Facts}
use Rattle.mini_context.specs.Tables.{mark_at}
use Rattle.mini_laws.specs.Writable.{writable_in}
use Rattle.mini_choices.specs.Assigning.{assigns_name, is_same_name}

-- the variables that a table marks, by symbol
abbrev pub marked : Facts → VariableSet
marked f (Declared k) = mark_at f.writable k
marked f (Global s) = false

-- a name of one of these, if a scope declares it
abbrev pub may_write : VariableSet → Option SymbolId → Bool
may_write W (Some s) = W (Declared s.0)
may_write W None = false

abbrev pub may_write_in : VariableSet → List Name → Bool
may_write_in W (x ∷ []) = may_write W x.symbol
may_write_in W xs = false

-- `x = b`, where x can be written
abbrev pub writes_name : VariableSet → Tree → Bool
writes_name W t = assigns_name t && may_write_in W (names_of (part t 0))

-- the operator of the `x ||= b` that is written for `x = x || b`
abbrev pub combined_operator : VariableSet → Tree → Option LogicalOperator
combined_operator W t = if writes_name W t && is_same_name (part t 0) (part (part t 1) 0) then logical_operator (part t 1) else None

-- `x ||= b`
abbrev pub combined : LogicalOperator → Tree → Tree
combined o t = assignment (deciding o) (part t 0) (part (part t 1) 1)

abbrev pub written_by : Option LogicalOperator → Tree → Option Tree
written_by (Some o) t = Some (combined o t)
written_by None t = None

abbrev pub written : VariableSet → Tree → Option Tree
written W t = written_by (combined_operator W t) t

-- over a program the rule makes what a row says of the variables that can be written in it, where
-- the edition has its form
abbrev pub Gives : CompressOptions → Tree → Position → Tree → Tree → Type 0
Gives o q = WritesIn o.edition (writable_in q)

-- and rests where no row reads the node
abbrev pub RestsOver : ℕ → VariableSet → Position → Tree → Type 0
RestsOver e W p n = (w : Tree) → WritesIn e W p n w → ⊥

abbrev pub Rests : CompressOptions → Tree → Position → Tree → Type 0
Rests o q = RestsOver o.edition (writable_in q)
