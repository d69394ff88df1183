use Rattle.std.proofs.Common.{arith, sym, ap, ◌∙◌}
use Rattle.mini_node.specs.Children.{trees_of}
use Rattle.mini_rows.specs.Past.{is_binding}
use Rattle.mini_steady.proofs.Rests.{rest_smaller}
use Rattle.mini_steady.proofs.Twice.{twice_shown, twice_there, twice_rest}
use Rattle.mini_steady.proofs.bindings.+twice.Goals as goal

pub are_bound_twice-are_bound_twice-requires : goal.are_bound_twice-are_bound_twice-requires
are_bound_twice-are_bound_twice-requires t c = (omega (arith, c.decreases, rest_smaller c.args.nodes.now c.in-len1-up.len_at_least), tt)

pub are_bound_twice-returns-else-is_bound_twice : goal.are_bound_twice-returns-else-is_bound_twice
are_bound_twice-returns-else-is_bound_twice t c = twice_there c.args.symbol.0 c.args.nodes.now c.first-item.result c.is_any_bound.result c.in-len1-up.len_at_least c.first-item.is c.if-binds.ensures c.if-is_bound_twice.ensures c.is_any_bound.ensures

pub are_bound_twice-returns-else-binds : goal.are_bound_twice-returns-else-binds
are_bound_twice-returns-else-binds t c = twice_rest c.args.symbol.0 c.args.nodes.now c.first-item.result c.are_bound_twice.result c.in-len1-up.len_at_least c.first-item.is c.if-binds.ensures c.are_bound_twice.ensures

pub is_bound_twice-returns-then-has_symbol : goal.is_bound_twice-returns-then-has_symbol
is_bound_twice-returns-then-has_symbol t c = twice_shown c.args.symbol.0 c.args.node.now c.name-name.result.now (trees_of c.parts.result.now) c.is_any_bound.result c.name-name.ensures c.parts.ensures.value (sym (c.is_binding.ensures ∙ ap is_binding c.shape.ensures) ∙ c.if-is_binding.true) (sym c.has_symbol.ensures ∙ c.if-has_symbol.true) c.is_any_bound.ensures
