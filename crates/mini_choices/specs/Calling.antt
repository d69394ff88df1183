-- Tests of calls, and of two that differ in their first argument.
use Rattle.std.specs.Prelude.{Bool, true, false, ◌&&◌, ◌||◌, if◌then◌else◌}
use Rattle.mini_model.specs.declared.shape.Shape.{Shape}
use Rattle.mini_model.specs.declared.shape.Shape.TheVariants as shape
use Rattle.mini_model.specs.Tree.{Tree, Trees, shape_of, call, conditional, children, child_or_absent, first_or_absent}
use Rattle.mini_node.specs.Children.{part, is_bare, without, with_inserted}
use Rattle.mini_node.specs.Equal.{same_tree, same_trees}
use Rattle.mini_node.specs.Kinds.{is_call_expression, is_conditional}
use Rattle.mini_terms.specs.Effects.{ef}
use Rattle.mini_terms.specs.Reading.{is_item, is_plain_part}
use Rattle.mini_rows.specs.Choices.{spread}

abbrev pub is_spread_shape : Shape → Bool
is_spread_shape shape.SpreadElement = true
is_spread_shape _ = false

-- `...p`
abbrev pub is_spread : Tree → Bool
is_spread t = is_spread_shape (shape_of t) && is_bare t 1

-- an expression stands first
abbrev pub begins_with_item : Trees → Bool
begins_with_item ts = is_item (child_or_absent ts 0)

-- or one that is spread
abbrev pub begins_with_spread : Trees → Bool
begins_with_spread ts = is_spread (child_or_absent ts 0)

-- of both of them the one, or the other
abbrev pub begin_alike : Trees → Trees → Bool
begin_alike ts us = (begins_with_item ts && begins_with_item us) || (begins_with_spread ts && begins_with_spread us)

-- all but the first are the same
abbrev pub are_others_same : Trees → Trees → Bool
are_others_same ts us = same_trees (without ts 0) (without us 0)

-- of an expression without an effect, which is the same function wherever it is asked
-- `this` has one where it is asked of the world
abbrev pub is_idle : Bool → Tree → Bool
is_idle asked f = is_plain_part f && ef asked f

-- of one such function, with the same arguments after the first, which both are expressions or both
-- are spread
abbrev pub are_alike : Bool → Tree → Tree → Bool
are_alike asked t u = begin_alike (children (part t 1)) (children (part u 1)) && (same_tree (part t 0) (part u 0) && (is_idle asked (part t 0) && are_others_same (children (part t 1)) (children (part u 1))))

-- `a ? f(p, r) : f(q, r)`, where evaluating a has no effect
abbrev pub calls_either : Bool → Tree → Bool
calls_either asked t = is_conditional t && (is_call_expression (part t 1) && (is_call_expression (part t 2) && (are_alike asked (part t 1) (part t 2) && ef asked (part t 0))))

-- another first one
abbrev pub with_first : Trees → Tree → Trees
with_first ts t = with_inserted (without ts 0) 0 t

-- `a ? p : q`, and `...a ? p : q`
abbrev pub chosen_first : Tree → Tree → Tree → Tree
chosen_first a p q = if is_spread p then spread (conditional a (part p 0) (part q 0)) else conditional a p q

-- `f(a ? p : q, r)`
abbrev pub called : Tree → Tree
called t = call false (part (part t 1) 0) (with_first (children (part (part t 1) 1)) (chosen_first (part t 0) (first_or_absent (children (part (part t 1) 1))) (part (part (part t 2) 1) 0)))
