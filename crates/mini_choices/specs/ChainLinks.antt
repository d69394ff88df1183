-- 64, `substitute_chain_expression`, and 11, of `fold_chain_expr`: `(a?.b)?.c` becomes `a?.b?.c`,
-- and `[1]?.length` becomes `[1].length`, whatever links stand outside.
use Rattle.std.specs.Prelude.{Bool, true, false, not, ◌&&◌, ◌||◌, [], Option, Some, None, if◌then◌else◌}
use Rattle.mini_model.specs.declared.seat.Seat.{Seat}
use Rattle.mini_model.specs.declared.shape.Shape.{Shape}
use Rattle.mini_model.specs.declared.shape.Shape.TheVariants as shape
use Rattle.mini_model.specs.Tree.{Tree, Trees, node, none, ◌▸◌, absent, children, child_or_absent, shape_of}
use Rattle.mini_node.specs.Children.{part, is_bare}
use Rattle.mini_node.specs.Kinds.{is_listed}
use Rattle.mini_terms.specs.Parts.{is_link}
use Rattle.mini_terms.specs.Reading.{is_plain_part}
use Rattle.mini_rows.specs.Chains.{is_word_shape, is_calm, are_calm}
use Rattle.mini_rows.specs.ChainLinks.{is_there, is_lone, chain_if}

abbrev pub is_chain_shape : Shape → Bool
is_chain_shape shape.ChainExpression = true
is_chain_shape h = false

-- a chain
abbrev pub is_chain : Tree → Bool
is_chain t = is_chain_shape (shape_of t) && is_bare t 1

-- of a link with this part, whether that ends no chain
abbrev pub ends_none : Shape → Tree → Bool
ends_none (shape.StaticMemberExpression is_optional) k = is_word_shape (shape_of k)
ends_none (shape.ComputedMemberExpression is_optional) k = is_calm k
ends_none (shape.CallExpression is_optional) k = is_listed k && are_calm (children k)
ends_none h k = false

-- `a.k`, `a[k]` or `a(b, c)`, optional or not, whose key or arguments end no chain
abbrev pub is_step : Tree → Bool
is_step t = is_bare t 2 && ends_none (shape_of t) (part t 1)

-- an optional link
abbrev pub is_marked : Shape → Bool
is_marked (shape.StaticMemberExpression is_optional) = is_optional
is_marked (shape.ComputedMemberExpression is_optional) = is_optional
is_marked (shape.CallExpression is_optional) = is_optional
is_marked h = false

-- the same link, optional or not
abbrev pub link_shape : Bool → Shape → Shape
link_shape o (shape.CallExpression is_optional) = shape.CallExpression o
link_shape o (shape.StaticMemberExpression is_optional) = shape.StaticMemberExpression o
link_shape o h = shape.ComputedMemberExpression o

-- a link of this shape
abbrev pub relinked : Shape → Tree → Tree → Tree
relinked h a k = node h [] 0 (a ▸ k ▸ none)

-- a chain of a member or a call
abbrev pub holds_link : Tree → Bool
holds_link c = is_chain c && is_link (shape_of (part c 0))

-- a value that is there, and is called with no `this`
abbrev pub is_value : Tree → Bool
is_value x = is_there x && (is_plain_part x && (is_lone x && is_calm x))

-- an optional link over a chain, or, where its mark may go, over a value that is there
abbrev pub folds_here : Bool → Tree → Bool
folds_here d t = is_marked (shape_of t) && (holds_link (part t 0) || (d && is_value (part t 0)))

-- over a chain it stays optional, and the chain goes; over a value its mark goes
abbrev pub here : Tree → Tree
here t = relinked (link_shape (holds_link (part t 0)) (shape_of t)) (if holds_link (part t 0) then part (part t 0) 0 else part t 0) (part t 1)

abbrev pub with_mark : Bool → Option Bool → Option Bool
with_mark o None = None
with_mark o (Some stays) = Some (o || stays)

-- the outermost such link among links, if there is one: whether a link in the chain stays optional
abbrev mutual
  pub outcome : Bool → Tree → Option Bool
  outcome d (node h xs n ts) = if is_step (node h xs n ts) then (if folds_here d (node h xs n ts) then Some (holds_link (child_or_absent ts 0)) else with_mark (is_marked h) (outcome_in d ts)) else None

  pub outcome_in : Bool → Trees → Option Bool
  outcome_in d none = None
  outcome_in d (t ▸ ts) = outcome d t

-- and the links with it folded
abbrev mutual
  pub folded : Bool → Tree → Tree
  folded d (node h xs n ts) = if is_step (node h xs n ts) then (if folds_here d (node h xs n ts) then here (node h xs n ts) else relinked (link_shape (is_marked h) h) (folded_in d ts) (child_or_absent ts 1)) else node h xs n ts

  pub folded_in : Bool → Trees → Tree
  folded_in d none = absent
  folded_in d (t ▸ ts) = folded d t

abbrev pub wrapped : Option Bool → Tree → Option Tree
wrapped (Some stays) w = Some (chain_if stays w)
wrapped None w = None

abbrev pub folded_written : Seat → Tree → Option Tree
folded_written s t = if is_chain t then wrapped (outcome (not s.new_callee) (part t 0)) (folded (not s.new_callee) (part t 0)) else None
