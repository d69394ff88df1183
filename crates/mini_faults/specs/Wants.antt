-- What the pieces of a production want of its parts.
use Rattle.std.specs.Prelude.{ℕ, suc, ℤ, pos, negsuc, Bool, true, false, List, [], ◌∷◌, Option, Some, None, option_map}
use Rattle.mini_model.specs.declared.name.Name.{Name}
use Rattle.mini_model.specs.declared.shape.Shape.{Shape}
use Rattle.mini_model.specs.declared.shape.Shape.TheVariants as shape
use Rattle.mini_model.specs.Tree.{Tree, Trees, none, shape_of, children}
use Rattle.mini_model.specs.Weight.{same_text}
use Rattle.mini_node.specs.Children.{names_of}
use Rattle.mini_print.specs.Grammar as grammar
use Rattle.mini_print.specs.Grammar.{Goal, Rule, Nothing, Leading, static_shape}
use Rattle.mini_print.specs.Printed.{Want, a_part, a_list, a_perhaps, a_block, a_silent, wanted_goal, plain, stands, same_member, fill, wants}
use Rattle.mini_grammar.specs.Pieces.{own_text, silent_of, least_of, parts_in}
use Rattle.mini_grammar.specs.Views.{goal_of}
use Rattle.mini_grammar.specs.declared.grammar.Piece.{Piece}
use Rattle.mini_grammar.specs.declared.grammar.Piece.TheVariants as piece

-- of a piece that takes a part
abbrev pub want_in : Rule → Piece → Want
want_in h (piece.Left n) = a_part grammar.Anything
want_in h piece.LeftOperand = a_part grammar.Anything
want_in h piece.RightOperand = a_part grammar.Anything
want_in h (piece.Part o n) = a_part (wanted_goal (option_map goal_of o))
want_in h (piece.Default b) = a_part (grammar.DefaultOf b (own_text h))
want_in h (piece.Restricted c o n) = a_part (wanted_goal (option_map goal_of o))
want_in h (piece.Commas o l) = a_list (wanted_goal (option_map goal_of o)) (least_of l)
want_in h (piece.Perhaps i) = a_perhaps (plain (goal_of i))
want_in h (piece.Option w o n) = a_perhaps (wanted_goal (option_map goal_of o))
want_in h (piece.Statements i) = a_block (goal_of i)
want_in h piece.Undirected = a_block grammar.Statement
want_in h (piece.Silent v) = a_silent (silent_of h v)
want_in h _ = a_silent Nothing

-- whether the parts are as these pieces want them
abbrev pub filled : Rule → List Piece → Trees → Bool
filled h ps ts = fill (Some (wants (parts_in h ps))) ts

-- whether a tree stands in a goal by its production alone
abbrev pub stands_in : Goal → Tree → Bool
stands_in g t = stands g (shape_of t) (names_of t) (children t)

-- neither names nor parts, and a name of this spelling without parts
abbrev pub is_leaf : List Name → Trees → Bool
is_leaf [] none = true
is_leaf xs ts = false

abbrev pub is_spelled : List ℕ → List Name → Trees → Bool
is_spelled s (x ∷ []) none = same_text x.spelling s
is_spelled s xs ts = false

abbrev pub has_no_trees : Trees → Bool
has_no_trees none = true
has_no_trees ts = false

abbrev pub is_positive : ℤ → Bool
is_positive (pos (suc n)) = true
is_positive _ = false

abbrev pub is_positive_shape : Shape → Bool
is_positive_shape (shape.NumericLiteral z) = is_positive z
is_positive_shape _ = false

abbrev pub is_negative : Shape → Bool
is_negative (shape.NumericLiteral (negsuc n)) = true
is_negative _ = false

-- whether a shape is that of `static` over the first of the parts
abbrev pub static_by : Shape → Option Tree → Bool
static_by h None = same_member shape.Absent h
static_by h (Some t) = same_member (static_shape (shape_of t)) h

-- whether there is a text, and it is this one
abbrev pub is_that_text : List ℕ → Option (List ℕ) → Bool
is_that_text s None = false
is_that_text s (Some r) = same_text r s
