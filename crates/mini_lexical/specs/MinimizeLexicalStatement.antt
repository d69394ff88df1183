-- 80 and 84 of lexical names, over the variables V that no event of the body around them shows.
use Rattle.std.specs.Prelude.{◌≡◌, Bool, true, false, ◌&&◌}
use Rattle.mini_model.specs.Tree.{Tree, Trees, children, child_or_absent}
use Rattle.mini_laws.specs.Value.{VariableSet}
use Rattle.mini_node.specs.Children.{part}
use Rattle.mini_rows.specs.Lexical.{are_held, is_of_outside}
use Rattle.mini_rows.specs.Lists.{declares_nothing}
use Rattle.mini_syntax.specs.Forms.{is_plain}
use Rattle.mini_switch.specs.MinimizeSwitchStatements.{is_case, holds_one_case, stay_inside, the_case}
use Rattle.mini_logic.specs.MinimizeForStatement.{leads_from_block}

-- what a row says; or nothing, and then it reads the statement as nothing
abbrev pub AppliedBy : (Tree → Tree → Type 0) → Tree → Tree → Bool → Type 0
AppliedBy R t u true = R t u
AppliedBy R t u false = (u ≡ t) × ((w : Tree) → R t w → ⊥)

-- ---- 80

-- a case whose test writes a value out, and whose names are held: none stands in that test either
abbrev pub can_be_branch : VariableSet → Tree → Bool
can_be_branch V c = is_case c && (is_plain (part c 0) && (are_held (is_of_outside V (part c 0)) (children (part c 1)) && stay_inside (children (part c 1))))

abbrev pub inlines : VariableSet → Tree → Bool
inlines V t = holds_one_case t && (declares_nothing (part t 0) && can_be_branch V (the_case t))

-- ---- 84

-- the statements of the block, and the test by which the first of them leaves
abbrev pub statements_of : Tree → Trees
statements_of t = children (part (part t 3) 0)

abbrev pub leaving_test : Tree → Tree
leaving_test t = part (child_or_absent (statements_of t) 0) 0

abbrev pub leaves : VariableSet → Tree → Bool
leaves V t = leads_from_block t && are_held (is_of_outside V (leaving_test t)) (statements_of t)
