-- What the parts of a node tell of its production, by the first and the second.
use Rattle.std.proofs.Common.{◌≡◌, true, false, refl, sym, ap, [], ◌∷◌, Some}
use Rattle.std.proofs.lemmas.Option.{none-some, same_Some}
use Rattle.std.proofs.lemmas.Bool.{false≢true}
use Rattle.mini_model.specs.declared.operator.AssignmentOperator.TheVariants as assignment
use Rattle.mini_model.specs.declared.shape.Shape.TheVariants as shape
use Rattle.mini_model.specs.Tree.{Tree, Trees, node, none, ◌▸◌, shape_of, children, is_absent}
use Rattle.mini_node.specs.Children.{names_of}
use Rattle.mini_print.specs.Grammar.{Assignment, PatternAssignment, first_shape, Arrow, ArrowBlock, New}
use Rattle.mini_print.specs.Printed.{has_body, second_generates, generates, has_default, has_default_shape, declares_first, is_declaration, first_is_absent, is_absent_shape, first_spelling, first_raw, assigns_first, is_target_shape, part_at, has_items, spelling_of, is_text, is_reference, declares_default, assignment_of, taker, Short, arrow_over, arrow_block_over, only_name, has_no_items, new_over, styled}
use Rattle.mini_grammar.specs.Firsts.{first_tree, second_tree, third_tree, fourth_tree, tree_or_absent, holds_of, is_body, spelling_in, spelling_by, raw_by, text_if, word_by, is_text_shape, is_reference_shape, is_list_of_some, name_of_first, name_of_list, is_bare_list, has_none_in}

pub generates_by : (ts : Trees) → second_generates ts ≡ holds_of generates (second_tree ts)
generates_by none = refl
generates_by (a ▸ none) = refl
generates_by (a ▸ node h xs n us ▸ ts) = refl

pub default_by : (ts : Trees) → has_default ts ≡ holds_of has_default_shape (second_tree ts)
default_by none = refl
default_by (a ▸ none) = refl
default_by (a ▸ node h xs n us ▸ ts) = refl

pub declares_by : (ts : Trees) → declares_first ts ≡ holds_of is_declaration (first_tree ts)
declares_by none = refl
declares_by (node h xs n us ▸ ts) = refl

pub absent_by : (ts : Trees) → first_is_absent ts ≡ holds_of is_absent_shape (first_tree ts)
absent_by none = refl
absent_by (node shape.Absent xs n us ▸ ts) = refl
absent_by (node h xs n us ▸ ts) = refl

pub body_alone : (a b : Tree) → is_body (shape_of b) ≡ has_body (a ▸ b ▸ none)
body_alone a (node shape.FunctionBody xs n us) = refl
body_alone a (node h xs n us) = refl

pub body_more : (a b c : Tree) (ts : Trees) → false ≡ has_body (a ▸ b ▸ c ▸ ts)
body_more a (node shape.FunctionBody xs n us) c ts = refl
body_more a (node h xs n us) c ts = refl

-- the text of the first part, if there is one
pub spelling_first : (ts : Trees) → first_spelling ts ≡ text_if spelling_in (first_tree ts)
spelling_first none = refl
spelling_first (node (shape.IdentifierName s) xs n us ▸ ts) = refl
spelling_first (node (shape.PrivateIdentifier s) xs n us ▸ ts) = refl
spelling_first (node shape.BindingIdentifier [] n us ▸ ts) = refl
spelling_first (node shape.BindingIdentifier (x ∷ xs) n us ▸ ts) = refl
spelling_first (node h xs n us ▸ ts) = refl

pub raw_first : (ts : Trees) → first_raw ts ≡ text_if (λ t. raw_by (shape_of t)) (first_tree ts)
raw_first none = refl
raw_first (node (shape.TemplateElement b s c) xs n us ▸ ts) = refl
raw_first (node h xs n us ▸ ts) = refl

pub spelling_is : (t : Tree) → spelling_in t ≡ spelling_by (shape_of t) (names_of t)
spelling_is (node h xs n us) = refl

-- the shape of the first part
pub shape_first : (t : Tree) (ts : Trees) → first_shape (t ▸ ts) ≡ shape_of t
shape_first (node h xs n us) ts = refl

pub shape_by : (t : Tree) (ts : Trees) → first_tree ts ≡ Some t → first_shape ts ≡ shape_of t
shape_by t none e = absurd (none-some t e)
shape_by t (node h xs n us ▸ ts) e = ap shape_of (same_Some (node h xs n us) t e)

pub assigns_by : (ts : Trees) → assigns_first ts ≡ holds_of is_target_shape (first_tree ts)
assigns_by none = refl
assigns_by (node h xs n us ▸ ts) = refl

pub declares_default_by : (ts : Trees) → declares_default (first_shape ts) ≡ holds_of declares_default (first_tree ts)
declares_default_by none = refl
declares_default_by (node h xs n us ▸ ts) = refl

-- the parts behind the first
pub at_first : (ts : Trees) → part_at 0 ts ≡ tree_or_absent (first_tree ts)
at_first none = refl
at_first (t ▸ ts) = refl

pub at_second : (ts : Trees) → part_at 1 ts ≡ tree_or_absent (second_tree ts)
at_second none = refl
at_second (t ▸ ts) = at_first ts

pub at_third : (ts : Trees) → part_at 2 ts ≡ tree_or_absent (third_tree ts)
at_third none = refl
at_third (t ▸ ts) = at_second ts

pub at_fourth : (ts : Trees) → part_at 3 ts ≡ tree_or_absent (fourth_tree ts)
at_fourth none = refl
at_fourth (t ▸ ts) = at_third ts

pub absent_is : (t : Tree) → is_absent t ≡ is_absent_shape (shape_of t)
absent_is (node shape.Absent xs n us) = refl
absent_is (node h xs n us) = refl

-- what a name or a text is
pub word_is : (t : Tree) → spelling_of t ≡ word_by (shape_of t) (names_of t)
word_is (node (shape.IdentifierName s) xs n us) = refl
word_is (node (shape.StringLiteral s) xs n us) = refl
word_is (node shape.Identifier [] n us) = refl
word_is (node shape.Identifier (x ∷ xs) n us) = refl
word_is (node shape.BindingIdentifier [] n us) = refl
word_is (node shape.BindingIdentifier (x ∷ xs) n us) = refl
word_is (node h xs n us) = refl

pub text_is : (t : Tree) → is_text t ≡ is_text_shape (shape_of t)
text_is (node (shape.StringLiteral s) xs n us) = refl
text_is (node h xs n us) = refl

pub reference_is : (t : Tree) → is_reference t ≡ is_reference_shape (shape_of t)
reference_is (node shape.Identifier xs n us) = refl
reference_is (node h xs n us) = refl

pub items_are : (t : Tree) → has_items t ≡ is_list_of_some (shape_of t) (children t)
items_are (node shape.Listed xs n none) = refl
items_are (node shape.Listed xs n (t ▸ ts)) = refl
items_are (node h xs n us) = refl

-- an assignment is to a pattern, or to a value
pub pattern_assigned : (ts : Trees) → assigns_first ts ≡ true → assignment_of assignment.Assign (taker (first_shape ts)) ≡ PatternAssignment
pattern_assigned none e = absurd (false≢true e)
pattern_assigned (node shape.ObjectAssignmentTarget xs n us ▸ ts) e = refl
pattern_assigned (node shape.ArrayAssignmentTarget xs n us ▸ ts) e = refl
pattern_assigned (node h xs n us ▸ ts) e = absurd (false≢true e)

pub value_assigned : (ts : Trees) → assigns_first ts ≡ false → assignment_of assignment.Assign (taker (first_shape ts)) ≡ Assignment assignment.Assign
value_assigned none e = refl
value_assigned (node shape.ObjectAssignmentTarget xs n us ▸ ts) e = absurd (false≢true (sym e))
value_assigned (node shape.ArrayAssignmentTarget xs n us ▸ ts) e = absurd (false≢true (sym e))
value_assigned (node shape.BindingIdentifier xs n us ▸ ts) e = refl
value_assigned (node shape.ObjectPattern xs n us ▸ ts) e = refl
value_assigned (node shape.ArrayPattern xs n us ▸ ts) e = refl
value_assigned (node h xs n us ▸ ts) e = refl

-- the one name of a list
pub only_by : (t : Tree) → only_name t ≡ name_of_list (shape_of t) (names_of t) (children t)
only_by (node shape.Listed [] n none) = refl
only_by (node shape.Listed [] n (node shape.BindingIdentifier [] m us ▸ none)) = refl
only_by (node shape.Listed [] n (node shape.BindingIdentifier (x ∷ []) m none ▸ none)) = refl
only_by (node shape.Listed [] n (node shape.BindingIdentifier (x ∷ []) m (u ▸ us) ▸ none)) = refl
only_by (node shape.Listed [] n (node shape.BindingIdentifier (x ∷ y ∷ xs) m us ▸ none)) = refl
only_by (node shape.Listed [] n (node h xs m us ▸ none)) = refl
only_by (node shape.Listed [] n (node shape.BindingIdentifier [] m us ▸ v ▸ vs)) = refl
only_by (node shape.Listed [] n (node shape.BindingIdentifier (x ∷ []) m none ▸ v ▸ vs)) = refl
only_by (node shape.Listed [] n (node shape.BindingIdentifier (x ∷ []) m (u ▸ us) ▸ v ▸ vs)) = refl
only_by (node shape.Listed [] n (node shape.BindingIdentifier (x ∷ y ∷ xs) m us ▸ v ▸ vs)) = refl
only_by (node shape.Listed [] n (node h xs m us ▸ v ▸ vs)) = refl
only_by (node shape.Listed (x ∷ xs) n ts) = refl
only_by (node h xs n ts) = refl

pub arrow_styled : (ts : Trees) → styled Arrow Short ts ≡ arrow_over (name_of_first (first_tree ts))
arrow_styled none = refl
arrow_styled (t ▸ ts) = refl

pub block_styled : (ts : Trees) → styled ArrowBlock Short ts ≡ arrow_block_over (name_of_first (first_tree ts))
block_styled none = refl
block_styled (t ▸ ts) = refl

-- a list of nothing
pub bare_list_by : (t : Tree) → has_no_items t ≡ is_bare_list (shape_of t) (names_of t) (children t)
bare_list_by (node shape.Listed [] n none) = refl
bare_list_by (node shape.Listed [] n (t ▸ ts)) = refl
bare_list_by (node shape.Listed (x ∷ xs) n ts) = refl
bare_list_by (node h xs n ts) = refl

pub new_styled : (ts : Trees) → styled New Short ts ≡ new_over (has_none_in (second_tree ts))
new_styled none = refl
new_styled (t ▸ none) = refl
new_styled (t ▸ u ▸ ts) = refl
