-- Small trees read by paths, computed. a, b, c, d and e are names, and a text stands over each
-- tree.
use Rattle.std.specs.Prelude.{◌≡◌, refl, true, false, [], ◌∷◌, Some, None, codes}
use Rattle.mini_model.specs.declared.operator.LogicalOperator.TheVariants.{And}
use Rattle.mini_model.specs.declared.shape.Shape.TheVariants as shape
use Rattle.mini_model.specs.Tree.{Tree, node, none, ◌▸◌, unresolved, identifier, negation, logical, call, absent, listed, expression_statement, if_else, if_alone, program}
use Rattle.mini_model.specs.Paths.{is_node, children_of, node_at, replace_at, head_at, begins_with, nodes_of, paths_of}

abbrev a : Tree
a = identifier (unresolved (codes "a"))

abbrev b : Tree
b = identifier (unresolved (codes "b"))

abbrev c : Tree
c = identifier (unresolved (codes "c"))

abbrev d : Tree
d = identifier (unresolved (codes "d"))

abbrev e : Tree
e = identifier (unresolved (codes "e"))

-- `!a && b`
abbrev both : Tree
both = logical And (negation a) b

-- `c(d, e)`
abbrev called : Tree
called = call false c (d ▸ e ▸ none)

-- `if (x) y; else c(d, e);`, as a program
abbrev choice : Tree → Tree → Tree
choice x y = program false [] (if_else x (expression_statement y) (expression_statement called) ▸ none)

-- `[a, , b]`
abbrev elements : Tree → Tree → Tree
elements x y = node shape.ArrayExpression [] 0 (listed (x ▸ absent ▸ y ▸ none) ▸ none)

-- `...x`, where x has a number in the node that carries it
abbrev spread_of : Tree → Tree
spread_of x = node shape.SpreadElement [] 0 (node shape.InnerExpression [] 7 (x ▸ none) ▸ none)

-- what is a node of ESTree

name_is_node : is_node a ≡ true
name_is_node = refl

absent_is_no_node : is_node absent ≡ false
absent_is_no_node = refl

list_is_no_node : is_node (listed (a ▸ none)) ≡ false
list_is_no_node = refl

inner_is_no_node : is_node (node shape.InnerExpression [] 7 (a ▸ none)) ≡ false
inner_is_no_node = refl

-- children

-- `c(d, e)`: the callee, and each argument
children_of_call : children_of called ≡ c ▸ d ▸ e ▸ none
children_of_call = refl

-- `if (a) b;`: no third child
children_of_if_alone : children_of (if_alone a (expression_statement b)) ≡ a ▸ expression_statement b ▸ none
children_of_if_alone = refl

-- a hole is no child
children_of_elements : children_of (elements a b) ≡ a ▸ b ▸ none
children_of_elements = refl

-- an inner expression is what it holds
children_of_spread : children_of (spread_of (negation a)) ≡ negation a ▸ none
children_of_spread = refl

-- what paths lead to

-- e: the statement, its alternate, the call, and the second argument
deep : node_at (0 ∷ 2 ∷ 0 ∷ 2 ∷ []) (choice a b) ≡ Some e
deep = refl

-- a name has no child
too_deep : node_at (0 ∷ 0 ∷ 0 ∷ []) (choice a b) ≡ None
too_deep = refl

-- a call has no fourth child
too_far : node_at (3 ∷ []) called ≡ None
too_far = refl

whole : node_at [] both ≡ Some both
whole = refl

-- the name's list of names, and no number
head : head_at (1 ∷ []) both ≡ Some (shape.Identifier, (unresolved (codes "b") ∷ [], 0))
head = refl

-- what is put at paths

test_replaced : replace_at (0 ∷ 0 ∷ []) both (choice a b) ≡ Some (choice both b)
test_replaced = refl

-- the hole stays where it is
element_replaced : replace_at (1 ∷ []) c (elements a b) ≡ Some (elements a c)
element_replaced = refl

-- and the inner expression its number
inner_replaced : replace_at (0 ∷ 0 ∷ []) b (spread_of (negation a)) ≡ Some (spread_of (negation b))
inner_replaced = refl

nothing_replaced : replace_at (2 ∷ []) c (elements a b) ≡ None
nothing_replaced = refl

-- a tree that is no node is not found where it is put, but what stands after it
absent_replaced : replace_at (0 ∷ []) absent (elements a b) ≡ Some (elements absent b)
absent_replaced = refl

after_absent : node_at (0 ∷ []) (elements absent b) ≡ Some b
after_absent = refl

-- beginnings

longer_begins : begins_with (0 ∷ 2 ∷ 1 ∷ []) (0 ∷ 2 ∷ []) ≡ true
longer_begins = refl

shorter_begins_not : begins_with (0 ∷ []) (0 ∷ 2 ∷ []) ≡ false
shorter_begins_not = refl

other_begins_not : begins_with (0 ∷ 1 ∷ 2 ∷ []) (0 ∷ 2 ∷ []) ≡ false
other_begins_not = refl

-- all nodes, in preorder

nodes_of_both : nodes_of both ≡ both ▸ negation a ▸ a ▸ b ▸ none
nodes_of_both = refl

paths_of_both : paths_of both ≡ [] ∷ (0 ∷ []) ∷ (0 ∷ 0 ∷ []) ∷ (1 ∷ []) ∷ []
paths_of_both = refl

-- `[!a, , b]`
nodes_of_elements : nodes_of (elements (negation a) b) ≡ elements (negation a) b ▸ negation a ▸ a ▸ b ▸ none
nodes_of_elements = refl

paths_of_elements : paths_of (elements (negation a) b) ≡ [] ∷ (0 ∷ []) ∷ (0 ∷ 0 ∷ []) ∷ (1 ∷ []) ∷ []
paths_of_elements = refl
