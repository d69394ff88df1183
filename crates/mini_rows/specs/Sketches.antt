-- Trees that are built of parts under plain heads. A plain head has no names and no number of its
-- own, opens no scope, holds no body or frame of its own, and gives each child the targets and
-- surroundings that it has.
use Rattle.std.specs.Prelude.{ℕ, zero, suc, ℤ, Bool, true, false, ◌&&◌, ◌||◌, not, nat_eq, List, [], ◌∷◌, ◌++◌, Some, if◌then◌else◌}
use Rattle.mini_model.specs.declared.operator.AssignmentOperator.{AssignmentOperator}
use Rattle.mini_model.specs.declared.operator.AssignmentOperator.TheVariants.{Assign}
use Rattle.mini_model.specs.declared.kind.PropertyKind.TheVariants.{Init}
use Rattle.mini_model.specs.declared.operator.BinaryOperator.{BinaryOperator}
use Rattle.mini_model.specs.declared.operator.LogicalOperator.{LogicalOperator}
use Rattle.mini_model.specs.declared.operator.UnaryOperator.{UnaryOperator}
use Rattle.mini_model.specs.declared.operator.UpdateOperator.{UpdateOperator}
use Rattle.mini_model.specs.declared.shape.Shape.{Shape}
use Rattle.mini_model.specs.declared.shape.Shape.TheVariants as shape
use Rattle.mini_model.specs.Tree.{Tree, Trees, node, none, ◌▸◌, listed, child_or_absent}
use Rattle.mini_model.specs.Paths.{append}
use Rattle.mini_laws.specs.declared.names.Use.{Use}
use Rattle.mini_laws.specs.declared.names.Use.TheVariants.{Read, Write, ReadWrite, Alone}

pub data Head : Type 0 where
  AbsentPart : Head
  AList : Head
  Null : Head
  This : Head
  BooleanValue : Bool → Head
  Number : ℤ → Head
  BigInt : ℕ → Head
  String : List ℕ → Head
  PropertyName : List ℕ → Head
  Unary : UnaryOperator → Head
  Binary : BinaryOperator → Head
  Logical : LogicalOperator → Head
  Conditional : Head
  Sequence : Head
  Call : Bool → Head
  New : Head
  StaticMember : Bool → Head
  ComputedMember : Bool → Head
  Chain : Head
  Array : Head
  Object : Head
  -- a property that is no method and no accessor: whether it is shorthand, and whether its key
  -- stands in brackets
  Property : Bool → Bool → Head
  Spread : Head
  Yield : Bool → Head
  Template : Head
  -- one with no tag, whose parts are read as expressions
  Interpolation : Head
  -- a piece of a template's text: whether it is the last, the raw text and the cooked one
  Piece : Bool → List ℕ → List ℕ → Head
  Assignment : AssignmentOperator → Head
  Update : UpdateOperator → Bool → Head
  Empty : Head
  OfExpression : Head
  Throw : Head
  Return : Head
  If : Head
  Block : Head

abbrev pub shape_by : Head → Shape
shape_by AbsentPart = shape.Absent
shape_by AList = shape.Listed
shape_by Null = shape.NullLiteral
shape_by This = shape.ThisExpression
shape_by (BooleanValue b) = shape.BooleanLiteral b
shape_by (Number n) = shape.NumericLiteral n
shape_by (BigInt n) = shape.BigIntLiteral n
shape_by (String s) = shape.StringLiteral s
shape_by (PropertyName s) = shape.IdentifierName s
shape_by (Unary o) = shape.UnaryExpression o
shape_by (Binary o) = shape.BinaryExpression o
shape_by (Logical o) = shape.LogicalExpression o
shape_by Conditional = shape.ConditionalExpression
shape_by Sequence = shape.SequenceExpression
shape_by (Call is_optional) = shape.CallExpression is_optional
shape_by New = shape.NewExpression
shape_by (StaticMember is_optional) = shape.StaticMemberExpression is_optional
shape_by (ComputedMember is_optional) = shape.ComputedMemberExpression is_optional
shape_by Chain = shape.ChainExpression
shape_by Array = shape.ArrayExpression
shape_by Object = shape.ObjectExpression
shape_by (Property is_shorthand is_computed) = shape.ObjectProperty Init false is_shorthand is_computed
shape_by Spread = shape.SpreadElement
shape_by (Yield is_delegate) = shape.YieldExpression is_delegate
shape_by Template = shape.TemplateLiteral
shape_by Interpolation = shape.TemplateLiteral
shape_by (Piece is_tail raw cooked) = shape.TemplateElement is_tail raw (Some cooked)
shape_by (Assignment o) = shape.AssignmentExpression o
shape_by (Update o is_prefix) = shape.UpdateExpression o is_prefix
shape_by Empty = shape.EmptyStatement
shape_by OfExpression = shape.ExpressionStatement
shape_by Throw = shape.ThrowStatement
shape_by Return = shape.ReturnStatement
shape_by If = shape.IfStatement
shape_by Block = shape.BlockStatement

-- a tree with its parts left open, each by its index; some neighbours in a list may be one part,
-- however many they are
infixr 60 ◌▹◌
mutual
  pub data Sketch : Type 0 where
    part : ℕ → Sketch
    under : Head → Sketches → Sketch
    list : Items → Sketch

  pub data Sketches : Type 0 where
    end : Sketches
    ◌▹◌ : Sketch → Sketches → Sketches

  pub data Items : Type 0 where
    no_items : Items
    item : Sketch → Items → Items
    items : ℕ → Items → Items

-- what stands for the parts: trees, and lists of neighbours
pub record Parts : Type 0 where
  pub trees : Trees
  pub lists : List Trees

abbrev pub list_at : List Trees → ℕ → Trees
list_at [] i = none
list_at (ts ∷ tss) zero = ts
list_at (ts ∷ tss) (suc i) = list_at tss i

-- the tree with these parts
abbrev mutual
  pub filled : Parts → Sketch → Tree
  filled ps (part i) = child_or_absent ps.trees i
  filled ps (under h ss) = node (shape_by h) [] 0 (all_filled ps ss)
  filled ps (list is) = listed (items_filled ps is)

  pub all_filled : Parts → Sketches → Trees
  all_filled ps end = none
  all_filled ps (s ▹ ss) = filled ps s ▸ all_filled ps ss

  pub items_filled : Parts → Items → Trees
  items_filled ps no_items = none
  items_filled ps (item s is) = filled ps s ▸ items_filled ps is
  items_filled ps (items i is) = append (list_at ps.lists i) (items_filled ps is)

-- ---- how a part stands: as the whole statement or list, or as a statement of that list; as an expression or a list of them;
-- as a property's name; as what a template holds, pieces of text or parts; as what is assigned to,
-- or updated; as a branch; as a statement of a block, or their list

pub data Asked : Type 0 where
  AsWhole : Asked
  AsWholeList : Asked
  AsWholeItem : Asked
  AsValue : Asked
  AsValues : Asked
  AsWord : Asked
  AsHeld : Asked
  AsTarget : Asked
  AsUpdated : Asked
  AsBranch : Asked
  AsItems : Asked
  AsItem : Asked

abbrev pub item_asked : Asked → Asked
item_asked AsWholeList = AsWholeItem
item_asked AsValues = AsValue
item_asked AsItems = AsItem
item_asked c = c

abbrev pub target_asked : AssignmentOperator → Asked
target_asked Assign = AsTarget
target_asked o = AsUpdated

-- what is spread is an expression; where none stands, nothing is asked of it
abbrev pub spread_asked : Asked → Asked
spread_asked AsValue = AsValue
spread_asked c = AsWord

-- where a template is an expression, so is each of its parts
abbrev pub parts_asked : Asked → Asked
parts_asked AsValue = AsValues
parts_asked c = AsHeld

-- a key that stands in brackets is an expression
abbrev pub key_asked : Bool → Asked
key_asked true = AsValue
key_asked false = AsWord

abbrev pub asked_below : Head → Asked → ℕ → Asked
asked_below AList c i = item_asked c
asked_below Sequence c i = AsValues
asked_below Array c i = AsValues
asked_below Object c i = AsValues
asked_below (Property is_shorthand is_computed) c zero = key_asked is_computed
asked_below Spread c i = spread_asked c
asked_below (Call is_optional) c (suc i) = AsValues
asked_below New c (suc i) = AsValues
asked_below (StaticMember is_optional) c (suc i) = AsWord
asked_below Template c i = AsHeld
asked_below Interpolation c zero = AsHeld
asked_below Interpolation c (suc i) = parts_asked c
asked_below (Assignment o) c zero = target_asked o
asked_below (Update o is_prefix) c i = AsUpdated
asked_below If c (suc i) = AsBranch
asked_below Block c i = AsItems
asked_below h c i = AsValue

-- how its names are used, where those of the whole are used so
abbrev pub use_by : Use → Asked → Use
use_by v AsWhole = v
use_by v AsWholeList = v
use_by v AsWholeItem = v
use_by v AsTarget = Write
use_by v AsUpdated = ReadWrite
use_by v AsBranch = Alone
use_by v c = Read

-- a jump out of the body around
pub data Leap : Type 0 where
  Returning : Leap
  Yielding : Leap

abbrev pub leaps : Head → List Leap
leaps Return = Returning ∷ []
leaps (Yield is_delegate) = Yielding ∷ []
leaps h = []

-- ---- the parts of a tree, in order, each as it stands, and the jumps among them

pub data Hole : Type 0 where
  Part : ℕ → Asked → Hole
  Stretch : ℕ → Asked → Hole
  Leaps : Leap → Hole

abbrev pub leap_holes : List Leap → List Hole
leap_holes [] = []
leap_holes (l ∷ ls) = Leaps l ∷ leap_holes ls

abbrev mutual
  pub parts_of : Asked → Sketch → List Hole
  parts_of c (part i) = Part i c ∷ []
  parts_of c (under h ss) = leap_holes (leaps h) ++ parts_from (asked_below h c) 0 ss
  parts_of c (list is) = parts_in (item_asked c) is

  pub parts_from : (ℕ → Asked) → ℕ → Sketches → List Hole
  parts_from cs i end = []
  parts_from cs i (s ▹ ss) = parts_of (cs i) s ++ parts_from cs (suc i) ss

  pub parts_in : Asked → Items → List Hole
  parts_in c no_items = []
  parts_in c (item s is) = parts_of c s ++ parts_in c is
  parts_in c (items i is) = Stretch i c ∷ parts_in c is

abbrev pub asked_number : Asked → ℕ
asked_number AsWhole = 0
asked_number AsWholeList = 1
asked_number AsWholeItem = 2
asked_number AsValue = 3
asked_number AsValues = 4
asked_number AsWord = 5
asked_number AsBranch = 6
asked_number AsItems = 7
asked_number AsItem = 8
asked_number AsTarget = 9
asked_number AsUpdated = 10
asked_number AsHeld = 11

abbrev pub is_same_leap : Leap → Leap → Bool
is_same_leap Returning Returning = true
is_same_leap Yielding Yielding = true
is_same_leap l k = false

abbrev pub is_same_hole : Hole → Hole → Bool
is_same_hole (Part i c) (Part j d) = nat_eq i j && nat_eq (asked_number c) (asked_number d)
is_same_hole (Stretch i c) (Stretch j d) = nat_eq i j && nat_eq (asked_number c) (asked_number d)
is_same_hole (Leaps l) (Leaps k) = is_same_leap l k
is_same_hole g h = false

abbrev pub stands_in : List Hole → Hole → Bool
stands_in [] h = false
stands_in (g ∷ gs) h = is_same_hole g h || stands_in gs h

abbrev pub without : List Hole → Hole → List Hole
without [] h = []
without (g ∷ gs) h = if is_same_hole g h then gs else g ∷ without gs h

-- each part of the second stands as often in the first, or more often
abbrev pub has_as_often : List Hole → List Hole → Bool
has_as_often gs [] = true
has_as_often gs (h ∷ hs) = stands_in gs h && has_as_often (without gs h) hs

-- each stands in it
abbrev pub has_each : List Hole → List Hole → Bool
has_each gs [] = true
has_each gs (h ∷ hs) = stands_in gs h && has_each gs hs

-- ---- what may become of parts: one whose place doesn't matter stands in another; one that leaves nothing behind is dropped

pub record Free : Type 0 where
  -- statements, and lists of them, that aren't scoped
  pub moved : List ℕ
  pub lists_moved : List ℕ
  -- parts that hold nothing
  pub dropped : List ℕ

-- nothing is moved or dropped
abbrev pub still : Free
still = record { moved = []; lists_moved = []; dropped = [] }

abbrev pub is_among : List ℕ → ℕ → Bool
is_among [] i = false
is_among (j ∷ js) i = nat_eq j i || is_among js i

abbrev pub is_statement_asked : Asked → Bool
is_statement_asked AsWholeItem = true
is_statement_asked AsBranch = true
is_statement_asked AsItem = true
is_statement_asked c = false

abbrev pub settled_as : Bool → Asked → Asked
settled_as b c = if b && is_statement_asked c then AsItem else c

-- wherever a part that may be moved stands, it stands as a statement
abbrev pub settled : Free → Hole → Hole
settled f (Part i c) = Part i (settled_as (is_among f.moved i) c)
settled f (Stretch i c) = Stretch i (settled_as (is_among f.lists_moved i) c)
settled f (Leaps l) = Leaps l

abbrev pub all_settled : Free → List Hole → List Hole
all_settled f [] = []
all_settled f (h ∷ hs) = settled f h ∷ all_settled f hs

-- those that must stay, jumps aside
abbrev pub stays : Free → Hole → Bool
stays f (Part i c) = not (is_among f.dropped i)
stays f (Stretch i c) = true
stays f (Leaps l) = false

abbrev pub staying : Free → List Hole → List Hole
staying f [] = []
staying f (h ∷ hs) = if stays f h then h ∷ staying f hs else staying f hs

-- the parts are the same but for those that are dropped, and each stands in the second at most as
-- often as in the first
abbrev pub is_rearranged : Free → List Hole → List Hole → Bool
is_rearranged f hs gs = has_as_often (all_settled f hs) (all_settled f gs) && has_each (all_settled f gs) (staying f (all_settled f hs))

-- ---- where heads stand

abbrev pub is_expression_head : Head → Bool
is_expression_head AbsentPart = false
is_expression_head AList = false
is_expression_head (PropertyName s) = false
is_expression_head Spread = false
is_expression_head Interpolation = false
is_expression_head (Piece is_tail raw cooked) = false
is_expression_head Empty = false
is_expression_head OfExpression = false
is_expression_head Throw = false
is_expression_head Return = false
is_expression_head If = false
is_expression_head Block = false
is_expression_head h = true

abbrev pub is_statement_head : Head → Bool
is_statement_head Empty = true
is_statement_head OfExpression = true
is_statement_head Throw = true
is_statement_head Return = true
is_statement_head If = true
is_statement_head Block = true
is_statement_head h = false

abbrev pub is_absent_head : Head → Bool
is_absent_head AbsentPart = true
is_absent_head h = false

-- an expression, or what is spread, or nothing
abbrev pub is_operand_head : Head → Bool
is_operand_head AbsentPart = true
is_operand_head Spread = true
is_operand_head h = is_expression_head h

abbrev pub is_word_head : Head → Bool
is_word_head (PropertyName s) = true
is_word_head (String s) = true
is_word_head (Number n) = true
is_word_head h = false

abbrev pub is_piece_head : Head → Bool
is_piece_head (Piece is_tail raw cooked) = true
is_piece_head h = false

abbrev pub is_member_head : Head → Bool
is_member_head (StaticMember is_optional) = true
is_member_head (ComputedMember is_optional) = true
is_member_head h = false

abbrev pub stands_as : Asked → Head → Bool
stands_as AsValue h = is_operand_head h
stands_as AsWord h = is_word_head h
stands_as AsHeld h = is_piece_head h
stands_as AsTarget h = is_member_head h
stands_as AsUpdated h = is_member_head h
stands_as AsWhole h = is_statement_head h
stands_as AsWholeItem h = is_statement_head h
stands_as AsBranch h = is_statement_head h || is_absent_head h
stands_as AsItem h = is_statement_head h
stands_as c h = false

abbrev pub is_list_asked : Asked → Bool
is_list_asked AsWholeList = true
is_list_asked AsValues = true
is_list_asked AsHeld = true
is_list_asked AsItems = true
is_list_asked c = false

-- in a block are no scoped statements
abbrev pub is_loose : Free → Asked → ℕ → Bool
is_loose f AsItem i = is_among f.moved i
is_loose f AsItems i = false
is_loose f c i = true

abbrev pub are_loose : Free → Asked → ℕ → Bool
are_loose f AsItem i = is_among f.lists_moved i
are_loose f c i = true

-- each head stands where it may
abbrev mutual
  pub stands_well : Free → Asked → Sketch → Bool
  stands_well f c (part i) = is_loose f c i
  stands_well f c (under h ss) = stands_as c h && all_stand_well f (asked_below h c) 0 ss
  stands_well f c (list is) = is_list_asked c && items_stand_well f (item_asked c) is

  pub all_stand_well : Free → (ℕ → Asked) → ℕ → Sketches → Bool
  all_stand_well f cs i end = true
  all_stand_well f cs i (s ▹ ss) = stands_well f (cs i) s && all_stand_well f cs (suc i) ss

  pub items_stand_well : Free → Asked → Items → Bool
  items_stand_well f c no_items = true
  items_stand_well f c (item s is) = stands_well f c s && items_stand_well f c is
  items_stand_well f c (items i is) = are_loose f c i && items_stand_well f c is

-- ---- the parts that may declare names around, in order

abbrev pub is_declaring : Asked → Bool
is_declaring AsWhole = true
is_declaring AsWholeList = true
is_declaring AsWholeItem = true
is_declaring AsBranch = true
is_declaring AsItems = true
is_declaring AsItem = true
is_declaring c = false

abbrev pub is_declaring_hole : Hole → Bool
is_declaring_hole (Part i c) = is_declaring c
is_declaring_hole (Stretch i c) = is_declaring c
is_declaring_hole (Leaps l) = false

abbrev pub statements : List Hole → List Hole
statements [] = []
statements (h ∷ hs) = if is_declaring_hole h then h ∷ statements hs else statements hs

abbrev pub are_same_holes : List Hole → List Hole → Bool
are_same_holes [] [] = true
are_same_holes (g ∷ gs) (h ∷ hs) = is_same_hole g h && are_same_holes gs hs
are_same_holes gs hs = false

-- ---- what is built anew

-- an expression is written for an expression, and what is read is no mere part
abbrev pub is_expression : Sketch → Bool
is_expression (part i) = true
is_expression (under h ss) = is_expression_head h
is_expression (list is) = false

abbrev pub rearranges_expression : Free → Sketch → Sketch → Bool
rearranges_expression f (under h ss) r = is_expression_head h && (is_expression r && (stands_well f AsValue (under h ss) && (stands_well f AsValue r && is_rearranged f (parts_of AsValue (under h ss)) (parts_of AsValue r))))
rearranges_expression f s r = false

abbrev pub keeps_statements : Free → List Hole → List Hole → Bool
keeps_statements f hs gs = is_rearranged f hs gs && are_same_holes (statements (all_settled f gs)) (statements (all_settled f hs))

-- a statement for a statement, neither a mere part
abbrev pub rearranges_statement : Free → Sketch → Sketch → Bool
rearranges_statement f (under h ss) (under g rs) = stands_well f AsWhole (under h ss) && (stands_well f AsWhole (under g rs) && keeps_statements f (parts_of AsWhole (under h ss)) (parts_of AsWhole (under g rs)))
rearranges_statement f s r = false

-- a list of statements for another
abbrev pub rearranges_list : Free → Items → Items → Bool
rearranges_list f is js = items_stand_well f AsWholeItem is && (items_stand_well f AsWholeItem js && keeps_statements f (parts_in AsWholeItem is) (parts_in AsWholeItem js))

-- ---- a branch that is written once

abbrev pub is_branch_hole : Hole → Bool
is_branch_hole (Part i AsBranch) = true
is_branch_hole h = false

-- the second is the first, but that a branch stands twice in it, one right after the other
abbrev pub has_branch_twice : List Hole → List Hole → Bool
has_branch_twice (g ∷ gs) (h ∷ (k ∷ hs)) = is_same_hole g h && ((is_branch_hole h && (is_same_hole h k && are_same_holes gs hs)) || has_branch_twice gs (k ∷ hs))
has_branch_twice gs hs = false

-- a list of statements for another, in which a branch stands twice
abbrev pub rearranges_list_once : Free → Items → Items → Bool
rearranges_list_once f is js =
    items_stand_well f AsWholeItem is && (items_stand_well f AsWholeItem js && (is_rearranged f (parts_in AsWholeItem is) (parts_in AsWholeItem js) && has_branch_twice (statements (all_settled f (parts_in AsWholeItem js))) (statements (all_settled f (parts_in AsWholeItem is)))))
