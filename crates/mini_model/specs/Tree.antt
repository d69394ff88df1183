-- The plain form of a syntax tree: a node with its shape, the names that stand in it, its number
-- and its children. The shapes and their fields follow ESTree (ES5 to ES2022).
use Rattle.std.specs.Prelude.{ℕ, zero, suc, ◌+◌, ◌≡◌, refl, Bool, true, false, List, [], ◌∷◌, Option, Some, None}
use Rattle.std.proofs.Common.{◌∙◌, ap}
use Rattle.std.specs.Coded.{Coded, code_by, coded×, coded_ℕ, coded_list, coded_option}
use Rattle.mini_model.specs.declared.operator.LogicalOperator.{LogicalOperator}
use Rattle.mini_model.specs.declared.operator.UnaryOperator.{UnaryOperator}
use Rattle.mini_model.specs.declared.operator.UnaryOperator.TheVariants.{LogicalNot}
use Rattle.mini_model.specs.declared.name.Name.{Name}
use Rattle.mini_model.specs.contracts.name.Name as name'
use Rattle.mini_model.specs.declared.shape.Shape.{Shape}
use Rattle.mini_model.specs.declared.shape.Shape.TheVariants as shape
use Rattle.mini_model.specs.contracts.shape.Shape as shape'

infixr 60 ◌▸◌
mutual
  -- a number is 0 where the node has none
  pub data Tree : Type 0 where
    node : Shape → List Name → ℕ → Trees → Tree

  pub data Trees : Type 0 where
    none : Trees
    ◌▸◌ : Tree → Trees → Trees

-- how many nodes there are
abbrev mutual
  pub node_count : Tree → ℕ
  node_count (node h xs n ts) = 1 + node_counts ts

  pub node_counts : Trees → ℕ
  node_counts none = 0
  node_counts (t ▸ ts) = node_count t + node_counts ts

-- how many trees there are in a list
abbrev pub count : Trees → ℕ
count none = 0
count (t ▸ ts) = suc (count ts)

-- reading definitions: one function a node

-- a name that no scope declares
abbrev pub unresolved : List ℕ → Name
unresolved s = record { spelling = s; symbol = None }

abbrev pub leaf : Shape → Tree
leaf h = node h [] 0 none

abbrev pub absent : Tree
absent = leaf shape.Absent

abbrev pub listed : Trees → Tree
listed ts = node shape.Listed [] 0 ts

abbrev pub program : Bool → List (List ℕ) → Trees → Tree
program is_module directives body = node (shape.Program is_module directives) [] 0 (listed body ▸ none)

abbrev pub empty_statement : Tree
empty_statement = leaf shape.EmptyStatement

abbrev pub expression_statement : Tree → Tree
expression_statement e = node shape.ExpressionStatement [] 0 (e ▸ none)

abbrev pub if_else : Tree → Tree → Tree → Tree
if_else a b c = node shape.IfStatement [] 0 (a ▸ b ▸ c ▸ none)

-- without `else`
abbrev pub if_alone : Tree → Tree → Tree
if_alone a b = if_else a b absent

abbrev pub identifier : Name → Tree
identifier x = node shape.Identifier (x ∷ []) 0 none

abbrev pub null_literal : Tree
null_literal = leaf shape.NullLiteral

abbrev pub unary : UnaryOperator → Tree → Tree
unary o a = node (shape.UnaryExpression o) [] 0 (a ▸ none)

-- `!a`
abbrev pub negation : Tree → Tree
negation a = unary LogicalNot a

abbrev pub logical : LogicalOperator → Tree → Tree → Tree
logical o a b = node (shape.LogicalExpression o) [] 0 (a ▸ b ▸ none)

abbrev pub conditional : Tree → Tree → Tree → Tree
conditional a b c = node shape.ConditionalExpression [] 0 (a ▸ b ▸ c ▸ none)

abbrev pub call : Bool → Tree → Trees → Tree
call optional f arguments = node (shape.CallExpression optional) [] 0 (f ▸ listed arguments ▸ none)

-- the trees of a list's items, and of a part that may be absent
abbrev pub trees : {A : Type 0} → (A → Tree) → List A → Trees
trees f [] = none
trees f (x ∷ xs) = f x ▸ trees f xs

abbrev pub maybe : {A : Type 0} → (A → Tree) → Option A → Tree
maybe f None = absent
maybe f (Some x) = f x

-- whether a part is absent
abbrev pub is_absent_shape : Shape → Bool
is_absent_shape shape.Absent = true
is_absent_shape _ = false

abbrev pub is_absent : Tree → Bool
is_absent (node h xs n ts) = is_absent_shape h

abbrev pub shape_of : Tree → Shape
shape_of (node h xs n ts) = h

abbrev pub children : Tree → Trees
children (node h xs n ts) = ts

-- the child at a place, or nothing
abbrev pub child_or_absent : Trees → ℕ → Tree
child_or_absent none i = absent
child_or_absent (t ▸ ts) zero = t
child_or_absent (t ▸ ts) (suc i) = child_or_absent ts i

-- a tree as a list of tokens, by which a proof tells trees apart: none is None, and what a node
-- holds beside its children stands behind the tokens of its children and of those after it

abbrev pub Head : Type 0
Head = Shape × (List Name × ℕ)

abbrev mutual
  pub first_tokens : Tree → (List (Option Head) → List (Option Head)) → List (Option Head) → List (Option Head)
  first_tokens (node h xs n ts) others r = tokens ts (others (Some (h, (xs, n)) ∷ r))

  pub tokens : Trees → List (Option Head) → List (Option Head)
  tokens none r = None ∷ r
  tokens (t ▸ ts) r = first_tokens t (tokens ts) r

abbrev pub joined : Head → List Trees → List Trees
joined h (b ∷ a ∷ stack) = (node h.0 h.1.0 h.1.1 a ▸ b) ∷ stack
joined h _ = []

abbrev pub parse : List (Option Head) → List Trees → List Trees
parse [] stack = stack
parse (None ∷ r) stack = parse r (none ∷ stack)
parse (Some h ∷ r) stack = parse r (joined h stack)

mutual
  first_parsed : (t : Tree) (others : List (Option Head) → List (Option Head)) (ts : Trees) →
      ((r : List (Option Head)) (stack : List Trees) → parse (others r) stack ≡ parse r (ts ∷ stack)) →
      (r : List (Option Head)) (stack : List Trees) → parse (first_tokens t others r) stack ≡ parse r ((t ▸ ts) ∷ stack)
  first_parsed (node h xs n ks) others ts o r stack = parsed ks (others (Some (h, (xs, n)) ∷ r)) stack ∙ o (Some (h, (xs, n)) ∷ r) (ks ∷ stack)

  pub parsed : (ts : Trees) (r : List (Option Head)) (stack : List Trees) → parse (tokens ts r) stack ≡ parse r (ts ∷ stack)
  parsed none r stack = refl
  parsed (t ▸ ts) r stack = first_parsed t (tokens ts) ts (parsed ts) r stack

abbrev pub whole : List Trees → Trees
whole [] = none
whole (ts ∷ stack) = ts

abbrev pub head_code : Coded Head
head_code = coded× shape'.the_row.coded (coded× (coded_list name'.the_row.coded) coded_ℕ)

abbrev pub trees_code : Coded Trees
trees_code = code_by (List (Option Head)) (coded_list (coded_option head_code)) (λ ts. tokens ts []) (λ r. whole (parse r [])) (λ ts. ap whole (parsed ts [] []))

abbrev pub first_or_absent : Trees → Tree
first_or_absent none = absent
first_or_absent (t ▸ ts) = t

abbrev pub tree_code : Coded Tree
tree_code = code_by Trees trees_code (λ t. t ▸ none) first_or_absent (λ t. refl)
