-- 46, `inject_optional_chaining_if_matched`: `x == null ? void 0 : x.m` becomes `x?.m`, and so do
-- other members and calls over x, and `x != null ? x.m : void 0`; where a scope declares x, and it
-- isn't named `eval`. As a callee and under `delete` it stands behind a `0`.
use Rattle.std.specs.Prelude.{Bool, true, false, not, ◌&&◌, ◌||◌, List, [], ◌∷◌, Option, Some, None, codes, if◌then◌else◌}
use Rattle.mini_model.specs.declared.name.Name.{Name}
use Rattle.mini_model.specs.declared.seat.Seat.{Seat}
use Rattle.mini_model.specs.declared.shape.Shape.{Shape}
use Rattle.mini_model.specs.declared.shape.Shape.TheVariants as shape
use Rattle.mini_model.specs.Tree.{Tree, Trees, node, none, ◌▸◌, absent, children, child_or_absent, shape_of}
use Rattle.mini_model.specs.Weight.{same_text}
use Rattle.mini_node.specs.Children.{part, names_of, without, with_inserted}
use Rattle.mini_node.specs.Equal.{same_tree}
use Rattle.mini_node.specs.Kinds.{is_conditional, is_identifier, is_null, is_static_member, is_computed_member, is_call_expression, binary_operator}
use Rattle.mini_terms.specs.Exact.{kept_by_value}
use Rattle.mini_rows.specs.Chains.{is_word_shape, is_calm, are_calm, chain}
use Rattle.mini_choices.specs.Assigning.{is_declared}
use Rattle.mini_choices.specs.Forms.{is_undefined}
use Rattle.mini_choices.specs.MinimizeConditionalBranches.{is_equal_in, is_unequal_in}

-- `a.k`, `a[k]` or `a(b, c)`, whose key or arguments end no chain
abbrev pub is_link : Tree → Bool
is_link t = (is_static_member t && is_word_shape (shape_of (part t 1))) || ((is_computed_member t && is_calm (part t 1)) || (is_call_expression t && are_calm (children (part t 1))))

-- links over this name
abbrev mutual
  pub is_spine : Tree → Tree → Bool
  is_spine x (node h xs n ts) = is_link (node h xs n ts) && is_over x ts

  pub is_over : Tree → Trees → Bool
  is_over x none = false
  is_over x (t ▸ ts) = if is_identifier t then same_tree t x else is_spine x t

-- the optional form of a link
abbrev pub opened : Shape → Shape
opened (shape.CallExpression is_optional) = shape.CallExpression true
opened (shape.StaticMemberExpression is_optional) = shape.StaticMemberExpression true
opened (shape.ComputedMemberExpression is_optional) = shape.ComputedMemberExpression true
opened h = h

-- another first child
abbrev pub with_first : Trees → Tree → Trees
with_first ts t = with_inserted (without ts 0) 0 t

-- the first of the links, over the name, is optional, and stands over this
abbrev mutual
  pub optional_over : Tree → Tree → Tree
  optional_over u (node h xs n ts) = if is_link (node h xs n ts) then (if is_identifier (child_or_absent ts 0) then node (opened h) xs n (with_first ts u) else node h xs n (with_first ts (optional_in u ts))) else node h xs n ts

  pub optional_in : Tree → Trees → Tree
  optional_in u none = absent
  optional_in u (t ▸ ts) = optional_over u t

-- the chain of this branch, over what the test compares
abbrev pub chained : Tree → Tree → Tree
chained t branch = chain (optional_over (part (part t 0) 0) branch)

abbrev pub is_eval : List Name → Bool
is_eval (x ∷ []) = same_text x.spelling (codes "eval")
is_eval _ = false

-- it compares a name with null, which a scope declares, and which isn't `eval`
abbrev pub asks_name : Tree → Bool
asks_name t = is_null (part t 1) && (is_identifier (part t 0) && (is_declared (part t 0) && not (is_eval (names_of (part t 0)))))

-- of a test that does, undefined is written for one branch, and the other reads what the name holds
abbrev pub reads_name : Tree → Tree → Tree → Bool
reads_name test missing read = asks_name test && (is_undefined missing && is_spine (part test 0) read)

-- `x == null ? void 0 : x.m`
abbrev pub is_read_last : Tree → Bool
is_read_last t = is_conditional t && (is_equal_in (binary_operator (part t 0)) && reads_name (part t 0) (part t 1) (part t 2))

-- `x != null ? x.m : void 0`
abbrev pub is_read_first : Tree → Bool
is_read_first t = is_conditional t && (is_unequal_in (binary_operator (part t 0)) && reads_name (part t 0) (part t 2) (part t 1))

abbrev pub first_written : Seat → Tree → Option Tree
first_written s t = if is_read_first t then Some (kept_by_value s.guard (chained t (part t 1))) else None

abbrev pub written : Seat → Tree → Option Tree
written s t = if is_read_last t then Some (kept_by_value s.guard (chained t (part t 2))) else first_written s t
