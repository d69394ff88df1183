-- Rows of names that are read once or not at all read a node that is read again.
use Rattle.mini_again.proofs.ChainsAgain.{is_calm_again}
use Rattle.mini_again.proofs.LawScopeListAgain.{has_eval_again, is_eval_again, is_eval_callee_again}
use Rattle.mini_again.proofs.ListsAgain.{declares_nothing_again}
use Rattle.mini_again.proofs.ModelPathsAgain.{append_again}
use Rattle.mini_again.proofs.ModelTreeAgain.{child_or_absent_again, children_again, count_again, is_absent_again, shape_of_again}
use Rattle.mini_again.proofs.ModelWeightAgain.{weight_again}
use Rattle.mini_again.proofs.Names.{if_again, if_all_again, is_same_again}
use Rattle.mini_again.proofs.NestingAgain.{is_shallow_again}
use Rattle.mini_again.proofs.NodeChildrenAgain.{is_bare_again, is_nameless_again, names_of_again, rest_children_again}
use Rattle.mini_again.proofs.NodeKindsAgain.{is_named_leaf_again}
use Rattle.mini_again.proofs.TermEffectsAgain.{ef_again}
use Rattle.mini_again.proofs.TermKindAgain.{kind_again}
use Rattle.mini_again.proofs.TermPartsAgain.{leaves_nothing_again}
use Rattle.mini_again.proofs.TermReadingAgain.{is_item_again, is_plain_part_again, is_typed_by_again}
use Rattle.mini_again.specs.Again.{Renaming, again, all_again, liberties_with_others_in, other_number}
use Rattle.mini_laws.specs.Renaming.{rename_name}
use Rattle.mini_model.specs.Paths.{append}
use Rattle.mini_model.specs.Tree.{Tree, Trees, absent, child_or_absent, children, expression_statement, listed, node, none, shape_of, ◌▸◌}
use Rattle.mini_model.specs.declared.kind.PropertyKind.TheVariants.{Init}
use Rattle.mini_model.specs.declared.kind.VariableDeclarationKind.{VariableDeclarationKind}
use Rattle.mini_model.specs.declared.name.Name.{Name}
use Rattle.mini_model.specs.declared.operator.UnaryOperator.TheVariants.{BitwiseNot, LogicalNot, Typeof, UnaryNegation, UnaryPlus, Void}
use Rattle.mini_model.specs.declared.place.Position.{Position}
use Rattle.mini_model.specs.declared.place.Position.TheVariants.{Elsewhere, Expr, Method, Stmt}
use Rattle.mini_model.specs.declared.shape.Shape.{Shape}
use Rattle.mini_node.specs.Children.{names_of, part, rest_children}
use Rattle.mini_rows.specs.Cases.{switch_case}
use Rattle.mini_rows.specs.Lists.{binding, block, declaration, declarator, for_loop, resolved}
use Rattle.mini_rows.specs.Switches.{Liberties, Switches, without_vars}
use Rattle.mini_rows.specs.Unused.{Alone, ArrowBodyRow, BlockRow, ForHeadRow, ForNextRow, ForRow, FunctionBodyRow, ModuleRow, Row71, Row71Next, Row72, Row72Idle, StaticBlockRow, SwitchRow, UnusedContracts, UnusedRow, all_passed, any_names, are_passed_in, begins, begins_bare, begins_let, begins_var, begins_with, declared_among, declared_left, declared_one, evaluated, evaluated_hidden, first_value, gathered_below, goes_over, goes_over_let, has_declarator, has_symbol_of, head_left, holds_list, is_called_by, is_childless, is_constant, is_first, is_like_one, is_own_key, leads, leads_to, may_hold, names, passes_at, passes_branch, passes_item, put_among, put_first, reads_first, reads_head, suits_in, suits_under, switch_around, takes_name}
use Rattle.mini_rows.specs.declared.gathered.Gathered.{Gathered}
use Rattle.mini_rows.specs.declared.gathered.Gathered.TheVariants.{Texts as OfTexts, Values as OfValues}
use Rattle.std.proofs.Common.{ap, inl, inr}
use Rattle.std.specs.Prelude.{Bool, List, [], false, if◌then◌else◌, map, refl, suc, true, zero, ℕ, ◌∷◌, ◌≡◌}
use Rattle.mini_model.specs.declared.shape.Shape.TheVariants as shape

pub is_like_one_again : (ρ : Renaming) (x : Name) (xs : List Name) → is_like_one (rename_name ρ.symbol x) (map (rename_name ρ.symbol) xs) ≡ is_like_one x xs
is_like_one_again ρ x [] = refl
is_like_one_again ρ x (y ∷ ys) = simp (is_same_again ρ x.symbol y.symbol, is_like_one_again ρ x ys)

mutual
  pub any_names_again : (ρ : Renaming) (x : Name) (ts : Trees) → any_names (rename_name ρ.symbol x) (all_again ρ ts) ≡ any_names x ts
  any_names_again ρ x none = refl
  any_names_again ρ x (t ▸ ts) = simp (names_again ρ x t, any_names_again ρ x ts)

  pub names_again : (ρ : Renaming) (x : Name) (t : Tree) → names (rename_name ρ.symbol x) (again ρ t) ≡ names x t
  names_again ρ x (node h xs n ts) = simp (is_like_one_again ρ x xs, any_names_again ρ x ts)

pub alone_again : (ρ : Renaming) (k : VariableDeclarationKind) (x : Name) (before first : Trees) (init : Tree) (last after : Trees) → Alone k x before first init last after → Alone k (rename_name ρ.symbol x) (all_again ρ before) (all_again ρ first) (again ρ init) (all_again ρ last) (all_again ρ after)
alone_again ρ k x before first init last after r = record {
  earlier = simp (any_names_again ρ x before) r.earlier;
  declared_earlier = simp (any_names_again ρ x first) r.declared_earlier;
  initial = simp (names_again ρ x init) r.initial;
  declared_later = simp (any_names_again ρ x last) r.declared_later;
  later = simp (any_names_again ρ x after) r.later;
  unseen = simp (append_again ρ first (declarator (binding x) init ▸ last), append_again ρ before (declared_among k x first init last ▸ after), has_eval_again ρ (block (append before (declared_among k x first init last ▸ after)))) r.unseen;
}

pub is_constant_again : (ρ : Renaming) (t : Tree) → is_constant (again ρ t) ≡ is_constant t
is_constant_again ρ (node h ys n (t ▸ none)) = simp (shape_of_again ρ t)
is_constant_again ρ (node h ys n ts) = refl

pub passes_branch_again : (ρ : Renaming) (r : Tree) (i : ℕ) (t : Tree) → passes_branch (again ρ r) i (again ρ t) ≡ passes_branch r i t
passes_branch_again ρ r zero t = simp (is_constant_again ρ r, is_constant_again ρ t, ef_again ρ true r, ef_again ρ true t, is_item_again ρ t)
passes_branch_again ρ r (suc i) t = refl

pub passes_item_again : (ρ : Renaming) (gathered : Gathered) (r t : Tree) → passes_item gathered (again ρ r) (again ρ t) ≡ passes_item gathered r t
passes_item_again ρ OfTexts r t = simp (is_constant_again ρ r, is_constant_again ρ t, ef_again ρ true r, ef_again ρ true t, is_item_again ρ t, kind_again ρ t)
passes_item_again ρ gathered r t = simp (is_constant_again ρ r, is_constant_again ρ t, ef_again ρ true r, ef_again ρ true t, is_item_again ρ t, shape_of_again ρ t, is_bare_again ρ t 2, children_again ρ t, child_or_absent_again ρ (children t) 0, shape_of_again ρ (part t 0), child_or_absent_again ρ (children t) 1, is_constant_again ρ (part t 1), ef_again ρ true (part t 1), is_item_again ρ (part t 1))

pub passes_at_again : (ρ : Renaming) (gathered : Gathered) (r : Tree) (h : Shape) (i : ℕ) (t : Tree) → passes_at gathered (again ρ r) h i (again ρ t) ≡ passes_at gathered r h i t
passes_at_again ρ gathered r (shape.AssignmentExpression o) i t = simp (is_constant_again ρ r, shape_of_again ρ t, is_bare_again ρ t 2, children_again ρ t, child_or_absent_again ρ (children t) 0, is_constant_again ρ (part t 0), ef_again ρ true r, ef_again ρ true (part t 0), is_item_again ρ (part t 0), child_or_absent_again ρ (children t) 1, shape_of_again ρ (part t 1), is_constant_again ρ (part t 1), ef_again ρ true (part t 1), is_item_again ρ (part t 1), is_named_leaf_again ρ t, ef_again ρ true t)
passes_at_again ρ gathered r shape.ConditionalExpression i t = simp (passes_branch_again ρ r i t)
passes_at_again ρ gathered r (shape.ObjectProperty k is_method is_shorthand is_computed) i t = simp (is_constant_again ρ r, shape_of_again ρ t)
passes_at_again ρ gathered r shape.Listed i t = simp (passes_item_again ρ gathered r t)
passes_at_again ρ gathered r shape.TemplateLiteral i t = refl
passes_at_again ρ gathered r h i t = simp (is_constant_again ρ r, is_constant_again ρ t, ef_again ρ true r, ef_again ρ true t, is_item_again ρ t)

pub is_childless_again : (ρ : Renaming) (t : Tree) → is_childless (again ρ t) ≡ is_childless t
is_childless_again ρ (node h ys n none) = refl
is_childless_again ρ t = refl

pub begins_bare_again : (ρ : Renaming) (x : Name) (ts : Trees) → begins_bare (rename_name ρ.symbol x) (all_again ρ ts) ≡ begins_bare x ts
begins_bare_again ρ x none = refl
begins_bare_again ρ x (t ▸ ts) = simp (is_childless_again ρ t, names_again ρ x t)

pub begins_with_again : (ρ : Renaming) (x : Name) (ts : Trees) → begins_with (rename_name ρ.symbol x) (all_again ρ ts) ≡ begins_with x ts
begins_with_again ρ x none = refl
begins_with_again ρ x (t ▸ ts) = simp (names_again ρ x t)

pub suits_in_again : (ρ : Renaming) (r : Tree) (h : Shape) → suits_in (again ρ r) h ≡ suits_in r h
suits_in_again ρ r shape.ChainExpression = simp (is_calm_again ρ r)
suits_in_again ρ r h = refl

pub is_called_by_again : (ρ : Renaming) (h : Shape) (xs : List Name) → is_called_by h (map (rename_name ρ.symbol) xs) ≡ is_called_by h xs
is_called_by_again ρ shape.Identifier xs = simp (is_eval_again ρ xs)
is_called_by_again ρ h xs = refl

pub suits_under_again : (ρ : Renaming) (r : Tree) (h : Shape) → suits_under (again ρ r) h ≡ suits_under r h
suits_under_again ρ r (shape.UnaryExpression UnaryNegation) = simp (shape_of_again ρ r)
suits_under_again ρ r (shape.UnaryExpression Typeof) = simp (shape_of_again ρ r, names_of_again ρ r, is_typed_by_again ρ (shape_of r) (names_of r))
suits_under_again ρ r (shape.CallExpression is_optional) = simp (shape_of_again ρ r, names_of_again ρ r, is_called_by_again ρ (shape_of r) (names_of r))
suits_under_again ρ r h = refl

mutual
  pub all_passed_again : (ρ : Renaming) (x : Name) (gathered : Gathered) (r : Tree) (h : Shape) (i : ℕ) (ts : Trees) → all_passed (rename_name ρ.symbol x) gathered (again ρ r) h i (all_again ρ ts) ≡ all_passed x gathered r h i ts
  all_passed_again ρ x gathered r h i none = refl
  all_passed_again ρ x gathered r h i (t ▸ ts) = simp (names_again ρ x t, are_passed_in_again ρ x (gathered_below gathered h i) r t, passes_at_again ρ gathered r h i t, all_passed_again ρ x gathered r h (suc i) ts)

  pub are_passed_in_again : (ρ : Renaming) (x : Name) (gathered : Gathered) (r t : Tree) → are_passed_in (rename_name ρ.symbol x) gathered (again ρ r) (again ρ t) ≡ are_passed_in x gathered r t
  are_passed_in_again ρ x gathered r (node h ys n ts) = simp (begins_bare_again ρ x ts, suits_under_again ρ r h, suits_in_again ρ r h, is_constant_again ρ r, ef_again ρ true r, begins_with_again ρ x ts, all_passed_again ρ x gathered r h 0 ts)

pub declared_left_again : (ρ : Renaming) (k : VariableDeclarationKind) (ts : Trees) → declared_left k (all_again ρ ts) ≡ again ρ (declared_left k ts)
declared_left_again ρ k none = refl
declared_left_again ρ k (d ▸ ds) = refl

pub evaluated_again : (ρ : Renaming) (t : Tree) → evaluated (again ρ t) ≡ again ρ (evaluated t)
evaluated_again ρ t = simp (if_again ρ (begins_var t) (first_value (part t 0)) t, if_again ρ (goes_over t) (part t 1) (if begins_var t then first_value (part t 0) else t), if_again ρ (has_declarator t) (first_value t) (if goes_over t then part t 1 else (if begins_var t then first_value (part t 0) else t)), shape_of_again ρ t, is_bare_again ρ t 1, children_again ρ t, child_or_absent_again ρ (children t) 0, shape_of_again ρ (part t 0), is_nameless_again ρ (part t 0), is_childless_again ρ (part t 0), children_again ρ (part t 0), child_or_absent_again ρ (children (part t 0)) 0, shape_of_again ρ (part (part t 0) 0), is_bare_again ρ (part (part t 0) 0) 2, children_again ρ (part (part t 0) 0), child_or_absent_again ρ (children (part (part t 0) 0)) 1, is_bare_again ρ t 3, count_again ρ (children (part t 0)), shape_of_again ρ (child_or_absent (children (part t 0)) 0), children_again ρ (child_or_absent (children (part t 0)) 0), count_again ρ (children (child_or_absent (children (part t 0)) 0)), child_or_absent_again ρ (children (child_or_absent (children (part t 0)) 0)) 0, shape_of_again ρ (child_or_absent (children (child_or_absent (children (part t 0)) 0)) 0), children_again ρ (child_or_absent (children (child_or_absent (children (part t 0)) 0)) 0), count_again ρ (children (child_or_absent (children (child_or_absent (children (part t 0)) 0)) 0)), child_or_absent_again ρ (children (child_or_absent (children (child_or_absent (children (part t 0)) 0)) 0)) 1, is_absent_again ρ (child_or_absent (children (child_or_absent (children (child_or_absent (children (part t 0)) 0)) 0)) 1), child_or_absent_again ρ (children t) 1, is_bare_again ρ t 4, is_bare_again ρ (part t 0) 1, is_nameless_again ρ (part (part t 0) 0), is_childless_again ρ (part (part t 0) 0), child_or_absent_again ρ (children (part (part t 0) 0)) 0, shape_of_again ρ (part (part (part t 0) 0) 0), is_bare_again ρ (part (part (part t 0) 0) 0) 2, children_again ρ (part (part (part t 0) 0) 0), child_or_absent_again ρ (children (part (part (part t 0) 0) 0)) 1)

pub has_symbol_of_again : (ρ : Renaming) (x : Name) (xs : List Name) → has_symbol_of (rename_name ρ.symbol x) (map (rename_name ρ.symbol) xs) ≡ has_symbol_of x xs
has_symbol_of_again ρ x [] = refl
has_symbol_of_again ρ x (y ∷ ys) = simp (is_same_again ρ x.symbol y.symbol)

pub begins_again : (ρ : Renaming) (h : Shape) (t : Tree) → begins h (again ρ t) ≡ begins h t
begins_again ρ (shape.UnaryExpression LogicalNot) t = refl
begins_again ρ (shape.UnaryExpression UnaryPlus) t = refl
begins_again ρ (shape.UnaryExpression UnaryNegation) t = refl
begins_again ρ (shape.UnaryExpression BitwiseNot) t = refl
begins_again ρ (shape.UnaryExpression Typeof) t = refl
begins_again ρ (shape.UnaryExpression Void) t = refl
begins_again ρ (shape.BinaryExpression o) t = refl
begins_again ρ (shape.LogicalExpression o) t = refl
begins_again ρ shape.ConditionalExpression t = refl
begins_again ρ shape.SequenceExpression t = refl
begins_again ρ (shape.CallExpression is_optional) t = simp (is_eval_callee_again ρ t)
begins_again ρ shape.NewExpression t = refl
begins_again ρ shape.ArrayExpression t = refl
begins_again ρ shape.ObjectExpression t = refl
begins_again ρ shape.SpreadElement t = refl
begins_again ρ (shape.ObjectProperty Init false false true) t = refl
begins_again ρ (shape.YieldExpression is_delegate) t = refl
begins_again ρ (shape.StaticMemberExpression is_optional) t = refl
begins_again ρ (shape.ComputedMemberExpression is_optional) t = refl
begins_again ρ (shape.AssignmentExpression o) t = simp (shape_of_again ρ t, is_bare_again ρ t 2)
begins_again ρ (shape.UpdateExpression o is_prefix) t = simp (shape_of_again ρ t, is_bare_again ρ t 2)
begins_again ρ shape.ChainExpression t = simp (is_childless_again ρ t)
begins_again ρ h t = refl

pub leads_again : (ρ : Renaming) (b : Bool) (h : Shape) (i : ℕ) (t : Tree) → leads b h i (again ρ t) ≡ leads b h i t
leads_again ρ true h i t = refl
leads_again ρ false h zero t = simp (begins_again ρ h t)
leads_again ρ false h (suc i) t = refl

pub is_own_key_again : (ρ : Renaming) (t : Tree) → is_own_key (again ρ t) ≡ is_own_key t
is_own_key_again ρ (node (shape.IdentifierName s) [] zero none) = refl
is_own_key_again ρ t = refl

pub may_hold_again : (ρ : Renaming) (t : Tree) → may_hold (again ρ t) ≡ may_hold t
may_hold_again ρ t = simp (is_nameless_again ρ t, shape_of_again ρ t, is_bare_again ρ t 2, children_again ρ t, child_or_absent_again ρ (children t) 0, is_own_key_again ρ (part t 0), child_or_absent_again ρ (children t) 1, is_childless_again ρ (part t 1))

mutual
  pub is_first_again : (ρ : Renaming) (x : Name) (in_list : Bool) (t : Tree) → is_first (rename_name ρ.symbol x) in_list (again ρ t) ≡ is_first x in_list t
  is_first_again ρ x in_list (node h ys n none) = simp (is_named_leaf_again ρ (node h ys n none), names_of_again ρ (node h ys n none), has_symbol_of_again ρ x (names_of (node h ys n none)))
  is_first_again ρ x in_list (node h ys n (t ▸ ts)) = simp (may_hold_again ρ (node h ys n (t ▸ ts)), leads_to_again ρ x in_list h 0 (t ▸ ts))

  pub leads_to_again : (ρ : Renaming) (x : Name) (in_list : Bool) (h : Shape) (i : ℕ) (ts : Trees) → leads_to (rename_name ρ.symbol x) in_list h i (all_again ρ ts) ≡ leads_to x in_list h i ts
  leads_to_again ρ x in_list h i none = refl
  leads_to_again ρ x in_list h i (t ▸ ts) = simp (names_again ρ x t, leads_again ρ in_list h i t, is_first_again ρ x (holds_list h i) t, any_names_again ρ x ts, leads_to_again ρ x in_list h (suc i) ts)

mutual
  pub put_among_again : (ρ : Renaming) (x : Name) (r : Tree) (ts : Trees) → put_among (rename_name ρ.symbol x) (again ρ r) (all_again ρ ts) ≡ all_again ρ (put_among x r ts)
  put_among_again ρ x r none = refl
  put_among_again ρ x r (t ▸ ts) = simp (if_all_again ρ (names x t) (put_first x r t ▸ ts) (t ▸ put_among x r ts), names_again ρ x t, put_first_again ρ x r t, put_among_again ρ x r ts)

  pub put_first_again : (ρ : Renaming) (x : Name) (r t : Tree) → put_first (rename_name ρ.symbol x) (again ρ r) (again ρ t) ≡ again ρ (put_first x r t)
  put_first_again ρ x r (node h ys n none) = refl
  put_first_again ρ x r (node h ys n (t ▸ ts)) = simp (put_among_again ρ x r (t ▸ ts))

pub reads_first_again : (ρ : Renaming) (x : Name) (t : Tree) → reads_first (rename_name ρ.symbol x) (again ρ t) ≡ reads_first x t
reads_first_again ρ x (node h ys n none) = refl
reads_first_again ρ x (node h ys n (t ▸ ts)) = simp (is_nameless_again ρ (node h ys n (t ▸ ts)), is_first_again ρ x false t, any_names_again ρ x ts)

pub reads_head_again : (ρ : Renaming) (x : Name) (t : Tree) → reads_head (rename_name ρ.symbol x) (again ρ t) ≡ reads_head x t
reads_head_again ρ x t = simp (reads_first_again ρ x t, shape_of_again ρ t, is_bare_again ρ t 1, children_again ρ t, child_or_absent_again ρ (children t) 0, shape_of_again ρ (part t 0), is_nameless_again ρ (part t 0), is_childless_again ρ (part t 0), children_again ρ (part t 0), child_or_absent_again ρ (children (part t 0)) 0, shape_of_again ρ (part (part t 0) 0), is_bare_again ρ (part (part t 0) 0) 2, children_again ρ (part (part t 0) 0), child_or_absent_again ρ (children (part (part t 0) 0)) 1, is_first_again ρ x false (part (part (part t 0) 0) 1), child_or_absent_again ρ (children (part (part t 0) 0)) 0, names_again ρ x (part (part (part t 0) 0) 0), rest_children_again ρ 1 (children (part t 0)), any_names_again ρ x (rest_children 1 (children (part t 0))), is_bare_again ρ t 2, is_bare_again ρ t 4, is_first_again ρ x false (part t 0), rest_children_again ρ 1 (children t), any_names_again ρ x (rest_children 1 (children t)), is_bare_again ρ t 3, count_again ρ (children (part t 0)), shape_of_again ρ (child_or_absent (children (part t 0)) 0), children_again ρ (child_or_absent (children (part t 0)) 0), count_again ρ (children (child_or_absent (children (part t 0)) 0)), child_or_absent_again ρ (children (child_or_absent (children (part t 0)) 0)) 0, shape_of_again ρ (child_or_absent (children (child_or_absent (children (part t 0)) 0)) 0), children_again ρ (child_or_absent (children (child_or_absent (children (part t 0)) 0)) 0), count_again ρ (children (child_or_absent (children (child_or_absent (children (part t 0)) 0)) 0)), child_or_absent_again ρ (children (child_or_absent (children (child_or_absent (children (part t 0)) 0)) 0)) 1, is_absent_again ρ (child_or_absent (children (child_or_absent (children (child_or_absent (children (part t 0)) 0)) 0)) 1), child_or_absent_again ρ (children t) 1, is_first_again ρ x false (part t 1), names_again ρ x (part t 0), rest_children_again ρ 2 (children t), any_names_again ρ x (rest_children 2 (children t)), is_bare_again ρ (part t 0) 1, is_nameless_again ρ (part (part t 0) 0), is_childless_again ρ (part (part t 0) 0), shape_of_again ρ (part (part (part t 0) 0) 0), is_bare_again ρ (part (part (part t 0) 0) 0) 2, children_again ρ (part (part (part t 0) 0) 0), child_or_absent_again ρ (children (part (part (part t 0) 0) 0)) 1, is_first_again ρ x false (part (part (part (part t 0) 0) 0) 1), child_or_absent_again ρ (children (part (part (part t 0) 0) 0)) 0, names_again ρ x (part (part (part (part t 0) 0) 0) 0), rest_children_again ρ 1 (children (part (part t 0) 0)), any_names_again ρ x (rest_children 1 (children (part (part t 0) 0))))

pub takes_name_again : (ρ : Renaming) (o : Switches) (h : Shape) (own : Tree) → takes_name o h (again ρ own) ≡ takes_name o h own
takes_name_again ρ o (shape.Function is_declaration is_generator directives) own = simp (shape_of_again ρ own, is_bare_again ρ own 0)
takes_name_again ρ o (shape.ArrowFunctionExpression directives) own = refl
takes_name_again ρ o (shape.Class is_declaration) own = simp (shape_of_again ρ own, is_bare_again ρ own 0)
takes_name_again ρ o h own = refl

unfoldable pub row71_again : (ρ : Renaming) (W : Liberties) (n w : Tree) → Row71 (liberties_with_others_in ρ W) n w → Row71 W (again ρ n) (again ρ w)
row71_again ρ W n w r = record {
  before = all_again ρ r.before;
  kind = r.kind;
  first = all_again ρ r.first;
  spelling = r.spelling;
  symbol = ρ.symbol r.symbol;
  init = again ρ r.init;
  head = again ρ r.head;
  after = all_again ρ r.after;
  goes = r.goes;
  moves = simp (is_plain_part_again ρ r.init, shape_of_again ρ r.init, children_again ρ r.init, child_or_absent_again ρ (children r.init) 0, takes_name_again ρ W.switches (shape_of r.init) (part r.init 0)) r.moves;
  taken = simp (reads_head_again ρ (resolved r.spelling r.symbol) r.head, evaluated_again ρ r.head) (simp (are_passed_in_again ρ (resolved r.spelling r.symbol) OfValues r.init (evaluated r.head), is_shallow_again ρ 250 r.init, is_shallow_again ρ 250 (evaluated r.head), shape_of_again ρ r.init, is_bare_again ρ r.init 0, is_bare_again ρ r.init 1, children_again ρ r.init, child_or_absent_again ρ (children r.init) 0, shape_of_again ρ (part r.init 0), is_bare_again ρ (part r.init 0) 0, shape_of_again ρ r.head, is_bare_again ρ r.head 4, children_again ρ r.head, child_or_absent_again ρ (children r.head) 0, shape_of_again ρ (part r.head 0), is_bare_again ρ (part r.head 0) 1, children_again ρ (part r.head 0), child_or_absent_again ρ (children (part r.head 0)) 0, shape_of_again ρ (part (part r.head 0) 0), is_nameless_again ρ (part (part r.head 0) 0), is_childless_again ρ (part (part r.head 0) 0), children_again ρ (part (part r.head 0) 0), child_or_absent_again ρ (children (part (part r.head 0) 0)) 0, shape_of_again ρ (part (part (part r.head 0) 0) 0), is_bare_again ρ (part (part (part r.head 0) 0) 0) 2, children_again ρ (part (part (part r.head 0) 0) 0), child_or_absent_again ρ (children (part (part (part r.head 0) 0) 0)) 1, is_first_again ρ (resolved r.spelling r.symbol) false (part (part (part (part r.head 0) 0) 0) 1), child_or_absent_again ρ (children (part (part (part r.head 0) 0) 0)) 0, names_again ρ (resolved r.spelling r.symbol) (part (part (part (part r.head 0) 0) 0) 0), rest_children_again ρ 1 (children (part (part r.head 0) 0)), any_names_again ρ (resolved r.spelling r.symbol) (rest_children 1 (children (part (part r.head 0) 0))), rest_children_again ρ 1 (children r.head), any_names_again ρ (resolved r.spelling r.symbol) (rest_children 1 (children r.head)), is_bare_again ρ r.head 3, child_or_absent_again ρ (children r.head) 1, is_first_again ρ (resolved r.spelling r.symbol) false (part r.head 1), names_again ρ (resolved r.spelling r.symbol) (part r.head 0), rest_children_again ρ 2 (children r.head), any_names_again ρ (resolved r.spelling r.symbol) (rest_children 2 (children r.head)), if_again ρ (goes_over_let r.head) (part r.head 1) r.head, if_again ρ (begins_let r.head) (first_value (part r.head 0)) (if goes_over_let r.head then part r.head 1 else r.head), are_passed_in_again ρ (resolved r.spelling r.symbol) OfValues r.init (evaluated_hidden r.head), is_shallow_again ρ 250 (evaluated_hidden r.head)) r.taken);
  earlier = simp (any_names_again ρ (resolved r.spelling r.symbol) r.before) r.earlier;
  declared_earlier = simp (any_names_again ρ (resolved r.spelling r.symbol) r.first) r.declared_earlier;
  initial = simp (names_again ρ (resolved r.spelling r.symbol) r.init) r.initial;
  later = simp (any_names_again ρ (resolved r.spelling r.symbol) r.after) r.later;
  unseen = simp (append_again ρ r.first (declarator (binding (resolved r.spelling r.symbol)) r.init ▸ none), append_again ρ r.before (declared_among r.kind (resolved r.spelling r.symbol) r.first r.init none ▸ (r.head ▸ r.after)), has_eval_again ρ (block (append r.before (declared_among r.kind (resolved r.spelling r.symbol) r.first r.init none ▸ (r.head ▸ r.after))))) r.unseen;
  shape = simp (← (append_again ρ r.first (declarator (binding (resolved r.spelling r.symbol)) r.init ▸ none)), ← (append_again ρ r.before (declared_among r.kind (resolved r.spelling r.symbol) r.first r.init none ▸ (r.head ▸ r.after)))) at (ap (again ρ) r.shape);
  written = simp (← (declared_left_again ρ r.kind r.first), ← (put_first_again ρ (resolved r.spelling r.symbol) r.init r.head), ← (append_again ρ r.before (declared_left r.kind r.first ▸ (put_first (resolved r.spelling r.symbol) r.init r.head ▸ r.after)))) at (ap (again ρ) r.written);
}

unfoldable pub row71_next_again : (ρ : Renaming) (W : Liberties) (n w : Tree) → Row71Next (liberties_with_others_in ρ W) n w → Row71Next W (again ρ n) (again ρ w)
row71_next_again ρ W n w r = record {
  before = all_again ρ r.before;
  kind = r.kind;
  first = all_again ρ r.first;
  spelling = r.spelling;
  symbol = ρ.symbol r.symbol;
  init = again ρ r.init;
  binds = again ρ r.binds;
  value = again ρ r.value;
  last = all_again ρ r.last;
  after = all_again ρ r.after;
  goes = r.goes;
  moves = simp (is_plain_part_again ρ r.init, shape_of_again ρ r.init, children_again ρ r.init, child_or_absent_again ρ (children r.init) 0, takes_name_again ρ W.switches (shape_of r.init) (part r.init 0)) r.moves;
  once = simp (is_first_again ρ (resolved r.spelling r.symbol) false r.value) r.once;
  passed = simp (are_passed_in_again ρ (resolved r.spelling r.symbol) OfValues r.init r.value, is_shallow_again ρ 250 r.init, is_shallow_again ρ 250 r.value) r.passed;
  other = simp (names_again ρ (resolved r.spelling r.symbol) r.binds) r.other;
  earlier = simp (any_names_again ρ (resolved r.spelling r.symbol) r.before) r.earlier;
  declared_earlier = simp (any_names_again ρ (resolved r.spelling r.symbol) r.first) r.declared_earlier;
  initial = simp (names_again ρ (resolved r.spelling r.symbol) r.init) r.initial;
  declared_later = simp (any_names_again ρ (resolved r.spelling r.symbol) r.last) r.declared_later;
  later = simp (any_names_again ρ (resolved r.spelling r.symbol) r.after) r.later;
  unseen = simp (append_again ρ r.first (declarator (binding (resolved r.spelling r.symbol)) r.init ▸ (declarator r.binds r.value ▸ r.last)), append_again ρ r.before (declared_among r.kind (resolved r.spelling r.symbol) r.first r.init (declarator r.binds r.value ▸ r.last) ▸ r.after), has_eval_again ρ (block (append r.before (declared_among r.kind (resolved r.spelling r.symbol) r.first r.init (declarator r.binds r.value ▸ r.last) ▸ r.after)))) r.unseen;
  shape = simp (← (append_again ρ r.first (declarator (binding (resolved r.spelling r.symbol)) r.init ▸ (declarator r.binds r.value ▸ r.last))), ← (append_again ρ r.before (declared_among r.kind (resolved r.spelling r.symbol) r.first r.init (declarator r.binds r.value ▸ r.last) ▸ r.after))) at (ap (again ρ) r.shape);
  written = simp (← (put_first_again ρ (resolved r.spelling r.symbol) r.init r.value), ← (append_again ρ r.first (declarator r.binds (put_first (resolved r.spelling r.symbol) r.init r.value) ▸ r.last)), ← (append_again ρ r.before (declaration r.kind (append r.first (declarator r.binds (put_first (resolved r.spelling r.symbol) r.init r.value) ▸ r.last)) ▸ r.after))) at (ap (again ρ) r.written);
}

unfoldable pub row72_again : (ρ : Renaming) (W : Liberties) (n w : Tree) → Row72 (liberties_with_others_in ρ W) n w → Row72 W (again ρ n) (again ρ w)
row72_again ρ W n w r = record {
  before = all_again ρ r.before;
  kind = r.kind;
  spelling = r.spelling;
  symbol = ρ.symbol r.symbol;
  init = again ρ r.init;
  after = all_again ρ r.after;
  goes = r.goes;
  present = simp (declares_nothing_again ρ r.init) r.present;
  unused = alone_again ρ r.kind (resolved r.spelling r.symbol) r.before none r.init none r.after r.unused;
  shape = simp (← (append_again ρ none (declarator (binding (resolved r.spelling r.symbol)) r.init ▸ none)), ← (append_again ρ r.before (declared_one r.kind (resolved r.spelling r.symbol) r.init ▸ r.after))) at (ap (again ρ) r.shape);
  written = simp (← (append_again ρ r.before (expression_statement r.init ▸ r.after))) at (ap (again ρ) r.written);
}

unfoldable pub row72_idle_again : (ρ : Renaming) (W : Liberties) (n w : Tree) → Row72Idle (liberties_with_others_in ρ W) n w → Row72Idle W (again ρ n) (again ρ w)
row72_idle_again ρ W n w r = record {
  before = all_again ρ r.before;
  kind = r.kind;
  first = all_again ρ r.first;
  spelling = r.spelling;
  symbol = ρ.symbol r.symbol;
  init = again ρ r.init;
  last = all_again ρ r.last;
  after = all_again ρ r.after;
  goes = r.goes;
  idle = simp (shape_of_again ρ r.init, is_bare_again ρ r.init 0, declares_nothing_again ρ r.init, ef_again ρ true r.init, leaves_nothing_again ρ r.init) r.idle;
  unused = alone_again ρ r.kind (resolved r.spelling r.symbol) r.before r.first r.init r.last r.after r.unused;
  shape = simp (← (append_again ρ r.first (declarator (binding (resolved r.spelling r.symbol)) r.init ▸ r.last)), ← (append_again ρ r.before (declared_among r.kind (resolved r.spelling r.symbol) r.first r.init r.last ▸ r.after))) at (ap (again ρ) r.shape);
  written = simp (← (append_again ρ r.first r.last), ← (declared_left_again ρ r.kind (append r.first r.last)), ← (append_again ρ r.before (declared_left r.kind (append r.first r.last) ▸ r.after))) at (ap (again ρ) r.written);
}

unfoldable pub block_row_again : (ρ : Renaming) (W : Liberties) (n w : Tree) → BlockRow (liberties_with_others_in ρ W) n w → BlockRow W (again ρ n) (again ρ w)
block_row_again ρ W n w (inl r) = inl (row72_again ρ W n w r)
block_row_again ρ W n w (inr (inl r)) = inr (inl (row72_idle_again ρ W n w r))
block_row_again ρ W n w (inr (inr (inl r))) = inr (inr (inl (row71_again ρ W n w r)))
block_row_again ρ W n w (inr (inr (inr r))) = inr (inr (inr (row71_next_again ρ W n w r)))

pub arrow_body_row_again : (ρ : Renaming) (W : Liberties) (n w : Tree) → ArrowBodyRow (liberties_with_others_in ρ W) n w → ArrowBodyRow W (again ρ n) (again ρ w)
arrow_body_row_again ρ W n w r = record {
  directives = r.directives;
  number = other_number ρ r.number;
  parameters = all_again ρ r.parameters;
  before = all_again ρ r.before;
  after = all_again ρ r.after;
  row = block_row_again ρ W (block (listed r.parameters ▸ r.before)) (block (listed r.parameters ▸ r.after)) r.row;
  shape = ap (again ρ) r.shape;
  written = ap (again ρ) r.written;
}

pub for_next_row_again : (ρ : Renaming) (o : Switches) (n w : Tree) → ForNextRow o n w → ForNextRow o (again ρ n) (again ρ w)
unfolding row71_next_again
for_next_row_again ρ o n w r = record {
  before = again ρ r.before;
  after = again ρ r.after;
  test = again ρ r.test;
  update = again ρ r.update;
  body = again ρ r.body;
  row = row71_next_again ρ (without_vars o) (block (r.before ▸ (r.test ▸ (r.update ▸ (r.body ▸ none))))) (block (r.after ▸ (r.test ▸ (r.update ▸ (r.body ▸ none))))) r.row;
  begins = ap (all_again ρ) r.begins;
  shape = ap (again ρ) r.shape;
  written = ap (again ρ) r.written;
}

pub head_left_again : (ρ : Renaming) (k : VariableDeclarationKind) (ts : Trees) → head_left k (all_again ρ ts) ≡ again ρ (head_left k ts)
head_left_again ρ k none = refl
head_left_again ρ k (d ▸ ds) = refl

pub for_row_again : (ρ : Renaming) (n w : Tree) → ForRow n w → ForRow (again ρ n) (again ρ w)
for_row_again ρ n w r = record {
  kind = r.kind;
  first = all_again ρ r.first;
  spelling = r.spelling;
  symbol = ρ.symbol r.symbol;
  init = again ρ r.init;
  last = all_again ρ r.last;
  test = again ρ r.test;
  update = again ρ r.update;
  body = again ρ r.body;
  lexical = r.lexical;
  idle = simp (shape_of_again ρ r.init, is_bare_again ρ r.init 0, declares_nothing_again ρ r.init, ef_again ρ true r.init, leaves_nothing_again ρ r.init) r.idle;
  declared_earlier = simp (any_names_again ρ (resolved r.spelling r.symbol) r.first) r.declared_earlier;
  initial = simp (names_again ρ (resolved r.spelling r.symbol) r.init) r.initial;
  declared_later = simp (any_names_again ρ (resolved r.spelling r.symbol) r.last) r.declared_later;
  later = simp (any_names_again ρ (resolved r.spelling r.symbol) (r.test ▸ (r.update ▸ (r.body ▸ none)))) r.later;
  unseen = simp (append_again ρ r.first (declarator (binding (resolved r.spelling r.symbol)) r.init ▸ r.last), has_eval_again ρ (for_loop (declared_among r.kind (resolved r.spelling r.symbol) r.first r.init r.last) r.test r.update r.body)) r.unseen;
  shape = simp (← (append_again ρ r.first (declarator (binding (resolved r.spelling r.symbol)) r.init ▸ r.last))) at (ap (again ρ) r.shape);
  written = simp (← (append_again ρ r.first r.last), ← (head_left_again ρ r.kind (append r.first r.last))) at (ap (again ρ) r.written);
}

pub for_head_row_again : (ρ : Renaming) (o : Switches) (n w : Tree) → ForHeadRow o n w → ForHeadRow o (again ρ n) (again ρ w)
for_head_row_again ρ o n w (inl r) = inl (for_row_again ρ n w r)
for_head_row_again ρ o n w (inr r) = inr (for_next_row_again ρ o n w r)

pub function_body_row_again : (ρ : Renaming) (W : Liberties) (n w : Tree) → FunctionBodyRow (liberties_with_others_in ρ W) n w → FunctionBodyRow W (again ρ n) (again ρ w)
function_body_row_again ρ W n w r = record {
  is_declared = r.is_declared;
  is_generator = r.is_generator;
  directives = r.directives;
  number = other_number ρ r.number;
  name = again ρ r.name;
  parameters = all_again ρ r.parameters;
  before = all_again ρ r.before;
  after = all_again ρ r.after;
  row = block_row_again ρ W (block (listed (r.name ▸ r.parameters) ▸ r.before)) (block (listed (r.name ▸ r.parameters) ▸ r.after)) r.row;
  shape = ap (again ρ) r.shape;
  written = ap (again ρ) r.written;
}

pub module_row_again : (ρ : Renaming) (W : Liberties) (n w : Tree) → ModuleRow (liberties_with_others_in ρ W) n w → ModuleRow W (again ρ n) (again ρ w)
module_row_again ρ W n w r = record {
  directives = r.directives;
  before = all_again ρ r.before;
  after = all_again ρ r.after;
  row = block_row_again ρ W (block (listed none ▸ r.before)) (block (listed none ▸ r.after)) r.row;
  shape = ap (again ρ) r.shape;
  written = ap (again ρ) r.written;
}

pub static_block_row_again : (ρ : Renaming) (W : Liberties) (n w : Tree) → StaticBlockRow (liberties_with_others_in ρ W) n w → StaticBlockRow W (again ρ n) (again ρ w)
static_block_row_again ρ W n w r = record {
  number = other_number ρ r.number;
  before = all_again ρ r.before;
  after = all_again ρ r.after;
  row = block_row_again ρ W (block (listed none ▸ r.before)) (block (listed none ▸ r.after)) r.row;
  shape = ap (again ρ) r.shape;
  written = ap (again ρ) r.written;
}

pub switch_row_again : (ρ : Renaming) (o : Switches) (n w : Tree) → SwitchRow o n w → SwitchRow o (again ρ n) (again ρ w)
switch_row_again ρ o n w r = record {
  discriminant = again ρ r.discriminant;
  first = all_again ρ r.first;
  test = again ρ r.test;
  before = all_again ρ r.before;
  last = all_again ρ r.last;
  after = all_again ρ r.after;
  row = simp (← (append_again ρ r.first (node shape.SwitchCase [] 0 (r.test ▸ (absent ▸ none)) ▸ r.last))) at (block_row_again ρ (without_vars o) (block (listed (switch_around r.discriminant r.first r.test r.last ▸ none) ▸ r.before)) (block (listed (switch_around r.discriminant r.first r.test r.last ▸ none) ▸ r.after)) r.row);
  shape = simp (← (append_again ρ r.first (switch_case r.test r.before ▸ r.last))) at (ap (again ρ) r.shape);
  written = simp (← (append_again ρ r.first (switch_case r.test r.after ▸ r.last))) at (ap (again ρ) r.written);
}

pub unused_row_again : (ρ : Renaming) (W : Liberties) (p : Position) (n w : Tree) → UnusedRow (liberties_with_others_in ρ W) p n w → UnusedRow W p (again ρ n) (again ρ w)
unused_row_again ρ W (Stmt q) n w (inl r) = inl (block_row_again ρ (without_vars W.switches) n w r)
unused_row_again ρ W (Stmt q) n w (inr (inl r)) = inr (inl (function_body_row_again ρ W n w r))
unused_row_again ρ W (Stmt q) n w (inr (inr (inl r))) = inr (inr (inl (switch_row_again ρ W.switches n w r)))
unused_row_again ρ W (Stmt q) n w (inr (inr (inr r))) = inr (inr (inr (for_head_row_again ρ W.switches n w r)))
unused_row_again ρ W (Expr s) n w (inl r) = inl (arrow_body_row_again ρ W n w r)
unused_row_again ρ W (Expr s) n w (inr r) = inr (function_body_row_again ρ W n w r)
unused_row_again ρ W Method n w r = function_body_row_again ρ W n w r
unused_row_again ρ W Elsewhere n w (inl r) = inl (function_body_row_again ρ W n w r)
unused_row_again ρ W Elsewhere n w (inr (inl r)) = inr (inl (module_row_again ρ W n w r))
unused_row_again ρ W Elsewhere n w (inr (inr (inl r))) = inr (inr (inl (static_block_row_again ρ W n w r)))
unused_row_again ρ W Elsewhere n w (inr (inr (inr r))) = inr (inr (inr (block_row_again ρ (without_vars W.switches) n w r)))
unused_row_again ρ W p1 n w r = absurd r

pub unused_contracts_again : (ρ : Renaming) (W : Liberties) (p : Position) (n w : Tree) → UnusedContracts (liberties_with_others_in ρ W) p n w → UnusedContracts W p (again ρ n) (again ρ w)
unused_contracts_again ρ W p n w r = record {
  row = unused_row_again ρ W p n w r.row;
  lighter = simp (weight_again ρ p w, weight_again ρ p n) r.lighter;
}
