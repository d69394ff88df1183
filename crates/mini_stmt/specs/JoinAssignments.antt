-- 70: `var a, c; a = b;` becomes `var a = b, c;`, and so where the assignment begins a sequence or
-- the head of a `for`. 69: `var a; for (a of b) c` becomes `for (var a of b) c`.
use Rattle.std.specs.Prelude.{◌≡◌, ◌<◌, ◌+◌, ℕ, suc, Bool, true, false, not, ◌&&◌, ◌||◌, List, [], ◌∷◌, Option, Some, None, if◌then◌else◌}
use Rattle.mini_model.specs.declared.kind.VariableDeclarationKind.{VariableDeclarationKind}
use Rattle.mini_model.specs.declared.kind.VariableDeclarationKind.TheVariants.{Var}
use Rattle.mini_model.specs.declared.operator.AssignmentOperator.TheVariants.{Assign}
use Rattle.mini_model.specs.declared.place.Position.{Position}
use Rattle.mini_model.specs.declared.place.Position.TheVariants.{StatementList}
use Rattle.mini_model.specs.declared.shape.Shape.{Shape}
use Rattle.mini_model.specs.declared.shape.Shape.TheVariants as shape
use Rattle.mini_model.specs.Tree.{Tree, Trees, none, ◌▸◌, count, shape_of, children, child_or_absent, absent, node_count, node_counts}
use Rattle.mini_model.specs.declared.name.Name.{Name}
use Rattle.mini_model.specs.Paths.{append}
use Rattle.mini_model.specs.Weight.{same_text}
use Rattle.mini_node.specs.Children.{part, with_part, with_child, is_bare, names_of, rest_children}
use Rattle.mini_node.specs.Kinds.{is_absent_part, is_identifier, is_named_leaf, is_sequence, is_expression_statement, same_names}
use Rattle.mini_tree.specs.Rule as rule
use Rattle.mini_rows.specs.Switches.{Switches}
use Rattle.mini_rows.specs.Lists.{of_parts, are_parts, declaration, declares_nothing, is_plain_left, is_declarator_shape, are_bare_declarators, Row70, EntersRow, InList, ListContracts}
use Rattle.mini_stmt.specs.JoinHeads.{is_for, is_for_in, has_head}
use Rattle.mini_stmt.specs.JoinVars.{declared_kind, declares}
use Rattle.mini_stmt.specs.JoinGuards.{last_after}
use Rattle.mini_stmt.specs.MinimizeStatements.{Changes, reversed}

abbrev pub is_assign_shape : Shape → Bool
is_assign_shape (shape.AssignmentExpression Assign) = true
is_assign_shape _ = false

-- `x = b`
abbrev pub assigns_name : Tree → Bool
assigns_name a = is_assign_shape (shape_of a) && (is_bare a 2 && (is_identifier (part a 0) && declares_nothing (part a 1)))

abbrev pub is_binding_shape : Shape → Bool
is_binding_shape shape.BindingIdentifier = true
is_binding_shape _ = false

-- both are one name: of the same spelling, and with one symbol
abbrev pub spelled_alike : List Name → List Name → Bool
spelled_alike (x ∷ []) (y ∷ []) = same_text x.spelling y.spelling
spelled_alike _ _ = false

abbrev pub one_name : List Name → List Name → Bool
one_name xs ys = same_names xs ys && spelled_alike xs ys

-- a declarator without an initializer, of the name that is assigned to
abbrev pub declares_bare : Tree → Tree → Bool
declares_bare d x = is_declarator_shape (shape_of d) && (is_bare d 2 && ((is_binding_shape (shape_of (part d 0)) && is_named_leaf (part d 0)) && (one_name (names_of (part d 0)) (names_of x) && is_absent_part (part d 1))))

-- such a declarator, after which none has an initializer
abbrev pub takes_name : Tree → Trees → Bool
takes_name x none = false
takes_name x (d ▸ ds) = (declares_bare d x && are_bare_declarators ds) || takes_name x ds

-- the place of the last one, or there is none
abbrev pub TakesAt : Tree → Trees → Option ℕ → Type 0
TakesAt x ts (Some i) = (i < count ts) × (declares_bare (child_or_absent ts i) x ≡ true) × (are_bare_declarators (rest_children (suc i) ts) ≡ true)
TakesAt x ts None = takes_name x ts ≡ false

-- parts of a sequence, of which the others may stand without the first
abbrev pub leaves_parts : Trees → Bool
leaves_parts (a ▸ (q ▸ qs)) = are_parts q qs
leaves_parts _ = false

-- `e;`, or a head
abbrev pub is_led : Tree → Bool
is_led u = is_expression_statement u || has_head u

abbrev pub is_for_of_shape : Shape → Bool
is_for_of_shape shape.ForOfStatement = true
is_for_of_shape _ = false

-- `for (a of b) c`
abbrev pub is_for_of : Tree → Bool
is_for_of t = is_for_of_shape (shape_of t) && is_bare t 3

-- a `for..in` or `for..of` whose head declares no lexical name
abbrev pub goes_over : Tree → Bool
goes_over u = (is_for_in u || is_for_of u) && is_plain_left (part u 0)

abbrev pub is_declarator : Tree → Bool
is_declarator d = is_declarator_shape (shape_of d) && is_bare d 2

abbrev pub begins_with_one : Trees → Bool
begins_with_one none = false
begins_with_one (d ▸ ds) = is_declarator d

abbrev pub is_kind : Option VariableDeclarationKind → Bool
is_kind (Some k) = true
is_kind None = false

-- a declaration with a declarator
abbrev pub declares_first : Tree → Bool
declares_first u = is_kind (declared_kind u) && begins_with_one (children (part u 0))

-- a `for` whose head is a `var`
abbrev pub loops_first : Tree → Bool
loops_first u = is_for u && (declares Var (part u 0) && declares_first (part u 0))

-- what holds an expression that is evaluated first, other than that
abbrev pub holds_plainly : Tree → Bool
holds_plainly u = is_led u || (goes_over u || declares_first u)

-- whichever holds one
abbrev pub holds : Tree → Bool
holds u = loops_first u || holds_plainly u

-- that expression of each
abbrev pub held_plainly : Tree → Tree
held_plainly u =
    if is_led u then part u 0 else (
    if goes_over u then part u 1 else (
    if declares_first u then part (part (part u 0) 0) 1 else u))

abbrev pub held : Tree → Tree
held u = if loops_first u then part (part (part (part u 0) 0) 0) 1 else held_plainly u

-- another first initializer
abbrev pub with_first : Tree → Tree → Tree
with_first u e = with_part u 0 (with_part (part u 0) 0 (with_part (part (part u 0) 0) 1 e))

-- the same with another expression there
abbrev pub with_plainly : Tree → Tree → Tree
with_plainly u e =
    if is_led u then with_part u 0 e else (
    if goes_over u then with_part u 1 e else with_first u e)

abbrev pub with_held : Tree → Tree → Tree
with_held u e = if loops_first u then with_part u 0 (with_first (part u 0) e) else with_plainly u e

-- a sequence is there
abbrev pub holds_sequence : Tree → Bool
holds_sequence u = holds u && (is_sequence (held u) && leaves_parts (children (part (held u) 0)))

-- `a;`, or a `for`
abbrev pub holds_alone : Tree → Bool
holds_alone u = is_expression_statement u || is_for u

-- what the statement begins with
abbrev pub beginning_of : Tree → Tree
beginning_of u = if holds_sequence u then part (part (held u) 0) 0 else part u 0

-- it begins with an assignment, which leaves a statement, or nothing
abbrev pub assigns_first : Tree → Bool
assigns_first u = (holds_sequence u || holds_alone u) && assigns_name (beginning_of u)

-- and what stands before it is a `var`
abbrev pub may_enter : Tree → Tree → Bool
may_enter t u = declares Var t && assigns_first u

-- the assignment goes into the `var` t
abbrev pub enters : Tree → Tree → Bool
enters t u = may_enter t u && takes_name (part (beginning_of u) 0) (children (part t 0))

-- the place of the declarator, or there is none
abbrev pub EntersAt : Tree → Tree → Option ℕ → Type 0
EntersAt t u (Some i) = (may_enter t u ≡ true) × TakesAt (part (beginning_of u) 0) (children (part t 0)) (Some i)
EntersAt t u None = enters t u ≡ false

-- the parts without the first
abbrev pub other_parts : Trees → Tree
other_parts (a ▸ (q ▸ qs)) = of_parts q qs
other_parts _ = absent

-- what is left of `a = b;`, or of a `for`
abbrev pub left_alone : Tree → Trees
left_alone u = if is_expression_statement u then none else with_part u 0 absent ▸ none

-- what is left of the statement
abbrev pub left_of : Tree → Trees
left_of u = if holds_sequence u then with_held u (other_parts (children (part (held u) 0))) ▸ none else left_alone u

-- the `var` with a value
abbrev pub with_value : Tree → ℕ → Tree → Tree
with_value t i v = declaration Var (with_child (children (part t 0)) i (with_part (child_or_absent (children (part t 0)) i) 1 v))

-- the two statements, and what is written for both
abbrev pub Entered : Tree → Tree → Tree → Trees → Type 0
Entered t u made left = Row70 (t ▸ (u ▸ none)) (made ▸ left)

-- a loop that takes a `var` into its head: with `in` where sequences are made
abbrev pub takes_head : Switches → Tree → Bool
takes_head o u = is_for_of u || (o.sequences && is_for_in u)

-- one declarator, without an initializer, of the name that is assigned to
abbrev pub declares_one : Tree → Trees → Bool
declares_one x (d ▸ none) = declares_bare d x
declares_one x _ = false

-- the loop u assigns to the name of the declaration t
abbrev pub assigns_its_name : Switches → Tree → Tree → Bool
assigns_its_name o t u = takes_head o u && (is_identifier (part u 0) && declares_one (part u 0) (children (part t 0)))

-- the `var` t goes into the head of the loop u
abbrev pub heads : Switches → Tree → Tree → Bool
heads o t u = declares Var t && assigns_its_name o t u

-- either of them
abbrev pub joins_var : Switches → Tree → Tree → Bool
joins_var o t u = enters t u || heads o t u

-- the first two of them
abbrev pub enters_first : Switches → Trees → Bool
enters_first o (t ▸ (u ▸ ts)) = joins_var o t u
enters_first o _ = false

-- no two neighbours
abbrev pub are_entered : Switches → Trees → Bool
are_entered o none = true
are_entered o (t ▸ ts) = not (enters_first o (t ▸ ts)) && are_entered o ts

-- into the last of them
abbrev pub enters_last : Trees → Tree → Bool
enters_last ts u = enters (last_after absent ts) u

abbrev pub EntersLast : Trees → Tree → Option ℕ → Type 0
EntersLast ts u (Some i) = (0 < count ts) × EntersAt (last_after absent ts) u (Some i)
EntersLast ts u None = enters_last ts u ≡ false

abbrev pub heads_last : Switches → Trees → Tree → Bool
heads_last o ts u = heads o (last_after absent ts) u

-- a statement is put after the others, which others follow, the nearest of them last
pub record PutEntered (o : Switches) (before : Trees) (t : Tree) (rest after others : Trees) (changed : Bool) : Type 0 where
  pub changes : Changes o (append before (t ▸ reversed rest)) (append after (reversed others)) changed
  pub entered : changed ≡ false → are_entered o before ≡ true → are_entered o after ≡ true
  pub smaller : node_counts others < node_counts rest + node_count t

-- a list changes, or there is nothing to do in it
pub record AllEntered (o : Switches) (t u : Trees) (changed : Bool) : Type 0 where
  pub changes : Changes o t u changed
  pub entered : changed ≡ false → are_entered o u ≡ true

-- no such row reads the list
abbrev pub InAssignments : Switches → Position → Tree → Tree → Type 0
InAssignments o StatementList n w = InList (EntersRow o) n w
InAssignments o _ n w = ⊥

abbrev pub Rests : Switches → Position → Tree → Type 0
Rests o p t = (w : Tree) → InAssignments o p t w → ⊥

-- the node of a list
abbrev pub JoinsAssignments : Switches → Tree → Tree → Bool → Type 0
JoinsAssignments o t u changed = rule.Applied (ListContracts o) (Rests o) StatementList t u changed
