-- Logs and what they make, and a program in which a row has no step beside one in which it has.
use Rattle.std.proofs.Common.{ap}
use Rattle.std.specs.Fmt.{digits}
use Rattle.std.specs.Prelude.{ℕ, true, false, ◌≡◌, refl, ◌&&◌, List, [], ◌∷◌, Some, None, codes, pos}
use Rattle.mini_model.specs.declared.kind.VariableDeclarationKind.TheVariants.{Let}
use Rattle.mini_model.specs.declared.operator.AssignmentOperator.TheVariants.{Assign, LogicalOr}
use Rattle.mini_model.specs.declared.operator.BinaryOperator.TheVariants.{Equality, Inequality, StrictEquality, LessThan, GreaterThan, Addition, Multiplication}
use Rattle.mini_model.specs.declared.operator.LogicalOperator.TheVariants.{Or, And, Coalesce}
use Rattle.mini_model.specs.declared.operator.UnaryOperator.TheVariants.{Typeof, Void}
use Rattle.mini_model.specs.declared.shape.Shape.TheVariants as shape
use Rattle.mini_model.specs.Paths.{Path}
use Rattle.mini_model.specs.Position.{statement_expression_seat}
use Rattle.mini_model.specs.Texts.{is_identifier_name}
use Rattle.mini_model.specs.Tree.{Tree, Trees, node, none, ◌▸◌, leaf, absent, listed, program, expression_statement, empty_statement, identifier, unresolved, negation, unary, logical, conditional, if_else, if_alone, null_literal}
use Rattle.mini_laws.specs.Value.{VariableSet, nothing}
use Rattle.mini_node.proofs.Equality.{tree_itself}
use Rattle.mini_node.specs.Kinds.{sequence, assignment, binary, block, return_statement, numeric_literal, boolean_literal, string_literal, static_member, computed_member}
use Rattle.mini_rows.specs.Nesting.{is_shallow, are_shallow}
use Rattle.mini_log.specs.ChoiceRows.{own_consequent, own_alternate, same_alternate, same_consequent}
use Rattle.mini_log.specs.KnownRows.{one_branch, both_branches}
use Rattle.mini_log.specs.RowStep.{Entry, replayed}
use Rattle.mini_log.specs.SpellingRows.{named_key, numbered_key, combined}
use Rattle.mini_log.specs.Terms.{when}

-- ---- programs and logs

abbrev named : List ℕ → Tree
named s = identifier (unresolved s)

abbrev a : Tree
a = named (codes "a")

abbrev b : Tree
b = named (codes "b")

abbrev c : Tree
c = named (codes "c")

abbrev d : Tree
d = named (codes "d")

abbrev zero : Tree
zero = numeric_literal (pos 0)

abbrev one : Tree
one = numeric_literal (pos 1)

abbrev void_zero : Tree
void_zero = unary Void zero

abbrev empty_array : Tree
empty_array = node shape.ArrayExpression [] 0 (listed none ▸ none)

abbrev key : List ℕ → Tree
key s = leaf (shape.IdentifierName s)

abbrev script : Trees → Tree
script ts = program false [] ts

abbrev entry : ℕ → Path → Entry
entry n q = record { at = q; row = n }

-- `x = e;`
abbrev program_of : Tree → Tree
program_of e = script (expression_statement (assignment Assign (named (codes "x")) e) ▸ none)

-- where e stands in it
abbrev there : Path
there = 0 ∷ 0 ∷ 1 ∷ []

-- the row of this number makes one program of the other, with the option `sequences`
abbrev Makes : ℕ → Path → Tree → Tree → Type 0
Makes n q t u = replayed true nothing t (entry n q ∷ []) ≡ Some u

-- in place of e in `x = e;` it writes w, and it has no step there
abbrev Writes : ℕ → Tree → Tree → Type 0
Writes n e w = Makes n there (program_of e) (program_of w)

abbrev Rests : ℕ → Tree → Type 0
Rests n e = replayed true nothing (program_of e) (entry n there ∷ []) ≡ None

-- ---- logs

-- `x = !(a == b);` becomes `x = a != b;`
once : replayed false nothing (program_of (negation (binary Equality a b))) (entry 23 there ∷ []) ≡ Some (program_of (binary Inequality a b))
once = refl

-- and the same entry again has no step
twice : replayed false nothing (program_of (negation (binary Equality a b))) (entry 23 there ∷ entry 23 there ∷ []) ≡ None
twice = refl

-- a row that is none of the 24, and a path that leads nowhere
no_row : Rests 24 (negation (binary Equality a b))
no_row = refl

nowhere : replayed true nothing (program_of (negation (binary Equality a b))) (entry 23 (0 ∷ 0 ∷ 2 ∷ []) ∷ []) ≡ None
nowhere = refl

-- `{ ; a; }` becomes `; a;`, and that `a;`
spread_then_gone : replayed true nothing (script (block (empty_statement ▸ expression_statement a ▸ none) ▸ none)) (entry 79 (0 ∷ []) ∷ entry 66 (0 ∷ []) ∷ []) ≡ Some (script (expression_statement a ▸ none))
spread_then_gone = refl

-- ---- what is known

-- `!"a"` becomes `!1`, and `!b` stays
row_1 : Writes 1 (negation (string_literal (codes "a"))) (negation one)
unfolding digits
row_1 = refl

miss_1 : Rests 1 (negation b)
miss_1 = refl

-- `60 * 60` becomes `3600`, and `a + 1` stays
row_3 : Writes 3 (binary Multiplication (numeric_literal (pos 60)) (numeric_literal (pos 60))) (numeric_literal (pos 3600))
unfolding digits
row_3 = refl

miss_3 : Rests 3 (binary Addition a one)
miss_3 = refl

-- `typeof a + ""` and `"" + typeof a` become `typeof a`, and `a + ""` stays
row_7 : Writes 7 (binary Addition (unary Typeof a) (string_literal [])) (unary Typeof a)
row_7 = refl

row_7_left : Writes 7 (binary Addition (string_literal []) (unary Typeof a)) (unary Typeof a)
row_7_left = refl

miss_7 : Rests 7 (binary Addition a (string_literal []))
miss_7 = refl

-- `0 && a` becomes `0`; `a && b`, `0 ?? a` and `0 && (module.exports = a)` stay
row_12 : Writes 12 (logical And zero a) zero
unfolding digits
row_12 = refl

miss_12 : Rests 12 (logical And a b)
miss_12 = refl

miss_12_other : Rests 12 (logical Coalesce zero a)
miss_12_other = refl

miss_12_exports : Rests 12 (logical And zero (assignment Assign (static_member (named (codes "module")) (key (codes "exports"))) a))
miss_12_exports = refl

-- `1 && a` becomes `a`, `(c = []) && a` becomes `c = [], a`, and `b && a` stays
row_13 : Writes 13 (logical And one a) a
unfolding digits
row_13 = refl

row_13_both : Writes 13 (logical And (assignment Assign c empty_array) a) (sequence (assignment Assign c empty_array ▸ a ▸ none))
row_13_both = refl

miss_13 : Rests 13 (logical And b a)
miss_13 = refl

-- `null ?? a` becomes `a`, `1 ?? a` becomes `1`, and `b ?? a` stays
row_15 : Writes 15 (logical Coalesce null_literal a) a
row_15 = refl

row_15_stops : Writes 15 (logical Coalesce one a) one
unfolding digits
row_15_stops = refl

miss_15 : Rests 15 (logical Coalesce b a)
miss_15 = refl

-- `a ? b : b` becomes `a, b`, and `1 ? b : b` `b`; the `a` of the first has an effect, and stays
row_49 : both_branches (conditional a b b) ≡ Some (sequence (a ▸ b ▸ none))
row_49 = ap (λ x. when (x && true) (sequence (a ▸ b ▸ none))) (tree_itself b)

row_49_idle : one_branch statement_expression_seat (conditional one b b) ≡ Some b
row_49_idle = ap (λ x. when (x && true) b) (tree_itself b)

miss_49 : one_branch statement_expression_seat (conditional a b b) ≡ None
miss_49 = ap (λ x. when (x && false) b) (tree_itself b)

-- ---- tests and branches

-- `!(a && b == c)` becomes `!a || b != c`, and `!(a < b)` stays
row_23 : Writes 23 (negation (logical And a (binary Equality b c))) (logical Or (negation a) (binary Inequality b c))
row_23 = refl

miss_23 : Rests 23 (negation (binary LessThan a b))
miss_23 = refl

-- `a && (b && c)` becomes `a && b && c`, and `a && (b || c)` stays
row_39 : Writes 39 (logical And a (logical And b c)) (logical And (logical And a b) c)
row_39 = refl

miss_39 : Rests 39 (logical And a (logical Or b c))
miss_39 = refl

-- `!a ? b : c` becomes `a ? c : b`, `a != b ? c : d` `a == b ? d : c`, and `a ? b : c` stays
row_40 : Writes 40 (conditional (negation a) b c) (conditional a c b)
row_40 = refl

row_40_unequal : Writes 40 (conditional (binary Inequality a b) c d) (conditional (binary Equality a b) d c)
row_40_unequal = refl

miss_40 : Rests 40 (conditional a b c)
miss_40 = refl

-- `a ? a : b` becomes `a || b`, `a ? b : a` becomes `a && b`, and `a.k ? a.k : b` stays
row_41 : own_consequent (conditional a a b) ≡ Some (logical Or a b)
row_41 = ap (λ x. when x (logical Or a b)) (tree_itself a)

row_41_and : own_alternate (conditional a b a) ≡ Some (logical And a b)
row_41_and = ap (λ x. when x (logical And a b)) (tree_itself a)

miss_41 : Rests 41 (conditional (static_member a (key (codes "k"))) (static_member a (key (codes "k"))) b)
miss_41 = refl

-- `a ? b ? c : d : d` becomes `a && b ? c : d`, `a ? c : b ? c : d` becomes `a || b ? c : d`, and
-- `a ? b : c` stays
row_42 : same_alternate (conditional a (conditional b c d) d) ≡ Some (conditional (logical And a b) c d)
unfolding is_shallow are_shallow
row_42 = ap (λ x. when (x && true) (conditional (logical And a b) c d)) (tree_itself d)

row_42_or : same_consequent (conditional a c (conditional b c d)) ≡ Some (conditional (logical Or a b) c d)
unfolding is_shallow are_shallow
row_42_or = ap (λ x. when (x && true) (conditional (logical Or a b) c d)) (tree_itself c)

miss_42 : Rests 42 (conditional a b c)
miss_42 = refl

-- ---- spellings

-- "abc" in backticks becomes a text in quotes, and `"abc"` stays
row_19 : Writes 19 (node shape.TemplateLiteral [] 0 (listed (leaf (shape.TemplateElement true (codes "abc") (Some (codes "abc"))) ▸ none) ▸ listed none ▸ none)) (string_literal (codes "abc"))
row_19 = refl

miss_19 : Rests 19 (string_literal (codes "abc"))
miss_19 = refl

-- `a["k"]` becomes `a.k`, since k is an identifier's name, and `a["1"]` becomes `a[1]`
row_33 : is_identifier_name (codes "k") ≡ true → named_key (computed_member a (string_literal (codes "k"))) ≡ Some (static_member a (key (codes "k")))
row_33 e = ap (λ x. when x (static_member a (key (codes "k")))) e

row_33_number : numbered_key (computed_member a (string_literal (codes "1"))) ≡ Some (computed_member a one)
unfolding digits
row_33_number = refl

-- `a["01"]` isn't `a[1]`, and `a?.["1"]` isn't read as a number
miss_33 : numbered_key (computed_member a (string_literal (codes "01"))) ≡ None
unfolding digits
miss_33 = refl

miss_33_optional : numbered_key (node (shape.ComputedMemberExpression true) [] 0 (a ▸ string_literal (codes "1") ▸ none)) ≡ None
unfolding digits
miss_33_optional = refl

-- a name that a scope declares
abbrev y : Tree
y = identifier (record { spelling = codes "y"; symbol = Some (record { 0 = 0 }) })

abbrev everything : VariableSet
everything x = true

-- `y = y || b` becomes `y ||= b` where y can be written, and stays where it can't
row_34 : combined everything (assignment Assign y (logical Or y b)) ≡ Some (assignment LogicalOr y b)
row_34 = ap (λ x. when x (assignment LogicalOr y b)) (tree_itself y)

miss_34 : combined nothing (assignment Assign y (logical Or y b)) ≡ None
miss_34 = refl

-- `1 == b` becomes `b == 1`, and `1 == 0` stays
row_54 : Writes 54 (binary Equality one b) (binary Equality b one)
unfolding digits
row_54 = refl

miss_54 : Rests 54 (binary Equality one zero)
miss_54 = refl

-- `typeof a == "undefined"` becomes `typeof a > "u"`, of a member `a.k === void 0`, and
-- `typeof a == "object"` stays
row_55 : Writes 55 (binary Equality (unary Typeof a) (string_literal (codes "undefined"))) (binary GreaterThan (unary Typeof a) (string_literal (codes "u")))
row_55 = refl

row_55_value : Writes 55 (binary Equality (unary Typeof (static_member a (key (codes "k")))) (string_literal (codes "undefined"))) (binary StrictEquality (static_member a (key (codes "k"))) void_zero)
unfolding digits
row_55_value = refl

miss_55 : Rests 55 (binary Equality (unary Typeof a) (string_literal (codes "object")))
miss_55 = refl

-- `a == undefined` and `a == void 0` become `a == null`, and `a === void 0` stays
row_58 : Writes 58 (binary Equality a (named (codes "undefined"))) (binary Equality a null_literal)
row_58 = refl

row_58_void : Writes 58 (binary Equality a void_zero) (binary Equality a null_literal)
unfolding digits
row_58_void = refl

miss_58 : Rests 58 (binary StrictEquality a void_zero)
miss_58 = refl

-- `true` becomes `!0`, and `1` stays
row_65 : Writes 65 (boolean_literal true) (negation zero)
unfolding digits
row_65 = refl

miss_65 : Rests 65 one
miss_65 = refl

-- ---- statements

-- `return void 0;` becomes `return;`, and `return a;` stays
row_60 : Makes 60 (0 ∷ []) (script (return_statement void_zero ▸ none)) (script (return_statement absent ▸ none))
unfolding digits
row_60 = refl

miss_60 : replayed true nothing (script (return_statement a ▸ none)) (entry 60 (0 ∷ []) ∷ []) ≡ None
miss_60 = refl

abbrev declarator : Tree → Tree
declarator init = node shape.VariableDeclarator [] 0 (node shape.BindingIdentifier (unresolved (codes "z") ∷ []) 0 none ▸ init ▸ none)

abbrev lets : Tree → Tree
lets init = node (shape.VariableDeclaration Let) [] 0 (listed (declarator init ▸ none) ▸ none)

abbrev exports : Tree → Tree
exports t = node shape.ExportNamedDeclaration [] 0 (t ▸ listed none ▸ absent ▸ none)

abbrev for_ever : Tree → Tree
for_ever t = node shape.ForStatement [] 0 (t ▸ absent ▸ absent ▸ empty_statement ▸ none)

-- `let z = void 0;` becomes `let z;`, in an export and in the head of a `for` too, and `let z = a;`
-- stays
row_61 : Makes 61 (0 ∷ []) (script (lets void_zero ▸ none)) (script (lets absent ▸ none))
unfolding digits
row_61 = refl

row_61_export : Makes 61 (0 ∷ 0 ∷ []) (script (exports (lets void_zero) ▸ none)) (script (exports (lets absent) ▸ none))
unfolding digits
row_61_export = refl

row_61_for : Makes 61 (0 ∷ 0 ∷ []) (script (for_ever (lets void_zero) ▸ none)) (script (for_ever (lets absent) ▸ none))
unfolding digits
row_61_for = refl

miss_61 : replayed true nothing (script (lets a ▸ none)) (entry 61 (0 ∷ []) ∷ []) ≡ None
miss_61 = refl

abbrev two_statements : Tree
two_statements = script (expression_statement a ▸ expression_statement b ▸ none)

-- `a; b;` becomes `a, b;` with `sequences`, and stays without; `b;` has nothing after it to join
row_66 : Makes 66 (0 ∷ []) two_statements (script (expression_statement (sequence (a ▸ b ▸ none)) ▸ none))
row_66 = refl

miss_66 : replayed false nothing two_statements (entry 66 (0 ∷ []) ∷ []) ≡ None
miss_66 = refl

miss_66_last : replayed true nothing two_statements (entry 66 (1 ∷ []) ∷ []) ≡ None
miss_66_last = refl

-- `switch (a) { case b: ; c; }`, of which the path of a statement counts the test before it
abbrev one_case : Trees → Tree
one_case ts = script (node shape.SwitchStatement [] 0 (a ▸ listed (node shape.SwitchCase [] 0 (b ▸ listed ts ▸ none) ▸ none) ▸ none) ▸ none)

row_66_case : Makes 66 (0 ∷ 1 ∷ 1 ∷ []) (one_case (empty_statement ▸ expression_statement c ▸ none)) (one_case (expression_statement c ▸ none))
row_66_case = refl

abbrev held : Tree → Tree
held t = script (if_else a t (expression_statement b) ▸ none)

abbrev chooses : Tree
chooses = if_else c (return_statement absent) (return_statement b)

-- `if (a) { return; } else b;` becomes `if (a) return; else b;`, and a block around an `if` with
-- `else` stays there
row_79 : Makes 79 (0 ∷ 1 ∷ []) (held (block (return_statement absent ▸ none))) (held (return_statement absent))
row_79 = refl

miss_79 : replayed true nothing (held (block (chooses ▸ none))) (entry 79 (0 ∷ 1 ∷ []) ∷ []) ≡ None
miss_79 = refl

-- `{ let z; }` stays in its list
miss_79_scoped : replayed true nothing (script (block (lets absent ▸ none) ▸ none)) (entry 79 (0 ∷ []) ∷ []) ≡ None
miss_79_scoped = refl

abbrev Becomes : Tree → Tree → Type 0
Becomes t e = Makes 82 (0 ∷ []) (script (t ▸ none)) (script (expression_statement e ▸ none))

-- `if (a) b; else c;` becomes `a ? b : c;`, `if (a) b;` `a && b;`, and `if (!a) b;` `a || b;`
row_82 : Becomes (if_else a (expression_statement b) (expression_statement c)) (conditional a b c)
row_82 = refl

row_82_and : Becomes (if_alone a (expression_statement b)) (logical And a b)
row_82_and = refl

row_82_or : Becomes (if_alone (negation a) (expression_statement b)) (logical Or a b)
row_82_or = refl

-- `if (a, !b) c;` becomes `(a, b) || c;`
row_82_ends : Becomes (if_alone (sequence (a ▸ negation b ▸ none)) (expression_statement c)) (logical Or (sequence (a ▸ b ▸ none)) c)
row_82_ends = refl

-- `if (a); else b;` becomes `a || b;`, and `if (!a) {} else b;` `a && b;`
row_82_empty : Becomes (if_else a empty_statement (expression_statement b)) (logical Or a b)
row_82_empty = refl

row_82_block : Becomes (if_else (negation a) (block none) (expression_statement b)) (logical And a b)
row_82_block = refl

-- `if (a) return;` stays
miss_82 : replayed true nothing (script (if_alone a (return_statement absent) ▸ none)) (entry 82 (0 ∷ []) ∷ []) ≡ None
miss_82 = refl
