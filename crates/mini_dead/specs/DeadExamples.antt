-- How many dead items small programs have, worked out by hand.
use Rattle.std.specs.Prelude.{◌≡◌, refl, true}
use Rattle.mini_model.specs.declared.kind.VariableDeclarationKind.TheVariants.{Var, Let}
use Rattle.mini_model.specs.declared.shape.Shape.TheVariants as shape
use Rattle.mini_model.specs.Tree.{Tree, Trees, none, ◌▸◌, listed, absent, leaf}
use Rattle.mini_laws.specs.DeclaredNames.{names_of, body_names, with_names, has_inner}
use Rattle.mini_laws.specs.Scopes.{scopes_by}
use Rattle.mini_laws.specs.Resolved.{resolved, symbols, resolved_program}
use Rattle.mini_laws.specs.ScopeList.{has_eval, scope_list}
use Rattle.mini_laws.specs.References.{references}
use Rattle.mini_laws.specs.Shared.{module_names, names_arguments, reached_by_arguments, caught, pattern_writes}
use Rattle.mini_laws.specs.Programs.{script, module_of, reference, binding, plain, said, block, declares, var_of, let_of, function, arrow, class_with, assigns, calls, zero_literal, catches, case_of, switches, for_of, object_pattern, exports, exports_declaration, imports, a, b, e, f, g, x, eval, arguments}
use Rattle.mini_dead.specs.Dead.{declares_otherwise, dead_items, dead_count}

abbrev declarator : Tree → Tree → Tree
declarator name init = plain shape.VariableDeclarator (name ▸ init ▸ none)

abbrev returns : Tree → Tree
returns c = plain shape.ReturnStatement (c ▸ none)

abbrev returns_null : Tree
returns_null = returns zero_literal

-- `...a` in an object
abbrev member_entry : Tree
member_entry = plain shape.SpreadElement (reference a ▸ none)

-- function g() { .. }
abbrev in_g : Trees → Tree
in_g ts = script (function 1 (binding g) none ts ▸ none)

-- function g() { function f() { b(); } function b() {} return null; }: f is dead
one_names_the_other : dead_count (resolved_program (in_g (function 2 (binding f) none (said (calls (reference b) none) ▸ none) ▸ function 3 (binding b) none none ▸ returns_null ▸ none))) ≡ 1
unfolding resolved symbols scopes_by body_names names_of with_names has_inner has_eval scope_list references module_names names_arguments reached_by_arguments caught pattern_writes declares_otherwise dead_items
one_names_the_other = refl

-- function g() { function b() {} return null; }: b is dead, too, once f is gone
then_the_other : dead_count (resolved_program (in_g (function 3 (binding b) none none ▸ returns_null ▸ none))) ≡ 1
unfolding resolved symbols scopes_by body_names names_of with_names has_inner has_eval scope_list references module_names names_arguments reached_by_arguments caught pattern_writes declares_otherwise dead_items
then_the_other = refl

-- function g() { let f = () => g, x = a(); return x; }: f is dead, and x is read
a_declarator : dead_count (resolved_program (in_g (plain (shape.VariableDeclaration Let) (listed (declarator (binding f) (arrow 2 none (reference g)) ▸ declarator (binding x) (calls (reference a) none) ▸ none) ▸ none) ▸ returns (reference x) ▸ none))) ≡ 1
unfolding resolved symbols scopes_by body_names names_of with_names has_inner has_eval scope_list references module_names names_arguments reached_by_arguments caught pattern_writes declares_otherwise dead_items
a_declarator = refl

-- function g() { let x = a(); }: the call stays
an_initializer_that_calls : dead_count (resolved_program (in_g (declares Let (binding x) (calls (reference a) none) ▸ none))) ≡ 0
unfolding resolved symbols scopes_by body_names names_of with_names has_inner has_eval scope_list references module_names names_arguments reached_by_arguments caught pattern_writes declares_otherwise dead_items
an_initializer_that_calls = refl

-- function g() { var x = null; }
an_initializer_without_effect : dead_count (resolved_program (in_g (declares Var (binding x) zero_literal ▸ none))) ≡ 1
unfolding resolved symbols scopes_by body_names names_of with_names has_inner has_eval scope_list references module_names names_arguments reached_by_arguments caught pattern_writes declares_otherwise dead_items
an_initializer_without_effect = refl

-- function g() { f(); function f() {} }: f is read
a_function_that_is_called : dead_count (resolved_program (in_g (said (calls (reference f) none) ▸ function 2 (binding f) none none ▸ none))) ≡ 0
unfolding resolved symbols scopes_by body_names names_of with_names has_inner has_eval scope_list references module_names names_arguments reached_by_arguments caught pattern_writes declares_otherwise dead_items
a_function_that_is_called = refl

-- function g() { function f() { f(); } }: f is read by itself alone, and stays
a_function_that_names_itself : dead_count (resolved_program (in_g (function 2 (binding f) none (said (calls (reference f) none) ▸ none) ▸ none))) ≡ 0
unfolding resolved symbols scopes_by body_names names_of with_names has_inner has_eval scope_list references module_names names_arguments reached_by_arguments caught pattern_writes declares_otherwise dead_items
a_function_that_names_itself = refl

-- function g() { var x; x = null; }
a_name_that_is_written : dead_count (resolved_program (in_g (declares Var (binding x) absent ▸ said (assigns (reference x) zero_literal) ▸ none))) ≡ 0
unfolding resolved symbols scopes_by body_names names_of with_names has_inner has_eval scope_list references module_names names_arguments reached_by_arguments caught pattern_writes declares_otherwise dead_items
a_name_that_is_written = refl

-- function g() { () => a; }: a function that is a statement by itself
a_lone_function : dead_count (resolved_program (in_g (said (arrow 2 none (reference a)) ▸ none))) ≡ 1
unfolding resolved symbols scopes_by body_names names_of with_names has_inner has_eval scope_list references module_names names_arguments reached_by_arguments caught pattern_writes declares_otherwise dead_items
a_lone_function = refl

-- function g() { function f() { function b() {} } }: b goes with f, and isn't counted
inside_a_dead_item : dead_count (resolved_program (in_g (function 2 (binding f) none (function 3 (binding b) none none ▸ none) ▸ none))) ≡ 1
unfolding resolved symbols scopes_by body_names names_of with_names has_inner has_eval scope_list references module_names names_arguments reached_by_arguments caught pattern_writes declares_otherwise dead_items
inside_a_dead_item = refl

-- function g() { { let x; } }
in_a_block : dead_count (resolved_program (in_g (block (let_of x ▸ none) ▸ none))) ≡ 1
unfolding resolved symbols scopes_by body_names names_of with_names has_inner has_eval scope_list references module_names names_arguments reached_by_arguments caught pattern_writes declares_otherwise dead_items
in_a_block = refl

-- function g() { switch (a) { case null: let x; } }
in_a_case : dead_count (resolved_program (in_g (switches (reference a) (case_of zero_literal (let_of x ▸ none) ▸ none) ▸ none))) ≡ 1
unfolding resolved symbols scopes_by body_names names_of with_names has_inner has_eval scope_list references module_names names_arguments reached_by_arguments caught pattern_writes declares_otherwise dead_items
in_a_case = refl

-- var x; function f() {}: a script's top names stay
top_names : dead_count (resolved_program (script (declares Var (binding x) absent ▸ function 1 (binding f) none none ▸ none))) ≡ 0
unfolding resolved symbols scopes_by body_names names_of with_names has_inner has_eval scope_list references module_names names_arguments reached_by_arguments caught pattern_writes declares_otherwise dead_items
top_names = refl

-- var x; function f() {}: the names of a module go
top_names_of_a_module : dead_count (resolved_program (module_of (declares Var (binding x) absent ▸ function 1 (binding f) none none ▸ none))) ≡ 2
unfolding resolved symbols scopes_by body_names names_of with_names has_inner has_eval scope_list references module_names names_arguments reached_by_arguments caught pattern_writes declares_otherwise dead_items
top_names_of_a_module = refl

-- let a; export { a };: an export refers to it
an_exported_name : dead_count (resolved_program (module_of (let_of a ▸ exports (reference a) ▸ none))) ≡ 0
unfolding resolved symbols scopes_by body_names names_of with_names has_inner has_eval scope_list references module_names names_arguments reached_by_arguments caught pattern_writes declares_otherwise dead_items
an_exported_name = refl

-- export let a;
an_exported_declaration : dead_count (resolved_program (module_of (exports_declaration (let_of a) ▸ none))) ≡ 0
unfolding resolved symbols scopes_by body_names names_of with_names has_inner has_eval scope_list references module_names names_arguments reached_by_arguments caught pattern_writes declares_otherwise dead_items
an_exported_declaration = refl

-- import a from '';: an import is no item
an_imported_name : dead_count (resolved_program (module_of (imports (binding a) ▸ none))) ≡ 0
unfolding resolved symbols scopes_by body_names names_of with_names has_inner has_eval scope_list references module_names names_arguments reached_by_arguments caught pattern_writes declares_otherwise dead_items
an_imported_name = refl

-- function g() { var x; eval(); }
seen_by_a_direct_eval : dead_count (resolved_program (in_g (declares Var (binding x) absent ▸ said (calls (reference eval) none) ▸ none))) ≡ 0
unfolding resolved symbols scopes_by body_names names_of with_names has_inner has_eval scope_list references module_names names_arguments reached_by_arguments caught pattern_writes declares_otherwise dead_items
seen_by_a_direct_eval = refl

-- function g(x) { var x; }: a parameter is no item
a_parameter : dead_count (resolved_program (script (function 1 (binding g) (binding x ▸ none) (declares Var (binding x) absent ▸ none) ▸ none))) ≡ 0
unfolding resolved symbols scopes_by body_names names_of with_names has_inner has_eval scope_list references module_names names_arguments reached_by_arguments caught pattern_writes declares_otherwise dead_items
a_parameter = refl

-- function g(x) { function x() {} return arguments; }
a_parameter_that_arguments_reach : dead_count (resolved_program (script (function 1 (binding g) (binding x ▸ none) (function 2 (binding x) none none ▸ returns (reference arguments) ▸ none) ▸ none))) ≡ 0
unfolding resolved symbols scopes_by body_names names_of with_names has_inner has_eval scope_list references module_names names_arguments reached_by_arguments caught pattern_writes declares_otherwise dead_items
a_parameter_that_arguments_reach = refl

-- function g() { var { x } = a; }
a_name_of_a_pattern : dead_count (resolved_program (in_g (declares Var (object_pattern 2 x (binding x)) (reference a) ▸ none))) ≡ 0
unfolding resolved symbols scopes_by body_names names_of with_names has_inner has_eval scope_list references module_names names_arguments reached_by_arguments caught pattern_writes declares_otherwise dead_items
a_name_of_a_pattern = refl

-- function g() { function x() {} var { x } = a; }: a pattern declares it, too
beside_a_pattern : dead_count (resolved_program (in_g (function 2 (binding x) none none ▸ declares Var (object_pattern 3 x (binding x)) (reference a) ▸ none))) ≡ 0
unfolding resolved symbols scopes_by body_names names_of with_names has_inner has_eval scope_list references module_names names_arguments reached_by_arguments caught pattern_writes declares_otherwise dead_items
beside_a_pattern = refl

-- function g() { for (var x of a); }
the_head_of_a_loop : dead_count (resolved_program (in_g (for_of (var_of x) (reference a) (leaf shape.EmptyStatement) ▸ none))) ≡ 0
unfolding resolved symbols scopes_by body_names names_of with_names has_inner has_eval scope_list references module_names names_arguments reached_by_arguments caught pattern_writes declares_otherwise dead_items
the_head_of_a_loop = refl

-- function g() { var x; for (var x of a); }: the head declares it, too
beside_the_head_of_a_loop : dead_count (resolved_program (in_g (var_of x ▸ for_of (var_of x) (reference a) (leaf shape.EmptyStatement) ▸ none))) ≡ 0
unfolding resolved symbols scopes_by body_names names_of with_names has_inner has_eval scope_list references module_names names_arguments reached_by_arguments caught pattern_writes declares_otherwise dead_items
beside_the_head_of_a_loop = refl

-- function g() { function f() {} var f = {}; }: the object is made, so both stay
a_function_beside_a_var : dead_count (resolved_program (in_g (function 2 (binding f) none none ▸ declares Var (binding f) (plain shape.ObjectExpression (listed (member_entry ▸ none) ▸ none)) ▸ none))) ≡ 0
unfolding resolved symbols scopes_by body_names names_of with_names has_inner has_eval scope_list references module_names names_arguments reached_by_arguments caught pattern_writes declares_otherwise dead_items
a_function_beside_a_var = refl

-- function g() { function f() {} var f = null; }: both are items
two_items_of_a_name : dead_count (resolved_program (in_g (function 2 (binding f) none none ▸ declares Var (binding f) zero_literal ▸ none))) ≡ 2
unfolding resolved symbols scopes_by body_names names_of with_names has_inner has_eval scope_list references module_names names_arguments reached_by_arguments caught pattern_writes declares_otherwise dead_items
two_items_of_a_name = refl

-- function g() { class x {} }: a class is no item
a_class : dead_count (resolved_program (in_g (class_with true 2 (binding x) (binding x) absent none ▸ none))) ≡ 0
unfolding resolved symbols scopes_by body_names names_of with_names has_inner has_eval scope_list references module_names names_arguments reached_by_arguments caught pattern_writes declares_otherwise dead_items
a_class = refl

-- function g() { try {} catch (e) { var e = null; } }: the `var` writes the parameter
under_a_parameter_of_catch : dead_count (resolved_program (in_g (catches (binding e) (declares Var (binding e) zero_literal ▸ none) ▸ none))) ≡ 0
unfolding resolved symbols scopes_by body_names names_of with_names has_inner has_eval scope_list references module_names names_arguments reached_by_arguments caught pattern_writes declares_otherwise dead_items
under_a_parameter_of_catch = refl
