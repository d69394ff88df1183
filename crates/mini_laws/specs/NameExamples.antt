-- The symbols of the names of small programs, and their counts, worked out by hand. A text stands
-- over each.
use Rattle.std.specs.Prelude.{◌≡◌, refl, true, false, [], ◌∷◌, codes}
use Rattle.mini_model.specs.declared.kind.VariableDeclarationKind.TheVariants.{Var, Let}
use Rattle.mini_model.specs.declared.shape.Shape.TheVariants as shape
use Rattle.mini_model.specs.Tree.{node, none, ◌▸◌, listed, absent, leaf, if_alone}
use Rattle.mini_model.specs.Tree.{program}
use Rattle.mini_laws.specs.DeclaredNames.{names_of, body_names, with_names, has_inner}
use Rattle.mini_laws.specs.Scopes.{scopes_by}
use Rattle.mini_laws.specs.Resolved.{resolved, symbols, resolved_program}
use Rattle.mini_laws.specs.References.{references, reads, writes, counted, counts_of}
use Rattle.mini_laws.specs.Programs.{script, module_of, reference, binding, reference_of, binding_of, plain, inner, said, block, declares, var_of, let_of, function, function_expression, arrow, arrow_block, with_default, class_with, method_of, static_block, assigns, adds, increments, sum, member, zero_literal, catches, case_of, switches, for_of, for_in, for_with, labeled, object_pattern, array_pattern, exports, exports_declaration, imports, is, free, given, a, b, e, f, g, p, x, arguments}

-- let a; { let a; a } a
a_block_has_its_own : given (resolved_program (script (let_of a ▸ block (let_of a ▸ said (reference a) ▸ none) ▸ said (reference a) ▸ none))) ≡ is 0 ∷ is 1 ∷ is 1 ∷ is 0 ∷ []
unfolding given resolved scopes_by body_names names_of with_names has_inner symbols references counted
a_block_has_its_own = refl

-- { var a; } a
a_var_leaves_a_block : given (resolved_program (script (block (var_of a ▸ none) ▸ said (reference a) ▸ none))) ≡ is 0 ∷ is 0 ∷ []
unfolding given resolved scopes_by body_names names_of with_names has_inner symbols references counted
a_var_leaves_a_block = refl

-- { let a; } a
a_let_stays_in_a_block : given (resolved_program (script (block (let_of a ▸ none) ▸ said (reference a) ▸ none))) ≡ is 0 ∷ free ∷ []
unfolding given resolved scopes_by body_names names_of with_names has_inner symbols references counted
a_let_stays_in_a_block = refl

-- var a; var a; a
a_var_twice : given (resolved_program (script (var_of a ▸ var_of a ▸ said (reference a) ▸ none))) ≡ is 0 ∷ is 0 ∷ is 0 ∷ []
unfolding given resolved scopes_by body_names names_of with_names has_inner symbols references counted
a_var_twice = refl

-- function f(p) { p = p }: f is the script's, p the function's
a_parameter : given (resolved_program (script (function 1 (binding f) (binding p ▸ none) (said (assigns (reference p) (reference p)) ▸ none) ▸ none))) ≡ is 0 ∷ is 1 ∷ is 1 ∷ is 1 ∷ []
unfolding given resolved scopes_by body_names names_of with_names has_inner symbols references counted
a_parameter = refl

-- function f(a) { var a; a }: the `var` is the parameter
a_var_of_a_parameter : given (resolved_program (script (function 1 (binding f) (binding a ▸ none) (var_of a ▸ said (reference a) ▸ none) ▸ none))) ≡ is 0 ∷ is 1 ∷ is 1 ∷ is 1 ∷ []
unfolding given resolved scopes_by body_names names_of with_names has_inner symbols references counted
a_var_of_a_parameter = refl

-- function f(a) { function a() { } }: so is the function
a_function_of_a_parameter : given (resolved_program (script (function 1 (binding f) (binding a ▸ none) (function 2 (binding a) none none ▸ none) ▸ none))) ≡ is 0 ∷ is 1 ∷ is 1 ∷ []
unfolding given resolved scopes_by body_names names_of with_names has_inner symbols references counted
a_function_of_a_parameter = refl

-- function f(a, b = a) { var a; a }: where a default stands, the `var` is another
a_var_beside_a_default : given (resolved_program (script (function 1 (binding f) (binding a ▸ with_default 2 3 (binding b) (reference a) ▸ none) (var_of a ▸ said (reference a) ▸ none) ▸ none))) ≡ is 0 ∷ is 1 ∷ is 2 ∷ is 1 ∷ is 3 ∷ is 3 ∷ []
unfolding given resolved scopes_by body_names names_of with_names has_inner symbols references counted
a_var_beside_a_default = refl

-- function f(a = x) { var x; }: a default sees no name of the body
a_default_sees_no_body : given (resolved_program (script (function 1 (binding f) (with_default 2 3 (binding a) (reference x) ▸ none) (var_of x ▸ none) ▸ none))) ≡ is 0 ∷ is 1 ∷ free ∷ is 2 ∷ []
unfolding given resolved scopes_by body_names names_of with_names has_inner symbols references counted
a_default_sees_no_body = refl

-- function f({ a }) { var a; a }: a pattern without default or key in brackets is merged too
a_pattern_is_merged : given (resolved_program (script (function 1 (binding f) (object_pattern 2 a (binding a) ▸ none) (var_of a ▸ said (reference a) ▸ none) ▸ none))) ≡ is 0 ∷ is 1 ∷ is 1 ∷ is 1 ∷ []
unfolding given resolved scopes_by body_names names_of with_names has_inner symbols references counted
a_pattern_is_merged = refl

-- function f() { function g() { } } function a() { }: the names of a scope before those of the
-- scopes in it
an_outer_scope_first : given (resolved_program (script (function 1 (binding f) none (function 2 (binding g) none none ▸ none) ▸ function 3 (binding a) none none ▸ none))) ≡ is 0 ∷ is 2 ∷ is 1 ∷ []
unfolding given resolved scopes_by body_names names_of with_names has_inner symbols references counted
an_outer_scope_first = refl

-- var a; function f() { a; var a; }
a_var_in_a_function : given (resolved_program (script (var_of a ▸ function 1 (binding f) none (said (reference a) ▸ var_of a ▸ none) ▸ none))) ≡ is 0 ∷ is 1 ∷ is 2 ∷ is 2 ∷ []
unfolding given resolved scopes_by body_names names_of with_names has_inner symbols references counted
a_var_in_a_function = refl

-- "use strict"; { function f() { } f } f: in a block a function is lexical
a_function_in_a_block : given (resolved_program (program false (codes "use strict" ∷ []) (block (function 1 (binding f) none none ▸ said (reference f) ▸ none) ▸ said (reference f) ▸ none))) ≡ is 0 ∷ is 0 ∷ free ∷ []
unfolding given resolved scopes_by body_names names_of with_names has_inner symbols references counted
a_function_in_a_block = refl

-- (function f() { f }); f: the own name of an expression
an_own_name : given (resolved_program (script (said (function_expression 1 (binding f) none (said (reference f) ▸ none)) ▸ said (reference f) ▸ none))) ≡ is 0 ∷ is 0 ∷ free ∷ []
unfolding given resolved scopes_by body_names names_of with_names has_inner symbols references counted
an_own_name = refl

-- (function f() { var f; f })
a_var_of_an_own_name : given (resolved_program (script (said (function_expression 1 (binding f) none (var_of f ▸ said (reference f) ▸ none)) ▸ none))) ≡ is 0 ∷ is 1 ∷ is 1 ∷ []
unfolding given resolved scopes_by body_names names_of with_names has_inner symbols references counted
a_var_of_an_own_name = refl

-- (function f(f) { f })
a_parameter_of_an_own_name : given (resolved_program (script (said (function_expression 1 (binding f) (binding f ▸ none) (said (reference f) ▸ none)) ▸ none))) ≡ is 0 ∷ is 1 ∷ is 1 ∷ []
unfolding given resolved scopes_by body_names names_of with_names has_inner symbols references counted
a_parameter_of_an_own_name = refl

-- a => a
an_arrow : given (resolved_program (script (said (arrow 1 (binding a ▸ none) (reference a)) ▸ none))) ≡ is 0 ∷ is 0 ∷ []
unfolding given resolved scopes_by body_names names_of with_names has_inner symbols references counted
an_arrow = refl

-- (a) => { var b; a; b }; b
an_arrow_with_a_body : given (resolved_program (script (said (arrow_block 1 (binding a ▸ none) (var_of b ▸ said (reference a) ▸ said (reference b) ▸ none)) ▸ said (reference b) ▸ none))) ≡ is 0 ∷ is 1 ∷ is 0 ∷ is 1 ∷ free ∷ []
unfolding given resolved scopes_by body_names names_of with_names has_inner symbols references counted
an_arrow_with_a_body = refl

-- class a extends a { m() { a } } a: a declaration holds its name again, for its superclass too
a_class : given (resolved_program (script (class_with true 1 (binding a) (binding a) (inner 2 (reference a)) (method_of (function_expression 3 absent none (said (reference a) ▸ none)) ▸ none) ▸ said (reference a) ▸ none))) ≡ is 0 ∷ is 1 ∷ is 1 ∷ is 1 ∷ is 0 ∷ []
unfolding given resolved scopes_by body_names names_of with_names has_inner symbols references counted
a_class = refl

-- (class a { m() { a } }); a: an expression has its name once
a_class_expression : given (resolved_program (script (said (class_with false 1 (binding a) absent absent (method_of (function_expression 2 absent none (said (reference a) ▸ none)) ▸ none)) ▸ said (reference a) ▸ none))) ≡ is 0 ∷ is 0 ∷ free ∷ []
unfolding given resolved scopes_by body_names names_of with_names has_inner symbols references counted
a_class_expression = refl

-- class a { static { var b; b } } b: a static block is a function
a_static_block : given (resolved_program (script (class_with true 1 (binding a) (binding a) absent (static_block 2 (var_of b ▸ said (reference b) ▸ none) ▸ none) ▸ said (reference b) ▸ none))) ≡ is 0 ∷ is 2 ∷ is 2 ∷ is 1 ∷ free ∷ []
unfolding given resolved scopes_by body_names names_of with_names has_inner symbols references counted
a_static_block = refl

-- switch (a) { case a: let a; default: a }: the discriminant stands outside
a_switch : given (resolved_program (script (switches (reference a) (case_of (reference a) (let_of a ▸ none) ▸ case_of absent (said (reference a) ▸ none) ▸ none) ▸ none))) ≡ free ∷ is 0 ∷ is 0 ∷ is 0 ∷ []
unfolding given resolved scopes_by body_names names_of with_names has_inner symbols references counted
a_switch = refl

-- for (let a; a; a) a; a
a_for : given (resolved_program (script (for_with (let_of a) (reference a) (reference a) (said (reference a)) ▸ said (reference a) ▸ none))) ≡ is 0 ∷ is 0 ∷ is 0 ∷ is 0 ∷ free ∷ []
unfolding given resolved scopes_by body_names names_of with_names has_inner symbols references counted
a_for = refl

-- for (let a in a) a; a: the right side stands in the scope of the head
a_for_in : given (resolved_program (script (for_in (let_of a) (reference a) (said (reference a)) ▸ said (reference a) ▸ none))) ≡ is 0 ∷ is 0 ∷ is 0 ∷ free ∷ []
unfolding given resolved scopes_by body_names names_of with_names has_inner symbols references counted
a_for_in = refl

-- for (var a of a) a; a
a_for_of_with_var : given (resolved_program (script (for_of (var_of a) (reference a) (said (reference a)) ▸ said (reference a) ▸ none))) ≡ is 0 ∷ is 0 ∷ is 0 ∷ is 0 ∷ []
unfolding given resolved scopes_by body_names names_of with_names has_inner symbols references counted
a_for_of_with_var = refl

-- for (let a of b) { let a; a }
a_body_inside_a_head : given (resolved_program (script (for_of (let_of a) (reference b) (block (let_of a ▸ said (reference a) ▸ none)) ▸ none))) ≡ is 0 ∷ free ∷ is 1 ∷ is 1 ∷ []
unfolding given resolved scopes_by body_names names_of with_names has_inner symbols references counted
a_body_inside_a_head = refl

-- try { } catch (e) { var e; e = e }: the `var` is the script's, the names are the parameter
a_var_under_catch : given (resolved_program (script (catches (binding e) (var_of e ▸ said (assigns (reference e) (reference e)) ▸ none) ▸ none))) ≡ is 1 ∷ is 0 ∷ is 1 ∷ is 1 ∷ []
unfolding given resolved scopes_by body_names names_of with_names has_inner symbols references counted
a_var_under_catch = refl

-- try { } catch ({ a }) { let b; a; b } a
a_pattern_of_catch : given (resolved_program (script (catches (object_pattern 1 a (binding a)) (let_of b ▸ said (reference a) ▸ said (reference b) ▸ none) ▸ said (reference a) ▸ none))) ≡ is 0 ∷ is 1 ∷ is 0 ∷ is 1 ∷ free ∷ []
unfolding given resolved scopes_by body_names names_of with_names has_inner symbols references counted
a_pattern_of_catch = refl

-- import a from ""; a
an_import : given (resolved_program (module_of (imports (binding a) ▸ said (reference a) ▸ none))) ≡ is 0 ∷ is 0 ∷ []
unfolding given resolved scopes_by body_names names_of with_names has_inner symbols references counted
an_import = refl

-- export { b }; let b; export function f() { }
an_export : given (resolved_program (module_of (exports (reference b) ▸ let_of b ▸ exports_declaration (function 1 (binding f) none none) ▸ none))) ≡ is 0 ∷ is 0 ∷ is 1 ∷ []
unfolding given resolved scopes_by body_names names_of with_names has_inner symbols references counted
an_export = refl

-- a: a: labels are no names
a_label : given (resolved_program (script (labeled a (said (reference a)) ▸ none))) ≡ free ∷ []
unfolding given resolved scopes_by body_names names_of with_names has_inner symbols references counted
a_label = refl

-- a: var b; b
a_var_after_a_label : given (resolved_program (script (labeled a (var_of b) ▸ said (reference b) ▸ none))) ≡ is 0 ∷ is 0 ∷ []
unfolding given resolved scopes_by body_names names_of with_names has_inner symbols references counted
a_var_after_a_label = refl

-- function f() { arguments }
no_scope_declares_arguments : given (resolved_program (script (function 1 (binding f) none (said (reference arguments) ▸ none) ▸ none))) ≡ is 0 ∷ free ∷ []
unfolding given resolved scopes_by body_names names_of with_names has_inner symbols references counted
no_scope_declares_arguments = refl

-- "use strict"; if (x) function f() { } f: alone in a branch as in a block of its own
a_declaration_alone : given (resolved_program (program false (codes "use strict" ∷ []) (if_alone (reference x) (function 1 (binding f) none none) ▸ said (reference f) ▸ none))) ≡ free ∷ is 0 ∷ free ∷ []
unfolding given resolved scopes_by body_names names_of with_names has_inner symbols references counted
a_declaration_alone = refl

-- let { a: [b] } = b
a_nested_pattern : given (resolved_program (script (declares Let (object_pattern 1 a (array_pattern 2 (binding b ▸ none))) (reference b) ▸ none))) ≡ is 0 ∷ is 0 ∷ []
unfolding given resolved scopes_by body_names names_of with_names has_inner symbols references counted
a_nested_pattern = refl

-- do var a; while (a)
a_var_in_do : given (resolved_program (script (plain shape.DoWhileStatement (var_of a ▸ reference a ▸ none) ▸ none))) ≡ is 0 ∷ is 0 ∷ []
unfolding given resolved scopes_by body_names names_of with_names has_inner symbols references counted
a_var_in_do = refl

-- function f(p) { p = p + p }
reads_of_a_parameter : counts_of reads 2 (script (function 1 (binding_of 0 f) (binding_of 1 p ▸ none) (said (assigns (reference_of 1 p) (sum (reference_of 1 p) (reference_of 1 p))) ▸ none) ▸ none)) ≡ 0 ∷ 2 ∷ []
unfolding given resolved scopes_by body_names names_of with_names has_inner symbols references counted
reads_of_a_parameter = refl

-- function f(p) { p = p + p }
writes_of_a_parameter : counts_of writes 2 (script (function 1 (binding_of 0 f) (binding_of 1 p ▸ none) (said (assigns (reference_of 1 p) (sum (reference_of 1 p) (reference_of 1 p))) ▸ none) ▸ none)) ≡ 0 ∷ 1 ∷ []
unfolding given resolved scopes_by body_names names_of with_names has_inner symbols references counted
writes_of_a_parameter = refl

-- a += b; a++; a = 1: compound targets and updates do both
reads_of_a_target : counts_of reads 2 (script (said (adds (reference_of 0 a) (reference_of 1 b)) ▸ said (increments (reference_of 0 a)) ▸ said (assigns (reference_of 0 a) zero_literal) ▸ none)) ≡ 2 ∷ 1 ∷ []
unfolding given resolved scopes_by body_names names_of with_names has_inner symbols references counted
reads_of_a_target = refl

-- a += b; a++; a = 1: compound targets and updates do both
writes_of_a_target : counts_of writes 2 (script (said (adds (reference_of 0 a) (reference_of 1 b)) ▸ said (increments (reference_of 0 a)) ▸ said (assigns (reference_of 0 a) zero_literal) ▸ none)) ≡ 3 ∷ 0 ∷ []
unfolding given resolved scopes_by body_names names_of with_names has_inner symbols references counted
writes_of_a_target = refl

-- let a = b: a declarator isn't counted
reads_of_a_declarator : counts_of reads 2 (script (declares Let (binding_of 0 a) (reference_of 1 b) ▸ none)) ≡ 0 ∷ 1 ∷ []
unfolding given resolved scopes_by body_names names_of with_names has_inner symbols references counted
reads_of_a_declarator = refl

-- let a = b: a declarator isn't counted
writes_of_a_declarator : counts_of writes 2 (script (declares Let (binding_of 0 a) (reference_of 1 b) ▸ none)) ≡ 0 ∷ 0 ∷ []
unfolding given resolved scopes_by body_names names_of with_names has_inner symbols references counted
writes_of_a_declarator = refl

-- for (a of b) a
reads_of_a_head : counts_of reads 2 (script (for_of (reference_of 0 a) (reference_of 1 b) (said (reference_of 0 a)) ▸ none)) ≡ 1 ∷ 1 ∷ []
unfolding given resolved scopes_by body_names names_of with_names has_inner symbols references counted
reads_of_a_head = refl

-- for (a of b) a
writes_of_a_head : counts_of writes 2 (script (for_of (reference_of 0 a) (reference_of 1 b) (said (reference_of 0 a)) ▸ none)) ≡ 1 ∷ 0 ∷ []
unfolding given resolved scopes_by body_names names_of with_names has_inner symbols references counted
writes_of_a_head = refl

-- for (var a of b) ;: a head that is a declaration isn't counted
reads_of_a_declared_head : counts_of reads 2 (script (for_of (declares Var (binding_of 0 a) absent) (reference_of 1 b) (leaf shape.EmptyStatement) ▸ none)) ≡ 0 ∷ 1 ∷ []
unfolding given resolved scopes_by body_names names_of with_names has_inner symbols references counted
reads_of_a_declared_head = refl

-- for (var a of b) ;: a head that is a declaration isn't counted
writes_of_a_declared_head : counts_of writes 2 (script (for_of (declares Var (binding_of 0 a) absent) (reference_of 1 b) (leaf shape.EmptyStatement) ▸ none)) ≡ 0 ∷ 0 ∷ []
unfolding given resolved scopes_by body_names names_of with_names has_inner symbols references counted
writes_of_a_declared_head = refl

-- export { a }: a specifier reads
reads_of_a_specifier : counts_of reads 1 (module_of (exports (reference_of 0 a) ▸ none)) ≡ 1 ∷ []
unfolding given resolved scopes_by body_names names_of with_names has_inner symbols references counted
reads_of_a_specifier = refl

-- export { a }: a specifier reads
writes_of_a_specifier : counts_of writes 1 (module_of (exports (reference_of 0 a) ▸ none)) ≡ 0 ∷ []
unfolding given resolved scopes_by body_names names_of with_names has_inner symbols references counted
writes_of_a_specifier = refl

-- [a, b.c] = b: a target in a pattern is written, the object of a member read
reads_of_a_pattern : counts_of reads 2 (script (said (assigns (node shape.ArrayAssignmentTarget [] 1 (listed (reference_of 0 a ▸ inner 2 (member (reference_of 1 b) x) ▸ none) ▸ none)) (reference_of 1 b)) ▸ none)) ≡ 0 ∷ 2 ∷ []
unfolding given resolved scopes_by body_names names_of with_names has_inner symbols references counted
reads_of_a_pattern = refl

-- [a, b.c] = b: a target in a pattern is written, the object of a member read
writes_of_a_pattern : counts_of writes 2 (script (said (assigns (node shape.ArrayAssignmentTarget [] 1 (listed (reference_of 0 a ▸ inner 2 (member (reference_of 1 b) x) ▸ none) ▸ none)) (reference_of 1 b)) ▸ none)) ≡ 1 ∷ 0 ∷ []
unfolding given resolved scopes_by body_names names_of with_names has_inner symbols references counted
writes_of_a_pattern = refl
