-- The early errors of small programs, each by its place, worked out by hand: the indices of
-- children from the root on.
use Rattle.std.specs.Prelude.{◌≡◌, refl, true, false, [], ◌∷◌}
use Rattle.mini_model.specs.declared.shape.Shape.TheVariants as shape
use Rattle.mini_model.specs.Tree.{none, ◌▸◌, absent, leaf}
use Rattle.mini_laws.specs.Early.{declarations, body_declarations, scope_declarations, early_names, targets_of, is_loop, early_jumps, no_targets}
use Rattle.mini_laws.specs.Programs.{script, module_of, reference, binding, inner, said, block, var_of, let_of, function, generator, function_expression, arrow, arrow_block, class_with, field_of, static_block, catches, case_of, switches, loops, for_of, for_with, labeled, leaves, word, object_pattern, imports, a, b, e, f, x}

-- let a; var a;: at the second name: statement 1 of the list 0, declarator 0 of its list 0, `id`
a_let_and_a_var : early_names [] (script (let_of a ▸ var_of a ▸ none)) ≡ (0 ∷ 1 ∷ 0 ∷ 0 ∷ 0 ∷ []) ∷ []
unfolding declarations body_declarations scope_declarations early_names targets_of is_loop early_jumps
a_let_and_a_var = refl

-- var a; let a;
a_var_and_a_let : early_names [] (script (var_of a ▸ let_of a ▸ none)) ≡ (0 ∷ 1 ∷ 0 ∷ 0 ∷ 0 ∷ []) ∷ []
unfolding declarations body_declarations scope_declarations early_names targets_of is_loop early_jumps
a_var_and_a_let = refl

-- { let a; let a; }
two_lets : early_names [] (script (block (let_of a ▸ let_of a ▸ none) ▸ none)) ≡ (0 ∷ 0 ∷ 0 ∷ 1 ∷ 0 ∷ 0 ∷ 0 ∷ []) ∷ []
unfolding declarations body_declarations scope_declarations early_names targets_of is_loop early_jumps
two_lets = refl

-- let a; { var a; }: hoisted through
a_hoisted_var : early_names [] (script (let_of a ▸ block (var_of a ▸ none) ▸ none)) ≡ (0 ∷ 1 ∷ 0 ∷ 0 ∷ 0 ∷ 0 ∷ 0 ∷ []) ∷ []
unfolding declarations body_declarations scope_declarations early_names targets_of is_loop early_jumps
a_hoisted_var = refl

-- var a; var a;
two_vars : early_names [] (script (var_of a ▸ var_of a ▸ none)) ≡ []
unfolding declarations body_declarations scope_declarations early_names targets_of is_loop early_jumps
two_vars = refl

-- let a; { let a; }
a_let_in_another_block : early_names [] (script (let_of a ▸ block (let_of a ▸ none) ▸ none)) ≡ []
unfolding declarations body_declarations scope_declarations early_names targets_of is_loop early_jumps
a_let_in_another_block = refl

-- function f(a) { let a; }
a_parameter_and_a_let : early_names [] (script (function 1 (binding f) (binding a ▸ none) (let_of a ▸ none) ▸ none)) ≡ (0 ∷ 0 ∷ 2 ∷ 0 ∷ 0 ∷ 0 ∷ 0 ∷ 0 ∷ []) ∷ []
unfolding declarations body_declarations scope_declarations early_names targets_of is_loop early_jumps
a_parameter_and_a_let = refl

-- function f(a) { var a; function a() { } }
a_parameter_and_a_var : early_names [] (script (function 1 (binding f) (binding a ▸ none) (var_of a ▸ function 2 (binding a) none none ▸ none) ▸ none)) ≡ []
unfolding declarations body_declarations scope_declarations early_names targets_of is_loop early_jumps
a_parameter_and_a_var = refl

-- (a) => { let a; }
a_parameter_of_an_arrow : early_names [] (script (said (arrow_block 1 (binding a ▸ none) (let_of a ▸ none)) ▸ none)) ≡ (0 ∷ 0 ∷ 0 ∷ 1 ∷ 0 ∷ 0 ∷ 0 ∷ 0 ∷ 0 ∷ []) ∷ []
unfolding declarations body_declarations scope_declarations early_names targets_of is_loop early_jumps
a_parameter_of_an_arrow = refl

-- function f() { } var f;: at the top of a script functions are like `var`
a_function_at_the_top : early_names [] (script (function 1 (binding f) none none ▸ var_of f ▸ none)) ≡ []
unfolding declarations body_declarations scope_declarations early_names targets_of is_loop early_jumps
a_function_at_the_top = refl

-- the same in a module
a_function_of_a_module : early_names [] (module_of (function 1 (binding f) none none ▸ var_of f ▸ none)) ≡ (0 ∷ 1 ∷ 0 ∷ 0 ∷ 0 ∷ []) ∷ []
unfolding declarations body_declarations scope_declarations early_names targets_of is_loop early_jumps
a_function_of_a_module = refl

-- { function f() { } function f() { } }
two_functions_in_a_block : early_names [] (script (block (function 1 (binding f) none none ▸ function 2 (binding f) none none ▸ none) ▸ none)) ≡ (0 ∷ 0 ∷ 0 ∷ 1 ∷ 0 ∷ []) ∷ []
unfolding declarations body_declarations scope_declarations early_names targets_of is_loop early_jumps
two_functions_in_a_block = refl

-- let f; function f() { }
a_let_and_a_function : early_names [] (script (let_of f ▸ function 1 (binding f) none none ▸ none)) ≡ (0 ∷ 1 ∷ 0 ∷ []) ∷ []
unfolding declarations body_declarations scope_declarations early_names targets_of is_loop early_jumps
a_let_and_a_function = refl

-- class a { } let a;
a_class_and_a_let : early_names [] (script (class_with true 1 (binding a) (binding a) absent none ▸ let_of a ▸ none)) ≡ (0 ∷ 1 ∷ 0 ∷ 0 ∷ 0 ∷ []) ∷ []
unfolding declarations body_declarations scope_declarations early_names targets_of is_loop early_jumps
a_class_and_a_let = refl

-- import a from ""; let a;
an_import_and_a_let : early_names [] (module_of (imports (binding a) ▸ let_of a ▸ none)) ≡ (0 ∷ 1 ∷ 0 ∷ 0 ∷ 0 ∷ []) ∷ []
unfolding declarations body_declarations scope_declarations early_names targets_of is_loop early_jumps
an_import_and_a_let = refl

-- try { } catch (e) { let e; }
a_catch_and_a_let : early_names [] (script (catches (binding e) (let_of e ▸ none) ▸ none)) ≡ (0 ∷ 0 ∷ 1 ∷ 1 ∷ 0 ∷ 0 ∷ 0 ∷ 0 ∷ 0 ∷ []) ∷ []
unfolding declarations body_declarations scope_declarations early_names targets_of is_loop early_jumps
a_catch_and_a_let = refl

-- try { } catch (e) { var e; }
a_catch_and_a_var : early_names [] (script (catches (binding e) (var_of e ▸ none) ▸ none)) ≡ []
unfolding declarations body_declarations scope_declarations early_names targets_of is_loop early_jumps
a_catch_and_a_var = refl

-- try { } catch ({ a }) { var a; }: from a pattern
a_pattern_of_catch_and_a_var : early_names [] (script (catches (object_pattern 1 a (binding a)) (var_of a ▸ none) ▸ none)) ≡ (0 ∷ 0 ∷ 1 ∷ 1 ∷ 0 ∷ 0 ∷ 0 ∷ 0 ∷ 0 ∷ []) ∷ []
unfolding declarations body_declarations scope_declarations early_names targets_of is_loop early_jumps
a_pattern_of_catch_and_a_var = refl

-- switch (x) { case x: var a; case x: let a; }: at the later one
a_switch : early_names [] (script (switches (reference x) (case_of (reference x) (var_of a ▸ none) ▸ case_of (reference x) (let_of a ▸ none) ▸ none) ▸ none)) ≡ (0 ∷ 0 ∷ 1 ∷ 1 ∷ 1 ∷ 0 ∷ 0 ∷ 0 ∷ 0 ∷ []) ∷ []
unfolding declarations body_declarations scope_declarations early_names targets_of is_loop early_jumps
a_switch = refl

-- for (let a; ; ) { var a; }
a_head_and_a_var : early_names [] (script (for_with (let_of a) absent absent (block (var_of a ▸ none)) ▸ none)) ≡ (0 ∷ 0 ∷ 3 ∷ 0 ∷ 0 ∷ 0 ∷ 0 ∷ 0 ∷ []) ∷ []
unfolding declarations body_declarations scope_declarations early_names targets_of is_loop early_jumps
a_head_and_a_var = refl

-- for (let a of x) { let a; }
a_head_and_a_let : early_names [] (script (for_of (let_of a) (reference x) (block (let_of a ▸ none)) ▸ none)) ≡ []
unfolding declarations body_declarations scope_declarations early_names targets_of is_loop early_jumps
a_head_and_a_let = refl

-- class a { static { let b; var b; } }
a_static_block : early_names [] (script (class_with true 1 (binding a) (binding a) absent (static_block 2 (let_of b ▸ var_of b ▸ none) ▸ none) ▸ none)) ≡ (0 ∷ 0 ∷ 2 ∷ 0 ∷ 0 ∷ 0 ∷ 1 ∷ 0 ∷ 0 ∷ 0 ∷ []) ∷ []
unfolding declarations body_declarations scope_declarations early_names targets_of is_loop early_jumps
a_static_block = refl

-- { continue; }
a_continue : early_jumps no_targets [] (script (block (leaves shape.ContinueStatement absent ▸ none) ▸ none)) ≡ (0 ∷ 0 ∷ 0 ∷ 0 ∷ []) ∷ []
unfolding declarations body_declarations scope_declarations early_names targets_of is_loop early_jumps
a_continue = refl

-- break;
a_break : early_jumps no_targets [] (script (leaves shape.BreakStatement absent ▸ none)) ≡ (0 ∷ 0 ∷ []) ∷ []
unfolding declarations body_declarations scope_declarations early_names targets_of is_loop early_jumps
a_break = refl

-- return;
a_return : early_jumps no_targets [] (script (leaves shape.ReturnStatement absent ▸ none)) ≡ (0 ∷ 0 ∷ []) ∷ []
unfolding declarations body_declarations scope_declarations early_names targets_of is_loop early_jumps
a_return = refl

-- while (x) { break; continue; }
in_a_loop : early_jumps no_targets [] (script (loops (reference x) (block (leaves shape.BreakStatement absent ▸ leaves shape.ContinueStatement absent ▸ none)) ▸ none)) ≡ []
unfolding declarations body_declarations scope_declarations early_names targets_of is_loop early_jumps
in_a_loop = refl

-- switch (x) { case x: break; continue; }
in_a_switch : early_jumps no_targets [] (script (switches (reference x) (case_of (reference x) (leaves shape.BreakStatement absent ▸ leaves shape.ContinueStatement absent ▸ none) ▸ none) ▸ none)) ≡ (0 ∷ 0 ∷ 1 ∷ 0 ∷ 1 ∷ 1 ∷ []) ∷ []
unfolding declarations body_declarations scope_declarations early_names targets_of is_loop early_jumps
in_a_switch = refl

-- a: a: ;: a label inside itself
a_label_in_itself : early_jumps no_targets [] (script (labeled a (labeled a (leaf shape.EmptyStatement)) ▸ none)) ≡ (0 ∷ 0 ∷ 1 ∷ []) ∷ []
unfolding declarations body_declarations scope_declarations early_names targets_of is_loop early_jumps
a_label_in_itself = refl

-- a: b: while (x) { continue a; break b; }
labels_of_a_loop : early_jumps no_targets [] (script (labeled a (labeled b (loops (reference x) (block (leaves shape.ContinueStatement (word a) ▸ leaves shape.BreakStatement (word b) ▸ none)))) ▸ none)) ≡ []
unfolding declarations body_declarations scope_declarations early_names targets_of is_loop early_jumps
labels_of_a_loop = refl

-- a: { break a; while (x) continue a; }: the label names no loop
a_label_of_a_block : early_jumps no_targets [] (script (labeled a (block (leaves shape.BreakStatement (word a) ▸ loops (reference x) (leaves shape.ContinueStatement (word a)) ▸ none)) ▸ none)) ≡ (0 ∷ 0 ∷ 1 ∷ 0 ∷ 1 ∷ 1 ∷ []) ∷ []
unfolding declarations body_declarations scope_declarations early_names targets_of is_loop early_jumps
a_label_of_a_block = refl

-- while (x) (function() { break; })
a_jump_out_of_a_function : early_jumps no_targets [] (script (loops (reference x) (said (function_expression 1 absent none (leaves shape.BreakStatement absent ▸ none))) ▸ none)) ≡ (0 ∷ 0 ∷ 1 ∷ 0 ∷ 2 ∷ 0 ∷ 0 ∷ []) ∷ []
unfolding declarations body_declarations scope_declarations early_names targets_of is_loop early_jumps
a_jump_out_of_a_function = refl

-- function f() { return; } () => { return; }
in_a_function : early_jumps no_targets [] (script (function 1 (binding f) none (leaves shape.ReturnStatement absent ▸ none) ▸ said (arrow_block 2 none (leaves shape.ReturnStatement absent ▸ none)) ▸ none)) ≡ []
unfolding declarations body_declarations scope_declarations early_names targets_of is_loop early_jumps
in_a_function = refl

-- class a { static { return; } }
in_a_static_block : early_jumps no_targets [] (script (class_with true 1 (binding a) (binding a) absent (static_block 2 (leaves shape.ReturnStatement absent ▸ none) ▸ none) ▸ none)) ≡ (0 ∷ 0 ∷ 2 ∷ 0 ∷ 0 ∷ 0 ∷ 0 ∷ []) ∷ []
unfolding declarations body_declarations scope_declarations early_names targets_of is_loop early_jumps
in_a_static_block = refl

-- function* f() { yield; () => yield }
a_yield_in_an_arrow : early_jumps no_targets [] (script (generator 1 (binding f) none (said (leaves (shape.YieldExpression false) absent) ▸ said (arrow 2 none (leaves (shape.YieldExpression false) absent)) ▸ none) ▸ none)) ≡ (0 ∷ 0 ∷ 2 ∷ 0 ∷ 1 ∷ 0 ∷ 1 ∷ []) ∷ []
unfolding declarations body_declarations scope_declarations early_names targets_of is_loop early_jumps
a_yield_in_an_arrow = refl

-- function f() { yield }
a_yield_in_a_function : early_jumps no_targets [] (script (function 1 (binding f) none (said (leaves (shape.YieldExpression false) absent) ▸ none) ▸ none)) ≡ (0 ∷ 0 ∷ 2 ∷ 0 ∷ 0 ∷ 0 ∷ []) ∷ []
unfolding declarations body_declarations scope_declarations early_names targets_of is_loop early_jumps
a_yield_in_a_function = refl

-- function* f() { (class { m = yield }) }: the value of a field is no generator's
a_yield_in_a_field : early_jumps no_targets [] (script (generator 1 (binding f) none (said (class_with false 2 absent absent absent (field_of (inner 3 (leaves (shape.YieldExpression false) absent)) ▸ none)) ▸ none) ▸ none)) ≡ (0 ∷ 0 ∷ 2 ∷ 0 ∷ 0 ∷ 0 ∷ 2 ∷ 0 ∷ 0 ∷ 1 ∷ 0 ∷ []) ∷ []
unfolding declarations body_declarations scope_declarations early_names targets_of is_loop early_jumps
a_yield_in_a_field = refl
