-- Which names are steady in a body (no node writes them, and they aren't foreign to it), in small
-- programs, worked out by hand.
use Rattle.std.specs.Prelude.{◌≡◌, refl, true, false}
use Rattle.mini_model.specs.declared.kind.VariableDeclarationKind.TheVariants.{Var, Let}
use Rattle.mini_model.specs.declared.shape.Shape.TheVariants as shape
use Rattle.mini_model.specs.Tree.{none, ◌▸◌, absent, leaf}
use Rattle.mini_laws.specs.DeclaredNames.{names_of, body_names, with_names, has_inner}
use Rattle.mini_laws.specs.Scopes.{scopes_by}
use Rattle.mini_laws.specs.Resolved.{resolved, symbols, resolved_program}
use Rattle.mini_laws.specs.ScopeList.{has_eval, scope_list, by_symbol}
use Rattle.mini_laws.specs.Mentions.{mentions}
use Rattle.mini_laws.specs.Shared.{module_names, names_arguments, reached_by_arguments, caught, var_writes, pattern_writes}
use Rattle.mini_laws.specs.Foreign.{imported_names, pattern_names, lexical_variables, switched, moments, has_number, params_around, is_foreign}
use Rattle.mini_laws.specs.NameBodies.{bodies, fixed_names}
use Rattle.mini_laws.specs.Programs.{script, reference, binding, said, block, declares, var_of, let_of, function, assigns, calls, zero_literal, for_of, f, g, p, x}
use Rattle.mini_shrink.specs.Told.{is_foreign_name, is_steady}
use Rattle.mini_shrink.specs.Regular.{declares_alone, is_regular}
use Rattle.mini_shrink.specs.Pace.{pace}

-- `function f() { var x = 0; x; }`: what the declarator of the body gives the name doesn't count
an_initialised_var : is_steady (resolved_program (script (function 1 (binding f) none (declares Var (binding x) (zero_literal) ▸ said (reference x) ▸ none) ▸ none))) 1 1 ≡ true
unfolding resolved scopes_by body_names names_of with_names has_inner symbols has_eval scope_list mentions module_names names_arguments reached_by_arguments caught var_writes pattern_writes imported_names pattern_names lexical_variables switched pace moments is_regular declares_alone has_number params_around bodies fixed_names
an_initialised_var = refl

-- `function f() { for (var x of p) x; }`: nor does the head of a `for..of` of the body
a_var_of_a_head : is_steady (resolved_program (script (function 1 (binding f) none (for_of (declares Var (binding x) absent) (reference p) (said (reference x)) ▸ none) ▸ none))) 1 1 ≡ true
unfolding resolved scopes_by body_names names_of with_names has_inner symbols has_eval scope_list mentions module_names names_arguments reached_by_arguments caught var_writes pattern_writes imported_names pattern_names lexical_variables switched pace moments is_regular declares_alone has_number params_around bodies fixed_names
a_var_of_a_head = refl

-- `function f() { var x = 0; var x; x; }`: the body may declare it more than once
a_var_declared_twice : is_steady (resolved_program (script (function 1 (binding f) none (declares Var (binding x) (zero_literal) ▸ var_of x ▸ said (reference x) ▸ none) ▸ none))) 1 1 ≡ true
unfolding resolved scopes_by body_names names_of with_names has_inner symbols has_eval scope_list mentions module_names names_arguments reached_by_arguments caught var_writes pattern_writes imported_names pattern_names lexical_variables switched pace moments is_regular declares_alone has_number params_around bodies fixed_names
a_var_declared_twice = refl

-- `function f() { g(); function g() {} }`: a function that is hoisted in the body
an_own_function : is_steady (resolved_program (script (function 1 (binding f) none (said (calls (reference g) none) ▸ function 2 (binding g) none none ▸ none) ▸ none))) 1 1 ≡ true
unfolding resolved scopes_by body_names names_of with_names has_inner symbols has_eval scope_list mentions module_names names_arguments reached_by_arguments caught var_writes pattern_writes imported_names pattern_names lexical_variables switched pace moments is_regular declares_alone has_number params_around bodies fixed_names
an_own_function = refl

-- `function f() { var x; x = 0; }`: a node writes it
a_written_var : is_steady (resolved_program (script (function 1 (binding f) none (var_of x ▸ said (assigns (reference x) (zero_literal)) ▸ none) ▸ none))) 1 1 ≡ false
unfolding resolved scopes_by body_names names_of with_names has_inner symbols has_eval scope_list mentions module_names names_arguments reached_by_arguments caught var_writes pattern_writes imported_names pattern_names lexical_variables switched pace moments is_regular declares_alone has_number params_around bodies fixed_names
a_written_var = refl

-- `function f() { var x = 0; function g() { x; } }`: in g the declarator stands in another body
a_var_of_another_body : is_steady (resolved_program (script (function 1 (binding f) none (declares Var (binding x) (zero_literal) ▸ function 2 (binding g) none (said (reference x) ▸ none) ▸ none) ▸ none))) 2 1 ≡ false
unfolding resolved scopes_by body_names names_of with_names has_inner symbols has_eval scope_list mentions module_names names_arguments reached_by_arguments caught var_writes pattern_writes imported_names pattern_names lexical_variables switched pace moments is_regular declares_alone has_number params_around bodies fixed_names
a_var_of_another_body = refl

-- `function f() { for (var x of p); function g() { x; } }`: and so does the head
a_head_of_another_body : is_steady (resolved_program (script (function 1 (binding f) none (for_of (declares Var (binding x) absent) (reference p) (leaf shape.EmptyStatement) ▸ function 2 (binding g) none (said (reference x) ▸ none) ▸ none) ▸ none))) 2 1 ≡ false
unfolding resolved scopes_by body_names names_of with_names has_inner symbols has_eval scope_list mentions module_names names_arguments reached_by_arguments caught var_writes pattern_writes imported_names pattern_names lexical_variables switched pace moments is_regular declares_alone has_number params_around bodies fixed_names
a_head_of_another_body = refl

-- `function f() { var x; function g() { x; } }`: without a value it is steady there, too
a_var_without_a_value : is_steady (resolved_program (script (function 1 (binding f) none (var_of x ▸ function 2 (binding g) none (said (reference x) ▸ none) ▸ none) ▸ none))) 2 1 ≡ true
unfolding resolved scopes_by body_names names_of with_names has_inner symbols has_eval scope_list mentions module_names names_arguments reached_by_arguments caught var_writes pattern_writes imported_names pattern_names lexical_variables switched pace moments is_regular declares_alone has_number params_around bodies fixed_names
a_var_without_a_value = refl

-- `function f() { let x = 0; x; }`
a_read_let : is_steady (resolved_program (script (function 1 (binding f) none (declares Let (binding x) (zero_literal) ▸ said (reference x) ▸ none) ▸ none))) 1 1 ≡ true
unfolding resolved scopes_by body_names names_of with_names has_inner symbols has_eval scope_list mentions module_names names_arguments reached_by_arguments caught var_writes pattern_writes imported_names pattern_names lexical_variables switched pace moments is_regular declares_alone has_number params_around bodies fixed_names
a_read_let = refl

-- `function f() { x; let x = 0; }`: it is not initialised where it is read
an_early_read : is_steady (resolved_program (script (function 1 (binding f) none (said (reference x) ▸ declares Let (binding x) (zero_literal) ▸ none) ▸ none))) 1 1 ≡ false
unfolding resolved scopes_by body_names names_of with_names has_inner symbols has_eval scope_list mentions module_names names_arguments reached_by_arguments caught var_writes pattern_writes imported_names pattern_names lexical_variables switched pace moments is_regular declares_alone has_number params_around bodies fixed_names
an_early_read = refl

-- `function f() { { var x = 0; } x; let x; }` is an early error, whose one symbol is declared as a
-- `var` and by `let`: by scopes x is read early, and by the moments of the program it isn't, as the
-- `var` ends before
a_let_and_a_var : (is_foreign_name (resolved_program (script (function 1 (binding f) none (block (declares Var (binding x) (zero_literal) ▸ none) ▸ said (reference x) ▸ let_of x ▸ none) ▸ none))) 1 1 ≡ true) × (is_foreign (resolved_program (script (function 1 (binding f) none (block (declares Var (binding x) (zero_literal) ▸ none) ▸ said (reference x) ▸ let_of x ▸ none) ▸ none))) 1 (by_symbol 1) ≡ false)
unfolding resolved scopes_by body_names names_of with_names has_inner symbols has_eval scope_list mentions module_names names_arguments reached_by_arguments caught var_writes pattern_writes imported_names pattern_names lexical_variables switched pace moments is_regular declares_alone has_number params_around bodies fixed_names
a_let_and_a_var = (refl, refl)
