-- What bodies share and what is foreign to them, their scopes, `this` and `arguments`, in small
-- programs, worked out by hand.
use Rattle.std.specs.Prelude.{◌≡◌, refl, true, false, [], ◌∷◌, map, length, codes}
use Rattle.mini_model.specs.declared.kind.VariableDeclarationKind.TheVariants.{Var, Let, Const}
use Rattle.mini_model.specs.declared.shape.Shape.TheVariants as shape
use Rattle.mini_model.specs.Tree.{none, ◌▸◌, listed, absent, leaf, unresolved}
use Rattle.mini_laws.specs.DeclaredNames.{names_of, body_names, with_names, has_inner}
use Rattle.mini_laws.specs.Scopes.{scopes_by}
use Rattle.mini_laws.specs.Resolved.{resolved, symbols, resolved_program}
use Rattle.mini_laws.specs.ScopeList.{has_eval, scope_list, scopes_of, scope_of_symbol}
use Rattle.mini_laws.specs.Mentions.{mentions}
use Rattle.mini_laws.specs.Shared.{module_names, names_arguments, reached_by_arguments, caught, var_writes, pattern_writes, is_shared}
use Rattle.mini_laws.specs.Foreign.{imported_names, pattern_names, lexical_variables, switched, moments, has_number, params_around, is_foreign}
use Rattle.mini_laws.specs.NameBodies.{bodies, this_has_event, has_arguments, fixed_names, is_writable}
use Rattle.mini_laws.specs.Programs.{known, script, module_of, reference, binding, binding_of, plain, inner, said, block, declares, var_of, let_of, function, strict_function, function_expression, arrow, with_default, class_with, method_of, constructor_of, field_of, static_block, assigns, member, calls, zero_literal, catches, case_of, switches, for_of, object_pattern, array_pattern, exports, exports_declaration, imports, a, b, e, f, g, p, x, eval, arguments}

-- function f(p) { p = p }: a top name of a script is shared
a_top_name_is_shared : is_shared (resolved_program (script (function 1 (binding f) (binding p ▸ none) (said (assigns (reference p) (reference p)) ▸ none) ▸ none))) 0 (known 0 f) ≡ true
unfolding resolved scopes_by body_names names_of with_names has_inner symbols has_eval scope_list mentions module_names names_arguments reached_by_arguments caught var_writes pattern_writes imported_names pattern_names lexical_variables switched moments has_number params_around bodies fixed_names
a_top_name_is_shared = refl

-- .. and foreign
a_top_name_is_foreign : is_foreign (resolved_program (script (function 1 (binding f) (binding p ▸ none) (said (assigns (reference p) (reference p)) ▸ none) ▸ none))) 1 (known 0 f) ≡ true
unfolding resolved scopes_by body_names names_of with_names has_inner symbols has_eval scope_list mentions module_names names_arguments reached_by_arguments caught var_writes pattern_writes imported_names pattern_names lexical_variables switched moments has_number params_around bodies fixed_names
a_top_name_is_foreign = refl

-- the parameter is mentioned in one body
a_parameter_is_not_shared : is_shared (resolved_program (script (function 1 (binding f) (binding p ▸ none) (said (assigns (reference p) (reference p)) ▸ none) ▸ none))) 1 (known 1 p) ≡ false
unfolding resolved scopes_by body_names names_of with_names has_inner symbols has_eval scope_list mentions module_names names_arguments reached_by_arguments caught var_writes pattern_writes imported_names pattern_names lexical_variables switched moments has_number params_around bodies fixed_names
a_parameter_is_not_shared = refl

-- .. and changed by it alone
a_parameter_is_not_foreign : is_foreign (resolved_program (script (function 1 (binding f) (binding p ▸ none) (said (assigns (reference p) (reference p)) ▸ none) ▸ none))) 1 (known 1 p) ≡ false
unfolding resolved scopes_by body_names names_of with_names has_inner symbols has_eval scope_list mentions module_names names_arguments reached_by_arguments caught var_writes pattern_writes imported_names pattern_names lexical_variables switched moments has_number params_around bodies fixed_names
a_parameter_is_not_foreign = refl

-- a name that nothing declares is shared, but for the three that are values
an_unresolved_name_is_shared : is_shared (resolved_program (script (function 1 (binding f) (binding p ▸ none) (said (assigns (reference p) (reference p)) ▸ none) ▸ none))) 0 (unresolved x) ≡ true
unfolding resolved scopes_by body_names names_of with_names has_inner symbols has_eval scope_list mentions module_names names_arguments reached_by_arguments caught var_writes pattern_writes imported_names pattern_names lexical_variables switched moments has_number params_around bodies fixed_names
an_unresolved_name_is_shared = refl

undefined_is_no_variable : is_shared (resolved_program (script (function 1 (binding f) (binding p ▸ none) (said (assigns (reference p) (reference p)) ▸ none) ▸ none))) 0 (unresolved (codes "undefined")) ≡ false
unfolding resolved scopes_by body_names names_of with_names has_inner symbols has_eval scope_list mentions module_names names_arguments reached_by_arguments caught var_writes pattern_writes imported_names pattern_names lexical_variables switched moments has_number params_around bodies fixed_names
undefined_is_no_variable = refl

-- let a; export { a }
an_exported_name_is_shared : is_shared (resolved_program (module_of (let_of a ▸ exports (reference a) ▸ none))) 0 (known 0 a) ≡ true
unfolding resolved scopes_by body_names names_of with_names has_inner symbols has_eval scope_list mentions module_names names_arguments reached_by_arguments caught var_writes pattern_writes imported_names pattern_names lexical_variables switched moments has_number params_around bodies fixed_names
an_exported_name_is_shared = refl

-- .. which nothing writes, and which is read after its declaration
an_exported_name_is_not_foreign : is_foreign (resolved_program (module_of (let_of a ▸ exports (reference a) ▸ none))) 0 (known 0 a) ≡ false
unfolding resolved scopes_by body_names names_of with_names has_inner symbols has_eval scope_list mentions module_names names_arguments reached_by_arguments caught var_writes pattern_writes imported_names pattern_names lexical_variables switched moments has_number params_around bodies fixed_names
an_exported_name_is_not_foreign = refl

-- export { a }; let a: read before its declaration has ended
an_early_export : is_foreign (resolved_program (module_of (exports (reference a) ▸ let_of a ▸ none))) 0 (known 0 a) ≡ true
unfolding resolved scopes_by body_names names_of with_names has_inner symbols has_eval scope_list mentions module_names names_arguments reached_by_arguments caught var_writes pattern_writes imported_names pattern_names lexical_variables switched moments has_number params_around bodies fixed_names
an_early_export = refl

-- import a from ""; function f() { a }
an_import_is_foreign : is_foreign (resolved_program (module_of (imports (binding a) ▸ function 1 (binding f) none (said (reference a) ▸ none) ▸ none))) 1 (known 0 a) ≡ true
unfolding resolved scopes_by body_names names_of with_names has_inner symbols has_eval scope_list mentions module_names names_arguments reached_by_arguments caught var_writes pattern_writes imported_names pattern_names lexical_variables switched moments has_number params_around bodies fixed_names
an_import_is_foreign = refl

-- export function f() { }
an_exported_function_is_shared : is_shared (resolved_program (module_of (exports_declaration (function 1 (binding f) none none) ▸ none))) 0 (known 0 f) ≡ true
unfolding resolved scopes_by body_names names_of with_names has_inner symbols has_eval scope_list mentions module_names names_arguments reached_by_arguments caught var_writes pattern_writes imported_names pattern_names lexical_variables switched moments has_number params_around bodies fixed_names
an_exported_function_is_shared = refl

-- let a; function f() { a = null }: two bodies mention a
two_bodies : is_shared (resolved_program (module_of (let_of a ▸ function 1 (binding f) none (said (assigns (reference a) zero_literal) ▸ none) ▸ none))) 0 (known 0 a) ≡ true
unfolding resolved scopes_by body_names names_of with_names has_inner symbols has_eval scope_list mentions module_names names_arguments reached_by_arguments caught var_writes pattern_writes imported_names pattern_names lexical_variables switched moments has_number params_around bodies fixed_names
two_bodies = refl

-- .. and the other writes it
another_body_writes : is_foreign (resolved_program (module_of (let_of a ▸ function 1 (binding f) none (said (assigns (reference a) zero_literal) ▸ none) ▸ none))) 0 (known 0 a) ≡ true
unfolding resolved scopes_by body_names names_of with_names has_inner symbols has_eval scope_list mentions module_names names_arguments reached_by_arguments caught var_writes pattern_writes imported_names pattern_names lexical_variables switched moments has_number params_around bodies fixed_names
another_body_writes = refl

-- .. which it is declared outside
declared_outside_and_written : is_foreign (resolved_program (module_of (let_of a ▸ function 1 (binding f) none (said (assigns (reference a) zero_literal) ▸ none) ▸ none))) 1 (known 0 a) ≡ true
unfolding resolved scopes_by body_names names_of with_names has_inner symbols has_eval scope_list mentions module_names names_arguments reached_by_arguments caught var_writes pattern_writes imported_names pattern_names lexical_variables switched moments has_number params_around bodies fixed_names
declared_outside_and_written = refl

-- let a; function f() { a }: what the module reads nobody writes
nobody_writes : is_foreign (resolved_program (module_of (let_of a ▸ function 1 (binding f) none (said (reference a) ▸ none) ▸ none))) 0 (known 0 a) ≡ false
unfolding resolved scopes_by body_names names_of with_names has_inner symbols has_eval scope_list mentions module_names names_arguments reached_by_arguments caught var_writes pattern_writes imported_names pattern_names lexical_variables switched moments has_number params_around bodies fixed_names
nobody_writes = refl

-- .. but f may run while a is uninitialised
a_let_around_a_function : is_foreign (resolved_program (module_of (let_of a ▸ function 1 (binding f) none (said (reference a) ▸ none) ▸ none))) 1 (known 0 a) ≡ true
unfolding resolved scopes_by body_names names_of with_names has_inner symbols has_eval scope_list mentions module_names names_arguments reached_by_arguments caught var_writes pattern_writes imported_names pattern_names lexical_variables switched moments has_number params_around bodies fixed_names
a_let_around_a_function = refl

-- function g() { var a = null; function f() { a } }: a `var` with an initializer is a write, by g
a_var_with_an_initializer : is_foreign (resolved_program (script (function 1 (binding g) none (declares Var (binding a) (zero_literal) ▸ function 2 (binding f) none (said (reference a) ▸ none) ▸ none) ▸ none))) 2 (known 1 a) ≡ true
unfolding resolved scopes_by body_names names_of with_names has_inner symbols has_eval scope_list mentions module_names names_arguments reached_by_arguments caught var_writes pattern_writes imported_names pattern_names lexical_variables switched moments has_number params_around bodies fixed_names
a_var_with_an_initializer = refl

-- .. which g itself makes
its_own_write : is_foreign (resolved_program (script (function 1 (binding g) none (declares Var (binding a) (zero_literal) ▸ function 2 (binding f) none (said (reference a) ▸ none) ▸ none) ▸ none))) 1 (known 1 a) ≡ false
unfolding resolved scopes_by body_names names_of with_names has_inner symbols has_eval scope_list mentions module_names names_arguments reached_by_arguments caught var_writes pattern_writes imported_names pattern_names lexical_variables switched moments has_number params_around bodies fixed_names
its_own_write = refl

-- function g() { var a; function f() { a } }: without one it is none
a_var_without_an_initializer : is_foreign (resolved_program (script (function 1 (binding g) none (declares Var (binding a) (absent) ▸ function 2 (binding f) none (said (reference a) ▸ none) ▸ none) ▸ none))) 2 (known 1 a) ≡ false
unfolding resolved scopes_by body_names names_of with_names has_inner symbols has_eval scope_list mentions module_names names_arguments reached_by_arguments caught var_writes pattern_writes imported_names pattern_names lexical_variables switched moments has_number params_around bodies fixed_names
a_var_without_an_initializer = refl

-- function g() { for (var a of b) ; function f() { a } }: a `var` in a head is a write
a_var_in_a_head : is_foreign (resolved_program (script (function 1 (binding g) none (for_of (var_of a) (reference b) (leaf shape.EmptyStatement) ▸ function 2 (binding f) none (said (reference a) ▸ none) ▸ none) ▸ none))) 2 (known 1 a) ≡ true
unfolding resolved scopes_by body_names names_of with_names has_inner symbols has_eval scope_list mentions module_names names_arguments reached_by_arguments caught var_writes pattern_writes imported_names pattern_names lexical_variables switched moments has_number params_around bodies fixed_names
a_var_in_a_head = refl

-- function f(p) { eval() }: a direct eval can see p
seen_by_a_direct_eval : is_shared (resolved_program (script (function 1 (binding f) (binding p ▸ none) (said (calls (reference eval) none) ▸ none) ▸ none))) 1 (known 1 p) ≡ true
unfolding resolved scopes_by body_names names_of with_names has_inner symbols has_eval scope_list mentions module_names names_arguments reached_by_arguments caught var_writes pattern_writes imported_names pattern_names lexical_variables switched moments has_number params_around bodies fixed_names
seen_by_a_direct_eval = refl

-- .. and change it
changed_by_a_direct_eval : is_foreign (resolved_program (script (function 1 (binding f) (binding p ▸ none) (said (calls (reference eval) none) ▸ none) ▸ none))) 1 (known 1 p) ≡ true
unfolding resolved scopes_by body_names names_of with_names has_inner symbols has_eval scope_list mentions module_names names_arguments reached_by_arguments caught var_writes pattern_writes imported_names pattern_names lexical_variables switched moments has_number params_around bodies fixed_names
changed_by_a_direct_eval = refl

-- function f(p) { x.eval() }: no direct eval
no_direct_eval : is_shared (resolved_program (script (function 1 (binding f) (binding p ▸ none) (said (calls (member (reference x) eval) none) ▸ none) ▸ none))) 1 (known 1 p) ≡ false
unfolding resolved scopes_by body_names names_of with_names has_inner symbols has_eval scope_list mentions module_names names_arguments reached_by_arguments caught var_writes pattern_writes imported_names pattern_names lexical_variables switched moments has_number params_around bodies fixed_names
no_direct_eval = refl

-- function f(p) { arguments }: sloppy `arguments` reaches the parameters
arguments_share : is_shared (resolved_program (script (function 1 (binding f) (binding p ▸ none) (said (reference arguments) ▸ none) ▸ none))) 1 (known 1 p) ≡ true
unfolding resolved scopes_by body_names names_of with_names has_inner symbols has_eval scope_list mentions module_names names_arguments reached_by_arguments caught var_writes pattern_writes imported_names pattern_names lexical_variables switched moments has_number params_around bodies fixed_names
arguments_share = refl

-- .. and changes them
arguments_change : is_foreign (resolved_program (script (function 1 (binding f) (binding p ▸ none) (said (reference arguments) ▸ none) ▸ none))) 1 (known 1 p) ≡ true
unfolding resolved scopes_by body_names names_of with_names has_inner symbols has_eval scope_list mentions module_names names_arguments reached_by_arguments caught var_writes pattern_writes imported_names pattern_names lexical_variables switched moments has_number params_around bodies fixed_names
arguments_change = refl

-- function f(p) { "use strict"; arguments }: strict `arguments` has values of its own
strict_arguments : is_shared (resolved_program (script (strict_function 1 (binding f) (binding p ▸ none) (said (reference arguments) ▸ none) ▸ none))) 1 (known 1 p) ≡ false
unfolding resolved scopes_by body_names names_of with_names has_inner symbols has_eval scope_list mentions module_names names_arguments reached_by_arguments caught var_writes pattern_writes imported_names pattern_names lexical_variables switched moments has_number params_around bodies fixed_names
strict_arguments = refl

-- function f(p) { () => arguments }: an arrow has none of its own
arguments_of_an_arrow : is_shared (resolved_program (script (function 1 (binding f) (binding p ▸ none) (said (arrow 2 none (reference arguments)) ▸ none) ▸ none))) 1 (known 1 p) ≡ true
unfolding resolved scopes_by body_names names_of with_names has_inner symbols has_eval scope_list mentions module_names names_arguments reached_by_arguments caught var_writes pattern_writes imported_names pattern_names lexical_variables switched moments has_number params_around bodies fixed_names
arguments_of_an_arrow = refl

-- function f(p) { (function() { arguments }) }: another function has
arguments_of_another : is_shared (resolved_program (script (function 1 (binding f) (binding p ▸ none) (said (function_expression 2 absent none (said (reference arguments) ▸ none)) ▸ none) ▸ none))) 1 (known 1 p) ≡ false
unfolding resolved scopes_by body_names names_of with_names has_inner symbols has_eval scope_list mentions module_names names_arguments reached_by_arguments caught var_writes pattern_writes imported_names pattern_names lexical_variables switched moments has_number params_around bodies fixed_names
arguments_of_another = refl

-- function f(p) { var arguments; arguments }: a `var` of that name begins as the function's own
a_var_called_arguments : is_shared (resolved_program (script (function 1 (binding f) (binding p ▸ none) (var_of arguments ▸ said (reference arguments) ▸ none) ▸ none))) 1 (known 1 p) ≡ true
unfolding resolved scopes_by body_names names_of with_names has_inner symbols has_eval scope_list mentions module_names names_arguments reached_by_arguments caught var_writes pattern_writes imported_names pattern_names lexical_variables switched moments has_number params_around bodies fixed_names
a_var_called_arguments = refl

-- function f() { try { } catch (e) { var e = null; e } }: the `var` is left where it is
a_var_under_catch_is_shared : is_shared (resolved_program (script (function 1 (binding f) none (catches (binding e) (declares Var (binding e) (zero_literal) ▸ said (reference e) ▸ none) ▸ none) ▸ none))) 1 (known 1 e) ≡ true
unfolding resolved scopes_by body_names names_of with_names has_inner symbols has_eval scope_list mentions module_names names_arguments reached_by_arguments caught var_writes pattern_writes imported_names pattern_names lexical_variables switched moments has_number params_around bodies fixed_names
a_var_under_catch_is_shared = refl

-- .. and its initializer writes the parameter, as any other node of the body could
a_written_parameter_is_not_shared : is_shared (resolved_program (script (function 1 (binding f) none (catches (binding e) (declares Var (binding e) (zero_literal) ▸ said (reference e) ▸ none) ▸ none) ▸ none))) 1 (known 2 e) ≡ false
unfolding resolved scopes_by body_names names_of with_names has_inner symbols has_eval scope_list mentions module_names names_arguments reached_by_arguments caught var_writes pattern_writes imported_names pattern_names lexical_variables switched moments has_number params_around bodies fixed_names
a_written_parameter_is_not_shared = refl

a_written_parameter_is_not_foreign : is_foreign (resolved_program (script (function 1 (binding f) none (catches (binding e) (declares Var (binding e) (zero_literal) ▸ said (reference e) ▸ none) ▸ none) ▸ none))) 1 (known 2 e) ≡ false
unfolding resolved scopes_by body_names names_of with_names has_inner symbols has_eval scope_list mentions module_names names_arguments reached_by_arguments caught var_writes pattern_writes imported_names pattern_names lexical_variables switched moments has_number params_around bodies fixed_names
a_written_parameter_is_not_foreign = refl

-- function f() { try { } catch (e) { var e = null; () => e } }: to the arrow it is
a_written_parameter_is_foreign_to_an_arrow : is_foreign (resolved_program (script (function 1 (binding f) none (catches (binding e) (declares Var (binding e) (zero_literal) ▸ said (arrow 2 none (reference e)) ▸ none) ▸ none) ▸ none))) 2 (known 2 e) ≡ true
unfolding resolved scopes_by body_names names_of with_names has_inner symbols has_eval scope_list mentions module_names names_arguments reached_by_arguments caught var_writes pattern_writes imported_names pattern_names lexical_variables switched moments has_number params_around bodies fixed_names
a_written_parameter_is_foreign_to_an_arrow = refl

-- function f() { try { } catch (e) { var e = null } () => e }: this arrow reads the `var`, which
-- nothing writes
an_arrow_reads_the_var : is_foreign (resolved_program (script (function 1 (binding f) none (catches (binding e) (declares Var (binding e) (zero_literal) ▸ none) ▸ said (arrow 2 none (reference e)) ▸ none) ▸ none))) 2 (known 1 e) ≡ false
unfolding resolved scopes_by body_names names_of with_names has_inner symbols has_eval scope_list mentions module_names names_arguments reached_by_arguments caught var_writes pattern_writes imported_names pattern_names lexical_variables switched moments has_number params_around bodies fixed_names
an_arrow_reads_the_var = refl

-- function f() { try { } catch (e) { var [e] = null } }: the world binds the parameter
a_pattern_shares_the_parameter : is_shared (resolved_program (script (function 1 (binding f) none (catches (binding e) (declares Var (array_pattern 2 (binding e ▸ none)) (zero_literal) ▸ none) ▸ none) ▸ none))) 1 (known 2 e) ≡ true
unfolding resolved scopes_by body_names names_of with_names has_inner symbols has_eval scope_list mentions module_names names_arguments reached_by_arguments caught var_writes pattern_writes imported_names pattern_names lexical_variables switched moments has_number params_around bodies fixed_names
a_pattern_shares_the_parameter = refl

a_pattern_writes_the_parameter : is_foreign (resolved_program (script (function 1 (binding f) none (catches (binding e) (declares Var (array_pattern 2 (binding e ▸ none)) (zero_literal) ▸ none) ▸ none) ▸ none))) 1 (known 2 e) ≡ true
unfolding resolved scopes_by body_names names_of with_names has_inner symbols has_eval scope_list mentions module_names names_arguments reached_by_arguments caught var_writes pattern_writes imported_names pattern_names lexical_variables switched moments has_number params_around bodies fixed_names
a_pattern_writes_the_parameter = refl

-- function f() { try { } catch (e) { for (var [e] of b) ; } }: in each turn
a_pattern_in_a_head_writes_the_parameter : is_foreign (resolved_program (script (function 1 (binding f) none (catches (binding e) (for_of (declares Var (array_pattern 2 (binding e ▸ none)) absent) (reference b) (leaf shape.EmptyStatement) ▸ none) ▸ none) ▸ none))) 1 (known 2 e) ≡ true
unfolding resolved scopes_by body_names names_of with_names has_inner symbols has_eval scope_list mentions module_names names_arguments reached_by_arguments caught var_writes pattern_writes imported_names pattern_names lexical_variables switched moments has_number params_around bodies fixed_names
a_pattern_in_a_head_writes_the_parameter = refl

-- function f() { try { } catch (e) { var [a] = null } }: a pattern of another name
a_pattern_of_another_name : is_foreign (resolved_program (script (function 1 (binding f) none (catches (binding e) (declares Var (array_pattern 2 (binding a ▸ none)) (zero_literal) ▸ none) ▸ none) ▸ none))) 1 (known 2 e) ≡ false
unfolding resolved scopes_by body_names names_of with_names has_inner symbols has_eval scope_list mentions module_names names_arguments reached_by_arguments caught var_writes pattern_writes imported_names pattern_names lexical_variables switched moments has_number params_around bodies fixed_names
a_pattern_of_another_name = refl

-- function f() { try { } catch (e) { { let [e] = null } } }: a name of its own
a_lexical_pattern : is_foreign (resolved_program (script (function 1 (binding f) none (catches (binding e) (block (declares Let (array_pattern 2 (binding e ▸ none)) (zero_literal) ▸ none) ▸ none) ▸ none) ▸ none))) 1 (known 1 e) ≡ false
unfolding resolved scopes_by body_names names_of with_names has_inner symbols has_eval scope_list mentions module_names names_arguments reached_by_arguments caught var_writes pattern_writes imported_names pattern_names lexical_variables switched moments has_number params_around bodies fixed_names
a_lexical_pattern = refl

-- function f() { try { } catch (e) { try { } catch (e) { var [e] = null } } }: the innermost
-- parameter
a_pattern_under_two : is_foreign (resolved_program (script (function 1 (binding f) none (catches (binding e) (catches (binding e) (declares Var (array_pattern 2 (binding e ▸ none)) (zero_literal) ▸ none) ▸ none) ▸ none) ▸ none))) 1 (known 3 e) ≡ true
unfolding resolved scopes_by body_names names_of with_names has_inner symbols has_eval scope_list mentions module_names names_arguments reached_by_arguments caught var_writes pattern_writes imported_names pattern_names lexical_variables switched moments has_number params_around bodies fixed_names
a_pattern_under_two = refl

-- .. and no other
a_pattern_under_another : is_foreign (resolved_program (script (function 1 (binding f) none (catches (binding e) (catches (binding e) (declares Var (array_pattern 2 (binding e ▸ none)) (zero_literal) ▸ none) ▸ none) ▸ none) ▸ none))) 1 (known 2 e) ≡ false
unfolding resolved scopes_by body_names names_of with_names has_inner symbols has_eval scope_list mentions module_names names_arguments reached_by_arguments caught var_writes pattern_writes imported_names pattern_names lexical_variables switched moments has_number params_around bodies fixed_names
a_pattern_under_another = refl

-- function f() { try { } catch (e) { var e = null; e } }: the `var` itself is not written
the_var_is_not_written : is_foreign (resolved_program (script (function 1 (binding f) none (catches (binding e) (declares Var (binding e) (zero_literal) ▸ said (reference e) ▸ none) ▸ none) ▸ none))) 1 (known 1 e) ≡ false
unfolding resolved scopes_by body_names names_of with_names has_inner symbols has_eval scope_list mentions module_names names_arguments reached_by_arguments caught var_writes pattern_writes imported_names pattern_names lexical_variables switched moments has_number params_around bodies fixed_names
the_var_is_not_written = refl

-- without an initializer it writes nothing; the parameter is there before the block
a_parameter_of_catch_is_not_foreign : is_foreign (resolved_program (script (function 1 (binding f) none (catches (binding e) (declares Var (binding e) (absent) ▸ said (reference e) ▸ none) ▸ none) ▸ none))) 1 (known 2 e) ≡ false
unfolding resolved scopes_by body_names names_of with_names has_inner symbols has_eval scope_list mentions module_names names_arguments reached_by_arguments caught var_writes pattern_writes imported_names pattern_names lexical_variables switched moments has_number params_around bodies fixed_names
a_parameter_of_catch_is_not_foreign = refl

-- function f({ a }) { a }: a carried node mentions a
a_name_of_a_pattern_is_shared : is_shared (resolved_program (script (function 1 (binding f) (object_pattern 2 a (binding a) ▸ none) (said (reference a) ▸ none) ▸ none))) 1 (known 1 a) ≡ true
unfolding resolved scopes_by body_names names_of with_names has_inner symbols has_eval scope_list mentions module_names names_arguments reached_by_arguments caught var_writes pattern_writes imported_names pattern_names lexical_variables switched moments has_number params_around bodies fixed_names
a_name_of_a_pattern_is_shared = refl

-- .. and binds it
a_name_of_a_pattern_is_foreign : is_foreign (resolved_program (script (function 1 (binding f) (object_pattern 2 a (binding a) ▸ none) (said (reference a) ▸ none) ▸ none))) 1 (known 1 a) ≡ true
unfolding resolved scopes_by body_names names_of with_names has_inner symbols has_eval scope_list mentions module_names names_arguments reached_by_arguments caught var_writes pattern_writes imported_names pattern_names lexical_variables switched moments has_number params_around bodies fixed_names
a_name_of_a_pattern_is_foreign = refl

-- function f(a, b = a) { }: among the parameters one may be uninitialised
a_parameter_among_parameters : is_foreign (resolved_program (script (function 1 (binding f) (binding a ▸ with_default 2 3 (binding b) (reference a) ▸ none) none ▸ none))) 3 (known 1 a) ≡ true
unfolding resolved scopes_by body_names names_of with_names has_inner symbols has_eval scope_list mentions module_names names_arguments reached_by_arguments caught var_writes pattern_writes imported_names pattern_names lexical_variables switched moments has_number params_around bodies fixed_names
a_parameter_among_parameters = refl

-- .. which it is not for f
a_parameter_for_its_function : is_foreign (resolved_program (script (function 1 (binding f) (binding a ▸ with_default 2 3 (binding b) (reference a) ▸ none) none ▸ none))) 1 (known 1 a) ≡ false
unfolding resolved scopes_by body_names names_of with_names has_inner symbols has_eval scope_list mentions module_names names_arguments reached_by_arguments caught var_writes pattern_writes imported_names pattern_names lexical_variables switched moments has_number params_around bodies fixed_names
a_parameter_for_its_function = refl

-- .. a parameter with a default is bound like a pattern
a_parameter_with_a_default : is_foreign (resolved_program (script (function 1 (binding f) (binding a ▸ with_default 2 3 (binding b) (reference a) ▸ none) none ▸ none))) 1 (known 2 b) ≡ true
unfolding resolved scopes_by body_names names_of with_names has_inner symbols has_eval scope_list mentions module_names names_arguments reached_by_arguments caught var_writes pattern_writes imported_names pattern_names lexical_variables switched moments has_number params_around bodies fixed_names
a_parameter_with_a_default = refl

-- function f() { switch (x) { case x: let a; a } }: directly in a `switch`
a_let_in_a_switch : is_foreign (resolved_program (script (function 1 (binding f) none (switches (reference x) (case_of (reference x) (let_of a ▸ said (reference a) ▸ none) ▸ none) ▸ none) ▸ none))) 1 (known 1 a) ≡ true
unfolding resolved scopes_by body_names names_of with_names has_inner symbols has_eval scope_list mentions module_names names_arguments reached_by_arguments caught var_writes pattern_writes imported_names pattern_names lexical_variables switched moments has_number params_around bodies fixed_names
a_let_in_a_switch = refl

-- function f() { a; let a; }
read_before_its_declaration : is_foreign (resolved_program (script (function 1 (binding f) none (said (reference a) ▸ let_of a ▸ none) ▸ none))) 1 (known 1 a) ≡ true
unfolding resolved scopes_by body_names names_of with_names has_inner symbols has_eval scope_list mentions module_names names_arguments reached_by_arguments caught var_writes pattern_writes imported_names pattern_names lexical_variables switched moments has_number params_around bodies fixed_names
read_before_its_declaration = refl

-- function f() { let a = a; }
read_in_its_declaration : is_foreign (resolved_program (script (function 1 (binding f) none (declares Let (binding a) (reference a) ▸ none) ▸ none))) 1 (known 1 a) ≡ true
unfolding resolved scopes_by body_names names_of with_names has_inner symbols has_eval scope_list mentions module_names names_arguments reached_by_arguments caught var_writes pattern_writes imported_names pattern_names lexical_variables switched moments has_number params_around bodies fixed_names
read_in_its_declaration = refl

-- function f() { let a; a }
read_after_its_declaration : is_foreign (resolved_program (script (function 1 (binding f) none (let_of a ▸ said (reference a) ▸ none) ▸ none))) 1 (known 1 a) ≡ false
unfolding resolved scopes_by body_names names_of with_names has_inner symbols has_eval scope_list mentions module_names names_arguments reached_by_arguments caught var_writes pattern_writes imported_names pattern_names lexical_variables switched moments has_number params_around bodies fixed_names
read_after_its_declaration = refl

-- function f() { for (let a of a) ; }: in the right side
read_in_the_right_side : is_foreign (resolved_program (script (function 1 (binding f) none (for_of (let_of a) (reference a) (leaf shape.EmptyStatement) ▸ none) ▸ none))) 1 (known 1 a) ≡ true
unfolding resolved scopes_by body_names names_of with_names has_inner symbols has_eval scope_list mentions module_names names_arguments reached_by_arguments caught var_writes pattern_writes imported_names pattern_names lexical_variables switched moments has_number params_around bodies fixed_names
read_in_the_right_side = refl

-- function f() { for (let a of x) a; }
read_in_the_body : is_foreign (resolved_program (script (function 1 (binding f) none (for_of (let_of a) (reference x) (said (reference a)) ▸ none) ▸ none))) 1 (known 1 a) ≡ false
unfolding resolved scopes_by body_names names_of with_names has_inner symbols has_eval scope_list mentions module_names names_arguments reached_by_arguments caught var_writes pattern_writes imported_names pattern_names lexical_variables switched moments has_number params_around bodies fixed_names
read_in_the_body = refl

-- function f() { { a; function a() { } } } in strict code: before the end of a function
read_before_a_function : is_foreign (resolved_program (script (function 1 (binding f) none (block (said (reference a) ▸ function 2 (binding a) none none ▸ none) ▸ none) ▸ none))) 1 (known 1 a) ≡ true
unfolding resolved scopes_by body_names names_of with_names has_inner symbols has_eval scope_list mentions module_names names_arguments reached_by_arguments caught var_writes pattern_writes imported_names pattern_names lexical_variables switched moments has_number params_around bodies fixed_names
read_before_a_function = refl

-- function f() { a; function a() { } }: directly in a body functions are no lexical names
a_function_of_a_body : is_foreign (resolved_program (script (function 1 (binding f) none (said (reference a) ▸ function 2 (binding a) none none ▸ none) ▸ none))) 1 (known 1 a) ≡ false
unfolding resolved scopes_by body_names names_of with_names has_inner symbols has_eval scope_list mentions module_names names_arguments reached_by_arguments caught var_writes pattern_writes imported_names pattern_names lexical_variables switched moments has_number params_around bodies fixed_names
a_function_of_a_body = refl

-- class a { m() { a } }: the name held again is no method's
a_name_held_again : is_foreign (resolved_program (module_of (class_with true 1 (binding a) (binding a) absent (method_of (function_expression 2 absent none (said (reference a) ▸ none)) ▸ none) ▸ none))) 2 (known 1 a) ≡ true
unfolding resolved scopes_by body_names names_of with_names has_inner symbols has_eval scope_list mentions module_names names_arguments reached_by_arguments caught var_writes pattern_writes imported_names pattern_names lexical_variables switched moments has_number params_around bodies fixed_names
a_name_held_again = refl

-- const a = null
a_const : is_writable (resolved_program (script (declares Const (binding a) zero_literal ▸ none))) (known 0 a) ≡ false
unfolding resolved scopes_by body_names names_of with_names has_inner symbols has_eval scope_list mentions module_names names_arguments reached_by_arguments caught var_writes pattern_writes imported_names pattern_names lexical_variables switched moments has_number params_around bodies fixed_names
a_const = refl

-- let a
a_let : is_writable (resolved_program (script (let_of a ▸ none))) (known 0 a) ≡ true
unfolding resolved scopes_by body_names names_of with_names has_inner symbols has_eval scope_list mentions module_names names_arguments reached_by_arguments caught var_writes pattern_writes imported_names pattern_names lexical_variables switched moments has_number params_around bodies fixed_names
a_let = refl

an_import : is_writable (resolved_program (module_of (imports (binding a) ▸ function 1 (binding f) none (said (reference a) ▸ none) ▸ none))) (known 0 a) ≡ false
unfolding resolved scopes_by body_names names_of with_names has_inner symbols has_eval scope_list mentions module_names names_arguments reached_by_arguments caught var_writes pattern_writes imported_names pattern_names lexical_variables switched moments has_number params_around bodies fixed_names
an_import = refl

a_function_declaration : is_writable (resolved_program (script (function 1 (binding f) (binding p ▸ none) (said (assigns (reference p) (reference p)) ▸ none) ▸ none))) (known 0 f) ≡ true
unfolding resolved scopes_by body_names names_of with_names has_inner symbols has_eval scope_list mentions module_names names_arguments reached_by_arguments caught var_writes pattern_writes imported_names pattern_names lexical_variables switched moments has_number params_around bodies fixed_names
a_function_declaration = refl

-- (function f() { })
an_own_name : is_writable (resolved_program (script (said (function_expression 1 (binding f) none none) ▸ none))) (known 0 f) ≡ false
unfolding resolved scopes_by body_names names_of with_names has_inner symbols has_eval scope_list mentions module_names names_arguments reached_by_arguments caught var_writes pattern_writes imported_names pattern_names lexical_variables switched moments has_number params_around bodies fixed_names
an_own_name = refl

a_class_declaration : is_writable (resolved_program (module_of (class_with true 1 (binding a) (binding a) absent (method_of (function_expression 2 absent none (said (reference a) ▸ none)) ▸ none) ▸ none))) (known 0 a) ≡ true
unfolding resolved scopes_by body_names names_of with_names has_inner symbols has_eval scope_list mentions module_names names_arguments reached_by_arguments caught var_writes pattern_writes imported_names pattern_names lexical_variables switched moments has_number params_around bodies fixed_names
a_class_declaration = refl

a_class_inside : is_writable (resolved_program (module_of (class_with true 1 (binding a) (binding a) absent (method_of (function_expression 2 absent none (said (reference a) ▸ none)) ▸ none) ▸ none))) (known 1 a) ≡ false
unfolding resolved scopes_by body_names names_of with_names has_inner symbols has_eval scope_list mentions module_names names_arguments reached_by_arguments caught var_writes pattern_writes imported_names pattern_names lexical_variables switched moments has_number params_around bodies fixed_names
a_class_inside = refl

-- (class a { })
a_class_expression : is_writable (resolved_program (script (said (class_with false 1 (binding a) absent absent none) ▸ none))) (known 0 a) ≡ false
unfolding resolved scopes_by body_names names_of with_names has_inner symbols has_eval scope_list mentions module_names names_arguments reached_by_arguments caught var_writes pattern_writes imported_names pattern_names lexical_variables switched moments has_number params_around bodies fixed_names
a_class_expression = refl

-- class a extends b { constructor() { () => this; (function() { }); import(this) } m() { } m = ()
-- => this; static { } }
this_in_a_constructor : this_has_event (module_of (class_with true 1 (binding a) (binding a) (inner 2 (reference b)) (constructor_of (function_expression 3 absent none (said (arrow 4 none (leaf shape.ThisExpression)) ▸ said (function_expression 5 absent none none) ▸ said (plain shape.ImportExpression (inner 6 (leaf shape.ThisExpression) ▸ none)) ▸ none)) ▸ method_of (function_expression 7 absent none none) ▸ field_of (inner 8 (arrow 9 none (leaf shape.ThisExpression))) ▸ static_block 10 none ▸ none) ▸ none)) 3 ≡ true
unfolding resolved scopes_by body_names names_of with_names has_inner symbols has_eval scope_list mentions module_names names_arguments reached_by_arguments caught var_writes pattern_writes imported_names pattern_names lexical_variables switched moments has_number params_around bodies fixed_names
this_in_a_constructor = refl

this_in_an_arrow_in_it : this_has_event (module_of (class_with true 1 (binding a) (binding a) (inner 2 (reference b)) (constructor_of (function_expression 3 absent none (said (arrow 4 none (leaf shape.ThisExpression)) ▸ said (function_expression 5 absent none none) ▸ said (plain shape.ImportExpression (inner 6 (leaf shape.ThisExpression) ▸ none)) ▸ none)) ▸ method_of (function_expression 7 absent none none) ▸ field_of (inner 8 (arrow 9 none (leaf shape.ThisExpression))) ▸ static_block 10 none ▸ none) ▸ none)) 4 ≡ true
unfolding resolved scopes_by body_names names_of with_names has_inner symbols has_eval scope_list mentions module_names names_arguments reached_by_arguments caught var_writes pattern_writes imported_names pattern_names lexical_variables switched moments has_number params_around bodies fixed_names
this_in_an_arrow_in_it = refl

this_in_a_function_in_it : this_has_event (module_of (class_with true 1 (binding a) (binding a) (inner 2 (reference b)) (constructor_of (function_expression 3 absent none (said (arrow 4 none (leaf shape.ThisExpression)) ▸ said (function_expression 5 absent none none) ▸ said (plain shape.ImportExpression (inner 6 (leaf shape.ThisExpression) ▸ none)) ▸ none)) ▸ method_of (function_expression 7 absent none none) ▸ field_of (inner 8 (arrow 9 none (leaf shape.ThisExpression))) ▸ static_block 10 none ▸ none) ▸ none)) 5 ≡ false
unfolding resolved scopes_by body_names names_of with_names has_inner symbols has_eval scope_list mentions module_names names_arguments reached_by_arguments caught var_writes pattern_writes imported_names pattern_names lexical_variables switched moments has_number params_around bodies fixed_names
this_in_a_function_in_it = refl

this_in_an_inner_expression_in_it : this_has_event (module_of (class_with true 1 (binding a) (binding a) (inner 2 (reference b)) (constructor_of (function_expression 3 absent none (said (arrow 4 none (leaf shape.ThisExpression)) ▸ said (function_expression 5 absent none none) ▸ said (plain shape.ImportExpression (inner 6 (leaf shape.ThisExpression) ▸ none)) ▸ none)) ▸ method_of (function_expression 7 absent none none) ▸ field_of (inner 8 (arrow 9 none (leaf shape.ThisExpression))) ▸ static_block 10 none ▸ none) ▸ none)) 6 ≡ true
unfolding resolved scopes_by body_names names_of with_names has_inner symbols has_eval scope_list mentions module_names names_arguments reached_by_arguments caught var_writes pattern_writes imported_names pattern_names lexical_variables switched moments has_number params_around bodies fixed_names
this_in_an_inner_expression_in_it = refl

this_in_a_method : this_has_event (module_of (class_with true 1 (binding a) (binding a) (inner 2 (reference b)) (constructor_of (function_expression 3 absent none (said (arrow 4 none (leaf shape.ThisExpression)) ▸ said (function_expression 5 absent none none) ▸ said (plain shape.ImportExpression (inner 6 (leaf shape.ThisExpression) ▸ none)) ▸ none)) ▸ method_of (function_expression 7 absent none none) ▸ field_of (inner 8 (arrow 9 none (leaf shape.ThisExpression))) ▸ static_block 10 none ▸ none) ▸ none)) 7 ≡ false
unfolding resolved scopes_by body_names names_of with_names has_inner symbols has_eval scope_list mentions module_names names_arguments reached_by_arguments caught var_writes pattern_writes imported_names pattern_names lexical_variables switched moments has_number params_around bodies fixed_names
this_in_a_method = refl

this_in_an_arrow_in_a_field : this_has_event (module_of (class_with true 1 (binding a) (binding a) (inner 2 (reference b)) (constructor_of (function_expression 3 absent none (said (arrow 4 none (leaf shape.ThisExpression)) ▸ said (function_expression 5 absent none none) ▸ said (plain shape.ImportExpression (inner 6 (leaf shape.ThisExpression) ▸ none)) ▸ none)) ▸ method_of (function_expression 7 absent none none) ▸ field_of (inner 8 (arrow 9 none (leaf shape.ThisExpression))) ▸ static_block 10 none ▸ none) ▸ none)) 9 ≡ false
unfolding resolved scopes_by body_names names_of with_names has_inner symbols has_eval scope_list mentions module_names names_arguments reached_by_arguments caught var_writes pattern_writes imported_names pattern_names lexical_variables switched moments has_number params_around bodies fixed_names
this_in_an_arrow_in_a_field = refl

this_in_a_static_block : this_has_event (module_of (class_with true 1 (binding a) (binding a) (inner 2 (reference b)) (constructor_of (function_expression 3 absent none (said (arrow 4 none (leaf shape.ThisExpression)) ▸ said (function_expression 5 absent none none) ▸ said (plain shape.ImportExpression (inner 6 (leaf shape.ThisExpression) ▸ none)) ▸ none)) ▸ method_of (function_expression 7 absent none none) ▸ field_of (inner 8 (arrow 9 none (leaf shape.ThisExpression))) ▸ static_block 10 none ▸ none) ▸ none)) 10 ≡ false
unfolding resolved scopes_by body_names names_of with_names has_inner symbols has_eval scope_list mentions module_names names_arguments reached_by_arguments caught var_writes pattern_writes imported_names pattern_names lexical_variables switched moments has_number params_around bodies fixed_names
this_in_a_static_block = refl

-- class a { constructor() { } }
this_without_a_superclass : this_has_event (script (class_with true 1 (binding a) (binding a) absent (constructor_of (function_expression 2 absent none none) ▸ none) ▸ none)) 2 ≡ false
unfolding resolved scopes_by body_names names_of with_names has_inner symbols has_eval scope_list mentions module_names names_arguments reached_by_arguments caught var_writes pattern_writes imported_names pattern_names lexical_variables switched moments has_number params_around bodies fixed_names
this_without_a_superclass = refl

-- () => null; function f() { () => () => null; import(() => null) } (class { static { } })
arguments_in_the_program : has_arguments (script (said (arrow 1 none zero_literal) ▸ function 2 (binding f) none (said (arrow 3 none (arrow 4 none zero_literal)) ▸ said (plain shape.ImportExpression (inner 5 (arrow 6 none zero_literal) ▸ none)) ▸ none) ▸ said (class_with false 7 absent absent absent (static_block 8 none ▸ none)) ▸ none)) 0 ≡ false
unfolding resolved scopes_by body_names names_of with_names has_inner symbols has_eval scope_list mentions module_names names_arguments reached_by_arguments caught var_writes pattern_writes imported_names pattern_names lexical_variables switched moments has_number params_around bodies fixed_names
arguments_in_the_program = refl

arguments_in_an_arrow_of_the_program : has_arguments (script (said (arrow 1 none zero_literal) ▸ function 2 (binding f) none (said (arrow 3 none (arrow 4 none zero_literal)) ▸ said (plain shape.ImportExpression (inner 5 (arrow 6 none zero_literal) ▸ none)) ▸ none) ▸ said (class_with false 7 absent absent absent (static_block 8 none ▸ none)) ▸ none)) 1 ≡ false
unfolding resolved scopes_by body_names names_of with_names has_inner symbols has_eval scope_list mentions module_names names_arguments reached_by_arguments caught var_writes pattern_writes imported_names pattern_names lexical_variables switched moments has_number params_around bodies fixed_names
arguments_in_an_arrow_of_the_program = refl

arguments_in_a_function : has_arguments (script (said (arrow 1 none zero_literal) ▸ function 2 (binding f) none (said (arrow 3 none (arrow 4 none zero_literal)) ▸ said (plain shape.ImportExpression (inner 5 (arrow 6 none zero_literal) ▸ none)) ▸ none) ▸ said (class_with false 7 absent absent absent (static_block 8 none ▸ none)) ▸ none)) 2 ≡ true
unfolding resolved scopes_by body_names names_of with_names has_inner symbols has_eval scope_list mentions module_names names_arguments reached_by_arguments caught var_writes pattern_writes imported_names pattern_names lexical_variables switched moments has_number params_around bodies fixed_names
arguments_in_a_function = refl

arguments_in_an_arrow_of_a_function : has_arguments (script (said (arrow 1 none zero_literal) ▸ function 2 (binding f) none (said (arrow 3 none (arrow 4 none zero_literal)) ▸ said (plain shape.ImportExpression (inner 5 (arrow 6 none zero_literal) ▸ none)) ▸ none) ▸ said (class_with false 7 absent absent absent (static_block 8 none ▸ none)) ▸ none)) 3 ≡ true
unfolding resolved scopes_by body_names names_of with_names has_inner symbols has_eval scope_list mentions module_names names_arguments reached_by_arguments caught var_writes pattern_writes imported_names pattern_names lexical_variables switched moments has_number params_around bodies fixed_names
arguments_in_an_arrow_of_a_function = refl

arguments_in_an_arrow_of_an_arrow : has_arguments (script (said (arrow 1 none zero_literal) ▸ function 2 (binding f) none (said (arrow 3 none (arrow 4 none zero_literal)) ▸ said (plain shape.ImportExpression (inner 5 (arrow 6 none zero_literal) ▸ none)) ▸ none) ▸ said (class_with false 7 absent absent absent (static_block 8 none ▸ none)) ▸ none)) 4 ≡ true
unfolding resolved scopes_by body_names names_of with_names has_inner symbols has_eval scope_list mentions module_names names_arguments reached_by_arguments caught var_writes pattern_writes imported_names pattern_names lexical_variables switched moments has_number params_around bodies fixed_names
arguments_in_an_arrow_of_an_arrow = refl

arguments_in_an_inner_expression : has_arguments (script (said (arrow 1 none zero_literal) ▸ function 2 (binding f) none (said (arrow 3 none (arrow 4 none zero_literal)) ▸ said (plain shape.ImportExpression (inner 5 (arrow 6 none zero_literal) ▸ none)) ▸ none) ▸ said (class_with false 7 absent absent absent (static_block 8 none ▸ none)) ▸ none)) 5 ≡ false
unfolding resolved scopes_by body_names names_of with_names has_inner symbols has_eval scope_list mentions module_names names_arguments reached_by_arguments caught var_writes pattern_writes imported_names pattern_names lexical_variables switched moments has_number params_around bodies fixed_names
arguments_in_an_inner_expression = refl

arguments_in_an_arrow_of_an_inner_expression : has_arguments (script (said (arrow 1 none zero_literal) ▸ function 2 (binding f) none (said (arrow 3 none (arrow 4 none zero_literal)) ▸ said (plain shape.ImportExpression (inner 5 (arrow 6 none zero_literal) ▸ none)) ▸ none) ▸ said (class_with false 7 absent absent absent (static_block 8 none ▸ none)) ▸ none)) 6 ≡ false
unfolding resolved scopes_by body_names names_of with_names has_inner symbols has_eval scope_list mentions module_names names_arguments reached_by_arguments caught var_writes pattern_writes imported_names pattern_names lexical_variables switched moments has_number params_around bodies fixed_names
arguments_in_an_arrow_of_an_inner_expression = refl

arguments_in_a_static_block : has_arguments (script (said (arrow 1 none zero_literal) ▸ function 2 (binding f) none (said (arrow 3 none (arrow 4 none zero_literal)) ▸ said (plain shape.ImportExpression (inner 5 (arrow 6 none zero_literal) ▸ none)) ▸ none) ▸ said (class_with false 7 absent absent absent (static_block 8 none ▸ none)) ▸ none)) 8 ≡ false
unfolding resolved scopes_by body_names names_of with_names has_inner symbols has_eval scope_list mentions module_names names_arguments reached_by_arguments caught var_writes pattern_writes imported_names pattern_names lexical_variables switched moments has_number params_around bodies fixed_names
arguments_in_a_static_block = refl

-- function f(p) { let a; { let b; } { } }: the program, the parameters, the body, the block; a
-- block without names is none
four_scopes : map (λ s. length s.names) (scopes_of (script (function 1 (binding f) (binding p ▸ none) (let_of a ▸ block (let_of b ▸ none) ▸ block none ▸ none) ▸ none))) ≡ 1 ∷ 1 ∷ 1 ∷ 1 ∷ []
unfolding resolved scopes_by body_names names_of with_names has_inner symbols has_eval scope_list mentions module_names names_arguments reached_by_arguments caught var_writes pattern_writes imported_names pattern_names lexical_variables switched moments has_number params_around bodies fixed_names
four_scopes = refl

scope_of_symbol_0 : scope_of_symbol (resolved_program (script (function 1 (binding f) (binding p ▸ none) (let_of a ▸ block (let_of b ▸ none) ▸ block none ▸ none) ▸ none))) 0 ≡ 0
unfolding resolved scopes_by body_names names_of with_names has_inner symbols has_eval scope_list mentions module_names names_arguments reached_by_arguments caught var_writes pattern_writes imported_names pattern_names lexical_variables switched moments has_number params_around bodies fixed_names
scope_of_symbol_0 = refl

scope_of_symbol_1 : scope_of_symbol (resolved_program (script (function 1 (binding f) (binding p ▸ none) (let_of a ▸ block (let_of b ▸ none) ▸ block none ▸ none) ▸ none))) 1 ≡ 1
unfolding resolved scopes_by body_names names_of with_names has_inner symbols has_eval scope_list mentions module_names names_arguments reached_by_arguments caught var_writes pattern_writes imported_names pattern_names lexical_variables switched moments has_number params_around bodies fixed_names
scope_of_symbol_1 = refl

scope_of_symbol_2 : scope_of_symbol (resolved_program (script (function 1 (binding f) (binding p ▸ none) (let_of a ▸ block (let_of b ▸ none) ▸ block none ▸ none) ▸ none))) 2 ≡ 2
unfolding resolved scopes_by body_names names_of with_names has_inner symbols has_eval scope_list mentions module_names names_arguments reached_by_arguments caught var_writes pattern_writes imported_names pattern_names lexical_variables switched moments has_number params_around bodies fixed_names
scope_of_symbol_2 = refl

scope_of_symbol_3 : scope_of_symbol (resolved_program (script (function 1 (binding f) (binding p ▸ none) (let_of a ▸ block (let_of b ▸ none) ▸ block none ▸ none) ▸ none))) 3 ≡ 3
unfolding resolved scopes_by body_names names_of with_names has_inner symbols has_eval scope_list mentions module_names names_arguments reached_by_arguments caught var_writes pattern_writes imported_names pattern_names lexical_variables switched moments has_number params_around bodies fixed_names
scope_of_symbol_3 = refl

-- function f(p) { } where f has the number 5 and p the number 2, as what rewriting leaves may
scope_of_a_later_symbol : scope_of_symbol (script (function 1 (binding_of 5 f) (binding_of 2 p ▸ none) none ▸ none)) 2 ≡ 1
unfolding resolved scopes_by body_names names_of with_names has_inner symbols has_eval scope_list mentions module_names names_arguments reached_by_arguments caught var_writes pattern_writes imported_names pattern_names lexical_variables switched moments has_number params_around bodies fixed_names
scope_of_a_later_symbol = refl

scope_of_an_earlier_symbol : scope_of_symbol (script (function 1 (binding_of 5 f) (binding_of 2 p ▸ none) none ▸ none)) 5 ≡ 0
unfolding resolved scopes_by body_names names_of with_names has_inner symbols has_eval scope_list mentions module_names names_arguments reached_by_arguments caught var_writes pattern_writes imported_names pattern_names lexical_variables switched moments has_number params_around bodies fixed_names
scope_of_an_earlier_symbol = refl

-- class a { static { } }: the program, the class, and two of the block
scopes_of_a_static_block : map (λ s. length s.names) (scopes_of (script (class_with true 1 (binding a) (binding a) absent (static_block 2 none ▸ none) ▸ none))) ≡ 1 ∷ 1 ∷ 0 ∷ 0 ∷ []
unfolding resolved scopes_by body_names names_of with_names has_inner symbols has_eval scope_list mentions module_names names_arguments reached_by_arguments caught var_writes pattern_writes imported_names pattern_names lexical_variables switched moments has_number params_around bodies fixed_names
scopes_of_a_static_block = refl

-- function f() { "use strict" } function g() { }
strict_scopes : map (λ s. s.strict) (scopes_of (script (strict_function 1 (binding f) none none ▸ function 2 (binding g) none none ▸ none))) ≡ false ∷ true ∷ true ∷ false ∷ false ∷ []
unfolding resolved scopes_by body_names names_of with_names has_inner symbols has_eval scope_list mentions module_names names_arguments reached_by_arguments caught var_writes pattern_writes imported_names pattern_names lexical_variables switched moments has_number params_around bodies fixed_names
strict_scopes = refl

-- a module, and a class in a script
strict_module : map (λ s. s.strict) (scopes_of (module_of none)) ≡ true ∷ []
unfolding resolved scopes_by body_names names_of with_names has_inner symbols has_eval scope_list mentions module_names names_arguments reached_by_arguments caught var_writes pattern_writes imported_names pattern_names lexical_variables switched moments has_number params_around bodies fixed_names
strict_module = refl

strict_class : map (λ s. s.strict) (scopes_of (script (class_with true 1 (binding a) (binding a) absent none ▸ none))) ≡ false ∷ true ∷ []
unfolding resolved scopes_by body_names names_of with_names has_inner symbols has_eval scope_list mentions module_names names_arguments reached_by_arguments caught var_writes pattern_writes imported_names pattern_names lexical_variables switched moments has_number params_around bodies fixed_names
strict_class = refl

-- function f(p) { eval() } function g() { }
scopes_with_eval : map (λ s. s.evals) (scopes_of (script (function 1 (binding f) none (said (calls (reference eval) none) ▸ none) ▸ function 2 (binding g) none none ▸ none))) ≡ true ∷ true ∷ true ∷ false ∷ false ∷ []
unfolding resolved scopes_by body_names names_of with_names has_inner symbols has_eval scope_list mentions module_names names_arguments reached_by_arguments caught var_writes pattern_writes imported_names pattern_names lexical_variables switched moments has_number params_around bodies fixed_names
scopes_with_eval = refl

-- function f(a = eval()) { }: the body is no scope around a default
eval_in_a_default : map (λ s. s.evals) (scopes_of (script (function 1 (binding f) (with_default 2 3 (binding a) (calls (reference eval) none) ▸ none) none ▸ none))) ≡ true ∷ true ∷ false ∷ []
unfolding resolved scopes_by body_names names_of with_names has_inner symbols has_eval scope_list mentions module_names names_arguments reached_by_arguments caught var_writes pattern_writes imported_names pattern_names lexical_variables switched moments has_number params_around bodies fixed_names
eval_in_a_default = refl

-- eval?.(), (0, eval)(): no direct eval
optional_eval : map (λ s. s.evals) (scopes_of (script (said (plain (shape.CallExpression true) (reference eval ▸ listed none ▸ none)) ▸ none))) ≡ false ∷ []
unfolding resolved scopes_by body_names names_of with_names has_inner symbols has_eval scope_list mentions module_names names_arguments reached_by_arguments caught var_writes pattern_writes imported_names pattern_names lexical_variables switched moments has_number params_around bodies fixed_names
optional_eval = refl
