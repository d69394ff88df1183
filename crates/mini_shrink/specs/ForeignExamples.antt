-- On each example of what is foreign, what shrinks says the same, and the program is regular but
-- for names that are imported.
use Rattle.std.specs.Prelude.{ℕ, ◌≡◌, refl, Bool, true, false}
use Rattle.mini_model.specs.declared.kind.VariableDeclarationKind.TheVariants.{Var, Let}
use Rattle.mini_model.specs.declared.shape.Shape.TheVariants as shape
use Rattle.mini_model.specs.Tree.{Tree, none, ◌▸◌, absent, leaf}
use Rattle.mini_laws.specs.DeclaredNames.{names_of, body_names, with_names, has_inner}
use Rattle.mini_laws.specs.Scopes.{scopes_by}
use Rattle.mini_laws.specs.Resolved.{resolved, symbols, resolved_program}
use Rattle.mini_laws.specs.ScopeList.{has_eval, scope_list}
use Rattle.mini_laws.specs.Mentions.{mentions}
use Rattle.mini_laws.specs.Shared.{module_names, names_arguments, reached_by_arguments, caught, var_writes, pattern_writes}
use Rattle.mini_laws.specs.Foreign.{imported_names, pattern_names, lexical_variables, switched, has_number, params_around}
use Rattle.mini_laws.specs.NameBodies.{bodies, fixed_names}
use Rattle.mini_laws.specs.Programs.{script, module_of, reference, binding, said, block, declares, var_of, let_of, function, function_expression, arrow, with_default, class_with, method_of, assigns, calls, zero_literal, catches, case_of, switches, for_of, object_pattern, array_pattern, exports, imports, a, b, e, f, g, p, x, eval, arguments}
use Rattle.mini_shrink.specs.Told.{is_foreign_name}
use Rattle.mini_shrink.specs.Regular.{declares_alone, is_regular}
use Rattle.mini_shrink.specs.Pace.{pace}

-- a symbol is foreign to a body by what shrinks, or isn't, and the program is regular
abbrev Says : Tree → ℕ → ℕ → Bool → Type 0
Says t b s v = (is_foreign_name t b s ≡ v) × (is_regular s t ≡ true)

a_top_name_is_foreign : Says (resolved_program (script (function 1 (binding f) (binding p ▸ none) (said (assigns (reference p) (reference p)) ▸ none) ▸ none))) 1 0 true
unfolding resolved scopes_by body_names names_of with_names has_inner symbols has_eval scope_list mentions module_names names_arguments reached_by_arguments caught var_writes pattern_writes imported_names pattern_names lexical_variables switched pace is_regular declares_alone has_number params_around bodies fixed_names
a_top_name_is_foreign = (refl, refl)

a_parameter_is_not_foreign : Says (resolved_program (script (function 1 (binding f) (binding p ▸ none) (said (assigns (reference p) (reference p)) ▸ none) ▸ none))) 1 1 false
unfolding resolved scopes_by body_names names_of with_names has_inner symbols has_eval scope_list mentions module_names names_arguments reached_by_arguments caught var_writes pattern_writes imported_names pattern_names lexical_variables switched pace is_regular declares_alone has_number params_around bodies fixed_names
a_parameter_is_not_foreign = (refl, refl)

an_exported_name_is_not_foreign : Says (resolved_program (module_of (let_of a ▸ exports (reference a) ▸ none))) 0 0 false
unfolding resolved scopes_by body_names names_of with_names has_inner symbols has_eval scope_list mentions module_names names_arguments reached_by_arguments caught var_writes pattern_writes imported_names pattern_names lexical_variables switched pace is_regular declares_alone has_number params_around bodies fixed_names
an_exported_name_is_not_foreign = (refl, refl)

an_early_export : Says (resolved_program (module_of (exports (reference a) ▸ let_of a ▸ none))) 0 0 true
unfolding resolved scopes_by body_names names_of with_names has_inner symbols has_eval scope_list mentions module_names names_arguments reached_by_arguments caught var_writes pattern_writes imported_names pattern_names lexical_variables switched pace is_regular declares_alone has_number params_around bodies fixed_names
an_early_export = (refl, refl)

an_import_is_foreign : is_foreign_name (resolved_program (module_of (imports (binding a) ▸ function 1 (binding f) none (said (reference a) ▸ none) ▸ none))) 1 0 ≡ true
unfolding resolved scopes_by body_names names_of with_names has_inner symbols has_eval scope_list mentions module_names names_arguments reached_by_arguments caught var_writes pattern_writes imported_names pattern_names lexical_variables switched pace is_regular declares_alone has_number params_around bodies fixed_names
an_import_is_foreign = refl

another_body_writes : Says (resolved_program (module_of (let_of a ▸ function 1 (binding f) none (said (assigns (reference a) zero_literal) ▸ none) ▸ none))) 0 0 true
unfolding resolved scopes_by body_names names_of with_names has_inner symbols has_eval scope_list mentions module_names names_arguments reached_by_arguments caught var_writes pattern_writes imported_names pattern_names lexical_variables switched pace is_regular declares_alone has_number params_around bodies fixed_names
another_body_writes = (refl, refl)

declared_outside_and_written : Says (resolved_program (module_of (let_of a ▸ function 1 (binding f) none (said (assigns (reference a) zero_literal) ▸ none) ▸ none))) 1 0 true
unfolding resolved scopes_by body_names names_of with_names has_inner symbols has_eval scope_list mentions module_names names_arguments reached_by_arguments caught var_writes pattern_writes imported_names pattern_names lexical_variables switched pace is_regular declares_alone has_number params_around bodies fixed_names
declared_outside_and_written = (refl, refl)

nobody_writes : Says (resolved_program (module_of (let_of a ▸ function 1 (binding f) none (said (reference a) ▸ none) ▸ none))) 0 0 false
unfolding resolved scopes_by body_names names_of with_names has_inner symbols has_eval scope_list mentions module_names names_arguments reached_by_arguments caught var_writes pattern_writes imported_names pattern_names lexical_variables switched pace is_regular declares_alone has_number params_around bodies fixed_names
nobody_writes = (refl, refl)

a_let_around_a_function : Says (resolved_program (module_of (let_of a ▸ function 1 (binding f) none (said (reference a) ▸ none) ▸ none))) 1 0 true
unfolding resolved scopes_by body_names names_of with_names has_inner symbols has_eval scope_list mentions module_names names_arguments reached_by_arguments caught var_writes pattern_writes imported_names pattern_names lexical_variables switched pace is_regular declares_alone has_number params_around bodies fixed_names
a_let_around_a_function = (refl, refl)

a_var_with_an_initializer : Says (resolved_program (script (function 1 (binding g) none (declares Var (binding a) (zero_literal) ▸ function 2 (binding f) none (said (reference a) ▸ none) ▸ none) ▸ none))) 2 1 true
unfolding resolved scopes_by body_names names_of with_names has_inner symbols has_eval scope_list mentions module_names names_arguments reached_by_arguments caught var_writes pattern_writes imported_names pattern_names lexical_variables switched pace is_regular declares_alone has_number params_around bodies fixed_names
a_var_with_an_initializer = (refl, refl)

its_own_write : Says (resolved_program (script (function 1 (binding g) none (declares Var (binding a) (zero_literal) ▸ function 2 (binding f) none (said (reference a) ▸ none) ▸ none) ▸ none))) 1 1 false
unfolding resolved scopes_by body_names names_of with_names has_inner symbols has_eval scope_list mentions module_names names_arguments reached_by_arguments caught var_writes pattern_writes imported_names pattern_names lexical_variables switched pace is_regular declares_alone has_number params_around bodies fixed_names
its_own_write = (refl, refl)

a_var_without_an_initializer : Says (resolved_program (script (function 1 (binding g) none (declares Var (binding a) (absent) ▸ function 2 (binding f) none (said (reference a) ▸ none) ▸ none) ▸ none))) 2 1 false
unfolding resolved scopes_by body_names names_of with_names has_inner symbols has_eval scope_list mentions module_names names_arguments reached_by_arguments caught var_writes pattern_writes imported_names pattern_names lexical_variables switched pace is_regular declares_alone has_number params_around bodies fixed_names
a_var_without_an_initializer = (refl, refl)

a_var_in_a_head : Says (resolved_program (script (function 1 (binding g) none (for_of (var_of a) (reference b) (leaf shape.EmptyStatement) ▸ function 2 (binding f) none (said (reference a) ▸ none) ▸ none) ▸ none))) 2 1 true
unfolding resolved scopes_by body_names names_of with_names has_inner symbols has_eval scope_list mentions module_names names_arguments reached_by_arguments caught var_writes pattern_writes imported_names pattern_names lexical_variables switched pace is_regular declares_alone has_number params_around bodies fixed_names
a_var_in_a_head = (refl, refl)

changed_by_a_direct_eval : Says (resolved_program (script (function 1 (binding f) (binding p ▸ none) (said (calls (reference eval) none) ▸ none) ▸ none))) 1 1 true
unfolding resolved scopes_by body_names names_of with_names has_inner symbols has_eval scope_list mentions module_names names_arguments reached_by_arguments caught var_writes pattern_writes imported_names pattern_names lexical_variables switched pace is_regular declares_alone has_number params_around bodies fixed_names
changed_by_a_direct_eval = (refl, refl)

arguments_change : Says (resolved_program (script (function 1 (binding f) (binding p ▸ none) (said (reference arguments) ▸ none) ▸ none))) 1 1 true
unfolding resolved scopes_by body_names names_of with_names has_inner symbols has_eval scope_list mentions module_names names_arguments reached_by_arguments caught var_writes pattern_writes imported_names pattern_names lexical_variables switched pace is_regular declares_alone has_number params_around bodies fixed_names
arguments_change = (refl, refl)

a_written_parameter_is_not_foreign : Says (resolved_program (script (function 1 (binding f) none (catches (binding e) (declares Var (binding e) (zero_literal) ▸ said (reference e) ▸ none) ▸ none) ▸ none))) 1 2 false
unfolding resolved scopes_by body_names names_of with_names has_inner symbols has_eval scope_list mentions module_names names_arguments reached_by_arguments caught var_writes pattern_writes imported_names pattern_names lexical_variables switched pace is_regular declares_alone has_number params_around bodies fixed_names
a_written_parameter_is_not_foreign = (refl, refl)

a_written_parameter_is_foreign_to_an_arrow : Says (resolved_program (script (function 1 (binding f) none (catches (binding e) (declares Var (binding e) (zero_literal) ▸ said (arrow 2 none (reference e)) ▸ none) ▸ none) ▸ none))) 2 2 true
unfolding resolved scopes_by body_names names_of with_names has_inner symbols has_eval scope_list mentions module_names names_arguments reached_by_arguments caught var_writes pattern_writes imported_names pattern_names lexical_variables switched pace is_regular declares_alone has_number params_around bodies fixed_names
a_written_parameter_is_foreign_to_an_arrow = (refl, refl)

an_arrow_reads_the_var : Says (resolved_program (script (function 1 (binding f) none (catches (binding e) (declares Var (binding e) (zero_literal) ▸ none) ▸ said (arrow 2 none (reference e)) ▸ none) ▸ none))) 2 1 false
unfolding resolved scopes_by body_names names_of with_names has_inner symbols has_eval scope_list mentions module_names names_arguments reached_by_arguments caught var_writes pattern_writes imported_names pattern_names lexical_variables switched pace is_regular declares_alone has_number params_around bodies fixed_names
an_arrow_reads_the_var = (refl, refl)

a_pattern_writes_the_parameter : Says (resolved_program (script (function 1 (binding f) none (catches (binding e) (declares Var (array_pattern 2 (binding e ▸ none)) (zero_literal) ▸ none) ▸ none) ▸ none))) 1 2 true
unfolding resolved scopes_by body_names names_of with_names has_inner symbols has_eval scope_list mentions module_names names_arguments reached_by_arguments caught var_writes pattern_writes imported_names pattern_names lexical_variables switched pace is_regular declares_alone has_number params_around bodies fixed_names
a_pattern_writes_the_parameter = (refl, refl)

a_pattern_in_a_head_writes_the_parameter : Says (resolved_program (script (function 1 (binding f) none (catches (binding e) (for_of (declares Var (array_pattern 2 (binding e ▸ none)) absent) (reference b) (leaf shape.EmptyStatement) ▸ none) ▸ none) ▸ none))) 1 2 true
unfolding resolved scopes_by body_names names_of with_names has_inner symbols has_eval scope_list mentions module_names names_arguments reached_by_arguments caught var_writes pattern_writes imported_names pattern_names lexical_variables switched pace is_regular declares_alone has_number params_around bodies fixed_names
a_pattern_in_a_head_writes_the_parameter = (refl, refl)

a_pattern_of_another_name : Says (resolved_program (script (function 1 (binding f) none (catches (binding e) (declares Var (array_pattern 2 (binding a ▸ none)) (zero_literal) ▸ none) ▸ none) ▸ none))) 1 2 false
unfolding resolved scopes_by body_names names_of with_names has_inner symbols has_eval scope_list mentions module_names names_arguments reached_by_arguments caught var_writes pattern_writes imported_names pattern_names lexical_variables switched pace is_regular declares_alone has_number params_around bodies fixed_names
a_pattern_of_another_name = (refl, refl)

a_lexical_pattern : Says (resolved_program (script (function 1 (binding f) none (catches (binding e) (block (declares Let (array_pattern 2 (binding e ▸ none)) (zero_literal) ▸ none) ▸ none) ▸ none) ▸ none))) 1 1 false
unfolding resolved scopes_by body_names names_of with_names has_inner symbols has_eval scope_list mentions module_names names_arguments reached_by_arguments caught var_writes pattern_writes imported_names pattern_names lexical_variables switched pace is_regular declares_alone has_number params_around bodies fixed_names
a_lexical_pattern = (refl, refl)

a_pattern_under_two : Says (resolved_program (script (function 1 (binding f) none (catches (binding e) (catches (binding e) (declares Var (array_pattern 2 (binding e ▸ none)) (zero_literal) ▸ none) ▸ none) ▸ none) ▸ none))) 1 3 true
unfolding resolved scopes_by body_names names_of with_names has_inner symbols has_eval scope_list mentions module_names names_arguments reached_by_arguments caught var_writes pattern_writes imported_names pattern_names lexical_variables switched pace is_regular declares_alone has_number params_around bodies fixed_names
a_pattern_under_two = (refl, refl)

a_pattern_under_another : Says (resolved_program (script (function 1 (binding f) none (catches (binding e) (catches (binding e) (declares Var (array_pattern 2 (binding e ▸ none)) (zero_literal) ▸ none) ▸ none) ▸ none) ▸ none))) 1 2 false
unfolding resolved scopes_by body_names names_of with_names has_inner symbols has_eval scope_list mentions module_names names_arguments reached_by_arguments caught var_writes pattern_writes imported_names pattern_names lexical_variables switched pace is_regular declares_alone has_number params_around bodies fixed_names
a_pattern_under_another = (refl, refl)

the_var_is_not_written : Says (resolved_program (script (function 1 (binding f) none (catches (binding e) (declares Var (binding e) (zero_literal) ▸ said (reference e) ▸ none) ▸ none) ▸ none))) 1 1 false
unfolding resolved scopes_by body_names names_of with_names has_inner symbols has_eval scope_list mentions module_names names_arguments reached_by_arguments caught var_writes pattern_writes imported_names pattern_names lexical_variables switched pace is_regular declares_alone has_number params_around bodies fixed_names
the_var_is_not_written = (refl, refl)

a_parameter_of_catch_is_not_foreign : Says (resolved_program (script (function 1 (binding f) none (catches (binding e) (declares Var (binding e) (absent) ▸ said (reference e) ▸ none) ▸ none) ▸ none))) 1 2 false
unfolding resolved scopes_by body_names names_of with_names has_inner symbols has_eval scope_list mentions module_names names_arguments reached_by_arguments caught var_writes pattern_writes imported_names pattern_names lexical_variables switched pace is_regular declares_alone has_number params_around bodies fixed_names
a_parameter_of_catch_is_not_foreign = (refl, refl)

a_name_of_a_pattern_is_foreign : Says (resolved_program (script (function 1 (binding f) (object_pattern 2 a (binding a) ▸ none) (said (reference a) ▸ none) ▸ none))) 1 1 true
unfolding resolved scopes_by body_names names_of with_names has_inner symbols has_eval scope_list mentions module_names names_arguments reached_by_arguments caught var_writes pattern_writes imported_names pattern_names lexical_variables switched pace is_regular declares_alone has_number params_around bodies fixed_names
a_name_of_a_pattern_is_foreign = (refl, refl)

a_parameter_among_parameters : Says (resolved_program (script (function 1 (binding f) (binding a ▸ with_default 2 3 (binding b) (reference a) ▸ none) none ▸ none))) 3 1 true
unfolding resolved scopes_by body_names names_of with_names has_inner symbols has_eval scope_list mentions module_names names_arguments reached_by_arguments caught var_writes pattern_writes imported_names pattern_names lexical_variables switched pace is_regular declares_alone has_number params_around bodies fixed_names
a_parameter_among_parameters = (refl, refl)

a_parameter_for_its_function : Says (resolved_program (script (function 1 (binding f) (binding a ▸ with_default 2 3 (binding b) (reference a) ▸ none) none ▸ none))) 1 1 false
unfolding resolved scopes_by body_names names_of with_names has_inner symbols has_eval scope_list mentions module_names names_arguments reached_by_arguments caught var_writes pattern_writes imported_names pattern_names lexical_variables switched pace is_regular declares_alone has_number params_around bodies fixed_names
a_parameter_for_its_function = (refl, refl)

a_parameter_with_a_default : Says (resolved_program (script (function 1 (binding f) (binding a ▸ with_default 2 3 (binding b) (reference a) ▸ none) none ▸ none))) 1 2 true
unfolding resolved scopes_by body_names names_of with_names has_inner symbols has_eval scope_list mentions module_names names_arguments reached_by_arguments caught var_writes pattern_writes imported_names pattern_names lexical_variables switched pace is_regular declares_alone has_number params_around bodies fixed_names
a_parameter_with_a_default = (refl, refl)

a_let_in_a_switch : Says (resolved_program (script (function 1 (binding f) none (switches (reference x) (case_of (reference x) (let_of a ▸ said (reference a) ▸ none) ▸ none) ▸ none) ▸ none))) 1 1 true
unfolding resolved scopes_by body_names names_of with_names has_inner symbols has_eval scope_list mentions module_names names_arguments reached_by_arguments caught var_writes pattern_writes imported_names pattern_names lexical_variables switched pace is_regular declares_alone has_number params_around bodies fixed_names
a_let_in_a_switch = (refl, refl)

read_before_its_declaration : Says (resolved_program (script (function 1 (binding f) none (said (reference a) ▸ let_of a ▸ none) ▸ none))) 1 1 true
unfolding resolved scopes_by body_names names_of with_names has_inner symbols has_eval scope_list mentions module_names names_arguments reached_by_arguments caught var_writes pattern_writes imported_names pattern_names lexical_variables switched pace is_regular declares_alone has_number params_around bodies fixed_names
read_before_its_declaration = (refl, refl)

read_in_its_declaration : Says (resolved_program (script (function 1 (binding f) none (declares Let (binding a) (reference a) ▸ none) ▸ none))) 1 1 true
unfolding resolved scopes_by body_names names_of with_names has_inner symbols has_eval scope_list mentions module_names names_arguments reached_by_arguments caught var_writes pattern_writes imported_names pattern_names lexical_variables switched pace is_regular declares_alone has_number params_around bodies fixed_names
read_in_its_declaration = (refl, refl)

read_after_its_declaration : Says (resolved_program (script (function 1 (binding f) none (let_of a ▸ said (reference a) ▸ none) ▸ none))) 1 1 false
unfolding resolved scopes_by body_names names_of with_names has_inner symbols has_eval scope_list mentions module_names names_arguments reached_by_arguments caught var_writes pattern_writes imported_names pattern_names lexical_variables switched pace is_regular declares_alone has_number params_around bodies fixed_names
read_after_its_declaration = (refl, refl)

read_in_the_right_side : Says (resolved_program (script (function 1 (binding f) none (for_of (let_of a) (reference a) (leaf shape.EmptyStatement) ▸ none) ▸ none))) 1 1 true
unfolding resolved scopes_by body_names names_of with_names has_inner symbols has_eval scope_list mentions module_names names_arguments reached_by_arguments caught var_writes pattern_writes imported_names pattern_names lexical_variables switched pace is_regular declares_alone has_number params_around bodies fixed_names
read_in_the_right_side = (refl, refl)

read_in_the_body : Says (resolved_program (script (function 1 (binding f) none (for_of (let_of a) (reference x) (said (reference a)) ▸ none) ▸ none))) 1 1 false
unfolding resolved scopes_by body_names names_of with_names has_inner symbols has_eval scope_list mentions module_names names_arguments reached_by_arguments caught var_writes pattern_writes imported_names pattern_names lexical_variables switched pace is_regular declares_alone has_number params_around bodies fixed_names
read_in_the_body = (refl, refl)

read_before_a_function : Says (resolved_program (script (function 1 (binding f) none (block (said (reference a) ▸ function 2 (binding a) none none ▸ none) ▸ none) ▸ none))) 1 1 true
unfolding resolved scopes_by body_names names_of with_names has_inner symbols has_eval scope_list mentions module_names names_arguments reached_by_arguments caught var_writes pattern_writes imported_names pattern_names lexical_variables switched pace is_regular declares_alone has_number params_around bodies fixed_names
read_before_a_function = (refl, refl)

a_function_of_a_body : Says (resolved_program (script (function 1 (binding f) none (said (reference a) ▸ function 2 (binding a) none none ▸ none) ▸ none))) 1 1 false
unfolding resolved scopes_by body_names names_of with_names has_inner symbols has_eval scope_list mentions module_names names_arguments reached_by_arguments caught var_writes pattern_writes imported_names pattern_names lexical_variables switched pace is_regular declares_alone has_number params_around bodies fixed_names
a_function_of_a_body = (refl, refl)

a_name_held_again : Says (resolved_program (module_of (class_with true 1 (binding a) (binding a) absent (method_of (function_expression 2 absent none (said (reference a) ▸ none)) ▸ none) ▸ none))) 2 1 true
unfolding resolved scopes_by body_names names_of with_names has_inner symbols has_eval scope_list mentions module_names names_arguments reached_by_arguments caught var_writes pattern_writes imported_names pattern_names lexical_variables switched pace is_regular declares_alone has_number params_around bodies fixed_names
a_name_held_again = (refl, refl)
