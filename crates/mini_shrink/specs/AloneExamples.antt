-- A lexical declaration that stands alone, as a branch of an `if`: no JavaScript, but well shaped.
use Rattle.std.specs.Prelude.{◌≡◌, refl, false, []}
use Rattle.mini_model.specs.declared.kind.VariableDeclarationKind.TheVariants.{Let}
use Rattle.mini_model.specs.declared.shape.Shape.TheVariants as shape
use Rattle.mini_model.specs.Tree.{Tree, none, ◌▸◌, absent, listed}
use Rattle.mini_laws.specs.DeclaredNames.{names_of, body_names, with_names, has_inner}
use Rattle.mini_laws.specs.Scopes.{scopes_by}
use Rattle.mini_laws.specs.Resolved.{resolved, symbols, resolved_program}
use Rattle.mini_laws.specs.ScopeList.{has_eval, scope_list, by_symbol}
use Rattle.mini_laws.specs.Early.{early_names, scope_declarations, body_declarations, declarations}
use Rattle.mini_laws.specs.Mentions.{mentions}
use Rattle.mini_laws.specs.Shared.{module_names, names_arguments, reached_by_arguments, caught, var_writes, pattern_writes}
use Rattle.mini_laws.specs.Foreign.{imported_names, pattern_names, lexical_variables, switched, moments, has_number, params_around, is_foreign}
use Rattle.mini_laws.specs.NameBodies.{bodies, fixed_names}
use Rattle.mini_laws.specs.Programs.{script, reference, binding, plain, zero_literal, x, a}
use Rattle.mini_shrink.specs.Told.{is_foreign_name}
use Rattle.mini_shrink.specs.Pace.{pace}

-- `if (null) let x = null, a = x;`
abbrev alone : Tree
alone =
    resolved_program (script (plain shape.IfStatement (zero_literal
    ▸ plain (shape.VariableDeclaration Let) (listed (plain shape.VariableDeclarator (binding x ▸ zero_literal ▸ none) ▸ plain shape.VariableDeclarator (binding a ▸ reference x ▸ none) ▸ none) ▸ none)
    ▸ absent ▸ none) ▸ none))

is_once : early_names [] alone ≡ []
unfolding resolved scopes_by body_names names_of with_names has_inner symbols early_names scope_declarations body_declarations declarations
is_once = refl

foreign_by_none : (is_foreign_name alone 0 0 ≡ false) × (is_foreign alone 0 (by_symbol 0) ≡ false)
unfolding resolved scopes_by body_names names_of with_names has_inner symbols has_eval scope_list mentions module_names names_arguments reached_by_arguments caught var_writes pattern_writes imported_names pattern_names lexical_variables switched pace moments has_number params_around bodies fixed_names
foreign_by_none = (refl, refl)
