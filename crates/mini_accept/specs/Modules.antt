-- The plans of imports and exports (ESTree; ECMA-262, "Imports" and "Exports").
use Rattle.std.specs.Prelude.{[], ◌∷◌, Bool, true, ◌&&◌, ◌||◌, not, Option, is_some, codes}
use Rattle.serde_json.specs.Data.{Data, Items}
use Rattle.mini_model.specs.declared.shape.Shape.TheVariants as shape
use Rattle.mini_accept.specs.WellShaped as shaped
use Rattle.mini_accept.specs.Places.{field, Place, at, an_exported, a_local_name}
use Rattle.mini_accept.specs.Fields.{◌>>=◌, require, is_given, list_at, no_item}
use Rattle.mini_accept.specs.Plans.{tree_at, one, Plan, node_of, child, optional, ItemPart, each, list, list_child}

-- no attributes: others aren't read
abbrev pub has_attributes : Data → Bool
has_attributes d = not (is_given (codes "attributes") d) || is_some (list_at (codes "attributes") d)

abbrev pub import : Data → Option Plan
import d = do
  specifiers ← list_child (each shaped.an_import) (codes "specifiers") d
  require (has_attributes d) (node_of shape.ImportDeclaration (specifiers ∷ child (codes "source") shaped.a_string ∷ []))

abbrev pub import_specifier : Data → Option Plan
import_specifier d = node_of shape.ImportSpecifier (child (codes "imported") shaped.a_module_name ∷ child (codes "local") shaped.a_binding ∷ [])

abbrev pub import_default : Data → Option Plan
import_default d = node_of shape.ImportDefaultSpecifier (child (codes "local") shaped.a_binding ∷ [])

abbrev pub import_namespace : Data → Option Plan
import_namespace d = node_of shape.ImportNamespaceSpecifier (child (codes "local") shaped.a_binding ∷ [])

abbrev pub export_part : Bool → ItemPart
export_part own last d s = tree_at s (an_exported own)

-- a declaration that is exported has no specifiers and no source
abbrev pub is_whole_export : Data → Items → Bool
is_whole_export d specifiers = not (is_given (codes "declaration") d) || (no_item specifiers && not (is_given (codes "source") d))

abbrev pub export_named : Data → Option Plan
export_named d = do
  specifiers ← list_at (codes "specifiers") d
  require (has_attributes d && is_whole_export d specifiers)
      (node_of shape.ExportNamedDeclaration (optional (codes "declaration") shaped.an_exported_declaration d ∷ list (export_part (not (is_given (codes "source") d))) (codes "specifiers") specifiers ∷ optional (codes "source") shaped.a_string d ∷ []))

-- a name of this module is a variable; one of another module isn't
abbrev pub local_place : Place → Place
local_place (an_exported true) = a_local_name
local_place p = at shaped.a_module_name

abbrev pub export_specifier : Place → Data → Option Plan
export_specifier p d = node_of shape.ExportSpecifier (child (codes "exported") shaped.a_module_name ∷ one (tree_at (field (codes "local")) (local_place p)) ∷ [])

abbrev pub export_default : Data → Option Plan
export_default d = node_of shape.ExportDefaultDeclaration (child (codes "declaration") shaped.a_default_export ∷ [])

abbrev pub export_all : Data → Option Plan
export_all d = require (has_attributes d) (node_of shape.ExportAllDeclaration (optional (codes "exported") shaped.a_module_name d ∷ child (codes "source") shaped.a_string ∷ []))
