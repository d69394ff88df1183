-- The parts of a node in the order of its text, as the code makes them.
use Rattle.std.specs.Prelude.{ℕ, ◌≡◌, Bool, true, false, ◌&&◌, not, if◌then◌else◌, List, []}
use Rattle.mini_model.specs.declared.kind.MethodDefinitionKind.{MethodDefinitionKind}
use Rattle.mini_model.specs.declared.shape.Shape.{Shape}
use Rattle.mini_model.specs.declared.shape.Shape.TheVariants as shape
use Rattle.mini_model.specs.Tree.{Tree, Trees, node, none, ◌▸◌, absent, listed, shape_of, children, child_or_absent, first_or_absent}
use Rattle.mini_model.specs.Paths.{append}
use Rattle.mini_node.specs.Children.{names_of, number_of, part, without, with_part, with_child}
use Rattle.mini_print.specs.Grammar.{constructor_shape, first_shape}
use Rattle.mini_print.specs.Printed as printed
use Rattle.mini_print.specs.Printed.{is_link, has_optional, linked, pieces, plain_kind, with_directives, has_no_names}
use Rattle.mini_printer.specs.declared.order.Object.{Object}
use Rattle.mini_printer.specs.declared.order.Object.TheVariants.{Base, Whole}

-- ---- optional chains

-- whether a node is a link over what it is of
abbrev pub is_link_over : Tree → Bool
is_link_over (node h xs n none) = false
is_link_over (node h xs n (t ▸ ts)) = is_link h

-- a chain of what its first link is of and its links, from the first on
abbrev pub chain : Tree → Trees → Trees
chain o none = o ▸ none
chain o (l ▸ ls) = o ▸ l ▸ listed ls ▸ none

abbrev pub base_of : Object → Tree
base_of (Base o) = o
base_of (Whole t) = t

-- the links of a tree with an optional one are taken out; any other stays whole
abbrev pub IsUnlinked : Object → Tree → Trees → Type 0
IsUnlinked (Base o) t ls = (has_optional t ≡ true) × ((us : Trees) → linked t us ≡ chain o (append ls us))
IsUnlinked (Whole u) t ls = (has_optional t ≡ false) × ((u ≡ t) × (ls ≡ none))

-- a link is the first where it is optional, and otherwise stands whole over what it was of
abbrev pub ended : Bool → Tree → Tree → Object
ended true o t = Base o
ended false o t = Whole (with_part t 0 o)

abbrev pub pushed : Bool → Trees → Tree → Trees
pushed true ls t = append ls (t ▸ none)
pushed false ls t = ls

abbrev pub chain_parts : Trees → Trees
chain_parts (t ▸ none) = linked t none
chain_parts ts = ts

-- ---- templates

-- whether a node is a list, whatever its number
abbrev pub is_list : Tree → Bool
is_list (node shape.Listed [] n ts) = true
is_list _ = false

-- whether the first of some trees has no part
abbrev pub is_piece_first : Trees → Bool
is_piece_first (node h xs n none ▸ ts) = true
is_piece_first _ = false

-- whether they are the pieces of a template and its expressions
abbrev pub is_template : Trees → Bool
is_template (q ▸ e ▸ none) = is_list q && is_list e
is_template _ = false

abbrev pub template_parts : Trees → Trees
template_parts (node shape.Listed [] k qs ▸ node shape.Listed [] j es ▸ none) = pieces qs es
template_parts ts = ts

-- ---- static members

abbrev pub method_parts : MethodDefinitionKind → Bool → Trees → Trees
method_parts k c (key ▸ v ▸ none) = node (shape.MethodDefinition (plain_kind k (not c && constructor_shape (first_shape (key ▸ none)))) c false) [] 0 (key ▸ v ▸ none) ▸ none
method_parts k c ts = ts

abbrev pub property_parts : Bool → Trees → Trees
property_parts c (key ▸ v ▸ none) = node (shape.PropertyDefinition c false) [] 0 (key ▸ v ▸ none) ▸ none
property_parts c ts = ts

-- ---- imports and exports

abbrev pub is_binding_shape : Shape → Bool
is_binding_shape shape.BindingIdentifier = true
is_binding_shape _ = false

abbrev pub is_binding : Tree → Bool
is_binding (node h xs n ts) = is_binding_shape h

abbrev pub is_binding_alone : Trees → Bool
is_binding_alone (t ▸ none) = is_binding t
is_binding_alone _ = false

abbrev pub is_over_binding : Tree → Bool
is_over_binding (node h xs n ts) = has_no_names xs && is_binding_alone ts

abbrev pub is_default_shape : Shape → Bool
is_default_shape shape.ImportDefaultSpecifier = true
is_default_shape _ = false

abbrev pub is_namespace_shape : Shape → Bool
is_namespace_shape shape.ImportNamespaceSpecifier = true
is_namespace_shape _ = false

abbrev pub is_default : Tree → Bool
is_default t = is_default_shape (shape_of t) && is_over_binding t

abbrev pub is_namespace : Tree → Bool
is_namespace t = is_namespace_shape (shape_of t) && is_over_binding t

-- whether the first specifier is a default, and whether a namespace is the only one
abbrev pub has_default : Trees → Bool
has_default none = false
has_default (t ▸ ts) = is_default t

abbrev pub has_namespace : Trees → Bool
has_namespace (t ▸ none) = is_namespace t
has_namespace _ = false

-- the local name of the first specifier where it is taken out, and the specifiers that are left
abbrev pub local_if : Bool → Trees → Tree
local_if b ts = if b then part (first_or_absent ts) 0 else absent

abbrev pub rest_if : Bool → Trees → Trees
rest_if b ts = if b then without ts 0 else ts

-- whether they are the specifiers of an import and its source
abbrev pub is_import : Trees → Bool
is_import (s ▸ t ▸ none) = is_list s
is_import _ = false

abbrev pub import_parts : Trees → Trees
import_parts (node shape.Listed [] k ss ▸ t ▸ none) = printed.import_parts ss t
import_parts ts = ts

abbrev pub export_parts : Trees → Trees
export_parts (e ▸ l ▸ none) = l ▸ e ▸ none
export_parts ts = ts

-- ---- functions

abbrev pub is_body : Tree → Bool
is_body (node shape.FunctionBody xs n (l ▸ none)) = true
is_body _ = false

abbrev pub directives_of : Shape → List (List ℕ)
directives_of (shape.Function d g ds) = ds
directives_of (shape.ArrowFunctionExpression ds) = ds
directives_of _ = []

abbrev pub without_directives : Shape → Shape
without_directives (shape.Function d g ds) = shape.Function d g []
without_directives (shape.ArrowFunctionExpression ds) = shape.ArrowFunctionExpression []
without_directives h = h

-- with the directives of its shape in the part at a place
abbrev pub with_body : ℕ → Tree → Tree
with_body i t = node (without_directives (shape_of t)) (names_of t) (number_of t) (with_child (children t) i (with_directives (directives_of (shape_of t)) (child_or_absent (children t) i)))

abbrev pub function : Tree → Tree
function (node h xs n (i ▸ ps ▸ b ▸ none)) = with_body 2 (node h xs n (i ▸ ps ▸ b ▸ none))
function t = t

abbrev pub arrow : Tree → Tree
arrow (node h xs n (ps ▸ b ▸ none)) = with_body 1 (node h xs n (ps ▸ b ▸ none))
arrow t = t

-- ---- all nodes

abbrev pub inner : Tree → Tree
inner (node h xs n (t ▸ none)) = t
inner t = t

-- the parts of a node in the order of its text, of a shape that stays as it is
abbrev pub parts_in_order : Shape → Trees → Trees
parts_in_order shape.ChainExpression ts = chain_parts ts
parts_in_order shape.TemplateLiteral ts = template_parts ts
parts_in_order (shape.MethodDefinition k c true) ts = method_parts k c ts
parts_in_order (shape.PropertyDefinition c true) ts = property_parts c ts
parts_in_order shape.ImportDeclaration ts = import_parts ts
parts_in_order shape.ExportSpecifier ts = export_parts ts
parts_in_order _ ts = ts

abbrev pub seen : Tree → Tree
seen t = printed.seen (shape_of t) (names_of t) (number_of t) (children t)
