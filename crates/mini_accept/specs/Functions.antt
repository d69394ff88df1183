-- The plans of functions and classes (ESTree; ECMA-262, "Functions and Classes").
use Rattle.std.specs.Prelude.{ℕ, List, [], ◌∷◌, Bool, true, false, ◌&&◌, ◌||◌, not, Option, option_map, unwrap_or, is_some, if◌then◌else◌, codes}
use Rattle.serde_json.specs.Data.{Data}
use Rattle.serde_json.specs.Find.{get}
use Rattle.mini_model.specs.declared.kind.MethodDefinitionKind.{MethodDefinitionKind}
use Rattle.mini_model.specs.declared.kind.MethodDefinitionKind.TheVariants as method
use Rattle.mini_model.specs.declared.shape.Shape.TheVariants as shape
use Rattle.mini_accept.specs.WellShaped as shaped
use Rattle.mini_accept.specs.WellShaped.{in_body, is_same_flag}
use Rattle.mini_accept.specs.Places.{Place, at}
use Rattle.mini_accept.specs.Fields.{◌>>=◌, require, is_given, has_units, flag_at, list_at, is_there_with, child_has_type, has_type}
use Rattle.mini_accept.specs.Literals.{is_string_literal}
use Rattle.mini_accept.specs.Standing.{is_identifier}
use Rattle.mini_accept.specs.Words.{word_at, method_kinds}
use Rattle.mini_accept.specs.Plans.{Plan, node_of, hole, one, Child, child, optional, optional_inner, ItemPart, each, or_rest, list_child, inner_key}
use Rattle.mini_accept.specs.Statements.{directives_of}

-- ---- functions

-- the directives of a body that is a block
abbrev pub directives_in : Data → List (List ℕ)
directives_in d = if has_type (codes "BlockStatement") d then unwrap_or (option_map directives_of (list_at (codes "body") d)) [] else []

abbrev pub directives_below : Data → List (List ℕ)
directives_below d = unwrap_or (option_map directives_in (get (codes "body") d)) []

abbrev pub parameter : ItemPart
parameter = or_rest (each shaped.a_parameter) shaped.a_pattern_rest

abbrev pub is_default_export : Place → Bool
is_default_export (at shaped.a_default_export) = true
is_default_export p = false

-- a declaration has a name, but for one that is exported by default
abbrev pub is_named : Bool → Place → Data → Bool
is_named declaration p d = not declaration || (is_default_export p || is_given (codes "id") d)

-- `async` is false: an asynchronous function isn't read
abbrev pub function : Bool → Place → Data → Option Plan
function declaration p d = do
  generator ← flag_at (codes "generator") d
  parameters ← list_child parameter (codes "params") d
  require (is_some (flag_at (codes "async") d) && is_named declaration p d)
      (node_of (shape.Function declaration generator (directives_below d)) (optional (codes "id") shaped.a_binding d ∷ parameters ∷ child (codes "body") shaped.a_function_body ∷ []))

-- `expression` says that the body is one
abbrev pub arrow : Data → Option Plan
arrow d = do
  expression ← flag_at (codes "expression") d
  parameters ← list_child parameter (codes "params") d
  require (is_some (flag_at (codes "async") d) && is_same_flag expression (not (child_has_type (codes "body") (codes "BlockStatement") d)))
      (node_of (shape.ArrowFunctionExpression (directives_below d)) (parameters ∷ child (codes "body") shaped.an_arrow_body ∷ []))

-- ---- classes

-- a declaration with a name holds it once more, which is read of the same field
abbrev pub name_held : Bool → Data → Child
name_held true d = optional (codes "id") shaped.a_binding d
name_held false d = one hole

abbrev pub class : Bool → Place → Data → Option Plan
class declaration p d = require (is_named declaration p d)
    (node_of (shape.Class declaration) (optional (codes "id") shaped.a_binding d ∷ optional_inner (codes "superClass") shaped.an_expression d ∷ child (codes "body") shaped.a_class_body ∷ name_held declaration d ∷ []))

abbrev pub class_body : Data → Option Plan
class_body d = do
  members ← list_child (each shaped.a_class_member) (codes "body") d
  node_of shape.ClassBody (members ∷ [])

-- a key that is the name or the text `constructor`
abbrev pub names_constructor : Data → Bool
names_constructor d = (is_identifier d && has_units (codes "name") (codes "constructor") d) || (is_string_literal d && has_units (codes "value") (codes "constructor") d)

abbrev pub is_constructor : Bool → Bool → Data → Bool
is_constructor computed is_static d = not is_static && (not computed && is_there_with names_constructor (get (codes "key") d))

-- a method that is no accessor, isn't static and has that key without brackets is the constructor,
-- and no other is (ECMA-262, ConstructorMethod)
abbrev pub has_its_kind : MethodDefinitionKind → Bool → Bool
has_its_kind method.Constructor is_it = is_it
has_its_kind method.Method is_it = not is_it
has_its_kind _ is_it = true

abbrev pub method_definition : Data → Option Plan
method_definition d = do
  kind ← word_at method_kinds (codes "kind") d
  computed ← flag_at (codes "computed") d
  is_static ← flag_at (codes "static") d
  require (has_its_kind kind (is_constructor computed is_static d))
      (node_of (shape.MethodDefinition kind computed is_static) (inner_key computed (shaped.a_private_or_key false) ∷ child (codes "value") shaped.a_method ∷ []))

abbrev pub property_definition : Data → Option Plan
property_definition d = do
  computed ← flag_at (codes "computed") d
  is_static ← flag_at (codes "static") d
  node_of (shape.PropertyDefinition computed is_static) (inner_key computed (shaped.a_private_or_key false) ∷ optional_inner (codes "value") shaped.an_expression d ∷ [])

abbrev pub static_block : Data → Option Plan
static_block d = do
  statements ← list_child (each (shaped.a_statement in_body)) (codes "body") d
  node_of shape.StaticBlock (statements ∷ [])
