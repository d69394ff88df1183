-- How the body among the children of a program or a function is written.
use Rattle.std.specs.Prelude.{ℕ, List, [], ◌∷◌, Bool, false, codes, if◌then◌else◌}
use Rattle.serde_json.specs.Data.{Data, boolean, Items, no_items, item}
use Rattle.mini_writer.specs.declared.members.Key.TheVariants as key
use Rattle.mini_writer.specs.Rows.{Row}
use Rattle.mini_writer.specs.Words.{function_type, class_type, source_type}
use Rattle.mini_writer.specs.Written.{body, program_body}
use Rattle.serde_json.specs.Data.{string}

-- of a program (true) or a function
abbrev pub body_of : Bool → List (List ℕ) → Data → Data
body_of is_program directives d = if is_program then program_body directives d else body directives d

-- the last item changed
abbrev pub with_last : (Data → Data) → Items → Items
with_last f no_items = no_items
with_last f (item d no_items) = item (f d) no_items
with_last f (item d (item e ds)) = item d (with_last f (item e ds))

abbrev pub program_row : Bool → Row
program_row is_module = record { kind = codes "Program"; plain = (key.SourceType, string (source_type is_module)) ∷ []; keys = key.Body ∷ [] }

abbrev pub arrow_row : Bool → Row
arrow_row is_expression = record { kind = codes "ArrowFunctionExpression"; plain = (key.Async, boolean false) ∷ (key.Expression, boolean is_expression) ∷ []; keys = key.Params ∷ key.Body ∷ [] }

abbrev pub function_row : Bool → Bool → Row
function_row declaration generator = record { kind = function_type declaration; plain = (key.Async, boolean false) ∷ (key.Generator, boolean generator) ∷ []; keys = key.Id ∷ key.Params ∷ key.Body ∷ [] }

abbrev pub class_row : Bool → Row
class_row declaration = record { kind = class_type declaration; plain = []; keys = key.Id ∷ key.SuperClass ∷ key.Body ∷ [] }
