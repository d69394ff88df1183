-- Small trees and what is written for them, as JSON without spaces. A text stands over each.
use Rattle.std.specs.Prelude.{◌≡◌, refl, ℕ, [], ◌∷◌, List, codes, true, false, negsuc, None}
use Rattle.std.specs.Char.{encode_utf8}
use Rattle.std.specs.Char.Utf16.{utf16_chars}
use Rattle.std.specs.Fmt.{digits}
use Rattle.json.specs.Print.{escape_byte}
use Rattle.serde_json.specs.Written.{compact_text}
use Rattle.mini_model.specs.declared.shape.Shape.TheVariants as shape
use Rattle.mini_model.specs.Tree.{Tree, node, none, ◌▸◌, leaf, listed, absent, unresolved, program, identifier, if_alone, empty_statement, expression_statement}
use Rattle.mini_writer.specs.Written.{tree_data}

abbrev IsWritten : Tree → List ℕ → Type 0
IsWritten t s = compact_text (tree_data t) ≡ s

abbrev a : Tree
a = identifier (unresolved (codes "a"))

abbrev bound : List ℕ → Tree
bound s = node shape.BindingIdentifier (unresolved s ∷ []) 0 none

empty_script : IsWritten (program false [] none) (codes "{\"body\":[],\"sourceType\":\"script\",\"type\":\"Program\"}")
unfolding escape_byte utf16_chars encode_utf8
empty_script = refl

-- "use strict"; a, in a module
strict_module : IsWritten (program true (codes "use strict" ∷ []) (expression_statement a ▸ none)) (codes "{\"body\":[{\"directive\":\"use strict\",\"expression\":{\"type\":\"Literal\",\"value\":\"use strict\"},\"type\":\"ExpressionStatement\"},{\"expression\":{\"name\":\"a\",\"type\":\"Identifier\"},\"type\":\"ExpressionStatement\"}],\"sourceType\":\"module\",\"type\":\"Program\"}")
unfolding escape_byte utf16_chars encode_utf8
strict_module = refl

-- if (a) ;
without_else : IsWritten (if_alone a empty_statement) (codes "{\"alternate\":null,\"consequent\":{\"type\":\"EmptyStatement\"},\"test\":{\"name\":\"a\",\"type\":\"Identifier\"},\"type\":\"IfStatement\"}")
unfolding escape_byte utf16_chars encode_utf8
without_else = refl

-- -1
minus_one : IsWritten (leaf (shape.NumericLiteral (negsuc 0))) (codes "{\"argument\":{\"type\":\"Literal\",\"value\":1},\"operator\":\"-\",\"prefix\":true,\"type\":\"UnaryExpression\"}")
unfolding escape_byte utf16_chars encode_utf8 digits
minus_one = refl

-- 1n
big_one : IsWritten (leaf (shape.BigIntLiteral 1)) (codes "{\"bigint\":\"1\",\"type\":\"Literal\",\"value\":null}")
unfolding escape_byte utf16_chars encode_utf8 digits
big_one = refl

-- /a/g
pattern_of_a : IsWritten (leaf (shape.RegExpLiteral (codes "a") (codes "g"))) (codes "{\"regex\":{\"flags\":\"g\",\"pattern\":\"a\"},\"type\":\"Literal\",\"value\":null}")
unfolding escape_byte utf16_chars encode_utf8
pattern_of_a = refl

-- '"'
quoted_text : IsWritten (leaf (shape.StringLiteral (codes "\""))) (codes "{\"type\":\"Literal\",\"value\":\"\\\"\"}")
unfolding escape_byte utf16_chars encode_utf8
quoted_text = refl

-- [, a]
hole : IsWritten (node shape.ArrayExpression [] 0 (listed (absent ▸ a ▸ none) ▸ none)) (codes "{\"elements\":[null,{\"name\":\"a\",\"type\":\"Identifier\"}],\"type\":\"ArrayExpression\"}")
unfolding escape_byte utf16_chars encode_utf8
hole = refl

-- a?.b
optional_member : IsWritten (node shape.ChainExpression [] 0 (node (shape.StaticMemberExpression true) [] 0 (a ▸ leaf (shape.IdentifierName (codes "b")) ▸ none) ▸ none)) (codes "{\"expression\":{\"computed\":false,\"object\":{\"name\":\"a\",\"type\":\"Identifier\"},\"optional\":true,\"property\":{\"name\":\"b\",\"type\":\"Identifier\"},\"type\":\"MemberExpression\"},\"type\":\"ChainExpression\"}")
unfolding escape_byte utf16_chars encode_utf8
optional_member = refl

-- () => a
arrow_of_a : IsWritten (node (shape.ArrowFunctionExpression []) [] 0 (listed none ▸ a ▸ none)) (codes "{\"async\":false,\"body\":{\"name\":\"a\",\"type\":\"Identifier\"},\"expression\":true,\"params\":[],\"type\":\"ArrowFunctionExpression\"}")
unfolding escape_byte utf16_chars encode_utf8
arrow_of_a = refl

-- function* () { "use strict"; }
strict_generator : IsWritten (node (shape.Function false true (codes "use strict" ∷ [])) [] 0 (absent ▸ listed none ▸ node shape.FunctionBody [] 0 (listed none ▸ none) ▸ none)) (codes "{\"async\":false,\"body\":{\"body\":[{\"directive\":\"use strict\",\"expression\":{\"type\":\"Literal\",\"value\":\"use strict\"},\"type\":\"ExpressionStatement\"}],\"type\":\"BlockStatement\"},\"generator\":true,\"id\":null,\"params\":[],\"type\":\"FunctionExpression\"}")
unfolding escape_byte utf16_chars encode_utf8
strict_generator = refl

-- class { #a; }
private_field : IsWritten (node (shape.Class false) [] 0 (absent ▸ absent ▸ node shape.ClassBody [] 0 (listed (node (shape.PropertyDefinition false false) [] 0 (leaf (shape.PrivateIdentifier (codes "a")) ▸ absent ▸ none) ▸ none) ▸ none) ▸ absent ▸ none)) (codes "{\"body\":{\"body\":[{\"computed\":false,\"key\":{\"name\":\"a\",\"type\":\"PrivateIdentifier\"},\"static\":false,\"type\":\"PropertyDefinition\",\"value\":null}],\"type\":\"ClassBody\"},\"id\":null,\"superClass\":null,\"type\":\"ClassExpression\"}")
unfolding escape_byte utf16_chars encode_utf8
private_field = refl

-- class a {}, which holds its name once more
class_declaration : IsWritten (node (shape.Class true) [] 0 (bound (codes "a") ▸ absent ▸ node shape.ClassBody [] 0 (listed none ▸ none) ▸ bound (codes "a") ▸ none)) (codes "{\"body\":{\"body\":[],\"type\":\"ClassBody\"},\"id\":{\"name\":\"a\",\"type\":\"Identifier\"},\"superClass\":null,\"type\":\"ClassDeclaration\"}")
unfolding escape_byte utf16_chars encode_utf8
class_declaration = refl

-- { a = b }, as a pattern
shorthand_with_default : IsWritten (node shape.ObjectPattern [] 0 (listed (node (shape.BindingProperty true false) [] 0 (leaf (shape.IdentifierName (codes "a")) ▸ node shape.AssignmentPattern [] 0 (a ▸ identifier (unresolved (codes "b")) ▸ none) ▸ none) ▸ none) ▸ none)) (codes "{\"properties\":[{\"computed\":false,\"key\":{\"name\":\"a\",\"type\":\"Identifier\"},\"kind\":\"init\",\"method\":false,\"shorthand\":true,\"type\":\"Property\",\"value\":{\"left\":{\"name\":\"a\",\"type\":\"Identifier\"},\"right\":{\"name\":\"b\",\"type\":\"Identifier\"},\"type\":\"AssignmentPattern\"}}],\"type\":\"ObjectPattern\"}")
unfolding escape_byte utf16_chars encode_utf8
shorthand_with_default = refl

-- `\u`, of a template with a tag
malformed_piece : IsWritten (leaf (shape.TemplateElement true (codes "\\u") None)) (codes "{\"tail\":true,\"type\":\"TemplateElement\",\"value\":{\"cooked\":null,\"raw\":\"\\\\u\"}}")
unfolding escape_byte utf16_chars encode_utf8
malformed_piece = refl
