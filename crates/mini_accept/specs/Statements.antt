-- The plans of statements (ESTree; ECMA-262, "Statements and Declarations").
use Rattle.std.specs.Prelude.{ℕ, suc, List, [], ◌∷◌, Bool, true, false, ◌&&◌, ◌||◌, not, Option, Some, None, is_some, if◌then◌else◌, codes}
use Rattle.serde_json.specs.Data.{Data, Items, no_items, item}
use Rattle.mini_model.specs.declared.shape.Shape.TheVariants as shape
use Rattle.mini_accept.specs.WellShaped as shaped
use Rattle.mini_accept.specs.WellShaped.{Depth, in_module, in_body, nested}
use Rattle.mini_accept.specs.Places.{field, place, Place, at, a_directive, a_directive_text}
use Rattle.mini_accept.specs.Fields.{◌>>=◌, require, is_given, units_at, flag_at, list_at, no_item, has_type}
use Rattle.mini_accept.specs.Words.{word_at, variable_kinds, source_types}
use Rattle.mini_accept.specs.Plans.{Part, tree_at, checked, Child, one, many, Plan, node_of, child, optional, list, each, list_child}

-- ---- bodies

-- a directive (ECMA-262, "Directive Prologues and the Use Strict Directive")
abbrev pub directive_text : Data → Option (List ℕ)
directive_text d = if has_type (codes "ExpressionStatement") d then units_at (codes "directive") d else None

abbrev pub directives_before : Option (List ℕ) → List (List ℕ) → List (List ℕ)
directives_before None ss = []
directives_before (Some s) ss = s ∷ ss

-- the texts of the directives, which stand before all other statements
abbrev pub directives_of : Items → List (List ℕ)
directives_of no_items = []
directives_of (item d ds) = directives_before (directive_text d) (directives_of ds)

abbrev pub body_part : Depth → Bool → ℕ → Part
body_part depth true i = checked (place (codes "body") i) a_directive
body_part depth false i = tree_at (place (codes "body") i) (at (shaped.a_statement depth))

-- whether a directive may still stand here comes first
abbrev pub body_parts : Depth → Bool → ℕ → Items → List Part
body_parts depth leading i no_items = []
body_parts depth leading i (item d ds) =
    let is_directive = leading && is_some (directive_text d) in
    body_part depth is_directive i ∷ body_parts depth is_directive (suc i) ds

abbrev pub body : Depth → Items → Child
body depth ds = many (body_parts depth true 0 ds)

abbrev pub program : Data → Option Plan
program d = do
  is_module ← word_at source_types (codes "sourceType") d
  ds ← list_at (codes "body") d
  node_of (shape.Program is_module (directives_of ds)) (body (if is_module then in_module else in_body) ds ∷ [])

-- ---- statements

abbrev pub directive : Option Plan
directive = node_of shape.ExpressionStatement (one (tree_at (field (codes "expression")) a_directive_text) ∷ [])

-- only a directive has that field
abbrev pub expression_statement : Place → Data → Option Plan
expression_statement a_directive d = directive
expression_statement p d = require (not (is_given (codes "directive") d)) (node_of shape.ExpressionStatement (child (codes "expression") shaped.an_expression ∷ []))

abbrev pub block : Data → Option Plan
block d = do
  body ← list_child (each (shaped.a_statement nested)) (codes "body") d
  node_of shape.BlockStatement (body ∷ [])

abbrev pub function_body : Data → Option Plan
function_body d = do
  ds ← list_at (codes "body") d
  node_of shape.FunctionBody (body in_body ds ∷ [])

abbrev pub block_in : Place → Data → Option Plan
block_in (at shaped.a_function_body) d = function_body d
block_in (at shaped.an_arrow_body) d = function_body d
block_in p d = block d

abbrev pub labeled : Data → Option Plan
labeled d = node_of shape.LabeledStatement (child (codes "label") shaped.a_label ∷ child (codes "body") (shaped.a_statement nested) ∷ [])

abbrev pub break : Data → Option Plan
break d = node_of shape.BreakStatement (optional (codes "label") shaped.a_label d ∷ [])

abbrev pub continue : Data → Option Plan
continue d = node_of shape.ContinueStatement (optional (codes "label") shaped.a_label d ∷ [])

abbrev pub return : Data → Option Plan
return d = node_of shape.ReturnStatement (optional (codes "argument") shaped.an_expression d ∷ [])

abbrev pub throw : Data → Option Plan
throw d = node_of shape.ThrowStatement (child (codes "argument") shaped.an_expression ∷ [])

abbrev pub if_statement : Data → Option Plan
if_statement d = node_of shape.IfStatement (child (codes "test") shaped.an_expression ∷ child (codes "consequent") (shaped.a_statement nested) ∷ optional (codes "alternate") (shaped.a_statement nested) d ∷ [])

abbrev pub switch : Data → Option Plan
switch d = do
  cases ← list_child (each shaped.a_case) (codes "cases") d
  node_of shape.SwitchStatement (child (codes "discriminant") shaped.an_expression ∷ cases ∷ [])

abbrev pub switch_case : Data → Option Plan
switch_case d = do
  consequent ← list_child (each (shaped.a_statement nested)) (codes "consequent") d
  node_of shape.SwitchCase (optional (codes "test") shaped.an_expression d ∷ consequent ∷ [])

abbrev pub try : Data → Option Plan
try d = require (is_given (codes "handler") d || is_given (codes "finalizer") d)
    (node_of shape.TryStatement (child (codes "block") shaped.a_block ∷ optional (codes "handler") shaped.a_catch d ∷ optional (codes "finalizer") shaped.a_block d ∷ []))

abbrev pub catch : Data → Option Plan
catch d = node_of shape.CatchClause (optional (codes "param") shaped.a_pattern d ∷ child (codes "body") shaped.a_block ∷ [])

-- ---- loops

abbrev pub while : Data → Option Plan
while d = node_of shape.WhileStatement (child (codes "test") shaped.an_expression ∷ child (codes "body") (shaped.a_statement nested) ∷ [])

abbrev pub do_while : Data → Option Plan
do_while d = node_of shape.DoWhileStatement (child (codes "body") (shaped.a_statement nested) ∷ child (codes "test") shaped.an_expression ∷ [])

abbrev pub for : Data → Option Plan
for d = node_of shape.ForStatement (optional (codes "init") shaped.an_init d ∷ optional (codes "test") shaped.an_expression d ∷ optional (codes "update") shaped.an_expression d ∷ child (codes "body") (shaped.a_statement nested) ∷ [])

abbrev pub loop_children : Bool → List Child
loop_children enumerates = child (codes "left") (shaped.a_loop_left enumerates) ∷ child (codes "right") shaped.an_expression ∷ child (codes "body") (shaped.a_statement nested) ∷ []

abbrev pub for_in : Data → Option Plan
for_in d = node_of shape.ForInStatement (loop_children true)

-- `await` is false: a loop that awaits isn't read
abbrev pub for_of : Data → Option Plan
for_of d = require (is_some (flag_at (codes "await") d)) (node_of shape.ForOfStatement (loop_children false))

-- ---- variables

abbrev pub variable : Data → Option Plan
variable d = do
  kind ← word_at variable_kinds (codes "kind") d
  ds ← list_at (codes "declarations") d
  require (not (no_item ds)) (node_of (shape.VariableDeclaration kind) (list (each shaped.a_declarator) (codes "declarations") ds ∷ []))

abbrev pub declarator : Data → Option Plan
declarator d = node_of shape.VariableDeclarator (child (codes "id") shaped.a_pattern ∷ optional (codes "init") shaped.an_expression d ∷ [])
