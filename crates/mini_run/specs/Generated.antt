-- The script of some statements that is minified where none is read.
use Rattle.std.specs.Prelude.{ℕ, zero, suc, pos, ◌+◌, ◌%◌, ◌++◌, List, [], ◌∷◌, true, false, codes, decimal}
use Rattle.serde_json.specs.Data.{Data}
use Rattle.mini_model.specs.Texts.{units_of}
use Rattle.mini_model.specs.declared.operator.BinaryOperator.TheVariants.{Addition, Equality}
use Rattle.mini_model.specs.declared.operator.LogicalOperator.TheVariants.{And}
use Rattle.mini_model.specs.declared.operator.UnaryOperator.TheVariants.{Typeof}
use Rattle.mini_model.specs.declared.shape.Shape.TheVariants as shape
use Rattle.mini_model.specs.Tree.{Tree, Trees, node, none, ◌▸◌, listed, program, identifier, unresolved, negation, unary, logical, call, expression_statement, if_else, if_alone}
use Rattle.mini_node.specs.Kinds.{binary, computed_member, numeric_literal, string_literal, return_statement}
use Rattle.mini_writer.specs.Written.{program_data}

-- a name that is read, and one that is declared
abbrev pub named : List ℕ → Tree
named text = identifier (unresolved (units_of text))

abbrev pub declared : List ℕ → Tree
declared text = node shape.BindingIdentifier (unresolved (units_of text) ∷ []) 0 none

abbrev pub number : ℕ → Tree
number i = numeric_literal (pos i)

-- `f(a);`, of its arguments
abbrev pub called : List ℕ → Trees → Tree
called text arguments = expression_statement (call false (named text) arguments)

abbrev pub argument : ℕ → Trees
argument i = number i ▸ none

-- `if (!a) b(i); else c();`
abbrev pub choice : ℕ → Tree
choice i = if_else (negation (named (codes "a"))) (called (codes "b") (argument i)) (called (codes "c") none)

-- `typeof u == "undefined"`
abbrev pub test : Tree
test = binary Equality (unary Typeof (named (codes "u"))) (string_literal (units_of (codes "undefined")))

-- `d["k"]`
abbrev pub member : Tree
member = computed_member (named (codes "d")) (string_literal (units_of (codes "k")))

-- `typeof u == "undefined" && d["k"](i);`
abbrev pub comparison : ℕ → Tree
comparison i = expression_statement (logical And test (call false member (argument i)))

-- `if (p) return 1 + i;`
abbrev pub guard : ℕ → Tree
guard i = if_alone (named (codes "p")) (return_statement (binary Addition (number 1) (number i)))

-- `{ if (p) return 1 + i; return "s"; }`, as a function's body
abbrev pub body : ℕ → Tree
body i = node shape.FunctionBody [] 0 (listed (guard i ▸ return_statement (string_literal (units_of (codes "s"))) ▸ none) ▸ none)

-- `fi`
abbrev pub function_name : ℕ → Tree
function_name i = declared (codes "f" ++ decimal i)

-- `function fi(p) { if (p) return 1 + i; return "s"; }`
abbrev pub guarded : ℕ → Tree
guarded i = node (shape.Function true false []) [] 0 (function_name i ▸ listed (declared (codes "p") ▸ none) ▸ body i ▸ none)

abbrev pub by_turn : ℕ → ℕ → Tree
by_turn zero i = choice i
by_turn (suc zero) i = comparison i
by_turn k i = guarded i

-- the statement with this number, from 0
abbrev pub statement : ℕ → Tree
statement i = by_turn (i % 3) i

-- so many, from this number on
abbrev pub statements : ℕ → ℕ → Trees
statements i zero = none
statements i (suc n) = statement i ▸ statements (suc i) n

-- the script
abbrev pub generated : ℕ → Tree
generated n = program false [] (statements 0 n)

-- as ESTree
abbrev pub generated_data : ℕ → Data
generated_data n = program_data (generated n)
