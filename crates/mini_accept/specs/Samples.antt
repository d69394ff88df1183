-- Values and trees, as the examples write them.
use Rattle.std.specs.Prelude.{◌≡◌, ℕ, true, false, Bool, [], ◌∷◌, List, codes, pos, Ok, Err}
use Rattle.serde_json.specs.Data.{Data, boolean, number, string, array, object, unsigned, Items, no_items, item, Members, no_members, member}
use Rattle.mini_model.specs.declared.shape.Shape.TheVariants as shape
use Rattle.mini_model.specs.Tree.{Tree, none, ◌▸◌, leaf, expression_statement, program}
use Rattle.mini_accept.specs.Faults.{Defect}
use Rattle.mini_accept.specs.Accept.{program_at}

-- ---- values

abbrev pub members : List (List ℕ × Data) → Members
members [] = no_members
members ((key, d) ∷ ms) = member key d (members ms)

abbrev pub items : List Data → Items
items [] = no_items
items (d ∷ ds) = item d (items ds)

abbrev pub list : List Data → Data
list ds = array (items ds)

abbrev pub typed : List ℕ → List (List ℕ × Data) → Data
typed type ms = object (member (codes "type") (string type) (members ms))

abbrev pub text : List ℕ → Data
text s = string s

abbrev pub script : List Data → Data
script ds = typed (codes "Program") ((codes "sourceType", text (codes "script")) ∷ (codes "body", list ds) ∷ [])

abbrev pub says : Data → Data
says e = typed (codes "ExpressionStatement") ((codes "expression", e) ∷ [])

abbrev pub this : Data
this = typed (codes "ThisExpression") []

abbrev pub literal : Data → Data
literal d = typed (codes "Literal") ((codes "value", d) ∷ [])

abbrev pub name : List ℕ → Data
name s = typed (codes "Identifier") ((codes "name", text s) ∷ [])

abbrev pub unary : List ℕ → Data → Data
unary o d = typed (codes "UnaryExpression") ((codes "operator", text o) ∷ (codes "argument", d) ∷ [])

-- `a[0]`, `a?.[0]`
abbrev pub member_of : Bool → Data → Data
member_of optional d = typed (codes "MemberExpression") ((codes "object", d) ∷ (codes "property", literal (number (unsigned 0))) ∷ (codes "computed", boolean true) ∷ (codes "optional", boolean optional) ∷ [])

abbrev pub chain : Data → Data
chain d = typed (codes "ChainExpression") ((codes "expression", d) ∷ [])

abbrev pub sequence : List Data → Data
sequence ds = typed (codes "SequenceExpression") ((codes "expressions", list ds) ∷ [])

abbrev pub block : List Data → Data
block ds = typed (codes "BlockStatement") ((codes "body", list ds) ∷ [])

abbrev pub directive : List ℕ → Data
directive s = typed (codes "ExpressionStatement") ((codes "directive", text s) ∷ (codes "expression", literal (text s)) ∷ [])

-- ---- trees

abbrev pub this_tree : Tree
this_tree = leaf shape.ThisExpression

abbrev pub said : Tree → Tree
said t = program false [] (expression_statement t ▸ none)

abbrev pub zero : Tree
zero = leaf (shape.NumericLiteral (pos 0))

-- within 9 levels the value is this tree, with so many numbers
abbrev pub IsTree : Data → Tree → ℕ → Type 0
IsTree d t n = program_at 9 d ≡ Ok (t, n)

-- it is refused, at this pointer
abbrev pub IsRefused : Data → Defect → List ℕ → Type 0
IsRefused d x at = program_at 9 d ≡ Err (record { defect = x; at = at })
