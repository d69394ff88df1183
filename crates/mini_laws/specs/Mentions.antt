-- Where the names of a tree are mentioned: in which body, and how.
use Rattle.std.specs.Prelude.{ℕ, zero, suc, nat_eq, Bool, true, false, ◌&&◌, ◌||◌, not, List, [], ◌++◌, map, Option, Some, None, is_none, codes}
use Rattle.std.specs.List.{list_any}
use Rattle.mini_model.specs.declared.name.Name.{Name}
use Rattle.mini_model.specs.declared.name.SymbolId.{SymbolId}
use Rattle.mini_model.specs.declared.shape.Shape.{Shape}
use Rattle.mini_model.specs.declared.shape.Shape.TheVariants as shape
use Rattle.mini_model.specs.Tree.{Tree, Trees, node, none, ◌▸◌}
use Rattle.mini_model.specs.Weight.{same_text}
use Rattle.mini_laws.specs.declared.names.Use.{Use}
use Rattle.mini_laws.specs.declared.names.Use.TheVariants.{Read}
use Rattle.mini_laws.specs.declared.names.Numbering.{Numbering}
use Rattle.mini_laws.specs.declared.names.Numbering.TheVariants.{Body, Carried, Unnumbered}
use Rattle.mini_laws.specs.declared.names.Around.{Around}
use Rattle.mini_laws.specs.Scopes.{use_of}

-- how a node of a shape and a number stands: a program, a function, a static block and an inner
-- expression have a body, and every other numbered node is carried
abbrev pub numbering_of : Shape → ℕ → Numbering
numbering_of (shape.Program is_module ds) n = Body
numbering_of (shape.Function d g ds) n = Body
numbering_of (shape.ArrowFunctionExpression ds) n = Body
numbering_of shape.StaticBlock n = Body
numbering_of shape.InnerExpression n = Body
numbering_of h zero = Unnumbered
numbering_of h (suc n) = Carried

abbrev pub around_by : Numbering → Around → ℕ → Around
around_by Body a n = record { number = n; carried = false }
around_by Carried a n = record { number = n; carried = true }
around_by Unnumbered a n = a

-- the innermost numbered node around a child: the `id` of a declaration stands in what is around
-- the declaration
abbrev pub around_child : Shape → Around → ℕ → ℕ → Around
around_child (shape.Function true g ds) a n zero = a
around_child (shape.Class true) a n zero = a
around_child h a n i = around_by (numbering_of h n) a n

-- the body of the program
abbrev pub outermost : Around
outermost = record { number = 0; carried = false }

-- a name where it is declared, bound, read or written
pub record Mention : Type 0 where
  pub name : Name
  pub used : Use
  pub binds : Bool
  pub around : Around

abbrev pub own_mentions : Use → Around → Shape → List Name → List Mention
own_mentions u a shape.Identifier xs = map (λ x. record { name = x; used = u; binds = false; around = a }) xs
own_mentions u a shape.BindingIdentifier xs = map (λ x. record { name = x; used = u; binds = true; around = a }) xs
own_mentions u a _ xs = []

-- in order
unfoldable mutual
  pub mentions : Use → Around → Tree → List Mention
  mentions u a (node h xs n ts) = own_mentions u a h xs ++ mentions_from (use_of h u) (around_child h a n) 0 ts

  pub mentions_from : (ℕ → Use) → (ℕ → Around) → ℕ → Trees → List Mention
  mentions_from uses arounds i none = []
  mentions_from uses arounds i (t ▸ ts) = mentions (uses i) (arounds i) t ++ mentions_from uses arounds (suc i) ts

abbrev pub program_mentions : Tree → List Mention
program_mentions t = mentions Read outermost t

-- in another body than this, or in a carried node
abbrev pub is_elsewhere : ℕ → Around → Bool
is_elsewhere b a = a.carried || not (nat_eq a.number b)

-- ---- variables

-- the same variable: one symbol, or one spelling without a symbol
abbrev pub same_variable_by : Option SymbolId → Option SymbolId → List ℕ → List ℕ → Bool
same_variable_by (Some m) (Some n) s r = nat_eq m.0 n.0
same_variable_by None None s r = same_text s r
same_variable_by m n s r = false

abbrev pub same_variable : Name → Name → Bool
same_variable x y = same_variable_by x.symbol y.symbol x.spelling y.spelling

abbrev pub is_among : Name → List Name → Bool
is_among x xs = list_any (same_variable x) xs

-- an unresolved `undefined`, `NaN` or `Infinity` is a value, and no variable
abbrev pub is_value_spelling : List ℕ → Bool
is_value_spelling s = same_text s (codes "undefined") || same_text s (codes "NaN") || same_text s (codes "Infinity")

abbrev pub is_variable : Name → Bool
is_variable x = not (is_none x.symbol && is_value_spelling x.spelling)
