-- What leaves the object of a member as it is.
use Rattle.std.specs.Prelude.{ℕ, Bool, true, false, ◌&&◌, List, [], ◌∷◌, Option, Some, None}
use Rattle.mini_model.specs.declared.name.Name.{Name}
use Rattle.mini_model.specs.declared.name.SymbolId.{SymbolId}
use Rattle.mini_model.specs.Tree.{Tree, Trees, none, ◌▸◌, shape_of}
use Rattle.mini_node.specs.Children.{names_of}
use Rattle.mini_rows.specs.Past.{is_binding, has_symbol, leaves}
pub use Rattle.mini_rows.specs.Past.{is_this_shape, is_this}

-- a node declares a name with the symbol
abbrev pub declares : ℕ → Tree → Bool
declares k t = is_binding (shape_of t) && has_symbol k (names_of t)

-- it neither declares nor writes the name, if the object is one
abbrev pub leaves_symbol : Name → Option SymbolId → Tree → Bool
leaves_symbol x (Some s) t = leaves t x s.0
leaves_symbol x None t = false

abbrev pub leaves_name : List Name → Tree → Bool
leaves_name [] t = true
leaves_name (x ∷ xs) t = leaves_symbol x x.symbol t

abbrev pub leaves_object : Tree → Tree → Bool
leaves_object o t = leaves_name (names_of o) t

-- nor do some trees
abbrev pub all_leave : Tree → Trees → Bool
all_leave o none = true
all_leave o (t ▸ ts) = leaves_object o t && all_leave o ts
