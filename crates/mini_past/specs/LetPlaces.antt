-- Of a list of declarators and the statements before it the first place at which each symbol is
-- declared: 0 in a statement, and so many as stand up to it in a declarator.
use Rattle.std.specs.Prelude.{◌≡◌, ◌≤◌, ℕ, Bool, true, false, not, ◌&&◌, ◌||◌, List, [], ◌∷◌, Option, Some, None, nat_le, IfSome}
use Rattle.std.specs.BTreeMap.{BTreeMap, get}
use Rattle.std.specs.Ordering.{nat_cmp}
use Rattle.mini_model.specs.declared.name.Name.{Name}
use Rattle.mini_model.specs.Tree.{Tree, Trees, children, shape_of}
use Rattle.mini_node.specs.Children.{names_of, part, first_children}
use Rattle.mini_rows.specs.Past.{is_binding, any_bind, all_of, spares, lets_here, lets_at_most}
use Rattle.mini_rows.specs.Unused.{is_declarator, is_childless}
use Rattle.mini_unused.specs.RemoveUnusedDeclaration.{is_free_at, list_at}
use Rattle.mini_past.specs.declared.let_places.FirstPlaces.{FirstPlaces}
use Rattle.mini_past.specs.declared.let_places.LetPlaces.{LetPlaces}

abbrev pub Places : Type 0
Places = BTreeMap ℕ ℕ

abbrev pub is_within : Option ℕ → ℕ → Bool
is_within (Some i) w = nat_le i w
is_within None w = false

-- the symbol has a place up to this one
unfoldable pub reaches : Places → ℕ → ℕ → Bool
reaches m k w = is_within (get nat_cmp m k) w

-- n has the place i for each of some symbols too
abbrev pub Marked : (ℕ → Bool) → ℕ → Places → Places → Type 0
Marked p i m n = (k w : ℕ) → reaches n k w ≡ (reaches m k w || (p k && nat_le i w))

-- ---- what is asked of a statement and of a declarator: that it doesn't declare the name, or initialises it if it does

abbrev pub is_single : List Name → Bool
is_single (x ∷ []) = true
is_single xs = false

abbrev pub is_plain_name : Tree → Bool
is_plain_name t = is_binding (shape_of t) && (is_single (names_of t) && is_childless t)

-- `y = v`
abbrev pub is_plain : Tree → Bool
is_plain d = is_declarator d && is_plain_name (part d 0)

abbrev pub passes_here : Bool → ℕ → Tree → Bool
passes_here false k t = spares k t
passes_here true k t = lets_here k t

abbrev pub passes_there : Bool → Bool → ℕ → Tree → Bool
passes_there false is_lexical k d = spares k d
passes_there true is_lexical k d = lets_at_most is_lexical k d

-- ---- a list of declarators behind some statements

-- n has the place of each of the first declarators too, by the symbols that it doesn't pass
abbrev pub Placed : Bool → Bool → Trees → ℕ → Places → Places → Type 0
Placed by_let is_lexical ds i m n = (k w : ℕ) → reaches n k w ≡ (reaches m k w || not (all_of (passes_there by_let is_lexical k) (first_children w (first_children i ds))))

-- up to so many declarators the places tell of each symbol whether a statement or a declarator
-- doesn't pass
abbrev pub Tells : Bool → Bool → Places → Trees → Trees → ℕ → Type 0
Tells by_let is_lexical m before ds n =
    (k w : ℕ) → w ≤ n → reaches m k w ≡ not (all_of (passes_here by_let k) before && all_of (passes_there by_let is_lexical k) (first_children w ds))

-- a symbol without a place is declared in none of these
abbrev pub Nowhere : Places → Trees → Type 0
Nowhere m ts = (k : ℕ) → reaches m k 0 ≡ false → any_bind k ts ≡ false

-- of the statement at the index, whose declarators these are, the first places tell up to so many
-- of them
pub record ToldFirst (first : FirstPlaces) (ts : Trees) (i : ℕ) (ds : Trees) (n : ℕ) : Type 0 where
  pub bound : Tells false (is_free_at ts i) first.bound (first_children i ts) ds n
  pub hidden : Tells true (is_free_at ts i) first.hidden (first_children i ts) ds n

-- so they do where there are some, and a symbol without a place is declared in no statement
pub record Told (lets : LetPlaces) (ts : Trees) (i : ℕ) (ds : Trees) (n : ℕ) : Type 0 where
  pub first : IfSome lets.first (λ f. ToldFirst f ts i ds n)
  pub nowhere : Nowhere lets.all ts

-- where there are tables, of a list of statements
abbrev pub ToldAt : Option LetPlaces → Tree → ℕ → ℕ → Type 0
ToldAt lets l i n = IfSome lets (λ m. Told m (children l) i (children (list_at (children l) i)) n)

-- of each of the statements
abbrev pub ToldOfAll : Option LetPlaces → Trees → Type 0
ToldOfAll lets ts = IfSome lets (λ m. (i : ℕ) (ds : Trees) (n : ℕ) → Told m ts i ds n)

-- what none of some statements declares
abbrev pub ToldNowhere : Option LetPlaces → Trees → Type 0
ToldNowhere lets ts = IfSome lets (λ m. Nowhere m.all ts)
