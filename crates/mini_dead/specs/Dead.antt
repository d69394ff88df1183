-- Dead items of a program: functions and declarators of names that nothing refers to, and functions
-- that are statements by themselves, in lists of statements.
use Rattle.std.specs.Prelude.{ℕ, suc, ◌+◌, nat_eq, Bool, true, false, ◌&&◌, ◌||◌, not, List, [], ◌∷◌, Option, Some, None, is_some, if◌then◌else◌}
use Rattle.std.specs.List.{list_any}
use Rattle.mini_model.specs.declared.name.Name.{Name}
use Rattle.mini_model.specs.declared.name.SymbolId.{SymbolId}
use Rattle.mini_model.specs.declared.shape.Shape.{Shape}
use Rattle.mini_model.specs.declared.shape.Shape.TheVariants as shape
use Rattle.mini_model.specs.Tree.{Tree, Trees, node, none, ◌▸◌, is_absent}
use Rattle.mini_laws.specs.References.{has_symbol, read_count, write_count}
use Rattle.mini_laws.specs.ScopeList.{by_symbol}
use Rattle.mini_laws.specs.Shared.{is_shared_always}
use Rattle.mini_terms.specs.Effects.{ef}
use Rattle.mini_dead.specs.Pruned.{Spot, Elsewhere, Role, Plain, StatementList, DeclaratorList, role, spot_below}

-- ---- what an item looks like

-- a function expression or an arrow
abbrev pub is_function_value : Tree → Bool
is_function_value (node (shape.Function false is_generator directives) xs n ts) = true
is_function_value (node (shape.ArrowFunctionExpression directives) xs n ts) = true
is_function_value t = false

-- an initializer without effects, also where reading `this` is an event, as in the constructor of a
-- derived class
abbrev pub is_without_effect : Tree → Bool
is_without_effect t = is_absent t || ef true t

abbrev pub is_dispensable : Tree → Bool
is_dispensable t = is_without_effect t || is_function_value t

abbrev pub name_if : Bool → Name → Option Name
name_if true x = Some x
name_if false x = None

-- The name that an item declares: `function f() {}` as a statement of a list, and a declarator of a
-- plain name, such as `x`, `x = 1` or `x = () => 1`, of a declaration in such a list. A declarator
-- with a name of its own is no item: `try {} catch (e) { var e = 1; }` writes the parameter
abbrev pub item_name : Role → Tree → Option Name
item_name StatementList (node (shape.Function true is_generator directives) xs n (node shape.BindingIdentifier (x ∷ []) m none ▸ ts)) = Some x
item_name (DeclaratorList lexical) (node shape.VariableDeclarator [] n (node shape.BindingIdentifier (x ∷ []) m none ▸ init ▸ none)) = name_if (is_dispensable init) x
item_name r t = None

-- `() => 1;` and `(function () {});` declare no name
abbrev pub is_lone : Role → Tree → Bool
is_lone StatementList (node shape.ExpressionStatement xs n (c ▸ none)) = is_function_value c
is_lone r t = false

-- ---- names

abbrev pub has_this_symbol : ℕ → Name → Bool
has_this_symbol s x = has_symbol s x.symbol

-- whether a node declares a symbol, or is a declarator whose own name has it: an identifier refers
abbrev pub declares : ℕ → Shape → List Name → Bool
declares s shape.Identifier xs = false
declares s h xs = list_any (has_this_symbol s) xs

-- Whether anything but an item declares a symbol: a parameter, a pattern, a class, an import, the
-- head of a loop, `export var x`, or a declarator that does something, as in `var f = g();`
unfoldable mutual
  pub declares_otherwise : ℕ → Spot → Tree → Bool
  declares_otherwise s p (node h xs n ts) = declares s h xs || any_declares_otherwise s (role h p) 0 ts

  pub any_declares_otherwise : ℕ → Role → ℕ → Trees → Bool
  any_declares_otherwise s r i none = false
  any_declares_otherwise s r i (c ▸ ts) = (if is_some (item_name r c) then declares_inside s c else declares_otherwise s (spot_below r i) c) || any_declares_otherwise s r (suc i) ts

  -- of an item, but for its name
  pub declares_inside : ℕ → Tree → Bool
  declares_inside s (node h xs n none) = declares s h xs
  declares_inside s (node h xs n (id ▸ ts)) = declares s h xs || any_declares_otherwise s Plain 1 ts

abbrev pub is_unreferenced : Tree → ℕ → Bool
is_unreferenced t s = nat_eq (read_count s t) 0 && nat_eq (write_count s t) 0

-- Nothing reads or writes the symbol, items alone declare it, and no other code sees it: it is no
-- top name of a script, neither imported nor exported, in no reach of a direct eval or of
-- `arguments`, and that of no `var` under a parameter of `catch` of its name
abbrev pub is_dead_symbol : Tree → ℕ → Bool
is_dead_symbol t s = is_unreferenced t s && (not (declares_otherwise s Elsewhere t) && not (is_shared_always t (by_symbol s)))

-- whether a set of symbols has that of a name
abbrev pub has_it : (ℕ → Bool) → Option SymbolId → Bool
has_it S (Some s) = S s.0
has_it S None = false

abbrev pub has_name : (ℕ → Bool) → Name → Bool
has_name S x = has_it S x.symbol

abbrev pub has_item_name : (ℕ → Bool) → Option Name → Bool
has_item_name S (Some x) = has_name S x
has_item_name S None = false

-- ---- items

-- whether a part of a program is a dead item
abbrev pub is_dead : Tree → Role → Tree → Bool
is_dead t r c = is_lone r c || has_item_name (is_dead_symbol t) (item_name r c)

-- how many dead items of a program stand in a part of it; those inside a dead item aren't counted
unfoldable mutual
  pub dead_items : Tree → Spot → Tree → ℕ
  dead_items t p (node h xs n ts) = all_dead_items t (role h p) 0 ts

  pub all_dead_items : Tree → Role → ℕ → Trees → ℕ
  all_dead_items t r i none = 0
  all_dead_items t r i (c ▸ ts) = (if is_dead t r c then 1 else dead_items t (spot_below r i) c) + all_dead_items t r (suc i) ts

abbrev pub dead_count : Tree → ℕ
dead_count t = dead_items t Elsewhere t
