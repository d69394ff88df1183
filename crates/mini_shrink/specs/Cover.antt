-- Every binder is spelled in a scope of its own body: the `x` of `function f(p) { { var x; } }` in
-- the scope of f, and the `y` of `function f(p) { { let y; } }` in the scope of the block. What a
-- pattern binds (`let { a } = o`) the pattern spells.
use Rattle.std.specs.Prelude.{ℕ, zero, suc, ◌≡◌, refl, Bool, true, false, ◌&&◌, ◌||◌, List, if◌then◌else◌}
use Rattle.std.specs.List.{list_any, list_all}
use Rattle.mini_model.specs.declared.kind.VariableDeclarationKind.TheVariants.{Let}
use Rattle.mini_model.specs.declared.shape.Shape.{Shape}
use Rattle.mini_model.specs.declared.shape.Shape.TheVariants as shape
use Rattle.mini_model.specs.Tree.{Tree, Trees, node, none, ◌▸◌}
use Rattle.mini_accept.specs.WellShaped.{is_same_flag, IsWellShaped}
use Rattle.mini_laws.specs.declared.names.Use.{Use}
use Rattle.mini_laws.specs.declared.names.Use.TheVariants.{Read, Hoisted, Headed}
use Rattle.mini_laws.specs.declared.names.Binding.{Binding}
use Rattle.mini_laws.specs.declared.names.Numbering.{Numbering}
use Rattle.mini_laws.specs.declared.names.Numbering.TheVariants.{Unnumbered}
use Rattle.mini_laws.specs.DeclaredNames.{names_of, body_names, with_names, has_inner, is_spelled}
use Rattle.mini_laws.specs.Foreign.{own_pattern_names}
use Rattle.mini_laws.specs.Mentions.{numbering_of}
use Rattle.mini_laws.specs.Programs.{script, binding, reference, block, declares, var_of, let_of, function, object_pattern, f, p, x, e}
use Rattle.mini_laws.specs.Resolved.{is_for}
use Rattle.mini_laws.specs.Scopes.{use_of, scopes_by, opened}
use Rattle.mini_kept.proofs.Unbound.{bound_at}

-- ---- what the scopes of a body spell

-- whether a name is looked for as a `var`'s, in the scopes of functions and programs alone
abbrev pub is_hoisting : Use → Bool
is_hoisting Hoisted = true
is_hoisting Headed = true
is_hoisting u = false

abbrev pub use_if : Bool → Use
use_if true = Hoisted
use_if false = Read

-- which spellings the scopes of its body have around a place: for a `var` (true), and for any other
-- name
abbrev pub Spellings : Type 0
Spellings = Bool → List ℕ → Bool

abbrev pub no_spellings : Spellings
no_spellings v s = false

abbrev pub with_scope : Spellings → List Binding → Spellings
with_scope spells bs v s = spells v s || list_any (is_for (use_if v) s) bs

-- a node with a number begins a body with its first child, and a declaration with the second: its
-- name stands in the body around
abbrev pub is_first_inside : Shape → ℕ → Bool
is_first_inside (shape.Function true g ds) (suc zero) = true
is_first_inside (shape.Function true g ds) i = false
is_first_inside (shape.Class true) (suc zero) = true
is_first_inside (shape.Class true) i = false
is_first_inside h zero = true
is_first_inside h (suc i) = false

abbrev pub is_numbered_by : Numbering → Bool
is_numbered_by Unnumbered = false
is_numbered_by k = true

abbrev pub begins_body : Shape → ℕ → ℕ → Bool
begins_body h n i = is_numbered_by (numbering_of h n) && is_first_inside h i

-- what is spelled where a body begins: nothing, but in a pattern the names that the pattern binds
abbrev pub spelled_first : Use → Shape → ℕ → Trees → Spellings
spelled_first u h n ts v s = is_same_flag v (is_hoisting u) && is_spelled s (own_pattern_names h n ts)

-- each binder in a tree is spelled in a scope of its body: the tree opens the scope, or it stands
-- around the tree
unfoldable mutual
  pub is_covered : Use → Spellings → Tree → Bool
  is_covered u spells (node h xs n ts) = list_all (λ x. spells (is_hoisting u) x.spelling) (bound_at h xs) && are_covered (opened u h ts) (use_of h u) (begins_body h n) (spelled_first u h n ts) 0 spells ts

  pub are_covered : (ℕ → List Binding) → (ℕ → Use) → (ℕ → Bool) → Spellings → ℕ → Spellings → Trees → Bool
  are_covered scope uses begins first i spells none = true
  are_covered scope uses begins first i spells (t ▸ ts) =
      is_covered (uses i) (with_scope (if begins i then first else spells) (scope i)) t && are_covered scope uses begins first (suc i) (with_scope (if begins i then first else spells) (scope i)) ts

-- Each program is covered
abbrev pub ProgramsAreCovered : Type 0
ProgramsAreCovered = (t : Tree) → IsWellShaped t → is_covered Read no_spellings t ≡ true

-- ---- examples

-- `function f(p) { { var x; } { let x; } let { e } = p; }`
pub a_function_is_covered : is_covered Read no_spellings (script (function 1 (binding f) (binding p ▸ none) (block (var_of x ▸ none) ▸ block (let_of x ▸ none) ▸ declares Let (object_pattern 2 e (binding e)) (reference p) ▸ none) ▸ none)) ≡ true
unfolding is_covered scopes_by body_names names_of with_names has_inner
a_function_is_covered = refl

-- the block `{ var x; }` alone is covered where x is spelled for a `var`, and nowhere else
pub a_block_owes_its_var : is_covered Read no_spellings (block (var_of x ▸ none)) ≡ false
unfolding is_covered scopes_by names_of with_names
a_block_owes_its_var = refl
