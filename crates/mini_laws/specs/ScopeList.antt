-- The scopes of a program, in the order in which they are entered (ECMA-262, "Environment
-- Records"): what they declare, whether their code is strict, and whether a direct eval stands in
-- them.
use Rattle.std.specs.Prelude.{ℕ, zero, suc, Bool, false, ◌||◌, List, [], ◌∷◌, ◌++◌, map, codes, Some, if◌then◌else◌}
use Rattle.mini_model.specs.declared.name.Name.{Name}
use Rattle.mini_model.specs.declared.shape.Shape.{Shape}
use Rattle.mini_model.specs.declared.shape.Shape.TheVariants as shape
use Rattle.mini_model.specs.Tree.{Tree, Trees, node, none, ◌▸◌}
use Rattle.mini_model.specs.Weight.{same_text}
use Rattle.mini_laws.specs.declared.names.Use.{Use}
use Rattle.mini_laws.specs.declared.names.Use.TheVariants.{Read}
use Rattle.mini_laws.specs.declared.names.Binding.{Binding}
use Rattle.mini_laws.specs.Scopes.{use_of, opened}
use Rattle.mini_laws.specs.Mentions.{is_among}
use Rattle.mini_laws.specs.Strict.{is_strict_in}

-- a scope: its names, whether its code is strict, and whether a direct eval stands in it, nested
-- functions included
pub record Scope : Type 0 where
  pub names : List Name
  pub strict : Bool
  pub evals : Bool

-- a call of `eval` by its name, whatever that is then (ECMA-262, "Function Calls": a direct eval)
abbrev pub is_eval : List Name → Bool
is_eval [] = false
is_eval (x ∷ xs) = same_text x.spelling (codes "eval")

abbrev pub is_eval_callee : Tree → Bool
is_eval_callee (node shape.Identifier xs n ts) = is_eval xs
is_eval_callee t = false

abbrev pub calls_eval : Trees → Bool
calls_eval none = false
calls_eval (t ▸ ts) = is_eval_callee t

abbrev pub is_eval_call : Shape → Trees → Bool
is_eval_call (shape.CallExpression false) ts = calls_eval ts
is_eval_call h ts = false

-- whether a direct eval stands in a tree
unfoldable mutual
  pub has_eval : Tree → Bool
  has_eval (node h xs n ts) = is_eval_call h ts || any_has_eval ts

  pub any_has_eval : Trees → Bool
  any_has_eval none = false
  any_has_eval (t ▸ ts) = has_eval t || any_has_eval ts

-- how many scopes a node opens before its child at an index even where they declare no name: that
-- of a program, and those of a function's parameters and of its body; a static block is a function
-- without parameters
abbrev pub least_scopes : Shape → ℕ → ℕ
least_scopes (shape.Program is_module ds) zero = 1
least_scopes shape.StaticBlock zero = 2
least_scopes (shape.Function d g ds) (suc zero) = 1
least_scopes (shape.Function d g ds) (suc (suc zero)) = 1
least_scopes (shape.ArrowFunctionExpression ds) zero = 1
least_scopes (shape.ArrowFunctionExpression ds) (suc zero) = 1
least_scopes h i = 0

abbrev pub nameless : Scope → Scope
nameless s = record s { names = [] }

abbrev pub with_names_alone : List Name → Scope → List Scope
with_names_alone [] s = []
with_names_alone (x ∷ xs) s = s ∷ []

-- the scopes that are entered at once, of which the last declares the names
abbrev pub entered : ℕ → Scope → List Scope
entered zero s = with_names_alone s.names s
entered (suc zero) s = s ∷ []
entered (suc (suc n)) s = nameless s ∷ s ∷ []

abbrev pub names_in : List Binding → List Name
names_in bs = map (λ b. b.name) bs

unfoldable mutual
  pub scope_list : Use → Bool → Tree → List Scope
  scope_list u strict (node h xs n ts) = scope_list_from (opened u h ts) (use_of h u) (least_scopes h) (is_strict_in strict h) 0 ts

  pub scope_list_from : (ℕ → List Binding) → (ℕ → Use) → (ℕ → ℕ) → Bool → ℕ → Trees → List Scope
  scope_list_from scope uses least strict i none = []
  scope_list_from scope uses least strict i (t ▸ ts) =
      entered (least i) (record { names = names_in (scope i); strict = strict; evals = any_has_eval (t ▸ ts) })
      ++ (scope_list (uses i) strict t ++ scope_list_from scope uses least strict (suc i) ts)

-- the scopes of a program: the number of a scope is its place
abbrev pub scopes_of : Tree → List Scope
scopes_of t = scope_list Read false t

-- the scope that declares a symbol: the last of which it is a name, or the first of all. Symbols
-- are told apart by their numbers alone, so this is also the scope of a symbol in a program that
-- was rewritten, where symbols keep their numbers
abbrev pub by_symbol : ℕ → Name
by_symbol s = record { spelling = []; symbol = Some (record { 0 = s }) }

abbrev pub scope_from : ℕ → ℕ → List Scope → ℕ → ℕ
scope_from found k [] s = found
scope_from found k (r ∷ rs) s = scope_from (if is_among (by_symbol s) r.names then k else found) (suc k) rs s

abbrev pub scope_of_symbol : Tree → ℕ → ℕ
scope_of_symbol t s = scope_from 0 0 (scopes_of t) s

-- the names that a direct eval can see: those of each scope in which one stands
abbrev pub seen_in : List Scope → List Name
seen_in [] = []
seen_in (s ∷ ss) = if s.evals then s.names ++ seen_in ss else seen_in ss

abbrev pub seen_by_eval : Tree → List Name
seen_by_eval t = seen_in (scopes_of t)
