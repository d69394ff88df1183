-- The rewrites of conditionals, logical expressions and assignments as one, where each is lighter.
use Rattle.std.specs.Prelude.{◌≡◌, ◌<◌, ◌^◌, ℕ, nat_le, Option, Some, None, if◌then◌else◌}
use Rattle.mini_model.specs.declared.place.Position.{Position}
use Rattle.mini_model.specs.declared.seat.Seat.{Seat}
use Rattle.mini_model.specs.declared.place.Position.TheVariants.{Expr}
use Rattle.mini_model.specs.declared.shape.Shape.{Shape}
use Rattle.mini_model.specs.declared.shape.Shape.TheVariants as shape
use Rattle.mini_model.specs.Tree.{Tree, shape_of}
use Rattle.mini_model.specs.Weight.{weight}
use Rattle.mini_rows.specs.Editions.{ChoicesIn}
use Rattle.mini_tree.specs.declared.options.CompressOptions.{CompressOptions}
use Rattle.mini_choices.specs.SubstituteRotateLogicalExpression as rotate
use Rattle.mini_choices.specs.MinimizeLogicalExpression as decide
use Rattle.mini_choices.specs.MinimizeLogicalSequence as decide_last
use Rattle.mini_choices.specs.MinimizeNullishComparison as nullish
use Rattle.mini_choices.specs.MinimizeObjectTest as object_test
use Rattle.mini_choices.specs.MinimizeNormalAssignmentToCombinedAssignment as combine
use Rattle.mini_choices.specs.MinimizeConditionalBranches as branches
use Rattle.mini_choices.specs.MinimizeHeldBranches as held
use Rattle.mini_choices.specs.EvaluateBothSides as both
use Rattle.mini_choices.specs.MinimizeFirstPart as behind
use Rattle.mini_choices.specs.InjectOptionalChaining as chains
use Rattle.mini_choices.specs.FoldChainExpr as folded

-- the first of two that is there
abbrev pub first_of : Option Tree → Option Tree → Option Tree
first_of (Some a) b = Some a
first_of None b = b

-- what is written where the edition e has the form of it, which came with another edition
abbrev pub since : ℕ → ℕ → Option Tree → Option Tree
since year e o = if nat_le year e then o else None

-- the first where that is so, or the other
abbrev pub either_since : ℕ → ℕ → Option Tree → Option Tree → Option Tree
either_since year e o other = if nat_le year e then o else other

-- 38: `x || (x = b)` becomes `x ||= b`, where the edition has that
abbrev pub decided_in : ℕ → Tree → Option Tree
decided_in e t = since 2021 e (decide.written t)

abbrev pub decided_last_in : ℕ → Seat → Tree → Option Tree
decided_last_in e s t = since 2021 e (decide_last.written s t)

-- 46: `x == null ? void 0 : x.m` becomes `x?.m`, and `x == null ? b : x` becomes `x ?? b`, where it
-- has that
abbrev pub chains_in : ℕ → Seat → Tree → Option Tree
chains_in e s t = since 2020 e (chains.written s t)

abbrev pub branches_in : ℕ → Seat → Tree → Option Tree
branches_in e s t = either_since 2020 e (branches.written s t) (branches.consequent_written s t)

-- what is written for a logical expression wherever it stands
abbrev pub operands_written : ℕ → Tree → Option Tree
operands_written e t = first_of (rotate.written t) (first_of (decided_in e t) (first_of (nullish.written t) (object_test.written t)))

abbrev pub written_by : ℕ → Shape → Seat → Tree → Option Tree
written_by e (shape.LogicalExpression o) s t = first_of (both.written s t) (first_of (decided_last_in e s t) (operands_written e t))
written_by e (shape.AssignmentExpression o) s t = combine.written t
written_by e shape.ConditionalExpression s t = first_of (chains_in e s t) (first_of (held.written s t) (branches_in e s t))
written_by e shape.ChainExpression s t = folded.written s t
written_by e shape.SequenceExpression s t = behind.written s t
written_by e _ s t = None

-- what is written for an expression in its seat, where a row reads it and the edition e has its
-- form
abbrev pub written : ℕ → Seat → Tree → Option Tree
written e s t = written_by e (shape_of t) s t

-- what the rule makes
abbrev pub Gives : CompressOptions → Position → Tree → Tree → Type 0
Gives o = ChoicesIn o.edition

-- no row makes a lighter expression of it, if its weight fits 64 bits
abbrev pub RestsIn : ℕ → Position → Tree → Type 0
RestsIn e p n = weight p n < 2 ^ 64 → (w : Tree) → ChoicesIn e p n w → ⊥

abbrev pub Rests : CompressOptions → Position → Tree → Type 0
Rests o = RestsIn o.edition

-- what is written is what a row says, and lighter
abbrev pub WrittenIsRow : Type 0
WrittenIsRow = (e : ℕ) (s : Seat) (n w : Tree) → written e s n ≡ Some w → ChoicesIn e (Expr s) n w

-- and where nothing is written the rule rests
abbrev pub UnwrittenRests : Type 0
UnwrittenRests = (e : ℕ) (s : Seat) (n : Tree) → written e s n ≡ None → RestsIn e (Expr s) n
