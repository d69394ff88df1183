-- A relation of rewriting that may give a program other statements by what is known of its body,
-- and so a static block, or an inner expression another value. No node that is evaluated asks
-- these, so that it has to keep no meaning at a place, but what a program has to keep. So may it
-- give a function another body by what holds of the program alone, as that each name has the symbol
-- that the scopes around give.
use Rattle.std.specs.Prelude.{ℕ, ◌≡◌, ◌⊎◌, Bool, true, false}
use Rattle.mini_model.specs.declared.place.Position.{Position}
use Rattle.mini_model.specs.declared.place.Position.TheVariants.{Elsewhere}
use Rattle.mini_model.specs.declared.shape.Shape.{Shape}
use Rattle.mini_model.specs.declared.shape.Shape.TheVariants as shape
use Rattle.mini_model.specs.Tree.{Tree, shape_of}
use Rattle.mini_model.specs.Rewriting.{Step, Reaches}
use Rattle.mini_accept.specs.WellShaped.{IsWellShaped}
use Rattle.mini_laws.specs.Value.{Variable, VariableSet}
use Rattle.mini_kept.specs.Loosely.{LawfulUnder, ProgramIsKeptUnder}
use Rattle.mini_kept.specs.Without.{BodySets, Within}

abbrev pub is_program : Shape → Bool
is_program (shape.Program is_module directives) = true
is_program h = false

-- what is itself a body that is run, or has one
abbrev pub is_body : Shape → Bool
is_body (shape.Program is_module directives) = true
is_body (shape.Function is_declaration is_generator directives) = true
is_body (shape.ArrowFunctionExpression directives) = true
is_body shape.StaticBlock = true
is_body shape.InnerExpression = true
is_body h = false

-- what it makes of other nodes, and of those
abbrev pub Inner : (Position → Tree → Tree → Type 0) → Position → Tree → Tree → Type 0
Inner R p n w = R p n w × (is_body (shape_of n) ≡ false)

abbrev pub Outer : (Position → Tree → Tree → Type 0) → Position → Tree → Tree → Type 0
Outer R p n w = R p n w × (is_body (shape_of n) ≡ true)

-- Of other nodes it is lawful; and a program is kept in which it replaces one of those
pub record LawfulRooted (K : Shape → Bool) (W : VariableSet) (S : BodySets) (R : Position → Tree → Tree → Type 0) : Type 0 where
  pub inner : LawfulUnder K W S (Inner R)
  pub whole : (t u : Tree) → Step (Outer R) Elsewhere t u → IsWellShaped t → ProgramIsKeptUnder K W S t u

-- then so is one after any number of steps
abbrev pub RootedKeeps : (Position → Tree → Tree → Type 0) → Type 0
RootedKeeps R = (K : Shape → Bool) (W : VariableSet) (S : BodySets) → LawfulRooted K W S R → (t u : Tree) → Reaches R Elsewhere t u → IsWellShaped t → ProgramIsKeptUnder K W S t u

-- what is lawful at each node is so
abbrev pub SteadyIsRooted : (Position → Tree → Tree → Type 0) → Type 0
SteadyIsRooted R = (K : Shape → Bool) (W : VariableSet) (S : BodySets) → LawfulUnder K W S R → LawfulRooted K W S R

-- what is so where something can be written and is known is so where more is
abbrev pub RootedWider : (Position → Tree → Tree → Type 0) → Type 0
RootedWider R =
    (K : Shape → Bool) (V W : VariableSet) (Q S : BodySets) → ((x : Variable) → V x ≡ true → W x ≡ true) → ((b : ℕ) → Within (Q b) (S b)) → LawfulRooted K V Q R → LawfulRooted K W S R

-- two such relations make one
abbrev pub RootedJoin : (Position → Tree → Tree → Type 0) → (Position → Tree → Tree → Type 0) → Type 0
RootedJoin R Q = (K : Shape → Bool) (W : VariableSet) (S : BodySets) → LawfulRooted K W S R → LawfulRooted K W S Q → LawfulRooted K W S (λ p t u. R p t u ⊎ Q p t u)

-- and so is what makes no more than one
abbrev pub RootedNarrowed : (Position → Tree → Tree → Type 0) → (Position → Tree → Tree → Type 0) → Type 0
RootedNarrowed R Q = (K : Shape → Bool) (W : VariableSet) (S : BodySets) → ((p : Position) (t u : Tree) → R p t u → Q p t u) → LawfulRooted K W S Q → LawfulRooted K W S R
