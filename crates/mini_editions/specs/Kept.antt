-- Rows write no form newer than the edition that is asked for, but one that stood there.
use Rattle.std.specs.Prelude.{◌≡◌, ℕ, false}
use Rattle.mini_model.specs.declared.place.Position.{Position}
use Rattle.mini_model.specs.declared.place.Position.TheVariants.{Elsewhere}
use Rattle.mini_model.specs.Rewriting.{Reaches}
use Rattle.mini_model.specs.Tree.{Tree, is_absent}
use Rattle.mini_laws.specs.Value.{VariableSet}
use Rattle.mini_kept.specs.Without.{BodySets}
use Rattle.mini_less.specs.Steady.{SteadyRewrites}
use Rattle.mini_rows.specs.Forms.{IsWithinEdition}
use Rattle.mini_rows.specs.Redex.{Rewrites}
use Rattle.mini_rows.specs.Switches.{Switches, Liberties}

-- it is there, where the parameter of a `catch` may stand: without it that would be a newer form
abbrev pub IsThere : Position → Tree → Type 0
IsThere Elsewhere w = is_absent w ≡ false
IsThere p w = Unit {0}

-- what is written in the place of a node holds no form newer than this edition that the node lacks
pub record Stays (e : ℕ) (p : Position) (n w : Tree) : Type 0 where
  pub within : IsWithinEdition e n w
  pub there : IsThere p w

-- so of each instance of a relation
abbrev pub StaysWithin : ℕ → (Position → Tree → Tree → Type 0) → Type 0
StaysWithin e R = (p : Position) (n w : Tree) → R p n w → Stays e p n w

-- so does the whole after any number of its steps
abbrev pub StepsStayWithin : (Position → Tree → Tree → Type 0) → Type 0
StepsStayWithin R = (e : ℕ) → StaysWithin e R → (p : Position) (t u : Tree) → Reaches R p t u → IsWithinEdition e t u

-- each row but those that rest on what is known of bodies
abbrev pub RewritesStayWithin : Type 0
RewritesStayWithin = (o : Switches) (W : VariableSet) → StaysWithin o.edition (Rewrites o W)

-- and each of those that do
abbrev pub SteadyRewritesStayWithin : Type 0
SteadyRewritesStayWithin = (S : BodySets) (W : Liberties) → StaysWithin W.switches.edition (SteadyRewrites S W)
