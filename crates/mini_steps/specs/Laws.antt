-- What lists of steps come to, and what they keep.
use Rattle.std.specs.Prelude.{ℕ, ◌≡◌, ◌⊎◌, Bool, false, List, Some, None}
use Rattle.mini_model.specs.declared.place.Position.{Position}
use Rattle.mini_model.specs.declared.place.Position.TheVariants.{Elsewhere}
use Rattle.mini_model.specs.Paths.{Path, node_at, replace_at}
use Rattle.mini_model.specs.Rewriting.{Reaches}
use Rattle.mini_model.specs.Tree.{Tree}
use Rattle.mini_accept.specs.WellShaped.{IsWellShaped}
use Rattle.mini_laws.specs.Value.{VariableSet}
use Rattle.mini_kept.specs.Loosely.{ProgramIsKeptLoosely}
use Rattle.mini_rows.specs.Redex.{Rewrites}
use Rattle.mini_rows.specs.Switches.{Switches, let_go, of_every_edition}
use Rattle.mini_steps.specs.declared.names.Step.{Step}
use Rattle.mini_steps.specs.Called.{Relation, Called}
use Rattle.mini_steps.specs.Rows.{CallRows}
use Rattle.mini_steps.specs.Steps.{AtPath, Followed}

-- one call at the node that a path of ESTree leads to, and what it made stands there instead
pub record CalledAt (R : Relation) (path : Path) (t u : Tree) (b : Bool) : Type 0 where
  pub node : Tree
  pub made : Tree
  pub place : Position
  pub there : node_at path t ≡ Some node
  pub whole : replace_at path made t ≡ Some u
  pub called : Called R place node made b

-- so it is of a step, where its path leads to a node; else nothing changes
abbrev pub StepsTold : Relation → Type 0
StepsTold R = (path : Path) (p : Position) (t u : Tree) (b : Bool) → AtPath R path p t u b → CalledAt R path t u b ⊎ ((node_at path t ≡ None) × ((u ≡ t) × (b ≡ false)))

-- each call makes what rows say, whatever edition of ECMA-262 is asked for
abbrev pub StepsAreRewrites : Type 0
StepsAreRewrites = (o : Switches) (W : VariableSet) (steps : List Step) (t u : Tree) (n : ℕ) → Followed (CallRows o W) steps t u n → Reaches (Rewrites (of_every_edition o) W) Elsewhere t u

-- and so any list of steps keeps all that a program has to keep: it stays well shaped and resolved,
-- each of its bodies is Same as the one with its number before the first step, where nobody else
-- sees a variable that it doesn't declare, and frames and names are kept
abbrev pub StepsKeep : Type 0
StepsKeep = (o : Switches) (W : VariableSet) (steps : List Step) (t u : Tree) (n : ℕ) → Followed (CallRows o W) steps t u n → IsWellShaped t → ProgramIsKeptLoosely (let_go o) W t u
