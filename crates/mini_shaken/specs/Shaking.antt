-- What losing dead items and passes of rewrites, in turn, come to.
use Rattle.std.specs.Prelude.{◌≡◌, ℕ, ◌+◌, ◌<◌, ◌≤◌, max, Bool, true, false, ◌∷◌, None}
use Rattle.serde_json.specs.View.{view}
use Rattle.mini_model.specs.declared.place.Position.TheVariants.{Elsewhere}
use Rattle.mini_model.specs.Tree.{Tree}
use Rattle.mini_model.specs.Rewriting.{Reaches, Everywhere}
use Rattle.mini_model.specs.Weight.{program_weight}
use Rattle.mini_laws.specs.Resolved.{resolved_program}
use Rattle.mini_laws.specs.Symbols.{declared_symbols}
use Rattle.mini_kept.specs.Carried.{numbers, symbol_numbers}
use Rattle.mini_scope.specs.Pointers.{early_fault}
use Rattle.mini_writer.specs.Written.{program_data}
use Rattle.mini_dead.specs.Dead.{dead_count}
use Rattle.mini_dead.specs.Drops.{DropsAgain}
use Rattle.mini_tree.specs.declared.options.CompressOptions.{CompressOptions}
use Rattle.mini_peephole.specs.Rules.{AllGives, AllRests}
use Rattle.mini_peephole.specs.declared.minify.Minified.{Minified}
use Rattle.mini_shaken.specs.Chain.{Chain}

-- some dead items go, or none
abbrev pub LosesDead : Tree → Tree → Type 0
LosesDead t u = (n : ℕ) × DropsAgain t u n

-- one pass of rewrites, over the program as it begins
pub record IsPass (o : CompressOptions) (t u : Tree) : Type 0 where
  pub steps : Reaches (AllGives o t) Elsewhere t u
  pub weight : program_weight u ≤ program_weight t

-- nothing is left to do in a program
abbrev pub IsAtRest : CompressOptions → Tree → Type 0
IsAtRest o u = Everywhere (AllRests o u) Elsewhere u

-- one turn: a pass that changes something, or the loss of what is dead where it changed nothing.
-- The answer says whether anything did
abbrev pub Turns : CompressOptions → Tree → Tree → Bool → Type 0
Turns o t u true = Chain LosesDead (IsPass o) 1 t u × (program_weight u < program_weight t)
Turns o t u false = (u ≡ t) × IsAtRest o u × (dead_count u ≡ 0)

-- turns of at most so many passes: what is dead goes, and each pass but a last one that finds
-- nothing, with what goes after it, makes the program lighter
pub record Shakes (o : CompressOptions) (t u : Tree) (bound passes : ℕ) (settled : Bool) : Type 0 where
  pub links : Chain LosesDead (IsPass o) passes t u
  pub some_pass : 1 ≤ passes
  pub within : passes ≤ max bound 1
  pub lighter : program_weight u + passes ≤ program_weight t + 1
  pub none_dead : dead_count u ≡ 0
  pub ended : settled ≡ true → IsAtRest o u
  pub stopped : settled ≡ false → (passes ≡ max bound 1) × (program_weight u + passes ≤ program_weight t)

-- the answer has the text of a tree, the numbers of its nodes, the program's first, and those of
-- the symbols that its scopes declare
pub record TellsTree (u : Tree) (m : Minified) : Type 0 where
  pub written : view m.program ≡ program_data u
  pub kept : m.kept ≡ 0 ∷ numbers u
  pub symbols : m.symbols ≡ symbol_numbers (declared_symbols u)

-- the tree has no early error, and this is told of what it comes to
pub record IsShakenAnswer (input : Tree) (o : CompressOptions) (m : Minified) : Type 0 where
  pub free : early_fault input ≡ None
  pub output : Tree
  pub shakes : Shakes o (resolved_program input) output o.passes m.passes m.settled
  pub tells : TellsTree output m
