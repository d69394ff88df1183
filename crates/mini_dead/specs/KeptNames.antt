-- What a program that loses dead items keeps of its names: each name that is left in
-- `function g() { function h() {} return g; }` without h is resolved as before.
use Rattle.std.specs.Prelude.{◌≡◌, ℕ, Contains}
use Rattle.mini_model.specs.declared.name.Name.{Name}
use Rattle.mini_model.specs.Tree.{Tree, children}
use Rattle.mini_kept.specs.Declaring.{declared}
use Rattle.mini_kept.specs.Kept.{over}
use Rattle.mini_kept.specs.Lifted.{ProgramKeeps}
use Rattle.mini_dead.specs.Drops.{DropsAgain}

pub record NamesStay (t u : Tree) : Type 0 where
  -- It is a program of ESTree still, each name has the symbol that the scopes around it give, no
  -- symbol is declared twice, no number stands in it more often, and it has no early error
  pub keeps : ProgramKeeps t u
  -- each name that it declares was declared
  pub declares : (x : Name) → Contains (declared u) x → Contains (declared t) x
  -- its root stays
  pub root : u ≡ over t (children u)

abbrev pub DropsKeepNames : Type 0
DropsKeepNames = (t u : Tree) (n : ℕ) → DropsAgain t u n → NamesStay t u
