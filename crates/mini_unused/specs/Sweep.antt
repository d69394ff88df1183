-- Names that go from a list one after another, as many as there are.
use Rattle.std.specs.Prelude.{◌≡◌, ℕ, Bool, true, false, ◌&&◌, ◌||◌, if◌then◌else◌}
use Rattle.mini_model.specs.Tree.{Tree, count, children}
use Rattle.mini_laws.specs.ScopeList.{has_eval}
use Rattle.mini_node.specs.Children.{names_of, part}
use Rattle.mini_node.specs.Kinds.{is_listed}
use Rattle.mini_rows.specs.Switches.{Liberties}
use Rattle.mini_rows.specs.Unused.{may_move}
use Rattle.mini_unused.specs.declared.tallies.Tallies.{Tallies}
use Rattle.mini_unused.specs.Chains.{Chain}
use Rattle.mini_unused.specs.RemoveUnusedDeclaration.{declares_name, declares_list, may_lose, may_go}
use Rattle.mini_unused.specs.SubstituteSingleUse.{Gone}
use Rattle.mini_unused.specs.Tallies.{Tallied}

-- what is asked of a declarator beside what mentions its name
abbrev pub may_go_at : Bool → Liberties → Tree → ℕ → Bool
may_go_at free W l j = declares_name (part l j) && (may_lose free W (names_of (part (part l j) 0)) && may_go (part (part l j) 1) l)

abbrev pub may_move_at : Bool → Liberties → Tree → ℕ → Bool
may_move_at free W l j = declares_name (part l j) && (may_lose free W (names_of (part (part l j) 0)) && may_move W.switches (part (part l j) 1))

-- how many declarators a declaration has; nothing else has any
abbrev pub declarators_of : Tree → ℕ
declarators_of t = if declares_list t then count (children (part t 0)) else 0

-- a list without a direct eval, and with none in what is outside of it, whose names the tables
-- count
pub record Calm (c : Tallies) (o l : Tree) : Type 0 where
  pub is_list : is_listed l ≡ true
  pub unseen : (has_eval o || has_eval l) ≡ false
  pub tallied : Tallied c o l

-- it has lost some names
pub record Swept (W : Liberties) (c : Tallies) (o l m : Tree) : Type 0 where
  pub gone : Chain (Gone W o) l m
  pub calm : Calm c o m
