-- A list from whose end on, up to a place, items have gone.
use Rattle.std.specs.Prelude.{ℕ, zero, suc, ◌≡◌, Bool}
use Rattle.mini_model.specs.Tree.{Tree, Trees, child_or_absent}
use Rattle.mini_node.specs.Children.{with_child, without}
use Rattle.mini_dead.specs.Pruned.{Spot, Role, spot_below, later, later_all}
use Rattle.mini_dead.specs.Drops.{gone_count, all_gone_count}
use Rattle.mini_dead.specs.Marked.{marked, all_marked}
use Rattle.mini_drop.specs.Asked.{items_of}

module _ (S : ℕ → Bool) where
  -- a tree less the items of a set, and how many it loses
  pub record Lost (p : Spot) (t u : Tree) (n : ℕ) : Type 0 where
    pub left : u ≡ later (marked S p t)
    pub number : n ≡ gone_count (marked S p t)

  pub record AllLost (r : Role) (ts us : Trees) (n : ℕ) : Type 0 where
    pub left : us ≡ later_all (all_marked S r 0 ts)
    pub number : n ≡ all_gone_count (all_marked S r 0 ts)

  -- a child, which stands at a place, goes, being so many items, or loses those in it
  abbrev pub edited : Spot → ℕ → Tree → Trees → ℕ → Trees
  edited p zero t ts i = with_child ts i (later (marked S p t))
  edited p (suc n) t ts i = without ts i

  abbrev pub lost_there : Spot → ℕ → Tree → ℕ
  lost_there p zero t = gone_count (marked S p t)
  lost_there p (suc n) t = suc n

  pub record LostAt (r : Role) (i : ℕ) (ts us : Trees) (n : ℕ) : Type 0 where
    pub left : us ≡ edited (spot_below r i) (items_of S r (child_or_absent ts i)) (child_or_absent ts i) ts i
    pub number : n ≡ lost_there (spot_below r i) (items_of S r (child_or_absent ts i)) (child_or_absent ts i)
