-- What is left of the parts of a sequence without those that have no effect: 21.
use Rattle.std.specs.Prelude.{ℕ, suc, ◌+◌, Bool, false, ◌&&◌, ◌||◌, nat_le, if◌then◌else◌}
use Rattle.mini_model.specs.Tree.{Tree, Trees, none, ◌▸◌, count}

-- one of them has none, as I tells, and is not the last
abbrev pub idle_before_last : (Tree → Bool) → Trees → Bool
idle_before_last I none = false
idle_before_last I (t ▸ none) = false
idle_before_last I (t ▸ (u ▸ us)) = I t || idle_before_last I (u ▸ us)

-- Those that stay where k parts stand before these: the last one, those that have an effect, and
-- one that has none where the last would be alone
abbrev pub left_after : (Tree → Bool) → ℕ → Trees → Trees
left_after I k none = none
left_after I k (t ▸ none) = t ▸ none
left_after I k (t ▸ (u ▸ us)) = if nat_le 2 (k + count (u ▸ us)) && I t then left_after I k (u ▸ us) else t ▸ left_after I (suc k) (u ▸ us)
