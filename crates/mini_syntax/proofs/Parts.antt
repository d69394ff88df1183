-- The parts of a node, by place.
use Rattle.std.proofs.Common.{◌≡◌, ℕ, zero, suc, Some, None, refl}
use Rattle.mini_model.specs.Tree.{Tree, Trees, none, ◌▸◌, absent, child_or_absent}
use Rattle.mini_model.specs.Paths.{child_at}

-- the child at a place, where there is one, and where there is none
pub part_some : (ts : Trees) (i : ℕ) (t : Tree) → child_at ts i ≡ Some t → child_or_absent ts i ≡ t
part_some none i t e = absurd (cc e)
part_some (u ▸ ts) zero t e = cc e
part_some (u ▸ ts) (suc i) t e = part_some ts i t e

pub part_none : (ts : Trees) (i : ℕ) → child_at ts i ≡ None → child_or_absent ts i ≡ absent
part_none none i e = refl
part_none (u ▸ ts) zero e = absurd (cc e)
part_none (u ▸ ts) (suc i) e = part_none ts i e
