-- What is left of some children once the first was taken.
use Rattle.std.proofs.Common.{◌≡◌, ◌+◌, ◌<◌, arith, ℕ, suc, refl}
use Rattle.mini_model.specs.Tree.{Trees, none, ◌▸◌, count, first_or_absent, child_or_absent}
use Rattle.mini_node.specs.Children.{without}

pub first_is : (ts : Trees) → first_or_absent ts ≡ child_or_absent ts 0
first_is none = refl
first_is (t ▸ ts) = refl

pub next_is : (ts : Trees) (i : ℕ) → child_or_absent (without ts 0) i ≡ child_or_absent ts (suc i)
next_is none i = refl
next_is (t ▸ ts) i = refl

pub none_left : (ts : Trees) → count ts ≡ 0 → ts ≡ without ts 0
none_left none e = refl
none_left (t ▸ ts) e = absurd (cc e)

pub count_rest : (ts : Trees) → 0 < count ts → count (without ts 0) + 1 ≡ count ts
count_rest none h = absurd (omega (arith, h))
count_rest (t ▸ ts) h = omega arith
