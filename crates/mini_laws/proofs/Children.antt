-- Lists of trees: two end to end, and one with another tree at an index.
use Rattle.std.proofs.Common.{◌≡◌, ℕ, zero, suc, ◌-◌, ◌<◌, ◌≤◌, Some, None, refl, ap, ◌∙◌, arith}
use Rattle.std.proofs.lemmas.Option.{none-some}
use Rattle.mini_model.specs.Tree.{Tree, Trees, none, ◌▸◌, count}
use Rattle.mini_model.specs.Paths.{append, child_at}

-- this tree in place of the one at an index
abbrev pub set_at : Trees → ℕ → Tree → Trees
set_at none i w = none
set_at (t ▸ ts) zero w = w ▸ ts
set_at (t ▸ ts) (suc i) w = t ▸ set_at ts i w

pub count_set_at : (ts : Trees) (i : ℕ) (w : Tree) → count (set_at ts i w) ≡ count ts
count_set_at none i w = refl
count_set_at (t ▸ ts) zero w = refl
count_set_at (t ▸ ts) (suc i) w = ap suc (count_set_at ts i w)

less : (i n : ℕ) → suc i < suc n → i < n
less i n l = omega (arith, l)

less_equal : (n i : ℕ) → suc n ≤ suc i → n ≤ i
less_equal n i l = omega (arith, l)

from_start : (i : ℕ) → i ≡ i - 0
from_start i = omega arith

one_less : (i n : ℕ) → i - n ≡ suc i - suc n
one_less i n = omega arith

less_than_none : {X : Type 0} (i : ℕ) → i < 0 → X
less_than_none i l = absurd (omega (arith, l))

pub set_at-append_first : (ts us : Trees) (i : ℕ) (w : Tree) → i < count ts → set_at (append ts us) i w ≡ append (set_at ts i w) us
set_at-append_first none us i w l = less_than_none i l
set_at-append_first (t ▸ ts) us zero w l = refl
set_at-append_first (t ▸ ts) us (suc i) w l = ap (λ vs. t ▸ vs) (set_at-append_first ts us i w (less i (count ts) l))

pub set_at-append_later : (ts us : Trees) (i : ℕ) (w : Tree) → count ts ≤ i → set_at (append ts us) i w ≡ append ts (set_at us (i - count ts) w)
set_at-append_later none us i w l = ap (λ j. set_at us j w) (from_start i)
set_at-append_later (t ▸ ts) us zero w l = less_than_none (count ts) l
set_at-append_later (t ▸ ts) us (suc i) w l = ap (λ vs. t ▸ vs) (set_at-append_later ts us i w (less_equal (count ts) i l) ∙ ap (λ j. append ts (set_at us j w)) (one_less i (count ts)))

pub child_at-append_first : (ts us : Trees) (i : ℕ) → i < count ts → child_at (append ts us) i ≡ child_at ts i
child_at-append_first none us i l = less_than_none i l
child_at-append_first (t ▸ ts) us zero l = refl
child_at-append_first (t ▸ ts) us (suc i) l = child_at-append_first ts us i (less i (count ts) l)

pub child_at-append_later : (ts us : Trees) (i : ℕ) → count ts ≤ i → child_at (append ts us) i ≡ child_at us (i - count ts)
child_at-append_later none us i l = ap (child_at us) (from_start i)
child_at-append_later (t ▸ ts) us zero l = less_than_none (count ts) l
child_at-append_later (t ▸ ts) us (suc i) l = child_at-append_later ts us i (less_equal (count ts) i l) ∙ ap (child_at us) (one_less i (count ts))

pub child_at-set_at : (ts : Trees) (i : ℕ) (c w : Tree) → child_at ts i ≡ Some c → child_at (set_at ts i w) i ≡ Some w
child_at-set_at none i c w e = absurd (none-some c e)
child_at-set_at (t ▸ ts) zero c w e = refl
child_at-set_at (t ▸ ts) (suc i) c w e = child_at-set_at ts i c w e

pub child_at-set_other : (ts : Trees) (i j : ℕ) (w : Tree) → (j ≡ i → ⊥) → child_at (set_at ts i w) j ≡ child_at ts j
child_at-set_other none i j w n = refl
child_at-set_other (t ▸ ts) zero zero w n = absurd (n refl)
child_at-set_other (t ▸ ts) zero (suc j) w n = refl
child_at-set_other (t ▸ ts) (suc i) zero w n = refl
child_at-set_other (t ▸ ts) (suc i) (suc j) w n = child_at-set_other ts i j w (λ e. n (ap suc e))

pub child_at_past : (ts : Trees) (i : ℕ) → count ts ≤ i → child_at ts i ≡ None
child_at_past none i l = refl
child_at_past (t ▸ ts) zero l = less_than_none (count ts) l
child_at_past (t ▸ ts) (suc i) l = child_at_past ts i (less_equal (count ts) i l)
