-- Rows of loops read a node that is read again.
use Rattle.mini_again.proofs.ListsAgain.{are_unscoped_again}
use Rattle.mini_again.proofs.ModelTreeAgain.{shape_of_again}
use Rattle.mini_again.specs.Again.{Renaming, again, all_again}
use Rattle.mini_model.specs.Tree.{Tree, Trees, node, none, ◌▸◌}
use Rattle.mini_rows.specs.Loops.{Leading, Leaving, Row84, Tested, alone, also, always, any_may_leap, before, first_is_there, goes_by, is_tested, is_there, leaves_by, led, may_leap, or_else, others_of, runs_on, test_of, unless, while_true, whole}
use Rattle.std.proofs.Common.{ap}
use Rattle.std.specs.Prelude.{refl, ◌≡◌}

abbrev pub again_leading : Renaming → Leading → Leading
again_leading ρ whole = whole
again_leading ρ (before a) = before (all_again ρ a)

abbrev pub again_leaving : Renaming → Leaving → Leaving
again_leaving ρ alone = alone
again_leaving ρ (or_else a) = or_else (again ρ a)
again_leaving ρ (unless a) = unless (again ρ a)

abbrev pub again_tested : Renaming → Tested → Tested
again_tested ρ always = always
again_tested ρ (while_true a) = while_true (again ρ a)

pub also_again : (ρ : Renaming) (always : Tested) (x : Tree) → also (again_tested ρ always) (again ρ x) ≡ again ρ (also always x)
also_again ρ always x = refl
also_again ρ (while_true t) x = refl

pub goes_by_again : (ρ : Renaming) (alone : Leaving) (x : Tree) → goes_by (again_leaving ρ alone) (again ρ x) ≡ again ρ (goes_by alone x)
goes_by_again ρ alone x = refl
goes_by_again ρ (or_else s) x = refl
goes_by_again ρ (unless s) x = refl

mutual
  pub first_is_there_again : (ρ : Renaming) (ts : Trees) → first_is_there (all_again ρ ts) ≡ first_is_there ts
  first_is_there_again ρ none = refl
  first_is_there_again ρ (t ▸ ts) = simp (is_there_again ρ t)

  pub is_there_again : (ρ : Renaming) (t : Tree) → is_there (again ρ t) ≡ is_there t
  is_there_again ρ (node h xs n ts) = simp (first_is_there_again ρ ts)

pub is_tested_again : (ρ : Renaming) (always : Tested) → is_tested (again_tested ρ always) ≡ is_tested always
is_tested_again ρ always = refl
is_tested_again ρ (while_true t) = simp (is_there_again ρ t)

pub leaves_by_again : (ρ : Renaming) (alone : Leaving) (x : Tree) → leaves_by (again_leaving ρ alone) (again ρ x) ≡ again ρ (leaves_by alone x)
leaves_by_again ρ alone x = refl
leaves_by_again ρ (or_else s) x = refl
leaves_by_again ρ (unless s) x = refl

pub led_again : (ρ : Renaming) (whole : Leading) (t : Tree) → led (again_leading ρ whole) (again ρ t) ≡ again ρ (led whole t)
led_again ρ whole t = refl
led_again ρ (before ts) t = refl

mutual
  pub any_may_leap_again : (ρ : Renaming) (ts : Trees) → any_may_leap (all_again ρ ts) ≡ any_may_leap ts
  any_may_leap_again ρ none = refl
  any_may_leap_again ρ (t ▸ ts) = simp (may_leap_again ρ t, any_may_leap_again ρ ts)

  pub may_leap_again : (ρ : Renaming) (t : Tree) → may_leap (again ρ t) ≡ may_leap t
  may_leap_again ρ (node h xs n ts) = simp (any_may_leap_again ρ ts)

pub others_of_again : (ρ : Renaming) (whole : Leading) → others_of (again_leading ρ whole) ≡ all_again ρ (others_of whole)
others_of_again ρ whole = refl
others_of_again ρ (before ts) = refl

pub runs_on_again : (ρ : Renaming) (alone : Leaving) → runs_on (again_leaving ρ alone) ≡ again ρ (runs_on alone)
runs_on_again ρ alone = refl
runs_on_again ρ (or_else s) = refl
runs_on_again ρ (unless s) = refl

pub test_of_again : (ρ : Renaming) (always : Tested) → test_of (again_tested ρ always) ≡ again ρ (test_of always)
test_of_again ρ always = refl
test_of_again ρ (while_true t) = refl

pub row84_again : (ρ : Renaming) (n w : Tree) → Row84 n w → Row84 (again ρ n) (again ρ w)
row84_again ρ n w r = record {
  init = again ρ r.init;
  test = again_tested ρ r.test;
  update = again ρ r.update;
  leading = again_leading ρ r.leading;
  leaving = again_leaving ρ r.leaving;
  x = again ρ r.x;
  asked = simp (is_there_again ρ r.x, may_leap_again ρ r.x) r.asked;
  tested = simp (is_tested_again ρ r.test) r.tested;
  loose = simp (runs_on_again ρ r.leaving, shape_of_again ρ (runs_on r.leaving)) r.loose;
  unscoped = simp (others_of_again ρ r.leading, are_unscoped_again ρ (others_of r.leading)) r.unscoped;
  shape = simp (← (test_of_again ρ r.test), ← (leaves_by_again ρ r.leaving r.x), ← (led_again ρ r.leading (leaves_by r.leaving r.x))) at (ap (again ρ) r.shape);
  written = simp (← (goes_by_again ρ r.leaving r.x), ← (also_again ρ r.test (goes_by r.leaving r.x)), ← (runs_on_again ρ r.leaving), ← (led_again ρ r.leading (runs_on r.leaving))) at (ap (again ρ) r.written);
}
