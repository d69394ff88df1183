-- A literal 0 is written for the first part of a sequence just where a row says so.
use borrow.Author.Tests.{ltb-true}
use Rattle.std.proofs.Common.{◌≡◌, ℕ, ◌<◌, ◌^◌, arith, true, None, Some, refl, ap, ◌∙◌, inr}
use Rattle.std.specs.Prelude.{is_some}
use Rattle.std.proofs.lemmas.Bool.{and_parts}
use Rattle.mini_model.specs.declared.place.Position.TheVariants.{Expr}
use Rattle.mini_model.specs.declared.seat.Seat.{Seat}
use Rattle.mini_model.specs.Tree.{Tree}
use Rattle.mini_model.specs.Weight.{weight}
use Rattle.mini_terms.specs.Exact.{by_value}
use Rattle.mini_terms.specs.Folds.{is_effect_free}
use Rattle.mini_terms.specs.Parts.{leaves_nothing}
use Rattle.mini_rows.specs.Editions.{ChoicesIn}
use Rattle.mini_rows.specs.Choices.{pair, Row21Zero, ZeroFirst}
use Rattle.mini_choices.specs.MinimizeConditionalBranches.{is_lighter}
use Rattle.mini_choices.specs.MinimizeFirstPart as behind
use Rattle.mini_choices.specs.MinimizeHeldBranches.{is_pair, item}
use Rattle.mini_choices.proofs.HeldBranches.{pair_is}
use Rattle.mini_choices.proofs.Trials.{both_true, Falls, tries, first_true, lighter_test}

idle_row : (n : Tree) → behind.follows_idle n ≡ true → Row21Zero n (behind.behind_zero n)
idle_row n h =
    let (two, idle) = and_parts (is_pair n) (behind.is_idle (item n 0)) h in
    let (free, dropped) = and_parts (is_effect_free (item n 0)) (leaves_nothing (item n 0)) idle in
    record { idle = item n 0; last = item n 1; effect_free = free; dropped = dropped; shape = pair_is n two; written = refl }

pub zero_falls : (s : Seat) (n w : Tree) → behind.written s n ≡ Some w → Falls (λ s n w. Row21Zero n w) s n w
zero_falls s n w = tries (Falls (λ s n w. Row21Zero n w) s n) w (behind.is_shortened s n) (behind.behind_zero n) None made (λ e. absurd (cc e))
  where
    made : behind.is_shortened s n ≡ true → Falls (λ s n w. Row21Zero n w) s n (behind.behind_zero n)
    made h =
        let (idle, less) = and_parts (behind.follows_idle n) (is_lighter s (behind.behind_zero n) n) h in
        (idle_row n idle, omega (arith, ltb-true _ _ less))

pub zero_row : (edition : ℕ) (s : Seat) (n w : Tree) → behind.written s n ≡ Some w → ChoicesIn edition (Expr s) n w
zero_row edition s n w e = let (r, less) = zero_falls s n w e in (record { row = ZeroFirst r; lighter = less }, tt)

pub zero_passes : (s : Seat) (n w : Tree) → Row21Zero n w → weight (Expr s) n < 2 ^ 64 → weight (Expr s) w < weight (Expr s) n → is_some (behind.written s n) ≡ true
zero_passes s n w r small less =
    let t : Tree = pair r.idle r.last in
    let u : Tree = by_value r.last in
    let same = ap (weight (Expr s)) r.shape in
    let made = ap (weight (Expr s)) r.written in
    let idle : behind.follows_idle t ≡ true = both_true (is_effect_free r.idle) (leaves_nothing r.idle) r.effect_free r.dropped in
    ap (λ t. is_some (behind.written s t)) r.shape
    ∙ first_true (behind.is_shortened s t) u None (both_true (behind.follows_idle t) (is_lighter s u t) idle (lighter_test s u t (omega (arith, small, same)) (omega (arith, less, same, made))))
