-- What is written for a logical expression whose right side is always evaluated is what a row says.
use borrow.Author.Tests.{ltb-true}
use Rattle.std.proofs.Common.{◌≡◌, ℕ, ◌<◌, ◌^◌, arith, true≢false, Bool, true, false, Option, Some, None, refl, sym, ap, ◌∙◌, inl, inr}
use Rattle.std.specs.Prelude.{is_some, if◌then◌else◌}
use Rattle.std.proofs.lemmas.Bool.{and_parts}
use Rattle.mini_model.specs.declared.operator.LogicalOperator.{LogicalOperator}
use Rattle.mini_model.specs.declared.place.Position.TheVariants.{Expr}
use Rattle.mini_model.specs.declared.seat.Seat.{Seat}
use Rattle.mini_model.specs.Tree.{Tree, logical}
use Rattle.mini_model.specs.Weight.{weight}
use Rattle.mini_node.specs.Children.{part}
use Rattle.mini_node.specs.Kinds.{logical_operator}
use Rattle.mini_node.specs.Made.{logical_is}
use Rattle.mini_terms.specs.Folds.{goes_on}
use Rattle.mini_rows.specs.Editions.{ChoicesIn}
use Rattle.mini_rows.specs.Choices.{pair, Row13Both, BothSides}
use Rattle.mini_choices.specs.MinimizeConditionalBranches.{is_lighter}
use Rattle.mini_choices.specs.EvaluateBothSides as both
use Rattle.mini_choices.proofs.Trials.{both_true, Falls, tries, lighter_test}

known_row : (n : Tree) → both.goes_on_in (logical_operator n) (part n 0) ≡ true → Row13Both n (both.both_sides n)
known_row n h = go (logical_operator n) refl h
  where
    go : (o : Option LogicalOperator) → logical_operator n ≡ o → both.goes_on_in o (part n 0) ≡ true → Row13Both n (both.both_sides n)
    go (Some o) k h = record { operator = o; left = part n 0; right = part n 1; known = h; shape = logical_is n o k; written = refl }
    go None k h = absurd (true≢false (sym h))

pub both_falls : (s : Seat) (n w : Tree) → both.written s n ≡ Some w → Falls (λ s n w. Row13Both n w) s n w
both_falls s n w = tries (Falls (λ s n w. Row13Both n w) s n) w (both.evaluates_both s n) (both.both_sides n) None made (λ e. absurd (cc e))
  where
    made : both.evaluates_both s n ≡ true → Falls (λ s n w. Row13Both n w) s n (both.both_sides n)
    made h =
        let (known, less) = and_parts (both.goes_on_in (logical_operator n) (part n 0)) (is_lighter s (both.both_sides n) n) h in
        (known_row n known, omega (arith, ltb-true _ _ less))

pub both_row : (edition : ℕ) (s : Seat) (n w : Tree) → both.written s n ≡ Some w → ChoicesIn edition (Expr s) n w
both_row edition s n w e = let (r, less) = both_falls s n w e in (record { row = BothSides r; lighter = less }, tt)

there : (b : Bool) (t : Tree) → b ≡ true → is_some (if b then Some t else None) ≡ true
there true t e = refl
there false t e = absurd (true≢false (sym e))

pub both_passes : (s : Seat) (n w : Tree) → Row13Both n w → weight (Expr s) n < 2 ^ 64 → weight (Expr s) w < weight (Expr s) n → is_some (both.written s n) ≡ true
both_passes s n w r small less =
    let t : Tree = logical r.operator r.left r.right in
    let u : Tree = pair r.left r.right in
    let same = ap (weight (Expr s)) r.shape in
    let made = ap (weight (Expr s)) r.written in
    ap (λ t. is_some (both.written s t)) r.shape
    ∙ there (both.evaluates_both s t) (both.both_sides t) (both_true (goes_on r.operator r.left) (is_lighter s u t) r.known (lighter_test s u t (omega (arith, small, same)) (omega (arith, less, same, made))))
