-- What the calls of negations, of `if`, of branches and bodies, and of the head of a `for` write is what their own rows say, and where they
-- write nothing none of these reads the node.
use Rattle.std.proofs.Common.{◌≡◌, ◌<◌, ◌^◌, ℕ, Bool, true, false, Option, Some, None, refl, subst, inl, inr}
use Rattle.std.specs.Prelude.{option_map, if◌then◌else◌}
use Rattle.mini_model.specs.declared.place.Position.TheVariants.{Expr}
use Rattle.mini_model.specs.declared.seat.Seat.{Seat}
use Rattle.mini_model.specs.Redex.{Row23}
use Rattle.mini_model.specs.Terms.{neg}
use Rattle.mini_model.specs.Tree.{Tree}
use Rattle.mini_model.specs.Weight.{weight}
use Rattle.mini_node.specs.Children.{part}
use Rattle.mini_rows.specs.Branches.{Row78, Row79}
use Rattle.mini_rows.specs.Cases.{OneCaseRow}
use Rattle.mini_rows.specs.DeadCases.{DeadCaseRow}
use Rattle.mini_rows.specs.Loops.{Row84}
use Rattle.mini_fold.specs.RemoveIdleHead as head
use Rattle.mini_fold.proofs.IdleHeads.{head_row, head_there, init_idle, update_idle}
use Rattle.mini_logic.specs.LastContinue as last_continue
use Rattle.mini_logic.specs.MinimizeForStatement as for_statement
use Rattle.mini_logic.specs.MinimizeIfStatement as if_statement
use Rattle.mini_logic.specs.MinimizeUnaryExpression as unary
use Rattle.mini_logic.specs.UnwrapBlock as unwrap_block
use Rattle.mini_logic.proofs.LastContinue as continue_law
use Rattle.mini_logic.proofs.MinimizeForStatement as for_law
use Rattle.mini_logic.proofs.MinimizeIfStatement as if_law
use Rattle.mini_logic.proofs.MinimizeUnaryExpression as unary_law
use Rattle.mini_logic.proofs.UnwrapBlock as unwrap_law
use Rattle.mini_switch.specs.DropUnreachableSwitchCases as dead_cases
use Rattle.mini_switch.specs.MinimizeSwitchStatements as one_case
use Rattle.mini_switch.proofs.DeadCaseRows.{row_at, never_dropped}
use Rattle.mini_switch.proofs.Switches.{row_of, never}
use Rattle.mini_calls.proofs.OwnOperators.{some_is, nothing}
use Rattle.mini_calls.specs.OwnRows.{Own, Weighed, Fitting, IdleHeadRow, negated}

-- what is written at a place, where there is one
module _ (R : Tree → Tree → Type 0) (place : Tree → Option ℕ) (made : Tree → ℕ → Tree) (said : (t : Tree) (i : ℕ) → place t ≡ Some i → R t (made t i)) (rests : (t w : Tree) → place t ≡ None → R t w → ⊥) where
  abbrev placed : Tree → Option Tree
  placed t = option_map (made t) (place t)

  placed_said : (n w : Tree) → placed n ≡ Some w → R n w
  placed_said n w e = go (place n) refl e
    where
      go : (o : Option ℕ) → place n ≡ o → option_map (made n) o ≡ Some w → R n w
      go (Some i) h f = subst (R n) (some_is (made n i) w f) (said n i h)
      go None h f = nothing f

  placed_rest : (n : Tree) → placed n ≡ None → (w : Tree) → R n w → ⊥
  placed_rest n e w r = go (place n) refl e
    where
      go : (o : Option ℕ) → place n ≡ o → option_map (made n) o ≡ None → ⊥
      go (Some i) h f = absurd (cc f)
      go None h f = rests n w h r

  placed_own : Own placed R
  placed_own = record { written = placed_said; unwritten = placed_rest }

pub block_own : Own unwrap_block.written Row79
block_own = placed_own Row79 unwrap_block.place unwrap_block.unwrapped_at unwrap_law.row_at unwrap_law.misses

pub continue_own : Own last_continue.written Row78
continue_own = placed_own Row78 last_continue.place last_continue.left_at continue_law.row_at continue_law.misses

-- 80

inlined_said : (n w : Tree) → one_case.written n ≡ Some w → OneCaseRow n w
inlined_said n w e = go (one_case.inlines n) refl e
  where
    go : (b : Bool) → one_case.inlines n ≡ b → (if b then Some (one_case.inlined n) else None) ≡ Some w → OneCaseRow n w
    go true h f = subst (OneCaseRow n) (some_is (one_case.inlined n) w f) (row_of n h)
    go false h f = nothing f

inlined_rests : (n : Tree) → one_case.written n ≡ None → (w : Tree) → OneCaseRow n w → ⊥
inlined_rests n e w r = go (one_case.inlines n) refl e
  where
    go : (b : Bool) → one_case.inlines n ≡ b → (if b then Some (one_case.inlined n) else None) ≡ None → ⊥
    go true h f = absurd (cc f)
    go false h f = never n w h r

pub switch_own : Own one_case.written OneCaseRow
switch_own = record { written = inlined_said; unwritten = inlined_rests }

-- 81

dropped_said : (n w : Tree) → dead_cases.written n ≡ Some w → DeadCaseRow n w
dropped_said n w e = go (dead_cases.place n) refl e
  where
    go : (o : Option ℕ) → dead_cases.place n ≡ o → dead_cases.written_by n o ≡ Some w → DeadCaseRow n w
    go (Some i) h f = subst (DeadCaseRow n) (some_is (dead_cases.dropped_at n i) w f) (row_at n i h)
    go None h f = nothing f

dropped_rests : (n : Tree) → dead_cases.written n ≡ None → (w : Tree) → DeadCaseRow n w → ⊥
dropped_rests n e w r = go (dead_cases.place n) refl e
  where
    go : (o : Option ℕ) → dead_cases.place n ≡ o → dead_cases.written_by n o ≡ None → ⊥
    go (Some i) h f = absurd (cc f)
    go None h f = never_dropped n w h r

pub cases_own : Own dead_cases.written DeadCaseRow
cases_own = record { written = dropped_said; unwritten = dropped_rests }

for_said : (n w : Tree) → for_statement.written n ≡ Some w → Row84 n w
for_said n w e = go (for_statement.is_leaving_for n) refl e
  where
    go : (b : Bool) → for_statement.is_leaving_for n ≡ b → (if b then Some (for_statement.with_test n) else None) ≡ Some w → Row84 n w
    go true h f = subst (Row84 n) (some_is (for_statement.with_test n) w f) (for_law.row_of n h)
    go false h f = nothing f

for_rest : (n : Tree) → for_statement.written n ≡ None → (w : Tree) → Row84 n w → ⊥
for_rest n e w r = go (for_statement.is_leaving_for n) refl e
  where
    go : (b : Bool) → for_statement.is_leaving_for n ≡ b → (if b then Some (for_statement.with_test n) else None) ≡ None → ⊥
    go true h f = absurd (cc f)
    go false h f = for_law.misses n w h r

pub for_own : Own for_statement.written Row84
for_own = record { written = for_said; unwritten = for_rest }

-- ---- 82 and 83

pub if_own : Fitting if_statement.written if_statement.IsRow
if_own = record {
  written = λ n w e. if_law.follows n w e;
  lighter = λ q n w e. if_law.row_lighter q n w (if_law.follows n w e);
  unwritten = λ q n e small w r. if_law.misses q n w e small r;
}

-- ---- 23

module _ (s : Seat) (n w : Tree) where
  negated_falls : negated s n ≡ Some w → Row23 s n w × (weight (Expr s) w < weight (Expr s) n)
  negated_falls e = go (unary.minimizes_unary s n) refl e
    where
      go : (b : Bool) → unary.minimizes_unary s n ≡ b → (if b then Some (if b then neg s (part n 0) else n) else None) ≡ Some w → Row23 s n w × (weight (Expr s) w < weight (Expr s) n)
      go true h f = subst (λ u. Row23 s n u × (weight (Expr s) u < weight (Expr s) n)) (some_is (neg s (part n 0)) w f) (unary_law.follows s n h)
      go false h f = nothing f

  negated_rest : negated s n ≡ None → weight (Expr s) n < 2 ^ 64 → Row23 s n w → weight (Expr s) w < weight (Expr s) n → ⊥
  negated_rest e small r less = go (unary.minimizes_unary s n) refl e
    where
      go : (b : Bool) → unary.minimizes_unary s n ≡ b → (if b then Some (if b then neg s (part n 0) else n) else None) ≡ None → ⊥
      go true h f = absurd (cc f)
      go false h f = unary_law.misses s n w h small (r, less)

pub negated_own : Weighed negated Row23
negated_own = record {
  written = λ s n w e. (negated_falls s n w e).0;
  lighter = λ s n w e. (negated_falls s n w e).1;
  unwritten = λ s n e small w r less. negated_rest s n w e small r less;
}

-- ---- 22 of the head of a `for`

head_rest : (n w : Tree) → IdleHeadRow n w → head.written n ≡ None → ⊥
head_rest n w (inl r) e = head_there n (init_idle n w r) e
head_rest n w (inr r) e = head_there n (update_idle n w r) e

pub head_own : Own head.written IdleHeadRow
head_own = record { written = head_row; unwritten = λ n e w r. head_rest n w r e }
