-- What is written by one call, or else by another.
use Rattle.std.proofs.Common.{◌≡◌, Bool, true, false, Option, Some, None, sym, ap, ◌∙◌, true≢false}
use Rattle.std.specs.Prelude.{is_some, unwrap_or}
use Rattle.mini_model.specs.declared.seat.Seat.{Seat}
use Rattle.mini_model.specs.Tree.{Tree}
use Rattle.mini_choices.specs.InjectAssignedChaining as injected
use Rattle.mini_choices.specs.InjectOptionalChaining as chaining
use Rattle.mini_choices.specs.MinimizeAssignedComparison as comparison
use Rattle.mini_choices.specs.MinimizeAssignedNullishComparison as nullish_assigned
use Rattle.mini_choices.specs.MinimizeConditionalBranches as branches
use Rattle.mini_choices.specs.MinimizeHeldBranches as held
use Rattle.mini_choices.specs.MinimizeLogicalExpression as deciding
use Rattle.mini_choices.specs.MinimizeLogicalSequence as sequence
use Rattle.mini_choices.specs.MinimizeNullishComparison as nullish
use Rattle.mini_fold.specs.FoldKnown.{branch_written}
use Rattle.mini_logic.specs.MinimizeConditionalExpression as turn
use Rattle.mini_logic.specs.MinimizeExpressionInBooleanContext as boolean
use Rattle.mini_laws.specs.Value.{VariableSet}
use Rattle.mini_calls.specs.Joined.{or_else, assigned_written, chained_written, held_written, branched_written, idle_written, told_written, turned_written, decided_written, nullish_written, logical_written}

first : (n u : Tree) (o p : Option Tree) → u ≡ unwrap_or o n → true ≡ is_some o → u ≡ unwrap_or (or_else o p) n
first n u (Some w) p e f = e
first n u None p e f = absurd (true≢false f)

first_is : (o p : Option Tree) → true ≡ is_some o → true ≡ is_some (or_else o p)
first_is (Some w) p f = f
first_is None p f = absurd (true≢false f)

then_is : (g : Tree → Option Tree) (n k u : Tree) (o : Option Tree) → k ≡ unwrap_or o n → false ≡ is_some o → u ≡ unwrap_or (g k) k → u ≡ unwrap_or (or_else o (g n)) n
then_is g n k u None e f h = h ∙ ap (λ x. unwrap_or (g x) x) e
then_is g n k u (Some w) e f h = absurd (true≢false (sym f))

then_says : (g : Tree → Option Tree) (n k : Tree) (c : Bool) (o : Option Tree) → k ≡ unwrap_or o n → false ≡ is_some o → c ≡ is_some (g k) → c ≡ is_some (or_else o (g n))
then_says g n k c None e f h = h ∙ ap (λ x. is_some (g x)) e
then_says g n k c (Some w) e f h = absurd (true≢false (sym f))

module _ (m : VariableSet) (s : Seat) (n : Tree) where
  pub assigned_first : (u : Tree) → u ≡ unwrap_or (comparison.written m n) n → true ≡ is_some (comparison.written m n) → u ≡ unwrap_or (assigned_written m s n) n
  assigned_first u e f = first n u (comparison.written m n) (injected.written m s n) e f

  pub assigned_told : true ≡ is_some (comparison.written m n) → true ≡ is_some (assigned_written m s n)
  assigned_told f = first_is (comparison.written m n) (injected.written m s n) f

  pub assigned_then : (k u : Tree) → k ≡ unwrap_or (comparison.written m n) n → false ≡ is_some (comparison.written m n) → u ≡ unwrap_or (injected.written m s k) k → u ≡ unwrap_or (assigned_written m s n) n
  assigned_then k u e f h = then_is (λ n. injected.written m s n) n k u (comparison.written m n) e f h

  pub assigned_says : (k : Tree) (c : Bool) → k ≡ unwrap_or (comparison.written m n) n → false ≡ is_some (comparison.written m n) → c ≡ is_some (injected.written m s k) → c ≡ is_some (assigned_written m s n)
  assigned_says k c e f h = then_says (λ n. injected.written m s n) n k c (comparison.written m n) e f h

module _ (m : VariableSet) (s : Seat) (n : Tree) where
  pub chained_first : (u : Tree) → u ≡ unwrap_or (chaining.written s n) n → true ≡ is_some (chaining.written s n) → u ≡ unwrap_or (chained_written m s n) n
  chained_first u e f = first n u (chaining.written s n) (assigned_written m s n) e f

  pub chained_told : true ≡ is_some (chaining.written s n) → true ≡ is_some (chained_written m s n)
  chained_told f = first_is (chaining.written s n) (assigned_written m s n) f

  pub chained_then : (k u : Tree) → k ≡ unwrap_or (chaining.written s n) n → false ≡ is_some (chaining.written s n) → u ≡ unwrap_or (assigned_written m s k) k → u ≡ unwrap_or (chained_written m s n) n
  chained_then k u e f h = then_is (λ n. assigned_written m s n) n k u (chaining.written s n) e f h

  pub chained_says : (k : Tree) (c : Bool) → k ≡ unwrap_or (chaining.written s n) n → false ≡ is_some (chaining.written s n) → c ≡ is_some (assigned_written m s k) → c ≡ is_some (chained_written m s n)
  chained_says k c e f h = then_says (λ n. assigned_written m s n) n k c (chaining.written s n) e f h

module _ (m : VariableSet) (s : Seat) (n : Tree) where
  pub held_first : (u : Tree) → u ≡ unwrap_or (held.written s n) n → true ≡ is_some (held.written s n) → u ≡ unwrap_or (held_written m s n) n
  held_first u e f = first n u (held.written s n) (chained_written m s n) e f

  pub held_told : true ≡ is_some (held.written s n) → true ≡ is_some (held_written m s n)
  held_told f = first_is (held.written s n) (chained_written m s n) f

  pub held_then : (k u : Tree) → k ≡ unwrap_or (held.written s n) n → false ≡ is_some (held.written s n) → u ≡ unwrap_or (chained_written m s k) k → u ≡ unwrap_or (held_written m s n) n
  held_then k u e f h = then_is (λ n. chained_written m s n) n k u (held.written s n) e f h

  pub held_says : (k : Tree) (c : Bool) → k ≡ unwrap_or (held.written s n) n → false ≡ is_some (held.written s n) → c ≡ is_some (chained_written m s k) → c ≡ is_some (held_written m s n)
  held_says k c e f h = then_says (λ n. chained_written m s n) n k c (held.written s n) e f h

module _ (m : VariableSet) (s : Seat) (n : Tree) where
  pub branched_first : (u : Tree) → u ≡ unwrap_or (branches.written s n) n → true ≡ is_some (branches.written s n) → u ≡ unwrap_or (branched_written m s n) n
  branched_first u e f = first n u (branches.written s n) (held_written m s n) e f

  pub branched_told : true ≡ is_some (branches.written s n) → true ≡ is_some (branched_written m s n)
  branched_told f = first_is (branches.written s n) (held_written m s n) f

  pub branched_then : (k u : Tree) → k ≡ unwrap_or (branches.written s n) n → false ≡ is_some (branches.written s n) → u ≡ unwrap_or (held_written m s k) k → u ≡ unwrap_or (branched_written m s n) n
  branched_then k u e f h = then_is (λ n. held_written m s n) n k u (branches.written s n) e f h

  pub branched_says : (k : Tree) (c : Bool) → k ≡ unwrap_or (branches.written s n) n → false ≡ is_some (branches.written s n) → c ≡ is_some (held_written m s k) → c ≡ is_some (branched_written m s n)
  branched_says k c e f h = then_says (λ n. held_written m s n) n k c (branches.written s n) e f h

module _ (m : VariableSet) (s : Seat) (n : Tree) where
  pub idle_first : (u : Tree) → u ≡ unwrap_or (branch_written s n) n → true ≡ is_some (branch_written s n) → u ≡ unwrap_or (idle_written m s n) n
  idle_first u e f = first n u (branch_written s n) (branched_written m s n) e f

  pub idle_told : true ≡ is_some (branch_written s n) → true ≡ is_some (idle_written m s n)
  idle_told f = first_is (branch_written s n) (branched_written m s n) f

  pub idle_then : (k u : Tree) → k ≡ unwrap_or (branch_written s n) n → false ≡ is_some (branch_written s n) → u ≡ unwrap_or (branched_written m s k) k → u ≡ unwrap_or (idle_written m s n) n
  idle_then k u e f h = then_is (λ n. branched_written m s n) n k u (branch_written s n) e f h

  pub idle_says : (k : Tree) (c : Bool) → k ≡ unwrap_or (branch_written s n) n → false ≡ is_some (branch_written s n) → c ≡ is_some (branched_written m s k) → c ≡ is_some (idle_written m s n)
  idle_says k c e f h = then_says (λ n. branched_written m s n) n k c (branch_written s n) e f h

module _ (m : VariableSet) (s : Seat) (n : Tree) where
  pub told_first : (u : Tree) → u ≡ unwrap_or (boolean.written s n) n → true ≡ is_some (boolean.written s n) → u ≡ unwrap_or (told_written m s n) n
  told_first u e f = first n u (boolean.written s n) (idle_written m s n) e f

  pub told_told : true ≡ is_some (boolean.written s n) → true ≡ is_some (told_written m s n)
  told_told f = first_is (boolean.written s n) (idle_written m s n) f

  pub told_then : (k u : Tree) → k ≡ unwrap_or (boolean.written s n) n → false ≡ is_some (boolean.written s n) → u ≡ unwrap_or (idle_written m s k) k → u ≡ unwrap_or (told_written m s n) n
  told_then k u e f h = then_is (λ n. idle_written m s n) n k u (boolean.written s n) e f h

  pub told_says : (k : Tree) (c : Bool) → k ≡ unwrap_or (boolean.written s n) n → false ≡ is_some (boolean.written s n) → c ≡ is_some (idle_written m s k) → c ≡ is_some (told_written m s n)
  told_says k c e f h = then_says (λ n. idle_written m s n) n k c (boolean.written s n) e f h

module _ (m : VariableSet) (s : Seat) (n : Tree) where
  pub turned_first : (u : Tree) → u ≡ unwrap_or (turn.written n) n → true ≡ is_some (turn.written n) → u ≡ unwrap_or (turned_written m s n) n
  turned_first u e f = first n u (turn.written n) (told_written m s n) e f

  pub turned_told : true ≡ is_some (turn.written n) → true ≡ is_some (turned_written m s n)
  turned_told f = first_is (turn.written n) (told_written m s n) f

  pub turned_then : (k u : Tree) → k ≡ unwrap_or (turn.written n) n → false ≡ is_some (turn.written n) → u ≡ unwrap_or (told_written m s k) k → u ≡ unwrap_or (turned_written m s n) n
  turned_then k u e f h = then_is (λ n. told_written m s n) n k u (turn.written n) e f h

  pub turned_says : (k : Tree) (c : Bool) → k ≡ unwrap_or (turn.written n) n → false ≡ is_some (turn.written n) → c ≡ is_some (told_written m s k) → c ≡ is_some (turned_written m s n)
  turned_says k c e f h = then_says (λ n. told_written m s n) n k c (turn.written n) e f h

module _ (s : Seat) (n : Tree) where
  pub decided_first : (u : Tree) → u ≡ unwrap_or (deciding.written n) n → true ≡ is_some (deciding.written n) → u ≡ unwrap_or (decided_written s n) n
  decided_first u e f = first n u (deciding.written n) (sequence.written s n) e f

  pub decided_told : true ≡ is_some (deciding.written n) → true ≡ is_some (decided_written s n)
  decided_told f = first_is (deciding.written n) (sequence.written s n) f

  pub decided_then : (k u : Tree) → k ≡ unwrap_or (deciding.written n) n → false ≡ is_some (deciding.written n) → u ≡ unwrap_or (sequence.written s k) k → u ≡ unwrap_or (decided_written s n) n
  decided_then k u e f h = then_is (λ n. sequence.written s n) n k u (deciding.written n) e f h

  pub decided_says : (k : Tree) (c : Bool) → k ≡ unwrap_or (deciding.written n) n → false ≡ is_some (deciding.written n) → c ≡ is_some (sequence.written s k) → c ≡ is_some (decided_written s n)
  decided_says k c e f h = then_says (λ n. sequence.written s n) n k c (deciding.written n) e f h

module _ (m : VariableSet) (s : Seat) (n : Tree) where
  pub nullish_first : (u : Tree) → u ≡ unwrap_or (nullish_assigned.written m n) n → true ≡ is_some (nullish_assigned.written m n) → u ≡ unwrap_or (nullish_written m s n) n
  nullish_first u e f = first n u (nullish_assigned.written m n) (decided_written s n) e f

  pub nullish_told : true ≡ is_some (nullish_assigned.written m n) → true ≡ is_some (nullish_written m s n)
  nullish_told f = first_is (nullish_assigned.written m n) (decided_written s n) f

  pub nullish_then : (k u : Tree) → k ≡ unwrap_or (nullish_assigned.written m n) n → false ≡ is_some (nullish_assigned.written m n) → u ≡ unwrap_or (decided_written s k) k → u ≡ unwrap_or (nullish_written m s n) n
  nullish_then k u e f h = then_is (λ n. decided_written s n) n k u (nullish_assigned.written m n) e f h

  pub nullish_says : (k : Tree) (c : Bool) → k ≡ unwrap_or (nullish_assigned.written m n) n → false ≡ is_some (nullish_assigned.written m n) → c ≡ is_some (decided_written s k) → c ≡ is_some (nullish_written m s n)
  nullish_says k c e f h = then_says (λ n. decided_written s n) n k c (nullish_assigned.written m n) e f h

module _ (m : VariableSet) (s : Seat) (n : Tree) where
  pub logical_first : (u : Tree) → u ≡ unwrap_or (nullish.written n) n → true ≡ is_some (nullish.written n) → u ≡ unwrap_or (logical_written m s n) n
  logical_first u e f = first n u (nullish.written n) (nullish_written m s n) e f

  pub logical_told : true ≡ is_some (nullish.written n) → true ≡ is_some (logical_written m s n)
  logical_told f = first_is (nullish.written n) (nullish_written m s n) f

  pub logical_then : (k u : Tree) → k ≡ unwrap_or (nullish.written n) n → false ≡ is_some (nullish.written n) → u ≡ unwrap_or (nullish_written m s k) k → u ≡ unwrap_or (logical_written m s n) n
  logical_then k u e f h = then_is (λ n. nullish_written m s n) n k u (nullish.written n) e f h

  pub logical_says : (k : Tree) (c : Bool) → k ≡ unwrap_or (nullish.written n) n → false ≡ is_some (nullish.written n) → c ≡ is_some (nullish_written m s k) → c ≡ is_some (logical_written m s n)
  logical_says k c e f h = then_says (λ n. nullish_written m s n) n k c (nullish.written n) e f h
