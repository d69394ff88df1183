-- What leaves the object of a member, child by child.
use Rattle.std.proofs.Common.{◌≡◌, ℕ, zero, suc, ◌<◌, ◌≤◌, Bool, true, false, refl, sym, ap, ◌∙◌, arith, true≢false}
use Rattle.std.specs.Prelude.{◌&&◌}
use Rattle.mini_model.specs.Tree.{Tree, Trees, node, none, ◌▸◌, count, child_or_absent, children, node_count, shape_of}
use Rattle.mini_node.specs.Children.{first_children}
use Rattle.mini_node.specs.Equal.{same_tree}
use Rattle.mini_rows.specs.Members.{opens, begins_at}
use Rattle.mini_rows.specs.Unused.{is_childless}
use Rattle.mini_steady.specs.Leaving.{leaves_object, all_leave}

module _ (o : Tree) where
  pub leave_start : (ts : Trees) → all_leave o (first_children 0 ts) ≡ true
  leave_start none = refl
  leave_start (t ▸ ts) = refl

  both : (a b c : Bool) → (a && b) ≡ true → (b ≡ true → c ≡ true) → (a && c) ≡ true
  both true b c e f = f e
  both false b c e f = e

  pub leave_step : (ts : Trees) (i k : ℕ) (t : Tree) → k ≡ suc i → i < count ts → t ≡ child_or_absent ts i → leaves_object o t ≡ true → all_leave o (first_children i ts) ≡ true → all_leave o (first_children k ts) ≡ true
  leave_step ts i k t f h e n p = ap (λ j. all_leave o (first_children j ts)) f ∙ go ts i h (sym (ap (leaves_object o) e) ∙ n) p
    where
      go : (ts : Trees) (i : ℕ) → i < count ts → leaves_object o (child_or_absent ts i) ≡ true → all_leave o (first_children i ts) ≡ true → all_leave o (first_children (suc i) ts) ≡ true
      go none i h n p = absurd (omega (arith, h))
      go (t ▸ none) zero h n p = ap (λ b. b && true) n
      go (t ▸ (u ▸ ts)) zero h n p = ap (λ b. b && true) n
      go (t ▸ ts) (suc i) h n p = both (leaves_object o t) (all_leave o (first_children i ts)) (all_leave o (first_children (suc i) ts)) p (go ts i (omega (arith, h)) n)

  pub leave_end : (ts : Trees) (i end : ℕ) → i ≤ end → end ≤ i → all_leave o (first_children i ts) ≡ true → true ≡ all_leave o (first_children end ts)
  leave_end ts i end g h p = let same : i ≡ end = omega (arith, g, h) in sym p ∙ ap (λ k. all_leave o (first_children k ts)) same

  never : (b : Bool) → (b && false) ≡ false
  never true = refl
  never false = refl

  pub leave_found : (ts : Trees) (i end : ℕ) (t : Tree) → i < end → i < count ts → t ≡ child_or_absent ts i → leaves_object o t ≡ false → all_leave o (first_children end ts) ≡ false
  leave_found ts i end t g h e n = go ts i end g h (sym (ap (leaves_object o) e) ∙ n)
    where
      go : (ts : Trees) (i end : ℕ) → i < end → i < count ts → leaves_object o (child_or_absent ts i) ≡ false → all_leave o (first_children end ts) ≡ false
      go none i end g h n = absurd (omega (arith, h))
      go (t ▸ ts) i zero g h n = absurd (omega (arith, g))
      go (t ▸ ts) zero (suc end) g h n = ap (λ b. b && all_leave o (first_children end ts)) n
      go (t ▸ ts) (suc i) (suc end) g h n = ap (λ b. leaves_object o t && b) (go ts i end (omega (arith, g)) (omega (arith, h)) n) ∙ never (leaves_object o t)

  -- ---- what is evaluated first

  pub begins_leaf : (n : Tree) → is_childless n ≡ true → begins_at o n ≡ same_tree o n
  begins_leaf (node h ys m none) e = refl
  begins_leaf (node h ys m (t ▸ ts)) e = absurd (true≢false (sym e))

  pub begins_below : (n : Tree) → is_childless n ≡ false → begins_at o n ≡ (opens (shape_of n) (is_childless (child_or_absent (children n) 0)) && begins_at o (child_or_absent (children n) 0))
  begins_below (node h ys m none) e = absurd (true≢false e)
  begins_below (node h ys m (t ▸ ts)) e = refl

  -- the first part is smaller
  pub first_smaller : (n : Tree) → is_childless n ≡ false → node_count (child_or_absent (children n) 0) < node_count n
  first_smaller (node h ys m none) e = absurd (true≢false e)
  first_smaller (node h ys m (t ▸ ts)) e = omega arith
