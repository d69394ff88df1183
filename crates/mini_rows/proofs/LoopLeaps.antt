-- Whether the jumps of an expression have their targets doesn't depend on where it stands in loops.
use Rattle.std.specs.Prelude.{ℕ, suc, ◌≡◌, refl, ◌||◌, ◌&&◌, not, Bool, true, false, List, [], ◌∷◌, ◌++◌, Option, Some, None, if◌then◌else◌}
use Rattle.std.proofs.Common.{ap, sym, subst, true≢false}
use Rattle.mini_model.specs.declared.shape.Shape.{Shape}
use Rattle.mini_model.specs.declared.shape.Shape.TheVariants as shape
use Rattle.mini_model.specs.Tree.{Tree, Trees, node, none, ◌▸◌}
use Rattle.mini_laws.specs.declared.names.Jump.TheVariants as jump
use Rattle.mini_laws.specs.declared.names.Targets.{Targets}
use Rattle.mini_laws.specs.declared.names.Turn.{Turn}
use Rattle.mini_laws.specs.declared.names.Turn.TheVariants as turn
use Rattle.mini_laws.specs.Early.{Path, has_label, is_bad, is_bad_jump, label_in, label_for, turn_of, turned, targets_of, early_jumps, all_early_jumps}
use Rattle.mini_kept.proofs.Below.{empty_both, both_empty}
use Rattle.mini_rows.specs.Loops.{is_leap_shape, is_body_shape, may_leap, any_may_leap}

-- what a jump can reach but loops
pub record Reach (g h : Targets) : Type 0 where
  pub labels : g.labels ≡ h.labels
  pub returns : g.returns ≡ h.returns
  pub yields : g.yields ≡ h.yields

label_same : (g h : Targets) → Reach g h → (l : Option (List ℕ)) → is_bad jump.Label l g ≡ is_bad jump.Label l h
label_same g h a None = refl
label_same g h a (Some s) = ap (has_label s) a.labels

bad_same : (g h : Targets) → Reach g h → (k : Shape) (ts : Trees) → is_leap_shape k ≡ false → is_bad_jump k ts g ≡ is_bad_jump k ts h
bad_same g h a shape.BreakStatement ts e = absurd (true≢false e)
bad_same g h a shape.ContinueStatement ts e = absurd (true≢false e)
bad_same g h a shape.LabeledStatement ts e = label_same g h a (label_in ts)
bad_same g h a shape.ReturnStatement ts e = ap not a.returns
bad_same g h a (shape.YieldExpression is_delegate) ts e = ap not a.yields
bad_same g h a k ts e = refl

turned_same : (g h : Targets) → Reach g h → (w : Turn) (ts : Trees) → Reach (turned w ts g) (turned w ts h)
turned_same g h a turn.Same ts = a
turned_same g h a turn.InLoop ts = record { labels = a.labels; returns = a.returns; yields = a.yields }
turned_same g h a turn.InSwitch ts = record { labels = a.labels; returns = a.returns; yields = a.yields }
turned_same g h a turn.Labeled ts = record { labels = ap (λ ls. ls ++ label_for ts ∷ []) a.labels; returns = a.returns; yields = a.yields }
turned_same g h a (turn.InFunction yields) ts = record { labels = refl; returns = refl; yields = refl }
turned_same g h a turn.Outside ts = record { labels = refl; returns = refl; yields = refl }

-- a body has targets of its own
own_targets : (g h : Targets) (k : Shape) (ts : Trees) (i : ℕ) → is_body_shape k ≡ true → targets_of k ts g i ≡ targets_of k ts h i
unfolding targets_of
own_targets g h (shape.Function is_declaration is_generator directives) ts i e = refl
own_targets g h (shape.ArrowFunctionExpression directives) ts i e = refl
own_targets g h shape.StaticBlock ts i e = refl
own_targets g h k ts i e = absurd (true≢false (sym e))

either_not : (a b : Bool) → (a || b) ≡ false → (a ≡ false) × (b ≡ false)
either_not true b e = absurd (true≢false e)
either_not false b e = (refl, e)

all_there : (G H : ℕ → Targets) → ((i : ℕ) → G i ≡ H i) → (q : Path) (i : ℕ) (ts : Trees) → all_early_jumps G q i ts ≡ [] → all_early_jumps H q i ts ≡ []
unfolding early_jumps
all_there G H z q i none e = refl
all_there G H z q i (t ▸ ts) e =
    let (own, rest) = empty_both (early_jumps (G i) (q ++ i ∷ []) t) (all_early_jumps G q (suc i) ts) e in
    both_empty (early_jumps (H i) (q ++ i ∷ []) t) (all_early_jumps H q (suc i) ts) (subst (λ g. early_jumps g (q ++ i ∷ []) t ≡ []) (z i) own) (all_there G H z q (suc i) ts rest)

-- a node whose parts are so
parts_leapless : (k : Shape) (ts : Trees) (g h : Targets) → Reach g h → (q : Path) → (any_may_leap ts ≡ false → (G H : ℕ → Targets) → ((i : ℕ) → Reach (G i) (H i)) → all_early_jumps G q 0 ts ≡ [] → all_early_jumps H q 0 ts ≡ []) → (b : Bool) → is_body_shape k ≡ b → (not b && any_may_leap ts) ≡ false → all_early_jumps (targets_of k ts g) q 0 ts ≡ [] → all_early_jumps (targets_of k ts h) q 0 ts ≡ []
unfolding targets_of
parts_leapless k ts g h a q r true c f e = all_there (targets_of k ts g) (targets_of k ts h) (λ i. own_targets g h k ts i c) q 0 ts e
parts_leapless k ts g h a q r false c f e = r f (targets_of k ts g) (targets_of k ts h) (λ i. turned_same g h a (turn_of k i) ts) e

mutual
  unfolding early_jumps

  pub leapless : (t : Tree) → may_leap t ≡ false → (g h : Targets) → Reach g h → (q : Path) → early_jumps g q t ≡ [] → early_jumps h q t ≡ []
  leapless (node k xs n ts) f g h a q e =
      let (stays, below) = either_not (is_leap_shape k) (not (is_body_shape k) && any_may_leap ts) f in
      let (own, rest) = empty_both (if is_bad_jump k ts g then q ∷ [] else []) (all_early_jumps (targets_of k ts g) q 0 ts) e in
      both_empty (if is_bad_jump k ts h then q ∷ [] else []) (all_early_jumps (targets_of k ts h) q 0 ts) (subst (λ b. (if b then q ∷ [] else []) ≡ []) (bad_same g h a k ts stays) own) (parts_leapless k ts g h a q (λ l G H m i. all_leapless ts l G H m q 0 i) (is_body_shape k) refl below rest)

  all_leapless : (ts : Trees) → any_may_leap ts ≡ false → (G H : ℕ → Targets) → ((i : ℕ) → Reach (G i) (H i)) → (q : Path) (i : ℕ) → all_early_jumps G q i ts ≡ [] → all_early_jumps H q i ts ≡ []
  all_leapless none f G H a q i e = refl
  all_leapless (t ▸ ts) f G H a q i e =
      let (first, others) = either_not (may_leap t) (any_may_leap ts) f in
      let (own, rest) = empty_both (early_jumps (G i) (q ++ i ∷ []) t) (all_early_jumps G q (suc i) ts) e in
      both_empty (early_jumps (H i) (q ++ i ∷ []) t) (all_early_jumps H q (suc i) ts) (leapless t first (G i) (H i) (a i) (q ++ i ∷ []) own) (all_leapless ts others G H a q (suc i) rest)
