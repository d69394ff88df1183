-- Whether a tree has early errors doesn't depend on where it stands.
use Rattle.std.specs.Prelude.{ℕ, suc, ◌≡◌, refl, Bool, true, false, [], ◌∷◌, ◌++◌, if◌then◌else◌}
use Rattle.mini_model.specs.Tree.{Tree, Trees, node, none, ◌▸◌}
use Rattle.mini_laws.specs.declared.names.Targets.{Targets}
use Rattle.mini_laws.specs.Early.{Path, clash_of, declarations_by, scope_declarations, clashing, early_names, all_early_names, is_bad_jump, targets_of, early_jumps, all_early_jumps}
use Rattle.mini_kept.proofs.Below.{empty_both, both_empty}
use Rattle.mini_kept.proofs.Unplaced.{scope_same, scope_itself, free_same}

mutual
  unfolding early_names scope_declarations

  pub once_anywhere : (p q : Path) (t : Tree) → early_names p t ≡ [] → early_names q t ≡ []
  once_anywhere p q (node h xs n ts) e =
      let (own, rest) = empty_both (clashing [] (declarations_by (clash_of h) p ts)) (all_early_names p 0 ts) e in
      both_empty (clashing [] (declarations_by (clash_of h) q ts)) (all_early_names q 0 ts) (free_same (declarations_by (clash_of h) p ts) (declarations_by (clash_of h) q ts) (scope_same (clash_of h) q p ts ts (scope_itself (clash_of h) ts)) own) (all_once_anywhere p q 0 0 ts rest)

  pub all_once_anywhere : (p q : Path) (i j : ℕ) (ts : Trees) → all_early_names p i ts ≡ [] → all_early_names q j ts ≡ []
  all_once_anywhere p q i j none e = refl
  all_once_anywhere p q i j (t ▸ ts) e =
      let (own, rest) = empty_both (early_names (p ++ i ∷ []) t) (all_early_names p (suc i) ts) e in
      both_empty (early_names (q ++ j ∷ []) t) (all_early_names q (suc j) ts) (once_anywhere (p ++ i ∷ []) (q ++ j ∷ []) t own) (all_once_anywhere p q (suc i) (suc j) ts rest)

no_jump : (b : Bool) (p q : Path) → (if b then p ∷ [] else []) ≡ [] → (if b then q ∷ [] else []) ≡ []
no_jump true p q e = absurd (cc e)
no_jump false p q e = refl

mutual
  unfolding early_jumps

  pub targets_anywhere : (a : Targets) (p q : Path) (t : Tree) → early_jumps a p t ≡ [] → early_jumps a q t ≡ []
  targets_anywhere a p q (node h xs n ts) e =
      let (own, rest) = empty_both (if is_bad_jump h ts a then p ∷ [] else []) (all_early_jumps (targets_of h ts a) p 0 ts) e in
      both_empty (if is_bad_jump h ts a then q ∷ [] else []) (all_early_jumps (targets_of h ts a) q 0 ts) (no_jump (is_bad_jump h ts a) p q own) (all_targets_anywhere (targets_of h ts a) p q 0 ts rest)

  pub all_targets_anywhere : (g : ℕ → Targets) (p q : Path) (i : ℕ) (ts : Trees) → all_early_jumps g p i ts ≡ [] → all_early_jumps g q i ts ≡ []
  all_targets_anywhere g p q i none e = refl
  all_targets_anywhere g p q i (t ▸ ts) e =
      let (own, rest) = empty_both (early_jumps (g i) (p ++ i ∷ []) t) (all_early_jumps g p (suc i) ts) e in
      both_empty (early_jumps (g i) (q ++ i ∷ []) t) (all_early_jumps g q (suc i) ts) (targets_anywhere (g i) (p ++ i ∷ []) (q ++ i ∷ []) t own) (all_targets_anywhere g p q (suc i) ts rest)
