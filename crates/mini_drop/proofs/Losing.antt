-- What a round takes away, and rounds one after another.
use Rattle.std.proofs.Common.{◌≡◌, ℕ, zero, suc, ◌+◌, ◌<◌, ◌≤◌, Bool, true, false, List, [], ◌∷◌, length, sym, ap, ◌∙◌, subst, arith, true≢false}
use Rattle.std.specs.Prelude.{nat_lt, slice_index}
use Rattle.std.proofs.lemmas.Bool.{ltb-false}
use Rattle.mini_model.specs.Tree.{Tree, node, node_count, node_counts}
use Rattle.mini_accept.specs.WellShaped.{IsWellShaped}
use Rattle.mini_context.specs.Tables.{mark_at}
use Rattle.mini_dead.specs.Pruned.{Elsewhere, Declarator, declarator_tree, declarator_trees, Item, function_item, declaration_item, lone_item, item_tree, Pruned, prune, Prunings, end, stays, goes, declarator_goes, earlier, earlier_all, later, later_all}
use Rattle.mini_dead.specs.Dead.{is_dead_symbol, dead_count}
use Rattle.mini_dead.specs.Drops.{item_count, gone_count, all_gone_count, Drops, DropsAgain, nothing_goes, more_goes}
use Rattle.mini_dead.specs.Marked.{less}
use Rattle.mini_dead.proofs.DeadMarks.{dead_symbols_go, dead_items_counted}
use Rattle.mini_dead.proofs.Shapes.{drops_keep_shape}
use Rattle.mini_dead.proofs.Counting.{none_goes}
use Rattle.mini_drop.specs.Symbols.{DeadSymbols, Sound}
use Rattle.mini_dead.proofs.Marking.{may_go_drops}
use Rattle.mini_drop.specs.Walk.{Lost}
use Rattle.mini_drop.proofs.Agreeing.{Agree, marked_same}

-- ---- one round

agrees : (t : Tree) (xs : List Bool) → DeadSymbols t xs → Agree (mark_at xs) (is_dead_symbol t) t
agrees t xs w s e = w.each s (w.whole s e)

marked_below : (xs : List Bool) (s : ℕ) → mark_at xs s ≡ true → s < length xs
marked_below [] s e = absurd (true≢false (sym e))
marked_below (x ∷ xs) zero e = omega arith
marked_below (x ∷ xs) (suc s) e = let h = marked_below xs s e in omega (arith, h)

are_dead : (t : Tree) (xs : List Bool) → DeadSymbols t xs → (s : ℕ) → mark_at xs s ≡ true → is_dead_symbol t s ≡ true
are_dead t xs w s e = sym (w.each s (marked_below xs s e)) ∙ e

pub round_drops : (t u : Tree) (xs : List Bool) (n : ℕ) → IsWellShaped t → DeadSymbols t xs → Lost (mark_at xs) Elsewhere t u n → Drops t u n
round_drops t u xs n shaped w l = subst (λ v. Drops t v n) (sym l.left) (subst (Drops t (less (mark_at xs) t)) (sym l.number) (dead_symbols_go (mark_at xs) t shaped (are_dead t xs w)))

pub round_number : (t u : Tree) (xs : List Bool) (n : ℕ) → DeadSymbols t xs → Lost (mark_at xs) Elsewhere t u n → n ≡ dead_count t
round_number t u xs n w l = l.number ∙ ap gone_count (marked_same (mark_at xs) (is_dead_symbol t) Elsewhere t (agrees t xs w)) ∙ dead_items_counted t

-- ---- a program gets smaller

each_counted : (cs : List Declarator) → length cs ≤ node_counts (declarator_trees cs)
each_counted [] = omega arith
each_counted (c ∷ cs) = let e = each_counted cs in omega (arith, e, one_at_least (declarator_tree c))
  where
    one_at_least : (t : Tree) → 1 ≤ node_count t
    one_at_least (node h xs n ts) = omega arith

item_counted : (i : Item) → item_count i ≤ node_count (item_tree i)
item_counted (function_item g ds xs n x m ts) = omega arith
item_counted (declaration_item k xs n ys m c cs) = let e = each_counted (c ∷ cs) in omega (arith, e)
item_counted (lone_item xs n f) = omega arith

declarator_counted : (c : Declarator) → 1 ≤ node_count (declarator_tree c)
declarator_counted c = by (declarator_tree c)
  where
    by : (t : Tree) → 1 ≤ node_count t
    by (node h xs n ts) = omega arith

mutual
  fewer : (p : Pruned) → node_count (later p) + gone_count p ≤ node_count (earlier p)
  fewer (prune h xs n ps) = let e = all_fewer ps in omega (arith, e)

  all_fewer : (ps : Prunings) → node_counts (later_all ps) + all_gone_count ps ≤ node_counts (earlier_all ps)
  all_fewer end = omega arith
  all_fewer (stays p ps) = let a = fewer p in let b = all_fewer ps in omega (arith, a, b)
  all_fewer (goes i ps) = let b = all_fewer ps in omega (arith, b, item_counted i)
  all_fewer (declarator_goes c ps) = let b = all_fewer ps in omega (arith, b, declarator_counted c)

pub round_fewer : (t u : Tree) (n : ℕ) → Drops t u n → 0 < n → node_count u < node_count t
round_fewer t u n w h = omega (arith, h, w.number, fewer w.pruned, ap node_count w.before, ap node_count w.after)

-- ---- rounds one after another

pub positive : (n : ℕ) → nat_lt 0 n ≡ true → 0 < n
positive zero e = absurd (true≢false (sym e))
positive (suc n) e = omega arith

pub not_positive : (n : ℕ) → nat_lt 0 n ≡ false → n ≡ 0
not_positive n e = let h = ltb-false 0 n e in omega (arith, h)

once : (t u : Tree) (n : ℕ) → Drops t u n → DropsAgain t u n
once t u n w = subst (DropsAgain t u) (omega arith) (more_goes t t u 0 n (nothing_goes t) w)

pub round_shaped : (t u : Tree) (n : ℕ) → Drops t u n → IsWellShaped t → IsWellShaped u
round_shaped t u n w s = drops_keep_shape t u n (once t u n w) s

pub round_more : (t u v : Tree) (m n k : ℕ) → k ≡ m + n → DropsAgain t u m → Drops u v n → DropsAgain t v k
round_more t u v m n k e a w = subst (DropsAgain t v) (sym e) (more_goes t u v m n a w)

-- nothing went, and nothing is left
pub round_none : (t u : Tree) (n : ℕ) → Drops t u n → n ≡ dead_count t → n ≡ 0 → dead_count u ≡ 0
round_none t u n w e f = ap dead_count (none_goes t u n (once t u n w) f) ∙ sym e ∙ f

-- ---- a plan

pub plan_drops : (t u : Tree) (xs : List Bool) (ks : List ℕ) (n : ℕ) → IsWellShaped t → Sound xs ks t → Lost (mark_at xs) Elsewhere t u n → Drops t u n
plan_drops t u xs ks n shaped w l = subst (λ v. Drops t v n) (sym l.left) (subst (Drops t (less (mark_at xs) t)) (sym l.number) (may_go_drops (mark_at xs) (slice_index ks) t shaped w.unseen w.goes))

pub plan_fewer : (t u : Tree) (n : ℕ) → Drops t u n → node_count u ≤ node_count t
plan_fewer t u n w = omega (arith, w.number, fewer w.pruned, ap node_count w.before, ap node_count w.after)
