-- A program that loses dead items, and passes of rewrites, hold no form newer than the edition that
-- is asked for which the program lacks.
use Rattle.std.proofs.Common.{◌≡◌, ◌+◌, ◌≤◌, ℕ, suc, arith, refl, sym, ap}
use Rattle.mini_model.specs.declared.place.Position.TheVariants as place
use Rattle.mini_model.specs.declared.shape.Shape.{Shape}
use Rattle.mini_model.specs.declared.shape.Shape.TheVariants as shape
use Rattle.mini_model.specs.Tree.{Tree}
use Rattle.mini_tree.specs.Passes.{no_pass, one_more}
use Rattle.mini_tree.specs.declared.options.CompressOptions.{CompressOptions}
use Rattle.mini_dead.specs.Pruned.{Spot, Elsewhere, Role, role, spot_below, declarator_tree, item_tree, Pruned, prune, Prunings, end, stays, goes, declarator_goes, earlier, earlier_all, later, later_all}
use Rattle.mini_dead.specs.Drops.{gone, DropsDead, AllDropDead, Drops, DropsAgain, nothing_goes, more_goes}
use Rattle.mini_editions.proofs.Moved.{below, below_fewer}
use Rattle.mini_editions.proofs.Times.{own, times, all_times, within}
use Rattle.mini_rows.specs.Forms.{Form, form_of, IsWithinEdition}
use Rattle.mini_laws.specs.Value.{VariableSet}
use Rattle.mini_peephole.proofs.Faith.{passes_stay}
use Rattle.mini_shaken.specs.Chain.{Chain, no_link, a_loss, a_pass}
use Rattle.mini_shaken.specs.Shaking.{LosesDead, IsPass}

module _ (f : Form) (t : Tree) (D : VariableSet) (rounds : ℕ → ℕ) where
  -- nothing goes from a `catch` itself, so that its parameter stays
  own_kept : (h : Shape) (s : Spot) (ps : Prunings) → AllDropDead t D rounds (role h s) 0 ps → own f (form_of h (later_all ps)) ≡ own f (form_of h (earlier_all ps))
  own_kept shape.CatchClause s end w = refl
  own_kept shape.CatchClause s (stays (prune h xs n ps) qs) w = refl
  own_kept shape.CatchClause s (goes c ps) w = absurd w.0
  own_kept shape.CatchClause s (declarator_goes c ps) w = absurd w.0
  own_kept h s ps w = refl

  mutual
    kept_below : (s : Spot) (p : Pruned) → DropsDead t D rounds s p → times f (later p) ≤ times f (earlier p)
    kept_below s (prune h xs n ps) w =
        let among = all_below (role h s) 0 ps w.1 in
        omega (arith, own_kept h s ps w.1, among)

    all_below : (r : Role) (i : ℕ) (ps : Prunings) → AllDropDead t D rounds r i ps → all_times f (later_all ps) ≤ all_times f (earlier_all ps)
    all_below r i end w = omega arith
    all_below r i (stays p ps) w =
        let first = kept_below (spot_below r i) p w.0 in
        let others = all_below r (suc i) ps w.1 in
        omega (arith, first, others)
    all_below r i (goes c ps) w = let others = all_below r (suc i) ps w.2 in omega (arith, others)
    all_below r i (declarator_goes c ps) w = let others = all_below r (suc i) ps w.2 in omega (arith, others)

loss_below : (f : Form) (t u : Tree) (n : ℕ) → Drops t u n → times f u ≤ times f t
loss_below f t u n w =
    let falls = kept_below f t (gone w.pruned) w.rounds Elsewhere w.pruned w.dead in
    omega (arith, falls, ap (times f) w.before, ap (times f) w.after)

losses_below : (f : Form) (t u : Tree) (n : ℕ) → DropsAgain t u n → times f u ≤ times f t
losses_below f _ _ _ (nothing_goes t) = omega arith
losses_below f _ _ _ (more_goes t u v m n others w) = omega (arith, losses_below f t u m others, loss_below f u v n w)

pub links_within : (o : CompressOptions) (n : ℕ) (t u : Tree) → Chain LosesDead (IsPass o) n t u → IsWithinEdition o.edition t u
links_within o _ _ _ (no_link t) f newer there = there
links_within o _ _ _ (a_loss n t u v c w) f newer there =
    let before = within o.edition u v (λ f newer. below_fewer f u v (losses_below f u v w.0 w.1)) f newer there in
    links_within o n t u c f newer before
links_within o _ _ _ (a_pass n t u v c p) f newer there =
    let before = passes_stay o (one_more 0 u u v (no_pass u) p.steps) f newer there in
    links_within o n t u c f newer before
