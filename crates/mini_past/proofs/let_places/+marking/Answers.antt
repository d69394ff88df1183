use Rattle.std.proofs.Common.{◌<◌, ◌≤◌, ◌+◌, ◌∙◌, sym, ap, arith}
use Rattle.std.specs.Prelude.{◌&&◌, ◌||◌, not}
use Rattle.mini_model.specs.Tree.{count, shape_of}
use Rattle.mini_node.specs.Children.{first_children, names_of}
use Rattle.mini_rows.specs.Past.{is_binding, has_symbol, binds, any_bind, all_of, spares}
use Rattle.mini_past.proofs.FirstPlaces.{marked_by, marked_none, marked_both, on_ok, whole, spared, none_first, more_first, all_there, bound_there}
use Rattle.mini_past.proofs.let_places.+marking.Goals as goal

pub mark_all-loop-at-init : goal.mark_all-loop-at-init
mark_all-loop-at-init t c = marked_none (λ k. not (all_of (spares k) (first_children 0 c.args.nodes.now))) c.args.place c.args.places.now (λ k. none_first (spares k) c.args.nodes.now)

pub mark_all-loop-at-preserved : goal.mark_all-loop-at-preserved
mark_all-loop-at-preserved t c =
    let ts = c.args.nodes.now in
    let at = c.loop-at.at in
    let child = c.child.result.now in
    let inside : at < count ts = omega arith in
    marked_both (λ k. not (all_of (spares k) (first_children at ts))) (λ k. binds k child) (λ k. not (all_of (spares k) (first_children (at + 1) ts))) c.args.place c.args.places.now c.loop-at.places c.mark_names.new.places
    (λ k. more_first (spares k) ts at (at + 1) child (omega arith) inside c.child.ensures.value ∙ ap (λ b. not (all_of (spares k) (first_children at ts)) || b) (sym (bound_there k child)))
    c.loop-at.invariant c.in_ok-mark_names.ensures

pub mark_all-returns : goal.mark_all-returns
mark_all-returns t c =
    let ts = c.args.nodes.now in
    let at = c.loop-at.at in
    let over : count ts ≤ at = omega arith in
    marked_by (λ k. not (all_of (spares k) (first_children at ts))) (λ k. any_bind k ts) c.args.place c.args.places.now c.loop-at.places (λ k. all_there (spares k) ts at over ∙ sym (spared k ts)) c.loop-at.invariant

pub mark_names-returns : goal.mark_names-returns
mark_names-returns t c =
    let n = c.args.node.now in
    on_ok c.mark_all.result
    (λ m. marked_both (λ k. is_binding (shape_of n) && has_symbol k (names_of n)) (λ k. any_bind k c.children.result.now) (λ k. binds k n) c.args.place c.args.places.now c.mark_own.new.places c.mark_all.new.places
    (λ k. whole n k ∙ ap (λ us. (is_binding (shape_of n) && has_symbol k (names_of n)) || any_bind k us) (sym c.children.ensures))
    c.in_ok-mark_own.ensures m)
    c.mark_all.ensures
