use Rattle.std.proofs.Common.{◌<◌, ◌+◌, arith}
use Rattle.std.specs.Prelude.{not}
use Rattle.mini_model.specs.Tree.{count}
use Rattle.mini_node.specs.Children.{first_children}
use Rattle.mini_rows.specs.Past.{all_of}
use Rattle.mini_past.specs.LetPlaces.{passes_here}
use Rattle.mini_past.proofs.FirstPlaces.{marked_none, marked_both, none_first, more_first}
use Rattle.mini_past.proofs.let_places.mark_statements.Goals as goal

pub loop-at-init : goal.loop-at-init
loop-at-init c = marked_none (λ k. not (all_of (passes_here c.args.by_let k) (first_children 0 c.args.statements.now))) 0 c.args.places.now (λ k. none_first (passes_here c.args.by_let k) c.args.statements.now)

pub loop-at-preserved : goal.loop-at-preserved
loop-at-preserved c =
    let p = passes_here c.args.by_let in
    let ts = c.args.statements.now in
    let at = c.loop-at.at in
    let child = c.child.result.now in
    let inside : at < count ts = omega arith in
    marked_both (λ k. not (all_of (p k) (first_children at ts))) (λ k. not (p k child)) (λ k. not (all_of (p k) (first_children (at + 1) ts))) 0 c.args.places.now c.loop-at.places c.mark_here.new.places
    (λ k. more_first (p k) ts at (at + 1) child (omega arith) inside c.child.ensures.value) c.loop-at.invariant c.in_ok-mark_here.ensures
