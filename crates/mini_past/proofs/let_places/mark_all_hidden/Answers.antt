use Rattle.std.proofs.Common.{◌<◌, ◌≤◌, ◌+◌, arith}
use Rattle.std.specs.Prelude.{not}
use Rattle.mini_model.specs.Tree.{count}
use Rattle.mini_node.specs.Children.{first_children}
use Rattle.mini_rows.specs.Past.{all_of, lets_at_most}
use Rattle.mini_past.proofs.FirstPlaces.{marked_by, marked_none, marked_both, none_first, more_first, all_there}
use Rattle.mini_past.proofs.let_places.mark_all_hidden.Goals as goal

pub loop-at-init : goal.loop-at-init
loop-at-init c = marked_none (λ k. not (all_of (lets_at_most c.args.is_lexical k) (first_children 0 c.args.declarators.now))) 0 c.args.places.now (λ k. none_first (lets_at_most c.args.is_lexical k) c.args.declarators.now)

pub loop-at-preserved : goal.loop-at-preserved
loop-at-preserved c =
    let p = lets_at_most c.args.is_lexical in
    let ds = c.args.declarators.now in
    let at = c.loop-at.at in
    let child = c.child.result.now in
    let inside : at < count ds = omega arith in
    marked_both (λ k. not (all_of (p k) (first_children at ds))) (λ k. not (p k child)) (λ k. not (all_of (p k) (first_children (at + 1) ds))) 0 c.args.places.now c.loop-at.places c.mark_hidden.new.places
    (λ k. more_first (p k) ds at (at + 1) child (omega arith) inside c.child.ensures.value) c.loop-at.invariant c.in_ok-mark_hidden.ensures

pub returns : goal.returns
returns c =
    let p = lets_at_most c.args.is_lexical in
    let ds = c.args.declarators.now in
    let at = c.loop-at.at in
    let over : count ds ≤ at = omega arith in
    marked_by (λ k. not (all_of (p k) (first_children at ds))) (λ k. not (all_of (p k) ds)) 0 c.args.places.now c.loop-at.places (λ k. all_there (p k) ds at over) c.loop-at.invariant
