use Rattle.std.proofs.Common.{◌≡◌, ◌<◌, ◌-◌, ◌∙◌, arith, rules}
use Rattle.std.specs.Prelude.{Ok}
use Rattle.std.specs.Result.{result_err}
use Rattle.serde_json.specs.View.{view}
use Rattle.mini_accept.specs.WellShaped.{is_strict_in}
use Rattle.mini_accept.specs.Accept.{reads, read_children}
use Rattle.mini_fields.specs.Views.{place_of}
use Rattle.mini_plan.specs.Views.{child_of, plan_of}
use Rattle.mini_estree.specs.Reads.{Blames}
use Rattle.mini_estree.proofs.Nodes.{children_step, read_again, over_leaf, node_read, node_stop}
use Rattle.mini_estree.proofs.walk.+walk.Goals as goal

pub children-loop-below-preserved : goal.children-loop-below-preserved
children-loop-below-preserved t c =
    let d = view c.args.value.now in
    c.loop-below.invariant ∙ children_step (reads c.args.depth) c.args.strict d (child_of d) c.args.all.now c.loop-below.below-index c.loop-below.next c.in_ok-next.next _ c.loop-below.out c.child.new.out c.loop-below-test.true (read_again _ _ _ c.loop-below-test.true) c.in_ok-next.ensures.read

pub node-returns : goal.node-returns
node-returns t c =
    let d = view c.args.value.now in
    let x = plan_of d c.in-Ok.planned in
    let h : 0 < c.args.depth = omega arith in
    let below : read_children (reads (c.args.depth - 1)) (is_strict_in c.args.strict x.shape) d c.in_ok-number.first x.children ≡ Ok (c.in_ok-children.children, c.in_ok-children.next) = rw c.is_strict_in-inside.ensures at c.in_ok-children.ensures in
    node_read c.takes_number.result c.args.depth c.args.strict (place_of c.args.place) c.args.n c.in_ok-children.next c.in_ok-number.number c.in_ok-number.first d x c.in_ok-children.children c.over.result h c.in-Ok.ensures.planned c.takes_number.ensures
    c.in_ok-number.ensures.given.0 c.in_ok-number.ensures.given.1 below
    (over_leaf x.shape x.names c.in_ok-number.number c.in_ok-children.children c.in_ok-root.root c.over.result c.in_ok-root.ensures c.over.ensures)

pub node-returns-in_err-children : goal.node-returns-in_err-children
node-returns-in_err-children t c =
    let d = view c.args.value.now in
    let x = plan_of d c.in-Ok.planned in
    let h : 0 < c.args.depth = omega arith in
    let e = c.in_err-children.field-0.0 in
    let below : Blames e (result_err (read_children (reads (c.args.depth - 1)) (is_strict_in c.args.strict x.shape) d c.in_ok-number.first x.children)) = rw c.is_strict_in-inside.ensures at c.in_err-children.ensures in
    let stop : Blames e (result_err (reads c.args.depth c.args.strict (place_of c.args.place) c.args.n d)) = node_stop c.takes_number.result e c.args.depth c.args.strict (place_of c.args.place) c.args.n c.in_ok-number.first d x h c.in-Ok.ensures.planned c.takes_number.ensures c.in_ok-number.ensures.given.1 below in
    search (rules, stop)
