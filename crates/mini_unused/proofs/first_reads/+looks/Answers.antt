use Rattle.std.proofs.Common.{◌≤◌, subst, arith}
use Rattle.std.specs.Prelude.{Some}
use Rattle.mini_model.specs.Tree.{count}
use Rattle.mini_rows.specs.Unused.{names, holds_list, is_first}
use Rattle.mini_unused.specs.Looks.{Looked}
use Rattle.mini_unused.proofs.Looks.{looked_some, looked_there, none_there}
use Rattle.mini_unused.proofs.SingleUses.{place_start}
use Rattle.mini_unused.proofs.Standing.{before_step}
use Rattle.mini_unused.proofs.first_reads.+looks.Goals as goal

pub look-returns-in-Some : goal.look-returns-in-Some
look-returns-in-Some t c = looked_some c.args.name.now c.args.in_list c.args.node.now c.shape.result.now c.children-2.result.now c.in-Some.at c.in-Some.is_read c.reads_at.result c.shape.ensures c.children-2.ensures c.in-Some.ensures c.reads_at.ensures

pub look_along-loop-at-init : goal.look_along-loop-at-init
look_along-loop-at-init t c = place_start c.args.name.now c.args.nodes.now

pub look_along-returns-in-Some : goal.look_along-returns-in-Some
look_along-returns-in-Some t c =
    let x = c.args.name.now in
    let h = c.args.shape.now in
    looked_there (λ i. is_first x (holds_list h i)) x c.args.nodes.now c.loop-at.at c.child.result.now c.in-Some.is_read (omega arith) c.loop-at.invariant c.child.ensures.value (subst (λ l. Looked (Some c.in-Some.is_read) (names x c.child.result.now) (is_first x l c.child.result.now)) c.holds_list.ensures c.in-Some.ensures)

pub look_along-loop-at-preserved : goal.look_along-loop-at-preserved
look_along-loop-at-preserved t c = before_step c.args.name.now c.args.nodes.now c.loop-at.at _ c.child.result.now (omega arith) (omega arith) c.child.ensures.value c.in_default.ensures c.loop-at.invariant

pub look_along-returns : goal.look_along-returns
look_along-returns t c =
    let over : count c.args.nodes.now ≤ c.loop-at.at = omega arith in
    none_there c.args.name.now c.args.nodes.now c.loop-at.at over c.loop-at.invariant
