use Rattle.std.proofs.Common.{◌≡◌, ◌∙◌, ap, subst, arith}
use Rattle.std.specs.Prelude.{None, Some}
use Rattle.mini_model.specs.Paths.{width}
use Rattle.mini_checker.specs.Made.{beyond}
use Rattle.mini_checker.proofs.Walks.{begins, goes_on, halts_at, halts_left, ends_at, ends_left, none_among, all_past}
use Rattle.mini_checker.proofs.walking.+indices.Goals as goal

pub find-loop-at-init : goal.find-loop-at-init
find-loop-at-init t c = begins c.args.nodes.now c.args.index

pub find-returns-in-None-clause-child : goal.find-returns-in-None-clause-child
find-returns-in-None-clause-child t c =
    halts_at c.args.nodes.now c.args.index c.loop-at.at c.loop-at.left (omega arith) (subst (λ x. None ≡ beyond (width x) c.loop-at.left) c.child.ensures.value c.in-None.ensures) c.loop-at.invariant

pub find-returns-in-None-clause-index : goal.find-returns-in-None-clause-index
find-returns-in-None-clause-index t c =
    halts_left c.args.nodes.now c.args.index c.loop-at.at c.loop-at.left (omega arith) (subst (λ x. None ≡ beyond (width x) c.loop-at.left) c.child.ensures.value c.in-None.ensures) c.loop-at.invariant

pub find-loop-at-preserved : goal.find-loop-at-preserved
find-loop-at-preserved t c =
    goes_on c.args.nodes.now c.args.index c.loop-at.at c.loop-at.left c.in-Some.rest (omega arith) (subst (λ x. Some c.in-Some.rest ≡ beyond (width x) c.loop-at.left) c.child.ensures.value c.in-Some.ensures) c.loop-at.invariant

pub find-returns-clause-child : goal.find-returns-clause-child
find-returns-clause-child t c =
    let whole : c.len.result ≡ c.loop-at.at = omega arith in
    whole ∙ ends_at c.args.nodes.now c.args.index c.loop-at.at c.loop-at.left (omega arith) c.loop-at.invariant

pub find-returns-clause-index : goal.find-returns-clause-index
find-returns-clause-index t c = ends_left c.args.nodes.now c.args.index c.loop-at.at c.loop-at.left (omega arith) c.loop-at.invariant

pub pass_all-returns-then-at-len : goal.pass_all-returns-then-at-len
pass_all-returns-then-at-len t c = none_among c.args.nodes.now c.args.index (omega arith)

pub pass_all-returns-else-at-len : goal.pass_all-returns-else-at-len
pass_all-returns-else-at-len t c = ap Some c.find-at.ensures.index ∙ all_past c.args.nodes.now c.args.index (omega arith)
