use Rattle.std.proofs.Common.{◌∙◌, ap, sym, arith}
use Rattle.mini_model.specs.Tree.{shape_of}
use Rattle.mini_node.specs.Walks.{from_first}
use Rattle.mini_rows.specs.Lists.{holds, encloses, all_enclose}
use Rattle.mini_held.proofs.Enclosing.{stops, goes_on, ends}
use Rattle.mini_held.proofs.held_names.+enclosing.Goals as goal

pub all_enclose-loop-at-init : goal.all_enclose-loop-at-init
all_enclose-loop-at-init t c = ap (all_enclose c.args.held c.args.shape.now 0) (from_first c.args.nodes.now)

pub all_enclose-returns-then-not-encloses : goal.all_enclose-returns-then-not-encloses
all_enclose-returns-then-not-encloses t c =
    stops c.args.held c.args.shape.now c.args.nodes.now c.loop-at.at (omega arith)
    (sym (
    c.encloses.ensures
    ∙ ap (λ b. encloses b c.child-child.result.now) (c.holds.ensures ∙ ap (holds c.args.held c.args.shape.now c.loop-at.at) c.shape.ensures)
    ∙ ap (λ u. encloses (holds c.args.held c.args.shape.now c.loop-at.at (shape_of u)) u) c.child-child.ensures.value
    )
    ∙ c.if-not-encloses.true)
    c.loop-at.invariant

pub all_enclose-loop-at-preserved : goal.all_enclose-loop-at-preserved
all_enclose-loop-at-preserved t c =
    goes_on c.args.held c.args.shape.now c.args.nodes.now c.loop-at.at (omega arith)
    (sym (
    c.encloses.ensures
    ∙ ap (λ b. encloses b c.child-child.result.now) (c.holds.ensures ∙ ap (holds c.args.held c.args.shape.now c.loop-at.at) c.shape.ensures)
    ∙ ap (λ u. encloses (holds c.args.held c.args.shape.now c.loop-at.at (shape_of u)) u) c.child-child.ensures.value
    )
    ∙ c.if-not-encloses.false)
    c.loop-at.invariant

pub all_enclose-returns : goal.all_enclose-returns
all_enclose-returns t c = ends c.args.held c.args.shape.now c.args.nodes.now c.loop-at.at (omega arith) c.loop-at.invariant
