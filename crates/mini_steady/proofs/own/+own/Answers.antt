use Rattle.std.proofs.Common.{ap, sym, ◌∙◌, refl, arith}
use Rattle.mini_model.specs.Tree.{count}
use Rattle.mini_tree.proofs.Walks.{child_smaller}
use Rattle.mini_rows.specs.Steady.{enters_lexical}
use Rattle.mini_steady.specs.Declarations.{begun_by, known_there}
use Rattle.mini_steady.specs.Own.{rows_there}
use Rattle.mini_unused.specs.Allowed.{switches_of}
use Rattle.mini_steady.proofs.Begun.{rows_read, applied_same, walked_same, as_was, begun_first, begun_walked, begun_left}
use Rattle.mini_steady.proofs.Owning.{edited_count, walked_none, walked_child, walked_all, walked_both, walked_closed}
use Rattle.mini_steady.proofs.own.+own.Goals as goal

pub minimize_own_code-returns-then-not-is_open-clause-walked : goal.minimize_own_code-returns-then-not-is_open-clause-walked
minimize_own_code-returns-then-not-is_open-clause-walked g t c =
    let o = switches_of (g.S.SteadyNames.orders c.args.steady.now) in
    let S = g.S.SteadyNames.sets c.args.steady.now in
    let body = c.args.body.now in
    walked_closed (rows_there (g.W.OwnRewrites.rows o) S body) (rows_read (g.W.OwnRewrites.rows o) (g.met.W.OwnRewrites.keeps o) S body) (λ L. g.met.W.OwnRewrites.opens o (known_there S body L)) (begun_by body) c.args.place c.args.node.now (sym c.is_open.ensures ∙ c.if-not-is_open.true)

pub minimize_own_code-returns-then-not-is_open-clause-body : goal.minimize_own_code-returns-then-not-is_open-clause-body
minimize_own_code-returns-then-not-is_open-clause-body g t c = as_was c.args.body.now

pub minimize_own_code-returns-clause-walked : goal.minimize_own_code-returns-clause-walked
minimize_own_code-returns-clause-walked g t c =
    let o = switches_of (g.S.SteadyNames.orders c.args.steady.now) in
    let S = g.S.SteadyNames.sets c.args.steady.now in
    let body = c.args.body.now in
    walked_both (rows_there (g.W.OwnRewrites.rows o) S body) (rows_read (g.W.OwnRewrites.rows o) (g.met.W.OwnRewrites.keeps o) S body) (begun_by body) _ _ _ _ _ _ c.in_ok-below.ensures.walked
    (applied_same (g.W.OwnRewrites.rows o) S body c.minimize_parts.new.body c.args.place _ _ _ c.in_ok-below.ensures.body c.in_ok-here.ensures)

pub minimize_own_code-returns-clause-body : goal.minimize_own_code-returns-clause-body
minimize_own_code-returns-clause-body g t c = c.in_ok-below.ensures.body

pub minimize_parts-minimize_own_code-requires : goal.minimize_parts-minimize_own_code-requires
minimize_parts-minimize_own_code-requires g t c κs within =
    let as_before = c.loop-at.invariant.0.rest c.loop-at.at (omega arith) in
    let small = child_smaller c.args.node.now c.loop-at.node _ _ c.loop-at.at c.children_mut.ensures.value c.child_mut-child.ensures.value as_before (omega (arith, c.len-count.ensures, ap count c.children.ensures, c.loop-at-test.true)) in
    (omega (arith, c.decreases, small), within)

pub minimize_parts-loop-at-init : goal.minimize_parts-loop-at-init
minimize_parts-loop-at-init g t c =
    let o = switches_of (g.S.SteadyNames.orders c.args.steady.now) in
    let S = g.S.SteadyNames.sets c.args.steady.now in
    let body = c.args.body.now in (
      walked_none (rows_there (g.W.OwnRewrites.rows o) S body) (rows_read (g.W.OwnRewrites.rows o) (g.met.W.OwnRewrites.keeps o) S body) (begun_by body) c.args.place c.args.node.now c.requires,
      begun_first c.args.place c.args.node.now body c.enter_children.new.code c.enter_children.ensures.number c.enter_children.ensures.declared c.enter_children.ensures.begun (c.enter_children.ensures.in_lexical ∙ c.enters_lexical.ensures ∙ (λ i. enters_lexical (c.is_in_lexical-was_lexical.ensures i) (c.shape.ensures i) c.args.place)),
    )

pub minimize_parts-push_behind-requires : goal.minimize_parts-push_behind-requires
minimize_parts-push_behind-requires g t c =
    let same = edited_count c.loop-at.node _ c.loop-at.at c.minimize_own_code.new.node _ c.children_mut.ensures.value c.loop-at.invariant.0.counted in
    omega (arith, c.loop-at-test.true, c.len-count.ensures, ap count c.children.ensures, same)

pub minimize_parts-loop-at-preserved : goal.minimize_parts-loop-at-preserved
minimize_parts-loop-at-preserved g t c =
    let o = switches_of (g.S.SteadyNames.orders c.args.steady.now) in
    let F = g.W.OwnRewrites.rows o in
    let S = g.S.SteadyNames.sets c.args.steady.now in
    let body = c.args.body.now in
    let now = c.loop-at.body in
    let begun = c.loop-at.invariant.1 in
    let R = rows_there F S body in
    let reads = rows_read F (g.met.W.OwnRewrites.keeps o) S body in
    let walked = walked_same F S body now (begun_by now) (begun_by now) _ _ _ _ begun.number begun.declared refl c.in_ok-part.ensures.walked in
    let counted = c.len-count.ensures ∙ ap count c.children.ensures in
    let next = walked_child R reads (begun_by body) (begun_by now) _ _ _ c.len-count.result c.loop-at.at _ c.loop-at.node _ _ _ c.loop-at.changed _
    (c.child_place-stands.ensures, c.shape-in-loop-at.ensures, counted, c.children_mut.ensures.value, c.child_mut-child.ensures.value) begun.begun
    (omega (arith, c.loop-at-test.true)) c.loop-at.invariant.0 walked in
    (next, begun_walked R (begun_by body) c.args.place c.args.node.now _ c.loop-at.at _ c.is_in_lexical-was_lexical.result body now c.minimize_own_code.new.body c.push_behind.new.code next c.is_in_lexical-was_lexical.ensures begun c.in_ok-part.ensures.body c.in_ok-push_behind.ensures)

pub minimize_parts-returns-clause-walked : goal.minimize_parts-returns-clause-walked
minimize_parts-returns-clause-walked g t c =
    let o = switches_of (g.S.SteadyNames.orders c.args.steady.now) in
    let S = g.S.SteadyNames.sets c.args.steady.now in
    let body = c.args.body.now in
    walked_all (rows_there (g.W.OwnRewrites.rows o) S body) (rows_read (g.W.OwnRewrites.rows o) (g.met.W.OwnRewrites.keeps o) S body) (begun_by body) _ c.loop-at.at _ _ c.loop-at.changed (omega (arith, c.len-count.ensures, ap count c.children.ensures, c.loop-at-test.false, c.loop-at.auto)) c.loop-at.invariant.0

pub minimize_parts-returns-clause-body : goal.minimize_parts-returns-clause-body
minimize_parts-returns-clause-body g t c =
    begun_left c.args.place c.args.node.now c.loop-at.at c.begun_count-before.result c.is_in_lexical-was_lexical.result c.args.body.now c.loop-at.body c.leave_children.new.code c.begun_count-before.ensures c.is_in_lexical-was_lexical.ensures c.loop-at.invariant.1
    c.leave_children.ensures.number c.leave_children.ensures.declared c.leave_children.ensures.begun c.leave_children.ensures.in_lexical
