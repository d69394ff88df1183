use Rattle.std.proofs.Common.{◌∙◌, ap, sym, subst, arith}
use Rattle.std.proofs.lemmas.Result.{IfOk-weaker}
use Rattle.mini_model.specs.Tree.{children, count}
use Rattle.mini_replay.specs.Seeking.{SoughtBelow}
use Rattle.mini_replay.proofs.Indices.{none_before, one_more, at_most}
use Rattle.mini_replay.proofs.Searches.{sought_here, nowhere_yet, nowhere_next, nothing_below, in_node, at_found, at_beside}
use Rattle.mini_replay.proofs.seeking.+seeking.Goals as goal

pub seek-returns-in-None : goal.seek-returns-in-None
seek-returns-in-None g t c =
    let F = g.S.Making.makes c.args.rows.now in
    IfOk-weaker c.seek_own.result _ _
    (λ o own. sought_here F c.args.place c.args.node.now o (subst (SoughtBelow F c.args.place c.args.node.now 0) c.in-None.is c.in_ok-found.ensures) own)
    c.seek_own.ensures

pub seek_below-loop-at-init : goal.seek_below-loop-at-init
seek_below-loop-at-init g t c = record {
  first = none_before (children c.args.node.now);
  none = nowhere_yet (g.S.Making.makes c.args.rows.now) c.args.place c.args.node.now;
}

pub seek_below-loop-at-preserved : goal.seek_below-loop-at-preserved
seek_below-loop-at-preserved g t c = record {
  first =
      one_more (children c.args.node.now) c.loop-at.at c.loop-at.first c.in_ok-width.width c.in_ok-end.end c.child.result.now (omega (arith, ap count c.children.ensures)) c.child.ensures.value c.in_ok-width.ensures c.in_ok-end.ensures
      c.loop-at.invariant.first;
  none =
      nowhere_next (g.S.Making.makes c.args.rows.now) c.args.place c.args.node.now c.args.base c.loop-at.at c.in_ok-found.field-0 c.in-None.is c.in_ok-found.ensures c.loop-at.invariant.none;
}

pub seek_below-returns : goal.seek_below-returns
seek_below-returns g t c =
    nothing_below (g.S.Making.makes c.args.rows.now) c.args.place c.args.node.now c.args.base (λ k h. c.loop-at.invariant.none k (omega (arith, h, ap count c.children.ensures)))

pub seek_in-returns-in_ok-found : goal.seek_in-returns-in_ok-found
seek_in-returns-in_ok-found g t c =
    IfOk-weaker c.go_on.result _ _
    (λ o l.
    in_node (g.S.Making.makes c.args.rows.now) c.args.place c.args.node.now c.args.index c.in_ok-found.found o (sym c.is_node.ensures ∙ c.if-is_node.true) c.in_ok-found.ensures l)
    c.go_on.ensures

pub seek_at-returns-in-Some : goal.seek_at-returns-in-Some
seek_at-returns-in-Some g t c =
    at_found (g.S.Making.makes c.args.rows.now) c.args.place c.args.node.now c.args.base c.args.spot.at c.args.spot.first c.in_ok-index.index c.child_place-stands.result c.child.result.now c.len.result c.shape.result.now
    c.in_ok-found.field-0 c.in-Some.found c.requires.within c.child.ensures.value c.shape.ensures (c.len.ensures ∙ ap count c.children.ensures) c.child_place-stands.ensures c.requires.first c.in_ok-index.ensures c.in-Some.is c.in_ok-found.ensures

pub seek_at-returns-in-None : goal.seek_at-returns-in-None
seek_at-returns-in-None g t c =
    let most = at_most (children c.args.node.now) c.args.spot.at c.requires.within in
    IfOk-weaker c.seek_between.result _ _
    (λ u beside.
    at_beside (g.S.Making.makes c.args.rows.now) c.args.place c.args.node.now c.args.base c.args.spot.at c.args.spot.first c.args.spot.end c.in_ok-index.index c.child_place-stands.result c.child.result.now c.len.result c.shape.result.now
    c.in_ok-found.field-0 u c.child.ensures.value c.shape.ensures (c.len.ensures ∙ ap count c.children.ensures) c.child_place-stands.ensures c.requires.first c.requires.end c.in-None.is c.in_ok-found.ensures beside)
    (c.seek_between.ensures (omega (arith, most, c.requires.first, c.requires.end)))
