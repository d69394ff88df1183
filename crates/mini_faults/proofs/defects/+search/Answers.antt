use Rattle.std.proofs.Common.{◌+◌, ◌∙◌, sym, ap, false, arith}
use Rattle.std.proofs.lemmas.Result.{IfOk-weaker}
use Rattle.mini_model.specs.Paths.{width}
use Rattle.mini_print.specs.Unprintable.{faults_among, faults_inside}
use Rattle.mini_faults.specs.Faults.{widths, Seeks}
use Rattle.mini_faults.proofs.Searches.{seeks_same, seeks_holder, all_left, goes, stops, ends_past}
use Rattle.mini_faults.proofs.defects.+search.Goals as goal

pub search-returns-else-is_missing : goal.search-returns-else-is_missing
search-returns-else-is_missing t c =
    let us = c.children.result.now in
    let i = c.args.at in
    IfOk-weaker c.search_all.result (λ s. Seeks s (faults_among false us i) (i + widths us)) (λ s. Seeks s (faults_inside c.args.label c.args.node.now i) (i + width c.args.node.now))
    (λ s k. seeks_holder s c.args.label c.args.node.now i (sym c.is_node.ensures ∙ c.if-is_node.false) (sym c.is_missing.ensures ∙ c.if-is_missing.false)
    (seeks_same s _ _ _ _ (ap (λ ts. faults_among false ts i) c.children.ensures) (ap (λ ts. i + widths ts) c.children.ensures) k))
    c.search_all.ensures

pub search_all-loop-i-init : goal.search_all-loop-i-init
search_all-loop-i-init t c = all_left c.args.label c.args.nodes.now c.args.at

pub search_all-returns-in-At : goal.search_all-returns-in-At
search_all-returns-in-At t c =
    stops c.args.label c.args.nodes.now c.args.at c.loop-i.i c.loop-i.place c.in-At.found c.in_ok-next.field-0 c.child.result.now (omega arith) c.in-At.is c.child.ensures.value c.in_ok-next.ensures c.loop-i.invariant

pub search_all-loop-i-preserved : goal.search_all-loop-i-preserved
search_all-loop-i-preserved t c =
    goes c.args.label c.args.nodes.now c.args.at c.loop-i.i c.loop-i.place c.in-Past.next c.in_ok-next.field-0 c.child.result.now (omega arith) c.in-Past.is c.child.ensures.value c.in_ok-next.ensures c.loop-i.invariant

pub search_all-returns : goal.search_all-returns
search_all-returns t c = ends_past c.args.label c.args.nodes.now c.args.at c.loop-i.i c.loop-i.place (omega arith) c.loop-i.invariant
