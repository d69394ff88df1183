use Rattle.std.proofs.Common.{◌<◌, ◌≤◌, ◌∙◌, sym, ap, subst, arith}
use Rattle.mini_model.specs.Tree.{count, children, first_or_absent}
use Rattle.mini_model.specs.Paths.{child_at}
use Rattle.mini_laws.specs.declared.names.Declared.TheVariants as declared
use Rattle.mini_laws.specs.DeclaredNames.{names_of, all_names}
use Rattle.mini_context.specs.Tables.{Marked}
use Rattle.mini_context.proofs.Gathering.{begins, turn, finished}
use Rattle.mini_context.proofs.Marking.{marks_add, names_gather, named_by, first_is, got_falls}
use Rattle.mini_context.proofs.marks.+marks.Goals as goal

pub mark_all_names-loop-at-init : goal.mark_all_names-loop-at-init
mark_all_names-loop-at-init t c = begins Marked (λ i us. all_names c.args.declared us) c.args.nodes.now c.args.marks.now.items

pub mark_all_names-loop-at-preserved : goal.mark_all_names-loop-at-preserved
mark_all_names-loop-at-preserved t c =
    let inside : c.loop-at.at < count c.args.nodes.now = omega arith in
    let d = c.args.declared in
    turn Marked (λ i us. names_of d (first_or_absent us)) (λ i us. all_names d us) marks_add (names_gather d) c.args.nodes.now c.loop-at.at c.child.result.now _ _ _ inside c.child.ensures.value c.mark_names.ensures c.loop-at.invariant

pub mark_all_names-returns : goal.mark_all_names-returns
mark_all_names-returns t c =
    let over : count c.args.nodes.now ≤ c.loop-at.at = omega arith in
    let d = c.args.declared in
    finished Marked (λ i us. names_of d (first_or_absent us)) (λ i us. all_names d us) marks_add (names_gather d) c.args.nodes.now c.loop-at.at _ _ over c.loop-at.invariant

pub mark_names-mark_names-requires : goal.mark_names-mark_names-requires
mark_names-mark_names-requires t c = (omega (arith, c.decreases, got_falls c.args.node.now c.children-nodes.result.now 0 c.in-Some.first.now c.children-nodes.ensures c.in-Some.ensures.value), tt)

pub mark_names-returns-in-Here : goal.mark_names-returns-in-Here
mark_names-returns-in-Here t c = subst (λ ns. Marked ns c.args.marks.now.items c.mark_own_name.new.marks.items) (sym (named_by c.args.declared c.args.node.now _ _ c.in-Here.ensures c.shape.ensures)) c.mark_own_name.ensures

pub mark_names-returns-in-Some : goal.mark_names-returns-in-Some
mark_names-returns-in-Some t c = subst (λ ns. Marked ns c.args.marks.now.items c.mark_names.new.marks.items)
    (sym (named_by c.args.declared c.args.node.now _ _ c.in-FirstBound.ensures c.shape.ensures ∙ first_is (children c.args.node.now) _ (c.in-Some.ensures.value ∙ ap (λ us. child_at us 0) c.children-nodes.ensures))) c.mark_names.ensures

pub mark_names-returns-in_default : goal.mark_names-returns-in_default
mark_names-returns-in_default t c = subst (λ ns. Marked ns c.args.marks.now.items c.args.marks.now.items)
    (sym (named_by c.args.declared c.args.node.now _ _ c.in-FirstBound.ensures c.shape.ensures ∙ first_is (children c.args.node.now) _ (c.in_default.ensures.value ∙ ap (λ us. child_at us 0) c.children-nodes.ensures))) (marks_add.nothing c.args.marks.now.items)

pub mark_names-returns-in-Bound : goal.mark_names-returns-in-Bound
mark_names-returns-in-Bound t c = subst (λ ns. Marked ns c.args.marks.now.items c.mark_all_names.new.marks.items)
    (ap (all_names declared.Bound) c.children-nodes.ensures ∙ sym (named_by c.args.declared c.args.node.now _ _ c.in-Bound.ensures c.shape.ensures)) c.mark_all_names.ensures

pub mark_names-returns-in-Below : goal.mark_names-returns-in-Below
mark_names-returns-in-Below t c = subst (λ ns. Marked ns c.args.marks.now.items c.mark_all_names-in-Below.new.marks.items)
    (ap (all_names c.args.declared) c.children-nodes.ensures ∙ sym (named_by c.args.declared c.args.node.now _ _ c.in-Below.ensures c.shape.ensures)) c.mark_all_names-in-Below.ensures

pub mark_names-returns-in-Nowhere : goal.mark_names-returns-in-Nowhere
mark_names-returns-in-Nowhere t c = subst (λ ns. Marked ns c.args.marks.now.items c.args.marks.now.items) (sym (named_by c.args.declared c.args.node.now _ _ c.in-Nowhere.ensures c.shape.ensures)) (marks_add.nothing c.args.marks.now.items)
