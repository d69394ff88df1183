use Rattle.std.proofs.Common.{◌<◌, nat_eq, sym, ap, subst, ◌∙◌}
use Rattle.std.proofs.lemmas.Result.{IfOk-weaker}
use Rattle.mini_model.specs.Tree.{count, children}
use Rattle.mini_printer.specs.Ordered.{IsUnlinked}
use Rattle.mini_printer.proofs.Orders.{positive, not_empty, chained}
use Rattle.mini_printer.proofs.order.linked.Goals as goal

pub chain-requires : goal.chain-requires
chain-requires c = subst (λ us. 0 < count us) (sym c.in_ok-push.ensures.ok) (not_empty c.take_links.new.links c.take_object.new.link)

pub returns : goal.returns
returns c =
    let filled : 0 < count (children c.args.expression) = positive (count (children c.args.expression)) (ap (λ us. nat_eq (count us) 0) (sym c.children-2.ensures) ∙ sym c.is_empty.ensures ∙ c.if-is_empty.false) in
    let object = subst (λ u. IsUnlinked c.in_ok-object.object u c.take_links.new.links) c.take_object.ensures.value c.in_ok-object.ensures in
    IfOk-weaker c.chain.result _ _
    (λ made e. e ∙ chained c.in_ok-object.object c.args.expression c.take_object.new.link c.into_base-base.result c.take_links.new.links c.push.new.self filled object c.take_object.ensures.rest c.in_ok-push.ensures.ok c.into_base-base.ensures)
    c.chain.ensures
