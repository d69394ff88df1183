use Rattle.std.proofs.Common.{sym, subst, ◌∙◌}
use Rattle.mini_printer.specs.Ordered.{IsUnlinked}
use Rattle.mini_printer.proofs.Orders.{base_pushed}
use Rattle.mini_printer.proofs.order.+take_links.Goals as goal

pub returns-in-Base : goal.returns-in-Base
returns-in-Base t c =
    base_pushed c.push_link.result c.in_ok-object.object c.in-Base.base c.args.node c.take_object.new.link c.take_links.new.links c.push_link.new.links
    (sym c.is_link.ensures.kind ∙ c.if-not-is_link.false) c.in-Base.is
    (subst (λ u. IsUnlinked c.in_ok-object.object u c.take_links.new.links) c.take_object.ensures.value c.in_ok-object.ensures)
    c.take_object.ensures.rest c.push_link.ensures.object c.push_link.ensures.links
