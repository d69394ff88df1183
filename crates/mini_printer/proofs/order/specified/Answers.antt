use Rattle.std.proofs.Common.{ap, ◌∙◌}
use Rattle.mini_model.specs.Paths.{append}
use Rattle.mini_model.specs.Tree.{none, ◌▸◌}
use Rattle.mini_printer.proofs.Orders.{specified_by}
use Rattle.mini_printer.proofs.order.specified.Goals as goal

pub returns : goal.returns
returns c =
    let default = c.take_default-default in
    let namespace = c.take_namespace-namespace in
    c.in_ok-push.ensures.ok ∙ ap (λ us. append us (c.args.source ▸ none)) c.in_ok-parts.ensures
    ∙ ap (λ l. default.result ▸ namespace.result ▸ l ▸ c.args.source ▸ none) c.listed.ensures
    ∙ specified_by c.args.specifiers default.new.specifiers namespace.new.specifiers default.result namespace.result c.args.source default.ensures.value default.ensures.rest namespace.ensures.value namespace.ensures.rest
