use Rattle.std.proofs.Common.{◌<◌, length, sym, ap, ◌∙◌, arith}
use Rattle.mini_model.specs.declared.shape.Shape.TheVariants as shape
use Rattle.mini_model.specs.Paths.{append}
use Rattle.mini_model.specs.Tree.{none, ◌▸◌, leaf}
use Rattle.mini_print.specs.Printed as printed
use Rattle.mini_printer.proofs.Orders.{directives_step, directives_end}
use Rattle.mini_printer.proofs.order.directives.Goals as goal

pub loop-at-preserved : goal.loop-at-preserved
loop-at-preserved c =
    let same = c.loop-at.invariant.same in
    let within : c.loop-at.at < length c.loop-at.texts = omega (arith, same, c.len-at-end.ensures, c.loop-at-test.true) in
    record {
      same = c.take_text.ensures.count ∙ same;
      made = ap (λ texts. append c.push.new.self (printed.directives texts)) c.take_text.ensures.rest
          ∙ sym (directives_step c.loop-at.texts c.loop-at.at c.loop-at.nodes c.push.new.self within (c.in_ok-push.ensures.ok ∙ ap (λ t. append c.loop-at.nodes (t ▸ none)) (c.string_literal.ensures ∙ ap (λ s. leaf (shape.StringLiteral s)) c.take_text.ensures.value)))
          ∙ c.loop-at.invariant.made;
    }

pub returns : goal.returns
returns c =
    let same = c.loop-at.invariant.same in
    sym (directives_end c.loop-at.texts c.loop-at.at c.loop-at.nodes (omega (arith, same, c.len-at-end.ensures, c.loop-at-test.false))) ∙ c.loop-at.invariant.made
