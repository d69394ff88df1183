use Rattle.std.proofs.Common.{◌∙◌, sym, ap}
use Rattle.std.specs.Option.{option_copied}
use Rattle.mini_node.specs.Children.{trees_of}
use Rattle.mini_print.specs.Printed as printed
use Rattle.mini_grammar.proofs.Leads.{shape_by}
use Rattle.mini_grammar.proofs.parts.element_rule.Goals as goal

pub returns-in-Some : goal.returns-in-Some
returns-in-Some c = c.element_of.ensures ∙ ap (λ h. printed.element_of (printed.taker h)) (c.shape.ensures ∙ sym (shape_by c.in-Some.part.now (trees_of c.args.parts.now) (sym c.first_part.ensures ∙ ap option_copied c.in-Some.is)))
