use Rattle.std.proofs.Common.{sym, ap, ◌∙◌}
use Rattle.std.specs.Prelude.{option_map}
use Rattle.mini_print.specs.Printed.{printer}
use Rattle.mini_grammar.specs.Views.{place_of, token_of}
use Rattle.mini_tokens.specs.Styles.{style_of}
use Rattle.mini_printer.proofs.Fronts.{front_forbids}
use Rattle.mini_printer.proofs.front.begins_forbidden.Goals as goal

pub returns-in-Some : goal.returns-in-Some
returns-in-Some c = λ e r.
    front_forbids (option_map token_of c.front_of.result) (token_of c.in-Some.token) c.args.restriction (λ r. (printer (style_of c.args.style) c.args.node.now).one (place_of c.args.there) r) (ap (option_map token_of) c.in-Some.is) (sym c.is_forbidden.ensures ∙ e) c.front_of.ensures r
