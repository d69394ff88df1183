use Rattle.std.proofs.Common.{sym, ◌∙◌}
use Rattle.std.specs.Prelude.{option_map}
use Rattle.mini_grammar.specs.Views.{token_of}
use Rattle.mini_places.proofs.Asked.{as_before, first_told}
use Rattle.mini_places.proofs.lookahead.undirect.Goals as goal

pub returns-then-not-is_directive : goal.returns-then-not-is_directive
returns-then-not-is_directive c =
    as_before c.args.tokens.now (token_of c.in-Some.first) (option_map token_of c.second.result) (first_told c.in-Some.first c.first.result c.args.tokens.now c.in-Some.is c.first.ensures) c.second.ensures (sym c.is_directive.ensures ∙ c.if-not-is_directive.true)
