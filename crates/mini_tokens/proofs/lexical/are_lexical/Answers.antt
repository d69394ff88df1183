use Rattle.std.proofs.Common.{refl, sym, subst, ◌∙◌}
use Rattle.std.proofs.lemmas.Bool.{false≢true}
use Rattle.mini_print.specs.Text.{EachLexical}
use Rattle.mini_tokens.proofs.Lasts.{turned, stops, ends}
use Rattle.mini_tokens.proofs.lexical.are_lexical.Goals as goal

pub returns-then-not-is_lexical : goal.returns-then-not-is_lexical
returns-then-not-is_lexical c = (
  λ e. absurd (false≢true e),
  λ e. absurd (stops c.from_last-items.result.now c.loop-token.token-index _ c.loop-token-test.true (λ l. false≢true (sym c.if-not-is_lexical.true ∙ c.is_lexical.ensures.1 l)) c.loop-token.invariant ((turned c.from_last-items.result.now).1 (subst EachLexical (sym c.from_last-items.ensures) e))),
)

pub returns : goal.returns
returns c = (
  λ _. subst EachLexical c.from_last-items.ensures ((turned c.from_last-items.result.now).0 (ends c.from_last-items.result.now c.loop-token.token-index c.loop-token-test.false c.loop-token.invariant)),
  λ _. refl,
)
