use Rattle.std.proofs.Common.{◌≡◌, ◌++◌, [], ◌∷◌, ap, subst, ◌∙◌}
use Rattle.std.specs.Prelude.{OnOk}
use Rattle.mini_print.specs.Text.{escaped}
use Rattle.mini_tokens.proofs.Literals.{literal_said}
use Rattle.mini_tokens.proofs.quotes.push_literal.Goals as goal

pub returns : goal.returns
returns c =
    subst (λ s. OnOk c.push-2.result (c.push-2.new.self ≡ s))
    (ap (λ s. s ++ 34 ∷ []) (c.in_ok-push_escapes.ensures ∙ ap (λ s. s ++ escaped c.args.units.now) c.in_ok-push.ensures.ok) ∙ literal_said c.args.text.now c.args.units.now)
    c.push-2.ensures.ok
