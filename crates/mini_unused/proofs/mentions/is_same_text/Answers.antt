use Rattle.std.proofs.Common.{◌∙◌}
use Rattle.mini_model.specs.Weight.{same_text}
use Rattle.mini_unused.proofs.Texts.{texts_apart}
use Rattle.mini_unused.proofs.mentions.is_same_text.Goals as goal

pub returns-then-not-ends_alike : goal.returns-then-not-ends_alike
returns-then-not-ends_alike c =
    texts_apart c.as_slice-left.result.now c.as_slice-right.result.now c.ends_alike.result c.ends_alike.ensures.same c.if-not-ends_alike.true
    ∙ (λ k. same_text (c.as_slice-left.ensures k) (c.as_slice-right.ensures k))
