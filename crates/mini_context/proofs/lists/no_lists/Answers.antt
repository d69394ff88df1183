use Rattle.std.proofs.Common.{◌∙◌, ◌++◌, ◌∷◌, [], ap, replicate}
use Rattle.std.proofs.lemmas.List.{replicate_more}
use Rattle.mini_context.proofs.lists.no_lists.Goals as goal

pub loop-done-preserved : goal.loop-done-preserved
loop-done-preserved c =
    c.in-Ok.ensures.items
    ∙ ap (λ l. l ++ c.new.result ∷ []) c.loop-done.invariant
    ∙ ap (λ x. replicate c.loop-done.done [] ++ x ∷ []) c.new.ensures
    ∙ replicate_more c.loop-done.done []
