use Rattle.std.proofs.Common.{◌∙◌, [], ◌∷◌}
use Rattle.std.proofs.lemmas.Result.{IfOk-weaker}
use Rattle.mini_scope.proofs.Opened.{padded}
use Rattle.mini_scope.proofs.opening.OpenScopes.one.Goals as goal

pub returns : goal.returns
returns c a h = IfOk-weaker c.filled.result _ _ (λ o e. e ∙ padded (a ∷ [] ∷ []) ∙ padded (a ∷ [])) (c.filled.ensures a [] [] h c.new.ensures.items c.new-2.ensures.items)
