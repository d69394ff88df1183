use Rattle.std.proofs.Common.{◌<◌, sym, ap, subst, ◌∙◌}
use Rattle.mini_model.specs.Tree.{children, count}
use Rattle.mini_logic.proofs.DeMorganParts.{still_within}
use Rattle.mini_logic.proofs.rewrites.de_morgan_for_void_expr.with_turned.Goals as goal

pub replace-requires : goal.replace-requires
replace-requires c =
    subst (λ ts. c.args.at < count ts) (sym c.take-part.ensures.rest)
    (still_within _ c.args.at _ (subst (λ ts. c.args.at < count ts) (sym (c.into_children-parts.ensures.value ∙ ap children c.one.ensures.value)) c.requires))
