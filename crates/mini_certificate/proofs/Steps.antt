-- What a context knows of a program whose names were just resolved.
use Rattle.std.proofs.Common.{◌≡◌, sym, subst}
use Rattle.mini_model.specs.Tree.{Tree}
use Rattle.mini_laws.specs.Resolved.{symbols}
use Rattle.mini_laws.specs.declared.names.Use.TheVariants.{Read}
use Rattle.mini_tree.specs.declared.options.CompressOptions.{CompressOptions}
use Rattle.mini_context.specs.declared.context.TraverseCtx.{TraverseCtx}
use Rattle.mini_context.specs.Facts.{Facts, Tells}
use Rattle.mini_context.specs.Known.{Knows}
use Rattle.mini_context.proofs.Known.{known_at_first}

pub knows_first : (scopes : Facts) (context : TraverseCtx) (o : CompressOptions) (first resolved : Tree) → context.scopes ≡ scopes → context.options ≡ o → Tells scopes (symbols Read first) resolved → Knows context o resolved
knows_first scopes context o first resolved same options tells = known_at_first context o (symbols Read first) resolved options (subst (λ f. Tells f (symbols Read first) resolved) (sym same) tells)
