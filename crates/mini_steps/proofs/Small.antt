-- The program of the test has no names.
use Rattle.std.specs.Prelude.{◌≡◌, ◌+◌, ◌<◌, ◌^◌, refl, [], length}
use Rattle.std.proofs.Common.{sym, subst, arith}
use Rattle.mini_model.specs.Tree.{Tree}
use Rattle.mini_laws.specs.DeclaredNames.{with_names, body_names, names_of}
use Rattle.mini_laws.specs.References.{references}
use Rattle.mini_laws.specs.Scopes.{scopes_by}
use Rattle.mini_laws.specs.Resolved.{symbols}
use Rattle.mini_laws.specs.declared.names.Use.TheVariants.{Read}
use Rattle.mini_steps.specs.Examples.{unequal}

no_symbols : symbols Read unequal ≡ 0
unfolding symbols scopes_by with_names body_names names_of
no_symbols = refl

no_references : references Read unequal ≡ []
unfolding references
no_references = refl

pub few_symbols : (t : Tree) → t ≡ unequal → symbols Read t < 2 ^ 32
few_symbols t e = subst (λ u. symbols Read u < 2 ^ 32) (sym e) (subst (λ n. n < 2 ^ 32) (sym no_symbols) (omega arith))

pub few_references : (t : Tree) → t ≡ unequal → length (references Read t) + 1 < 2 ^ 32
few_references t e = subst (λ u. length (references Read u) + 1 < 2 ^ 32) (sym e) (subst (λ rs. length rs + 1 < 2 ^ 32) (sym no_references) (omega arith))
