-- A step of the rule makes the whole lighter, as one of a spelling does.
use Rattle.mini_model.specs.declared.place.Position.{Position}
use Rattle.mini_model.specs.declared.place.Position.TheVariants.{Expr}
use Rattle.mini_model.specs.Tree.{Tree}
use Rattle.mini_laws.proofs.Lighter.{any_step_lighter}
use Rattle.mini_rows.specs.Spellings.{SpellingContracts, ShortBoolean}
use Rattle.mini_rows.proofs.SpellWeights.{lighter, lightens}
use Rattle.mini_tree.specs.Rule.{IsLighter}
use Rattle.mini_tree.specs.Wider.{step_of}
use Rattle.mini_example.specs.Booleans.{Gives}

-- what the rule makes a row on a spelling writes
pub spelling : (p : Position) (n w : Tree) → Gives p n w → SpellingContracts p n w
spelling (Expr s) n w r = record { row = ShortBoolean r; lighter = lighter (Expr s) n w (ShortBoolean r) }
spelling p n w r = absurd r

pub booleans_lighter : IsLighter Gives
booleans_lighter p t u s = any_step_lighter SpellingContracts lightens p t u (step_of Gives SpellingContracts spelling p t u s)
