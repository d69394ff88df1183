-- The rows on keys of patterns and classes, together.
use Rattle.std.specs.Prelude.{◌≡◌, ◌⊎◌, ◌<◌}
use Rattle.std.proofs.Common.{sym, ap, ◌∙◌, inl, inr}
use Rattle.mini_model.specs.declared.place.Position.{Position}
use Rattle.mini_model.specs.declared.place.Position.TheVariants.{Elsewhere}
use Rattle.mini_model.specs.Tree.{Tree}
use Rattle.mini_model.specs.Weight.{outline, weight}
use Rattle.mini_laws.specs.Rewritten.{MeansSame}
use Rattle.mini_laws.specs.Weights.{Lightens}
use Rattle.mini_kept.specs.Lawful.{Lawful}
use Rattle.mini_kept.proofs.Lawful.{lawful_join, lawful_narrowed}
use Rattle.mini_rows.specs.KeyHolders.{HeldKeyRow, HeldKeyContracts, HeldKeysLighter}
use Rattle.mini_rows.proofs.HeldKeyMeaning.{HeldRow, held_lighter, outline_kept}
use Rattle.mini_rows.proofs.HeldKeyLawful.{held_lawful}
use Rattle.mini_rows.proofs.BareKeyMeaning.{BareRow, bare_lighter, bare_outline_kept}
use Rattle.mini_rows.proofs.BareKeyLawful.{bare_lawful}
use Rattle.mini_rows.proofs.DeclaredKeyLawful.{DeclaredRow, declared_key_lighter, declared_key_outline, declared_key_lawful}
use Rattle.mini_rows.proofs.ShorthandLawful.{ShorthandRow, shorthand_lighter, shorthand_outline_kept, shorthand_lawful}

abbrev LaterRow : Position → Tree → Tree → Type 0
LaterRow p n w = DeclaredRow p n w ⊎ ShorthandRow p n w

abbrev OtherRow : Position → Tree → Tree → Type 0
OtherRow p n w = BareRow p n w ⊎ LaterRow p n w

either : (p : Position) (n w : Tree) → HeldKeyRow p n w → HeldRow p n w ⊎ OtherRow p n w
either Elsewhere n w r = r
either p n w r = absurd r

pub held_keys_lawful : Lawful HeldKeyContracts
held_keys_lawful = lawful_narrowed HeldKeyContracts (λ p n w. HeldRow p n w ⊎ OtherRow p n w) (λ p n w c. either p n w c.row) (lawful_join HeldRow OtherRow held_lawful (lawful_join BareRow LaterRow bare_lawful (lawful_join DeclaredRow ShorthandRow declared_key_lawful shorthand_lawful)))

pub held_keys_same : MeansSame HeldKeyContracts
held_keys_same = held_keys_lawful.bodies.means

pub held_keys_lighter : HeldKeysLighter
held_keys_lighter p n w r = by (either p n w r)
  where
    by : HeldRow p n w ⊎ OtherRow p n w → weight p w < weight p n
    by (inl x) = held_lighter p n w x
    by (inr (inl x)) = bare_lighter p n w x
    by (inr (inr (inl x))) = declared_key_lighter p n w x
    by (inr (inr (inr x))) = shorthand_lighter p n w x

same_outline : (p : Position) (n w : Tree) → HeldKeyRow p n w → outline n ≡ outline w
same_outline p n w r = by (either p n w r)
  where
    by : HeldRow p n w ⊎ OtherRow p n w → outline n ≡ outline w
    by (inl x) = outline_kept p n w x
    by (inr (inl x)) = bare_outline_kept p n w x
    by (inr (inr (inl x))) = declared_key_outline p n w x
    by (inr (inr (inr x))) = shorthand_outline_kept p n w x

pub held_keys_lighten : Lightens HeldKeyContracts
held_keys_lighten = record {
  lighter = λ p n w c. c.lighter;
  absent = λ p n w c a. ap (λ o. o.absent) (same_outline p n w c.row);
  items = λ p n w c a. ap (λ o. o.items) (same_outline p n w c.row);
  is_zero = λ p n w c a. inl (ap (λ o. o.is_zero) (same_outline p n w c.row));
  chooses = λ p n w c a. inl (λ h. sym (ap (λ o. o.chooses) (same_outline p n w c.row)) ∙ h);
}
