-- What the rows of names that are read behind held names make of a block, of the statements of a case and of the head of a `for` in the code of a body.
use Rattle.std.specs.Prelude.{ℕ, ◌<◌, ◌≤◌, ◌≡◌, refl, Contains}
use Rattle.std.proofs.Common.{ap, ◌∙◌, sym, inl, inr}
use Rattle.mini_model.specs.declared.name.Name.{Name}
use Rattle.mini_model.specs.declared.place.Position.{Position}
use Rattle.mini_model.specs.declared.place.Position.TheVariants.{Stmt, Elsewhere}
use Rattle.mini_model.specs.Tree.{Tree}
use Rattle.mini_model.specs.Weight.{outline, weight}
use Rattle.mini_laws.specs.Naming.{summary}
use Rattle.mini_laws.specs.Weights.{Lightens}
use Rattle.mini_kept.specs.Declaring.{declared}
use Rattle.mini_kept.specs.Without.{Assured}
use Rattle.mini_rows.specs.PastBlocks.{PastBlocks, PastBlocksLighten}
use Rattle.mini_rows.specs.Switches.{Switches}
use Rattle.mini_rows.specs.Steady.{bindings}
use Rattle.mini_rows.proofs.PastBlockKept.{lost_in_block, block_lighter, block_bound}
use Rattle.mini_rows.proofs.PastCaseKept.{lost_in_case, case_lighter, case_bound}
use Rattle.mini_rows.proofs.PastHeadKept.{lost_in_head, head_lighter, head_bound}
use Rattle.mini_rows.proofs.PastLost.{Lost, loses_read}

pub lost : (options : Switches) (V : Assured) (p : Position) (n w : Tree) → PastBlocks options V p n w → (k : ℕ) × Lost V k p n w
lost options V (Stmt q) n w (inl r) = lost_in_block V (Stmt q) refl n w r
lost options V (Stmt q) n w (inr (inl r)) = lost_in_case V q n w r
lost options V (Stmt q) n w (inr (inr r)) = lost_in_head V q n w r
lost options V Elsewhere n w r = lost_in_block V Elsewhere refl n w r
lost options V p n w r = absurd r

module _ (options : Switches) (V : Assured) where
  lighter : (p : Position) (n w : Tree) → PastBlocks options V p n w → weight p w < weight p n
  lighter (Stmt q) n w (inl r) = block_lighter V (Stmt q) refl n w r
  lighter (Stmt q) n w (inr (inl r)) = case_lighter V q n w r
  lighter (Stmt q) n w (inr (inr r)) = head_lighter V q n w r
  lighter Elsewhere n w r = block_lighter V Elsewhere refl n w r
  lighter p n w r = absurd r

  same_outline : (p : Position) (n w : Tree) → PastBlocks options V p n w → outline n ≡ outline w
  same_outline (Stmt q) n w (inl r) = ap outline r.shape ∙ sym (ap outline r.written)
  same_outline (Stmt q) n w (inr (inl r)) = ap outline r.shape ∙ sym (ap outline r.written)
  same_outline (Stmt q) n w (inr (inr r)) = ap outline r.shape ∙ sym (ap outline r.written)
  same_outline Elsewhere n w r = ap outline r.shape ∙ sym (ap outline r.written)
  same_outline p n w r = absurd r

  pub blocks_lighten : Lightens (PastBlocks options V)
  blocks_lighten = record {
    lighter = lighter;
    absent = λ p n w r e. ap (λ o. o.absent) (same_outline p n w r);
    items = λ p n w r e. ap (λ o. o.items) (same_outline p n w r);
    is_zero = λ p n w r e. inl (ap (λ o. o.is_zero) (same_outline p n w r));
    chooses = λ p n w r e. inl (λ h. sym (ap (λ o. o.chooses) (same_outline p n w r)) ∙ h);
  }

  -- it declares no symbol more often
  pub blocks_bound : (p : Position) (n w : Tree) → PastBlocks options V p n w → (k : ℕ) → bindings k w ≤ bindings k n
  blocks_bound (Stmt q) n w (inl r) k = block_bound V n w r k
  blocks_bound (Stmt q) n w (inr (inl r)) k = case_bound V n w r k
  blocks_bound (Stmt q) n w (inr (inr r)) k = head_bound V n w r k
  blocks_bound Elsewhere n w r k = block_bound V n w r k
  blocks_bound p n w r k = absurd r

-- a parent reads it alike
pub blocks_read : (options : Switches) (V : Assured) (p : Position) (n w : Tree) → PastBlocks options V p n w → summary n ≡ summary w
blocks_read options V p n w r = let (k, l) = lost options V p n w r in loses_read k p n w (V, l)

-- and it declares no other name
pub blocks_declare : (options : Switches) (V : Assured) (p : Position) (n w : Tree) → PastBlocks options V p n w → (y : Name) → Contains (declared w) y → Contains (declared n) y
blocks_declare options V p n w r = (lost options V p n w r).1.declares

pub past_blocks_are_lighter : PastBlocksLighten
past_blocks_are_lighter = blocks_lighten
