-- What a row on a constant writes means the same.
use Rattle.std.proofs.Common.{◌≡◌, true, Some, None, sym, ◌∙◌, inl, inr}
use Rattle.mini_model.specs.declared.place.Position.{Position}
use Rattle.mini_model.specs.declared.place.Position.TheVariants.{Expr}
use Rattle.mini_model.specs.declared.seat.Seat.{Seat}
use Rattle.mini_model.specs.Tree.{Tree}
use Rattle.mini_laws.specs.Value.{Value}
use Rattle.mini_laws.specs.Naming.{summary}
use Rattle.mini_laws.specs.Rows.{SameAt}
use Rattle.mini_laws.specs.Rewritten.{MeansSame}
use Rattle.mini_terms.specs.Calculated.{calculated}
use Rattle.mini_terms.specs.Reading.{is_plain_part}
use Rattle.mini_terms.proofs.Calculated.{calculated_is_constant, calculated_stands, calculated_is_const}
use Rattle.mini_terms.proofs.Dropping.{known_same}
use Rattle.mini_terms.proofs.Reading.{same_in_seat}
use Rattle.mini_rows.specs.Constants.{RowConstant, ConstantRow, ConstantContracts}
use Rattle.mini_rows.proofs.FoldMeaning.{plain_of, value_of, plain_read}
use Rattle.mini_rows.proofs.JoinedMeaning.{joined_same, joined_read}
use Rattle.mini_rows.proofs.KnownLength.{known_length_same, known_length_read}

pub nothing : {A : Type 0} {a : A} {B : Type 0} → None ≡ Some a → B
nothing e = cc e

-- a parent reads nothing of what is calculated
pub calculated_plain : (t : Tree) (v : Value) → calculated t ≡ Some v → is_plain_part t ≡ true
calculated_plain t v e = (calculated_is_constant t v e).plain

constant_same : (s : Seat) (n w : Tree) → RowConstant s n w → SameAt (Expr s) n w
constant_same s n w r =
    let (constant, free) = calculated_is_const n r.value r.known in
    same_in_seat s n w (calculated_stands n r.value r.known) (value_of s w r.stays) (known_same n w r.value constant free r.literal)

row_same : (p : Position) (n w : Tree) → ConstantRow p n w → SameAt p n w
row_same (Expr s) n w (inl r) = constant_same s n w r
row_same (Expr s) n w (inr (inl r)) = joined_same s n w r
row_same (Expr s) n w (inr (inr r)) = known_length_same s n w r
row_same p n w r = absurd r

row_read : (p : Position) (n w : Tree) → ConstantRow p n w → summary n ≡ summary w
row_read (Expr s) n w (inl r) = plain_read n (calculated_plain n r.value r.known) ∙ sym (plain_read w (plain_of s w r.stays))
row_read (Expr s) n w (inr (inl r)) = joined_read s n w r
row_read (Expr s) n w (inr (inr r)) = known_length_read s n w r
row_read p n w r = absurd r

pub constants_same : MeansSame ConstantContracts
constants_same = record { same = λ p n w c. row_same p n w c.row; reads = λ p n w c. row_read p n w c.row }
