-- What is told of parts that are passed, beside how deep both nest.
use Rattle.std.proofs.Common.{◌≡◌, true}
use Rattle.std.proofs.lemmas.Bool.{and_parts, and_from}
use Rattle.mini_model.specs.declared.name.Name.{Name}
use Rattle.mini_model.specs.Tree.{Tree}
use Rattle.mini_rows.specs.Nesting.{fits_in}
use Rattle.mini_rows.specs.Past.{Kept, are_past, are_past_by_value}
use Rattle.mini_rows.specs.Unused.{are_passed, are_passed_by_value}

pub value_passed : (x : Name) (r t : Tree) → are_passed x r t ≡ true → are_passed_by_value x r t ≡ true
value_passed x r t e = (and_parts (are_passed_by_value x r t) (fits_in r t) e).0

pub value_past : (H : Kept) (x : Name) (r t : Tree) → are_past H x r t ≡ true → are_past_by_value H x r t ≡ true
value_past H x r t e = (and_parts (are_past_by_value H x r t) (fits_in r t) e).0

-- past other variables, too, where those are passed
pub past_others : (H G : Kept) (x : Name) (r t : Tree) → (are_past_by_value H x r t ≡ true → are_past_by_value G x r t ≡ true) → are_past H x r t ≡ true → are_past G x r t ≡ true
past_others H G x r t f e =
    let (passed, shallow) = and_parts (are_past_by_value H x r t) (fits_in r t) e in
    and_from (are_past_by_value G x r t) (fits_in r t) (f passed) shallow
