-- The numbers of literals.
use Rattle.std.proofs.Common.{◌≡◌, ℕ, Bool, true, false, sym, Option, Some, None}
use Rattle.std.specs.Prelude.{nat_le, option_map, unwrap_or, if◌then◌else◌}
use Rattle.mini_accept.specs.WellShaped.{max_big_int}
use Rattle.mini_fields.specs.Literals.{capped}

capped_told : (n m : ℕ) → capped n ≡ Some m → n ≡ m
capped_told n m e = by_test (nat_le n max_big_int) e
  where
    by_test : (b : Bool) → (if b then Some n else None) ≡ Some m → n ≡ m
    by_test true e = cc
    by_test false e = cc

pub digits_read : (o : Option ℕ) (m : ℕ) → Some (Some m) ≡ option_map capped o → m ≡ unwrap_or o 0
digits_read None m e = cc
digits_read (Some n) m e = let told : capped n ≡ Some m = cc in sym (capped_told n m told)
