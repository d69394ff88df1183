-- Known bytes that grow.
use Rattle.std.proofs.Common.{ℕ, ◌+◌, List, take, drop, ◌∙◌}
use Rattle.std.specs.Prelude.{Option, Some, None}
use Rattle.std.specs.Io.KnownBytes.{Appends, Keeps}
use Rattle.std.proofs.KnownBytes.{Appends-trans}
use Rattle.std.proofs.Math.Seq.{take-add}

pub Appends-kept : (a b c : Option (List ℕ)) (xs : List ℕ) → Appends a b xs → Keeps b c → Appends a c xs
Appends-kept None b c xs h k = tt
Appends-kept (Some x) None c xs h k = absurd h
Appends-kept (Some x) (Some y) None xs h k = absurd k
Appends-kept (Some x) (Some y) (Some z) xs h k = k ∙ h

pub Appends-part : (a b c : Option (List ℕ)) (xs : List ℕ) (i n : ℕ) → Appends a b (take i xs) → Appends b c (take n (drop i xs)) → Appends a c (take (i + n) xs)
Appends-part a b c xs i n h k = rw (take-add i n xs) (Appends-trans a b c _ _ h k)
