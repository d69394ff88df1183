-- What a list becomes once a borrow of one of its items is over.
use denote.RattleType.{RattleType}
use Rattle.std.specs.Prelude.{ℕ, slice_set, Option, Some, None}
use Rattle.std.specs.Borrow.{LendsIf, MutBor, Fml}
use Rattle.mini_model.specs.declared.list.OwnedList.{OwnedList}
use Rattle.mini_model.specs.contracts.list.OwnedList as list

-- the list ends with its item at the place as the borrow leaves it
abbrev pub LendsItem : (R : RattleType) → MutBor (OwnedList R.Denot) → ℕ → Option (MutBor R.Denot) → Fml
LendsItem R s at r = LendsIf (list.the_row R) R s r (slice_set s.now at) s.now

-- the value that is lent, as it is at the call
abbrev pub lent_value : {A : Type 0} → Option (MutBor A) → Option A
lent_value None = None
lent_value (Some r) = Some r.now
