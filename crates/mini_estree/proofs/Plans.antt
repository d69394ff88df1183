-- The plan of a node, as the tests tell it.
use Rattle.std.proofs.Common.{◌≡◌, Bool, true, false, refl, Some, None}
use Rattle.std.specs.Prelude.{Ok, Err}
use Rattle.serde_json.specs.Data.{Data}
use Rattle.mini_accept.specs.WellShaped.{is_strict_in}
use Rattle.mini_accept.specs.Faults.{bad_shape, unsupported}
use Rattle.mini_accept.specs.declared.kind.Kind.{Kind}
use Rattle.mini_accept.specs.Places.{Place}
use Rattle.mini_accept.specs.Fields.{kind_of}
use Rattle.mini_accept.specs.Standing.{is_unread, may_stand}
use Rattle.mini_accept.specs.Plans.{Plan}
use Rattle.mini_accept.specs.Entries.{entry}
use Rattle.mini_accept.specs.Accept.{are_placed, plan_by, plan_unless, plan}

pub unread : (strict : Bool) (p : Place) (d : Data) → is_unread strict p d ≡ true → plan strict p d ≡ Err unsupported
unread strict p d is = rw is refl

pub misplaced : (strict : Bool) (p : Place) (d : Data) → is_unread strict p d ≡ false → may_stand p d ≡ false → plan strict p d ≡ Err bad_shape
misplaced strict p d read stands = rw (read, stands) refl

pub unknown : (strict : Bool) (p : Place) (d : Data) → is_unread strict p d ≡ false → kind_of d ≡ None → plan strict p d ≡ Err bad_shape
unknown strict p d read is = rw (read, is) (either (may_stand p d))
  where
    either : (b : Bool) → plan_unless false b (plan_by strict p d None) ≡ Err bad_shape
    either true = refl
    either false = refl

pub unplanned : (strict : Bool) (p : Place) (d : Data) (k : Kind) → is_unread strict p d ≡ false → may_stand p d ≡ true → kind_of d ≡ Some k → entry k p d ≡ None → plan strict p d ≡ Err bad_shape
unplanned strict p d k read stands is none = rw (read, stands, is, none) refl

pub placed : (strict : Bool) (p : Place) (d : Data) (k : Kind) (x : Plan) → is_unread strict p d ≡ false → may_stand p d ≡ true → kind_of d ≡ Some k → entry k p d ≡ Some x
    → are_placed (is_strict_in strict x.shape) d x.children ≡ true → plan strict p d ≡ Ok x
placed strict p d k x read stands is planned fine = rw (read, stands, is, planned, fine) refl

pub displaced : (strict : Bool) (p : Place) (d : Data) (k : Kind) (x : Plan) → is_unread strict p d ≡ false → may_stand p d ≡ true → kind_of d ≡ Some k → entry k p d ≡ Some x
    → are_placed (is_strict_in strict x.shape) d x.children ≡ false → plan strict p d ≡ Err bad_shape
displaced strict p d k x read stands is planned bad = rw (read, stands, is, planned, bad) refl
