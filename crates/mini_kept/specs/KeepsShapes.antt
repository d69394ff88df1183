-- What a relation of rewriting has to keep of the nodes that it replaces, for a program to stay
-- one.
use Rattle.std.specs.Prelude.{ℕ, ◌≡◌, Bool, true, false, not, ◌||◌, List, Some}
use Rattle.mini_model.specs.declared.place.Position.{Position}
use Rattle.mini_model.specs.declared.place.Position.TheVariants.{Elsewhere, Expr}
use Rattle.mini_model.specs.declared.shape.Shape.{Shape}
use Rattle.mini_model.specs.declared.shape.Shape.TheVariants as shape
use Rattle.mini_model.specs.Tree.{Tree, shape_of, is_absent}
use Rattle.mini_model.specs.Rewriting.{Step, Reaches}
use Rattle.mini_accept.specs.WellShaped.{Slot, fits, IsWellShaped, is_function_body, spelling, has_optional, is_not_positive_number}
use Rattle.mini_kept.specs.Placed.{fits_place}
use Rattle.mini_kept.specs.Lifted.{KeepsNames}

-- no `-` stands before it there, or only its truth is asked
abbrev pub takes_numbers : Position → Bool
takes_numbers (Expr s) = s.boolean || not s.minus
takes_numbers p = false

-- a pattern with a default
abbrev pub is_default : Shape → Bool
is_default shape.AssignmentPattern = true
is_default h = false

-- What a parent asks of a child beside that it fills its slot: whether it is absent, or the body of
-- an arrow function (ECMA-262, "ConciseBody"), or ends a chain (ECMA-262, "OptionalExpression");
-- that what `-` is applied to is no number that is written with its sign; and how the value of a
-- shorthand property is spelled (ECMA-262, "Object Initializer"), with or without a default
pub record AskedAlike (p : Position) (n w : Tree) : Type 0 where
  pub absent : is_absent n ≡ true → is_absent w ≡ true
  pub body : is_function_body n ≡ true → is_function_body w ≡ true
  pub optional : has_optional n ≡ true → has_optional w ≡ true
  pub number : takes_numbers p ≡ false → is_not_positive_number n ≡ true → is_not_positive_number w ≡ true
  pub spelled : (s : List ℕ) → spelling n ≡ Some s → spelling w ≡ Some s
  pub plain : is_default (shape_of n) ≡ false

-- what it writes may stand wherever what stood there might, and a parent may ask the same of both
pub record KeepsShapes (R : Position → Tree → Tree → Type 0) : Type 0 where
  pub fitting : (p : Position) (n w : Tree) → R p n w → (strict : Bool) (s : Slot) → fits_place p s ≡ true → fits strict s n ≡ true → fits strict s w ≡ true
  pub asked : (p : Position) (n w : Tree) → R p n w → AskedAlike p n w

-- so does one step at any place
abbrev pub AnyStepFits : (Position → Tree → Tree → Type 0) → Type 0
AnyStepFits R = KeepsNames R → KeepsShapes R → (p : Position) (t u : Tree) → Step R p t u → (strict : Bool) (s : Slot) → fits_place p s ≡ true → fits strict s t ≡ true → fits strict s u ≡ true

-- and any number of them leave a program one
abbrev pub AnyReachesWellShaped : (Position → Tree → Tree → Type 0) → Type 0
AnyReachesWellShaped R = KeepsNames R → KeepsShapes R → (t u : Tree) → Reaches R Elsewhere t u → IsWellShaped t → IsWellShaped u
