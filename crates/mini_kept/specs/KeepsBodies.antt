-- What a relation of rewriting has to keep of the nodes that it replaces, for a program to keep its
-- bodies.
use Rattle.std.specs.Prelude.{◌≡◌, Bool, true, false}
use Rattle.mini_model.specs.declared.place.Position.{Position}
use Rattle.mini_model.specs.Tree.{Tree, shape_of}
use Rattle.mini_accept.specs.WellShaped.{Slot, fits}
use Rattle.mini_laws.specs.Bodies.{Around, bodies, arrow_kind}
use Rattle.mini_laws.specs.Rewritten.{MeansSame}
use Rattle.mini_kept.specs.Placed.{fits_place}
use Rattle.mini_kept.specs.Lifted.{is_piece}
use Rattle.mini_kept.specs.AlikeBodies.{BodiesKept}
use Rattle.mini_kept.specs.Standing.{Stands}

-- it replaces no text of a template, and what it writes means the same. Of a node that may stand
-- where it does, an arrow whose body it is keeps its kind of body, and the bodies in it are those
-- that were there
pub record KeepsBodies (R : Position → Tree → Tree → Type 0) : Type 0 where
  pub means : MeansSame R
  pub pieces : (p : Position) (n w : Tree) → R p n w → is_piece (shape_of n) ≡ false
  pub kind : (p : Position) (n w : Tree) → R p n w → (strict : Bool) (s : Slot) → fits strict s n ≡ true → arrow_kind (shape_of n) ≡ arrow_kind (shape_of w)
  pub bodies : (p : Position) (n w : Tree) → R p n w → (strict : Bool) (s : Slot) → fits_place p s ≡ true → fits strict s n ≡ true → (a : Around) → Stands s p a → BodiesKept (bodies a n) (bodies a w)
