-- Two relations that keep places and shapes make one, and so does what makes no more than one.
use Rattle.std.specs.Prelude.{◌⊎◌}
use Rattle.std.proofs.Common.{inl, inr}
use Rattle.mini_model.specs.declared.place.Position.{Position}
use Rattle.mini_model.specs.Tree.{Tree}
use Rattle.mini_kept.specs.KeepsFrames.{KeepsPlaces}
use Rattle.mini_kept.specs.KeepsShapes.{KeepsShapes}

module _ (R Q : Position → Tree → Tree → Type 0) where
  -- what holds of each instance of both
  of_both : {X : Position → Tree → Tree → Type 0} → ((p : Position) (n w : Tree) → R p n w → X p n w) → ((p : Position) (n w : Tree) → Q p n w → X p n w) → (p : Position) (n w : Tree) → R p n w ⊎ Q p n w → X p n w
  of_both f g p n w (inl r) = f p n w r
  of_both f g p n w (inr r) = g p n w r

  pub places_join : KeepsPlaces R → KeepsPlaces Q → KeepsPlaces (λ p n w. R p n w ⊎ Q p n w)
  places_join l m = record {
    names = record { places = of_both l.names.places m.names.places; pieces = of_both l.names.pieces m.names.pieces; keeps = of_both l.names.keeps m.names.keeps };
    slots = of_both l.slots m.slots;
    ports = of_both l.ports m.ports;
    listed = λ p n w e r. elim r [ inl x ↦ l.listed p n w e x | inr y ↦ m.listed p n w e y ];
    exported = of_both l.exported m.exported;
  }

  pub shapes_join : KeepsShapes R → KeepsShapes Q → KeepsShapes (λ p n w. R p n w ⊎ Q p n w)
  shapes_join l m = record { fitting = of_both l.fitting m.fitting; asked = of_both l.asked m.asked }

  module _ (f : (p : Position) (n w : Tree) → R p n w → Q p n w) where
    pub places_narrowed : KeepsPlaces Q → KeepsPlaces R
    places_narrowed l = record {
      names = record { places = λ p n w r. l.names.places p n w (f p n w r); pieces = λ p n w r. l.names.pieces p n w (f p n w r); keeps = λ p n w r. l.names.keeps p n w (f p n w r) };
      slots = λ p n w r. l.slots p n w (f p n w r);
      ports = λ p n w r. l.ports p n w (f p n w r);
      listed = λ p n w e r. l.listed p n w e (f p n w r);
      exported = λ p n w r. l.exported p n w (f p n w r);
    }

    pub shapes_narrowed : KeepsShapes Q → KeepsShapes R
    shapes_narrowed l = record { fitting = λ p n w r. l.fitting p n w (f p n w r); asked = λ p n w r. l.asked p n w (f p n w r) }
