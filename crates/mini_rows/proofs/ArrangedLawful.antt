-- A relation each of whose instances is kept is lawful, or loosely so.
use Rattle.std.specs.Prelude.{◌≡◌, Bool, true}
use Rattle.std.proofs.Common.{inl}
use Rattle.mini_model.specs.declared.place.Position.{Position}
use Rattle.mini_model.specs.declared.shape.Shape.{Shape}
use Rattle.mini_model.specs.Tree.{Tree}
use Rattle.mini_accept.specs.WellShaped.{Slot, fits}
use Rattle.mini_laws.specs.Rewritten.{MeansSame}
use Rattle.mini_laws.specs.Value.{nothing}
use Rattle.mini_kept.specs.KeepsFrames.{is_body_slot}
use Rattle.mini_kept.specs.KeepsNames.{is_rewritten_place}
use Rattle.mini_kept.specs.KeepsShapes.{KeepsShapes}
use Rattle.mini_kept.specs.Lawful.{Lawful}
use Rattle.mini_kept.specs.Loosely.{LawfulLoosely}
use Rattle.mini_kept.specs.Placed.{fits_place}
use Rattle.mini_kept.proofs.FixedSteps.{fixed_anyway}
use Rattle.mini_kept.proofs.FrameSteps.{kept_are_shown}
use Rattle.mini_rows.specs.Arranged.{SameFixed, WhereFixed, KeptAt, KeptLoosely, KeptIsLawful}

pub kept_is_lawful : (R : Position → Tree → Tree → Type 0) → KeptIsLawful R
kept_is_lawful R means shapes places slots kept = record {
  shapes = shapes;
  bodies = record { means = means; pieces = λ p n w r. (kept p n w r).piece; kind = λ p n w r. (kept p n w r).kind; bodies = λ p n w r. (kept p n w r).bodies };
  frames = record {
    names = record { places = λ p n w r. inl (places p n w r); pieces = λ p n w r. (kept p n w r).piece; keeps = λ p n w r. (kept p n w r).keeps };
    slots = λ p n w r strict s k e. inl (slots p n w r strict s k e);
    ports = λ p n w r. (kept p n w r).ports;
    listed = λ p n w e r. (kept p n w r).listed e;
    exported = λ p n w r. (kept p n w r).exported;
    frames = λ p n w r strict s k e. kept_are_shown n w ((kept p n w r).frames strict s k e);
  };
  fixed = λ p n w r. (kept p n w r).fixed;
  declared = λ p n w r. (kept p n w r).declared;
}

-- loosely, where each is kept but for what a write does of variables that are declared no more
pub kept_is_loose : (R : Position → Tree → Tree → Type 0) → MeansSame R → KeepsShapes R → ((p : Position) (n w : Tree) → R p n w → is_rewritten_place p ≡ true)
    → ((p : Position) (n w : Tree) → R p n w → (strict : Bool) (s : Slot) → fits_place p s ≡ true → fits strict s n ≡ true → is_body_slot p s ≡ true)
    → ((p : Position) (n w : Tree) → R p n w → KeptLoosely p n w)
    → (K : Shape → Bool) → LawfulLoosely K R
kept_is_loose R means shapes places slots kept K = record {
  shapes = shapes;
  places = record {
    names = record { places = λ p n w r. inl (places p n w r); pieces = λ p n w r. (kept p n w r).piece; keeps = λ p n w r. (kept p n w r).keeps };
    slots = λ p n w r strict s k e. inl (inl (slots p n w r strict s k e));
    ports = λ p n w r strict d e m. inl ((kept p n w r).ports strict d e m);
    listed = λ p n w e r. (kept p n w r).listed e;
    exported = λ p n w r strict e. inl ((kept p n w r).exported strict e);
  };
  reads = means.reads;
  kind = λ p n w r. (kept p n w r).kind;
  declared = λ p n w r. (kept p n w r).declared;
  instances = λ p n w r.
      let k = kept p n w r in
      inl (record { same = record { by = λ e z. (means.same p n w r).by e nothing nothing }; fixed = k.fixed; frames = λ strict s x e. kept_are_shown n w (k.frames strict s x e); bodies = k.bodies });
}

-- what is kept is so loosely
pub kept_loosely : (p : Position) (n w : Tree) → KeptAt p n w → KeptLoosely p n w
kept_loosely p n w k = record {
  keeps = k.keeps;
  piece = k.piece;
  kind = k.kind;
  bodies = k.bodies;
  ports = k.ports;
  listed = k.listed;
  exported = k.exported;
  frames = k.frames;
  fixed = fixed_anyway p n w k.fixed;
  declared = k.declared;
}

with_fixed : (p : Position) (n w : Tree) → KeptLoosely p n w → SameFixed p n w → KeptAt p n w
with_fixed p n w k f = record {
  keeps = k.keeps;
  piece = k.piece;
  kind = k.kind;
  bodies = k.bodies;
  ports = k.ports;
  listed = k.listed;
  exported = k.exported;
  frames = k.frames;
  fixed = f;
  declared = k.declared;
}

-- and lawful where all of that stays
pub fixed_is_lawful : (R : Position → Tree → Tree → Type 0) → MeansSame R → KeepsShapes R → ((p : Position) (n w : Tree) → R p n w → is_rewritten_place p ≡ true)
    → ((p : Position) (n w : Tree) → R p n w → (strict : Bool) (s : Slot) → fits_place p s ≡ true → fits strict s n ≡ true → is_body_slot p s ≡ true)
    → ((p : Position) (n w : Tree) → R p n w → KeptLoosely p n w)
    → Lawful (WhereFixed R)
fixed_is_lawful R means shapes places slots kept =
    kept_is_lawful (WhereFixed R)
    (record { same = λ p n w r. means.same p n w r.0; reads = λ p n w r. means.reads p n w r.0 })
    (record { fitting = λ p n w r. shapes.fitting p n w r.0; asked = λ p n w r. shapes.asked p n w r.0 })
    (λ p n w r. places p n w r.0)
    (λ p n w r. slots p n w r.0)
    (λ p n w r. with_fixed p n w (kept p n w r.0) r.1)
