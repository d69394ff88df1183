-- What any number of steps of a lawful relation keep, and lawful relations.
use Rattle.std.specs.Prelude.{◌≡◌, ◌⊎◌, refl, true, false}
use Rattle.std.proofs.Common.{ap, ◌∙◌, sym, inl, inr}
use Rattle.mini_model.specs.declared.place.Position.{Position}
use Rattle.mini_model.specs.declared.place.Position.TheVariants.{Elsewhere}
use Rattle.mini_model.specs.declared.shape.Shape.TheVariants as shape
use Rattle.mini_model.specs.Tree.{Tree, Trees, node, shape_of, children}
use Rattle.mini_laws.specs.DeclaredNames.{own_names}
use Rattle.mini_kept.specs.Carried.{number_of}
use Rattle.mini_kept.specs.Frames.{has_key}
use Rattle.mini_kept.proofs.Expressions.{refused_here}
use Rattle.mini_kept.proofs.Unbracketed.{same_shape}
use Rattle.mini_model.specs.Redex.{Contracts}
use Rattle.mini_model.specs.Rewriting.{Step, here, inside, Reaches, done, more}
use Rattle.mini_accept.specs.WellShaped.{one, a_program, fits, IsWellShaped}
use Rattle.mini_kept.specs.KeepsNames.{is_rewritten_place}
use Rattle.mini_kept.specs.Kept.{over}
use Rattle.mini_kept.specs.Lawful.{Lawful, ProgramIsKept, LawfulJoin, LawfulNarrowed}
use Rattle.mini_kept.specs.Lifted.{KeepsNames, KeepsRoot}
use Rattle.mini_kept.proofs.BodyRows.{rows_keep_bodies}
use Rattle.mini_kept.proofs.BodySteps.{reaches_keeps_bodies}
use Rattle.mini_kept.proofs.Declared.{rows_declare, reaches_declared}
use Rattle.mini_kept.proofs.Fixed.{fixities_kept, rows_keep_fixities}
use Rattle.mini_kept.proofs.FrameRows.{rows_keep_frames}
use Rattle.mini_kept.proofs.FrameSteps.{reaches_keeps_frames}
use Rattle.mini_kept.proofs.ShapeRows.{rows_keep_shapes}
use Rattle.mini_kept.proofs.Steps.{any_step_fits}
use Rattle.mini_kept.proofs.Whole.{any_reaches_keep}

-- ---- the root of a program stays

same_over : (t : Tree) → t ≡ over t (children t)
same_over (node h xs n ts) = refl

shape_over : (t : Tree) (us : Trees) → shape_of (over t us) ≡ shape_of t
shape_over (node h xs n ts) us = refl

root_over : (t u : Tree) → shape_of t ≡ shape_of u → own_names t ≡ own_names u → number_of t ≡ number_of u → u ≡ over t (children u)
root_over (node h xs n ts) (node i ys m us) a b c = sym (λ j. node (a j) (b j) (c j) us)

over_over : (t u v : Tree) → u ≡ over t (children u) → v ≡ over u (children v) → v ≡ over t (children v)
over_over (node h xs n ts) u v a b = b ∙ ap (λ w. over w (children v)) a

module _ (R : Position → Tree → Tree → Type 0) (l : KeepsNames R) where
  step_root : {p : Position} {t u : Tree} → is_rewritten_place p ≡ false → has_key (shape_of t) ≡ false → Step R p t u → u ≡ over t (children u)
  step_root e f (here p t u r) = by (l.places p t u r)
    where
      by : (is_rewritten_place p ≡ true) ⊎ KeepsRoot p t u → u ≡ over t (children u)
      by (inl q) = absurd (cc (sym e ∙ q))
      by (inr k) = root_over t u (same_shape (shape_of t) (shape_of u) f k.shape) k.names k.number
  step_root e f (inside p h xs n ts us s) = refl

  pub reaches_root : {p : Position} {t u : Tree} → is_rewritten_place p ≡ false → has_key (shape_of t) ≡ false → Reaches R p t u → u ≡ over t (children u)
  reaches_root e f (done p t) = same_over t
  reaches_root e f (more p t u v s r) = let x = step_root e f s in over_over t u v x (reaches_root e (ap (λ y. has_key (shape_of y)) x ∙ ap has_key (shape_over t (children u)) ∙ f) r)

-- a program has no key
pub keyless_program : (t : Tree) → IsWellShaped t → has_key (shape_of t) ≡ false
keyless_program (node (shape.BindingProperty s c) xs n ts) e = absurd (refused_here false (one a_program) (shape.BindingProperty s c) xs n ts refl e)
keyless_program (node (shape.AssignmentTargetPropertyProperty c) xs n ts) e = absurd (refused_here false (one a_program) (shape.AssignmentTargetPropertyProperty c) xs n ts refl e)
keyless_program (node shape.AssignmentTargetPropertyIdentifier xs n ts) e = absurd (refused_here false (one a_program) shape.AssignmentTargetPropertyIdentifier xs n ts refl e)
keyless_program (node (shape.MethodDefinition k c s) xs n ts) e = absurd (refused_here false (one a_program) (shape.MethodDefinition k c s) xs n ts refl e)
keyless_program (node (shape.PropertyDefinition c s) xs n ts) e = absurd (refused_here false (one a_program) (shape.PropertyDefinition c s) xs n ts refl e)
keyless_program (node h xs n ts) e = refl

-- ---- any number of steps

module _ (R : Position → Tree → Tree → Type 0) (l : Lawful R) where
  names : KeepsNames R
  names = l.frames.names

  program_fits : (t u : Tree) → Step R Elsewhere t u → IsWellShaped t → IsWellShaped u
  program_fits t u s e = any_step_fits R names l.shapes s false (one a_program) refl e

  pub lawful_keeps : (t u : Tree) → Reaches R Elsewhere t u → IsWellShaped t → ProgramIsKept t u
  lawful_keeps t u r e = record {
    names = any_reaches_keep R names l.shapes t u r;
    bodies = reaches_keeps_bodies R l.bodies (fits false (one a_program)) (λ v f. f) program_fits t u r e;
    frames = reaches_keeps_frames R l.frames l.bodies (fits false (one a_program)) (λ v f. f) program_fits t u r e;
    fixities = fixities_kept R (record { reads = l.bodies.means.reads; fixed = l.fixed }) Elsewhere t u r;
    declared = reaches_declared R l.declared r;
    root = reaches_root R names refl (keyless_program t e) r;
  }

-- ---- two relations as one

module _ (R S : Position → Tree → Tree → Type 0) where
  one_or_other : {X : Position → Tree → Tree → Type 0} → ((p : Position) (n w : Tree) → R p n w → X p n w) → ((p : Position) (n w : Tree) → S p n w → X p n w) → (p : Position) (n w : Tree) → R p n w ⊎ S p n w → X p n w
  one_or_other f g p n w (inl r) = f p n w r
  one_or_other f g p n w (inr s) = g p n w s

  either_row : (p : Position) (n w : Tree) {X : Type 0} → (R p n w → X) → (S p n w → X) → R p n w ⊎ S p n w → X
  either_row p n w f g (inl r) = f r
  either_row p n w f g (inr s) = g s

  pub lawful_join : LawfulJoin R S
  lawful_join l m = record {
    shapes = record { fitting = one_or_other l.shapes.fitting m.shapes.fitting; asked = one_or_other l.shapes.asked m.shapes.asked };
    bodies = record {
      means = record { same = one_or_other l.bodies.means.same m.bodies.means.same; reads = one_or_other l.bodies.means.reads m.bodies.means.reads };
      pieces = one_or_other l.bodies.pieces m.bodies.pieces;
      kind = one_or_other l.bodies.kind m.bodies.kind;
      bodies = one_or_other l.bodies.bodies m.bodies.bodies;
    };
    frames = record {
      names = record { places = one_or_other l.frames.names.places m.frames.names.places; pieces = one_or_other l.frames.names.pieces m.frames.names.pieces; keeps = one_or_other l.frames.names.keeps m.frames.names.keeps };
      slots = one_or_other l.frames.slots m.frames.slots;
      ports = one_or_other l.frames.ports m.frames.ports;
      listed = λ p n w e. either_row p n w (l.frames.listed p n w e) (m.frames.listed p n w e);
      exported = one_or_other l.frames.exported m.frames.exported;
      frames = one_or_other l.frames.frames m.frames.frames;
    };
    fixed = one_or_other l.fixed m.fixed;
    declared = one_or_other l.declared m.declared;
  }

  -- one that makes no more than the other
  narrowed : {X : Position → Tree → Tree → Type 0} → ((p : Position) (n w : Tree) → R p n w → S p n w) → ((p : Position) (n w : Tree) → S p n w → X p n w) → (p : Position) (n w : Tree) → R p n w → X p n w
  narrowed f g p n w r = g p n w (f p n w r)

  pub lawful_narrowed : LawfulNarrowed R S
  lawful_narrowed f l = record {
    shapes = record { fitting = narrowed f l.shapes.fitting; asked = narrowed f l.shapes.asked };
    bodies = record {
      means = record { same = narrowed f l.bodies.means.same; reads = narrowed f l.bodies.means.reads };
      pieces = narrowed f l.bodies.pieces;
      kind = narrowed f l.bodies.kind;
      bodies = narrowed f l.bodies.bodies;
    };
    frames = record {
      names = record { places = narrowed f l.frames.names.places; pieces = narrowed f l.frames.names.pieces; keeps = narrowed f l.frames.names.keeps };
      slots = narrowed f l.frames.slots;
      ports = narrowed f l.frames.ports;
      listed = λ p n w e r. l.frames.listed p n w e (f p n w r);
      exported = narrowed f l.frames.exported;
      frames = narrowed f l.frames.frames;
    };
    fixed = narrowed f l.fixed;
    declared = narrowed f l.declared;
  }

-- ---- the rows

pub rows_are_lawful : Lawful Contracts
rows_are_lawful = record { shapes = rows_keep_shapes; bodies = rows_keep_bodies; frames = rows_keep_frames; fixed = rows_keep_fixities.fixed; declared = rows_declare }
