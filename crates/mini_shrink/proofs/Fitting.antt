-- A step in a tree that may stand where it does is one of instances that may stand where they do.
use Rattle.std.specs.Prelude.{ℕ, suc, ◌≡◌, ◌||◌, ◌&&◌, Bool, true, [], ◌∷◌}
use Rattle.mini_model.specs.declared.place.Position.{Position}
use Rattle.mini_model.specs.declared.place.Position.TheVariants.{Expr}
use Rattle.mini_model.specs.Tree.{Tree, Trees, count}
use Rattle.mini_model.specs.Position.{callee_seat}
use Rattle.mini_model.specs.Rewriting.{Step, here, inside, StepIn, first, later}
use Rattle.mini_accept.specs.WellShaped.{Slot, Filling, refused, these, each, each_or_last, pieces, filling, class_of, is_whole, is_strict_in, is_last, fits, fill}
use Rattle.mini_laws.specs.ScopeList.{has_eval, is_eval_callee}
use Rattle.mini_laws.specs.Shared.{names_arguments}
use Rattle.mini_laws.specs.Foreign.{has_number}
use Rattle.mini_kept.specs.KeepsShapes.{KeepsShapes}
use Rattle.mini_kept.specs.Lifted.{KeepsNames}
use Rattle.mini_kept.specs.Placed.{fits_place}
use Rattle.mini_kept.proofs.Bools.{left, right}
use Rattle.mini_kept.proofs.Placed.{Placed, placed_below}
use Rattle.mini_kept.proofs.Stepping.{no_steps, one_of}
use Rattle.mini_shrink.specs.Shrinking.{AsksFewer}

-- a slot of a place, which a tree fills
pub record Stood (p : Position) (t : Tree) : Type 0 where
  pub strict : Bool
  pub slot : Slot
  pub placed : fits_place p slot ≡ true
  pub fit : fits strict slot t ≡ true

abbrev pub Fitting : (Position → Tree → Tree → Type 0) → Position → Tree → Tree → Type 0
Fitting R p n w = R p n w × Stood p n

-- what `AsksFewer` says of such instances
pub record AsksFewerThere (Q : Position → Tree → Tree → Type 0) : Type 0 where
  pub eval : (p : Position) (n w : Tree) → Q p n w → has_eval w ≡ true → has_eval n ≡ true
  pub callee : (n w : Tree) → Q (Expr callee_seat) n w → is_eval_callee w ≡ true → is_eval_callee n ≡ true
  pub arguments : (p : Position) (n w : Tree) → Q p n w → names_arguments w ≡ true → names_arguments n ≡ true
  pub number : (p : Position) (n w : Tree) → Q p n w → (b : ℕ) → has_number b w ≡ true → has_number b n ≡ true

module _ (R : Position → Tree → Tree → Type 0) where
  pub fewer_there : AsksFewer R → AsksFewerThere (Fitting R)
  fewer_there a = record {
    eval = λ p n w r. a.eval p n w r.0 r.1.strict r.1.slot r.1.placed r.1.fit;
    callee = λ n w r. a.callee n w r.0 r.1.strict r.1.slot r.1.placed r.1.fit;
    arguments = λ p n w r. a.arguments p n w r.0 r.1.strict r.1.slot r.1.placed r.1.fit;
    number = λ p n w r. a.number p n w r.0 r.1.strict r.1.slot r.1.placed r.1.fit;
  }

  pub names_there : KeepsNames R → KeepsNames (Fitting R)
  names_there l = record { places = λ p n w r. l.places p n w r.0; pieces = λ p n w r. l.pieces p n w r.0; keeps = λ p n w r. l.keeps p n w r.0 }

  pub shapes_there : KeepsShapes R → KeepsShapes (Fitting R)
  shapes_there k = record { fitting = λ p n w r. k.fitting p n w r.0; asked = λ p n w r. k.asked p n w r.0 }

  module _ (l : KeepsNames R) where
    mutual
      pub step_there : {p : Position} {t u : Tree} → Step R p t u → (strict : Bool) (s : Slot) → fits_place p s ≡ true → fits strict s t ≡ true → Step (Fitting R) p t u
      step_there (here p n w r) strict s o e = here p n w (r, record { strict = strict; slot = s; placed = o; fit = e })
      step_there (inside p h xs n ts us z) strict s o e = inside p h xs n ts us (steps_there z (is_strict_in strict h) (filling strict s h) (placed_below strict s h p (count ts) o) (right (is_whole (class_of s) h xs n ts) (fill (is_strict_in strict h) (filling strict s h) ts) e))

      steps_there : {π : ℕ → Position} {ts us : Trees} → StepIn R π ts us → (strict : Bool) (g : Filling) → Placed π g → fill strict g ts ≡ true → StepIn (Fitting R) π ts us
      steps_there (first π t u ts z) strict refused o e = absurd (cc e)
      steps_there (first π t u ts z) strict (these []) o e = absurd (cc e)
      steps_there (first π t u ts z) strict (these (s ∷ ss)) o e = first π t u ts (step_there z strict s o.0 (left (fits strict s t) (fill strict (these ss) ts) e))
      steps_there (first π t u ts z) strict (each s) o e = first π t u ts (step_there z strict s (o 0) (left (fits strict s t) (fill strict (each s) ts) e))
      steps_there (first π t u ts z) strict (each_or_last s r) o e =
          let (d, placed, fit) = one_of R l (π 0) strict s r (is_last ts) t (o 0).0 (o 0).1 (left (fits strict s t || (is_last ts && fits strict r t)) (fill strict (each_or_last s r) ts) e) in
          first π t u ts (step_there z strict d placed fit)
      steps_there (first π t u ts z) strict (pieces g) o e = absurd (no_steps R l g (first π t u ts z) e)
      steps_there (later π t ts us z) strict refused o e = absurd (cc e)
      steps_there (later π t ts us z) strict (these []) o e = absurd (cc e)
      steps_there (later π t ts us z) strict (these (s ∷ ss)) o e = later π t ts us (steps_there z strict (these ss) o.1 (right (fits strict s t) (fill strict (these ss) ts) e))
      steps_there (later π t ts us z) strict (each s) o e = later π t ts us (steps_there z strict (each s) (λ j. o (suc j)) (right (fits strict s t) (fill strict (each s) ts) e))
      steps_there (later π t ts us z) strict (each_or_last s r) o e = later π t ts us (steps_there z strict (each_or_last s r) (λ j. o (suc j)) (right (fits strict s t || (is_last ts && fits strict r t)) (fill strict (each_or_last s r) ts) e))
      steps_there (later π t ts us z) strict (pieces g) o e = absurd (no_steps R l g (later π t ts us z) e)
