-- All frames of a program that lost dead items. No program stands below its root, so every frame
-- there has a number but 0.
use Rattle.std.proofs.Common.{◌≡◌, ℕ, zero, suc, true, List, Option, None, refl, sym, ap, ◌∙◌, subst, true≢false, inl, inr, arith}
use Rattle.std.specs.Prelude.{◌⊎◌, Contains}
use Rattle.std.proofs.lemmas.List.Elements.{Contains-append_left, Contains-append_cases}
use Rattle.mini_model.specs.declared.kind.PropertyKind.{PropertyKind}
use Rattle.mini_model.specs.declared.name.Name.{Name}
use Rattle.mini_model.specs.declared.place.Position.{Position}
use Rattle.mini_model.specs.declared.place.Position.TheVariants as place
use Rattle.mini_model.specs.declared.shape.Shape.{Shape}
use Rattle.mini_model.specs.declared.shape.Shape.TheVariants as shape
use Rattle.mini_model.specs.Tree.{Tree, Trees, node, none, ◌▸◌, count, shape_of}
use Rattle.mini_model.specs.Position.{child_position}
use Rattle.mini_model.specs.Rewriting.{Step, here, inside, StepIn, first, later}
use Rattle.mini_accept.specs.WellShaped.{IsWellShaped}
use Rattle.mini_kept.specs.Frames.{outline, globals, Frame, property_below, frame_of, frames, frames_from, frames_in}
use Rattle.mini_kept.specs.Rooted.{is_program}
use Rattle.mini_kept.proofs.ProgramPlaces.{NoProgram, below_program}
use Rattle.mini_dead.specs.Frames as law
use Rattle.mini_dead.specs.Frames.{root_frame}
use Rattle.mini_dead.proofs.Frames.{drops_keep_frames}
use Rattle.mini_dead.proofs.ProgramFrame.{drops_keep_program}
use Rattle.mini_dead.proofs.Shapes.{drops_keep_shape}

-- a node that is a program, whatever it becomes
abbrev AtProgram : Position → Tree → Tree → Type 0
AtProgram p n w = is_program (shape_of n) ≡ true

-- ---- a frame with the number 0 is that of a program

zero_program : (k : Option PropertyKind) (h : Shape) (n : ℕ) (o : Tree) (xs : List Name) (f : Frame) → f.number ≡ 0 → Contains (frame_of k h n o xs) f → is_program h ≡ true
zero_program k (shape.Program m ds) n o xs f z a = refl
zero_program k h zero o xs f z (i, less, at) = absurd (omega (arith, less))
zero_program k h (suc n) o xs f z (zero, less, at) = absurd (omega (arith, z, ap (λ g. g.number) at))
zero_program k h (suc n) o xs f z (suc i, less, at) = absurd (omega (arith, less))

mutual
  at_program : (k : Option PropertyKind) (t : Tree) (p : Position) (f : Frame) → f.number ≡ 0 → Contains (frames k t) f → Step AtProgram p t t
  at_program k (node h xs n ts) p f z a =
      by (at_programs (property_below h) 0 ts (child_position h p (count ts)) f z) (Contains-append_cases (frame_of k h n (outline h xs n ts) (globals h ts)) (frames_from (property_below h) 0 ts) f a)
    where
      by : (Contains (frames_from (property_below h) 0 ts) f → StepIn AtProgram (child_position h p (count ts)) ts ts) → Contains (frame_of k h n (outline h xs n ts) (globals h ts)) f ⊎ Contains (frames_from (property_below h) 0 ts) f → Step AtProgram p (node h xs n ts) (node h xs n ts)
      by g (inl c) = here p (node h xs n ts) (node h xs n ts) (zero_program k h n (outline h xs n ts) (globals h ts) f z c)
      by g (inr c) = inside p h xs n ts ts (g c)

  at_programs : (κ : ℕ → Option PropertyKind) (i : ℕ) (ts : Trees) (π : ℕ → Position) (f : Frame) → f.number ≡ 0 → Contains (frames_from κ i ts) f → StepIn AtProgram π ts ts
  at_programs κ i none π f z (j, less, at) = absurd (omega (arith, less))
  at_programs κ i (t ▸ ts) π f z a =
      by (at_program (κ i) t (π zero) f z) (at_programs κ (suc i) ts (λ j. π (suc j)) f z) (Contains-append_cases (frames (κ i) t) (frames_from κ (suc i) ts) f a)
    where
      by : (Contains (frames (κ i) t) f → Step AtProgram (π zero) t t) → (Contains (frames_from κ (suc i) ts) f → StepIn AtProgram (λ j. π (suc j)) ts ts) → Contains (frames (κ i) t) f ⊎ Contains (frames_from κ (suc i) ts) f → StepIn AtProgram π (t ▸ ts) (t ▸ ts)
      by g h (inl c) = first π t t ts (g c)
      by g h (inr c) = later π t ts ts (h c)

-- ---- there is none below the root

mutual
  no_step : {p : Position} {t u : Tree} → Step (NoProgram AtProgram) p t u → ⊥
  no_step (here p n w r) = true≢false (sym r.0 ∙ r.1)
  no_step (inside p h xs n ts us s) = no_step_in s

  no_step_in : {π : ℕ → Position} {ts us : Trees} → StepIn (NoProgram AtProgram) π ts us → ⊥
  no_step_in (first π t u ts s) = no_step s
  no_step_in (later π t ts us s) = no_step_in s

below_numbered : (h : Shape) (xs : List Name) (n : ℕ) (ts : Trees) → IsWellShaped (node h xs n ts) → (f : Frame) → Contains (frames_from (property_below h) 0 ts) f → f.number ≡ 0 → ⊥
below_numbered h xs n ts e f a z = no_step (below_program AtProgram place.Elsewhere h xs n ts ts e (at_programs (property_below h) 0 ts (child_position h place.Elsewhere (count ts)) f z a))

-- ---- the root's frame and those below

in_root : (t : Tree) (f : Frame) → Contains (root_frame t) f → Contains (frames_in t) f
in_root (node h xs n ts) f a = Contains-append_left (frame_of None h n (outline h xs n ts) (globals h ts)) (frames_from (property_below h) 0 ts) f a

at_root : (u : Tree) → IsWellShaped u → (f : Frame) → Contains (frames_in u) f → Contains (root_frame u) f ⊎ (f.number ≡ 0 → ⊥)
at_root (node h xs n ts) e f a = by (Contains-append_cases (frame_of None h n (outline h xs n ts) (globals h ts)) (frames_from (property_below h) 0 ts) f a)
  where
    by : Contains (frame_of None h n (outline h xs n ts) (globals h ts)) f ⊎ Contains (frames_from (property_below h) 0 ts) f → Contains (root_frame (node h xs n ts)) f ⊎ (f.number ≡ 0 → ⊥)
    by (inl c) = inl c
    by (inr c) = inr (below_numbered h xs n ts e f c)

pub drops_keep_all_frames : law.DropsKeepAllFrames
drops_keep_all_frames t u n w e s f a = by (at_root u (drops_keep_shape t u n w e) f a)
  where
    by : Contains (root_frame u) f ⊎ (f.number ≡ 0 → ⊥) → Contains (frames_in t) f
    by (inl c) = in_root t f (subst (λ fs. Contains fs f) (sym (drops_keep_program t u n w e s)) c)
    by (inr c) = drops_keep_frames t u n w e f c a
