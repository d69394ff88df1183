-- What a row writes in the own code of a program keeps it, where that is so which is known of its body.
use Rattle.std.specs.Prelude.{ℕ, ◌≡◌, ◌<◌, ◌||◌, refl, Bool, true, false, List, [], ◌++◌, None}
use Rattle.std.proofs.Common.{ap, ◌∙◌, sym, subst, inl, arith}
use Rattle.mini_model.specs.declared.place.Position.{Position}
use Rattle.mini_model.specs.declared.place.Position.TheVariants.{Stmt, StatementList, Elsewhere}
use Rattle.mini_model.specs.declared.shape.Shape.{Shape}
use Rattle.mini_model.specs.declared.shape.Shape.TheVariants as shape
use Rattle.mini_model.specs.Tree.{Tree, none, ◌▸◌, shape_of}
use Rattle.mini_model.specs.Rewriting.{Step, inside, first, Reaches, done, more}
use Rattle.mini_model.specs.Weight.{outline, weight}
use Rattle.mini_accept.specs.WellShaped.{Slot, fits, IsWellShaped}
use Rattle.mini_laws.specs.Skeleton.{Off, hidden}
use Rattle.mini_laws.specs.Value.{VariableSet, nothing}
use Rattle.mini_laws.specs.Fixity.{written_in}
use Rattle.mini_laws.specs.Body.{Program}
use Rattle.mini_laws.specs.Bodies.{Around, outermost, below, Body, bodies, bodies_in, body_of}
use Rattle.mini_laws.specs.Weights.{Lightens}
use Rattle.mini_laws.proofs.Lighter.{any_step_lighter}
use Rattle.mini_kept.specs.Frames.{frames_in}
use Rattle.mini_kept.specs.KeepsFrames.{is_body_slot, KeepsPlaces, KeepsFramesBut}
use Rattle.mini_kept.specs.Lifted.{KeepsNames}
use Rattle.mini_kept.specs.Loosely.{undeclared, ProgramIsKeptUnder}
use Rattle.mini_kept.specs.Rooted.{is_program, LawfulRooted}
use Rattle.mini_kept.specs.ShownFrames.{KeyGivenUnder, KeyGiven, none_gone, gone_from, FramesShown}
use Rattle.mini_kept.specs.Without.{Assured, BodySets, BodiesUnder}
use Rattle.mini_kept.proofs.Declared.{reaches_declared}
use Rattle.mini_kept.proofs.Fixed.{step_fixed}
use Rattle.mini_kept.proofs.FrameSteps.{kept_are_shown, step_frames_but}
use Rattle.mini_kept.proofs.Rooted.{programs_rooted}
use Rattle.mini_kept.proofs.ShownFrames.{all_frames_more, none_less, given_seldom}
use Rattle.mini_kept.proofs.Whole.{any_reaches_keep}
use Rattle.mini_kept.proofs.WithoutLists.{nothing_part, part_itself, each_itself, more_under, each_under}
use Rattle.mini_rows.specs.Arranged.{KeptAt}
use Rattle.mini_rows.specs.OwnPrograms.{program_over, OwnProgram, OwnProgramsAreLawful, OwnProgramsLighten, SteadyProgramsAreLawful, SteadyProgramsLighten, LexicalProgramsAreLawful, LexicalProgramsLighten}
use Rattle.mini_rows.specs.Steady.{nothing_begun, own_rows, KeepsOwn, OwnRows, OwnStep, own_first, SteadyRow, LexicalRows}
use Rattle.mini_rows.proofs.BranchLawful.{IsKind, taken, body_slot, kept_at}
use Rattle.mini_rows.proofs.LexicalKept.{lexical_kind, lexical_own}
use Rattle.mini_rows.proofs.SteadyKept.{steady_kept, steady_own, steady_slot}
use Rattle.mini_rows.proofs.SteadyLawful.{AnyRow, KeepsForm, any_form, at_start, over_off, known_begins, forget, own_bodies, own_runs_over, kept_under}

-- ---- imports, exports and functions stay where they are, whatever is known

pub any_places : (F : OwnRows) → ((V : Assured) → KeepsPlaces (F V)) → KeepsPlaces (AnyRow F)
any_places F places = record {
  names = record {
    places = λ p n w r. (places r.0).names.places p n w r.1;
    pieces = λ p n w r. (places r.0).names.pieces p n w r.1;
    keeps = λ p n w r. (places r.0).names.keeps p n w r.1;
  };
  slots = λ p n w r. (places r.0).slots p n w r.1;
  ports = λ p n w r. (places r.0).ports p n w r.1;
  listed = λ p n w e r. (places r.0).listed p n w e r.1;
  exported = λ p n w r. (places r.0).exported p n w r.1;
}

-- ---- one program

module _ (F : OwnRows) (keeps : (V : Assured) → KeepsOwn V (F V)) (places : (V : Assured) → KeepsPlaces (F V)) (K : Shape → Bool) (W : VariableSet) (S : BodySets) (m : Bool) (ds : List (List ℕ)) (k : ℕ) (t u : Tree) (s : OwnStep (own_rows F t (S k)) nothing_begun StatementList t u) where
  abbrev f : Tree
  f = program_over m ds k t

  abbrev f' : Tree
  f' = program_over m ds k u

  abbrev Q : Position → Tree → Tree → Type 0
  Q = AnyRow F

  own : KeepsForm Q
  own = any_form F keeps

  whole : Step Q Elsewhere f f'
  whole = inside Elsewhere (shape.Program m ds) [] k (t ▸ none) (u ▸ none) (first _ t u none (forget F keeps t (S k) s))

  reached : Reaches Q Elsewhere f f'
  reached = more Elsewhere f f' f' whole (done Elsewhere f')

  abbrev own_body : Tree → List Body
  own_body v = body_of outermost (shape.Program m ds) k (program_over m ds k v) (v ▸ none)

  abbrev inner : Around
  inner = below outermost (shape.Program m ds) (t ▸ none) 0

  program_off : Off (hidden f) (at_start t (S k)).initial
  program_off = over_off f t (S k) (λ i h. ap (λ b. b || false) h)

  whole_bodies : BodiesUnder W S nothing (bodies_in f) (bodies_in f')
  whole_bodies =
      each_under W S nothing (own_body t) (bodies inner t ++ []) (own_body u) (bodies inner u ++ [])
      (inl (record { number = refl; kind = inl refl; strict = refl; asks_this = refl; same = λ e z y X g. own_runs_over F keeps t (S k) e y (shape.Program m ds) k Elsewhere (own_first _ _ t u none s) (λ j. omega arith) program_off Program tt X (known_begins t (S k) X g) }), tt)
      (each_under W S nothing (bodies inner t) [] (bodies inner u) [] (kept_under S W (bodies inner t) (bodies inner u) (own_bodies F keeps t (S k) s inner (λ m. refl))) tt)

  keeps_frames : KeepsFramesBut none_gone Q
  keeps_frames = record { places = any_places F places; frames = λ p n w r strict c z e a. kept_are_shown n w (own.frames p n w r None (λ m. refl)) a }

  whole_frames : IsWellShaped f → FramesShown (gone_from K (undeclared f')) (KeyGivenUnder W S (undeclared f') (bodies_in f)) (frames_in f) (frames_in f')
  whole_frames e =
      all_frames_more none_gone (gone_from K (undeclared f')) (KeyGiven nothing (bodies_in f)) (KeyGivenUnder W S (undeclared f') (bodies_in f)) (none_less (gone_from K (undeclared f'))) (given_seldom W S (undeclared f') (bodies_in f)) (frames_in f) (frames_in f')
      (step_frames_but none_gone Q keeps_frames f f' whole e)

  program_kept : IsWellShaped f → ProgramIsKeptUnder K W S f f'
  program_kept e = record {
    names = any_reaches_keep Q own.names own.shapes f f' reached;
    bodies = λ v d. more_under W W S S nothing (undeclared f') (part_itself W) (each_itself S) (nothing_part (undeclared f')) (bodies_in f) (bodies_in f') whole_bodies;
    frames = λ v d. whole_frames e;
    fixities = λ v d strict x h. ap (written_in strict x) (step_fixed nothing Q (record { reads = own.reads; fixed = λ q n w r y c. own.fixed q n w r y }) whole x refl);
    declared = reaches_declared Q own.declared reached;
    root = refl;
  }

-- ---- all

module _ (F : OwnRows) (keeps : (V : Assured) → KeepsOwn V (F V)) (S : BodySets) where
  -- what holds of each such program holds of what a row reads and writes
  by_row : (P : Position → Tree → Tree → Type 0) → ((m : Bool) (ds : List (List ℕ)) (k : ℕ) (t u : Tree) → OwnStep (own_rows F t (S k)) nothing_begun StatementList t u → P Elsewhere (program_over m ds k t) (program_over m ds k u)) → (p : Position) (n w : Tree) → OwnProgram F S p n w → P p n w
  by_row P h Elsewhere n w r = subst (λ v. P Elsewhere v w) (sym r.shape) (subst (P Elsewhere (program_over r.is_module r.directives r.number r.before)) (sym r.written) (h r.is_module r.directives r.number r.before r.after r.step))
  by_row P h p n w r = absurd r

  programs_lawful : ((V : Assured) → KeepsPlaces (F V)) → (K : Shape → Bool) (W : VariableSet) → LawfulRooted K W S (OwnProgram F S)
  programs_lawful places K W =
      programs_rooted (OwnProgram F S) (by_row (λ p n w. is_program (shape_of n) ≡ true) (λ m ds k t u s. refl)) K W S
      (λ n w r. by_row (λ p n w. IsWellShaped n → ProgramIsKeptUnder K W S n w) (λ m ds k t u s. program_kept F keeps places K W S m ds k t u s) Elsewhere n w r)

  program_lighter : (p : Position) (n w : Tree) → OwnProgram F S p n w → weight p w < weight p n
  program_lighter = by_row (λ p n w. weight p w < weight p n) (λ m ds k t u s. any_step_lighter (AnyRow F) (any_form F keeps).lightens Elsewhere (program_over m ds k t) (program_over m ds k u) (inside Elsewhere (shape.Program m ds) [] k (t ▸ none) (u ▸ none) (first _ t u none (forget F keeps t (S k) s))))

  program_outline : (p : Position) (n w : Tree) → OwnProgram F S p n w → outline n ≡ outline w
  program_outline = by_row (λ p n w. outline n ≡ outline w) (λ m ds k t u s. refl)

  programs_lighten : Lightens (OwnProgram F S)
  programs_lighten = record {
    lighter = program_lighter;
    absent = λ p n w r a. ap (λ o. o.absent) (program_outline p n w r);
    items = λ p n w r a. ap (λ o. o.items) (program_outline p n w r);
    is_zero = λ p n w r a. inl (ap (λ o. o.is_zero) (program_outline p n w r));
    chooses = λ p n w r a. inl (λ h. sym (ap (λ o. o.chooses) (program_outline p n w r)) ∙ h);
  }

pub own_programs_lawful : (F : OwnRows) → OwnProgramsAreLawful F
own_programs_lawful F keeps places K W S = programs_lawful F keeps S places K W

pub own_programs_lighten : (F : OwnRows) → OwnProgramsLighten F
own_programs_lighten F keeps S = programs_lighten F keeps S

-- ---- rows of members, and of lexical names

-- what is kept at its place leaves imports, exports and functions where they stand
places_kept : (R : Position → Tree → Tree → Type 0) → KeepsNames R → ((p : Position) (n w : Tree) → R p n w → KeptAt p n w) → ((p : Position) (n w : Tree) → R p n w → (strict : Bool) (c : Slot) → fits strict c n ≡ true → is_body_slot p c ≡ true) → KeepsPlaces R
places_kept R names kept slots = record {
  names = names;
  slots = λ p n w r strict c z e. inl (inl (slots p n w r strict c e));
  ports = λ p n w r strict d e m. inl ((kept p n w r).ports strict d e m);
  listed = λ p n w e r. (kept p n w r).listed e;
  exported = λ p n w r strict e. inl ((kept p n w r).exported strict e);
}

pub steady_places : (V : Assured) → KeepsPlaces (SteadyRow V)
steady_places V = places_kept (SteadyRow V) (steady_own V).names (steady_kept V) (steady_slot V)

kind_slot : (p : Position) (n w : Tree) → IsKind p n w → (strict : Bool) (c : Slot) → fits strict c n ≡ true → is_body_slot p c ≡ true
kind_slot (Stmt q) n w k strict c e = body_slot (Stmt q) c (taken strict c n k.read e)
kind_slot p n w k strict c e = absurd k

pub lexical_places : (V : Assured) → KeepsPlaces (LexicalRows V)
lexical_places V = places_kept (LexicalRows V) (lexical_own V).names (λ p n w r. kept_at p n w (lexical_kind V.unshared p n w r)) (λ p n w r. kind_slot p n w (lexical_kind V.unshared p n w r))

pub steady_programs_lawful : SteadyProgramsAreLawful
steady_programs_lawful = own_programs_lawful SteadyRow steady_own steady_places

pub steady_programs_lighten : SteadyProgramsLighten
steady_programs_lighten = own_programs_lighten SteadyRow steady_own

pub lexical_programs_lawful : LexicalProgramsAreLawful
lexical_programs_lawful = own_programs_lawful LexicalRows lexical_own lexical_places

pub lexical_programs_lighten : LexicalProgramsLighten
lexical_programs_lighten = own_programs_lighten LexicalRows lexical_own
