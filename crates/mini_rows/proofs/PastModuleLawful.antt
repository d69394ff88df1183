-- What the rows of names that are read behind held names write of a module keeps the program where that is known of its body.
use Rattle.std.specs.Prelude.{ℕ, ◌<◌, ◌≤◌, ◌≡◌, ◌⊎◌, refl, Bool, true, false, List, [], ◌++◌, None}
use Rattle.std.proofs.Common.{ap, ◌∙◌, sym, subst, arith, inl, inr, true≢false}
use Rattle.std.proofs.lemmas.Bool.{eqb-true, eq-eqb}
use Rattle.std.proofs.lemmas.List.{append-nil}
use Rattle.mini_model.specs.declared.name.Name.{Name}
use Rattle.mini_model.specs.declared.place.Position.{Position}
use Rattle.mini_model.specs.declared.place.Position.TheVariants.{Elsewhere}
use Rattle.mini_model.specs.declared.shape.Shape.{Shape}
use Rattle.mini_model.specs.declared.shape.Shape.TheVariants as shape
use Rattle.mini_model.specs.Tree.{Tree, Trees, none, ◌▸◌, listed, shape_of, program}
use Rattle.mini_model.specs.Paths.{append}
use Rattle.mini_model.specs.Rewriting.{here, done, more}
use Rattle.mini_model.specs.Weight.{outline as weight_outline, weight}
use Rattle.mini_accept.specs.WellShaped.{Depth, in_module, a_statement, a_default_export, Slot, one, fits}
use Rattle.mini_laws.specs.declared.names.Use.TheVariants.{Read}
use Rattle.mini_laws.specs.Symbols.{declared_symbols, times, Distinct}
use Rattle.mini_laws.specs.Value.{Variable, Declared, Global, VariableSet, nothing}
use Rattle.mini_laws.specs.Substitution.{alone}
use Rattle.mini_laws.specs.Fixity.{written_in}
use Rattle.mini_laws.specs.Bodies.{Around, outermost, below, Body, bodies, bodies_in, body_of}
use Rattle.mini_laws.specs.Weights.{Lightens}
use Rattle.mini_kept.specs.AlikeBodies.{BodiesKept}
use Rattle.mini_kept.specs.Frames.{frames_in}
use Rattle.mini_kept.specs.KeepsFrames.{is_body_slot, IsShownAlike, NoPort, NoDeclaration, KeepsFunction, KeepsModule, KeepsHolder, KeepsPlaces}
use Rattle.mini_kept.specs.KeepsLoosely.{KeepsLoosely}
use Rattle.mini_kept.specs.KeepsNames.{is_rewritten_place}
use Rattle.mini_kept.specs.KeepsShapes.{KeepsShapes, AskedAlike}
use Rattle.mini_kept.specs.Lifted.{is_piece, KeepsRoot, KeepsNames, ProgramKeeps}
use Rattle.mini_kept.specs.Loosely.{symbol, undeclared, ProgramIsKeptUnder}
use Rattle.mini_kept.specs.Placed.{fits_place, is_statement_list}
use Rattle.mini_kept.specs.Rooted.{is_program, LawfulRooted}
use Rattle.mini_kept.specs.ShownFrames.{KeyGivenUnder, gone_from}
use Rattle.mini_kept.specs.Without.{BodySets, none_steady, BodiesUnder}
use Rattle.mini_kept.proofs.FrameSteps.{module_frames}
use Rattle.mini_kept.proofs.Rooted.{programs_rooted, rooted_narrowed}
use Rattle.mini_kept.proofs.ShownFrames.{kept_shown}
use Rattle.mini_kept.proofs.Whole.{any_reaches_keep}
use Rattle.mini_kept.proofs.WithoutLists as without
use Rattle.mini_rows.specs.PastModules.{PastModuleRow, PastModule, PastModuleIsLawful, PastModuleLightens}
use Rattle.mini_rows.specs.Unused.{resolved}
use Rattle.mini_rows.specs.Switches.{Liberties}
use Rattle.mini_rows.proofs.ArrangedBodies.{quiet}
use Rattle.mini_rows.proofs.ListWeights.{list_is}
use Rattle.mini_rows.proofs.ModuleKept.{module_less, module_keeps, module_fixed, module_declares}
use Rattle.mini_rows.proofs.ModuleLawful.{module_fits, ports_behind}
use Rattle.mini_rows.proofs.PastLawful.{list_fits, none_mention, list_lighter}
use Rattle.mini_rows.proofs.PastHolders.{ModuleBehind, ModulesBehind, modules_behind}
use Rattle.mini_rows.proofs.PastStretches.{Behind, module_runs}
use Rattle.mini_rows.proofs.UnusedKept.{list_frames, list_bodies}

-- ---- a symbol that is declared no more

pub undeclared_there : (k : ℕ) (u : Tree) → times (symbol k) (declared_symbols u) ≡ 0 → (x : Variable) → alone (Declared k) x ≡ true → undeclared u x ≡ true
undeclared_there k u e (Declared m) h = eq-eqb (times (symbol m) (declared_symbols u)) 0 (sym (ap (λ n. times (symbol n) (declared_symbols u)) (eqb-true k m h)) ∙ e)
undeclared_there k u e (Global s) h = absurd (true≢false (sym h))

pub still_declared : (k : ℕ) (u : Tree) → times (symbol k) (declared_symbols u) ≡ 0 → (x : Variable) → undeclared u x ≡ false → alone (Declared k) x ≡ false
still_declared k u e x h = by (alone (Declared k) x) refl
  where
    by : (b : Bool) → alone (Declared k) x ≡ b → alone (Declared k) x ≡ false
    by true q = absurd (true≢false (sym (undeclared_there k u e x q) ∙ h))
    by false q = q

-- ---- an instance

module _ (S : BodySets) (W : VariableSet) (ds : List (List ℕ)) (a b : Trees) (t : Behind (S 0) W (listed none) a b) where
  abbrev x : Name
  x = resolved t.spelling t.symbol

  abbrev D : VariableSet
  D = alone (Declared t.symbol)

  abbrev first_list : Trees
  first_list = append t.before (append t.d t.after)

  abbrev second_list : Trees
  second_list = append t.before (append t.w t.after)

  abbrev this : Tree
  this = program true ds first_list

  abbrev that : Tree
  that = program true ds second_list

  keeps : KeepsLoosely Elsewhere this that
  keeps = module_keeps x t.before t.after t.d t.w t.leaves t.declares t.earlier t.later ds (none_mention (S 0) W (listed none) a b t)

  abbrev own_body : Trees → List Body
  own_body ts = body_of outermost (shape.Program true ds) 0 (program true ds ts) (listed ts ▸ none)

  abbrev around : Around
  around = below outermost (shape.Program true ds) (listed first_list ▸ none) 0

  abbrev others : Trees → List Body
  others ts = bodies (quiet around) (listed ts) ++ []

  others_kept : BodiesKept (others first_list) (others second_list)
  others_kept =
      subst (λ bs. BodiesKept bs (others second_list)) (sym (append-nil (bodies (quiet around) (listed first_list))))
      (subst (BodiesKept (bodies (quiet around) (listed first_list))) (sym (append-nil (bodies (quiet around) (listed second_list)))) (list_bodies x t.before t.after t.d t.w t.leaves around))

  these_bodies : BodiesUnder W S D (bodies_in this) (bodies_in that)
  these_bodies =
      without.each_under W S D (own_body first_list) (others first_list) (own_body second_list) (others second_list)
      (inl (record { number = refl; kind = inl refl; strict = refl; asks_this = refl; same = λ f u s y g. module_runs (S 0) W (listed none) a b t ds f u s y g }), tt)
      (without.more_under nothing W none_steady S D D (without.nothing_part W) (without.none_part S) (without.part_itself D) (others first_list) (others second_list) (without.from_kept D (others first_list) (others second_list) others_kept))

  keeps_module : KeepsModule this that
  keeps_module = record {
    directives = ds;
    number = 0;
    earlier = listed first_list;
    later = listed second_list;
    before = refl;
    after = refl;
    ported = ports_behind t.before (append t.d t.after) (append t.w t.after) (t.ported t.after);
    framed = list_frames x t.before t.after t.d t.w t.leaves;
  }

  -- its symbol was declared once, and is declared no more
  gone : Distinct (declared_symbols this) → times (symbol t.symbol) (declared_symbols that) ≡ 0
  gone d =
      let less = module_less x t.before t.after t.d t.w t.leaves t.declares t.earlier t.later ds t.symbol refl Read in
      let once : times (symbol t.symbol) (declared_symbols this) ≤ 1 = d (symbol t.symbol) in
      omega (arith, less, once)

  program_kept : (K : Shape → Bool) → ProgramKeeps this that → ProgramIsKeptUnder K W S this that
  program_kept K names = record {
    names = names;
    bodies = λ v d. without.more_under W W S S D (undeclared that) (without.part_itself W) (without.each_itself S) (undeclared_there t.symbol that (gone d)) (bodies_in this) (bodies_in that) these_bodies;
    frames = λ v d. kept_shown (gone_from K (undeclared that)) (KeyGivenUnder W S (undeclared that) (bodies_in this)) (frames_in this) (frames_in that) (module_frames this that keeps_module None);
    fixities = λ v d strict y h. ap (written_in strict y) (module_fixed x t.before t.after t.d t.w t.leaves t.declares t.earlier t.later ds y (still_declared t.symbol that (gone d) y h));
    declared = module_declares x t.before t.after t.d t.w t.leaves t.declares t.earlier t.later ds;
    root = refl;
  }

-- ---- of a row

module _ (S : BodySets) (W : VariableSet) (n w : Tree) (r : ModuleBehind S W n w) where
  abbrev there : Behind (S 0) W (listed none) r.before r.after
  there = r.there

  -- what is told of both
  both_told : (P : Tree → Tree → Type 0) → P (program true r.directives (append there.before (append there.d there.after))) (program true r.directives (append there.before (append there.w there.after))) → P n w
  both_told P f =
      subst (λ v. P v w) (sym (r.shape ∙ ap (program true r.directives) there.read_is))
      (subst (P (program true r.directives (append there.before (append there.d there.after)))) (sym (r.written ∙ ap (program true r.directives) there.written_is)) f)

  row_keeps : KeepsLoosely Elsewhere n w
  row_keeps = both_told (KeepsLoosely Elsewhere) (keeps S W r.directives r.before r.after there)

  row_fits : (strict : Bool) (s : Slot) → fits strict s n ≡ true → fits strict s w ≡ true
  row_fits strict s e = ap (fits strict s) r.written ∙ module_fits r.directives r.before r.after (list_fits (S 0) W (listed none) r.before r.after there in_module) strict s (sym (ap (fits strict s) r.shape) ∙ e)

  row_kept : (K : Shape → Bool) → ProgramKeeps n w → ProgramIsKeptUnder K W S n w
  row_kept K = both_told (λ n w. ProgramKeeps n w → ProgramIsKeptUnder K W S n w) (program_kept S W r.directives r.before r.after there K)

-- ---- all

module _ (S : BodySets) (W : VariableSet) where
  -- whichever place it is
  at_module : (P : Position → Tree → Tree → Type 0) → ((n w : Tree) → ModuleBehind S W n w → P Elsewhere n w) → (p : Position) (n w : Tree) → ModulesBehind S W p n w → P p n w
  at_module P f Elsewhere n w r = f n w r
  at_module P f p n w r = absurd r

  -- whatever is told by the shape
  shaped : (P : Tree → Tree → Type 0) → ((ds : List (List ℕ)) (a b : Trees) → P (program true ds a) (program true ds b)) → (n w : Tree) → ModuleBehind S W n w → P n w
  shaped P f n w r = subst (λ v. P v w) (sym r.shape) (subst (P (program true r.directives r.before)) (sym r.written) (f r.directives r.before r.after))

  row_module : (n w : Tree) → ModuleBehind S W n w → KeepsModule n w
  row_module n w r = both_told S W n w r KeepsModule (keeps_module S W r.directives r.before r.after r.there)

  module_names : KeepsNames (ModulesBehind S W)
  module_names = record {
    places = at_module (λ p n w. (is_rewritten_place p ≡ true) ⊎ KeepsRoot p n w) (λ n w r. inr (shaped (KeepsRoot Elsewhere) (λ ds a b. record { place = refl; shape = refl; names = refl; number = refl; counted = refl; second = refl }) n w r));
    pieces = at_module (λ p n w. is_piece (shape_of n) ≡ false) (shaped (λ n w. is_piece (shape_of n) ≡ false) (λ ds a b. refl));
    keeps = at_module (λ p n w. (strict : Bool) (s : Slot) → fits_place p s ≡ true → fits strict s n ≡ true → KeepsLoosely p n w) (λ n w r strict s z e. row_keeps S W n w r);
  }

  pub module_places : KeepsPlaces (ModulesBehind S W)
  module_places = record {
    names = module_names;
    slots = at_module (λ p n w. (strict : Bool) (s : Slot) → fits_place p s ≡ true → fits strict s n ≡ true → ((is_body_slot p s ≡ true) ⊎ IsShownAlike s n w) ⊎ KeepsHolder n w) (λ n w r strict s z e. inr (inr (row_module n w r)));
    ports = at_module (λ p n w. (strict : Bool) (d : Depth) → fits strict (one (a_statement d)) n ≡ true → (m : Bool) → NoPort m n w ⊎ KeepsFunction n w) (λ n w r strict d e m. inl (shaped (NoPort m) (λ ds a b. (refl, refl)) n w r));
    listed = λ p n w e r. absurd (at_module (λ p n w. is_statement_list p ≡ true → ⊥) (λ n w r e. cc e) p n w r e);
    exported = at_module (λ p n w. (strict : Bool) → fits strict (one a_default_export) n ≡ true → NoDeclaration n w ⊎ KeepsFunction n w) (λ n w r strict e. inl (shaped NoDeclaration (λ ds a b. (refl, refl)) n w r));
  }

  pub module_shapes : KeepsShapes (ModulesBehind S W)
  module_shapes = record {
    fitting = at_module (λ p n w. (strict : Bool) (s : Slot) → fits_place p s ≡ true → fits strict s n ≡ true → fits strict s w ≡ true) (λ n w r strict s z e. row_fits S W n w r strict s e);
    asked = at_module AskedAlike (shaped (AskedAlike Elsewhere) (λ ds a b. record { absent = λ g. absurd (true≢false (sym g)); body = λ g. absurd (true≢false (sym g)); optional = λ g. absurd (true≢false (sym g)); number = λ g h. refl; spelled = λ s g. absurd (cc g); plain = refl }));
  }

  pub modules_lawful : (K : Shape → Bool) → LawfulRooted K W S (ModulesBehind S W)
  modules_lawful K =
      programs_rooted (ModulesBehind S W) (at_module (λ p n w. is_program (shape_of n) ≡ true) (shaped (λ n w. is_program (shape_of n) ≡ true) (λ ds a b. refl))) K W S
      (λ n w r e. row_kept S W n w r K (any_reaches_keep (ModulesBehind S W) module_names module_shapes n w (more Elsewhere n w w (here Elsewhere n w r) (done Elsewhere w))))

-- ---- lighter

module _ (S : BodySets) (W : Liberties) where
  of_module_row : (P : Position → Tree → Tree → Type 0) → ((n w : Tree) → PastModuleRow S W n w → P Elsewhere n w) → (p : Position) (n w : Tree) → PastModule S W p n w → P p n w
  of_module_row P f Elsewhere n w r = f n w r
  of_module_row P f p n w r = absurd r

  row_lighter : (n w : Tree) → PastModuleRow S W n w → weight Elsewhere w < weight Elsewhere n
  row_lighter n w r =
      let less = list_lighter S W (S 0) (listed none) r.before r.after r.row in
      omega (arith, less, list_is r.before, list_is r.after, ap (weight Elsewhere) r.shape, ap (weight Elsewhere) r.written)

  row_outline : (p : Position) (n w : Tree) → PastModule S W p n w → weight_outline n ≡ weight_outline w
  row_outline = of_module_row (λ p n w. weight_outline n ≡ weight_outline w) (λ n w r. ap weight_outline r.shape ∙ sym (ap weight_outline r.written))

  pub modules_lighten : Lightens (PastModule S W)
  modules_lighten = record {
    lighter = of_module_row (λ p n w. weight p w < weight p n) row_lighter;
    absent = λ p n w c e. ap (λ o. o.absent) (row_outline p n w c);
    items = λ p n w c e. ap (λ o. o.items) (row_outline p n w c);
    is_zero = λ p n w c e. inl (ap (λ o. o.is_zero) (row_outline p n w c));
    chooses = λ p n w c e. inl (λ h. sym (ap (λ o. o.chooses) (row_outline p n w c)) ∙ h);
  }

pub past_modules_are_lawful : PastModuleIsLawful
past_modules_are_lawful K W S = rooted_narrowed (PastModule S W) (ModulesBehind S W.writable) K W.writable S (modules_behind S W) (modules_lawful S W.writable K)

pub past_modules_are_lighter : PastModuleLightens
past_modules_are_lighter S W = modules_lighten S W
