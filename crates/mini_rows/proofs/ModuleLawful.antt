-- What the rows of names that nothing mentions write of a module is loosely lawful.
use Rattle.std.specs.Prelude.{ℕ, ◌≡◌, ◌⊎◌, refl, ◌&&◌, Bool, true, false, List, [], ◌∷◌, ◌++◌, Contains, None, if◌then◌else◌}
use Rattle.std.proofs.Common.{ap, ◌∙◌, sym, subst, inl, inr, true≢false}
use Rattle.std.proofs.lemmas.Bool.{and_parts}
use Rattle.std.proofs.lemmas.List.{append-nil}
use Rattle.mini_model.specs.declared.name.Name.{Name}
use Rattle.mini_model.specs.declared.place.Position.{Position}
use Rattle.mini_model.specs.declared.place.Position.TheVariants.{Elsewhere}
use Rattle.mini_model.specs.declared.shape.Shape.{Shape}
use Rattle.mini_model.specs.declared.shape.Shape.TheVariants as shape
use Rattle.mini_model.specs.Tree.{Tree, Trees, none, ◌▸◌, listed, shape_of, program}
use Rattle.mini_model.specs.Paths.{append}
use Rattle.mini_accept.specs.WellShaped.{Depth, in_module, Class, a_statement, a_loop_left, a_method, a_default_export, Slot, one, many, these, each, class_of, filling, has_its_number, has_plain_fields, has_its_parts, is_whole, fits, fill}
use Rattle.mini_laws.specs.Value.{Declared, VariableSet, nothing}
use Rattle.mini_laws.specs.State.{Environment}
use Rattle.mini_laws.specs.Demand.{Demand, Stat}
use Rattle.mini_laws.specs.Naming.{summary}
use Rattle.mini_laws.specs.Same.{Same}
use Rattle.mini_laws.specs.Substitution.{alone}
use Rattle.mini_laws.specs.Body.{Program}
use Rattle.mini_laws.specs.Bodies.{Around, below, Body, bodies, body_of, arrow_kind}
use Rattle.mini_laws.proofs.Congruent.{body_same, weaker, no_within}
use Rattle.mini_laws.proofs.Simulation.{within_refl}
use Rattle.mini_kept.specs.AlikeBodies.{RunsAs, BodiesKept}
use Rattle.mini_kept.specs.Declaring.{declared}
use Rattle.mini_kept.specs.Frames.{own, is_port, ports, frames}
use Rattle.mini_kept.specs.KeepsFrames.{is_body_slot, IsShownAlike, NoPort, NoDeclaration, KeepsFunction, KeepsModule, KeepsHolder}
use Rattle.mini_kept.specs.KeepsLoosely.{KeepsLoosely}
use Rattle.mini_kept.specs.KeepsNames.{is_rewritten_place}
use Rattle.mini_kept.specs.KeepsShapes.{AskedAlike}
use Rattle.mini_kept.specs.Lifted.{is_piece, KeepsRoot}
use Rattle.mini_kept.specs.Loosely.{StaysWith, DropsWith, LawfulWith}
use Rattle.mini_kept.specs.Placed.{fits_place, is_statement_list}
use Rattle.mini_kept.specs.ShownFrames.{no_key, gone_from}
use Rattle.mini_kept.specs.Without.{Permits, BodiesWith}
use Rattle.mini_kept.proofs.Bools.{left, both}
use Rattle.mini_kept.proofs.Expressions.{refused_here}
use Rattle.mini_kept.proofs.FramePlaces.{AProgram, program_filling}
use Rattle.mini_kept.proofs.FrameSteps.{module_frames}
use Rattle.mini_kept.proofs.ShownFrames.{kept_shown}
use Rattle.mini_kept.proofs.WithoutLists as without
use Rattle.mini_kept.proofs.WithoutLists.{from_kept}
use Rattle.mini_rows.specs.Unused.{resolved}
use Rattle.mini_rows.proofs.ArrangedBodies.{quiet}
use Rattle.mini_rows.proofs.ArrowBodyLawful.{Instance, list_fits, none_mention}
use Rattle.mini_rows.proofs.ModuleKept.{module_less, module_kept, module_keeps, module_fixed, module_declares}
use Rattle.mini_rows.proofs.UnusedKept.{list_frames, list_bodies}
use Rattle.mini_rows.proofs.UnusedMeaning.{module_same}
use Rattle.mini_rows.proofs.UnusedNames.{all_avoided}
use Rattle.mini_rows.proofs.UnusedStretches.{item_in, Stretch}
use Rattle.mini_rows.proofs.HeldStretches.{ModuleStretch}

-- ---- where it stands

program_parts : (c : Class) (ds : List (List ℕ)) (ts : Trees) → has_its_parts c (shape.Program true ds) ts ≡ true
program_parts (a_loop_left enumerates) ds ts = refl
program_parts a_method ds ts = refl
program_parts c ds ts = refl

module _ (ds : List (List ℕ)) (a b : Trees) (h : (strict : Bool) → fill strict (each (item_in in_module)) a ≡ true → fill strict (each (item_in in_module)) b ≡ true) where
  abbrev over : Trees → Trees
  over ts = listed ts ▸ none

  whole : (c : Class) → is_whole c (shape.Program true ds) [] 0 (over a) ≡ is_whole c (shape.Program true ds) [] 0 (over b)
  whole c = ap (λ q. has_its_number c (shape.Program true ds) 0 && (has_plain_fields (shape.Program true ds) && q)) (program_parts c ds (over a) ∙ sym (program_parts c ds (over b)))

  list_there : fill true (these (many (a_statement in_module) ∷ [])) (over a) ≡ true → fill true (these (many (a_statement in_module) ∷ [])) (over b) ≡ true
  list_there e = both (fill true (each (item_in in_module)) b) true (h true (left (fill true (each (item_in in_module)) a) true e)) refl

  pub module_fits : (strict : Bool) (s : Slot) → fits strict s (program true ds a) ≡ true → fits strict s (program true ds b) ≡ true
  module_fits strict s e = by (program_filling strict s true ds)
    where
      by : AProgram strict s true ds → fits strict s (program true ds b) ≡ true
      by (inl f) = absurd (refused_here strict s (shape.Program true ds) [] 0 (over a) f e)
      by (inr f) =
          let (w, g) = and_parts (is_whole (class_of s) (shape.Program true ds) [] 0 (over a)) (fill true (filling strict s (shape.Program true ds)) (over a)) e in
          both (is_whole (class_of s) (shape.Program true ds) [] 0 (over b)) (fill true (filling strict s (shape.Program true ds)) (over b)) (sym (whole (class_of s)) ∙ w)
          (subst (λ k. fill true k (over b) ≡ true) (sym f) (list_there (subst (λ k. fill true k (over a) ≡ true) f g)))

-- ---- its imports and exports

pub ports_behind : (before d w : Trees) → ports true d ≡ ports true w → ports true (append before d) ≡ ports true (append before w)
ports_behind none d w e = e
ports_behind (t ▸ before) d w e = ap (λ ps. if is_port true (shape_of t) then own t ▸ ps else ps) (ports_behind before d w e)

-- ---- an instance

module _ (W : VariableSet) (ds : List (List ℕ)) (a b : Trees) (t : Stretch W (listed none) a b) where
  abbrev x : Name
  x = resolved t.spelling t.symbol

  abbrev D : VariableSet
  D = alone (Declared t.symbol)

  abbrev first_list : Trees
  first_list = append t.before (append t.d t.after)

  abbrev second_list : Trees
  second_list = append t.before (append t.w t.after)

  abbrev this : Tree
  this = program true ds first_list

  abbrev that : Tree
  that = program true ds second_list

  keeps : KeepsLoosely Elsewhere this that
  keeps = module_keeps x t.before t.after t.d t.w t.loses.leaves t.loses.declares t.earlier t.later ds (none_mention W (listed none) a b t)

  means_same : (e : Environment) → Permits W D e → (q : Demand) → Same e D nothing q this that
  means_same e u q = module_same e t.spelling t.symbol u.unseen t.before t.after t.d t.w t.loses.read (all_avoided x t.symbol refl t.before t.earlier) t.loses.avoids (all_avoided x t.symbol refl t.after t.later) (t.loses.same e u) ds q

  runs : (e : Environment) → Permits W D e → (X : VariableSet) → RunsAs e Program Program X this that
  runs e u X =
      let whole = body_same e D X u.unseen.shared Program this that (weaker e D D nothing X (within_refl D) (no_within X) (Stat None) this that (means_same e u (Stat None))) in
      record { by = whole.by }

  abbrev own_body : Around → Trees → List Body
  own_body e ts = body_of e (shape.Program true ds) 0 (program true ds ts) (listed ts ▸ none)

  abbrev around : Around → Around
  around e = below e (shape.Program true ds) (listed first_list ▸ none) 0

  abbrev others : Around → Trees → List Body
  others e ts = bodies (quiet (around e)) (listed ts) ++ []

  others_kept : (e : Around) → BodiesKept (others e first_list) (others e second_list)
  others_kept e =
      subst (λ bs. BodiesKept bs (others e second_list)) (sym (append-nil (bodies (quiet (around e)) (listed first_list))))
      (subst (BodiesKept (bodies (quiet (around e)) (listed first_list))) (sym (append-nil (bodies (quiet (around e)) (listed second_list)))) (list_bodies x t.before t.after t.d t.w t.loses.leaves (around e)))

  these_bodies : (e : Around) → BodiesWith W D (bodies e this) (bodies e that)
  these_bodies e =
      without.each_of W D (own_body e first_list) (others e first_list) (own_body e second_list) (others e second_list) (inl (record { number = refl; kind = inl refl; strict = refl; asks_this = refl; same = λ f u y X g. runs f u X }), tt)
      (without.all_more nothing W D D (without.nothing_part W) (without.part_itself D) (others e first_list) (others e second_list) (from_kept D (others e first_list) (others e second_list) (others_kept e)))

  keeps_module : KeepsModule this that
  keeps_module = record {
    directives = ds;
    number = 0;
    earlier = listed first_list;
    later = listed second_list;
    before = refl;
    after = refl;
    ported = ports_behind t.before (append t.d t.after) (append t.w t.after) (t.loses.ported t.after);
    framed = list_frames x t.before t.after t.d t.w t.loses.leaves;
  }

  dropped : (K : Shape → Bool) → DropsWith K W t.symbol Elsewhere this that
  dropped K = record {
    kept = module_kept x t.before t.after t.d t.w t.loses.leaves t.loses.declares t.earlier t.later ds;
    less = module_less x t.before t.after t.d t.w t.loses.leaves t.loses.declares t.earlier t.later ds t.symbol refl;
    same = λ e u q f. means_same e u q;
    fixed = module_fixed x t.before t.after t.d t.w t.loses.leaves t.loses.declares t.earlier t.later ds;
    frames = λ strict c z f. kept_shown (gone_from K D) no_key (frames None this) (frames None that) (module_frames this that keeps_module None);
    bodies = λ strict c z f e s. these_bodies e;
  }

  stretched : Instance W Elsewhere this that
  stretched = record { symbol = t.symbol; keeps = keeps; drops = dropped; declared_there = module_declares x t.before t.after t.d t.w t.loses.leaves t.loses.declares t.earlier t.later ds }

-- of a row

module _ (W : VariableSet) (n w : Tree) (r : ModuleStretch W n w) where
  there : Stretch W (listed none) r.before r.after
  there = r.there

  first : n ≡ program true r.directives (append there.before (append there.d there.after))
  first = r.shape ∙ ap (program true r.directives) there.read_is

  second : w ≡ program true r.directives (append there.before (append there.w there.after))
  second = r.written ∙ ap (program true r.directives) there.written_is

  -- what is told of both
  both_told : (P : Tree → Tree → Type 0) → P (program true r.directives (append there.before (append there.d there.after))) (program true r.directives (append there.before (append there.w there.after))) → P n w
  both_told P f = subst (λ v. P v w) (sym first) (subst (P (program true r.directives (append there.before (append there.d there.after)))) (sym second) f)

  instance : Instance W Elsewhere n w
  instance = both_told (Instance W Elsewhere) (stretched W r.directives r.before r.after there)

  keeps_holder : KeepsHolder n w
  keeps_holder = inr (both_told KeepsModule (keeps_module W r.directives r.before r.after there))

  row_fits : (strict : Bool) (s : Slot) → fits strict s n ≡ true → fits strict s w ≡ true
  row_fits strict s e = ap (fits strict s) r.written ∙ module_fits r.directives r.before r.after (list_fits (listed none) r.before r.after there in_module) strict s (sym (ap (fits strict s) r.shape) ∙ e)

-- ---- all

-- of a program
abbrev pub OfModule : VariableSet → Position → Tree → Tree → Type 0
OfModule W Elsewhere n w = ModuleStretch W n w
OfModule W p n w = ⊥

-- whatever is told by the shape
shaped : {W : VariableSet} (P : Tree → Tree → Type 0) → ((ds : List (List ℕ)) (a b : Trees) → P (program true ds a) (program true ds b)) → (n w : Tree) → ModuleStretch W n w → P n w
shaped P f n w r = subst (λ v. P v w) (sym r.shape) (subst (P (program true r.directives r.before)) (sym r.written) (f r.directives r.before r.after))

-- whichever place it is
at_module : {W : VariableSet} (P : Position → Tree → Tree → Type 0) → ((n w : Tree) → ModuleStretch W n w → P Elsewhere n w) → (p : Position) (n w : Tree) → OfModule W p n w → P p n w
at_module P f Elsewhere n w r = f n w r
at_module P f p n w r = absurd r

pub modules_loose : (K : Shape → Bool) (W : VariableSet) → LawfulWith K W (OfModule W)
modules_loose K W = record {
  shapes = record {
    fitting = at_module (λ p n w. (strict : Bool) (s : Slot) → fits_place p s ≡ true → fits strict s n ≡ true → fits strict s w ≡ true) (λ n w r strict s z e. row_fits W n w r strict s e);
    asked = at_module AskedAlike (shaped (AskedAlike Elsewhere) (λ ds a b. record { absent = λ g. absurd (true≢false (sym g)); body = λ g. absurd (true≢false (sym g)); optional = λ g. absurd (true≢false (sym g)); number = λ g h. refl; spelled = λ s g. absurd (cc g); plain = refl }));
  };
  places = record {
    names = record {
      places = at_module (λ p n w. (is_rewritten_place p ≡ true) ⊎ KeepsRoot p n w) (λ n w r. inr (shaped (KeepsRoot Elsewhere) (λ ds a b. record { place = refl; shape = refl; names = refl; number = refl; counted = refl; second = refl }) n w r));
      pieces = at_module (λ p n w. is_piece (shape_of n) ≡ false) (shaped (λ n w. is_piece (shape_of n) ≡ false) (λ ds a b. refl));
      keeps = at_module (λ p n w. (strict : Bool) (s : Slot) → fits_place p s ≡ true → fits strict s n ≡ true → KeepsLoosely p n w) (λ n w r strict s z e. (instance W n w r).keeps);
    };
    slots = at_module (λ p n w. (strict : Bool) (s : Slot) → fits_place p s ≡ true → fits strict s n ≡ true → ((is_body_slot p s ≡ true) ⊎ IsShownAlike s n w) ⊎ KeepsHolder n w) (λ n w r strict s z e. inr (keeps_holder W n w r));
    ports = at_module (λ p n w. (strict : Bool) (d : Depth) → fits strict (one (a_statement d)) n ≡ true → (m : Bool) → NoPort m n w ⊎ KeepsFunction n w) (λ n w r strict d e m. inl (shaped (NoPort m) (λ ds a b. (refl, refl)) n w r));
    listed = λ p n w e c. absurd (at_module (λ p n w. is_statement_list p ≡ true → ⊥) (λ n w r e. cc e) p n w c e);
    exported = at_module (λ p n w. (strict : Bool) → fits strict (one a_default_export) n ≡ true → NoDeclaration n w ⊎ KeepsFunction n w) (λ n w r strict e. inl (shaped NoDeclaration (λ ds a b. (refl, refl)) n w r));
  };
  reads = at_module (λ p n w. summary n ≡ summary w) (shaped (λ n w. summary n ≡ summary w) (λ ds a b. refl));
  kind = at_module (λ p n w. (strict : Bool) (s : Slot) → fits strict s n ≡ true → arrow_kind (shape_of n) ≡ arrow_kind (shape_of w)) (λ n w r strict s e. shaped (λ n w. arrow_kind (shape_of n) ≡ arrow_kind (shape_of w)) (λ ds a b. refl) n w r);
  declared = at_module (λ p n w. (y : Name) → Contains (declared w) y → Contains (declared n) y) (λ n w r. (instance W n w r).declared_there);
  instances = at_module (λ p n w. StaysWith W p n w ⊎ ((k : ℕ) × DropsWith K W k p n w)) (λ n w r. let i = instance W n w r in inr (i.symbol, i.drops K));
}
