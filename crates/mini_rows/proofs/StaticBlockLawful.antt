-- What the rows of names that nothing mentions write of a static block is loosely lawful.
use Rattle.std.specs.Prelude.{ℕ, zero, suc, ◌≡◌, ◌⊎◌, refl, ◌&&◌, Bool, true, false, List, [], ◌++◌, Contains, None}
use Rattle.std.proofs.Common.{ap, ◌∙◌, sym, subst, inl, inr, true≢false}
use Rattle.std.proofs.lemmas.Bool.{and_parts}
use Rattle.std.proofs.lemmas.List.{append-nil}
use Rattle.mini_model.specs.declared.name.Name.{Name}
use Rattle.mini_model.specs.declared.place.Position.{Position}
use Rattle.mini_model.specs.declared.place.Position.TheVariants.{Elsewhere}
use Rattle.mini_model.specs.declared.shape.Shape.{Shape}
use Rattle.mini_model.specs.declared.shape.Shape.TheVariants as shape
use Rattle.mini_model.specs.Tree.{Tree, Trees, none, ◌▸◌, listed, shape_of}
use Rattle.mini_model.specs.Paths.{append}
use Rattle.mini_accept.specs.WellShaped.{Depth, in_module, in_body, nested, Class, a_statement, a_class_member, a_key, a_private_or_key, an_inner_key, a_default_export, Slot, one, one_or_absent, each, class_of, filling, filling_by, statement_slots, is_whole, fits, fill}
use Rattle.mini_laws.specs.Value.{Declared, VariableSet, nothing}
use Rattle.mini_laws.specs.State.{Environment}
use Rattle.mini_laws.specs.Demand.{Demand, Stat}
use Rattle.mini_laws.specs.Naming.{summary}
use Rattle.mini_laws.specs.Same.{Same}
use Rattle.mini_laws.specs.Substitution.{alone}
use Rattle.mini_laws.specs.Body.{FunctionStatements}
use Rattle.mini_laws.specs.Bodies.{Around, below, Body, bodies, body_of, arrow_kind}
use Rattle.mini_laws.proofs.Congruent.{body_same, weaker, no_within}
use Rattle.mini_laws.proofs.Simulation.{within_refl}
use Rattle.mini_kept.specs.AlikeBodies.{RunsAs, BodiesKept}
use Rattle.mini_kept.specs.Declaring.{declared}
use Rattle.mini_kept.specs.Frames.{part, outline, globals, frame_of, Frame, frames, FramesKept}
use Rattle.mini_kept.specs.KeepsFrames.{is_body_slot, is_keyed_slot, IsShownAlike, NoPort, NoDeclaration, KeepsFunction, KeepsHolder}
use Rattle.mini_kept.specs.KeepsLoosely.{KeepsLoosely}
use Rattle.mini_kept.specs.KeepsNames.{is_rewritten_place}
use Rattle.mini_kept.specs.KeepsShapes.{AskedAlike}
use Rattle.mini_kept.specs.Lifted.{is_piece, KeepsRoot}
use Rattle.mini_kept.specs.Loosely.{StaysWith, DropsWith, LawfulWith}
use Rattle.mini_kept.specs.Placed.{fits_place, is_statement_list}
use Rattle.mini_kept.specs.ShownFrames.{KeyGiven, Shows, no_key, gone_from}
use Rattle.mini_kept.specs.Without.{Permits, BodiesWith}
use Rattle.mini_kept.proofs.Bools.{left, both}
use Rattle.mini_kept.proofs.Expressions.{refused_here}
use Rattle.mini_kept.proofs.FrameLists as frame_list
use Rattle.mini_kept.proofs.FrameSteps.{its_number}
use Rattle.mini_kept.proofs.ShownFrames.{kept_shown, shows_itself}
use Rattle.mini_kept.proofs.WithoutLists as without
use Rattle.mini_kept.proofs.WithoutLists.{from_kept}
use Rattle.mini_rows.specs.Unused.{resolved, static_block}
use Rattle.mini_rows.proofs.ArrangedBodies.{quiet}
use Rattle.mini_rows.proofs.ArrowBodyLawful.{Instance, list_fits, none_mention}
use Rattle.mini_rows.proofs.StaticBlockKept.{static_less, static_kept, static_keeps, static_fixed, static_declares}
use Rattle.mini_rows.proofs.UnusedKept.{list_frames, list_bodies}
use Rattle.mini_rows.proofs.UnusedMeaning.{static_same}
use Rattle.mini_rows.proofs.UnusedNames.{all_avoided}
use Rattle.mini_rows.proofs.UnusedStretches.{body_item, Stretch}
use Rattle.mini_rows.proofs.HeldStretches.{StaticStretch}

-- ---- where it stands

static_nowhere : (strict : Bool) (d : Depth) → statement_slots strict d shape.StaticBlock ≡ None
static_nowhere true in_module = refl
static_nowhere true in_body = refl
static_nowhere true nested = refl
static_nowhere false in_module = refl
static_nowhere false in_body = refl
static_nowhere false nested = refl

module _ (k : ℕ) (a b : Trees) (h : (strict : Bool) → fill strict (each body_item) a ≡ true → fill strict (each body_item) b ≡ true) where
  -- it is a member of a class
  abbrev Member : Bool → Slot → Type 0
  Member strict s = (fits strict s (static_block k b) ≡ true) × (is_keyed_slot s ≡ true)

  refused : (strict : Bool) (s : Slot) → filling strict s shape.StaticBlock ≡ filling_by None → fits strict s (static_block k a) ≡ true → Member strict s
  refused strict s f e = absurd (refused_here strict s shape.StaticBlock [] k (listed a ▸ none) f e)

  over : (strict : Bool) → fits strict (one a_class_member) (static_block k a) ≡ true → fits strict (one a_class_member) (static_block k b) ≡ true
  over strict e =
      let (w, f) = and_parts (is_whole a_class_member shape.StaticBlock [] k (listed a ▸ none)) (fill strict (each body_item) a && true) e in
      both (is_whole a_class_member shape.StaticBlock [] k (listed b ▸ none)) (fill strict (each body_item) b && true) w (both (fill strict (each body_item) b) true (h strict (left (fill strict (each body_item) a) true f)) refl)

  in_class : (strict : Bool) (c : Class) → fits strict (one c) (static_block k a) ≡ true → Member strict (one c)
  in_class strict a_class_member e = (over strict e, refl)
  in_class strict (a_statement d) e = refused strict (one (a_statement d)) (ap filling_by (static_nowhere strict d)) e
  in_class strict (a_key true) e = refused strict (one (a_key true)) refl e
  in_class strict (a_key false) e = refused strict (one (a_key false)) refl e
  in_class strict (a_private_or_key true) e = refused strict (one (a_private_or_key true)) refl e
  in_class strict (a_private_or_key false) e = refused strict (one (a_private_or_key false)) refl e
  in_class strict (an_inner_key true) e = refused strict (one (an_inner_key true)) refl e
  in_class strict (an_inner_key false) e = refused strict (one (an_inner_key false)) refl e
  in_class strict c e = refused strict (one c) refl e

  pub member_fits : (strict : Bool) (s : Slot) → fits strict s (static_block k a) ≡ true → Member strict s
  member_fits strict (one c) e = in_class strict c e
  member_fits strict (one_or_absent c) e = let (f, g) = in_class strict c e in (f, g)
  member_fits strict s e = refused strict s refl e

-- the frame around it shows its number alone
pub numbered : (k : ℕ) (a b : Trees) (strict : Bool) (s : Slot) → fits strict s (static_block k a) ≡ true → part (static_block k a) ≡ part (static_block k b)
numbered zero a b strict s e = absurd (true≢false (sym (its_number (class_of s) shape.StaticBlock [] 0 (listed a ▸ none) (fill strict (filling strict s shape.StaticBlock) (listed a ▸ none)) e)))
numbered (suc n) a b strict s e = refl

-- ---- an instance

module _ (W : VariableSet) (number : ℕ) (a b : Trees) (t : Stretch W (listed none) a b) where
  abbrev x : Name
  x = resolved t.spelling t.symbol

  abbrev D : VariableSet
  D = alone (Declared t.symbol)

  abbrev first_list : Trees
  first_list = append t.before (append t.d t.after)

  abbrev second_list : Trees
  second_list = append t.before (append t.w t.after)

  abbrev this : Tree
  this = static_block number first_list

  abbrev that : Tree
  that = static_block number second_list

  keeps : KeepsLoosely Elsewhere this that
  keeps = static_keeps x t.before t.after t.d t.w t.loses.leaves t.loses.declares t.earlier t.later number (none_mention W (listed none) a b t)

  means_same : (e : Environment) → Permits W D e → (q : Demand) → Same e D nothing q this that
  means_same e u q = static_same e t.spelling t.symbol u.unseen t.before t.after t.d t.w t.loses.read (all_avoided x t.symbol refl t.before t.earlier) t.loses.avoids (all_avoided x t.symbol refl t.after t.later) (t.loses.same e u) number q

  runs : (e : Environment) → Permits W D e → (X : VariableSet) → RunsAs e FunctionStatements FunctionStatements X this that
  runs e u X =
      let whole = body_same e D X u.unseen.shared FunctionStatements this that (weaker e D D nothing X (within_refl D) (no_within X) (Stat None) this that (means_same e u (Stat None))) in
      record { by = whole.by }

  abbrev own_body : Around → Trees → List Body
  own_body e ts = body_of e shape.StaticBlock number (static_block number ts) (listed ts ▸ none)

  abbrev around : Around → Around
  around e = below e shape.StaticBlock (listed first_list ▸ none) 0

  abbrev others : Around → Trees → List Body
  others e ts = bodies (quiet (around e)) (listed ts) ++ []

  others_kept : (e : Around) → BodiesKept (others e first_list) (others e second_list)
  others_kept e =
      subst (λ bs. BodiesKept bs (others e second_list)) (sym (append-nil (bodies (quiet (around e)) (listed first_list))))
      (subst (BodiesKept (bodies (quiet (around e)) (listed first_list))) (sym (append-nil (bodies (quiet (around e)) (listed second_list)))) (list_bodies x t.before t.after t.d t.w t.loses.leaves (around e)))

  these_bodies : (e : Around) → BodiesWith W D (bodies e this) (bodies e that)
  these_bodies e =
      without.each_of W D (own_body e first_list) (others e first_list) (own_body e second_list) (others e second_list) (inl (record { number = refl; kind = inl refl; strict = refl; asks_this = refl; same = λ f u y X g. runs f u X }), tt)
      (without.all_more nothing W D D (without.nothing_part W) (without.part_itself D) (others e first_list) (others e second_list) (from_kept D (others e first_list) (others e second_list) (others_kept e)))

  abbrev own_frame : List Frame
  own_frame = frame_of None shape.StaticBlock number (outline shape.StaticBlock [] number (listed first_list ▸ none)) (globals shape.StaticBlock (listed first_list ▸ none))

  abbrev frames_after : Trees → List Frame
  frames_after ts = frames None (listed ts) ++ []

  frames_kept : FramesKept (frames_after first_list) (frames_after second_list)
  frames_kept =
      subst (λ fs. FramesKept fs (frames_after second_list)) (sym (append-nil (frames None (listed first_list))))
      (subst (FramesKept (frames None (listed first_list))) (sym (append-nil (frames None (listed second_list)))) (list_frames x t.before t.after t.d t.w t.loses.leaves))

  these_frames : FramesKept (frames None this) (frames None that)
  these_frames = frame_list.each_of own_frame (frames_after first_list) own_frame (frames_after second_list) (λ f c. c) frames_kept

  dropped : (K : Shape → Bool) → DropsWith K W t.symbol Elsewhere this that
  dropped K = record {
    kept = static_kept x t.before t.after t.d t.w t.loses.leaves t.loses.declares t.earlier t.later number;
    less = static_less x t.before t.after t.d t.w t.loses.leaves t.loses.declares t.earlier t.later number t.symbol refl;
    same = λ e u q f. means_same e u q;
    fixed = static_fixed x t.before t.after t.d t.w t.loses.leaves t.loses.declares t.earlier t.later number;
    frames = λ strict c z f. kept_shown (gone_from K D) no_key (frames None this) (frames None that) these_frames;
    bodies = λ strict c z f e s. these_bodies e;
  }

  stretched : Instance W Elsewhere this that
  stretched = record { symbol = t.symbol; keeps = keeps; drops = dropped; declared_there = static_declares x t.before t.after t.d t.w t.loses.leaves t.loses.declares t.earlier t.later number }

-- of a row

module _ (W : VariableSet) (n w : Tree) (r : StaticStretch W n w) where
  there : Stretch W (listed none) r.before r.after
  there = r.there

  instance : Instance W Elsewhere n w
  instance =
      let first = r.shape ∙ ap (static_block r.number) there.read_is in
      let second = r.written ∙ ap (static_block r.number) there.written_is in
      subst (λ v. Instance W Elsewhere v w) (sym first) (subst (Instance W Elsewhere (static_block r.number (append there.before (append there.d there.after)))) (sym second) (stretched W r.number r.before r.after there))

  row_fits : (strict : Bool) (s : Slot) → fits strict s n ≡ true → (fits strict s w ≡ true) × (is_keyed_slot s ≡ true)
  row_fits strict s e =
      let (f, g) = member_fits r.number r.before r.after (list_fits (listed none) r.before r.after there in_body) strict s (sym (ap (fits strict s) r.shape) ∙ e) in
      (ap (fits strict s) r.written ∙ f, g)

  shown_alike : (strict : Bool) (s : Slot) → fits strict s n ≡ true → IsShownAlike s n w
  shown_alike strict s e =
      let same : part n ≡ part w = ap part r.shape ∙ numbered r.number r.before r.after strict s (sym (ap (fits strict s) r.shape) ∙ e) ∙ sym (ap part r.written) in
      ((row_fits strict s e).1, λ a. subst (Shows (KeyGiven nothing (bodies a n)) (part n)) same (shows_itself (KeyGiven nothing (bodies a n)) (part n)))

-- ---- all

-- of what stands in a class
abbrev pub OfStaticBlock : VariableSet → Position → Tree → Tree → Type 0
OfStaticBlock W Elsewhere n w = StaticStretch W n w
OfStaticBlock W p n w = ⊥

-- whatever is told by the shape
shaped : {W : VariableSet} (P : Tree → Tree → Type 0) → ((k : ℕ) (a b : Trees) → P (static_block k a) (static_block k b)) → (n w : Tree) → StaticStretch W n w → P n w
shaped P f n w r = subst (λ v. P v w) (sym r.shape) (subst (P (static_block r.number r.before)) (sym r.written) (f r.number r.before r.after))

-- whichever place it is
at_class : {W : VariableSet} (P : Position → Tree → Tree → Type 0) → ((n w : Tree) → StaticStretch W n w → P Elsewhere n w) → (p : Position) (n w : Tree) → OfStaticBlock W p n w → P p n w
at_class P f Elsewhere n w r = f n w r
at_class P f p n w r = absurd r

pub static_blocks_loose : (K : Shape → Bool) (W : VariableSet) → LawfulWith K W (OfStaticBlock W)
static_blocks_loose K W = record {
  shapes = record {
    fitting = at_class (λ p n w. (strict : Bool) (s : Slot) → fits_place p s ≡ true → fits strict s n ≡ true → fits strict s w ≡ true) (λ n w r strict s z e. (row_fits W n w r strict s e).0);
    asked = at_class AskedAlike (shaped (AskedAlike Elsewhere) (λ k a b. record { absent = λ g. absurd (true≢false (sym g)); body = λ g. absurd (true≢false (sym g)); optional = λ g. absurd (true≢false (sym g)); number = λ g h. refl; spelled = λ s g. absurd (cc g); plain = refl }));
  };
  places = record {
    names = record {
      places = at_class (λ p n w. (is_rewritten_place p ≡ true) ⊎ KeepsRoot p n w) (λ n w r. inr (shaped (KeepsRoot Elsewhere) (λ k a b. record { place = refl; shape = refl; names = refl; number = refl; counted = refl; second = refl }) n w r));
      pieces = at_class (λ p n w. is_piece (shape_of n) ≡ false) (shaped (λ n w. is_piece (shape_of n) ≡ false) (λ k a b. refl));
      keeps = at_class (λ p n w. (strict : Bool) (s : Slot) → fits_place p s ≡ true → fits strict s n ≡ true → KeepsLoosely p n w) (λ n w r strict s z e. (instance W n w r).keeps);
    };
    slots = at_class (λ p n w. (strict : Bool) (s : Slot) → fits_place p s ≡ true → fits strict s n ≡ true → ((is_body_slot p s ≡ true) ⊎ IsShownAlike s n w) ⊎ KeepsHolder n w) (λ n w r strict s z e. inl (inr (shown_alike W n w r strict s e)));
    ports = at_class (λ p n w. (strict : Bool) (d : Depth) → fits strict (one (a_statement d)) n ≡ true → (m : Bool) → NoPort m n w ⊎ KeepsFunction n w) (λ n w r strict d e m. inl (shaped (NoPort m) (λ k a b. (refl, refl)) n w r));
    listed = λ p n w e c. absurd (at_class (λ p n w. is_statement_list p ≡ true → ⊥) (λ n w r e. cc e) p n w c e);
    exported = at_class (λ p n w. (strict : Bool) → fits strict (one a_default_export) n ≡ true → NoDeclaration n w ⊎ KeepsFunction n w) (λ n w r strict e. inl (shaped NoDeclaration (λ k a b. (refl, refl)) n w r));
  };
  reads = at_class (λ p n w. summary n ≡ summary w) (shaped (λ n w. summary n ≡ summary w) (λ k a b. refl));
  kind = at_class (λ p n w. (strict : Bool) (s : Slot) → fits strict s n ≡ true → arrow_kind (shape_of n) ≡ arrow_kind (shape_of w)) (λ n w r strict s e. shaped (λ n w. arrow_kind (shape_of n) ≡ arrow_kind (shape_of w)) (λ k a b. refl) n w r);
  declared = at_class (λ p n w. (y : Name) → Contains (declared w) y → Contains (declared n) y) (λ n w r. (instance W n w r).declared_there);
  instances = at_class (λ p n w. StaysWith W p n w ⊎ ((k : ℕ) × DropsWith K W k p n w)) (λ n w r. let i = instance W n w r in inr (i.symbol, i.drops K));
}
