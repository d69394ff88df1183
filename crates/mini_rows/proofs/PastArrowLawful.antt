-- What the rows of names that are read behind held names write of an arrow function is lawful where that is known of its body.
use Rattle.std.specs.Prelude.{ℕ, ◌≡◌, ◌<◌, ◌⊎◌, refl, Bool, true, false, List, [], ◌++◌, Contains, None}
use Rattle.std.proofs.Common.{ap, ◌∙◌, sym, subst, arith, inl, inr, true≢false}
use Rattle.mini_model.specs.declared.name.Name.{Name}
use Rattle.mini_model.specs.declared.place.Position.{Position}
use Rattle.mini_model.specs.declared.place.Position.TheVariants.{Expr}
use Rattle.mini_model.specs.declared.seat.Seat.{Seat}
use Rattle.mini_model.specs.declared.shape.Shape.{Shape}
use Rattle.mini_model.specs.declared.shape.Shape.TheVariants as shape
use Rattle.mini_model.specs.Tree.{Tree, Trees, none, ◌▸◌, listed, shape_of}
use Rattle.mini_model.specs.Paths.{append}
use Rattle.mini_model.specs.Weight.{outline as weight_outline, weight}
use Rattle.mini_accept.specs.WellShaped.{in_body, Depth, a_statement, a_default_export, Slot, one, fits}
use Rattle.mini_laws.specs.Value.{Declared, VariableSet, nothing}
use Rattle.mini_laws.specs.Naming.{summary}
use Rattle.mini_laws.specs.Substitution.{alone}
use Rattle.mini_laws.specs.Bodies.{Around, below, Body, bodies, body_of, arrow_kind}
use Rattle.mini_laws.specs.Weights.{Lightens}
use Rattle.mini_laws.proofs.Congruent.{weaker, no_within}
use Rattle.mini_kept.specs.Declaring.{declared}
use Rattle.mini_kept.specs.Frames.{outline, globals, frame_of, Frame, frames, FramesKept}
use Rattle.mini_kept.specs.KeepsFrames.{is_body_slot, IsShownAlike, NoPort, NoDeclaration, KeepsFunction, KeepsHolder}
use Rattle.mini_kept.specs.KeepsLoosely.{KeepsLoosely}
use Rattle.mini_kept.specs.KeepsNames.{Keeps, is_rewritten_place}
use Rattle.mini_kept.specs.KeepsShapes.{AskedAlike}
use Rattle.mini_kept.specs.Lifted.{is_piece, KeepsRoot}
use Rattle.mini_kept.specs.Loosely.{DropsUnder, SteadiesWith, LawfulUnder}
use Rattle.mini_kept.specs.Placed.{fits_place, is_statement_list}
use Rattle.mini_kept.specs.ShownFrames.{no_key, gone_from}
use Rattle.mini_kept.specs.Without.{BodySets, none_steady, BodiesUnder}
use Rattle.mini_kept.proofs.Expressions.{TakesExpression}
use Rattle.mini_kept.proofs.FrameLists as frame_list
use Rattle.mini_kept.proofs.FrameRows.{expression_slot}
use Rattle.mini_kept.proofs.InOrder.{in_order}
use Rattle.mini_kept.proofs.Loosely.{steady_narrowed}
use Rattle.mini_kept.proofs.ShownFrames.{kept_shown}
use Rattle.mini_kept.proofs.WithoutLists as without
use Rattle.mini_rows.specs.PastArrows.{PastArrowRow, PastArrow, PastArrowIsLawful, PastArrowLightens}
use Rattle.mini_rows.specs.Unused.{resolved, statements, arrow_with}
use Rattle.mini_rows.specs.Switches.{Liberties}
use Rattle.mini_rows.proofs.ArrangedBodies.{quiet}
use Rattle.mini_rows.proofs.ArrowBodyLawful.{same_at, in_slot}
use Rattle.mini_rows.proofs.FunctionBodyKept.{arrow_less, arrow_keeps, arrow_fixed, frames_behind, bodies_behind, arrow_declares}
use Rattle.mini_rows.proofs.ListWeights.{list_is, body_is}
use Rattle.mini_rows.proofs.PastLawful.{list_fits, none_mention, list_lighter}
use Rattle.mini_rows.proofs.PastHolders.{ArrowBehind, ArrowsBehind, arrows_behind}
use Rattle.mini_rows.proofs.PastStretches.{Behind, statements_run}

-- ---- an instance

record Instance (K : Shape → Bool) (W : VariableSet) (S : BodySets) (p : Position) (n w : Tree) : Type 0 where
  symbol : ℕ
  keeps : Keeps p n w
  drops : DropsUnder K W S symbol p n w
  declares : (y : Name) → Contains (declared w) y → Contains (declared n) y

module _ (K : Shape → Bool) (S : BodySets) (W : VariableSet) (s : Seat) (ds : List (List ℕ)) (number : ℕ) (ps a b : Trees) (t : Behind (S number) W (listed ps) a b) where
  abbrev x : Name
  x = resolved t.spelling t.symbol

  abbrev D : VariableSet
  D = alone (Declared t.symbol)

  abbrev first_list : Trees
  first_list = append t.before (append t.d t.after)

  abbrev second_list : Trees
  second_list = append t.before (append t.w t.after)

  abbrev this : Tree
  this = arrow_with ds number ps first_list

  abbrev that : Tree
  that = arrow_with ds number ps second_list

  keeps : Keeps (Expr s) this that
  keeps = arrow_keeps (listed ps) x t.before t.after t.d t.w t.leaves t.declares t.outer t.earlier t.later ds number (none_mention (S number) W (listed ps) a b t) s

  abbrev own : Around → Trees → List Body
  own e ts = body_of e (shape.ArrowFunctionExpression ds) number (arrow_with ds number ps ts) (listed ps ▸ (statements ts ▸ none))

  abbrev around : Around → ℕ → Around
  around e i = below e (shape.ArrowFunctionExpression ds) (listed ps ▸ (statements first_list ▸ none)) i

  abbrev bodies_after : Around → Trees → List Body
  bodies_after e ts = bodies (around e 0) (listed ps) ++ ((bodies (quiet (around e 1)) (listed ts) ++ []) ++ [])

  these_bodies : (e : Around) → BodiesUnder W S D (bodies e this) (bodies e that)
  these_bodies e =
      without.each_under W S D (own e first_list) (bodies_after e first_list) (own e second_list) (bodies_after e second_list)
      (inl (record { number = refl; kind = inl refl; strict = refl; asks_this = refl; same = λ f u z y g. statements_run (S number) W (listed ps) a b t f u z y g }), tt)
      (without.more_under nothing W none_steady S D D (without.nothing_part W) (without.none_part S) (without.part_itself D) (bodies_after e first_list) (bodies_after e second_list) (without.from_kept D (bodies_after e first_list) (bodies_after e second_list) (bodies_behind (listed ps) x t.before t.after t.d t.w t.leaves t.declares t.outer t.earlier t.later (around e 0) (around e 1))))

  abbrev own_frame : List Frame
  own_frame = frame_of None (shape.ArrowFunctionExpression ds) number (outline (shape.ArrowFunctionExpression ds) [] number (listed ps ▸ (statements first_list ▸ none))) (globals (shape.ArrowFunctionExpression ds) (listed ps ▸ (statements first_list ▸ none)))

  abbrev frames_after : Trees → List Frame
  frames_after ts = frames None (listed ps) ++ ((frames None (listed ts) ++ []) ++ [])

  these_frames : FramesKept (frames None this) (frames None that)
  these_frames = frame_list.each_of own_frame (frames_after first_list) own_frame (frames_after second_list) (λ f c. c) (frames_behind (listed ps) x t.before t.after t.d t.w t.leaves t.declares t.outer t.earlier t.later)

  dropped : DropsUnder K W S t.symbol (Expr s) this that
  dropped = record {
    kept = keeps.kept;
    less = arrow_less (listed ps) x t.before t.after t.d t.w t.leaves t.declares t.outer t.earlier t.later ds number t.symbol refl;
    same = λ e u q f. weaker e nothing D nothing nothing (no_within D) (no_within nothing) q this that ((same_at ds number ps first_list second_list (Expr s)).by e nothing nothing q f);
    fixed = arrow_fixed (listed ps) x t.before t.after t.d t.w t.leaves t.declares t.outer t.earlier t.later ds number;
    frames = λ strict c z f. kept_shown (gone_from K D) no_key (frames None this) (frames None that) these_frames;
    bodies = λ strict c z f e y. these_bodies e;
  }

  there : Instance K W S (Expr s) this that
  there = record {
    symbol = t.symbol;
    keeps = keeps;
    drops = dropped;
    declares = arrow_declares (listed ps) x t.before t.after t.d t.w t.leaves t.declares t.outer t.earlier t.later ds number;
  }

-- ---- of a row

module _ (S : BodySets) (W : VariableSet) where
  instance : (K : Shape → Bool) (s : Seat) (n w : Tree) → ArrowBehind S W n w → Instance K W S (Expr s) n w
  instance K s n w r =
      let t = r.there in
      let with_list = arrow_with r.directives r.number r.parameters in
      let first = r.shape ∙ ap with_list t.read_is in
      let second = r.written ∙ ap with_list t.written_is in
      subst (λ v. Instance K W S (Expr s) v w) (sym first)
      (subst (Instance K W S (Expr s) (with_list (append t.before (append t.d t.after)))) (sym second) (there K S W s r.directives r.number r.parameters r.before r.after t))

  -- whatever is told by the shape
  shaped : (P : Tree → Tree → Type 0) → ((ds : List (List ℕ)) (k : ℕ) (ps a b : Trees) → P (arrow_with ds k ps a) (arrow_with ds k ps b)) → (n w : Tree) → ArrowBehind S W n w → P n w
  shaped P f n w r = subst (λ v. P v w) (sym r.shape) (subst (P (arrow_with r.directives r.number r.parameters r.before)) (sym r.written) (f r.directives r.number r.parameters r.before r.after))

  stands : (n w : Tree) → ArrowBehind S W n w → (strict : Bool) (s : Slot) → fits strict s n ≡ true → TakesExpression s × (fits strict s w ≡ true)
  stands n w r strict s e =
      let t = r.there in
      let (takes, f) = in_slot r.directives r.number r.parameters r.before r.after (list_fits (S r.number) W (listed r.parameters) r.before r.after t in_body) strict s (sym (ap (fits strict s) r.shape) ∙ e) in
      (takes, ap (fits strict s) r.written ∙ f)

  -- whichever place it is
  at_arrow : (P : Position → Tree → Tree → Type 0) → ((s : Seat) (n w : Tree) → ArrowBehind S W n w → P (Expr s) n w) → (p : Position) (n w : Tree) → ArrowsBehind S W p n w → P p n w
  at_arrow P f (Expr s) n w r = f s n w r
  at_arrow P f p n w r = absurd r

  pub arrows_lawful : (K : Shape → Bool) → LawfulUnder K W S (ArrowsBehind S W)
  arrows_lawful K = record {
    shapes = record {
      fitting = at_arrow (λ p n w. (strict : Bool) (s : Slot) → fits_place p s ≡ true → fits strict s n ≡ true → fits strict s w ≡ true) (λ q n w r strict s z e. (stands n w r strict s e).1);
      asked = at_arrow AskedAlike (λ q. shaped (AskedAlike (Expr q)) (λ ds k ps a b. record { absent = λ g. absurd (true≢false (sym g)); body = λ g. absurd (true≢false (sym g)); optional = λ g. absurd (true≢false (sym g)); number = λ g h. refl; spelled = λ r g. absurd (cc g); plain = refl }));
    };
    places = record {
      names = record {
        places = at_arrow (λ p n w. (is_rewritten_place p ≡ true) ⊎ KeepsRoot p n w) (λ q n w r. inl refl);
        pieces = at_arrow (λ p n w. is_piece (shape_of n) ≡ false) (λ q. shaped (λ n w. is_piece (shape_of n) ≡ false) (λ ds k ps a b. refl));
        keeps = at_arrow (λ p n w. (strict : Bool) (s : Slot) → fits_place p s ≡ true → fits strict s n ≡ true → KeepsLoosely p n w) (λ q n w r strict s z e. in_order (Expr q) n w (instance K q n w r).keeps);
      };
      slots = at_arrow (λ p n w. (strict : Bool) (s : Slot) → fits_place p s ≡ true → fits strict s n ≡ true → ((is_body_slot p s ≡ true) ⊎ IsShownAlike s n w) ⊎ KeepsHolder n w) (λ q n w r strict s z e. inl (inl (expression_slot (Expr q) s (stands n w r strict s e).0)));
      ports = at_arrow (λ p n w. (strict : Bool) (d : Depth) → fits strict (one (a_statement d)) n ≡ true → (m : Bool) → NoPort m n w ⊎ KeepsFunction n w) (λ q n w r strict d e. absurd (stands n w r strict (one (a_statement d)) e).0);
      listed = λ p n w e c. absurd (at_arrow (λ p n w. is_statement_list p ≡ true → ⊥) (λ q n w r e. cc e) p n w c e);
      exported = at_arrow (λ p n w. (strict : Bool) → fits strict (one a_default_export) n ≡ true → NoDeclaration n w ⊎ KeepsFunction n w) (λ q n w r strict e. inl (shaped NoDeclaration (λ ds k ps a b. (refl, refl)) n w r));
    };
    reads = at_arrow (λ p n w. summary n ≡ summary w) (λ q. shaped (λ n w. summary n ≡ summary w) (λ ds k ps a b. refl));
    kind = at_arrow (λ p n w. (strict : Bool) (s : Slot) → fits strict s n ≡ true → arrow_kind (shape_of n) ≡ arrow_kind (shape_of w)) (λ q n w r strict s e. shaped (λ n w. arrow_kind (shape_of n) ≡ arrow_kind (shape_of w)) (λ ds k ps a b. refl) n w r);
    declared = at_arrow (λ p n w. (y : Name) → Contains (declared w) y → Contains (declared n) y) (λ q n w r. (instance K q n w r).declares);
    instances = at_arrow (λ p n w. SteadiesWith W S p n w ⊎ ((k : ℕ) × DropsUnder K W S k p n w)) (λ q n w r. let i = instance K q n w r in inr (i.symbol, i.drops));
  }

-- ---- lighter

module _ (S : BodySets) (W : Liberties) where
  in_arrow : (P : Position → Tree → Tree → Type 0) → ((s : Seat) (n w : Tree) → PastArrowRow S W n w → P (Expr s) n w) → (p : Position) (n w : Tree) → PastArrow S W p n w → P p n w
  in_arrow P f (Expr s) n w r = f s n w r
  in_arrow P f p n w r = absurd r

  row_lighter : (p : Position) (n w : Tree) → PastArrowRow S W n w → weight p w < weight p n
  row_lighter p n w r =
      let less = list_lighter S W (S r.number) (listed r.parameters) r.before r.after r.row in
      omega (arith, less, list_is r.before, list_is r.after, body_is r.before, body_is r.after, ap (weight p) r.shape, ap (weight p) r.written)

  row_outline : (p : Position) (n w : Tree) → PastArrow S W p n w → weight_outline n ≡ weight_outline w
  row_outline = in_arrow (λ p n w. weight_outline n ≡ weight_outline w) (λ q n w r. ap weight_outline r.shape ∙ sym (ap weight_outline r.written))

  pub arrows_lighten : Lightens (PastArrow S W)
  arrows_lighten = record {
    lighter = in_arrow (λ p n w. weight p w < weight p n) (λ q n w r. row_lighter (Expr q) n w r);
    absent = λ p n w c e. ap (λ o. o.absent) (row_outline p n w c);
    items = λ p n w c e. ap (λ o. o.items) (row_outline p n w c);
    is_zero = λ p n w c e. inl (ap (λ o. o.is_zero) (row_outline p n w c));
    chooses = λ p n w c e. inl (λ h. sym (ap (λ o. o.chooses) (row_outline p n w c)) ∙ h);
  }

pub past_arrows_are_lawful : PastArrowIsLawful
past_arrows_are_lawful K W S = steady_narrowed (PastArrow S W) (ArrowsBehind S W.writable) K W.writable S (arrows_behind S W) (arrows_lawful S W.writable K)

pub past_arrows_are_lighter : PastArrowLightens
past_arrows_are_lighter S W = arrows_lighten S W
