-- What the rows of names that are read behind held names write of a static block keeps the program, where that is known of its body: the node around
-- evaluates none of its children, so that all but that body run as before.
use Rattle.std.specs.Prelude.{ℕ, suc, ◌+◌, ◌<◌, ◌≤◌, ◌≡◌, ◌⊎◌, refl, Bool, true, false, List, [], ◌∷◌, ◌++◌, Contains, None, not}
use Rattle.std.proofs.Common.{ap, ◌∙◌, sym, subst, arith, inl, inr, true≢false}
use Rattle.std.proofs.lemmas.List.{append-nil}
use Rattle.mini_model.specs.declared.name.Name.{Name}
use Rattle.mini_model.specs.declared.place.Position.{Position}
use Rattle.mini_model.specs.declared.place.Position.TheVariants.{Elsewhere}
use Rattle.mini_model.specs.declared.shape.Shape.{Shape}
use Rattle.mini_model.specs.declared.shape.Shape.TheVariants as shape
use Rattle.mini_model.specs.Tree.{Tree, Trees, node, none, ◌▸◌, listed, shape_of, children}
use Rattle.mini_model.specs.Paths.{append}
use Rattle.mini_model.specs.Rewriting.{Step, here, inside, Reaches, done, more}
use Rattle.mini_model.specs.Weight.{outline as weight_outline, weight}
use Rattle.mini_accept.specs.WellShaped.{Depth, in_body, a_statement, a_default_export, a_program, Slot, one, fits, IsWellShaped}
use Rattle.mini_laws.specs.declared.names.Use.{Use}
use Rattle.mini_laws.specs.declared.names.Use.TheVariants.{Read}
use Rattle.mini_laws.specs.Edits.{Kept}
use Rattle.mini_laws.specs.Symbols.{declared as declared_in, declared_symbols, times, Distinct}
use Rattle.mini_laws.specs.Value.{Variable, Declared, VariableSet, nothing, variables}
use Rattle.mini_laws.specs.Naming.{summary, summary_of, summaries, facts_all, nth_absent}
use Rattle.mini_laws.specs.Substitution.{alone}
use Rattle.mini_laws.specs.Fixity.{fixed_by, written_in}
use Rattle.mini_laws.specs.Bodies.{Around, outermost, below, Body, bodies, bodies_from, bodies_in, body_of, arrow_kind}
use Rattle.mini_laws.specs.Weights.{Lightens}
use Rattle.mini_laws.specs.Rows.{SameAt}
use Rattle.mini_laws.specs.Congruence.{ReadAlike}
use Rattle.mini_laws.proofs.Dead.{alike_self}
use Rattle.mini_laws.proofs.Rows.{equal_same}
use Rattle.mini_kept.specs.AlikeBodies.{BodiesKept}
use Rattle.mini_kept.specs.Declaring.{declared}
use Rattle.mini_kept.specs.Frames.{part, outline, globals, frame_of, Frame, frames, frames_in, FramesKept}
use Rattle.mini_kept.specs.KeepsFrames.{is_body_slot, is_keyed_slot, IsShownAlike, NoPort, NoDeclaration, KeepsFunction, KeepsHolder, KeepsPlaces, KeepsFramesBut}
use Rattle.mini_kept.specs.KeepsLoosely.{KeepsLoosely}
use Rattle.mini_kept.specs.KeepsNames.{is_rewritten_place}
use Rattle.mini_kept.specs.KeepsShapes.{KeepsShapes, AskedAlike}
use Rattle.mini_kept.specs.Kept.{over}
use Rattle.mini_kept.specs.Lifted.{is_piece, KeepsRoot, KeepsNames, ProgramKeeps}
use Rattle.mini_kept.specs.Loosely.{symbol, undeclared, ProgramIsKeptUnder}
use Rattle.mini_kept.specs.Placed.{fits_place, is_statement_list}
use Rattle.mini_kept.specs.Rooted.{is_body, LawfulRooted}
use Rattle.mini_kept.specs.ShownFrames.{KeyGivenUnder, KeyGiven, Shows, gone_from, FramesShown}
use Rattle.mini_kept.specs.Without.{BodySets, none_steady, BodiesUnder, KeepsBodiesUnder}
use Rattle.mini_kept.proofs.BodySteps.{step_under, whole_stands}
use Rattle.mini_kept.proofs.Declared.{reaches_declared}
use Rattle.mini_kept.proofs.Fixed.{step_fixed}
use Rattle.mini_kept.proofs.FrameLists as frame_list
use Rattle.mini_kept.proofs.FrameSteps.{step_frames_but}
use Rattle.mini_kept.proofs.Gone.{step_less, avoids}
use Rattle.mini_kept.proofs.Rooted.{step_on, step_of, bodies_rooted, rooted_narrowed}
use Rattle.mini_kept.proofs.ShownFrames.{kept_shown, shows_itself, all_frames_more, gone_more, given_seldom}
use Rattle.mini_kept.proofs.Whole.{any_reaches_keep}
use Rattle.mini_kept.proofs.WithoutLists as without
use Rattle.mini_rows.specs.PastStatics.{PastStaticRow, PastStatic, PastStaticIsLawful, PastStaticLightens}
use Rattle.mini_rows.specs.Steady.{has_body}
use Rattle.mini_rows.specs.Unused.{resolved, static_block}
use Rattle.mini_rows.specs.Switches.{Liberties}
use Rattle.mini_rows.proofs.ArrangedBodies.{quiet}
use Rattle.mini_rows.proofs.ListWeights.{list_is}
use Rattle.mini_rows.proofs.OwnPartLawful.{bodiless, inert_bodiless, inert_piece}
use Rattle.mini_rows.proofs.PartPlaces.{is_part, Bare, bare_here, bare_inside, BareIn, bare_first, bare_later, Innermost, innermost, step_innermost}
use Rattle.mini_rows.proofs.PartRuns.{inert_same}
use Rattle.mini_rows.proofs.PastLawful.{list_fits, none_mention, list_lighter}
use Rattle.mini_rows.proofs.PastModuleLawful.{undeclared_there, still_declared}
use Rattle.mini_rows.proofs.PastHolders.{StaticBehind, StaticsBehind, statics_behind}
use Rattle.mini_rows.proofs.PastStretches.{Behind, static_runs}
use Rattle.mini_rows.proofs.StaticBlockKept.{static_less, static_kept, static_keeps, static_fixed, static_declares}
use Rattle.mini_rows.proofs.StaticBlockLawful.{member_fits, numbered}
use Rattle.mini_rows.proofs.UnusedKept.{list_frames, list_bodies}

-- ---- a block that loses the name with a symbol

record One (S : BodySets) (W : VariableSet) (k : ℕ) (n w : Tree) : Type 0 where
  keeps : KeepsLoosely Elsewhere n w
  kept : Kept n w
  less : (v : Use) → times (symbol k) (declared_in v w) + 1 ≤ times (symbol k) (declared_in v n)
  fixed : (x : Variable) → alone (Declared k) x ≡ false → fixed_by n x ≡ fixed_by w x
  declares : (y : Name) → Contains (declared w) y → Contains (declared n) y
  framed : FramesKept (frames None n) (frames None w)
  bodied : (a : Around) → BodiesUnder W S (alone (Declared k)) (bodies a n) (bodies a w)

module _ (S : BodySets) (W : VariableSet) (number : ℕ) (a b : Trees) (t : Behind (S number) W (listed none) a b) where
  abbrev x : Name
  x = resolved t.spelling t.symbol

  abbrev D : VariableSet
  D = alone (Declared t.symbol)

  abbrev first_list : Trees
  first_list = append t.before (append t.d t.after)

  abbrev second_list : Trees
  second_list = append t.before (append t.w t.after)

  abbrev this : Tree
  this = static_block number first_list

  abbrev that : Tree
  that = static_block number second_list

  abbrev own_body : Around → Trees → List Body
  own_body e ts = body_of e shape.StaticBlock number (static_block number ts) (listed ts ▸ none)

  abbrev around : Around → Around
  around e = below e shape.StaticBlock (listed first_list ▸ none) 0

  abbrev others : Around → Trees → List Body
  others e ts = bodies (quiet (around e)) (listed ts) ++ []

  others_kept : (e : Around) → BodiesKept (others e first_list) (others e second_list)
  others_kept e =
      subst (λ bs. BodiesKept bs (others e second_list)) (sym (append-nil (bodies (quiet (around e)) (listed first_list))))
      (subst (BodiesKept (bodies (quiet (around e)) (listed first_list))) (sym (append-nil (bodies (quiet (around e)) (listed second_list)))) (list_bodies x t.before t.after t.d t.w t.leaves (around e)))

  these_bodies : (e : Around) → BodiesUnder W S D (bodies e this) (bodies e that)
  these_bodies e =
      without.each_under W S D (own_body e first_list) (others e first_list) (own_body e second_list) (others e second_list)
      (inl (record { number = refl; kind = inl refl; strict = refl; asks_this = refl; same = λ f u s y g. static_runs (S number) W (listed none) a b t number f u s y g }), tt)
      (without.more_under nothing W none_steady S D D (without.nothing_part W) (without.none_part S) (without.part_itself D) (others e first_list) (others e second_list) (without.from_kept D (others e first_list) (others e second_list) (others_kept e)))

  abbrev own_frame : List Frame
  own_frame = frame_of None shape.StaticBlock number (outline shape.StaticBlock [] number (listed first_list ▸ none)) (globals shape.StaticBlock (listed first_list ▸ none))

  abbrev frames_after : Trees → List Frame
  frames_after ts = frames None (listed ts) ++ []

  frames_kept : FramesKept (frames_after first_list) (frames_after second_list)
  frames_kept =
      subst (λ fs. FramesKept fs (frames_after second_list)) (sym (append-nil (frames None (listed first_list))))
      (subst (FramesKept (frames None (listed first_list))) (sym (append-nil (frames None (listed second_list)))) (list_frames x t.before t.after t.d t.w t.leaves))

  lost : One S W t.symbol this that
  lost = record {
    keeps = static_keeps x t.before t.after t.d t.w t.leaves t.declares t.earlier t.later number (none_mention (S number) W (listed none) a b t);
    kept = static_kept x t.before t.after t.d t.w t.leaves t.declares t.earlier t.later number;
    less = static_less x t.before t.after t.d t.w t.leaves t.declares t.earlier t.later number t.symbol refl;
    fixed = static_fixed x t.before t.after t.d t.w t.leaves t.declares t.earlier t.later number;
    declares = static_declares x t.before t.after t.d t.w t.leaves t.declares t.earlier t.later number;
    framed = frame_list.each_of own_frame (frames_after first_list) own_frame (frames_after second_list) (λ f c. c) frames_kept;
    bodied = these_bodies;
  }

-- ---- of a row

module _ (S : BodySets) (W : VariableSet) where
  dropped : (n w : Tree) → StaticBehind S W n w → (k : ℕ) × One S W k n w
  dropped n w r =
      let t = r.there in
      let first = r.shape ∙ ap (static_block r.number) t.read_is in
      let second = r.written ∙ ap (static_block r.number) t.written_is in
      (t.symbol, subst (λ v. One S W t.symbol v w) (sym first) (subst (One S W t.symbol (static_block r.number (append t.before (append t.d t.after)))) (sym second) (lost S W r.number r.before r.after t)))

  row_fits : (n w : Tree) → StaticBehind S W n w → (strict : Bool) (s : Slot) → fits strict s n ≡ true → (fits strict s w ≡ true) × (is_keyed_slot s ≡ true)
  row_fits n w r strict s e =
      let t = r.there in
      let (f, g) = member_fits r.number r.before r.after (list_fits (S r.number) W (listed none) r.before r.after t in_body) strict s (sym (ap (fits strict s) r.shape) ∙ e) in
      (ap (fits strict s) r.written ∙ f, g)

  shown_alike : (n w : Tree) (r : StaticBehind S W n w) (strict : Bool) (s : Slot) → fits strict s n ≡ true → IsShownAlike s n w
  shown_alike n w r strict s e =
      let same : part n ≡ part w = ap part r.shape ∙ numbered r.number r.before r.after strict s (sym (ap (fits strict s) r.shape) ∙ e) ∙ sym (ap part r.written) in
      ((row_fits n w r strict s e).1, λ a. subst (Shows (KeyGiven nothing (bodies a n)) (part n)) same (shows_itself (KeyGiven nothing (bodies a n)) (part n)))

  -- whatever is told by the shape
  shaped : (P : Tree → Tree → Type 0) → ((k : ℕ) (a b : Trees) → P (static_block k a) (static_block k b)) → (n w : Tree) → StaticBehind S W n w → P n w
  shaped P f n w r = subst (λ v. P v w) (sym r.shape) (subst (P (static_block r.number r.before)) (sym r.written) (f r.number r.before r.after))

  -- ---- of those that lose one symbol

  module _ (k : ℕ) where
    abbrev Drop : Position → Tree → Tree → Type 0
    Drop Elsewhere n w = StaticBehind S W n w × One S W k n w
    Drop p n w = ⊥

    at_class : (P : Position → Tree → Tree → Type 0) → ((n w : Tree) → StaticBehind S W n w → One S W k n w → P Elsewhere n w) → (p : Position) (n w : Tree) → Drop p n w → P p n w
    at_class P f Elsewhere n w r = f n w r.0 r.1
    at_class P f p n w r = absurd r

    drop_names : KeepsNames Drop
    drop_names = record {
      places = at_class (λ p n w. (is_rewritten_place p ≡ true) ⊎ KeepsRoot p n w) (λ n w r o. inr (shaped (KeepsRoot Elsewhere) (λ k a b. record { place = refl; shape = refl; names = refl; number = refl; counted = refl; second = refl }) n w r));
      pieces = at_class (λ p n w. is_piece (shape_of n) ≡ false) (λ n w r o. shaped (λ n w. is_piece (shape_of n) ≡ false) (λ k a b. refl) n w r);
      keeps = at_class (λ p n w. (strict : Bool) (s : Slot) → fits_place p s ≡ true → fits strict s n ≡ true → KeepsLoosely p n w) (λ n w r o strict s z e. o.keeps);
    }

    drop_shapes : KeepsShapes Drop
    drop_shapes = record {
      fitting = at_class (λ p n w. (strict : Bool) (s : Slot) → fits_place p s ≡ true → fits strict s n ≡ true → fits strict s w ≡ true) (λ n w r o strict s z e. (row_fits n w r strict s e).0);
      asked = at_class AskedAlike (λ n w r o. shaped (AskedAlike Elsewhere) (λ k a b. record { absent = λ g. absurd (true≢false (sym g)); body = λ g. absurd (true≢false (sym g)); optional = λ g. absurd (true≢false (sym g)); number = λ g h. refl; spelled = λ s g. absurd (cc g); plain = refl }) n w r);
    }

    drop_places : KeepsPlaces Drop
    drop_places = record {
      names = drop_names;
      slots = at_class (λ p n w. (strict : Bool) (s : Slot) → fits_place p s ≡ true → fits strict s n ≡ true → ((is_body_slot p s ≡ true) ⊎ IsShownAlike s n w) ⊎ KeepsHolder n w) (λ n w r o strict s z e. inl (inr (shown_alike n w r strict s e)));
      ports = at_class (λ p n w. (strict : Bool) (d : Depth) → fits strict (one (a_statement d)) n ≡ true → (m : Bool) → NoPort m n w ⊎ KeepsFunction n w) (λ n w r o strict d e m. inl (shaped (NoPort m) (λ k a b. (refl, refl)) n w r));
      listed = λ p n w e c. absurd (at_class (λ p n w. is_statement_list p ≡ true → ⊥) (λ n w r o e. cc e) p n w c e);
      exported = at_class (λ p n w. (strict : Bool) → fits strict (one a_default_export) n ≡ true → NoDeclaration n w ⊎ KeepsFunction n w) (λ n w r o strict e. inl (shaped NoDeclaration (λ k a b. (refl, refl)) n w r));
    }

    drop_reads : (p : Position) (n w : Tree) → Drop p n w → summary n ≡ summary w
    drop_reads = at_class (λ p n w. summary n ≡ summary w) (λ n w r o. shaped (λ n w. summary n ≡ summary w) (λ k a b. refl) n w r)

    drop_part : (p : Position) (n w : Tree) → Drop p n w → is_part (shape_of n) ≡ true
    drop_part = at_class (λ p n w. is_part (shape_of n) ≡ true) (λ n w r o. shaped (λ n w. is_part (shape_of n) ≡ true) (λ k a b. refl) n w r)

    -- ---- the node around means the same

    mutual
      bare_read : {p : Position} {t u : Tree} → Bare Drop p t u → summary t ≡ summary u
      bare_read (bare_here p n w r q) = drop_reads p n w r
      bare_read (bare_inside p h xs n ts us b s) = ap (λ is. summary_of h (variables xs) n is) (bare_reads s)

      bare_reads : {π : ℕ → Position} {ts us : Trees} → BareIn Drop π ts us → summaries ts ≡ summaries us
      bare_reads (bare_first π t u ts s) = ap (λ i. i ∷ summaries ts) (bare_read s)
      bare_reads (bare_later π t ts us s) = ap (λ is. summary t ∷ is) (bare_reads s)

    around_same : (a : Around) (h : Shape) {π : ℕ → Position} {ts us : Trees} → BareIn Drop π ts us → below a h ts ≡ below a h us
    around_same a (shape.Class c) {ts = ts} s = (λ j i. record (below a (shape.Class c) ts i) { extends = not (nth_absent (facts_all (bare_reads s j)) 1) })
    around_same a h s = refl

    abbrev E : VariableSet
    E = alone (Declared k)

    inside_kept : (h : Shape) (xs : List Name) (n : ℕ) (ts us : Trees) → has_body h ≡ false → {π : ℕ → Position} → BareIn Drop π ts us → (a : Around) → BodiesUnder W S E (bodies_from (below a h ts) 0 ts) (bodies_from (below a h ts) 0 us) → BodiesUnder W S E (bodies a (node h xs n ts)) (bodies a (node h xs n us))
    inside_kept h xs n ts us b s a k =
        subst (λ bs. BodiesUnder W S E bs (bodies a (node h xs n us))) (sym (λ i. bodiless a h n (node h xs n ts) ts b i ++ bodies_from (below a h ts) 0 ts))
        (subst (BodiesUnder W S E (bodies_from (below a h ts) 0 ts)) (ap (λ α. bodies_from α 0 us) (around_same a h s) ∙ sym (λ i. bodiless a h n (node h xs n us) us b i ++ bodies_from (below a h us) 0 us)) k)

    mutual
      bare_bodies : {p : Position} {t u : Tree} → Bare Drop p t u → (a : Around) → BodiesUnder W S E (bodies a t) (bodies a u)
      bare_bodies (bare_here p n w r q) a = at_class (λ p n w. BodiesUnder W S E (bodies a n) (bodies a w)) (λ n w r o. o.bodied a) p n w r
      bare_bodies (bare_inside p h xs n ts us b s) a = inside_kept h xs n ts us b s a (bare_all s (below a h ts) 0)

      bare_all : {π : ℕ → Position} {ts us : Trees} → BareIn Drop π ts us → (α : ℕ → Around) (i : ℕ) → BodiesUnder W S E (bodies_from α i ts) (bodies_from α i us)
      bare_all (bare_first π t u ts s) α i = without.each_under W S E (bodies (α i) t) (bodies_from α (suc i) ts) (bodies (α i) u) (bodies_from α (suc i) ts) (bare_bodies s (α i)) (without.itself_under W S E (bodies_from α (suc i) ts))
      bare_all (bare_later π t ts us s) α i = without.each_under W S E (bodies (α i) t) (bodies_from α (suc i) ts) (bodies (α i) t) (bodies_from α (suc i) us) (without.itself_under W S E (bodies (α i) t)) (bare_all s α (suc i))

    inner_same : {p : Position} {n w : Tree} → Innermost Drop p n w → SameAt p n w
    inner_same (innermost p h xs n _ _ i f (bare_first π t u ts s)) = equal_same p _ _ (record { by = λ e q z r x. inert_same e h xs n t u ts ts i f (bare_reads (bare_first π t u ts s)) q r x })
    inner_same (innermost p h xs n _ _ i f (bare_later π t ts us s)) = equal_same p _ _ (record { by = λ e q z r x. inert_same e h xs n t t ts us i f (bare_reads (bare_later π t ts us s)) q r x })

    inner_read : {p : Position} {n w : Tree} → Innermost Drop p n w → summary n ≡ summary w
    inner_read (innermost p h xs n ts us i f s) = ap (λ is. summary_of h (variables xs) n is) (bare_reads s)

    inner_pieces : {p : Position} {n w : Tree} → Innermost Drop p n w → is_piece (shape_of n) ≡ false
    inner_pieces (innermost p h xs n ts us i f s) = inert_piece h i

    inner_kind : {p : Position} {n w : Tree} → Innermost Drop p n w → arrow_kind (shape_of n) ≡ arrow_kind (shape_of w)
    inner_kind (innermost p h xs n ts us i f s) = refl

    inner_bodies : {p : Position} {n w : Tree} → Innermost Drop p n w → (a : Around) → BodiesUnder W S E (bodies a n) (bodies a w)
    inner_bodies (innermost p h xs n ts us i f s) a = inside_kept h xs n ts us (inert_bodiless h i) s a (bare_all s (below a h ts) 0)

    keeps_bodies : KeepsBodiesUnder W S E (Innermost Drop)
    keeps_bodies = record {
      means = λ e z. record { same = λ p n w r q f. (inner_same r).by e E nothing q f; reads = λ p n w r. subst (ReadAlike E e (summary n)) (inner_read r) (alike_self E e (summary n)) };
      reads = λ p n w r. inner_read r;
      pieces = λ p n w r. inner_pieces r;
      kind = λ p n w r strict c e. inner_kind r;
      bodies = λ p n w r strict c q e a z. inner_bodies r a;
    }

    -- ---- the program

    root_kept : {p : Position} {t u : Tree} → Step Drop p t u → u ≡ over t (children u)
    root_kept (here p n w r) = at_class (λ p n w. w ≡ over n (children w)) (λ n w r o. shaped (λ n w. w ≡ over n (children w)) (λ k a b. refl) n w r) p n w r
    root_kept (inside p h xs n ts us s) = refl

    module _ (K : Shape → Bool) (t u : Tree) (s : Step Drop Elsewhere t u) (e : IsWellShaped t) where
      reached : Reaches Drop Elsewhere t u
      reached = more Elsewhere t u u s (done Elsewhere u)

      names : ProgramKeeps t u
      names = any_reaches_keep Drop drop_names drop_shapes t u reached

      -- its symbol was declared once, and is declared no more
      gone : Distinct (declared_symbols t) → times (symbol k) (declared_symbols u) ≡ 0
      gone d =
          let less = step_less Drop (symbol k) (at_class (λ p n w. Kept n w) (λ n w r o. o.kept)) (at_class (λ p n w. (v : Use) → times (symbol k) (declared_in v w) + 1 ≤ times (symbol k) (declared_in v n)) (λ n w r o. o.less)) s Read in
          let once : times (symbol k) (declared_symbols t) ≤ 1 = d (symbol k) in
          omega (arith, less, once)

      keeps_frames : KeepsFramesBut (gone_from K E) Drop
      keeps_frames = record {
        places = drop_places;
        frames = at_class (λ p n w. (strict : Bool) (c : Slot) → fits_place p c ≡ true → fits strict c n ≡ true → (a : Around) → FramesShown (gone_from K E) (KeyGiven nothing (bodies a n)) (frames None n) (frames None w)) (λ n w r o strict c z e a. kept_shown (gone_from K E) (KeyGiven nothing (bodies a n)) (frames None n) (frames None w) o.framed);
      }

      program_kept : ProgramIsKeptUnder K W S t u
      program_kept = record {
        names = names;
        bodies = λ v d. without.more_under W W S S E (undeclared u) (without.part_itself W) (without.each_itself S) (undeclared_there k u (gone d)) (bodies_in t) (bodies_in u) (step_under (Innermost Drop) W S E keeps_bodies Elsewhere t u (step_innermost Drop drop_part t u s e) (avoids k Read [] u (names.scoped e v) refl (gone d)) false (one a_program) refl e outermost whole_stands);
        frames = λ v d.
            all_frames_more (gone_from K E) (gone_from K (undeclared u)) (KeyGiven nothing (bodies_in t)) (KeyGivenUnder W S (undeclared u) (bodies_in t)) (gone_more K E (undeclared u) (undeclared_there k u (gone d))) (given_seldom W S (undeclared u) (bodies_in t)) (frames_in t) (frames_in u)
            (step_frames_but (gone_from K E) Drop keeps_frames t u s e);
        fixities = λ v d strict y h. ap (written_in strict y) (step_fixed E Drop (record { reads = drop_reads; fixed = at_class (λ p n w. (y : Variable) → E y ≡ false → fixed_by n y ≡ fixed_by w y) (λ n w r o. o.fixed) }) s y (still_declared k u (gone d) y h));
        declared = reaches_declared Drop (at_class (λ p n w. (y : Name) → Contains (declared w) y → Contains (declared n) y) (λ n w r o. o.declares)) reached;
        root = root_kept s;
      }

  -- ---- all

  is_one : (p : Position) (n w : Tree) → StaticsBehind S W p n w → is_body (shape_of n) ≡ true
  is_one Elsewhere n w r = shaped (λ n w. is_body (shape_of n) ≡ true) (λ k a b. refl) n w r
  is_one p n w r = absurd r

  some_dropped : (p : Position) (n w : Tree) → StaticsBehind S W p n w → (k : ℕ) × Drop k p n w
  some_dropped Elsewhere n w r = let (k, o) = dropped n w r in (k, (r, o))
  some_dropped p n w r = absurd r

  -- it keeps places and shapes, whichever symbol is lost
  pub static_places : KeepsPlaces (StaticsBehind S W)
  static_places = record {
    names = record {
      places = λ p n w r. let (k, o) = some_dropped p n w r in (drop_names k).places p n w o;
      pieces = λ p n w r. let (k, o) = some_dropped p n w r in (drop_names k).pieces p n w o;
      keeps = λ p n w r. let (k, o) = some_dropped p n w r in (drop_names k).keeps p n w o;
    };
    slots = λ p n w r. let (k, o) = some_dropped p n w r in (drop_places k).slots p n w o;
    ports = λ p n w r. let (k, o) = some_dropped p n w r in (drop_places k).ports p n w o;
    listed = λ p n w e r. let (k, o) = some_dropped p n w r in (drop_places k).listed p n w e o;
    exported = λ p n w r. let (k, o) = some_dropped p n w r in (drop_places k).exported p n w o;
  }

  pub static_shapes : KeepsShapes (StaticsBehind S W)
  static_shapes = record {
    fitting = λ p n w r. let (k, o) = some_dropped p n w r in (drop_shapes k).fitting p n w o;
    asked = λ p n w r. let (k, o) = some_dropped p n w r in (drop_shapes k).asked p n w o;
  }

  pub statics_lawful : (K : Shape → Bool) → LawfulRooted K W S (StaticsBehind S W)
  statics_lawful K = bodies_rooted (StaticsBehind S W) is_one K W S (λ t u s e. let (k, o) = step_of ℕ Drop (step_on some_dropped s) in program_kept k K t u o e)

-- ---- lighter

module _ (S : BodySets) (W : Liberties) where
  row_lighter : (n w : Tree) → PastStaticRow S W n w → weight Elsewhere w < weight Elsewhere n
  row_lighter n w r =
      let less = list_lighter S W (S r.number) (listed none) r.before r.after r.row in
      omega (arith, less, list_is r.before, list_is r.after, ap (weight Elsewhere) r.shape, ap (weight Elsewhere) r.written)

  at_block : (P : Position → Tree → Tree → Type 0) → ((n w : Tree) → PastStaticRow S W n w → P Elsewhere n w) → (p : Position) (n w : Tree) → PastStatic S W p n w → P p n w
  at_block P f Elsewhere n w r = f n w r
  at_block P f p n w r = absurd r

  row_outline : (p : Position) (n w : Tree) → PastStatic S W p n w → weight_outline n ≡ weight_outline w
  row_outline = at_block (λ p n w. weight_outline n ≡ weight_outline w) (λ n w r. ap weight_outline r.shape ∙ sym (ap weight_outline r.written))

  pub statics_lighten : Lightens (PastStatic S W)
  statics_lighten = record {
    lighter = at_block (λ p n w. weight p w < weight p n) row_lighter;
    absent = λ p n w c e. ap (λ o. o.absent) (row_outline p n w c);
    items = λ p n w c e. ap (λ o. o.items) (row_outline p n w c);
    is_zero = λ p n w c e. inl (ap (λ o. o.is_zero) (row_outline p n w c));
    chooses = λ p n w c e. inl (λ h. sym (ap (λ o. o.chooses) (row_outline p n w c)) ∙ h);
  }

pub past_statics_are_lawful : PastStaticIsLawful
past_statics_are_lawful K W S = rooted_narrowed (PastStatic S W) (StaticsBehind S W.writable) K W.writable S (statics_behind S W) (statics_lawful S W.writable K)

pub past_statics_are_lighter : PastStaticLightens
past_statics_are_lighter S W = statics_lighten S W
