-- What a row writes in the own code of a static block or an inner expression keeps the program, where that is so which is known of its body:
-- the node around evaluates none of its children, so that all but that body run as before.
use Rattle.std.specs.Prelude.{ℕ, suc, ◌≡◌, ◌<◌, ◌||◌, refl, Bool, true, false, List, [], ◌∷◌, ◌++◌, None, not, ◌≤◌}
use Rattle.std.proofs.Common.{ap, ◌∙◌, sym, subst, inl, inr, true≢false, arith}
use Rattle.mini_model.specs.declared.name.Name.{Name}
use Rattle.mini_model.specs.declared.place.Position.{Position}
use Rattle.mini_model.specs.declared.place.Position.TheVariants.{StatementList, Elsewhere}
use Rattle.mini_model.specs.declared.shape.Shape.{Shape}
use Rattle.mini_model.specs.declared.shape.Shape.TheVariants as shape
use Rattle.mini_model.specs.Tree.{Tree, Trees, node, none, ◌▸◌, children, count, shape_of}
use Rattle.mini_model.specs.Position.{child_position}
use Rattle.mini_model.specs.Rewriting.{Step, here, inside, StepIn, first, later, Reaches, done, more}
use Rattle.mini_model.specs.Weight.{outline, weight}
use Rattle.mini_accept.specs.WellShaped.{a_program, one, IsWellShaped}
use Rattle.mini_laws.specs.Value.{VariableSet, choose, nothing, variables}
use Rattle.mini_laws.specs.Fixity.{written_in}
use Rattle.mini_laws.specs.Naming.{summary, summary_of, summaries, facts_all, nth_absent}
use Rattle.mini_laws.specs.Rows.{SameAt}
use Rattle.mini_laws.specs.Skeleton.{Off, hidden}
use Rattle.mini_laws.specs.Body.{FunctionStatements, InnerValue, InnerTarget}
use Rattle.mini_laws.specs.Bodies.{Around, outermost, below, Body, bodies, bodies_from, bodies_in, body_of, arrow_kind}
use Rattle.mini_laws.specs.Weights.{Lightens}
use Rattle.mini_laws.proofs.Congruent.{avoids_nothing}
use Rattle.mini_laws.proofs.Dead.{alike_self}
use Rattle.mini_laws.specs.Congruence.{ReadAlike}
use Rattle.mini_laws.proofs.Lighter.{any_step_lighter}
use Rattle.mini_laws.proofs.Rows.{equal_same}
use Rattle.mini_kept.specs.Frames.{frames_in}
use Rattle.mini_kept.specs.KeepsFrames.{KeepsPlaces, KeepsFramesBut}
use Rattle.mini_kept.specs.Kept.{over}
use Rattle.mini_kept.specs.Lifted.{is_piece}
use Rattle.mini_kept.specs.Loosely.{undeclared, ProgramIsKeptUnder}
use Rattle.mini_kept.specs.Rooted.{is_body, LawfulRooted}
use Rattle.mini_kept.specs.ShownFrames.{KeyGivenUnder, KeyGiven, none_gone, gone_from, FramesShown}
use Rattle.mini_kept.specs.Standing.{is_asked_whole, is_unseated}
use Rattle.mini_kept.specs.Without.{Assured, BodySets, BodiesUnder, KeepsBodiesUnder}
use Rattle.mini_kept.proofs.BodyPlaces.{assigned_below, Unseats, unseats_first, unseats_later, unseats_all}
use Rattle.mini_kept.proofs.BodySteps.{value_fits, target_fits, step_under, whole_stands}
use Rattle.mini_kept.proofs.Declared.{reaches_declared}
use Rattle.mini_kept.proofs.Fixed.{step_fixed}
use Rattle.mini_kept.proofs.FrameSteps.{kept_are_shown, step_frames_but}
use Rattle.mini_kept.proofs.Rooted.{step_on, step_of, bodies_rooted}
use Rattle.mini_kept.proofs.ShownFrames.{all_frames_more, none_less, given_seldom}
use Rattle.mini_kept.proofs.Whole.{any_reaches_keep}
use Rattle.mini_kept.proofs.WithoutLists.{nothing_part, part_itself, each_itself, more_under, each_under, itself_under}
use Rattle.mini_rows.specs.OwnParts.{block_over, inner_over, OwnPart, OwnPartsAreLawful, OwnPartsLighten, SteadyPartsAreLawful, SteadyPartsLighten, LexicalPartsAreLawful, LexicalPartsLighten}
use Rattle.mini_rows.specs.Steady.{bindings, nothing_begun, own_rows, KeepsOwn, OwnRows, OwnStep, own_first, has_body, SteadyRow, LexicalRows}
use Rattle.mini_rows.proofs.LexicalKept.{lexical_own}
use Rattle.mini_rows.proofs.OwnProgramLawful.{any_places, steady_places, lexical_places}
use Rattle.mini_rows.proofs.PartPlaces.{is_part, is_inert, Bare, bare_here, bare_inside, BareIn, bare_first, bare_later, Innermost, innermost, step_innermost}
use Rattle.mini_rows.proofs.PartRuns.{inert_same}
use Rattle.mini_rows.proofs.SteadyKept.{steady_own}
use Rattle.mini_rows.proofs.SteadyLawful.{AnyRow, KeepsForm, any_form, at_start, over_off, known_begins, forget, own_read, own_bodies, own_runs_over, kept_under}

-- ---- a part, which is itself its body

module _ (F : OwnRows) (S : BodySets) where
  -- what holds of each such block, and of each such inner expression, holds of what a row reads and writes
  by_row : (P : Position → Tree → Tree → Type 0) → ((p : Position) (k : ℕ) (t u : Tree) → OwnStep (own_rows F t (S k)) nothing_begun StatementList t u → P p (block_over k t) (block_over k u)) → ((p : Position) (k : ℕ) (t u : Tree) → OwnStep (own_rows F t (S k)) nothing_begun p t u → P p (inner_over k t) (inner_over k u)) → (p : Position) (n w : Tree) → OwnPart F S p n w → P p n w
  by_row P b i p n w (inl r) = subst (λ v. P p v w) (sym r.shape) (subst (P p (block_over r.number r.before)) (sym r.written) (b p r.number r.before r.after r.step))
  by_row P b i p n w (inr r) = subst (λ v. P p v w) (sym r.shape) (subst (P p (inner_over r.number r.before)) (sym r.written) (i p r.number r.before r.after r.step))

-- a part with a number, of whose code c this is known, which takes a step by a row, and in which no scope hides the variables that have values as it
-- starts
data Part (F : OwnRows) (c : Tree) (V : Assured) (k : ℕ) : Position → Tree → Tree → Type 0 where
  a_block : (p : Position) (t u : Tree) → OwnStep (own_rows F c V) nothing_begun StatementList t u → ((j : ℕ) → bindings j t ≤ bindings j c) → Off (hidden (block_over k t)) (at_start c V).initial → Part F c V k p (block_over k t) (block_over k u)
  an_inner : (p : Position) (t u : Tree) → OwnStep (own_rows F c V) nothing_begun p t u → ((j : ℕ) → bindings j t ≤ bindings j c) → Off (hidden (inner_over k t)) (at_start c V).initial → Part F c V k p (inner_over k t) (inner_over k u)

-- the number of a body, and its code
record Place (S : BodySets) : Type 0 where
  number : ℕ
  code : Tree

abbrev Placed : (F : OwnRows) (S : BodySets) → Place S → Position → Tree → Tree → Type 0
Placed F S i = Part F i.code (S i.number) i.number

abbrev Numbered : OwnRows → BodySets → Position → Tree → Tree → Type 0
Numbered F S p n w = (i : Place S) × Placed F S i p n w

numbered : (F : OwnRows) (S : BodySets) (p : Position) (n w : Tree) → OwnPart F S p n w → Numbered F S p n w
numbered F S =
    by_row F S (Numbered F S)
    (λ p k t u s. (record { number = k; code = t }, a_block p t u s (λ j. omega arith) (over_off (block_over k t) t (S k) (λ i h. ap (λ b. b || false) h))))
    (λ p k t u s. (record { number = k; code = t }, an_inner p t u s (λ j. omega arith) (over_off (inner_over k t) t (S k) (λ i h. ap (λ b. b || false) h))))

-- what has no body
pub bodiless : (a : Around) (h : Shape) (n : ℕ) (t : Tree) (ts : Trees) → has_body h ≡ false → body_of a h n t ts ≡ []
bodiless a (shape.Program m ds) n t ts e = absurd (true≢false e)
bodiless a (shape.Function d g ds) n t ts e = absurd (true≢false e)
bodiless a (shape.ArrowFunctionExpression ds) n t ts e = absurd (true≢false e)
bodiless a shape.StaticBlock n t ts e = absurd (true≢false e)
bodiless a shape.InnerExpression n t ts e = absurd (true≢false e)
bodiless a h n t ts e = refl

pub inert_bodiless : (h : Shape) → is_inert h ≡ true → has_body h ≡ false
inert_bodiless (shape.Program m ds) e = absurd (true≢false (sym e))
inert_bodiless (shape.Function d g ds) e = absurd (true≢false (sym e))
inert_bodiless (shape.ArrowFunctionExpression ds) e = absurd (true≢false (sym e))
inert_bodiless shape.StaticBlock e = absurd (true≢false (sym e))
inert_bodiless shape.InnerExpression e = absurd (true≢false (sym e))
inert_bodiless h e = refl

pub inert_piece : (h : Shape) → is_inert h ≡ true → is_piece h ≡ false
inert_piece (shape.TemplateElement tail raw c) e = absurd (true≢false (sym e))
inert_piece h e = refl

module _ (F : OwnRows) (keeps : (V : Assured) → KeepsOwn V (F V)) (S : BodySets) (k : ℕ) (c : Tree) where
  abbrev V : Assured
  V = S k

  abbrev R : Position → Tree → Tree → Type 0
  R = AnyRow F

  own : KeepsForm R
  own = any_form F keeps

  abbrev O : Position → Tree → Tree → Type 0
  O = Part F c V k

  parts : {p : Position} {n w : Tree} → O p n w → is_part (shape_of n) ≡ true
  parts (a_block p t u s l o) = refl
  parts (an_inner p t u s l o) = refl

  -- a step at a part is one of a row
  flat_here : {p : Position} {t u : Tree} → O p t u → Step R p t u
  flat_here (a_block p t u s l o) = inside p shape.StaticBlock [] k (t ▸ none) (u ▸ none) (first _ t u none (forget F keeps c V s))
  flat_here (an_inner p t u s l o) = inside p shape.InnerExpression [] k (t ▸ none) (u ▸ none) (first _ t u none (forget F keeps c V s))

  mutual
    flat : {p : Position} {t u : Tree} → Step O p t u → Step R p t u
    flat (here p n w r) = flat_here r
    flat (inside p h xs n ts us s) = inside p h xs n ts us (flat_in s)

    flat_in : {π : ℕ → Position} {ts us : Trees} → StepIn O π ts us → StepIn R π ts us
    flat_in (first π t u ts s) = first π t u ts (flat s)
    flat_in (later π t ts us s) = later π t ts us (flat_in s)

  -- what a parent reads
  part_read : {p : Position} {n w : Tree} → O p n w → summary n ≡ summary w
  part_read (a_block p t u s l o) = ap (λ i. summary_of shape.StaticBlock [] k (i ∷ [])) (own_read F keeps c V s)
  part_read (an_inner p t u s l o) = ap (λ i. summary_of shape.InnerExpression [] k (i ∷ [])) (own_read F keeps c V s)

  mutual
    bare_read : {p : Position} {t u : Tree} → Bare O p t u → summary t ≡ summary u
    bare_read (bare_here p n w r q) = part_read r
    bare_read (bare_inside p h xs n ts us b s) = ap (λ is. summary_of h (variables xs) n is) (bare_reads s)

    bare_reads : {π : ℕ → Position} {ts us : Trees} → BareIn O π ts us → summaries ts ≡ summaries us
    bare_reads (bare_first π t u ts s) = ap (λ i. i ∷ summaries ts) (bare_read s)
    bare_reads (bare_later π t ts us s) = ap (λ is. summary t ∷ is) (bare_reads s)

  around_same : (a : Around) (h : Shape) {π : ℕ → Position} {ts us : Trees} → BareIn O π ts us → below a h ts ≡ below a h us
  around_same a (shape.Class c) {ts = ts} s = (λ j i. record (below a (shape.Class c) ts i) { extends = not (nth_absent (facts_all (bare_reads s j)) 1) })
  around_same a h s = refl

  -- ---- the bodies in it

  module _ (W : VariableSet) where
    part_bodies : {p : Position} {n w : Tree} → O p n w → (shape_of n ≡ shape.InnerExpression → is_asked_whole p ≡ true) → (a : Around) → (a.is_assigned ≡ true → is_unseated p ≡ true) → BodiesUnder W S nothing (bodies a n) (bodies a w)
    part_bodies (a_block p t u s l o) q a z =
        let inner = below a shape.StaticBlock (t ▸ none) 0 in
        each_under W S nothing (body_of a shape.StaticBlock k (block_over k t) (t ▸ none)) (bodies inner t ++ []) (body_of a shape.StaticBlock k (block_over k u) (u ▸ none)) (bodies inner u ++ [])
        (inl (record { number = refl; kind = inl refl; strict = refl; asks_this = refl; same = λ e y x X g. own_runs_over F keeps c V e x shape.StaticBlock k Elsewhere (own_first _ _ t u none s) (λ j. omega (arith, l j)) o FunctionStatements tt X (known_begins c V X g) }), tt)
        (each_under W S nothing (bodies inner t) [] (bodies inner u) [] (kept_under S W (bodies inner t) (bodies inner u) (own_bodies F keeps c V s inner (λ m. refl))) tt)
    part_bodies (an_inner p t u s l o) q a z =
        let inner = below a shape.InnerExpression (t ▸ none) 0 in
        each_under W S nothing (own_body t) (bodies inner t ++ []) (own_body u) (bodies inner u ++ [])
        (own_kept a.is_assigned refl)
        (each_under W S nothing (bodies inner t) [] (bodies inner u) [] (kept_under S W (bodies inner t) (bodies inner u) (own_bodies F keeps c V s inner (λ m. refl))) tt)
      where
        own_body : Tree → List Body
        own_body v = body_of a shape.InnerExpression k (inner_over k v) (v ▸ none)

        own_kept : (b : Bool) → a.is_assigned ≡ b → BodiesUnder W S nothing (record { number = k; kind = choose b InnerTarget InnerValue; root = inner_over k t; strict = a.strict; asks_this = a.asks_this } ∷ []) (record { number = k; kind = choose b InnerTarget InnerValue; root = inner_over k u; strict = a.strict; asks_this = a.asks_this } ∷ [])
        own_kept true v = (inl (record { number = refl; kind = inl refl; strict = refl; asks_this = refl; same = λ e y x X g. own_runs_over F keeps c V e x shape.InnerExpression k p (own_first _ _ t u none s) (λ j. omega (arith, l j)) o InnerTarget (target_fits p (q refl) (z v)) X (known_begins c V X g) }), tt)
        own_kept false v = (inl (record { number = refl; kind = inl refl; strict = refl; asks_this = refl; same = λ e y x X g. own_runs_over F keeps c V e x shape.InnerExpression k p (own_first _ _ t u none s) (λ j. omega (arith, l j)) o InnerValue (value_fits p (q refl)) X (known_begins c V X g) }), tt)

    inside_kept : (p : Position) (h : Shape) (xs : List Name) (n : ℕ) (ts us : Trees) → has_body h ≡ false → BareIn O (child_position h p (count ts)) ts us → (a : Around) → BodiesUnder W S nothing (bodies_from (below a h ts) 0 ts) (bodies_from (below a h ts) 0 us) → BodiesUnder W S nothing (bodies a (node h xs n ts)) (bodies a (node h xs n us))
    inside_kept p h xs n ts us b s a k =
        subst (λ bs. BodiesUnder W S nothing bs (bodies a (node h xs n us))) (sym (λ i. bodiless a h n (node h xs n ts) ts b i ++ bodies_from (below a h ts) 0 ts))
        (subst (BodiesUnder W S nothing (bodies_from (below a h ts) 0 ts)) (ap (λ α. bodies_from α 0 us) (around_same a h s) ∙ sym (λ i. bodiless a h n (node h xs n us) us b i ++ bodies_from (below a h us) 0 us)) k)

    unseated : (a : Around) (h : Shape) (p : Position) (ts : Trees) → (a.is_assigned ≡ true → is_unseated p ≡ true) → Unseats (child_position h p (count ts)) (below a h ts) 0
    unseated a h p ts z = unseats_all (child_position h p (count ts)) (below a h ts) (λ i. assigned_below a h p (count ts) i z)

    mutual
      bare_bodies : {p : Position} {t u : Tree} → Bare O p t u → (a : Around) → (a.is_assigned ≡ true → is_unseated p ≡ true) → BodiesUnder W S nothing (bodies a t) (bodies a u)
      bare_bodies (bare_here p n w r q) a z = part_bodies r q a z
      bare_bodies (bare_inside p h xs n ts us b s) a z = inside_kept p h xs n ts us b s a (bare_all s (below a h ts) 0 (unseated a h p ts z))

      bare_all : {π : ℕ → Position} {ts us : Trees} → BareIn O π ts us → (α : ℕ → Around) (i : ℕ) → Unseats π α i → BodiesUnder W S nothing (bodies_from α i ts) (bodies_from α i us)
      bare_all (bare_first π t u ts s) α i z = each_under W S nothing (bodies (α i) t) (bodies_from α (suc i) ts) (bodies (α i) u) (bodies_from α (suc i) ts) (bare_bodies s (α i) (unseats_first π α i z)) (itself_under W S nothing (bodies_from α (suc i) ts))
      bare_all (bare_later π t ts us s) α i z = each_under W S nothing (bodies (α i) t) (bodies_from α (suc i) ts) (bodies (α i) t) (bodies_from α (suc i) us) (itself_under W S nothing (bodies (α i) t)) (bare_all s α (suc i) (unseats_later π α i z))

    -- ---- the node around means the same

    inner_same : {p : Position} {n w : Tree} → Innermost O p n w → SameAt p n w
    inner_same (innermost p h xs n _ _ i f (bare_first π t u ts s)) = equal_same p _ _ (record { by = λ e q z r x. inert_same e h xs n t u ts ts i f (bare_reads (bare_first π t u ts s)) q r x })
    inner_same (innermost p h xs n _ _ i f (bare_later π t ts us s)) = equal_same p _ _ (record { by = λ e q z r x. inert_same e h xs n t t ts us i f (bare_reads (bare_later π t ts us s)) q r x })

    inner_read : {p : Position} {n w : Tree} → Innermost O p n w → summary n ≡ summary w
    inner_read (innermost p h xs n ts us i f s) = ap (λ is. summary_of h (variables xs) n is) (bare_reads s)

    inner_pieces : {p : Position} {n w : Tree} → Innermost O p n w → is_piece (shape_of n) ≡ false
    inner_pieces (innermost p h xs n ts us i f s) = inert_piece h i

    inner_kind : {p : Position} {n w : Tree} → Innermost O p n w → arrow_kind (shape_of n) ≡ arrow_kind (shape_of w)
    inner_kind (innermost p h xs n ts us i f s) = refl

    inner_bodies : {p : Position} {n w : Tree} → Innermost O p n w → (a : Around) → (a.is_assigned ≡ true → is_unseated p ≡ true) → BodiesUnder W S nothing (bodies a n) (bodies a w)
    inner_bodies (innermost p h xs n ts us i f s) a z = inside_kept p h xs n ts us (inert_bodiless h i) s a (bare_all s (below a h ts) 0 (unseated a h p ts z))

    keeps_bodies : KeepsBodiesUnder W S nothing (Innermost O)
    keeps_bodies = record {
      means = λ e z. record { same = λ p n w r q f. (inner_same r).by e nothing nothing q f; reads = λ p n w r. subst (ReadAlike nothing e (summary n)) (inner_read r) (alike_self nothing e (summary n)) };
      reads = λ p n w r. inner_read r;
      pieces = λ p n w r. inner_pieces r;
      kind = λ p n w r strict c e. inner_kind r;
      bodies = λ p n w r strict c q e a z. inner_bodies r a z.assigned;
    }

    whole_bodies : (t u : Tree) → Step O Elsewhere t u → IsWellShaped t → BodiesUnder W S nothing (bodies_in t) (bodies_in u)
    whole_bodies t u s e = step_under (Innermost O) W S nothing keeps_bodies Elsewhere t u (step_innermost O (λ p n w r. parts r) t u s e) (avoids_nothing u) false (one a_program) refl e outermost whole_stands

    -- ---- the program

    root_kept : {p : Position} {t u : Tree} → Step O p t u → u ≡ over t (children u)
    root_kept (here _ _ _ (a_block p t u s l o)) = refl
    root_kept (here _ _ _ (an_inner p t u s l o)) = refl
    root_kept (inside p h xs n ts us s) = refl

    module _ (places : KeepsPlaces R) (K : Shape → Bool) (t u : Tree) (s : Step O Elsewhere t u) (e : IsWellShaped t) where
      reached : Reaches R Elsewhere t u
      reached = more Elsewhere t u u (flat s) (done Elsewhere u)

      keeps_frames : KeepsFramesBut none_gone R
      keeps_frames = record { places = places; frames = λ p n w r strict c z e a. kept_are_shown n w (own.frames p n w r None (λ m. refl)) a }

      whole_frames : FramesShown (gone_from K (undeclared u)) (KeyGivenUnder W S (undeclared u) (bodies_in t)) (frames_in t) (frames_in u)
      whole_frames =
          all_frames_more none_gone (gone_from K (undeclared u)) (KeyGiven nothing (bodies_in t)) (KeyGivenUnder W S (undeclared u) (bodies_in t)) (none_less (gone_from K (undeclared u))) (given_seldom W S (undeclared u) (bodies_in t)) (frames_in t) (frames_in u)
          (step_frames_but none_gone R keeps_frames t u (flat s) e)

      program_kept : ProgramIsKeptUnder K W S t u
      program_kept = record {
        names = any_reaches_keep R own.names own.shapes t u reached;
        bodies = λ v d. more_under W W S S nothing (undeclared u) (part_itself W) (each_itself S) (nothing_part (undeclared u)) (bodies_in t) (bodies_in u) (whole_bodies t u s e);
        frames = λ v d. whole_frames;
        fixities = λ v d strict x h. ap (written_in strict x) (step_fixed nothing R (record { reads = own.reads; fixed = λ q n w r y c. own.fixed q n w r y }) (flat s) x refl);
        declared = reaches_declared R own.declared reached;
        root = root_kept s;
      }

-- ---- all

module _ (F : OwnRows) (keeps : (V : Assured) → KeepsOwn V (F V)) (S : BodySets) where
  is_one : (p : Position) (n w : Tree) → OwnPart F S p n w → is_body (shape_of n) ≡ true
  is_one = by_row F S (λ p n w. is_body (shape_of n) ≡ true) (λ p k t u s. refl) (λ p k t u s. refl)

  parts_lawful : ((V : Assured) → KeepsPlaces (F V)) → (K : Shape → Bool) (W : VariableSet) → LawfulRooted K W S (OwnPart F S)
  parts_lawful places K W = bodies_rooted (OwnPart F S) is_one K W S kept
    where
      kept : (t u : Tree) → Step (OwnPart F S) Elsewhere t u → IsWellShaped t → ProgramIsKeptUnder K W S t u
      kept t u s e = let (i, o) = step_of (Place S) (Placed F S) (step_on (numbered F S) s) in
          program_kept F keeps S i.number i.code W (any_places F places) K t u o e

  part_lighter : (p : Position) (n w : Tree) → OwnPart F S p n w → weight p w < weight p n
  part_lighter =
      by_row F S (λ p n w. weight p w < weight p n)
      (λ p k t u s. any_step_lighter (AnyRow F) (any_form F keeps).lightens p (block_over k t) (block_over k u) (inside p shape.StaticBlock [] k (t ▸ none) (u ▸ none) (first _ t u none (forget F keeps t (S k) s))))
      (λ p k t u s. any_step_lighter (AnyRow F) (any_form F keeps).lightens p (inner_over k t) (inner_over k u) (inside p shape.InnerExpression [] k (t ▸ none) (u ▸ none) (first _ t u none (forget F keeps t (S k) s))))

  part_outline : (p : Position) (n w : Tree) → OwnPart F S p n w → outline n ≡ outline w
  part_outline = by_row F S (λ p n w. outline n ≡ outline w) (λ p k t u s. refl) (λ p k t u s. refl)

  parts_lighten : Lightens (OwnPart F S)
  parts_lighten = record {
    lighter = part_lighter;
    absent = λ p n w r a. ap (λ o. o.absent) (part_outline p n w r);
    items = λ p n w r a. ap (λ o. o.items) (part_outline p n w r);
    is_zero = λ p n w r a. inl (ap (λ o. o.is_zero) (part_outline p n w r));
    chooses = λ p n w r a. inl (λ h. sym (ap (λ o. o.chooses) (part_outline p n w r)) ∙ h);
  }

pub own_parts_lawful : (F : OwnRows) → OwnPartsAreLawful F
own_parts_lawful F keeps places K W S = parts_lawful F keeps S places K W

pub own_parts_lighten : (F : OwnRows) → OwnPartsLighten F
own_parts_lighten F keeps S = parts_lighten F keeps S

-- ---- rows of members, and of lexical names

pub steady_parts_lawful : SteadyPartsAreLawful
steady_parts_lawful = own_parts_lawful SteadyRow steady_own steady_places

pub steady_parts_lighten : SteadyPartsLighten
steady_parts_lighten = own_parts_lighten SteadyRow steady_own

pub lexical_parts_lawful : LexicalPartsAreLawful
lexical_parts_lawful = own_parts_lawful LexicalRows lexical_own lexical_places

pub lexical_parts_lighten : LexicalPartsLighten
lexical_parts_lighten = own_parts_lighten LexicalRows lexical_own
