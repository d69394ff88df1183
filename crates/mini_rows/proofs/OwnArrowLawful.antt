-- What a row writes in the own code of an arrow function is lawful where that is so which is known of its body.
use Rattle.std.specs.Prelude.{ℕ, ◌≡◌, ◌<◌, ◌⊎◌, refl, Bool, true, false, List, [], ◌∷◌, ◌++◌, None, Contains}
use Rattle.std.proofs.Common.{ap, ◌∙◌, sym, subst, inl, inr, true≢false, arith}
use Rattle.mini_model.specs.declared.name.Name.{Name}
use Rattle.mini_model.specs.declared.place.Position.{Position}
use Rattle.mini_model.specs.declared.place.Position.TheVariants.{Expr}
use Rattle.mini_model.specs.declared.seat.Seat.{Seat}
use Rattle.mini_model.specs.declared.shape.Shape.{Shape}
use Rattle.mini_model.specs.declared.shape.Shape.TheVariants as shape
use Rattle.mini_model.specs.Tree.{Tree, none, ◌▸◌, shape_of}
use Rattle.mini_model.specs.Position.{argument_seat}
use Rattle.mini_model.specs.Rewriting.{Step, inside, first, later, done, more}
use Rattle.mini_model.specs.Weight.{outline, weight}
use Rattle.mini_accept.specs.WellShaped.{Depth, in_module, in_body, nested, Class, a_statement, an_init, an_arrow_body, an_expression, a_link, an_argument, a_key, a_private_or_key, an_inner_key, a_default_export, Slot, one, one_or_absent, filling_by, statement_slots, fits}
use Rattle.mini_laws.specs.Value.{Variable, VariableSet, nothing}
use Rattle.mini_laws.specs.State.{State, Environment}
use Rattle.mini_laws.specs.Demand.{Demand, As, Callee, OfType, Deleted, AnEntry, Request}
use Rattle.mini_laws.specs.Naming.{summary, summary_of}
use Rattle.mini_laws.specs.Step.{step, means}
use Rattle.mini_laws.specs.Rows.{SameAt}
use Rattle.mini_laws.specs.Fits.{Fits}
use Rattle.mini_laws.specs.Fixity.{fixed_by}
use Rattle.mini_laws.specs.Body.{BodyKind, body_demand}
use Rattle.mini_laws.specs.Bodies.{Around, below, Body, bodies, body_of, arrow_kind}
use Rattle.mini_laws.specs.Weights.{Lightens}
use Rattle.mini_laws.proofs.Lighter.{any_step_lighter}
use Rattle.mini_laws.proofs.Rows.{equal_same}
use Rattle.mini_kept.specs.AlikeBodies.{RunsAs}
use Rattle.mini_kept.specs.Declaring.{declared}
use Rattle.mini_kept.specs.Frames.{Frame, FramesKept, frame_of, frames, outline as frame_outline, globals}
use Rattle.mini_kept.specs.KeepsFrames.{is_body_slot, IsShownAlike, NoPort, NoDeclaration, KeepsFunction, KeepsHolder}
use Rattle.mini_kept.specs.KeepsLoosely.{KeepsLoosely}
use Rattle.mini_kept.specs.KeepsNames.{is_rewritten_place}
use Rattle.mini_kept.specs.KeepsShapes.{AskedAlike}
use Rattle.mini_kept.specs.Lifted.{is_piece, KeepsRoot}
use Rattle.mini_kept.specs.Loosely.{SteadiesWith, LawfulUnder}
use Rattle.mini_kept.specs.Placed.{is_statement_list, fits_place}
use Rattle.mini_kept.specs.Without.{Assured, BodySets, Steadies, Begins, BodiesUnder}
use Rattle.mini_kept.proofs.FixedSteps.{fixed_anyway}
use Rattle.mini_kept.proofs.Declared.{reaches_declared}
use Rattle.mini_kept.proofs.Expressions.{TakesExpressionIn, TakesExpression, refused_here}
use Rattle.mini_kept.proofs.Fixed.{step_fixed}
use Rattle.mini_kept.proofs.FrameRows.{expression_slot}
use Rattle.mini_kept.proofs.FrameSteps.{kept_are_shown}
use Rattle.mini_kept.proofs.Loosely.{steady_join}
use Rattle.mini_kept.proofs.Initializers.{init_stays}
use Rattle.mini_kept.proofs.Stepping.{step_keeps}
use Rattle.mini_kept.proofs.Steps.{any_step_fits}
use Rattle.mini_kept.proofs.WithoutLists.{each_under, itself_under}
use Rattle.mini_kept.proofs.FrameLists.{each_of as each_frame}
use Rattle.mini_rows.specs.Steady.{Begun, nothing_begun, known_in, own_rows, KeepsOwn, OwnRows, OwnStep, own_here, own_inside, OwnFunction, SteadyRow, LexicalRows}
use Rattle.mini_rows.specs.OwnArrows.{arrow_over, OwnArrow, OwnCodeIsLawful, OwnCodeLightens, SteadyCodeIsLawful, SteadyCodeLightens, LexicalCodeIsLawful, LexicalCodeLightens}
use Rattle.mini_rows.proofs.LexicalKept.{lexical_own}
use Rattle.mini_rows.proofs.SteadyKept.{steady_own}
use Rattle.mini_rows.proofs.SteadyLawful.{AnyRow, KeepsForm, any_form, known_off, known_begins, forget, own_read, own_bodies, own_frames, own_runs, kept_under, functions_lawful, functions_lighten}

-- ---- an arrow function is made alike, whatever its body is

created : (ds : List (List ℕ)) (k : ℕ) (ps t u : Tree) (e : Environment) (q : Demand) (r : Request q) (s : State) → means e (arrow_over ds k ps t) q r s ≡ means e (arrow_over ds k ps u) q r s
unfolding means step
created ds k ps t u e (As w) r s = refl
created ds k ps t u e Callee r s = refl
created ds k ps t u e OfType r s = refl
created ds k ps t u e Deleted r s = refl
created ds k ps t u e AnEntry r s = refl
created ds k ps t u e q r s = refl

pub created_same : (ds : List (List ℕ)) (k : ℕ) (ps t u : Tree) (p : Position) → SameAt p (arrow_over ds k ps t) (arrow_over ds k ps u)
created_same ds k ps t u p = equal_same p (arrow_over ds k ps t) (arrow_over ds k ps u) (record { by = λ e q z r s. created ds k ps t u e q r s })

-- ---- where it stands

arrow_nowhere : (strict : Bool) (d : Depth) (ds : List (List ℕ)) → statement_slots strict d (shape.ArrowFunctionExpression ds) ≡ None
arrow_nowhere true in_module ds = refl
arrow_nowhere true in_body ds = refl
arrow_nowhere true nested ds = refl
arrow_nowhere false in_module ds = refl
arrow_nowhere false in_body ds = refl
arrow_nowhere false nested ds = refl

module _ (ds : List (List ℕ)) (k : ℕ) (ps t : Tree) where
  arrow_in : (strict : Bool) (c : Class) → fits strict (one c) (arrow_over ds k ps t) ≡ true → TakesExpressionIn c
  arrow_in strict an_expression e = tt
  arrow_in strict a_link e = tt
  arrow_in strict an_argument e = tt
  arrow_in strict an_init e = tt
  arrow_in strict an_arrow_body e = tt
  arrow_in strict a_default_export e = tt
  arrow_in strict (a_key true) e = tt
  arrow_in strict (a_key false) e = absurd (refused_here strict (one (a_key false)) (shape.ArrowFunctionExpression ds) [] k (ps ▸ (t ▸ none)) refl e)
  arrow_in strict (a_statement d) e = absurd (refused_here strict (one (a_statement d)) (shape.ArrowFunctionExpression ds) [] k (ps ▸ (t ▸ none)) (ap filling_by (arrow_nowhere strict d ds)) e)
  arrow_in strict (a_private_or_key true) e = absurd (refused_here strict (one (a_private_or_key true)) (shape.ArrowFunctionExpression ds) [] k (ps ▸ (t ▸ none)) refl e)
  arrow_in strict (an_inner_key true) e = absurd (refused_here strict (one (an_inner_key true)) (shape.ArrowFunctionExpression ds) [] k (ps ▸ (t ▸ none)) refl e)
  arrow_in strict c e = absurd (refused_here strict (one c) (shape.ArrowFunctionExpression ds) [] k (ps ▸ (t ▸ none)) refl e)

  in_slot : (strict : Bool) (s : Slot) → fits strict s (arrow_over ds k ps t) ≡ true → TakesExpression s
  in_slot strict (one c) e = arrow_in strict c e
  in_slot strict (one_or_absent c) e = arrow_in strict c e
  in_slot strict s e = absurd (refused_here strict s (shape.ArrowFunctionExpression ds) [] k (ps ▸ (t ▸ none)) refl e)

-- ---- its body

pub body_fits : (h : Shape) → Fits (Expr argument_seat) (body_demand (arrow_kind h))
body_fits shape.FunctionBody = refl
body_fits h = (λ t. absurd (true≢false (sym t)), λ t. absurd (true≢false (sym t)))

own_kind : (F : OwnRows) → ((V : Assured) → KeepsOwn V (F V)) → (c : Tree) (V : Assured) {L : Begun} {p : Position} {t u : Tree} → OwnStep (own_rows F c V) L p t u → arrow_kind (shape_of t) ≡ arrow_kind (shape_of u)
own_kind F keeps c V (own_here L p n w r) = (any_form F keeps).kind p n w (known_in c V L, r)
own_kind F keeps c V (own_inside L p h xs ts us b s) = refl

-- ---- an instance

module _ (F : OwnRows) (keeps : (V : Assured) → KeepsOwn V (F V)) (S : BodySets) (W : VariableSet) (q : Seat) (ds : List (List ℕ)) (k : ℕ) (ps t u : Tree) (s : OwnStep (own_rows F t (S k)) nothing_begun (Expr argument_seat) t u) where
  abbrev p : Position
  p = Expr q

  abbrev f : Tree
  f = arrow_over ds k ps t

  abbrev f' : Tree
  f' = arrow_over ds k ps u

  abbrev Q : Position → Tree → Tree → Type 0
  Q = AnyRow F

  own : KeepsForm Q
  own = any_form F keeps

  whole : Step Q p f f'
  whole = inside p (shape.ArrowFunctionExpression ds) [] k (ps ▸ (t ▸ none)) (ps ▸ (u ▸ none)) (later _ ps (t ▸ none) (u ▸ none) (first _ t u none (forget F keeps t (S k) s)))

  whole_fits : (strict : Bool) (c : Slot) → fits_place p c ≡ true → fits strict c f ≡ true → fits strict c f' ≡ true
  whole_fits strict c z e = any_step_fits Q own.names own.shapes whole strict c z e

  whole_keeps : (strict : Bool) (c : Slot) → fits_place p c ≡ true → fits strict c f ≡ true → KeepsLoosely p f f'
  whole_keeps strict c z e = step_keeps Q own.names (init_stays Q own.shapes) whole strict c z e

  whole_declares : (x : Name) → Contains (declared f') x → Contains (declared f) x
  whole_declares = reaches_declared Q own.declared (more p f f' f' whole (done p f'))

  whole_fixed : (x : Variable) → fixed_by f x ≡ fixed_by f' x
  whole_fixed x = step_fixed nothing Q (record { reads = own.reads; fixed = λ q n w r y c. own.fixed q n w r y }) whole x refl

  abbrev own_frame : List Frame
  own_frame = frame_of None (shape.ArrowFunctionExpression ds) k (frame_outline (shape.ArrowFunctionExpression ds) [] k (ps ▸ (t ▸ none))) (globals (shape.ArrowFunctionExpression ds) (ps ▸ (t ▸ none)))

  after : (es fs gs : List Frame) → FramesKept fs gs → FramesKept (es ++ fs) (es ++ gs)
  after es fs gs h = each_frame es fs es gs (λ f m. m) h

  whole_frames : FramesKept (frames None f) (frames None f')
  whole_frames = after own_frame _ _ (after (frames None ps) _ _ (each_frame (frames None t) [] (frames None u) [] (own_frames F keeps t (S k) s None (λ m. refl)) (λ f m. m)))

  abbrev own_body : Around → Tree → List Body
  own_body a v = body_of a (shape.ArrowFunctionExpression ds) k (arrow_over ds k ps v) (ps ▸ (v ▸ none))

  abbrev below_it : Around → ℕ → Around
  below_it a i = below a (shape.ArrowFunctionExpression ds) (ps ▸ (t ▸ none)) i

  abbrev kind_of : Tree → BodyKind
  kind_of v = arrow_kind (shape_of v)

  runs : (e : Environment) → Steadies (S k) e → (X : VariableSet) → Begins (S k) X → RunsAs e (kind_of t) (kind_of u) X t u
  runs e z X b = subst (λ l. RunsAs e (kind_of t) l X t u) (own_kind F keeps t (S k) s) (own_runs F keeps t (S k) e z s (λ j. omega arith) (known_off t (S k)) (kind_of t) (body_fits (shape_of t)) X (known_begins t (S k) X b))

  whole_bodies : (a : Around) → BodiesUnder W S nothing (bodies a f) (bodies a f')
  whole_bodies a =
      each_under W S nothing (own_body a t) (bodies (below_it a 0) ps ++ (bodies (below_it a 1) t ++ [])) (own_body a u) (bodies (below_it a 0) ps ++ (bodies (below_it a 1) u ++ []))
      (inl (record { number = refl; kind = inl (own_kind F keeps t (S k) s); strict = refl; asks_this = refl; same = λ e z y X g. runs e y X g }), tt)
      (each_under W S nothing (bodies (below_it a 0) ps) _ (bodies (below_it a 0) ps) _ (itself_under W S nothing (bodies (below_it a 0) ps))
      (each_under W S nothing (bodies (below_it a 1) t) [] (bodies (below_it a 1) u) [] (kept_under S W (bodies (below_it a 1) t) (bodies (below_it a 1) u) (own_bodies F keeps t (S k) s (below_it a 1) (λ m. refl))) tt))

  whole_steadies : SteadiesWith W S p f f'
  whole_steadies = record {
    same = record { by = λ e z. (created_same ds k ps t u p).by e nothing nothing };
    fixed = fixed_anyway p f f' whole_fixed;
    frames = λ strict c z e a. kept_are_shown f f' whole_frames a;
    bodies = λ strict c z e a st. whole_bodies a;
  }

-- ---- all

module _ (F : OwnRows) (keeps : (V : Assured) → KeepsOwn V (F V)) (S : BodySets) where
  -- what holds of each such arrow function holds of what a row reads and writes
  by_row : (P : Position → Tree → Tree → Type 0) → ((q : Seat) (ds : List (List ℕ)) (k : ℕ) (ps t u : Tree) → OwnStep (own_rows F t (S k)) nothing_begun (Expr argument_seat) t u → P (Expr q) (arrow_over ds k ps t) (arrow_over ds k ps u)) → (p : Position) (n w : Tree) → OwnArrow F S p n w → P p n w
  by_row P h (Expr q) n w r = subst (λ v. P (Expr q) v w) (sym r.shape) (subst (P (Expr q) (arrow_over r.directives r.number r.parameters r.before)) (sym r.written) (h q r.directives r.number r.parameters r.before r.after r.step))
  by_row P h p n w r = absurd r

  pub arrows_lawful : (K : Shape → Bool) (W : VariableSet) → LawfulUnder K W S (OwnArrow F S)
  arrows_lawful K W = record {
    shapes = record {
      fitting = by_row (λ p n w. (strict : Bool) (c : Slot) → fits_place p c ≡ true → fits strict c n ≡ true → fits strict c w ≡ true) (λ q ds k ps t u s. whole_fits F keeps S W q ds k ps t u s);
      asked = by_row AskedAlike (λ q ds k ps t u s. record { absent = λ g. absurd (true≢false (sym g)); body = λ g. absurd (true≢false (sym g)); optional = λ g. absurd (true≢false (sym g)); number = λ g h. refl; spelled = λ o g. absurd (cc g); plain = refl });
    };
    places = record {
      names = record {
        places = by_row (λ p n w. (is_rewritten_place p ≡ true) ⊎ KeepsRoot p n w) (λ q ds k ps t u s. inl refl);
        pieces = by_row (λ p n w. is_piece (shape_of n) ≡ false) (λ q ds k ps t u s. refl);
        keeps = by_row (λ p n w. (strict : Bool) (c : Slot) → fits_place p c ≡ true → fits strict c n ≡ true → KeepsLoosely p n w) (λ q ds k ps t u s. whole_keeps F keeps S W q ds k ps t u s);
      };
      slots = by_row (λ p n w. (strict : Bool) (c : Slot) → fits_place p c ≡ true → fits strict c n ≡ true → ((is_body_slot p c ≡ true) ⊎ IsShownAlike c n w) ⊎ KeepsHolder n w) (λ q ds k ps t u s strict c z e. inl (inl (expression_slot (Expr q) c (in_slot ds k ps t strict c e))));
      ports = by_row (λ p n w. (strict : Bool) (d : Depth) → fits strict (one (a_statement d)) n ≡ true → (m : Bool) → NoPort m n w ⊎ KeepsFunction n w) (λ q ds k ps t u s strict d e. absurd (in_slot ds k ps t strict (one (a_statement d)) e));
      listed = λ p n w e c. absurd (by_row (λ p n w. is_statement_list p ≡ true → ⊥) (λ q ds k ps t u s e. cc e) p n w c e);
      exported = by_row (λ p n w. (strict : Bool) → fits strict (one a_default_export) n ≡ true → NoDeclaration n w ⊎ KeepsFunction n w) (λ q ds k ps t u s strict e. inl (refl, refl));
    };
    reads = by_row (λ p n w. summary n ≡ summary w) (λ q ds k ps t u s. ap (λ i. summary_of (shape.ArrowFunctionExpression ds) [] k (summary ps ∷ (i ∷ []))) (own_read F keeps t (S k) s));
    kind = by_row (λ p n w. (strict : Bool) (c : Slot) → fits strict c n ≡ true → arrow_kind (shape_of n) ≡ arrow_kind (shape_of w)) (λ q ds k ps t u s strict c e. refl);
    declared = by_row (λ p n w. (x : Name) → Contains (declared w) x → Contains (declared n) x) (λ q ds k ps t u s. whole_declares F keeps S W q ds k ps t u s);
    instances = λ p n w c. inl (by_row (SteadiesWith W S) (λ q ds k ps t u s. whole_steadies F keeps S W q ds k ps t u s) p n w c);
  }

  -- ---- lighter

  arrow_lighter : (p : Position) (n w : Tree) → OwnArrow F S p n w → weight p w < weight p n
  arrow_lighter = by_row (λ p n w. weight p w < weight p n) (λ q ds k ps t u s. any_step_lighter (AnyRow F) (any_form F keeps).lightens (Expr q) _ _ (whole F keeps S nothing q ds k ps t u s))

  arrow_outline : (p : Position) (n w : Tree) → OwnArrow F S p n w → outline n ≡ outline w
  arrow_outline = by_row (λ p n w. outline n ≡ outline w) (λ q ds k ps t u s. refl)

  pub arrows_lighten : Lightens (OwnArrow F S)
  arrows_lighten = record {
    lighter = arrow_lighter;
    absent = λ p n w r a. ap (λ o. o.absent) (arrow_outline p n w r);
    items = λ p n w r a. ap (λ o. o.items) (arrow_outline p n w r);
    is_zero = λ p n w r a. inl (ap (λ o. o.is_zero) (arrow_outline p n w r));
    chooses = λ p n w r a. inl (λ h. sym (ap (λ o. o.chooses) (arrow_outline p n w r)) ∙ h);
  }

-- ---- functions and arrow functions

either_lightens : (R Q : Position → Tree → Tree → Type 0) → Lightens R → Lightens Q → Lightens (λ p n w. R p n w ⊎ Q p n w)
either_lightens R Q l m = record {
  lighter = λ p n w r. either (l.lighter p n w) (m.lighter p n w) r;
  absent = λ p n w r a. either (λ x. l.absent p n w x a) (λ x. m.absent p n w x a) r;
  items = λ p n w r a. either (λ x. l.items p n w x a) (λ x. m.items p n w x a) r;
  is_zero = λ p n w r a. either (λ x. l.is_zero p n w x a) (λ x. m.is_zero p n w x a) r;
  chooses = λ p n w r a. either (λ x. l.chooses p n w x a) (λ x. m.chooses p n w x a) r;
}
  where
    either : {A B C : Type 0} → (A → C) → (B → C) → A ⊎ B → C
    either f g (inl x) = f x
    either f g (inr y) = g y

pub own_code_lawful : (F : OwnRows) → OwnCodeIsLawful F
own_code_lawful F keeps K W S = steady_join (OwnFunction F S) (OwnArrow F S) K W S (functions_lawful F keeps S K W) (arrows_lawful F keeps S K W)

pub own_code_lightens : (F : OwnRows) → OwnCodeLightens F
own_code_lightens F keeps S = either_lightens (OwnFunction F S) (OwnArrow F S) (functions_lighten F keeps S) (arrows_lighten F keeps S)

pub steady_code_lawful : SteadyCodeIsLawful
steady_code_lawful = own_code_lawful SteadyRow steady_own

pub steady_code_lightens : SteadyCodeLightens
steady_code_lightens = own_code_lightens SteadyRow steady_own

pub lexical_code_lawful : LexicalCodeIsLawful
lexical_code_lawful = own_code_lawful LexicalRows lexical_own

pub lexical_code_lightens : LexicalCodeLightens
lexical_code_lightens = own_code_lightens LexicalRows lexical_own
