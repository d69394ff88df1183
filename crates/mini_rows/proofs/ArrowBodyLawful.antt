-- What the rows of names that nothing mentions write of an arrow function is loosely lawful.
use Rattle.std.specs.Prelude.{ℕ, ◌≡◌, ◌⊎◌, refl, ◌&&◌, Bool, true, false, List, [], ◌++◌, Contains, None}
use Rattle.std.proofs.Common.{ap, ◌∙◌, sym, subst, inl, inr, true≢false}
use Rattle.mini_model.specs.declared.name.Name.{Name}
use Rattle.mini_model.specs.declared.place.Position.{Position}
use Rattle.mini_model.specs.declared.place.Position.TheVariants.{Expr}
use Rattle.mini_model.specs.declared.seat.Seat.{Seat}
use Rattle.mini_model.specs.declared.shape.Shape.{Shape}
use Rattle.mini_model.specs.declared.shape.Shape.TheVariants as shape
use Rattle.mini_model.specs.Tree.{Tree, Trees, none, ◌▸◌, listed, shape_of}
use Rattle.mini_model.specs.Paths.{append}
use Rattle.mini_accept.specs.WellShaped.{Depth, in_module, in_body, nested, Class, a_statement, an_init, an_arrow_body, an_expression, a_link, an_argument, a_key, a_private_or_key, an_inner_key, a_default_export, a_parameter, a_pattern_rest, Slot, one, one_or_absent, many_and_rest, each, filling_by, statement_slots, is_whole, is_strict_in, fits, fill}
use Rattle.mini_laws.specs.Value.{Declared, VariableSet, nothing}
use Rattle.mini_laws.specs.State.{State, Environment}
use Rattle.mini_laws.specs.Demand.{Demand, As, Callee, OfType, Deleted, AnEntry, Stat, Request}
use Rattle.mini_laws.specs.Naming.{summary}
use Rattle.mini_laws.specs.Step.{step, means}
use Rattle.mini_laws.specs.Rows.{SameAt}
use Rattle.mini_laws.specs.Substitution.{alone}
use Rattle.mini_laws.specs.Body.{FunctionStatements}
use Rattle.mini_laws.specs.Bodies.{Around, below, Body, bodies, body_of, arrow_kind}
use Rattle.mini_laws.specs.Scoped.{AllUnmentioned}
use Rattle.mini_laws.proofs.Congruent.{body_same, weaker, no_within}
use Rattle.mini_laws.proofs.Rows.{equal_same}
use Rattle.mini_laws.proofs.Simulation.{within_refl}
use Rattle.mini_kept.specs.AlikeBodies.{RunsAs}
use Rattle.mini_kept.specs.Declaring.{declared}
use Rattle.mini_kept.specs.Frames.{outline, globals, frame_of, Frame, frames, FramesKept}
use Rattle.mini_kept.specs.KeepsFrames.{is_body_slot, IsShownAlike, NoPort, NoDeclaration, KeepsFunction, KeepsHolder}
use Rattle.mini_kept.specs.KeepsLoosely.{KeepsLoosely}
use Rattle.mini_kept.specs.KeepsNames.{Keeps, is_rewritten_place}
use Rattle.mini_kept.specs.KeepsShapes.{AskedAlike}
use Rattle.mini_kept.specs.Lifted.{is_piece, KeepsRoot}
use Rattle.mini_kept.specs.Loosely.{StaysWith, DropsWith, LawfulWith}
use Rattle.mini_kept.specs.Placed.{fits_place, is_statement_list}
use Rattle.mini_kept.specs.ShownFrames.{no_key, gone_from}
use Rattle.mini_kept.specs.Without.{Permits, BodiesWith}
use Rattle.mini_kept.proofs.Bools.{left, both}
use Rattle.mini_kept.proofs.Expressions.{TakesExpressionIn, TakesExpression, refused_here}
use Rattle.mini_kept.proofs.FrameLists as frame_list
use Rattle.mini_kept.proofs.FrameRows.{expression_slot}
use Rattle.mini_kept.proofs.InOrder.{in_order}
use Rattle.mini_kept.proofs.ShownFrames.{kept_shown}
use Rattle.mini_kept.proofs.WithoutLists as without
use Rattle.mini_kept.proofs.WithoutLists.{from_kept}
use Rattle.mini_rows.specs.Unused.{resolved, statements, arrow_with}
use Rattle.mini_rows.proofs.ArrangedBodies.{quiet}
use Rattle.mini_rows.proofs.FunctionBodyKept.{arrow_less, arrow_keeps, arrow_fixed, frames_behind, bodies_behind, arrow_declares}
use Rattle.mini_rows.proofs.HeldStretches.{ArrowStretch}
use Rattle.mini_rows.proofs.ListShapes.{append_fits, both_fit}
use Rattle.mini_rows.proofs.UnusedKept.{all_append}
use Rattle.mini_rows.proofs.UnusedMeaning.{statements_same}
use Rattle.mini_rows.proofs.UnusedNames.{all_avoided, all_unmentioned}
use Rattle.mini_rows.proofs.UnusedStretches.{item_in, body_item, Stretch}

-- ---- it does the same

created : (ds : List (List ℕ)) (k : ℕ) (ps a b : Trees) (e : Environment) (q : Demand) (r : Request q) (s : State) → means e (arrow_with ds k ps a) q r s ≡ means e (arrow_with ds k ps b) q r s
unfolding means step
created ds k ps a b e (As w) r s = refl
created ds k ps a b e Callee r s = refl
created ds k ps a b e OfType r s = refl
created ds k ps a b e Deleted r s = refl
created ds k ps a b e AnEntry r s = refl
created ds k ps a b e q r s = refl

pub same_at : (ds : List (List ℕ)) (k : ℕ) (ps a b : Trees) (p : Position) → SameAt p (arrow_with ds k ps a) (arrow_with ds k ps b)
same_at ds k ps a b p = equal_same p (arrow_with ds k ps a) (arrow_with ds k ps b) (record { by = λ e q z r s. created ds k ps a b e q r s })

-- ---- where it stands, and what stands in its body

both_parts : (w p a b : Bool) → (a ≡ true → b ≡ true) → (w && (p && (a && true))) ≡ true → (w && (p && (b && true))) ≡ true
both_parts true true true b f e = ap (λ c. c && true) (f refl)
both_parts true true false b f e = absurd (true≢false (sym e))
both_parts true false a b f e = absurd (true≢false (sym e))
both_parts false p a b f e = absurd (true≢false (sym e))

arrow_nowhere : (strict : Bool) (d : Depth) (ds : List (List ℕ)) → statement_slots strict d (shape.ArrowFunctionExpression ds) ≡ None
arrow_nowhere true in_module ds = refl
arrow_nowhere true in_body ds = refl
arrow_nowhere true nested ds = refl
arrow_nowhere false in_module ds = refl
arrow_nowhere false in_body ds = refl
arrow_nowhere false nested ds = refl

module _ (ds : List (List ℕ)) (k : ℕ) (ps a b : Trees) (h : (strict : Bool) → fill strict (each body_item) a ≡ true → fill strict (each body_item) b ≡ true) where
  abbrev inner : Bool → Bool
  inner strict = is_strict_in strict (shape.ArrowFunctionExpression ds)

  abbrev whole : Class → Bool
  whole c = is_whole c (shape.ArrowFunctionExpression ds) [] k (listed ps ▸ (statements a ▸ none))

  abbrev params : Bool → Bool
  params strict = fits (inner strict) (many_and_rest a_parameter a_pattern_rest) (listed ps)

  abbrev Here : Bool → Class → Trees → Type 0
  Here strict c ts = (whole c && (params strict && (fits (inner strict) (one an_arrow_body) (statements ts) && true))) ≡ true

  abbrev pub Stands : Bool → Slot → Type 0 → Type 0
  Stands strict s takes = takes × (fits strict s (arrow_with ds k ps b) ≡ true)

  body_fits : (strict : Bool) → fits strict (one an_arrow_body) (statements a) ≡ true → fits strict (one an_arrow_body) (statements b) ≡ true
  body_fits strict e = both (fill strict (each body_item) b) true (h strict (left (fill strict (each body_item) a) true e)) refl

  body_in : (strict : Bool) (c : Class) → Here strict c a → Here strict c b
  body_in strict c e = both_parts (whole c) (params strict) (fits (inner strict) (one an_arrow_body) (statements a)) (fits (inner strict) (one an_arrow_body) (statements b)) (body_fits (inner strict)) e

  arrow_in : (strict : Bool) (c : Class) → fits strict (one c) (arrow_with ds k ps a) ≡ true → Stands strict (one c) (TakesExpressionIn c)
  arrow_in strict an_expression e = (tt, body_in strict an_expression e)
  arrow_in strict a_link e = (tt, body_in strict a_link e)
  arrow_in strict an_argument e = (tt, body_in strict an_argument e)
  arrow_in strict an_init e = (tt, body_in strict an_init e)
  arrow_in strict an_arrow_body e = (tt, body_in strict an_arrow_body e)
  arrow_in strict a_default_export e = (tt, body_in strict a_default_export e)
  arrow_in strict (a_key true) e = (tt, body_in strict (a_key true) e)
  arrow_in strict (a_key false) e = absurd (refused_here strict (one (a_key false)) (shape.ArrowFunctionExpression ds) [] k (listed ps ▸ (statements a ▸ none)) refl e)
  arrow_in strict (a_statement d) e = absurd (refused_here strict (one (a_statement d)) (shape.ArrowFunctionExpression ds) [] k (listed ps ▸ (statements a ▸ none)) (ap filling_by (arrow_nowhere strict d ds)) e)
  arrow_in strict (a_private_or_key true) e = absurd (refused_here strict (one (a_private_or_key true)) (shape.ArrowFunctionExpression ds) [] k (listed ps ▸ (statements a ▸ none)) refl e)
  arrow_in strict (an_inner_key true) e = absurd (refused_here strict (one (an_inner_key true)) (shape.ArrowFunctionExpression ds) [] k (listed ps ▸ (statements a ▸ none)) refl e)
  arrow_in strict c e = absurd (refused_here strict (one c) (shape.ArrowFunctionExpression ds) [] k (listed ps ▸ (statements a ▸ none)) refl e)

  pub in_slot : (strict : Bool) (s : Slot) → fits strict s (arrow_with ds k ps a) ≡ true → Stands strict s (TakesExpression s)
  in_slot strict (one c) e = arrow_in strict c e
  in_slot strict (one_or_absent c) e = let (takes, f) = arrow_in strict c e in (takes, f)
  in_slot strict s e = absurd (refused_here strict s (shape.ArrowFunctionExpression ds) [] k (listed ps ▸ (statements a ▸ none)) refl e)

pub list_fits : {W : VariableSet} (p : Tree) (a b : Trees) → Stretch W p a b → (o : Depth) (strict : Bool) → fill strict (each (item_in o)) a ≡ true → fill strict (each (item_in o)) b ≡ true
list_fits p a b t o strict e =
    let (x, y) = both_fit strict (item_in o) t.before (append t.d t.after) (sym (ap (fill strict (each (item_in o))) t.read_is) ∙ e) in
    let (z, v) = both_fit strict (item_in o) t.d t.after y in
    ap (fill strict (each (item_in o))) t.written_is ∙ append_fits strict (item_in o) t.before (append t.w t.after) x (append_fits strict (item_in o) t.w t.after (t.loses.fits o strict z) v)

-- ---- an instance

pub record Instance (W : VariableSet) (p : Position) (n w : Tree) : Type 0 where
  pub symbol : ℕ
  pub keeps : KeepsLoosely p n w
  pub drops : (K : Shape → Bool) → DropsWith K W symbol p n w
  pub declared_there : (y : Name) → Contains (declared w) y → Contains (declared n) y

-- the statements, behind what stands before them
module _ (W : VariableSet) (p : Tree) (a b : Trees) (t : Stretch W p a b) where
  abbrev gone : VariableSet
  gone = alone (Declared t.symbol)

  abbrev statements_before : Trees
  statements_before = append t.before (append t.d t.after)

  abbrev statements_after : Trees
  statements_after = append t.before (append t.w t.after)

  pub none_mention : AllUnmentioned (record { name = resolved t.spelling t.symbol; hoists = false }) statements_after
  none_mention =
      let x = resolved t.spelling t.symbol in
      all_append (record { name = x; hoists = false }) t.before (append t.w t.after) (all_unmentioned x t.symbol refl t.before t.earlier) (all_append (record { name = x; hoists = false }) t.w t.after t.loses.leaves.unmentioned (all_unmentioned x t.symbol refl t.after t.later))

  pub statements_run : (e : Environment) → Permits W gone e → (X : VariableSet) → RunsAs e FunctionStatements FunctionStatements X (statements statements_before) (statements statements_after)
  statements_run e u X =
      let x = resolved t.spelling t.symbol in
      let same = statements_same e t.spelling t.symbol u.unseen t.before t.after t.d t.w t.loses.read (all_avoided x t.symbol refl t.before t.earlier) t.loses.avoids (all_avoided x t.symbol refl t.after t.later) (t.loses.same e u) in
      let whole = body_same e gone X u.unseen.shared FunctionStatements (statements statements_before) (statements statements_after) (weaker e gone gone nothing X (within_refl gone) (no_within X) (Stat None) (statements statements_before) (statements statements_after) same) in
      record { by = whole.by }

module _ (W : VariableSet) (s : Seat) (ds : List (List ℕ)) (number : ℕ) (ps a b : Trees) (t : Stretch W (listed ps) a b) where
  abbrev x : Name
  x = resolved t.spelling t.symbol

  abbrev D : VariableSet
  D = alone (Declared t.symbol)

  abbrev first_list : Trees
  first_list = append t.before (append t.d t.after)

  abbrev second_list : Trees
  second_list = append t.before (append t.w t.after)

  abbrev this : Tree
  this = arrow_with ds number ps first_list

  abbrev that : Tree
  that = arrow_with ds number ps second_list

  keeps : Keeps (Expr s) this that
  keeps = arrow_keeps (listed ps) x t.before t.after t.d t.w t.loses.leaves t.loses.declares t.outside t.earlier t.later ds number (none_mention W (listed ps) a b t) s

  abbrev own : Around → Trees → List Body
  own a ts = body_of a (shape.ArrowFunctionExpression ds) number (arrow_with ds number ps ts) (listed ps ▸ (statements ts ▸ none))

  abbrev around : Around → ℕ → Around
  around a i = below a (shape.ArrowFunctionExpression ds) (listed ps ▸ (statements first_list ▸ none)) i

  abbrev bodies_after : Around → Trees → List Body
  bodies_after a ts = bodies (around a 0) (listed ps) ++ ((bodies (quiet (around a 1)) (listed ts) ++ []) ++ [])

  arrow_bodies : (e : Around) → BodiesWith W D (bodies e this) (bodies e that)
  arrow_bodies e =
      without.each_of W D (own e first_list) (bodies_after e first_list) (own e second_list) (bodies_after e second_list) (inl (record { number = refl; kind = inl refl; strict = refl; asks_this = refl; same = λ f u y X g. statements_run W (listed ps) a b t f u X }), tt)
      (without.all_more nothing W D D (without.nothing_part W) (without.part_itself D) (bodies_after e first_list) (bodies_after e second_list) (from_kept D (bodies_after e first_list) (bodies_after e second_list) (bodies_behind (listed ps) x t.before t.after t.d t.w t.loses.leaves t.loses.declares t.outside t.earlier t.later (around e 0) (around e 1))))

  abbrev own_frame : List Frame
  own_frame = frame_of None (shape.ArrowFunctionExpression ds) number (outline (shape.ArrowFunctionExpression ds) [] number (listed ps ▸ (statements first_list ▸ none))) (globals (shape.ArrowFunctionExpression ds) (listed ps ▸ (statements first_list ▸ none)))

  abbrev frames_after : Trees → List Frame
  frames_after ts = frames None (listed ps) ++ ((frames None (listed ts) ++ []) ++ [])

  arrow_frames : FramesKept (frames None this) (frames None that)
  arrow_frames = frame_list.each_of own_frame (frames_after first_list) own_frame (frames_after second_list) (λ f c. c) (frames_behind (listed ps) x t.before t.after t.d t.w t.loses.leaves t.loses.declares t.outside t.earlier t.later)

  dropped : (K : Shape → Bool) → DropsWith K W t.symbol (Expr s) this that
  dropped K = record {
    kept = keeps.kept;
    less = arrow_less (listed ps) x t.before t.after t.d t.w t.loses.leaves t.loses.declares t.outside t.earlier t.later ds number t.symbol refl;
    same = λ e u q f. weaker e nothing D nothing nothing (no_within D) (no_within nothing) q this that ((same_at ds number ps first_list second_list (Expr s)).by e nothing nothing q f);
    fixed = arrow_fixed (listed ps) x t.before t.after t.d t.w t.loses.leaves t.loses.declares t.outside t.earlier t.later ds number;
    frames = λ strict c g f. kept_shown (gone_from K D) no_key (frames None this) (frames None that) arrow_frames;
    bodies = λ strict c g f a z. arrow_bodies a;
  }

  stretched : Instance W (Expr s) this that
  stretched = record {
    symbol = t.symbol;
    keeps = in_order (Expr s) this that keeps;
    drops = dropped;
    declared_there = arrow_declares (listed ps) x t.before t.after t.d t.w t.loses.leaves t.loses.declares t.outside t.earlier t.later ds number;
  }

instance : (W : VariableSet) (s : Seat) (n w : Tree) → ArrowStretch W n w → Instance W (Expr s) n w
instance W s n w r =
    let t = r.there in
    let first = r.shape ∙ ap (arrow_with r.directives r.number r.parameters) t.read_is in
    let second = r.written ∙ ap (arrow_with r.directives r.number r.parameters) t.written_is in
    subst (λ v. Instance W (Expr s) v w) (sym first)
    (subst (Instance W (Expr s) (arrow_with r.directives r.number r.parameters (append t.before (append t.d t.after)))) (sym second) (stretched W s r.directives r.number r.parameters r.before r.after t))

-- ---- all

-- of an expression
abbrev pub OfArrow : VariableSet → Position → Tree → Tree → Type 0
OfArrow W (Expr s) n w = ArrowStretch W n w
OfArrow W p n w = ⊥

-- whatever is told by the shape
shaped : {W : VariableSet} (P : Tree → Tree → Type 0) → ((ds : List (List ℕ)) (k : ℕ) (ps a b : Trees) → P (arrow_with ds k ps a) (arrow_with ds k ps b)) → (n w : Tree) → ArrowStretch W n w → P n w
shaped P f n w r = subst (λ v. P v w) (sym r.shape) (subst (P (arrow_with r.directives r.number r.parameters r.before)) (sym r.written) (f r.directives r.number r.parameters r.before r.after))

stands : (W : VariableSet) (n w : Tree) → ArrowStretch W n w → (strict : Bool) (s : Slot) → fits strict s n ≡ true → TakesExpression s × (fits strict s w ≡ true)
stands W n w r strict s e =
    let t = r.there in
    let (takes, f) = in_slot r.directives r.number r.parameters r.before r.after (list_fits (listed r.parameters) r.before r.after t in_body) strict s (sym (ap (fits strict s) r.shape) ∙ e) in
    (takes, ap (fits strict s) r.written ∙ f)

-- whichever place it is
at_arrow : {W : VariableSet} (P : Position → Tree → Tree → Type 0) → ((s : Seat) (n w : Tree) → ArrowStretch W n w → P (Expr s) n w) → (p : Position) (n w : Tree) → OfArrow W p n w → P p n w
at_arrow P f (Expr s) n w r = f s n w r
at_arrow P f p n w r = absurd r

pub arrows_loose : (K : Shape → Bool) (W : VariableSet) → LawfulWith K W (OfArrow W)
arrows_loose K W = record {
  shapes = record {
    fitting = at_arrow (λ p n w. (strict : Bool) (s : Slot) → fits_place p s ≡ true → fits strict s n ≡ true → fits strict s w ≡ true) (λ q n w r strict s z e. (stands W n w r strict s e).1);
    asked = at_arrow AskedAlike (λ q. shaped (AskedAlike (Expr q)) (λ ds k ps a b. record { absent = λ g. absurd (true≢false (sym g)); body = λ g. absurd (true≢false (sym g)); optional = λ g. absurd (true≢false (sym g)); number = λ g h. refl; spelled = λ r g. absurd (cc g); plain = refl }));
  };
  places = record {
    names = record {
      places = at_arrow (λ p n w. (is_rewritten_place p ≡ true) ⊎ KeepsRoot p n w) (λ q n w r. inl refl);
      pieces = at_arrow (λ p n w. is_piece (shape_of n) ≡ false) (λ q. shaped (λ n w. is_piece (shape_of n) ≡ false) (λ ds k ps a b. refl));
      keeps = at_arrow (λ p n w. (strict : Bool) (s : Slot) → fits_place p s ≡ true → fits strict s n ≡ true → KeepsLoosely p n w) (λ q n w r strict s z e. (instance W q n w r).keeps);
    };
    slots = at_arrow (λ p n w. (strict : Bool) (s : Slot) → fits_place p s ≡ true → fits strict s n ≡ true → ((is_body_slot p s ≡ true) ⊎ IsShownAlike s n w) ⊎ KeepsHolder n w) (λ q n w r strict s z e. inl (inl (expression_slot (Expr q) s (stands W n w r strict s e).0)));
    ports = at_arrow (λ p n w. (strict : Bool) (d : Depth) → fits strict (one (a_statement d)) n ≡ true → (m : Bool) → NoPort m n w ⊎ KeepsFunction n w) (λ q n w r strict d e. absurd (stands W n w r strict (one (a_statement d)) e).0);
    listed = λ p n w e c. absurd (at_arrow (λ p n w. is_statement_list p ≡ true → ⊥) (λ q n w r e. cc e) p n w c e);
    exported = at_arrow (λ p n w. (strict : Bool) → fits strict (one a_default_export) n ≡ true → NoDeclaration n w ⊎ KeepsFunction n w) (λ q n w r strict e. inl (shaped NoDeclaration (λ ds k ps a b. (refl, refl)) n w r));
  };
  reads = at_arrow (λ p n w. summary n ≡ summary w) (λ q. shaped (λ n w. summary n ≡ summary w) (λ ds k ps a b. refl));
  kind = at_arrow (λ p n w. (strict : Bool) (s : Slot) → fits strict s n ≡ true → arrow_kind (shape_of n) ≡ arrow_kind (shape_of w)) (λ q n w r strict s e. shaped (λ n w. arrow_kind (shape_of n) ≡ arrow_kind (shape_of w)) (λ ds k ps a b. refl) n w r);
  declared = at_arrow (λ p n w. (y : Name) → Contains (declared w) y → Contains (declared n) y) (λ q n w r. (instance W q n w r).declared_there);
  instances = at_arrow (λ p n w. StaysWith W p n w ⊎ ((k : ℕ) × DropsWith K W k p n w)) (λ q n w r. let i = instance W q n w r in inr (i.symbol, i.drops K));
}
