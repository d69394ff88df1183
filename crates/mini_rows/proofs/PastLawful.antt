-- What the rows of names that are read behind held names write of a function is lawful where that is known of its body.
use Rattle.std.specs.Prelude.{ℕ, ◌+◌, ◌<◌, ◌≤◌, ◌≡◌, ◌⊎◌, refl, Bool, true, false, List, [], ◌++◌, Contains, None}
use Rattle.std.proofs.Common.{ap, ◌∙◌, sym, subst, arith, inl, inr, true≢false}
use Rattle.mini_model.specs.declared.name.Name.{Name}
use Rattle.mini_model.specs.declared.place.Position.{Position}
use Rattle.mini_model.specs.declared.place.Position.TheVariants.{Expr, Stmt, Method, Elsewhere}
use Rattle.mini_model.specs.declared.seat.StmtSeat.TheVariants as stmt_seat
use Rattle.mini_model.specs.declared.shape.Shape.{Shape}
use Rattle.mini_model.specs.declared.shape.Shape.TheVariants as shape
use Rattle.mini_model.specs.Tree.{Tree, Trees, none, ◌▸◌, listed, shape_of}
use Rattle.mini_model.specs.Paths.{append}
use Rattle.mini_model.specs.Weight.{outline as weight_outline, weight}
use Rattle.mini_accept.specs.WellShaped.{Depth, in_body, a_statement, a_default_export, Slot, one, each, fits, fill}
use Rattle.mini_laws.specs.Value.{Declared, VariableSet, nothing}
use Rattle.mini_laws.specs.Naming.{summary}
use Rattle.mini_laws.specs.Scoped.{AllUnmentioned}
use Rattle.mini_laws.specs.Substitution.{alone}
use Rattle.mini_laws.specs.Bodies.{Around, below, Body, bodies, body_of, arrow_kind}
use Rattle.mini_laws.specs.Weights.{Lightens}
use Rattle.mini_laws.proofs.Congruent.{weaker, no_within}
use Rattle.mini_kept.specs.Declaring.{declared}
use Rattle.mini_kept.specs.Frames.{outline, globals, frame_of, Frame, frames, FramesKept}
use Rattle.mini_kept.specs.KeepsFrames.{KeepsFunction}
use Rattle.mini_kept.specs.KeepsNames.{Keeps, is_rewritten_place}
use Rattle.mini_kept.specs.KeepsShapes.{AskedAlike}
use Rattle.mini_kept.specs.Lifted.{is_piece, is_rooted_place, KeepsRoot}
use Rattle.mini_kept.specs.Loosely.{DropsUnder, LawfulUnder}
use Rattle.mini_kept.specs.ShownFrames.{no_key, gone_from}
use Rattle.mini_kept.specs.Without.{Assured, BodySets, none_steady, BodiesUnder}
use Rattle.mini_kept.proofs.FrameLists as frame_list
use Rattle.mini_kept.proofs.InOrder.{in_order}
use Rattle.mini_kept.proofs.Loosely.{steady_narrowed}
use Rattle.mini_kept.proofs.ShownFrames.{kept_shown}
use Rattle.mini_kept.proofs.WithoutLists as without
use Rattle.mini_rows.specs.Lists.{block, declaration}
use Rattle.mini_rows.specs.Declarations.{declarator}
use Rattle.mini_rows.specs.Past.{PastRow, PastFunctionRow, PastFunction, PastIsLawful, PastLightens}
use Rattle.mini_rows.specs.Unused.{resolved, names, any_names, declared_among, put_first, statements, function_with}
use Rattle.mini_rows.specs.Switches.{Liberties}
use Rattle.mini_rows.proofs.ArrangedBodies.{quiet}
use Rattle.mini_rows.proofs.FunctionBodyKept.{function_less, function_keeps, function_fixed, statements_frames, function_frames, function_bodies, function_declares}
use Rattle.mini_rows.proofs.FunctionBodyLawful.{same_at, function_fits, numbered, is_function_place, rooted, no_list}
use Rattle.mini_rows.proofs.ListShapes.{append_fits, both_fit}
use Rattle.mini_rows.proofs.ListWeights.{list_is, body_is}
use Rattle.mini_rows.proofs.PastHolders.{FunctionBehind, FunctionsBehind, functions_behind}
use Rattle.mini_rows.proofs.PastStretches.{Behind, statements_run}
use Rattle.mini_rows.proofs.SingleWeights.{single_falls, next_falls}
use Rattle.mini_rows.proofs.UnusedKept.{all_append}
use Rattle.mini_rows.proofs.UnusedMeaning.{movable}
use Rattle.mini_rows.proofs.UnusedNames.{or_parts, all_unmentioned}
use Rattle.mini_rows.proofs.UnusedStretches.{item_in}
use Rattle.mini_rows.proofs.UnusedWeights.{block_falls}

-- ---- statements

module _ (V : Assured) (W : VariableSet) (outside : Tree) (a b : Trees) (t : Behind V W outside a b) where
  pub list_fits : (o : Depth) (strict : Bool) → fill strict (each (item_in o)) a ≡ true → fill strict (each (item_in o)) b ≡ true
  list_fits o strict e =
      let item = item_in o in
      let (x, y) = both_fit strict item t.before (append t.d t.after) (sym (ap (fill strict (each item)) t.read_is) ∙ e) in
      let (z, v) = both_fit strict item t.d t.after y in
      ap (fill strict (each item)) t.written_is ∙ append_fits strict item t.before (append t.w t.after) x (append_fits strict item t.w t.after (t.fits o strict z) v)

  pub none_mention : AllUnmentioned (record { name = resolved t.spelling t.symbol; hoists = false }) (append t.before (append t.w t.after))
  none_mention =
      let x = resolved t.spelling t.symbol in
      all_append (record { name = x; hoists = false }) t.before (append t.w t.after) (all_unmentioned x t.symbol refl t.before t.earlier) (all_append (record { name = x; hoists = false }) t.w t.after t.leaves.unmentioned (all_unmentioned x t.symbol refl t.after t.later))

-- ---- an instance

module _ (S : BodySets) (W : VariableSet) (p : Position) (d g : Bool) (ds : List (List ℕ)) (number : ℕ) (name : Tree) (ps a b : Trees) (t : Behind (S number) W (listed (name ▸ ps)) a b) where
  abbrev x : Name
  x = resolved t.spelling t.symbol

  abbrev D : VariableSet
  D = alone (Declared t.symbol)

  abbrev first_list : Trees
  first_list = append t.before (append t.d t.after)

  abbrev second_list : Trees
  second_list = append t.before (append t.w t.after)

  abbrev this : Tree
  this = function_with d g ds number name ps first_list

  abbrev that : Tree
  that = function_with d g ds number name ps second_list

  outside : names x (listed ps) ≡ false
  outside = (or_parts (names x name) (any_names x ps) t.outer).1

  keeps : Keeps p this that
  keeps = function_keeps (listed ps) x t.before t.after t.d t.w t.leaves t.declares outside t.earlier t.later d g ds number name (none_mention (S number) W (listed (name ▸ ps)) a b t) p

  abbrev own : Around → Trees → List Body
  own e ts = body_of e (shape.Function d g ds) number (function_with d g ds number name ps ts) (name ▸ (listed ps ▸ (statements ts ▸ none)))

  abbrev around : Around → ℕ → Around
  around e i = below e (shape.Function d g ds) (name ▸ (listed ps ▸ (statements first_list ▸ none))) i

  abbrev bodies_after : Around → Trees → List Body
  bodies_after e ts = bodies (around e 0) name ++ (bodies (around e 1) (listed ps) ++ ((bodies (quiet (around e 2)) (listed ts) ++ []) ++ []))

  these_bodies : (e : Around) → BodiesUnder W S D (bodies e this) (bodies e that)
  these_bodies e =
      without.each_under W S D (own e first_list) (bodies_after e first_list) (own e second_list) (bodies_after e second_list)
      (inl (record { number = refl; kind = inl refl; strict = refl; asks_this = refl; same = λ f u s y g. statements_run (S number) W (listed (name ▸ ps)) a b t f u s y g }), tt)
      (without.more_under nothing W none_steady S D D (without.nothing_part W) (without.none_part S) (without.part_itself D) (bodies_after e first_list) (bodies_after e second_list) (without.from_kept D (bodies_after e first_list) (bodies_after e second_list) (function_bodies (listed ps) x t.before t.after t.d t.w t.leaves t.declares outside t.earlier t.later d g ds number name (around e 0) (around e 1) (around e 2))))

  abbrev own_frame : List Frame
  own_frame = frame_of None (shape.Function d g ds) number (outline (shape.Function d g ds) [] number (name ▸ (listed ps ▸ (statements first_list ▸ none)))) (globals (shape.Function d g ds) (name ▸ (listed ps ▸ (statements first_list ▸ none))))

  abbrev frames_after : Trees → List Frame
  frames_after ts = frames None name ++ (frames None (listed ps) ++ ((frames None (listed ts) ++ []) ++ []))

  these_frames : FramesKept (frames None this) (frames None that)
  these_frames = frame_list.each_of own_frame (frames_after first_list) own_frame (frames_after second_list) (λ f c. c) (function_frames (listed ps) x t.before t.after t.d t.w t.leaves t.declares outside t.earlier t.later d g ds number name)

  dropped : (K : Shape → Bool) → DropsUnder K W S t.symbol p this that
  dropped K = record {
    kept = keeps.kept;
    less = function_less (listed ps) x t.before t.after t.d t.w t.leaves t.declares outside t.earlier t.later d g ds number name t.symbol refl;
    same = λ e u q f. weaker e nothing D nothing nothing (no_within D) (no_within nothing) q this that ((same_at d g ds number name ps first_list second_list p).by e nothing nothing q f);
    fixed = function_fixed (listed ps) x t.before t.after t.d t.w t.leaves t.declares outside t.earlier t.later d g ds number name;
    frames = λ strict c z f. kept_shown (gone_from K D) no_key (frames None this) (frames None that) these_frames;
    bodies = λ strict c z f e s. these_bodies e;
  }

  declares_less : (y : Name) → Contains (declared that) y → Contains (declared this) y
  declares_less = function_declares (listed ps) x t.before t.after t.d t.w t.leaves t.declares outside t.earlier t.later d g ds number name

  -- no frame shows its body
  body_frames : FramesKept (frames None (statements first_list)) (frames None (statements second_list))
  body_frames = statements_frames (listed ps) x t.before t.after t.d t.w t.leaves t.declares outside t.earlier t.later

-- of a row

module _ (S : BodySets) (W : VariableSet) (n w : Tree) (r : FunctionBehind S W n w) where
  abbrev with_statements : Trees → Tree
  with_statements = function_with r.is_declared r.is_generator r.directives r.number r.name r.parameters

  abbrev there : Behind (S r.number) W (listed (r.name ▸ r.parameters)) r.before r.after
  there = r.there

  -- whatever is told by the lists that are read and written
  listed_there : (P : Trees → Trees → Type 0) → P (append there.before (append there.d there.after)) (append there.before (append there.w there.after)) → P r.before r.after
  listed_there P f = subst (λ ts. P ts r.after) (sym there.read_is) (subst (P (append there.before (append there.d there.after))) (sym there.written_is) f)

  -- or by the shape
  shaped : (P : Tree → Tree → Type 0) → P (with_statements r.before) (with_statements r.after) → P n w
  shaped P f = subst (λ v. P v w) (sym r.shape) (subst (P (with_statements r.before)) (sym r.written) f)

  abbrev of_lists : (Tree → Tree → Type 0) → Type 0
  of_lists P = P (with_statements (append there.before (append there.d there.after))) (with_statements (append there.before (append there.w there.after)))

  by_lists : (P : Tree → Tree → Type 0) → of_lists P → P n w
  by_lists P f = shaped P (listed_there (λ ts us. P (with_statements ts) (with_statements us)) f)

  instance_keeps : (p : Position) → Keeps p n w
  instance_keeps p = by_lists (Keeps p) (keeps S W p r.is_declared r.is_generator r.directives r.number r.name r.parameters r.before r.after there)

  instance_drops : (p : Position) (K : Shape → Bool) → DropsUnder K W S there.symbol p n w
  instance_drops p K = by_lists (DropsUnder K W S there.symbol p) (dropped S W p r.is_declared r.is_generator r.directives r.number r.name r.parameters r.before r.after there K)

  instance_declares : (y : Name) → Contains (declared w) y → Contains (declared n) y
  instance_declares = by_lists (λ n w. (y : Name) → Contains (declared w) y → Contains (declared n) y) (declares_less S W Elsewhere r.is_declared r.is_generator r.directives r.number r.name r.parameters r.before r.after there)

  row_fits : (strict : Bool) (s : Slot) → fits strict s n ≡ true → fits strict s w ≡ true
  row_fits strict s e =
      ap (fits strict s) r.written
      ∙ function_fits r.is_declared r.is_generator r.directives r.number r.name r.parameters r.before r.after (list_fits (S r.number) W (listed (r.name ▸ r.parameters)) r.before r.after there in_body) strict s (sym (ap (fits strict s) r.shape) ∙ e)

  keeps_function : (strict : Bool) (s : Slot) → fits strict s n ≡ true → KeepsFunction n w
  keeps_function strict s e =
      let (k, is) = numbered r.is_declared r.is_generator r.directives r.number r.name r.parameters r.before strict s (sym (ap (fits strict s) r.shape) ∙ e) in
      record {
        is_declared = r.is_declared;
        is_generator = r.is_generator;
        directives = r.directives;
        number = k;
        name = r.name;
        parameters = listed r.parameters;
        earlier = statements r.before;
        later = statements r.after;
        before = r.shape ∙ ap (λ m. function_with r.is_declared r.is_generator r.directives m r.name r.parameters r.before) is;
        after = r.written ∙ ap (λ m. function_with r.is_declared r.is_generator r.directives m r.name r.parameters r.after) is;
        framed = listed_there (λ ts us. FramesKept (frames None (statements ts)) (frames None (statements us))) (body_frames S W Elsewhere r.is_declared r.is_generator r.directives r.number r.name r.parameters r.before r.after there);
      }

-- ---- all

placed_row : (S : BodySets) (W : VariableSet) (p : Position) (n w : Tree) → FunctionsBehind S W p n w → (is_function_place p ≡ true) × FunctionBehind S W n w
placed_row S W (Stmt q) n w r = (refl, r)
placed_row S W (Expr s) n w r = (refl, r)
placed_row S W Method n w r = (refl, r)
placed_row S W Elsewhere n w r = (refl, r)
placed_row S W p n w r = absurd r

module _ (S : BodySets) (W : VariableSet) where
  -- what holds wherever such a function stands
  anywhere : (P : Position → Tree → Tree → Type 0) → ((p : Position) (n w : Tree) → is_function_place p ≡ true → FunctionBehind S W n w → P p n w) → (p : Position) (n w : Tree) → FunctionsBehind S W p n w → P p n w
  anywhere P h p n w c = let (z, r) = placed_row S W p n w c in h p n w z r

  root_kept : (p : Position) (n w : Tree) → (is_rewritten_place p ≡ true) ⊎ (is_rooted_place p ≡ true) → FunctionBehind S W n w → (is_rewritten_place p ≡ true) ⊎ KeepsRoot p n w
  root_kept p n w (inl e) r = inl e
  root_kept p n w (inr e) r = inr (shaped S W n w r (KeepsRoot p) (record { place = e; shape = refl; names = refl; number = refl; counted = refl; second = refl }))

  pub functions_behind_lawful : (K : Shape → Bool) → LawfulUnder K W S (FunctionsBehind S W)
  functions_behind_lawful K = record {
    shapes = record {
      fitting = λ p n w c strict s f e. row_fits S W n w (placed_row S W p n w c).1 strict s e;
      asked = anywhere AskedAlike (λ p n w z r. shaped S W n w r (AskedAlike p) (record { absent = λ g. absurd (true≢false (sym g)); body = λ g. absurd (true≢false (sym g)); optional = λ g. absurd (true≢false (sym g)); number = λ g h. refl; spelled = λ o g. absurd (cc g); plain = refl }));
    };
    places = record {
      names = record {
        places = anywhere (λ p n w. (is_rewritten_place p ≡ true) ⊎ KeepsRoot p n w) (λ p n w z r. root_kept p n w (rooted p z) r);
        pieces = anywhere (λ p n w. is_piece (shape_of n) ≡ false) (λ p n w z r. ap (λ t. is_piece (shape_of t)) r.shape);
        keeps = λ p n w c strict s f e. in_order p n w (instance_keeps S W n w (placed_row S W p n w c).1 p);
      };
      slots = λ p n w c strict s f e. inr (inl (keeps_function S W n w (placed_row S W p n w c).1 strict s e));
      ports = λ p n w c strict d e m. inr (keeps_function S W n w (placed_row S W p n w c).1 strict (one (a_statement d)) e);
      listed = λ p n w e c. absurd (no_list p (placed_row S W p n w c).0 e);
      exported = λ p n w c strict e. inr (keeps_function S W n w (placed_row S W p n w c).1 strict (one a_default_export) e);
    };
    reads = anywhere (λ p n w. summary n ≡ summary w) (λ p n w z r. shaped S W n w r (λ t v. summary t ≡ summary v) refl);
    kind = λ p n w c strict s e. shaped S W n w (placed_row S W p n w c).1 (λ t v. arrow_kind (shape_of t) ≡ arrow_kind (shape_of v)) refl;
    declared = λ p n w c. instance_declares S W n w (placed_row S W p n w c).1;
    instances = λ p n w c. let r = (placed_row S W p n w c).1 in inr ((there S W n w r).symbol, instance_drops S W n w r p K);
  }

-- ---- lighter

module _ (S : BodySets) (W : Liberties) where
  pub list_lighter : (V : Assured) (outside : Tree) (ts us : Trees) → PastRow V W outside ts us → weight (Stmt stmt_seat.List) (block us) + 1 ≤ weight (Stmt stmt_seat.List) (block ts)
  list_lighter V outside ts us (inl r) =
      let falls = single_falls stmt_seat.List r.before r.kind r.first r.spelling r.symbol r.init r.head r.after (movable W.switches r.init r.moves) r.once in
      omega (arith, falls, ap (λ l. weight (Stmt stmt_seat.List) (block l)) r.shape, ap (λ l. weight (Stmt stmt_seat.List) (block l)) r.written)
  list_lighter V outside ts us (inr r) =
      let x = resolved r.spelling r.symbol in
      let falls = block_falls stmt_seat.List r.before r.after (declared_among r.kind x r.first r.init (declarator r.binds r.value ▸ r.last)) (declaration r.kind (append r.first (declarator r.binds (put_first x r.init r.value) ▸ r.last))) refl (next_falls r.kind r.spelling r.symbol r.first r.init r.binds r.value r.last (movable W.switches r.init r.moves) r.once) in
      omega (arith, falls, ap (λ l. weight (Stmt stmt_seat.List) (block l)) r.shape, ap (λ l. weight (Stmt stmt_seat.List) (block l)) r.written)

  row_lighter : (p : Position) (n w : Tree) → PastFunctionRow S W n w → weight p w < weight p n
  row_lighter p n w r =
      let less = list_lighter (S r.number) (listed (r.name ▸ r.parameters)) r.before r.after r.row in
      omega (arith, less, list_is r.before, list_is r.after, body_is r.before, body_is r.after, ap (weight p) r.shape, ap (weight p) r.written)

  in_function : (P : Position → Tree → Tree → Type 0) → ((p : Position) (n w : Tree) → PastFunctionRow S W n w → P p n w) → (p : Position) (n w : Tree) → PastFunction S W p n w → P p n w
  in_function P f (Stmt q) n w r = f (Stmt q) n w r
  in_function P f (Expr s) n w r = f (Expr s) n w r
  in_function P f Method n w r = f Method n w r
  in_function P f Elsewhere n w r = f Elsewhere n w r
  in_function P f p n w r = absurd r

  row_outline : (p : Position) (n w : Tree) → PastFunction S W p n w → weight_outline n ≡ weight_outline w
  row_outline = in_function (λ p n w. weight_outline n ≡ weight_outline w) (λ p n w r. ap weight_outline r.shape ∙ sym (ap weight_outline r.written))

  pub past_lightens : Lightens (PastFunction S W)
  past_lightens = record {
    lighter = in_function (λ p n w. weight p w < weight p n) row_lighter;
    absent = λ p n w c e. ap (λ o. o.absent) (row_outline p n w c);
    items = λ p n w c e. ap (λ o. o.items) (row_outline p n w c);
    is_zero = λ p n w c e. inl (ap (λ o. o.is_zero) (row_outline p n w c));
    chooses = λ p n w c e. inl (λ h. sym (ap (λ o. o.chooses) (row_outline p n w c)) ∙ h);
  }

pub past_is_lawful : PastIsLawful
past_is_lawful K W S = steady_narrowed (PastFunction S W) (FunctionsBehind S W.writable) K W.writable S (functions_behind S W) (functions_behind_lawful S W.writable K)

pub past_is_lighter : PastLightens
past_is_lighter S W = past_lightens S W
