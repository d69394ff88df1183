-- What the rows of names that nothing mentions write of a function is loosely lawful, wherever it stands, and so is what all of them write.
use Rattle.std.specs.Prelude.{ℕ, zero, suc, ◌≡◌, ◌⊎◌, refl, ◌&&◌, Bool, true, false, List, [], ◌∷◌, ◌++◌, Option, Some, None}
use Rattle.std.proofs.Common.{ap, ◌∙◌, sym, subst, inl, inr, true≢false}
use Rattle.std.proofs.lemmas.Bool.{and_parts}
use Rattle.mini_model.specs.declared.name.Name.{Name}
use Rattle.mini_model.specs.declared.place.Position.{Position}
use Rattle.mini_model.specs.declared.place.Position.TheVariants.{Expr, Stmt, Method, Elsewhere, StatementList, BodyList}
use Rattle.mini_model.specs.declared.shape.Shape.{Shape}
use Rattle.mini_model.specs.declared.shape.Shape.TheVariants as shape
use Rattle.mini_model.specs.Tree.{Tree, Trees, none, ◌▸◌, listed, shape_of}
use Rattle.mini_model.specs.Paths.{append}
use Rattle.mini_accept.specs.WellShaped.{Depth, in_module, in_body, nested, Class, a_statement, a_loop_left, a_method, a_function_body, an_arrow_body, a_default_export, a_key, a_private_or_key, an_inner_key, Slot, one, one_or_absent, these, each, filling_by, slots_of, statement_slots, has_its_number, has_plain_fields, has_its_parts, is_whole, is_strict_in, class_of, filling, fits, fill}
use Rattle.mini_laws.specs.Value.{Declared, VariableSet, nothing}
use Rattle.mini_laws.specs.State.{State, Environment}
use Rattle.mini_laws.specs.Demand.{Demand, As, Callee, OfType, Deleted, AnEntry, Stat, Request}
use Rattle.mini_laws.specs.Naming.{summary}
use Rattle.mini_laws.specs.Step.{step, means}
use Rattle.mini_laws.specs.Rows.{SameAt}
use Rattle.mini_laws.specs.Substitution.{alone}
use Rattle.mini_laws.specs.Bodies.{Around, below, Body, bodies, body_of, arrow_kind}
use Rattle.mini_laws.proofs.Congruent.{weaker, no_within}
use Rattle.mini_laws.proofs.Rows.{equal_same}
use Rattle.mini_kept.specs.Frames.{outline, globals, frame_of, Frame, frames, FramesKept}
use Rattle.mini_kept.specs.KeepsFrames.{KeepsFunction}
use Rattle.mini_kept.specs.KeepsNames.{Keeps, is_rewritten_place}
use Rattle.mini_kept.specs.KeepsShapes.{AskedAlike}
use Rattle.mini_kept.specs.Lifted.{is_piece, is_rooted_place, KeepsRoot}
use Rattle.mini_kept.specs.Loosely.{DropsWith, LawfulWith, LawfulLoosely}
use Rattle.mini_kept.specs.Placed.{is_statement_list}
use Rattle.mini_kept.specs.ShownFrames.{no_key, gone_from}
use Rattle.mini_kept.specs.Without.{BodiesWith}
use Rattle.mini_kept.proofs.Bools.{left, both}
use Rattle.mini_kept.proofs.Expressions.{refused_here}
use Rattle.mini_kept.proofs.FrameLists as frame_list
use Rattle.mini_kept.proofs.FrameSteps.{its_number}
use Rattle.mini_kept.proofs.InOrder.{in_order}
use Rattle.mini_kept.proofs.Loosely.{loose_join, loose_narrowed, loose_wider}
use Rattle.mini_kept.proofs.ShownFrames.{kept_shown}
use Rattle.mini_kept.proofs.WithoutLists as without
use Rattle.mini_kept.proofs.WithoutLists.{nothing_part, from_kept}
use Rattle.mini_rows.specs.Unused.{resolved, names, any_names, statements, function_with, UnusedRow, UnusedContracts, UnusedAreLawful}
use Rattle.mini_rows.specs.Switches.{Switches, Liberties}
use Rattle.mini_rows.proofs.ArrangedBodies.{quiet}
use Rattle.mini_rows.proofs.ArrowBodyLawful.{Instance, list_fits, none_mention, statements_run, OfArrow, arrows_loose}
use Rattle.mini_rows.proofs.FunctionBodyKept.{function_less, function_keeps, function_fixed, statements_frames, function_frames, function_bodies, function_declares}
use Rattle.mini_rows.proofs.ModuleLawful.{OfModule, modules_loose}
use Rattle.mini_rows.proofs.ForHeadLawful.{OfFor, heads_loose}
use Rattle.mini_rows.proofs.StaticBlockLawful.{OfStaticBlock, static_blocks_loose}
use Rattle.mini_rows.proofs.SwitchLawful.{OfSwitch, switches_loose}
use Rattle.mini_rows.proofs.UnusedLawful.{OfBlock, blocks_loose}
use Rattle.mini_rows.proofs.UnusedNames.{or_parts}
use Rattle.mini_rows.proofs.UnusedStretches.{body_item, Stretch}
use Rattle.mini_rows.proofs.HeldStretches.{FunctionStretch, arrow_stretch, function_stretch, module_stretch, static_stretch}

-- ---- it does the same

created : (d g : Bool) (ds : List (List ℕ)) (k : ℕ) (name : Tree) (ps a b : Trees) (e : Environment) (q : Demand) (r : Request q) (s : State) → means e (function_with d g ds k name ps a) q r s ≡ means e (function_with d g ds k name ps b) q r s
unfolding means step
created true g ds k name ps a b e (Stat t) r s = refl
created true g ds k name ps a b e q r s = refl
created false g ds k name ps a b e (As w) r s = refl
created false g ds k name ps a b e Callee r s = refl
created false g ds k name ps a b e OfType r s = refl
created false g ds k name ps a b e Deleted r s = refl
created false g ds k name ps a b e AnEntry r s = refl
created false g ds k name ps a b e q r s = refl

pub same_at : (d g : Bool) (ds : List (List ℕ)) (k : ℕ) (name : Tree) (ps a b : Trees) (p : Position) → SameAt p (function_with d g ds k name ps a) (function_with d g ds k name ps b)
same_at d g ds k name ps a b p = equal_same p (function_with d g ds k name ps a) (function_with d g ds k name ps b) (record { by = λ e q z r s. created d g ds k name ps a b e q r s })

-- ---- what stands in its body

-- a third child for another
third_fits : (strict : Bool) (ss : List Slot) (x y a b : Tree) → ((q : Slot) → fits strict q a ≡ true → fits strict q b ≡ true) → fill strict (these ss) (x ▸ (y ▸ (a ▸ none))) ≡ true → fill strict (these ss) (x ▸ (y ▸ (b ▸ none))) ≡ true
third_fits strict [] x y a b f e = absurd (true≢false (sym e))
third_fits strict (s ∷ []) x y a b f e = absurd (true≢false (sym (and_parts (fits strict s x) false e).1))
third_fits strict (s ∷ (r ∷ [])) x y a b f e = absurd (true≢false (sym (and_parts (fits strict r y) false (and_parts (fits strict s x) (fits strict r y && false) e).1).1))
third_fits strict (s ∷ (r ∷ (q ∷ []))) x y a b f e =
    let (g, h) = and_parts (fits strict s x) (fits strict r y && (fits strict q a && true)) e in
    let (i, j) = and_parts (fits strict r y) (fits strict q a && true) h in
    both (fits strict s x) (fits strict r y && (fits strict q b && true)) g (both (fits strict r y) (fits strict q b && true) i (both (fits strict q b) true (f q (left (fits strict q a) true j)) refl))
third_fits strict (s ∷ (r ∷ (q ∷ (t ∷ ss)))) x y a b f e =
    absurd (true≢false (sym (and_parts (fits strict q a) false (and_parts (fits strict r y) (fits strict q a && false) (and_parts (fits strict s x) (fits strict r y && (fits strict q a && false)) e).1).1).1))

third_filled : (strict : Bool) (o : Option (List Slot)) (x y a b : Tree) → ((q : Slot) → fits strict q a ≡ true → fits strict q b ≡ true) → fill strict (filling_by o) (x ▸ (y ▸ (a ▸ none))) ≡ true → fill strict (filling_by o) (x ▸ (y ▸ (b ▸ none))) ≡ true
third_filled strict None x y a b f e = e
third_filled strict (Some ss) x y a b f e = third_fits strict ss x y a b f e

body_nowhere : (strict : Bool) (d : Depth) → statement_slots strict d shape.FunctionBody ≡ None
body_nowhere true in_module = refl
body_nowhere true in_body = refl
body_nowhere true nested = refl
body_nowhere false in_module = refl
body_nowhere false in_body = refl
body_nowhere false nested = refl

module _ (a b : Trees) (strict : Bool) (h : fill strict (each body_item) a ≡ true → fill strict (each body_item) b ≡ true) where
  refused : (s : Slot) → filling strict s shape.FunctionBody ≡ filling_by None → fits strict s (statements a) ≡ true → fits strict s (statements b) ≡ true
  refused s f e = absurd (refused_here strict s shape.FunctionBody [] 0 (listed a ▸ none) f e)

  over : (fill strict (each body_item) a && true) ≡ true → (fill strict (each body_item) b && true) ≡ true
  over e = both (fill strict (each body_item) b) true (h (left (fill strict (each body_item) a) true e)) refl

  in_class : (c : Class) → fits strict (one c) (statements a) ≡ true → fits strict (one c) (statements b) ≡ true
  in_class a_function_body e = over e
  in_class an_arrow_body e = over e
  in_class (a_statement d) e = refused (one (a_statement d)) (ap filling_by (body_nowhere strict d)) e
  in_class (a_key true) e = refused (one (a_key true)) refl e
  in_class (a_key false) e = refused (one (a_key false)) refl e
  in_class (a_private_or_key true) e = refused (one (a_private_or_key true)) refl e
  in_class (a_private_or_key false) e = refused (one (a_private_or_key false)) refl e
  in_class (an_inner_key true) e = refused (one (an_inner_key true)) refl e
  in_class (an_inner_key false) e = refused (one (an_inner_key false)) refl e
  in_class c e = refused (one c) refl e

  body_fits : (s : Slot) → fits strict s (statements a) ≡ true → fits strict s (statements b) ≡ true
  body_fits (one c) e = in_class c e
  body_fits (one_or_absent c) e = in_class c e
  body_fits s e = refused s refl e

-- ---- where it stands

-- of a method alone it is asked whether it has a name
same_parts : (c : Class) (d g : Bool) (ds : List (List ℕ)) (name : Tree) (ts us : Trees) → has_its_parts c (shape.Function d g ds) (name ▸ ts) ≡ has_its_parts c (shape.Function d g ds) (name ▸ us)
same_parts (a_loop_left enumerates) d g ds name ts us = refl
same_parts a_method d g ds name ts us = refl
same_parts c d g ds name ts us = refl

module _ (d g : Bool) (ds : List (List ℕ)) (k : ℕ) (name : Tree) (ps a b : Trees) (h : (strict : Bool) → fill strict (each body_item) a ≡ true → fill strict (each body_item) b ≡ true) where
  abbrev parts : Trees → Trees
  parts ts = name ▸ (listed ps ▸ (statements ts ▸ none))

  abbrev inner : Bool → Bool
  inner strict = is_strict_in strict (shape.Function d g ds)

  function_in : (strict : Bool) (c : Class) → (is_whole c (shape.Function d g ds) [] k (parts a) && fill (inner strict) (filling_by (slots_of strict c (shape.Function d g ds))) (parts a)) ≡ true
      → (is_whole c (shape.Function d g ds) [] k (parts b) && fill (inner strict) (filling_by (slots_of strict c (shape.Function d g ds))) (parts b)) ≡ true
  function_in strict c e =
      let o = slots_of strict c (shape.Function d g ds) in
      let (w, f) = and_parts (is_whole c (shape.Function d g ds) [] k (parts a)) (fill (inner strict) (filling_by o) (parts a)) e in
      both (is_whole c (shape.Function d g ds) [] k (parts b)) (fill (inner strict) (filling_by o) (parts b))
      (ap (λ q. has_its_number c (shape.Function d g ds) k && (has_plain_fields (shape.Function d g ds) && q)) (sym (same_parts c d g ds name (listed ps ▸ (statements a ▸ none)) (listed ps ▸ (statements b ▸ none)))) ∙ w)
      (third_filled (inner strict) o name (listed ps) (statements a) (statements b) (body_fits a b (inner strict) (h (inner strict))) f)

  pub function_fits : (strict : Bool) (s : Slot) → fits strict s (function_with d g ds k name ps a) ≡ true → fits strict s (function_with d g ds k name ps b) ≡ true
  function_fits strict (one c) e = function_in strict c e
  function_fits strict (one_or_absent c) e = function_in strict c e
  function_fits strict s e = absurd (refused_here strict s (shape.Function d g ds) [] k (parts a) refl e)

-- it has a number from 1
pub numbered : (d g : Bool) (ds : List (List ℕ)) (k : ℕ) (name : Tree) (ps a : Trees) (strict : Bool) (s : Slot) → fits strict s (function_with d g ds k name ps a) ≡ true → (n : ℕ) × (k ≡ suc n)
numbered d g ds zero name ps a strict s e = absurd (true≢false (sym (its_number (class_of s) (shape.Function d g ds) [] 0 (name ▸ (listed ps ▸ (statements a ▸ none))) (fill (is_strict_in strict (shape.Function d g ds)) (filling strict s (shape.Function d g ds)) (name ▸ (listed ps ▸ (statements a ▸ none)))) e)))
numbered d g ds (suc n) name ps a strict s e = (n, refl)

-- ---- an instance

module _ (W : VariableSet) (p : Position) (d g : Bool) (ds : List (List ℕ)) (number : ℕ) (name : Tree) (ps a b : Trees) (t : Stretch W (listed (name ▸ ps)) a b) where
  abbrev x : Name
  x = resolved t.spelling t.symbol

  abbrev D : VariableSet
  D = alone (Declared t.symbol)

  abbrev first_list : Trees
  first_list = append t.before (append t.d t.after)

  abbrev second_list : Trees
  second_list = append t.before (append t.w t.after)

  abbrev this : Tree
  this = function_with d g ds number name ps first_list

  abbrev that : Tree
  that = function_with d g ds number name ps second_list

  outside : names x (listed ps) ≡ false
  outside = (or_parts (names x name) (any_names x ps) t.outside).1

  keeps : Keeps p this that
  keeps = function_keeps (listed ps) x t.before t.after t.d t.w t.loses.leaves t.loses.declares outside t.earlier t.later d g ds number name (none_mention W (listed (name ▸ ps)) a b t) p

  abbrev own : Around → Trees → List Body
  own e ts = body_of e (shape.Function d g ds) number (function_with d g ds number name ps ts) (name ▸ (listed ps ▸ (statements ts ▸ none)))

  abbrev around : Around → ℕ → Around
  around e i = below e (shape.Function d g ds) (name ▸ (listed ps ▸ (statements first_list ▸ none))) i

  abbrev bodies_after : Around → Trees → List Body
  bodies_after e ts = bodies (around e 0) name ++ (bodies (around e 1) (listed ps) ++ ((bodies (quiet (around e 2)) (listed ts) ++ []) ++ []))

  these_bodies : (e : Around) → BodiesWith W D (bodies e this) (bodies e that)
  these_bodies e =
      without.each_of W D (own e first_list) (bodies_after e first_list) (own e second_list) (bodies_after e second_list) (inl (record { number = refl; kind = inl refl; strict = refl; asks_this = refl; same = λ f u y X g. statements_run W (listed (name ▸ ps)) a b t f u X }), tt)
      (without.all_more nothing W D D (without.nothing_part W) (without.part_itself D) (bodies_after e first_list) (bodies_after e second_list) (from_kept D (bodies_after e first_list) (bodies_after e second_list) (function_bodies (listed ps) x t.before t.after t.d t.w t.loses.leaves t.loses.declares outside t.earlier t.later d g ds number name (around e 0) (around e 1) (around e 2))))

  abbrev own_frame : List Frame
  own_frame = frame_of None (shape.Function d g ds) number (outline (shape.Function d g ds) [] number (name ▸ (listed ps ▸ (statements first_list ▸ none)))) (globals (shape.Function d g ds) (name ▸ (listed ps ▸ (statements first_list ▸ none))))

  abbrev frames_after : Trees → List Frame
  frames_after ts = frames None name ++ (frames None (listed ps) ++ ((frames None (listed ts) ++ []) ++ []))

  these_frames : FramesKept (frames None this) (frames None that)
  these_frames = frame_list.each_of own_frame (frames_after first_list) own_frame (frames_after second_list) (λ f c. c) (function_frames (listed ps) x t.before t.after t.d t.w t.loses.leaves t.loses.declares outside t.earlier t.later d g ds number name)

  dropped : (K : Shape → Bool) → DropsWith K W t.symbol p this that
  dropped K = record {
    kept = keeps.kept;
    less = function_less (listed ps) x t.before t.after t.d t.w t.loses.leaves t.loses.declares outside t.earlier t.later d g ds number name t.symbol refl;
    same = λ e u q f. weaker e nothing D nothing nothing (no_within D) (no_within nothing) q this that ((same_at d g ds number name ps first_list second_list p).by e nothing nothing q f);
    fixed = function_fixed (listed ps) x t.before t.after t.d t.w t.loses.leaves t.loses.declares outside t.earlier t.later d g ds number name;
    frames = λ strict c z f. kept_shown (gone_from K D) no_key (frames None this) (frames None that) these_frames;
    bodies = λ strict c z f e s. these_bodies e;
  }

  stretched : Instance W p this that
  stretched = record {
    symbol = t.symbol;
    keeps = in_order p this that keeps;
    drops = dropped;
    declared_there = function_declares (listed ps) x t.before t.after t.d t.w t.loses.leaves t.loses.declares outside t.earlier t.later d g ds number name;
  }

  -- no frame shows its body
  body_frames : FramesKept (frames None (statements first_list)) (frames None (statements second_list))
  body_frames = statements_frames (listed ps) x t.before t.after t.d t.w t.loses.leaves t.loses.declares outside t.earlier t.later

-- of a row

module _ (W : VariableSet) (n w : Tree) (r : FunctionStretch W n w) where
  abbrev with_statements : Trees → Tree
  with_statements = function_with r.is_declared r.is_generator r.directives r.number r.name r.parameters

  there : Stretch W (listed (r.name ▸ r.parameters)) r.before r.after
  there = r.there

  instance : (p : Position) → Instance W p n w
  instance p =
      let first = r.shape ∙ ap with_statements there.read_is in
      let second = r.written ∙ ap with_statements there.written_is in
      subst (λ v. Instance W p v w) (sym first)
      (subst (Instance W p (with_statements (append there.before (append there.d there.after)))) (sym second) (stretched W p r.is_declared r.is_generator r.directives r.number r.name r.parameters r.before r.after there))

  row_fits : (strict : Bool) (s : Slot) → fits strict s n ≡ true → fits strict s w ≡ true
  row_fits strict s e =
      ap (fits strict s) r.written
      ∙ function_fits r.is_declared r.is_generator r.directives r.number r.name r.parameters r.before r.after (list_fits (listed (r.name ▸ r.parameters)) r.before r.after there in_body) strict s (sym (ap (fits strict s) r.shape) ∙ e)

  frames_there : FramesKept (frames None (statements r.before)) (frames None (statements r.after))
  frames_there =
      subst (λ ts. FramesKept (frames None (statements ts)) (frames None (statements r.after))) (sym there.read_is)
      (subst (λ ts. FramesKept (frames None (statements (append there.before (append there.d there.after)))) (frames None (statements ts))) (sym there.written_is) (body_frames W Elsewhere r.is_declared r.is_generator r.directives r.number r.name r.parameters r.before r.after there))

  keeps_function : (strict : Bool) (s : Slot) → fits strict s n ≡ true → KeepsFunction n w
  keeps_function strict s e =
      let (k, is) = numbered r.is_declared r.is_generator r.directives r.number r.name r.parameters r.before strict s (sym (ap (fits strict s) r.shape) ∙ e) in
      record {
        is_declared = r.is_declared;
        is_generator = r.is_generator;
        directives = r.directives;
        number = k;
        name = r.name;
        parameters = listed r.parameters;
        earlier = statements r.before;
        later = statements r.after;
        before = r.shape ∙ ap (λ m. function_with r.is_declared r.is_generator r.directives m r.name r.parameters r.before) is;
        after = r.written ∙ ap (λ m. function_with r.is_declared r.is_generator r.directives m r.name r.parameters r.after) is;
        framed = frames_there;
      }

  -- whatever is told by the shape
  shaped : (P : Tree → Tree → Type 0) → P (with_statements r.before) (with_statements r.after) → P n w
  shaped P f = subst (λ v. P v w) (sym r.shape) (subst (P (with_statements r.before)) (sym r.written) f)

-- ---- all

-- where a function may be replaced
abbrev pub is_function_place : Position → Bool
is_function_place (Stmt q) = true
is_function_place (Expr s) = true
is_function_place Method = true
is_function_place Elsewhere = true
is_function_place p = false

abbrev pub OfFunction : VariableSet → Position → Tree → Tree → Type 0
OfFunction W p n w = (is_function_place p ≡ true) × FunctionStretch W n w

pub rooted : (p : Position) → is_function_place p ≡ true → (is_rewritten_place p ≡ true) ⊎ (is_rooted_place p ≡ true)
rooted (Stmt q) z = inl refl
rooted (Expr s) z = inl refl
rooted Method z = inr refl
rooted Elsewhere z = inr refl
rooted p z = absurd (cc z)

function_placed : (W : VariableSet) (p : Position) (n w : Tree) → OfFunction W p n w → (is_rewritten_place p ≡ true) ⊎ KeepsRoot p n w
function_placed W p n w (z, r) = by (rooted p z)
  where
    by : (is_rewritten_place p ≡ true) ⊎ (is_rooted_place p ≡ true) → (is_rewritten_place p ≡ true) ⊎ KeepsRoot p n w
    by (inl e) = inl e
    by (inr e) = inr (shaped W n w r (KeepsRoot p) (record { place = e; shape = refl; names = refl; number = refl; counted = refl; second = refl }))

pub no_list : (p : Position) → is_function_place p ≡ true → is_statement_list p ≡ true → ⊥
no_list StatementList z e = cc z
no_list BodyList z e = cc z
no_list p z e = cc e

functions_loose : (K : Shape → Bool) (W : VariableSet) → LawfulWith K W (OfFunction W)
functions_loose K W = record {
  shapes = record {
    fitting = λ p n w c strict s f e. row_fits W n w c.1 strict s e;
    asked = λ p n w c. shaped W n w c.1 (AskedAlike p) (record { absent = λ g. absurd (true≢false (sym g)); body = λ g. absurd (true≢false (sym g)); optional = λ g. absurd (true≢false (sym g)); number = λ g h. refl; spelled = λ o g. absurd (cc g); plain = refl });
  };
  places = record {
    names = record {
      places = function_placed W;
      pieces = λ p n w c. ap (λ t. is_piece (shape_of t)) c.1.shape;
      keeps = λ p n w c strict s f e. (instance W n w c.1 p).keeps;
    };
    slots = λ p n w c strict s f e. inr (inl (keeps_function W n w c.1 strict s e));
    ports = λ p n w c strict d e m. inr (keeps_function W n w c.1 strict (one (a_statement d)) e);
    listed = λ p n w e c. absurd (no_list p c.0 e);
    exported = λ p n w c strict e. inr (keeps_function W n w c.1 strict (one a_default_export) e);
  };
  reads = λ p n w c. shaped W n w c.1 (λ t v. summary t ≡ summary v) refl;
  kind = λ p n w c strict s e. shaped W n w c.1 (λ t v. arrow_kind (shape_of t) ≡ arrow_kind (shape_of v)) refl;
  declared = λ p n w c. (instance W n w c.1 p).declared_there;
  instances = λ p n w c. let i = instance W n w c.1 p in inr (i.symbol, i.drops K);
}

-- ---- all of them

-- of what holds statements and no parameters
abbrev pub OfList : VariableSet → Position → Tree → Tree → Type 0
OfList W p n w = OfModule W p n w ⊎ OfStaticBlock W p n w

abbrev pub OfBody : VariableSet → Position → Tree → Tree → Type 0
OfBody W p n w = OfFunction W p n w ⊎ OfList W p n w

-- of what holds statements and is no body
abbrev pub OfInner : Switches → Position → Tree → Tree → Type 0
OfInner o p n w = OfBlock o p n w ⊎ (OfSwitch o p n w ⊎ OfFor o p n w)

abbrev pub OfUnused : Liberties → Position → Tree → Tree → Type 0
OfUnused W p n w = OfInner W.switches p n w ⊎ (OfArrow W.writable p n w ⊎ OfBody W.writable p n w)

either_holder : (W : Liberties) (p : Position) (n w : Tree) → UnusedContracts W p n w → OfUnused W p n w
either_holder W p n w c = by p c.row
  where
    by : (p : Position) → UnusedRow W p n w → OfUnused W p n w
    by (Stmt q) (inl r) = inl (inl r)
    by (Stmt q) (inr (inl r)) = inr (inr (inl (refl, function_stretch W n w r)))
    by (Stmt q) (inr (inr r)) = inl (inr r)
    by (Expr s) (inl r) = inr (inl (arrow_stretch W n w r))
    by (Expr s) (inr r) = inr (inr (inl (refl, function_stretch W n w r)))
    by Method r = inr (inr (inl (refl, function_stretch W n w r)))
    by Elsewhere (inl r) = inr (inr (inl (refl, function_stretch W n w r)))
    by Elsewhere (inr (inl r)) = inr (inr (inr (inl (module_stretch W n w r))))
    by Elsewhere (inr (inr (inl r))) = inr (inr (inr (inr (static_stretch W n w r))))
    by Elsewhere (inr (inr (inr r))) = inl (inl r)
    by p r = absurd r

-- each of them
inner_loose : (o : Switches) (K : Shape → Bool) → LawfulLoosely K (OfInner o)
inner_loose o K = loose_join (OfBlock o) (λ p n w. OfSwitch o p n w ⊎ OfFor o p n w) K nothing (blocks_loose o K) (loose_join (OfSwitch o) (OfFor o) K nothing (switches_loose o K) (heads_loose o K))

body_loose : (K : Shape → Bool) (W : VariableSet) → LawfulWith K W (OfBody W)
body_loose K W = loose_join (OfFunction W) (OfList W) K W (functions_loose K W) (loose_join (OfModule W) (OfStaticBlock W) K W (modules_loose K W) (static_blocks_loose K W))

pub held_loose : (K : Shape → Bool) (W : Liberties) → LawfulWith K W.writable (OfUnused W)
held_loose K W =
    let V = W.writable in
    let O = OfInner W.switches in
    loose_join O (λ p n w. OfArrow V p n w ⊎ OfBody V p n w) K V (loose_wider O K nothing V (nothing_part V) (inner_loose W.switches K)) (loose_join (OfArrow V) (OfBody V) K V (arrows_loose K V) (body_loose K V))

pub unused_loose : UnusedAreLawful
unused_loose K W = loose_narrowed (UnusedContracts W) (OfUnused W) K W.writable (either_holder W) (held_loose K W)
