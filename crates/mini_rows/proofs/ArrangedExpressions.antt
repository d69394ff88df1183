-- An expression that is built anew of the parts of another is kept.
use Rattle.std.specs.Prelude.{◌≡◌, ◌≤◌, refl, ◌&&◌, ◌||◌, Bool, true, false, [], Option, None}
use Rattle.std.proofs.Common.{ap, ◌∙◌, sym, subst, arith, inl}
use Rattle.std.proofs.lemmas.Bool.{and_parts}
use Rattle.mini_model.specs.declared.name.SymbolId.{SymbolId}
use Rattle.mini_model.specs.declared.place.Position.{Position}
use Rattle.mini_model.specs.declared.place.Position.TheVariants.{Expr}
use Rattle.mini_model.specs.declared.seat.Seat.{Seat}
use Rattle.mini_model.specs.declared.shape.Shape.{Shape}
use Rattle.mini_model.specs.declared.shape.Shape.TheVariants as shape
use Rattle.mini_model.specs.Tree.{Tree, node, shape_of}
use Rattle.mini_accept.specs.WellShaped.{Depth, in_module, in_body, nested, a_statement, a_method, a_default_export, Slot, one, statement_slots, slots_of, filling_by, fits}
use Rattle.mini_laws.specs.declared.names.Declared.TheVariants as declared
use Rattle.mini_laws.specs.declared.names.Use.{Use}
use Rattle.mini_laws.specs.declared.names.Use.TheVariants.{Read}
use Rattle.mini_laws.specs.DeclaredNames.{is_inner}
use Rattle.mini_laws.specs.Early.{body_declarations}
use Rattle.mini_laws.specs.Resolved.{Environment}
use Rattle.mini_laws.specs.Scoped.{Scoped}
use Rattle.mini_laws.specs.Symbols.{declared as declared_in, times}
use Rattle.mini_laws.specs.Body.{ArrowExpression}
use Rattle.mini_laws.specs.Bodies.{Around, bodies, arrow_kind}
use Rattle.mini_kept.specs.AlikeBodies.{BodiesKept}
use Rattle.mini_kept.specs.Frames.{is_declaration, frames, FramesKept}
use Rattle.mini_kept.specs.KeepsLoosely.{InnerKept, KeepsLoosely}
use Rattle.mini_kept.specs.KeepsNames.{Keeps, Stands as StandsFor, is_read, unplaced}
use Rattle.mini_kept.specs.Lifted.{is_piece}
use Rattle.mini_kept.specs.Loosely.{FixedKept}
use Rattle.mini_kept.specs.SameNames.{is_among, first_symbol}
use Rattle.mini_kept.specs.Standing.{is_method_slot}
use Rattle.mini_kept.proofs.Bools.{left}
use Rattle.mini_kept.proofs.Expressions.{refused_here}
use Rattle.mini_kept.proofs.Clashes.{no_more_same}
use Rattle.mini_kept.proofs.Quiet.{is_quiet, IsQuiet, no_names, no_body_names, no_body_declarations, no_loop, same_symbols as same_symbols_of}
use Rattle.mini_rows.specs.Sketches.{still, rearranges_expression, Head, AList, Spread, Interpolation, Piece, Empty, OfExpression, Throw, Return, If, Block, shape_by, Sketch, part, under, list, Sketches, Parts, filled, all_filled, AsValue, parts_of, Free, is_rearranged, is_expression_head, is_piece_head, stands_well, is_expression}
use Rattle.mini_rows.specs.Arranged.{KeptBy, SameFixed, KeptAt, KeptLoosely, AllVanish, AreLoose, ExpressionsArranged, ExpressionsArrangedLoosely}
use Rattle.mini_rows.proofs.Arranging.{Any, Each}
use Rattle.mini_rows.proofs.ArrangedBodies.{quiet}
use Rattle.mini_rows.proofs.ArrangedValues.{is_no_inner, is_value, suits_anywhere, Valued, head_valued}
use Rattle.mini_rows.proofs.ArrangedMoves.{loosened}
use Rattle.mini_rows.proofs.ArrangedTrees.{same_inner, same_fixed, same_declared, same_frames, same_bodies, same_once, same_targets, parts_valued, same_scoped, same_symbols, same_numbers}

-- ---- tables

pub expression_is_value : (h : Head) → is_expression_head h ≡ true → is_value (shape_by h) ≡ true
expression_is_value AList e = absurd (cc e)
expression_is_value If e = absurd (cc e)
expression_is_value Block e = absurd (cc e)
expression_is_value h e = refl

no_inner : (h : Shape) → is_value h ≡ true → is_inner h ≡ false
no_inner shape.InnerExpression e = absurd (cc e)
no_inner h e = refl

kind_of_value : (h : Shape) → is_value h ≡ true → arrow_kind h ≡ ArrowExpression
kind_of_value shape.FunctionBody e = absurd (cc e)
kind_of_value h e = refl

undeclared : (h : Shape) → is_value h ≡ true → is_declaration h ≡ false
undeclared (shape.VariableDeclaration k) e = absurd (cc e)
undeclared (shape.Function true g ds) e = absurd (cc e)
undeclared (shape.Function false g ds) e = refl
undeclared (shape.Class true) e = absurd (cc e)
undeclared (shape.Class false) e = refl
undeclared h e = refl

pub no_piece : (h : Head) → is_piece_head h ≡ false → is_piece (shape_by h) ≡ false
no_piece AList e = refl
no_piece (Piece is_tail raw cooked) e = absurd (cc e)
no_piece h e = refl

expression_no_piece : (h : Head) → is_expression_head h ≡ true → is_piece_head h ≡ false
expression_no_piece (Piece is_tail raw cooked) e = absurd (cc e)
expression_no_piece h e = refl

-- an expression is no statement, and no method
pub no_statement : (strict : Bool) (d : Depth) (h : Head) → is_expression_head h ≡ true → statement_slots strict d (shape_by h) ≡ None
no_statement true in_module Empty e = absurd (cc e)
no_statement true in_module OfExpression e = absurd (cc e)
no_statement true in_module Throw e = absurd (cc e)
no_statement true in_module Return e = absurd (cc e)
no_statement true in_module If e = absurd (cc e)
no_statement true in_module Block e = absurd (cc e)
no_statement true in_module h e = refl
no_statement true in_body Empty e = absurd (cc e)
no_statement true in_body OfExpression e = absurd (cc e)
no_statement true in_body Throw e = absurd (cc e)
no_statement true in_body Return e = absurd (cc e)
no_statement true in_body If e = absurd (cc e)
no_statement true in_body Block e = absurd (cc e)
no_statement true in_body h e = refl
no_statement true nested Empty e = absurd (cc e)
no_statement true nested OfExpression e = absurd (cc e)
no_statement true nested Throw e = absurd (cc e)
no_statement true nested Return e = absurd (cc e)
no_statement true nested If e = absurd (cc e)
no_statement true nested Block e = absurd (cc e)
no_statement true nested h e = refl
no_statement false in_module Empty e = absurd (cc e)
no_statement false in_module OfExpression e = absurd (cc e)
no_statement false in_module Throw e = absurd (cc e)
no_statement false in_module Return e = absurd (cc e)
no_statement false in_module If e = absurd (cc e)
no_statement false in_module Block e = absurd (cc e)
no_statement false in_module h e = refl
no_statement false in_body Empty e = absurd (cc e)
no_statement false in_body OfExpression e = absurd (cc e)
no_statement false in_body Throw e = absurd (cc e)
no_statement false in_body Return e = absurd (cc e)
no_statement false in_body If e = absurd (cc e)
no_statement false in_body Block e = absurd (cc e)
no_statement false in_body h e = refl
no_statement false nested Empty e = absurd (cc e)
no_statement false nested OfExpression e = absurd (cc e)
no_statement false nested Throw e = absurd (cc e)
no_statement false nested Return e = absurd (cc e)
no_statement false nested If e = absurd (cc e)
no_statement false nested Block e = absurd (cc e)
no_statement false nested h e = refl

not_list : (h : Head) → is_expression_head h ≡ true → suits_anywhere h ≡ true
not_list AList e = absurd (cc e)
not_list Spread e = absurd (cc e)
not_list Interpolation e = absurd (cc e)
not_list h e = refl

pub no_method : (strict : Bool) (h : Head) → slots_of strict a_method (shape_by h) ≡ None
no_method strict AList = refl
no_method strict h = refl

-- ---- around an expression

at_rest : (a : Around) (t : Tree) → is_value (shape_of t) ≡ true → bodies (record a { constructs = false }) t ≡ bodies (quiet a) t
at_rest a (node shape.Listed xs n ts) e = absurd (cc e)
at_rest a (node shape.InnerExpression xs n ts) e = absurd (cc e)
at_rest a (node shape.RestElement xs n ts) e = absurd (cc e)
at_rest a (node shape.AssignmentPattern xs n ts) e = absurd (cc e)
at_rest a (node h xs n ts) e = refl

pub rested : (a : Around) (t : Tree) → a.constructs ≡ false → is_value (shape_of t) ≡ true → bodies a t ≡ bodies (quiet a) t
rested a t k e = ap (λ c. bodies (record a { constructs = c }) t) k ∙ at_rest a t e

-- ---- the law

root_value : (ps : Parts) (q : Sketch) → is_expression q ≡ true → Each Any Valued ps (parts_of AsValue q) → is_value (shape_of (filled ps q)) ≡ true
root_value ps (part i) k a = a.0
root_value ps (under g qs) k a = expression_is_value g k
root_value ps (list is) k a = absurd (cc k)

used : (v : Use) → is_read v ≡ true → v ≡ Read
used Read k = refl
used v k = absurd (cc k)

module _ (f : Free) (ps : Parts) (u : AreLoose ps f) (h : Head) (ss : Sketches) (r : Sketch) (e : is_expression_head h ≡ true) (x : is_expression r ≡ true) (sn : stands_well f AsValue (under h ss) ≡ true) (sr : stands_well f AsValue r ≡ true) (z : is_rearranged f (parts_of AsValue (under h ss)) (parts_of AsValue r) ≡ true) where
  abbrev n : Tree
  n = filled ps (under h ss)

  abbrev w : Tree
  w = filled ps r

  n_value : is_value (shape_of n) ≡ true
  n_value = expression_is_value h e

  n_parts : (strict : Bool) (s : Slot) → fits strict s n ≡ true → Each Any Valued ps (parts_of AsValue (under h ss))
  n_parts strict s k = head_valued ps strict AsValue s h ss (not_list h e) k

  w_value : (strict : Bool) (s : Slot) → fits strict s n ≡ true → is_value (shape_of w) ≡ true
  w_value strict s k = root_value ps r x (parts_valued f ps u AsValue (under h ss) r sn sr z (n_parts strict s k))

  quiet_of : (t : Tree) → is_value (shape_of t) ≡ true → IsQuiet t
  quiet_of t v = left (is_quiet (shape_of t)) (is_no_inner (shape_of t)) v

  pub read_here : (q : Seat) (v : Use) → StandsFor (Expr q) v n → v ≡ Read
  read_here q v k = used v (sym (ap (λ b. b || is_read v) (no_inner (shape_by h) n_value)) ∙ k)

  module _ (q : Seat) (strict : Bool) (s : Slot) (fit : fits strict s n ≡ true) where
    n_quiet : IsQuiet n
    n_quiet = quiet_of n n_value

    w_quiet : IsQuiet w
    w_quiet = quiet_of w (w_value strict s fit)

    symbols_kept : (o : Use) (y : Option SymbolId) → times y (declared_in o w) ≤ times y (declared_in o n)
    symbols_kept o y = omega (arith, same_symbols f ps u AsValue (under h ss) r sn sr z (n_parts strict s fit) Read y, ap (times y) (same_symbols_of o w w_quiet), ap (times y) (same_symbols_of o n n_quiet))

    scoped_kept : (o : Use) (env : Environment) → StandsFor (Expr q) o n → Scoped o env n → Scoped o env w
    scoped_kept o env k y = subst (λ m. Scoped m env w) (sym (read_here q o k)) (same_scoped f ps u AsValue (under h ss) r sn sr z (n_parts strict s fit) Read refl env (subst (λ m. Scoped m env n) (read_here q o k) y))

    -- where what is dropped has no inner expression
    pub expression_keeps : AllVanish ps.trees f.dropped → Keeps (Expr q) n w
    expression_keeps g = record {
      kept = record { names = λ d. no_names d w w_quiet ∙ sym (no_names d n n_quiet); body = no_body_names w w_quiet ∙ sym (no_body_names n n_quiet); inner = same_inner f ps u AsValue (under h ss) r sn sr z g; symbols = symbols_kept };
      scoped = scoped_kept;
      numbers = same_numbers f ps u AsValue (under h ss) r sn sr z (n_parts strict s fit);
      declared_as_body = λ l p. ap unplaced (no_body_declarations l p w w_quiet ∙ sym (no_body_declarations l p n n_quiet));
      once = same_once f ps u AsValue (under h ss) r sn sr z;
      targets = same_targets f ps u AsValue (under h ss) r sn sr z;
      loop = no_loop w w_quiet ∙ sym (no_loop n n_quiet);
      root = λ k. absurd (cc k);
      block = λ k l p. absurd (cc k);
    }

    -- where it may have one, and is no parameter
    names_kept : InnerKept n w → KeepsLoosely (Expr q) n w
    names_kept g = record {
      bound = no_names declared.Bound w w_quiet ∙ sym (no_names declared.Bound n n_quiet);
      lexical = no_names declared.Lexical w w_quiet ∙ sym (no_names declared.Lexical n n_quiet);
      hoisted = λ x. ap (λ xs. is_among xs x) (no_names declared.Hoisted w w_quiet ∙ sym (no_names declared.Hoisted n n_quiet));
      body = λ o env k y x. ap (first_symbol x) (no_body_names w w_quiet ∙ sym (no_body_names n n_quiet));
      inner = g;
      scoped = scoped_kept;
      symbols = λ o env k y. symbols_kept o;
      numbers = same_numbers f ps u AsValue (under h ss) r sn sr z (n_parts strict s fit);
      declared_as_body = λ l p. no_more_same (body_declarations l p n) (body_declarations l p w) (ap unplaced (no_body_declarations l p w w_quiet ∙ sym (no_body_declarations l p n n_quiet)));
      once = same_once f ps u AsValue (under h ss) r sn sr z;
      targets = same_targets f ps u AsValue (under h ss) r sn sr z;
      loop = no_loop w w_quiet ∙ sym (no_loop n n_quiet);
      root = λ k. absurd (cc k);
      block = λ k l p. absurd (cc k);
    }

  bodies_kept : (a : Around) → a.constructs ≡ false → is_value (shape_of w) ≡ true → BodiesKept (bodies a n) (bodies a w)
  bodies_kept a k v = subst (BodiesKept (bodies a n)) (sym (rested a w k v)) (subst (λ bs. BodiesKept bs (bodies (quiet a) w)) (sym (rested a n k n_value)) (same_bodies f ps u AsValue (under h ss) r sn sr z a))

  pub method_slot : (strict : Bool) (s : Slot) → fits strict s n ≡ true → is_method_slot s ≡ false
  method_slot strict (one a_method) k = absurd (refused_here strict (one a_method) (shape_by h) [] 0 (all_filled ps ss) (ap filling_by (no_method strict h)) k)
  method_slot strict (one c) k = refl
  method_slot strict s k = refl

  no_port : (strict : Bool) (d : Depth) → fits strict (one (a_statement d)) n ≡ true → ⊥
  no_port strict d k = refused_here strict (one (a_statement d)) (shape_by h) [] 0 (all_filled ps ss) (ap filling_by (no_statement strict d h e)) k

  pub expression_kept : (F : Position → Tree → Tree → Type 0) (q : Seat) → InnerKept n w → F (Expr q) n w → KeptBy F (Expr q) n w
  expression_kept F q inner fixed = record {
    keeps = λ strict s o k. names_kept q strict s k inner;
    piece = no_piece h (expression_no_piece h e);
    kind = λ strict s k. kind_of_value (shape_of n) n_value ∙ sym (kind_of_value (shape_of w) (w_value strict s k));
    bodies = λ strict s o k a st. bodies_kept a (st.function (method_slot strict s k)) (w_value strict s k);
    ports = λ strict d k. absurd (no_port strict d k);
    listed = λ l. absurd (cc l);
    exported = λ strict k. (undeclared (shape_of n) n_value, undeclared (shape_of w) (w_value strict (one a_default_export) k));
    frames = λ strict s o k. same_frames f ps u AsValue (under h ss) r sn sr z;
    fixed = fixed;
    declared = same_declared f ps u AsValue (under h ss) r sn sr z;
  }

module _ (f : Free) (h : Head) (ss : Sketches) (r : Sketch) (e : rearranges_expression f (under h ss) r ≡ true) where
  -- what the test tells
  record Tested : Type 0 where
    first : is_expression_head h ≡ true
    second : is_expression r ≡ true
    reads : stands_well f AsValue (under h ss) ≡ true
    writes : stands_well f AsValue r ≡ true
    parts : is_rearranged f (parts_of AsValue (under h ss)) (parts_of AsValue r) ≡ true

  tested : Tested
  tested =
      let c = AsValue in
      let rest = is_rearranged f (parts_of c (under h ss)) (parts_of c r) in
      let (x, y) = and_parts (is_expression_head h) (is_expression r && (stands_well f c (under h ss) && (stands_well f c r && rest))) e in
      let (k, y') = and_parts (is_expression r) (stands_well f c (under h ss) && (stands_well f c r && rest)) y in
      let (sn, y'') = and_parts (stands_well f c (under h ss)) (stands_well f c r && rest) y' in
      let (sr, z) = and_parts (stands_well f c r) rest y'' in
      record { first = x; second = k; reads = sn; writes = sr; parts = z }

-- where parts may be dropped
pub expressions_arranged_freely : ExpressionsArranged
expressions_arranged_freely f ps u (part i) r e q n w a b = absurd (cc e)
expressions_arranged_freely f ps u (list is) r e q n w a b = absurd (cc e)
expressions_arranged_freely f ps u (under h ss) r e q n w a b =
    let t = tested f h ss r e in
    let o = loosened f ps u in
    subst (λ t. KeptAt (Expr q) t w) (sym a)
    (subst (KeptAt (Expr q) (filled ps (under h ss))) (sym b) (expression_kept f ps o h ss r t.first t.second t.reads t.writes t.parts SameFixed q (inl (same_inner f ps o AsValue (under h ss) r t.reads t.writes t.parts u.2)) (same_fixed f ps o AsValue (under h ss) r t.reads t.writes t.parts u.2)))

-- also such as have inner expressions, or declare what can't be written
pub expressions_arranged_loosely : ExpressionsArrangedLoosely
expressions_arranged_loosely f ps u (part i) r e q n w a b k g = absurd (cc e)
expressions_arranged_loosely f ps u (list is) r e q n w a b k g = absurd (cc e)
expressions_arranged_loosely f ps u (under h ss) r e q n w a b k g =
    let t = tested f h ss r e in
    subst (λ t. KeptLoosely (Expr q) t w) (sym a)
    (subst (KeptLoosely (Expr q) (filled ps (under h ss))) (sym b)
    (expression_kept f ps u h ss r t.first t.second t.reads t.writes t.parts FixedKept q (subst (λ t. InnerKept t (filled ps r)) a (subst (InnerKept n) b k)) (subst (λ t. FixedKept (Expr q) t (filled ps r)) a (subst (FixedKept (Expr q) n) b g))))

-- where none is
pub expressions_arranged : (ps : Parts) (s r : Sketch) → rearranges_expression still s r ≡ true → (q : Seat) (n w : Tree) → n ≡ filled ps s → w ≡ filled ps r → KeptAt (Expr q) n w
expressions_arranged ps = expressions_arranged_freely still ps (tt, tt, tt)

-- ---- in the code of a body

-- its bodies and its frames are kept where nothing around makes it a constructor
pub record CodeKept (n w : Tree) : Type 0 where
  pub bodied : (a : Around) → a.constructs ≡ false → BodiesKept (bodies a n) (bodies a w)
  pub framed : FramesKept (frames None n) (frames None w)

pub code_arranged : (f : Free) (ps : Parts) → AreLoose ps f → (h g : Head) (ss rs : Sketches) → rearranges_expression f (under h ss) (under g rs) ≡ true → (n w : Tree) → n ≡ filled ps (under h ss) → w ≡ filled ps (under g rs) → CodeKept n w
code_arranged f ps u h g ss rs e n w a b =
    let t = tested f h ss (under g rs) e in
    subst (λ t. CodeKept t w) (sym a)
    (subst (CodeKept (filled ps (under h ss))) (sym b)
    (record {
      bodied = λ x k. bodies_kept f ps u h ss (under g rs) t.first t.second t.reads t.writes t.parts x k (expression_is_value g t.second);
      framed = same_frames f ps u AsValue (under h ss) (under g rs) t.reads t.writes t.parts;
    }))
