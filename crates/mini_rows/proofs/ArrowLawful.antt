-- What the row of arrow functions writes keeps all that a program has to keep.
use Rattle.std.specs.Prelude.{ℕ, ◌≡◌, refl, ◌&&◌, Bool, true, false, List, [], ◌++◌, Contains, None}
use Rattle.std.proofs.Common.{ap, ◌∙◌, sym, subst, inl, inr, true≢false}
use Rattle.mini_model.specs.declared.place.Position.{Position}
use Rattle.mini_model.specs.declared.place.Position.TheVariants.{Expr}
use Rattle.mini_model.specs.declared.seat.Seat.{Seat}
use Rattle.mini_model.specs.declared.shape.Shape.TheVariants as shape
use Rattle.mini_model.specs.Tree.{Tree, node, none, ◌▸◌, listed, shape_of, is_absent}
use Rattle.mini_accept.specs.WellShaped.{Depth, in_module, in_body, nested, Class, a_statement, an_init, an_arrow_body, an_expression, a_link, an_argument, a_key, a_private_or_key, an_inner_key, a_default_export, a_parameter, a_pattern_rest, Slot, one, one_or_absent, many_and_rest, filling_by, statement_slots, is_whole, is_strict_in, fits, is_function_body, spelling, has_optional, is_not_positive_number}
use Rattle.mini_laws.specs.Value.{Variable}
use Rattle.mini_laws.specs.State.{Writable}
use Rattle.mini_laws.specs.Fixity.{stricter, fixed_by}
use Rattle.mini_laws.specs.Body.{ArrowExpression, Run}
use Rattle.mini_laws.specs.Bodies.{Around, below, Body, bodies, body_of, arrow_kind}
use Rattle.mini_kept.specs.AlikeBodies.{BodiesKept}
use Rattle.mini_kept.specs.Declaring.{declared as declared_names}
use Rattle.mini_kept.specs.Frames.{outline, globals, frame_of, frames}
use Rattle.mini_kept.specs.KeepsFrames.{is_body_slot}
use Rattle.mini_kept.specs.KeepsNames.{is_rewritten_place}
use Rattle.mini_kept.specs.KeepsShapes.{is_default, AskedAlike}
use Rattle.mini_kept.specs.Lawful.{Lawful}
use Rattle.mini_kept.proofs.Bools.{left}
use Rattle.mini_kept.proofs.BodyLists.{kept_itself, each_of}
use Rattle.mini_kept.proofs.BodyRows.{expression_kind}
use Rattle.mini_kept.proofs.Expressions.{expression, TakesExpressionIn, TakesExpression, refused_here, expression_taken}
use Rattle.mini_kept.proofs.Fixed.{of_one, of_children}
use Rattle.mini_kept.proofs.FrameLists.{same_frames}
use Rattle.mini_kept.proofs.FrameRows.{expression_slot}
use Rattle.mini_kept.proofs.InOrder.{in_order}
use Rattle.mini_kept.proofs.Quiet.{expression_is_quiet}
use Rattle.mini_rows.specs.Arranged.{KeptAt}
use Rattle.mini_rows.specs.Lists.{return_statement}
use Rattle.mini_rows.specs.Arrows.{arrow, returning, Row59, ArrowRow, ArrowContracts}
use Rattle.mini_rows.proofs.ArrangedLawful.{kept_is_lawful}
use Rattle.mini_rows.proofs.ArrowNames.{three_nils, arrow_keeps}
use Rattle.mini_rows.proofs.ArrowRuns.{arrows_same, runs_same}

-- ---- where an arrow function stands, and what its body may be

both_parts : (w p a b : Bool) → (a ≡ true → b ≡ true) → (w && (p && (a && true))) ≡ true → (w && (p && (b && true))) ≡ true
both_parts true true true b f e = ap (λ c. c && true) (f refl)
both_parts true true false b f e = absurd (true≢false (sym e))
both_parts true false a b f e = absurd (true≢false (sym e))
both_parts false p a b f e = absurd (true≢false (sym e))

last_part : (w p a : Bool) → (w && (p && (a && true))) ≡ true → a ≡ true
last_part true true a e = left a true e
last_part true false a e = absurd (true≢false (sym e))
last_part false p a e = absurd (true≢false (sym e))

arrow_nowhere : (strict : Bool) (d : Depth) → statement_slots strict d (shape.ArrowFunctionExpression []) ≡ None
arrow_nowhere true in_module = refl
arrow_nowhere true in_body = refl
arrow_nowhere true nested = refl
arrow_nowhere false in_module = refl
arrow_nowhere false in_body = refl
arrow_nowhere false nested = refl

-- the value that is returned may be the body
value_fits : (strict : Bool) (v : Tree) → is_absent v ≡ false → fits strict (one an_arrow_body) (returning v) ≡ true → fits strict expression v ≡ true
value_fits strict (node shape.Absent xs n ts) h e = absurd (true≢false h)
value_fits strict (node g xs n ts) h e = left (fits strict expression (node g xs n ts)) true (left (fits strict expression (node g xs n ts) && true) true (left ((fits strict expression (node g xs n ts) && true) && true) true e))

body_fits : (strict : Bool) (v : Tree) → is_absent v ≡ false → fits strict (one an_arrow_body) (returning v) ≡ true → fits strict (one an_arrow_body) v ≡ true
body_fits strict v h e = expression_taken strict (one an_arrow_body) v tt (value_fits strict v h e)

record InArrow (strict : Bool) (s : Slot) (takes : Type 0) (k : ℕ) (ps v : Tree) : Type 0 where
  there : takes
  value : (inside : Bool) × (fits inside expression v ≡ true)
  written : fits strict s (arrow k ps v) ≡ true

module _ (k : ℕ) (ps v : Tree) (h : is_absent v ≡ false) where
  abbrev whole : Class → Bool
  whole c = is_whole c (shape.ArrowFunctionExpression []) [] k (ps ▸ (returning v ▸ none))

  abbrev inner : Bool → Bool
  inner strict = is_strict_in strict (shape.ArrowFunctionExpression [])

  abbrev params : Bool → Bool
  params strict = fits (inner strict) (many_and_rest a_parameter a_pattern_rest) ps

  abbrev Here : Bool → Class → Tree → Type 0
  Here strict c b = (whole c && (params strict && (fits (inner strict) (one an_arrow_body) b && true))) ≡ true

  value_in : (strict : Bool) (c : Class) → Here strict c (returning v) → (inside : Bool) × (fits inside expression v ≡ true)
  value_in strict c e = (inner strict, value_fits (inner strict) v h (last_part (whole c) (params strict) (fits (inner strict) (one an_arrow_body) (returning v)) e))

  body_in : (strict : Bool) (c : Class) → Here strict c (returning v) → Here strict c v
  body_in strict c e = both_parts (whole c) (params strict) (fits (inner strict) (one an_arrow_body) (returning v)) (fits (inner strict) (one an_arrow_body) v) (body_fits (inner strict) v h) e

  arrow_in : (strict : Bool) (c : Class) → fits strict (one c) (arrow k ps (returning v)) ≡ true → InArrow strict (one c) (TakesExpressionIn c) k ps v
  arrow_in strict an_expression e = record { there = tt; value = value_in strict an_expression e; written = body_in strict an_expression e }
  arrow_in strict a_link e = record { there = tt; value = value_in strict a_link e; written = body_in strict a_link e }
  arrow_in strict an_argument e = record { there = tt; value = value_in strict an_argument e; written = body_in strict an_argument e }
  arrow_in strict an_init e = record { there = tt; value = value_in strict an_init e; written = body_in strict an_init e }
  arrow_in strict an_arrow_body e = record { there = tt; value = value_in strict an_arrow_body e; written = body_in strict an_arrow_body e }
  arrow_in strict a_default_export e = record { there = tt; value = value_in strict a_default_export e; written = body_in strict a_default_export e }
  arrow_in strict (a_key true) e = record { there = tt; value = value_in strict (a_key true) e; written = body_in strict (a_key true) e }
  arrow_in strict (a_key false) e = absurd (refused_here strict (one (a_key false)) (shape.ArrowFunctionExpression []) [] k (ps ▸ (returning v ▸ none)) refl e)
  arrow_in strict (a_statement d) e = absurd (refused_here strict (one (a_statement d)) (shape.ArrowFunctionExpression []) [] k (ps ▸ (returning v ▸ none)) (ap filling_by (arrow_nowhere strict d)) e)
  arrow_in strict (a_private_or_key true) e = absurd (refused_here strict (one (a_private_or_key true)) (shape.ArrowFunctionExpression []) [] k (ps ▸ (returning v ▸ none)) refl e)
  arrow_in strict (an_inner_key true) e = absurd (refused_here strict (one (an_inner_key true)) (shape.ArrowFunctionExpression []) [] k (ps ▸ (returning v ▸ none)) refl e)
  arrow_in strict c e = absurd (refused_here strict (one c) (shape.ArrowFunctionExpression []) [] k (ps ▸ (returning v ▸ none)) refl e)

  in_slot : (strict : Bool) (s : Slot) → fits strict s (arrow k ps (returning v)) ≡ true → InArrow strict s (TakesExpression s) k ps v
  in_slot strict (one c) e = arrow_in strict c e
  in_slot strict (one_or_absent c) e = let x = arrow_in strict c e in record { there = x.there; value = x.value; written = x.written }
  in_slot strict s e = absurd (refused_here strict s (shape.ArrowFunctionExpression []) [] k (ps ▸ (returning v ▸ none)) refl e)

-- ---- what is kept

module _ (k : ℕ) (ps v : Tree) where
  abbrev before : Tree
  before = arrow k ps (returning v)

  abbrev after : Tree
  after = arrow k ps v

  abbrev own : Around → Tree → List Body
  own a b = body_of a (shape.ArrowFunctionExpression []) k (arrow k ps b) (ps ▸ (b ▸ none))

  abbrev within : Around → Around
  within a = below a (shape.ArrowFunctionExpression []) (ps ▸ (v ▸ none)) 1

  own_kept : (a : Around) → arrow_kind (shape_of v) ≡ ArrowExpression → BodiesKept (own a (returning v)) (own a v)
  own_kept a e = (inl (record { number = refl; kind = inr (refl, e); strict = refl; asks_this = refl; same = λ f X. record { by = λ vars this answers turns i. inr (runs_same f v vars this answers turns ∙ ap (λ l. Run f l v vars this answers turns) (sym e)) } }), tt)

  arrow_bodies : (a : Around) → arrow_kind (shape_of v) ≡ ArrowExpression → BodiesKept (bodies a before) (bodies a after)
  arrow_bodies a e =
      let inside : List Body = bodies (within a) v in
      each_of (own a (returning v)) (bodies (below a (shape.ArrowFunctionExpression []) (ps ▸ (v ▸ none)) 0) ps ++ ((((inside ++ []) ++ []) ++ []) ++ [])) (own a v) (bodies (below a (shape.ArrowFunctionExpression []) (ps ▸ (v ▸ none)) 0) ps ++ (inside ++ [])) (own_kept a e)
      (subst (λ bs. BodiesKept (bodies (below a (shape.ArrowFunctionExpression []) (ps ▸ (v ▸ none)) 0) ps ++ (bs ++ [])) (bodies (below a (shape.ArrowFunctionExpression []) (ps ▸ (v ▸ none)) 0) ps ++ (inside ++ []))) (sym (three_nils inside)) (kept_itself _))

  arrow_frames : frames None before ≡ frames None after
  arrow_frames = λ i. frame_of None (shape.ArrowFunctionExpression []) k (outline (shape.ArrowFunctionExpression []) [] k (ps ▸ (v ▸ none))) (globals (shape.ArrowFunctionExpression []) (ps ▸ (v ▸ none))) ++ (frames None ps ++ (three_nils (frames None v) i ++ []))

  arrow_fixed : (x : Variable) → fixed_by before x ≡ fixed_by after x
  arrow_fixed x =
      of_children (shape.ArrowFunctionExpression []) [] k (ps ▸ (returning v ▸ none)) x refl
      ∙ ap (λ f. stricter (fixed_by ps x) (stricter f Writable)) (of_one shape.FunctionBody [] 0 (listed (return_statement v ▸ none)) x refl ∙ of_one shape.Listed [] 0 (return_statement v) x refl ∙ of_one shape.ReturnStatement [] 0 v x refl)
      ∙ sym (of_children (shape.ArrowFunctionExpression []) [] k (ps ▸ (v ▸ none)) x refl)

  arrow_declared : declared_names before ≡ declared_names after
  arrow_declared = λ i. declared_names ps ++ (three_nils (declared_names v) i ++ [])

arrow_kept : (q : Seat) (k : ℕ) (ps v : Tree) → is_absent v ≡ false → KeptAt (Expr q) (arrow k ps (returning v)) (arrow k ps v)
arrow_kept q k ps v h = record {
  keeps = λ strict s p e. let x = (in_slot k ps v h strict s e).value in in_order (Expr q) (arrow k ps (returning v)) (arrow k ps v) (arrow_keeps k ps v (expression_is_quiet x.0 v x.1) q);
  piece = refl;
  kind = λ strict s e. refl;
  bodies = λ strict s p e a st. let x = (in_slot k ps v h strict s e).value in arrow_bodies k ps v a (expression_kind x.0 v x.1);
  ports = λ strict d e m. (refl, refl);
  listed = λ p. absurd (cc p);
  exported = λ strict e. (refl, refl);
  frames = λ strict s p e. same_frames (frames None (arrow k ps (returning v))) (frames None (arrow k ps v)) (arrow_frames k ps v);
  fixed = arrow_fixed k ps v;
  declared = λ x c. subst (λ xs. Contains xs x) (sym (arrow_declared k ps v)) c;
}

-- ---- all

along : (P : Tree → Tree → Type 0) (n w : Tree) (r : Row59 n w) → P (arrow r.number r.parameters (returning r.value)) (arrow r.number r.parameters r.value) → P n w
along P n w r x = subst (λ y. P y w) (sym r.shape) (subst (P (arrow r.number r.parameters (returning r.value))) (sym r.written) x)

row_fits : (p : Position) (n w : Tree) → ArrowRow p n w → (strict : Bool) (s : Slot) → fits strict s n ≡ true → fits strict s w ≡ true
row_fits (Expr q) n w r strict s e = along (λ x y. fits strict s x ≡ true → fits strict s y ≡ true) n w r (λ f. (in_slot r.number r.parameters r.value r.there strict s f).written) e
row_fits p n w r strict s e = absurd r

row_asked : (p : Position) (n w : Tree) → ArrowRow p n w → AskedAlike p n w
row_asked (Expr q) n w r = record {
  absent = λ e. absurd (true≢false (sym e ∙ ap is_absent r.shape));
  body = λ e. absurd (true≢false (sym e ∙ ap is_function_body r.shape));
  optional = λ e. absurd (true≢false (sym e ∙ ap has_optional r.shape));
  number = λ e f. ap is_not_positive_number r.written;
  spelled = λ s e. absurd (cc (sym e ∙ ap spelling r.shape));
  plain = ap (λ x. is_default (shape_of x)) r.shape;
}
row_asked p n w r = absurd r

places : (p : Position) (n w : Tree) → ArrowRow p n w → is_rewritten_place p ≡ true
places (Expr q) n w r = refl
places p n w r = absurd r

row_slot : (p : Position) (n w : Tree) → ArrowRow p n w → (strict : Bool) (s : Slot) → fits strict s n ≡ true → is_body_slot p s ≡ true
row_slot (Expr q) n w r strict s e = expression_slot (Expr q) s (in_slot r.number r.parameters r.value r.there strict s (subst (λ x. fits strict s x ≡ true) r.shape e)).there
row_slot p n w r strict s e = absurd r

row_kept : (p : Position) (n w : Tree) → ArrowRow p n w → KeptAt p n w
row_kept (Expr q) n w r = along (KeptAt (Expr q)) n w r (arrow_kept q r.number r.parameters r.value r.there)
row_kept p n w r = absurd r

pub arrows_lawful : Lawful ArrowContracts
arrows_lawful =
    kept_is_lawful ArrowContracts arrows_same
    (record { fitting = λ p n w c strict s f e. row_fits p n w c.row strict s e; asked = λ p n w c. row_asked p n w c.row })
    (λ p n w c. places p n w c.row)
    (λ p n w c strict s f e. row_slot p n w c.row strict s e)
    (λ p n w c. row_kept p n w c.row)
