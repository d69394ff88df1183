-- What a row that turns a test writes keeps all that a program has to keep.
use Rattle.std.specs.Prelude.{◌≡◌, ◌⊎◌, refl, ◌&&◌, Bool, true, false, [], ◌++◌, Contains, None}
use Rattle.std.proofs.Common.{◌∙◌, ap, sym, subst, inl, inr, true≢false}
use Rattle.std.proofs.lemmas.List.{append-nil}
use Rattle.std.proofs.lemmas.List.Elements.{Contains-append_left, Contains-append_right, Contains-append_cases}
use Rattle.mini_model.specs.declared.name.Name.{Name}
use Rattle.mini_model.specs.declared.place.Position.{Position}
use Rattle.mini_model.specs.declared.place.Position.TheVariants.{Expr, Stmt}
use Rattle.mini_model.specs.declared.seat.Seat.{Seat}
use Rattle.mini_model.specs.declared.seat.StmtSeat.{StmtSeat}
use Rattle.mini_model.specs.declared.shape.Shape.TheVariants as shape
use Rattle.mini_model.specs.Tree.{Tree, node, none, ◌▸◌, shape_of, is_absent, children, negation, conditional, if_else}
use Rattle.mini_model.specs.Position.{if_test_seat}
use Rattle.mini_accept.specs.WellShaped.{Depth, a_statement, a_default_export, Slot, one, many, fits, is_function_body, spelling, has_optional, is_not_positive_number}
use Rattle.mini_laws.specs.Value.{Variable}
use Rattle.mini_laws.specs.Fixity.{stricter, fixed_by}
use Rattle.mini_laws.specs.Bodies.{Around, bodies, arrow_kind}
use Rattle.mini_kept.specs.AlikeBodies.{BodiesKept}
use Rattle.mini_kept.specs.Declaring.{declared as declared_names}
use Rattle.mini_kept.specs.Frames.{is_declaration, is_port, ports as ports_of, frames, FramesKept}
use Rattle.mini_kept.specs.KeepsFrames.{is_body_slot}
use Rattle.mini_kept.specs.KeepsLoosely.{KeepsLoosely}
use Rattle.mini_kept.specs.KeepsNames.{is_rewritten_place}
use Rattle.mini_kept.specs.KeepsShapes.{KeepsShapes, is_default, AskedAlike}
use Rattle.mini_kept.specs.Lawful.{Lawful}
use Rattle.mini_kept.specs.Lifted.{is_piece}
use Rattle.mini_kept.specs.Placed.{fits_place, is_statement_list}
use Rattle.mini_kept.specs.Standing.{Stands}
use Rattle.mini_kept.proofs.Bools.{both}
use Rattle.mini_kept.proofs.BodyRows.{turned_bodies}
use Rattle.mini_kept.proofs.Expressions.{expression, expression_taken, of_negation, of_conditional, three_fit}
use Rattle.mini_kept.proofs.Fixed.{of_if, swapped}
use Rattle.mini_kept.proofs.Fixed as fixities
use Rattle.mini_kept.proofs.FrameSteps.{kept_are_shown}
use Rattle.mini_kept.proofs.FrameRows.{expression_slot}
use Rattle.mini_kept.proofs.FrameRows as framed
use Rattle.mini_kept.proofs.Lawful.{lawful_narrowed}
use Rattle.mini_kept.proofs.Rows.{statement, last_statement}
use Rattle.mini_kept.proofs.Rows as rows
use Rattle.mini_kept.proofs.Swapping.{branches_swapped, negation_left}
use Rattle.mini_rows.specs.Arranged.{KeptAt}
use Rattle.mini_rows.specs.Branches.{is_other_branch}
use Rattle.mini_rows.specs.Sketches.{Conditional, Binary, part, under, end, ◌▹◌}
use Rattle.mini_rows.specs.Spellings.{binary}
use Rattle.mini_rows.specs.Turns.{unequal, equal, is_unchained, Row40Unequal, Row83Swapped, TurnRow, TurnContracts}
use Rattle.mini_rows.proofs.ArrangedExpressions.{expressions_arranged}
use Rattle.mini_rows.proofs.BranchAround.{Among}
use Rattle.mini_rows.proofs.BranchLawful.{taken, fits_there, body_slot, plain_asked, last_fit, one_fit, other_there, parts}
use Rattle.mini_rows.proofs.TurnMeaning.{turn_rows_same}

-- ---- 40: a conditional that is built anew of the same parts

unequal_kept : (q : Seat) (n w : Tree) → Row40Unequal n w → KeptAt (Expr q) n w
unequal_kept q n w r =
    expressions_arranged (record { trees = r.a ▸ (r.b ▸ (r.c ▸ (r.d ▸ none))); lists = [] })
    (under Conditional (under (Binary (unequal r.is_strict)) (part 0 ▹ part 1 ▹ end) ▹ part 2 ▹ part 3 ▹ end))
    (under Conditional (under (Binary (equal r.is_strict)) (part 0 ▹ part 1 ▹ end) ▹ part 3 ▹ part 2 ▹ end)) refl q n w r.shape r.written

unequal_fits : (strict : Bool) (s : Slot) (n w : Tree) → Row40Unequal n w → fits strict s n ≡ true → fits strict s w ≡ true
unequal_fits strict s n w r e =
    let (takes, (first, second, third)) = of_conditional strict s (binary (unequal r.is_strict) r.a r.b) r.c r.d (subst (λ x. fits strict s x ≡ true) r.shape e) in
    let test : fits strict expression (binary (equal r.is_strict) r.a r.b) ≡ true = first in
    subst (λ x. fits strict s x ≡ true) (sym r.written) (expression_taken strict s (conditional (binary (equal r.is_strict) r.a r.b) r.d r.c) takes (three_fit strict (binary (equal r.is_strict) r.a r.b) r.d r.c test third second))

unequal_asked : (q : Seat) (n w : Tree) → Row40Unequal n w → AskedAlike (Expr q) n w
unequal_asked q n w r = record {
  absent = λ e. absurd (true≢false (sym e ∙ ap is_absent r.shape));
  body = λ e. absurd (true≢false (sym e ∙ ap is_function_body r.shape));
  optional = λ e. absurd (true≢false (sym e ∙ ap has_optional r.shape));
  number = λ e k. ap is_not_positive_number r.written;
  spelled = λ s e. absurd (cc (sym e ∙ ap spelling r.shape));
  plain = ap (λ x. is_default (shape_of x)) r.shape;
}

unequal_slot : (q : Seat) (n w : Tree) → Row40Unequal n w → (strict : Bool) (s : Slot) → fits strict s n ≡ true → is_body_slot (Expr q) s ≡ true
unequal_slot q n w r strict s e = expression_slot (Expr q) s (of_conditional strict s (binary (unequal r.is_strict) r.a r.b) r.c r.d (subst (λ x. fits strict s x ≡ true) r.shape e)).0

-- ---- 83: an `if` whose branches are swapped

unchained_there : (u : Tree) → is_unchained u ≡ true → is_absent u ≡ false
unchained_there (node shape.Absent xs n ts) h = absurd (true≢false (sym h))
unchained_there (node g xs n ts) h = refl

module _ (a s u : Tree) where
  abbrev before : Tree
  before = if_else (negation a) s u

  abbrev after : Tree
  after = if_else a u s

  branches_fit : (strict : Bool) → is_other_branch s ≡ true → is_unchained u ≡ true → fits strict statement before ≡ true → fits strict statement after ≡ true
  branches_fit strict h k e =
      let (test, first, last) = parts strict (negation a) s u e in
      both (fits strict expression a) (fits strict statement u && (fits strict last_statement s && true)) (of_negation strict expression a test).1
      (both (fits strict statement u) (fits strict last_statement s && true) (one_fit strict u (unchained_there u k) last) (both (fits strict last_statement s) true (last_fit strict s (other_there s h) first) refl))

  branches_kept : (q : StmtSeat) (strict : Bool) (l : Slot) → fits strict l before ≡ true → KeepsLoosely (Stmt q) before after
  branches_kept q strict l e =
      let (takes, (test, first, last)) = rows.of_if strict l (negation a) s u e in
      let operand = (of_negation strict expression a test).1 in
      branches_swapped q strict (negation a) a s u test operand (negation_left if_test_seat strict a operand)

  branches_fixed : (x : Variable) → fixed_by before x ≡ fixed_by after x
  branches_fixed x =
      of_if (negation a) s u x
      ∙ (λ i. stricter (fixities.of_negation a x i) (swapped (fixed_by s x) (fixed_by u x) i))
      ∙ sym (of_if a u s x)

  branches_declared : Among (declared_names before) (declared_names after)
  branches_declared z c = by (Contains-append_cases (declared_names a) (declared_names u ++ (declared_names s ++ [])) z c)
    where
      by_last : Contains (declared_names s) z → Contains (declared_names before) z
      by_last d = Contains-append_right (declared_names a ++ []) (declared_names s ++ (declared_names u ++ [])) z (Contains-append_left (declared_names s) (declared_names u ++ []) z d)

      by_rest : Contains (declared_names u) z ⊎ Contains (declared_names s ++ []) z → Contains (declared_names before) z
      by_rest (inl d) = Contains-append_right (declared_names a ++ []) (declared_names s ++ (declared_names u ++ [])) z (Contains-append_right (declared_names s) (declared_names u ++ []) z (Contains-append_left (declared_names u) [] z d))
      by_rest (inr d) = by_last (subst (λ xs. Contains xs z) (append-nil (declared_names s)) d)

      by : Contains (declared_names a) z ⊎ Contains (declared_names u ++ (declared_names s ++ [])) z → Contains (declared_names before) z
      by (inl d) = Contains-append_left (declared_names a ++ []) (declared_names s ++ (declared_names u ++ [])) z (Contains-append_left (declared_names a) [] z d)
      by (inr d) = by_rest (Contains-append_cases (declared_names u) (declared_names s ++ []) z d)

swap_along : (P : Tree → Tree → Type 0) (n w : Tree) (r : Row83Swapped n w) → P (if_else (negation r.a) r.s r.u) (if_else r.a r.u r.s) → P n w
swap_along P n w r x = subst (λ y. P y w) (sym r.shape) (subst (P (if_else (negation r.a) r.s r.u)) (sym r.written) x)

-- ---- all

row_shapes : KeepsShapes TurnRow
row_shapes = record { fitting = λ p n w r strict s f e. fit p n w r strict s e; asked = asked }
  where
    fit : (p : Position) (n w : Tree) → TurnRow p n w → (strict : Bool) (s : Slot) → fits strict s n ≡ true → fits strict s w ≡ true
    fit (Expr q) n w r strict s e = unequal_fits strict s n w r e
    fit (Stmt q) n w r strict s e =
        swap_along (λ x y. fits strict s x ≡ true → fits strict s y ≡ true) n w r (fits_there strict s (if_else (negation r.a) r.s r.u) (if_else r.a r.u r.s) refl refl refl (branches_fit r.a r.s r.u strict r.other r.unchained)) e
    fit p n w r strict s e = absurd r

    asked : (p : Position) (n w : Tree) → TurnRow p n w → AskedAlike p n w
    asked (Expr q) n w r = unequal_asked q n w r
    asked (Stmt q) n w r = swap_along (AskedAlike (Stmt q)) n w r (plain_asked (Stmt q) (if_else (negation r.a) r.s r.u) (if_else r.a r.u r.s) refl refl)
    asked p n w r = absurd r

places : (p : Position) (n w : Tree) → TurnRow p n w → is_rewritten_place p ≡ true
places (Expr q) n w r = refl
places (Stmt q) n w r = refl
places p n w r = absurd r

pieces : (p : Position) (n w : Tree) → TurnRow p n w → is_piece (shape_of n) ≡ false
pieces (Expr q) n w r = (unequal_kept q n w r).piece
pieces (Stmt q) n w r = ap (λ x. is_piece (shape_of x)) r.shape
pieces p n w r = absurd r

kinds : (p : Position) (n w : Tree) → TurnRow p n w → (strict : Bool) (s : Slot) → fits strict s n ≡ true → arrow_kind (shape_of n) ≡ arrow_kind (shape_of w)
kinds (Expr q) n w r = (unequal_kept q n w r).kind
kinds (Stmt q) n w r = λ strict s e. ap (λ x. arrow_kind (shape_of x)) r.shape ∙ sym (ap (λ x. arrow_kind (shape_of x)) r.written)
kinds p n w r = absurd r

row_bodies : (p : Position) (n w : Tree) → TurnRow p n w → (strict : Bool) (s : Slot) → fits_place p s ≡ true → fits strict s n ≡ true → (a : Around) → Stands s p a → BodiesKept (bodies a n) (bodies a w)
row_bodies (Expr q) n w r = (unequal_kept q n w r).bodies
row_bodies (Stmt q) n w r = λ strict s f e a st. swap_along (λ x y. BodiesKept (bodies a x) (bodies a y)) n w r (turned_bodies a r.a r.s r.u)
row_bodies p n w r = absurd r

row_keeps : (p : Position) (n w : Tree) → TurnRow p n w → (strict : Bool) (s : Slot) → fits_place p s ≡ true → fits strict s n ≡ true → KeepsLoosely p n w
row_keeps (Expr q) n w r = (unequal_kept q n w r).keeps
row_keeps (Stmt q) n w r = λ strict s f e. swap_along (λ x y. fits strict s x ≡ true → KeepsLoosely (Stmt q) x y) n w r (branches_kept r.a r.s r.u q strict s) e
row_keeps p n w r = absurd r

slots : (p : Position) (n w : Tree) → TurnRow p n w → (strict : Bool) (s : Slot) → fits strict s n ≡ true → is_body_slot p s ≡ true
slots (Expr q) n w r = unequal_slot q n w r
slots (Stmt q) n w r = λ strict s e. body_slot (Stmt q) s (taken strict s (if_else (negation r.a) r.s r.u) refl (subst (λ x. fits strict s x ≡ true) r.shape e))
slots p n w r = absurd r

ports : (p : Position) (n w : Tree) → TurnRow p n w → (strict : Bool) (d : Depth) → fits strict (one (a_statement d)) n ≡ true → (is_module : Bool) → (is_port is_module (shape_of n) ≡ false) × (is_port is_module (shape_of w) ≡ false)
ports (Expr q) n w r = (unequal_kept q n w r).ports
ports (Stmt q) n w r = λ strict d e m. (ap (λ x. is_port m (shape_of x)) r.shape, ap (λ x. is_port m (shape_of x)) r.written)
ports p n w r = absurd r

exported : (p : Position) (n w : Tree) → TurnRow p n w → (strict : Bool) → fits strict (one a_default_export) n ≡ true → (is_declaration (shape_of n) ≡ false) × (is_declaration (shape_of w) ≡ false)
exported (Expr q) n w r = (unequal_kept q n w r).exported
exported (Stmt q) n w r = λ strict e. (ap (λ x. is_declaration (shape_of x)) r.shape, ap (λ x. is_declaration (shape_of x)) r.written)
exported p n w r = absurd r

row_frames : (p : Position) (n w : Tree) → TurnRow p n w → (strict : Bool) (s : Slot) → fits_place p s ≡ true → fits strict s n ≡ true → FramesKept (frames None n) (frames None w)
row_frames (Expr q) n w r = (unequal_kept q n w r).frames
row_frames (Stmt q) n w r = λ strict s f e. swap_along (λ x y. FramesKept (frames None x) (frames None y)) n w r (framed.turned r.a r.s r.u)
row_frames p n w r = absurd r

row_fixed : (p : Position) (n w : Tree) → TurnRow p n w → (x : Variable) → fixed_by n x ≡ fixed_by w x
row_fixed (Expr q) n w r = (unequal_kept q n w r).fixed
row_fixed (Stmt q) n w r = λ x. swap_along (λ y z. fixed_by y x ≡ fixed_by z x) n w r (branches_fixed r.a r.s r.u x)
row_fixed p n w r = absurd r

row_declared : (p : Position) (n w : Tree) → TurnRow p n w → (x : Name) → Contains (declared_names w) x → Contains (declared_names n) x
row_declared (Expr q) n w r = (unequal_kept q n w r).declared
row_declared (Stmt q) n w r = swap_along (λ x y. Among (declared_names x) (declared_names y)) n w r (branches_declared r.a r.s r.u)
row_declared p n w r = absurd r

listed_rows : (p : Position) (n w : Tree) → is_statement_list p ≡ true → TurnRow p n w → (strict : Bool) (d : Depth) → fits strict (many (a_statement d)) n ≡ true → (is_module : Bool) → ports_of is_module (children n) ≡ ports_of is_module (children w)
listed_rows (Expr q) n w e r = absurd (cc e)
listed_rows (Stmt q) n w e r = absurd (cc e)
listed_rows p n w e r = absurd r

rows_lawful : Lawful TurnRow
rows_lawful = record {
  shapes = row_shapes;
  bodies = record { means = turn_rows_same; pieces = pieces; kind = kinds; bodies = row_bodies };
  frames = record {
    names = record { places = λ p n w r. inl (places p n w r); pieces = pieces; keeps = row_keeps };
    slots = λ p n w r strict s f e. inl (slots p n w r strict s e);
    ports = ports;
    listed = listed_rows;
    exported = exported;
    frames = λ p n w r strict s f e. kept_are_shown n w (row_frames p n w r strict s f e);
  };
  fixed = row_fixed;
  declared = row_declared;
}

pub turns_lawful : Lawful TurnContracts
turns_lawful = lawful_narrowed TurnContracts TurnRow (λ p n w c. c.row) rows_lawful
