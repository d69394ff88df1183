-- What a row of choices writes keeps all that a program has to keep: it is built anew of the same parts.
use Rattle.std.proofs.Common.{◌≡◌, ◌≤◌, ℕ, Bool, true, false, Option, Some, None, List, [], ◌∷◌, refl, sym, ap, subst, ◌∙◌, inl, inr}
use Rattle.std.specs.Prelude.{◌++◌, not, codes}
use Rattle.mini_model.specs.declared.name.Name.{Name}
use Rattle.mini_model.specs.declared.operator.AssignmentOperator.{AssignmentOperator}
use Rattle.mini_model.specs.declared.operator.AssignmentOperator.TheVariants.{Assign}
use Rattle.mini_model.specs.declared.operator.BinaryOperator.{BinaryOperator}
use Rattle.mini_model.specs.declared.operator.BinaryOperator.TheVariants as binary_operator
use Rattle.mini_model.specs.declared.operator.LogicalOperator.{LogicalOperator}
use Rattle.mini_model.specs.declared.operator.LogicalOperator.TheVariants.{Or, And, Coalesce}
use Rattle.mini_model.specs.declared.operator.UnaryOperator.TheVariants.{LogicalNot}
use Rattle.mini_model.specs.declared.place.Position.{Position}
use Rattle.mini_model.specs.declared.place.Position.TheVariants.{Expr}
use Rattle.mini_model.specs.declared.seat.Seat.{Seat}
use Rattle.mini_model.specs.declared.shape.Shape.TheVariants as shape
use Rattle.mini_model.specs.Tree.{Tree, Trees, none, ◌▸◌, identifier, unresolved, logical, conditional, null_literal}
use Rattle.mini_laws.specs.declared.names.Use.{Use}
use Rattle.mini_laws.specs.declared.names.Use.TheVariants.{Write, ReadWrite}
use Rattle.mini_laws.specs.declared.names.Declared.TheVariants as declared
use Rattle.mini_laws.specs.DeclaredNames.{names_of, body_names, has_inner}
use Rattle.mini_laws.specs.Scopes as scopes
use Rattle.mini_laws.specs.Scopes.{opened, use_of}
use Rattle.mini_laws.specs.Resolved.{Environment, symbol_of, or_else, own_symbol}
use Rattle.mini_laws.specs.Scoped.{Scoped}
use Rattle.mini_laws.specs.Symbols.{declared as declared_in, declared_from, times}
use Rattle.mini_laws.specs.Early.{body_declarations, scope_declarations, early_names, early_jumps, targets_of}
use Rattle.mini_kept.specs.Carried.{numbers}
use Rattle.mini_kept.specs.KeepsLoosely.{KeepsLoosely}
use Rattle.mini_kept.specs.KeepsNames.{is_rewritten_place}
use Rattle.mini_kept.specs.SameNames.{SameNames, SameScope, NoMoreClash}
use Rattle.mini_kept.specs.KeepsShapes.{KeepsShapes}
use Rattle.mini_kept.proofs.Quiet.{no_names, no_body_names, no_body_declarations, no_loop}
use Rattle.mini_rows.specs.Arranged.{KeptAt, KeptLoosely, Vanishes}
use Rattle.mini_rows.specs.Sketches.{Unary, Binary, Logical, Conditional, Assignment, Parts, Sketch, part, under, end, ◌▹◌, Free, Null, Sequence, list, no_items, item, items, still, Sketches}
use Rattle.mini_model.specs.Paths.{append}
use Rattle.mini_rows.specs.Lists.{sequence}
use Rattle.mini_rows.specs.Spellings.{IsUndefined, void_zero, assignment}
use Rattle.mini_rows.specs.Choices.{assign, deciding, strictly, loosely, joining, AreNullish, Row37, Row37After, asks_object, null_compared, held, ended, Row57, Row57Null, Key, Named, Spelled, Numbered, member_on, member_of, Row39, Row38, Row35, Row35Member, Row38Last, ChoiceRow, ChoiceContracts, ChoicesLawful, ChoicesLoose, Row46Equal, Row46Unequal, Row41Or, Row41And, Row42And, Row42Or, Row43Or, Row43And, Row43AndThen, Row43OrThen, Row49, Row13Both, LighterRow, OwnRow, HeldRow, ChosenRow, ChosenMemberRow, Shorter, TestedBranch, SharedBranch, OptionalChain, JoinedCall, ChainLink, ChainEnd, BothSides, ChosenIndexed, ZeroFirst, Rotated, Decided, Combined, NullishIfEqual, NullishIfUnequal, Chosen, LooseNull, LooseNullAfter, ObjectTest, ObjectTestAfter, CombinedMember, ChosenMember, DecidedLast, OrTest, AndTest, AndBoth, OrEither, LastAfterOr, LastAfterAnd, AndThenOr, OrThenAnd, Alike}
use Rattle.mini_rows.proofs.ChainLinkLawful.{chains_kept}
use Rattle.mini_rows.proofs.ChainEndKept.{end_kept}
use Rattle.mini_rows.proofs.ArrangedExpressions.{expressions_arranged, expressions_arranged_freely, CodeKept, code_arranged}
use Rattle.mini_rows.proofs.ArrangedLawful.{kept_loosely, fixed_is_lawful, kept_is_loose}
use Rattle.mini_rows.proofs.ChainLawful.{chain_row_kept}
use Rattle.mini_rows.proofs.FirstParts.{zero_row_kept}
use Rattle.mini_rows.proofs.ChoiceCalls.{calls_kept}
use Rattle.mini_rows.proofs.ChoiceIndexed.{indexed_kept}
use Rattle.mini_rows.proofs.ChoiceSpines.{Stand, behind, themselves, filled_spine, spine, apart, first_two, spines_rearranged}
use Rattle.mini_rows.proofs.ChoiceMeaning.{choices_same}
use Rattle.mini_rows.proofs.ChoiceShapes.{row_fits, row_asked, row_slot}

-- ---- a name that is assigned to may be read besides

symbol_either : (s : List ℕ) (env : Environment) → symbol_of Write s env ≡ symbol_of ReadWrite s env
symbol_either s [] = refl
symbol_either s (d ∷ env) = ap (λ y. or_else y (own_symbol Write s d)) (symbol_either s env)

name_scoped : (x : Name) (env : Environment) → Scoped Write env (identifier x) → Scoped ReadWrite env (identifier x)
unfolding Scoped
name_scoped x env a = ((a.0.0 ∙ symbol_either x.spelling env, tt), tt)

-- what is assigned to, and may be read besides: it declares the same, and its names have their symbols
pub record Reads (t : Tree) : Type 0 where
  pub declares : declared_in ReadWrite t ≡ declared_in Write t
  pub scoped : (env : Environment) → Scoped Write env t → Scoped ReadWrite env t

name_reads : (x : Name) → Reads (identifier x)
unfolding declared_in
name_reads x = record { declares = refl; scoped = name_scoped x }

pub member_reads : (t : Tree) (k : Key) → Reads (member_on t k)
unfolding declared_in Scoped
member_reads t (Named s) = record { declares = refl; scoped = λ env a. a }
member_reads t (Spelled s) = record { declares = refl; scoped = λ env a. a }
member_reads t (Numbered n) = record { declares = refl; scoped = λ env a. a }

retarget_scoped : (c : AssignmentOperator) (t b : Tree) → Reads t → (v : Use) (env : Environment) → Scoped v env (assignment Assign t b) → Scoped v env (assignment c t b)
unfolding Scoped
retarget_scoped Assign t b d v env a = a
retarget_scoped c t b d v env a = (a.0, (d.scoped (env ++ opened v (shape.AssignmentExpression Assign) (t ▸ b ▸ none) 0) a.1.0, a.1.1))

same_symbols : (c : AssignmentOperator) (t b : Tree) → Reads t → (v : Use) → declared_in v (assignment c t b) ≡ declared_in v (assignment Assign t b)
unfolding declared_in scopes.scopes_by
same_symbols Assign t b d v = refl
same_symbols c t b d v = λ i. d.declares i ++ declared_from (λ j. []) (use_of (shape.AssignmentExpression Assign) v) 1 (b ▸ none)

retarget_keeps : (c : AssignmentOperator) (t b : Tree) → Reads t → (q : Seat) (n : Tree) → KeepsLoosely (Expr q) n (assignment Assign t b) → KeepsLoosely (Expr q) n (assignment c t b)
unfolding has_inner numbers early_names scope_declarations early_jumps targets_of
retarget_keeps c t b d q n m =
    let w = assignment c t b in
    let w' = assignment Assign t b in
    record {
      bound = no_names declared.Bound w refl ∙ sym (no_names declared.Bound w' refl) ∙ m.bound;
      lexical = no_names declared.Lexical w refl ∙ sym (no_names declared.Lexical w' refl) ∙ m.lexical;
      hoisted = subst (λ xs. SameNames xs (names_of declared.Hoisted n)) (no_names declared.Hoisted w' refl ∙ sym (no_names declared.Hoisted w refl)) m.hoisted;
      body = λ v env k y. subst (λ xs. SameScope xs (body_names n)) (no_body_names w' refl ∙ sym (no_body_names w refl)) (m.body v env k y);
      inner = m.inner;
      symbols = λ v env k y z. subst (λ ss. times z ss ≤ times z (declared_in v n)) (sym (same_symbols c t b d v)) (m.symbols v env k y z);
      scoped = λ v env k y. retarget_scoped c t b d v env (m.scoped v env k y);
      numbers = m.numbers;
      declared_as_body = λ l p. subst (λ ds. NoMoreClash ds (body_declarations l p n)) (no_body_declarations l p w' refl ∙ sym (no_body_declarations l p w refl)) (m.declared_as_body l p);
      once = m.once;
      targets = m.targets;
      loop = no_loop w refl ∙ sym (no_loop w' refl) ∙ m.loop;
      root = λ k. absurd (cc k);
      block = λ k l p. absurd (cc k);
    }

pub retargeted_tree : (c : AssignmentOperator) (t b : Tree) → Reads t → (q : Seat) (n : Tree) → KeptAt (Expr q) n (assignment Assign t b) → KeptAt (Expr q) n (assignment c t b)
retargeted_tree c t b d q n k = record {
  keeps = λ strict s o e. retarget_keeps c t b d q n (k.keeps strict s o e);
  piece = k.piece;
  kind = k.kind;
  bodies = k.bodies;
  ports = k.ports;
  listed = k.listed;
  exported = k.exported;
  frames = k.frames;
  fixed = k.fixed;
  declared = k.declared;
}

pub retargeted : (c : AssignmentOperator) (x : Name) (b : Tree) (q : Seat) (n : Tree) → KeptAt (Expr q) n (assign x b) → KeptAt (Expr q) n (assignment c (identifier x) b)
retargeted c x b = retargeted_tree c (identifier x) b (name_reads x)

-- a name that is read leaves nothing behind
pub name_vanishes : (x : Name) → Vanishes (identifier x)
unfolding has_inner
name_vanishes x = record { inner = refl; fixed = λ y. refl }

pub member_vanishes : (x : Name) (k : Key) → Vanishes (member_of x k)
unfolding has_inner
member_vanishes x (Named s) = record { inner = refl; fixed = λ y. refl }
member_vanishes x (Spelled s) = record { inner = refl; fixed = λ y. refl }
member_vanishes x (Numbered n) = record { inner = refl; fixed = λ y. refl }

abbrev pub first_dropped : Free
first_dropped = record { moved = []; lists_moved = []; dropped = 0 ∷ [] }

-- an assignment to the part 0 of this
abbrev pub assigns_part : AssignmentOperator → Sketch → Sketch
assigns_part o s = under (Assignment o) (part 0 ▹ s ▹ end)

abbrev pub assigns_first : Sketch → Sketch
assigns_first s = assigns_part Assign s

-- ---- rows

rotated_kept : (q : Seat) (n w : Tree) → Row39 n w → KeptAt (Expr q) n w
rotated_kept q n w r =
    let operands : Trees = r.last ▸ r.others in
    let ps : Parts = record { trees = r.a ▸ r.b ▸ operands; lists = [] } in
    let stand : Stand ps.trees 2 operands = behind r.a (r.b ▸ operands) 1 operands (behind r.b operands 0 operands (themselves operands)) in
    expressions_arranged ps (apart r.operator operands) (spine r.operator 2 operands (first_two r.operator)) (spines_rearranged r.operator r.last r.others) q n w
    (r.shape ∙ sym (ap (logical r.operator r.a) (filled_spine ps r.operator 2 operands (part 1) stand)))
    (r.written ∙ sym (filled_spine ps r.operator 2 operands (first_two r.operator) stand))

deciding_kept : (q : Seat) (n w : Tree) → Row38 n w → KeptAt (Expr q) n w
deciding_kept q n w r =
    subst (KeptAt (Expr q) n) (sym r.written)
    (retargeted (deciding r.operator) r.name r.b q n (expressions_arranged_freely first_dropped (record { trees = identifier r.name ▸ r.b ▸ none; lists = [] }) (tt, tt, (name_vanishes r.name, tt)) (under (Logical r.operator) (part 0 ▹ assigns_first (part 1) ▹ end)) (assigns_first (part 1)) refl q n (assign r.name r.b) r.shape refl))

last_kept : (q : Seat) (n w : Tree) → Row38Last q n w → KeptAt (Expr q) n w
last_kept q n w r =
    let in_order : Sketch → Sketch = λ last. under Sequence (list (item (part 1) (items 0 (item last no_items))) ▹ end) in
    subst (KeptAt (Expr q) n) (sym r.written)
    (retargeted (deciding r.operator) r.name (sequence (r.first ▸ append r.others (r.b ▸ none))) q n (expressions_arranged_freely first_dropped (record { trees = identifier r.name ▸ r.first ▸ r.b ▸ none; lists = r.others ∷ [] }) (tt, tt, (name_vanishes r.name, tt)) (under (Logical r.operator) (part 0 ▹ in_order (assigns_first (part 2)) ▹ end)) (assigns_first (in_order (part 2))) refl q n (assign r.name (sequence (r.first ▸ append r.others (r.b ▸ none)))) r.shape refl))

computing_kept : (q : Seat) (n w : Tree) → Row35 n w → KeptAt (Expr q) n w
computing_kept q n w r =
    subst (KeptAt (Expr q) n) (sym r.written)
    (retargeted r.combined r.name r.b q n (expressions_arranged_freely first_dropped (record { trees = identifier r.name ▸ r.b ▸ none; lists = [] }) (tt, tt, (name_vanishes r.name, tt)) (assigns_first (under (Binary r.operator) (part 0 ▹ part 1 ▹ end))) (assigns_first (part 1)) refl q n (assign r.name r.b) r.shape refl))

computing_member_kept : (q : Seat) (n w : Tree) → Row35Member n w → KeptAt (Expr q) n w
computing_member_kept q n w r =
    let member : Tree = member_of r.name r.key in
    subst (KeptAt (Expr q) n) (sym r.written)
    (retargeted_tree r.combined member r.b (member_reads (identifier r.name) r.key) q n (expressions_arranged_freely first_dropped (record { trees = member ▸ r.b ▸ none; lists = [] }) (tt, tt, (member_vanishes r.name r.key, tt)) (assigns_first (under (Binary r.operator) (part 0 ▹ part 1 ▹ end))) (assigns_first (part 1)) refl q n (assignment Assign member r.b) r.shape refl))

abbrev chosen_parts : {asked : Bool} {q : Seat} {n w : Tree} → ChosenRow asked q n w → Parts
chosen_parts r = record { trees = identifier r.name ▸ r.a ▸ r.b ▸ r.c ▸ none; lists = [] }

-- `a ? .. : ..`, and the choice that is assigned
abbrev assigns_each : AssignmentOperator → Sketches
assigns_each o = part 1 ▹ assigns_part o (part 2) ▹ assigns_part o (part 3) ▹ end

abbrev assigns_choice : Sketches
assigns_choice = part 0 ▹ under Conditional (part 1 ▹ part 2 ▹ part 3 ▹ end) ▹ end

pub chosen_code : (asked : Bool) (q : Seat) (n w : Tree) → ChosenRow asked q n w → CodeKept n w
chosen_code asked q n w r = by r.operator r.shape r.written
  where
    by : (o : AssignmentOperator) → n ≡ conditional r.a (assignment o (identifier r.name) r.b) (assignment o (identifier r.name) r.c) → w ≡ assignment o (identifier r.name) (conditional r.a r.b r.c) → CodeKept n w
    by Assign f g = code_arranged still (chosen_parts r) (tt, tt) Conditional (Assignment Assign) (assigns_each Assign) assigns_choice refl n w f g
    by o f g = code_arranged still (chosen_parts r) (tt, tt) Conditional (Assignment o) (assigns_each o) assigns_choice refl n w f g

pub chosen_kept : (asked : Bool) (q : Seat) (n w : Tree) → ChosenRow asked q n w → KeptAt (Expr q) n w
chosen_kept asked q n w r = by r.operator r.shape r.written
  where
    by : (o : AssignmentOperator) → n ≡ conditional r.a (assignment o (identifier r.name) r.b) (assignment o (identifier r.name) r.c) → w ≡ assignment o (identifier r.name) (conditional r.a r.b r.c) → KeptAt (Expr q) n w
    by Assign f g = expressions_arranged (chosen_parts r) (under Conditional (assigns_each Assign)) (under (Assignment Assign) assigns_choice) refl q n w f g
    by o f g = expressions_arranged (chosen_parts r) (under Conditional (assigns_each o)) (under (Assignment o) assigns_choice) refl q n w f g

abbrev chosen_member_parts : {asked : Bool} {q : Seat} {n w : Tree} → ChosenMemberRow asked q n w → Parts
chosen_member_parts r = record { trees = member_of r.name r.key ▸ r.a ▸ r.b ▸ r.c ▸ none; lists = [] }

pub chosen_member_code : (asked : Bool) (q : Seat) (n w : Tree) → ChosenMemberRow asked q n w → CodeKept n w
chosen_member_code asked q n w r =
    code_arranged first_dropped (chosen_member_parts r) (tt, tt) Conditional (Assignment Assign) (assigns_each Assign) assigns_choice refl n w r.shape r.written

pub chosen_member_kept : (asked : Bool) (q : Seat) (n w : Tree) → ChosenMemberRow asked q n w → KeptAt (Expr q) n w
chosen_member_kept asked q n w r =
    expressions_arranged_freely first_dropped (chosen_member_parts r) (tt, tt, (member_vanishes r.name r.key, tt)) (under Conditional (assigns_each Assign)) (under (Assignment Assign) assigns_choice) refl q n w r.shape r.written

-- sketches of a conditional, of a logical expression, and of two parts in order
abbrev choice : Sketch → Sketch → Sketch → Sketch
choice a b c = under Conditional (a ▹ b ▹ c ▹ end)

abbrev operands : LogicalOperator → Sketch → Sketch → Sketch
operands o a b = under (Logical o) (a ▹ b ▹ end)

abbrev in_order : Sketch → Sketch → Sketch
in_order a b = under Sequence (list (item a (item b no_items)) ▹ end)

abbrev beside_null : BinaryOperator → Sketch
beside_null o = under (Binary o) (part 0 ▹ under Null end ▹ end)

equal_kept : (q : Seat) (n w : Tree) → Row46Equal n w → KeptAt (Expr q) n w
equal_kept q n w r = expressions_arranged (record { trees = identifier r.name ▸ r.b ▸ none; lists = [] }) (choice (beside_null binary_operator.Equality) (part 1) (part 0)) (operands Coalesce (part 0) (part 1)) refl q n w r.shape r.written

unequal_kept : (q : Seat) (n w : Tree) → Row46Unequal n w → KeptAt (Expr q) n w
unequal_kept q n w r = expressions_arranged (record { trees = identifier r.name ▸ r.b ▸ none; lists = [] }) (choice (beside_null binary_operator.Inequality) (part 0) (part 1)) (operands Coalesce (part 0) (part 1)) refl q n w r.shape r.written

own_or_kept : (q : Seat) (n w : Tree) → Row41Or n w → KeptAt (Expr q) n w
own_or_kept q n w r = expressions_arranged (record { trees = identifier r.name ▸ r.b ▸ none; lists = [] }) (choice (part 0) (part 0) (part 1)) (operands Or (part 0) (part 1)) refl q n w r.shape r.written

own_and_kept : (q : Seat) (n w : Tree) → Row41And n w → KeptAt (Expr q) n w
own_and_kept q n w r = expressions_arranged (record { trees = identifier r.name ▸ r.b ▸ none; lists = [] }) (choice (part 0) (part 1) (part 0)) (operands And (part 0) (part 1)) refl q n w r.shape r.written

choice_and_kept : (q : Seat) (n w : Tree) → Row42And n w → KeptAt (Expr q) n w
choice_and_kept q n w r = expressions_arranged (record { trees = r.a ▸ r.b ▸ r.c ▸ r.d ▸ none; lists = [] }) (choice (part 0) (choice (part 1) (part 2) (part 3)) (part 3)) (choice (operands And (part 0) (part 1)) (part 2) (part 3)) refl q n w r.shape r.written

choice_or_kept : (q : Seat) (n w : Tree) → Row42Or n w → KeptAt (Expr q) n w
choice_or_kept q n w r = expressions_arranged (record { trees = r.a ▸ r.b ▸ r.c ▸ r.d ▸ none; lists = [] }) (choice (part 0) (part 2) (choice (part 1) (part 2) (part 3))) (choice (operands Or (part 0) (part 1)) (part 2) (part 3)) refl q n w r.shape r.written

or_kept : (q : Seat) (n w : Tree) → Row43Or n w → KeptAt (Expr q) n w
or_kept q n w r = expressions_arranged (record { trees = r.a ▸ r.b ▸ r.c ▸ none; lists = [] }) (choice (part 0) (operands Or (part 1) (part 2)) (part 2)) (operands Or (operands And (part 0) (part 1)) (part 2)) refl q n w r.shape r.written

and_kept : (q : Seat) (n w : Tree) → Row43And n w → KeptAt (Expr q) n w
and_kept q n w r = expressions_arranged (record { trees = r.a ▸ r.b ▸ r.c ▸ none; lists = [] }) (choice (part 0) (part 2) (operands And (part 1) (part 2))) (operands And (operands Or (part 0) (part 1)) (part 2)) refl q n w r.shape r.written

and_then_kept : (q : Seat) (n w : Tree) → Row43AndThen n w → KeptAt (Expr q) n w
and_then_kept q n w r = expressions_arranged (record { trees = r.a ▸ r.b ▸ r.c ▸ none; lists = [] }) (choice (part 0) (in_order (part 1) (part 2)) (part 2)) (in_order (operands And (part 0) (part 1)) (part 2)) refl q n w r.shape r.written

or_then_kept : (q : Seat) (n w : Tree) → Row43OrThen n w → KeptAt (Expr q) n w
or_then_kept q n w r = expressions_arranged (record { trees = r.a ▸ r.b ▸ r.c ▸ none; lists = [] }) (choice (part 0) (part 2) (in_order (part 1) (part 2))) (in_order (operands Or (part 0) (part 1)) (part 2)) refl q n w r.shape r.written

both_sides_kept : (q : Seat) (n w : Tree) → Row13Both n w → KeptAt (Expr q) n w
both_sides_kept q n w r = expressions_arranged (record { trees = r.left ▸ r.right ▸ none; lists = [] }) (operands r.operator (part 0) (part 1)) (in_order (part 0) (part 1)) refl q n w r.shape r.written

both_kept : (q : Seat) (n w : Tree) → Row49 n w → KeptAt (Expr q) n w
both_kept q n w r = expressions_arranged (record { trees = r.a ▸ r.b ▸ none; lists = [] }) (choice (part 0) (part 1) (part 1)) (in_order (part 0) (part 1)) refl q n w r.shape r.written

-- 37: null and undefined are dropped

null_vanishes : Vanishes null_literal
unfolding has_inner
null_vanishes = record { inner = refl; fixed = λ y. refl }

void_vanishes : Vanishes void_zero
unfolding has_inner
void_vanishes = record { inner = refl; fixed = λ y. refl }

pub undefined_vanishes : (v : Tree) → IsUndefined v → Vanishes v
undefined_vanishes v (inl h) = subst Vanishes (sym h) (name_vanishes (unresolved (codes "undefined")))
undefined_vanishes v (inr h) = subst Vanishes (sym h) void_vanishes

pub nullish_vanish : (a b : Tree) → AreNullish a b → Vanishes a × Vanishes b
nullish_vanish a b (inl h) = (subst Vanishes (sym h.0) null_vanishes, undefined_vanishes b h.1)
nullish_vanish a b (inr h) = (undefined_vanishes a h.0, subst Vanishes (sym h.1) null_vanishes)

abbrev comparisons_dropped : Free
comparisons_dropped = record { moved = []; lists_moved = []; dropped = 1 ∷ 2 ∷ [] }

abbrev compared_with : BinaryOperator → Sketch → Sketch
compared_with o s = under (Binary o) (part 0 ▹ s ▹ end)

nullish_kept : (q : Seat) (n w : Tree) → Row37 n w → KeptAt (Expr q) n w
nullish_kept q n w r =
    let (first, second) = nullish_vanish r.first r.second r.nullish in
    expressions_arranged_freely comparisons_dropped (record { trees = identifier r.name ▸ r.first ▸ r.second ▸ none; lists = [] }) (tt, tt, (first, (second, tt))) (operands (joining r.equal) (compared_with (strictly r.equal) (part 1)) (compared_with (strictly r.equal) (part 2))) (compared_with (loosely r.equal) (under Null end)) refl q n w r.shape r.written

nullish_after_kept : (q : Seat) (n w : Tree) → Row37After n w → KeptAt (Expr q) n w
nullish_after_kept q n w r =
    let (first, second) = nullish_vanish r.first r.second r.nullish in
    expressions_arranged_freely comparisons_dropped (record { trees = identifier r.name ▸ r.first ▸ r.second ▸ r.before ▸ none; lists = [] }) (tt, tt, (first, (second, tt))) (operands (joining r.equal) (operands (joining r.equal) (part 3) (compared_with (strictly r.equal) (part 1))) (compared_with (strictly r.equal) (part 2))) (operands (joining r.equal) (part 3) (compared_with (loosely r.equal) (under Null end))) refl q n w r.shape r.written

-- 57: null is dropped

abbrev comparison : Bool → Bool → BinaryOperator
comparison true equal = strictly equal
comparison false equal = loosely equal

abbrev null_dropped : Free
null_dropped = record { moved = []; lists_moved = []; dropped = 2 ∷ [] }

abbrev negated : Sketch → Sketch
negated s = under (Unary LogicalNot) (s ▹ end)

abbrev held_part : Bool → Sketch
held_part true = negated (negated (part 0))
held_part false = negated (part 0)

-- behind the part 3, or not
abbrev ended_by : LogicalOperator → Bool → Sketch → Sketch
ended_by o true s = operands o (part 3) s
ended_by o false s = s

type_kept : (q : Seat) (n w : Tree) → Row57 n w → KeptAt (Expr q) n w
type_kept q n w r = by r.there r.strict r.before r.shape r.written
  where
    by : (there strict : Bool) (before : Option Tree) → n ≡ logical (joining (not there)) (ended (joining (not there)) before (asks_object there r.name)) (null_compared strict (not there) r.name) → w ≡ logical (joining (not there)) (ended (joining (not there)) before (asks_object there r.name)) (held there r.name) → KeptAt (Expr q) n w
    by true true None f g = expressions_arranged_freely null_dropped (record { trees = identifier r.name ▸ asks_object true r.name ▸ null_literal ▸ none; lists = [] }) (tt, tt, (null_vanishes, tt)) (operands And (ended_by And false (part 1)) (compared_with (comparison true false) (part 2))) (operands And (ended_by And false (part 1)) (held_part true)) refl q n w f g
    by true true (Some b) f g = expressions_arranged_freely null_dropped (record { trees = identifier r.name ▸ asks_object true r.name ▸ null_literal ▸ b ▸ none; lists = [] }) (tt, tt, (null_vanishes, tt)) (operands And (ended_by And true (part 1)) (compared_with (comparison true false) (part 2))) (operands And (ended_by And true (part 1)) (held_part true)) refl q n w f g
    by true false None f g = expressions_arranged_freely null_dropped (record { trees = identifier r.name ▸ asks_object true r.name ▸ null_literal ▸ none; lists = [] }) (tt, tt, (null_vanishes, tt)) (operands And (ended_by And false (part 1)) (compared_with (comparison false false) (part 2))) (operands And (ended_by And false (part 1)) (held_part true)) refl q n w f g
    by true false (Some b) f g = expressions_arranged_freely null_dropped (record { trees = identifier r.name ▸ asks_object true r.name ▸ null_literal ▸ b ▸ none; lists = [] }) (tt, tt, (null_vanishes, tt)) (operands And (ended_by And true (part 1)) (compared_with (comparison false false) (part 2))) (operands And (ended_by And true (part 1)) (held_part true)) refl q n w f g
    by false true None f g = expressions_arranged_freely null_dropped (record { trees = identifier r.name ▸ asks_object false r.name ▸ null_literal ▸ none; lists = [] }) (tt, tt, (null_vanishes, tt)) (operands Or (ended_by Or false (part 1)) (compared_with (comparison true true) (part 2))) (operands Or (ended_by Or false (part 1)) (held_part false)) refl q n w f g
    by false true (Some b) f g = expressions_arranged_freely null_dropped (record { trees = identifier r.name ▸ asks_object false r.name ▸ null_literal ▸ b ▸ none; lists = [] }) (tt, tt, (null_vanishes, tt)) (operands Or (ended_by Or true (part 1)) (compared_with (comparison true true) (part 2))) (operands Or (ended_by Or true (part 1)) (held_part false)) refl q n w f g
    by false false None f g = expressions_arranged_freely null_dropped (record { trees = identifier r.name ▸ asks_object false r.name ▸ null_literal ▸ none; lists = [] }) (tt, tt, (null_vanishes, tt)) (operands Or (ended_by Or false (part 1)) (compared_with (comparison false true) (part 2))) (operands Or (ended_by Or false (part 1)) (held_part false)) refl q n w f g
    by false false (Some b) f g = expressions_arranged_freely null_dropped (record { trees = identifier r.name ▸ asks_object false r.name ▸ null_literal ▸ b ▸ none; lists = [] }) (tt, tt, (null_vanishes, tt)) (operands Or (ended_by Or true (part 1)) (compared_with (comparison false true) (part 2))) (operands Or (ended_by Or true (part 1)) (held_part false)) refl q n w f g

null_type_kept : (q : Seat) (n w : Tree) → Row57Null n w → KeptAt (Expr q) n w
null_type_kept q n w r = by r.there r.strict r.before r.shape r.written
  where
    by : (there strict : Bool) (before : Option Tree) → n ≡ logical (joining (not there)) (ended (joining (not there)) before (null_compared strict (not there) r.name)) (asks_object there r.name) → w ≡ logical (joining (not there)) (ended (joining (not there)) before (held there r.name)) (asks_object there r.name) → KeptAt (Expr q) n w
    by true true None f g = expressions_arranged_freely null_dropped (record { trees = identifier r.name ▸ asks_object true r.name ▸ null_literal ▸ none; lists = [] }) (tt, tt, (null_vanishes, tt)) (operands And (ended_by And false (compared_with (comparison true false) (part 2))) (part 1)) (operands And (ended_by And false (held_part true)) (part 1)) refl q n w f g
    by true true (Some b) f g = expressions_arranged_freely null_dropped (record { trees = identifier r.name ▸ asks_object true r.name ▸ null_literal ▸ b ▸ none; lists = [] }) (tt, tt, (null_vanishes, tt)) (operands And (ended_by And true (compared_with (comparison true false) (part 2))) (part 1)) (operands And (ended_by And true (held_part true)) (part 1)) refl q n w f g
    by true false None f g = expressions_arranged_freely null_dropped (record { trees = identifier r.name ▸ asks_object true r.name ▸ null_literal ▸ none; lists = [] }) (tt, tt, (null_vanishes, tt)) (operands And (ended_by And false (compared_with (comparison false false) (part 2))) (part 1)) (operands And (ended_by And false (held_part true)) (part 1)) refl q n w f g
    by true false (Some b) f g = expressions_arranged_freely null_dropped (record { trees = identifier r.name ▸ asks_object true r.name ▸ null_literal ▸ b ▸ none; lists = [] }) (tt, tt, (null_vanishes, tt)) (operands And (ended_by And true (compared_with (comparison false false) (part 2))) (part 1)) (operands And (ended_by And true (held_part true)) (part 1)) refl q n w f g
    by false true None f g = expressions_arranged_freely null_dropped (record { trees = identifier r.name ▸ asks_object false r.name ▸ null_literal ▸ none; lists = [] }) (tt, tt, (null_vanishes, tt)) (operands Or (ended_by Or false (compared_with (comparison true true) (part 2))) (part 1)) (operands Or (ended_by Or false (held_part false)) (part 1)) refl q n w f g
    by false true (Some b) f g = expressions_arranged_freely null_dropped (record { trees = identifier r.name ▸ asks_object false r.name ▸ null_literal ▸ b ▸ none; lists = [] }) (tt, tt, (null_vanishes, tt)) (operands Or (ended_by Or true (compared_with (comparison true true) (part 2))) (part 1)) (operands Or (ended_by Or true (held_part false)) (part 1)) refl q n w f g
    by false false None f g = expressions_arranged_freely null_dropped (record { trees = identifier r.name ▸ asks_object false r.name ▸ null_literal ▸ none; lists = [] }) (tt, tt, (null_vanishes, tt)) (operands Or (ended_by Or false (compared_with (comparison false true) (part 2))) (part 1)) (operands Or (ended_by Or false (held_part false)) (part 1)) refl q n w f g
    by false false (Some b) f g = expressions_arranged_freely null_dropped (record { trees = identifier r.name ▸ asks_object false r.name ▸ null_literal ▸ b ▸ none; lists = [] }) (tt, tt, (null_vanishes, tt)) (operands Or (ended_by Or true (compared_with (comparison false true) (part 2))) (part 1)) (operands Or (ended_by Or true (held_part false)) (part 1)) refl q n w f g

lighter_kept : (q : Seat) (n w : Tree) → LighterRow q n w → KeptAt (Expr q) n w
lighter_kept q n w (Rotated r) = rotated_kept q n w r
lighter_kept q n w (Decided r) = deciding_kept q n w r
lighter_kept q n w (Combined r) = computing_kept q n w r
lighter_kept q n w (NullishIfEqual r) = equal_kept q n w r
lighter_kept q n w (NullishIfUnequal r) = unequal_kept q n w r
lighter_kept q n w (Chosen r) = chosen_kept true q n w r
lighter_kept q n w (LooseNull r) = nullish_kept q n w r
lighter_kept q n w (LooseNullAfter r) = nullish_after_kept q n w r
lighter_kept q n w (ObjectTest r) = type_kept q n w r
lighter_kept q n w (ObjectTestAfter r) = null_type_kept q n w r
lighter_kept q n w (CombinedMember r) = computing_member_kept q n w r
lighter_kept q n w (ChosenMember r) = chosen_member_kept true q n w r
lighter_kept q n w (DecidedLast r) = last_kept q n w r

own_kept : (q : Seat) (n w : Tree) → OwnRow n w → KeptAt (Expr q) n w
own_kept q n w (OrTest r) = own_or_kept q n w r
own_kept q n w (AndTest r) = own_and_kept q n w r

held_kept : (q : Seat) (n w : Tree) → HeldRow n w → KeptAt (Expr q) n w
held_kept q n w (AndBoth r) = choice_and_kept q n w r
held_kept q n w (OrEither r) = choice_or_kept q n w r
held_kept q n w (LastAfterOr r) = or_kept q n w r
held_kept q n w (LastAfterAnd r) = and_kept q n w r
held_kept q n w (AndThenOr r) = and_then_kept q n w r
held_kept q n w (OrThenAnd r) = or_then_kept q n w r
held_kept q n w (Alike r) = both_kept q n w r

expression_kept : (q : Seat) (n w : Tree) → ChoiceRow (Expr q) n w → KeptLoosely (Expr q) n w
expression_kept q n w (Shorter r) = kept_loosely (Expr q) n w (lighter_kept q n w r)
expression_kept q n w (TestedBranch r) = kept_loosely (Expr q) n w (own_kept q n w r)
expression_kept q n w (SharedBranch r) = kept_loosely (Expr q) n w (held_kept q n w r)
expression_kept q n w (OptionalChain r) = kept_loosely (Expr q) n w (chain_row_kept q n w r (undefined_vanishes r.missing r.undefined))
expression_kept q n w (JoinedCall r) = kept_loosely (Expr q) n w (calls_kept true q n w r)
expression_kept q n w (ChainLink r) = kept_loosely (Expr q) n w (chains_kept q n w r)
expression_kept q n w (ChainEnd r) = end_kept q n w r
expression_kept q n w (BothSides r) = kept_loosely (Expr q) n w (both_sides_kept q n w r)
expression_kept q n w (ChosenIndexed r) = kept_loosely (Expr q) n w (indexed_kept true q n w r)
expression_kept q n w (ZeroFirst r) = kept_loosely (Expr q) n w (zero_row_kept q n w r)

kept : (p : Position) (n w : Tree) → ChoiceRow p n w → KeptLoosely p n w
kept (Expr q) n w r = expression_kept q n w r
kept p n w r = absurd r

places : (p : Position) (n w : Tree) → ChoiceRow p n w → is_rewritten_place p ≡ true
places (Expr q) n w r = refl
places p n w r = absurd r

shapes : KeepsShapes ChoiceContracts
shapes = record { fitting = λ p n w c strict s k e. row_fits p n w c.row strict s e; asked = λ p n w c. row_asked p n w c.row }

pub lawful : ChoicesLawful
lawful = fixed_is_lawful ChoiceContracts choices_same shapes (λ p n w c. places p n w c.row) (λ p n w c strict s k e. row_slot p n w c.row strict s e) (λ p n w c. kept p n w c.row)

pub loose : ChoicesLoose
loose K = kept_is_loose ChoiceContracts choices_same shapes (λ p n w c. places p n w c.row) (λ p n w c strict s k e. row_slot p n w c.row strict s e) (λ p n w c. kept p n w c.row) K
