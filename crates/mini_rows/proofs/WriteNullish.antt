-- What is written for two strict comparisons, with null and with undefined, of what a name is assigned and of the name: it means the same
-- where the name can be written, keeps all that a program has to keep, and is lighter.
use Rattle.std.proofs.Common.{◌≡◌, ◌<◌, ◌≤◌, ◌+◌, ℕ, List, [], ◌∷◌, Bool, true, false, Option, Some, None, refl, sym, ap, subst, ◌∙◌, inl, inr, arith}
use Rattle.std.specs.Prelude.{if◌then◌else◌}
use Rattle.mini_model.specs.declared.name.Name.{Name}
use Rattle.mini_model.specs.declared.operator.AssignmentOperator.TheVariants.{Assign}
use Rattle.mini_model.specs.declared.operator.BinaryOperator.{BinaryOperator}
use Rattle.mini_model.specs.declared.operator.BinaryOperator.TheVariants as binary_operator
use Rattle.mini_model.specs.declared.operator.BinaryOperator.TheVariants.{StrictEquality, StrictInequality}
use Rattle.mini_model.specs.declared.operator.LogicalOperator.{LogicalOperator}
use Rattle.mini_model.specs.declared.operator.LogicalOperator.TheVariants.{Or, And}
use Rattle.mini_model.specs.declared.place.Position.TheVariants.{Expr}
use Rattle.mini_model.specs.declared.seat.Seat.{Seat}
use Rattle.mini_model.specs.declared.shape.Shape.TheVariants as shape
use Rattle.mini_model.specs.Tree.{Tree, none, ◌▸◌, identifier, logical, null_literal}
use Rattle.mini_model.specs.Position.{left_operand_seat, right_operand_seat, binary_operand_seat}
use Rattle.mini_model.specs.Weight.{outline, outlines, weight, is_parenthesized, is_awkward}
use Rattle.mini_accept.specs.WellShaped.{Slot, fits}
use Rattle.mini_laws.specs.Value.{Value, Undefined, Null, Boolean, Variable, VariableSet, Declared, choose, nothing}
use Rattle.mini_laws.specs.State.{State, ok, stop, either, Environment, Writes}
use Rattle.mini_laws.specs.Demand.{Val, Demand, As}
use Rattle.mini_laws.specs.Command.{run}
use Rattle.mini_laws.specs.Expressions.{operate_by}
use Rattle.mini_laws.specs.Naming.{summary}
use Rattle.mini_laws.specs.Same.{Same}
use Rattle.mini_laws.specs.Targets.{assigns}
use Rattle.mini_laws.proofs.Runs.{either_cong, either_ok, runs}
use Rattle.mini_laws.proofs.Seats.{placed}
use Rattle.mini_kept.proofs.Expressions.{expression, expression_taken, two_fit}
use Rattle.mini_rows.specs.Arranged.{KeptAt}
use Rattle.mini_rows.specs.Choices.{assign, strictly, loosely, joining, AreNullish, ended}
use Rattle.mini_rows.specs.Sketches.{Sketch, Free, Binary, Logical, Null, part, under, end, ◌▹◌}
use Rattle.mini_rows.specs.Spellings.{binary}
use Rattle.mini_rows.specs.Unused.{resolved}
use Rattle.mini_rows.specs.Writes.{Row37Assigned}
use Rattle.mini_rows.proofs.ArrangedExpressions.{expressions_arranged_freely}
use Rattle.mini_rows.proofs.ChoiceLawful.{name_vanishes, nullish_vanish, assigns_part}
use Rattle.mini_rows.proofs.ChoiceMeaning.{told_strictly, told_loosely, null_first, null_last, rotated_value, right_value}
use Rattle.mini_rows.proofs.ChoiceRuns.{value, Tells, assign_value, binary_names, binary_tells, binary_value, logical_tells, logical_value, null_value, sides, undefined_value}
use Rattle.mini_rows.proofs.ChoiceShapes.{choice_taken, of_two}
use Rattle.mini_rows.proofs.ChoiceWeights.{pair_of}
use Rattle.mini_rows.proofs.SpellShapes.{a_binary, a_logical, Formed}
use Rattle.mini_rows.proofs.WriteMeaning.{equal_null, unequal_null, Wrote, wrote, by_writing, held_value, same_there}

-- ---- what a strict comparison of any expression says of its value

strict_by : (e : Environment) (o : BinaryOperator) (t f : Tree) (u : Value) (p : Value → Bool) → ((v : Value) (z : State) → run {q = λ i. As Val} e (binary_names o t f) (sides e t f) (operate_by o v u) z ≡ ok (Boolean (p v)) z) → ((s : State) → value e f s ≡ ok u s) → (s : State) → value e (binary o t f) s ≡ either (value e t s) (λ v z. ok (Boolean (p v)) z) (λ x z. stop x z)
strict_by e o t f u p h g s =
    binary_value e o t f s
    ∙ either_cong (value e t s) _ _ _ _
    (λ v z.
    ap (λ y. either y (λ u k. run {q = λ i. As Val} e (binary_names o t f) (sides e t f) (operate_by o v u) k) (λ x k. stop x k)) (g z)
    ∙ either_ok u z _ _
    ∙ h v z)
    (λ x z. refl)

strict_value : (e : Environment) (equal : Bool) (t f : Tree) (u : Value) → ((s : State) → value e f s ≡ ok u s) → (s : State) → value e (binary (strictly equal) t f) s ≡ either (value e t s) (λ v z. ok (Boolean (told_strictly equal v u)) z) (λ x z. stop x z)
strict_value e true t f u h s = strict_by e StrictEquality t f u (λ v. told_strictly true v u) (λ v z. refl) h s
strict_value e false t f u h s = strict_by e StrictInequality t f u (λ v. told_strictly false v u) (λ v z. refl) h s

loose_value : (e : Environment) (equal : Bool) (t : Tree) (s : State) → value e (binary (loosely equal) t null_literal) s ≡ either (value e t s) (λ v z. ok (Boolean (told_loosely equal v)) z) (λ x z. stop x z)
loose_value e true t s = equal_null e t s
loose_value e false t s = unequal_null e t s

-- ---- the name has what was assigned

module _ (e : Environment) (spelling : List ℕ) (k : ℕ) (free : e.fixed (Declared k) ≡ Writes) (a : Tree) where
  abbrev x : Name
  x = resolved spelling k

  abbrev t : Tree
  t = assign x a

  written_by : (s : State) → Wrote e spelling k free (value e t s)
  written_by s = subst (Wrote e spelling k free) (sym (assign_value e x a s)) (wrote e spelling k free (value e a s))

  both_compared : (o : LogicalOperator) (b c w : Tree) (p q r : Value → Bool) → ((s : State) → value e b s ≡ either (value e t s) (λ v z. ok (Boolean (p v)) z) (λ x z. stop x z)) → ((s : State) → value e c s ≡ either (value e (identifier x) s) (λ v z. ok (Boolean (q v)) z) (λ x z. stop x z)) → ((s : State) → value e w s ≡ either (value e t s) (λ v z. ok (Boolean (r v)) z) (λ x z. stop x z)) → ((v : Value) (z : State) → choose (assigns o (Boolean (p v))) (ok (Boolean (q v)) z) (ok (Boolean (p v)) z) ≡ ok (Boolean (r v)) z) → (s : State) → value e (logical o b c) s ≡ value e w s
  both_compared o b c w p q r first second whole says s =
      logical_value e o b c s
      ∙ ap (λ k. either k (λ v z. choose (assigns o v) (value e c z) (ok v z)) (λ x z. stop x z)) (first s)
      ∙ simp runs (by_writing e spelling k free (value e t s) (written_by s) (λ v z. choose (assigns o (Boolean (p v))) (value e c z) (ok (Boolean (p v)) z)) (λ v z. ok (Boolean (r v)) z)
      (λ v z h. ap (λ y. choose (assigns o (Boolean (p v))) y (ok (Boolean (p v)) z)) (second z ∙ ap (λ y. either y (λ v z. ok (Boolean (q v)) z) (λ x z. stop x z)) (held_value e spelling k free v z h) ∙ either_ok v z _ _) ∙ says v z))
      ∙ sym (whole s)

  compared_value : (equal : Bool) (f g : Tree) → AreNullish f g → (s : State) → value e (logical (joining equal) (binary (strictly equal) t f) (binary (strictly equal) (identifier x) g)) s ≡ value e (binary (loosely equal) t null_literal) s
  compared_value equal f g (inl h) =
      both_compared (joining equal) _ _ _ (λ v. told_strictly equal v Null) (λ v. told_strictly equal v Undefined) (told_loosely equal)
      (strict_value e equal t f Null (λ s. ap (λ t. value e t s) h.0 ∙ null_value e s))
      (strict_value e equal (identifier x) g Undefined (undefined_value e g h.1))
      (loose_value e equal t)
      (null_first equal)
  compared_value equal f g (inr h) =
      both_compared (joining equal) _ _ _ (λ v. told_strictly equal v Undefined) (λ v. told_strictly equal v Null) (told_loosely equal)
      (strict_value e equal t f Undefined (undefined_value e f h.0))
      (strict_value e equal (identifier x) g Null (λ s. ap (λ t. value e t s) h.1 ∙ null_value e s))
      (loose_value e equal t)
      (null_last equal)

-- behind an equal operator too
ended_value : (e : Environment) (o : LogicalOperator) (before : Option Tree) (b c w : Tree) → ((s : State) → value e (logical o b c) s ≡ value e w s) → (s : State) → value e (logical o (ended o before b) c) s ≡ value e (ended o before w) s
ended_value e o None b c w h s = h s
ended_value e o (Some f) b c w h s = sym (rotated_value o f b c e s) ∙ right_value o f (logical o b c) w e h s

loose_tells : (equal : Bool) (before : Option Tree) (t : Tree) → Tells (ended (joining equal) before (binary (loosely equal) t null_literal))
loose_tells equal None t = binary_tells (loosely equal) t null_literal
loose_tells equal (Some b) t = logical_tells (joining equal) b (binary (loosely equal) t null_literal)

abbrev before_it : Bool → Option Tree → Name → Tree → Tree → Tree → Tree
before_it equal before x a f g = logical (joining equal) (ended (joining equal) before (binary (strictly equal) (assign x a) f)) (binary (strictly equal) (identifier x) g)

abbrev after_it : Bool → Option Tree → Name → Tree → Tree
after_it equal before x a = ended (joining equal) before (binary (loosely equal) (assign x a) null_literal)

pub nullish_same : (W : VariableSet) (n w : Tree) (r : Row37Assigned W n w) (e : Environment) → ((y : Variable) → W y ≡ true → e.fixed y ≡ Writes) → (q : Demand) → Same e nothing nothing q n w
nullish_same W n w r e z q =
    let x : Name = resolved r.spelling r.symbol in
    let o = joining r.equal in
    let first = binary (strictly r.equal) (assign x r.a) r.first in
    let second = binary (strictly r.equal) (identifier x) r.second in
    let after = after_it r.equal r.before x r.a in
    subst (λ t. Same e nothing nothing q t w) (sym r.shape)
    (subst (λ t. Same e nothing nothing q (before_it r.equal r.before x r.a r.first r.second) t) (sym r.written)
    (same_there e (before_it r.equal r.before x r.a r.first r.second) after (logical_tells o (ended o r.before first) second) (loose_tells r.equal r.before (assign x r.a))
    (ended_value e o r.before first second (binary (loosely r.equal) (assign x r.a) null_literal) (compared_value e r.spelling r.symbol (z (Declared r.symbol) r.writable) r.a r.equal r.first r.second r.nullish)) q))

loose_read : (equal : Bool) (before : Option Tree) (x : Name) (a f g : Tree) → summary (before_it equal before x a f g) ≡ summary (after_it equal before x a)
loose_read equal None x a f g = refl
loose_read equal (Some b) x a f g = refl

pub nullish_read : (W : VariableSet) (n w : Tree) → Row37Assigned W n w → summary n ≡ summary w
nullish_read W n w r = ap summary r.shape ∙ loose_read r.equal r.before (resolved r.spelling r.symbol) r.a r.first r.second ∙ sym (ap summary r.written)

-- ---- the same parts

abbrev comparisons_dropped : Free
comparisons_dropped = record { moved = []; lists_moved = []; dropped = 0 ∷ 1 ∷ 2 ∷ [] }

abbrev compared : BinaryOperator → Sketch → Sketch → Sketch
compared o s t = under (Binary o) (s ▹ t ▹ end)

abbrev operands : LogicalOperator → Sketch → Sketch → Sketch
operands o s t = under (Logical o) (s ▹ t ▹ end)

abbrev assigned : Sketch
assigned = assigns_part Assign (part 3)

pub nullish_kept : (W : VariableSet) (q : Seat) (n w : Tree) → Row37Assigned W n w → KeptAt (Expr q) n w
nullish_kept W q n w r = by r.before r.shape r.written
  where
    x : Name
    x = resolved r.spelling r.symbol

    by : (before : Option Tree) → n ≡ before_it r.equal before x r.a r.first r.second → w ≡ after_it r.equal before x r.a → KeptAt (Expr q) n w
    by None f g =
        let (first, second) = nullish_vanish r.first r.second r.nullish in
        expressions_arranged_freely comparisons_dropped (record { trees = identifier x ▸ r.first ▸ r.second ▸ r.a ▸ none; lists = [] }) (tt, tt, (name_vanishes x, (first, (second, tt))))
        (operands (joining r.equal) (compared (strictly r.equal) assigned (part 1)) (compared (strictly r.equal) (part 0) (part 2)))
        (compared (loosely r.equal) assigned (under Null end)) refl q n w f g
    by (Some b) f g =
        let (first, second) = nullish_vanish r.first r.second r.nullish in
        expressions_arranged_freely comparisons_dropped (record { trees = identifier x ▸ r.first ▸ r.second ▸ r.a ▸ b ▸ none; lists = [] }) (tt, tt, (name_vanishes x, (first, (second, tt))))
        (operands (joining r.equal) (operands (joining r.equal) (part 4) (compared (strictly r.equal) assigned (part 1))) (compared (strictly r.equal) (part 0) (part 2)))
        (operands (joining r.equal) (part 4) (compared (loosely r.equal) assigned (under Null end))) refl q n w f g

-- ---- where it stands

pub nullish_fits : (W : VariableSet) (n w : Tree) → Row37Assigned W n w → (strict : Bool) (s : Slot) → fits strict s n ≡ true → fits strict s w ≡ true
nullish_fits W n w r strict s e = by r.before r.shape r.written
  where
    x : Name
    x = resolved r.spelling r.symbol

    o : LogicalOperator
    o = joining r.equal

    first : Tree
    first = binary (strictly r.equal) (assign x r.a) r.first

    second : Tree
    second = binary (strictly r.equal) (identifier x) r.second

    loose : Tree
    loose = binary (loosely r.equal) (assign x r.a) null_literal

    compares : fits strict expression first ≡ true → fits strict expression loose ≡ true
    compares f = two_fit strict (assign x r.a) null_literal (of_two strict (assign x r.a) r.first f).0 refl

    by : (before : Option Tree) → n ≡ before_it r.equal before x r.a r.first r.second → w ≡ after_it r.equal before x r.a → fits strict s w ≡ true
    by None f g =
        let (here, fit) = choice_taken strict s (a_logical o) (first ▸ second ▸ none) refl (sym (ap (fits strict s) f) ∙ e) in
        ap (fits strict s) g ∙ expression_taken strict s loose here (compares (of_two strict first second fit).0)
    by (Some b) f g =
        let (here, fit) = choice_taken strict s (a_logical o) (logical o b first ▸ second ▸ none) refl (sym (ap (fits strict s) f) ∙ e) in
        let (before, last) = of_two strict b first (of_two strict (logical o b first) second fit).0 in
        ap (fits strict s) g ∙ expression_taken strict s (logical o b loose) here (two_fit strict b loose before (compares last))

pub nullish_formed : (W : VariableSet) (n w : Tree) → Row37Assigned W n w → Formed n w
nullish_formed W n w r = by r.before r.shape r.written
  where
    x : Name
    x = resolved r.spelling r.symbol

    o : LogicalOperator
    o = joining r.equal

    first : Tree
    first = binary (strictly r.equal) (assign x r.a) r.first

    second : Tree
    second = binary (strictly r.equal) (identifier x) r.second

    by : (before : Option Tree) → n ≡ before_it r.equal before x r.a r.first r.second → w ≡ after_it r.equal before x r.a → Formed n w
    by None f g = record { first = a_logical o; second = a_binary (loosely r.equal); parts = first ▸ second ▸ none; others = assign x r.a ▸ null_literal ▸ none; read = f; made = g; optional = λ y. absurd (cc y) }
    by (Some b) f g = record { first = a_logical o; second = a_logical o; parts = logical o b first ▸ second ▸ none; others = b ▸ binary (loosely r.equal) (assign x r.a) null_literal ▸ none; read = f; made = g; optional = λ y. absurd (cc y) }

-- ---- lighter

mark_of : (b : Bool) → (if b then 1 else 0) ≤ 1
mark_of true = omega arith
mark_of false = omega arith

-- what stands on the left of a comparison
abbrev compared_weight : Tree → ℕ
compared_weight t = weight (Expr (binary_operand_seat binary_operator.Equality 0)) t

loose_light : (s : Seat) (equal : Bool) (t : Tree) → weight (Expr s) (binary (loosely equal) t null_literal) ≤ 17 + compared_weight t
loose_light s true t = omega (arith, pair_of (is_parenthesized (shape.BinaryExpression binary_operator.Equality) s), mark_of (is_awkward s (shape.BinaryExpression binary_operator.Equality) (outlines (t ▸ null_literal ▸ none))))
loose_light s false t = omega (arith, pair_of (is_parenthesized (shape.BinaryExpression binary_operator.Inequality) s), mark_of (is_awkward s (shape.BinaryExpression binary_operator.Inequality) (outlines (t ▸ null_literal ▸ none))))

strict_heavy : (s : Seat) (equal : Bool) (t f : Tree) → 6 + compared_weight t ≤ weight (Expr s) (binary (strictly equal) t f)
strict_heavy s true t f = omega arith
strict_heavy s false t f = omega arith

null_heavy : (s : Seat) (equal : Bool) (t f : Tree) → f ≡ null_literal → 14 + compared_weight t ≤ weight (Expr s) (binary (strictly equal) t f)
null_heavy s true t f e = subst (λ (f : Tree). 14 + compared_weight t ≤ weight (Expr s) (binary (strictly true) t f)) (sym e) (omega arith)
null_heavy s false t f e = subst (λ (f : Tree). 14 + compared_weight t ≤ weight (Expr s) (binary (strictly false) t f)) (sym e) (omega arith)

added : (a b u v : ℕ) → 14 + a ≤ u → 6 + b ≤ v → 20 + a ≤ u + v
added a b u v h k = omega arith

added' : (a b u v : ℕ) → 6 + a ≤ u → 14 + b ≤ v → 20 + a ≤ u + v
added' a b u v h k = omega arith

-- both comparisons
both_heavy : (s r : Seat) (equal : Bool) (t u f g : Tree) → AreNullish f g → 20 + compared_weight t ≤ weight (Expr s) (binary (strictly equal) t f) + weight (Expr r) (binary (strictly equal) u g)
both_heavy s r equal t u f g (inl h) = added _ (compared_weight u) _ _ (null_heavy s equal t f h.0) (strict_heavy r equal u g)
both_heavy s r equal t u f g (inr h) = added' _ (compared_weight u) _ _ (strict_heavy s equal t f) (null_heavy r equal u g h.1)

-- a comparison and what joins the two go
pub nullish_falls : (s : Seat) (equal : Bool) (before : Option Tree) (t u f g : Tree) → AreNullish f g → weight (Expr s) (ended (joining equal) before (binary (loosely equal) t null_literal)) < weight (Expr s) (logical (joining equal) (ended (joining equal) before (binary (strictly equal) t f)) (binary (strictly equal) u g))
nullish_falls s true None t u f g h = omega (arith, loose_light s true t, both_heavy (left_operand_seat Or s) (right_operand_seat Or s) true t u f g h)
nullish_falls s false None t u f g h = omega (arith, loose_light s false t, both_heavy (left_operand_seat And s) (right_operand_seat And s) false t u f g h)
nullish_falls s true (Some b) t u f g h =
    let first = placed 0 (left_operand_seat Or s) (left_operand_seat Or (left_operand_seat Or s)) refl (λ h os. omega arith) b in
    omega (arith, first, loose_light (right_operand_seat Or s) true t, both_heavy (right_operand_seat Or (left_operand_seat Or s)) (right_operand_seat Or s) true t u f g h)
nullish_falls s false (Some b) t u f g h =
    let first = placed 0 (left_operand_seat And s) (left_operand_seat And (left_operand_seat And s)) refl (λ h os. omega arith) b in
    omega (arith, first, loose_light (right_operand_seat And s) false t, both_heavy (right_operand_seat And (left_operand_seat And s)) (right_operand_seat And s) false t u f g h)

loose_outline : (equal : Bool) (before : Option Tree) (x : Name) (a f g : Tree) → outline (before_it equal before x a f g) ≡ outline (after_it equal before x a)
loose_outline equal None x a f g = refl
loose_outline equal (Some b) x a f g = refl

pub nullish_outline : (W : VariableSet) (n w : Tree) → Row37Assigned W n w → outline n ≡ outline w
nullish_outline W n w r = ap outline r.shape ∙ loose_outline r.equal r.before (resolved r.spelling r.symbol) r.a r.first r.second ∙ sym (ap outline r.written)
