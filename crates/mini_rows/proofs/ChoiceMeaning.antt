-- What each row of choices writes means the same.
use Rattle.std.proofs.Common.{◌≡◌, ℕ, List, [], ◌∷◌, Option, Some, None, Bool, true, false, refl, sym, ap, subst, subst₂, ◌∙◌, inl, inr, true≢false}
use Rattle.std.specs.Prelude.{◌⊎◌, ◌&&◌, not, is_none, codes}
use Rattle.std.proofs.lemmas.Bool.{and_parts}
use Rattle.mini_model.specs.declared.name.Name.{Name}
use Rattle.mini_model.specs.declared.operator.AssignmentOperator.{AssignmentOperator}
use Rattle.mini_model.specs.declared.operator.AssignmentOperator.TheVariants as assigning
use Rattle.mini_model.specs.declared.operator.AssignmentOperator.TheVariants.{Assign}
use Rattle.mini_model.specs.declared.operator.BinaryOperator.{BinaryOperator}
use Rattle.mini_model.specs.declared.operator.BinaryOperator.TheVariants as binary_operator
use Rattle.mini_model.specs.declared.operator.BinaryOperator.TheVariants.{StrictEquality, StrictInequality}
use Rattle.mini_model.specs.declared.operator.LogicalOperator.{LogicalOperator}
use Rattle.mini_model.specs.declared.operator.LogicalOperator.TheVariants.{Or, And, Coalesce}
use Rattle.mini_model.specs.declared.seat.Seat.{Seat}
use Rattle.mini_model.specs.declared.operator.UnaryOperator.TheVariants.{Typeof}
use Rattle.mini_model.specs.declared.shape.Shape.TheVariants as shape
use Rattle.mini_model.specs.Tree.{Tree, Trees, none, ◌▸◌, identifier, unary, negation, logical, conditional, null_literal}
use Rattle.mini_model.specs.declared.place.Position.{Position}
use Rattle.mini_model.specs.declared.place.Position.TheVariants.{Expr}
use Rattle.mini_laws.specs.Operators.{strictly_equal, type_text}
use Rattle.mini_laws.specs.Value.{Value, Undefined, Null, Boolean, Number, String, Symbol, Object, Variable, Declared, Global, Slot, Holds, Missing, Uninitialised, choose, truth, is_nullish, variable_of}
use Rattle.mini_laws.specs.State.{ReferenceError, Raise, State, Completion, ok, stop, out, either, Environment}
use Rattle.mini_laws.specs.Demand.{Val, Demand, As, OfType, Stat}
use Rattle.mini_laws.specs.Command.{ret, bind, Kids, note, read_slot, read_name, read_any, read_type, at_variable, act, run}
use Rattle.mini_laws.specs.Naming.{NameKind, UndefinedName, NumberName, summary, naming, kind_of}
use Rattle.mini_laws.specs.Expressions.{get_identifier, type_identifier, operate_by}
use Rattle.mini_laws.specs.Step.{step, means, meaning}
use Rattle.mini_laws.specs.Replies.{operate}
use Rattle.mini_laws.specs.Rows.{SameAt}
use Rattle.mini_laws.specs.Rewritten.{MeansSame}
use Rattle.mini_laws.specs.Targets.{assigns}
use Rattle.mini_laws.proofs.Runs.{either_cong, either_assoc, either_eta, either_ok, either_stop, either_out, runs}
use Rattle.mini_terms.proofs.Opened.{negation_opened}
use Rattle.mini_rows.specs.Spellings.{binary, text, assignment}
use Rattle.mini_rows.specs.Choices.{assign, pair, joined, strictly, loosely, joining, AreNullish, Row37, Row37After, deciding, computing, may_choose, Row45, Row35, Row46Equal, Row46Unequal, asks_object, null_compared, held, ended, Row57, Row57Null, LighterRow, OwnRow, HeldRow, ChoiceRow, ChoiceContracts, ChosenRow, Shorter, TestedBranch, SharedBranch, OptionalChain, JoinedCall, ChainLink, ChainEnd, BothSides, ChosenIndexed, ZeroFirst, Rotated, Decided, Combined, NullishIfEqual, NullishIfUnequal, Chosen, LooseNull, LooseNullAfter, ObjectTest, ObjectTestAfter, CombinedMember, ChosenMember, DecidedLast, OrTest, AndTest, AndBoth, OrEither, LastAfterOr, LastAfterAnd, AndThenOr, OrThenAnd, Alike}
use Rattle.mini_rows.proofs.ChainLinkMeaning.{chains_same, chains_read}
use Rattle.mini_rows.proofs.BothSides.{both_sides_same}
use Rattle.mini_rows.proofs.ChainEnds.{end_same, end_read}
use Rattle.mini_rows.proofs.ChainLawful.{chain_row_same, chain_row_read}
use Rattle.mini_rows.proofs.FirstParts.{zero_row_same, zero_row_read}
use Rattle.mini_rows.proofs.ChainRuns.{next, no_names, no_kids}
use Rattle.mini_rows.proofs.ChoiceCalls.{calls_same}
use Rattle.mini_rows.proofs.ChoiceLast.{last_same}
use Rattle.mini_rows.proofs.ChoiceMembers.{member_same, member_chosen_same}
use Rattle.mini_rows.proofs.ChoiceIndexed.{indexed_same}
use Rattle.mini_rows.proofs.ChoiceFree.{goes_on_chosen, begins_alike, Told, told_there}
use Rattle.mini_rows.proofs.SpellAlike.{SameTree}
use Rattle.mini_rows.proofs.SpellMeaning.{tree_same, same_by}
use Rattle.mini_rows.proofs.ChoiceRuns.{value, by_value, reading, Breaks, raised_breaks, written_out, operate_free, conditional_tells, logical_tells, binary_tells, strict_told, null_value, undefined_value, assignment_tells, pair_tells, pair_value, by_reading, equal_null, unequal_null, sides, binary_names, binary_value, conditional_value, logical_value, puts, assign_value, deciding_value, computing_value}
use Rattle.mini_terms.specs.Effects.{ef}

-- 39

-- where the left side of two operators of one kind decides, the second asks it again
decided_again : (e : Environment) (o : LogicalOperator) (b c : Tree) (v : Value) (z : State) (g : Bool) → assigns o v ≡ g → choose g (either (value e b z) (λ u y. choose (assigns o u) (value e c y) (ok u y)) (λ x y. stop x y)) (ok v z) ≡ either (choose g (value e b z) (ok v z)) (λ u y. choose (assigns o u) (value e c y) (ok u y)) (λ x y. stop x y)
unfolding either
decided_again e o b c v z true h = refl
decided_again e o b c v z false h = sym (ap (λ g. choose g (value e c z) (ok v z)) h)

pub rotated_value : (o : LogicalOperator) (a b c : Tree) (e : Environment) (s : State) → value e (logical o a (logical o b c)) s ≡ value e (logical o (logical o a b) c) s
unfolding either
rotated_value o a b c e s =
    logical_value e o a (logical o b c) s
    ∙ either_cong (value e a s) _ _ _ _ (λ v z. ap (λ x. choose (assigns o v) x (ok v z)) (logical_value e o b c z) ∙ decided_again e o b c v z (assigns o v) refl) (λ x z. refl)
    ∙ sym (logical_value e o (logical o a b) c s ∙ ap (λ x. either x (λ u y. choose (assigns o u) (value e c y) (ok u y)) (λ x y. stop x y)) (logical_value e o a b s) ∙ either_assoc (value e a s) (λ v z. choose (assigns o v) (value e b z) (ok v z)) (λ x z. stop x z) (λ u y. choose (assigns o u) (value e c y) (ok u y)) (λ x y. stop x y))

-- what stands on the left may stand there by its value alone
pub left_value : (o : LogicalOperator) (a b c : Tree) (e : Environment) → ((s : State) → value e a s ≡ value e b s) → (s : State) → value e (logical o a c) s ≡ value e (logical o b c) s
left_value o a b c e h s = logical_value e o a c s ∙ ap (λ y. either y (λ v z. choose (assigns o v) (value e c z) (ok v z)) (λ x z. stop x z)) (h s) ∙ sym (logical_value e o b c s)

joined_value : (o : LogicalOperator) (a b : Tree) (cs : Trees) (e : Environment) (s : State) → value e (logical o a (joined o b cs)) s ≡ value e (joined o (logical o a b) cs) s
joined_value o a b none e s = refl
joined_value o a b (c ▸ cs) e s = rotated_value o a (joined o b cs) c e s ∙ left_value o (logical o a (joined o b cs)) (joined o (logical o a b) cs) c e (joined_value o a b cs e) s

pub rotated_same : (o : LogicalOperator) (a b c : Tree) (cs : Trees) → SameTree (logical o a (joined o b (c ▸ cs))) (joined o (logical o a b) (c ▸ cs))
rotated_same o a b c cs = by_value _ _ (logical_tells o a (joined o b (c ▸ cs))) (logical_tells o (joined o (logical o a b) cs) c) refl (joined_value o a b (c ▸ cs))

-- 38

deciding_same : (o : LogicalOperator) (x : Name) (b : Tree) → SameTree (logical o (identifier x) (assign x b)) (assignment (deciding o) (identifier x) b)
deciding_same o x b =
    by_value _ _ (logical_tells o (identifier x) (assign x b)) (assignment_tells (deciding o) (identifier x) b) refl
    (λ e s. logical_value e o (identifier x) (assign x b) s ∙ either_cong (value e (identifier x) s) _ _ _ _ (λ v z. ap (λ y. choose (assigns o v) y (ok v z)) (assign_value e x b z)) (λ x z. refl) ∙ sym (deciding_value e o x b s))

-- 35

computing_same : (n w : Tree) → Row35 n w → SameTree n w
computing_same n w r =
    same_by n w _ _ r.shape r.written
    (by_value _ _ (assignment_tells Assign (identifier r.name) (binary r.operator (identifier r.name) r.b)) (assignment_tells r.combined (identifier r.name) r.b) refl
    (λ e s. assign_value e r.name (binary r.operator (identifier r.name) r.b) s ∙ computing_value e r.operator r.combined r.computes r.name r.b s))

-- 37

-- what a strict comparison of a name says of its value
abbrev pub told_strictly : Bool → Value → Value → Bool
told_strictly true v u = strictly_equal v u
told_strictly false v u = not (strictly_equal v u)

strict_value : (e : Environment) (equal : Bool) (x : Name) (f : Tree) (u : Value) → ((s : State) → value e f s ≡ ok u s) → (s : State) → value e (binary (strictly equal) (identifier x) f) s ≡ either (value e (identifier x) s) (λ v z. ok (Boolean (told_strictly equal v u)) z) (λ x z. stop x z)
unfolding either
strict_value e true x f u h s = strict_told e StrictEquality x f u (λ v. strictly_equal v u) (λ v z. refl) h s
strict_value e false x f u h s = strict_told e StrictInequality x f u (λ v. not (strictly_equal v u)) (λ v z. refl) h s

-- what a comparison with null loosely says of it
abbrev pub told_loosely : Bool → Value → Bool
told_loosely true v = is_nullish v
told_loosely false v = not (is_nullish v)

loose_value : (e : Environment) (equal : Bool) (x : Name) (s : State) → value e (binary (loosely equal) (identifier x) null_literal) s ≡ either (value e (identifier x) s) (λ v z. ok (Boolean (told_loosely equal v)) z) (λ x z. stop x z)
loose_value e true x s = equal_null e x s
loose_value e false x s = unequal_null e x s

-- both together say it
pub null_first : (equal : Bool) (v : Value) (z : State) → choose (assigns (joining equal) (Boolean (told_strictly equal v Null))) (ok (Boolean (told_strictly equal v Undefined)) z) (ok (Boolean (told_strictly equal v Null)) z) ≡ ok (Boolean (told_loosely equal v)) z
null_first true Undefined z = refl
null_first true Null z = refl
null_first true v z = refl
null_first false Undefined z = refl
null_first false Null z = refl
null_first false v z = refl

pub null_last : (equal : Bool) (v : Value) (z : State) → choose (assigns (joining equal) (Boolean (told_strictly equal v Undefined))) (ok (Boolean (told_strictly equal v Null)) z) (ok (Boolean (told_strictly equal v Undefined)) z) ≡ ok (Boolean (told_loosely equal v)) z
null_last true Undefined z = refl
null_last true Null z = refl
null_last true v z = refl
null_last false Undefined z = refl
null_last false Null z = refl
null_last false v z = refl

-- two comparisons of a name, by what each says of its value
both_compared : (e : Environment) (o : LogicalOperator) (x : Name) (a b w : Tree) (p q r : Value → Bool) → ((s : State) → value e a s ≡ either (value e (identifier x) s) (λ v z. ok (Boolean (p v)) z) (λ x z. stop x z)) → ((s : State) → value e b s ≡ either (value e (identifier x) s) (λ v z. ok (Boolean (q v)) z) (λ x z. stop x z)) → ((s : State) → value e w s ≡ either (value e (identifier x) s) (λ v z. ok (Boolean (r v)) z) (λ x z. stop x z)) → ((v : Value) (z : State) → choose (assigns o (Boolean (p v))) (ok (Boolean (q v)) z) (ok (Boolean (p v)) z) ≡ ok (Boolean (r v)) z) → (s : State) → value e (logical o a b) s ≡ value e w s
both_compared e o x a b w p q r first second whole says s =
    logical_value e o a b s
    ∙ ap (λ k. either k (λ v z. choose (assigns o v) (value e b z) (ok v z)) (λ x z. stop x z)) (first s)
    ∙ simp runs (by_reading e x s (λ v z. choose (assigns o (Boolean (p v))) (value e b z) (ok (Boolean (p v)) z)) (λ v z. ok (Boolean (r v)) z) (λ v k. ap (λ y. choose (assigns o (Boolean (p v))) y (ok (Boolean (p v)) s)) (second s ∙ ap (λ y. either y (λ v z. ok (Boolean (q v)) z) (λ x z. stop x z)) k ∙ either_ok v s _ _) ∙ says v s))
    ∙ sym (whole s)

compared_value : (e : Environment) (equal : Bool) (x : Name) (f g : Tree) → AreNullish f g → (s : State) → value e (logical (joining equal) (binary (strictly equal) (identifier x) f) (binary (strictly equal) (identifier x) g)) s ≡ value e (binary (loosely equal) (identifier x) null_literal) s
compared_value e equal x f g (inl h) =
    both_compared e (joining equal) x _ _ _ (λ v. told_strictly equal v Null) (λ v. told_strictly equal v Undefined) (told_loosely equal)
    (strict_value e equal x f Null (λ s. ap (λ t. value e t s) h.0 ∙ null_value e s))
    (strict_value e equal x g Undefined (undefined_value e g h.1))
    (loose_value e equal x)
    (null_first equal)
compared_value e equal x f g (inr h) =
    both_compared e (joining equal) x _ _ _ (λ v. told_strictly equal v Undefined) (λ v. told_strictly equal v Null) (told_loosely equal)
    (strict_value e equal x f Undefined (undefined_value e f h.0))
    (strict_value e equal x g Null (λ s. ap (λ t. value e t s) h.1 ∙ null_value e s))
    (loose_value e equal x)
    (null_last equal)

nullish_same : (n w : Tree) → Row37 n w → SameTree n w
nullish_same n w r =
    same_by n w _ _ r.shape r.written
    (by_value _ _ (logical_tells (joining r.equal) (binary (strictly r.equal) (identifier r.name) r.first) (binary (strictly r.equal) (identifier r.name) r.second)) (binary_tells (loosely r.equal) (identifier r.name) null_literal) refl
    (λ e s. compared_value e r.equal r.name r.first r.second r.nullish s))

-- what stands on the right may stand there by its value alone
pub right_value : (o : LogicalOperator) (a b c : Tree) (e : Environment) → ((s : State) → value e b s ≡ value e c s) → (s : State) → value e (logical o a b) s ≡ value e (logical o a c) s
right_value o a b c e h s = logical_value e o a b s ∙ either_cong (value e a s) _ _ _ _ (λ v z. ap (λ y. choose (assigns o v) y (ok v z)) (h z)) (λ x z. refl) ∙ sym (logical_value e o a c s)

nullish_after_same : (n w : Tree) → Row37After n w → SameTree n w
nullish_after_same n w r =
    let o = joining r.equal in
    let first = binary (strictly r.equal) (identifier r.name) r.first in
    let second = binary (strictly r.equal) (identifier r.name) r.second in
    let loose = binary (loosely r.equal) (identifier r.name) null_literal in
    same_by n w _ _ r.shape r.written
    (by_value _ _ (logical_tells o (logical o r.before first) second) (logical_tells o r.before loose) refl
    (λ e s. sym (rotated_value o r.before first second e s) ∙ right_value o r.before (logical o first second) loose e (compared_value e r.equal r.name r.first r.second r.nullish) s))

-- 45

put_either : (e : Environment) (x : Name) (g : Bool) (y z : Completion Value) → choose g (puts e x y) (puts e x z) ≡ puts e x (choose g y z)
put_either e x true y z = refl
put_either e x false y z = refl

chosen_value : (a : Tree) (x : Name) (b c : Tree) (e : Environment) (s : State) → value e (conditional a (assign x b) (assign x c)) s ≡ value e (assign x (conditional a b c)) s
unfolding either
chosen_value a x b c e s =
    conditional_value e a (assign x b) (assign x c) s
    ∙ either_cong (value e a s) _ _ _ _ (λ v z. (λ k. choose (truth v) (assign_value e x b z k) (assign_value e x c z k)) ∙ put_either e x (truth v) (value e b z) (value e c z)) (λ x z. refl)
    ∙ sym (assign_value e x (conditional a b c) s ∙ ap (puts e x) (conditional_value e a b c s) ∙ simp runs)

-- where an operator computes, the name is read before the test

-- what the operator makes of two values
abbrev made : Environment → BinaryOperator → Value → Value → State → Completion Value
made e o v u z = run {q = λ i. As Val} e no_names no_kids (operate o v u) z

computes_it : {σ : ℕ → Demand} (o : BinaryOperator) (c : AssignmentOperator) → computing o ≡ Some c → (v u : Value) → operate_by {σ = σ} o v u ≡ operate o v u
computes_it binary_operator.Equality c h v u = absurd (cc h)
computes_it binary_operator.Inequality c h v u = absurd (cc h)
computes_it binary_operator.StrictEquality c h v u = absurd (cc h)
computes_it binary_operator.StrictInequality c h v u = absurd (cc h)
computes_it binary_operator.In c h v u = absurd (cc h)
computes_it binary_operator.Instanceof c h v u = absurd (cc h)
computes_it o c h v u = refl

computed_value : (e : Environment) (o : BinaryOperator) (c : AssignmentOperator) → computing o ≡ Some c → (x : Name) (b : Tree) (s : State) → value e (assignment c (identifier x) b) s ≡ next (value e (identifier x) s) (λ v z. next (value e b z) (λ u y. puts e x (made e o v u y)))
computed_value e o c h x b s =
    let f : Tree = identifier x in
    sym (computing_value e o c h x b s)
    ∙ written_out e o x b s
    ∙ either_cong (value e f s) _ _ _ _ (λ v z. either_cong (value e b z) _ _ _ _ (λ u y. ap (puts e x) (ap (λ k. run {q = λ i. As Val} e (binary_names o f b) (sides e f b) k y) (computes_it o c h v u) ∙ operate_free e (binary_names o f b) no_names (λ i. As Val) (λ i. As Val) (sides e f b) no_kids o v u y)) (λ x y. refl)) (λ x z. refl)

not_so : (b : Bool) → not b ≡ true → b ≡ false
not_so true h = absurd (true≢false (sym h))
not_so false h = refl

computed_chosen : (e : Environment) (o : BinaryOperator) (c : AssignmentOperator) → computing o ≡ Some c → (a : Tree) (x : Name) (b d : Tree) (s : State) (free : Bool) → not (is_none x.symbol) && free ≡ true → (free ≡ true → Told (value e a s) s) → value e (conditional a (assignment c (identifier x) b) (assignment c (identifier x) d)) s ≡ value e (assignment c (identifier x) (conditional a b d)) s
computed_chosen e o c h a x b d s free m t =
    let f : Tree = identifier x in
    let (known, effect_free) = and_parts (not (is_none x.symbol)) free m in
    let quiet : Told (value e a s) s = t effect_free in
    let goes_on : Value → Completion Value → Completion Value = λ v y. next y (λ u z. puts e x (made e o v u z)) in
    let follows : Tree → Value → State → Completion Value = λ t v z. goes_on v (value e t z) in
    conditional_value e a (assignment c f b) (assignment c f d) s
    ∙ begins_alike s (value e f s) (value e a s) (reading e x (not_so (is_none x.symbol) known) s) quiet (follows b) (follows d) (follows (conditional a b d))
    (λ v. ap (goes_on v) (conditional_value e a b d s) ∙ goes_on_chosen (goes_on v) (either_out _ _) (value e a s) s quiet (λ z. value e b z) (λ z. value e d z))
    (λ z. value e (assignment c f b) z) (λ z. value e (assignment c f d) z) (computed_value e o c h x b s) (computed_value e o c h x d s)
    ∙ sym (computed_value e o c h x (conditional a b d) s)

chosen_by : (o : AssignmentOperator) (a : Tree) (x : Name) (b c : Tree) (free : Bool) → may_choose o (not (is_none x.symbol)) free ≡ true → (e : Environment) (s : State) → (free ≡ true → Told (value e a s) s) → value e (conditional a (assignment o (identifier x) b) (assignment o (identifier x) c)) s ≡ value e (assignment o (identifier x) (conditional a b c)) s
chosen_by assigning.Assign a x b c free h e s t = chosen_value a x b c e s
chosen_by assigning.LogicalOr a x b c free h e s t = absurd (true≢false (sym h))
chosen_by assigning.LogicalAnd a x b c free h e s t = absurd (true≢false (sym h))
chosen_by assigning.LogicalNullish a x b c free h e s t = absurd (true≢false (sym h))
chosen_by assigning.Addition a x b c free h e s t = computed_chosen e binary_operator.Addition assigning.Addition refl a x b c s free h t
chosen_by assigning.Subtraction a x b c free h e s t = computed_chosen e binary_operator.Subtraction assigning.Subtraction refl a x b c s free h t
chosen_by assigning.Multiplication a x b c free h e s t = computed_chosen e binary_operator.Multiplication assigning.Multiplication refl a x b c s free h t
chosen_by assigning.Division a x b c free h e s t = computed_chosen e binary_operator.Division assigning.Division refl a x b c s free h t
chosen_by assigning.Remainder a x b c free h e s t = computed_chosen e binary_operator.Remainder assigning.Remainder refl a x b c s free h t
chosen_by assigning.Exponential a x b c free h e s t = computed_chosen e binary_operator.Exponential assigning.Exponential refl a x b c s free h t
chosen_by assigning.ShiftLeft a x b c free h e s t = computed_chosen e binary_operator.ShiftLeft assigning.ShiftLeft refl a x b c s free h t
chosen_by assigning.ShiftRight a x b c free h e s t = computed_chosen e binary_operator.ShiftRight assigning.ShiftRight refl a x b c s free h t
chosen_by assigning.ShiftRightZeroFill a x b c free h e s t = computed_chosen e binary_operator.ShiftRightZeroFill assigning.ShiftRightZeroFill refl a x b c s free h t
chosen_by assigning.BitwiseAnd a x b c free h e s t = computed_chosen e binary_operator.BitwiseAnd assigning.BitwiseAnd refl a x b c s free h t
chosen_by assigning.BitwiseXor a x b c free h e s t = computed_chosen e binary_operator.BitwiseXor assigning.BitwiseXor refl a x b c s free h t
chosen_by assigning.BitwiseOr a x b c free h e s t = computed_chosen e binary_operator.BitwiseOr assigning.BitwiseOr refl a x b c s free h t

-- where `this` is asked of the world only if it has an effect
pub chosen_there : (e : Environment) (asked : Bool) → (asked ≡ false → e.asks_this ≡ false) → (q : Seat) (n w : Tree) (r : ChosenRow asked q n w) (s : State) → value e (conditional r.a (assignment r.operator (identifier r.name) r.b) (assignment r.operator (identifier r.name) r.c)) s ≡ value e (assignment r.operator (identifier r.name) (conditional r.a r.b r.c)) s
chosen_there e asked f q n w r s = chosen_by r.operator r.a r.name r.b r.c (ef asked r.a) r.chosen e s (λ h. told_there e asked f r.a h s)

chosen_same : (s : Seat) (n w : Tree) → Row45 s n w → SameTree n w
chosen_same s n w r =
    let x : Tree = identifier r.name in
    same_by n w _ _ r.shape r.written
    (by_value _ _ (conditional_tells r.a (assignment r.operator x r.b) (assignment r.operator x r.c)) (assignment_tells r.operator x (conditional r.a r.b r.c)) refl (λ e y. chosen_there e true (λ f. absurd (true≢false f)) s n w r y))

-- 46

-- what a conditional does that asks whether a name is null or undefined
nullish_value : (e : Environment) (x : Name) (b t : Tree) (f : Bool → Bool) (y n : Tree) → ((s : State) → value e t s ≡ either (value e (identifier x) s) (λ v z. ok (Boolean (f (is_nullish v))) z) (λ x z. stop x z)) → ((v : Value) (s : State) → value e (identifier x) s ≡ ok v s → choose (f (is_nullish v)) (value e y s) (value e n s) ≡ choose (is_nullish v) (value e b s) (ok v s)) → (s : State) → value e (conditional t y n) s ≡ value e (logical Coalesce (identifier x) b) s
nullish_value e x b t f y n told same s =
    conditional_value e t y n s
    ∙ ap (λ k. either k (λ v z. choose (truth v) (value e y z) (value e n z)) (λ x z. stop x z)) (told s)
    ∙ simp runs (by_reading e x s (λ v z. choose (f (is_nullish v)) (value e y z) (value e n z)) (λ v z. choose (is_nullish v) (value e b z) (ok v z)) (λ v k. same v s k))
    ∙ sym (logical_value e Coalesce (identifier x) b s)

otherwise_read : (e : Environment) (x : Name) (b : Tree) (g : Bool) (v : Value) (s : State) → value e (identifier x) s ≡ ok v s → choose g (value e b s) (value e (identifier x) s) ≡ choose g (value e b s) (ok v s)
otherwise_read e x b g v s k = ap (λ y. choose g (value e b s) y) k

turned_read : (e : Environment) (x : Name) (b : Tree) (g : Bool) (v : Value) (s : State) → value e (identifier x) s ≡ ok v s → choose (not g) (value e (identifier x) s) (value e b s) ≡ choose g (value e b s) (ok v s)
turned_read e x b true v s k = refl
turned_read e x b false v s k = k

equal_same : (n w : Tree) → Row46Equal n w → SameTree n w
equal_same n w r =
    let x = r.name in
    let test = binary binary_operator.Equality (identifier x) null_literal in
    same_by n w _ _ r.shape r.written
    (by_value _ _ (conditional_tells test r.b (identifier x)) (logical_tells Coalesce (identifier x) r.b) refl
    (λ e s. nullish_value e x r.b test (λ b. b) r.b (identifier x) (equal_null e x) (λ v z k. otherwise_read e x r.b (is_nullish v) v z k) s))

unequal_same : (n w : Tree) → Row46Unequal n w → SameTree n w
unequal_same n w r =
    let x = r.name in
    let test = binary binary_operator.Inequality (identifier x) null_literal in
    same_by n w _ _ r.shape r.written
    (by_value _ _ (conditional_tells test (identifier x) r.b) (logical_tells Coalesce (identifier x) r.b) refl
    (λ e s. nullish_value e x r.b test not (identifier x) r.b (unequal_null e x) (λ v z k. turned_read e x r.b (is_nullish v) v z k) s))

-- 41

own_or_value : (x : Name) (b : Tree) (e : Environment) (s : State) → value e (conditional (identifier x) (identifier x) b) s ≡ value e (logical Or (identifier x) b) s
own_or_value x b e s =
    conditional_value e (identifier x) (identifier x) b s
    ∙ by_reading e x s (λ v z. choose (truth v) (value e (identifier x) z) (value e b z)) (λ v z. choose (not (truth v)) (value e b z) (ok v z)) (λ v k. own (truth v) v k)
    ∙ sym (logical_value e Or (identifier x) b s)
  where
    own : (g : Bool) (v : Value) → value e (identifier x) s ≡ ok v s → choose g (value e (identifier x) s) (value e b s) ≡ choose (not g) (value e b s) (ok v s)
    own true v k = k
    own false v k = refl

own_and_value : (x : Name) (b : Tree) (e : Environment) (s : State) → value e (conditional (identifier x) b (identifier x)) s ≡ value e (logical And (identifier x) b) s
own_and_value x b e s =
    conditional_value e (identifier x) b (identifier x) s
    ∙ by_reading e x s (λ v z. choose (truth v) (value e b z) (value e (identifier x) z)) (λ v z. choose (truth v) (value e b z) (ok v z)) (λ v k. otherwise_read e x b (truth v) v s k)
    ∙ sym (logical_value e And (identifier x) b s)

-- where a conditional has a branch in two places

abbrev Follows : Type 0
Follows = Value → State → Completion Value

-- the operator ends where the test tells the branch
ends_and : (e : Environment) (b : Tree) (g : Follows) (y : Completion Value) (v : Value) (z : State) (t : Bool) → (t ≡ false → g v z ≡ y) → choose t (either (value e b z) g (λ x k. stop x k)) y ≡ either (choose t (value e b z) (ok v z)) g (λ x k. stop x k)
unfolding either
ends_and e b g y v z true h = refl
ends_and e b g y v z false h = sym (h refl)

ends_or : (e : Environment) (b : Tree) (g : Follows) (y : Completion Value) (v : Value) (z : State) (t : Bool) → (t ≡ true → g v z ≡ y) → choose t y (either (value e b z) g (λ x k. stop x k)) ≡ either (choose (not t) (value e b z) (ok v z)) g (λ x k. stop x k)
unfolding either
ends_or e b g y v z true h = sym (h refl)
ends_or e b g y v z false h = refl

-- a conditional that goes on with b and what follows, or does at once what would follow
held_and : (e : Environment) (a b y n w : Tree) (g : Follows) → ((s : State) → value e y s ≡ either (value e b s) g (λ x k. stop x k)) → ((v : Value) (s : State) → truth v ≡ false → g v s ≡ value e n s) → ((s : State) → value e w s ≡ either (value e (logical And a b) s) g (λ x k. stop x k)) → (s : State) → value e (conditional a y n) s ≡ value e w s
unfolding either
held_and e a b y n w g holds ends whole s =
    conditional_value e a y n s
    ∙ either_cong (value e a s) _ _ _ _ (λ v z. ap (λ k. choose (truth v) k (value e n z)) (holds z) ∙ ends_and e b g (value e n z) v z (truth v) (ends v z)) (λ x z. refl)
    ∙ sym (whole s ∙ ap (λ k. either k g (λ x k. stop x k)) (logical_value e And a b s) ∙ either_assoc (value e a s) (λ v z. choose (truth v) (value e b z) (ok v z)) (λ x z. stop x z) g (λ x k. stop x k))

held_or : (e : Environment) (a b y n w : Tree) (g : Follows) → ((s : State) → value e n s ≡ either (value e b s) g (λ x k. stop x k)) → ((v : Value) (s : State) → truth v ≡ true → g v s ≡ value e y s) → ((s : State) → value e w s ≡ either (value e (logical Or a b) s) g (λ x k. stop x k)) → (s : State) → value e (conditional a y n) s ≡ value e w s
unfolding either
held_or e a b y n w g holds ends whole s =
    conditional_value e a y n s
    ∙ either_cong (value e a s) _ _ _ _ (λ v z. ap (λ k. choose (truth v) (value e y z) k) (holds z) ∙ ends_or e b g (value e y z) v z (truth v) (ends v z)) (λ x z. refl)
    ∙ sym (whole s ∙ ap (λ k. either k g (λ x k. stop x k)) (logical_value e Or a b s) ∙ either_assoc (value e a s) (λ v z. choose (not (truth v)) (value e b z) (ok v z)) (λ x z. stop x z) g (λ x k. stop x k))

-- 42

choice_and_same : (a b c d : Tree) → SameTree (conditional a (conditional b c d) d) (conditional (logical And a b) c d)
choice_and_same a b c d =
    by_value _ _ (conditional_tells a (conditional b c d) d) (conditional_tells (logical And a b) c d) refl
    (λ e s. held_and e a b (conditional b c d) d (conditional (logical And a b) c d) (λ v z. choose (truth v) (value e c z) (value e d z)) (λ z. conditional_value e b c d z) (λ v z h. ap (λ t. choose t (value e c z) (value e d z)) h) (λ z. conditional_value e (logical And a b) c d z) s)

choice_or_same : (a b c d : Tree) → SameTree (conditional a c (conditional b c d)) (conditional (logical Or a b) c d)
choice_or_same a b c d =
    by_value _ _ (conditional_tells a c (conditional b c d)) (conditional_tells (logical Or a b) c d) refl
    (λ e s. held_or e a b c (conditional b c d) (conditional (logical Or a b) c d) (λ v z. choose (truth v) (value e c z) (value e d z)) (λ z. conditional_value e b c d z) (λ v z h. ap (λ t. choose t (value e c z) (value e d z)) h) (λ z. conditional_value e (logical Or a b) c d z) s)

-- 43

or_same : (a b c : Tree) → SameTree (conditional a (logical Or b c) c) (logical Or (logical And a b) c)
or_same a b c =
    by_value _ _ (conditional_tells a (logical Or b c) c) (logical_tells Or (logical And a b) c) refl
    (λ e s. held_and e a b (logical Or b c) c (logical Or (logical And a b) c) (λ v z. choose (not (truth v)) (value e c z) (ok v z)) (λ z. logical_value e Or b c z) (λ v z h. ap (λ t. choose (not t) (value e c z) (ok v z)) h) (λ z. logical_value e Or (logical And a b) c z) s)

and_same : (a b c : Tree) → SameTree (conditional a c (logical And b c)) (logical And (logical Or a b) c)
and_same a b c =
    by_value _ _ (conditional_tells a c (logical And b c)) (logical_tells And (logical Or a b) c) refl
    (λ e s. held_or e a b c (logical And b c) (logical And (logical Or a b) c) (λ v z. choose (truth v) (value e c z) (ok v z)) (λ z. logical_value e And b c z) (λ v z h. ap (λ t. choose t (value e c z) (ok v z)) h) (λ z. logical_value e And (logical Or a b) c z) s)

and_then_same : (a b c : Tree) → SameTree (conditional a (pair b c) c) (pair (logical And a b) c)
and_then_same a b c =
    by_value _ _ (conditional_tells a (pair b c) c) (pair_tells (logical And a b) c) refl
    (λ e s. held_and e a b (pair b c) c (pair (logical And a b) c) (λ v z. value e c z) (λ z. pair_value e b c z) (λ v z h. refl) (λ z. pair_value e (logical And a b) c z) s)

or_then_same : (a b c : Tree) → SameTree (conditional a c (pair b c)) (pair (logical Or a b) c)
or_then_same a b c =
    by_value _ _ (conditional_tells a c (pair b c)) (pair_tells (logical Or a b) c) refl
    (λ e s. held_or e a b c (pair b c) (pair (logical Or a b) c) (λ v z. value e c z) (λ z. pair_value e b c z) (λ v z h. refl) (λ z. pair_value e (logical Or a b) c z) s)

-- 49

anyhow : (b : Bool) (y : Completion Value) → choose b y y ≡ y
anyhow true y = refl
anyhow false y = refl

both_same : (a b : Tree) → SameTree (conditional a b b) (pair a b)
both_same a b =
    by_value _ _ (conditional_tells a b b) (pair_tells a b) refl
    (λ e s. conditional_value e a b b s ∙ either_cong (value e a s) _ _ _ _ (λ v z. anyhow (truth v) (value e b z)) (λ x z. refl) ∙ sym (pair_value e a b s))

-- 57

-- what `typeof` is given of a name: what reading it gives, unless the name is missing or not initialised
abbrev Typed : Completion Value → Completion Value → State → Type 0
Typed y t s = (Breaks y × ((t ≡ out) ⊎ (t ≡ ok Undefined s))) ⊎ (t ≡ y)

slot_typed : (e : Environment) (y : Variable) (k : Slot) (s : State) → Typed (read_name e y k s) (read_type y k s) s
unfolding read_slot read_any
slot_typed e (Declared n) k s = inr refl
slot_typed e (Global t) (Holds v) s = inr refl
slot_typed e (Global t) Missing s = inl (raised_breaks e s.answers (note e (Raise ReferenceError) None [] None s), inr refl)
slot_typed e (Global t) Uninitialised s = inl (tt, inl refl)

kind_typed : (e : Environment) (y : Variable) (K L : Kids (λ i. Stat None)) (k : NameKind) (s : State) → Typed (run {q = λ i. Stat None} e (naming shape.Identifier (As Val) (y ∷ []) 0 []) K (bind (get_identifier k) (λ v. ret v)) s) (run {q = λ i. Stat None} e (naming shape.Identifier OfType (y ∷ []) 0 []) L (bind (type_identifier k) ret) s) s
unfolding act at_variable
kind_typed e y K L UndefinedName s = inr refl
kind_typed e y K L NumberName s = inl (tt, inl refl)
kind_typed e y K L k s = subst₂ (λ a b. Typed a b s) (sym (either_eta (read_name e y (s.vars y) s))) (sym (either_eta (read_type y (s.vars y) s))) (slot_typed e y (s.vars y) s)

typed : (e : Environment) (x : Name) (s : State) → Typed (value e (identifier x) s) (means e (identifier x) OfType tt s) s
unfolding means step
typed e x s = kind_typed e (variable_of x) (λ i r z. meaning e none i (Stat None) r z) (λ i r z. meaning e none i (Stat None) r z) (kind_of x) s

-- what the comparison says of the value
abbrev told_object : Bool → Value → Bool
told_object there Null = there
told_object there (Object n false) = there
told_object there v = not there

object_compared : (e : Environment) (there : Bool) (a b : Tree) (v : Value) (z : State) → run {q = λ i. As Val} e (binary_names (loosely there) a b) (sides e a b) (operate_by (loosely there) (String (type_text v)) (String (codes "object"))) z ≡ ok (Boolean (told_object there v)) z
object_compared e true a b Undefined z = refl
object_compared e true a b Null z = refl
object_compared e true a b (Boolean c) z = refl
object_compared e true a b (Number n) z = refl
object_compared e true a b (String c) z = refl
object_compared e true a b (Symbol n) z = refl
object_compared e true a b (Object n true) z = refl
object_compared e true a b (Object n false) z = refl
object_compared e false a b Undefined z = refl
object_compared e false a b Null z = refl
object_compared e false a b (Boolean c) z = refl
object_compared e false a b (Number n) z = refl
object_compared e false a b (String c) z = refl
object_compared e false a b (Symbol n) z = refl
object_compared e false a b (Object n true) z = refl
object_compared e false a b (Object n false) z = refl

text_value : (e : Environment) (c : List ℕ) (s : State) → value e (text c) s ≡ ok (String c) s
unfolding means step
text_value e c s = refl

type_value : (e : Environment) (x : Name) (s : State) → value e (unary Typeof (identifier x)) s ≡ either (means e (identifier x) OfType tt s) (λ v y. ok (String (type_text v)) y) (λ y z. stop y z)
unfolding means meaning step
type_value e x s = refl

object_value : (e : Environment) (there : Bool) (x : Name) (s : State) → value e (asks_object there x) s ≡ either (means e (identifier x) OfType tt s) (λ v z. ok (Boolean (told_object there v)) z) (λ y z. stop y z)
object_value e there x s =
    let a = unary Typeof (identifier x) in
    let b = text (codes "object") in
    binary_value e (loosely there) a b s
    ∙ ap (λ k. either k (λ v z. either (value e b z) (λ u y. run {q = λ i. As Val} e (binary_names (loosely there) a b) (sides e a b) (operate_by (loosely there) v u) y) (λ x y. stop x y)) (λ x z. stop x z)) (type_value e x s)
    ∙ either_assoc (means e (identifier x) OfType tt s) (λ v y. ok (String (type_text v)) y) (λ y z. stop y z) _ _
    ∙ either_cong (means e (identifier x) OfType tt s) _ _ _ _ (λ v z. either_ok (String (type_text v)) z _ _ ∙ ap (λ k. either k (λ u y. run {q = λ i. As Val} e (binary_names (loosely there) a b) (sides e a b) (operate_by (loosely there) (String (type_text v)) u) y) (λ x y. stop x y)) (text_value e (codes "object") z) ∙ either_ok (String (codes "object")) z _ _ ∙ object_compared e there a b v z) (λ y z. either_stop y z _ _)

-- what a comparison with null says, and what `!!x` or `!x` does
abbrev told_null : Bool → Bool → Value → Bool
told_null true equal v = told_strictly equal v Null
told_null false equal v = told_loosely equal v

beside_value : (e : Environment) (strict equal : Bool) (x : Name) (s : State) → value e (null_compared strict equal x) s ≡ either (value e (identifier x) s) (λ v z. ok (Boolean (told_null strict equal v)) z) (λ y z. stop y z)
beside_value e true equal x s = strict_value e equal x null_literal Null (null_value e) s
beside_value e false equal x s = loose_value e equal x s

abbrev told_held : Bool → Value → Bool
told_held true v = not (not (truth v))
told_held false v = not (truth v)

held_value : (e : Environment) (there : Bool) (x : Name) (s : State) → value e (held there x) s ≡ either (value e (identifier x) s) (λ v z. ok (Boolean (told_held there v)) z) (λ y z. stop y z)
held_value e false x s = negation_opened e (identifier x) s
held_value e true x s =
    negation_opened e (negation (identifier x)) s
    ∙ ap (λ k. either k (λ v z. ok (Boolean (not (truth v))) z) (λ y z. stop y z)) (negation_opened e (identifier x) s)
    ∙ either_assoc (value e (identifier x) s) (λ v z. ok (Boolean (not (truth v))) z) (λ y z. stop y z) _ _
    ∙ either_cong (value e (identifier x) s) _ _ _ _ (λ v z. either_ok (Boolean (not (truth v))) z _ _) (λ y z. either_stop y z _ _)

-- beside the comparison of `typeof` both say the same

chosen_first : (there strict : Bool) (v : Value) (z : State) → choose (assigns (joining (not there)) (Boolean (told_object there v))) (ok (Boolean (told_null strict (not there) v)) z) (ok (Boolean (told_object there v)) z) ≡ choose (assigns (joining (not there)) (Boolean (told_object there v))) (ok (Boolean (told_held there v)) z) (ok (Boolean (told_object there v)) z)
chosen_first true true Null z = refl
chosen_first true true (Object n false) z = refl
chosen_first true true v z = refl
chosen_first true false Null z = refl
chosen_first true false (Object n false) z = refl
chosen_first true false v z = refl
chosen_first false true Null z = refl
chosen_first false true (Object n false) z = refl
chosen_first false true v z = refl
chosen_first false false Null z = refl
chosen_first false false (Object n false) z = refl
chosen_first false false v z = refl

closes : (there q : Bool) (z : State) → choose (assigns (joining (not there)) (Boolean q)) (ok (Boolean (not there)) z) (ok (Boolean q) z) ≡ ok (Boolean (not there)) z
closes true true z = refl
closes true false z = refl
closes false true z = refl
closes false false z = refl

abbrev Last : Bool → Bool → Value → State → Type 0
Last there strict v z = choose (assigns (joining (not there)) (Boolean (told_null strict (not there) v))) (ok (Boolean (told_object there v)) z) (ok (Boolean (told_null strict (not there) v)) z) ≡ choose (assigns (joining (not there)) (Boolean (told_held there v))) (ok (Boolean (told_object there v)) z) (ok (Boolean (told_held there v)) z)

no_object : (there strict : Bool) (v : Value) (z : State) → told_object there v ≡ not there → Last there strict v z
no_object there strict v z h =
    ap (λ t. choose (assigns (joining (not there)) (Boolean (told_null strict (not there) v))) (ok (Boolean t) z) (ok (Boolean (told_null strict (not there) v)) z)) h
    ∙ closes there (told_null strict (not there) v) z
    ∙ sym (ap (λ t. choose (assigns (joining (not there)) (Boolean (told_held there v))) (ok (Boolean t) z) (ok (Boolean (told_held there v)) z)) h ∙ closes there (told_held there v) z)

chosen_last : (there strict : Bool) (v : Value) (z : State) → Last there strict v z
chosen_last true true Null z = refl
chosen_last true false Null z = refl
chosen_last false true Null z = refl
chosen_last false false Null z = refl
chosen_last true true (Object n false) z = refl
chosen_last true false (Object n false) z = refl
chosen_last false true (Object n false) z = refl
chosen_last false false (Object n false) z = refl
chosen_last there strict Undefined z = no_object there strict Undefined z refl
chosen_last there strict (Boolean b) z = no_object there strict (Boolean b) z refl
chosen_last there strict (Number n) z = no_object there strict (Number n) z refl
chosen_last there strict (String c) z = no_object there strict (String c) z refl
chosen_last there strict (Symbol n) z = no_object there strict (Symbol n) z refl
chosen_last there strict (Object n true) z = no_object there strict (Object n true) z refl

missing_first : (there : Bool) (c d : Completion Value) (z : State) → choose (assigns (joining (not there)) (Boolean (told_object there Undefined))) c (ok (Boolean (told_object there Undefined)) z) ≡ choose (assigns (joining (not there)) (Boolean (told_object there Undefined))) d (ok (Boolean (told_object there Undefined)) z)
missing_first true c d z = refl
missing_first false c d z = refl

-- a comparison that says something of the value of a name, where that is read
says_there : (e : Environment) (x : Name) (t : Tree) (p : Value → Bool) → ((s : State) → value e t s ≡ either (value e (identifier x) s) (λ v z. ok (Boolean (p v)) z) (λ y z. stop y z)) → (v : Value) (s : State) → value e (identifier x) s ≡ ok v s → value e t s ≡ ok (Boolean (p v)) s
says_there e x t p h v s k = h s ∙ ap (λ y. either y (λ v z. ok (Boolean (p v)) z) (λ y z. stop y z)) k ∙ either_ok v s _ _

out_same : (f g : Value → State → Completion Value) → either out f (λ y z. stop y z) ≡ either out g (λ y z. stop y z)
unfolding either
out_same f g = refl

module _ (e : Environment) (there strict : Bool) (x : Name) where
  abbrev o : LogicalOperator
  o = joining (not there)

  abbrev asks : Tree
  asks = asks_object there x

  abbrev beside : Tree
  beside = null_compared strict (not there) x

  abbrev follows : Tree → Value → State → Completion Value
  follows t v z = choose (assigns o (Boolean (told_object there v))) (value e t z) (ok (Boolean (told_object there v)) z)

  asked_first : (t : Tree) (s : State) → value e (logical o asks t) s ≡ either (means e (identifier x) OfType tt s) (follows t) (λ y z. stop y z)
  asked_first t s =
      logical_value e o asks t s
      ∙ ap (λ k. either k (λ v z. choose (assigns o v) (value e t z) (ok v z)) (λ y z. stop y z)) (object_value e there x s)
      ∙ either_assoc (means e (identifier x) OfType tt s) (λ v z. ok (Boolean (told_object there v)) z) (λ y z. stop y z) _ _
      ∙ either_cong (means e (identifier x) OfType tt s) _ _ _ _ (λ v z. either_ok (Boolean (told_object there v)) z _ _) (λ y z. either_stop y z _ _)

  same_first : (v : Value) (s : State) → value e (identifier x) s ≡ ok v s → follows beside v s ≡ follows (held there x) v s
  same_first v s k =
      ap (λ c. choose (assigns o (Boolean (told_object there v))) c (ok (Boolean (told_object there v)) s)) (says_there e x beside (told_null strict (not there)) (beside_value e strict (not there) x) v s k)
      ∙ chosen_first there strict v s
      ∙ sym (ap (λ c. choose (assigns o (Boolean (told_object there v))) c (ok (Boolean (told_object there v)) s)) (says_there e x (held there x) (told_held there) (held_value e there x) v s k))

  first_follows : (s : State) → either (means e (identifier x) OfType tt s) (follows beside) (λ y z. stop y z) ≡ either (means e (identifier x) OfType tt s) (follows (held there x)) (λ y z. stop y z)
  first_follows s = by (typed e x s)
    where
      by : Typed (value e (identifier x) s) (means e (identifier x) OfType tt s) s → either (means e (identifier x) OfType tt s) (follows beside) (λ y z. stop y z) ≡ either (means e (identifier x) OfType tt s) (follows (held there x)) (λ y z. stop y z)
      by (inl (q, inl g)) = subst (λ k. either k (follows beside) (λ y z. stop y z) ≡ either k (follows (held there x)) (λ y z. stop y z)) (sym g) (out_same (follows beside) (follows (held there x)))
      by (inl (q, inr g)) = subst (λ k. either k (follows beside) (λ y z. stop y z) ≡ either k (follows (held there x)) (λ y z. stop y z)) (sym g) (either_ok Undefined s _ _ ∙ missing_first there (value e beside s) (value e (held there x) s) s ∙ sym (either_ok Undefined s _ _))
      by (inr g) = subst (λ k. either k (follows beside) (λ y z. stop y z) ≡ either k (follows (held there x)) (λ y z. stop y z)) (sym g) (by_reading e x s (follows beside) (follows (held there x)) (λ v k. same_first v s k))

  type_first : (s : State) → value e (logical o asks beside) s ≡ value e (logical o asks (held there x)) s
  type_first s = asked_first beside s ∙ first_follows s ∙ sym (asked_first (held there x) s)

  -- the other way round

  asks_there : (v : Value) (s : State) → value e (identifier x) s ≡ ok v s → value e asks s ≡ ok (Boolean (told_object there v)) s
  asks_there v s k = object_value e there x s ∙ by (typed e x s)
    where
      by : Typed (value e (identifier x) s) (means e (identifier x) OfType tt s) s → either (means e (identifier x) OfType tt s) (λ v z. ok (Boolean (told_object there v)) z) (λ y z. stop y z) ≡ ok (Boolean (told_object there v)) s
      by (inl (q, g)) = absurd (subst Breaks k q)
      by (inr g) = ap (λ c. either c (λ v z. ok (Boolean (told_object there v)) z) (λ y z. stop y z)) (g ∙ k) ∙ either_ok v s _ _

  told_then : (t : Tree) (p : Value → Bool) → ((s : State) → value e t s ≡ either (value e (identifier x) s) (λ v z. ok (Boolean (p v)) z) (λ y z. stop y z)) → (s : State) → value e (logical o t asks) s ≡ either (value e (identifier x) s) (λ v z. choose (assigns o (Boolean (p v))) (value e asks z) (ok (Boolean (p v)) z)) (λ y z. stop y z)
  told_then t p h s =
      logical_value e o t asks s
      ∙ ap (λ k. either k (λ v z. choose (assigns o v) (value e asks z) (ok v z)) (λ y z. stop y z)) (h s)
      ∙ either_assoc (value e (identifier x) s) (λ v z. ok (Boolean (p v)) z) (λ y z. stop y z) _ _
      ∙ either_cong (value e (identifier x) s) _ _ _ _ (λ v z. either_ok (Boolean (p v)) z _ _) (λ y z. either_stop y z _ _)

  null_first_same : (s : State) → value e (logical o beside asks) s ≡ value e (logical o (held there x) asks) s
  null_first_same s =
      told_then beside (told_null strict (not there)) (beside_value e strict (not there) x) s
      ∙ by_reading e x s _ _ (λ v k. ap (λ c. choose (assigns o (Boolean (told_null strict (not there) v))) c (ok (Boolean (told_null strict (not there) v)) s)) (asks_there v s k) ∙ chosen_last there strict v s ∙ sym (ap (λ c. choose (assigns o (Boolean (told_held there v))) c (ok (Boolean (told_held there v)) s)) (asks_there v s k)))
      ∙ sym (told_then (held there x) (told_held there) (held_value e there x) s)

-- behind an equal operator
ended_value : (e : Environment) (o : LogicalOperator) (before : Option Tree) (a b c d : Tree) → ((s : State) → value e (logical o a b) s ≡ value e (logical o c d) s) → (s : State) → value e (logical o (ended o before a) b) s ≡ value e (logical o (ended o before c) d) s
ended_value e o None a b c d h s = h s
ended_value e o (Some f) a b c d h s = sym (rotated_value o f a b e s) ∙ right_value o f (logical o a b) (logical o c d) e h s ∙ rotated_value o f c d e s

type_same : (n w : Tree) → Row57 n w → SameTree n w
type_same n w r =
    let o = joining (not r.there) in
    let t = asks_object r.there r.name in
    same_by n w _ _ r.shape r.written
    (by_value _ _ (logical_tells o (ended o r.before t) (null_compared r.strict (not r.there) r.name)) (logical_tells o (ended o r.before t) (held r.there r.name)) refl
    (λ e s. ended_value e o r.before t (null_compared r.strict (not r.there) r.name) t (held r.there r.name) (type_first e r.there r.strict r.name) s))

null_type_same : (n w : Tree) → Row57Null n w → SameTree n w
null_type_same n w r =
    let o = joining (not r.there) in
    let t = asks_object r.there r.name in
    same_by n w _ _ r.shape r.written
    (by_value _ _ (logical_tells o (ended o r.before (null_compared r.strict (not r.there) r.name)) t) (logical_tells o (ended o r.before (held r.there r.name)) t) refl
    (λ e s. ended_value e o r.before (null_compared r.strict (not r.there) r.name) t (held r.there r.name) t (null_first_same e r.there r.strict r.name) s))

-- all

lighter_same : (s : Seat) (n w : Tree) → LighterRow s n w → SameTree n w
lighter_same s n w (Rotated r) = same_by n w _ _ r.shape r.written (rotated_same r.operator r.a r.b r.last r.others)
lighter_same s n w (Decided r) = same_by n w _ _ r.shape r.written (deciding_same r.operator r.name r.b)
lighter_same s n w (Combined r) = computing_same n w r
lighter_same s n w (NullishIfEqual r) = equal_same n w r
lighter_same s n w (NullishIfUnequal r) = unequal_same n w r
lighter_same s n w (LooseNull r) = nullish_same n w r
lighter_same s n w (LooseNullAfter r) = nullish_after_same n w r
lighter_same s n w (ObjectTest r) = type_same n w r
lighter_same s n w (ObjectTestAfter r) = null_type_same n w r
lighter_same s n w (CombinedMember r) = member_same n w r
lighter_same s n w (ChosenMember r) = member_chosen_same s n w r
lighter_same s n w (DecidedLast r) = last_same s n w r
lighter_same s n w (Chosen r) = chosen_same s n w r

own_same : (n w : Tree) → OwnRow n w → SameTree n w
own_same n w (OrTest r) = same_by n w _ _ r.shape r.written (by_value _ _ (conditional_tells (identifier r.name) (identifier r.name) r.b) (logical_tells Or (identifier r.name) r.b) refl (own_or_value r.name r.b))
own_same n w (AndTest r) = same_by n w _ _ r.shape r.written (by_value _ _ (conditional_tells (identifier r.name) r.b (identifier r.name)) (logical_tells And (identifier r.name) r.b) refl (own_and_value r.name r.b))

held_same : (n w : Tree) → HeldRow n w → SameTree n w
held_same n w (AndBoth r) = same_by n w _ _ r.shape r.written (choice_and_same r.a r.b r.c r.d)
held_same n w (OrEither r) = same_by n w _ _ r.shape r.written (choice_or_same r.a r.b r.c r.d)
held_same n w (LastAfterOr r) = same_by n w _ _ r.shape r.written (or_same r.a r.b r.c)
held_same n w (LastAfterAnd r) = same_by n w _ _ r.shape r.written (and_same r.a r.b r.c)
held_same n w (AndThenOr r) = same_by n w _ _ r.shape r.written (and_then_same r.a r.b r.c)
held_same n w (OrThenAnd r) = same_by n w _ _ r.shape r.written (or_then_same r.a r.b r.c)
held_same n w (Alike r) = same_by n w _ _ r.shape r.written (both_same r.a r.b)

means_same : (p : Position) (n w : Tree) → ChoiceRow p n w → SameAt p n w
means_same (Expr s) n w (Shorter r) = tree_same s n w (lighter_same s n w r)
means_same (Expr s) n w (TestedBranch r) = tree_same s n w (own_same n w r)
means_same (Expr s) n w (SharedBranch r) = tree_same s n w (held_same n w r)
means_same (Expr s) n w (OptionalChain r) = chain_row_same s n w r
means_same (Expr s) n w (JoinedCall r) = tree_same s n w (calls_same n w r)
means_same (Expr s) n w (ChainLink r) = chains_same s n w r
means_same (Expr s) n w (ChainEnd r) = end_same s n w r
means_same (Expr s) n w (BothSides r) = tree_same s n w (both_sides_same n w r)
means_same (Expr s) n w (ChosenIndexed r) = tree_same s n w (indexed_same s n w r)
means_same (Expr s) n w (ZeroFirst r) = zero_row_same s n w r
means_same p n w r = absurd r

reads : (p : Position) (n w : Tree) → ChoiceRow p n w → summary n ≡ summary w
reads (Expr s) n w (Shorter r) = (lighter_same s n w r).read
reads (Expr s) n w (TestedBranch r) = (own_same n w r).read
reads (Expr s) n w (SharedBranch r) = (held_same n w r).read
reads (Expr s) n w (OptionalChain r) = chain_row_read s n w r
reads (Expr s) n w (JoinedCall r) = (calls_same n w r).read
reads (Expr s) n w (ChainLink r) = chains_read s n w r
reads (Expr s) n w (ChainEnd r) = end_read s n w r
reads (Expr s) n w (BothSides r) = (both_sides_same n w r).read
reads (Expr s) n w (ChosenIndexed r) = (indexed_same s n w r).read
reads (Expr s) n w (ZeroFirst r) = zero_row_read s n w r
reads p n w r = absurd r

pub choices_same : MeansSame ChoiceContracts
choices_same = record { same = λ p n w c. means_same p n w c.row; reads = λ p n w c. reads p n w c.row }
