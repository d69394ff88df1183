-- What the calls of operators write is what their own rows say, and where they write nothing none of these reads the node.
use Rattle.std.proofs.Common.{◌≡◌, Bool, true, false, Option, Some, None, refl, sym, ap, subst, ◌∙◌, inl, inr, true≢false}
use Rattle.std.specs.Prelude.{◌⊎◌, ◌&&◌, ◌||◌, ℤ, is_some, if◌then◌else◌}
use Rattle.std.proofs.lemmas.Bool.{and_parts}
use Rattle.mini_model.specs.declared.operator.BinaryOperator.{BinaryOperator}
use Rattle.mini_model.specs.declared.operator.BinaryOperator.TheVariants.{Equality, Inequality, StrictEquality, StrictInequality, BitwiseAnd, BitwiseXor, BitwiseOr, ShiftLeft, ShiftRight}
use Rattle.mini_model.specs.declared.operator.UnaryOperator.TheVariants.{Typeof}
use Rattle.mini_model.specs.declared.seat.Seat.{Seat}
use Rattle.mini_model.specs.Position.{is_equality}
use Rattle.mini_model.specs.Tree.{Tree, unary, identifier}
use Rattle.mini_node.specs.Children.{part}
use Rattle.mini_node.specs.Kinds.{binary_operator}
use Rattle.mini_node.specs.Made.{binary_is}
use Rattle.mini_node.proofs.Equality.{tree_itself}
use Rattle.mini_laws.specs.Operators.{same_boolean}
use Rattle.mini_terms.specs.Calculated.{operand_value}
use Rattle.mini_terms.specs.Folds.{is_effect_free, has_one_kind}
use Rattle.mini_terms.specs.Kind.{is_number, kind}
use Rattle.mini_terms.specs.Parts.{suits, leaves_nothing}
use Rattle.mini_rows.specs.Booleans.{digit, plus}
use Rattle.mini_rows.specs.Choices.{loosely}
use Rattle.mini_rows.specs.Folding.{loosened}
use Rattle.mini_rows.specs.Operands.{beside, told_by as answer, is_int32, is_shifted, encloses, keeps_bits, has_room, zero_told, Row27, Row27Asked, Row27Enclosed, Row30}
use Rattle.mini_rows.specs.Operators.{is_bitwise, is_no_type, makes_numbers}
use Rattle.mini_rows.specs.Spellings.{binary, negated_digit, numeral}
use Rattle.mini_fold.specs.FoldOperands.{tests_bits, tests_shift, tests_enclosed, truth_in, is_boolean_kind, is_told, left_written, kept_written, whole_written}
use Rattle.mini_fold.specs.FoldOperators.{told, are_types_same, is_never_type, is_number_value, drops_left, drops_right, boolean_or}
use Rattle.mini_fold.specs.MinimizeBinary as equality
use Rattle.mini_fold.specs.Names.{typeof_by, typeof_written, plus_by, plus_written, digits_written, loose_by, loose_in, loose_written, bitwise_by, bitwise_in, bitwise_written, boolean_written, equal_written, binary_by, binary_in, binary_written}
use Rattle.mini_fold.proofs.KnownSides.{equality_is_row}
use Rattle.mini_fold.proofs.Operands.{both_true, there, zero_row, shift_row, enclosed_row, there_or, tested, truth_is, boolean_kind, or_else_there, or_else_other, kept_row, bits_row, wholes_row, kept_there}
use Rattle.mini_fold.proofs.Operators.{told_row, plus_or, boolean_first, boolean_second, first_there, second_there}
use Rattle.mini_calls.specs.OwnRows.{Own, OwnIn, TypeofRow, PlusRow, BitwiseRow, BinaryRow}

pub some_is : (x y : Tree) → Some x ≡ Some y → x ≡ y
some_is x y e = cc e

pub nothing : {A : Type 0} {a : A} {B : Type 0} → None ≡ Some a → B
nothing e = cc e

-- where something is written for it, it isn't so that nothing is
pub none_there : (o : Option Tree) → is_some o ≡ true → o ≡ None → ⊥
none_there o e f = true≢false (sym e ∙ ap is_some f)

-- ---- 16 and 17

typeof_said : (n w : Tree) → typeof_written n ≡ Some w → TypeofRow n w
typeof_said n w e = go (binary_operator n) refl e
  where
    by : (o : BinaryOperator) → binary_operator n ≡ Some o → (c : Option Bool) → told o n ≡ c → boolean_or c None ≡ Some w → TypeofRow n w
    by o h (Some c) k f = subst (TypeofRow n) (some_is (negated_digit c) w f) (told_row n o c (binary_is n o h) k)
    by o h None k f = nothing f

    go : (o : Option BinaryOperator) → binary_operator n ≡ o → typeof_by o n ≡ Some w → TypeofRow n w
    go (Some o) h f = by o h (told o n) refl f
    go None h f = nothing f

typeof_there : (n w : Tree) → TypeofRow n w → is_some (typeof_written n) ≡ true
typeof_there n w (inl r) =
    let t : Tree = unary Typeof (identifier r.name) in
    ap (λ x. is_some (typeof_written x)) r.shape ∙ boolean_first r.operator (is_equality r.operator) (are_types_same t t) (is_never_type true (binary r.operator t t)) None r.equality (tree_itself t)
typeof_there n w (inr r) =
    let t : Tree = binary r.operator (unary Typeof r.operand) r.right in
    ap (λ x. is_some (typeof_written x)) r.shape
    ∙ boolean_second r.operator (is_equality r.operator) (are_types_same (unary Typeof r.operand) r.right) (is_never_type true t) None r.equality
    (both_true (is_no_type r.right) (is_effect_free t && leaves_nothing t) r.known (both_true (is_effect_free t) (leaves_nothing t) r.effect_free r.dropped))

pub typeof_own : Own typeof_written TypeofRow
typeof_own = record { written = typeof_said; unwritten = λ n e w r. none_there (typeof_written n) (typeof_there n w r) e }

-- ---- 56

plus_said : (n w : Tree) → plus_written n ≡ Some w → PlusRow n w
plus_said n w e = go (binary_operator n) refl e
  where
    row : PlusRow n w ⊎ (None ≡ Some w) → PlusRow n w
    row (inl r) = r
    row (inr f) = nothing f

    go : (o : Option BinaryOperator) → binary_operator n ≡ o → plus_by o n ≡ Some w → PlusRow n w
    go (Some o) h f = row (plus_or n o (part n 0) (part n 1) (binary_is n o h) w None f)
    go None h f = nothing f

plus_there : (n w : Tree) → PlusRow n w → is_some (plus_written n) ≡ true
plus_there n w (inl r) =
    ap (λ x. is_some (plus_written x)) r.shape
    ∙ first_there (drops_left r.operator (plus r.operand) r.right) (binary r.operator r.operand r.right) _ (both_true (makes_numbers r.operator) (is_number_value (operand_value r.right)) r.numeric (ap is_number_value r.known))
plus_there n w (inr r) =
    ap (λ x. is_some (plus_written x)) r.shape
    ∙ second_there (drops_left r.operator r.left (plus r.operand)) (drops_right r.operator r.left (plus r.operand)) (binary r.operator (part r.left 0) (plus r.operand)) (binary r.operator r.left r.operand) None (both_true (makes_numbers r.operator) (is_number (kind r.left)) r.numeric (ap is_number r.known))

pub plus_own : Own plus_written PlusRow
plus_own = record { written = plus_said; unwritten = λ n e w r. none_there (plus_written n) (plus_there n w r) e }

-- ---- 30

loose_said : (n w : Tree) → loose_written n ≡ Some w → Row30 n w
loose_said n w e = go (binary_operator n) refl e
  where
    by : (equal : Bool) (a b : Tree) → n ≡ binary (loosely equal) a b → (c d : Option Bool) → truth_in b ≡ c → truth_in a ≡ d → digits_written equal c a b ≡ Some w → Row30 n w
    by equal a b is (Some c) d h k f = record { equal = equal; truth = c; on_right = true; operand = a; shape = is ∙ ap (binary (loosely equal) a) (truth_is b c h); written = sym (some_is (binary (loosely equal) a (digit c)) w f) }
    by equal a b is None (Some d) h k f = record { equal = equal; truth = d; on_right = false; operand = b; shape = is ∙ ap (λ t. binary (loosely equal) t b) (truth_is a d k); written = sym (some_is (binary (loosely equal) (digit d) b) w (sym (ap (λ o. left_written equal o b) k) ∙ f)) }
    by equal a b is None None h k f = nothing (sym (ap (λ o. left_written equal o b) k) ∙ f)

    of : (o : BinaryOperator) → binary_operator n ≡ Some o → loose_by o n ≡ Some w → Row30 n w
    of Equality h f = by true (part n 0) (part n 1) (binary_is n Equality h) (truth_in (part n 1)) (truth_in (part n 0)) refl refl f
    of Inequality h f = by false (part n 0) (part n 1) (binary_is n Inequality h) (truth_in (part n 1)) (truth_in (part n 0)) refl refl f
    of o h f = nothing f

    go : (o : Option BinaryOperator) → binary_operator n ≡ o → loose_in o n ≡ Some w → Row30 n w
    go (Some o) h f = of o h f
    go None h f = nothing f

digits_there : (equal c : Bool) (a : Tree) (o : Option Bool) → is_some (digits_written equal o (negated_digit c) a) ≡ true
digits_there equal c a (Some d) = refl
digits_there equal true a None = refl
digits_there equal false a None = refl

loose_beside : (equal c r : Bool) (a : Tree) → is_some (loose_written (beside (loosely equal) r a (negated_digit c))) ≡ true
loose_beside true true true a = refl
loose_beside true false true a = refl
loose_beside false true true a = refl
loose_beside false false true a = refl
loose_beside true c false a = digits_there true c a (truth_in a)
loose_beside false c false a = digits_there false c a (truth_in a)

pub loose_own : Own loose_written Row30
loose_own = record { written = loose_said; unwritten = λ n e w r. none_there (loose_written n) (ap (λ x. is_some (loose_written x)) r.shape ∙ loose_beside r.equal r.truth r.on_right r.operand) e }

-- ---- 31 and 32

bitwise_said : (s : Seat) (n w : Tree) → bitwise_written s n ≡ Some w → BitwiseRow s n w
bitwise_said s n w e = go (binary_operator n) refl e
  where
    of : (o : BinaryOperator) → n ≡ binary o (part n 0) (part n 1) → bitwise_by s o n ≡ Some w → BitwiseRow s n w
    of BitwiseOr is f = inr (wholes_row n w (part n 0) (part n 1) is f)
    of BitwiseAnd is f = inl (bits_row s n w BitwiseAnd refl (part n 0) (part n 1) is f)
    of BitwiseXor is f = inl (bits_row s n w BitwiseXor refl (part n 0) (part n 1) is f)
    of ShiftLeft is f = inl (kept_row s n w ShiftLeft true refl (part n 0) (part n 1) is f)
    of ShiftRight is f = inl (kept_row s n w ShiftRight true refl (part n 0) (part n 1) is f)
    of o is f = nothing f

    go : (o : Option BinaryOperator) → binary_operator n ≡ o → bitwise_in s o n ≡ Some w → BitwiseRow s n w
    go (Some o) h f = of o (binary_is n o h) f
    go None h f = nothing f

kept_beside : (s : Seat) (o : BinaryOperator) (r : Bool) (x : ℤ) → keeps_bits o x ≡ true → r || is_bitwise o ≡ true → has_room o s ≡ true → (a : Tree) → is_some (bitwise_written s (beside o r a (numeral x))) ≡ true
kept_beside s ShiftLeft true x e t h a = kept_there s ShiftLeft x e h a
kept_beside s ShiftRight true x e t h a = kept_there s ShiftRight x e h a
kept_beside s BitwiseXor true x e t h a = or_else_there (kept_written s BitwiseXor a (numeral x)) (kept_written s BitwiseXor (numeral x) a) (kept_there s BitwiseXor x e h a)
kept_beside s BitwiseAnd true x e t h a = or_else_there (kept_written s BitwiseAnd a (numeral x)) (kept_written s BitwiseAnd (numeral x) a) (kept_there s BitwiseAnd x e h a)
kept_beside s BitwiseXor false x e t h a = or_else_other (kept_written s BitwiseXor (numeral x) a) (kept_written s BitwiseXor a (numeral x)) (kept_there s BitwiseXor x e h a)
kept_beside s BitwiseAnd false x e t h a = or_else_other (kept_written s BitwiseAnd (numeral x) a) (kept_written s BitwiseAnd a (numeral x)) (kept_there s BitwiseAnd x e h a)
kept_beside s BitwiseOr r x e t h a = absurd (true≢false (sym e))
kept_beside s o false x e t h a = absurd (true≢false (sym t))
kept_beside s o true x e t h a = absurd (true≢false (sym e))

whole_beside : (s : Seat) (r : Bool) (a : Tree) → is_int32 a ≡ true → is_some (bitwise_written s (beside BitwiseOr r a (digit false))) ≡ true
whole_beside s true a e = or_else_there (whole_written a (digit false)) (whole_written (digit false) a) (there (is_int32 a) a e)
whole_beside s false a e = or_else_other (whole_written (digit false) a) (whole_written a (digit false)) (there (is_int32 a) a e)

bitwise_there : (s : Seat) (n w : Tree) → BitwiseRow s n w → is_some (bitwise_written s n) ≡ true
bitwise_there s n w (inl r) = ap (λ x. is_some (bitwise_written s x)) r.shape ∙ kept_beside s r.operator r.on_right r.number r.known r.sided r.seated r.operand
bitwise_there s n w (inr r) = ap (λ x. is_some (bitwise_written s x)) r.shape ∙ whole_beside s r.on_right r.operand r.known

pub bitwise_own : OwnIn bitwise_written BitwiseRow
bitwise_own s = record { written = bitwise_said s; unwritten = λ n e w r. none_there (bitwise_written s n) (bitwise_there s n w r) e }

-- ---- 27, 28 and 29

equal_said : (s : Seat) (n w : Tree) (equal : Bool) (a b : Tree) → n ≡ binary (loosely equal) a b → equal_written s equal a b ≡ Some w → BinaryRow s n w
equal_said s n w equal a b is e = bits (tests_bits a b) refl e
  where
    compared : (c : Option Bool) → truth_in b ≡ c → boolean_written s equal c a ≡ Some w → BinaryRow s n w
    compared (Some c) h f = by (is_told s (same_boolean equal c) a) refl f
      where
        by : (d : Bool) → is_told s (same_boolean equal c) a ≡ d → (if d then Some (answer (same_boolean equal c) a) else None) ≡ Some w → BinaryRow s n w
        by true k f =
            let (known, stays) = and_parts (is_boolean_kind (kind a)) (suits s (answer (same_boolean equal c) a)) k in
            inr (inr (record { equal = equal; truth = c; operand = a; known = boolean_kind (kind a) known; stays = stays; shape = is ∙ ap (binary (loosely equal) a) (truth_is b c h); written = sym (some_is (answer (same_boolean equal c) a) w f) }))
        by false k f = nothing f
    compared None h f = nothing f

    enclosed : (c : Bool) → tests_enclosed s a b ≡ c → (if c then Some (zero_told equal a) else boolean_written s equal (truth_in b) a) ≡ Some w → BinaryRow s n w
    enclosed true h f = inl (inr (inr (subst (Row27Enclosed s n) (some_is (zero_told equal a) w f) (enclosed_row s n equal a b is h))))
    enclosed false h f = compared (truth_in b) refl f

    shift : (c : Bool) → tests_shift s equal a b ≡ c → (if c then Some a else (if tests_enclosed s a b then Some (zero_told equal a) else boolean_written s equal (truth_in b) a)) ≡ Some w → BinaryRow s n w
    shift true h f = inl (inr (inl (subst (Row27Asked s n) (some_is a w f) (shift_row s n equal a b is h))))
    shift false h f = enclosed (tests_enclosed s a b) refl f

    bits : (c : Bool) → tests_bits a b ≡ c → (if c then Some (zero_told equal a) else (if tests_shift s equal a b then Some a else (if tests_enclosed s a b then Some (zero_told equal a) else boolean_written s equal (truth_in b) a))) ≡ Some w → BinaryRow s n w
    bits true h f = inl (inl (subst (Row27 n) (some_is (zero_told equal a) w f) (zero_row n equal a b is h)))
    bits false h f = shift (tests_shift s equal a b) refl f

binary_said : (s : Seat) (n w : Tree) → binary_written s n ≡ Some w → BinaryRow s n w
binary_said s n w e = go (binary_operator n) refl e
  where
    of : (o : BinaryOperator) → binary_operator n ≡ Some o → binary_by s o n ≡ Some w → BinaryRow s n w
    of Equality h f = equal_said s n w true (part n 0) (part n 1) (binary_is n Equality h) f
    of Inequality h f = equal_said s n w false (part n 0) (part n 1) (binary_is n Inequality h) f
    of o h f = inr (inl (equality_is_row n w f))

    go : (o : Option BinaryOperator) → binary_operator n ≡ o → binary_in s o n ≡ Some w → BinaryRow s n w
    go (Some o) h f = of o h f
    go None h f = nothing f

-- what an equality writes is written of it
of_equal : (s : Seat) (equal : Bool) (a b : Tree) → binary_written s (binary (loosely equal) a b) ≡ equal_written s equal a b
of_equal s true a b = refl
of_equal s false a b = refl

boolean_there : (s : Seat) (equal c : Bool) (a : Tree) → is_told s (same_boolean equal c) a ≡ true → is_some (equal_written s equal a (negated_digit c)) ≡ true
boolean_there s equal true a e = there (is_told s (same_boolean equal true) a) (answer (same_boolean equal true) a) e
boolean_there s equal false a e = there (is_told s (same_boolean equal false) a) (answer (same_boolean equal false) a) e

-- of the strict ones alone it is so
strict_there : (s : Seat) (o p : BinaryOperator) (a b : Tree) → loosened o ≡ Some p → has_one_kind a b ≡ true → is_some (binary_written s (binary o a b)) ≡ true
strict_there s StrictEquality p a b h k = ap (λ c. is_some (equality.written_by (Some Equality) c (binary StrictEquality a b))) k
strict_there s StrictInequality p a b h k = ap (λ c. is_some (equality.written_by (Some Inequality) c (binary StrictInequality a b))) k
strict_there s o p a b h k = nothing h

binary_there : (s : Seat) (n w : Tree) → BinaryRow s n w → is_some (binary_written s n) ≡ true
binary_there s n w (inl (inl r)) =
    let b : Tree = digit false in
    ap (λ x. is_some (binary_written s x)) r.shape ∙ ap is_some (of_equal s r.equal r.operand b) ∙ there_or (tests_bits r.operand b) (zero_told r.equal r.operand) _ r.known
binary_there s n w (inl (inr (inl r))) =
    let b : Tree = digit false in
    ap (λ x. is_some (binary_written s x)) r.shape
    ∙ tested (tests_bits r.operand b) (zero_told false r.operand) _ (there_or (tests_shift s false r.operand b) r.operand _ (both_true s.boolean (is_shifted r.operand) r.asked r.known))
binary_there s n w (inl (inr (inr r))) =
    let b : Tree = digit false in
    ap (λ x. is_some (binary_written s x)) r.shape ∙ ap is_some (of_equal s r.equal r.operand b)
    ∙ tested (tests_bits r.operand b) (zero_told r.equal r.operand) _ (tested (tests_shift s r.equal r.operand b) r.operand _ (there_or (tests_enclosed s r.operand b) (zero_told r.equal r.operand) _ (both_true (encloses s) (is_shifted r.operand) r.seated r.known)))
binary_there s n w (inr (inl r)) = ap (λ x. is_some (binary_written s x)) r.shape ∙ strict_there s r.operator r.loose r.left r.right r.loosens r.alike
binary_there s n w (inr (inr r)) =
    ap (λ x. is_some (binary_written s x)) r.shape ∙ ap is_some (of_equal s r.equal r.operand (negated_digit r.truth))
    ∙ boolean_there s r.equal r.truth r.operand (both_true (is_boolean_kind (kind r.operand)) (suits s (answer (same_boolean r.equal r.truth) r.operand)) (ap is_boolean_kind r.known) r.stays)

pub binary_own : OwnIn binary_written BinaryRow
binary_own s = record { written = binary_said s; unwritten = λ n e w r. none_there (binary_written s n) (binary_there s n w r) e }
