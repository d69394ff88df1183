-- Each form on spellings, and on an argument that is undefined, writes what a row of the rewrites
-- says.
use Rattle.std.proofs.Common.{◌≡◌, ◌⊎◌, refl, sym, ap, ◌∙◌, inl, inr}
use Rattle.std.specs.Prelude.{ℕ, zero, Bool, true, false, ◌&&◌, ◌||◌, nat_le, length, List, [], ◌∷◌, codes, Option, Some, None, option_map, option_and_then}
use Rattle.std.proofs.lemmas.Bool.{and_parts, false≢true}
use Rattle.std.proofs.lemmas.Option.{none-some, same_Some, option_and_then_some}
use Rattle.mini_model.specs.declared.name.Name.{Name}
use Rattle.mini_model.specs.declared.name.SymbolId.{SymbolId}
use Rattle.mini_model.specs.declared.operator.AssignmentOperator.TheVariants as assigning
use Rattle.mini_model.specs.declared.operator.BinaryOperator.{BinaryOperator}
use Rattle.mini_model.specs.declared.operator.BinaryOperator.TheVariants.{Equality, Inequality, StrictEquality}
use Rattle.mini_model.specs.declared.operator.LogicalOperator.{LogicalOperator}
use Rattle.mini_model.specs.declared.operator.LogicalOperator.TheVariants.{Or, And, Coalesce}
use Rattle.mini_model.specs.declared.operator.UnaryOperator.TheVariants.{Typeof}
use Rattle.mini_model.specs.declared.operator.UpdateOperator.{UpdateOperator}
use Rattle.mini_model.specs.declared.shape.Shape.TheVariants as shape
use Rattle.mini_model.specs.Numerals.{safe_number}
use Rattle.mini_model.proofs.Safe.{text_of_number}
use Rattle.mini_model.specs.Position.{is_equality}
use Rattle.mini_model.specs.Texts.{is_identifier_name}
use Rattle.mini_model.specs.Tree.{Tree, node, none, ◌▸◌, leaf, absent, shape_of, identifier, unary, logical, null_literal}
use Rattle.mini_laws.specs.Value.{Declared, VariableSet}
use Rattle.mini_node.specs.Children.{part, is_bare}
use Rattle.mini_node.specs.Equal.{same_tree}
use Rattle.mini_node.specs.Kinds.{binary, assignment, computed_member, string_literal, numeric_literal, return_statement, carried, boolean, string, unary_operator, binary_operator, logical_operator, assignment_operator, is_return_statement, is_computed_member}
use Rattle.mini_node.specs.Made.{boolean_is, string_is, binary_is, logical_is, assignment_is, return_statement_is, computed_member_is}
use Rattle.mini_node.proofs.Equality.{tree_same}
use Rattle.mini_terms.specs.Folds.{is_effect_free}
use Rattle.mini_terms.specs.Parts.{leaves_nothing}
use Rattle.mini_terms.specs.Plain.{void_zero}
use Rattle.mini_terms.specs.Reading.{is_typed_by_value}
use Rattle.mini_rows.specs.Branches.{IsIdleVoid, Row60}
use Rattle.mini_rows.specs.Choices as choice
use Rattle.mini_rows.specs.Spellings as spelling
use Rattle.mini_rows.specs.Spellings.{IsUndefined, IsLoose, Row19, Row33, Row33Assigned, Row33Updated, Row54, Row55, Row55Value, Row58Left, Row58Right, Row60Yield, Row65}
use Rattle.mini_rows.specs.Unused.{resolved}
use Rattle.mini_rows.specs.Writes.{Row34}
use Rattle.mini_log.specs.SpellingRows.{piece_text, when_there, untemplated, static_member, optional_member, named_by, named_key, numbered_by, numbered_key, dotted, dotted_target, update_in, updated_by, dotted_update, deciding, has_writable, is_writable, combined_by, combined, turned_by, turned, asks_undefined, order_for, strict_for, ordered_by, ordered, compared_by, compared, is_loose, null_left_by, null_left, null_right_by, null_right, is_idle_void, bare_return, is_yield_shape, bare_yield, digit, spelled}
use Rattle.mini_log.specs.Terms.{is_assign, is_void, is_typeof, is_text, is_void_zero, is_undefined, is_unresolved, is_text_template, is_plain, is_ready}
use Rattle.mini_log.specs.Walk.{or_else}
use Rattle.mini_log.proofs.Tests.{whenever, mapped, either_true, text_is, void_is, typeof_is, assign_is, void_zero_is, unresolved_is, undefined_is, template_told, plain_is, ready_is}

-- ---- 19

pub untemplates : (t w : Tree) → untemplated t ≡ Some w → Row19 t w
untemplates t w e = go (is_text_template t) refl e
  where
    go : (b : Bool) → is_text_template t ≡ b → when_there b (piece_text (shape_of (part (part t 0) 0))) ≡ Some w → Row19 t w
    go true is e =
        let told = template_told t is in
        let (shorter, made) = whenever (nat_le (length told.cooked) (length told.raw)) (string_literal told.cooked) w (sym (ap piece_text told.piece) ∙ e) in
        record { is_tail = told.is_tail; raw = told.raw; content = told.cooked; shorter = shorter; shape = told.is; written = made }
    go false is e = absurd (none-some w e)

-- ---- 33

optional_is : (t : Tree) (b : Bool) → optional_member t ≡ Some b → t ≡ spelling.computed_member b (part t 0) (part t 1)
optional_is (node (shape.ComputedMemberExpression c) [] zero (o ▸ (k ▸ none))) b e = ap (λ x. spelling.computed_member x o k) (same_Some c b e)
optional_is t b e = absurd (none-some b e)

names_key : (t w : Tree) → named_key t ≡ Some w → Row33 t w
names_key t w e =
    option_and_then_some (λ s. option_and_then (named_by t s) (optional_member t)) (string (part t 1)) w e (λ s spelled e'.
    option_and_then_some (named_by t s) (optional_member t) w e' (λ b is done.
    let (named, made) = whenever (is_identifier_name s) (static_member b (part t 0) (leaf (shape.IdentifierName s))) w done in
    inl (record { is_optional = b; object = part t 0; name = s; is_name = named; shape = optional_is t b is ∙ ap (λ k. spelling.computed_member b (part t 0) k) (string_is (part t 1) s spelled); written = made })))

numbers_key : (t w : Tree) → numbered_key t ≡ Some w → Row33 t w
numbers_key t w e =
    option_and_then_some (λ s. option_and_then (numbered_by t) (safe_number s)) (string (part t 1)) w e (λ s spelled e'.
    option_and_then_some (numbered_by t) (safe_number s) w e' (λ n known done.
    let (is, made) = whenever (is_computed_member t) (node (shape.ComputedMemberExpression false) [] 0 (part t 0 ▸ numeric_literal n ▸ none)) w done in
    let (safe, text) = text_of_number s n known in
    inr (record { object = part t 0; number = n; is_safe = safe; shape = computed_member_is t is ∙ ap (λ k. computed_member (part t 0) k) (string_is (part t 1) s spelled ∙ ap string_literal text); written = made })))

pub dots : (t w : Tree) → dotted t ≡ Some w → Row33 t w
dots t w e = go (named_key t) refl e
  where
    go : (x : Option Tree) → named_key t ≡ x → or_else x (numbered_key t) ≡ Some w → Row33 t w
    go (Some v) h e = names_key t w (h ∙ e)
    go None h e = numbers_key t w e

pub dots_target : (t w : Tree) → dotted_target t ≡ Some w → Row33Assigned t w
dots_target t w e =
    option_and_then_some (λ o. option_map (λ m. assignment o m (part t 1)) (dotted (part t 0))) (assignment_operator t) w e (λ o is done.
    let (m, (turns, made)) = mapped (λ m. assignment o m (part t 1)) (dotted (part t 0)) w done in
    record { operator = o; target = part t 0; turned = m; value = part t 1; member = dots (part t 0) m turns; shape = assignment_is t o is; written = sym made })

update_is : (t : Tree) (o : UpdateOperator × Bool) → carried (update_in (shape_of t)) (is_bare t 1) ≡ Some o → t ≡ spelling.update o.0 o.1 (part t 0)
update_is (node (shape.UpdateExpression p m) [] zero (a ▸ none)) o e = ap (λ x. spelling.update x.0 x.1 a) (same_Some (p, m) o e)
update_is t o e = absurd (none-some o e)

pub dots_update : (t w : Tree) → dotted_update t ≡ Some w → Row33Updated t w
dots_update t w e =
    option_and_then_some (updated_by t) (carried (update_in (shape_of t)) (is_bare t 1)) w e (λ o is done.
    let (m, (turns, made)) = mapped (λ m. node (shape.UpdateExpression o.0 o.1) [] 0 (m ▸ none)) (dotted (part t 0)) w done in
    record { operator = o.0; is_prefix = o.1; target = part t 0; turned = m; member = dots (part t 0) m turns; shape = update_is t o is; written = sym made })

-- ---- 34

deciding_same : (o : LogicalOperator) → deciding o ≡ choice.deciding o
deciding_same Or = refl
deciding_same And = refl
deciding_same Coalesce = refl

record Writes (W : VariableSet) (t : Tree) : Type 0 where
  spelling : List ℕ
  symbol : ℕ
  writable : W (Declared symbol) ≡ true
  is : t ≡ identifier (resolved spelling symbol)

abbrev named : List ℕ → Option SymbolId → Name
named s o = record { spelling = s; symbol = o }

writable_is : (W : VariableSet) (t : Tree) → is_writable W t ≡ true → Writes W t
writable_is W (node shape.Identifier (x ∷ []) zero none) e = go x.symbol refl e
  where
    go : (o : Option SymbolId) → x.symbol ≡ o → has_writable W o ≡ true → Writes W (identifier x)
    go (Some k) h e = record { spelling = x.spelling; symbol = k.0; writable = e; is = ap (λ o. identifier (named x.spelling o)) h }
    go None h e = absurd (false≢true e)
writable_is W t e = absurd (false≢true e)

pub combines : (W : VariableSet) (t w : Tree) → combined W t ≡ Some w → Row34 W t w
combines W t w e =
    option_and_then_some (combined_by W t) (logical_operator (part t 1)) w e (λ o is done.
    let (test, made) = whenever (is_assign (assignment_operator t) && (is_writable W (part t 0) && same_tree (part t 0) (part (part t 1) 0))) (assignment (deciding o) (part t 0) (part (part t 1) 1)) w done in
    let (assigns, r) = and_parts (is_assign (assignment_operator t)) (is_writable W (part t 0) && same_tree (part t 0) (part (part t 1) 0)) test in
    let (writable, same) = and_parts (is_writable W (part t 0)) (same_tree (part t 0) (part (part t 1) 0)) r in
    let x = writable_is W (part t 0) writable in
    record {
      operator = o;
      spelling = x.spelling;
      symbol = x.symbol;
      b = part (part t 1) 1;
      writable = x.writable;
      shape =
          assignment_is t assigning.Assign (assign_is (assignment_operator t) assigns)
          ∙ ap (λ v. assignment assigning.Assign (part t 0) v) (logical_is (part t 1) o is ∙ ap (λ v. logical o v (part (part t 1) 1)) (sym (tree_same (part t 0) (part (part t 1) 0) same)))
          ∙ ap (λ v. assignment assigning.Assign v (logical o v (part (part t 1) 1))) x.is;
      written = made ∙ ap (λ p. assignment p (part t 0) (part (part t 1) 1)) (deciding_same o) ∙ ap (λ v. assignment (choice.deciding o) v (part (part t 1) 1)) x.is;
    })

-- ---- 54, 55, 58

pub turns : (t w : Tree) → turned t ≡ Some w → Row54 t w
turns t w e =
    option_and_then_some (turned_by t) (binary_operator t) w e (λ o is done.
    let (test, made) = whenever (is_equality o && (is_plain (part t 0) && is_ready (part t 1))) (binary o (part t 1) (part t 0)) w done in
    let (equality, b) = and_parts (is_equality o) (is_plain (part t 0) && is_ready (part t 1)) test in
    let (left, right) = and_parts (is_plain (part t 0)) (is_ready (part t 1)) b in
    let (form, same) = plain_is (part t 0) left in
    let (ready, outer) = ready_is (part t 1) right in
    record { operator = o; left = form; right = part t 1; equality = equality; ready = ready; outer = outer; shape = binary_is t o is ∙ ap (λ a. binary o a (part t 1)) same; written = made ∙ ap (binary o (part t 1)) same })

order_same : (o : BinaryOperator) → order_for o ≡ spelling.ordered o
order_same Equality = refl
order_same StrictEquality = refl
order_same o = refl

strict_same : (o : BinaryOperator) → strict_for o ≡ spelling.strict_operator o
strict_same Equality = refl
strict_same StrictEquality = refl
strict_same o = refl

record Asks (t : Tree) (o : BinaryOperator) : Type 0 where
  equality : is_equality o ≡ true
  typed : part t 0 ≡ unary Typeof (part (part t 0) 0)
  is : t ≡ binary o (unary Typeof (part (part t 0) 0)) (string_literal (codes "undefined"))

asks : (t : Tree) (o : BinaryOperator) → binary_operator t ≡ Some o → asks_undefined t o ≡ true → Asks t o
asks t o h e =
    let (equality, r) = and_parts (is_equality o) (is_typeof (unary_operator (part t 0)) && is_text (codes "undefined") (string (part t 1))) e in
    let (over, text) = and_parts (is_typeof (unary_operator (part t 0))) (is_text (codes "undefined") (string (part t 1))) r in
    record { equality = equality; typed = typeof_is (part t 0) over; is = binary_is t o h ∙ ap (λ a. binary o a (part t 1)) (typeof_is (part t 0) over) ∙ ap (binary o (unary Typeof (part (part t 0) 0))) (text_is (part t 1) (codes "undefined") text) }

pub orders : (t w : Tree) → ordered t ≡ Some w → Row55 t w
orders t w e =
    option_and_then_some (ordered_by t) (binary_operator t) w e (λ o is done.
    let (test, made) = whenever (asks_undefined t o && is_unresolved (part (part t 0) 0)) (binary (order_for o) (part t 0) (string_literal (codes "u"))) w done in
    let (asked, free) = and_parts (asks_undefined t o) (is_unresolved (part (part t 0) 0)) test in
    let x = asks t o is asked in
    let (s, (name, spelled)) = unresolved_is (part (part t 0) 0) free in
    record {
      operator = o;
      name = s;
      equality = x.equality;
      shape = x.is ∙ ap (λ a. binary o (unary Typeof a) (string_literal (codes "undefined"))) name;
      written = made ∙ ap (λ p. binary p (part t 0) (string_literal (codes "u"))) (order_same o) ∙ ap (λ a. binary (spelling.ordered o) a (string_literal (codes "u"))) (x.typed ∙ ap (unary Typeof) name);
    })

pub compares : (t w : Tree) → compared t ≡ Some w → Row55Value t w
compares t w e =
    option_and_then_some (compared_by t) (binary_operator t) w e (λ o is done.
    let (test, made) = whenever (asks_undefined t o && is_typed_by_value (part (part t 0) 0)) (binary (strict_for o) (part (part t 0) 0) void_zero) w done in
    let (asked, value) = and_parts (asks_undefined t o) (is_typed_by_value (part (part t 0) 0)) test in
    let x = asks t o is asked in
    record { operator = o; operand = part (part t 0) 0; equality = x.equality; value = value; shape = x.is; written = made ∙ ap (λ p. binary p (part (part t 0) 0) void_zero) (strict_same o) })

loose_is : (o : BinaryOperator) → is_loose o ≡ true → IsLoose o
loose_is Equality e = inl refl
loose_is Inequality e = inr refl
loose_is o e = absurd (false≢true e)

pub nulls_left : (t w : Tree) → null_left t ≡ Some w → Row58Left t w
nulls_left t w e =
    option_and_then_some (null_left_by t) (binary_operator t) w e (λ o is done.
    let (test, made) = whenever (is_loose o && is_undefined (part t 0)) (binary o null_literal (part t 1)) w done in
    let (loose, undefined) = and_parts (is_loose o) (is_undefined (part t 0)) test in
    record { operator = o; left = part t 0; right = part t 1; loose = loose_is o loose; undefined = undefined_is (part t 0) undefined; shape = binary_is t o is; written = made })

pub nulls_right : (t w : Tree) → null_right t ≡ Some w → Row58Right t w
nulls_right t w e =
    option_and_then_some (null_right_by t) (binary_operator t) w e (λ o is done.
    let (test, made) = whenever (is_loose o && is_undefined (part t 1)) (binary o (part t 0) null_literal) w done in
    let (loose, undefined) = and_parts (is_loose o) (is_undefined (part t 1)) test in
    record { operator = o; left = part t 0; right = part t 1; loose = loose_is o loose; undefined = undefined_is (part t 1) undefined; shape = binary_is t o is; written = made })

-- ---- 60, 65

idle_is : (t : Tree) → is_idle_void t ≡ true → IsIdleVoid t
idle_is t e =
    let (over, r) = and_parts (is_void (unary_operator t)) (is_effect_free (part t 0) && leaves_nothing (part t 0)) e in
    let (free, dropped) = and_parts (is_effect_free (part t 0)) (leaves_nothing (part t 0)) r in
    record { operand = part t 0; effect_free = free; dropped = dropped; is = void_is t over }

pub returns_bare : (t w : Tree) → bare_return t ≡ Some w → Row60 t w
returns_bare t w e =
    let (test, made) = whenever (is_return_statement t && (is_undefined (part t 0) || is_idle_void (part t 0))) (return_statement absent) w e in
    let (returns, undefined) = and_parts (is_return_statement t) (is_undefined (part t 0) || is_idle_void (part t 0)) test in
    record { argument = part t 0; undefined = go (either_true (is_undefined (part t 0)) (is_idle_void (part t 0)) undefined); shape = return_statement_is t returns; written = made }
  where
    go : (is_undefined (part t 0) ≡ true) ⊎ (is_idle_void (part t 0) ≡ true) → IsUndefined (part t 0) ⊎ IsIdleVoid (part t 0)
    go (inl h) = inl (undefined_is (part t 0) h)
    go (inr h) = inr (idle_is (part t 0) h)

yield_is : (t : Tree) → is_yield_shape (shape_of t) && (is_bare t 1 && is_void_zero (part t 0)) ≡ true → t ≡ spelling.yields spelling.void_zero
yield_is (node (shape.YieldExpression false) [] zero (a ▸ none)) e = ap spelling.yields (void_zero_is a e)
yield_is t e = absurd (false≢true e)

pub yields_bare : (t w : Tree) → bare_yield t ≡ Some w → Row60Yield t w
yields_bare t w e =
    let (same, made) = whenever (is_yield_shape (shape_of t) && (is_bare t 1 && is_void_zero (part t 0))) (node (shape.YieldExpression false) [] 0 (absent ▸ none)) w e in
    record { shape = yield_is t same; written = made }

pub spells_digit : (t w : Tree) → spelled t ≡ Some w → Row65 t w
spells_digit t w e =
    let (b, (is, made)) = mapped digit (boolean t) w e in
    by b is made
  where
    by : (b : Bool) → boolean t ≡ Some b → digit b ≡ w → Row65 t w
    by true is made = record { value = true; shape = boolean_is t true is; written = sym made }
    by false is made = record { value = false; shape = boolean_is t false is; written = sym made }
