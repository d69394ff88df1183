-- Each form on what is known of an expression writes what a row of the rewrites says.
use Rattle.std.proofs.Common.{◌≡◌, refl, sym, ap, subst, ◌∙◌, arith}
use Rattle.std.specs.Prelude.{zero, suc, pos, negsuc, Bool, true, false, not, ◌&&◌, ◌||◌, ◌+◌, nat_le, List, [], ◌∷◌, codes, Option, Some, None}
use Rattle.std.proofs.lemmas.Bool.{and_parts, leb-true, false≢true}
use Rattle.std.proofs.lemmas.Option.{option_and_then_some}
use Rattle.mini_model.specs.declared.name.Name.{Name}
use Rattle.mini_model.specs.declared.operator.AssignmentOperator.{AssignmentOperator}
use Rattle.mini_model.specs.declared.operator.AssignmentOperator.TheVariants as assigning
use Rattle.mini_model.specs.declared.operator.BinaryOperator.{BinaryOperator}
use Rattle.mini_model.specs.declared.operator.BinaryOperator.TheVariants.{Addition}
use Rattle.mini_model.specs.declared.operator.LogicalOperator.{LogicalOperator}
use Rattle.mini_model.specs.declared.operator.LogicalOperator.TheVariants.{Or, And, Coalesce}
use Rattle.mini_model.specs.declared.place.Position.TheVariants.{Expr}
use Rattle.mini_model.specs.declared.seat.Seat.{Seat}
use Rattle.mini_model.specs.declared.shape.Shape.{Shape}
use Rattle.mini_model.specs.declared.shape.Shape.TheVariants as shape
use Rattle.mini_model.specs.Tree.{Tree, none, ◌▸◌, shape_of, conditional}
use Rattle.mini_model.specs.Weight.{weight}
use Rattle.mini_node.specs.Children.{part, names_of}
use Rattle.mini_node.specs.Equal.{same_tree}
use Rattle.mini_node.specs.Kinds.{sequence, binary, assignment_operator, string, string_literal, unary_operator, binary_operator, logical_operator, is_conditional, is_identifier, is_static_member, is_computed_member}
use Rattle.mini_node.specs.Made.{binary_is, logical_is, conditional_is}
use Rattle.mini_node.proofs.Equality.{tree_same}
use Rattle.mini_terms.specs.Calculated.{calculated}
use Rattle.mini_terms.specs.declared.kinds.Kind.{Kind}
use Rattle.mini_terms.specs.declared.kinds.Kind.TheVariants.{String as IsString}
use Rattle.mini_terms.specs.Folds.{is_effect_free, goes_on, stops}
use Rattle.mini_terms.specs.Kind.{kind}
use Rattle.mini_terms.specs.Parts.{suits, leaves_nothing, weighs}
use Rattle.mini_terms.specs.Plain.{lit}
use Rattle.mini_rows.specs.Choices.{Row13Both, Row49}
use Rattle.mini_rows.specs.Constants.{RowConstant, gain_by}
use Rattle.mini_rows.specs.Folding as folding
use Rattle.mini_rows.specs.Folding.{Row12, Row13, Row49Idle}
use Rattle.mini_rows.specs.Lists.{encloses}
use Rattle.mini_rows.specs.Operands.{Row7}
use Rattle.mini_log.specs.Terms.{is_assign, is_spelled, is_text}
use Rattle.mini_log.specs.KnownRows.{margin_by, folded_to, folded_value, folded, folded_unary, folded_binary, is_addition, is_text_kind, stays_text, before_nothing, behind_nothing, is_exports_key, is_exports, names_exports, stopped_by, stopped, passed_by, passed, both_by, both, chooses_one, one_branch, both_branches}
use Rattle.mini_log.proofs.Tests.{whenever, not_true, text_is}

-- ---- 1, 3

margin_is : (h : Shape) → margin_by h ≡ gain_by h
margin_is (shape.NumericLiteral (pos zero)) = refl
margin_is (shape.NumericLiteral (pos (suc n))) = refl
margin_is (shape.NumericLiteral (negsuc n)) = refl
margin_is h = refl

folds : (s : Seat) (t w : Tree) → folded s t ≡ Some w → RowConstant s t w
folds s t w e =
    option_and_then_some (folded_value s t) (calculated t) w e (λ v known e'.
    option_and_then_some (folded_to s t) (lit v) w e' (λ u literal e''.
    let (test, made) = whenever (leaves_nothing t && (suits s u && nat_le (weight (Expr s) u + margin_by (shape_of u)) (weight (Expr s) t))) u w e'' in
    let (dropped, r) = and_parts (leaves_nothing t) (suits s u && nat_le (weight (Expr s) u + margin_by (shape_of u)) (weight (Expr s) t)) test in
    let (stays, gains) = and_parts (suits s u) (nat_le (weight (Expr s) u + margin_by (shape_of u)) (weight (Expr s) t)) r in
    subst (λ x. RowConstant s t x) (sym made) (record { value = v; known = known; literal = literal; dropped = dropped; stays = stays; gains = omega (arith, margin_is (shape_of u), leb-true (weight (Expr s) u + margin_by (shape_of u)) (weight (Expr s) t) gains) })))

pub folds_unary : (s : Seat) (t w : Tree) → folded_unary s t ≡ Some w → RowConstant s t w
folds_unary s t w e = option_and_then_some (λ o. folded s t) (unary_operator t) w e (λ o is done. folds s t w done)

pub folds_binary : (s : Seat) (t w : Tree) → folded_binary s t ≡ Some w → RowConstant s t w
folds_binary s t w e = option_and_then_some (λ o. folded s t) (binary_operator t) w e (λ o is done. folds s t w done)

-- ---- 7

addition_is : (o : BinaryOperator) → is_addition o ≡ true → o ≡ Addition
addition_is Addition e = refl
addition_is o e = absurd (false≢true e)

text_kind_is : (k : Kind) → is_text_kind k ≡ true → k ≡ IsString
text_kind_is IsString e = refl
text_kind_is k e = absurd (false≢true e)

record Stays (s : Seat) (a k w : Tree) (o : BinaryOperator) : Type 0 where
  adds : o ≡ Addition
  known : kind a ≡ IsString
  stays : suits s a ≡ true
  empty : k ≡ string_literal []
  written : w ≡ a

stays_is : (s : Seat) (a k w : Tree) (o : BinaryOperator) → stays_text s a k o ≡ Some w → Stays s a k w o
stays_is s a k w o e =
    let (test, made) = whenever (is_addition o && (is_text [] (string k) && (is_text_kind (kind a) && suits s a))) a w e in
    let (adds, b) = and_parts (is_addition o) (is_text [] (string k) && (is_text_kind (kind a) && suits s a)) test in
    let (empty, c) = and_parts (is_text [] (string k)) (is_text_kind (kind a) && suits s a) b in
    let (known, stays) = and_parts (is_text_kind (kind a)) (suits s a) c in
    record { adds = addition_is o adds; known = text_kind_is (kind a) known; stays = stays; empty = text_is k [] empty; written = made }

pub stays_before : (s : Seat) (t w : Tree) → before_nothing s t ≡ Some w → Row7 s t w
stays_before s t w e =
    option_and_then_some (stays_text s (part t 0) (part t 1)) (binary_operator t) w e (λ o is done.
    let x = stays_is s (part t 0) (part t 1) w o done in
    record { on_right = true; operand = part t 0; known = x.known; stays = x.stays; shape = binary_is t o is ∙ ap (λ p. binary p (part t 0) (part t 1)) x.adds ∙ ap (binary Addition (part t 0)) x.empty; written = x.written })

pub stays_behind : (s : Seat) (t w : Tree) → behind_nothing s t ≡ Some w → Row7 s t w
stays_behind s t w e =
    option_and_then_some (stays_text s (part t 1) (part t 0)) (binary_operator t) w e (λ o is done.
    let x = stays_is s (part t 1) (part t 0) w o done in
    record { on_right = false; operand = part t 1; known = x.known; stays = x.stays; shape = binary_is t o is ∙ ap (λ p. binary p (part t 0) (part t 1)) x.adds ∙ ap (λ k. binary Addition k (part t 1)) x.empty; written = x.written })

-- ---- 12, 13, 15

assign_same : (o : Option AssignmentOperator) → is_assign o ≡ folding.is_plain_assignment o
assign_same (Some assigning.Assign) = refl
assign_same (Some o) = refl
assign_same None = refl

key_same : (h : Shape) → is_exports_key h ≡ folding.is_exports_by h
key_same (shape.IdentifierName s) = refl
key_same (shape.StringLiteral s) = refl
key_same h = refl

spelled_same : (xs : List Name) → is_spelled (codes "module") xs ≡ folding.is_spelled xs (codes "module")
spelled_same [] = refl
spelled_same (x ∷ xs) = refl

exports_same : (t : Tree) → is_exports t ≡ folding.is_exports t
exports_same t =
    ap (λ b. (is_static_member t || is_computed_member t) && ((is_identifier (part t 0) && b) && is_exports_key (shape_of (part t 1)))) (spelled_same (names_of (part t 0)))
    ∙ ap (λ b. (is_static_member t || is_computed_member t) && (folding.is_module (part t 0) && b)) (key_same (shape_of (part t 1)))

names_same : (o : LogicalOperator) (t : Tree) → names_exports o t ≡ folding.names_exports o t
names_same And t = ap (λ b. b && is_exports (part t 0)) (assign_same (assignment_operator t)) ∙ ap (λ b. folding.is_plain_assignment (assignment_operator t) && b) (exports_same (part t 0))
names_same Or t = refl
names_same Coalesce t = refl

module _ (f : LogicalOperator → Bool) where
  pub stops_at : (s : Seat) (t w : Tree) → stopped f s t ≡ Some w → Row12 s t w
  stops_at s t w e =
      option_and_then_some (stopped_by f s t) (logical_operator t) w e (λ o is done.
      let (test, made) = whenever (f o && (stops o (part t 0) && (not (names_exports o (part t 1)) && (encloses false (part t 1) && (weighs (part t 1) && suits s (part t 0)))))) (part t 0) w done in
      let (told, a) = and_parts (f o) (stops o (part t 0) && (not (names_exports o (part t 1)) && (encloses false (part t 1) && (weighs (part t 1) && suits s (part t 0))))) test in
      let (known, b) = and_parts (stops o (part t 0)) (not (names_exports o (part t 1)) && (encloses false (part t 1) && (weighs (part t 1) && suits s (part t 0)))) a in
      let (nameless, c) = and_parts (not (names_exports o (part t 1))) (encloses false (part t 1) && (weighs (part t 1) && suits s (part t 0))) b in
      let (dropped, d) = and_parts (encloses false (part t 1)) (weighs (part t 1) && suits s (part t 0)) c in
      let (heavy, stays) = and_parts (weighs (part t 1)) (suits s (part t 0)) d in
      record { operator = o; left = part t 0; right = part t 1; known = known; nameless = sym (names_same o (part t 1)) ∙ not_true (names_exports o (part t 1)) nameless; dropped = dropped; heavy = heavy; stays = stays; shape = logical_is t o is; written = made })

  pub passes : (s : Seat) (t w : Tree) → passed f s t ≡ Some w → Row13 s t w
  passes s t w e =
      option_and_then_some (passed_by f s t) (logical_operator t) w e (λ o is done.
      let (test, made) = whenever (f o && (goes_on o (part t 0) && (is_effect_free (part t 0) && (leaves_nothing (part t 0) && (weighs (part t 0) && suits s (part t 1)))))) (part t 1) w done in
      let (told, a) = and_parts (f o) (goes_on o (part t 0) && (is_effect_free (part t 0) && (leaves_nothing (part t 0) && (weighs (part t 0) && suits s (part t 1))))) test in
      let (known, b) = and_parts (goes_on o (part t 0)) (is_effect_free (part t 0) && (leaves_nothing (part t 0) && (weighs (part t 0) && suits s (part t 1)))) a in
      let (free, c) = and_parts (is_effect_free (part t 0)) (leaves_nothing (part t 0) && (weighs (part t 0) && suits s (part t 1))) b in
      let (dropped, d) = and_parts (leaves_nothing (part t 0)) (weighs (part t 0) && suits s (part t 1)) c in
      let (heavy, stays) = and_parts (weighs (part t 0)) (suits s (part t 1)) d in
      record { operator = o; left = part t 0; right = part t 1; known = known; effect_free = free; dropped = dropped; heavy = heavy; stays = stays; shape = logical_is t o is; written = made })

  pub evaluates_both : (t w : Tree) → both f t ≡ Some w → Row13Both t w
  evaluates_both t w e =
      option_and_then_some (both_by f t) (logical_operator t) w e (λ o is done.
      let (test, made) = whenever (f o && (goes_on o (part t 0) && not (is_effect_free (part t 0)))) (sequence (part t 0 ▸ part t 1 ▸ none)) w done in
      let (told, a) = and_parts (f o) (goes_on o (part t 0) && not (is_effect_free (part t 0))) test in
      let (known, b) = and_parts (goes_on o (part t 0)) (not (is_effect_free (part t 0))) a in
      record { operator = o; left = part t 0; right = part t 1; known = known; shape = logical_is t o is; written = made })

-- ---- 49

one_is : (t : Tree) → chooses_one t ≡ true → t ≡ conditional (part t 0) (part t 1) (part t 1)
one_is t e =
    let (chooses, same) = and_parts (is_conditional t) (same_tree (part t 1) (part t 2)) e in
    conditional_is t chooses ∙ ap (λ c. conditional (part t 0) (part t 1) c) (sym (tree_same (part t 1) (part t 2) same))

pub holds_one : (s : Seat) (t w : Tree) → one_branch s t ≡ Some w → Row49Idle s t w
holds_one s t w e =
    let (test, made) = whenever (chooses_one t && (is_effect_free (part t 0) && (leaves_nothing (part t 0) && (weighs (part t 0) && suits s (part t 1))))) (part t 1) w e in
    let (one, b) = and_parts (chooses_one t) (is_effect_free (part t 0) && (leaves_nothing (part t 0) && (weighs (part t 0) && suits s (part t 1)))) test in
    let (free, c) = and_parts (is_effect_free (part t 0)) (leaves_nothing (part t 0) && (weighs (part t 0) && suits s (part t 1))) b in
    let (dropped, d) = and_parts (leaves_nothing (part t 0)) (weighs (part t 0) && suits s (part t 1)) c in
    let (heavy, stays) = and_parts (weighs (part t 0)) (suits s (part t 1)) d in
    record { test = part t 0; branch = part t 1; effect_free = free; dropped = dropped; heavy = heavy; stays = stays; shape = one_is t one; written = made }

pub holds_both : (t w : Tree) → both_branches t ≡ Some w → Row49 t w
holds_both t w e =
    let (test, made) = whenever (chooses_one t && not (is_effect_free (part t 0))) (sequence (part t 0 ▸ part t 1 ▸ none)) w e in
    let (one, b) = and_parts (chooses_one t) (not (is_effect_free (part t 0))) test in
    record { a = part t 0; b = part t 1; shape = one_is t one; written = made }
