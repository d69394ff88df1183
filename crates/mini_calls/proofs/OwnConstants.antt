-- What the calls of unary and binary expressions write is what their own rows say, and lighter, and where they write nothing none of these
-- makes the expression lighter.
use Rattle.std.proofs.Common.{◌≡◌, ℕ, ◌<◌, ◌^◌, Bool, true, false, List, [], length, Option, Some, None, refl, sym, ap, subst, ◌∙◌, inl, inr, true≢false}
use Rattle.std.specs.Prelude.{◌⊎◌, ◌&&◌, ◌||◌, not, nat_le, pos, codes, is_some, if◌then◌else◌}
use Rattle.std.proofs.lemmas.Bool.{and_parts, leb-true, le-leb}
use Rattle.mini_model.specs.Numerals.{max_safe_integer}
use Rattle.mini_model.specs.declared.operator.BinaryOperator.{BinaryOperator}
use Rattle.mini_model.specs.declared.operator.BinaryOperator.TheVariants.{Addition}
use Rattle.mini_model.specs.declared.operator.UnaryOperator.{UnaryOperator}
use Rattle.mini_model.specs.declared.place.Position.TheVariants.{Expr}
use Rattle.mini_model.specs.declared.seat.Seat.{Seat}
use Rattle.mini_model.specs.Tree.{Tree}
use Rattle.mini_model.specs.Weight.{weight}
use Rattle.mini_kept.specs.Placed.{is_chain_seat}
use Rattle.mini_kept.proofs.SameScopes.{same_texts}
use Rattle.mini_node.specs.Children.{part}
use Rattle.mini_node.specs.Kinds.{binary_operator, unary_operator, is_computed_member, string}
use Rattle.mini_node.specs.Made.{binary_is, computed_member_is, string_is}
use Rattle.mini_terms.specs.Calculated.{calculated}
use Rattle.mini_terms.specs.Parts.{takes_numbers}
use Rattle.mini_terms.specs.Reading.{is_unguarded}
use Rattle.mini_rows.specs.Constants.{RowConstant}
use Rattle.mini_rows.specs.Folding.{Row9}
use Rattle.mini_rows.specs.Operands.{beside, ByOperator, EmptyText, JoinedTexts}
use Rattle.mini_rows.specs.Operators.{deleted, Row2, Row8, Deleted, JoinedMasks}
use Rattle.mini_rows.specs.ChainLinks.{is_lone}
use Rattle.mini_rows.specs.Spellings.{binary, computed_member, static_member, text, key, numeral}
use Rattle.mini_rows.specs.Templates.{TemplateRow}
use Rattle.mini_rows.proofs.OperandWeights.{lighter}
use Rattle.mini_fold.specs.FoldConstants.{literal_written}
use Rattle.mini_fold.specs.FoldOperands.{or_else, text_written, joined_written as sum_joined, joined_texts, with_text, is_text}
use Rattle.mini_fold.specs.FoldStaticMember.{takes_length, count_of, says_length, asks_computed, computed_written}
use Rattle.mini_fold.specs.FoldTemplates.{added_written}
use Rattle.mini_fold.specs.JoinConstants.{joined_written}
use Rattle.mini_fold.specs.Names.{unary_by, unary_written, texts_by, texts_written, masks_by, masks_written, templates_by, templates_written, joins_written, masked_written, summed_written, operator_written, operator_by, binary_expression_written}
use Rattle.mini_fold.proofs.Constants.{by_value, literal_rests}
use Rattle.mini_fold.proofs.Gains.{falls}
use Rattle.mini_fold.proofs.Joins.{joined_is_row, joined_rests}
use Rattle.mini_fold.proofs.Operands.{there, texts_row, is_text_there, first_or_second, or_right, or_else_there, or_else_other, joined_row}
use Rattle.mini_fold.proofs.Operators.{delete_row, mask_or, mask_there}
use Rattle.mini_fold.proofs.Templates.{added_contracts, sum_rest, nested_rest, sum_unwritten, row5_sum}
use Rattle.mini_calls.proofs.OwnOperators.{some_is, nothing, none_there}
use Rattle.mini_calls.proofs.OwnLogical.{none_first, none_second}
use Rattle.mini_calls.specs.OwnRows.{OwnIn, Weighed, deletes, UnaryRow, TextRow, OperatorRow, LengthRow}

-- what is written is what a row says, and lighter
abbrev Falls : (Seat → Tree → Tree → Type 0) → Seat → Tree → Tree → Type 0
Falls R s n w = R s n w × (weight (Expr s) w < weight (Expr s) n)

-- ---- 1 and 2

constant_said : (s : Seat) (n w : Tree) → literal_written s n ≡ Some w → RowConstant s n w
constant_said s n w e = by_value s n w (calculated n) refl e

unary_said : (s : Seat) (n w : Tree) → unary_written s n ≡ Some w → Falls UnaryRow s n w
unary_said s n w e = go (unary_operator n) refl e
  where
    deleted_row : Row2 n w → Falls UnaryRow s n w
    deleted_row r = (inr r, lighter (Expr s) n w (ByOperator (Deleted r)))

    constant : is_some (unary_operator n) ≡ true → (r : RowConstant s n w) → Falls UnaryRow s n w
    constant h r = (inl (r, h), falls (Expr s) n w r.gains)

    by : is_some (unary_operator n) ≡ true → (l : Option Tree) → literal_written s n ≡ l → or_else l (deletes n) ≡ Some w → Falls UnaryRow s n w
    by h (Some t) k f = constant h (constant_said s n w (k ∙ f))
    by h None k f = deleted_row (delete_row n w (unary_operator n) refl f)

    go : (o : Option UnaryOperator) → unary_operator n ≡ o → unary_by s o n ≡ Some w → Falls UnaryRow s n w
    go (Some o) h f = by (ap is_some h) (literal_written s n) refl f
    go None h f = nothing f

-- of a unary expression both are tried
both_tried : (s : Seat) (n : Tree) → is_some (unary_operator n) ≡ true → unary_written s n ≡ None → or_else (literal_written s n) (deletes n) ≡ None
both_tried s n h e = go (unary_operator n) refl e
  where
    go : (o : Option UnaryOperator) → unary_operator n ≡ o → unary_by s o n ≡ None → or_else (literal_written s n) (deletes n) ≡ None
    go (Some o) k f = f
    go None k f = absurd (true≢false (sym h ∙ ap is_some k))

unary_rest : (s : Seat) (n : Tree) → unary_written s n ≡ None → weight (Expr s) n < 2 ^ 64 → (w : Tree) → UnaryRow s n w → ⊥
unary_rest s n e small w (inl (r, h)) = literal_rests s n w (none_first (literal_written s n) (deletes n) (both_tried s n h e)) small r
unary_rest s n e small w (inr r) =
    none_there (deletes n) (ap (λ t. is_some (deletes t)) r.shape ∙ there (is_lone r.operand) (deleted r.operand) r.value)
    (none_second (literal_written s n) (deletes n) (both_tried s n (ap (λ t. is_some (unary_operator t)) r.shape) e))

pub unary_own : Weighed unary_written UnaryRow
unary_own = record {
  written = λ s n w e. (unary_said s n w e).0;
  lighter = λ s n w e. (unary_said s n w e).1;
  unwritten = λ s n e small w r less. unary_rest s n e small w r;
}

-- ---- 7, and 4 of texts

module _ (s : Seat) (n w : Tree) where
  texts_said : texts_written s n ≡ Some w → Falls TextRow s n w
  texts_said e = go (binary_operator n) refl e
    where
      by : n ≡ binary Addition (part n 0) (part n 1) → (t : Option Tree) → text_written s (part n 0) (part n 1) ≡ t → or_else t (sum_joined (part n 0) (part n 1)) ≡ Some w → Falls TextRow s n w
      by is (Some t) h f = let r = texts_row s n w (part n 0) (part n 1) is (h ∙ f) in (inl r, lighter (Expr s) n w (EmptyText r))
      by is None h f = let r = joined_row n w (part n 0) (part n 1) is f in (inr r, lighter (Expr s) n w (JoinedTexts r))

      go : (o : Option BinaryOperator) → binary_operator n ≡ o → texts_by s o n ≡ Some w → Falls TextRow s n w
      go (Some Addition) h f = by (binary_is n Addition h) (text_written s (part n 0) (part n 1)) refl f
      go o h f = nothing f

  masks_said : masks_written n ≡ Some w → Row8 n w
  masks_said e = go (binary_operator n) refl e
    where
      row : Row8 n w ⊎ (None ≡ Some w) → Row8 n w
      row (inl r) = r
      row (inr f) = nothing f

      go : (o : Option BinaryOperator) → binary_operator n ≡ o → masks_by o n ≡ Some w → Row8 n w
      go (Some o) h f = row (mask_or n o (part n 0) (part n 1) (binary_is n o h) w None f)
      go None h f = nothing f

  templates_said : templates_written s n ≡ Some w → Falls OperatorRow s n w
  templates_said e = go (binary_operator n) refl e
    where
      of : binary_operator n ≡ Some Addition → TemplateRow (Expr s) n w → OperatorRow s n w
      of h (inl r) = nothing (sym (ap binary_operator r.shape) ∙ h)
      of h (inr r) = inr (inr (inr r))

      go : (o : Option BinaryOperator) → binary_operator n ≡ o → templates_by s o n ≡ Some w → Falls OperatorRow s n w
      go (Some Addition) h f = let c = added_contracts s n (part n 0) (part n 1) w (binary_is n Addition h) f in (of h c.row, c.lighter)
      go o h f = nothing f

  operator_said : is_some (binary_operator n) ≡ true → operator_written s n ≡ Some w → Falls OperatorRow s n w
  operator_said h e = constant (literal_written s n) refl e
    where
      of_text : Falls TextRow s n w → Falls OperatorRow s n w
      of_text (r, less) = (inr (inl r), less)

      joins : (o : Option Tree) → joined_written n ≡ o → or_else o (templates_written s n) ≡ Some w → Falls OperatorRow s n w
      joins (Some t) k f = let r = joined_is_row s n w (k ∙ f) in (inr (inr (inl (inr r))), r.gains)
      joins None k f = templates_said f

      masks : (o : Option Tree) → masks_written n ≡ o → or_else o (joins_written s n) ≡ Some w → Falls OperatorRow s n w
      masks (Some t) k f = let r = masks_said (k ∙ f) in (inr (inr (inl (inl r))), lighter (Expr s) n w (ByOperator (JoinedMasks r)))
      masks None k f = joins (joined_written n) refl f

      texts : (o : Option Tree) → texts_written s n ≡ o → or_else o (masked_written s n) ≡ Some w → Falls OperatorRow s n w
      texts (Some t) k f = of_text (texts_said (k ∙ f))
      texts None k f = masks (masks_written n) refl f

      constant : (o : Option Tree) → literal_written s n ≡ o → or_else o (summed_written s n) ≡ Some w → Falls OperatorRow s n w
      constant (Some t) k f = let r = constant_said s n w (k ∙ f) in (inl (r, h), falls (Expr s) n w r.gains)
      constant None k f = texts (texts_written s n) refl f

  binary_said : binary_expression_written s n ≡ Some w → Falls OperatorRow s n w
  binary_said e = go (binary_operator n) refl e
    where
      go : (o : Option BinaryOperator) → binary_operator n ≡ o → operator_by s o n ≡ Some w → Falls OperatorRow s n w
      go (Some o) h f = operator_said (ap is_some h) f
      go None h f = nothing f

-- ---- where nothing is written

beside_operator : (o : BinaryOperator) (b : Bool) (a k : Tree) → is_some (binary_operator (beside o b a k)) ≡ true
beside_operator o true a k = refl
beside_operator o false a k = refl

operator_of : (s : Seat) (n w : Tree) → OperatorRow s n w → is_some (binary_operator n) ≡ true
operator_of s n w (inl (r, h)) = h
operator_of s n w (inr (inl (inl r))) = ap (λ t. is_some (binary_operator t)) r.shape ∙ beside_operator Addition r.on_right r.operand (text [])
operator_of s n w (inr (inl (inr r))) = ap (λ t. is_some (binary_operator t)) r.shape
operator_of s n w (inr (inr (inl (inl r)))) = ap (λ t. is_some (binary_operator t)) r.shape
operator_of s n w (inr (inr (inl (inr r)))) = ap (λ t. is_some (binary_operator t)) r.shape
operator_of s n w (inr (inr (inr (inl r)))) = ap is_some (row5_sum n w r)
operator_of s n w (inr (inr (inr (inr r)))) = ap (λ t. is_some (binary_operator t)) r.shape

all_tried : (s : Seat) (n : Tree) → is_some (binary_operator n) ≡ true → binary_expression_written s n ≡ None → operator_written s n ≡ None
all_tried s n h e = go (binary_operator n) refl e
  where
    go : (o : Option BinaryOperator) → binary_operator n ≡ o → operator_by s o n ≡ None → operator_written s n ≡ None
    go (Some o) k f = f
    go None k f = absurd (true≢false (sym h ∙ ap is_some k))

text_there : (s : Seat) (b : Bool) (r : Tree) (is : is_text s r (text []) ≡ true) → is_some (texts_written s (beside Addition b r (text []))) ≡ true
text_there s true a is = or_else_there (text_written s a (text [])) (sum_joined a (text [])) (first_or_second (is_text s a (text [])) (is_text s (text []) a) a (text []) (ap (λ c. c || is_text s (text []) a) is))
text_there s false a is = or_else_there (text_written s (text []) a) (sum_joined (text []) a) (first_or_second (is_text s (text []) a) (is_text s a (text [])) (text []) a (or_right (is_text s (text []) a) (is_text s a (text [])) is))

texts_there : (s : Seat) (n w : Tree) → TextRow s n w → is_some (texts_written s n) ≡ true
texts_there s n w (inl r) = ap (λ t. is_some (texts_written s t)) r.shape ∙ text_there s r.on_right r.operand (is_text_there s r.operand r.known r.stays)
texts_there s n w (inr r) =
    ap (λ t. is_some (texts_written s t)) r.shape
    ∙ or_else_other (text_written s (binary Addition r.left (text r.before)) r.tail) (sum_joined (binary Addition r.left (text r.before)) r.tail)
    (ap (λ d. is_some (with_text (binary Addition r.left (text r.before)) (joined_texts (Some r.before) d))) r.known)

masks_there : (n w : Tree) → Row8 n w → is_some (masks_written n) ≡ true
masks_there n w r = ap (λ t. is_some (masks_written t)) r.shape ∙ mask_there r.operator r.on_right r.operand r.first r.second r.joined r.bitwise r.known r.short None

module _ (s : Seat) (n : Tree) (e : operator_written s n ≡ None) (small : weight (Expr s) n < 2 ^ 64) (w : Tree) where
  summed_none : summed_written s n ≡ None
  summed_none = none_second (literal_written s n) (summed_written s n) e

  masked_none : masked_written s n ≡ None
  masked_none = none_second (texts_written s n) (masked_written s n) summed_none

  joins_none : joins_written s n ≡ None
  joins_none = none_second (masks_written n) (joins_written s n) masked_none

  added_none : binary_operator n ≡ Some Addition → added_written s (part n 0) (part n 1) ≡ None
  added_none h = sym (ap (λ o. templates_by s o n) h) ∙ none_second (joined_written n) (templates_written s n) joins_none

  operator_rest : OperatorRow s n w → weight (Expr s) w < weight (Expr s) n → ⊥
  operator_rest (inl (r, h)) less = literal_rests s n w (none_first (literal_written s n) (summed_written s n) e) small r
  operator_rest (inr (inl r)) less = none_there (texts_written s n) (texts_there s n w r) (none_first (texts_written s n) (masked_written s n) summed_none)
  operator_rest (inr (inr (inl (inl r)))) less = none_there (masks_written n) (masks_there n w r) (none_first (masks_written n) (joins_written s n) masked_none)
  operator_rest (inr (inr (inl (inr r)))) less = joined_rests s n w r small (none_first (joined_written n) (templates_written s n) joins_none)
  operator_rest (inr (inr (inr (inl r)))) less = sum_rest (Some s) n w r small less (sum_unwritten (binary_operator (part n 0)) s (part n 0) (part n 1) (added_none (row5_sum n w r)))
  operator_rest (inr (inr (inr (inr r)))) less = nested_rest s n w r small less (added_none (ap binary_operator r.shape))

pub operator_own : Weighed binary_expression_written OperatorRow
operator_own = record {
  written = λ s n w e. (binary_said s n w e).0;
  lighter = λ s n w e. (binary_said s n w e).1;
  unwritten = λ s n e small w r less. operator_rest s n (all_tried s n (operator_of s n w r) e) small w r less;
}

-- ---- 9 of brackets

both_true : (b c : Bool) → b ≡ true → c ≡ true → b && c ≡ true
both_true true c e f = f
both_true false c e f = e

not_true : (b : Bool) → not b ≡ true → b ≡ false
not_true false e = refl
not_true true e = sym e

length_key : (c : Option (List ℕ)) → says_length c ≡ true → c ≡ Some (codes "length")
length_key (Some u) e = ap (λ x. Some x) (same_texts u (codes "length") e)
length_key None e = absurd (true≢false (sym e))

module _ (s : Seat) (n w : Tree) where
  length_row : asks_computed s n ≡ true → (u : List ℕ) → string (part n 0) ≡ Some u → nat_le (length u) max_safe_integer ≡ true → LengthRow s n (numeral (pos (length u)))
  length_row e u h small =
      let (is, rest) = and_parts (is_computed_member n) (says_length (string (part n 1)) && takes_length s) e in
      let (named, takes) = and_parts (says_length (string (part n 1))) (takes_length s) rest in
      let (unguarded, others) = and_parts (is_unguarded s.guard) (takes_numbers s && not (is_chain_seat s)) takes in
      let (unsigned, unchained) = and_parts (takes_numbers s) (not (is_chain_seat s)) others in
      let brackets : n ≡ computed_member false (text u) (text (codes "length")) = computed_member_is n is ∙ (λ i. computed_member false (string_is (part n 0) u h i) (string_is (part n 1) (codes "length") (length_key (string (part n 1)) named) i)) in
      (text u, (brackets, record { units = u; unguarded = unguarded; unsigned = unsigned; unchained = not_true (is_chain_seat s) unchained; small = leb-true (length u) max_safe_integer small; shape = refl; written = refl }))

  computed_said : computed_written s n ≡ Some w → LengthRow s n w
  computed_said e = go (asks_computed s n) refl e
    where
      small : asks_computed s n ≡ true → (u : List ℕ) → string (part n 0) ≡ Some u → (b : Bool) → nat_le (length u) max_safe_integer ≡ b → (if b then Some (numeral (pos (length u))) else None) ≡ Some w → LengthRow s n w
      small h u k true l f = subst (LengthRow s n) (some_is (numeral (pos (length u))) w f) (length_row h u k l)
      small h u k false l f = nothing f

      told : asks_computed s n ≡ true → (c : Option (List ℕ)) → string (part n 0) ≡ c → count_of c ≡ Some w → LengthRow s n w
      told h (Some u) k f = small h u k (nat_le (length u) max_safe_integer) refl f
      told h None k f = nothing f

      go : (b : Bool) → asks_computed s n ≡ b → (if b then count_of (string (part n 0)) else None) ≡ Some w → LengthRow s n w
      go true h f = told h (string (part n 0)) refl f
      go false h f = nothing f

length_written : (s : Seat) (u : List ℕ) → is_unguarded s.guard ≡ true → takes_numbers s ≡ true → is_chain_seat s ≡ false → nat_le (length u) max_safe_integer ≡ true → is_some (computed_written s (computed_member false (text u) (text (codes "length")))) ≡ true
length_written s u e f g h =
    ap (λ b. is_some (if b then count_of (Some u) else None)) (both_true (is_unguarded s.guard) (takes_numbers s && not (is_chain_seat s)) e (both_true (takes_numbers s) (not (is_chain_seat s)) f (ap not g)))
    ∙ ap (λ b. is_some (if b then Some (numeral (pos (length u))) else None)) h

computed_there : (s : Seat) (n o w : Tree) → n ≡ computed_member false o (text (codes "length")) → Row9 s (static_member false o (key (codes "length"))) w → is_some (computed_written s n) ≡ true
computed_there s n o w is q =
    let object : o ≡ text q.units = ap (λ x. part x 0) q.shape in
    ap (λ x. is_some (computed_written s x)) (is ∙ ap (λ x. computed_member false x (text (codes "length"))) object)
    ∙ length_written s q.units q.unguarded q.unsigned q.unchained (le-leb (length q.units) max_safe_integer q.small)

pub computed_own : OwnIn computed_written LengthRow
computed_own s = record { written = computed_said s; unwritten = λ n e w r. none_there (computed_written s n) (computed_there s n r.0 w r.1.0 r.1.1) e }
