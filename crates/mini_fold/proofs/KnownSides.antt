-- What is known makes what its rows say, and rests where no row reads the node.
use Rattle.std.proofs.Common.{◌≡◌, Bool, true, false, refl, sym, ap, subst, ◌∙◌, inl, inr}
use Rattle.std.specs.Prelude.{◌⊎◌, ◌&&◌, not, codes, Option, Some, None, is_some, unwrap_or, if◌then◌else◌}
use Rattle.std.proofs.lemmas.Bool.{and_parts}
use Rattle.mini_model.specs.declared.operator.BinaryOperator.{BinaryOperator}
use Rattle.mini_model.specs.declared.operator.LogicalOperator.{LogicalOperator}
use Rattle.mini_model.specs.declared.place.Position.TheVariants.{Expr, Stmt}
use Rattle.mini_model.specs.declared.seat.Seat.{Seat}
use Rattle.mini_model.specs.declared.seat.StmtSeat.{StmtSeat}
use Rattle.mini_model.specs.declared.shape.Shape.TheVariants as shape
use Rattle.mini_model.specs.Tree.{Tree, node, logical, conditional, expression_statement, empty_statement}
use Rattle.mini_node.specs.Children.{part}
use Rattle.mini_node.specs.Equal.{same_tree}
use Rattle.mini_node.specs.Kinds.{binary_operator, logical_operator, is_conditional, is_expression_statement}
use Rattle.mini_node.specs.Made.{binary_is, logical_is, conditional_is, expression_statement_is}
use Rattle.mini_node.proofs.Equality.{tree_same, tree_itself}
use Rattle.mini_terms.specs.Folds.{is_effect_free, has_one_kind, goes_on, stops}
use Rattle.mini_terms.specs.Parts.{suits, leaves_nothing, weighs}
use Rattle.mini_rows.specs.Folding.{names_exports, loosened, Row12, Row13, Row22, Row28, Row49Idle, FoldingRow}
use Rattle.mini_rows.specs.Spellings.{binary, static_member, text, key}
use Rattle.mini_rows.proofs.FoldWeights.{lighter}
use Rattle.mini_tree.specs.Rule.{Applied}
use Rattle.mini_tree.proofs.Reaching.{moves_once}
use Rattle.mini_rows.specs.Lists.{for_loop, encloses}
use Rattle.mini_rows.specs.ForParts.{Row22Init, Row22Update}
use Rattle.mini_fold.proofs.IdleHeads.{head_row, head_there, init_idle, update_idle}
use Rattle.mini_fold.specs.MinimizeBinary.{loosened_by, with_operator, written_by}
use Rattle.mini_fold.specs.MinimizeBinary as equality
use Rattle.mini_fold.proofs.Lengths.{length_is_row, length_rests}
use Rattle.mini_fold.specs.FoldKnown.{is_passed, is_stopped, side, logical_written, folded, is_idle_test, chooses_nothing, branch_written, written, does_nothing, expression_written, statement_written, Gives, Rests, WrittenIsRow, StatementIsRow, UnwrittenRests, StatementRests}

not_true : (b : Bool) → not b ≡ true → b ≡ false
not_true false e = refl
not_true true e = sym e

module _ (s : Seat) (o : LogicalOperator) (a b : Tree) where
  passed_row : is_passed s o a b ≡ true → Row13 s (logical o a b) b
  passed_row h =
      let (known, rest) = and_parts (goes_on o a) (is_effect_free a && (leaves_nothing a && (weighs a && suits s b))) h in
      let (free, others) = and_parts (is_effect_free a) (leaves_nothing a && (weighs a && suits s b)) rest in
      let (dropped, last) = and_parts (leaves_nothing a) (weighs a && suits s b) others in
      let (heavy, stays) = and_parts (weighs a) (suits s b) last in
      record { operator = o; left = a; right = b; known = known; effect_free = free; dropped = dropped; heavy = heavy; stays = stays; shape = refl; written = refl }

  stopped_row : is_stopped s o a b ≡ true → Row12 s (logical o a b) a
  stopped_row h =
      let (known, others) = and_parts (stops o a) (not (names_exports o b) && (encloses false b && (weighs b && suits s a))) h in
      let (nameless, rest) = and_parts (not (names_exports o b)) (encloses false b && (weighs b && suits s a)) others in
      let (dropped, last) = and_parts (encloses false b) (weighs b && suits s a) rest in
      let (heavy, stays) = and_parts (weighs b) (suits s a) last in
      record { operator = o; left = a; right = b; known = known; nameless = not_true (names_exports o b) nameless; dropped = dropped; heavy = heavy; stays = stays; shape = refl; written = refl }

  both_true : (c d : Bool) → c ≡ true → d ≡ true → c && d ≡ true
  both_true true d e f = f
  both_true false d e f = e

  pub passes : goes_on o a ≡ true → is_effect_free a ≡ true → leaves_nothing a ≡ true → weighs a ≡ true → suits s b ≡ true → is_passed s o a b ≡ true
  passes e f g h k = both_true (goes_on o a) _ e (both_true (is_effect_free a) _ f (both_true (leaves_nothing a) _ g (both_true (weighs a) (suits s b) h k)))

  pub stopped : stops o a ≡ true → names_exports o b ≡ false → encloses false b ≡ true → weighs b ≡ true → suits s a ≡ true → is_stopped s o a b ≡ true
  stopped e f g h k = both_true (stops o a) _ e (both_true (not (names_exports o b)) _ (ap not f) (both_true (encloses false b) _ g (both_true (weighs b) (suits s a) h k)))

  side_row : (w : Tree) → side (is_passed s o a b) (is_stopped s o a b) a b ≡ Some w → Row13 s (logical o a b) w ⊎ Row12 s (logical o a b) w
  side_row w e = go (is_passed s o a b) (is_stopped s o a b) refl refl e
    where
      go : (c d : Bool) → is_passed s o a b ≡ c → is_stopped s o a b ≡ d → side c d a b ≡ Some w → Row13 s (logical o a b) w ⊎ Row12 s (logical o a b) w
      go true d h k e = let is : b ≡ w = cc e in inl (subst (Row13 s (logical o a b)) is (passed_row h))
      go false true h k e = let is : a ≡ w = cc e in inr (subst (Row12 s (logical o a b)) is (stopped_row k))
      go false false h k e = absurd (cc e)

-- no side goes where nothing is written
pub unpassed : (c d : Bool) (a b : Tree) → c ≡ true → side c d a b ≡ None → ⊥
unpassed true d a b h e = cc e
unpassed false d a b h e = cc h

pub unstopped : (c d : Bool) (a b : Tree) → d ≡ true → side c d a b ≡ None → ⊥
unstopped true d a b h e = cc e
unstopped false true a b h e = cc e
unstopped false false a b h e = cc h

pub folded_is_row : (s : Seat) (n w : Tree) → folded s n ≡ Some w → Row13 s n w ⊎ Row12 s n w
folded_is_row s n w e = go (logical_operator n) refl e
  where
    go : (x : Option LogicalOperator) → logical_operator n ≡ x → logical_written s x (part n 0) (part n 1) ≡ Some w → Row13 s n w ⊎ Row12 s n w
    go (Some o) h e = subst (λ t. Row13 s t w ⊎ Row12 s t w) (sym (logical_is n o h)) (side_row s o (part n 0) (part n 1) w e)
    go None h e = absurd (cc e)

of_side : (s : Seat) (n w : Tree) → Row13 s n w ⊎ Row12 s n w → FoldingRow (Expr s) n w
of_side s n w (inl r) = inl r
of_side s n w (inr r) = inr (inl r)

-- equalities

pub equality_is_row : (n w : Tree) → equality.written n ≡ Some w → Row28 n w
equality_is_row n w e = go (binary_operator n) refl e
  where
    made : (o p : BinaryOperator) → binary_operator n ≡ Some o → loosened o ≡ Some p → has_one_kind (part n 0) (part n 1) ≡ true → with_operator n p ≡ w → Row28 n w
    made o p h l k e = let is = binary_is n o h in record { operator = o; loose = p; left = part n 0; right = part n 1; loosens = l; alike = k; shape = is; written = sym e ∙ ap (λ t. with_operator t p) is }

    by : (o : BinaryOperator) (l : Option BinaryOperator) (c : Bool) → binary_operator n ≡ Some o → loosened o ≡ l → has_one_kind (part n 0) (part n 1) ≡ c → written_by l c n ≡ Some w → Row28 n w
    by o (Some p) true h l k e = made o p h l k (cc e)
    by o (Some p) false h l k e = absurd (cc e)
    by o None c h l k e = absurd (cc e)

    go : (x : Option BinaryOperator) → binary_operator n ≡ x → written_by (loosened_by x) (has_one_kind (part n 0) (part n 1)) n ≡ Some w → Row28 n w
    go (Some o) h e = by o (loosened o) (has_one_kind (part n 0) (part n 1)) h refl refl e
    go None h e = absurd (cc e)

-- of an equality that a row reads something is written
pub equality_never : (l : Option BinaryOperator) (c : Bool) (p : BinaryOperator) (t : Tree) → l ≡ Some p → c ≡ true → written_by l c t ≡ None → ⊥
equality_never (Some q) true p t h k e = cc e
equality_never (Some q) false p t h k e = cc k
equality_never None c p t h k e = cc h

-- conditionals

idle_row : (s : Seat) (n : Tree) → chooses_nothing s n ≡ true → Row49Idle s n (part n 1)
idle_row s n h =
    let (is, idle) = and_parts (is_conditional n) (is_idle_test s (part n 0) (part n 1) (part n 2)) h in
    let (alike, known) = and_parts (same_tree (part n 1) (part n 2)) (is_effect_free (part n 0) && (leaves_nothing (part n 0) && (weighs (part n 0) && suits s (part n 1)))) idle in
    let (free, others) = and_parts (is_effect_free (part n 0)) (leaves_nothing (part n 0) && (weighs (part n 0) && suits s (part n 1))) known in
    let (dropped, last) = and_parts (leaves_nothing (part n 0)) (weighs (part n 0) && suits s (part n 1)) others in
    let (heavy, stays) = and_parts (weighs (part n 0)) (suits s (part n 1)) last in
    record { test = part n 0; branch = part n 1; effect_free = free; dropped = dropped; heavy = heavy; stays = stays; shape = conditional_is n is ∙ ap (conditional (part n 0) (part n 1)) (sym (tree_same (part n 1) (part n 2) alike)); written = refl }

pub branch_is_row : (s : Seat) (n w : Tree) → branch_written s n ≡ Some w → Row49Idle s n w
branch_is_row s n w e = go (chooses_nothing s n) refl e
  where
    go : (c : Bool) → chooses_nothing s n ≡ c → (if c then Some (part n 1) else None) ≡ Some w → Row49Idle s n w
    go true h e = let is : part n 1 ≡ w = cc e in subst (Row49Idle s n) is (idle_row s n h)
    go false h e = absurd (cc e)

pub idle_chooses : (s : Seat) (a b : Tree) → is_effect_free a ≡ true → leaves_nothing a ≡ true → weighs a ≡ true → suits s b ≡ true → chooses_nothing s (conditional a b b) ≡ true
idle_chooses s a b f g h k = all_true (same_tree b b) _ (tree_itself b) (all_true (is_effect_free a) _ f (all_true (leaves_nothing a) _ g (all_true (weighs a) (suits s b) h k)))
  where
    all_true : (c d : Bool) → c ≡ true → d ≡ true → c && d ≡ true
    all_true true d e f = f
    all_true false d e f = e

never_unwritten : (c : Bool) (t : Tree) → c ≡ true → (if c then Some t else None) ≡ None → ⊥
never_unwritten true t h e = cc e
never_unwritten false t h e = cc h

-- all

row_of : (s : Seat) (n w : Tree) → written s n ≡ Some w → FoldingRow (Expr s) n w
row_of s (node (shape.LogicalExpression o) xs m ts) w e = of_side s _ w (folded_is_row s (node (shape.LogicalExpression o) xs m ts) w e)
row_of s (node (shape.BinaryExpression o) xs m ts) w e = inr (inr (inl (equality_is_row (node (shape.BinaryExpression o) xs m ts) w e)))
row_of s (node shape.ConditionalExpression xs m ts) w e = inr (inr (inr (inl (branch_is_row s (node shape.ConditionalExpression xs m ts) w e))))
row_of s (node (shape.StaticMemberExpression b) xs m ts) w e = inr (inr (inr (inr (length_is_row s (node (shape.StaticMemberExpression b) xs m ts) w e))))
row_of s (node h xs m ts) w e = absurd (cc e)

pub written_is_row : WrittenIsRow
written_is_row s n w e = row_of s n w e

unwritten : (s : Seat) (n m : Tree) → n ≡ m → written s n ≡ None → written s m ≡ None
unwritten s n m e h = sym (ap (written s) e) ∙ h

pub unwritten_rests : UnwrittenRests
unwritten_rests s n e w (inl r) = unpassed (is_passed s r.operator r.left r.right) (is_stopped s r.operator r.left r.right) r.left r.right (passes s r.operator r.left r.right r.known r.effect_free r.dropped r.heavy r.stays) (unwritten s n (logical r.operator r.left r.right) r.shape e)
unwritten_rests s n e w (inr (inr (inr (inr r)))) =
    length_rests s (static_member false (text r.units) (key (codes "length"))) (unwritten s n (static_member false (text r.units) (key (codes "length"))) r.shape e) w (record { units = r.units; unguarded = r.unguarded; unsigned = r.unsigned; unchained = r.unchained; small = r.small; shape = refl; written = r.written })
unwritten_rests s n e w (inr (inr (inr (inl r)))) = never_unwritten (chooses_nothing s (conditional r.test r.branch r.branch)) r.branch (idle_chooses s r.test r.branch r.effect_free r.dropped r.heavy r.stays) (unwritten s n (conditional r.test r.branch r.branch) r.shape e)
unwritten_rests s n e w (inr (inr (inl r))) = equality_never (loosened r.operator) (has_one_kind r.left r.right) r.loose (binary r.operator r.left r.right) r.loosens r.alike (unwritten s n (binary r.operator r.left r.right) r.shape e)
unwritten_rests s n e w (inr (inl r)) = unstopped (is_passed s r.operator r.left r.right) (is_stopped s r.operator r.left r.right) r.left r.right (stopped s r.operator r.left r.right r.known r.nameless r.dropped r.heavy r.stays) (unwritten s n (logical r.operator r.left r.right) r.shape e)

-- statements

pub expression_row : (n w : Tree) → expression_written n ≡ Some w → Row22 n w
expression_row n w e = go (does_nothing n) refl e
  where
    go : (c : Bool) → does_nothing n ≡ c → (if c then Some empty_statement else None) ≡ Some w → Row22 n w
    go true h e =
        let (is, rest) = and_parts (is_expression_statement n) (is_effect_free (part n 0) && leaves_nothing (part n 0)) h in
        let (free, dropped) = and_parts (is_effect_free (part n 0)) (leaves_nothing (part n 0)) rest in
        let same : empty_statement ≡ w = cc e in
        record { expression = part n 0; effect_free = free; dropped = dropped; shape = expression_statement_is n is; written = sym same }
    go false h e = absurd (cc e)

pub statement_is_row : StatementIsRow
statement_is_row q (node shape.ExpressionStatement xs m ts) w e = inl (expression_row (node shape.ExpressionStatement xs m ts) w e)
statement_is_row q (node shape.ForStatement xs m ts) w e = inr (head_row (node shape.ForStatement xs m ts) w e)
statement_is_row q (node h xs m ts) w e = absurd (cc e)

pub expression_rests : (n w : Tree) → expression_written n ≡ None → Row22 n w → ⊥
expression_rests n w e r = never (does_nothing n) (ap does_nothing r.shape ∙ both_true' (is_effect_free r.expression) (leaves_nothing r.expression) r.effect_free r.dropped) e
  where
    both_true' : (c d : Bool) → c ≡ true → d ≡ true → c && d ≡ true
    both_true' true d e f = f
    both_true' false d e f = e

    never : (c : Bool) → c ≡ true → (if c then Some empty_statement else None) ≡ None → ⊥
    never true h e = cc e
    never false h e = cc h

statement_as : (n m : Tree) → n ≡ m → statement_written n ≡ None → statement_written m ≡ None
statement_as n m e h = sym (ap statement_written e) ∙ h

pub statement_rests : StatementRests
statement_rests q n e w (inl r) = expression_rests (expression_statement r.expression) w (statement_as n (expression_statement r.expression) r.shape e) (subst (λ t. Row22 t w) r.shape r)
statement_rests q n e w (inr (inl r)) = let t : Tree = for_loop r.init r.test r.update r.body in head_there t (init_idle t w (subst (λ t. Row22Init t w) r.shape r)) (statement_as n t r.shape e)
statement_rests q n e w (inr (inr r)) = let t : Tree = for_loop r.init r.test r.update r.body in head_there t (update_idle t w (subst (λ t. Row22Update t w) r.shape r)) (statement_as n t r.shape e)

-- the rule

pub applied : (s : Seat) (t u : Tree) (b : Bool) → u ≡ unwrap_or (written s t) t → b ≡ is_some (written s t) → Applied Gives Rests (Expr s) t u b
applied s t u b e f = subst (λ v. Applied Gives Rests (Expr s) t v b) (sym e) (subst (Applied Gives Rests (Expr s) t (unwrap_or (written s t) t)) (sym f) (go (written s t) refl))
  where
    go : (o : Option Tree) → written s t ≡ o → Applied Gives Rests (Expr s) t (unwrap_or o t) (is_some o)
    go None h = (refl, unwritten_rests s t h)
    go (Some w) h = let row = written_is_row s t w h in moves_once Gives (Expr s) t w (record { row = row; lighter = lighter (Expr s) t w row })

pub statement_applied : (q : StmtSeat) (t u : Tree) (b : Bool) → u ≡ unwrap_or (statement_written t) t → b ≡ is_some (statement_written t) → Applied Gives Rests (Stmt q) t u b
statement_applied q t u b e f = subst (λ v. Applied Gives Rests (Stmt q) t v b) (sym e) (subst (Applied Gives Rests (Stmt q) t (unwrap_or (statement_written t) t)) (sym f) (go (statement_written t) refl))
  where
    go : (o : Option Tree) → statement_written t ≡ o → Applied Gives Rests (Stmt q) t (unwrap_or o t) (is_some o)
    go None h = (refl, statement_rests q t h)
    go (Some w) h = let row = statement_is_row q t w h in moves_once Gives (Stmt q) t w (record { row = row; lighter = lighter (Stmt q) t w row })
