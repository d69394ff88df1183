-- Rows on conditionals, logical expressions and assignments that are written shorter of the same parts, chains aside, ask less.
use Rattle.std.specs.Prelude.{◌≡◌, refl, Bool, true, false, not, Option, Some, None, pos}
use Rattle.std.proofs.Common.{inl, inr, sym, subst}
use Rattle.mini_model.specs.declared.name.Name.{Name}
use Rattle.mini_model.specs.declared.operator.AssignmentOperator.{AssignmentOperator}
use Rattle.mini_model.specs.declared.operator.AssignmentOperator.TheVariants.{Assign}
use Rattle.mini_model.specs.declared.operator.BinaryOperator.TheVariants as binary_operator
use Rattle.mini_model.specs.declared.operator.LogicalOperator.{LogicalOperator}
use Rattle.mini_model.specs.declared.operator.LogicalOperator.TheVariants.{Or, And, Coalesce}
use Rattle.mini_model.specs.declared.operator.UnaryOperator.TheVariants.{LogicalNot}
use Rattle.mini_model.specs.declared.place.Position.TheVariants.{Expr}
use Rattle.mini_model.specs.declared.seat.Seat.{Seat}
use Rattle.mini_model.specs.declared.shape.Shape.TheVariants as shape
use Rattle.mini_model.specs.Paths.{append}
use Rattle.mini_model.specs.Tree.{Tree, Trees, none, ◌▸◌, leaf, listed, identifier, negation, logical, conditional, null_literal, call}
use Rattle.mini_rows.specs.Choices.{assign, pair, joined, strictly, loosely, joining, deciding, Key, Named, Spelled, Numbered, member_on, member_of, asks_object, null_compared, held, ended, argument, Row39, Row38, Row35, Row46Equal, Row46Unequal, Row37, Row37After, Row57, Row57Null, Row35Member, Row38Last, CallRow, Row13Both, ZeroRow, LighterRow, OwnRow, HeldRow, Rotated, Decided, Combined, NullishIfEqual, NullishIfUnequal, Chosen, LooseNull, LooseNullAfter, ObjectTest, ObjectTestAfter, CombinedMember, ChosenMember, DecidedLast, OrTest, AndTest, AndBoth, OrEither, LastAfterOr, LastAfterAnd, AndThenOr, OrThenAnd, Alike}
use Rattle.mini_rows.specs.Lists.{sequence}
use Rattle.mini_rows.specs.Sketches.{AList, Binary, Logical, Conditional, Sequence, Call, StaticMember, ComputedMember, Spread, Assignment, Asked, AsValue, AsValues, AsTarget, AsUpdated, target_asked}
use Rattle.mini_rows.specs.Spellings.{binary, numeral, assignment}
use Rattle.mini_less.specs.Families.{LessAt}
use Rattle.mini_less.proofs.Made.{ByParts}
use Rattle.mini_less.proofs.Nodes.{a_unary, binary_parts, a_binary, logical_parts, a_logical, conditional_parts, a_conditional, sequence_parts, a_sequence, firsts, lasts, both_of, a_number, a_null, made_under}

module _ (Q : Asked → Tree → Type 0) (l : ByParts Q) where
  -- 39: another operand may stand in the place of the first
  joined_parts : (o : LogicalOperator) (b : Tree) (cs : Trees) → Q AsValue (joined o b cs) → Q AsValue b × ((a : Tree) → Q AsValue a → Q AsValue (joined o a cs))
  joined_parts o b none y = (y, λ a q. q)
  joined_parts o b (c ▸ cs) y =
      let (x, z) = logical_parts Q l o (joined o b cs) c y in
      let (v, f) = joined_parts o b cs x in
      (v, λ a q. a_logical Q l o (joined o a cs) c (f a q) z)

  pub pair_parts : (a b : Tree) → Q AsValue (pair a b) → Q AsValue a × Q AsValue b
  pair_parts a b y = let all = sequence_parts Q l (a ▸ b ▸ none) y in (all.0, all.1.0)

  pub a_pair : (a b : Tree) → Q AsValue a → Q AsValue b → Q AsValue (pair a b)
  a_pair a b x y = a_sequence Q l (a ▸ b ▸ none) (x, (y, tt))

  -- behind another operand, or not
  pub ended_parts : (o : LogicalOperator) (b : Option Tree) (t : Tree) → Q AsValue (ended o b t) → Q AsValue t × ((u : Tree) → Q AsValue u → Q AsValue (ended o b u))
  ended_parts o None t y = (y, λ u q. q)
  ended_parts o (Some b) t y = let (x, z) = logical_parts Q l o b t y in (z, λ u q. a_logical Q l o b u x q)

  compared_name : (strict equal : Bool) (x : Name) → Q AsValue (null_compared strict equal x) → Q AsValue (identifier x)
  compared_name true equal x y = (binary_parts Q l (strictly equal) (identifier x) null_literal y).0
  compared_name false equal x y = (binary_parts Q l (loosely equal) (identifier x) null_literal y).0

  held_name : (b : Bool) (x : Name) → Q AsValue (identifier x) → Q AsValue (held b x)
  held_name true x y = a_unary Q l LogicalNot (negation (identifier x)) (a_unary Q l LogicalNot (identifier x) y)
  held_name false x y = a_unary Q l LogicalNot (identifier x) y

  -- an assignment
  pub assigned_parts : (o : AssignmentOperator) (t b : Tree) → Q AsValue (assignment o t b) → Q (target_asked o) t × Q AsValue b
  assigned_parts o t b y = let (x, (z, v)) = l.down (Assignment o) refl AsValue (t ▸ b ▸ none) tt y in (x, z)

  pub an_assignment : (o : AssignmentOperator) (t b : Tree) → Q (target_asked o) t → Q AsValue b → Q AsValue (assignment o t b)
  an_assignment o t b x y = l.up (Assignment o) refl AsValue (t ▸ b ▸ none) tt (x, (y, tt))

  -- what is assigned to may be updated
  pub retargeted : (o : AssignmentOperator) (t b : Tree) → Q AsTarget t → Q AsUpdated t → Q AsValue b → Q AsValue (assignment o t b)
  retargeted Assign t b x u y = an_assignment Assign t b x y
  retargeted o t b x u y = l.up (Assignment o) refl AsValue (t ▸ b ▸ none) tt (u, (y, tt))

  pub member_updated : (t : Tree) (k : Key) → Q AsTarget (member_on t k) → Q AsUpdated (member_on t k)
  member_updated t (Named s) y = l.up (StaticMember false) refl AsUpdated (t ▸ leaf (shape.IdentifierName s) ▸ none) tt (l.down (StaticMember false) refl AsTarget (t ▸ leaf (shape.IdentifierName s) ▸ none) tt y)
  member_updated t (Spelled s) y = l.up (ComputedMember false) refl AsUpdated (t ▸ leaf (shape.StringLiteral s) ▸ none) tt (l.down (ComputedMember false) refl AsTarget (t ▸ leaf (shape.StringLiteral s) ▸ none) tt y)
  member_updated t (Numbered k) y = l.up (ComputedMember false) refl AsUpdated (t ▸ leaf (shape.NumericLiteral k) ▸ none) tt (l.down (ComputedMember false) refl AsTarget (t ▸ leaf (shape.NumericLiteral k) ▸ none) tt y)

  -- 45
  pub choice_assigned : (o : AssignmentOperator) (t a b c : Tree) → Q AsValue (conditional a (assignment o t b) (assignment o t c)) → Q AsValue (assignment o t (conditional a b c))
  choice_assigned o t a b c y =
      let (x, (z, v)) = conditional_parts Q l a (assignment o t b) (assignment o t c) y in
      let (target, first) = assigned_parts o t b z in
      an_assignment o t (conditional a b c) target (a_conditional Q l a b c x first (assigned_parts o t c v).1)

  -- 44
  an_argument : (s : Bool) (a p q : Tree) → Q AsValue a → Q AsValue (argument s p) → Q AsValue (argument s q) → Q AsValue (argument s (conditional a p q))
  an_argument false a p q x y z = a_conditional Q l a p q x y z
  an_argument true a p q x y z = l.up Spread refl AsValue (conditional a p q ▸ none) tt (a_conditional Q l a p q x (l.down Spread refl AsValue (p ▸ none) tt y).0 (l.down Spread refl AsValue (q ▸ none) tt z).0, tt)

  called_choice : (s : Bool) (a f p q : Tree) (ts : Trees) → Q AsValue (conditional a (call false f (argument s p ▸ ts)) (call false f (argument s q ▸ ts))) → Q AsValue (call false f (argument s (conditional a p q) ▸ ts))
  called_choice s a f p q ts y =
      let (x, (z, v)) = conditional_parts Q l a (call false f (argument s p ▸ ts)) (call false f (argument s q ▸ ts)) y in
      let (k, (g, first)) = l.call_down AsValue f (listed (argument s p ▸ ts)) z in
      let (k', (g', second)) = l.call_down AsValue f (listed (argument s q ▸ ts)) v in
      let ps = l.down AList refl AsValues (argument s p ▸ ts) tt first in
      let qs = l.down AList refl AsValues (argument s q ▸ ts) tt second in
      l.call_up AsValue f (listed (argument s (conditional a p q) ▸ ts)) k g (l.up AList refl AsValues (argument s (conditional a p q) ▸ ts) tt (an_argument s a p q x ps.0 qs.0, ps.1))

module _ (q : Seat) (n w : Tree) where
  rotated_less : Row39 n w → LessAt (Expr q) n w
  rotated_less r =
      made_under q n w (Logical r.operator) (r.a ▸ joined r.operator r.b (r.last ▸ r.others) ▸ none) refl r.shape tt (Logical r.operator) (joined r.operator (logical r.operator r.a r.b) r.others ▸ r.last ▸ none) refl r.written (λ strict x k Q l y.
      let (first, rest) = logical_parts Q l r.operator r.a (joined r.operator r.b (r.last ▸ r.others)) (subst (Q AsValue) r.shape y) in
      let (second, put) = joined_parts Q l r.operator r.b (r.last ▸ r.others) rest in
      subst (Q AsValue) (sym r.written) (put (logical r.operator r.a r.b) (a_logical Q l r.operator r.a r.b first second)))

  decided_less : Row38 n w → LessAt (Expr q) n w
  decided_less r =
      made_under q n w (Logical r.operator) (identifier r.name ▸ assign r.name r.b ▸ none) refl r.shape tt (Assignment (deciding r.operator)) (identifier r.name ▸ r.b ▸ none) refl r.written (λ strict x k Q l y.
      let (name, rest) = logical_parts Q l r.operator (identifier r.name) (assign r.name r.b) (subst (Q AsValue) r.shape y) in
      let (target, value) = assigned_parts Q l Assign (identifier r.name) r.b rest in
      subst (Q AsValue) (sym r.written) (retargeted Q l (deciding r.operator) (identifier r.name) r.b target (l.updated r.name target name) value))

  decided_last_less : Row38Last q n w → LessAt (Expr q) n w
  decided_last_less r =
      made_under q n w (Logical r.operator) (identifier r.name ▸ sequence (r.first ▸ append r.others (assign r.name r.b ▸ none)) ▸ none) refl r.shape tt (Assignment (deciding r.operator)) (identifier r.name ▸ sequence (r.first ▸ append r.others (r.b ▸ none)) ▸ none) refl r.written (λ strict x k Q l y.
      let (name, rest) = logical_parts Q l r.operator (identifier r.name) (sequence (r.first ▸ append r.others (assign r.name r.b ▸ none))) (subst (Q AsValue) r.shape y) in
      let all = sequence_parts Q l (r.first ▸ append r.others (assign r.name r.b ▸ none)) rest in
      let (target, value) = assigned_parts Q l Assign (identifier r.name) r.b (lasts Q l r.others (assign r.name r.b ▸ none) all.1).0 in
      subst (Q AsValue) (sym r.written) (retargeted Q l (deciding r.operator) (identifier r.name) (sequence (r.first ▸ append r.others (r.b ▸ none))) target (l.updated r.name target name)
      (a_sequence Q l (r.first ▸ append r.others (r.b ▸ none)) (all.0, both_of Q l r.others (r.b ▸ none) (firsts Q l r.others (assign r.name r.b ▸ none) all.1) (value, tt)))))

  computed_less : Row35 n w → LessAt (Expr q) n w
  computed_less r =
      made_under q n w (Assignment Assign) (identifier r.name ▸ binary r.operator (identifier r.name) r.b ▸ none) refl r.shape tt (Assignment r.combined) (identifier r.name ▸ r.b ▸ none) refl r.written (λ strict x k Q l y.
      let (target, sum) = assigned_parts Q l Assign (identifier r.name) (binary r.operator (identifier r.name) r.b) (subst (Q AsValue) r.shape y) in
      let (name, value) = binary_parts Q l r.operator (identifier r.name) r.b sum in
      subst (Q AsValue) (sym r.written) (retargeted Q l r.combined (identifier r.name) r.b target (l.updated r.name target name) value))

  computed_member_less : Row35Member n w → LessAt (Expr q) n w
  computed_member_less r =
      let m : Tree = member_of r.name r.key in
      made_under q n w (Assignment Assign) (m ▸ binary r.operator m r.b ▸ none) refl r.shape tt (Assignment r.combined) (m ▸ r.b ▸ none) refl r.written (λ strict x k Q l y.
      let (target, sum) = assigned_parts Q l Assign m (binary r.operator m r.b) (subst (Q AsValue) r.shape y) in
      subst (Q AsValue) (sym r.written) (retargeted Q l r.combined m r.b target (member_updated Q l (identifier r.name) r.key target) (binary_parts Q l r.operator m r.b sum).1))

  equal_less : Row46Equal n w → LessAt (Expr q) n w
  equal_less r =
      made_under q n w Conditional (binary binary_operator.Equality (identifier r.name) null_literal ▸ r.b ▸ identifier r.name ▸ none) refl r.shape tt (Logical Coalesce) (identifier r.name ▸ r.b ▸ none) refl r.written (λ strict x k Q l y.
      let (a, (b, c)) = conditional_parts Q l (binary binary_operator.Equality (identifier r.name) null_literal) r.b (identifier r.name) (subst (Q AsValue) r.shape y) in
      subst (Q AsValue) (sym r.written) (a_logical Q l Coalesce (identifier r.name) r.b c b))

  unequal_less : Row46Unequal n w → LessAt (Expr q) n w
  unequal_less r =
      made_under q n w Conditional (binary binary_operator.Inequality (identifier r.name) null_literal ▸ identifier r.name ▸ r.b ▸ none) refl r.shape tt (Logical Coalesce) (identifier r.name ▸ r.b ▸ none) refl r.written (λ strict x k Q l y.
      let (a, (b, c)) = conditional_parts Q l (binary binary_operator.Inequality (identifier r.name) null_literal) (identifier r.name) r.b (subst (Q AsValue) r.shape y) in
      subst (Q AsValue) (sym r.written) (a_logical Q l Coalesce (identifier r.name) r.b b c))

  -- 45, of any target
  pub chosen_target_less : (o : AssignmentOperator) (t a b c : Tree) → n ≡ conditional a (assignment o t b) (assignment o t c) → w ≡ assignment o t (conditional a b c) → LessAt (Expr q) n w
  chosen_target_less o t a b c e f = made_under q n w Conditional (a ▸ assignment o t b ▸ assignment o t c ▸ none) refl e tt (Assignment o) (t ▸ conditional a b c ▸ none) refl f (λ strict x k Q l y. subst (Q AsValue) (sym f) (choice_assigned Q l o t a b c (subst (Q AsValue) e y)))

  nullish_less : Row37 n w → LessAt (Expr q) n w
  nullish_less r =
      let one : Tree = binary (strictly r.equal) (identifier r.name) r.first in
      let two : Tree = binary (strictly r.equal) (identifier r.name) r.second in
      made_under q n w (Logical (joining r.equal)) (one ▸ two ▸ none) refl r.shape tt (Binary (loosely r.equal)) (identifier r.name ▸ null_literal ▸ none) refl r.written (λ strict x k Q l y.
      subst (Q AsValue) (sym r.written) (a_binary Q l (loosely r.equal) (identifier r.name) null_literal (binary_parts Q l (strictly r.equal) (identifier r.name) r.first (logical_parts Q l (joining r.equal) one two (subst (Q AsValue) r.shape y)).0).0 (a_null Q l)))

  nullish_after_less : Row37After n w → LessAt (Expr q) n w
  nullish_after_less r =
      let one : Tree = binary (strictly r.equal) (identifier r.name) r.first in
      let two : Tree = binary (strictly r.equal) (identifier r.name) r.second in
      made_under q n w (Logical (joining r.equal)) (logical (joining r.equal) r.before one ▸ two ▸ none) refl r.shape tt (Logical (joining r.equal)) (r.before ▸ binary (loosely r.equal) (identifier r.name) null_literal ▸ none) refl r.written (λ strict x k Q l y.
      let (inner, last) = logical_parts Q l (joining r.equal) (logical (joining r.equal) r.before one) two (subst (Q AsValue) r.shape y) in
      let (before, first) = logical_parts Q l (joining r.equal) r.before one inner in
      subst (Q AsValue) (sym r.written) (a_logical Q l (joining r.equal) r.before (binary (loosely r.equal) (identifier r.name) null_literal) before (a_binary Q l (loosely r.equal) (identifier r.name) null_literal (binary_parts Q l (strictly r.equal) (identifier r.name) r.first first).0 (a_null Q l))))

  object_less : Row57 n w → LessAt (Expr q) n w
  object_less r =
      let o : LogicalOperator = joining (not r.there) in
      let asked : Tree = asks_object r.there r.name in
      let compared : Tree = null_compared r.strict (not r.there) r.name in
      made_under q n w (Logical o) (ended o r.before asked ▸ compared ▸ none) refl r.shape tt (Logical o) (ended o r.before asked ▸ held r.there r.name ▸ none) refl r.written (λ strict x k Q l y.
      let (first, last) = logical_parts Q l o (ended o r.before asked) compared (subst (Q AsValue) r.shape y) in
      subst (Q AsValue) (sym r.written) (a_logical Q l o (ended o r.before asked) (held r.there r.name) first (held_name Q l r.there r.name (compared_name Q l r.strict (not r.there) r.name last))))

  null_object_less : Row57Null n w → LessAt (Expr q) n w
  null_object_less r =
      let o : LogicalOperator = joining (not r.there) in
      let asked : Tree = asks_object r.there r.name in
      let compared : Tree = null_compared r.strict (not r.there) r.name in
      made_under q n w (Logical o) (ended o r.before compared ▸ asked ▸ none) refl r.shape tt (Logical o) (ended o r.before (held r.there r.name) ▸ asked ▸ none) refl r.written (λ strict x k Q l y.
      let (first, last) = logical_parts Q l o (ended o r.before compared) asked (subst (Q AsValue) r.shape y) in
      let (name, put) = ended_parts Q l o r.before compared first in
      subst (Q AsValue) (sym r.written) (a_logical Q l o (ended o r.before (held r.there r.name)) asked (put (held r.there r.name) (held_name Q l r.there r.name (compared_name Q l r.strict (not r.there) r.name name))) last))

  pub own_less : OwnRow n w → LessAt (Expr q) n w
  own_less (OrTest r) =
      made_under q n w Conditional (identifier r.name ▸ identifier r.name ▸ r.b ▸ none) refl r.shape tt (Logical Or) (identifier r.name ▸ r.b ▸ none) refl r.written (λ strict x k Q l y.
      let (a, (b, c)) = conditional_parts Q l (identifier r.name) (identifier r.name) r.b (subst (Q AsValue) r.shape y) in subst (Q AsValue) (sym r.written) (a_logical Q l Or (identifier r.name) r.b a c))
  own_less (AndTest r) =
      made_under q n w Conditional (identifier r.name ▸ r.b ▸ identifier r.name ▸ none) refl r.shape tt (Logical And) (identifier r.name ▸ r.b ▸ none) refl r.written (λ strict x k Q l y.
      let (a, (b, c)) = conditional_parts Q l (identifier r.name) r.b (identifier r.name) (subst (Q AsValue) r.shape y) in subst (Q AsValue) (sym r.written) (a_logical Q l And (identifier r.name) r.b a b))

  pub held_less : HeldRow n w → LessAt (Expr q) n w
  held_less (AndBoth r) =
      made_under q n w Conditional (r.a ▸ conditional r.b r.c r.d ▸ r.d ▸ none) refl r.shape tt Conditional (logical And r.a r.b ▸ r.c ▸ r.d ▸ none) refl r.written (λ strict x k Q l y.
      let (a, (inner, d)) = conditional_parts Q l r.a (conditional r.b r.c r.d) r.d (subst (Q AsValue) r.shape y) in
      let (b, (c, e)) = conditional_parts Q l r.b r.c r.d inner in
      subst (Q AsValue) (sym r.written) (a_conditional Q l (logical And r.a r.b) r.c r.d (a_logical Q l And r.a r.b a b) c d))
  held_less (OrEither r) =
      made_under q n w Conditional (r.a ▸ r.c ▸ conditional r.b r.c r.d ▸ none) refl r.shape tt Conditional (logical Or r.a r.b ▸ r.c ▸ r.d ▸ none) refl r.written (λ strict x k Q l y.
      let (a, (c, inner)) = conditional_parts Q l r.a r.c (conditional r.b r.c r.d) (subst (Q AsValue) r.shape y) in
      let (b, (e, d)) = conditional_parts Q l r.b r.c r.d inner in
      subst (Q AsValue) (sym r.written) (a_conditional Q l (logical Or r.a r.b) r.c r.d (a_logical Q l Or r.a r.b a b) c d))
  held_less (LastAfterOr r) =
      made_under q n w Conditional (r.a ▸ logical Or r.b r.c ▸ r.c ▸ none) refl r.shape tt (Logical Or) (logical And r.a r.b ▸ r.c ▸ none) refl r.written (λ strict x k Q l y.
      let (a, (inner, c)) = conditional_parts Q l r.a (logical Or r.b r.c) r.c (subst (Q AsValue) r.shape y) in
      subst (Q AsValue) (sym r.written) (a_logical Q l Or (logical And r.a r.b) r.c (a_logical Q l And r.a r.b a (logical_parts Q l Or r.b r.c inner).0) c))
  held_less (LastAfterAnd r) =
      made_under q n w Conditional (r.a ▸ r.c ▸ logical And r.b r.c ▸ none) refl r.shape tt (Logical And) (logical Or r.a r.b ▸ r.c ▸ none) refl r.written (λ strict x k Q l y.
      let (a, (c, inner)) = conditional_parts Q l r.a r.c (logical And r.b r.c) (subst (Q AsValue) r.shape y) in
      subst (Q AsValue) (sym r.written) (a_logical Q l And (logical Or r.a r.b) r.c (a_logical Q l Or r.a r.b a (logical_parts Q l And r.b r.c inner).0) c))
  held_less (AndThenOr r) =
      made_under q n w Conditional (r.a ▸ pair r.b r.c ▸ r.c ▸ none) refl r.shape tt Sequence (listed (logical And r.a r.b ▸ r.c ▸ none) ▸ none) refl r.written (λ strict x k Q l y.
      let (a, (inner, c)) = conditional_parts Q l r.a (pair r.b r.c) r.c (subst (Q AsValue) r.shape y) in
      subst (Q AsValue) (sym r.written) (a_pair Q l (logical And r.a r.b) r.c (a_logical Q l And r.a r.b a (pair_parts Q l r.b r.c inner).0) c))
  held_less (OrThenAnd r) =
      made_under q n w Conditional (r.a ▸ r.c ▸ pair r.b r.c ▸ none) refl r.shape tt Sequence (listed (logical Or r.a r.b ▸ r.c ▸ none) ▸ none) refl r.written (λ strict x k Q l y.
      let (a, (c, inner)) = conditional_parts Q l r.a r.c (pair r.b r.c) (subst (Q AsValue) r.shape y) in
      subst (Q AsValue) (sym r.written) (a_pair Q l (logical Or r.a r.b) r.c (a_logical Q l Or r.a r.b a (pair_parts Q l r.b r.c inner).0) c))
  held_less (Alike r) =
      made_under q n w Conditional (r.a ▸ r.b ▸ r.b ▸ none) refl r.shape tt Sequence (listed (r.a ▸ r.b ▸ none) ▸ none) refl r.written (λ strict x k Q l y.
      let (a, (b, c)) = conditional_parts Q l r.a r.b r.b (subst (Q AsValue) r.shape y) in subst (Q AsValue) (sym r.written) (a_pair Q l r.a r.b a b))

  pub lighter_less : LighterRow q n w → LessAt (Expr q) n w
  lighter_less (Rotated r) = rotated_less r
  lighter_less (Decided r) = decided_less r
  lighter_less (Combined r) = computed_less r
  lighter_less (NullishIfEqual r) = equal_less r
  lighter_less (NullishIfUnequal r) = unequal_less r
  lighter_less (Chosen r) = chosen_target_less r.operator (identifier r.name) r.a r.b r.c r.shape r.written
  lighter_less (LooseNull r) = nullish_less r
  lighter_less (LooseNullAfter r) = nullish_after_less r
  lighter_less (ObjectTest r) = object_less r
  lighter_less (ObjectTestAfter r) = null_object_less r
  lighter_less (CombinedMember r) = computed_member_less r
  lighter_less (ChosenMember r) = chosen_target_less Assign (member_of r.name r.key) r.a r.b r.c r.shape r.written
  lighter_less (DecidedLast r) = decided_last_less r

  pub calls_less : (asked : Bool) → CallRow asked n w → LessAt (Expr q) n w
  calls_less asked r =
      made_under q n w Conditional (r.a ▸ call false r.callee (argument r.is_spread r.p ▸ r.others) ▸ call false r.callee (argument r.is_spread r.q ▸ r.others) ▸ none) refl r.shape tt (Call false) (r.callee ▸ listed (argument r.is_spread (conditional r.a r.p r.q) ▸ r.others) ▸ none) refl r.written (λ strict x k Q l y.
      subst (Q AsValue) (sym r.written) (called_choice Q l r.is_spread r.a r.callee r.p r.q r.others (subst (Q AsValue) r.shape y)))

  pub both_less : Row13Both n w → LessAt (Expr q) n w
  both_less r =
      made_under q n w (Logical r.operator) (r.left ▸ r.right ▸ none) refl r.shape tt Sequence (listed (r.left ▸ r.right ▸ none) ▸ none) refl r.written (λ strict x k Q l y.
      let (a, b) = logical_parts Q l r.operator r.left r.right (subst (Q AsValue) r.shape y) in subst (Q AsValue) (sym r.written) (a_pair Q l r.left r.right a b))

  pub zero_less : (asked : Bool) → ZeroRow asked n w → LessAt (Expr q) n w
  zero_less asked r =
      made_under q n w Sequence (listed (r.idle ▸ r.last ▸ none) ▸ none) refl r.shape tt Sequence (listed (numeral (pos 0) ▸ r.last ▸ none) ▸ none) refl r.written (λ strict x k Q l y.
      subst (Q AsValue) (sym r.written) (a_pair Q l (numeral (pos 0)) r.last (a_number Q l (pos 0)) (pair_parts Q l r.idle r.last (subst (Q AsValue) r.shape y)).1))
