-- What a row of choices writes may stand wherever what it reads may, and a parent may ask the same of both.
use Rattle.std.proofs.Common.{◌≡◌, Bool, true, false, Option, Some, None, [], refl, sym, ap, subst, ◌∙◌, inl, inr, true≢false}
use Rattle.std.specs.Prelude.{◌&&◌, not}
use Rattle.std.proofs.lemmas.Bool.{and_parts}
use Rattle.mini_model.specs.declared.name.Name.{Name}
use Rattle.mini_model.specs.declared.operator.AssignmentOperator.{AssignmentOperator}
use Rattle.mini_model.specs.declared.operator.AssignmentOperator.TheVariants.{Assign}
use Rattle.mini_model.specs.declared.operator.BinaryOperator.TheVariants as binary_operator
use Rattle.mini_model.specs.declared.operator.LogicalOperator.{LogicalOperator}
use Rattle.mini_model.specs.declared.operator.LogicalOperator.TheVariants.{Or, And, Coalesce}
use Rattle.mini_model.specs.declared.place.Position.{Position}
use Rattle.mini_model.specs.declared.place.Position.TheVariants.{Expr}
use Rattle.mini_model.specs.declared.seat.Seat.{Seat}
use Rattle.mini_model.specs.Tree.{Tree, Trees, node, none, ◌▸◌, identifier, negation, logical, conditional, call, null_literal, is_absent, shape_of}
use Rattle.mini_accept.specs.WellShaped.{Class, an_init, an_arrow_body, an_expression, a_link, an_argument, a_key, a_default_export, a_target, a_simple_target, Slot, one, one_or_absent, fits, is_function_body, has_optional, is_not_positive_number, spelling}
use Rattle.mini_kept.specs.KeepsShapes.{AskedAlike, is_default}
use Rattle.mini_kept.specs.KeepsFrames.{is_body_slot}
use Rattle.mini_kept.proofs.Bools.{left, both}
use Rattle.mini_kept.proofs.Expressions.{expression, ThreeFit, of_conditional, TakesExpressionIn, TakesExpression, expression_taken, three_fit, two_fit}
use Rattle.mini_model.specs.Paths.{append}
use Rattle.mini_rows.specs.Lists.{sequence}
use Rattle.mini_node.specs.Kinds.{computed_member}
use Rattle.mini_rows.specs.Spellings.{binary, assignment}
use Rattle.mini_rows.specs.Choices.{Key, Named, Spelled, Numbered, member_on, member_of, assign, joined, strictly, loosely, joining, asks_object, null_compared, held, ended, deciding, ChoiceRow, pair, argument, CallRow, Row13Both, LighterRow, OwnRow, HeldRow, ChosenRow, ChosenMemberRow, ChosenIndexedRow, Shorter, TestedBranch, SharedBranch, OptionalChain, JoinedCall, ChainLink, ChainEnd, BothSides, ChosenIndexed, ZeroFirst, Rotated, Decided, Combined, NullishIfEqual, NullishIfUnequal, Chosen, LooseNull, LooseNullAfter, ObjectTest, ObjectTestAfter, CombinedMember, ChosenMember, DecidedLast, OrTest, AndTest, AndBoth, OrEither, LastAfterOr, LastAfterAnd, AndThenOr, OrThenAnd, Alike}
use Rattle.mini_rows.proofs.ChainLinkLawful.{chains_fit, chains_asked, chains_slot}
use Rattle.mini_rows.proofs.ChainEnds.{end_fits, end_asked, end_slot}
use Rattle.mini_rows.proofs.ChainLawful.{chain_row_fits, chain_row_asked, chain_row_slot}
use Rattle.mini_rows.proofs.ChoiceCalls.{calls_fit}
use Rattle.mini_rows.proofs.ChoiceIndexed.{indexed_fit}
use Rattle.mini_rows.proofs.FirstParts.{zero_row_fits, zero_row_asked, zero_row_slot}
use Rattle.mini_rows.proofs.SequenceEnds.{last_fits}
use Rattle.mini_rows.proofs.SpellShapes.{Form, a_binary, an_assignment, a_logical, a_conditional, shaped, Kind, Alone, Linked, Ending, Assigned, Nowhere, kind_of, kind_in, filled, fits_is, Formed, formed_asked, formed_slot}

-- ---- where they stand an expression does

abbrev is_choice : Form → Bool
is_choice (a_logical o) = true
is_choice a_conditional = true
is_choice (an_assignment o) = true
is_choice _ = false

abbrev is_alone : Kind → Bool
is_alone Alone = true
is_alone Linked = true
is_alone _ = false

-- they are no members, so they end no chain, and are not assigned to
stands_alone : (strict : Bool) (k : Kind) (f : Form) (ts : Trees) → is_choice f ≡ true → filled strict k f ts ≡ true → is_alone k ≡ true
stands_alone strict Alone f ts c e = refl
stands_alone strict Linked f ts c e = refl
stands_alone strict Ending (a_logical o) ts c e = absurd (cc e)
stands_alone strict Ending a_conditional ts c e = absurd (cc e)
stands_alone strict Ending (an_assignment o) ts c e = absurd (cc e)
stands_alone strict Ending f ts c e = absurd (true≢false (sym c))
stands_alone strict Assigned (a_logical o) ts c e = absurd (cc e)
stands_alone strict Assigned a_conditional ts c e = absurd (cc e)
stands_alone strict Assigned (an_assignment o) ts c e = absurd (cc e)
stands_alone strict Assigned f ts c e = absurd (true≢false (sym c))
stands_alone strict Nowhere f ts c e = absurd (cc e)

as_alone : (strict : Bool) (k : Kind) (f : Form) (ts : Trees) → is_choice f ≡ true → is_alone k ≡ true → filled strict k f ts ≡ true → filled strict Alone f ts ≡ true
as_alone strict Alone f ts c a e = e
as_alone strict Linked (a_logical o) ts c a e = e
as_alone strict Linked a_conditional ts c a e = e
as_alone strict Linked (an_assignment Assign) ts c a e = e
as_alone strict Linked (an_assignment o) ts c a e = e
as_alone strict Linked f ts c a e = absurd (true≢false (sym c))
as_alone strict k f ts c a e = absurd (true≢false (sym a))

takes_in : (c : Class) → is_alone (kind_of c) ≡ true → TakesExpressionIn c
takes_in an_expression e = tt
takes_in an_argument e = tt
takes_in an_init e = tt
takes_in an_arrow_body e = tt
takes_in a_default_export e = tt
takes_in (a_key true) e = tt
takes_in (a_key false) e = absurd (true≢false (sym e))
takes_in a_link e = tt
takes_in c e = absurd (true≢false (sym e))

takes : (s : Slot) → is_alone (kind_in s) ≡ true → TakesExpression s
takes (one c) e = takes_in c e
takes (one_or_absent c) e = takes_in c e
takes s e = absurd (true≢false (sym e))

pub choice_taken : (strict : Bool) (s : Slot) (f : Form) (ts : Trees) → is_choice f ≡ true → fits strict s (node (shaped f) [] 0 ts) ≡ true → TakesExpression s × (fits strict expression (node (shaped f) [] 0 ts) ≡ true)
choice_taken strict s f ts c e =
    let stands = sym (fits_is strict s f ts) ∙ e in
    let alone = stands_alone strict (kind_in s) f ts c stands in
    (takes s alone, fits_is strict expression f ts ∙ as_alone strict (kind_in s) f ts c alone stands)

-- ---- parts

module _ (strict : Bool) where
  abbrev Fits : Tree → Type 0
  Fits t = fits strict expression t ≡ true

  pub of_two : (a b : Tree) → (fits strict expression a && (fits strict expression b && true)) ≡ true → Fits a × Fits b
  of_two a b e = let (x, y) = and_parts (fits strict expression a) (fits strict expression b && true) e in (x, left (fits strict expression b) true y)

  -- a name may stand as a target wherever it may be read
  pub assignment_fits : (c : AssignmentOperator) (x : Name) (b : Tree) → Fits (identifier x) → Fits b → Fits (assignment c (identifier x) b)
  assignment_fits Assign x b e f = both (fits strict (one a_target) (identifier x)) (fits strict expression b && true) e (both (fits strict expression b) true f refl)
  assignment_fits c x b e f = both (fits strict (one a_simple_target) (identifier x)) (fits strict expression b && true) e (both (fits strict expression b) true f refl)

  pub of_assignment : (c : AssignmentOperator) (x : Name) (b : Tree) → Fits (assignment c (identifier x) b) → Fits (identifier x) × Fits b
  of_assignment Assign x b e = let (y, z) = and_parts (fits strict (one a_target) (identifier x)) (fits strict expression b && true) e in (y, left (fits strict expression b) true z)
  of_assignment c x b e = let (y, z) = and_parts (fits strict (one a_simple_target) (identifier x)) (fits strict expression b && true) e in (y, left (fits strict expression b) true z)

  -- and so a member
  pub of_member_assignment : (t : Tree) (k : Key) (b : Tree) → Fits (assignment Assign (member_on t k) b) → (fits strict (one a_target) (member_on t k) ≡ true) × Fits b
  of_member_assignment t k b e = let (y, z) = and_parts (fits strict (one a_target) (member_on t k)) (fits strict expression b && true) e in (y, left (fits strict expression b) true z)

  simply_assigned : (t : Tree) (k : Key) → fits strict (one a_target) (member_on t k) ≡ true → fits strict (one a_simple_target) (member_on t k) ≡ true
  simply_assigned t (Named s) e = e
  simply_assigned t (Spelled s) e = e
  simply_assigned t (Numbered n) e = e

  pub member_assignment_fits : (c : AssignmentOperator) (t : Tree) (k : Key) (b : Tree) → fits strict (one a_target) (member_on t k) ≡ true → Fits b → Fits (assignment c (member_on t k) b)
  member_assignment_fits Assign t k b e f = both (fits strict (one a_target) (member_on t k)) (fits strict expression b && true) e (both (fits strict expression b) true f refl)
  member_assignment_fits c t k b e f = both (fits strict (one a_simple_target) (member_on t k)) (fits strict expression b && true) (simply_assigned t k e) (both (fits strict expression b) true f refl)

  of_three : (a b c : Tree) → Fits (conditional a b c) → ThreeFit strict a b c
  of_three a b c e = (of_conditional strict expression a b c e).1

  pub pair_fits : (a b : Tree) → Fits a → Fits b → Fits (pair a b)
  pair_fits a b e f = both (fits strict expression a && (fits strict expression b && true)) true (two_fit strict a b e f) refl

  of_pair : (a b : Tree) → Fits (pair a b) → Fits a × Fits b
  of_pair a b e = of_two a b (left (fits strict expression a && (fits strict expression b && true)) true e)

  joined_fits : (o : LogicalOperator) (a b : Tree) (cs : Trees) → Fits a → Fits (joined o b cs) → Fits (joined o (logical o a b) cs)
  joined_fits o a b none x y = two_fit strict a b x y
  joined_fits o a b (c ▸ cs) x y = let (first, last) = of_two (joined o b cs) c y in two_fit strict (joined o (logical o a b) cs) c (joined_fits o a b cs x first) last

  -- ---- rows

  -- of a comparison of a name with null
  name_there : (strictly_compared equal : Bool) (x : Name) → Fits (null_compared strictly_compared equal x) → Fits (identifier x)
  name_there true true x e = (of_two (identifier x) null_literal e).0
  name_there true false x e = (of_two (identifier x) null_literal e).0
  name_there false true x e = (of_two (identifier x) null_literal e).0
  name_there false false x e = (of_two (identifier x) null_literal e).0

  held_fits_there : (there : Bool) (x : Name) → Fits (identifier x) → Fits (held there x)
  held_fits_there true x e = both (fits strict expression (negation (identifier x))) true (both (fits strict expression (identifier x)) true e refl) refl
  held_fits_there false x e = both (fits strict expression (identifier x)) true e refl

  ended_fits : (o : LogicalOperator) (before : Option Tree) (t u : Tree) → (Fits t → Fits u) → Fits (ended o before t) → Fits (ended o before u)
  ended_fits o None t u f e = f e
  ended_fits o (Some b) t u f e = let (first, last) = of_two b t e in two_fit strict b u first (f last)

  module _ (s : Slot) where
    abbrev Here : Tree → Type 0
    Here t = fits strict s t ≡ true

    pub chosen_fits : (asked : Bool) (q : Seat) (n w : Tree) → ChosenRow asked q n w → Here n → Here w
    chosen_fits asked q n w r e =
        let yes : Tree = assignment r.operator (identifier r.name) r.b in
        let no : Tree = assignment r.operator (identifier r.name) r.c in
        let (here, (test, first, second)) = of_conditional strict s r.a yes no (subst Here r.shape e) in
        let (name, b) = of_assignment r.operator r.name r.b first in
        subst Here (sym r.written) (expression_taken strict s (assignment r.operator (identifier r.name) (conditional r.a r.b r.c)) here (assignment_fits r.operator r.name (conditional r.a r.b r.c) name (three_fit strict r.a r.b r.c test b (of_assignment r.operator r.name r.c second).1)))

    pub chosen_member_fits : (asked : Bool) (q : Seat) (n w : Tree) → ChosenMemberRow asked q n w → Here n → Here w
    chosen_member_fits asked q n w r e =
        let member : Tree = member_of r.name r.key in
        let yes : Tree = assignment Assign member r.b in
        let no : Tree = assignment Assign member r.c in
        let (here, (test, first, second)) = of_conditional strict s r.a yes no (subst Here r.shape e) in
        let (target, b) = of_member_assignment (identifier r.name) r.key r.b first in
        subst Here (sym r.written) (expression_taken strict s (assignment Assign member (conditional r.a r.b r.c)) here (member_assignment_fits Assign (identifier r.name) r.key (conditional r.a r.b r.c) target (three_fit strict r.a r.b r.c test b (of_member_assignment (identifier r.name) r.key r.c second).1)))

    lighter_fits : (q : Seat) (n w : Tree) → LighterRow q n w → Here n → Here w
    lighter_fits q n w (Rotated r) e =
        let right : Tree = joined r.operator r.b (r.last ▸ r.others) in
        let (here, fit) = choice_taken strict s (a_logical r.operator) (r.a ▸ right ▸ none) refl (subst Here r.shape e) in
        let (first, rest) = of_two r.a right fit in
        subst Here (sym r.written) (expression_taken strict s (joined r.operator (logical r.operator r.a r.b) (r.last ▸ r.others)) here (joined_fits r.operator r.a r.b (r.last ▸ r.others) first rest))
    lighter_fits q n w (Decided r) e =
        let (here, fit) = choice_taken strict s (a_logical r.operator) (identifier r.name ▸ assign r.name r.b ▸ none) refl (subst Here r.shape e) in
        let (first, rest) = of_two (identifier r.name) (assign r.name r.b) fit in
        subst Here (sym r.written) (expression_taken strict s (assignment (deciding r.operator) (identifier r.name) r.b) here (assignment_fits (deciding r.operator) r.name r.b first (of_assignment Assign r.name r.b rest).1))
    lighter_fits q n w (Combined r) e =
        let (here, fit) = choice_taken strict s (an_assignment Assign) (identifier r.name ▸ binary r.operator (identifier r.name) r.b ▸ none) refl (subst Here r.shape e) in
        let (first, rest) = of_assignment Assign r.name (binary r.operator (identifier r.name) r.b) fit in
        subst Here (sym r.written) (expression_taken strict s (assignment r.combined (identifier r.name) r.b) here (assignment_fits r.combined r.name r.b first (of_two (identifier r.name) r.b rest).1))
    lighter_fits q n w (Chosen r) e = chosen_fits true q n w r e
    lighter_fits q n w (NullishIfEqual r) e =
        let (here, (test, branch, last)) = of_conditional strict s (binary binary_operator.Equality (identifier r.name) null_literal) r.b (identifier r.name) (subst Here r.shape e) in
        subst Here (sym r.written) (expression_taken strict s (logical Coalesce (identifier r.name) r.b) here (two_fit strict (identifier r.name) r.b last branch))
    lighter_fits q n w (NullishIfUnequal r) e =
        let (here, (test, last, branch)) = of_conditional strict s (binary binary_operator.Inequality (identifier r.name) null_literal) (identifier r.name) r.b (subst Here r.shape e) in
        subst Here (sym r.written) (expression_taken strict s (logical Coalesce (identifier r.name) r.b) here (two_fit strict (identifier r.name) r.b last branch))
    lighter_fits q n w (LooseNull r) e =
        let x : Tree = identifier r.name in
        let one : Tree = binary (strictly r.equal) x r.first in
        let other : Tree = binary (strictly r.equal) x r.second in
        let (here, fit) = choice_taken strict s (a_logical (joining r.equal)) (one ▸ other ▸ none) refl (subst Here r.shape e) in
        let (first, rest) = of_two one other fit in
        let (name, null) = of_two x r.first first in
        subst Here (sym r.written) (expression_taken strict s (binary (loosely r.equal) x null_literal) here (two_fit strict x null_literal name refl))
    lighter_fits q n w (LooseNullAfter r) e =
        let x : Tree = identifier r.name in
        let one : Tree = binary (strictly r.equal) x r.first in
        let other : Tree = binary (strictly r.equal) x r.second in
        let left : Tree = logical (joining r.equal) r.before one in
        let (here, fit) = choice_taken strict s (a_logical (joining r.equal)) (left ▸ other ▸ none) refl (subst Here r.shape e) in
        let (both, rest) = of_two left other fit in
        let (before, first) = of_two r.before one both in
        let (name, null) = of_two x r.first first in
        subst Here (sym r.written) (expression_taken strict s (logical (joining r.equal) r.before (binary (loosely r.equal) x null_literal)) here (two_fit strict r.before (binary (loosely r.equal) x null_literal) before (two_fit strict x null_literal name refl)))
    lighter_fits q n w (ObjectTest r) e =
        let o = joining (not r.there) in
        let left = ended o r.before (asks_object r.there r.name) in
        let right = null_compared r.strict (not r.there) r.name in
        let (here, fit) = choice_taken strict s (a_logical o) (left ▸ right ▸ none) refl (subst Here r.shape e) in
        let (first, second) = of_two left right fit in
        subst Here (sym r.written) (expression_taken strict s (logical o left (held r.there r.name)) here (two_fit strict left (held r.there r.name) first (held_fits_there r.there r.name (name_there r.strict (not r.there) r.name second))))
    lighter_fits q n w (ObjectTestAfter r) e =
        let o = joining (not r.there) in
        let test = null_compared r.strict (not r.there) r.name in
        let right = asks_object r.there r.name in
        let (here, fit) = choice_taken strict s (a_logical o) (ended o r.before test ▸ right ▸ none) refl (subst Here r.shape e) in
        let (first, second) = of_two (ended o r.before test) right fit in
        subst Here (sym r.written) (expression_taken strict s (logical o (ended o r.before (held r.there r.name)) right) here (two_fit strict (ended o r.before (held r.there r.name)) right (ended_fits o r.before test (held r.there r.name) (λ f. held_fits_there r.there r.name (name_there r.strict (not r.there) r.name f)) first) second))
    lighter_fits q n w (DecidedLast r) e =
        let parts : Tree = sequence (r.first ▸ append r.others (assign r.name r.b ▸ none)) in
        let (here, fit) = choice_taken strict s (a_logical r.operator) (identifier r.name ▸ parts ▸ none) refl (subst Here r.shape e) in
        let (name, rest) = of_two (identifier r.name) parts fit in
        subst Here (sym r.written) (expression_taken strict s (assignment (deciding r.operator) (identifier r.name) (sequence (r.first ▸ append r.others (r.b ▸ none)))) here (assignment_fits (deciding r.operator) r.name (sequence (r.first ▸ append r.others (r.b ▸ none))) name (last_fits strict r.first r.others (assign r.name r.b) rest r.b (λ f. (of_assignment Assign r.name r.b f).1))))
    lighter_fits q n w (ChosenMember r) e = chosen_member_fits true q n w r e
    lighter_fits q n w (CombinedMember r) e =
        let member : Tree = member_of r.name r.key in
        let (here, fit) = choice_taken strict s (an_assignment Assign) (member ▸ binary r.operator member r.b ▸ none) refl (subst Here r.shape e) in
        let (first, rest) = of_member_assignment (identifier r.name) r.key (binary r.operator member r.b) fit in
        subst Here (sym r.written) (expression_taken strict s (assignment r.combined member r.b) here (member_assignment_fits r.combined (identifier r.name) r.key r.b first (of_two member r.b rest).1))

    both_sides_fit : (n w : Tree) → Row13Both n w → Here n → Here w
    both_sides_fit n w r e =
        let (here, fit) = choice_taken strict s (a_logical r.operator) (r.left ▸ r.right ▸ none) refl (subst Here r.shape e) in
        let (first, last) = of_two r.left r.right fit in
        subst Here (sym r.written) (expression_taken strict s (pair r.left r.right) here (pair_fits r.left r.right first last))

    -- what is written for a conditional fits where its parts do
    for_choice : (n w a b c : Tree) → n ≡ conditional a b c → (Fits a → Fits b → Fits c → Fits w) → Here n → Here w
    for_choice n w a b c h f e =
        let (here, (x, y, z)) = of_conditional strict s a b c (subst Here h e) in
        expression_taken strict s w here (f x y z)

    own_fits : (n w : Tree) → OwnRow n w → Here n → Here w
    own_fits n w (OrTest r) = for_choice n w _ _ _ r.shape (λ x y z. subst Fits (sym r.written) (two_fit strict (identifier r.name) r.b x z))
    own_fits n w (AndTest r) = for_choice n w _ _ _ r.shape (λ x y z. subst Fits (sym r.written) (two_fit strict (identifier r.name) r.b x y))

    held_fits : (n w : Tree) → HeldRow n w → Here n → Here w
    held_fits n w (AndBoth r) =
        for_choice n w _ _ _ r.shape (λ x y z. let (b, c, d) = of_three r.b r.c r.d y in subst Fits (sym r.written) (three_fit strict (logical And r.a r.b) r.c r.d (two_fit strict r.a r.b x b) c z))
    held_fits n w (OrEither r) =
        for_choice n w _ _ _ r.shape (λ x y z. let (b, c, d) = of_three r.b r.c r.d z in subst Fits (sym r.written) (three_fit strict (logical Or r.a r.b) r.c r.d (two_fit strict r.a r.b x b) y d))
    held_fits n w (LastAfterOr r) =
        for_choice n w _ _ _ r.shape (λ x y z. let (b, c) = of_two r.b r.c y in subst Fits (sym r.written) (two_fit strict (logical And r.a r.b) r.c (two_fit strict r.a r.b x b) z))
    held_fits n w (LastAfterAnd r) =
        for_choice n w _ _ _ r.shape (λ x y z. let (b, c) = of_two r.b r.c z in subst Fits (sym r.written) (two_fit strict (logical Or r.a r.b) r.c (two_fit strict r.a r.b x b) y))
    held_fits n w (AndThenOr r) =
        for_choice n w _ _ _ r.shape (λ x y z. let (b, c) = of_pair r.b r.c y in subst Fits (sym r.written) (pair_fits (logical And r.a r.b) r.c (two_fit strict r.a r.b x b) z))
    held_fits n w (OrThenAnd r) =
        for_choice n w _ _ _ r.shape (λ x y z. let (b, c) = of_pair r.b r.c z in subst Fits (sym r.written) (pair_fits (logical Or r.a r.b) r.c (two_fit strict r.a r.b x b) y))
    held_fits n w (Alike r) = for_choice n w _ _ _ r.shape (λ x y z. subst Fits (sym r.written) (pair_fits r.a r.b x y))

    pub called_fits : {asked : Bool} (n w : Tree) → CallRow asked n w → Here n → Here w
    called_fits n w r = for_choice n w _ _ _ r.shape (λ x y z. subst Fits (sym r.written) (calls_fit strict r.callee r.is_spread r.a r.p r.q r.others r.first r.second x y z))

    pub chosen_indexed_fits : (asked : Bool) (q : Seat) (n w : Tree) → ChosenIndexedRow asked q n w → Here n → Here w
    chosen_indexed_fits asked q n w r = for_choice n w _ _ _ r.shape (λ x y z. subst Fits (sym r.written) (indexed_fit strict (computed_member (identifier r.name) r.key) r.a r.b r.c x y z))

-- ---- what a parent asks

pub chosen_indexed_formed : (asked : Bool) (q : Seat) (n w : Tree) → ChosenIndexedRow asked q n w → Formed n w
chosen_indexed_formed asked q n w r =
    let t : Tree = computed_member (identifier r.name) r.key in
    record { first = a_conditional; second = an_assignment Assign; parts = r.a ▸ assignment Assign t r.b ▸ assignment Assign t r.c ▸ none; others = t ▸ conditional r.a r.b r.c ▸ none; read = r.shape; made = r.written; optional = λ x. absurd (cc x) }

pub chosen_row_formed : (asked : Bool) (q : Seat) (n w : Tree) → ChosenRow asked q n w → Formed n w
chosen_row_formed asked q n w r = record { first = a_conditional; second = an_assignment r.operator; parts = r.a ▸ assignment r.operator (identifier r.name) r.b ▸ assignment r.operator (identifier r.name) r.c ▸ none; others = identifier r.name ▸ conditional r.a r.b r.c ▸ none; read = r.shape; made = r.written; optional = λ x. absurd (cc x) }

pub chosen_member_formed : (asked : Bool) (q : Seat) (n w : Tree) → ChosenMemberRow asked q n w → Formed n w
chosen_member_formed asked q n w r = record { first = a_conditional; second = an_assignment Assign; parts = r.a ▸ assignment Assign (member_of r.name r.key) r.b ▸ assignment Assign (member_of r.name r.key) r.c ▸ none; others = member_of r.name r.key ▸ conditional r.a r.b r.c ▸ none; read = r.shape; made = r.written; optional = λ x. absurd (cc x) }

row_formed : (q : Seat) (n w : Tree) → LighterRow q n w → Formed n w
row_formed q n w (Rotated r) = record { first = a_logical r.operator; second = a_logical r.operator; parts = r.a ▸ joined r.operator r.b (r.last ▸ r.others) ▸ none; others = joined r.operator (logical r.operator r.a r.b) r.others ▸ r.last ▸ none; read = r.shape; made = r.written; optional = λ x. absurd (cc x) }
row_formed q n w (Decided r) = record { first = a_logical r.operator; second = an_assignment (deciding r.operator); parts = identifier r.name ▸ assign r.name r.b ▸ none; others = identifier r.name ▸ r.b ▸ none; read = r.shape; made = r.written; optional = λ x. absurd (cc x) }
row_formed q n w (Combined r) = record { first = an_assignment Assign; second = an_assignment r.combined; parts = identifier r.name ▸ binary r.operator (identifier r.name) r.b ▸ none; others = identifier r.name ▸ r.b ▸ none; read = r.shape; made = r.written; optional = λ x. absurd (cc x) }
row_formed q n w (Chosen r) = chosen_row_formed true q n w r
row_formed q n w (NullishIfEqual r) = record { first = a_conditional; second = a_logical Coalesce; parts = binary binary_operator.Equality (identifier r.name) null_literal ▸ r.b ▸ identifier r.name ▸ none; others = identifier r.name ▸ r.b ▸ none; read = r.shape; made = r.written; optional = λ x. absurd (cc x) }
row_formed q n w (NullishIfUnequal r) = record { first = a_conditional; second = a_logical Coalesce; parts = binary binary_operator.Inequality (identifier r.name) null_literal ▸ identifier r.name ▸ r.b ▸ none; others = identifier r.name ▸ r.b ▸ none; read = r.shape; made = r.written; optional = λ x. absurd (cc x) }
row_formed q n w (LooseNull r) = record { first = a_logical (joining r.equal); second = a_binary (loosely r.equal); parts = binary (strictly r.equal) (identifier r.name) r.first ▸ binary (strictly r.equal) (identifier r.name) r.second ▸ none; others = identifier r.name ▸ null_literal ▸ none; read = r.shape; made = r.written; optional = λ x. absurd (cc x) }
row_formed q n w (LooseNullAfter r) = record { first = a_logical (joining r.equal); second = a_logical (joining r.equal); parts = logical (joining r.equal) r.before (binary (strictly r.equal) (identifier r.name) r.first) ▸ binary (strictly r.equal) (identifier r.name) r.second ▸ none; others = r.before ▸ binary (loosely r.equal) (identifier r.name) null_literal ▸ none; read = r.shape; made = r.written; optional = λ x. absurd (cc x) }
row_formed q n w (ObjectTest r) = record { first = a_logical (joining (not r.there)); second = a_logical (joining (not r.there)); parts = ended (joining (not r.there)) r.before (asks_object r.there r.name) ▸ null_compared r.strict (not r.there) r.name ▸ none; others = ended (joining (not r.there)) r.before (asks_object r.there r.name) ▸ held r.there r.name ▸ none; read = r.shape; made = r.written; optional = λ x. absurd (cc x) }
row_formed q n w (DecidedLast r) = record { first = a_logical r.operator; second = an_assignment (deciding r.operator); parts = identifier r.name ▸ sequence (r.first ▸ append r.others (assign r.name r.b ▸ none)) ▸ none; others = identifier r.name ▸ sequence (r.first ▸ append r.others (r.b ▸ none)) ▸ none; read = r.shape; made = r.written; optional = λ x. absurd (cc x) }
row_formed q n w (ChosenMember r) = chosen_member_formed true q n w r
row_formed q n w (CombinedMember r) = record { first = an_assignment Assign; second = an_assignment r.combined; parts = member_of r.name r.key ▸ binary r.operator (member_of r.name r.key) r.b ▸ none; others = member_of r.name r.key ▸ r.b ▸ none; read = r.shape; made = r.written; optional = λ x. absurd (cc x) }
row_formed q n w (ObjectTestAfter r) = record { first = a_logical (joining (not r.there)); second = a_logical (joining (not r.there)); parts = ended (joining (not r.there)) r.before (null_compared r.strict (not r.there) r.name) ▸ asks_object r.there r.name ▸ none; others = ended (joining (not r.there)) r.before (held r.there r.name) ▸ asks_object r.there r.name ▸ none; read = r.shape; made = r.written; optional = λ x. absurd (cc x) }

-- of a logical expression that becomes a sequence it asks nothing that the sequence hasn't
both_sides_asked : (p : Position) (n w : Tree) → Row13Both n w → AskedAlike p n w
both_sides_asked p n w r = record {
  absent = λ e. absurd (cc (sym e ∙ ap is_absent r.shape));
  body = λ e. absurd (cc (sym e ∙ ap is_function_body r.shape));
  optional = λ e. absurd (cc (sym e ∙ ap has_optional r.shape));
  number = λ e k. ap is_not_positive_number r.written;
  spelled = λ s e. absurd (cc (sym e ∙ ap spelling r.shape));
  plain = ap (λ t. is_default (shape_of t)) r.shape;
}

both_sides_formed : (n w : Tree) → Row13Both n w → Formed n n
both_sides_formed n w r = record { first = a_logical r.operator; second = a_logical r.operator; parts = r.left ▸ r.right ▸ none; others = r.left ▸ r.right ▸ none; read = r.shape; made = r.shape; optional = λ e. e }

-- of a conditional it asks nothing that another expression hasn't
pub record Choosing (n w : Tree) : Type 0 where
  a : Tree
  b : Tree
  c : Tree
  read : n ≡ conditional a b c
  number : is_not_positive_number w ≡ true

pub choosing_asked : (p : Position) (n w : Tree) → Choosing n w → AskedAlike p n w
choosing_asked p n w r = record {
  absent = λ e. absurd (cc (sym e ∙ ap is_absent r.read));
  body = λ e. absurd (cc (sym e ∙ ap is_function_body r.read));
  optional = λ e. absurd (cc (sym e ∙ ap has_optional r.read));
  number = λ e k. r.number;
  spelled = λ s e. absurd (cc (sym e ∙ ap spelling r.read));
  plain = ap (λ t. is_default (shape_of t)) r.read;
}

pub chosen_formed : (n w : Tree) → Choosing n w → Formed n n
chosen_formed n w r = record { first = a_conditional; second = a_conditional; parts = r.a ▸ r.b ▸ r.c ▸ none; others = r.a ▸ r.b ▸ r.c ▸ none; read = r.read; made = r.read; optional = λ e. e }

own_choosing : (n w : Tree) → OwnRow n w → Choosing n w
own_choosing n w (OrTest r) = record { a = identifier r.name; b = identifier r.name; c = r.b; read = r.shape; number = ap is_not_positive_number r.written }
own_choosing n w (AndTest r) = record { a = identifier r.name; b = r.b; c = identifier r.name; read = r.shape; number = ap is_not_positive_number r.written }

held_choosing : (n w : Tree) → HeldRow n w → Choosing n w
held_choosing n w (AndBoth r) = record { a = r.a; b = conditional r.b r.c r.d; c = r.d; read = r.shape; number = ap is_not_positive_number r.written }
held_choosing n w (OrEither r) = record { a = r.a; b = r.c; c = conditional r.b r.c r.d; read = r.shape; number = ap is_not_positive_number r.written }
held_choosing n w (LastAfterOr r) = record { a = r.a; b = logical Or r.b r.c; c = r.c; read = r.shape; number = ap is_not_positive_number r.written }
held_choosing n w (LastAfterAnd r) = record { a = r.a; b = r.c; c = logical And r.b r.c; read = r.shape; number = ap is_not_positive_number r.written }
held_choosing n w (AndThenOr r) = record { a = r.a; b = pair r.b r.c; c = r.c; read = r.shape; number = ap is_not_positive_number r.written }
held_choosing n w (OrThenAnd r) = record { a = r.a; b = r.c; c = pair r.b r.c; read = r.shape; number = ap is_not_positive_number r.written }
held_choosing n w (Alike r) = record { a = r.a; b = r.b; c = r.b; read = r.shape; number = ap is_not_positive_number r.written }

pub called_choosing : {asked : Bool} (n w : Tree) → CallRow asked n w → Choosing n w
called_choosing n w r = record { a = r.a; b = call false r.callee (argument r.is_spread r.p ▸ r.others); c = call false r.callee (argument r.is_spread r.q ▸ r.others); read = r.shape; number = ap is_not_positive_number r.written }

-- ---- wherever rows are made

pub row_fits : (p : Position) (n w : Tree) → ChoiceRow p n w → (strict : Bool) (s : Slot) → fits strict s n ≡ true → fits strict s w ≡ true
row_fits (Expr q) n w (Shorter r) strict s e = lighter_fits strict s q n w r e
row_fits (Expr q) n w (TestedBranch r) strict s e = own_fits strict s n w r e
row_fits (Expr q) n w (SharedBranch r) strict s e = held_fits strict s n w r e
row_fits (Expr q) n w (OptionalChain r) strict s e = chain_row_fits q n w r strict s e
row_fits (Expr q) n w (JoinedCall r) strict s e = called_fits strict s n w r e
row_fits (Expr q) n w (ChainLink r) strict s e = chains_fit q n w r strict s e
row_fits (Expr q) n w (ChainEnd r) strict s e = end_fits q n w r strict s e
row_fits (Expr q) n w (BothSides r) strict s e = both_sides_fit strict s n w r e
row_fits (Expr q) n w (ChosenIndexed r) strict s e = chosen_indexed_fits strict s true q n w r e
row_fits (Expr q) n w (ZeroFirst r) strict s e = zero_row_fits q n w r strict s e
row_fits p n w r strict s e = absurd r

pub row_asked : (p : Position) (n w : Tree) → ChoiceRow p n w → AskedAlike p n w
row_asked (Expr q) n w (Shorter r) = formed_asked (Expr q) n w (row_formed q n w r)
row_asked (Expr q) n w (TestedBranch r) = choosing_asked (Expr q) n w (own_choosing n w r)
row_asked (Expr q) n w (SharedBranch r) = choosing_asked (Expr q) n w (held_choosing n w r)
row_asked (Expr q) n w (OptionalChain r) = chain_row_asked q n w r
row_asked (Expr q) n w (JoinedCall r) = choosing_asked (Expr q) n w (called_choosing n w r)
row_asked (Expr q) n w (ChainLink r) = chains_asked q n w r
row_asked (Expr q) n w (ChainEnd r) = end_asked q n w r
row_asked (Expr q) n w (BothSides r) = both_sides_asked (Expr q) n w r
row_asked (Expr q) n w (ChosenIndexed r) = formed_asked (Expr q) n w (chosen_indexed_formed true q n w r)
row_asked (Expr q) n w (ZeroFirst r) = zero_row_asked q n w r
row_asked p n w r = absurd r

pub row_slot : (p : Position) (n w : Tree) → ChoiceRow p n w → (strict : Bool) (s : Slot) → fits strict s n ≡ true → is_body_slot p s ≡ true
row_slot (Expr q) n w (Shorter r) = formed_slot (Expr q) n w (row_formed q n w r)
row_slot (Expr q) n w (TestedBranch r) = formed_slot (Expr q) n n (chosen_formed n w (own_choosing n w r))
row_slot (Expr q) n w (SharedBranch r) = formed_slot (Expr q) n n (chosen_formed n w (held_choosing n w r))
row_slot (Expr q) n w (OptionalChain r) = chain_row_slot q n w r
row_slot (Expr q) n w (JoinedCall r) = formed_slot (Expr q) n n (chosen_formed n w (called_choosing n w r))
row_slot (Expr q) n w (ChainLink r) = chains_slot q n w r
row_slot (Expr q) n w (ChainEnd r) = end_slot q n w r
row_slot (Expr q) n w (BothSides r) = formed_slot (Expr q) n n (both_sides_formed n w r)
row_slot (Expr q) n w (ChosenIndexed r) = formed_slot (Expr q) n w (chosen_indexed_formed true q n w r)
row_slot (Expr q) n w (ZeroFirst r) = zero_row_slot q n w r
row_slot p n w r = absurd r
