-- What the rows write is lawful.
use Rattle.std.specs.Prelude.{ℕ, ◌≡◌, ◌⊎◌, refl, ◌&&◌, Bool, true, false, List, [], None, if◌then◌else◌}
use Rattle.std.proofs.Common.{◌∙◌, sym, subst, inl, inr}
use Rattle.std.proofs.lemmas.Bool.{and_parts}
use Rattle.mini_model.specs.declared.name.Name.{Name}
use Rattle.mini_model.specs.declared.operator.BinaryOperator.TheVariants.{StrictEquality}
use Rattle.mini_model.specs.declared.operator.LogicalOperator.{LogicalOperator}
use Rattle.mini_model.specs.declared.operator.LogicalOperator.TheVariants.{Or, And}
use Rattle.mini_model.specs.declared.place.Position.{Position}
use Rattle.mini_model.specs.declared.place.Position.TheVariants.{Stmt}
use Rattle.mini_model.specs.declared.seat.StmtSeat.{StmtSeat}
use Rattle.mini_model.specs.declared.seat.StmtSeat.TheVariants as stmt_seat
use Rattle.mini_model.specs.declared.shape.Shape.{Shape}
use Rattle.mini_model.specs.declared.shape.Shape.TheVariants as shape
use Rattle.mini_model.specs.Paths.{append}
use Rattle.mini_model.specs.Tree.{Tree, Trees, node, none, ◌▸◌, shape_of, is_absent, absent, listed, empty_statement, expression_statement, if_else, if_alone, logical}
use Rattle.mini_model.specs.Position.{if_test_seat}
use Rattle.mini_model.specs.Terms.{not_of}
use Rattle.mini_accept.specs.WellShaped.{nested, Class, a_case, a_statement, a_key, a_private_or_key, an_inner_key, a_loop_left, an_expression, an_init, Slot, one, one_or_absent, many, many_or_holes, many_and_rest, many_or_holes_and_rest, quasis, refused, each, filling, fits, fill, is_function_body, spelling, spelling_by, has_optional, has_optional_by, is_not_positive_number}
use Rattle.mini_kept.specs.KeepsFrames.{is_in_body, is_body_slot}
use Rattle.mini_kept.specs.KeepsNames.{is_rewritten_place}
use Rattle.mini_kept.specs.KeepsShapes.{is_default, AskedAlike, KeepsShapes}
use Rattle.mini_kept.specs.Lawful.{Lawful}
use Rattle.mini_kept.specs.Loosely.{FixedKept, LawfulLoosely}
use Rattle.mini_kept.specs.Placed.{fits_place}
use Rattle.mini_kept.proofs.Bools.{left, both}
use Rattle.mini_kept.proofs.Expressions.{expression, refused_here, not_of_fits, two_fit}
use Rattle.mini_kept.proofs.Quiet.{IsQuiet, expression_is_quiet}
use Rattle.mini_kept.proofs.Rows.{statement, last_statement, TakesStatementIn, TakesStatement, IfFits, of_if, of_statement, of_last_statement}
use Rattle.mini_terms.specs.Parts.{leaves_nothing}
use Rattle.mini_laws.specs.Fixity.{fixed_by}
use Rattle.mini_laws.specs.Rewritten.{MeansSame}
use Rattle.mini_laws.specs.Value.{Variable}
use Rattle.mini_rows.specs.Arranged.{WhereFixed, KeptAt, KeptLoosely, Vanishes}
use Rattle.mini_rows.specs.Lists.{block, switch, for_loop, return_statement, is_unscoped, are_unscoped, left_behind}
use Rattle.mini_rows.specs.Sketches.{AbsentPart, Return, part, under, end, ◌▹◌}
use Rattle.mini_rows.specs.Spellings.{IsUndefined, PlainForm, a_number, a_text, a_boolean, a_null, a_big_int, a_template, a_void, plain, binary}
use Rattle.mini_rows.specs.Cases.{switch_case, one_case, ended, breaks_out, OneCaseRow}
use Rattle.mini_rows.specs.Loops.{bare_break, is_test, Tested, test_of, is_tested, also, Leaving, leaves_by, goes_by, runs_on, is_loose, Leading, led}
use Rattle.mini_rows.specs.DeadCases.{Choices, no_choices, choice, cases_of, before_others, left_all, left_cases, are_ended, running, DeadCaseRow}
use Rattle.mini_rows.specs.Branches.{IsEmpty, IsIdleVoid, Row60, has_else, is_other_branch, as_consequent, Surrounding, Consequent, Alternate, WhileBody, DoBody, ForBody, InBody, OfBody, around, conjunct_seat, bare_continue, Row82Empty, after, with_not, without_not, Row82Ends, Row83, IfRow, BodyRow, BranchRow, BranchContracts}
use Rattle.mini_rows.proofs.ArrangedLawful.{kept_is_lawful, kept_is_loose, fixed_is_lawful, kept_loosely}
use Rattle.mini_rows.proofs.ArrangedStatements.{statements_arranged}
use Rattle.mini_rows.proofs.BranchInside.{Inside, unwrapped_inside, wrapped_inside}
use Rattle.mini_rows.proofs.BranchAround.{is_plain, Core, Said, core_kept, core_kept_by, around_core, around_said, around_plain}
use Rattle.mini_rows.proofs.BodyEnds.{continue_idle, break_idle, emptied, shortened}
use Rattle.mini_rows.proofs.BranchEnds.{ending_written, ends_kept}
use Rattle.mini_rows.proofs.BranchParts.{Value, core_then, said_then, value_itself, said_itself, value_not, said_not, empty_is_idle, turned_core, turned_said, chosen_core, chosen_said, tested_core, tested_said, nested_core, nested_said}
use Rattle.mini_rows.proofs.BranchSame.{branches_same}
use Rattle.mini_rows.proofs.CaseKept.{case_is_kept, case_says, default_is_kept, default_says, scoped_is_kept, scoped_says}
use Rattle.mini_rows.proofs.DeadCaseKept.{AllQuiet, CasesKept, kept_declared, over_core, over_fixed, left_case, taken_kept, none_kept}
use Rattle.mini_rows.proofs.ListShapes.{left_fits}
use Rattle.mini_rows.proofs.UnreachedNames.{names_named}
use Rattle.mini_laws.specs.declared.names.Declared.TheVariants as names_declared
use Rattle.mini_laws.specs.DeclaredNames.{names_of as names_there}
use Rattle.mini_rows.proofs.Vanishing.{vanishes, first_dropped}
use Rattle.mini_rows.proofs.ListShapes.{both_fit}
use Rattle.mini_rows.proofs.LoopKept.{row_84_fits, row_84_core, row_84_said}
use Rattle.mini_rows.proofs.LoopSplits.{FreeOf, free_of}

else_unscoped : (c : Tree) → has_else c ≡ true → is_unscoped c ≡ true
else_unscoped (node shape.IfStatement xs n ts) h = refl
else_unscoped c h = absurd (cc h)

-- ---- where these statements stand

in_return : (strict : Bool) (k : Class) (xs : List Name) (n : ℕ) (ts : Trees) → fits strict (one k) (node shape.ReturnStatement xs n ts) ≡ true → TakesStatementIn k
in_return strict (a_statement d) xs n ts e = tt
in_return strict (a_key true) xs n ts e = absurd (refused_here strict (one (a_key true)) shape.ReturnStatement xs n ts refl e)
in_return strict (a_private_or_key true) xs n ts e = absurd (refused_here strict (one (a_private_or_key true)) shape.ReturnStatement xs n ts refl e)
in_return strict (an_inner_key true) xs n ts e = absurd (refused_here strict (one (an_inner_key true)) shape.ReturnStatement xs n ts refl e)
in_return strict k xs n ts e = absurd (refused_here strict (one k) shape.ReturnStatement xs n ts refl e)

in_if : (strict : Bool) (k : Class) (xs : List Name) (n : ℕ) (ts : Trees) → fits strict (one k) (node shape.IfStatement xs n ts) ≡ true → TakesStatementIn k
in_if strict (a_statement d) xs n ts e = tt
in_if strict (a_key true) xs n ts e = absurd (refused_here strict (one (a_key true)) shape.IfStatement xs n ts refl e)
in_if strict (a_private_or_key true) xs n ts e = absurd (refused_here strict (one (a_private_or_key true)) shape.IfStatement xs n ts refl e)
in_if strict (an_inner_key true) xs n ts e = absurd (refused_here strict (one (an_inner_key true)) shape.IfStatement xs n ts refl e)
in_if strict k xs n ts e = absurd (refused_here strict (one k) shape.IfStatement xs n ts refl e)

in_while : (strict : Bool) (k : Class) (xs : List Name) (n : ℕ) (ts : Trees) → fits strict (one k) (node shape.WhileStatement xs n ts) ≡ true → TakesStatementIn k
in_while strict (a_statement d) xs n ts e = tt
in_while strict (a_key true) xs n ts e = absurd (refused_here strict (one (a_key true)) shape.WhileStatement xs n ts refl e)
in_while strict (a_private_or_key true) xs n ts e = absurd (refused_here strict (one (a_private_or_key true)) shape.WhileStatement xs n ts refl e)
in_while strict (an_inner_key true) xs n ts e = absurd (refused_here strict (one (an_inner_key true)) shape.WhileStatement xs n ts refl e)
in_while strict k xs n ts e = absurd (refused_here strict (one k) shape.WhileStatement xs n ts refl e)

in_dowhile : (strict : Bool) (k : Class) (xs : List Name) (n : ℕ) (ts : Trees) → fits strict (one k) (node shape.DoWhileStatement xs n ts) ≡ true → TakesStatementIn k
in_dowhile strict (a_statement d) xs n ts e = tt
in_dowhile strict (a_key true) xs n ts e = absurd (refused_here strict (one (a_key true)) shape.DoWhileStatement xs n ts refl e)
in_dowhile strict (a_private_or_key true) xs n ts e = absurd (refused_here strict (one (a_private_or_key true)) shape.DoWhileStatement xs n ts refl e)
in_dowhile strict (an_inner_key true) xs n ts e = absurd (refused_here strict (one (an_inner_key true)) shape.DoWhileStatement xs n ts refl e)
in_dowhile strict k xs n ts e = absurd (refused_here strict (one k) shape.DoWhileStatement xs n ts refl e)

in_for : (strict : Bool) (k : Class) (xs : List Name) (n : ℕ) (ts : Trees) → fits strict (one k) (node shape.ForStatement xs n ts) ≡ true → TakesStatementIn k
in_for strict (a_statement d) xs n ts e = tt
in_for strict (a_key true) xs n ts e = absurd (refused_here strict (one (a_key true)) shape.ForStatement xs n ts refl e)
in_for strict (a_private_or_key true) xs n ts e = absurd (refused_here strict (one (a_private_or_key true)) shape.ForStatement xs n ts refl e)
in_for strict (an_inner_key true) xs n ts e = absurd (refused_here strict (one (an_inner_key true)) shape.ForStatement xs n ts refl e)
in_for strict k xs n ts e = absurd (refused_here strict (one k) shape.ForStatement xs n ts refl e)

in_forin : (strict : Bool) (k : Class) (xs : List Name) (n : ℕ) (ts : Trees) → fits strict (one k) (node shape.ForInStatement xs n ts) ≡ true → TakesStatementIn k
in_forin strict (a_statement d) xs n ts e = tt
in_forin strict (a_key true) xs n ts e = absurd (refused_here strict (one (a_key true)) shape.ForInStatement xs n ts refl e)
in_forin strict (a_private_or_key true) xs n ts e = absurd (refused_here strict (one (a_private_or_key true)) shape.ForInStatement xs n ts refl e)
in_forin strict (an_inner_key true) xs n ts e = absurd (refused_here strict (one (an_inner_key true)) shape.ForInStatement xs n ts refl e)
in_forin strict k xs n ts e = absurd (refused_here strict (one k) shape.ForInStatement xs n ts refl e)

in_forof : (strict : Bool) (k : Class) (xs : List Name) (n : ℕ) (ts : Trees) → fits strict (one k) (node shape.ForOfStatement xs n ts) ≡ true → TakesStatementIn k
in_forof strict (a_statement d) xs n ts e = tt
in_forof strict (a_key true) xs n ts e = absurd (refused_here strict (one (a_key true)) shape.ForOfStatement xs n ts refl e)
in_forof strict (a_private_or_key true) xs n ts e = absurd (refused_here strict (one (a_private_or_key true)) shape.ForOfStatement xs n ts refl e)
in_forof strict (an_inner_key true) xs n ts e = absurd (refused_here strict (one (an_inner_key true)) shape.ForOfStatement xs n ts refl e)
in_forof strict k xs n ts e = absurd (refused_here strict (one k) shape.ForOfStatement xs n ts refl e)

in_switch : (strict : Bool) (k : Class) (xs : List Name) (n : ℕ) (ts : Trees) → fits strict (one k) (node shape.SwitchStatement xs n ts) ≡ true → TakesStatementIn k
in_switch strict (a_statement d) xs n ts e = tt
in_switch strict (a_key true) xs n ts e = absurd (refused_here strict (one (a_key true)) shape.SwitchStatement xs n ts refl e)
in_switch strict (a_private_or_key true) xs n ts e = absurd (refused_here strict (one (a_private_or_key true)) shape.SwitchStatement xs n ts refl e)
in_switch strict (an_inner_key true) xs n ts e = absurd (refused_here strict (one (an_inner_key true)) shape.SwitchStatement xs n ts refl e)
in_switch strict k xs n ts e = absurd (refused_here strict (one k) shape.SwitchStatement xs n ts refl e)

-- a statement that a row reads
abbrev pub is_read : Shape → Bool
is_read shape.ReturnStatement = true
is_read shape.IfStatement = true
is_read shape.WhileStatement = true
is_read shape.DoWhileStatement = true
is_read shape.ForStatement = true
is_read shape.ForInStatement = true
is_read shape.ForOfStatement = true
is_read shape.SwitchStatement = true
is_read _ = false

taken_in : (strict : Bool) (k : Class) (t : Tree) → is_read (shape_of t) ≡ true → fits strict (one k) t ≡ true → TakesStatementIn k
taken_in strict k (node shape.ReturnStatement xs n ts) r e = in_return strict k xs n ts e
taken_in strict k (node shape.IfStatement xs n ts) r e = in_if strict k xs n ts e
taken_in strict k (node shape.WhileStatement xs n ts) r e = in_while strict k xs n ts e
taken_in strict k (node shape.DoWhileStatement xs n ts) r e = in_dowhile strict k xs n ts e
taken_in strict k (node shape.ForStatement xs n ts) r e = in_for strict k xs n ts e
taken_in strict k (node shape.ForInStatement xs n ts) r e = in_forin strict k xs n ts e
taken_in strict k (node shape.ForOfStatement xs n ts) r e = in_forof strict k xs n ts e
taken_in strict k (node shape.SwitchStatement xs n ts) r e = in_switch strict k xs n ts e
taken_in strict k t r e = absurd (cc r)

-- it fills the slot of one that may be absent as it fills that of one
one_of : (strict : Bool) (k : Class) (t : Tree) → is_read (shape_of t) ≡ true → fits strict (one_or_absent k) t ≡ true → fits strict (one k) t ≡ true
one_of strict k (node shape.ReturnStatement xs n ts) r e = e
one_of strict k (node shape.IfStatement xs n ts) r e = e
one_of strict k (node shape.WhileStatement xs n ts) r e = e
one_of strict k (node shape.DoWhileStatement xs n ts) r e = e
one_of strict k (node shape.ForStatement xs n ts) r e = e
one_of strict k (node shape.ForInStatement xs n ts) r e = e
one_of strict k (node shape.ForOfStatement xs n ts) r e = e
one_of strict k (node shape.SwitchStatement xs n ts) r e = e
one_of strict k t r e = absurd (cc r)

-- and no other
other_slot : (strict : Bool) (s : Slot) (t : Tree) → is_read (shape_of t) ≡ true → filling strict s (shape_of t) ≡ refused → fits strict s t ≡ true → ⊥
other_slot strict s (node h xs n ts) r f e = refused_here strict s h xs n ts f e

pub taken : (strict : Bool) (s : Slot) (t : Tree) → is_read (shape_of t) ≡ true → fits strict s t ≡ true → TakesStatement s
taken strict (one k) t r e = taken_in strict k t r e
taken strict (one_or_absent k) t r e = taken_in strict k t r (one_of strict k t r e)
taken strict (many c) t r e = absurd (other_slot strict (many c) t r (unlisted (shape_of t) r) e)
  where
    unlisted : (h : Shape) → is_read h ≡ true → filling strict (many c) h ≡ refused
    unlisted shape.Listed r = absurd (cc r)
    unlisted h r = refl
taken strict (many_or_holes c) t r e = absurd (other_slot strict (many_or_holes c) t r (unlisted (shape_of t) r) e)
  where
    unlisted : (h : Shape) → is_read h ≡ true → filling strict (many_or_holes c) h ≡ refused
    unlisted shape.Listed r = absurd (cc r)
    unlisted h r = refl
taken strict (many_and_rest c d) t r e = absurd (other_slot strict (many_and_rest c d) t r (unlisted (shape_of t) r) e)
  where
    unlisted : (h : Shape) → is_read h ≡ true → filling strict (many_and_rest c d) h ≡ refused
    unlisted shape.Listed r = absurd (cc r)
    unlisted h r = refl
taken strict (many_or_holes_and_rest c d) t r e = absurd (other_slot strict (many_or_holes_and_rest c d) t r (unlisted (shape_of t) r) e)
  where
    unlisted : (h : Shape) → is_read h ≡ true → filling strict (many_or_holes_and_rest c d) h ≡ refused
    unlisted shape.Listed r = absurd (cc r)
    unlisted h r = refl
taken strict (quasis g) t r e = absurd (other_slot strict (quasis g) t r (unlisted (shape_of t) r) e)
  where
    unlisted : (h : Shape) → is_read h ≡ true → filling strict (quasis g) h ≡ refused
    unlisted shape.Listed r = absurd (cc r)
    unlisted h r = refl

-- wherever a statement may stand, one of these fits alike
alike_in : (strict : Bool) (k : Class) (t : Tree) → is_plain (shape_of t) ≡ true → TakesStatementIn k → fits strict (one k) t ≡ fits strict statement t
alike_in strict (a_statement d) (node shape.ExpressionStatement xs n ts) r k = refl
alike_in strict (a_statement d) (node shape.ReturnStatement xs n ts) r k = refl
alike_in strict (a_statement d) (node shape.IfStatement xs n ts) r k = refl
alike_in strict (a_statement d) (node shape.WhileStatement xs n ts) r k = refl
alike_in strict (a_statement d) (node shape.DoWhileStatement xs n ts) r k = refl
alike_in strict (a_statement d) (node shape.ForStatement xs n ts) r k = refl
alike_in strict (a_statement d) (node shape.ForInStatement xs n ts) r k = refl
alike_in strict (a_statement d) (node shape.ForOfStatement xs n ts) r k = refl
alike_in strict (a_statement d) (node shape.SwitchStatement xs n ts) r k = refl
alike_in strict (a_statement d) (node shape.BlockStatement xs n ts) r k = refl
alike_in strict (a_statement d) t r k = absurd (cc r)
alike_in strict c t r k = absurd k

one_alike : (strict : Bool) (k : Class) (t : Tree) → is_plain (shape_of t) ≡ true → fits strict (one_or_absent k) t ≡ fits strict (one k) t
one_alike strict k (node shape.ExpressionStatement xs n ts) r = refl
one_alike strict k (node shape.ReturnStatement xs n ts) r = refl
one_alike strict k (node shape.IfStatement xs n ts) r = refl
one_alike strict k (node shape.WhileStatement xs n ts) r = refl
one_alike strict k (node shape.DoWhileStatement xs n ts) r = refl
one_alike strict k (node shape.ForStatement xs n ts) r = refl
one_alike strict k (node shape.ForInStatement xs n ts) r = refl
one_alike strict k (node shape.ForOfStatement xs n ts) r = refl
one_alike strict k (node shape.SwitchStatement xs n ts) r = refl
one_alike strict k (node shape.BlockStatement xs n ts) r = refl
one_alike strict k t r = absurd (cc r)

alike : (strict : Bool) (s : Slot) (t : Tree) → is_plain (shape_of t) ≡ true → TakesStatement s → fits strict s t ≡ fits strict statement t
alike strict (one k) t r i = alike_in strict k t r i
alike strict (one_or_absent k) t r i = one_alike strict k t r ∙ alike_in strict k t r i
alike strict s t r i = absurd i

pub as_statement : (strict : Bool) (s : Slot) (t : Tree) → is_read (shape_of t) ≡ true → is_plain (shape_of t) ≡ true → fits strict s t ≡ true → fits strict statement t ≡ true
as_statement strict s t r p e = sym (alike strict s t p (taken strict s t r e)) ∙ e

-- so it is enough that what is written fits as a statement
pub fits_there : (strict : Bool) (s : Slot) (n w : Tree) → is_read (shape_of n) ≡ true → is_plain (shape_of n) ≡ true → is_plain (shape_of w) ≡ true → (fits strict statement n ≡ true → fits strict statement w ≡ true) → fits strict s n ≡ true → fits strict s w ≡ true
fits_there strict s n w r p q f e =
    let takes = taken strict s n r e in
    alike strict s w q takes ∙ f (sym (alike strict s n p takes) ∙ e)

body_in : (k : Class) → TakesStatementIn k → is_in_body k ≡ true
body_in (a_statement d) i = refl
body_in k i = absurd i

pub body_slot : (p : Position) (s : Slot) → TakesStatement s → is_body_slot p s ≡ true
body_slot p (one k) i = body_in k i
body_slot p (one_or_absent k) i = body_in k i
body_slot p s i = absurd i

-- ---- what a parent asks of it

there : (t : Tree) → is_plain (shape_of t) ≡ true → is_absent t ≡ false
there (node shape.Absent xs n ts) e = absurd (cc e)
there (node h xs n ts) e = refl

no_body : (t : Tree) → is_plain (shape_of t) ≡ true → is_function_body t ≡ false
no_body (node shape.FunctionBody xs n ts) e = absurd (cc e)
no_body (node h xs n ts) e = refl

no_chain : (h : Shape) (ts : Trees) → is_plain h ≡ true → has_optional_by h ts ≡ false
no_chain (shape.CallExpression b) ts e = absurd (cc e)
no_chain (shape.StaticMemberExpression b) ts e = absurd (cc e)
no_chain (shape.ComputedMemberExpression b) ts e = absurd (cc e)
no_chain (shape.PrivateFieldExpression b) ts e = absurd (cc e)
no_chain shape.InnerExpression ts e = absurd (cc e)
no_chain h ts e = refl

no_optional : (t : Tree) → is_plain (shape_of t) ≡ true → has_optional t ≡ false
no_optional (node h xs n ts) e = no_chain h ts e

unspelled_by : (h : Shape) (xs : List Name) → is_plain h ≡ true → spelling_by h xs ≡ None
unspelled_by shape.Identifier xs e = absurd (cc e)
unspelled_by shape.BindingIdentifier xs e = absurd (cc e)
unspelled_by (shape.IdentifierName s) xs e = absurd (cc e)
unspelled_by h xs e = refl

unspelled : (t : Tree) → is_plain (shape_of t) ≡ true → spelling t ≡ None
unspelled (node h xs n ts) e = unspelled_by h xs e

no_default : (h : Shape) → is_plain h ≡ true → is_default h ≡ false
no_default shape.AssignmentPattern e = absurd (cc e)
no_default h e = refl

no_number : (t : Tree) → is_plain (shape_of t) ≡ true → is_not_positive_number t ≡ true
no_number (node (shape.NumericLiteral k) xs n ts) e = absurd (cc e)
no_number (node h xs n ts) e = refl

pub plain_asked : (p : Position) (n w : Tree) → is_plain (shape_of n) ≡ true → is_plain (shape_of w) ≡ true → AskedAlike p n w
plain_asked p n w e f = record {
  absent = λ g. absurd (cc (sym g ∙ there n e));
  body = λ g. absurd (cc (sym g ∙ no_body n e));
  optional = λ g. absurd (cc (sym g ∙ no_optional n e));
  number = λ g k. no_number w f;
  spelled = λ s g. absurd (cc (sym g ∙ unspelled n e));
  plain = no_default (shape_of n) e;
}

-- ---- a statement of a block

pub block_fit : (strict : Bool) (c : Tree) → fits strict statement (block (c ▸ none)) ≡ true → fits strict statement c ≡ true
block_fit strict c e = left (fits strict statement c) true (left (fits strict statement c && true) true e)

pub in_block_fit : (strict : Bool) (c : Tree) → fits strict statement c ≡ true → fits strict statement (block (c ▸ none)) ≡ true
in_block_fit strict c e = both (fits strict statement c && true) true (both (fits strict statement c) true e refl) refl

pub last_fit : (strict : Bool) (c : Tree) → is_absent c ≡ false → fits strict statement c ≡ true → fits strict last_statement c ≡ true
last_fit strict (node shape.Absent xs n ts) h e = absurd (cc h)
last_fit strict (node h xs n ts) k e = e

pub one_fit : (strict : Bool) (c : Tree) → is_absent c ≡ false → fits strict last_statement c ≡ true → fits strict statement c ≡ true
one_fit strict (node shape.Absent xs n ts) h e = absurd (cc h)
one_fit strict (node h xs n ts) k e = e

pub unscoped_there : (c : Tree) → is_unscoped c ≡ true → is_absent c ≡ false
unscoped_there (node shape.Absent xs n ts) h = absurd (cc h)
unscoped_there (node g xs n ts) h = refl

pub other_there : (u : Tree) → is_other_branch u ≡ true → is_absent u ≡ false
other_there (node shape.Absent xs n ts) h = absurd (cc h)
other_there (node g xs n ts) h = refl

first_and : (a b c : Bool) → (a ≡ true → b ≡ true) → (a && c) ≡ true → (b && c) ≡ true
first_and a b c f e = let (x, y) = and_parts a c e in both b c (f x) y

later_and : (a b c : Bool) → (b ≡ true → c ≡ true) → (a && b) ≡ true → (a && c) ≡ true
later_and a b c f e = let (x, y) = and_parts a b e in both a c x (f y)

module _ (strict : Bool) (x y : Tree) (f : fits strict statement x ≡ true → fits strict statement y ≡ true) (g : fits strict last_statement x ≡ true → fits strict last_statement y ≡ true) where
  pub around_fits : (k : Surrounding) → fits strict statement (around k x) ≡ true → fits strict statement (around k y) ≡ true
  around_fits (Consequent a u) e = later_and (fits strict expression a) _ _ (first_and (fits strict statement x) (fits strict statement y) (fits strict last_statement u && true) f) e
  around_fits (Alternate a s) e = later_and (fits strict expression a) _ _ (later_and (fits strict statement s) _ _ (first_and (fits strict last_statement x) (fits strict last_statement y) true g)) e
  around_fits (WhileBody a) e = later_and (fits strict expression a) _ _ (first_and (fits strict statement x) (fits strict statement y) true f) e
  around_fits (DoBody a) e = first_and (fits strict statement x) (fits strict statement y) (fits strict expression a && true) f e
  around_fits (ForBody a b c) e =
      later_and (fits strict (one_or_absent an_init) a) _ _ (later_and (fits strict (one_or_absent an_expression) b) _ _ (later_and (fits strict (one_or_absent an_expression) c) _ _ (first_and (fits strict statement x) (fits strict statement y) true f))) e
  around_fits (InBody a b) e = later_and (fits strict (one (a_loop_left true)) a) _ _ (later_and (fits strict expression b) _ _ (first_and (fits strict statement x) (fits strict statement y) true f)) e
  around_fits (OfBody a b) e = later_and (fits strict (one (a_loop_left false)) a) _ _ (later_and (fits strict expression b) _ _ (first_and (fits strict statement x) (fits strict statement y) true f)) e

pub around_read : (k : Surrounding) (x : Tree) → is_read (shape_of (around k x)) ≡ true
around_read (Consequent a u) x = refl
around_read (Alternate a s) x = refl
around_read (WhileBody a) x = refl
around_read (DoBody a) x = refl
around_read (ForBody a b c) x = refl
around_read (InBody a b) x = refl
around_read (OfBody a b) x = refl

-- ---- each row: what it writes fits as a statement, and what is kept

record Stood (n w : Tree) : Type 0 where
  read : is_read (shape_of n) ≡ true
  before : is_plain (shape_of n) ≡ true
  after : is_plain (shape_of w) ≡ true
  fitting : (strict : Bool) → fits strict statement n ≡ true → fits strict statement w ≡ true

pub record Kind (n w : Tree) : Type 0 where
  pub read : is_read (shape_of n) ≡ true
  pub before : is_plain (shape_of n) ≡ true
  pub after : is_plain (shape_of w) ≡ true
  pub fitting : (strict : Bool) → fits strict statement n ≡ true → fits strict statement w ≡ true
  pub core : (strict : Bool) → fits strict statement n ≡ true → Core n w
  pub said : Said n w

pub kind_along : (n n' w w' : Tree) → n ≡ n' → w ≡ w' → Kind n' w' → Kind n w
kind_along n n' w w' e f k = subst (λ x. Kind x w) (sym e) (subst (λ y. Kind n' y) (sym f) k)

pub around_kind : (k : Surrounding) (x y : Tree) → Inside x y → ((strict : Bool) → fits strict statement x ≡ true → fits strict statement y ≡ true) → ((strict : Bool) → fits strict last_statement x ≡ true → fits strict last_statement y ≡ true) → Kind (around k x) (around k y)
around_kind k x y i f g = record { read = around_read k x; before = around_plain k x; after = around_plain k y; fitting = λ strict. around_fits strict x y (f strict) (g strict) k; core = λ strict e. around_core x y i k; said = around_said x y i k }

returned : (v : Tree) → Stood (return_statement v) (return_statement absent)
returned v = record { read = refl; before = refl; after = refl; fitting = λ strict e. refl }

-- what goes leaves nothing behind
undefined_vanishes : (v : Tree) → IsUndefined v ⊎ IsIdleVoid v → Vanishes v
undefined_vanishes v (inl (inl e)) = subst Vanishes (sym e) (vanishes _ refl)
undefined_vanishes v (inl (inr e)) = subst Vanishes (sym e) (vanishes _ refl)
undefined_vanishes v (inr i) = subst Vanishes (sym i.is) (vanishes _ (both (leaves_nothing i.operand) true i.dropped refl))

return_kept : (q : StmtSeat) (n w : Tree) → Row60 n w → KeptAt (Stmt q) n w
return_kept q n w r = statements_arranged first_dropped (record { trees = r.argument ▸ none; lists = [] }) (tt, tt, (undefined_vanishes r.argument r.undefined, tt)) (under Return (part 0 ▹ end)) (under Return (under AbsentPart end ▹ end)) refl q n w r.shape r.written

row_79 : (k : Surrounding) (c : Tree) → is_unscoped c ≡ true → Kind (around k (block (c ▸ none))) (around k c)
row_79 k c h = around_kind k (block (c ▸ none)) c (unwrapped_inside c h) (λ strict. block_fit strict c) (λ strict e. last_fit strict c (unscoped_there c h) (block_fit strict c e))

-- a block, and one without its last statement
shorter_fit : (strict : Bool) (ts : Trees) (j : Tree) → fits strict statement (block (append ts (j ▸ none))) ≡ true → fits strict statement (block ts) ≡ true
shorter_fit strict ts j e = both (fill strict (each statement) ts) true (both_fit strict statement ts (j ▸ none) (left (fill strict (each statement) (append ts (j ▸ none))) true e)).0 refl

row_78_block : (k : Surrounding) (ts : Trees) → Kind (around k (block (append ts (bare_continue ▸ none)))) (around k (block ts))
row_78_block k ts = around_kind k (block (append ts (bare_continue ▸ none))) (block ts) (shortened bare_continue continue_idle ts) (λ strict. shorter_fit strict ts bare_continue) (λ strict. shorter_fit strict ts bare_continue)

row_78_whole : (k : Surrounding) → Kind (around k bare_continue) (around k empty_statement)
row_78_whole k = around_kind k bare_continue empty_statement (emptied bare_continue continue_idle) (λ strict e. refl) (λ strict e. refl)

row_78_once : (test : Tree) (ts : Trees) → Kind (around (DoBody test) (block (append ts (bare_break ▸ none)))) (around (DoBody test) (block ts))
row_78_once test ts = around_kind (DoBody test) (block (append ts (bare_break ▸ none))) (block ts) (shortened bare_break break_idle ts) (λ strict. shorter_fit strict ts bare_break) (λ strict. shorter_fit strict ts bare_break)

row_78_never : (test : Tree) → Kind (around (DoBody test) bare_break) (around (DoBody test) empty_statement)
row_78_never test = around_kind (DoBody test) bare_break empty_statement (emptied bare_break break_idle) (λ strict e. refl) (λ strict e. refl)

pub row_84_kind : (init update x : Tree) (t : Tested) (d : Leading) (l : Leaving) → is_test x ≡ true → is_tested t ≡ true → is_loose l ≡ true → FreeOf x d → Kind (for_loop init (test_of t) update (led d (leaves_by l x))) (for_loop init (also t (goes_by l x)) update (led d (runs_on l)))
row_84_kind init update x t d l asked tested loose free = record {
  read = refl;
  before = refl;
  after = refl;
  fitting = row_84_fits init update x t d l asked tested loose free;
  core = row_84_core init update x t d l asked tested loose free;
  said = row_84_said init update x t d l asked tested loose free;
}

body_kind : (n w : Tree) → BodyRow n w → Kind n w
body_kind n w (inl r) = kind_along n _ w _ r.shape r.written (row_79 r.place r.statement r.unscoped)
body_kind n w (inr (inl (inl r))) = kind_along n _ w _ r.shape r.written (row_78_block r.place r.before)
body_kind n w (inr (inl (inr r))) = kind_along n _ w _ r.shape r.written (row_78_whole r.place)
body_kind n w (inr (inr (inl (inl r)))) = kind_along n _ w _ r.shape r.written (row_78_once r.test r.before)
body_kind n w (inr (inr (inl (inr r)))) = kind_along n _ w _ r.shape r.written (row_78_never r.test)
body_kind n w (inr (inr (inr r))) = kind_along n _ w _ r.shape r.written (row_84_kind r.init r.update r.x r.test r.leading r.leaving r.asked r.tested r.loose (free_of r.x r.leading r.unscoped))

row_83_block : (a c u : Tree) → has_else c ≡ true → Kind (if_else a c u) (if_else a (block (c ▸ none)) u)
row_83_block a c u h = record {
  read = refl;
  before = refl;
  after = refl;
  fitting = λ strict e. first_of_if strict a c (block (c ▸ none)) u (in_block_fit strict c) e;
  core = λ strict e. around_core c (block (c ▸ none)) (wrapped_inside c (else_unscoped c h)) (Consequent a u);
  said = around_said c (block (c ▸ none)) (wrapped_inside c (else_unscoped c h)) (Consequent a u);
}
  where
    first_of_if : (strict : Bool) (a x y u : Tree) → (fits strict statement x ≡ true → fits strict statement y ≡ true) → fits strict statement (if_else a x u) ≡ true → fits strict statement (if_else a y u) ≡ true
    first_of_if strict a x y u f e = later_and (fits strict expression a) _ _ (first_and (fits strict statement x) (fits strict statement y) (fits strict last_statement u && true) f) e

pub parts : (strict : Bool) (a b c : Tree) → fits strict statement (if_else a b c) ≡ true → IfFits strict a b c
parts strict a b c e = (of_if strict statement a b c e).1

module _ (o : LogicalOperator) (a b : Tree) (value : (strict : Bool) → fits strict expression a ≡ true → Value a b) (fit : (strict : Bool) → fits strict expression a ≡ true → fits strict expression b ≡ true) (said : Said a b) (t : Tree) (i : IsEmpty t) where
  logical_kind : (c : Tree) → Kind (if_else a t (expression_statement c)) (expression_statement (logical o b c))
  logical_kind c = record {
    read = refl;
    before = refl;
    after = refl;
    fitting = λ strict e.
        let (test, empty, alternate) = parts strict a t (expression_statement c) e in
        both (fits strict expression (logical o b c)) true (two_fit strict b c (fit strict test) (of_last_statement strict c alternate)) refl;
    core = λ strict e.
        let v = value strict (parts strict a t (expression_statement c) e).0 in
        core_then (if_else a t (expression_statement c)) (if_else b (expression_statement c) absent) (expression_statement (logical o b c)) (turned_core a b t (expression_statement c) v (empty_is_idle t i)) (chosen_core o b c v.after);
    said = said_then (if_else a t (expression_statement c)) (if_else b (expression_statement c) absent) (expression_statement (logical o b c)) (turned_said a b t (expression_statement c) said (empty_is_idle t i)) (chosen_said o b c);
  }

row_82_or : (a t c : Tree) → IsEmpty t → Kind (if_else a t (expression_statement c)) (expression_statement (logical Or a c))
row_82_or a t c i = logical_kind Or a a (λ strict e. value_itself a (expression_is_quiet strict a e)) (λ strict e. e) (said_itself a) t i c

row_82_and : (a t c : Tree) → IsEmpty t → Kind (if_else a t (expression_statement c)) (expression_statement (logical And (not_of conjunct_seat a) c))
row_82_and a t c i = logical_kind And a (not_of conjunct_seat a) (λ strict e. value_not strict conjunct_seat a e) (λ strict e. not_of_fits strict conjunct_seat a e) (said_not conjunct_seat a) t i c

row_83_alone : (a t : Tree) → IsEmpty t → Kind (if_alone a t) (expression_statement a)
row_83_alone a t i = record {
  read = refl;
  before = refl;
  after = refl;
  fitting = λ strict e. both (fits strict expression a) true (parts strict a t absent e).0 refl;
  core = λ strict e.
      let q = expression_is_quiet strict a (parts strict a t absent e).0 in
      core_then (if_alone a t) (if_else a absent absent) (expression_statement a) (turned_core a a t absent (value_itself a q) (empty_is_idle t i)) (tested_core a q);
  said = said_then (if_alone a t) (if_else a absent absent) (expression_statement a) (turned_said a a t absent (said_itself a) (empty_is_idle t i)) (tested_said a);
}

row_83_else : (a t u : Tree) → IsEmpty t → is_other_branch u ≡ true → Kind (if_else a t u) (if_alone (not_of if_test_seat a) (as_consequent u))
row_83_else a t u i o = go (has_else u) refl
  where
    b : Tree
    b = not_of if_test_seat a

    bare : Kind (if_else a t u) (if_alone b u)
    bare = record {
      read = refl;
      before = refl;
      after = refl;
      fitting = λ strict e.
          let (test, empty, alternate) = parts strict a t u e in
          both (fits strict expression b) (fits strict statement u && true) (not_of_fits strict if_test_seat a test) (both (fits strict statement u) true (one_fit strict u (other_there u o) alternate) refl);
      core = λ strict e. turned_core a b t u (value_not strict if_test_seat a (parts strict a t u e).0) (empty_is_idle t i);
      said = turned_said a b t u (said_not if_test_seat a) (empty_is_idle t i);
    }

    go : (c : Bool) → has_else u ≡ c → Kind (if_else a t u) (if_alone b (if c then block (u ▸ none) else u))
    go false e = bare
    go true e =
        let more = row_83_block b u absent e in
        record {
          read = refl;
          before = refl;
          after = refl;
          fitting = λ strict f. more.fitting strict (bare.fitting strict f);
          core = λ strict f. core_then (if_else a t u) (if_alone b u) (if_alone b (block (u ▸ none))) (bare.core strict f) (more.core strict (bare.fitting strict f));
          said = said_then (if_else a t u) (if_alone b u) (if_alone b (block (u ▸ none))) bare.said more.said;
        }

row_83_nested : (a b s : Tree) → Kind (if_alone a (if_alone b s)) (if_alone (logical And a b) s)
row_83_nested a b s = record {
  read = refl;
  before = refl;
  after = refl;
  fitting = λ strict e.
      let (test, inner, last) = parts strict a (if_alone b s) absent e in
      let (second, branch, none_there) = parts strict b s absent inner in
      both (fits strict expression (logical And a b)) (fits strict statement s && true) (two_fit strict a b test second) (both (fits strict statement s) true branch refl);
  core = λ strict e.
      let (test, inner, last) = parts strict a (if_alone b s) absent e in
      nested_core a b s (expression_is_quiet strict a test) (expression_is_quiet strict b (parts strict b s absent inner).0);
  said = nested_said a b s;
}

row_83 : (n w : Tree) → Row83 n w → Kind n w
row_83 n w (inl r) = kind_along n _ w _ r.shape r.written (row_83_alone r.a r.empty r.is_empty)
row_83 n w (inr (inl r)) = kind_along n _ w _ r.shape r.written (row_83_else r.a r.empty r.u r.is_empty r.other)
row_83 n w (inr (inr (inl r))) = kind_along n _ w _ r.shape r.written (row_83_nested r.a r.b r.s)
row_83 n w (inr (inr (inr r))) = kind_along n _ w _ r.shape r.written (row_83_block r.a r.c r.u r.chooses)

row_82 : (n w : Tree) → Row82Empty n w → Kind n w
row_82 n w (inl r) = kind_along n _ w _ r.shape r.written (row_82_or r.a r.empty r.b r.is_empty)
row_82 n w (inr r) = kind_along n _ w _ r.shape r.written (row_82_and r.a r.empty r.b r.is_empty)

-- a `switch` of one case

-- the parts of it
module _ (strict : Bool) (d t : Tree) (ts : Trees) where
  abbrev OneCase : Type 0
  OneCase = (fits strict expression d ≡ true) × (fits strict (one_or_absent an_expression) t ≡ true) × (fill strict (each statement) ts ≡ true)

  one_case_fits : fits strict statement (one_case d t ts) ≡ true → OneCase
  one_case_fits e =
      let (discriminant, cases) = and_parts (fits strict expression d) (fits strict (many a_case) (listed (switch_case t ts ▸ none)) && true) e in
      let case = left (fits strict (one a_case) (switch_case t ts)) true (left (fits strict (many a_case) (listed (switch_case t ts ▸ none))) true cases) in
      let (test, body) = and_parts (fits strict (one_or_absent an_expression) t) (fits strict (many (a_statement nested)) (listed ts) && true) case in
      (discriminant, test, left (fits strict (many (a_statement nested)) (listed ts)) true body)

fill_ended : (strict : Bool) (b : Bool) (ss : Trees) → fill strict (each statement) (ended b ss) ≡ true → fill strict (each statement) ss ≡ true
fill_ended strict false ss e = e
fill_ended strict true none e = refl
fill_ended strict true (t ▸ ss) e = later_and (fits strict statement t) _ _ (fill_ended strict true ss) e

plain_fits : (strict : Bool) (f : PlainForm) → fits strict (one_or_absent an_expression) (plain f) ≡ true → fits strict expression (plain f) ≡ true
plain_fits strict (a_number n) e = e
plain_fits strict (a_text s) e = e
plain_fits strict (a_boolean b) e = e
plain_fits strict a_null e = e
plain_fits strict (a_big_int n) e = e
plain_fits strict (a_template l raw s) e = e
plain_fits strict a_void e = e

pub row_80_case : (d : Tree) (f : PlainForm) (b : Bool) (ss : Trees) → breaks_out (listed ss) ≡ false → Kind (one_case d (plain f) (ended b ss)) (if_alone (binary StrictEquality d (plain f)) (block ss))
row_80_case d f b ss s = record {
  read = refl;
  before = refl;
  after = refl;
  fitting = λ strict e.
      let (discriminant, test, body) = one_case_fits strict d (plain f) (ended b ss) e in
      both (fits strict expression (binary StrictEquality d (plain f))) (fits strict statement (block ss) && true) (two_fit strict d (plain f) discriminant (plain_fits strict f test)) (both (fits strict statement (block ss)) true (both (fill strict (each statement) ss) true (fill_ended strict b ss body) refl) refl);
  core = λ strict e. case_is_kept d b ss s f (expression_is_quiet strict d (one_case_fits strict d (plain f) (ended b ss) e).0);
  said = case_says d b ss s f;
}

row_80_default : (d : Tree) (b : Bool) (ss : Trees) → are_unscoped ss ≡ true → breaks_out (listed ss) ≡ false → Kind (one_case d absent (ended b ss)) (block (expression_statement d ▸ ss))
row_80_default d b ss u s = record {
  read = refl;
  before = refl;
  after = refl;
  fitting = λ strict e.
      let (discriminant, test, body) = one_case_fits strict d absent (ended b ss) e in
      both (fits strict statement (expression_statement d) && fill strict (each statement) ss) true (both (fits strict statement (expression_statement d)) (fill strict (each statement) ss) (both (fits strict expression d) true discriminant refl) (fill_ended strict b ss body)) refl;
  core = λ strict e. default_is_kept d b ss s u (expression_is_quiet strict d (one_case_fits strict d absent (ended b ss) e).0);
  said = default_says d b ss s u;
}

row_80_scoped : (d : Tree) (b : Bool) (ss : Trees) → breaks_out (listed ss) ≡ false → Kind (one_case d absent (ended b ss)) (block (expression_statement d ▸ (block ss ▸ none)))
row_80_scoped d b ss s = record {
  read = refl;
  before = refl;
  after = refl;
  fitting = λ strict e.
      let (discriminant, test, body) = one_case_fits strict d absent (ended b ss) e in
      let inner = both (fill strict (each statement) ss) true (fill_ended strict b ss body) refl in
      both (fits strict statement (expression_statement d) && (fits strict statement (block ss) && true)) true (both (fits strict statement (expression_statement d)) (fits strict statement (block ss) && true) (both (fits strict expression d) true discriminant refl) (both (fits strict statement (block ss)) true inner refl)) refl;
  core = λ strict e. scoped_is_kept d b ss s (expression_is_quiet strict d (one_case_fits strict d absent (ended b ss) e).0);
  said = scoped_says d b ss s;
}

row_80 : (n w : Tree) → OneCaseRow n w → Kind n w
row_80 n w (inl r) = kind_along n _ w _ r.shape r.written (row_80_case r.discriminant r.test r.is_ended r.statements r.stays)
row_80 n w (inr (inl r)) = kind_along n _ w _ r.shape r.written (row_80_default r.discriminant r.is_ended r.statements r.unscoped r.stays)
row_80 n w (inr (inr r)) = kind_along n _ w _ r.shape r.written (row_80_scoped r.discriminant r.is_ended r.statements r.stays)

-- a `switch` over a value that is known: its cases

abbrev pub AllFit : Bool → Choices → Type 0
AllFit strict no_choices = Unit {0}
AllFit strict (choice t ss cs) = ((fits strict (one_or_absent an_expression) t ≡ true) × (fill strict (each statement) ss ≡ true)) × AllFit strict cs

cases_fit : (strict : Bool) (cs : Choices) → fill strict (each (one a_case)) (cases_of cs) ≡ true → AllFit strict cs
cases_fit strict no_choices e = tt
cases_fit strict (choice t ss cs) e =
    let (case, others) = and_parts (fits strict (one a_case) (switch_case t ss)) (fill strict (each (one a_case)) (cases_of cs)) e in
    let (test, body) = and_parts (fits strict (one_or_absent an_expression) t) (fits strict (many (a_statement nested)) (listed ss) && true) case in
    ((test, left (fits strict (many (a_statement nested)) (listed ss)) true body), cases_fit strict cs others)

fit_cases : (strict : Bool) (cs : Choices) → AllFit strict cs → fill strict (each (one a_case)) (cases_of cs) ≡ true
fit_cases strict no_choices a = refl
fit_cases strict (choice t ss cs) ((test, body), a) =
    both (fits strict (one a_case) (switch_case t ss)) (fill strict (each (one a_case)) (cases_of cs))
    (both (fits strict (one_or_absent an_expression) t) (fits strict (many (a_statement nested)) (listed ss) && true) test (both (fits strict (many (a_statement nested)) (listed ss)) true body refl)) (fit_cases strict cs a)

fit_later : (strict : Bool) (bs cs : Choices) → AllFit strict (before_others bs cs) → AllFit strict cs
fit_later strict no_choices cs a = a
fit_later strict (choice t ss bs) cs a = fit_later strict bs cs a.1

fit_append : (strict : Bool) (a b : Trees) → fill strict (each statement) a ≡ true → fill strict (each statement) b ≡ true → fill strict (each statement) (append a b) ≡ true
fit_append strict none b e f = f
fit_append strict (t ▸ a) b e f = later_and (fits strict statement t) _ _ (λ g. fit_append strict a b g f) e

fit_behind : (strict : Bool) (t : Tree) → fits strict statement t ≡ true → fill strict (each statement) (left_behind t) ≡ true
fit_behind strict t e = left_fits strict nested (names_there names_declared.Hoisted t) (names_named names_declared.Hoisted strict statement t e)

fit_left : (strict : Bool) (ss : Trees) → fill strict (each statement) ss ≡ true → fill strict (each statement) (left_all ss) ≡ true
fit_left strict none e = refl
fit_left strict (t ▸ ss) e =
    let (own, rest) = and_parts (fits strict statement t) (fill strict (each statement) ss) e in
    fit_append strict (left_behind t) (left_all ss) (fit_behind strict t own) (fit_left strict ss rest)

fit_cases_left : (strict : Bool) (cs : Choices) → AllFit strict cs → fill strict (each statement) (left_cases cs) ≡ true
fit_cases_left strict no_choices a = refl
fit_cases_left strict (choice t ss cs) a = fit_append strict (left_all ss) (left_cases cs) (fit_left strict ss a.0.1) (fit_cases_left strict cs a.1)

fit_earlier : (strict : Bool) (bs cs : Choices) → AllFit strict (before_others bs cs) → AllFit strict bs
fit_earlier strict no_choices cs a = tt
fit_earlier strict (choice t ss bs) cs a = (a.0, fit_earlier strict bs cs a.1)

fit_running : (strict : Bool) (ss : Trees) (cs : Choices) → fill strict (each statement) ss ≡ true → AllFit strict cs → fill strict (each statement) (running ss cs) ≡ true
fit_running strict ss no_choices e a = e
fit_running strict ss (choice t us cs) e a = go (are_ended ss) (fit_running strict us cs a.0.1 a.1)
  where
    go : (b : Bool) → fill strict (each statement) (running us cs) ≡ true → fill strict (each statement) (if b then append ss (left_cases (choice t us cs)) else append ss (running us cs)) ≡ true
    go true f = fit_append strict ss (left_cases (choice t us cs)) e (fit_cases_left strict (choice t us cs) a)
    go false f = fit_append strict ss (running us cs) e f

test_quiet : (strict : Bool) (t : Tree) → fits strict (one_or_absent an_expression) t ≡ true → IsQuiet t
test_quiet strict (node shape.Absent xs n ts) e = refl
test_quiet strict (node h xs n ts) e = expression_is_quiet strict (node h xs n ts) e

pub all_quiet : (strict : Bool) (cs : Choices) → AllFit strict cs → AllQuiet cs
all_quiet strict no_choices a = tt
all_quiet strict (choice t ss cs) a = (test_quiet strict t a.0.0, all_quiet strict cs a.1)

pub over_fits : (strict : Bool) (d : Tree) (cs : Choices) → fits strict statement (switch d (listed (cases_of cs))) ≡ true → (fits strict expression d ≡ true) × AllFit strict cs
over_fits strict d cs e =
    let (value, list) = and_parts (fits strict expression d) (fits strict (many a_case) (listed (cases_of cs)) && true) e in
    (value, cases_fit strict cs (left (fits strict (many a_case) (listed (cases_of cs))) true list))

fits_over : (strict : Bool) (d : Tree) (cs : Choices) → fits strict expression d ≡ true → AllFit strict cs → fits strict statement (switch d (listed (cases_of cs))) ≡ true
fits_over strict d cs e a = both (fits strict expression d) (fits strict (many a_case) (listed (cases_of cs)) && true) e (both (fits strict (many a_case) (listed (cases_of cs))) true (fit_cases strict cs a) refl)

row_kind : (n w : Tree) → BodyRow n w ⊎ (Row82Empty n w ⊎ Row83 n w) → Kind n w
row_kind n w (inl r) = body_kind n w r
row_kind n w (inr (inl r)) = row_82 n w r
row_kind n w (inr (inr r)) = row_83 n w r

kind_stood : (n w : Tree) → Kind n w → Stood n w
kind_stood n w k = record { read = k.read; before = k.before; after = k.after; fitting = k.fitting }

kind_kept : (q : StmtSeat) (n w : Tree) → Kind n w → KeptAt (Stmt q) n w
kind_kept q n w k = core_kept q n w k.before k.after (λ strict s e. k.core strict (sym (alike strict s n k.before (taken strict s n k.read e)) ∙ e)) k.said

stood_along : (n n' w w' : Tree) → n ≡ n' → w ≡ w' → Stood n' w' → Stood n w
stood_along n n' w w' e f k = subst (λ x. Stood x w) (sym e) (subst (λ y. Stood n' y) (sym f) k)

-- of a `switch` over a value that is known
module _ (q : StmtSeat) (d : Tree) (cs ds : Choices) (k : CasesKept cs ds) (f : (strict : Bool) → AllFit strict cs → AllFit strict ds) where
  abbrev this : Tree
  this = switch d (listed (cases_of cs))

  abbrev that : Tree
  that = switch d (listed (cases_of ds))

  over_stood : Stood this that
  over_stood = record { read = refl; before = refl; after = refl; fitting = λ strict e. let a = over_fits strict d cs e in fits_over strict d ds a.0 (f strict a.1) }

  quiet_there : (strict : Bool) (s : Slot) → fits strict s this ≡ true → AllQuiet cs
  quiet_there strict s e = all_quiet strict cs (over_fits strict d cs (sym (alike strict s this refl (taken strict s this refl e)) ∙ e)).1

  over_kept : KeptLoosely (Stmt q) this that
  over_kept =
      core_kept_by FixedKept q this that refl refl (λ strict s e. over_core d cs ds k (quiet_there strict s e))
      (record { by = λ strict s o e v env st a x. over_fixed d cs ds k (quiet_there strict s e) v env a x })
      (kept_declared d cs ds k)

record Dead (q : StmtSeat) (n w : Tree) : Type 0 where
  stood : Stood n w
  kept : KeptLoosely (Stmt q) n w

dead_over : (q : StmtSeat) (d : Tree) (cs ds : Choices) → CasesKept cs ds → ((strict : Bool) → AllFit strict cs → AllFit strict ds) → Dead q (switch d (listed (cases_of cs))) (switch d (listed (cases_of ds)))
dead_over q d cs ds k f = record { stood = over_stood q d cs ds k f; kept = over_kept q d cs ds k f }

dead_along : (q : StmtSeat) (n n' w w' : Tree) → n ≡ n' → w ≡ w' → Dead q n' w' → Dead q n w
dead_along q n n' w w' e f k = subst (λ x. Dead q x w) (sym e) (subst (λ y. Dead q n' y) (sym f) k)

row_81 : (q : StmtSeat) (n w : Tree) → DeadCaseRow n w → Dead q n w
row_81 q n w (inl r) =
    let cs = choice r.test r.statements r.after in
    dead_along q n _ w _ r.shape r.written
    (dead_over q r.discriminant (before_others r.before cs) (left_case r.before r.test r.statements r.after) (taken_kept r.before r.test r.statements r.after r.loose r.dropped r.rest_dropped) (λ strict a.
    let b = fit_later strict r.before cs a in
    ((b.0.0, fit_append strict (left_cases r.before) (running r.statements r.after) (fit_cases_left strict r.before (fit_earlier strict r.before cs a)) (fit_running strict r.statements r.after b.0.1 b.1)), tt)))
row_81 q n w (inr r) =
    let cs = choice r.test r.statements r.after in
    dead_along q n _ w _ r.shape r.written (dead_over q r.discriminant cs (choice r.test (left_cases cs) no_choices) (none_kept r.test r.statements r.after r.loose r.dropped) (λ strict a. ((a.0.0, fit_cases_left strict cs a), tt)))

-- where the test ends in a `!`
ends_stood : (n w : Tree) → Row82Ends n w → Stood n w
ends_stood n w (inl r) = let c = after r.first r.others r.last in
    stood_along n _ w _ r.shape r.written (record {
      read = refl;
      before = refl;
      after = refl;
      fitting = λ strict e.
          let (test, body, last) = parts strict (with_not c) (expression_statement r.b) absent e in
          both (fits strict expression (logical Or (without_not c) r.b)) true (two_fit strict (without_not c) r.b ((ending_written c).fitting strict test) (of_statement strict r.b body)) refl;
    })
ends_stood n w (inr r) = let c = after r.first r.others r.last in
    stood_along n _ w _ r.shape r.written (record {
      read = refl;
      before = refl;
      after = refl;
      fitting = λ strict e.
          let (test, empty, last) = parts strict (with_not c) r.empty (expression_statement r.b) e in
          both (fits strict expression (logical And (without_not c) r.b)) true (two_fit strict (without_not c) r.b ((ending_written c).fitting strict test) (of_last_statement strict r.b last)) refl;
    })

-- ---- all

statement_row : (p : Position) (n w : Tree) → BranchRow p n w → Stood n w
statement_row (Stmt q) n w (inl (inr (inl r))) = kind_stood n w (row_80 n w r)
statement_row (Stmt q) n w (inl (inr (inr r))) = (row_81 q n w r).stood
statement_row (Stmt q) n w (inl (inl r)) = subst (λ x. Stood x w) (sym r.shape) (subst (λ y. Stood (return_statement r.argument) y) (sym r.written) (returned r.argument))
statement_row (Stmt q) n w (inr (inl r)) = kind_stood n w (row_kind n w (inl r))
statement_row (Stmt q) n w (inr (inr (inl r))) = kind_stood n w (row_kind n w (inr (inl r)))
statement_row (Stmt q) n w (inr (inr (inr (inl r)))) = kind_stood n w (row_kind n w (inr (inr r)))
statement_row (Stmt q) n w (inr (inr (inr (inr r)))) = ends_stood n w r
statement_row p n w r = absurd r

row_place : (p : Position) (n w : Tree) → BranchRow p n w → is_rewritten_place p ≡ true
row_place (Stmt q) n w r = refl
row_place p n w r = absurd r

if_kept : (q : StmtSeat) (n w : Tree) → IfRow n w → KeptAt (Stmt q) n w
if_kept q n w (inl r) = kind_kept q n w (row_kind n w (inr (inl r)))
if_kept q n w (inr (inl r)) = kind_kept q n w (row_kind n w (inr (inr r)))
if_kept q n w (inr (inr r)) = ends_kept q n w r

-- what a write does stays where an `if` is written anew
pub ifs_fixed : (n w : Tree) → IfRow n w → (x : Variable) → fixed_by n x ≡ fixed_by w x
ifs_fixed n w r = (if_kept stmt_seat.List n w r).fixed

row_kept : (p : Position) (n w : Tree) → BranchRow p n w → KeptLoosely p n w
row_kept (Stmt q) n w (inl (inr (inl r))) = kept_loosely (Stmt q) n w (kind_kept q n w (row_80 n w r))
row_kept (Stmt q) n w (inl (inr (inr r))) = (row_81 q n w r).kept
row_kept (Stmt q) n w (inl (inl r)) = kept_loosely (Stmt q) n w (return_kept q n w r)
row_kept (Stmt q) n w (inr (inl r)) = kept_loosely (Stmt q) n w (kind_kept q n w (row_kind n w (inl r)))
row_kept (Stmt q) n w (inr (inr r)) = kept_loosely (Stmt q) n w (if_kept q n w r)
row_kept p n w r = absurd r

-- of statements a relation is lawful that means the same and of which each instance is kept so
abbrev pub IsKind : Position → Tree → Tree → Type 0
IsKind (Stmt q) n w = Kind n w
IsKind p n w = ⊥

stood_at : (p : Position) (n w : Tree) → IsKind p n w → Stood n w
stood_at (Stmt q) n w k = kind_stood n w k
stood_at p n w k = absurd k

pub placed_at : (p : Position) (n w : Tree) → IsKind p n w → is_rewritten_place p ≡ true
placed_at (Stmt q) n w k = refl
placed_at p n w k = absurd k

pub kept_at : (p : Position) (n w : Tree) → IsKind p n w → KeptAt p n w
kept_at (Stmt q) n w k = kind_kept q n w k
kept_at p n w k = absurd k

pub kinds_shapes : (R : Position → Tree → Tree → Type 0) → ((p : Position) (n w : Tree) → R p n w → IsKind p n w) → KeepsShapes R
kinds_shapes R kind = record {
  fitting = λ p n w c strict s f e. let k = stood_at p n w (kind p n w c) in fits_there strict s n w k.read k.before k.after (k.fitting strict) e;
  asked = λ p n w c. let k = stood_at p n w (kind p n w c) in plain_asked p n w k.before k.after;
}

pub kinds_lawful : (R : Position → Tree → Tree → Type 0) → MeansSame R → ((p : Position) (n w : Tree) → R p n w → IsKind p n w) → Lawful R
kinds_lawful R same kind =
    kept_is_lawful R same (kinds_shapes R kind)
    (λ p n w c. placed_at p n w (kind p n w c))
    (λ p n w c strict s f e. body_slot p s (taken strict s n (stood_at p n w (kind p n w c)).read e))
    (λ p n w c. kept_at p n w (kind p n w c))

shapes_kept : KeepsShapes BranchContracts
shapes_kept = record {
  fitting = λ p n w c strict s f e. let k = statement_row p n w c.row in fits_there strict s n w k.read k.before k.after (k.fitting strict) e;
  asked = λ p n w c. let k = statement_row p n w c.row in plain_asked p n w k.before k.after;
}

slots_kept : (p : Position) (n w : Tree) → BranchContracts p n w → (strict : Bool) (s : Slot) → fits_place p s ≡ true → fits strict s n ≡ true → is_body_slot p s ≡ true
slots_kept p n w c strict s f e = body_slot p s (taken strict s n (statement_row p n w c.row).read e)

pub branches_loose : (K : Shape → Bool) → LawfulLoosely K BranchContracts
branches_loose = kept_is_loose BranchContracts branches_same shapes_kept (λ p n w c. row_place p n w c.row) slots_kept (λ p n w c. row_kept p n w c.row)

pub branches_lawful : Lawful (WhereFixed BranchContracts)
branches_lawful = fixed_is_lawful BranchContracts branches_same shapes_kept (λ p n w c. row_place p n w c.row) slots_kept (λ p n w c. row_kept p n w c.row)
