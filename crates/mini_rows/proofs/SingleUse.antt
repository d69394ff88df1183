-- A tree that reads a variable after the parts that stand before, as a path to that read: what leads there, and what stands beside it.
use Rattle.std.specs.Prelude.{codes, ℕ, zero, suc, ◌+◌, ◌≡◌, ◌⊎◌, refl, not, ◌&&◌, ◌||◌, Bool, true, false, List, [], ◌∷◌, if◌then◌else◌}
use Rattle.std.proofs.Common.{ap, ◌∙◌, sym, subst, subst₂, arith, inl, inr, true≢false}
use Rattle.std.proofs.lemmas.Bool.{and_parts}
use Rattle.mini_model.specs.declared.kind.PropertyKind.TheVariants.{Init}
use Rattle.mini_model.specs.declared.kind.VariableDeclarationKind.{VariableDeclarationKind}
use Rattle.mini_model.specs.declared.kind.VariableDeclarationKind.TheVariants.{Var}
use Rattle.mini_model.specs.declared.name.Name.{Name}
use Rattle.mini_model.specs.declared.operator.AssignmentOperator.{AssignmentOperator}
use Rattle.mini_model.specs.declared.operator.AssignmentOperator.TheVariants.{Assign}
use Rattle.mini_model.specs.declared.operator.BinaryOperator.{BinaryOperator}
use Rattle.mini_model.specs.declared.operator.LogicalOperator.{LogicalOperator}
use Rattle.mini_model.specs.declared.operator.UnaryOperator.TheVariants.{LogicalNot, UnaryPlus, UnaryNegation, BitwiseNot, Typeof, Void}
use Rattle.mini_model.specs.declared.operator.UpdateOperator.{UpdateOperator}
use Rattle.mini_model.specs.declared.shape.Shape.{Shape}
use Rattle.mini_model.specs.declared.shape.Shape.TheVariants as shape
use Rattle.mini_model.specs.Tree.{Tree, Trees, node, none, ◌▸◌, listed, children, identifier, shape_of, is_absent_shape, is_absent}
use Rattle.mini_model.specs.Paths.{append}
use Rattle.mini_model.specs.Weight.{same_text}
use Rattle.mini_laws.specs.Naming.{summary, summaries, summary_of}
use Rattle.mini_laws.specs.ScopeList.{is_eval_callee}
use Rattle.mini_laws.specs.Symbols.{is_same}
use Rattle.mini_node.specs.Children.{part, is_bare, rest_children}
use Rattle.mini_node.specs.Kinds.{is_identifier}
use Rattle.mini_terms.specs.Folds.{is_effect_free}
use Rattle.mini_terms.specs.Reading.{is_plain_part, is_typed_by_value}
use Rattle.mini_rows.specs.Sketches.{Head, AList, Update, target_asked, AsTarget, AsUpdated, Array, Unary, Binary, Logical, Conditional, Sequence, Call, New, StaticMember, ComputedMember, Chain, Yield, Object, Property, Spread, Interpolation, Assignment, OfExpression, Throw, Return, If, shape_by, Asked, AsWholeItem, AsValue, AsValues, asked_below, Leap}
use Rattle.mini_rows.specs.Lists.{declaration, for_loop, is_var_shape, Each, EachIn, EachOf, each_loop}
use Rattle.mini_rows.specs.Declarations.{declarator}
use Rattle.mini_rows.specs.Chains.{is_calm}
use Rattle.mini_rows.specs.Unused.{is_like_one, is_member_shape, is_member, names, any_names, begins, goes_on, may_go_on, has_branches, leads, has_arguments, holds_list, is_childless, is_own_key, can_be_full, in_full, may_hold, reads, is_first, leads_to, put_first, put_among, is_constant, passes_at, is_plain_assignment, is_sure, is_placed, Gathered, OfValues, of_entries, gathered_below, begins_with, is_reached, is_number_shape, is_called_by_value, suits, are_passed_in, are_passed_by_value, all_passed, reads_first, is_declarator, declares_list, reads_declarator, reads_declarators, reads_initially, reads_outside, is_open_left, reads_over, has_declarator, first_value, reads_begun, reads_head, evaluated}
use Rattle.mini_rows.proofs.Arranging.{Plain, Below, sum_below, Local, Summed}
use Rattle.mini_rows.proofs.ListKeptHeads.{Seat, Loop, Choice, seated, rest}

-- ---- what leads there

pub data Lead : Type 0 where
  Not : Lead
  Plus : Lead
  Minus : Lead
  Tilde : Lead
  Typing : Lead
  Emptying : Lead
  Beside : BinaryOperator → Lead
  Deciding : LogicalOperator → Lead
  Choosing : Lead
  Passing : Lead
  Called : Bool → Lead
  Making : Lead
  Waiting : Bool → Lead
  Member : Bool → Lead
  Keyed : Bool → Lead
  Linking : Lead
  Holding : Lead
  Gathering : Lead
  Spreading : Lead
  -- what is assigned to, or updated
  Targeted : AssignmentOperator → Lead
  Changing : UpdateOperator → Bool → Lead
  Bracketing : Lead
  -- after the first part
  Against : BinaryOperator → Tree → Lead
  Given : Bool → Tree → Lead
  Filling : Tree → Lead
  Keying : Bool → Tree → Lead
  -- after the texts of a template, which aren't evaluated
  Interpolating : Tree → Lead
  -- after the parts before, or not at all
  Following : LogicalOperator → Tree → Lead
  Branching : Tree → Lead
  Failing : Tree → Tree → Lead
  -- after what is assigned to
  Storing : AssignmentOperator → Tree → Lead
  -- after a key, which stands in brackets or doesn't
  Fielding : Bool → Tree → Lead
  -- a list, after these parts
  Listing : Trees → Lead
  -- statements
  Doing : Lead
  Giving : Lead
  Raising : Lead
  Testing : Lead

abbrev pub head_of : Lead → Head
head_of Not = Unary LogicalNot
head_of Plus = Unary UnaryPlus
head_of Minus = Unary UnaryNegation
head_of Tilde = Unary BitwiseNot
head_of Typing = Unary Typeof
head_of Emptying = Unary Void
head_of (Beside o) = Binary o
head_of (Deciding o) = Logical o
head_of Choosing = Conditional
head_of Passing = Sequence
head_of (Called o) = Call o
head_of Making = New
head_of (Waiting d) = Yield d
head_of (Member o) = StaticMember o
head_of (Keyed o) = ComputedMember o
head_of Linking = Chain
head_of Holding = Array
head_of Gathering = Object
head_of Spreading = Spread
head_of (Targeted o) = Assignment o
head_of (Changing o p) = Update o p
head_of Bracketing = Property false true
head_of (Against o a) = Binary o
head_of (Given o a) = Call o
head_of (Filling a) = New
head_of (Keying o a) = ComputedMember o
head_of (Interpolating a) = Interpolation
head_of (Following o a) = Logical o
head_of (Branching a) = Conditional
head_of (Failing a b) = Conditional
head_of (Storing o a) = Assignment o
head_of (Fielding c a) = Property false c
head_of (Listing ts) = AList
head_of Doing = OfExpression
head_of Giving = Return
head_of Raising = Throw
head_of Testing = If

-- the parts before
abbrev pub before : Lead → Trees
before (Against o a) = a ▸ none
before (Given o a) = a ▸ none
before (Filling a) = a ▸ none
before (Keying o a) = a ▸ none
before (Interpolating a) = a ▸ none
before (Following o a) = a ▸ none
before (Branching a) = a ▸ none
before (Failing a b) = a ▸ (b ▸ none)
before (Storing o a) = a ▸ none
before (Fielding c a) = a ▸ none
before (Listing ts) = ts
before l = none

-- it is evaluated whatever the parts before are; where nothing is lost by it, it may be left out
abbrev pub surely : Gathered → Bool → Lead → Bool
surely m is_free (Following o a) = is_free
surely m is_free (Branching a) = is_free
surely m is_free (Failing a b) = is_free
surely m is_free (Storing o a) = is_plain_assignment o || is_free
surely m is_free (Fielding c a) = not c && (of_entries m || is_free)
surely m is_free Spreading = of_entries m || is_free
surely m is_free Bracketing = of_entries m || is_free
surely m is_free (Given o a) = not o || is_free
surely m is_free (Keying o a) = not o || is_free
surely m is_free l = true

-- the place after some parts
abbrev pub place : ℕ → Trees → ℕ
place i none = i
place i (t ▸ ts) = place (suc i) ts

-- as it is found: a property may be shorthand
abbrev pub found_head : Bool → Lead → Head
found_head true (Fielding false a) = Property (is_own_key a) false
found_head is_short l = head_of l

-- whatever holds of what is found
pub by_front : (P : Lead → Head → Type 0) → ((l : Lead) → P l (head_of l)) → ((a : Tree) → is_own_key a ≡ true → P (Fielding false a) (Property true false)) → (b : Bool) (l : Lead) → P l (found_head b l)
by_front P f g true (Fielding false a) = by (is_own_key a) refl
  where
    by : (c : Bool) → is_own_key a ≡ c → P (Fielding false a) (Property c false)
    by true e = g a e
    by false e = f (Fielding false a)
by_front P f g b l = f l

pub record Step : Type 0 where
  pub lead : Lead
  pub rest : Trees
  -- a property that is found shorthand
  pub is_short : Bool

abbrev pub led : List Step → Tree → Tree
led [] u = u
led (s ∷ ss) u = node (shape_by (head_of s.lead)) [] 0 (append (before s.lead) (led ss u ▸ s.rest))

abbrev pub is_end : List Step → Bool
is_end [] = true
is_end (s ∷ ss) = false

-- so it is where its value is the read itself
abbrev pub ends_short : Step → List Step → Bool
ends_short s ss = s.is_short && is_end ss

-- as it is found
abbrev pub found : List Step → Tree → Tree
found [] u = u
found (s ∷ ss) u = node (shape_by (found_head (ends_short s ss) s.lead)) [] 0 (append (before s.lead) (found ss u ▸ s.rest))

-- neither is absent
head_there : (l : Lead) → is_absent_shape (shape_by (head_of l)) ≡ false
head_there Not = refl
head_there l = refl

led_there : (ss : List Step) (u : Tree) → is_absent u ≡ false → is_absent (led ss u) ≡ false
led_there [] u e = e
led_there (s ∷ ss) u e = head_there s.lead

found_there : (ss : List Step) (u : Tree) → is_absent u ≡ false → is_absent (found ss u) ≡ false
found_there [] u e = e
found_there (s ∷ ss) u e = by_front (λ l h. is_absent_shape (shape_by h) ≡ false) head_there (λ a k. refl) (ends_short s ss) s.lead

pub both_there : (ss : List Step) (u : Tree) (r : Name) → is_absent u ≡ false → is_absent (found ss (identifier r)) ≡ is_absent (led ss u)
both_there ss u r e = found_there ss (identifier r) refl ∙ sym (led_there ss u e)

pub plain_there : (t : Tree) → is_plain_part t ≡ true → is_absent t ≡ false
plain_there (node shape.Absent xs n ts) e = absurd (true≢false (sym e))
plain_there (node h xs n ts) e = refl

-- it stands there
abbrev pub Stands : Asked → Lead → Bool → Type 0
Stands AsWholeItem Doing at_end = Unit {0}
Stands AsWholeItem Giving at_end = Unit {0}
Stands AsWholeItem Raising at_end = Unit {0}
Stands AsWholeItem Testing at_end = Unit {0}
Stands AsValues (Listing ts) at_end = Unit {0}
Stands AsValue Not at_end = Unit {0}
Stands AsValue Plus at_end = Unit {0}
Stands AsValue Minus at_end = Unit {0}
Stands AsValue Tilde at_end = Unit {0}
Stands AsValue Typing at_end = Unit {0}
Stands AsValue Emptying at_end = Unit {0}
Stands AsValue (Beside o) at_end = Unit {0}
Stands AsValue (Deciding o) at_end = Unit {0}
Stands AsValue Choosing at_end = Unit {0}
Stands AsValue Passing at_end = Unit {0}
Stands AsValue (Called o) at_end = Unit {0}
Stands AsValue Making at_end = Unit {0}
Stands AsValue (Waiting d) at_end = Unit {0}
Stands AsValue (Member o) at_end = Unit {0}
Stands AsValue (Keyed o) at_end = Unit {0}
Stands AsValue Linking at_end = at_end ≡ false
Stands AsValue Holding at_end = Unit {0}
Stands AsValue Gathering at_end = Unit {0}
Stands AsValue Spreading at_end = Unit {0}
Stands AsValue (Targeted o) at_end = at_end ≡ false
Stands AsValue (Changing o p) at_end = at_end ≡ false
Stands AsTarget (Member false) at_end = Unit {0}
Stands AsTarget (Keyed false) at_end = Unit {0}
Stands AsTarget (Keying false a) at_end = Unit {0}
Stands AsUpdated (Member false) at_end = Unit {0}
Stands AsUpdated (Keyed false) at_end = Unit {0}
Stands AsUpdated (Keying false a) at_end = Unit {0}
Stands AsValue Bracketing at_end = Unit {0}
Stands AsValue (Against o a) at_end = Unit {0}
Stands AsValue (Given o a) at_end = Unit {0}
Stands AsValue (Filling a) at_end = Unit {0}
Stands AsValue (Keying o a) at_end = Unit {0}
Stands AsValue (Interpolating a) at_end = at_end ≡ false
Stands AsValue (Following o a) at_end = Unit {0}
Stands AsValue (Branching a) at_end = Unit {0}
Stands AsValue (Failing a b) at_end = Unit {0}
Stands AsValue (Storing o a) at_end = Unit {0}
Stands AsValue (Fielding c a) at_end = Unit {0}
Stands c l at_end = ⊥

-- what may be updated may be assigned to
pub target_stands : (l : Lead) (o : Bool) → Stands AsUpdated l o → Stands AsTarget l o
target_stands (Member false) o s = tt
target_stands (Keyed false) o s = tt
target_stands (Keying false a) o s = tt
target_stands l o s = absurd s

abbrev pub Well : Asked → List Step → Type 0
Well AsValue [] = Unit {0}
Well c [] = ⊥
Well c (s ∷ ss) = Stands c s.lead (is_end ss) × Well (asked_below (head_of s.lead) c (place 0 (before s.lead))) ss

abbrev pub Spared : Name → List Step → Type 0
Spared x [] = Unit {0}
Spared x (s ∷ ss) = ((any_names x (before s.lead) ≡ false) × (any_names x s.rest ≡ false)) × Spared x ss

-- each of these, from a place on, may be evaluated before r
abbrev pub AllPass : Gathered → Tree → Shape → ℕ → Trees → Type 0
AllPass m r h i none = Unit {0}
AllPass m r h i (t ▸ ts) = (passes_at m r h i t ≡ true) × AllPass m r h (suc i) ts

-- it is evaluated whatever they are, or nothing is lost
abbrev pub Sure : Gathered → Tree → Lead → Type 0
Sure m r l = (is_constant r || surely m (is_effect_free r) l) ≡ true

-- r may stand there
abbrev pub suited : Tree → Lead → Bool → Bool
suited r Minus at_end = not at_end || not (is_number_shape (shape_of r))
suited r Typing at_end = not at_end || is_typed_by_value r
suited r (Called o) at_end = not at_end || is_called_by_value r
suited r Linking at_end = is_calm r
suited r l at_end = true

abbrev pub Suited : Tree → List Step → Type 0
Suited r [] = Unit {0}
Suited r (s ∷ ss) = (suited r s.lead (is_end ss) ≡ true) × Suited r ss

-- r ends no chain that stands there
abbrev pub whole : Tree → Lead → Bool
whole r Linking = is_calm r
whole r l = true

pub suited_whole : (r : Tree) (l : Lead) (b : Bool) → suited r l b ≡ true → whole r l ≡ true
suited_whole r Linking b e = e
suited_whole r l b e = refl

-- no direct eval reads it, and what a chain holds is a link
abbrev pub indirect : Lead → Tree → Bool
indirect (Called o) t = not (is_eval_callee t)
indirect Linking t = not (is_childless t)
indirect l t = true

abbrev pub Indirect : Tree → List Step → Type 0
Indirect u [] = Unit {0}
Indirect u (s ∷ ss) = (indirect s.lead (found ss u) ≡ true) × Indirect u ss

-- what may be read of a name, and of r in its place, by their values: what is called, and what `typeof` reads
pub record End : Type 0 where
  pub called : Bool
  pub typed : Bool

abbrev pub free : End
free = record { called = true; typed = true }

-- of a name with this spelling
abbrev pub end_at : List ℕ → Tree → End
end_at spelling r = record { called = not (same_text spelling (codes "eval")) && is_called_by_value r; typed = is_typed_by_value r }

-- of what isn't the name itself all of it
abbrev pub end_of : List ℕ → Tree → List Step → End
end_of spelling r [] = end_at spelling r
end_of spelling r (s ∷ ss) = free

abbrev pub Allows : Lead → End → Type 0
Allows (Called o) b = b.called ≡ true
Allows Linking b = b.called ≡ true
Allows Typing b = b.typed ≡ true
Allows l b = Unit {0}

allows_end : (y : Name) (r : Tree) (l : Lead) → suited r l true ≡ true → indirect l (identifier y) ≡ true → Allows l (end_at y.spelling r)
allows_end y r (Called o) e f = ap (λ b. b && is_called_by_value r) f ∙ e
allows_end y r Linking e f = absurd (true≢false (sym f))
allows_end y r Typing e f = e
allows_end y r l e f = tt

allows_free : (l : Lead) → Allows l free
allows_free (Called o) = refl
allows_free Linking = refl
allows_free Typing = refl
allows_free l = tt

pub allows : (y : Name) (r : Tree) (l : Lead) (ss : List Step) → suited r l (is_end ss) ≡ true → indirect l (found ss (identifier y)) ≡ true → Allows l (end_of y.spelling r ss)
allows y r l [] e f = allows_end y r l e f
allows y r l (s ∷ ss) e f = allows_free l

-- what is evaluated before the read of a name with this spelling may be evaluated before r, which may stand there
abbrev pub PassedIn : Gathered → Tree → List ℕ → List Step → Type 0
PassedIn m r spelling [] = Unit {0}
PassedIn m r spelling (s ∷ ss) = (AllPass m r (shape_by (head_of s.lead)) 0 (before s.lead) × Sure m r s.lead × Allows s.lead (end_of spelling r ss) × (whole r s.lead ≡ true)) × PassedIn (gathered_below m (shape_by (head_of s.lead)) (place 0 (before s.lead))) r spelling ss

abbrev pub Passed : Tree → List ℕ → List Step → Type 0
Passed = PassedIn OfValues

-- ---- a tree as such a path

pub record Path (x : Name) (c : Asked) (t : Tree) : Type 0 where
  pub steps : List Step
  pub read : Name
  pub well : Well c steps
  pub spared : Spared x steps
  pub same : is_same x.symbol read.symbol ≡ true
  pub direct : Indirect (identifier read) steps
  pub is : t ≡ found steps (identifier read)
  pub puts : (r : Tree) → put_first x r t ≡ led steps r
  pub ends : is_end steps ≡ is_childless t
  pub passed_in : (m : Gathered) (r : Tree) → are_passed_in x m r t ≡ true → PassedIn m r read.spelling steps
  pub suit_in : (m : Gathered) (r : Tree) → are_passed_in x m r t ≡ true → Suited r steps

abbrev asked : Bool → Asked
asked true = AsValues
asked false = AsValue

abbrev is_empty : Trees → Bool
is_empty none = true
is_empty (t ▸ ts) = false

-- what is assigned to
abbrev IsTarget : Asked → Type 0
IsTarget c = (c ≡ AsTarget) ⊎ (c ≡ AsUpdated)

-- the part is read as an expression or a list of them, or is a member that is assigned to
abbrev Reads : Tree → Asked → Bool → Type 0
Reads t c b = (c ≡ asked b) ⊎ ((is_member t ≡ true) × (b ≡ false) × IsTarget c)

target_of : (o : AssignmentOperator) → IsTarget (target_asked o)
target_of Assign = inl refl
target_of o = inr refl

bare_leaf : (h : Shape) (ys : List Name) (n : ℕ) → is_bare (node h ys n none) 2 ≡ true → ⊥
bare_leaf h [] zero e = true≢false (sym e)
bare_leaf h [] (suc n) e = true≢false (sym e)
bare_leaf h (y ∷ ys) n e = true≢false (sym e)

no_leaf : (t : Tree) → is_member t ≡ true → is_childless t ≡ false
no_leaf (node h ys n (a ▸ ts)) e = refl
no_leaf (node h ys n none) e = absurd (bare_leaf h ys n (and_parts (is_member_shape h) (is_bare (node h ys n none) 2) e).1)

record Leads (b : Bool) (t : Tree) (h : Shape) (ts : Trees) : Type 0 where
  lead : Lead
  is_short : Bool
  is : shape_by (found_head (is_short && is_childless t) lead) ≡ h
  full : in_full h ≡ shape_by (head_of lead)
  front : before lead ≡ ts
  stands : Stands (asked b) lead (is_childless t)
  below : Reads t (asked_below (head_of lead) (asked b) (place 0 (before lead))) (holds_list h (place 0 ts))
  direct : indirect lead t ≡ true
  sure : (m : Gathered) (f : Bool) → (is_placed m f h && (is_sure f h || is_empty ts)) ≡ true → surely m f lead ≡ true
  suit : (x : Name) (r : Tree) (us : Trees) → names x t ≡ true → suits x r h (append ts (t ▸ us)) ≡ true → suited r lead (is_childless t) ≡ true

sure_there : (a : Bool) → (a || false) ≡ true → a ≡ true
sure_there true e = refl
sure_there false e = e

-- an entry, where it is placed
placed_there : (a b : Bool) → (a && b) ≡ true → a ≡ true
placed_there a b e = (and_parts a b e).0

placed_further : (a b : Bool) → (a && (b || false)) ≡ true → (b && a) ≡ true
placed_further true b e = turned b e
  where
    turned : (b : Bool) → (b || false) ≡ true → (b && true) ≡ true
    turned true e = refl
    turned false e = e
placed_further false b e = absurd (true≢false (sym e))

suit_there : (a b c : Bool) → b ≡ true → ((not (a && b) || c) && true) ≡ true → (not a || c) ≡ true
suit_there true b c n e = ap (λ d. not d || c) (sym n) ∙ (and_parts (not b || c) true e).0
suit_there false b c n e = refl

not_leaf : (c : Bool) → not c ≡ true → c ≡ false
not_leaf true e = absurd (true≢false (sym e))
not_leaf false e = refl

optional_there : (o f : Bool) → ((not o || f) || false) ≡ true → (not o || f) ≡ true
optional_there o f e = sure_there (not o || f) e

begun_by : (t : Tree) (h : Shape) → begins h t ≡ true → Leads false t h none
begun_by t (shape.UnaryExpression LogicalNot) e = record { lead = Not; is_short = false; is = refl; full = refl; front = refl; stands = tt; below = inl refl; direct = refl; sure = λ m f q. refl; suit = λ x r us n e. refl }
begun_by t (shape.UnaryExpression UnaryPlus) e = record { lead = Plus; is_short = false; is = refl; full = refl; front = refl; stands = tt; below = inl refl; direct = refl; sure = λ m f q. refl; suit = λ x r us n e. refl }
begun_by t (shape.UnaryExpression UnaryNegation) e = record { lead = Minus; is_short = false; is = refl; full = refl; front = refl; stands = tt; below = inl refl; direct = refl; sure = λ m f q. refl; suit = λ x r us n e. suit_there (is_childless t) (names x t) (not (is_number_shape (shape_of r))) n e }
begun_by t (shape.UnaryExpression BitwiseNot) e = record { lead = Tilde; is_short = false; is = refl; full = refl; front = refl; stands = tt; below = inl refl; direct = refl; sure = λ m f q. refl; suit = λ x r us n e. refl }
begun_by t (shape.UnaryExpression Typeof) e = record { lead = Typing; is_short = false; is = refl; full = refl; front = refl; stands = tt; below = inl refl; direct = refl; sure = λ m f q. refl; suit = λ x r us n e. suit_there (is_childless t) (names x t) (is_typed_by_value r) n e }
begun_by t (shape.UnaryExpression Void) e = record { lead = Emptying; is_short = false; is = refl; full = refl; front = refl; stands = tt; below = inl refl; direct = refl; sure = λ m f q. refl; suit = λ x r us n e. refl }
begun_by t (shape.BinaryExpression o) e = record { lead = Beside o; is_short = false; is = refl; full = refl; front = refl; stands = tt; below = inl refl; direct = refl; sure = λ m f q. refl; suit = λ x r us n e. refl }
begun_by t (shape.LogicalExpression o) e = record { lead = Deciding o; is_short = false; is = refl; full = refl; front = refl; stands = tt; below = inl refl; direct = refl; sure = λ m f q. refl; suit = λ x r us n e. refl }
begun_by t shape.ConditionalExpression e = record { lead = Choosing; is_short = false; is = refl; full = refl; front = refl; stands = tt; below = inl refl; direct = refl; sure = λ m f q. refl; suit = λ x r us n e. refl }
begun_by t shape.SequenceExpression e = record { lead = Passing; is_short = false; is = refl; full = refl; front = refl; stands = tt; below = inl refl; direct = refl; sure = λ m f q. refl; suit = λ x r us n e. refl }
begun_by t (shape.CallExpression o) e = record { lead = Called o; is_short = false; is = refl; full = refl; front = refl; stands = tt; below = inl refl; direct = e; sure = λ m f q. refl; suit = λ x r us n e. suit_there (is_childless t) (names x t) (is_called_by_value r) n e }
begun_by t shape.NewExpression e = record { lead = Making; is_short = false; is = refl; full = refl; front = refl; stands = tt; below = inl refl; direct = refl; sure = λ m f q. refl; suit = λ x r us n e. refl }
begun_by t shape.ArrayExpression e = record { lead = Holding; is_short = false; is = refl; full = refl; front = refl; stands = tt; below = inl refl; direct = refl; sure = λ m f q. refl; suit = λ x r us n e. refl }
begun_by t shape.ObjectExpression e = record { lead = Gathering; is_short = false; is = refl; full = refl; front = refl; stands = tt; below = inl refl; direct = refl; sure = λ m f q. refl; suit = λ x r us n e. refl }
begun_by t shape.SpreadElement e = record { lead = Spreading; is_short = false; is = refl; full = refl; front = refl; stands = tt; below = inl refl; direct = refl; sure = λ m f q. placed_there (of_entries m || f) true q; suit = λ x r us n e. refl }
begun_by t (shape.ObjectProperty Init false false true) e = record { lead = Bracketing; is_short = false; is = refl; full = refl; front = refl; stands = tt; below = inl refl; direct = refl; sure = λ m f q. placed_there (of_entries m || f) true q; suit = λ x r us n e. refl }
begun_by t (shape.YieldExpression d) e = record { lead = Waiting d; is_short = false; is = refl; full = refl; front = refl; stands = tt; below = inl refl; direct = refl; sure = λ m f q. refl; suit = λ x r us n e. refl }
begun_by t (shape.StaticMemberExpression o) e = record { lead = Member o; is_short = false; is = refl; full = refl; front = refl; stands = tt; below = inl refl; direct = refl; sure = λ m f q. refl; suit = λ x r us n e. refl }
begun_by t shape.ChainExpression e = record { lead = Linking; is_short = false; is = refl; full = refl; front = refl; stands = not_leaf (is_childless t) e; below = inl refl; direct = e; sure = λ m f q. refl; suit = λ x r us n e. (and_parts (not (is_childless t && names x t) || true) (is_calm r) e).1 }
begun_by t (shape.ComputedMemberExpression o) e = record { lead = Keyed o; is_short = false; is = refl; full = refl; front = refl; stands = tt; below = inl refl; direct = refl; sure = λ m f q. refl; suit = λ x r us n e. refl }
begun_by t (shape.AssignmentExpression o) e = record { lead = Targeted o; is_short = false; is = refl; full = refl; front = refl; stands = no_leaf t e; below = inr (e, refl, target_of o); direct = refl; sure = λ m f q. refl; suit = λ x r us n e. refl }
begun_by t (shape.UpdateExpression o p) e = record { lead = Changing o p; is_short = false; is = refl; full = refl; front = refl; stands = no_leaf t e; below = inr (e, refl, inr refl); direct = refl; sure = λ m f q. refl; suit = λ x r us n e. refl }
begun_by t h e = absurd (true≢false (sym e))

gone_on_by : (t : Tree) (h : Shape) (a : Tree) (us : Trees) → (has_arguments h ≡ true → is_childless t ≡ false) → can_be_full (node h [] 0 (a ▸ (t ▸ us))) ≡ true → (goes_on h || may_go_on h) ≡ true → Leads false t h (a ▸ none)
gone_on_by t (shape.BinaryExpression o) a us w k e = record { lead = Against o a; is_short = false; is = refl; full = refl; front = refl; stands = tt; below = inl refl; direct = refl; sure = λ m f q. refl; suit = λ x r us n e. refl }
gone_on_by t (shape.CallExpression o) a us w k e = record { lead = Given o a; is_short = false; is = refl; full = refl; front = refl; stands = tt; below = inl refl; direct = refl; sure = λ m f q. optional_there o f q; suit = λ x r us n e. refl }
gone_on_by t shape.NewExpression a us w k e = record { lead = Filling a; is_short = false; is = refl; full = refl; front = refl; stands = tt; below = inl refl; direct = refl; sure = λ m f q. refl; suit = λ x r us n e. refl }
gone_on_by t (shape.ComputedMemberExpression o) a us w k e = record { lead = Keying o a; is_short = false; is = refl; full = refl; front = refl; stands = tt; below = inl refl; direct = refl; sure = λ m f q. optional_there o f q; suit = λ x r us n e. refl }
gone_on_by t shape.TemplateLiteral a us w k e = record { lead = Interpolating a; is_short = false; is = refl; full = refl; front = refl; stands = w refl; below = inl refl; direct = refl; sure = λ m f q. refl; suit = λ x r us n e. refl }
gone_on_by t (shape.LogicalExpression o) a us w k e = record { lead = Following o a; is_short = false; is = refl; full = refl; front = refl; stands = tt; below = inl refl; direct = refl; sure = λ m f q. sure_there f q; suit = λ x r us n e. refl }
gone_on_by t shape.ConditionalExpression a us w k e = record { lead = Branching a; is_short = false; is = refl; full = refl; front = refl; stands = tt; below = inl refl; direct = refl; sure = λ m f q. sure_there f q; suit = λ x r us n e. refl }
gone_on_by t (shape.AssignmentExpression o) a us w k e = record { lead = Storing o a; is_short = false; is = refl; full = refl; front = refl; stands = tt; below = inl refl; direct = refl; sure = λ m f q. sure_there (is_plain_assignment o || f) q; suit = λ x r us n e. refl }
gone_on_by t (shape.ObjectProperty Init false false d) a us w k e = record { lead = Fielding d a; is_short = false; is = refl; full = refl; front = refl; stands = tt; below = inl refl; direct = refl; sure = λ m f q. placed_further (of_entries m || f) (not d) q; suit = λ x r us n e. refl }
gone_on_by t (shape.ObjectProperty Init false true false) a us w k e =
    let (own, bare) = and_parts (is_own_key a) (is_childless t) (and_parts (is_bare (node (shape.ObjectProperty Init false true false) [] 0 (a ▸ (t ▸ us))) 2) (is_own_key a && is_childless t) k).1 in
    record {
      lead = Fielding false a;
      is_short = true;
      is = ap (λ b. shape_by (found_head b (Fielding false a))) bare ∙ ap (λ b. shape_by (Property b false)) own;
      full = refl;
      front = refl;
      stands = tt;
      below = inl refl;
      direct = refl;
      sure = λ m f q. placed_further (of_entries m || f) true q;
      suit = λ x r us n e. refl;
    }
gone_on_by t h a us w k e = absurd (true≢false (sym e))

branched_by : (t : Tree) (h : Shape) (a b : Tree) → has_branches h ≡ true → Leads false t h (a ▸ (b ▸ none))
branched_by t shape.ConditionalExpression a b e = record { lead = Failing a b; is_short = false; is = refl; full = refl; front = refl; stands = tt; below = inl refl; direct = refl; sure = λ m f q. sure_there f q; suit = λ x r us n e. refl }
branched_by t h a b e = absurd (true≢false (sym e))

place_next : (i : ℕ) (ts : Trees) → place (suc i) ts ≡ suc (place i ts)
place_next i none = refl
place_next i (t ▸ ts) = place_next (suc i) ts

no_later : (h : Shape) (c : Tree) (i : ℕ) → leads false h (suc (suc (suc i))) c ≡ true → ⊥
no_later h c i e = true≢false (sym e)

no_list_of : (i : ℕ) → holds_list shape.Listed i ≡ false
no_list_of zero = refl
no_list_of (suc i) = refl

lead_by : (b : Bool) (t : Tree) (h : Shape) (ts us : Trees) → (holds_list h (place 0 ts) ≡ true → is_childless t ≡ false) → can_be_full (node h [] 0 (append ts (t ▸ us))) ≡ true → leads b h (place 0 ts) t ≡ true → Leads b t h ts
lead_by true t shape.Listed ts us w k e = record { lead = Listing ts; is_short = false; is = refl; full = refl; front = refl; stands = tt; below = inl (ap asked (sym (no_list_of (place 0 ts)))); direct = refl; sure = λ m f q. refl; suit = λ x r us n e. refl }
lead_by true t h ts us w k e = absurd (true≢false (sym e))
lead_by false t h none us w k e = begun_by t h e
lead_by false t h (a ▸ none) us w k e = gone_on_by t h a us w k e
lead_by false t h (a ▸ (b ▸ none)) us w k e = branched_by t h a b e
lead_by false t h (a ▸ (b ▸ (d ▸ ts))) us w k e = absurd (no_later h t (place 0 ts) (sym (ap (λ i. leads false h i t) (place_next 2 ts ∙ ap suc (place_next 1 ts ∙ ap suc (place_next 0 ts)))) ∙ e))

not_true : (b : Bool) → not b ≡ true → b ≡ false
not_true true e = absurd (true≢false (sym e))
not_true false e = refl

read_is : (x : Name) (t : Tree) → reads x t ≡ true → (y : Name) × (t ≡ identifier y) × (is_same x.symbol y.symbol ≡ true)
read_is x (node shape.Identifier (y ∷ []) zero none) e = (y, refl, e)
read_is x t e = absurd (true≢false (sym e))

-- of some parts, from a place on, the one that reads it
record Among (x : Name) (b : Bool) (h : Shape) (i : ℕ) (ts : Trees) : Type 0 where
  first : Trees
  one : Tree
  rest : Trees
  is : ts ≡ append first (one ▸ rest)
  earlier : any_names x first ≡ false
  later : any_names x rest ≡ false
  leads : leads b h (place i first) one ≡ true
  mentions : names x one ≡ true
  path : Path x (asked (holds_list h (place i first))) one
  puts : (r : Tree) → put_among x r ts ≡ append first (put_first x r one ▸ rest)
  passed : (m : Gathered) (r : Tree) → all_passed x m r h i ts ≡ true → AllPass m r h i first × (are_passed_in x (gathered_below m h (place i first)) r one ≡ true)

this_one : (x : Name) (b : Bool) (h : Shape) (i : ℕ) (t : Tree) (ts : Trees) → names x t ≡ true → leads b h i t ≡ true → Path x (asked (holds_list h i)) t → any_names x ts ≡ false → Among x b h i (t ▸ ts)
this_one x b h i t ts n l p f = record {
  first = none;
  one = t;
  rest = ts;
  is = refl;
  earlier = refl;
  later = f;
  leads = l;
  mentions = n;
  path = p;
  puts = λ r. ap (λ c. if c then put_first x r t ▸ ts else t ▸ put_among x r ts) n;
  passed = λ m r e. (tt, sym (ap (λ c. if c then are_passed_in x (gathered_below m h i) r t else (passes_at m r h i t && all_passed x m r h (suc i) ts)) n) ∙ e);
}

later_one : (x : Name) (b : Bool) (h : Shape) (i : ℕ) (t : Tree) (ts : Trees) → names x t ≡ false → Among x b h (suc i) ts → Among x b h i (t ▸ ts)
later_one x b h i t ts n a = record {
  first = t ▸ a.first;
  one = a.one;
  rest = a.rest;
  is = ap (λ us. t ▸ us) a.is;
  earlier = ap (λ c. c || any_names x a.first) n ∙ a.earlier;
  later = a.later;
  leads = a.leads;
  mentions = a.mentions;
  path = a.path;
  puts = λ r. ap (λ c. if c then put_first x r t ▸ ts else t ▸ put_among x r ts) n ∙ ap (λ us. t ▸ us) (a.puts r);
  passed = λ m r e.
      let (p, q) = and_parts (passes_at m r h i t) (all_passed x m r h (suc i) ts) (sym (ap (λ c. if c then are_passed_in x (gathered_below m h i) r t else (passes_at m r h i t && all_passed x m r h (suc i) ts)) n) ∙ e) in
      let (f, g) = a.passed m r q in
      ((p, f), g);
}

pub or_true : (a b : Bool) → b ≡ true → (a || b) ≡ true
or_true true b e = refl
or_true false b e = e

first_true : (a b : Bool) → a ≡ true → (a || b) ≡ true
first_true true b e = refl
first_true false b e = absurd (true≢false (sym e))

-- where the first part is it, nothing stands before
at_front : (x : Name) (a : Bool) (first : Trees) (one : Tree) (rest : Trees) → any_names x first ≡ false → (a || begins_with x (append first (one ▸ rest))) ≡ true → (a || is_empty first) ≡ true
at_front x true first one rest n e = refl
at_front x false none one rest n e = refl
at_front x false (p ▸ ps) one rest n e = absurd (true≢false (sym (first_true (names x p) (any_names x ps) e) ∙ n))

sure_by : (x : Name) (m : Gathered) (r : Tree) (h : Shape) (first : Trees) (one : Tree) (rest : Trees) (s : Bool) → any_names x first ≡ false → ((is_placed m (is_effect_free r) h && (is_sure (is_effect_free r) h || is_empty first)) ≡ true → s ≡ true) → is_reached x m r h (append first (one ▸ rest)) ≡ true → (is_constant r || s) ≡ true
sure_by x m r h first one rest s n f e = by (is_constant r) e
  where
    by : (c : Bool) → (c || (is_placed m (is_effect_free r) h && (is_sure (is_effect_free r) h || begins_with x (append first (one ▸ rest))))) ≡ true → (c || s) ≡ true
    by true e = refl
    by false e =
        let (p, q) = and_parts (is_placed m (is_effect_free r) h) (is_sure (is_effect_free r) h || begins_with x (append first (one ▸ rest))) e in
        f ((λ k. p k && (is_sure (is_effect_free r) h || is_empty first)) ∙ at_front x (is_sure (is_effect_free r) h) first one rest n q)

-- what is asked of the parts of a node
record Parted (x : Name) (m : Gathered) (r : Tree) (h : Shape) (ts : Trees) : Type 0 where
  suit : suits x r h ts ≡ true
  reached : is_reached x m r h ts ≡ true
  all : all_passed x m r h 0 ts ≡ true

parted : (x : Name) (m : Gathered) (r : Tree) (h : Shape) (ts : Trees) → suits x r h ts && (is_reached x m r h ts && all_passed x m r h 0 ts) ≡ true → Parted x m r h ts
parted x m r h ts e =
    let (p, q) = and_parts (suits x r h ts) (is_reached x m r h ts && all_passed x m r h 0 ts) e in
    let (a, b) = and_parts (is_reached x m r h ts) (all_passed x m r h 0 ts) q in
    record { suit = p; reached = a; all = b }

-- a member that is read as an expression may be what is assigned to
member_leads : (l : Lead) (ss : List Step) (b : Bool) → is_member_shape (shape_by (head_of l)) ≡ true → Stands AsValue l b × Well (asked_below (head_of l) AsValue (place 0 (before l))) ss → (Stands AsTarget l b × Well (asked_below (head_of l) AsTarget (place 0 (before l))) ss) × (Stands AsUpdated l b × Well (asked_below (head_of l) AsUpdated (place 0 (before l))) ss)
member_leads (Member false) ss b m w = (w, w)
member_leads (Keyed false) ss b m w = (w, w)
member_leads (Keying false a) ss b m w = (w, w)
member_leads l ss b m w = absurd (true≢false (sym m))

found_member : (b : Bool) (l : Lead) → is_member_shape (shape_by (found_head b l)) ≡ true → is_member_shape (shape_by (head_of l)) ≡ true
found_member = by_front (λ l h. is_member_shape (shape_by h) ≡ true → is_member_shape (shape_by (head_of l)) ≡ true) (λ l e. e) (λ a e f. absurd (true≢false (sym f)))

member_well : (ss : List Step) (y : Name) (c : Asked) → IsTarget c → is_member (found ss (identifier y)) ≡ true → Well AsValue ss → Well c ss
member_well [] y c h e w = absurd (true≢false (sym e))
member_well (s ∷ ss) y c h e w =
    let b = ends_short s ss in
    let (target, updated) = member_leads s.lead ss (is_end ss) (found_member b s.lead (and_parts (is_member_shape (shape_by (found_head b s.lead))) (is_bare (found (s ∷ ss) (identifier y)) 2) e).0) w in
    by h target updated
  where
    by : IsTarget c → Well AsTarget (s ∷ ss) → Well AsUpdated (s ∷ ss) → Well c (s ∷ ss)
    by (inl e) target updated = subst (λ d. Well d (s ∷ ss)) (sym e) target
    by (inr e) target updated = subst (λ d. Well d (s ∷ ss)) (sym e) updated

well_below : (x : Name) (b : Bool) (t : Tree) (c : Asked) (p : Path x (asked b) t) → Reads t c b → Well c p.steps
well_below x b t c p (inl e) = subst (λ d. Well d p.steps) (sym e) p.well
well_below x b t c p (inr r) = member_well p.steps p.read c r.2 (ap is_member (sym p.is) ∙ r.0) (subst (λ d. Well (asked d) p.steps) r.1 p.well)

-- in full it is asked and passed the same
full_passes : (m : Gathered) (r : Tree) (h : Shape) (i : ℕ) (t : Tree) → passes_at m r (in_full h) i t ≡ passes_at m r h i t
full_passes m r (shape.ObjectProperty Init false true false) i t = refl
full_passes m r h i t = refl

all_pass_full : (m : Gathered) (r : Tree) (h : Shape) (i : ℕ) (ts : Trees) → AllPass m r h i ts → AllPass m r (in_full h) i ts
all_pass_full m r h i none a = tt
all_pass_full m r h i (t ▸ ts) a = (full_passes m r h i t ∙ a.0, all_pass_full m r h (suc i) ts a.1)

full_entries : (m : Gathered) (h : Shape) (i : ℕ) → gathered_below m h i ≡ gathered_below m (in_full h) i
full_entries m (shape.ObjectProperty Init false true false) i = refl
full_entries m h i = refl

-- a list is no read
no_end : (x : Name) (b : Bool) (t : Tree) → Path x (asked b) t → b ≡ true → is_childless t ≡ false
no_end x b t p e = by p.steps (subst (λ c. Well (asked c) p.steps) e p.well) p.ends
  where
    by : (ss : List Step) → Well AsValues ss → is_end ss ≡ is_childless t → is_childless t ≡ false
    by [] w e = absurd w
    by (s ∷ ss) w e = sym e

one_step : (x : Name) (b : Bool) (h : Shape) (t : Tree) (ts : Trees) → can_be_full (node h [] 0 (t ▸ ts)) ≡ true → Among x b h 0 (t ▸ ts) → Path x (asked b) (node h [] 0 (t ▸ ts))
one_step x b h t ts full a =
    let l = lead_by b a.one h a.first a.rest (λ q. no_end x (holds_list h (place 0 a.first)) a.one a.path q) (sym (ap (λ us. can_be_full (node h [] 0 us)) a.is) ∙ full) a.leads in
    let p = a.path in
    let step : Step = record { lead = l.lead; rest = a.rest; is_short = l.is_short } in
    let direct : indirect l.lead (found p.steps (identifier p.read)) ≡ true = ap (indirect l.lead) (sym p.is) ∙ l.direct in
    let suit : (r : Tree) → suits x r h (append a.first (a.one ▸ a.rest)) ≡ true → suited r l.lead (is_end p.steps) ≡ true = λ r e. ap (suited r l.lead) p.ends ∙ l.suit x r a.rest a.mentions e in
    let as_found : h ≡ shape_by (found_head (l.is_short && is_end p.steps) l.lead) = sym (ap (λ c. shape_by (found_head (l.is_short && c) l.lead)) p.ends ∙ l.is) in
    let along : (r u : Tree) → u ≡ found p.steps r → node h [] 0 (append a.first (u ▸ a.rest)) ≡ found (step ∷ p.steps) r = λ r u e k. node (as_found k) [] 0 (append (sym l.front k) (e k ▸ a.rest)) in
    let along_full : (r u : Tree) → u ≡ led p.steps r → node (in_full h) [] 0 (append a.first (u ▸ a.rest)) ≡ led (step ∷ p.steps) r = λ r u e k. node (l.full k) [] 0 (append (sym l.front k) (e k ▸ a.rest)) in
    record {
      steps = step ∷ p.steps;
      read = p.read;
      well = (subst (Stands (asked b) l.lead) (sym p.ends) l.stands, well_below x (holds_list h (place 0 a.first)) a.one (asked_below (head_of l.lead) (asked b) (place 0 (before l.lead))) p l.below);
      spared = ((ap (any_names x) l.front ∙ a.earlier, a.later), p.spared);
      same = p.same;
      direct = (direct, p.direct);
      is = ap (node h [] 0) a.is ∙ along (identifier p.read) a.one p.is;
      puts = λ r. ap (node (in_full h) [] 0) (a.puts r) ∙ along_full r (put_first x r a.one) (p.puts r);
      ends = refl;
      passed_in = λ m r e.
          let d = parted x m r h (t ▸ ts) e in
          let (f, g) = a.passed m r d.all in
          let sure = sure_by x m r h a.first a.one a.rest (surely m (is_effect_free r) l.lead) a.earlier (l.sure m (is_effect_free r)) (subst (λ us. is_reached x m r h us ≡ true) a.is d.reached) in
          let there = allows p.read r l.lead p.steps (suit r (subst (λ us. suits x r h us ≡ true) a.is d.suit)) direct in
          let passing = subst₂ (λ k us. AllPass m r k 0 us) l.full (sym l.front) (all_pass_full m r h 0 a.first f) in
          let further = subst (λ n. PassedIn n r p.read.spelling p.steps) (full_entries m h (place 0 a.first)) (p.passed_in (gathered_below m h (place 0 a.first)) r g) in
          ((passing, sure, there, suited_whole r l.lead (is_end p.steps) (suit r (subst (λ us. suits x r h us ≡ true) a.is d.suit))), subst₂ (λ k us. PassedIn (gathered_below m k (place 0 us)) r p.read.spelling p.steps) l.full (sym l.front) further);
      suit_in = λ m r e.
          let d = parted x m r h (t ▸ ts) e in
          let (f, g) = a.passed m r d.all in
          (suit r (subst (λ us. suits x r h us ≡ true) a.is d.suit), p.suit_in (gathered_below m h (place 0 a.first)) r g);
    }

mutual
  pub path : (x : Name) (b : Bool) (t : Tree) → is_first x b t ≡ true → Path x (asked b) t
  path x true (node h ys n none) e = absurd (true≢false (sym e))
  path x false (node h ys n none) e =
      let (y, is, same) = read_is x (node h ys n none) e in
      record { steps = []; read = y; well = tt; spared = tt; same = same; direct = tt; is = is; puts = λ r. refl; ends = refl; passed_in = λ m r e. tt; suit_in = λ m r e. tt }
  path x b (node h [] zero (t ▸ ts)) e = let (f, g) = and_parts (can_be_full (node h [] 0 (t ▸ ts))) (leads_to x b h 0 (t ▸ ts)) e in one_step x b h t ts f (among x b h 0 (t ▸ ts) g)
  path x b (node h [] (suc n) (t ▸ ts)) e = absurd (true≢false (sym e))
  path x b (node h (y ∷ ys) n (t ▸ ts)) e = absurd (true≢false (sym e))

  among : (x : Name) (b : Bool) (h : Shape) (i : ℕ) (ts : Trees) → leads_to x b h i ts ≡ true → Among x b h i ts
  among x b h i none e = absurd (true≢false (sym e))
  among x b h i (t ▸ ts) e = by (names x t) refl e (path x (holds_list h i) t) (among x b h (suc i) ts)
    where
      by : (c : Bool) → names x t ≡ c → (if c then (leads b h i t && (is_first x (holds_list h i) t && not (any_names x ts))) else leads_to x b h (suc i) ts) ≡ true → (is_first x (holds_list h i) t ≡ true → Path x (asked (holds_list h i)) t) → (leads_to x b h (suc i) ts ≡ true → Among x b h (suc i) ts) → Among x b h i (t ▸ ts)
      by true n e f g =
          let (l, p) = and_parts (leads b h i t) (is_first x (holds_list h i) t && not (any_names x ts)) e in
          let (q, o) = and_parts (is_first x (holds_list h i) t) (not (any_names x ts)) p in
          this_one x b h i t ts n l (f q) (not_true (any_names x ts) o)
      by false n e f g = later_one x b h i t ts n (g e)

-- what it reads it mentions
mutual
  pub mentioned : (x : Name) (b : Bool) (t : Tree) → is_first x b t ≡ true → names x t ≡ true
  mentioned x b (node h [] n none) e = absurd (true≢false (sym (and_parts (is_identifier (node h [] n none)) false (and_parts (not b) (reads x (node h [] n none)) e).1).1))
  mentioned x b (node h (y ∷ ys) n none) e =
      let same = (and_parts (is_identifier (node h (y ∷ ys) n none)) (is_same x.symbol y.symbol) (and_parts (not b) (reads x (node h (y ∷ ys) n none)) e).1).1 in
      first_true (is_like_one x (y ∷ ys)) false (first_true (same_text x.spelling y.spelling || is_same x.symbol y.symbol) (is_like_one x ys) (or_true (same_text x.spelling y.spelling) (is_same x.symbol y.symbol) same))
  mentioned x b (node h ys n (t ▸ ts)) e = or_true (is_like_one x ys) (any_names x (t ▸ ts)) (any_mentioned x b h 0 (t ▸ ts) (and_parts (may_hold (node h ys n (t ▸ ts))) (leads_to x b h 0 (t ▸ ts)) e).1)

  any_mentioned : (x : Name) (b : Bool) (h : Shape) (i : ℕ) (ts : Trees) → leads_to x b h i ts ≡ true → any_names x ts ≡ true
  any_mentioned x b h i none e = absurd (true≢false (sym e))
  any_mentioned x b h i (t ▸ ts) e = by (names x t) e (any_mentioned x b h (suc i) ts)
    where
      by : (c : Bool) → (if c then (leads b h i t && (is_first x (holds_list h i) t && not (any_names x ts))) else leads_to x b h (suc i) ts) ≡ true → (leads_to x b h (suc i) ts ≡ true → any_names x ts ≡ true) → (c || any_names x ts) ≡ true
      by true e f = refl
      by false e f = f e

-- a statement has at least one step
pub record Statement (x : Name) (t : Tree) : Type 0 where
  pub lead : Lead
  pub stands : (b : Bool) → Stands AsWholeItem lead b
  pub front : before lead ≡ none
  pub allows_any : (b : End) → Allows lead b
  pub whole_any : (r : Tree) → whole r lead ≡ true
  pub direct : (u : Tree) → indirect lead u ≡ true
  pub steady : (f : Bool) → surely OfValues f lead ≡ true
  pub low : gathered_below OfValues (shape_by (head_of lead)) 0 ≡ OfValues
  pub below : (c : Asked) → asked_below (head_of lead) c (place 0 (before lead)) ≡ AsValue
  pub inner : Tree
  pub rest : Trees
  pub path : Path x AsValue inner
  pub free : any_names x rest ≡ false
  pub is : t ≡ node (shape_by (head_of lead)) [] 0 (inner ▸ rest)
  pub puts : (r : Tree) → put_first x r t ≡ node (shape_by (head_of lead)) [] 0 (put_first x r inner ▸ rest)
  pub along : (u : Tree) → node (shape_by (head_of lead)) [] 0 (u ▸ rest) ≡ led (record { lead = lead; rest = rest; is_short = false } ∷ []) u
  pub passed : (r : Tree) → are_passed_by_value x r t ≡ true → are_passed_by_value x r inner ≡ true

-- nothing that leads there is shorthand, but as it is found
full_head : (l : Lead) → in_full (shape_by (head_of l)) ≡ shape_by (head_of l)
full_head (Fielding c a) = refl
full_head l = refl

-- of this lead
stated : (x : Name) (l : Lead) (t : Tree) (ts : Trees) → ((b : Bool) → Stands AsWholeItem l b) → before l ≡ none → ((b : End) → Allows l b) → ((r : Tree) → whole r l ≡ true) → ((u : Tree) → indirect l u ≡ true) → ((f : Bool) → surely OfValues f l ≡ true) → gathered_below OfValues (shape_by (head_of l)) 0 ≡ OfValues → ((c : Asked) → asked_below (head_of l) c (place 0 (before l)) ≡ AsValue) → is_first x false t && not (any_names x ts) ≡ true → Statement x (node (shape_by (head_of l)) [] 0 (t ▸ ts))
stated x l t ts s o g w i d k b e =
    let (q, f) = and_parts (is_first x false t) (not (any_names x ts)) e in
    let n = mentioned x false t q in
    record {
      lead = l;
      stands = s;
      front = o;
      allows_any = g;
      whole_any = w;
      direct = i;
      steady = d;
      low = k;
      below = b;
      inner = t;
      rest = ts;
      path = path x false t q;
      free = not_true (any_names x ts) f;
      is = refl;
      puts = λ r. ap (λ h. node h [] 0 (put_among x r (t ▸ ts))) (full_head l) ∙ ap (λ c. node (shape_by (head_of l)) [] 0 (if c then put_first x r t ▸ ts else t ▸ put_among x r ts)) n;
      along = λ u. ap (λ us. node (shape_by (head_of l)) [] 0 (append us (u ▸ ts))) (sym o);
      passed = λ r e. let h = shape_by (head_of l) in sym (ap (λ m. are_passed_in x m r t) k) ∙ sym (ap (λ c. if c then are_passed_in x (gathered_below OfValues h 0) r t else (passes_at OfValues r h 0 t && all_passed x OfValues r h 1 ts)) n) ∙ (parted x OfValues r h (t ▸ ts) e).all;
    }

pub statement : (x : Name) (t : Tree) → reads_first x t ≡ true → Statement x t
statement x (node h ys n none) e = absurd (true≢false (sym e))
statement x (node shape.ExpressionStatement [] zero (t ▸ ts)) e = stated x Doing t ts (λ b. tt) refl (λ b. tt) (λ r. refl) (λ u. refl) (λ f. refl) refl (λ c. refl) e
statement x (node shape.ReturnStatement [] zero (t ▸ ts)) e = stated x Giving t ts (λ b. tt) refl (λ b. tt) (λ r. refl) (λ u. refl) (λ f. refl) refl (λ c. refl) e
statement x (node shape.ThrowStatement [] zero (t ▸ ts)) e = stated x Raising t ts (λ b. tt) refl (λ b. tt) (λ r. refl) (λ u. refl) (λ f. refl) refl (λ c. refl) e
statement x (node shape.IfStatement [] zero (t ▸ ts)) e = stated x Testing t ts (λ b. tt) refl (λ b. tt) (λ r. refl) (λ u. refl) (λ f. refl) refl (λ c. refl) e
statement x t e = absurd (true≢false (sym e))

-- a declaration does in its first initializer
pub record Initial (x : Name) (t : Tree) : Type 0 where
  pub kind : VariableDeclarationKind
  pub binds : Tree
  pub value : Tree
  pub last : Trees
  pub once : is_first x false value ≡ true
  pub other : names x binds ≡ false
  pub later : any_names x last ≡ false
  pub is : t ≡ declaration kind (declarator binds value ▸ last)
  pub puts : (r : Tree) → put_first x r t ≡ declaration kind (declarator binds (put_first x r value) ▸ last)
  pub evaluates : evaluated t ≡ value

no_first : (ts : Trees) → rest_children 0 ts ≡ ts
no_first none = refl
no_first (t ▸ ts) = refl

pub declarator_is : (d : Tree) → is_declarator d ≡ true → d ≡ declarator (part d 0) (part d 1)
declarator_is (node shape.VariableDeclarator [] zero (a ▸ (b ▸ none))) e = refl
declarator_is d e = absurd (true≢false (sym e))

pub a_declaration : (t : Tree) → declares_list t ≡ true → (k : VariableDeclarationKind) × (t ≡ declaration k (children (part t 0)))
a_declaration (node (shape.VariableDeclaration k) [] zero (node shape.Listed [] zero ds ▸ none)) e = (k, refl)
a_declaration (node (shape.VariableDeclaration k) [] zero (u ▸ none)) e = absurd (true≢false (sym e))
a_declaration t e = absurd (true≢false (sym e))

-- the value alone is mentioned there
pub put_initially : (x : Name) (k : VariableDeclarationKind) (binds value : Tree) (ds : Trees) → names x binds ≡ false → names x value ≡ true → (r : Tree) → put_first x r (declaration k (declarator binds value ▸ ds)) ≡ declaration k (declarator binds (put_first x r value) ▸ ds)
put_initially x k binds value ds f n r =
    let D = declarator binds value in
    let L : Tree = listed (D ▸ ds) in
    let one : (names x binds || (names x value || false)) ≡ true = λ i. f i || (n i || false) in
    let list : ((names x binds || (names x value || false)) || any_names x ds) ≡ true = ap (λ c. c || any_names x ds) one in
    let both : put_first x r D ≡ declarator binds (put_first x r value) = λ i. node shape.VariableDeclarator [] 0 (if f i then put_first x r binds ▸ (value ▸ none) else binds ▸ (if n i then put_first x r value ▸ none else value ▸ none)) in
    let inner : put_first x r L ≡ listed (declarator binds (put_first x r value) ▸ ds) = ap (λ c. listed (if c then put_first x r D ▸ ds else D ▸ put_among x r ds)) one ∙ ap (λ u. listed (u ▸ ds)) both in
    ap (λ c. node (shape.VariableDeclaration k) [] 0 (if c then put_first x r L ▸ none else L ▸ none)) list ∙ ap (λ u. node (shape.VariableDeclaration k) [] 0 (u ▸ none)) inner

of_declarators : (x : Name) (k : VariableDeclarationKind) (ds : Trees) → reads_declarators x (listed ds) ≡ true → Initial x (declaration k ds)
of_declarators x k none e = absurd (true≢false (sym e))
of_declarators x k (d ▸ ds) e =
    let (p, q) = and_parts (reads_declarator x d) (not (any_names x (rest_children 0 ds))) e in
    let (n, o) = and_parts (is_declarator d) (is_first x false (part d 1) && not (names x (part d 0))) p in
    let (a, b) = and_parts (is_first x false (part d 1)) (not (names x (part d 0))) o in
    let later = ap (any_names x) (sym (no_first ds)) ∙ not_true (any_names x (rest_children 0 ds)) q in
    let other = not_true (names x (part d 0)) b in
    subst (λ u. Initial x (declaration k (u ▸ ds))) (sym (declarator_is d n))
    (record { kind = k; binds = part d 0; value = part d 1; last = ds; once = a; other = other; later = later; is = refl; puts = λ r. put_initially x k (part d 0) (part d 1) ds other (mentioned x false (part d 1) a) r; evaluates = refl })

pub initially : (x : Name) (t : Tree) → reads_initially x t ≡ true → Initial x t
initially x t e =
    let (d, s) = and_parts (declares_list t) (reads_declarators x (part t 0)) e in
    let (k, is) = a_declaration t d in
    subst (Initial x) (sym is) (of_declarators x k (children (part t 0)) (sym (ap (λ u. reads_declarators x (part u 0)) is) ∙ s))

-- a statement is no declaration
stays : (x : Name) (t : Tree) → reads_first x t ≡ true → evaluated t ≡ t
stays x t e =
    let s = statement x t e in
    ap evaluated s.is ∙ by s.lead (s.stands true) (s.inner ▸ s.rest) ∙ sym s.is
  where
    by : (l : Lead) → Stands AsWholeItem l true → (ts : Trees) → evaluated (node (shape_by (head_of l)) [] 0 ts) ≡ node (shape_by (head_of l)) [] 0 ts
    by Doing s ts = refl
    by Giving s ts = refl
    by Raising s ts = refl
    by Testing s ts = refl
    by l s ts = absurd s

-- an expression is no declaration
leads_nowhere : (x : Name) (k : VariableDeclarationKind) (i : ℕ) (ts : Trees) → leads_to x false (shape.VariableDeclaration k) i ts ≡ false
leads_nowhere x k i none = refl
leads_nowhere x k i (t ▸ ts) = by i (names x t) (leads_nowhere x k (suc i) ts)
  where
    by : (i : ℕ) (c : Bool) → leads_to x false (shape.VariableDeclaration k) (suc i) ts ≡ false → (if c then (leads false (shape.VariableDeclaration k) i t && (is_first x (holds_list (shape.VariableDeclaration k) i) t && not (any_names x ts))) else leads_to x false (shape.VariableDeclaration k) (suc i) ts) ≡ false
    by zero true h = refl
    by (suc zero) true h = refl
    by (suc (suc zero)) true h = refl
    by (suc (suc (suc i))) true h = refl
    by i false h = h

no_declaration : (x : Name) (t : Tree) → is_first x false t ≡ true → is_var_shape (shape_of t) ≡ false
no_declaration x (node (shape.VariableDeclaration k) ys n none) e = absurd (true≢false (sym e))
no_declaration x (node (shape.VariableDeclaration k) ys n (t ▸ ts)) e = absurd (true≢false (sym (and_parts (may_hold (node (shape.VariableDeclaration k) ys n (t ▸ ts))) (leads_to x false (shape.VariableDeclaration k) 0 (t ▸ ts)) e).1 ∙ leads_nowhere x k 0 (t ▸ ts)))
no_declaration x (node h ys n ts) e = refl

-- so a `for` begins with no `var`
begins_with_none : (x : Name) (value u v w : Tree) → is_first x false value ≡ true → evaluated (for_loop value u v w) ≡ for_loop value u v w
begins_with_none x value u v w e = ap (λ c. if c && has_declarator value then first_value value else for_loop value u v w) (no_declaration x value e)

-- what opens a scope, and reads it outside of that
pub record Outside (x : Name) (t : Tree) : Type 0 where
  pub seat : Seat
  pub value : Tree
  pub once : is_first x false value ≡ true
  pub beside : any_names x (rest seat) ≡ false
  pub is : t ≡ seated seat value
  pub puts : (r : Tree) → put_first x r t ≡ seated seat (put_first x r value)
  pub evaluates : evaluated t ≡ t
  pub passed : (r : Tree) → are_passed_by_value x r t ≡ true → are_passed_by_value x r value ≡ true

outside_of : (x : Name) (s : Seat) (h : Shape) (value : Tree) (ts : Trees) → in_full h ≡ h → ((u : Tree) → seated s u ≡ node h [] 0 (u ▸ ts)) → rest s ≡ ts → evaluated (seated s value) ≡ seated s value → gathered_below OfValues h 0 ≡ OfValues → is_first x false value && not (any_names x (rest_children 0 ts)) ≡ true → Outside x (seated s value)
outside_of x s h value ts full there same evaluates low e =
    let (a, b) = and_parts (is_first x false value) (not (any_names x (rest_children 0 ts))) e in
    let n = mentioned x false value a in
    record {
      seat = s;
      value = value;
      once = a;
      beside = ap (any_names x) (same ∙ sym (no_first ts)) ∙ not_true (any_names x (rest_children 0 ts)) b;
      is = refl;
      puts = λ r. ap (put_first x r) (there value) ∙ ap (λ h. node h [] 0 (put_among x r (value ▸ ts))) full ∙ ap (λ c. node h [] 0 (if c then put_first x r value ▸ ts else value ▸ put_among x r ts)) n ∙ sym (there (put_first x r value));
      evaluates = evaluates;
      passed = λ r e. sym (ap (λ m. are_passed_in x m r value) low) ∙ sym (ap (λ c. if c then are_passed_in x (gathered_below OfValues h 0) r value else (passes_at OfValues r h 0 value && all_passed x OfValues r h 1 ts)) n) ∙ (parted x OfValues r h (value ▸ ts) (sym (ap (are_passed_by_value x r) (there value)) ∙ e)).all;
    }

outside : (x : Name) (t : Tree) → reads_outside x t ≡ true → Outside x t
outside x (node shape.SwitchStatement [] zero (value ▸ (cases ▸ none))) e = outside_of x (Choice cases) shape.SwitchStatement value (cases ▸ none) refl (λ u. refl) refl refl refl e
outside x (node shape.ForStatement [] zero (value ▸ (u ▸ (v ▸ (w ▸ none))))) e = outside_of x (Loop u v w) shape.ForStatement value (u ▸ (v ▸ (w ▸ none))) refl (λ u. refl) refl (begins_with_none x value u v w (and_parts (is_first x false value) (not (any_names x (u ▸ (v ▸ (w ▸ none))))) e).0) refl e
outside x t e = absurd (true≢false (sym e))

-- a loop over keys or values, and reads it in its right side
pub record Over (x : Name) (t : Tree) : Type 0 where
  pub kind : Each
  pub left : Tree
  pub value : Tree
  pub body : Tree
  pub once : is_first x false value ≡ true
  pub plain : is_open_left left ≡ true
  pub other : names x left ≡ false
  pub later : any_names x (body ▸ none) ≡ false
  pub is : t ≡ each_loop kind left value body
  pub puts : (r : Tree) → put_first x r t ≡ each_loop kind left (put_first x r value) body
  pub evaluates : evaluated t ≡ value

pub put_over : (x : Name) (k : Each) (left value body : Tree) → names x left ≡ false → names x value ≡ true → (r : Tree) → put_first x r (each_loop k left value body) ≡ each_loop k left (put_first x r value) body
put_over x EachIn left value body f n r = λ i. node shape.ForInStatement [] 0 (if f i then put_first x r left ▸ (value ▸ (body ▸ none)) else left ▸ (if n i then put_first x r value ▸ (body ▸ none) else value ▸ put_among x r (body ▸ none)))
put_over x EachOf left value body f n r = λ i. node shape.ForOfStatement [] 0 (if f i then put_first x r left ▸ (value ▸ (body ▸ none)) else left ▸ (if n i then put_first x r value ▸ (body ▸ none) else value ▸ put_among x r (body ▸ none)))

goes : (k : Each) (left value body : Tree) → is_open_left left ≡ true → evaluated (each_loop k left value body) ≡ value
goes EachIn left value body p = ap (λ c. if c then value else each_loop EachIn left value body) p
goes EachOf left value body p = ap (λ c. if c then value else each_loop EachOf left value body) p

over_of : (x : Name) (k : Each) (left value body : Tree) → is_open_left left && (is_first x false value && (not (names x left) && not (any_names x (body ▸ none)))) ≡ true → Over x (each_loop k left value body)
over_of x k left value body e =
    let (p, q) = and_parts (is_open_left left) (is_first x false value && (not (names x left) && not (any_names x (body ▸ none)))) e in
    let (a, b) = and_parts (is_first x false value) (not (names x left) && not (any_names x (body ▸ none))) q in
    let (c, d) = and_parts (not (names x left)) (not (any_names x (body ▸ none))) b in
    let other = not_true (names x left) c in
    record {
      kind = k;
      left = left;
      value = value;
      body = body;
      once = a;
      plain = p;
      other = other;
      later = not_true (any_names x (body ▸ none)) d;
      is = refl;
      puts = put_over x k left value body other (mentioned x false value a);
      evaluates = goes k left value body p;
    }

over : (x : Name) (t : Tree) → reads_over x t ≡ true → Over x t
over x (node shape.ForInStatement [] zero (left ▸ (value ▸ (body ▸ none)))) e = over_of x EachIn left value body e
over x (node shape.ForOfStatement [] zero (left ▸ (value ▸ (body ▸ none)))) e = over_of x EachOf left value body e
over x t e = absurd (true≢false (sym e))

-- a `for` that begins with a `var`, and reads it in the first initializer
pub record Begun (x : Name) (t : Tree) : Type 0 where
  pub binds : Tree
  pub value : Tree
  pub last : Trees
  pub test : Tree
  pub update : Tree
  pub body : Tree
  pub once : is_first x false value ≡ true
  pub other : names x binds ≡ false
  pub later : any_names x last ≡ false
  pub beside : any_names x (test ▸ (update ▸ (body ▸ none))) ≡ false
  pub is : t ≡ for_loop (declaration Var (declarator binds value ▸ last)) test update body
  pub puts : (r : Tree) → put_first x r t ≡ for_loop (declaration Var (declarator binds (put_first x r value) ▸ last)) test update body
  pub evaluates : evaluated t ≡ value

-- which is read like a declaration
abbrev pub as_initial : (x : Name) (t : Tree) (b : Begun x t) → Initial x (declaration Var (declarator b.binds b.value ▸ b.last))
as_initial x t b = record { kind = Var; binds = b.binds; value = b.value; last = b.last; once = b.once; other = b.other; later = b.later; is = refl; puts = put_initially x Var b.binds b.value b.last b.other (mentioned x false b.value b.once); evaluates = refl }

a_var : (k : VariableDeclarationKind) → is_var_shape (shape.VariableDeclaration k) ≡ true → k ≡ Var
a_var Var e = refl
a_var k e = absurd (true≢false (sym e))

-- what is put there stands in the declaration alone
pub put_begins : (x : Name) (K : VariableDeclarationKind) (binds value : Tree) (last : Trees) (u v w : Tree) → is_first x false value ≡ true → names x binds ≡ false → (r : Tree) → put_first x r (for_loop (declaration K (declarator binds value ▸ last)) u v w) ≡ for_loop (declaration K (declarator binds (put_first x r value) ▸ last)) u v w
put_begins x K binds value last u v w once other r =
    let head = declaration K (declarator binds value ▸ last) in
    let rest : Trees = u ▸ (v ▸ (w ▸ none)) in
    let n = mentioned x false value once in
    let there : names x head ≡ true = λ i. ((other i || (n i || false)) || any_names x last) || false in
    ap (λ c. node shape.ForStatement [] 0 (if c then put_first x r head ▸ rest else head ▸ put_among x r rest)) there ∙ ap (λ t. for_loop t u v w) (put_initially x K binds value last other n r)

begun_of : (x : Name) (binds value : Tree) (last : Trees) (u v w : Tree) → is_first x false value ≡ true → names x binds ≡ false → any_names x last ≡ false → any_names x (u ▸ (v ▸ (w ▸ none))) ≡ false → Begun x (for_loop (declaration Var (declarator binds value ▸ last)) u v w)
begun_of x binds value last u v w once other later beside = record {
  binds = binds;
  value = value;
  last = last;
  test = u;
  update = v;
  body = w;
  once = once;
  other = other;
  later = later;
  beside = beside;
  is = refl;
  puts = put_begins x Var binds value last u v w once other;
  evaluates = refl;
}

begun : (x : Name) (t : Tree) → reads_begun x t ≡ true → Begun x t
begun x (node shape.ForStatement [] zero (head ▸ (u ▸ (v ▸ (w ▸ none))))) e =
    let rest : Trees = u ▸ (v ▸ (w ▸ none)) in
    let (a, p) = and_parts (is_var_shape (shape_of head) && has_declarator head) (reads_initially x head && not (any_names x rest)) e in
    let (b, c) = and_parts (reads_initially x head) (not (any_names x rest)) p in
    let i = initially x head b in
    let of_var = a_var i.kind (sym (ap (λ t. is_var_shape (shape_of t)) i.is) ∙ (and_parts (is_var_shape (shape_of head)) (has_declarator head) a).0) in
    subst (λ t. Begun x (for_loop t u v w)) (sym (i.is ∙ ap (λ k. declaration k (declarator i.binds i.value ▸ i.last)) of_var)) (begun_of x i.binds i.value i.last u v w i.once i.other i.later (not_true (any_names x rest) c))
begun x t e = absurd (true≢false (sym e))

-- a head is a statement, a declaration, opens a scope, is such a loop, or begins with a `var`
abbrev pub Heads : Name → Tree → Type 0
Heads x t = ((reads_first x t ≡ true) × (evaluated t ≡ t)) ⊎ (Initial x t ⊎ (Outside x t ⊎ (Over x t ⊎ Begun x t)))

pub heads : (x : Name) (t : Tree) → reads_head x t ≡ true → Heads x t
heads x t e = by (reads_first x t) (reads_initially x t) (reads_outside x t) (reads_over x t) refl refl refl refl
  where
    by : (a b c d : Bool) → reads_first x t ≡ a → reads_initially x t ≡ b → reads_outside x t ≡ c → reads_over x t ≡ d → Heads x t
    by true b c d f g h o = inl (f, stays x t f)
    by false true c d f g h o = inr (inl (initially x t g))
    by false false true d f g h o = inr (inr (inl (outside x t h)))
    by false false false true f g h o = inr (inr (inr (inl (over x t o))))
    by false false false false f g h o = inr (inr (inr (inr (begun x t (sym (λ i. f i || (g i || (h i || (o i || reads_begun x t)))) ∙ e)))))

-- ---- what holds of it

plain_lead : (l : Lead) (ts : Trees) → Plain (head_of l) ts
plain_lead Not ts = tt
plain_lead l ts = tt

-- among neighbours
module _ (Q : Asked → Tree → Type 0) (cs : ℕ → Asked) where
  swap_below : (i : ℕ) (ps : Trees) (t u : Tree) (ts : Trees) → (Q (cs (place i ps)) t → Q (cs (place i ps)) u) → Below Q cs i (append ps (t ▸ ts)) → Below Q cs i (append ps (u ▸ ts))
  swap_below i none t u ts f a = (f a.0, a.1)
  swap_below i (p ▸ ps) t u ts f a = (a.0, swap_below (suc i) ps t u ts f a.1)

  one_below : (i : ℕ) (ps : Trees) (t : Tree) (ts : Trees) → Below Q cs i (append ps (t ▸ ts)) → Q (cs (place i ps)) t
  one_below i none t ts a = a.0
  one_below i (p ▸ ps) t ts a = one_below (suc i) ps t ts a.1

-- a property is asked the same, shorthand and in full
same_asked : (c : Asked) (i : ℕ) → asked_below (Property true false) c i ≡ asked_below (Property false false) c i
same_asked c zero = refl
same_asked c (suc i) = refl

asked_the_same : (c : Asked) → asked_below (Property true false) c ≡ asked_below (Property false false) c
asked_the_same c k i = same_asked c i k

module _ (J : Leap → Type 0) (Q : Asked → Tree → Type 0) (l : Local J Q) where
  from_found : (c : Asked) (ts : Trees) (b : Bool) (d : Lead) → Q c (node (shape_by (found_head b d)) [] 0 ts) → Q c (node (shape_by (head_of d)) [] 0 ts)
  from_found c ts =
      by_front (λ d h. Q c (node (shape_by h) [] 0 ts) → Q c (node (shape_by (head_of d)) [] 0 ts)) (λ d q. q)
      (λ a e q. let (x, y) = l.down (Property true false) c ts tt q in l.up (Property false false) c ts tt x (subst (λ cs. Below Q cs 0 ts) (asked_the_same c) y))

  to_found : (c : Asked) (ts : Trees) (b : Bool) (d : Lead) → Q c (node (shape_by (head_of d)) [] 0 ts) → Q c (node (shape_by (found_head b d)) [] 0 ts)
  to_found c ts =
      by_front (λ d h. Q c (node (shape_by (head_of d)) [] 0 ts) → Q c (node (shape_by h) [] 0 ts)) (λ d q. q)
      (λ a e q. let (x, y) = l.down (Property false false) c ts tt q in l.up (Property true false) c ts tt x (subst (λ cs. Below Q cs 0 ts) (sym (asked_the_same c)) y))

  pub swapped : (c : Asked) (ss : List Step) → Well c ss → (t r : Tree) → (Q AsValue t → Q AsValue r) → Q c (found ss t) → Q c (led ss r)
  swapped AsValue [] w t r f q = f q
  swapped c [] w t r f q = absurd w
  swapped c (s ∷ ss) w t r f q =
      let h = head_of s.lead in
      let ps = before s.lead in
      let there = append ps (found ss t ▸ s.rest) in
      let here = append ps (led ss r ▸ s.rest) in
      let (x, y) = l.down h c there (plain_lead s.lead there) (from_found c there (ends_short s ss) s.lead q) in
      l.up h c here (plain_lead s.lead here) x (swap_below Q (asked_below h c) 0 ps (found ss t) (led ss r) s.rest (swapped (asked_below h c (place 0 ps)) ss w.1 t r f) y)

  -- and back
  pub swapped_back : (c : Asked) (ss : List Step) → Well c ss → (t r : Tree) → (Q AsValue t → Q AsValue r) → Q c (led ss t) → Q c (found ss r)
  swapped_back AsValue [] w t r f q = f q
  swapped_back c [] w t r f q = absurd w
  swapped_back c (s ∷ ss) w t r f q =
      let h = head_of s.lead in
      let ps = before s.lead in
      let there = append ps (led ss t ▸ s.rest) in
      let here = append ps (found ss r ▸ s.rest) in
      let (x, y) = l.down h c there (plain_lead s.lead there) q in
      to_found c here (ends_short s ss) s.lead (l.up h c here (plain_lead s.lead here) x (swap_below Q (asked_below h c) 0 ps (led ss t) (found ss r) s.rest (swapped_back (asked_below h c (place 0 ps)) ss w.1 t r f) y))

  pub taken : (c : Asked) (ss : List Step) → Well c ss → (r : Tree) → Q c (led ss r) → Q AsValue r
  taken AsValue [] w r q = q
  taken c [] w r q = absurd w
  taken c (s ∷ ss) w r q =
      let h = head_of s.lead in
      let ps = before s.lead in
      taken (asked_below h c (place 0 ps)) ss w.1 r (one_below Q (asked_below h c) 0 ps (led ss r) s.rest (l.down h c (append ps (led ss r ▸ s.rest)) (plain_lead s.lead (append ps (led ss r ▸ s.rest))) q).1)

module _ (m : Asked → Tree → ℕ) (cs : ℕ → Asked) where
  swap_sum : (i : ℕ) (ps : Trees) (t u : Tree) (ts : Trees) → sum_below m cs i (append ps (u ▸ ts)) + m (cs (place i ps)) t ≡ sum_below m cs i (append ps (t ▸ ts)) + m (cs (place i ps)) u
  swap_sum i none t u ts = omega arith
  swap_sum i (p ▸ ps) t u ts = let rest = swap_sum (suc i) ps t u ts in omega (arith, rest)

module _ (m : Asked → Tree → ℕ) (l : Summed m) where
  found_sum : (c : Asked) (ts : Trees) (b : Bool) (d : Lead) → m c (node (shape_by (found_head b d)) [] 0 ts) ≡ m c (node (shape_by (head_of d)) [] 0 ts)
  found_sum c ts =
      by_front (λ d h. m c (node (shape_by h) [] 0 ts) ≡ m c (node (shape_by (head_of d)) [] 0 ts)) (λ d. refl)
      (λ a e. l (Property true false) c ts tt ∙ ap (λ cs. sum_below m cs 0 ts) (asked_the_same c) ∙ sym (l (Property false false) c ts tt))

  pub swapped_sum : (c : Asked) (ss : List Step) → Well c ss → (t r : Tree) → m c (led ss r) + m AsValue t ≡ m c (found ss t) + m AsValue r
  swapped_sum AsValue [] w t r = omega arith
  swapped_sum c [] w t r = absurd w
  swapped_sum c (s ∷ ss) w t r =
      let h = head_of s.lead in
      let ps = before s.lead in
      let there = append ps (found ss t ▸ s.rest) in
      let here = append ps (led ss r ▸ s.rest) in
      let one = l h c there (plain_lead s.lead there) in
      let other = l h c here (plain_lead s.lead here) in
      let full = found_sum c there (ends_short s ss) s.lead in
      let inner = swapped_sum (asked_below h c (place 0 ps)) ss w.1 t r in
      let beside = swap_sum m (asked_below h c) 0 ps (found ss t) (led ss r) s.rest in
      omega (arith, one, other, full, inner, beside)

-- what a parent reads of it
pub summaries_put : (ps : Trees) (t u : Tree) (ts : Trees) → summary t ≡ summary u → summaries (append ps (t ▸ ts)) ≡ summaries (append ps (u ▸ ts))
summaries_put none t u ts e = ap (λ i. i ∷ summaries ts) e
summaries_put (p ▸ ps) t u ts e = ap (λ is. summary p ∷ is) (summaries_put ps t u ts e)

pub summary_led : (ss : List Step) (t r : Tree) → summary t ≡ summary r → summary (led ss t) ≡ summary (led ss r)
summary_led [] t r e = e
summary_led (s ∷ ss) t r e = ap (summary_of (shape_by (head_of s.lead)) [] 0) (summaries_put (before s.lead) (led ss t) (led ss r) s.rest (summary_led ss t r e))

pub summaries_led : (s : Step) (ss : List Step) (t r : Tree) → summary t ≡ summary r → summaries (append (before s.lead) (led ss t ▸ s.rest)) ≡ summaries (append (before s.lead) (led ss r ▸ s.rest))
summaries_led s ss t r e = summaries_put (before s.lead) (led ss t) (led ss r) s.rest (summary_led ss t r e)

-- a name that neither the rest nor what is put there mentions
none_put : (x : Name) (ps : Trees) (t : Tree) (ts : Trees) → any_names x ps ≡ false → names x t ≡ false → any_names x ts ≡ false → any_names x (append ps (t ▸ ts)) ≡ false
none_put x none t ts e f g = ap (λ b. b || any_names x ts) f ∙ g
none_put x (p ▸ ps) t ts e f g = by (names x p) e (none_put x ps t ts)
  where
    by : (b : Bool) → (b || any_names x ps) ≡ false → (any_names x ps ≡ false → names x t ≡ false → any_names x ts ≡ false → any_names x (append ps (t ▸ ts)) ≡ false) → (b || any_names x (append ps (t ▸ ts))) ≡ false
    by true e h = absurd (true≢false e)
    by false e h = h e f g

pub unnamed : (x : Name) (ss : List Step) → Spared x ss → (r : Tree) → names x r ≡ false → names x (led ss r) ≡ false
unnamed x [] f r e = e
unnamed x (s ∷ ss) f r e = none_put x (before s.lead) (led ss r) s.rest f.0.0 (unnamed x ss f.1 r e) f.0.1
