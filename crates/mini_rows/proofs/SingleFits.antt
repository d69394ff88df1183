-- Where a tree that reads a variable may stand, there it may with an expression in the place of that.
use Rattle.std.specs.Prelude.{ℕ, ◌≡◌, ◌⊎◌, refl, not, ◌&&◌, ◌||◌, suc, Bool, true, false, List, [], ◌∷◌, nat_le, nat_eq}
use Rattle.std.proofs.Common.{ap, ◌∙◌, sym, subst₂, true≢false, inl, inr}
use Rattle.std.proofs.lemmas.Bool.{and_parts}
use Rattle.mini_model.specs.declared.name.Name.{Name}
use Rattle.mini_model.specs.declared.kind.PropertyKind.TheVariants.{Init}
use Rattle.mini_model.specs.declared.operator.AssignmentOperator.TheVariants.{Assign}
use Rattle.mini_model.specs.declared.shape.Shape.TheVariants as shape
use Rattle.mini_model.specs.Tree.{Tree, Trees, node, none, ◌▸◌, count, children, identifier, shape_of}
use Rattle.mini_model.specs.Paths.{append}
use Rattle.mini_accept.specs.WellShaped.{nested, a_statement, an_init, an_expression, a_link, a_chain, has_optional, an_argument, an_object_property, a_key, a_target, a_simple_target, Slot, one, one_or_absent, many, many_or_holes, quasis, untagged, these, each, fits, fill, is_not_positive_number, repeats_key}
use Rattle.mini_kept.proofs.Bools.{both}
use Rattle.mini_kept.proofs.Expressions.{refused_here, expression_taken}
use Rattle.mini_rows.specs.Sketches.{shape_by, Asked, AsWholeItem, AsValue, AsValues, AsTarget, AsUpdated, asked_below}
use Rattle.mini_rows.specs.Unused.{is_number_shape, OfValues, is_constant, is_first, put_first, are_passed_by_value, reads_first}
use Rattle.mini_rows.proofs.SingleUse.{Lead, Not, Plus, Minus, Tilde, Typing, Emptying, Beside, Deciding, Choosing, Passing, Called, Making, Waiting, Member, Keyed, Linking, Holding, Against, Given, Filling, Keying, Interpolating, Following, Branching, Failing, Storing, Gathering, Fielding, Spreading, Bracketing, Targeted, Changing, Listing, Doing, Giving, Raising, Testing, target_stands, head_of, before, place, Step, led, is_end, Stands, Well, suited, Suited, Path, path, statement, found, found_head, by_front, ends_short}

-- r is no number that stands right under a minus
abbrev unsigned : Tree → Lead → Bool → Bool
unsigned r Minus at_end = not at_end || not (is_number_shape (shape_of r))
unsigned r l at_end = true

abbrev Unsigned : Tree → List Step → Type 0
Unsigned r [] = Unit {0}
Unsigned r (s ∷ ss) = (unsigned r s.lead (is_end ss) ≡ true) × Unsigned r ss

pub first_of : (a b c : Bool) → (a ≡ true → b ≡ true) → a && c ≡ true → b && c ≡ true
first_of true b c f e = ap (λ d. d && c) (f refl) ∙ e
first_of false b c f e = absurd (true≢false (sym e))

pub second_of : (d a b c : Bool) → (a ≡ true → b ≡ true) → d && (a && c) ≡ true → d && (b && c) ≡ true
second_of true a b c f e = first_of a b c f e
second_of false a b c f e = absurd (true≢false (sym e))

third_of : (d g a b c : Bool) → (a ≡ true → b ≡ true) → d && (g && (a && c)) ≡ true → d && (g && (b && c)) ≡ true
third_of true g a b c f e = second_of g a b c f e
third_of false g a b c f e = absurd (true≢false (sym e))

counted : (a b : Bool) (m n : ℕ) → m ≡ n → (a ≡ true → b ≡ true) → nat_le 2 m && (a && true) ≡ true → nat_le 2 n && (b && true) ≡ true
counted a b m n e f h =
    let (x, y) = and_parts (nat_le 2 m) (a && true) h in
    both (nat_le 2 n) (b && true) (ap (nat_le 2) (sym e) ∙ x) (first_of a b true f y)

-- ---- the slots of expressions, and of lists of them

abbrev Takes : Asked → Slot → Type 0
Takes AsValue (one an_expression) = Unit {0}
Takes AsValue (one_or_absent an_expression) = Unit {0}
Takes AsValue (one an_argument) = Unit {0}
Takes AsValue (one_or_absent an_argument) = Unit {0}
Takes AsValue (one an_object_property) = Unit {0}
Takes AsValue (one (a_key true)) = Unit {0}
Takes AsValue (one a_link) = Unit {0}
Takes AsValue (one a_chain) = Unit {0}
Takes AsTarget (one a_target) = Unit {0}
Takes AsUpdated (one a_simple_target) = Unit {0}
Takes AsValues (many an_expression) = Unit {0}
Takes AsValues (many an_argument) = Unit {0}
Takes AsValues (many an_object_property) = Unit {0}
Takes AsValues (many_or_holes an_argument) = Unit {0}
Takes c s = ⊥

or_absent : (strict : Bool) (t : Tree) → fits strict (one an_expression) t ≡ true → fits strict (one_or_absent an_expression) t ≡ true
or_absent strict (node shape.Absent xs n ts) e = absurd (refused_here strict (one an_expression) shape.Absent xs n ts refl e)
or_absent strict (node h xs n ts) e = e

as_argument : (strict : Bool) (t : Tree) → fits strict (one an_expression) t ≡ true → fits strict (one an_argument) t ≡ true
as_argument strict (node shape.SpreadElement xs n ts) e = absurd (refused_here strict (one an_expression) shape.SpreadElement xs n ts refl e)
as_argument strict (node h xs n ts) e = e

as_element : (strict : Bool) (t : Tree) → fits strict (one an_expression) t ≡ true → fits strict (one_or_absent an_argument) t ≡ true
as_element strict (node shape.SpreadElement xs n ts) e = absurd (refused_here strict (one an_expression) shape.SpreadElement xs n ts refl e)
as_element strict (node shape.Absent xs n ts) e = absurd (refused_here strict (one an_expression) shape.Absent xs n ts refl e)
as_element strict (node h xs n ts) e = e

-- a name is no property
taken_by : (strict : Bool) (y : Name) (t : Tree) → fits strict (one an_expression) t ≡ true → (s : Slot) → Takes AsValue s → fits strict s (identifier y) ≡ true → fits strict s t ≡ true
taken_by strict y t e (one an_expression) k f = e
taken_by strict y t e (one_or_absent an_expression) k f = or_absent strict t e
taken_by strict y t e (one an_argument) k f = as_argument strict t e
taken_by strict y t e (one_or_absent an_argument) k f = as_element strict t e
taken_by strict y t e (one an_object_property) k f = absurd (refused_here strict (one an_object_property) shape.Identifier (y ∷ []) 0 none refl f)
taken_by strict y t e (one (a_key true)) k f = expression_taken strict (one (a_key true)) t tt e
taken_by strict y t e (one a_link) k f = expression_taken strict (one a_link) t tt e
taken_by strict y t e (one a_chain) k f = absurd (refused_here strict (one a_chain) shape.Identifier (y ∷ []) 0 none refl f)
taken_by strict y t e s k f = absurd k

count_put : (ps : Trees) (t u : Tree) (ts : Trees) → count (append ps (t ▸ ts)) ≡ count (append ps (u ▸ ts))
count_put none t u ts = refl
count_put (p ▸ ps) t u ts = ap suc (count_put ps t u ts)

module _ (strict : Bool) where
  abbrev AsExpression : Lead → Slot → Type 0
  AsExpression l s = (ts : Trees) → fits strict s (node (shape_by (head_of l)) [] 0 ts) ≡ fits strict (one an_expression) (node (shape_by (head_of l)) [] 0 ts)

  abbrev is_spreading : Lead → Bool
  is_spreading Spreading = true
  is_spreading l = false

  maybe_room : (l : Lead) (b : Bool) → Stands AsValue l b → AsExpression l (one_or_absent an_expression)
  maybe_room (Called true) b s ts = refl
  maybe_room (Called false) b s ts = refl
  maybe_room (Member true) b s ts = refl
  maybe_room (Member false) b s ts = refl
  maybe_room (Keyed true) b s ts = refl
  maybe_room (Keyed false) b s ts = refl
  maybe_room (Given true a) b s ts = refl
  maybe_room (Given false a) b s ts = refl
  maybe_room (Keying true a) b s ts = refl
  maybe_room (Keying false a) b s ts = refl
  maybe_room (Waiting true) b s ts = refl
  maybe_room (Waiting false) b s ts = refl
  maybe_room l b s ts = refl

  argument_room : (l : Lead) (b : Bool) → Stands AsValue l b → is_spreading l ≡ false → AsExpression l (one an_argument)
  argument_room Spreading b s o ts = absurd (true≢false o)
  argument_room (Called true) b s o ts = refl
  argument_room (Called false) b s o ts = refl
  argument_room (Member true) b s o ts = refl
  argument_room (Member false) b s o ts = refl
  argument_room (Keyed true) b s o ts = refl
  argument_room (Keyed false) b s o ts = refl
  argument_room (Given true a) b s o ts = refl
  argument_room (Given false a) b s o ts = refl
  argument_room (Keying true a) b s o ts = refl
  argument_room (Keying false a) b s o ts = refl
  argument_room (Waiting true) b s o ts = refl
  argument_room (Waiting false) b s o ts = refl
  argument_room l b s o ts = refl

  element_room : (l : Lead) (b : Bool) → Stands AsValue l b → is_spreading l ≡ false → AsExpression l (one_or_absent an_argument)
  element_room Spreading b s o ts = absurd (true≢false o)
  element_room (Called true) b s o ts = refl
  element_room (Called false) b s o ts = refl
  element_room (Member true) b s o ts = refl
  element_room (Member false) b s o ts = refl
  element_room (Keyed true) b s o ts = refl
  element_room (Keyed false) b s o ts = refl
  element_room (Given true a) b s o ts = refl
  element_room (Given false a) b s o ts = refl
  element_room (Keying true a) b s o ts = refl
  element_room (Keying false a) b s o ts = refl
  element_room (Waiting true) b s o ts = refl
  element_room (Waiting false) b s o ts = refl
  element_room l b s o ts = refl

  -- what fits wherever the other does
  abbrev FitsAs : Asked → Tree → Tree → Type 0
  FitsAs c t u = (s : Slot) → Takes c s → fits strict s t ≡ true → fits strict s u ≡ true

  -- no other expression is a property
  no_property : (l : Lead) (b : Bool) → Stands AsValue l b → is_spreading l ≡ false → (t u : Tree) (ts : Trees) → FitsAs (asked_below (head_of l) AsValue (place 0 (before l))) t u → fits strict (one an_object_property) (node (shape_by (head_of l)) [] 0 (append (before l) (t ▸ ts))) ≡ true → fits strict (one an_object_property) (node (shape_by (head_of l)) [] 0 (append (before l) (u ▸ ts))) ≡ true
  no_property Spreading b s o t u ts f e = absurd (true≢false o)
  no_property Bracketing b s o t u ts f e = first_of (fits strict (one (a_key true)) t) (fits strict (one (a_key true)) u) _ (f (one (a_key true)) tt) e
  no_property (Fielding g a) b s o t u ts f e = second_of (fits strict (one (a_key g)) a) (fits strict (one an_expression) t) (fits strict (one an_expression) u) _ (f (one an_expression) tt) e
  no_property l b s o t u ts f e = absurd (refused_here strict (one an_object_property) (shape_by (head_of l)) [] 0 (append (before l) (t ▸ ts)) refl e)

  -- what is spread is an item of a list
  spread_room : (s : Slot) → Takes AsValue s → (t u : Tree) (ts : Trees) → FitsAs AsValue t u → fits strict s (node shape.SpreadElement [] 0 (t ▸ ts)) ≡ true → fits strict s (node shape.SpreadElement [] 0 (u ▸ ts)) ≡ true
  spread_room (one an_expression) k t u ts f e = absurd (refused_here strict (one an_expression) shape.SpreadElement [] 0 (t ▸ ts) refl e)
  spread_room (one_or_absent an_expression) k t u ts f e = absurd (refused_here strict (one_or_absent an_expression) shape.SpreadElement [] 0 (t ▸ ts) refl e)
  spread_room (one an_argument) k t u ts f e = first_of (fits strict (one an_expression) t) (fits strict (one an_expression) u) _ (f (one an_expression) tt) e
  spread_room (one_or_absent an_argument) k t u ts f e = first_of (fits strict (one an_expression) t) (fits strict (one an_expression) u) _ (f (one an_expression) tt) e
  spread_room (one an_object_property) k t u ts f e = first_of (fits strict (one an_expression) t) (fits strict (one an_expression) u) _ (f (one an_expression) tt) e
  spread_room (one (a_key true)) k t u ts f e = absurd (refused_here strict (one (a_key true)) shape.SpreadElement [] 0 (t ▸ ts) refl e)
  spread_room (one a_link) k t u ts f e = absurd (refused_here strict (one a_link) shape.SpreadElement [] 0 (t ▸ ts) refl e)
  spread_room (one a_chain) k t u ts f e = absurd (refused_here strict (one a_chain) shape.SpreadElement [] 0 (t ▸ ts) refl e)
  spread_room s k t u ts f e = absurd k

  key_room : (l : Lead) (b : Bool) → Stands AsValue l b → AsExpression l (one (a_key true))
  key_room (Called true) b s ts = refl
  key_room (Called false) b s ts = refl
  key_room (Member true) b s ts = refl
  key_room (Member false) b s ts = refl
  key_room (Keyed true) b s ts = refl
  key_room (Keyed false) b s ts = refl
  key_room (Given true a) b s ts = refl
  key_room (Given false a) b s ts = refl
  key_room (Keying true a) b s ts = refl
  key_room (Keying false a) b s ts = refl
  key_room (Waiting true) b s ts = refl
  key_room (Waiting false) b s ts = refl
  key_room l b s ts = refl

  -- links, whose first part stands in the chain, too
  abbrev is_link_lead : Lead → Bool
  is_link_lead (Called o) = true
  is_link_lead (Member o) = true
  is_link_lead (Keyed o) = true
  is_link_lead (Given o a) = true
  is_link_lead (Keying o a) = true
  is_link_lead l = false

  link_room : (l : Lead) (b : Bool) → Stands AsValue l b → is_spreading l ≡ false → is_link_lead l ≡ false → AsExpression l (one a_link)
  link_room Spreading b s o p ts = absurd (true≢false o)
  link_room (Called q) b s o p ts = absurd (true≢false p)
  link_room (Member q) b s o p ts = absurd (true≢false p)
  link_room (Keyed q) b s o p ts = absurd (true≢false p)
  link_room (Given q a) b s o p ts = absurd (true≢false p)
  link_room (Keying q a) b s o p ts = absurd (true≢false p)
  link_room (Waiting true) b s o p ts = refl
  link_room (Waiting false) b s o p ts = refl
  link_room l b s o p ts = refl

  in_link : (l : Lead) (b : Bool) → Stands AsValue l b → is_spreading l ≡ false → (t u : Tree) (ts : Trees) → FitsAs (asked_below (head_of l) AsValue (place 0 (before l))) t u
      → (fits strict (one an_expression) (node (shape_by (head_of l)) [] 0 (append (before l) (t ▸ ts))) ≡ true → fits strict (one an_expression) (node (shape_by (head_of l)) [] 0 (append (before l) (u ▸ ts))) ≡ true)
      → fits strict (one a_link) (node (shape_by (head_of l)) [] 0 (append (before l) (t ▸ ts))) ≡ true → fits strict (one a_link) (node (shape_by (head_of l)) [] 0 (append (before l) (u ▸ ts))) ≡ true
  in_link (Called q) b s o t u ts f g e = first_of (fits strict (one a_link) t) (fits strict (one a_link) u) _ (f (one a_link) tt) e
  in_link (Member q) b s o t u ts f g e = first_of (fits strict (one a_link) t) (fits strict (one a_link) u) _ (f (one a_link) tt) e
  in_link (Keyed q) b s o t u ts f g e = first_of (fits strict (one a_link) t) (fits strict (one a_link) u) _ (f (one a_link) tt) e
  in_link (Given q a) b s o t u ts f g e = second_of (fits strict (one a_link) a) (fits strict (many an_argument) t) (fits strict (many an_argument) u) _ (f (many an_argument) tt) e
  in_link (Keying q a) b s o t u ts f g e = second_of (fits strict (one a_link) a) (fits strict (one an_expression) t) (fits strict (one an_expression) u) _ (f (one an_expression) tt) e
  in_link l b s o t u ts f g e = link_room l b s o refl (append (before l) (u ▸ ts)) ∙ g (sym (link_room l b s o refl (append (before l) (t ▸ ts))) ∙ e)

  in_chain : (l : Lead) (b : Bool) → Stands AsValue l b → (t u : Tree) (ts : Trees) → (fits strict (one a_link) (node (shape_by (head_of l)) [] 0 (append (before l) (t ▸ ts))) ≡ true → fits strict (one a_link) (node (shape_by (head_of l)) [] 0 (append (before l) (u ▸ ts))) ≡ true)
      → fits strict (one a_chain) (node (shape_by (head_of l)) [] 0 (append (before l) (t ▸ ts))) ≡ true → fits strict (one a_chain) (node (shape_by (head_of l)) [] 0 (append (before l) (u ▸ ts))) ≡ true
  in_chain (Called q) b s t u ts g e = g e
  in_chain (Member q) b s t u ts g e = g e
  in_chain (Keyed q) b s t u ts g e = g e
  in_chain (Given q a) b s t u ts g e = g e
  in_chain (Keying q a) b s t u ts g e = g e
  in_chain l b s t u ts g e = absurd (refused_here strict (one a_chain) (shape_by (head_of l)) [] 0 (append (before l) (t ▸ ts)) refl e)

  other_room : (l : Lead) (b : Bool) → Stands AsValue l b → is_spreading l ≡ false → (s : Slot) → Takes AsValue s → (t u : Tree) (ts : Trees) → FitsAs (asked_below (head_of l) AsValue (place 0 (before l))) t u
      → (fits strict (one an_expression) (node (shape_by (head_of l)) [] 0 (append (before l) (t ▸ ts))) ≡ true → fits strict (one an_expression) (node (shape_by (head_of l)) [] 0 (append (before l) (u ▸ ts))) ≡ true) → fits strict s (node (shape_by (head_of l)) [] 0 (append (before l) (t ▸ ts))) ≡ true → fits strict s (node (shape_by (head_of l)) [] 0 (append (before l) (u ▸ ts))) ≡ true
  other_room l b s o (one an_expression) k t u ts f g e = g e
  other_room l b s o (one_or_absent an_expression) k t u ts f g e = maybe_room l b s (append (before l) (u ▸ ts)) ∙ g (sym (maybe_room l b s (append (before l) (t ▸ ts))) ∙ e)
  other_room l b s o (one an_argument) k t u ts f g e = argument_room l b s o (append (before l) (u ▸ ts)) ∙ g (sym (argument_room l b s o (append (before l) (t ▸ ts))) ∙ e)
  other_room l b s o (one_or_absent an_argument) k t u ts f g e = element_room l b s o (append (before l) (u ▸ ts)) ∙ g (sym (element_room l b s o (append (before l) (t ▸ ts))) ∙ e)
  other_room l b s o (one an_object_property) k t u ts f g e = no_property l b s o t u ts f e
  other_room l b s o (one (a_key true)) k t u ts f g e = key_room l b s (append (before l) (u ▸ ts)) ∙ g (sym (key_room l b s (append (before l) (t ▸ ts))) ∙ e)
  other_room l b s o (one a_link) k t u ts f g e = in_link l b s o t u ts f g e
  other_room l b s o (one a_chain) k t u ts f g e = in_chain l b s t u ts (λ h. in_link l b s o t u ts f g h) e
  other_room l b s o r k t u ts f g e = absurd k

  room : (l : Lead) (b : Bool) → Stands AsValue l b → (s : Slot) → Takes AsValue s → (t u : Tree) (ts : Trees) → FitsAs (asked_below (head_of l) AsValue (place 0 (before l))) t u
      → (fits strict (one an_expression) (node (shape_by (head_of l)) [] 0 (append (before l) (t ▸ ts))) ≡ true → fits strict (one an_expression) (node (shape_by (head_of l)) [] 0 (append (before l) (u ▸ ts))) ≡ true) → fits strict s (node (shape_by (head_of l)) [] 0 (append (before l) (t ▸ ts))) ≡ true → fits strict s (node (shape_by (head_of l)) [] 0 (append (before l) (u ▸ ts))) ≡ true
  room Spreading b s r k t u ts f g e = spread_room r k t u ts f e
  room l b s r k t u ts f g e = other_room l b s refl r k t u ts f g e

  value_step : (l : Lead) (b : Bool) → Stands AsValue l b → (t u : Tree) (ts : Trees) → (asked_below (head_of l) AsValue (place 0 (before l)) ≡ AsValues → count (children t) ≡ count (children u)) → (l ≡ Minus → is_not_positive_number u ≡ true) → (has_optional t ≡ true → has_optional u ≡ true) → FitsAs (asked_below (head_of l) AsValue (place 0 (before l))) t u
      → fits strict (one an_expression) (node (shape_by (head_of l)) [] 0 (append (before l) (t ▸ ts))) ≡ true → fits strict (one an_expression) (node (shape_by (head_of l)) [] 0 (append (before l) (u ▸ ts))) ≡ true
  value_step Not b s t u ts c n p f e = first_of (fits strict (one an_expression) t) (fits strict (one an_expression) u) _ (f (one an_expression) tt) e
  value_step Plus b s t u ts c n p f e = first_of (fits strict (one an_expression) t) (fits strict (one an_expression) u) _ (f (one an_expression) tt) e
  value_step Minus b s t u ts c n p f e =
      let (x, y) = and_parts (is_not_positive_number t) (fits strict (one an_expression) t && fill strict (these []) ts) e in
      both (is_not_positive_number u) (fits strict (one an_expression) u && fill strict (these []) ts) (n refl) (first_of (fits strict (one an_expression) t) (fits strict (one an_expression) u) (fill strict (these []) ts) (f (one an_expression) tt) y)
  value_step Tilde b s t u ts c n p f e = first_of (fits strict (one an_expression) t) (fits strict (one an_expression) u) _ (f (one an_expression) tt) e
  value_step Typing b s t u ts c n p f e = first_of (fits strict (one an_expression) t) (fits strict (one an_expression) u) _ (f (one an_expression) tt) e
  value_step Emptying b s t u ts c n p f e = first_of (fits strict (one an_expression) t) (fits strict (one an_expression) u) _ (f (one an_expression) tt) e
  value_step (Beside o) b s t u ts c n p f e = first_of (fits strict (one an_expression) t) (fits strict (one an_expression) u) _ (f (one an_expression) tt) e
  value_step (Deciding o) b s t u ts c n p f e = first_of (fits strict (one an_expression) t) (fits strict (one an_expression) u) _ (f (one an_expression) tt) e
  value_step Choosing b s t u ts c n p f e = first_of (fits strict (one an_expression) t) (fits strict (one an_expression) u) _ (f (one an_expression) tt) e
  value_step Passing b s t u ts c n p f e =
      let (x, y) = and_parts (nat_le 2 (count (children t))) (fits strict (many an_expression) t && fill strict (these []) ts) e in
      both (nat_le 2 (count (children u))) (fits strict (many an_expression) u && fill strict (these []) ts) (ap (nat_le 2) (sym (c refl)) ∙ x) (first_of (fits strict (many an_expression) t) (fits strict (many an_expression) u) (fill strict (these []) ts) (f (many an_expression) tt) y)
  value_step (Called true) b s t u ts c n p f e = absurd (refused_here strict (one an_expression) (shape.CallExpression true) [] 0 (t ▸ ts) refl e)
  value_step (Called false) b s t u ts c n p f e = first_of (fits strict (one an_expression) t) (fits strict (one an_expression) u) _ (f (one an_expression) tt) e
  value_step Making b s t u ts c n p f e = first_of (fits strict (one an_expression) t) (fits strict (one an_expression) u) _ (f (one an_expression) tt) e
  value_step (Waiting true) b s t u ts c n p f e = first_of (fits strict (one an_expression) t) (fits strict (one an_expression) u) _ (f (one an_expression) tt) e
  value_step (Waiting false) b s t u ts c n p f e = first_of (fits strict (one_or_absent an_expression) t) (fits strict (one_or_absent an_expression) u) _ (f (one_or_absent an_expression) tt) e
  value_step (Member true) b s t u ts c n p f e = absurd (refused_here strict (one an_expression) (shape.StaticMemberExpression true) [] 0 (t ▸ ts) refl e)
  value_step (Member false) b s t u ts c n p f e = first_of (fits strict (one an_expression) t) (fits strict (one an_expression) u) _ (f (one an_expression) tt) e
  value_step (Keyed true) b s t u ts c n p f e = absurd (refused_here strict (one an_expression) (shape.ComputedMemberExpression true) [] 0 (t ▸ ts) refl e)
  value_step (Keyed false) b s t u ts c n p f e = first_of (fits strict (one an_expression) t) (fits strict (one an_expression) u) _ (f (one an_expression) tt) e
  value_step Linking b s t u ts c n p f e =
      let (x, y) = and_parts (has_optional t) (fits strict (one a_chain) t && fill strict (these []) ts) e in
      both (has_optional u) (fits strict (one a_chain) u && fill strict (these []) ts) (p x) (first_of (fits strict (one a_chain) t) (fits strict (one a_chain) u) (fill strict (these []) ts) (f (one a_chain) tt) y)
  value_step Holding b s t u ts c n p f e = first_of (fits strict (many_or_holes an_argument) t) (fits strict (many_or_holes an_argument) u) _ (f (many_or_holes an_argument) tt) e
  value_step (Against o a) b s t u ts c n p f e = second_of (fits strict (one an_expression) a) (fits strict (one an_expression) t) (fits strict (one an_expression) u) _ (f (one an_expression) tt) e
  value_step (Given true a) b s t u ts c n p f e = absurd (refused_here strict (one an_expression) (shape.CallExpression true) [] 0 (a ▸ (t ▸ ts)) refl e)
  value_step (Given false a) b s t u ts c n p f e = second_of (fits strict (one an_expression) a) (fits strict (many an_argument) t) (fits strict (many an_argument) u) _ (f (many an_argument) tt) e
  value_step (Filling a) b s t u ts c n p f e = second_of (fits strict (one an_expression) a) (fits strict (many an_argument) t) (fits strict (many an_argument) u) _ (f (many an_argument) tt) e
  value_step (Keying true a) b s t u ts c n p f e = absurd (refused_here strict (one an_expression) (shape.ComputedMemberExpression true) [] 0 (a ▸ (t ▸ ts)) refl e)
  value_step (Keying false a) b s t u ts c n p f e = second_of (fits strict (one an_expression) a) (fits strict (one an_expression) t) (fits strict (one an_expression) u) _ (f (one an_expression) tt) e
  value_step (Interpolating a) b s t u ts c n p f e =
      let (x, y) = and_parts (nat_eq (count (children a)) (suc (count (children t)))) (fits strict (quasis untagged) a && (fits strict (many an_expression) t && fill strict (these []) ts)) e in
      both (nat_eq (count (children a)) (suc (count (children u)))) (fits strict (quasis untagged) a && (fits strict (many an_expression) u && fill strict (these []) ts)) (ap (λ i. nat_eq (count (children a)) (suc i)) (sym (c refl)) ∙ x)
      (second_of (fits strict (quasis untagged) a) (fits strict (many an_expression) t) (fits strict (many an_expression) u) (fill strict (these []) ts) (f (many an_expression) tt) y)
  value_step (Following o a) b s t u ts c n p f e = second_of (fits strict (one an_expression) a) (fits strict (one an_expression) t) (fits strict (one an_expression) u) _ (f (one an_expression) tt) e
  value_step (Branching a) b s t u ts c n p f e = second_of (fits strict (one an_expression) a) (fits strict (one an_expression) t) (fits strict (one an_expression) u) _ (f (one an_expression) tt) e
  value_step (Failing a d) b s t u ts c n p f e = third_of (fits strict (one an_expression) a) (fits strict (one an_expression) d) (fits strict (one an_expression) t) (fits strict (one an_expression) u) _ (f (one an_expression) tt) e
  value_step (Storing Assign a) b s t u ts c n p f e = second_of (fits strict (one a_target) a) (fits strict (one an_expression) t) (fits strict (one an_expression) u) _ (f (one an_expression) tt) e
  value_step (Storing o a) b s t u ts c n p f e = second_of (fits strict (one a_simple_target) a) (fits strict (one an_expression) t) (fits strict (one an_expression) u) _ (f (one an_expression) tt) e
  value_step Gathering b s t u ts c n p f e = first_of (fits strict (many an_object_property) t) (fits strict (many an_object_property) u) _ (f (many an_object_property) tt) e
  value_step Bracketing b s t u ts c n p f e = absurd (refused_here strict (one an_expression) (shape.ObjectProperty Init false false true) [] 0 (t ▸ ts) refl e)
  value_step (Targeted Assign) b s t u ts c n p f e = first_of (fits strict (one a_target) t) (fits strict (one a_target) u) _ (f (one a_target) tt) e
  value_step (Targeted o) b s t u ts c n p f e = first_of (fits strict (one a_simple_target) t) (fits strict (one a_simple_target) u) _ (f (one a_simple_target) tt) e
  value_step (Changing o i) b s t u ts c n p f e = first_of (fits strict (one a_simple_target) t) (fits strict (one a_simple_target) u) _ (f (one a_simple_target) tt) e
  value_step Spreading b s t u ts c n p f e = absurd (refused_here strict (one an_expression) shape.SpreadElement [] 0 (t ▸ ts) refl e)
  value_step (Fielding g a) b s t u ts c n p f e = absurd (refused_here strict (one an_expression) (shape.ObjectProperty Init false false g) [] 0 (a ▸ (t ▸ ts)) refl e)
  value_step l b s t u ts c n p f e = absurd s

  each_put : (s : Slot) (ps : Trees) (t u : Tree) (ts : Trees) → (fits strict s t ≡ true → fits strict s u ≡ true) → fill strict (each s) (append ps (t ▸ ts)) ≡ true → fill strict (each s) (append ps (u ▸ ts)) ≡ true
  each_put s none t u ts f e = first_of (fits strict s t) (fits strict s u) (fill strict (each s) ts) f e
  each_put s (p ▸ ps) t u ts f e =
      let (x, y) = and_parts (fits strict s p) (fill strict (each s) (append ps (t ▸ ts))) e in
      both (fits strict s p) (fill strict (each s) (append ps (u ▸ ts))) x (each_put s ps t u ts f y)

  list_step : (l : Lead) (b : Bool) → Stands AsValues l b → (t u : Tree) (ts : Trees) → FitsAs (asked_below (head_of l) AsValues (place 0 (before l))) t u → FitsAs AsValues (node (shape_by (head_of l)) [] 0 (append (before l) (t ▸ ts))) (node (shape_by (head_of l)) [] 0 (append (before l) (u ▸ ts)))
  list_step (Listing ps) b s t u ts f (many an_expression) k e = each_put (one an_expression) ps t u ts (f (one an_expression) tt) e
  list_step (Listing ps) b s t u ts f (many an_argument) k e = each_put (one an_argument) ps t u ts (f (one an_argument) tt) e
  list_step (Listing ps) b s t u ts f (many_or_holes an_argument) k e = each_put (one_or_absent an_argument) ps t u ts (f (one_or_absent an_argument) tt) e
  list_step (Listing ps) b s t u ts f (many an_object_property) k e = each_put (one an_object_property) ps t u ts (f (one an_object_property) tt) e
  list_step (Listing ps) b s t u ts f r k e = absurd k
  list_step l b s t u ts f r k e = absurd s

  same_count : (c : Asked) (ss : List Step) → Well c ss → (t u : Tree) → c ≡ AsValues → count (children (found ss t)) ≡ count (children (led ss u))
  same_count AsValue [] w t u e = absurd (cc e)
  same_count c [] w t u e = absurd w
  same_count c (s ∷ ss) w t u e = count_put (before s.lead) (found ss t) (led ss u) s.rest

  below_value : (l : Lead) (b : Bool) → Stands AsValue l b → asked_below (head_of l) AsValue (place 0 (before l)) ≡ AsWholeItem → ⊥
  below_value Not b s e = cc e
  below_value Plus b s e = cc e
  below_value Minus b s e = cc e
  below_value Tilde b s e = cc e
  below_value Typing b s e = cc e
  below_value Emptying b s e = cc e
  below_value (Beside o) b s e = cc e
  below_value (Deciding o) b s e = cc e
  below_value Choosing b s e = cc e
  below_value Passing b s e = cc e
  below_value (Called o) b s e = cc e
  below_value Making b s e = cc e
  below_value (Waiting d) b s e = cc e
  below_value (Member o) b s e = cc e
  below_value (Keyed o) b s e = cc e
  below_value Linking b s e = cc e
  below_value Holding b s e = cc e
  below_value Gathering b s e = cc e
  below_value Spreading b s e = cc e
  below_value Bracketing b s e = cc e
  below_value (Against o a) b s e = cc e
  below_value (Interpolating a) b s e = cc e
  below_value (Given o a) b s e = cc e
  below_value (Filling a) b s e = cc e
  below_value (Keying o a) b s e = cc e
  below_value (Following o a) b s e = cc e
  below_value (Branching a) b s e = cc e
  below_value (Failing a d) b s e = cc e
  below_value (Storing o a) b s e = cc e
  below_value (Fielding g a) b s e = cc e
  below_value (Targeted Assign) b s e = cc e
  below_value (Targeted o) b s e = cc e
  below_value (Changing o p) b s e = cc e
  below_value l b s e = absurd s

  -- a member that is assigned to
  below_target : (l : Lead) (b : Bool) → Stands AsTarget l b → (c : Asked) → asked_below (head_of l) c (place 0 (before l)) ≡ AsWholeItem → ⊥
  below_target (Member false) b s c e = cc e
  below_target (Keyed false) b s c e = cc e
  below_target (Keying false a) b s c e = cc e
  below_target l b s c e = absurd s

  target_step : (l : Lead) (b : Bool) → Stands AsTarget l b → (c : Asked) (t u : Tree) (ts : Trees) → FitsAs (asked_below (head_of l) c (place 0 (before l))) t u → (fits strict (one a_target) (node (shape_by (head_of l)) [] 0 (append (before l) (t ▸ ts))) ≡ true → fits strict (one a_target) (node (shape_by (head_of l)) [] 0 (append (before l) (u ▸ ts))) ≡ true)
      × (fits strict (one a_simple_target) (node (shape_by (head_of l)) [] 0 (append (before l) (t ▸ ts))) ≡ true → fits strict (one a_simple_target) (node (shape_by (head_of l)) [] 0 (append (before l) (u ▸ ts))) ≡ true)
  target_step (Member false) b s c t u ts f =
      (first_of (fits strict (one an_expression) t) (fits strict (one an_expression) u) _ (f (one an_expression) tt), first_of (fits strict (one an_expression) t) (fits strict (one an_expression) u) _ (f (one an_expression) tt))
  target_step (Keyed false) b s c t u ts f = (first_of (fits strict (one an_expression) t) (fits strict (one an_expression) u) _ (f (one an_expression) tt), first_of (fits strict (one an_expression) t) (fits strict (one an_expression) u) _ (f (one an_expression) tt))
  target_step (Keying false a) b s c t u ts f = (second_of (fits strict (one an_expression) a) (fits strict (one an_expression) t) (fits strict (one an_expression) u) _ (f (one an_expression) tt), second_of (fits strict (one an_expression) a) (fits strict (one an_expression) t) (fits strict (one an_expression) u) _ (f (one an_expression) tt))
  target_step l b s c t u ts f = absurd s

  below_list : (l : Lead) (b : Bool) → Stands AsValues l b → asked_below (head_of l) AsValues (place 0 (before l)) ≡ AsWholeItem → ⊥
  below_list (Listing ts) b s e = cc e
  below_list l b s e = absurd s

  number_of : (l : Lead) (ts : Trees) → is_not_positive_number (node (shape_by (head_of l)) [] 0 ts) ≡ true
  number_of (Listing us) ts = refl
  number_of l ts = refl

  no_positive : (r : Tree) → not (is_number_shape (shape_of r)) ≡ true → is_not_positive_number r ≡ true
  no_positive (node (shape.NumericLiteral n) xs k ts) e = absurd (true≢false (sym e))
  no_positive (node h xs k ts) e = refl

  -- right under a minus
  no_number : (l : Lead) (ss : List Step) (t : Tree) → unsigned t l (is_end ss) ≡ true → l ≡ Minus → is_not_positive_number (led ss t) ≡ true
  no_number l [] t e m = no_positive t (sym (ap (λ k. unsigned t k true) m) ∙ e)
  no_number l (s ∷ ss) t e m = number_of s.lead (append (before s.lead) (led ss t ▸ s.rest))

  -- a chain keeps its optional link
  or_further : (o a b : Bool) → (a ≡ true → b ≡ true) → (o || a) ≡ true → (o || b) ≡ true
  or_further true a b f e = refl
  or_further false a b f e = f e

  optional_by : (l : Lead) (t u : Tree) (ts : Trees) → (has_optional t ≡ true → has_optional u ≡ true) → has_optional (node (shape_by (head_of l)) [] 0 (append (before l) (t ▸ ts))) ≡ true → has_optional (node (shape_by (head_of l)) [] 0 (append (before l) (u ▸ ts))) ≡ true
  optional_by (Called o) t u ts f e = or_further o (has_optional t) (has_optional u) f e
  optional_by (Member o) t u ts f e = or_further o (has_optional t) (has_optional u) f e
  optional_by (Keyed o) t u ts f e = or_further o (has_optional t) (has_optional u) f e
  optional_by (Given o a) t u ts f e = e
  optional_by (Keying o a) t u ts f e = e
  optional_by l t u ts f e = absurd (true≢false (sym e))

  -- a shorthand property fits in full
  in_full_fits : (ts : Trees) (s : Slot) → Takes AsValue s → fits strict s (node (shape.ObjectProperty Init false true false) [] 0 ts) ≡ true → fits strict s (node (shape.ObjectProperty Init false false false) [] 0 ts) ≡ true
  in_full_fits ts (one an_object_property) k e = (and_parts (repeats_key ts) (fits strict (one an_object_property) (node (shape.ObjectProperty Init false false false) [] 0 ts)) e).1
  in_full_fits ts (one an_expression) k e = absurd (refused_here strict (one an_expression) (shape.ObjectProperty Init false true false) [] 0 ts refl e)
  in_full_fits ts (one_or_absent an_expression) k e = absurd (refused_here strict (one_or_absent an_expression) (shape.ObjectProperty Init false true false) [] 0 ts refl e)
  in_full_fits ts (one an_argument) k e = absurd (refused_here strict (one an_argument) (shape.ObjectProperty Init false true false) [] 0 ts refl e)
  in_full_fits ts (one_or_absent an_argument) k e = absurd (refused_here strict (one_or_absent an_argument) (shape.ObjectProperty Init false true false) [] 0 ts refl e)
  in_full_fits ts (one (a_key true)) k e = absurd (refused_here strict (one (a_key true)) (shape.ObjectProperty Init false true false) [] 0 ts refl e)
  in_full_fits ts (one a_link) k e = absurd (refused_here strict (one a_link) (shape.ObjectProperty Init false true false) [] 0 ts refl e)
  in_full_fits ts (one a_chain) k e = absurd (refused_here strict (one a_chain) (shape.ObjectProperty Init false true false) [] 0 ts refl e)
  in_full_fits ts s k e = absurd k

  found_fits : (c : Asked) (o : Bool) (ts : Trees) (b : Bool) (l : Lead) → Stands c l o → (s : Slot) → Takes c s → fits strict s (node (shape_by (found_head b l)) [] 0 ts) ≡ true → fits strict s (node (shape_by (head_of l)) [] 0 ts) ≡ true
  found_fits c o ts = by_front (λ l h. Stands c l o → (s : Slot) → Takes c s → fits strict s (node (shape_by h) [] 0 ts) ≡ true → fits strict s (node (shape_by (head_of l)) [] 0 ts) ≡ true) (λ l v s k e. e) (λ a own v s k e. by c a v s k e)
    where
      by : (c : Asked) (a : Tree) → Stands c (Fielding false a) o → (s : Slot) → Takes c s → fits strict s (node (shape.ObjectProperty Init false true false) [] 0 ts) ≡ true → fits strict s (node (shape.ObjectProperty Init false false false) [] 0 ts) ≡ true
      by AsValue a v s k e = in_full_fits ts s k e
      by c a v s k e = absurd v

  found_optional : (ts : Trees) (b : Bool) (l : Lead) → has_optional (node (shape_by (found_head b l)) [] 0 ts) ≡ true → has_optional (node (shape_by (head_of l)) [] 0 ts) ≡ true
  found_optional ts = by_front (λ l h. has_optional (node (shape_by h) [] 0 ts) ≡ true → has_optional (node (shape_by (head_of l)) [] 0 ts) ≡ true) (λ l e. e) (λ a own e. e)

  still_optional : (ss : List Step) (y : Name) (r : Tree) → has_optional (found ss (identifier y)) ≡ true → has_optional (led ss r) ≡ true
  still_optional [] y r e = absurd (true≢false (sym e))
  still_optional (s ∷ ss) y r e = optional_by s.lead (found ss (identifier y)) (led ss r) s.rest (still_optional ss y r) (found_optional (append (before s.lead) (found ss (identifier y) ▸ s.rest)) (ends_short s ss) s.lead e)

  abbrev found_there : Step → List Step → Name → Trees
  found_there q ss y = append (before q.lead) (found ss (identifier y) ▸ q.rest)

  put_value : (c : Asked) (ss : List Step) → Well c ss → (c ≡ AsWholeItem → ⊥) → (y : Name) (r : Tree) → Unsigned r ss → ((s : Slot) → Takes AsValue s → fits strict s (identifier y) ≡ true → fits strict s r ≡ true) → FitsAs c (found ss (identifier y)) (led ss r)
  put_value AsValue [] w n y r g f s k e = f s k e
  put_value AsValue (q ∷ ss) w n y r g f s k e =
      let inner = put_value (asked_below (head_of q.lead) AsValue (place 0 (before q.lead))) ss w.1 (below_value q.lead (is_end ss) w.0) y r g.1 f in
      room q.lead (is_end ss) w.0 s k (found ss (identifier y)) (led ss r) q.rest inner (value_step q.lead (is_end ss) w.0 (found ss (identifier y)) (led ss r) q.rest (same_count (asked_below (head_of q.lead) AsValue (place 0 (before q.lead))) ss w.1 (identifier y) r) (no_number q.lead ss r g.0) (still_optional ss y r) inner) (found_fits AsValue (is_end ss) (found_there q ss y) (ends_short q ss) q.lead w.0 s k e)
  put_value AsValues (q ∷ ss) w n y r g f s k e = list_step q.lead (is_end ss) w.0 (found ss (identifier y)) (led ss r) q.rest (put_value (asked_below (head_of q.lead) AsValues (place 0 (before q.lead))) ss w.1 (below_list q.lead (is_end ss) w.0) y r g.1 f) s k (found_fits AsValues (is_end ss) (found_there q ss y) (ends_short q ss) q.lead w.0 s k e)
  put_value AsTarget (q ∷ ss) w n y r g f (one a_target) k e =
      (target_step q.lead (is_end ss) w.0 AsTarget (found ss (identifier y)) (led ss r) q.rest (put_value (asked_below (head_of q.lead) AsTarget (place 0 (before q.lead))) ss w.1 (below_target q.lead (is_end ss) w.0 AsTarget) y r g.1 f)).0 (found_fits AsTarget (is_end ss) (found_there q ss y) (ends_short q ss) q.lead w.0 (one a_target) k e)
  put_value AsTarget (q ∷ ss) w n y r g f s k e = absurd k
  put_value AsUpdated (q ∷ ss) w n y r g f (one a_simple_target) k e =
      let stands = target_stands q.lead (is_end ss) w.0 in
      (target_step q.lead (is_end ss) stands AsUpdated (found ss (identifier y)) (led ss r) q.rest (put_value (asked_below (head_of q.lead) AsUpdated (place 0 (before q.lead))) ss w.1 (below_target q.lead (is_end ss) stands AsUpdated) y r g.1 f)).1 (found_fits AsUpdated (is_end ss) (found_there q ss y) (ends_short q ss) q.lead w.0 (one a_simple_target) k e)
  put_value AsUpdated (q ∷ ss) w n y r g f s k e = absurd k
  put_value AsWholeItem ss w n y r g f s k e = absurd (n refl)
  put_value c [] w n y r g f s k e = absurd w
  put_value c (q ∷ ss) w n y r g f s k e = absurd w.0

  -- an expression along a path
  put_along : (ss : List Step) → Well AsValue ss → (y : Name) (r : Tree) → Unsigned r ss → fits strict (one an_expression) r ≡ true → FitsAs AsValue (found ss (identifier y)) (led ss r)
  put_along ss w y r g f = put_value AsValue ss w (λ e. cc e) y r g (taken_by strict y r f)

-- what may stand in the place of what a tree reads: no number, or what its parts pass
abbrev pub MayStand : Name → Tree → Tree → Type 0
MayStand x r t = (is_number_shape (shape_of r) ≡ false) ⊎ (are_passed_by_value x r t ≡ true)

unsigned_lead : (r : Tree) → is_number_shape (shape_of r) ≡ false → (l : Lead) (b : Bool) → unsigned r l b ≡ true
unsigned_lead r n Minus true = ap (λ c. not c) n
unsigned_lead r n Minus false = refl
unsigned_lead r n l b = refl

unsigned_all : (r : Tree) → is_number_shape (shape_of r) ≡ false → (ss : List Step) → Unsigned r ss
unsigned_all r n [] = tt
unsigned_all r n (s ∷ ss) = (unsigned_lead r n s.lead (is_end ss), unsigned_all r n ss)

suited_lead : (r : Tree) (l : Lead) (b : Bool) → suited r l b ≡ true → unsigned r l b ≡ true
suited_lead r Minus b e = e
suited_lead r l b e = refl

suited_all : (r : Tree) (ss : List Step) → Suited r ss → Unsigned r ss
suited_all r [] e = tt
suited_all r (s ∷ ss) e = (suited_lead r s.lead (is_end ss) e.0, suited_all r ss e.1)

stands_there : (x : Name) (c : Asked) (t : Tree) (p : Path x c t) (r : Tree) → MayStand x r t → Unsigned r p.steps
stands_there x c t p r (inl n) = unsigned_all r n p.steps
stands_there x c t p r (inr e) = suited_all r p.steps (p.suit_in OfValues r e)

number_constant : (t : Tree) → is_number_shape (shape_of t) ≡ true → is_constant t ≡ true
number_constant (node (shape.NumericLiteral n) xs k none) e = refl
number_constant (node (shape.NumericLiteral n) xs k (t ▸ none)) e = refl
number_constant (node (shape.NumericLiteral n) xs k (t ▸ (u ▸ ts))) e = refl
number_constant t e = absurd (true≢false (sym e))

-- what is no constant is no number
pub no_number_there : (x : Name) (r t : Tree) → is_constant r ≡ false → MayStand x r t
no_number_there x r t v = by (is_number_shape (shape_of r)) refl
  where
    by : (b : Bool) → is_number_shape (shape_of r) ≡ b → MayStand x r t
    by true e = absurd (true≢false (sym (number_constant r e) ∙ v))
    by false e = inl e

stated : (l : Lead) → Stands AsWholeItem l true → (strict : Bool) (t u : Tree) (ts : Trees) → FitsAs strict AsValue t u → fits strict (one (a_statement nested)) (node (shape_by (head_of l)) [] 0 (t ▸ ts)) ≡ true → fits strict (one (a_statement nested)) (node (shape_by (head_of l)) [] 0 (u ▸ ts)) ≡ true
stated Doing s true t u ts f e = first_of (fits true (one an_expression) t) (fits true (one an_expression) u) _ (f (one an_expression) tt) e
stated Doing s false t u ts f e = first_of (fits false (one an_expression) t) (fits false (one an_expression) u) _ (f (one an_expression) tt) e
stated Giving s true t u ts f e = first_of (fits true (one_or_absent an_expression) t) (fits true (one_or_absent an_expression) u) _ (f (one_or_absent an_expression) tt) e
stated Giving s false t u ts f e = first_of (fits false (one_or_absent an_expression) t) (fits false (one_or_absent an_expression) u) _ (f (one_or_absent an_expression) tt) e
stated Raising s true t u ts f e = first_of (fits true (one an_expression) t) (fits true (one an_expression) u) _ (f (one an_expression) tt) e
stated Raising s false t u ts f e = first_of (fits false (one an_expression) t) (fits false (one an_expression) u) _ (f (one an_expression) tt) e
stated Testing s true t u ts f e = first_of (fits true (one an_expression) t) (fits true (one an_expression) u) _ (f (one an_expression) tt) e
stated Testing s false t u ts f e = first_of (fits false (one an_expression) t) (fits false (one an_expression) u) _ (f (one an_expression) tt) e
stated l s strict t u ts f e = absurd s

pub put_in : (strict : Bool) (x : Name) (t : Tree) → (e : is_first x false t ≡ true) → (r : Tree) → MayStand x r t → fits strict (one an_expression) r ≡ true → FitsAs strict AsValue t (put_first x r t)
put_in strict x t e r g f =
    let p = path x false t e in
    subst₂ (FitsAs strict AsValue) (sym p.is) (sym (p.puts r)) (put_along strict p.steps p.well p.read r (stands_there x AsValue t p r g) f)

pub put_fits : (strict : Bool) (x : Name) (head : Tree) → reads_first x head ≡ true → (r : Tree) → MayStand x r head → fits strict (one an_expression) r ≡ true → fits strict (one (a_statement nested)) head ≡ true → fits strict (one (a_statement nested)) (put_first x r head) ≡ true
put_fits strict x head e r h f g =
    let t = statement x head e in
    let p = t.path in
    let inner = subst₂ (FitsAs strict AsValue) (sym p.is) (sym (p.puts r)) (put_along strict p.steps p.well p.read r (stands_there x AsValue t.inner p r (below h)) f) in
    ap (fits strict (one (a_statement nested))) (t.puts r) ∙ stated t.lead (t.stands true) strict t.inner (put_first x r t.inner) t.rest inner (sym (ap (fits strict (one (a_statement nested))) t.is) ∙ g)
  where
    below : MayStand x r head → MayStand x r (statement x head e).inner
    below (inl n) = inl n
    below (inr p) = inr ((statement x head e).passed r p)

-- as what a declarator is initialised with
pub put_initial : (strict : Bool) (x : Name) (value : Tree) → is_first x false value ≡ true → (r : Tree) → MayStand x r value → fits strict (one an_expression) r ≡ true → fits strict (one_or_absent an_expression) value ≡ true → fits strict (one_or_absent an_expression) (put_first x r value) ≡ true
put_initial strict x value e r h f g = put_in strict x value e r h f (one_or_absent an_expression) tt g

-- as what a `switch` asks
pub put_asked : (strict : Bool) (x : Name) (value : Tree) → is_first x false value ≡ true → (r : Tree) → MayStand x r value → fits strict (one an_expression) r ≡ true → fits strict (one an_expression) value ≡ true → fits strict (one an_expression) (put_first x r value) ≡ true
put_asked strict x value e r h f g = put_in strict x value e r h f (one an_expression) tt g

-- as what a `for` begins with
begun : (strict : Bool) (t : Tree) → fits strict (one an_expression) t ≡ true → fits strict (one_or_absent an_init) t ≡ true
begun strict (node shape.Absent xs n ts) e = absurd (refused_here strict (one an_expression) shape.Absent xs n ts refl e)
begun strict (node (shape.VariableDeclaration k) xs n ts) e = absurd (refused_here strict (one an_expression) (shape.VariableDeclaration k) xs n ts refl e)
begun strict (node h xs n ts) e = e

begun_there : (strict : Bool) (ss : List Step) → Well AsValue ss → (y : Name) → fits strict (one_or_absent an_init) (found ss (identifier y)) ≡ true → fits strict (one an_expression) (found ss (identifier y)) ≡ true
begun_there strict [] w y e = e
begun_there strict (s ∷ ss) w y e =
    let ts = append (before s.lead) (found ss (identifier y) ▸ s.rest) in
    by_front (λ l h. Stands AsValue l (is_end ss) → fits strict (one_or_absent an_init) (node (shape_by h) [] 0 ts) ≡ true → fits strict (one an_expression) (node (shape_by h) [] 0 ts) ≡ true) (λ l v f. by l v ts f)
    (λ a own v f. absurd (refused_here strict (one_or_absent an_init) (shape.ObjectProperty Init false true false) [] 0 ts refl f)) (ends_short s ss) s.lead w.0 e
  where
    by : (l : Lead) → Stands AsValue l (is_end ss) → (ts : Trees) → fits strict (one_or_absent an_init) (node (shape_by (head_of l)) [] 0 ts) ≡ true → fits strict (one an_expression) (node (shape_by (head_of l)) [] 0 ts) ≡ true
    by Not s ts e = e
    by Plus s ts e = e
    by Minus s ts e = e
    by Tilde s ts e = e
    by Typing s ts e = e
    by Emptying s ts e = e
    by (Beside o) s ts e = e
    by (Deciding o) s ts e = e
    by Choosing s ts e = e
    by Passing s ts e = e
    by (Called o) s ts e = e
    by Making s ts e = e
    by (Waiting true) s ts e = e
    by (Waiting false) s ts e = e
    by (Member o) s ts e = e
    by (Keyed o) s ts e = e
    by Linking s ts e = e
    by Holding s ts e = e
    by Gathering s ts e = e
    by Spreading s ts e = e
    by Bracketing s ts e = e
    by (Against o a) s ts e = e
    by (Given o a) s ts e = e
    by (Filling a) s ts e = e
    by (Keying o a) s ts e = e
    by (Interpolating a) s ts e = e
    by (Following o a) s ts e = e
    by (Branching a) s ts e = e
    by (Failing a d) s ts e = e
    by (Storing o a) s ts e = e
    by (Targeted o) s ts e = e
    by (Changing o p) s ts e = e
    by (Fielding g a) s ts e = e
    by l s ts e = absurd s

pub put_begun : (strict : Bool) (x : Name) (value : Tree) → is_first x false value ≡ true → (r : Tree) → MayStand x r value → fits strict (one an_expression) r ≡ true → fits strict (one_or_absent an_init) value ≡ true → fits strict (one_or_absent an_init) (put_first x r value) ≡ true
put_begun strict x value e r h f g =
    let p = path x false value e in
    let there = ap (fits strict (one an_expression)) p.is ∙ begun_there strict p.steps p.well p.read (sym (ap (fits strict (one_or_absent an_init)) p.is) ∙ g) in
    begun strict (put_first x r value) (put_asked strict x value e r h f there)
