-- Which parts of a tree are expressions: those that stand where plain heads take one.
use Rattle.std.specs.Prelude.{ℕ, suc, ◌≡◌, refl, ◌&&◌, ◌||◌, not, pos, negsuc, Bool, true, false, List, [], ◌∷◌, ◌++◌, Option, Some, None}
use Rattle.std.proofs.Common.{ap, ◌∙◌, sym, subst, inl, inr, ◌⊎◌}
use Rattle.std.proofs.lemmas.Bool.{and_parts}
use Rattle.mini_model.specs.declared.name.Name.{Name}
use Rattle.mini_model.specs.declared.operator.AssignmentOperator.TheVariants.{Assign}
use Rattle.mini_model.specs.declared.shape.Shape.{Shape}
use Rattle.mini_model.specs.declared.shape.Shape.TheVariants as shape
use Rattle.mini_model.specs.Tree.{Tree, Trees, node, none, ◌▸◌, shape_of, child_or_absent}
use Rattle.mini_accept.specs.WellShaped.{Depth, in_module, in_body, nested, Class, a_statement, a_word, a_key, a_private_or_key, an_inner_key, an_expression, a_link, a_chain, an_argument, an_inner_argument, an_object_property, a_tagged_template, Slot, one, one_or_absent, many, many_or_holes, many_and_rest, many_or_holes_and_rest, quasis, Tagging, untagged, tagged, is_text, none_if, statement_slots, word_slots, slots_of, Filling, refused, these, each, each_or_last, pieces, filling_by, filling, class_of, has_names, has_its_number, has_plain_fields, has_its_parts, is_whole, is_strict_in, is_last, is_quasi, are_quasis, fits, fill}
use Rattle.mini_model.specs.Paths.{append}
use Rattle.mini_laws.specs.DeclaredNames.{own_names}
use Rattle.mini_kept.proofs.Bools.{left, right}
use Rattle.mini_kept.proofs.Expressions.{refused_here}
use Rattle.mini_kept.proofs.Quiet.{is_quiet}
use Rattle.mini_rows.specs.Sketches.{Head, AbsentPart, AList, Property, Spread, Interpolation, Number, PropertyName, Call, StaticMember, ComputedMember, Yield, Assignment, shape_by, Sketch, part, under, list, Sketches, end, ◌▹◌, Items, no_items, item, items, Parts, list_at, filled, all_filled, items_filled, Asked, AsWhole, AsWholeList, AsWholeItem, AsValue, AsValues, AsWord, AsHeld, AsTarget, AsUpdated, AsBranch, AsItems, AsItem, asked_below, item_asked, is_statement_asked, Leap, leaps, Hole, leap_holes, parts_of, parts_from, parts_in}
use Rattle.mini_rows.proofs.Arranging.{All, Any, Each, both_each}

abbrev pub is_no_inner : Shape → Bool
is_no_inner shape.InnerExpression = false
is_no_inner h = true

-- the shapes of expressions, and some others
abbrev pub is_value : Shape → Bool
is_value h = is_quiet h && is_no_inner h

-- ---- the slots of expressions

abbrev is_statement_slot : Slot → Bool
is_statement_slot (one (a_statement d)) = true
is_statement_slot (one_or_absent (a_statement d)) = true
is_statement_slot s = false

abbrev are_statement_slots : Slot → Bool
are_statement_slots (many (a_statement d)) = true
are_statement_slots s = false

abbrev pub suits : Asked → Slot → Bool
suits AsHeld s = true
suits c (quasis g) = false
suits AsValue (one an_expression) = true
suits AsValue (one a_link) = true
suits AsValue (one a_chain) = true
suits AsValue (one an_argument) = true
suits AsValue (one an_object_property) = true
suits AsValue (one (a_key true)) = true
suits AsValue (one_or_absent an_argument) = true
suits AsValue (one_or_absent an_expression) = true
suits AsValue s = false
suits AsValues (many an_expression) = true
suits AsValues (many an_argument) = true
suits AsValues (many an_object_property) = true
suits AsValues (many_or_holes an_argument) = true
suits AsValues s = false
suits AsWord s = true
suits AsTarget s = true
suits AsUpdated s = true
suits AsBranch s = is_statement_slot s
suits AsWholeItem s = is_statement_slot s
suits AsItem s = is_statement_slot s
suits AsWholeList s = are_statement_slots s
suits AsItems s = are_statement_slots s
suits AsWhole s = false

abbrev is_refused : Filling → Bool
is_refused refused = true
is_refused g = false

refused_is : (g : Filling) → is_refused g ≡ true → g ≡ refused
refused_is refused e = refl
refused_is g e = absurd (cc e)

expression_or_refused : (strict : Bool) (h : Shape) → (is_value h || is_refused (filling strict (one an_expression) h)) ≡ true
expression_or_refused strict (shape.Function true g ds) = refl
expression_or_refused strict (shape.Function false g ds) = refl
expression_or_refused strict (shape.Class true) = refl
expression_or_refused strict (shape.Class false) = refl
expression_or_refused strict h = refl

link_or_refused : (strict : Bool) (h : Shape) → (is_value h || is_refused (filling strict (one a_link) h)) ≡ true
link_or_refused strict (shape.Function true g ds) = refl
link_or_refused strict (shape.Function false g ds) = refl
link_or_refused strict (shape.Class true) = refl
link_or_refused strict (shape.Class false) = refl
link_or_refused strict h = refl

chain_or_refused : (strict : Bool) (h : Shape) → (is_value h || is_refused (filling strict (one a_chain) h)) ≡ true
chain_or_refused strict (shape.Function true g ds) = refl
chain_or_refused strict (shape.Function false g ds) = refl
chain_or_refused strict (shape.Class true) = refl
chain_or_refused strict (shape.Class false) = refl
chain_or_refused strict h = refl

argument_or_refused : (strict : Bool) (h : Shape) → (is_value h || is_refused (filling strict (one an_argument) h)) ≡ true
argument_or_refused strict (shape.Function true g ds) = refl
argument_or_refused strict (shape.Function false g ds) = refl
argument_or_refused strict (shape.Class true) = refl
argument_or_refused strict (shape.Class false) = refl
argument_or_refused strict h = refl

property_or_refused : (strict : Bool) (h : Shape) → (is_value h || is_refused (filling strict (one an_object_property) h)) ≡ true
property_or_refused strict (shape.Function true g ds) = refl
property_or_refused strict (shape.Function false g ds) = refl
property_or_refused strict (shape.Class true) = refl
property_or_refused strict (shape.Class false) = refl
property_or_refused strict h = refl

key_or_refused : (strict : Bool) (h : Shape) → (is_value h || is_refused (filling strict (one (a_key true)) h)) ≡ true
key_or_refused strict (shape.Function true g ds) = refl
key_or_refused strict (shape.Function false g ds) = refl
key_or_refused strict (shape.Class true) = refl
key_or_refused strict (shape.Class false) = refl
key_or_refused strict h = refl

element_or_refused : (strict : Bool) (h : Shape) → (is_value h || is_refused (filling strict (one_or_absent an_argument) h)) ≡ true
element_or_refused strict (shape.Function true g ds) = refl
element_or_refused strict (shape.Function false g ds) = refl
element_or_refused strict (shape.Class true) = refl
element_or_refused strict (shape.Class false) = refl
element_or_refused strict h = refl

maybe_or_refused : (strict : Bool) (h : Shape) → (is_value h || is_refused (filling strict (one_or_absent an_expression) h)) ≡ true
maybe_or_refused strict (shape.Function true g ds) = refl
maybe_or_refused strict (shape.Function false g ds) = refl
maybe_or_refused strict (shape.Class true) = refl
maybe_or_refused strict (shape.Class false) = refl
maybe_or_refused strict h = refl

value_or : (strict : Bool) (s : Slot) (t : Tree) → (is_value (shape_of t) || is_refused (filling strict s (shape_of t))) ≡ true → fits strict s t ≡ true → is_value (shape_of t) ≡ true
value_or strict s (node h xs n ts) e f = by (is_value h) e
  where
    by : (b : Bool) → (b || is_refused (filling strict s h)) ≡ true → b ≡ true
    by true e = refl
    by false e = absurd (refused_here strict s h xs n ts (refused_is (filling strict s h) e) f)

pub value_fits : (strict : Bool) (s : Slot) (t : Tree) → suits AsValue s ≡ true → fits strict s t ≡ true → is_value (shape_of t) ≡ true
value_fits strict (one an_expression) t e f = value_or strict (one an_expression) t (expression_or_refused strict (shape_of t)) f
value_fits strict (one a_link) t e f = value_or strict (one a_link) t (link_or_refused strict (shape_of t)) f
value_fits strict (one a_chain) t e f = value_or strict (one a_chain) t (chain_or_refused strict (shape_of t)) f
value_fits strict (one an_argument) t e f = value_or strict (one an_argument) t (argument_or_refused strict (shape_of t)) f
value_fits strict (one an_object_property) t e f = value_or strict (one an_object_property) t (property_or_refused strict (shape_of t)) f
value_fits strict (one (a_key true)) t e f = value_or strict (one (a_key true)) t (key_or_refused strict (shape_of t)) f
value_fits strict (one_or_absent an_argument) t e f = value_or strict (one_or_absent an_argument) t (element_or_refused strict (shape_of t)) f
value_fits strict (one_or_absent an_expression) t e f = value_or strict (one_or_absent an_expression) t (maybe_or_refused strict (shape_of t)) f
value_fits strict s t e f = absurd (cc e)

-- ---- statements

-- the shapes that hand nothing of what is around on, and have no names
abbrev pub is_calm : Shape → Bool
is_calm shape.Listed = false
is_calm shape.InnerExpression = false
is_calm shape.RestElement = false
is_calm shape.AssignmentPattern = false
is_calm shape.Identifier = false
is_calm shape.BindingIdentifier = false
is_calm shape.VariableDeclarator = false
is_calm h = true

calm_or_refused : (strict : Bool) (d : Depth) (h : Shape) → (is_calm h || is_refused (filling strict (one (a_statement d)) h)) ≡ true
calm_or_refused true in_module shape.Listed = refl
calm_or_refused true in_module h = refl
calm_or_refused true in_body shape.Listed = refl
calm_or_refused true in_body h = refl
calm_or_refused true nested shape.Listed = refl
calm_or_refused true nested h = refl
calm_or_refused false in_module shape.Listed = refl
calm_or_refused false in_module h = refl
calm_or_refused false in_body shape.Listed = refl
calm_or_refused false in_body h = refl
calm_or_refused false nested shape.Listed = refl
calm_or_refused false nested h = refl

or_maybe : (strict : Bool) (d : Depth) (h : Shape) → (is_calm h || is_refused (filling strict (one (a_statement d)) h)) ≡ true → (is_calm h || is_refused (filling strict (one_or_absent (a_statement d)) h)) ≡ true
or_maybe strict d shape.Absent e = refl
or_maybe strict d h e = e

calm_or : (strict : Bool) (s : Slot) (t : Tree) → (is_calm (shape_of t) || is_refused (filling strict s (shape_of t))) ≡ true → fits strict s t ≡ true → is_calm (shape_of t) ≡ true
calm_or strict s (node h xs n ts) e f = by (is_calm h) e
  where
    by : (b : Bool) → (b || is_refused (filling strict s h)) ≡ true → b ≡ true
    by true e = refl
    by false e = absurd (refused_here strict s h xs n ts (refused_is (filling strict s h) e) f)

calm_fits : (strict : Bool) (s : Slot) (t : Tree) → is_statement_slot s ≡ true → fits strict s t ≡ true → is_calm (shape_of t) ≡ true
calm_fits strict (one (a_statement d)) t e f = calm_or strict (one (a_statement d)) t (calm_or_refused strict d (shape_of t)) f
calm_fits strict (one_or_absent (a_statement d)) t e f = calm_or strict (one_or_absent (a_statement d)) t (or_maybe strict d (shape_of t) (calm_or_refused strict d (shape_of t))) f
calm_fits strict s t e f = absurd (cc e)

no_names_of : (h : Shape) (xs : List Name) → is_calm h ≡ true → has_names h xs ≡ true → xs ≡ []
no_names_of h [] e f = refl
no_names_of shape.Identifier (x ∷ xs) e f = absurd (cc e)
no_names_of shape.BindingIdentifier (x ∷ xs) e f = absurd (cc e)
no_names_of shape.VariableDeclarator (x ∷ xs) e f = absurd (cc e)
no_names_of h (x ∷ xs) e f = absurd (cc f)

unnamed : (strict : Bool) (s : Slot) (t : Tree) → is_calm (shape_of t) ≡ true → fits strict s t ≡ true → own_names t ≡ []
unnamed strict s (node h xs n ts) e f = no_names_of h xs e (left (has_names h xs) (has_its_number (class_of s) h n && (has_plain_fields h && has_its_parts (class_of s) h ts)) (left (is_whole (class_of s) h xs n ts) (fill (is_strict_in strict h) (filling strict s h) ts) f))

-- ---- the slots below plain heads

abbrev slots_suit : (ℕ → Asked) → ℕ → List Slot → Bool
slots_suit cs i [] = true
slots_suit cs i (s ∷ ss) = suits (cs i) s && slots_suit cs (suc i) ss

abbrev option_suits : (ℕ → Asked) → Option (List Slot) → Bool
option_suits cs None = true
option_suits cs (Some ss) = slots_suit cs 0 ss

statement_suits : (strict : Bool) (d : Depth) (h : Head) (c : Asked) → option_suits (asked_below h c) (statement_slots strict d (shape_by h)) ≡ true
statement_suits true in_module AList c = refl
statement_suits true in_module h c = refl
statement_suits true in_body AList c = refl
statement_suits true in_body h c = refl
statement_suits true nested AList c = refl
statement_suits true nested h c = refl
statement_suits false in_module AList c = refl
statement_suits false in_module h c = refl
statement_suits false in_body AList c = refl
statement_suits false in_body h c = refl
statement_suits false nested AList c = refl
statement_suits false nested h c = refl

no_slots : (b : Bool) (cs : ℕ → Asked) → option_suits cs (none_if b (Some [])) ≡ true
no_slots true cs = refl
no_slots false cs = refl

word_suits : (w : List ℕ) (h : Head) (c : Asked) → option_suits (asked_below h c) (word_slots w (shape_by h)) ≡ true
word_suits w (PropertyName s) c = no_slots (not (is_text s w)) (asked_below (PropertyName s) c)
word_suits w h c = refl

-- its parts suit any slot in which it stands; a list's, what is spread and what stands between the texts of a template suit where it does
abbrev pub suits_anywhere : Head → Bool
suits_anywhere AList = false
suits_anywhere Spread = false
suits_anywhere Interpolation = false
suits_anywhere h = true

pub class_suits : (strict : Bool) (k : Class) (h : Head) (c : Asked) → (suits_anywhere h || suits c (one k)) ≡ true → option_suits (asked_below h c) (slots_of strict k (shape_by h)) ≡ true
class_suits strict (a_statement d) h c e = statement_suits strict d h c
class_suits strict (a_word w) h c e = word_suits w h c
class_suits strict (a_key true) AList c e = refl
class_suits strict (a_private_or_key true) AList c e = refl
class_suits strict (an_inner_key true) AList c e = refl
class_suits strict an_inner_argument Spread AsValue e = absurd (cc e)
class_suits strict an_inner_argument Spread c e = refl
class_suits strict an_argument Spread AsValue e = refl
class_suits strict an_argument Spread c e = refl
class_suits strict an_object_property Spread AsValue e = refl
class_suits strict an_object_property Spread c e = refl
class_suits strict an_object_property (Property b true) c e = refl
class_suits strict an_object_property (Property b false) c e = refl
class_suits strict a_tagged_template Interpolation AsValue e = absurd (cc e)
class_suits strict k Interpolation AsValue e = refl
class_suits strict k Interpolation c e = refl
class_suits strict k (Assignment Assign) c e = refl
class_suits strict k (Yield true) c e = refl
class_suits strict k (Yield false) c e = refl
class_suits strict k (Number (pos n)) c e = refl
class_suits strict k (Number (negsuc n)) c e = refl
class_suits strict k (Call true) c e = refl
class_suits strict k (Call false) c e = refl
class_suits strict k (StaticMember true) c e = refl
class_suits strict k (StaticMember false) c e = refl
class_suits strict k (ComputedMember true) c e = refl
class_suits strict k (ComputedMember false) c e = refl
class_suits strict k h c e = refl

abbrev Suits : (ℕ → Asked) → ℕ → Filling → Type 0
Suits cs i refused = Unit {0}
Suits cs i (these ss) = slots_suit cs i ss ≡ true
Suits cs i (each s) = (j : ℕ) → suits (cs j) s ≡ true
Suits cs i (each_or_last s l) = (j : ℕ) → (suits (cs j) s ≡ true) × (suits (cs j) l ≡ true)
Suits cs i (pieces g) = (j : ℕ) → cs j ≡ AsHeld

of_option : (cs : ℕ → Asked) (o : Option (List Slot)) → option_suits cs o ≡ true → Suits cs 0 (filling_by o)
of_option cs None e = tt
of_option cs (Some ss) e = e

-- where something suits one that may be absent it suits one that may not
one_suits : (c : Asked) (k : Class) → suits c (one_or_absent k) ≡ true → suits c (one k) ≡ true
one_suits AsValue an_argument e = refl
one_suits AsValue an_expression e = refl
one_suits AsValue k e = absurd (cc e)
one_suits AsBranch (a_statement d) e = refl
one_suits AsBranch k e = absurd (cc e)
one_suits AsWholeItem (a_statement d) e = refl
one_suits AsWholeItem k e = absurd (cc e)
one_suits AsItem (a_statement d) e = refl
one_suits AsItem k e = absurd (cc e)
one_suits AsWord k e = refl
one_suits AsHeld k e = refl
one_suits AsTarget k e = refl
one_suits AsUpdated k e = refl
one_suits c k e = absurd (cc e)

or_one : (b : Bool) (c : Asked) (k : Class) → (b || suits c (one_or_absent k)) ≡ true → (b || suits c (one k)) ≡ true
or_one true c k e = refl
or_one false c k e = one_suits c k e

item_suits : (k : Class) (c : Asked) → suits c (many k) ≡ true → suits (item_asked c) (one k) ≡ true
item_suits an_expression AsValues e = refl
item_suits an_argument AsValues e = refl
item_suits an_object_property AsValues e = refl
item_suits k AsValues e = absurd (cc e)
item_suits (a_statement d) AsWholeList e = refl
item_suits k AsWholeList e = absurd (cc e)
item_suits (a_statement d) AsItems e = refl
item_suits k AsItems e = absurd (cc e)
item_suits k AsWord e = refl
item_suits k AsHeld e = refl
item_suits k AsTarget e = refl
item_suits k AsUpdated e = refl
item_suits k c e = absurd (cc e)

hole_suits : (k : Class) (c : Asked) → suits c (many_or_holes k) ≡ true → suits (item_asked c) (one_or_absent k) ≡ true
hole_suits an_argument AsValues e = refl
hole_suits k AsValues e = absurd (cc e)
hole_suits k AsWord e = refl
hole_suits k AsHeld e = refl
hole_suits k AsTarget e = refl
hole_suits k AsUpdated e = refl
hole_suits k c e = absurd (cc e)

rest_suits : (k r : Class) (c : Asked) → suits c (many_and_rest k r) ≡ true → (suits (item_asked c) (one k) ≡ true) × (suits (item_asked c) (one r) ≡ true)
rest_suits k r AsWord e = (refl, refl)
rest_suits k r AsHeld e = (refl, refl)
rest_suits k r AsTarget e = (refl, refl)
rest_suits k r AsUpdated e = (refl, refl)
rest_suits k r c e = absurd (cc e)

holes_suit : (k r : Class) (c : Asked) → suits c (many_or_holes_and_rest k r) ≡ true → (suits (item_asked c) (one_or_absent k) ≡ true) × (suits (item_asked c) (one r) ≡ true)
holes_suit k r AsWord e = (refl, refl)
holes_suit k r AsHeld e = (refl, refl)
holes_suit k r AsTarget e = (refl, refl)
holes_suit k r AsUpdated e = (refl, refl)
holes_suit k r c e = absurd (cc e)

pieces_suit : (g : Tagging) (c : Asked) → suits c (quasis g) ≡ true → item_asked c ≡ AsHeld
pieces_suit g AsHeld e = refl
pieces_suit g c e = absurd (cc e)

filling_suits : (strict : Bool) (s : Slot) (h : Head) (c : Asked) → (suits_anywhere h || suits c s) ≡ true → Suits (asked_below h c) 0 (filling strict s (shape_by h))
filling_suits strict (one k) h c e = of_option (asked_below h c) (slots_of strict k (shape_by h)) (class_suits strict k h c e)
filling_suits strict (one_or_absent k) AbsentPart c e = refl
filling_suits strict (one_or_absent k) h c e = of_option (asked_below h c) (slots_of strict k (shape_by h)) (class_suits strict k h c (or_one (suits_anywhere h) c k e))
filling_suits strict (many k) AList c e = λ j. item_suits k c e
filling_suits strict (many k) h c e = tt
filling_suits strict (many_or_holes k) AList c e = λ j. hole_suits k c e
filling_suits strict (many_or_holes k) h c e = tt
filling_suits strict (many_and_rest k r) AList c e = λ j. rest_suits k r c e
filling_suits strict (many_and_rest k r) h c e = tt
filling_suits strict (many_or_holes_and_rest k r) AList c e = λ j. holes_suit k r c e
filling_suits strict (many_or_holes_and_rest k r) h c e = tt
filling_suits strict (quasis g) AList c e = λ j. pieces_suit g c e
filling_suits strict (quasis g) h c e = tt

-- a list holds any number of items
is_list_filling : Filling → Bool
is_list_filling (these ss) = false
is_list_filling g = true

no_list_statement : (strict : Bool) (d : Depth) → statement_slots strict d shape.Listed ≡ None
no_list_statement true in_module = refl
no_list_statement true in_body = refl
no_list_statement true nested = refl
no_list_statement false in_module = refl
no_list_statement false in_body = refl
no_list_statement false nested = refl

no_list : (strict : Bool) (k : Class) → slots_of strict k shape.Listed ≡ None
no_list strict (a_statement d) = no_list_statement strict d
no_list strict (a_key true) = refl
no_list strict (a_key false) = refl
no_list strict (a_private_or_key true) = refl
no_list strict (a_private_or_key false) = refl
no_list strict (an_inner_key true) = refl
no_list strict (an_inner_key false) = refl
no_list strict k = refl

list_filling : (strict : Bool) (s : Slot) → is_list_filling (filling strict s shape.Listed) ≡ true
unfolding is_list_filling
list_filling strict (one k) = ap (λ o. is_list_filling (filling_by o)) (no_list strict k)
list_filling strict (one_or_absent k) = ap (λ o. is_list_filling (filling_by o)) (no_list strict k)
list_filling strict s = refl

listed_not : (strict : Bool) (s : Slot) (ss : List Slot) → filling strict s shape.Listed ≡ these ss → ⊥
unfolding is_list_filling
listed_not strict s ss e = cc (sym (list_filling strict s) ∙ ap is_list_filling e)

-- ---- parts

-- an expression is one by its root; a statement has no names of its own and hands nothing of what is around on
abbrev pub Calm : Tree → Type 0
Calm t = (own_names t ≡ []) × (is_calm (shape_of t) ≡ true)

statement_suits_slot : (c : Asked) (s : Slot) → is_statement_asked c ≡ true → suits c s ≡ true → is_statement_slot s ≡ true
statement_suits_slot AsBranch (quasis g) k e = absurd (cc e)
statement_suits_slot AsBranch s k e = e
statement_suits_slot AsWholeItem (quasis g) k e = absurd (cc e)
statement_suits_slot AsWholeItem s k e = e
statement_suits_slot AsItem (quasis g) k e = absurd (cc e)
statement_suits_slot AsItem s k e = e
statement_suits_slot c s k e = absurd (cc k)

abbrev pub Valued : Asked → Tree → Type 0
Valued AsValue t = is_value (shape_of t) ≡ true
Valued AsBranch t = Calm t
Valued AsWholeItem t = Calm t
Valued AsItem t = Calm t
Valued c t = Unit {0}

calmly : (strict : Bool) (s : Slot) (t : Tree) → is_statement_slot s ≡ true → fits strict s t ≡ true → Calm t
calmly strict s t e f =
    let c = calm_fits strict s t e f in
    (unnamed strict s t c f, c)

valued : (strict : Bool) (c : Asked) (s : Slot) (t : Tree) → suits c s ≡ true → fits strict s t ≡ true → Valued c t
valued strict AsValue s t e f = value_fits strict s t e f
valued strict AsBranch s t e f = calmly strict s t (statement_suits_slot AsBranch s refl e) f
valued strict AsWholeItem s t e f = calmly strict s t (statement_suits_slot AsWholeItem s refl e) f
valued strict AsItem s t e f = calmly strict s t (statement_suits_slot AsItem s refl e) f
valued strict c s t e f = tt

-- ---- pieces of a template's text

module _ (g : Tagging) where
  abbrev IsPiece : Tree → Type 0
  IsPiece t = (is_quasi g true t ≡ true) ⊎ (is_quasi g false t ≡ true)

  abbrev ArePieces : Trees → Type 0
  ArePieces none = Unit {0}
  ArePieces (t ▸ ts) = IsPiece t × ArePieces ts

  quasis_are : (ts : Trees) → are_quasis g ts ≡ true → ArePieces ts
  quasis_are none e = absurd (cc e)
  quasis_are (t ▸ none) e = (inl e, tt)
  quasis_are (t ▸ (u ▸ ts)) e =
      let (x, y) = and_parts (is_quasi g false t) (are_quasis g (u ▸ ts)) e in
      (inr x, quasis_are (u ▸ ts) y)

  filled_are : (strict : Bool) (ts : Trees) → fill strict (pieces g) ts ≡ true → ArePieces ts
  filled_are strict none e = absurd (cc e)
  filled_are strict (t ▸ ts) e = quasis_are (t ▸ ts) e

  more_pieces : (ts us : Trees) → ArePieces (append ts us) → ArePieces us
  more_pieces none us p = p
  more_pieces (t ▸ ts) us p = more_pieces ts us p.1

no_children : (g : Tagging) (last : Bool) (h : Shape) (t : Tree) (ts : Trees) → is_quasi g last (node h [] 0 (t ▸ ts)) ≡ true → ⊥
no_children g last h t ts e = cc e

no_listed_piece : (g : Tagging) (last : Bool) (ts : Trees) → is_quasi g last (node shape.Listed [] 0 ts) ≡ true → ⊥
no_listed_piece untagged last none e = cc e
no_listed_piece tagged last none e = cc e
no_listed_piece g last (t ▸ ts) e = no_children g last shape.Listed t ts e

held_all : (ts : Trees) → All Valued AsHeld ts
held_all none = tt
held_all (t ▸ ts) = (tt, held_all ts)

or_true : (b : Bool) → (b || true) ≡ true
or_true true = refl
or_true false = refl

either_fits : (a l b : Bool) → (a || (l && b)) ≡ true → (a ≡ true) ⊎ (b ≡ true)
either_fits true l b e = inl refl
either_fits false true b e = inr e
either_fits false false b e = absurd (cc e)

module _ (ps : Parts) where
  with_leaps : (ls : List Leap) (hs : List Hole) → Each Any Valued ps hs → Each Any Valued ps (leap_holes ls ++ hs)
  with_leaps [] hs a = a
  with_leaps (l ∷ ls) hs a = (tt, with_leaps ls hs a)

  -- a piece has no parts
  piece_valued : (g : Tagging) (last : Bool) (s : Sketch) → is_quasi g last (filled ps s) ≡ true → Each Any Valued ps (parts_of AsHeld s)
  piece_valued g last (part i) e = (tt, tt)
  piece_valued g last (under h end) e = with_leaps (leaps h) [] tt
  piece_valued g last (under h (s ▹ ss)) e = absurd (no_children g last (shape_by h) (filled ps s) (all_filled ps ss) e)
  piece_valued g last (list is) e = absurd (no_listed_piece g last (items_filled ps is) e)

  either_piece : (g : Tagging) (s : Sketch) → IsPiece g (filled ps s) → Each Any Valued ps (parts_of AsHeld s)
  either_piece g s (inl e) = piece_valued g true s e
  either_piece g s (inr e) = piece_valued g false s e

  pieces_valued : (g : Tagging) (is : Items) → ArePieces g (items_filled ps is) → Each Any Valued ps (parts_in AsHeld is)
  pieces_valued g no_items p = tt
  pieces_valued g (item s is) p = both_each Any Valued ps (parts_of AsHeld s) (parts_in AsHeld is) (either_piece g s p.0) (pieces_valued g is p.1)
  pieces_valued g (items i is) p = (held_all (list_at ps.lists i), pieces_valued g is (more_pieces g (list_at ps.lists i) (items_filled ps is) p))

  pieces_from : (g : Tagging) (cs : ℕ → Asked) → ((j : ℕ) → cs j ≡ AsHeld) → (i : ℕ) (ss : Sketches) → ArePieces g (all_filled ps ss) → Each Any Valued ps (parts_from cs i ss)
  pieces_from g cs k i end p = tt
  pieces_from g cs k i (s ▹ ss) p =
      both_each Any Valued ps (parts_of (cs i) s) (parts_from cs (suc i) ss) (subst (λ c. Each Any Valued ps (parts_of c s)) (sym (k i)) (either_piece g s p.0)) (pieces_from g cs k (suc i) ss p.1)

  abbrev is_no_pieces : Filling → Bool
  is_no_pieces (pieces g) = false
  is_no_pieces g = true

  stretch_valued : (strict : Bool) (c : Asked) (g : Filling) → is_no_pieces g ≡ true → Suits (λ j. c) 0 g → ((ss : List Slot) → g ≡ these ss → ⊥) → (ts us : Trees) → fill strict g (append ts us) ≡ true → All Valued c ts × (fill strict g us ≡ true)
  stretch_valued strict c refused o k n none us f = (tt, f)
  stretch_valued strict c refused o k n (t ▸ ts) us f = absurd (cc f)
  stretch_valued strict c (these ss) o k n ts us f = absurd (n ss refl)
  stretch_valued strict c (each s) o k n none us f = (tt, f)
  stretch_valued strict c (each s) o k n (t ▸ ts) us f =
      let (x, y) = and_parts (fits strict s t) (fill strict (each s) (append ts us)) f in
      let (a, b) = stretch_valued strict c (each s) o k n ts us y in
      ((valued strict c s t (k 0) x, a), b)
  stretch_valued strict c (each_or_last s l) o k n none us f = (tt, f)
  stretch_valued strict c (each_or_last s l) o k n (t ▸ ts) us f =
      let (x, y) = and_parts (fits strict s t || (is_last (append ts us) && fits strict l t)) (fill strict (each_or_last s l) (append ts us)) f in
      let (a, b) = stretch_valued strict c (each_or_last s l) o k n ts us y in
      ((elim (either_fits (fits strict s t) (is_last (append ts us)) (fits strict l t) x) [ inl w ↦ valued strict c s t (k 0).0 w | inr w ↦ valued strict c l t (k 0).1 w ], a), b)
  stretch_valued strict c (pieces g) o k n ts us f = absurd (cc o)

  mutual
    pub sketch_valued : (strict : Bool) (c : Asked) (s : Slot) (r : Sketch) → suits c s ≡ true → fits strict s (filled ps r) ≡ true → Each Any Valued ps (parts_of c r)
    sketch_valued strict c s (part i) e f = (valued strict c s (child_or_absent ps.trees i) e f, tt)
    sketch_valued strict c s (under h ss) e f =
        with_leaps (leaps h) (parts_from (asked_below h c) 0 ss) (sketches_valued (is_strict_in strict (shape_by h)) (asked_below h c) 0 (filling strict s (shape_by h)) (filling_suits strict s h c (ap (λ b. suits_anywhere h || b) e ∙ or_true (suits_anywhere h))) ss
        (right (is_whole (class_of s) (shape_by h) [] 0 (all_filled ps ss)) (fill (is_strict_in strict (shape_by h)) (filling strict s (shape_by h)) (all_filled ps ss)) f))
    sketch_valued strict c s (list is) e f =
        items_valued strict (item_asked c) (filling strict s shape.Listed) (filling_suits strict s AList c e) (listed_not strict s) is
        (right (is_whole (class_of s) shape.Listed [] 0 (items_filled ps is)) (fill strict (filling strict s shape.Listed) (items_filled ps is)) f)

    sketches_valued : (strict : Bool) (cs : ℕ → Asked) (i : ℕ) (g : Filling) → Suits cs i g → (ss : Sketches) → fill strict g (all_filled ps ss) ≡ true → Each Any Valued ps (parts_from cs i ss)
    sketches_valued strict cs i g k end f = tt
    sketches_valued strict cs i refused k (s ▹ ss) f = absurd (cc f)
    sketches_valued strict cs i (these []) k (s ▹ ss) f = absurd (cc f)
    sketches_valued strict cs i (these (x ∷ xs)) k (s ▹ ss) f =
        let (a, b) = and_parts (fits strict x (filled ps s)) (fill strict (these xs) (all_filled ps ss)) f in
        let (v, w) = and_parts (suits (cs i) x) (slots_suit cs (suc i) xs) k in
        both_each Any Valued ps (parts_of (cs i) s) (parts_from cs (suc i) ss) (sketch_valued strict (cs i) x s v a) (sketches_valued strict cs (suc i) (these xs) w ss b)
    sketches_valued strict cs i (each x) k (s ▹ ss) f =
        let (a, b) = and_parts (fits strict x (filled ps s)) (fill strict (each x) (all_filled ps ss)) f in
        both_each Any Valued ps (parts_of (cs i) s) (parts_from cs (suc i) ss) (sketch_valued strict (cs i) x s (k i) a) (sketches_valued strict cs (suc i) (each x) k ss b)
    sketches_valued strict cs i (each_or_last x l) k (s ▹ ss) f =
        let (a, b) = and_parts (fits strict x (filled ps s) || (is_last (all_filled ps ss) && fits strict l (filled ps s))) (fill strict (each_or_last x l) (all_filled ps ss)) f in
        both_each Any Valued ps (parts_of (cs i) s) (parts_from cs (suc i) ss)
        (elim (either_fits (fits strict x (filled ps s)) (is_last (all_filled ps ss)) (fits strict l (filled ps s)) a) [ inl w ↦ sketch_valued strict (cs i) x s (k i).0 w | inr w ↦ sketch_valued strict (cs i) l s (k i).1 w ])
        (sketches_valued strict cs (suc i) (each_or_last x l) k ss b)
    sketches_valued strict cs i (pieces g) k (s ▹ ss) f = pieces_from g cs k i (s ▹ ss) (filled_are g strict (filled ps s ▸ all_filled ps ss) f)

    items_valued : (strict : Bool) (c : Asked) (g : Filling) → Suits (λ j. c) 0 g → ((xs : List Slot) → g ≡ these xs → ⊥) → (is : Items) → fill strict g (items_filled ps is) ≡ true → Each Any Valued ps (parts_in c is)
    items_valued strict c (pieces g) k n is f = subst (λ d. Each Any Valued ps (parts_in d is)) (sym (k 0)) (pieces_valued g is (filled_are g strict (items_filled ps is) f))
    items_valued strict c g k n no_items f = tt
    items_valued strict c refused k n (items i is) f =
        let (a, b) = stretch_valued strict c refused refl k n (list_at ps.lists i) (items_filled ps is) f in
        (a, items_valued strict c refused k n is b)
    items_valued strict c (these xs) k n (items i is) f = absurd (n xs refl)
    items_valued strict c (each x) k n (items i is) f =
        let (a, b) = stretch_valued strict c (each x) refl k n (list_at ps.lists i) (items_filled ps is) f in
        (a, items_valued strict c (each x) k n is b)
    items_valued strict c (each_or_last x l) k n (items i is) f =
        let (a, b) = stretch_valued strict c (each_or_last x l) refl k n (list_at ps.lists i) (items_filled ps is) f in
        (a, items_valued strict c (each_or_last x l) k n is b)
    items_valued strict c refused k n (item s is) f = absurd (cc f)
    items_valued strict c (these xs) k n (item s is) f = absurd (n xs refl)
    items_valued strict c (each x) k n (item s is) f =
        let (a, b) = and_parts (fits strict x (filled ps s)) (fill strict (each x) (items_filled ps is)) f in
        both_each Any Valued ps (parts_of c s) (parts_in c is) (sketch_valued strict c x s (k 0) a) (items_valued strict c (each x) k n is b)
    items_valued strict c (each_or_last x l) k n (item s is) f =
        let (a, b) = and_parts (fits strict x (filled ps s) || (is_last (items_filled ps is) && fits strict l (filled ps s))) (fill strict (each_or_last x l) (items_filled ps is)) f in
        both_each Any Valued ps (parts_of c s) (parts_in c is)
        (elim (either_fits (fits strict x (filled ps s)) (is_last (items_filled ps is)) (fits strict l (filled ps s)) a) [ inl w ↦ sketch_valued strict c x s (k 0).0 w | inr w ↦ sketch_valued strict c l s (k 0).1 w ])
        (items_valued strict c (each_or_last x l) k n is b)

  -- below a head, in any slot
  pub head_valued : (strict : Bool) (c : Asked) (s : Slot) (h : Head) (ss : Sketches) → suits_anywhere h ≡ true → fits strict s (filled ps (under h ss)) ≡ true → Each Any Valued ps (parts_of c (under h ss))
  head_valued strict c s h ss e f =
      with_leaps (leaps h) (parts_from (asked_below h c) 0 ss)
      (sketches_valued (is_strict_in strict (shape_by h)) (asked_below h c) 0 (filling strict s (shape_by h)) (filling_suits strict s h c (ap (λ b. b || suits c s) e)) ss
      (right (is_whole (class_of s) (shape_by h) [] 0 (all_filled ps ss)) (fill (is_strict_in strict (shape_by h)) (filling strict s (shape_by h)) (all_filled ps ss)) f))
