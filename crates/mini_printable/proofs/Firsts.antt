-- The words that a production has of its first part: labels, private names, shorthands, classes,
-- imports and exports.
use Rattle.std.proofs.Common.{◌≡◌, ℕ, Bool, true, false, ◌&&◌, ◌||◌, not, List, [], ◌∷◌, refl, sym}
use Rattle.std.specs.Prelude.{Option, Some, None, pos, is_some}
use Rattle.std.proofs.lemmas.Bool.{false≢true}
use Rattle.mini_model.specs.declared.name.Name.{Name}
use Rattle.mini_model.specs.declared.kind.PropertyKind.TheVariants as kind
use Rattle.mini_model.specs.declared.shape.Shape.{Shape}
use Rattle.mini_model.specs.declared.shape.Shape.TheVariants as shape
use Rattle.mini_model.specs.Tree.{Tree, Trees, node, none, ◌▸◌, child_or_absent}
use Rattle.mini_accept.specs.WellShaped as accept
use Rattle.mini_accept.specs.WellShaped.{Class, Slot, Depth, nested, in_body, in_module, a_statement, a_loop_left, a_label, a_private_name, a_binding, a_key, a_private_or_key, an_inner_key, a_module_name, an_exported_name, an_import, a_string, one, one_or_absent, many, these, slots_of, filling_by, none_if, in_depth, or_else, module_slots, is_sloppy_function, is_same_spelling, is_name, fits, is_whole, has_names}
use Rattle.mini_print.specs.Text.{is_word}
use Rattle.mini_print.specs.Printed.{shown, all_shown, first_spelling, first_is_absent, is_repeated, is_reference, is_text, spelling_of, part_at}
use Rattle.mini_printable.proofs.Clean.{and_l, and_r, both}
use Rattle.mini_printable.proofs.Rows.{never, second_of_two}
use Rattle.mini_printable.proofs.Pairs.{has_pairs, is_spelling, name_is_spelled, paired_has_pairs}

-- ---- the first slot

abbrev first_is : (Slot → Bool) → Option (List Slot) → Bool
first_is f None = true
first_is f (Some []) = false
first_is f (Some (s ∷ ss)) = f s

pub at_first : (inside : Bool) (f : Slot → Bool) (o : Option (List Slot)) (P : Trees → Type 0) (ts : Trees) → first_is f o ≡ true → accept.fill inside (filling_by o) ts ≡ true → ((s : Slot) (t : Tree) (us : Trees) → f s ≡ true → fits inside s t ≡ true → P (t ▸ us)) → P ts
at_first inside f None P ts d e g = absurd (false≢true e)
at_first inside f (Some []) P ts d e g = absurd (false≢true d)
at_first inside f (Some (s ∷ ss)) P none d e g = absurd (false≢true e)
at_first inside f (Some (s ∷ ss)) P (t ▸ ts) d e g = g s t ts d (and_l (fits inside s t) (accept.fill inside (these ss) ts) e)

abbrev pub is_name_slot : Slot → Bool
is_name_slot (one a_label) = true
is_name_slot (one a_private_name) = true
is_name_slot s = false

abbrev pub is_key_slot : Slot → Bool
is_key_slot (one (a_key false)) = true
is_key_slot (one (an_inner_key false)) = true
is_key_slot s = false

abbrev pub is_binding_slot : Slot → Bool
is_binding_slot (one a_binding) = true
is_binding_slot (one_or_absent a_binding) = true
is_binding_slot s = false

nothing_first : (f : Slot → Bool) (b : Bool) (d : Depth) → first_is f (none_if b (in_depth d None)) ≡ true
nothing_first f true d = refl
nothing_first f false in_module = refl
nothing_first f false in_body = refl
nothing_first f false nested = refl

pub label_first : (strict : Bool) (c : Class) → first_is is_name_slot (slots_of strict c shape.LabeledStatement) ≡ true
label_first strict (a_key true) = refl
label_first strict (a_private_or_key true) = refl
label_first strict (an_inner_key true) = refl
label_first strict c = refl

pub private_first : (strict : Bool) (c : Class) → first_is is_name_slot (slots_of strict c shape.PrivateInExpression) ≡ true
private_first strict (a_statement d) = nothing_first is_name_slot (is_sloppy_function strict d shape.PrivateInExpression) d
private_first strict (a_key true) = refl
private_first strict (a_private_or_key true) = refl
private_first strict (an_inner_key true) = refl
private_first strict c = refl

pub target_first : (strict : Bool) (c : Class) → first_is is_name_slot (slots_of strict c shape.AssignmentTargetPropertyIdentifier) ≡ true
target_first strict (a_statement d) = nothing_first is_name_slot (is_sloppy_function strict d shape.AssignmentTargetPropertyIdentifier) d
target_first strict (a_key true) = refl
target_first strict (a_private_or_key true) = refl
target_first strict (an_inner_key true) = refl
target_first strict c = refl

pub bound_first : (strict : Bool) (c : Class) → first_is is_key_slot (slots_of strict c (shape.BindingProperty true false)) ≡ true
bound_first strict (a_statement d) = nothing_first is_key_slot (is_sloppy_function strict d (shape.BindingProperty true false)) d
bound_first strict (a_key true) = refl
bound_first strict (a_private_or_key true) = refl
bound_first strict (an_inner_key true) = refl
bound_first strict c = refl

pub property_first : (strict : Bool) (c : Class) → first_is is_key_slot (slots_of strict c (shape.ObjectProperty kind.Init false true false)) ≡ true
property_first strict (a_statement d) = nothing_first is_key_slot (is_sloppy_function strict d (shape.ObjectProperty kind.Init false true false)) d
property_first strict (a_key true) = refl
property_first strict (a_private_or_key true) = refl
property_first strict (an_inner_key true) = refl
property_first strict c = refl

declared_first : (b : Bool) (ss : List Slot) → first_is is_binding_slot (none_if b (Some (one a_binding ∷ ss))) ≡ true
declared_first true ss = refl
declared_first false ss = refl

pub class_first : (strict : Bool) (c : Class) (b : Bool) → first_is is_binding_slot (slots_of strict c (shape.Class b)) ≡ true
class_first strict (a_statement d) true = declared_first (is_sloppy_function strict d (shape.Class true)) (one_or_absent (accept.an_inner accept.an_expression) ∷ one accept.a_class_body ∷ one_or_absent a_binding ∷ [])
class_first strict (a_statement d) false = nothing_first is_binding_slot (is_sloppy_function strict d (shape.Class false)) d
class_first strict (a_key true) true = refl
class_first strict (a_key true) false = refl
class_first strict (a_key false) b = refl
class_first strict (a_private_or_key true) b = refl
class_first strict (an_inner_key true) b = refl
class_first strict c true = refl
class_first strict c false = refl

-- ---- names

pub fields_of : (c : Class) (h : Shape) (xs : List Name) (n : ℕ) (ts : Trees) (b : Bool) → (is_whole c h xs n ts && b) ≡ true → accept.has_plain_fields h ≡ true
fields_of c h xs n ts b e = and_l (accept.has_plain_fields h) (accept.has_its_parts c h ts) (and_r (accept.has_its_number c h n) (accept.has_plain_fields h && accept.has_its_parts c h ts) (and_r (has_names h xs) (accept.has_its_number c h n && (accept.has_plain_fields h && accept.has_its_parts c h ts)) (and_l (is_whole c h xs n ts) b e)))

pub names_in : (c : Class) (h : Shape) (xs : List Name) (n : ℕ) (ts : Trees) (b : Bool) → (is_whole c h xs n ts && b) ≡ true → has_names h xs ≡ true
names_in c h xs n ts b e = and_l (has_names h xs) (accept.has_its_number c h n && (accept.has_plain_fields h && accept.has_its_parts c h ts)) (and_l (is_whole c h xs n ts) b e)

pub name_spelled : (inside : Bool) (s : Slot) (t : Tree) (us : Trees) → is_name_slot s ≡ true → fits inside s t ≡ true → is_spelling (first_spelling (shown t ▸ us)) ≡ true
name_spelled inside (one a_label) (node (shape.IdentifierName s) xs n ts) us d e = name_is_spelled s (fields_of a_label (shape.IdentifierName s) xs n ts (accept.fill inside (these []) ts) e)
name_spelled inside (one a_label) (node h xs n ts) us d e = absurd (never (is_whole a_label h xs n ts) e)
name_spelled inside (one a_private_name) (node (shape.PrivateIdentifier s) xs n ts) us d e = name_is_spelled s (fields_of a_private_name (shape.PrivateIdentifier s) xs n ts (accept.fill inside (these []) ts) e)
name_spelled inside (one a_private_name) (node h xs n ts) us d e = absurd (never (is_whole a_private_name h xs n ts) e)
name_spelled inside s t us d e = absurd (false≢true d)

same_some : (a b : Option (List ℕ)) → is_same_spelling a b ≡ true → is_some a ≡ true
same_some None b e = absurd (false≢true e)
same_some (Some s) b e = refl

key_word : (inside : Bool) (t : Tree) (us : Trees) → fits inside (one (a_key false)) t ≡ true → is_some (accept.spelling t) ≡ true → is_spelling (first_spelling (shown t ▸ us)) ≡ true
key_word inside (node (shape.IdentifierName s) xs n ts) us e q = name_is_spelled s (fields_of (a_key false) (shape.IdentifierName s) xs n ts (accept.fill inside (these []) ts) e)
key_word inside (node (shape.StringLiteral s) xs n ts) us e q = absurd (false≢true q)
key_word inside (node (shape.NumericLiteral (pos m)) xs n ts) us e q = absurd (false≢true q)
key_word inside (node h xs n ts) us e q = absurd (never (is_whole (a_key false) h xs n ts) e)

inner_key_word : (inside : Bool) (t : Tree) (us : Trees) → fits inside (one (an_inner_key false)) t ≡ true → is_some (accept.spelling t) ≡ true → is_spelling (first_spelling (shown t ▸ us)) ≡ true
inner_key_word inside (node (shape.IdentifierName s) xs n ts) us e q = name_is_spelled s (fields_of (an_inner_key false) (shape.IdentifierName s) xs n ts (accept.fill inside (these []) ts) e)
inner_key_word inside (node (shape.StringLiteral s) xs n ts) us e q = absurd (false≢true q)
inner_key_word inside (node (shape.NumericLiteral (pos m)) xs n ts) us e q = absurd (false≢true q)
inner_key_word inside (node h xs n ts) us e q = absurd (never (is_whole (an_inner_key false) h xs n ts) e)

pub key_spelled : (inside : Bool) (s : Slot) (t : Tree) (us vs : Trees) → is_key_slot s ≡ true → fits inside s t ≡ true → accept.repeats_key (t ▸ vs) ≡ true → is_spelling (first_spelling (shown t ▸ us)) ≡ true
key_spelled inside (one (a_key false)) t us vs d e q = key_word inside t us e (same_some (accept.spelling t) (accept.spelling (accept.without_default (child_or_absent (t ▸ vs) 1))) q)
key_spelled inside (one (an_inner_key false)) t us vs d e q = inner_key_word inside t us e (same_some (accept.spelling t) (accept.spelling (accept.without_default (child_or_absent (t ▸ vs) 1))) q)
key_spelled inside s t us vs d e q = absurd (false≢true d)

-- ---- names that are bound, or absent

abbrev pub is_bound_word : Trees → Bool
is_bound_word us = first_is_absent us || is_spelling (first_spelling us)

bound_word : (inside : Bool) (t : Tree) (us : Trees) → fits inside (one a_binding) t ≡ true → is_bound_word (shown t ▸ us) ≡ true
bound_word inside (node shape.BindingIdentifier (x ∷ []) n ts) us e = name_is_spelled x.spelling (names_in a_binding shape.BindingIdentifier (x ∷ []) n ts (accept.fill inside (these []) ts) e)
bound_word inside (node shape.BindingIdentifier [] n ts) us e = absurd (false≢true e)
bound_word inside (node shape.BindingIdentifier (x ∷ (y ∷ xs)) n ts) us e = absurd (false≢true e)
bound_word inside (node h xs n ts) us e = absurd (never (is_whole a_binding h xs n ts) e)

maybe_word : (inside : Bool) (t : Tree) (us : Trees) → fits inside (one_or_absent a_binding) t ≡ true → is_bound_word (shown t ▸ us) ≡ true
maybe_word inside (node shape.Absent xs n ts) us e = refl
maybe_word inside (node h xs n ts) us e = bound_word inside (node h xs n ts) us e

pub binding_spelled : (inside : Bool) (s : Slot) (t : Tree) (us : Trees) → is_binding_slot s ≡ true → fits inside s t ≡ true → is_bound_word (shown t ▸ us) ≡ true
binding_spelled inside (one a_binding) t us d e = bound_word inside t us e
binding_spelled inside (one_or_absent a_binding) t us d e = maybe_word inside t us e
binding_spelled inside s t us d e = absurd (false≢true d)

-- ---- the specifiers of imports and exports

bound_text : (inside : Bool) (t : Tree) → fits inside (one a_binding) t ≡ true → is_text (shown t) ≡ false
bound_text inside (node shape.BindingIdentifier xs n ts) e = refl
bound_text inside (node h xs n ts) e = absurd (never (is_whole a_binding h xs n ts) e)

pub import_item : (inside : Bool) (t u : Tree) → fits inside (one a_module_name) t ≡ true → fits inside (one a_binding) u ≡ true → (not (is_repeated (shown t ▸ (shown u ▸ none))) || is_spelling (first_spelling (shown t ▸ (shown u ▸ none)))) ≡ true
import_item inside (node (shape.IdentifierName s) xs n ts) u e f = second_of_two (not (is_repeated (node (shape.IdentifierName s) xs n (all_shown ts) ▸ (shown u ▸ none)))) (is_spelling s) (name_is_spelled s (fields_of a_module_name (shape.IdentifierName s) xs n ts (accept.fill inside (these []) ts) e))
import_item inside (node (shape.StringLiteral s) xs n ts) u e f = text_item s xs n (all_shown ts) (shown u) (bound_text inside u f)
  where
    text_item : (s : List ℕ) (xs : List Name) (n : ℕ) (us : Trees) (v : Tree) → is_text v ≡ false → (not (is_repeated (node (shape.StringLiteral s) xs n us ▸ (v ▸ none))) || is_spelling []) ≡ true
    text_item s xs n us (node (shape.StringLiteral r) ys m vs) e = absurd (false≢true (sym e))
    text_item s xs n us (node h ys m vs) e = refl
import_item inside (node h xs n ts) u e f = absurd (never (is_whole a_module_name h xs n ts) e)

pub export_item : (inside : Bool) (t : Tree) (us : Trees) → fits inside (one an_exported_name) t ≡ true → (((not (is_reference (part_at 0 (shown t ▸ us))) && is_text (part_at 0 (shown t ▸ us))) || is_spelling (spelling_of (part_at 0 (shown t ▸ us)))) && has_pairs false (spelling_of (part_at 0 (shown t ▸ us)))) ≡ true
export_item inside (node (shape.IdentifierName s) xs n ts) us e =
    let w = name_is_spelled s (fields_of an_exported_name (shape.IdentifierName s) xs n ts (accept.fill inside (these []) ts) e) in
    both (is_spelling s) (has_pairs false s) w (and_r (is_word s) (has_pairs false s) w)
export_item inside (node (shape.StringLiteral s) xs n ts) us e = paired_has_pairs s (fields_of an_exported_name (shape.StringLiteral s) xs n ts (accept.fill inside (these []) ts) e)
export_item inside (node shape.Identifier (x ∷ []) n ts) us e =
    let w = name_is_spelled x.spelling (names_in an_exported_name shape.Identifier (x ∷ []) n ts (accept.fill inside (these []) ts) e) in
    both (is_spelling x.spelling) (has_pairs false x.spelling) w (and_r (is_word x.spelling) (has_pairs false x.spelling) w)
export_item inside (node shape.Identifier [] n ts) us e = absurd (false≢true e)
export_item inside (node shape.Identifier (x ∷ (y ∷ xs)) n ts) us e = absurd (false≢true e)
export_item inside (node h xs n ts) us e = absurd (never (is_whole an_exported_name h xs n ts) e)

-- the text of a module
pub source_pairs : (inside : Bool) (t : Tree) → fits inside (one a_string) t ≡ true → has_pairs false (spelling_of (shown t)) ≡ true
source_pairs inside (node (shape.StringLiteral s) xs n ts) e = paired_has_pairs s (fields_of a_string (shape.StringLiteral s) xs n ts (accept.fill inside (these []) ts) e)
source_pairs inside (node h xs n ts) e = absurd (never (is_whole a_string h xs n ts) e)
