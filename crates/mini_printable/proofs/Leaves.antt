-- The tables of names, keys, patterns that are bound and what takes values as expressions do.
use Rattle.std.proofs.Common.{◌≡◌, ℕ, Bool, true, false, ◌&&◌, ◌||◌, not, List, [], ◌∷◌, refl, sym, ap, subst, ◌⊎◌, inl, inr}
use Rattle.std.specs.Prelude.{Option, Some, None, pos}
use Rattle.std.proofs.lemmas.Bool.{false≢true}
use Rattle.mini_model.specs.declared.name.Name.{Name}
use Rattle.mini_model.specs.declared.shape.Shape.{Shape}
use Rattle.mini_model.specs.declared.shape.Shape.TheVariants as shape
use Rattle.mini_model.specs.Tree.{Tree, Trees, node, none, ◌▸◌, shape_of, is_absent}
use Rattle.mini_model.specs.Weight.{same_text}
use Rattle.mini_accept.specs.WellShaped as accept
use Rattle.mini_accept.specs.WellShaped.{Class, Slot, one, one_or_absent, many, an_expression, an_inner, an_argument, an_inner_argument, a_key, an_inner_key, a_private_or_key, a_label, a_private_name, a_super, a_word, a_binding, a_pattern, a_pattern_element, a_pattern_property, a_pattern_rest, a_parameter, a_class_body, a_declarator, a_string, a_module_name, these, slots_of, filling_by, is_whole, has_names, fits}
use Rattle.mini_print.specs.Grammar.{Goal, Anything, Element, AfterDot, KeyName, ClassKey, LabelName, Binding, Bound, BoundElement, BoundProperty, Parameter, ClassBraces, Declared, HeadDeclared, SourceText, ModuleName, DefaultOf, Rule, Spread, SpreadItem, SuperHere, NameOf, BindingOf, is_reserved, form}
use Rattle.mini_print.specs.Printed as printed
use Rattle.mini_print.specs.Printed.{Want, a_part, a_list, a_perhaps, a_silent, turned, turned_of, rule_at, rule_in, wants, wants_of, is_wanted, is_sound, is_printable, shown, all_shown, seen, stands, taker, ABinding, element_of, rest_of, has_default_shape, second_is_absent, bound_of, first_spelling}
use Rattle.mini_printable.proofs.Clean.{and_r, both, is_clean, are_clean, clean_node}
use Rattle.mini_printable.proofs.Seats.{value, inner, inner_computed_key, inner_key, pattern, bound_element, value_or_none, bound_properties, bound_elements, members, Served, Below, parts, over_one, over_two}
use Rattle.mini_printable.proofs.Rows.{never, and_one, and_two, same_self, stands_at, part_of, core_of, value_stands, perhaps_of, stands_present, Row, by_row, leaf}
use Rattle.mini_printable.proofs.Values.{value_row}

-- ---- names, keys, texts

pub name_row : Row a_label AfterDot
name_row strict inside l (shape.IdentifierName s) [] n ts b e k v = leaf inside ts e
name_row strict inside l h xs n ts b e k v = absurd (never (has_names h xs) e)

pub private_name_row : Row a_private_name AfterDot
private_name_row strict inside l (shape.PrivateIdentifier s) [] n ts b e k v = leaf inside ts e
private_name_row strict inside l h xs n ts b e k v = absurd (never (has_names h xs) e)

-- of a label, which is no reserved word
pub label_stands : (strict : Bool) (h : Shape) (xs : List Name) (n : ℕ) (ts : Trees) → fits strict (one a_label) (node h xs n ts) ≡ true → is_clean true (node h xs n ts) ≡ true → stands_at LabelName (seen h xs n (all_shown ts)) ≡ true
label_stands strict (shape.IdentifierName s) [] n none e k =
    let c = clean_node true (shape.IdentifierName s) [] n none refl k in
    ap (λ r. not r && true) c.0
label_stands strict (shape.IdentifierName s) [] n (t ▸ ts) e k = absurd (never (is_whole a_label (shape.IdentifierName s) [] n (t ▸ ts)) e)
label_stands strict (shape.IdentifierName s) (x ∷ xs) n ts e k = absurd (false≢true e)
label_stands strict h xs n ts e k = absurd (never (is_whole a_label h xs n ts) e)

pub key_row : Row (a_key false) KeyName
key_row strict inside l (shape.IdentifierName s) [] n ts b e k v = leaf inside ts e
key_row strict inside l (shape.StringLiteral s) [] n ts b e k v = leaf inside ts e
key_row strict inside l (shape.NumericLiteral (pos m)) [] n ts b e k v = leaf inside ts e
key_row strict inside l h xs n ts b e k v = absurd (never (has_names h xs) e)

pub private_key_row : Row (a_private_or_key false) ClassKey
private_key_row strict inside l (shape.IdentifierName s) [] n ts b e k v = leaf inside ts e
private_key_row strict inside l (shape.StringLiteral s) [] n ts b e k v = leaf inside ts e
private_key_row strict inside l (shape.NumericLiteral (pos m)) [] n ts b e k v = leaf inside ts e
private_key_row strict inside l (shape.PrivateIdentifier s) [] n ts b e k v = leaf inside ts e
private_key_row strict inside l h xs n ts b e k v = absurd (never (has_names h xs) e)

pub text_row : Row a_string SourceText
text_row strict inside l (shape.StringLiteral s) [] n ts b e k v = leaf inside ts e
text_row strict inside l h xs n ts b e k v = absurd (never (has_names h xs) e)

pub module_name_row : Row a_module_name ModuleName
module_name_row strict inside l (shape.IdentifierName s) [] n ts b e k v = leaf inside ts e
module_name_row strict inside l (shape.StringLiteral s) [] n ts b e k v = leaf inside ts e
module_name_row strict inside l h xs n ts b e k v = absurd (never (has_names h xs) e)

pub super_shown : (strict : Bool) (t : Tree) → fits strict (one a_super) t ≡ true → is_printable (a_silent SuperHere) (shown t) ≡ true
super_shown strict (node shape.Super [] n none) e = refl
super_shown strict (node shape.Super [] n (t ▸ ts)) e = absurd (never (is_whole a_super shape.Super [] n (t ▸ ts)) e)
super_shown strict (node shape.Super (x ∷ xs) n ts) e = absurd (false≢true e)
super_shown strict (node h xs n ts) e = absurd (never (is_whole a_super h xs n ts) e)

pub word_shown : (strict : Bool) (s : List ℕ) (t : Tree) → fits strict (one (a_word s)) t ≡ true → is_printable (a_silent (NameOf s)) (shown t) ≡ true
word_shown strict s (node (shape.IdentifierName r) [] n none) e = by (same_text r s) (and_r (is_whole (a_word s) (shape.IdentifierName r) [] n none) (accept.fill strict (filling_by (accept.none_if (not (same_text r s)) (Some []))) none) e)
  where
    by : (b : Bool) → accept.fill strict (filling_by (accept.none_if (not b) (Some []))) none ≡ true → b ≡ true
    by true e = refl
    by false e = absurd (false≢true e)
word_shown strict s (node (shape.IdentifierName r) [] n (t ▸ ts)) e = absurd (by (same_text r s) (and_r (is_whole (a_word s) (shape.IdentifierName r) [] n (t ▸ ts)) (accept.fill strict (filling_by (accept.none_if (not (same_text r s)) (Some []))) (t ▸ ts)) e))
  where
    by : (b : Bool) → accept.fill strict (filling_by (accept.none_if (not b) (Some []))) (t ▸ ts) ≡ true → ⊥
    by true e = false≢true e
    by false e = false≢true e
word_shown strict s (node (shape.IdentifierName r) (x ∷ xs) n ts) e = absurd (false≢true e)
word_shown strict s (node h xs n ts) e = absurd (never (is_whole (a_word s) h xs n ts) e)

-- ---- what takes values as expressions do

in_element : (h : Shape) (us : Trees) (r : Option Rule) → (is_wanted Anything (turned_of Anything r) && (is_sound h us && printed.fill (wants_of h (turned_of Anything r)) us)) ≡ true → (is_wanted Element (turned_of Element r) && (is_sound h us && printed.fill (wants_of h (turned_of Element r)) us)) ≡ true
in_element h us None e = absurd (false≢true e)
in_element h us (Some Spread) e = absurd (false≢true e)
in_element h us (Some SpreadItem) e = absurd (false≢true e)
in_element h us (Some r) e = e

pub element_stands : (u : Tree) → stands_at Anything u ≡ true → stands_at Element u ≡ true
element_stands (node h xs n us) e = in_element h us (rule_at h xs us) e

pub argument_row : Row an_argument Element
argument_row strict inside l shape.SpreadElement [] n ts b e k v = parts ts b inside (value ∷ []) false refl e k
argument_row strict inside l shape.SpreadElement (x ∷ xs) n ts b e k v = absurd (false≢true e)
argument_row strict inside l h xs n ts b e k v = element_stands (seen h xs n (all_shown ts)) (value_row strict inside l h xs n ts b e k v)

pub computed_key_row : Row (a_key true) Anything
computed_key_row strict inside l h xs n ts b e k v = value_row strict inside l h xs n ts b e k v

-- ---- patterns that are bound

pub binding_row : Row a_binding Binding
binding_row strict inside l shape.BindingIdentifier (x ∷ []) n ts b e k v =
    let c = clean_node l shape.BindingIdentifier (x ∷ []) n ts refl k in
    both (not (is_reserved x.spelling) && (false || (not (is_reserved x.spelling) && true))) (printed.fill (Some []) (all_shown ts)) (ap (λ r. not r && (false || (not r && true))) c.0) (leaf inside ts (and_r (accept.is_name x.spelling) (accept.fill inside (these []) ts) e))
binding_row strict inside l h xs n ts b e k v = absurd (never (has_names h xs) e)

pub pattern_row : Row a_pattern Bound
pattern_row strict inside l shape.BindingIdentifier (x ∷ []) n ts b e k v =
    let c = clean_node l shape.BindingIdentifier (x ∷ []) n ts refl k in
    both (not (is_reserved x.spelling) && (false || (not (is_reserved x.spelling) && true))) (printed.fill (Some []) (all_shown ts)) (ap (λ r. not r && (false || (not r && true))) c.0) (leaf inside ts (and_r (accept.is_name x.spelling) (accept.fill inside (these []) ts) e))
pattern_row strict inside l shape.ObjectPattern [] n ts b e k v = parts ts b inside (bound_properties ∷ []) false refl e k
pattern_row strict inside l shape.ArrayPattern [] n ts b e k v = parts ts b inside (bound_elements ∷ []) false refl e k
pattern_row strict inside l h xs n ts b e k v = absurd (never (has_names h xs) e)

pub pattern_taker : (strict : Bool) (t : Tree) → fits strict (one a_pattern) t ≡ true → taker (shape_of (shown t)) ≡ ABinding
pattern_taker strict (node shape.BindingIdentifier xs n ts) e = refl
pattern_taker strict (node shape.ObjectPattern xs n ts) e = refl
pattern_taker strict (node shape.ArrayPattern xs n ts) e = refl
pattern_taker strict (node h xs n ts) e = absurd (never (is_whole a_pattern h xs n ts) e)

-- one with a default, as an element and as a parameter
defaulted : (g : Goal) (n : ℕ) (u v : Tree) → taker (shape_of u) ≡ ABinding → is_absent v ≡ false → (is_wanted g (Some (turned g (element_of ABinding))) && (is_printable (a_part Bound) u && (is_printable (a_perhaps Anything) v && true))) ≡ true → wants (form (turned g (element_of ABinding))) ≡ a_part Bound ∷ a_perhaps Anything ∷ [] → stands_at g (node shape.AssignmentPattern [] n (u ▸ (v ▸ none))) ≡ true
defaulted g n (node h xs m us) v t a e w =
    subst (λ k. (is_wanted g (Some (turned g (element_of k))) && (not (is_absent v) && printed.fill (Some (wants (form (turned g (element_of k))))) (node h xs m us ▸ (v ▸ none)))) ≡ true) (sym t)
    (subst (λ d. (is_wanted g (Some (turned g (element_of ABinding))) && (not d && printed.fill (Some (wants (form (turned g (element_of ABinding))))) (node h xs m us ▸ (v ▸ none)))) ≡ true) (sym a)
    (subst (λ ws. (is_wanted g (Some (turned g (element_of ABinding))) && printed.fill (Some ws) (node h xs m us ▸ (v ▸ none))) ≡ true) (sym w) e))

pub default_parts : (inside : Bool) (g : Goal) (n : ℕ) (ts : Trees) → (is_wanted g (Some (turned g (element_of ABinding))) ≡ true) × (wants (form (turned g (element_of ABinding))) ≡ a_part Bound ∷ a_perhaps Anything ∷ []) → Below ts → accept.fill inside (these (one a_pattern ∷ one (an_inner an_expression) ∷ [])) ts ≡ true → are_clean false ts ≡ true → stands_at g (node shape.AssignmentPattern [] n (all_shown ts)) ≡ true
default_parts inside g n ts w b e k =
    over_two inside false (one a_pattern) (one (an_inner an_expression)) (λ us. stands_at g (node shape.AssignmentPattern [] n (all_shown us)) ≡ true)
    (λ t u bt bu et eu kt ku.
    let held = value_stands (shown u) (bu.seat inside inner false refl eu ku) in
    defaulted g n (shown t) (shown u) (pattern_taker inside t et) (stands_present Anything (shown u) held) (both (is_wanted g (Some (turned g (element_of ABinding)))) (is_printable (a_part Bound) (shown t) && (is_printable (a_perhaps Anything) (shown u) && true)) w.0 (and_two (is_printable (a_part Bound) (shown t)) (is_printable (a_perhaps Anything) (shown u)) (bt.seat inside pattern false refl et kt) (perhaps_of Anything (shown u) held))) w.1)
    ts b e k

-- without a default it stands in the goal around the pattern's
pub element_at : (strict l : Bool) (h : Shape) (xs : List Name) (n : ℕ) (ts : Trees) → Below ts → fits strict (one a_pattern_element) (node h xs n ts) ≡ true → is_clean l (node h xs n ts) ≡ true → is_printable (a_part Parameter) (seen h xs n (all_shown ts)) ≡ true
element_at strict l shape.AssignmentPattern [] n ts b e k = part_of Parameter (node shape.AssignmentPattern [] n (all_shown ts)) (default_parts strict Parameter n ts (refl, refl) b (and_r (is_whole a_pattern_element shape.AssignmentPattern [] n ts) (accept.fill strict (these (one a_pattern ∷ one (an_inner an_expression) ∷ [])) ts) e) k)
element_at strict l shape.AssignmentPattern (x ∷ xs) n ts b e k = absurd (false≢true e)
element_at strict l h xs n ts b e k = core_of Parameter (seen h xs n (all_shown ts)) refl (by_row a_pattern Bound pattern_row strict l h xs n ts b e k)

pub bound_element_at : (strict l : Bool) (h : Shape) (xs : List Name) (n : ℕ) (ts : Trees) → Below ts → fits strict (one a_pattern_element) (node h xs n ts) ≡ true → is_clean l (node h xs n ts) ≡ true → is_printable (a_part BoundElement) (seen h xs n (all_shown ts)) ≡ true
bound_element_at strict l shape.AssignmentPattern [] n ts b e k = part_of BoundElement (node shape.AssignmentPattern [] n (all_shown ts)) (default_parts strict BoundElement n ts (refl, refl) b (and_r (is_whole a_pattern_element shape.AssignmentPattern [] n ts) (accept.fill strict (these (one a_pattern ∷ one (an_inner an_expression) ∷ [])) ts) e) k)
bound_element_at strict l shape.AssignmentPattern (x ∷ xs) n ts b e k = absurd (false≢true e)
bound_element_at strict l h xs n ts b e k = core_of BoundElement (seen h xs n (all_shown ts)) refl (by_row a_pattern Bound pattern_row strict l h xs n ts b e k)

pub parameter_at : (strict l : Bool) (h : Shape) (xs : List Name) (n : ℕ) (ts : Trees) → Below ts → fits strict (one a_parameter) (node h xs n ts) ≡ true → is_clean l (node h xs n ts) ≡ true → is_printable (a_part Parameter) (seen h xs n (all_shown ts)) ≡ true
parameter_at strict l shape.AssignmentPattern [] n ts b e k = part_of Parameter (node shape.AssignmentPattern [] n (all_shown ts)) (default_parts strict Parameter n ts (refl, refl) b (and_r (is_whole a_parameter shape.AssignmentPattern [] n ts) (accept.fill strict (these (one a_pattern ∷ one (an_inner an_expression) ∷ [])) ts) e) k)
parameter_at strict l shape.AssignmentPattern (x ∷ xs) n ts b e k = absurd (false≢true e)
parameter_at strict l h xs n ts b e k = core_of Parameter (seen h xs n (all_shown ts)) refl (by_row a_pattern Bound pattern_row strict l h xs n ts b e k)

-- a rest, as a parameter or an element and as a property
rest_stands : (g : Goal) (n : ℕ) (u : Tree) → taker (shape_of u) ≡ ABinding → (is_wanted g (Some (turned g (rest_of ABinding))) ≡ true) × (wants (form (turned g (rest_of ABinding))) ≡ a_part Bound ∷ []) → is_printable (a_part Bound) u ≡ true → stands_at g (node shape.RestElement [] n (u ▸ none)) ≡ true
rest_stands g n (node h xs m us) t w e =
    subst (λ k. (is_wanted g (Some (turned g (rest_of k))) && printed.fill (Some (wants (form (turned g (rest_of k))))) (node h xs m us ▸ none)) ≡ true) (sym t)
    (subst (λ ws. (is_wanted g (Some (turned g (rest_of ABinding))) && printed.fill (Some ws) (node h xs m us ▸ none)) ≡ true) (sym w.1) (both (is_wanted g (Some (turned g (rest_of ABinding)))) (is_printable (a_part Bound) (node h xs m us) && true) w.0 (and_one (is_printable (a_part Bound) (node h xs m us)) e)))

pub rest_row : Row a_pattern_rest Parameter
rest_row strict inside l shape.RestElement [] n ts b e k v =
    over_one inside false (one a_pattern) (λ us. stands_at Parameter (node shape.RestElement [] n (all_shown us)) ≡ true) (λ t bt et kt. rest_stands Parameter n (shown t) (pattern_taker inside t et) (refl, refl) (bt.seat inside pattern false refl et kt)) ts b e k
rest_row strict inside l h xs n ts b e k v = absurd (never (has_names h xs) e)

pub property_rest_row : Row a_pattern_rest BoundProperty
property_rest_row strict inside l shape.RestElement [] n ts b e k v =
    over_one inside false (one a_pattern) (λ us. stands_at BoundProperty (node shape.RestElement [] n (all_shown us)) ≡ true) (λ t bt et kt. rest_stands BoundProperty n (shown t) (pattern_taker inside t et) (refl, refl) (bt.seat inside pattern false refl et kt)) ts b e k
property_rest_row strict inside l h xs n ts b e k v = absurd (never (has_names h xs) e)

-- ---- properties of patterns

-- a property by its name alone
bound_shorthand : (n m : ℕ) (s : List ℕ) (u : Tree) → (is_reserved s ≡ false) × (((has_default_shape (shape_of u) ≡ false) × (is_printable (a_silent (BindingOf s)) u ≡ true)) ⊎ ((has_default_shape (shape_of u) ≡ true) × (is_printable (a_part (DefaultOf true s)) u ≡ true))) → stands_at BoundProperty (node (shape.BindingProperty true false) [] n (node (shape.IdentifierName s) [] m none ▸ (u ▸ none))) ≡ true
bound_shorthand n m s (node h xs k us) (r, inl a) =
    subst (λ d. (is_wanted BoundProperty (Some (turned BoundProperty (bound_of d s))) && printed.fill (Some (wants (form (turned BoundProperty (bound_of d s))))) (node (shape.IdentifierName s) [] m none ▸ (node h xs k us ▸ none))) ≡ true) (sym a.0)
    (both (not (is_reserved s) && (false || (not (is_reserved s) && true))) (same_text s s && (is_printable (a_silent (BindingOf s)) (node h xs k us) && true)) (ap (λ c. not c && (false || (not c && true))) r) (and_two (same_text s s) (is_printable (a_silent (BindingOf s)) (node h xs k us)) (same_self s) a.1))
bound_shorthand n m s (node h xs k us) (r, inr a) =
    subst (λ d. (is_wanted BoundProperty (Some (turned BoundProperty (bound_of d s))) && printed.fill (Some (wants (form (turned BoundProperty (bound_of d s))))) (node (shape.IdentifierName s) [] m none ▸ (node h xs k us ▸ none))) ≡ true) (sym a.0)
    (both (not (is_reserved s) && (false || (not (is_reserved s) && true))) (same_text s s && (is_printable (a_part (DefaultOf true s)) (node h xs k us) && true)) (ap (λ c. not c && (false || (not c && true))) r) (and_two (same_text s s) (is_printable (a_part (DefaultOf true s)) (node h xs k us)) (same_self s) a.1))

by_name : (inside : Bool) (n : ℕ) (t u : Tree) → Served u → fits inside (one (an_inner_key false)) t ≡ true → fits inside (one a_pattern_element) u ≡ true → is_clean false u ≡ true → accept.repeats_key (t ▸ (u ▸ none)) ≡ true → stands_at BoundProperty (node (shape.BindingProperty true false) [] n (shown t ▸ (shown u ▸ none))) ≡ true
by_name inside n (node (shape.IdentifierName s) [] m none) u b et eu ku v = bound_shorthand n m s (shown u) (b.named_by inside true eu ku s v)
by_name inside n (node (shape.IdentifierName s) [] m (w ▸ ws)) u b et eu ku v = absurd (never (is_whole (an_inner_key false) (shape.IdentifierName s) [] m (w ▸ ws)) et)
by_name inside n (node (shape.IdentifierName s) (x ∷ xs) m ts) u b et eu ku v = absurd (false≢true et)
by_name inside n (node (shape.StringLiteral s) xs m ts) u b et eu ku v = absurd (false≢true v)
by_name inside n (node (shape.NumericLiteral (pos i)) xs m ts) u b et eu ku v = absurd (false≢true v)
by_name inside n (node h xs m ts) u b et eu ku v = absurd (never (is_whole (an_inner_key false) h xs m ts) et)

pub bound_property_row : Row a_pattern_property BoundProperty
bound_property_row strict inside l (shape.BindingProperty false false) [] n ts b e k v = parts ts b inside (inner_key ∷ bound_element ∷ []) false refl e k
bound_property_row strict inside l (shape.BindingProperty false true) [] n ts b e k v = parts ts b inside (inner_computed_key ∷ bound_element ∷ []) false refl e k
bound_property_row strict inside l (shape.BindingProperty true true) [] n ts b e k v = absurd (false≢true v)
bound_property_row strict inside l (shape.BindingProperty true false) [] n ts b e k v =
    over_two inside false (one (an_inner_key false)) (one a_pattern_element) (λ us. accept.repeats_key us ≡ true → stands_at BoundProperty (node (shape.BindingProperty true false) [] n (all_shown us)) ≡ true) (λ t u bt bu et eu kt ku w. by_name inside n t u bu et eu ku w) ts b e k v
bound_property_row strict inside l h xs n ts b e k v = absurd (never (has_names h xs) e)

-- ---- declarators, the body of a class

pub declarator_row : Row a_declarator Declared
declarator_row strict inside l shape.VariableDeclarator xs n ts b e k v = parts ts b inside (pattern ∷ value_or_none ∷ []) false refl e k
declarator_row strict inside l h xs n ts b e k v = absurd (never (has_names h xs) e)

pub head_declarator_row : Row a_declarator HeadDeclared
head_declarator_row strict inside l shape.VariableDeclarator xs n ts b e k v = parts ts b inside (pattern ∷ value_or_none ∷ []) false refl e k
head_declarator_row strict inside l h xs n ts b e k v = absurd (never (has_names h xs) e)

pub class_body_row : Row a_class_body ClassBraces
class_body_row strict inside l shape.ClassBody [] n ts b e k v = parts ts b inside (members ∷ []) false refl e k
class_body_row strict inside l h xs n ts b e k v = absurd (never (has_names h xs) e)
