-- What stands where: a slot of ESTree, and the part of a production that is in it.
use Rattle.std.proofs.Common.{◌≡◌, ℕ, Bool, true, false, ◌&&◌, ◌||◌, List, [], ◌∷◌, refl, ◌⊎◌}
use Rattle.std.specs.Prelude.{Some}
use Rattle.std.proofs.lemmas.Bool.{false≢true}
use Rattle.mini_model.specs.Tree.{Tree, Trees, none, ◌▸◌, shape_of, is_absent}
use Rattle.mini_accept.specs.WellShaped as accept
use Rattle.mini_accept.specs.WellShaped.{Class, Slot, nested, in_body, in_module, one, one_or_absent, many, many_or_holes, many_and_rest, many_or_holes_and_rest, an_expression, an_inner, an_argument, an_inner_argument, a_statement, a_key, an_inner_key, a_private_or_key, a_simple_target, a_target, a_label, a_private_name, a_super, a_word, an_object_property, a_declarator, a_case, a_catch, a_block, a_pattern, a_pattern_element, a_pattern_property, a_pattern_rest, a_parameter, a_binding, a_class_body, a_class_member, a_method, a_function_body, an_element_target, a_member_target, a_target_element, a_target_property, a_target_rest, a_named_target, a_loop_left, an_init, a_link, a_chain, a_string, a_module_name, an_exported_declaration, a_default_export, a_tagged_template, these, each, each_or_last, slots_of, filling, filling_by, is_whole, has_names, is_strict_in, fits}
use Rattle.mini_print.specs.Grammar.{Goal, Anything, Statement, Element, AfterDot, KeyName, ClassKey, Property, Declared, HeadDeclared, HeadDeclaration, Bound, BoundElement, BoundProperty, Parameter, Binding, LabelName, BlockOnly, Catching, CaseItem, ClassBraces, ClassElement, MethodValue, GeneratorValue, Body, TargetPattern, TargetElement, TargetProperty, DefaultOf, ModuleItem, SourceText, ModuleName, Exportable, DefaultDeclared, ExportItem, ForwardItem, TagTemplate, Nothing, Link, FirstLink, Zero, Gaps, SuperHere, NameOf, named, is_reserved}
use Rattle.mini_print.specs.Unprintable.{are_directives, are_plain_rests, is_pattern_rest, items_of, generates}
use Rattle.mini_print.specs.Printed as printed
use Rattle.mini_print.specs.Printed.{Want, a_part, a_list, a_perhaps, a_block as a_run, a_silent, is_printable, are_printable, is_gap, shown, all_shown, seen, stands, with_directives, taker, ABinding, APattern, AValue, is_target_shape, is_declaration, has_default_shape, has_optional, linked, declares_default}
use Rattle.mini_printable.proofs.Clean.{and_l, and_r, both, is_clean, are_clean}

pub data Seat : Type 0 where
  value argument inner inner_argument computed_key inner_computed_key private_computed_key key inner_key private_key name private_name label super_here property class_body binding pattern bound_element element parameter pattern_rest property_rest bound_property statement top_statement module_statement block_only simple_target target_element target_property target_rest declarator head_declarator case member text module_name tag_template : Seat
  word : List ℕ → Seat
  value_or_none inner_or_none label_or_none binding_or_none pattern_or_none statement_or_none block_or_none catch_or_none text_or_none module_name_or_none : Seat
  arguments elements properties values inner_arguments inner_values declarators head_declarators parameters bound_properties bound_elements target_elements block top_block module_block cases members : Seat

abbrev pub slot_at : Seat → Slot
slot_at value = one an_expression
slot_at argument = one an_argument
slot_at inner = one (an_inner an_expression)
slot_at inner_argument = one an_inner_argument
slot_at computed_key = one (a_key true)
slot_at inner_computed_key = one (an_inner_key true)
slot_at private_computed_key = one (a_private_or_key true)
slot_at key = one (a_key false)
slot_at inner_key = one (an_inner_key false)
slot_at private_key = one (a_private_or_key false)
slot_at name = one a_label
slot_at private_name = one a_private_name
slot_at label = one a_label
slot_at super_here = one a_super
slot_at property = one an_object_property
slot_at class_body = one a_class_body
slot_at binding = one a_binding
slot_at pattern = one a_pattern
slot_at bound_element = one a_pattern_element
slot_at element = one a_pattern_element
slot_at parameter = one a_parameter
slot_at pattern_rest = one a_pattern_rest
slot_at property_rest = one a_pattern_rest
slot_at bound_property = one a_pattern_property
slot_at statement = one (a_statement nested)
slot_at top_statement = one (a_statement in_body)
slot_at module_statement = one (a_statement in_module)
slot_at block_only = one a_block
slot_at simple_target = one a_simple_target
slot_at target_element = one a_target_element
slot_at target_property = one a_target_property
slot_at target_rest = one a_target_rest
slot_at declarator = one a_declarator
slot_at head_declarator = one a_declarator
slot_at case = one a_case
slot_at member = one a_class_member
slot_at text = one a_string
slot_at module_name = one a_module_name
slot_at tag_template = one a_tagged_template
slot_at (word s) = one (a_word s)
slot_at value_or_none = one_or_absent an_expression
slot_at inner_or_none = one_or_absent (an_inner an_expression)
slot_at label_or_none = one_or_absent a_label
slot_at binding_or_none = one_or_absent a_binding
slot_at pattern_or_none = one_or_absent a_pattern
slot_at statement_or_none = one_or_absent (a_statement nested)
slot_at block_or_none = one_or_absent a_block
slot_at catch_or_none = one_or_absent a_catch
slot_at text_or_none = one_or_absent a_string
slot_at module_name_or_none = one_or_absent a_module_name
slot_at arguments = many an_argument
slot_at elements = many_or_holes an_argument
slot_at properties = many an_object_property
slot_at values = many an_expression
slot_at inner_arguments = many an_inner_argument
slot_at inner_values = many (an_inner an_expression)
slot_at declarators = many a_declarator
slot_at head_declarators = many a_declarator
slot_at parameters = many_and_rest a_parameter a_pattern_rest
slot_at bound_properties = many_and_rest a_pattern_property a_pattern_rest
slot_at bound_elements = many_or_holes_and_rest a_pattern_element a_pattern_rest
slot_at target_elements = many_or_holes_and_rest a_target_element a_target_rest
slot_at block = many (a_statement nested)
slot_at top_block = many (a_statement in_body)
slot_at module_block = many (a_statement in_module)
slot_at cases = many a_case
slot_at members = many a_class_member

abbrev pub want_at : Seat → Want
want_at value = a_part Anything
want_at argument = a_part Element
want_at inner = a_part Anything
want_at inner_argument = a_part Element
want_at computed_key = a_part Anything
want_at inner_computed_key = a_part Anything
want_at private_computed_key = a_part Anything
want_at key = a_part KeyName
want_at inner_key = a_part KeyName
want_at private_key = a_part ClassKey
want_at name = a_part AfterDot
want_at private_name = a_part AfterDot
want_at label = a_part LabelName
want_at super_here = a_silent SuperHere
want_at property = a_part Property
want_at class_body = a_part ClassBraces
want_at binding = a_part Binding
want_at pattern = a_part Bound
want_at bound_element = a_part BoundElement
want_at element = a_part Parameter
want_at parameter = a_part Parameter
want_at pattern_rest = a_part Parameter
want_at property_rest = a_part BoundProperty
want_at bound_property = a_part BoundProperty
want_at statement = a_part Statement
want_at top_statement = a_part Statement
want_at module_statement = a_part ModuleItem
want_at block_only = a_part BlockOnly
want_at simple_target = a_part Anything
want_at target_element = a_part TargetElement
want_at target_property = a_part TargetProperty
want_at target_rest = a_part TargetElement
want_at declarator = a_part Declared
want_at head_declarator = a_part HeadDeclared
want_at case = a_part CaseItem
want_at member = a_part ClassElement
want_at text = a_part SourceText
want_at module_name = a_part ModuleName
want_at tag_template = a_part TagTemplate
want_at (word s) = a_silent (NameOf s)
want_at value_or_none = a_perhaps Anything
want_at inner_or_none = a_perhaps Anything
want_at label_or_none = a_perhaps LabelName
want_at binding_or_none = a_perhaps Binding
want_at pattern_or_none = a_perhaps Bound
want_at statement_or_none = a_perhaps Statement
want_at block_or_none = a_perhaps BlockOnly
want_at catch_or_none = a_perhaps Catching
want_at text_or_none = a_perhaps SourceText
want_at module_name_or_none = a_perhaps ModuleName
want_at arguments = a_list Element Zero
want_at elements = a_list Element Gaps
want_at properties = a_list Property Zero
want_at values = a_list Anything Zero
want_at inner_arguments = a_list Element Zero
want_at inner_values = a_list Anything Zero
want_at declarators = a_list Declared Zero
want_at head_declarators = a_list HeadDeclared Zero
want_at parameters = a_list Parameter Zero
want_at bound_properties = a_list BoundProperty Zero
want_at bound_elements = a_list Parameter Gaps
want_at target_elements = a_list TargetElement Gaps
want_at block = a_run Statement
want_at top_block = a_run Statement
want_at module_block = a_run ModuleItem
want_at cases = a_run CaseItem
want_at members = a_run ClassElement

-- a label stands below a statement that has one
abbrev pub suits : Bool → Seat → Bool
suits l label = l
suits l label_or_none = l
suits l _ = true

abbrev pub all_suit : Bool → List Seat → Bool
all_suit l [] = true
all_suit l (r ∷ rs) = suits l r && all_suit l rs

abbrev pub slots_at : List Seat → List Slot
slots_at [] = []
slots_at (r ∷ rs) = slot_at r ∷ slots_at rs

abbrev pub wants_at : List Seat → List Want
wants_at [] = []
wants_at (r ∷ rs) = want_at r ∷ wants_at rs

-- ---- parts of which more has to be known

abbrev pub method_goal : Bool → Goal
method_goal false = MethodValue
method_goal true = GeneratorValue

-- a method's value, a generator or not
abbrev pub MethodOf : Tree → Tree → Type 0
MethodOf t u = (g : Bool) × ((generates t ≡ g) × (printed.generates (shape_of u) ≡ g) × (is_printable (a_part (method_goal g)) u ≡ true))

-- what is assigned to: a pattern, or a value
abbrev pub Assigned : Tree → Type 0
Assigned u =
    ((taker (shape_of u) ≡ APattern) × (is_target_shape (shape_of u) ≡ true) × (is_declaration (shape_of u) ≡ false) × (is_printable (a_part TargetPattern) u ≡ true)) ⊎
    ((taker (shape_of u) ≡ AValue) × (is_target_shape (shape_of u) ≡ false) × (is_declaration (shape_of u) ≡ false) × (is_printable (a_part Anything) u ≡ true))

-- the head of a loop: a declaration, or else
abbrev pub Headed : (Tree → Type 0) → Tree → Type 0
Headed P u = ((is_declaration (shape_of u) ≡ true) × (is_printable (a_part HeadDeclaration) u ≡ true)) ⊎ P u

-- what a shorthand property takes, by its name alone or with a default
abbrev pub Named : Bool → Tree → Tree → Type 0
Named d t u =
    (s : List ℕ) → accept.is_same_spelling (Some s) (accept.spelling (accept.without_default t)) ≡ true →
    (is_reserved s ≡ false) × (((has_default_shape (shape_of u) ≡ false) × (is_printable (a_silent (named d s)) u ≡ true)) ⊎ ((has_default_shape (shape_of u) ≡ true) × (is_printable (a_part (DefaultOf d s)) u ≡ true)))

abbrev pub named_class : Bool → Class
named_class true = a_pattern_element
named_class false = a_named_target

-- what a link of a chain is of: a chain that goes on, or a value
abbrev pub Linked : Tree → Tree → Type 0
Linked t u =
    ((has_optional u ≡ true) × ((ls : Trees) → are_printable Link false ls ≡ true → printed.fill (Some (a_part Anything ∷ a_part FirstLink ∷ a_run Link ∷ [])) (linked u ls) ≡ true)) ⊎
    ((has_optional u ≡ false) × (accept.has_optional t ≡ false) × (is_printable (a_part Anything) u ≡ true))

-- a declaration that is exported, if there is one, and what is exported by default
abbrev pub Exported : Tree → Tree → Type 0
Exported t u =
    ((is_absent t ≡ true) × (is_printable (a_silent Nothing) u ≡ true) × (is_absent u ≡ true)) ⊎
    ((is_absent t ≡ false) × (is_absent u ≡ false) × (is_printable (a_part Exportable) u ≡ true))

abbrev pub DefaultOut : Tree → Type 0
DefaultOut u = ((declares_default (shape_of u) ≡ true) × (is_printable (a_part DefaultDeclared) u ≡ true)) ⊎ ((declares_default (shape_of u) ≡ false) × (is_printable (a_part Anything) u ≡ true))

abbrev pub export_goal : Bool → Goal
export_goal true = ExportItem
export_goal false = ForwardItem

pub data LinkSeat : Type 0 where
  a_link_here an_inner_link_here a_chain_here : LinkSeat

abbrev pub link_class : LinkSeat → Class
link_class a_link_here = a_link
link_class an_inner_link_here = an_inner a_link
link_class a_chain_here = a_chain

pub data TargetSeat : Type 0 where
  any_target target_of_element member_of_element : TargetSeat

abbrev pub target_class : TargetSeat → Class
target_class any_target = a_target
target_class target_of_element = an_element_target
target_class member_of_element = a_member_target

-- ---- what is known of a tree in each seat

pub record Served (t : Tree) : Type 0 where
  pub seat : (strict : Bool) (r : Seat) (l : Bool) → suits l r ≡ true → fits strict (slot_at r) t ≡ true → is_clean l t ≡ true → is_printable (want_at r) (shown t) ≡ true
  pub body : (strict : Bool) (ds : List (List ℕ)) → are_directives ds ≡ true → fits strict (one a_function_body) t ≡ true → is_clean false t ≡ true → is_printable (a_part Body) (with_directives ds (shown t)) ≡ true
  pub method : (strict : Bool) → fits strict (one a_method) t ≡ true → is_clean false t ≡ true → MethodOf t (shown t)
  pub target : (strict : Bool) (r : TargetSeat) → fits strict (one (target_class r)) t ≡ true → is_clean false t ≡ true → Assigned (shown t)
  pub init : (strict : Bool) → fits strict (one_or_absent an_init) t ≡ true → is_clean false t ≡ true → Headed (λ u. is_printable (a_perhaps Anything) u ≡ true) (shown t)
  pub left : (strict b : Bool) → fits strict (one (a_loop_left b)) t ≡ true → is_clean false t ≡ true → Headed Assigned (shown t)
  pub named_by : (strict d : Bool) → fits strict (one (named_class d)) t ≡ true → is_clean false t ≡ true → Named d t (shown t)
  pub object_items : (strict : Bool) → fits strict (many_and_rest a_target_property a_target_rest) t ≡ true → is_clean false t ≡ true → are_plain_rests (items_of t) ≡ true → is_printable (a_list TargetProperty Zero) (shown t) ≡ true
  pub plain_rest : (strict : Bool) → fits strict (one a_target_rest) t ≡ true → is_clean false t ≡ true → is_pattern_rest t ≡ false → is_printable (a_part TargetProperty) (shown t) ≡ true
  pub exported : (strict : Bool) → fits strict (one_or_absent an_exported_declaration) t ≡ true → is_clean false t ≡ true → Exported t (shown t)
  pub default_out : (strict : Bool) → fits strict (one a_default_export) t ≡ true → is_clean false t ≡ true → DefaultOut (shown t)
  pub link : (strict : Bool) (r : LinkSeat) → fits strict (one (link_class r)) t ≡ true → is_clean false t ≡ true → Linked t (shown t)

abbrev pub Below : Trees → Type 0
Below none = Unit {0}
Below (t ▸ ts) = Served t × Below ts

-- the parts of a node, each in its seat
pub parts : (ts : Trees) → Below ts → (strict : Bool) (rs : List Seat) (l : Bool) → all_suit l rs ≡ true → accept.fill strict (these (slots_at rs)) ts ≡ true → are_clean l ts ≡ true → printed.fill (Some (wants_at rs)) (all_shown ts) ≡ true
parts none b strict [] l y e k = refl
parts (t ▸ ts) b strict [] l y e k = absurd (false≢true e)
parts none b strict (r ∷ rs) l y e k = absurd (false≢true e)
parts (t ▸ ts) b strict (r ∷ rs) l y e k =
    both (is_printable (want_at r) (shown t)) (printed.fill (Some (wants_at rs)) (all_shown ts))
    (b.0.seat strict r l (and_l (suits l r) (all_suit l rs) y) (and_l (fits strict (slot_at r) t) (accept.fill strict (these (slots_at rs)) ts) e) (and_l (is_clean l t) (are_clean l ts) k))
    (parts ts b.1 strict rs l (and_r (suits l r) (all_suit l rs) y) (and_r (fits strict (slot_at r) t) (accept.fill strict (these (slots_at rs)) ts) e) (and_r (is_clean l t) (are_clean l ts) k))

-- a node over one, two, three or four children, each in its slot
pub over_one : (strict l : Bool) (s : Slot) (P : Trees → Type 0) → ((t : Tree) → Served t → fits strict s t ≡ true → is_clean l t ≡ true → P (t ▸ none)) → (ts : Trees) → Below ts → accept.fill strict (these (s ∷ [])) ts ≡ true → are_clean l ts ≡ true → P ts
over_one strict l s P f none b e k = absurd (false≢true e)
over_one strict l s P f (t ▸ none) b e k = f t b.0 (and_l (fits strict s t) true e) (and_l (is_clean l t) true k)
over_one strict l s P f (t ▸ (u ▸ ts)) b e k = absurd (false≢true (and_r (fits strict s t) false e))

pub over_two : (strict l : Bool) (s r : Slot) (P : Trees → Type 0) → ((t u : Tree) → Served t → Served u → fits strict s t ≡ true → fits strict r u ≡ true → is_clean l t ≡ true → is_clean l u ≡ true → P (t ▸ (u ▸ none))) → (ts : Trees) → Below ts → accept.fill strict (these (s ∷ r ∷ [])) ts ≡ true → are_clean l ts ≡ true → P ts
over_two strict l s r P f none b e k = absurd (false≢true e)
over_two strict l s r P f (t ▸ ts) b e k =
    over_one strict l r (λ us. P (t ▸ us)) (λ u v d c. f t u b.0 v (and_l (fits strict s t) (accept.fill strict (these (r ∷ [])) ts) e) d (and_l (is_clean l t) (are_clean l ts) k) c) ts b.1 (and_r (fits strict s t) (accept.fill strict (these (r ∷ [])) ts) e) (and_r (is_clean l t) (are_clean l ts) k)

pub over_three : (strict l : Bool) (s r q : Slot) (P : Trees → Type 0) → ((t u v : Tree) → Served t → Served u → Served v → fits strict s t ≡ true → fits strict r u ≡ true → fits strict q v ≡ true → is_clean l t ≡ true → is_clean l u ≡ true → is_clean l v ≡ true → P (t ▸ (u ▸ (v ▸ none)))) → (ts : Trees) → Below ts → accept.fill strict (these (s ∷ r ∷ q ∷ [])) ts ≡ true → are_clean l ts ≡ true → P ts
over_three strict l s r q P f none b e k = absurd (false≢true e)
over_three strict l s r q P f (t ▸ ts) b e k =
    over_two strict l r q (λ us. P (t ▸ us)) (λ u v bu bv eu ev ku kv. f t u v b.0 bu bv (and_l (fits strict s t) (accept.fill strict (these (r ∷ q ∷ [])) ts) e) eu ev (and_l (is_clean l t) (are_clean l ts) k) ku kv) ts b.1 (and_r (fits strict s t) (accept.fill strict (these (r ∷ q ∷ [])) ts) e) (and_r (is_clean l t) (are_clean l ts) k)

pub over_four : (strict l : Bool) (s r q p : Slot) (P : Trees → Type 0) → ((t u v w : Tree) → Served t → Served u → Served v → Served w → fits strict s t ≡ true → fits strict r u ≡ true → fits strict q v ≡ true → fits strict p w ≡ true → is_clean l t ≡ true → is_clean l u ≡ true → is_clean l v ≡ true → is_clean l w ≡ true → P (t ▸ (u ▸ (v ▸ (w ▸ none))))) → (ts : Trees) → Below ts → accept.fill strict (these (s ∷ r ∷ q ∷ p ∷ [])) ts ≡ true → are_clean l ts ≡ true → P ts
over_four strict l s r q p P f none b e k = absurd (false≢true e)
over_four strict l s r q p P f (t ▸ ts) b e k =
    over_three strict l r q p (λ us. P (t ▸ us)) (λ u v w bu bv bw eu ev ew ku kv kw. f t u v w b.0 bu bv bw (and_l (fits strict s t) (accept.fill strict (these (r ∷ q ∷ p ∷ [])) ts) e) eu ev ew (and_l (is_clean l t) (are_clean l ts) k) ku kv kw) ts b.1 (and_r (fits strict s t) (accept.fill strict (these (r ∷ q ∷ p ∷ [])) ts) e) (and_r (is_clean l t) (are_clean l ts) k)

-- ---- lists

pub items : (strict : Bool) (s : Slot) (g : Goal) (gaps : Bool) → ((t : Tree) → Served t → fits strict s t ≡ true → is_clean false t ≡ true → ((gaps && is_gap (shown t)) || is_printable (a_part g) (shown t)) ≡ true) → (ts : Trees) → Below ts → accept.fill strict (each s) ts ≡ true → are_clean false ts ≡ true → are_printable g gaps (all_shown ts) ≡ true
items strict s g gaps f none b e k = refl
items strict s g gaps f (t ▸ ts) b e k =
    both ((gaps && is_gap (shown t)) || is_printable (a_part g) (shown t)) (are_printable g gaps (all_shown ts))
    (f t b.0 (and_l (fits strict s t) (accept.fill strict (each s) ts) e) (and_l (is_clean false t) (are_clean false ts) k))
    (items strict s g gaps f ts b.1 (and_r (fits strict s t) (accept.fill strict (each s) ts) e) (and_r (is_clean false t) (are_clean false ts) k))

-- where the last may be something else
pub by_either : (a b c : Bool) (P : Type 0) → (a ≡ true → P) → (c ≡ true → P) → (a || (b && c)) ≡ true → P
by_either true b c P f g e = f refl
by_either false b c P f g e = g (and_r b c e)

pub items_or_last : (strict : Bool) (s l : Slot) (g : Goal) (gaps : Bool) → ((t : Tree) → Served t → fits strict s t ≡ true → is_clean false t ≡ true → ((gaps && is_gap (shown t)) || is_printable (a_part g) (shown t)) ≡ true) → ((t : Tree) → Served t → fits strict l t ≡ true → is_clean false t ≡ true → is_printable (a_part g) (shown t) ≡ true) → (ts : Trees) → Below ts → accept.fill strict (each_or_last s l) ts ≡ true → are_clean false ts ≡ true → are_printable g gaps (all_shown ts) ≡ true
items_or_last strict s l g gaps f h none b e k = refl
items_or_last strict s l g gaps f h (t ▸ ts) b e k =
    both ((gaps && is_gap (shown t)) || is_printable (a_part g) (shown t)) (are_printable g gaps (all_shown ts))
    (by_either (fits strict s t) (accept.is_last ts) (fits strict l t) (((gaps && is_gap (shown t)) || is_printable (a_part g) (shown t)) ≡ true) (λ d. f t b.0 d (and_l (is_clean false t) (are_clean false ts) k)) (λ d. second (gaps && is_gap (shown t)) (is_printable (a_part g) (shown t)) (h t b.0 d (and_l (is_clean false t) (are_clean false ts) k))) (and_l (fits strict s t || (accept.is_last ts && fits strict l t)) (accept.fill strict (each_or_last s l) ts) e))
    (items_or_last strict s l g gaps f h ts b.1 (and_r (fits strict s t || (accept.is_last ts && fits strict l t)) (accept.fill strict (each_or_last s l) ts) e) (and_r (is_clean false t) (are_clean false ts) k))
  where
    second : (a b : Bool) → b ≡ true → (a || b) ≡ true
    second true b e = refl
    second false b e = e
