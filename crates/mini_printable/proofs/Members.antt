-- The tables of properties, methods and what classes have.
use Rattle.std.proofs.Common.{◌≡◌, ℕ, Bool, true, false, ◌&&◌, ◌||◌, not, List, [], ◌∷◌, refl, sym, ap, subst, ◌∙◌}
use Rattle.std.specs.Prelude.{Some, pos}
use Rattle.std.proofs.lemmas.Bool.{false≢true}
use Rattle.mini_model.specs.declared.name.Name.{Name}
use Rattle.mini_model.specs.declared.kind.PropertyKind.TheVariants as kind
use Rattle.mini_model.specs.declared.kind.MethodDefinitionKind.{MethodDefinitionKind}
use Rattle.mini_model.specs.declared.kind.MethodDefinitionKind.TheVariants as method
use Rattle.mini_model.specs.declared.shape.Shape.{Shape}
use Rattle.mini_model.specs.declared.shape.Shape.TheVariants as shape
use Rattle.mini_model.specs.Tree.{Tree, Trees, node, none, ◌▸◌, shape_of, is_absent, child_or_absent}
use Rattle.mini_model.specs.Weight.{same_text}
use Rattle.mini_accept.specs.WellShaped as accept
use Rattle.mini_accept.specs.WellShaped.{Class, Slot, one, one_or_absent, many, many_and_rest, an_expression, an_inner, a_key, a_private_or_key, an_object_property, a_class_member, a_method, a_binding, a_parameter, a_pattern_rest, a_function_body, these, slots_of, filling_by, is_whole, has_names, names_constructor, fits}
use Rattle.mini_print.specs.Grammar.{Goal, Anything, KeyName, ClassKey, Property, ClassElement, PlainElement, MethodValue, GeneratorValue, Parameter, Body, Binding, Rule, Nothing, Zero, is_reserved, form, constructor_shape, first_shape}
use Rattle.mini_print.specs.Unprintable.{has_text, generates}
use Rattle.mini_print.specs.Printed as printed
use Rattle.mini_print.specs.Printed.{Want, a_part, a_list, a_perhaps, a_silent, turned, wants, is_wanted, is_sound, is_printable, shown, all_shown, seen, with_directives, second_generates, method_of, computed_method_of, class_method_of, class_computed_of, plain_kind}
use Rattle.mini_printable.proofs.Clean.{both, is_clean, clean_node}
use Rattle.mini_printable.proofs.Seats.{value, inner_or_none, computed_key, key, private_key, private_computed_key, top_block, binding_or_none, parameters, method_goal, MethodOf, Served, Below, parts, over_two, over_three}
use Rattle.mini_printable.proofs.Rows.{never, and_one, and_two, and_three, untrue, same_self, stands_at, part_of, absent_shown, Row, filled, whole_parts}
use Rattle.mini_printable.proofs.Targets.{same_is}

-- ---- a method's value

pub method_at : (strict l : Bool) (h : Shape) (xs : List Name) (n : ℕ) (ts : Trees) → Below ts → fits strict (one a_method) (node h xs n ts) ≡ true → is_clean l (node h xs n ts) ≡ true → MethodOf (node h xs n ts) (seen h xs n (all_shown ts))
method_at strict l (shape.Function false true ds) [] n ts b e k =
    let inside = accept.is_strict_in strict (shape.Function false true ds) in
    let c = clean_node l (shape.Function false true ds) [] n ts refl k in
    over_three inside false (one_or_absent a_binding) (many_and_rest a_parameter a_pattern_rest) (one a_function_body) (λ us. is_absent (child_or_absent us 0) ≡ true → MethodOf (node (shape.Function false true ds) [] n us) (seen (shape.Function false true ds) [] n (all_shown us)))
    (λ t u v bt bu bv et eu ev kt ku kv z. (
      true,
      (
        refl,
        refl,
        part_of GeneratorValue (node (shape.Function false true []) [] n (shown t ▸ (shown u ▸ (with_directives ds (shown v) ▸ none)))) (and_three (is_printable (a_silent Nothing) (shown t)) (is_printable (a_list Parameter Zero) (shown u)) (is_printable (a_part Body) (with_directives ds (shown v)))
            (absent_shown Binding t z (bt.seat inside binding_or_none false refl et kt)) (bu.seat inside parameters false refl eu ku) (bv.body inside ds c.1 ev kv)),
      ),
    ))
    ts b (filled strict a_method (shape.Function false true ds) [] n ts e) c.2 (whole_parts strict a_method (shape.Function false true ds) [] n ts e)
method_at strict l (shape.Function false false ds) [] n ts b e k =
    let inside = accept.is_strict_in strict (shape.Function false false ds) in
    let c = clean_node l (shape.Function false false ds) [] n ts refl k in
    over_three inside false (one_or_absent a_binding) (many_and_rest a_parameter a_pattern_rest) (one a_function_body) (λ us. is_absent (child_or_absent us 0) ≡ true → MethodOf (node (shape.Function false false ds) [] n us) (seen (shape.Function false false ds) [] n (all_shown us)))
    (λ t u v bt bu bv et eu ev kt ku kv z. (
      false,
      (
        refl,
        refl,
        part_of MethodValue (node (shape.Function false false []) [] n (shown t ▸ (shown u ▸ (with_directives ds (shown v) ▸ none)))) (and_three (is_printable (a_silent Nothing) (shown t)) (is_printable (a_list Parameter Zero) (shown u)) (is_printable (a_part Body) (with_directives ds (shown v)))
            (absent_shown Binding t z (bt.seat inside binding_or_none false refl et kt)) (bu.seat inside parameters false refl eu ku) (bv.body inside ds c.1 ev kv)),
      ),
    ))
    ts b (filled strict a_method (shape.Function false false ds) [] n ts e) c.2 (whole_parts strict a_method (shape.Function false false ds) [] n ts e)
method_at strict l (shape.Function d g ds) (x ∷ xs) n ts b e k = absurd (false≢true e)
method_at strict l h xs n ts b e k = absurd (never (is_whole a_method h xs n ts) e)

-- ---- a production that a generator chooses

by_method : (rule : Bool → Rule) (goal : Goal) (w : Want) (k u : Tree) (g : Bool) → printed.generates (shape_of u) ≡ g → is_wanted goal (Some (turned goal (rule g))) ≡ true → wants (form (turned goal (rule g))) ≡ w ∷ a_part (method_goal g) ∷ [] → is_printable w k ≡ true → is_printable (a_part (method_goal g)) u ≡ true →
    (is_wanted goal (Some (turned goal (rule (second_generates (k ▸ (u ▸ none)))))) ≡ true) × (printed.fill (Some (wants (form (turned goal (rule (second_generates (k ▸ (u ▸ none)))))))) (k ▸ (u ▸ none)) ≡ true)
by_method rule goal w k (node h xs n us) g q a f p e = (
  subst (λ d. is_wanted goal (Some (turned goal (rule d))) ≡ true) (sym q) a,
  subst (λ d. printed.fill (Some (wants (form (turned goal (rule d))))) (k ▸ (node h xs n us ▸ none)) ≡ true) (sym q) (subst (λ ws. printed.fill (Some ws) (k ▸ (node h xs n us ▸ none)) ≡ true) (sym f) (and_two (is_printable w k) (is_printable (a_part (method_goal g)) (node h xs n us)) p e)),
)

plain_method : (t u : Tree) → MethodOf t u → generates t ≡ false → is_printable (a_part MethodValue) u ≡ true
plain_method t u m f = subst (λ g. is_printable (a_part (method_goal g)) u ≡ true) (sym m.1.0 ∙ f) m.1.2

-- ---- properties

method_property : (n : ℕ) (k u : Tree) (g : Bool) → printed.generates (shape_of u) ≡ g → is_printable (a_part KeyName) k ≡ true → is_printable (a_part (method_goal g)) u ≡ true → stands_at Property (node (shape.ObjectProperty kind.Init true false false) [] n (k ▸ (u ▸ none))) ≡ true
method_property n k u true q p e = let a = by_method method_of Property (a_part KeyName) k u true q refl refl p e in both (is_wanted Property (Some (turned Property (method_of (second_generates (k ▸ (u ▸ none))))))) (printed.fill (Some (wants (form (turned Property (method_of (second_generates (k ▸ (u ▸ none)))))))) (k ▸ (u ▸ none))) a.0 a.1
method_property n k u false q p e = let a = by_method method_of Property (a_part KeyName) k u false q refl refl p e in both (is_wanted Property (Some (turned Property (method_of (second_generates (k ▸ (u ▸ none))))))) (printed.fill (Some (wants (form (turned Property (method_of (second_generates (k ▸ (u ▸ none)))))))) (k ▸ (u ▸ none))) a.0 a.1

computed_method : (n : ℕ) (k u : Tree) (g : Bool) → printed.generates (shape_of u) ≡ g → is_printable (a_part Anything) k ≡ true → is_printable (a_part (method_goal g)) u ≡ true → stands_at Property (node (shape.ObjectProperty kind.Init true false true) [] n (k ▸ (u ▸ none))) ≡ true
computed_method n k u true q p e = let a = by_method computed_method_of Property (a_part Anything) k u true q refl refl p e in both (is_wanted Property (Some (turned Property (computed_method_of (second_generates (k ▸ (u ▸ none))))))) (printed.fill (Some (wants (form (turned Property (computed_method_of (second_generates (k ▸ (u ▸ none)))))))) (k ▸ (u ▸ none))) a.0 a.1
computed_method n k u false q p e = let a = by_method computed_method_of Property (a_part Anything) k u false q refl refl p e in both (is_wanted Property (Some (turned Property (computed_method_of (second_generates (k ▸ (u ▸ none))))))) (printed.fill (Some (wants (form (turned Property (computed_method_of (second_generates (k ▸ (u ▸ none)))))))) (k ▸ (u ▸ none))) a.0 a.1

-- a property by its name alone
named : (n m j : ℕ) (s : List ℕ) (x : Name) → is_reserved x.spelling ≡ false → same_text s x.spelling ≡ true → stands_at Property (node (shape.ObjectProperty kind.Init false true false) [] n (node (shape.IdentifierName s) [] m none ▸ (node shape.Identifier (x ∷ []) j none ▸ none))) ≡ true
named n m j s x r w =
    subst (λ z. stands_at Property (node (shape.ObjectProperty kind.Init false true false) [] n (node (shape.IdentifierName z) [] m none ▸ (node shape.Identifier (x ∷ []) j none ▸ none))) ≡ true) (sym (same_is s x.spelling w))
    (both (not (is_reserved x.spelling) && (false || (not (is_reserved x.spelling) && true))) (same_text x.spelling x.spelling && (same_text x.spelling x.spelling && true)) (ap (λ c. not c && (false || (not c && true))) r) (and_two (same_text x.spelling x.spelling) (same_text x.spelling x.spelling) (same_self x.spelling) (same_self x.spelling)))

by_name : (inside : Bool) (n : ℕ) (t u : Tree) → fits inside (one (a_key false)) t ≡ true → fits inside (one an_expression) u ≡ true → is_clean false u ≡ true → accept.repeats_key (t ▸ (u ▸ none)) ≡ true → stands_at Property (node (shape.ObjectProperty kind.Init false true false) [] n (shown t ▸ (shown u ▸ none))) ≡ true
by_name inside n (node (shape.IdentifierName s) [] m none) u et eu ku v = on u eu ku v
  where
    on : (u : Tree) → fits inside (one an_expression) u ≡ true → is_clean false u ≡ true → accept.is_same_spelling (Some s) (accept.spelling (accept.without_default u)) ≡ true → stands_at Property (node (shape.ObjectProperty kind.Init false true false) [] n (node (shape.IdentifierName s) [] m none ▸ (shown u ▸ none))) ≡ true
    on (node shape.Identifier (x ∷ []) j none) eu ku v = let c = clean_node false shape.Identifier (x ∷ []) j none refl ku in named n m j s x c.0 v
    on (node shape.Identifier (x ∷ []) j (w ▸ ws)) eu ku v = absurd (never (is_whole an_expression shape.Identifier (x ∷ []) j (w ▸ ws)) eu)
    on (node shape.Identifier [] j ws) eu ku v = absurd (false≢true eu)
    on (node shape.Identifier (x ∷ y ∷ xs) j ws) eu ku v = absurd (false≢true eu)
    on (node shape.AssignmentPattern xs j ws) eu ku v = absurd (never (is_whole an_expression shape.AssignmentPattern xs j ws) eu)
    on (node shape.BindingIdentifier xs j ws) eu ku v = absurd (never (is_whole an_expression shape.BindingIdentifier xs j ws) eu)
    on (node (shape.IdentifierName r) xs j ws) eu ku v = absurd (never (is_whole an_expression (shape.IdentifierName r) xs j ws) eu)
    on (node h xs j ws) eu ku v = absurd (false≢true v)
by_name inside n (node (shape.IdentifierName s) [] m (w ▸ ws)) u et eu ku v = absurd (never (is_whole (a_key false) (shape.IdentifierName s) [] m (w ▸ ws)) et)
by_name inside n (node (shape.IdentifierName s) (x ∷ xs) m ts) u et eu ku v = absurd (false≢true et)
by_name inside n (node (shape.StringLiteral s) xs m ts) u et eu ku v = absurd (false≢true v)
by_name inside n (node (shape.NumericLiteral (pos i)) xs m ts) u et eu ku v = absurd (false≢true v)
by_name inside n (node h xs m ts) u et eu ku v = absurd (never (is_whole (a_key false) h xs m ts) et)

pub property_row : Row an_object_property Property
property_row strict inside l shape.SpreadElement [] n ts b e k v = parts ts b inside (value ∷ []) false refl e k
property_row strict inside l (shape.ObjectProperty kind.Init false false false) [] n ts b e k v = parts ts b inside (key ∷ value ∷ []) false refl e k
property_row strict inside l (shape.ObjectProperty kind.Init false false true) [] n ts b e k v = parts ts b inside (computed_key ∷ value ∷ []) false refl e k
property_row strict inside l (shape.ObjectProperty kind.Init false true false) [] n ts b e k v =
    over_two inside false (one (a_key false)) (one an_expression) (λ us. accept.repeats_key us ≡ true → stands_at Property (node (shape.ObjectProperty kind.Init false true false) [] n (all_shown us)) ≡ true) (λ t u bt bu et eu kt ku w. by_name inside n t u et eu ku w) ts b e k v
property_row strict inside l (shape.ObjectProperty kind.Init false true true) [] n ts b e k v = absurd (false≢true v)
property_row strict inside l (shape.ObjectProperty kind.Init true true c) [] n ts b e k v = absurd (false≢true v)
property_row strict inside l (shape.ObjectProperty kind.Init true false false) [] n ts b e k v =
    over_two inside false (one (a_key false)) (one a_method) (λ us. stands_at Property (node (shape.ObjectProperty kind.Init true false false) [] n (all_shown us)) ≡ true) (λ t u bt bu et eu kt ku. let m = bu.method inside eu ku in method_property n (shown t) (shown u) m.0 m.1.1 (bt.seat inside key false refl et kt) m.1.2) ts b e k
property_row strict inside l (shape.ObjectProperty kind.Init true false true) [] n ts b e k v =
    over_two inside false (one (a_key true)) (one a_method) (λ us. stands_at Property (node (shape.ObjectProperty kind.Init true false true) [] n (all_shown us)) ≡ true) (λ t u bt bu et eu kt ku. let m = bu.method inside eu ku in computed_method n (shown t) (shown u) m.0 m.1.1 (bt.seat inside computed_key false refl et kt) m.1.2) ts b e k
property_row strict inside l (shape.ObjectProperty kind.Get true s c) [] n ts b e k v = absurd (false≢true v)
property_row strict inside l (shape.ObjectProperty kind.Get false true c) [] n ts b e k v = absurd (false≢true v)
property_row strict inside l (shape.ObjectProperty kind.Get false false false) [] n ts b e k v =
    let c = clean_node l (shape.ObjectProperty kind.Get false false false) [] n ts refl k in
    over_two inside false (one (a_key false)) (one a_method) (λ us. has_text (shape.ObjectProperty kind.Get false false false) us ≡ true → stands_at Property (node (shape.ObjectProperty kind.Get false false false) [] n (all_shown us)) ≡ true) (λ t u bt bu et eu kt ku w. and_two (is_printable (a_part KeyName) (shown t)) (is_printable (a_part MethodValue) (shown u)) (bt.seat inside key false refl et kt) (plain_method u (shown u) (bu.method inside eu ku) (untrue (generates u) w))) ts b e c.2 c.1
property_row strict inside l (shape.ObjectProperty kind.Get false false true) [] n ts b e k v =
    let c = clean_node l (shape.ObjectProperty kind.Get false false true) [] n ts refl k in
    over_two inside false (one (a_key true)) (one a_method) (λ us. has_text (shape.ObjectProperty kind.Get false false true) us ≡ true → stands_at Property (node (shape.ObjectProperty kind.Get false false true) [] n (all_shown us)) ≡ true) (λ t u bt bu et eu kt ku w. and_two (is_printable (a_part Anything) (shown t)) (is_printable (a_part MethodValue) (shown u)) (bt.seat inside computed_key false refl et kt) (plain_method u (shown u) (bu.method inside eu ku) (untrue (generates u) w))) ts b e c.2 c.1
property_row strict inside l (shape.ObjectProperty kind.Set true s c) [] n ts b e k v = absurd (false≢true v)
property_row strict inside l (shape.ObjectProperty kind.Set false true c) [] n ts b e k v = absurd (false≢true v)
property_row strict inside l (shape.ObjectProperty kind.Set false false false) [] n ts b e k v =
    let c = clean_node l (shape.ObjectProperty kind.Set false false false) [] n ts refl k in
    over_two inside false (one (a_key false)) (one a_method) (λ us. has_text (shape.ObjectProperty kind.Set false false false) us ≡ true → stands_at Property (node (shape.ObjectProperty kind.Set false false false) [] n (all_shown us)) ≡ true) (λ t u bt bu et eu kt ku w. and_two (is_printable (a_part KeyName) (shown t)) (is_printable (a_part MethodValue) (shown u)) (bt.seat inside key false refl et kt) (plain_method u (shown u) (bu.method inside eu ku) (untrue (generates u) w))) ts b e c.2 c.1
property_row strict inside l (shape.ObjectProperty kind.Set false false true) [] n ts b e k v =
    let c = clean_node l (shape.ObjectProperty kind.Set false false true) [] n ts refl k in
    over_two inside false (one (a_key true)) (one a_method) (λ us. has_text (shape.ObjectProperty kind.Set false false true) us ≡ true → stands_at Property (node (shape.ObjectProperty kind.Set false false true) [] n (all_shown us)) ≡ true) (λ t u bt bu et eu kt ku w. and_two (is_printable (a_part Anything) (shown t)) (is_printable (a_part MethodValue) (shown u)) (bt.seat inside computed_key false refl et kt) (plain_method u (shown u) (bu.method inside eu ku) (untrue (generates u) w))) ts b e c.2 c.1
property_row strict inside l h xs n ts b e k v = absurd (never (has_names h xs) e)

-- ---- what classes have

-- in a class, and behind `static`
abbrev element_goal : Bool → Goal
element_goal true = PlainElement
element_goal false = ClassElement

abbrev key_want : Bool → Want
key_want true = a_part Anything
key_want false = a_part ClassKey

abbrev class_rule : Bool → Bool → Rule
class_rule true g = class_computed_of g
class_rule false g = class_method_of g

class_wanted : (p c g : Bool) → (is_wanted (element_goal p) (Some (turned (element_goal p) (class_rule c g))) ≡ true) × (wants (form (turned (element_goal p) (class_rule c g))) ≡ key_want c ∷ a_part (method_goal g) ∷ [])
class_wanted true true true = (refl, refl)
class_wanted true true false = (refl, refl)
class_wanted true false true = (refl, refl)
class_wanted true false false = (refl, refl)
class_wanted false true true = (refl, refl)
class_wanted false true false = (refl, refl)
class_wanted false false true = (refl, refl)
class_wanted false false false = (refl, refl)

by_class_method : (p c : Bool) (s : Bool) (k u : Tree) (g : Bool) → printed.generates (shape_of u) ≡ g → s ≡ true → is_printable (key_want c) k ≡ true → is_printable (a_part (method_goal g)) u ≡ true →
    (is_wanted (element_goal p) (Some (turned (element_goal p) (class_rule c (second_generates (k ▸ (u ▸ none)))))) && (s && printed.fill (Some (wants (form (turned (element_goal p) (class_rule c (second_generates (k ▸ (u ▸ none)))))))) (k ▸ (u ▸ none)))) ≡ true
by_class_method p c s k u g q z a e =
    let w = class_wanted p c g in
    let m = by_method (class_rule c) (element_goal p) (key_want c) k u g q w.0 w.1 a e in
    both (is_wanted (element_goal p) (Some (turned (element_goal p) (class_rule c (second_generates (k ▸ (u ▸ none))))))) (s && printed.fill (Some (wants (form (turned (element_goal p) (class_rule c (second_generates (k ▸ (u ▸ none)))))))) (k ▸ (u ▸ none))) m.0
    (both s (printed.fill (Some (wants (form (turned (element_goal p) (class_rule c (second_generates (k ▸ (u ▸ none)))))))) (k ▸ (u ▸ none))) z m.1)

abbrev IsMethod : Bool → MethodDefinitionKind → Bool → ℕ → Tree → Tree → Type 0
IsMethod p m c n k u = is_sound (shape.MethodDefinition m c false) (k ▸ (u ▸ none)) ≡ true → (g : Bool) → printed.generates (shape_of u) ≡ g → is_printable (key_want c) k ≡ true → is_printable (a_part (method_goal g)) u ≡ true → stands_at (element_goal p) (node (shape.MethodDefinition m c false) [] n (k ▸ (u ▸ none))) ≡ true

constructor_stands : (p : Bool) (n : ℕ) (k u : Tree) → IsMethod p method.Constructor false n k u
constructor_stands true n k u s g q a e = by_class_method true false (is_sound (shape.MethodDefinition method.Constructor false false) (k ▸ (u ▸ none))) k u g q s a e
constructor_stands false n k u s g q a e = by_class_method false false (is_sound (shape.MethodDefinition method.Constructor false false) (k ▸ (u ▸ none))) k u g q s a e

method_stands : (p : Bool) (n : ℕ) (k u : Tree) → IsMethod p method.Method false n k u
method_stands true n k u s g q a e = by_class_method true false (is_sound (shape.MethodDefinition method.Method false false) (k ▸ (u ▸ none))) k u g q s a e
method_stands false n k u s g q a e = by_class_method false false (is_sound (shape.MethodDefinition method.Method false false) (k ▸ (u ▸ none))) k u g q s a e

computed_stands : (p : Bool) (n : ℕ) (k u : Tree) → IsMethod p method.Method true n k u
computed_stands true n k u s g q a e = by_class_method true true true k u g q refl a e
computed_stands false n k u s g q a e = by_class_method false true true k u g q refl a e

accessor_stands : (p : Bool) (m : MethodDefinitionKind) (c : Bool) (n : ℕ) (k u : Tree) → accept.has_its_kind m c true k ≡ true → printed.same_kind m method.Method ≡ false → is_printable (key_want c) k ≡ true → is_printable (a_part MethodValue) u ≡ true → stands_at (element_goal p) (node (shape.MethodDefinition m c false) [] n (k ▸ (u ▸ none))) ≡ true
accessor_stands p method.Constructor c n k u z y a e = absurd (false≢true z)
accessor_stands p method.Method c n k u z y a e = absurd (false≢true (sym y))
accessor_stands true method.Get true n k u z y a e = and_two (is_printable (key_want true) k) (is_printable (a_part MethodValue) u) a e
accessor_stands true method.Get false n k u z y a e = and_two (is_printable (key_want false) k) (is_printable (a_part MethodValue) u) a e
accessor_stands true method.Set true n k u z y a e = and_two (is_printable (key_want true) k) (is_printable (a_part MethodValue) u) a e
accessor_stands true method.Set false n k u z y a e = and_two (is_printable (key_want false) k) (is_printable (a_part MethodValue) u) a e
accessor_stands false method.Get true n k u z y a e = and_two (is_printable (key_want true) k) (is_printable (a_part MethodValue) u) a e
accessor_stands false method.Get false n k u z y a e = and_two (is_printable (key_want false) k) (is_printable (a_part MethodValue) u) a e
accessor_stands false method.Set true n k u z y a e = and_two (is_printable (key_want true) k) (is_printable (a_part MethodValue) u) a e
accessor_stands false method.Set false n k u z y a e = and_two (is_printable (key_want false) k) (is_printable (a_part MethodValue) u) a e

-- a key that makes a method the constructor is shown as one
key_constructor : (strict : Bool) (t : Tree) (us : Trees) → fits strict (one (a_private_or_key false)) t ≡ true → constructor_shape (first_shape (shown t ▸ us)) ≡ names_constructor t
key_constructor strict (node (shape.IdentifierName s) xs n ts) us e = refl
key_constructor strict (node (shape.StringLiteral s) xs n ts) us e = refl
key_constructor strict (node (shape.NumericLiteral m) xs n ts) us e = refl
key_constructor strict (node (shape.PrivateIdentifier s) xs n ts) us e = refl
key_constructor strict (node h xs n ts) us e = absurd (never (is_whole (a_private_or_key false) h xs n ts) e)

-- a static method is a constructor without `static`, by its name
static_method : (n : ℕ) (k u : Tree) (d g : Bool) → constructor_shape (first_shape (k ▸ (u ▸ none))) ≡ d → constructor_shape (first_shape (k ▸ none)) ≡ d → printed.generates (shape_of u) ≡ g → is_printable (a_part ClassKey) k ≡ true → is_printable (a_part (method_goal g)) u ≡ true →
    stands_at ClassElement (node (shape.MethodDefinition method.Method false true) [] n (node (shape.MethodDefinition (plain_kind method.Method (constructor_shape (first_shape (k ▸ none)))) false false) [] 0 (k ▸ (u ▸ none)) ▸ none)) ≡ true
static_method n k u true g z y q a e = subst (λ d. stands_at ClassElement (node (shape.MethodDefinition method.Method false true) [] n (node (shape.MethodDefinition (plain_kind method.Method d) false false) [] 0 (k ▸ (u ▸ none)) ▸ none)) ≡ true) (sym y) (and_one (is_printable (a_part PlainElement) (node (shape.MethodDefinition method.Constructor false false) [] 0 (k ▸ (u ▸ none)))) (part_of PlainElement (node (shape.MethodDefinition method.Constructor false false) [] 0 (k ▸ (u ▸ none))) (constructor_stands true 0 k u z g q a e)))
static_method n k u false g z y q a e = subst (λ d. stands_at ClassElement (node (shape.MethodDefinition method.Method false true) [] n (node (shape.MethodDefinition (plain_kind method.Method d) false false) [] 0 (k ▸ (u ▸ none)) ▸ none)) ≡ true) (sym y) (and_one (is_printable (a_part PlainElement) (node (shape.MethodDefinition method.Method false false) [] 0 (k ▸ (u ▸ none)))) (part_of PlainElement (node (shape.MethodDefinition method.Method false false) [] 0 (k ▸ (u ▸ none))) (method_stands true 0 k u (ap not z) g q a e)))

-- a key in a class, computed or not
key_at : (inside c : Bool) (t : Tree) → Served t → fits inside (one (a_private_or_key c)) t ≡ true → is_clean false t ≡ true → is_printable (key_want c) (shown t) ≡ true
key_at inside true t b e k = b.seat inside private_computed_key false refl e k
key_at inside false t b e k = b.seat inside private_key false refl e k

abbrev Methodical : MethodDefinitionKind → Bool → Bool → ℕ → Trees → Type 0
Methodical m c s n us = has_text (shape.MethodDefinition m c s) us ≡ true → accept.has_its_parts a_class_member (shape.MethodDefinition m c s) us ≡ true → stands_at ClassElement (seen (shape.MethodDefinition m c s) [] n (all_shown us)) ≡ true

member_at : (inside : Bool) (m : MethodDefinitionKind) (c s : Bool) (n : ℕ) (t u : Tree) → Served t → Served u → fits inside (one (a_private_or_key c)) t ≡ true → fits inside (one a_method) u ≡ true → is_clean false t ≡ true → is_clean false u ≡ true → Methodical m c s n (t ▸ (u ▸ none))
member_at inside method.Constructor true false n t u bt bu et eu kt ku w v = absurd (false≢true v)
member_at inside method.Constructor c true n t u bt bu et eu kt ku w v = absurd (false≢true v)
member_at inside method.Constructor false false n t u bt bu et eu kt ku w v = let m = bu.method inside eu ku in constructor_stands false n (shown t) (shown u) (key_constructor inside t (shown u ▸ none) et ∙ v) m.0 m.1.1 (key_at inside false t bt et kt) m.1.2
member_at inside method.Method false false n t u bt bu et eu kt ku w v = let m = bu.method inside eu ku in method_stands false n (shown t) (shown u) (ap not (key_constructor inside t (shown u ▸ none) et) ∙ v) m.0 m.1.1 (key_at inside false t bt et kt) m.1.2
member_at inside method.Method true false n t u bt bu et eu kt ku w v = let m = bu.method inside eu ku in computed_stands false n (shown t) (shown u) refl m.0 m.1.1 (key_at inside true t bt et kt) m.1.2
member_at inside method.Method true true n t u bt bu et eu kt ku w v = let m = bu.method inside eu ku in and_one (is_printable (a_part PlainElement) (node (shape.MethodDefinition method.Method true false) [] 0 (shown t ▸ (shown u ▸ none)))) (part_of PlainElement (node (shape.MethodDefinition method.Method true false) [] 0 (shown t ▸ (shown u ▸ none))) (computed_stands true 0 (shown t) (shown u) refl m.0 m.1.1 (key_at inside true t bt et kt) m.1.2))
member_at inside method.Method false true n t u bt bu et eu kt ku w v = let m = bu.method inside eu ku in static_method n (shown t) (shown u) (names_constructor t) m.0 (key_constructor inside t (shown u ▸ none) et) (key_constructor inside t none et) m.1.1 (key_at inside false t bt et kt) m.1.2
member_at inside method.Get c false n t u bt bu et eu kt ku w v = accessor_stands false method.Get c n (shown t) (shown u) refl refl (key_at inside c t bt et kt) (plain_method u (shown u) (bu.method inside eu ku) (untrue (generates u) w))
member_at inside method.Set c false n t u bt bu et eu kt ku w v = accessor_stands false method.Set c n (shown t) (shown u) refl refl (key_at inside c t bt et kt) (plain_method u (shown u) (bu.method inside eu ku) (untrue (generates u) w))
member_at inside method.Get true true n t u bt bu et eu kt ku w v = and_one (is_printable (a_part PlainElement) (node (shape.MethodDefinition method.Get true false) [] 0 (shown t ▸ (shown u ▸ none)))) (part_of PlainElement (node (shape.MethodDefinition method.Get true false) [] 0 (shown t ▸ (shown u ▸ none))) (accessor_stands true method.Get true 0 (shown t) (shown u) refl refl (key_at inside true t bt et kt) (plain_method u (shown u) (bu.method inside eu ku) (untrue (generates u) w))))
member_at inside method.Get false true n t u bt bu et eu kt ku w v = and_one (is_printable (a_part PlainElement) (node (shape.MethodDefinition method.Get false false) [] 0 (shown t ▸ (shown u ▸ none)))) (part_of PlainElement (node (shape.MethodDefinition method.Get false false) [] 0 (shown t ▸ (shown u ▸ none))) (accessor_stands true method.Get false 0 (shown t) (shown u) refl refl (key_at inside false t bt et kt) (plain_method u (shown u) (bu.method inside eu ku) (untrue (generates u) w))))
member_at inside method.Set true true n t u bt bu et eu kt ku w v = and_one (is_printable (a_part PlainElement) (node (shape.MethodDefinition method.Set true false) [] 0 (shown t ▸ (shown u ▸ none)))) (part_of PlainElement (node (shape.MethodDefinition method.Set true false) [] 0 (shown t ▸ (shown u ▸ none))) (accessor_stands true method.Set true 0 (shown t) (shown u) refl refl (key_at inside true t bt et kt) (plain_method u (shown u) (bu.method inside eu ku) (untrue (generates u) w))))
member_at inside method.Set false true n t u bt bu et eu kt ku w v = and_one (is_printable (a_part PlainElement) (node (shape.MethodDefinition method.Set false false) [] 0 (shown t ▸ (shown u ▸ none)))) (part_of PlainElement (node (shape.MethodDefinition method.Set false false) [] 0 (shown t ▸ (shown u ▸ none))) (accessor_stands true method.Set false 0 (shown t) (shown u) refl refl (key_at inside false t bt et kt) (plain_method u (shown u) (bu.method inside eu ku) (untrue (generates u) w))))

static_field : (n : ℕ) (c : Bool) (k u : Tree) → is_printable (key_want c) k ≡ true → is_printable (a_perhaps Anything) u ≡ true → stands_at ClassElement (node (shape.PropertyDefinition c true) [] n (node (shape.PropertyDefinition c false) [] 0 (k ▸ (u ▸ none)) ▸ none)) ≡ true
static_field n true k u a e = and_one (is_printable (a_part PlainElement) (node (shape.PropertyDefinition true false) [] 0 (k ▸ (u ▸ none)))) (part_of PlainElement (node (shape.PropertyDefinition true false) [] 0 (k ▸ (u ▸ none))) (and_two (is_printable (key_want true) k) (is_printable (a_perhaps Anything) u) a e))
static_field n false k u a e = and_one (is_printable (a_part PlainElement) (node (shape.PropertyDefinition false false) [] 0 (k ▸ (u ▸ none)))) (part_of PlainElement (node (shape.PropertyDefinition false false) [] 0 (k ▸ (u ▸ none))) (and_two (is_printable (key_want false) k) (is_printable (a_perhaps Anything) u) a e))

pub member_row : Row a_class_member ClassElement
member_row strict inside l (shape.MethodDefinition m c s) [] n ts b e k v =
    let d = clean_node l (shape.MethodDefinition m c s) [] n ts refl k in
    over_two inside false (one (a_private_or_key c)) (one a_method) (Methodical m c s n) (member_at inside m c s n) ts b e d.2 d.1 v
member_row strict inside l (shape.PropertyDefinition true false) [] n ts b e k v = parts ts b inside (private_computed_key ∷ inner_or_none ∷ []) false refl e k
member_row strict inside l (shape.PropertyDefinition false false) [] n ts b e k v = parts ts b inside (private_key ∷ inner_or_none ∷ []) false refl e k
member_row strict inside l (shape.PropertyDefinition c true) [] n ts b e k v =
    over_two inside false (one (a_private_or_key c)) (one_or_absent (an_inner an_expression)) (λ us. stands_at ClassElement (seen (shape.PropertyDefinition c true) [] n (all_shown us)) ≡ true) (λ t u bt bu et eu kt ku. static_field n c (shown t) (shown u) (key_at inside c t bt et kt) (bu.seat inside inner_or_none false refl eu ku)) ts b e k
member_row strict inside l shape.StaticBlock [] n ts b e k v = parts ts b inside (top_block ∷ []) false refl e k
member_row strict inside l h xs n ts b e k v = absurd (never (has_names h xs) e)
