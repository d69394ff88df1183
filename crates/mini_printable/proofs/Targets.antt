-- The tables of what is assigned to, and of the parts of patterns that are assigned to.
use Rattle.std.proofs.Common.{◌≡◌, ℕ, Bool, true, false, ◌&&◌, ◌||◌, not, List, [], ◌∷◌, refl, sym, ap, subst, ◌∙◌, ◌⊎◌, inl, inr}
use Rattle.std.specs.Prelude.{Some, nat_eq}
use Rattle.std.proofs.lemmas.Bool.{false≢true, eqb-true}
use Rattle.mini_model.specs.declared.name.Name.{Name}
use Rattle.mini_model.specs.declared.shape.Shape.{Shape}
use Rattle.mini_model.specs.declared.shape.Shape.TheVariants as shape
use Rattle.mini_model.specs.Tree.{Tree, Trees, node, none, ◌▸◌, shape_of, is_absent}
use Rattle.mini_model.specs.Weight.{same_text}
use Rattle.mini_accept.specs.WellShaped as accept
use Rattle.mini_accept.specs.WellShaped.{Class, Slot, one, one_or_absent, many, many_and_rest, many_or_holes_and_rest, an_expression, an_inner, an_inner_key, a_label, a_simple_target, a_target, an_element_target, a_member_target, a_named_target, a_target_name, a_target_element, a_target_property, a_target_rest, a_pattern_element, a_pattern, a_binding, these, each_or_last, slots_of, filling_by, is_whole, has_names, fits}
use Rattle.mini_print.specs.Grammar.{Anything, TargetPattern, TargetElement, TargetProperty, DefaultOf, ReferenceOf, named, Zero, is_reserved, form}
use Rattle.mini_print.specs.Unprintable.{has_text, are_plain_rests, is_pattern_rest, is_pattern_target}
use Rattle.mini_print.specs.Printed as printed
use Rattle.mini_print.specs.Printed.{Want, a_part, a_list, a_perhaps, a_silent, turned, wants, is_wanted, is_printable, are_printable, shown, all_shown, seen, taker, ABinding, APattern, AValue, element_of, rest_of, has_default_shape, target_of, is_target_shape, is_declaration}
use Rattle.mini_printable.proofs.Clean.{and_l, and_r, both, is_clean, are_clean, clean_node}
use Rattle.mini_printable.proofs.Seats.{inner, inner_key, inner_computed_key, target_element, target_elements, TargetSeat, any_target, target_of_element, member_of_element, target_property, target_class, Assigned, Named, Served, Below, parts, over_one, over_two, by_either}
use Rattle.mini_printable.proofs.Rows.{never, and_one, and_two, untrue, same_self, stands_at, part_of, core_of, value_of, value_stands, stands_by, whole_parts, perhaps_of, stands_present, Row, filled}
use Rattle.mini_printable.proofs.Values.{value_row}

-- ---- values that are assigned to

pub simple_target_row : Row a_simple_target Anything
simple_target_row strict inside l shape.Identifier xs n ts b e k v = value_row strict inside l shape.Identifier xs n ts b e k v
simple_target_row strict inside l (shape.StaticMemberExpression false) xs n ts b e k v = value_row strict inside l (shape.StaticMemberExpression false) xs n ts b e k v
simple_target_row strict inside l (shape.ComputedMemberExpression false) xs n ts b e k v = value_row strict inside l (shape.ComputedMemberExpression false) xs n ts b e k v
simple_target_row strict inside l (shape.PrivateFieldExpression false) xs n ts b e k v = value_row strict inside l (shape.PrivateFieldExpression false) xs n ts b e k v
simple_target_row strict inside l shape.SuperStaticMemberExpression xs n ts b e k v = value_row strict inside l shape.SuperStaticMemberExpression xs n ts b e k v
simple_target_row strict inside l shape.SuperComputedMemberExpression xs n ts b e k v = value_row strict inside l shape.SuperComputedMemberExpression xs n ts b e k v
simple_target_row strict inside l h xs n ts b e k v = absurd (never (has_names h xs) e)

-- ---- patterns

-- the list of an array pattern, and that of an object pattern, whose rest is no pattern
pub object_target : (inside : Bool) (n : ℕ) (ts : Trees) → Below ts → accept.fill inside (these (many_and_rest a_target_property a_target_rest ∷ [])) ts ≡ true → are_clean false ts ≡ true → has_text shape.ObjectAssignmentTarget ts ≡ true → stands_at TargetPattern (node shape.ObjectAssignmentTarget [] n (all_shown ts)) ≡ true
object_target inside n ts b e k w =
    over_one inside false (many_and_rest a_target_property a_target_rest) (λ us. has_text shape.ObjectAssignmentTarget us ≡ true → stands_at TargetPattern (node shape.ObjectAssignmentTarget [] n (all_shown us)) ≡ true) (λ t bt et kt w'. and_one (is_printable (a_list TargetProperty Zero) (shown t)) (bt.object_items inside et kt w')) ts b e k w

-- of each class of what is assigned to, the same
assigned_pattern : (h : Shape) (n : ℕ) (us : Trees) → taker h ≡ APattern → is_target_shape h ≡ true → is_declaration h ≡ false → stands_at TargetPattern (node h [] n us) ≡ true → Assigned (node h [] n us)
assigned_pattern h n us a b c e = inl (a, b, c, part_of TargetPattern (node h [] n us) e)

assigned_value : (h : Shape) (xs : List Name) (n : ℕ) (us : Trees) → taker h ≡ AValue → is_target_shape h ≡ false → is_declaration h ≡ false → stands_at Anything (node h xs n us) ≡ true → Assigned (node h xs n us)
assigned_value h xs n us a b c e = inr (a, b, c, part_of Anything (node h xs n us) e)

abbrev pub AssignedRow : Class → Type 0
AssignedRow c = (strict inside l : Bool) (h : Shape) (xs : List Name) (n : ℕ) (ts : Trees) → Below ts → (has_names h xs && accept.fill inside (filling_by (slots_of strict c h)) ts) ≡ true → is_clean l (node h xs n ts) ≡ true → accept.has_its_parts c h ts ≡ true → Assigned (seen h xs n (all_shown ts))

pub target_row : (strict inside l : Bool) (h : Shape) (xs : List Name) (n : ℕ) (ts : Trees) → Below ts → (has_names h xs && accept.fill inside (filling_by (slots_of strict a_target h)) ts) ≡ true → is_clean l (node h xs n ts) ≡ true → accept.has_its_parts a_target h ts ≡ true → Assigned (seen h xs n (all_shown ts))
target_row strict inside l shape.ObjectAssignmentTarget [] n ts b e k v = let c = clean_node l shape.ObjectAssignmentTarget [] n ts refl k in assigned_pattern shape.ObjectAssignmentTarget n (all_shown ts) refl refl refl (object_target inside n ts b e c.2 c.1)
target_row strict inside l shape.ArrayAssignmentTarget [] n ts b e k v = assigned_pattern shape.ArrayAssignmentTarget n (all_shown ts) refl refl refl (parts ts b inside (target_elements ∷ []) false refl e k)
target_row strict inside l shape.Identifier xs n ts b e k v = assigned_value shape.Identifier xs n (all_shown ts) refl refl refl (value_row strict inside l shape.Identifier xs n ts b e k v)
target_row strict inside l (shape.StaticMemberExpression false) xs n ts b e k v = assigned_value (shape.StaticMemberExpression false) xs n (all_shown ts) refl refl refl (value_row strict inside l (shape.StaticMemberExpression false) xs n ts b e k v)
target_row strict inside l (shape.ComputedMemberExpression false) xs n ts b e k v = assigned_value (shape.ComputedMemberExpression false) xs n (all_shown ts) refl refl refl (value_row strict inside l (shape.ComputedMemberExpression false) xs n ts b e k v)
target_row strict inside l (shape.PrivateFieldExpression false) xs n ts b e k v = assigned_value (shape.PrivateFieldExpression false) xs n (all_shown ts) refl refl refl (value_row strict inside l (shape.PrivateFieldExpression false) xs n ts b e k v)
target_row strict inside l shape.SuperStaticMemberExpression xs n ts b e k v = assigned_value shape.SuperStaticMemberExpression xs n (all_shown ts) refl refl refl (value_row strict inside l shape.SuperStaticMemberExpression xs n ts b e k v)
target_row strict inside l shape.SuperComputedMemberExpression xs n ts b e k v = assigned_value shape.SuperComputedMemberExpression xs n (all_shown ts) refl refl refl (value_row strict inside l shape.SuperComputedMemberExpression xs n ts b e k v)
target_row strict inside l h xs n ts b e k v = absurd (never (has_names h xs) e)

member_row : AssignedRow a_member_target
member_row strict inside l (shape.StaticMemberExpression false) xs n ts b e k v = target_row strict inside l (shape.StaticMemberExpression false) xs n ts b e k v
member_row strict inside l (shape.ComputedMemberExpression false) xs n ts b e k v = target_row strict inside l (shape.ComputedMemberExpression false) xs n ts b e k v
member_row strict inside l (shape.PrivateFieldExpression false) xs n ts b e k v = target_row strict inside l (shape.PrivateFieldExpression false) xs n ts b e k v
member_row strict inside l shape.SuperStaticMemberExpression xs n ts b e k v = target_row strict inside l shape.SuperStaticMemberExpression xs n ts b e k v
member_row strict inside l shape.SuperComputedMemberExpression xs n ts b e k v = target_row strict inside l shape.SuperComputedMemberExpression xs n ts b e k v
member_row strict inside l h xs n ts b e k v = absurd (never (has_names h xs) e)

element_target_row : AssignedRow an_element_target
element_target_row strict inside l shape.ObjectAssignmentTarget xs n ts b e k v = target_row strict inside l shape.ObjectAssignmentTarget xs n ts b e k v
element_target_row strict inside l shape.ArrayAssignmentTarget xs n ts b e k v = target_row strict inside l shape.ArrayAssignmentTarget xs n ts b e k v
element_target_row strict inside l shape.Identifier xs n ts b e k v = target_row strict inside l shape.Identifier xs n ts b e k v
element_target_row strict inside l shape.InnerExpression [] n ts b e k v = over_one inside false (one a_member_target) (λ us. Assigned (seen shape.InnerExpression [] n (all_shown us))) (λ t bt et kt. bt.target inside member_of_element et kt) ts b e k
element_target_row strict inside l h xs n ts b e k v = absurd (never (has_names h xs) e)

pub assigned : (strict : Bool) (r : TargetSeat) (l : Bool) (h : Shape) (xs : List Name) (n : ℕ) (ts : Trees) → Below ts → fits strict (one (target_class r)) (node h xs n ts) ≡ true → is_clean l (node h xs n ts) ≡ true → Assigned (seen h xs n (all_shown ts))
assigned strict any_target l h xs n ts b e k = target_row strict (accept.is_strict_in strict h) l h xs n ts b (filled strict a_target h xs n ts e) k (whole_parts strict a_target h xs n ts e)
assigned strict target_of_element l h xs n ts b e k = element_target_row strict (accept.is_strict_in strict h) l h xs n ts b (filled strict an_element_target h xs n ts e) k (whole_parts strict an_element_target h xs n ts e)
assigned strict member_of_element l h xs n ts b e k = member_row strict (accept.is_strict_in strict h) l h xs n ts b (filled strict a_member_target h xs n ts e) k (whole_parts strict a_member_target h xs n ts e)

-- ---- an element with a default

assigned_default : (n : ℕ) (u v : Tree) → Assigned u → stands_at Anything v ≡ true → stands_at TargetElement (node shape.AssignmentPattern [] n (u ▸ (v ▸ none))) ≡ true
assigned_default n (node h xs m us) v (inl a) e =
    subst (λ k. (is_wanted TargetElement (Some (element_of k)) && (not (is_absent v) && printed.fill (Some (wants (form (element_of k)))) (node h xs m us ▸ (v ▸ none)))) ≡ true) (sym a.0)
    (subst (λ d. (not d && (is_printable (a_part TargetPattern) (node h xs m us) && (is_printable (a_perhaps Anything) v && true))) ≡ true) (sym (stands_present Anything v e)) (and_two (is_printable (a_part TargetPattern) (node h xs m us)) (is_printable (a_perhaps Anything) v) a.3 (perhaps_of Anything v e)))
assigned_default n (node h xs m us) v (inr a) e =
    subst (λ k. (is_wanted TargetElement (Some (element_of k)) && (not (is_absent v) && printed.fill (Some (wants (form (element_of k)))) (node h xs m us ▸ (v ▸ none)))) ≡ true) (sym a.0)
    (subst (λ d. (not d && (is_printable (a_part Anything) (node h xs m us) && (is_printable (a_perhaps Anything) v && true))) ≡ true) (sym (stands_present Anything v e)) (and_two (is_printable (a_part Anything) (node h xs m us)) (is_printable (a_perhaps Anything) v) a.3 (perhaps_of Anything v e)))

pattern_itself : (u : Tree) → is_printable (a_part TargetPattern) u ≡ true → stands_at TargetPattern u ≡ true
pattern_itself (node h xs n us) e = stands_by (printed.stands TargetPattern h xs us) (printed.stands Anything h xs us) e

assigned_element : (u : Tree) → Assigned u → is_printable (a_part TargetElement) u ≡ true
assigned_element u (inl a) = core_of TargetElement u refl (pattern_itself u a.3)
assigned_element u (inr a) = value_of TargetElement u refl (value_stands u a.3)

pub target_element_at : (strict l : Bool) (h : Shape) (xs : List Name) (n : ℕ) (ts : Trees) → Below ts → fits strict (one a_target_element) (node h xs n ts) ≡ true → is_clean l (node h xs n ts) ≡ true → is_printable (a_part TargetElement) (seen h xs n (all_shown ts)) ≡ true
target_element_at strict l shape.AssignmentPattern [] n ts b e k =
    part_of TargetElement (node shape.AssignmentPattern [] n (all_shown ts))
    (over_two strict false (one an_element_target) (one (an_inner an_expression)) (λ us. stands_at TargetElement (node shape.AssignmentPattern [] n (all_shown us)) ≡ true)
    (λ t u bt bu et eu kt ku. assigned_default n (shown t) (shown u) (bt.target strict target_of_element et kt) (value_stands (shown u) (bu.seat strict inner false refl eu ku)))
    ts b (and_r (is_whole a_target_element shape.AssignmentPattern [] n ts) (accept.fill strict (these (one an_element_target ∷ one (an_inner an_expression) ∷ [])) ts) e) k)
target_element_at strict l shape.AssignmentPattern (x ∷ xs) n ts b e k = absurd (false≢true e)
target_element_at strict l h xs n ts b e k = assigned_element (seen h xs n (all_shown ts)) (assigned strict target_of_element l h xs n ts b e k)

-- ---- rests

rest_element : (n : ℕ) (u : Tree) → Assigned u → stands_at TargetElement (node shape.RestElement [] n (u ▸ none)) ≡ true
rest_element n (node h xs m us) (inl a) = subst (λ k. (is_wanted TargetElement (Some (rest_of k)) && printed.fill (Some (wants (form (rest_of k)))) (node h xs m us ▸ none)) ≡ true) (sym a.0) (and_one (is_printable (a_part TargetPattern) (node h xs m us)) a.3)
rest_element n (node h xs m us) (inr a) = subst (λ k. (is_wanted TargetElement (Some (rest_of k)) && printed.fill (Some (wants (form (rest_of k)))) (node h xs m us ▸ none)) ≡ true) (sym a.0) (and_one (is_printable (a_part Anything) (node h xs m us)) a.3)

rest_property : (n : ℕ) (u : Tree) → is_target_shape (shape_of u) ≡ false → Assigned u → stands_at TargetProperty (node shape.RestElement [] n (u ▸ none)) ≡ true
rest_property n (node h xs m us) d (inl a) = absurd (false≢true (sym d ∙ a.1))
rest_property n (node h xs m us) d (inr a) = subst (λ k. (is_wanted TargetProperty (Some (turned TargetProperty (rest_of k))) && printed.fill (Some (wants (form (turned TargetProperty (rest_of k))))) (node h xs m us ▸ none)) ≡ true) (sym a.0) (and_one (is_printable (a_part Anything) (node h xs m us)) a.3)

pub target_rest_row : Row a_target_rest TargetElement
target_rest_row strict inside l shape.RestElement [] n ts b e k v =
    over_one inside false (one an_element_target) (λ us. stands_at TargetElement (node shape.RestElement [] n (all_shown us)) ≡ true) (λ t bt et kt. rest_element n (shown t) (bt.target inside target_of_element et kt)) ts b e k
target_rest_row strict inside l h xs n ts b e k v = absurd (never (has_names h xs) e)

-- what is no pattern isn't shown as one
member_shown : (strict : Bool) (t : Tree) → fits strict (one a_member_target) t ≡ true → is_target_shape (shape_of (shown t)) ≡ false
member_shown strict (node (shape.StaticMemberExpression b) xs n ts) e = refl
member_shown strict (node (shape.ComputedMemberExpression b) xs n ts) e = refl
member_shown strict (node (shape.PrivateFieldExpression b) xs n ts) e = refl
member_shown strict (node shape.SuperStaticMemberExpression xs n ts) e = refl
member_shown strict (node shape.SuperComputedMemberExpression xs n ts) e = refl
member_shown strict (node h xs n ts) e = absurd (never (is_whole a_member_target h xs n ts) e)

no_pattern_shown : (strict : Bool) (t : Tree) → fits strict (one an_element_target) t ≡ true → is_pattern_target t ≡ false → is_target_shape (shape_of (shown t)) ≡ false
no_pattern_shown strict (node shape.ObjectAssignmentTarget xs n ts) e p = absurd (false≢true (sym p))
no_pattern_shown strict (node shape.ArrayAssignmentTarget xs n ts) e p = absurd (false≢true (sym p))
no_pattern_shown strict (node shape.Identifier xs n ts) e p = refl
no_pattern_shown strict (node shape.InnerExpression xs n none) e p = refl
no_pattern_shown strict (node shape.InnerExpression xs n (t ▸ none)) e p = member_shown strict t (and_l (fits strict (one a_member_target) t) true (and_r (is_whole an_element_target shape.InnerExpression xs n (t ▸ none)) (fits strict (one a_member_target) t && true) e))
no_pattern_shown strict (node shape.InnerExpression xs n (t ▸ (u ▸ ts))) e p = refl
no_pattern_shown strict (node h xs n ts) e p = absurd (never (is_whole an_element_target h xs n ts) e)

pub plain_rest_row : (strict inside l : Bool) (h : Shape) (xs : List Name) (n : ℕ) (ts : Trees) → Below ts → (has_names h xs && accept.fill inside (filling_by (slots_of strict a_target_rest h)) ts) ≡ true → is_clean l (node h xs n ts) ≡ true → is_pattern_rest (node h xs n ts) ≡ false → is_printable (a_part TargetProperty) (seen h xs n (all_shown ts)) ≡ true
plain_rest_row strict inside l shape.RestElement [] n ts b e k p =
    over_one inside false (one an_element_target) (λ us. is_pattern_rest (node shape.RestElement [] n us) ≡ false → is_printable (a_part TargetProperty) (node shape.RestElement [] n (all_shown us)) ≡ true)
    (λ t bt et kt q. part_of TargetProperty (node shape.RestElement [] n (shown t ▸ none)) (rest_property n (shown t) (no_pattern_shown inside t et q) (bt.target inside target_of_element et kt))) ts b e k p
plain_rest_row strict inside l h xs n ts b e k p = absurd (never (has_names h xs) e)

-- the items of an object pattern, whose rest is no pattern
pub object_list : (strict : Bool) (ts : Trees) → Below ts → accept.fill strict (each_or_last (one a_target_property) (one a_target_rest)) ts ≡ true → are_clean false ts ≡ true → are_plain_rests ts ≡ true → are_printable TargetProperty false (all_shown ts) ≡ true
object_list strict none b e k p = refl
object_list strict (t ▸ ts) b e k p =
    both (is_printable (a_part TargetProperty) (shown t)) (are_printable TargetProperty false (all_shown ts))
    (by_either (fits strict (one a_target_property) t) (accept.is_last ts) (fits strict (one a_target_rest) t) (is_printable (a_part TargetProperty) (shown t) ≡ true)
    (λ d. b.0.seat strict target_property false refl d (and_l (is_clean false t) (are_clean false ts) k))
    (λ d. b.0.plain_rest strict d (and_l (is_clean false t) (are_clean false ts) k) (untrue (is_pattern_rest t) (and_l (not (is_pattern_rest t)) (are_plain_rests ts) p)))
    (and_l (fits strict (one a_target_property) t || (accept.is_last ts && fits strict (one a_target_rest) t)) (accept.fill strict (each_or_last (one a_target_property) (one a_target_rest)) ts) e))
    (object_list strict ts b.1 (and_r (fits strict (one a_target_property) t || (accept.is_last ts && fits strict (one a_target_rest) t)) (accept.fill strict (each_or_last (one a_target_property) (one a_target_rest)) ts) e) (and_r (is_clean false t) (are_clean false ts) k) (and_r (not (is_pattern_rest t)) (are_plain_rests ts) p))

-- ---- names with a default or without

pub same_is : (s t : List ℕ) → same_text s t ≡ true → s ≡ t
same_is [] [] e = refl
same_is [] (d ∷ t) e = absurd (false≢true e)
same_is (c ∷ s) [] e = absurd (false≢true e)
same_is (c ∷ s) (d ∷ t) e = ap (λ y. y ∷ s) (eqb-true c d (and_l (nat_eq c d) (same_text s t) e)) ∙ ap (λ y. d ∷ y) (same_is s t (and_r (nat_eq c d) (same_text s t) e))

abbrev NamedAs : Bool → Tree → List ℕ → Type 0
NamedAs d u s = (is_reserved s ≡ false) × (((has_default_shape (shape_of u) ≡ false) × (is_printable (a_silent (named d s)) u ≡ true)) ⊎ ((has_default_shape (shape_of u) ≡ true) × (is_printable (a_part (DefaultOf d s)) u ≡ true)))

as_spelled : (d : Bool) (u : Tree) (x : List ℕ) → NamedAs d u x → (s : List ℕ) → same_text s x ≡ true → NamedAs d u s
as_spelled d u x a s e = subst (NamedAs d u) (sym (same_is s x e)) a

-- `c` is that a spelling is itself
named_default : (c a p : Bool) → c ≡ true → a ≡ false → p ≡ true → (((c && true) && (false || ((c && true) && true))) && (not a && (c && (p && true)))) ≡ true
named_default c a p e f g = subst (λ z. (((z && true) && (false || ((z && true) && true))) && (not a && (z && (p && true)))) ≡ true) (sym e) (subst (λ z. (not z && (p && true)) ≡ true) (sym f) (and_one p g))

pub bound_named : (strict inside l : Bool) (h : Shape) (xs : List Name) (n : ℕ) (ts : Trees) → Below ts → (has_names h xs && accept.fill inside (filling_by (slots_of strict a_pattern_element h)) ts) ≡ true → is_clean l (node h xs n ts) ≡ true → Named true (node h xs n ts) (seen h xs n (all_shown ts))
bound_named strict inside l shape.BindingIdentifier (x ∷ []) n none b e k s w = let c = clean_node l shape.BindingIdentifier (x ∷ []) n none refl k in as_spelled true (node shape.BindingIdentifier (x ∷ []) n none) x.spelling (c.0, inl (refl, same_self x.spelling)) s w
bound_named strict inside l shape.BindingIdentifier (x ∷ []) n (t ▸ ts) b e k s w = absurd (never (accept.is_name x.spelling) e)
bound_named strict inside l shape.BindingIdentifier [] n ts b e k s w = absurd (false≢true e)
bound_named strict inside l shape.BindingIdentifier (x ∷ y ∷ xs) n ts b e k s w = absurd (false≢true e)
bound_named strict inside l shape.AssignmentPattern [] n ts b e k s w =
    over_two inside false (one a_pattern) (one (an_inner an_expression)) (λ us. accept.is_same_spelling (Some s) (accept.spelling (accept.without_default (node shape.AssignmentPattern [] n us))) ≡ true → NamedAs true (node shape.AssignmentPattern [] n (all_shown us)) s)
    (λ t u bt bu et eu kt ku w'. on t (shown u) et kt (value_stands (shown u) (bu.seat inside inner false refl eu ku)) w') ts b e k w
  where
    on : (t u : Tree) → fits inside (one a_pattern) t ≡ true → is_clean false t ≡ true → stands_at Anything u ≡ true → accept.is_same_spelling (Some s) (accept.spelling t) ≡ true → NamedAs true (node shape.AssignmentPattern [] n (shown t ▸ (u ▸ none))) s
    on (node shape.BindingIdentifier (x ∷ []) m none) u et kt eu w' =
        let c = clean_node false shape.BindingIdentifier (x ∷ []) m none refl kt in
        let i = node shape.BindingIdentifier (x ∷ []) m none in
        as_spelled true (node shape.AssignmentPattern [] n (i ▸ (u ▸ none))) x.spelling
        (c.0, inr (refl, part_of (DefaultOf true x.spelling) (node shape.AssignmentPattern [] n (i ▸ (u ▸ none))) (named_default (same_text x.spelling x.spelling) (is_absent u) (is_printable (a_part Anything) u) (same_self x.spelling) (stands_present Anything u eu) (part_of Anything u eu)))) s w'
    on (node shape.BindingIdentifier (x ∷ []) m (v ▸ vs)) u et kt eu w' = absurd (never (is_whole a_pattern shape.BindingIdentifier (x ∷ []) m (v ▸ vs)) et)
    on (node shape.BindingIdentifier [] m ts') u et kt eu w' = absurd (false≢true et)
    on (node shape.BindingIdentifier (x ∷ y ∷ xs) m ts') u et kt eu w' = absurd (false≢true et)
    on (node shape.ObjectPattern xs m ts') u et kt eu w' = absurd (false≢true w')
    on (node shape.ArrayPattern xs m ts') u et kt eu w' = absurd (false≢true w')
    on (node h xs m ts') u et kt eu w' = absurd (never (is_whole a_pattern h xs m ts') et)
bound_named strict inside l shape.ObjectPattern xs n ts b e k s w = absurd (false≢true w)
bound_named strict inside l shape.ArrayPattern xs n ts b e k s w = absurd (false≢true w)
bound_named strict inside l h xs n ts b e k s w = absurd (never (has_names h xs) e)

pub target_named : (strict inside l : Bool) (h : Shape) (xs : List Name) (n : ℕ) (ts : Trees) → Below ts → (has_names h xs && accept.fill inside (filling_by (slots_of strict a_named_target h)) ts) ≡ true → is_clean l (node h xs n ts) ≡ true → Named false (node h xs n ts) (seen h xs n (all_shown ts))
target_named strict inside l shape.Identifier (x ∷ []) n none b e k s w = let c = clean_node l shape.Identifier (x ∷ []) n none refl k in as_spelled false (node shape.Identifier (x ∷ []) n none) x.spelling (c.0, inl (refl, same_self x.spelling)) s w
target_named strict inside l shape.Identifier (x ∷ []) n (t ▸ ts) b e k s w = absurd (never (accept.is_name x.spelling) e)
target_named strict inside l shape.Identifier [] n ts b e k s w = absurd (false≢true e)
target_named strict inside l shape.Identifier (x ∷ y ∷ xs) n ts b e k s w = absurd (false≢true e)
target_named strict inside l shape.AssignmentPattern [] n ts b e k s w =
    over_two inside false (one a_target_name) (one (an_inner an_expression)) (λ us. accept.is_same_spelling (Some s) (accept.spelling (accept.without_default (node shape.AssignmentPattern [] n us))) ≡ true → NamedAs false (node shape.AssignmentPattern [] n (all_shown us)) s)
    (λ t u bt bu et eu kt ku w'. on t (shown u) et kt (value_stands (shown u) (bu.seat inside inner false refl eu ku)) w') ts b e k w
  where
    on : (t u : Tree) → fits inside (one a_target_name) t ≡ true → is_clean false t ≡ true → stands_at Anything u ≡ true → accept.is_same_spelling (Some s) (accept.spelling t) ≡ true → NamedAs false (node shape.AssignmentPattern [] n (shown t ▸ (u ▸ none))) s
    on (node shape.Identifier (x ∷ []) m none) u et kt eu w' =
        let c = clean_node false shape.Identifier (x ∷ []) m none refl kt in
        let i = node shape.Identifier (x ∷ []) m none in
        as_spelled false (node shape.AssignmentPattern [] n (i ▸ (u ▸ none))) x.spelling
        (c.0, inr (refl, part_of (DefaultOf false x.spelling) (node shape.AssignmentPattern [] n (i ▸ (u ▸ none))) (named_default (same_text x.spelling x.spelling) (is_absent u) (is_printable (a_part Anything) u) (same_self x.spelling) (stands_present Anything u eu) (part_of Anything u eu)))) s w'
    on (node shape.Identifier (x ∷ []) m (v ▸ vs)) u et kt eu w' = absurd (never (is_whole a_target_name shape.Identifier (x ∷ []) m (v ▸ vs)) et)
    on (node shape.Identifier [] m ts') u et kt eu w' = absurd (false≢true et)
    on (node shape.Identifier (x ∷ y ∷ xs) m ts') u et kt eu w' = absurd (false≢true et)
    on (node h xs m ts') u et kt eu w' = absurd (never (is_whole a_target_name h xs m ts') et)
target_named strict inside l h xs n ts b e k s w = absurd (never (has_names h xs) e)

-- ---- properties

target_shorthand : (n m : ℕ) (s : List ℕ) (u : Tree) → NamedAs false u s → stands_at TargetProperty (node shape.AssignmentTargetPropertyIdentifier [] n (node (shape.IdentifierName s) [] m none ▸ (u ▸ none))) ≡ true
target_shorthand n m s (node h xs k us) (r, inl a) =
    subst (λ d. (is_wanted TargetProperty (Some (turned TargetProperty (target_of d s))) && printed.fill (Some (wants (form (turned TargetProperty (target_of d s))))) (node (shape.IdentifierName s) [] m none ▸ (node h xs k us ▸ none))) ≡ true) (sym a.0)
    (both (not (is_reserved s) && (false || (not (is_reserved s) && true))) (same_text s s && (is_printable (a_silent (ReferenceOf s)) (node h xs k us) && true)) (ap (λ c. not c && (false || (not c && true))) r) (and_two (same_text s s) (is_printable (a_silent (ReferenceOf s)) (node h xs k us)) (same_self s) a.1))
target_shorthand n m s (node h xs k us) (r, inr a) =
    subst (λ d. (is_wanted TargetProperty (Some (turned TargetProperty (target_of d s))) && printed.fill (Some (wants (form (turned TargetProperty (target_of d s))))) (node (shape.IdentifierName s) [] m none ▸ (node h xs k us ▸ none))) ≡ true) (sym a.0)
    (both (not (is_reserved s) && (false || (not (is_reserved s) && true))) (same_text s s && (is_printable (a_part (DefaultOf false s)) (node h xs k us) && true)) (ap (λ c. not c && (false || (not c && true))) r) (and_two (same_text s s) (is_printable (a_part (DefaultOf false s)) (node h xs k us)) (same_self s) a.1))

by_name : (inside : Bool) (n : ℕ) (t u : Tree) → Served u → fits inside (one a_label) t ≡ true → fits inside (one a_named_target) u ≡ true → is_clean false u ≡ true → accept.repeats_key (t ▸ (u ▸ none)) ≡ true → stands_at TargetProperty (node shape.AssignmentTargetPropertyIdentifier [] n (shown t ▸ (shown u ▸ none))) ≡ true
by_name inside n (node (shape.IdentifierName s) [] m none) u b et eu ku v = target_shorthand n m s (shown u) (b.named_by inside false eu ku s v)
by_name inside n (node (shape.IdentifierName s) [] m (w ▸ ws)) u b et eu ku v = absurd (never (is_whole a_label (shape.IdentifierName s) [] m (w ▸ ws)) et)
by_name inside n (node (shape.IdentifierName s) (x ∷ xs) m ts) u b et eu ku v = absurd (false≢true et)
by_name inside n (node h xs m ts) u b et eu ku v = absurd (never (is_whole a_label h xs m ts) et)

pub target_property_row : Row a_target_property TargetProperty
target_property_row strict inside l (shape.AssignmentTargetPropertyProperty false) [] n ts b e k v = parts ts b inside (inner_key ∷ target_element ∷ []) false refl e k
target_property_row strict inside l (shape.AssignmentTargetPropertyProperty true) [] n ts b e k v = parts ts b inside (inner_computed_key ∷ target_element ∷ []) false refl e k
target_property_row strict inside l shape.AssignmentTargetPropertyIdentifier [] n ts b e k v =
    over_two inside false (one a_label) (one a_named_target) (λ us. accept.repeats_key us ≡ true → stands_at TargetProperty (node shape.AssignmentTargetPropertyIdentifier [] n (all_shown us)) ≡ true) (λ t u bt bu et eu kt ku w. by_name inside n t u bu et eu ku w) ts b e k v
target_property_row strict inside l h xs n ts b e k v = absurd (never (has_names h xs) e)
