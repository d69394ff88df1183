-- What a row on the key of a pattern or a class writes may stand wherever what it reads may.
use Rattle.std.proofs.Common.{◌≡◌, ℕ, ◌<◌, Bool, true, false, List, [], ◌∷◌, None, refl, sym, ap, subst, ◌∙◌, inl, inr, arith}
use Rattle.std.specs.Prelude.{◌⊎◌, ◌&&◌, not, nat_eq, codes, pos}
use Rattle.std.specs.Char.{digit_value}
use Rattle.std.specs.Fmt.{signed_decimal}
use Rattle.std.specs.Str.Parse.{AllDigits}
use Rattle.std.proofs.lemmas.Bool.{eqb-true}
use Rattle.std.proofs.lemmas.Fmt.{decimal_is_IsNumeral}
use Rattle.mini_model.specs.Numerals.{IsSafe}
use Rattle.mini_model.specs.declared.kind.MethodDefinitionKind.{MethodDefinitionKind}
use Rattle.mini_model.specs.declared.kind.MethodDefinitionKind.TheVariants.{Constructor, Method}
use Rattle.mini_model.specs.Tree.{Tree, none, ◌▸◌}
use Rattle.mini_accept.specs.WellShaped.{Depth, in_module, in_body, nested, Class, a_statement, a_class_member, a_method as a_method_value, a_key, a_private_or_key, an_inner, an_inner_key, an_expression, a_pattern_property, a_pattern_element, a_target_property, a_target_element, Slot, one, one_or_absent, is_text, has_its_kind, statement_slots, refused, filling, filling_by, fits}
use Rattle.mini_kept.specs.KeepsFrames.{is_keyed_slot}
use Rattle.mini_kept.proofs.Expressions.{refused_here}
use Rattle.mini_rows.specs.KeyHolders.{Holder, a_binding, a_target, a_method, a_field, holder_shape, holding, Spelling, of_name, of_whole, IsSpelling, quoted, unquoted}
use Rattle.mini_rows.proofs.SpellKeyShapes.{name_fits, number_fits}
use Rattle.mini_rows.proofs.SpellShapes.{safe_is}

-- ---- where what has a key stands

abbrev pub holder_class : Holder → Class
holder_class a_binding = a_pattern_property
holder_class a_target = a_target_property
holder_class (a_method kind is_static) = a_class_member
holder_class (a_field is_static) = a_class_member

nowhere : (strict : Bool) (d : Depth) (h : Holder) → statement_slots strict d (holder_shape h) ≡ None
nowhere true in_module a_binding = refl
nowhere true in_body a_binding = refl
nowhere true nested a_binding = refl
nowhere false in_module a_binding = refl
nowhere false in_body a_binding = refl
nowhere false nested a_binding = refl
nowhere strict d h = refl

unfoldable pub Refused : Bool → Class → Holder → Type 0
Refused strict c h = filling strict (one c) (holder_shape h) ≡ refused

key_refused : (strict b : Bool) (h : Holder) → Refused strict (a_key b) h
unfolding Refused
key_refused strict true a_binding = refl
key_refused strict false a_binding = refl
key_refused strict b h = refl

private_refused : (strict b : Bool) (h : Holder) → Refused strict (a_private_or_key b) h
unfolding Refused
private_refused strict true a_binding = refl
private_refused strict false a_binding = refl
private_refused strict b h = refl

inner_refused : (strict b : Bool) (h : Holder) → Refused strict (an_inner_key b) h
unfolding Refused
inner_refused strict true a_binding = refl
inner_refused strict false a_binding = refl
inner_refused strict b h = refl

pub class_of_holder : (strict : Bool) (c : Class) (h : Holder) → (c ≡ holder_class h) ⊎ Refused strict c h
unfolding Refused
class_of_holder strict a_pattern_property a_binding = inl refl
class_of_holder strict a_target_property a_target = inl refl
class_of_holder strict a_class_member (a_method kind is_static) = inl refl
class_of_holder strict a_class_member (a_field is_static) = inl refl
class_of_holder strict (a_statement d) h = inr (ap filling_by (nowhere strict d h))
class_of_holder strict (a_key b) h = inr (key_refused strict b h)
class_of_holder strict (a_private_or_key b) h = inr (private_refused strict b h)
class_of_holder strict (an_inner_key b) h = inr (inner_refused strict b h)
class_of_holder strict c a_binding = inr refl
class_of_holder strict c a_target = inr refl
class_of_holder strict c (a_method kind is_static) = inr refl
class_of_holder strict c (a_field is_static) = inr refl

-- ---- the key

-- no number is spelled `constructor`
no_digit : (c : ℕ) (r : Bool) → digit_value c < 10 → nat_eq c 99 && r ≡ false
no_digit c r h = go (nat_eq c 99) refl
  where
    go : (b : Bool) → nat_eq c 99 ≡ b → b && r ≡ false
    go false e = refl
    go true e = let low : digit_value 99 < 10 = subst (λ x. digit_value x < 10) (eqb-true c 99 e) h in absurd (omega (arith, low))

digits_differ : (s : List ℕ) → AllDigits 10 s → is_text s (codes "constructor") ≡ false
digits_differ [] h = refl
digits_differ (c ∷ s) h = no_digit c (is_text s (codes "onstructor")) h.0

no_constructor : (n : ℕ) → IsSafe (pos n) → is_text (signed_decimal (pos n)) (codes "constructor") ≡ false
no_constructor n safe = digits_differ (signed_decimal (pos n)) (decimal_is_IsNumeral n (omega (arith, safe))).0.1

-- so a method stays of its kind
kind_same : (s : Spelling) → IsSpelling s → (kind : MethodDefinitionKind) (is_static : Bool) → has_its_kind kind false is_static (quoted s) ≡ has_its_kind kind false is_static (unquoted s)
kind_same (of_name s) i Constructor is_static = refl
kind_same (of_name s) i Method is_static = refl
kind_same (of_name s) i kind is_static = refl
kind_same (of_whole n) i Constructor is_static = ap (λ b. not is_static && b) (no_constructor n i)
kind_same (of_whole n) i Method is_static = ap (λ b. not (not is_static && b)) (no_constructor n i)
kind_same (of_whole n) i kind is_static = refl

key_fits : (strict : Bool) (s : Spelling) → IsSpelling s → fits strict (one (a_key false)) (quoted s) ≡ true → fits strict (one (a_key false)) (unquoted s) ≡ true
key_fits strict (of_name s) i = name_fits strict s i
key_fits strict (of_whole n) i = number_fits strict n (signed_decimal (pos n)) (safe_is (pos n) i)

-- in a slot of keys that takes private names, or one of keys of patterns, a text, a name and a number fit as in one of keys
private_key : (strict : Bool) (s : Spelling) → IsSpelling s → fits strict (one (a_private_or_key false)) (quoted s) ≡ true → fits strict (one (a_private_or_key false)) (unquoted s) ≡ true
private_key strict (of_name s) i e = key_fits strict (of_name s) i e
private_key strict (of_whole n) i e = key_fits strict (of_whole n) i e

inner_key : (strict : Bool) (s : Spelling) → IsSpelling s → fits strict (one (an_inner_key false)) (quoted s) ≡ true → fits strict (one (an_inner_key false)) (unquoted s) ≡ true
inner_key strict (of_name s) i e = key_fits strict (of_name s) i e
inner_key strict (of_whole n) i e = key_fits strict (of_whole n) i e

-- ---- the whole

changed : (a b c : Bool) → (a ≡ true → b ≡ true) → (a && (c && true)) ≡ true → (b && (c && true)) ≡ true
changed true b c h e = ap (λ x. x && (c && true)) (h refl) ∙ e
changed false b c h e = absurd (cc e)

within : (w x a b c : Bool) → w ≡ x → (a ≡ true → b ≡ true) → (w && (a && (c && true))) ≡ true → (x && (b && (c && true))) ≡ true
within true x a b c q h e = ap (λ y. y && (b && (c && true))) (sym q) ∙ changed a b c h e
within false x a b c q h e = absurd (cc e)

FitsUnquoted : Bool → Slot → Holder → Spelling → Tree → Type 0
FitsUnquoted strict t h s v = fits strict t (holding h (quoted s) v) ≡ true → fits strict t (holding h (unquoted s) v) ≡ true

in_class : (strict : Bool) (h : Holder) (s : Spelling) (v : Tree) → IsSpelling s → FitsUnquoted strict (one (holder_class h)) h s v
unfolding FitsUnquoted
in_class strict a_binding s v i e = changed (fits strict (one (an_inner_key false)) (quoted s)) (fits strict (one (an_inner_key false)) (unquoted s)) (fits strict (one a_pattern_element) v) (inner_key strict s i) e
in_class strict a_target s v i e = changed (fits strict (one (an_inner_key false)) (quoted s)) (fits strict (one (an_inner_key false)) (unquoted s)) (fits strict (one a_target_element) v) (inner_key strict s i) e
in_class strict (a_method kind is_static) s v i e =
    within (has_its_kind kind false is_static (quoted s)) (has_its_kind kind false is_static (unquoted s)) (fits strict (one (a_private_or_key false)) (quoted s)) (fits strict (one (a_private_or_key false)) (unquoted s)) (fits strict (one a_method_value) v)
    (kind_same s i kind is_static) (private_key strict s i) e
in_class strict (a_field is_static) s v i e = changed (fits strict (one (a_private_or_key false)) (quoted s)) (fits strict (one (a_private_or_key false)) (unquoted s)) (fits strict (one_or_absent (an_inner an_expression)) v) (private_key strict s i) e

-- whether it may be absent is not asked of it
or_absent : (strict : Bool) (h : Holder) (s : Spelling) (v : Tree) → FitsUnquoted strict (one (holder_class h)) h s v → FitsUnquoted strict (one_or_absent (holder_class h)) h s v
unfolding FitsUnquoted
or_absent strict a_binding s v f = f
or_absent strict a_target s v f = f
or_absent strict (a_method kind is_static) s v f = f
or_absent strict (a_field is_static) s v f = f

keyed_class : (h : Holder) → is_keyed_slot (one (holder_class h)) ≡ true
keyed_class a_binding = refl
keyed_class a_target = refl
keyed_class (a_method kind is_static) = refl
keyed_class (a_field is_static) = refl

-- what fills a slot there has its key alone changed, and its slot is that of what has a key
pub record Stands (strict : Bool) (t : Slot) (h : Holder) (s : Spelling) (v : Tree) : Type 0 where
  pub slot : is_keyed_slot t ≡ true
  pub written : fits strict t (holding h (unquoted s) v) ≡ true

Filled : Bool → Slot → Holder → Spelling → Tree → Type 0
Filled strict t h s v = fits strict t (holding h (quoted s) v) ≡ true

pub refused_absent : (strict : Bool) (c : Class) (h : Holder) → Refused strict c h → filling strict (one_or_absent c) (holder_shape h) ≡ refused
unfolding Refused
refused_absent strict c a_binding q = q
refused_absent strict c a_target q = q
refused_absent strict c (a_method kind is_static) q = q
refused_absent strict c (a_field is_static) q = q

in_one : (strict : Bool) (c : Class) (h : Holder) (s : Spelling) (v : Tree) → IsSpelling s → Filled strict (one c) h s v → Stands strict (one c) h s v
unfolding Refused FitsUnquoted Filled
in_one strict c h s v i e = by (class_of_holder strict c h)
  where
    by : (c ≡ holder_class h) ⊎ Refused strict c h → Stands strict (one c) h s v
    by (inl q) = record { slot = ap (λ x. is_keyed_slot (one x)) q ∙ keyed_class h; written = subst (λ x. fits strict (one x) (holding h (unquoted s) v) ≡ true) (sym q) (in_class strict h s v i (subst (λ x. fits strict (one x) (holding h (quoted s) v) ≡ true) q e)) }
    by (inr q) = absurd (refused_here strict (one c) (holder_shape h) [] 0 (quoted s ▸ v ▸ none) q e)

in_absent : (strict : Bool) (c : Class) (h : Holder) (s : Spelling) (v : Tree) → IsSpelling s → Filled strict (one_or_absent c) h s v → Stands strict (one_or_absent c) h s v
unfolding Refused FitsUnquoted Filled
in_absent strict c h s v i e = by (class_of_holder strict c h)
  where
    by : (c ≡ holder_class h) ⊎ Refused strict c h → Stands strict (one_or_absent c) h s v
    by (inl q) = record { slot = ap (λ x. is_keyed_slot (one_or_absent x)) q ∙ keyed_class h; written = subst (λ x. fits strict (one_or_absent x) (holding h (unquoted s) v) ≡ true) (sym q) (or_absent strict h s v (in_class strict h s v i) (subst (λ x. fits strict (one_or_absent x) (holding h (quoted s) v) ≡ true) q e)) }
    by (inr q) = absurd (refused_here strict (one_or_absent c) (holder_shape h) [] 0 (quoted s ▸ v ▸ none) (refused_absent strict c h q) e)

pub stands : (strict : Bool) (t : Slot) (h : Holder) (s : Spelling) (v : Tree) → IsSpelling s → fits strict t (holding h (quoted s) v) ≡ true → Stands strict t h s v
unfolding Filled
stands strict (one c) h s v i e = in_one strict c h s v i e
stands strict (one_or_absent c) h s v i e = in_absent strict c h s v i e
stands strict t a_binding s v i e = absurd (refused_here strict t (holder_shape a_binding) [] 0 (quoted s ▸ v ▸ none) refl e)
stands strict t a_target s v i e = absurd (refused_here strict t (holder_shape a_target) [] 0 (quoted s ▸ v ▸ none) refl e)
stands strict t (a_method kind is_static) s v i e = absurd (refused_here strict t (holder_shape (a_method kind is_static)) [] 0 (quoted s ▸ v ▸ none) refl e)
stands strict t (a_field is_static) s v i e = absurd (refused_here strict t (holder_shape (a_field is_static)) [] 0 (quoted s ▸ v ▸ none) refl e)
