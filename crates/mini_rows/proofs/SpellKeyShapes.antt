-- What a row on a key writes may stand wherever what it reads may, and a parent may ask the same of both.
use Rattle.std.proofs.Common.{◌≡◌, ℕ, Bool, true, false, List, [], ◌∷◌, refl, sym, ap, subst, ◌∙◌, inl, inr}
use Rattle.std.specs.Prelude.{◌&&◌, not, pos}
use Rattle.std.specs.Fmt.{signed_decimal}
use Rattle.std.proofs.lemmas.Bool.{eq-eqb}
use Rattle.std.specs.Char.Utf16.{has_unpaired_surrogate}
use Rattle.mini_model.specs.declared.kind.PropertyKind.{PropertyKind}
use Rattle.mini_model.specs.declared.kind.PropertyKind.TheVariants.{Init, Get, Set}
use Rattle.mini_model.specs.declared.name.Name.{Name}
use Rattle.mini_model.specs.Texts.{are_units, is_identifier_name}
use Rattle.mini_model.specs.declared.place.Position.{Position}
use Rattle.mini_model.specs.declared.place.Position.TheVariants.{Expr}
use Rattle.mini_model.specs.Paths.{append}
use Rattle.mini_model.specs.Tree.{Tree, Trees, none, ◌▸◌, listed, identifier}
use Rattle.mini_accept.specs.WellShaped.{a_key, a_method, an_expression, an_object_property, Slot, one, each, is_safe, is_text, fits, fill}
use Rattle.mini_kept.specs.KeepsFrames.{is_body_slot}
use Rattle.mini_kept.specs.KeepsShapes.{AskedAlike}
use Rattle.mini_kept.proofs.Bools.{left, right, both}
use Rattle.mini_rows.specs.Spellings.{numeral, text, key}
use Rattle.mini_rows.specs.SpellKeys.{object_literal, property, KeyForm, a_name, a_whole, a_text_in_brackets, a_whole_in_brackets, IsSpelled, is_bracketed_form, read_key, written_key, function_property, PropertyRow, RowInObject, KeyRow}
use Rattle.mini_rows.proofs.SpellShapes.{an_object, Kind, Alone, Linked, Ending, Assigned, Nowhere, filled, stands, by_shape, FitsToo, safe_is, Formed, formed_asked, formed_slot}

-- ---- one property

abbrev of_object : Slot
of_object = one an_object_property

abbrev KeyFits : Bool → Tree → Tree → Type 0
KeyFits strict k l = fits strict (one (a_key false)) k ≡ true → fits strict (one (a_key false)) l ≡ true

changed : (a b c : Bool) → (a ≡ true → b ≡ true) → (a && (c && true)) ≡ true → (b && (c && true)) ≡ true
changed true b c h e = ap (λ x. x && (c && true)) (h refl) ∙ e
changed false b c h e = absurd (cc e)

-- a plain property's key may be another
keys_change : (strict : Bool) (k l v : Tree) → KeyFits strict k l → fits strict of_object (property false false k v) ≡ true → fits strict of_object (property false false l v) ≡ true
keys_change strict k l v h e = changed (fits strict (one (a_key false)) k) (fits strict (one (a_key false)) l) (fits strict (one an_expression) v) h e

text_units : (strict : Bool) (s : List ℕ) → fits strict (one (a_key false)) (text s) ≡ true → are_units s ≡ true
text_units strict s e = by (are_units s) (not (has_unpaired_surrogate s)) e
  where
    by : (a b : Bool) → (((a && b) && true) && true) ≡ true → a ≡ true
    by true b e = refl
    by false b e = e

pub name_fits : (strict : Bool) (s : List ℕ) → is_identifier_name s ≡ true → KeyFits strict (text s) (key s)
name_fits strict s n e = ap (λ a. ((a && is_identifier_name s) && true) && true) (text_units strict s e) ∙ ap (λ a. (a && true) && true) n

pub number_fits : (strict : Bool) (n : ℕ) (s : List ℕ) → is_safe (pos n) ≡ true → KeyFits strict (text s) (numeral (pos n))
number_fits strict n s h e = ap (λ a. (a && true) && true) h

pub is_itself : (s : List ℕ) → is_text s s ≡ true
is_itself [] = refl
is_itself (c ∷ s) = ap (λ b. b && is_text s s) (eq-eqb c c refl) ∙ is_itself s

shorthand_fits : (strict : Bool) (x : Name) → fits strict of_object (property false false (key x.spelling) (identifier x)) ≡ true → fits strict of_object (property true false (key x.spelling) (identifier x)) ≡ true
shorthand_fits strict x e = ap (λ b. b && (fits strict (one (a_key false)) (key x.spelling) && (fits strict (one an_expression) (identifier x) && true))) (is_itself x.spelling) ∙ e

PropertyFits : Tree → Tree → Type 0
PropertyFits n w = (strict : Bool) → fits strict of_object n ≡ true → fits strict of_object w ≡ true

property_by : (n w a b : Tree) → n ≡ a → w ≡ b → PropertyFits a b → PropertyFits n w
unfolding PropertyFits
property_by n w a b e f h strict g = subst (λ x. fits strict of_object x ≡ true) (sym f) (h strict (subst (λ x. fits strict of_object x ≡ true) e g))

-- a function's key may be another, with brackets or without
FormFits : PropertyKind → Bool → KeyForm → Tree → Type 0
FormFits k m f v = PropertyFits (function_property k m (is_bracketed_form f) (read_key f) v) (function_property k m false (written_key f) v)

function_keys : (k : PropertyKind) (m c : Bool) (strict : Bool) (x y v : Tree) → (fits strict (one (a_key c)) x ≡ true → fits strict (one (a_key false)) y ≡ true) → fits strict of_object (function_property k m c x v) ≡ true → fits strict of_object (function_property k m false y v) ≡ true
function_keys Init true c strict x y v h e = changed (fits strict (one (a_key c)) x) (fits strict (one (a_key false)) y) (fits strict (one a_method) v) h e
function_keys Init false c strict x y v h e = changed (fits strict (one (a_key c)) x) (fits strict (one (a_key false)) y) (fits strict (one an_expression) v) h e
function_keys Get false c strict x y v h e = changed (fits strict (one (a_key c)) x) (fits strict (one (a_key false)) y) (fits strict (one a_method) v) h e
function_keys Get true c strict x y v h e = absurd (cc e)
function_keys Set false c strict x y v h e = changed (fits strict (one (a_key c)) x) (fits strict (one (a_key false)) y) (fits strict (one a_method) v) h e
function_keys Set true c strict x y v h e = absurd (cc e)

form_fits : (k : PropertyKind) (m : Bool) (v : Tree) (f : KeyForm) → IsSpelled f → FormFits k m f v
unfolding PropertyFits FormFits
form_fits k m v (a_name s) h strict = function_keys k m false strict (text s) (key s) v (name_fits strict s h)
form_fits k m v (a_whole n) h strict = function_keys k m false strict (text (signed_decimal (pos n))) (numeral (pos n)) v (number_fits strict n (signed_decimal (pos n)) (safe_is (pos n) h))
form_fits k m v (a_text_in_brackets s) h strict = function_keys k m true strict (text s) (text s) v (λ e. e)
form_fits k m v (a_whole_in_brackets n) h strict = function_keys k m true strict (numeral (pos n)) (numeral (pos n)) v (λ e. e)

property_fits : (n w : Tree) → PropertyRow n w → PropertyFits n w
unfolding PropertyFits FormFits
property_fits n w (inl r) = property_by n w _ _ r.shape r.written (λ strict. shorthand_fits strict r.name)
property_fits n w (inr (inl r)) = property_by n w _ _ r.shape r.written (λ strict. keys_change strict (text r.name) (key r.name) r.value (name_fits strict r.name r.is_name))
property_fits n w (inr (inr (inl r))) = property_by n w _ _ r.shape r.written (λ strict. keys_change strict (text (signed_decimal (pos r.number))) (numeral (pos r.number)) r.value (number_fits strict r.number (signed_decimal (pos r.number)) (safe_is (pos r.number) r.is_safe)))
property_fits n w (inr (inr (inr (inl r)))) = property_by n w _ _ r.shape r.written (λ strict e. e)
property_fits n w (inr (inr (inr (inr (inr r))))) = property_by n w _ _ r.shape r.written (form_fits r.kind r.is_method r.value r.form r.is_spelled)
property_fits n w (inr (inr (inr (inr (inl r))))) = property_by n w _ _ r.shape r.written (λ strict e. e)

-- ---- the literal

one_fills : (strict : Bool) (pre : Trees) (t u : Tree) (post : Trees) → (fits strict of_object t ≡ true → fits strict of_object u ≡ true) → fill strict (each of_object) (append pre (t ▸ post)) ≡ true → fill strict (each of_object) (append pre (u ▸ post)) ≡ true
one_fills strict none t u post h e =
    both (fits strict of_object u) (fill strict (each of_object) post) (h (left (fits strict of_object t) (fill strict (each of_object) post) e)) (right (fits strict of_object t) (fill strict (each of_object) post) e)
one_fills strict (c ▸ pre) t u post h e =
    both (fits strict of_object c) (fill strict (each of_object) (append pre (u ▸ post))) (left (fits strict of_object c) (fill strict (each of_object) (append pre (t ▸ post))) e) (one_fills strict pre t u post h (right (fits strict of_object c) (fill strict (each of_object) (append pre (t ▸ post))) e))

object_stands : (strict : Bool) (ps qs : Trees) → (fill strict (each of_object) ps ≡ true → fill strict (each of_object) qs ≡ true) → (k : Kind) → filled strict k an_object (listed ps ▸ none) ≡ true → filled strict k an_object (listed qs ▸ none) ≡ true
object_stands strict ps qs h k e = by k e
  where
    by' : (a b : Bool) → (a ≡ true → b ≡ true) → (a && true) ≡ true → (b && true) ≡ true
    by' true b h e = ap (λ c. c && true) (h refl)
    by' false b h e = absurd (cc e)

    by : (k : Kind) → filled strict k an_object (listed ps ▸ none) ≡ true → filled strict k an_object (listed qs ▸ none) ≡ true
    by Alone e = by' (fill strict (each of_object) ps) (fill strict (each of_object) qs) h e
    by Linked e = by' (fill strict (each of_object) ps) (fill strict (each of_object) qs) h e
    by Ending e = absurd (cc e)
    by Assigned e = absurd (cc e)
    by Nowhere e = absurd (cc e)

object_fits : (n w : Tree) → RowInObject n w → FitsToo n w
unfolding PropertyFits
object_fits n w r = by_shape n w (object_literal (append r.before (r.from ▸ r.after))) (object_literal (append r.before (r.to ▸ r.after))) r.shape r.written (λ strict s. stands strict an_object an_object (listed (append r.before (r.from ▸ r.after)) ▸ none) (listed (append r.before (r.to ▸ r.after)) ▸ none) (object_stands strict (append r.before (r.from ▸ r.after)) (append r.before (r.to ▸ r.after)) (one_fills strict r.before r.from r.to r.after (property_fits r.from r.to r.row strict))) s)

row_formed : (n w : Tree) → RowInObject n w → Formed n w
row_formed n w r = record { first = an_object; second = an_object; parts = listed (append r.before (r.from ▸ r.after)) ▸ none; others = listed (append r.before (r.to ▸ r.after)) ▸ none; read = r.shape; made = r.written; optional = λ x. absurd (cc x) }

pub key_fits : (p : Position) (n w : Tree) → KeyRow p n w → (strict : Bool) (s : Slot) → fits strict s n ≡ true → fits strict s w ≡ true
key_fits (Expr q) n w r = object_fits n w r
key_fits p n w r = absurd r

pub key_asked : (p : Position) (n w : Tree) → KeyRow p n w → AskedAlike p n w
key_asked (Expr q) n w r = formed_asked (Expr q) n w (row_formed n w r)
key_asked p n w r = absurd r

pub key_slot : (p : Position) (n w : Tree) → KeyRow p n w → (strict : Bool) (s : Slot) → fits strict s n ≡ true → is_body_slot p s ≡ true
key_slot (Expr q) n w r = formed_slot (Expr q) n w (row_formed n w r)
key_slot p n w r = absurd r
