-- What loses the brackets of its key may stand wherever it might with them.
use Rattle.std.proofs.Common.{◌≡◌, ℕ, zero, suc, Bool, true, false, List, [], None, refl, sym, ap, subst, ◌∙◌, inl, inr}
use Rattle.std.specs.Prelude.{◌⊎◌, ◌&&◌, ◌||◌, not, codes}
use Rattle.std.proofs.lemmas.Bool.{false≢true}
use Rattle.mini_model.specs.declared.kind.MethodDefinitionKind.{MethodDefinitionKind}
use Rattle.mini_model.specs.declared.kind.MethodDefinitionKind.TheVariants.{Constructor, Method}
use Rattle.mini_model.specs.declared.shape.Shape.TheVariants as shape
use Rattle.mini_model.specs.Tree.{Tree, node, none, ◌▸◌}
use Rattle.mini_model.specs.Weight.{same_text}
use Rattle.mini_accept.specs.WellShaped.{Depth, in_module, in_body, nested, Class, a_statement, a_class_member, a_method as a_method_value, a_key, a_private_or_key, an_inner, an_inner_key, an_expression, a_target_property, a_target_element, Slot, one, one_or_absent, is_text, has_its_kind, statement_slots, refused, filling, filling_by, is_whole, fits}
use Rattle.mini_kept.specs.KeepsFrames.{is_keyed_slot}
use Rattle.mini_kept.proofs.Bools.{left, right}
use Rattle.mini_kept.proofs.Expressions.{refused_here}
use Rattle.mini_rows.specs.KeyHolders.{Member, of_target, of_method, of_field, member_shape, in_brackets, without_brackets, PlainKey, a_word, a_count, plain_key, loses_brackets}

abbrev inner : ℕ → Tree → Tree
inner i k = node shape.InnerExpression [] i (k ▸ none)

-- ---- where it stands

abbrev member_class : Member → Class
member_class of_target = a_target_property
member_class (of_method kind is_static) = a_class_member
member_class (of_field is_static) = a_class_member

Refused : Bool → Class → Member → Type 0
Refused strict c m = filling strict (one c) (member_shape true m) ≡ refused

nowhere : (strict : Bool) (d : Depth) (m : Member) → statement_slots strict d (member_shape true m) ≡ None
nowhere true in_module of_target = refl
nowhere true in_body of_target = refl
nowhere true nested of_target = refl
nowhere false in_module of_target = refl
nowhere false in_body of_target = refl
nowhere false nested of_target = refl
nowhere strict d m = refl

key_refused : (strict b : Bool) (m : Member) → Refused strict (a_key b) m
unfolding Refused
key_refused strict true of_target = refl
key_refused strict false of_target = refl
key_refused strict b m = refl

private_refused : (strict b : Bool) (m : Member) → Refused strict (a_private_or_key b) m
unfolding Refused
private_refused strict true of_target = refl
private_refused strict false of_target = refl
private_refused strict b m = refl

inner_refused : (strict b : Bool) (m : Member) → Refused strict (an_inner_key b) m
unfolding Refused
inner_refused strict true of_target = refl
inner_refused strict false of_target = refl
inner_refused strict b m = refl

class_of_member : (strict : Bool) (c : Class) (m : Member) → (c ≡ member_class m) ⊎ Refused strict c m
unfolding Refused
class_of_member strict a_target_property of_target = inl refl
class_of_member strict a_class_member (of_method kind is_static) = inl refl
class_of_member strict a_class_member (of_field is_static) = inl refl
class_of_member strict (a_statement d) m = inr (ap filling_by (nowhere strict d m))
class_of_member strict (a_key b) m = inr (key_refused strict b m)
class_of_member strict (a_private_or_key b) m = inr (private_refused strict b m)
class_of_member strict (an_inner_key b) m = inr (inner_refused strict b m)
class_of_member strict c of_target = inr refl
class_of_member strict c (of_method kind is_static) = inr refl
class_of_member strict c (of_field is_static) = inr refl

-- ---- the key

-- a number that stands for an inner expression isn't 0
pub numbered : (strict : Bool) (i : ℕ) (k : Tree) → fits strict (one (an_inner an_expression)) (inner i k) ≡ true → (j : ℕ) × (i ≡ suc j)
numbered strict zero k e = absurd (false≢true e)
numbered strict (suc j) k e = (j, refl)

pub as_expression : (strict : Bool) (i : ℕ) (k : Tree) → fits strict (one (an_inner an_expression)) (inner i k) ≡ true → fits strict (one an_expression) k ≡ true
as_expression strict i k e = left (fits strict (one an_expression) k) true (right (is_whole (an_inner an_expression) shape.InnerExpression [] i (k ▸ none)) (fits strict (one an_expression) k && true) e)

pub plain_fits : (strict : Bool) (k : PlainKey) → fits strict (one an_expression) (plain_key k) ≡ true → fits strict (one (a_key false)) (plain_key k) ≡ true
plain_fits strict (a_word s) e = e
plain_fits strict (a_count n) e = e

-- in a slot of keys that takes private names, or one of keys of patterns, it fits as in one of keys
private_key : (strict : Bool) (k : PlainKey) → fits strict (one (a_key false)) (plain_key k) ≡ true → fits strict (one (a_private_or_key false)) (plain_key k) ≡ true
private_key strict (a_word s) e = e
private_key strict (a_count n) e = e

pub inner_key : (strict : Bool) (k : PlainKey) → fits strict (one (a_key false)) (plain_key k) ≡ true → fits strict (one (an_inner_key false)) (plain_key k) ≡ true
inner_key strict (a_word s) e = e
inner_key strict (a_count n) e = e

-- ---- a method stays of its kind

no_word : (a b c : Bool) → not (a || (b || (not (true && false) && c))) ≡ true → c ≡ false
no_word true b c e = absurd (false≢true e)
no_word false true c e = absurd (false≢true e)
no_word false false true e = absurd (false≢true e)
no_word false false false e = refl

same_texts : (s t : List ℕ) → same_text s t ≡ is_text s t
same_texts s t = refl

kind_kept : (kind : MethodDefinitionKind) (is_static : Bool) (i : ℕ) (k : PlainKey) → loses_brackets (of_method kind is_static) k ≡ true → has_its_kind kind true is_static (inner i (plain_key k)) ≡ true → has_its_kind kind false is_static (plain_key k) ≡ true
kind_kept Constructor true i k l e = e
kind_kept Constructor false i k l e = absurd (false≢true e)
kind_kept Method true i k l e = refl
kind_kept Method false i (a_word s) l e = ap not (sym (same_texts s (codes "constructor")) ∙ no_word (same_text s (codes "#constructor")) false (same_text s (codes "constructor")) l)
kind_kept Method false i (a_count n) l e = refl
kind_kept kind is_static i k l e = refl

-- ---- the whole

pub changed : (a b c : Bool) → (a ≡ true → b ≡ true) → (a && (c && true)) ≡ true → (b && (c && true)) ≡ true
changed true b c h e = ap (λ x. x && (c && true)) (h refl) ∙ e
changed false b c h e = absurd (cc e)

within : (w x a b c : Bool) → (w ≡ true → x ≡ true) → (a ≡ true → b ≡ true) → (w && (a && (c && true))) ≡ true → (x && (b && (c && true))) ≡ true
within true x a b c q h e = ap (λ y. y && (b && (c && true))) (q refl) ∙ changed a b c h e
within false x a b c q h e = absurd (cc e)

FitsBare : Bool → Slot → Member → ℕ → PlainKey → Tree → Type 0
FitsBare strict t m i k v = fits strict t (in_brackets m i (plain_key k) v) ≡ true → fits strict t (without_brackets m (plain_key k) v) ≡ true

in_class : (strict : Bool) (m : Member) (i : ℕ) (k : PlainKey) (v : Tree) → loses_brackets m k ≡ true → FitsBare strict (one (member_class m)) m i k v
unfolding FitsBare
in_class strict of_target i k v l e = changed (fits strict (one (an_inner_key true)) (inner i (plain_key k))) (fits strict (one (an_inner_key false)) (plain_key k)) (fits strict (one a_target_element) v) (λ f. inner_key strict k (plain_fits strict k (as_expression strict i (plain_key k) f))) e
in_class strict (of_method kind is_static) i k v l e =
    within (has_its_kind kind true is_static (inner i (plain_key k))) (has_its_kind kind false is_static (plain_key k)) (fits strict (one (a_private_or_key true)) (inner i (plain_key k))) (fits strict (one (a_private_or_key false)) (plain_key k)) (fits strict (one a_method_value) v)
    (kind_kept kind is_static i k l) (λ f. private_key strict k (plain_fits strict k (as_expression strict i (plain_key k) f))) e
in_class strict (of_field is_static) i k v l e = changed (fits strict (one (a_private_or_key true)) (inner i (plain_key k))) (fits strict (one (a_private_or_key false)) (plain_key k)) (fits strict (one_or_absent (an_inner an_expression)) v) (λ f. private_key strict k (plain_fits strict k (as_expression strict i (plain_key k) f))) e

first_of : (a c : Bool) → (a && (c && true)) ≡ true → a ≡ true
first_of a c e = left a (c && true) e

second_of : (w a c : Bool) → (w && (a && (c && true))) ≡ true → a ≡ true
second_of w a c e = left a (c && true) (right w (a && (c && true)) e)

Numbered : Bool → Slot → Member → ℕ → PlainKey → Tree → Type 0
Numbered strict t m i k v = fits strict t (in_brackets m i (plain_key k) v) ≡ true → (j : ℕ) × (i ≡ suc j)

number_in_class : (strict : Bool) (m : Member) (i : ℕ) (k : PlainKey) (v : Tree) → Numbered strict (one (member_class m)) m i k v
unfolding Numbered
number_in_class strict of_target i k v e = numbered strict i (plain_key k) (first_of (fits strict (one (an_inner_key true)) (inner i (plain_key k))) (fits strict (one a_target_element) v) e)
number_in_class strict (of_method kind is_static) i k v e = numbered strict i (plain_key k) (second_of (has_its_kind kind true is_static (inner i (plain_key k))) (fits strict (one (a_private_or_key true)) (inner i (plain_key k))) (fits strict (one a_method_value) v) e)
number_in_class strict (of_field is_static) i k v e = numbered strict i (plain_key k) (first_of (fits strict (one (a_private_or_key true)) (inner i (plain_key k))) (fits strict (one_or_absent (an_inner an_expression)) v) e)

keyed_class : (m : Member) → is_keyed_slot (one (member_class m)) ≡ true
keyed_class of_target = refl
keyed_class (of_method kind is_static) = refl
keyed_class (of_field is_static) = refl

-- whether it may be absent is not asked of it
as_one : (strict : Bool) (c : Class) (m : Member) (i : ℕ) (k : PlainKey) (v : Tree) → fits strict (one_or_absent c) (in_brackets m i (plain_key k) v) ≡ true → fits strict (one c) (in_brackets m i (plain_key k) v) ≡ true
as_one strict c of_target i k v e = e
as_one strict c (of_method kind is_static) i k v e = e
as_one strict c (of_field is_static) i k v e = e

or_absent : (strict : Bool) (c : Class) (m : Member) (k : PlainKey) (v : Tree) → fits strict (one c) (without_brackets m (plain_key k) v) ≡ true → fits strict (one_or_absent c) (without_brackets m (plain_key k) v) ≡ true
or_absent strict c of_target k v e = e
or_absent strict c (of_method kind is_static) k v e = e
or_absent strict c (of_field is_static) k v e = e

-- what fills a slot there fills it without the brackets, its slot is that of what has a key, and the key has a number
pub record Stands (strict : Bool) (t : Slot) (m : Member) (i : ℕ) (k : PlainKey) (v : Tree) : Type 0 where
  pub slot : is_keyed_slot t ≡ true
  pub written : fits strict t (without_brackets m (plain_key k) v) ≡ true
  pub before : ℕ
  pub number : i ≡ suc before

in_one : (strict : Bool) (c : Class) (m : Member) (i : ℕ) (k : PlainKey) (v : Tree) → loses_brackets m k ≡ true → fits strict (one c) (in_brackets m i (plain_key k) v) ≡ true → Stands strict (one c) m i k v
unfolding Refused FitsBare Numbered
in_one strict c m i k v l e = by (class_of_member strict c m)
  where
    by : (c ≡ member_class m) ⊎ Refused strict c m → Stands strict (one c) m i k v
    by (inl q) =
        let f = subst (λ x. fits strict (one x) (in_brackets m i (plain_key k) v) ≡ true) q e in
        let x = number_in_class strict m i k v f in
        record {
          slot = ap (λ y. is_keyed_slot (one y)) q ∙ keyed_class m;
          written = subst (λ y. fits strict (one y) (without_brackets m (plain_key k) v) ≡ true) (sym q) (in_class strict m i k v l f);
          before = x.0;
          number = x.1;
        }
    by (inr q) = absurd (refused_here strict (one c) (member_shape true m) [] 0 (inner i (plain_key k) ▸ v ▸ none) q e)

pub stands : (strict : Bool) (t : Slot) (m : Member) (i : ℕ) (k : PlainKey) (v : Tree) → loses_brackets m k ≡ true → fits strict t (in_brackets m i (plain_key k) v) ≡ true → Stands strict t m i k v
stands strict (one c) m i k v l e = in_one strict c m i k v l e
stands strict (one_or_absent c) m i k v l e =
    let x = in_one strict c m i k v l (as_one strict c m i k v e) in
    record { slot = x.slot; written = or_absent strict c m k v x.written; before = x.before; number = x.number }
stands strict t of_target i k v l e = absurd (refused_here strict t (member_shape true of_target) [] 0 (inner i (plain_key k) ▸ v ▸ none) refl e)
stands strict t (of_method kind is_static) i k v l e = absurd (refused_here strict t (member_shape true (of_method kind is_static)) [] 0 (inner i (plain_key k) ▸ v ▸ none) refl e)
stands strict t (of_field is_static) i k v l e = absurd (refused_here strict t (member_shape true (of_field is_static)) [] 0 (inner i (plain_key k) ▸ v ▸ none) refl e)
