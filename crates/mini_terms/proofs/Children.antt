-- What is known of the children of a node.
use Rattle.std.proofs.Common.{◌≡◌, ℕ, zero, suc, ◌<◌, ◌+◌, ◌≤◌, Bool, true, false, refl, sym, ap, ◌∙◌, arith}
use Rattle.std.specs.Prelude.{◌-◌, ◌&&◌}
use Rattle.mini_model.specs.declared.shape.Shape.TheVariants as shape
use Rattle.mini_model.specs.Tree.{Tree, Trees, node, none, ◌▸◌, children, count, shape_of, child_or_absent, node_count, node_counts}
use Rattle.mini_node.specs.Children.{part, names_of, rest_children}
use Rattle.mini_node.specs.Walks.{next_child, no_rest}
use Rattle.mini_laws.specs.Naming.{kinds}
use Rattle.mini_terms.specs.Kind.{Kind, IsUndefined, IsNull, IsBoolean, IsNumber, IsBigInt, IsString, IsObject, common, is_primitive, Undetermined, nth_kind, last_kind, kind_by, kind, each_kind}
use Rattle.mini_terms.specs.Effects.{nth_true, all_true, all_primitive, primitive_items, each_primitive, is_identifier, each_identifier, ef_by, ef, each_ef}
use Rattle.mini_terms.specs.Reading.{is_plain_part_by, first_of, is_plain_part, are_plain_parts}
use Rattle.mini_terms.specs.Parts.{leaves_nothing_by, leaves_nothing, leave_nothing, is_link, is_several, first_is_several, first_is_link, is_template_by, second_is_template, weighs_over, weighs}

pub kind_is : (t : Tree) → kind t ≡ kind_by (shape_of t) (kinds (names_of t)) (each_kind (children t))
kind_is (node h xs n ts) = refl

kind_of_nth : (ts : Trees) (i : ℕ) → nth_kind (each_kind ts) i ≡ kind (child_or_absent ts i)
kind_of_nth none i = refl
kind_of_nth (t ▸ ts) zero = refl
kind_of_nth (t ▸ ts) (suc i) = kind_of_nth ts i

pub kind_at : (t : Tree) (i : ℕ) → nth_kind (each_kind (children t)) i ≡ kind (part t i)
kind_at t i = kind_of_nth (children t) i

none_at : (ts : Trees) (i : ℕ) → count ts ≤ i → nth_kind (each_kind ts) i ≡ Undetermined
none_at none i e = refl
none_at (t ▸ ts) zero e = absurd (omega (arith, e))
none_at (t ▸ ts) (suc i) e = none_at ts i (omega (arith, e))

pub no_kind_at : (t : Tree) (i : ℕ) → count (children t) ≤ i → nth_kind (each_kind (children t)) i ≡ Undetermined
no_kind_at t i e = none_at (children t) i e

last_of : (t : Tree) (ts : Trees) → last_kind (each_kind (t ▸ ts)) ≡ kind (child_or_absent (t ▸ ts) (count ts))
last_of t none = refl
last_of t (u ▸ us) = last_of u us

last_at : (ts : Trees) → zero < count ts → last_kind (each_kind ts) ≡ kind (child_or_absent ts (count ts - 1))
last_at none e = absurd (omega (arith, e))
last_at (t ▸ ts) e =
    let same : count (t ▸ ts) - 1 ≡ count ts = omega arith in
    last_of t ts ∙ ap (λ k. kind (child_or_absent (t ▸ ts) k)) (sym same)

pub last_kind_at : (t : Tree) → zero < count (children t) → last_kind (each_kind (children t)) ≡ kind (part t (count (children t) - 1))
last_kind_at t e = last_at (children t) e

no_last : (ts : Trees) → count ts ≤ zero → last_kind (each_kind ts) ≡ Undetermined
no_last none e = refl
no_last (t ▸ ts) e = absurd (omega (arith, e))

pub no_last_kind : (t : Tree) → count (children t) ≤ zero → last_kind (each_kind (children t)) ≡ Undetermined
no_last_kind t e = no_last (children t) e

-- whether a child is an identifier, whether its items are primitive, whether it is effect-free

identifiers_at : (ts : Trees) (i : ℕ) → i < count ts → nth_true (each_identifier ts) i ≡ is_identifier (child_or_absent ts i)
identifiers_at none i e = absurd (omega (arith, e))
identifiers_at (t ▸ ts) zero e = refl
identifiers_at (t ▸ ts) (suc i) e = identifiers_at ts i (omega (arith, e))

pub identifier_at : (t : Tree) → zero < count (children t) → nth_true (each_identifier (children t)) 0 ≡ is_identifier (part t 0)
identifier_at t e = identifiers_at (children t) 0 e

no_identifiers : (ts : Trees) → count ts ≤ zero → nth_true (each_identifier ts) 0 ≡ false
no_identifiers none e = refl
no_identifiers (t ▸ ts) e = absurd (omega (arith, e))

pub no_identifier : (t : Tree) → count (children t) ≤ zero → nth_true (each_identifier (children t)) 0 ≡ false
no_identifier t e = no_identifiers (children t) e

items_of : (t : Tree) → primitive_items t ≡ all_primitive (each_kind (children t))
items_of (node h xs n ts) = refl

pub primitive_items_at : (t : Tree) → 1 < count (children t) → nth_true (each_primitive (children t)) 1 ≡ all_primitive (each_kind (children (part t 1)))
primitive_items_at (node h xs n none) e = absurd (omega (arith, e))
primitive_items_at (node h xs n (a ▸ none)) e = absurd (omega (arith, e))
primitive_items_at (node h xs n (a ▸ (b ▸ ts))) e = items_of b

pub no_primitive_items : (t : Tree) → count (children t) ≤ 1 → nth_true (each_primitive (children t)) 1 ≡ false
no_primitive_items (node h xs n none) e = refl
no_primitive_items (node h xs n (a ▸ none)) e = refl
no_primitive_items (node h xs n (a ▸ (b ▸ ts))) e = absurd (omega (arith, e))

pub primitive_stops : (ts : Trees) (i : ℕ) → i < count ts → is_primitive (kind (child_or_absent ts i)) ≡ false → all_primitive (each_kind (rest_children i ts)) ≡ all_primitive (each_kind ts) → false ≡ all_primitive (each_kind ts)
primitive_stops ts i h e inv = sym (ap (λ b. b && all_primitive (each_kind (rest_children (suc i) ts))) e) ∙ sym (ap (λ us. all_primitive (each_kind us)) (next_child ts i h)) ∙ inv

pub primitive_goes_on : (ts : Trees) (i : ℕ) → i < count ts → is_primitive (kind (child_or_absent ts i)) ≡ true → all_primitive (each_kind (rest_children i ts)) ≡ all_primitive (each_kind ts) → all_primitive (each_kind (rest_children (i + 1) ts)) ≡ all_primitive (each_kind ts)
primitive_goes_on ts i h e inv = let next : i + 1 ≡ suc i = omega arith in ap (λ k. all_primitive (each_kind (rest_children k ts))) next ∙ sym (ap (λ b. b && all_primitive (each_kind (rest_children (suc i) ts))) e) ∙ sym (ap (λ us. all_primitive (each_kind us)) (next_child ts i h)) ∙ inv

pub primitive_ends : (ts : Trees) (i : ℕ) → count ts ≤ i → all_primitive (each_kind (rest_children i ts)) ≡ all_primitive (each_kind ts) → true ≡ all_primitive (each_kind ts)
primitive_ends ts i h inv = sym (ap (λ us. all_primitive (each_kind us)) (no_rest ts i h)) ∙ inv

effects_at : (asked : Bool) (ts : Trees) (i : ℕ) → i < count ts → nth_true (each_ef asked ts) i ≡ ef asked (child_or_absent ts i)
effects_at asked none i e = absurd (omega (arith, e))
effects_at asked (t ▸ ts) zero e = refl
effects_at asked (t ▸ ts) (suc i) e = effects_at asked ts i (omega (arith, e))

pub effect_free_at : (asked : Bool) (t : Tree) (i : ℕ) → i < count (children t) → nth_true (each_ef asked (children t)) i ≡ ef asked (part t i)
effect_free_at asked t i e = effects_at asked (children t) i e

no_effects : (asked : Bool) (ts : Trees) (i : ℕ) → count ts ≤ i → nth_true (each_ef asked ts) i ≡ false
no_effects asked none i e = refl
no_effects asked (t ▸ ts) zero e = absurd (omega (arith, e))
no_effects asked (t ▸ ts) (suc i) e = no_effects asked ts i (omega (arith, e))

pub none_effect_free : (asked : Bool) (t : Tree) (i : ℕ) → count (children t) ≤ i → nth_true (each_ef asked (children t)) i ≡ false
none_effect_free asked t i e = no_effects asked (children t) i e

pub effect_free_stops : (asked : Bool) (ts : Trees) (i : ℕ) → i < count ts → ef asked (child_or_absent ts i) ≡ false → all_true (each_ef asked (rest_children i ts)) ≡ all_true (each_ef asked ts) → false ≡ all_true (each_ef asked ts)
effect_free_stops asked ts i h e inv = sym (ap (λ b. b && all_true (each_ef asked (rest_children (suc i) ts))) e) ∙ sym (ap (λ us. all_true (each_ef asked us)) (next_child ts i h)) ∙ inv

pub effect_free_goes_on : (asked : Bool) (ts : Trees) (i : ℕ) → i < count ts → ef asked (child_or_absent ts i) ≡ true → all_true (each_ef asked (rest_children i ts)) ≡ all_true (each_ef asked ts) → all_true (each_ef asked (rest_children (i + 1) ts)) ≡ all_true (each_ef asked ts)
effect_free_goes_on asked ts i h e inv = let next : i + 1 ≡ suc i = omega arith in ap (λ k. all_true (each_ef asked (rest_children k ts))) next ∙ sym (ap (λ b. b && all_true (each_ef asked (rest_children (suc i) ts))) e) ∙ sym (ap (λ us. all_true (each_ef asked us)) (next_child ts i h)) ∙ inv

pub effect_free_ends : (asked : Bool) (ts : Trees) (i : ℕ) → count ts ≤ i → all_true (each_ef asked (rest_children i ts)) ≡ all_true (each_ef asked ts) → true ≡ all_true (each_ef asked ts)
effect_free_ends asked ts i h inv = sym (ap (λ us. all_true (each_ef asked us)) (no_rest ts i h)) ∙ inv

pub operands_first : (a b c : Bool) → a && b && c ≡ (c && (a && b))
operands_first true true true = refl
operands_first true true false = refl
operands_first true false true = refl
operands_first true false false = refl
operands_first false b true = refl
operands_first false b false = refl

pub ef_is : (asked : Bool) (t : Tree) → ef asked t ≡ ef_by asked (shape_of t) (names_of t) (each_kind (children t)) (each_identifier (children t)) (each_primitive (children t)) (each_ef asked (children t))
ef_is asked (node h xs n ts) = refl

pub below : (t : Tree) → node_counts (children t) + 1 ≡ node_count t
below (node h xs n ts) = omega arith

-- parts that stay, and parts that are dropped

pub plain_is : (t : Tree) → is_plain_part t ≡ is_plain_part_by (shape_of t) (first_of (are_plain_parts (children t)))
plain_is (node h xs n ts) = refl

pub first_plain : (t : Tree) → zero < count (children t) → first_of (are_plain_parts (children t)) ≡ is_plain_part (part t 0)
first_plain (node h xs n none) e = absurd (omega (arith, e))
first_plain (node h xs n (a ▸ ts)) e = refl

pub no_plain : (t : Tree) → count (children t) ≤ zero → first_of (are_plain_parts (children t)) ≡ false
no_plain (node h xs n none) e = refl
no_plain (node h xs n (a ▸ ts)) e = absurd (omega (arith, e))

pub leaving_is : (t : Tree) → leaves_nothing t ≡ leaves_nothing_by (shape_of t) && leave_nothing (children t)
leaving_is (node h xs n ts) = refl

pub leaving_stops : (ts : Trees) (i : ℕ) → i < count ts → leaves_nothing (child_or_absent ts i) ≡ false → leave_nothing (rest_children i ts) ≡ leave_nothing ts → false ≡ leave_nothing ts
leaving_stops ts i h e inv = sym (ap (λ b. b && leave_nothing (rest_children (suc i) ts)) e) ∙ sym (ap leave_nothing (next_child ts i h)) ∙ inv

pub leaving_goes_on : (ts : Trees) (i : ℕ) → i < count ts → leaves_nothing (child_or_absent ts i) ≡ true → leave_nothing (rest_children i ts) ≡ leave_nothing ts → leave_nothing (rest_children (i + 1) ts) ≡ leave_nothing ts
leaving_goes_on ts i h e inv = let next : i + 1 ≡ suc i = omega arith in ap (λ k. leave_nothing (rest_children k ts)) next ∙ sym (ap (λ b. b && leave_nothing (rest_children (suc i) ts)) e) ∙ sym (ap leave_nothing (next_child ts i h)) ∙ inv

pub leaving_ends : (ts : Trees) (i : ℕ) → count ts ≤ i → leave_nothing (rest_children i ts) ≡ leave_nothing ts → true ≡ leave_nothing ts
leaving_ends ts i h inv = sym (ap leave_nothing (no_rest ts i h)) ∙ inv

pub several_is : (t : Tree) → shape_of t ≡ shape.Listed → 2 ≤ count (children t) → is_several t ≡ true
several_is (node shape.Listed xs n none) s e = absurd (omega (arith, e))
several_is (node shape.Listed xs n (a ▸ none)) s e = absurd (omega (arith, e))
several_is (node shape.Listed xs n (a ▸ (b ▸ ts))) s e = refl
several_is t s e = absurd (cc s)

pub few_are : (t : Tree) → count (children t) < 2 → is_several t ≡ false
few_are (node shape.Listed xs n none) e = refl
few_are (node shape.Listed xs n (a ▸ none)) e = refl
few_are (node shape.Listed xs n (a ▸ (b ▸ ts))) e = absurd (omega (arith, e))
few_are (node h xs n ts) e = refl

pub first_several : (t : Tree) → zero < count (children t) → first_is_several (children t) ≡ is_several (part t 0)
first_several (node h xs n none) e = absurd (omega (arith, e))
first_several (node h xs n (a ▸ ts)) e = refl

pub none_several : (t : Tree) → count (children t) ≤ zero → first_is_several (children t) ≡ false
none_several (node h xs n none) e = refl
none_several (node h xs n (a ▸ ts)) e = absurd (omega (arith, e))

pub first_link : (t : Tree) → zero < count (children t) → first_is_link (children t) ≡ is_link (shape_of (part t 0))
first_link (node h xs n none) e = absurd (omega (arith, e))
first_link (node h xs n (a ▸ ts)) e = refl

pub no_link : (t : Tree) → count (children t) ≤ zero → first_is_link (children t) ≡ false
no_link (node h xs n none) e = refl
no_link (node h xs n (a ▸ ts)) e = absurd (omega (arith, e))

pub second_template : (t : Tree) → suc zero < count (children t) → second_is_template (children t) ≡ is_template_by (shape_of (part t 1))
second_template (node h xs n none) e = absurd (omega (arith, e))
second_template (node h xs n (a ▸ none)) e = absurd (omega (arith, e))
second_template (node h xs n (a ▸ (b ▸ ts))) e = refl

pub no_template : (t : Tree) → count (children t) ≤ suc zero → second_is_template (children t) ≡ false
no_template (node h xs n none) e = refl
no_template (node h xs n (a ▸ none)) e = refl
no_template (node h xs n (a ▸ (b ▸ ts))) e = absurd (omega (arith, e))

pub weighs_is : (t : Tree) → weighs t ≡ weighs_over (shape_of t) (names_of t) (children t)
weighs_is (node h xs n ts) = refl

-- ---- of two kinds

pub unknown_left : (k : Kind) → common Undetermined k ≡ Undetermined
unknown_left k = refl

pub common_turned : (j k : Kind) → common j k ≡ common k j
common_turned IsUndefined IsUndefined = refl
common_turned IsUndefined IsNull = refl
common_turned IsUndefined IsBoolean = refl
common_turned IsUndefined IsNumber = refl
common_turned IsUndefined IsBigInt = refl
common_turned IsUndefined IsString = refl
common_turned IsUndefined IsObject = refl
common_turned IsUndefined Undetermined = refl
common_turned IsNull IsUndefined = refl
common_turned IsNull IsNull = refl
common_turned IsNull IsBoolean = refl
common_turned IsNull IsNumber = refl
common_turned IsNull IsBigInt = refl
common_turned IsNull IsString = refl
common_turned IsNull IsObject = refl
common_turned IsNull Undetermined = refl
common_turned IsBoolean IsUndefined = refl
common_turned IsBoolean IsNull = refl
common_turned IsBoolean IsBoolean = refl
common_turned IsBoolean IsNumber = refl
common_turned IsBoolean IsBigInt = refl
common_turned IsBoolean IsString = refl
common_turned IsBoolean IsObject = refl
common_turned IsBoolean Undetermined = refl
common_turned IsNumber IsUndefined = refl
common_turned IsNumber IsNull = refl
common_turned IsNumber IsBoolean = refl
common_turned IsNumber IsNumber = refl
common_turned IsNumber IsBigInt = refl
common_turned IsNumber IsString = refl
common_turned IsNumber IsObject = refl
common_turned IsNumber Undetermined = refl
common_turned IsBigInt IsUndefined = refl
common_turned IsBigInt IsNull = refl
common_turned IsBigInt IsBoolean = refl
common_turned IsBigInt IsNumber = refl
common_turned IsBigInt IsBigInt = refl
common_turned IsBigInt IsString = refl
common_turned IsBigInt IsObject = refl
common_turned IsBigInt Undetermined = refl
common_turned IsString IsUndefined = refl
common_turned IsString IsNull = refl
common_turned IsString IsBoolean = refl
common_turned IsString IsNumber = refl
common_turned IsString IsBigInt = refl
common_turned IsString IsString = refl
common_turned IsString IsObject = refl
common_turned IsString Undetermined = refl
common_turned IsObject IsUndefined = refl
common_turned IsObject IsNull = refl
common_turned IsObject IsBoolean = refl
common_turned IsObject IsNumber = refl
common_turned IsObject IsBigInt = refl
common_turned IsObject IsString = refl
common_turned IsObject IsObject = refl
common_turned IsObject Undetermined = refl
common_turned Undetermined IsUndefined = refl
common_turned Undetermined IsNull = refl
common_turned Undetermined IsBoolean = refl
common_turned Undetermined IsNumber = refl
common_turned Undetermined IsBigInt = refl
common_turned Undetermined IsString = refl
common_turned Undetermined IsObject = refl
common_turned Undetermined Undetermined = refl
