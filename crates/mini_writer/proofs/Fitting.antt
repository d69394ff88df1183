-- What fits a slot, with the children that it has.
use Rattle.std.proofs.Common.{◌≡◌, ℕ, suc, ◌+◌, ◌≤◌, List, [], ◌∷◌, refl, ap, sym, ◌∙◌, arith, Bool, true, false, ◌&&◌}
use Rattle.std.specs.Prelude.{Option}
use Rattle.std.proofs.lemmas.Bool.{and_parts, false≢true, true≢false}
use Rattle.mini_model.specs.declared.name.Name.{Name}
use Rattle.mini_model.specs.declared.shape.Shape.{Shape}
use Rattle.mini_model.specs.declared.shape.Shape.TheVariants as shape
use Rattle.mini_model.specs.Tree.{Tree, node, Trees, none, ◌▸◌, node_count, node_counts}
use Rattle.mini_accept.specs.WellShaped as shaped
use Rattle.mini_accept.specs.WellShaped.{Class, Slot, Filling, these, refused, each, each_or_last, fits, fill, filling_by, slots_of, is_strict_in, has_names, has_plain_fields, has_its_parts, none_if}
use Rattle.mini_writer.proofs.Units.{has_units, have_units, fields_are_units, names_are_units, written_names}

-- a tree that fits a slot, has units as its texts, and has at most so many nodes
pub record Fit (k : ℕ) (strict : Bool) (s : Slot) (t : Tree) : Type 0 where
  pub fits : fits strict s t ≡ true
  pub units : has_units t ≡ true
  pub small : node_count t ≤ k

pub record Filled (k : ℕ) (strict : Bool) (f : Filling) (ts : Trees) : Type 0 where
  pub fills : fill strict f ts ≡ true
  pub units : have_units ts ≡ true
  pub small : node_counts ts ≤ k

-- a node that fits a place of a class
pub record NodeFits (k : ℕ) (strict : Bool) (c : Class) (h : Shape) (xs : List Name) (ts : Trees) : Type 0 where
  pub names : has_names h xs ≡ true
  pub fields : has_plain_fields h ≡ true
  pub parts : has_its_parts c h ts ≡ true
  pub field_units : fields_are_units h ≡ true
  pub name_units : names_are_units (written_names h xs) ≡ true
  pub filled : Filled k (is_strict_in strict h) (filling_by (slots_of strict c h)) ts

pub node_fits : (k : ℕ) (strict : Bool) (c : Class) (h : Shape) (xs : List Name) (n : ℕ) (ts : Trees) → Fit (suc k) strict (shaped.one c) (node h xs n ts) → NodeFits k strict c h xs ts
node_fits k strict c h xs n ts f =
    let (whole, fills) = and_parts _ (fill (is_strict_in strict h) (filling_by (slots_of strict c h)) ts) f.fits in
    let (names, others) = and_parts (has_names h xs) _ whole in
    let (counted, plain) = and_parts _ (has_plain_fields h && has_its_parts c h ts) others in
    let (fields, parts) = and_parts (has_plain_fields h) (has_its_parts c h ts) plain in
    let (field_units, rest) = and_parts (fields_are_units h) (names_are_units (written_names h xs) && have_units ts) f.units in
    let (name_units, units) = and_parts (names_are_units (written_names h xs)) (have_units ts) rest in
    let small : 1 + node_counts ts ≤ suc k = f.small in
    record { names = names; fields = fields; parts = parts; field_units = field_units; name_units = name_units; filled = record { fills = fills; units = units; small = omega arith } }

-- ---- children

pub with_none : (k : ℕ) (strict : Bool) (P : Trees → Type 0) → P none → (ts : Trees) → Filled k strict (these []) ts → P ts
with_none k strict P f none w = f
with_none k strict P f (t ▸ ts) w = absurd (false≢true w.fills)

pub with_first : (k : ℕ) (strict : Bool) (s : Slot) (ss : List Slot) (P : Trees → Type 0) → ((t : Tree) (ts : Trees) → Fit k strict s t → Filled k strict (these ss) ts → P (t ▸ ts)) → (ts : Trees) → Filled k strict (these (s ∷ ss)) ts → P ts
with_first k strict s ss P f none w = absurd (false≢true w.fills)
with_first k strict s ss P f (t ▸ ts) w =
    let (first, rest) = and_parts (fits strict s t) (fill strict (these ss) ts) w.fills in
    let (unit, units) = and_parts (has_units t) (have_units ts) w.units in
    let small : node_count t + node_counts ts ≤ k = w.small in
    f t ts (record { fits = first; units = unit; small = omega arith }) (record { fills = rest; units = units; small = omega arith })

pub with_one : (k : ℕ) (strict : Bool) (s : Slot) (P : Trees → Type 0) → ((a : Tree) → Fit k strict s a → P (a ▸ none)) → (ts : Trees) → Filled k strict (these (s ∷ [])) ts → P ts
with_one k strict s P f = with_first k strict s [] P (λ a us x w. with_none k strict (λ vs. P (a ▸ vs)) (f a x) us w)

pub with_two : (k : ℕ) (strict : Bool) (s r : Slot) (P : Trees → Type 0) → ((a b : Tree) → Fit k strict s a → Fit k strict r b → P (a ▸ b ▸ none)) → (ts : Trees) → Filled k strict (these (s ∷ r ∷ [])) ts → P ts
with_two k strict s r P f = with_first k strict s (r ∷ []) P (λ a us x w. with_one k strict r (λ vs. P (a ▸ vs)) (λ b y. f a b x y) us w)

pub with_three : (k : ℕ) (strict : Bool) (s r q : Slot) (P : Trees → Type 0) → ((a b c : Tree) → Fit k strict s a → Fit k strict r b → Fit k strict q c → P (a ▸ b ▸ c ▸ none)) → (ts : Trees) → Filled k strict (these (s ∷ r ∷ q ∷ [])) ts → P ts
with_three k strict s r q P f = with_first k strict s (r ∷ q ∷ []) P (λ a us x w. with_two k strict r q (λ vs. P (a ▸ vs)) (λ b c y z. f a b c x y z) us w)

pub with_four : (k : ℕ) (strict : Bool) (s r q p : Slot) (P : Trees → Type 0) → ((a b c d : Tree) → Fit k strict s a → Fit k strict r b → Fit k strict q c → Fit k strict p d → P (a ▸ b ▸ c ▸ d ▸ none)) → (ts : Trees) → Filled k strict (these (s ∷ r ∷ q ∷ p ∷ [])) ts → P ts
with_four k strict s r q p P f = with_first k strict s (r ∷ q ∷ p ∷ []) P (λ a us x w. with_three k strict r q p (λ vs. P (a ▸ vs)) (λ b c d y z v. f a b c d x y z v) us w)

-- ---- slots under a condition

pub unless_filled : (k : ℕ) (strict b : Bool) (o : Option (List Slot)) (ts : Trees) → Filled k strict (filling_by (none_if b o)) ts → (b ≡ false) × Filled k strict (filling_by o) ts
unless_filled k strict true o ts w = absurd (false≢true w.fills)
unless_filled k strict false o ts w = (refl, w)

-- ---- lists

pub and_false : (b : Bool) → (b && false) ≡ true → ⊥
and_false true e = false≢true e
and_false false e = false≢true e

-- a list's items, in a slot for a list
abbrev pub items_of : Slot → Filling
items_of (shaped.many c) = each (shaped.one c)
items_of (shaped.many_or_holes c) = each (shaped.one_or_absent c)
items_of (shaped.many_and_rest c rest) = each_or_last (shaped.one c) (shaped.one rest)
items_of (shaped.many_or_holes_and_rest c rest) = each_or_last (shaped.one_or_absent c) (shaped.one rest)
items_of (shaped.quasis g) = shaped.pieces g
items_of s = refused

abbrev pub is_list_slot : Slot → Bool
is_list_slot (shaped.one c) = false
is_list_slot (shaped.one_or_absent c) = false
is_list_slot s = true

abbrev pub is_listed_shape : Shape → Bool
is_listed_shape shape.Listed = true
is_listed_shape h = false

list_filling : (strict : Bool) (s : Slot) → is_list_slot s ≡ true → shaped.filling strict s shape.Listed ≡ items_of s
list_filling strict (shaped.one c) e = absurd (false≢true e)
list_filling strict (shaped.one_or_absent c) e = absurd (false≢true e)
list_filling strict (shaped.many c) e = refl
list_filling strict (shaped.many_or_holes c) e = refl
list_filling strict (shaped.many_and_rest c r) e = refl
list_filling strict (shaped.many_or_holes_and_rest c r) e = refl
list_filling strict (shaped.quasis g) e = refl

no_list : (strict : Bool) (s : Slot) (h : Shape) → is_list_slot s ≡ true → is_listed_shape h ≡ false → shaped.filling strict s h ≡ refused
no_list strict (shaped.one c) h e f = absurd (false≢true e)
no_list strict (shaped.one_or_absent c) h e f = absurd (false≢true e)
no_list strict s shape.Listed e f = absurd (true≢false f)
no_list strict (shaped.many c) h e f = refl
no_list strict (shaped.many_or_holes c) h e f = refl
no_list strict (shaped.many_and_rest c r) h e f = refl
no_list strict (shaped.many_or_holes_and_rest c r) h e f = refl
no_list strict (shaped.quasis g) h e f = refl

pub with_list : (k : ℕ) (strict : Bool) (s : Slot) (P : Tree → Type 0) → is_list_slot s ≡ true → ((n : ℕ) (ts : Trees) → Filled k strict (items_of s) ts → P (node shape.Listed [] n ts)) → (t : Tree) → Fit k strict s t → P t
with_list k strict s P e f (node shape.Listed [] n ts) w =
    let (whole, fills) = and_parts _ (fill strict (shaped.filling strict s shape.Listed) ts) w.fits in
    let small : 1 + node_counts ts ≤ k = w.small in
    f n ts (record { fills = ap (λ g. fill strict g ts) (sym (list_filling strict s e)) ∙ fills; units = w.units; small = omega arith })
with_list k strict s P e f (node shape.Listed (x ∷ xs) n ts) w = absurd (false≢true w.fits)
with_list k strict s P e f (node h xs n ts) w =
    let (whole, fills) = and_parts _ (fill (is_strict_in strict h) (shaped.filling strict s h) ts) w.fits in
    absurd (false≢true (ap (λ g. fill (is_strict_in strict h) g ts) (sym (no_list strict s h e refl)) ∙ fills))

pub with_optional : (k : ℕ) (strict : Bool) (c : Class) (P : Tree → Type 0) → ((n : ℕ) → P (node shape.Absent [] n none)) → ((t : Tree) → Fit k strict (shaped.one c) t → P t) → (t : Tree) → Fit k strict (shaped.one_or_absent c) t → P t
with_optional k strict c P f g (node shape.Absent [] n none) w = f n
with_optional k strict c P f g (node shape.Absent [] n (t ▸ ts)) w = absurd (and_false _ w.fits)
with_optional k strict c P f g (node shape.Absent (x ∷ xs) n ts) w = absurd (false≢true w.fits)
with_optional k strict c P f g (node h xs n ts) w = g (node h xs n ts) (record { fits = w.fits; units = w.units; small = w.small })

pub with_inner : (k : ℕ) (strict : Bool) (c : Class) (P : Tree → Type 0) → ((n : ℕ) (t : Tree) → Fit k strict (shaped.one c) t → P (node shape.InnerExpression [] n (t ▸ none))) → (t : Tree) → Fit k strict (shaped.one (shaped.an_inner c)) t → P t
with_inner k strict c P f (node shape.InnerExpression [] n ts) w =
    let small : 1 + node_counts ts ≤ k = w.small in
    let filled : Filled k strict (these (shaped.one c ∷ [])) ts = record { fills = (and_parts _ (fill strict (these (shaped.one c ∷ [])) ts) w.fits).1; units = w.units; small = omega arith } in
    with_one k strict (shaped.one c) (λ us. P (node shape.InnerExpression [] n us)) (λ t x. f n t x) ts filled
with_inner k strict c P f (node shape.InnerExpression (x ∷ xs) n ts) w = absurd (false≢true w.fits)
with_inner k strict c P f (node h xs n ts) w = absurd (and_false _ w.fits)

-- smaller trees fit where greater ones may
pub fit_more : (k l : ℕ) (strict : Bool) (s : Slot) (t : Tree) → k ≤ l → Fit k strict s t → Fit l strict s t
fit_more k l strict s t e f = let small : node_count t ≤ k = f.small in record { fits = f.fits; units = f.units; small = omega arith }
