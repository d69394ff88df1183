-- The plain fields of a node.
use Rattle.std.specs.Prelude.{ℕ, suc, List, [], ◌∷◌, Bool, true, false, ◌||◌, not, Option, Some, None, option_and_then, option_map, is_some, unwrap_or, if◌then◌else◌, codes}
use Rattle.serde_json.specs.Data.{Data, Items, no_items, item}
use Rattle.serde_json.specs.Find.{get, as_str, as_bool, as_array, as_null, as_object}
use Rattle.mini_model.specs.Texts.{units_of}
use Rattle.mini_accept.specs.WellShaped.{is_text, is_paired, is_name}
use Rattle.mini_accept.specs.Kind.{Kind, types}

infixl 10 ◌>>=◌
abbrev pub ◌>>=◌ : {A B : Type 0} → Option A → (A → Option B) → Option B
(Some x) >>= f = f x
None >>= f = None

-- only where the condition holds
abbrev pub require : {A : Type 0} → Bool → Option A → Option A
require true x = x
require false x = None

-- what stands beside a word in a list of words
abbrev pub word_in : {A : Type 0} → List (List ℕ × A) → List ℕ → Option A
word_in [] s = None
word_in ((w, x) ∷ ws) s = if is_text s w then Some x else word_in ws s

abbrev pub is_one_of : List (List ℕ) → List ℕ → Bool
is_one_of [] s = false
is_one_of (w ∷ ws) s = is_text s w || is_one_of ws s

-- ---- fields

abbrev pub is_object : Data → Bool
is_object d = is_some (as_object d)

-- neither absent nor null
abbrev pub is_there : Option Data → Bool
is_there None = false
is_there (Some d) = not (is_some (as_null d))

abbrev pub is_given : List ℕ → Data → Bool
is_given key d = is_there (get key d)

-- the bytes of a text
abbrev pub text_at : List ℕ → Data → Option (List ℕ)
text_at key d = option_and_then as_str (get key d)

abbrev pub is_text_by : List ℕ → Option (List ℕ) → Bool
is_text_by s None = false
is_text_by s (Some r) = is_text s r

-- the units of a text, if each half of a surrogate pair has the other, as in all UTF-8
abbrev pub paired_units : List ℕ → Option (List ℕ)
paired_units s = require (is_paired (units_of s)) (Some (units_of s))

abbrev pub units_at : List ℕ → Data → Option (List ℕ)
units_at key d = option_and_then paired_units (text_at key d)

-- the field is this text
abbrev pub has_text : List ℕ → List ℕ → Data → Bool
has_text key s d = is_text_by s (text_at key d)

-- the field is a text of these units
abbrev pub has_units : List ℕ → List ℕ → Data → Bool
has_units key s d = is_text_by s (option_map units_of (text_at key d))

-- a flag: false where it is absent, and nothing where it is none
abbrev pub flag_by : Option Data → Option Bool
flag_by None = Some false
flag_by (Some d) = as_bool d

abbrev pub flag_at : List ℕ → Data → Option Bool
flag_at key d = flag_by (get key d)

-- the items of a list field
abbrev pub list_at : List ℕ → Data → Option Items
list_at key d = option_and_then as_array (get key d)

abbrev pub no_item : Items → Bool
no_item no_items = true
no_item (item d ds) = false

-- no list, or an empty one
abbrev pub is_bare : List ℕ → Data → Bool
is_bare key d = unwrap_or (option_map no_item (list_at key d)) true

abbrev pub item_count : Items → ℕ
item_count no_items = 0
item_count (item d ds) = suc (item_count ds)

-- the units of an identifier's name
abbrev pub name_of_units : List ℕ → Option (List ℕ)
name_of_units units = require (is_name units) (Some units)

abbrev pub name_at : Data → Option (List ℕ)
name_at d = option_and_then (λ s. name_of_units (units_of s)) (text_at (codes "name") d)

-- ---- the type of a node

-- nothing where no type of the table is named
abbrev pub kind_of : Data → Option Kind
kind_of d = option_and_then (word_in types) (text_at (codes "type") d)

abbrev pub has_type : List ℕ → Data → Bool
has_type s d = has_text (codes "type") s d

abbrev pub has_one_of : List (List ℕ) → Data → Bool
has_one_of ss d = unwrap_or (option_map (is_one_of ss) (text_at (codes "type") d)) false

abbrev pub is_there_with : (Data → Bool) → Option Data → Bool
is_there_with test None = false
is_there_with test (Some d) = test d

-- the node at a key has this type
abbrev pub child_has_type : List ℕ → List ℕ → Data → Bool
child_has_type key s d = is_there_with (has_type s) (get key d)
