-- The texts of a well-shaped tree are units of 16 bits each.
use Rattle.std.proofs.Common.{◌≡◌, ℕ, List, [], ◌∷◌, refl, inl, inr, Bool, true, false, ◌&&◌}
use Rattle.std.specs.Prelude.{◌||◌, ◌==◌, Option, Some, None, not}
use Rattle.std.specs.Char.Utf16.{has_unpaired_surrogate}
use Rattle.std.proofs.lemmas.Bool.{and_parts, and_from, or_cases, false≢true}
use Rattle.mini_model.specs.Texts.{are_units, is_identifier_name}
use Rattle.mini_model.specs.declared.name.Name.{Name}
use Rattle.mini_model.specs.declared.shape.Shape.{Shape}
use Rattle.mini_model.specs.declared.shape.Shape.TheVariants as shape
use Rattle.mini_accept.specs.WellShaped as shaped
use Rattle.mini_accept.specs.WellShaped.{Slot, Filling, Tagging, IsWellShaped, a_program, these, refused, each, each_or_last, pieces, fits, fill, filling, class_of, is_strict_in, is_last, has_names, has_plain_fields, has_its_parts, is_paired, are_paired, is_paired_cooked, is_text_of_cooked, is_name, is_quasi, is_quasi_by, are_quasis}
use Rattle.mini_model.specs.Templates.{cooked}
use Rattle.mini_model.specs.Tree.{Tree, node, Trees, none, ◌▸◌}

abbrev pub all_are_units : List (List ℕ) → Bool
all_are_units [] = true
all_are_units (s ∷ ss) = are_units s && all_are_units ss

abbrev pub are_units_if_some : Option (List ℕ) → Bool
are_units_if_some None = true
are_units_if_some (Some s) = are_units s

abbrev pub names_are_units : List Name → Bool
names_are_units [] = true
names_are_units (x ∷ xs) = are_units x.spelling && names_are_units xs

-- the names that are written: that of a declarator isn't
abbrev pub written_names : Shape → List Name → List Name
written_names shape.VariableDeclarator xs = []
written_names h xs = xs

-- the texts of a shape
abbrev pub fields_are_units : Shape → Bool
fields_are_units (shape.Program is_module ds) = all_are_units ds
fields_are_units (shape.Function d g ds) = all_are_units ds
fields_are_units (shape.ArrowFunctionExpression ds) = all_are_units ds
fields_are_units (shape.IdentifierName s) = are_units s
fields_are_units (shape.PrivateIdentifier s) = are_units s
fields_are_units (shape.StringLiteral s) = are_units s
fields_are_units (shape.RegExpLiteral pattern flags) = are_units pattern && are_units flags
fields_are_units (shape.TemplateElement tail raw c) = are_units raw && are_units_if_some c
fields_are_units _ = true

abbrev mutual
  pub has_units : Tree → Bool
  has_units (node h xs n ts) = fields_are_units h && (names_are_units (written_names h xs) && have_units ts)

  pub have_units : Trees → Bool
  have_units none = true
  have_units (t ▸ ts) = has_units t && have_units ts

-- ---- well-shaped trees have such texts

paired : (s : List ℕ) → is_paired s ≡ true → are_units s ≡ true
paired s e = (and_parts (are_units s) (not (has_unpaired_surrogate s)) e).0

all_paired : (ss : List (List ℕ)) → are_paired ss ≡ true → all_are_units ss ≡ true
all_paired [] e = refl
all_paired (s ∷ ss) e =
    let (first, rest) = and_parts (is_paired s) (are_paired ss) e in
    and_from (are_units s) (all_are_units ss) (paired s first) (all_paired ss rest)

cooked_paired : (c : Option (List ℕ)) → is_paired_cooked c ≡ true → are_units_if_some c ≡ true
cooked_paired None e = refl
cooked_paired (Some s) e = paired s e

named : (s : List ℕ) → is_name s ≡ true → are_units s ≡ true
named s e = (and_parts (are_units s) (is_identifier_name s) e).0

field_units : (h : Shape) → has_plain_fields h ≡ true → fields_are_units h ≡ true
field_units (shape.Program is_module ds) e = all_paired ds e
field_units (shape.Function d g ds) e = all_paired ds e
field_units (shape.ArrowFunctionExpression ds) e = all_paired ds e
field_units (shape.IdentifierName s) e = named s e
field_units (shape.PrivateIdentifier s) e = named s e
field_units (shape.StringLiteral s) e = paired s e
field_units (shape.RegExpLiteral pattern flags) e =
    let (first, second) = and_parts (is_paired pattern) (is_paired flags) e in
    and_from (are_units pattern) (are_units flags) (paired pattern first) (paired flags second)
field_units (shape.TemplateElement tail raw c) e =
    let (first, others) = and_parts (is_paired raw) (is_text_of_cooked c (cooked raw) && is_paired_cooked c) e in
    let (cooks, second) = and_parts (is_text_of_cooked c (cooked raw)) (is_paired_cooked c) others in
    and_from (are_units raw) (are_units_if_some c) (paired raw first) (cooked_paired c second)
field_units _ e = refl

name_units : (h : Shape) (xs : List Name) → has_names h xs ≡ true → names_are_units (written_names h xs) ≡ true
name_units shape.VariableDeclarator xs e = refl
name_units h [] e = refl
name_units shape.Identifier (x ∷ []) e = and_from (are_units x.spelling) true (named x.spelling e) refl
name_units shape.BindingIdentifier (x ∷ []) e = and_from (are_units x.spelling) true (named x.spelling e) refl
name_units h (x ∷ xs) e = absurd (false≢true e)

nothing_written : (h : Shape) → names_are_units (written_names h []) ≡ true
nothing_written shape.VariableDeclarator = refl
nothing_written h = refl

quasi_units : (g : Tagging) (last : Bool) (t : Tree) → is_quasi g last t ≡ true → has_units t ≡ true
quasi_units g last (node h [] n none) e =
    let (by, others) = and_parts (is_quasi_by g last h) ((n == 0) && has_plain_fields h) e in
    let (counted, fields) = and_parts (n == 0) (has_plain_fields h) others in
    and_from (fields_are_units h) (names_are_units (written_names h []) && true) (field_units h fields) (and_from (names_are_units (written_names h [])) true (nothing_written h) refl)
quasi_units g last t e = absurd (false≢true e)

quasis_units : (g : Tagging) (ts : Trees) → are_quasis g ts ≡ true → have_units ts ≡ true
quasis_units g none e = absurd (false≢true e)
quasis_units g (t ▸ none) e = and_from (has_units t) true (quasi_units g true t e) refl
quasis_units g (t ▸ (u ▸ ts)) e =
    let (first, rest) = and_parts (is_quasi g false t) (are_quasis g (u ▸ ts)) e in
    and_from (has_units t) (have_units (u ▸ ts)) (quasi_units g false t first) (quasis_units g (u ▸ ts) rest)

mutual
  tree_units : (strict : Bool) (s : Slot) (t : Tree) → fits strict s t ≡ true → has_units t ≡ true
  tree_units strict s (node h xs n ts) e =
      let (whole, fills) = and_parts _ (fill (is_strict_in strict h) (filling strict s h) ts) e in
      let (names, others) = and_parts (has_names h xs) _ whole in
      let (counted, plain) = and_parts _ (has_plain_fields h && has_its_parts (class_of s) h ts) others in
      let (fields, parts) = and_parts (has_plain_fields h) (has_its_parts (class_of s) h ts) plain in
      and_from (fields_are_units h) (names_are_units (written_names h xs) && have_units ts) (field_units h fields) (and_from (names_are_units (written_names h xs)) (have_units ts) (name_units h xs names) (filled_units (is_strict_in strict h) (filling strict s h) ts fills))

  filled_units : (strict : Bool) (f : Filling) (ts : Trees) → fill strict f ts ≡ true → have_units ts ≡ true
  filled_units strict refused ts e = absurd (false≢true e)
  filled_units strict (these ss) none e = refl
  filled_units strict (these []) (t ▸ ts) e = absurd (false≢true e)
  filled_units strict (these (s ∷ ss)) (t ▸ ts) e =
      let (first, rest) = and_parts (fits strict s t) (fill strict (these ss) ts) e in
      and_from (has_units t) (have_units ts) (tree_units strict s t first) (filled_units strict (these ss) ts rest)
  filled_units strict (each s) none e = refl
  filled_units strict (each s) (t ▸ ts) e =
      let (first, rest) = and_parts (fits strict s t) (fill strict (each s) ts) e in
      and_from (has_units t) (have_units ts) (tree_units strict s t first) (filled_units strict (each s) ts rest)
  filled_units strict (each_or_last s l) none e = refl
  filled_units strict (each_or_last s l) (t ▸ ts) e =
      let (first, rest) = and_parts (fits strict s t || (is_last ts && fits strict l t)) (fill strict (each_or_last s l) ts) e in
      and_from (has_units t) (have_units ts)
      (elim (or_cases (fits strict s t) (is_last ts && fits strict l t) first) [
        | inl here ↦ tree_units strict s t here
        | inr later ↦ tree_units strict l t (and_parts (is_last ts) (fits strict l t) later).1
      ])
      (filled_units strict (each_or_last s l) ts rest)
  filled_units strict (pieces g) none e = absurd (false≢true e)
  filled_units strict (pieces g) (t ▸ ts) e = quasis_units g (t ▸ ts) e

pub shaped_units : (t : Tree) → IsWellShaped t → has_units t ≡ true
shaped_units t e = tree_units false (shaped.one a_program) t e
