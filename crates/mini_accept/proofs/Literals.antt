-- The plans of literals.
use Rattle.std.proofs.Common.{◌≡◌, ℕ, suc, zero, List, [], refl, ap, sym, ◌∙◌, subst, inl, inr, Bool, true, false, ◌&&◌, ◌||◌}
use Rattle.std.specs.Prelude.{Option, Some, None, option_and_then, option_map, unwrap_or, nat_le, ℤ, pos, negsuc, not, codes, if◌then◌else◌}
use Rattle.std.proofs.lemmas.Bool.{and_from, and_parts, or_cases, or_parts, not-false, false≢true, true≢false}
use Rattle.serde_json.specs.Data.{Data, unsigned, negative, float, null, boolean, number, string, array, object}
use Rattle.serde_json.specs.Find.{get, as_str}
use Rattle.mini_model.specs.Texts.{units_of}
use Rattle.mini_model.specs.Numerals.{max_safe_integer}
use Rattle.mini_model.specs.declared.shape.Shape.{Shape}
use Rattle.mini_model.specs.declared.shape.Shape.TheVariants as shape
use Rattle.mini_model.specs.Tree.{Tree, node, none}
use Rattle.mini_accept.specs.WellShaped as shaped
use Rattle.mini_accept.specs.WellShaped.{Class, in_module}
use Rattle.mini_accept.specs.Places.{Place, at, a_directive_text}
use Rattle.mini_accept.specs.Fields.{◌>>=◌, require, is_given, text_at, units_at, has_units, is_text_by, has_type, is_one_of}
use Rattle.mini_accept.specs.Literals.{reg_exp, big_int, value_shape, literal, is_unread_value, is_unread_literal, is_string_shape, is_number_shape, is_literal_with, is_string_literal, is_big_int_literal, is_key_literal, negative_of, with_minus}
use Rattle.mini_accept.specs.Standing.{is_identifier, has_unread_type, has_unread_field, is_unread_form, is_unread_there, is_unread, may_stand}
use Rattle.mini_accept.specs.Plans.{node_of}
use Rattle.mini_accept.specs.Functions as function
use Rattle.mini_accept.specs.Expressions as expression
use Rattle.mini_accept.proofs.Fitting.{Spelled, Expressed, Seen}
use Rattle.mini_accept.proofs.Gathered.{WholeIf}
use Rattle.mini_accept.proofs.Types.{some_same, Typed, typed_has, types_at, is_expression_place}
use Rattle.mini_accept.proofs.Wholes.{bind_whole, unlinked, unmarked, whole_at, Expression, expression_fits}
use Rattle.mini_accept.proofs.Plains.{units_paired}
use Rattle.mini_accept.proofs.Identifiers.{text_symmetric}

-- ---- what literals are

-- a shape of a literal, with texts and numbers that can be written
abbrev pub is_sound : Shape → Bool
is_sound (shape.NumericLiteral (pos n)) = shaped.is_safe (pos n)
is_sound (shape.StringLiteral s) = shaped.is_paired s
is_sound (shape.BooleanLiteral b) = true
is_sound shape.NullLiteral = true
is_sound (shape.RegExpLiteral pattern flags) = shaped.is_paired pattern && shaped.is_paired flags
is_sound (shape.BigIntLiteral n) = nat_le n shaped.max_big_int
is_sound h = false

sound_some : (h k : Shape) → Some h ≡ Some k → is_sound h ≡ true → is_sound k ≡ true
sound_some h k e is = subst (λ x. is_sound x ≡ true) (some_same h k e) is

reg_exp_by : (d : Data) (a b : Option (List ℕ)) (h : Shape) → ((s : List ℕ) → a ≡ Some s → shaped.is_paired s ≡ true) → ((s : List ℕ) → b ≡ Some s → shaped.is_paired s ≡ true) → (a >>= λ x. b >>= λ y. Some (shape.RegExpLiteral x y)) ≡ Some h → is_sound h ≡ true
reg_exp_by d None b h f g e = absurd (cc e)
reg_exp_by d (Some x) None h f g e = absurd (cc e)
reg_exp_by d (Some x) (Some y) h f g e = sound_some (shape.RegExpLiteral x y) h e (and_from (shaped.is_paired x) (shaped.is_paired y) (f x refl) (g y refl))

reg_exp_sound : (o : Option Data) (h : Shape) → option_and_then reg_exp o ≡ Some h → is_sound h ≡ true
reg_exp_sound None h e = absurd (cc e)
reg_exp_sound (Some d) h e = reg_exp_by d (units_at (codes "pattern") d) (units_at (codes "flags") d) h (units_paired (codes "pattern") d) (units_paired (codes "flags") d) e

big_int_sound : (o : Option ℕ) (h : Shape) → option_map shape.BigIntLiteral o ≡ Some h → unwrap_or (option_map (λ n. not (nat_le n shaped.max_big_int)) o) false ≡ false → is_sound h ≡ true
big_int_sound None h e r = absurd (cc e)
big_int_sound (Some n) h e r = sound_some (shape.BigIntLiteral n) h e (not-false (nat_le n shaped.max_big_int) r)

string_sound : (b : Bool) (u : List ℕ) (h : Shape) → shaped.is_paired u ≡ b → option_map shape.StringLiteral (require b (Some u)) ≡ Some h → is_sound h ≡ true
string_sound true u h is e = sound_some (shape.StringLiteral u) h e is
string_sound false u h is e = absurd (cc e)

value_sound : (o raw : Option Data) (h : Shape) → value_shape o ≡ Some h → is_unread_value o raw ≡ false → is_sound h ≡ true
value_sound None raw h e r = absurd (cc e)
value_sound (Some null) raw h e r = sound_some shape.NullLiteral h e refl
value_sound (Some (boolean b)) raw h e r = sound_some (shape.BooleanLiteral b) h e refl
value_sound (Some (number (unsigned n))) raw h e r = sound_some (shape.NumericLiteral (pos n)) h e (not-false (nat_le n max_safe_integer) r)
value_sound (Some (number (negative z))) raw h e r = absurd (cc e)
value_sound (Some (number (float x))) raw h e r = absurd (cc e)
value_sound (Some (string s)) raw h e r = string_sound (shaped.is_paired (units_of s)) (units_of s) h refl e
value_sound (Some (array ds)) raw h e r = absurd (cc e)
value_sound (Some (object ms)) raw h e r = absurd (cc e)

literal_by : (a b : Bool) (o : Option Data) (i : Option ℕ) (v raw : Option Data) (h : Shape) → (if a then option_and_then reg_exp o else (if b then option_map shape.BigIntLiteral i else value_shape v)) ≡ Some h
    → (if a then false else (if b then unwrap_or (option_map (λ n. not (nat_le n shaped.max_big_int)) i) false else is_unread_value v raw)) ≡ false → is_sound h ≡ true
literal_by true b o i v raw h e r = reg_exp_sound o h e
literal_by false true o i v raw h e r = big_int_sound i h e r
literal_by false false o i v raw h e r = value_sound v raw h e r

pub literal_sound : (d : Data) (h : Shape) → literal d ≡ Some h → is_unread_literal d ≡ false → is_sound h ≡ true
literal_sound d h e r = literal_by (is_given (codes "regex") d) (is_given (codes "bigint") d) (get (codes "regex") d) (big_int d) (get (codes "value") d) (get (codes "raw") d) h e r

-- a literal that is read, as any form but a directive
pub literal_read : (strict : Bool) (c : Class) (d : Data) → has_type (codes "Literal") d ≡ true → is_unread strict (at c) d ≡ false → is_unread_literal d ≡ false
literal_read strict c d typed read =
    let (form, there) = or_parts (is_unread_form (at c) d) (is_unread_there strict (at c) d) read in
    let (type, r1) = or_parts (has_unread_type d) _ form in
    let (fields, r2) = or_parts (has_unread_field d) _ r1 in
    let (decorators, r3) = or_parts _ (has_type (codes "Literal") d && is_unread_literal d) r2 in
    sym (ap (λ b. b && is_unread_literal d) typed) ∙ r3

-- ---- texts

text_by : (o : Option Data) (u : List ℕ) → value_shape o ≡ Some (shape.StringLiteral u) → option_map units_of (option_and_then as_str o) ≡ Some u
text_by None u e = absurd (cc e)
text_by (Some null) u e = absurd (cc e)
text_by (Some (boolean b)) u e = absurd (cc e)
text_by (Some (number (unsigned n))) u e = absurd (cc e)
text_by (Some (number (negative z))) u e = absurd (cc e)
text_by (Some (number (float x))) u e = absurd (cc e)
text_by (Some (string s)) u e = go (shaped.is_paired (units_of s)) e
  where
    go : (b : Bool) → option_map shape.StringLiteral (require b (Some (units_of s))) ≡ Some (shape.StringLiteral u) → Some (units_of s) ≡ Some u
    go true same = cc same
    go false same = absurd (cc same)
text_by (Some (array ds)) u e = absurd (cc e)
text_by (Some (object ms)) u e = absurd (cc e)

-- no regular expression and no BigInt is a text
no_reg_exp : (a b : Option (List ℕ)) (u : List ℕ) → (a >>= λ x. b >>= λ y. Some (shape.RegExpLiteral x y)) ≡ Some (shape.StringLiteral u) → ⊥
no_reg_exp None b u e = cc e
no_reg_exp (Some x) None u e = cc e
no_reg_exp (Some x) (Some y) u e = cc e

text_of : (a b : Bool) (o : Option Data) (i : Option ℕ) (v : Option Data) (u : List ℕ) → (if a then option_and_then reg_exp o else (if b then option_map shape.BigIntLiteral i else value_shape v)) ≡ Some (shape.StringLiteral u) → option_map units_of (option_and_then as_str v) ≡ Some u
text_of true b None i v u e = absurd (cc e)
text_of true b (Some d) i v u e = absurd (no_reg_exp (units_at (codes "pattern") d) (units_at (codes "flags") d) u e)
text_of false true o None v u e = absurd (cc e)
text_of false true o (Some n) v u e = absurd (cc e)
text_of false false o i v u e = text_by v u e

pub string_units : (d : Data) (u : List ℕ) → literal d ≡ Some (shape.StringLiteral u) → option_map units_of (text_at (codes "value") d) ≡ Some u
string_units d u e = text_of (is_given (codes "regex") d) (is_given (codes "bigint") d) (get (codes "regex") d) (big_int d) (get (codes "value") d) u e

-- ---- where an expression may stand

literal_expression : (strict : Bool) (d : Data) (h : Shape) → is_sound h ≡ true → Expression strict d h []
literal_expression strict d (shape.NumericLiteral (pos n)) e = record { slots = []; loose = refl; bare = refl; names = refl; plain = λ w. e; parts = λ w. refl; filled = λ w. refl }
literal_expression strict d (shape.StringLiteral s) e = record { slots = []; loose = refl; bare = refl; names = refl; plain = λ w. e; parts = λ w. refl; filled = λ w. refl }
literal_expression strict d (shape.BooleanLiteral b) e = record { slots = []; loose = refl; bare = refl; names = refl; plain = λ w. refl; parts = λ w. refl; filled = λ w. refl }
literal_expression strict d shape.NullLiteral e = record { slots = []; loose = refl; bare = refl; names = refl; plain = λ w. refl; parts = λ w. refl; filled = λ w. refl }
literal_expression strict d (shape.RegExpLiteral pattern flags) e = record { slots = []; loose = refl; bare = refl; names = refl; plain = λ w. e; parts = λ w. refl; filled = λ w. refl }
literal_expression strict d (shape.BigIntLiteral n) e = record { slots = []; loose = refl; bare = refl; names = refl; plain = λ w. e; parts = λ w. refl; filled = λ w. refl }
literal_expression strict d h e = absurd (false≢true e)

sound_unchained : (h : Shape) → is_sound h ≡ true → shaped.is_chained h ≡ false
sound_unchained (shape.CallExpression o) e = absurd (false≢true e)
sound_unchained (shape.StaticMemberExpression o) e = absurd (false≢true e)
sound_unchained (shape.ComputedMemberExpression o) e = absurd (false≢true e)
sound_unchained (shape.PrivateFieldExpression o) e = absurd (false≢true e)
sound_unchained h e = refl

not_negative : (h : Shape) (n : ℕ) → negative_of (Some h) ≡ None → shaped.is_not_positive_number (node h [] n none) ≡ true
not_negative (shape.NumericLiteral (pos (suc m))) n e = absurd (cc e)
not_negative (shape.NumericLiteral (pos zero)) n e = refl
not_negative (shape.NumericLiteral (negsuc m)) n e = refl
not_negative h n e = refl

negative_safe : (h : Shape) (z : ℤ) → is_sound h ≡ true → negative_of (Some h) ≡ Some z → shaped.is_safe z ≡ true
negative_safe (shape.NumericLiteral (pos (suc m))) z is e = subst (λ x. shaped.is_safe x ≡ true) (some_same (negsuc m) z e) is
negative_safe h z is e = absurd (cc e)

-- ---- keys

-- a literal that is a key without brackets
abbrev is_key_shape : Shape → Bool
is_key_shape (shape.NumericLiteral n) = true
is_key_shape (shape.StringLiteral s) = true
is_key_shape h = false

shape_with : (test : Option Shape → Bool) (d : Data) (h : Shape) → literal d ≡ Some h → is_literal_with test d ≡ true → test (Some h) ≡ true
shape_with test d h is e = sym (ap test is) ∙ (and_parts (has_type (codes "Literal") d) (test (literal d)) e).1

string_key : (h : Shape) → is_string_shape (Some h) ≡ true → is_key_shape h ≡ true
string_key (shape.StringLiteral s) e = refl
string_key h e = absurd (false≢true e)

number_key : (h : Shape) → is_number_shape (Some h) ≡ true → is_key_shape h ≡ true
number_key (shape.NumericLiteral z) e = refl
number_key h e = absurd (false≢true e)

key_shape : (d : Data) (h : Shape) → literal d ≡ Some h → is_big_int_literal d ≡ false → is_key_literal d ≡ true → is_key_shape h ≡ true
key_shape d h is small e = elim (or_cases (is_string_literal d) (is_literal_with is_number_shape d || is_big_int_literal d) e) [
  | inl text ↦ string_key h (shape_with is_string_shape d h is text)
  | inr others ↦ elim (or_cases (is_literal_with is_number_shape d) (is_big_int_literal d) others) [
    | inl whole ↦ number_key h (shape_with is_number_shape d h is whole)
    | inr big ↦ absurd (true≢false (sym big ∙ small))
  ]
]

plain_key : (strict : Bool) (d : Data) (h : Shape) → is_key_shape h ≡ true → is_sound h ≡ true → ((n : ℕ) → Seen (at (shaped.a_key false)) d (node h [] n none)) → WholeIf strict (at (shaped.a_key false)) d (node_of h [])
plain_key strict d (shape.NumericLiteral (pos m)) e sound s = whole_at strict (at (shaped.a_key false)) (shaped.a_key false) d (shape.NumericLiteral (pos m)) [] [] (λ t h. h) (λ n h. h) refl sound (λ w. refl) tt (λ w n. s n)
plain_key strict d (shape.StringLiteral u) e sound s = whole_at strict (at (shaped.a_key false)) (shaped.a_key false) d (shape.StringLiteral u) [] [] (λ t h. h) (λ n h. h) refl sound (λ w. refl) tt (λ w n. s n)
plain_key strict d (shape.NumericLiteral (negsuc m)) e sound s = absurd (false≢true sound)
plain_key strict d h e sound s = absurd (false≢true e)

member_key : (strict : Bool) (computed : Bool) (d : Data) (h : Shape) → is_key_shape h ≡ true → is_sound h ≡ true → ((n : ℕ) → Seen (at (shaped.a_private_or_key computed)) d (node h [] n none)) → WholeIf strict (at (shaped.a_private_or_key computed)) d (node_of h [])
member_key strict computed d (shape.NumericLiteral (pos m)) e sound s = whole_at strict (at (shaped.a_private_or_key computed)) (shaped.a_private_or_key false) d (shape.NumericLiteral (pos m)) [] [] (λ t h. h) (λ n h. h) refl sound (λ w. refl) tt (λ w n. s n)
member_key strict computed d (shape.StringLiteral u) e sound s = whole_at strict (at (shaped.a_private_or_key computed)) (shaped.a_private_or_key false) d (shape.StringLiteral u) [] [] (λ t h. h) (λ n h. h) refl sound (λ w. refl) tt (λ w n. s n)
member_key strict computed d (shape.NumericLiteral (negsuc m)) e sound s = absurd (false≢true sound)
member_key strict computed d h e sound s = absurd (false≢true e)

inner_key : (strict : Bool) (computed : Bool) (d : Data) (h : Shape) → is_key_shape h ≡ true → is_sound h ≡ true → ((n : ℕ) → Seen (at (shaped.an_inner_key computed)) d (node h [] n none)) → WholeIf strict (at (shaped.an_inner_key computed)) d (node_of h [])
inner_key strict computed d (shape.NumericLiteral (pos m)) e sound s = whole_at strict (at (shaped.an_inner_key computed)) (shaped.an_inner_key false) d (shape.NumericLiteral (pos m)) [] [] (λ t h. h) (λ n h. h) refl sound (λ w. refl) tt (λ w n. s n)
inner_key strict computed d (shape.StringLiteral u) e sound s = whole_at strict (at (shaped.an_inner_key computed)) (shaped.an_inner_key false) d (shape.StringLiteral u) [] [] (λ t h. h) (λ n h. h) refl sound (λ w. refl) tt (λ w n. s n)
inner_key strict computed d (shape.NumericLiteral (negsuc m)) e sound s = absurd (false≢true sound)
inner_key strict computed d h e sound s = absurd (false≢true e)

-- a text, as the name of an import or export
text_whole : (strict : Bool) (d : Data) (h : Shape) → is_string_shape (Some h) ≡ true → is_sound h ≡ true → WholeIf strict (at shaped.a_string) d (node_of h [])
text_whole strict d (shape.StringLiteral u) e sound = whole_at strict (at shaped.a_string) shaped.a_string d (shape.StringLiteral u) [] [] (λ t h. h) (λ n h. h) refl sound (λ w. refl) tt (λ w n. tt)
text_whole strict d h e sound = absurd (false≢true e)

name_whole : (strict : Bool) (d : Data) (h : Shape) → is_string_shape (Some h) ≡ true → is_sound h ≡ true → WholeIf strict (at shaped.a_module_name) d (node_of h [])
name_whole strict d (shape.StringLiteral u) e sound = whole_at strict (at shaped.a_module_name) shaped.a_module_name d (shape.StringLiteral u) [] [] (λ t h. h) (λ n h. h) refl sound (λ w. refl) tt (λ w n. tt)
name_whole strict d h e sound = absurd (false≢true e)

-- a literal names the constructor by its text
names_by : (d : Data) (b : Bool) → has_type (codes "Identifier") d ≡ false → is_string_literal d ≡ b → function.names_constructor d ≡ (b && has_units (codes "value") (codes "constructor") d)
names_by d b no_name is = ap (λ a. (a && has_units (codes "name") (codes "constructor") d) || (is_string_literal d && has_units (codes "value") (codes "constructor") d)) no_name ∙ ap (λ a. a && has_units (codes "value") (codes "constructor") d) is

is_string_by : (d : Data) (h : Shape) → has_type (codes "Literal") d ≡ true → literal d ≡ Some h → is_string_literal d ≡ is_string_shape (Some h)
is_string_by d h typed is = ap (λ a. a && is_string_shape (literal d)) typed ∙ ap is_string_shape is

key_names : (d : Data) (h : Shape) (n : ℕ) → is_key_shape h ≡ true → has_type (codes "Identifier") d ≡ false → has_type (codes "Literal") d ≡ true → literal d ≡ Some h → shaped.names_constructor (node h [] n none) ≡ function.names_constructor d
key_names d (shape.NumericLiteral z) n e no_name typed is = sym (names_by d false no_name (is_string_by d (shape.NumericLiteral z) typed is))
key_names d (shape.StringLiteral u) n e no_name typed is =
    text_symmetric u (codes "constructor") ∙ (sym (ap (is_text_by (codes "constructor")) (string_units d u is)) ∙ sym (names_by d true no_name (is_string_by d (shape.StringLiteral u) typed is)))
key_names d h n e no_name typed is = absurd (false≢true e)

module _ (strict : Bool) (d : Data) (typed : Typed d (codes "Literal")) (h : Shape) (is : literal d ≡ Some h) (sound : is_sound h ≡ true) where
  no_name : has_type (codes "Identifier") d ≡ false
  no_name = typed_has d (codes "Literal") (codes "Identifier") typed

  minus_is : with_minus d ≡ negative_of (Some h)
  minus_is = ap (λ b. if b then negative_of (literal d) else None) (typed_has d (codes "Literal") (codes "Literal") typed) ∙ ap negative_of is

  no_default : has_type (codes "AssignmentPattern") d ≡ false
  no_default = typed_has d (codes "Literal") (codes "AssignmentPattern") typed

  expressed : (n : ℕ) → Expressed d (node h [] n none)
  expressed n = record {
    not_positive = λ e. not_negative h n (sym minus_is ∙ e);
    safe = λ z e. negative_safe h z sound (sym minus_is ∙ e);
    named = λ s e. absurd (cc (no_default, no_name, e));
  }

  seen : (p : Place) → is_expression_place p ≡ true → (n : ℕ) → Seen p d (node h [] n none)
  seen (at shaped.an_init) e n = tt
  seen (at shaped.an_arrow_body) e n = λ b. absurd (true≢false (sym b ∙ typed_has d (codes "Literal") (codes "BlockStatement") typed))
  seen (at shaped.an_expression) e n = expressed n
  seen (at shaped.a_link) e n = λ m. absurd (true≢false (sym m ∙ unmarked d (typed_has d (codes "Literal") (codes "CallExpression") typed) (typed_has d (codes "Literal") (codes "MemberExpression") typed)))
  seen (at shaped.an_argument) e n = tt
  seen (at (shaped.a_key true)) e n = tt
  seen (at shaped.a_default_export) e n = tt
  seen p e n = absurd (false≢true e)

  expression_whole : (p : Place) → is_expression_place p ≡ true → WholeIf strict p d (node_of h [])
  expression_whole p e = record { known = λ w n numbered. (expression_fits strict p d h [] (literal_expression strict d h sound) e (unlinked (expression.is_link p) (shaped.is_chained h) (sound_unchained h sound)) w n numbered, seen p e n) }

  -- a key is spelled by no name
  unspelled : (t : Tree) → Spelled d t
  unspelled t s e = absurd (cc (no_name, e))

  -- it is a literal
  is_literal : has_type (codes "Literal") d ≡ true
  is_literal = typed_has d (codes "Literal") (codes "Literal") typed

  -- where a name may stand too
  not_named : (b : Bool) → (is_identifier d || b) ≡ true → b ≡ true
  not_named b e = sym (ap (λ a. a || b) no_name) ∙ e

  -- where a BigInt isn't read
  small : (p : Place) (b : Bool) → (is_unread_form p d || (is_big_int_literal d || b)) ≡ false → is_big_int_literal d ≡ false
  small p b e = (or_parts (is_big_int_literal d) b (or_parts (is_unread_form p d) (is_big_int_literal d || b) e).1).0

  is_key : is_big_int_literal d ≡ false → is_key_literal d ≡ true → is_key_shape h ≡ true
  is_key no_big e = key_shape d h is no_big e

  without_private : (is_key_literal d || has_type (codes "PrivateIdentifier") d) ≡ true → is_key_literal d ≡ true
  without_private e = elim (or_cases (is_key_literal d) (has_type (codes "PrivateIdentifier") d) e) [
    | inl key ↦ key
    | inr private ↦ absurd (true≢false (sym private ∙ typed_has d (codes "Literal") (codes "PrivateIdentifier") typed))
  ]

  literal_there : (p : Place) → is_one_of (types_at p) (codes "Literal") ≡ true → may_stand p d ≡ true → is_unread strict p d ≡ false → WholeIf strict p d (node_of h [])
  literal_there (at shaped.an_init) e stands read = expression_whole (at shaped.an_init) refl
  literal_there (at shaped.an_arrow_body) e stands read = expression_whole (at shaped.an_arrow_body) refl
  literal_there (at shaped.an_expression) e stands read = expression_whole (at shaped.an_expression) refl
  literal_there (at shaped.a_link) e stands read = expression_whole (at shaped.a_link) refl
  literal_there (at shaped.an_argument) e stands read = expression_whole (at shaped.an_argument) refl
  literal_there (at (shaped.a_key true)) e stands read = expression_whole (at (shaped.a_key true)) refl
  literal_there (at shaped.a_default_export) e stands read = expression_whole (at shaped.a_default_export) refl
  literal_there (at (shaped.a_key false)) e stands read = plain_key strict d h (is_key (small (at (shaped.a_key false)) _ read) (not_named (is_key_literal d) stands)) sound (λ n. unspelled (node h [] n none))
  literal_there (at (shaped.an_inner_key computed)) e stands read = inner_key strict computed d h (is_key (small (at (shaped.an_inner_key computed)) _ read) (not_named (is_key_literal d) stands)) sound (λ n. unspelled (node h [] n none))
  literal_there (at (shaped.a_private_or_key computed)) e stands read =
      let key = is_key (small (at (shaped.a_private_or_key computed)) _ read) (without_private (not_named (is_key_literal d || has_type (codes "PrivateIdentifier") d) stands)) in
      member_key strict computed d h key sound (λ n. key_names d h n key no_name is_literal is)
  literal_there (at shaped.a_module_name) e stands read = name_whole strict d h (shape_with is_string_shape d h is (not_named (is_string_literal d) stands)) sound
  literal_there (at shaped.a_string) e stands read = text_whole strict d h (shape_with is_string_shape d h is stands) sound
  literal_there a_directive_text e stands read = record { known = λ w n numbered. (tt, tt) }
  literal_there (at (shaped.a_statement in_module)) e stands read = absurd (false≢true e)
  literal_there p e stands read = absurd (false≢true e)

pub literal_plan : (strict : Bool) (p : Place) (d : Data) → Typed d (codes "Literal") → is_one_of (types_at p) (codes "Literal") ≡ true → may_stand p d ≡ true → is_unread strict p d ≡ false → WholeIf strict p d (expression.literal_plan p d)
literal_plan strict a_directive_text d typed e stands read = bind_whole strict a_directive_text d (text_at (codes "value") d) _ (λ s is. record { known = λ w n numbered. (tt, tt) })
literal_plan strict (at c) d typed e stands read = bind_whole strict (at c) d (literal d) _ (λ h is. literal_there strict d typed h is (literal_sound d h is (literal_read strict c d (typed_has d (codes "Literal") (codes "Literal") typed) read)) (at c) e stands read)
literal_plan strict p d typed e stands read = absurd (false≢true e)
