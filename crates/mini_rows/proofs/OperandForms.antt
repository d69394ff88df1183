-- What is told of an operand by its operator or its literal.
use Rattle.std.proofs.Common.{◌≡◌, Bool, false, ℕ, ℤ, zero, true, List, [], ◌∷◌, Option, Some, None, refl, sym, ap, ◌∙◌, true≢false}
use Rattle.std.specs.Prelude.{codes, is_none}
use Rattle.std.specs.Fmt.{signed_decimal}
use Rattle.std.proofs.lemmas.Bool.{and_parts, false≢true}
use Rattle.mini_model.specs.declared.name.Name.{Name}
use Rattle.mini_model.specs.declared.name.SymbolId.{SymbolId}
use Rattle.mini_model.specs.declared.operator.BinaryOperator.{BinaryOperator}
use Rattle.mini_model.specs.declared.operator.BinaryOperator.TheVariants as binary_operator
use Rattle.mini_model.specs.declared.operator.UnaryOperator.{UnaryOperator}
use Rattle.mini_model.specs.declared.operator.UnaryOperator.TheVariants as unary_operator
use Rattle.mini_model.specs.declared.shape.Shape.TheVariants as shape
use Rattle.mini_model.specs.Tree.{Tree, node, none, unary, identifier, unresolved, null_literal}
use Rattle.mini_model.specs.Weight.{same_text}
use Rattle.mini_kept.proofs.SameScopes.{same_texts}
use Rattle.mini_node.specs.Children.{part}
use Rattle.mini_node.specs.Kinds.{unary_operator as its_unary_operator, binary_operator as its_binary_operator, number, string, is_null}
use Rattle.mini_node.specs.Made.{unary_is, binary_is, number_is, string_is, null_is}
use Rattle.mini_terms.specs.declared.kinds.Kind.{Kind}
use Rattle.mini_terms.specs.declared.kinds.Kind.TheVariants.{Number as IsNumber}
use Rattle.mini_terms.specs.Kind.{is_number, kind}
use Rattle.mini_terms.specs.Reading.{is_plain_part}
use Rattle.mini_rows.specs.Operands.{is_undefined_name, is_undefined, word_by, word, tail_by, tail_text, makes_bits, is_bits, makes_int32, is_int32, makes_shift, is_shifted}
use Rattle.mini_rows.specs.Spellings.{binary, numeral, text}

-- a text, a number, `null` or `undefined`

pub data Tail (k : Tree) (t : List ℕ) : Type 0 where
  of_text : k ≡ text t → Tail k t
  of_number : (n : ℤ) → k ≡ numeral n → signed_decimal n ≡ t → Tail k t
  of_null : k ≡ null_literal → codes "null" ≡ t → Tail k t
  of_undefined : k ≡ identifier (unresolved (codes "undefined")) → codes "undefined" ≡ t → Tail k t

abbrev named : List ℕ → Option SymbolId → Name
named s o = record { spelling = s; symbol = o }

no_symbol : (o : Option SymbolId) → is_none o ≡ true → o ≡ None
no_symbol None e = refl
no_symbol (Some i) e = absurd (cc e)

name_is : (x : Name) → is_undefined_name (x ∷ []) ≡ true → x ≡ unresolved (codes "undefined")
name_is x e =
    let (free, spelled) = and_parts (is_none x.symbol) (same_text x.spelling (codes "undefined")) e in
    ap (λ s. named s x.symbol) (same_texts x.spelling (codes "undefined") spelled) ∙ ap (named (codes "undefined")) (no_symbol x.symbol free)

undefined_is : (t : Tree) → is_undefined t ≡ true → t ≡ identifier (unresolved (codes "undefined"))
undefined_is (node shape.Identifier (x ∷ []) zero none) e = ap identifier (name_is x e)
undefined_is t e = absurd (false≢true e)

pub tail_form : (k : Tree) (t : List ℕ) → tail_text k ≡ Some t → Tail k t
tail_form k t e = go (string k) (number k) refl refl e
  where
    of_word : (b c : Bool) → is_null k ≡ b → is_undefined k ≡ c → word_by b c ≡ Some t → Tail k t
    of_word true c h g e = let same : codes "null" ≡ t = cc e in of_null (null_is k h) same
    of_word false true h g e = let same : codes "undefined" ≡ t = cc e in of_undefined (undefined_is k g) same
    of_word false false h g e = cc e

    go : (c : Option (List ℕ)) (d : Option ℤ) → string k ≡ c → number k ≡ d → tail_by c d (word k) ≡ Some t → Tail k t
    go (Some r) d h g e = let same : r ≡ t = cc e in of_text (string_is k r h ∙ ap text same)
    go None (Some n) h g e = let same : signed_decimal n ≡ t = cc e in of_number n (number_is k n g) same
    go None None h g e = of_word (is_null k) (is_undefined k) refl refl e

-- shifts

pub data Shifted (t : Tree) : Type 0 where
  shifts : (o : BinaryOperator) → makes_shift (Some o) ≡ true → t ≡ binary o (part t 0) (part t 1) → Shifted t

shifted_by : (t : Tree) (o : Option BinaryOperator) → its_binary_operator t ≡ o → makes_shift o ≡ true → Shifted t
shifted_by t (Some o) h e = shifts o e (binary_is t o h)
shifted_by t None h e = absurd (true≢false (sym e))

pub shifted_form : (t : Tree) → is_shifted t ≡ true → Shifted t
shifted_form t e = shifted_by t (its_binary_operator t) refl (and_parts (makes_shift (its_binary_operator t)) (is_number (kind t)) e).0

pub shifted_plain : (t : Tree) → Shifted t → is_plain_part t ≡ true
shifted_plain t (shifts o h is) = ap is_plain_part is

-- whole bits

pub data Bits (t : Tree) : Type 0 where
  inverted : t ≡ unary unary_operator.BitwiseNot (part t 0) → Bits t
  masked : t ≡ binary binary_operator.BitwiseAnd (part t 0) (part t 1) → Bits t
  differing : t ≡ binary binary_operator.BitwiseXor (part t 0) (part t 1) → Bits t
  joined : t ≡ binary binary_operator.BitwiseOr (part t 0) (part t 1) → Bits t

bits_by : (t : Tree) (u : Option UnaryOperator) (o : Option BinaryOperator) → its_unary_operator t ≡ u → its_binary_operator t ≡ o → makes_bits u o ≡ true → Bits t
bits_by t (Some unary_operator.BitwiseNot) o h g e = inverted (unary_is t unary_operator.BitwiseNot h)
bits_by t None (Some binary_operator.BitwiseAnd) h g e = masked (binary_is t binary_operator.BitwiseAnd g)
bits_by t None (Some binary_operator.BitwiseXor) h g e = differing (binary_is t binary_operator.BitwiseXor g)
bits_by t None (Some binary_operator.BitwiseOr) h g e = joined (binary_is t binary_operator.BitwiseOr g)
bits_by t u o h g e = absurd (true≢false (sym e))

pub bits_form : (t : Tree) → is_bits t ≡ true → Bits t
bits_form t e = bits_by t (its_unary_operator t) (its_binary_operator t) refl refl (and_parts (makes_bits (its_unary_operator t) (its_binary_operator t)) (is_number (kind t)) e).0

number_by : (k : Kind) → is_number k ≡ true → k ≡ IsNumber
number_by IsNumber e = refl
number_by k e = absurd (true≢false (sym e))

pub bits_number : (t : Tree) → is_bits t ≡ true → kind t ≡ IsNumber
bits_number t e = number_by (kind t) (and_parts (makes_bits (its_unary_operator t) (its_binary_operator t)) (is_number (kind t)) e).1

pub shifted_number : (t : Tree) → is_shifted t ≡ true → kind t ≡ IsNumber
shifted_number t e = number_by (kind t) (and_parts (makes_shift (its_binary_operator t)) (is_number (kind t)) e).1

pub bits_plain : (t : Tree) → is_bits t ≡ true → is_plain_part t ≡ true
bits_plain t e = go (bits_form t e)
  where
    go : Bits t → is_plain_part t ≡ true
    go (inverted is) = ap is_plain_part is
    go (masked is) = ap is_plain_part is
    go (differing is) = ap is_plain_part is
    go (joined is) = ap is_plain_part is

-- numbers of 32 bits

abbrev pub is_int32_operator : BinaryOperator → Bool
is_int32_operator binary_operator.BitwiseAnd = true
is_int32_operator binary_operator.BitwiseXor = true
is_int32_operator binary_operator.BitwiseOr = true
is_int32_operator binary_operator.ShiftLeft = true
is_int32_operator binary_operator.ShiftRight = true
is_int32_operator o = false

pub data Int32 (t : Tree) : Type 0 where
  inverts : t ≡ unary unary_operator.BitwiseNot (part t 0) → Int32 t
  operates : (o : BinaryOperator) → is_int32_operator o ≡ true → t ≡ binary o (part t 0) (part t 1) → Int32 t

int32_by : (t : Tree) (u : Option UnaryOperator) (o : Option BinaryOperator) → its_unary_operator t ≡ u → its_binary_operator t ≡ o → makes_int32 u o ≡ true → Int32 t
int32_by t (Some unary_operator.BitwiseNot) o h g e = inverts (unary_is t unary_operator.BitwiseNot h)
int32_by t None (Some binary_operator.BitwiseAnd) h g e = operates binary_operator.BitwiseAnd refl (binary_is t binary_operator.BitwiseAnd g)
int32_by t None (Some binary_operator.BitwiseXor) h g e = operates binary_operator.BitwiseXor refl (binary_is t binary_operator.BitwiseXor g)
int32_by t None (Some binary_operator.BitwiseOr) h g e = operates binary_operator.BitwiseOr refl (binary_is t binary_operator.BitwiseOr g)
int32_by t None (Some binary_operator.ShiftLeft) h g e = operates binary_operator.ShiftLeft refl (binary_is t binary_operator.ShiftLeft g)
int32_by t None (Some binary_operator.ShiftRight) h g e = operates binary_operator.ShiftRight refl (binary_is t binary_operator.ShiftRight g)
int32_by t u o h g e = absurd (true≢false (sym e))

pub int32_form : (t : Tree) → is_int32 t ≡ true → Int32 t
int32_form t e = int32_by t (its_unary_operator t) (its_binary_operator t) refl refl (and_parts (makes_int32 (its_unary_operator t) (its_binary_operator t)) (is_number (kind t)) e).0

pub int32_plain : (t : Tree) → Int32 t → is_plain_part t ≡ true
int32_plain t (inverts is) = ap is_plain_part is
int32_plain t (operates o h is) = ap is_plain_part is
