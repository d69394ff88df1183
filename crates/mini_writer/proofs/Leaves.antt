-- Names and literals come back.
use Rattle.std.proofs.Common.{◌≡◌, ℕ, suc, List, [], ◌∷◌, refl, ap, ◌∙◌, Bool, true, false, ◌||◌, ◌&&◌}
use Rattle.std.specs.Prelude.{Some, option_map, unwrap_or, codes, nat_le, not, decimal, ℤ, pos, negsuc}
use Rattle.std.proofs.lemmas.Bool.{true≢false}
use Rattle.serde_json.specs.Data.{Data}
use Rattle.mini_model.specs.Numerals.{max_safe_integer}
use Rattle.mini_model.specs.Texts.{bytes_of, are_units}
use Rattle.mini_model.specs.declared.name.Name.{Name}
use Rattle.mini_model.specs.declared.shape.Shape.{Shape}
use Rattle.mini_model.specs.declared.shape.Shape.TheVariants as shape
use Rattle.mini_model.specs.Tree.{node, none, unresolved}
use Rattle.mini_laws.specs.Symbols.{bare_names}
use Rattle.mini_accept.specs.WellShaped as shaped
use Rattle.mini_accept.specs.WellShaped.{Class, is_paired, is_safe, max_big_int, is_name}
use Rattle.mini_accept.specs.declared.kind.Kind.TheVariants as kind
use Rattle.mini_accept.specs.Places.{field, at, a_local_name}
use Rattle.mini_accept.specs.Fields.{kind_of}
use Rattle.mini_accept.specs.Literals.{literal, is_big_int_shape, is_string_shape, is_string_literal, is_big_int_literal, is_unread_literal}
use Rattle.mini_accept.specs.Standing.{stands_as, is_unread, is_key, is_nested, is_expression}
use Rattle.mini_accept.specs.Plans.{node_of}
use Rattle.mini_accept.specs.Expressions.{identifier_by, identifier_as, identifier_in, word_plan}
use Rattle.mini_writer.specs.Objects as objects
use Rattle.mini_writer.specs.Written.{name, number_literal}
use Rattle.mini_writer.proofs.Read.{ReadsBack, node_back, plain_back, quiet_read, is_quiet, no_children, one_child, ◌&◌, checked_back}
use Rattle.mini_writer.proofs.Texts.{text_read, name_read}
use Rattle.mini_writer.proofs.Digits.{big_int_back}
use Rattle.mini_writer.proofs.Entry.{bind_is}

-- a name as it is read has no symbol
as_read : (h : Shape) (x : Name) → bare_names h (unresolved x.spelling ∷ []) ≡ bare_names h (x ∷ [])
as_read shape.VariableDeclarator x = refl
as_read h x = refl

module _ (j : ℕ) (strict : Bool) where
  -- ---- names

  pub identifier_back : (c : Class) (h : Shape) (x : Name) (m : ℕ) → ((s : List ℕ) → identifier_as c s ≡ identifier_by h s) → stands_as c (name x.spelling) ≡ true → is_name x.spelling ≡ true → are_units x.spelling ≡ true
      → (n : ℕ) → ReadsBack (suc j) strict (at c) n (name x.spelling) (node h (x ∷ []) m none)
  identifier_back c h x m named_as stands named units n =
      node_back j strict (at c) (name x.spelling) kind.Identifier (identifier_by h x.spelling) (x ∷ []) m none (quiet_read strict c (name x.spelling) refl) stands refl
      (ap (option_map (identifier_as c)) (name_read x.spelling named units) ∙ ap Some (named_as x.spelling)) (as_read h x) no_children n

  pub local_back : (x : Name) (m : ℕ) → is_name x.spelling ≡ true → are_units x.spelling ≡ true → (n : ℕ) → ReadsBack (suc j) strict a_local_name n (name x.spelling) (node shape.Identifier (x ∷ []) m none)
  local_back x m named units n =
      node_back j strict a_local_name (name x.spelling) kind.Identifier (identifier_by shape.Identifier x.spelling) (x ∷ []) m none refl refl refl
      (ap (option_map (identifier_in a_local_name)) (name_read x.spelling named units)) refl no_children n

  pub word_back : (c : Class) (s : List ℕ) (m : ℕ) → ((r : List ℕ) → identifier_as c r ≡ word_plan r) → stands_as c (name s) ≡ true → is_name s ≡ true → are_units s ≡ true → (n : ℕ) → ReadsBack (suc j) strict (at c) n (name s) (node (shape.IdentifierName s) [] m none)
  word_back c s m named_as stands named units n =
      plain_back j strict c (name s) kind.Identifier (shape.IdentifierName s) [] m none refl stands refl (ap (option_map (identifier_as c)) (name_read s named units) ∙ ap Some (named_as s)) no_children n

  pub private_back : (c : Class) (s : List ℕ) (m : ℕ) → stands_as c (objects.private_identifier (bytes_of s)) ≡ true → is_name s ≡ true → are_units s ≡ true → (n : ℕ) → ReadsBack (suc j) strict (at c) n (objects.private_identifier (bytes_of s)) (node (shape.PrivateIdentifier s) [] m none)
  private_back c s m stands named units n =
      plain_back j strict c (objects.private_identifier (bytes_of s)) kind.PrivateIdentifier (shape.PrivateIdentifier s) [] m none refl stands refl
      (bind_is _ s _ _ (name_read s named units) refl) no_children n

  -- ---- literals

  literal_of : (c : Class) (d : Data) (h : Shape) (m : ℕ) → is_unread strict (at c) d ≡ false → stands_as c d ≡ true → kind_of d ≡ Some kind.Literal → literal d ≡ Some h → (n : ℕ) → ReadsBack (suc j) strict (at c) n d (node h [] m none)
  literal_of c d h m read stands is said n =
      node_back j strict (at c) d kind.Literal (record { shape = h; names = []; children = [] }) [] m none read stands is (bind_is (literal d) h (λ g. node_of g []) _ said refl) refl no_children n

  not_big : (d : Data) (h : Shape) (b : Bool) → literal d ≡ Some h → is_big_int_shape (Some h) ≡ false → b ≡ false → (b || (is_big_int_shape (literal d) || false)) ≡ false
  not_big d h b said small e = rw (e, said, small) refl

  said_text : (s : List ℕ) → is_paired s ≡ true → are_units s ≡ true → literal (objects.string_literal (bytes_of s)) ≡ Some (shape.StringLiteral s)
  said_text s paired units = ap (option_map shape.StringLiteral) (text_read s paired units)

  pub is_text_literal : (s : List ℕ) → is_paired s ≡ true → are_units s ≡ true → is_string_literal (objects.string_literal (bytes_of s)) ≡ true
  is_text_literal s paired units = ap is_string_shape (said_text s paired units)

  pub string_back : (c : Class) (s : List ℕ) (m : ℕ) → (is_string_literal (objects.string_literal (bytes_of s)) ≡ true → stands_as c (objects.string_literal (bytes_of s)) ≡ true) → is_paired s ≡ true → are_units s ≡ true → (n : ℕ) → ReadsBack (suc j) strict (at c) n (objects.string_literal (bytes_of s)) (node (shape.StringLiteral s) [] m none)
  string_back c s m stands paired units n =
      literal_of c (objects.string_literal (bytes_of s)) (shape.StringLiteral s) m (quiet_read strict c (objects.string_literal (bytes_of s)) (ap not (not_big (objects.string_literal (bytes_of s)) (shape.StringLiteral s) false (said_text s paired units) refl refl)))
      (stands (is_text_literal s paired units)) refl (said_text s paired units) n

  pub boolean_back : (c : Class) (b : Bool) (m : ℕ) → stands_as c (objects.boolean_literal b) ≡ true → (n : ℕ) → ReadsBack (suc j) strict (at c) n (objects.boolean_literal b) (node (shape.BooleanLiteral b) [] m none)
  boolean_back c b m stands n = literal_of c (objects.boolean_literal b) (shape.BooleanLiteral b) m (quiet_read strict c (objects.boolean_literal b) refl) stands refl refl n

  pub null_back : (c : Class) (m : ℕ) → stands_as c objects.null_literal ≡ true → (n : ℕ) → ReadsBack (suc j) strict (at c) n objects.null_literal (node shape.NullLiteral [] m none)
  null_back c m stands n = literal_of c objects.null_literal shape.NullLiteral m (quiet_read strict c objects.null_literal refl) stands refl refl n

  number_quiet : (i : ℕ) → nat_le i max_safe_integer ≡ true → is_quiet (objects.number_literal i) ≡ true
  number_quiet i safe = ap (λ b. not (not b || false)) safe

  pub number_back : (c : Class) (i : ℕ) (m : ℕ) → stands_as c (objects.number_literal i) ≡ true → nat_le i max_safe_integer ≡ true → (n : ℕ) → ReadsBack (suc j) strict (at c) n (objects.number_literal i) (node (shape.NumericLiteral (pos i)) [] m none)
  number_back c i m stands safe n = literal_of c (objects.number_literal i) (shape.NumericLiteral (pos i)) m (quiet_read strict c (objects.number_literal i) (number_quiet i safe)) stands refl refl n

  said_reg_exp : (s r : List ℕ) → is_paired s ≡ true → are_units s ≡ true → is_paired r ≡ true → are_units r ≡ true → literal (objects.reg_exp_literal (bytes_of s) (bytes_of r)) ≡ Some (shape.RegExpLiteral s r)
  said_reg_exp s r p u q v = bind_is _ s _ _ (text_read s p u) (bind_is _ r _ _ (text_read r q v) refl)

  pub reg_exp_back : (c : Class) (s r : List ℕ) (m : ℕ) → stands_as c (objects.reg_exp_literal (bytes_of s) (bytes_of r)) ≡ true → is_paired s ≡ true → are_units s ≡ true → is_paired r ≡ true → are_units r ≡ true
      → (n : ℕ) → ReadsBack (suc j) strict (at c) n (objects.reg_exp_literal (bytes_of s) (bytes_of r)) (node (shape.RegExpLiteral s r) [] m none)
  reg_exp_back c s r m stands p u q v n =
      literal_of c (objects.reg_exp_literal (bytes_of s) (bytes_of r)) (shape.RegExpLiteral s r) m
      (quiet_read strict c (objects.reg_exp_literal (bytes_of s) (bytes_of r)) (ap not (not_big (objects.reg_exp_literal (bytes_of s) (bytes_of r)) (shape.RegExpLiteral s r) false (said_reg_exp s r p u q v) refl refl)))
      stands refl (said_reg_exp s r p u q v) n

  said_big_int : (i : ℕ) → nat_le i max_big_int ≡ true → literal (objects.big_int_literal (decimal i)) ≡ Some (shape.BigIntLiteral i)
  said_big_int i small = ap (option_map shape.BigIntLiteral) (big_int_back i small)

  big_read : (i : ℕ) (c : Class) → is_key c ≡ false → nat_le i max_big_int ≡ true → is_unread strict (at c) (objects.big_int_literal (decimal i)) ≡ false
  big_read i c no_key small =
      big_by (is_unread_literal (objects.big_int_literal (decimal i))) (is_key c) (is_big_int_literal (objects.big_int_literal (decimal i))) (not strict) (is_nested c)
      (ap (λ o. unwrap_or (option_map (λ n. not (nat_le n max_big_int)) o) false) (big_int_back i small) ∙ ap not small) no_key
    where
      big_by : (a k b s n : Bool) → a ≡ false → k ≡ false → (a || ((k && b) || (s && (n && false)))) ≡ false
      big_by true k b s n e f = absurd (true≢false e)
      big_by a true b s n e f = absurd (true≢false f)
      big_by false false b true true e f = refl
      big_by false false b true false e f = refl
      big_by false false b false n e f = refl

  pub big_int_literal_back : (c : Class) (i : ℕ) (m : ℕ) → is_key c ≡ false → stands_as c (objects.big_int_literal (decimal i)) ≡ true → nat_le i max_big_int ≡ true → (n : ℕ) → ReadsBack (suc j) strict (at c) n (objects.big_int_literal (decimal i)) (node (shape.BigIntLiteral i) [] m none)
  big_int_literal_back c i m no_key stands small n = literal_of c (objects.big_int_literal (decimal i)) (shape.BigIntLiteral i) m (big_read i c no_key small) stands refl (said_big_int i small) n

-- a number below 0 is a minus over one above 0
pub negative_back : (j : ℕ) (strict : Bool) (c : Class) (i m : ℕ) → stands_as c (number_literal (negsuc i)) ≡ true → nat_le (suc i) max_safe_integer ≡ true → (n : ℕ) → ReadsBack (suc (suc j)) strict (at c) n (number_literal (negsuc i)) (node (shape.NumericLiteral (negsuc i)) [] m none)
negative_back j strict c i m stands safe n =
    plain_back (suc j) strict c (number_literal (negsuc i)) kind.UnaryExpression (shape.NumericLiteral (negsuc i)) _ m none refl stands refl refl
    (one_child (checked_back (suc j) strict _ (field (codes "argument")) (at shaped.an_expression) (objects.number_literal (suc i)) (node (shape.NumericLiteral (pos (suc i))) [] 0 none) refl (number_back j strict shaped.an_expression (suc i) 0 refl safe)) & no_children) n

pub signed_back : (j : ℕ) (strict : Bool) (c : Class) (z : ℤ) (m : ℕ) → ((d : Data) → is_expression d ≡ true → stands_as c d ≡ true) → is_safe z ≡ true → (n : ℕ) → ReadsBack (suc (suc j)) strict (at c) n (number_literal z) (node (shape.NumericLiteral z) [] m none)
signed_back j strict c (pos i) m stands safe n = number_back (suc j) strict c i m (stands _ refl) safe n
signed_back j strict c (negsuc i) m stands safe n = negative_back j strict c i m (stands _ refl) safe n
