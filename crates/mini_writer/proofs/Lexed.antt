-- What the tokens of a text hold is no more than the text: each value and each byte of a string takes a byte of its own.
use Rattle.std.proofs.Common.{◌≡◌, ℕ, suc, ◌+◌, ◌≤◌, Bool, true, false, cond, ◌&&◌, ◌==◌, nat_lt, List, [], ◌∷◌, length, Option, Some, None, option_and_then, refl, sym, ap, ◌∙◌, subst, arith}
use Rattle.std.specs.Prelude.{⊤}
use Rattle.std.specs.Char.{is_digit, encode_utf8}
use Rattle.std.proofs.lemmas.Bool.{eqb-true, and_parts, true≢false}
use Rattle.std.proofs.lemmas.List.{length-append}
use Rattle.std.proofs.lemmas.Str.{length-encode}
use Rattle.json.specs.Token.{Token}
use Rattle.json.specs.Token as json_token
use Rattle.json.specs.Text.{code_unit, short_escape, is_high_surrogate, is_low_surrogate, surrogate_pair, Within, plain, after_backslash, after_u, after_high, prepend, content}
use Rattle.json.specs.Word.{is_operator, is_space, ends_word, head, literal, number_before, word, after_number}
use Rattle.json.specs.Lex.{Lexeme, token, comma, colon, Class, quote, backslash, operator, space, other, class, operator_lexeme, string_token, Mode, between, in_word, in_string, in_escape, lex_byte, lex, Place, fresh, after_value, after_comma, after_key, begins_colon, may_begin, may_close, if_allowed, place_token, punctuate, tokens}
use Rattle.json.specs.Ascii as ascii

-- one for the value that the token begins or is, and the bytes of its text
abbrev pub cost : Token → ℕ
cost json_token.begin_object = 1
cost json_token.end_object = 0
cost json_token.begin_array = 1
cost json_token.end_array = 0
cost (json_token.key s) = length s
cost (json_token.string s) = 1 + length s
cost (json_token.number s) = 1
cost (json_token.boolean b) = 1
cost json_token.null = 1
cost json_token.bad = 0

abbrev pub costs : List Token → ℕ
costs [] = 0
costs (x ∷ xs) = cost x + costs xs

abbrev lexed : List Lexeme → ℕ
lexed [] = 0
lexed (token x ∷ ls) = cost x + lexed ls
lexed (comma ∷ ls) = lexed ls
lexed (colon ∷ ls) = lexed ls

-- ---- words

either : (b : Bool) (x y : Token) (n : ℕ) → cost x ≤ n → cost y ≤ n → cost (cond b x y) ≤ n
either true x y n p q = p
either false x y n p q = q

literal_cost : (name : List ℕ) (x : Token) (s : List ℕ) → cost x ≤ 1 → cost (literal name x s) ≤ 1
literal_cost name x s h = either _ x json_token.bad 1 h (omega arith)

number_cost : (s : List ℕ) (o : Option (List ℕ)) → cost (number_before s o) ≤ 1
number_cost s None = omega arith
number_cost s (Some rest) = either (ends_word rest) _ json_token.bad 1 (omega arith) (omega arith)

word_cost : (s : List ℕ) → cost (word s) ≤ 1
unfolding word
word_cost s =
    either (head s == ascii.lower_t) _ _ 1 (literal_cost ascii.true_text (json_token.boolean true) s (omega arith))
    (either (head s == ascii.lower_f) _ _ 1 (literal_cost ascii.false_text (json_token.boolean false) s (omega arith))
    (either (head s == ascii.lower_n) _ _ 1 (literal_cost ascii.null_text json_token.null s (omega arith)) (number_cost s (after_number s))))

-- ---- strings

-- what was read, with what follows, takes at most n
abbrev Takes : ℕ → ℕ → Option (List ℕ) → Type 0
Takes n m None = ⊤
Takes n m (Some s) = length s + m ≤ n

chosen : (n m : ℕ) (b : Bool) (x y : Option (List ℕ)) → (b ≡ true → Takes n m x) → (b ≡ false → Takes n m y) → Takes n m (cond b x y)
chosen n m true x y p q = p refl
chosen n m false x y p q = q refl

wider : (k n m : ℕ) (o : Option (List ℕ)) → Takes k m o → k ≤ n → Takes n m o
wider k n m None h le = tt
wider k n m (Some s) h le = omega arith

grown : (k n m : ℕ) (a : List ℕ) (o : Option (List ℕ)) → Takes k m o → length a + k ≤ n → Takes n m (prepend a o)
grown k n m a None h le = tt
grown k n m a (Some s) h le = omega (arith, length-append a s)

chained : (n m : ℕ) (f : ℕ → Option (List ℕ)) (o : Option ℕ) → ((u : ℕ) → o ≡ Some u → Takes n m (f u)) → Takes n m (option_and_then f o)
chained n m f None h = tt
chained n m f (Some u) h = h u refl

at_most : (b : Bool) (x y n : ℕ) → x ≤ n → y ≤ n → cond b x y ≤ n
at_most true x y n p q = p
at_most false x y n p q = q

four_bytes : (c : ℕ) → length (encode_utf8 c) ≤ 4
four_bytes c = rw (length-encode c) (at_most (nat_lt c 128) _ _ 4 (omega arith) (at_most (nat_lt c 2048) _ _ 4 (omega arith) (at_most (nat_lt c 65536) _ _ 4 (omega arith) (omega arith))))

-- ---- the lexer within a string

stays : (o s : Bool) (x : ℕ) (xs : List ℕ) (k : Mode → List Lexeme) → lex_byte in_string (cond o operator (cond s space other)) x xs k ≡ k in_string
stays true s x xs k = refl
stays false true x xs k = refl
stays false false x xs k = refl

by_class : ℕ → List ℕ → Bool → Bool → List Lexeme
by_class x xs q b = lex_byte in_string (cond q quote (cond b backslash (cond (is_operator x) operator (cond (is_space x) space other)))) x xs (λ n. lex n xs)

lex_class : (x : ℕ) (xs : List ℕ) → lex in_string (x ∷ xs) ≡ by_class x xs (x == 34) (x == 92)
unfolding lex by_class
lex_class x xs = refl

lex_quote : (x : ℕ) (xs : List ℕ) → (x == 34) ≡ true → lex in_string (x ∷ xs) ≡ lex between xs
unfolding by_class
lex_quote x xs q = lex_class x xs ∙ rw q refl

lex_backslash : (x : ℕ) (xs : List ℕ) → (x == 34) ≡ false → (x == 92) ≡ true → lex in_string (x ∷ xs) ≡ lex in_escape xs
unfolding by_class
lex_backslash x xs q b = lex_class x xs ∙ rw (q, b) refl

lex_other : (x : ℕ) (xs : List ℕ) → (x == 34) ≡ false → (x == 92) ≡ false → lex in_string (x ∷ xs) ≡ lex in_string xs
unfolding by_class
lex_other x xs q b = lex_class x xs ∙ rw (q, b) (stays (is_operator x) (is_space x) x xs (λ n. lex n xs))

lex_escaped : (x : ℕ) (xs : List ℕ) → lex in_escape (x ∷ xs) ≡ lex in_string xs
unfolding lex
lex_escaped x xs = refl

no_digit : (c x : ℕ) (b : Bool) → (x == c) ≡ b → is_digit c 16 ≡ false → is_digit x 16 ≡ true → b ≡ false
no_digit c x true is never digit = absurd (true≢false (sym digit ∙ ap (λ y. is_digit y 16) (eqb-true x c is) ∙ never))
no_digit c x false is never digit = refl

lex_digit : (x : ℕ) (xs : List ℕ) → is_digit x 16 ≡ true → lex in_string (x ∷ xs) ≡ lex in_string xs
lex_digit x xs digit = lex_other x xs (no_digit 34 x (x == 34) refl refl digit) (no_digit 92 x (x == 92) refl refl digit)

tested : (b : Bool) (x u : ℕ) → cond b (Some x) None ≡ Some u → b ≡ true
tested true x u e = refl
tested false x u e = absurd (cc e)

lex_unit : (a b c d : ℕ) (xs : List ℕ) (u : ℕ) → code_unit a b c d ≡ Some u → lex in_string (a ∷ b ∷ c ∷ d ∷ xs) ≡ lex in_string xs
unfolding code_unit
lex_unit a b c d xs u e =
    let p = and_parts (is_digit a 16 && is_digit b 16 && is_digit c 16) (is_digit d 16) (tested _ _ u e) in
    let q = and_parts (is_digit a 16 && is_digit b 16) (is_digit c 16) p.0 in
    let r = and_parts (is_digit a 16) (is_digit b 16) q.0 in
    lex_digit a (b ∷ c ∷ d ∷ xs) r.0 ∙ lex_digit b (c ∷ d ∷ xs) r.1 ∙ lex_digit c (d ∷ xs) q.1 ∙ lex_digit d xs p.1

-- ---- a step of the content, where m is what follows

plain_takes : (x : ℕ) (xs : List ℕ) (m : ℕ) → ((x == 34) ≡ true → m ≤ length xs) → ((x == 34) ≡ false → (x == 92) ≡ true → Takes (length xs) m (content after_backslash xs))
    → ((x == 34) ≡ false → (x == 92) ≡ false → Takes (length xs) m (content plain xs)) → Takes (length (x ∷ xs)) m (content plain (x ∷ xs))
unfolding content
plain_takes x xs m over escape more =
    let n = length (x ∷ xs) in
    chosen n m (x == 34) _ _ (λ q. let h = over q in omega arith) (λ q. chosen n m (x == 92) _ _ (λ b. wider (length xs) n m _ (escape q b) (omega arith))
    (λ b. chosen n m (nat_lt x 32) _ _ (λ l. tt) (λ l. grown (length xs) n m (x ∷ []) _ (more q b) (omega arith))))

escape_takes : (x : ℕ) (xs : List ℕ) (m : ℕ) → Takes (length xs) m (content after_u xs) → Takes (length xs) m (content plain xs) → Takes (length (x ∷ xs)) m (content after_backslash (x ∷ xs))
unfolding content
escape_takes x xs m unit more =
    let n = length (x ∷ xs) in
    chosen n m (x == 117) _ _ (λ u. wider (length xs) n m _ unit (omega arith)) (λ u. chained n m _ (short_escape x) (λ c e. grown (length xs) n m (c ∷ []) _ more (omega arith)))

unit_takes : (a b c d : ℕ) (xs : List ℕ) (m : ℕ) → ((u : ℕ) → code_unit a b c d ≡ Some u → Takes (length xs) m (content (after_high u) xs)) → ((u : ℕ) → code_unit a b c d ≡ Some u → Takes (length xs) m (content plain xs))
    → Takes (length (a ∷ b ∷ c ∷ d ∷ xs)) m (content after_u (a ∷ b ∷ c ∷ d ∷ xs))
unfolding content
unit_takes a b c d xs m high more =
    let n = length (a ∷ b ∷ c ∷ d ∷ xs) in
    chained n m _ (code_unit a b c d) (λ u e. chosen n m (is_high_surrogate u) _ _ (λ h. wider (length xs) n m _ (high u e) (omega arith))
    (λ h. chosen n m (is_low_surrogate u) _ _ (λ l. tt) (λ l. grown (length xs) n m (encode_utf8 u) _ (more u e) (omega (arith, four_bytes u)))))

pair_takes : (h s u a b c d : ℕ) (xs : List ℕ) (m : ℕ) → ((s == 92) ≡ true → (l : ℕ) → code_unit a b c d ≡ Some l → Takes (length xs) m (content plain xs))
    → Takes (length (s ∷ u ∷ a ∷ b ∷ c ∷ d ∷ xs)) m (content (after_high h) (s ∷ u ∷ a ∷ b ∷ c ∷ d ∷ xs))
unfolding content
pair_takes h s u a b c d xs m more =
    let n = length (s ∷ u ∷ a ∷ b ∷ c ∷ d ∷ xs) in
    chosen n m ((s == 92) && (u == 117)) _ _ (λ e. chained n m _ (code_unit a b c d) (λ l f. chosen n m (is_low_surrogate l) _ _
    (λ low. grown (length xs) n m (encode_utf8 (surrogate_pair h l)) _ (more (and_parts (s == 92) (u == 117) e).0 l f) (omega (arith, four_bytes (surrogate_pair h l)))) (λ low. tt))) (λ e. tt)

no_quote : (x : ℕ) → (x == 92) ≡ true → (x == 34) ≡ false
no_quote x b = ap (λ y. y == 34) (eqb-true x 92 b)

-- ---- the lexer

operator_cost : (x : ℕ) (ls : List Lexeme) → lexed (operator_lexeme x ∷ ls) ≤ suc (lexed ls)
operator_cost x ls =
    let pick : (b : Bool) (p q : Lexeme) → lexed (p ∷ ls) ≤ suc (lexed ls) → lexed (q ∷ ls) ≤ suc (lexed ls) → lexed (cond b p q ∷ ls) ≤ suc (lexed ls) =
    λ b. elim b as (λ v. (p q : Lexeme) → lexed (p ∷ ls) ≤ suc (lexed ls) → lexed (q ∷ ls) ≤ suc (lexed ls) → lexed (cond v p q ∷ ls) ≤ suc (lexed ls)) [ true ↦ (λ p q h k. h) | false ↦ (λ p q h k. k) ]
    in
    pick (x == ascii.open_brace) _ _ (omega arith) (pick (x == ascii.close_brace) _ _ (omega arith) (pick (x == ascii.open_bracket) _ _ (omega arith) (pick (x == ascii.close_bracket) _ _ (omega arith) (pick (x == ascii.comma) _ _ (omega arith) (omega arith)))))

string_cost : (n m : ℕ) (o : Option (List ℕ)) → Takes n m o → m ≤ n → cost (string_token o) + m ≤ suc n
string_cost n m None h le = omega arith
string_cost n m (Some s) h le = omega arith

byte_cost : (m : Mode) (c : Class) (x : ℕ) (xs : List ℕ) (k : Mode → List Lexeme) → ((n : Mode) → lexed (k n) ≤ length xs) → Takes (length xs) (lexed (k in_string)) (content plain xs)
    → lexed (lex_byte m c x xs k) ≤ suc (length xs)
byte_cost between quote x xs k h s = string_cost (length xs) (lexed (k in_string)) (content plain xs) s (h in_string)
byte_cost between backslash x xs k h s = omega (arith, h in_word)
byte_cost between operator x xs k h s = omega (arith, operator_cost x (k between), h between)
byte_cost between space x xs k h s = omega (arith, h between)
byte_cost between other x xs k h s = omega (arith, word_cost (x ∷ xs), h in_word)
byte_cost in_word quote x xs k h s = omega (arith, h in_word)
byte_cost in_word backslash x xs k h s = omega (arith, h in_word)
byte_cost in_word operator x xs k h s = omega (arith, operator_cost x (k between), h between)
byte_cost in_word space x xs k h s = omega (arith, h between)
byte_cost in_word other x xs k h s = omega (arith, h in_word)
byte_cost in_string quote x xs k h s = omega (arith, h between)
byte_cost in_string backslash x xs k h s = omega (arith, h in_escape)
byte_cost in_string operator x xs k h s = omega (arith, h in_string)
byte_cost in_string space x xs k h s = omega (arith, h in_string)
byte_cost in_string other x xs k h s = omega (arith, h in_string)
byte_cost in_escape c x xs k h s = omega (arith, h in_string)

abbrev mode : Within → Mode
mode plain = in_string
mode after_backslash = in_escape
mode after_u = in_string
mode (after_high h) = in_string

-- what is taken, where the lexer goes on as from elsewhere
moved : (n : ℕ) (o : Option (List ℕ)) (ls ms : List Lexeme) → ls ≡ ms → Takes n (lexed ms) o → Takes n (lexed ls) o
moved n o ls ms e h = subst (λ (rs : List Lexeme). Takes n (lexed rs) o) (sym e) h

mutual
  unfolding lex content

  lex_cost : (m : Mode) (xs : List ℕ) → lexed (lex m xs) ≤ length xs
  lex_cost m [] = omega arith
  lex_cost m (x ∷ xs) = byte_cost m (class x) x xs (λ n. lex n xs) (λ n. lex_cost n xs) (content_takes plain xs)

  content_takes : (w : Within) (xs : List ℕ) → Takes (length xs) (lexed (lex (mode w) xs)) (content w xs)
  content_takes plain [] = tt
  content_takes plain (x ∷ xs) =
      plain_takes x xs (lexed (lex in_string (x ∷ xs)))
      (λ q. rw (lex_quote x xs q) (lex_cost between xs))
      (λ q b. moved _ _ _ _ (lex_backslash x xs q b) (content_takes after_backslash xs))
      (λ q b. moved _ _ _ _ (lex_other x xs q b) (content_takes plain xs))
  content_takes after_backslash [] = tt
  content_takes after_backslash (x ∷ xs) =
      escape_takes x xs (lexed (lex in_escape (x ∷ xs))) (moved _ _ _ _ (lex_escaped x xs) (content_takes after_u xs)) (moved _ _ _ _ (lex_escaped x xs) (content_takes plain xs))
  content_takes after_u [] = tt
  content_takes after_u (a ∷ []) = tt
  content_takes after_u (a ∷ b ∷ []) = tt
  content_takes after_u (a ∷ b ∷ c ∷ []) = tt
  content_takes after_u (a ∷ b ∷ c ∷ d ∷ xs) =
      unit_takes a b c d xs (lexed (lex in_string (a ∷ b ∷ c ∷ d ∷ xs)))
      (λ u e. moved _ _ _ _ (lex_unit a b c d xs u e) (content_takes (after_high u) xs))
      (λ u e. moved _ _ _ _ (lex_unit a b c d xs u e) (content_takes plain xs))
  content_takes (after_high h) [] = tt
  content_takes (after_high h) (s ∷ []) = tt
  content_takes (after_high h) (s ∷ u ∷ []) = tt
  content_takes (after_high h) (s ∷ u ∷ a ∷ []) = tt
  content_takes (after_high h) (s ∷ u ∷ a ∷ b ∷ []) = tt
  content_takes (after_high h) (s ∷ u ∷ a ∷ b ∷ c ∷ []) = tt
  content_takes (after_high h) (s ∷ u ∷ a ∷ b ∷ c ∷ d ∷ xs) =
      pair_takes h s u a b c d xs (lexed (lex in_string (s ∷ u ∷ a ∷ b ∷ c ∷ d ∷ xs)))
      (λ back l e. moved _ _ _ _ (lex_backslash s (u ∷ a ∷ b ∷ c ∷ d ∷ xs) (no_quote s back) back ∙ lex_escaped u (a ∷ b ∷ c ∷ d ∷ xs) ∙ lex_unit a b c d xs l e) (content_takes plain xs))

-- ---- commas and colons

allowed : (b : Bool) (x : Token) (k : Place → List Token) (p : Place) (n : ℕ) → costs (k p) ≤ n → costs (if_allowed b x k p) ≤ cost x + n
allowed true x k p n h = omega arith
allowed false x k p n h = omega arith

placed : (p : Place) (x : Token) (b : Bool) (k : Place → List Token) (n : ℕ) → ((q : Place) → costs (k q) ≤ n) → costs (place_token p x b k) ≤ cost x + n
placed p json_token.begin_object b k n h = allowed (may_begin p) json_token.begin_object k fresh n (h fresh)
placed p json_token.end_object b k n h = allowed (may_close p) json_token.end_object k after_value n (h after_value)
placed p json_token.begin_array b k n h = allowed (may_begin p) json_token.begin_array k fresh n (h fresh)
placed p json_token.end_array b k n h = allowed (may_close p) json_token.end_array k after_value n (h after_value)
placed p (json_token.key s) b k n h = omega arith
placed p (json_token.string s) true k n h = omega (arith, allowed (may_begin p) (json_token.key s) k after_key n (h after_key))
placed p (json_token.string s) false k n h = allowed (may_begin p) (json_token.string s) k after_value n (h after_value)
placed p (json_token.number s) b k n h = allowed (may_begin p) (json_token.number s) k after_value n (h after_value)
placed p (json_token.boolean v) b k n h = allowed (may_begin p) (json_token.boolean v) k after_value n (h after_value)
placed p json_token.null b k n h = allowed (may_begin p) json_token.null k after_value n (h after_value)
placed p json_token.bad b k n h = omega arith

punctuated : (p : Place) (ls : List Lexeme) → costs (punctuate p ls) ≤ lexed ls
unfolding punctuate
punctuated fresh [] = omega arith
punctuated after_value [] = omega arith
punctuated after_comma [] = omega arith
punctuated after_key [] = omega arith
punctuated fresh (token x ∷ ls) = placed fresh x (begins_colon ls) (λ q. punctuate q ls) (lexed ls) (λ q. punctuated q ls)
punctuated after_value (token x ∷ ls) = placed after_value x (begins_colon ls) (λ q. punctuate q ls) (lexed ls) (λ q. punctuated q ls)
punctuated after_comma (token x ∷ ls) = placed after_comma x (begins_colon ls) (λ q. punctuate q ls) (lexed ls) (λ q. punctuated q ls)
punctuated after_key (token x ∷ ls) = placed after_key x (begins_colon ls) (λ q. punctuate q ls) (lexed ls) (λ q. punctuated q ls)
punctuated fresh (comma ∷ ls) = omega arith
punctuated after_value (comma ∷ ls) = punctuated after_comma ls
punctuated after_comma (comma ∷ ls) = omega arith
punctuated after_key (comma ∷ ls) = omega arith
punctuated fresh (colon ∷ ls) = omega arith
punctuated after_value (colon ∷ ls) = omega arith
punctuated after_comma (colon ∷ ls) = omega arith
punctuated after_key (colon ∷ ls) = punctuated fresh ls

pub tokens_cost : (text : List ℕ) → costs (tokens text) ≤ length text
tokens_cost text = omega (arith, punctuated fresh (lex between text), lex_cost between text)
