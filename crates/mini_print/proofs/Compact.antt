-- A compact text splits into tokens in one way.
use Rattle.std.specs.Prelude.{ℕ, ◌≡◌, refl, nat_eq, nat_lt, Bool, true, false, not, ◌&&◌, ◌||◌, List, [], ◌∷◌, ◌++◌, codes, Option, Some, None, if◌then◌else◌}
use Rattle.std.proofs.Common.{◌∙◌, ap, sym, subst, arith}
use Rattle.std.proofs.lemmas.Bool.{false≢true, eqb-true, ltb-true, le-ltb}
use Rattle.std.proofs.lemmas.List.{append_assoc}
use Rattle.std.specs.Fmt.{decimal}
use Rattle.mini_model.specs.Weight.{same_text}
use Rattle.mini_model.specs.declared.operator.AssignmentOperator.{AssignmentOperator}
use Rattle.mini_model.specs.declared.operator.AssignmentOperator.TheVariants as assignment
use Rattle.mini_print.specs.Token.{Token, Word, Punct, Number, BigInt, Quoted, Pattern, Private, Punctuator, LeftParen, RightParen, LeftBracket, RightBracket, LeftBrace, RightBrace, Comma, Semicolon, Colon, Question, Dot, Ellipsis, OptionalDot, Arrow, Plus, Minus, Times, Slash, Percent, Power, PlusPlus, MinusMinus, Bang, Tilde, Ampersand, Bar, Caret, AndAnd, BarBar, QuestionQuestion, ShiftL, ShiftR, ShiftRR, Less, LessEqual, Greater, GreaterEqual, EqualEqual, BangEqual, EqualEqualEqual, BangEqualEqual, Assigns, TemplateWhole, TemplateHead, TemplateMiddle, TemplateTail}
use Rattle.mini_print.specs.Text.{spelling, assignment_spelling, spelled, is_word_unit, is_digit, are_word_units, is_word, IsLexical, AllLexical, AllLexicalIn, Open, TemplateOpen, BraceOpen, open_behind, may_stand, is_slash, ends_operand, may_follow, slashes_follow, Outside, is_whole_pattern, has_no_line_end, begins_pattern, is_pattern, is_letter, are_letters, holds_bare, ends_escaped, is_quotable}
use Rattle.mini_print.specs.Compact.{goes_on_with, goes_on, may_enter, apart, compact_text_of, Stands, SplitsAfter, nothing, alone, tight, spaced, SplitsCompactly}
use Rattle.mini_print.proofs.Escapes.{same_itself}
use Rattle.mini_print.proofs.Split.{both, untrue, or_parts, is_other, no_quote, without_first, ends_template, no_template, mark_template, begins_with, word_begins, numeral_begins, is_numeral, are_digits, decimal_is_numeral, number_facts, big_facts, word_facts, classified, punctuator_facts, quoted_end, quoted_back, piece_end, as_text, as_first, as_further, in_quotes, whole_read, head_read, starts_quote, pattern_end, pattern_back, some_text, is_empty, append_none, further_stands, tail_stands, token_of, left_of}

-- ---- up to the end of a word

abbrev word_part : List ℕ → List ℕ
word_part [] = []
word_part (c ∷ u) = if is_word_unit c then c ∷ word_part u else []

abbrev behind_word : List ℕ → List ℕ
behind_word [] = []
behind_word (c ∷ u) = if is_word_unit c then behind_word u else c ∷ u

abbrev starts_word : List ℕ → Bool
starts_word [] = false
starts_word (c ∷ u) = is_word_unit c

word_cut : (s v : List ℕ) → are_word_units s ≡ true → starts_word v ≡ false → (word_part (s ++ v) ≡ s) × (behind_word (s ++ v) ≡ v)
word_cut [] [] e f = (refl, refl)
word_cut [] (c ∷ v) e f = (ap (λ b. if b then c ∷ word_part v else []) f, ap (λ b. if b then behind_word v else c ∷ v) f)
word_cut (c ∷ s) v e f =
    let a = both (is_word_unit c) (are_word_units s) e in
    let r = word_cut s v a.1 f in
    (ap (λ b. if b then c ∷ word_part (s ++ v) else []) a.0 ∙ ap (λ y. c ∷ y) r.0, ap (λ b. if b then behind_word (s ++ v) else c ∷ (s ++ v)) a.0 ∙ r.1)

-- ---- the longest punctuator

abbrev after_prefix : List ℕ → List ℕ → Option (List ℕ)
after_prefix [] u = Some u
after_prefix (a ∷ s) [] = None
after_prefix (a ∷ s) (c ∷ u) = if nat_eq c a then after_prefix s u else None

abbrev picked : Punctuator → Option (List ℕ) → Option (Token × List ℕ) → Option (Token × List ℕ)
picked q None r = r
picked q (Some w) r = Some (Punct q, w)

abbrev munch : List Punctuator → List ℕ → Option (Token × List ℕ)
munch [] u = None
munch (q ∷ qs) u = picked q (after_prefix (spelling q) u) (munch qs u)

-- the longer ones first
abbrev by_length : List Punctuator
by_length = Assigns assignment.ShiftRightZeroFill ∷ Ellipsis ∷ EqualEqualEqual ∷ BangEqualEqual ∷ Assigns assignment.Exponential ∷ Assigns assignment.ShiftLeft ∷ Assigns assignment.ShiftRight ∷ ShiftRR ∷ Assigns assignment.LogicalAnd ∷ Assigns assignment.LogicalOr ∷ Assigns assignment.LogicalNullish ∷
    OptionalDot ∷ Arrow ∷ Power ∷ PlusPlus ∷ MinusMinus ∷ AndAnd ∷ BarBar ∷ QuestionQuestion ∷ ShiftL ∷ ShiftR ∷ LessEqual ∷ GreaterEqual ∷ EqualEqual ∷ BangEqual ∷ Assigns assignment.Addition ∷ Assigns assignment.Subtraction ∷ Assigns assignment.Multiplication ∷ Assigns assignment.Division ∷ Assigns assignment.Remainder ∷ Assigns assignment.BitwiseAnd ∷ Assigns assignment.BitwiseXor ∷ Assigns assignment.BitwiseOr ∷
    LeftParen ∷ RightParen ∷ LeftBracket ∷ RightBracket ∷ LeftBrace ∷ RightBrace ∷ Comma ∷ Semicolon ∷ Colon ∷ Question ∷ Dot ∷ Plus ∷ Minus ∷ Times ∷ Slash ∷ Percent ∷ Bang ∷ Tilde ∷ Ampersand ∷ Bar ∷ Caret ∷ Less ∷ Greater ∷ Assigns assignment.Assign ∷ []

-- how a spelling stands to another one: it has another unit, or it goes on behind the other
pub data Ahead : Type 0 where
  Different : Ahead
  With : ℕ → Ahead
  Within : Ahead

abbrev ahead : List ℕ → List ℕ → Ahead
ahead [] t = Within
ahead (a ∷ s) [] = With a
ahead (a ∷ s) (c ∷ t) = if nat_eq c a then ahead s t else Different

abbrev starts_by : ℕ → List ℕ → Bool
starts_by a [] = false
starts_by a (c ∷ u) = nat_eq c a

-- a punctuator with such a spelling isn't found in a text that begins with the other one
abbrev IsMissed : Ahead → List ℕ → Type 0
IsMissed Different v = Unit {0}
IsMissed (With a) v = starts_by a v ≡ false
IsMissed Within v = ⊥

missed_by : (b : Bool) (s t v : List ℕ) → IsMissed (if b then ahead s t else Different) v → (IsMissed (ahead s t) v → after_prefix s (t ++ v) ≡ None) → (if b then after_prefix s (t ++ v) else None) ≡ None
missed_by true s t v m f = f m
missed_by false s t v m f = refl

missed : (s t v : List ℕ) → IsMissed (ahead s t) v → after_prefix s (t ++ v) ≡ None
missed [] t v m = absurd m
missed (a ∷ s) [] [] m = refl
missed (a ∷ s) [] (c ∷ v) m = ap (λ b. if b then after_prefix s v else None) m
missed (a ∷ s) (c ∷ t) v m = missed_by (nat_eq c a) s t v m (λ n. missed s t v n)

found : (s v : List ℕ) → after_prefix s (s ++ v) ≡ Some v
found [] v = refl
found (c ∷ s) v = ap (λ b. if b then after_prefix s (s ++ v) else None) (itself c) ∙ found s v
  where
    itself : (c : ℕ) → nat_eq c c ≡ true
    itself c = (both (nat_eq c c) true (same_itself (c ∷ []))).0

-- each punctuator stands behind those that are longer, and goes on with their units
abbrev is_shorter : Punctuator → Ahead → Bool
is_shorter p Different = true
is_shorter p (With a) = goes_on_with p a
is_shorter p Within = false

abbrev comes : Punctuator → List Punctuator → Bool
comes p [] = false
comes p (q ∷ qs) = same_text (spelling q) (spelling p) || (is_shorter p (ahead (spelling q) (spelling p)) && comes p qs)

assignment_comes : (o : AssignmentOperator) → comes (Assigns o) by_length ≡ true
assignment_comes assignment.Assign = refl
assignment_comes _ = refl

all_come : (p : Punctuator) → comes p by_length ≡ true
all_come (Assigns o) = assignment_comes o
all_come _ = refl

same_is : (s t : List ℕ) → same_text s t ≡ true → s ≡ t
same_is [] [] e = refl
same_is [] (d ∷ t) e = absurd (false≢true e)
same_is (c ∷ s) [] e = absurd (false≢true e)
same_is (c ∷ s) (d ∷ t) e = let a = both (nat_eq c d) (same_text s t) e in ap (λ y. y ∷ s) (eqb-true c d a.0) ∙ ap (λ y. d ∷ y) (same_is s t a.1)

same_punctuator : (q p : Punctuator) → same_text (spelling q) (spelling p) ≡ true → Punct q ≡ Punct p
same_punctuator q p e = sym (punctuator_facts q).0 ∙ ap classified (same_is (spelling q) (spelling p) e) ∙ (punctuator_facts p).0

is_missed : (p : Punctuator) (k : Ahead) (v : List ℕ) → is_shorter p k ≡ true → goes_on (Punct p) v ≡ false → IsMissed k v
is_missed p Different v e f = tt
is_missed p Within v e f = false≢true e
is_missed p (With a) [] e f = refl
is_missed p (With a) (c ∷ v) e f = by (nat_eq c a) refl
  where
    by : (b : Bool) → nat_eq c a ≡ b → b ≡ false
    by true q = absurd (false≢true (sym f ∙ ap (goes_on_with p) (eqb-true c a q) ∙ e))
    by false q = refl

munched_by : (b : Bool) (q : Punctuator) (qs : List Punctuator) (p : Punctuator) (v : List ℕ) → same_text (spelling q) (spelling p) ≡ b → (b || (is_shorter p (ahead (spelling q) (spelling p)) && comes p qs)) ≡ true → goes_on (Punct p) v ≡ false →
    (comes p qs ≡ true → munch qs (spelling p ++ v) ≡ Some (Punct p, v)) → picked q (after_prefix (spelling q) (spelling p ++ v)) (munch qs (spelling p ++ v)) ≡ Some (Punct p, v)
munched_by true q qs p v k e f r =
    ap (λ s. picked q (after_prefix (spelling q) (s ++ v)) (munch qs (spelling p ++ v))) (sym (same_is (spelling q) (spelling p) k)) ∙ ap (λ o. picked q o (munch qs (spelling p ++ v))) (found (spelling q) v) ∙
    ap (λ x. Some (x, v)) (same_punctuator q p k)
munched_by false q qs p v k e f r =
    let a = both (is_shorter p (ahead (spelling q) (spelling p))) (comes p qs) e in
    ap (λ o. picked q o (munch qs (spelling p ++ v))) (missed (spelling q) (spelling p) v (is_missed p (ahead (spelling q) (spelling p)) v a.0 f)) ∙ r a.1

munched : (qs : List Punctuator) (p : Punctuator) (v : List ℕ) → comes p qs ≡ true → goes_on (Punct p) v ≡ false → munch qs (spelling p ++ v) ≡ Some (Punct p, v)
munched [] p v e f = absurd (false≢true e)
munched (q ∷ qs) p v e f = munched_by (same_text (spelling q) (spelling p)) q qs p v refl e f (λ a. munched qs p v a f)

-- ---- a token is read from the text that it begins, right behind one with which an operand may end
-- or not

abbrev as_regular : Option (List ℕ × List ℕ) → Option (Token × List ℕ)
as_regular None = None
as_regular (Some p) = Some (Pattern p.0 (word_part p.1), behind_word p.1)

abbrev regular : List ℕ → Option (Token × List ℕ)
regular u = as_regular (pattern_end Outside u)

abbrev at_slash : Bool → List ℕ → Option (Token × List ℕ)
at_slash true u = munch by_length (47 ∷ u)
at_slash false u = regular u

abbrev at_unit : Bool → ℕ → List ℕ → Option (Token × List ℕ)
at_unit k c u = if nat_eq c 47 then at_slash k u else (if nat_eq c 35 then Some (Private (word_part u), behind_word u) else (if is_word_unit c then Some (classified (word_part (c ∷ u)), behind_word (c ∷ u)) else munch by_length (c ∷ u)))

abbrev bare_read : Bool → List ℕ → Option (Token × List ℕ)
bare_read k [] = None
bare_read k (c ∷ u) = at_unit k c u

abbrev next_read : Bool → List Open → List ℕ → Option (Token × List ℕ)
next_read k os u = if starts_quote u then in_quotes u else (if ends_template os u then as_further (piece_end false (without_first u)) else bare_read k u)

-- what begins neither with a quote nor ends a template's expression
plainly : (k : Bool) (os : List Open) (u : List ℕ) → starts_quote u ≡ false → ends_template os u ≡ false → next_read k os u ≡ bare_read k u
plainly k os u e f = ap (λ b. if b then in_quotes u else (if ends_template os u then as_further (piece_end false (without_first u)) else bare_read k u)) e ∙ ap (λ b. if b then as_further (piece_end false (without_first u)) else bare_read k u) f

-- a word, and what is made of word units
units_read : (k : Bool) (os : List Open) (c : ℕ) (s v : List ℕ) (x : Token) → are_word_units (c ∷ s) ≡ true → starts_word v ≡ false → classified (c ∷ s) ≡ x → next_read k os ((c ∷ s) ++ v) ≡ Some (x, v)
units_read k os c s v x e f q =
    let a = (both (is_word_unit c) (are_word_units s) e).0 in
    let r = word_cut (c ∷ s) v e f in
    plainly k os (c ∷ (s ++ v)) (no_quote is_word_unit c a refl refl refl) (no_template os c (s ++ v) (is_other is_word_unit c 125 a refl)) ∙
    ap (λ b. if b then at_slash k (s ++ v) else (if nat_eq c 35 then Some (Private (word_part (s ++ v)), behind_word (s ++ v)) else (if is_word_unit c then Some (classified (word_part (c ∷ (s ++ v))), behind_word (c ∷ (s ++ v))) else munch by_length (c ∷ (s ++ v))))) (is_other is_word_unit c 47 a refl) ∙
    ap (λ b. if b then Some (Private (word_part (s ++ v)), behind_word (s ++ v)) else (if is_word_unit c then Some (classified (word_part (c ∷ (s ++ v))), behind_word (c ∷ (s ++ v))) else munch by_length (c ∷ (s ++ v)))) (is_other is_word_unit c 35 a refl) ∙
    ap (λ b. if b then Some (classified (word_part (c ∷ (s ++ v))), behind_word (c ∷ (s ++ v))) else munch by_length (c ∷ (s ++ v))) a ∙
    ap (λ y. Some (classified y, behind_word (c ∷ (s ++ v)))) r.0 ∙ ap (λ y. Some (classified (c ∷ s), y)) r.1 ∙ ap (λ y. Some (y, v)) q

no_unit_bars : (a b c d e f : Bool) → a ≡ false → b ≡ false → c ≡ false → d ≡ false → e ≡ false → f ≡ false → not (a || b || c || d || e || f) ≡ true
no_unit_bars false false false false false false i j k l m n = refl
no_unit_bars true b c d e f i j k l m n = absurd (false≢true (sym i))
no_unit_bars false true c d e f i j k l m n = absurd (false≢true (sym j))
no_unit_bars false false true d e f i j k l m n = absurd (false≢true (sym k))
no_unit_bars false false false true e f i j k l m n = absurd (false≢true (sym l))
no_unit_bars false false false false true f i j k l m n = absurd (false≢true (sym m))
no_unit_bars false false false false false true i j k l m n = absurd (false≢true (sym n))

second_fails : (a b : Bool) → b ≡ false → (a && b) ≡ false
second_fails true b e = e
second_fails false b e = refl

first_fails : (a b : Bool) → a ≡ false → (a && b) ≡ false
first_fails a b e = ap (λ y. y && b) e

-- a unit outside the gaps of the words' units is one of these
is_unit : (c : ℕ) → nat_lt c 36 ≡ false → nat_lt c 48 ≡ false → (nat_lt 57 c && nat_lt c 65) ≡ false → (nat_lt 90 c && nat_lt c 95) ≡ false → nat_eq c 96 ≡ false → nat_lt 122 c ≡ false → is_word_unit c ≡ true
is_unit c a b d e f g = no_unit_bars (nat_lt c 36) (nat_lt 36 c && nat_lt c 48) (nat_lt 57 c && nat_lt c 65) (nat_lt 90 c && nat_lt c 95) (nat_eq c 96) (nat_lt 122 c && nat_lt c 127) a (second_fails (nat_lt 36 c) (nat_lt c 48) b) d e f (first_fails (nat_lt 122 c) (nat_lt c 127) g)

digit_unit : (c : ℕ) → is_digit c ≡ true → is_word_unit c ≡ true
digit_unit c e =
    let a = both (nat_lt 47 c) (nat_lt c 58) e in
    let lo = ltb-true 47 c a.0 in
    let hi = ltb-true c 58 a.1 in
    is_unit c (le-ltb c 36 (omega (arith, lo))) (le-ltb c 48 (omega (arith, lo))) (first_fails (nat_lt 57 c) (nat_lt c 65) (le-ltb 57 c (omega (arith, hi)))) (first_fails (nat_lt 90 c) (nat_lt c 95) (le-ltb 90 c (omega (arith, hi)))) (is_other is_digit c 96 e refl) (le-ltb 122 c (omega (arith, hi)))

letter_unit : (c : ℕ) → is_letter c ≡ true → is_word_unit c ≡ true
letter_unit c e = by (nat_lt 64 c && nat_lt c 91) refl e
  where
    by : (b : Bool) → (nat_lt 64 c && nat_lt c 91) ≡ b → (b || (nat_lt 96 c && nat_lt c 123)) ≡ true → is_word_unit c ≡ true
    by true q f =
        let a = both (nat_lt 64 c) (nat_lt c 91) q in
        let lo = ltb-true 64 c a.0 in
        let hi = ltb-true c 91 a.1 in
        is_unit c (le-ltb c 36 (omega (arith, lo))) (le-ltb c 48 (omega (arith, lo))) (second_fails (nat_lt 57 c) (nat_lt c 65) (le-ltb c 65 (omega (arith, lo)))) (first_fails (nat_lt 90 c) (nat_lt c 95) (le-ltb 90 c (omega (arith, hi)))) (is_other is_letter c 96 e refl) (le-ltb 122 c (omega (arith, hi)))
    by false q f =
        let a = both (nat_lt 96 c) (nat_lt c 123) f in
        let lo = ltb-true 96 c a.0 in
        let hi = ltb-true c 123 a.1 in
        is_unit c (le-ltb c 36 (omega (arith, lo))) (le-ltb c 48 (omega (arith, lo))) (second_fails (nat_lt 57 c) (nat_lt c 65) (le-ltb c 65 (omega (arith, lo)))) (second_fails (nat_lt 90 c) (nat_lt c 95) (le-ltb c 95 (omega (arith, lo)))) (is_other is_letter c 96 e refl) (le-ltb 122 c (omega (arith, hi)))

digit_units : (u : List ℕ) → are_digits u ≡ true → are_word_units u ≡ true
digit_units [] e = refl
digit_units (c ∷ u) e = let a = both (is_digit c) (are_digits u) e in ap (λ b. b && are_word_units u) (digit_unit c a.0) ∙ digit_units u a.1

n_units : (u : List ℕ) → are_digits u ≡ true → are_word_units (u ++ codes "n") ≡ true
n_units [] e = refl
n_units (c ∷ u) e = let a = both (is_digit c) (are_digits u) e in ap (λ b. b && are_word_units (u ++ codes "n")) (digit_unit c a.0) ∙ n_units u a.1

numeral_read : (k : Bool) (os : List Open) (u v : List ℕ) (x : Token) → is_numeral u ≡ true → starts_word v ≡ false → classified u ≡ x → next_read k os (u ++ v) ≡ Some (x, v)
numeral_read k os [] v x e f q = absurd (false≢true e)
numeral_read k os (c ∷ s) v x e f q = units_read k os c s v x (digit_units (c ∷ s) e) f q

numeral_n_read : (k : Bool) (os : List Open) (u v : List ℕ) (x : Token) → is_numeral u ≡ true → starts_word v ≡ false → classified (u ++ codes "n") ≡ x → next_read k os ((u ++ codes "n") ++ v) ≡ Some (x, v)
numeral_n_read k os [] v x e f q = absurd (false≢true e)
numeral_n_read k os (c ∷ s) v x e f q = units_read k os c (s ++ codes "n") v x (n_units (c ∷ s) e) f q

word_read : (k : Bool) (os : List Open) (s v : List ℕ) → is_word s ≡ true → starts_word v ≡ false → next_read k os (s ++ v) ≡ Some (Word s, v)
word_read k os [] v e f = absurd (false≢true e)
word_read k os (c ∷ s) v e f = units_read k os c s v (Word (c ∷ s)) (both (not (is_digit c)) (are_word_units (c ∷ s)) e).1 f (word_facts (c ∷ s) e).0

private_read : (k : Bool) (os : List Open) (s v : List ℕ) → is_word s ≡ true → starts_word v ≡ false → next_read k os ((35 ∷ s) ++ v) ≡ Some (Private s, v)
private_read k os [] v e f = absurd (false≢true e)
private_read k os (c ∷ s) v e f =
    let r = word_cut (c ∷ s) v (both (not (is_digit c)) (are_word_units (c ∷ s)) e).1 f in
    plainly k os (35 ∷ ((c ∷ s) ++ v)) refl (no_template os 35 ((c ∷ s) ++ v) refl) ∙ ap (λ y. Some (Private y, behind_word ((c ∷ s) ++ v))) r.0 ∙ ap (λ y. Some (Private (c ∷ s), y)) r.1

letter_units : (u : List ℕ) → are_letters u ≡ true → are_word_units u ≡ true
letter_units [] e = refl
letter_units (c ∷ u) e = let a = both (is_letter c) (are_letters u) e in ap (λ b. b && are_word_units u) (letter_unit c a.0) ∙ letter_units u a.1

-- a regular expression
regular_back : (p f v : List ℕ) → (is_pattern p && are_letters f) ≡ true → starts_word v ≡ false → regular ((p ++ (47 ∷ f)) ++ v) ≡ Some (Pattern p f, v)
regular_back p f v l t =
    let a = both (is_pattern p) (are_letters f) l in
    let b = both (begins_pattern p) (is_whole_pattern Outside p && has_no_line_end p) a.0 in
    let d = both (is_whole_pattern Outside p) (has_no_line_end p) b.1 in
    let c = word_cut f v (letter_units f a.1) t in
    ap regular (append_assoc p (47 ∷ f) v) ∙ ap as_regular (pattern_back Outside p (f ++ v) d.0) ∙ ap (λ y. Some (Pattern p y, behind_word (f ++ v))) c.0 ∙ ap (λ y. Some (Pattern p f, y)) c.1

regular_read : (k : Bool) (os : List Open) (p f v : List ℕ) → (is_pattern p && are_letters f) ≡ true → may_enter k (Pattern p f) ≡ true → starts_word v ≡ false → next_read k os ((47 ∷ (p ++ (47 ∷ f))) ++ v) ≡ Some (Pattern p f, v)
regular_read k os p f v l m t = plainly k os (47 ∷ ((p ++ (47 ∷ f)) ++ v)) refl (no_template os 47 ((p ++ (47 ∷ f)) ++ v) refl) ∙ by k m
  where
    by : (k : Bool) → may_enter k (Pattern p f) ≡ true → at_slash k ((p ++ (47 ∷ f)) ++ v) ≡ Some (Pattern p f, v)
    by true m = absurd (false≢true m)
    by false m = regular_back p f v l t

-- ---- a punctuator

mark_read : (p : Punctuator) (v : List ℕ) → goes_on (Punct p) v ≡ false → munch by_length (spelling p ++ v) ≡ Some (Punct p, v)
mark_read p v f = munched by_length p v (all_come p) f

slash_back : (k : Bool) (v : List ℕ) → may_enter k (Punct Slash) ≡ true → goes_on (Punct Slash) v ≡ false → at_slash k v ≡ Some (Punct Slash, v)
slash_back true v m f = mark_read Slash v f
slash_back false v m f = absurd (false≢true m)

divides_back : (k : Bool) (v : List ℕ) → may_enter k (Punct (Assigns assignment.Division)) ≡ true → goes_on (Punct (Assigns assignment.Division)) v ≡ false → at_slash k (61 ∷ v) ≡ Some (Punct (Assigns assignment.Division), v)
divides_back true v m f = mark_read (Assigns assignment.Division) v f
divides_back false v m f = absurd (false≢true m)

assignment_back : (k : Bool) (o : AssignmentOperator) (v : List ℕ) → may_enter k (Punct (Assigns o)) ≡ true → goes_on (Punct (Assigns o)) v ≡ false → bare_read k (assignment_spelling o ++ v) ≡ Some (Punct (Assigns o), v)
assignment_back k assignment.Division v m f = divides_back k v m f
assignment_back k assignment.Assign v m f = mark_read (Assigns assignment.Assign) v f
assignment_back k o v m f = mark_read (Assigns o) v f

mark_back : (k : Bool) (p : Punctuator) (v : List ℕ) → may_enter k (Punct p) ≡ true → goes_on (Punct p) v ≡ false → bare_read k (spelling p ++ v) ≡ Some (Punct p, v)
mark_back k Slash v m f = slash_back k v m f
mark_back k (Assigns o) v m f = assignment_back k o v m f
mark_back k p v m f = mark_read p v f

assignment_quote : (o : AssignmentOperator) (v : List ℕ) → starts_quote (assignment_spelling o ++ v) ≡ false
assignment_quote assignment.Assign v = refl
assignment_quote _ v = refl

mark_quote : (p : Punctuator) (v : List ℕ) → starts_quote (spelling p ++ v) ≡ false
mark_quote (Assigns o) v = assignment_quote o v
mark_quote _ v = refl

-- a text in its quotes
text_read : (k : Bool) (os : List Open) (s v : List ℕ) → is_quotable s ≡ true → next_read k os (spelled (Quoted s) ++ v) ≡ Some (Quoted s, v)
text_read k os s v l = by (holds_bare 34 false s) refl
  where
    a : (has_no_line_end s ≡ true) × ((not (ends_escaped false s) && not (holds_bare 34 false s && holds_bare 39 false s)) ≡ true)
    a = both (has_no_line_end s) (not (ends_escaped false s) && not (holds_bare 34 false s && holds_bare 39 false s)) l

    d : (not (ends_escaped false s) ≡ true) × (not (holds_bare 34 false s && holds_bare 39 false s) ≡ true)
    d = both (not (ends_escaped false s)) (not (holds_bare 34 false s && holds_bare 39 false s)) a.1

    by : (b : Bool) → holds_bare 34 false s ≡ b → next_read k os (((if b then 39 else 34) ∷ (s ++ ((if b then 39 else 34) ∷ []))) ++ v) ≡ Some (Quoted s, v)
    by true e = ap (λ y. as_text (quoted_end 39 false y)) (append_assoc s (39 ∷ []) v) ∙ ap as_text (quoted_back 39 false s v refl (untrue (holds_bare 39 false s) (ap (λ b. not (b && holds_bare 39 false s)) (sym e) ∙ d.1)) (untrue (ends_escaped false s) d.0))
    by false e = ap (λ y. as_text (quoted_end 34 false y)) (append_assoc s (34 ∷ []) v) ∙ ap as_text (quoted_back 34 false s v refl e (untrue (ends_escaped false s) d.0))

further_back : (k : Bool) (os : List Open) (x : Token) (u v : List ℕ) → may_stand os (TemplateTail []) ≡ true → as_further (piece_end false (u ++ v)) ≡ Some (x, v) → next_read k os ((125 ∷ u) ++ v) ≡ Some (x, v)
further_back k [] x u v e q = absurd (false≢true e)
further_back k (BraceOpen ∷ os) x u v e q = absurd (false≢true e)
further_back k (TemplateOpen ∷ os) x u v e q = q

no_word_behind : (x : Token) → ((c : ℕ) (u : List ℕ) → goes_on x (c ∷ u) ≡ false → is_word_unit c ≡ false) → (v : List ℕ) → goes_on x v ≡ false → starts_word v ≡ false
no_word_behind x h [] f = refl
no_word_behind x h (c ∷ v) f = h c v f

read_back : (k : Bool) (os : List Open) (x : Token) (v : List ℕ) → Stands k os x v → next_read k os (spelled x ++ v) ≡ Some (x, v)
read_back k os (Word s) v w = word_read k os s v w.0 (no_word_behind (Word s) (λ c u f. f) v w.3)
read_back k os (Punct p) v w = plainly k os (spelling p ++ v) (mark_quote p v) (mark_template os p v w.1) ∙ mark_back k p v w.2 w.3
read_back k os (Number n) v w = let l = w.0 in numeral_read k os (decimal n) v (Number n) (decimal_is_numeral n (omega (arith, l))) (no_word_behind (Number n) (λ c u f. (or_parts (is_word_unit c) (nat_eq c 46) f).0) v w.3) (number_facts n l).0
read_back k os (BigInt n) v w = let l = w.0 in numeral_n_read k os (decimal n) v (BigInt n) (decimal_is_numeral n (omega (arith, l))) (no_word_behind (BigInt n) (λ c u f. f) v w.3) (big_facts n l).0
read_back k os (Quoted s) v w = text_read k os s v w.0
read_back k os (Pattern p f) v w = regular_read k os p f v w.0 w.2 (no_word_behind (Pattern p f) (λ c u g. g) v w.3)
read_back k os (Private s) v w = private_read k os s v w.0 (no_word_behind (Private s) (λ c u f. f) v w.3)
read_back k os (TemplateWhole s) v w = ap as_first (whole_read s v w.0)
read_back k os (TemplateHead s) v w = ap as_first (head_read s v w.0)
read_back k os (TemplateMiddle s) v w = further_back k os (TemplateMiddle s) (s ++ codes "${") v (sym (further_stands os s) ∙ w.1) (ap as_further (head_read s v w.0))
read_back k os (TemplateTail s) v w = further_back k os (TemplateTail s) (s ++ codes "`") v (sym (tail_stands os s) ∙ w.1) (ap as_further (whole_read s v w.0))

-- ---- no token begins with a blank

assignment_first : (o : AssignmentOperator) (v : List ℕ) → starts_by 32 (assignment_spelling o ++ v) ≡ false
assignment_first assignment.Assign v = refl
assignment_first _ v = refl

mark_first : (p : Punctuator) (v : List ℕ) → starts_by 32 (spelling p ++ v) ≡ false
mark_first (Assigns o) v = assignment_first o v
mark_first _ v = refl

unit_first : (f : ℕ → Bool) (u v : List ℕ) → f 32 ≡ false → begins_with f u ≡ true → starts_by 32 (u ++ v) ≡ false
unit_first f [] v k e = absurd (false≢true e)
unit_first f (c ∷ u) v k e = is_other f c 32 e k

digits_n_first : (u v : List ℕ) → is_numeral u ≡ true → starts_by 32 ((u ++ codes "n") ++ v) ≡ false
digits_n_first [] v e = absurd (false≢true e)
digits_n_first (c ∷ u) v e = is_other is_digit c 32 (both (is_digit c) (are_digits u) e).0 refl

quote_first : (b : Bool) (u : List ℕ) → starts_by 32 ((if b then 39 else 34) ∷ u) ≡ false
quote_first true u = refl
quote_first false u = refl

first_unit : (x : Token) → IsLexical x → (v : List ℕ) → starts_by 32 (spelled x ++ v) ≡ false
first_unit (Word s) l v = unit_first is_word_unit s v refl (word_begins s l)
first_unit (Punct p) l v = mark_first p v
first_unit (Number n) l v = unit_first is_digit (decimal n) v refl (numeral_begins (decimal n) (decimal_is_numeral n (omega (arith, l))))
first_unit (BigInt n) l v = digits_n_first (decimal n) v (decimal_is_numeral n (omega (arith, l)))
first_unit (Quoted s) l v = quote_first (holds_bare 34 false s) []
first_unit (Pattern p f) l v = refl
first_unit (Private s) l v = refl
first_unit (TemplateWhole s) l v = refl
first_unit (TemplateHead s) l v = refl
first_unit (TemplateMiddle s) l v = refl
first_unit (TemplateTail s) l v = refl

starts_tight : {k : Bool} {os : List Open} {u : List ℕ} {y : Token} {ts : List Token} → SplitsAfter k os u (y ∷ ts) → starts_by 32 u ≡ false
starts_tight (alone k os x w) = ap (starts_by 32) (sym (append_none (spelled x))) ∙ first_unit x w.0 []
starts_tight (tight k os x u y ts w d) = first_unit x w.0 u
starts_tight (spaced k os x u y ts w d) = first_unit x w.0 (32 ∷ u)

text_is_some : {k : Bool} {os : List Open} {u : List ℕ} {y : Token} {ts : List Token} → SplitsAfter k os u (y ∷ ts) → is_empty u ≡ false
text_is_some (alone k os x w) = ap is_empty (sym (append_none (spelled x))) ∙ some_text x w.0 []
text_is_some (tight k os x u y ts w d) = some_text x w.0 u
text_is_some (spaced k os x u y ts w d) = some_text x w.0 (32 ∷ u)

-- ---- a text splits in one way

last_back : (k : Bool) (os : List Open) (x : Token) → Stands k os x [] → next_read k os (spelled x) ≡ Some (x, [])
last_back k os x w = ap (next_read k os) (sym (append_none (spelled x))) ∙ read_back k os x [] w

apart_absurd : {A : Type 0} (f : List ℕ → Bool) (u v : List ℕ) → f u ≡ true → f v ≡ false → u ≡ v → A
apart_absurd f u v a b e = absurd (false≢true (sym b ∙ ap f (sym e) ∙ a))

one_way : (k : Bool) (os : List Open) (u w : List ℕ) (ts vs : List Token) → SplitsAfter k os u ts → SplitsAfter k os w vs → u ≡ w → ts ≡ vs
one_way _ _ _ _ _ _ (nothing _ _) (nothing _ _) e = refl
one_way _ _ _ _ _ _ (nothing _ _) (alone k os y l) e = apart_absurd is_empty [] (spelled y) refl (text_is_some (alone k os y l)) e
one_way _ _ _ _ _ _ (nothing _ _) (tight k os y u z ts l d) e = apart_absurd is_empty [] (spelled y ++ u) refl (some_text y l.0 u) e
one_way _ _ _ _ _ _ (nothing _ _) (spaced k os y u z ts l d) e = apart_absurd is_empty [] (spelled y ++ (32 ∷ u)) refl (some_text y l.0 (32 ∷ u)) e
one_way _ _ _ _ _ _ (alone k os x j) (nothing _ _) e = apart_absurd is_empty [] (spelled x) refl (text_is_some (alone k os x j)) (sym e)
one_way k os _ _ _ _ (alone _ _ x j) (alone _ _ y l) e = ap (λ q. token_of q ∷ []) (sym (last_back k os x j) ∙ ap (next_read k os) e ∙ last_back k os y l)
one_way k os _ _ _ _ (alone _ _ x j) (tight _ _ y u z ts l d) e = apart_absurd is_empty [] u refl (text_is_some d) (ap left_of (sym (last_back k os x j) ∙ ap (next_read k os) e ∙ read_back k os y u l))
one_way k os _ _ _ _ (alone _ _ x j) (spaced _ _ y u z ts l d) e = apart_absurd is_empty [] (32 ∷ u) refl refl (ap left_of (sym (last_back k os x j) ∙ ap (next_read k os) e ∙ read_back k os y (32 ∷ u) l))
one_way _ _ _ _ _ _ (tight k os x u z ts j d) (nothing _ _) e = apart_absurd is_empty [] (spelled x ++ u) refl (some_text x j.0 u) (sym e)
one_way k os _ _ _ _ (tight _ _ x u z ts j d) (alone _ _ y l) e = apart_absurd is_empty [] u refl (text_is_some d) (ap left_of (sym (last_back k os y l) ∙ ap (next_read k os) (sym e) ∙ read_back k os x u j))
one_way k os _ _ _ _ (tight _ _ x u z ts j a) (tight _ _ y w v us l b) e =
    let same = sym (read_back k os x u j) ∙ ap (next_read k os) e ∙ read_back k os y w l in
    let alike = ap token_of same in
    let rest = one_way (ends_operand x) (open_behind x os) u w (z ∷ ts) (v ∷ us) a (subst (λ q. SplitsAfter (ends_operand q) (open_behind q os) w (v ∷ us)) (sym alike) b) (ap left_of same) in
    ap (λ q. q ∷ z ∷ ts) alike ∙ ap (λ q. y ∷ q) rest
one_way k os _ _ _ _ (tight _ _ x u z ts j a) (spaced _ _ y w v us l b) e = apart_absurd (starts_by 32) (32 ∷ w) u refl (starts_tight a) (ap left_of (sym (read_back k os y (32 ∷ w) l) ∙ ap (next_read k os) (sym e) ∙ read_back k os x u j))
one_way _ _ _ _ _ _ (spaced k os x u z ts j d) (nothing _ _) e = apart_absurd is_empty [] (spelled x ++ (32 ∷ u)) refl (some_text x j.0 (32 ∷ u)) (sym e)
one_way k os _ _ _ _ (spaced _ _ x u z ts j d) (alone _ _ y l) e = apart_absurd is_empty [] (32 ∷ u) refl refl (ap left_of (sym (last_back k os y l) ∙ ap (next_read k os) (sym e) ∙ read_back k os x (32 ∷ u) j))
one_way k os _ _ _ _ (spaced _ _ x u z ts j a) (tight _ _ y w v us l b) e = apart_absurd (starts_by 32) (32 ∷ u) w refl (starts_tight b) (ap left_of (sym (read_back k os x (32 ∷ u) j) ∙ ap (next_read k os) e ∙ read_back k os y w l))
one_way k os _ _ _ _ (spaced _ _ x u z ts j a) (spaced _ _ y w v us l b) e =
    let same = sym (read_back k os x (32 ∷ u) j) ∙ ap (next_read k os) e ∙ read_back k os y (32 ∷ w) l in
    let alike = ap token_of same in
    let rest = one_way false (open_behind x os) u w (z ∷ ts) (v ∷ us) a (subst (λ q. SplitsAfter false (open_behind q os) w (v ∷ us)) (sym alike) b) (ap (λ q. without_first (left_of q)) same) in
    ap (λ q. q ∷ z ∷ ts) alike ∙ ap (λ q. y ∷ q) rest

pub compact_alone : (u : List ℕ) (ts vs : List Token) → SplitsCompactly u ts → SplitsCompactly u vs → ts ≡ vs
compact_alone u ts vs a b = one_way false [] u u ts vs a b refl

-- ---- and the text of tokens splits into these

blank_stops : (p : Punctuator) → goes_on_with p 32 ≡ false
blank_stops (Assigns assignment.Assign) = refl
blank_stops _ = refl

stops_at_blank : (x : Token) (u : List ℕ) → goes_on x (32 ∷ u) ≡ false
stops_at_blank (Punct p) u = blank_stops p
stops_at_blank _ u = refl

-- what goes on a token is the first unit behind it
goes_by_first : (x : Token) (s v : List ℕ) → is_empty s ≡ false → goes_on x (s ++ v) ≡ goes_on x s
goes_by_first x [] v e = absurd (false≢true (sym e))
goes_by_first x (c ∷ s) v e = refl

spelled_is_some : (y : Token) → IsLexical y → is_empty (spelled y) ≡ false
spelled_is_some y l = ap is_empty (sym (append_none (spelled y))) ∙ some_text y l []

goes_by_next : (x y : Token) (ts : List Token) → IsLexical y → goes_on x (compact_text_of (y ∷ ts)) ≡ goes_on x (spelled y)
goes_by_next x y [] l = refl
goes_by_next x y (z ∷ ts) l = goes_by_first x (spelled y) (if apart y z then 32 ∷ compact_text_of (z ∷ ts) else compact_text_of (z ∷ ts)) (spelled_is_some y l)

entered : (b : Bool) → not b ≡ false → b ≡ true
entered true e = refl
entered false e = absurd (false≢true (sym e))

-- right behind what an operand may end with a slash stands without a blank
ends_before : (x : Token) → ends_operand x ≡ true → goes_on x (47 ∷ []) ≡ false
ends_before (Punct RightParen) e = refl
ends_before (Punct RightBracket) e = refl
ends_before (Punct RightBrace) e = refl
ends_before (Punct PlusPlus) e = refl
ends_before (Punct MinusMinus) e = refl
ends_before (Punct p) e = absurd (false≢true e)
ends_before (TemplateHead s) e = absurd (false≢true e)
ends_before (TemplateMiddle s) e = absurd (false≢true e)
ends_before _ e = refl

slash_is_tight : (x y : Token) → is_slash y ≡ true → ends_operand x ≡ true → apart x y ≡ false
slash_is_tight x (Punct Slash) i e = ap (λ b. goes_on x (47 ∷ []) || not (may_enter b (Punct Slash))) e ∙ ap (λ b. b || false) (ends_before x e)
slash_is_tight x (Punct (Assigns assignment.Division)) i e = ap (λ b. goes_on x (47 ∷ []) || not (may_enter b (Punct (Assigns assignment.Division)))) e ∙ ap (λ b. b || false) (ends_before x e)
slash_is_tight x _ i e = absurd (false≢true i)

-- so behind a blank no slash divides
enters_apart : (x y : Token) → may_follow (ends_operand x) y ≡ true → apart x y ≡ true → may_enter false y ≡ true
enters_apart x y f e = by (is_slash y) refl
  where
    follows : (b c : Bool) → (b || not c) ≡ true → c ≡ true → b ≡ true
    follows true c g h = refl
    follows false true g h = absurd (false≢true g)
    follows false false g h = h

    by : (b : Bool) → is_slash y ≡ b → not b ≡ true
    by true i = absurd (false≢true (sym (slash_is_tight x y i (follows (ends_operand x) (is_slash y) f i)) ∙ e))
    by false i = refl

within_by : (b d : Bool) (os : List Open) (x y : Token) (ts : List Token) → apart x y ≡ b → AllLexicalIn os (x ∷ y ∷ ts) → may_enter d x ≡ true → may_follow (ends_operand x) y ≡ true → ((j : Bool) → may_enter j y ≡ true → SplitsAfter j (open_behind x os) (compact_text_of (y ∷ ts)) (y ∷ ts)) →
    SplitsAfter d os (spelled x ++ (if b then 32 ∷ compact_text_of (y ∷ ts) else compact_text_of (y ∷ ts))) (x ∷ y ∷ ts)
within_by true d os x y ts e l m f r = spaced d os x (compact_text_of (y ∷ ts)) y ts (l.0, l.1, m, stops_at_blank x (compact_text_of (y ∷ ts))) (r false (enters_apart x y f e))
within_by false d os x y ts e l m f r =
    let b = or_parts (goes_on x (spelled y)) (not (may_enter (ends_operand x) y)) e in
    tight d os x (compact_text_of (y ∷ ts)) y ts (l.0, l.1, m, goes_by_next x y ts l.2.0 ∙ b.0) (r (ends_operand x) (entered (may_enter (ends_operand x) y) b.1))

abbrev Enters : Bool → List Token → Type 0
Enters d [] = Unit {0}
Enters d (x ∷ ts) = may_enter d x ≡ true

compact_within : (d o : Bool) (os : List Open) (ts : List Token) → AllLexicalIn os ts → slashes_follow o ts ≡ true → Enters d ts → SplitsAfter d os (compact_text_of ts) ts
compact_within d o os [] l f m = nothing d os
compact_within d o os (x ∷ []) l f m = alone d os x (l.0, l.1, m, refl)
compact_within d o os (x ∷ y ∷ ts) l f m =
    let a = both (may_follow o x) (slashes_follow (ends_operand x) (y ∷ ts)) f in
    let b = both (may_follow (ends_operand x) y) (slashes_follow (ends_operand y) ts) a.1 in
    within_by (apart x y) d os x y ts refl l m b.0 (λ j n. compact_within j (ends_operand x) (open_behind x os) (y ∷ ts) l.2 a.1 n)

first_enters : (ts : List Token) → slashes_follow false ts ≡ true → Enters false ts
first_enters [] f = tt
first_enters (x ∷ ts) f = (both (not (is_slash x)) (slashes_follow (ends_operand x) ts) f).0

pub compact_splits : (ts : List Token) → AllLexical ts → slashes_follow false ts ≡ true → SplitsCompactly (compact_text_of ts) ts
compact_splits ts l f = compact_within false false [] ts l f (first_enters ts f)
