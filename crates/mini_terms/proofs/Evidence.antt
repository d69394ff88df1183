-- What is evident of an expression is so of its constant; so the truth that is evident is that of the value.
use Rattle.std.proofs.Common.{◌≡◌, ℕ, ℤ, zero, suc, pos, negsuc, Bool, true, false, List, [], ◌∷◌, ◌++◌, Option, Some, None, refl, sym, ap, ◌∙◌, subst, true≢false}
use Rattle.std.specs.Prelude.{not, ◌&&◌, ◌||◌, ◌==◌, ◌/◌, ◌%◌, nat_eq, if◌then◌else◌}
use Rattle.std.specs.Fmt.{digits, digits_onto, digit_glyph, decimal, signed_decimal}
use Rattle.std.proofs.lemmas.Bool.{and_parts}
use Rattle.mini_model.specs.declared.operator.BinaryOperator.{BinaryOperator}
use Rattle.mini_model.specs.declared.operator.BinaryOperator.TheVariants as binary
use Rattle.mini_model.specs.declared.operator.LogicalOperator.{LogicalOperator}
use Rattle.mini_model.specs.declared.operator.LogicalOperator.TheVariants.{Or, And, Coalesce}
use Rattle.mini_model.specs.declared.operator.UnaryOperator.{UnaryOperator}
use Rattle.mini_model.specs.declared.operator.UnaryOperator.TheVariants as unary
use Rattle.mini_model.specs.declared.shape.Shape.TheVariants as shape
use Rattle.mini_model.specs.Tree.{Tree, Trees, node, none, ◌▸◌, children, count, shape_of, child_or_absent}
use Rattle.mini_node.specs.Kinds.{is_listed}
use Rattle.mini_laws.specs.Value.{Value, Undefined, Null, Boolean, Number, String, Object, choose, truth, is_nullish as is_it_nullish}
use Rattle.mini_laws.specs.Conversion.{Made, makes, raises, outside, to_text, to_number, text_of_boolean, is_safe}
use Rattle.mini_laws.specs.Operators.{of_numbers, of_number, by_numbers, of_primitives, type_text}
use Rattle.mini_laws.specs.State.{State, Environment}
use Rattle.mini_laws.specs.Demand.{Val, As}
use Rattle.mini_laws.specs.Naming.{NameKind, PlainName, EvalName, UndefinedName, NumberName, kinds, facts, texts_all}
use Rattle.mini_laws.specs.Expressions.{first_kind, interleaved}
use Rattle.mini_laws.specs.Step.{means}
use Rattle.mini_terms.specs.declared.evident.Evidence.TheVariants as evident
use Rattle.mini_terms.specs.Kind.{Kind, IsObject, is_undefined_name, kind, OfKind}
use Rattle.mini_terms.specs.Const.{Agrees, made, of_operand, over_number, name_const, unary_const, binary_value, binary_const, decided as chosen_of, logical_const, conditional_const, cons_text, text_of, all_texts, template_const, nth_const, last_const, nth_texts, const, each_const, texts_in, each_texts}
use Rattle.mini_terms.specs.Evident.{Evidence, counts, is_text, is_nullish, has_units, number_of, made_text, shown, undefined_if, unary_evidence, over_numbers, is_order, numbers_evidence, sum_evidence, both_evidence, binary_evidence, decided, logical_evidence, conditional_evidence, units_in, units_of, either, units_between, text_if, nth_items, are_lists, template_evidence, nth_evidence, last_evidence, evidence, each_evidence, items_in, each_items, truth_by, evident_truth}
use Rattle.mini_terms.specs.Sound.{Gives}
use Rattle.mini_terms.specs.Texts.{is_sum, order_of}
use Rattle.mini_terms.specs.Values.{is_text_value}
use Rattle.mini_terms.proofs.Frame.{gives_map}
use Rattle.mini_terms.proofs.KindTable.{kind_sound}
use Rattle.mini_terms.proofs.ConstTable.{const_sound}
use Rattle.mini_terms.proofs.Mixed.{texts_added, numbers_added, of_two_numbers, numbers_ordered}

nothing : {A : Type 0} {a : A} {B : Type 0} → None ≡ Some a → B
nothing e = cc e

-- ---- values

record TextOf (b : Bool) (n : Option ℤ) (v : Value) : Type 0 where
  text : List ℕ
  is : v ≡ String text
  units : truth (String text) ≡ b
  number : (k : ℤ) → n ≡ Some k → Some k ≡ made (to_number (String text))

-- this is evident of a value
abbrev Shows : Evidence → Value → Type 0
Shows evident.Undefined v = v ≡ Undefined
Shows evident.Null v = v ≡ Null
Shows (evident.Boolean b) v = v ≡ Boolean b
Shows (evident.Number n) v = v ≡ Number n
Shows (evident.Text b n) v = TextOf b n v

-- and where anything is, of a constant
abbrev Follows : Option Evidence → Option Value → Type 0
Follows None c = Unit {0}
Follows (Some x) (Some v) = Shows x v
Follows (Some x) None = ⊥

written : (s : List ℕ) → TextOf (truth (String s)) (made (to_number (String s))) (String s)
written s = record { text = s; is = refl; units = refl; number = λ k e. sym e }

made_of : (s : List ℕ) (b : Bool) → truth (String s) ≡ b → TextOf b None (String s)
made_of s b e = record { text = s; is = refl; units = e; number = λ k h. nothing h }

counts_is : (x : Evidence) (v : Value) → Shows x v → truth v ≡ counts x
counts_is evident.Undefined v h = ap truth h
counts_is evident.Null v h = ap truth h
counts_is (evident.Boolean b) v h = ap truth h
counts_is (evident.Number n) v h = ap truth h
counts_is (evident.Text b n) v h = ap truth h.is ∙ h.units

nullish_is : (x : Evidence) (v : Value) → Shows x v → is_it_nullish v ≡ is_nullish x
nullish_is evident.Undefined v h = ap is_it_nullish h
nullish_is evident.Null v h = ap is_it_nullish h
nullish_is (evident.Boolean b) v h = ap is_it_nullish h
nullish_is (evident.Number n) v h = ap is_it_nullish h
nullish_is (evident.Text b n) v h = ap is_it_nullish h.is

text_is : (x : Evidence) (v : Value) → Shows x v → is_text_value v ≡ is_text x
text_is evident.Undefined v h = ap is_text_value h
text_is evident.Null v h = ap is_text_value h
text_is (evident.Boolean b) v h = ap is_text_value h
text_is (evident.Number n) v h = ap is_text_value h
text_is (evident.Text b n) v h = ap is_text_value h.is

boolean_number : (b : Bool) (k : ℤ) → number_of (evident.Boolean b) ≡ Some k → Some k ≡ made (to_number (Boolean b))
boolean_number true k e = sym e
boolean_number false k e = sym e

number_is : (x : Evidence) (v : Value) (k : ℤ) → Shows x v → number_of x ≡ Some k → Some k ≡ made (to_number v)
number_is evident.Undefined v k h e = nothing e
number_is evident.Null v k h e = sym e ∙ sym (ap (λ u. made (to_number u)) h)
number_is (evident.Boolean b) v k h e = boolean_number b k e ∙ sym (ap (λ u. made (to_number u)) h)
number_is (evident.Number n) v k h e = sym e ∙ sym (ap (λ u. made (to_number u)) h)
number_is (evident.Text b n) v k h e = h.number k e ∙ sym (ap (λ u. made (to_number u)) h.is)

-- ---- texts

-- the text of a number has units
picked : (b : Bool) (s t : List ℕ) → truth (String s) ≡ true → truth (String t) ≡ true → truth (String (if b then s else t)) ≡ true
picked true s t h k = h
picked false s t h k = k

digits_units : (k n : ℕ) (ds : List ℕ) → truth (String ds) ≡ true → truth (String (digits_onto k 10 false n ds)) ≡ true
digits_units zero n ds e = e
digits_units (suc k) n ds e = picked (n / 10 == 0) (digit_glyph false (n % 10) ∷ ds) (digits_onto k 10 false (n / 10) (digit_glyph false (n % 10) ∷ ds)) refl (digits_units k (n / 10) (digit_glyph false (n % 10) ∷ ds) refl)

decimal_units : (n : ℕ) → truth (String (decimal n)) ≡ true
unfolding digits
decimal_units n = picked (n / 10 == 0) (digit_glyph false (n % 10) ∷ []) (digits_onto 63 10 false (n / 10) (digit_glyph false (n % 10) ∷ [])) refl (digits_units 63 (n / 10) (digit_glyph false (n % 10) ∷ []) refl)

number_units : (n : ℤ) → truth (String (signed_decimal n)) ≡ true
number_units (pos n) = decimal_units n
number_units (negsuc n) = refl

boolean_units : (b : Bool) → truth (String (text_of_boolean b)) ≡ true
boolean_units true = refl
boolean_units false = refl

-- the text of a value
record Writes (b : Bool) (v : Value) : Type 0 where
  text : List ℕ
  is : makes text ≡ to_text v
  units : truth (String text) ≡ b

units_is : (x : Evidence) (v : Value) → Shows x v → Writes (has_units x) v
units_is evident.Undefined v h = record { text = _; is = sym (ap to_text h); units = refl }
units_is evident.Null v h = record { text = _; is = sym (ap to_text h); units = refl }
units_is (evident.Boolean b) v h = record { text = text_of_boolean b; is = sym (ap to_text h); units = boolean_units b }
units_is (evident.Number n) v h = record { text = signed_decimal n; is = sym (ap to_text h); units = number_units n }
units_is (evident.Text b n) v h = record { text = h.text; is = sym (ap to_text h.is); units = h.units }

joined_units : (s t : List ℕ) → truth (String (s ++ t)) ≡ truth (String s) || truth (String t)
joined_units [] t = refl
joined_units (u ∷ s) t = refl

-- ---- operators

value_shown : (x : Option Value) (c : Option Value) → ((v : Value) → x ≡ Some v → c ≡ Some v) → Follows (shown x) c
value_shown (Some (Number n)) c h = subst (Follows (Some (evident.Number n))) (sym (h (Number n) refl)) refl
value_shown (Some (Boolean b)) c h = subst (Follows (Some (evident.Boolean b))) (sym (h (Boolean b) refl)) refl
value_shown x c h = tt

checked : (b : Bool) (c : Option Value) (v : Value) → choose b c None ≡ Some v → c ≡ Some v
checked true c v e = e
checked false c v e = nothing e

-- what an operator over a number gives is its constant
of_operand_is : (o : UnaryOperator) (m : Made ℤ) (k : ℤ) → Some k ≡ made m → made (of_operand o m) ≡ made (of_number o k)
of_operand_is o (makes n) k e = let same : n ≡ k = cc e in ap (λ j. made (of_number o j)) same
of_operand_is o raises k e = nothing (sym e)
of_operand_is o outside k e = nothing (sym e)

of_one : (o : UnaryOperator) (x : Evidence) (u v : Value) (c : Option Value) → ((k : ℤ) → number_of x ≡ Some k → c ≡ made (of_number o k)) → over_number o (number_of x) ≡ Some v → c ≡ Some v
of_one o x u v c h e = go (number_of x) refl e
  where
    go : (m : Option ℤ) → number_of x ≡ m → over_number o m ≡ Some v → c ≡ Some v
    go (Some k) f e = h k f ∙ checked (is_safe k) (made (of_number o k)) v e
    go None f e = nothing e

one_shown : (o : UnaryOperator) (x : Evidence) (u : Value) → ((k : ℤ) → number_of x ≡ Some k → unary_const o (Some u) ≡ made (of_number o k)) → Follows (shown (over_number o (number_of x))) (unary_const o (Some u))
one_shown o x u h = value_shown (over_number o (number_of x)) (unary_const o (Some u)) (λ v e. of_one o x u v (unary_const o (Some u)) h e)

deleted : (m : Option ℤ) (v : Value) → over_number unary.Delete m ≡ Some v → None ≡ Some v
deleted (Some k) v e = checked (is_safe k) None v e
deleted None v e = e

type_units : (v : Value) → truth (String (type_text v)) ≡ true
type_units (Object n true) = refl
type_units (Object n false) = refl
type_units v = refl

unary_follows : (o : UnaryOperator) (c : Option Evidence) (d : Option Value) → Follows c d → Follows (unary_evidence o c) (unary_const o d)
unary_follows unary.Void c d h = refl
unary_follows unary.LogicalNot (Some x) (Some v) h = ap (λ b. Boolean (not b)) (counts_is x v h)
unary_follows unary.Typeof (Some x) (Some v) h = made_of (type_text v) true (type_units v)
unary_follows unary.UnaryPlus (Some x) (Some v) h = one_shown unary.UnaryPlus x v (λ k e. of_operand_is unary.UnaryPlus (to_number v) k (number_is x v k h e))
unary_follows unary.UnaryNegation (Some x) (Some v) h = one_shown unary.UnaryNegation x v (λ k e. of_operand_is unary.UnaryNegation (to_number v) k (number_is x v k h e))
unary_follows unary.BitwiseNot (Some x) (Some v) h = one_shown unary.BitwiseNot x v (λ k e. of_operand_is unary.BitwiseNot (to_number v) k (number_is x v k h e))
unary_follows unary.Delete (Some x) (Some v) h = value_shown (over_number unary.Delete (number_of x)) None (λ u e. nothing (deleted (number_of x) u e))
unary_follows o (Some x) None h = absurd h
unary_follows unary.LogicalNot None d h = tt
unary_follows unary.Typeof None d h = tt
unary_follows unary.UnaryPlus None d h = tt
unary_follows unary.UnaryNegation None d h = tt
unary_follows unary.BitwiseNot None d h = tt
unary_follows unary.Delete None d h = tt

-- two numbers

as_binary : (o : BinaryOperator) (u v w : Value) (i j : ℤ) → made (of_numbers o i j) ≡ made (of_primitives o u v) → made (of_numbers o i j) ≡ Some w → binary_value o u v ≡ Some w
as_binary binary.Equality u v w i j h e = nothing e
as_binary binary.Inequality u v w i j h e = nothing e
as_binary binary.StrictEquality u v w i j h e = nothing e
as_binary binary.StrictInequality u v w i j h e = nothing e
as_binary binary.In u v w i j h e = nothing e
as_binary binary.Instanceof u v w i j h e = nothing e
as_binary o u v w i j h e = sym h ∙ e

unordered_texts : (o : BinaryOperator) (s t : List ℕ) → is_order o && true ≡ false → None ≡ order_of o (String s) (String t)
unordered_texts binary.LessThan s t h = absurd (true≢false h)
unordered_texts binary.GreaterThan s t h = absurd (true≢false h)
unordered_texts binary.LessEqualThan s t h = absurd (true≢false h)
unordered_texts binary.GreaterEqualThan s t h = absurd (true≢false h)
unordered_texts o s t h = refl

unordered : (o : BinaryOperator) (u v : Value) → is_order o && (is_text_value u && is_text_value v) ≡ false → None ≡ order_of o u v
unordered o (String s) (String t) h = unordered_texts o s t h
unordered o u v h = refl

module _ (o : BinaryOperator) (x y : Evidence) (u v : Value) (h : Shows x u) (k : Shows y v) where
  numbers_shown : made (by_numbers o u v) ≡ made (of_primitives o u v) → Follows (shown (over_numbers o (number_of x) (number_of y))) (binary_value o u v)
  numbers_shown same = value_shown (over_numbers o (number_of x) (number_of y)) (binary_value o u v) (λ w e. go w (number_of x) (number_of y) refl refl e)
    where
      go : (w : Value) (m n : Option ℤ) → number_of x ≡ m → number_of y ≡ n → over_numbers o m n ≡ Some w → binary_value o u v ≡ Some w
      go w (Some i) (Some j) f g e = as_binary o u v w i j (of_two_numbers o u v i j (number_is x u i h f) (number_is y v j k g) ∙ same) e
      go w (Some i) None f g e = nothing e
      go w None n f g e = nothing e

  numbers_follow : is_sum o ≡ false → Follows (numbers_evidence o x y) (binary_value o u v)
  numbers_follow f = go (is_order o && (is_text x && is_text y)) refl
    where
      go : (b : Bool) → is_order o && (is_text x && is_text y) ≡ b → Follows (if b then None else shown (over_numbers o (number_of x) (number_of y))) (binary_value o u v)
      go true e = tt
      go false e = numbers_shown (numbers_ordered o u v f (unordered o u v (ap (λ b. is_order o && (b && is_text_value v)) (text_is x u h) ∙ ap (λ b. is_order o && (is_text x && b)) (text_is y v k) ∙ e)))

sum_follows : (x y : Evidence) (u v : Value) → Shows x u → Shows y v → Follows (sum_evidence x y) (binary_value binary.Addition u v)
sum_follows x y u v h k = go (is_text x || is_text y) refl
  where
    texts : is_text_value u || is_text_value v ≡ is_text x || is_text y
    texts = ap (λ b. b || is_text_value v) (text_is x u h) ∙ ap (λ b. is_text x || b) (text_is y v k)

    go : (b : Bool) → is_text x || is_text y ≡ b → Follows (if b then Some (made_text (has_units x || has_units y)) else numbers_evidence binary.Addition x y) (binary_value binary.Addition u v)
    go true e =
        let a : Writes (has_units x) u = units_is x u h in
        let b : Writes (has_units y) v = units_is y v k in
        subst (Follows (Some (made_text (has_units x || has_units y)))) (texts_added u v a.text b.text (texts ∙ e) a.is b.is)
        (made_of (a.text ++ b.text) (has_units x || has_units y) (joined_units a.text b.text ∙ ap (λ c. c || truth (String b.text)) a.units ∙ ap (λ c. has_units x || c) b.units))
    go false e = numbers_shown binary.Addition x y u v h k (numbers_added u v (texts ∙ e))

both_follow : (o : BinaryOperator) (x y : Evidence) (u v : Value) → Shows x u → Shows y v → Follows (both_evidence o x y) (binary_value o u v)
both_follow binary.Addition x y u v h k = sum_follows x y u v h k
both_follow o x y u v h k = numbers_follow o x y u v h k refl

binary_follows : (o : BinaryOperator) (c e : Option Evidence) (d f : Option Value) → Follows c d → Follows e f → Follows (binary_evidence o c e) (binary_const o d f)
binary_follows o (Some x) (Some y) (Some u) (Some v) h k = both_follow o x y u v h k
binary_follows o (Some x) (Some y) (Some u) None h k = absurd k
binary_follows o (Some x) (Some y) None f h k = absurd h
binary_follows o (Some x) None d f h k = tt
binary_follows o None e d f h k = tt

-- choices

picks : (b c : Bool) (x y : Evidence) (u v : Value) → b ≡ c → Shows x u → Shows y v → Shows (choose c x y) (choose b u v)
picks b c x y u v e h k = subst (λ d. Shows (choose d x y) (choose b u v)) e (go b)
  where
    go : (b : Bool) → Shows (choose b x y) (choose b u v)
    go true = h
    go false = k

decided_follows : (o : LogicalOperator) (x y : Evidence) (u v : Value) → Shows x u → Shows y v → Shows (decided o x y) (chosen_of o u v)
decided_follows And x y u v h k = picks (truth u) (counts x) y x v u (counts_is x u h) k h
decided_follows Or x y u v h k = picks (truth u) (counts x) x y u v (counts_is x u h) h k
decided_follows Coalesce x y u v h k = picks (is_it_nullish u) (is_nullish x) y x v u (nullish_is x u h) k h

logical_follows : (o : LogicalOperator) (c e : Option Evidence) (d f : Option Value) → Follows c d → Follows e f → Follows (logical_evidence o c e) (logical_const o d f)
logical_follows o (Some x) (Some y) (Some u) (Some v) h k = decided_follows o x y u v h k
logical_follows o (Some x) (Some y) (Some u) None h k = absurd k
logical_follows o (Some x) (Some y) None f h k = absurd h
logical_follows o (Some x) None d f h k = tt
logical_follows o None e d f h k = tt

conditional_follows : (a b c : Option Evidence) (d e f : Option Value) → Follows a d → Follows b e → Follows c f → Follows (conditional_evidence a b c) (conditional_const d e f)
conditional_follows (Some x) (Some y) (Some z) (Some u) (Some v) (Some w) h k l = picks (truth u) (counts x) y z v w (counts_is x u h) k l
conditional_follows (Some x) (Some y) (Some z) (Some u) (Some v) None h k l = absurd l
conditional_follows (Some x) (Some y) (Some z) (Some u) None f h k l = absurd k
conditional_follows (Some x) (Some y) (Some z) None e f h k l = absurd h
conditional_follows (Some x) (Some y) None d e f h k l = tt
conditional_follows (Some x) None c d e f h k l = tt
conditional_follows None b c d e f h k l = tt

-- ---- templates

abbrev Each : List (Option Evidence) → List (Option Value) → Type 0
Each [] [] = Unit {0}
Each (c ∷ cs) (d ∷ ds) = Follows c d × Each cs ds
Each cs ds = ⊥

-- a piece cooks to a text
record Cooks (b : Bool) (q : Tree) : Type 0 where
  text : List ℕ
  is : (qs : Trees) → texts_all (facts (q ▸ qs)) ≡ text ∷ texts_all (facts qs)
  units : truth (String text) ≡ b

cooks : (q : Tree) (b : Bool) → units_in (shape_of q) ≡ Some b → Cooks b q
cooks (node (shape.TemplateElement is_tail raw (Some cooked)) xs n ts) b e = record { text = cooked; is = λ qs. refl; units = cc e }
cooks (node (shape.TemplateElement is_tail raw None) xs n ts) b e = nothing e
cooks q b e = nothing e

-- a part has a text
record Says (b : Bool) (d : Option Value) : Type 0 where
  text : List ℕ
  is : text_of d ≡ Some text
  units : truth (String text) ≡ b

says : (c : Option Evidence) (d : Option Value) (b : Bool) → Follows c d → units_of c ≡ Some b → Says b d
says (Some x) (Some v) b h e = let w : Writes (has_units x) v = units_is x v h in record { text = w.text; is = sym (ap made w.is); units = w.units ∙ cc e }
says (Some x) None b h e = absurd h
says None d b h e = nothing e

-- pieces with parts between them
record Reads (texts : List (List ℕ)) (ds : List (Option Value)) (b : Bool) : Type 0 where
  parts : List (List ℕ)
  known : all_texts ds ≡ Some parts
  units : truth (String (interleaved texts parts)) ≡ b

last_reads : (q : Tree) (more : List (List ℕ)) (b : Bool) → Cooks b q → Reads (texts_all (facts (q ▸ none)) ++ more) [] b
last_reads q more b h = record { parts = []; known = refl; units = ap (λ ss. truth (String (interleaved (ss ++ more) []))) (h.is none) ∙ h.units }

next_reads : (q : Tree) (qs : Trees) (d : Option Value) (ds : List (Option Value)) (more : List (List ℕ)) (i j k : Bool) → Cooks i q → Says j d → Reads (texts_all (facts qs) ++ more) ds k → Reads (texts_all (facts (q ▸ qs)) ++ more) (d ∷ ds) (i || (j || k))
next_reads q qs d ds more i j k h l m =
    let rest : List (List ℕ) = texts_all (facts qs) ++ more in
    record {
      parts = l.text ∷ m.parts;
      known = ap (λ o. cons_text o (all_texts ds)) l.is ∙ ap (cons_text (Some l.text)) m.known;
      units =
          ap (λ ss. truth (String (interleaved (ss ++ more) (l.text ∷ m.parts)))) (h.is qs)
          ∙ joined_units h.text (l.text ++ interleaved rest m.parts)
          ∙ ap (λ b. truth (String h.text) || b) (joined_units l.text (interleaved rest m.parts))
          ∙ ap (λ b. b || (truth (String l.text) || truth (String (interleaved rest m.parts)))) h.units
          ∙ ap (λ b. i || (b || truth (String (interleaved rest m.parts)))) l.units
          ∙ ap (λ b. i || (j || b)) m.units;
    }

joined_reads : (q : Tree) (qs : Trees) (c : Option Evidence) (d : Option Value) (ds : List (Option Value)) (more : List (List ℕ)) (b : Bool) → Follows c d → (r : Option Bool) → ((k : Bool) → r ≡ Some k → Reads (texts_all (facts qs) ++ more) ds k) → either (units_in (shape_of q)) (either (units_of c) r) ≡ Some b → Reads (texts_all (facts (q ▸ qs)) ++ more) (d ∷ ds) b
joined_reads q qs c d ds more b h r l e = go (units_in (shape_of q)) (units_of c) r refl refl refl e
  where
    go : (i j k : Option Bool) → units_in (shape_of q) ≡ i → units_of c ≡ j → r ≡ k → either i (either j k) ≡ Some b → Reads (texts_all (facts (q ▸ qs)) ++ more) (d ∷ ds) b
    go (Some i) (Some j) (Some k) f g m e =
        let same : i || (j || k) ≡ b = cc e in
        subst (Reads (texts_all (facts (q ▸ qs)) ++ more) (d ∷ ds)) same (next_reads q qs d ds more i j k (cooks q i f) (says c d j h g) (l k m))
    go (Some i) (Some j) None f g m e = nothing e
    go (Some i) None k f g m e = nothing e
    go None j k f g m e = nothing e

reads : (qs : Trees) (cs : List (Option Evidence)) (ds : List (Option Value)) (more : List (List ℕ)) (b : Bool) → Each cs ds → units_between qs cs ≡ Some b → Reads (texts_all (facts qs) ++ more) ds b
reads none cs ds more b h e = nothing e
reads (q ▸ none) [] [] more b h e = last_reads q more b (cooks q b e)
reads (q ▸ (r ▸ qs)) [] [] more b h e = nothing e
reads (q ▸ qs) (c ∷ cs) (d ∷ ds) more b h e = joined_reads q qs c d ds more b h.0 (units_between qs cs) (λ k l. reads qs cs ds more k h.1 l) e
reads (q ▸ qs) [] (d ∷ ds) more b h e = absurd h
reads (q ▸ qs) (c ∷ cs) [] more b h e = absurd h

-- the lists of a template

listed_texts : (t : Tree) (ts : Trees) → is_listed t ≡ true → texts_all (facts (t ▸ ts)) ≡ texts_all (facts (children t)) ++ texts_all (facts ts)
listed_texts (node shape.Listed xs n us) ts e = refl
listed_texts t ts e = absurd (true≢false (sym e))

listed_parts : (t : Tree) → is_listed t ≡ true → texts_in t ≡ all_texts (each_const (children t))
listed_parts (node shape.Listed xs n us) e = refl
listed_parts t e = absurd (true≢false (sym e))

module _ (a b : Tree) (ts : Trees) (first : is_listed a ≡ true) (second : is_listed b ≡ true) (parts : Each (items_in b) (each_const (children b))) where
  abbrev its_texts : List (List ℕ)
  its_texts = texts_all (facts (a ▸ (b ▸ ts)))

  pieces_follow : (o : Option Bool) → units_between (children a) (items_in b) ≡ o → Follows (text_if o) (template_const its_texts (texts_in b))
  pieces_follow None e = tt
  pieces_follow (Some c) e =
      let r : Reads (texts_all (facts (children a)) ++ texts_all (facts (b ▸ ts))) (each_const (children b)) c = reads (children a) (items_in b) (each_const (children b)) (texts_all (facts (b ▸ ts))) c parts e in
      subst (λ o. Follows (Some (made_text c)) (template_const its_texts o)) (sym (listed_parts b second ∙ r.known))
      (made_of (interleaved its_texts r.parts) c (ap (λ ss. truth (String (interleaved ss r.parts))) (listed_texts a (b ▸ ts) first) ∙ r.units))

lists_follow : (ts : Trees) → is_listed (child_or_absent ts 0) ≡ true → is_listed (child_or_absent ts 1) ≡ true → Each (nth_items (each_items ts) 1) (each_const (children (child_or_absent ts 1))) → Follows (text_if (units_between (children (child_or_absent ts 0)) (nth_items (each_items ts) 1))) (template_const (texts_all (facts ts)) (nth_texts (each_texts ts) 1))
lists_follow none e f h = absurd (true≢false (sym e))
lists_follow (a ▸ none) e f h = absurd (true≢false (sym f))
lists_follow (a ▸ (b ▸ ts)) e f h = pieces_follow a b ts e f h (units_between (children a) (items_in b)) refl

template_follows : (ts : Trees) → Each (nth_items (each_items ts) 1) (each_const (children (child_or_absent ts 1))) → Follows (template_evidence ts (each_items ts)) (template_const (texts_all (facts ts)) (nth_texts (each_texts ts) 1))
template_follows ts h = go (are_lists ts) refl
  where
    go : (b : Bool) → are_lists ts ≡ b → Follows (if b then text_if (units_between (children (child_or_absent ts 0)) (nth_items (each_items ts) 1)) else None) (template_const (texts_all (facts ts)) (nth_texts (each_texts ts) 1))
    go true e =
        let (two, lists) = and_parts (nat_eq (count ts) 2) (is_listed (child_or_absent ts 0) && is_listed (child_or_absent ts 1)) e in
        let (first, second) = and_parts (is_listed (child_or_absent ts 0)) (is_listed (child_or_absent ts 1)) lists in
        lists_follow ts first second h
    go false e = tt

-- ---- all

name_follows : (k : NameKind) → Follows (undefined_if (is_undefined_name k)) (name_const k)
name_follows UndefinedName = refl
name_follows PlainName = tt
name_follows EvalName = tt
name_follows NumberName = tt

mutual
  follows : (t : Tree) → Follows (evidence t) (const t)
  follows (node shape.Listed xs n ts) = last_follows ts
  follows (node shape.Identifier xs n ts) = name_follows (first_kind (kinds xs))
  follows (node (shape.NumericLiteral m) xs n ts) = refl
  follows (node (shape.StringLiteral s) xs n ts) = written s
  follows (node (shape.BooleanLiteral b) xs n ts) = refl
  follows (node shape.NullLiteral xs n ts) = refl
  follows (node (shape.UnaryExpression o) xs n ts) = unary_follows o (nth_evidence (each_evidence ts) 0) (nth_const (each_const ts) 0) (follows_at ts 0)
  follows (node (shape.BinaryExpression o) xs n ts) = binary_follows o (nth_evidence (each_evidence ts) 0) (nth_evidence (each_evidence ts) 1) (nth_const (each_const ts) 0) (nth_const (each_const ts) 1) (follows_at ts 0) (follows_at ts 1)
  follows (node (shape.LogicalExpression o) xs n ts) = logical_follows o (nth_evidence (each_evidence ts) 0) (nth_evidence (each_evidence ts) 1) (nth_const (each_const ts) 0) (nth_const (each_const ts) 1) (follows_at ts 0) (follows_at ts 1)
  follows (node shape.ConditionalExpression xs n ts) = conditional_follows (nth_evidence (each_evidence ts) 0) (nth_evidence (each_evidence ts) 1) (nth_evidence (each_evidence ts) 2) (nth_const (each_const ts) 0) (nth_const (each_const ts) 1) (nth_const (each_const ts) 2) (follows_at ts 0) (follows_at ts 1) (follows_at ts 2)
  follows (node shape.SequenceExpression xs n ts) = follows_at ts 0
  follows (node shape.TemplateLiteral xs n ts) = template_follows ts (second_follows ts)
  follows (node h xs n ts) = tt

  follows_at : (ts : Trees) (i : ℕ) → Follows (nth_evidence (each_evidence ts) i) (nth_const (each_const ts) i)
  follows_at none i = tt
  follows_at (t ▸ ts) zero = follows t
  follows_at (t ▸ ts) (suc i) = follows_at ts i

  last_follows : (ts : Trees) → Follows (last_evidence (each_evidence ts)) (last_const (each_const ts))
  last_follows none = tt
  last_follows (t ▸ none) = follows t
  last_follows (t ▸ (u ▸ us)) = last_follows (u ▸ us)

  each_follows : (ts : Trees) → Each (each_evidence ts) (each_const ts)
  each_follows none = tt
  each_follows (t ▸ ts) = (follows t, each_follows ts)

  items_follow : (t : Tree) → Each (items_in t) (each_const (children t))
  items_follow (node h xs n ts) = each_follows ts

  second_follows : (ts : Trees) → Each (nth_items (each_items ts) 1) (each_const (children (child_or_absent ts 1)))
  second_follows none = tt
  second_follows (a ▸ none) = tt
  second_follows (a ▸ (b ▸ ts)) = items_follow b

-- an object counts as true
object_is_true : (k : Kind) (b : Bool) (v : Value) → truth_by None k ≡ Some b → OfKind k v → truth v ≡ b
object_is_true IsObject b (Object n f) h p = cc h
object_is_true IsObject b v h p = absurd p
object_is_true k b v h p = absurd (cc h)

of_constant : (x : Evidence) (c : Option Value) (v : Value) → Follows (Some x) c → Agrees c v → truth v ≡ counts x
of_constant x (Some w) v h p = ap truth p ∙ counts_is x w h
of_constant x None v h p = absurd h

pub evident_is : (a : Tree) (b : Bool) → evident_truth a ≡ Some b → (e : Environment) (s : State) → Gives (λ v. truth v ≡ b) (means e a (As Val) tt s)
evident_is a b h e s = go (evidence a) refl h
  where
    go : (o : Option Evidence) → evidence a ≡ o → truth_by o (kind a) ≡ Some b → Gives (λ v. truth v ≡ b) (means e a (As Val) tt s)
    go (Some x) k h = let same : counts x ≡ b = cc h in gives_map (Agrees (const a)) (λ v. truth v ≡ b) (λ v p. of_constant x (const a) v (subst (λ c. Follows c (const a)) k (follows a)) p ∙ same) (means e a (As Val) tt s) (const_sound a e s)
    go None k h = gives_map (OfKind (kind a)) (λ v. truth v ≡ b) (λ v p. object_is_true (kind a) b v h p) (means e a (As Val) tt s) (kind_sound a e s)
