-- What is written for a name that is an object and not null is what a row says, and where nothing is no row reads it.
use Rattle.std.proofs.Common.{◌≡◌, Bool, true, false, List, ℕ, Option, Some, None, refl, sym, ap, subst, ◌∙◌}
use Rattle.std.specs.Prelude.{◌&&◌, not, is_none, is_some, codes, if◌then◌else◌}
use Rattle.std.proofs.lemmas.Bool.{and_parts, false≢true}
use Rattle.mini_model.specs.declared.name.Name.{Name}
use Rattle.mini_model.specs.declared.operator.BinaryOperator.{BinaryOperator}
use Rattle.mini_model.specs.declared.operator.BinaryOperator.TheVariants.{Equality, Inequality, StrictEquality, StrictInequality}
use Rattle.mini_model.specs.declared.operator.LogicalOperator.{LogicalOperator}
use Rattle.mini_model.specs.declared.operator.LogicalOperator.TheVariants.{Or, And}
use Rattle.mini_model.specs.declared.operator.UnaryOperator.{UnaryOperator}
use Rattle.mini_model.specs.declared.operator.UnaryOperator.TheVariants.{Typeof}
use Rattle.mini_model.specs.Tree.{Tree, identifier, unary, logical, null_literal}
use Rattle.mini_node.specs.Children.{part}
use Rattle.mini_node.specs.Kinds.{binary, binary_operator, unary_operator, logical_operator, string, string_literal, is_logical, is_null}
use Rattle.mini_node.specs.Made.{binary_is, unary_is, logical_is, string_is, null_is}
use Rattle.mini_node.specs.Equal.{same_tree}
use Rattle.mini_node.proofs.Equality.{tree_itself}
use Rattle.mini_rows.specs.Spellings.{text}
use Rattle.mini_rows.specs.Choices.{loosely, joining, asks_object, null_compared, held, ended, Row57, Row57Null}
use Rattle.mini_choices.specs.Assigning.{is_same_name, is_declared}
use Rattle.mini_choices.specs.MinimizeObjectTest as object_test
use Rattle.mini_choices.proofs.Names.{one_name}
use Rattle.mini_choices.proofs.Spines.{logical_kind_is}
use Rattle.mini_choices.proofs.Trials.{some_is, not_true, both_true, first_true, later_true}
use Rattle.mini_choices.proofs.FormsAre.{same_texts}

says_is : (n : Tree) (there : Bool) → object_test.says_in (logical_operator n) ≡ Some there → n ≡ logical (joining (not there)) (part n 0) (part n 1)
says_is n there e = go there (logical_operator n) refl e
  where
    go : (there : Bool) (o : Option LogicalOperator) → logical_operator n ≡ o → object_test.says_in o ≡ Some there → n ≡ logical (joining (not there)) (part n 0) (part n 1)
    go true (Some And) h e = logical_is n And h
    go false (Some Or) h e = logical_is n Or h
    go there o h e = absurd (cc e)

loose_is : (equal : Bool) (t : Tree) → object_test.is_loose_in (binary_operator t) equal ≡ true → t ≡ binary (loosely equal) (part t 0) (part t 1)
loose_is equal t e = go equal (binary_operator t) refl e
  where
    go : (equal : Bool) (o : Option BinaryOperator) → binary_operator t ≡ o → object_test.is_loose_in o equal ≡ true → t ≡ binary (loosely equal) (part t 0) (part t 1)
    go true (Some Equality) h e = binary_is t Equality h
    go false (Some Inequality) h e = binary_is t Inequality h
    go true o h e = absurd (false≢true e)
    go false o h e = absurd (false≢true e)

typeof_is : (t : Tree) → object_test.is_typeof_in (unary_operator t) ≡ true → t ≡ unary Typeof (part t 0)
typeof_is t e = go (unary_operator t) refl e
  where
    go : (o : Option UnaryOperator) → unary_operator t ≡ o → object_test.is_typeof_in o ≡ true → t ≡ unary Typeof (part t 0)
    go (Some Typeof) h e = unary_is t Typeof h
    go o h e = absurd (false≢true e)

object_is : (t : Tree) → object_test.says_object_in (string t) ≡ true → t ≡ text (codes "object")
object_is t e = go (string t) refl e
  where
    go : (o : Option (List ℕ)) → string t ≡ o → object_test.says_object_in o ≡ true → t ≡ text (codes "object")
    go (Some s) h e = string_is t s h ∙ ap string_literal (same_texts s (codes "object") e)
    go None h e = absurd (false≢true e)

asked_is : (there : Bool) (t : Tree) (x : Name) → object_test.asks there t ≡ true → part (part t 0) 0 ≡ identifier x → t ≡ asks_object there x
asked_is there t x e named =
    let (loose, rest) = and_parts (object_test.is_loose_in (binary_operator t) there) (object_test.is_typeof_in (unary_operator (part t 0)) && object_test.says_object_in (string (part t 1))) e in
    let (over, says) = and_parts (object_test.is_typeof_in (unary_operator (part t 0))) (object_test.says_object_in (string (part t 1))) rest in
    loose_is there t loose ∙ (λ i. binary (loosely there) ((typeof_is (part t 0) over ∙ ap (unary Typeof) named) i) (object_is (part t 1) says i))

-- a comparison of a name with null, strict or not
record BesideNull (equal : Bool) (t : Tree) (x : Name) : Type 0 where
  strict : Bool
  is : t ≡ null_compared strict equal x

beside_null : (equal : Bool) (t : Tree) (x : Name) → object_test.compares equal t ≡ true → part t 0 ≡ identifier x → BesideNull equal t x
beside_null equal t x e named = let (equals, null) = and_parts (object_test.is_equal_in (binary_operator t) equal) (is_null (part t 1)) e in go null equal (binary_operator t) refl equals
  where
    made : is_null (part t 1) ≡ true → (o : BinaryOperator) → binary_operator t ≡ Some o → t ≡ binary o (identifier x) null_literal
    made null o h = binary_is t o h ∙ (λ i. binary o (named i) (null_is (part t 1) null i))

    go : is_null (part t 1) ≡ true → (equal : Bool) (o : Option BinaryOperator) → binary_operator t ≡ o → object_test.is_equal_in o equal ≡ true → BesideNull equal t x
    go null true (Some StrictEquality) h e = record { strict = true; is = made null StrictEquality h }
    go null true (Some Equality) h e = record { strict = false; is = made null Equality h }
    go null false (Some StrictInequality) h e = record { strict = true; is = made null StrictInequality h }
    go null false (Some Inequality) h e = record { strict = false; is = made null Inequality h }
    go null true o h e = absurd (false≢true e)
    go null false o h e = absurd (false≢true e)

negated_is : (there : Bool) (x : Name) → object_test.negated there (identifier x) ≡ held there x
negated_is true x = refl
negated_is false x = refl

-- both are of one name
record Both (there : Bool) (a b : Tree) : Type 0 where
  name : Name
  strict : Bool
  declared : is_none name.symbol ≡ false
  asked : a ≡ asks_object there name
  compared : b ≡ null_compared strict (not there) name
  negated : object_test.held there b ≡ held there name

both_are : (there : Bool) (a b : Tree) → object_test.are_both there a b ≡ true → Both there a b
both_are there a b e =
    let (asks, rest) = and_parts (object_test.asks there a) (object_test.compares (not there) b && (is_same_name (part (part a 0) 0) (part b 0) && is_declared (part b 0))) e in
    let (compares, named) = and_parts (object_test.compares (not there) b) (is_same_name (part (part a 0) 0) (part b 0) && is_declared (part b 0)) rest in
    let (same, declared) = and_parts (is_same_name (part (part a 0) 0) (part b 0)) (is_declared (part b 0)) named in
    let one = one_name (part (part a 0) 0) (part b 0) same in
    let null = beside_null (not there) b one.name compares one.second in
    record {
      name = one.name;
      strict = null.strict;
      declared = not_true (is_none one.name.symbol) (sym (ap is_declared one.second) ∙ declared);
      asked = asked_is there a one.name asks one.first;
      compared = null.is;
      negated = ap (object_test.negated there) one.second ∙ negated_is there one.name;
    }

-- what stands right before the second operand
record Ended (there : Bool) (t : Tree) : Type 0 where
  before : Option Tree
  is : t ≡ ended (joining (not there)) before (object_test.last_of (joining (not there)) t)
  negated : object_test.last_held there t ≡ ended (joining (not there)) before (object_test.held there (object_test.last_of (joining (not there)) t))

ended_is : (there : Bool) (t : Tree) → Ended there t
ended_is there t = go (is_logical (joining (not there)) t) refl
  where
    go : (b : Bool) → is_logical (joining (not there)) t ≡ b → Ended there t
    go true h =
        let o = joining (not there) in
        let last : object_test.last_of o t ≡ part t 1 = ap (λ b. if b then part t 1 else t) h in
        record {
          before = Some (part t 0);
          is = logical_kind_is o t h ∙ ap (logical o (part t 0)) (sym last);
          negated = ap (λ b. if b then logical o (part t 0) (object_test.held there (part t 1)) else object_test.held there t) h ∙ ap (λ u. logical o (part t 0) (object_test.held there u)) (sym last);
        }
    go false h =
        let o = joining (not there) in
        let last : object_test.last_of o t ≡ t = ap (λ b. if b then part t 1 else t) h in
        record {
          before = None;
          is = sym last;
          negated = ap (λ b. if b then logical o (part t 0) (object_test.held there (part t 1)) else object_test.held there t) h ∙ ap (object_test.held there) (sym last);
        }

-- ---- what is written is what a row says

second_row : (n : Tree) (there : Bool) → object_test.says_in (logical_operator n) ≡ Some there → object_test.are_both there (object_test.last_of (joining (not there)) (part n 0)) (part n 1) ≡ true → Row57 n (object_test.second_held there n)
second_row n there h e =
    let o = joining (not there) in
    let left = ended_is there (part n 0) in
    let both = both_are there (object_test.last_of o (part n 0)) (part n 1) e in
    let first : part n 0 ≡ ended o left.before (asks_object there both.name) = left.is ∙ ap (ended o left.before) both.asked in
    record {
      there = there;
      strict = both.strict;
      before = left.before;
      name = both.name;
      declared = both.declared;
      shape = says_is n there h ∙ (λ i. logical o (first i) (both.compared i));
      written = λ i. logical o (first i) (both.negated i);
    }

first_row : (n : Tree) (there : Bool) → object_test.says_in (logical_operator n) ≡ Some there → object_test.are_both there (part n 1) (object_test.last_of (joining (not there)) (part n 0)) ≡ true → Row57Null n (object_test.first_held there n)
first_row n there h e =
    let o = joining (not there) in
    let left = ended_is there (part n 0) in
    let both = both_are there (part n 1) (object_test.last_of o (part n 0)) e in
    record {
      there = there;
      strict = both.strict;
      before = left.before;
      name = both.name;
      declared = both.declared;
      shape = says_is n there h ∙ (λ i. logical o ((left.is ∙ ap (ended o left.before) both.compared) i) (both.asked i));
      written = λ i. logical o ((left.negated ∙ ap (ended o left.before) both.negated) i) (both.asked i);
    }

module _ (R : Tree → Tree → Type 0) (after : (n w : Tree) → Row57 n w → R n w) (before : (n w : Tree) → Row57Null n w → R n w) (n w : Tree) where
  pub object_row : object_test.written n ≡ Some w → R n w
  object_row e = go (object_test.says_in (logical_operator n)) refl e
    where
      second : (there : Bool) → object_test.says_in (logical_operator n) ≡ Some there → (b : Bool) → object_test.are_both there (part n 1) (object_test.last_of (joining (not there)) (part n 0)) ≡ b → (if b then Some (object_test.first_held there n) else None) ≡ Some w → R n w
      second there h true k e = subst (R n) (some_is (object_test.first_held there n) w e) (before n (object_test.first_held there n) (first_row n there h k))
      second there h false k e = absurd (cc e)

      first : (there : Bool) → object_test.says_in (logical_operator n) ≡ Some there → (b : Bool) → object_test.are_both there (object_test.last_of (joining (not there)) (part n 0)) (part n 1) ≡ b → (if b then Some (object_test.second_held there n) else object_test.first_written there n) ≡ Some w → R n w
      first there h true k e = subst (R n) (some_is (object_test.second_held there n) w e) (after n (object_test.second_held there n) (second_row n there h k))
      first there h false k e = second there h (object_test.are_both there (part n 1) (object_test.last_of (joining (not there)) (part n 0))) refl e

      go : (o : Option Bool) → object_test.says_in (logical_operator n) ≡ o → object_test.written_by o n ≡ Some w → R n w
      go (Some there) h e = first there h (object_test.are_both there (object_test.last_of (joining (not there)) (part n 0)) (part n 1)) refl e
      go None h e = absurd (cc e)

-- ---- and what a row reads is written

declared_passes : (x : Name) → is_none x.symbol ≡ false → same_tree (identifier x) (identifier x) && is_declared (identifier x) ≡ true
declared_passes x d = both_true (same_tree (identifier x) (identifier x)) (is_declared (identifier x)) (tree_itself (identifier x)) (ap not d)

second_there : (there : Bool) (t : Tree) → object_test.says_in (logical_operator t) ≡ Some there → object_test.are_both there (object_test.last_of (joining (not there)) (part t 0)) (part t 1) ≡ true → is_some (object_test.written t) ≡ true
second_there there t h e = ap (λ o. is_some (object_test.written_by o t)) h ∙ first_true (object_test.are_both there (object_test.last_of (joining (not there)) (part t 0)) (part t 1)) (object_test.second_held there t) (object_test.first_written there t) e

first_there : (there : Bool) (t : Tree) → object_test.says_in (logical_operator t) ≡ Some there → object_test.are_both there (part t 1) (object_test.last_of (joining (not there)) (part t 0)) ≡ true → is_some (object_test.written t) ≡ true
first_there there t h e =
    ap (λ o. is_some (object_test.written_by o t)) h
    ∙ later_true (object_test.are_both there (object_test.last_of (joining (not there)) (part t 0)) (part t 1)) (object_test.second_held there t) (object_test.first_written there t) (first_true (object_test.are_both there (part t 1) (object_test.last_of (joining (not there)) (part t 0))) (object_test.first_held there t) None e)

pub object_passes : (there strict : Bool) (before : Option Tree) (x : Name) → is_none x.symbol ≡ false → is_some (object_test.written (logical (joining (not there)) (ended (joining (not there)) before (asks_object there x)) (null_compared strict (not there) x))) ≡ true
object_passes true true None x d = second_there true (logical And (ended And None (asks_object true x)) (null_compared true false x)) refl (declared_passes x d)
object_passes true true (Some b) x d = second_there true (logical And (ended And (Some b) (asks_object true x)) (null_compared true false x)) refl (declared_passes x d)
object_passes true false None x d = second_there true (logical And (ended And None (asks_object true x)) (null_compared false false x)) refl (declared_passes x d)
object_passes true false (Some b) x d = second_there true (logical And (ended And (Some b) (asks_object true x)) (null_compared false false x)) refl (declared_passes x d)
object_passes false true None x d = second_there false (logical Or (ended Or None (asks_object false x)) (null_compared true true x)) refl (declared_passes x d)
object_passes false true (Some b) x d = second_there false (logical Or (ended Or (Some b) (asks_object false x)) (null_compared true true x)) refl (declared_passes x d)
object_passes false false None x d = second_there false (logical Or (ended Or None (asks_object false x)) (null_compared false true x)) refl (declared_passes x d)
object_passes false false (Some b) x d = second_there false (logical Or (ended Or (Some b) (asks_object false x)) (null_compared false true x)) refl (declared_passes x d)

pub before_passes : (there strict : Bool) (before : Option Tree) (x : Name) → is_none x.symbol ≡ false → is_some (object_test.written (logical (joining (not there)) (ended (joining (not there)) before (null_compared strict (not there) x)) (asks_object there x))) ≡ true
before_passes true true None x d = first_there true (logical And (ended And None (null_compared true false x)) (asks_object true x)) refl (declared_passes x d)
before_passes true true (Some b) x d = first_there true (logical And (ended And (Some b) (null_compared true false x)) (asks_object true x)) refl (declared_passes x d)
before_passes true false None x d = first_there true (logical And (ended And None (null_compared false false x)) (asks_object true x)) refl (declared_passes x d)
before_passes true false (Some b) x d = first_there true (logical And (ended And (Some b) (null_compared false false x)) (asks_object true x)) refl (declared_passes x d)
before_passes false true None x d = first_there false (logical Or (ended Or None (null_compared true true x)) (asks_object false x)) refl (declared_passes x d)
before_passes false true (Some b) x d = first_there false (logical Or (ended Or (Some b) (null_compared true true x)) (asks_object false x)) refl (declared_passes x d)
before_passes false false None x d = first_there false (logical Or (ended Or None (null_compared false true x)) (asks_object false x)) refl (declared_passes x d)
before_passes false false (Some b) x d = first_there false (logical Or (ended Or (Some b) (null_compared false true x)) (asks_object false x)) refl (declared_passes x d)
