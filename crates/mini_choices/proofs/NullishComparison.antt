-- What is written for two strict comparisons is what a row says, and where nothing is no row reads them.
use Rattle.std.proofs.Common.{◌≡◌, Bool, true, false, Option, Some, None, refl, ap, subst, ◌∙◌}
use Rattle.std.specs.Prelude.{◌&&◌, is_some, if◌then◌else◌}
use Rattle.std.proofs.lemmas.Bool.{and_parts, false≢true}
use Rattle.mini_model.specs.declared.name.Name.{Name}
use Rattle.mini_model.specs.declared.operator.BinaryOperator.{BinaryOperator}
use Rattle.mini_model.specs.declared.operator.BinaryOperator.TheVariants.{StrictEquality, StrictInequality}
use Rattle.mini_model.specs.declared.operator.LogicalOperator.{LogicalOperator}
use Rattle.mini_model.specs.declared.operator.LogicalOperator.TheVariants.{Or, And}
use Rattle.mini_model.specs.Tree.{Tree, identifier, logical, null_literal}
use Rattle.mini_node.specs.Children.{part}
use Rattle.mini_node.specs.Equal.{same_tree}
use Rattle.mini_node.specs.Kinds.{binary, binary_operator, logical_operator, is_logical}
use Rattle.mini_node.specs.Made.{binary_is, logical_is}
use Rattle.mini_node.proofs.Equality.{tree_itself}
use Rattle.mini_rows.specs.Choices.{strictly, loosely, joining, AreNullish, Row37, Row37After}
use Rattle.mini_choices.specs.Assigning.{is_same_name}
use Rattle.mini_choices.specs.Forms.{are_nullish}
use Rattle.mini_choices.specs.MinimizeNullishComparison as nullish
use Rattle.mini_choices.proofs.Names.{one_name}
use Rattle.mini_choices.proofs.Spines.{logical_kind_is}
use Rattle.mini_choices.proofs.Trials.{some_is, both_true, first_true}
use Rattle.mini_choices.proofs.FormsAre.{nullish_is, nullish_passes}

pub strict_is : (equal : Bool) (t : Tree) → nullish.is_strict equal t ≡ true → t ≡ binary (strictly equal) (part t 0) (part t 1)
strict_is equal t e = go equal (binary_operator t) refl e
  where
    go : (equal : Bool) (o : Option BinaryOperator) → binary_operator t ≡ o → nullish.is_strict_in o equal ≡ true → t ≡ binary (strictly equal) (part t 0) (part t 1)
    go true (Some StrictEquality) h e = binary_is t StrictEquality h
    go false (Some StrictInequality) h e = binary_is t StrictInequality h
    go true o h e = absurd (false≢true e)
    go false o h e = absurd (false≢true e)

pub joins_is : (n : Tree) (equal : Bool) → nullish.joins_in (logical_operator n) ≡ Some equal → n ≡ logical (joining equal) (part n 0) (part n 1)
joins_is n equal e = go equal (logical_operator n) refl e
  where
    go : (equal : Bool) (o : Option LogicalOperator) → logical_operator n ≡ o → nullish.joins_in o ≡ Some equal → n ≡ logical (joining equal) (part n 0) (part n 1)
    go true (Some Or) h e = logical_is n Or h
    go false (Some And) h e = logical_is n And h
    go equal o h e = absurd (cc e)

-- two comparisons of one name
record Compared (equal : Bool) (a b : Tree) : Type 0 where
  name : Name
  first : part a 0 ≡ identifier name
  second : part b 0 ≡ identifier name
  one : a ≡ binary (strictly equal) (identifier name) (part a 1)
  other : b ≡ binary (strictly equal) (identifier name) (part b 1)
  nullish_both : AreNullish (part a 1) (part b 1)

compared : (equal : Bool) (a b : Tree) → nullish.compares equal a b ≡ true → Compared equal a b
compared equal a b e =
    let (one, rest) = and_parts (nullish.is_strict equal a) (nullish.is_strict equal b && (is_same_name (part a 0) (part b 0) && are_nullish (part a 1) (part b 1))) e in
    let (other, names) = and_parts (nullish.is_strict equal b) (is_same_name (part a 0) (part b 0) && are_nullish (part a 1) (part b 1)) rest in
    let (same, null) = and_parts (is_same_name (part a 0) (part b 0)) (are_nullish (part a 1) (part b 1)) names in
    let name = one_name (part a 0) (part b 0) same in
    record {
      name = name.name;
      first = name.first;
      second = name.second;
      one = strict_is equal a one ∙ ap (λ x. binary (strictly equal) x (part a 1)) name.first;
      other = strict_is equal b other ∙ ap (λ x. binary (strictly equal) x (part b 1)) name.second;
      nullish_both = nullish_is (part a 1) (part b 1) null;
    }

-- ---- what is written is what a row says

alone_row : (n : Tree) (equal : Bool) → nullish.joins_in (logical_operator n) ≡ Some equal → nullish.compares equal (part n 0) (part n 1) ≡ true → Row37 n (nullish.loose equal (part n 0))
alone_row n equal h e =
    let both = compared equal (part n 0) (part n 1) e in
    record {
      equal = equal;
      name = both.name;
      first = part (part n 0) 1;
      second = part (part n 1) 1;
      nullish = both.nullish_both;
      shape = joins_is n equal h ∙ (λ i. logical (joining equal) (both.one i) (both.other i));
      written = ap (λ x. binary (loosely equal) x null_literal) both.first;
    }

after_row : (n : Tree) (equal : Bool) → nullish.joins_in (logical_operator n) ≡ Some equal → nullish.compares_after equal n ≡ true → Row37After n (nullish.after equal n)
after_row n equal h e =
    let left : Tree = part n 0 in
    let (kind, rest) = and_parts (is_logical (joining equal) left) (nullish.compares equal (part left 1) (part n 1)) e in
    let both = compared equal (part left 1) (part n 1) rest in
    record {
      equal = equal;
      before = part left 0;
      name = both.name;
      first = part (part left 1) 1;
      second = part (part n 1) 1;
      nullish = both.nullish_both;
      shape = joins_is n equal h ∙ (λ i. logical (joining equal) ((logical_kind_is (joining equal) left kind ∙ ap (logical (joining equal) (part left 0)) both.one) i) (both.other i));
      written = ap (λ x. logical (joining equal) (part left 0) (binary (loosely equal) x null_literal)) both.first;
    }

module _ (R : Tree → Tree → Type 0) (alone : (n w : Tree) → Row37 n w → R n w) (behind : (n w : Tree) → Row37After n w → R n w) (n w : Tree) where
  pub comparison_row : nullish.written n ≡ Some w → R n w
  comparison_row e = go (nullish.joins_in (logical_operator n)) refl e
    where
      second : (equal : Bool) → nullish.joins_in (logical_operator n) ≡ Some equal → (b : Bool) → nullish.compares_after equal n ≡ b → (if b then Some (nullish.after equal n) else None) ≡ Some w → R n w
      second equal h true k e = subst (R n) (some_is (nullish.after equal n) w e) (behind n (nullish.after equal n) (after_row n equal h k))
      second equal h false k e = absurd (cc e)

      first : (equal : Bool) → nullish.joins_in (logical_operator n) ≡ Some equal → (b : Bool) → nullish.compares equal (part n 0) (part n 1) ≡ b → (if b then Some (nullish.loose equal (part n 0)) else nullish.after_written equal n) ≡ Some w → R n w
      first equal h true k e = subst (R n) (some_is (nullish.loose equal (part n 0)) w e) (alone n (nullish.loose equal (part n 0)) (alone_row n equal h k))
      first equal h false k e = second equal h (nullish.compares_after equal n) refl e

      go : (o : Option Bool) → nullish.joins_in (logical_operator n) ≡ o → nullish.written_by o n ≡ Some w → R n w
      go (Some equal) h e = first equal h (nullish.compares equal (part n 0) (part n 1)) refl e
      go None h e = absurd (cc e)

-- ---- and what a row reads is written

compares_passes : (equal : Bool) (x : Name) (f g : Tree) → AreNullish f g → nullish.compares equal (binary (strictly equal) (identifier x) f) (binary (strictly equal) (identifier x) g) ≡ true
compares_passes true x f g h = both_true (same_tree (identifier x) (identifier x)) (are_nullish f g) (tree_itself (identifier x)) (nullish_passes f g h)
compares_passes false x f g h = both_true (same_tree (identifier x) (identifier x)) (are_nullish f g) (tree_itself (identifier x)) (nullish_passes f g h)

pub alone_passes : (equal : Bool) (x : Name) (f g : Tree) → AreNullish f g → is_some (nullish.written (logical (joining equal) (binary (strictly equal) (identifier x) f) (binary (strictly equal) (identifier x) g))) ≡ true
alone_passes true x f g h =
    let a : Tree = binary StrictEquality (identifier x) f in
    let b : Tree = binary StrictEquality (identifier x) g in
    first_true (nullish.compares true a b) (nullish.loose true a) (nullish.after_written true (logical Or a b)) (compares_passes true x f g h)
alone_passes false x f g h =
    let a : Tree = binary StrictInequality (identifier x) f in
    let b : Tree = binary StrictInequality (identifier x) g in
    first_true (nullish.compares false a b) (nullish.loose false a) (nullish.after_written false (logical And a b)) (compares_passes false x f g h)

pub after_passes : (equal : Bool) (before : Tree) (x : Name) (f g : Tree) → AreNullish f g → is_some (nullish.written (logical (joining equal) (logical (joining equal) before (binary (strictly equal) (identifier x) f)) (binary (strictly equal) (identifier x) g))) ≡ true
after_passes true before x f g h =
    let a : Tree = binary StrictEquality (identifier x) f in
    let b : Tree = binary StrictEquality (identifier x) g in
    first_true (nullish.compares true a b) (nullish.after true (logical Or (logical Or before a) b)) None (compares_passes true x f g h)
after_passes false before x f g h =
    let a : Tree = binary StrictInequality (identifier x) f in
    let b : Tree = binary StrictInequality (identifier x) g in
    first_true (nullish.compares false a b) (nullish.after false (logical And (logical And before a) b)) None (compares_passes false x f g h)
