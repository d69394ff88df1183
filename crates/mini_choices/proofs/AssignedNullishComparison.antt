-- What is written for two strict comparisons of what a name is assigned and of the name is what a row says, and what a row reads passes its
-- test.
use Rattle.std.proofs.Common.{◌≡◌, ℕ, List, Bool, true, false, Option, Some, None, refl, sym, ap, subst, ◌∙◌}
use Rattle.std.specs.Prelude.{◌&&◌, is_some, if◌then◌else◌}
use Rattle.std.proofs.lemmas.Bool.{and_parts}
use Rattle.mini_model.specs.declared.name.Name.{Name}
use Rattle.mini_model.specs.declared.operator.LogicalOperator.TheVariants.{Or, And}
use Rattle.mini_model.specs.Tree.{Tree, identifier, logical, null_literal}
use Rattle.mini_laws.specs.Value.{Declared, VariableSet}
use Rattle.mini_node.specs.Children.{part}
use Rattle.mini_node.specs.Equal.{same_tree}
use Rattle.mini_node.specs.Kinds.{binary, is_identifier, is_logical, logical_operator}
use Rattle.mini_node.proofs.Equality.{tree_same, tree_itself}
use Rattle.mini_rows.specs.Choices.{assign, strictly, loosely, joining, AreNullish, ended}
use Rattle.mini_rows.specs.Unused.{resolved}
use Rattle.mini_rows.specs.Writes.{Row37Assigned}
use Rattle.mini_choices.specs.Assigning.{is_same_name}
use Rattle.mini_choices.specs.Forms.{are_nullish}
use Rattle.mini_choices.specs.MinimizeNormalAssignmentToCombinedLogicalAssignment.{writes_name}
use Rattle.mini_choices.specs.MinimizeNullishComparison.{joins_in, is_strict, loose, after}
use Rattle.mini_choices.specs.MinimizeAssignedNullishComparison as nullish
use Rattle.mini_choices.specs.MinimizeAssignedNullishComparison.{assigns_it, compares, compares_after, written}
use Rattle.mini_choices.proofs.CombinedLogicalAssignment.{writes_is}
use Rattle.mini_choices.proofs.FormsAre.{nullish_is, nullish_passes}
use Rattle.mini_choices.proofs.NullishComparison.{strict_is, joins_is}
use Rattle.mini_choices.proofs.Spines.{logical_kind_is}
use Rattle.mini_choices.proofs.Trials.{some_is, both_true, first_true}

-- ---- an assignment to a name, and that name

record AssignsIt (W : VariableSet) (t x : Tree) : Type 0 where
  spelling : List ℕ
  symbol : ℕ
  writable : W (Declared symbol) ≡ true
  assigns : t ≡ assign (resolved spelling symbol) (part t 1)
  is : x ≡ identifier (resolved spelling symbol)

assigns_it_is : (W : VariableSet) (t x : Tree) → assigns_it W t x ≡ true → AssignsIt W t x
assigns_it_is W t x e =
    let (writes, alike) = and_parts (writes_name W t) (is_same_name (part t 0) x) e in
    let same = tree_same (part t 0) x (and_parts (is_identifier (part t 0)) (same_tree (part t 0) x) alike).1 in
    let s = writes_is W t writes in
    record { spelling = s.spelling; symbol = s.symbol; writable = s.writable; assigns = s.is; is = sym same ∙ s.target }

record Compared (W : VariableSet) (equal : Bool) (a b : Tree) : Type 0 where
  it : AssignsIt W (part a 0) (part b 0)
  one : a ≡ binary (strictly equal) (assign (resolved it.spelling it.symbol) (part (part a 0) 1)) (part a 1)
  other : b ≡ binary (strictly equal) (identifier (resolved it.spelling it.symbol)) (part b 1)
  nullish_both : AreNullish (part a 1) (part b 1)

compared : (W : VariableSet) (equal : Bool) (a b : Tree) → compares W equal a b ≡ true → Compared W equal a b
compared W equal a b e =
    let (one, rest) = and_parts (is_strict equal a) (is_strict equal b && (assigns_it W (part a 0) (part b 0) && are_nullish (part a 1) (part b 1))) e in
    let (other, names) = and_parts (is_strict equal b) (assigns_it W (part a 0) (part b 0) && are_nullish (part a 1) (part b 1)) rest in
    let (assigns, null) = and_parts (assigns_it W (part a 0) (part b 0)) (are_nullish (part a 1) (part b 1)) names in
    let it = assigns_it_is W (part a 0) (part b 0) assigns in
    record {
      it = it;
      one = strict_is equal a one ∙ ap (λ x. binary (strictly equal) x (part a 1)) it.assigns;
      other = strict_is equal b other ∙ ap (λ x. binary (strictly equal) x (part b 1)) it.is;
      nullish_both = nullish_is (part a 1) (part b 1) null;
    }

-- ---- what is written is what a row says

alone_row : (W : VariableSet) (n : Tree) (equal : Bool) → joins_in (logical_operator n) ≡ Some equal → compares W equal (part n 0) (part n 1) ≡ true → Row37Assigned W n (loose equal (part n 0))
alone_row W n equal h e =
    let both = compared W equal (part n 0) (part n 1) e in
    record {
      equal = equal;
      before = None;
      spelling = both.it.spelling;
      symbol = both.it.symbol;
      a = part (part (part n 0) 0) 1;
      first = part (part n 0) 1;
      second = part (part n 1) 1;
      writable = both.it.writable;
      nullish = both.nullish_both;
      shape = joins_is n equal h ∙ (λ i. logical (joining equal) (both.one i) (both.other i));
      written = ap (λ x. binary (loosely equal) x null_literal) both.it.assigns;
    }

after_row : (W : VariableSet) (n : Tree) (equal : Bool) → joins_in (logical_operator n) ≡ Some equal → compares_after W equal n ≡ true → Row37Assigned W n (after equal n)
after_row W n equal h e =
    let left : Tree = part n 0 in
    let (kind, rest) = and_parts (is_logical (joining equal) left) (compares W equal (part left 1) (part n 1)) e in
    let both = compared W equal (part left 1) (part n 1) rest in
    record {
      equal = equal;
      before = Some (part left 0);
      spelling = both.it.spelling;
      symbol = both.it.symbol;
      a = part (part (part left 1) 0) 1;
      first = part (part left 1) 1;
      second = part (part n 1) 1;
      writable = both.it.writable;
      nullish = both.nullish_both;
      shape = joins_is n equal h ∙ (λ i. logical (joining equal) ((logical_kind_is (joining equal) left kind ∙ ap (logical (joining equal) (part left 0)) both.one) i) (both.other i));
      written = ap (λ x. logical (joining equal) (part left 0) (binary (loosely equal) x null_literal)) both.it.assigns;
    }

module _ (W : VariableSet) (n w : Tree) where
  pub nullish_row : written W n ≡ Some w → Row37Assigned W n w
  nullish_row e = go (joins_in (logical_operator n)) refl e
    where
      second : (equal : Bool) → joins_in (logical_operator n) ≡ Some equal → (b : Bool) → compares_after W equal n ≡ b → (if b then Some (after equal n) else None) ≡ Some w → Row37Assigned W n w
      second equal h true k e = subst (Row37Assigned W n) (some_is (after equal n) w e) (after_row W n equal h k)
      second equal h false k e = absurd (cc e)

      first : (equal : Bool) → joins_in (logical_operator n) ≡ Some equal → (b : Bool) → compares W equal (part n 0) (part n 1) ≡ b → (if b then Some (loose equal (part n 0)) else nullish.after_written W equal n) ≡ Some w → Row37Assigned W n w
      first equal h true k e = subst (Row37Assigned W n) (some_is (loose equal (part n 0)) w e) (alone_row W n equal h k)
      first equal h false k e = second equal h (compares_after W equal n) refl e

      go : (o : Option Bool) → joins_in (logical_operator n) ≡ o → nullish.written_by o W n ≡ Some w → Row37Assigned W n w
      go (Some equal) h e = first equal h (compares W equal (part n 0) (part n 1)) refl e
      go None h e = absurd (cc e)

-- ---- and what a row reads is written

module _ (W : VariableSet) (s : List ℕ) (k : ℕ) (a f g : Tree) (may : W (Declared k) ≡ true) (h : AreNullish f g) where
  abbrev x : Name
  x = resolved s k

  it_passes : W (Declared k) && same_tree (identifier x) (identifier x) ≡ true
  it_passes = both_true (W (Declared k)) (same_tree (identifier x) (identifier x)) may (tree_itself (identifier x))

  abbrev one : Bool → Tree
  one equal = binary (strictly equal) (assign x a) f

  abbrev other : Bool → Tree
  other equal = binary (strictly equal) (identifier x) g

  compares_passes : (equal : Bool) → compares W equal (one equal) (other equal) ≡ true
  compares_passes true = both_true (W (Declared k) && same_tree (identifier x) (identifier x)) (are_nullish f g) it_passes (nullish_passes f g h)
  compares_passes false = both_true (W (Declared k) && same_tree (identifier x) (identifier x)) (are_nullish f g) it_passes (nullish_passes f g h)

  pub nullish_passes_for : (equal : Bool) (before : Option Tree) → is_some (written W (logical (joining equal) (ended (joining equal) before (one equal)) (other equal))) ≡ true
  nullish_passes_for true None = first_true (compares W true (one true) (other true)) (loose true (one true)) (nullish.after_written W true (logical Or (one true) (other true))) (compares_passes true)
  nullish_passes_for false None = first_true (compares W false (one false) (other false)) (loose false (one false)) (nullish.after_written W false (logical And (one false) (other false))) (compares_passes false)
  nullish_passes_for true (Some b) = first_true (compares W true (one true) (other true)) (after true (logical Or (logical Or b (one true)) (other true))) None (compares_passes true)
  nullish_passes_for false (Some b) = first_true (compares W false (one false) (other false)) (after false (logical And (logical And b (one false)) (other false))) None (compares_passes false)
