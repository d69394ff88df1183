-- What is written for a conditional that asks whether what a name is assigned is null or undefined is what a row says, and what a row reads
-- passes its test.
use Rattle.std.proofs.Common.{◌≡◌, ℕ, List, Bool, true, false, Option, Some, None, refl, sym, ap, subst, ◌∙◌}
use Rattle.std.specs.Prelude.{◌&&◌, is_some, if◌then◌else◌}
use Rattle.std.proofs.lemmas.Bool.{and_parts}
use Rattle.mini_model.specs.declared.name.Name.{Name}
use Rattle.mini_model.specs.declared.operator.BinaryOperator.{BinaryOperator}
use Rattle.mini_model.specs.declared.operator.BinaryOperator.TheVariants.{Equality, Inequality}
use Rattle.mini_model.specs.declared.operator.LogicalOperator.TheVariants.{Coalesce}
use Rattle.mini_model.specs.Tree.{Tree, identifier, logical, conditional, null_literal}
use Rattle.mini_laws.specs.Value.{Declared, VariableSet}
use Rattle.mini_node.specs.Children.{part}
use Rattle.mini_node.specs.Equal.{same_tree}
use Rattle.mini_node.specs.Kinds.{binary, is_conditional, is_identifier, is_null, binary_operator}
use Rattle.mini_node.specs.Made.{binary_is, conditional_is, null_is}
use Rattle.mini_node.proofs.Equality.{tree_same, tree_itself}
use Rattle.mini_rows.specs.Choices.{assign}
use Rattle.mini_rows.specs.Unused.{resolved}
use Rattle.mini_rows.specs.Writes.{if_null, Row46Assigned}
use Rattle.mini_choices.specs.Assigning.{is_same_name}
use Rattle.mini_choices.specs.MinimizeConditionalBranches.{is_equal_in, is_unequal_in}
use Rattle.mini_choices.specs.MinimizeNormalAssignmentToCombinedLogicalAssignment.{writes_name}
use Rattle.mini_choices.specs.MinimizeAssignedComparison.{is_assigned_beside_null, is_assigned_if_equal, is_assigned_if_unequal, coalesced, unequal_written, written}
use Rattle.mini_choices.proofs.Choices.{equal_operator, unequal_operator}
use Rattle.mini_choices.proofs.CombinedLogicalAssignment.{writes_is}
use Rattle.mini_choices.proofs.Trials.{some_is, both_true, first_true}

-- a comparison of an assignment of this name with null
record AssignedBeside (W : VariableSet) (o : BinaryOperator) (t y : Tree) : Type 0 where
  spelling : List ℕ
  symbol : ℕ
  writable : W (Declared symbol) ≡ true
  assigns : part t 0 ≡ assign (resolved spelling symbol) (part (part t 0) 1)
  compares : t ≡ binary o (assign (resolved spelling symbol) (part (part t 0) 1)) null_literal
  is : y ≡ identifier (resolved spelling symbol)

beside : (W : VariableSet) (o : BinaryOperator) (t y : Tree) → binary_operator t ≡ Some o → is_assigned_beside_null W t y ≡ true → AssignedBeside W o t y
beside W o t y h e =
    let (null, rest) = and_parts (is_null (part t 1)) (writes_name W (part t 0) && is_same_name (part (part t 0) 0) y) e in
    let (writes, alike) = and_parts (writes_name W (part t 0)) (is_same_name (part (part t 0) 0) y) rest in
    let same = tree_same (part (part t 0) 0) y (and_parts (is_identifier (part (part t 0) 0)) (same_tree (part (part t 0) 0) y) alike).1 in
    let s = writes_is W (part t 0) writes in
    record {
      spelling = s.spelling;
      symbol = s.symbol;
      writable = s.writable;
      assigns = s.is;
      compares = binary_is t o h ∙ (λ i. binary o (s.is i) (null_is (part t 1) null i));
      is = sym same ∙ s.target;
    }

equal_row : (W : VariableSet) (n : Tree) → is_assigned_if_equal W n ≡ true → Row46Assigned W n (coalesced n (part n 1))
equal_row W n k =
    let (chooses, rest) = and_parts (is_conditional n) (is_equal_in (binary_operator (part n 0)) && is_assigned_beside_null W (part n 0) (part n 2)) k in
    let (equal, compared) = and_parts (is_equal_in (binary_operator (part n 0))) (is_assigned_beside_null W (part n 0) (part n 2)) rest in
    let r = beside W Equality (part n 0) (part n 2) (equal_operator (binary_operator (part n 0)) equal) compared in
    record {
      equal = true;
      spelling = r.spelling;
      symbol = r.symbol;
      a = part (part (part n 0) 0) 1;
      b = part n 1;
      writable = r.writable;
      shape = conditional_is n chooses ∙ (λ i. conditional (r.compares i) (part n 1) (r.is i));
      written = ap (λ t. logical Coalesce t (part n 1)) r.assigns;
    }

unequal_row : (W : VariableSet) (n : Tree) → is_assigned_if_unequal W n ≡ true → Row46Assigned W n (coalesced n (part n 2))
unequal_row W n k =
    let (chooses, rest) = and_parts (is_conditional n) (is_unequal_in (binary_operator (part n 0)) && is_assigned_beside_null W (part n 0) (part n 1)) k in
    let (unequal, compared) = and_parts (is_unequal_in (binary_operator (part n 0))) (is_assigned_beside_null W (part n 0) (part n 1)) rest in
    let r = beside W Inequality (part n 0) (part n 1) (unequal_operator (binary_operator (part n 0)) unequal) compared in
    record {
      equal = false;
      spelling = r.spelling;
      symbol = r.symbol;
      a = part (part (part n 0) 0) 1;
      b = part n 2;
      writable = r.writable;
      shape = conditional_is n chooses ∙ (λ i. conditional (r.compares i) (r.is i) (part n 2));
      written = ap (λ t. logical Coalesce t (part n 2)) r.assigns;
    }

module _ (W : VariableSet) (n w : Tree) where
  tried : (b : Bool) (made : Tree) (next : Option Tree) → (b ≡ true → Row46Assigned W n made) → (next ≡ Some w → Row46Assigned W n w) → (if b then Some made else next) ≡ Some w → Row46Assigned W n w
  tried true made next f g e = subst (Row46Assigned W n) (some_is made w e) (f refl)
  tried false made next f g e = g e

  pub assigned_row : written W n ≡ Some w → Row46Assigned W n w
  assigned_row = tried (is_assigned_if_equal W n) (coalesced n (part n 1)) (unequal_written W n) (equal_row W n) (tried (is_assigned_if_unequal W n) (coalesced n (part n 2)) None (unequal_row W n) (λ e. absurd (cc e)))

pub assigned_passes : (W : VariableSet) (equal : Bool) (s : List ℕ) (k : ℕ) (a b : Tree) → W (Declared k) ≡ true → is_some (written W (if_null equal (assign (resolved s k) a) b (identifier (resolved s k)))) ≡ true
assigned_passes W true s k a b e =
    let x : Name = resolved s k in
    first_true (W (Declared k) && same_tree (identifier x) (identifier x)) _ _ (both_true (W (Declared k)) (same_tree (identifier x) (identifier x)) e (tree_itself (identifier x)))
assigned_passes W false s k a b e =
    let x : Name = resolved s k in
    first_true (W (Declared k) && same_tree (identifier x) (identifier x)) _ _ (both_true (W (Declared k)) (same_tree (identifier x) (identifier x)) e (tree_itself (identifier x)))
