-- What is written for an assignment of a name by a logical operator is what a row says, and what a row reads passes its test.
use Rattle.std.proofs.Common.{◌≡◌, ℕ, List, Bool, true, false, Option, Some, None, refl, sym, ap, ◌∙◌}
use Rattle.std.specs.Prelude.{◌&&◌, is_some, if◌then◌else◌}
use Rattle.std.proofs.lemmas.Bool.{and_parts}
use Rattle.mini_model.specs.declared.name.Name.{Name}
use Rattle.mini_model.specs.declared.name.SymbolId.{SymbolId}
use Rattle.mini_model.specs.declared.operator.AssignmentOperator.TheVariants.{Assign}
use Rattle.mini_model.specs.declared.operator.LogicalOperator.{LogicalOperator}
use Rattle.mini_model.specs.Tree.{Tree, identifier, logical}
use Rattle.mini_laws.specs.Value.{Declared, VariableSet}
use Rattle.mini_node.specs.Children.{part, names_of}
use Rattle.mini_node.specs.Equal.{same_tree}
use Rattle.mini_node.specs.Kinds.{assignment, assignment_operator, is_identifier, logical_operator}
use Rattle.mini_node.specs.Made.{identifier_is, logical_is}
use Rattle.mini_node.proofs.Equality.{tree_same, tree_itself}
use Rattle.mini_rows.specs.Choices.{assign, deciding}
use Rattle.mini_rows.specs.Unused.{resolved}
use Rattle.mini_rows.specs.Writes.{Row34}
use Rattle.mini_choices.specs.Assigning.{is_plain, assigns_name, is_same_name}
use Rattle.mini_choices.specs.MinimizeNormalAssignmentToCombinedLogicalAssignment as combine
use Rattle.mini_choices.specs.MinimizeNormalAssignmentToCombinedLogicalAssignment.{may_write, may_write_in, writes_name, written}
use Rattle.mini_choices.proofs.Names.{assigns_is}
use Rattle.mini_choices.proofs.Trials.{some_is}

-- ---- a name that can be written has a symbol

record OfSymbol (W : VariableSet) (x : Name) : Type 0 where
  symbol : ℕ
  resolved : x ≡ resolved x.spelling symbol
  writable : W (Declared symbol) ≡ true

of_symbol : (W : VariableSet) (x : Name) → may_write W x.symbol ≡ true → OfSymbol W x
of_symbol W x e = go x.symbol refl e
  where
    go : (o : Option SymbolId) → x.symbol ≡ o → may_write W o ≡ true → OfSymbol W x
    go (Some i) h e = record { symbol = i.0; resolved = λ j. record { spelling = x.spelling; symbol = h j }; writable = e }
    go None h e = absurd (cc e)

-- `x = b`, where x can be written
pub record WritesName (W : VariableSet) (t : Tree) : Type 0 where
  pub spelling : List ℕ
  pub symbol : ℕ
  pub writable : W (Declared symbol) ≡ true
  pub target : part t 0 ≡ identifier (resolved spelling symbol)
  pub is : t ≡ assign (resolved spelling symbol) (part t 1)

pub writes_is : (W : VariableSet) (t : Tree) → writes_name W t ≡ true → WritesName W t
writes_is W t e =
    let (assigning, may) = and_parts (assigns_name t) (may_write_in W (names_of (part t 0))) e in
    let (x, h) = identifier_is (part t 0) (and_parts (is_plain (assignment_operator t)) (is_identifier (part t 0)) assigning).1 in
    let s = of_symbol W x (sym (ap (λ u. may_write_in W (names_of u)) h) ∙ may) in
    let target = h ∙ ap identifier s.resolved in
    record { spelling = x.spelling; symbol = s.symbol; writable = s.writable; target = target; is = assigns_is t assigning ∙ ap (λ u. assignment Assign u (part t 1)) target }

-- ---- 34

pub combined_row : (W : VariableSet) (n w : Tree) → written W n ≡ Some w → Row34 W n w
combined_row W n w e = by (writes_name W n && is_same_name (part n 0) (part (part n 1) 0)) refl e
  where
    made : WritesName W n → part (part n 1) 0 ≡ part n 0 → (o : Option LogicalOperator) → logical_operator (part n 1) ≡ o → combine.written_by o n ≡ Some w → Row34 W n w
    made s same (Some o) h e =
        let right = part (part n 1) 1 in
        record {
          operator = o;
          spelling = s.spelling;
          symbol = s.symbol;
          b = right;
          writable = s.writable;
          shape = s.is ∙ ap (assign (resolved s.spelling s.symbol)) (logical_is (part n 1) o h ∙ ap (λ t. logical o t right) (same ∙ s.target));
          written = sym (some_is (combine.combined o n) w e) ∙ ap (λ t. assignment (deciding o) t right) s.target;
        }
    made s same None h e = absurd (cc e)

    by : (b : Bool) → writes_name W n && is_same_name (part n 0) (part (part n 1) 0) ≡ b → combine.written_by (if b then logical_operator (part n 1) else None) n ≡ Some w → Row34 W n w
    by true k e =
        let (writes, alike) = and_parts (writes_name W n) (is_same_name (part n 0) (part (part n 1) 0)) k in
        let same = (and_parts (is_identifier (part n 0)) (same_tree (part n 0) (part (part n 1) 0)) alike).1 in
        made (writes_is W n writes) (sym (tree_same (part n 0) (part (part n 1) 0) same)) (logical_operator (part n 1)) refl e
    by false k e = absurd (cc e)

pub combined_passes : (W : VariableSet) (o : LogicalOperator) (s : List ℕ) (k : ℕ) (b : Tree) → W (Declared k) ≡ true → is_some (written W (assign (resolved s k) (logical o (identifier (resolved s k)) b))) ≡ true
combined_passes W o s k b e =
    let x : Name = resolved s k in
    let t : Tree = assign x (logical o (identifier x) b) in
    ap (λ g. is_some (combine.written_by (if g && same_tree (identifier x) (identifier x) then Some o else None) t)) e
    ∙ ap (λ g. is_some (combine.written_by (if g then Some o else None) t)) (tree_itself (identifier x))
