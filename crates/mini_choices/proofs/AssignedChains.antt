-- What is written for a conditional that asks whether what a name is assigned is null or undefined, and reads what the name holds, is what a
-- row says, and what a row reads passes its test.
use Rattle.std.proofs.Common.{◌≡◌, Bool, true, false, Option, Some, None, refl, sym, ap, subst, ◌∙◌}
use Rattle.std.specs.Prelude.{◌&&◌, not, is_some, codes, if◌then◌else◌}
use Rattle.std.proofs.lemmas.Bool.{and_parts}
use Rattle.mini_model.specs.declared.name.Name.{Name}
use Rattle.mini_model.specs.declared.operator.BinaryOperator.TheVariants.{Equality, Inequality}
use Rattle.mini_model.specs.declared.seat.Seat.{Seat}
use Rattle.mini_model.specs.Tree.{Tree, identifier, conditional, null_literal}
use Rattle.mini_model.specs.Weight.{same_text}
use Rattle.mini_laws.specs.Value.{Declared, VariableSet}
use Rattle.mini_node.specs.Children.{part, names_of}
use Rattle.mini_node.specs.Kinds.{binary, is_conditional, is_null, binary_operator}
use Rattle.mini_node.specs.Made.{conditional_is, null_is}
use Rattle.mini_terms.specs.Exact.{kept_by_value}
use Rattle.mini_rows.specs.Chains.{is_calm, spine, chain}
use Rattle.mini_rows.specs.Choices.{assign}
use Rattle.mini_rows.specs.Unused.{resolved}
use Rattle.mini_rows.specs.Writes.{if_null, Row46AssignedChain}
use Rattle.mini_choices.specs.Forms.{is_undefined}
use Rattle.mini_choices.specs.InjectAssignedChaining.{writes_calmly, asks_assigned, reads_assigned, is_assigned_last, is_assigned_first, first_written, written}
use Rattle.mini_choices.specs.InjectOptionalChaining.{is_spine, optional_over, chained, is_eval}
use Rattle.mini_choices.specs.MinimizeConditionalBranches.{is_equal_in, is_unequal_in}
use Rattle.mini_choices.specs.MinimizeNormalAssignmentToCombinedLogicalAssignment.{writes_name}
use Rattle.mini_choices.proofs.CombinedLogicalAssignment.{WritesName, writes_is}
use Rattle.mini_choices.proofs.FormsAre.{undefined_is, undefined_passes}
use Rattle.mini_choices.proofs.OptionalChains.{spine_of, spine_passes, equal_is, unequal_is}
use Rattle.mini_choices.proofs.Trials.{some_is, not_true, both_true, first_true, later_true}

-- the assignment that is asked
record Asked (W : VariableSet) (t : Tree) : Type 0 where
  writes : WritesName W (part t 0)
  null : part t 1 ≡ null_literal
  indirect : same_text writes.spelling (codes "eval") ≡ false
  calm : is_calm (part (part t 0) 1) ≡ true

asked_is : (W : VariableSet) (t : Tree) → asks_assigned W t ≡ true → Asked W t
asked_is W t e =
    let target = part (part t 0) 0 in
    let (null, rest) = and_parts (is_null (part t 1)) (writes_calmly W (part t 0)) e in
    let (may, last) = and_parts (writes_name W (part t 0)) (not (is_eval (names_of target)) && is_calm (part (part t 0) 1)) rest in
    let (plain, calm) = and_parts (not (is_eval (names_of target))) (is_calm (part (part t 0) 1)) last in
    let s = writes_is W (part t 0) may in
    record {
      writes = s;
      null = null_is (part t 1) null;
      indirect = sym (ap (λ t. is_eval (names_of t)) s.target) ∙ not_true (is_eval (names_of target)) plain;
      calm = calm;
    }

module _ (W : VariableSet) (s : Seat) (n : Tree) where
  chains : (equal : Bool) (test missing read : Tree) → (a : Asked W test) → is_undefined missing ≡ true → is_spine (part (part test 0) 0) read ≡ true → n ≡ if_null equal (assign (resolved a.writes.spelling a.writes.symbol) (part (part test 0) 1)) missing read → Row46AssignedChain W s n (kept_by_value s.guard (chain (optional_over (part test 0) read)))
  chains equal test missing read a u e is =
      let x : Name = resolved a.writes.spelling a.writes.symbol in
      let sp = spine_of (identifier x) read (subst (λ y. is_spine y read ≡ true) a.writes.target e) in
      record {
        equal = equal;
        spelling = a.writes.spelling;
        symbol = a.writes.symbol;
        a = part (part test 0) 1;
        missing = missing;
        last = sp.last;
        others = sp.others;
        writable = a.writes.writable;
        indirect = a.indirect;
        undefined = undefined_is missing u;
        calm_value = a.calm;
        calm = sp.calm;
        shape = is ∙ ap (if_null equal (assign x (part (part test 0) 1)) missing) sp.is;
        written = ap (λ t. kept_by_value s.guard (chain t)) (ap (λ t. optional_over t read) a.writes.is ∙ sp.over (assign x (part (part test 0) 1)));
      }

  last_row : is_assigned_last W n ≡ true → Row46AssignedChain W s n (kept_by_value s.guard (chained n (part n 2)))
  last_row h =
      let test = part n 0 in
      let (chooses, h2) = and_parts (is_conditional n) (is_equal_in (binary_operator test) && reads_assigned W test (part n 1) (part n 2)) h in
      let (compares, h3) = and_parts (is_equal_in (binary_operator test)) (reads_assigned W test (part n 1) (part n 2)) h2 in
      let (asks, h4) = and_parts (asks_assigned W test) (is_undefined (part n 1) && is_spine (part (part test 0) 0) (part n 2)) h3 in
      let (undefined, spined) = and_parts (is_undefined (part n 1)) (is_spine (part (part test 0) 0) (part n 2)) h4 in
      let a = asked_is W test asks in
      chains true test (part n 1) (part n 2) a undefined spined (conditional_is n chooses ∙ ap (λ t. conditional t (part n 1) (part n 2)) (equal_is test compares ∙ (λ i. binary Equality (a.writes.is i) (a.null i))))

  first_row : is_assigned_first W n ≡ true → Row46AssignedChain W s n (kept_by_value s.guard (chained n (part n 1)))
  first_row h =
      let test = part n 0 in
      let (chooses, h2) = and_parts (is_conditional n) (is_unequal_in (binary_operator test) && reads_assigned W test (part n 2) (part n 1)) h in
      let (compares, h3) = and_parts (is_unequal_in (binary_operator test)) (reads_assigned W test (part n 2) (part n 1)) h2 in
      let (asks, h4) = and_parts (asks_assigned W test) (is_undefined (part n 2) && is_spine (part (part test 0) 0) (part n 1)) h3 in
      let (undefined, spined) = and_parts (is_undefined (part n 2)) (is_spine (part (part test 0) 0) (part n 1)) h4 in
      let a = asked_is W test asks in
      chains false test (part n 2) (part n 1) a undefined spined (conditional_is n chooses ∙ ap (λ t. conditional t (part n 1) (part n 2)) (unequal_is test compares ∙ (λ i. binary Inequality (a.writes.is i) (a.null i))))

  module _ (w : Tree) where
    tried : (b : Bool) (made : Tree) (next : Option Tree) → (b ≡ true → Row46AssignedChain W s n made) → (next ≡ Some w → Row46AssignedChain W s n w) → (if b then Some made else next) ≡ Some w → Row46AssignedChain W s n w
    tried true made next f g e = subst (Row46AssignedChain W s n) (some_is made w e) (f refl)
    tried false made next f g e = g e

    pub chain_row : written W s n ≡ Some w → Row46AssignedChain W s n w
    chain_row = tried (is_assigned_last W n) (kept_by_value s.guard (chained n (part n 2))) (first_written W s n) last_row (tried (is_assigned_first W n) (kept_by_value s.guard (chained n (part n 1))) None first_row (λ e. absurd (cc e)))

-- ---- and what a row reads is written

module _ (W : VariableSet) (s : Seat) (n w : Tree) (r : Row46AssignedChain W s n w) where
  abbrev x : Name
  x = resolved r.spelling r.symbol

  abbrev read : Tree
  read = spine false (identifier x) r.last r.others

  calmly : W (Declared r.symbol) && (not (same_text r.spelling (codes "eval")) && is_calm r.a) ≡ true
  calmly = both_true (W (Declared r.symbol)) _ r.writable (both_true (not (same_text r.spelling (codes "eval"))) (is_calm r.a) (ap not r.indirect) r.calm_value)

  reads : (W (Declared r.symbol) && (not (same_text r.spelling (codes "eval")) && is_calm r.a)) && (is_undefined r.missing && is_spine (identifier x) read) ≡ true
  reads = both_true (W (Declared r.symbol) && (not (same_text r.spelling (codes "eval")) && is_calm r.a)) _ calmly (both_true (is_undefined r.missing) (is_spine (identifier x) read) (undefined_passes r.missing r.undefined) (spine_passes x r.last r.others r.calm))

  abbrev asks : Bool → Tree
  asks equal = if_null equal (assign x r.a) r.missing read

  passes_by : (equal : Bool) → is_some (written W s (asks equal)) ≡ true
  passes_by true = first_true (is_assigned_last W (asks true)) (kept_by_value s.guard (chained (asks true) read)) (first_written W s (asks true)) reads
  passes_by false = later_true (is_assigned_last W (asks false)) (kept_by_value s.guard (chained (asks false) r.missing)) (first_written W s (asks false)) (first_true (is_assigned_first W (asks false)) (kept_by_value s.guard (chained (asks false) read)) None reads)

  pub chain_passes : is_some (written W s n) ≡ true
  chain_passes = ap (λ t. is_some (written W s t)) r.shape ∙ passes_by r.equal
