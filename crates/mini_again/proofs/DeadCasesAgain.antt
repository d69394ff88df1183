-- Rows of cases that no run comes to read a node that is read again.
use Rattle.mini_again.proofs.InListAgain.{of_either}
use Rattle.mini_again.proofs.LawDeclaredNamesAgain.{names_of_again}
use Rattle.mini_again.proofs.ListsAgain.{are_terminated_again, are_unscoped_again, declared_bare_again, declares_nothing_again, encloses_again}
use Rattle.mini_again.proofs.ModelPathsAgain.{append_again}
use Rattle.mini_again.proofs.ModelTreeAgain.{is_absent_again}
use Rattle.mini_again.proofs.ModelWeightAgain.{weight_again}
use Rattle.mini_again.proofs.Names.{if_all_again}
use Rattle.mini_again.proofs.TermCalculatedAgain.{value_within_again}
use Rattle.mini_again.proofs.TermEffectsAgain.{ef_again}
use Rattle.mini_again.specs.Again.{Renaming, again, all_again}
use Rattle.mini_laws.specs.DeclaredNames.{names_of}
use Rattle.mini_laws.specs.Value.{Value}
use Rattle.mini_model.specs.Paths.{append}
use Rattle.mini_model.specs.Tree.{Tree, Trees, listed, node, none, ◌▸◌}
use Rattle.mini_model.specs.declared.kind.VariableDeclarationKind.TheVariants.{Var}
use Rattle.mini_model.specs.declared.place.Position.TheVariants.{StatementList, Stmt}
use Rattle.mini_rows.specs.DeadCases.{AllMissed, AllPassed, Choices, DeadCaseRow, Default, Known, Missed, Row81, Row81None, Selected, Taken, a_null, a_number, a_text, a_truth, all_go, are_ended, are_loose, are_plain_declarators, are_several, before_others, cases_go, cases_of, choice, hoist_nothing, hoists_nothing, is_plain_declarator, is_plain_var, known, left_all, left_cases, no_choices, rest_goes, running, test_goes, undefined}
use Rattle.mini_rows.specs.Lists.{any, left_behind}
use Rattle.mini_terms.specs.Calculated.{operand_depth}
use Rattle.std.proofs.Common.{ap, inl, inr, ◌∙◌}
use Rattle.std.specs.Prelude.{[], false, if◌then◌else◌, refl, true, zero, ◌&&◌, ◌∷◌, ◌≡◌}
use Rattle.mini_laws.specs.declared.names.Declared.TheVariants as declared
use Rattle.mini_model.specs.declared.seat.StmtSeat.TheVariants as stmt_seat
use Rattle.mini_model.specs.declared.shape.Shape.TheVariants as shape

abbrev pub again_choices : Renaming → Choices → Choices
again_choices ρ no_choices = no_choices
again_choices ρ (choice a0 a1 a2) = choice (again ρ a0) (all_again ρ a1) (again_choices ρ a2)

pub missed_again : (ρ : Renaming) (v : Value) (test : Tree) → Missed v test → Missed v (again ρ test)
missed_again ρ v test r = record {
  value = r.value;
  is = simp (ef_again ρ true test, declares_nothing_again ρ test, value_within_again ρ true operand_depth test) r.is;
  other = r.other;
}

pub all_missed_again : (ρ : Renaming) (v : Value) (no_choices : Choices) → AllMissed v no_choices → AllMissed v (again_choices ρ no_choices)
all_missed_again ρ v no_choices r = r
all_missed_again ρ v (choice test statements cs) r = (missed_again ρ v test r.0, all_missed_again ρ v cs r.1)

pub all_passed_again : (ρ : Renaming) (v : Value) (no_choices : Choices) → AllPassed v no_choices → AllPassed v (again_choices ρ no_choices)
all_passed_again ρ v no_choices r = r
all_passed_again ρ v (choice test statements cs) r = (of_either (λ x. missed_again ρ v test x) (λ x. ap (again ρ) x) r.0, all_passed_again ρ v cs r.1)

pub default_again : (ρ : Renaming) (v : Value) (before : Choices) (test : Tree) (after : Choices) → Default v before test after → Default v (again_choices ρ before) (again ρ test) (again_choices ρ after)
default_again ρ v before test after r = record {
  is = ap (again ρ) r.is;
  missed = all_missed_again ρ v before r.missed;
  missed_later = all_missed_again ρ v after r.missed_later;
}

pub selected_again : (ρ : Renaming) (v : Value) (before : Choices) (test : Tree) → Selected v before test → Selected v (again_choices ρ before) (again ρ test)
selected_again ρ v before test r = record {
  value = r.value;
  is = simp (ef_again ρ true test, declares_nothing_again ρ test, value_within_again ρ true operand_depth test) r.is;
  equal = r.equal;
  passed = all_passed_again ρ v before r.passed;
}

pub taken_again : (ρ : Renaming) (v : Value) (before : Choices) (test : Tree) (after : Choices) → Taken v before test after → Taken v (again_choices ρ before) (again ρ test) (again_choices ρ after)
taken_again ρ v before test after (inl r) = inl (selected_again ρ v before test r)
taken_again ρ v before test after (inr r) = inr (default_again ρ v before test after r)

pub are_loose_again : (ρ : Renaming) (no_choices : Choices) → are_loose (again_choices ρ no_choices) ≡ are_loose no_choices
are_loose_again ρ no_choices = refl
are_loose_again ρ (choice test statements cs) = simp (are_unscoped_again ρ statements, are_loose_again ρ cs)

pub are_several_again : (ρ : Renaming) (no_choices c : Choices) → are_several (again_choices ρ no_choices) (again_choices ρ c) ≡ are_several no_choices c
are_several_again ρ no_choices no_choices = refl
are_several_again ρ before after = refl

pub before_others_again : (ρ : Renaming) (no_choices cs : Choices) → before_others (again_choices ρ no_choices) (again_choices ρ cs) ≡ again_choices ρ (before_others no_choices cs)
before_others_again ρ no_choices cs = refl
before_others_again ρ (choice test statements bs) cs = simp (before_others_again ρ bs cs)

mutual
  pub hoist_nothing_again : (ρ : Renaming) (ts : Trees) → hoist_nothing (all_again ρ ts) ≡ hoist_nothing ts
  hoist_nothing_again ρ none = refl
  hoist_nothing_again ρ (t ▸ ts) = simp (hoists_nothing_again ρ t, hoist_nothing_again ρ ts)

  pub hoists_nothing_again : (ρ : Renaming) (t : Tree) → hoists_nothing (again ρ t) ≡ hoists_nothing t
  hoists_nothing_again ρ (node h xs n ts) = simp (hoist_nothing_again ρ ts)

pub is_plain_declarator_again : (ρ : Renaming) (t : Tree) → is_plain_declarator (again ρ t) ≡ is_plain_declarator t
is_plain_declarator_again ρ (node shape.VariableDeclarator [] zero (node shape.BindingIdentifier (x ∷ []) zero none ▸ (init ▸ none))) = refl
is_plain_declarator_again ρ _ = refl

pub are_plain_declarators_again : (ρ : Renaming) (ts : Trees) → are_plain_declarators (all_again ρ ts) ≡ are_plain_declarators ts
are_plain_declarators_again ρ none = refl
are_plain_declarators_again ρ (d ▸ ds) = simp (is_plain_declarator_again ρ d, are_plain_declarators_again ρ ds)

pub is_plain_var_again : (ρ : Renaming) (t : Tree) → is_plain_var (again ρ t) ≡ is_plain_var t
is_plain_var_again ρ (node (shape.VariableDeclaration Var) [] zero (node shape.Listed [] zero (d ▸ ds) ▸ none)) = simp (are_plain_declarators_again ρ (d ▸ ds))
is_plain_var_again ρ _ = refl

pub all_go_again : (ρ : Renaming) (ts : Trees) → all_go (all_again ρ ts) ≡ all_go ts
all_go_again ρ none = refl
all_go_again ρ (t ▸ ts) = simp (encloses_again ρ false t, hoists_nothing_again ρ t, is_plain_var_again ρ t, names_of_again ρ declared.Hoisted t, declared_bare_again ρ (names_of declared.Hoisted t), weight_again ρ StatementList (listed (left_behind t)), weight_again ρ (Stmt stmt_seat.List) t, all_go_again ρ ts)

pub cases_go_again : (ρ : Renaming) (no_choices : Choices) → cases_go (again_choices ρ no_choices) ≡ cases_go no_choices
cases_go_again ρ no_choices = refl
cases_go_again ρ (choice test statements cs) = simp (encloses_again ρ false test, is_absent_again ρ test, declares_nothing_again ρ test, all_go_again ρ statements, cases_go_again ρ cs)

pub cases_of_again : (ρ : Renaming) (no_choices : Choices) → cases_of (again_choices ρ no_choices) ≡ all_again ρ (cases_of no_choices)
cases_of_again ρ no_choices = refl
cases_of_again ρ (choice test statements cs) = simp (cases_of_again ρ cs)

pub left_all_again : (ρ : Renaming) (ts : Trees) → left_all (all_again ρ ts) ≡ all_again ρ (left_all ts)
left_all_again ρ none = refl
left_all_again ρ (t ▸ ts) = simp (names_of_again ρ declared.Hoisted t, declared_bare_again ρ (names_of declared.Hoisted t), left_all_again ρ ts, append_again ρ (left_behind t) (left_all ts))

pub left_cases_again : (ρ : Renaming) (no_choices : Choices) → left_cases (again_choices ρ no_choices) ≡ all_again ρ (left_cases no_choices)
left_cases_again ρ no_choices = refl
left_cases_again ρ (choice test statements cs) = simp (left_all_again ρ statements, left_cases_again ρ cs, append_again ρ (left_all statements) (left_cases cs))

pub rest_goes_again : (ρ : Renaming) (statements : Trees) (cs : Choices) → rest_goes (all_again ρ statements) (again_choices ρ cs) ≡ rest_goes statements cs
rest_goes_again ρ statements no_choices = refl
rest_goes_again ρ statements (choice test others cs) =
    ap (λ b. if are_ended (all_again ρ statements) then b else (test_goes (again ρ test) && rest_goes (all_again ρ others) (again_choices ρ cs))) (cases_go_again ρ (choice test others cs))
    ∙ ap (λ b. if are_ended (all_again ρ statements) then cases_go (choice test others cs) else (test_goes (again ρ test) && b)) (rest_goes_again ρ others cs)
    ∙ ap (λ b. if are_ended (all_again ρ statements) then cases_go (choice test others cs) else (b && rest_goes others cs)) (simp (encloses_again ρ false test, is_absent_again ρ test, declares_nothing_again ρ test))
    ∙ ap (λ b. if any b then cases_go (choice test others cs) else (test_goes test && rest_goes others cs)) (are_terminated_again ρ statements)

pub running_again : (ρ : Renaming) (statements : Trees) (no_choices : Choices) → running (all_again ρ statements) (again_choices ρ no_choices) ≡ all_again ρ (running statements no_choices)
running_again ρ statements no_choices = refl
running_again ρ statements (choice test others cs) = simp (if_all_again ρ (are_ended statements) (append statements (left_cases (choice test others cs))) (append statements (running others cs)), are_terminated_again ρ statements, left_cases_again ρ (choice test others cs), append_again ρ statements (left_cases (choice test others cs)), running_again ρ others cs, append_again ρ statements (running others cs))

pub row81_again : (ρ : Renaming) (n w : Tree) → Row81 n w → Row81 (again ρ n) (again ρ w)
row81_again ρ n w r = record {
  discriminant = again ρ r.discriminant;
  value = r.value;
  before = again_choices ρ r.before;
  test = again ρ r.test;
  statements = all_again ρ r.statements;
  after = again_choices ρ r.after;
  asks = simp (declares_nothing_again ρ r.discriminant, value_within_again ρ true operand_depth r.discriminant) r.asks;
  taken = taken_again ρ r.value r.before r.test r.after r.taken;
  several = simp (are_several_again ρ r.before r.after) r.several;
  loose = simp (before_others_again ρ r.before (choice r.test r.statements r.after), are_loose_again ρ (before_others r.before (choice r.test r.statements r.after))) r.loose;
  dropped = simp (cases_go_again ρ r.before) r.dropped;
  rest_dropped = simp (rest_goes_again ρ r.statements r.after) r.rest_dropped;
  shape = simp (← (before_others_again ρ r.before (choice r.test r.statements r.after)), ← (cases_of_again ρ (before_others r.before (choice r.test r.statements r.after)))) at (ap (again ρ) r.shape);
  written = simp (← (left_cases_again ρ r.before), ← (running_again ρ r.statements r.after), ← (append_again ρ (left_cases r.before) (running r.statements r.after)), ← (cases_of_again ρ (choice r.test (append (left_cases r.before) (running r.statements r.after)) no_choices))) at (ap (again ρ) r.written);
}

pub row81_none_again : (ρ : Renaming) (n w : Tree) → Row81None n w → Row81None (again ρ n) (again ρ w)
row81_none_again ρ n w r = record {
  discriminant = again ρ r.discriminant;
  value = r.value;
  test = again ρ r.test;
  statements = all_again ρ r.statements;
  after = again_choices ρ r.after;
  asks = simp (declares_nothing_again ρ r.discriminant, value_within_again ρ true operand_depth r.discriminant) r.asks;
  missed = all_missed_again ρ r.value (choice r.test r.statements r.after) r.missed;
  several = simp (are_several_again ρ no_choices r.after) r.several;
  loose = simp (are_loose_again ρ (choice r.test r.statements r.after)) r.loose;
  dropped = simp (cases_go_again ρ (choice r.test r.statements r.after)) r.dropped;
  shape = simp (← (cases_of_again ρ (choice r.test r.statements r.after))) at (ap (again ρ) r.shape);
  written = simp (← (left_cases_again ρ (choice r.test r.statements r.after)), ← (cases_of_again ρ (choice r.test (left_cases (choice r.test r.statements r.after)) no_choices))) at (ap (again ρ) r.written);
}

pub dead_case_row_again : (ρ : Renaming) (n w : Tree) → DeadCaseRow n w → DeadCaseRow (again ρ n) (again ρ w)
dead_case_row_again ρ n w (inl r) = inl (row81_again ρ n w r)
dead_case_row_again ρ n w (inr r) = inr (row81_none_again ρ n w r)

pub known_again : (ρ : Renaming) (a_null : Known) → again ρ (known a_null) ≡ known a_null
known_again ρ (a_number n) = refl
known_again ρ (a_text s) = refl
known_again ρ (a_truth true) = refl
known_again ρ (a_truth false) = refl
known_again ρ a_null = refl
known_again ρ undefined = refl
