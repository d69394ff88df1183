-- Rows of branches and of bodies of loops read a node that is read again.
use Rattle.mini_again.proofs.CasesAgain.{one_case_row_again}
use Rattle.mini_again.proofs.DeadCasesAgain.{dead_case_row_again}
use Rattle.mini_again.proofs.InListAgain.{of_either}
use Rattle.mini_again.proofs.LoopsAgain.{row84_again}
use Rattle.mini_again.proofs.ModelPathsAgain.{append_again}
use Rattle.mini_again.proofs.ModelTermsAgain.{has_negated_result_again, not_of_again}
use Rattle.mini_again.proofs.ModelTreeAgain.{is_absent_again, shape_of_again}
use Rattle.mini_again.proofs.Names.{if_again}
use Rattle.mini_again.proofs.SpellingsAgain.{is_undefined_again}
use Rattle.mini_again.proofs.TermCalculatedAgain.{value_within_again}
use Rattle.mini_again.proofs.TermEffectsAgain.{ef_again}
use Rattle.mini_again.proofs.TermPartsAgain.{leaves_nothing_again}
use Rattle.mini_again.specs.Again.{Renaming, again, all_again}
use Rattle.mini_model.specs.Paths.{append}
use Rattle.mini_model.specs.Position.{if_test_seat}
use Rattle.mini_model.specs.Tree.{Tree, empty_statement, node, none, ◌▸◌}
use Rattle.mini_model.specs.declared.place.Position.{Position}
use Rattle.mini_model.specs.declared.place.Position.TheVariants.{Stmt}
use Rattle.mini_rows.specs.Branches.{Alternate, BodyRow, BranchRow, Consequent, DoBody, Ending, ForBody, IfRow, InBody, IsEmpty, IsFalse, IsIdleVoid, OfBody, Row60, Row78, Row78Block, Row78Do, Row78Never, Row78Once, Row78Whole, Row79, Row82Empty, Row82EmptyAnd, Row82EmptyOr, Row82Ends, Row82EndsAnd, Row82EndsOr, Row83, Row83Alone, Row83Block, Row83Else, Row83Nested, StatementRow, Surrounding, SwitchRow, WhileBody, after, around, bare_continue, conjunct_seat, has_else, is_loop, keeps_block, not_of_all, with_not, without_not}
use Rattle.mini_rows.specs.Lists.{block}
use Rattle.mini_rows.specs.Loops.{bare_break}
use Rattle.mini_terms.specs.Calculated.{operand_depth}
use Rattle.std.proofs.Common.{ap, inl, inr}
use Rattle.std.specs.Prelude.{false, refl, true, ◌≡◌}
use Rattle.mini_model.specs.declared.shape.Shape.TheVariants as shape

abbrev pub again_ending : Renaming → Ending → Ending
again_ending ρ (not_of_all a) = not_of_all (again ρ a)
again_ending ρ (after a0 a1 a2) = after (again ρ a0) (all_again ρ a1) (again_ending ρ a2)

abbrev pub again_surrounding : Renaming → Surrounding → Surrounding
again_surrounding ρ (Consequent a0 a1) = Consequent (again ρ a0) (again ρ a1)
again_surrounding ρ (Alternate a0 a1) = Alternate (again ρ a0) (again ρ a1)
again_surrounding ρ (WhileBody a) = WhileBody (again ρ a)
again_surrounding ρ (DoBody a) = DoBody (again ρ a)
again_surrounding ρ (ForBody a0 a1 a2) = ForBody (again ρ a0) (again ρ a1) (again ρ a2)
again_surrounding ρ (InBody a0 a1) = InBody (again ρ a0) (again ρ a1)
again_surrounding ρ (OfBody a0 a1) = OfBody (again ρ a0) (again ρ a1)

pub around_again : (ρ : Renaming) (s : Surrounding) (c : Tree) → around (again_surrounding ρ s) (again ρ c) ≡ again ρ (around s c)
around_again ρ (Consequent a u) c = refl
around_again ρ (Alternate a s) c = refl
around_again ρ (WhileBody a) c = refl
around_again ρ (DoBody a) c = refl
around_again ρ (ForBody init test update) c = refl
around_again ρ (InBody left right) c = refl
around_again ρ (OfBody left right) c = refl

pub is_loop_again : (ρ : Renaming) (k : Surrounding) → is_loop (again_surrounding ρ k) ≡ is_loop k
is_loop_again ρ (Consequent a u) = refl
is_loop_again ρ (Alternate a s) = refl
is_loop_again ρ k = refl

pub row78_block_again : (ρ : Renaming) (n w : Tree) → Row78Block n w → Row78Block (again ρ n) (again ρ w)
row78_block_again ρ n w r = record {
  place = again_surrounding ρ r.place;
  before = all_again ρ r.before;
  loop = simp (is_loop_again ρ r.place) r.loop;
  shape = simp (← (append_again ρ r.before (bare_continue ▸ none)), ← (around_again ρ r.place (block (append r.before (bare_continue ▸ none))))) at (ap (again ρ) r.shape);
  written = simp (← (around_again ρ r.place (block r.before))) at (ap (again ρ) r.written);
}

pub row78_whole_again : (ρ : Renaming) (n w : Tree) → Row78Whole n w → Row78Whole (again ρ n) (again ρ w)
row78_whole_again ρ n w r = record {
  place = again_surrounding ρ r.place;
  loop = simp (is_loop_again ρ r.place) r.loop;
  shape = simp (← (around_again ρ r.place bare_continue)) at (ap (again ρ) r.shape);
  written = simp (← (around_again ρ r.place empty_statement)) at (ap (again ρ) r.written);
}

pub row78_again : (ρ : Renaming) (n w : Tree) → Row78 n w → Row78 (again ρ n) (again ρ w)
row78_again ρ n w (inl r) = inl (row78_block_again ρ n w r)
row78_again ρ n w (inr r) = inr (row78_whole_again ρ n w r)

pub is_false_again : (ρ : Renaming) (t : Tree) → IsFalse t → IsFalse (again ρ t)
is_false_again ρ t r = record {
  value = r.value;
  fails = r.fails;
  is = simp (value_within_again ρ false operand_depth t) r.is;
}

pub row78_never_again : (ρ : Renaming) (n w : Tree) → Row78Never n w → Row78Never (again ρ n) (again ρ w)
row78_never_again ρ n w r = record {
  test = again ρ r.test;
  fails = is_false_again ρ r.test r.fails;
  shape = simp (← (around_again ρ (DoBody r.test) bare_break)) at (ap (again ρ) r.shape);
  written = simp (← (around_again ρ (DoBody r.test) empty_statement)) at (ap (again ρ) r.written);
}

pub row78_once_again : (ρ : Renaming) (n w : Tree) → Row78Once n w → Row78Once (again ρ n) (again ρ w)
row78_once_again ρ n w r = record {
  test = again ρ r.test;
  before = all_again ρ r.before;
  fails = is_false_again ρ r.test r.fails;
  shape = simp (← (append_again ρ r.before (bare_break ▸ none)), ← (around_again ρ (DoBody r.test) (block (append r.before (bare_break ▸ none))))) at (ap (again ρ) r.shape);
  written = simp (← (around_again ρ (DoBody r.test) (block r.before))) at (ap (again ρ) r.written);
}

pub row78_do_again : (ρ : Renaming) (n w : Tree) → Row78Do n w → Row78Do (again ρ n) (again ρ w)
row78_do_again ρ n w (inl r) = inl (row78_once_again ρ n w r)
row78_do_again ρ n w (inr r) = inr (row78_never_again ρ n w r)

pub has_else_again : (ρ : Renaming) (t : Tree) → has_else (again ρ t) ≡ has_else t
has_else_again ρ (node shape.IfStatement xs n (a ▸ (b ▸ (c ▸ ts)))) = simp (is_absent_again ρ c)
has_else_again ρ _ = refl

pub keeps_block_again : (ρ : Renaming) (k : Surrounding) (c : Tree) → keeps_block (again_surrounding ρ k) (again ρ c) ≡ keeps_block k c
keeps_block_again ρ (Consequent a u) c = simp (has_else_again ρ c)
keeps_block_again ρ k c = refl

pub row79_again : (ρ : Renaming) (n w : Tree) → Row79 n w → Row79 (again ρ n) (again ρ w)
row79_again ρ n w r = record {
  place = again_surrounding ρ r.place;
  statement = again ρ r.statement;
  unscoped = simp (shape_of_again ρ r.statement) r.unscoped;
  bare = simp (keeps_block_again ρ r.place r.statement) r.bare;
  shape = simp (← (around_again ρ r.place (block (r.statement ▸ none)))) at (ap (again ρ) r.shape);
  written = simp (← (around_again ρ r.place r.statement)) at (ap (again ρ) r.written);
}

pub body_row_again : (ρ : Renaming) (n w : Tree) → BodyRow n w → BodyRow (again ρ n) (again ρ w)
body_row_again ρ n w (inl r) = inl (row79_again ρ n w r)
body_row_again ρ n w (inr (inl r)) = inr (inl (row78_again ρ n w r))
body_row_again ρ n w (inr (inr (inl r))) = inr (inr (inl (row78_do_again ρ n w r)))
body_row_again ρ n w (inr (inr (inr r))) = inr (inr (inr (row84_again ρ n w r)))

pub is_empty_again : (ρ : Renaming) (t : Tree) → IsEmpty t → IsEmpty (again ρ t)
is_empty_again ρ t (inl r) = inl (ap (again ρ) r)
is_empty_again ρ t (inr r) = inr (ap (again ρ) r)

pub row82_empty_and_again : (ρ : Renaming) (n w : Tree) → Row82EmptyAnd n w → Row82EmptyAnd (again ρ n) (again ρ w)
row82_empty_and_again ρ n w r = record {
  a = again ρ r.a;
  empty = again ρ r.empty;
  b = again ρ r.b;
  is_empty = is_empty_again ρ r.empty r.is_empty;
  negated = simp (has_negated_result_again ρ r.a) r.negated;
  shape = ap (again ρ) r.shape;
  written = simp (← (not_of_again ρ conjunct_seat r.a)) at (ap (again ρ) r.written);
}

pub row82_empty_or_again : (ρ : Renaming) (n w : Tree) → Row82EmptyOr n w → Row82EmptyOr (again ρ n) (again ρ w)
row82_empty_or_again ρ n w r = record {
  a = again ρ r.a;
  empty = again ρ r.empty;
  b = again ρ r.b;
  is_empty = is_empty_again ρ r.empty r.is_empty;
  plain = simp (has_negated_result_again ρ r.a) r.plain;
  shape = ap (again ρ) r.shape;
  written = ap (again ρ) r.written;
}

pub row82_empty_again : (ρ : Renaming) (n w : Tree) → Row82Empty n w → Row82Empty (again ρ n) (again ρ w)
row82_empty_again ρ n w (inl r) = inl (row82_empty_or_again ρ n w r)
row82_empty_again ρ n w (inr r) = inr (row82_empty_and_again ρ n w r)

pub with_not_again : (ρ : Renaming) (e : Ending) → with_not (again_ending ρ e) ≡ again ρ (with_not e)
with_not_again ρ (not_of_all a) = refl
with_not_again ρ (after a bs c) = simp (with_not_again ρ c, append_again ρ bs (with_not c ▸ none))

pub without_not_again : (ρ : Renaming) (e : Ending) → without_not (again_ending ρ e) ≡ again ρ (without_not e)
without_not_again ρ (not_of_all a) = refl
without_not_again ρ (after a bs c) = simp (without_not_again ρ c, append_again ρ bs (without_not c ▸ none))

pub row82_ends_and_again : (ρ : Renaming) (n w : Tree) → Row82EndsAnd n w → Row82EndsAnd (again ρ n) (again ρ w)
row82_ends_and_again ρ n w r = record {
  first = again ρ r.first;
  others = all_again ρ r.others;
  last = again_ending ρ r.last;
  empty = again ρ r.empty;
  b = again ρ r.b;
  is_empty = is_empty_again ρ r.empty r.is_empty;
  shape = simp (← (with_not_again ρ (after r.first r.others r.last))) at (ap (again ρ) r.shape);
  written = simp (← (without_not_again ρ (after r.first r.others r.last))) at (ap (again ρ) r.written);
}

pub row82_ends_or_again : (ρ : Renaming) (n w : Tree) → Row82EndsOr n w → Row82EndsOr (again ρ n) (again ρ w)
row82_ends_or_again ρ n w r = record {
  first = again ρ r.first;
  others = all_again ρ r.others;
  last = again_ending ρ r.last;
  b = again ρ r.b;
  shape = simp (← (with_not_again ρ (after r.first r.others r.last))) at (ap (again ρ) r.shape);
  written = simp (← (without_not_again ρ (after r.first r.others r.last))) at (ap (again ρ) r.written);
}

pub row82_ends_again : (ρ : Renaming) (n w : Tree) → Row82Ends n w → Row82Ends (again ρ n) (again ρ w)
row82_ends_again ρ n w (inl r) = inl (row82_ends_or_again ρ n w r)
row82_ends_again ρ n w (inr r) = inr (row82_ends_and_again ρ n w r)

pub row83_alone_again : (ρ : Renaming) (n w : Tree) → Row83Alone n w → Row83Alone (again ρ n) (again ρ w)
row83_alone_again ρ n w r = record {
  a = again ρ r.a;
  empty = again ρ r.empty;
  is_empty = is_empty_again ρ r.empty r.is_empty;
  shape = ap (again ρ) r.shape;
  written = ap (again ρ) r.written;
}

pub row83_block_again : (ρ : Renaming) (n w : Tree) → Row83Block n w → Row83Block (again ρ n) (again ρ w)
row83_block_again ρ n w r = record {
  a = again ρ r.a;
  c = again ρ r.c;
  u = again ρ r.u;
  chooses = simp (has_else_again ρ r.c) r.chooses;
  shape = ap (again ρ) r.shape;
  written = ap (again ρ) r.written;
}

pub row83_else_again : (ρ : Renaming) (n w : Tree) → Row83Else n w → Row83Else (again ρ n) (again ρ w)
row83_else_again ρ n w r = record {
  a = again ρ r.a;
  empty = again ρ r.empty;
  u = again ρ r.u;
  is_empty = is_empty_again ρ r.empty r.is_empty;
  other = simp (shape_of_again ρ r.u) r.other;
  shape = ap (again ρ) r.shape;
  written = simp (← (has_else_again ρ r.u)) at (simp (← (not_of_again ρ if_test_seat r.a), ← (if_again ρ (has_else r.u) (block (r.u ▸ none)) r.u)) at (ap (again ρ) r.written));
}

pub row83_nested_again : (ρ : Renaming) (n w : Tree) → Row83Nested n w → Row83Nested (again ρ n) (again ρ w)
row83_nested_again ρ n w r = record {
  a = again ρ r.a;
  b = again ρ r.b;
  s = again ρ r.s;
  shape = ap (again ρ) r.shape;
  written = ap (again ρ) r.written;
}

pub row83_again : (ρ : Renaming) (n w : Tree) → Row83 n w → Row83 (again ρ n) (again ρ w)
row83_again ρ n w (inl r) = inl (row83_alone_again ρ n w r)
row83_again ρ n w (inr (inl r)) = inr (inl (row83_else_again ρ n w r))
row83_again ρ n w (inr (inr (inl r))) = inr (inr (inl (row83_nested_again ρ n w r)))
row83_again ρ n w (inr (inr (inr r))) = inr (inr (inr (row83_block_again ρ n w r)))

pub if_row_again : (ρ : Renaming) (n w : Tree) → IfRow n w → IfRow (again ρ n) (again ρ w)
if_row_again ρ n w (inl r) = inl (row82_empty_again ρ n w r)
if_row_again ρ n w (inr (inl r)) = inr (inl (row83_again ρ n w r))
if_row_again ρ n w (inr (inr r)) = inr (inr (row82_ends_again ρ n w r))

pub is_idle_void_again : (ρ : Renaming) (t : Tree) → IsIdleVoid t → IsIdleVoid (again ρ t)
is_idle_void_again ρ t r = record {
  operand = again ρ r.operand;
  effect_free = simp (ef_again ρ true r.operand) r.effect_free;
  dropped = simp (leaves_nothing_again ρ r.operand) r.dropped;
  is = ap (again ρ) r.is;
}

pub row60_again : (ρ : Renaming) (n w : Tree) → Row60 n w → Row60 (again ρ n) (again ρ w)
row60_again ρ n w r = record {
  argument = again ρ r.argument;
  undefined = of_either (λ x. is_undefined_again ρ r.argument x) (λ x. is_idle_void_again ρ r.argument x) r.undefined;
  shape = ap (again ρ) r.shape;
  written = ap (again ρ) r.written;
}

pub switch_row_again : (ρ : Renaming) (n w : Tree) → SwitchRow n w → SwitchRow (again ρ n) (again ρ w)
switch_row_again ρ n w (inl r) = inl (one_case_row_again ρ n w r)
switch_row_again ρ n w (inr r) = inr (dead_case_row_again ρ n w r)

pub statement_row_again : (ρ : Renaming) (n w : Tree) → StatementRow n w → StatementRow (again ρ n) (again ρ w)
statement_row_again ρ n w (inl r) = inl (row60_again ρ n w r)
statement_row_again ρ n w (inr r) = inr (switch_row_again ρ n w r)

pub branch_row_again : (ρ : Renaming) (p : Position) (n w : Tree) → BranchRow p n w → BranchRow p (again ρ n) (again ρ w)
branch_row_again ρ (Stmt q) n w (inl r) = inl (statement_row_again ρ n w r)
branch_row_again ρ (Stmt q) n w (inr (inl r)) = inr (inl (body_row_again ρ n w r))
branch_row_again ρ (Stmt q) n w (inr (inr r)) = inr (inr (if_row_again ρ n w r))
branch_row_again ρ p0 n w r = absurd r
