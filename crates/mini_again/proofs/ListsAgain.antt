-- Rows of lists of statements read a node that is read again.
use Rattle.mini_again.proofs.InListAgain.{absent_or_not, at_end_again, in_list_again, of_either}
use Rattle.mini_again.proofs.LawDeclaredNamesAgain.{names_of_again}
use Rattle.mini_again.proofs.ModelPathsAgain.{append_again}
use Rattle.mini_again.proofs.ModelTreeAgain.{child_or_absent_again, children_again, count_again, is_absent_again, shape_of_again}
use Rattle.mini_again.proofs.ModelWeightAgain.{weight_again}
use Rattle.mini_again.proofs.Names.{if_again}
use Rattle.mini_again.proofs.NestingAgain.{are_shallow_again, is_shallow_again}
use Rattle.mini_again.proofs.TermPartsAgain.{leaves_nothing_again}
use Rattle.mini_again.specs.Again.{Renaming, again, all_again}
use Rattle.mini_laws.specs.DeclaredNames.{names_of}
use Rattle.mini_laws.specs.Renaming.{rename_name}
use Rattle.mini_model.specs.Paths.{append}
use Rattle.mini_model.specs.Tree.{Tree, Trees, absent, child_or_absent, children, identifier, is_absent, listed, node, none, shape_of, ◌▸◌}
use Rattle.mini_model.specs.declared.kind.VariableDeclarationKind.TheVariants.{Const}
use Rattle.mini_model.specs.declared.name.Name.{Name}
use Rattle.mini_model.specs.declared.place.Position.{Position}
use Rattle.mini_model.specs.declared.place.Position.TheVariants.{BodyList, StatementList, Stmt}
use Rattle.mini_model.specs.declared.shape.Shape.{Shape}
use Rattle.mini_rows.specs.Lists.{Alone, AsReturn, AsStatement, AsThrow, Before, Beginning, Breaks, Continues, Declaring, Each, EachIn, EachOf, EndRow, EntersRow, For, Going, GuardsRow, Head, Heading, Holder, If, Init, JoinRow, Leap, ListRow, LoopRow, Looping, NeighbourRow, Return, Row66Empty, Row66Joined, Row67, Row67Absent, Row67In, Row68, Row68Free, Row68Init, Row69, Row70, Row73, Row73Bare, Row74, Row75, Row75Block, Row76, Row77, Row77Leap, Row77Unreached, Row78, Row79, Saying, SequencesRow, Statement, StretchRow, Switch, Throw, all_bind, all_enclose, alternate_of, are_bare_declarators, are_parts, are_terminated, are_unscoped, assigned, bare_declarators, bare_return, bare_var, begins_well, begun, begun_without, binding, binds, declarator, declared_bare, declares_nothing, each_loop, encloses, encloses_by, first_binds, first_declares_nothing, holding, holds, holds_well, is_terminated, leap, left_behind, of_parts, resolved, return_statement, says, sequence, throw_statement, void_zero, with_head}
use Rattle.mini_rows.specs.Switches.{Switches}
use Rattle.std.proofs.Common.{ap, inl, inr}
use Rattle.std.specs.Prelude.{Bool, List, [], false, map, refl, suc, true, ℕ, ◌∷◌, ◌≡◌}
use Rattle.mini_laws.specs.declared.names.Declared.TheVariants as declared
use Rattle.mini_model.specs.declared.seat.StmtSeat.TheVariants as stmt_seat
use Rattle.mini_model.specs.declared.shape.Shape.TheVariants as shape

abbrev pub again_head : Renaming → Head → Head
again_head ρ Return = Return
again_head ρ Throw = Throw
again_head ρ (If a0 a1) = If (again ρ a0) (again ρ a1)
again_head ρ (Switch a) = Switch (again ρ a)
again_head ρ (For a0 a1 a2) = For (again ρ a0) (again ρ a1) (again ρ a2)

abbrev pub again_holder : Renaming → Holder → Holder
again_holder ρ Statement = Statement
again_holder ρ (Heading a) = Heading (again_head ρ a)
again_holder ρ (Going a0 a1 a2) = Going a0 (again ρ a1) (again ρ a2)
again_holder ρ (Declaring a0 a1 a2) = Declaring a0 (again ρ a1) (all_again ρ a2)
again_holder ρ (Looping a0 a1 a2 a3 a4) = Looping (again ρ a0) (all_again ρ a1) (again ρ a2) (again ρ a3) (again ρ a4)

abbrev pub again_beginning : Renaming → Beginning → Beginning
again_beginning ρ Alone = Alone
again_beginning ρ (Init a0 a1 a2) = Init (again ρ a0) (again ρ a1) (again ρ a2)
again_beginning ρ (Before a0 a1 a2) = Before (again_holder ρ a0) (again ρ a1) (all_again ρ a2)

pub are_unscoped_again : (ρ : Renaming) (ts : Trees) → are_unscoped (all_again ρ ts) ≡ are_unscoped ts
are_unscoped_again ρ none = refl
are_unscoped_again ρ (t ▸ ts) = simp (shape_of_again ρ t, are_unscoped_again ρ ts)

pub row75_again : (ρ : Renaming) (jump : Tree) (a b : Trees) → Row75 jump a b → Row75 (again ρ jump) (all_again ρ a) (all_again ρ b)
row75_again ρ jump a b r = record {
  test = again ρ r.test;
  rest = all_again ρ r.rest;
  unscoped = simp (are_unscoped_again ρ r.rest) r.unscoped;
  shallow = simp (are_shallow_again ρ 500 r.rest) r.shallow;
  shape = ap (all_again ρ) r.shape;
  written = ap (all_again ρ) r.written;
}

pub alternate_of_again : (ρ : Renaming) (ts : Trees) → alternate_of (all_again ρ ts) ≡ again ρ (alternate_of ts)
alternate_of_again ρ none = refl
alternate_of_again ρ (t ▸ ts) = refl

pub row75_block_again : (ρ : Renaming) (jump : Tree) (a b : Trees) → Row75Block jump a b → Row75Block (again ρ jump) (all_again ρ a) (all_again ρ b)
row75_block_again ρ jump a b r = record {
  test = again ρ r.test;
  body = all_again ρ r.body;
  rest = all_again ρ r.rest;
  loose = simp (are_unscoped_again ρ r.body) r.loose;
  unscoped = simp (are_unscoped_again ρ r.rest) r.unscoped;
  shallow = simp (are_shallow_again ρ 500 r.rest) r.shallow;
  shape = simp (← (append_again ρ r.body (jump ▸ none))) at (ap (all_again ρ) r.shape);
  written = simp (← (alternate_of_again ρ r.rest)) at (ap (all_again ρ) r.written);
}

pub row78_again : (ρ : Renaming) (jump : Tree) (a b : Trees) → Row78 jump a b → Row78 (again ρ jump) (all_again ρ a) (all_again ρ b)
row78_again ρ jump a b r = record {
  shape = ap (all_again ρ) r.shape;
  written = ap (all_again ρ) r.written;
}

pub end_row_again : (ρ : Renaming) (o : Switches) (jump : Tree) (a b : Trees) → EndRow o jump a b → EndRow o (again ρ jump) (all_again ρ a) (all_again ρ b)
end_row_again ρ o jump a b (inl r) = inl (row78_again ρ jump a b r)
end_row_again ρ o jump a b (inr r) = inr ((r.0, of_either (λ x. row75_again ρ jump a b x) (λ x. row75_block_again ρ jump a b x) r.1))

pub each_loop_again : (ρ : Renaming) (e : Each) (left right body : Tree) → each_loop e (again ρ left) (again ρ right) (again ρ body) ≡ again ρ (each_loop e left right body)
each_loop_again ρ EachIn left right body = refl
each_loop_again ρ EachOf left right body = refl

pub row69_again : (ρ : Renaming) (k : Each) (a b : Trees) → Row69 k a b → Row69 k (all_again ρ a) (all_again ρ b)
row69_again ρ k a b r = record {
  spelling = r.spelling;
  symbol = ρ.symbol r.symbol;
  right = again ρ r.right;
  body = again ρ r.body;
  shape = simp (← (each_loop_again ρ k (identifier (resolved r.spelling r.symbol)) r.right r.body)) at (ap (all_again ρ) r.shape);
  written = simp (← (each_loop_again ρ k (bare_var (resolved r.spelling r.symbol)) r.right r.body)) at (ap (all_again ρ) r.written);
}

pub are_bare_declarators_again : (ρ : Renaming) (ts : Trees) → are_bare_declarators (all_again ρ ts) ≡ are_bare_declarators ts
are_bare_declarators_again ρ none = refl
are_bare_declarators_again ρ (d ▸ ds) = simp (shape_of_again ρ d, children_again ρ d, count_again ρ (children d), child_or_absent_again ρ (children d) 1, is_absent_again ρ (child_or_absent (children d) 1), are_bare_declarators_again ρ ds)

mutual
  pub declares_nothing_again : (ρ : Renaming) (t : Tree) → declares_nothing (again ρ t) ≡ declares_nothing t
  declares_nothing_again ρ (node h xs n ts) = simp (first_declares_nothing_again ρ ts)

  pub first_declares_nothing_again : (ρ : Renaming) (ts : Trees) → first_declares_nothing (all_again ρ ts) ≡ first_declares_nothing ts
  first_declares_nothing_again ρ none = refl
  first_declares_nothing_again ρ (t ▸ ts) = simp (declares_nothing_again ρ t)

pub are_parts_again : (ρ : Renaming) (p : Tree) (ts : Trees) → are_parts (again ρ p) (all_again ρ ts) ≡ are_parts p ts
are_parts_again ρ p none = simp (shape_of_again ρ p, declares_nothing_again ρ p)
are_parts_again ρ p (q ▸ qs) = refl

pub holds_well_again : (ρ : Renaming) (h : Holder) → holds_well (again_holder ρ h) ≡ holds_well h
holds_well_again ρ (Going k left body) = simp (declares_nothing_again ρ left, shape_of_again ρ left, children_again ρ left, count_again ρ (children left), child_or_absent_again ρ (children left) 0, shape_of_again ρ (child_or_absent (children left) 0), children_again ρ (child_or_absent (children left) 0), count_again ρ (children (child_or_absent (children left) 0)), child_or_absent_again ρ (children (child_or_absent (children left) 0)) 0, shape_of_again ρ (child_or_absent (children (child_or_absent (children left) 0)) 0), children_again ρ (child_or_absent (children (child_or_absent (children left) 0)) 0), count_again ρ (children (child_or_absent (children (child_or_absent (children left) 0)) 0)), child_or_absent_again ρ (children (child_or_absent (children (child_or_absent (children left) 0)) 0)) 1, is_absent_again ρ (child_or_absent (children (child_or_absent (children (child_or_absent (children left) 0)) 0)) 1))
holds_well_again ρ _ = refl

pub begins_well_again : (ρ : Renaming) (b : Beginning) → begins_well (again_beginning ρ b) ≡ begins_well b
begins_well_again ρ (Before h q qs) = simp (holds_well_again ρ h, are_parts_again ρ q qs)
begins_well_again ρ _ = refl

pub with_head_again : (ρ : Renaming) (h : Head) (e : Tree) → with_head (again_head ρ h) (again ρ e) ≡ again ρ (with_head h e)
with_head_again ρ Return e = refl
with_head_again ρ Throw e = refl
with_head_again ρ (If u v) e = refl
with_head_again ρ (Switch cases) e = refl
with_head_again ρ (For u v w) e = refl

pub holding_again : (ρ : Renaming) (h : Holder) (e : Tree) → holding (again_holder ρ h) (again ρ e) ≡ again ρ (holding h e)
holding_again ρ Statement e = refl
holding_again ρ (Heading h) e = simp (with_head_again ρ h e)
holding_again ρ (Going k left body) e = simp (each_loop_again ρ k left e body)
holding_again ρ (Declaring kind id ds) e = refl
holding_again ρ (Looping id ds test update body) e = refl

pub begun_again : (ρ : Renaming) (b : Beginning) (a : Tree) → begun (again_beginning ρ b) (again ρ a) ≡ again ρ (begun b a)
begun_again ρ Alone a = refl
begun_again ρ (Init u v w) a = refl
begun_again ρ (Before h q qs) a = simp (holding_again ρ h (sequence (a ▸ (q ▸ qs))))

pub of_parts_again : (ρ : Renaming) (p : Tree) (ts : Trees) → of_parts (again ρ p) (all_again ρ ts) ≡ again ρ (of_parts p ts)
of_parts_again ρ p none = refl
of_parts_again ρ p (q ▸ qs) = refl

pub begun_without_again : (ρ : Renaming) (b : Beginning) → begun_without (again_beginning ρ b) ≡ all_again ρ (begun_without b)
begun_without_again ρ Alone = refl
begun_without_again ρ (Init u v w) = refl
begun_without_again ρ (Before h q qs) = simp (of_parts_again ρ q qs, holding_again ρ h (of_parts q qs))

pub row70_again : (ρ : Renaming) (a b : Trees) → Row70 a b → Row70 (all_again ρ a) (all_again ρ b)
row70_again ρ a b r = record {
  ds = all_again ρ r.ds;
  spelling = r.spelling;
  symbol = ρ.symbol r.symbol;
  es = all_again ρ r.es;
  value = again ρ r.value;
  beginning = again_beginning ρ r.beginning;
  bare = simp (are_bare_declarators_again ρ r.es) r.bare;
  plain = simp (declares_nothing_again ρ r.value) r.plain;
  parts = simp (begins_well_again ρ r.beginning) r.parts;
  shape = simp (← (append_again ρ r.ds (declarator (binding (resolved r.spelling r.symbol)) absent ▸ r.es)), ← (begun_again ρ r.beginning (assigned (resolved r.spelling r.symbol) r.value))) at (ap (all_again ρ) r.shape);
  written = simp (← (append_again ρ r.ds (declarator (binding (resolved r.spelling r.symbol)) r.value ▸ r.es)), ← (begun_without_again ρ r.beginning)) at (ap (all_again ρ) r.written);
}

pub enters_row_again : (ρ : Renaming) (o : Switches) (a b : Trees) → EntersRow o a b → EntersRow o (all_again ρ a) (all_again ρ b)
enters_row_again ρ o a b (inl r) = inl (row70_again ρ a b r)
enters_row_again ρ o a b (inr (inl r)) = inr (inl (row69_again ρ EachOf a b r))
enters_row_again ρ o a b (inr (inr r)) = inr (inr ((r.0, row69_again ρ EachIn a b r.1)))

mutual
  pub are_terminated_again : (ρ : Renaming) (ts : Trees) → are_terminated (all_again ρ ts) ≡ are_terminated ts
  are_terminated_again ρ none = refl
  are_terminated_again ρ (t ▸ ts) = simp (is_terminated_again ρ t, are_terminated_again ρ ts)

  pub is_terminated_again : (ρ : Renaming) (t : Tree) → is_terminated (again ρ t) ≡ is_terminated t
  is_terminated_again ρ (node h xs n ts) = simp (are_terminated_again ρ ts)

pub row74_again : (ρ : Renaming) (a b : Trees) → Row74 a b → Row74 (all_again ρ a) (all_again ρ b)
row74_again ρ a b r = record {
  left = again ρ r.left;
  right = again ρ r.right;
  s = again ρ r.s;
  u = again ρ r.u;
  terminated = simp (is_terminated_again ρ r.s) r.terminated;
  shallow = simp (is_shallow_again ρ 499 r.left, is_shallow_again ρ 499 r.right) r.shallow;
  shape = ap (all_again ρ) r.shape;
  written = ap (all_again ρ) r.written;
}

pub says_again : (ρ : Renaming) (s : Saying) (e : Tree) → says s (again ρ e) ≡ again ρ (says s e)
says_again ρ AsStatement e = refl
says_again ρ AsReturn e = refl
says_again ρ AsThrow e = refl

pub row77_again : (ρ : Renaming) (a b : Trees) → Row77 a b → Row77 (all_again ρ a) (all_again ρ b)
row77_again ρ a b r = record {
  first = again ρ r.first;
  saying = r.saying;
  e = again ρ r.e;
  terminated = simp (is_terminated_again ρ r.first) r.terminated;
  dropped = simp (leaves_nothing_again ρ r.e) r.dropped;
  shape = simp (← (says_again ρ r.saying r.e)) at (ap (all_again ρ) r.shape);
  written = ap (all_again ρ) r.written;
}

pub leap_again : (ρ : Renaming) (l : Leap) → again ρ (leap l) ≡ leap l
leap_again ρ Breaks = refl
leap_again ρ Continues = refl

pub row77_leap_again : (ρ : Renaming) (a b : Trees) → Row77Leap a b → Row77Leap (all_again ρ a) (all_again ρ b)
row77_leap_again ρ a b r = record {
  first = again ρ r.first;
  leaping = r.leaping;
  terminated = simp (is_terminated_again ρ r.first) r.terminated;
  shape = simp (leap_again ρ r.leaping) at (ap (all_again ρ) r.shape);
  written = ap (all_again ρ) r.written;
}

pub bare_declarators_again : (ρ : Renaming) (xs : List Name) → bare_declarators (map (rename_name ρ.symbol) xs) ≡ all_again ρ (bare_declarators xs)
bare_declarators_again ρ [] = refl
bare_declarators_again ρ (x ∷ xs) = simp (bare_declarators_again ρ xs)

pub declared_bare_again : (ρ : Renaming) (xs : List Name) → declared_bare (map (rename_name ρ.symbol) xs) ≡ all_again ρ (declared_bare xs)
declared_bare_again ρ [] = refl
declared_bare_again ρ (x ∷ xs) = simp (bare_declarators_again ρ (x ∷ xs))

mutual
  pub all_bind_again : (ρ : Renaming) (ts : Trees) → all_bind (all_again ρ ts) ≡ all_bind ts
  all_bind_again ρ none = refl
  all_bind_again ρ (t ▸ ts) = simp (binds_again ρ t, all_bind_again ρ ts)

  pub binds_again : (ρ : Renaming) (t : Tree) → binds (again ρ t) ≡ binds t
  binds_again ρ (node h xs n ts) = simp (all_bind_again ρ ts, first_binds_again ρ ts)

  pub first_binds_again : (ρ : Renaming) (ts : Trees) → first_binds (all_again ρ ts) ≡ first_binds ts
  first_binds_again ρ none = refl
  first_binds_again ρ (t ▸ ts) = simp (binds_again ρ t)

pub encloses_by_again : (ρ : Renaming) (held : Bool) (h : Shape) (ts : Trees) → encloses_by held h (all_again ρ ts) ≡ encloses_by held h ts
encloses_by_again ρ held (shape.VariableDeclaration Const) ts = simp (first_binds_again ρ ts)
encloses_by_again ρ held (shape.Function false is_generator directives) ts = simp (count_again ρ ts, child_or_absent_again ρ ts 0, shape_of_again ρ (child_or_absent ts 0))
encloses_by_again ρ held (shape.Class false) ts = simp (count_again ρ ts, child_or_absent_again ρ ts 0, shape_of_again ρ (child_or_absent ts 0))
encloses_by_again ρ held (shape.Class true) ts = simp (count_again ρ ts, child_or_absent_again ρ ts 3, shape_of_again ρ (child_or_absent ts 3))
encloses_by_again ρ held shape.ImportSpecifier ts = refl
encloses_by_again ρ held shape.ImportDefaultSpecifier ts = refl
encloses_by_again ρ held shape.ImportNamespaceSpecifier ts = refl
encloses_by_again ρ held h ts = refl

mutual
  pub all_enclose_again : (ρ : Renaming) (held : Bool) (h : Shape) (i : ℕ) (ts : Trees) → all_enclose held h i (all_again ρ ts) ≡ all_enclose held h i ts
  all_enclose_again ρ held h i none = refl
  all_enclose_again ρ held h i (t ▸ ts) = simp (shape_of_again ρ t, encloses_again ρ (holds held h i (shape_of t)) t, all_enclose_again ρ held h (suc i) ts)

  pub encloses_again : (ρ : Renaming) (held : Bool) (t : Tree) → encloses held (again ρ t) ≡ encloses held t
  encloses_again ρ held (node h xs n ts) = simp (encloses_by_again ρ held h ts, all_enclose_again ρ held h 0 ts)

pub row77_unreached_again : (ρ : Renaming) (a b : Trees) → Row77Unreached a b → Row77Unreached (all_again ρ a) (all_again ρ b)
row77_unreached_again ρ a b r = record {
  first = again ρ r.first;
  between = all_again ρ r.between;
  gone = again ρ r.gone;
  terminated = simp (is_terminated_again ρ r.first) r.terminated;
  unscoped = simp (shape_of_again ρ r.gone) r.unscoped;
  dropped = simp (encloses_again ρ false r.gone) r.dropped;
  lighter = simp (names_of_again ρ declared.Hoisted r.gone, declared_bare_again ρ (names_of declared.Hoisted r.gone), weight_again ρ StatementList (listed (left_behind r.gone)), weight_again ρ (Stmt stmt_seat.List) r.gone) r.lighter;
  shape = simp (← (append_again ρ r.between (r.gone ▸ none))) at (ap (all_again ρ) r.shape);
  written = simp (← (names_of_again ρ declared.Hoisted r.gone), ← (declared_bare_again ρ (names_of declared.Hoisted r.gone)), ← (append_again ρ r.between (left_behind r.gone))) at (ap (all_again ρ) r.written);
}

pub guards_row_again : (ρ : Renaming) (o : Switches) (a b : Trees) → GuardsRow o a b → GuardsRow o (all_again ρ a) (all_again ρ b)
guards_row_again ρ o a b r = (r.0, of_either (λ x. row74_again ρ a b x) (λ x. of_either (λ x1. row77_again ρ a b x1) (λ x1. of_either (λ x2. row77_leap_again ρ a b x2) (λ x2. row77_unreached_again ρ a b x2) x1) x) r.1)

pub row67_in_again : (ρ : Renaming) (a b : Trees) → Row67In a b → Row67In (all_again ρ a) (all_again ρ b)
row67_in_again ρ a b r = record {
  left = again ρ r.left;
  body = again ρ r.body;
  p = again ρ r.p;
  ps = all_again ρ r.ps;
  q = again ρ r.q;
  qs = all_again ρ r.qs;
  plain = simp (declares_nothing_again ρ r.left, shape_of_again ρ r.left, children_again ρ r.left, count_again ρ (children r.left), child_or_absent_again ρ (children r.left) 0, shape_of_again ρ (child_or_absent (children r.left) 0), children_again ρ (child_or_absent (children r.left) 0), count_again ρ (children (child_or_absent (children r.left) 0)), child_or_absent_again ρ (children (child_or_absent (children r.left) 0)) 0, shape_of_again ρ (child_or_absent (children (child_or_absent (children r.left) 0)) 0), children_again ρ (child_or_absent (children (child_or_absent (children r.left) 0)) 0), count_again ρ (children (child_or_absent (children (child_or_absent (children r.left) 0)) 0)), child_or_absent_again ρ (children (child_or_absent (children (child_or_absent (children r.left) 0)) 0)) 1, is_absent_again ρ (child_or_absent (children (child_or_absent (children (child_or_absent (children r.left) 0)) 0)) 1)) r.plain;
  first = simp (are_parts_again ρ r.p r.ps) r.first;
  second = simp (are_parts_again ρ r.q r.qs) r.second;
  shape = simp (← (of_parts_again ρ r.p r.ps), ← (of_parts_again ρ r.q r.qs)) at (ap (all_again ρ) r.shape);
  written = simp (← (append_again ρ r.ps (r.q ▸ r.qs)), ← (of_parts_again ρ r.p (append r.ps (r.q ▸ r.qs)))) at (ap (all_again ρ) r.written);
}

pub row68_free_again : (ρ : Renaming) (a b : Trees) → Row68Free a b → Row68Free (all_again ρ a) (all_again ρ b)
row68_free_again ρ a b r = record {
  ds = all_again ρ r.ds;
  test = again ρ r.test;
  update = again ρ r.update;
  body = again ρ r.body;
  shape = ap (all_again ρ) r.shape;
  written = ap (all_again ρ) r.written;
}

pub row68_init_again : (ρ : Renaming) (a b : Trees) → Row68Init a b → Row68Init (all_again ρ a) (all_again ρ b)
row68_init_again ρ a b r = record {
  ds = all_again ρ r.ds;
  es = all_again ρ r.es;
  test = again ρ r.test;
  update = again ρ r.update;
  body = again ρ r.body;
  shape = ap (all_again ρ) r.shape;
  written = simp (← (append_again ρ r.ds r.es)) at (ap (all_again ρ) r.written);
}

pub loop_row_again : (ρ : Renaming) (a b : Trees) → LoopRow a b → LoopRow (all_again ρ a) (all_again ρ b)
loop_row_again ρ a b (inl r) = inl (row67_in_again ρ a b r)
loop_row_again ρ a b (inr (inl r)) = inr (inl (row68_free_again ρ a b r))
loop_row_again ρ a b (inr (inr r)) = inr (inr (row68_init_again ρ a b r))

pub row68_again : (ρ : Renaming) (a b : Trees) → Row68 a b → Row68 (all_again ρ a) (all_again ρ b)
row68_again ρ a b r = record {
  kind = r.kind;
  ds = all_again ρ r.ds;
  es = all_again ρ r.es;
  shape = ap (all_again ρ) r.shape;
  written = simp (← (append_again ρ r.ds r.es)) at (ap (all_again ρ) r.written);
}

pub join_row_again : (ρ : Renaming) (o : Switches) (a b : Trees) → JoinRow o a b → JoinRow o (all_again ρ a) (all_again ρ b)
join_row_again ρ o a b (inl r) = inl ((r.0, row68_again ρ a b r.1))
join_row_again ρ o a b (inr r) = inr ((r.0, loop_row_again ρ a b r.1))

pub row66_empty_again : (ρ : Renaming) (a b : Trees) → Row66Empty a b → Row66Empty (all_again ρ a) (all_again ρ b)
row66_empty_again ρ a b r = record {
  shape = ap (all_again ρ) r.shape;
  written = ap (all_again ρ) r.written;
}

pub row79_again : (ρ : Renaming) (a b : Trees) → Row79 a b → Row79 (all_again ρ a) (all_again ρ b)
row79_again ρ a b r = record {
  statements = all_again ρ r.statements;
  unscoped = simp (are_unscoped_again ρ r.statements) r.unscoped;
  shape = ap (all_again ρ) r.shape;
  written = ap (all_again ρ) r.written;
}

pub row66_joined_again : (ρ : Renaming) (a b : Trees) → Row66Joined a b → Row66Joined (all_again ρ a) (all_again ρ b)
row66_joined_again ρ a b r = record {
  p = again ρ r.p;
  ps = all_again ρ r.ps;
  q = again ρ r.q;
  qs = all_again ρ r.qs;
  first = simp (are_parts_again ρ r.p r.ps) r.first;
  second = simp (are_parts_again ρ r.q r.qs) r.second;
  shape = simp (← (of_parts_again ρ r.p r.ps), ← (of_parts_again ρ r.q r.qs)) at (ap (all_again ρ) r.shape);
  written = simp (← (append_again ρ r.ps (r.q ▸ r.qs)), ← (of_parts_again ρ r.p (append r.ps (r.q ▸ r.qs)))) at (ap (all_again ρ) r.written);
}

pub row67_again : (ρ : Renaming) (a b : Trees) → Row67 a b → Row67 (all_again ρ a) (all_again ρ b)
row67_again ρ a b r = record {
  head = again_head ρ r.head;
  p = again ρ r.p;
  ps = all_again ρ r.ps;
  q = again ρ r.q;
  qs = all_again ρ r.qs;
  first = simp (are_parts_again ρ r.p r.ps) r.first;
  second = simp (are_parts_again ρ r.q r.qs) r.second;
  shape = simp (← (of_parts_again ρ r.p r.ps), ← (of_parts_again ρ r.q r.qs), ← (with_head_again ρ r.head (of_parts r.q r.qs))) at (ap (all_again ρ) r.shape);
  written = simp (← (append_again ρ r.ps (r.q ▸ r.qs)), ← (of_parts_again ρ r.p (append r.ps (r.q ▸ r.qs))), ← (with_head_again ρ r.head (of_parts r.p (append r.ps (r.q ▸ r.qs))))) at (ap (all_again ρ) r.written);
}

pub row67_absent_again : (ρ : Renaming) (a b : Trees) → Row67Absent a b → Row67Absent (all_again ρ a) (all_again ρ b)
row67_absent_again ρ a b r = record {
  p = again ρ r.p;
  ps = all_again ρ r.ps;
  test = again ρ r.test;
  update = again ρ r.update;
  body = again ρ r.body;
  first = simp (are_parts_again ρ r.p r.ps) r.first;
  shape = simp (← (of_parts_again ρ r.p r.ps)) at (ap (all_again ρ) r.shape);
  written = simp (← (of_parts_again ρ r.p r.ps)) at (ap (all_again ρ) r.written);
}

pub row73_again : (ρ : Renaming) (jump : Tree → Tree) → ((t : Tree) → again ρ (jump t) ≡ jump (again ρ t)) → (a b : Trees) → Row73 jump a b → Row73 jump (all_again ρ a) (all_again ρ b)
row73_again ρ jump e a b r = record {
  test = again ρ r.test;
  left = again ρ r.left;
  right = again ρ r.right;
  whole = absent_or_not ρ r.left r.whole;
  present = simp (is_absent_again ρ r.right) r.present;
  shallow = simp (is_shallow_again ρ 500 r.right) r.shallow;
  shape = simp e at (ap (all_again ρ) r.shape);
  written = simp (← (is_absent_again ρ r.left)) at (simp (e, ← (if_again ρ (is_absent r.left) void_zero r.left)) at (ap (all_again ρ) r.written));
}

pub row73_bare_again : (ρ : Renaming) (a b : Trees) → Row73Bare a b → Row73Bare (all_again ρ a) (all_again ρ b)
row73_bare_again ρ a b r = record {
  test = again ρ r.test;
  shape = ap (all_again ρ) r.shape;
  written = ap (all_again ρ) r.written;
}

pub row76_again : (ρ : Renaming) (a b : Trees) → Row76 a b → Row76 (all_again ρ a) (all_again ρ b)
row76_again ρ a b r = record {
  test = again ρ r.test;
  s = again ρ r.s;
  u = again ρ r.u;
  terminated = simp (is_terminated_again ρ r.s) r.terminated;
  unscoped = simp (shape_of_again ρ r.u) r.unscoped;
  shape = ap (all_again ρ) r.shape;
  written = ap (all_again ρ) r.written;
}

pub sequences_row_again : (ρ : Renaming) (a b : Trees) → SequencesRow a b → SequencesRow (all_again ρ a) (all_again ρ b)
sequences_row_again ρ a b (inl r) = inl (row66_joined_again ρ a b r)
sequences_row_again ρ a b (inr (inl r)) = inr (inl (row73_again ρ return_statement (λ t. refl) a b r))
sequences_row_again ρ a b (inr (inr (inl r))) = inr (inr (inl (row73_again ρ throw_statement (λ t. refl) a b r)))
sequences_row_again ρ a b (inr (inr (inr (inl r)))) = inr (inr (inr (inl (row73_bare_again ρ a b r))))
sequences_row_again ρ a b (inr (inr (inr (inr (inl r))))) = inr (inr (inr (inr (inl (row67_again ρ a b r)))))
sequences_row_again ρ a b (inr (inr (inr (inr (inr (inl r)))))) = inr (inr (inr (inr (inr (inl (row67_absent_again ρ a b r))))))
sequences_row_again ρ a b (inr (inr (inr (inr (inr (inr r)))))) = inr (inr (inr (inr (inr (inr (row76_again ρ a b r))))))

pub stretch_row_again : (ρ : Renaming) (o : Switches) (a b : Trees) → StretchRow o a b → StretchRow o (all_again ρ a) (all_again ρ b)
stretch_row_again ρ o a b (inl r) = inl (row66_empty_again ρ a b r)
stretch_row_again ρ o a b (inr (inl r)) = inr (inl (row79_again ρ a b r))
stretch_row_again ρ o a b (inr (inr (inl r))) = inr (inr (inl (join_row_again ρ o a b r)))
stretch_row_again ρ o a b (inr (inr (inr r))) = inr (inr (inr ((r.0, sequences_row_again ρ a b r.1))))

pub neighbour_row_again : (ρ : Renaming) (o : Switches) (a b : Trees) → NeighbourRow o a b → NeighbourRow o (all_again ρ a) (all_again ρ b)
neighbour_row_again ρ o a b (inl r) = inl (stretch_row_again ρ o a b r)
neighbour_row_again ρ o a b (inr (inl r)) = inr (inl (guards_row_again ρ o a b r))
neighbour_row_again ρ o a b (inr (inr r)) = inr (inr (enters_row_again ρ o a b r))

pub list_row_again : (ρ : Renaming) (o : Switches) (p : Position) (n w : Tree) → ListRow o p n w → ListRow o p (again ρ n) (again ρ w)
list_row_again ρ o StatementList n w r = in_list_again ρ (neighbour_row_again ρ o) n w r
list_row_again ρ o BodyList n w (inl r) = inl (in_list_again ρ (neighbour_row_again ρ o) n w r)
list_row_again ρ o BodyList n w (inr r) = inr (at_end_again ρ (end_row_again ρ o bare_return) n w r)
list_row_again ρ o p1 n w r = absurd r
