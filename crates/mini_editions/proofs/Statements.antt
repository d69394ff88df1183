-- Rows of lists of statements and of branches write no form that these lack.
use Rattle.std.proofs.Common.{◌≡◌, ◌+◌, ℕ, arith, Bool, true, false, List, [], ◌∷◌, refl, sym, ap, ◌∙◌, inl, inr}
use Rattle.std.specs.Prelude.{◌⊎◌, if◌then◌else◌}
use Rattle.mini_model.specs.declared.name.Name.{Name}
use Rattle.mini_model.specs.declared.place.Position.{Position}
use Rattle.mini_model.specs.declared.place.Position.TheVariants.{Stmt, StatementList, BodyList}
use Rattle.mini_model.specs.declared.seat.StmtSeat.{StmtSeat}
use Rattle.mini_model.specs.Position.{left_operand_seat, statement_expression_seat, if_test_seat}
use Rattle.mini_model.specs.declared.operator.LogicalOperator.TheVariants.{Or}
use Rattle.mini_model.specs.Redex as first
use Rattle.mini_model.specs.declared.kind.VariableDeclarationKind.{VariableDeclarationKind}
use Rattle.mini_model.specs.declared.kind.VariableDeclarationKind.TheVariants.{Const, Let, Var}
use Rattle.mini_model.specs.Tree.{Tree, Trees, none, ◌▸◌, absent, is_absent, shape_of, empty_statement}
use Rattle.mini_model.specs.Paths.{append}
use Rattle.mini_laws.specs.Value.{VariableSet}
use Rattle.mini_laws.specs.DeclaredNames.{names_of}
use Rattle.mini_laws.specs.declared.names.Declared.TheVariants as declared
use Rattle.mini_rows.specs.Forms.{Form}
use Rattle.mini_rows.specs.Switches.{Switches}
use Rattle.mini_rows.specs.Lists.{of_parts, Head, Return, Throw, If, Switch, For, with_head, or_void, void_zero, Each, EachIn, EachOf, each_loop, Holder, Statement, Heading, Going, Declaring, Looping, holding, Beginning, Alone, Init, Before, begun, begun_without, bare_declarators, declared_bare, left_behind, alternate_of, sequence, resolved, declarator, binding, assigned, says, AsStatement, AsReturn, AsThrow, Saying, block, SequencesRow, LoopRow, JoinRow, StretchRow, GuardsRow, EntersRow, NeighbourRow, InList, AtEnd, EndRow, Row75, Row75Block, ListRow, bare_return}
use Rattle.mini_rows.specs.Branches.{Surrounding, Consequent, Alternate, WhileBody, DoBody, ForBody, InBody, OfBody, around, Ending, not_of_all, after, with_not, without_not, has_else, conjunct_seat, BranchRow, IfRow, BodyRow, bare_continue}
use Rattle.mini_rows.specs.Loops.{bare_break, Tested, always, while_true, test_of, also, Leaving, alone, or_else, unless, leaves_by, goes_by, runs_on, Leading, whole, before, led, others_of}
use Rattle.mini_rows.specs.Cases.{ended, OneCaseRow}
use Rattle.mini_rows.specs.Cases as cases
use Rattle.mini_rows.specs.Declarations as declarations
use Rattle.mini_rows.specs.DeadCases.{Choices, no_choices, choice, cases_of, before_others, left_all, left_cases, running, are_ended, Known, a_number, a_text, a_truth, a_null, undefined, known, DeadCaseRow}
use Rattle.mini_rows.specs.Declarations.{Item, Exported, held, Row61, Row61Item, DeclarationRow}
use Rattle.mini_rows.specs.Folding.{FoldingRow}
use Rattle.mini_rows.specs.LoopGuards.{LoopGuardRow}
use Rattle.mini_rows.specs.DeadLexicals.{declared_with, declarators, faded, initializer, kind_left}
use Rattle.mini_rows.specs.Lets.{LetsRow, LetRow}
use Rattle.mini_editions.proofs.Times.{times, all_times, Fewer, written, all_append, choice_lacks}
use Rattle.mini_editions.proofs.Negated.{not_lacks}

module _ (f : Form) where
  abbrev pub FewerAll : Trees → Trees → Type 0
  FewerAll a b = all_times f a ≡ 0 → all_times f b ≡ 0

  pub all_written : {a b s t : Trees} → a ≡ s → b ≡ t → FewerAll s t → FewerAll a b
  all_written {a} {b} {s} {t} g k l z = ap (all_times f) k ∙ l (sym (ap (all_times f) g) ∙ z)

  pub all_choice : (b : Bool) (ts us : Trees) → all_times f ts ≡ 0 → all_times f us ≡ 0 → all_times f (if b then ts else us) ≡ 0
  all_choice true ts us x y = x
  all_choice false ts us x y = y

  -- ---- parts of rows of lists

  of_sum : (p : Tree) (ps : Trees) → times f (of_parts p ps) ≡ times f p + all_times f ps
  of_sum p none = omega arith
  of_sum p (q ▸ qs) = omega arith

  abbrev head_times : Head → ℕ
  head_times Return = 0
  head_times Throw = 0
  head_times (If u v) = times f u + times f v
  head_times (Switch cases) = times f cases
  head_times (For u v w) = times f u + (times f v + times f w)

  head_sum : (h : Head) (e : Tree) → times f (with_head h e) ≡ head_times h + times f e
  head_sum Return e = omega arith
  head_sum Throw e = omega arith
  head_sum (If u v) e = omega arith
  head_sum (Switch cases) e = omega arith
  head_sum (For u v w) e = omega arith

  void_lacks : (a : Tree) → times f a ≡ 0 → times f (or_void a) ≡ 0
  void_lacks a z = choice_lacks f (is_absent a) void_zero a refl z

  each_sum : (k : Each) (a b c : Tree) → times f (each_loop k a b c) ≡ times f a + (times f b + times f c)
  each_sum EachIn a b c = omega arith
  each_sum EachOf a b c = omega arith

  abbrev holder_times : Holder → ℕ
  holder_times Statement = 0
  holder_times (Heading h) = head_times h
  holder_times (Going k left body) = times f left + times f body
  holder_times (Declaring kind id ds) = times f id + all_times f ds
  holder_times (Looping id ds test update body) = times f id + (all_times f ds + (times f test + (times f update + times f body)))

  holder_sum : (h : Holder) (e : Tree) → times f (holding h e) ≡ holder_times h + times f e
  holder_sum Statement e = omega arith
  holder_sum (Heading h) e = head_sum h e
  holder_sum (Going k left body) e = omega (arith, each_sum k left e body)
  holder_sum (Declaring kind id ds) e = omega arith
  holder_sum (Looping id ds test update body) e = omega arith

  abbrev begun_times : Beginning → ℕ
  begun_times Alone = 0
  begun_times (Init u v w) = times f u + (times f v + times f w)
  begun_times (Before h q qs) = holder_times h + (times f q + all_times f qs)

  begun_sum : (b : Beginning) (a : Tree) → times f (begun b a) ≡ begun_times b + times f a
  begun_sum Alone a = omega arith
  begun_sum (Init u v w) a = omega arith
  begun_sum (Before h q qs) a = omega (arith, holder_sum h (sequence (a ▸ (q ▸ qs))))

  without_lacks : (b : Beginning) → begun_times b ≡ 0 → all_times f (begun_without b) ≡ 0
  without_lacks Alone z = refl
  without_lacks (Init u v w) z = omega (arith, z)
  without_lacks (Before h q qs) z = omega (arith, z, holder_sum h (of_parts q qs), of_sum q qs)

  bare_times : (xs : List Name) → all_times f (bare_declarators xs) ≡ 0
  bare_times [] = refl
  bare_times (x ∷ xs) = omega (arith, bare_times xs)

  declared_times : (xs : List Name) → all_times f (declared_bare xs) ≡ 0
  declared_times [] = refl
  declared_times (x ∷ xs) = omega (arith, bare_times xs)

  left_times : (t : Tree) → all_times f (left_behind t) ≡ 0
  left_times t = declared_times (names_of declared.Hoisted t)

  alternate_sum : (ts : Trees) → times f (alternate_of ts) ≡ all_times f ts
  alternate_sum none = refl
  alternate_sum (t ▸ ts) = omega arith

  says_sum : (s : Saying) (e : Tree) → times f (says s e) ≡ times f e
  says_sum AsStatement e = omega arith
  says_sum AsReturn e = omega arith
  says_sum AsThrow e = omega arith

  -- ---- rows of neighbours

  sequences_fewer : (a b : Trees) → SequencesRow a b → FewerAll a b
  sequences_fewer a b (inl r) = all_written r.shape r.written (λ z. omega (arith, z, of_sum r.p r.ps, of_sum r.q r.qs, of_sum r.p (append r.ps (r.q ▸ r.qs)), all_append f r.ps (r.q ▸ r.qs)))
  sequences_fewer a b (inr (inl r)) = all_written r.shape r.written (λ z. let left = void_lacks r.left (omega (arith, z)) in omega (arith, z, left))
  sequences_fewer a b (inr (inr (inl r))) = all_written r.shape r.written (λ z. let left = void_lacks r.left (omega (arith, z)) in omega (arith, z, left))
  sequences_fewer a b (inr (inr (inr (inl r)))) = all_written r.shape r.written (λ z. omega (arith, z))
  sequences_fewer a b (inr (inr (inr (inr (inl r))))) = all_written r.shape r.written (λ z. omega (arith, z, of_sum r.p r.ps, head_sum r.head (of_parts r.q r.qs), of_sum r.q r.qs, head_sum r.head (of_parts r.p (append r.ps (r.q ▸ r.qs))), of_sum r.p (append r.ps (r.q ▸ r.qs)), all_append f r.ps (r.q ▸ r.qs)))
  sequences_fewer a b (inr (inr (inr (inr (inr (inl r)))))) = all_written r.shape r.written (λ z. omega (arith, z))
  sequences_fewer a b (inr (inr (inr (inr (inr (inr r)))))) = all_written r.shape r.written (λ z. omega (arith, z))

  loops_fewer : (a b : Trees) → LoopRow a b → FewerAll a b
  loops_fewer a b (inl r) = all_written r.shape r.written (λ z. omega (arith, z, of_sum r.p r.ps, of_sum r.q r.qs, of_sum r.p (append r.ps (r.q ▸ r.qs)), all_append f r.ps (r.q ▸ r.qs)))
  loops_fewer a b (inr (inl r)) = all_written r.shape r.written (λ z. omega (arith, z))
  loops_fewer a b (inr (inr r)) = all_written r.shape r.written (λ z. omega (arith, z, all_append f r.ds r.es))

  joins_fewer : (o : Switches) (a b : Trees) → JoinRow o a b → FewerAll a b
  joins_fewer o a b (inl r) = all_written r.1.shape r.1.written (λ z. omega (arith, z, all_append f r.1.ds r.1.es))
  joins_fewer o a b (inr r) = loops_fewer a b r.1

  stretch_fewer : (o : Switches) (a b : Trees) → StretchRow o a b → FewerAll a b
  stretch_fewer o a b (inl r) = all_written r.shape r.written (λ z. refl)
  stretch_fewer o a b (inr (inl r)) = all_written r.shape r.written (λ z. omega (arith, z))
  stretch_fewer o a b (inr (inr (inl r))) = joins_fewer o a b r
  stretch_fewer o a b (inr (inr (inr r))) = sequences_fewer a b r.1

  guards_fewer : (o : Switches) (a b : Trees) → GuardsRow o a b → FewerAll a b
  guards_fewer o a b (k, inl r) = all_written r.shape r.written (λ z. omega (arith, z))
  guards_fewer o a b (k, inr (inl r)) = all_written r.shape r.written (λ z. omega (arith, z))
  guards_fewer o a b (k, inr (inr (inl r))) = all_written r.shape r.written (λ z. omega (arith, z))
  guards_fewer o a b (k, inr (inr (inr r))) = all_written r.shape r.written (λ z. omega (arith, z, all_append f r.between (r.gone ▸ none), all_append f r.between (left_behind r.gone), left_times r.gone))

  enters_fewer : (o : Switches) (a b : Trees) → EntersRow o a b → FewerAll a b
  enters_fewer o a b (inl r) = all_written r.shape r.written (λ z.
      let x = resolved r.spelling r.symbol in
      let before = all_append f r.ds (declarator (binding x) absent ▸ r.es) in
      let after = all_append f r.ds (declarator (binding x) r.value ▸ r.es) in
      let there = begun_sum r.beginning (assigned x r.value) in
      let left = without_lacks r.beginning (omega (arith, z, there)) in
      omega (arith, z, before, after, there, left))
  enters_fewer o a b (inr (inl r)) = all_written r.shape r.written (λ z. omega (arith, z))
  enters_fewer o a b (inr (inr r)) = all_written r.1.shape r.1.written (λ z. omega (arith, z))

  neighbours_fewer : (o : Switches) (a b : Trees) → NeighbourRow o a b → FewerAll a b
  neighbours_fewer o a b (inl r) = stretch_fewer o a b r
  neighbours_fewer o a b (inr (inl r)) = guards_fewer o a b r
  neighbours_fewer o a b (inr (inr r)) = enters_fewer o a b r

  guard_fewer : (jump : Tree) (a b : Trees) → Row75 jump a b ⊎ Row75Block jump a b → FewerAll a b
  guard_fewer jump a b (inl r) = all_written r.shape r.written (λ z. omega (arith, z))
  guard_fewer jump a b (inr r) = all_written r.shape r.written (λ z. omega (arith, z, all_append f r.body (jump ▸ none), alternate_sum r.rest))

  ends_fewer : (o : Switches) (jump : Tree) (a b : Trees) → EndRow o jump a b → FewerAll a b
  ends_fewer o jump a b (inl r) = all_written r.shape r.written (λ z. refl)
  ends_fewer o jump a b (inr r) = guard_fewer jump a b r.1

  -- in a list, wherever they stand

  pub in_list_fewer : (R : Trees → Trees → Type 0) → ((a b : Trees) → R a b → FewerAll a b) → (n w : Tree) → InList R n w → Fewer f n w
  in_list_fewer R k n w r = written f r.shape r.written (λ z.
      let before = all_append f r.before (append r.read r.after) in
      let after = all_append f r.before (append r.put r.after) in
      let read = all_append f r.read r.after in
      let put = all_append f r.put r.after in
      let made = k r.read r.put r.row (omega (arith, z, before, read)) in
      omega (arith, z, before, after, read, put, made))

  at_end_fewer : (R : Trees → Trees → Type 0) → ((a b : Trees) → R a b → FewerAll a b) → (n w : Tree) → AtEnd R n w → Fewer f n w
  at_end_fewer R k n w r = written f r.shape r.written (λ z.
      let before = all_append f r.before r.read in
      let after = all_append f r.before r.put in
      let made = k r.read r.put r.row (omega (arith, z, before)) in
      omega (arith, z, before, after, made))

  pub list_fewer : (o : Switches) (p : Position) (n w : Tree) → ListRow o p n w → Fewer f n w
  list_fewer o StatementList n w r = in_list_fewer (NeighbourRow o) (neighbours_fewer o) n w r
  list_fewer o BodyList n w (inl r) = in_list_fewer (NeighbourRow o) (neighbours_fewer o) n w r
  list_fewer o BodyList n w (inr r) = at_end_fewer (EndRow o bare_return) (ends_fewer o bare_return) n w r
  list_fewer o p n w r = absurd r

  -- ---- declarations

  bared_fewer : (n w : Tree) → Row61 n w → Fewer f n w
  bared_fewer n w r = written f r.shape r.written (λ z. omega (arith, z, all_append f r.before (declarator (binding r.name) r.init ▸ r.after), all_append f r.before (declarator (binding r.name) absent ▸ r.after)))

  item_fewer : (a b : Trees) → Row61Item a b → FewerAll a b
  item_fewer a b r = all_written r.shape r.written (by r.item)
    where
      by : (i : Item) → FewerAll (held i r.declared ▸ none) (held i r.bare ▸ none)
      by declarations.Alone z = let made = bared_fewer r.declared r.bare r.row (omega (arith, z)) in omega (arith, made)
      by (Exported specifiers source) z = let made = bared_fewer r.declared r.bare r.row (omega (arith, z)) in omega (arith, z, made)

  pub declaration_fewer : (p : Position) (n w : Tree) → DeclarationRow p n w → Fewer f n w
  declaration_fewer StatementList n w r = in_list_fewer Row61Item item_fewer n w r
  declaration_fewer BodyList n w r = in_list_fewer Row61Item item_fewer n w r
  declaration_fewer (Stmt q) n w r = written f r.shape r.written (λ z. let made = bared_fewer r.declared r.bare r.row (omega (arith, z)) in omega (arith, z, made))
  declaration_fewer p n w r = absurd r

  -- ---- branches

  abbrev place_times : Surrounding → ℕ
  place_times (Consequent a u) = times f a + times f u
  place_times (Alternate a s) = times f a + times f s
  place_times (WhileBody a) = times f a
  place_times (DoBody a) = times f a
  place_times (ForBody a b c) = times f a + (times f b + times f c)
  place_times (InBody a b) = times f a + times f b
  place_times (OfBody a b) = times f a + times f b

  around_sum : (k : Surrounding) (c : Tree) → times f (around k c) ≡ place_times k + times f c
  around_sum (Consequent a u) c = omega arith
  around_sum (Alternate a s) c = omega arith
  around_sum (WhileBody a) c = omega arith
  around_sum (DoBody a) c = omega arith
  around_sum (ForBody a b d) c = omega arith
  around_sum (InBody a b) c = omega arith
  around_sum (OfBody a b) c = omega arith

  ending_same : (e : Ending) → times f (without_not e) ≡ times f (with_not e)
  ending_same (not_of_all a) = omega arith
  ending_same (after a bs c) = omega (arith, ending_same c, all_append f bs (with_not c ▸ none), all_append f bs (without_not c ▸ none))

  pub tested_sum : (t : Tested) (x : Tree) → times f (also t x) ≡ times f (test_of t) + times f x
  tested_sum always x = omega arith
  tested_sum (while_true t) x = omega arith

  pub leaving_sum : (l : Leaving) (x : Tree) → times f (leaves_by l x) ≡ times f (runs_on l) + times f x
  leaving_sum alone x = omega arith
  leaving_sum (or_else s) x = omega arith
  leaving_sum (unless s) x = omega arith

  pub goes_sum : (l : Leaving) (x : Tree) → times f (goes_by l x) ≡ times f x
  goes_sum alone x = omega arith
  goes_sum (or_else s) x = omega arith
  goes_sum (unless s) x = refl

  led_sum : (l : Leading) (t : Tree) → times f (led l t) ≡ times f t + all_times f (others_of l)
  led_sum whole t = omega arith
  led_sum (before ts) t = omega arith

  if_fewer : (n w : Tree) → IfRow n w → Fewer f n w
  if_fewer n w (inl (inl r)) = written f r.shape r.written (λ z. omega (arith, z))
  if_fewer n w (inl (inr r)) = written f r.shape r.written (λ z. let a = not_lacks f conjunct_seat r.a (omega (arith, z)) in omega (arith, z, a))
  if_fewer n w (inr (inl (inl r))) = written f r.shape r.written (λ z. omega (arith, z))
  if_fewer n w (inr (inl (inr (inl r)))) = written f r.shape r.written (λ z.
      let a = not_lacks f if_test_seat r.a (omega (arith, z)) in
      let u = choice_lacks f (has_else r.u) (block (r.u ▸ none)) r.u (omega (arith, z)) (omega (arith, z)) in
      omega (arith, a, u))
  if_fewer n w (inr (inl (inr (inr (inl r))))) = written f r.shape r.written (λ z. omega (arith, z))
  if_fewer n w (inr (inl (inr (inr (inr r))))) = written f r.shape r.written (λ z. omega (arith, z))
  if_fewer n w (inr (inr (inl r))) = written f r.shape r.written (λ z. omega (arith, z, ending_same (after r.first r.others r.last)))
  if_fewer n w (inr (inr (inr r))) = written f r.shape r.written (λ z. omega (arith, z, ending_same (after r.first r.others r.last)))

  body_fewer : (n w : Tree) → BodyRow n w → Fewer f n w
  body_fewer n w (inl r) = written f r.shape r.written (λ z. omega (arith, z, around_sum r.place (block (r.statement ▸ none)), around_sum r.place r.statement))
  body_fewer n w (inr (inl (inl r))) = written f r.shape r.written (λ z. omega (arith, z, around_sum r.place (block (append r.before (bare_continue ▸ none))), around_sum r.place (block r.before), all_append f r.before (bare_continue ▸ none)))
  body_fewer n w (inr (inl (inr r))) = written f r.shape r.written (λ z. omega (arith, z, around_sum r.place bare_continue, around_sum r.place empty_statement))
  body_fewer n w (inr (inr (inl (inl r)))) = written f r.shape r.written (λ z. omega (arith, z, all_append f r.before (bare_break ▸ none)))
  body_fewer n w (inr (inr (inl (inr r)))) = written f r.shape r.written (λ z. omega (arith, z))
  body_fewer n w (inr (inr (inr r))) = written f r.shape r.written (λ z.
      omega (arith, z, led_sum r.leading (leaves_by r.leaving r.x), led_sum r.leading (runs_on r.leaving), leaving_sum r.leaving r.x, goes_sum r.leaving r.x, tested_sum r.test (goes_by r.leaving r.x)))

  pub ended_sum : (b : Bool) (ts : Trees) → all_times f (ended b ts) ≡ all_times f ts
  ended_sum true ts = omega (arith, all_append f ts (cases.bare_break ▸ none))
  ended_sum false ts = refl

  pub one_case_fewer : (n w : Tree) → OneCaseRow n w → Fewer f n w
  one_case_fewer n w (inl r) = written f r.shape r.written (λ z. omega (arith, z, ended_sum r.is_ended r.statements))
  one_case_fewer n w (inr (inl r)) = written f r.shape r.written (λ z. omega (arith, z, ended_sum r.is_ended r.statements))
  one_case_fewer n w (inr (inr r)) = written f r.shape r.written (λ z. omega (arith, z, ended_sum r.is_ended r.statements))

  before_sum : (bs cs : Choices) → all_times f (cases_of (before_others bs cs)) ≡ all_times f (cases_of bs) + all_times f (cases_of cs)
  before_sum no_choices cs = omega arith
  before_sum (choice test statements bs) cs = omega (arith, before_sum bs cs)

  left_all_times : (ts : Trees) → all_times f (left_all ts) ≡ 0
  left_all_times none = refl
  left_all_times (t ▸ ts) = omega (arith, all_append f (left_behind t) (left_all ts), left_times t, left_all_times ts)

  left_cases_times : (cs : Choices) → all_times f (left_cases cs) ≡ 0
  left_cases_times no_choices = refl
  left_cases_times (choice test statements cs) = omega (arith, all_append f (left_all statements) (left_cases cs), left_all_times statements, left_cases_times cs)

  running_lacks : (ts : Trees) (cs : Choices) → all_times f ts ≡ 0 → all_times f (cases_of cs) ≡ 0 → all_times f (running ts cs) ≡ 0
  running_lacks ts no_choices x y = x
  running_lacks ts (choice test others cs) x y =
      let rest = running_lacks others cs (omega (arith, y)) (omega (arith, y)) in
      all_choice (are_ended ts) (append ts (left_cases (choice test others cs))) (append ts (running others cs)) (omega (arith, x, all_append f ts (left_cases (choice test others cs)), left_cases_times (choice test others cs))) (omega (arith, x, rest, all_append f ts (running others cs)))

  dead_fewer : (n w : Tree) → DeadCaseRow n w → Fewer f n w
  dead_fewer n w (inl r) = written f r.shape r.written (λ z.
      let all = before_sum r.before (choice r.test r.statements r.after) in
      let rest = running_lacks r.statements r.after (omega (arith, z, all)) (omega (arith, z, all)) in
      omega (arith, z, all, rest, all_append f (left_cases r.before) (running r.statements r.after), left_cases_times r.before))
  dead_fewer n w (inr r) = written f r.shape r.written (λ z. omega (arith, z, left_cases_times (choice r.test r.statements r.after)))

  pub branch_fewer : (p : Position) (n w : Tree) → BranchRow p n w → Fewer f n w
  branch_fewer (Stmt q) n w (inl (inl r)) = written f r.shape r.written (λ z. refl)
  branch_fewer (Stmt q) n w (inl (inr (inl r))) = one_case_fewer n w r
  branch_fewer (Stmt q) n w (inl (inr (inr r))) = dead_fewer n w r
  branch_fewer (Stmt q) n w (inr (inl r)) = body_fewer n w r
  branch_fewer (Stmt q) n w (inr (inr r)) = if_fewer n w r
  branch_fewer p n w r = absurd r

  pub first_statement_fewer : (n w : Tree) → first.Row82Else n w ⊎ (first.Row82And n w ⊎ first.Row82Or n w) → Fewer f n w
  first_statement_fewer n w (inl r) = written f r.shape r.written (λ z. omega (arith, z))
  first_statement_fewer n w (inr (inl r)) = written f r.shape r.written (λ z. omega (arith, z))
  first_statement_fewer n w (inr (inr r)) = written f r.shape r.written (λ z. let a = not_lacks f (left_operand_seat Or statement_expression_seat) r.a (omega (arith, z)) in omega (arith, z, a))

  pub idle_fewer : (q : StmtSeat) (n w : Tree) → FoldingRow (Stmt q) n w → Fewer f n w
  idle_fewer q n w (inl r) = written f r.shape r.written (λ z. refl)
  idle_fewer q n w (inr (inl r)) = written f r.shape r.written (λ z. omega (arith, z))
  idle_fewer q n w (inr (inr r)) = written f r.shape r.written (λ z. omega (arith, z))

  -- ---- guards in the bodies of loops, and `let`s

  pub loop_guard_fewer : (o : Switches) (p : Position) (n w : Tree) → LoopGuardRow o p n w → Fewer f n w
  loop_guard_fewer o (Stmt q) n w (k, inl r) = written f r.shape r.written (λ z.
      let before = around_sum r.place (block (append r.before r.read)) in
      let after = around_sum r.place (block (append r.before r.put)) in
      let read = all_append f r.before r.read in
      let put = all_append f r.before r.put in
      let made = guard_fewer bare_continue r.read r.put r.row (omega (arith, z, before, read)) in
      omega (arith, z, before, after, read, put, made))
  loop_guard_fewer o (Stmt q) n w (k, inr r) = written f r.shape r.written (λ z.
      let before = around_sum r.place r.guard in
      let after = around_sum r.place r.made in
      let made = guard_fewer bare_continue (r.guard ▸ none) (r.made ▸ none) r.row (omega (arith, z, before)) in
      omega (arith, z, before, after, made))
  loop_guard_fewer o p n w r = absurd r

  known_times : (k : Known) → times f (known k) ≡ 0
  known_times (a_number n) = refl
  known_times (a_text s) = refl
  known_times (a_truth true) = refl
  known_times (a_truth false) = refl
  known_times a_null = refl
  known_times undefined = refl

  initializer_times : (k : VariableDeclarationKind) → times f (initializer k) ≡ 0
  initializer_times Const = refl
  initializer_times Let = refl
  initializer_times Var = refl

  declarators_times : (k : VariableDeclarationKind) (xs : List Name) → all_times f (declarators k xs) ≡ 0
  declarators_times k [] = refl
  declarators_times k (x ∷ xs) = omega (arith, initializer_times k, declarators_times k xs)

  declared_with_times : (k : VariableDeclarationKind) (xs : List Name) → all_times f (declared_with k xs) ≡ 0
  declared_with_times k [] = refl
  declared_with_times k (x ∷ xs) = omega (arith, declarators_times k (x ∷ xs))

  pub faded_times : (t : Tree) → all_times f (faded t) ≡ 0
  faded_times t = declared_with_times (kind_left (shape_of t)) (names_of declared.Lexical t)

  lets_fewer : (W : VariableSet) (a b : Trees) → LetsRow W a b → FewerAll a b
  lets_fewer W a b (inl r) = all_written r.shape r.written (λ z.
      let x = resolved r.spelling r.symbol in
      let before = all_append f r.ds (declarator (binding x) absent ▸ none) in
      let after = all_append f r.ds (declarator (binding x) (known r.value) ▸ none) in
      let there = begun_sum r.beginning (assigned x (known r.value)) in
      let left = without_lacks r.beginning (omega (arith, z, there)) in
      omega (arith, z, before, after, there, left, known_times r.value))
  lets_fewer W a b (inr r) = all_written r.shape r.written (λ z. omega (arith, z, all_append f r.between (r.gone ▸ none), all_append f r.between (faded r.gone), faded_times r.gone))

  pub let_fewer : (W : VariableSet) (p : Position) (n w : Tree) → LetRow W p n w → Fewer f n w
  let_fewer W StatementList n w r = in_list_fewer (LetsRow W) (lets_fewer W) n w r
  let_fewer W BodyList n w r = in_list_fewer (LetsRow W) (lets_fewer W) n w r
  let_fewer W p n w r = absurd r
