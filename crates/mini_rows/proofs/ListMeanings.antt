-- What the rows of lists write means the same.
use Rattle.std.proofs.Common.{◌≡◌, true, List, [], ◌∷◌, None, refl, sym, ap, ◌∙◌, subst, inl, inr}
use Rattle.mini_model.specs.declared.kind.VariableDeclarationKind.{VariableDeclarationKind}
use Rattle.mini_model.specs.declared.kind.VariableDeclarationKind.TheVariants.{Var}
use Rattle.mini_model.specs.declared.name.Name.{Name}
use Rattle.mini_model.specs.declared.operator.LogicalOperator.TheVariants.{Or}
use Rattle.mini_model.specs.declared.place.Position.{Position}
use Rattle.mini_model.specs.declared.place.Position.TheVariants.{StatementList, BodyList}
use Rattle.std.proofs.lemmas.Bool.{and_parts}
use Rattle.mini_model.specs.Tree.{shape_of, Tree, Trees, none, ◌▸◌, absent, empty_statement, expression_statement, if_else, if_alone, conditional, logical}
use Rattle.mini_model.specs.Paths.{append}
use Rattle.mini_laws.specs.declared.names.Declared.TheVariants as declared
use Rattle.mini_laws.specs.DeclaredNames.{names_of}
use Rattle.mini_laws.specs.Value.{Value, truth, choose}
use Rattle.mini_laws.specs.State.{State, Stop, Thrown, Returned, Completion, ok, stop, either, Environment}
use Rattle.mini_laws.specs.Demand.{FunctionTail, Want, Val, Test, Unused, Says, Demand, As, Stat, Binds, Request}
use Rattle.mini_laws.specs.Naming.{is_lexical, summary}
use Rattle.mini_laws.specs.Fits.{Fits}
use Rattle.mini_laws.specs.Rows.{SameAt}
use Rattle.mini_laws.specs.Step.{step, means, meaning}
use Rattle.mini_laws.specs.Truth.{told}
use Rattle.mini_laws.proofs.Runs.{either_cong, either_assoc, either_eta, either_ok, either_stop, each_bool}
use Rattle.mini_laws.proofs.Stretching.{exec}
use Rattle.mini_laws.proofs.Truth.{coherent}
use Rattle.mini_laws.proofs.Rows.{Equal, equal_same}
use Rattle.mini_node.specs.Walks.{append_none}
use Rattle.mini_rows.specs.Switches.{Switches}
use Rattle.mini_rows.specs.Lists.{declares_nothing, is_one_part_shape, are_parts, of_parts, block, return_statement, throw_statement, switch, for_loop, for_in, declaration, or_void, Head, Return, Throw, If, Switch, For, with_head, Row66Empty, Row66Joined, Row67, Row67Absent, Row67In, Row68, Row68Free, Row68Init, Row73, Row73Bare, Row76, Row79, SequencesRow, LoopRow, JoinRow, StretchRow, InList, ListRow, Row74, NeighbourRow, Saying, AsStatement, AsReturn, AsThrow, says, Row77, Leap, Breaks, Continues, leap, Row77Leap, Row77Unreached, declared_bare, left_behind, is_unscoped, sequence, resolved, assigned, Statement, Heading, Beginning, Alone, Init, Before, begun, begun_without, begins_well, Row70, Each, EachIn, EachOf, Row69, is_plain_left, declarator, Going, Declaring, Looping, each_loop}
use Rattle.mini_rows.specs.ListLaws.{ListsMeanSame}
use Rattle.mini_rows.proofs.ListStretches.{ReadSame, SameStretch, exec_one, exec_two, exec_more, listed_is, in_list, list_does, list_reads, replaced, read_in_list}
use Rattle.mini_rows.proofs.ListParts.{joined_is}
use Rattle.mini_rows.proofs.ListStatements.{expression_is, if_is, absent_is, empty_is, return_is, throw_is, conditional_is, or_void_is, declare, declare_more, declaration_is, declarations_join, declarations_read, one_unscoped, read_nothing, block_is}
use Rattle.mini_rows.proofs.ListHeads.{Nothing, nothing_by, switch_rest, switch_plain, for_rest, for_is, for_absent_is}
use Rattle.mini_rows.proofs.ListLoops.{for_var_is, in_rest, in_is, of_rest, of_is, left_lets, left_idle}
use Rattle.mini_rows.proofs.ListBegun.{initialised, without_value, with_value, assignment_enters}
use Rattle.mini_rows.proofs.ListEach.{each_enters}
use Rattle.mini_rows.proofs.BodyLists.{body_same}
use Rattle.mini_rows.proofs.ListTails.{body_end_same, end_reads}
use Rattle.mini_rows.proofs.ListEnds.{never_goes, ended_tree}

-- `;`
row_66_empty : (a b : Trees) → Row66Empty a b → SameStretch a b
row_66_empty a b r = replaced a _ b _ r.shape r.written (record { by = λ e s. exec_one e empty_statement s ∙ empty_is e [] s; read = record { lets = refl; functions = refl; facts = refl; texts = refl } })

-- `a; b;`
row_66_joined : (a b : Trees) → Row66Joined a b → SameStretch a b
row_66_joined a b r = replaced a _ b _ r.shape r.written (record {
  by = λ e s.
      exec_two e (expression_statement (of_parts r.p r.ps)) (expression_statement (of_parts r.q r.qs)) s
      ∙ ap (λ x. either x (λ u z. means e (expression_statement (of_parts r.q r.qs)) (Stat None) [] z) (λ x z. stop x z)) (expression_is e (of_parts r.p r.ps) [] s)
      ∙ either_cong (means e (of_parts r.p r.ps) (As Unused) tt s) _ _ _ _ (λ u z. expression_is e (of_parts r.q r.qs) [] z) (λ x z. refl)
      ∙ sym (exec_one e (expression_statement (of_parts r.p (append r.ps (r.q ▸ r.qs)))) s ∙ expression_is e (of_parts r.p (append r.ps (r.q ▸ r.qs))) [] s ∙ joined_is e r.p r.ps r.q r.qs Unused s);
  read = record { lets = refl; functions = refl; facts = refl; texts = refl };
})

-- `{ a; b; }`
row_79 : (a b : Trees) → Row79 a b → SameStretch a b
row_79 a b r =
    let reads = read_nothing r.statements r.unscoped in
    replaced a _ b _ r.shape r.written (record { by = λ e s. exec_one e (block r.statements) s ∙ block_is e r.statements reads [] s ∙ listed_is e r.statements [] s; read = record { lets = sym reads.lets; functions = sym reads.functions; facts = sym reads.facts; texts = sym reads.texts } })

-- `if (a) return b; return c;`

module _ (f : Value → Stop) (jump : Tree → Tree) (jumps : (e : Environment) (a : Tree) (s : State) → means e (jump a) (Stat None) [] s ≡ either (means e a (As Val) tt s) (λ v z. stop (f v) z) (λ x z. stop x z)) where
  gives : Environment → Tree → State → Completion (Unit {0})
  gives e a z = either (means e a (As Val) tt z) (λ v z. stop (f v) z) (λ x z. stop x z)

  taken : (e : Environment) (left right : Tree) (z : State) → either (means e (jump left) (Stat None) [] z) (λ u z. means e (jump right) (Stat None) [] z) (λ x z. stop x z) ≡ gives e (or_void left) z
  unfolding gives
  taken e left right z =
      ap (λ x. either x (λ u z. means e (jump right) (Stat None) [] z) (λ x z. stop x z)) (jumps e left z ∙ ap (λ x. either x (λ v z. stop (f v) z) (λ x z. stop x z)) (sym (or_void_is e left z)))
      ∙ either_assoc (means e (or_void left) (As Val) tt z) _ _ _ _
      ∙ either_cong (means e (or_void left) (As Val) tt z) _ _ _ _ (λ v z. either_stop (f v) z _ _) (λ x z. either_stop x z _ _)

  passed : (e : Environment) (right : Tree) (z : State) → either (means e absent (Stat None) [] z) (λ u z. means e (jump right) (Stat None) [] z) (λ x z. stop x z) ≡ gives e right z
  unfolding gives
  passed e right z = ap (λ x. either x (λ u z. means e (jump right) (Stat None) [] z) (λ x z. stop x z)) (absent_is e [] z) ∙ either_ok tt z _ _ ∙ jumps e right z

  jumps_join : ((test left right : Tree) → ReadSame (if_alone test (jump left) ▸ (jump right ▸ none)) (jump (conditional test (or_void left) right) ▸ none)) → (a b : Trees) → Row73 jump a b → SameStretch a b
  unfolding gives
  jumps_join read a b r = replaced a _ b _ r.shape r.written (record {
    by = λ e s.
        exec_two e (if_alone r.test (jump r.left)) (jump r.right) s
        ∙ ap (λ x. either x (λ u z. means e (jump r.right) (Stat None) [] z) (λ x z. stop x z)) (if_is e r.test (jump r.left) absent [] s)
        ∙ either_assoc (means e r.test (As Test) tt s) _ _ _ _
        ∙ either_cong (means e r.test (As Test) tt s) _ (λ t z. choose t (gives e (or_void r.left) z) (gives e r.right z)) _ (λ x z. stop x z) (each_bool _ (λ z. taken e r.left r.right z) (λ z. passed e r.right z)) (λ x z. either_stop x z _ _)
        ∙ sym (exec_one e (jump (conditional r.test (or_void r.left) r.right)) s ∙ jumps e _ s ∙ ap (λ x. either x (λ v z. stop (f v) z) (λ x z. stop x z)) (conditional_is e r.test (or_void r.left) r.right s)
        ∙ either_assoc (means e r.test (As Test) tt s) _ _ _ _
        ∙ either_cong (means e r.test (As Test) tt s) _ (λ t z. choose t (gives e (or_void r.left) z) (gives e r.right z)) _ (λ x z. stop x z) (each_bool _ (λ z. refl) (λ z. refl)) (λ x z. either_stop x z _ _));
    read = read r.test r.left r.right;
  })

row_73_return : (a b : Trees) → Row73 return_statement a b → SameStretch a b
row_73_return = jumps_join Returned return_statement (λ e a s. return_is e a [] s) (λ t l r. record { lets = refl; functions = refl; facts = refl; texts = refl })

row_73_throw : (a b : Trees) → Row73 throw_statement a b → SameStretch a b
row_73_throw = jumps_join Thrown throw_statement (λ e a s. throw_is e a [] s) (λ t l r. record { lets = refl; functions = refl; facts = refl; texts = refl })

-- a test whose truth nobody uses
test_unused : (e : Environment) (a : Tree) (s : State) → either (means e a (As Test) tt s) (λ t z. ok tt z) (λ x z. stop x z) ≡ means e a (As Unused) tt s
unfolding told
test_unused e a s =
    ap (λ x. either x (λ t z. ok tt z) (λ x z. stop x z)) (coherent a Test e s)
    ∙ either_assoc (means e a (As Val) tt s) _ _ _ _
    ∙ either_cong (means e a (As Val) tt s) _ _ _ _ (λ v z. either_ok (truth v) z _ _) (λ x z. either_stop x z _ _)
    ∙ sym (coherent a Unused e s)

-- `if (a) return; return;`
row_73_bare : (a b : Trees) → Row73Bare a b → SameStretch a b
row_73_bare a b r = replaced a _ b _ r.shape r.written (record {
  by = λ e s.
      exec_two e (if_alone r.test (return_statement absent)) (return_statement absent) s
      ∙ ap (λ x. either x (λ u z. means e (return_statement absent) (Stat None) [] z) (λ x z. stop x z)) (if_is e r.test (return_statement absent) absent [] s)
      ∙ either_assoc (means e r.test (As Test) tt s) _ _ _ _
      ∙ either_cong (means e r.test (As Test) tt s) _ (λ t z. means e (return_statement absent) (Stat None) [] z) _ (λ x z. stop x z) (each_bool _ (λ z. bare e z) (λ z. ap (λ x. either x (λ u z. means e (return_statement absent) (Stat None) [] z) (λ x z. stop x z)) (absent_is e [] z) ∙ either_ok tt z _ _)) (λ x z. either_stop x z _ _)
      ∙ sym (exec_two e (expression_statement r.test) (return_statement absent) s
      ∙ ap (λ x. either x (λ u z. means e (return_statement absent) (Stat None) [] z) (λ x z. stop x z)) (expression_is e r.test [] s ∙ sym (test_unused e r.test s))
      ∙ either_assoc (means e r.test (As Test) tt s) _ _ _ _
      ∙ either_cong (means e r.test (As Test) tt s) _ (λ t z. means e (return_statement absent) (Stat None) [] z) _ (λ x z. stop x z) (λ t z. either_ok tt z _ _) (λ x z. either_stop x z _ _));
  read = record { lets = refl; functions = refl; facts = refl; texts = refl };
})
  where
    bare : (e : Environment) (z : State) → either (means e (return_statement absent) (Stat None) [] z) (λ u z. means e (return_statement absent) (Stat None) [] z) (λ x z. stop x z) ≡ means e (return_statement absent) (Stat None) [] z
    bare e z = never_goes (means e (return_statement absent) (Stat None) [] z) (ended_tree e (return_statement absent) refl [] z) _

-- `a; return b;`

-- a head that asks its expression first, and then does what that makes of the reply
record Heads (w : Want) (head : Tree → Tree) (x y : Tree) : Type 0 where
  rest : Environment → Says w → State → Completion (Unit {0})
  before : (e : Environment) (s : State) → means e (head x) (Stat None) [] s ≡ either (means e x (As w) tt s) (λ v z. rest e v z) (λ x z. stop x z)
  after : (e : Environment) (s : State) → means e (head y) (Stat None) [] s ≡ either (means e y (As w) tt s) (λ v z. rest e v z) (λ x z. stop x z)

into_head : (p : Tree) (ps : Trees) (q : Tree) (qs : Trees) (w : Want) (head : Tree → Tree) → Heads w head (of_parts q qs) (of_parts p (append ps (q ▸ qs))) → ReadSame (expression_statement (of_parts p ps) ▸ (head (of_parts q qs) ▸ none)) (head (of_parts p (append ps (q ▸ qs))) ▸ none) → SameStretch (expression_statement (of_parts p ps) ▸ (head (of_parts q qs) ▸ none)) (head (of_parts p (append ps (q ▸ qs))) ▸ none)
into_head p ps q qs w head h read = record {
  by = λ e s.
      exec_two e (expression_statement (of_parts p ps)) (head (of_parts q qs)) s
      ∙ ap (λ x. either x (λ u z. means e (head (of_parts q qs)) (Stat None) [] z) (λ x z. stop x z)) (expression_is e (of_parts p ps) [] s)
      ∙ either_cong (means e (of_parts p ps) (As Unused) tt s) _ _ _ _ (λ u z. h.before e z) (λ x z. sym (either_stop x z _ _))
      ∙ sym (either_assoc (means e (of_parts p ps) (As Unused) tt s) _ _ _ _)
      ∙ sym (exec_one e (head (of_parts p (append ps (q ▸ qs)))) s ∙ h.after e s ∙ ap (λ x. either x (λ v z. h.rest e v z) (λ x z. stop x z)) (joined_is e p ps q qs w s));
  read = read;
}

joined_nothing : (p : Tree) (ps : Trees) (q : Tree) (qs : Trees) → Nothing (of_parts p (append ps (q ▸ qs)))
joined_nothing p none q qs = record { lets = refl; functions = refl; facts = refl; declared = refl }
joined_nothing p (c ▸ ps) q qs = record { lets = refl; functions = refl; facts = refl; declared = refl }

parts_nothing : (p : Tree) (ps : Trees) → are_parts p ps ≡ true → Nothing (of_parts p ps)
parts_nothing p none h = let (shape, declares) = and_parts (is_one_part_shape (shape_of p)) (declares_nothing p) h in nothing_by p declares
parts_nothing p (q ▸ qs) h = record { lets = refl; functions = refl; facts = refl; declared = refl }

enters : (p : Tree) (ps : Trees) (q : Tree) (qs : Trees) (head : Head) → are_parts q qs ≡ true → SameStretch (expression_statement (of_parts p ps) ▸ (with_head head (of_parts q qs) ▸ none)) (with_head head (of_parts p (append ps (q ▸ qs))) ▸ none)
enters p ps q qs Return h = into_head p ps q qs Val return_statement (record { rest = λ e v z. stop (Returned v) z; before = λ e s. return_is e _ [] s; after = λ e s. return_is e _ [] s }) (record { lets = refl; functions = refl; facts = refl; texts = refl })
enters p ps q qs Throw h = into_head p ps q qs Val throw_statement (record { rest = λ e v z. stop (Thrown v) z; before = λ e s. throw_is e _ [] s; after = λ e s. throw_is e _ [] s }) (record { lets = refl; functions = refl; facts = refl; texts = refl })
enters p ps q qs (If u v) h = into_head p ps q qs Test (λ t. if_else t u v) (record { rest = λ e t z. choose t (means e u (Stat None) [] z) (means e v (Stat None) [] z); before = λ e s. if_is e _ u v [] s; after = λ e s. if_is e _ u v [] s }) (record { lets = refl; functions = refl; facts = refl; texts = refl })
enters p ps q qs (Switch cases) h = into_head p ps q qs Val (λ d. switch d cases) (record { rest = λ e v z. switch_rest e [] [] [] cases v z; before = λ e s. switch_plain e (of_parts q qs) cases (parts_nothing q qs h) s; after = λ e s. switch_plain e (of_parts p (append ps (q ▸ qs))) cases (joined_nothing p ps q qs) s }) (record { lets = refl; functions = refl; facts = refl; texts = refl })
enters p ps q qs (For t u b) h = into_head p ps q qs Unused (λ i. for_loop i t u b) (record { rest = λ e v z. for_rest e t u b [] z; before = λ e s. for_is e t u b (of_parts q qs) (parts_nothing q qs h) [] s; after = λ e s. for_is e t u b (of_parts p (append ps (q ▸ qs))) (joined_nothing p ps q qs) [] s }) (record { lets = refl; functions = refl; facts = refl; texts = refl })

row_67 : (a b : Trees) → Row67 a b → SameStretch a b
row_67 a b r = replaced a _ b _ r.shape r.written (enters r.p r.ps r.q r.qs r.head r.second)

-- `a; for (; b; c) d`
row_67_absent : (a b : Trees) → Row67Absent a b → SameStretch a b
row_67_absent a b r =
    let e : Tree = of_parts r.p r.ps in
    replaced a _ b _ r.shape r.written (record {
      by = λ v s.
          exec_two v (expression_statement e) (for_loop absent r.test r.update r.body) s
          ∙ ap (λ x. either x (λ u z. means v (for_loop absent r.test r.update r.body) (Stat None) [] z) (λ x z. stop x z)) (expression_is v e [] s)
          ∙ either_cong (means v e (As Unused) tt s) _ _ _ _ (λ u z. for_absent_is v r.test r.update r.body [] z) (λ x z. refl)
          ∙ sym (exec_one v (for_loop e r.test r.update r.body) s ∙ for_is v r.test r.update r.body e (parts_nothing r.p r.ps r.first) [] s);
      read = record { lets = refl; functions = refl; facts = refl; texts = refl };
    })

-- `var a; var b;`
row_68 : (a b : Trees) → Row68 a b → SameStretch a b
row_68 a b r = replaced a _ b _ r.shape r.written (record {
  by = λ e s.
      exec_two e (declaration r.kind r.ds) (declaration r.kind r.es) s
      ∙ sym (exec_one e (declaration r.kind (append r.ds r.es)) s ∙ declarations_join e r.kind r.ds r.es s);
  read = declarations_read r.kind r.ds r.es;
})

-- `a; for (x in b) c`
row_67_in : (a b : Trees) → Row67In a b → SameStretch a b
row_67_in a b r =
    let lets = left_lets r.left r.plain in
    replaced a _ b _ r.shape r.written (into_head r.p r.ps r.q r.qs Val (λ d. for_in r.left d r.body)
    (record { rest = λ e v z. in_rest e r.left r.body [] v z; before = λ e s. in_is e r.left r.body [] lets (left_idle e r.left r.plain) (of_parts r.q r.qs) s; after = λ e s. in_is e r.left r.body [] lets (left_idle e r.left r.plain) (of_parts r.p (append r.ps (r.q ▸ r.qs))) s })
    (record { lets = refl; functions = refl; facts = refl; texts = refl }))

-- `var a; for (; b; c) d`
row_68_free : (a b : Trees) → Row68Free a b → SameStretch a b
row_68_free a b r = replaced a _ b _ r.shape r.written (record {
  by = λ e s.
      exec_two e (declaration Var r.ds) (for_loop absent r.test r.update r.body) s
      ∙ either_cong (means e (declaration Var r.ds) (Stat None) [] s) _ _ _ _ (λ u z. for_absent_is e r.test r.update r.body [] z) (λ x z. refl)
      ∙ sym (exec_one e (for_loop (declaration Var r.ds) r.test r.update r.body) s ∙ for_var_is e r.test r.update r.body r.ds [] s);
  read = record { lets = refl; functions = refl; facts = refl; texts = refl };
})

-- `var a; for (var b; c; d) e`
row_68_init : (a b : Trees) → Row68Init a b → SameStretch a b
row_68_init a b r = replaced a _ b _ r.shape r.written (record {
  by = λ e s.
      exec_two e (declaration Var r.ds) (for_loop (declaration Var r.es) r.test r.update r.body) s
      ∙ either_cong (means e (declaration Var r.ds) (Stat None) [] s) _ _ _ _ (λ u z. for_var_is e r.test r.update r.body r.es [] z) (λ x z. sym (either_stop x z _ _))
      ∙ sym (either_assoc (means e (declaration Var r.ds) (Stat None) [] s) _ _ _ _)
      ∙ sym (exec_one e (for_loop (declaration Var (append r.ds r.es)) r.test r.update r.body) s ∙ for_var_is e r.test r.update r.body (append r.ds r.es) [] s ∙ ap (λ x. either x (λ u z. for_rest e r.test r.update r.body [] z) (λ x z. stop x z)) (declarations_join e Var r.ds r.es s));
  read = record { lets = refl; functions = refl; facts = refl; texts = refl };
})

-- `if (a) s; else u`
row_76 : (a b : Trees) → Row76 a b → SameStretch a b
row_76 a b r =
    let reads = one_unscoped r.u r.unscoped in
    replaced a _ b _ r.shape r.written (record {
      by = λ e s.
          exec_one e (if_else r.test r.s r.u) s
          ∙ if_is e r.test r.s r.u [] s
          ∙ sym (exec_two e (if_alone r.test r.s) r.u s
          ∙ ap (λ x. either x (λ u z. means e r.u (Stat None) [] z) (λ x z. stop x z)) (if_is e r.test r.s absent [] s)
          ∙ either_assoc (means e r.test (As Test) tt s) _ _ _ _
          ∙ either_cong (means e r.test (As Test) tt s) _ (λ t z. choose t (means e r.s (Stat None) [] z) (means e r.u (Stat None) [] z)) _ (λ x z. stop x z) (each_bool _ (λ z. never_goes (means e r.s (Stat None) [] z) (ended_tree e r.s r.terminated [] z) _) (λ z. ap (λ x. either x (λ u z. means e r.u (Stat None) [] z) (λ x z. stop x z)) (absent_is e [] z) ∙ either_ok tt z _ _)) (λ x z. either_stop x z _ _));
      read = record { lets = sym reads.lets; functions = sym reads.functions; facts = sym reads.facts; texts = sym reads.texts };
    })

sequences_same : (a b : Trees) → SequencesRow a b → SameStretch a b
sequences_same a b (inl r) = row_66_joined a b r
sequences_same a b (inr (inl r)) = row_73_return a b r
sequences_same a b (inr (inr (inl r))) = row_73_throw a b r
sequences_same a b (inr (inr (inr (inl r)))) = row_73_bare a b r
sequences_same a b (inr (inr (inr (inr (inl r))))) = row_67 a b r
sequences_same a b (inr (inr (inr (inr (inr (inl r)))))) = row_67_absent a b r
sequences_same a b (inr (inr (inr (inr (inr (inr r)))))) = row_76 a b r

loops_same : (a b : Trees) → LoopRow a b → SameStretch a b
loops_same a b (inl r) = row_67_in a b r
loops_same a b (inr (inl r)) = row_68_free a b r
loops_same a b (inr (inr r)) = row_68_init a b r

joins_same : (o : Switches) (a b : Trees) → JoinRow o a b → SameStretch a b
joins_same o a b (inl r) = row_68 a b r.1
joins_same o a b (inr r) = loops_same a b r.1

stretch_same : (o : Switches) (a b : Trees) → StretchRow o a b → SameStretch a b
stretch_same o a b (inl r) = row_66_empty a b r
stretch_same o a b (inr (inl r)) = row_79 a b r
stretch_same o a b (inr (inr (inl r))) = joins_same o a b r
stretch_same o a b (inr (inr (inr r))) = sequences_same a b r.1

-- an `if` and the next one, that has its branch
or_test : (e : Environment) (a b : Tree) (s : State) → means e (logical Or a b) (As Test) tt s ≡ either (means e a (As Test) tt s) (λ t z. choose t (ok true z) (means e b (As Test) tt z)) (λ x z. stop x z)
unfolding means meaning step
or_test e a b s = either_cong (means e a (As Test) tt s) _ _ _ _ (each_bool _ (λ z. refl) (λ z. either_eta (means e b (As Test) tt z))) (λ x z. refl)

row_74 : (a b : Trees) → Row74 a b → SameStretch a b
row_74 a b r = replaced a _ b _ r.shape r.written (record {
  by = λ e s.
      exec_two e (if_alone r.left r.s) (if_else r.right r.s r.u) s
      ∙ ap (λ x. either x (λ u z. means e (if_else r.right r.s r.u) (Stat None) [] z) (λ x z. stop x z)) (if_is e r.left r.s absent [] s)
      ∙ either_assoc (means e r.left (As Test) tt s) _ _ _ _
      ∙ either_cong (means e r.left (As Test) tt s) _ (λ t z. choose t (means e r.s (Stat None) [] z) (means e (if_else r.right r.s r.u) (Stat None) [] z)) _ (λ x z. stop x z) (each_bool _ (λ z. never_goes (means e r.s (Stat None) [] z) (ended_tree e r.s r.terminated [] z) _) (λ z. ap (λ x. either x (λ u z. means e (if_else r.right r.s r.u) (Stat None) [] z) (λ x z. stop x z)) (absent_is e [] z) ∙ either_ok tt z _ _)) (λ x z. either_stop x z _ _)
      ∙ sym (exec_one e (if_else (logical Or r.left r.right) r.s r.u) s
      ∙ if_is e (logical Or r.left r.right) r.s r.u [] s
      ∙ ap (λ x. either x (λ t z. choose t (means e r.s (Stat None) [] z) (means e r.u (Stat None) [] z)) (λ x z. stop x z)) (or_test e r.left r.right s)
      ∙ either_assoc (means e r.left (As Test) tt s) _ _ _ _
      ∙ either_cong (means e r.left (As Test) tt s) _ (λ t z. choose t (means e r.s (Stat None) [] z) (means e (if_else r.right r.s r.u) (Stat None) [] z)) _ (λ x z. stop x z) (each_bool _ (λ z. either_ok true z _ _) (λ z. sym (if_is e r.right r.s r.u [] z))) (λ x z. either_stop x z _ _));
  read = record { lets = refl; functions = refl; facts = refl; texts = refl };
})

-- what never runs
says_unscoped : (k : Saying) (e : Tree) → is_unscoped (says k e) ≡ true
says_unscoped AsStatement e = refl
says_unscoped AsReturn e = refl
says_unscoped AsThrow e = refl

row_77 : (a b : Trees) → Row77 a b → SameStretch a b
row_77 a b r = replaced a _ b _ r.shape r.written (record {
  by = λ e s. exec_two e r.first (says r.saying r.e) s ∙ never_goes (means e r.first (Stat None) [] s) (ended_tree e r.first r.terminated [] s) _ ∙ sym (exec_one e r.first s);
  read = read_in_list (r.first ▸ none) (says r.saying r.e ▸ none) none none (one_unscoped (says r.saying r.e) (says_unscoped r.saying r.e));
})

leap_unscoped : (l : Leap) → is_unscoped (leap l) ≡ true
leap_unscoped Breaks = refl
leap_unscoped Continues = refl

row_77_leap : (a b : Trees) → Row77Leap a b → SameStretch a b
row_77_leap a b r = replaced a _ b _ r.shape r.written (record {
  by = λ e s. exec_two e r.first (leap r.leaping) s ∙ never_goes (means e r.first (Stat None) [] s) (ended_tree e r.first r.terminated [] s) _ ∙ sym (exec_one e r.first s);
  read = read_in_list (r.first ▸ none) (leap r.leaping ▸ none) none none (one_unscoped (leap r.leaping) (leap_unscoped r.leaping));
})

left_unscoped : (xs : List Name) → ReadSame none (declared_bare xs)
left_unscoped [] = record { lets = refl; functions = refl; facts = refl; texts = refl }
left_unscoped (x ∷ xs) = record { lets = refl; functions = refl; facts = refl; texts = refl }

gone_unscoped : (t : Tree) → is_unscoped t ≡ true → ReadSame (t ▸ none) (left_behind t)
gone_unscoped t h =
    let one = one_unscoped t h in
    let left = left_unscoped (names_of declared.Hoisted t) in
    record { lets = one.lets ∙ left.lets; functions = one.functions ∙ left.functions; facts = one.facts ∙ left.facts; texts = one.texts ∙ left.texts }

read_behind : (pre a b : Trees) → ReadSame a b → ReadSame (append pre a) (append pre b)
read_behind pre a b h = subst (λ x. ReadSame (append pre x) (append pre b)) (append_none a) (subst (λ x. ReadSame (append pre (append a none)) (append pre x)) (append_none b) (read_in_list pre a b none h))

row_77_unreached : (a b : Trees) → Row77Unreached a b → SameStretch a b
row_77_unreached a b r = replaced a _ b _ r.shape r.written (record {
  by = λ e s. stops e (append r.between (r.gone ▸ none)) s ∙ sym (stops e (append r.between (left_behind r.gone)) s);
  read = read_behind (r.first ▸ r.between) (r.gone ▸ none) (left_behind r.gone) (gone_unscoped r.gone r.unscoped);
})
  where
    stops : (e : Environment) (ts : Trees) (s : State) → exec e (r.first ▸ ts) None s ≡ means e r.first (Stat None) [] s
    stops e ts s = exec_more e r.first ts s ∙ never_goes (means e r.first (Stat None) [] s) (ended_tree e r.first r.terminated [] s) _

-- `var a; a = b;`

then_same : (a b c : Trees) → SameStretch a b → SameStretch b c → SameStretch a c
then_same a b c h k = record {
  by = λ e s. h.by e s ∙ k.by e s;
  read = record { lets = h.read.lets ∙ k.read.lets; functions = h.read.functions ∙ k.read.functions; facts = h.read.facts ∙ k.read.facts; texts = h.read.texts ∙ k.read.texts };
}

pub back_same : (a b : Trees) → SameStretch a b → SameStretch b a
back_same a b h = record { by = λ e s. sym (h.by e s); read = record { lets = sym h.read.lets; functions = sym h.read.functions; facts = sym h.read.facts; texts = sym h.read.texts } }

-- an assignment that begins a statement stands before what is left of it
joined_twice : (p q : Tree) (qs : Trees) → SameStretch (expression_statement p ▸ (expression_statement (of_parts q qs) ▸ none)) (expression_statement (sequence (p ▸ (q ▸ qs))) ▸ none)
joined_twice p q qs = record {
  by = λ e s.
      exec_two e (expression_statement p) (expression_statement (of_parts q qs)) s
      ∙ ap (λ x. either x (λ u z. means e (expression_statement (of_parts q qs)) (Stat None) [] z) (λ x z. stop x z)) (expression_is e p [] s)
      ∙ either_cong (means e p (As Unused) tt s) _ _ _ _ (λ u z. expression_is e (of_parts q qs) [] z) (λ x z. refl)
      ∙ sym (exec_one e (expression_statement (sequence (p ▸ (q ▸ qs)))) s ∙ expression_is e (sequence (p ▸ (q ▸ qs))) [] s ∙ joined_is e p none q qs Unused s);
  read = record { lets = refl; functions = refl; facts = refl; texts = refl };
}

init_alone : (a : Tree) → declares_nothing a ≡ true → (u v w : Tree) → SameStretch (expression_statement a ▸ (for_loop absent u v w ▸ none)) (for_loop a u v w ▸ none)
init_alone a h u v w = record {
  by = λ e s.
      exec_two e (expression_statement a) (for_loop absent u v w) s
      ∙ ap (λ x. either x (λ y z. means e (for_loop absent u v w) (Stat None) [] z) (λ x z. stop x z)) (expression_is e a [] s)
      ∙ either_cong (means e a (As Unused) tt s) _ _ _ _ (λ y z. for_absent_is e u v w [] z) (λ x z. refl)
      ∙ sym (exec_one e (for_loop a u v w) s ∙ for_is e u v w a (nothing_by a h) [] s);
  read = record { lets = refl; functions = refl; facts = refl; texts = refl };
}

-- what a loop goes over, and the first initializer of a declaration
into_each : (k : Each) (left body : Tree) → is_plain_left left ≡ true → (p : Tree) (q : Tree) (qs : Trees) → SameStretch (expression_statement p ▸ (each_loop k left (of_parts q qs) body ▸ none)) (each_loop k left (sequence (p ▸ (q ▸ qs))) body ▸ none)
into_each EachIn left body h p q qs =
    let lets = left_lets left h in
    into_head p none q qs Val (λ d. for_in left d body)
    (record { rest = λ e v z. in_rest e left body [] v z; before = λ e s. in_is e left body [] lets (left_idle e left h) (of_parts q qs) s; after = λ e s. in_is e left body [] lets (left_idle e left h) (sequence (p ▸ (q ▸ qs))) s })
    (record { lets = refl; functions = refl; facts = refl; texts = refl })
into_each EachOf left body h p q qs =
    let lets = left_lets left h in
    into_head p none q qs Val (λ d. each_loop EachOf left d body)
    (record { rest = λ e v z. of_rest e left body [] v z; before = λ e s. of_is e left body [] lets (of_parts q qs) s; after = λ e s. of_is e left body [] lets (sequence (p ▸ (q ▸ qs))) s })
    (record { lets = refl; functions = refl; facts = refl; texts = refl })

parts_declare : (q : Tree) (qs : Trees) → are_parts q qs ≡ true → declares_nothing (of_parts q qs) ≡ true
parts_declare q none h = (and_parts (is_one_part_shape (shape_of q)) (declares_nothing q) h).1
parts_declare q (c ▸ qs) h = refl

module _ (kind : VariableDeclarationKind) (id : Tree) (ds : Trees) where
  declares_first : Environment → Value → State → Completion (Unit {0})
  declares_first e v s = either (means e id (Binds (is_lexical kind)) v s) (λ u z. declare e ds (is_lexical kind) z) (λ y z. stop y z)

  first_is : (e : Environment) (b : Tree) → declares_nothing b ≡ true → (s : State) → means e (declaration kind (declarator id b ▸ ds)) (Stat None) [] s ≡ either (means e b (As Val) tt s) (λ v z. declares_first e v z) (λ y z. stop y z)
  unfolding declares_first
  first_is e b h s =
      declaration_is e kind (declarator id b ▸ ds) [] s
      ∙ declare_more e (declarator id b) ds (is_lexical kind) s
      ∙ ap (λ c. either c (λ u z. declare e ds (is_lexical kind) z) (λ y z. stop y z)) (initialised e id (is_lexical kind) b h s)
      ∙ either_assoc (means e b (As Val) tt s) _ _ _ _
      ∙ either_cong (means e b (As Val) tt s) _ _ _ _ (λ v z. refl) (λ y z. either_stop y z _ _)

  into_first : (p : Tree) (q : Tree) (qs : Trees) → are_parts q qs ≡ true → SameStretch (expression_statement p ▸ (declaration kind (declarator id (of_parts q qs) ▸ ds) ▸ none)) (declaration kind (declarator id (sequence (p ▸ (q ▸ qs))) ▸ ds) ▸ none)
  into_first p q qs h =
      into_head p none q qs Val (λ d. declaration kind (declarator id d ▸ ds))
      (record { rest = declares_first; before = λ e s. first_is e (of_parts q qs) (parts_declare q qs h) s; after = λ e s. first_is e (sequence (p ▸ (q ▸ qs))) refl s })
      (record { lets = refl; functions = refl; facts = refl; texts = refl })

-- and of a `var` in the head of a `for`
module _ (id : Tree) (ds : Trees) (test update body : Tree) where
  loops_on : Environment → Value → State → Completion (Unit {0})
  loops_on e v s = either (declares_first Var id ds e v s) (λ u z. for_rest e test update body [] z) (λ y z. stop y z)

  looped_is : (e : Environment) (b : Tree) → declares_nothing b ≡ true → (s : State) → means e (for_loop (declaration Var (declarator id b ▸ ds)) test update body) (Stat None) [] s ≡ either (means e b (As Val) tt s) (λ v z. loops_on e v z) (λ y z. stop y z)
  unfolding loops_on
  looped_is e b h s =
      for_var_is e test update body (declarator id b ▸ ds) [] s
      ∙ ap (λ c. either c (λ u z. for_rest e test update body [] z) (λ y z. stop y z)) (first_is Var id ds e b h s)
      ∙ either_assoc (means e b (As Val) tt s) _ _ _ _
      ∙ either_cong (means e b (As Val) tt s) _ _ _ _ (λ v z. refl) (λ y z. either_stop y z _ _)

  into_looped : (p : Tree) (q : Tree) (qs : Trees) → are_parts q qs ≡ true → SameStretch (expression_statement p ▸ (for_loop (declaration Var (declarator id (of_parts q qs) ▸ ds)) test update body ▸ none)) (for_loop (declaration Var (declarator id (sequence (p ▸ (q ▸ qs))) ▸ ds)) test update body ▸ none)
  into_looped p q qs h =
      into_head p none q qs Val (λ d. for_loop (declaration Var (declarator id d ▸ ds)) test update body)
      (record { rest = loops_on; before = λ e s. looped_is e (of_parts q qs) (parts_declare q qs h) s; after = λ e s. looped_is e (sequence (p ▸ (q ▸ qs))) refl s })
      (record { lets = refl; functions = refl; facts = refl; texts = refl })

pub begun_same : (b : Beginning) (x : Name) (value : Tree) → begins_well b ≡ true → SameStretch (expression_statement (assigned x value) ▸ begun_without b) (begun b (assigned x value) ▸ none)
begun_same Alone x value h = record { by = λ e s. refl; read = record { lets = refl; functions = refl; facts = refl; texts = refl } }
begun_same (Init u v w) x value h = init_alone (assigned x value) refl u v w
begun_same (Before Statement q qs) x value h = joined_twice (assigned x value) q qs
begun_same (Before (Heading head) q qs) x value h = enters (assigned x value) none q qs head h
begun_same (Before (Going k left body) q qs) x value h = into_each k left body (and_parts (is_plain_left left) (are_parts q qs) h).0 (assigned x value) q qs
begun_same (Before (Declaring kind y ds) q qs) x value h = into_first kind y ds (assigned x value) q qs h
begun_same (Before (Looping y ds u v w) q qs) x value h = into_looped y ds u v w (assigned x value) q qs h

with_none : (ts : Trees) → append ts none ≡ ts
with_none none = refl
with_none (t ▸ ts) = ap (λ us. t ▸ us) (with_none ts)

-- after another statement
pub stretch_after : (t : Tree) (x y : Trees) → SameStretch x y → SameStretch (t ▸ x) (t ▸ y)
stretch_after t x y h = subst (λ z. SameStretch (t ▸ z) (t ▸ y)) (with_none x) (subst (λ z. SameStretch (t ▸ append x none) (t ▸ z)) (with_none y) (in_list (t ▸ none) x y none h))

row_70 : (a b : Trees) → Row70 a b → SameStretch a b
row_70 a b r =
    let old = without_value r.ds r.spelling r.spelling r.symbol r.es r.value in
    let new = with_value r.ds r.spelling r.spelling r.symbol r.es r.value in
    let whole = begun r.beginning (assigned (resolved r.spelling r.symbol) r.value) in
    let alone = expression_statement (assigned (resolved r.spelling r.symbol) r.value) in
    let left = begun_without r.beginning in
    let apart : SameStretch (old ▸ (whole ▸ none)) (old ▸ (alone ▸ left)) = stretch_after old _ _ (back_same (alone ▸ left) (whole ▸ none) (begun_same r.beginning (resolved r.spelling r.symbol) r.value r.parts)) in
    let entered : SameStretch (old ▸ (alone ▸ left)) (new ▸ left) = in_list none (old ▸ (alone ▸ none)) (new ▸ none) left (assignment_enters r.ds r.spelling r.spelling r.symbol r.es r.value r.bare r.plain) in
    replaced a _ b _ r.shape r.written (then_same _ _ _ apart entered)

-- `var a; for (a of b) c`
row_69 : (k : Each) (a b : Trees) → Row69 k a b → SameStretch a b
row_69 k a b r = replaced a _ b _ r.shape r.written (each_enters k r.spelling r.spelling r.symbol r.right r.body)

neighbours_same : (o : Switches) (a b : Trees) → NeighbourRow o a b → SameStretch a b
neighbours_same o a b (inl r) = stretch_same o a b r
neighbours_same o a b (inr (inl (s, inl r))) = row_74 a b r
neighbours_same o a b (inr (inl (s, inr (inl r)))) = row_77 a b r
neighbours_same o a b (inr (inl (s, inr (inr (inl r))))) = row_77_leap a b r
neighbours_same o a b (inr (inl (s, inr (inr (inr r))))) = row_77_unreached a b r
neighbours_same o a b (inr (inr (inl r))) = row_70 a b r
neighbours_same o a b (inr (inr (inr (inl r)))) = row_69 EachOf a b r
neighbours_same o a b (inr (inr (inr (inr r)))) = row_69 EachIn a b r.1

-- in a list
list_same : (o : Switches) (n w : Tree) (r : InList (NeighbourRow o) n w) → SameStretch (append r.before (append r.read r.after)) (append r.before (append r.put r.after))
list_same o n w r = in_list r.before r.read r.put r.after (neighbours_same o r.read r.put r.row)

list_equal : (o : Switches) (n w : Tree) → InList (NeighbourRow o) n w → Equal StatementList n w
list_equal o n w r = record { by = λ e d f z s. go e d f z s }
  where
    same : SameStretch (append r.before (append r.read r.after)) (append r.before (append r.put r.after))
    same = list_same o n w r

    go : (e : Environment) (d : Demand) → Fits StatementList d → (z : Request d) (s : State) → means e n d z s ≡ means e w d z s
    go e (Stat t) f z s = ap (λ x. means e x (Stat t) z s) r.shape ∙ list_does _ _ same e t z s ∙ sym (ap (λ x. means e x (Stat t) z s) r.written)
    go e d f z s = elim f [ ]

row_same : (o : Switches) (p : Position) (n w : Tree) → ListRow o p n w → SameAt p n w
row_same o StatementList n w r = equal_same StatementList n w (list_equal o n w r)
row_same o BodyList n w (inl r) = body_same n w (equal_same StatementList n w (list_equal o n w r))
row_same o BodyList n w (inr r) = body_end_same o n w r
row_same o p n w r = absurd r

list_read : (o : Switches) (p : Position) (n w : Tree) → ListRow o p n w → summary n ≡ summary w
list_read o StatementList n w r = ap summary r.shape ∙ list_reads _ _ (list_same o n w r) ∙ sym (ap summary r.written)
list_read o BodyList n w (inr r) = end_reads o FunctionTail n w r
list_read o BodyList n w (inl r) = ap summary r.shape ∙ list_reads _ _ (list_same o n w r) ∙ sym (ap summary r.written)
list_read o p n w r = absurd r

pub lists_mean_same : ListsMeanSame
lists_mean_same o = record { same = λ p n w c. row_same o p n w c.row; reads = λ p n w c. list_read o p n w c.row }
