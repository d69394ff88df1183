-- A guard in the body of a loop asks less, whatever names the body declares.
use Rattle.std.specs.Prelude.{ℕ, ◌≡◌, refl, Bool, true, false, ◌&&◌, ◌||◌, [], ◌∷◌, ◌++◌}
use Rattle.std.proofs.Common.{ap, ◌∙◌, inl, inr, sym, subst, true≢false}
use Rattle.std.proofs.lemmas.Bool.{and_parts}
use Rattle.mini_model.specs.declared.operator.UnaryOperator.TheVariants.{LogicalNot}
use Rattle.mini_model.specs.declared.place.Position.{Position}
use Rattle.mini_model.specs.declared.place.Position.TheVariants.{Stmt, StatementList}
use Rattle.mini_model.specs.declared.seat.StmtSeat.{StmtSeat}
use Rattle.mini_model.specs.declared.shape.Shape.TheVariants as shape
use Rattle.mini_model.specs.Paths.{append}
use Rattle.mini_model.specs.Tree.{Tree, Trees, none, ◌▸◌, listed, absent, child_or_absent, negation}
use Rattle.mini_accept.specs.WellShaped.{a_statement, nested, many, one, fits}
use Rattle.mini_laws.specs.declared.names.Declared.{Declared}
use Rattle.mini_laws.specs.declared.names.Declared.TheVariants as declared
use Rattle.mini_laws.specs.declared.names.Use.{Use}
use Rattle.mini_laws.specs.declared.names.Use.TheVariants.{Read}
use Rattle.mini_laws.specs.DeclaredNames.{names_of, all_names}
use Rattle.mini_laws.specs.Edits.{Kept}
use Rattle.mini_laws.specs.Foreign.{has_number, own_lexical}
use Rattle.mini_laws.specs.Mentions.{is_among}
use Rattle.mini_laws.specs.Resolved.{Environment}
use Rattle.mini_laws.specs.ScopeList.{any_has_eval, by_symbol, has_eval, names_in}
use Rattle.mini_laws.specs.Scopes.{opened, scopes_by, lexical_scope, at_or_empty}
use Rattle.mini_laws.specs.Shared.{names_arguments}
use Rattle.mini_shrink.specs.Facts.{Fact, Written, WrittenElsewhere, Given, GivenElsewhere, GivenByPattern, MentionedElsewhere, BoundElsewhere, IsLexical, IsSwitched, InPattern, UnderCatch, ByArguments, ByEval, AmongParameters, ReadEarly, question}
use Rattle.mini_shrink.specs.Pace.{AtMost, Setting, Question, pace, reads_if}
use Rattle.mini_shrink.specs.Questions.{asks, early, seen_from}
use Rattle.mini_shrink.proofs.Owns.{implied, or_implied, and_implied}
use Rattle.mini_shrink.proofs.Paces.{same}
use Rattle.mini_rows.specs.Branches.{Surrounding, Consequent, Alternate, WhileBody, DoBody, ForBody, InBody, OfBody, around, is_loop, bare_continue}
use Rattle.mini_rows.specs.Lists.{block, is_unscoped, are_unscoped, alternate_of}
use Rattle.mini_rows.specs.LoopGuards.{TurnsGuard, LoopGuardRow, LoopGuardContracts}
use Rattle.mini_rows.specs.Sketches.{Asked, AsBranch, AsItem}
use Rattle.mini_rows.specs.Switches.{Switches}
use Rattle.mini_rows.proofs.Arranging.{Any, first_all}
use Rattle.mini_rows.proofs.BranchAround.{around_plain}
use Rattle.mini_rows.proofs.BranchLawful.{around_read, as_statement}
use Rattle.mini_rows.proofs.CaseKept.{no_lexicals}
use Rattle.mini_rows.proofs.ListKeptDeclarations.{all_both}
use Rattle.mini_rows.proofs.ListShapes.{of_block}
use Rattle.mini_rows.proofs.LoopGuardsKept.{turned, in_loop}
use Rattle.mini_less.specs.Families.{LessAt}
use Rattle.mini_less.specs.LoopGuards.{LoopGuardsReadLess}
use Rattle.mini_less.specs.Neighbours.{PassesLists}
use Rattle.mini_less.proofs.BodiesLess.{around_less}
use Rattle.mini_less.proofs.ByQuestion.{by_question}
use Rattle.mini_less.proofs.IfsLess.{if_parts, an_if, nothing}
use Rattle.mini_less.proofs.LessRows.{reads_less_by}
use Rattle.mini_less.proofs.LessTold.{LessTold, Anyhow, node_less, over_less, less_told, told_along}
use Rattle.mini_less.proofs.ListHeads.{all_unscoped, block_items, block_of_items, row_75_made, row_75_block_made}
use Rattle.mini_less.proofs.ListMade.{SaysLess, StretchLess, Fits, ListMade, made_stretch, no_bound, stretch_less}
use Rattle.mini_less.proofs.ListRowsLess.{append_none}
use Rattle.mini_less.proofs.Listing.{asks_pass, early_passes, middle_fits}
use Rattle.mini_less.proofs.Made.{ByParts}
use Rattle.mini_less.proofs.Neighbours.{neighbours_ask_less}
use Rattle.mini_less.proofs.Nodes.{a_unary}
use Rattle.mini_less.proofs.TellingLists.{by_lists}

-- ---- a list in a block

-- unscoped statements bind no names themselves
no_bounds : (ts : Trees) → are_unscoped ts ≡ true → all_names declared.Bound ts ≡ []
unfolding names_of
no_bounds none e = refl
no_bounds (t ▸ ts) e =
    let (x, y) = and_parts (is_unscoped t) (are_unscoped ts) e in
    λ j. no_bound t x j ++ no_bounds ts y j

module _ (before a d after : Trees) (loose : are_unscoped a ≡ true) (free : are_unscoped d ≡ true) where
  abbrev old : Tree
  old = listed (append before (append a after))

  abbrev new : Tree
  new = listed (append before (append d after))

  names_with : (e : Declared) → all_names e d ≡ all_names e a → all_names e (append before (append d after)) ≡ all_names e (append before (append a after))
  names_with e f =
      all_both e before (append d after) ∙ ap (λ xs. all_names e before ++ xs) (all_both e d after ∙ ap (λ xs. xs ++ all_names e after) f ∙ sym (all_both e a after)) ∙ sym (all_both e before (append a after))

  lexical_same : names_of declared.Lexical new ≡ names_of declared.Lexical old
  unfolding names_of
  lexical_same = names_with declared.Lexical (no_lexicals d free ∙ sym (no_lexicals a loose))

  bound_same : names_of declared.Bound new ≡ names_of declared.Bound old
  unfolding names_of
  bound_same = names_with declared.Bound (no_bounds d free ∙ sym (no_bounds a loose))

  block_opens : (v : Use) (i : ℕ) → opened v shape.BlockStatement (new ▸ none) i ≡ opened v shape.BlockStatement (old ▸ none) i
  unfolding scopes_by
  block_opens v i = ap (λ xs. at_or_empty (lexical_scope xs ∷ []) i) lexical_same

  no_lexical : (b : Bool) (t : Tree) → own_lexical b shape.BlockStatement (t ▸ none) ≡ []
  no_lexical true t = refl
  no_lexical false t = refl

  -- no direct eval is new
  module _ (evals : has_eval new ≡ true → has_eval old ≡ true) where
    seen_less : (s : ℕ) (v : Use) → seen_from (opened v shape.BlockStatement (new ▸ none)) 0 (new ▸ none) (by_symbol s) ≡ true → seen_from (opened v shape.BlockStatement (old ▸ none)) 0 (old ▸ none) (by_symbol s) ≡ true
    unfolding has_eval
    seen_less s v e =
        let sc = opened v shape.BlockStatement (old ▸ none) in
        or_implied (any_has_eval (new ▸ none) && is_among (by_symbol s) (names_in (sc 0))) false (any_has_eval (old ▸ none) && is_among (by_symbol s) (names_in (sc 0))) false
        (and_implied (any_has_eval (new ▸ none)) (is_among (by_symbol s) (names_in (sc 0))) (any_has_eval (old ▸ none)) (is_among (by_symbol s) (names_in (sc 0))) (or_implied (has_eval new) false (has_eval old) false evals (λ y. y)) (λ y. y))
        (λ y. y) ((λ j. seen_from (λ i. sym (block_opens v i) j) 0 (new ▸ none) (by_symbol s)) ∙ e)

    block_before : (g : Fact) (b s : ℕ) (c : Setting) (env : Environment) → AtMost ((question g b s).before c env shape.BlockStatement [] 0 (new ▸ none)) ((question g b s).before c env shape.BlockStatement [] 0 (old ▸ none))
    block_before ByEval b s c env = implied _ _ (seen_less s c.used)
    block_before IsLexical b s c env = same _ _ (ap (λ xs. reads_if (is_among (by_symbol s) xs)) (no_lexical c.is_body new ∙ sym (no_lexical c.is_body old)))
    block_before Written b s c env = tt
    block_before WrittenElsewhere b s c env = tt
    block_before Given b s c env = tt
    block_before GivenElsewhere b s c env = tt
    block_before GivenByPattern b s c env = tt
    block_before MentionedElsewhere b s c env = tt
    block_before BoundElsewhere b s c env = tt
    block_before IsSwitched b s c env = tt
    block_before InPattern b s c env = tt
    block_before UnderCatch b s c env = tt
    block_before ByArguments b s c env = tt
    block_before AmongParameters b s c env = tt
    block_before ReadEarly b s c env = tt

  block_orders : (g : Fact) (b s : ℕ) (c : Setting) → (question g b s).orders c shape.BlockStatement (new ▸ none) ≡ (question g b s).orders c shape.BlockStatement (old ▸ none)
  block_orders g b s c = by_question (λ q. q.orders c shape.BlockStatement (new ▸ none) ≡ q.orders c shape.BlockStatement (old ▸ none)) (λ o. refl) (λ m r. ap (is_among (by_symbol r)) lexical_same) g b s

  list_ends : (g : Fact) (b s : ℕ) (c : Setting) → (question g b s).ends c new ≡ (question g b s).ends c old
  list_ends g b s c = by_question (λ q. q.ends c new ≡ q.ends c old) (λ o. refl) (λ m r j. c.ordered && (is_among (by_symbol r) (lexical_same j) || is_among (by_symbol r) (bound_same j))) g b s

  module _ (strict : Bool) (fit : fits strict (many (a_statement nested)) old ≡ true) (less : StretchLess a d) where
    stretch_fits : Fits a strict
    stretch_fits = record { depth = nested; fit = middle_fits strict (one (a_statement nested)) before a after fit }

    list_less : (q : Question) → PassesLists q → ((c : Setting) → c.used ≡ Read → (env : Environment) (o : Bool) → SaysLess a d q c env o) → (c : Setting) → c.used ≡ Read → (env : Environment) → AtMost (pace q c env new) (pace q c env old)
    list_less q k says c r env = neighbours_ask_less q k c env before after a d (says c r env (k.orders c))

    list_said : (g : Fact) (b s : ℕ) (c : Setting) → c.used ≡ Read → (env : Environment) → AtMost (pace (question g b s) c env new) (pace (question g b s) c env old)
    list_said g b s =
        by_lists (λ q. (c : Setting) → c.used ≡ Read → (env : Environment) → AtMost (pace q c env new) (pace q c env old))
        (λ o t z. list_less (asks o) (asks_pass o t.plainly) (λ c r env x. less.asked strict stretch_fits c r env x o t z))
        (λ b s. list_less (early b s) (early_passes b s) (λ c r env x. less.in_order strict stretch_fits c r env x b s)) g b s

    list_at : LessAt StatementList old new
    list_at = stretch_less StatementList refl before after a d old new refl refl less

    block_told : Kept (block (append before (append a after))) (block (append before (append d after))) → LessTold Anyhow (block (append before (append a after))) (block (append before (append d after)))
    unfolding has_eval names_arguments has_number
    block_told kept =
        let f = list_at.fewer strict (many (a_statement nested)) refl fit in
        record {
          likewise = record {
            kept = kept;
            absent = refl;
            pattern = refl;
            eval = or_implied (has_eval new) false (has_eval old) false f.eval (λ y. y);
            callee = λ e. absurd (true≢false (sym e));
            arguments = or_implied (names_arguments new) false (names_arguments old) false f.flags.arguments (λ y. y);
            number = λ b. or_implied _ _ _ _ (λ y. y) (or_implied (has_number b new) false (has_number b old) false (f.flags.number b) (λ y. y));
          };
          said = λ g b s c v env.
              let q = question g b s in
              node_less q old new (list_ends g b s) none c env shape.BlockStatement [] 0 none (block_before f.eval g b s c env) (block_orders g b s c) (block_opens c.used) (list_said g b s _ refl);
        }

-- ---- a loop over such a block

loop_told : (k : Surrounding) → is_loop k ≡ true → (t u : Tree) → LessTold Anyhow t u → LessTold Anyhow (around k t) (around k u)
loop_told (Consequent a s) e t u x = absurd (true≢false (sym e))
loop_told (Alternate a s) e t u x = absurd (true≢false (sym e))
loop_told (WhileBody a) e t u x = over_less Anyhow Anyhow t u x (a ▸ none) none shape.WhileStatement [] 0 (λ v w. tt)
loop_told (DoBody a) e t u x = over_less Anyhow Anyhow t u x none (a ▸ none) shape.DoWhileStatement [] 0 (λ v w. tt)
loop_told (ForBody i a s) e t u x = over_less Anyhow Anyhow t u x (i ▸ (a ▸ (s ▸ none))) none shape.ForStatement [] 0 (λ v w. tt)
loop_told (InBody a s) e t u x = over_less Anyhow Anyhow t u x (a ▸ (s ▸ none)) none shape.ForInStatement [] 0 (λ v w. tt)
loop_told (OfBody a s) e t u x = over_less Anyhow Anyhow t u x (a ▸ (s ▸ none)) none shape.ForOfStatement [] 0 (λ v w. tt)

guard_loose : (a d : Trees) → TurnsGuard a d → are_unscoped a ≡ true
guard_loose a d (inl r) = ap are_unscoped r.shape ∙ r.unscoped
guard_loose a d (inr r) = ap are_unscoped r.shape ∙ r.unscoped

guard_free : (a d : Trees) → TurnsGuard a d → are_unscoped d ≡ true
guard_free a d (inl r) = ap are_unscoped r.written
guard_free a d (inr r) = ap are_unscoped r.written

guard_made : (a d : Trees) → TurnsGuard a d → ListMade a d
guard_made a d (inl r) = row_75_made bare_continue a d r
guard_made a d (inr r) = row_75_block_made bare_continue refl a d r

body_less : (q : StmtSeat) (n w : Tree) (k : Surrounding) (before a d : Trees) → is_loop k ≡ true → TurnsGuard a d → n ≡ around k (block (append before a)) → w ≡ around k (block (append before d)) → LessAt (Stmt q) n w
body_less q n w k before a d e r f g =
    let t = block (append before a) in
    let u = block (append before d) in
    let ended : (ts : Trees) → append before (append ts none) ≡ append before ts = λ ts. ap (append before) (append_none ts) in
    less_told Anyhow (Stmt q) n w (λ strict s o fit.
    let whole = in_loop strict k t e (as_statement strict s (around k t) (around_read k t) (around_plain k t) (subst (λ x. fits strict s x ≡ true) f fit)) in
    let list = of_block strict nested (append before a) whole in
    let told = block_told before a d none (guard_loose a d r) (guard_free a d r) strict (subst (λ ts. fits strict (many (a_statement nested)) (listed ts) ≡ true) (sym (ended a)) list) (made_stretch a d (guard_loose a d r) (guard_made a d r))
    (subst (λ ts. Kept (block ts) (block (append before (append d none)))) (sym (ended a)) (subst (λ ts. Kept t (block ts)) (sym (ended d)) ((turned before a d r).inside strict whole).kept)) in
    told_along Anyhow n w (around k t) (around k u) f g
    (loop_told k e t u (subst (λ ts. LessTold Anyhow (block ts) u) (ended a) (subst (λ ts. LessTold Anyhow (block (append before (append a none))) (block ts)) (ended d) told))))
    (λ v e. tt)

-- ---- where the guard is the whole body

abbrev behind_first : Trees → Trees
behind_first none = none
behind_first (t ▸ ts) = ts

whole_less : (q : StmtSeat) (n w : Tree) (k : Surrounding) (g m : Tree) → TurnsGuard (g ▸ none) (m ▸ none) → n ≡ around k g → w ≡ around k m → LessAt (Stmt q) n w
whole_less q n w k g m r a b = around_less q n w k g m a b (λ strict x f Q l y. made r Q l y)
  where
    made : TurnsGuard (g ▸ none) (m ▸ none) → (Q : Asked → Tree → Type 0) → ByParts Q → Q AsBranch g → Q AsBranch m
    made (inl r) Q l y =
        let (test, branches) = if_parts Q l AsBranch r.test bare_continue absent (subst (Q AsBranch) (ap (λ ts. child_or_absent ts 0) r.shape) y) in
        let rest : none ≡ r.rest = ap behind_first r.shape in
        subst (Q AsBranch) (sym (ap (λ ts. child_or_absent ts 0) r.written))
        (an_if Q l AsBranch (negation r.test) (block r.rest) absent (a_unary Q l LogicalNot r.test test) (subst (λ ts. Q AsBranch (block ts)) rest (block_of_items Q l none refl tt)) (nothing Q l AsBranch))
    made (inr r) Q l y =
        let (test, (first, second)) = if_parts Q l AsBranch r.test (block (append r.body (bare_continue ▸ none))) absent (subst (Q AsBranch) (ap (λ ts. child_or_absent ts 0) r.shape) y) in
        let rest : none ≡ r.rest = ap behind_first r.shape in
        let body = first_all Any Q AsItem r.body (bare_continue ▸ none) (block_items Q l (append r.body (bare_continue ▸ none)) (all_unscoped r.body (bare_continue ▸ none) r.loose refl) first) in
        subst (Q AsBranch) (sym (ap (λ ts. child_or_absent ts 0) r.written))
        (an_if Q l AsBranch r.test (block r.body) (alternate_of r.rest) test (block_of_items Q l r.body r.loose body) (subst (λ ts. Q AsBranch (alternate_of ts)) rest (nothing Q l AsBranch)))

row_less : (o : Switches) (p : Position) (n w : Tree) → LoopGuardRow o p n w → LessAt p n w
row_less o (Stmt q) n w (s, inl r) = body_less q n w r.place r.before r.read r.put r.loop r.row r.shape r.written
row_less o (Stmt q) n w (s, inr r) = whole_less q n w r.place r.guard r.made r.row r.shape r.written
row_less o p n w r = absurd r

pub loop_guards_read_less : LoopGuardsReadLess
loop_guards_read_less o = reads_less_by (LoopGuardContracts o) (λ p n w c. row_less o p n w c.row)
