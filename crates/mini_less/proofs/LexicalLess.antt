-- Rows of `switch` and of `for` in which names are declared read less: a test goes out of a block
-- of which it has no name.
use Rattle.std.specs.Prelude.{ℕ, suc, ◌≡◌, refl, nat_eq, Bool, true, false, ◌&&◌, ◌||◌, List, [], ◌++◌}
use Rattle.std.proofs.Common.{ap, ◌∙◌, sym, subst, inl, inr}
use Rattle.std.proofs.lemmas.Bool.{and_parts}
use Rattle.std.proofs.lemmas.List.{append-nil}
use Rattle.mini_model.specs.declared.name.Name.{Name}
use Rattle.mini_model.specs.declared.place.Position.{Position}
use Rattle.mini_model.specs.declared.place.Position.TheVariants.{Stmt}
use Rattle.mini_model.specs.declared.seat.StmtSeat.{StmtSeat}
use Rattle.mini_model.specs.declared.shape.Shape.TheVariants as shape
use Rattle.mini_model.specs.Tree.{Tree, Trees, none, ◌▸◌, listed}
use Rattle.mini_laws.specs.declared.names.Declared.TheVariants as declared
use Rattle.mini_laws.specs.DeclaredNames.{names_of, all_names}
use Rattle.mini_laws.specs.Foreign.{has_number, any_has_number}
use Rattle.mini_laws.specs.Mentions.{is_among}
use Rattle.mini_laws.specs.Resolved.{Environment}
use Rattle.mini_laws.specs.ScopeList.{by_symbol, has_eval, any_has_eval}
use Rattle.mini_laws.specs.Scopes.{scopes_by, lexical_scope}
use Rattle.mini_laws.specs.Shared.{is_of_function, names_arguments, any_names_arguments}
use Rattle.mini_laws.specs.Value.{VariableSet}
use Rattle.mini_shrink.specs.Pace.{Pace, followed, ends_after, all_followed, Setting, below, pace, paces}
use Rattle.mini_shrink.specs.Questions.{Own, asks, early, finds}
use Rattle.mini_shrink.proofs.Finding.{pace_is}
use Rattle.mini_rows.specs.Lexical.{all_pass, is_of, is_of_outside, Row84Lexical, LexicalStatement, LexicalRow}
use Rattle.mini_rows.specs.Lists.{block, is_unscoped}
use Rattle.mini_rows.specs.Loops.{Leaving, is_loose, test_of, also, leaves_by, goes_by, runs_on}
use Rattle.mini_rows.specs.Sketches.{AList, Block, If, Asked, AsValue, AsBranch, AsItems, AsItem}
use Rattle.mini_rows.specs.Steady.{LexicalRows}
use Rattle.mini_rows.specs.Unused.{names}
use Rattle.mini_rows.proofs.ArrangedPlain.{no_lexical}
use Rattle.mini_rows.proofs.HeldNames.{lexicals_pass}
use Rattle.mini_rows.proofs.LexicalKept.{lexical_own}
use Rattle.mini_rows.proofs.LexicalLoops.{is_none}
use Rattle.mini_less.specs.Families.{LessAt}
use Rattle.mini_less.specs.Less.{AFor}
use Rattle.mini_less.specs.SwitchRows.{LexicalRowsLess, LexicalNamesReadLess}
use Rattle.mini_less.specs.Own.{LexicalReadsLess}
use Rattle.mini_less.specs.TellsLists.{TellsLists}
use Rattle.mini_less.proofs.BodiesLess.{leaving_parts, unscoped_leaving, goes, beside}
use Rattle.mini_less.proofs.Finding.{Lacks, lacks_local, setting, setting_below, belongs_same}
use Rattle.mini_less.proofs.Flags.{none_of, unlike}
use Rattle.mini_less.proofs.GuardTold.{GuardTold, guard_told}
use Rattle.mini_less.proofs.Headed.{and_nothing}
use Rattle.mini_less.proofs.LessRows.{reads_less_by}
use Rattle.mini_less.proofs.ListMade.{no_bound}
use Rattle.mini_less.proofs.LoopsLess.{loop_made_less}
use Rattle.mini_less.proofs.Made.{ByParts, Spared, spared_by_parts, FactProperties, lacks_parts, calm_parts, names_parts, numbers_parts}
use Rattle.mini_less.proofs.OneCaseLess.{silent_if, of_silent, alone_reads, row_80_lexical}
use Rattle.mini_less.proofs.Ordered.{unscoped_anywhere}
use Rattle.mini_less.proofs.OwnLess.{own_less}
use Rattle.mini_less.proofs.Plainly.{is_reads, split, join, Calmly, standing}

-- what passes from a block that begins by leaving a loop to the test by which it does, where no
-- name of the block stands in the test, and to the block without it
pub record ByGuards (Q : Asked → Tree → Type 0) : Type 1 where
  pub parts : ByParts Q
  pub guarded : (P : Name → Bool) (v : Leaving) (x : Tree) (ts : Trees) → ((y : Name) → P y ≡ true → names y x ≡ false) → all_pass P (all_names declared.Lexical ts) ≡ true → is_loose v ≡ true → Q AsBranch (block (leaves_by v x ▸ ts)) → Q AsValue x × Q AsBranch (block (runs_on v ▸ ts))

-- an unscoped statement declares no name of the list
names_behind : (t : Tree) (ts : Trees) → is_unscoped t ≡ true → names_of declared.Lexical (listed (t ▸ ts)) ≡ all_names declared.Lexical ts
unfolding names_of
names_behind t ts u = ap (λ xs. xs ++ all_names declared.Lexical ts) (no_lexical t u)

-- ---- what is found

module _ (o : Own) (t : TellsLists o) (told : GuardTold (asks o)) (c : Setting) (env : Environment) where
  abbrev Q : Asked → Tree → Type 0
  Q = Lacks o t.plainly c env

  abbrev at : Asked → Setting
  at = setting o t.plainly c env

  abbrev body : Setting
  body = below false (at AsBranch) shape.BlockStatement 0 0

  guarded_lacks : (P : Name → Bool) (v : Leaving) (x : Tree) (ts : Trees) → ((y : Name) → P y ≡ true → names y x ≡ false) → all_pass P (all_names declared.Lexical ts) ≡ true → is_loose v ≡ true → Q AsBranch (block (leaves_by v x ▸ ts)) → Q AsValue x × Q AsBranch (block (runs_on v ▸ ts))
  unfolding finds scopes_by
  guarded_lacks P v x ts free pass loose a =
      let first : Tree = leaves_by v x in
      let going : Tree = runs_on v in
      let ys = all_names declared.Lexical ts in
      let e : Environment = env ++ lexical_scope ys in
      let old = listed (first ▸ ts) in
      let new = listed (going ▸ ts) in
      let old_names : names_of declared.Lexical old ≡ ys = names_behind first ts (unscoped_leaving v x) in
      let new_names : names_of declared.Lexical new ≡ ys = names_behind going ts loose in
      let old_scope : Environment = env ++ lexical_scope (names_of declared.Lexical old) in
      let new_scope : Environment = env ++ lexical_scope (names_of declared.Lexical new) in
      let (own, rest) = none_of (o (at AsBranch) env shape.BlockStatement [] 0 (old ▸ none)) (finds o body old_scope old || false) a in
      let inside = (none_of (finds o body old_scope old) false rest).0 in
      let stands : body ≡ at AsItems = setting_below o t.plainly c env Block AsBranch 0 in
      let there = subst (λ s. finds o s e old ≡ false) stands (subst (λ ns. finds o body (env ++ lexical_scope ns) old ≡ false) old_names inside) in
      let items = ((lacks_local o t.plainly c e).down AList AsItems (first ▸ ts) tt there).1 in
      let parts = lacks_parts o t.plainly c e in
      let (test, run) = leaving_parts (Lacks o t.plainly c e) parts AsItem v x items.0 in
      let list = (lacks_local o t.plainly c e).up AList AsItems (going ▸ ts) tt tt ((parts.moved going loose).0 run, items.1) in
      let held : finds o body new_scope new ≡ false = subst (λ ns. finds o body (env ++ lexical_scope ns) new ≡ false) (sym new_names) (subst (λ s. finds o s e new ≡ false) (sym stands) list) in
      let evals : has_eval first ≡ false → has_eval going ≡ false = λ y. (leaving_parts Spared spared_by_parts AsItem v x y).1 in
      let here = of_silent (o (at AsBranch) env shape.BlockStatement [] 0 (new ▸ none)) (told.block (at AsBranch) env first going ts (new_names ∙ sym old_names) evals (silent_if (o (at AsBranch) env shape.BlockStatement [] 0 (old ▸ none)) own)) in (
        of_silent (finds o (at AsValue) env x) (sym (pace_is o (at AsValue) env x) ∙ sym (told.beside P x free ys pass (at AsValue) env) ∙ pace_is o (at AsValue) e x ∙ silent_if (finds o (at AsValue) e x) test),
        λ j. here j || (held j || false),
      )

  guards_lack : ByGuards Q
  guards_lack = record { parts = lacks_parts o t.plainly c env; guarded = guarded_lacks }

-- ---- the order of reads

module _ (m s : ℕ) (told : GuardTold (early m s)) (c : Setting) (env : Environment) where
  abbrev C : Asked → Tree → Type 0
  C = Calmly m s c env

  abbrev stood : Asked → Setting
  stood = standing m s c env

  module _ (ys : List Name) where
    abbrev e : Environment
    e = env ++ lexical_scope ys

    abbrev order : Bool
    order = is_among (by_symbol s) ys

    abbrev in_block : Setting
    in_block = below order (stood AsBranch) shape.BlockStatement 0 0

    abbrev items : ℕ → Setting
    items = below ((true && order) || false) in_block shape.Listed 0

    -- a block says what the list of its statements does, under its names
    block_reads : (ts : Trees) → names_of declared.Lexical (listed ts) ≡ ys → is_reads (pace (early m s) (stood AsBranch) env (block ts)) ≡ is_reads (pace (early m s) in_block e (listed ts))
    unfolding pace scopes_by
    block_reads ts z =
        let q = early m s in
        let list = listed ts in
        alone_reads (q.ends (below (is_among (by_symbol s) (names_of declared.Lexical list)) (stood AsBranch) shape.BlockStatement 0 0) list) (pace q (below (is_among (by_symbol s) (names_of declared.Lexical list)) (stood AsBranch) shape.BlockStatement 0 0) (env ++ lexical_scope (names_of declared.Lexical list)) list)
        ∙ (λ j. is_reads (pace q (below (is_among (by_symbol s) (z j)) (stood AsBranch) shape.BlockStatement 0 0) (env ++ lexical_scope (z j)) list))

    abbrev rest : Trees → Pace
    rest ts = all_followed (paces (early m s) (λ i. []) items 1 (e ++ []) ts)

    -- where an unscoped statement stands first the order of declarations doesn't matter to it
    first_says : (t : Tree) → is_unscoped t ≡ true → ends_after ((early m s).ends (items 0) t) (pace (early m s) (items 0) (e ++ []) t) ≡ ends_after false (pace (early m s) (standing m s c e AsItem) e t)
    first_says t u =
        let q = early m s in
        let none_ends : q.ends (items 0) t ≡ false = (λ j. (items 0).ordered && (is_among (by_symbol s) (no_lexical t u j) || is_among (by_symbol s) (no_bound t u j))) ∙ and_nothing (items 0).ordered in
        let stands : record (items 0) { ordered = false } ≡ standing m s c e AsItem = λ j. record { used = (stood AsItem).used; around = c.around; strict = c.strict; is_body = false; belongs = (ap (λ b. b && true) (belongs_same If c.belongs 0) ∙ belongs_same If c.belongs 0) j; ordered = false } in
        (λ j. ends_after (none_ends j) ((unscoped_anywhere m s (items 0) (items 0).ordered (e ++ []) t u ∙ (λ i. pace q (stands i) (append-nil e i) t)) j))

    list_reads : (t : Tree) (ts : Trees) → is_unscoped t ≡ true → is_reads (pace (early m s) in_block e (listed (t ▸ ts))) ≡ is_reads (followed (ends_after false (pace (early m s) (standing m s c e AsItem) e t)) (rest ts))
    unfolding pace scopes_by
    list_reads t ts u = ap (λ p. is_reads (followed p (rest ts))) (first_says t u)

  guarded_calm : (P : Name → Bool) (v : Leaving) (x : Tree) (ts : Trees) → ((y : Name) → P y ≡ true → names y x ≡ false) → all_pass P (all_names declared.Lexical ts) ≡ true → is_loose v ≡ true → C AsBranch (block (leaves_by v x ▸ ts)) → C AsValue x × C AsBranch (block (runs_on v ▸ ts))
  guarded_calm P v x ts free pass loose a =
      let q = early m s in
      let first : Tree = leaves_by v x in
      let going : Tree = runs_on v in
      let ys = all_names declared.Lexical ts in
      let around : Environment = env ++ lexical_scope ys in
      let loose_first = unscoped_leaving v x in
      let at_item = standing m s c around AsItem in
      let (it, others) = split (pace q at_item around first) (rest ys ts) (sym (block_reads ys (first ▸ ts) (names_behind first ts loose_first) ∙ list_reads ys first ts loose_first) ∙ a) in
      let parts = calm_parts m s c around in
      let (test, run) = leaving_parts (Calmly m s c around) parts AsItem v x it in
      let last = join (pace q at_item around going) (rest ys ts) ((parts.moved going loose).0 run) others in (
        ap is_reads (sym (told.beside P x free ys pass (stood AsValue) env)) ∙ test,
        block_reads ys (going ▸ ts) (names_behind going ts loose) ∙ list_reads ys going ts loose ∙ last,
      )

  guards_calm : ByGuards C
  guards_calm = record { parts = calm_parts m s c env; guarded = guarded_calm }

-- ---- what a tree tells besides names

guards_spared : ByGuards Spared
unfolding has_eval
guards_spared = record {
  parts = spared_by_parts;
  guarded = λ P v x ts free pass loose a.
      let (it, others) = none_of (has_eval (leaves_by v x)) (any_has_eval ts) (none_of (any_has_eval (leaves_by v x ▸ ts)) false a).0 in
      let (test, run) = leaving_parts Spared spared_by_parts AsItem v x it in
      (test, λ j. (run j || others j) || false);
}

guards_names : ByGuards (λ d t. names_arguments t ≡ false)
unfolding names_arguments
guards_names = record {
  parts = names_parts;
  guarded = λ P v x ts free pass loose a.
      let later = any_names_arguments (is_of_function shape.Listed) 1 ts in
      let (it, others) = none_of (names_arguments (leaves_by v x)) later (none_of (names_arguments (leaves_by v x) || later) false a).0 in
      let (test, run) = leaving_parts (λ d t. names_arguments t ≡ false) names_parts AsItem v x it in
      (test, λ j. (run j || others j) || false);
}

guards_numbers : (b : ℕ) → ByGuards (λ d t. has_number (suc b) t ≡ false)
unfolding has_number
guards_numbers b = record {
  parts = numbers_parts b;
  guarded = λ P v x ts free pass loose a.
      let k = suc b in
      let first = has_number k (leaves_by v x) in
      let list = nat_eq 0 k || (first || any_has_number k ts) in
      let inside = (none_of list false (none_of (nat_eq 0 k) (list || false) a).1).0 in
      let (it, others) = none_of first (any_has_number k ts) (none_of (nat_eq 0 k) (first || any_has_number k ts) inside).1 in
      let (test, run) = leaving_parts (λ d t. has_number k t ≡ false) (numbers_parts b) AsItem v x it in
      (test, λ j. unlike b j || ((unlike b j || (run j || others j)) || false));
}

guard_properties : FactProperties GuardTold ByGuards
guard_properties = record {
  told = guard_told;
  lacks = λ o t told c env. guards_lack o t told c env;
  calm = λ m s told c env. guards_calm m s told c env;
  spared = guards_spared;
  names = guards_names;
  numbers = guards_numbers;
}

-- ---- 84

row_84_lexical : (V : VariableSet) (q : StmtSeat) (n w : Tree) → Row84Lexical V n w → LessAt (Stmt q) n w
row_84_lexical V q n w r =
    let read : Tree = block (leaves_by r.leaving r.x ▸ r.others) in
    let put : Tree = block (runs_on r.leaving ▸ r.others) in
    loop_made_less GuardTold ByGuards guard_properties q n w AFor r.init r.init (test_of r.test ▸ (r.update ▸ (read ▸ none))) (also r.test (goes_by r.leaving r.x) ▸ (r.update ▸ (put ▸ none))) r.shape r.written refl (inl (refl, refl)) (λ strict y fit Q l z.
    let (test, body) = l.guarded (is_of_outside V r.x) r.leaving r.x r.others free (lexicals_pass (is_of_outside V r.x) r.others r.held) r.loose z.1.1.1.0 in
    (z.0, (beside Q l.parts r.test (goes_by r.leaving r.x) z.1.0 (goes Q l.parts r.leaving r.x test), (z.1.1.0, (body, tt)))))
  where
    free : (y : Name) → is_of_outside V r.x y ≡ true → names y r.x ≡ false
    free y e = is_none (names y r.x) (and_parts (is_of V y) _ e).1

pub lexical_rows_less : LexicalRowsLess
lexical_rows_less = record { row_80 = row_80_lexical; row_84 = row_84_lexical }

statement_less : (V : VariableSet) (q : StmtSeat) (n w : Tree) → LexicalStatement V n w → LessAt (Stmt q) n w
statement_less V q n w (inl r) = row_80_lexical V q n w r
statement_less V q n w (inr r) = row_84_lexical V q n w r

row_less : (V : VariableSet) (p : Position) (n w : Tree) → LexicalRow V p n w → LessAt p n w
row_less V (Stmt q) n w r = statement_less V q n w r
row_less V p n w r = absurd r

pub lexical_names_read_less : LexicalNamesReadLess
lexical_names_read_less V = reads_less_by (LexicalRows V) (row_less V.unshared)

-- rows of lexical names keep names and shapes, so what they write in the own code of a body reads
-- less
pub lexical_reads_less : LexicalReadsLess
lexical_reads_less = own_less LexicalRows (λ V. (lexical_own V).names) (λ V. (lexical_own V).shapes) lexical_names_read_less
