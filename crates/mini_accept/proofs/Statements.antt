-- The plans of statements.
use Rattle.std.proofs.Common.{◌≡◌, ℕ, suc, List, [], ◌∷◌, refl, arith, ap, sym, ◌∙◌, subst, inl, inr, Bool, true, false, ◌&&◌, ◌||◌}
use Rattle.std.specs.Prelude.{Option, Some, None, option_and_then, option_map, unwrap_or, is_some, nat_le, not, codes, if◌then◌else◌}
use Rattle.std.proofs.lemmas.Bool.{and_from, and_parts, or_left, or_right, or_cases, not-true, le-leb, false≢true, true≢false}
use Rattle.serde_json.specs.Data.{Data, Items, no_items, item}
use Rattle.serde_json.specs.Find.{get, get_item}
use Rattle.mini_model.specs.declared.kind.VariableDeclarationKind.{VariableDeclarationKind}
use Rattle.mini_model.specs.declared.kind.VariableDeclarationKind.TheVariants.{Var}
use Rattle.mini_model.specs.declared.shape.Shape.{Shape}
use Rattle.mini_model.specs.declared.shape.Shape.TheVariants as shape
use Rattle.mini_model.specs.Tree.{Tree, is_absent, count}
use Rattle.mini_accept.specs.WellShaped as shaped
use Rattle.mini_accept.specs.WellShaped.{Class, Depth, in_module, in_body, nested, Slot, slots_of, is_sloppy_function, is_strict_in, has_its_number, has_names, has_plain_fields, has_its_parts}
use Rattle.mini_accept.specs.Places.{down, field, place, Place, at, a_directive}
use Rattle.mini_accept.specs.Fields.{is_given, item_count, list_at, no_item, text_at, has_text, is_text_by, word_in, is_one_of}
use Rattle.mini_accept.specs.Standing.{is_head, is_head_by, expression_types}
use Rattle.mini_accept.specs.Plans.{hole, tree_at, Child, one, child, optional, node_of, parts_from, list, each}
use Rattle.mini_accept.specs.Words.{word_at, source_types, variable_kinds}
use Rattle.mini_accept.specs.Statements as statement
use Rattle.mini_accept.specs.Statements.{directive_text, directives_of, body_part, body_parts}
use Rattle.mini_accept.proofs.Fitting.{Fits, KnownBelow, known_fits, OfParts, trees_of_parts, OfChildren, trees_of_children, PartFits, ItemFits, AllFit, ChildrenFit}
use Rattle.mini_accept.proofs.Gathered.{Numbered, WholeIf}
use Rattle.mini_accept.proofs.Types.{some_same, text_same, apart, types_at}
use Rattle.mini_accept.proofs.Wholes.{bind_whole, require_whole, list_whole, optional_fits, absent_fits, absent_or, not_absent, all_fit, items_counted, none_if_false, fits_at, taken, whole_by, whole_at}
use Rattle.mini_accept.proofs.Plains.{directives_paired}

-- the types of statements that stand nowhere else
abbrev pub plain_statement_types : List (List ℕ)
plain_statement_types =
    codes "EmptyStatement" ∷ codes "DebuggerStatement" ∷ codes "LabeledStatement" ∷ codes "BreakStatement" ∷
    codes "ContinueStatement" ∷ codes "ReturnStatement" ∷ codes "ThrowStatement" ∷ codes "IfStatement" ∷
    codes "SwitchStatement" ∷ codes "TryStatement" ∷ codes "WhileStatement" ∷ codes "DoWhileStatement" ∷
    codes "ForStatement" ∷ codes "ForInStatement" ∷ codes "ForOfStatement" ∷ []

pub statement_there : (p : Place) (s : List ℕ) → is_one_of plain_statement_types s ≡ true → is_one_of (types_at p) s ≡ true → (depth : Depth) × (p ≡ at (shaped.a_statement depth))
statement_there (at (shaped.a_statement depth)) s plain e = (depth, refl)
statement_there (at (shaped.a_key true)) s plain e = absurd (apart plain_statement_types expression_types s refl plain e)
statement_there p s plain e = absurd (apart plain_statement_types (types_at p) s refl plain e)

-- ---- parts

-- the statements of a body, of which the directives are no trees
pub body_fit : (depth : Depth) (leading : Bool) (i : ℕ) (ds : Items) → AllFit (shaped.one (shaped.a_statement depth)) (body_parts depth leading i ds)
body_fit depth leading i no_items = tt
body_fit depth leading i (item d ds) = (one_fits (leading && is_some (directive_text d)), body_fit depth (leading && is_some (directive_text d)) (suc i) ds)
  where
    one_fits : (b : Bool) → ItemFits (shaped.one (shaped.a_statement depth)) (body_part depth b i)
    one_fits true = tt
    one_fits false = λ strict t h. h

-- ---- statements

module _ (strict : Bool) (depth : Depth) (d : Data) where
  plain : (h : Shape) (cs : List Child) (slots : List Slot) → slots_of strict (shaped.a_statement depth) h ≡ Some slots → (has_names h [] && has_plain_fields h) ≡ true
      → ((n : ℕ) → Numbered (at (shaped.a_statement depth)) h n → has_its_number (shaped.a_statement depth) h n ≡ true)
      → ((w : OfChildren (is_strict_in strict h) d cs) → has_its_parts (shaped.a_statement depth) h (trees_of_children (is_strict_in strict h) d cs w) ≡ true) → ChildrenFit slots cs → WholeIf strict (at (shaped.a_statement depth)) d (node_of h cs)
  plain h cs slots stands is counted parts fit =
      let (names, fields) = and_parts (has_names h []) (has_plain_fields h) is in
      whole_by strict (at (shaped.a_statement depth)) (shaped.a_statement depth) d h [] cs slots (λ t e. e) counted stands names fields parts fit (λ w n. tt)

  pub empty : WholeIf strict (at (shaped.a_statement depth)) d (node_of shape.EmptyStatement [])
  empty = plain shape.EmptyStatement [] [] refl refl (λ n e. e) (λ w. refl) tt

  pub debugger : WholeIf strict (at (shaped.a_statement depth)) d (node_of shape.DebuggerStatement [])
  debugger = plain shape.DebuggerStatement [] [] refl refl (λ n e. e) (λ w. refl) tt

  pub labeled : WholeIf strict (at (shaped.a_statement depth)) d (statement.labeled d)
  labeled = plain shape.LabeledStatement _ _ refl refl (λ n e. e) (λ w. refl) (λ s t h. h, (λ s t h. h, tt))

  label_fits : PartFits (shaped.one_or_absent shaped.a_label) (if is_given (codes "label") d then tree_at (field (codes "label")) (at shaped.a_label) else hole)
  label_fits = optional_fits shaped.a_label (is_given (codes "label") d) (field (codes "label")) (at shaped.a_label) (λ s t h. h)

  pub break : WholeIf strict (at (shaped.a_statement depth)) d (statement.break d)
  break = plain shape.BreakStatement (optional (codes "label") shaped.a_label d ∷ []) _ refl refl (λ n e. e) (λ w. refl) (label_fits, tt)

  pub continue : WholeIf strict (at (shaped.a_statement depth)) d (statement.continue d)
  continue = plain shape.ContinueStatement (optional (codes "label") shaped.a_label d ∷ []) _ refl refl (λ n e. e) (λ w. refl) (label_fits, tt)

  expression_fits : (key : List ℕ) → PartFits (shaped.one_or_absent shaped.an_expression) (if is_given key d then tree_at (field key) (at shaped.an_expression) else hole)
  expression_fits key = optional_fits shaped.an_expression (is_given key d) (field key) (at shaped.an_expression) (λ s t h. h)

  pub return : WholeIf strict (at (shaped.a_statement depth)) d (statement.return d)
  return = plain shape.ReturnStatement (optional (codes "argument") shaped.an_expression d ∷ []) _ refl refl (λ n e. e) (λ w. refl) (expression_fits (codes "argument"), tt)

  pub throw : WholeIf strict (at (shaped.a_statement depth)) d (statement.throw d)
  throw = plain shape.ThrowStatement _ _ refl refl (λ n e. e) (λ w. refl) (λ s t h. h, tt)

  pub if_statement : WholeIf strict (at (shaped.a_statement depth)) d (statement.if_statement d)
  if_statement = plain shape.IfStatement (child (codes "test") shaped.an_expression ∷ child (codes "consequent") (shaped.a_statement nested) ∷ optional (codes "alternate") (shaped.a_statement nested) d ∷ []) _ refl refl (λ n e. e) (λ w. refl)
      (λ s t h. h, (λ s t h. h, (optional_fits (shaped.a_statement nested) (is_given (codes "alternate") d) (field (codes "alternate")) (at (shaped.a_statement nested)) (λ s t h. h), tt)))

  pub switch : WholeIf strict (at (shaped.a_statement depth)) d (statement.switch d)
  switch = list_whole strict (at (shaped.a_statement depth)) d (each shaped.a_case) (codes "cases") _ (λ ds. plain shape.SwitchStatement _ _ refl refl (λ n e. e) (λ w. refl)
      (λ s t h. h, (all_fit (shaped.one shaped.a_case) (each shaped.a_case) (codes "cases") 0 ds (λ last e q s t h. h), tt)))

  try_children : Bool → Bool → List Child
  try_children handler finalizer = child (codes "block") shaped.a_block ∷ one (if handler then tree_at (field (codes "handler")) (at shaped.a_catch) else hole) ∷ one (if finalizer then tree_at (field (codes "finalizer")) (at shaped.a_block) else hole) ∷ []

  present : (inner : Bool) (o : Option Data) (c : Class) (t : Tree) → KnownBelow inner (at c) o t → Fits inner (at c) t
  present inner o c t k = known_fits inner (at c) o t k

  try_by : (handler finalizer : Bool) → (handler || finalizer) ≡ true → WholeIf strict (at (shaped.a_statement depth)) d (node_of shape.TryStatement (try_children handler finalizer))
  unfolding try_children
  try_by true true e = plain shape.TryStatement _ _ refl refl (λ n e. e) (λ w. ap (λ b. not (b && is_absent w.1.1.0.0)) (not_absent strict shaped.a_catch w.1.0.0 (present strict (get (codes "handler") d) shaped.a_catch w.1.0.0 w.1.0.1)))
      (λ s t h. h, (λ s t h. absent_or s shaped.a_catch t h, (λ s t h. absent_or s shaped.a_block t h, tt)))
  try_by true false e = plain shape.TryStatement _ _ refl refl (λ n e. e) (λ w. ap (λ b. not (b && true)) (not_absent strict shaped.a_catch w.1.0.0 (present strict (get (codes "handler") d) shaped.a_catch w.1.0.0 w.1.0.1)))
      (λ s t h. h, (λ s t h. absent_or s shaped.a_catch t h, (λ s. absent_fits s shaped.a_block, tt)))
  try_by false true e = plain shape.TryStatement _ _ refl refl (λ n e. e) (λ w. ap not (not_absent strict shaped.a_block w.1.1.0.0 (present strict (get (codes "finalizer") d) shaped.a_block w.1.1.0.0 w.1.1.0.1)))
      (λ s t h. h, (λ s. absent_fits s shaped.a_catch, (λ s t h. absent_or s shaped.a_block t h, tt)))
  try_by false false e = absurd (false≢true e)

  pub try : WholeIf strict (at (shaped.a_statement depth)) d (statement.try d)
  unfolding try_children
  try = require_whole strict (at (shaped.a_statement depth)) d (is_given (codes "handler") d || is_given (codes "finalizer") d) (node_of shape.TryStatement (try_children (is_given (codes "handler") d) (is_given (codes "finalizer") d))) (λ e. try_by (is_given (codes "handler") d) (is_given (codes "finalizer") d) e)

  pub while : WholeIf strict (at (shaped.a_statement depth)) d (statement.while d)
  while = plain shape.WhileStatement _ _ refl refl (λ n e. e) (λ w. refl) (λ s t h. h, (λ s t h. h, tt))

  pub do_while : WholeIf strict (at (shaped.a_statement depth)) d (statement.do_while d)
  do_while = plain shape.DoWhileStatement _ _ refl refl (λ n e. e) (λ w. refl) (λ s t h. h, (λ s t h. h, tt))

  pub for : WholeIf strict (at (shaped.a_statement depth)) d (statement.for d)
  for = plain shape.ForStatement (optional (codes "init") shaped.an_init d ∷ optional (codes "test") shaped.an_expression d ∷ optional (codes "update") shaped.an_expression d ∷ child (codes "body") (shaped.a_statement nested) ∷ []) _ refl refl (λ n e. e) (λ w. refl)
      (optional_fits shaped.an_init (is_given (codes "init") d) (field (codes "init")) (at shaped.an_init) (λ s t h. h), (expression_fits (codes "test"), (expression_fits (codes "update"), (λ s t h. h, tt))))

  pub for_in : WholeIf strict (at (shaped.a_statement depth)) d (statement.for_in d)
  for_in = plain shape.ForInStatement _ _ refl refl (λ n e. e) (λ w. refl) (λ s t h. h, (λ s t h. h, (λ s t h. h, tt)))

  pub for_of : WholeIf strict (at (shaped.a_statement depth)) d (statement.for_of d)
  for_of = require_whole strict (at (shaped.a_statement depth)) d _ _ (λ e. plain shape.ForOfStatement _ _ refl refl (λ n e. e) (λ w. refl) (λ s t h. h, (λ s t h. h, (λ s t h. h, tt))))

  pub expression_statement : WholeIf strict (at (shaped.a_statement depth)) d (statement.expression_statement (at (shaped.a_statement depth)) d)
  expression_statement = require_whole strict (at (shaped.a_statement depth)) d _ _ (λ e. plain shape.ExpressionStatement _ _ refl refl (λ n e. e) (λ w. refl) (λ s t h. h, tt))

  pub block : WholeIf strict (at (shaped.a_statement depth)) d (statement.block d)
  block = list_whole strict (at (shaped.a_statement depth)) d (each (shaped.a_statement nested)) (codes "body") _ (λ ds. plain shape.BlockStatement _ _ refl refl (λ n e. e) (λ w. refl)
      (all_fit (shaped.one (shaped.a_statement nested)) (each (shaped.a_statement nested)) (codes "body") 0 ds (λ last e q s t h. h), tt))

-- a directive is none of the tree
pub directive : (strict : Bool) (d : Data) → WholeIf strict a_directive d statement.directive
directive strict d = record { known = λ w n numbered. (tt, tt) }

-- ---- what statements hold

module _ (strict : Bool) (d : Data) where
  program_by : (m : Bool) (ds : Items) → WholeIf strict (at shaped.a_program) d (node_of (shape.Program m (directives_of ds)) (statement.body (if m then in_module else in_body) ds ∷ []))
  program_by m ds = record {
    known = λ w n numbered. (
      λ zero. fits_at strict shaped.a_program (shape.Program m (directives_of ds)) [] n d (statement.body (if m then in_module else in_body) ds ∷ []) (taken (slots_of strict shaped.a_program (shape.Program m (directives_of ds)))) w refl zero refl (directives_paired ds) refl
          (body_fit (if m then in_module else in_body) true 0 ds, tt),
      tt,
    );
  }

  pub program : WholeIf strict (at shaped.a_program) d (statement.program d)
  program = bind_whole strict (at shaped.a_program) d (word_at source_types (codes "sourceType") d) _ (λ m is. bind_whole strict (at shaped.a_program) d (list_at (codes "body") d) _ (λ ds are. program_by m ds))

  pub bare_block : WholeIf strict (at shaped.a_block) d (statement.block d)
  bare_block = list_whole strict (at shaped.a_block) d (each (shaped.a_statement nested)) (codes "body") _ (λ ds. whole_at strict (at shaped.a_block) shaped.a_block d shape.BlockStatement [] _ (λ t e. e) (λ n e. e) refl refl (λ w. refl)
      (all_fit (shaped.one (shaped.a_statement nested)) (each (shaped.a_statement nested)) (codes "body") 0 ds (λ last e q s t h. h), tt) (λ w n. tt))

  pub function_body : WholeIf strict (at shaped.a_function_body) d (statement.function_body d)
  function_body = bind_whole strict (at shaped.a_function_body) d (list_at (codes "body") d) _ (λ ds are. whole_at strict (at shaped.a_function_body) shaped.a_function_body d shape.FunctionBody [] _ (λ t e. e) (λ n e. e) refl refl (λ w. refl)
      (body_fit in_body true 0 ds, tt) (λ w n. tt))

  pub arrow_body : WholeIf strict (at shaped.an_arrow_body) d (statement.function_body d)
  arrow_body = bind_whole strict (at shaped.an_arrow_body) d (list_at (codes "body") d) _ (λ ds are. whole_at strict (at shaped.an_arrow_body) shaped.an_arrow_body d shape.FunctionBody [] _ (λ t e. e) (λ n e. e) refl refl (λ w. refl)
      (body_fit in_body true 0 ds, tt) (λ w n e. refl))

  pub switch_case : WholeIf strict (at shaped.a_case) d (statement.switch_case d)
  switch_case = list_whole strict (at shaped.a_case) d (each (shaped.a_statement nested)) (codes "consequent") _ (λ ds. whole_at strict (at shaped.a_case) shaped.a_case d shape.SwitchCase [] (optional (codes "test") shaped.an_expression d ∷ list (each (shaped.a_statement nested)) (codes "consequent") ds ∷ []) (λ t e. e) (λ n e. e) refl refl (λ w. refl)
      (optional_fits shaped.an_expression (is_given (codes "test") d) (field (codes "test")) (at shaped.an_expression) (λ s t h. h), (all_fit (shaped.one (shaped.a_statement nested)) (each (shaped.a_statement nested)) (codes "consequent") 0 ds (λ last e q s t h. h), tt)) (λ w n. tt))

  pub catch : WholeIf strict (at shaped.a_catch) d (statement.catch d)
  catch = whole_at strict (at shaped.a_catch) shaped.a_catch d shape.CatchClause [] (optional (codes "param") shaped.a_pattern d ∷ child (codes "body") shaped.a_block ∷ []) (λ t e. e) (λ n e. e) refl refl (λ w. refl)
      (optional_fits shaped.a_pattern (is_given (codes "param") d) (field (codes "param")) (at shaped.a_pattern) (λ s t h. h), (λ s t h. h, tt)) (λ w n. tt)

  declarator_by : (b : Bool) → is_given (codes "init") d ≡ b → WholeIf strict (at shaped.a_declarator) d (node_of shape.VariableDeclarator (child (codes "id") shaped.a_pattern ∷ one (if b then tree_at (field (codes "init")) (at shaped.an_expression) else hole) ∷ []))
  declarator_by true is = whole_at strict (at shaped.a_declarator) shaped.a_declarator d shape.VariableDeclarator [] _ (λ t e. e) (λ n e. e) refl refl (λ w. refl) (λ s t h. h, (λ s t h. absent_or s shaped.an_expression t h, tt)) (λ w n no. absurd (true≢false (sym is ∙ no)))
  declarator_by false is = whole_at strict (at shaped.a_declarator) shaped.a_declarator d shape.VariableDeclarator [] _ (λ t e. e) (λ n e. e) refl refl (λ w. refl) (λ s t h. h, (λ s. absent_fits s shaped.an_expression, tt)) (λ w n no. refl)

  pub declarator : WholeIf strict (at shaped.a_declarator) d (statement.declarator d)
  declarator = declarator_by (is_given (codes "init") d) refl

-- ---- declarations of variables

-- outside a function, sloppy code is no matter
abbrev pub is_function : Shape → Bool
is_function (shape.Function d g ds) = true
is_function h = false

pub not_sloppy : (strict : Bool) (depth : Depth) (h : Shape) → is_function h ≡ false → is_sloppy_function strict depth h ≡ false
not_sloppy true depth h e = refl
not_sloppy false nested (shape.Function d g ds) e = absurd (true≢false e)
not_sloppy false in_module h e = refl
not_sloppy false in_body h e = refl
not_sloppy false nested h e = refl

some_there : (ds : Items) → not (no_item ds) ≡ true → nat_le 1 (item_count ds) ≡ true
some_there no_items e = absurd (false≢true e)
some_there (item d ds) e = le-leb 1 (suc (item_count ds)) (omega arith)

module _ (strict : Bool) (d : Data) where
  variable_by : (p : Place) → ((k : VariableDeclarationKind) (ds : Items) → list_at (codes "declarations") d ≡ Some ds → word_at variable_kinds (codes "kind") d ≡ Some k → not (no_item ds) ≡ true
      → WholeIf strict p d (node_of (shape.VariableDeclaration k) (list (each shaped.a_declarator) (codes "declarations") ds ∷ []))) → WholeIf strict p d (statement.variable d)
  variable_by p f = bind_whole strict p d (word_at variable_kinds (codes "kind") d) _ (λ k is. bind_whole strict p d (list_at (codes "declarations") d) _ (λ ds are. require_whole strict p d _ _ (λ some. f k ds are is some)))

  declarators_fit : (ds : Items) → AllFit (shaped.one shaped.a_declarator) (parts_from (each shaped.a_declarator) (codes "declarations") 0 ds)
  declarators_fit ds = all_fit (shaped.one shaped.a_declarator) (each shaped.a_declarator) (codes "declarations") 0 ds (λ last e q s t h. h)

  counted : (ds : Items) → not (no_item ds) ≡ true → (w : OfParts strict d (parts_from (each shaped.a_declarator) (codes "declarations") 0 ds)) → nat_le 1 (count (trees_of_parts strict d (parts_from (each shaped.a_declarator) (codes "declarations") 0 ds) w)) ≡ true
  counted ds some w = ap (nat_le 1) (items_counted strict d (each shaped.a_declarator) (codes "declarations") 0 ds w (λ last e q. tt)) ∙ some_there ds some

  pub variable_statement : (depth : Depth) → WholeIf strict (at (shaped.a_statement depth)) d (statement.variable d)
  variable_statement depth = variable_by (at (shaped.a_statement depth)) (λ k ds are is some. whole_by strict (at (shaped.a_statement depth)) (shaped.a_statement depth) d (shape.VariableDeclaration k) [] _ (shaped.many shaped.a_declarator ∷ []) (λ t e. e) (λ n e. e)
      (none_if_false (is_sloppy_function strict depth (shape.VariableDeclaration k)) _ (not_sloppy strict depth (shape.VariableDeclaration k) refl)) refl refl (λ w. counted ds some w.0) (declarators_fit ds, tt) (λ w n. tt))

  pub variable_init : WholeIf strict (at shaped.an_init) d (statement.variable d)
  variable_init = variable_by (at shaped.an_init) (λ k ds are is some. whole_at strict (at shaped.an_init) shaped.an_init d (shape.VariableDeclaration k) [] _ (λ t e. e) (λ n e. e) refl refl (λ w. counted ds some w.0) (declarators_fit ds, tt) (λ w n. tt))

  pub exported_variable : WholeIf strict (at shaped.an_exported_declaration) d (statement.variable d)
  exported_variable = variable_by (at shaped.an_exported_declaration) (λ k ds are is some. whole_at strict (at shaped.an_exported_declaration) shaped.an_exported_declaration d (shape.VariableDeclaration k) [] _ (λ t e. e) (λ n e. e) refl refl (λ w. counted ds some w.0) (declarators_fit ds, tt) (λ w n. tt))

  -- the head of a `for..in` or `for..of`
  is_var_by : (o : Option (List ℕ)) (k : VariableDeclarationKind) → option_and_then (word_in variable_kinds) o ≡ Some k → is_text_by (codes "var") o ≡ true → shaped.is_var k ≡ true
  is_var_by None k e f = absurd (false≢true f)
  is_var_by (Some s) k e f = subst (λ x. shaped.is_var x ≡ true) (some_same Var k (ap (word_in variable_kinds) (text_same (codes "var") s f) ∙ e)) refl

  is_var_at : (k : VariableDeclarationKind) → word_at variable_kinds (codes "kind") d ≡ Some k → has_text (codes "kind") (codes "var") d ≡ true → shaped.is_var k ≡ true
  is_var_at k e f = is_var_by (text_at (codes "kind") d) k e f

  head_by : (enumerates : Bool) (k : VariableDeclarationKind) (e : Data) (o : Option Data) (t : Tree) → o ≡ Some e → word_at variable_kinds (codes "kind") d ≡ Some k → KnownBelow strict (at shaped.a_declarator) o t
      → ((enumerates && has_text (codes "kind") (codes "var") d) || not (is_given (codes "init") e)) ≡ true → (not (shaped.is_initialized t) || (enumerates && shaped.is_var k)) ≡ true
  head_by enumerates k e o t found is known head = elim (or_cases (enumerates && has_text (codes "kind") (codes "var") d) (not (is_given (codes "init") e)) head) [
    | inl may ↦ (let (a, b) = and_parts enumerates (has_text (codes "kind") (codes "var") d) may in or_right _ _ (and_from enumerates (shaped.is_var k) a (is_var_at k is b)))
    | inr bare ↦ or_left _ _ (ap not ((subst (λ v. KnownBelow strict (at shaped.a_declarator) v t) found known).1 (not-true (is_given (codes "init") e) bare)))
  ]

  heads : (enumerates : Bool) (k : VariableDeclarationKind) (ds : Items) → list_at (codes "declarations") d ≡ Some ds → word_at variable_kinds (codes "kind") d ≡ Some k
      → is_head_by (enumerates && has_text (codes "kind") (codes "var") d) ds ≡ true → (w : OfParts strict d (parts_from (each shaped.a_declarator) (codes "declarations") 0 ds))
      → shaped.is_head_by enumerates k (trees_of_parts strict d (parts_from (each shaped.a_declarator) (codes "declarations") 0 ds) w) ≡ true
  heads enumerates k no_items are is head w = absurd (false≢true head)
  heads enumerates k (item e no_items) are is head w = head_by enumerates k e (down (place (codes "declarations") 0) d) w.0.0 (ap (option_and_then (get_item 0)) are) is w.0.1 head
  heads enumerates k (item e (item f ds)) are is head w = absurd (false≢true head)

  pub loop_variable : (enumerates : Bool) → is_head enumerates d ≡ true → WholeIf strict (at (shaped.a_loop_left enumerates)) d (statement.variable d)
  loop_variable enumerates head = variable_by (at (shaped.a_loop_left enumerates)) (λ k ds are is some. whole_at strict (at (shaped.a_loop_left enumerates)) (shaped.a_loop_left enumerates) d (shape.VariableDeclaration k) [] _ (λ t e. e) (λ n e. e) refl refl
      (λ w. heads enumerates k ds are is (sym (ap (λ o. unwrap_or (option_map (is_head_by (enumerates && has_text (codes "kind") (codes "var") d)) o) false) are) ∙ head) w.0) (declarators_fit ds, tt) (λ w n. tt))
