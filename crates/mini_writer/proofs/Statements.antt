-- Statements come back, where smaller trees do.
use Rattle.std.proofs.Common.{◌≡◌, ℕ, suc, List, [], ◌∷◌, refl, Bool, true, false, ◌||◌, ◌&&◌}
use Rattle.std.specs.Prelude.{Some, codes, nat_le, not}
use Rattle.std.proofs.lemmas.Bool.{or_left, or_right, false≢true, true≢false}
use Rattle.serde_json.specs.Data.{Data, array}
use Rattle.mini_model.specs.declared.kind.VariableDeclarationKind.{VariableDeclarationKind}
use Rattle.mini_model.specs.declared.kind.VariableDeclarationKind.TheVariants as variable
use Rattle.mini_model.specs.declared.shape.Shape.{Shape}
use Rattle.mini_model.specs.declared.shape.Shape.TheVariants as shape
use Rattle.mini_model.specs.Tree.{Tree, node, Trees, none, ◌▸◌, count, is_absent, child_or_absent, children}
use Rattle.mini_accept.specs.WellShaped as shaped
use Rattle.mini_accept.specs.WellShaped.{Class, Depth, in_module, in_body, nested, a_statement, these, each, is_strict_in}
use Rattle.mini_accept.specs.declared.kind.Kind.TheVariants as kind
use Rattle.mini_accept.specs.declared.kind.Kind.{Kind}
use Rattle.mini_accept.specs.Places.{at}
use Rattle.mini_accept.specs.Fields.{kind_of, is_there, has_one_of}
use Rattle.mini_accept.specs.Standing.{stands_as, is_statement_in, statement_types}
use Rattle.mini_accept.specs.Plans as plans
use Rattle.mini_accept.specs.Plans.{Child}
use Rattle.mini_accept.specs.Entries.{entry}
use Rattle.mini_writer.specs.Objects as objects
use Rattle.mini_writer.specs.Written.{tree_data, trees_data, node_data}
use Rattle.mini_writer.proofs.Read.{ReadsBack, ChildrenBack, no_children, ◌&◌, plain_back, is_quiet}
use Rattle.mini_writer.proofs.Fitting.{Fit, Filled, with_none, with_one, with_two, with_three, with_four, with_list, with_optional}
use Rattle.mini_writer.proofs.Slots.{Back, is_apart, child_back, optional_back, each_back, fit_object, there_given}
use Rattle.mini_writer.proofs.Entry.{require_is}

-- a node of a class comes back, whatever its number is
abbrev pub Comes : ℕ → Bool → Class → Shape → Trees → Type 0
Comes k strict c h ts = (m n : ℕ) → ReadsBack (suc (suc (suc k))) strict (at c) n (node_data h [] (trees_data ts)) (node h [] m ts)

-- ---- blocks

module _ (k : ℕ) (back : Back k) (strict : Bool) where
  pub block : (c : Class) → ((d : Data) → entry kind.BlockStatement (at c) d ≡ entry kind.BlockStatement (at shaped.a_block) d) → ((d : Data) → stands_as c (objects.block_statement d) ≡ true)
      → (ts : Trees) → Filled k strict (these (shaped.many (a_statement nested) ∷ [])) ts → Comes k strict c shape.BlockStatement ts
  block c same stands = with_one k strict (shaped.many (a_statement nested)) (Comes k strict c shape.BlockStatement)
      (λ a. with_list k strict (shaped.many (a_statement nested)) (λ u. Comes k strict c shape.BlockStatement (u ▸ none)) refl
      (λ l ts w m n. plain_back (suc (suc k)) strict c _ kind.BlockStatement shape.BlockStatement _ m _ refl (stands (array (trees_data ts))) refl (same (objects.block_statement (array (trees_data ts))))
      (each_back k back strict _ (a_statement nested) (plans.each (a_statement nested)) (codes "body") l ts refl (λ last e s. refl) refl w & no_children) n) a)

  -- ---- parts of statements

  pub switch_case : (ts : Trees) → Filled k strict (these (shaped.one_or_absent shaped.an_expression ∷ shaped.many (a_statement nested) ∷ [])) ts → Comes k strict shaped.a_case shape.SwitchCase ts
  switch_case = with_two k strict (shaped.one_or_absent shaped.an_expression) (shaped.many (a_statement nested)) (Comes k strict shaped.a_case shape.SwitchCase)
      (λ a b x. with_list k strict (shaped.many (a_statement nested)) (λ u. Comes k strict shaped.a_case shape.SwitchCase (a ▸ u ▸ none)) refl
      (λ l ts w m n. plain_back (suc (suc k)) strict shaped.a_case _ kind.SwitchCase shape.SwitchCase _ m _ refl refl refl refl
      (optional_back k back strict _ shaped.an_expression a refl x (codes "test") refl & each_back k back strict _ (a_statement nested) (plans.each (a_statement nested)) (codes "consequent") l ts refl (λ last e s. refl) refl w & no_children) n) b)

  pub catch : (ts : Trees) → Filled k strict (these (shaped.one_or_absent shaped.a_pattern ∷ shaped.one shaped.a_block ∷ [])) ts → Comes k strict shaped.a_catch shape.CatchClause ts
  catch = with_two k strict (shaped.one_or_absent shaped.a_pattern) (shaped.one shaped.a_block) (Comes k strict shaped.a_catch shape.CatchClause)
      (λ a b x y m n. plain_back (suc (suc k)) strict shaped.a_catch _ kind.CatchClause shape.CatchClause _ m _ refl refl refl refl
      (optional_back k back strict _ shaped.a_pattern a refl x (codes "param") refl & child_back k back strict _ shaped.a_block b refl y (codes "body") refl & no_children) n)

  pub declarator : (ts : Trees) → Filled k strict (these (shaped.one shaped.a_pattern ∷ shaped.one_or_absent shaped.an_expression ∷ [])) ts → Comes k strict shaped.a_declarator shape.VariableDeclarator ts
  declarator = with_two k strict (shaped.one shaped.a_pattern) (shaped.one_or_absent shaped.an_expression) (Comes k strict shaped.a_declarator shape.VariableDeclarator)
      (λ a b x y m n. plain_back (suc (suc k)) strict shaped.a_declarator _ kind.VariableDeclarator shape.VariableDeclarator _ m _ refl refl refl refl
      (child_back k back strict _ shaped.a_pattern a refl x (codes "id") refl & optional_back k back strict _ shaped.an_expression b refl y (codes "init") refl & no_children) n)

  -- ---- variables

  pub variable_of : (c : Class) (v : VariableDeclarationKind) (l : ℕ) (ts : Trees) → stands_as c (objects.variable_declaration v (array (trees_data ts))) ≡ true → nat_le 1 (count ts) ≡ true → Filled k strict (each (shaped.one shaped.a_declarator)) ts
      → Comes k strict c (shape.VariableDeclaration v) (node shape.Listed [] l ts ▸ none)
  variable_of c v l none stands some w m n = absurd (false≢true some)
  variable_of c variable.Var l (t ▸ ts) stands some w m n = plain_back (suc (suc k)) strict c _ kind.VariableDeclaration (shape.VariableDeclaration variable.Var) _ m _ refl stands refl refl
      (each_back k back strict _ shaped.a_declarator (plans.each shaped.a_declarator) (codes "declarations") l (t ▸ ts) refl (λ last e s. refl) refl w & no_children) n
  variable_of c variable.Let l (t ▸ ts) stands some w m n = plain_back (suc (suc k)) strict c _ kind.VariableDeclaration (shape.VariableDeclaration variable.Let) _ m _ refl stands refl refl
      (each_back k back strict _ shaped.a_declarator (plans.each shaped.a_declarator) (codes "declarations") l (t ▸ ts) refl (λ last e s. refl) refl w & no_children) n
  variable_of c variable.Const l (t ▸ ts) stands some w m n = plain_back (suc (suc k)) strict c _ kind.VariableDeclaration (shape.VariableDeclaration variable.Const) _ m _ refl stands refl refl
      (each_back k back strict _ shaped.a_declarator (plans.each shaped.a_declarator) (codes "declarations") l (t ▸ ts) refl (λ last e s. refl) refl w & no_children) n

  -- where any declaration may stand
  pub variables : (c : Class) (v : VariableDeclarationKind) → ((d : Data) → stands_as c (objects.variable_declaration v d) ≡ true)
      → (ts : Trees) → nat_le 1 (count (children (shaped.first_item ts))) ≡ true → Filled k strict (these (shaped.many shaped.a_declarator ∷ [])) ts → Comes k strict c (shape.VariableDeclaration v) ts
  variables c v stands ts some f = with_one k strict (shaped.many shaped.a_declarator) (λ us. nat_le 1 (count (children (shaped.first_item us))) ≡ true → Comes k strict c (shape.VariableDeclaration v) us)
      (λ a. with_list k strict (shaped.many shaped.a_declarator) (λ u. nat_le 1 (count (children (shaped.first_item (u ▸ none)))) ≡ true → Comes k strict c (shape.VariableDeclaration v) (u ▸ none)) refl
      (λ l us w some. variable_of c v l us (stands (array (trees_data us))) some w) a) ts f some

-- ---- statements

module _ (k : ℕ) (back : Back k) (strict : Bool) (depth : Depth) where
  pub stands_in : (d : Data) → has_one_of statement_types d ≡ true → is_statement_in depth d ≡ true
  stands_in d e = by_depth depth
    where
      by_depth : (depth : Depth) → is_statement_in depth d ≡ true
      by_depth in_module = or_left _ _ e
      by_depth in_body = e
      by_depth nested = e

  InStatements : Shape → Trees → Type 0
  InStatements h ts = Comes k strict (a_statement depth) h ts

  statement : (d : Data) (kind : Kind) (h : Shape) (cs : List Child) (m : ℕ) (ts : Trees) → is_quiet d ≡ true → has_one_of statement_types d ≡ true → kind_of d ≡ Some kind
      → entry kind (at (a_statement depth)) d ≡ Some (record { shape = h; names = []; children = cs }) → ChildrenBack (suc (suc k)) (is_strict_in strict h) d cs ts → (n : ℕ) → ReadsBack (suc (suc (suc k))) strict (at (a_statement depth)) n d (node h [] m ts)
  statement d kind h cs m ts quiet stands is planned below n = plain_back (suc (suc k)) strict (a_statement depth) d kind h cs m ts quiet (stands_in d stands) is planned below n

  pub empty : (ts : Trees) → Filled k strict (these []) ts → Comes k strict (a_statement depth) shape.EmptyStatement ts
  empty = with_none k strict (Comes k strict (a_statement depth) shape.EmptyStatement) (λ m n. statement _ kind.EmptyStatement shape.EmptyStatement _ m _ refl refl refl refl no_children n)

  pub debugger : (ts : Trees) → Filled k strict (these []) ts → Comes k strict (a_statement depth) shape.DebuggerStatement ts
  debugger = with_none k strict (Comes k strict (a_statement depth) shape.DebuggerStatement) (λ m n. statement _ kind.DebuggerStatement shape.DebuggerStatement _ m _ refl refl refl refl no_children n)

  pub says : (ts : Trees) → Filled k strict (these (shaped.one shaped.an_expression ∷ [])) ts → Comes k strict (a_statement depth) shape.ExpressionStatement ts
  says = with_one k strict (shaped.one shaped.an_expression) (Comes k strict (a_statement depth) shape.ExpressionStatement)
      (λ a x m n. statement _ kind.ExpressionStatement shape.ExpressionStatement _ m _ refl refl refl refl (child_back k back strict _ shaped.an_expression a refl x (codes "expression") refl & no_children) n)

  pub labeled : (ts : Trees) → Filled k strict (these (shaped.one shaped.a_label ∷ shaped.one (a_statement nested) ∷ [])) ts → Comes k strict (a_statement depth) shape.LabeledStatement ts
  labeled = with_two k strict (shaped.one shaped.a_label) (shaped.one (a_statement nested)) (Comes k strict (a_statement depth) shape.LabeledStatement)
      (λ a b x y m n. statement _ kind.LabeledStatement shape.LabeledStatement _ m _ refl refl refl refl
      (child_back k back strict _ shaped.a_label a refl x (codes "label") refl & child_back k back strict _ (a_statement nested) b refl y (codes "body") refl & no_children) n)

  pub break : (ts : Trees) → Filled k strict (these (shaped.one_or_absent shaped.a_label ∷ [])) ts → Comes k strict (a_statement depth) shape.BreakStatement ts
  break = with_one k strict (shaped.one_or_absent shaped.a_label) (Comes k strict (a_statement depth) shape.BreakStatement)
      (λ a x m n. statement _ kind.BreakStatement shape.BreakStatement _ m _ refl refl refl refl (optional_back k back strict _ shaped.a_label a refl x (codes "label") refl & no_children) n)

  pub continue : (ts : Trees) → Filled k strict (these (shaped.one_or_absent shaped.a_label ∷ [])) ts → Comes k strict (a_statement depth) shape.ContinueStatement ts
  continue = with_one k strict (shaped.one_or_absent shaped.a_label) (Comes k strict (a_statement depth) shape.ContinueStatement)
      (λ a x m n. statement _ kind.ContinueStatement shape.ContinueStatement _ m _ refl refl refl refl (optional_back k back strict _ shaped.a_label a refl x (codes "label") refl & no_children) n)

  pub return : (ts : Trees) → Filled k strict (these (shaped.one_or_absent shaped.an_expression ∷ [])) ts → Comes k strict (a_statement depth) shape.ReturnStatement ts
  return = with_one k strict (shaped.one_or_absent shaped.an_expression) (Comes k strict (a_statement depth) shape.ReturnStatement)
      (λ a x m n. statement _ kind.ReturnStatement shape.ReturnStatement _ m _ refl refl refl refl (optional_back k back strict _ shaped.an_expression a refl x (codes "argument") refl & no_children) n)

  pub throw : (ts : Trees) → Filled k strict (these (shaped.one shaped.an_expression ∷ [])) ts → Comes k strict (a_statement depth) shape.ThrowStatement ts
  throw = with_one k strict (shaped.one shaped.an_expression) (Comes k strict (a_statement depth) shape.ThrowStatement)
      (λ a x m n. statement _ kind.ThrowStatement shape.ThrowStatement _ m _ refl refl refl refl (child_back k back strict _ shaped.an_expression a refl x (codes "argument") refl & no_children) n)

  pub if_statement : (ts : Trees) → Filled k strict (these (shaped.one shaped.an_expression ∷ shaped.one (a_statement nested) ∷ shaped.one_or_absent (a_statement nested) ∷ [])) ts → Comes k strict (a_statement depth) shape.IfStatement ts
  if_statement = with_three k strict (shaped.one shaped.an_expression) (shaped.one (a_statement nested)) (shaped.one_or_absent (a_statement nested)) (Comes k strict (a_statement depth) shape.IfStatement)
      (λ a b c x y z m n. statement _ kind.IfStatement shape.IfStatement _ m _ refl refl refl refl
      (child_back k back strict _ shaped.an_expression a refl x (codes "test") refl & child_back k back strict _ (a_statement nested) b refl y (codes "consequent") refl & optional_back k back strict _ (a_statement nested) c refl z (codes "alternate") refl & no_children) n)

  pub switch : (ts : Trees) → Filled k strict (these (shaped.one shaped.an_expression ∷ shaped.many shaped.a_case ∷ [])) ts → Comes k strict (a_statement depth) shape.SwitchStatement ts
  switch = with_two k strict (shaped.one shaped.an_expression) (shaped.many shaped.a_case) (Comes k strict (a_statement depth) shape.SwitchStatement)
      (λ a b x. with_list k strict (shaped.many shaped.a_case) (λ u. Comes k strict (a_statement depth) shape.SwitchStatement (a ▸ u ▸ none)) refl
      (λ l ts w m n. statement _ kind.SwitchStatement shape.SwitchStatement _ m _ refl refl refl refl
      (child_back k back strict _ shaped.an_expression a refl x (codes "discriminant") refl & each_back k back strict _ shaped.a_case (plans.each shaped.a_case) (codes "cases") l ts refl (λ last e s. refl) refl w & no_children) n) b)

  pub while : (ts : Trees) → Filled k strict (these (shaped.one shaped.an_expression ∷ shaped.one (a_statement nested) ∷ [])) ts → Comes k strict (a_statement depth) shape.WhileStatement ts
  while = with_two k strict (shaped.one shaped.an_expression) (shaped.one (a_statement nested)) (Comes k strict (a_statement depth) shape.WhileStatement)
      (λ a b x y m n. statement _ kind.WhileStatement shape.WhileStatement _ m _ refl refl refl refl
      (child_back k back strict _ shaped.an_expression a refl x (codes "test") refl & child_back k back strict _ (a_statement nested) b refl y (codes "body") refl & no_children) n)

  pub do_while : (ts : Trees) → Filled k strict (these (shaped.one (a_statement nested) ∷ shaped.one shaped.an_expression ∷ [])) ts → Comes k strict (a_statement depth) shape.DoWhileStatement ts
  do_while = with_two k strict (shaped.one (a_statement nested)) (shaped.one shaped.an_expression) (Comes k strict (a_statement depth) shape.DoWhileStatement)
      (λ a b x y m n. statement _ kind.DoWhileStatement shape.DoWhileStatement _ m _ refl refl refl refl
      (child_back k back strict _ (a_statement nested) a refl x (codes "body") refl & child_back k back strict _ shaped.an_expression b refl y (codes "test") refl & no_children) n)

  pub for : (ts : Trees) → Filled k strict (these (shaped.one_or_absent shaped.an_init ∷ shaped.one_or_absent shaped.an_expression ∷ shaped.one_or_absent shaped.an_expression ∷ shaped.one (a_statement nested) ∷ [])) ts → Comes k strict (a_statement depth) shape.ForStatement ts
  for = with_four k strict (shaped.one_or_absent shaped.an_init) (shaped.one_or_absent shaped.an_expression) (shaped.one_or_absent shaped.an_expression) (shaped.one (a_statement nested)) (Comes k strict (a_statement depth) shape.ForStatement)
      (λ a b c d x y z w m n. statement _ kind.ForStatement shape.ForStatement _ m _ refl refl refl refl
      (optional_back k back strict _ shaped.an_init a refl x (codes "init") refl & optional_back k back strict _ shaped.an_expression b refl y (codes "test") refl & optional_back k back strict _ shaped.an_expression c refl z (codes "update") refl & child_back k back strict _ (a_statement nested) d refl w (codes "body") refl & no_children) n)

  pub for_in : (ts : Trees) → Filled k strict (these (shaped.one (shaped.a_loop_left true) ∷ shaped.one shaped.an_expression ∷ shaped.one (a_statement nested) ∷ [])) ts → Comes k strict (a_statement depth) shape.ForInStatement ts
  for_in = with_three k strict (shaped.one (shaped.a_loop_left true)) (shaped.one shaped.an_expression) (shaped.one (a_statement nested)) (Comes k strict (a_statement depth) shape.ForInStatement)
      (λ a b c x y z m n. statement _ kind.ForInStatement shape.ForInStatement _ m _ refl refl refl refl
      (child_back k back strict _ (shaped.a_loop_left true) a refl x (codes "left") refl & child_back k back strict _ shaped.an_expression b refl y (codes "right") refl & child_back k back strict _ (a_statement nested) c refl z (codes "body") refl & no_children) n)

  pub for_of : (ts : Trees) → Filled k strict (these (shaped.one (shaped.a_loop_left false) ∷ shaped.one shaped.an_expression ∷ shaped.one (a_statement nested) ∷ [])) ts → Comes k strict (a_statement depth) shape.ForOfStatement ts
  for_of = with_three k strict (shaped.one (shaped.a_loop_left false)) (shaped.one shaped.an_expression) (shaped.one (a_statement nested)) (Comes k strict (a_statement depth) shape.ForOfStatement)
      (λ a b c x y z m n. statement _ kind.ForOfStatement shape.ForOfStatement _ m _ refl refl refl refl
      (child_back k back strict _ (shaped.a_loop_left false) a refl x (codes "left") refl & child_back k back strict _ shaped.an_expression b refl y (codes "right") refl & child_back k back strict _ (a_statement nested) c refl z (codes "body") refl & no_children) n)

  -- a part that isn't absent is given
  pub given_or_absent : (c : Class) (t : Tree) → is_apart c ≡ false → Fit k strict (shaped.one_or_absent c) t → is_absent t ≡ false → is_there (Some (tree_data t)) ≡ true
  given_or_absent c t a = with_optional k strict c (λ u. is_absent u ≡ false → is_there (Some (tree_data u)) ≡ true) (λ n e. absurd (true≢false e)) (λ u f e. there_given (Some (tree_data u)) (tree_data u) refl (fit_object k back strict c u a f)) t

  one_given : (a b x y : Bool) → not (x && y) ≡ true → (x ≡ false → a ≡ true) → (y ≡ false → b ≡ true) → (a || b) ≡ true
  one_given a b true true e f g = absurd (false≢true e)
  one_given a b true false e f g = or_right a b (g refl)
  one_given a b false y e f g = or_left a b (f refl)

  pub try : (ts : Trees) → Filled k strict (these (shaped.one shaped.a_block ∷ shaped.one_or_absent shaped.a_catch ∷ shaped.one_or_absent shaped.a_block ∷ [])) ts → not (is_absent (child_or_absent ts 1) && is_absent (child_or_absent ts 2)) ≡ true → Comes k strict (a_statement depth) shape.TryStatement ts
  try = with_three k strict (shaped.one shaped.a_block) (shaped.one_or_absent shaped.a_catch) (shaped.one_or_absent shaped.a_block) (λ ts. not (is_absent (child_or_absent ts 1) && is_absent (child_or_absent ts 2)) ≡ true → Comes k strict (a_statement depth) shape.TryStatement ts)
      (λ a b c x y z some m n. statement _ kind.TryStatement shape.TryStatement _ m _ refl refl refl
      (require_is (is_there (Some (tree_data b)) || is_there (Some (tree_data c))) _ _ (one_given _ _ (is_absent b) (is_absent c) some (given_or_absent shaped.a_catch b refl y) (given_or_absent shaped.a_block c refl z)) refl)
      (child_back k back strict _ shaped.a_block a refl x (codes "block") refl & optional_back k back strict _ shaped.a_catch b refl y (codes "handler") refl & optional_back k back strict _ shaped.a_block c refl z (codes "finalizer") refl & no_children) n)
