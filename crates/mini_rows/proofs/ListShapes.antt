-- What a row of lists writes may stand wherever what it reads may.
use Rattle.std.proofs.Common.{◌≡◌, ℕ, ◌≤◌, Bool, true, false, List, [], ◌∷◌, refl, sym, subst, ◌∙◌, inl, inr, arith}
use Rattle.std.specs.Prelude.{◌&&◌, nat_le, if◌then◌else◌}
use Rattle.std.proofs.lemmas.Bool.{and_parts, le-leb}
use Rattle.mini_model.specs.declared.kind.VariableDeclarationKind.{VariableDeclarationKind}
use Rattle.mini_model.specs.declared.kind.VariableDeclarationKind.TheVariants.{Var}
use Rattle.mini_model.specs.declared.name.Name.{Name}
use Rattle.mini_model.specs.declared.operator.LogicalOperator.TheVariants.{Or}
use Rattle.mini_model.specs.declared.shape.Shape.TheVariants as shape
use Rattle.mini_model.specs.Tree.{Tree, Trees, node, none, ◌▸◌, count, absent, listed, is_absent, identifier, expression_statement, if_else, if_alone, conditional, logical}
use Rattle.mini_model.specs.Paths.{append}
use Rattle.mini_accept.specs.WellShaped.{Depth, in_module, in_body, nested, Class, a_statement, a_case, a_loop_left, a_declarator, a_pattern, a_target, an_expression, an_init, Slot, one, one_or_absent, many, each, fits, fill, is_name}
use Rattle.mini_model.specs.declared.place.Position.TheVariants.{StatementList}
use Rattle.mini_laws.specs.declared.names.Declared.TheVariants as declared
use Rattle.mini_laws.specs.DeclaredNames.{names_of}
use Rattle.mini_kept.specs.Placed.{fits_place}
use Rattle.mini_kept.proofs.Bools.{left, right, both}
use Rattle.mini_kept.proofs.Expressions.{expression_taken, two_fit}
use Rattle.mini_kept.proofs.Placed.{statements_slot}
use Rattle.mini_rows.specs.Switches.{Switches}
use Rattle.mini_rows.specs.Lists.{block, sequence, return_statement, throw_statement, switch, for_loop, declaration, or_void, void_zero, of_parts, is_one_part, are_parts, is_unscoped, are_unscoped, Head as ListHead, Return, Throw, If, Switch, For, with_head, for_in, SequencesRow, LoopRow, JoinRow, StretchRow, InList, NeighbourRow, says, leap, resolved, binding, declarator, assigned, declares_nothing, Statement, Heading, Beginning, Alone, Init, Before, begun, begun_without, begins_well, Each, EachIn, EachOf, each_loop, bare_var, bare_declarators, declared_bare, left_behind, Going, Declaring, Looping}
use Rattle.mini_rows.proofs.UnreachedNames.{AllNamed, names_named}

abbrev pub expression : Slot
expression = one an_expression

abbrev pub statement : Depth → Slot
statement d = one (a_statement d)

-- a `var` may stand at each depth
var_anywhere : (strict : Bool) (d : Depth) (xs : List Name) (n : ℕ) (ts : Trees) → fits strict (statement nested) (node (shape.VariableDeclaration Var) xs n ts) ≡ true → fits strict (statement d) (node (shape.VariableDeclaration Var) xs n ts) ≡ true
var_anywhere true in_module xs n ts e = e
var_anywhere true in_body xs n ts e = e
var_anywhere false in_module xs n ts e = e
var_anywhere false in_body xs n ts e = e
var_anywhere strict nested xs n ts e = e

-- what isn't scoped is there
pub there : (t : Tree) → is_unscoped t ≡ true → is_absent t ≡ false
there (node shape.Absent xs n ts) e = absurd (cc e)
there (node h xs n ts) e = refl

-- a declaration may stand at each depth
pub declaration_anywhere : (strict : Bool) (d : Depth) (k : VariableDeclarationKind) (ds : Trees) → fits strict (statement d) (declaration k ds) ≡ (nat_le 1 (count ds) && (fill strict (each (one a_declarator)) ds && true))
declaration_anywhere true in_module k ds = refl
declaration_anywhere true in_body k ds = refl
declaration_anywhere true nested k ds = refl
declaration_anywhere false in_module k ds = refl
declaration_anywhere false in_body k ds = refl
declaration_anywhere false nested k ds = refl

-- and in the head of a `for`
pub init_declares : (strict : Bool) (k : VariableDeclarationKind) (ds : Trees) → fits strict (one_or_absent an_init) (declaration k ds) ≡ (nat_le 1 (count ds) && (fill strict (each (one a_declarator)) ds && true))
init_declares strict k ds = refl

more_than_none : (ds es : Trees) → nat_le 1 (count es) ≡ true → nat_le 1 (count (append ds es)) ≡ true
more_than_none none es e = e
more_than_none (t ▸ ds) es e = le-leb 1 (count (t ▸ append ds es)) (omega arith)

-- an expression of parts is there
joined_there : (p : Tree) (ps : Trees) (q : Tree) (qs : Trees) → is_absent (of_parts p (append ps (q ▸ qs))) ≡ false
joined_there p none q qs = refl
joined_there p (t ▸ ps) q qs = refl

part_there : (q : Tree) → is_one_part q ≡ true → is_absent q ≡ false
part_there (node shape.Absent xs n ts) e = absurd (cc e)
part_there (node h xs n ts) e = refl

parts_there : (q : Tree) (qs : Trees) → are_parts q qs ≡ true → is_absent (of_parts q qs) ≡ false
parts_there q none e = part_there q e
parts_there q (t ▸ qs) e = refl

-- in the head of a `for` it is an expression
of_init_part : (strict : Bool) (q : Tree) → is_one_part q ≡ true → fits strict (one_or_absent an_init) q ≡ true → fits strict expression q ≡ true
of_init_part strict (node shape.Absent xs n ts) e f = absurd (cc e)
of_init_part strict (node (shape.VariableDeclaration k) xs n ts) e f = absurd (cc e)
of_init_part strict (node h xs n ts) e f = f

of_init : (strict : Bool) (q : Tree) (qs : Trees) → are_parts q qs ≡ true → fits strict (one_or_absent an_init) (of_parts q qs) ≡ true → fits strict expression (of_parts q qs) ≡ true
of_init strict q none e f = of_init_part strict q e f
of_init strict q (t ▸ qs) e f = f

module _ (strict : Bool) where
  abbrev pub Fits : Slot → Tree → Type 0
  Fits s t = fits strict s t ≡ true

  abbrev pub AllFit : Slot → Trees → Type 0
  AllFit s ts = fill strict (each s) ts ≡ true

  -- ---- lists

  pub first_fits : (s : Slot) (t : Tree) (ts : Trees) → AllFit s (t ▸ ts) → Fits s t × AllFit s ts
  first_fits s t ts e = and_parts (fits strict s t) (fill strict (each s) ts) e

  pub more_fit : (s : Slot) (t : Tree) (ts : Trees) → Fits s t → AllFit s ts → AllFit s (t ▸ ts)
  more_fit s t ts e f = both (fits strict s t) (fill strict (each s) ts) e f

  pub append_fits : (s : Slot) (a b : Trees) → AllFit s a → AllFit s b → AllFit s (append a b)
  append_fits s none b e f = f
  append_fits s (t ▸ a) b e f = let (x, y) = first_fits s t a e in more_fit s t (append a b) x (append_fits s a b y f)

  pub both_fit : (s : Slot) (a b : Trees) → AllFit s (append a b) → AllFit s a × AllFit s b
  both_fit s none b e = (refl, e)
  both_fit s (t ▸ a) b e = let (x, y) = first_fits s t (append a b) e in let (z, w) = both_fit s a b y in (more_fit s t a x z, w)

  -- ---- expressions

  pub present : (c : Class) (t : Tree) → is_absent t ≡ false → Fits (one_or_absent c) t → Fits (one c) t
  present c (node shape.Absent xs n ts) e f = absurd (cc e)
  present c (node h xs n ts) e f = f

  two_items : (ts : Trees) → 2 ≤ count ts → nat_le 2 (count ts) ≡ true
  two_items ts h = le-leb 2 (count ts) h

  pub sequence_fits : (ts : Trees) → 2 ≤ count ts → AllFit expression ts → Fits expression (sequence ts)
  sequence_fits ts h e = both (nat_le 2 (count ts)) (fill strict (each expression) ts && true) (two_items ts h) (both (fill strict (each expression) ts) true e refl)

  pub parts_fit : (p : Tree) (ps : Trees) → Fits expression (of_parts p ps) → AllFit expression (p ▸ ps)
  parts_fit p none e = more_fit expression p none e refl
  parts_fit p (q ▸ qs) e = left (fill strict (each expression) (p ▸ (q ▸ qs))) true (and_parts (nat_le 2 (count (p ▸ (q ▸ qs)))) (fill strict (each expression) (p ▸ (q ▸ qs)) && true) e).1

  pub of_parts_fits : (p : Tree) (ps : Trees) → AllFit expression (p ▸ ps) → Fits expression (of_parts p ps)
  of_parts_fits p none e = (first_fits expression p none e).0
  of_parts_fits p (q ▸ qs) e = sequence_fits (p ▸ (q ▸ qs)) (omega arith) e

  -- two lists of parts as one
  pub joined_fits : (p : Tree) (ps : Trees) (q : Tree) (qs : Trees) → Fits expression (of_parts p ps) → Fits expression (of_parts q qs) → Fits expression (of_parts p (append ps (q ▸ qs)))
  joined_fits p ps q qs e f = of_parts_fits p (append ps (q ▸ qs)) (append_fits expression (p ▸ ps) (q ▸ qs) (parts_fit p ps e) (parts_fit q qs f))

  void_or : (b : Bool) (a : Tree) → is_absent a ≡ b → (b ≡ false → Fits expression a) → Fits expression (or_void a)
  void_or true a e f = subst (λ c. Fits expression (if c then void_zero else a)) (sym e) refl
  void_or false a e f = subst (λ c. Fits expression (if c then void_zero else a)) (sym e) (f refl)

  pub or_void_fits : (a : Tree) → Fits (one_or_absent an_expression) a → Fits expression (or_void a)
  or_void_fits a e = void_or (is_absent a) a refl (λ h. present an_expression a h e)

  pub or_void_of : (a : Tree) → Fits expression a → Fits expression (or_void a)
  or_void_of a e = void_or (is_absent a) a refl (λ h. e)

  -- ---- statements

  pub of_expression : (d : Depth) (e : Tree) → Fits (statement d) (expression_statement e) → Fits expression e
  of_expression d e f = left (fits strict expression e) true f

  pub expression_fits : (d : Depth) (e : Tree) → Fits expression e → Fits (statement d) (expression_statement e)
  expression_fits d e f = both (fits strict expression e) true f refl

  pub of_return : (d : Depth) (a : Tree) → Fits (statement d) (return_statement a) → Fits (one_or_absent an_expression) a
  of_return d a f = left (fits strict (one_or_absent an_expression) a) true f

  pub or_absent : (c : Class) (t : Tree) → Fits (one c) t → (is_absent t ≡ false) → Fits (one_or_absent c) t
  or_absent c (node shape.Absent xs n ts) e f = absurd (cc f)
  or_absent c (node h xs n ts) e f = e

  pub return_fits : (d : Depth) (a : Tree) → is_absent a ≡ false → Fits expression a → Fits (statement d) (return_statement a)
  return_fits d a h f = both (fits strict (one_or_absent an_expression) a) true (or_absent an_expression a f h) refl

  pub of_throw : (d : Depth) (a : Tree) → Fits (statement d) (throw_statement a) → Fits expression a
  of_throw d a f = left (fits strict expression a) true f

  pub throw_fits : (d : Depth) (a : Tree) → Fits expression a → Fits (statement d) (throw_statement a)
  throw_fits d a f = both (fits strict expression a) true f refl

  abbrev pub IfParts : Tree → Tree → Tree → Type 0
  IfParts a b c = Fits expression a × Fits (statement nested) b × Fits (one_or_absent (a_statement nested)) c

  pub of_if : (d : Depth) (a b c : Tree) → Fits (statement d) (if_else a b c) → IfParts a b c
  of_if d a b c e =
      let (x, r) = and_parts (fits strict expression a) (fits strict (statement nested) b && (fits strict (one_or_absent (a_statement nested)) c && true)) e in
      let (y, z) = and_parts (fits strict (statement nested) b) (fits strict (one_or_absent (a_statement nested)) c && true) r in
      (x, y, left (fits strict (one_or_absent (a_statement nested)) c) true z)

  pub if_fits : (d : Depth) (a b c : Tree) → IfParts a b c → Fits (statement d) (if_else a b c)
  if_fits d a b c (x, y, z) = both (fits strict expression a) (fits strict (statement nested) b && (fits strict (one_or_absent (a_statement nested)) c && true)) x (both (fits strict (statement nested) b) (fits strict (one_or_absent (a_statement nested)) c && true) y (both (fits strict (one_or_absent (a_statement nested)) c) true z refl))

  pub of_block : (d : Depth) (ts : Trees) → Fits (statement d) (block ts) → AllFit (statement nested) ts
  of_block d ts e = left (fill strict (each (statement nested)) ts) true e

  -- what isn't scoped and stands deeper may stand further up
  pub shallower : (d : Depth) (t : Tree) → is_unscoped t ≡ true → Fits (statement nested) t → Fits (statement d) t
  shallower d (node shape.ExpressionStatement xs n ts) u e = e
  shallower d (node shape.EmptyStatement xs n ts) u e = e
  shallower d (node shape.DebuggerStatement xs n ts) u e = e
  shallower d (node shape.BlockStatement xs n ts) u e = e
  shallower d (node shape.LabeledStatement xs n ts) u e = e
  shallower d (node shape.BreakStatement xs n ts) u e = e
  shallower d (node shape.ContinueStatement xs n ts) u e = e
  shallower d (node shape.ReturnStatement xs n ts) u e = e
  shallower d (node shape.ThrowStatement xs n ts) u e = e
  shallower d (node shape.IfStatement xs n ts) u e = e
  shallower d (node shape.SwitchStatement xs n ts) u e = e
  shallower d (node shape.TryStatement xs n ts) u e = e
  shallower d (node shape.WhileStatement xs n ts) u e = e
  shallower d (node shape.DoWhileStatement xs n ts) u e = e
  shallower d (node shape.ForStatement xs n ts) u e = e
  shallower d (node shape.ForInStatement xs n ts) u e = e
  shallower d (node shape.ForOfStatement xs n ts) u e = e
  shallower d (node (shape.VariableDeclaration Var) xs n ts) u e = var_anywhere strict d xs n ts e
  shallower d t u e = absurd (cc u)

  pub all_shallower : (d : Depth) (ts : Trees) → are_unscoped ts ≡ true → AllFit (statement nested) ts → AllFit (statement d) ts
  all_shallower d none u e = refl
  all_shallower d (t ▸ ts) u e =
      let (x, y) = and_parts (is_unscoped t) (are_unscoped ts) u in
      let (f, g) = first_fits (statement nested) t ts e in
      more_fit (statement d) t ts (shallower d t x f) (all_shallower d ts y g)

  -- ---- what each row writes

  abbrev pub Fitting : Trees → Trees → Type 0
  Fitting a b = (d : Depth) → AllFit (statement d) a → AllFit (statement d) b

  pub like : {a b a' b' : Trees} → a ≡ a' → b ≡ b' → Fitting a' b' → Fitting a b
  like e f g d x = subst (AllFit (statement d)) (sym f) (g d (subst (AllFit (statement d)) e x))

  abbrev loop_rest : Tree → Tree → Tree → Bool
  loop_rest u v w = fits strict (one_or_absent an_expression) u && (fits strict (one_or_absent an_expression) v && (fits strict (statement nested) w && true))

  one_of : (d : Depth) (t : Tree) → AllFit (statement d) (t ▸ none) → Fits (statement d) t
  one_of d t e = (first_fits (statement d) t none e).0

  just : (d : Depth) (t : Tree) → Fits (statement d) t → AllFit (statement d) (t ▸ none)
  just d t e = more_fit (statement d) t none e refl

  two_of : (d : Depth) (t u : Tree) → AllFit (statement d) (t ▸ (u ▸ none)) → Fits (statement d) t × Fits (statement d) u
  two_of d t u e = let (x, r) = first_fits (statement d) t (u ▸ none) e in (x, one_of d u r)

  joined_expressions_fit : (p : Tree) (ps : Trees) (q : Tree) (qs : Trees) → Fitting (expression_statement (of_parts p ps) ▸ (expression_statement (of_parts q qs) ▸ none)) (expression_statement (of_parts p (append ps (q ▸ qs))) ▸ none)
  joined_expressions_fit p ps q qs d e =
      let (x, y) = two_of d (expression_statement (of_parts p ps)) (expression_statement (of_parts q qs)) e in
      just d (expression_statement (of_parts p (append ps (q ▸ qs)))) (expression_fits d (of_parts p (append ps (q ▸ qs))) (joined_fits p ps q qs (of_expression d (of_parts p ps) x) (of_expression d (of_parts q qs) y)))

  spread_fit : (ts : Trees) → are_unscoped ts ≡ true → Fitting (block ts ▸ none) ts
  spread_fit ts u d e = all_shallower d ts u (of_block d ts (one_of d (block ts) e))

  conditional_fits : (a b c : Tree) → Fits expression a → Fits expression b → Fits expression c → Fits expression (conditional a b c)
  conditional_fits a b c x y z = both (fits strict expression a) (fits strict expression b && (fits strict expression c && true)) x (both (fits strict expression b) (fits strict expression c && true) y (both (fits strict expression c) true z refl))

  joined_returns_fit : (test left right : Tree) → is_absent right ≡ false → Fitting (if_alone test (return_statement left) ▸ (return_statement right ▸ none)) (return_statement (conditional test (or_void left) right) ▸ none)
  joined_returns_fit test left right h d e =
      let (x, y) = two_of d (if_alone test (return_statement left)) (return_statement right) e in
      let (a, b, c) = of_if d test (return_statement left) absent x in
      let made = conditional test (or_void left) right in
      just d (return_statement made) (return_fits d made refl (conditional_fits test (or_void left) right a (or_void_fits left (of_return nested left b)) (present an_expression right h (of_return d right y))))

  joined_throws_fit : (test left right : Tree) → Fitting (if_alone test (throw_statement left) ▸ (throw_statement right ▸ none)) (throw_statement (conditional test (or_void left) right) ▸ none)
  joined_throws_fit test left right d e =
      let (x, y) = two_of d (if_alone test (throw_statement left)) (throw_statement right) e in
      let (a, b, c) = of_if d test (throw_statement left) absent x in
      let made = conditional test (or_void left) right in
      just d (throw_statement made) (throw_fits d made (conditional_fits test (or_void left) right a (or_void_of left (of_throw nested left b)) (of_throw d right y)))

  bare_returns_fit : (test : Tree) → Fitting (if_alone test (return_statement absent) ▸ (return_statement absent ▸ none)) (expression_statement test ▸ (return_statement absent ▸ none))
  bare_returns_fit test d e =
      let (x, y) = two_of d (if_alone test (return_statement absent)) (return_statement absent) e in
      let (a, b, c) = of_if d test (return_statement absent) absent x in
      more_fit (statement d) (expression_statement test) (return_statement absent ▸ none) (expression_fits d test a) (just d (return_statement absent) y)

  split_fit : (test s u : Tree) → is_unscoped u ≡ true → Fitting (if_else test s u ▸ none) (if_alone test s ▸ (u ▸ none))
  split_fit test s u h d e =
      let (a, b, c) = of_if d test s u (one_of d (if_else test s u) e) in
      more_fit (statement d) (if_alone test s) (u ▸ none) (if_fits d test s absent (a, b, refl)) (just d u (shallower d u h (present (a_statement nested) u (there u h) c)))

  guards_fit : (left right s u : Tree) → Fitting (if_alone left s ▸ (if_else right s u ▸ none)) (if_else (logical Or left right) s u ▸ none)
  guards_fit left right s u d e =
      let (x, y) = two_of d (if_alone left s) (if_else right s u) e in
      let (a, b, c) = of_if d left s absent x in
      let (a', b', c') = of_if d right s u y in
      just d (if_else (logical Or left right) s u) (if_fits d (logical Or left right) s u (two_fit strict left right a a', b', c'))

  -- the heads of row 67

  joined_head_fits : (h : ListHead) (p : Tree) (ps : Trees) (q : Tree) (qs : Trees) → are_parts q qs ≡ true → Fitting (expression_statement (of_parts p ps) ▸ (with_head h (of_parts q qs) ▸ none)) (with_head h (of_parts p (append ps (q ▸ qs))) ▸ none)
  joined_head_fits h p ps q qs k d e =
      let (x, y) = two_of d (expression_statement (of_parts p ps)) (with_head h (of_parts q qs)) e in
      just d (with_head h (of_parts p (append ps (q ▸ qs)))) (go h (of_expression d (of_parts p ps) x) y)
    where
      made : Tree
      made = of_parts p (append ps (q ▸ qs))

      go : (h : ListHead) → Fits expression (of_parts p ps) → Fits (statement d) (with_head h (of_parts q qs)) → Fits (statement d) (with_head h made)
      go Return x y = return_fits d made (joined_there p ps q qs) (joined_fits p ps q qs x (present an_expression (of_parts q qs) (parts_there q qs k) (of_return d (of_parts q qs) y)))
      go Throw x y = throw_fits d made (joined_fits p ps q qs x (of_throw d (of_parts q qs) y))
      go (If u v) x y = let (a, b, c) = of_if d (of_parts q qs) u v y in if_fits d made u v (joined_fits p ps q qs x a, b, c)
      go (Switch cases) x y =
          let (a, b) = and_parts (fits strict expression (of_parts q qs)) (fits strict (many a_case) cases && true) y in
          both (fits strict expression made) (fits strict (many a_case) cases && true) (joined_fits p ps q qs x a) b
      go (For u v w) x y =
          let (a, b) = and_parts (fits strict (one_or_absent an_init) (of_parts q qs)) (loop_rest u v w) y in
          both (fits strict (one_or_absent an_init) made) (loop_rest u v w) (expression_taken strict (one_or_absent an_init) made tt (joined_fits p ps q qs x (of_init strict q qs k a))) b

  absent_init_fits : (p : Tree) (ps : Trees) (u v w : Tree) → Fitting (expression_statement (of_parts p ps) ▸ (for_loop absent u v w ▸ none)) (for_loop (of_parts p ps) u v w ▸ none)
  absent_init_fits p ps u v w d e =
      let (x, y) = two_of d (expression_statement (of_parts p ps)) (for_loop absent u v w) e in
      just d (for_loop (of_parts p ps) u v w) (both (fits strict (one_or_absent an_init) (of_parts p ps)) (loop_rest u v w) (expression_taken strict (one_or_absent an_init) (of_parts p ps) tt (of_expression d (of_parts p ps) x)) (and_parts (fits strict (one_or_absent an_init) absent) (loop_rest u v w) y).1)

  joined_right_fits : (left body : Tree) (p : Tree) (ps : Trees) (q : Tree) (qs : Trees) → Fitting (expression_statement (of_parts p ps) ▸ (for_in left (of_parts q qs) body ▸ none)) (for_in left (of_parts p (append ps (q ▸ qs))) body ▸ none)
  joined_right_fits left body p ps q qs d e =
      let (x, y) = two_of d (expression_statement (of_parts p ps)) (for_in left (of_parts q qs) body) e in
      let made = of_parts p (append ps (q ▸ qs)) in
      let (a, b) = and_parts (fits strict (one (a_loop_left true)) left) (fits strict expression (of_parts q qs) && (fits strict (statement nested) body && true)) y in
      let (c, f) = and_parts (fits strict expression (of_parts q qs)) (fits strict (statement nested) body && true) b in
      just d (for_in left made body) (both (fits strict (one (a_loop_left true)) left) (fits strict expression made && (fits strict (statement nested) body && true)) a (both (fits strict expression made) (fits strict (statement nested) body && true) (joined_fits p ps q qs (of_expression d (of_parts p ps) x) c) f))

  -- declarators, of which there are some
  abbrev SomeFit : Trees → Type 0
  SomeFit ds = (nat_le 1 (count ds) && (fill strict (each (one a_declarator)) ds && true)) ≡ true

  some_fit : (ds es : Trees) → SomeFit ds → SomeFit es → SomeFit (append ds es)
  some_fit ds es x y =
      let (filled, some) = and_parts (nat_le 1 (count ds)) (fill strict (each (one a_declarator)) ds && true) x in
      let (more, others) = and_parts (nat_le 1 (count es)) (fill strict (each (one a_declarator)) es && true) y in
      let all = append_fits (one a_declarator) ds es (left (fill strict (each (one a_declarator)) ds) true some) (left (fill strict (each (one a_declarator)) es) true others) in
      both (nat_le 1 (count (append ds es))) (fill strict (each (one a_declarator)) (append ds es) && true) (more_than_none ds es more) (both (fill strict (each (one a_declarator)) (append ds es)) true all refl)

  free_init_fits : (ds : Trees) (u v w : Tree) → Fitting (declaration Var ds ▸ (for_loop absent u v w ▸ none)) (for_loop (declaration Var ds) u v w ▸ none)
  free_init_fits ds u v w d e =
      let (x, y) = two_of d (declaration Var ds) (for_loop absent u v w) e in
      just d (for_loop (declaration Var ds) u v w) (both (fits strict (one_or_absent an_init) (declaration Var ds)) (loop_rest u v w) (init_declares strict Var ds ∙ sym (declaration_anywhere strict d Var ds) ∙ x) (and_parts (fits strict (one_or_absent an_init) absent) (loop_rest u v w) y).1)

  joined_init_fits : (ds es : Trees) (u v w : Tree) → Fitting (declaration Var ds ▸ (for_loop (declaration Var es) u v w ▸ none)) (for_loop (declaration Var (append ds es)) u v w ▸ none)
  joined_init_fits ds es u v w d e =
      let (x, y) = two_of d (declaration Var ds) (for_loop (declaration Var es) u v w) e in
      let (a, b) = and_parts (fits strict (one_or_absent an_init) (declaration Var es)) (loop_rest u v w) y in
      just d (for_loop (declaration Var (append ds es)) u v w) (both (fits strict (one_or_absent an_init) (declaration Var (append ds es))) (loop_rest u v w) (init_declares strict Var (append ds es) ∙ some_fit ds es (sym (declaration_anywhere strict d Var ds) ∙ x) (sym (init_declares strict Var es) ∙ a)) b)

  joined_declarations_fit : (k : VariableDeclarationKind) (ds es : Trees) → Fitting (declaration k ds ▸ (declaration k es ▸ none)) (declaration k (append ds es) ▸ none)
  joined_declarations_fit k ds es d e =
      let (x, y) = two_of d (declaration k ds) (declaration k es) e in
      just d (declaration k (append ds es)) (declaration_anywhere strict d k (append ds es) ∙ some_fit ds es (sym (declaration_anywhere strict d k ds) ∙ x) (sym (declaration_anywhere strict d k es) ∙ y))

  -- an assignment, and a declarator that has its value

  of_assigned : (x : Name) (value : Tree) → Fits expression (assigned x value) → Fits expression value
  of_assigned x value e = left (fits strict expression value) true (and_parts (fits strict (one a_target) (identifier x)) (fits strict expression value && true) e).1

  there_by : (t : Tree) → declares_nothing t ≡ true → is_absent t ≡ false
  there_by (node shape.Absent xs n ts) e = absurd (cc e)
  there_by (node h xs n ts) e = refl

  value_fits : (x : Name) (value : Tree) → declares_nothing value ≡ true → Fits (one a_declarator) (declarator (binding x) absent) → Fits expression value → Fits (one a_declarator) (declarator (binding x) value)
  value_fits x value h e f =
      both (fits strict (one a_pattern) (binding x)) (fits strict (one_or_absent an_expression) value && true) (and_parts (fits strict (one a_pattern) (binding x)) (fits strict (one_or_absent an_expression) absent && true) e).0
      (both (fits strict (one_or_absent an_expression) value) true (or_absent an_expression value f (there_by value h)) refl)

  values_fit : (ds : Trees) (x : Name) (es : Trees) (value : Tree) → declares_nothing value ≡ true → SomeFit (append ds (declarator (binding x) absent ▸ es)) → Fits expression value → SomeFit (append ds (declarator (binding x) value ▸ es))
  values_fit ds x es value h e f =
      let old = declarator (binding x) absent in
      let new = declarator (binding x) value in
      let (some, filled) = and_parts (nat_le 1 (count (append ds (old ▸ es)))) (fill strict (each (one a_declarator)) (append ds (old ▸ es)) && true) e in
      let (first, more) = both_fit (one a_declarator) ds (old ▸ es) (left (fill strict (each (one a_declarator)) (append ds (old ▸ es))) true filled) in
      let (own, last) = first_fits (one a_declarator) old es more in
      let all = append_fits (one a_declarator) ds (new ▸ es) first (more_fit (one a_declarator) new es (value_fits x value h own f) last) in
      both (nat_le 1 (count (append ds (new ▸ es)))) (fill strict (each (one a_declarator)) (append ds (new ▸ es)) && true) (more_than_none ds (new ▸ es) (le-leb 1 (count (new ▸ es)) (omega arith))) (both (fill strict (each (one a_declarator)) (append ds (new ▸ es))) true all refl)

  -- a statement, and what is left of it without the assignment
  Leaves : Tree → Trees → Depth → Type 0
  Leaves a left d = Fits expression a × AllFit (statement d) left

  of_sequence : (a q : Tree) (qs : Trees) → Fits expression (sequence (a ▸ (q ▸ qs))) → Fits expression a × Fits expression (of_parts q qs)
  of_sequence a q qs e = let (x, y) = first_fits expression a (q ▸ qs) (parts_fit a (q ▸ qs) e) in (x, of_parts_fits q qs y)

  head_leaves : (h : ListHead) (a q : Tree) (qs : Trees) (d : Depth) → are_parts q qs ≡ true → Fits (statement d) (with_head h (sequence (a ▸ (q ▸ qs)))) → Leaves a (with_head h (of_parts q qs) ▸ none) d
  unfolding Leaves
  head_leaves Return a q qs d k e =
      let (x, y) = of_sequence a q qs (of_return d (sequence (a ▸ (q ▸ qs))) e) in
      (x, just d (return_statement (of_parts q qs)) (return_fits d (of_parts q qs) (parts_there q qs k) y))
  head_leaves Throw a q qs d k e =
      let (x, y) = of_sequence a q qs (of_throw d (sequence (a ▸ (q ▸ qs))) e) in
      (x, just d (throw_statement (of_parts q qs)) (throw_fits d (of_parts q qs) y))
  head_leaves (If u v) a q qs d k e =
      let (f, b, c) = of_if d (sequence (a ▸ (q ▸ qs))) u v e in
      let (x, y) = of_sequence a q qs f in
      (x, just d (if_else (of_parts q qs) u v) (if_fits d (of_parts q qs) u v (y, b, c)))
  head_leaves (Switch cases) a q qs d k e =
      let (f, b) = and_parts (fits strict expression (sequence (a ▸ (q ▸ qs)))) (fits strict (many a_case) cases && true) e in
      let (x, y) = of_sequence a q qs f in
      (x, just d (switch (of_parts q qs) cases) (both (fits strict expression (of_parts q qs)) (fits strict (many a_case) cases && true) y b))
  head_leaves (For u v w) a q qs d k e =
      let (f, b) = and_parts (fits strict (one_or_absent an_init) (sequence (a ▸ (q ▸ qs)))) (loop_rest u v w) e in
      let (x, y) = of_sequence a q qs f in
      (x, just d (for_loop (of_parts q qs) u v w) (both (fits strict (one_or_absent an_init) (of_parts q qs)) (loop_rest u v w) (expression_taken strict (one_or_absent an_init) (of_parts q qs) tt y) b))

  each_leaves : (k : Each) (left body : Tree) (a q : Tree) (qs : Trees) (d : Depth) → Fits (statement d) (each_loop k left (sequence (a ▸ (q ▸ qs))) body) → Leaves a (each_loop k left (of_parts q qs) body ▸ none) d
  unfolding Leaves
  each_leaves EachIn l w a q qs d e =
      let (b, r) = and_parts (fits strict (one (a_loop_left true)) l) (fits strict expression (sequence (a ▸ (q ▸ qs))) && (fits strict (statement nested) w && true)) e in
      let (f, c) = and_parts (fits strict expression (sequence (a ▸ (q ▸ qs)))) (fits strict (statement nested) w && true) r in
      let (x, y) = of_sequence a q qs f in
      (x, just d (for_in l (of_parts q qs) w) (both (fits strict (one (a_loop_left true)) l) (fits strict expression (of_parts q qs) && (fits strict (statement nested) w && true)) b (both (fits strict expression (of_parts q qs)) (fits strict (statement nested) w && true) y c)))
  each_leaves EachOf l w a q qs d e =
      let (b, r) = and_parts (fits strict (one (a_loop_left false)) l) (fits strict expression (sequence (a ▸ (q ▸ qs))) && (fits strict (statement nested) w && true)) e in
      let (f, c) = and_parts (fits strict expression (sequence (a ▸ (q ▸ qs)))) (fits strict (statement nested) w && true) r in
      let (x, y) = of_sequence a q qs f in
      (x, just d (each_loop EachOf l (of_parts q qs) w) (both (fits strict (one (a_loop_left false)) l) (fits strict expression (of_parts q qs) && (fits strict (statement nested) w && true)) b (both (fits strict expression (of_parts q qs)) (fits strict (statement nested) w && true) y c)))

  -- the first initializer of a declaration is an expression
  pub first_sequence : (d : Depth) (kind : VariableDeclarationKind) (id : Tree) (ds ts : Trees) → Fits (statement d) (declaration kind (declarator id (sequence ts) ▸ ds)) → Fits expression (sequence ts)
  first_sequence d kind id ds ts e =
      let s = sequence ts in
      let old = declarator id s ▸ ds in
      let filled = (and_parts (nat_le 1 (count old)) (fill strict (each (one a_declarator)) old && true) (sym (declaration_anywhere strict d kind old) ∙ e)).1 in
      let (own, others) = first_fits (one a_declarator) (declarator id s) ds (left (fill strict (each (one a_declarator)) old) true filled) in
      present an_expression s refl (left (fits strict (one_or_absent an_expression) s) true (and_parts (fits strict (one a_pattern) id) (fits strict (one_or_absent an_expression) s && true) own).1)

  first_leaves : (kind : VariableDeclarationKind) (id : Tree) (ds : Trees) (a q : Tree) (qs : Trees) (d : Depth) → are_parts q qs ≡ true → Fits (statement d) (declaration kind (declarator id (sequence (a ▸ (q ▸ qs))) ▸ ds)) → Leaves a (declaration kind (declarator id (of_parts q qs) ▸ ds) ▸ none) d
  unfolding Leaves
  first_leaves kind id ds a q qs d k e =
      let s = sequence (a ▸ (q ▸ qs)) in
      let old = declarator id s ▸ ds in
      let new = declarator id (of_parts q qs) ▸ ds in
      let (some, filled) = and_parts (nat_le 1 (count old)) (fill strict (each (one a_declarator)) old && true) (sym (declaration_anywhere strict d kind old) ∙ e) in
      let (own, others) = first_fits (one a_declarator) (declarator id s) ds (left (fill strict (each (one a_declarator)) old) true filled) in
      let (name, init) = and_parts (fits strict (one a_pattern) id) (fits strict (one_or_absent an_expression) s && true) own in
      let (f, y) = of_sequence a q qs (present an_expression s refl (left (fits strict (one_or_absent an_expression) s) true init)) in
      let value = both (fits strict (one a_pattern) id) (fits strict (one_or_absent an_expression) (of_parts q qs) && true) name (both (fits strict (one_or_absent an_expression) (of_parts q qs)) true (or_absent an_expression (of_parts q qs) y (parts_there q qs k)) refl) in
      let all = more_fit (one a_declarator) (declarator id (of_parts q qs)) ds value others in
      (f, just d (declaration kind new) (declaration_anywhere strict d kind new ∙ both (nat_le 1 (count new)) (fill strict (each (one a_declarator)) new && true) some (both (fill strict (each (one a_declarator)) new) true all refl)))

  -- and of a `var` in the head of a `for`
  pub looped_first : (d : Depth) (id : Tree) (ds : Trees) (e u v w : Tree) → Fits (statement d) (for_loop (declaration Var (declarator id e ▸ ds)) u v w) → Fits (statement d) (declaration Var (declarator id e ▸ ds))
  looped_first d id ds e u v w f =
      let all = declarator id e ▸ ds in
      declaration_anywhere strict d Var all ∙ sym (init_declares strict Var all) ∙ (and_parts (fits strict (one_or_absent an_init) (declaration Var all)) (loop_rest u v w) f).0

  first_looped : (d : Depth) (id : Tree) (ds : Trees) (a q : Tree) (qs : Trees) (u v w : Tree) → are_parts q qs ≡ true → Fits (statement d) (for_loop (declaration Var (declarator id (sequence (a ▸ (q ▸ qs))) ▸ ds)) u v w) → Leaves a (for_loop (declaration Var (declarator id (of_parts q qs) ▸ ds)) u v w ▸ none) d
  unfolding Leaves
  first_looped d id ds a q qs u v w k f =
      let new = declarator id (of_parts q qs) ▸ ds in
      let old = declarator id (sequence (a ▸ (q ▸ qs))) ▸ ds in
      let (x, y) = first_leaves Var id ds a q qs d k (looped_first d id ds (sequence (a ▸ (q ▸ qs))) u v w f) in
      let head = init_declares strict Var new ∙ sym (declaration_anywhere strict d Var new) ∙ left (fits strict (statement d) (declaration Var new)) true y in
      (x, just d (for_loop (declaration Var new) u v w) (both (fits strict (one_or_absent an_init) (declaration Var new)) (loop_rest u v w) head (and_parts (fits strict (one_or_absent an_init) (declaration Var old)) (loop_rest u v w) f).1))

  begun_leaves : (b : Beginning) (y : Name) (value : Tree) (d : Depth) → begins_well b ≡ true → Fits (statement d) (begun b (assigned y value)) → Leaves (assigned y value) (begun_without b) d
  unfolding Leaves
  begun_leaves Alone y value d k e = (of_expression d (assigned y value) e, refl)
  begun_leaves (Init u v w) y value d k e =
      let (f, b) = and_parts (fits strict (one_or_absent an_init) (assigned y value)) (loop_rest u v w) e in
      (f, just d (for_loop absent u v w) (both (fits strict (one_or_absent an_init) absent) (loop_rest u v w) refl b))
  begun_leaves (Before Statement q qs) y value d k e =
      let (x, z) = of_sequence (assigned y value) q qs (of_expression d (sequence (assigned y value ▸ (q ▸ qs))) e) in
      (x, just d (expression_statement (of_parts q qs)) (expression_fits d (of_parts q qs) z))
  begun_leaves (Before (Heading h) q qs) y value d k e = head_leaves h (assigned y value) q qs d k e
  begun_leaves (Before (Going c l w) q qs) y value d k e = each_leaves c l w (assigned y value) q qs d e
  begun_leaves (Before (Declaring kind x ds) q qs) y value d k e = first_leaves kind x ds (assigned y value) q qs d k e
  begun_leaves (Before (Looping x ds u v w) q qs) y value d k e = first_looped d x ds (assigned y value) q qs u v w k e

  pub begun_fit : (kind : VariableDeclarationKind) (ds : Trees) (x y : Name) (es : Trees) (value : Tree) (b : Beginning) → declares_nothing value ≡ true → begins_well b ≡ true → Fitting (declaration kind (append ds (declarator (binding x) absent ▸ es)) ▸ (begun b (assigned y value) ▸ none)) (declaration kind (append ds (declarator (binding x) value ▸ es)) ▸ begun_without b)
  unfolding Leaves
  begun_fit kind ds x y es value b h k d e =
      let old = append ds (declarator (binding x) absent ▸ es) in
      let new = append ds (declarator (binding x) value ▸ es) in
      let (f, g) = two_of d (declaration kind old) (begun b (assigned y value)) e in
      let (a, left) = begun_leaves b y value d k g in
      more_fit (statement d) (declaration kind new) (begun_without b) (declaration_anywhere strict d kind new ∙ values_fit ds x es value h (sym (declaration_anywhere strict d kind old) ∙ f) (of_assigned y value a)) left

  -- a `var` in the head of a loop

  each_fit : (k : Each) (x y : Name) (right body : Tree) → Fitting (bare_var x ▸ (each_loop k (identifier y) right body ▸ none)) (each_loop k (bare_var x) right body ▸ none)
  each_fit EachIn x y right body d e =
      let (f, g) = two_of d (bare_var x) (for_in (identifier y) right body) e in
      let (a, b) = and_parts (fits strict (one (a_loop_left true)) (identifier y)) (fits strict expression right && (fits strict (statement nested) body && true)) g in
      just d (for_in (bare_var x) right body) (both (fits strict (one (a_loop_left true)) (bare_var x)) (fits strict expression right && (fits strict (statement nested) body && true)) (sym (declaration_anywhere strict d Var (declarator (binding x) absent ▸ none)) ∙ f) b)
  each_fit EachOf x y right body d e =
      let (f, g) = two_of d (bare_var x) (each_loop EachOf (identifier y) right body) e in
      let (a, b) = and_parts (fits strict (one (a_loop_left false)) (identifier y)) (fits strict expression right && (fits strict (statement nested) body && true)) g in
      just d (each_loop EachOf (bare_var x) right body) (both (fits strict (one (a_loop_left false)) (bare_var x)) (fits strict expression right && (fits strict (statement nested) body && true)) (sym (declaration_anywhere strict d Var (declarator (binding x) absent ▸ none)) ∙ f) b)

  -- the `var` names of what never runs

  bare_fits : (x : Name) → is_name x.spelling ≡ true → Fits (one a_declarator) (declarator (binding x) absent)
  bare_fits x e = both (fits strict (one a_pattern) (binding x)) true (both (is_name x.spelling && true) true (both (is_name x.spelling) true e refl) refl) refl

  all_bare_fit : (xs : List Name) → AllNamed xs → AllFit (one a_declarator) (bare_declarators xs)
  all_bare_fit [] a = refl
  all_bare_fit (x ∷ xs) a = more_fit (one a_declarator) (declarator (binding x) absent) (bare_declarators xs) (bare_fits x a.0) (all_bare_fit xs a.1)

  pub left_fits : (d : Depth) (xs : List Name) → AllNamed xs → AllFit (statement d) (declared_bare xs)
  left_fits d [] a = refl
  left_fits d (x ∷ xs) a =
      let ds = bare_declarators (x ∷ xs) in
      just d (declaration Var ds) (declaration_anywhere strict d Var ds ∙ both (nat_le 1 (count ds)) (fill strict (each (one a_declarator)) ds && true) (le-leb 1 (count ds) (omega arith)) (both (fill strict (each (one a_declarator)) ds) true (all_bare_fit (x ∷ xs) a) refl))

  unreached_fits : (t : Tree) (between : Trees) (u : Tree) → Fitting (t ▸ append between (u ▸ none)) (t ▸ append between (left_behind u))
  unreached_fits t between u d e =
      let (first, rest) = first_fits (statement d) t (append between (u ▸ none)) e in
      let (others, last) = both_fit (statement d) between (u ▸ none) rest in
      more_fit (statement d) t (append between (left_behind u)) first (append_fits (statement d) between (left_behind u) others (left_fits d (names_of declared.Hoisted u) (names_named declared.Hoisted strict (statement d) u (one_of d u last))))

  -- whichever row it is

  sequences_fit : (a b : Trees) → SequencesRow a b → Fitting a b
  sequences_fit a b (inl r) = like r.shape r.written (joined_expressions_fit r.p r.ps r.q r.qs)
  sequences_fit a b (inr (inl r)) = like r.shape r.written (joined_returns_fit r.test r.left r.right r.present)
  sequences_fit a b (inr (inr (inl r))) = like r.shape r.written (joined_throws_fit r.test r.left r.right)
  sequences_fit a b (inr (inr (inr (inl r)))) = like r.shape r.written (bare_returns_fit r.test)
  sequences_fit a b (inr (inr (inr (inr (inl r))))) = like r.shape r.written (joined_head_fits r.head r.p r.ps r.q r.qs r.second)
  sequences_fit a b (inr (inr (inr (inr (inr (inl r)))))) = like r.shape r.written (absent_init_fits r.p r.ps r.test r.update r.body)
  sequences_fit a b (inr (inr (inr (inr (inr (inr r)))))) = like r.shape r.written (split_fit r.test r.s r.u r.unscoped)

  loops_fit : (a b : Trees) → LoopRow a b → Fitting a b
  loops_fit a b (inl r) = like r.shape r.written (joined_right_fits r.left r.body r.p r.ps r.q r.qs)
  loops_fit a b (inr (inl r)) = like r.shape r.written (free_init_fits r.ds r.test r.update r.body)
  loops_fit a b (inr (inr r)) = like r.shape r.written (joined_init_fits r.ds r.es r.test r.update r.body)

  joins_fit : (o : Switches) (a b : Trees) → JoinRow o a b → Fitting a b
  joins_fit o a b (inl r) = like r.1.shape r.1.written (joined_declarations_fit r.1.kind r.1.ds r.1.es)
  joins_fit o a b (inr r) = loops_fit a b r.1

  pub stretch_fits : (o : Switches) (a b : Trees) → StretchRow o a b → Fitting a b
  stretch_fits o a b (inl r) = like r.shape r.written (λ d e. refl)
  stretch_fits o a b (inr (inl r)) = like r.shape r.written (spread_fit r.statements r.unscoped)
  stretch_fits o a b (inr (inr (inl r))) = joins_fit o a b r
  stretch_fits o a b (inr (inr (inr r))) = sequences_fit a b r.1

  pub neighbours_fit : (o : Switches) (a b : Trees) → NeighbourRow o a b → Fitting a b
  neighbours_fit o a b (inl r) = stretch_fits o a b r
  neighbours_fit o a b (inr (inr (inr (inl r)))) = like r.shape r.written (each_fit EachOf (resolved r.spelling r.symbol) (resolved r.spelling r.symbol) r.right r.body)
  neighbours_fit o a b (inr (inr (inr (inr r)))) = like r.1.shape r.1.written (each_fit EachIn (resolved r.1.spelling r.1.symbol) (resolved r.1.spelling r.1.symbol) r.1.right r.1.body)
  neighbours_fit o a b (inr (inr (inl r))) = like r.shape r.written (begun_fit Var r.ds (resolved r.spelling r.symbol) (resolved r.spelling r.symbol) r.es r.value r.beginning r.plain r.parts)
  neighbours_fit o a b (inr (inl (s, inl r))) = like r.shape r.written (guards_fit r.left r.right r.s r.u)
  neighbours_fit o a b (inr (inl (s, inr (inl r)))) = like r.shape r.written (λ d e. just d r.first (two_of d r.first (says r.saying r.e) e).0)
  neighbours_fit o a b (inr (inl (s, inr (inr (inl r))))) = like r.shape r.written (λ d e. just d r.first (two_of d r.first (leap r.leaping) e).0)
  neighbours_fit o a b (inr (inl (s, inr (inr (inr r))))) = like r.shape r.written (unreached_fits r.first r.between r.gone)

-- a list, with the stretch in it
pub stretch_in_list : (R : Trees → Trees → Type 0) → ((strict : Bool) (a b : Trees) → R a b → Fitting strict a b) → (n w : Tree) → InList R n w → (strict : Bool) (s : Slot) → fits_place StatementList s ≡ true → fits strict s n ≡ true → fits strict s w ≡ true
stretch_in_list R fit n w r strict s k e =
    let (d, q, f) = statements_slot strict s [] 0 (append r.before (append r.read r.after)) k (subst (λ t. fits strict s t ≡ true) r.shape e) in
    let (x, g) = both_fit strict (statement d) r.before (append r.read r.after) f in
    let (y, z) = both_fit strict (statement d) r.read r.after g in
    let made = append_fits strict (statement d) r.before (append r.put r.after) x (append_fits strict (statement d) r.put r.after (fit strict r.read r.put r.row d y) z) in
    subst (λ t. fits strict s t ≡ true) (sym r.written) (subst (λ c. fits strict c (listed (append r.before (append r.put r.after))) ≡ true) (sym q) (both true (fill strict (each (statement d)) (append r.before (append r.put r.after))) refl made))

pub list_fits : (o : Switches) (n w : Tree) → InList (NeighbourRow o) n w → (strict : Bool) (s : Slot) → fits_place StatementList s ≡ true → fits strict s n ≡ true → fits strict s w ≡ true
list_fits o = stretch_in_list (NeighbourRow o) (λ strict. neighbours_fit strict o)
