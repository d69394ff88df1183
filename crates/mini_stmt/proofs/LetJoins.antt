-- 70: the assignment of a value after a `let`.
use Rattle.std.proofs.Common.{◌≡◌, ℕ, zero, suc, ◌+◌, ◌<◌, ◌≤◌, Bool, true, false, [], Option, Some, refl, sym, ap, ◌∙◌, subst, inl, inr, true≢false, arith}
use Rattle.std.specs.Prelude.{ℤ, pos, not, ◌&&◌, ◌||◌, Result, Ok, Err, IfOk}
use Rattle.std.proofs.lemmas.Bool.{and_parts}
use Rattle.mini_model.specs.declared.kind.VariableDeclarationKind.TheVariants.{Let}
use Rattle.mini_model.specs.declared.memory.OutOfMemory.{OutOfMemory}
use Rattle.mini_model.specs.declared.operator.AssignmentOperator.TheVariants.{Assign}
use Rattle.mini_model.specs.declared.operator.UnaryOperator.{UnaryOperator}
use Rattle.mini_model.specs.declared.operator.UnaryOperator.TheVariants.{Void, LogicalNot}
use Rattle.mini_model.specs.declared.place.Position.{Position}
use Rattle.mini_model.specs.declared.place.Position.TheVariants.{StatementList, BodyList}
use Rattle.mini_model.specs.declared.shape.Shape.TheVariants as shape
use Rattle.mini_model.specs.Tree.{Tree, Trees, node, none, ◌▸◌, count, unary, negation, child_or_absent, absent, listed, children, identifier}
use Rattle.mini_model.specs.Paths.{append}
use Rattle.mini_laws.specs.Value.{Variable, Declared, Global, VariableSet}
use Rattle.mini_laws.specs.Writable.{writable_in}
use Rattle.mini_node.specs.Children.{part, with_part, names_of, rest_children}
use Rattle.mini_node.specs.Lends.{with_children}
use Rattle.mini_node.specs.Kinds.{is_listed, number, unary_operator}
use Rattle.mini_node.specs.Made.{listed_is, number_is, unary_is}
use Rattle.mini_node.specs.Walks.{from_first, next_child, no_rest, append_one}
use Rattle.mini_tree.specs.declared.options.CompressOptions.{CompressOptions}
use Rattle.mini_tree.specs.Rule.{Applied, Moves}
use Rattle.mini_tree.proofs.Reaching.{moves_once, moves_trans}
use Rattle.mini_context.specs.declared.context.TraverseCtx.{TraverseCtx}
use Rattle.mini_context.specs.Known.{Knows}
use Rattle.mini_rows.specs.DeadCases.{Known, a_number, a_text, a_truth, a_null, undefined, known}
use Rattle.mini_rows.specs.DeadLexicals.{Row77Lexical}
use Rattle.mini_rows.specs.Lets.{Row70Let, LetsRow, LetContracts}
use Rattle.mini_rows.specs.Lists.{declaration, declarator, binding, resolved, assigned, begun, InList}
use Rattle.mini_rows.proofs.DeadCaseMeaning.{known_declares}
use Rattle.mini_rows.proofs.LetWeights.{lets_lighter}
use Rattle.mini_stmt.specs.JoinAssignments.{assigns_name, declares_bare, beginning_of, holds_sequence, holds_alone, assigns_first}
use Rattle.mini_stmt.specs.JoinGuards.{last_after}
use Rattle.mini_stmt.specs.JoinLets.{is_zero, is_digit, is_over_digit, is_known, marked, may_write_in, writes_value, takes_last, may_join, joins_let, Joined, joins_first, are_joined, joins_last, is_list_place, Changes, PutJoined, AllJoined, Gives, RestsOver, Rests, JoinsLets, RestsBy, JoinsValues, DropsLexicals}
use Rattle.mini_stmt.specs.JoinVars.{declares}
use Rattle.mini_stmt.proofs.Parts.{not_true}
use Rattle.mini_stmt.proofs.Follows.{declares_is}
use Rattle.mini_stmt.proofs.Guards.{last_pushed, last_is}
use Rattle.mini_stmt.proofs.Quiet.{append_assoc}
use Rattle.mini_stmt.proofs.Assignments.{both, assigns_by, bound_by, begins_by, told_by, some_part, two_parts, declared_found}

-- ---- a value that is written out

zero_is : (t : Tree) → is_zero (number t) ≡ true → unary Void t ≡ known undefined
zero_is t e = go (number t) refl e
  where
    go : (o : Option ℤ) → number t ≡ o → is_zero o ≡ true → unary Void t ≡ known undefined
    go (Some (pos zero)) h e = ap (unary Void) (number_is t (pos 0) h)
    go o h e = absurd (cc e)

digit_is : (t : Tree) → is_digit (number t) ≡ true → (b : Bool) × (negation t ≡ known (a_truth b))
digit_is t e = go (number t) refl e
  where
    go : (o : Option ℤ) → number t ≡ o → is_digit o ≡ true → (b : Bool) × (negation t ≡ known (a_truth b))
    go (Some (pos zero)) h e = (true, ap negation (number_is t (pos 0) h))
    go (Some (pos (suc zero))) h e = (false, ap negation (number_is t (pos 1) h))
    go o h e = absurd (cc e)

over_is : (t : Tree) (o : Option UnaryOperator) → unary_operator t ≡ o → is_over_digit o (part t 0) ≡ true → (k : Known) × (t ≡ known k)
over_is t (Some Void) h e = (undefined, unary_is t Void h ∙ zero_is (part t 0) e)
over_is t (Some LogicalNot) h e = let b = digit_is (part t 0) e in (a_truth b.0, unary_is t LogicalNot h ∙ b.1)
over_is t o h e = absurd (cc e)

known_is : (t : Tree) → is_known t ≡ true → (k : Known) × (t ≡ known k)
known_is (node (shape.NumericLiteral m) [] zero none) e = (a_number m, refl)
known_is (node (shape.StringLiteral s) [] zero none) e = (a_text s, refl)
known_is (node shape.NullLiteral [] zero none) e = (a_null, refl)
known_is (node (shape.UnaryExpression o) xs n ts) e = over_is (node (shape.UnaryExpression o) xs n ts) (unary_operator (node (shape.UnaryExpression o) xs n ts)) refl e
known_is t e = absurd (true≢false (sym e))

known_passes : (k : Known) → is_known (known k) ≡ true
known_passes (a_number n) = refl
known_passes (a_text s) = refl
known_passes (a_truth true) = refl
known_passes (a_truth false) = refl
known_passes a_null = refl
known_passes undefined = refl

-- ---- two neighbours

pub let_row : (W : VariableSet) (t u made : Tree) (left : Trees) → joins_let W t u ≡ true → Joined t u made left → Row70Let W (t ▸ (u ▸ none)) (made ▸ left)
let_row W t u made left e m =
    let x = part (beginning_of u) 0 in
    let value = part (beginning_of u) 1 in
    let ds = children (part t 0) in
    let (may, writes) = and_parts (may_join t u) (writes_value W (beginning_of u)) e in
    let (lexical, r) = and_parts (declares Let t) (assigns_first u && takes_last x ds) may in
    let (first, takes) = and_parts (assigns_first u) (takes_last x ds) r in
    let (whole, assigns) = and_parts (holds_sequence u || holds_alone u) (assigns_name (beginning_of u)) first in
    let (written, free) = and_parts (is_known value) (may_write_in W (names_of x)) writes in
    let begins = begins_by u whole in
    let a = assigns_by (beginning_of u) assigns in
    let k = known_is value written in
    let v = m.value in
    let bound = bound_by v.last x a.target (sym (ap (λ d. declares_bare d x) (ap (last_after absent) v.declared ∙ last_pushed absent v.init v.last)) ∙ takes) in
    let whole_is : beginning_of u ≡ assigned (resolved bound.name.spelling bound.symbol) (known k.0) = a.is ∙ (λ j. node (shape.AssignmentExpression Assign) [] 0 (bound.target_is j ▸ (k.1 j ▸ none))) in
    record {
      ds = v.init;
      spelling = bound.name.spelling;
      symbol = bound.symbol;
      value = k.0;
      beginning = begins.beginning;
      writable = sym (ap (λ y. may_write_in W (names_of y)) bound.target_is) ∙ free;
      parts = begins.well;
      shape =
          λ j. (declares_is Let t lexical ∙ ap (declaration Let) v.declared ∙ ap (λ d. declaration Let (append v.init (d ▸ none))) bound.is) j
          ▸ ((begins.whole ∙ ap (begun begins.beginning) whole_is) j ▸ none);
      written =
          λ j. (v.written ∙ (λ i. declaration Let (append v.init (with_part (bound.is i) 1 (k.1 i) ▸ none)))) j
          ▸ (m.rest ∙ begins.left) j;
    }

-- what the calls are given
pub record Given (t u : Tree) : Type 0 where
  pub some : 0 < count (children u)
  pub list : 0 < count (children (part t 0))
  pub parts : 1 < count (children (last_after absent (children (part t 0))))

pub given : (t u : Tree) → may_join t u ≡ true → Given t u
given t u e =
    let x = part (beginning_of u) 0 in
    let ds = children (part t 0) in
    let (first, takes) = and_parts (assigns_first u) (takes_last x ds) (and_parts (declares Let t) (assigns_first u && takes_last x ds) e).1 in
    record {
      some = some_part u (and_parts (holds_sequence u || holds_alone u) (assigns_name (beginning_of u)) first).0;
      list = there ds takes;
      parts = two_parts (last_after absent ds) x takes;
    }
  where
    there : (ts : Trees) → takes_last (part (beginning_of u) 0) ts ≡ true → 0 < count ts
    there none h = absurd (true≢false (sym h))
    there (c ▸ ts) h = omega arith

-- the last declarator has two parts
pub last_parts : (ds init : Trees) (last : Tree) → ds ≡ append init (last ▸ none) → 1 < count (children (last_after absent ds)) → 1 < count (children last)
last_parts ds init last e h = subst (λ d. 1 < count (children d)) (ap (last_after absent) e ∙ last_pushed absent init last) h

pub declares_list : (t : Tree) → declares Let t ≡ true → 0 < count (children t)
declares_list t e = let is = ap (λ x. count (children x)) (declares_is Let t e) in omega (arith, is)

pub takes_there : (x : Tree) (ts : Trees) (i : ℕ) → count ts ≡ i + 1 → declares_bare (child_or_absent ts i) x ≡ takes_last x ts
takes_there x ts i e = ap (λ d. declares_bare d x) (sym (last_is absent ts i e))

pub takes_none : (x : Tree) (ts : Trees) → count ts ≡ 0 → takes_last x ts ≡ false
takes_none x none e = refl
takes_none x (t ▸ ts) e = absurd (omega (arith, e))

-- the row reads what the tests tell
record Pair (W : VariableSet) (a : Trees) : Type 0 where
  first : Tree
  next : Tree
  is : a ≡ first ▸ (next ▸ none)
  met : joins_let W first next ≡ true

row_joins : (W : VariableSet) (a b : Trees) → Row70Let W a b → Pair W a
row_joins W a b r =
    let d = declarator (binding (resolved r.spelling r.symbol)) absent in
    let old = declaration Let (append r.ds (d ▸ none)) in
    let x = resolved r.spelling r.symbol in
    let u = begun r.beginning (assigned x (known r.value)) in
    let told = told_by r.beginning x (known r.value) r.parts in
    record {
      first = old;
      next = u;
      is = r.shape;
      met =
          both (may_join old u) (writes_value W (beginning_of u))
          (both (assigns_first u) (takes_last (part (beginning_of u) 0) (children (part old 0)))
          (both (holds_sequence u || holds_alone u) (assigns_name (beginning_of u)) told.holds (ap assigns_name told.first ∙ known_declares r.value))
          (ap (λ v. takes_last (part v 0) (children (part old 0))) told.first ∙ ap (λ c. declares_bare c (identifier x)) (last_pushed absent r.ds d) ∙ declared_found r.spelling r.symbol))
          (ap (writes_value W) told.first ∙ ap (λ c. c && W (Declared r.symbol)) (known_passes r.value) ∙ r.writable);
    }

-- ---- a list

module _ (W : VariableSet) where
  join_before : (t u : Tree) (after : Trees) (ts : Trees) → are_joined W (append ts (t ▸ (u ▸ after))) ≡ true → joins_let W t u ≡ false
  join_before t u after none e = not_true (joins_let W t u) (and_parts (not (joins_let W t u)) (are_joined W (u ▸ after)) e).0
  join_before t u after (c ▸ ts) e = join_before t u after ts (and_parts (not (joins_first W (c ▸ append ts (t ▸ (u ▸ after))))) (are_joined W (append ts (t ▸ (u ▸ after)))) e).1

  joined_rest : (ts : Trees) → are_joined W ts ≡ true → (w : Tree) → InList (Row70Let W) (listed ts) w → ⊥
  joined_rest ts e w r =
      let m = row_joins W r.read r.put r.row in
      let is : ts ≡ append r.before (m.first ▸ (m.next ▸ r.after)) = ap children r.shape ∙ ap (λ a. append r.before (append a r.after)) m.is in
      true≢false (sym m.met ∙ join_before m.first m.next r.after r.before (sym (ap (are_joined W) is) ∙ e))

  joined_rests : (ts : Trees) → are_joined W ts ≡ true → (p : Position) → is_list_place p ≡ true → RestsBy (Row70Let W) p (listed ts)
  joined_rests ts e StatementList l w r = joined_rest ts e w r
  joined_rests ts e BodyList l w r = joined_rest ts e w r
  joined_rests ts e p l w r = absurd (true≢false (sym l))

  -- as the list goes on

  pub joined_start : (ts : Trees) → are_joined W (rest_children 0 ts) ≡ are_joined W ts
  joined_start ts = ap (are_joined W) (from_first ts)

  pub joined_stops : (ts : Trees) (i : ℕ) → i < count ts → joins_first W (rest_children i ts) ≡ true → are_joined W (rest_children i ts) ≡ are_joined W ts → false ≡ are_joined W ts
  joined_stops ts i h e inv =
      let next = next_child ts i h in
      let here : joins_first W (child_or_absent ts i ▸ rest_children (suc i) ts) ≡ true = sym (ap (joins_first W) next) ∙ e in
      sym (ap (λ b. not b && are_joined W (rest_children (suc i) ts)) here) ∙ sym (ap (are_joined W) next) ∙ inv

  pub joined_goes_on : (ts : Trees) (i : ℕ) → i < count ts → joins_first W (rest_children i ts) ≡ false → are_joined W (rest_children i ts) ≡ are_joined W ts → are_joined W (rest_children (i + 1) ts) ≡ are_joined W ts
  joined_goes_on ts i h e inv =
      let next = next_child ts i h in
      let other : i + 1 ≡ suc i = omega arith in
      let here : joins_first W (child_or_absent ts i ▸ rest_children (suc i) ts) ≡ false = sym (ap (joins_first W) next) ∙ e in
      ap (λ k. are_joined W (rest_children k ts)) other ∙ sym (ap (λ b. not b && are_joined W (rest_children (suc i) ts)) here) ∙ sym (ap (are_joined W) next) ∙ inv

  pub joined_ends : (ts : Trees) (i : ℕ) → count ts ≤ i → are_joined W (rest_children i ts) ≡ are_joined W ts → true ≡ are_joined W ts
  joined_ends ts i h inv = sym (ap (are_joined W) (no_rest ts i h)) ∙ inv

  -- one of them and the next one
  pub two_there : (ts : Trees) (i : ℕ) → i + 1 < count ts → joins_first W (rest_children i ts) ≡ joins_let W (child_or_absent ts i) (child_or_absent ts (i + 1))
  two_there ts i h =
      let other : i + 1 ≡ suc i = omega arith in
      ap (joins_first W) (next_child ts i (omega (arith, h)) ∙ ap (λ r. child_or_absent ts i ▸ r) (next_child ts (suc i) (omega (arith, h)))) ∙ ap (λ k. joins_let W (child_or_absent ts i) (child_or_absent ts k)) (sym other)

  pub one_there : (ts : Trees) (i : ℕ) → i < count ts → count ts ≤ i + 1 → joins_first W (rest_children i ts) ≡ false
  one_there ts i h k = ap (joins_first W) (next_child ts i h ∙ ap (λ r. child_or_absent ts i ▸ r) (no_rest ts (suc i) (omega (arith, k))))

  -- the last one, and no last one
  pub joins_there : (ts : Trees) (u : Tree) (i : ℕ) → count ts ≡ i + 1 → joins_let W (child_or_absent ts i) u ≡ joins_last W ts u
  joins_there ts u i e = ap (λ t. joins_let W t u) (sym (last_is absent ts i e))

  pub no_joins : (ts : Trees) (u : Tree) → count ts ≡ 0 → joins_last W ts u ≡ false
  no_joins none u e = refl
  no_joins (t ▸ ts) u e = absurd (omega (arith, e))

  pub some_last : (ts : Trees) (u : Tree) → joins_last W ts u ≡ true → 0 < count ts
  some_last none u e = absurd (true≢false (sym e))
  some_last (t ▸ ts) u e = omega arith

  -- ---- steps

  pub contracts : (before a b after : Trees) → LetsRow W a b → (p : Position) → is_list_place p ≡ true → LetContracts W p (listed (append before (append a after))) (listed (append before (append b after)))
  contracts before a b after r StatementList l =
      let row : InList (LetsRow W) (listed (append before (append a after))) (listed (append before (append b after))) = record { before = before; read = a; put = b; after = after; row = r; shape = refl; written = refl } in
      record { row = row; lighter = lets_lighter W StatementList _ _ row }
  contracts before a b after r BodyList l =
      let row : InList (LetsRow W) (listed (append before (append a after))) (listed (append before (append b after))) = record { before = before; read = a; put = b; after = after; row = r; shape = refl; written = refl } in
      record { row = row; lighter = lets_lighter W BodyList _ _ row }
  contracts before a b after r p l = absurd (true≢false (sym l))

  pub step_on : (before a b after : Trees) → LetsRow W a b → Changes W (append before (append a after)) (append before (append b after)) true
  step_on before a b after r p l = moves_once (LetContracts W) p _ _ (contracts before a b after r p l)

  pub changes_on : (t u v : Trees) (a b : Bool) → Changes W t u a → Changes W u v b → Changes W t v (a || b)
  changes_on t u v true true m n = λ p l. moves_trans (LetContracts W) (m p l) (n p l)
  changes_on t u v true false m e = subst (λ x. Changes W t x true) (sym e) m
  changes_on t u v false b e n = subst (λ x. Changes W x v b) e n

  -- ---- a statement after the others

  push_joined : (t : Tree) (ts : Trees) (x : Tree) → joins_let W (last_after t ts) x ≡ false → are_joined W (t ▸ ts) ≡ true → are_joined W (t ▸ append ts (x ▸ none)) ≡ true
  push_joined t none x e h = ap (λ b. not b && true) e
  push_joined t (u ▸ ts) x e h =
      let (here, rest) = and_parts (not (joins_let W t u)) (are_joined W (u ▸ ts)) h in
      ap (λ b. b && are_joined W (u ▸ append ts (x ▸ none))) here ∙ push_joined u ts x e rest

  joined_push : (ts : Trees) (x : Tree) → joins_last W ts x ≡ false → are_joined W ts ≡ true → are_joined W (append ts (x ▸ none)) ≡ true
  joined_push none x e h = refl
  joined_push (t ▸ ts) x e h = push_joined t ts x e h

  pub put_apart : (before : Trees) (t : Tree) (after : Trees) → joins_last W before t ≡ false → after ≡ append before (t ▸ none) → PutJoined W before t after false
  put_apart before t after e f = record {
    changes = λ rest. ap (λ x. append x rest) f ∙ append_one before t rest;
    joined = λ c k. ap (are_joined W) f ∙ joined_push before t e k;
  }

  -- the last of them is that one
  last_joins : (before init : Trees) (last t : Tree) → joins_last W before t ≡ true → before ≡ append init (last ▸ none) → joins_let W last t ≡ true
  last_joins before init last t e f = sym (ap (λ l. joins_let W l t) (ap (last_after absent) f ∙ last_pushed absent init last)) ∙ e

  pub last_may : (before init : Trees) (last t : Tree) → joins_last W before t ≡ true → before ≡ append init (last ▸ none) → may_join last t ≡ true
  last_may before init last t e f = (and_parts (may_join last t) (writes_value W (beginning_of t)) (last_joins before init last t e f)).0

  pub put_joined : (before init : Trees) (last t declared : Tree) (left mid after : Trees) → joins_last W before t ≡ true → before ≡ append init (last ▸ none) → Joined last t declared left → mid ≡ append init (declared ▸ none) → after ≡ append mid left → PutJoined W before t after true
  put_joined before init last t declared left mid after e f m g h =
      let row = let_row W last t declared left (last_joins before init last t e f) m in
      let put = h ∙ ap (λ x. append x left) g in
      record {
        changes = λ rest.
            subst (λ x. Changes W x (append after rest) true) (sym (ap (λ x. append x (t ▸ rest)) f ∙ append_one init last (t ▸ rest)))
            (subst (λ x. Changes W (append init (last ▸ (t ▸ rest))) x true) (sym (ap (λ x. append x rest) put ∙ append_assoc (append init (declared ▸ none)) left rest ∙ append_one init declared (append left rest)))
            (step_on init (last ▸ (t ▸ none)) (declared ▸ left) rest (inl row)));
        joined = λ c. absurd (true≢false c);
      }

  -- ---- the node

  list_joined : (ts us : Trees) (b : Bool) → AllJoined W ts us b → JoinsValues W (listed ts) (listed us) b
  list_joined ts us true m p l = m.changes p l
  list_joined ts us false m p l = let same = m.changes in (ap listed same, joined_rests ts (sym (ap (are_joined W) same) ∙ m.joined refl) p l)

  pub node_joined : (t : Tree) (us : Trees) (r : Result Bool OutOfMemory) → is_listed t ≡ true → IfOk r (λ b. AllJoined W (children t) us b) → IfOk r (λ b. JoinsValues W t (with_children t us) b)
  node_joined t us (Err e) l m = m
  node_joined t us (Ok b) l m =
      let is = listed_is t l in
      subst (λ x. JoinsValues W x (with_children t us) b) (sym is) (subst (λ x. JoinsValues W (listed (children t)) x b) (sym (ap (λ x. with_children x us) is)) (list_joined (children t) us b m))

  pub not_joined : (t : Tree) → is_listed t ≡ true → are_joined W (children t) ≡ true → JoinsValues W t t false
  not_joined t l e p q = (refl, subst (RestsBy (Row70Let W) p) (sym (listed_is t l)) (joined_rests (children t) e p q))

  other_rests : (t : Tree) → is_listed t ≡ false → (p : Position) → RestsBy (Row70Let W) p t
  other_rests t l StatementList w r = true≢false (sym (ap is_listed r.shape) ∙ l)
  other_rests t l BodyList w r = true≢false (sym (ap is_listed r.shape) ∙ l)
  other_rests t l p w r = absurd r

  pub no_list : (t : Tree) → is_listed t ≡ false → JoinsValues W t t false
  no_list t l p q = (refl, other_rests t l p)

-- ---- either row

both_rest : (W : VariableSet) (p : Position) (t : Tree) → RestsBy (Row70Let W) p t → RestsBy Row77Lexical p t → RestsOver W p t
both_rest W StatementList t f g w r = by r.row
  where
    by : LetsRow W r.read r.put → ⊥
    by (inl m) = f w (record { before = r.before; read = r.read; put = r.put; after = r.after; row = m; shape = r.shape; written = r.written })
    by (inr m) = g w (record { before = r.before; read = r.read; put = r.put; after = r.after; row = m; shape = r.shape; written = r.written })
both_rest W BodyList t f g w r = by r.row
  where
    by : LetsRow W r.read r.put → ⊥
    by (inl m) = f w (record { before = r.before; read = r.read; put = r.put; after = r.after; row = m; shape = r.shape; written = r.written })
    by (inr m) = g w (record { before = r.before; read = r.read; put = r.put; after = r.after; row = m; shape = r.shape; written = r.written })
both_rest W p t f g w r = absurd r

pub values_joined : (W : VariableSet) (t u : Tree) → JoinsValues W t u true → JoinsLets W t u true
values_joined W t u m = m

then_one : (W : VariableSet) (t u v : Tree) (b : Bool) → JoinsValues W t u false → DropsLexicals u v b → JoinsLets W t v b
then_one W t u v true m k = λ p l. subst (λ x. Moves (LetContracts W) p x v) (m p l).0 (k W p l)
then_one W t u v false m k = λ p l.
    let first = m p l in
    let second = k W p l in
    (second.0 ∙ first.0, both_rest W p t first.1 (subst (RestsBy Row77Lexical p) first.0 second.1))

pub then_dropped : (W : VariableSet) (t u v : Tree) (r : Result Bool OutOfMemory) → JoinsValues W t u false → IfOk r (DropsLexicals u v) → IfOk r (JoinsLets W t v)
then_dropped W t u v (Err e) m k = k
then_dropped W t u v (Ok b) m k = then_one W t u v b m k

-- ---- the rule

-- the tables of a context tell what can be written in the program that it knows
told : (c : TraverseCtx) (o : CompressOptions) (q : Tree) → Knows c o q → marked c.scopes ≡ writable_in q
told c o q k = λ j x. by x j
  where
    by : (x : Variable) → marked c.scopes x ≡ writable_in q x
    by (Declared s) = k.refreshed.told.writable_told s
    by (Global s) = refl

pub applied : (c : TraverseCtx) (p : Position) → is_list_place p ≡ true → (t u : Tree) (b : Bool) → JoinsLets (marked c.scopes) t u b → (o : CompressOptions) (q : Tree) → Knows c o q → Applied (Gives o q) (Rests q) p t u b
applied c p l t u b m o q k = subst (λ W. Applied (LetContracts W) (RestsOver W) p t u b) (told c o q k) (m p l)

pub elsewhere : (p : Position) (t : Tree) → is_list_place p ≡ false → (o : CompressOptions) (q : Tree) → Applied (Gives o q) (Rests q) p t t false
elsewhere StatementList t f o q = absurd (true≢false f)
elsewhere BodyList t f o q = absurd (true≢false f)
elsewhere p t f o q = (refl, λ w r. absurd r)
