-- 70: an assignment that begins the statement after a `var`.
use Rattle.std.proofs.Common.{◌≡◌, ℕ, zero, suc, ◌+◌, ◌<◌, ◌≤◌, Bool, true, false, refl, sym, ap, ◌∙◌, subst, inl, inr, ⊎_elim, true≢false, arith}
use Rattle.std.specs.Prelude.{◌⊎◌, is_some as is_there, not, ◌&&◌, ◌||◌, if◌then◌else◌, List, [], ◌∷◌, Option, Some, None, Result, Ok, Err, IfOk}
use Rattle.std.proofs.lemmas.Bool.{and_parts, eqb-true, eq-eqb}
use Rattle.mini_model.specs.declared.kind.VariableDeclarationKind.{VariableDeclarationKind}
use Rattle.mini_model.specs.declared.kind.VariableDeclarationKind.TheVariants.{Var}
use Rattle.mini_model.specs.declared.memory.OutOfMemory.{OutOfMemory}
use Rattle.mini_model.specs.declared.name.Name.{Name}
use Rattle.mini_model.specs.declared.name.SymbolId.{SymbolId}
use Rattle.mini_model.specs.declared.operator.AssignmentOperator.TheVariants.{Assign}
use Rattle.mini_model.specs.declared.place.Position.{Position}
use Rattle.mini_model.specs.declared.place.Position.TheVariants.{StatementList}
use Rattle.mini_model.specs.declared.shape.Shape.TheVariants as shape
use Rattle.mini_model.specs.Tree.{Tree, Trees, node, none, ◌▸◌, count, shape_of, child_or_absent, absent, listed, children, identifier, expression_statement, node_count, node_counts}
use Rattle.mini_model.specs.Paths.{append}
use Rattle.mini_model.specs.Weight.{same_text}
use Rattle.mini_kept.proofs.SameScopes.{same_texts, text_itself}
use Rattle.mini_node.specs.Children.{part, with_part, with_child, without, is_bare, names_of, first_children, rest_children}
use Rattle.mini_node.specs.Lends.{with_children}
use Rattle.mini_node.specs.Kinds.{is_absent_part, is_identifier, is_named_leaf, is_listed, is_sequence, is_expression_statement, same_symbol}
use Rattle.mini_node.specs.Made.{listed_is, absent_is, sequence_is, expression_statement_is, identifier_is}
use Rattle.mini_node.specs.Walks.{from_first, next_child, no_rest, append_one}
use Rattle.mini_rows.specs.Lists.{of_parts, are_parts, sequence, for_loop, declaration, declares_nothing, resolved, binding, declarator, assigned, is_declarator_shape, is_bare_declarator, are_bare_declarators, Head, Return, Throw, If, Switch, For, with_head, Holder, Statement, Heading, Going, Declaring, Looping, holding, holds_well, is_plain_left, Beginning, Alone, Init, Before, begun, begun_without, begins_well, Row70, Each, EachIn, EachOf, each_loop, bare_var, Row69, EntersRow, InList}
use Rattle.mini_stmt.specs.JoinHeads.{is_for, is_for_in, has_head}
use Rattle.mini_stmt.specs.JoinVars.{declared_kind, declares}
use Rattle.mini_stmt.specs.JoinGuards.{last_after, JoinsOthers}
use Rattle.mini_rows.specs.Switches.{Switches}
use Rattle.mini_stmt.specs.MinimizeStatements.{Changes, Moves, is_quiet, reversed, StretchRests, MinimizesList}
use Rattle.mini_stmt.specs.MinimizeStatements as list
use Rattle.mini_stmt.specs.JoinGuards as guards
use Rattle.mini_stmt.specs.JoinAssignments.{is_led, goes_over, begins_with_one, is_kind, declares_first, loops_first, holds_plainly, held_plainly, with_plainly, holds, held, with_first, with_held, is_assign_shape, assigns_name, is_binding_shape, one_name, declares_bare, takes_name, TakesAt, leaves_parts, holds_sequence, holds_alone, beginning_of, assigns_first, may_enter, enters, EntersAt, other_parts, left_alone, left_of, with_value, Entered, is_for_of, takes_head, declares_one, heads, joins_var, heads_last, enters_first, are_entered, enters_last, EntersLast, PutEntered, AllEntered, Rests, JoinsAssignments}
use Rattle.mini_stmt.proofs.Parts.{not_true, below}
use Rattle.mini_stmt.proofs.Follows.{head_by, for_is, for_in_is, with_other, declared_is, declares_is}
use Rattle.mini_stmt.proofs.Guards.{last_pushed, last_is, apart_rests, all_rest}
use Rattle.mini_stmt.proofs.Quiet.{quiet_rests}
use Rattle.mini_stmt.proofs.Stepping.{neighbours_in, steps_on}

pub both : (a b : Bool) → a ≡ true → b ≡ true → a && b ≡ true
both true b e f = f
both false b e f = absurd (true≢false (sym e))

or_cases : (a b : Bool) → a || b ≡ true → (a ≡ true) ⊎ (b ≡ true)
or_cases true b h = inl refl
or_cases false b h = inr h

or_true : (b : Bool) → b || true ≡ true
or_true true = refl
or_true false = refl

-- ---- an assignment, and a declarator of the name

assignment_is : (a : Tree) → is_assign_shape (shape_of a) && is_bare a 2 ≡ true → a ≡ node (shape.AssignmentExpression Assign) [] 0 (part a 0 ▸ (part a 1 ▸ none))
assignment_is (node (shape.AssignmentExpression Assign) [] zero (x ▸ (b ▸ none))) e = refl
assignment_is a e = absurd (true≢false (sym e))

-- `x = b` by its parts
pub record Assigns (a : Tree) : Type 0 where
  pub is : a ≡ node (shape.AssignmentExpression Assign) [] 0 (part a 0 ▸ (part a 1 ▸ none))
  pub target : is_identifier (part a 0) ≡ true
  pub plain : declares_nothing (part a 1) ≡ true

pub assigns_by : (a : Tree) → assigns_name a ≡ true → Assigns a
assigns_by a e =
    let (x, r) = and_parts (is_assign_shape (shape_of a)) (is_bare a 2 && (is_identifier (part a 0) && declares_nothing (part a 1))) e in
    let (y, s) = and_parts (is_bare a 2) (is_identifier (part a 0) && declares_nothing (part a 1)) r in
    let (z, w) = and_parts (is_identifier (part a 0)) (declares_nothing (part a 1)) s in
    record { is = assignment_is a (both (is_assign_shape (shape_of a)) (is_bare a 2) x y); target = z; plain = w }

declarator_is : (d : Tree) → is_declarator_shape (shape_of d) && is_bare d 2 ≡ true → d ≡ declarator (part d 0) (part d 1)
declarator_is (node shape.VariableDeclarator [] zero (a ▸ (b ▸ none))) e = refl
declarator_is d e = absurd (true≢false (sym e))

binding_is : (t : Tree) → is_binding_shape (shape_of t) && is_named_leaf t ≡ true → (x : Name) × (t ≡ binding x)
binding_is (node shape.BindingIdentifier (x ∷ []) zero none) e = (x, refl)
binding_is t e = absurd (true≢false (sym e))

symbols_are : (a b : Option SymbolId) → same_symbol a b ≡ true → (k : ℕ) × ((a ≡ Some (record { 0 = k })) × (b ≡ Some (record { 0 = k })))
symbols_are (Some a) (Some b) e = (a.0, (refl, ap (λ n. Some (record { 0 = n })) (sym (eqb-true a.0 b.0 e))))
symbols_are (Some a) None e = absurd (true≢false (sym e))
symbols_are None b e = absurd (true≢false (sym e))

name_with : (x : Name) (o : Option SymbolId) → Name
name_with x o = record { spelling = x.spelling; symbol = o }

-- a declarator and the name that is assigned to, which is its own
pub record Bound (d x : Tree) : Type 0 where
  pub name : Name
  pub symbol : ℕ
  pub is : d ≡ declarator (binding (resolved name.spelling symbol)) absent
  pub target_is : x ≡ identifier (resolved name.spelling symbol)

bound_names : (d x : Tree) (y z : Name) → d ≡ declarator (binding z) absent → x ≡ identifier y → same_symbol z.symbol y.symbol && same_text z.spelling y.spelling ≡ true → Bound d x
unfolding name_with
bound_names d x y z e f g =
    let (one, alike) = and_parts (same_symbol z.symbol y.symbol) (same_text z.spelling y.spelling) g in
    let (k, (p, q)) = symbols_are z.symbol y.symbol one in
    let spelled : y.spelling ≡ z.spelling = sym (same_texts z.spelling y.spelling alike) in
    record {
      name = z;
      symbol = k;
      is = e ∙ ap (λ o. declarator (binding (name_with z o)) absent) p;
      target_is = f ∙ ap (λ o. identifier (name_with y o)) q ∙ ap (λ s. identifier (resolved s k)) spelled;
    }

pub bound_by : (d x : Tree) → is_identifier x ≡ true → declares_bare d x ≡ true → Bound d x
bound_by d x i e =
    let id = part d 0 in
    let names = one_name (names_of id) (names_of x) && is_absent_part (part d 1) in
    let named = is_binding_shape (shape_of id) && is_named_leaf id in
    let (a, r) = and_parts (is_declarator_shape (shape_of d)) (is_bare d 2 && (named && names)) e in
    let (b, s) = and_parts (is_bare d 2) (named && names) r in
    let (c, q) = and_parts named names s in
    let (same, gone) = and_parts (one_name (names_of id) (names_of x)) (is_absent_part (part d 1)) q in
    let (z, z_is) = binding_is id c in
    let (y, y_is) = identifier_is x i in
    bound_names d x y z
    (declarator_is d (both (is_declarator_shape (shape_of d)) (is_bare d 2) a b) ∙ (λ j. declarator (z_is j) (absent_is (part d 1) gone j)))
    y_is
    ((λ j. one_name (names_of (sym z_is j)) (names_of (sym y_is j))) ∙ same)

-- ---- what a statement begins with

pub record Begins (u : Tree) : Type 0 where
  pub beginning : Beginning
  pub well : begins_well beginning ≡ true
  pub whole : u ≡ begun beginning (beginning_of u)
  pub left : left_of u ≡ begun_without beginning

-- a statement or a head
record Led (u : Tree) : Type 0 where
  holder : Holder
  well : holds_well holder ≡ true
  is : u ≡ holding holder (part u 0)
  other : (e : Tree) → with_part u 0 e ≡ holding holder e

led_by : (u : Tree) → is_led u ≡ true → Led u
led_by u h = ⊎_elim
    (λ e. let is = expression_statement_is u e in record { holder = Statement; well = refl; is = is; other = λ x. ap (λ v. with_part v 0 x) is })
    (λ e. let headed = head_by u e in record { holder = Heading headed.head; well = refl; is = headed.is; other = λ x. with_other u headed.head (part u 0) x headed.is })
    (or_cases (is_expression_statement u) (has_head u) h)

-- a loop by its parts
record Loops (u : Tree) : Type 0 where
  each : Each
  is : u ≡ each_loop each (part u 0) (part u 1) (part u 2)
  other : (e : Tree) → with_part u 1 e ≡ each_loop each (part u 0) e (part u 2)
  plain : is_plain_left (part u 0) ≡ true

for_of_is : (t : Tree) → is_for_of t ≡ true → t ≡ each_loop EachOf (part t 0) (part t 1) (part t 2)
for_of_is (node shape.ForOfStatement [] zero (a ▸ (b ▸ (c ▸ none)))) e = refl
for_of_is t e = absurd (cc e)

loops_by : (u : Tree) → goes_over u ≡ true → Loops u
loops_by u h =
    let (loop, plain) = and_parts (is_for_in u || is_for_of u) (is_plain_left (part u 0)) h in
    ⊎_elim (λ e. let is = for_in_is u e in record { each = EachIn; is = is; other = λ x. ap (λ v. with_part v 1 x) is; plain = plain })
    (λ e. let is = for_of_is u e in record { each = EachOf; is = is; other = λ x. ap (λ v. with_part v 1 x) is; plain = plain }) (or_cases (is_for_in u) (is_for_of u) loop)

-- a declaration by its first declarator
record Starts (u : Tree) : Type 0 where
  kind : VariableDeclarationKind
  id : Tree
  others : Trees
  is : u ≡ declaration kind (declarator id (part (part (part u 0) 0) 1) ▸ others)

starts_by : (u : Tree) → declares_first u ≡ true → Starts u
starts_by u h =
    let (declared, one) = and_parts (is_kind (declared_kind u)) (begins_with_one (children (part u 0))) h in
    of_kind (declared_kind u) refl declared (children (part u 0)) refl one
  where
    of_list : (k : VariableDeclarationKind) → declared_kind u ≡ Some k → (ts : Trees) → children (part u 0) ≡ ts → begins_with_one ts ≡ true → Starts u
    of_list k f none g e = absurd (true≢false (sym e))
    of_list k f (d ▸ ds) g e = record {
      kind = k;
      id = part d 0;
      others = ds;
      is = declared_is u k f ∙ ap (declaration k) (g ∙ ap (λ t. t ▸ ds) (declarator_is d e)) ∙ ap (λ ts. declaration k (declarator (part d 0) (part (child_or_absent ts 0) 1) ▸ ds)) (sym g);
    }

    of_kind : (o : Option VariableDeclarationKind) → declared_kind u ≡ o → is_kind o ≡ true → (ts : Trees) → children (part u 0) ≡ ts → begins_with_one ts ≡ true → Starts u
    of_kind (Some k) f j ts g e = of_list k f ts g e
    of_kind None f j ts g e = absurd (true≢false (sym j))

-- whatever holds an expression, other than a `var` in the head of a `for`
record HeldPlainly (u : Tree) : Type 0 where
  holder : Holder
  well : holds_well holder ≡ true
  is : u ≡ holding holder (held_plainly u)
  other : (e : Tree) → with_plainly u e ≡ holding holder e

plainly_by : (u : Tree) → holds_plainly u ≡ true → HeldPlainly u
plainly_by u h = by (is_led u) (goes_over u) (declares_first u) refl refl refl h
  where
    by : (a b c : Bool) → is_led u ≡ a → goes_over u ≡ b → declares_first u ≡ c → a || (b || c) ≡ true → HeldPlainly u
    by true b c e f g h =
        let l = led_by u e in record {
          holder = l.holder;
          well = l.well;
          is = l.is ∙ ap (holding l.holder) (sym (ap (λ c. if c then part u 0 else (if goes_over u then part u 1 else (if declares_first u then part (part (part u 0) 0) 1 else u))) e));
          other = λ x. ap (λ c. if c then with_part u 0 x else (if goes_over u then with_part u 1 x else with_first u x)) e ∙ l.other x;
        }
    by false true c e f g h =
        let l = loops_by u f in record {
          holder = Going l.each (part u 0) (part u 2);
          well = l.plain;
          is =
              l.is
              ∙ ap (λ t. each_loop l.each (part u 0) t (part u 2))
              (sym (ap (λ c. if c then part u 0 else (if goes_over u then part u 1 else (if declares_first u then part (part (part u 0) 0) 1 else u))) e ∙ ap (λ c. if c then part u 1 else (if declares_first u then part (part (part u 0) 0) 1 else u)) f));
          other = λ x. ap (λ c. if c then with_part u 0 x else (if goes_over u then with_part u 1 x else with_first u x)) e ∙ ap (λ c. if c then with_part u 1 x else with_first u x) f ∙ l.other x;
        }
    by false false true e f g h =
        let l = starts_by u g in record {
          holder = Declaring l.kind l.id l.others;
          well = refl;
          is =
              l.is
              ∙ ap (λ t. declaration l.kind (declarator l.id t ▸ l.others))
              (sym (ap (λ c. if c then part u 0 else (if goes_over u then part u 1 else (if declares_first u then part (part (part u 0) 0) 1 else u))) e ∙ ap (λ c. if c then part u 1 else (if declares_first u then part (part (part u 0) 0) 1 else u)) f ∙ ap (λ c. if c then part (part (part u 0) 0) 1 else u) g));
          other = λ x. ap (λ c. if c then with_part u 0 x else (if goes_over u then with_part u 1 x else with_first u x)) e ∙ ap (λ c. if c then with_part u 1 x else with_first u x) f ∙ ap (λ v. with_first v x) l.is;
        }
    by false false false e f g h = absurd (true≢false (sym h))

-- a `var` in the head of a `for`
record Looped (u : Tree) : Type 0 where
  id : Tree
  others : Trees
  is : u ≡ for_loop (declaration Var (declarator id (part (part (part (part u 0) 0) 0) 1) ▸ others)) (part u 1) (part u 2) (part u 3)

looped_by : (u : Tree) → loops_first u ≡ true → Looped u
looped_by u h =
    let (loop, rest) = and_parts (is_for u) (declares Var (part u 0) && declares_first (part u 0)) h in
    let (var, one) = and_parts (declares Var (part u 0)) (declares_first (part u 0)) rest in
    let head = starts_by (part u 0) one in
    let d = declarator head.id (part (part (part (part u 0) 0) 0) 1) in
    let list : children (part (part u 0) 0) ≡ d ▸ head.others = ap (λ t. children (part t 0)) head.is in
    record { id = head.id; others = head.others; is = for_is u loop ∙ ap (λ t. for_loop t (part u 1) (part u 2) (part u 3)) (declares_is Var (part u 0) var ∙ ap (declaration Var) list) }

-- whichever holds an expression
record Held (u : Tree) : Type 0 where
  holder : Holder
  well : holds_well holder ≡ true
  is : u ≡ holding holder (held u)
  other : (e : Tree) → with_held u e ≡ holding holder e

held_by : (u : Tree) → holds u ≡ true → Held u
held_by u h = by (loops_first u) refl h
  where
    by : (b : Bool) → loops_first u ≡ b → b || holds_plainly u ≡ true → Held u
    by true e h =
        let l = looped_by u e in record {
          holder = Looping l.id l.others (part u 1) (part u 2) (part u 3);
          well = refl;
          is = l.is ∙ ap (λ t. for_loop (declaration Var (declarator l.id t ▸ l.others)) (part u 1) (part u 2) (part u 3)) (sym (ap (λ c. if c then part (part (part (part u 0) 0) 0) 1 else held_plainly u) e));
          other = λ x. ap (λ c. if c then with_part u 0 (with_first (part u 0) x) else with_plainly u x) e ∙ ap (λ v. with_part v 0 (with_first (part v 0) x)) l.is;
        }
    by false e h =
        let l = plainly_by u h in record {
          holder = l.holder;
          well = l.well;
          is = l.is ∙ ap (holding l.holder) (sym (ap (λ c. if c then part (part (part (part u 0) 0) 0) 1 else held_plainly u) e));
          other = λ x. ap (λ c. if c then with_part u 0 (with_first (part u 0) x) else with_plainly u x) e ∙ l.other x;
        }

-- what the calls are given
pub kind_there : (t : Tree) (o : Option VariableDeclarationKind) → o ≡ declared_kind t → is_there o ≡ true → 0 < count (children t)
kind_there t (Some k) e f = let is = ap (λ x. count (children x)) (declared_is t k (sym e)) in omega (arith, is)
kind_there t None e f = absurd (true≢false (sym f))

several_parts : (ts : Trees) → leaves_parts ts ≡ true → 1 < count ts
several_parts none e = absurd (true≢false (sym e))
several_parts (a ▸ none) e = absurd (true≢false (sym e))
several_parts (a ▸ (q ▸ qs)) e = omega arith

sequence_held : (u : Tree) → holds_sequence u ≡ true → 1 < count (children (part (held u) 0))
sequence_held u e = several_parts (children (part (held u) 0)) (and_parts (is_sequence (held u)) (leaves_parts (children (part (held u) 0))) (and_parts (holds u) (is_sequence (held u) && leaves_parts (children (part (held u) 0))) e).1).1

pub looped_parts : (u : Tree) → holds_sequence u ≡ true → loops_first u ≡ true → 1 < count (children (part (part (part (part (part u 0) 0) 0) 1) 0))
looped_parts u e l = subst (λ t. 1 < count (children (part t 0))) (ap (λ c. if c then part (part (part (part u 0) 0) 0) 1 else held_plainly u) l) (sequence_held u e)

plain_is : (u : Tree) → loops_first u ≡ false → held u ≡ held_plainly u
plain_is u n = ap (λ c. if c then part (part (part (part u 0) 0) 0) 1 else held_plainly u) n

pub led_parts : (u : Tree) → holds_sequence u ≡ true → loops_first u ≡ false → is_led u ≡ true → 1 < count (children (part (part u 0) 0))
led_parts u e n l = subst (λ t. 1 < count (children (part t 0))) (plain_is u n ∙ ap (λ c. if c then part u 0 else (if goes_over u then part u 1 else (if declares_first u then part (part (part u 0) 0) 1 else u))) l) (sequence_held u e)

pub record FirstHeld (u : Tree) : Type 0 where
  pub some : 0 < count (children u)
  pub declarator : 1 < count (children (part (part u 0) 0))
  pub parts : 1 < count (children (part (part (part (part u 0) 0) 1) 0))

pub first_held : (u : Tree) → holds_sequence u ≡ true → loops_first u ≡ false → is_led u ≡ false → goes_over u ≡ false → FirstHeld u
first_held u e n l g =
    let there = (and_parts (holds u) (is_sequence (held u) && leaves_parts (children (part (held u) 0))) e).0 in
    let starts = sym (ap (λ b. b || holds_plainly u) n ∙ ap (λ b. b || (goes_over u || declares_first u)) l ∙ ap (λ b. b || declares_first u) g) ∙ there in
    let is = (starts_by u starts).is in
    let here : held u ≡ part (part (part u 0) 0) 1 =
    plain_is u n ∙ ap (λ c. if c then part u 0 else (if goes_over u then part u 1 else (if declares_first u then part (part (part u 0) 0) 1 else u))) l ∙ ap (λ c. if c then part u 1 else (if declares_first u then part (part (part u 0) 0) 1 else u)) g
    ∙ ap (λ c. if c then part (part (part u 0) 0) 1 else u) starts in
    let children_is = ap (λ t. count (children t)) is in
    let declarator_is = ap (λ t. count (children (part (part t 0) 0))) is in
    record { some = omega (arith, children_is); declarator = omega (arith, declarator_is); parts = subst (λ t. 1 < count (children (part t 0))) here (sequence_held u e) }

-- the parts of its sequence
several : (u : Tree) (h : Held u) → held u ≡ sequence (children (part (held u) 0)) → holds_sequence u ≡ true → (ts : Trees) → children (part (held u) 0) ≡ ts → leaves_parts ts ≡ true → Begins u
several u h s b none e f = absurd (true≢false (sym f))
several u h s b (a ▸ none) e f = absurd (true≢false (sym f))
several u h s b (a ▸ (q ▸ qs)) e f =
    let first : beginning_of u ≡ a = ap (λ c. if c then part (part (held u) 0) 0 else part u 0) b ∙ ap (λ x. child_or_absent x 0) e in
    record {
      beginning = Before h.holder q qs;
      well = both (holds_well h.holder) (are_parts q qs) h.well f;
      whole = h.is ∙ ap (holding h.holder) (s ∙ ap sequence e) ∙ ap (λ x. holding h.holder (sequence (x ▸ (q ▸ qs)))) (sym first);
      left = ap (λ c. if c then with_held u (other_parts (children (part (held u) 0))) ▸ none else left_alone u) b ∙ ap (λ x. x ▸ none) (h.other (other_parts (children (part (held u) 0))) ∙ ap (λ x. holding h.holder (other_parts x)) e);
    }

sequence_begins : (u : Tree) → holds_sequence u ≡ true → Begins u
sequence_begins u e =
    let (there, r) = and_parts (holds u) (is_sequence (held u) && leaves_parts (children (part (held u) 0))) e in
    let (is, leaves) = and_parts (is_sequence (held u)) (leaves_parts (children (part (held u) 0))) r in
    several u (held_by u there) (sequence_is (held u) is) e (children (part (held u) 0)) refl leaves

alone_begins : (u : Tree) → holds_sequence u ≡ false → holds_alone u ≡ true → Begins u
alone_begins u s h = by (is_expression_statement u) refl h
  where
    first : beginning_of u ≡ part u 0
    first = ap (λ c. if c then part (part (held u) 0) 0 else part u 0) s

    rest : left_of u ≡ left_alone u
    rest = ap (λ c. if c then with_held u (other_parts (children (part (held u) 0))) ▸ none else left_alone u) s

    by : (b : Bool) → is_expression_statement u ≡ b → b || is_for u ≡ true → Begins u
    by true e g = record {
      beginning = Alone;
      well = refl;
      whole = expression_statement_is u e ∙ ap expression_statement (sym first);
      left = rest ∙ ap (λ c. if c then none else with_part u 0 absent ▸ none) e;
    }
    by false e g =
        let loop = for_is u g in
        record {
          beginning = Init (part u 1) (part u 2) (part u 3);
          well = refl;
          whole = loop ∙ ap (λ i. for_loop i (part u 1) (part u 2) (part u 3)) (sym first);
          left = rest ∙ ap (λ c. if c then none else with_part u 0 absent ▸ none) e ∙ ap (λ v. with_part v 0 absent ▸ none) loop;
        }

pub begins_by : (u : Tree) → holds_sequence u || holds_alone u ≡ true → Begins u
begins_by u h = by (holds_sequence u) refl h
  where
    by : (b : Bool) → holds_sequence u ≡ b → b || holds_alone u ≡ true → Begins u
    by true e g = sequence_begins u e
    by false e g = alone_begins u e g

-- ---- the row

split_at : (ts : Trees) (i : ℕ) → i < count ts → ts ≡ append (first_children i ts) (child_or_absent ts i ▸ rest_children (suc i) ts)
split_at none i h = absurd (omega (arith, h))
split_at (t ▸ none) zero h = refl
split_at (t ▸ (u ▸ ts)) zero h = refl
split_at (t ▸ ts) (suc i) h = ap (λ us. t ▸ us) (split_at ts i (omega (arith, h)))

with_at : (ts : Trees) (i : ℕ) (x : Tree) → i < count ts → with_child ts i x ≡ append (first_children i ts) (x ▸ rest_children (suc i) ts)
with_at none i x h = absurd (omega (arith, h))
with_at (t ▸ none) zero x h = refl
with_at (t ▸ (u ▸ ts)) zero x h = refl
with_at (t ▸ ts) (suc i) x h = ap (λ us. t ▸ us) (with_at ts i x (omega (arith, h)))

pub enters_row : (t u : Tree) (i : ℕ) → EntersAt t u (Some i) → Entered t u (with_value t i (part (beginning_of u) 1)) (left_of u)
enters_row t u i m =
    let ts = children (part t 0) in
    let d = child_or_absent ts i in
    let value = part (beginning_of u) 1 in
    let (var, first) = and_parts (declares Var t) (assigns_first u) m.0 in
    let (whole, assigns) = and_parts (holds_sequence u || holds_alone u) (assigns_name (beginning_of u)) first in
    let begins = begins_by u whole in
    let a = assigns_by (beginning_of u) assigns in
    let (within, declared, others) = m.1 in
    let bound = bound_by d (part (beginning_of u) 0) a.target declared in
    let made : assigned (resolved bound.name.spelling bound.symbol) value ≡ beginning_of u = sym (a.is ∙ ap (λ x. node (shape.AssignmentExpression Assign) [] 0 (x ▸ (value ▸ none))) bound.target_is) in
    record {
      ds = first_children i ts;
      spelling = bound.name.spelling;
      symbol = bound.symbol;
      es = rest_children (suc i) ts;
      value = value;
      beginning = begins.beginning;
      bare = others;
      plain = a.plain;
      parts = begins.well;
      shape =
          λ j. (declares_is Var t var ∙ ap (declaration Var) (split_at ts i within) ∙ ap (λ x. declaration Var (append (first_children i ts) (x ▸ rest_children (suc i) ts))) bound.is) j
          ▸ ((begins.whole ∙ ap (begun begins.beginning) (sym made)) j ▸ none);
      written =
          λ j. (ap (declaration Var) (with_at ts i (with_part d 1 value) within) ∙ ap (λ x. declaration Var (append (first_children i ts) (with_part x 1 value ▸ rest_children (suc i) ts))) bound.is) j
          ▸ begins.left j;
    }

-- ---- a row reads what the tests tell

record Pair (a : Trees) : Type 0 where
  first : Tree
  next : Tree
  is : a ≡ first ▸ (next ▸ none)
  met : enters first next ≡ true

assigned_tells : (x : Name) (value : Tree) → declares_nothing value ≡ true → assigns_name (assigned x value) ≡ true
assigned_tells x value h = h

head_has : (h : Head) (e : Tree) → has_head (with_head h e) ≡ true
head_has Return e = refl
head_has Throw e = refl
head_has (If u v) e = refl
head_has (Switch cases) e = refl
head_has (For u v w) e = refl

head_first : (h : Head) (e : Tree) → part (with_head h e) 0 ≡ e
head_first Return e = refl
head_first Throw e = refl
head_first (If u v) e = refl
head_first (Switch cases) e = refl
head_first (For u v w) e = refl

-- an expression of parts is no `var`
holder_plain : (h : Holder) (ts : Trees) → loops_first (holding h (sequence ts)) ≡ false → holds_well h ≡ true → (holds_plainly (holding h (sequence ts)) ≡ true) × (held_plainly (holding h (sequence ts)) ≡ sequence ts)
holder_plain Statement ts n w = (refl, refl)
holder_plain (Heading h) ts n w =
    let e = sequence ts in
    let u = with_head h e in (
      ap (λ b. (is_expression_statement u || b) || (goes_over u || declares_first u)) (head_has h e) ∙ ap (λ b. b || (goes_over u || declares_first u)) (or_true (is_expression_statement u)),
      ap (λ b. if is_expression_statement u || b then part u 0 else (if goes_over u then part u 1 else (if declares_first u then part (part (part u 0) 0) 1 else u))) (head_has h e)
          ∙ ap (λ b. if b then part u 0 else (if goes_over u then part u 1 else (if declares_first u then part (part (part u 0) 0) 1 else u))) (or_true (is_expression_statement u)) ∙ head_first h e,
    )
holder_plain (Going EachIn l x) ts n w =
    let e = sequence ts in
    let u = each_loop EachIn l e x in
    (ap (λ b. b || declares_first u) w, ap (λ b. if b then e else (if declares_first u then part (part (part u 0) 0) 1 else u)) w)
holder_plain (Going EachOf l x) ts n w =
    let e = sequence ts in
    let u = each_loop EachOf l e x in
    (ap (λ b. b || declares_first u) w, ap (λ b. if b then e else (if declares_first u then part (part (part u 0) 0) 1 else u)) w)
holder_plain (Declaring k x ds) ts n w = (refl, refl)
holder_plain (Looping x ds u v b) ts n w = absurd (true≢false n)

-- whether it is a `for` whose head is a `var`
is_looping : Holder → Bool
is_looping (Looping x ds u v w) = true
is_looping h = false

holder_loops : (h : Holder) (ts : Trees) → loops_first (holding h (sequence ts)) ≡ is_looping h
unfolding is_looping
holder_loops Statement ts = refl
holder_loops (Heading Return) ts = refl
holder_loops (Heading Throw) ts = refl
holder_loops (Heading (If u v)) ts = refl
holder_loops (Heading (Switch cases)) ts = refl
holder_loops (Heading (For u v w)) ts = refl
holder_loops (Going EachIn l w) ts = refl
holder_loops (Going EachOf l w) ts = refl
holder_loops (Declaring kind x ds) ts = refl
holder_loops (Looping x ds u v w) ts = refl

-- it holds the sequence
record FoundThere (u e : Tree) : Type 0 where
  there : holds u ≡ true
  same : held u ≡ e

holder_holds : (h : Holder) (ts : Trees) → holds_well h ≡ true → FoundThere (holding h (sequence ts)) (sequence ts)
unfolding is_looping
holder_holds h ts k = by (is_looping h) refl
  where
    looped : (h : Holder) → is_looping h ≡ true → FoundThere (holding h (sequence ts)) (sequence ts)
    looped (Looping x ds u v w) e = record { there = refl; same = refl }
    looped h e = absurd (true≢false (sym e))

    by : (b : Bool) → is_looping h ≡ b → FoundThere (holding h (sequence ts)) (sequence ts)
    by true e = looped h e
    by false e =
        let u = holding h (sequence ts) in
        let plain = holder_loops h ts ∙ e in
        let (there, same) = holder_plain h ts plain k in
        record { there = ap (λ b. b || holds_plainly u) plain ∙ there; same = ap (λ c. if c then part (part (part (part u 0) 0) 0) 1 else held_plainly u) plain ∙ same }

holds_tells : (h : Holder) (a q : Tree) (qs : Trees) → holds_well h ≡ true → are_parts q qs ≡ true → holds_sequence (holding h (sequence (a ▸ (q ▸ qs)))) ≡ true
holds_tells h a q qs w k =
    let e = sequence (a ▸ (q ▸ qs)) in
    let found = holder_holds h (a ▸ (q ▸ qs)) w in
    ap (λ b. b && (is_sequence (held (holding h e)) && leaves_parts (children (part (held (holding h e)) 0)))) found.there
    ∙ ap (λ x. is_sequence x && leaves_parts (children (part x 0))) found.same ∙ k

-- it is told, and so is what it begins with
pub record Told (b : Beginning) (a : Tree) : Type 0 where
  pub holds : holds_sequence (begun b a) || holds_alone (begun b a) ≡ true
  pub first : beginning_of (begun b a) ≡ a

pub told_by : (b : Beginning) (x : Name) (value : Tree) → begins_well b ≡ true → Told b (assigned x value)
told_by Alone x value k = record { holds = refl; first = refl }
told_by (Init u v w) x value k = record { holds = refl; first = refl }
told_by (Before h q qs) x value k =
    let e = sequence (assigned x value ▸ (q ▸ qs)) in
    let (well, parts) = and_parts (holds_well h) (are_parts q qs) k in
    let told = holds_tells h (assigned x value) q qs well parts in
    record {
      holds = ap (λ b. b || holds_alone (holding h e)) told;
      first = ap (λ c. if c then part (part (held (holding h e)) 0) 0 else part (holding h e) 0) told ∙ ap (λ y. part (part y 0) 0) (holder_holds h (assigned x value ▸ (q ▸ qs)) well).same;
    }

-- a declarator of a name is found by the name
pub declared_found : (s : List ℕ) (k : ℕ) → declares_bare (declarator (binding (resolved s k)) absent) (identifier (resolved s k)) ≡ true
declared_found s k = λ j. (eq-eqb k k refl j && text_itself s j) && true

name_taken : (s : List ℕ) (k : ℕ) (ds es : Trees) → are_bare_declarators es ≡ true → takes_name (identifier (resolved s k)) (append ds (declarator (binding (resolved s k)) absent ▸ es)) ≡ true
name_taken s k none es h = ap (λ b. (b && are_bare_declarators es) || takes_name (identifier (resolved s k)) es) (declared_found s k) ∙ ap (λ b. b || takes_name (identifier (resolved s k)) es) h
name_taken s k (d ▸ ds) es h =
    let rest = append ds (declarator (binding (resolved s k)) absent ▸ es) in
    ap (λ b. (declares_bare d (identifier (resolved s k)) && are_bare_declarators rest) || b) (name_taken s k ds es h) ∙ or_true (declares_bare d (identifier (resolved s k)) && are_bare_declarators rest)

row_enters : (a b : Trees) → Row70 a b → Pair a
row_enters a b r =
    let old = declaration Var (append r.ds (declarator (binding (resolved r.spelling r.symbol)) absent ▸ r.es)) in
    let x = resolved r.spelling r.symbol in
    let u = begun r.beginning (assigned x r.value) in
    let told = told_by r.beginning x r.value r.parts in
    record {
      first = old;
      next = u;
      is = r.shape;
      met =
          both (declares Var old && assigns_first u) (takes_name (part (beginning_of u) 0) (children (part old 0)))
          (both (holds_sequence u || holds_alone u) (assigns_name (beginning_of u)) told.holds (ap assigns_name told.first ∙ assigned_tells x r.value r.plain))
          (ap (λ v. takes_name (part v 0) (children (part old 0))) told.first ∙ name_taken r.spelling r.symbol r.ds r.es r.bare);
    }

-- ---- a `var` that goes into the head of a loop

-- its one declarator
one_declarator : (x : Tree) (ds : Trees) → declares_one x ds ≡ true → (d : Tree) × ((ds ≡ d ▸ none) × (declares_bare d x ≡ true))
one_declarator x (d ▸ none) e = (d, (refl, e))
one_declarator x none e = absurd (true≢false (sym e))
one_declarator x (d ▸ (c ▸ ds)) e = absurd (true≢false (sym e))

each_row : (k : Each) (t u : Tree) → declares Var t ≡ true → u ≡ each_loop k (part u 0) (part u 1) (part u 2) → is_identifier (part u 0) ≡ true → declares_one (part u 0) (children (part t 0)) ≡ true → Row69 k (t ▸ (u ▸ none)) (with_part u 0 t ▸ none)
each_row k t u e is i f =
    let (d, (one, declared)) = one_declarator (part u 0) (children (part t 0)) f in
    let bound = bound_by d (part u 0) i declared in
    let var : t ≡ bare_var (resolved bound.name.spelling bound.symbol) = declares_is Var t e ∙ ap (declaration Var) (one ∙ ap (λ x. x ▸ none) bound.is) in
    record {
      spelling = bound.name.spelling;
      symbol = bound.symbol;
      right = part u 1;
      body = part u 2;
      shape = λ j. var j ▸ ((is ∙ ap (λ x. each_loop k x (part u 1) (part u 2)) bound.target_is) j ▸ none);
      written = ap (λ v. v ▸ none) (over k is ∙ ap (λ x. each_loop k x (part u 1) (part u 2)) var);
    }
  where
    over : (c : Each) → u ≡ each_loop c (part u 0) (part u 1) (part u 2) → with_part u 0 t ≡ each_loop c t (part u 1) (part u 2)
    over EachIn s = ap (λ v. with_part v 0 t) s
    over EachOf s = ap (λ v. with_part v 0 t) s

heads_row : (o : Switches) (t u : Tree) → heads o t u ≡ true → EntersRow o (t ▸ (u ▸ none)) (with_part u 0 t ▸ none)
heads_row o t u e =
    let (var, r) = and_parts (declares Var t) (takes_head o u && (is_identifier (part u 0) && declares_one (part u 0) (children (part t 0)))) e in
    let (takes, q) = and_parts (takes_head o u) (is_identifier (part u 0) && declares_one (part u 0) (children (part t 0))) r in
    let (name, one) = and_parts (is_identifier (part u 0)) (declares_one (part u 0) (children (part t 0))) q in
    ⊎_elim (λ h. inr (inl (each_row EachOf t u var (for_of_is u h) name one)))
    (λ h. let (s, loop) = and_parts o.sequences (is_for_in u) h in inr (inr (s, each_row EachIn t u var (for_in_is u loop) name one))) (or_cases (is_for_of u) (o.sequences && is_for_in u) takes)

-- two that are joined
record Joined (o : Switches) (a : Trees) : Type 0 where
  first : Tree
  next : Tree
  is : a ≡ first ▸ (next ▸ none)
  met : joins_var o first next ≡ true

loop_taken : (o : Switches) (k : Each) (left right body : Tree) → (k ≡ EachIn → o.sequences ≡ true) → takes_head o (each_loop k left right body) ≡ true
loop_taken o EachIn left right body h = ap (λ b. b && true) (h refl)
loop_taken o EachOf left right body h = refl

loop_first : (k : Each) (left right body : Tree) → part (each_loop k left right body) 0 ≡ left
loop_first EachIn left right body = refl
loop_first EachOf left right body = refl

row_heads : (o : Switches) (k : Each) (a b : Trees) → (k ≡ EachIn → o.sequences ≡ true) → Row69 k a b → Joined o a
row_heads o k a b s r =
    let var = bare_var (resolved r.spelling r.symbol) in
    let x = identifier (resolved r.spelling r.symbol) in
    let u = each_loop k x r.right r.body in
    record {
      first = var;
      next = u;
      is = r.shape;
      met =
          ap (λ b. enters var u || b)
          (both (takes_head o u) (is_identifier (part u 0) && declares_one (part u 0) (children (part var 0))) (loop_taken o k x r.right r.body s)
          (ap (λ y. is_identifier y && declares_one y (children (part var 0))) (loop_first k x r.right r.body) ∙ declared_found r.spelling r.symbol))
          ∙ or_true (enters var u);
    }

row_joins : (o : Switches) (a b : Trees) → EntersRow o a b → Joined o a
row_joins o a b (inl r) = let p = row_enters a b r in record { first = p.first; next = p.next; is = p.is; met = ap (λ b. b || heads o p.first p.next) p.met }
row_joins o a b (inr (inl r)) = row_heads o EachOf a b (λ e. absurd (cc e)) r
row_joins o a b (inr (inr r)) = row_heads o EachIn a b (λ e. r.0) r.1

-- ---- a list

module _ (o : Switches) where
  enter_before : (t u : Tree) (after : Trees) (ts : Trees) → are_entered o (append ts (t ▸ (u ▸ after))) ≡ true → joins_var o t u ≡ false
  enter_before t u after none e = not_true (joins_var o t u) (and_parts (not (joins_var o t u)) (are_entered o (u ▸ after)) e).0
  enter_before t u after (c ▸ ts) e = enter_before t u after ts (and_parts (not (enters_first o (c ▸ append ts (t ▸ (u ▸ after))))) (are_entered o (append ts (t ▸ (u ▸ after)))) e).1

  entered_rest : (ts : Trees) → are_entered o ts ≡ true → (w : Tree) → InList (EntersRow o) (listed ts) w → ⊥
  entered_rest ts e w r =
      let m = row_joins o r.read r.put r.row in
      let is : ts ≡ append r.before (m.first ▸ (m.next ▸ r.after)) = ap children r.shape ∙ ap (λ a. append r.before (append a r.after)) m.is in
      true≢false (sym m.met ∙ enter_before m.first m.next r.after r.before (sym (ap (are_entered o) is) ∙ e))

pub entered_rests : (o : Switches) (ts : Trees) → are_entered o ts ≡ true → (p : Position) → Rests o p (listed ts)
entered_rests o ts e StatementList w r = entered_rest o ts e w r
entered_rests o ts e p w r = absurd r

-- ---- as the list goes on

pub entered_stops : (o : Switches) (ts : Trees) (i : ℕ) → i < count ts → enters_first o (rest_children i ts) ≡ true → are_entered o (rest_children i ts) ≡ are_entered o ts → false ≡ are_entered o ts
entered_stops o ts i h e inv =
    let next = next_child ts i h in
    let here : enters_first o (child_or_absent ts i ▸ rest_children (suc i) ts) ≡ true = sym (ap (enters_first o) next) ∙ e in
    sym (ap (λ b. not b && are_entered o (rest_children (suc i) ts)) here) ∙ sym (ap (are_entered o) next) ∙ inv

pub entered_goes_on : (o : Switches) (ts : Trees) (i : ℕ) → i < count ts → enters_first o (rest_children i ts) ≡ false → are_entered o (rest_children i ts) ≡ are_entered o ts → are_entered o (rest_children (i + 1) ts) ≡ are_entered o ts
entered_goes_on o ts i h e inv =
    let next = next_child ts i h in
    let other : i + 1 ≡ suc i = omega arith in
    let here : enters_first o (child_or_absent ts i ▸ rest_children (suc i) ts) ≡ false = sym (ap (enters_first o) next) ∙ e in
    ap (λ k. are_entered o (rest_children k ts)) other ∙ sym (ap (λ b. not b && are_entered o (rest_children (suc i) ts)) here) ∙ sym (ap (are_entered o) next) ∙ inv

pub entered_ends : (o : Switches) (ts : Trees) (i : ℕ) → count ts ≤ i → are_entered o (rest_children i ts) ≡ are_entered o ts → true ≡ are_entered o ts
entered_ends o ts i h inv = sym (ap (are_entered o) (no_rest ts i h)) ∙ inv

pub entered_start : (o : Switches) (ts : Trees) → are_entered o (rest_children 0 ts) ≡ are_entered o ts
entered_start o ts = ap (are_entered o) (from_first ts)

-- one of them and the next one
pub two_there : (o : Switches) (ts : Trees) (i : ℕ) → i + 1 < count ts → enters_first o (rest_children i ts) ≡ joins_var o (child_or_absent ts i) (child_or_absent ts (i + 1))
two_there o ts i h =
    let other : i + 1 ≡ suc i = omega arith in
    ap (enters_first o) (next_child ts i (omega (arith, h)) ∙ ap (λ r. child_or_absent ts i ▸ r) (next_child ts (suc i) (omega (arith, h)))) ∙ ap (λ k. joins_var o (child_or_absent ts i) (child_or_absent ts k)) (sym other)

pub one_there : (o : Switches) (ts : Trees) (i : ℕ) → i < count ts → count ts ≤ i + 1 → enters_first o (rest_children i ts) ≡ false
one_there o ts i h k = ap (enters_first o) (next_child ts i h ∙ ap (λ r. child_or_absent ts i ▸ r) (no_rest ts (suc i) (omega (arith, k))))

-- a place tells
place_tells : (x : Tree) (ts : Trees) (i : ℕ) → TakesAt x ts (Some i) → takes_name x ts ≡ true
place_tells x none i m = absurd (omega (arith, m.0))
place_tells x (d ▸ ds) zero m = ap (λ b. (b && are_bare_declarators ds) || takes_name x ds) m.1 ∙ ap (λ b. b || takes_name x ds) (ap are_bare_declarators (sym (from_first ds)) ∙ m.2)
place_tells x (d ▸ ds) (suc i) m = ap (λ b. (declares_bare d x && are_bare_declarators ds) || b) (place_tells x ds i (omega (arith, m.0), m.1, m.2)) ∙ or_true (declares_bare d x && are_bare_declarators ds)

abbrev is_some : Option ℕ → Bool
is_some (Some i) = true
is_some None = false

pub tells : (t u : Tree) (o : Option ℕ) → EntersAt t u o → (b : Bool) → b ≡ is_some o → b ≡ enters t u
tells t u (Some i) m b e = e ∙ sym (both (may_enter t u) (takes_name (part (beginning_of u) 0) (children (part t 0))) m.0 (place_tells (part (beginning_of u) 0) (children (part t 0)) i m.1))
tells t u None m b e = e ∙ sym m

pub may_not : (t u : Tree) → may_enter t u ≡ false → EntersAt t u None
may_not t u e = ap (λ b. b && takes_name (part (beginning_of u) 0) (children (part t 0))) e

pub may : (t u : Tree) (o : Option ℕ) → may_enter t u ≡ true → TakesAt (part (beginning_of u) 0) (children (part t 0)) o → EntersAt t u o
may t u (Some i) e m = (e, m)
may t u None e m = ap (λ b. b && takes_name (part (beginning_of u) 0) (children (part t 0))) e ∙ m

-- ---- the last declarator of a name

-- from a place on none has an initializer, and none is of the name
abbrev pub Passed : Tree → Trees → ℕ → Type 0
Passed x ts k = (are_bare_declarators (rest_children k ts) ≡ true) × (takes_name x (rest_children k ts) ≡ false)

module _ (x : Tree) where
  pub passed_start : (ts : Trees) (k : ℕ) → k ≡ count ts → Passed x ts k
  passed_start ts k e = let ends = no_rest ts k (omega (arith, e)) in (ap are_bare_declarators ends, ap (takes_name x) ends)

  pub passed_on : (ts : Trees) (i k : ℕ) → i < count ts → k ≡ suc i → is_bare_declarator (child_or_absent ts i) ≡ true → declares_bare (child_or_absent ts i) x ≡ false → Passed x ts k → Passed x ts i
  passed_on ts i k h e u l p =
      let next = next_child ts i h in
      let there = subst (Passed x ts) e p in
      (ap are_bare_declarators next ∙ ap (λ b. b && are_bare_declarators (rest_children (suc i) ts)) u ∙ there.0, ap (takes_name x) next ∙ ap (λ b. (b && are_bare_declarators (rest_children (suc i) ts)) || takes_name x (rest_children (suc i) ts)) l ∙ there.1)

  pub passed_found : (ts : Trees) (i k : ℕ) → i < count ts → k ≡ suc i → declares_bare (child_or_absent ts i) x ≡ true → Passed x ts k → TakesAt x ts (Some i)
  passed_found ts i k h e f p = (h, f, (subst (Passed x ts) e p).0)

  stop : (ts : Trees) (i : ℕ) → are_bare_declarators (rest_children i ts) ≡ false → takes_name x (rest_children i ts) ≡ false → (takes_name x ts ≡ false) × (are_bare_declarators ts ≡ false)
  stop none i u e = absurd (true≢false u)
  stop (t ▸ ts) zero u e = (e, u)
  stop (t ▸ ts) (suc i) u e =
      let (takes, bare) = stop ts i u e in
      (ap (λ b. (declares_bare t x && b) || takes_name x ts) bare ∙ ap (λ b. b || takes_name x ts) (never (declares_bare t x)) ∙ takes, ap (λ b. is_bare_declarator t && b) bare ∙ never (is_bare_declarator t))
    where
      never : (b : Bool) → b && false ≡ false
      never true = refl
      never false = refl

  pub passed_stops : (ts : Trees) (i k : ℕ) → i < count ts → k ≡ suc i → is_bare_declarator (child_or_absent ts i) ≡ false → declares_bare (child_or_absent ts i) x ≡ false → Passed x ts k → TakesAt x ts None
  passed_stops ts i k h e u l p =
      let next = next_child ts i h in
      let there = subst (Passed x ts) e p in
      (stop ts i (ap are_bare_declarators next ∙ ap (λ b. b && are_bare_declarators (rest_children (suc i) ts)) u) (ap (takes_name x) next ∙ ap (λ b. (b && are_bare_declarators (rest_children (suc i) ts)) || takes_name x (rest_children (suc i) ts)) l ∙ there.1)).0

  pub passed_all : (ts : Trees) (k : ℕ) → k ≡ 0 → Passed x ts k → TakesAt x ts None
  passed_all ts k e p = sym (ap (takes_name x) (from_first ts)) ∙ (subst (Passed x ts) e p).1

-- ---- a statement after the others

pub no_last : (ts : Trees) (u : Tree) → count ts ≡ 0 → EntersLast ts u None
no_last none u e = refl
no_last (t ▸ ts) u e = absurd (omega (arith, e))

pub last_enters : (ts : Trees) (u : Tree) (i : ℕ) (o : Option ℕ) → count ts ≡ i + 1 → EntersAt (child_or_absent ts i) u o → EntersLast ts u o
last_enters ts u i (Some j) e m = (omega (arith, e), subst (λ t. EntersAt t u (Some j)) (sym (last_is absent ts i e)) m)
last_enters ts u i None e m = ap (λ t. enters t u) (last_is absent ts i e) ∙ m

-- the last of them is that one
pub last_there : (before init : Trees) (last t : Tree) (i : ℕ) → EntersLast before t (Some i) → before ≡ append init (last ▸ none) → EntersAt last t (Some i)
last_there before init last t i m e = subst (λ x. EntersAt x t (Some i)) (ap (last_after absent) e ∙ last_pushed absent init last) m.1

module _ (o : Switches) where
  push_entered : (t : Tree) (ts : Trees) (x : Tree) → joins_var o (last_after t ts) x ≡ false → are_entered o (t ▸ ts) ≡ true → are_entered o (t ▸ append ts (x ▸ none)) ≡ true
  push_entered t none x e h = ap (λ b. not b && true) e
  push_entered t (u ▸ ts) x e h =
      let (here, rest) = and_parts (not (joins_var o t u)) (are_entered o (u ▸ ts)) h in
      ap (λ b. b && are_entered o (u ▸ append ts (x ▸ none))) here ∙ push_entered u ts x e rest

  entered_push : (ts : Trees) (x : Tree) → enters_last ts x ≡ false → heads_last o ts x ≡ false → are_entered o ts ≡ true → are_entered o (append ts (x ▸ none)) ≡ true
  entered_push none x e f h = refl
  entered_push (t ▸ ts) x e f h = push_entered t ts x (ap (λ b. b || heads o (last_after t ts) x) e ∙ f) h

  pub put_apart : (before : Trees) (t : Tree) (after : Trees) → enters_last before t ≡ false → heads_last o before t ≡ false → after ≡ append before (t ▸ none) → (rest : Trees) → PutEntered o before t rest after rest false
  put_apart before t after e h f rest = record {
    changes = ap (λ x. append x (reversed rest)) f ∙ append_one before t (reversed rest);
    entered = λ c k. ap (are_entered o) f ∙ entered_push before t e h k;
    smaller = let own = below t in omega (arith, own);
  }

  some_last : (ts : Trees) (u : Tree) → heads_last o ts u ≡ true → 0 < count ts
  some_last none u e = absurd (true≢false (sym e))
  some_last (t ▸ ts) u e = omega arith

  pub last_some : (ts : Trees) (u : Tree) → heads_last o ts u ≡ true → 0 < count ts
  last_some = some_last

  pub put_headed : (before init : Trees) (last t made : Tree) (after : Trees) → heads_last o before t ≡ true → before ≡ append init (last ▸ none) → made ≡ with_part t 0 last → after ≡ append init (made ▸ none) → (rest : Trees) → PutEntered o before t rest after rest true
  put_headed before init last t made after e f g h rest =
      let is = ap (last_after absent) f ∙ last_pushed absent init last in
      let row = heads_row o last t (sym (ap (λ l. heads o l t) is) ∙ e) in
      let put = h ∙ ap (λ x. append init (x ▸ none)) g in
      record {
        changes =
            subst (λ x. Changes o x (append after (reversed rest)) true) (sym (ap (λ x. append x (t ▸ reversed rest)) f ∙ append_one init last (t ▸ reversed rest)))
            (subst (λ x. Changes o (append init (last ▸ (t ▸ reversed rest))) x true) (sym (ap (λ x. append x (reversed rest)) put ∙ append_one init (with_part t 0 last) (reversed rest)))
            (steps_on o (append init (last ▸ (t ▸ reversed rest))) (append init (with_part t 0 last ▸ reversed rest)) (neighbours_in o init (last ▸ (t ▸ none)) (with_part t 0 last ▸ none) (reversed rest) (inr (inr row)))));
        entered = λ c. absurd (true≢false c);
        smaller = let own = below t in omega (arith, own);
      }

-- the last one, and no last one

pub heads_there : (o : Switches) (ts : Trees) (u : Tree) (i : ℕ) → count ts ≡ i + 1 → heads o (child_or_absent ts i) u ≡ heads_last o ts u
heads_there o ts u i e = ap (λ t. heads o t u) (sym (last_is absent ts i e))

pub no_heads : (o : Switches) (ts : Trees) (u : Tree) → count ts ≡ 0 → heads_last o ts u ≡ false
no_heads o none u e = refl
no_heads o (t ▸ ts) u e = absurd (omega (arith, e))

pub either_tells : (o : Switches) (t u : Tree) (p : Option ℕ) → EntersAt t u p → (a b : Bool) → a ≡ is_some p → b ≡ heads o t u → a || b ≡ joins_var o t u
either_tells o t u p m a b e f = (λ i. tells t u p m a e i || f i)

-- what is left is smaller

parts_smaller : (a q : Tree) (qs : Trees) → node_count (of_parts q qs) < node_count (sequence (a ▸ (q ▸ qs)))
parts_smaller a q none = omega arith
parts_smaller a q (c ▸ qs) = let own = below a in omega (arith, own)

holder_smaller : (h : Holder) (e d : Tree) → node_count e < node_count d → node_counts (holding h e ▸ none) < node_count (holding h d)
holder_smaller Statement e d k = omega (arith, k)
holder_smaller (Heading Return) e d k = omega (arith, k)
holder_smaller (Heading Throw) e d k = omega (arith, k)
holder_smaller (Heading (If u v)) e d k = omega (arith, k)
holder_smaller (Heading (Switch cases)) e d k = omega (arith, k)
holder_smaller (Heading (For u v w)) e d k = omega (arith, k)
holder_smaller (Going EachIn l w) e d k = omega (arith, k)
holder_smaller (Going EachOf l w) e d k = omega (arith, k)
holder_smaller (Declaring kind x ds) e d k = omega (arith, k)
holder_smaller (Looping x ds u v w) e d k = omega (arith, k)

begun_smaller : (b : Beginning) (x : Name) (value : Tree) → node_counts (begun_without b) < node_count (begun b (assigned x value))
begun_smaller Alone x value = omega arith
begun_smaller (Init u v w) x value = omega arith
begun_smaller (Before h q qs) x value = holder_smaller h (of_parts q qs) (sequence (assigned x value ▸ (q ▸ qs))) (parts_smaller (assigned x value) q qs)

left_smaller : (t u made : Tree) (left : Trees) → Entered t u made left → node_counts left < node_count u
left_smaller t u made left r =
    let small = begun_smaller r.beginning (resolved r.spelling r.symbol) r.value in
    let next = ap (λ ts. node_count (child_or_absent ts 1)) r.shape in
    let rest = ap (λ ts. node_counts (without ts 0)) r.written in
    omega (arith, small, next, rest)

pub put_entered : (o : Switches) (before init : Trees) (last t declared : Tree) (left rest after others : Trees) → before ≡ append init (last ▸ none) → Entered last t declared left → after ≡ append init (declared ▸ none) → reversed others ≡ append left (reversed rest) → node_counts others ≡ node_counts rest + node_counts left → PutEntered o before t rest after others true
put_entered o before init last t declared left rest after others e r f g h = record {
  changes =
      subst (λ x. Changes o x (append after (reversed others)) true) (sym (ap (λ x. append x (t ▸ reversed rest)) e ∙ append_one init last (t ▸ reversed rest)))
      (subst (λ x. Changes o (append init (last ▸ (t ▸ reversed rest))) x true) (sym (ap (λ x. append x (reversed others)) f ∙ append_one init declared (reversed others) ∙ ap (λ x. append init (declared ▸ x)) g))
      (steps_on o (append init (last ▸ (t ▸ reversed rest))) (append init (declared ▸ append left (reversed rest))) (neighbours_in o init (last ▸ (t ▸ none)) (declared ▸ left) (reversed rest) (inr (inr (inl r))))));
  entered = λ c. absurd (true≢false c);
  smaller = let small = left_smaller last t declared left r in omega (arith, small, h);
}

-- ---- the node

list_entered : (o : Switches) (ts us : Trees) (b : Bool) → AllEntered o ts us b → JoinsAssignments o (listed ts) (listed us) b
list_entered o ts us true m = m.changes
list_entered o ts us false m = let same = m.changes in (ap listed same, entered_rests o ts (sym (ap (are_entered o) same) ∙ m.entered refl) StatementList)

pub node_entered : (o : Switches) (t : Tree) (us : Trees) (r : Result Bool OutOfMemory) → is_listed t ≡ true → IfOk r (λ b. AllEntered o (children t) us b) → IfOk r (λ b. JoinsAssignments o t (with_children t us) b)
node_entered o t us (Err e) l m = m
node_entered o t us (Ok b) l m =
    let is = listed_is t l in
    subst (λ x. JoinsAssignments o x (with_children t us) b) (sym is) (subst (λ x. JoinsAssignments o (listed (children t)) x b) (sym (ap (λ x. with_children x us) is)) (list_entered o (children t) us b m))

pub not_entered : (o : Switches) (t : Tree) → is_listed t ≡ true → are_entered o (children t) ≡ true → JoinsAssignments o t t false
not_entered o t l e = (refl, subst (Rests o StatementList) (sym (listed_is t l)) (entered_rests o (children t) e StatementList))

pub no_list : (o : Switches) (t : Tree) → is_listed t ≡ false → JoinsAssignments o t t false
no_list o t l = (refl, λ w r. absurd (true≢false (sym (ap is_listed r.shape) ∙ l)))

-- and then the other rows
pub assignments_first : (o : Switches) (t u : Tree) (b : Bool) → b ≡ true → JoinsAssignments o t u b → MinimizesList o t u true
assignments_first o t u b e m = subst (λ c. JoinsAssignments o t u c) e m

others_then : (o : Switches) (t u v : Tree) (a b : Bool) → a ≡ false → JoinsAssignments o t u a → JoinsOthers o u v b → MinimizesList o t v b
others_then o t u v a true e m n = let k = subst (λ c. JoinsAssignments o t u c) e m in subst (λ x. Moves o x v) k.0 n
others_then o t u v a false e m n =
    let k = subst (λ c. JoinsAssignments o t u c) e m in
    (n.0 ∙ k.0, all_rest o t (subst (StretchRests o StatementList) k.0 n.1.0) (subst (guards.Rests o StatementList) k.0 n.1.1) k.1)

pub others_after : (o : Switches) (t u v : Tree) (a : Bool) (r : Result Bool OutOfMemory) → a ≡ false → JoinsAssignments o t u a → IfOk r (λ b. JoinsOthers o u v b) → IfOk r (λ b. MinimizesList o t v b)
others_after o t u v a (Err e) f m n = n
others_after o t u v a (Ok b) f m n = others_then o t u v a b f m n

pub list_no_row : (o : Switches) (t : Trees) → is_quiet o t ≡ true → guards.is_apart o t ≡ true → are_entered o t ≡ true → list.Rests o StatementList (listed t)
list_no_row o t q e k = all_rest o (listed t) (quiet_rests o t q StatementList) (apart_rests o t e StatementList) (entered_rests o t k StatementList)

-- ---- by the parts of a list

pub one_part : (ts : Trees) → count ts ≡ 1 → child_or_absent ts 0 ≡ of_parts (child_or_absent ts 0) (without ts 0)
one_part none e = absurd (omega (arith, e))
one_part (t ▸ none) e = refl
one_part (t ▸ (u ▸ ts)) e = absurd (omega (arith, e))

more_parts : (ts : Trees) → 0 < count ts → (count ts ≡ 1 → ⊥) → sequence ts ≡ of_parts (child_or_absent ts 0) (without ts 0)
more_parts none h e = absurd (omega (arith, h))
more_parts (t ▸ none) h e = absurd (e (omega arith))
more_parts (t ▸ (u ▸ ts)) h e = refl

pub sequence_made : (ts : Trees) (r : Result Tree OutOfMemory) → 0 < count ts → (count ts ≡ 1 → ⊥) → IfOk r (λ t. t ≡ sequence ts) → IfOk r (λ t. t ≡ of_parts (child_or_absent ts 0) (without ts 0))
sequence_made ts (Err e) h k m = m
sequence_made ts (Ok t) h k m = m ∙ more_parts ts h k

pub others_are : (ts : Trees) → 1 < count ts → other_parts ts ≡ of_parts (child_or_absent (without ts 0) 0) (without (without ts 0) 0)
others_are none h = absurd (omega (arith, h))
others_are (t ▸ none) h = absurd (omega (arith, h))
others_are (t ▸ (u ▸ ts)) h = refl

pub count_others : (ts : Trees) → 1 < count ts → 0 < count (without ts 0)
count_others none h = absurd (omega (arith, h))
count_others (t ▸ none) h = absurd (omega (arith, h))
count_others (t ▸ (u ▸ ts)) h = omega arith

pub child_twice : (ts : Trees) (i : ℕ) (x y : Tree) → with_child (with_child ts i x) i y ≡ with_child ts i y
child_twice none i x y = refl
child_twice (t ▸ ts) zero x y = refl
child_twice (t ▸ ts) (suc i) x y = ap (λ us. t ▸ us) (child_twice ts i x y)

-- the declarator has two parts
pub two_parts : (d x : Tree) → declares_bare d x ≡ true → 1 < count (children d)
two_parts d x e =
    let id = part d 0 in
    let names = one_name (names_of id) (names_of x) && is_absent_part (part d 1) in
    let named = is_binding_shape (shape_of id) && is_named_leaf id in
    let (a, r) = and_parts (is_declarator_shape (shape_of d)) (is_bare d 2 && (named && names)) e in
    let is = ap (λ t. count (children t)) (declarator_is d (both (is_declarator_shape (shape_of d)) (is_bare d 2) a (and_parts (is_bare d 2) (named && names) r).0)) in
    omega (arith, is)

-- a statement that begins with an assignment has a part
pub some_part : (u : Tree) → holds_sequence u || holds_alone u ≡ true → 0 < count (children u)
some_part u h = by (begins_by u h)
  where
    held_parts : (h : Holder) (e : Tree) → 0 < count (children (holding h e))
    held_parts Statement e = omega arith
    held_parts (Heading Return) e = omega arith
    held_parts (Heading Throw) e = omega arith
    held_parts (Heading (If u v)) e = omega arith
    held_parts (Heading (Switch cases)) e = omega arith
    held_parts (Heading (For u v w)) e = omega arith
    held_parts (Going EachIn l w) e = omega arith
    held_parts (Going EachOf l w) e = omega arith
    held_parts (Declaring kind x ds) e = omega arith
    held_parts (Looping x ds u v w) e = omega arith

    begun_parts : (b : Beginning) (a : Tree) → 0 < count (children (begun b a))
    begun_parts Alone a = omega arith
    begun_parts (Init x y z) a = omega arith
    begun_parts (Before h q qs) a = held_parts h (sequence (a ▸ (q ▸ qs)))

    by : Begins u → 0 < count (children u)
    by b = let is = ap (λ t. count (children t)) b.whole in let some = begun_parts b.beginning (beginning_of u) in omega (arith, is, some)

-- what `enter` is given
pub record Given (t u : Tree) (i : ℕ) : Type 0 where
  pub within : i < count (children (part t 0))
  pub parts : 1 < count (children (child_or_absent (children (part t 0)) i))
  pub some : 0 < count (children u)

pub given : (t u : Tree) (i : ℕ) → EntersAt t u (Some i) → Given t u i
given t u i m =
    let (var, first) = and_parts (declares Var t) (assigns_first u) m.0 in
    record {
      within = m.1.0;
      parts = two_parts (child_or_absent (children (part t 0)) i) (part (beginning_of u) 0) m.1.1;
      some = some_part u (and_parts (holds_sequence u || holds_alone u) (assigns_name (beginning_of u)) first).0;
    }

-- the place may be asked
pub record Askable (t u : Tree) : Type 0 where
  pub list : 0 < count (children t)
  pub some : 0 < count (children u)
  pub target : 0 < count (children (beginning_of u))

pub askable : (t u : Tree) → may_enter t u ≡ true → Askable t u
askable t u e =
    let (var, first) = and_parts (declares Var t) (assigns_first u) e in
    let (whole, assigns) = and_parts (holds_sequence u || holds_alone u) (assigns_name (beginning_of u)) first in
    let is = ap (λ x. count (children x)) (declares_is Var t var) in
    let begun_is = ap (λ x. count (children x)) (assigns_by (beginning_of u) assigns).is in
    record { list = omega (arith, is); some = some_part u whole; target = omega (arith, begun_is) }

pub made_row : (t u declared value : Tree) (left : Trees) (i : ℕ) → EntersAt t u (Some i) → value ≡ part (beginning_of u) 1 → left ≡ left_of u → declared ≡ with_value t i value → Entered t u declared left
made_row t u declared value left i m e f g =
    subst (λ d. Entered t u d left) (sym (g ∙ ap (with_value t i) e)) (subst (Entered t u (with_value t i (part (beginning_of u) 1))) (sym f) (enters_row t u i m))

pub value_made : (t : Tree) (i : ℕ) (value whole d : Tree) (ds taken given : Trees) → whole ≡ part t 0 → ds ≡ children whole → d ≡ child_or_absent ds i → taken ≡ with_child ds i absent → given ≡ with_child taken i (with_part d 1 value) → declaration Var given ≡ with_value t i value
value_made t i value whole d ds taken made a b e f g =
    let is = b ∙ ap children a in
    ap (declaration Var) (g ∙ ap (λ ts. with_child ts i (with_part d 1 value)) f ∙ child_twice ds i absent (with_part d 1 value) ∙ ap (λ x. with_child ds i (with_part x 1 value)) e ∙ ap (λ ts. with_child ts i (with_part (child_or_absent ts i) 1 value)) is)

-- whatever stands after it
pub put_with : (o : Switches) (before after : Trees) (t : Tree) (rest : Trees) (r : Result Bool OutOfMemory) → IfOk r (λ b. (others : Trees) → PutEntered o before t others after others b) → IfOk r (PutEntered o before t rest after rest)
put_with o before after t rest (Err e) m = m
put_with o before after t rest (Ok b) m = m rest

-- a declaration has a list
pub list_there : (t : Tree) → declares Var t ≡ true → 0 < count (children t)
list_there t e = let is = ap (λ x. count (children x)) (declares_is Var t e) in omega (arith, is)
