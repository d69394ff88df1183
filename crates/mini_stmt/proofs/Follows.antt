-- What is joined is what the rows say.
use Rattle.std.proofs.Common.{◌≡◌, zero, ◌<◌, arith, Bool, true, false, [], refl, sym, ap, ◌∙◌, subst, inl, inr, ⊎_elim, true≢false}
use Rattle.std.specs.Prelude.{◌⊎◌, ◌&&◌, ◌||◌, not, Option, Some, None, if◌then◌else◌}
use Rattle.std.proofs.lemmas.Bool.{and_parts, false≢true}
use Rattle.mini_model.specs.declared.kind.VariableDeclarationKind.{VariableDeclarationKind}
use Rattle.mini_model.specs.declared.kind.VariableDeclarationKind.TheVariants.{Var, Let, Const}
use Rattle.mini_model.specs.declared.shape.Shape.TheVariants as shape
use Rattle.mini_model.specs.Tree.{Tree, Trees, node, none, ◌▸◌, count, shape_of, children, absent, is_absent, expression_statement, if_alone}
use Rattle.mini_model.specs.Paths.{append}
use Rattle.mini_node.specs.Children.{part, with_part, is_bare}
use Rattle.mini_node.specs.Kinds.{is_sequence_shape, is_sequence, is_absent_part, is_listed, is_return_statement, is_throw_statement, is_if_statement, is_if_alone, is_expression_statement, is_empty_statement}
use Rattle.mini_node.specs.Made.{absent_is, sequence_is, expression_statement_is, empty_statement_is, block_is, if_statement_is, if_alone_is, return_statement_is, throw_statement_is}
use Rattle.mini_rows.specs.Switches.{Switches}
use Rattle.mini_rows.specs.Nesting.{may_sink}
use Rattle.mini_rows.specs.Lists.{of_parts, is_one_part, are_parts, sequence, return_statement, switch, for_loop, for_in, is_plain_left, declaration, are_unscoped, is_unscoped, is_terminated, Head, If, Switch, For, with_head, StretchRow}
use Rattle.mini_rows.specs.Lists as list
use Rattle.mini_stmt.specs.declared.lead.Lead.{Lead}
use Rattle.mini_stmt.specs.declared.lead.Lead.TheVariants.{Expression, Declaration, Return, Throw, Nothing}
use Rattle.mini_stmt.specs.Terms.{has_two, is_joinable, parts_of, joined, is_joinable_statement}
use Rattle.mini_stmt.specs.JoinExpressions.{joined_expressions}
use Rattle.mini_stmt.specs.JoinHeads.{is_switch, is_for, is_for_in, has_head, has_joinable_head, has_free_init, has_joinable_right, with_joined_head, with_init, with_joined_right}
use Rattle.mini_stmt.specs.JoinVars.{same_kind, declared_kind, is_kind, declares, joined_declarations, is_var, has_var_init, takes_var, takes_declaration, with_var, with_declaration}
use Rattle.mini_stmt.specs.JoinJumps.{is_whole, guards_return, guards_throw, is_answer, returns_answer, throws_answer, returns_nothing, joined_returns, joined_throws, test_alone}
use Rattle.mini_stmt.specs.SplitIf.{splits, without_alternate}
use Rattle.mini_stmt.specs.SpreadBlock.{spreads, body_of}
use Rattle.mini_stmt.proofs.Parts.{not_true}
use Rattle.mini_stmt.specs.MinimizeStatements.{is_read, declaring, lead_of, takes_expression, joins, with_expression, joined_to, jumps_anyway}

or_split : (a b : Bool) → a || b ≡ true → (a ≡ true) ⊎ (b ≡ true)
or_split true b h = inl refl
or_split false b h = inr h

or_true : (b : Bool) → b || true ≡ true
or_true true = refl
or_true false = refl

-- ---- parts

-- an expression by its parts
pub record Parts (e : Tree) : Type 0 where
  pub first : Tree
  pub others : Trees
  pub is : e ≡ of_parts first others
  pub parts : parts_of e ≡ first ▸ others
  pub good : are_parts first others ≡ true

single : (e : Tree) → is_sequence_shape (shape_of e) ≡ false → is_one_part e ≡ true → Parts e
single e s h = record { first = e; others = none; is = refl; parts = ap (λ b. if b && (is_bare e 1 && is_listed (part e 0)) then children (part e 0) else e ▸ none) s; good = h }

several : (e : Tree) → is_sequence e ≡ true → (ts : Trees) → children (part e 0) ≡ ts → has_two ts ≡ true → Parts e
several e s none c h = absurd (true≢false (sym h))
several e s (p ▸ none) c h = absurd (true≢false (sym h))
several e s (p ▸ (q ▸ qs)) c h = record { first = p; others = q ▸ qs; is = sequence_is e s ∙ ap sequence c; parts = ap (λ b. if b then children (part e 0) else e ▸ none) s ∙ c; good = refl }

pub parts_by : (e : Tree) → is_joinable e ≡ true → Parts e
parts_by e h = go (is_sequence_shape (shape_of e)) refl h
  where
    go : (b : Bool) → is_sequence_shape (shape_of e) ≡ b → (if b then is_sequence e && has_two (children (part e 0)) else is_one_part e) ≡ true → Parts e
    go true s h = let (is, two) = and_parts (is_sequence e) (has_two (children (part e 0))) h in several e is (children (part e 0)) refl two
    go false s h = single e s h

of_more : (p : Tree) (ps : Trees) (q : Tree) (qs : Trees) → sequence (p ▸ append ps (q ▸ qs)) ≡ of_parts p (append ps (q ▸ qs))
of_more p none q qs = refl
of_more p (c ▸ ps) q qs = refl

pub joined_is : (a b : Tree) (x : Parts a) (y : Parts b) → joined a b ≡ of_parts x.first (append x.others (y.first ▸ y.others))
joined_is a b x y = ap (λ ps. sequence (append ps (parts_of b))) x.parts ∙ ap (λ ps. sequence (append (x.first ▸ x.others) ps)) y.parts ∙ of_more x.first x.others y.first y.others

-- ---- heads

switch_is : (t : Tree) → is_switch t ≡ true → t ≡ switch (part t 0) (part t 1)
switch_is (node shape.SwitchStatement [] zero (a ▸ (b ▸ none))) e = refl
switch_is t e = absurd (false≢true e)

pub for_is : (t : Tree) → is_for t ≡ true → t ≡ for_loop (part t 0) (part t 1) (part t 2) (part t 3)
for_is (node shape.ForStatement [] zero (a ▸ (b ▸ (c ▸ (d ▸ none))))) e = refl
for_is t e = absurd (false≢true e)

pub for_in_is : (t : Tree) → is_for_in t ≡ true → t ≡ for_in (part t 0) (part t 1) (part t 2)
for_in_is (node shape.ForInStatement [] zero (a ▸ (b ▸ (c ▸ none)))) e = refl
for_in_is t e = absurd (cc e)

-- a statement with a head
pub record Headed (u : Tree) : Type 0 where
  pub head : Head
  pub is : u ≡ with_head head (part u 0)

-- with another expression in it
pub with_other : (u : Tree) (h : Head) (x e : Tree) → u ≡ with_head h x → with_part u 0 e ≡ with_head h e
with_other u list.Return x e s = ap (λ v. with_part v 0 e) s
with_other u list.Throw x e s = ap (λ v. with_part v 0 e) s
with_other u (If a b) x e s = ap (λ v. with_part v 0 e) s
with_other u (Switch a) x e s = ap (λ v. with_part v 0 e) s
with_other u (For a b c) x e s = ap (λ v. with_part v 0 e) s

pub head_by : (u : Tree) → has_head u ≡ true → Headed u
head_by u h = ⊎_elim (λ e. record { head = list.Return; is = return_statement_is u e }) (λ h. ⊎_elim (λ e. record { head = list.Throw; is = throw_statement_is u e }) (λ h. ⊎_elim (λ e. record { head = If (part u 1) (part u 2); is = if_statement_is u e }) (λ h. ⊎_elim (λ e. record { head = Switch (part u 1); is = switch_is u e }) (λ e. record { head = For (part u 1) (part u 2) (part u 3); is = for_is u e }) (or_split (is_switch u) (is_for u) h)) (or_split (is_if_statement u) _ h)) (or_split (is_throw_statement u) _ h)) (or_split (is_return_statement u) _ h)

-- ---- declarations

kind_same : (l k : VariableDeclarationKind) → same_kind l k ≡ true → l ≡ k
kind_same Var Var e = refl
kind_same Let Let e = refl
kind_same Const Const e = refl
kind_same Var Let e = absurd (true≢false (sym e))
kind_same Var Const e = absurd (true≢false (sym e))
kind_same Let Var e = absurd (true≢false (sym e))
kind_same Let Const e = absurd (true≢false (sym e))
kind_same Const Var e = absurd (true≢false (sym e))
kind_same Const Let e = absurd (true≢false (sym e))

some_same : {A : Type 0} (x y : A) → Some x ≡ Some y → x ≡ y
some_same {A = A} x y e = ap (λ o. elim o as (λ w. A) [ None ↦ x | Some z ↦ z ]) e

none_is : (k : VariableDeclarationKind) → None ≡ Some k → ⊥
none_is k e = cc e

pub declared_is : (t : Tree) (k : VariableDeclarationKind) → declared_kind t ≡ Some k → t ≡ declaration k (children (part t 0))
declared_is (node (shape.VariableDeclaration l) [] zero (node shape.Listed [] zero ds ▸ none)) k e = ap (λ m. declaration m ds) (some_same l k e)
declared_is (node (shape.VariableDeclaration l) [] zero (u ▸ none)) k e = absurd (none_is k e)
declared_is t k e = absurd (none_is k e)

pub declares_is : (k : VariableDeclarationKind) (t : Tree) → declares k t ≡ true → t ≡ declaration k (children (part t 0))
declares_is k t e = go (declared_kind t) refl e
  where
    go : (o : Option VariableDeclarationKind) → declared_kind t ≡ o → is_kind o k ≡ true → t ≡ declaration k (children (part t 0))
    go None s h = absurd (true≢false (sym h))
    go (Some l) s h = declared_is t l s ∙ ap (λ m. declaration m (children (part t 0))) (kind_same l k h)

-- ---- leads

-- which test was met
pub record LeadIs (l : Lead) (t : Tree) : Type 0 where
  pub expression : l ≡ Expression → is_joinable_statement t ≡ true
  pub returns : (b : Bool) → l ≡ Return b → (guards_return t ≡ true) × (is_absent_part (part (part t 1) 0) ≡ b)
  pub throws : l ≡ Throw → guards_throw t ≡ true
  pub declares : (k : VariableDeclarationKind) → l ≡ Declaration k → declared_kind t ≡ Some k

field_of : Bool → Lead → Bool
field_of d (Return b) = b
field_of d l = d

kind_field : VariableDeclarationKind → Lead → VariableDeclarationKind
kind_field d (Declaration k) = k
kind_field d l = d

lead_by : (t : Tree) (a b c : Bool) (o : Option VariableDeclarationKind) → is_joinable_statement t ≡ a → guards_return t ≡ b → guards_throw t ≡ c → declared_kind t ≡ o → LeadIs (if a then Expression else (if b then Return (is_absent_part (part (part t 1) 0)) else (if c then Throw else declaring o))) t
unfolding field_of kind_field
lead_by t true b c o e f g h = record { expression = λ l. e; returns = λ x l. absurd (cc l); throws = λ l. absurd (cc l); declares = λ k l. absurd (cc l) }
lead_by t false true c o e f g h = record { expression = λ l. absurd (cc l); returns = λ x l. (f, ap (field_of x) l); throws = λ l. absurd (cc l); declares = λ k l. absurd (cc l) }
lead_by t false false true o e f g h = record { expression = λ l. absurd (cc l); returns = λ x l. absurd (cc l); throws = λ l. g; declares = λ k l. absurd (cc l) }
lead_by t false false false None e f g h = record { expression = λ l. absurd (cc l); returns = λ x l. absurd (cc l); throws = λ l. absurd (cc l); declares = λ k l. absurd (cc l) }
lead_by t false false false (Some m) e f g h = record { expression = λ l. absurd (cc l); returns = λ x l. absurd (cc l); throws = λ l. absurd (cc l); declares = λ k l. h ∙ ap (λ l. Some (kind_field k l)) l }

pub lead_is : (t : Tree) → LeadIs (lead_of t) t
lead_is t = lead_by t (is_joinable_statement t) (guards_return t) (guards_throw t) (declared_kind t) refl refl refl refl

-- ---- two statements

pub record Joins (o : Switches) (t u w : Tree) : Type 0 where
  pub row : StretchRow o (t ▸ (u ▸ none)) (w ▸ none)
  -- and no row reads what is written by itself, if none did so the second
  pub rests : is_read o u ≡ false → is_read o w ≡ false

and_none : (b : Bool) → b && false ≡ false
and_none true = refl
and_none false = refl

two : (t t' u u' : Tree) → t ≡ t' → u ≡ u' → t ▸ (u ▸ none) ≡ t' ▸ (u' ▸ none)
two t t' u u' e f = ap (λ x. x ▸ (u ▸ none)) e ∙ ap (λ x. t' ▸ (x ▸ none)) f

one : (t t' : Tree) → t ≡ t' → t ▸ none ≡ t' ▸ none
one t t' e = ap (λ x. x ▸ none) e

-- `a;` by its parts
pub statement_parts : (t : Tree) → is_joinable_statement t ≡ true → (t ≡ expression_statement (part t 0)) × Parts (part t 0)
statement_parts t h = let (is, good) = and_parts (is_expression_statement t) (is_joinable (part t 0)) h in (expression_statement_is t is, parts_by (part t 0) good)

expressions_join : (o : Switches) (t u : Tree) → o.sequences ≡ true → is_joinable_statement t ≡ true → is_joinable_statement u ≡ true → Joins o t u (joined_expressions t u)
expressions_join o t u s e f =
    let (first, x) = statement_parts t e in
    let (second, y) = statement_parts u f in
    record {
      row = inr (inr (inr (s, inl (record { p = x.first; ps = x.others; q = y.first; qs = y.others; first = x.good; second = y.good; shape = two _ _ _ _ (first ∙ ap expression_statement x.is) (second ∙ ap expression_statement y.is); written = one _ _ (ap expression_statement (joined_is (part t 0) (part u 0) x y)) }))));
      rests = λ r. and_none o.sequences;
    }

head_rests : (o : Switches) (h : Head) (x e : Tree) → is_read o (with_head h x) ≡ is_read o (with_head h e)
head_rests o list.Return x e = refl
head_rests o list.Throw x e = refl
head_rests o (If a b) x e = refl
head_rests o (Switch a) x e = refl
head_rests o (For a b c) x e = refl

heads_join : (o : Switches) (t u : Tree) → o.sequences ≡ true → is_joinable_statement t ≡ true → has_joinable_head u ≡ true → Joins o t u (with_joined_head t u)
heads_join o t u s e f =
    let (first, x) = statement_parts t e in
    let (has, good) = and_parts (has_head u) (is_joinable (part u 0)) f in
    let headed = head_by u has in
    let y = parts_by (part u 0) good in
    let made = with_other u headed.head (part u 0) (joined (part t 0) (part u 0)) headed.is in
    record {
      row = inr (inr (inr (s, inr (inr (inr (inr (inl (record { head = headed.head; p = x.first; ps = x.others; q = y.first; qs = y.others; first = x.good; second = y.good; shape = two _ _ _ _ (first ∙ ap expression_statement x.is) (headed.is ∙ ap (with_head headed.head) y.is); written = one _ _ (made ∙ ap (with_head headed.head) (joined_is (part t 0) (part u 0) x y)) }))))))));
      rests = λ r. ap (is_read o) made ∙ sym (head_rests o headed.head (part u 0) (joined (part t 0) (part u 0))) ∙ sym (ap (is_read o) headed.is) ∙ r;
    }

init_joins : (o : Switches) (t u : Tree) → o.sequences ≡ true → is_joinable_statement t ≡ true → has_free_init u ≡ true → Joins o t u (with_init t u)
init_joins o t u s e f =
    let (first, x) = statement_parts t e in
    let (is, free) = and_parts (is_for u) (is_absent_part (part u 0)) f in
    let loop = for_is u is in
    let made = with_other u (For (part u 1) (part u 2) (part u 3)) (part u 0) (part t 0) loop in
    record {
      row = inr (inr (inr (s, inr (inr (inr (inr (inr (inl (record { p = x.first; ps = x.others; test = part u 1; update = part u 2; body = part u 3; first = x.good; shape = two _ _ _ _ (first ∙ ap expression_statement x.is) (loop ∙ ap (λ i. for_loop i (part u 1) (part u 2) (part u 3)) (absent_is (part u 0) free)); written = one _ _ (made ∙ ap (λ i. for_loop i (part u 1) (part u 2) (part u 3)) x.is) })))))))));
      rests = λ r. ap (is_read o) made ∙ sym (head_rests o (For (part u 1) (part u 2) (part u 3)) (part u 0) (part t 0)) ∙ sym (ap (is_read o) loop) ∙ r;
    }

right_joins : (o : Switches) (t u : Tree) → o.sequences ≡ true → is_joinable_statement t ≡ true → has_joinable_right u ≡ true → Joins o t u (with_joined_right t u)
right_joins o t u s e f =
    let (first, x) = statement_parts t e in
    let (is, rest) = and_parts (is_for_in u) (is_plain_left (part u 0) && is_joinable (part u 1)) f in
    let (plain, good) = and_parts (is_plain_left (part u 0)) (is_joinable (part u 1)) rest in
    let y = parts_by (part u 1) good in
    let loop = for_in_is u is in
    let made : with_joined_right t u ≡ for_in (part u 0) (joined (part t 0) (part u 1)) (part u 2) = ap (λ v. with_part v 1 (joined (part t 0) (part u 1))) loop in
    record {
      row = inr (inr (inl (inr (s, inl (record { left = part u 0; body = part u 2; p = x.first; ps = x.others; q = y.first; qs = y.others; plain = plain; first = x.good; second = y.good; shape = two _ _ _ _ (first ∙ ap expression_statement x.is) (loop ∙ ap (λ d. for_in (part u 0) d (part u 2)) y.is); written = one _ _ (made ∙ ap (λ d. for_in (part u 0) d (part u 2)) (joined_is (part t 0) (part u 1) x y)) })))));
      rests = λ r. ap (is_read o) made ∙ and_none o.sequences;
    }

-- what is left takes the expression on the right of a `for..in`
pub right_second : (u : Tree) → takes_expression u ≡ true → is_joinable_statement u ≡ false → has_joinable_head u ≡ false → has_free_init u ≡ false → 1 < count (children u)
right_second u h e f g =
    let right : has_joinable_right u ≡ true = sym (ap (λ b. b || (has_joinable_head u || (has_free_init u || has_joinable_right u))) e ∙ ap (λ b. b || (has_free_init u || has_joinable_right u)) f ∙ ap (λ b. b || has_joinable_right u) g) ∙ h in
    let loop = ap (λ t. count (children t)) (for_in_is u (and_parts (is_for_in u) _ right).0) in
    omega (arith, loop)

expression_joins : (o : Switches) (t u : Tree) → o.sequences ≡ true → is_joinable_statement t ≡ true → takes_expression u ≡ true → Joins o t u (with_expression t u)
expression_joins o t u s e h = go (is_joinable_statement u) (has_joinable_head u) (has_free_init u) refl refl refl h
  where
    go : (b c d : Bool) → is_joinable_statement u ≡ b → has_joinable_head u ≡ c → has_free_init u ≡ d → b || (c || (d || has_joinable_right u)) ≡ true → Joins o t u (if b then joined_expressions t u else (if c then with_joined_head t u else (if d then with_init t u else with_joined_right t u)))
    go true c d f g i h = expressions_join o t u s e f
    go false true d f g i h = heads_join o t u s e g
    go false false true f g i h = init_joins o t u s e i
    go false false false f g i h = right_joins o t u s e h

declarations_join : (o : Switches) (k : VariableDeclarationKind) (t u : Tree) → o.join_vars ≡ true → declared_kind t ≡ Some k → declares k u ≡ true → Joins o t u (joined_declarations k t u)
declarations_join o k t u s e f = record {
  row = inr (inr (inl (inl (s, record { kind = k; ds = children (part t 0); es = children (part u 0); shape = two _ _ _ _ (declared_is t k e) (declares_is k u f); written = refl }))));
  rests = λ r. and_none o.sequences;
}

-- `var a;` and a `for`
loop_joins : (o : Switches) (t u : Tree) → o.sequences ≡ true → declared_kind t ≡ Some Var → takes_var u ≡ true → Joins o t u (with_var t u)
loop_joins o t u s e h = go (has_free_init u) refl h
  where
    var : t ≡ declaration Var (children (part t 0))
    var = declared_is t Var e

    loop : is_for u ≡ true → u ≡ for_loop (part u 0) (part u 1) (part u 2) (part u 3)
    loop is = for_is u is

    made : (is : is_for u ≡ true) (x : Tree) → with_part u 0 x ≡ for_loop x (part u 1) (part u 2) (part u 3)
    made is x = ap (λ v. with_part v 0 x) (loop is)

    go : (b : Bool) → has_free_init u ≡ b → b || has_var_init u ≡ true → Joins o t u (with_part u 0 (if b then t else joined_declarations Var t (part u 0)))
    go true f h =
        let (is, free) = and_parts (is_for u) (is_absent_part (part u 0)) f in
        record {
          row = inr (inr (inl (inr (s, inr (inl (record { ds = children (part t 0); test = part u 1; update = part u 2; body = part u 3; shape = two _ _ _ _ var (loop is ∙ ap (λ i. for_loop i (part u 1) (part u 2) (part u 3)) (absent_is (part u 0) free)); written = one _ _ (made is t ∙ ap (λ i. for_loop i (part u 1) (part u 2) (part u 3)) var) }))))));
          rests = λ r. ap (is_read o) (made is t) ∙ and_none o.sequences;
        }
    go false f h =
        let (is, declares_var) = and_parts (is_for u) (declares Var (part u 0)) h in
        record {
          row = inr (inr (inl (inr (s, inr (inr (record { ds = children (part t 0); es = children (part (part u 0) 0); test = part u 1; update = part u 2; body = part u 3; shape = two _ _ _ _ var (loop is ∙ ap (λ i. for_loop i (part u 1) (part u 2) (part u 3)) (declares_is Var (part u 0) declares_var)); written = one _ _ (made is (joined_declarations Var t (part u 0))) }))))));
          rests = λ r. ap (is_read o) (made is (joined_declarations Var t (part u 0))) ∙ and_none o.sequences;
        }

var_kind : (k : VariableDeclarationKind) → is_var k ≡ true → k ≡ Var
var_kind Var e = refl
var_kind k e = absurd (true≢false (sym e))

-- a declaration is no loop
loop_declares : (k : VariableDeclarationKind) (u : Tree) → is_for u ≡ true → declares k u ≡ false
loop_declares k u e = ap (declares k) (for_is u e)

takes_for : (u : Tree) → takes_var u ≡ true → is_for u ≡ true
takes_for u h = ⊎_elim (λ e. (and_parts (is_for u) _ e).0) (λ e. (and_parts (is_for u) _ e).0) (or_split (has_free_init u) (has_var_init u) h)

-- so it has a first child
pub loop_first : (k : VariableDeclarationKind) (u : Tree) → declares k u || takes_declaration k u ≡ true → declares k u ≡ false → 0 < count (children u)
loop_first k u h e =
    let takes : takes_declaration k u ≡ true = sym (ap (λ b. b || takes_declaration k u) e) ∙ h in
    let same = ap (λ t. count (children t)) (for_is u (takes_for u (and_parts (is_var k) (takes_var u) takes).1)) in
    omega (arith, same)

pub declaration_taken : (o : Switches) (k : VariableDeclarationKind) (u : Tree) → joins o (Declaration k) u ≡ true → declares k u || takes_declaration k u ≡ true
declaration_taken o k u h =
    ⊎_elim (λ g. ap (λ b. b || takes_declaration k u) (and_parts o.join_vars (declares k u) g).1)
    (λ g. ap (λ b. declares k u || b) (and_parts o.sequences (takes_declaration k u) g).1 ∙ or_true (declares k u))
    (or_split (o.join_vars && declares k u) (o.sequences && takes_declaration k u) h)

declaration_joins : (o : Switches) (k : VariableDeclarationKind) (t u : Tree) → declared_kind t ≡ Some k → joins o (Declaration k) u ≡ true → Joins o t u (with_declaration k t u)
declaration_joins o k t u e h = ⊎_elim same loop (or_split (o.join_vars && declares k u) (o.sequences && takes_declaration k u) h)
  where
    same : o.join_vars && declares k u ≡ true → Joins o t u (with_declaration k t u)
    same g =
        let (s, declared) = and_parts o.join_vars (declares k u) g in
        subst (Joins o t u) (sym (ap (λ b. if b then joined_declarations k t u else with_var t u) declared)) (declarations_join o k t u s e declared)

    loop : o.sequences && takes_declaration k u ≡ true → Joins o t u (with_declaration k t u)
    loop g =
        let (s, takes) = and_parts o.sequences (takes_declaration k u) g in
        let (var, takes_one) = and_parts (is_var k) (takes_var u) takes in
        subst (Joins o t u) (sym (ap (λ b. if b then joined_declarations k t u else with_var t u) (loop_declares k u (takes_for u takes_one)))) (loop_joins o t u s (e ∙ ap Some (var_kind k var)) takes_one)

whole_argument : (b : Tree) → is_whole b ≡ true → (b ≡ absent) ⊎ (is_absent b ≡ false)
whole_argument b h = ⊎_elim (λ e. inl (absent_is b e)) (λ e. inr (not_true (is_absent b) e)) (or_split (is_absent_part b) (not (is_absent b)) h)

answer_parts : (c : Tree) → is_answer c ≡ true → (is_absent c ≡ false) × (may_sink c ≡ true)
answer_parts c h = let (there, shallow) = and_parts (not (is_absent c)) (may_sink c) h in (not_true _ there, shallow)

returns_join : (o : Switches) (t u : Tree) → o.sequences ≡ true → guards_return t ≡ true → returns_answer u ≡ true → Joins o t u (joined_returns t u)
returns_join o t u s e f =
    let (alone, guarded) = and_parts (is_if_alone t) (is_return_statement (part t 1) && is_whole (part (part t 1) 0)) e in
    let (jump, whole) = and_parts (is_return_statement (part t 1)) (is_whole (part (part t 1) 0)) guarded in
    let (is, answer) = and_parts (is_return_statement u) (is_answer (part u 0)) f in
    let (there, shallow) = answer_parts (part u 0) answer in
    record {
      row = inr (inr (inr (s, inr (inl (record { test = part t 0; left = part (part t 1) 0; right = part u 0; whole = whole_argument (part (part t 1) 0) whole; present = there; shallow = shallow; shape = two _ _ _ _ (if_alone_is t alone ∙ ap (if_alone (part t 0)) (return_statement_is (part t 1) jump)) (return_statement_is u is); written = refl })))));
      rests = λ r. and_none o.sequences;
    }

throws_join : (o : Switches) (t u : Tree) → o.sequences ≡ true → guards_throw t ≡ true → throws_answer u ≡ true → Joins o t u (joined_throws t u)
throws_join o t u s e f =
    let (alone, guarded) = and_parts (is_if_alone t) (is_throw_statement (part t 1) && is_whole (part (part t 1) 0)) e in
    let (jump, whole) = and_parts (is_throw_statement (part t 1)) (is_whole (part (part t 1) 0)) guarded in
    let (is, answer) = and_parts (is_throw_statement u) (is_answer (part u 0)) f in
    let (there, shallow) = answer_parts (part u 0) answer in
    record {
      row = inr (inr (inr (s, inr (inr (inl (record { test = part t 0; left = part (part t 1) 0; right = part u 0; whole = whole_argument (part (part t 1) 0) whole; present = there; shallow = shallow; shape = two _ _ _ _ (if_alone_is t alone ∙ ap (if_alone (part t 0)) (throw_statement_is (part t 1) jump)) (throw_statement_is u is); written = refl }))))));
      rests = λ r. and_none o.sequences;
    }

pub joins_are : (o : Switches) (t u : Tree) → joins o (lead_of t) u ≡ true → Joins o t u (joined_to (lead_of t) t u)
joins_are o t u h = go (lead_of t) (lead_is t) h
  where
    go : (l : Lead) → LeadIs l t → joins o l u ≡ true → Joins o t u (joined_to l t u)
    go Expression is h = let (s, takes) = and_parts o.sequences (takes_expression u) h in expression_joins o t u s (is.expression refl) takes
    go (Declaration k) is h = declaration_joins o k t u (is.declares k refl) h
    go (Return b) is h = let (s, answers) = and_parts o.sequences (returns_answer u) h in returns_join o t u s (is.returns b refl).0 answers
    go Throw is h = let (s, answers) = and_parts o.sequences (throws_answer u) h in throws_join o t u s (is.throws refl) answers
    go Nothing is h = absurd (true≢false (sym h))

-- `if (a) return; return;`
pub record Tested (o : Switches) (t u : Tree) : Type 0 where
  pub row : StretchRow o (t ▸ (u ▸ none)) (test_alone t ▸ (u ▸ none))
  pub first : t ≡ if_alone (part t 0) (return_statement absent)
  pub second : u ≡ return_statement absent

pub jumps_are : (o : Switches) (t u : Tree) → jumps_anyway o (lead_of t) u ≡ true → Tested o t u
jumps_are o t u h = go (lead_of t) (lead_is t) h
  where
    go : (l : Lead) → LeadIs l t → jumps_anyway o l u ≡ true → Tested o t u
    go (Return true) is h =
        let (guards, bare) = is.returns true refl in
        let (alone, guarded) = and_parts (is_if_alone t) (is_return_statement (part t 1) && is_whole (part (part t 1) 0)) guards in
        let (jump, whole) = and_parts (is_return_statement (part t 1)) (is_whole (part (part t 1) 0)) guarded in
        let (s, nothing) = and_parts o.sequences (returns_nothing u) h in
        let (returns, missing) = and_parts (is_return_statement u) (is_absent_part (part u 0)) nothing in
        let first = if_alone_is t alone ∙ ap (if_alone (part t 0)) (return_statement_is (part t 1) jump ∙ ap return_statement (absent_is (part (part t 1) 0) bare)) in
        let second = return_statement_is u returns ∙ ap return_statement (absent_is (part u 0) missing) in
        record { row = inr (inr (inr (s, inr (inr (inr (inl (record { test = part t 0; shape = two _ _ _ _ first second; written = ap (λ x. test_alone t ▸ (x ▸ none)) second }))))))); first = first; second = second }
    go (Return false) is h = absurd (true≢false (sym h))
    go Expression is h = absurd (true≢false (sym h))
    go (Declaration k) is h = absurd (true≢false (sym h))
    go Throw is h = absurd (true≢false (sym h))
    go Nothing is h = absurd (true≢false (sym h))

-- ---- one statement

pub empty_row : (o : Switches) (t : Tree) → is_empty_statement t ≡ true → StretchRow o (t ▸ none) none
empty_row o t e = inl (record { shape = one _ _ (empty_statement_is t e); written = refl })

pub spread_row : (o : Switches) (t : Tree) → spreads t ≡ true → StretchRow o (t ▸ none) (body_of t)
spread_row o t e = let (is, unscoped) = and_parts _ (are_unscoped (body_of t)) e in inr (inl (record { statements = body_of t; unscoped = unscoped; shape = one _ _ (block_is t is); written = refl }))

pub split_row : (o : Switches) (t : Tree) → o.sequences ≡ true → splits t ≡ true → StretchRow o (t ▸ none) (without_alternate t ▸ (part t 2 ▸ none))
split_row o t s e =
    let (is, ends) = and_parts (is_if_statement t) (is_terminated (part t 1) && is_unscoped (part t 2)) e in
    let (terminated, unscoped) = and_parts (is_terminated (part t 1)) (is_unscoped (part t 2)) ends in
    inr (inr (inr (s, inr (inr (inr (inr (inr (inr (record { test = part t 0; s = part t 1; u = part t 2; terminated = terminated; unscoped = unscoped; shape = one _ _ (if_statement_is t is); written = refl })))))))))

pub split_rests : (o : Switches) (t : Tree) → is_read o (without_alternate t) ≡ false
split_rests o t = ap (λ b. o.sequences && b) (and_none (is_terminated (part t 1))) ∙ and_none o.sequences
