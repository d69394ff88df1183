-- A loop that hides its names first, and reads a variable before all else: a `for` over a `let` or a `const`, or a loop over keys or values
-- with one on its left; and a constant that mentions no name.
use Rattle.std.specs.Prelude.{◌⊎◌, ◌&&◌, ◌||◌, not, if◌then◌else◌}
use Rattle.std.proofs.Common.{◌≡◌, zero, Bool, true, false, [], ◌++◌, refl, sym, ap, ◌∙◌, subst, inl, inr, true≢false}
use Rattle.std.proofs.lemmas.Bool.{and_parts}
use Rattle.mini_model.specs.declared.kind.VariableDeclarationKind.{VariableDeclarationKind}
use Rattle.mini_model.specs.declared.name.Name.{Name}
use Rattle.mini_model.specs.declared.operator.UnaryOperator.TheVariants.{LogicalNot, Void}
use Rattle.mini_model.specs.declared.shape.Shape.{Shape}
use Rattle.mini_model.specs.declared.shape.Shape.TheVariants as shape
use Rattle.mini_model.specs.Tree.{Tree, Trees, node, none, ◌▸◌, shape_of}
use Rattle.mini_laws.specs.Naming.{is_lexical}
use Rattle.mini_laws.specs.Resolved.{Environment}
use Rattle.mini_laws.specs.Scoped.{Scoped}
use Rattle.mini_laws.specs.Scopes.{scopes_by}
use Rattle.mini_laws.specs.declared.names.Use.{Use}
use Rattle.mini_laws.specs.declared.names.Use.TheVariants.{Read}
use Rattle.mini_node.specs.Children.{part, is_bare, rest_children}
use Rattle.mini_rows.proofs.Sunk.{value_passed}
use Rattle.mini_rows.proofs.OwnNames.{own_none}
use Rattle.mini_rows.specs.Lists.{is_declarator_shape, declaration, for_loop, Each, EachIn, EachOf, each_loop}
use Rattle.mini_rows.specs.Declarations.{declarator}
use Rattle.mini_rows.specs.Unused.{names, any_names, is_first, put_first, is_written_value, is_value_operator, is_constant, are_passed, are_passed_by_value, has_declarator, reads_initially, reads_head, evaluated, is_lexical_shape, reads_let, reads_over_let, reads_hidden, evaluated_hidden, is_literal, is_closed, takes}
use Rattle.mini_rows.proofs.SingleUse.{Initial, initially, mentioned, put_initially, put_begins, put_over}

not_true : (b : Bool) → not b ≡ true → b ≡ false
not_true true e = absurd (true≢false (sym e))
not_true false e = refl

no_first : (ts : Trees) → rest_children 0 ts ≡ ts
no_first none = refl
no_first (t ▸ ts) = refl

-- ---- a constant with nothing else in it

literal_is : (t : Tree) → is_literal t ≡ true → (is_written_value (shape_of t) ≡ true) × (t ≡ node (shape_of t) [] 0 none)
literal_is (node h [] zero none) e = ((and_parts (is_written_value h) true e).0, refl)
literal_is (node h xs n ts) e = absurd (true≢false (sym (and_parts (is_written_value h) (is_bare (node h xs n ts) 0) e).1))

-- a literal, or an operator before one
abbrev pub Closed : Tree → Type 0
Closed t = ((is_written_value (shape_of t) ≡ true) × (t ≡ node (shape_of t) [] 0 none)) ⊎ ((is_value_operator (shape_of t) ≡ true) × ((is_written_value (shape_of (part t 0)) ≡ true) × (t ≡ node (shape_of t) [] 0 (node (shape_of (part t 0)) [] 0 none ▸ none))))

operator_is : (t : Tree) → is_bare t 1 && is_literal (part t 0) ≡ true → (is_written_value (shape_of (part t 0)) ≡ true) × (t ≡ node (shape_of t) [] 0 (node (shape_of (part t 0)) [] 0 none ▸ none))
operator_is (node h [] zero (t ▸ none)) e = let (f, g) = literal_is t e in (f, ap (λ u. node h [] 0 (u ▸ none)) g)
operator_is t e = absurd (true≢false (sym e))

pub closed : (t : Tree) → is_closed t ≡ true → Closed t
closed t e = by (is_literal t) refl e
  where
    by : (b : Bool) → is_literal t ≡ b → b || (is_value_operator (shape_of t) && (is_bare t 1 && is_literal (part t 0))) ≡ true → Closed t
    by true f g = inl (literal_is t f)
    by false f g = let (o, p) = and_parts (is_value_operator (shape_of t)) (is_bare t 1 && is_literal (part t 0)) g in inr (o, operator_is t p)

pub closed_constant : (t : Tree) → is_closed t ≡ true → is_constant t ≡ true
closed_constant t e = by (closed t e)
  where
    by : Closed t → is_constant t ≡ true
    by (inl (f, is)) = ap is_constant is ∙ f
    by (inr (o, (f, is))) = ap is_constant is ∙ operated (is_written_value (shape_of t)) (is_value_operator (shape_of t)) (is_written_value (shape_of (part t 0))) o f
      where
        operated : (a b c : Bool) → b ≡ true → c ≡ true → (a || (b && c)) ≡ true
        operated true b c f g = refl
        operated false b c f g = λ i. f i && g i

value_undeclaring : (h : Shape) → is_written_value h ≡ true → is_declarator_shape h ≡ false
value_undeclaring shape.VariableDeclarator e = absurd (true≢false (sym e))
value_undeclaring h e = refl

value_scoped : (u : Use) (env : Environment) (h : Shape) → is_written_value h ≡ true → Scoped u env (node h [] 0 none)
unfolding Scoped
value_scoped u env h f = (own_none u env h none (value_undeclaring h f), tt)

operated_scoped : (env : Environment) (h g : Shape) → is_value_operator h ≡ true → is_written_value g ≡ true → Scoped Read env (node h [] 0 (node g [] 0 none ▸ none))
unfolding Scoped scopes_by
operated_scoped env (shape.UnaryExpression LogicalNot) g o f = (tt, (value_scoped Read (env ++ []) g f, tt))
operated_scoped env (shape.UnaryExpression Void) g o f = (tt, (value_scoped Read (env ++ []) g f, tt))
operated_scoped env h g o f = absurd (true≢false (sym o))

-- it resolves in any scope
pub closed_scoped : (t : Tree) → is_closed t ≡ true → (env : Environment) → Scoped Read env t
closed_scoped t e env = by (closed t e)
  where
    by : Closed t → Scoped Read env t
    by (inl (f, is)) = subst (Scoped Read env) (sym is) (value_scoped Read env (shape_of t) f)
    by (inr (o, (f, is))) = subst (Scoped Read env) (sym is) (operated_scoped env (shape_of t) (shape_of (part t 0)) o f)

-- ---- a `for` over a `let` or a `const` that reads it in the first initializer

pub record ForLet (x : Name) (t : Tree) : Type 0 where
  pub kind : VariableDeclarationKind
  pub binds : Tree
  pub value : Tree
  pub last : Trees
  pub test : Tree
  pub update : Tree
  pub body : Tree
  pub once : is_first x false value ≡ true
  pub other : names x binds ≡ false
  pub later : any_names x last ≡ false
  pub beside : any_names x (test ▸ (update ▸ (body ▸ none))) ≡ false
  pub is : t ≡ for_loop (declaration kind (declarator binds value ▸ last)) test update body
  pub puts : (r : Tree) → put_first x r t ≡ for_loop (declaration kind (declarator binds (put_first x r value) ▸ last)) test update body
  pub evaluates : evaluated_hidden t ≡ value

-- its head is read like a declaration
abbrev pub for_initial : (x : Name) (t : Tree) (b : ForLet x t) → Initial x (declaration b.kind (declarator b.binds b.value ▸ b.last))
for_initial x t b = record { kind = b.kind; binds = b.binds; value = b.value; last = b.last; once = b.once; other = b.other; later = b.later; is = refl; puts = put_initially x b.kind b.binds b.value b.last b.other (mentioned x false b.value b.once); evaluates = refl }

for_of : (x : Name) (K : VariableDeclarationKind) (binds value : Tree) (last : Trees) (u v w : Tree) → is_lexical K ≡ true → is_first x false value ≡ true → names x binds ≡ false → any_names x last ≡ false → any_names x (u ▸ (v ▸ (w ▸ none))) ≡ false → ForLet x (for_loop (declaration K (declarator binds value ▸ last)) u v w)
for_of x K binds value last u v w lexical once other later beside = record {
  kind = K;
  binds = binds;
  value = value;
  last = last;
  test = u;
  update = v;
  body = w;
  once = once;
  other = other;
  later = later;
  beside = beside;
  is = refl;
  puts = put_begins x K binds value last u v w once other;
  evaluates = ap (λ c. if c && true then value else for_loop (declaration K (declarator binds value ▸ last)) u v w) lexical;
}

for_let : (x : Name) (t : Tree) → reads_let x t ≡ true → ForLet x t
for_let x (node shape.ForStatement [] zero (head ▸ (u ▸ (v ▸ (w ▸ none))))) e =
    let rest : Trees = u ▸ (v ▸ (w ▸ none)) in
    let (a, p) = and_parts (is_lexical_shape (shape_of head) && has_declarator head) (reads_initially x head && not (any_names x rest)) e in
    let (b, c) = and_parts (reads_initially x head) (not (any_names x rest)) p in
    let i = initially x head b in
    let lexical = sym (ap (λ t. is_lexical_shape (shape_of t)) i.is) ∙ (and_parts (is_lexical_shape (shape_of head)) (has_declarator head) a).0 in
    subst (λ t. ForLet x (for_loop t u v w)) (sym i.is) (for_of x i.kind i.binds i.value i.last u v w lexical i.once i.other i.later (not_true (any_names x rest) c))
for_let x t e = absurd (true≢false (sym e))

-- ---- a loop over keys or values that does in its right side

pub record OverLet (x : Name) (t : Tree) : Type 0 where
  pub kind : Each
  pub left : Tree
  pub value : Tree
  pub body : Tree
  pub once : is_first x false value ≡ true
  pub other : names x left ≡ false
  pub later : any_names x (body ▸ none) ≡ false
  pub is : t ≡ each_loop kind left value body
  pub puts : (r : Tree) → put_first x r t ≡ each_loop kind left (put_first x r value) body
  pub evaluates : evaluated_hidden t ≡ value

goes_over : (k : Each) (left value body : Tree) → is_lexical_shape (shape_of left) ≡ true → evaluated_hidden (each_loop k left value body) ≡ value
goes_over EachIn left value body e = ap (λ c. if c then value else each_loop EachIn left value body) e
goes_over EachOf left value body e = ap (λ c. if c then value else each_loop EachOf left value body) e

over_of : (x : Name) (k : Each) (left value body : Tree) → is_lexical_shape (shape_of left) && (is_first x false value && (not (names x left) && not (any_names x (body ▸ none)))) ≡ true → OverLet x (each_loop k left value body)
over_of x k left value body e =
    let (l, q) = and_parts (is_lexical_shape (shape_of left)) (is_first x false value && (not (names x left) && not (any_names x (body ▸ none)))) e in
    let (a, b) = and_parts (is_first x false value) (not (names x left) && not (any_names x (body ▸ none))) q in
    let (c, d) = and_parts (not (names x left)) (not (any_names x (body ▸ none))) b in
    let other = not_true (names x left) c in
    record {
      kind = k;
      left = left;
      value = value;
      body = body;
      once = a;
      other = other;
      later = not_true (any_names x (body ▸ none)) d;
      is = refl;
      puts = put_over x k left value body other (mentioned x false value a);
      evaluates = goes_over k left value body l;
    }

over_let : (x : Name) (t : Tree) → reads_over_let x t ≡ true → OverLet x t
over_let x (node shape.ForInStatement [] zero (left ▸ (value ▸ (body ▸ none)))) e = over_of x EachIn left value body e
over_let x (node shape.ForOfStatement [] zero (left ▸ (value ▸ (body ▸ none)))) e = over_of x EachOf left value body e
over_let x t e = absurd (true≢false (sym e))

-- ---- one of both

abbrev pub Hidden : Name → Tree → Type 0
Hidden x t = ForLet x t ⊎ OverLet x t

pub hidden : (x : Name) (t : Tree) → reads_hidden x t ≡ true → Hidden x t
hidden x t e = by (reads_let x t) refl e
  where
    by : (b : Bool) → reads_let x t ≡ b → b || reads_over_let x t ≡ true → Hidden x t
    by true f g = inl (for_let x t f)
    by false f g = inr (over_let x t g)

-- what may be put into a head, by what that is
abbrev pub Taken : Name → Tree → Tree → Type 0
Taken x r t = ((reads_head x t ≡ true) × (are_passed_by_value x r (evaluated t) ≡ true)) ⊎ ((is_closed r ≡ true) × ((reads_hidden x t ≡ true) × (are_passed_by_value x r (evaluated_hidden t) ≡ true)))

pub taken : (x : Name) (r t : Tree) → takes x r t ≡ true → Taken x r t
taken x r t e = by (reads_head x t && are_passed x r (evaluated t)) refl e
  where
    by : (b : Bool) → reads_head x t && are_passed x r (evaluated t) ≡ b → b || (is_closed r && (reads_hidden x t && are_passed x r (evaluated_hidden t))) ≡ true → Taken x r t
    by true f g = let (reads, passed) = and_parts (reads_head x t) (are_passed x r (evaluated t)) f in inl (reads, value_passed x r (evaluated t) passed)
    by false f g =
        let (c, p) = and_parts (is_closed r) (reads_hidden x t && are_passed x r (evaluated_hidden t)) g in
        let (reads, passed) = and_parts (reads_hidden x t) (are_passed x r (evaluated_hidden t)) p in
        inr (c, (reads, value_passed x r (evaluated_hidden t) passed))
