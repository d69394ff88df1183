-- What each row writes keeps what the node that it reads has.
use Rattle.std.specs.Prelude.{ℕ, ◌≤◌, ◌≡◌, refl, ◌||◌, Bool, true, false, List, [], ◌∷◌, ◌++◌, Option}
use Rattle.std.proofs.Common.{ap, ◌∙◌, sym, subst, arith, inl, inr, ◌⊎◌}
use Rattle.std.proofs.lemmas.List.{append-nil}
use Rattle.mini_model.specs.declared.name.SymbolId.{SymbolId}
use Rattle.mini_model.specs.declared.operator.LogicalOperator.{LogicalOperator}
use Rattle.mini_model.specs.declared.operator.LogicalOperator.TheVariants.{Or, And}
use Rattle.mini_model.specs.declared.place.Position.{Position}
use Rattle.mini_model.specs.declared.place.Position.TheVariants.{Expr, Stmt}
use Rattle.mini_model.specs.declared.seat.Seat.{Seat}
use Rattle.mini_model.specs.declared.seat.StmtSeat.{StmtSeat}
use Rattle.mini_model.specs.declared.shape.Shape.TheVariants as shape
use Rattle.mini_model.specs.Tree.{Tree, node, shape_of, absent, negation, logical, conditional, expression_statement, if_else, if_alone}
use Rattle.mini_model.specs.Position.{statement_expression_seat, left_operand_seat}
use Rattle.mini_model.specs.Terms.{neg, not_of}
use Rattle.mini_model.specs.Redex.{Row, Contracts}
use Rattle.mini_accept.specs.WellShaped.{Slot, fits}
use Rattle.mini_laws.specs.declared.names.Use.{Use}
use Rattle.mini_laws.specs.declared.names.Use.TheVariants.{Read}
use Rattle.mini_laws.specs.declared.names.Declared.{Declared}
use Rattle.mini_laws.specs.declared.names.Declared.TheVariants as declared
use Rattle.mini_laws.specs.declared.names.Targets.{Targets}
use Rattle.mini_laws.specs.DeclaredNames.{names_of, body_names, has_inner}
use Rattle.mini_laws.specs.Scopes.{scopes_by}
use Rattle.mini_laws.specs.Resolved.{Environment}
use Rattle.mini_laws.specs.Scoped.{Scoped}
use Rattle.mini_laws.specs.Symbols.{declared as declared_in, times}
use Rattle.mini_laws.specs.Edits.{Kept}
use Rattle.mini_laws.specs.Early.{Path, declarations, body_declarations, scope_declarations, early_names, targets_of, early_jumps, is_loop}
use Rattle.mini_laws.proofs.Changes.{times_both, by_swap}
use Rattle.mini_laws.proofs.Drops.{moved}
use Rattle.mini_kept.proofs.Expressions.{expression, of_negation, neg_fits}
use Rattle.mini_kept.proofs.Rows.{of_if}
use Rattle.mini_kept.specs.Carried.{numbers}
use Rattle.mini_kept.specs.KeepsNames.{Keeps, Stands, is_rewritten_place, unplaced, is_read, count_of}
use Rattle.mini_kept.specs.Lifted.{is_piece, KeepsNames}
use Rattle.mini_kept.specs.Placed.{is_statement_list}
use Rattle.mini_kept.proofs.InOrder.{in_order}
use Rattle.mini_kept.proofs.Below.{both_counts, empty_both, both_empty}
use Rattle.mini_kept.proofs.Anywhere.{once_anywhere, targets_anywhere}
use Rattle.mini_kept.proofs.Negating.{inner_negated, symbols_negated, scoped_negated, numbers_negated, once_negated, targets_negated, inner_not, symbols_not, scoped_not, numbers_not, once_not, targets_not}
use Rattle.mini_kept.proofs.Quiet.{IsQuiet, expression_is_quiet, no_names, no_declarations, no_body_names, no_body_declarations, no_loop, same_symbols}

-- ---- the use of an expression

pub read_is : (u : Use) → is_read u ≡ true → u ≡ Read
read_is Read e = refl
read_is u e = absurd (cc e)

pub expression_read : (s : Seat) (u : Use) (a : Tree) → Stands (Expr s) u (negation a) → u ≡ Read
expression_read s u a e = read_is u e

choice_read : (s : Seat) (u : Use) (a b c : Tree) → Stands (Expr s) u (conditional a b c) → u ≡ Read
choice_read s u a b c e = read_is u e

-- ---- two nodes that declare nothing around them

pub quiet_kept : (n w : Tree) → IsQuiet n → IsQuiet w → has_inner w ≡ has_inner n → ((x : Option SymbolId) → times x (declared_in Read w) ≤ times x (declared_in Read n)) → Kept n w
quiet_kept n w q r i s = record {
  names = λ d. no_names d w r ∙ sym (no_names d n q);
  body = no_body_names w r ∙ sym (no_body_names n q);
  inner = i;
  symbols = λ u x. omega (arith, s x, ap (times x) (same_symbols u w r), ap (times x) (same_symbols u n q));
}

pub both_as_body : (b : Bool) (q : Path) (n w : Tree) → IsQuiet n → IsQuiet w → body_declarations b q w ≡ body_declarations b q n
both_as_body b q n w x y = no_body_declarations b q w y ∙ sym (no_body_declarations b q n x)

-- ---- 23

negation_symbols : (x : Option SymbolId) (s : Seat) (e : Tree) → times x (declared_in Read (neg s e)) ≤ times x (declared_in Read (negation e))
unfolding declared_in scopes_by
negation_symbols x s e = omega (arith, symbols_negated x s e, ap (times x) (append-nil (declared_in Read e)))

or_none : (b : Bool) → (b || false) ≡ b
or_none true = refl
or_none false = refl

negation_inner : (s : Seat) (e : Tree) → has_inner (neg s e) ≡ has_inner (negation e)
unfolding has_inner
negation_inner s e = inner_negated s e ∙ sym (or_none (has_inner e))

pub operand_scoped : (env : Environment) (e : Tree) → Scoped Read env (negation e) → Scoped Read env e
unfolding Scoped scopes_by
operand_scoped env e r = moved Read (env ++ []) env e (append-nil env) r.1.0

negation_numbers : (k : ℕ) (s : Seat) (e : Tree) → count_of k (numbers (neg s e)) ≤ count_of k (numbers (negation e))
unfolding numbers
negation_numbers k s e = omega (arith, numbers_negated k s e, both_counts k (numbers e) [])

pub operand_once : (q : Path) (e : Tree) → early_names q (negation e) ≡ [] → early_names q e ≡ []
unfolding early_names scope_declarations
operand_once q e r = once_anywhere (q ++ 0 ∷ []) q e (empty_both (early_names (q ++ 0 ∷ []) e) [] r).0

pub operand_targets : (g : Targets) (q : Path) (e : Tree) → early_jumps g q (negation e) ≡ [] → early_jumps g q e ≡ []
unfolding early_jumps targets_of
operand_targets g q e r = targets_anywhere g (q ++ 0 ∷ []) q e (empty_both (early_jumps g (q ++ 0 ∷ []) e) [] r).0

pub unary_keeps : (s : Seat) (e : Tree) (strict : Bool) → fits strict expression e ≡ true → Keeps (Expr s) (negation e) (neg s e)
unary_keeps s e strict f =
    let w = expression_is_quiet strict (neg s e) (neg_fits strict e s f) in
    record {
      kept = quiet_kept (negation e) (neg s e) refl w (negation_inner s e) (λ x. negation_symbols x s e);
      scoped = λ v env st r. subst (λ u. Scoped u env (neg s e)) (sym (expression_read s v e st)) (scoped_negated env s e (operand_scoped env e (subst (λ u. Scoped u env (negation e)) (expression_read s v e st) r)));
      numbers = λ k. negation_numbers k s e;
      declared_as_body = λ b q. ap unplaced (both_as_body b q (negation e) (neg s e) refl w);
      once = λ q r. once_negated q s e (operand_once q e r);
      targets = λ a q r. targets_negated a q s e (operand_targets a q e r);
      loop = no_loop (neg s e) w ∙ sym (no_loop (negation e) refl);
      root = λ p. absurd (cc p);
      block = λ p b q. absurd (cc p);
    }

-- ---- 40

swapped_scoped : (env : Environment) (a b c : Tree) → Scoped Read env (conditional (negation a) b c) → Scoped Read env (conditional a c b)
unfolding Scoped scopes_by
swapped_scoped env a b c r =
    (tt, (moved Read ((env ++ []) ++ []) (env ++ []) a (append-nil (env ++ [])) r.1.0.1.0, (moved Read (((env ++ []) ++ []) ++ []) ((env ++ []) ++ []) c (append-nil ((env ++ []) ++ [])) r.1.1.1.0, (moved Read ((env ++ []) ++ []) (((env ++ []) ++ []) ++ []) b (sym (append-nil ((env ++ []) ++ []))) r.1.1.0, tt))))

swapped_numbers : (k : ℕ) (a b c : Tree) → count_of k (numbers (conditional a c b)) ≤ count_of k (numbers (conditional (negation a) b c))
unfolding numbers
swapped_numbers k a b c =
    omega (
      arith,
      both_counts k (numbers a) (numbers c ++ (numbers b ++ [])),
      both_counts k (numbers c) (numbers b ++ []),
      both_counts k (numbers b) [],
      both_counts k (numbers a ++ []) (numbers b ++ (numbers c ++ [])),
      both_counts k (numbers a) [],
      both_counts k (numbers b) (numbers c ++ []),
      both_counts k (numbers c) [],
    )

pub three_empty : {A : Type 0} (xs ys zs : List A) → xs ++ (ys ++ (zs ++ [])) ≡ [] → (xs ≡ []) × (ys ≡ []) × (zs ≡ [])
three_empty xs ys zs e =
    let (x, r) = empty_both xs (ys ++ (zs ++ [])) e in
    let (y, t) = empty_both ys (zs ++ []) r in
    (x, y, (empty_both zs [] t).0)

pub empty_three : {A : Type 0} (xs ys zs : List A) → xs ≡ [] → ys ≡ [] → zs ≡ [] → xs ++ (ys ++ (zs ++ [])) ≡ []
empty_three xs ys zs x y z = both_empty xs (ys ++ (zs ++ [])) x (both_empty ys (zs ++ []) y (both_empty zs [] z refl))

swapped_once : (q : Path) (a b c : Tree) → early_names q (conditional (negation a) b c) ≡ [] → early_names q (conditional a c b) ≡ []
unfolding early_names scope_declarations
swapped_once q a b c e =
    let (x, y, z) = three_empty (early_names (q ++ 0 ∷ []) (negation a)) (early_names (q ++ 1 ∷ []) b) (early_names (q ++ 2 ∷ []) c) e in
    empty_three (early_names (q ++ 0 ∷ []) a) (early_names (q ++ 1 ∷ []) c) (early_names (q ++ 2 ∷ []) b) (operand_once (q ++ 0 ∷ []) a x) (once_anywhere (q ++ 2 ∷ []) (q ++ 1 ∷ []) c z) (once_anywhere (q ++ 1 ∷ []) (q ++ 2 ∷ []) b y)

swapped_targets : (g : Targets) (q : Path) (a b c : Tree) → early_jumps g q (conditional (negation a) b c) ≡ [] → early_jumps g q (conditional a c b) ≡ []
unfolding early_jumps targets_of
swapped_targets g q a b c e =
    let (x, y, z) = three_empty (early_jumps g (q ++ 0 ∷ []) (negation a)) (early_jumps g (q ++ 1 ∷ []) b) (early_jumps g (q ++ 2 ∷ []) c) e in
    empty_three (early_jumps g (q ++ 0 ∷ []) a) (early_jumps g (q ++ 1 ∷ []) c) (early_jumps g (q ++ 2 ∷ []) b) (operand_targets g (q ++ 0 ∷ []) a x) (targets_anywhere g (q ++ 2 ∷ []) (q ++ 1 ∷ []) c z) (targets_anywhere g (q ++ 1 ∷ []) (q ++ 2 ∷ []) b y)

pub swapped_keeps : (s : Seat) (a b c : Tree) → Keeps (Expr s) (conditional (negation a) b c) (conditional a c b)
swapped_keeps s a b c = record {
  kept = by_swap a b c;
  scoped = λ v env st r. subst (λ u. Scoped u env (conditional a c b)) (sym (choice_read s v (negation a) b c st)) (swapped_scoped env a b c (subst (λ u. Scoped u env (conditional (negation a) b c)) (choice_read s v (negation a) b c st) r));
  numbers = λ k. swapped_numbers k a b c;
  declared_as_body = λ b' q. ap unplaced (both_as_body b' q (conditional (negation a) b c) (conditional a c b) refl refl);
  once = λ q. swapped_once q a b c;
  targets = λ g q. swapped_targets g q a b c;
  loop = no_loop (conditional a c b) refl ∙ sym (no_loop (conditional (negation a) b c) refl);
  root = λ p. absurd (cc p);
  block = λ p b' q. absurd (cc p);
}

-- ---- 82

once_nil : (env : Environment) → env ++ [] ≡ env
once_nil env = append-nil env

twice_nil : (env : Environment) → (env ++ []) ++ [] ≡ env
twice_nil env = append-nil (env ++ []) ∙ once_nil env

thrice_nil : (env : Environment) → ((env ++ []) ++ []) ++ [] ≡ env
thrice_nil env = append-nil ((env ++ []) ++ []) ∙ twice_nil env

four_nil : (env : Environment) → (((env ++ []) ++ []) ++ []) ++ [] ≡ env
four_nil env = append-nil (((env ++ []) ++ []) ++ []) ∙ thrice_nil env

-- the parts of an `if` over expression statements
abbrev ThreeScoped : Environment → Tree → Tree → Tree → Type 0
ThreeScoped env a b c = Scoped Read env a × Scoped Read env b × Scoped Read env c

if_scoped : (v : Use) (env : Environment) (a b c : Tree) → Scoped v env (if_else a (expression_statement b) (expression_statement c)) → ThreeScoped env a b c
unfolding Scoped scopes_by
if_scoped v env a b c r =
    (moved Read (env ++ []) env a (once_nil env) r.1.0, moved Read (((env ++ []) ++ []) ++ []) env b (thrice_nil env) r.1.1.0.1.0, moved Read ((((env ++ []) ++ []) ++ []) ++ []) env c (four_nil env) r.1.1.1.0.1.0)

guard_scoped : (v : Use) (env : Environment) (a b : Tree) → Scoped v env (if_alone a (expression_statement b)) → Scoped Read env a × Scoped Read env b
unfolding Scoped scopes_by
guard_scoped v env a b r = (moved Read (env ++ []) env a (once_nil env) r.1.0, moved Read (((env ++ []) ++ []) ++ []) env b (thrice_nil env) r.1.1.0.1.0)

choice_scoped : (v : Use) (env : Environment) (a b c : Tree) → ThreeScoped env a b c → Scoped v env (expression_statement (conditional a b c))
unfolding Scoped scopes_by
choice_scoped v env a b c (x, y, z) =
    (tt, ((tt, (moved Read env ((env ++ []) ++ []) a (sym (twice_nil env)) x, (moved Read env (((env ++ []) ++ []) ++ []) b (sym (thrice_nil env)) y, (moved Read env ((((env ++ []) ++ []) ++ []) ++ []) c (sym (four_nil env)) z, tt)))), tt))

logical_scoped : (o : LogicalOperator) (v : Use) (env : Environment) (a b : Tree) → Scoped Read env a → Scoped Read env b → Scoped v env (expression_statement (logical o a b))
unfolding Scoped scopes_by
logical_scoped o v env a b x y = (tt, ((tt, (moved Read env ((env ++ []) ++ []) a (sym (twice_nil env)) x, (moved Read env (((env ++ []) ++ []) ++ []) b (sym (thrice_nil env)) y, tt))), tt))

-- what an `if` and an expression statement declare around them: nothing, as their expressions don't
if_names : (d : Declared) (a b c : Tree) → IsQuiet a → names_of d (if_else a (expression_statement b) (expression_statement c)) ≡ []
unfolding names_of
if_names declared.Bound a b c q = refl
if_names declared.Lexical a b c q = refl
if_names declared.Hoisted a b c q = ap (λ r. r ++ []) (no_names declared.Hoisted a q)

guard_names : (d : Declared) (a b : Tree) → IsQuiet a → names_of d (if_alone a (expression_statement b)) ≡ []
unfolding names_of
guard_names declared.Bound a b q = refl
guard_names declared.Lexical a b q = refl
guard_names declared.Hoisted a b q = ap (λ r. r ++ []) (no_names declared.Hoisted a q)

statement_names : (d : Declared) (a : Tree) → names_of d (expression_statement a) ≡ []
unfolding names_of
statement_names declared.Bound a = refl
statement_names declared.Lexical a = refl
statement_names declared.Hoisted a = refl

if_body_names : (a b c : Tree) → IsQuiet a → body_names (if_else a (expression_statement b) (expression_statement c)) ≡ []
unfolding body_names names_of
if_body_names a b c q = ap (λ r. r ++ []) (no_names declared.Hoisted a q)

guard_body_names : (a b : Tree) → IsQuiet a → body_names (if_alone a (expression_statement b)) ≡ []
unfolding body_names names_of
guard_body_names a b q = ap (λ r. r ++ []) (no_names declared.Hoisted a q)

statement_body_names : (a : Tree) → body_names (expression_statement a) ≡ []
unfolding body_names names_of
statement_body_names a = refl

if_as_body : (b' : Bool) (q : Path) (a b c : Tree) → IsQuiet a → body_declarations b' q (if_else a (expression_statement b) (expression_statement c)) ≡ []
unfolding body_declarations declarations
if_as_body b' q a b c e = ap (λ r. r ++ []) (no_declarations declared.Hoisted false (q ++ 0 ∷ []) a e)

guard_as_body : (b' : Bool) (q : Path) (a b : Tree) → IsQuiet a → body_declarations b' q (if_alone a (expression_statement b)) ≡ []
unfolding body_declarations declarations
guard_as_body b' q a b e = ap (λ r. r ++ []) (no_declarations declared.Hoisted false (q ++ 0 ∷ []) a e)

statement_as_body : (b' : Bool) (q : Path) (a : Tree) → body_declarations b' q (expression_statement a) ≡ []
unfolding body_declarations declarations
statement_as_body b' q a = refl

-- sums over the parts
choice_symbols : (x : Option SymbolId) (u : Use) (a b c : Tree) → times x (declared_in u (expression_statement (conditional a b c))) ≤ times x (declared_in u (if_else a (expression_statement b) (expression_statement c)))
unfolding declared_in scopes_by
choice_symbols x u a b c =
    let da = declared_in Read a in
    let db = declared_in Read b in
    let dc = declared_in Read c in
    omega (
      arith,
      times_both x (da ++ (db ++ (dc ++ []))) [],
      times_both x da (db ++ (dc ++ [])),
      times_both x db (dc ++ []),
      times_both x dc [],
      times_both x da ((db ++ []) ++ ((dc ++ []) ++ [])),
      times_both x (db ++ []) ((dc ++ []) ++ []),
      times_both x db [],
      times_both x (dc ++ []) [],
    )

logical_symbols : (x : Option SymbolId) (o : LogicalOperator) (u : Use) (a a' b : Tree) → times x (declared_in Read a') ≤ times x (declared_in Read a) → times x (declared_in u (expression_statement (logical o a' b))) ≤ times x (declared_in u (if_alone a (expression_statement b)))
unfolding declared_in scopes_by
logical_symbols x o u a a' b e =
    let da = declared_in Read a in
    let da' = declared_in Read a' in
    let db = declared_in Read b in
    omega (
      arith,
      e,
      times_both x (da' ++ (db ++ [])) [],
      times_both x da' (db ++ []),
      times_both x db [],
      times_both x da ((db ++ []) ++ []),
      times_both x (db ++ []) [],
    )

choice_numbers : (k : ℕ) (a b c : Tree) → count_of k (numbers (expression_statement (conditional a b c))) ≤ count_of k (numbers (if_else a (expression_statement b) (expression_statement c)))
unfolding numbers
choice_numbers k a b c =
    let na = numbers a in
    let nb = numbers b in
    let nc = numbers c in
    omega (
      arith,
      both_counts k (na ++ (nb ++ (nc ++ []))) [],
      both_counts k na (nb ++ (nc ++ [])),
      both_counts k nb (nc ++ []),
      both_counts k nc [],
      both_counts k na ((nb ++ []) ++ ((nc ++ []) ++ [])),
      both_counts k (nb ++ []) ((nc ++ []) ++ []),
      both_counts k nb [],
      both_counts k (nc ++ []) [],
    )

logical_numbers : (k : ℕ) (o : LogicalOperator) (a a' b : Tree) → count_of k (numbers a') ≤ count_of k (numbers a) → count_of k (numbers (expression_statement (logical o a' b))) ≤ count_of k (numbers (if_alone a (expression_statement b)))
unfolding numbers
logical_numbers k o a a' b e =
    let na = numbers a in
    let na' = numbers a' in
    let nb = numbers b in
    omega (
      arith,
      e,
      both_counts k (na' ++ (nb ++ [])) [],
      both_counts k na' (nb ++ []),
      both_counts k nb [],
      both_counts k na ((nb ++ []) ++ []),
      both_counts k (nb ++ []) [],
    )

choice_inner : (a b c : Tree) → has_inner (expression_statement (conditional a b c)) ≡ has_inner (if_else a (expression_statement b) (expression_statement c))
unfolding has_inner
choice_inner a b c = by (has_inner a) (has_inner b) (has_inner c)
  where
    by : (x y z : Bool) → ((x || (y || (z || false))) || false) ≡ (x || ((y || false) || ((z || false) || false)))
    by true y z = refl
    by false true z = refl
    by false false true = refl
    by false false false = refl

logical_inner : (o : LogicalOperator) (a a' b : Tree) → has_inner a' ≡ has_inner a → has_inner (expression_statement (logical o a' b)) ≡ has_inner (if_alone a (expression_statement b))
unfolding has_inner
logical_inner o a a' b e = ap (λ x. (x || (has_inner b || false)) || false) e ∙ by (has_inner a) (has_inner b)
  where
    by : (x y : Bool) → ((x || (y || false)) || false) ≡ (x || ((y || false) || false))
    by true y = refl
    by false true = refl
    by false false = refl

-- early errors of the parts
if_once : (q : Path) (a b c : Tree) → early_names q (if_else a (expression_statement b) (expression_statement c)) ≡ [] → (early_names q a ≡ []) × (early_names q b ≡ []) × (early_names q c ≡ [])
unfolding early_names scope_declarations
if_once q a b c e =
    let (x, y, z) = three_empty (early_names (q ++ 0 ∷ []) a) (early_names (q ++ 1 ∷ []) (expression_statement b)) (early_names (q ++ 2 ∷ []) (expression_statement c)) e in
    (once_anywhere (q ++ 0 ∷ []) q a x, once_anywhere ((q ++ 1 ∷ []) ++ 0 ∷ []) q b (empty_both (early_names ((q ++ 1 ∷ []) ++ 0 ∷ []) b) [] y).0, once_anywhere ((q ++ 2 ∷ []) ++ 0 ∷ []) q c (empty_both (early_names ((q ++ 2 ∷ []) ++ 0 ∷ []) c) [] z).0)

choice_once : (q : Path) (a b c : Tree) → early_names q a ≡ [] → early_names q b ≡ [] → early_names q c ≡ [] → early_names q (expression_statement (conditional a b c)) ≡ []
unfolding early_names scope_declarations
choice_once q a b c x y z =
    let r = q ++ 0 ∷ [] in
    both_empty (early_names r (conditional a b c)) [] (empty_three (early_names (r ++ 0 ∷ []) a) (early_names (r ++ 1 ∷ []) b) (early_names (r ++ 2 ∷ []) c) (once_anywhere q (r ++ 0 ∷ []) a x) (once_anywhere q (r ++ 1 ∷ []) b y) (once_anywhere q (r ++ 2 ∷ []) c z)) refl

guard_once : (q : Path) (a b : Tree) → early_names q (if_alone a (expression_statement b)) ≡ [] → (early_names q a ≡ []) × (early_names q b ≡ [])
unfolding early_names scope_declarations
guard_once q a b e =
    let (x, y, z) = three_empty (early_names (q ++ 0 ∷ []) a) (early_names (q ++ 1 ∷ []) (expression_statement b)) (early_names (q ++ 2 ∷ []) absent) e in
    (once_anywhere (q ++ 0 ∷ []) q a x, once_anywhere ((q ++ 1 ∷ []) ++ 0 ∷ []) q b (empty_both (early_names ((q ++ 1 ∷ []) ++ 0 ∷ []) b) [] y).0)

logical_once : (o : LogicalOperator) (q : Path) (a b : Tree) → early_names q a ≡ [] → early_names q b ≡ [] → early_names q (expression_statement (logical o a b)) ≡ []
unfolding early_names scope_declarations
logical_once o q a b x y =
    let r = q ++ 0 ∷ [] in
    both_empty (early_names r (logical o a b)) [] (both_empty (early_names (r ++ 0 ∷ []) a) (early_names (r ++ 1 ∷ []) b ++ []) (once_anywhere q (r ++ 0 ∷ []) a x) (both_empty (early_names (r ++ 1 ∷ []) b) [] (once_anywhere q (r ++ 1 ∷ []) b y) refl)) refl

if_targets : (g : Targets) (q : Path) (a b c : Tree) → early_jumps g q (if_else a (expression_statement b) (expression_statement c)) ≡ [] → (early_jumps g q a ≡ []) × (early_jumps g q b ≡ []) × (early_jumps g q c ≡ [])
unfolding early_jumps targets_of
if_targets g q a b c e =
    let (x, y, z) = three_empty (early_jumps g (q ++ 0 ∷ []) a) (early_jumps g (q ++ 1 ∷ []) (expression_statement b)) (early_jumps g (q ++ 2 ∷ []) (expression_statement c)) e in
    (targets_anywhere g (q ++ 0 ∷ []) q a x, targets_anywhere g ((q ++ 1 ∷ []) ++ 0 ∷ []) q b (empty_both (early_jumps g ((q ++ 1 ∷ []) ++ 0 ∷ []) b) [] y).0, targets_anywhere g ((q ++ 2 ∷ []) ++ 0 ∷ []) q c (empty_both (early_jumps g ((q ++ 2 ∷ []) ++ 0 ∷ []) c) [] z).0)

choice_targets : (g : Targets) (q : Path) (a b c : Tree) → early_jumps g q a ≡ [] → early_jumps g q b ≡ [] → early_jumps g q c ≡ [] → early_jumps g q (expression_statement (conditional a b c)) ≡ []
unfolding early_jumps targets_of
choice_targets g q a b c x y z =
    let r = q ++ 0 ∷ [] in
    both_empty (early_jumps g r (conditional a b c)) [] (empty_three (early_jumps g (r ++ 0 ∷ []) a) (early_jumps g (r ++ 1 ∷ []) b) (early_jumps g (r ++ 2 ∷ []) c) (targets_anywhere g q (r ++ 0 ∷ []) a x) (targets_anywhere g q (r ++ 1 ∷ []) b y) (targets_anywhere g q (r ++ 2 ∷ []) c z)) refl

guard_targets : (g : Targets) (q : Path) (a b : Tree) → early_jumps g q (if_alone a (expression_statement b)) ≡ [] → (early_jumps g q a ≡ []) × (early_jumps g q b ≡ [])
unfolding early_jumps targets_of
guard_targets g q a b e =
    let (x, y, z) = three_empty (early_jumps g (q ++ 0 ∷ []) a) (early_jumps g (q ++ 1 ∷ []) (expression_statement b)) (early_jumps g (q ++ 2 ∷ []) absent) e in
    (targets_anywhere g (q ++ 0 ∷ []) q a x, targets_anywhere g ((q ++ 1 ∷ []) ++ 0 ∷ []) q b (empty_both (early_jumps g ((q ++ 1 ∷ []) ++ 0 ∷ []) b) [] y).0)

logical_targets : (o : LogicalOperator) (g : Targets) (q : Path) (a b : Tree) → early_jumps g q a ≡ [] → early_jumps g q b ≡ [] → early_jumps g q (expression_statement (logical o a b)) ≡ []
unfolding early_jumps targets_of
logical_targets o g q a b x y =
    let r = q ++ 0 ∷ [] in
    both_empty (early_jumps g r (logical o a b)) [] (both_empty (early_jumps g (r ++ 0 ∷ []) a) (early_jumps g (r ++ 1 ∷ []) b ++ []) (targets_anywhere g q (r ++ 0 ∷ []) a x) (both_empty (early_jumps g (r ++ 1 ∷ []) b) [] (targets_anywhere g q (r ++ 1 ∷ []) b y) refl)) refl

no_loops : (t : Tree) → shape_of t ≡ shape.ExpressionStatement ⊎ (shape_of t ≡ shape.IfStatement) → is_loop t ≡ false
unfolding is_loop
no_loops (node shape.ExpressionStatement xs n ts) e = refl
no_loops (node shape.IfStatement xs n ts) e = refl
no_loops (node h xs n ts) (inl e) = absurd (cc e)
no_loops (node h xs n ts) (inr e) = absurd (cc e)

else_keeps : (q : StmtSeat) (a b c : Tree) → IsQuiet a → Keeps (Stmt q) (if_else a (expression_statement b) (expression_statement c)) (expression_statement (conditional a b c))
else_keeps q a b c e =
    let n = if_else a (expression_statement b) (expression_statement c) in
    let w = expression_statement (conditional a b c) in
    record {
      kept = record { names = λ d. statement_names d (conditional a b c) ∙ sym (if_names d a b c e); body = statement_body_names (conditional a b c) ∙ sym (if_body_names a b c e); inner = choice_inner a b c; symbols = λ u x. choice_symbols x u a b c };
      scoped = λ v env st r. choice_scoped v env a b c (if_scoped v env a b c r);
      numbers = λ k. choice_numbers k a b c;
      declared_as_body = λ b' p. ap unplaced (statement_as_body b' p (conditional a b c) ∙ sym (if_as_body b' p a b c e));
      once = λ p r. (let (x, y, z) = if_once p a b c r in choice_once p a b c x y z);
      targets = λ g p r. (let (x, y, z) = if_targets g p a b c r in choice_targets g p a b c x y z);
      loop = no_loops w (inl refl) ∙ sym (no_loops n (inr refl));
      root = λ p. absurd (cc p);
      block = λ p b' r. absurd (cc p);
    }

guard_keeps : (q : StmtSeat) (o : LogicalOperator) (a a' b : Tree) → IsQuiet a → has_inner a' ≡ has_inner a → ((x : Option SymbolId) → times x (declared_in Read a') ≤ times x (declared_in Read a)) → ((env : Environment) → Scoped Read env a → Scoped Read env a') → ((k : ℕ) → count_of k (numbers a') ≤ count_of k (numbers a)) → ((p : Path) → early_names p a ≡ [] → early_names p a' ≡ []) → ((g : Targets) (p : Path) → early_jumps g p a ≡ [] → early_jumps g p a' ≡ []) → Keeps (Stmt q) (if_alone a (expression_statement b)) (expression_statement (logical o a' b))
guard_keeps q o a a' b e i s r k m t =
    let n = if_alone a (expression_statement b) in
    let w = expression_statement (logical o a' b) in
    record {
      kept = record { names = λ d. statement_names d (logical o a' b) ∙ sym (guard_names d a b e); body = statement_body_names (logical o a' b) ∙ sym (guard_body_names a b e); inner = logical_inner o a a' b i; symbols = λ u x. logical_symbols x o u a a' b (s x) };
      scoped = λ v env st h. (let (x, y) = guard_scoped v env a b h in logical_scoped o v env a' b (r env x) y);
      numbers = λ j. logical_numbers j o a a' b (k j);
      declared_as_body = λ b' p. ap unplaced (statement_as_body b' p (logical o a' b) ∙ sym (guard_as_body b' p a b e));
      once = λ p h. (let (x, y) = guard_once p a b h in logical_once o p a' b (m p x) y);
      targets = λ g p h. (let (x, y) = guard_targets g p a b h in logical_targets o g p a' b (t g p x) y);
      loop = no_loops w (inl refl) ∙ sym (no_loops n (inr refl));
      root = λ p. absurd (cc p);
      block = λ p b' h. absurd (cc p);
    }

-- ---- the rows

same_trees : (p : Position) (n n' w w' : Tree) → n ≡ n' → w ≡ w' → Keeps p n' w' → Keeps p n w
same_trees p n n' w w' e f k = subst (λ t. Keeps p t w) (sym e) (subst (λ t. Keeps p n' t) (sym f) k)

row_keeps : (p : Position) (n w : Tree) → Row p n w → (strict : Bool) (s : Slot) → fits strict s n ≡ true → Keeps p n w
row_keeps (Expr seat) n w (inl r) strict s e =
    let fit = (of_negation strict s r.e (subst (λ t. fits strict s t ≡ true) r.shape e)).1 in
    same_trees (Expr seat) n (negation r.e) w (neg seat r.e) r.shape r.written (unary_keeps seat r.e strict fit)
row_keeps (Expr seat) n w (inr r) strict s e = same_trees (Expr seat) n (conditional (negation r.a) r.b r.c) w (conditional r.a r.c r.b) r.shape r.written (swapped_keeps seat r.a r.b r.c)
row_keeps (Stmt q) n w (inl r) strict s e =
    let (takes, (test, consequent, alternate)) = of_if strict s r.a (expression_statement r.b) (expression_statement r.c) (subst (λ t. fits strict s t ≡ true) r.shape e) in
    same_trees (Stmt q) n (if_else r.a (expression_statement r.b) (expression_statement r.c)) w (expression_statement (conditional r.a r.b r.c)) r.shape r.written (else_keeps q r.a r.b r.c (expression_is_quiet strict r.a test))
row_keeps (Stmt q) n w (inr (inl r)) strict s e =
    let (takes, (test, consequent, alternate)) = of_if strict s r.a (expression_statement r.b) absent (subst (λ t. fits strict s t ≡ true) r.shape e) in
    same_trees (Stmt q) n (if_alone r.a (expression_statement r.b)) w (expression_statement (logical And r.a r.b)) r.shape r.written
    (guard_keeps q And r.a r.a r.b (expression_is_quiet strict r.a test) refl (λ x. omega arith) (λ env h. h) (λ k. omega arith) (λ p h. h) (λ g p h. h))
row_keeps (Stmt q) n w (inr (inr r)) strict s e =
    let (takes, (test, consequent, alternate)) = of_if strict s r.a (expression_statement r.b) absent (subst (λ t. fits strict s t ≡ true) r.shape e) in
    let seat = left_operand_seat Or statement_expression_seat in
    same_trees (Stmt q) n (if_alone r.a (expression_statement r.b)) w (expression_statement (logical Or (not_of seat r.a) r.b)) r.shape r.written
    (guard_keeps q Or r.a (not_of seat r.a) r.b (expression_is_quiet strict r.a test) (inner_not seat r.a) (λ x. omega (arith, symbols_not x seat r.a)) (λ env h. scoped_not env seat r.a h) (λ k. numbers_not k seat r.a) (λ p h. once_not p seat r.a h) (λ g p h. targets_not g p seat r.a h))
row_keeps p n w r strict s e = absurd r

row_place : (p : Position) (n w : Tree) → Row p n w → is_rewritten_place p ≡ true
row_place (Expr s) n w r = refl
row_place (Stmt q) n w r = refl
row_place p n w r = absurd r

-- it is no list of statements
pub row_elsewhere : (p : Position) (n w : Tree) → Row p n w → is_statement_list p ≡ false
row_elsewhere (Expr s) n w r = refl
row_elsewhere (Stmt q) n w r = refl
row_elsewhere p n w r = absurd r

row_piece : (p : Position) (n w : Tree) → Row p n w → is_piece (shape_of n) ≡ false
row_piece (Expr s) n w (inl r) = ap (λ t. is_piece (shape_of t)) r.shape
row_piece (Expr s) n w (inr r) = ap (λ t. is_piece (shape_of t)) r.shape
row_piece (Stmt q) n w (inl r) = ap (λ t. is_piece (shape_of t)) r.shape
row_piece (Stmt q) n w (inr (inl r)) = ap (λ t. is_piece (shape_of t)) r.shape
row_piece (Stmt q) n w (inr (inr r)) = ap (λ t. is_piece (shape_of t)) r.shape
row_piece p n w r = absurd r

-- what the rows contract keeps the names
pub contracts_keep : KeepsNames Contracts
contracts_keep = record { places = λ p n w c. inl (row_place p n w c.row); pieces = λ p n w c. row_piece p n w c.row; keeps = λ p n w c strict s k e. in_order p n w (row_keeps p n w c.row strict s e) }
