-- What the negation of an expression keeps.
use Rattle.std.specs.Prelude.{ℕ, zero, suc, ◌≤◌, ◌≡◌, refl, ◌||◌, nat_lt, Bool, true, false, List, [], ◌∷◌, ◌++◌, if◌then◌else◌}
use Rattle.std.proofs.Common.{ap, ◌∙◌, sym, arith}
use Rattle.std.proofs.lemmas.List.{append-nil}
use Rattle.mini_model.specs.declared.name.Name.{Name}
use Rattle.mini_model.specs.declared.name.SymbolId.{SymbolId}
use Rattle.mini_model.specs.declared.operator.BinaryOperator.{BinaryOperator}
use Rattle.mini_model.specs.declared.operator.LogicalOperator.TheVariants.{Or, And}
use Rattle.mini_model.specs.declared.operator.UnaryOperator.TheVariants.{LogicalNot}
use Rattle.mini_model.specs.declared.place.Position.TheVariants.{Expr}
use Rattle.mini_model.specs.declared.seat.Seat.{Seat}
use Rattle.mini_model.specs.declared.shape.Shape.{Shape}
use Rattle.mini_model.specs.declared.shape.Shape.TheVariants as shape
use Rattle.mini_model.specs.Tree.{Tree, Trees, node, none, ◌▸◌, negation}
use Rattle.mini_model.specs.Weight.{weight}
use Rattle.mini_model.specs.Position.{is_equality}
use Rattle.mini_model.specs.Terms.{is_boolean, turned_seat, unwrapped, turned_equality, neg, neg_each, not_of}
use Rattle.std.specs.Prelude.{Option}
use Rattle.mini_laws.specs.declared.names.Use.TheVariants.{Read}
use Rattle.mini_laws.specs.declared.names.Targets.{Targets}
use Rattle.mini_laws.specs.DeclaredNames.{has_inner, any_inner}
use Rattle.mini_laws.specs.Scopes.{scopes_by}
use Rattle.mini_laws.specs.Resolved.{Environment}
use Rattle.mini_laws.specs.Scoped.{Scoped, AllScoped}
use Rattle.mini_laws.specs.Symbols.{declared as declared_in, declared_from, times}
use Rattle.mini_laws.specs.Early.{Path, scope_declarations, early_names, all_early_names, targets_of, early_jumps, all_early_jumps}
use Rattle.mini_laws.proofs.Changes.{times_both}
use Rattle.mini_laws.proofs.Drops.{moved}
use Rattle.mini_kept.specs.Carried.{numbers, all_numbers, with_number}
use Rattle.mini_kept.specs.KeepsNames.{count_of}
use Rattle.mini_kept.proofs.Below.{both_counts, empty_both, both_empty}
use Rattle.mini_kept.proofs.Anywhere.{once_anywhere, targets_anywhere}

-- what holds of the lighter of two holds of both
chosen : (P : Tree → Type 0) (b : Bool) (t u : Tree) → P t → P u → P (if b then t else u)
chosen P true t u x y = x
chosen P false t u x y = y

either_negation : (P : Tree → Type 0) (s : Seat) (t : Tree) → P (negation t) → P (neg s t) → P (not_of s t)
either_negation P s t x y = chosen P (nat_lt (weight (Expr s) (negation t)) (weight (Expr s) (neg s t))) (negation t) (neg s t) x y

-- ---- whether an inner expression stands in it

or_none : (b : Bool) → (b || false) ≡ b
or_none true = refl
or_none false = refl

inner_unwrapped : (b : Bool) (a n : Tree) → has_inner n ≡ has_inner a → has_inner (unwrapped b a n) ≡ has_inner a
unfolding has_inner
inner_unwrapped true a n e = refl
inner_unwrapped false a n e = or_none (has_inner n) ∙ e

inner_turned : (b : Bool) (o : BinaryOperator) (xs : List Name) (n : ℕ) (ts : Trees) → has_inner (turned_equality b o xs n ts) ≡ has_inner (node (shape.BinaryExpression o) xs n ts)
unfolding has_inner
inner_turned true o xs n ts = refl
inner_turned false o xs n ts = or_none (has_inner (node (shape.BinaryExpression o) xs n ts))

mutual
  unfolding has_inner

  pub inner_negated : (s : Seat) (t : Tree) → has_inner (neg s t) ≡ has_inner t
  inner_negated s (node (shape.LogicalExpression And) xs n ts) = inner_each (turned_seat (shape.LogicalExpression And) s) ts
  inner_negated s (node (shape.LogicalExpression Or) xs n ts) = inner_each (turned_seat (shape.LogicalExpression Or) s) ts
  inner_negated s (node (shape.UnaryExpression LogicalNot) xs n (a ▸ none)) = inner_unwrapped (s.boolean || is_boolean a) a (node (shape.UnaryExpression LogicalNot) xs n (a ▸ none)) (or_none (has_inner a)) ∙ sym (or_none (has_inner a))
  inner_negated s (node (shape.BinaryExpression o) xs n ts) = inner_turned (is_equality o) o xs n ts
  inner_negated s (node h xs n ts) = or_none (has_inner (node h xs n ts))

  inner_each : (σ : ℕ → Seat) (ts : Trees) → any_inner (neg_each σ ts) ≡ any_inner ts
  inner_each σ none = refl
  inner_each σ (t ▸ ts) = ap (λ b. b || any_inner (neg_each (λ i. σ (suc i)) ts)) (inner_negated (σ zero) t) ∙ ap (λ b. has_inner t || b) (inner_each (λ i. σ (suc i)) ts)

-- ---- symbols

abbrev quiet : ℕ → Trees → List (Option SymbolId)
quiet i ts = declared_from (λ k. []) (λ k. Read) i ts

symbols_of_negation : (x : Option SymbolId) (t : Tree) → times x (declared_in Read (negation t)) ≡ times x (declared_in Read t)
unfolding declared_in scopes_by
symbols_of_negation x t = ap (times x) (append-nil (declared_in Read t))

symbols_unwrapped : (x : Option SymbolId) (b : Bool) (a n : Tree) → times x (declared_in Read n) ≡ times x (declared_in Read a) → times x (declared_in Read (unwrapped b a n)) ≡ times x (declared_in Read a)
symbols_unwrapped x true a n e = refl
symbols_unwrapped x false a n e = symbols_of_negation x n ∙ e

symbols_turned : (x : Option SymbolId) (b : Bool) (o : BinaryOperator) (xs : List Name) (n : ℕ) (ts : Trees) → times x (declared_in Read (turned_equality b o xs n ts)) ≡ times x (declared_in Read (node (shape.BinaryExpression o) xs n ts))
unfolding declared_in scopes_by
symbols_turned x true o xs n ts = refl
symbols_turned x false o xs n ts = symbols_of_negation x (node (shape.BinaryExpression o) xs n ts)

mutual
  unfolding declared_in scopes_by

  pub symbols_negated : (x : Option SymbolId) (s : Seat) (t : Tree) → times x (declared_in Read (neg s t)) ≡ times x (declared_in Read t)
  symbols_negated x s (node (shape.LogicalExpression And) xs n ts) = symbols_each x (turned_seat (shape.LogicalExpression And) s) 0 ts
  symbols_negated x s (node (shape.LogicalExpression Or) xs n ts) = symbols_each x (turned_seat (shape.LogicalExpression Or) s) 0 ts
  symbols_negated x s (node (shape.UnaryExpression LogicalNot) xs n (a ▸ none)) =
      let own = ap (times x) (append-nil (declared_in Read a)) in
      symbols_unwrapped x (s.boolean || is_boolean a) a (node (shape.UnaryExpression LogicalNot) xs n (a ▸ none)) own ∙ sym own
  symbols_negated x s (node (shape.BinaryExpression o) xs n ts) = symbols_turned x (is_equality o) o xs n ts
  symbols_negated x s (node h xs n ts) = symbols_of_negation x (node h xs n ts)

  symbols_each : (x : Option SymbolId) (σ : ℕ → Seat) (i : ℕ) (ts : Trees) → times x (quiet i (neg_each σ ts)) ≡ times x (quiet i ts)
  symbols_each x σ i none = refl
  symbols_each x σ i (t ▸ ts) =
      omega (arith, symbols_negated x (σ zero) t, symbols_each x (λ j. σ (suc j)) (suc i) ts, times_both x (declared_in Read (neg (σ zero) t)) (quiet (suc i) (neg_each (λ j. σ (suc j)) ts)), times_both x (declared_in Read t) (quiet (suc i) ts))

-- ---- names

scoped_negation : (env : Environment) (t : Tree) → Scoped Read env t → Scoped Read env (negation t)
unfolding Scoped scopes_by
scoped_negation env t s = (tt, (moved Read env (env ++ []) t (sym (append-nil env)) s, tt))

scoped_unwrapped : (env : Environment) (b : Bool) (a n : Tree) → Scoped Read env a → Scoped Read env n → Scoped Read env (unwrapped b a n)
scoped_unwrapped env true a n s r = s
scoped_unwrapped env false a n s r = scoped_negation env n r

scoped_turned : (env : Environment) (b : Bool) (o : BinaryOperator) (xs : List Name) (n : ℕ) (ts : Trees) → Scoped Read env (node (shape.BinaryExpression o) xs n ts) → Scoped Read env (turned_equality b o xs n ts)
unfolding Scoped scopes_by
scoped_turned env true o xs n ts r = r
scoped_turned env false o xs n ts r = scoped_negation env (node (shape.BinaryExpression o) xs n ts) r

mutual
  unfolding Scoped scopes_by

  pub scoped_negated : (env : Environment) (s : Seat) (t : Tree) → Scoped Read env t → Scoped Read env (neg s t)
  scoped_negated env s (node (shape.LogicalExpression And) xs n ts) r = (r.0, scoped_each env (turned_seat (shape.LogicalExpression And) s) 0 ts r.1)
  scoped_negated env s (node (shape.LogicalExpression Or) xs n ts) r = (r.0, scoped_each env (turned_seat (shape.LogicalExpression Or) s) 0 ts r.1)
  scoped_negated env s (node (shape.UnaryExpression LogicalNot) xs n (a ▸ none)) r = scoped_unwrapped env (s.boolean || is_boolean a) a (node (shape.UnaryExpression LogicalNot) xs n (a ▸ none)) (moved Read (env ++ []) env a (append-nil env) r.1.0) r
  scoped_negated env s (node (shape.BinaryExpression o) xs n ts) r = scoped_turned env (is_equality o) o xs n ts r
  scoped_negated env s (node h xs n ts) r = scoped_negation env (node h xs n ts) r

  scoped_each : (env : Environment) (σ : ℕ → Seat) (i : ℕ) (ts : Trees) → AllScoped (λ k. []) (λ k. Read) i env ts → AllScoped (λ k. []) (λ k. Read) i env (neg_each σ ts)
  scoped_each env σ i none r = tt
  scoped_each env σ i (t ▸ ts) r = (scoped_negated (env ++ []) (σ zero) t r.0, scoped_each (env ++ []) (λ j. σ (suc j)) (suc i) ts r.1)

-- ---- numbers

with_more : (k n : ℕ) (ns : List ℕ) → count_of k ns ≤ count_of k (with_number n ns)
with_more k zero ns = omega arith
with_more k (suc n) ns = omega arith

with_fewer : (k n : ℕ) (ns ms : List ℕ) → count_of k ns ≤ count_of k ms → count_of k (with_number n ns) ≤ count_of k (with_number n ms)
with_fewer k zero ns ms e = e
with_fewer k (suc n) ns ms e = omega (arith, e)

numbers_of_negation : (k : ℕ) (t : Tree) → count_of k (numbers (negation t)) ≤ count_of k (numbers t)
unfolding numbers
numbers_of_negation k t = omega (arith, both_counts k (numbers t) [])

numbers_unwrapped : (k : ℕ) (b : Bool) (a n : Tree) → count_of k (numbers a) ≤ count_of k (numbers n) → count_of k (numbers (unwrapped b a n)) ≤ count_of k (numbers n)
numbers_unwrapped k true a n e = e
numbers_unwrapped k false a n e = numbers_of_negation k n

operand_numbers : (k : ℕ) (h : Shape) (xs : List Name) (n : ℕ) (a : Tree) → count_of k (numbers a) ≤ count_of k (numbers (node h xs n (a ▸ none)))
unfolding numbers
operand_numbers k h xs n a = omega (arith, with_more k n (numbers a ++ []), both_counts k (numbers a) [])

numbers_turned : (k : ℕ) (b : Bool) (o : BinaryOperator) (xs : List Name) (n : ℕ) (ts : Trees) → count_of k (numbers (turned_equality b o xs n ts)) ≤ count_of k (numbers (node (shape.BinaryExpression o) xs n ts))
unfolding numbers
numbers_turned k true o xs n ts = omega arith
numbers_turned k false o xs n ts = numbers_of_negation k (node (shape.BinaryExpression o) xs n ts)

mutual
  unfolding numbers

  pub numbers_negated : (k : ℕ) (s : Seat) (t : Tree) → count_of k (numbers (neg s t)) ≤ count_of k (numbers t)
  numbers_negated k s (node (shape.LogicalExpression And) xs n ts) = with_fewer k n (all_numbers (neg_each (turned_seat (shape.LogicalExpression And) s) ts)) (all_numbers ts) (numbers_each k (turned_seat (shape.LogicalExpression And) s) ts)
  numbers_negated k s (node (shape.LogicalExpression Or) xs n ts) = with_fewer k n (all_numbers (neg_each (turned_seat (shape.LogicalExpression Or) s) ts)) (all_numbers ts) (numbers_each k (turned_seat (shape.LogicalExpression Or) s) ts)
  numbers_negated k s (node (shape.UnaryExpression LogicalNot) xs n (a ▸ none)) =
      numbers_unwrapped k (s.boolean || is_boolean a) a (node (shape.UnaryExpression LogicalNot) xs n (a ▸ none)) (operand_numbers k (shape.UnaryExpression LogicalNot) xs n a)
  numbers_negated k s (node (shape.BinaryExpression o) xs n ts) = numbers_turned k (is_equality o) o xs n ts
  numbers_negated k s (node h xs n ts) = numbers_of_negation k (node h xs n ts)

  numbers_each : (k : ℕ) (σ : ℕ → Seat) (ts : Trees) → count_of k (all_numbers (neg_each σ ts)) ≤ count_of k (all_numbers ts)
  numbers_each k σ none = omega arith
  numbers_each k σ (t ▸ ts) =
      omega (arith, numbers_negated k (σ zero) t, numbers_each k (λ i. σ (suc i)) ts, both_counts k (numbers (neg (σ zero) t)) (all_numbers (neg_each (λ i. σ (suc i)) ts)), both_counts k (numbers t) (all_numbers ts))

-- ---- early errors

once_of_negation : (q : Path) (t : Tree) → early_names q t ≡ [] → early_names q (negation t) ≡ []
unfolding early_names scope_declarations
once_of_negation q t e = both_empty (early_names (q ++ 0 ∷ []) t) [] (once_anywhere q (q ++ 0 ∷ []) t e) refl

once_unwrapped : (q : Path) (b : Bool) (a n : Tree) → early_names q a ≡ [] → early_names q n ≡ [] → early_names q (unwrapped b a n) ≡ []
once_unwrapped q true a n e f = e
once_unwrapped q false a n e f = once_of_negation q n f

once_turned : (q : Path) (b : Bool) (o : BinaryOperator) (xs : List Name) (n : ℕ) (ts : Trees) → early_names q (node (shape.BinaryExpression o) xs n ts) ≡ [] → early_names q (turned_equality b o xs n ts) ≡ []
unfolding early_names scope_declarations
once_turned q true o xs n ts e = e
once_turned q false o xs n ts e = once_of_negation q (node (shape.BinaryExpression o) xs n ts) e

mutual
  unfolding early_names scope_declarations

  pub once_negated : (q : Path) (s : Seat) (t : Tree) → early_names q t ≡ [] → early_names q (neg s t) ≡ []
  once_negated q s (node (shape.LogicalExpression And) xs n ts) e = once_each q (turned_seat (shape.LogicalExpression And) s) 0 ts e
  once_negated q s (node (shape.LogicalExpression Or) xs n ts) e = once_each q (turned_seat (shape.LogicalExpression Or) s) 0 ts e
  once_negated q s (node (shape.UnaryExpression LogicalNot) xs n (a ▸ none)) e =
      once_unwrapped q (s.boolean || is_boolean a) a (node (shape.UnaryExpression LogicalNot) xs n (a ▸ none)) (once_anywhere (q ++ 0 ∷ []) q a (empty_both (early_names (q ++ 0 ∷ []) a) [] e).0) e
  once_negated q s (node (shape.BinaryExpression o) xs n ts) e = once_turned q (is_equality o) o xs n ts e
  once_negated q s (node h xs n ts) e = once_of_negation q (node h xs n ts) e

  once_each : (q : Path) (σ : ℕ → Seat) (i : ℕ) (ts : Trees) → all_early_names q i ts ≡ [] → all_early_names q i (neg_each σ ts) ≡ []
  once_each q σ i none e = refl
  once_each q σ i (t ▸ ts) e =
      let (own, rest) = empty_both (early_names (q ++ i ∷ []) t) (all_early_names q (suc i) ts) e in
      both_empty (early_names (q ++ i ∷ []) (neg (σ zero) t)) (all_early_names q (suc i) (neg_each (λ j. σ (suc j)) ts)) (once_negated (q ++ i ∷ []) (σ zero) t own) (once_each q (λ j. σ (suc j)) (suc i) ts rest)

targets_of_negation : (a : Targets) (q : Path) (t : Tree) → early_jumps a q t ≡ [] → early_jumps a q (negation t) ≡ []
unfolding early_jumps targets_of
targets_of_negation a q t e = both_empty (early_jumps a (q ++ 0 ∷ []) t) [] (targets_anywhere a q (q ++ 0 ∷ []) t e) refl

targets_unwrapped : (g : Targets) (q : Path) (b : Bool) (a n : Tree) → early_jumps g q a ≡ [] → early_jumps g q n ≡ [] → early_jumps g q (unwrapped b a n) ≡ []
targets_unwrapped g q true a n e f = e
targets_unwrapped g q false a n e f = targets_of_negation g q n f

targets_turned : (g : Targets) (q : Path) (b : Bool) (o : BinaryOperator) (xs : List Name) (n : ℕ) (ts : Trees) → early_jumps g q (node (shape.BinaryExpression o) xs n ts) ≡ [] → early_jumps g q (turned_equality b o xs n ts) ≡ []
unfolding early_jumps targets_of
targets_turned g q true o xs n ts e = e
targets_turned g q false o xs n ts e = targets_of_negation g q (node (shape.BinaryExpression o) xs n ts) e

mutual
  unfolding early_jumps targets_of

  pub targets_negated : (g : Targets) (q : Path) (s : Seat) (t : Tree) → early_jumps g q t ≡ [] → early_jumps g q (neg s t) ≡ []
  targets_negated g q s (node (shape.LogicalExpression And) xs n ts) e = targets_each g q (turned_seat (shape.LogicalExpression And) s) 0 ts e
  targets_negated g q s (node (shape.LogicalExpression Or) xs n ts) e = targets_each g q (turned_seat (shape.LogicalExpression Or) s) 0 ts e
  targets_negated g q s (node (shape.UnaryExpression LogicalNot) xs n (a ▸ none)) e =
      targets_unwrapped g q (s.boolean || is_boolean a) a (node (shape.UnaryExpression LogicalNot) xs n (a ▸ none)) (targets_anywhere g (q ++ 0 ∷ []) q a (empty_both (early_jumps g (q ++ 0 ∷ []) a) [] e).0) e
  targets_negated g q s (node (shape.BinaryExpression o) xs n ts) e = targets_turned g q (is_equality o) o xs n ts e
  targets_negated g q s (node h xs n ts) e = targets_of_negation g q (node h xs n ts) e

  targets_each : (g : Targets) (q : Path) (σ : ℕ → Seat) (i : ℕ) (ts : Trees) → all_early_jumps (λ k. g) q i ts ≡ [] → all_early_jumps (λ k. g) q i (neg_each σ ts) ≡ []
  targets_each g q σ i none e = refl
  targets_each g q σ i (t ▸ ts) e =
      let (own, rest) = empty_both (early_jumps g (q ++ i ∷ []) t) (all_early_jumps (λ k. g) q (suc i) ts) e in
      both_empty (early_jumps g (q ++ i ∷ []) (neg (σ zero) t)) (all_early_jumps (λ k. g) q (suc i) (neg_each (λ j. σ (suc j)) ts)) (targets_negated g (q ++ i ∷ []) (σ zero) t own) (targets_each g q (λ j. σ (suc j)) (suc i) ts rest)

-- ---- the lighter of `!e` and the negation

pub inner_not : (s : Seat) (t : Tree) → has_inner (not_of s t) ≡ has_inner t
unfolding has_inner
inner_not s t = either_negation (λ u. has_inner u ≡ has_inner t) s t (or_none (has_inner t)) (inner_negated s t)

pub symbols_not : (x : Option SymbolId) (s : Seat) (t : Tree) → times x (declared_in Read (not_of s t)) ≡ times x (declared_in Read t)
symbols_not x s t = either_negation (λ u. times x (declared_in Read u) ≡ times x (declared_in Read t)) s t (symbols_of_negation x t) (symbols_negated x s t)

pub scoped_not : (env : Environment) (s : Seat) (t : Tree) → Scoped Read env t → Scoped Read env (not_of s t)
scoped_not env s t r = either_negation (λ u. Scoped Read env u) s t (scoped_negation env t r) (scoped_negated env s t r)

pub numbers_not : (k : ℕ) (s : Seat) (t : Tree) → count_of k (numbers (not_of s t)) ≤ count_of k (numbers t)
numbers_not k s t = either_negation (λ u. count_of k (numbers u) ≤ count_of k (numbers t)) s t (numbers_of_negation k t) (numbers_negated k s t)

pub once_not : (q : Path) (s : Seat) (t : Tree) → early_names q t ≡ [] → early_names q (not_of s t) ≡ []
once_not q s t e = either_negation (λ u. early_names q u ≡ []) s t (once_of_negation q t e) (once_negated q s t e)

pub targets_not : (g : Targets) (q : Path) (s : Seat) (t : Tree) → early_jumps g q t ≡ [] → early_jumps g q (not_of s t) ≡ []
targets_not g q s t e = either_negation (λ u. early_jumps g q u ≡ []) s t (targets_of_negation g q t e) (targets_negated g q s t e)
