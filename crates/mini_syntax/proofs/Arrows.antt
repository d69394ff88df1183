-- The rewrite is that of row 59, and always lighter.
use Rattle.std.proofs.Common.{◌≡◌, ℕ, zero, suc, Bool, true, false, List, [], ◌∷◌, length, refl, sym, ap, subst, ◌∙◌, true≢false}
use Rattle.std.specs.Prelude.{◌==◌, not, nat_eq, Option, Some, None, is_some, unwrap_or, if◌then◌else◌}
use Rattle.std.proofs.lemmas.Bool.{and_parts}
use Rattle.std.proofs.Math.Dec.{eqb-suc-zero, eqb-suc-suc}
use Rattle.mini_model.specs.declared.place.Position.TheVariants.{Expr}
use Rattle.mini_model.specs.declared.seat.Seat.{Seat}
use Rattle.mini_model.specs.declared.shape.Shape.TheVariants as shape
use Rattle.mini_model.specs.Tree.{Tree, Trees, node, none, ◌▸◌, listed, shape_of, count, is_absent}
use Rattle.mini_node.specs.Children.{part, with_child}
use Rattle.mini_node.specs.Kinds.{is_return_statement}
use Rattle.mini_node.specs.Made.{return_statement_is}
use Rattle.mini_rows.specs.Arrows.{arrow, returning, Row59}
use Rattle.mini_rows.proofs.ArrowWeights.{arrows_lighter}
use Rattle.mini_tree.specs.Rule.{Applied}
use Rattle.mini_tree.proofs.Reaching.{moves_once}
use Rattle.mini_syntax.specs.SubstituteArrowExpression.{is_absent_shape, are_none, are_two, returned, returns, is_returning, unwrapped, written, Gives, Rests}

false_not_true : false ≡ true → ⊥
false_not_true e = true≢false (sym e)

-- ---- tests by counts

pub none_by_length : (ds : List (List ℕ)) → (length ds == 0) ≡ are_none ds
none_by_length [] = refl
none_by_length (d ∷ ds) = eqb-suc-zero (length ds)

pub two_by_count : (ts : Trees) → nat_eq (count ts) 2 ≡ are_two ts
two_by_count none = refl
two_by_count (t ▸ none) = refl
two_by_count (t ▸ (u ▸ none)) = refl
two_by_count (t ▸ (u ▸ (v ▸ ts))) = eqb-suc-suc (suc (suc (count ts))) 1 ∙ eqb-suc-suc (suc (count ts)) 0 ∙ eqb-suc-zero (count ts)

pub with_twice : (ts : Trees) (k : ℕ) (x y : Tree) → with_child (with_child ts k x) k y ≡ with_child ts k y
with_twice none k x y = refl
with_twice (t ▸ ts) zero x y = refl
with_twice (t ▸ ts) (suc k) x y = ap (λ us. t ▸ us) (with_twice ts k x y)

pub count_with : (ts : Trees) (k : ℕ) (x : Tree) → count (with_child ts k x) ≡ count ts
count_with none k x = refl
count_with (t ▸ ts) zero x = refl
count_with (t ▸ ts) (suc k) x = ap suc (count_with ts k x)

-- ---- what a test says

not_true : (b : Bool) → not b ≡ true → b ≡ false
not_true true e = absurd (true≢false (sym e))
not_true false e = refl

present : (t : Tree) → is_absent_shape (shape_of t) ≡ false → is_absent t ≡ false
present (node shape.Absent xs n ts) e = absurd (true≢false e)
present (node h xs n ts) e = refl

shape_present : (t : Tree) → is_absent t ≡ false → is_absent_shape (shape_of t) ≡ false
shape_present (node shape.Absent xs n ts) e = absurd (true≢false e)
shape_present (node h xs n ts) e = refl

record Returned (t : Tree) : Type 0 where
  is : t ≡ returning (returned t)
  there : is_absent (returned t) ≡ false

returned_is : (t : Tree) → returns t ≡ true → Returned t
returned_is (node shape.FunctionBody [] zero (node shape.Listed [] zero (r ▸ none) ▸ none)) e =
    let (is, there) = and_parts (is_return_statement r) (not (is_absent_shape (shape_of (part r 0)))) e in
    record { is = ap (λ x. node shape.FunctionBody [] 0 (listed (x ▸ none) ▸ none)) (return_statement_is r is); there = present (part r 0) (not_true (is_absent_shape (shape_of (part r 0))) there) }
returned_is (node shape.FunctionBody [] zero (u ▸ none)) e = absurd (false_not_true e)
returned_is t e = absurd (false_not_true e)

follows : (t : Tree) → is_returning t ≡ true → Row59 t (unwrapped t)
follows (node (shape.ArrowFunctionExpression []) [] n (ps ▸ (b ▸ none))) e =
    let is = returned_is b e in
    record { number = n; parameters = ps; value = returned b; there = is.there; shape = ap (arrow n ps) is.is; written = refl }
follows t e = absurd (false_not_true e)

passes : (n : ℕ) (ps v : Tree) → is_absent v ≡ false → is_returning (arrow n ps (returning v)) ≡ true
passes n ps v h = ap not (shape_present v h)

misses : (t w : Tree) → is_returning t ≡ false → Row59 t w → ⊥
misses t w e r = true≢false (sym (ap is_returning r.shape ∙ passes r.number r.parameters r.value r.there) ∙ e)

abbrev made : Tree → Bool → Option Tree
made t c = if c then Some (unwrapped t) else None

pub applied : (s : Seat) (t u : Tree) (b : Bool) → u ≡ unwrap_or (written t) t → b ≡ is_some (written t) → Applied Gives Rests (Expr s) t u b
applied s t u b e f = subst (λ v. Applied Gives Rests (Expr s) t v b) (sym e) (subst (Applied Gives Rests (Expr s) t (unwrap_or (written t) t)) (sym f) (go (is_returning t) refl))
  where
    go : (c : Bool) → is_returning t ≡ c → Applied Gives Rests (Expr s) t (unwrap_or (made t c) t) (is_some (made t c))
    go true h = let row = follows t h in moves_once Gives (Expr s) t (unwrapped t) (record { row = row; lighter = arrows_lighter (Expr s) t (unwrapped t) row })
    go false h = (refl, λ w r. misses t w h r)
