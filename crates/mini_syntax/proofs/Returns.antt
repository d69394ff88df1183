-- The rewrite is that of row 60, and always lighter.
use Rattle.std.proofs.Common.{◌≡◌, Bool, true, false, refl, sym, ap, subst, ◌∙◌, inl, inr}
use Rattle.std.specs.Prelude.{◌⊎◌, ◌&&◌, ◌||◌, Option, Some, None, is_some, unwrap_or, if◌then◌else◌}
use Rattle.std.proofs.lemmas.Bool.{and_parts}
use Rattle.mini_model.specs.declared.operator.UnaryOperator.{UnaryOperator}
use Rattle.mini_model.specs.declared.operator.UnaryOperator.TheVariants.{Void}
use Rattle.mini_model.specs.declared.place.Position.TheVariants.{Stmt}
use Rattle.mini_model.specs.declared.seat.StmtSeat.{StmtSeat}
use Rattle.mini_model.specs.Tree.{Tree, absent}
use Rattle.mini_node.specs.Children.{part}
use Rattle.mini_node.specs.Kinds.{is_return_statement, return_statement, unary_operator}
use Rattle.mini_node.specs.Made.{return_statement_is, unary_is}
use Rattle.mini_terms.specs.Folds.{is_effect_free}
use Rattle.mini_terms.specs.Parts.{leaves_nothing}
use Rattle.mini_rows.specs.Branches.{IsIdleVoid, Row60}
use Rattle.mini_rows.specs.Spellings.{IsUndefined}
use Rattle.mini_rows.proofs.BranchWeights.{branch_lighter}
use Rattle.mini_tree.specs.Rule.{Applied}
use Rattle.mini_tree.proofs.Reaching.{moves_once}
use Rattle.mini_syntax.specs.Forms.{is_void, is_undefined}
use Rattle.mini_syntax.specs.SubstituteReturnStatement.{is_idle_void, returns_undefined, written, Gives, Rests, WrittenIsRow, UnwrittenRests}
use Rattle.mini_syntax.proofs.FormsAre.{either_true, undefined_is, undefined_passes}

-- ---- what has no effect under `void`

idle_is : (t : Tree) → is_idle_void t ≡ true → IsIdleVoid t
idle_is t e =
    let (over, idle) = and_parts (is_void (unary_operator t)) (is_effect_free (part t 0) && leaves_nothing (part t 0)) e in
    let (free, dropped) = and_parts (is_effect_free (part t 0)) (leaves_nothing (part t 0)) idle in
    go (unary_operator t) refl over free dropped
  where
    go : (o : Option UnaryOperator) → unary_operator t ≡ o → is_void o ≡ true → is_effect_free (part t 0) ≡ true → leaves_nothing (part t 0) ≡ true → IsIdleVoid t
    go (Some Void) h v f d = record { operand = part t 0; effect_free = f; dropped = d; is = unary_is t Void h }
    go (Some o) h v f d = absurd (cc v)
    go None h v f d = absurd (cc v)

both_true : (a b : Bool) → a ≡ true → b ≡ true → a && b ≡ true
both_true a b e f = ap (λ c. c && b) e ∙ f

idle_passes : (t : Tree) → IsIdleVoid t → is_idle_void t ≡ true
idle_passes t i = ap is_idle_void i.is ∙ both_true (is_effect_free i.operand) (leaves_nothing i.operand) i.effect_free i.dropped

undefined_of : (t : Tree) → is_undefined t || is_idle_void t ≡ true → IsUndefined t ⊎ IsIdleVoid t
undefined_of t e = go (either_true (is_undefined t) (is_idle_void t) e)
  where
    go : (is_undefined t ≡ true) ⊎ (is_idle_void t ≡ true) → IsUndefined t ⊎ IsIdleVoid t
    go (inl h) = inl (undefined_is t h)
    go (inr h) = inr (idle_is t h)

or_second : (a b : Bool) → b ≡ true → a || b ≡ true
or_second true b e = refl
or_second false b e = e

passes_of : (t : Tree) → IsUndefined t ⊎ IsIdleVoid t → is_undefined t || is_idle_void t ≡ true
passes_of t (inl u) = ap (λ b. b || is_idle_void t) (undefined_passes t u)
passes_of t (inr i) = or_second (is_undefined t) (is_idle_void t) (idle_passes t i)

-- ---- the rewrite

row_of : (n : Tree) → returns_undefined n ≡ true → Row60 n (return_statement absent)
row_of n e =
    let (is, undefined) = and_parts (is_return_statement n) (is_undefined (part n 0) || is_idle_void (part n 0)) e in
    record { argument = part n 0; undefined = undefined_of (part n 0) undefined; shape = return_statement_is n is; written = refl }

pub written_is_row : WrittenIsRow
written_is_row n w e = go (returns_undefined n) refl e
  where
    go : (b : Bool) → returns_undefined n ≡ b → (if b then Some (return_statement absent) else None) ≡ Some w → Row60 n w
    go true h e = let is : return_statement absent ≡ w = cc e in subst (Row60 n) is (row_of n h)
    go false h e = absurd (cc e)

passes : (n w : Tree) → Row60 n w → returns_undefined n ≡ true
passes n w r = ap returns_undefined r.shape ∙ passes_of r.argument r.undefined

pub unwritten_rests : UnwrittenRests
unwritten_rests q n e w r = never (returns_undefined n) (passes n w r) e
  where
    never : (b : Bool) → b ≡ true → (if b then Some (return_statement absent) else None) ≡ None → ⊥
    never true h e = cc e
    never false h e = cc h

pub applied : (q : StmtSeat) (t u : Tree) (b : Bool) → u ≡ unwrap_or (written t) t → b ≡ is_some (written t) → Applied Gives Rests (Stmt q) t u b
applied q t u b e f = subst (λ v. Applied Gives Rests (Stmt q) t v b) (sym e) (subst (Applied Gives Rests (Stmt q) t (unwrap_or (written t) t)) (sym f) (go (written t) refl))
  where
    go : (o : Option Tree) → written t ≡ o → Applied Gives Rests (Stmt q) t (unwrap_or o t) (is_some o)
    go None h = (refl, unwritten_rests q t h)
    go (Some w) h = let row = written_is_row t w h in moves_once Gives (Stmt q) t w (row, branch_lighter (Stmt q) t w (inl (inl row)))
