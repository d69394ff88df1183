-- A side of a logical expression that goes takes along what it declares that can't be written.
use Rattle.std.specs.Prelude.{◌≡◌, ◌+◌, ◌≤◌, ◌++◌, [], Option, true, false}
use Rattle.std.proofs.Common.{◌⊎◌, inl, inr, refl, sym, ap, subst, ◌∙◌, arith}
use Rattle.mini_model.specs.declared.name.SymbolId.{SymbolId}
use Rattle.mini_model.specs.declared.operator.LogicalOperator.{LogicalOperator}
use Rattle.mini_model.specs.declared.place.Position.TheVariants.{Expr}
use Rattle.mini_model.specs.declared.seat.Seat.{Seat}
use Rattle.mini_model.specs.declared.shape.Shape.TheVariants as shape
use Rattle.mini_model.specs.Tree.{Tree, none, ◌▸◌, logical}
use Rattle.mini_laws.specs.declared.names.Use.{Use}
use Rattle.mini_laws.specs.declared.names.Use.TheVariants.{Read}
use Rattle.mini_laws.specs.Resolved.{Environment}
use Rattle.mini_laws.specs.Scoped.{Scoped}
use Rattle.mini_laws.specs.Scopes.{opened, scopes_by}
use Rattle.mini_laws.specs.Symbols.{declared as declared_in, times}
use Rattle.mini_laws.specs.Value.{Variable}
use Rattle.mini_laws.specs.State.{Writable}
use Rattle.mini_laws.specs.Fixity.{stricter, fixed_by}
use Rattle.mini_laws.proofs.Changes.{times_both}
use Rattle.mini_kept.specs.Loosely.{LessOften, FixedKept}
use Rattle.mini_kept.proofs.Fixed.{of_children}
use Rattle.mini_rows.specs.Lists.{encloses}
use Rattle.mini_rows.proofs.Enclosing.{Declares, enclosed}
use Rattle.mini_rows.proofs.ListKeptStretch.{read_is}
use Rattle.mini_rows.proofs.ListKeptValues.{stricter_alone}

module _ (o : LogicalOperator) (a b : Tree) where
  abbrev side_env : Environment → Environment
  side_env env = (env ++ opened Read (shape.LogicalExpression o) (a ▸ b ▸ none) 0) ++ opened Read (shape.LogicalExpression o) (a ▸ b ▸ none) 1

  side_scoped : (env : Environment) → Scoped Read env (logical o a b) → Scoped Read (side_env env) b
  unfolding Scoped
  side_scoped env k = k.1.1.0

  all_declared : declared_in Read (logical o a b) ≡ declared_in Read a ++ (declared_in Read b ++ [])
  unfolding declared_in scopes_by
  all_declared = refl

  less : (x : Option SymbolId) → 1 ≤ times x (declared_in Read b) → times x (declared_in Read a) + 1 ≤ times x (declared_in Read (logical o a b))
  less x there = omega (arith, there, ap (times x) all_declared, times_both x (declared_in Read a) (declared_in Read b ++ []), times_both x (declared_in Read b) [])

  side_writable : (x : Variable) → fixed_by b x ≡ Writable → fixed_by (logical o a b) x ≡ fixed_by a x
  side_writable x e =
      of_children (shape.LogicalExpression o) [] 0 (a ▸ b ▸ none) x refl
      ∙ ap (λ f. stricter (fixed_by a x) (stricter f Writable)) e
      ∙ stricter_alone (fixed_by a x)

  abbrev Told : Use → Variable → Type 0
  Told v x = (fixed_by (logical o a b) x ≡ fixed_by a x) ⊎ LessOften v x (logical o a b) a

  told : encloses false b ≡ true → (env : Environment) → Scoped Read env (logical o a b) → (x : Variable) → Told Read x
  told e env k x = by (enclosed x Read (side_env env) b e (side_scoped env k))
    where
      by : (fixed_by b x ≡ Writable) ⊎ Declares x (declared_in Read b) → Told Read x
      by (inl f) = inl (side_writable x f)
      by (inr d) = inr (record { declared = d.symbol; either = d.either; less = less d.symbol d.there })

  kept : (q : Seat) → encloses false b ≡ true → FixedKept (Expr q) (logical o a b) a
  kept q e = record { by = λ strict s p f v env st k x. subst (λ u. Told u x) (sym (read_is v st)) (told e env (subst (λ u. Scoped u env (logical o a b)) (read_is v st) k) x) }

pub side_fixed : (q : Seat) (n w : Tree) (o : LogicalOperator) (a b : Tree) → encloses false b ≡ true → n ≡ logical o a b → w ≡ a → FixedKept (Expr q) n w
side_fixed q n w o a b e f g = subst (λ t. FixedKept (Expr q) t w) (sym f) (subst (FixedKept (Expr q) (logical o a b)) (sym g) (kept o a b q e))
