-- Which demand goes with which place: the marks of a seat say what the model asks there.
use Rattle.std.specs.Prelude.{◌≡◌, ◌⊎◌, true, false, Some}
use Rattle.mini_model.specs.declared.place.Position.{Position}
use Rattle.mini_model.specs.declared.place.Position.TheVariants.{Expr, Stmt, StatementList, BodyList, ArgumentList, SequenceList, TemplateList}
use Rattle.mini_model.specs.declared.seat.Guard.TheVariants as guard
use Rattle.mini_laws.specs.Demand.{Test, Unused, FunctionTail, Demand, As, Callee, OfType, Deleted, Target, Items, Parts, Texts, Stat}

-- in a seat with no mark anything may be asked but a reference: a callee, the operand of `typeof`
-- and that of `delete` have a guard, and what is assigned to stands at a place of its own. An
-- unused seat, in the head of a `for`, may hold a declaration. A function's body ends where its
-- statements do. What no parent asks counts as a statement
abbrev pub Fits : Position → Demand → Type 0
Fits (Expr s) (As w) = (s.boolean ≡ true → w ≡ Test) × (s.unused ≡ true → (w ≡ Unused) ⊎ (w ≡ Test))
Fits (Expr s) (Stat t) = s.boolean ≡ false
Fits (Expr s) Callee = (s.boolean ≡ false) × (s.unused ≡ false) × (s.guard ≡ guard.Callee)
Fits (Expr s) OfType = (s.boolean ≡ false) × (s.unused ≡ false) × (s.guard ≡ guard.Typeof)
Fits (Expr s) Deleted = (s.boolean ≡ false) × (s.unused ≡ false) × (s.guard ≡ guard.Delete)
Fits (Expr s) Target = ⊥
Fits (Expr s) q = (s.boolean ≡ false) × (s.unused ≡ false)
Fits (Stmt k) (Stat t) = Unit {0}
Fits (Stmt k) q = ⊥
Fits StatementList (Stat t) = Unit {0}
Fits StatementList q = ⊥
Fits BodyList (Stat (Some FunctionTail)) = Unit {0}
Fits BodyList q = ⊥
Fits ArgumentList Items = Unit {0}
Fits ArgumentList (Stat t) = Unit {0}
Fits ArgumentList q = ⊥
Fits (SequenceList s) (Parts w) = (s.boolean ≡ true → w ≡ Test) × (s.unused ≡ true → (w ≡ Unused) ⊎ (w ≡ Test))
Fits (SequenceList s) q = ⊥
Fits TemplateList Texts = Unit {0}
Fits TemplateList q = ⊥
Fits p Callee = ⊥
Fits p OfType = ⊥
Fits p Deleted = ⊥
Fits p q = Unit {0}
