-- What a row writes may stand where what it reads stood.
use Rattle.std.proofs.Common.{◌≡◌, Bool, true, [], refl, sym, subst, inl, inr}
use Rattle.std.specs.Prelude.{◌&&◌}
use Rattle.std.proofs.lemmas.Bool.{and_parts}
use Rattle.mini_model.specs.declared.operator.LogicalOperator.TheVariants.{Or, And}
use Rattle.mini_model.specs.declared.place.Position.{Position}
use Rattle.mini_model.specs.declared.place.Position.TheVariants.{Expr, Stmt}
use Rattle.mini_model.specs.declared.shape.Shape.TheVariants as shape
use Rattle.mini_model.specs.Tree.{Tree, none, ◌▸◌, negation, conditional, logical, expression_statement, absent, if_else}
use Rattle.mini_model.specs.Position.{statement_expression_seat, left_operand_seat}
use Rattle.mini_model.specs.Terms.{neg, not_of}
use Rattle.mini_model.specs.Redex.{Row}
use Rattle.mini_accept.specs.WellShaped.{nested, Class, a_statement, a_key, a_private_or_key, an_inner_key, Slot, one, one_or_absent, fits}
use Rattle.mini_kept.proofs.Bools.{left, both}
use Rattle.mini_kept.proofs.Expressions.{expression, refused_here, expression_taken, of_negation, of_conditional, neg_fits, not_of_fits, three_fit, two_fit}

abbrev pub statement : Slot
statement = one (a_statement nested)

abbrev pub last_statement : Slot
last_statement = one_or_absent (a_statement nested)

abbrev pub TakesStatementIn : Class → Type 0
TakesStatementIn (a_statement d) = Unit {0}
TakesStatementIn _ = ⊥

abbrev pub TakesStatement : Slot → Type 0
TakesStatement (one c) = TakesStatementIn c
TakesStatement (one_or_absent c) = TakesStatementIn c
TakesStatement _ = ⊥

written_in : (strict : Bool) (c : Class) (a : Tree) → TakesStatementIn c → fits strict expression a ≡ true → fits strict (one c) (expression_statement a) ≡ true
written_in strict (a_statement d) a k e = both (fits strict expression a) true e refl
written_in strict c a k e = absurd k

statement_written : (strict : Bool) (s : Slot) (a : Tree) → TakesStatement s → fits strict expression a ≡ true → fits strict s (expression_statement a) ≡ true
statement_written strict (one c) a k e = written_in strict c a k e
statement_written strict (one_or_absent c) a k e = written_in strict c a k e
statement_written strict s a k e = absurd k

abbrev pub IfFits : Bool → Tree → Tree → Tree → Type 0
IfFits strict a b c = (fits strict expression a ≡ true) × (fits strict statement b ≡ true) × (fits strict last_statement c ≡ true)

if_parts : (strict : Bool) (a b c : Tree) → (fits strict expression a && (fits strict statement b && (fits strict last_statement c && true))) ≡ true → IfFits strict a b c
if_parts strict a b c e =
    let (first, rest) = and_parts (fits strict expression a) (fits strict statement b && (fits strict last_statement c && true)) e in
    let (second, last) = and_parts (fits strict statement b) (fits strict last_statement c && true) rest in
    (first, second, left (fits strict last_statement c) true last)

if_in : (strict : Bool) (k : Class) (a b c : Tree) → fits strict (one k) (if_else a b c) ≡ true → TakesStatementIn k × IfFits strict a b c
if_in strict (a_statement d) a b c e = (tt, if_parts strict a b c e)
if_in strict (a_key true) a b c e = absurd (refused_here strict (one (a_key true)) shape.IfStatement [] 0 (a ▸ b ▸ c ▸ none) refl e)
if_in strict (a_private_or_key true) a b c e = absurd (refused_here strict (one (a_private_or_key true)) shape.IfStatement [] 0 (a ▸ b ▸ c ▸ none) refl e)
if_in strict (an_inner_key true) a b c e = absurd (refused_here strict (one (an_inner_key true)) shape.IfStatement [] 0 (a ▸ b ▸ c ▸ none) refl e)
if_in strict k a b c e = absurd (refused_here strict (one k) shape.IfStatement [] 0 (a ▸ b ▸ c ▸ none) refl e)

pub of_if : (strict : Bool) (s : Slot) (a b c : Tree) → fits strict s (if_else a b c) ≡ true → TakesStatement s × IfFits strict a b c
of_if strict (one k) a b c e = if_in strict k a b c e
of_if strict (one_or_absent k) a b c e = if_in strict k a b c e
of_if strict s a b c e = absurd (refused_here strict s shape.IfStatement [] 0 (a ▸ b ▸ c ▸ none) refl e)

pub of_statement : (strict : Bool) (a : Tree) → fits strict statement (expression_statement a) ≡ true → fits strict expression a ≡ true
of_statement strict a e = left (fits strict expression a) true e

pub of_last_statement : (strict : Bool) (a : Tree) → fits strict last_statement (expression_statement a) ≡ true → fits strict expression a ≡ true
of_last_statement strict a e = left (fits strict expression a) true e

module _ (strict : Bool) (s : Slot) where
  abbrev Here : Tree → Type 0
  Here t = fits strict s t ≡ true

  pub row_fits : (p : Position) (t u : Tree) → Row p t u → Here t → Here u
  row_fits (Expr seat) t u (inl r) e =
      let (takes, fit) = of_negation strict s r.e (subst Here r.shape e) in
      subst Here (sym r.written) (expression_taken strict s (neg seat r.e) takes (neg_fits strict r.e seat fit))
  row_fits (Expr seat) t u (inr r) e =
      let (takes, (first, second, third)) = of_conditional strict s (negation r.a) r.b r.c (subst Here r.shape e) in
      subst Here (sym r.written) (expression_taken strict s (conditional r.a r.c r.b) takes (three_fit strict r.a r.c r.b (of_negation strict expression r.a first).1 third second))
  row_fits (Stmt q) t u (inl r) e =
      let (takes, (test, consequent, alternate)) = of_if strict s r.a (expression_statement r.b) (expression_statement r.c) (subst Here r.shape e) in
      subst Here (sym r.written) (statement_written strict s (conditional r.a r.b r.c) takes (three_fit strict r.a r.b r.c test (of_statement strict r.b consequent) (of_last_statement strict r.c alternate)))
  row_fits (Stmt q) t u (inr (inl r)) e =
      let (takes, (test, consequent, alternate)) = of_if strict s r.a (expression_statement r.b) absent (subst Here r.shape e) in
      subst Here (sym r.written) (statement_written strict s (logical And r.a r.b) takes (two_fit strict r.a r.b test (of_statement strict r.b consequent)))
  row_fits (Stmt q) t u (inr (inr r)) e =
      let (takes, (test, consequent, alternate)) = of_if strict s r.a (expression_statement r.b) absent (subst Here r.shape e) in
      let a : Tree = not_of (left_operand_seat Or statement_expression_seat) r.a in
      subst Here (sym r.written) (statement_written strict s (logical Or a r.b) takes (two_fit strict a r.b (not_of_fits strict (left_operand_seat Or statement_expression_seat) r.a test) (of_statement strict r.b consequent)))
  row_fits p t u r e = absurd r
