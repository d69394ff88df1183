-- What a call comes to, by the law of its own rows.
use Rattle.std.specs.Prelude.{◌≡◌, ◌<◌, ◌^◌, refl, Bool, true, false, Option, Some, None, is_some, unwrap_or, Result, Ok, Err, IfOk, OnOk, if◌then◌else◌}
use Rattle.std.proofs.Common.{sym, subst, ◌∙◌}
use Rattle.mini_model.specs.declared.memory.OutOfMemory.{OutOfMemory}
use Rattle.mini_model.specs.declared.place.Position.{Position}
use Rattle.mini_model.specs.declared.place.Position.TheVariants.{Expr, Stmt, Elsewhere}
use Rattle.mini_model.specs.declared.seat.Seat.{Seat}
use Rattle.mini_model.specs.declared.seat.StmtSeat.{StmtSeat}
use Rattle.mini_model.specs.Rewriting as rewriting
use Rattle.mini_model.specs.Tree.{Tree}
use Rattle.mini_model.specs.Weight.{weight}
use Rattle.mini_laws.specs.Value.{VariableSet}
use Rattle.mini_model.specs.Terms.{neg}
use Rattle.mini_node.specs.Children.{part}
use Rattle.mini_logic.specs.MinimizeUnaryExpression.{minimizes_unary, minimized_unary}
use Rattle.mini_rows.specs.Arrows.{ArrowContracts}
use Rattle.mini_rows.specs.Booleans.{BooleanRow}
use Rattle.mini_rows.specs.Branches.{Row60}
use Rattle.mini_rows.specs.Catches.{CatchContracts}
use Rattle.mini_rows.specs.DeMorgan.{Row50}
use Rattle.mini_rows.specs.Sequences.{SequenceContracts}
use Rattle.mini_rows.specs.SpellKeys.{KeyContracts}
use Rattle.mini_rows.specs.Switches.{Switches}
use Rattle.mini_tree.specs.Rule.{Applied}
use Rattle.mini_fold.specs.FoldSequences as sequences
use Rattle.mini_logic.specs.DeMorganForVoidExpr as de_morgan
use Rattle.mini_logic.proofs.DeMorganForVoidExpr as de_morgan_law
use Rattle.mini_logic.specs.MinimizeExpressionInBooleanContext as booleans
use Rattle.mini_logic.proofs.MinimizeExpressionInBooleanContext as boolean_law
use Rattle.mini_syntax.specs.SubstituteArrowExpression as arrows
use Rattle.mini_syntax.proofs.Arrows as arrow_law
use Rattle.mini_syntax.specs.SubstituteObjectProperty as objects
use Rattle.mini_syntax.proofs.Keys as object_law
use Rattle.mini_syntax.specs.SubstituteReturnStatement as returns
use Rattle.mini_syntax.proofs.Returns as return_law
use Rattle.mini_unused.specs.SubstituteCatchClause as catches
use Rattle.mini_calls.specs.OwnRows.{Own, Weighed, Fitting, Changing, negated}
use Rattle.mini_steps.specs.declared.names.RuleName.{RuleName}
use Rattle.mini_steps.specs.declared.names.RuleName.TheVariants as name
use Rattle.mini_steps.specs.Called.{Relation, Called, Unread}
use Rattle.mini_steps.specs.Rows.{CallRow, CallRows}
use Rattle.mini_steps.proofs.Following.{step_more, reaches_more}

-- ---- a call whose contract is a function on trees

-- what it makes is what a row says, and lighter; and where it makes nothing none makes the node
-- lighter, as far as its weight fits 64 bits
pub record Tells (p : Position) (f : Tree → Option Tree) (R : Tree → Tree → Type 0) : Type 0 where
  pub written : (n w : Tree) → f n ≡ Some w → R n w
  pub lighter : (n w : Tree) → f n ≡ Some w → weight p w < weight p n
  pub unwritten : (n : Tree) → f n ≡ None → weight p n < 2 ^ 64 → (w : Tree) → R n w → weight p w < weight p n → ⊥

pub own : {f : Tree → Option Tree} {R : Tree → Tree → Type 0} (p : Position) → Own f R → ((n w : Tree) → R n w → weight p w < weight p n) → Tells p f R
own p law less = record {
  written = law.written;
  lighter = λ n w e. less n w (law.written n w e);
  unwritten = λ n e small w r l. law.unwritten n e w r;
}

pub weighed : {f : Seat → Tree → Option Tree} {R : Seat → Tree → Tree → Type 0} → Weighed f R → (s : Seat) → Tells (Expr s) (f s) (R s)
weighed law s = record { written = law.written s; lighter = law.lighter s; unwritten = law.unwritten s }

pub fitting : {f : Tree → Option Tree} {R : Tree → Tree → Type 0} → Fitting f R → (q : StmtSeat) → Tells (Stmt q) f R
fitting law q = record {
  written = law.written;
  lighter = law.lighter q;
  unwritten = λ n e small w r l. law.unwritten q n e small w r;
}

-- what is said where a call gives an answer
both : {P : Type 0} {Q S : Bool → Type 0} (r : Result Bool OutOfMemory) → ((b : Bool) → P → Q b → S b) → OnOk r P → IfOk r Q → IfOk r S
both (Ok b) f x y = f b x y
both (Err e) f x y = y

module _ (o : Switches) (W : VariableSet) where
  -- it made something, and it made nothing
  made : (r : RuleName) (p : Position) (t u : Tree) → CallRow o W r p t u → weight p u < weight p t → Called (CallRows o W r) p t u true
  made r p t u row less = record { next = u; step = rewriting.here p t u (record { row = row; lighter = less }); others = rewriting.done p u }

  pub left : (r : RuleName) (p : Position) (t : Tree) → (weight p t < 2 ^ 64 → (w : Tree) → CallRow o W r p t w → weight p w < weight p t → ⊥) → Called (CallRows o W r) p t t false
  left r p t f = (refl, λ small w c. f small w c.row c.lighter)

  by_written : (r : RuleName) (p : Position) (f : Tree → Option Tree) → Tells p f (CallRow o W r p) → (t u : Tree) (b : Bool) (x : Option Tree) → f t ≡ x → u ≡ unwrap_or x t → b ≡ is_some x → Called (CallRows o W r) p t u b
  by_written r p f law t u b None e g h = subst (λ c. Called (CallRows o W r) p t u c) (sym h) (subst (λ v. Called (CallRows o W r) p t v false) (sym g) (left r p t (law.unwritten t e)))
  by_written r p f law t u b (Some w) e g h = subst (λ c. Called (CallRows o W r) p t u c) (sym h) (subst (λ v. Called (CallRows o W r) p t v true) (sym g) (made r p t w (law.written t w e) (law.lighter t w e)))

  -- the rule is this one, whose call is that function
  pub told : (q r : RuleName) (p : Position) (f : Tree → Option Tree) (t u : Tree) → q ≡ r → Tells p f (CallRow o W r p) → (b : Bool) → u ≡ unwrap_or (f t) t → b ≡ is_some (f t) → Called (CallRows o W q) p t u b
  told q r p f t u e law b g h = subst (λ x. Called (CallRows o W x) p t u b) (sym e) (by_written r p f law t u b (f t) refl g h)

  pub told_if_ok : (q r : RuleName) (p : Position) (f : Tree → Option Tree) (t u : Tree) → q ≡ r → Tells p f (CallRow o W r p) → (result : Result Bool OutOfMemory) → OnOk result (u ≡ unwrap_or (f t) t) → IfOk result (λ b. b ≡ is_some (f t)) → IfOk result (λ b. Called (CallRows o W q) p t u b)
  told_if_ok q r p f t u e law result g h = both result (told q r p f t u e law) g h

  -- of a call that says whether it changes the node
  by_changing : (r : RuleName) (p : Position) (c : Tree → Bool) (m : Tree → Tree) → Changing c m (CallRow o W r p) → ((n w : Tree) → CallRow o W r p n w → weight p w < weight p n) → (t u : Tree) (b x : Bool) → c t ≡ x → u ≡ m t → b ≡ x → Called (CallRows o W r) p t u b
  by_changing r p c m law less t u b true e g h = subst (λ y. Called (CallRows o W r) p t u y) (sym h) (subst (λ v. Called (CallRows o W r) p t v true) (sym g) (made r p t (m t) (law.written t e) (less t (m t) (law.written t e))))
  by_changing r p c m law less t u b false e g h = subst (λ y. Called (CallRows o W r) p t u y) (sym h) (subst (λ v. Called (CallRows o W r) p t v false) (sym (g ∙ law.kept t e)) (left r p t (λ small w row l. law.unwritten t e w row)))

  pub changing_if_ok : (q r : RuleName) (p : Position) (c : Tree → Bool) (m : Tree → Tree) (t u : Tree) → q ≡ r → Changing c m (CallRow o W r p) → ((n w : Tree) → CallRow o W r p n w → weight p w < weight p n) → (result : Result Bool OutOfMemory) → OnOk result (u ≡ m t) → IfOk result (λ b. b ≡ c t) → IfOk result (λ b. Called (CallRows o W q) p t u b)
  changing_if_ok q r p c m t u e law less result g h = both result (λ b x y. subst (λ z. Called (CallRows o W z) p t u b) (sym e) (by_changing r p c m law less t u b (c t) refl x y)) g h

-- ---- a call whose contract is that of a rule

module _ (o : Switches) (W : VariableSet) where
  applied : (q r : RuleName) (G : Relation) (D : Position → Tree → Type 0) (p : Position) (t u : Tree) → q ≡ r → ((s : Position) (n w : Tree) → G s n w → CallRows o W r s n w) → (D p t → Unread (CallRows o W r) p t) → (b : Bool) → Applied G D p t u b → Called (CallRows o W q) p t u b
  applied q r G D p t u e gives rests true m =
      subst (λ x. Called (CallRows o W x) p t u true) (sym e)
      (record { next = m.next; step = step_more G (CallRows o W r) gives m.step; others = reaches_more G (CallRows o W r) gives m.others })
  applied q r G D p t u e gives rests false d = subst (λ x. Called (CallRows o W x) p t u false) (sym e) (d.0, rests d.1)

  -- the same of what a family contracts
  of_sequences : (p : Position) (n w : Tree) → SequenceContracts p n w → CallRows o W name.FoldSequenceExpression p n w
  of_sequences (Expr s) n w c = record { row = c.row; lighter = c.lighter }
  of_sequences _ n w c = absurd c.row

  pub sequences_called : (q : RuleName) (s : Seat) (t u : Tree) → q ≡ name.FoldSequenceExpression → (b : Bool) → Applied SequenceContracts sequences.Rests (Expr s) t u b → Called (CallRows o W q) (Expr s) t u b
  sequences_called q s t u e b m = applied q name.FoldSequenceExpression SequenceContracts sequences.Rests (Expr s) t u e of_sequences (λ d small w c. d w c.row) b m

  of_arrows : (p : Position) (n w : Tree) → ArrowContracts p n w → CallRows o W name.SubstituteArrowExpression p n w
  of_arrows (Expr s) n w c = record { row = c.row; lighter = c.lighter }
  of_arrows _ n w c = absurd c.row

  pub arrows_called : (q : RuleName) (s : Seat) (t u : Tree) → q ≡ name.SubstituteArrowExpression → (b : Bool) → u ≡ unwrap_or (arrows.written t) t → b ≡ is_some (arrows.written t) → Called (CallRows o W q) (Expr s) t u b
  arrows_called q s t u e b g h = applied q name.SubstituteArrowExpression ArrowContracts arrows.Rests (Expr s) t u e of_arrows (λ d small w c. d w c.row) b (arrow_law.applied s t u b g h)

  of_objects : (p : Position) (n w : Tree) → KeyContracts p n w → CallRows o W name.SubstituteObjectProperty p n w
  of_objects (Expr s) n w c = record { row = c.row; lighter = c.lighter }
  of_objects _ n w c = absurd c.row

  pub objects_called : (q : RuleName) (s : Seat) (t u : Tree) → q ≡ name.SubstituteObjectProperty → (b : Bool) → u ≡ objects.written t → b ≡ objects.is_written t → Called (CallRows o W q) (Expr s) t u b
  objects_called q s t u e b g h = applied q name.SubstituteObjectProperty KeyContracts objects.Rests (Expr s) t u e of_objects (λ d small w c. d w c.row) b (object_law.applied s t u b g h)

  of_catches : (p : Position) (n w : Tree) → CatchContracts p n w → CallRows o W name.SubstituteCatchClause p n w
  of_catches Elsewhere n w c = record { row = c.row; lighter = c.lighter }
  of_catches _ n w c = absurd c.row

  pub catches_called : (q : RuleName) (t u : Tree) → q ≡ name.SubstituteCatchClause → (b : Bool) → Applied CatchContracts catches.Rests Elsewhere t u b → Called (CallRows o W q) Elsewhere t u b
  catches_called q t u e b m = applied q name.SubstituteCatchClause CatchContracts catches.Rests Elsewhere t u e of_catches (λ d small w c. d w c.row) b m

-- what two clauses say of an answer, one of the tree and one of the answer
pub from_both : {P : Type 0} {Q S : Bool → Type 0} (r : Result Bool OutOfMemory) → ((b : Bool) → P → Q b → S b) → OnOk r P → IfOk r Q → IfOk r S
from_both r f x y = both r f x y

-- ---- laws that are said of contracts

pub truth : (s : Seat) → Tells (Expr s) (booleans.written s) (BooleanRow (Expr s))
truth s = record {
  written = λ n w e. (boolean_law.written_is_row s n w e).row;
  lighter = λ n w e. (boolean_law.written_is_row s n w e).lighter;
  unwritten = λ n e small w r l. boolean_law.unwritten_rests s n e small w (record { row = r; lighter = l });
}

pub turned : (q : StmtSeat) → Tells (Stmt q) de_morgan.written Row50
turned q = record {
  written = λ n w e. (de_morgan_law.written_is_row q n w e).row;
  lighter = λ n w e. (de_morgan_law.written_is_row q n w e).lighter;
  unwritten = λ n e small w r l. de_morgan_law.unwritten_rests q n e small w (record { row = r; lighter = l });
}

pub returning : (q : StmtSeat) → ((n w : Tree) → Row60 n w → weight (Stmt q) w < weight (Stmt q) n) → Tells (Stmt q) returns.written Row60
returning q less = record {
  written = λ n w e. return_law.written_is_row n w e;
  lighter = λ n w e. less n w (return_law.written_is_row n w e);
  unwritten = λ n e small w r l. return_law.unwritten_rests q n e w r;
}

-- ---- 23, whose call says whether it negates

negation_is : (s : Seat) (t : Tree) → minimized_unary s t ≡ unwrap_or (negated s t) t
negation_is s t = by (minimizes_unary s t)
  where
    by : (b : Bool) → (if b then neg s (part t 0) else t) ≡ unwrap_or (if b then Some (if b then neg s (part t 0) else t) else None) t
    by true = refl
    by false = refl

negates : (s : Seat) (t : Tree) → minimizes_unary s t ≡ is_some (negated s t)
negates s t = by (minimizes_unary s t) (minimized_unary s t)
  where
    by : (b : Bool) (u : Tree) → b ≡ is_some (if b then Some u else None)
    by true u = refl
    by false u = refl

pub negation_tree : (s : Seat) (t u : Tree) (r : Result Bool OutOfMemory) → OnOk r (u ≡ minimized_unary s t) → OnOk r (u ≡ unwrap_or (negated s t) t)
negation_tree s t u (Ok b) e = e ∙ negation_is s t
negation_tree s t u (Err x) e = e

pub negation_said : (s : Seat) (t : Tree) (r : Result Bool OutOfMemory) → IfOk r (λ b. b ≡ minimizes_unary s t) → IfOk r (λ b. b ≡ is_some (negated s t))
negation_said s t (Ok b) e = e ∙ negates s t
negation_said s t (Err x) e = e
