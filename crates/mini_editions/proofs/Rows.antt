-- Each row by which any program is rewritten.
use Rattle.std.proofs.Common.{◌≡◌, ◌<◌, Bool, true, false, refl, ap, ◌∙◌, inl, inr}
use Rattle.mini_model.specs.declared.place.Position.{Position}
use Rattle.mini_model.specs.declared.place.Position.TheVariants.{Expr, Stmt, Elsewhere}
use Rattle.mini_model.specs.Redex as first
use Rattle.mini_model.specs.Tree.{Tree, is_absent, is_absent_shape}
use Rattle.mini_laws.specs.Value.{VariableSet}
use Rattle.mini_rows.specs.Folding.{FoldingRow}
use Rattle.mini_rows.specs.Forms.{Form, year}
use Rattle.mini_rows.specs.KeyHolders.{Holder, a_binding, a_target, a_method, a_field, holding, Member, of_target, of_method, of_field, without_brackets, unquoted, plain_key, declaring_shape, HeldKeyRow}
use Rattle.mini_rows.specs.Redex.{Row, AsTest, AsSpelling, AsBranch, AsList, AsKey, AsChoice, AsDeclaration, AsFolding, AsTurn, AsArrow, AsConstant, AsHeldKey, AsBoolean, AsDeMorgan, AsSequence, AsOperand, AsNegation, AsTemplate, AsLoopGuard, Rewrites}
use Rattle.mini_rows.specs.Spellings.{SpellingRow}
use Rattle.mini_rows.specs.Switches.{Switches, Liberties, liberties}
use Rattle.mini_rows.specs.Unused.{UnusedRow}
use Rattle.mini_editions.specs.Kept.{IsThere, RewritesStayWithin}
use Rattle.mini_editions.proofs.Times.{Fewer, within}
use Rattle.mini_editions.proofs.Expressions.{first_fewer, spelling_fewer}
use Rattle.mini_editions.proofs.Chained.{choice_fewer, write_fewer}
use Rattle.mini_editions.proofs.Folded.{folding_fewer, constant_fewer, boolean_fewer, negation_fewer, de_morgan_fewer, sequence_fewer, operand_fewer, templates_fewer, turn_fewer, arrow_fewer}
use Rattle.mini_editions.proofs.Keys.{key_fewer, held_key_fewer, name_fewer, catch_fewer}
use Rattle.mini_editions.proofs.Moved.{below_fewer, unused_below}
use Rattle.mini_editions.proofs.Statements.{list_fewer, declaration_fewer, branch_fewer, first_statement_fewer, idle_fewer, loop_guard_fewer, let_fewer}

test_fewer : (f : Form) (p : Position) (n w : Tree) → first.Row p n w → Fewer f n w
test_fewer f (Expr s) n w r = first_fewer f s n w r
test_fewer f (Stmt q) n w r = first_statement_fewer f n w r
test_fewer f p n w r = absurd r

spellings_fewer : (f : Form) (p : Position) (n w : Tree) → SpellingRow p n w → Fewer f n w
spellings_fewer f (Expr s) n w r = spelling_fewer f n w r
spellings_fewer f p n w r = absurd r

foldings_fewer : (f : Form) (p : Position) (n w : Tree) → FoldingRow p n w → Fewer f n w
foldings_fewer f (Expr s) n w r = folding_fewer f s n w r
foldings_fewer f (Stmt q) n w r = idle_fewer f q n w r
foldings_fewer f p n w r = absurd r

row_fewer : (f : Form) (o : Switches) → o.edition < year f → (p : Position) (n w : Tree) → Row o p n w → Fewer f n w
row_fewer f o newer p n w (AsTest r) = test_fewer f p n w r
row_fewer f o newer p n w (AsSpelling r) = spellings_fewer f p n w r
row_fewer f o newer p n w (AsBranch r) = branch_fewer f p n w r
row_fewer f o newer p n w (AsList r) = list_fewer f o p n w r
row_fewer f o newer p n w (AsKey r) = key_fewer f p n w r
row_fewer f o newer p n w (AsChoice r a) = choice_fewer f o.edition newer p n w r a
row_fewer f o newer p n w (AsDeclaration r) = declaration_fewer f p n w r
row_fewer f o newer p n w (AsFolding r) = foldings_fewer f p n w r
row_fewer f o newer p n w (AsTurn r) = turn_fewer f p n w r
row_fewer f o newer p n w (AsArrow r) = arrow_fewer f p n w r
row_fewer f o newer p n w (AsConstant r) = constant_fewer f p n w r
row_fewer f o newer p n w (AsHeldKey r) = held_key_fewer f p n w r
row_fewer f o newer p n w (AsBoolean r) = boolean_fewer f p n w r
row_fewer f o newer p n w (AsDeMorgan r) = de_morgan_fewer f p n w r
row_fewer f o newer p n w (AsSequence r) = sequence_fewer f p n w r
row_fewer f o newer p n w (AsOperand r) = operand_fewer f p n w r
row_fewer f o newer p n w (AsNegation r) = negation_fewer f p n w r
row_fewer f o newer p n w (AsTemplate r) = templates_fewer f p n w r
row_fewer f o newer p n w (AsLoopGuard r) = loop_guard_fewer f o p n w r

rewrite_fewer : (f : Form) (o : Switches) → o.edition < year f → (W : VariableSet) (p : Position) (n w : Tree) → Rewrites o W p n w → Fewer f n w
rewrite_fewer f o newer W p n w (inl r) = row_fewer f o newer p n w r.row
rewrite_fewer f o newer W p n w (inr (inl r)) = below_fewer f n w (unused_below f (liberties o W) p n w r.row)
rewrite_fewer f o newer W p n w (inr (inr (inl r))) = name_fewer f o p n w r.row
rewrite_fewer f o newer W p n w (inr (inr (inr (inl r)))) = catch_fewer f o.edition newer r.1 p n w r.0.row
rewrite_fewer f o newer W p n w (inr (inr (inr (inr (inl r))))) = write_fewer f o.edition newer W p n w r.0.row r.1
rewrite_fewer f o newer W p n w (inr (inr (inr (inr (inr r))))) = let_fewer f W p n w r.row

-- ---- what may stand where the parameter of a `catch` does

holder_there : (h : Holder) (k v : Tree) → is_absent (holding h k v) ≡ false
holder_there a_binding k v = refl
holder_there a_target k v = refl
holder_there (a_method kind is_static) k v = refl
holder_there (a_field is_static) k v = refl

member_there : (m : Member) (k v : Tree) → is_absent (without_brackets m k v) ≡ false
member_there of_target k v = refl
member_there (of_method kind is_static) k v = refl
member_there (of_field is_static) k v = refl

held_key_there : (n w : Tree) → HeldKeyRow Elsewhere n w → is_absent w ≡ false
held_key_there n w (inl r) = ap is_absent r.written ∙ holder_there r.holder (unquoted r.spelling) r.value
held_key_there n w (inr (inl r)) = ap is_absent r.written ∙ member_there r.member (plain_key r.key) r.value
held_key_there n w (inr (inr (inl r))) = ap is_absent r.written ∙ by r.is_catch
  where
    by : (c : Bool) → is_absent_shape (declaring_shape c) ≡ false
    by true = refl
    by false = refl
held_key_there n w (inr (inr (inr r))) = ap is_absent r.written

pub unused_there : (W : Liberties) (n w : Tree) → UnusedRow W Elsewhere n w → is_absent w ≡ false
unused_there W n w (inl r) = ap is_absent r.written
unused_there W n w (inr (inl r)) = ap is_absent r.written
unused_there W n w (inr (inr (inl r))) = ap is_absent r.written
unused_there W n w (inr (inr (inr (inl r)))) = ap is_absent r.written
unused_there W n w (inr (inr (inr (inr (inl r))))) = ap is_absent r.written
unused_there W n w (inr (inr (inr (inr (inr (inl r)))))) = ap is_absent r.written
unused_there W n w (inr (inr (inr (inr (inr (inr r)))))) = ap is_absent r.written

row_there : (o : Switches) (n w : Tree) → Row o Elsewhere n w → is_absent w ≡ false
row_there o n w (AsTest r) = absurd r
row_there o n w (AsSpelling r) = absurd r
row_there o n w (AsBranch r) = absurd r
row_there o n w (AsList r) = absurd r
row_there o n w (AsKey r) = absurd r
row_there o n w (AsChoice r a) = absurd r
row_there o n w (AsDeclaration r) = absurd r
row_there o n w (AsFolding r) = absurd r
row_there o n w (AsTurn r) = absurd r
row_there o n w (AsArrow r) = absurd r
row_there o n w (AsConstant r) = absurd r
row_there o n w (AsHeldKey r) = held_key_there n w r
row_there o n w (AsBoolean r) = absurd r
row_there o n w (AsDeMorgan r) = absurd r
row_there o n w (AsSequence r) = absurd r
row_there o n w (AsOperand r) = absurd r
row_there o n w (AsNegation r) = absurd r
row_there o n w (AsTemplate r) = absurd r
row_there o n w (AsLoopGuard r) = absurd r

rewrite_there : (o : Switches) (W : VariableSet) (p : Position) (n w : Tree) → Rewrites o W p n w → IsThere p w
rewrite_there o W Elsewhere n w (inl r) = row_there o n w r.row
rewrite_there o W Elsewhere n w (inr (inl r)) = unused_there (liberties o W) n w r.row
rewrite_there o W Elsewhere n w (inr (inr (inl r))) = absurd r.row
rewrite_there o W Elsewhere n w (inr (inr (inr (inl r)))) = ap is_absent r.0.row.written
rewrite_there o W Elsewhere n w (inr (inr (inr (inr (inl r))))) = absurd r.0.row
rewrite_there o W Elsewhere n w (inr (inr (inr (inr (inr r))))) = absurd r.row
rewrite_there o W p n w r = tt

pub rewrites_stay_within : RewritesStayWithin
rewrites_stay_within o W p n w r = record {
  within = within o.edition n w (λ f newer. rewrite_fewer f o newer W p n w r);
  there = rewrite_there o W p n w r;
}
