-- What is written for a `let` and the assignment of a value after it, or for a lexical declaration that never runs, is lighter.
use Rattle.std.proofs.Common.{◌≡◌, ◌≤◌, ◌+◌, true, refl, inl, inr, true≢false, sym}
use Rattle.std.specs.Prelude.{◌⊎◌}
use Rattle.mini_model.specs.declared.kind.VariableDeclarationKind.TheVariants.{Let}
use Rattle.mini_model.specs.declared.place.Position.{Position}
use Rattle.mini_model.specs.declared.place.Position.TheVariants.{StatementList, BodyList}
use Rattle.mini_model.specs.Tree.{Tree, Trees, none}
use Rattle.mini_model.specs.Weight.{outline, weight}
use Rattle.mini_laws.specs.Value.{VariableSet}
use Rattle.mini_laws.specs.Weights.{counts_items}
use Rattle.mini_rows.specs.DeadCases.{known}
use Rattle.mini_rows.specs.Lets.{LetsRow, LetRow, LetsLighter, LetsLighten}
use Rattle.mini_rows.proofs.DeadLexicalWeights.{lexical_falls}
use Rattle.mini_rows.proofs.ListWeights.{Falls, replaced, value_falls, list_lighter, body_lighter, list_chosen, body_chosen, same_outline}

row_falls : (W : VariableSet) (a b : Trees) → LetsRow W a b → Falls a b
row_falls W a b (inr r) = lexical_falls a b r
row_falls W a b (inl r) = replaced a _ b _ r.shape r.written (value_falls Let r.ds r.spelling r.spelling r.symbol none (known r.value) r.beginning)

pub lets_lighter : LetsLighter
lets_lighter W StatementList n w r = list_lighter (LetsRow W) n w r (row_falls W r.read r.put r.row)
lets_lighter W BodyList n w r = body_lighter (LetsRow W) n w r (row_falls W r.read r.put r.row)
lets_lighter W p n w r = absurd r

absent_same : (W : VariableSet) (p : Position) (n w : Tree) → LetRow W p n w → (outline n).absent ≡ (outline w).absent
absent_same W StatementList n w r = same_outline (λ l. l.absent) (LetsRow W) n w r refl
absent_same W BodyList n w r = same_outline (λ l. l.absent) (LetsRow W) n w r refl
absent_same W p n w r = absurd r

zero_same : (W : VariableSet) (p : Position) (n w : Tree) → LetRow W p n w → (outline n).is_zero ≡ (outline w).is_zero
zero_same W StatementList n w r = same_outline (λ l. l.is_zero) (LetsRow W) n w r refl
zero_same W BodyList n w r = same_outline (λ l. l.is_zero) (LetsRow W) n w r refl
zero_same W p n w r = absurd r

items_same : (W : VariableSet) (p : Position) (n w : Tree) → LetRow W p n w → counts_items p ≡ true → (outline n).items ≡ (outline w).items
items_same W StatementList n w r e = absurd (true≢false (sym e))
items_same W BodyList n w r e = absurd (true≢false (sym e))
items_same W p n w r e = absurd r

chosen_same : (W : VariableSet) (p : Position) (n w : Tree) → LetRow W p n w → ((outline n).chooses ≡ true → (outline w).chooses ≡ true) ⊎ (weight p w + 5 ≤ weight p n)
chosen_same W StatementList n w r = list_chosen (LetsRow W) n w r (row_falls W r.read r.put r.row)
chosen_same W BodyList n w r = body_chosen (LetsRow W) n w r (row_falls W r.read r.put r.row)
chosen_same W p n w r = absurd r

pub lets_lighten : LetsLighten
lets_lighten W = record {
  lighter = λ p n w c. c.lighter;
  absent = λ p n w c e. absent_same W p n w c.row;
  items = λ p n w c e. items_same W p n w c.row e;
  is_zero = λ p n w c e. inl (zero_same W p n w c.row);
  chooses = λ p n w c e. chosen_same W p n w c.row;
}
