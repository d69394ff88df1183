-- What loses the brackets of its key means the same, and weighs less; and what a text or a number in brackets gives.
use Rattle.std.specs.Prelude.{ℕ, ◌≡◌, ◌<◌, refl, List, [], Some, pos}
use Rattle.std.specs.Fmt.{signed_decimal}
use Rattle.std.proofs.Common.{sym, ap, ◌∙◌, inr, arith}
use Rattle.mini_model.specs.declared.place.Position.{Position}
use Rattle.mini_model.specs.declared.place.Position.TheVariants.{Elsewhere}
use Rattle.mini_model.specs.declared.shape.Shape.TheVariants as shape
use Rattle.mini_model.specs.Tree.{Tree, node, none, ◌▸◌}
use Rattle.mini_model.specs.Weight.{outline, weight}
use Rattle.mini_laws.specs.Value.{Value, Number, String, Variable, Slot, nothing}
use Rattle.mini_laws.specs.State.{State, Answer, Environment, seen, either}
use Rattle.mini_laws.specs.Command.{act}
use Rattle.mini_laws.specs.Demand.{Demand, Request}
use Rattle.mini_laws.specs.Naming.{summary}
use Rattle.mini_laws.specs.Step.{step, means, meaning}
use Rattle.mini_laws.specs.Rows.{SameAt}
use Rattle.mini_laws.specs.Rewritten.{MeansSame}
use Rattle.mini_laws.specs.Body.{InnerValue, NormalOf, Run}
use Rattle.mini_laws.proofs.Rows.{equal_same}
use Rattle.mini_kept.specs.ShownFrames.{OnlyGives, GivesKey}
use Rattle.mini_rows.specs.KeyHolders.{Member, of_target, of_method, of_field, in_brackets, without_brackets, PlainKey, a_word, a_count, plain_key, Row52Bare}
use Rattle.mini_rows.proofs.SpellAlike.{SameTree}
use Rattle.mini_rows.proofs.SpellMeaning.{same_by}
use Rattle.mini_rows.proofs.SpellWeights.{falls_by}

abbrev pub BareRow : Position → Tree → Tree → Type 0
BareRow Elsewhere n w = Row52Bare n w
BareRow _ n w = ⊥

-- no parent asks anything of it: the pattern or the class is the world's
bare_does : (m : Member) (i : ℕ) (k : PlainKey) (v : Tree) (e : Environment) (q : Demand) (r : Request q) (z : State) → means e (in_brackets m i (plain_key k) v) q r z ≡ means e (without_brackets m (plain_key k) v) q r z
unfolding means meaning step
bare_does of_target i k v e q r z = refl
bare_does (of_method kind is_static) i k v e q r z = refl
bare_does (of_field is_static) i k v e q r z = refl

bare_read : (m : Member) (i : ℕ) (k : PlainKey) (v : Tree) → summary (in_brackets m i (plain_key k) v) ≡ summary (without_brackets m (plain_key k) v)
bare_read of_target i (a_word s) v = refl
bare_read of_target i (a_count n) v = refl
bare_read (of_method kind is_static) i (a_word s) v = refl
bare_read (of_method kind is_static) i (a_count n) v = refl
bare_read (of_field is_static) i (a_word s) v = refl
bare_read (of_field is_static) i (a_count n) v = refl

row_same : (n w : Tree) → Row52Bare n w → SameTree n w
row_same n w r = same_by n w _ _ r.shape r.written (record { by = bare_does r.member r.number r.key r.value; read = bare_read r.member r.number r.key r.value })

same : (p : Position) (n w : Tree) → BareRow p n w → SameAt p n w
same Elsewhere n w r = let h = row_same n w r in equal_same Elsewhere n w (record { by = λ e q f r z. h.by e q r z })
same p n w r = absurd r

read : (p : Position) (n w : Tree) → BareRow p n w → summary n ≡ summary w
read Elsewhere n w r = (row_same n w r).read
read p n w r = absurd r

pub bare_same : MeansSame BareRow
bare_same = record { same = same; reads = read }

-- ---- the weight

bare_falls : (m : Member) (i : ℕ) (k : PlainKey) (v : Tree) → weight Elsewhere (without_brackets m (plain_key k) v) < weight Elsewhere (in_brackets m i (plain_key k) v)
bare_falls of_target i (a_word s) v = omega arith
bare_falls of_target i (a_count n) v = omega arith
bare_falls (of_method kind is_static) i (a_word s) v = omega arith
bare_falls (of_method kind is_static) i (a_count n) v = omega arith
bare_falls (of_field is_static) i (a_word s) v = omega arith
bare_falls (of_field is_static) i (a_count n) v = omega arith

pub bare_lighter : (p : Position) (n w : Tree) → BareRow p n w → weight p w < weight p n
bare_lighter Elsewhere n w r = falls_by Elsewhere n w _ _ r.shape r.written (bare_falls r.member r.number r.key r.value)
bare_lighter p n w r = absurd r

bare_outline : (m : Member) (i : ℕ) (k v : Tree) → outline (in_brackets m i k v) ≡ outline (without_brackets m k v)
bare_outline of_target i k v = refl
bare_outline (of_method kind is_static) i k v = refl
bare_outline (of_field is_static) i k v = refl

pub bare_outline_kept : (p : Position) (n w : Tree) → BareRow p n w → outline n ≡ outline w
bare_outline_kept Elsewhere n w r = ap outline r.shape ∙ bare_outline r.member r.number (plain_key r.key) r.value ∙ sym (ap outline r.written)
bare_outline_kept p n w r = absurd r

-- ---- what the key gives (ECMA-262, "ToPropertyKey")

abbrev pub property_of : PlainKey → List ℕ
property_of (a_word s) = s
property_of (a_count n) = signed_decimal (pos n)

abbrev value_of : PlainKey → Value
value_of (a_word s) = String s
value_of (a_count n) = Number (pos n)

runs : (i : ℕ) (k : PlainKey) (e : Environment) (vars : Variable → Slot) (this : Value) (answers : List Answer) (turns : ℕ) → Run e InnerValue (node shape.InnerExpression [] i (plain_key k ▸ none)) vars this answers turns ≡ Some (record { events = []; final = seen e.shared vars; outcome = NormalOf (value_of k) })
unfolding means meaning step either act
runs i (a_word s) e vars this answers turns = refl
runs i (a_count n) e vars this answers turns = refl

only_gives : (k : PlainKey) (e : Environment) (vars : Variable → Slot) → OnlyGives e vars (property_of k) (record { events = []; final = seen e.shared vars; outcome = NormalOf (value_of k) })
only_gives (a_word s) e vars = record { value = String s; events = refl; final = refl; outcome = refl; key = refl }
only_gives (a_count n) e vars = record { value = Number (pos n); events = refl; final = refl; outcome = refl; key = refl }

pub gives_key : (i : ℕ) (k : PlainKey) → GivesKey nothing (node shape.InnerExpression [] i (plain_key k ▸ none)) (property_of k)
gives_key i k = record {
  by = λ e u y vars this answers turns b. inr (record { events = []; final = seen e.shared vars; outcome = NormalOf (value_of k) }, runs i k e vars this answers turns, only_gives k e vars);
}
