-- What each row on a key writes means the same.
use Rattle.std.proofs.Common.{◌≡◌, ℕ, zero, suc, ◌<◌, Bool, true, false, List, [], ◌∷◌, refl, sym, ap, subst, ◌∙◌, inl, inr, arith}
use Rattle.std.specs.Prelude.{◌&&◌, ◌||◌, not, nat_eq, codes, pos}
use Rattle.std.specs.Fmt.{signed_decimal}
use Rattle.std.specs.Char.{digit_value}
use Rattle.std.specs.Str.Parse.{AllDigits}
use Rattle.std.proofs.lemmas.Bool.{eqb-true}
use Rattle.std.proofs.lemmas.Fmt.{decimal_is_IsNumeral}
use Rattle.mini_model.specs.Numerals.{IsSafe}
use Rattle.mini_model.specs.declared.kind.PropertyKind.{PropertyKind}
use Rattle.mini_model.specs.declared.kind.PropertyKind.TheVariants.{Init, Get, Set}
use Rattle.mini_model.specs.declared.place.Position.{Position}
use Rattle.mini_model.specs.declared.place.Position.TheVariants.{Expr}
use Rattle.mini_model.specs.declared.shape.Shape.TheVariants as shape
use Rattle.mini_model.specs.Paths.{append}
use Rattle.mini_model.specs.Tree.{Tree, Trees, none, ◌▸◌, listed, identifier}
use Rattle.mini_model.specs.Weight.{same_text}
use Rattle.mini_laws.specs.Value.{Value, Number, String, choose}
use Rattle.mini_laws.specs.State.{State, ok, either, Environment, Prototype, Field}
use Rattle.mini_laws.specs.Demand.{Val, Demand, As, AnEntry, Request}
use Rattle.mini_laws.specs.Expressions.{property_entry}
use Rattle.mini_laws.specs.Naming.{summary, summaries}
use Rattle.mini_laws.specs.Step.{step, means, meaning}
use Rattle.mini_laws.specs.Rows.{SameAt}
use Rattle.mini_laws.specs.Rewritten.{MeansSame}
use Rattle.mini_laws.proofs.Runs.{either_cong, either_ok}
use Rattle.mini_rows.specs.Spellings.{numeral, text, key}
use Rattle.mini_rows.specs.SpellKeys.{object_literal, property, is_proto, KeyForm, a_name, a_whole, a_text_in_brackets, a_whole_in_brackets, is_bracketed_form, read_key, written_key, function_property, is_function_kind, PropertyRow, RowInObject, KeyRow, KeyContracts}
use Rattle.mini_rows.proofs.SpellAlike.{SameTree, kids_same, first_same}
use Rattle.mini_rows.proofs.SpellMeaning.{tree_same, same_by}

-- a text and the name that it spells
text_does : (s : List ℕ) (e : Environment) (q : Demand) (r : Request q) (z : State) → means e (text s) q r z ≡ means e (key s) q r z
unfolding means meaning step
text_does s e q r z = refl

text_same : (s : List ℕ) → SameTree (text s) (key s)
text_same s = record { by = text_does s; read = refl }

-- a text and the number that has it
number_does : (n : ℕ) (v : Tree) (e : Environment) (q : Demand) (r : Request q) (z : State) → means e (property false false (text (signed_decimal (pos n))) v) q r z ≡ means e (property false false (numeral (pos n)) v) q r z
unfolding means meaning step either
number_does n v e AnEntry r z = refl
number_does n v e q r z = refl

-- a key that is not `__proto__`
as_field : (b : Bool) (s : List ℕ) (v : Value) → b ≡ false → choose b (Prototype v) (Field (String s) v) ≡ Field (String s) v
as_field b s v h = ap (λ x. choose x (Prototype v) (Field (String s) v)) h

module _ (s : List ℕ) (v : Tree) (other : is_proto s ≡ false) where
  text_in_brackets : (e : Environment) (q : Demand) (r : Request q) (z : State) → means e (property false true (text s) v) q r z ≡ means e (property false false (text s) v) q r z
  unfolding means meaning step
  text_in_brackets e AnEntry r z =
      either_ok (String s) z _ _
      ∙ either_cong (means e v (As Val) tt z) _ _ _ _ (λ a y. ap (λ x. ok x y) (sym (as_field (is_proto s) s a other))) (λ x y. refl)
      ∙ sym (either_ok (String s) z _ _)
  text_in_brackets e q r z = refl

  shorthand_does : (e : Environment) (q : Demand) (r : Request q) (z : State) → means e (property false false (key s) v) q r z ≡ means e (property true false (key s) v) q r z
  unfolding means meaning step
  shorthand_does e AnEntry r z =
      either_ok (String s) z _ _
      ∙ either_cong (means e v (As Val) tt z) _ _ _ _ (λ a y. ap (λ x. ok x y) (as_field (is_proto s) s a other)) (λ x y. refl)
      ∙ sym (either_ok (String s) z _ _)
  shorthand_does e q r z = refl

-- no number is spelled `__proto__`
no_digit : (c : ℕ) (r : Bool) → digit_value c < 10 → nat_eq c 95 && r ≡ false
no_digit c r h = go (nat_eq c 95) refl
  where
    go : (b : Bool) → nat_eq c 95 ≡ b → b && r ≡ false
    go false e = refl
    go true e = let low : digit_value 95 < 10 = subst (λ x. digit_value x < 10) (eqb-true c 95 e) h in absurd (omega (arith, low))

digits_differ : (s : List ℕ) → AllDigits 10 s → is_proto s ≡ false
digits_differ [] h = refl
digits_differ (c ∷ s) h = no_digit c (same_text s (codes "_proto__")) h.0

no_proto : (n : ℕ) → IsSafe (pos n) → is_proto (signed_decimal (pos n)) ≡ false
no_proto n safe = digits_differ (signed_decimal (pos n)) (decimal_is_IsNumeral n (omega (arith, safe))).0.1

module _ (n : ℕ) (safe : IsSafe (pos n)) (v : Tree) where
  number_in_brackets : (e : Environment) (q : Demand) (r : Request q) (z : State) → means e (property false true (numeral (pos n)) v) q r z ≡ means e (property false false (numeral (pos n)) v) q r z
  unfolding means meaning step
  number_in_brackets e AnEntry r z =
      either_ok (Number (pos n)) z _ _
      ∙ either_cong (means e v (As Val) tt z) _ _ _ _ (λ a y. ap (λ x. ok x y) (sym (as_field (is_proto (signed_decimal (pos n))) (signed_decimal (pos n)) a (no_proto n safe)))) (λ x y. refl)
      ∙ sym (either_ok (Number (pos n)) z _ _)
  number_in_brackets e q r z = refl

-- a method, a getter or a setter: what its key names is never a prototype

function_entry : (k : PropertyKind) (m b : Bool) (key v : Value) → is_function_kind k m ≡ true → property_entry k (not (m || false || b)) key v ≡ property_entry k (not (m || false || false)) key v
function_entry Init true b key v e = refl
function_entry Init false b key v e = absurd (cc e)
function_entry Get m b key v e = refl
function_entry Set m b key v e = refl

module _ (k : PropertyKind) (m : Bool) (v : Tree) (function : is_function_kind k m ≡ true) where
  function_text : (s : List ℕ) (e : Environment) (q : Demand) (r : Request q) (z : State) → means e (function_property k m true (text s) v) q r z ≡ means e (function_property k m false (text s) v) q r z
  unfolding means meaning step
  function_text s e AnEntry r z =
      either_ok (String s) z _ _
      ∙ either_cong (means e v (As Val) tt z) _ _ _ _ (λ a y. ap (λ x. ok x y) (function_entry k m true (String s) a function)) (λ x y. refl)
      ∙ sym (either_ok (String s) z _ _)
  function_text s e q r z = refl

  function_numeral : (n : ℕ) (e : Environment) (q : Demand) (r : Request q) (z : State) → means e (function_property k m true (numeral (pos n)) v) q r z ≡ means e (function_property k m false (numeral (pos n)) v) q r z
  unfolding means meaning step
  function_numeral n e AnEntry r z =
      either_ok (Number (pos n)) z _ _
      ∙ either_cong (means e v (As Val) tt z) _ _ _ _ (λ a y. ap (λ x. ok x y) (function_entry k m true (String (signed_decimal (pos n))) a function)) (λ x y. refl)
      ∙ sym (either_ok (Number (pos n)) z _ _)
  function_numeral n e q r z = refl

  function_number : (n : ℕ) (e : Environment) (q : Demand) (r : Request q) (z : State) → means e (function_property k m false (text (signed_decimal (pos n))) v) q r z ≡ means e (function_property k m false (numeral (pos n)) v) q r z
  unfolding means meaning step either
  function_number n e AnEntry r z = refl
  function_number n e q r z = refl

  function_same : (f : KeyForm) → SameTree (function_property k m (is_bracketed_form f) (read_key f) v) (function_property k m false (written_key f) v)
  function_same (a_name s) = first_same (shape.ObjectProperty k m false false) [] 0 (text s) (key s) (v ▸ none) (text_same s)
  function_same (a_whole n) = record { by = function_number n; read = refl }
  function_same (a_text_in_brackets s) = record { by = function_text s; read = refl }
  function_same (a_whole_in_brackets n) = record { by = function_numeral n; read = refl }

pub property_same : (n w : Tree) → PropertyRow n w → SameTree n w
property_same n w (inl r) = same_by n w _ _ r.shape r.written (record { by = shorthand_does r.name.spelling (identifier r.name) r.other; read = refl })
property_same n w (inr (inl r)) = same_by n w _ _ r.shape r.written (first_same (shape.ObjectProperty Init false false false) [] 0 (text r.name) (key r.name) (r.value ▸ none) (text_same r.name))
property_same n w (inr (inr (inl r))) = same_by n w _ _ r.shape r.written (record { by = number_does r.number r.value; read = refl })
property_same n w (inr (inr (inr (inl r)))) = same_by n w _ _ r.shape r.written (record { by = text_in_brackets r.name r.value r.other; read = refl })
property_same n w (inr (inr (inr (inr (inr r))))) = same_by n w _ _ r.shape r.written (function_same r.kind r.is_method r.value r.is_function r.form)
property_same n w (inr (inr (inr (inr (inl r))))) = same_by n w _ _ r.shape r.written (record { by = number_in_brackets r.number r.is_safe r.value; read = refl })

-- in an object

one_reads : (pre : Trees) (t u : Tree) (post : Trees) → summary t ≡ summary u → summaries (append pre (t ▸ post)) ≡ summaries (append pre (u ▸ post))
one_reads none t u post h = ap (λ x. x ∷ summaries post) h
one_reads (c ▸ pre) t u post h = ap (λ x. summary c ∷ x) (one_reads pre t u post h)

one_does : (pre : Trees) (t u : Tree) (post : Trees) → SameTree t u → (e : Environment) (i : ℕ) (q : Demand) (r : Request q) (s : State) → meaning e (append pre (t ▸ post)) i q r s ≡ meaning e (append pre (u ▸ post)) i q r s
unfolding meaning
one_does none t u post h e zero q r s = h.by e q r s
one_does none t u post h e (suc i) q r s = refl
one_does (c ▸ pre) t u post h e zero q r s = refl
one_does (c ▸ pre) t u post h e (suc i) q r s = one_does pre t u post h e i q r s

object_same : (pre : Trees) (t u : Tree) (post : Trees) → SameTree t u → SameTree (object_literal (append pre (t ▸ post))) (object_literal (append pre (u ▸ post)))
object_same pre t u post h =
    first_same shape.ObjectExpression [] 0 (listed (append pre (t ▸ post))) (listed (append pre (u ▸ post))) none
    (kids_same shape.Listed [] 0 (append pre (t ▸ post)) (append pre (u ▸ post)) (one_reads pre t u post h.read) (λ e i q r s. one_does pre t u post h e i q r s))

row_same : (n w : Tree) → RowInObject n w → SameTree n w
row_same n w r = same_by n w _ _ r.shape r.written (object_same r.before r.from r.to r.after (property_same r.from r.to r.row))

means_same : (p : Position) (n w : Tree) → KeyRow p n w → SameAt p n w
means_same (Expr s) n w r = tree_same s n w (row_same n w r)
means_same p n w r = absurd r

reads : (p : Position) (n w : Tree) → KeyRow p n w → summary n ≡ summary w
reads (Expr s) n w r = (row_same n w r).read
reads p n w r = absurd r

pub keys_same : MeansSame KeyContracts
keys_same = record { same = λ p n w c. means_same p n w c.row; reads = λ p n w c. reads p n w c.row }
