-- What is left of a sequence where a reference is asked. A name is called as the sequence was that it was the last part of: without a
-- `this`, and not as a direct eval. What `typeof` reads by its value it reads so in the sequence, too.
use Rattle.std.proofs.Common.{◌≡◌, ℕ, Bool, true, false, List, [], ◌∷◌, refl, sym, ap, subst, ◌∙◌, true≢false}
use Rattle.std.specs.Prelude.{◌&&◌, ◌||◌, not, None, codes, is_none, if◌then◌else◌}
use Rattle.std.proofs.lemmas.Bool.{and_parts}
use Rattle.mini_model.specs.declared.name.Name.{Name}
use Rattle.mini_model.specs.declared.place.Position.TheVariants.{Expr}
use Rattle.mini_model.specs.declared.seat.Guard.{Guard}
use Rattle.mini_model.specs.declared.seat.Guard.TheVariants as guard
use Rattle.mini_model.specs.declared.seat.Seat.{Seat}
use Rattle.mini_model.specs.declared.shape.Shape.TheVariants as shape
use Rattle.mini_model.specs.Tree.{Tree, Trees, node, shape_of}
use Rattle.mini_model.specs.Weight.{same_text}
use Rattle.mini_node.specs.Children.{names_of}
use Rattle.mini_laws.specs.Value.{Value, VariableSet, variables}
use Rattle.mini_laws.specs.State.{State, Completion, ok, stop, halt, out, either, Environment}
use Rattle.mini_laws.specs.Demand.{Want, Val, Demand, As, Callee, OfType, Deleted, AnEntry, Stat, plain_call}
use Rattle.mini_laws.specs.Expressions.{is_eval, first_kind}
use Rattle.mini_laws.specs.Fits.{Fits}
use Rattle.mini_laws.specs.Naming.{EvalName, PlainName, UndefinedName, NumberName, kinds, naming, summaries}
use Rattle.mini_laws.specs.Rows.{SameAt}
use Rattle.mini_laws.specs.Same.{Goes, Agree, Same}
use Rattle.mini_laws.specs.Step.{step, means, meaning}
use Rattle.mini_terms.specs.Parts.{is_number, takes_numbers, suits}
use Rattle.mini_terms.specs.Reading.{is_item, is_plain_part, is_typed_by_value, stands, by_value, SameWanted}
use Rattle.mini_terms.proofs.Dropping.{weak}
use Rattle.mini_terms.proofs.Reading.{read_by_value, typed_by_value, same_item, same_in_seat}
use Rattle.mini_rows.specs.Sequences.{is_callee, is_called_plainly, is_typeof, is_typed_plainly, stays_alone, is_name}
use Rattle.mini_rows.proofs.ChainRuns.{next, called, value, named_call, name_kind}
use Rattle.mini_rows.proofs.FoldMeaning.{plain_of, value_of}
use Rattle.mini_rows.proofs.FoldWeights.{not_a_number}
use Rattle.mini_rows.specs.Folding.{is_spelled}

-- ---- a name that isn't `eval`

not_true : (b : Bool) → not b ≡ true → b ≡ false
not_true false e = refl
not_true true e = absurd (true≢false (sym e))

kind_plain : (resolved undefined nan infinity eval : Bool) → eval ≡ false → is_eval (if resolved then (if undefined then UndefinedName else (if nan then NumberName else (if infinity then NumberName else (if eval then EvalName else PlainName)))) else (if eval then EvalName else PlainName)) ≡ false
kind_plain r u n i true e = absurd (true≢false e)
kind_plain false u n i false e = refl
kind_plain true true n i false e = refl
kind_plain true false true i false e = refl
kind_plain true false false true false e = refl
kind_plain true false false false false e = refl

plain_names : (xs : List Name) → is_spelled xs (codes "eval") ≡ false → is_eval (first_kind (kinds xs)) ≡ false
plain_names [] e = refl
plain_names (x ∷ xs) e = kind_plain (is_none x.symbol) (same_text x.spelling (codes "undefined")) (same_text x.spelling (codes "NaN")) (same_text x.spelling (codes "Infinity")) (same_text x.spelling (codes "eval")) e

pub names_called : (e : Environment) (xs : List Name) (n : ℕ) (ts : Trees) (s : State) → is_spelled xs (codes "eval") ≡ false → called e (node shape.Identifier xs n ts) s ≡ next (value e (node shape.Identifier xs n ts) s) (λ v z. ok (plain_call v) z)
unfolding means step
names_called e xs n ts s h =
    name_kind e (naming shape.Identifier Callee (variables xs) n (summaries ts)) (naming shape.Identifier (As Val) (variables xs) n (summaries ts)) (λ i. Stat None) (λ i. Stat None) (λ i r z. meaning e ts i (Stat None) r z) (λ i r z. meaning e ts i (Stat None) r z) (first_kind (kinds xs)) refl s
    ∙ ap (λ b. next (value e (node shape.Identifier xs n ts) s) (λ v z. ok (named_call b v) z)) (plain_names xs h)

-- a name of which that is known
record PlainlyCalled (t : Tree) : Type 0 where
  called_so : (e : Environment) (s : State) → called e t s ≡ next (value e t s) (λ v z. ok (plain_call v) z)
  item : is_item t ≡ true
  plain : is_plain_part t ≡ true
  no_number : is_number t ≡ false

named : (t : Tree) → is_name (shape_of t) && not (is_spelled (names_of t) (codes "eval")) ≡ true → PlainlyCalled t
named (node shape.Identifier xs n ts) h = record { called_so = λ e s. names_called e xs n ts s (not_true (is_spelled xs (codes "eval")) h); item = refl; plain = refl; no_number = refl }
named (node k xs n ts) h = absurd (true≢false (sym h))

called_name : (s : Seat) (t : Tree) → is_called_plainly s t ≡ true → PlainlyCalled t
called_name s t h = named t (and_parts (is_callee s.guard) (is_name (shape_of t) && not (is_spelled (names_of t) (codes "eval"))) h).1

-- ---- in its seat

abbrev Near : {A : Type 0} → VariableSet → Completion A → Completion A → Type 0
Near D x y = Goes true (λ a. Agree D) (Agree D) (Agree D) x y

called_near : (D : VariableSet) (x y : Completion Value) → Near D x y → Near D (next x (λ v z. ok (plain_call v) z)) (next y (λ v z. ok (plain_call v) z))
unfolding Goes either
called_near D (ok v s) (ok w t) g = (ap plain_call g.0, g.1)
called_near D (stop u s) (stop w t) g = g
called_near D (halt u s) (halt w t) g = g
called_near D out y g = weak D (next y (λ v z. ok (plain_call v) z))
called_near D x y g = absurd g

no_other : (g h : Guard) → is_callee g ≡ true → g ≡ h → is_callee h ≡ false → ⊥
no_other g h c e f = true≢false (sym c ∙ ap is_callee e ∙ f)

-- in any environment in which it is the same as a value, a truth or nothing
module _ (s : Seat) (n t : Tree) (p : stands n ≡ true) (i : is_item n ≡ true) (c : is_callee s.guard ≡ true) (x : PlainlyCalled t) (e : Environment) (D X : VariableSet) (h : (u : Want) → Same e D X (As u) n t) where
  called_by : (q : Demand) → Fits (Expr s) q → Same e D X q n t
  unfolding by_value
  called_by (As u) f = h u
  called_by AnEntry f = same_item e D X n t i x.item (h Val)
  called_by Callee f = record { by = λ r z j. subst (λ y. Near D y (means e t Callee tt z)) (sym (read_by_value n p e Callee tt z)) (subst (Near D (next (value e n z) (λ v y. ok (plain_call v) y))) (sym (x.called_so e z)) (called_near D (value e n z) (value e t z) ((h Val).by tt z j))) }
  called_by OfType f = absurd (no_other s.guard guard.Typeof c f.2 refl)
  called_by Deleted f = absurd (no_other s.guard guard.Delete c f.2 refl)
  called_by q f = record { by = λ r z j. subst (λ y. Near D y (means e t q r z)) (sym (read_by_value n p e q r z)) (weak D (means e t q r z)) }

-- ---- under `typeof`

record PlainlyTyped (s : Seat) (t : Tree) : Type 0 where
  asked : is_typeof s.guard ≡ true
  typed : is_typed_by_value t ≡ true
  plain : is_plain_part t ≡ true
  no_number : is_number t ≡ false

typed_part : (s : Seat) (t : Tree) → is_typed_plainly s t ≡ true → PlainlyTyped s t
typed_part s t h =
    let (asked, rest) = and_parts (is_typeof s.guard) (is_typed_by_value t && (is_plain_part t && not (is_number t))) h in
    let (typed, others) = and_parts (is_typed_by_value t) (is_plain_part t && not (is_number t)) rest in
    let (plain, none) = and_parts (is_plain_part t) (not (is_number t)) others in
    record { asked = asked; typed = typed; plain = plain; no_number = not_true (is_number t) none }

typed_item : (t : Tree) → is_typed_by_value t ≡ true → is_item t ≡ true
typed_item (node shape.Identifier xs n ts) h = refl
typed_item (node k xs n ts) h = h

no_typeof : (g h : Guard) → is_typeof g ≡ true → g ≡ h → is_typeof h ≡ false → ⊥
no_typeof g h c e f = true≢false (sym c ∙ ap is_typeof e ∙ f)

-- in any environment in which it is the same as a value, a truth or nothing
module _ (s : Seat) (n t : Tree) (p : stands n ≡ true) (i : is_item n ≡ true) (x : PlainlyTyped s t) (e : Environment) (D X : VariableSet) (h : (u : Want) → Same e D X (As u) n t) where
  typed_by : (q : Demand) → Fits (Expr s) q → Same e D X q n t
  unfolding by_value
  typed_by (As u) f = h u
  typed_by AnEntry f = same_item e D X n t i (typed_item t x.typed) (h Val)
  typed_by OfType f = record { by = λ r z j. subst (λ y. Near D y (means e t OfType tt z)) (sym (read_by_value n p e OfType tt z)) (subst (Near D (value e n z)) (sym (typed_by_value t x.typed e z)) ((h Val).by tt z j)) }
  typed_by Callee f = absurd (no_typeof s.guard guard.Callee x.asked f.2 refl)
  typed_by Deleted f = absurd (no_typeof s.guard guard.Delete x.asked f.2 refl)
  typed_by q f = record { by = λ r z j. subst (λ y. Near D y (means e t q r z)) (sym (read_by_value n p e q r z)) (weak D (means e t q r z)) }

-- ---- what is left of a sequence

module _ (s : Seat) (t : Tree) (h : stays_alone s t ≡ true) where
  left_by : (A : Type 0) → (suits s t ≡ true → A) → (is_called_plainly s t ≡ true → A) → (is_typed_plainly s t ≡ true → A) → A
  left_by A f g k = go (suits s t) (is_called_plainly s t) (is_typed_plainly s t) f g k h
    where
      go : (b c d : Bool) → (b ≡ true → A) → (c ≡ true → A) → (d ≡ true → A) → b || (c || d) ≡ true → A
      go true c d f g k e = f refl
      go false true d f g k e = g refl
      go false false d f g k e = k e

  pub left_plain : is_plain_part t ≡ true
  left_plain = left_by (is_plain_part t ≡ true) (plain_of s t) (λ c. (called_name s t c).plain) (λ c. (typed_part s t c).plain)

  pub left_number : takes_numbers s ≡ false → is_number t ≡ false
  left_number e = left_by (is_number t ≡ false) (not_a_number s t e) (λ c. (called_name s t c).no_number) (λ c. (typed_part s t c).no_number)

  -- unless it is read by its value
  pub left_read : suits s t ≡ false → (n : Tree) → stands n ≡ true → is_item n ≡ true → (e : Environment) (D X : VariableSet) → ((u : Want) → Same e D X (As u) n t) → (q : Demand) → Fits (Expr s) q → Same e D X q n t
  left_read f n p i e D X same q z = left_by (Same e D X q n t) (λ g. absurd (true≢false (sym g ∙ f)))
      (λ c. let (called_here, name) = and_parts (is_callee s.guard) (is_name (shape_of t) && not (is_spelled (names_of t) (codes "eval"))) c in
      called_by s n t p i called_here (named t name) e D X same q z)
      (λ c. typed_by s n t p i (typed_part s t c) e D X same q z)

  pub left_same : (n : Tree) → stands n ≡ true → is_item n ≡ true → SameWanted n t → SameAt (Expr s) n t
  left_same n p i same = go (suits s t) refl
    where
      go : (b : Bool) → suits s t ≡ b → SameAt (Expr s) n t
      go true f = same_in_seat s n t p (value_of s t f) same
      go false f = record { by = λ e D X q z. left_read f n p i e D X (same e D X) q z }
