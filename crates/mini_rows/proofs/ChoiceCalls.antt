-- Two calls of one function between which a conditional chooses, and which differ in their first argument alone: one call chooses that.
use Rattle.std.proofs.Common.{◌≡◌, ◌<◌, ◌≤◌, Bool, true, false, List, [], ◌∷◌, refl, sym, ap, subst, ◌∙◌, true≢false, arith}
use Rattle.std.specs.Prelude.{◌+◌, ◌&&◌, ◌||◌}
use Rattle.std.proofs.lemmas.Bool.{and_parts}
use Rattle.mini_model.specs.declared.place.Position.TheVariants.{Expr}
use Rattle.mini_model.specs.declared.seat.Seat.{Seat}
use Rattle.mini_model.specs.declared.shape.Shape.TheVariants as shape
use Rattle.mini_model.specs.Tree.{Tree, Trees, node, none, ◌▸◌, listed, conditional, call}
use Rattle.mini_model.specs.Position.{argument_seat, branch_seat}
use Rattle.mini_model.specs.Weight.{Outline, outline, outlines, weight, place_weight, is_parenthesized, commas_weight}
use Rattle.mini_accept.specs.WellShaped.{an_argument, one, many, fits, fill, each}
use Rattle.mini_laws.specs.Value.{Value}
use Rattle.mini_laws.specs.Naming.{summary}
use Rattle.mini_laws.specs.State.{State, Completion, out, either, Environment}
use Rattle.mini_laws.specs.Demand.{Demand, OfType, Called, Request}
use Rattle.mini_laws.proofs.Runs.{either_eta}
use Rattle.mini_laws.proofs.Seats.{placed}
use Rattle.mini_model.specs.Paths.{append}
use Rattle.mini_node.specs.Walks.{append_none}
use Rattle.mini_terms.specs.Effects.{ef}
use Rattle.mini_terms.specs.Reading.{is_item, is_plain_part, by_value}
use Rattle.mini_terms.proofs.Reading.{read_by_value}
use Rattle.mini_kept.proofs.Bools.{left, both}
use Rattle.mini_kept.proofs.Expressions.{expression, expression_taken, three_fit}
use Rattle.mini_rows.specs.Arranged.{KeptAt}
use Rattle.mini_rows.specs.Sketches.{still, Conditional, Call, Spread, Sketch, Parts, part, under, list, end, ◌▹◌, item as item_of, items as items_of, no_items}
use Rattle.mini_rows.specs.Chains.{a_call}
use Rattle.mini_rows.specs.Choices.{argument, CallRow, Row44, CallsLighter}
use Rattle.mini_rows.proofs.ArrangedExpressions.{expressions_arranged, CodeKept, code_arranged}
use Rattle.mini_rows.proofs.ChainRuns.{called, items, next, calls, value_is}
use Rattle.mini_rows.proofs.ChoiceFree.{Told, told_there, chosen, goes_on_chosen, begins_alike}
use Rattle.mini_rows.proofs.ChoiceItems.{given, argument_read, nothing_given, gathers, items_split}
use Rattle.mini_rows.proofs.ChoiceRuns.{value, asked, Tells, conditional_tells, conditional_value}
use Rattle.mini_rows.proofs.ChoiceRuns.{by_value as same_value}
use Rattle.mini_rows.proofs.ChoiceWeights.{no_awkward, pair_of}
use Rattle.mini_rows.proofs.IdleCallees.{idle_called, callee_told}
use Rattle.mini_rows.proofs.IdleWeights.{callee_heavy}
use Rattle.mini_rows.proofs.PlainRead.{plain_read}
use Rattle.mini_rows.proofs.SpellAlike.{SameTree}
use Rattle.mini_rows.proofs.SpellWeights.{falls_by}

-- ---- a call

-- a call is read by its value
as_asked : (q : Demand) (r : Request q) (x : Completion Value) → by_value q r x ≡ asked q r x
unfolding by_value asked
as_asked OfType r x = sym (either_eta x)
as_asked q r x = refl

call_tells : (f : Tree) (ts : Trees) → Tells (call false f ts)
call_tells f ts = record { by = λ e q r s. read_by_value (call false f ts) refl e q r s ∙ as_asked q r (value e (call false f ts) s) }

or_right : (b : Bool) → b || true ≡ true
or_right true = refl
or_right false = refl

-- where neither the function nor the test does anything there
module _ (e : Environment) (f : Tree) (b : Bool) (a p q : Tree) (ts : Trees) (is_first : b || is_item p ≡ true) (is_second : b || is_item q ≡ true) (s : State) (callee : Told (called e f s) s) (test : Told (value e a s) s) where
  abbrev either_one : Tree
  either_one = conditional a p q

  -- the call, after the function and the first argument's value
  abbrev goes_on : Called → Completion Value → Completion Value
  goes_on g y = next (next (given e b y) (gathers e ts)) (λ vs z. calls e false g vs z)

  -- and after the function alone
  abbrev follows : Tree → Called → State → Completion Value
  follows t g z = next (items e (argument b t ▸ ts) z) (λ vs y. calls e false g vs y)

  nothing_goes_on : (g : Called) → goes_on g out ≡ out
  unfolding either
  nothing_goes_on g = ap (λ y. next (next y (gathers e ts)) (λ vs z. calls e false g vs z)) (nothing_given e b)

  follows_value : (t : Tree) → b || is_item t ≡ true → (g : Called) (z : State) → follows t g z ≡ goes_on g (value e t z)
  follows_value t i g z = ap (λ y. next y (λ vs z. calls e false g vs z)) (items_split e (argument b t) ts z ∙ ap (λ y. next y (gathers e ts)) (argument_read b t i e z))

  follows_chosen : (g : Called) → follows either_one g s ≡ chosen (value e a s) (follows p g) (follows q g)
  follows_chosen g =
      follows_value either_one (or_right b) g s
      ∙ ap (goes_on g) (conditional_value e a p q s)
      ∙ goes_on_chosen (goes_on g) (nothing_goes_on g) (value e a s) s test (λ z. value e p z) (λ z. value e q z)
      ∙ (λ i. chosen (value e a s) (λ z. (sym (follows_value p is_first g z)) i) (λ z. (sym (follows_value q is_second g z)) i))

  pub call_chosen : value e (conditional a (call false f (argument b p ▸ ts)) (call false f (argument b q ▸ ts))) s ≡ value e (call false f (argument b either_one ▸ ts)) s
  call_chosen =
      conditional_value e a (call false f (argument b p ▸ ts)) (call false f (argument b q ▸ ts)) s
      ∙ begins_alike s (called e f s) (value e a s) callee test (follows p) (follows q) (follows either_one) follows_chosen (λ z. value e (call false f (argument b p ▸ ts)) z) (λ z. value e (call false f (argument b q ▸ ts)) z) (value_is e false (a_call (argument b p ▸ ts)) f s) (value_is e false (a_call (argument b q ▸ ts)) f s)
      ∙ sym (value_is e false (a_call (argument b either_one ▸ ts)) f s)

-- where `this` is asked of the world only if it has an effect
pub idle_chosen : (e : Environment) (asked : Bool) → (asked ≡ false → e.asks_this ≡ false) → (n w : Tree) (r : CallRow asked n w) (s : State) → value e n s ≡ value e w s
idle_chosen e asked f n w r s =
    let told = told_there e asked f in
    ap (λ t. value e t s) r.shape
    ∙ call_chosen e r.callee r.is_spread r.a r.p r.q r.others r.first r.second s (callee_told e r.callee (idle_called e asked r.callee r.idle) s (told r.callee r.idle s)) (told r.a r.effect_free s)
    ∙ sym (ap (λ t. value e t s) r.written)

-- a row of calls is read by its value
pub row_tells : (asked : Bool) (n w : Tree) → CallRow asked n w → Tells n × Tells w
row_tells asked n w r = (
  subst Tells (sym r.shape) (conditional_tells r.a (call false r.callee (argument r.is_spread r.p ▸ r.others)) (call false r.callee (argument r.is_spread r.q ▸ r.others))),
  subst Tells (sym r.written) (call_tells r.callee (argument r.is_spread (conditional r.a r.p r.q) ▸ r.others)),
)

pub row_read : (asked : Bool) (n w : Tree) → CallRow asked n w → summary n ≡ summary w
row_read asked n w r = ap summary r.shape ∙ sym (plain_read (call false r.callee (argument r.is_spread (conditional r.a r.p r.q) ▸ r.others)) r.plain) ∙ sym (ap summary r.written)

-- 44 means the same
pub calls_same : (n w : Tree) → Row44 n w → SameTree n w
calls_same n w r = let (t, u) = row_tells true n w r in same_value n w t u (row_read true n w r) (λ e s. idle_chosen e true (λ f. absurd (true≢false f)) n w r s)

-- ---- where it stands

module _ (strict : Bool) where
  abbrev Fits : Tree → Type 0
  Fits t = fits strict expression t ≡ true

  abbrev AreArguments : Trees → Type 0
  AreArguments ts = fill strict (each (one an_argument)) ts ≡ true

  -- an argument that is no spread element is an expression
  argument_is : (t : Tree) → is_item t ≡ true → fits strict (one an_argument) t ≡ true → Fits t
  argument_is (node shape.SpreadElement xs n ts) i e = absurd (true≢false (sym i))
  argument_is (node h xs n ts) i e = e

  -- what is spread is one, too
  given_is : (b : Bool) (t : Tree) → b || is_item t ≡ true → fits strict (one an_argument) (argument b t) ≡ true → Fits t
  given_is false t i e = argument_is t i e
  given_is true t i e = left (fits strict expression t) true e

  given_fits : (b : Bool) (t : Tree) → Fits t → fits strict (one an_argument) (argument b t) ≡ true
  given_fits false t e = expression_taken strict (one an_argument) t tt e
  given_fits true t e = both (fits strict expression t) true e refl

  of_call : (f : Tree) (b : Bool) (p : Tree) (ts : Trees) → b || is_item p ≡ true → Fits (call false f (argument b p ▸ ts)) → Fits f × (Fits p × AreArguments ts)
  of_call f b p ts i e =
      let (callee, rest) = and_parts (fits strict expression f) (fits strict (many an_argument) (listed (argument b p ▸ ts)) && true) e in
      let (first, others) = and_parts (fits strict (one an_argument) (argument b p)) (fill strict (each (one an_argument)) ts) (left (fits strict (many an_argument) (listed (argument b p ▸ ts))) true rest) in
      (callee, (given_is b p i first, others))

  call_fits : (f : Tree) (b : Bool) (t : Tree) (ts : Trees) → Fits f → Fits t → AreArguments ts → Fits (call false f (argument b t ▸ ts))
  call_fits f b t ts callee first others =
      both (fits strict expression f) (fits strict (many an_argument) (listed (argument b t ▸ ts)) && true) callee
      (both (fits strict (many an_argument) (listed (argument b t ▸ ts))) true (both (fits strict (one an_argument) (argument b t)) (fill strict (each (one an_argument)) ts) (given_fits b t first) others) refl)

  pub calls_fit : (f : Tree) (b : Bool) (a p q : Tree) (ts : Trees) → b || is_item p ≡ true → b || is_item q ≡ true → Fits a → Fits (call false f (argument b p ▸ ts)) → Fits (call false f (argument b q ▸ ts)) → Fits (call false f (argument b (conditional a p q) ▸ ts))
  calls_fit f b a p q ts i j test e g =
      let (callee, (first, others)) = of_call f b p ts i e in
      let (again, (second, same)) = of_call f b q ts j g in
      call_fits f b (conditional a p q) ts callee (three_fit strict a p q test first second) others

-- ---- the same parts

abbrev calls_part : Sketch → Sketch
calls_part s = under (Call false) (part 0 ▹ list (item_of s (items_of 0 no_items)) ▹ end)

abbrev call_parts : Tree → Tree → Tree → Tree → Trees → Parts
call_parts f a p q ts = record { trees = f ▸ a ▸ p ▸ q ▸ none; lists = ts ∷ [] }

chosen_kept : (b : Bool) (f : Tree) (a p q : Tree) (ts : Trees) (s : Seat) (n w : Tree) → n ≡ conditional a (call false f (argument b p ▸ append ts none)) (call false f (argument b q ▸ append ts none)) → w ≡ call false f (argument b (conditional a p q) ▸ append ts none) → KeptAt (Expr s) n w
chosen_kept false f a p q ts s n w e g = expressions_arranged (call_parts f a p q ts) (under Conditional (part 1 ▹ calls_part (part 2) ▹ calls_part (part 3) ▹ end)) (calls_part (under Conditional (part 1 ▹ part 2 ▹ part 3 ▹ end))) refl s n w e g
chosen_kept true f a p q ts s n w e g =
    expressions_arranged (call_parts f a p q ts) (under Conditional (part 1 ▹ calls_part (under Spread (part 2 ▹ end)) ▹ calls_part (under Spread (part 3 ▹ end)) ▹ end)) (calls_part (under Spread (under Conditional (part 1 ▹ part 2 ▹ part 3 ▹ end) ▹ end))) refl s n w e g

chosen_code : (b : Bool) (f : Tree) (a p q : Tree) (ts : Trees) (n w : Tree) → n ≡ conditional a (call false f (argument b p ▸ append ts none)) (call false f (argument b q ▸ append ts none)) → w ≡ call false f (argument b (conditional a p q) ▸ append ts none) → CodeKept n w
chosen_code false f a p q ts n w e g = code_arranged still (call_parts f a p q ts) (tt, tt) Conditional (Call false) (part 1 ▹ calls_part (part 2) ▹ calls_part (part 3) ▹ end) (part 0 ▹ list (item_of (under Conditional (part 1 ▹ part 2 ▹ part 3 ▹ end)) (items_of 0 no_items)) ▹ end) refl n w e g
chosen_code true f a p q ts n w e g =
    code_arranged still (call_parts f a p q ts) (tt, tt) Conditional (Call false) (part 1 ▹ calls_part (under Spread (part 2 ▹ end)) ▹ calls_part (under Spread (part 3 ▹ end)) ▹ end) (part 0 ▹ list (item_of (under Spread (under Conditional (part 1 ▹ part 2 ▹ part 3 ▹ end) ▹ end)) (items_of 0 no_items)) ▹ end) refl n w e g

-- what is read and what is written, with the other arguments as a part
record Parted (n w : Tree) (asked : Bool) (r : CallRow asked n w) : Type 0 where
  shape : n ≡ conditional r.a (call false r.callee (argument r.is_spread r.p ▸ append r.others none)) (call false r.callee (argument r.is_spread r.q ▸ append r.others none))
  written : w ≡ call false r.callee (argument r.is_spread (conditional r.a r.p r.q) ▸ append r.others none)

parted : (asked : Bool) (n w : Tree) (r : CallRow asked n w) → Parted n w asked r
parted asked n w r =
    let others = sym (append_none r.others) in record {
      shape = r.shape ∙ (λ i. conditional r.a (call false r.callee (argument r.is_spread r.p ▸ others i)) (call false r.callee (argument r.is_spread r.q ▸ others i)));
      written = r.written ∙ (λ i. call false r.callee (argument r.is_spread (conditional r.a r.p r.q) ▸ others i));
    }

pub calls_kept : (asked : Bool) (q : Seat) (n w : Tree) → CallRow asked n w → KeptAt (Expr q) n w
calls_kept asked q n w r = let x = parted asked n w r in chosen_kept r.is_spread r.callee r.a r.p r.q r.others q n w x.shape x.written

pub calls_code : (asked : Bool) (n w : Tree) → CallRow asked n w → CodeKept n w
calls_code asked n w r = let x = parted asked n w r in chosen_code r.is_spread r.callee r.a r.p r.q r.others n w x.shape x.written

-- ---- lighter: a call and its function go

call_marks : (s : Seat) (os : List Outline) → place_weight (Expr s) (shape.CallExpression false) os ≤ 4
call_marks s os = let plain = no_awkward s.eq_left s.cond_test s.lifted in omega (arith, plain, pair_of (is_parenthesized (shape.CallExpression false) s))

-- commas don't ask what the first argument is
first_comma : (o u : Outline) (os : List Outline) → commas_weight (o ∷ os) ≡ commas_weight (u ∷ os)
first_comma o u [] = refl
first_comma o u (p ∷ os) = refl

-- an argument weighs what its expression does, more or less
given_weighs : (b : Bool) (t u : Tree) → weight (Expr argument_seat) (argument b t) + weight (Expr argument_seat) u ≡ weight (Expr argument_seat) (argument b u) + weight (Expr argument_seat) t
given_weighs false t u = omega arith
given_weighs true t u = omega arith

given_least : (b : Bool) (t : Tree) → weight (Expr argument_seat) t ≤ weight (Expr argument_seat) (argument b t)
given_least false t = omega arith
given_least true t = omega arith

call_falls : (asked : Bool) (s : Seat) (f : Tree) → is_plain_part f ≡ true → ef asked f ≡ true → (b : Bool) (a p q : Tree) (ts : Trees) → weight (Expr s) (call false f (argument b (conditional a p q) ▸ ts)) < weight (Expr s) (conditional a (call false f (argument b p ▸ ts)) (call false f (argument b q ▸ ts)))
call_falls asked s f i h b a p q ts =
    let one = argument b (conditional a p q) in
    let marks = call_marks s (outlines (f ▸ listed (one ▸ ts) ▸ none)) in
    let first = placed 0 (branch_seat argument_seat) argument_seat refl (λ h os. omega arith) p in
    let second = placed 0 (branch_seat argument_seat) argument_seat refl (λ h os. omega arith) q in
    let commas = first_comma (outline one) (outline (argument b p)) (outlines ts) in
    let given = given_weighs b (conditional a p q) p in
    let least = given_least b q in
    omega (arith, marks, first, second, commas, given, least, callee_heavy asked f i h)

pub row_falls : (asked : Bool) (s : Seat) (n w : Tree) → CallRow asked n w → weight (Expr s) w < weight (Expr s) n
row_falls asked s n w r = falls_by (Expr s) n w _ _ r.shape r.written (call_falls asked s r.callee r.plain r.idle r.is_spread r.a r.p r.q r.others)

pub calls_lighter : CallsLighter
calls_lighter s n w r = row_falls true s n w r
