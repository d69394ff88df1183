-- A chain for a node that is no reference: where its value is asked it stands alone, and elsewhere behind a `0`.
use Rattle.std.proofs.Common.{◌≡◌, ◌≤◌, ◌+◌, Bool, true, false, [], length, refl, sym, ap, ◌∙◌, arith}
use Rattle.std.specs.Prelude.{◌&&◌, ◌++◌, pos, if◌then◌else◌}
use Rattle.std.specs.Fmt.{signed_decimal}
use Rattle.std.proofs.lemmas.Bool.{and_parts}
use Rattle.std.proofs.lemmas.Fmt.{decimal_digit}
use Rattle.std.proofs.lemmas.List.{append-nil}
use Rattle.mini_model.specs.declared.place.Position.TheVariants.{Expr}
use Rattle.mini_model.specs.declared.seat.Guard.{Guard}
use Rattle.mini_model.specs.declared.seat.Guard.TheVariants as guard
use Rattle.mini_model.specs.declared.seat.Seat.{Seat}
use Rattle.mini_model.specs.declared.shape.Shape.TheVariants as shape
use Rattle.mini_model.specs.Tree.{Tree, none, ◌▸◌, leaf, listed}
use Rattle.mini_model.specs.Position.{branch_seat, chained_seat}
use Rattle.mini_model.specs.Weight.{outline, outlines, weight, is_parenthesized, is_awkward}
use Rattle.mini_accept.specs.WellShaped.{fits, is_not_positive_number}
use Rattle.mini_laws.specs.Value.{Number, VariableSet}
use Rattle.mini_laws.specs.State.{State, ok, stop, either, Environment}
use Rattle.mini_laws.specs.Demand.{Want, Demand, As}
use Rattle.mini_laws.specs.Fits.{Fits}
use Rattle.mini_laws.specs.Naming.{summary}
use Rattle.mini_laws.specs.Same.{Same}
use Rattle.mini_laws.specs.Step.{step, means}
use Rattle.mini_laws.specs.Truth.{told}
use Rattle.mini_laws.proofs.Rows.{by_equality}
use Rattle.mini_laws.proofs.Runs.{either_ok}
use Rattle.mini_laws.proofs.Truth.{coherent}
use Rattle.mini_kept.proofs.Bools.{both}
use Rattle.mini_kept.proofs.Expressions.{expression, two_fit}
use Rattle.mini_terms.specs.Exact.{by_value as behind_zero, kept_by_value}
use Rattle.mini_terms.specs.Reading.{is_item}
use Rattle.mini_rows.specs.Sketches.{Number as ANumber, Sequence, Sketch, under, list, end, ◌▹◌, no_items, item, Free, AsValue, parts_of, stands_well, is_expression, is_expression_head, is_rearranged, rearranges_expression}
use Rattle.mini_rows.specs.Chains.{chain}
use Rattle.mini_rows.proofs.ChainReferences.{reads_value, chain_for_value}
use Rattle.mini_rows.proofs.ChoiceRuns.{value, asked, Tells, pair_tells, pair_value}

-- what holds of both holds of what is written
pub by_guard : (P : Tree → Type 0) (g : Guard) (t : Tree) → (reads_value g ≡ true → P (chain t)) → P (behind_zero (chain t)) → P (kept_by_value g (chain t))
by_guard P guard.None t f p = f refl
by_guard P guard.Typeof t f p = f refl
by_guard P guard.Callee t f p = p
by_guard P guard.Delete t f p = p

-- ---- what stands behind a `0` has its value, and is no reference

abbrev pub zero_number : Tree
zero_number = leaf (shape.NumericLiteral (pos 0))

zero_value : (e : Environment) (s : State) → value e zero_number s ≡ ok (Number (pos 0)) s
unfolding means step
zero_value e s = refl

pub behind_value : (e : Environment) (t : Tree) (s : State) → value e (behind_zero t) s ≡ value e t s
behind_value e t s = pair_value e zero_number t s ∙ ap (λ y. either y (λ v z. value e t z) (λ x z. stop x z)) (zero_value e s) ∙ either_ok (Number (pos 0)) s (λ v z. value e t z) (λ x z. stop x z)

pub behind_wanted : (e : Environment) (t : Tree) (w : Want) (s : State) → means e (behind_zero t) (As w) tt s ≡ means e t (As w) tt s
behind_wanted e t w s = coherent (behind_zero t) w e s ∙ ap (told w) (behind_value e t s) ∙ sym (coherent t w e s)

module _ (e : Environment) (D X : VariableSet) (n t : Tree) (tells : Tells n) (h : (z : State) → value e n z ≡ value e t z) where
  behind_same : (q : Demand) → Same e D X q n (behind_zero t)
  behind_same q = by_equality e D X q n (behind_zero t) (λ r z. tells.by e q r z ∙ ap (asked q r) (h z ∙ sym (behind_value e t z)) ∙ sym ((pair_tells zero_number t).by e q r z))

pub kept_same : (e : Environment) (D X : VariableSet) (s : Seat) (n t : Tree) → is_item n ≡ true → Tells n → ((z : State) → value e n z ≡ value e (chain t) z) → (q : Demand) → Fits (Expr s) q → Same e D X q n (kept_by_value s.guard (chain t))
kept_same e D X s n t i tells h q f = by_guard (Same e D X q n) s.guard t (λ v. chain_for_value e D X s v n t i tells h q f) (behind_same e D X n (chain t) tells h q)

-- ---- what a parent reads of it

pub kept_read : (g : Guard) (t : Tree) → summary (chain t) ≡ summary (kept_by_value g (chain t))
kept_read g t = by_guard (λ u. summary (chain t) ≡ summary u) g t (λ v. refl) refl

pub kept_outline : (g : Guard) (t : Tree) → outline (chain t) ≡ outline (kept_by_value g (chain t))
kept_outline g t = by_guard (λ u. outline (chain t) ≡ outline u) g t (λ v. refl) refl

pub kept_number : (g : Guard) (t : Tree) → is_not_positive_number (kept_by_value g (chain t)) ≡ true
kept_number g t = by_guard (λ u. is_not_positive_number u ≡ true) g t (λ v. refl) refl

-- ---- where it stands

pub behind_fits : (strict : Bool) (t : Tree) → fits strict expression t ≡ true → fits strict expression (behind_zero t) ≡ true
behind_fits strict t e = both (fits strict expression zero_number && (fits strict expression t && true)) true (two_fit strict zero_number t refl e) refl

pub kept_fits : (strict : Bool) (g : Guard) (t : Tree) → fits strict expression (chain t) ≡ true → fits strict expression (kept_by_value g (chain t)) ≡ true
kept_fits strict g t e = by_guard (λ u. fits strict expression u ≡ true) g t (λ v. e) (behind_fits strict (chain t) e)

-- ---- the same parts

abbrev pub behind_sketch : Sketch → Sketch
behind_sketch s = under Sequence (list (item (under (ANumber (pos 0)) end) (item s no_items)) ▹ end)

behind_parts : (s : Sketch) → parts_of AsValue (behind_sketch s) ≡ parts_of AsValue s
behind_parts s = append-nil (parts_of AsValue s ++ []) ∙ append-nil (parts_of AsValue s)

behind_stands : (f : Free) (s : Sketch) → stands_well f AsValue s ≡ true → stands_well f AsValue (behind_sketch s) ≡ true
behind_stands f s e = both (stands_well f AsValue s && true) true (both (stands_well f AsValue s) true e refl) refl

-- what is built anew of the same parts is so behind a `0`
pub behind_rearranged : (f : Free) (s r : Sketch) → rearranges_expression f s r ≡ true → rearranges_expression f s (behind_sketch r) ≡ true
behind_rearranged f (under h ss) r e =
    let (head, e1) = and_parts (is_expression_head h) (is_expression r && (stands_well f AsValue (under h ss) && (stands_well f AsValue r && is_rearranged f (parts_of AsValue (under h ss)) (parts_of AsValue r)))) e in
    let (root, e2) = and_parts (is_expression r) (stands_well f AsValue (under h ss) && (stands_well f AsValue r && is_rearranged f (parts_of AsValue (under h ss)) (parts_of AsValue r))) e1 in
    let (first, e3) = and_parts (stands_well f AsValue (under h ss)) (stands_well f AsValue r && is_rearranged f (parts_of AsValue (under h ss)) (parts_of AsValue r)) e2 in
    let (second, rearranged) = and_parts (stands_well f AsValue r) (is_rearranged f (parts_of AsValue (under h ss)) (parts_of AsValue r)) e3 in
    both (is_expression_head h) _ head
    (both (stands_well f AsValue (under h ss)) _ first
    (both (stands_well f AsValue (behind_sketch r)) _ (behind_stands f r second)
    (ap (is_rearranged f (parts_of AsValue (under h ss))) (behind_parts r) ∙ rearranged)))
behind_rearranged f s r e = absurd (cc e)

-- ---- how much it weighs

four_at_most : (b : Bool) → (if b then 4 else 0) ≤ 4
four_at_most true = omega arith
four_at_most false = omega arith

one_at_most : (b : Bool) → (if b then 1 else 0) ≤ 1
one_at_most true = omega arith
one_at_most false = omega arith

chain_light : (s : Seat) (t : Tree) → weight (Expr s) (chain t) ≤ weight (Expr (chained_seat s)) t + 5
chain_light s t = omega (arith, four_at_most (is_parenthesized shape.ChainExpression s), one_at_most (is_awkward s shape.ChainExpression (outlines (t ▸ none))))

behind_light : (s : Seat) (t : Tree) → weight (Expr s) (behind_zero (chain t)) ≤ weight (Expr (chained_seat (branch_seat s))) t + 9
behind_light s t =
    let one : length (signed_decimal (pos 0)) ≡ 1 = ap length (decimal_digit 0 (omega arith)) in
    omega (arith, one, four_at_most (is_parenthesized shape.SequenceExpression s), one_at_most (is_awkward s shape.SequenceExpression (outlines (listed (zero_number ▸ chain t ▸ none) ▸ none))))

-- at most by nine more than what it holds, which weighs no more there than in a branch
pub kept_light : (s : Seat) (t : Tree) → ((r : Seat) → weight (Expr (chained_seat r)) t ≤ weight (Expr (branch_seat r)) t) → weight (Expr s) (kept_by_value s.guard (chain t)) ≤ weight (Expr (branch_seat s)) t + 9
kept_light s t moved =
    by_guard (λ u. weight (Expr s) u ≤ weight (Expr (branch_seat s)) t + 9) s.guard t
    (λ v. let light = chain_light s t in let more = moved s in omega (arith, light, more))
    (let light = behind_light s t in let more : weight (Expr (chained_seat (branch_seat s))) t ≤ weight (Expr (branch_seat s)) t = moved (branch_seat s) in omega (arith, light, more))
