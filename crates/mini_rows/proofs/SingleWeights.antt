-- What a tree weighs with another in the place of what it reads.
use Rattle.std.proofs.Common.{◌≡◌, inl, inr, ℕ, suc, ◌+◌, ◌≤◌, Bool, true, false, [], ◌∷◌, List, Option, Some, None, refl, sym, ap, ◌∙◌, subst, true≢false, arith}
use Rattle.std.specs.Prelude.{is_none, length, if◌then◌else◌, pos, zero, ◌&&◌}
use Rattle.mini_model.specs.declared.kind.VariableDeclarationKind.{VariableDeclarationKind}
use Rattle.mini_model.specs.declared.kind.VariableDeclarationKind.TheVariants.{Var, Let, Const}
use Rattle.mini_model.specs.declared.name.Name.{Name}
use Rattle.mini_model.specs.declared.name.SymbolId.{SymbolId}
use Rattle.mini_model.specs.declared.kind.PropertyKind.TheVariants.{Init}
use Rattle.mini_model.specs.declared.operator.AssignmentOperator.TheVariants.{Assign}
use Rattle.mini_model.specs.declared.operator.UnaryOperator.TheVariants.{Void}
use Rattle.mini_model.specs.declared.place.Position.{Position}
use Rattle.mini_model.specs.declared.place.Position.TheVariants.{Expr, Stmt, Target, ArgumentList, SequenceList, TemplateList, CommaList, Elsewhere}
use Rattle.mini_model.specs.declared.seat.Seat.{Seat}
use Rattle.mini_model.specs.declared.seat.StmtSeat.{StmtSeat}
use Rattle.mini_model.specs.declared.seat.StmtSeat.TheVariants as stmt_seat
use Rattle.mini_model.specs.declared.shape.Shape.TheVariants as shape
use Rattle.mini_model.specs.Tree.{Tree, Trees, node, none, ◌▸◌, count, identifier}
use Rattle.mini_model.specs.Paths.{append}
use Rattle.mini_model.specs.Position.{argument_seat, statement_expression_seat, whole_seat, seat_of_level, unary_operand_seat, child_position}
use Rattle.mini_model.specs.Weight.{commas_weight, outline, outlines, one_chooses, braces_weight, is_awkward, own_weight, text_weight, place_weight, spelled_weight, weight, weights}
use Rattle.mini_laws.specs.Symbols.{is_same}
use Rattle.mini_terms.specs.Reading.{is_plain_part}
use Rattle.mini_rows.specs.Declarations.{binding, declarator}
use Rattle.mini_rows.specs.Lists.{block, declaration, Each, EachIn, EachOf, each_loop}
use Rattle.mini_rows.specs.Sketches.{shape_by, Asked, AsWholeItem, AsValue, AsValues, AsTarget, AsUpdated, asked_below}
use Rattle.mini_rows.specs.Unused.{resolved, declared_among, declared_left, is_first, put_first, reads_first, reads_head, reads_hidden, takes, is_own_key}
use Rattle.mini_rows.proofs.BooleanWeights.{moved}
use Rattle.mini_rows.proofs.HiddenHeads.{for_initial, Hidden, hidden, Taken, taken}
use Rattle.mini_rows.proofs.ListWeights.{total, in_list, comma_list, declarators_append}
use Rattle.mini_rows.proofs.ListKeptHeads as opening
use Rattle.mini_rows.proofs.ListKeptHeads.{Loop, Choice, seated}
use Rattle.mini_rows.proofs.SingleUse.{Lead, Not, Plus, Minus, Tilde, Typing, Emptying, Beside, Deciding, Choosing, Passing, Called, Making, Waiting, Member, Keyed, Linking, Holding, Against, Given, Filling, Keying, Interpolating, Following, Branching, Failing, Storing, Gathering, Fielding, Spreading, Bracketing, Targeted, Changing, Listing, Doing, Giving, Raising, Testing, target_stands, head_of, before, place, Step, led, is_end, Stands, Well, Initial, as_initial, heads, path, statement, Outside, Over, Begun, Heads, Path, found, found_head, by_front, ends_short}

-- ---- where the steps stand

abbrev Placed : Asked → Position → Type 0
Placed AsWholeItem (Stmt q) = Unit {0}
Placed AsValue (Expr s) = Unit {0}
Placed AsValue Elsewhere = Unit {0}
Placed AsTarget Target = Unit {0}
Placed AsUpdated Target = Unit {0}
Placed AsValues (SequenceList s) = Unit {0}
Placed AsValues ArgumentList = Unit {0}
Placed AsValues CommaList = Unit {0}
Placed AsValues TemplateList = Unit {0}
Placed c p = ⊥

-- at its place below a step
abbrev PlacedBelow : Asked → Lead → Position → ℕ → Type 0
PlacedBelow c l p n = Placed (asked_below (head_of l) c (place 0 (before l))) (child_position (shape_by (head_of l)) p n (count (before l)))

placed_statement : (l : Lead) (b : Bool) → Stands AsWholeItem l b → (p : Position) (n : ℕ) → PlacedBelow AsWholeItem l p n
placed_statement Doing b s p n = tt
placed_statement Giving b s p n = tt
placed_statement Raising b s p n = tt
placed_statement Testing b s p n = tt
placed_statement l b s p n = absurd s

placed_value : (l : Lead) (b : Bool) → Stands AsValue l b → (p : Position) (n : ℕ) → PlacedBelow AsValue l p n
placed_value Not b s p n = tt
placed_value Plus b s p n = tt
placed_value Minus b s p n = tt
placed_value Tilde b s p n = tt
placed_value Typing b s p n = tt
placed_value Emptying b s p n = tt
placed_value (Beside o) b s p n = tt
placed_value (Deciding o) b s p n = tt
placed_value Choosing b s p n = tt
placed_value Passing b s p n = tt
placed_value (Called o) b s p n = tt
placed_value Making b s p n = tt
placed_value (Waiting d) b s p n = tt
placed_value (Member o) b s p n = tt
placed_value (Keyed o) b s p n = tt
placed_value Linking b s p n = tt
placed_value Holding b s p n = tt
placed_value Gathering b s p n = tt
placed_value Spreading b s p n = tt
placed_value Bracketing b s p n = tt
placed_value (Against o a) b s p n = tt
placed_value (Given o a) b s p n = tt
placed_value (Filling a) b s p n = tt
placed_value (Keying o a) b s p n = tt
placed_value (Interpolating a) b s p n = tt
placed_value (Following o a) b s p n = tt
placed_value (Branching a) b s p n = tt
placed_value (Failing a d) b s p n = tt
placed_value (Storing o a) b s p n = tt
placed_value (Fielding g a) b s p n = tt
placed_value (Targeted Assign) b s p n = tt
placed_value (Targeted o) b s p n = tt
placed_value (Changing o u) b s p n = tt
placed_value l b s p n = absurd s

placed_target : (l : Lead) (b : Bool) → Stands AsTarget l b → (c : Asked) (p : Position) (n : ℕ) → PlacedBelow c l p n
placed_target (Member false) b s c p n = tt
placed_target (Keyed false) b s c p n = tt
placed_target (Keying false a) b s c p n = tt
placed_target l b s c p n = absurd s

placed_part : (l : Lead) (b : Bool) → Stands AsValues l b → (p : Position) → Placed AsValues p → (n : ℕ) → PlacedBelow AsValues l p n
placed_part (Listing ts) b s (SequenceList t) q n = tt
placed_part (Listing ts) b s ArgumentList q n = tt
placed_part (Listing ts) b s CommaList q n = tt
placed_part (Listing ts) b s TemplateList q n = tt
placed_part (Listing ts) b s p q n = absurd q
placed_part l b s p q n = absurd s

placed_below : (c : Asked) (l : Lead) (b : Bool) → Stands c l b → (p : Position) → Placed c p → (n : ℕ) → PlacedBelow c l p n
placed_below AsWholeItem l b s p q n = placed_statement l b s p n
placed_below AsValue l b s p q n = placed_value l b s p n
placed_below AsValues l b s p q n = placed_part l b s p q n
placed_below AsTarget l b s p q n = placed_target l b s AsTarget p n
placed_below AsUpdated l b s p q n = placed_target l b (target_stands l b s) AsUpdated p n
placed_below c l b s p q n = absurd s

-- ---- a step weighs the same

-- with another child
abbrev SameOwn : Position → Lead → Tree → Tree → Trees → Type 0
SameOwn p l t u ts = own_weight p (shape_by (head_of l)) [] (outlines (append (before l) (t ▸ ts))) ≡ own_weight p (shape_by (head_of l)) [] (outlines (append (before l) (u ▸ ts)))

same_statement : (l : Lead) (b : Bool) → Stands AsWholeItem l b → (q : StmtSeat) (t u : Tree) (ts : Trees) → SameOwn (Stmt q) l t u ts
same_statement Doing b s q t u ts = refl
same_statement Giving b s q t u ts = refl
same_statement Raising b s q t u ts = refl
same_statement Testing b s q t u ts = refl
same_statement l b s q t u ts = absurd s

-- under `void` both are a zero, or neither is; between the texts of a template as many items are
abbrev SameZero : Lead → Tree → Tree → Type 0
SameZero Emptying t u = (outline t).is_zero ≡ (outline u).is_zero
SameZero (Interpolating a) t u = (outline t).items ≡ (outline u).items
SameZero l t u = Unit {0}

zeros : (c : Asked) (l : Lead) (b : Bool) → Stands c l b → (t u : Tree) → (outline t).is_zero ≡ (outline u).is_zero → (b ≡ false → (outline t).items ≡ (outline u).items) → SameZero l t u
zeros c Emptying b s t u e f = e
zeros AsValue (Interpolating a) b s t u e f = f s
zeros c (Interpolating a) b s t u e f = absurd s
zeros c l b s t u e f = tt

same_value : (l : Lead) (b : Bool) → Stands AsValue l b → (q : Seat) (t u : Tree) (ts : Trees) → SameZero l t u → SameOwn (Expr q) l t u ts
same_value Not b s q t u ts z = refl
same_value Plus b s q t u ts z = refl
same_value Minus b s q t u ts z = refl
same_value Tilde b s q t u ts z = refl
same_value Typing b s q t u ts z = refl
same_value Emptying b s q t u ts z = ap (λ c. own_weight (Expr q) (shape.UnaryExpression Void) [] (record (outline t) { is_zero = c } ∷ outlines ts)) z
same_value (Beside p) b s q t u ts z = refl
same_value (Deciding p) b s q t u ts z = refl
same_value Choosing b s q t u ts z = refl
same_value Passing b s q t u ts z = refl
same_value (Called o) b s q t u ts z = refl
same_value Making b s q t u ts z = refl
same_value (Waiting d) b s q t u ts z = refl
same_value (Member o) b s q t u ts z = refl
same_value (Keyed o) b s q t u ts z = refl
same_value Linking b s q t u ts z = refl
same_value Holding b s q t u ts z = refl
same_value Gathering b s q t u ts z = refl
same_value Spreading b s q t u ts z = refl
same_value Bracketing b s q t u ts z = refl
same_value (Against o a) b s q t u ts z = refl
same_value (Given o a) b s q t u ts z = refl
same_value (Filling a) b s q t u ts z = refl
same_value (Keying o a) b s q t u ts z = refl
same_value (Interpolating a) b s q t u ts z = ap (λ i. own_weight (Expr q) shape.TemplateLiteral [] (outline a ∷ (record (outline t) { items = i } ∷ outlines ts))) z
same_value (Following o a) b s q t u ts z = refl
same_value (Branching a) b s q t u ts z = refl
same_value (Failing a d) b s q t u ts z = refl
same_value (Storing o a) b s q t u ts z = refl
same_value (Fielding g a) b s q t u ts z = refl
same_value (Targeted o) b s q t u ts z = refl
same_value (Changing o p) b s q t u ts z = refl
same_value l b s q t u ts z = absurd s

same_there : (l : Lead) (b : Bool) → Stands AsValue l b → (t u : Tree) (ts : Trees) → SameZero l t u → SameOwn Elsewhere l t u ts
same_there Not b s t u ts z = refl
same_there Plus b s t u ts z = refl
same_there Minus b s t u ts z = refl
same_there Tilde b s t u ts z = refl
same_there Typing b s t u ts z = refl
same_there Emptying b s t u ts z = ap (λ c. own_weight Elsewhere (shape.UnaryExpression Void) [] (record (outline t) { is_zero = c } ∷ outlines ts)) z
same_there (Beside p) b s t u ts z = refl
same_there (Deciding p) b s t u ts z = refl
same_there Choosing b s t u ts z = refl
same_there Passing b s t u ts z = refl
same_there (Called o) b s t u ts z = refl
same_there Making b s t u ts z = refl
same_there (Waiting d) b s t u ts z = refl
same_there (Member o) b s t u ts z = refl
same_there (Keyed o) b s t u ts z = refl
same_there Linking b s t u ts z = refl
same_there Holding b s t u ts z = refl
same_there Gathering b s t u ts z = refl
same_there Spreading b s t u ts z = refl
same_there Bracketing b s t u ts z = refl
same_there (Against o a) b s t u ts z = refl
same_there (Given o a) b s t u ts z = refl
same_there (Filling a) b s t u ts z = refl
same_there (Keying o a) b s t u ts z = refl
same_there (Interpolating a) b s t u ts z = ap (λ i. own_weight Elsewhere shape.TemplateLiteral [] (outline a ∷ (record (outline t) { items = i } ∷ outlines ts))) z
same_there (Following o a) b s t u ts z = refl
same_there (Branching a) b s t u ts z = refl
same_there (Failing a d) b s t u ts z = refl
same_there (Storing o a) b s t u ts z = refl
same_there (Fielding g a) b s t u ts z = refl
same_there (Targeted o) b s t u ts z = refl
same_there (Changing o p) b s t u ts z = refl
same_there l b s t u ts z = absurd s

same_target : (l : Lead) (b : Bool) → Stands AsTarget l b → (t u : Tree) (ts : Trees) → SameOwn Target l t u ts
same_target (Member false) b s t u ts = refl
same_target (Keyed false) b s t u ts = refl
same_target (Keying false a) b s t u ts = refl
same_target l b s t u ts = absurd s

commas_put : (ps : Trees) (t u : Tree) (ts : Trees) → commas_weight (outlines (append ps (t ▸ ts))) ≡ commas_weight (outlines (append ps (u ▸ ts)))
commas_put none t u none = refl
commas_put none t u (v ▸ ts) = refl
commas_put (p ▸ none) t u ts = ap (λ k. 2 + k) (commas_put none t u ts)
commas_put (p ▸ (q ▸ ps)) t u ts = ap (λ k. 2 + k) (commas_put (q ▸ ps) t u ts)

same_parts : (l : Lead) (b : Bool) → Stands AsValues l b → (q : Seat) (t u : Tree) (ts : Trees) → SameOwn (SequenceList q) l t u ts
same_parts (Listing ps) b s q t u ts = ap (λ k. k + 0) (commas_put ps t u ts)
same_parts l b s q t u ts = absurd s

same_items : (l : Lead) (b : Bool) → Stands AsValues l b → (t u : Tree) (ts : Trees) → SameOwn ArgumentList l t u ts
same_items (Listing ps) b s t u ts = ap (λ k. k + 0) (commas_put ps t u ts)
same_items l b s t u ts = absurd s

same_fields : (l : Lead) (b : Bool) → Stands AsValues l b → (t u : Tree) (ts : Trees) → SameOwn CommaList l t u ts
same_fields (Listing ps) b s t u ts = ap (λ k. k + 0) (commas_put ps t u ts)
same_fields l b s t u ts = absurd s

same_texts : (l : Lead) (b : Bool) → Stands AsValues l b → (t u : Tree) (ts : Trees) → SameOwn TemplateList l t u ts
same_texts (Listing ps) b s t u ts = refl
same_texts l b s t u ts = absurd s

same_own : (c : Asked) (l : Lead) (b : Bool) → Stands c l b → (p : Position) → Placed c p → (t u : Tree) (ts : Trees) → SameZero l t u → SameOwn p l t u ts
same_own AsWholeItem l b s (Stmt q) a t u ts z = same_statement l b s q t u ts
same_own AsValue l b s (Expr q) a t u ts z = same_value l b s q t u ts z
same_own AsValue l b s Elsewhere a t u ts z = same_there l b s t u ts z
same_own AsTarget l b s Target a t u ts z = same_target l b s t u ts
same_own AsUpdated l b s Target a t u ts z = same_target l b (target_stands l b s) t u ts
same_own AsValues l b s (SequenceList q) a t u ts z = same_parts l b s q t u ts
same_own AsValues l b s ArgumentList a t u ts z = same_items l b s t u ts
same_own AsValues l b s CommaList a t u ts z = same_fields l b s t u ts
same_own AsValues l b s TemplateList a t u ts z = same_texts l b s t u ts
same_own c l b s p a t u ts z = absurd a

-- among neighbours

one_more : (ps : Trees) (t : Tree) (ts : Trees) → count (append ps (t ▸ ts)) ≡ suc (count ps + count ts)
one_more none t ts = omega arith
one_more (p ▸ ps) t ts = let rest = one_more ps t ts in omega (arith, rest)

weights_put : (π : ℕ → Position) (ps : Trees) (t u : Tree) (ts : Trees) (k : ℕ) → weight (π (count ps)) u ≤ weight (π (count ps)) t + k → weights π (append ps (u ▸ ts)) ≤ weights π (append ps (t ▸ ts)) + k
weights_put π none t u ts k h = omega (arith, h)
weights_put π (p ▸ ps) t u ts k h = let rest = weights_put (λ i. π (suc i)) ps t u ts k h in omega (arith, rest)

-- of a node whose own text weighs the same
node_falls : (p : Position) (l : Lead) (t u : Tree) (ts : Trees) (k : ℕ) → SameOwn p l t u ts → ((n : ℕ) → weight (child_position (shape_by (head_of l)) p n (count (before l))) u ≤ weight (child_position (shape_by (head_of l)) p n (count (before l))) t + k) → weight p (node (shape_by (head_of l)) [] 0 (append (before l) (u ▸ ts))) ≤ weight p (node (shape_by (head_of l)) [] 0 (append (before l) (t ▸ ts))) + k
node_falls p l t u ts k own h =
    let n = suc (count (before l) + count ts) in
    let π = λ (i : ℕ). child_position (shape_by (head_of l)) p n i in
    let kids = weights_put π (before l) t u ts k (h n) in
    let first = ap (λ m. weights (child_position (shape_by (head_of l)) p m) (append (before l) (t ▸ ts))) (one_more (before l) t ts) in
    let second = ap (λ m. weights (child_position (shape_by (head_of l)) p m) (append (before l) (u ▸ ts))) (one_more (before l) u ts) in
    omega (arith, own, kids, first, second)

-- ---- the whole: parentheses and a mark more at most, and the name less

name_weighs : (s : Seat) (y : Name) → is_none y.symbol ≡ false → 2 ≤ weight (Expr s) (identifier y)
name_weighs s y e = let own = ap (λ b. if b then spelled_weight y.spelling else 2) e in omega (arith, own)

no_zero : (l : Lead) (ts : Trees) → (outline (node (shape_by (head_of l)) [] 0 ts)).is_zero ≡ false
no_zero (Listing us) ts = refl
no_zero l ts = refl

found_no_zero : (ts : Trees) (b : Bool) (l : Lead) → (outline (node (shape_by (found_head b l)) [] 0 ts)).is_zero ≡ false
found_no_zero ts = by_front (λ l h. (outline (node (shape_by h) [] 0 ts)).is_zero ≡ false) (λ l. no_zero l ts) (λ a e. refl)

same_zero : (s : Step) (ss : List Step) (t u : Tree) → (outline (found (s ∷ ss) t)).is_zero ≡ (outline (led (s ∷ ss) u)).is_zero
same_zero s ss t u = found_no_zero (append (before s.lead) (found ss t ▸ s.rest)) (ends_short s ss) s.lead ∙ sym (no_zero s.lead (append (before s.lead) (led ss u ▸ s.rest)))

-- as many items
length_put : (ps : Trees) (t u : Tree) (ts : Trees) → length (outlines (append ps (t ▸ ts))) ≡ length (outlines (append ps (u ▸ ts)))
length_put none t u ts = refl
length_put (p ▸ ps) t u ts = ap suc (length_put ps t u ts)

items_put : (ps : Trees) (t u : Tree) (ts : Trees) (l : Lead) → (outline (node (shape_by (head_of l)) [] 0 (append ps (t ▸ ts)))).items ≡ (outline (node (shape_by (head_of l)) [] 0 (append ps (u ▸ ts)))).items
items_put ps t u ts (Listing us) = length_put ps t u ts
items_put ps t u ts l = refl

same_items_at : (s : Step) (ss : List Step) (t u : Tree) → (outline (found (s ∷ ss) t)).items ≡ (outline (led (s ∷ ss) u)).items
same_items_at s ss t u =
    by_front (λ l h. (outline (node (shape_by h) [] 0 (append (before s.lead) (found ss t ▸ s.rest)))).items ≡ (outline (node (shape_by (head_of l)) [] 0 (append (before s.lead) (led ss u ▸ s.rest)))).items)
    (λ l. items_put (before s.lead) (found ss t) (led ss u) s.rest l) (λ a e. refl) (ends_short s ss) s.lead

-- where no expression stands there are no parentheses
no_marks : (a b w : ℕ) → (a + 0) + w ≤ (a + b) + w
no_marks a b w = omega arith

bare_falls : (t : Tree) → is_plain_part t ≡ true → weight Elsewhere t ≤ weight (Expr (seat_of_level 0)) t
bare_falls (node (shape.VariableDeclaration k) xs n ts) e = absurd (true≢false (sym e))
bare_falls (node shape.InnerExpression xs n ts) e = absurd (true≢false (sym e))
bare_falls (node h xs n ts) e = no_marks (text_weight h xs Elsewhere (outlines ts)) (place_weight (Expr (seat_of_level 0)) h (outlines ts)) (weights (child_position h Elsewhere (count ts)) ts)

name_there : (y : Name) → is_none y.symbol ≡ false → 2 ≤ weight Elsewhere (identifier y)
name_there y e = let own = ap (λ b. if b then spelled_weight y.spelling else 2) e in omega (arith, own)

-- a zero right under `void` is written as a value, which weighs one more beside an equality
at_most_one : (b : Bool) → (if b then 1 else 0) ≤ 1
at_most_one true = omega arith
at_most_one false = omega arith

zero_there : (t : Tree) → (outline t).is_zero ≡ true → weight (Expr (unary_operand_seat Void)) t ≤ weight (Expr argument_seat) t
zero_there (node (shape.NumericLiteral (pos zero)) xs n ts) e = omega arith
zero_there (node (shape.NumericLiteral m) xs n ts) e = absurd (true≢false (sym e))
zero_there (node h xs n ts) e = absurd (true≢false (sym e))

void_falls : (q : Seat) (r : Tree) (y : Name) (ts : Trees) → (outline r).is_zero ≡ true → weight (Expr q) (node (shape.UnaryExpression Void) [] 0 (r ▸ ts)) ≤ weight (Expr q) (node (shape.UnaryExpression Void) [] 0 (identifier y ▸ ts)) + (weight (Expr argument_seat) r + 3)
void_falls q r y ts e =
    let mark = at_most_one (is_awkward q (shape.UnaryExpression Void) (outlines (r ▸ ts))) in
    let there = zero_there r e in
    omega (arith, mark, there)

void_falls_there : (r : Tree) (y : Name) (ts : Trees) → (outline r).is_zero ≡ true → weight Elsewhere (node (shape.UnaryExpression Void) [] 0 (r ▸ ts)) ≤ weight Elsewhere (node (shape.UnaryExpression Void) [] 0 (identifier y ▸ ts)) + (weight (Expr argument_seat) r + 3)
void_falls_there r y ts e = let there = zero_there r e in omega (arith, there)

-- what a step weighs, with r in the place of the name right under it
module _ (r : Tree) (y : Name) (ts : Trees) where
  abbrev Falls : Asked → Lead → Position → Type 0
  Falls c l p = weight p (node (shape_by (head_of l)) [] 0 (append (before l) (r ▸ ts))) ≤ weight p (node (shape_by (head_of l)) [] 0 (append (before l) (identifier y ▸ ts))) + (weight (Expr argument_seat) r + 3)

  abbrev FallsBelow : Lead → Position → Type 0
  FallsBelow l p = (n : ℕ) → weight (child_position (shape_by (head_of l)) p n (count (before l))) r ≤ weight (child_position (shape_by (head_of l)) p n (count (before l))) (identifier y) + (weight (Expr argument_seat) r + 3)

  emptying_falls : (c : Asked) → Stands c Emptying true → (p : Position) → Placed c p → (outline r).is_zero ≡ true → Falls c Emptying p
  emptying_falls AsValue s (Expr q) a z = void_falls q r y ts z
  emptying_falls AsValue s Elsewhere a z = void_falls_there r y ts z
  emptying_falls AsValue s p a z = absurd a
  emptying_falls c s p a z = absurd s

  zero_falls : (l : Lead) (c : Asked) → Stands c l true → (p : Position) → Placed c p → (outline r).is_zero ≡ true → FallsBelow l p → Falls c l p
  zero_falls Emptying c s p a z h = emptying_falls c s p a z
  zero_falls (Interpolating t) AsValue s p a z h = absurd (true≢false s)
  zero_falls (Interpolating t) c s p a z h = absurd s
  zero_falls l c s p a z h = node_falls p l (identifier y) r ts (weight (Expr argument_seat) r + 3) (same_own c l true s p a (identifier y) r ts tt) h

  end_falls : (l : Lead) (c : Asked) → Stands c l true → (p : Position) → Placed c p → FallsBelow l p → Falls c l p
  end_falls l c s p a h = by (outline r).is_zero refl
    where
      by : (b : Bool) → (outline r).is_zero ≡ b → Falls c l p
      by true z = zero_falls l c s p a z h
      by false z = node_falls p l (identifier y) r ts (weight (Expr argument_seat) r + 3) (same_own c l true s p a (identifier y) r ts (zeros c l true s (identifier y) r (sym z) (λ e. absurd (true≢false e)))) h

-- a shorthand property in full: its key and a colon more, and no parentheses
key_weighs : (a : Tree) → is_own_key a ≡ true → weight Elsewhere a ≤ 2
key_weighs (node (shape.IdentifierName s) [] zero none) e = omega arith
key_weighs a e = absurd (true≢false (sym e))

property_falls : (p : Position) → Placed AsValue p → (r a : Tree) (ts : Trees) (y : Name) → is_none y.symbol ≡ false → is_own_key a ≡ true → weight p (node (shape.ObjectProperty Init false false false) [] 0 (a ▸ (r ▸ ts))) ≤ weight p (node (shape.ObjectProperty Init false true false) [] 0 (a ▸ (identifier y ▸ ts))) + (weight (Expr argument_seat) r + 3)
property_falls (Expr s) q r a ts y n e = let key = key_weighs a e in let name = name_weighs argument_seat y n in omega (arith, key, name)
property_falls Elsewhere q r a ts y n e = let key = key_weighs a e in let name = name_weighs argument_seat y n in omega (arith, key, name)
property_falls p q r a ts y n e = absurd q

short_falls : (c : Asked) (p : Position) → Placed c p → (r : Tree) (ts : Trees) (y : Name) → is_none y.symbol ≡ false → ((l : Lead) → Stands c l true → Well (asked_below (head_of l) c (place 0 (before l))) [] → Falls r y ts c l p) → (b : Bool) (l : Lead) → Stands c l true → Well (asked_below (head_of l) c (place 0 (before l))) []
    → weight p (node (shape_by (head_of l)) [] 0 (append (before l) (r ▸ ts))) ≤ weight p (node (shape_by (found_head b l)) [] 0 (append (before l) (identifier y ▸ ts))) + (weight (Expr argument_seat) r + 3)
short_falls c p q r ts y n f =
    by_front (λ l h. Stands c l true → Well (asked_below (head_of l) c (place 0 (before l))) [] → weight p (node (shape_by (head_of l)) [] 0 (append (before l) (r ▸ ts))) ≤ weight p (node (shape_by h) [] 0 (append (before l) (identifier y ▸ ts))) + (weight (Expr argument_seat) r + 3)) f (λ a e s w. by c q a e s)
  where
    by : (c : Asked) → Placed c p → (a : Tree) → is_own_key a ≡ true → Stands c (Fielding false a) true → weight p (node (shape.ObjectProperty Init false false false) [] 0 (a ▸ (r ▸ ts))) ≤ weight p (node (shape.ObjectProperty Init false true false) [] 0 (a ▸ (identifier y ▸ ts))) + (weight (Expr argument_seat) r + 3)
    by AsValue q a e s = property_falls p q r a ts y n e
    by c q a e s = absurd s

-- what isn't the read itself is found in full
never_short : (s : Step) (q : Step) (ss : List Step) → ends_short s (q ∷ ss) ≡ false
never_short s q ss = by s.is_short
  where
    by : (b : Bool) → (b && false) ≡ false
    by true = refl
    by false = refl

-- the read itself
read_falls : (c : Asked) → Well c [] → (p : Position) → Placed c p → (r : Tree) → is_plain_part r ≡ true → (y : Name) → is_none y.symbol ≡ false → weight p r ≤ weight p (identifier y) + (weight (Expr argument_seat) r + 3)
read_falls AsValue w (Expr s) a r f y e = let here = moved s argument_seat r f in let name = name_weighs s y e in omega (arith, here, name)
read_falls AsValue w Elsewhere a r f y e = let bare = bare_falls r f in let here = moved (seat_of_level 0) argument_seat r f in let name = name_there y e in omega (arith, bare, here, name)
read_falls AsValue w p a r f y e = absurd a
read_falls c w p a r f y e = absurd w

led_falls : (c : Asked) (ss : List Step) → Well c ss → (p : Position) → Placed c p → (r : Tree) → is_plain_part r ≡ true → (y : Name) → is_none y.symbol ≡ false → weight p (led ss r) ≤ weight p (found ss (identifier y)) + (weight (Expr argument_seat) r + 3)
led_falls c [] w p a r f y e = read_falls c w p a r f y e
led_falls c (s ∷ []) w p a r f y e =
    short_falls c p a r s.rest y e
    (λ l v u. end_falls r y s.rest l c v p a (λ n. read_falls (asked_below (head_of l) c (place 0 (before l))) u (child_position (shape_by (head_of l)) p n (count (before l))) (placed_below c l true v p a n) r f y e)) (ends_short s []) s.lead w.0 w.1
led_falls c (s ∷ (q ∷ ss)) w p a r f y e =
    subst (λ b. weight p (led (s ∷ (q ∷ ss)) r) ≤ weight p (node (shape_by (found_head b s.lead)) [] 0 (append (before s.lead) (found (q ∷ ss) (identifier y) ▸ s.rest))) + (weight (Expr argument_seat) r + 3)) (sym (never_short s q ss))
    (node_falls p s.lead (found (q ∷ ss) (identifier y)) (led (q ∷ ss) r) s.rest (weight (Expr argument_seat) r + 3) (same_own c s.lead false w.0 p a (found (q ∷ ss) (identifier y)) (led (q ∷ ss) r) s.rest (zeros c s.lead false w.0 (found (q ∷ ss) (identifier y)) (led (q ∷ ss) r) (same_zero q ss (identifier y) r) (λ e. same_items_at q ss (identifier y) r)))
    (λ n. led_falls (asked_below (head_of s.lead) c (place 0 (before s.lead))) (q ∷ ss) w.1 (child_position (shape_by (head_of s.lead)) p n (count (before s.lead))) (placed_below c s.lead false w.0 p a n) r f y e))

some_symbol : (k : ℕ) (y : Option SymbolId) → is_same (Some (record { 0 = k })) y ≡ true → is_none y ≡ false
some_symbol k (Some y) e = refl
some_symbol k None e = absurd (true≢false (sym e))

head_falls : (s : List ℕ) (k : ℕ) (head : Tree) → reads_first (resolved s k) head ≡ true → (q : StmtSeat) (r : Tree) → is_plain_part r ≡ true → weight (Stmt q) (put_first (resolved s k) r head) ≤ weight (Stmt q) head + (weight (Expr argument_seat) r + 3)
head_falls s k head e q r f =
    let t = statement (resolved s k) head e in
    let step : Step = record { lead = t.lead; rest = t.rest; is_short = false } in
    let steps : List Step = step ∷ t.path.steps in
    let falls = led_falls AsWholeItem steps (t.stands (is_end t.path.steps), subst (λ c. Well c t.path.steps) (sym (t.below AsWholeItem)) t.path.well) (Stmt q) tt r f t.path.read (some_symbol k t.path.read.symbol t.path.same) in
    let there : head ≡ found steps (identifier t.path.read) = t.is ∙ t.along t.inner ∙ ap (λ u. led (step ∷ []) u) t.path.is in
    let put : put_first (resolved s k) r head ≡ led steps r = t.puts r ∙ t.along (put_first (resolved s k) r t.inner) ∙ ap (λ u. led (step ∷ []) u) (t.path.puts r) in
    omega (arith, falls, ap (weight (Stmt q)) there, ap (weight (Stmt q)) put)

-- ---- where the next declarator reads it

stands_by : (l : Lead) (t : Tree) (ts : Trees) → (outline (node (shape_by (head_of l)) [] 0 (append (before l) (t ▸ ts)))).absent ≡ false
stands_by (Listing us) t ts = refl
stands_by l t ts = refl

led_stands : (ss : List Step) (t : Tree) → (outline t).absent ≡ false → (outline (led ss t)).absent ≡ false
led_stands [] t e = e
led_stands (s ∷ ss) t e = stands_by s.lead (led ss t) s.rest

found_stands : (ss : List Step) (t : Tree) → (outline t).absent ≡ false → (outline (found ss t)).absent ≡ false
found_stands [] t e = e
found_stands (s ∷ ss) t e = by_front (λ l h. (outline (node (shape_by h) [] 0 (append (before l) (found ss t ▸ s.rest)))).absent ≡ false) (λ l. stands_by l (found ss t) s.rest) (λ a o. refl) (ends_short s ss) s.lead

plain_stands : (t : Tree) → is_plain_part t ≡ true → (outline t).absent ≡ false
plain_stands (node shape.Absent xs n ts) e = absurd (true≢false (sym e))
plain_stands (node shape.Listed xs n ts) e = refl
plain_stands (node shape.IfStatement xs n ts) e = refl
plain_stands (node (shape.NumericLiteral m) xs n ts) e = refl
plain_stands (node h xs n ts) e = refl

-- the declarator with the initializer in it
declarator_falls : (s : List ℕ) (k : ℕ) (binds value : Tree) → is_first (resolved s k) false value ≡ true → (r : Tree) → is_plain_part r ≡ true → weight Elsewhere (declarator binds (put_first (resolved s k) r value)) ≤ weight Elsewhere (declarator binds value) + (weight (Expr argument_seat) r + 3)
declarator_falls s k binds value e r f =
    let p = path (resolved s k) false value e in
    let falls = led_falls AsValue p.steps p.well (Expr argument_seat) tt r f p.read (some_symbol k p.read.symbol p.same) in
    let stands = ap (λ t. (outline t).absent) p.is ∙ found_stands p.steps (identifier p.read) refl in
    let put_stands = ap (λ t. (outline t).absent) (p.puts r) ∙ led_stands p.steps r (plain_stands r f) in
    let own = λ (t : Tree) (h : (outline t).absent ≡ false). ap (λ b. own_weight Elsewhere shape.VariableDeclarator [] (outline binds ∷ (record (outline t) { absent = b } ∷ []))) h in
    omega (arith, falls, own value stands, own (put_first (resolved s k) r value) put_stands, ap (weight (Expr argument_seat)) p.is, ap (weight (Expr argument_seat)) (p.puts r))

-- a comma less
commas_less : (first : Trees) (d e f : Tree) (last : Trees) → commas_weight (outlines (append first (d ▸ (e ▸ last)))) ≡ commas_weight (outlines (append first (f ▸ last))) + 2
commas_less none d e f none = refl
commas_less none d e f (t ▸ last) = omega arith
commas_less (t ▸ none) d e f none = refl
commas_less (t ▸ none) d e f (u ▸ last) = omega arith
commas_less (t ▸ (c ▸ first)) d e f last = let rest = commas_less (c ▸ first) d e f last in omega (arith, rest)

pub next_falls : (K : VariableDeclarationKind) (s : List ℕ) (k : ℕ) (first : Trees) (init binds value : Tree) (last : Trees) → is_plain_part init ≡ true → is_first (resolved s k) false value ≡ true → total (declaration K (append first (declarator binds (put_first (resolved s k) init value) ▸ last)) ▸ none) + 1 ≤ total (declared_among K (resolved s k) first init (declarator binds value ▸ last) ▸ none)
next_falls K s k first init binds value last f e =
    let d = declarator (binding (resolved s k)) init in
    let n = declarator binds value in
    let put = declarator binds (put_first (resolved s k) init value) in
    let falls = declarator_falls s k binds value e init f in
    omega (
      arith,
      falls,
      commas_less first d n put last,
      comma_list (append first (d ▸ (n ▸ last))),
      comma_list (append first (put ▸ last)),
      declarators_append first (d ▸ (n ▸ last)),
      declarators_append first (put ▸ last),
    )

-- ---- the declaration: a name and a comma less, or all but `;`

commas_more : (t : Tree) (first : Trees) (d : Tree) → commas_weight (outlines (append (t ▸ first) (d ▸ none))) ≡ commas_weight (outlines (t ▸ first)) + 2
commas_more t none d = refl
commas_more t (c ▸ first) d = let rest = commas_more c first d in omega (arith, rest)

left_falls : (K : VariableDeclarationKind) (x : Name) (first : Trees) (init : Tree) → total (declared_left K first ▸ none) + (weight (Expr argument_seat) init + 4) ≤ total (declared_among K x first init none ▸ none)
left_falls Var x none init = omega arith
left_falls Let x none init = omega arith
left_falls Const x none init = omega arith
left_falls K x (t ▸ first) init =
    let d = declarator (binding x) init in
    omega (arith, commas_more t first d, comma_list (t ▸ first), comma_list (append (t ▸ first) (d ▸ none)), declarators_append (t ▸ first) (d ▸ none))

-- ---- what stands right after it

as_many_commas : (d e : Tree) (last : Trees) → commas_weight (outlines (d ▸ last)) ≡ commas_weight (outlines (e ▸ last))
as_many_commas d e none = refl
as_many_commas d e (t ▸ last) = refl

initial_falls : (s : List ℕ) (k : ℕ) (head : Tree) (t : Initial (resolved s k) head) (r : Tree) → is_plain_part r ≡ true → total (put_first (resolved s k) r head ▸ none) ≤ total (head ▸ none) + (weight (Expr argument_seat) r + 3)
initial_falls s k head t r f =
    let d = declarator t.binds t.value in
    let put = declarator t.binds (put_first (resolved s k) r t.value) in
    let falls = declarator_falls s k t.binds t.value t.once r f in
    omega (arith, falls, comma_list (d ▸ t.last), comma_list (put ▸ t.last), as_many_commas d put t.last, ap (λ u. total (u ▸ none)) t.is, ap (λ u. total (u ▸ none)) (t.puts r))

-- a `switch` weighs what it asks, and a `for` what it begins with
outside_falls : (s : List ℕ) (k : ℕ) (head : Tree) (t : Outside (resolved s k) head) (r : Tree) → is_plain_part r ≡ true → total (put_first (resolved s k) r head ▸ none) ≤ total (head ▸ none) + (weight (Expr argument_seat) r + 3)
outside_falls s k head t r f =
    let there = by t.seat in
    omega (arith, there, ap (λ u. total (u ▸ none)) t.is, ap (λ u. total (u ▸ none)) (t.puts r))
  where
    p : Path (resolved s k) AsValue t.value
    p = path (resolved s k) false t.value t.once

    value_falls : (place : Seat) → weight (Expr place) (put_first (resolved s k) r t.value) ≤ weight (Expr place) t.value + (weight (Expr argument_seat) r + 3)
    value_falls place =
        let falls = led_falls AsValue p.steps p.well (Expr place) tt r f p.read (some_symbol k p.read.symbol p.same) in
        omega (arith, falls, ap (weight (Expr place)) p.is, ap (weight (Expr place)) (p.puts r))

    by : (c : opening.Seat) → total (seated c (put_first (resolved s k) r t.value) ▸ none) ≤ total (seated c t.value ▸ none) + (weight (Expr argument_seat) r + 3)
    by (Choice cases) = omega (arith, value_falls whole_seat)
    by (Loop u v w) = omega (arith, value_falls statement_expression_seat)

-- a loop over keys or values weighs what it goes over
each_falls : (s : List ℕ) (k : ℕ) (c : Each) (left value body : Tree) → is_first (resolved s k) false value ≡ true → (r : Tree) → is_plain_part r ≡ true → total (each_loop c left (put_first (resolved s k) r value) body ▸ none) ≤ total (each_loop c left value body ▸ none) + (weight (Expr argument_seat) r + 3)
each_falls s k c left value body once r f = by c
  where
    value_falls : (place : Seat) → weight (Expr place) (put_first (resolved s k) r value) ≤ weight (Expr place) value + (weight (Expr argument_seat) r + 3)
    value_falls place =
        let p = path (resolved s k) false value once in
        let falls = led_falls AsValue p.steps p.well (Expr place) tt r f p.read (some_symbol k p.read.symbol p.same) in
        omega (arith, falls, ap (weight (Expr place)) p.is, ap (weight (Expr place)) (p.puts r))

    by : (c : Each) → total (each_loop c left (put_first (resolved s k) r value) body ▸ none) ≤ total (each_loop c left value body ▸ none) + (weight (Expr argument_seat) r + 3)
    by EachIn = omega (arith, value_falls whole_seat)
    by EachOf = omega (arith, value_falls argument_seat)

over_falls : (s : List ℕ) (k : ℕ) (head : Tree) (t : Over (resolved s k) head) (r : Tree) → is_plain_part r ≡ true → total (put_first (resolved s k) r head ▸ none) ≤ total (head ▸ none) + (weight (Expr argument_seat) r + 3)
over_falls s k head t r f = let falls = each_falls s k t.kind t.left t.value t.body t.once r f in omega (arith, falls, ap (λ u. total (u ▸ none)) t.is, ap (λ u. total (u ▸ none)) (t.puts r))

-- a `for` that begins with a `var` weighs what that does
begun_falls : (s : List ℕ) (k : ℕ) (head : Tree) (t : Begun (resolved s k) head) (r : Tree) → is_plain_part r ≡ true → total (put_first (resolved s k) r head ▸ none) ≤ total (head ▸ none) + (weight (Expr argument_seat) r + 3)
begun_falls s k head t r f =
    let falls = initial_falls s k (declaration Var (declarator t.binds t.value ▸ t.last)) (as_initial (resolved s k) head t) r f in
    omega (arith, falls, ap (λ u. total (u ▸ none)) ((as_initial (resolved s k) head t).puts r), ap (λ u. total (u ▸ none)) t.is, ap (λ u. total (u ▸ none)) (t.puts r))

either_falls : (s : List ℕ) (k : ℕ) (head : Tree) → reads_head (resolved s k) head ≡ true → (r : Tree) → is_plain_part r ≡ true → total (put_first (resolved s k) r head ▸ none) ≤ total (head ▸ none) + (weight (Expr argument_seat) r + 3)
either_falls s k head e r f = by (heads (resolved s k) head e)
  where
    by : Heads (resolved s k) head → total (put_first (resolved s k) r head ▸ none) ≤ total (head ▸ none) + (weight (Expr argument_seat) r + 3)
    by (inl (o, p)) = let falls = head_falls s k head o stmt_seat.List r f in omega (arith, falls)
    by (inr (inl t)) = initial_falls s k head t r f
    by (inr (inr (inl t))) = outside_falls s k head t r f
    by (inr (inr (inr (inl t)))) = over_falls s k head t r f
    by (inr (inr (inr (inr t)))) = begun_falls s k head t r f

-- a loop that hides its names first weighs what it begins with, or goes over
hidden_falls : (s : List ℕ) (k : ℕ) (head : Tree) → reads_hidden (resolved s k) head ≡ true → (r : Tree) → is_plain_part r ≡ true → total (put_first (resolved s k) r head ▸ none) ≤ total (head ▸ none) + (weight (Expr argument_seat) r + 3)
hidden_falls s k head e r f = by (hidden (resolved s k) head e)
  where
    by : Hidden (resolved s k) head → total (put_first (resolved s k) r head ▸ none) ≤ total (head ▸ none) + (weight (Expr argument_seat) r + 3)
    by (inl t) =
        let i = for_initial (resolved s k) head t in
        let falls = initial_falls s k (declaration t.kind (declarator t.binds t.value ▸ t.last)) i r f in
        omega (arith, falls, ap (λ u. total (u ▸ none)) (i.puts r), ap (λ u. total (u ▸ none)) t.is, ap (λ u. total (u ▸ none)) (t.puts r))
    by (inr t) = let falls = each_falls s k t.kind t.left t.value t.body t.once r f in omega (arith, falls, ap (λ u. total (u ▸ none)) t.is, ap (λ u. total (u ▸ none)) (t.puts r))

taken_falls : (s : List ℕ) (k : ℕ) (init head : Tree) → takes (resolved s k) init head ≡ true → is_plain_part init ≡ true → total (put_first (resolved s k) init head ▸ none) ≤ total (head ▸ none) + (weight (Expr argument_seat) init + 3)
taken_falls s k init head e f = by (taken (resolved s k) init head e)
  where
    by : Taken (resolved s k) init head → total (put_first (resolved s k) init head ▸ none) ≤ total (head ▸ none) + (weight (Expr argument_seat) init + 3)
    by (inl (o, p)) = either_falls s k head o init f
    by (inr (c, (o, p))) = hidden_falls s k head o init f

-- ---- the block

no_choice : (before after : Trees) (d e v w : Tree) → one_chooses (outlines (append before (d ▸ (e ▸ after)))) ≡ one_chooses (outlines (append before (v ▸ (w ▸ after))))
no_choice none after d e v w = refl
no_choice (t ▸ none) after d e v w = refl
no_choice (t ▸ (u ▸ before)) after d e v w = refl

pair_falls : (q : StmtSeat) (before : Trees) (K : VariableDeclarationKind) (first : Trees) (s : List ℕ) (k : ℕ) (init head put : Tree) (after : Trees) → total (put ▸ none) ≤ total (head ▸ none) + (weight (Expr argument_seat) init + 3) → weight (Stmt q) (block (append before (declared_left K first ▸ (put ▸ after)))) + 1 ≤ weight (Stmt q) (block (append before (declared_among K (resolved s k) first init none ▸ (head ▸ after))))
pair_falls q before K first s k init head put after other =
    let x = resolved s k in
    let d = declared_among K x first init none in
    let left = declared_left K first in
    let one = left_falls K x first init in
    let less : total (left ▸ (put ▸ none)) + 1 ≤ total (d ▸ (head ▸ none)) = omega (arith, one, other) in
    let falls = in_list before (d ▸ (head ▸ none)) (left ▸ (put ▸ none)) after 1 less in
    let braces = ap (braces_weight q) (no_choice before after d head left put) in
    omega (arith, falls, braces)

pub single_falls : (q : StmtSeat) (before : Trees) (K : VariableDeclarationKind) (first : Trees) (s : List ℕ) (k : ℕ) (init head : Tree) (after : Trees) → is_plain_part init ≡ true → reads_head (resolved s k) head ≡ true → weight (Stmt q) (block (append before (declared_left K first ▸ (put_first (resolved s k) init head ▸ after)))) + 1 ≤ weight (Stmt q) (block (append before (declared_among K (resolved s k) first init none ▸ (head ▸ after))))
single_falls q before K first s k init head after f e = pair_falls q before K first s k init head (put_first (resolved s k) init head) after (either_falls s k head e init f)

pub taken_single_falls : (q : StmtSeat) (before : Trees) (K : VariableDeclarationKind) (first : Trees) (s : List ℕ) (k : ℕ) (init head : Tree) (after : Trees) → is_plain_part init ≡ true → takes (resolved s k) init head ≡ true → weight (Stmt q) (block (append before (declared_left K first ▸ (put_first (resolved s k) init head ▸ after)))) + 1 ≤ weight (Stmt q) (block (append before (declared_among K (resolved s k) first init none ▸ (head ▸ after))))
taken_single_falls q before K first s k init head after f e = pair_falls q before K first s k init head (put_first (resolved s k) init head) after (taken_falls s k init head e f)
