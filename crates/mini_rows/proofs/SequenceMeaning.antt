-- What a row on sequences writes means the same.
use Rattle.std.proofs.Common.{◌≡◌, Bool, true, false, List, [], ◌∷◌, refl, sym, ap, subst, ◌∙◌, inl, inr}
use Rattle.std.specs.Prelude.{not, ◌&&◌, ◌||◌}
use Rattle.mini_model.specs.declared.operator.UnaryOperator.{UnaryOperator}
use Rattle.mini_model.specs.declared.place.Position.{Position}
use Rattle.mini_model.specs.declared.place.Position.TheVariants.{Expr}
use Rattle.mini_model.specs.declared.seat.Seat.{Seat}
use Rattle.mini_model.specs.declared.shape.Shape.TheVariants as shape
use Rattle.mini_model.specs.Tree.{Tree, Trees, none, ◌▸◌, unary, absent}
use Rattle.mini_model.specs.Paths.{append}
use Rattle.mini_laws.specs.Value.{Value, Boolean, choose, truth}
use Rattle.mini_laws.specs.State.{State, Completion, ok, stop, either, Environment}
use Rattle.mini_laws.specs.Demand.{Val, Unused, As}
use Rattle.mini_laws.specs.Command.{Naming, Command, bind, Kids, run}
use Rattle.mini_laws.specs.Expressions.{operate_by}
use Rattle.mini_laws.specs.Naming.{summary, summaries, naming}
use Rattle.mini_laws.specs.Operators.{of_number}
use Rattle.mini_laws.specs.Replies.{reply, of_made, numeric}
use Rattle.mini_laws.specs.Step.{step, means, meaning}
use Rattle.mini_laws.specs.Rows.{SameAt}
use Rattle.mini_laws.specs.Rewritten.{MeansSame}
use Rattle.mini_laws.specs.Targets.{assigns}
use Rattle.mini_laws.proofs.Runs.{either_cong, either_assoc, either_eta, run_bind}
use Rattle.mini_terms.specs.Reading.{stands, by_value, is_item, is_plain_part, is_unguarded}
use Rattle.mini_terms.proofs.Opened.{negation_opened}
use Rattle.mini_terms.proofs.Reading.{read_by_value, same_in_seat}
use Rattle.mini_rows.specs.Lists.{of_parts, sequence}
use Rattle.mini_rows.specs.Sequences.{Conversion, Plus, Minus, Complement, conversion_operator, Operation, Decides, Chooses, Negates, Operates, Converts, Yields, over, along, Row20, Row21, Row21Idle, Row21Alone, SequenceRow, SequenceContracts}
use Rattle.mini_rows.proofs.ChoiceRuns.{value, conditional_value, logical_value, binary_value, binary_names, sides, bind_free, made_free, numeric_free, operate_by_free}
use Rattle.mini_rows.proofs.PlainRead.{plain_read}
use Rattle.mini_rows.proofs.SequenceCalls.{left_plain, left_same}
use Rattle.mini_rows.proofs.SequenceYields.{yields_value, yield_value}
use Rattle.mini_rows.proofs.SequenceIdle.{idle_same, alone_same}
use Rattle.mini_rows.proofs.ListParts.{joined_is, spread_is}
use Rattle.mini_rows.proofs.SpellAlike.{SameTree}
use Rattle.mini_rows.proofs.SpellMeaning.{tree_same, same_by}

-- two expressions that are read by their value alone do the same where they have one value
pub same_value : (n w : Tree) → stands n ≡ true → stands w ≡ true → summary n ≡ summary w → ((e : Environment) (s : State) → value e n s ≡ value e w s) → SameTree n w
same_value n w p q r h = record { by = λ e d x s. read_by_value n p e d x s ∙ ap (by_value d x) (h e s) ∙ sym (read_by_value w q e d x s); read = r }

-- ---- 20

-- `+`, `-` and `~` do the same in any node

abbrev unary_names : UnaryOperator → Tree → Naming
unary_names o a = naming (shape.UnaryExpression o) (As Val) [] 0 (summaries (a ▸ none))

abbrev operand : Environment → Tree → Kids (λ i. As Val)
operand e a i r z = meaning e (a ▸ none) i (As Val) r z

abbrev converted : UnaryOperator → Value → Command (λ i. As Val) Value
converted o v = bind (numeric v) (λ n. of_made (of_number o n))

-- what one does with the value of its operand, which is this one
abbrev converts : Environment → UnaryOperator → Tree → Value → State → Completion Value
converts e o a v z = run {q = λ i. As Val} e (unary_names o a) (operand e a) (converted o v) z

converts_alike : (e : Environment) (o : UnaryOperator) (a b : Tree) (v : Value) (z : State) → converts e o a v z ≡ converts e o b v z
converts_alike e o a b v z =
    bind_free e (unary_names o a) (unary_names o b) (λ i. As Val) (λ i. As Val) (operand e a) (operand e b) (numeric v) (numeric v) (λ n. of_made (of_number o n)) (λ n. of_made (of_number o n))
    (numeric_free e (unary_names o a) (unary_names o b) (λ i. As Val) (λ i. As Val) (operand e a) (operand e b) v)
    (λ n. made_free e (unary_names o a) (unary_names o b) (λ i. As Val) (λ i. As Val) (operand e a) (operand e b) (of_number o n)) z

replied : (e : Environment) (o : UnaryOperator) (a : Tree) (v : Value) (z : State) → run {q = λ i. As Val} e (unary_names o a) (operand e a) (bind (converted o v) (reply (As Val) tt)) z ≡ converts e o absent v z
replied e o a v z = run_bind e (unary_names o a) (converted o v) (reply (As Val) tt) (operand e a) z ∙ either_eta (converts e o a v z) ∙ converts_alike e o a absent v z

conversion_value : (e : Environment) (c : Conversion) (a : Tree) (s : State) → value e (unary (conversion_operator c) a) s ≡ either (value e a s) (λ v z. converts e (conversion_operator c) absent v z) (λ x z. stop x z)
unfolding means meaning step
conversion_value e Plus a s = either_cong (value e a s) _ _ _ _ (λ v z. replied e (conversion_operator Plus) a v z) (λ x z. refl)
conversion_value e Minus a s = either_cong (value e a s) _ _ _ _ (λ v z. replied e (conversion_operator Minus) a v z) (λ x z. refl)
conversion_value e Complement a s = either_cong (value e a s) _ _ _ _ (λ v z. replied e (conversion_operator Complement) a v z) (λ x z. refl)

-- what a node does after the value of its first operand
abbrev follows : Environment → Operation → Value → State → Completion Value
follows e (Decides o b) v z = choose (assigns o v) (value e b z) (ok v z)
follows e (Chooses b c) v z = choose (truth v) (value e b z) (value e c z)
follows e Negates v z = ok (Boolean (not (truth v))) z
follows e (Operates o b) v z = either (value e b z) (λ u y. run {q = λ i. As Val} e (binary_names o b b) (sides e b b) (operate_by o v u) y) (λ x y. stop x y)
follows e (Converts c) v z = converts e (conversion_operator c) absent v z
follows e (Yields d) v z = yields_value e d v z

over_value : (e : Environment) (r : Operation) (a : Tree) (s : State) → value e (over r a) s ≡ either (value e a s) (λ v z. follows e r v z) (λ x z. stop x z)
over_value e (Decides o b) a s = logical_value e o a b s
over_value e (Chooses b c) a s = conditional_value e a b c s
over_value e Negates a s = negation_opened e a s
over_value e (Converts c) a s = conversion_value e c a s
over_value e (Yields d) a s = yield_value e d a s
over_value e (Operates o b) a s =
    binary_value e o a b s
    ∙ either_cong (value e a s) _ _ _ _ (λ v z. either_cong (value e b z) _ _ _ _ (λ u y. operate_by_free e (binary_names o a b) (binary_names o b b) (sides e a b) (sides e b b) o v u y) (λ x y. refl)) (λ x z. refl)

pub several : (p : Tree) (ps : Trees) (q : Tree) → of_parts p (append ps (q ▸ none)) ≡ sequence (p ▸ append ps (q ▸ none))
several p none q = refl
several p (c ▸ ps) q = refl

-- the parts but the last, and then the last
in_order : (e : Environment) (p : Tree) (ps : Trees) (q : Tree) (s : State) → value e (sequence (p ▸ append ps (q ▸ none))) s ≡ either (means e (of_parts p ps) (As Unused) tt s) (λ u z. value e q z) (λ x z. stop x z)
in_order e p ps q s = ap (λ t. value e t s) (sym (several p ps q)) ∙ joined_is e p ps q none Val s

lifted_value : (r : Operation) (p : Tree) (ps : Trees) (q : Tree) (e : Environment) (s : State) → value e (over r (sequence (p ▸ append ps (q ▸ none)))) s ≡ value e (sequence (p ▸ append ps (over r q ▸ none))) s
unfolding either
lifted_value r p ps q e s =
    over_value e r (sequence (p ▸ append ps (q ▸ none))) s
    ∙ ap (λ y. either y (λ v z. follows e r v z) (λ x z. stop x z)) (in_order e p ps q s)
    ∙ either_assoc (means e (of_parts p ps) (As Unused) tt s) (λ u z. value e q z) (λ x z. stop x z) (λ v z. follows e r v z) (λ x z. stop x z)
    ∙ either_cong (means e (of_parts p ps) (As Unused) tt s) _ _ _ _ (λ u z. sym (over_value e r q z)) (λ x z. refl)
    ∙ sym (in_order e p ps (over r q) s)

-- so it is over one that has the value of a sequence
over_same : (r : Operation) (t : Tree) (p : Tree) (ps : Trees) (q : Tree) → ((e : Environment) (s : State) → value e t s ≡ value e (sequence (p ▸ append ps (q ▸ none))) s) → (e : Environment) (s : State) → value e (over r t) s ≡ value e (sequence (p ▸ append ps (over r q ▸ none))) s
over_same r t p ps q h e s =
    over_value e r t s
    ∙ ap (λ y. either y (λ v z. follows e r v z) (λ x z. stop x z)) (h e s)
    ∙ sym (over_value e r (sequence (p ▸ append ps (q ▸ none))) s)
    ∙ lifted_value r p ps q e s

along_value : (rs : List Operation) (p : Tree) (ps : Trees) (q : Tree) (e : Environment) (s : State) → value e (along rs (sequence (p ▸ append ps (q ▸ none)))) s ≡ value e (sequence (p ▸ append ps (along rs q ▸ none))) s
along_value [] p ps q e s = refl
along_value (r ∷ rs) p ps q e s = over_same r (along rs (sequence (p ▸ append ps (q ▸ none)))) p ps (along rs q) (along_value rs p ps q) e s

-- of each of them a parent reads nothing
plain_along : (rs : List Operation) (ts : Trees) → is_plain_part (along rs (sequence ts)) ≡ true
plain_along [] ts = refl
plain_along (Decides o b ∷ rs) ts = refl
plain_along (Chooses b c ∷ rs) ts = refl
plain_along (Negates ∷ rs) ts = plain_along rs ts
plain_along (Operates o b ∷ rs) ts = refl
plain_along (Converts Plus ∷ rs) ts = refl
plain_along (Converts Minus ∷ rs) ts = refl
plain_along (Converts Complement ∷ rs) ts = refl
plain_along (Yields d ∷ rs) ts = refl

alike : (r : Operation) (t : Tree) (ts : Trees) → is_plain_part t ≡ true → ((e : Environment) (s : State) → value e (over r t) s ≡ value e (sequence ts) s) → SameTree (over r t) (sequence ts)
alike (Decides o b) t ts p h = same_value _ _ refl refl refl h
alike (Chooses b c) t ts p h = same_value _ _ refl refl refl h
alike Negates t ts p h = same_value _ _ refl refl (plain_read t p) h
alike (Operates o b) t ts p h = same_value _ _ refl refl refl h
alike (Converts Plus) t ts p h = same_value _ _ refl refl refl h
alike (Converts Minus) t ts p h = same_value _ _ refl refl refl h
alike (Converts Complement) t ts p h = same_value _ _ refl refl refl h
alike (Yields d) t ts p h = same_value _ _ refl refl refl h

pub lifted_same : (r : Operation) (rs : List Operation) (p : Tree) (ps : Trees) (q : Tree) → SameTree (over r (along rs (sequence (p ▸ append ps (q ▸ none))))) (sequence (p ▸ append ps (over r (along rs q) ▸ none)))
lifted_same r rs p ps q = alike r (along rs (sequence (p ▸ append ps (q ▸ none)))) (p ▸ append ps (over r (along rs q) ▸ none)) (plain_along rs (p ▸ append ps (q ▸ none))) (over_same r (along rs (sequence (p ▸ append ps (q ▸ none)))) p ps (along rs q) (along_value rs p ps q))

-- ---- 21

spread_same : (before : Trees) (a b : Tree) (ps after : Trees) → SameTree (sequence (append before (sequence (a ▸ (b ▸ ps)) ▸ after))) (sequence (append before (a ▸ (b ▸ append ps after))))
spread_same before a b ps after = same_value _ _ refl refl refl (λ e s. spread_is e a b ps after before Val s)

-- ---- all

lifted_row : (n w : Tree) (s : Seat) → Row20 s n w → SameTree n w
lifted_row n w s r = same_by n w _ _ r.shape r.written (lifted_same r.operation r.operations r.first r.others r.last)

spread_row : (n w : Tree) → Row21 n w → SameTree n w
spread_row n w r = same_by n w _ _ r.shape r.written (spread_same r.before r.first r.second r.others r.after)

-- a sequence stands by its value
or_right : (b c : Bool) → c ≡ true → b || c ≡ true
or_right true c e = refl
or_right false c e = e

same_here : (s : Seat) (n w t u : Tree) → n ≡ t → w ≡ u → SameAt (Expr s) t u → SameAt (Expr s) n w
same_here s n w t u e f h = subst (λ x. SameAt (Expr s) x w) (sym e) (subst (SameAt (Expr s) t) (sym f) h)

idle_row : (s : Seat) (n w : Tree) → Row21Idle n w → SameAt (Expr s) n w
idle_row s n w r =
    let whole : Tree = sequence (append r.before (r.idle ▸ (r.next ▸ r.after))) in
    let rest : Tree = sequence (append r.before (r.next ▸ r.after)) in
    same_here s n w whole rest r.shape r.written (same_in_seat s whole rest refl (or_right (is_unguarded s.guard && is_item rest) true refl) (idle_same r.before r.idle r.next r.after r.effect_free))

alone_row : (s : Seat) (n w : Tree) → Row21Alone s n w → SameAt (Expr s) n w
alone_row s n w r = same_here s n w _ _ r.shape r.written (left_same s r.last r.stays (sequence (r.idle ▸ (r.last ▸ none))) refl refl (alone_same r.idle r.last r.effect_free))

means_same : (p : Position) (n w : Tree) → SequenceRow p n w → SameAt p n w
means_same (Expr s) n w (inl r) = tree_same s n w (lifted_row n w s r)
means_same (Expr s) n w (inr (inl r)) = tree_same s n w (spread_row n w r)
means_same (Expr s) n w (inr (inr (inl r))) = idle_row s n w r
means_same (Expr s) n w (inr (inr (inr r))) = alone_row s n w r
means_same p n w r = absurd r

reads : (p : Position) (n w : Tree) → SequenceRow p n w → summary n ≡ summary w
reads (Expr s) n w (inl r) = (lifted_row n w s r).read
reads (Expr s) n w (inr (inl r)) = (spread_row n w r).read
reads (Expr s) n w (inr (inr (inl r))) = ap summary r.shape ∙ sym (ap summary r.written)
reads (Expr s) n w (inr (inr (inr r))) = ap summary r.shape ∙ sym (plain_read r.last (left_plain s r.last r.stays)) ∙ sym (ap summary r.written)
reads p n w r = absurd r

pub sequences_same : MeansSame SequenceContracts
sequences_same = record { same = λ p n w c. means_same p n w c.row; reads = λ p n w c. reads p n w c.row }
