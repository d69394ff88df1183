-- A quiet list, from both ends.
use Rattle.std.proofs.Common.{◌≡◌, ℕ, zero, suc, ◌+◌, ◌<◌, ◌≤◌, Bool, true, false, refl, sym, ap, ◌∙◌, subst, inl, inr, true≢false, arith}
use Rattle.std.specs.Prelude.{◌⊎◌, ◌&&◌, ◌||◌, not, if◌then◌else◌}
use Rattle.std.proofs.lemmas.Bool.{and_parts}
use Rattle.mini_model.specs.declared.kind.VariableDeclarationKind.{VariableDeclarationKind}
use Rattle.mini_model.specs.declared.kind.VariableDeclarationKind.TheVariants.{Var, Let, Const}
use Rattle.mini_model.specs.declared.place.Position.{Position}
use Rattle.mini_model.specs.declared.place.Position.TheVariants.{StatementList}
use Rattle.mini_model.specs.declared.shape.Shape.TheVariants as shape
use Rattle.mini_model.specs.Tree.{Tree, Trees, node, none, ◌▸◌, shape_of, children, count, child_or_absent, absent, listed, is_absent, expression_statement, if_alone, node_counts}
use Rattle.mini_model.specs.Paths.{append}
use Rattle.mini_node.specs.Children.{part, rest_children}
use Rattle.mini_node.specs.Kinds.{is_sequence_shape, is_sequence, is_absent_part}
use Rattle.mini_node.specs.Walks.{from_first, next_child, no_rest}
use Rattle.mini_rows.specs.Switches.{Switches}
use Rattle.mini_rows.specs.Nesting.{may_sink}
use Rattle.mini_rows.specs.Lists.{of_parts, is_one_part, are_parts, return_statement, throw_statement, for_loop, for_in, is_plain_left, is_unscoped, is_terminated, Head, If, Switch, For, with_head, SequencesRow, LoopRow, JoinRow, StretchRow, InList}
use Rattle.mini_rows.specs.Lists as list
use Rattle.mini_stmt.specs.declared.lead.Lead.{Lead}
use Rattle.mini_stmt.specs.declared.lead.Lead.TheVariants.{Expression, Declaration, Return, Throw, Nothing}
use Rattle.mini_stmt.specs.Terms.{has_two, is_joinable}
use Rattle.mini_stmt.specs.JoinVars.{same_kind, is_var}
use Rattle.mini_stmt.specs.JoinJumps.{is_whole, test_alone}
use Rattle.mini_stmt.specs.MinimizeStatements.{is_read, lead_of, joins, jumps_anyway, is_quiet_after, is_quiet, last_lead_after, last_lead, reversed, StretchRests}
use Rattle.mini_stmt.proofs.Follows.{jumps_are}

-- ---- as the list goes on

abbrev stays : Switches → Lead → Tree → Bool
stays o l t = not (is_read o t || (joins o l t || jumps_anyway o l t))

none_of : (a b c : Bool) → a ≡ false → b ≡ false → c ≡ false → not (a || (b || c)) ≡ true
none_of false false false e f g = refl
none_of true b c e f g = absurd (true≢false e)
none_of false true c e f g = absurd (true≢false f)
none_of false false true e f g = absurd (true≢false g)

some_of : (a b c : Bool) → (a ≡ true) ⊎ ((b ≡ true) ⊎ (c ≡ true)) → not (a || (b || c)) ≡ false
some_of true b c e = refl
some_of false true c e = refl
some_of false false true e = refl
some_of false false false (inl e) = absurd (true≢false (sym e))
some_of false false false (inr (inl e)) = absurd (true≢false (sym e))
some_of false false false (inr (inr e)) = absurd (true≢false (sym e))

none_parts : (a b c : Bool) → not (a || (b || c)) ≡ true → (a ≡ false) × (b ≡ false) × (c ≡ false)
none_parts false false false e = (refl, refl, refl)
none_parts true b c e = absurd (true≢false (sym e))
none_parts false true c e = absurd (true≢false (sym e))
none_parts false false true e = absurd (true≢false (sym e))

pub stays_by : (o : Switches) (l : Lead) (t : Tree) → is_read o t ≡ false → joins o l t ≡ false → jumps_anyway o l t ≡ false → stays o l t ≡ true
stays_by o l t e f g = none_of (is_read o t) (joins o l t) (jumps_anyway o l t) e f g

pub quiet_start : (o : Switches) (ts : Trees) → is_quiet_after o Nothing (rest_children 0 ts) ≡ is_quiet o ts
quiet_start o ts = ap (is_quiet_after o Nothing) (from_first ts)

pub quiet_stops : (o : Switches) (l : Lead) (ts : Trees) (i : ℕ) → i < count ts → (is_read o (child_or_absent ts i) ≡ true) ⊎ ((joins o l (child_or_absent ts i) ≡ true) ⊎ (jumps_anyway o l (child_or_absent ts i) ≡ true)) → is_quiet_after o l (rest_children i ts) ≡ is_quiet o ts → false ≡ is_quiet o ts
quiet_stops o l ts i h e inv = sym (ap (λ b. b && is_quiet_after o (lead_of (child_or_absent ts i)) (rest_children (suc i) ts)) (some_of _ _ _ e)) ∙ sym (ap (is_quiet_after o l) (next_child ts i h)) ∙ inv

pub quiet_goes_on : (o : Switches) (l : Lead) (ts : Trees) (i : ℕ) → i < count ts → is_read o (child_or_absent ts i) ≡ false → joins o l (child_or_absent ts i) ≡ false → jumps_anyway o l (child_or_absent ts i) ≡ false → is_quiet_after o l (rest_children i ts) ≡ is_quiet o ts → is_quiet_after o (lead_of (child_or_absent ts i)) (rest_children (i + 1) ts) ≡ is_quiet o ts
quiet_goes_on o l ts i h e f g inv = let next : i + 1 ≡ suc i = omega arith in ap (λ k. is_quiet_after o (lead_of (child_or_absent ts i)) (rest_children k ts)) next ∙ sym (ap (λ b. b && is_quiet_after o (lead_of (child_or_absent ts i)) (rest_children (suc i) ts)) (stays_by o l (child_or_absent ts i) e f g)) ∙ sym (ap (is_quiet_after o l) (next_child ts i h)) ∙ inv

pub quiet_ends : (o : Switches) (l : Lead) (ts : Trees) (i : ℕ) → count ts ≤ i → is_quiet_after o l (rest_children i ts) ≡ is_quiet o ts → true ≡ is_quiet o ts
quiet_ends o l ts i h inv = sym (ap (is_quiet_after o l) (no_rest ts i h)) ∙ inv

-- ---- at its end

and_assoc : (a b c : Bool) → a && (b && c) ≡ (a && b) && c
and_assoc true b c = refl
and_assoc false b c = refl

and_true : (b : Bool) → b && true ≡ b
and_true true = refl
and_true false = refl

and_both : (a b : Bool) → a ≡ true → b ≡ true → a && b ≡ true
and_both a b e f = ap (λ x. x && b) e ∙ f

pushed : (o : Switches) (l : Lead) (ts : Trees) (x : Tree) → is_quiet_after o l (append ts (x ▸ none)) ≡ is_quiet_after o l ts && stays o (last_lead_after l ts) x
pushed o l none x = and_true (stays o l x)
pushed o l (t ▸ ts) x = ap (λ b. stays o l t && b) (pushed o (lead_of t) ts x) ∙ and_assoc (stays o l t) _ _

lead_pushed : (l : Lead) (ts : Trees) (x : Tree) → last_lead_after l (append ts (x ▸ none)) ≡ lead_of x
lead_pushed l none x = refl
lead_pushed l (t ▸ ts) x = lead_pushed (lead_of t) ts x

pub last_of : (ts : Trees) (x : Tree) → last_lead (append ts (x ▸ none)) ≡ lead_of x
last_of ts x = lead_pushed Nothing ts x

-- one more
pub quiet_push : (o : Switches) (ts : Trees) (x : Tree) → is_quiet o ts ≡ true → is_read o x ≡ false → joins o (last_lead ts) x ≡ false → jumps_anyway o (last_lead ts) x ≡ false → is_quiet o (append ts (x ▸ none)) ≡ true
quiet_push o ts x q e f g = pushed o Nothing ts x ∙ and_both (is_quiet o ts) (stays o (last_lead ts) x) q (stays_by o (last_lead ts) x e f g)

-- one less
pub record Shorter (o : Switches) (ts : Trees) (x : Tree) : Type 0 where
  pub quiet : is_quiet o ts ≡ true
  pub read : is_read o x ≡ false
  pub joined : joins o (last_lead ts) x ≡ false
  pub jumps : jumps_anyway o (last_lead ts) x ≡ false

pub quiet_pop : (o : Switches) (ts : Trees) (x : Tree) → is_quiet o (append ts (x ▸ none)) ≡ true → Shorter o ts x
quiet_pop o ts x q =
    let (before, stay) = and_parts (is_quiet o ts) (stays o (last_lead ts) x) (sym (pushed o Nothing ts x) ∙ q) in
    let parts = none_parts (is_read o x) (joins o (last_lead ts) x) (jumps_anyway o (last_lead ts) x) stay in
    record { quiet = before; read = parts.0; joined = parts.1; jumps = parts.2 }

-- something stands before what is joined
pub some_before : (o : Switches) (ts : Trees) (x : Tree) → joins o (last_lead ts) x ≡ true → 0 < count ts
some_before o none x h = absurd (true≢false (sym h))
some_before o (t ▸ ts) x h = omega arith

pub some_jumps : (o : Switches) (ts : Trees) (x : Tree) → jumps_anyway o (last_lead ts) x ≡ true → 0 < count ts
some_jumps o none x h = absurd (true≢false (sym h))
some_jumps o (t ▸ ts) x h = omega arith

pub last_is : (l : Lead) (ts : Trees) (i : ℕ) → count ts ≡ i + 1 → last_lead_after l ts ≡ lead_of (child_or_absent ts i)
last_is l none i e = absurd (omega (arith, e))
last_is l (t ▸ none) zero e = refl
last_is l (t ▸ none) (suc i) e = absurd (omega (arith, e))
last_is l (t ▸ (u ▸ ts)) zero e = absurd (omega (arith, e))
last_is l (t ▸ (u ▸ ts)) (suc i) e = last_is (lead_of t) (u ▸ ts) i (omega (arith, e))

pub no_last : (ts : Trees) → count ts ≡ 0 → last_lead ts ≡ Nothing
no_last none e = refl
no_last (t ▸ ts) e = absurd (omega (arith, e))

-- ---- `if (a) return; return;` becomes `a; return;`

or_none : (b : Bool) → b || false ≡ b
or_none true = refl
or_none false = refl

and_none : (b : Bool) → b && false ≡ false
and_none true = refl
and_none false = refl

-- what stands before them is joined to the test as it was to the `if`
tested_joins : (o : Switches) (l : Lead) (a : Tree) → joins o l (if_alone a (return_statement absent)) ≡ false → joins o l (expression_statement a) ≡ false
tested_joins o Expression a e = e
tested_joins o (Declaration k) a e = ap (λ b. b || (o.sequences && (is_var k && false))) (and_none o.join_vars) ∙ ap (λ b. o.sequences && b) (and_none (is_var k)) ∙ and_none o.sequences
tested_joins o (Return b) a e = and_none o.sequences
tested_joins o Throw a e = and_none o.sequences
tested_joins o Nothing a e = refl

tested_jumps : (o : Switches) (l : Lead) (a : Tree) → jumps_anyway o l (expression_statement a) ≡ false
tested_jumps o (Return true) a = and_none o.sequences
tested_jumps o (Return false) a = refl
tested_jumps o Expression a = refl
tested_jumps o (Declaration k) a = refl
tested_jumps o Throw a = refl
tested_jumps o Nothing a = refl

-- and the test isn't joined to a `return` without an argument
test_lead : (o : Switches) (a : Tree) → (joins o (lead_of (expression_statement a)) (return_statement absent) ≡ false) × (jumps_anyway o (lead_of (expression_statement a)) (return_statement absent) ≡ false)
test_lead o a = go (is_joinable a)
  where
    go : (b : Bool) → (joins o (if b then Expression else Nothing) (return_statement absent) ≡ false) × (jumps_anyway o (if b then Expression else Nothing) (return_statement absent) ≡ false)
    go true = (and_none o.sequences, refl)
    go false = (refl, refl)

pub quiet_tested : (o : Switches) (ts : Trees) (t u : Tree) → jumps_anyway o (lead_of t) u ≡ true → is_quiet o (append ts (t ▸ none)) ≡ true → is_read o u ≡ false → is_quiet o (append (append ts (test_alone t ▸ none)) (u ▸ none)) ≡ true
quiet_tested o ts t u h q r =
    let tested = jumps_are o t u h in
    let before = quiet_pop o ts t q in
    let test = part t 0 in
    let first = quiet_push o ts (expression_statement test) before.quiet (and_none o.sequences) (tested_joins o (last_lead ts) test (sym (ap (joins o (last_lead ts)) tested.first) ∙ before.joined)) (tested_jumps o (last_lead ts) test) in
    let lead = last_of ts (expression_statement test) in
    let after = test_lead o test in
    quiet_push o (append ts (expression_statement test ▸ none)) u first r
    (ap (λ l. joins o l u) lead ∙ ap (joins o (lead_of (expression_statement test))) tested.second ∙ after.0)
    (ap (λ l. jumps_anyway o l u) lead ∙ ap (jumps_anyway o (lead_of (expression_statement test))) tested.second ∙ after.1)

-- ---- lists from their ends

pub append_assoc : (a b c : Trees) → append (append a b) c ≡ append a (append b c)
append_assoc none b c = refl
append_assoc (t ▸ a) b c = ap (λ ts. t ▸ ts) (append_assoc a b c)

pub reversed_push : (ts : Trees) (x : Tree) → reversed (append ts (x ▸ none)) ≡ x ▸ reversed ts
reversed_push none x = refl
reversed_push (t ▸ ts) x = ap (λ us. append us (t ▸ none)) (reversed_push ts x)

pub counts_push : (ts us : Trees) → node_counts (append ts us) ≡ node_counts ts + node_counts us
counts_push none us = omega arith
counts_push (t ▸ ts) us = let rest = counts_push ts us in omega (arith, rest)

pub count_push : (ts : Trees) (x : Tree) → count (append ts (x ▸ none)) ≡ count ts + 1
count_push none x = omega arith
count_push (t ▸ ts) x = let rest = count_push ts x in omega (arith, rest)

-- ---- no row reads a quiet list

joinable_one : (e : Tree) → is_one_part e ≡ true → is_joinable e ≡ true
joinable_one e h = go (is_sequence_shape (shape_of e)) refl
  where
    apart : (t : Tree) → is_sequence_shape (shape_of t) ≡ true → is_one_part t ≡ false
    apart (node shape.SequenceExpression xs n ts) s = refl
    apart t s = absurd (cc s)

    go : (b : Bool) → is_sequence_shape (shape_of e) ≡ b → is_joinable e ≡ true
    go true s = absurd (true≢false (sym h ∙ apart e s))
    go false s = ap (λ b. if b then is_sequence e && has_two (children (part e 0)) else is_one_part e) s ∙ h

joinable_parts : (p : Tree) (ps : Trees) → are_parts p ps ≡ true → is_joinable (of_parts p ps) ≡ true
joinable_parts p none h = joinable_one p h
joinable_parts p (q ▸ qs) h = refl

same_itself : (k : VariableDeclarationKind) → same_kind k k ≡ true
same_itself Var = refl
same_itself Let = refl
same_itself Const = refl

-- what the rows read at the head of a list is told
abbrev Told : Switches → Lead → Trees → Type 0
Told o l none = ⊥
Told o l (x ▸ none) = is_read o x ≡ true
Told o l (x ▸ (y ▸ ts)) = (is_read o x ≡ true) ⊎ ((joins o (lead_of x) y ≡ true) ⊎ (jumps_anyway o (lead_of x) y ≡ true))

expression_lead : (e : Tree) → is_joinable e ≡ true → lead_of (expression_statement e) ≡ Expression
expression_lead e h = ap (λ b. if b then Expression else Nothing) h

takes_head : (o : Switches) (h : Head) (e : Tree) → o.sequences ≡ true → is_joinable e ≡ true → joins o Expression (with_head h e) ≡ true
takes_head o list.Return e s j = ap (λ b. b && (is_joinable e || false)) s ∙ or_none _ ∙ j
takes_head o list.Throw e s j = ap (λ b. b && (is_joinable e || false)) s ∙ or_none _ ∙ j
takes_head o (If a b) e s j = ap (λ b. b && (is_joinable e || false)) s ∙ or_none _ ∙ j
takes_head o (Switch a) e s j = ap (λ b. b && (is_joinable e || false)) s ∙ or_none _ ∙ j
takes_head o (For a b c) e s j = ap (λ b. b && (is_joinable e || (is_absent_part e || false))) s ∙ ap (λ b. b || (is_absent_part e || false)) j

whole_is : (b : Tree) → (b ≡ absent) ⊎ (is_absent b ≡ false) → is_whole b ≡ true
whole_is b (inl e) = ap is_whole e
whole_is b (inr e) = ap (λ c. is_absent_part b || not c) e ∙ always (is_absent_part b)
  where
    always : (c : Bool) → c || true ≡ true
    always true = refl
    always false = refl

return_lead : (a b : Tree) → is_whole b ≡ true → lead_of (if_alone a (return_statement b)) ≡ Return (is_absent_part b)
return_lead a b h = ap (λ c. if c then Return (is_absent_part b) else Nothing) h

throw_lead : (a b : Tree) → is_whole b ≡ true → lead_of (if_alone a (throw_statement b)) ≡ Throw
throw_lead a b h = ap (λ c. if c then Throw else Nothing) h

answered : (o : Switches) (c : Tree) → o.sequences ≡ true → is_absent c ≡ false → may_sink c ≡ true → o.sequences && (not (is_absent c) && may_sink c) ≡ true
answered o c s e f = ap (λ b. b && (not (is_absent c) && may_sink c)) s ∙ ap (λ b. not b && may_sink c) e ∙ f

sequences_told : (o : Switches) (l : Lead) (a b : Trees) → o.sequences ≡ true → SequencesRow a b → Told o l a
sequences_told o l a b s (inl r) =
    subst (Told o l) (sym r.shape) (inr (inl (ap (λ m. joins o m (expression_statement (of_parts r.q r.qs))) (expression_lead (of_parts r.p r.ps) (joinable_parts r.p r.ps r.first)) ∙ ap (λ b. b && (is_joinable (of_parts r.q r.qs) || false)) s ∙ or_none _ ∙ joinable_parts r.q r.qs r.second)))
sequences_told o l a b s (inr (inl r)) = subst (Told o l) (sym r.shape) (inr (inl (ap (λ m. joins o m (return_statement r.right)) (return_lead r.test r.left (whole_is r.left r.whole)) ∙ answered o r.right s r.present r.shallow)))
sequences_told o l a b s (inr (inr (inl r))) = subst (Told o l) (sym r.shape) (inr (inl (ap (λ m. joins o m (throw_statement r.right)) (throw_lead r.test r.left (whole_is r.left r.whole)) ∙ answered o r.right s r.present r.shallow)))
sequences_told o l a b s (inr (inr (inr (inl r)))) = subst (Told o l) (sym r.shape) (inr (inr (ap (λ b. b && true) s)))
sequences_told o l a b s (inr (inr (inr (inr (inl r))))) = subst (Told o l) (sym r.shape) (inr (inl (ap (λ m. joins o m (with_head r.head (of_parts r.q r.qs))) (expression_lead (of_parts r.p r.ps) (joinable_parts r.p r.ps r.first)) ∙ takes_head o r.head (of_parts r.q r.qs) s (joinable_parts r.q r.qs r.second))))
sequences_told o l a b s (inr (inr (inr (inr (inr (inl r)))))) = subst (Told o l) (sym r.shape) (inr (inl (ap (λ m. joins o m (for_loop absent r.test r.update r.body)) (expression_lead (of_parts r.p r.ps) (joinable_parts r.p r.ps r.first)) ∙ ap (λ b. b && true) s)))
sequences_told o l a b s (inr (inr (inr (inr (inr (inr r)))))) = subst (Told o l) (sym r.shape) (ap (λ b. b && (is_terminated r.s && is_unscoped r.u)) s ∙ ap (λ b. b && is_unscoped r.u) r.terminated ∙ r.unscoped)

loops_told : (o : Switches) (l : Lead) (a b : Trees) → o.sequences ≡ true → LoopRow a b → Told o l a
loops_told o l a b s (inl r) =
    subst (Told o l) (sym r.shape) (inr (inl (ap (λ m. joins o m (for_in r.left (of_parts r.q r.qs) r.body)) (expression_lead (of_parts r.p r.ps) (joinable_parts r.p r.ps r.first)) ∙ ap (λ b. b && (is_plain_left r.left && is_joinable (of_parts r.q r.qs))) s ∙ ap (λ b. b && is_joinable (of_parts r.q r.qs)) r.plain ∙ joinable_parts r.q r.qs r.second)))
loops_told o l a b s (inr (inl r)) = subst (Told o l) (sym r.shape) (inr (inl (ap (λ b. b || (o.sequences && true)) (and_none o.join_vars) ∙ ap (λ b. b && true) s)))
loops_told o l a b s (inr (inr r)) = subst (Told o l) (sym r.shape) (inr (inl (ap (λ b. b || (o.sequences && true)) (and_none o.join_vars) ∙ ap (λ b. b && true) s)))

joins_told : (o : Switches) (l : Lead) (a b : Trees) → JoinRow o a b → Told o l a
joins_told o l a b (inl r) =
    let row = r.1 in
    subst (Told o l) (sym row.shape) (inr (inl (ap (λ b. (b && same_kind row.kind row.kind) || (o.sequences && (is_var row.kind && false))) r.0 ∙ ap (λ b. b || (o.sequences && (is_var row.kind && false))) (same_itself row.kind))))
joins_told o l a b (inr r) = loops_told o l a b r.0 r.1

stretch_told : (o : Switches) (l : Lead) (a b : Trees) → StretchRow o a b → Told o l a
stretch_told o l a b (inl r) = subst (Told o l) (sym r.shape) refl
stretch_told o l a b (inr (inl r)) = subst (Told o l) (sym r.shape) (ap (λ b. b || (o.sequences && false)) r.unscoped)
stretch_told o l a b (inr (inr (inl r))) = joins_told o l a b r
stretch_told o l a b (inr (inr (inr r))) = sequences_told o l a b r.0 r.1

stays_false : (o : Switches) (l : Lead) (t : Tree) (b : Bool) → (is_read o t ≡ true) ⊎ ((joins o l t ≡ true) ⊎ (jumps_anyway o l t ≡ true)) → stays o l t && b ≡ true → ⊥
stays_false o l t b h e = absurd (true≢false (sym (and_parts (stays o l t) b e).0 ∙ some_of (is_read o t) (joins o l t) (jumps_anyway o l t) h))

told_breaks : (o : Switches) (l : Lead) (a after : Trees) → Told o l a → is_quiet_after o l (append a after) ≡ true → ⊥
told_breaks o l none after h q = h
told_breaks o l (x ▸ none) after h q = stays_false o l x (is_quiet_after o (lead_of x) after) (inl h) q
told_breaks o l (x ▸ (y ▸ ts)) after (inl h) q = stays_false o l x (is_quiet_after o (lead_of x) (y ▸ append ts after)) (inl h) q
told_breaks o l (x ▸ (y ▸ ts)) after (inr h) q = stays_false o (lead_of x) y (is_quiet_after o (lead_of y) (append ts after)) (inr h) (and_parts (stays o l x) (stays o (lead_of x) y && is_quiet_after o (lead_of y) (append ts after)) q).1

quiet_rest : (o : Switches) (l : Lead) (before ts : Trees) → is_quiet_after o l (append before ts) ≡ true → is_quiet_after o (last_lead_after l before) ts ≡ true
quiet_rest o l none ts q = q
quiet_rest o l (t ▸ before) ts q = quiet_rest o (lead_of t) before ts (and_parts (stays o l t) (is_quiet_after o (lead_of t) (append before ts)) q).1

pub list_rests : (o : Switches) (t : Trees) → is_quiet o t ≡ true → (w : Tree) → InList (StretchRow o) (listed t) w → ⊥
list_rests o t q w r =
    let same : t ≡ append r.before (append r.read r.after) = ap children r.shape in
    let rest = quiet_rest o Nothing r.before (append r.read r.after) (sym (ap (is_quiet o) same) ∙ q) in
    told_breaks o (last_lead_after Nothing r.before) r.read r.after (stretch_told o (last_lead_after Nothing r.before) r.read r.put r.row) rest

pub quiet_rests : (o : Switches) (t : Trees) → is_quiet o t ≡ true → (p : Position) → StretchRests o p (listed t)
quiet_rests o t q StatementList w r = list_rests o t q w r
quiet_rests o t q p w r = absurd r
