-- What statements do where no tail is, and rows of `if`.
use Rattle.std.proofs.Common.{◌≡◌, Bool, true, false, [], Option, None, refl, sym, ap, ◌∙◌, subst, inl, inr}
use Rattle.std.specs.Prelude.{not, codes}
use Rattle.mini_model.specs.declared.operator.LogicalOperator.TheVariants.{Or, And}
use Rattle.mini_model.specs.declared.place.Position.TheVariants.{Stmt}
use Rattle.mini_model.specs.declared.seat.Seat.{Seat}
use Rattle.mini_model.specs.declared.seat.StmtSeat.{StmtSeat}
use Rattle.mini_model.specs.declared.shape.Shape.TheVariants as shape
use Rattle.mini_model.specs.Tree.{Tree, node, none, ◌▸◌, absent, listed, unresolved, identifier, expression_statement, if_else, if_alone, negation, logical}
use Rattle.mini_model.specs.Terms.{not_of}
use Rattle.mini_laws.specs.Value.{Undefined, choose, truth}
use Rattle.mini_laws.specs.State.{State, Returned, Completion, ok, stop, either, Environment}
use Rattle.mini_laws.specs.Demand.{Val, Test, Unused, Demand, Tail, As, Stat, LabelSet, Request}
use Rattle.mini_laws.specs.Naming.{summary, summaries, naming}
use Rattle.mini_laws.specs.Statements.{return_step}
use Rattle.mini_laws.specs.Step.{step, means, meaning}
use Rattle.mini_laws.specs.Fits.{Fits}
use Rattle.mini_laws.specs.Rows.{SameAt}
use Rattle.mini_laws.specs.Tails.{ends_in}
use Rattle.mini_laws.specs.Truth.{told}
use Rattle.mini_laws.proofs.Runs.{either_cong, either_assoc, either_eta, either_ok, either_stop, each_bool}
use Rattle.mini_laws.proofs.Truth.{coherent}
use Rattle.mini_laws.proofs.Rows.{equal_same, not_equal}
use Rattle.mini_laws.proofs.Stretching.{listed_one}
use Rattle.mini_laws.proofs.Tailing.{finished, finish_none, tail_same}
use Rattle.mini_rows.specs.Lists.{block, return_statement, is_unscoped}
use Rattle.mini_rows.specs.Spellings.{void_zero, IsUndefined}
use Rattle.mini_rows.proofs.ListStatements.{expression_is, if_is, absent_is, empty_is, one_unscoped, read_nothing, block_is}
use Rattle.mini_rows.specs.Branches.{IsEmpty, has_else, as_consequent}

-- statements that do the same in any environment and any tail, with any labels, and are read alike
pub record SameStatement (n w : Tree) : Type 0 where
  pub by : (e : Environment) (t : Option Tail) (r : LabelSet) (s : State) → means e n (Stat t) r s ≡ means e w (Stat t) r s
  pub read : summary n ≡ summary w

-- enough where no tail is
pub equal_statement : (n w : Tree) → ((e : Environment) (r : LabelSet) (s : State) → means e n (Stat None) r s ≡ means e w (Stat None) r s) → summary n ≡ summary w → SameStatement n w
equal_statement n w h read = record { by = λ e t r s. tail_same e n t r s ∙ ap (λ x. either x (λ u z. ok tt z) (ends_in t)) (h e r s) ∙ sym (tail_same e w t r s); read = read }

pub statement_same : (n w : Tree) → SameStatement n w → (q : StmtSeat) → SameAt (Stmt q) n w
statement_same n w same q = equal_same (Stmt q) n w (record { by = λ e d f r s. go e d f r s })
  where
    go : (e : Environment) (d : Demand) → Fits (Stmt q) d → (r : Request d) (s : State) → means e n d r s ≡ means e w d r s
    go e (Stat t) f r s = same.by e t r s
    go e d f r s = elim f [ ]

pub replaced : (n n' w w' : Tree) → n ≡ n' → w ≡ w' → SameStatement n' w' → SameStatement n w
replaced n n' w w' u v h = subst (λ x. SameStatement x w) (sym u) (subst (λ y. SameStatement n' y) (sym v) h)

-- ---- what some statements do where no tail is

pub return_is : (e : Environment) (a : Tree) (r : LabelSet) (s : State) → means e (return_statement a) (Stat None) r s ≡ either (means e a (As Val) tt s) (λ v z. stop (Returned v) z) (λ x z. stop x z)
unfolding means meaning step
return_is e a r s = finished e (naming shape.ReturnStatement (Stat None) [] 0 (summaries (a ▸ none))) (λ i. As Val) (λ i r z. meaning e (a ▸ none) i (As Val) r z) None return_step s ∙ finish_none _

pub one_unwrapped : (e : Environment) (c : Tree) → is_unscoped c ≡ true → (s : State) → means e (block (c ▸ none)) (Stat None) [] s ≡ means e c (Stat None) [] s
one_unwrapped e c u s = block_is e (c ▸ none) (one_unscoped c u) [] s ∙ listed_one e c s

empty_none : (e : Environment) (r : LabelSet) (s : State) → means e (listed none) (Stat None) r s ≡ ok tt s
unfolding means step
empty_none e r s = refl

pub empty_does : (e : Environment) (c : Tree) → IsEmpty c → (r : LabelSet) (s : State) → means e c (Stat None) r s ≡ ok tt s
empty_does e c (inl h) r s = ap (λ x. means e x (Stat None) r s) h ∙ empty_is e r s
empty_does e c (inr h) r s = ap (λ x. means e x (Stat None) r s) h ∙ block_is e none (read_nothing none refl) r s ∙ empty_none e [] s

else_unscoped : (c : Tree) → has_else c ≡ true → is_unscoped c ≡ true
else_unscoped (node shape.IfStatement xs n ts) h = refl
else_unscoped c h = absurd (cc h)

-- ---- tests

pub and_test : (e : Environment) (a b : Tree) (s : State) → means e (logical And a b) (As Test) tt s ≡ either (means e a (As Test) tt s) (λ t z. choose t (means e b (As Test) tt z) (ok false z)) (λ x z. stop x z)
unfolding means meaning step
and_test e a b s = either_cong (means e a (As Test) tt s) _ _ _ _ (each_bool _ (λ z. either_eta (means e b (As Test) tt z)) (λ z. refl)) (λ x z. refl)

pub and_unused : (e : Environment) (a b : Tree) (s : State) → means e (logical And a b) (As Unused) tt s ≡ either (means e a (As Test) tt s) (λ t z. choose t (means e b (As Unused) tt z) (ok tt z)) (λ x z. stop x z)
unfolding means meaning step
and_unused e a b s = either_cong (means e a (As Test) tt s) _ _ _ _ (each_bool _ (λ z. either_eta (means e b (As Unused) tt z)) (λ z. refl)) (λ x z. refl)

pub or_unused : (e : Environment) (a b : Tree) (s : State) → means e (logical Or a b) (As Unused) tt s ≡ either (means e a (As Test) tt s) (λ t z. choose t (ok tt z) (means e b (As Unused) tt z)) (λ x z. stop x z)
unfolding means meaning step
or_unused e a b s = either_cong (means e a (As Test) tt s) _ _ _ _ (each_bool _ (λ z. refl) (λ z. either_eta (means e b (As Unused) tt z))) (λ x z. refl)

pub not_test : (e : Environment) (a : Tree) (s : State) → means e (negation a) (As Test) tt s ≡ either (means e a (As Test) tt s) (λ t z. ok (not t) z) (λ x z. stop x z)
unfolding means meaning step
not_test e a s = refl

-- the lighter negation, where its truth is asked
not_of_test : (e : Environment) (p : Seat) (a : Tree) (s : State) → means e (not_of p a) (As Test) tt s ≡ either (means e a (As Test) tt s) (λ t z. ok (not t) z) (λ x z. stop x z)
not_of_test e p a s = sym ((not_equal p a).by e (As Test) ((λ h. refl), (λ h. inr refl)) tt s) ∙ not_test e a s

-- a branch taken by what a negated test gives
pub by_negated : {A : Type 0} (x : Completion Bool) (f g : State → Completion A) → either (either x (λ t z. ok (not t) z) (λ y z. stop y z)) (λ t z. choose t (f z) (g z)) (λ y z. stop y z) ≡ either x (λ t z. choose t (g z) (f z)) (λ y z. stop y z)
by_negated x f g = either_assoc x _ _ _ _ ∙ either_cong x _ _ _ _ (each_bool _ (λ z. either_ok false z _ _) (λ z. either_ok true z _ _)) (λ y z. either_stop y z _ _)

-- a test whose truth nobody uses
test_unused : (e : Environment) (a : Tree) (s : State) → either (means e a (As Test) tt s) (λ t z. ok tt z) (λ x z. stop x z) ≡ means e a (As Unused) tt s
unfolding told
test_unused e a s =
    ap (λ x. either x (λ t z. ok tt z) (λ x z. stop x z)) (coherent a Test e s)
    ∙ either_assoc (means e a (As Val) tt s) _ _ _ _
    ∙ either_cong (means e a (As Val) tt s) _ _ _ _ (λ v z. either_ok (truth v) z _ _) (λ x z. either_stop x z _ _)
    ∙ sym (coherent a Unused e s)

-- ---- 60

undefined_name : (e : Environment) (s : State) → means e (identifier (unresolved (codes "undefined"))) (As Val) tt s ≡ ok Undefined s
unfolding means step
undefined_name e s = refl

void_is : (e : Environment) (s : State) → means e void_zero (As Val) tt s ≡ ok Undefined s
unfolding means meaning step either
void_is e s = refl

pub undefined_is : (e : Environment) (v : Tree) → IsUndefined v → (s : State) → means e v (As Val) tt s ≡ ok Undefined s
undefined_is e v (inl h) s = ap (λ x. means e x (As Val) tt s) h ∙ undefined_name e s
undefined_is e v (inr h) s = ap (λ x. means e x (As Val) tt s) h ∙ void_is e s

absent_value : (e : Environment) (s : State) → means e absent (As Val) tt s ≡ ok Undefined s
unfolding means step
absent_value e s = refl

pub row_60 : (v : Tree) → IsUndefined v → SameStatement (return_statement v) (return_statement absent)
row_60 v u = equal_statement _ _ (λ e r s. return_is e v r s ∙ ap (λ x. either x (λ a z. stop (Returned a) z) (λ x z. stop x z)) (undefined_is e v u s ∙ sym (absent_value e s)) ∙ sym (return_is e absent r s)) refl

-- ---- 79, of branches, and 83's block

pub row_79_consequent : (a c u : Tree) → is_unscoped c ≡ true → SameStatement (if_else a (block (c ▸ none)) u) (if_else a c u)
row_79_consequent a c u f = equal_statement _ _ (λ e ls s.
    if_is e a (block (c ▸ none)) u ls s
    ∙ either_cong (means e a (As Test) tt s) _ _ _ _ (each_bool _ (λ z. one_unwrapped e c f z) (λ z. refl)) (λ x z. refl)
    ∙ sym (if_is e a c u ls s)) refl

pub row_79_alternate : (a c u : Tree) → is_unscoped c ≡ true → SameStatement (if_else a u (block (c ▸ none))) (if_else a u c)
row_79_alternate a c u f = equal_statement _ _ (λ e ls s.
    if_is e a u (block (c ▸ none)) ls s
    ∙ either_cong (means e a (As Test) tt s) _ _ _ _ (each_bool _ (λ z. refl) (λ z. one_unwrapped e c f z)) (λ x z. refl)
    ∙ sym (if_is e a u c ls s)) refl

pub same_back : (n w : Tree) → SameStatement n w → SameStatement w n
same_back n w same = record { by = λ e t r s. sym (same.by e t r s); read = sym same.read }

pub row_83_block : (a c u : Tree) → has_else c ≡ true → SameStatement (if_else a c u) (if_else a (block (c ▸ none)) u)
row_83_block a c u h = same_back _ _ (row_79_consequent a c u (else_unscoped c h))

-- ---- 82

pub row_82_empty_or : (a c b : Tree) → IsEmpty c → SameStatement (if_else a c (expression_statement b)) (expression_statement (logical Or a b))
row_82_empty_or a c b h = equal_statement _ _ (λ e ls s.
    if_is e a c (expression_statement b) ls s
    ∙ either_cong (means e a (As Test) tt s) _ _ _ _ (each_bool _ (λ z. empty_does e c h [] z) (λ z. expression_is e b [] z)) (λ x z. refl)
    ∙ sym (expression_is e (logical Or a b) ls s ∙ or_unused e a b s)) refl

pub row_82_empty_and : (p : Seat) (a c b : Tree) → IsEmpty c → SameStatement (if_else a c (expression_statement b)) (expression_statement (logical And (not_of p a) b))
row_82_empty_and p a c b h = equal_statement _ _ (λ e ls s.
    if_is e a c (expression_statement b) ls s
    ∙ either_cong (means e a (As Test) tt s) _ (λ t z. choose t (ok tt z) (means e b (As Unused) tt z)) _ (λ x z. stop x z) (each_bool _ (λ z. empty_does e c h [] z) (λ z. expression_is e b [] z)) (λ x z. refl)
    ∙ sym (by_negated (means e a (As Test) tt s) (λ z. means e b (As Unused) tt z) (λ z. ok tt z))
    ∙ sym (expression_is e (logical And (not_of p a) b) ls s ∙ and_unused e (not_of p a) b s ∙ ap (λ x. either x (λ t z. choose t (means e b (As Unused) tt z) (ok tt z)) (λ x z. stop x z)) (not_of_test e p a s))) refl

-- ---- 83

pub row_83_alone : (a c : Tree) → IsEmpty c → SameStatement (if_alone a c) (expression_statement a)
row_83_alone a c h = equal_statement _ _ (λ e ls s.
    if_is e a c absent ls s
    ∙ either_cong (means e a (As Test) tt s) _ _ _ _ (each_bool _ (λ z. empty_does e c h [] z) (λ z. absent_is e [] z)) (λ x z. refl)
    ∙ test_unused e a s
    ∙ sym (expression_is e a ls s)) refl

branch_turned : (p : Seat) (a c u : Tree) → IsEmpty c → SameStatement (if_else a c u) (if_alone (not_of p a) u)
branch_turned p a c u h = equal_statement _ _ (λ e ls s.
    if_is e a c u ls s
    ∙ either_cong (means e a (As Test) tt s) _ (λ t z. choose t (means e absent (Stat None) [] z) (means e u (Stat None) [] z)) _ (λ x z. stop x z) (each_bool _ (λ z. empty_does e c h [] z ∙ sym (absent_is e [] z)) (λ z. refl)) (λ x z. refl)
    ∙ sym (by_negated (means e a (As Test) tt s) (λ z. means e u (Stat None) [] z) (λ z. means e absent (Stat None) [] z))
    ∙ sym (if_is e (not_of p a) u absent ls s ∙ ap (λ x. either x (λ t z. choose t (means e u (Stat None) [] z) (means e absent (Stat None) [] z)) (λ x z. stop x z)) (not_of_test e p a s))) refl

same_then : (n w v : Tree) → SameStatement n w → SameStatement w v → SameStatement n v
same_then n w v f g = record { by = λ e t r s. f.by e t r s ∙ g.by e t r s; read = f.read ∙ g.read }

pub row_83_else : (p : Seat) (a c u : Tree) → IsEmpty c → SameStatement (if_else a c u) (if_alone (not_of p a) (as_consequent u))
row_83_else p a c u h = go (has_else u) refl
  where
    go : (b : Bool) → has_else u ≡ b → SameStatement (if_else a c u) (if_alone (not_of p a) (choose b (block (u ▸ none)) u))
    go true e = same_then _ _ _ (branch_turned p a c u h) (row_83_block (not_of p a) u absent e)
    go false e = branch_turned p a c u h

pub row_83_nested : (a b s : Tree) → SameStatement (if_alone a (if_alone b s)) (if_alone (logical And a b) s)
row_83_nested a b c = equal_statement _ _ (λ e ls s.
    if_is e a (if_alone b c) absent ls s
    ∙ sym (if_is e (logical And a b) c absent ls s
    ∙ ap (λ x. either x (λ t z. choose t (means e c (Stat None) [] z) (means e absent (Stat None) [] z)) (λ x z. stop x z)) (and_test e a b s)
    ∙ either_assoc (means e a (As Test) tt s) _ _ _ _
    ∙ either_cong (means e a (As Test) tt s) _ (λ t z. choose t (means e (if_alone b c) (Stat None) [] z) (means e absent (Stat None) [] z)) _ (λ x z. stop x z) (each_bool _ (λ z. sym (if_is e b c absent [] z)) (λ z. either_ok false z _ _)) (λ x z. either_stop x z _ _))) refl
