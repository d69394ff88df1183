-- Branches and bodies by their index, and the block in one that becomes its statement.
use Rattle.std.proofs.Common.{◌≡◌, ℕ, zero, suc, ◌<◌, Bool, true, false, refl, sym, ap, ◌∙◌, arith}
use Rattle.std.specs.Prelude.{◌&&◌, ◌||◌, nat_eq, Some, None, option_and_then}
use Rattle.std.proofs.Math.Dec.{eqb-suc-zero, eqb-suc-suc}
use Rattle.std.proofs.lemmas.Bool.{false≢true}
use Rattle.mini_model.specs.declared.shape.Shape.{Shape}
use Rattle.mini_model.specs.declared.shape.Shape.TheVariants as shape
use Rattle.mini_model.specs.Tree.{Tree, Trees, none, ◌▸◌, absent, child_or_absent, children, count, shape_of}
use Rattle.mini_node.specs.Children.{is_bare, part, with_child, with_part}
use Rattle.mini_node.specs.Kinds.{is_block}
use Rattle.mini_node.specs.Lends.{with_children}
use Rattle.mini_log.specs.Terms.{when}
use Rattle.mini_log.specs.ListRows.{arity, is_branch, is_consequent, only, stands_bare, unwrapped, unwrapped_at}
use Rattle.mini_log.specs.Walk.{spot}
use Rattle.mini_checker.specs.Made.{Made}
use Rattle.mini_recorded.specs.Unwrapping.{unwraps}
use Rattle.mini_recorded.proofs.DeclarationForms.{with_part_is}
use Rattle.mini_recorded.proofs.ListEdits.{nothing_made, something_made, with_twice}

-- ---- indices

past_one : (i : ℕ) → nat_eq (suc (suc i)) 1 ≡ false
past_one i = eqb-suc-suc (suc i) 0 ∙ eqb-suc-zero i

past_two : (i : ℕ) → nat_eq (suc (suc (suc i))) 2 ≡ false
past_two i = eqb-suc-suc (suc (suc i)) 1 ∙ past_one i

past_three : (i : ℕ) → nat_eq (suc (suc (suc (suc i)))) 3 ≡ false
past_three i = eqb-suc-suc (suc (suc (suc i))) 2 ∙ past_two i

pub if_branch : (i : ℕ) → is_branch shape.IfStatement i ≡ nat_eq i 1 || nat_eq i 2
if_branch zero = refl
if_branch (suc zero) = refl
if_branch (suc (suc zero)) = refl
if_branch (suc (suc (suc i))) = sym (ap (λ b. b || nat_eq (suc (suc (suc i))) 2) (past_one (suc i)) ∙ past_two i)

pub while_body : (i : ℕ) → is_branch shape.WhileStatement i ≡ nat_eq i 1
while_body zero = refl
while_body (suc zero) = refl
while_body (suc (suc i)) = sym (past_one i)

pub do_body : (i : ℕ) → is_branch shape.DoWhileStatement i ≡ nat_eq i 0
do_body zero = refl
do_body (suc i) = sym (eqb-suc-zero i)

pub for_body : (i : ℕ) → is_branch shape.ForStatement i ≡ nat_eq i 3
for_body zero = refl
for_body (suc zero) = refl
for_body (suc (suc zero)) = refl
for_body (suc (suc (suc zero))) = refl
for_body (suc (suc (suc (suc i)))) = sym (past_three i)

pub in_body : (i : ℕ) → is_branch shape.ForInStatement i ≡ nat_eq i 2
in_body zero = refl
in_body (suc zero) = refl
in_body (suc (suc zero)) = refl
in_body (suc (suc (suc i))) = sym (past_two i)

pub of_body : (i : ℕ) → is_branch shape.ForOfStatement i ≡ nat_eq i 2
of_body zero = refl
of_body (suc zero) = refl
of_body (suc (suc zero)) = refl
of_body (suc (suc (suc i))) = sym (past_two i)

pub if_consequent : (i : ℕ) → is_consequent shape.IfStatement i ≡ nat_eq i 1
if_consequent zero = refl
if_consequent (suc zero) = refl
if_consequent (suc (suc i)) = sym (past_one i)

pub branch_within : (h : Shape) (i : ℕ) → is_branch h i ≡ true → i < arity h
branch_within shape.IfStatement (suc zero) e = omega arith
branch_within shape.IfStatement (suc (suc zero)) e = omega arith
branch_within shape.WhileStatement (suc zero) e = omega arith
branch_within shape.DoWhileStatement zero e = omega arith
branch_within shape.ForStatement (suc (suc (suc zero))) e = omega arith
branch_within shape.ForInStatement (suc (suc zero)) e = omega arith
branch_within shape.ForOfStatement (suc (suc zero)) e = omega arith
branch_within h i e = absurd (false≢true e)

-- ---- the block

one_by : (a b : Bool) (f : Tree → Bool) (g : Tree → Tree) (us : Trees) → a && ((b && nat_eq (count us) 1) && f (child_or_absent us 0)) ≡ true → option_and_then (λ u. when (a && (b && f u)) (g u)) (only us) ≡ Some (g (child_or_absent us 0))
one_by true true f g none e = absurd (false≢true e)
one_by true true f g (u ▸ none) e = ap (λ c. when c (g u)) e
one_by true true f g (u ▸ (v ▸ us)) e = absurd (false≢true (sym (ap (λ c. c && f u) (past_one (count us))) ∙ e))
one_by true false f g us e = absurd (false≢true e)
one_by false b f g us e = absurd (false≢true e)

none_by : (a b : Bool) (f : Tree → Bool) (g : Tree → Tree) (us : Trees) → a && ((b && nat_eq (count us) 1) && f (child_or_absent us 0)) ≡ false → option_and_then (λ u. when (a && (b && f u)) (g u)) (only us) ≡ None
none_by a b f g none e = refl
none_by true true f g (u ▸ none) e = ap (λ c. when c (g u)) e
none_by true false f g (u ▸ none) e = refl
none_by false b f g (u ▸ none) e = refl
none_by a b f g (u ▸ (v ▸ us)) e = refl

unwraps_at : (t : Tree) (k : ℕ) → unwraps t k ≡ true → unwrapped_at t k ≡ Some (with_part t k (part (part (part t k) 0) 0))
unwraps_at t k e = one_by (is_branch (shape_of t) k && is_bare t (arity (shape_of t))) (is_block (part t k)) (stands_bare (shape_of t) k) (with_part t k) (children (part (part t k) 0)) e

stays_at : (t : Tree) (k : ℕ) → unwraps t k ≡ false → unwrapped_at t k ≡ None
stays_at t k e = none_by (is_branch (shape_of t) k && is_bare t (arity (shape_of t))) (is_block (part t k)) (stands_bare (shape_of t) k) (with_part t k) (children (part (part t k) 0)) e

-- as code takes the block out and puts its statement in
pub unwraps_there : (t : Tree) (i k : ℕ) (ts us vs : Trees) (c d u : Tree) → k ≡ spot (children t) i → unwraps t k ≡ true → ts ≡ children t → c ≡ child_or_absent ts k → us ≡ with_child ts k absent → d ≡ part c 0 → u ≡ part d 0 → vs ≡ with_child us k u →
    Made (unwrapped t i) t (with_children t vs) true
unwraps_there t i k ts us vs c d u at e f is_c is_us is_d is_u is_vs =
    something_made (unwrapped t i) t (with_part t k (part (part (part t k) 0) 0)) (with_children t vs) (ap (unwrapped_at t) (sym at) ∙ unwraps_at t k e)
    (with_part_is t ts vs k u f (is_vs ∙ ap (λ w. with_child w k u) is_us ∙ with_twice ts k absent u) ∙ ap (with_part t k) (is_u ∙ ap (λ x. part x 0) (is_d ∙ ap (λ x. part x 0) (is_c ∙ ap (λ w. child_or_absent w k) f))))

pub stays_there : (t : Tree) (i k : ℕ) → k ≡ spot (children t) i → unwraps t k ≡ false → Made (unwrapped t i) t t false
stays_there t i k at e = nothing_made (unwrapped t i) t (ap (unwrapped_at t) (sym at) ∙ stays_at t k e)
