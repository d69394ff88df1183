-- What is done in what a static block or an inner expression holds is done in it.
use Rattle.std.proofs.Common.{◌≡◌, ℕ, Bool, true, false, [], refl, sym, ap, ◌∙◌, subst, subst₂, inl, inr, arith}
use Rattle.std.proofs.lemmas.Bool.{eqb-true, false≢true}
use Rattle.std.specs.Prelude.{◌⊎◌}
use Rattle.mini_kept.specs.Without.{Assured, BodySets}
use Rattle.mini_model.specs.declared.place.Position.{Position}
use Rattle.mini_model.specs.declared.place.Position.TheVariants.{StatementList}
use Rattle.mini_model.specs.declared.shape.Shape.TheVariants as shape
use Rattle.mini_model.specs.Tree.{Tree, Trees, node, none, ◌▸◌, count, children, child_or_absent, shape_of}
use Rattle.mini_model.specs.Position.{child_position}
use Rattle.mini_node.specs.Children.{part, number_of, with_child}
use Rattle.mini_node.specs.Lends.{with_children}
use Rattle.mini_rows.specs.OwnParts.{block_over, inner_over, OwnPart}
use Rattle.mini_rows.specs.Steady.{Begun, nothing_begun, own_rows, OwnRows, ReadsMore, OwnStep}
use Rattle.mini_tree.specs.Rule.{Moves, Applied}
use Rattle.mini_tree.proofs.Reaching.{moves_once, moves_trans}
use Rattle.mini_steady.specs.Chains.{Several, once, again}
use Rattle.mini_steady.specs.Declarations.{declared_in, begun_by}
use Rattle.mini_steady.specs.Own.{KeepsEach, rows_there, OwnWalked, OwnRests}
use Rattle.mini_steady.specs.declared.code.BodyCode.{BodyCode}
use Rattle.mini_steady.specs.Parts.{is_part, AppliedInPart, PartRests}
use Rattle.mini_steady.proofs.Declaring.{all_known, several_known}

-- where what it holds stands
abbrev within : Position → Tree → Position
within p t = child_position (shape_of t) p 1 0

module _ (F : OwnRows) (keeps : KeepsEach F) (wide : ReadsMore F) (S : BodySets) (p : Position) (k : ℕ) where
  block_step : (t u : Tree) → OwnStep (own_rows F t (S k)) nothing_begun StatementList t u → OwnPart F S p (block_over k t) (block_over k u)
  block_step t u s = inl (record { number = k; before = t; after = u; step = s; shape = refl; written = refl })

  inner_step : (t u : Tree) → OwnStep (own_rows F t (S k)) nothing_begun p t u → OwnPart F S p (inner_over k t) (inner_over k u)
  inner_step t u s = inr (record { number = k; before = t; after = u; step = s; shape = refl; written = refl })

  block_rests : (t : Tree) → OwnRests (own_rows F t (S k)) nothing_begun StatementList t → PartRests F S p (block_over k t)
  block_rests t rests w (inl r) = rests r.after (subst (λ z. OwnStep (own_rows F z (S k)) nothing_begun StatementList z r.after) (sym (ap (λ z. part z 0) r.shape)) (subst (λ n. OwnStep (own_rows F r.before (S n)) nothing_begun StatementList r.before r.after) (sym (ap number_of r.shape)) r.step))
  block_rests t rests w (inr r) = cc (ap shape_of r.shape)

  inner_rests : (t : Tree) → OwnRests (own_rows F t (S k)) nothing_begun p t → PartRests F S p (inner_over k t)
  inner_rests t rests w (inl r) = cc (ap shape_of r.shape)
  inner_rests t rests w (inr r) = rests r.after (subst (λ z. OwnStep (own_rows F z (S k)) nothing_begun p z r.after) (sym (ap (λ z. part z 0) r.shape)) (subst (λ n. OwnStep (own_rows F r.before (S n)) nothing_begun p r.before r.after) (sym (ap number_of r.shape)) r.step))

  block_walked : (t u : Tree) (b : Bool) → OwnWalked (own_rows F t (S k)) nothing_begun StatementList t u b → AppliedInPart F S p (block_over k t) (block_over k u) b
  block_walked t u true s = several_known F keeps wide (S k) StatementList (OwnPart F S p) (block_over k) block_step t u s
  block_walked t u false (e, rests) = (ap (block_over k) e, block_rests t rests)

  inner_walked : (t u : Tree) (b : Bool) → OwnWalked (own_rows F t (S k)) nothing_begun p t u b → AppliedInPart F S p (inner_over k t) (inner_over k u) b
  inner_walked t u true s = several_known F keeps wide (S k) p (OwnPart F S p) (inner_over k) inner_step t u s
  inner_walked t u false (e, rests) = (ap (inner_over k) e, inner_rests t rests)

-- it has one part

one : (ts : Trees) → count ts ≡ 1 → ts ≡ child_or_absent ts 0 ▸ none
one none e = absurd (omega (arith, e))
one (a ▸ none) e = refl
one (a ▸ (b ▸ ts)) e = absurd (omega (arith, e))

part_is : (t : Tree) → is_part t ≡ true → (t ≡ block_over (number_of t) (part t 0)) ⊎ (t ≡ inner_over (number_of t) (part t 0))
part_is (node shape.StaticBlock [] n ts) e = inl (ap (node shape.StaticBlock [] n) (one ts (eqb-true (count ts) 1 e)))
part_is (node shape.InnerExpression [] n ts) e = inr (ap (node shape.InnerExpression [] n) (one ts (eqb-true (count ts) 1 e)))
part_is t e = absurd (false≢true e)

walked_over : (F : OwnRows) → KeepsEach F → ReadsMore F → (S : BodySets) (p : Position) (t u : Tree) (b : Bool) → (t ≡ block_over (number_of t) (part t 0)) ⊎ (t ≡ inner_over (number_of t) (part t 0)) → OwnWalked (own_rows F (part t 0) (S (number_of t))) nothing_begun (within p t) (part t 0) u b → AppliedInPart F S p t (with_children t (with_child (children t) 0 u)) b
walked_over F keeps wide S p t u b (inl e) s =
    subst (λ z. AppliedInPart F S p z (with_children z (with_child (children z) 0 u)) b) (sym e)
    (block_walked F keeps wide S p (number_of t) (part t 0) u b (subst (λ z. OwnWalked (own_rows F (part t 0) (S (number_of t))) nothing_begun (within p z) (part t 0) u b) e s))
walked_over F keeps wide S p t u b (inr e) s =
    subst (λ z. AppliedInPart F S p z (with_children z (with_child (children z) 0 u)) b) (sym e)
    (inner_walked F keeps wide S p (number_of t) (part t 0) u b (subst (λ z. OwnWalked (own_rows F (part t 0) (S (number_of t))) nothing_begun (within p z) (part t 0) u b) e s))

pub walked_part : (F : OwnRows) → KeepsEach F → ReadsMore F → (S : BodySets) (p : Position) (t u x : Tree) (q : Position) (c : BodyCode) (ts : Trees) (b : Bool) → is_part t ≡ true → q ≡ child_position (shape_of t) p 1 0 → c.number ≡ number_of t → c.declared.items ≡ declared_in (part t 0) → begun_by c ≡ nothing_begun → ts ≡ children t → x ≡ child_or_absent ts 0 → OwnWalked (rows_there F S c) (begun_by c) q x u b → AppliedInPart F S p t (with_children t (with_child ts 0 u)) b
walked_part F keeps wide S p t u x q c ts b f stands e d z these child s =
    let placed = subst (λ q. OwnWalked (rows_there F S c) (begun_by c) q x u b) stands s in
    let there = subst (λ z. OwnWalked (rows_there F S c) (begun_by c) (within p t) z u b) (child ∙ ap (λ vs. child_or_absent vs 0) these) placed in
    let inside = subst₂ (λ (K : Begun → Assured) (L : Begun). OwnWalked (λ M. F (K M)) L (within p t) (part t 0) u b) (all_known S c (number_of t) (part t 0) e d) z there in
    subst (λ vs. AppliedInPart F S p t (with_children t (with_child vs 0 u)) b) (sym these) (walked_over F keeps wide S p t u b (part_is t f) inside)

-- ---- as steps of the rule

moves : (F : OwnRows) (S : BodySets) (p : Position) (t u : Tree) → Several (OwnPart F S p) t u → Moves (OwnPart F S) p t u
moves F S p _ _ (once t u r) = moves_once (OwnPart F S) p t u r
moves F S p _ _ (again t u v s r) = moves_trans (OwnPart F S) (moves F S p t u s) (moves_once (OwnPart F S) p u v r)

pub part_applied : (F : OwnRows) (S : BodySets) (p : Position) (t u : Tree) (b : Bool) → AppliedInPart F S p t u b → Applied (OwnPart F S) (PartRests F S) p t u b
part_applied F S p t u true s = moves F S p t u s
part_applied F S p t u false (same, f) = (same, f)
