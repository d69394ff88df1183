-- The rewrites of branches and bodies are those of their rows, and always lighter.
use Rattle.std.proofs.Common.{◌≡◌, ℕ, Bool, true, false, refl, sym, ap, subst, ◌∙◌, inl, inr}
use Rattle.std.specs.Prelude.{Option, Some, None, is_some, unwrap_or, option_map, if◌then◌else◌}
use Rattle.std.proofs.lemmas.Bool.{false≢true}
use Rattle.mini_model.specs.declared.place.Position.TheVariants.{Stmt}
use Rattle.mini_model.specs.declared.seat.StmtSeat.{StmtSeat}
use Rattle.mini_model.specs.Tree.{Tree}
use Rattle.mini_rows.specs.Branches.{BodyRow}
use Rattle.mini_rows.proofs.BranchWeights.{branch_lighter}
use Rattle.mini_tree.specs.Rule.{Applied}
use Rattle.mini_tree.proofs.Reaching.{moves_once}
use Rattle.mini_logic.specs.UnwrapBlock as unwrap_block
use Rattle.mini_logic.specs.LastContinue as last_continue
use Rattle.mini_logic.specs.LastBreak as last_break
use Rattle.mini_logic.specs.MinimizeForStatement as for_statement
use Rattle.mini_logic.specs.MinimizeForStatement.{is_leaving_for, with_test}
use Rattle.mini_logic.specs.MinimizeBody.{first_of, once_written, loop_written, written, Gives, Rests}
use Rattle.mini_logic.proofs.UnwrapBlock as unwrap_law
use Rattle.mini_logic.proofs.LastContinue as continue_law
use Rattle.mini_logic.proofs.LastBreak as break_law
use Rattle.mini_logic.proofs.MinimizeForStatement as for_law

-- ---- one after the other

pub first_there : (o p : Option Tree) (t u : Tree) → true ≡ is_some o → u ≡ unwrap_or o t → u ≡ unwrap_or (first_of o p) t
first_there (Some x) p t u h e = e
first_there None p t u h e = absurd (false≢true (sym h))

pub first_said : (o p : Option Tree) → true ≡ is_some o → true ≡ is_some (first_of o p)
first_said (Some x) p h = refl
first_said None p h = absurd (false≢true (sym h))

nothing_there : (o : Option Tree) → false ≡ is_some o → o ≡ None
nothing_there (Some x) h = absurd (false≢true h)
nothing_there None h = refl

module _ (f g : Tree → Option Tree) where
  second_there : (t m u : Tree) → false ≡ is_some (f t) → m ≡ unwrap_or (f t) t → u ≡ unwrap_or (g m) m → u ≡ unwrap_or (first_of (f t) (g t)) t
  second_there t m u h e k =
      let missing = nothing_there (f t) h in
      let same : m ≡ t = e ∙ ap (λ o. unwrap_or o t) missing in
      k ∙ ap (λ x. unwrap_or (g x) x) same ∙ sym (ap (λ o. unwrap_or (first_of o (g t)) t) missing)

  second_said : (t m : Tree) (b : Bool) → false ≡ is_some (f t) → m ≡ unwrap_or (f t) t → b ≡ is_some (g m) → b ≡ is_some (first_of (f t) (g t))
  second_said t m b h e k =
      let missing = nothing_there (f t) h in
      let same : m ≡ t = e ∙ ap (λ o. unwrap_or o t) missing in
      k ∙ ap (λ x. is_some (g x)) same ∙ sym (ap (λ o. is_some (first_of o (g t))) missing)

pub once_there : (t m u : Tree) → false ≡ is_some (last_break.written t) → m ≡ unwrap_or (last_break.written t) t → u ≡ unwrap_or (for_statement.written m) m → u ≡ unwrap_or (once_written t) t
once_there t m u h e k = second_there last_break.written for_statement.written t m u h e k

pub once_said : (t m : Tree) (b : Bool) → false ≡ is_some (last_break.written t) → m ≡ unwrap_or (last_break.written t) t → b ≡ is_some (for_statement.written m) → b ≡ is_some (once_written t)
once_said t m b h e k = second_said last_break.written for_statement.written t m b h e k

pub loop_there : (t m u : Tree) → false ≡ is_some (last_continue.written t) → m ≡ unwrap_or (last_continue.written t) t → u ≡ unwrap_or (once_written m) m → u ≡ unwrap_or (loop_written t) t
loop_there t m u h e k = second_there last_continue.written once_written t m u h e k

pub loop_said : (t m : Tree) (b : Bool) → false ≡ is_some (last_continue.written t) → m ≡ unwrap_or (last_continue.written t) t → b ≡ is_some (once_written m) → b ≡ is_some (loop_written t)
loop_said t m b h e k = second_said last_continue.written once_written t m b h e k

pub body_there : (t m u : Tree) → false ≡ is_some (unwrap_block.written t) → m ≡ unwrap_or (unwrap_block.written t) t → u ≡ unwrap_or (loop_written m) m → u ≡ unwrap_or (written t) t
body_there t m u h e k = second_there unwrap_block.written loop_written t m u h e k

pub body_said : (t m : Tree) (b : Bool) → false ≡ is_some (unwrap_block.written t) → m ≡ unwrap_or (unwrap_block.written t) t → b ≡ is_some (loop_written m) → b ≡ is_some (written t)
body_said t m b h e k = second_said unwrap_block.written loop_written t m b h e k

-- ---- the rule

pub applied : (q : StmtSeat) (t u : Tree) (b : Bool) → u ≡ unwrap_or (written t) t → b ≡ is_some (written t) → Applied Gives Rests (Stmt q) t u b
applied q t u b e f = subst (λ v. Applied Gives Rests (Stmt q) t v b) (sym e) (subst (Applied Gives Rests (Stmt q) t (unwrap_or (written t) t)) (sym f) (go (unwrap_block.place t) (last_continue.place t) (last_break.is_read t) (is_leaving_for t) refl refl refl refl))
  where
    once : (w : Tree) → BodyRow t w → Applied Gives Rests (Stmt q) t w true
    once w row = moves_once Gives (Stmt q) t w (row, branch_lighter (Stmt q) t w (inr (inl row)))

    none : unwrap_block.place t ≡ None → last_continue.place t ≡ None → last_break.is_read t ≡ false → is_leaving_for t ≡ false → (w : Tree) → BodyRow t w → ⊥
    none h k l m w (inl r) = unwrap_law.misses t w h r
    none h k l m w (inr (inl r)) = continue_law.misses t w k r
    none h k l m w (inr (inr (inl r))) = break_law.misses t w l r
    none h k l m w (inr (inr (inr r))) = for_law.misses t w m r

    made : Option ℕ → Option ℕ → Bool → Bool → Option Tree
    made o p a c = first_of (option_map (unwrap_block.unwrapped_at t) o) (first_of (option_map (last_continue.left_at t) p) (first_of (if a then Some (last_break.left_in t) else None) (if c then Some (with_test t) else None)))

    go : (o p : Option ℕ) (a c : Bool) → unwrap_block.place t ≡ o → last_continue.place t ≡ p → last_break.is_read t ≡ a → is_leaving_for t ≡ c → Applied Gives Rests (Stmt q) t (unwrap_or (made o p a c) t) (is_some (made o p a c))
    go (Some i) p a c h k l m = once (unwrap_block.unwrapped_at t i) (inl (unwrap_law.row_at t i h))
    go None (Some i) a c h k l m = once (last_continue.left_at t i) (inr (inl (continue_law.row_at t i k)))
    go None None true c h k l m = once (last_break.left_in t) (inr (inr (inl (break_law.row_of t l))))
    go None None false true h k l m = once (with_test t) (inr (inr (inr (for_law.row_of t m))))
    go None None false false h k l m = (refl, none h k l m)
