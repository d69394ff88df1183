-- Rows over what is known of a body read a node that is read again.
use Rattle.mini_again.proofs.IdleAgain.{idle_row_again, idle_statement_again}
use Rattle.mini_again.proofs.MembersAgain.{member_row_again}
use Rattle.mini_again.proofs.PastAgain.{is_symbol_again}
use Rattle.mini_again.proofs.StillAgain.{still_row_again}
use Rattle.mini_again.specs.Again.{Renaming, again, all_again, assured_with_others}
use Rattle.mini_kept.specs.Without.{Assured}
use Rattle.mini_laws.specs.Renaming.{rename_name}
use Rattle.mini_model.specs.Tree.{Tree, Trees, node, none, ◌▸◌}
use Rattle.mini_model.specs.declared.name.Name.{Name}
use Rattle.mini_model.specs.declared.place.Position.{Position}
use Rattle.mini_model.specs.declared.place.Position.TheVariants.{Expr, Stmt}
use Rattle.mini_rows.specs.Editions.{SteadyIn, SteadyRowsIn}
use Rattle.mini_rows.specs.Steady.{SteadyRow, all_bindings, bindings, times_named}
use Rattle.std.proofs.Common.{inl, inr}
use Rattle.std.specs.Prelude.{List, [], map, refl, ℕ, ◌∷◌, ◌≡◌}

pub steady_row_again : (ρ : Renaming) (V : Assured) (p : Position) (n w : Tree) → SteadyRow (assured_with_others ρ V) p n w → SteadyRow V p (again ρ n) (again ρ w)
steady_row_again ρ V (Expr s) n w (inl r) = inl (member_row_again ρ V s n w r)
steady_row_again ρ V (Expr s) n w (inr (inl r)) = inr (inl (idle_row_again ρ V s n w r))
steady_row_again ρ V (Expr s) n w (inr (inr r)) = inr (inr (still_row_again ρ V s n w r))
steady_row_again ρ V (Stmt q) n w r = idle_statement_again ρ V n w r
steady_row_again ρ V p1 n w r = absurd r

-- so do those that an edition has
steady_in_again : (e : ℕ) (ρ : Renaming) (V : Assured) (p : Position) (n w : Tree) (r : SteadyRow (assured_with_others ρ V) p n w) → SteadyIn e (assured_with_others ρ V) p n w r → SteadyIn e V p (again ρ n) (again ρ w) (steady_row_again ρ V p n w r)
unfolding steady_row_again member_row_again
steady_in_again e ρ V (Expr s) n w (inl (inl r)) a = a
steady_in_again e ρ V (Expr s) n w (inl (inr (inl r))) a = a
steady_in_again e ρ V (Expr s) n w (inl (inr (inr (inl r)))) a = tt
steady_in_again e ρ V (Expr s) n w (inl (inr (inr (inr r)))) a = tt
steady_in_again e ρ V (Expr s) n w (inr (inl r)) a = tt
steady_in_again e ρ V (Expr s) n w (inr (inr r)) a = tt
steady_in_again e ρ V p n w r a = tt

pub steady_rows_again : (e : ℕ) (ρ : Renaming) (V : Assured) (p : Position) (n w : Tree) → SteadyRowsIn e (assured_with_others ρ V) p n w → SteadyRowsIn e V p (again ρ n) (again ρ w)
steady_rows_again e ρ V p n w r = (steady_row_again ρ V p n w r.0, steady_in_again e ρ V p n w r.0 r.1)

pub times_named_again : (ρ : Renaming) (k : ℕ) (xs : List Name) → times_named (ρ.symbol k) (map (rename_name ρ.symbol) xs) ≡ times_named k xs
times_named_again ρ k [] = refl
times_named_again ρ k (x ∷ xs) = simp (is_symbol_again ρ k x.symbol, times_named_again ρ k xs)

mutual
  pub all_bindings_again : (ρ : Renaming) (k : ℕ) (ts : Trees) → all_bindings (ρ.symbol k) (all_again ρ ts) ≡ all_bindings k ts
  all_bindings_again ρ k none = refl
  all_bindings_again ρ k (t ▸ ts) = simp (bindings_again ρ k t, all_bindings_again ρ k ts)

  pub bindings_again : (ρ : Renaming) (k : ℕ) (t : Tree) → bindings (ρ.symbol k) (again ρ t) ≡ bindings k t
  bindings_again ρ k (node h xs n ts) = simp (times_named_again ρ k xs, all_bindings_again ρ k ts)
