-- A tree that tells the same as another, in every setting, and nodes over them.
use Rattle.std.specs.Prelude.{ℕ, suc, ◌≡◌, nat_eq, Bool, true, false, ◌||◌, ◌&&◌, List, ◌∷◌, ◌++◌}
use Rattle.std.proofs.Common.{ap, ◌∙◌, inl, sym, true≢false}
use Rattle.mini_model.specs.declared.name.Name.{Name}
use Rattle.mini_model.specs.declared.place.Position.{Position}
use Rattle.mini_model.specs.declared.shape.Shape.{Shape}
use Rattle.mini_model.specs.Paths.{append}
use Rattle.mini_model.specs.Tree.{Tree, Trees, node, none, ◌▸◌}
use Rattle.mini_laws.specs.declared.names.Binding.{Binding}
use Rattle.mini_laws.specs.declared.names.Declared.TheVariants as declared
use Rattle.mini_laws.specs.DeclaredNames.{names_of, all_names}
use Rattle.mini_laws.specs.Foreign.{has_number, any_has_number}
use Rattle.mini_laws.specs.Resolved.{Environment}
use Rattle.mini_laws.specs.ScopeList.{any_has_eval, has_eval, is_eval_call, is_eval_callee}
use Rattle.mini_laws.specs.Scopes.{opened}
use Rattle.mini_laws.specs.Shared.{is_arguments, is_name_of_variable, is_of_function, names_arguments, any_names_arguments}
use Rattle.mini_shrink.specs.Facts.{Fact, question}
use Rattle.mini_shrink.specs.Pace.{followed, ends_after, in_turn, Setting, below, Question, pace, paces}
use Rattle.mini_shrink.proofs.Owns.{or_implied}
use Rattle.mini_shrink.proofs.Paces.{same}
use Rattle.mini_less.specs.Families.{LessAt}
use Rattle.mini_less.proofs.Shown.{shows_all}

-- a child of which the same is said, among others
module _ (q : Question) (t u : Tree) (said : (c : Setting) (env : Environment) → pace q c env u ≡ pace q c env t) (ends : (c : Setting) → q.ends c u ≡ q.ends c t) (after : Trees) where
  child_says : (sc : ℕ → List Binding) (cs : ℕ → Setting) (i : ℕ) (env : Environment) (before : Trees) → paces q sc cs i env (append before (u ▸ after)) ≡ paces q sc cs i env (append before (t ▸ after))
  unfolding pace
  child_says sc cs i env none = λ j. ends_after (ends (cs i) j) (said (cs i) (env ++ sc i) j) ∷ paces q sc cs (suc i) (env ++ sc i) after
  child_says sc cs i env (b ▸ before) = ap (λ ps. ends_after (q.ends (cs i) b) (pace q (cs i) (env ++ sc i) b) ∷ ps) (child_says sc cs (suc i) (env ++ sc i) before)

  -- so the node says the same, if it does itself
  pub node_says : (c : Setting) (env : Environment) (h : Shape) (xs : List Name) (n : ℕ) (before : Trees) → q.before c env h xs n (append before (u ▸ after)) ≡ q.before c env h xs n (append before (t ▸ after)) → q.orders c h (append before (u ▸ after)) ≡ q.orders c h (append before (t ▸ after))
      → ((i : ℕ) → opened c.used h (append before (u ▸ after)) i ≡ opened c.used h (append before (t ▸ after)) i) → pace q c env (node h xs n (append before (u ▸ after))) ≡ pace q c env (node h xs n (append before (t ▸ after)))
  unfolding pace
  node_says c env h xs n before e f g =
      (λ j. followed (e j) (in_turn h (paces q (λ i. g i j) (below (f j) c h n) 0 env (append before (u ▸ after)))))
      ∙ ap (λ ps. followed (q.before c env h xs n (append before (t ▸ after))) (in_turn h ps)) (child_says (opened c.used h (append before (t ▸ after))) (below (q.orders c h (append before (t ▸ after))) c h n) 0 env before)

-- ---- what the trees tell

pub record SameTold (t u : Tree) : Type 0 where
  pub said : (g : Fact) (b s : ℕ) (c : Setting) (env : Environment) → pace (question g b s) c env u ≡ pace (question g b s) c env t
  pub eval : has_eval u ≡ has_eval t
  pub arguments : names_arguments u ≡ names_arguments t
  pub number : (b : ℕ) → has_number b u ≡ true → has_number b t ≡ true

module _ (t u : Tree) (k : SameTold t u) (after : Trees) where
  pub same_evals : (before : Trees) → any_has_eval (append before (u ▸ after)) ≡ any_has_eval (append before (t ▸ after))
  unfolding has_eval
  same_evals none = ap (λ b. b || any_has_eval after) k.eval
  same_evals (d ▸ before) = ap (λ b. has_eval d || b) (same_evals before)

  same_names : (g : ℕ → Bool) (i : ℕ) (before : Trees) → any_names_arguments g i (append before (u ▸ after)) ≡ any_names_arguments g i (append before (t ▸ after))
  unfolding names_arguments
  same_names g i none = ap (λ b. (g i && b) || any_names_arguments g (suc i) after) k.arguments
  same_names g i (d ▸ before) = ap (λ b. (g i && names_arguments d) || b) (same_names g (suc i) before)

  no_number : (b : ℕ) (before : Trees) → any_has_number b (append before (u ▸ after)) ≡ true → any_has_number b (append before (t ▸ after)) ≡ true
  unfolding has_number
  no_number b none e = or_implied (has_number b u) (any_has_number b after) (has_number b t) (any_has_number b after) (k.number b) (λ i. i) e
  no_number b (d ▸ before) e = or_implied (has_number b d) (any_has_number b (append before (u ▸ after))) (has_number b d) (any_has_number b (append before (t ▸ after))) (λ i. i) (no_number b before) e

  pub same_bound : names_of declared.Bound u ≡ names_of declared.Bound t → (before : Trees) → all_names declared.Bound (append before (u ▸ after)) ≡ all_names declared.Bound (append before (t ▸ after))
  unfolding names_of
  same_bound e none = ap (λ xs. xs ++ all_names declared.Bound after) e
  same_bound e (d ▸ before) = ap (λ xs. names_of declared.Bound d ++ xs) (same_bound e before)

  -- a node over them
  pub over_told : (h : Shape) (xs : List Name) (n : ℕ) (before : Trees) → is_eval_call h (append before (u ▸ after)) ≡ is_eval_call h (append before (t ▸ after)) → ((g : Fact) (b s : ℕ) (c : Setting) (env : Environment) → pace (question g b s) c env (node h xs n (append before (u ▸ after))) ≡ pace (question g b s) c env (node h xs n (append before (t ▸ after)))) → SameTold (node h xs n (append before (t ▸ after))) (node h xs n (append before (u ▸ after)))
  unfolding has_eval names_arguments has_number
  over_told h xs n before e f = record {
    said = f;
    eval = λ j. e j || same_evals before j;
    arguments = ap (λ b. (is_name_of_variable h && is_arguments xs) || b) (same_names (is_of_function h) 0 before);
    number = λ b x. or_implied (nat_eq n b) (any_has_number b (append before (u ▸ after))) (nat_eq n b) (any_has_number b (append before (t ▸ after))) (λ i. i) (no_number b before) x;
  }

pub told_less : (p : Position) (n w t u : Tree) → n ≡ t → w ≡ u → SameTold t u → is_eval_callee u ≡ false → LessAt p n w
told_less p n w t u a b k f = record {
  asks = shows_all _ _ _ (λ i m r. record {
    by = λ strict slot o fit c env st sc.
        inl (same (pace (question i m r) c env w) (pace (question i m r) c env n) (ap (pace (question i m r) c env) b ∙ k.said i m r c env ∙ sym (ap (pace (question i m r) c env) a)));
  });
  fewer = λ strict slot o fit. record {
    eval = λ e. ap has_eval a ∙ sym k.eval ∙ sym (ap has_eval b) ∙ e;
    flags = record {
      arguments = λ e. ap names_arguments a ∙ sym k.arguments ∙ sym (ap names_arguments b) ∙ e;
      number = λ m e. ap (has_number m) a ∙ k.number m (sym (ap (has_number m) b) ∙ e);
    };
    callee = λ i e. absurd (true≢false (sym e ∙ ap is_eval_callee b ∙ f));
  };
}
