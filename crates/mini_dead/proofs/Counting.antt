-- Counts of references, once items are gone.
use Rattle.std.proofs.Common.{◌≡◌, ℕ, suc, Bool, List, [], ◌∷◌, ◌++◌, refl, sym, ap, ◌∙◌, subst, subst₂, inl, inr, arith}
use Rattle.std.specs.Prelude.{◌+◌, ◌⊎◌, cond, ◌&&◌}
use Rattle.std.proofs.lemmas.List.Sums.{sum_by-append}
use Rattle.mini_model.specs.declared.kind.VariableDeclarationKind.{VariableDeclarationKind}
use Rattle.mini_model.specs.declared.kind.VariableDeclarationKind.TheVariants.{Var}
use Rattle.mini_model.specs.declared.shape.Shape.{Shape}
use Rattle.mini_model.specs.declared.shape.Shape.TheVariants as shape
use Rattle.mini_model.specs.Tree.{Tree, node, ◌▸◌}
use Rattle.mini_laws.specs.declared.names.Use.{Use}
use Rattle.mini_laws.specs.declared.names.Use.TheVariants.{Read}
use Rattle.mini_laws.specs.Value.{VariableSet}
use Rattle.mini_laws.specs.Scopes.{use_of, hoisted_by}
use Rattle.mini_laws.specs.References.{Reference, has_symbol, reads, writes, own_references, references, references_from}
use Rattle.mini_laws.specs.Counts.{times_of}
use Rattle.mini_dead.specs.Pruned.{Spot, Elsewhere, Role, role, spot_below, Declarator, declarator, declarator_tree, declarator_trees, Item, function_item, declaration_item, lone_item, item_tree, Pruned, prune, Prunings, end, stays, goes, declarator_goes, earlier, earlier_all, later, later_all, HoldsItems, HoldsDeclarators}
use Rattle.mini_dead.specs.Drops.{item_count, gone, gone_count, all_gone_count, DropsDead, AllDropDead, Drops, nothing_goes, more_goes}
use Rattle.mini_dead.specs.Counting as law
use Rattle.mini_dead.specs.Counting.{gone_references, all_gone_references, CountsFall}

-- ---- what goes refers to names alike, however its list is used

declarator_alike : (u v : Use) (c : Declarator) → references u (declarator_tree c) ≡ references v (declarator_tree c)
unfolding references
declarator_alike u v (declarator n x m init) = refl

declarators_alike : (u v : Use) (i j : ℕ) (cs : List Declarator) → references_from (λ i. u) i (declarator_trees cs) ≡ references_from (λ i. v) j (declarator_trees cs)
unfolding references
declarators_alike u v i j [] = refl
declarators_alike u v i j (c ∷ cs) = ap (λ rs. rs ++ references_from (λ i. u) (suc i) (declarator_trees cs)) (declarator_alike u v c) ∙ ap (λ rs. references v (declarator_tree c) ++ rs) (declarators_alike u v (suc i) (suc j) cs)

item_alike : (u v : Use) (i : Item) → references u (item_tree i) ≡ references v (item_tree i)
unfolding references
item_alike u v (function_item g ds xs n x m ts) = refl
item_alike u v (declaration_item Var xs n ys m c cs) = ap (λ rs. rs ++ []) (declarators_alike (hoisted_by u) (hoisted_by v) 0 0 (c ∷ cs))
item_alike u v (declaration_item k xs n ys m c cs) = refl
item_alike u v (lone_item xs n f) = refl

-- ---- counts

module _ (p : Use → Bool) (s : ℕ) where
  times : List Reference → ℕ
  times rs = times_of p s rs

  times_both : (rs qs : List Reference) → times_of p s (rs ++ qs) ≡ times_of p s rs + times_of p s qs
  times_both rs qs = sum_by-append (λ r. cond (p r.used && has_symbol s r.name.symbol) 1 0) rs qs

  moved : (us : ℕ → Use) (i j : ℕ) → (i ≡ j) ⊎ ((i j : ℕ) → us i ≡ us j) → us i ≡ us j
  moved us i j (inl e) = ap us e
  moved us i j (inr f) = f i j

  next : (us : ℕ → Use) (i j : ℕ) → (i ≡ j) ⊎ ((i j : ℕ) → us i ≡ us j) → (suc i ≡ suc j) ⊎ ((i j : ℕ) → us i ≡ us j)
  next us i j (inl e) = inl (ap suc e)
  next us i j (inr f) = inr f

  items_at : (h : Shape) (q : Spot) (u : Use) → HoldsItems (role h q) → (i j : ℕ) → use_of h u i ≡ use_of h u j
  items_at shape.Listed q u a i j = refl
  items_at (shape.VariableDeclaration k) q u a i j = absurd (no k q a)
    where
      no : (k : VariableDeclarationKind) (q : Spot) → HoldsItems (role (shape.VariableDeclaration k) q) → ⊥
      no k Spot.AStatement a = a
      no k q a = a
  items_at shape.SwitchCase q u a i j = refl
  items_at h q u a i j = absurd a

  declarators_at : (h : Shape) (q : Spot) (u : Use) → HoldsDeclarators (role h q) → (i j : ℕ) → use_of h u i ≡ use_of h u j
  declarators_at shape.Listed q u a i j = refl
  declarators_at (shape.VariableDeclaration k) q u a i j = absurd (no k q a)
    where
      no : (k : VariableDeclarationKind) (q : Spot) → HoldsDeclarators (role (shape.VariableDeclaration k) q) → ⊥
      no k Spot.AStatement a = a
      no k q a = a
  declarators_at shape.SwitchCase q u a i j = refl
  declarators_at h q u a i j = absurd a

  module _ (t : Tree) (D : VariableSet) (rounds : ℕ → ℕ) where
    mutual
      unfolding references

      falls : (u : Use) (q : Spot) (x : Pruned) → DropsDead t D rounds q x → times_of p s (references u (earlier x)) ≡ times_of p s (references u (later x)) + times_of p s (gone_references x)
      falls u q (prune h xs n ps) a =
          omega (
            arith,
            times_both (own_references u h xs) (references_from (use_of h u) 0 (earlier_all ps)),
            times_both (own_references u h xs) (references_from (use_of h u) 0 (later_all ps)),
            all_fall (role h q) (use_of h u) (items_at h q u) (declarators_at h q u) 0 0 (inl refl) ps a.1,
          )

      all_fall : (r : Role) (us : ℕ → Use) → (HoldsItems r → (i j : ℕ) → us i ≡ us j) → (HoldsDeclarators r → (i j : ℕ) → us i ≡ us j) → (i j : ℕ) → (i ≡ j) ⊎ ((i j : ℕ) → us i ≡ us j) → (ps : Prunings) → AllDropDead t D rounds r i ps → times_of p s (references_from us i (earlier_all ps)) ≡ times_of p s (references_from us j (later_all ps)) + times_of p s (all_gone_references ps)
      all_fall r us f g i j m end a = refl
      all_fall r us f g i j m (stays x ps) a =
          omega (
            arith,
            times_both (references (us i) (earlier x)) (references_from us (suc i) (earlier_all ps)),
            times_both (references (us j) (later x)) (references_from us (suc j) (later_all ps)),
            times_both (gone_references x) (all_gone_references ps),
            falls (us i) (spot_below r i) x a.0,
            ap (λ u. times_of p s (references u (later x))) (moved us i j m),
            all_fall r us f g (suc i) (suc j) (next us i j m) ps a.1,
          )
      all_fall r us f g i j m (goes c ps) a =
          omega (arith, times_both (references (us i) (item_tree c)) (references_from us (suc i) (earlier_all ps)), times_both (references Read (item_tree c)) (all_gone_references ps), ap (λ rs. times_of p s rs) (item_alike (us i) Read c), all_fall r us f g (suc i) j (inr (f a.0)) ps a.2)
      all_fall r us f g i j m (declarator_goes c ps) a =
          omega (arith, times_both (references (us i) (declarator_tree c)) (references_from us (suc i) (earlier_all ps)), times_both (references Read (declarator_tree c)) (all_gone_references ps), ap (λ rs. times_of p s rs) (declarator_alike (us i) Read c), all_fall r us f g (suc i) j (inr (g a.0)) ps a.2)

of_pruned : (x : Pruned) (rounds : ℕ → ℕ) → DropsDead (earlier x) (gone x) rounds Elsewhere x → (s : ℕ) → CountsFall (earlier x) (later x) x s
of_pruned x rounds a s = record { reads = falls reads s (earlier x) (gone x) rounds Read Elsewhere x a; writes = falls writes s (earlier x) (gone x) rounds Read Elsewhere x a }

pub drops_count : law.DropsCount
drops_count t u n w s = subst₂ (λ t u. CountsFall t u w.pruned s) w.before w.after (of_pruned w.pruned w.rounds (subst (λ t. DropsDead t (gone w.pruned) w.rounds Elsewhere w.pruned) (sym w.before) w.dead) s)

-- ---- no item

one_at_least : (i : Item) → item_count i ≡ 0 → ⊥
one_at_least (function_item g ds xs n x m ts) e = omega (arith, e)
one_at_least (declaration_item k xs n ys m c cs) e = omega (arith, e)
one_at_least (lone_item xs n f) e = omega (arith, e)

mutual
  unchanged : (x : Pruned) → gone_count x ≡ 0 → later x ≡ earlier x
  unchanged (prune h xs n ps) e = ap (node h xs n) (all_unchanged ps e)

  all_unchanged : (ps : Prunings) → all_gone_count ps ≡ 0 → later_all ps ≡ earlier_all ps
  all_unchanged end e = refl
  all_unchanged (stays x ps) e = ap (λ t. t ▸ later_all ps) (unchanged x (omega (arith, e))) ∙ ap (λ ts. earlier x ▸ ts) (all_unchanged ps (omega (arith, e)))
  all_unchanged (goes i ps) e = absurd (one_at_least i (omega (arith, e)))
  all_unchanged (declarator_goes c ps) e = absurd (omega (arith, e))

once_unchanged : (t u : Tree) (n : ℕ) → Drops t u n → n ≡ 0 → u ≡ t
once_unchanged t u n w e = sym w.after ∙ unchanged w.pruned (w.number ∙ e) ∙ w.before

pub none_goes : law.NoneGoes
none_goes _ _ _ (nothing_goes t) e = refl
none_goes _ _ _ (more_goes t u v m n w s) e = once_unchanged u v n s (omega (arith, e)) ∙ none_goes t u m w (omega (arith, e))
