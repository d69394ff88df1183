-- Passes one after another.
use Rattle.std.proofs.Common.{◌≡◌, ℕ, suc, ◌+◌, ◌<◌, ◌≤◌, Bool, true, false, refl, sym, ap, ◌∙◌, subst, arith}
use Rattle.std.specs.Prelude.{max}
use Rattle.mini_model.specs.Tree.{Tree}
use Rattle.mini_model.specs.declared.place.Position.{Position}
use Rattle.mini_model.specs.declared.place.Position.TheVariants.{Elsewhere}
use Rattle.mini_model.specs.Weight.{weight}
use Rattle.mini_model.specs.Rewriting.{Reaches, done, Everywhere}
use Rattle.mini_tree.specs.Rule.{IsLighter}
use Rattle.mini_tree.specs.Walk.{Walked}
use Rattle.mini_tree.specs.Passes.{PassesReach, no_pass, one_more, MakesPasses}
use Rattle.mini_tree.proofs.Reaching.{moves_reach, moves_lighter}

module _ (G : Tree → Position → Tree → Tree → Type 0) (D : Tree → Position → Tree → Type 0) where
  -- before the pass with this number, from 1 on: each earlier one changed something
  pub record SoFar (t u : Tree) (pass : ℕ) : Type 0 where
    pub before : ℕ
    pub counted : suc before ≡ pass
    pub reached : PassesReach G before t u
    pub lighter : weight Elsewhere u + before ≤ weight Elsewhere t
    pub unchanged : before ≡ 0 → u ≡ t

  pub so_far_none : (t : Tree) → SoFar t t 1
  so_far_none t = record { before = 0; counted = refl; reached = no_pass t; lighter = omega arith; unchanged = λ e. refl }

  one_lighter : (u v : Tree) (b : Bool) → IsLighter (G u) → Walked (G u) (D u) Elsewhere u v b → b ≡ true → weight Elsewhere v < weight Elsewhere u
  one_lighter u v true l m e = moves_lighter (G u) l m
  one_lighter u v false l m e = absurd (cc e)

  one_reached : (u v : Tree) (b : Bool) → Walked (G u) (D u) Elsewhere u v b → Reaches (G u) Elsewhere u v
  one_reached u v true m = moves_reach (G u) m
  one_reached u v false m = subst (Reaches (G u) Elsewhere u) (sym m.0) (done Elsewhere u)

  passes_reach : (t u v : Tree) (n : ℕ) (b : Bool) (s : SoFar t u n) → Walked (G u) (D u) Elsewhere u v b → PassesReach G n t v
  passes_reach t u v n b s m = subst (λ k. PassesReach G k t v) s.counted (one_more s.before t u v s.reached (one_reached u v b m))

  pub so_far_more : (t u v : Tree) (n : ℕ) (b : Bool) → IsLighter (G u) → SoFar t u n → Walked (G u) (D u) Elsewhere u v b → b ≡ true → SoFar t v (n + 1)
  so_far_more t u v n b l s m e =
      let so = s.lighter in
      let less = one_lighter u v b l m e in
      let count = s.counted in record {
        before = n;
        counted = omega arith;
        reached = passes_reach t u v n b s m;
        lighter = omega (arith, so, less, count);
        unchanged = λ z. absurd (omega (arith, z, count));
      }

  pub settled_passes : (t u v : Tree) (n bound : ℕ) (b : Bool) → SoFar t u n → n ≤ max bound 1 → Walked (G u) (D u) Elsewhere u v b → b ≡ false → MakesPasses G D t v bound n true
  settled_passes t u v n bound true s k m e = absurd (cc e)
  settled_passes t u v n bound false s k m e =
      let so = s.lighter in
      let count = s.counted in
      let same = ap (weight Elsewhere) m.0 in record {
        reached = passes_reach t u v n false s m;
        some_pass = omega (arith, count);
        within = k;
        lighter = omega (arith, so, same, count);
        at_once = λ z one. m.0 ∙ s.unchanged (omega (arith, one, count));
        ended = λ z. subst (λ w. Everywhere (D w) Elsewhere w) (sym m.0) m.1;
        stopped = λ z. absurd (cc z);
        last = λ z. absurd (cc z);
      }

  pub stopped_passes : (t u v : Tree) (n bound : ℕ) (b : Bool) → IsLighter (G u) → SoFar t u n → n ≤ max bound 1 → max bound 1 ≤ n → Walked (G u) (D u) Elsewhere u v b → b ≡ true → MakesPasses G D t v bound n false
  stopped_passes t u v n bound b l s k h m e =
      let so = s.lighter in
      let less = one_lighter u v b l m e in
      let count = s.counted in record {
        reached = passes_reach t u v n b s m;
        some_pass = omega (arith, count);
        within = k;
        lighter = omega (arith, so, less, count);
        at_once = λ z. absurd (cc z);
        ended = λ z. absurd (cc z);
        stopped = λ z. (omega (arith, k, h), omega (arith, so, less, count));
        last = λ z. (u, (s.before, s.reached), omega (arith, so, count), less);
      }
