-- Turns, one after another.
use Rattle.std.proofs.Common.{◌≡◌, ℕ, zero, suc, ◌+◌, ◌<◌, ◌≤◌, max, Bool, true, false, refl, sym, ap, ◌∙◌, subst, arith}
use Rattle.std.specs.Prelude.{nat_lt}
use Rattle.mini_model.specs.declared.place.Position.TheVariants.{Elsewhere}
use Rattle.mini_model.specs.Tree.{Tree}
use Rattle.mini_model.specs.Rewriting.{Reaches, done}
use Rattle.mini_model.specs.Weight.{program_weight}
use Rattle.mini_shrink.specs.SameForeign.{DeclaresOnce}
use Rattle.mini_tree.specs.Walk.{Walked}
use Rattle.mini_tree.specs.declared.options.CompressOptions.{CompressOptions}
use Rattle.mini_tree.proofs.Reaching.{moves_reach}
use Rattle.mini_dead.specs.Dead.{dead_count}
use Rattle.mini_dead.specs.Drops.{DropsAgain}
use Rattle.mini_drop.proofs.Losing.{positive, not_positive}
use Rattle.mini_peephole.specs.Rules.{AllGives, AllRests}
use Rattle.mini_shaken.specs.Chain.{Chain, no_link, a_loss, a_pass}
use Rattle.mini_shaken.specs.Shaking.{LosesDead, IsPass, IsAtRest, Turns, Shakes}
use Rattle.mini_shaken.proofs.Lighter.{drops_lighter}
use Rattle.mini_shaken.proofs.Links.{lost_names, pass_names}
use Rattle.mini_shaken.proofs.Names.{names_still}

module _ (o : CompressOptions) where
  -- ---- one turn

  -- a pass that finds nothing
  idle : (t u : Tree) → u ≡ t → IsPass o t u
  idle t u e = record { steps = subst (Reaches (AllGives o t) Elsewhere t) (sym e) (done Elsewhere t); weight = let same = ap program_weight e in omega (arith, same) }

  pub turn_changes : (t u : Tree) (b : Bool) → Walked (AllGives o t) (AllRests o t) Elsewhere t u b → (b ≡ true → program_weight u < program_weight t) → b ≡ true → Turns o t u true
  turn_changes t u true w f e = let less = f e in (a_pass 0 t t u (no_link t) (record { steps = moves_reach (AllGives o t) w; weight = omega (arith, less) }), less)
  turn_changes t u false w f e = absurd (cc e)

  pub unchanged : (t u : Tree) (b : Bool) → Walked (AllGives o t) (AllRests o t) Elsewhere t u b → b ≡ false → (u ≡ t) × IsAtRest o t
  unchanged t u true w e = absurd (cc e)
  unchanged t u false w e = w

  pub turn_drops : (t u v : Tree) (gone : ℕ) → (u ≡ t) × IsAtRest o t → DropsAgain u v gone → (gone ≡ 0 → v ≡ u) → dead_count v ≡ 0 → Turns o t v (nat_lt 0 gone)
  turn_drops t u v gone (same, rests) d stays none = by (nat_lt 0 gone) refl
    where
      by : (b : Bool) → nat_lt 0 gone ≡ b → Turns o t v b
      by true e =
          let falls = drops_lighter u v gone d in
          let before = ap program_weight same in
          let some = positive gone e in
          (a_loss 1 t u v (a_pass 0 t t u (no_link t) (idle t u same)) (gone, d), omega (arith, falls, before, some))
      by false e = let still = stays (not_positive gone e) ∙ same in (still, subst (IsAtRest o) (sym still) rests, none)

  -- ---- chains

  pub chain_once : (n : ℕ) (t u : Tree) → Chain LosesDead (IsPass o) n t u → DeclaresOnce t → DeclaresOnce u
  chain_once _ _ _ (no_link t) e = e
  chain_once _ _ _ (a_loss n t u v c w) e = names_still u v (lost_names u v w) (chain_once n t u c e)
  chain_once _ _ _ (a_pass n t u v c p) e = let there = chain_once n t u c e in names_still u v (pass_names o u v there p) there

  pub turn_once : (t u : Tree) (b : Bool) → Turns o t u b → DeclaresOnce t → DeclaresOnce u
  turn_once t u true w e = chain_once 1 t u w.0 e
  turn_once t u false w e = subst DeclaresOnce (sym w.0) e

  chain_then : (m n k : ℕ) (t u v : Tree) → Chain LosesDead (IsPass o) m t u → Chain LosesDead (IsPass o) n u v → k ≡ n + m → Chain LosesDead (IsPass o) k t v
  chain_then m _ k t _ _ c (no_link u) e = subst (λ j. Chain LosesDead (IsPass o) j t u) (omega (arith, e)) c
  chain_then m _ k t _ _ c (a_loss n u v w d l) e = a_loss k t v w (chain_then m n k t u v c d e) l
  chain_then m _ zero t _ _ c (a_pass n u v w d p) e = absurd (omega (arith, e))
  chain_then m _ (suc k) t _ _ c (a_pass n u v w d p) e = a_pass k t v w (chain_then m n k t u v c d (omega (arith, e))) p

  -- ---- before the turn with this number, from 1 on: each earlier one changed something

  pub record SoFar (t u : Tree) (turn : ℕ) : Type 0 where
    pub before : ℕ
    pub counted : suc before ≡ turn
    pub links : Chain LosesDead (IsPass o) before t u
    pub lighter : program_weight u + before ≤ program_weight t
    pub once : DeclaresOnce u

  pub so_far_first : (t u : Tree) (n : ℕ) → DeclaresOnce t → DropsAgain t u n → SoFar t u 1
  so_far_first t u n e d =
      let falls = drops_lighter t u n d in
      record { before = 0; counted = refl; links = a_loss 0 t t u (no_link t) (n, d); lighter = omega (arith, falls); once = names_still t u (lost_names t u (n, d)) e }

  pub so_far_more : (t u v : Tree) (n : ℕ) (b : Bool) → SoFar t u n → Turns o u v b → b ≡ true → SoFar t v (n + 1)
  so_far_more t u v n true s w e =
      let count = s.counted in
      let so = s.lighter in
      let less = w.1 in
      record {
        before = n;
        counted = omega arith;
        links = chain_then s.before 1 n t u v s.links w.0 (omega (arith, count));
        lighter = omega (arith, so, less, count);
        once = chain_once 1 u v w.0 s.once;
      }
  so_far_more t u v n false s w e = absurd (cc e)

  pub settled_shakes : (t u v : Tree) (n bound : ℕ) (b : Bool) → SoFar t u n → n ≤ max bound 1 → Turns o u v b → b ≡ false → Shakes o t v bound n true
  settled_shakes t u v n bound true s k w e = absurd (cc e)
  settled_shakes t u v n bound false s k (same, rests, none) e =
      let count = s.counted in
      let so = s.lighter in
      let weighs = ap program_weight same in
      record {
        links = subst (λ j. Chain LosesDead (IsPass o) j t v) count (a_pass s.before t u v s.links (idle u v same));
        some_pass = omega (arith, count);
        within = k;
        lighter = omega (arith, so, weighs, count);
        none_dead = none;
        ended = λ z. rests;
        stopped = λ z. absurd (cc z);
      }

  pub stopped_shakes : (t u v w : Tree) (n bound gone : ℕ) (b : Bool) → SoFar t u n → n ≤ max bound 1 → max bound 1 ≤ n → Turns o u v b → b ≡ true → DropsAgain v w gone → dead_count w ≡ 0 → Shakes o t w bound n false
  stopped_shakes t u v w n bound gone true s k h turns e d none =
      let count = s.counted in
      let so = s.lighter in
      let less = turns.1 in
      let falls = drops_lighter v w gone d in
      record {
        links = a_loss n t v w (chain_then s.before 1 n t u v s.links turns.0 (omega (arith, count))) (gone, d);
        some_pass = omega (arith, count);
        within = k;
        lighter = omega (arith, so, less, falls, count);
        none_dead = none;
        ended = λ z. absurd (cc z);
        stopped = λ z. (omega (arith, k, h), omega (arith, so, less, falls, count));
      }
  stopped_shakes t u v w n bound gone false s k h turns e d none = absurd (cc e)
