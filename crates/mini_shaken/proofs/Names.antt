-- Names stay through any number of programs.
use Rattle.std.proofs.Common.{◌≡◌, ℕ, ◌+◌, Bool, true, false, List, [], ◌∷◌, refl, sym, ap, ◌∙◌, true≢false, arith}
use Rattle.std.proofs.lemmas.Bool.{eqb-true, eq-eqb}
use Rattle.std.specs.Prelude.{nat_eq, if◌then◌else◌}
use Rattle.mini_model.specs.Tree.{Tree, Trees, node, children}
use Rattle.mini_accept.specs.WellShaped.{IsWellShaped}
use Rattle.mini_kept.specs.Carried.{numbers}
use Rattle.mini_kept.specs.KeepsNames.{count_of}
use Rattle.mini_kept.specs.Kept.{over}
use Rattle.mini_shrink.specs.SameForeign.{DeclaresOnce}
use Rattle.mini_dead.specs.Drops.{NumbersOnce, times_in, nothing_goes}
use Rattle.mini_dead.specs.KeptNames.{NamesStay}
use Rattle.mini_dead.proofs.KeptNames.{drops_keep_names}

turned : (m n : ℕ) → nat_eq m n ≡ nat_eq n m
turned m n = by (nat_eq m n) refl (nat_eq n m) refl
  where
    by : (b : Bool) → nat_eq m n ≡ b → (c : Bool) → nat_eq n m ≡ c → nat_eq m n ≡ nat_eq n m
    by true p true q = p ∙ sym q
    by false p false q = p ∙ sym q
    by true p false q = absurd (true≢false (sym (eq-eqb n m (sym (eqb-true m n p))) ∙ q))
    by false p true q = absurd (true≢false (sym (eq-eqb m n (sym (eqb-true n m q))) ∙ p))

pub same_times : (k : ℕ) (ns : List ℕ) → times_in k ns ≡ count_of k ns
same_times k [] = refl
same_times k (n ∷ ns) = ap (λ b. (if b then 1 else 0) + times_in k ns) (turned k n) ∙ ap (λ m. (if nat_eq n k then 1 else 0) + m) (same_times k ns)

-- of the same program
pub names_here : (t : Tree) → NamesStay t t
names_here t = drops_keep_names t t 0 (nothing_goes t)

over_twice : (t : Tree) (us vs : Trees) → over (over t us) vs ≡ over t vs
over_twice (node h xs n ts) us vs = refl

pub names_through : (t u v : Tree) → NamesStay t u → NamesStay u v → NamesStay t v
names_through t u v a b = record {
  keeps = record {
    shaped = λ e. b.keeps.shaped (a.keeps.shaped e);
    scoped = λ e s. b.keeps.scoped (a.keeps.shaped e) (a.keeps.scoped e s);
    distinct = λ e s d. b.keeps.distinct (a.keeps.shaped e) (a.keeps.scoped e s) (a.keeps.distinct e s d);
    symbols = λ e s x. let first = a.keeps.symbols e s x in let second = b.keeps.symbols (a.keeps.shaped e) (a.keeps.scoped e s) x in omega (arith, first, second);
    numbers = λ e k. let first = a.keeps.numbers e k in let second = b.keeps.numbers (a.keeps.shaped e) k in omega (arith, first, second);
    once = λ e o. b.keeps.once (a.keeps.shaped e) (a.keeps.once e o);
    targets = λ e o. b.keeps.targets (a.keeps.shaped e) (a.keeps.targets e o);
  };
  declares = λ x c. a.declares x (b.declares x c);
  root = b.root ∙ ap (λ r. over r (children v)) a.root ∙ over_twice t (children u) (children v);
}

pub names_still : (t u : Tree) → NamesStay t u → DeclaresOnce t → DeclaresOnce u
names_still t u k e = record { shaped = k.keeps.shaped e.shaped; scoped = k.keeps.scoped e.shaped e.scoped; distinct = k.keeps.distinct e.shaped e.scoped e.distinct; once = k.keeps.once e.shaped e.once }

pub numbers_still : (t u : Tree) → NamesStay t u → IsWellShaped t → NumbersOnce t → NumbersOnce u
numbers_still t u k e once n =
    let fewer = k.keeps.numbers e n in
    let before = same_times n (numbers t) in
    let after = same_times n (numbers u) in
    let first = once n in
    omega (arith, fewer, before, after, first)
