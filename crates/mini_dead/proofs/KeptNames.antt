-- The names of a program from which dead items go.
use Rattle.std.proofs.Common.{◌≡◌, ℕ, Bool, true, false, List, [], ◌∷◌, refl, sym, ap, ◌∙◌, subst, subst₂, true≢false, eqb-true, eq-eqb, inl, inr, arith}
use Rattle.std.specs.Prelude.{◌+◌, ◌≤◌, nat_eq, Contains, if◌then◌else◌}
use Rattle.std.proofs.lemmas.List.Elements.{Contains-append_left, Contains-append_right, Contains-append_cases}
use Rattle.mini_model.specs.declared.name.Name.{Name}
use Rattle.mini_model.specs.Tree.{Tree, Trees, node, children}
use Rattle.mini_accept.specs.WellShaped.{IsWellShaped, one, a_program}
use Rattle.mini_laws.specs.declared.names.Use.TheVariants.{Read}
use Rattle.mini_laws.specs.Early.{no_targets}
use Rattle.mini_laws.specs.Scoped.{Scoped}
use Rattle.mini_laws.specs.Value.{Global}
use Rattle.mini_laws.specs.Congruence.{Avoids}
use Rattle.mini_kept.specs.Carried.{numbers}
use Rattle.mini_kept.specs.Declaring.{declared_by, declared, declared_all}
use Rattle.mini_kept.specs.Kept.{over}
use Rattle.mini_kept.specs.KeepsNames.{count_of}
use Rattle.mini_kept.specs.Lifted.{ProgramKeeps}
use Rattle.mini_dead.specs.Pruned.{Elsewhere, Pruned, prune, Prunings, end, stays, goes, declarator_goes, earlier, earlier_all, later, later_all, item_tree, declarator_tree}
use Rattle.mini_dead.specs.Drops.{gone_names, gone, DropsDead, times_in, Drops, nothing_goes, more_goes}
use Rattle.mini_dead.specs.KeptNames as law
use Rattle.mini_dead.specs.KeptNames.{NamesStay}
use Rattle.mini_dead.proofs.Dropping.{named, each_name, known, names_known}
use Rattle.mini_dead.proofs.Numbers.{fewer}
use Rattle.mini_dead.proofs.Parameters.{fits_params}
use Rattle.mini_dead.proofs.Shapes.{drops_keep_shape}
use Rattle.mini_dead.proofs.Sparing.{Tidy, tidy}
use Rattle.mini_dead.proofs.StillLegal.{names_still, jumps_still}
use Rattle.mini_dead.proofs.StillScoped.{StillScoped, still_scoped}

-- ---- declared names

mutual
  declared_still : (p : Pruned) (x : Name) → Contains (declared (later p)) x → Contains (declared (earlier p)) x
  declared_still (prune h xs n ps) x c = elim (Contains-append_cases (declared_by h xs) (declared_all (later_all ps)) x c) [
    | inl a ↦ Contains-append_left (declared_by h xs) (declared_all (earlier_all ps)) x a
    | inr b ↦ Contains-append_right (declared_by h xs) (declared_all (earlier_all ps)) x (all_declared_still ps x b)
  ]

  all_declared_still : (ps : Prunings) (x : Name) → Contains (declared_all (later_all ps)) x → Contains (declared_all (earlier_all ps)) x
  all_declared_still end x c = c
  all_declared_still (stays p ps) x c = elim (Contains-append_cases (declared (later p)) (declared_all (later_all ps)) x c) [
    | inl a ↦ Contains-append_left (declared (earlier p)) (declared_all (earlier_all ps)) x (declared_still p x a)
    | inr b ↦ Contains-append_right (declared (earlier p)) (declared_all (earlier_all ps)) x (all_declared_still ps x b)
  ]
  all_declared_still (goes i ps) x c = Contains-append_right (declared (item_tree i)) (declared_all (earlier_all ps)) x (all_declared_still ps x c)
  all_declared_still (declarator_goes d ps) x c = Contains-append_right (declared (declarator_tree d)) (declared_all (earlier_all ps)) x (all_declared_still ps x c)

-- ---- numbers

turned : (m n : ℕ) → nat_eq m n ≡ nat_eq n m
turned m n = by (nat_eq m n) refl (nat_eq n m) refl
  where
    by : (b : Bool) → nat_eq m n ≡ b → (c : Bool) → nat_eq n m ≡ c → nat_eq m n ≡ nat_eq n m
    by true p true q = p ∙ sym q
    by false p false q = p ∙ sym q
    by true p false q = absurd (true≢false (sym (eq-eqb n m (sym (eqb-true m n p))) ∙ q))
    by false p true q = absurd (true≢false (sym (eq-eqb m n (sym (eqb-true n m q))) ∙ p))

same_count : (k : ℕ) (ns : List ℕ) → times_in k ns ≡ count_of k ns
same_count k [] = refl
same_count k (n ∷ ns) = ap (λ b. (if b then 1 else 0) + times_in k ns) (turned k n) ∙ ap (λ m. (if nat_eq n k then 1 else 0) + m) (same_count k ns)

-- ---- one program less dead items

root_still : (p : Pruned) → later p ≡ over (earlier p) (children (later p))
root_still (prune h xs n ps) = refl

module _ (p : Pruned) (rounds : ℕ → ℕ) (dead : DropsDead (earlier p) (gone p) rounds Elsewhere p) (unnamed : Avoids (gone p) (later p)) where
  pub only : (s : List ℕ) → gone p (Global s) ≡ false
  only s = by (gone p (Global s)) refl
    where
      by : (b : Bool) → gone p (Global s) ≡ b → gone p (Global s) ≡ false
      by false e = e
      by true e = let (k, same) = known (gone_names p) (names_known (earlier p) (gone p) rounds Elsewhere p dead) (Global s) e in absurd (cc same)

  goes_tidily : Tidy (gone p) Elsewhere p
  goes_tidily = tidy (gone p) (earlier p) rounds Elsewhere p dead (each_name (named (gone p)) (gone_names p) (λ x q. q))

  program_scoped : IsWellShaped (earlier p) → Scoped Read [] (earlier p) → StillScoped (gone p) only Read [] (earlier p) (later p)
  program_scoped e s = still_scoped (gone p) only Elsewhere p Read [] goes_tidily unnamed (fits_params (gone p) false (one a_program) Elsewhere p goes_tidily e) s

  program_keeps : (IsWellShaped (earlier p) → IsWellShaped (later p)) → ProgramKeeps (earlier p) (later p)
  program_keeps shaped = record {
    shaped = shaped;
    scoped = λ e s. (program_scoped e s).scoped;
    distinct = λ e s d x. let fewer_declared = (program_scoped e s).within x in let once = d x in omega (arith, fewer_declared, once);
    symbols = λ e s. (program_scoped e s).within;
    numbers = λ e k. subst₂ (λ a b. a ≤ b) (same_count k (numbers (later p))) (same_count k (numbers (earlier p))) (fewer k p);
    once = λ e o. names_still (gone p) [] [] Elsewhere p goes_tidily o;
    targets = λ e o. jumps_still (gone p) no_targets [] [] Elsewhere p goes_tidily o;
  }

once_names : (t u : Tree) (n : ℕ) → Drops t u n → NamesStay t u
once_names t u n w =
    let dead = subst (λ t. DropsDead t (gone w.pruned) w.rounds Elsewhere w.pruned) (sym w.before) w.dead in
    let unnamed = subst (Avoids (gone w.pruned)) (sym w.after) w.unnamed in
    let again = more_goes t t u 0 n (nothing_goes t) w in
    subst₂ NamesStay w.before w.after (record {
      keeps = program_keeps w.pruned w.rounds dead unnamed (subst₂ (λ a b. IsWellShaped a → IsWellShaped b) (sym w.before) (sym w.after) (drops_keep_shape t u (0 + n) again));
      declares = declared_still w.pruned;
      root = root_still w.pruned;
    })

-- ---- any number of times

no_names_go : (t : Tree) → NamesStay t t
no_names_go t = record {
  keeps = record { shaped = λ e. e; scoped = λ e s. s; distinct = λ e s d. d; symbols = λ e s x. omega arith; numbers = λ e k. omega arith; once = λ e o. o; targets = λ e o. o };
  declares = λ x c. c;
  root = own_root t;
}
  where
    own_root : (t : Tree) → t ≡ over t (children t)
    own_root (node h xs n ts) = refl

over_twice : (t : Tree) (us vs : Trees) → over (over t us) vs ≡ over t vs
over_twice (node h xs n ts) us vs = refl

names_twice : (t u v : Tree) → NamesStay t u → NamesStay u v → NamesStay t v
names_twice t u v a b = record {
  keeps = record {
    shaped = λ e. b.keeps.shaped (a.keeps.shaped e);
    scoped = λ e s. b.keeps.scoped (a.keeps.shaped e) (a.keeps.scoped e s);
    distinct = λ e s d. b.keeps.distinct (a.keeps.shaped e) (a.keeps.scoped e s) (a.keeps.distinct e s d);
    symbols = λ e s x. let first = a.keeps.symbols e s x in let second = b.keeps.symbols (a.keeps.shaped e) (a.keeps.scoped e s) x in omega (arith, first, second);
    numbers = λ e k. let first = a.keeps.numbers e k in let second = b.keeps.numbers (a.keeps.shaped e) k in omega (arith, first, second);
    once = λ e o. b.keeps.once (a.keeps.shaped e) (a.keeps.once e o);
    targets = λ e o. b.keeps.targets (a.keeps.shaped e) (a.keeps.targets e o);
  };
  declares = λ x c. a.declares x (b.declares x c);
  root = b.root ∙ ap (λ r. over r (children v)) a.root ∙ over_twice t (children u) (children v);
}

pub drops_keep_names : law.DropsKeepNames
drops_keep_names _ _ _ (nothing_goes t) = no_names_go t
drops_keep_names _ _ _ (more_goes t u v m n w s) = names_twice t u v (drops_keep_names t u m w) (once_names u v n s)
