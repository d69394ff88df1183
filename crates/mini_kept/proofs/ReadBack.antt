-- A program that is read, resolved, rewritten, written and read again.
use Rattle.std.specs.Prelude.{ℕ, zero, suc, ◌≤◌, ◌<◌, ◌≡◌, refl, true, [], ◌∷◌, length, map, Some, Ok, Contains}
use Rattle.std.proofs.Common.{ap, ◌∙◌, sym, subst, arith}
use Rattle.serde_json.specs.Data.{Data}
use Rattle.mini_model.specs.Tree.{Tree, Trees, node, children}
use Rattle.mini_laws.specs.declared.names.Use.TheVariants.{Read}
use Rattle.mini_laws.specs.Early.{early_names, early_jumps, no_targets}
use Rattle.mini_laws.specs.Resolved.{resolved_program}
use Rattle.mini_laws.specs.Symbols.{declared_symbols, Distinct}
use Rattle.mini_laws.proofs.Places.{resolved_distinct}
use Rattle.mini_laws.proofs.Whole.{scoped}
use Rattle.mini_accept.specs.Accept.{program_at, Accepts}
use Rattle.mini_accept.specs.Numbered.{next_after}
use Rattle.mini_accept.specs.Symbols.{has_no_symbol}
use Rattle.mini_accept.specs.WellShaped.{IsWellShaped}
use Rattle.mini_accept.proofs.Numbers.{program_numbered}
use Rattle.mini_accept.proofs.Shaped.{program_shaped}
use Rattle.mini_accept.proofs.Symbols.{program_unresolved}
use Rattle.mini_kept.specs.Carried.{numbers, number_of, symbol_numbers, carried}
use Rattle.mini_kept.specs.KeepsNames.{count_of}
use Rattle.mini_kept.specs.Kept.{over}
use Rattle.mini_kept.specs.Lifted.{ProgramKeeps}
use Rattle.mini_kept.proofs.ReadAgain.{program_carried}
use Rattle.mini_kept.proofs.Texts.{text}
use Rattle.mini_kept.proofs.SameNumbers.{numbered_alike}
use Rattle.mini_kept.proofs.InPreorder.{InPreorder, in_preorder, preorder_length, preorder_same, number_resolved, numbers_resolved}
use Rattle.mini_kept.proofs.SameShape.{shaped_resolved}
use Rattle.mini_kept.proofs.SameEarly.{names_alike, jumps_alike, names_resolved, jumps_resolved}
use Rattle.mini_kept.proofs.SameSymbols.{symbols_alike}
use Rattle.mini_kept.proofs.SymbolsOnce.{symbol, distinct_once, distinct_numbered, distinct_length}
use Rattle.mini_kept.proofs.Counts.{still_there, once_behind}

-- a tree as it is read
pub record IsRead (t : Tree) (n : ℕ) : Type 0 where
  pub shaped : IsWellShaped t
  pub preorder : next_after t 0 ≡ Some n
  pub unresolved : has_no_symbol t ≡ true

-- as what is accepted is
pub accepted_read : (k : ℕ) (d : Data) (t : Tree) (n : ℕ) → program_at k d ≡ Ok (t, n) → IsRead t n
accepted_read k d t n e = record { shaped = program_shaped k d t n e; preorder = program_numbered k d t n e; unresolved = program_unresolved k d t n e }

-- what is read and written alike is one tree
pub read_same : (t u : Tree) (n m : ℕ) → IsRead t n → IsRead u m → text t ≡ text u → t ≡ u
read_same t u n m a b e = preorder_same t u n m a.preorder b.preorder a.unresolved b.unresolved a.shaped b.shaped e

pub accepted_same : (d f : Data) (t u : Tree) → Accepts d t → Accepts f u → text t ≡ text u → t ≡ u
accepted_same d f t u (k, n, a) (j, m, b) e = read_same t u n m (accepted_read k d t n a) (accepted_read j f u m b) e

-- ---- the root

number_over : (t : Tree) (us : Trees) → number_of (over t us) ≡ number_of t
number_over (node h xs n ts) us = refl

-- ---- the whole: t is read, its resolved form becomes v, and u is v read again

pub record IsReadBack (t v u : Tree) : Type 0 where
  pub shaped : IsWellShaped v
  -- u is v, with the numbers and symbols that its own stand for
  pub later : carried (0 ∷ numbers v) (map symbol (symbol_numbers (declared_symbols v))) (resolved_program u) ≡ v
  pub each_number : length (numbers u) ≡ length (numbers v)
  pub each_symbol : length (symbol_numbers (declared_symbols v)) ≡ length (declared_symbols (resolved_program u))
  -- those are of t, and none is there twice
  pub numbers_once : (k : ℕ) → count_of k (0 ∷ numbers v) ≤ 1
  pub numbers_there : (k : ℕ) → Contains (0 ∷ numbers v) k → Contains (0 ∷ numbers t) k
  pub symbols_once : (k : ℕ) → count_of k (symbol_numbers (declared_symbols v)) ≤ 1
  -- u has no early error where t has none
  pub names : early_names [] t ≡ [] → early_names [] u ≡ []
  pub jumps : early_jumps no_targets [] t ≡ [] → early_jumps no_targets [] u ≡ []

pub read_back : (t v u : Tree) (n m : ℕ) → IsRead t n → IsRead u m → ProgramKeeps (resolved_program t) v → v ≡ over (resolved_program t) (children v) → text u ≡ text v → IsReadBack t v u
read_back t v u n m a b keeps same_root e =
    record {
      shaped = shaped;
      later = subst (λ ss. carried (0 ∷ numbers v) ss (resolved_program u) ≡ v) (sym (distinct_numbered (declared_symbols v) distinct)) (program_carried u v m b.preorder root (numbered_alike u v b.unresolved b.shaped shaped e) (keeps.scoped before (scoped Read [] 0 t)) distinct);
      each_number = preorder_length u v m b.preorder root b.unresolved b.shaped shaped e;
      each_symbol = distinct_length (declared_symbols v) distinct ∙ sym (symbols_alike u v e);
      numbers_once = once_behind (numbers v) (λ k. omega (arith, counts k, order.once k)) none;
      numbers_there = still_there (numbers v) (numbers t) counts;
      symbols_once = distinct_once (declared_symbols v) distinct;
      names = λ o. names_alike [] u v e ∙ keeps.once before (names_resolved [] t ∙ o);
      jumps = λ o. jumps_alike no_targets [] u v e ∙ keeps.targets before (jumps_resolved no_targets [] t ∙ o);
    }
  where
    before : IsWellShaped (resolved_program t)
    before = shaped_resolved t a.shaped

    shaped : IsWellShaped v
    shaped = keeps.shaped before

    distinct : Distinct (declared_symbols v)
    distinct = keeps.distinct before (scoped Read [] 0 t) (resolved_distinct t)

    order : InPreorder t n
    order = in_preorder t n a.preorder

    root : number_of v ≡ 0
    root = ap number_of same_root ∙ number_over (resolved_program t) (children v) ∙ number_resolved t ∙ order.root

    counts : (k : ℕ) → count_of k (numbers v) ≤ count_of k (numbers t)
    counts k = subst (λ ns. count_of k (numbers v) ≤ count_of k ns) (numbers_resolved t) (keeps.numbers before k)

    none : count_of 0 (numbers v) ≡ 0
    none = no_zero (count_of 0 (numbers v)) (λ h. order.within 0 (omega (arith, h, counts 0)))
      where
        no_zero : (c : ℕ) → (1 ≤ c → (1 ≤ 0) × (0 < n)) → c ≡ 0
        no_zero zero f = refl
        no_zero (suc c) f = let low = (f (omega arith)).0 in absurd (omega (arith, low))
