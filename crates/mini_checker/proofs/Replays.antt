-- A log that is replayed entry by entry.
use Rattle.std.proofs.Common.{◌≡◌, ℕ, zero, suc, ◌+◌, ◌<◌, ◌≤◌, List, [], ◌∷◌, ◌++◌, length, take, slice_index_or, refl, sym, ap, ◌∙◌, subst, arith}
use Rattle.std.specs.Prelude.{true, false, Option, Some, None, option_and_then, slice_get}
use Rattle.std.proofs.lemmas.Bool.{false≢true}
use Rattle.std.proofs.lemmas.List.{take_more, take_all}
use Rattle.mini_model.specs.Tree.{Tree}
use Rattle.mini_checker.specs.declared.log.LogEntry.{LogEntry}
use Rattle.mini_checker.specs.Made.{Made}
use Rattle.mini_checker.specs.Checked.{Rows, entry_step_by, replayed_by, StopsAt}

one_more : (F : Rows) (t : Tree) (log : List LogEntry) (x : LogEntry) → replayed_by F t (log ++ x ∷ []) ≡ option_and_then (λ u. entry_step_by F u x) (replayed_by F t log)
one_more F t [] x = last (entry_step_by F t x)
  where
    last : (o : Option Tree) → option_and_then (λ u. Some u) o ≡ o
    last None = refl
    last (Some u) = refl
one_more F t (y ∷ log) x = then (entry_step_by F t y) (λ u. one_more F u log x)
  where
    then : (o : Option Tree) → ((u : Tree) → replayed_by F u (log ++ x ∷ []) ≡ option_and_then (λ v. entry_step_by F v x) (replayed_by F u log)) →
        option_and_then (λ u. replayed_by F u (log ++ x ∷ [])) o ≡ option_and_then (λ v. entry_step_by F v x) (option_and_then (λ u. replayed_by F u log) o)
    then None f = refl
    then (Some u) f = f u

pub made_is : (o : Option Tree) (u w : Tree) → Made o u w true → o ≡ Some w
made_is None u w m = absurd (false≢true (sym m.said))
made_is (Some v) u w m = ap Some (sym m.tree)

pub none_made : (o : Option Tree) (u w : Tree) → Made o u w false → o ≡ None
none_made None u w m = refl
none_made (Some v) u w m = absurd (false≢true m.said)

pub stays : (o : Option Tree) (u w : Tree) → Made o u w false → w ≡ u
stays None u w m = m.tree
stays (Some v) u w m = absurd (false≢true m.said)

pub replay_next : (F : Rows) (t u w : Tree) (log : List LogEntry) (i : ℕ) (x : LogEntry) → i < length log → x ≡ slice_index_or log i x → replayed_by F t (take i log) ≡ Some u → Made (entry_step_by F u x) u w true → replayed_by F t (take (i + 1) log) ≡ Some w
replay_next F t u w log i x h e r m =
    ap (replayed_by F t) (take_more log i x h) ∙ ap (λ y. replayed_by F t (take i log ++ y ∷ [])) (sym e) ∙ one_more F t (take i log) x ∙ ap (option_and_then (λ v. entry_step_by F v x)) r ∙ made_is (entry_step_by F u x) u w m

pub replay_all : (F : Rows) (t u : Tree) (log : List LogEntry) (i : ℕ) → length log ≤ i → replayed_by F t (take i log) ≡ Some u → replayed_by F t log ≡ Some u
replay_all F t u log i h r = sym (ap (replayed_by F t) (take_all i log h)) ∙ r

there : (xs : List LogEntry) (i : ℕ) (d : LogEntry) → i < length xs → slice_get xs i ≡ Some (slice_index_or xs i d)
there [] i d h = absurd (omega (arith, h))
there (x ∷ xs) zero d h = refl
there (x ∷ xs) (suc i) d h = there xs i d (omega (arith, h))

pub stopped : (F : Rows) (t u w : Tree) (log : List LogEntry) (i : ℕ) (x : LogEntry) → i < length log → x ≡ slice_index_or log i x → replayed_by F t (take i log) ≡ Some u → Made (entry_step_by F u x) u w false → StopsAt F t w log i
stopped F t u w log i x h e r m = record {
  entry = x;
  there = there log i x h ∙ ap Some (sym e);
  before = r ∙ ap Some (sym (stays (entry_step_by F u x) u w m));
  no_step = subst (λ y. entry_step_by F y x ≡ None) (sym (stays (entry_step_by F u x) u w m)) (none_made (entry_step_by F u x) u w m);
}
