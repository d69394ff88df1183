-- A log to which entries are added.
use Rattle.std.proofs.Common.{◌≡◌, ℕ, ◌+◌, ◌<◌, ◌≤◌, Bool, true, false, List, [], ◌∷◌, ◌++◌, length, refl, sym, ap, ◌∙◌, arith, length-append}
use Rattle.std.specs.Prelude.{Option, Some, None, option_and_then}
use Rattle.std.proofs.lemmas.Bool.{false≢true}
use Rattle.mini_model.specs.Tree.{Tree}
use Rattle.mini_checker.specs.declared.log.LogEntry.{LogEntry}
use Rattle.mini_checker.specs.Checked.{Rows, entry_step_by, replayed_by}
use Rattle.mini_replay.specs.Logged.{Entered, Further, Next}

one_more : (F : Rows) (t : Tree) (log : List LogEntry) (x : LogEntry) → replayed_by F t (log ++ x ∷ []) ≡ option_and_then (λ u. entry_step_by F u x) (replayed_by F t log)
one_more F t [] x = last (entry_step_by F t x)
  where
    last : (o : Option Tree) → option_and_then (λ u. Some u) o ≡ o
    last None = refl
    last (Some u) = refl
one_more F t (y ∷ log) x = then (entry_step_by F t y) (λ u. one_more F u log x)
  where
    then : (o : Option Tree) → ((u : Tree) → replayed_by F u (log ++ x ∷ []) ≡ option_and_then (λ v. entry_step_by F v x) (replayed_by F u log)) →
        option_and_then (λ u. replayed_by F u (log ++ x ∷ [])) o ≡ option_and_then (λ v. entry_step_by F v x) (option_and_then (λ u. replayed_by F u log) o)
    then None f = refl
    then (Some u) f = f u

pub replays_on : (F : Rows) (first t u : Tree) (old new : List LogEntry) → Entered F t u old new → replayed_by F first old ≡ Some t → replayed_by F first new ≡ Some u
replays_on F first t u old new e r = ap (replayed_by F first) e.log ∙ one_more F first old e.entry ∙ ap (option_and_then (λ v. entry_step_by F v e.entry)) r ∙ e.made

pub longer_by : (F : Rows) (t u : Tree) (old new : List LogEntry) → Entered F t u old new → length new ≡ length old + 1
longer_by F t u old new e = ap length e.log ∙ length-append old (e.entry ∷ [])

-- ---- entries, one after another

pub one_further : (F : Rows) (t u v : Tree) (old mid new : List LogEntry) (max : ℕ) → Further F t u old mid max → length mid < max → Entered F u v mid new → Further F t v old new max
one_further F t u v old mid new max f room e =
    let l = longer_by F u v mid new e in
    let more = f.longer in
    record {
      replays = λ first r. replays_on F first u v mid new e (f.replays first r);
      longer = omega (arith, more, l);
      within = λ h. omega (arith, room, l);
    }

-- the log goes on being replayed, and stays within its bound
pub next_replays : (F : Rows) (first t u : Tree) (old new : List LogEntry) (max : ℕ) (b : Bool) → Next F t u old new max b → replayed_by F first old ≡ Some t → replayed_by F first new ≡ Some u
next_replays F first t u old new max true (room, e) r = replays_on F first t u old new e r
next_replays F first t u old new max false n r = ap (replayed_by F first) n.log ∙ r ∙ ap Some (sym n.program)

pub next_longer : (F : Rows) (t u : Tree) (old new : List LogEntry) (max : ℕ) (b : Bool) → b ≡ true → Next F t u old new max b → (length old < length new) × (length new ≤ max)
next_longer F t u old new max true e (room, x) = let l = longer_by F t u old new x in (omega (arith, l), omega (arith, room, l))
next_longer F t u old new max false e n = absurd (false≢true e)
