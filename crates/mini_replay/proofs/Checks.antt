-- A log that is replayed by the rows of a log.
use Rattle.std.proofs.Common.{◌≡◌, ℕ, zero, suc, Bool, List, [], ◌∷◌, length, take, refl, sym, ap, ◌∙◌, subst, arith}
use Rattle.std.specs.Prelude.{Option, Some, None, option_and_then, slice_get}
use Rattle.mini_model.specs.Tree.{Tree}
use Rattle.mini_accept.specs.WellShaped.{IsWellShaped}
use Rattle.mini_laws.specs.Value.{VariableSet}
use Rattle.mini_laws.specs.Writable.{writable_in}
use Rattle.mini_tree.specs.declared.options.CompressOptions.{CompressOptions}
use Rattle.mini_log.specs.Laws.{LogKeeps, LogLightens}
use Rattle.mini_log.specs.RowStep.{entry_step, replayed, row_at}
use Rattle.mini_checker.specs.declared.log.LogEntry.{LogEntry}
use Rattle.mini_checker.specs.declared.log.Verdict.{Verdict}
use Rattle.mini_checker.specs.declared.log.Verdict.TheVariants.{Yes, No}
use Rattle.mini_checker.specs.Checked.{Rows, Checked, replayed_by}
use Rattle.mini_replay.specs.Checking.{entries, entry_of, switches_of, Judged, Upheld, NoStepLeft, made_by}
use Rattle.mini_replay.specs.Logged.{NothingLeft}

pub same_replay : (s : Bool) (W : VariableSet) (t : Tree) (log : List LogEntry) → replayed_by (row_at s W) t log ≡ replayed s W t (entries log)
same_replay s W t [] = refl
same_replay s W t (x ∷ log) = by (entry_step s W t (entry_of x)) (λ u. same_replay s W u log)
  where
    by : (o : Option Tree) → ((u : Tree) → replayed_by (row_at s W) u log ≡ replayed s W u (entries log)) →
        option_and_then (λ u. replayed_by (row_at s W) u log) o ≡ option_and_then (λ u. replayed s W u (entries log)) o
    by None f = refl
    by (Some u) f = f u

judged_by : (s : Bool) (W : VariableSet) (t u : Tree) (log : List LogEntry) (v : Verdict) → Checked (row_at s W) t u log v → Judged s W t u log v
judged_by s W t u log Yes e = sym (same_replay s W t log) ∙ e
judged_by s W t u log (No k) e = record {
  entry = e.entry;
  there = e.there;
  before = sym (same_replay s W t (take k log)) ∙ e.before;
  no_step = e.no_step;
}

-- what the law of logs says of them
length_entries : (log : List LogEntry) → length (entries log) ≡ length log
length_entries [] = refl
length_entries (x ∷ log) = ap suc (length_entries log)

length_taken : (log : List LogEntry) (k : ℕ) (x : LogEntry) → slice_get log k ≡ Some x → length (take k log) ≡ k
length_taken [] k x e = absurd (cc e)
length_taken (y ∷ log) zero x e = refl
length_taken (y ∷ log) (suc k) x e = ap suc (length_taken log k x e)

pub upheld_by : LogKeeps → LogLightens → (o : CompressOptions) (t u : Tree) (log : List LogEntry) → IsWellShaped t → replayed o.sequences (writable_in t) t (entries log) ≡ Some u → Upheld o t u (length log)
upheld_by keeps lightens o t u log shaped e =
    let less = lightens (switches_of o) (writable_in t) t u (entries log) e in
    let same = length_entries log in
    record {
      kept = keeps (switches_of o) (writable_in t) t u (entries log) shaped e;
      lighter = omega (arith, less, same);
    }

pub upheld : LogKeeps → LogLightens → (o : CompressOptions) (t u : Tree) (log : List LogEntry) (v : Verdict) → IsWellShaped t → Judged o.sequences (writable_in t) t u log v → Upheld o t u (made_by log v)
upheld keeps lightens o t u log Yes shaped e = upheld_by keeps lightens o t u log shaped e
upheld keeps lightens o t u log (No k) shaped e = subst (Upheld o t u) (length_taken log k e.entry e.there) (upheld_by keeps lightens o t u (take k log) shaped e.before)

-- by rows that are those of a log

pub judged : (F : Rows) (s : Bool) (W : VariableSet) (t u : Tree) (log : List LogEntry) (v : Verdict) → F ≡ row_at s W → Checked F t u log v → Judged s W t u log v
judged F s W t u log v e c = judged_by s W t u log v (subst (λ G. Checked G t u log v) e c)

pub replays : (F : Rows) (s : Bool) (W : VariableSet) (t u : Tree) (log : List LogEntry) → F ≡ row_at s W → replayed_by F t log ≡ Some u → replayed s W t (entries log) ≡ Some u
replays F s W t u log e r = sym (same_replay s W t log) ∙ subst (λ G. replayed_by G t log ≡ Some u) e r

pub nothing_left : (F : Rows) (s : Bool) (W : VariableSet) (u : Tree) → F ≡ row_at s W → NothingLeft F u → NoStepLeft s W u
nothing_left F s W u e n = subst (λ G. NothingLeft G u) e n
