-- What is told of a certificate and of a program.
use Rattle.std.proofs.Common.{◌≡◌, ℕ, List, refl, sym, ap, ◌∙◌, subst, inl, inr}
use Rattle.std.specs.Prelude.{codes, Option, Some, None, IfSome, IfErr, Result, Err, string_bytes}
use Rattle.std.proofs.lemmas.Result.{IfErr-weaker}
use Rattle.mini_model.specs.Faults.{Fault, fault_under, IsUnder}
use Rattle.mini_model.specs.Tree.{Tree}
use Rattle.mini_accept.specs.WellShaped.{IsWellShaped}
use Rattle.mini_laws.specs.Resolved.{resolved_program}
use Rattle.mini_kept.proofs.SameShape.{shaped_resolved}
use Rattle.mini_writer.proofs.Programs.{units_accepted}
use Rattle.mini_writer.proofs.Units.{shaped_units}
use Rattle.mini_scope.specs.Pointers.{early_fault}
use Rattle.mini_tree.specs.declared.options.CompressOptions.{CompressOptions}
use Rattle.mini_checker.specs.declared.log.LogEntry.{LogEntry}
use Rattle.mini_checker.specs.declared.log.Verdict.{Verdict}
use Rattle.mini_checker.specs.declared.log.Verdict.TheVariants.{Yes, No}
use Rattle.mini_replay.specs.Checking.{Judged, Upheld, made_by}
use Rattle.mini_cli.specs.Run.{IfTold, note_of}
use Rattle.mini_cli.specs.declared.answering.Refusal.{Refusal}
use Rattle.mini_cli.specs.declared.answering.Refusal.TheVariants as refusal
use Rattle.mini_certificate.specs.Certificates.{last_data, line_of, no_step_note}
use Rattle.mini_certificate.specs.Checked.{DoesNotHold, Holds, writable}

pub told_weaker : (e : Refusal) (P Q : List ℕ → Type 0) → ((line : List ℕ) → P line → Q line) → IfTold e P → IfTold e Q
told_weaker refusal.OutOfMemory P Q f h = tt
told_weaker (refusal.Told line) P Q f h = f (string_bytes line) h

pub refused_weaker : {X : Type 0} (r : Result X Refusal) (P Q : List ℕ → Type 0) → ((line : List ℕ) → P line → Q line) → IfErr r (λ e. IfTold e P) → IfErr r (λ e. IfTold e Q)
refused_weaker r P Q f h = IfErr-weaker r (λ e. IfTold e P) (λ e. IfTold e Q) (λ e g. told_weaker e P Q f g) h

-- ---- from the node above

above_by : (step : List ℕ) (old new : Option Fault) (f : Fault) → IsUnder step old new → new ≡ Some f → (g : Fault) × (old ≡ Some g) × (f ≡ fault_under step g)
above_by step old None f moved e = absurd (cc e)
above_by step None (Some h) f moved e = absurd (cc moved)
above_by step (Some g) (Some h) f moved e =
    let same : h ≡ f = cc e in
    let under : fault_under step g ≡ h = cc moved in
    (g, refl, sym same ∙ sym under)

pub told_under : (step : List ℕ) (old new : Option Fault) (e : Refusal) → IsUnder step old new → IfTold e (λ line. (f : Fault) × (new ≡ Some f) × (line ≡ note_of f)) → IfTold e (λ line. (f : Fault) × (old ≡ Some f) × (line ≡ note_of (fault_under step f)))
told_under step old new e moved h = told_weaker e _ _ (λ line g. let (f, is, told) = g in let (x, was, same) = above_by step old new f moved is in (x, was, told ∙ ap note_of same)) h

-- ---- by what reading says

pub fault_is : {X : Type 0} (o : Option Fault) (r : Result X Fault) (f : Fault) → IfSome o (λ f. r ≡ Err f) → o ≡ Some f → r ≡ Err f
fault_is None r f h e = absurd (cc e)
fault_is (Some g) r f h e = let same : g ≡ f = cc e in h ∙ ap Err same

-- ---- by what a check says

module _ (o : CompressOptions) (first last : Tree) (log : List LogEntry) (verdict : Verdict) (free : early_fault first ≡ None) (judged : Judged o.sequences (writable first) (resolved_program first) last log verdict) where
  pub holds : IsWellShaped first → Upheld o (resolved_program first) last (made_by log verdict) → (text : List ℕ) → (verdict ≡ Yes) × (text ≡ line_of (last_data last)) → Holds o first log text
  holds shaped upheld text (same, is) = record {
    free = free;
    last = last;
    leads = subst (Judged o.sequences (writable first) (resolved_program first) last log) same judged;
    upheld = subst (λ v. Upheld o (resolved_program first) last (made_by log v)) same upheld;
    written = is;
    accepted = let whole = upheld.kept.names.shaped (shaped_resolved first shaped) in units_accepted last whole (shaped_units last whole);
  }

  pub fails : (line : List ℕ) → (k : ℕ) × (verdict ≡ No k) × (line ≡ no_step_note k) → DoesNotHold o first log line
  fails line (k, same, is) = inr (record {
    free = free;
    entry = k;
    before = last;
    no_step = subst (Judged o.sequences (writable first) (resolved_program first) last log) same judged;
    told = is;
  })

-- of an early error
pub fault_early : (o : Option Fault) (first : Tree) (f : Fault) → IfSome o (λ f. early_fault first ≡ Some f) → o ≡ Some f → early_fault first ≡ Some f
fault_early None first f h e = absurd (cc e)
fault_early (Some g) first f h e = h ∙ e

pub fails_early : (o : CompressOptions) (first : Tree) (log : List LogEntry) (error : Option Fault) → IfSome error (λ f. early_fault first ≡ Some f) → (line : List ℕ) → (f : Fault) × (error ≡ Some f) × (line ≡ note_of (fault_under (codes "program") f)) → DoesNotHold o first log line
fails_early o first log error early line (f, is, told) = inl (record { fault = f; early = fault_early error first f early is; told = told })
