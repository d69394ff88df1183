-- Lines that tell the text of a minified program, or why there is none.
use Rattle.std.proofs.Common.{◌≡◌, ℕ, Bool, List, String, Global, string_bytes, subst, inl, inr}
use Rattle.std.specs.Prelude.{Some, IfSome, Result, Ok, Err, IfOk, IfErr}
use Rattle.serde_json.specs.Data.{Data}
use Rattle.serde_json.specs.View.{view}
use Rattle.mini_model.specs.Faults.{Fault, fault_of}
use Rattle.mini_model.specs.declared.error.MinifyError.{MinifyError}
use Rattle.mini_tree.specs.declared.options.CompressOptions.{CompressOptions}
use Rattle.mini_peephole.specs.Minified.{HasDefect, IsRefusal}
use Rattle.mini_peephole.specs.declared.minify.Minified.{Minified}
use Rattle.mini_cli.specs.Run.{IfTold, note_of}
use Rattle.mini_cli.specs.declared.answering.Refusal.{Refusal}
use Rattle.mini_texts.proofs.Read.{read_unprinted}
use Rattle.mini_texts.proofs.Told.{told_so}
use Rattle.mini_texts.specs.Minified as no_text
use Rattle.mini_texts.specs.Minified.{HasAnswer, HasMinifiedText, HasNoMinifiedText, IsPrintedAnswer, IsUnprintedAnswer, IsUnwrittenAnswer}

pub minified_by : (spaced : Bool) (o : CompressOptions) (d : Data) (m : Minified) (r : Result (String Global) Refusal) → HasAnswer o d m → IfOk r (λ line. IsPrintedAnswer spaced m (string_bytes line)) → IfOk r (λ line. HasMinifiedText spaced o d (string_bytes line))
minified_by spaced o d m (Ok line) made is = record { answer = m; made = made; printed = is }
minified_by spaced o d m (Err e) made is = tt

unwritten : (spaced : Bool) (m : Minified) (line : List ℕ) → IsUnprintedAnswer spaced m line → IsUnwrittenAnswer spaced m line
unwritten spaced m line (inl unread) = inl unread
unwritten spaced m line (inr (t, (k, n, read), q)) = inr (t, (k, n, read), read_unprinted spaced k (view m.program) t n line read q)

pub unprinted_by : (spaced : Bool) (o : CompressOptions) (d : Data) (m : Minified) (r : Result (String Global) Refusal) → HasAnswer o d m → IfErr r (λ e. IfTold e (IsUnprintedAnswer spaced m)) → IfErr r (λ e. IfTold e (HasNoMinifiedText spaced o d))
unprinted_by spaced o d m (Ok line) made is = tt
unprinted_by spaced o d m (Err e) made is = told_so e (IsUnprintedAnswer spaced m) (HasNoMinifiedText spaced o d) (λ line q. no_text.unprinted m made (unwritten spaced m line q)) is

pub refused_by : (spaced : Bool) (o : CompressOptions) (d : Data) (e : MinifyError) (r : Refusal) → IsRefusal d o e → IfTold r (λ line. (f : Fault) × (fault_of e ≡ Some f) × (line ≡ note_of f)) → IfTold r (HasNoMinifiedText spaced o d)
refused_by spaced o d e r has = told_so r _ (HasNoMinifiedText spaced o d) (λ line q. no_text.refused q.0 (subst (λ f. IfSome f (λ f. HasDefect d o f)) q.1 has) q.2)
