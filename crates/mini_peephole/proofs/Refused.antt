-- Why a value is refused.
use Rattle.std.proofs.Common.{◌≡◌, ℕ, refl, sym, ap, inl, inr}
use Rattle.std.specs.Prelude.{Option, Some, None, option_map, unwrap_or, IfSome, Result, Ok, Err}
use Rattle.std.specs.Result.{result_err}
use Rattle.serde_json.specs.Data.{Data}
use Rattle.mini_model.specs.Tree.{Tree}
use Rattle.mini_tree.specs.declared.options.CompressOptions.{CompressOptions}
use Rattle.mini_accept.specs.Accept.{program_at}
use Rattle.mini_accept.specs.Faults as estree
use Rattle.mini_model.specs.Faults.{Fault, fault_of}
use Rattle.mini_model.specs.declared.error.MinifyError.{MinifyError}
use Rattle.mini_estree.specs.Reads.{fault_told, Blames}
use Rattle.mini_scope.specs.Pointers.{early_fault}
use Rattle.mini_peephole.specs.Minified.{HasDefect, IsRefusal}

by_table : (d : Data) (o : CompressOptions) (told : Option Fault) (r : Result (Tree × ℕ) estree.Fault) → program_at o.max_depth d ≡ r → IfSome told (λ f. option_map fault_told (result_err r) ≡ Some f) → IfSome told (λ f. HasDefect d o f)
by_table d o None r q h = tt
by_table d o (Some f) (Ok x) q h = absurd (cc h)
by_table d o (Some f) (Err g) q h = inl (record { fault = g; read = q; told = sym (ap (λ s. unwrap_or s f) h) })

pub refused_by_table : (d : Data) (o : CompressOptions) (e : MinifyError) → Blames e (result_err (program_at o.max_depth d)) → IsRefusal d o e
refused_by_table d o e h = by_table d o (fault_of e) (program_at o.max_depth d) refl h

by_error : (d : Data) (o : CompressOptions) (t : Tree) (n : ℕ) (told : Option Fault) → program_at o.max_depth d ≡ Ok (t, n) → IfSome told (λ f. early_fault t ≡ Some f) → IfSome told (λ f. HasDefect d o f)
by_error d o t n None q h = tt
by_error d o t n (Some f) q h = inr (record { program = t; numbers = n; read = q; early = h })

pub refused_early : (d : Data) (o : CompressOptions) (t : Tree) (n : ℕ) (e : MinifyError) → program_at o.max_depth d ≡ Ok (t, n) → IfSome (fault_of e) (λ f. early_fault t ≡ Some f) → IsRefusal d o e
refused_early d o t n e q h = by_error d o t n (fault_of e) q h
