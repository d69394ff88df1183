-- Trees that are written alike declare as many symbols.
use Rattle.std.specs.Prelude.{ℕ, zero, suc, ◌≡◌, refl, [], length}
use Rattle.std.proofs.Common.{ap, ◌∙◌, sym}
use Rattle.mini_model.specs.Tree.{Tree}
use Rattle.mini_laws.specs.declared.names.Use.TheVariants.{Read}
use Rattle.mini_laws.specs.Resolved.{symbols, resolved_program}
use Rattle.mini_laws.specs.Symbols.{declared_symbols, bare, symbols_to}
use Rattle.mini_laws.proofs.Back.{declared_length}
use Rattle.mini_laws.proofs.Places.{bare_again, resolved_symbols}
use Rattle.mini_kept.proofs.Renumbered.{same_symbols}
use Rattle.mini_kept.proofs.Texts.{text, read_alike}

to_length : (s n : ℕ) → length (symbols_to s n) ≡ n
to_length s zero = refl
to_length s (suc n) = ap suc (to_length (suc s) n)

resolved_length : (t : Tree) → length (declared_symbols (resolved_program t)) ≡ symbols Read t
resolved_length t = ap length (resolved_symbols Read [] 0 t) ∙ to_length 0 (symbols Read t)

symbols_bare : (t : Tree) → symbols Read (bare t) ≡ symbols Read t
symbols_bare t = sym (resolved_length (bare t)) ∙ ap (λ v. length (declared_symbols v)) (bare_again t) ∙ resolved_length t

symbols_text : (t : Tree) → symbols Read (text t) ≡ symbols Read t
symbols_text t = same_symbols (λ n. 0) Read (bare t) ∙ symbols_bare t

pub symbols_alike : (t u : Tree) → text t ≡ text u → length (declared_symbols (resolved_program t)) ≡ length (declared_symbols u)
symbols_alike t u e = resolved_length t ∙ read_alike (symbols Read) symbols_text t u e ∙ sym (declared_length Read u)
