-- A program as it is read, and what is written for a resolved one, read again.
use Rattle.std.proofs.Common.{◌≡◌, ℕ, List, [], ◌∷◌, refl, sym, ◌∙◌}
use Rattle.std.specs.Prelude.{None, Ok}
use Rattle.serde_json.specs.Data.{Data}
use Rattle.mini_model.specs.Tree.{Tree, Trees, node, none, ◌▸◌}
use Rattle.mini_accept.specs.WellShaped.{IsWellShaped}
use Rattle.mini_accept.specs.Accept.{program_at, Accepts}
use Rattle.mini_accept.proofs.Numbers.{program_numbered}
use Rattle.mini_accept.proofs.Shaped.{program_shaped}
use Rattle.mini_accept.proofs.Symbols.{program_unresolved}
use Rattle.mini_laws.specs.Early.{Path, early_names, early_jumps, no_targets}
use Rattle.mini_laws.specs.Symbols.{bare_names}
use Rattle.mini_laws.specs.Symbols.{bare as without_symbols}
use Rattle.mini_scope.specs.Errors.{IsFree}
use Rattle.mini_scope.specs.Pointers.{early_fault, fault_by}
use Rattle.mini_writer.specs.Written.{program_data}
use Rattle.mini_writer.specs.Bare.{bare, bares}
use Rattle.mini_writer.proofs.Programs.{units_accepted}
use Rattle.mini_writer.proofs.Units.{shaped_units}
use Rattle.mini_kept.specs.Carried.{renumbered}
use Rattle.mini_kept.proofs.ReadBack.{IsRead}
use Rattle.mini_kept.proofs.Texts.{text, texts}

pub is_read : (d : Data) (k n : ℕ) (t : Tree) → program_at k d ≡ Ok (t, n) → IsRead t n
is_read d k n t e = record { shaped = program_shaped k d t n e; preorder = program_numbered k d t n e; unresolved = program_unresolved k d t n e }

-- no early error is told where there is none
free_by : (ps qs : List Path) (t : Tree) → fault_by ps qs t ≡ None → (ps ≡ []) × (qs ≡ [])
free_by [] [] t e = (refl, refl)
free_by [] (q ∷ qs) t e = absurd (cc e)
free_by (p ∷ ps) qs t e = absurd (cc e)

pub free_of : (t : Tree) → early_fault t ≡ None → IsFree t
unfolding early_fault
free_of t e = free_by (early_names [] t) (early_jumps no_targets [] t) t e

-- without numbers and symbols: the definitions of writing and of names say the same
mutual
  unfolding renumbered without_symbols

  pub same_text : (t : Tree) → bare t ≡ text t
  same_text (node h xs n ts) = λ k. node h (bare_names h xs) 0 (same_texts ts k)

  same_texts : (ts : Trees) → bares ts ≡ texts ts
  same_texts none = refl
  same_texts (t ▸ ts) = λ k. same_text t k ▸ same_texts ts k

pub read_again : (v : Tree) → IsWellShaped v → (u : Tree) × Accepts (program_data v) u × (text u ≡ text v)
read_again v e =
    let (u, accepted, same) = units_accepted v e (shaped_units v e) in
    (u, accepted, sym (same_text u) ∙ same ∙ same_text v)
