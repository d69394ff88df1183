-- The early error that is told, as a fault.
use Rattle.std.specs.Prelude.{ℕ, ◌≡◌, List, [], ◌∷◌, Option, Some, None, option_map, unwrap_or, IfSome}
use Rattle.std.proofs.Common.{ap, ◌∙◌, sym}
use Rattle.std.proofs.lemmas.List.{append-nil}
use Rattle.mini_model.specs.Tree.{Tree}
use Rattle.mini_laws.specs.Early.{Path, early_names, early_jumps, no_targets}
use Rattle.mini_scope.specs.Errors.{first_path, IsFree}
use Rattle.mini_model.specs.Faults.{Defect, Fault, early_name, early_jump}
use Rattle.mini_scope.specs.Pointers.{pointer_in, fault_by, early_fault, fault_below, IsBelow}

first_name : (ps qs : List Path) (t : Tree) (p : Path) → Some p ≡ first_path ps → fault_by ps qs t ≡ Some (record { defect = early_name; at = pointer_in 0 t p })
first_name [] qs t p e = cc
first_name (q ∷ ps) qs t p e = ap (λ o. Some (record { defect = early_name; at = pointer_in 0 t (unwrap_or o p) })) (sym e)

first_jump : (ps qs : List Path) (t : Tree) (p : Path) → ps ≡ [] → Some p ≡ first_path qs → fault_by ps qs t ≡ Some (record { defect = early_jump; at = pointer_in 0 t p })
first_jump (q ∷ ps) qs t p n e = cc
first_jump [] [] t p n e = cc
first_jump [] (q ∷ qs) t p n e = ap (λ o. Some (record { defect = early_jump; at = pointer_in 0 t (unwrap_or o p) })) (sym e)

no_fault : (ps qs : List Path) (t : Tree) → ps ≡ [] → qs ≡ [] → fault_by ps qs t ≡ None
no_fault ps qs t e f = ap (λ r. fault_by r qs t) e ∙ ap (λ r. fault_by [] r t) f

pub name_fault : (t : Tree) (p : Path) → Some p ≡ first_path (early_names [] t) → early_fault t ≡ Some (record { defect = early_name; at = pointer_in 0 t p })
unfolding early_fault
name_fault t p e = first_name (early_names [] t) (early_jumps no_targets [] t) t p e

pub jump_fault : (t : Tree) (p : Path) → early_names [] t ≡ [] → Some p ≡ first_path (early_jumps no_targets [] t) → early_fault t ≡ Some (record { defect = early_jump; at = pointer_in 0 t p })
unfolding early_fault
jump_fault t p n e = first_jump (early_names [] t) (early_jumps no_targets [] t) t p n e

pub free_of_faults : (t : Tree) → IsFree t → early_fault t ≡ None
unfolding early_fault
free_of_faults t f = no_fault (early_names [] t) (early_jumps no_targets [] t) t f.0 f.1

-- a defect of the node at a pointer, as it is told
pub told : (text : List ℕ) (d : Defect) (early root new : Option Fault) → early ≡ Some (record { defect = d; at = text }) → root ≡ Some (record { defect = d; at = [] }) → IsBelow text root new → IfSome new (λ f. early ≡ Some f)
told text d early root None e r b = tt
told text d early root (Some f) e r b = e ∙ ap (λ a. Some (record { defect = d; at = a })) (sym (append-nil text)) ∙ sym (ap (option_map (fault_below text)) r) ∙ b
