use Rattle.std.proofs.Common.{subst, List, ℕ}
use Rattle.mini_scope.specs.Errors.{Stands}
use Rattle.mini_model.specs.Faults.{fault_of, early_name, early_jump}
use Rattle.mini_scope.specs.Pointers.{pointer_in, IsBelow}
use Rattle.mini_scope.proofs.Refused.{name_fault, jump_fault, told}
use Rattle.mini_scope.proofs.refusing.refusal.Goals as goal

pub returns-in-Name : goal.returns-in-Name
returns-in-Name c =
    let t = c.args.program.now in
    let stands = subst (λ e. Stands t e) c.in-Name.is c.requires in
    let P : List ℕ → Type 0 = λ p. IsBelow (pointer_in 0 t p) (fault_of c.early_name.result) (fault_of c.under_path.result) in
    told (pointer_in 0 t c.in-Name.path) early_name _ (fault_of c.early_name.result) (fault_of c.under_path.result) (name_fault t c.in-Name.path stands) c.early_name.ensures (subst P c.as_slice.ensures c.under_path.ensures)

pub returns-in-Jump : goal.returns-in-Jump
returns-in-Jump c =
    let t = c.args.program.now in
    let stands = subst (λ e. Stands t e) c.in-Jump.is c.requires in
    let P : List ℕ → Type 0 = λ p. IsBelow (pointer_in 0 t p) (fault_of c.early_jump.result) (fault_of c.under_path-in-Jump.result) in
    told (pointer_in 0 t c.in-Jump.path) early_jump _ (fault_of c.early_jump.result) (fault_of c.under_path-in-Jump.result) (jump_fault t c.in-Jump.path stands.0 stands.1) c.early_jump.ensures (subst P c.as_slice-in-Jump.ensures c.under_path-in-Jump.ensures)
