-- What is accepted is well shaped.
use Rattle.std.proofs.Common.{◌≡◌, ℕ, zero, suc, ◌≤◌, refl, subst, Bool, true, false}
use Rattle.std.specs.Prelude.{Option, Some, None, Result, Ok, Err}
use Rattle.serde_json.specs.Data.{Data}
use Rattle.mini_model.specs.Tree.{Tree}
use Rattle.mini_accept.specs.WellShaped.{a_program, is_strict_in, IsWellShaped}
use Rattle.mini_accept.specs.Faults.{Defect}
use Rattle.mini_accept.specs.Kind.{Kind}
use Rattle.mini_accept.specs.Places.{Place, at}
use Rattle.mini_accept.specs.Fields.{kind_of}
use Rattle.mini_accept.specs.Standing.{may_stand, is_unread}
use Rattle.mini_accept.specs.Plans.{Plan}
use Rattle.mini_accept.specs.Entries.{entry}
use Rattle.mini_accept.specs.Accept.{are_placed, plan_if, placed_plan, plan_by, plan_unless, plan, read_plan, reads, program_at}
use Rattle.mini_accept.proofs.Results.{ok_same}
use Rattle.mini_accept.proofs.Gathered.{Knowing, Whole, WholeIf, plan_known, program_known}
use Rattle.mini_accept.proofs.Numbers.{reads_count}
use Rattle.mini_accept.proofs.Types.{kind_typed, type_name, typed_there}
use Rattle.mini_accept.proofs.Fitting.{Known}
use Rattle.mini_accept.proofs.Entries.{entry_whole}

if_planned : (b : Bool) (y x : Plan) → plan_if b y ≡ Ok x → y ≡ x
if_planned true y x e = ok_same {E = Defect} y x e
if_planned false y x e = absurd (cc e)

placed_whole : (strict : Bool) (p : Place) (d : Data) (o : Option Plan) (x : Plan) → WholeIf strict p d o → placed_plan strict d o ≡ Ok x → Whole strict p d x
placed_whole strict p d None x whole e = absurd (cc e)
placed_whole strict p d (Some y) x whole e = subst (Whole strict p d) (if_planned (are_placed (is_strict_in strict y.shape) d y.children) y x e) whole.known

kind_whole : (strict : Bool) (p : Place) (d : Data) (o : Option Kind) (x : Plan) → kind_of d ≡ o → may_stand p d ≡ true → is_unread strict p d ≡ false → plan_by strict p d o ≡ Ok x → Whole strict p d x
kind_whole strict p d None x is stands read e = absurd (cc e)
kind_whole strict p d (Some k) x is stands read e =
    let typed = kind_typed d k is in
    placed_whole strict p d (entry k p d) x (entry_whole strict p d k typed (typed_there p d (type_name k) typed stands) stands read) e

-- a node that is planned is read, and may stand there
planned : (unread stands : Bool) (o : Result Plan Defect) (x : Plan) → plan_unless unread stands o ≡ Ok x → (unread ≡ false) × (stands ≡ true) × (o ≡ Ok x)
planned true stands o x e = absurd (cc e)
planned false true o x e = (refl, refl, e)
planned false false o x e = absurd (cc e)

plan_whole : (strict : Bool) (p : Place) (d : Data) (x : Plan) → plan strict p d ≡ Ok x → Whole strict p d x
plan_whole strict p d x e =
    let (read, stands, by) = planned (is_unread strict p d) (may_stand p d) (plan_by strict p d (kind_of d)) x e in
    kind_whole strict p d (kind_of d) x refl stands read by

by_plan : (k : ℕ) → Knowing (reads k) → (strict : Bool) (p : Place) (n : ℕ) (d : Data) (o : Result Plan Defect) (x : Tree × ℕ) → plan strict p d ≡ o → 1 ≤ n → read_plan (reads k) strict p n d o ≡ Ok x → Known strict p d x.0
by_plan k knows strict p n d (Err f) x is some e = absurd (cc e)
by_plan k knows strict p n d (Ok y) x is some e = plan_known (reads k) knows (reads_count k) strict p n d y x (plan_whole strict p d y is) some e

pub reads_known : (k : ℕ) → Knowing (reads k)
reads_known zero strict p n d x some e = absurd (cc e)
reads_known (suc k) strict p n d x some e = by_plan k (reads_known k) strict p n d (plan strict p d) x refl some e

root_shaped : (k : ℕ) (d : Data) (o : Result Plan Defect) (x : Tree × ℕ) → plan false (at a_program) d ≡ o → read_plan (reads k) false (at a_program) 0 d o ≡ Ok x → IsWellShaped x.0
root_shaped k d (Err f) x is e = absurd (cc e)
root_shaped k d (Ok y) x is e = program_known (reads k) (reads_known k) (reads_count k) d y x (plan_whole false (at a_program) d y is) e

pub program_shaped : (k : ℕ) (d : Data) (t : Tree) (n : ℕ) → program_at k d ≡ Ok (t, n) → IsWellShaped t
unfolding program_at
program_shaped zero d t n e = absurd (cc e)
program_shaped (suc k) d t n e = root_shaped k d (plan false (at a_program) d) (t, n) refl e
