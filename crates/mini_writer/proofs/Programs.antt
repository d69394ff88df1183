-- What is written for a well-shaped tree is accepted as this tree, but for its numbers and symbols.
use Rattle.std.proofs.Common.{◌≡◌, ℕ, suc, List, [], ◌∷◌, arith, Bool, true, false}
use Rattle.std.proofs.lemmas.Bool.{false≢true}
use Rattle.mini_model.specs.declared.shape.Shape.TheVariants as shape
use Rattle.mini_model.specs.Tree.{Tree, node, Trees, node_counts}
use Rattle.mini_accept.specs.WellShaped as shaped
use Rattle.mini_accept.specs.WellShaped.{a_program, IsWellShaped}
use Rattle.mini_accept.specs.Places.{at}
use Rattle.mini_accept.specs.Accept.{program_at, Accepts}
use Rattle.mini_writer.specs.Written.{tree_data, program_data}
use Rattle.mini_writer.specs.Bare.{bare}
use Rattle.mini_writer.proofs.Units.{has_units}
use Rattle.mini_writer.proofs.Read.{ReadsBack}
use Rattle.mini_writer.proofs.Fitting.{Fit, node_fits, and_false}
use Rattle.mini_writer.proofs.Modules.{module_back, script_back}
use Rattle.mini_writer.proofs.Whole.{all_back}

read_whole : (is_module : Bool) (ss : List (List ℕ)) (m : ℕ) (ts : Trees) → IsWellShaped (node (shape.Program is_module ss) [] m ts) → has_units (node (shape.Program is_module ss) [] m ts) ≡ true
    → ReadsBack (suc (suc (suc (node_counts ts)))) false (at a_program) 0 (tree_data (node (shape.Program is_module ss) [] m ts)) (node (shape.Program is_module ss) [] m ts)
read_whole true ss m ts e u =
    let fit : Fit (suc (node_counts ts)) false (shaped.one a_program) (node (shape.Program true ss) [] m ts) = record { fits = e; units = u; small = omega arith } in
    let w = node_fits (node_counts ts) false a_program (shape.Program true ss) [] m ts fit in
    module_back (node_counts ts) (all_back (node_counts ts)).trees ss w.fields w.field_units ts w.filled m 0
read_whole false ss m ts e u =
    let fit : Fit (suc (node_counts ts)) false (shaped.one a_program) (node (shape.Program false ss) [] m ts) = record { fits = e; units = u; small = omega arith } in
    let w = node_fits (node_counts ts) false a_program (shape.Program false ss) [] m ts fit in
    script_back (node_counts ts) (all_back (node_counts ts)).trees ss w.fields w.field_units ts w.filled m 0

pub units_accepted : (t : Tree) → IsWellShaped t → has_units t ≡ true → (u : Tree) × Accepts (program_data t) u × (bare u ≡ bare t)
unfolding program_at program_data
units_accepted (node (shape.Program is_module ss) [] m ts) e u =
    let r = read_whole is_module ss m ts e u in
    (r.tree, (suc (suc (suc (node_counts ts))), r.next, r.read), r.same)
units_accepted (node (shape.Program is_module ss) (x ∷ xs) m ts) e u = absurd (false≢true e)
units_accepted (node h xs m ts) e u = absurd (and_false _ e)
