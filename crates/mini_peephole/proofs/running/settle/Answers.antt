use Rattle.std.proofs.Common.{◌≡◌, arith}
use Rattle.std.specs.Prelude.{None}
use Rattle.std.proofs.lemmas.Grind.{common_steps}
use Rattle.serde_json.specs.View.{view}
use Rattle.mini_model.specs.Faults.{fault_of}
use Rattle.mini_writer.proofs.Counted.{bytes_fit}
use Rattle.mini_peephole.proofs.Told.{defect_of}
use Rattle.mini_peephole.proofs.running.settle.Goals as goal

pub returns-else-is_memory-2 : goal.returns-else-is_memory-2
returns-else-is_memory-2 g c =
    let error = c.in-Err-minify.error in
    let tells : fault_of error ≡ None → ⊥ = (let h = c.if-is_memory-2.ensures in let k = c.if-is_memory-2.false in grind (arith, common_steps)) in
    let (f, told, has) = defect_of (view c.in-Ok.value) c.args.options.now error c.in-Err-minify.ensures.refused tells in
    (f, record { value = view c.in-Ok.value; reads = rw c.deref.ensures.value at c.in-Ok.ensures.ok.1; defect = has }, told)

pub returns-in-Ok-answer : goal.returns-in-Ok-answer
returns-in-Ok-answer g c = (c.in-Ok-minify.minified, c.in-Ok-minify.ensures.answered _ (rw c.deref.ensures.value at c.in-Ok.ensures.ok.1), c.in-Ok-answer.ensures)

-- what the bytes say is small
pub minify-requires : goal.minify-requires
minify-requires g c = bytes_fit c.args.input.items _ c.requires (rw c.deref.ensures.value at c.in-Ok.ensures.ok.1)
