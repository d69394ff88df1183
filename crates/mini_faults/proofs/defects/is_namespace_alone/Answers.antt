use Rattle.std.proofs.Common.{◌≡◌, ◌≤◌, false, List, [], ◌∷◌, length, refl, arith}
use Rattle.mini_model.specs.Tree.{Tree}
use Rattle.mini_node.specs.Children.{trees_of}
use Rattle.mini_print.specs.Unprintable.{is_namespace_alone}
use Rattle.mini_faults.proofs.defects.is_namespace_alone.Goals as goal

of_two : (ts : List Tree) → 2 ≤ length ts → false ≡ is_namespace_alone (trees_of ts)
of_two [] h = absurd (omega (arith, h))
of_two (t ∷ []) h = absurd (omega (arith, h))
of_two (t ∷ u ∷ ts) h = refl

pub returns-in-len2-up : goal.returns-in-len2-up
returns-in-len2-up c = of_two c.args.specifiers.now (omega arith)
