use Rattle.std.proofs.Common.{◌≡◌, ◌<◌, [], refl, length, arith}
use Rattle.mini_model.specs.Tree.{Tree}
use Rattle.mini_node.specs.Children.{trees_of}
use Rattle.mini_laws.specs.declared.names.Use.{Use}
use Rattle.mini_laws.specs.Resolved.{Environment, written_name}
use Rattle.std.specs.Prelude.{List, ◌∷◌}
use Rattle.mini_scope.proofs.numbering.written_name.Goals as goal

few : (u : Use) (env : Environment) (xs : List Tree) → length xs < 2 → [] ≡ written_name u env (trees_of xs)
few u env [] h = refl
few u env (x ∷ []) h = refl
few u env (x ∷ (y ∷ xs)) h = absurd (omega arith)

pub returns-in_default : goal.returns-in_default
returns-in_default c = few c.args.usage c.args.environment.now c.args.nodes.now c.in_default.len_below
