-- A settled answer that is given again comes back.
use Rattle.std.specs.Prelude.{◌≡◌, true}
use Rattle.serde_json.specs.View.{view}
use Rattle.mini_model.specs.Tree.{Tree}
use Rattle.mini_accept.specs.Accept.{Accepts}
use Rattle.mini_tree.specs.declared.options.CompressOptions.{CompressOptions}
use Rattle.mini_peephole.specs.Faithful.{earlier, IsRewritten}
use Rattle.mini_peephole.specs.Minified.{IsMinified}
use Rattle.mini_peephole.specs.declared.minify.Minified.{Minified}

pub record ComesBack (o : CompressOptions) (m : Minified) : Type 0 where
  -- nothing is left to rewrite in its program as a later run sees it, in numbers and symbols of its
  -- own
  pub settled : m.settled ≡ true → (u : Tree) → Accepts (view m.program) u → IsRewritten o (earlier u)
  -- each answer to it under these options is that program, after one pass
  pub same : m.settled ≡ true → (n : Minified) → IsMinified (view m.program) o n → (view n.program ≡ view m.program) × (n.passes ≡ 1) × (n.settled ≡ true)
