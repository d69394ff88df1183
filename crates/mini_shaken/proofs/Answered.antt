-- What is answered for the tree that was read is an answer for the value.
use Rattle.std.proofs.Common.{◌≡◌, ℕ}
use Rattle.std.specs.Prelude.{Ok, Result, IfOk}
use Rattle.std.proofs.lemmas.Result.{IfOk-weaker}
use Rattle.serde_json.specs.Data.{Data}
use Rattle.mini_model.specs.Tree.{Tree}
use Rattle.mini_model.specs.declared.error.MinifyError.{MinifyError}
use Rattle.mini_accept.specs.Accept.{program_at}
use Rattle.mini_tree.specs.declared.options.CompressOptions.{CompressOptions}
use Rattle.mini_writer.specs.Fits.{Fits}
use Rattle.mini_writer.proofs.Light.{accepted_light}
use Rattle.mini_peephole.specs.declared.minify.Minified.{Minified}
use Rattle.mini_shaken.specs.Shaking.{IsShakenAnswer}
use Rattle.mini_shaken.specs.Shaken.{Shaken}
use Rattle.mini_shaken.proofs.Faith.{shaken}

pub answer_is_shaken : (d : Data) (o : CompressOptions) (t : Tree) (n : ℕ) (made : Result Minified MinifyError) → Fits d → program_at o.max_depth d ≡ Ok (t, n) → IfOk made (λ m. IsShakenAnswer t o m) → IfOk made (λ m. Shaken d o m)
answer_is_shaken d o t n made small read = IfOk-weaker {X = Minified} {Y = MinifyError} made _ _ (λ m a. shaken d o m t (o.max_depth, n, read) a (accepted_light d t (o.max_depth, n, read) small))
