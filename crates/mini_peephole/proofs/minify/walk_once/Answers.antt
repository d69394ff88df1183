use Rattle.std.proofs.Common.{◌≡◌, ◌<◌, Bool, true, false}
use Rattle.std.specs.Prelude.{Result, IfOk}
use Rattle.std.proofs.lemmas.Result.{IfOk-weaker}
use Rattle.mini_model.specs.declared.memory.OutOfMemory.{OutOfMemory}
use Rattle.mini_model.specs.declared.place.Position.{Position}
use Rattle.mini_model.specs.declared.place.Position.TheVariants.{Elsewhere}
use Rattle.mini_model.specs.Tree.{Tree}
use Rattle.mini_model.specs.Weight.{weight}
use Rattle.mini_tree.specs.declared.options.CompressOptions.{CompressOptions}
use Rattle.mini_tree.specs.Context.{KnowsSome, ByKnown}
use Rattle.mini_tree.specs.Rule.{IsLighter, AreLighter}
use Rattle.mini_tree.specs.Walk.{Walked}
use Rattle.mini_tree.proofs.Reaching.{moves_lighter}
use Rattle.mini_peephole.proofs.minify.walk_once.Goals as goal

walked_lighter : (R : Position → Tree → Tree → Type 0) (D : Position → Tree → Type 0) (t u : Tree) (b : Bool) → IsLighter R → Walked R D Elsewhere t u b → b ≡ true → weight Elsewhere u < weight Elsewhere t
walked_lighter R D t u true l m e = moves_lighter R l m
walked_lighter R D t u false l m e = absurd (cc e)

walk_lighter : (C : Type 0) (knows : C → CompressOptions → Tree → Type 0) (c : C) (G : CompressOptions → Tree → Position → Tree → Tree → Type 0) (D : CompressOptions → Tree → Position → Tree → Type 0) (t u : Tree) (r : Result Bool OutOfMemory) → KnowsSome knows c → AreLighter G → IfOk r (λ b. ByKnown knows c (λ o q. Walked (G o q) (D o q) Elsewhere t u b)) → IfOk r (λ b. b ≡ true → weight Elsewhere u < weight Elsewhere t)
walk_lighter C knows c G D t u r (o, q, k) l w =
    IfOk-weaker {X = Bool} {Y = OutOfMemory} r (λ b. ByKnown knows c (λ o q. Walked (G o q) (D o q) Elsewhere t u b)) (λ b. b ≡ true → weight Elsewhere u < weight Elsewhere t) (λ b f. walked_lighter (G o q) (D o q) t u b (l o q) (f o q k)) w

pub returns-clause-lighter : goal.returns-clause-lighter
returns-clause-lighter g c =
    walk_lighter _ (g.C.Context.knows) c.args.context.now (g.R.Rule.gives) (g.R.Rule.rests) c.args.tree.now c.walk.new.node c.walk.result c.requires g.met.R.Rule.lighter c.walk.ensures.walked
