-- The rule's call, and why passes of it are faithful.
use Rattle.std.proofs.Common.{◌≡◌, Bool, refl, sym, ap, ◌∙◌, subst}
use Rattle.std.specs.Prelude.{Option, Some, None, is_some, unwrap_or, Result, IfOk}
use Rattle.std.proofs.lemmas.Result.{IfOk-weaker}
use Rattle.serde_json.specs.Data.{Data}
use Rattle.mini_model.specs.declared.error.MinifyError.{MinifyError}
use Rattle.mini_model.specs.declared.place.Position.TheVariants.{Expr}
use Rattle.mini_model.specs.declared.seat.Seat.{Seat}
use Rattle.mini_model.specs.Tree.{Tree}
use Rattle.mini_kept.specs.Without.{none_steady}
use Rattle.mini_kept.proofs.Lawful.{lawful_narrowed}
use Rattle.mini_kept.proofs.Loosely.{lawful_is_loose, loose_is_steady}
use Rattle.mini_kept.proofs.Rooted.{steady_is_rooted}
use Rattle.mini_laws.specs.Writable.{writable_in}
use Rattle.mini_node.specs.Kinds.{boolean as boolean_of}
use Rattle.mini_node.specs.Made.{boolean_is}
use Rattle.mini_rows.specs.Spellings.{negated_digit, SpellingContracts}
use Rattle.mini_rows.specs.Switches.{let_go}
use Rattle.mini_rows.proofs.SpellLawful.{lawful}
use Rattle.mini_tree.specs.declared.options.CompressOptions.{CompressOptions}
use Rattle.mini_tree.specs.Rule.{Applied}
use Rattle.mini_tree.proofs.Reaching.{moves_once}
use Rattle.mini_peephole.specs.AnyPasses.{no_facts, LawfulFor, NothingLeft}
use Rattle.mini_peephole.specs.Faithful.{switches, FaithfulUnder}
use Rattle.mini_peephole.specs.Minified.{IsMinifiedBy}
use Rattle.mini_peephole.specs.declared.minify.Minified.{Minified}
use Rattle.mini_peephole.proofs.AnyPasses.{plain_faithful}
use Rattle.mini_example.specs.Booleans.{written, shortened, Gives, Rests}
use Rattle.mini_example.specs.Lighter.{spelling}

-- one call makes a step, or the row reads nothing
pub applied : (s : Seat) (t u : Tree) (b : Bool) → u ≡ unwrap_or (shortened t) t → b ≡ is_some (shortened t) → Applied Gives Rests (Expr s) t u b
applied s t u b e f = subst (λ v. Applied Gives Rests (Expr s) t v b) (sym e) (subst (Applied Gives Rests (Expr s) t (unwrap_or (shortened t) t)) (sym f) (go (boolean_of t) refl))
  where
    none_some : {A : Type 0} (x : A) → None ≡ Some x → ⊥
    none_some x e = absurd (cc e)

    go : (o : Option Bool) → boolean_of t ≡ o → Applied Gives Rests (Expr s) t (unwrap_or (written o) t) (is_some (written o))
    go (Some b) h = moves_once Gives (Expr s) t (negated_digit b) (record { value = b; shape = boolean_is t b h; written = refl })
    go None h = (refl, λ w r. none_some r.value (sym h ∙ ap boolean_of r.shape))

-- it is lawful without any facts of bodies
booleans_lawful : LawfulFor no_facts (λ o q. Gives)
booleans_lawful o q e =
    let K = let_go (switches o) in
    let W = writable_in q in
    steady_is_rooted Gives K W none_steady (loose_is_steady Gives K W none_steady (lawful_is_loose Gives K W (lawful_narrowed Gives SpellingContracts spelling lawful)))

pub booleans_faithful : (d : Data) (o : CompressOptions) (made : Result Minified MinifyError) → IfOk made (λ m. IsMinifiedBy (λ o q. Gives) (λ o q. Rests) d o m) → IfOk made (λ m. FaithfulUnder no_facts (NothingLeft (λ q. Rests)) d o m)
booleans_faithful d o made = IfOk-weaker {X = Minified} {Y = MinifyError} made _ _ (λ m a. plain_faithful (λ o q. Gives) (λ o q. Rests) booleans_lawful d o m a.input a.accepted a.answer.free a.answer.rewriting)
