-- What is answered for the tree that was read is an answer for the value.
use Rattle.std.proofs.Common.{◌≡◌, ℕ, sym, ap, subst, ◌∙◌}
use Rattle.std.specs.Prelude.{None, Ok, Result, IfOk}
use Rattle.std.proofs.lemmas.Result.{IfOk-weaker}
use Rattle.serde_json.specs.Data.{Data}
use Rattle.mini_model.specs.declared.place.Position.{Position}
use Rattle.mini_model.specs.declared.place.Position.TheVariants.{Elsewhere}
use Rattle.mini_model.specs.Tree.{Tree}
use Rattle.mini_model.specs.Weight.{weight, capped}
use Rattle.mini_laws.specs.Resolved.{resolved_program}
use Rattle.mini_scope.specs.Pointers.{early_fault}
use Rattle.mini_model.specs.declared.error.MinifyError.{MinifyError}
use Rattle.mini_accept.specs.Accept.{program_at, Accepts}
use Rattle.mini_tree.specs.declared.options.CompressOptions.{CompressOptions}
use Rattle.mini_writer.specs.Fits.{Fits}
use Rattle.mini_writer.proofs.Light.{accepted_light}
use Rattle.mini_peephole.specs.Faithful.{Faithful, PassesBounded}
use Rattle.mini_peephole.specs.Answer.{IsWeighed}
use Rattle.mini_peephole.specs.Minified.{IsAnswerOf, IsMinified, IsMinifiedBy, IsRewriting, IsWeighedAnswer}
use Rattle.mini_peephole.specs.declared.minify.Weighed.{Weighed}
use Rattle.mini_peephole.specs.declared.minify.Minified.{Minified}
use Rattle.mini_peephole.specs.ComesBack.{ComesBack}
use Rattle.mini_peephole.proofs.ComesBack.{comes_back}
use Rattle.mini_peephole.proofs.Faith.{faithful, passes_bounded, weighs, weighs_after}

-- the answer for the tree that was read is one for the value
pub answer_is_minified : (G : CompressOptions → Tree → Position → Tree → Tree → Type 0) (D : CompressOptions → Tree → Position → Tree → Type 0) (d : Data) (o : CompressOptions) (t : Tree) (n : ℕ) (made : Result Minified MinifyError) → program_at o.max_depth d ≡ Ok (t, n) → IfOk made (λ m. IsAnswerOf G D t o m) → IfOk made (λ m. IsMinifiedBy G D d o m)
answer_is_minified G D d o t n made read = IfOk-weaker {X = Minified} {Y = MinifyError} made _ _ (λ m a. record { input = t; accepted = (o.max_depth, n, read); answer = a })

-- and what is one of all rules is faithful
pub minified_is_faithful : (d : Data) (o : CompressOptions) (made : Result Minified MinifyError) → Fits d → IfOk made (λ m. IsMinified d o m) → IfOk made (λ m. Faithful d o m)
minified_is_faithful d o made small = IfOk-weaker {X = Minified} {Y = MinifyError} made _ _ (λ m a. faithful d o m a.input a.accepted a.answer.free a.answer.rewriting (accepted_light d a.input a.accepted small))

pub minified_is_bounded : (d : Data) (o : CompressOptions) (made : Result Minified MinifyError) → IfOk made (λ m. IsMinified d o m) → IfOk made (λ m. PassesBounded d o m)
minified_is_bounded d o made = IfOk-weaker {X = Minified} {Y = MinifyError} made _ _ (λ m a. passes_bounded d o m a.input a.accepted a.answer.free a.answer.rewriting)

-- where it is settled it comes back
pub minified_comes_back : (d : Data) (o : CompressOptions) (made : Result Minified MinifyError) → Fits d → IfOk made (λ m. IsMinified d o m) → IfOk made (λ m. ComesBack o m)
minified_comes_back d o made small = IfOk-weaker {X = Minified} {Y = MinifyError} made _ _ (λ m a. comes_back d o m a.input a.accepted a.answer.free a.answer.rewriting (accepted_light d a.input a.accepted small))

weighed : (d : Data) (o : CompressOptions) (t : Tree) (n : ℕ) (w : Weighed) → Fits d → program_at o.max_depth d ≡ Ok (t, n) → IsWeighedAnswer t o w → IsWeighed d o w.minified w.before w.after
weighed d o t n w small read a =
    let accepted : Accepts d t = (o.max_depth, n, read) in
    let light = accepted_light d t accepted small in
    let r = a.answer.rewriting in
    record {
      faithful = faithful d o w.minified t accepted a.answer.free r light;
      passes = passes_bounded d o w.minified t accepted a.answer.free r;
      minified = record { input = t; accepted = accepted; answer = a.answer };
      before_is = weighs d o w.minified t accepted a.answer.free r light w.before a.before;
      after_is = weighs_after d o w.minified t accepted a.answer.free r light w.after a.after;
    }

pub answer_is_weighed : (d : Data) (o : CompressOptions) (t : Tree) (n : ℕ) (made : Result Weighed MinifyError) → Fits d → program_at o.max_depth d ≡ Ok (t, n) → IfOk made (λ w. IsWeighedAnswer t o w) → IfOk made (λ w. IsWeighed d o w.minified w.before w.after)
answer_is_weighed d o t n made small read = IfOk-weaker {X = Weighed} {Y = MinifyError} made _ _ (λ w a. weighed d o t n w small read a)

pub weighed_of : (input p q : Tree) (o : CompressOptions) (w : Weighed) → early_fault input ≡ None → p ≡ resolved_program input → (r : IsRewriting p o w.minified) × (r.output ≡ q) → w.before ≡ capped (weight Elsewhere p) → w.after ≡ capped (weight Elsewhere q) → IsWeighedAnswer input o w
weighed_of input p q o w free is made before after =
    let moved : (r : IsRewriting (resolved_program input) o w.minified) × (r.output ≡ q) = subst (λ t. (r : IsRewriting t o w.minified) × (r.output ≡ q)) is made in
    record { answer = record { free = free; rewriting = moved.0 }; before = before ∙ ap (λ t. capped (weight Elsewhere t)) is; after = after ∙ ap (λ t. capped (weight Elsewhere t)) (sym moved.1) }
