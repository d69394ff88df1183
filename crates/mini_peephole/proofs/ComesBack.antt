-- A settled answer that is given again comes back: nothing is left to rewrite in it, whatever its
-- symbols and numbers are.
use Rattle.std.proofs.Common.{◌≡◌, ◌<◌, ◌^◌, true, refl, sym, ap, ◌∙◌, subst}
use Rattle.std.specs.Prelude.{None}
use Rattle.serde_json.specs.Data.{Data}
use Rattle.serde_json.specs.View.{view}
use Rattle.mini_model.specs.declared.place.Position.TheVariants.{Elsewhere}
use Rattle.mini_model.specs.Tree.{Tree}
use Rattle.mini_model.specs.Weight.{weight}
use Rattle.mini_laws.specs.Resolved.{resolved_program}
use Rattle.mini_accept.specs.Accept.{Accepts}
use Rattle.mini_accept.proofs.Depths.{one_tree}
use Rattle.mini_kept.proofs.Texts.{text, text_resolved}
use Rattle.mini_scope.specs.Pointers.{early_fault}
use Rattle.mini_tree.specs.declared.options.CompressOptions.{CompressOptions}
use Rattle.mini_writer.specs.Written.{program_data}
use Rattle.mini_peephole.specs.ComesBack.{ComesBack}
use Rattle.mini_peephole.specs.Faithful.{IsRewritten}
use Rattle.mini_peephole.specs.Minified.{IsMinified, IsRewriting}
use Rattle.mini_peephole.specs.declared.minify.Minified.{Minified}
use Rattle.mini_peephole.proofs.Faith as faith
use Rattle.mini_peephole.proofs.SeenLater.{seen_later}
use Rattle.mini_peephole.proofs.Survives.{rewritten_survives}
use Rattle.mini_peephole.proofs.WrittenAlike.{written_alike}

module _ (d : Data) (o : CompressOptions) (m : Minified) (t : Tree) (read : Accepts d t) (free : early_fault t ≡ None) (r : IsRewriting (resolved_program t) o m) (light : weight Elsewhere t < 2 ^ 32) where
  -- the tree that a later run reads
  abbrev seen : Tree
  seen = (faith.again d o m t read free r).0

  rewritten_there : m.settled ≡ true → IsRewritten o (resolved_program seen)
  rewritten_there s =
      let last : IsRewritten o r.output = subst (IsRewritten o) (faith.whole_is d o m t read free r) ((faith.faithful_there d o m t read free r light).kept.settled s) in
      let (ρ, far, same) = seen_later t r.output seen (faith.again d o m t read free r).1.1 (faith.back d o m t read free r) (faith.answer_read d o m t read free r) in
      rewritten_survives ρ far o (resolved_program seen) (subst (IsRewritten o) (sym same) last)

  rewritten_again : m.settled ≡ true → (u : Tree) → Accepts (view m.program) u → IsRewritten o (resolved_program u)
  rewritten_again s u a = subst (λ w. IsRewritten o (resolved_program w)) (one_tree (view m.program) seen u (faith.written d o m t read free r) a) (rewritten_there s)

  same_again : m.settled ≡ true → (n : Minified) → IsMinified (view m.program) o n → (view n.program ≡ view m.program) × (n.passes ≡ 1) × (n.settled ≡ true)
  same_again s n i =
      let here = rewritten_again s i.input i.accepted in
      let passes = i.answer.rewriting.passes in
      let (kept, one, ended) = (faith.passes_bounded (view m.program) o n i.input i.accepted i.answer.free i.answer.rewriting).fixed i.input i.accepted here in
      let stays : i.answer.rewriting.output ≡ resolved_program i.input = faith.no_pass_moves o (resolved_program i.input) here passes.reached refl in
      let read_is : i.input ≡ seen = one_tree (view m.program) i.input seen i.accepted (faith.written d o m t read free r) in
      let alike : text (resolved_program i.input) ≡ text r.output = text_resolved i.input ∙ ap text read_is ∙ (faith.again d o m t read free r).2 in
      (i.answer.rewriting.written ∙ ap program_data stays ∙ written_alike (resolved_program i.input) r.output alike ∙ sym r.written, one, ended)

  pub comes_back : ComesBack o m
  comes_back = record { settled = rewritten_again; same = same_again }
