-- What losing dead items and passes come to stands for the program that was read.
use Rattle.std.proofs.Common.{◌≡◌, ◌+◌, ◌<◌, ◌≤◌, ◌^◌, max, [], sym, ap, ◌∙◌, subst, arith}
use Rattle.std.specs.Prelude.{None, Contains}
use Rattle.serde_json.specs.Data.{Data}
use Rattle.mini_model.specs.declared.place.Position.TheVariants.{Elsewhere}
use Rattle.mini_model.specs.Tree.{Tree}
use Rattle.mini_model.specs.Weight.{weight, program_weight}
use Rattle.mini_accept.specs.Accept.{Accepts}
use Rattle.mini_accept.specs.WellShaped.{IsWellShaped}
use Rattle.mini_laws.specs.Resolved.{resolved_program}
use Rattle.mini_laws.specs.declared.names.Use.TheVariants.{Read}
use Rattle.mini_laws.proofs.Places.{resolved_distinct}
use Rattle.mini_laws.proofs.Whole.{scoped}
use Rattle.mini_scope.specs.Pointers.{early_fault}
use Rattle.mini_kept.specs.Carried.{numbers, carried}
use Rattle.mini_kept.specs.Declaring.{declared}
use Rattle.mini_kept.proofs.InPreorder.{in_preorder, numbers_resolved}
use Rattle.mini_kept.proofs.ReadBack.{IsRead, IsReadBack, read_back}
use Rattle.mini_kept.proofs.SameEarly.{names_resolved}
use Rattle.mini_kept.proofs.SameShape.{shaped_resolved}
use Rattle.mini_kept.proofs.Texts.{text}
use Rattle.mini_shrink.specs.SameForeign.{DeclaresOnce}
use Rattle.mini_tree.specs.declared.options.CompressOptions.{CompressOptions}
use Rattle.mini_dead.specs.Dead.{dead_count}
use Rattle.mini_dead.specs.Drops.{NumbersOnce, times_in}
use Rattle.mini_dead.specs.KeptNames.{NamesStay}
use Rattle.mini_rows.specs.Forms.{IsWithinEdition}
use Rattle.mini_writer.specs.Written.{program_data}
use Rattle.mini_peephole.specs.Faithful as faith
use Rattle.mini_peephole.specs.Faithful.{symbols_of, IsRewritten}
use Rattle.mini_peephole.specs.declared.minify.Minified.{Minified}
use Rattle.mini_peephole.proofs.AnyPasses.{named}
use Rattle.mini_peephole.proofs.Heaviest.{resolved_lighter}
use Rattle.mini_peephole.proofs.Rules.{all_rest}
use Rattle.mini_peephole.proofs.Written.{is_read, free_of, read_again}
use Rattle.mini_shaken.specs.Chain.{Chain}
use Rattle.mini_shaken.specs.Shaking.{IsShakenAnswer}
use Rattle.mini_shaken.specs.Shaken.{StandsLess, StandsRewritten, IsShaken, Shaken}
use Rattle.mini_shaken.proofs.Forms.{links_within}
use Rattle.mini_shaken.proofs.Links.{links_stand}
use Rattle.mini_shaken.proofs.Names.{same_times}

-- the names of a program that was just resolved are
pub resolved_once : (t : Tree) → IsWellShaped t → early_fault t ≡ None → DeclaresOnce (resolved_program t)
resolved_once t e free = record { shaped = shaped_resolved t e; scoped = scoped Read [] 0 t; distinct = resolved_distinct t; once = names_resolved [] t ∙ (free_of t free).0 }

module _ (d : Data) (o : CompressOptions) (m : Minified) (t : Tree) (read : Accepts d t) (a : IsShakenAnswer t o m) where
  start : IsRead t read.1
  start = is_read d read.0 read.1 t read.2

  first : DeclaresOnce (resolved_program t)
  first = resolved_once t start.shaped a.free

  once : NumbersOnce (resolved_program t)
  once n =
      let one = (in_preorder t read.1 start.preorder).once n in
      let same = ap (times_in n) (numbers_resolved t) in
      let counts = same_times n (numbers t) in
      omega (arith, one, same, counts)

  stood : Chain StandsLess (StandsRewritten o) m.passes (resolved_program t) a.output × NamesStay (resolved_program t) a.output
  stood = links_stand o m.passes (resolved_program t) a.output a.shakes.links first once

  abbrev again : (u : Tree) × Accepts (program_data a.output) u × (text u ≡ text a.output)
  again = read_again a.output (stood.1.keeps.shaped first.shaped)

  back : IsReadBack t a.output again.0
  back = read_back t a.output again.0 read.1 again.1.1 start (is_read (program_data a.output) again.1.0 again.1.1 again.0 again.1.2) stood.1.keeps stood.1.root again.2

  whole : faith.later m again.0 ≡ a.output
  whole = (λ k. carried (a.tells.kept k) (symbols_of (a.tells.symbols k)) (resolved_program again.0)) ∙ back.later

  stands : weight Elsewhere t < 2 ^ 32 → IsShaken o m t again.0
  stands light =
      let some = a.shakes.some_pass in
      let falls = a.shakes.lighter in
      let less = resolved_lighter t start.unresolved in
      record {
        names = back.names (free_of t a.free).0;
        jumps = back.jumps (free_of t a.free).1;
        named = named m t a.output again.0 back a.tells.kept a.tells.symbols;
        spelled = λ x c. stood.1.declares x (subst (λ w. Contains (declared w) x) whole c);
        links = subst (Chain StandsLess (StandsRewritten o) m.passes (resolved_program t)) (sym whole) stood.0;
        forms = subst (IsWithinEdition o.edition (resolved_program t)) (sym whole) (links_within o m.passes (resolved_program t) a.output a.shakes.links);
        weight = subst (λ w. program_weight w ≤ program_weight (resolved_program t)) (sym whole) (omega (arith, some, falls));
        none_dead = ap dead_count whole ∙ a.shakes.none_dead;
        some_pass = some;
        within = a.shakes.within;
        settled = λ e. subst (λ w. IsRewritten o w × (program_weight w + m.passes ≤ program_weight (resolved_program t) + 1)) (sym whole) (all_rest o a.output (omega (arith, some, falls, less, light)) (a.shakes.ended e), falls);
        unsettled = λ e.
            let (same, fell) = a.shakes.stopped e in
            (same, subst (λ w. program_weight w + max o.passes 1 ≤ program_weight (resolved_program t)) (sym whole) (omega (arith, same, fell)));
      }

  pub shaken : weight Elsewhere t < 2 ^ 32 → Shaken d o m
  shaken light = record { input = t; output = again.0; accepted = read; answered = subst (λ w. Accepts w again.0) (sym a.tells.written) again.1; shaken = stands light }
