-- Each link of a chain keeps what programs do, and the whole chain keeps a program's names.
use Rattle.std.specs.Prelude.{ℕ}
use Rattle.mini_model.specs.Tree.{Tree}
use Rattle.mini_laws.specs.Writable.{writable_by}
use Rattle.mini_kept.specs.Loosely.{ProgramIsKeptUnder}
use Rattle.mini_kept.proofs.WithoutLists.{each_itself}
use Rattle.mini_rows.specs.Switches.{let_go}
use Rattle.mini_shrink.specs.Exact.{exactly_of}
use Rattle.mini_shrink.specs.SameForeign.{DeclaresOnce}
use Rattle.mini_tree.specs.Passes.{no_pass, one_more}
use Rattle.mini_tree.specs.declared.options.CompressOptions.{CompressOptions}
use Rattle.mini_dead.specs.Drops.{NumbersOnce}
use Rattle.mini_dead.specs.KeptNames.{NamesStay}
use Rattle.mini_dead.proofs.Again.{dropped_bodies_stay}
use Rattle.mini_dead.proofs.Frames.{drops_keep_frames}
use Rattle.mini_dead.proofs.KeptNames.{drops_keep_names}
use Rattle.mini_dead.proofs.ProgramFrame.{drops_keep_program}
use Rattle.mini_peephole.specs.Environments.{steady_in}
use Rattle.mini_peephole.specs.Faithful.{switches}
use Rattle.mini_peephole.specs.Rules.{AllGives}
use Rattle.mini_peephole.proofs.AnyPasses.{passes_begin, passes_keep, bodies_same}
use Rattle.mini_peephole.proofs.Known.{known_is_so}
use Rattle.mini_peephole.proofs.Rules.{all_lawful, all_known}
use Rattle.mini_shaken.specs.Chain.{Chain, no_link, a_loss, a_pass}
use Rattle.mini_shaken.specs.Shaking.{LosesDead, IsPass}
use Rattle.mini_shaken.specs.Shaken.{StandsLess, StandsRewritten}
use Rattle.mini_shaken.proofs.Lighter.{drops_lighter}
use Rattle.mini_shaken.proofs.Names.{names_here, names_through, names_still, numbers_still}

-- ---- names

pub lost_names : (t u : Tree) → LosesDead t u → NamesStay t u
lost_names t u w = drops_keep_names t u w.0 w.1

module _ (o : CompressOptions) where
  kept : (t u : Tree) → DeclaresOnce t → IsPass o t u → ProgramIsKeptUnder (let_go (switches o)) (writable_by t) (steady_in u) t u
  kept t u e p =
      let r = one_more 0 t t u (no_pass t) p.steps in
      passes_keep exactly_of (steady_in u) (AllGives o) o (all_lawful o) r e (passes_begin exactly_of steady_in (AllGives o) o (all_lawful o) (all_known o) known_is_so r e)

  pub pass_names : (t u : Tree) → DeclaresOnce t → IsPass o t u → NamesStay t u
  pass_names t u e p = let k = kept t u e p in record { keeps = k.names; declares = k.declared; root = k.root }

  -- ---- links

  less : (t u : Tree) → DeclaresOnce t → NumbersOnce t → LosesDead t u → StandsLess t u
  less t u e once (n, w) = record {
    gone = n;
    drops = w;
    bodies = dropped_bodies_stay t u n w e.shaped once;
    frames = drops_keep_frames t u n w e.shaped;
    program = drops_keep_program t u n w e.shaped e.scoped;
    weight = drops_lighter t u n w;
  }

  rewritten : (t u : Tree) → DeclaresOnce t → IsPass o t u → StandsRewritten o t u
  rewritten t u e p =
      let k = kept t u e p in
      record { pass = p; bodies = bodies_same (let_go (switches o)) (steady_in u) t u k (each_itself (steady_in u)) e.shaped e.scoped e.distinct; frames = k.frames e.scoped e.distinct }

  pub links_stand : (n : ℕ) (t u : Tree) → Chain LosesDead (IsPass o) n t u → DeclaresOnce t → NumbersOnce t → Chain StandsLess (StandsRewritten o) n t u × NamesStay t u
  links_stand _ _ _ (no_link t) e once = (no_link t, names_here t)
  links_stand _ _ _ (a_loss n t u v c w) e once =
      let (links, names) = links_stand n t u c e once in
      (a_loss n t u v links (less u v (names_still t u names e) (numbers_still t u names e.shaped once) w), names_through t u v names (lost_names u v w))
  links_stand _ _ _ (a_pass n t u v c p) e once =
      let (links, names) = links_stand n t u c e once in
      let after = names_still t u names e in
      (a_pass n t u v links (rewritten u v after p), names_through t u v names (pass_names u v after p))
