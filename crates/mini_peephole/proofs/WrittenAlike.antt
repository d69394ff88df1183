-- What is written for a tree is its text alone: numbers, symbols and the names of declarators
-- aren't.
use Rattle.std.proofs.Common.{◌≡◌, List, [], ◌∷◌, refl, sym, ap, ◌∙◌}
use Rattle.serde_json.specs.Data.{Items, item}
use Rattle.mini_model.specs.declared.name.Name.{Name}
use Rattle.mini_model.specs.declared.shape.Shape.{Shape}
use Rattle.mini_model.specs.declared.shape.Shape.TheVariants as shape
use Rattle.mini_model.specs.Tree.{Tree, Trees, node, none, ◌▸◌}
use Rattle.mini_laws.specs.Symbols.{bare_names}
use Rattle.mini_writer.specs.Bare.{bare, bares}
use Rattle.mini_writer.specs.Written.{node_data, tree_data, trees_data, program_data}
use Rattle.mini_kept.proofs.Texts.{text}
use Rattle.mini_peephole.proofs.Written.{same_text}

own_same : (h : Shape) (xs : List Name) (ds : Items) → node_data h (bare_names h xs) ds ≡ node_data h xs ds
own_same shape.Identifier [] ds = refl
own_same shape.Identifier (x ∷ xs) ds = refl
own_same shape.BindingIdentifier [] ds = refl
own_same shape.BindingIdentifier (x ∷ xs) ds = refl
own_same h xs ds = refl

mutual
  data_same : (t : Tree) → tree_data (bare t) ≡ tree_data t
  data_same (node h xs n ts) = ap (node_data h (bare_names h xs)) (all_data_same ts) ∙ own_same h xs (trees_data ts)

  all_data_same : (ts : Trees) → trees_data (bares ts) ≡ trees_data ts
  all_data_same none = refl
  all_data_same (t ▸ ts) = λ i. item (data_same t i) (all_data_same ts i)

pub written_alike : (t u : Tree) → text t ≡ text u → program_data t ≡ program_data u
unfolding program_data
written_alike t u e = sym (data_same t) ∙ ap tree_data (same_text t ∙ e ∙ sym (same_text u)) ∙ data_same u
