-- A place in a tree that is read again.
use Rattle.mini_again.specs.Again.{Renaming, again, all_again, other_number}
use Rattle.mini_laws.specs.Path.{Path, here, inside, join, plug}
use Rattle.mini_laws.specs.Renaming.{rename_name}
use Rattle.mini_model.specs.Tree.{Tree, Trees, none, ◌▸◌}
use Rattle.std.specs.Prelude.{map, refl, ◌≡◌}

abbrev pub again_path : Renaming → Path → Path
again_path ρ here = here
again_path ρ (inside a0 a1 a2 a3 a4 a5) = inside a0 (map (rename_name ρ.symbol) a1) (other_number ρ a2) (all_again ρ a3) (again_path ρ a4) (all_again ρ a5)

pub join_again : (ρ : Renaming) (ts : Trees) (c : Tree) (post : Trees) → join (all_again ρ ts) (again ρ c) (all_again ρ post) ≡ all_again ρ (join ts c post)
join_again ρ none c post = refl
join_again ρ (b ▸ pre) c post = simp (join_again ρ pre c post)

pub plug_again : (ρ : Renaming) (here : Path) (c : Tree) → plug (again_path ρ here) (again ρ c) ≡ again ρ (plug here c)
plug_again ρ here c = refl
plug_again ρ (inside h xs n pre k post) c = simp (plug_again ρ k c, join_again ρ pre (plug k c) post)
