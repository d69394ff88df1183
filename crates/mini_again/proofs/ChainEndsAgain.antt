-- Rows at the ends of chains read a node that is read again.
use Rattle.mini_again.proofs.ChainLinksAgain.{again_marked, are_calm_over_again, links_over_again}
use Rattle.mini_again.proofs.ChainsAgain.{again_link, is_calm_again, is_calm_link_again, linked_again}
use Rattle.mini_again.proofs.ListsAgain.{encloses_again}
use Rattle.mini_again.proofs.TermEffectsAgain.{ef_again}
use Rattle.mini_again.proofs.TermKindAgain.{kind_again}
use Rattle.mini_again.proofs.TermReadingAgain.{stands_again}
use Rattle.mini_again.specs.Again.{Renaming, again, all_again}
use Rattle.mini_model.specs.Tree.{Tree, Trees, none, ◌▸◌}
use Rattle.mini_rows.specs.ChainEnds.{EndRow, Row10, Row10Then, enclose, key_of, keys_over}
use Rattle.mini_rows.specs.ChainLinks.{Marked, links_over, marked}
use Rattle.mini_rows.specs.Chains.{Link, a_call, a_computed, a_member, linked}
use Rattle.std.proofs.Common.{ap, inl, inr}
use Rattle.std.specs.Prelude.{List, [], false, map, refl, true, ◌∷◌, ◌≡◌}

pub row10_again : (ρ : Renaming) (n w : Tree) → Row10 n w → Row10 (again ρ n) (again ρ w)
row10_again ρ n w r = record {
  others = map (again_marked ρ) r.others;
  link = again_link ρ r.link;
  base = again ρ r.base;
  known = simp (kind_again ρ r.base) r.known;
  idle = simp (ef_again ρ true r.base) r.idle;
  calm = simp (is_calm_link_again ρ r.link) r.calm;
  calm_others = simp (are_calm_over_again ρ r.others) r.calm_others;
  dropped = simp (linked_again ρ true r.link r.base, links_over_again ρ r.others (linked true r.link r.base), encloses_again ρ false (links_over r.others (linked true r.link r.base))) r.dropped;
  shape = simp (← (linked_again ρ true r.link r.base), ← (links_over_again ρ r.others (linked true r.link r.base))) at (ap (again ρ) r.shape);
  written = ap (again ρ) r.written;
}

pub enclose_again : (ρ : Renaming) (ts : Trees) → enclose (all_again ρ ts) ≡ enclose ts
enclose_again ρ none = refl
enclose_again ρ (t ▸ ts) = simp (encloses_again ρ false t, enclose_again ρ ts)

pub key_of_again : (ρ : Renaming) (l : Link) → key_of (again_link ρ l) ≡ again ρ (key_of l)
key_of_again ρ (a_member k) = refl
key_of_again ρ (a_computed k) = refl
key_of_again ρ (a_call ts) = refl

pub keys_over_again : (ρ : Renaming) (m : List Marked) → keys_over (map (again_marked ρ) m) ≡ all_again ρ (keys_over m)
keys_over_again ρ [] = refl
keys_over_again ρ (marked o l ∷ ms) = simp (key_of_again ρ l, keys_over_again ρ ms)

pub row10_then_again : (ρ : Renaming) (n w : Tree) → Row10Then n w → Row10Then (again ρ n) (again ρ w)
row10_then_again ρ n w r = record {
  others = map (again_marked ρ) r.others;
  link = again_link ρ r.link;
  base = again ρ r.base;
  known = simp (kind_again ρ r.base) r.known;
  acts = simp (ef_again ρ true r.base) r.acts;
  value = simp (stands_again ρ r.base) r.value;
  calm_base = simp (is_calm_again ρ r.base) r.calm_base;
  calm = simp (is_calm_link_again ρ r.link) r.calm;
  calm_others = simp (are_calm_over_again ρ r.others) r.calm_others;
  dropped = simp (key_of_again ρ r.link, keys_over_again ρ r.others, enclose_again ρ (key_of r.link ▸ keys_over r.others)) r.dropped;
  shape = simp (← (linked_again ρ true r.link r.base), ← (links_over_again ρ r.others (linked true r.link r.base))) at (ap (again ρ) r.shape);
  written = ap (again ρ) r.written;
}

pub end_row_again : (ρ : Renaming) (n w : Tree) → EndRow n w → EndRow (again ρ n) (again ρ w)
end_row_again ρ n w (inl r) = inl (row10_again ρ n w r)
end_row_again ρ n w (inr r) = inr (row10_then_again ρ n w r)
