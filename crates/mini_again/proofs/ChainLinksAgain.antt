-- Rows of the links of chains read a node that is read again.
use Rattle.mini_again.proofs.ChainsAgain.{again_link, is_calm_again, is_calm_link_again, linked_again}
use Rattle.mini_again.proofs.ModelTreeAgain.{shape_of_again}
use Rattle.mini_again.proofs.TermKindAgain.{kind_again}
use Rattle.mini_again.proofs.TermReadingAgain.{is_plain_part_again}
use Rattle.mini_again.specs.Again.{Renaming, again}
use Rattle.mini_model.specs.Tree.{Tree}
use Rattle.mini_model.specs.declared.seat.Seat.{Seat}
use Rattle.mini_rows.specs.ChainLinks.{ChainRow, Marked, Row11, Row64, are_calm_over, chain_if, has_mark, links_over, marked}
use Rattle.mini_rows.specs.Chains.{chain, linked}
use Rattle.std.proofs.Common.{ap, inl, inr}
use Rattle.std.specs.Prelude.{Bool, List, [], false, map, refl, true, ◌∷◌, ◌≡◌}

abbrev pub again_marked : Renaming → Marked → Marked
again_marked ρ (marked a0 a1) = marked a0 (again_link ρ a1)

pub are_calm_over_again : (ρ : Renaming) (m : List Marked) → are_calm_over (map (again_marked ρ) m) ≡ are_calm_over m
are_calm_over_again ρ [] = refl
are_calm_over_again ρ (marked o l ∷ ms) = simp (is_calm_link_again ρ l, are_calm_over_again ρ ms)

pub chain_if_again : (ρ : Renaming) (b : Bool) (t : Tree) → chain_if b (again ρ t) ≡ again ρ (chain_if b t)
chain_if_again ρ true t = refl
chain_if_again ρ false t = refl

pub has_mark_again : (ρ : Renaming) (m : List Marked) → has_mark (map (again_marked ρ) m) ≡ has_mark m
has_mark_again ρ [] = refl
has_mark_again ρ (marked o l ∷ ms) = simp (has_mark_again ρ ms)

pub links_over_again : (ρ : Renaming) (m : List Marked) (t : Tree) → links_over (map (again_marked ρ) m) (again ρ t) ≡ again ρ (links_over m t)
links_over_again ρ [] t = refl
links_over_again ρ (marked o l ∷ ms) t = simp (links_over_again ρ ms t, linked_again ρ o l (links_over ms t))

pub row11_again : (ρ : Renaming) (s : Seat) (n w : Tree) → Row11 s n w → Row11 s (again ρ n) (again ρ w)
row11_again ρ s n w r = record {
  others = map (again_marked ρ) r.others;
  link = again_link ρ r.link;
  base = again ρ r.base;
  known = simp (kind_again ρ r.base) r.known;
  plain = simp (is_plain_part_again ρ r.base) r.plain;
  value = simp (shape_of_again ρ r.base) r.value;
  calm_base = simp (is_calm_again ρ r.base) r.calm_base;
  calm = simp (is_calm_link_again ρ r.link) r.calm;
  calm_others = simp (are_calm_over_again ρ r.others) r.calm_others;
  called = r.called;
  shape = simp (← (linked_again ρ true r.link r.base), ← (links_over_again ρ r.others (linked true r.link r.base))) at (ap (again ρ) r.shape);
  written = simp (← (has_mark_again ρ r.others)) at (simp (← (linked_again ρ false r.link r.base), ← (links_over_again ρ r.others (linked false r.link r.base)), ← (chain_if_again ρ (has_mark r.others) (links_over r.others (linked false r.link r.base)))) at (ap (again ρ) r.written));
}

pub row64_again : (ρ : Renaming) (n w : Tree) → Row64 n w → Row64 (again ρ n) (again ρ w)
row64_again ρ n w r = record {
  others = map (again_marked ρ) r.others;
  link = again_link ρ r.link;
  inner = again ρ r.inner;
  held = simp (shape_of_again ρ r.inner) r.held;
  calm = simp (is_calm_link_again ρ r.link) r.calm;
  calm_others = simp (are_calm_over_again ρ r.others) r.calm_others;
  shape = simp (← (linked_again ρ true r.link (chain r.inner)), ← (links_over_again ρ r.others (linked true r.link (chain r.inner)))) at (ap (again ρ) r.shape);
  written = simp (← (linked_again ρ true r.link r.inner), ← (links_over_again ρ r.others (linked true r.link r.inner))) at (ap (again ρ) r.written);
}

pub chain_row_again : (ρ : Renaming) (s : Seat) (n w : Tree) → ChainRow s n w → ChainRow s (again ρ n) (again ρ w)
chain_row_again ρ s n w (inl r) = inl (row64_again ρ n w r)
chain_row_again ρ s n w (inr r) = inr (row11_again ρ s n w r)
