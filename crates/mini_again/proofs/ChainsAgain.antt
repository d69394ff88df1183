-- Chains that are read again.
use Rattle.mini_again.proofs.ModelTreeAgain.{shape_of_again}
use Rattle.mini_again.proofs.Names.{if_again, none_again}
use Rattle.mini_again.proofs.SpellingsAgain.{is_undefined_again}
use Rattle.mini_again.proofs.TermExactAgain.{is_guarded_again}
use Rattle.mini_again.specs.Again.{Renaming, again, all_again}
use Rattle.mini_laws.specs.Renaming.{rename_name}
use Rattle.mini_model.specs.Tree.{Tree, Trees, identifier, node, none, ◌▸◌}
use Rattle.mini_model.specs.declared.name.Name.{Name}
use Rattle.mini_model.specs.declared.seat.Seat.{Seat}
use Rattle.mini_rows.specs.Chains.{Link, Row46Chain, a_call, a_computed, a_member, are_calm, are_calm_links, chain, if_nullish, is_calm, is_calm_link, linked, spine}
use Rattle.mini_terms.specs.Exact.{by_value, is_guarded}
use Rattle.std.proofs.Common.{ap}
use Rattle.std.specs.Prelude.{Bool, List, [], false, map, refl, true, ◌∷◌, ◌≡◌}

abbrev pub again_link : Renaming → Link → Link
again_link ρ (a_member a) = a_member (again ρ a)
again_link ρ (a_computed a) = a_computed (again ρ a)
again_link ρ (a_call a) = a_call (all_again ρ a)

mutual
  pub are_calm_again : (ρ : Renaming) (ts : Trees) → are_calm (all_again ρ ts) ≡ are_calm ts
  are_calm_again ρ none = refl
  are_calm_again ρ (t ▸ ts) = simp (is_calm_again ρ t, are_calm_again ρ ts)

  pub is_calm_again : (ρ : Renaming) (t : Tree) → is_calm (again ρ t) ≡ is_calm t
  is_calm_again ρ (node h xs n ts) = simp (are_calm_again ρ ts)

pub is_calm_link_again : (ρ : Renaming) (l : Link) → is_calm_link (again_link ρ l) ≡ is_calm_link l
is_calm_link_again ρ (a_member k) = simp (shape_of_again ρ k)
is_calm_link_again ρ (a_computed k) = simp (is_calm_again ρ k)
is_calm_link_again ρ (a_call ts) = simp (are_calm_again ρ ts)

pub are_calm_links_again : (ρ : Renaming) (l : Link) (l' : List Link) → are_calm_links (again_link ρ l) (map (again_link ρ) l') ≡ are_calm_links l l'
are_calm_links_again ρ l [] = simp (is_calm_link_again ρ l)
are_calm_links_again ρ l (m ∷ ls) = simp (is_calm_link_again ρ l, are_calm_links_again ρ m ls)

pub if_nullish_again : (ρ : Renaming) (b : Bool) (x : Name) (a t : Tree) → if_nullish b (rename_name ρ.symbol x) (again ρ a) (again ρ t) ≡ again ρ (if_nullish b x a t)
if_nullish_again ρ true x a b = refl
if_nullish_again ρ false x a b = refl

pub linked_again : (ρ : Renaming) (is_optional : Bool) (l : Link) (t : Tree) → linked is_optional (again_link ρ l) (again ρ t) ≡ again ρ (linked is_optional l t)
linked_again ρ is_optional (a_member k) t = refl
linked_again ρ is_optional (a_computed k) t = refl
linked_again ρ is_optional (a_call ts) t = refl

pub spine_again : (ρ : Renaming) (is_optional : Bool) (x : Tree) (l : Link) (l' : List Link) → spine is_optional (again ρ x) (again_link ρ l) (map (again_link ρ) l') ≡ again ρ (spine is_optional x l l')
spine_again ρ is_optional x l [] = simp (linked_again ρ is_optional l x)
spine_again ρ is_optional x l (m ∷ ls) = simp (spine_again ρ is_optional x m ls, linked_again ρ false l (spine is_optional x m ls))

pub row46_chain_again : (ρ : Renaming) (s : Seat) (n w : Tree) → Row46Chain s n w → Row46Chain s (again ρ n) (again ρ w)
row46_chain_again ρ s n w r = record {
  equal = r.equal;
  name = rename_name ρ.symbol r.name;
  missing = again ρ r.missing;
  last = again_link ρ r.last;
  others = map (again_link ρ) r.others;
  declared = simp (none_again ρ r.name.symbol) r.declared;
  indirect = r.indirect;
  undefined = is_undefined_again ρ r.missing r.undefined;
  calm = simp (are_calm_links_again ρ r.last r.others) r.calm;
  shape = simp (← (spine_again ρ false (identifier r.name) r.last r.others), ← (if_nullish_again ρ r.equal r.name r.missing (spine false (identifier r.name) r.last r.others))) at (ap (again ρ) r.shape);
  written = simp (← (is_guarded_again ρ s.guard (chain (spine true (identifier r.name) r.last r.others)))) at (simp (← (if_again ρ (is_guarded s.guard (chain (spine true (identifier r.name) r.last r.others))) (by_value (chain (spine true (identifier r.name) r.last r.others))) (chain (spine true (identifier r.name) r.last r.others))), ← (spine_again ρ true (identifier r.name) r.last r.others)) at (ap (again ρ) r.written));
}
