-- The last of some nodes.
use Rattle.std.specs.Prelude.{◌≡◌, refl}
use Rattle.std.proofs.Common.{ap, ◌∙◌, sym, arith}
use Rattle.mini_model.specs.Tree.{Tree, Trees, node, none, ◌▸◌, absent, children, count}
use Rattle.mini_model.specs.Paths.{append}
use Rattle.mini_node.specs.Lends.{with_children}
use Rattle.mini_inside.specs.Further.{pushed}

abbrev first_ones : Trees → Trees
first_ones none = none
first_ones (t ▸ none) = none
first_ones (t ▸ (u ▸ ts)) = t ▸ first_ones (u ▸ ts)

abbrev last_one : Trees → Tree
last_one none = absent
last_one (t ▸ none) = t
last_one (t ▸ (u ▸ ts)) = last_one (u ▸ ts)

first_of_appended : (ts : Trees) (t : Tree) → first_ones (append ts (t ▸ none)) ≡ ts
first_of_appended none t = refl
first_of_appended (u ▸ none) t = refl
first_of_appended (u ▸ (v ▸ ts)) t = ap (λ us. u ▸ us) (first_of_appended (v ▸ ts) t)

last_of_appended : (ts : Trees) (t : Tree) → last_one (append ts (t ▸ none)) ≡ t
last_of_appended none t = refl
last_of_appended (u ▸ none) t = refl
last_of_appended (u ▸ (v ▸ ts)) t = last_of_appended (v ▸ ts) t

children_pushed : (a t : Tree) → children (pushed a t) ≡ append (children a) (t ▸ none)
children_pushed (node h xs n ts) t = refl

some_appended : (ts : Trees) (t : Tree) → none ≡ append ts (t ▸ none) → ⊥
some_appended none t e = let c = ap count e in absurd (omega (arith, c))
some_appended (u ▸ ts) t e = let c = ap count e in absurd (omega (arith, c))

-- what is popped was pushed
pub popped_node : (ts : Trees) (l : Tree) (o a t : Tree) → children o ≡ append ts (l ▸ none) → o ≡ pushed a t → l ≡ t
popped_node ts l o a t e f = sym (last_of_appended ts l) ∙ ap last_one (sym e ∙ ap children f ∙ children_pushed a t) ∙ last_of_appended (children a) t

pub popped_rest : (ts : Trees) (l : Tree) (o a t : Tree) → children o ≡ append ts (l ▸ none) → o ≡ pushed a t → ts ≡ children a
popped_rest ts l o a t e f = sym (first_of_appended ts l) ∙ ap first_ones (sym e ∙ ap children f ∙ children_pushed a t) ∙ first_of_appended (children a) t

pub none_popped : (o a t : Tree) → children o ≡ none → o ≡ pushed a t → ⊥
none_popped o a t e f = some_appended (children a) t (sym e ∙ ap children f ∙ children_pushed a t)

-- with those left in it, it is as it was
pub left_of_pushed : (ts : Trees) (l : Tree) (o a t : Tree) → children o ≡ append ts (l ▸ none) → o ≡ pushed a t → with_children o ts ≡ a
left_of_pushed ts l o (node h xs n vs) t e f = let left = popped_rest ts l o (node h xs n vs) t e f in λ j. with_children (f j) (left j)
