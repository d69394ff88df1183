-- A tree is a name again where it is the name.
use Rattle.std.specs.Prelude.{◌≡◌, refl, ℕ, zero, suc, Bool, true, false, List, [], ◌∷◌, Option, Some, None}
use Rattle.std.proofs.Common.{ap, ◌∙◌, sym, subst}
use Rattle.std.proofs.lemmas.Bool.{eqb-true, eq-eqb, false≢true}
use Rattle.mini_laws.specs.Renaming.{rename_name, rename_symbol}
use Rattle.mini_model.specs.declared.name.Name.{Name}
use Rattle.mini_model.specs.declared.name.SymbolId.{SymbolId}
use Rattle.mini_model.specs.Tree.{Tree, node, none, ◌▸◌, identifier, shape_of}
use Rattle.mini_node.specs.Children.{names_of}
use Rattle.mini_node.specs.Equal.{same_tree}
use Rattle.mini_node.proofs.Equality.{tree_same, tree_itself}
use Rattle.mini_again.specs.Again.{Renaming, again}

same_number : (ρ : Renaming) (m n : ℕ) → ρ.symbol m ≡ ρ.symbol n → m ≡ n
same_number ρ m n e = eqb-true m n (sym (ρ.apart m n) ∙ eq-eqb (ρ.symbol m) (ρ.symbol n) e)

number_in : Option SymbolId → ℕ
number_in (Some s) = s.0
number_in None = 0

same_symbol : (ρ : Renaming) (r s : Option SymbolId) → rename_symbol ρ.symbol r ≡ rename_symbol ρ.symbol s → r ≡ s
unfolding number_in
same_symbol ρ None None e = refl
same_symbol ρ None (Some s) e = cc
same_symbol ρ (Some r) None e = cc
same_symbol ρ (Some r) (Some s) e = ap (λ k. Some (record { 0 = k })) (same_number ρ r.0 s.0 (ap number_in e))

first_or : Name → List Name → Name
first_or x [] = x
first_or x (y ∷ ys) = y

same_name : (ρ : Renaming) (x y : Name) → rename_name ρ.symbol x ≡ rename_name ρ.symbol y → x ≡ y
same_name ρ x y e = let s = same_symbol ρ x.symbol y.symbol (ap (λ (z : Name). z.symbol) e) in λ i. record { spelling = (e i).spelling; symbol = s i }

is_identifier_again : (ρ : Renaming) (x : Name) (t : Tree) → identifier (rename_name ρ.symbol x) ≡ again ρ t → identifier x ≡ t
unfolding first_or
is_identifier_again ρ x (node h (y ∷ []) zero none) e =
    let shapes = ap shape_of e in
    let names = same_name ρ x y (ap (λ (t : Tree). first_or x (names_of t)) e) in
    λ i. node (shapes i) (names i ∷ []) 0 none
is_identifier_again ρ x (node h [] n ts) e = cc
is_identifier_again ρ x (node h (y ∷ (z ∷ zs)) n ts) e = cc
is_identifier_again ρ x (node h (y ∷ []) (suc n) ts) e = cc
is_identifier_again ρ x (node h (y ∷ []) zero (t ▸ ts)) e = cc

pub alike : (r q : Bool) → (r ≡ true → q ≡ true) → (q ≡ true → r ≡ true) → r ≡ q
alike true q f g = sym (f refl)
alike false true f g = absurd (false≢true (g refl))
alike false false f g = refl

pub same_identifier : (ρ : Renaming) (x : Name) (t : Tree) → same_tree (identifier (rename_name ρ.symbol x)) (again ρ t) ≡ same_tree (identifier x) t
same_identifier ρ x t =
    alike (same_tree (identifier (rename_name ρ.symbol x)) (again ρ t)) (same_tree (identifier x) t)
    (λ e. subst (λ u. same_tree (identifier x) u ≡ true) (is_identifier_again ρ x t (tree_same (identifier (rename_name ρ.symbol x)) (again ρ t) e)) (tree_itself (identifier x)))
    (λ e. subst (λ u. same_tree (identifier (rename_name ρ.symbol x)) (again ρ u) ≡ true) (tree_same (identifier x) t e) (tree_itself (identifier (rename_name ρ.symbol x))))
