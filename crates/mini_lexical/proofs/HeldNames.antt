-- Statements whose lexical names may leave their scope, as the code asks it.
use Rattle.std.proofs.Common.{◌≡◌, ℕ, zero, suc, ◌<◌, ◌≤◌, Bool, true, false, List, [], ◌∷◌, refl, sym, ap, ◌∙◌, length, take, drop, arith}
use Rattle.std.specs.Prelude.{◌&&◌}
use Rattle.std.proofs.lemmas.Bool.{and_parts, false≢true}
use Rattle.mini_model.specs.declared.name.Name.{Name}
use Rattle.mini_model.specs.Tree.{Tree, Trees, node, none, ◌▸◌, shape_of, children, node_count, node_counts}
use Rattle.mini_node.specs.Children.{names_of, first_children, trees_of}
use Rattle.mini_rows.specs.Cases.{ended}
use Rattle.mini_rows.specs.Lexical.{Binds, Itself, Each, First, NoName, binds_at, passes_by, all_pass, binds_only, all_bind_only, first_binds_only, is_held, are_held}
use Rattle.mini_lexical.specs.Held.{is_itself, is_each, is_first}

pub and_one : (b : Bool) → (b && true) ≡ b
and_one true = refl
and_one false = refl

pub both_true : (a b : Bool) → a ≡ true → b ≡ true → (a && b) ≡ true
both_true a b e f = ap (λ c. c && b) e ∙ f

-- ---- the rest of a list has fewer nodes

some_nodes : (t : Tree) → 0 < node_count t
some_nodes (node h xs n ts) = omega arith

taken_within : (k : ℕ) (ts : List Tree) → node_counts (trees_of (take k ts)) ≤ node_counts (trees_of ts)
taken_within zero ts = omega arith
taken_within (suc k) [] = omega arith
taken_within (suc k) (t ∷ ts) = let less = taken_within k ts in omega (arith, less)

pub rest_smaller : (k : ℕ) (ts : List Tree) → 1 ≤ length ts → node_counts (trees_of (take k (drop 1 ts))) < node_counts (trees_of ts)
rest_smaller k [] e = absurd (omega (arith, e))
rest_smaller k (t ∷ ts) e = let some = some_nodes t in let less = taken_within k ts in omega (arith, some, less)

-- ---- what a node binds

module _ (o e f : Bool) where
  itself : (b : Binds) → is_itself b ≡ true → passes_by b o e f ≡ o
  itself Itself h = refl
  itself b h = absurd (false≢true h)

  each : (b : Binds) → is_each b ≡ true → passes_by b o e f ≡ e
  each Each h = refl
  each b h = absurd (false≢true h)

  first : (b : Binds) → is_first b ≡ true → passes_by b o e f ≡ f
  first First h = refl
  first b h = absurd (false≢true h)

  nothing : (b : Binds) → is_itself b ≡ false → is_each b ≡ false → is_first b ≡ false → passes_by b o e f ≡ true
  nothing Itself h i j = absurd (false≢true (sym h))
  nothing Each h i j = absurd (false≢true (sym i))
  nothing First h i j = absurd (false≢true (sym j))
  nothing NoName h i j = refl

module _ (P : Name → Bool) where
  opened : (t : Tree) → binds_only P t ≡ passes_by (binds_at (shape_of t)) (all_pass P (names_of t)) (all_bind_only P (children t)) (first_binds_only P (children t))
  opened (node h xs n ts) = refl

  pub by_itself : (t : Tree) → is_itself (binds_at (shape_of t)) ≡ true → binds_only P t ≡ all_pass P (names_of t)
  by_itself t h = opened t ∙ itself (all_pass P (names_of t)) (all_bind_only P (children t)) (first_binds_only P (children t)) (binds_at (shape_of t)) h

  pub by_each : (t : Tree) → is_each (binds_at (shape_of t)) ≡ true → binds_only P t ≡ all_bind_only P (children t)
  by_each t h = opened t ∙ each (all_pass P (names_of t)) (all_bind_only P (children t)) (first_binds_only P (children t)) (binds_at (shape_of t)) h

  pub by_first : (t : Tree) → is_first (binds_at (shape_of t)) ≡ true → binds_only P t ≡ first_binds_only P (children t)
  by_first t h = opened t ∙ first (all_pass P (names_of t)) (all_bind_only P (children t)) (first_binds_only P (children t)) (binds_at (shape_of t)) h

  pub by_nothing : (t : Tree) → is_itself (binds_at (shape_of t)) ≡ false → is_each (binds_at (shape_of t)) ≡ false → is_first (binds_at (shape_of t)) ≡ false → binds_only P t ≡ true
  by_nothing t h i j = opened t ∙ nothing (all_pass P (names_of t)) (all_bind_only P (children t)) (first_binds_only P (children t)) (binds_at (shape_of t)) h i j

  -- ---- of statements, and of these with a last `break;`

  pub held_first : (k : ℕ) (ts : Trees) → are_held P ts ≡ true → are_held P (first_children k ts) ≡ true
  held_first k none e = refl
  held_first zero (t ▸ ts) e = refl
  held_first (suc k) (t ▸ ts) e =
      let (here, rest) = and_parts (is_held P t) (are_held P ts) e in
      ap (λ b. b && are_held P (first_children k ts)) here ∙ held_first k ts rest

  pub held_ended : (b : Bool) (ts : Trees) → are_held P ts ≡ true → are_held P (ended b ts) ≡ true
  held_ended false ts e = e
  held_ended true none e = refl
  held_ended true (t ▸ ts) e =
      let (here, rest) = and_parts (is_held P t) (are_held P ts) e in
      ap (λ b. b && are_held P (ended true ts)) here ∙ held_ended true ts rest
