-- The children of a node on the way, one after another.
use Rattle.std.specs.Prelude.{ℕ, zero, suc, ◌+◌, ◌≡◌, ◌<◌, ◌≤◌, ◌⊎◌, ◌||◌, refl, Bool, true, false, List, [], ◌∷◌, Some}
use Rattle.std.proofs.Common.{ap, ◌∙◌, sym, subst, inl, inr, true≢false, arith}
use Rattle.mini_model.specs.declared.name.Name.{Name}
use Rattle.mini_model.specs.declared.shape.Shape.{Shape}
use Rattle.mini_model.specs.Tree.{Tree, Trees, node, count, children, node_count}
use Rattle.mini_laws.specs.Path.{Path, inside, plug}
use Rattle.mini_node.specs.Children.{part, with_part, with_child, is_nameless}
use Rattle.mini_node.specs.Walks.{count_with}
use Rattle.mini_tree.proofs.Edits.{others_with, part_within}
use Rattle.mini_rows.specs.declared.inside.Way.{Way}
use Rattle.mini_rows.specs.Inside.{is_way_to, Ends}
use Rattle.mini_unused.specs.Chains.{Several}
use Rattle.mini_inside.specs.Further.{BelowStep, NothingAt, BelowWalked, WalkedAt}
use Rattle.mini_inside.proofs.FurtherSteps.{several_then, joined_within}

module _ (E : Ends) (a : Trees) (s : Way) where
  -- of the first so many
  abbrev pub FirstWalked : ℕ → Tree → Tree → Bool → Type 0
  FirstWalked i t u true = Several (BelowStep E a s) t u
  FirstWalked i t u false = (u ≡ t) × ((h : Shape) (xs : List Name) (n : ℕ) (pre : Trees) (k : Path) (post : Trees) → count pre < i → NothingAt E a s t (inside h xs n pre k post))

  -- and the others are as they were
  pub record WalkedTo (i : ℕ) (t u : Tree) (changed : Bool) : Type 0 where
    pub walked : FirstWalked i t u changed
    pub rest : (j : ℕ) → i ≤ j → part u j ≡ part t j
    pub counted : count (children u) ≡ count (children t)
    pub bare : is_nameless u ≡ true

  pub walked_none : (t : Tree) → is_nameless t ≡ true → WalkedTo 0 t t false
  walked_none t z = record { walked = (refl, λ h xs n pre k post e. absurd (omega (arith, e))); rest = λ j h. refl; counted = refl; bare = z }

  below_or : (j i : ℕ) → j < i + 1 → (j < i) ⊎ (j ≡ i)
  below_or zero zero h = inr refl
  below_or zero (suc i) h = inl (omega arith)
  below_or (suc j) zero h = absurd (omega (arith, h))
  below_or (suc j) (suc i) h = elim (below_or j i (omega (arith, h))) [ inl x ↦ inl (omega (arith, x)) | inr e ↦ inr (ap suc e) ]

  first_next : (i : ℕ) (t u v : Tree) (c d : Bool) → FirstWalked i t u c → WalkedAt E a s u i v d → FirstWalked (i + 1) t v (c || d)
  first_next i t u v true true x (w, e, y) = several_then (BelowStep E a s) t u v x y
  first_next i t u v true false x y = subst (Several (BelowStep E a s) t) (sym y.0) x
  first_next i t u v false true x (w, e, y) = subst (λ z. Several (BelowStep E a s) z v) x.0 y
  first_next i t u v false false x y = (
    y.0 ∙ x.0,
    λ h xs n pre k post e.
        elim (below_or (count pre) i e) [
          | inl q ↦ x.1 h xs n pre k post q
          | inr q ↦ subst (λ z. NothingAt E a s z (inside h xs n pre k post)) x.0 (y.1 h xs n pre k post q)
        ],
  )

  record Alike (i : ℕ) (u v : Tree) : Type 0 where
    rest : (j : ℕ) → i < j → part v j ≡ part u j
    counted : count (children v) ≡ count (children u)
    bare : is_nameless u ≡ true → is_nameless v ≡ true

  with_alike : (u : Tree) (i : ℕ) (w : Tree) → Alike i u (with_part u i w)
  with_alike (node h xs n ts) i w = record { rest = λ j e. others_with ts i w j e; counted = count_with ts i w; bare = λ z. nameless xs n ts z }
    where
      nameless : (xs : List Name) (n : ℕ) (ts : Trees) → is_nameless (node h xs n ts) ≡ true → is_nameless (node h xs n (with_child ts i w)) ≡ true
      nameless [] zero ts z = refl
      nameless [] (suc n) ts z = absurd (true≢false (sym z))
      nameless (x ∷ xs) n ts z = absurd (true≢false (sym z))

  at_alike : (u : Tree) (i : ℕ) (v : Tree) (d : Bool) → WalkedAt E a s u i v d → Alike i u v
  at_alike u i v true (w, e, y) = subst (Alike i u) (sym e) (with_alike u i w)
  at_alike u i v false y = subst (Alike i u) (sym y.0) (record { rest = λ j e. refl; counted = refl; bare = λ z. z })

  pub walked_next : (i : ℕ) (t u v : Tree) (c d : Bool) → WalkedTo i t u c → WalkedAt E a s u i v d → WalkedTo (i + 1) t v (c || d)
  walked_next i t u v c d x y =
      let alike = at_alike u i v d y in
      record { walked = first_next i t u v c d x.walked y; rest = λ j e. alike.rest j (omega (arith, e)) ∙ x.rest j (omega (arith, e)); counted = alike.counted ∙ x.counted; bare = alike.bare x.bare }

  pub walked_all : (i : ℕ) (t u : Tree) (c : Bool) → count (children t) ≤ i → WalkedTo i t u c → BelowWalked E a s t u c
  walked_all i t u c e x = by c x.walked
    where
      by : (c : Bool) → FirstWalked i t u c → BelowWalked E a s t u c
      by true y = y
      by false y = (
        y.0,
        λ h xs n pre k post end read put way is row.
            let within : count pre < count (children t) = subst (λ z. count pre < count (children z)) (sym is) (joined_within pre (plug k read) post) in
            y.1 h xs n pre k post (omega (arith, within, e)) end read put way is row,
      )

  -- a child that hasn't been gone into is smaller than the node
  pub child_smaller : (i : ℕ) (t u : Tree) (c : Bool) → WalkedTo i t u c → i < count (children t) → node_count (part u i) < node_count t
  child_smaller i t u c x e = let small = part_within t i e in let same = ap node_count (x.rest i (omega arith)) in omega (arith, small, same)

  -- a name or a number: nothing goes into it
  pub walked_closed : (t : Tree) → is_nameless t ≡ false → BelowWalked E a s t t false
  walked_closed t z = (refl, by)
    where
      by : (h : Shape) (xs : List Name) (n : ℕ) (pre : Trees) (k : Path) (post : Trees) → NothingAt E a s t (inside h xs n pre k post)
      by h xs n pre k post end read put way is row = absurd (true≢false (sym (bare h xs n pre k post way) ∙ sym (ap is_nameless is) ∙ z))
        where
          bare : (h : Shape) (xs : List Name) (n : ℕ) (pre : Trees) (k : Path) (post : Trees) → is_way_to end (Some s) (inside h xs n pre k post) ≡ true → is_nameless (plug (inside h xs n pre k post) read) ≡ true
          bare h [] zero pre k post way = refl
          bare h [] (suc n) pre k post way = absurd (true≢false (sym way))
          bare h (x ∷ xs) n pre k post way = absurd (true≢false (sym way))

-- with the nodes above it, which are as they were
pub record Going (E : Ends) (s : Way) (above now : Tree) (i : ℕ) (t u : Tree) (changed : Bool) : Type 0 where
  pub walk : WalkedTo E (children above) s i t u changed
  pub back : now ≡ above
