-- All nodes of a tree, and their paths.
use Rattle.std.proofs.Common.{◌≡◌, ℕ, zero, suc, ◌+◌, ◌-◌, ◌<◌, cond, List, [], ◌∷◌, ◌++◌, map, Option, Some, None, refl, sym, ap, ap₂, ◌∙◌, ⊎_elim, arith}
use Rattle.std.specs.Prelude.{◌&&◌, count_by, is_some, option_and_then}
use Rattle.std.proofs.lemmas.Bool.{cases_lt, eq-eqb, ne_eqb}
use Rattle.std.proofs.lemmas.List.{map-append}
use Rattle.std.proofs.lemmas.List.Sums.{sum_by-cons, sum_by-append}
use Rattle.std.proofs.lemmas.Simd.{map-map}
use Rattle.mini_model.specs.declared.name.Name.{Name}
use Rattle.mini_model.specs.declared.shape.Shape.{Shape}
use Rattle.mini_model.specs.Tree.{Tree, Trees, node, none, ◌▸◌, count}
use Rattle.mini_model.specs.Paths.{Path, Standing, Node, Holder, Missing, standing, by_standing, append, stands_for, spread, child_at, width, node_at, nodes_inside, nodes_among, paths_inside, paths_among, paths_of}
use Rattle.mini_laws.specs.Preorder as law
use Rattle.mini_laws.specs.Preorder.{as_found, path_eq}
use Rattle.mini_laws.proofs.Children.{child_at-append_first, child_at-append_later, child_at_past}

-- ---- what the paths lead to

as_found-append : (ts us : Trees) → as_found (append ts us) ≡ as_found ts ++ as_found us
as_found-append none us = refl
as_found-append (t ▸ ts) us = ap (λ os. Some t ∷ os) (as_found-append ts us)

-- f finds, at paths that begin from index k on, what these children have
abbrev Finds : Trees → ℕ → (Path → Option Tree) → Type 0
Finds ts k f = (m j : ℕ) (q : Path) → m ≡ k + j → j < count ts → f (m ∷ q) ≡ option_and_then (node_at q) (child_at ts j)

inside_found_by : (s : Standing) (h : Shape) (xs : List Name) (n : ℕ) (ts : Trees) → ((k : ℕ) (f : Path → Option Tree) → Finds (spread ts) k f → map f (paths_among ts k) ≡ as_found (nodes_among ts)) → (k : ℕ) (f : Path → Option Tree) → Finds (by_standing s (node h xs n ts ▸ none) (spread ts) none) k f → map f (by_standing s (map (λ p. k ∷ p) ([] ∷ paths_among ts 0)) (paths_among ts k) []) ≡ as_found (by_standing s (node h xs n ts ▸ nodes_among ts) (nodes_among ts) none)
inside_found_by Node h xs n ts inner k f finds =
    let at : (q : Path) → f (k ∷ q) ≡ node_at q (node h xs n ts) = λ q. finds k 0 q (omega arith) (omega arith) in
    ap₂ (λ o os. o ∷ os) (at [])
    (map-map f (λ p. k ∷ p) (paths_among ts 0)
    ∙ inner 0 (λ q. f (k ∷ q)) (λ m j q e l. at (m ∷ q) ∙ ap (λ i. option_and_then (node_at q) (child_at (spread ts) i)) (omega (arith, e))))
inside_found_by Holder h xs n ts inner k f finds = inner k f finds
inside_found_by Missing h xs n ts inner k f finds = refl

count-append : (ts us : Trees) → count (append ts us) ≡ count ts + count us
count-append none us = omega arith
count-append (t ▸ ts) us = let rest = count-append ts us in omega (arith, rest)

mutual
  inside_found : (t : Tree) (k : ℕ) (f : Path → Option Tree) → Finds (stands_for t) k f → map f (paths_inside t k) ≡ as_found (nodes_inside t)
  inside_found (node h xs n ts) k f finds = inside_found_by (standing h) h xs n ts (among_found ts) k f finds

  among_found : (ts : Trees) (k : ℕ) (f : Path → Option Tree) → Finds (spread ts) k f → map f (paths_among ts k) ≡ as_found (nodes_among ts)
  among_found none k f finds = refl
  among_found (t ▸ ts) k f finds =
      map-append f (paths_inside t k) (paths_among ts (k + width t))
      ∙ ap₂ (λ os rest. os ++ rest)
      (inside_found t k f
      (λ m j q e l.
      finds m j q e (let all = count-append (stands_for t) (spread ts) in omega (arith, l, all))
      ∙ ap (option_and_then (node_at q)) (child_at-append_first (stands_for t) (spread ts) j l)))
      (among_found ts (k + width t) f
      (λ m j q e l.
      finds m (width t + j) q (omega (arith, e)) (let all = count-append (stands_for t) (spread ts) in omega (arith, l, all))
      ∙ ap (option_and_then (node_at q)) (child_at-append_later (stands_for t) (spread ts) (width t + j) (omega arith))
      ∙ ap (λ i. option_and_then (node_at q) (child_at (spread ts) i)) (omega arith)))
      ∙ sym (as_found-append (nodes_inside t) (nodes_among ts))

pub paths_found : law.PathsFound
paths_found (node h xs n ts) = ap (λ os. Some (node h xs n ts) ∷ os) (among_found ts 0 (λ p. node_at p (node h xs n ts)) (λ m j q e l. ap (λ i. option_and_then (node_at q) (child_at (spread ts) i)) (omega (arith, e))))

-- ---- how often a path is there

count_cons : (p q : Path) (ps : List Path) → count_by (path_eq p) (q ∷ ps) ≡ cond (path_eq p q) 1 0 + count_by (path_eq p) ps
count_cons p q ps = sum_by-cons (λ r. cond (path_eq p r) 1 0) q ps

count_both : (p : Path) (ps qs : List Path) → count_by (path_eq p) (ps ++ qs) ≡ count_by (path_eq p) ps + count_by (path_eq p) qs
count_both p ps qs = sum_by-append (λ r. cond (path_eq p r) 1 0) ps qs

root_under : (k : ℕ) (ps : List Path) → count_by (path_eq []) (map (λ p. k ∷ p) ps) ≡ 0
root_under k [] = refl
root_under k (p ∷ ps) = count_cons [] (k ∷ p) (map (λ q. k ∷ q) ps) ∙ ap (λ n. 0 + n) (root_under k ps)

same_under : (i k : ℕ) (q : Path) (ps : List Path) → i ≡ k → count_by (path_eq (i ∷ q)) (map (λ p. k ∷ p) ps) ≡ count_by (path_eq q) ps
same_under i k q [] e = refl
same_under i k q (p ∷ ps) e =
    count_cons (i ∷ q) (k ∷ p) (map (λ r. k ∷ r) ps)
    ∙ ap₂ (λ b n. cond (b && path_eq q p) 1 0 + n) (eq-eqb i k e) (same_under i k q ps e)
    ∙ sym (count_cons q p ps)

other_under : (i k : ℕ) (q : Path) (ps : List Path) → (i ≡ k → ⊥) → count_by (path_eq (i ∷ q)) (map (λ p. k ∷ p) ps) ≡ 0
other_under i k q [] e = refl
other_under i k q (p ∷ ps) e =
    count_cons (i ∷ q) (k ∷ p) (map (λ r. k ∷ r) ps)
    ∙ ap₂ (λ b n. cond (b && path_eq q p) 1 0 + n) (ne_eqb i k e) (other_under i k q ps e)

-- the empty path isn't below a node
root_by : (s : Standing) (k : ℕ) (ps : List Path) (qs : List Path) → count_by (path_eq []) qs ≡ 0 → count_by (path_eq []) (by_standing s (map (λ p. k ∷ p) ps) qs []) ≡ 0
root_by Node k ps qs e = root_under k ps
root_by Holder k ps qs e = e
root_by Missing k ps qs e = refl

mutual
  root_inside : (t : Tree) (k : ℕ) → count_by (path_eq []) (paths_inside t k) ≡ 0
  root_inside (node h xs n ts) k = root_by (standing h) k ([] ∷ paths_among ts 0) (paths_among ts k) (root_among ts k)

  root_among : (ts : Trees) (k : ℕ) → count_by (path_eq []) (paths_among ts k) ≡ 0
  root_among none k = refl
  root_among (t ▸ ts) k = count_both [] (paths_inside t k) (paths_among ts (k + width t)) ∙ ap₂ (λ m n. m + n) (root_inside t k) (root_among ts (k + width t))

-- nor is one that begins with an index before these
before_by : (s : Standing) (m k : ℕ) (q : Path) (ps qs : List Path) → m < k → count_by (path_eq (m ∷ q)) qs ≡ 0 → count_by (path_eq (m ∷ q)) (by_standing s (map (λ p. k ∷ p) ps) qs []) ≡ 0
before_by Node m k q ps qs l e = other_under m k q ps (λ same. omega (arith, l, same))
before_by Holder m k q ps qs l e = e
before_by Missing m k q ps qs l e = refl

mutual
  before_inside : (t : Tree) (m k : ℕ) (q : Path) → m < k → count_by (path_eq (m ∷ q)) (paths_inside t k) ≡ 0
  before_inside (node h xs n ts) m k q l = before_by (standing h) m k q ([] ∷ paths_among ts 0) (paths_among ts k) l (before_among ts m k q l)

  before_among : (ts : Trees) (m k : ℕ) (q : Path) → m < k → count_by (path_eq (m ∷ q)) (paths_among ts k) ≡ 0
  before_among none m k q l = refl
  before_among (t ▸ ts) m k q l =
      count_both (m ∷ q) (paths_inside t k) (paths_among ts (k + width t))
      ∙ ap₂ (λ a b. a + b) (before_inside t m k q l) (before_among ts m (k + width t) q (omega (arith, l)))

-- how often the rest of a path is among those of a child
abbrev within : Path → Option Tree → ℕ
within q None = 0
within q (Some c) = count_by (path_eq q) (paths_of c)

once_by : (s : Standing) (h : Shape) (xs : List Name) (n : ℕ) (ts : Trees) (k j m : ℕ) (q : Path) → m ≡ k + j → count_by (path_eq (m ∷ q)) (paths_among ts k) ≡ within q (child_at (spread ts) j) → count_by (path_eq (m ∷ q)) (by_standing s (map (λ p. k ∷ p) ([] ∷ paths_among ts 0)) (paths_among ts k) []) ≡ within q (child_at (by_standing s (node h xs n ts ▸ none) (spread ts) none) j)
once_by Node h xs n ts k zero m q e inner = same_under m k q ([] ∷ paths_among ts 0) (omega (arith, e))
once_by Node h xs n ts k (suc j) m q e inner = other_under m k q ([] ∷ paths_among ts 0) (λ same. omega (arith, e, same))
once_by Holder h xs n ts k j m q e inner = inner
once_by Missing h xs n ts k j m q e inner = refl

mutual
  once_inside : (t : Tree) (k j m : ℕ) (q : Path) → m ≡ k + j → count_by (path_eq (m ∷ q)) (paths_inside t k) ≡ within q (child_at (stands_for t) j)
  once_inside (node h xs n ts) k j m q e = once_by (standing h) h xs n ts k j m q e (once_among ts k j m q e)

  once_among : (ts : Trees) (k j m : ℕ) (q : Path) → m ≡ k + j → count_by (path_eq (m ∷ q)) (paths_among ts k) ≡ within q (child_at (spread ts) j)
  once_among none k j m q e = refl
  once_among (t ▸ ts) k j m q e =
      count_both (m ∷ q) (paths_inside t k) (paths_among ts (k + width t))
      ∙ ap (λ a. a + count_by (path_eq (m ∷ q)) (paths_among ts (k + width t))) (once_inside t k j m q e)
      ∙ ⊎_elim
      (λ l.
      ap (λ b. within q (child_at (stands_for t) j) + b) (before_among ts m (k + width t) q (omega (arith, e, l)))
      ∙ omega arith
      ∙ ap (within q) (sym (child_at-append_first (stands_for t) (spread ts) j l)))
      (λ l.
      ap₂ (λ a b. within q a + b) (child_at_past (stands_for t) j l) (once_among ts (k + width t) (j - width t) m q (omega (arith, e, l)))
      ∙ omega arith
      ∙ ap (within q) (sym (child_at-append_later (stands_for t) (spread ts) j l)))
      (cases_lt j (width t))

once_within : (q : Path) (o : Option Tree) → ((c : Tree) → count_by (path_eq q) (paths_of c) ≡ cond (is_some (node_at q c)) 1 0) → within q o ≡ cond (is_some (option_and_then (node_at q) o)) 1 0
once_within q None inner = refl
once_within q (Some c) inner = inner c

pub paths_once : law.PathsOnce
paths_once [] (node h xs n ts) = count_cons [] [] (paths_among ts 0) ∙ ap (λ m. 1 + m) (root_among ts 0)
paths_once (i ∷ q) (node h xs n ts) =
    count_cons (i ∷ q) [] (paths_among ts 0)
    ∙ omega arith
    ∙ once_among ts 0 i i q (omega arith)
    ∙ once_within q (child_at (spread ts) i) (paths_once q)
