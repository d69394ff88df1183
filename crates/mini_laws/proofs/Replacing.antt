-- What is found where a node was replaced.
use Rattle.std.proofs.Common.{◌≡◌, ℕ, ◌+◌, Bool, true, false, [], ◌∷◌, ◌++◌, Option, Some, None, refl, sym, ap, ◌∙◌, ⊎_elim, arith}
use Rattle.std.specs.Prelude.{is_some, option_map, option_and_then, nat_eq, ◌&&◌}
use Rattle.std.proofs.lemmas.Option.{none-some, same_Some, option_and_then_some}
use Rattle.std.proofs.lemmas.Bool.{cases_eq, eq-eqb, true≢false}
use Rattle.mini_model.specs.Tree.{Tree, node, node_count}
use Rattle.mini_model.specs.Paths.{Path, is_node, head_of, head_at, child_at, children_of, with_child, node_at, replace_at}
use Rattle.mini_laws.specs.Replacing as law
use Rattle.mini_laws.proofs.Children.{set_at, child_at-set_at, child_at-set_other}
use Rattle.mini_laws.proofs.Putting.{spread_put, put_twice, put_same, put_counted}
use Rattle.mini_laws.proofs.Finding.{child_node, found_further}

-- one child replaced

children_with : (t : Tree) (i : ℕ) (w : Tree) → is_node w ≡ true → children_of (with_child t i w) ≡ set_at (children_of t) i w
children_with (node h xs n ts) i w m = spread_put ts i w m

with_twice : (t : Tree) (i : ℕ) (w v : Tree) → is_node w ≡ true → with_child (with_child t i w) i v ≡ with_child t i v
with_twice (node h xs n ts) i w v m = ap (node h xs n) (put_twice ts i w v m)

with_same : (t : Tree) (i : ℕ) (c : Tree) → child_at (children_of t) i ≡ Some c → with_child t i c ≡ t
with_same (node h xs n ts) i c e = ap (node h xs n) (put_same ts i c e)

with_counted : (t : Tree) (i : ℕ) (c w : Tree) → child_at (children_of t) i ≡ Some c → node_count (with_child t i w) + node_count c ≡ node_count t + node_count w
with_counted (node h xs n ts) i c w e = let inner = put_counted ts i c w e in omega (arith, inner)

with_head : (t : Tree) (i : ℕ) (w : Tree) → head_of (with_child t i w) ≡ head_of t
with_head (node h xs n ts) i w = refl

with_node : (t : Tree) (i : ℕ) (w : Tree) → is_node (with_child t i w) ≡ is_node t
with_node (node h xs n ts) i w = refl

child_now : (t : Tree) (i : ℕ) (c w : Tree) → is_node w ≡ true → child_at (children_of t) i ≡ Some c → child_at (children_of (with_child t i w)) i ≡ Some w
child_now t i c w m e = ap (λ ts. child_at ts i) (children_with t i w m) ∙ child_at-set_at (children_of t) i c w e

child_other : (t : Tree) (i j : ℕ) (w : Tree) → is_node w ≡ true → (j ≡ i → ⊥) → child_at (children_of (with_child t i w)) j ≡ child_at (children_of t) j
child_other t i j w m n = ap (λ ts. child_at ts j) (children_with t i w m) ∙ child_at-set_other (children_of t) i j w n

-- one step of a path

map_some : {P : Type 0} (f : Tree → Tree) (o : Option Tree) (u : Tree) → option_map f o ≡ Some u → ((d : Tree) → o ≡ Some d → f d ≡ u → P) → P
map_some f None u e k = absurd (none-some u e)
map_some f (Some d) u e k = k d refl (same_Some (f d) u e)

-- the child that the path goes to, and what it becomes
replaced_child : {P : Type 0} (i : ℕ) (p : Path) (w t u : Tree) → replace_at (i ∷ p) w t ≡ Some u → ((c d : Tree) → child_at (children_of t) i ≡ Some c → replace_at p w c ≡ Some d → with_child t i d ≡ u → P) → P
replaced_child i p w t u e k =
    option_and_then_some (λ c. option_map (with_child t i) (replace_at p w c)) (child_at (children_of t) i) u e
    (λ c at put. map_some (with_child t i) (replace_at p w c) u put (λ d inner is. k c d at inner is))

node_kept : (p : Path) (w c d : Tree) → is_node w ≡ true → is_node c ≡ true → replace_at p w c ≡ Some d → is_node d ≡ true
node_kept [] w c d m n e = ap is_node (sym (same_Some w d e)) ∙ m
node_kept (i ∷ p) w c d m n e = replaced_child i p w c d e (λ b a at inner is. ap is_node (sym is) ∙ with_node c i a ∙ n)

-- the same with what the step leads to: a node, and the child that is there now
replaced_node : {P : Type 0} (i : ℕ) (p : Path) (w t u : Tree) → is_node w ≡ true → replace_at (i ∷ p) w t ≡ Some u → ((c d : Tree) → child_at (children_of t) i ≡ Some c → replace_at p w c ≡ Some d → with_child t i d ≡ u → is_node d ≡ true → child_at (children_of u) i ≡ Some d → P) → P
replaced_node i p w t u m e k =
    replaced_child i p w t u e
    (λ c d at inner is.
    let n = node_kept p w c d m (child_node t i c at) inner in
    k c d at inner is n (ap (λ v. child_at (children_of v) i) (sym is) ∙ child_now t i c d n at))

pub put_found : law.PutFound
put_found [] w t u m e = sym e
put_found (i ∷ p) w t u m e = replaced_node i p w t u m e (λ c d at inner is n now. ap (option_and_then (node_at p)) now ∙ put_found p w c d m inner)

pub put_below : law.PutBelow
put_below p q w t u m e = found_further p q u ∙ ap (option_and_then (node_at q)) (put_found p w t u m e)

pub put_above : law.PutAbove
put_above [] q w t u m e = sym e
put_above (i ∷ p) q w t u m e =
    replaced_node i (p ++ q) w t u m e
    (λ c d at inner is n now. ap (option_and_then (node_at p)) now ∙ put_above p q w c d m inner ∙ ap (λ o. option_and_then (replace_at q w) (option_and_then (node_at p) o)) (sym at))

map_same : (f g : Tree → Tree) (o : Option Tree) → ((c : Tree) → f c ≡ g c) → option_map f o ≡ option_map g o
map_same f g None h = refl
map_same f g (Some c) h = ap (λ d. Some d) (h c)

pub put_twice_at : law.PutTwice
put_twice_at [] v w t u m e = refl
put_twice_at (i ∷ p) v w t u m e =
    replaced_node i p w t u m e
    (λ c d at inner is n now.
    ap (option_and_then (λ b. option_map (with_child u i) (replace_at p v b))) now
    ∙ ap (option_map (with_child u i)) (put_twice_at p v w c d m inner)
    ∙ map_same (with_child u i) (with_child t i) (replace_at p v c) (λ b. ap (λ a. with_child a i b) (sym is) ∙ with_twice t i d b n)
    ∙ ap (option_and_then (λ b. option_map (with_child t i) (replace_at p v b))) (sym at))

pub put_same_at : law.PutSame
put_same_at [] c t e = sym e
put_same_at (i ∷ p) c t e =
    option_and_then_some (node_at p) (child_at (children_of t) i) c e
    (λ d at found.
    ap (option_and_then (λ b. option_map (with_child t i) (replace_at p c b))) at
    ∙ ap (option_map (with_child t i)) (put_same_at p c d found)
    ∙ ap (λ b. Some b) (with_same t i d at))

pub put_back : law.PutBack
put_back p c w t u m f e = put_twice_at p c w t u m e ∙ put_same_at p c t f

-- elsewhere

apart : (i j : ℕ) (b : Bool) → j ≡ i → nat_eq j i && b ≡ false → b ≡ false
apart i j b e h = sym (ap (λ a. a && b) (eq-eqb j i e)) ∙ h

pub put_elsewhere : law.PutElsewhere
put_elsewhere [] q w t u a b m e = absurd (true≢false a)
put_elsewhere (i ∷ p) [] w t u a b m e = absurd (true≢false b)
put_elsewhere (i ∷ p) (j ∷ q) w t u a b m e =
    replaced_node i p w t u m e
    (λ c d at inner is n now.
    ⊎_elim
    (λ same.
    ap (λ k. option_and_then (node_at q) (child_at (children_of u) k)) same
    ∙ ap (option_and_then (node_at q)) now
    ∙ put_elsewhere p q w c d (apart i j _ same a) (apart j i _ (sym same) b) m inner
    ∙ ap (option_and_then (node_at q)) (sym at)
    ∙ ap (λ k. option_and_then (node_at q) (child_at (children_of t) k)) (sym same))
    (λ other. ap (λ v. node_at (j ∷ q) v) (sym is) ∙ ap (option_and_then (node_at q)) (child_other t i j d n other))
    (cases_eq j i))

pub root_kept : law.RootKept
root_kept i p w t u e = replaced_child i p w t u e (λ c d at inner is. ap head_of (sym is) ∙ with_head t i d)

pub head_kept : law.HeadKept
head_kept [] q w t u a m e = absurd (true≢false a)
head_kept (i ∷ p) [] w t u a m e = ap (λ h. Some h) (root_kept i p w t u e)
head_kept (i ∷ p) (j ∷ q) w t u a m e =
    replaced_node i p w t u m e
    (λ c d at inner is n now.
    ⊎_elim
    (λ same.
    ap (λ k. option_map head_of (option_and_then (node_at q) (child_at (children_of u) k))) same
    ∙ ap (λ o. option_map head_of (option_and_then (node_at q) o)) now
    ∙ head_kept p q w c d (apart i j _ same a) m inner
    ∙ ap (λ o. option_map head_of (option_and_then (node_at q) o)) (sym at)
    ∙ ap (λ k. option_map head_of (option_and_then (node_at q) (child_at (children_of t) k))) (sym same))
    (λ other. ap (head_at (j ∷ q)) (sym is) ∙ ap (λ o. option_map head_of (option_and_then (node_at q) o)) (child_other t i j d n other))
    (cases_eq j i))

some_head : (o : Option Tree) → is_some (option_map head_of o) ≡ is_some o
some_head None = refl
some_head (Some c) = refl

pub still_leads : law.StillLeads
still_leads p q w t u a m e = sym (some_head (node_at q u)) ∙ ap is_some (head_kept p q w t u a m e) ∙ some_head (node_at q t)

-- one path after another

then_some : (o : Option Tree) → o ≡ option_and_then (λ d. Some d) o
then_some None = refl
then_some (Some d) = refl

then_map : (g : Tree → Tree) (f h : Tree → Option Tree) (o : Option Tree) → ((c : Tree) → option_map g (f c) ≡ h c) → option_map g (option_and_then f o) ≡ option_and_then h o
then_map g f h None k = refl
then_map g f h (Some c) k = k c

further_from : (i : ℕ) (p q : Path) (w t : Tree) (o : Option Tree) → child_at (children_of t) i ≡ o → ((b : Tree) → replace_at (p ++ q) w b ≡ option_and_then (λ c. option_and_then (λ d. replace_at p d b) (replace_at q w c)) (node_at p b)) → option_and_then (λ c. option_map (with_child t i) (replace_at (p ++ q) w c)) o ≡ option_and_then (λ c. option_and_then (λ d. replace_at (i ∷ p) d t) (replace_at q w c)) (option_and_then (node_at p) o)
further_from i p q w t None e k = refl
further_from i p q w t (Some b) e k =
    ap (option_map (with_child t i)) (k b)
    ∙ then_map (with_child t i) _ _ (node_at p b) (λ c. then_map (with_child t i) _ _ (replace_at q w c) (λ d. ap (option_and_then (λ a. option_map (with_child t i) (replace_at p d a))) (sym e)))

pub put_further : law.PutFurther
put_further [] q w t = then_some (replace_at q w t)
put_further (i ∷ p) q w t = further_from i p q w t (child_at (children_of t) i) refl (put_further p q w)

-- how many nodes there are

pub put_counted_at : law.PutCounted
put_counted_at [] c w t u f e = let one = ap node_count (same_Some t c f) in let other = ap node_count (same_Some w u e) in omega (arith, one, other)
put_counted_at (i ∷ p) c w t u f e =
    replaced_child i p w t u e
    (λ b d at inner is.
    let one = put_counted_at p c w b d (ap (option_and_then (node_at p)) (sym at) ∙ f) inner in
    let all = with_counted t i b d at in
    let whole = ap node_count is in
    omega (arith, one, all, whole))
