-- The symbols that a walk marks.
use Rattle.std.proofs.Common.{◌≡◌, ℕ, suc, ◌+◌, ◌<◌, ◌≤◌, Bool, true, false, List, [], ◌∷◌, Option, Some, None, length, refl, sym, ap, ◌∙◌, subst, add-one}
use Rattle.std.specs.Prelude.{◌||◌, nat_eq, is_some, if◌then◌else◌}
use Rattle.mini_model.specs.declared.name.Name.{Name}
use Rattle.mini_model.specs.declared.name.SymbolId.{SymbolId}
use Rattle.mini_model.specs.declared.shape.Shape.{Shape}
use Rattle.mini_model.specs.Tree.{Tree, Trees, node, none, ◌▸◌, count, children, child_or_absent, shape_of}
use Rattle.mini_node.specs.Children.{names, names_of, rest_children}
use Rattle.mini_node.specs.Walks.{next_child, no_rest, from_first}
use Rattle.mini_context.specs.Tables.{mark_at}
use Rattle.mini_dead.specs.Pruned.{Spot, Role, Plain, role, spot_below}
use Rattle.mini_dead.specs.Dead.{item_name, declares, declares_inside, declares_otherwise, any_declares_otherwise}
use Rattle.mini_drop.specs.Asked.{is_item}
use Rattle.mini_drop.specs.Symbols.{Adds, any_has, part_declares}
use Rattle.mini_drop.proofs.Told.{item_told}

or_false : (b : Bool) → b ≡ (b || false)
or_false true = refl
or_false false = refl

or_assoc : (a b c : Bool) → ((a || b) || c) ≡ (a || (b || c))
or_assoc true b c = refl
or_assoc false b c = refl

pub nothing_added : (p : ℕ → Bool) (xs : List Bool) → ((s : ℕ) → p s ≡ false) → Adds p xs xs
nothing_added p xs f = record { symbols = refl; each = λ s h. or_false (mark_at xs s) ∙ ap (λ b. mark_at xs s || b) (sym (f s)) }

pub both_added : (p q : ℕ → Bool) (xs ys zs : List Bool) → Adds p xs ys → Adds q ys zs → Adds (λ s. p s || q s) xs zs
both_added p q xs ys zs a b = record {
  symbols = b.symbols ∙ a.symbols;
  each = λ s h. b.each s (subst (λ n. s < n) (sym a.symbols) h) ∙ ap (λ c. c || q s) (a.each s h) ∙ or_assoc (mark_at xs s) (p s) (q s);
}

pub same_added : (p q : ℕ → Bool) (xs ys : List Bool) → ((s : ℕ) → p s ≡ q s) → Adds p xs ys → Adds q xs ys
same_added p q xs ys f a = record { symbols = a.symbols; each = λ s h. a.each s h ∙ ap (λ b. mark_at xs s || b) (f s) }

-- names
pub symbol_added : (n : Name) (k : SymbolId) (xs ys : List Bool) → n.symbol ≡ Some k → length ys ≡ length xs → ((s : ℕ) → s < length xs → mark_at ys s ≡ (mark_at xs s || nat_eq k.0 s)) → Adds (any_has (n ∷ [])) xs ys
symbol_added n k xs ys e l f = record {
  symbols = l;
  each = λ s h. f s h ∙ ap (λ b. mark_at xs s || b) (or_false (nat_eq k.0 s) ∙ ap (λ b. b || false) (sym (ap (has_it s) e)));
}
  where
    has_it : ℕ → Option SymbolId → Bool
    has_it s None = false
    has_it s (Some m) = nat_eq m.0 s

-- a walk over children: what is left is added
pub record Until (r : Role) (from i : ℕ) (ts : Trees) (old now : List Bool) : Type 0 where
  pub symbols : length now ≡ length old
  pub each : (s : ℕ) → s < length old → (mark_at now s || any_declares_otherwise s r i (rest_children i ts)) ≡ (mark_at old s || any_declares_otherwise s r from (rest_children from ts))

pub begins : (r : Role) (from : ℕ) (ts : Trees) (xs : List Bool) → Until r from from ts xs xs
begins r from ts xs = record { symbols = refl; each = λ s h. refl }

pub next : (r : Role) (from i : ℕ) (ts : Trees) (t : Tree) (old now new : List Bool) → i < count ts → t ≡ child_or_absent ts i → Adds (part_declares r i t) now new → Until r from i ts old now → Until r from (i + 1) ts old new
unfolding declares_otherwise
next r from i ts t old now new h e a u = record {
  symbols = a.symbols ∙ u.symbols;
  each = λ s k.
      ap (λ j. mark_at new s || any_declares_otherwise s r j (rest_children j ts)) (add-one i)
      ∙ ap (λ b. b || any_declares_otherwise s r (suc i) (rest_children (suc i) ts)) (a.each s (subst (λ n. s < n) (sym u.symbols) k))
      ∙ or_assoc (mark_at now s) (part_declares r i t s) (any_declares_otherwise s r (suc i) (rest_children (suc i) ts))
      ∙ ap (λ c. mark_at now s || any_declares_otherwise s r i (c ▸ rest_children (suc i) ts)) e
      ∙ ap (λ cs. mark_at now s || any_declares_otherwise s r i cs) (sym (next_child ts i h))
      ∙ u.each s k;
}

pub finished : (r : Role) (from i : ℕ) (ts : Trees) (old now : List Bool) → count ts ≤ i → Until r from i ts old now → Adds (λ s. any_declares_otherwise s r from (rest_children from ts)) old now
unfolding declares_otherwise
finished r from i ts old now h u = record {
  symbols = u.symbols;
  each = λ s k. or_false (mark_at now s) ∙ ap (λ cs. mark_at now s || any_declares_otherwise s r i cs) (sym (no_rest ts i h)) ∙ u.each s k;
}

-- nodes
pub node_added : (p : Spot) (t : Tree) (h : Shape) (o : Option Name) (r : Role) (ts : Trees) (xs ys zs : List Bool) → h ≡ shape_of t → names o ≡ names_of t → r ≡ role h p → ts ≡ children t → Adds (λ s. declares s h (names o)) xs ys → Adds (λ s. any_declares_otherwise s r 0 (rest_children 0 ts)) ys zs → Adds (λ s. declares_otherwise s p t) xs zs
unfolding declares_otherwise
node_added p (node k ns n us) h o r ts xs ys zs e f g i a b =
    same_added _ (λ s. declares_otherwise s p (node k ns n us)) xs zs
    (λ s.
    ap (λ c. declares s c (names o) || any_declares_otherwise s r 0 (rest_children 0 ts)) e
    ∙ ap (λ c. declares s k c || any_declares_otherwise s r 0 (rest_children 0 ts)) f
    ∙ ap (λ c. declares s k ns || any_declares_otherwise s c 0 (rest_children 0 ts)) (g ∙ ap (λ c. role c p) e)
    ∙ ap (λ c. declares s k ns || any_declares_otherwise s (role k p) 0 c) (from_first ts ∙ i))
    (both_added (λ s. declares s h (names o)) (λ s. any_declares_otherwise s r 0 (rest_children 0 ts)) xs ys zs a b)

inside_is : (s : ℕ) (k : Shape) (ns : List Name) (n : ℕ) (us : Trees) → (declares s k ns || any_declares_otherwise s Plain 1 (rest_children 1 us)) ≡ declares_inside s (node k ns n us)
unfolding declares_otherwise
inside_is s k ns n none = sym (or_false (declares s k ns))
inside_is s k ns n (u ▸ us) = ap (λ c. declares s k ns || any_declares_otherwise s Plain 1 c) (from_first us)

pub inside_added : (t : Tree) (h : Shape) (o : Option Name) (r : Role) (ts : Trees) (xs ys zs : List Bool) → h ≡ shape_of t → names o ≡ names_of t → r ≡ Plain → ts ≡ children t → Adds (λ s. declares s h (names o)) xs ys → Adds (λ s. any_declares_otherwise s r 1 (rest_children 1 ts)) ys zs → Adds (λ s. declares_inside s t) xs zs
inside_added (node k ns n us) h o r ts xs ys zs e f g i a b =
    same_added _ (λ s. declares_inside s (node k ns n us)) xs zs
    (λ s.
    ap (λ c. declares s c (names o) || any_declares_otherwise s r 1 (rest_children 1 ts)) e
    ∙ ap (λ c. declares s k c || any_declares_otherwise s r 1 (rest_children 1 ts)) f
    ∙ ap (λ c. declares s k ns || any_declares_otherwise s c 1 (rest_children 1 ts)) g
    ∙ ap (λ c. declares s k ns || any_declares_otherwise s Plain 1 (rest_children 1 c)) i
    ∙ inside_is s k ns n us)
    (both_added (λ s. declares s h (names o)) (λ s. any_declares_otherwise s r 1 (rest_children 1 ts)) xs ys zs a b)

choose_then : (b : Bool) (c d : Bool) → b ≡ true → c ≡ (if b then c else d)
choose_then true c d e = refl
choose_then false c d e = cc

choose_else : (b : Bool) (c d : Bool) → b ≡ false → d ≡ (if b then c else d)
choose_else false c d e = refl
choose_else true c d e = cc

pub item_added : (r : Role) (i : ℕ) (t : Tree) (b : Bool) (xs ys : List Bool) → b ≡ is_item r t → b ≡ true → Adds (λ s. declares_inside s t) xs ys → Adds (part_declares r i t) xs ys
item_added r i t b xs ys e f a = same_added (λ s. declares_inside s t) (part_declares r i t) xs ys (λ s. choose_then (is_some (item_name r t)) (declares_inside s t) (declares_otherwise s (spot_below r i) t) (sym (e ∙ item_told r t) ∙ f)) a

pub other_added : (r : Role) (i : ℕ) (t : Tree) (b : Bool) (p : Spot) (xs ys : List Bool) → b ≡ is_item r t → b ≡ false → p ≡ spot_below r i → Adds (λ s. declares_otherwise s p t) xs ys → Adds (part_declares r i t) xs ys
other_added r i t b p xs ys e f g a =
    same_added (λ s. declares_otherwise s p t) (part_declares r i t) xs ys
    (λ s. ap (λ q. declares_otherwise s q t) g ∙ choose_else (is_some (item_name r t)) (declares_inside s t) (declares_otherwise s (spot_below r i) t) (sym (e ∙ item_told r t) ∙ f))
    a
