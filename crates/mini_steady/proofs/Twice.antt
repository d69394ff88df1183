-- Whether a name is declared more than once.
use Rattle.std.proofs.Common.{◌≡◌, ◌≤◌, ◌+◌, ℕ, zero, suc, Bool, true, false, List, length, slice_index_or, Option, Some, None, refl, sym, ap, ◌∙◌, true≢false, arith}
use Rattle.std.specs.Prelude.{◌&&◌, ◌||◌, nat_lt, if◌then◌else◌}
use Rattle.std.proofs.lemmas.Bool.{lt-ltb, le-ltb, ltb-true, ltb-false}
use Rattle.mini_model.specs.declared.name.Name.{Name}
use Rattle.mini_model.specs.Tree.{Tree, Trees, node, none, ◌▸◌, children, shape_of}
use Rattle.mini_node.specs.Children.{names, names_of, trees_of}
use Rattle.mini_rows.specs.Past.{is_binding, is_symbol, has_symbol, binds, any_bind}
use Rattle.mini_rows.specs.Steady.{times_named, bindings, all_bindings}
use Rattle.mini_rows.proofs.PastInsideKnown.{all_none_bound}
use Rattle.mini_rows.proofs.Valued.{all_unbound}
use Rattle.mini_steady.proofs.Rests.{rest_of, opened_list}

module _ (k : ℕ) where
  -- what is declared there is so at least once
  some : (ts : Trees) → any_bind k ts ≡ true → 1 ≤ all_bindings k ts
  some ts e = by (all_bindings k ts) refl
    where
      by : (m : ℕ) → all_bindings k ts ≡ m → 1 ≤ m
      by zero q = absurd (true≢false (sym e ∙ all_unbound k ts q))
      by (suc m) q = omega arith

  alone : (t : Tree) → binds k t ≡ any_bind k (t ▸ none)
  alone t = by (binds k t)
    where
      by : (b : Bool) → b ≡ (b || false)
      by true = refl
      by false = refl

  -- one more is more than one
  one_more : (m : ℕ) (ts : Trees) → m ≡ 1 + all_bindings k ts → any_bind k ts ≡ nat_lt 1 m
  one_more m ts e = by (any_bind k ts) refl
    where
      by : (b : Bool) → any_bind k ts ≡ b → b ≡ nat_lt 1 m
      by true q = sym (lt-ltb 1 m (omega (arith, e, some ts q)))
      by false q = sym (le-ltb 1 m (omega (arith, e, all_none_bound k ts q)))

  named_once : (o : Option Name) → has_symbol k (names o) ≡ true → times_named k (names o) ≡ 1
  named_once None e = absurd (true≢false (sym e))
  named_once (Some x) e = by (is_symbol k x.symbol) e
    where
      by : (b : Bool) → (b || false) ≡ true → (if b then 1 else 0) + 0 ≡ 1
      by true e = refl
      by false e = absurd (true≢false (sym e))

  named_none : (o : Option Name) → has_symbol k (names o) ≡ false → times_named k (names o) ≡ 0
  named_none None e = refl
  named_none (Some x) e = by (is_symbol k x.symbol) e
    where
      by : (b : Bool) → (b || false) ≡ false → (if b then 1 else 0) + 0 ≡ 0
      by true e = absurd (true≢false e)
      by false e = refl

  opened : (t : Tree) → bindings k t ≡ (if is_binding (shape_of t) then times_named k (names_of t) else 0) + all_bindings k (children t)
  opened (node h xs n ts) = refl

  own_one : (b : Bool) (m : ℕ) → b ≡ true → m ≡ 1 → (if b then m else 0) ≡ 1
  own_one true m e f = f
  own_one false m e f = absurd (true≢false (sym e))

  own_none : (b : Bool) (o : Option Name) → (b && has_symbol k (names o)) ≡ false → (if b then times_named k (names o) else 0) ≡ 0
  own_none true o e = named_none o e
  own_none false o e = refl

  parts : (a b : Bool) → (a && b) ≡ true → (a ≡ true) × (b ≡ true)
  parts true b e = (refl, e)
  parts false b e = absurd (true≢false (sym e))

  -- as the code tells: of a node that declares it, and of another
  pub twice_here : (t : Tree) (o : Option Name) → names o ≡ names_of t → (is_binding (shape_of t) && has_symbol k (names o)) ≡ true → nat_lt 1 (bindings k t) ≡ any_bind k (children t)
  twice_here t o e f =
      let (b, s) = parts (is_binding (shape_of t)) (has_symbol k (names o)) f in
      let own = own_one (is_binding (shape_of t)) (times_named k (names_of t)) b (sym (ap (times_named k) e) ∙ named_once o s) in
      sym (one_more (bindings k t) (children t) (opened t ∙ ap (λ m. m + all_bindings k (children t)) own))

  pub twice_below : (t : Tree) (o : Option Name) → names o ≡ names_of t → (is_binding (shape_of t) && has_symbol k (names o)) ≡ false → nat_lt 1 (bindings k t) ≡ nat_lt 1 (all_bindings k (children t))
  twice_below t o e f =
      let own = sym (ap (λ xs. if is_binding (shape_of t) then times_named k xs else 0) e) ∙ own_none (is_binding (shape_of t)) o f in
      let same : bindings k t ≡ all_bindings k (children t) = omega (arith, opened t, own) in
      ap (nat_lt 1) same

  -- of the first of some nodes, where it declares it, and where it doesn't
  pub twice_first : (t : Tree) (ts : Trees) → binds k t ≡ true → nat_lt 1 (all_bindings k (t ▸ ts)) ≡ (nat_lt 1 (bindings k t) || any_bind k ts)
  twice_first t ts e = sym (by (nat_lt 1 (bindings k t)) refl (any_bind k ts) refl)
    where
      once : 1 ≤ bindings k t
      once = let there = some (t ▸ none) (sym (alone t) ∙ e) in omega (arith, there)

      by : (b : Bool) → nat_lt 1 (bindings k t) ≡ b → (c : Bool) → any_bind k ts ≡ c → (b || c) ≡ nat_lt 1 (all_bindings k (t ▸ ts))
      by true q c r = sym (lt-ltb 1 (all_bindings k (t ▸ ts)) (let more = ltb-true 1 (bindings k t) q in omega (arith, more)))
      by false q true r = sym (lt-ltb 1 (all_bindings k (t ▸ ts)) (omega (arith, once, some ts r)))
      by false q false r = sym (le-ltb 1 (all_bindings k (t ▸ ts)) (let less = ltb-false 1 (bindings k t) q in omega (arith, less, all_none_bound k ts r)))

  pub twice_later : (t : Tree) (ts : Trees) → binds k t ≡ false → nat_lt 1 (all_bindings k (t ▸ ts)) ≡ nat_lt 1 (all_bindings k ts)
  twice_later t ts e =
      let nowhere = all_none_bound k (t ▸ none) (sym (alone t) ∙ e) in
      let same : all_bindings k (t ▸ ts) ≡ all_bindings k ts = omega (arith, nowhere) in
      ap (nat_lt 1) same

  -- and so of a slice
  pub twice_there : (xs : List Tree) (x : Tree) (b : Bool) → 1 ≤ length xs → x ≡ slice_index_or xs 0 x → true ≡ binds k x → false ≡ nat_lt 1 (bindings k x) → b ≡ any_bind k (rest_of xs) → b ≡ nat_lt 1 (all_bindings k (trees_of xs))
  twice_there xs x b h e f g i =
      i ∙ ap (λ c. c || any_bind k (rest_of xs)) g ∙ sym (twice_first x (rest_of xs) (sym f)) ∙ sym (ap (λ ts. nat_lt 1 (all_bindings k ts)) (opened_list xs x h e))

  pub twice_rest : (xs : List Tree) (x : Tree) (b : Bool) → 1 ≤ length xs → x ≡ slice_index_or xs 0 x → false ≡ binds k x → b ≡ nat_lt 1 (all_bindings k (rest_of xs)) → b ≡ nat_lt 1 (all_bindings k (trees_of xs))
  twice_rest xs x b h e f g =
      g ∙ sym (twice_later x (rest_of xs) (sym f)) ∙ sym (ap (λ ts. nat_lt 1 (all_bindings k ts)) (opened_list xs x h e))

  pub twice_shown : (t : Tree) (o : Option Name) (ts : Trees) (b : Bool) → names o ≡ names_of t → ts ≡ children t → is_binding (shape_of t) ≡ true → has_symbol k (names o) ≡ true → b ≡ any_bind k ts → b ≡ nat_lt 1 (bindings k t)
  twice_shown t o ts b e f g h i = i ∙ ap (any_bind k) f ∙ sym (twice_here t o e (λ j. g j && h j))
