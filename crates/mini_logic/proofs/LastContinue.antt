-- The rewrite is that of row 78 of loops.
use Rattle.std.proofs.Common.{◌≡◌, ◌+◌, ℕ, zero, suc, Bool, true, false, [], refl, sym, ap, subst, ◌∙◌, inl, inr, arith}
use Rattle.std.specs.Prelude.{◌||◌, Option, Some, None, if◌then◌else◌}
use Rattle.std.proofs.lemmas.Bool.{and_parts, false≢true}
use Rattle.std.proofs.lemmas.Option.{none-some}
use Rattle.mini_model.specs.declared.shape.Shape.TheVariants as shape
use Rattle.mini_model.specs.Tree.{Tree, Trees, node, none, ◌▸◌, count, children, child_or_absent, empty_statement}
use Rattle.mini_model.specs.Paths.{append}
use Rattle.mini_node.specs.Children.{part, like, with_child}
use Rattle.mini_node.specs.Kinds.{is_block}
use Rattle.mini_node.specs.Made.{absent_is, block_is}
use Rattle.mini_rows.specs.Lists.{block}
use Rattle.mini_rows.specs.Branches.{Surrounding, Consequent, Alternate, WhileBody, DoBody, ForBody, InBody, OfBody, around, is_loop, bare_continue, Row78}
use Rattle.mini_logic.specs.UnwrapBlock.{body_place}
use Rattle.mini_logic.specs.LastContinue.{goes_on, last_of, before_last, ends_going, is_idle_end, idle_at, place, left_at}
use Rattle.mini_logic.proofs.UnwrapBlock.{some_then, never}

-- ---- the last statement

goes_on_is : (t : Tree) → goes_on t ≡ true → t ≡ bare_continue
goes_on_is (node shape.ContinueStatement [] zero (a ▸ none)) e = ap (λ u. node shape.ContinueStatement [] 0 (u ▸ none)) (absent_is a e)
goes_on_is t e = absurd (false≢true e)

split : (ts : Trees) → goes_on (last_of ts) ≡ true → ts ≡ append (before_last ts) (bare_continue ▸ none)
split none e = absurd (false≢true e)
split (t ▸ none) e = ap (λ u. u ▸ none) (goes_on_is t e)
split (t ▸ (u ▸ ts)) e = ap (λ us. t ▸ us) (split (u ▸ ts) e)

pub last_pushed : (ts : Trees) (x : Tree) → last_of (append ts (x ▸ none)) ≡ x
last_pushed none x = refl
last_pushed (t ▸ none) x = refl
last_pushed (t ▸ (u ▸ ts)) x = last_pushed (u ▸ ts) x

pub before_pushed : (ts : Trees) (x : Tree) → before_last (append ts (x ▸ none)) ≡ ts
before_pushed none x = refl
before_pushed (t ▸ none) x = refl
before_pushed (t ▸ (u ▸ ts)) x = ap (λ us. t ▸ us) (before_pushed (u ▸ ts) x)

-- what is left where the last one is taken out
pub popped : (ts us : Trees) (x : Tree) → ts ≡ append us (x ▸ none) → us ≡ before_last ts
popped ts us x e = sym (ap before_last e ∙ before_pushed us x)

pub none_popped : (ts us : Trees) → ts ≡ none → us ≡ none → us ≡ before_last ts
none_popped ts us e f = f ∙ sym (ap before_last e)

pub last_at : (ts : Trees) (i : ℕ) → count ts ≡ i + 1 → child_or_absent ts i ≡ last_of ts
last_at none i e = absurd (omega (arith, e))
last_at (t ▸ none) zero e = refl
last_at (t ▸ none) (suc i) e = absurd (omega (arith, e))
last_at (t ▸ (u ▸ ts)) zero e = absurd (omega (arith, e))
last_at (t ▸ (u ▸ ts)) (suc i) e = last_at (u ▸ ts) i (omega (arith, e))

pub none_goes_on : (ts : Trees) → count ts ≡ 0 → goes_on (last_of ts) ≡ false
none_goes_on none e = refl
none_goes_on (t ▸ ts) e = absurd (omega (arith, e))

-- ---- a loop by the place of its body

pub record Looped (t : Tree) (i : ℕ) : Type 0 where
  pub place : Surrounding
  pub loop : is_loop place ≡ true
  pub is : t ≡ around place (part t i)
  pub put : (c : Tree) → like t (with_child (children t) i c) ≡ around place c

pub looped : (t : Tree) (i : ℕ) → body_place t ≡ Some i → Looped t i
looped (node shape.WhileStatement [] zero (a ▸ (b ▸ none))) i e = let at : 1 ≡ i = cc e in subst (Looped (around (WhileBody a) b)) at (record { place = WhileBody a; loop = refl; is = refl; put = λ c. refl })
looped (node shape.DoWhileStatement [] zero (b ▸ (a ▸ none))) i e = let at : 0 ≡ i = cc e in subst (Looped (around (DoBody a) b)) at (record { place = DoBody a; loop = refl; is = refl; put = λ c. refl })
looped (node shape.ForStatement [] zero (x ▸ (y ▸ (z ▸ (b ▸ none))))) i e = let at : 3 ≡ i = cc e in subst (Looped (around (ForBody x y z) b)) at (record { place = ForBody x y z; loop = refl; is = refl; put = λ c. refl })
looped (node shape.ForInStatement [] zero (x ▸ (y ▸ (b ▸ none)))) i e = let at : 2 ≡ i = cc e in subst (Looped (around (InBody x y) b)) at (record { place = InBody x y; loop = refl; is = refl; put = λ c. refl })
looped (node shape.ForOfStatement [] zero (x ▸ (y ▸ (b ▸ none)))) i e = let at : 2 ≡ i = cc e in subst (Looped (around (OfBody x y) b)) at (record { place = OfBody x y; loop = refl; is = refl; put = λ c. refl })
looped t i e = absurd (none-some i e)

-- ---- what is written is what the row writes

of_loop : (t : Tree) (i : ℕ) → Looped t i → is_idle_end (part t i) ≡ true → Row78 t (left_at t i)
of_loop t i l h = go (goes_on (part t i)) refl h
  where
    b : Tree
    b = part t i

    go : (d : Bool) → goes_on (part t i) ≡ d → (d || ends_going (part t i)) ≡ true → Row78 t (like t (with_child (children t) i (if d then empty_statement else block (before_last (children (part (part t i) 0))))))
    go true e f = inr (record { place = l.place; loop = l.loop; shape = l.is ∙ ap (around l.place) (goes_on_is (part t i) e); written = l.put empty_statement })
    go false e f =
        let (is, last) = and_parts (is_block (part t i)) (goes_on (last_of (children (part (part t i) 0)))) f in
        inl (record {
          place = l.place;
          before = before_last (children (part (part t i) 0));
          loop = l.loop;
          shape = l.is ∙ ap (around l.place) (block_is (part t i) is ∙ ap block (split (children (part (part t i) 0)) last));
          written = l.put (block (before_last (children (part (part t i) 0))));
        })

pub row_at : (t : Tree) (i : ℕ) → place t ≡ Some i → Row78 t (left_at t i)
row_at t i e = go (body_place t) refl e
  where
    go : (o : Option ℕ) → body_place t ≡ o → idle_at t o ≡ Some i → Row78 t (left_at t i)
    go None h f = absurd (none-some i f)
    go (Some m) h f = let (idle, at) = some_then (is_idle_end (part t m)) m i f in subst (λ j. Row78 t (left_at t j)) at (of_loop t m (looped t m h) idle)

-- ---- where nothing is written the row doesn't read it

held : (k : Surrounding) (c : Tree) → is_loop k ≡ true → is_idle_end c ≡ true → place (around k c) ≡ None → ⊥
held (Consequent a u) c h i e = absurd (false≢true h)
held (Alternate a s) c h i e = absurd (false≢true h)
held (WhileBody a) c h i e = never (is_idle_end c) 1 i e
held (DoBody a) c h i e = never (is_idle_end c) 0 i e
held (ForBody x y z) c h i e = never (is_idle_end c) 3 i e
held (InBody x y) c h i e = never (is_idle_end c) 2 i e
held (OfBody x y) c h i e = never (is_idle_end c) 2 i e

pub misses : (t w : Tree) → place t ≡ None → Row78 t w → ⊥
misses t w e (inl r) = held r.place (block (append r.before (bare_continue ▸ none))) r.loop (ap goes_on (last_pushed r.before bare_continue)) (sym (ap place r.shape) ∙ e)
misses t w e (inr r) = held r.place bare_continue r.loop refl (sym (ap place r.shape) ∙ e)
