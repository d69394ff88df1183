-- One look that tells whether a name is mentioned, and whether an initializer may be put where it
-- is.
use Rattle.std.proofs.Common.{◌≡◌, ℕ, zero, suc, ◌+◌, ◌<◌, ◌≤◌, Bool, true, false, [], ◌∷◌, refl, sym, ap, subst, ◌∙◌, true≢false, arith}
use Rattle.std.specs.Prelude.{◌&&◌, ◌||◌, is_some, nat_eq, if◌then◌else◌, Option, Some, None}
use Rattle.std.proofs.lemmas.Bool.{eqb-true}
use Rattle.mini_model.specs.declared.name.Name.{Name}
use Rattle.mini_model.specs.declared.shape.Shape.{Shape}
use Rattle.mini_model.specs.Tree.{Tree, Trees, node, none, ◌▸◌, count, child_or_absent, children, shape_of}
use Rattle.mini_node.specs.Children.{names as names_in, names_of, first_children}
use Rattle.mini_rows.specs.Past.{Kept, passes_any_at, is_certain, are_past_in, all_past, all_of}
use Rattle.mini_rows.specs.declared.gathered.Gathered.{Gathered}
use Rattle.mini_rows.specs.Unused.{names, any_names, begins_with, gathered_below}
use Rattle.mini_unused.specs.Looks.{Looked}
use Rattle.mini_past.specs.Looks.{FirstAt}
use Rattle.mini_past.proofs.PassedParts.{opened}

or_left : (a b : Bool) → (a || b) ≡ false → a ≡ false
or_left true b e = absurd (true≢false e)
or_left false b e = refl

or_right : (a b : Bool) → (a || b) ≡ false → b ≡ false
or_right true b e = absurd (true≢false e)
or_right false b e = e

not_first : (i : ℕ) (b : Bool) → nat_eq (suc i) 0 ≡ b → b ≡ false
not_first i false e = refl
not_first i true e = let same : suc i ≡ 0 = eqb-true (suc i) 0 e in absurd (omega (arith, same))

-- the first part that mentions the name is the first of all, or isn't
pub begins_at : (x : Name) (ts : Trees) (i : ℕ) → i < count ts → any_names x (first_children i ts) ≡ false → names x (child_or_absent ts i) ≡ true → begins_with x ts ≡ nat_eq i 0
begins_at x none i l f n = absurd (omega (arith, l))
begins_at x (t ▸ ts) zero l f n = n
begins_at x (t ▸ ts) (suc i) l f n = or_left (names x t) (any_names x (first_children i ts)) f ∙ sym (not_first i (nat_eq (suc i) 0) refl)

pub named_there : (x : Name) (ts : Trees) (i : ℕ) → i < count ts → names x (child_or_absent ts i) ≡ true → any_names x ts ≡ true
named_there x none i l n = absurd (omega (arith, l))
named_there x (t ▸ ts) zero l n = ap (λ b. b || any_names x ts) n
named_there x (t ▸ ts) (suc i) l n = second (names x t) (named_there x ts i (omega (arith, l)) n)
  where
    second : (b : Bool) → any_names x ts ≡ true → (b || any_names x ts) ≡ true
    second true e = refl
    second false e = e

pub nameless : (x : Name) (t : Tree) → [] ≡ names_of t → names x t ≡ any_names x (children t)
nameless x (node h [] n ts) e = refl
nameless x (node h (y ∷ ys) n ts) e = absurd (cc e)

pub none_named : (o : Option Name) (t : Tree) → false ≡ is_some o → names_in o ≡ names_of t → [] ≡ names_of t
none_named None t e f = f
none_named (Some x) t e f = absurd (true≢false (sym e))

module _ (H : Kept) (x : Name) (m : Gathered) (r : Tree) (s : Shape) where
  -- those before it may be evaluated before the initializer, and so may what comes before the read
  -- in it
  pub past_at : (ts : Trees) (i j : ℕ) → i < count ts → any_names x (first_children i ts) ≡ false → names x (child_or_absent ts i) ≡ true → all_past H x m r s j ts ≡ (all_of (passes_any_at H m r s) (first_children i ts) && are_past_in H x (gathered_below m s (j + i)) r (child_or_absent ts i))
  past_at none i j l f n = absurd (omega (arith, l))
  past_at (t ▸ ts) zero j l f n =
      ap (λ c. if c then are_past_in H x (gathered_below m s j) r t else (passes_any_at H m r s t && all_past H x m r s (suc j) ts)) n
      ∙ ap (λ k. are_past_in H x (gathered_below m s k) r t) (same j)
    where
      same : (j : ℕ) → j ≡ j + 0
      same j = omega arith
  past_at (t ▸ ts) (suc i) j l f n =
      ap (λ c. if c then are_past_in H x (gathered_below m s j) r t else (passes_any_at H m r s t && all_past H x m r s (suc j) ts)) (or_left (names x t) (any_names x (first_children i ts)) f)
      ∙ ap (λ b. passes_any_at H m r s t && b) (past_at ts i (suc j) (omega (arith, l)) (or_right (names x t) (any_names x (first_children i ts)) f) n)
      ∙ ap (λ k. passes_any_at H m r s t && (all_of (passes_any_at H m r s) (first_children i ts) && are_past_in H x (gathered_below m s k) r (child_or_absent ts i))) (further j i)
      ∙ sym (joined (passes_any_at H m r s t) _ _)
    where
      further : (j i : ℕ) → suc j + i ≡ j + suc i
      further j i = omega arith

      joined : (a b c : Bool) → ((a && b) && c) ≡ (a && (b && c))
      joined true b c = refl
      joined false b c = refl

pub begins_first : (x : Name) (ts : Trees) (i : ℕ) → FirstAt x ts i → nat_eq i 0 ≡ begins_with x ts
begins_first x ts i f = sym (begins_at x ts i f.within f.before f.there)

pub first_in : (x : Name) (ts us : Trees) (i : ℕ) → us ≡ ts → FirstAt x ts i → FirstAt x us i
first_in x ts us i e f = subst (λ vs. FirstAt x vs i) (sym e) f

pub first_within : (x : Name) (ts us : Trees) (i : ℕ) → us ≡ ts → FirstAt x ts i → i ≤ count us
first_within x ts us i e f = let within = f.within in let same = ap count e in omega (arith, within, same)

module _ (H : Kept) (x : Name) (m : Gathered) (r : Tree) where
  pub looked_some : (t : Tree) (h : Shape) (ts : Trees) (i : ℕ) (b p : Bool) → [] ≡ names_of t → h ≡ shape_of t → ts ≡ children t → FirstAt x ts i → b ≡ are_past_in H x (gathered_below m h i) r (child_or_absent ts i) → p ≡ (b && (is_certain x m r (shape_of t) (children t) && all_of (passes_any_at H m r (shape_of t)) (first_children i (children t)))) → Looked (Some p) (names x t) (are_past_in H x m r t)
  looked_some t h ts i b p n e f g q w = (nameless x t n ∙ ap (any_names x) (sym f) ∙ named_there x ts i g.within g.there, w ∙ turned b certain passed ∙ (λ k. certain && (passed && q k)) ∙ all)
    where
      certain : Bool
      certain = is_certain x m r (shape_of t) (children t)

      passed : Bool
      passed = all_of (passes_any_at H m r (shape_of t)) (first_children i (children t))

      turned : (a b c : Bool) → (a && (b && c)) ≡ (b && (c && a))
      turned true true true = refl
      turned true true false = refl
      turned true false c = refl
      turned false true true = refl
      turned false true false = refl
      turned false false c = refl

      same : (i : ℕ) → i ≡ 0 + i
      same i = omega arith

      there : FirstAt x (children t) i
      there = first_in x ts (children t) i (sym f) g

      all : (certain && (passed && are_past_in H x (gathered_below m h i) r (child_or_absent ts i))) ≡ are_past_in H x m r t
      all =
          (λ k. certain && (passed && are_past_in H x (gathered_below m (e k) i) r (child_or_absent (f k) i)))
          ∙ ap (λ j. certain && (passed && are_past_in H x (gathered_below m (shape_of t) j) r (child_or_absent (children t) i))) (same i)
          ∙ ap (λ c. certain && c) (sym (past_at H x m r (shape_of t) (children t) i 0 there.within there.before there.there))
          ∙ sym (opened H x m r t)

  pub looked_none : (t : Tree) (ts : Trees) (p : Bool) → [] ≡ names_of t → ts ≡ children t → any_names x ts ≡ false → Looked None (names x t) p
  looked_none t ts p n e f = nameless x t n ∙ ap (any_names x) (sym e) ∙ f
