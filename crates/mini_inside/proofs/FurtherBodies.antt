-- The list of a body, taken out of it and put back.
use Rattle.std.specs.Prelude.{ℕ, ◌≡◌, ◌<◌, Bool, true}
use Rattle.std.proofs.Common.{ap, ◌∙◌, subst, subst₂, arith}
use Rattle.mini_model.specs.Tree.{Tree, none, ◌▸◌, absent, listed, count, children}
use Rattle.mini_rows.specs.Inside.{Ends}
use Rattle.mini_node.specs.Children.{part, with_part}
use Rattle.mini_node.specs.Kinds.{is_listed}
use Rattle.mini_rows.specs.declared.inside.Way.TheVariants as way
use Rattle.mini_unused.proofs.Unused.{same_parts, part_twice, part_with}
use Rattle.mini_inside.specs.Further.{pushed, BelowWalked, Under, UnderBody, UnderList, with_body_list}
use Rattle.mini_inside.proofs.FurtherSteps.{pushed_listed}

-- ---- the nodes above it: what holds it alone

pub above_listed : (a o n : Tree) → a ≡ listed none → n ≡ pushed a o → is_listed n ≡ true
above_listed a o n e f = ap is_listed f ∙ pushed_listed a o (ap is_listed e)

pub under_walked : (E : Ends) (o p l m a n : Tree) (c : Bool) → a ≡ listed none → n ≡ pushed a o → p ≡ o → BelowWalked E (children n) way.Statements l m c → Under E o l p m c
under_walked E o p l m a n c e f g w = (g, subst (λ us. BelowWalked E us way.Statements l m c) (ap children f ∙ ap (λ z. children (pushed z o)) e) w)

-- ---- a body

body_part : (t : Tree) (i : ℕ) (x : Tree) → i < count (children t) → part (with_body_list t i x) i ≡ with_part (part t i) 0 x
body_part t i x h = part_with t i (with_part (part t i) 0 x) h

body_twice : (t : Tree) (i : ℕ) (x y : Tree) → i < count (children t) → with_body_list (with_body_list t i x) i y ≡ with_body_list t i y
body_twice t i x y h = ap (λ b. with_part (with_body_list t i x) i (with_part b 0 y)) (body_part t i x h) ∙ ap (λ b. with_part (with_body_list t i x) i b) (part_twice (part t i) 0 x y) ∙ part_twice t i (with_part (part t i) 0 x) (with_part (part t i) 0 y)

-- as many parts as before
pub body_parts : (t n o : Tree) (i : ℕ) → n ≡ with_body_list t i absent → o ≡ n → i < count (children t) → i < count (children o)
body_parts t n o i e f h = let same = ap (λ u. count (children u)) (f ∙ e) ∙ same_parts t i (with_part (part t i) 0 absent) in omega (arith, same, h)

pub body_list_parts : (t n o : Tree) (i : ℕ) → n ≡ with_body_list t i absent → o ≡ n → i < count (children t) → 0 < count (children (part t i)) → 0 < count (children (part o i))
body_list_parts t n o i e f h k = let same = ap (λ u. count (children (part u i))) (f ∙ e) ∙ ap (λ b. count (children b)) (body_part t i absent h) ∙ same_parts (part t i) 0 absent in omega (arith, same, k)

pub list_parts : (t n o : Tree) → n ≡ with_part t 0 absent → o ≡ n → 0 < count (children t) → 0 < count (children o)
list_parts t n o e f h = let same = ap (λ u. count (children u)) (f ∙ e) ∙ same_parts t 0 absent in omega (arith, same, h)

pub body_walked : (E : Ends) (t : Tree) (i : ℕ) (l n o m u : Tree) (c : Bool) → i < count (children t) → l ≡ part (part t i) 0 → n ≡ with_body_list t i absent → Under E n l o m c → u ≡ with_body_list o i m → UnderBody E t i u c
body_walked E t i l n o m u c h e f r g =
    (m, g ∙ ap (λ z. with_body_list z i m) (r.0 ∙ f) ∙ body_twice t i absent m h, subst₂ (λ z b. BelowWalked E (z ▸ none) way.Statements b m c) f e r.1)

pub list_walked : (E : Ends) (t l n o m u : Tree) (c : Bool) → l ≡ part t 0 → n ≡ with_part t 0 absent → Under E n l o m c → u ≡ with_part o 0 m → UnderList E t u c
list_walked E t l n o m u c e f r g = (m, g ∙ ap (λ z. with_part z 0 m) (r.0 ∙ f) ∙ part_twice t 0 absent m, subst₂ (λ z b. BelowWalked E (z ▸ none) way.Statements b m c) f e r.1)
