-- One walk for a name: what it tells of a tree, and what it puts there.
use Rattle.std.proofs.Common.{◌≡◌, ℕ, zero, suc, ◌+◌, ◌<◌, ◌≤◌, Bool, true, false, [], ◌∷◌, refl, sym, ap, subst₂, ◌∙◌, add-one, arith}
use Rattle.std.specs.Prelude.{not, ◌&&◌, ◌||◌, Option, Some, None}
use Rattle.mini_model.specs.declared.name.Name.{Name}
use Rattle.mini_model.specs.declared.shape.Shape.{Shape}
use Rattle.mini_model.specs.Tree.{Tree, Trees, node, none, ◌▸◌, shape_of, children, count, node_count, node_counts, child_or_absent}
use Rattle.mini_laws.specs.Symbols.{is_same}
use Rattle.mini_model.specs.Weight.{same_text}
use Rattle.mini_node.specs.Children.{names_of, part, with_child, first_children, rest_children}
use Rattle.mini_node.specs.Kinds.{is_identifier}
use Rattle.mini_node.specs.Lends.{with_children}
use Rattle.mini_node.specs.Walks.{all_first, with_same}
use Rattle.mini_rows.specs.declared.gathered.Gathered.{Gathered}
use Rattle.mini_rows.specs.Unused.{gathered_below, are_passed_in, is_like_one, names, any_names, in_full, holds_list, is_first, put_first, put_among}
use Rattle.mini_unused.specs.Looks.{Looked, LookedAlong, Put, PutAlong}
use Rattle.mini_unused.specs.SubstituteSingleUse.{written_in_full, mention_place, may_lead, may_reach}
use Rattle.mini_unused.proofs.Standing.{before_step}
use Rattle.mini_unused.proofs.SingleUses.{and_false, or_left, or_right, place_later, place_found, place_end, first_by, not_mentioned, passed_none, passed_all, passed_below, put_none, put_at}

or_true : (b : Bool) → (b || true) ≡ true
or_true true = refl
or_true false = refl

or_false : (b : Bool) → (b || false) ≡ b
or_false true = refl
or_false false = refl

and_true : (b : Bool) → (b && true) ≡ b
and_true true = refl
and_true false = refl

turned : (a b c : Bool) → (a && (b && c)) ≡ (b && (a && c))
turned true true c = refl
turned true false c = refl
turned false true c = refl
turned false false c = refl

-- ---- whether a tree mentions the name, by its parts

named_by : (x : Name) (ts : Trees) → mention_place x ts < count ts → any_names x ts ≡ true
named_by x none h = absurd (omega (arith, h))
named_by x (t ▸ ts) h = by (names x t) refl (named_by x ts) h
  where
    by : (c : Bool) → names x t ≡ c → (mention_place x ts < count ts → any_names x ts ≡ true) → mention_place x (t ▸ ts) < count (t ▸ ts) → any_names x (t ▸ ts) ≡ true
    by true e f h = ap (λ b. b || any_names x ts) e
    by false e f h = let later = place_later x t ts e in ap (λ b. b || any_names x ts) e ∙ f (omega (arith, h, later))

pub named_below : (x : Name) (t : Tree) → any_names x (children t) ≡ true → names x t ≡ true
named_below x (node h ys n ts) e = ap (λ b. is_like_one x ys || b) e ∙ or_true (is_like_one x ys)

pub named_itself : (x : Name) (t : Tree) → any_names x (children t) ≡ false → is_like_one x (names_of t) ≡ names x t
named_itself x (node h ys n ts) e = sym (ap (λ b. is_like_one x ys || b) e ∙ or_false (is_like_one x ys))

pub none_below : (x : Name) (t : Tree) → names x t ≡ false → any_names x (children t) ≡ false
none_below x (node h ys n ts) e = or_right (is_like_one x ys) (any_names x ts) e

place_none : (x : Name) (ts : Trees) → any_names x ts ≡ false → count ts ≡ mention_place x ts
place_none x ts e = place_end x ts (count ts) (omega arith) (ap (any_names x) (all_first ts (count ts) (omega arith)) ∙ e)

-- ---- whether it reads the name first

pub unread : (x : Name) (l : Bool) (t : Tree) → 0 < count (children t) → any_names x (children t) ≡ false → is_first x l t ≡ false
unread x l t some e = let same = place_none x (children t) e in not_mentioned x l t (mention_place x (children t)) some refl (omega (arith, same))

pub unnamed : (x : Name) (l : Bool) (t : Tree) → names x t ≡ false → is_first x l t ≡ false
unnamed x l (node h [] n none) e = ap (λ b. not l && b) (and_false (is_identifier (node h [] n none))) ∙ and_false (not l)
unnamed x l (node h (y ∷ ys) n none) e =
    let like = or_left (is_like_one x (y ∷ ys)) false e in
    let one = or_left (same_text x.spelling y.spelling || is_same x.symbol y.symbol) (is_like_one x ys) like in
    let symbol = or_right (same_text x.spelling y.spelling) (is_same x.symbol y.symbol) one in
    ap (λ b. not l && (is_identifier (node h (y ∷ ys) n none) && b)) symbol ∙ ap (λ b. not l && b) (and_false (is_identifier (node h (y ∷ ys) n none))) ∙ and_false (not l)
unnamed x l (node h ys n (t ▸ ts)) e = unread x l (node h ys n (t ▸ ts)) (omega arith) (or_right (is_like_one x ys) (any_names x (t ▸ ts)) e)

pub looked_some : (x : Name) (l : Bool) (t : Tree) (h : Shape) (ts : Trees) (i : ℕ) (b p : Bool) → h ≡ shape_of t → ts ≡ children t → LookedAlong (λ j. is_first x (holds_list h j)) x ts (Some (i, b)) → p ≡ (b && (may_lead l t i && not (any_names x (rest_children (i + 1) (children t))))) → Looked (Some p) (names x t) (is_first x l t)
looked_some x l t h ts i b p f g (w, e, q) r =
    let same = ap count g in
    let within : i < count (children t) = omega (arith, w, same) in
    let place : i ≡ mention_place x (children t) = e ∙ ap (mention_place x) g in
    let lead = may_lead l t i in
    let rest = any_names x (rest_children (i + 1) (children t)) in (
      named_below x t (named_by x (children t) (omega (arith, within, place))),
      r ∙ turned b lead (not rest) ∙ sym (first_by x l t i lead b rest place within refl (q ∙ (λ k. is_first x (holds_list (f k) i) (child_or_absent (g k) i))) (ap (λ j. any_names x (rest_children j (children t))) (add-one i))),
    )

-- of the first part that mentions the name, whatever is told of it
module _ (f : ℕ → Tree → Bool) (x : Name) (ts : Trees) where
  pub looked_there : (i : ℕ) (t : Tree) (b : Bool) → i < count ts → any_names x (first_children i ts) ≡ false → t ≡ child_or_absent ts i → Looked (Some b) (names x t) (f i t) → LookedAlong f x ts (Some (i, b))
  looked_there i t b w p e (n, q) = (w, place_found x ts i t w p e n, q ∙ ap (f i) e)

pub none_there : (x : Name) (ts : Trees) (i : ℕ) → count ts ≤ i → any_names x (first_children i ts) ≡ false → any_names x ts ≡ false
none_there x ts i h e = sym (ap (any_names x) (all_first ts i h)) ∙ e

-- ---- whether what stands before the read may be evaluated before the initializer

module _ (x : Name) (m : Gathered) (r t : Tree) where
  passed_by : (i : ℕ) (b c : Bool) → i ≡ mention_place x (children t) → i < count (children t) → b ≡ are_passed_in x (gathered_below m (shape_of t) i) r (part t i) → may_reach x m r t i ≡ c → (b && c) ≡ are_passed_in x m r t
  passed_by i b true e w q f = and_true b ∙ q ∙ sym (passed_below x m r t i e w f)
  passed_by i b false e w q f = and_false b ∙ sym (passed_none x m r t i e f)

  pub looked_passed : (h : Shape) (ts : Trees) (i : ℕ) (b p : Bool) → h ≡ shape_of t → ts ≡ children t → LookedAlong (λ j. are_passed_in x (gathered_below m h j) r) x ts (Some (i, b)) → p ≡ (b && may_reach x m r t i) → Looked (Some p) (names x t) (are_passed_in x m r t)
  looked_passed h ts i b p f g (w, e, q) o =
      let same = ap count g in
      let within : i < count (children t) = omega (arith, w, same) in
      let place : i ≡ mention_place x (children t) = e ∙ ap (mention_place x) g in (
        named_below x t (named_by x (children t) (omega (arith, within, place))),
        o ∙ passed_by i b (may_reach x m r t i) place within (q ∙ (λ k. are_passed_in x (gathered_below m (f k) i) r (child_or_absent (g k) i))) refl,
      )

  passed_end : (i : ℕ) (c : Bool) → i ≡ mention_place x (children t) → count (children t) ≤ i → may_reach x m r t i ≡ c → c ≡ are_passed_in x m r t
  passed_end i true e w f = sym (passed_all x m r t i e w f)
  passed_end i false e w f = sym (passed_none x m r t i e f)

  pub passed_whole : (i : ℕ) → any_names x (children t) ≡ false → i ≡ count (children t) → may_reach x m r t i ≡ are_passed_in x m r t
  passed_whole i e f = let place = place_none x (children t) e in passed_end i (may_reach x m r t i) (f ∙ place) (omega (arith, f)) refl

-- ---- what is put there

pub put_own : (x : Name) (r t u : Tree) → 0 < count (children t) → any_names x (children t) ≡ false → u ≡ written_in_full t → u ≡ put_first x r t
put_own x r t u some e f = let same = place_none x (children t) e in f ∙ sym (put_none x r t (mention_place x (children t)) some refl (omega (arith, same)))

pub put_below : (x : Name) (r t u : Tree) (us : Trees) → 0 < count (children t) → us ≡ put_among x r (children t) → u ≡ written_in_full (with_children t us) → u ≡ put_first x r t
put_below x r (node h ys n none) u us some e f = absurd (omega (arith, some))
put_below x r (node h ys n (t ▸ ts)) u us some e f = f ∙ ap (node (in_full h) ys n) e

pub put_back : (t : Tree) (us : Trees) → us ≡ children t → with_children t us ≡ t
put_back (node h ys n ts) us e = ap (node h ys n) e

pub put_anyway : (x : Name) (r t u : Tree) → 0 < count (children t) → names x t ≡ false → u ≡ written_in_full t → u ≡ put_first x r t
put_anyway x r t u some e f = put_own x r t u some (none_below x t e) f

pub children_with : (t : Tree) (us : Trees) → children (with_children t us) ≡ us
children_with (node h ys n ts) us = refl

-- where it comes back from the parts
pub put_still : (x : Name) (r s t u : Tree) (ts us : Trees) (o : Option Tree) → ts ≡ children t → PutAlong x r ts us (Some s) → Put x s (with_children t us) u o → Put x r t u o
put_still x r s t u ts us o e (n, f, g) h = subst₂ (λ v w. Put x v w u o) g (put_back t us (f ∙ e)) h

pub put_whole : (x : Name) (r t u : Tree) (ts us : Trees) → 0 < count (children t) → ts ≡ children t → PutAlong x r ts us None → u ≡ written_in_full (with_children t us) → Put x r t u None
put_whole x r t u ts us some e (n, f) g = (named_below x t (sym (ap (any_names x) e) ∙ n), put_below x r t u us some (f ∙ ap (put_among x r) e) g)

pub child_smaller : (ts ns : Trees) (i : ℕ) (t : Tree) → i < count ts → ns ≡ ts → t ≡ child_or_absent ns i → node_count t ≤ node_counts ts
child_smaller ts ns i t w e f = let same = ap node_count (f ∙ ap (λ vs. child_or_absent vs i) e) in let less = go ts i w in omega (arith, same, less)
  where
    go : (ts : Trees) (i : ℕ) → i < count ts → node_count (child_or_absent ts i) ≤ node_counts ts
    go none i w = absurd (omega (arith, w))
    go (t ▸ ts) zero w = omega arith
    go (t ▸ ts) (suc i) w = let less = go ts i (omega (arith, w)) in omega (arith, less)

-- one part after another
module _ (x : Name) (r : Tree) (ts : Trees) where
  pub put_there : (ns us : Trees) (i : ℕ) (l t u : Tree) → i < count ts → any_names x (first_children i ts) ≡ false → ns ≡ ts → l ≡ r → t ≡ child_or_absent ns i → Put x l t u None → us ≡ with_child ns i u → PutAlong x r ts us None
  put_there ns us i l t u w f e g h (n, p) q =
      let there = h ∙ ap (λ vs. child_or_absent vs i) e in
      let place = place_found x ts i t w f there n in
      let put : u ≡ put_first x r (child_or_absent ts (mention_place x ts)) = p ∙ (λ k. put_first x (g k) (there k)) ∙ ap (λ j. put_first x r (child_or_absent ts j)) place in (
        named_by x ts (omega (arith, w, place)),
        q ∙ (λ k. with_child (e k) (place k) (put k)) ∙ sym (put_at x r ts (omega (arith, w, place))),
      )

  pub put_on : (ns us : Trees) (i k : ℕ) (l t u s : Tree) → k ≡ suc i → i < count ts → any_names x (first_children i ts) ≡ false → ns ≡ ts → l ≡ r → t ≡ child_or_absent ns i → Put x l t u (Some s) → us ≡ with_child ns i u → (any_names x (first_children k ts) ≡ false) × (us ≡ ts) × (s ≡ r)
  put_on ns us i k l t u s m w f e g h (n, p, o) q =
      let there = h ∙ ap (λ vs. child_or_absent vs i) e in (
        before_step x ts i k t m w there n f,
        q ∙ (λ j. with_child (e j) i ((p ∙ there) j)) ∙ with_same ts i,
        o ∙ g,
      )

  pub put_end : (ns : Trees) (i : ℕ) (l : Tree) → count ts ≤ i → any_names x (first_children i ts) ≡ false → ns ≡ ts → l ≡ r → PutAlong x r ts ns (Some l)
  put_end ns i l h f e g = (none_there x ts i h f, e, g)
