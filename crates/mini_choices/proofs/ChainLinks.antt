-- What is written for an optional chain by what stands before its `?.` is what a row says, and what a row reads is written.
use Rattle.std.proofs.Common.{◌≡◌, ◌⊎◌, zero, Bool, true, false, List, [], ◌∷◌, Option, Some, None, refl, sym, ap, subst, ◌∙◌, inl, inr}
use Rattle.std.specs.Prelude.{◌&&◌, ◌||◌, not, is_some, if◌then◌else◌}
use Rattle.std.proofs.lemmas.Bool.{and_parts, false≢true}
use Rattle.mini_model.specs.declared.seat.Seat.{Seat}
use Rattle.mini_model.specs.declared.shape.Shape.TheVariants as shape
use Rattle.mini_model.specs.Tree.{Tree, Trees, node, none, ◌▸◌, children, child_or_absent, shape_of}
use Rattle.mini_node.specs.Children.{part, is_bare}
use Rattle.mini_node.specs.Kinds.{is_listed}
use Rattle.mini_node.specs.Made.{listed_is}
use Rattle.mini_terms.specs.Parts.{is_link}
use Rattle.mini_terms.specs.Reading.{is_plain_part}
use Rattle.mini_rows.specs.Chains.{is_calm, are_calm, Link, a_member, a_computed, a_call, linked, is_calm_link, chain}
use Rattle.mini_rows.specs.ChainLinks.{is_there, Marked, marked, links_over, is_lone, are_calm_over, has_mark, chain_if, Row64, Row11, ChainRow}
use Rattle.mini_choices.specs.ChainLinks.{is_chain, ends_none, is_step, is_marked, link_shape, relinked, holds_link, is_value, folds_here, here, with_mark, outcome, outcome_in, folded, folded_in, wrapped, folded_written}
use Rattle.mini_choices.proofs.Trials.{not_true, both_true, some_is}

-- ---- links, one after another

module _ (d : Bool) where
  first_out : (ts : Trees) → outcome_in d ts ≡ outcome d (child_or_absent ts 0)
  first_out none = refl
  first_out (t ▸ ts) = refl

  pub none_out : (t : Tree) → is_step t ≡ false → outcome d t ≡ None
  none_out (node h xs n ts) e = ap (λ b. if b then (if folds_here d (node h xs n ts) then Some (holds_link (child_or_absent ts 0)) else with_mark (is_marked h) (outcome_in d ts)) else None) e

  pub here_out : (t : Tree) → is_step t ≡ true → folds_here d t ≡ true → outcome d t ≡ Some (holds_link (part t 0))
  here_out (node h xs n ts) e f =
      ap (λ b. if b then (if folds_here d (node h xs n ts) then Some (holds_link (child_or_absent ts 0)) else with_mark (is_marked h) (outcome_in d ts)) else None) e
      ∙ ap (λ b. if b then Some (holds_link (child_or_absent ts 0)) else with_mark (is_marked h) (outcome_in d ts)) f

  pub below_out : (t : Tree) → is_step t ≡ true → folds_here d t ≡ false → outcome d t ≡ with_mark (is_marked (shape_of t)) (outcome d (part t 0))
  below_out (node h xs n ts) e f =
      ap (λ b. if b then (if folds_here d (node h xs n ts) then Some (holds_link (child_or_absent ts 0)) else with_mark (is_marked h) (outcome_in d ts)) else None) e
      ∙ ap (λ b. if b then Some (holds_link (child_or_absent ts 0)) else with_mark (is_marked h) (outcome_in d ts)) f
      ∙ ap (with_mark (is_marked h)) (first_out ts)

  first_folds : (ts : Trees) → folded_in d ts ≡ folded d (child_or_absent ts 0)
  first_folds none = refl
  first_folds (t ▸ ts) = refl

  pub none_folds : (t : Tree) → is_step t ≡ false → folded d t ≡ t
  none_folds (node h xs n ts) e = ap (λ b. if b then (if folds_here d (node h xs n ts) then here (node h xs n ts) else relinked (link_shape (is_marked h) h) (folded_in d ts) (child_or_absent ts 1)) else node h xs n ts) e

  pub here_folds : (t : Tree) → is_step t ≡ true → folds_here d t ≡ true → folded d t ≡ here t
  here_folds (node h xs n ts) e f =
      ap (λ b. if b then (if folds_here d (node h xs n ts) then here (node h xs n ts) else relinked (link_shape (is_marked h) h) (folded_in d ts) (child_or_absent ts 1)) else node h xs n ts) e
      ∙ ap (λ b. if b then here (node h xs n ts) else relinked (link_shape (is_marked h) h) (folded_in d ts) (child_or_absent ts 1)) f

  pub below_folds : (t : Tree) → is_step t ≡ true → folds_here d t ≡ false → folded d t ≡ relinked (link_shape (is_marked (shape_of t)) (shape_of t)) (folded d (part t 0)) (part t 1)
  below_folds (node h xs n ts) e f =
      ap (λ b. if b then (if folds_here d (node h xs n ts) then here (node h xs n ts) else relinked (link_shape (is_marked h) h) (folded_in d ts) (child_or_absent ts 1)) else node h xs n ts) e
      ∙ ap (λ b. if b then here (node h xs n ts) else relinked (link_shape (is_marked h) h) (folded_in d ts) (child_or_absent ts 1)) f
      ∙ ap (λ u. relinked (link_shape (is_marked h) h) u (child_or_absent ts 1)) (first_folds ts)

-- ---- links

pub chain_is : (t : Tree) → is_chain t ≡ true → t ≡ chain (part t 0)
chain_is (node shape.ChainExpression [] zero (a ▸ none)) e = refl
chain_is t e = absurd (cc e)

-- a link, and the same link over another node, optional or not
pub record Stepped (t : Tree) : Type 0 where
  pub link : Link
  pub calm : is_calm_link link ≡ true
  pub is : t ≡ linked (is_marked (shape_of t)) link (part t 0)
  pub over : (o : Bool) (a : Tree) → relinked (link_shape o (shape_of t)) a (part t 1) ≡ linked o link a

stepped_by : (t : Tree) → is_bare t 2 ≡ true → ends_none (shape_of t) (part t 1) ≡ true → Stepped t
stepped_by (node (shape.StaticMemberExpression m) [] zero (a ▸ k ▸ none)) b e = record { link = a_member k; calm = e; is = refl; over = λ o u. refl }
stepped_by (node (shape.StaticMemberExpression m) xs n ts) b e = absurd (false≢true b)
stepped_by (node (shape.ComputedMemberExpression m) [] zero (a ▸ k ▸ none)) b e = record { link = a_computed k; calm = e; is = refl; over = λ o u. refl }
stepped_by (node (shape.ComputedMemberExpression m) xs n ts) b e = absurd (false≢true b)
stepped_by (node (shape.CallExpression m) [] zero (a ▸ k ▸ none)) b e =
    let (items, calm) = and_parts (is_listed k) (are_calm (children k)) e in
    let is = listed_is k items in
    record { link = a_call (children k); calm = calm; is = ap (relinked (shape.CallExpression m) a) is; over = λ o u. ap (relinked (shape.CallExpression o) u) is }
stepped_by (node (shape.CallExpression m) xs n ts) b e = absurd (false≢true b)
stepped_by t b e = absurd (false≢true e)

pub stepped_is : (t : Tree) → is_step t ≡ true → Stepped t
stepped_is t e = let (bare, ends) = and_parts (is_bare t 2) (ends_none (shape_of t) (part t 1)) e in stepped_by t bare ends

-- ---- what is written

-- under links, one over a chain
record Joined (d : Bool) (t : Tree) (stays : Bool) : Type 0 where
  others : List Marked
  link : Link
  inner : Tree
  held : is_link (shape_of inner) ≡ true
  calm : is_calm_link link ≡ true
  calm_others : are_calm_over others ≡ true
  is : t ≡ links_over others (linked true link (chain inner))
  makes : folded d t ≡ links_over others (linked true link inner)
  keeps : stays ≡ true

-- or over a value
record Closed (d : Bool) (t : Tree) (stays : Bool) : Type 0 where
  others : List Marked
  link : Link
  base : Tree
  known : is_value base ≡ true
  calm : is_calm_link link ≡ true
  calm_others : are_calm_over others ≡ true
  closes : d ≡ true
  is : t ≡ links_over others (linked true link base)
  makes : folded d t ≡ links_over others (linked false link base)
  keeps : stays ≡ has_mark others

abbrev Folds : Bool → Tree → Bool → Type 0
Folds d t stays = Joined d t stays ⊎ Closed d t stays

module _ (d : Bool) (t : Tree) (p : Stepped t) (e : is_step t ≡ true) where
  abbrev base : Tree
  base = part t 0

  -- the link itself
  joined_here : (f : folds_here d t ≡ true) → is_marked (shape_of t) ≡ true → holds_link base ≡ true → Joined d t (holds_link base)
  joined_here f m h =
      let (held, kind) = and_parts (is_chain base) (is_link (shape_of (part base 0))) h in
      record {
        others = [];
        link = p.link;
        inner = part base 0;
        held = kind;
        calm = p.calm;
        calm_others = refl;
        is = p.is ∙ ap (λ o. linked o p.link base) m ∙ ap (linked true p.link) (chain_is base held);
        makes = here_folds d t e f ∙ ap (λ b. relinked (link_shape b (shape_of t)) (if b then part base 0 else base) (part t 1)) h ∙ p.over true (part base 0);
        keeps = h;
      }

  closed_here : (f : folds_here d t ≡ true) → is_marked (shape_of t) ≡ true → holds_link base ≡ false → d ≡ true → is_value base ≡ true → Closed d t (holds_link base)
  closed_here f m h c v = record {
    others = [];
    link = p.link;
    base = base;
    known = v;
    calm = p.calm;
    calm_others = refl;
    closes = c;
    is = p.is ∙ ap (λ o. linked o p.link base) m;
    makes = here_folds d t e f ∙ ap (λ b. relinked (link_shape b (shape_of t)) (if b then part base 0 else base) (part t 1)) h ∙ p.over false base;
    keeps = h;
  }

  here_is : folds_here d t ≡ true → Folds d t (holds_link base)
  here_is f =
      let (m, g) = and_parts (is_marked (shape_of t)) (holds_link base || (d && is_value base)) f in
      go m (holds_link base) refl g
    where
      go : is_marked (shape_of t) ≡ true → (b : Bool) → holds_link base ≡ b → b || (d && is_value base) ≡ true → Folds d t (holds_link base)
      go m true h g = inl (joined_here f m h)
      go m false h g = let (c, v) = and_parts d (is_value base) g in inr (closed_here f m h c v)

  -- or one below
  module _ (f : folds_here d t ≡ false) where
    abbrev outer : Marked
    outer = marked (is_marked (shape_of t)) p.link

    made_over : (u : Tree) → folded d base ≡ u → folded d t ≡ linked (is_marked (shape_of t)) p.link u
    made_over u h = below_folds d t e f ∙ ap (λ v. relinked (link_shape (is_marked (shape_of t)) (shape_of t)) v (part t 1)) h ∙ p.over (is_marked (shape_of t)) u

    below_is : (stays : Bool) → Folds d base stays → Folds d t (is_marked (shape_of t) || stays)
    below_is stays (inl j) = inl (record {
      others = outer ∷ j.others;
      link = j.link;
      inner = j.inner;
      held = j.held;
      calm = j.calm;
      calm_others = both_true (is_calm_link p.link) (are_calm_over j.others) p.calm j.calm_others;
      is = p.is ∙ ap (linked (is_marked (shape_of t)) p.link) j.is;
      makes = made_over (links_over j.others (linked true j.link j.inner)) j.makes;
      keeps = ap (λ b. is_marked (shape_of t) || b) j.keeps ∙ or_true (is_marked (shape_of t));
    })
      where
        or_true : (b : Bool) → b || true ≡ true
        or_true true = refl
        or_true false = refl
    below_is stays (inr c) = inr (record {
      others = outer ∷ c.others;
      link = c.link;
      base = c.base;
      known = c.known;
      calm = c.calm;
      calm_others = both_true (is_calm_link p.link) (are_calm_over c.others) p.calm c.calm_others;
      closes = c.closes;
      is = p.is ∙ ap (linked (is_marked (shape_of t)) p.link) c.is;
      makes = made_over (links_over c.others (linked false c.link c.base)) c.makes;
      keeps = ap (λ b. is_marked (shape_of t) || b) c.keeps;
    })

by_step : (d : Bool) (t : Tree) → ((stays : Bool) → outcome d (part t 0) ≡ Some stays → Folds d (part t 0) stays) → (stays : Bool) → outcome d t ≡ Some stays → Folds d t stays
by_step d t below stays e = go (is_step t) refl
  where
    over : is_step t ≡ true → folds_here d t ≡ false → (o : Option Bool) → outcome d (part t 0) ≡ o → with_mark (is_marked (shape_of t)) o ≡ Some stays → Folds d t stays
    over p f (Some k) h g = subst (Folds d t) (some_is _ _ g) (below_is d t (stepped_is t p) p f k (below k h))
    over p f None h g = absurd (cc g)

    of : is_step t ≡ true → (b : Bool) → folds_here d t ≡ b → Folds d t stays
    of p true f = subst (Folds d t) (some_is _ _ (sym (here_out d t p f) ∙ e)) (here_is d t (stepped_is t p) p f)
    of p false f = over p f (outcome d (part t 0)) refl (sym (below_out d t p f) ∙ e)

    go : (b : Bool) → is_step t ≡ b → Folds d t stays
    go true p = of p (folds_here d t) refl
    go false p = absurd (cc (sym (none_out d t p) ∙ e))

mutual
  folds_of : (d : Bool) (t : Tree) (stays : Bool) → outcome d t ≡ Some stays → Folds d t stays
  folds_of d (node h xs n ts) stays e = by_step d (node h xs n ts) (folds_in d ts) stays e

  folds_in : (d : Bool) (ts : Trees) (stays : Bool) → outcome d (child_or_absent ts 0) ≡ Some stays → Folds d (child_or_absent ts 0) stays
  folds_in d none stays e = absurd (cc e)
  folds_in d (t ▸ ts) stays e = folds_of d t stays e

module _ (s : Seat) (n : Tree) where
  abbrev links : Tree
  links = part n 0

  abbrev may : Bool
  may = not s.new_callee

  of_joined : (stays : Bool) → is_chain n ≡ true → Joined may links stays → Row64 n (chain_if stays (folded may links))
  of_joined stays c j = record {
    others = j.others;
    link = j.link;
    inner = j.inner;
    held = j.held;
    calm = j.calm;
    calm_others = j.calm_others;
    shape = chain_is n c ∙ ap chain j.is;
    written = ap (λ b. chain_if b (folded may links)) j.keeps ∙ ap chain j.makes;
  }

  of_closed : (stays : Bool) → is_chain n ≡ true → Closed may links stays → Row11 s n (chain_if stays (folded may links))
  of_closed stays c j =
      let (known, h1) = and_parts (is_there j.base) (is_plain_part j.base && (is_lone j.base && is_calm j.base)) j.known in
      let (plain, h2) = and_parts (is_plain_part j.base) (is_lone j.base && is_calm j.base) h1 in
      let (value, calm) = and_parts (is_lone j.base) (is_calm j.base) h2 in
      record {
        others = j.others;
        link = j.link;
        base = j.base;
        known = known;
        plain = plain;
        value = value;
        calm_base = calm;
        calm = j.calm;
        calm_others = j.calm_others;
        called = not_true s.new_callee j.closes;
        shape = chain_is n c ∙ ap chain j.is;
        written = ap (λ b. chain_if b (folded may links)) j.keeps ∙ ap (chain_if (has_mark j.others)) j.makes;
      }

  row_of : (stays : Bool) → is_chain n ≡ true → Folds may links stays → ChainRow s n (chain_if stays (folded may links))
  row_of stays c (inl j) = inl (of_joined stays c j)
  row_of stays c (inr j) = inr (of_closed stays c j)

pub links_are_row : (s : Seat) (n w : Tree) → folded_written s n ≡ Some w → ChainRow s n w
links_are_row s n w e = go (is_chain n) refl e
  where
    of : is_chain n ≡ true → (o : Option Bool) → outcome (may s n) (links s n) ≡ o → wrapped o (folded (may s n) (links s n)) ≡ Some w → ChainRow s n w
    of h (Some stays) f g = subst (ChainRow s n) (some_is _ w g) (row_of s n stays h (folds_of (may s n) (links s n) stays f))
    of h None f g = absurd (cc g)

    go : (b : Bool) → is_chain n ≡ b → (if b then wrapped (outcome (may s n) (links s n)) (folded (may s n) (links s n)) else None) ≡ Some w → ChainRow s n w
    go true h g = of h (outcome (may s n) (links s n)) refl g
    go false h g = absurd (cc g)

-- ---- and what a row reads is written

pub step_passes : (o : Bool) (l : Link) (t : Tree) → is_calm_link l ≡ true → is_step (linked o l t) ≡ true
step_passes o (a_member k) t e = e
step_passes o (a_computed k) t e = e
step_passes o (a_call ts) t e = e

pub first_of_link : (o : Bool) (l : Link) (t : Tree) → part (linked o l t) 0 ≡ t
first_of_link o (a_member k) t = refl
first_of_link o (a_computed k) t = refl
first_of_link o (a_call ts) t = refl

pub mark_of_link : (o : Bool) (l : Link) (t : Tree) → is_marked (shape_of (linked o l t)) ≡ o
mark_of_link o (a_member k) t = refl
mark_of_link o (a_computed k) t = refl
mark_of_link o (a_call ts) t = refl

module _ (d : Bool) where
  there_here : (l : Link) (t : Tree) → is_calm_link l ≡ true → holds_link t || (d && is_value t) ≡ true → is_some (outcome d (linked true l t)) ≡ true
  there_here l t c h =
      ap is_some (here_out d (linked true l t) (step_passes true l t c)
      (both_true (is_marked (shape_of (linked true l t))) _ (mark_of_link true l t) (ap (λ u. holds_link u || (d && is_value u)) (first_of_link true l t) ∙ h)))

  there_below : (o : Bool) (l : Link) (t : Tree) → is_calm_link l ≡ true → is_some (outcome d t) ≡ true → is_some (outcome d (linked o l t)) ≡ true
  there_below o l t c h = go (folds_here d (linked o l t)) refl
    where
      stays_there : (m : Bool) (k : Option Bool) → is_some k ≡ true → is_some (with_mark m k) ≡ true
      stays_there m (Some b) e = refl
      stays_there m None e = e

      go : (b : Bool) → folds_here d (linked o l t) ≡ b → is_some (outcome d (linked o l t)) ≡ true
      go true f = ap is_some (here_out d (linked o l t) (step_passes o l t c) f)
      go false f =
          ap is_some (below_out d (linked o l t) (step_passes o l t c) f)
          ∙ stays_there (is_marked (shape_of (linked o l t))) (outcome d (part (linked o l t) 0)) (ap (λ u. is_some (outcome d u)) (first_of_link o l t) ∙ h)

  there_over : (ms : List Marked) (t : Tree) → are_calm_over ms ≡ true → is_some (outcome d t) ≡ true → is_some (outcome d (links_over ms t)) ≡ true
  there_over [] t c h = h
  there_over (marked o l ∷ ms) t c h =
      let (one, rest) = and_parts (is_calm_link l) (are_calm_over ms) c in
      there_below o l (links_over ms t) one (there_over ms t rest h)

is_written : (s : Seat) (c : Tree) → is_some (outcome (not s.new_callee) c) ≡ true → is_some (folded_written s (chain c)) ≡ true
is_written s c h = go (outcome (not s.new_callee) c) h
  where
    go : (o : Option Bool) → is_some o ≡ true → is_some (wrapped o (folded (not s.new_callee) c)) ≡ true
    go (Some stays) e = refl
    go None e = e

pub links_pass : (s : Seat) (n w : Tree) → ChainRow s n w → is_some (folded_written s n) ≡ true
links_pass s n w (inl r) =
    let d = not s.new_callee in
    ap (λ x. is_some (folded_written s x)) r.shape
    ∙ is_written s (links_over r.others (linked true r.link (chain r.inner)))
    (there_over d r.others (linked true r.link (chain r.inner)) r.calm_others (there_here d r.link (chain r.inner) r.calm (ap (λ b. b || (d && is_value (chain r.inner))) r.held)))
links_pass s n w (inr r) =
    let d = not s.new_callee in
    let there : is_value r.base ≡ true = both_true (is_there r.base) _ r.known (both_true (is_plain_part r.base) _ r.plain (both_true (is_lone r.base) (is_calm r.base) r.value r.calm_base)) in
    ap (λ x. is_some (folded_written s x)) r.shape
    ∙ is_written s (links_over r.others (linked true r.link r.base))
    (there_over d r.others (linked true r.link r.base) r.calm_others (there_here d r.link r.base r.calm (or_last (holds_link r.base) (both_true d (is_value r.base) (ap not r.called) there))))
  where
    or_last : (b : Bool) {c : Bool} → c ≡ true → b || c ≡ true
    or_last true e = refl
    or_last false e = e
