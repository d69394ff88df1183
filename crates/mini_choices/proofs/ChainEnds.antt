-- What is written for an optional chain over what is known to be null or undefined is what a row says, and what a row reads is written.
use Rattle.std.proofs.Common.{◌≡◌, ℕ, ◌⊎◌, Bool, true, false, List, [], ◌∷◌, Option, Some, None, refl, sym, ap, subst, ◌∙◌, inl, inr, true≢false, ltb-true, arith, ◌<◌, ◌^◌}
use Rattle.std.specs.Prelude.{◌&&◌, ◌||◌, not, is_some, if◌then◌else◌}
use Rattle.std.proofs.lemmas.Bool.{and_parts}
use Rattle.mini_model.specs.declared.place.Position.TheVariants.{Expr}
use Rattle.mini_model.specs.declared.seat.Seat.{Seat}
use Rattle.mini_model.specs.declared.shape.Shape.TheVariants as shape
use Rattle.mini_model.specs.Weight.{weight}
use Rattle.mini_model.specs.Tree.{Tree, Trees, node, none, ◌▸◌, child_or_absent, shape_of}
use Rattle.mini_node.specs.Children.{part, is_bare}
use Rattle.mini_terms.specs.Folds.{is_effect_free}
use Rattle.mini_terms.specs.Reading.{stands}
use Rattle.mini_rows.specs.Chains.{is_calm, Link, a_member, a_computed, a_call, linked, is_calm_link, chain}
use Rattle.mini_rows.specs.ChainLinks.{Marked, marked, links_over, are_calm_over, ChainRow}
use Rattle.mini_rows.specs.ChainEnds.{is_nothing, key_of, keys_over, enclose, Row10, Row10Then, EndRow}
use Rattle.mini_rows.proofs.ChainLinkLawful.{chains_fall}
use Rattle.mini_rows.specs.Editions.{ChoicesIn}
use Rattle.mini_rows.specs.Choices.{pair, ChainEnd, ChainLink}
use Rattle.mini_rows.specs.Lists.{encloses}
use Rattle.mini_rows.specs.Spellings.{void_zero}
use Rattle.mini_choices.specs.MinimizeConditionalBranches.{is_lighter}
use Rattle.mini_choices.specs.ChainLinks.{is_chain, is_step, is_marked, outcome, folded, wrapped, folded_written}
use Rattle.mini_choices.specs.OwnRows.{FoldedRow}
use Rattle.mini_choices.specs.FoldChainExpr.{ends_at_once, ends_in, base_of, base_in, links_enclose, links_in, ends_idly, may_end, acts, ends_after, may_end_after, base_then, after_written, written}
use Rattle.mini_choices.proofs.ChainLinks.{chain_is, Stepped, stepped_is, step_passes, first_of_link, mark_of_link, links_are_row, links_pass}
use Rattle.mini_choices.proofs.FormsAre.{either_true}
use Rattle.mini_choices.proofs.Trials.{Falls, not_true, both_true, tries, first_true, later_true, lighter_test}

or_last : (b : Bool) {c : Bool} → c ≡ true → b || c ≡ true
or_last true e = refl
or_last false e = e

-- ---- links, one after another

ends_first : (ts : Trees) → ends_in ts ≡ ends_at_once (child_or_absent ts 0)
ends_first none = refl
ends_first (t ▸ ts) = refl

pub none_ends : (t : Tree) → is_step t ≡ false → ends_at_once t ≡ false
none_ends (node h xs n ts) e = ap (λ b. b && ((is_marked h && is_nothing (child_or_absent ts 0)) || ends_in ts)) e

pub below_ends : (t : Tree) → is_step t ≡ true → ends_at_once t ≡ ((is_marked (shape_of t) && is_nothing (part t 0)) || ends_at_once (part t 0))
below_ends (node h xs n ts) e =
    ap (λ b. b && ((is_marked h && is_nothing (child_or_absent ts 0)) || ends_in ts)) e
    ∙ ap (λ b. (is_marked h && is_nothing (child_or_absent ts 0)) || b) (ends_first ts)

before_first : (ts : Trees) → base_in ts ≡ base_of (child_or_absent ts 0)
before_first none = refl
before_first (t ▸ ts) = refl

pub none_before : (t : Tree) → is_step t ≡ false → base_of t ≡ t
none_before (node h xs n ts) e = ap (λ b. if b then base_in ts else node h xs n ts) e

pub below_before : (t : Tree) → is_step t ≡ true → base_of t ≡ base_of (part t 0)
below_before (node h xs n ts) e = ap (λ b. if b then base_in ts else node h xs n ts) e ∙ before_first ts

enclose_first : (ts : Trees) → links_in ts ≡ links_enclose (child_or_absent ts 0)
enclose_first none = refl
enclose_first (t ▸ ts) = refl

pub none_enclose : (t : Tree) → is_step t ≡ false → links_enclose t ≡ true
none_enclose (node h xs n ts) e = ap (λ b. not b || (encloses false (child_or_absent ts 1) && links_in ts)) e

pub below_enclose : (t : Tree) → is_step t ≡ true → links_enclose t ≡ (encloses false (part t 1) && links_enclose (part t 0))
below_enclose (node h xs n ts) e = ap (λ b. not b || (encloses false (child_or_absent ts 1) && links_in ts)) e ∙ ap (λ b. encloses false (child_or_absent ts 1) && b) (enclose_first ts)

-- ---- under links, one over what is known to be null or undefined

record Ended (t : Tree) : Type 0 where
  others : List Marked
  link : Link
  base : Tree
  known : is_nothing base ≡ true
  calm : is_calm_link link ≡ true
  calm_others : are_calm_over others ≡ true
  is : t ≡ links_over others (linked true link base)

ended_here : (t : Tree) → Stepped t → is_marked (shape_of t) ≡ true → is_nothing (part t 0) ≡ true → Ended t
ended_here t p m o = record {
  others = [];
  link = p.link;
  base = part t 0;
  known = o;
  calm = p.calm;
  calm_others = refl;
  is = p.is ∙ ap (λ b. linked b p.link (part t 0)) m;
}

ended_below : (t : Tree) → Stepped t → Ended (part t 0) → Ended t
ended_below t p b = record {
  others = marked (is_marked (shape_of t)) p.link ∷ b.others;
  link = b.link;
  base = b.base;
  known = b.known;
  calm = b.calm;
  calm_others = both_true (is_calm_link p.link) (are_calm_over b.others) p.calm b.calm_others;
  is = p.is ∙ ap (linked (is_marked (shape_of t)) p.link) b.is;
}

ended_by : (t : Tree) → (ends_at_once (part t 0) ≡ true → Ended (part t 0)) → ends_at_once t ≡ true → Ended t
ended_by t below e = go (is_step t) refl
  where
    of : is_step t ≡ true → ((is_marked (shape_of t) && is_nothing (part t 0)) ≡ true) ⊎ (ends_at_once (part t 0) ≡ true) → Ended t
    of p (inl h) = let (m, o) = and_parts (is_marked (shape_of t)) (is_nothing (part t 0)) h in ended_here t (stepped_is t p) m o
    of p (inr h) = ended_below t (stepped_is t p) (below h)

    go : (b : Bool) → is_step t ≡ b → Ended t
    go true p = of p (either_true (is_marked (shape_of t) && is_nothing (part t 0)) (ends_at_once (part t 0)) (sym (below_ends t p) ∙ e))
    go false p = absurd (true≢false (sym e ∙ none_ends t p))

mutual
  ended_of : (t : Tree) → ends_at_once t ≡ true → Ended t
  ended_of (node h xs n ts) e = ended_by (node h xs n ts) (ended_in ts) e

  ended_in : (ts : Trees) → ends_at_once (child_or_absent ts 0) ≡ true → Ended (child_or_absent ts 0)
  ended_in none e = absurd (true≢false (sym e))
  ended_in (t ▸ ts) e = ended_of t e

-- ---- of such links

-- what is null or undefined is no link
no_step : (t : Tree) → is_nothing t ≡ true → is_step t ≡ false
no_step (node (shape.CallExpression o) xs n ts) e = absurd (true≢false (sym e))
no_step (node (shape.StaticMemberExpression o) xs n ts) e = absurd (true≢false (sym e))
no_step (node (shape.ComputedMemberExpression o) xs n ts) e = absurd (true≢false (sym e))
no_step (node h xs n ts) e = no_more (is_bare (node h xs n ts) 2)
  where
    no_more : (b : Bool) → b && false ≡ false
    no_more true = refl
    no_more false = refl

key_of_link : (o : Bool) (l : Link) (t : Tree) → part (linked o l t) 1 ≡ key_of l
key_of_link o (a_member k) t = refl
key_of_link o (a_computed k) t = refl
key_of_link o (a_call ts) t = refl

module _ (l : Link) (x : Tree) (known : is_nothing x ≡ true) (calm : is_calm_link l ≡ true) where
  abbrev over : List Marked → Tree
  over ms = links_over ms (linked true l x)

  ends_passes : (ms : List Marked) → are_calm_over ms ≡ true → ends_at_once (over ms) ≡ true
  ends_passes [] d =
      let t = linked true l x in
      below_ends t (step_passes true l x calm)
      ∙ ap (λ b. b || ends_at_once (part t 0)) (both_true (is_marked (shape_of t)) (is_nothing (part t 0)) (mark_of_link true l x) (ap is_nothing (first_of_link true l x) ∙ known))
  ends_passes (marked o m ∷ ms) d =
      let (here, rest) = and_parts (is_calm_link m) (are_calm_over ms) d in
      let t = linked o m (over ms) in
      below_ends t (step_passes o m (over ms) here)
      ∙ or_last (is_marked (shape_of t) && is_nothing (part t 0)) (ap ends_at_once (first_of_link o m (over ms)) ∙ ends_passes ms rest)

  base_is : (ms : List Marked) → are_calm_over ms ≡ true → base_of (over ms) ≡ x
  base_is [] d = below_before (linked true l x) (step_passes true l x calm) ∙ ap base_of (first_of_link true l x) ∙ none_before x (no_step x known)
  base_is (marked o m ∷ ms) d =
      let (here, rest) = and_parts (is_calm_link m) (are_calm_over ms) d in
      below_before (linked o m (over ms)) (step_passes o m (over ms) here) ∙ ap base_of (first_of_link o m (over ms)) ∙ base_is ms rest

  enclosing : (ms : List Marked) → are_calm_over ms ≡ true → links_enclose (over ms) ≡ (enclose (keys_over ms) && encloses false (key_of l))
  enclosing [] d =
      let t = linked true l x in
      below_enclose t (step_passes true l x calm)
      ∙ (λ i. encloses false (key_of_link true l x i) && (ap links_enclose (first_of_link true l x) ∙ none_enclose x (no_step x known)) i)
      ∙ and_one (encloses false (key_of l))
    where
      and_one : (b : Bool) → b && true ≡ b
      and_one true = refl
      and_one false = refl
  enclosing (marked o m ∷ ms) d =
      let (here, rest) = and_parts (is_calm_link m) (are_calm_over ms) d in
      let t = linked o m (over ms) in
      below_enclose t (step_passes o m (over ms) here)
      ∙ (λ i. encloses false (key_of_link o m (over ms) i) && (ap links_enclose (first_of_link o m (over ms)) ∙ enclosing ms rest) i)
      ∙ grouped (encloses false (key_of m)) (enclose (keys_over ms)) (encloses false (key_of l))
    where
      grouped : (a b c : Bool) → a && (b && c) ≡ (a && b) && c
      grouped true b c = refl
      grouped false b c = refl

-- ---- what is written is what a row says

module _ (s : Seat) (n : Tree) where
  abbrev links : Tree
  links = part n 0

  end_row : may_end n && is_lighter s void_zero n ≡ true → Falls FoldedRow s n void_zero
  end_row h =
      let (may, less) = and_parts (may_end n) (is_lighter s void_zero n) h in
      let (c, idly) = and_parts (is_chain n) (ends_idly links) may in
      let (ends, rest) = and_parts (ends_at_once links) (is_effect_free (base_of links) && encloses false links) idly in
      let (idle, goes) = and_parts (is_effect_free (base_of links)) (encloses false links) rest in
      let o = ended_of links ends in
      let base = ap base_of o.is ∙ base_is o.link o.base o.known o.calm o.others o.calm_others in
      let row : Row10 n void_zero = record {
        others = o.others;
        link = o.link;
        base = o.base;
        known = o.known;
        idle = subst (λ t. is_effect_free t ≡ true) base idle;
        calm = o.calm;
        calm_others = o.calm_others;
        dropped = subst (λ t. encloses false t ≡ true) o.is goes;
        shape = chain_is n c ∙ ap chain o.is;
        written = refl;
      } in
      (inl (inl row), omega (arith, ltb-true _ _ less))

  after_row : may_end_after n && is_lighter s (base_then n) n ≡ true → Falls FoldedRow s n (base_then n)
  after_row h =
      let (may, less) = and_parts (may_end_after n) (is_lighter s (base_then n) n) h in
      let (c, after) = and_parts (is_chain n) (ends_after links) may in
      let (ends, rest) = and_parts (ends_at_once links) (acts (base_of links) && links_enclose links) after in
      let (active, goes) = and_parts (acts (base_of links)) (links_enclose links) rest in
      let o = ended_of links ends in
      let base = ap base_of o.is ∙ base_is o.link o.base o.known o.calm o.others o.calm_others in
      let (acting, others) = and_parts (not (is_effect_free o.base)) (stands o.base && is_calm o.base) (subst (λ t. acts t ≡ true) base active) in
      let (value, calm) = and_parts (stands o.base) (is_calm o.base) others in
      let (keys, key) = and_parts (enclose (keys_over o.others)) (encloses false (key_of o.link)) (sym (ap links_enclose o.is ∙ enclosing o.link o.base o.known o.calm o.others o.calm_others) ∙ goes) in
      let row : Row10Then n (base_then n) = record {
        others = o.others;
        link = o.link;
        base = o.base;
        known = o.known;
        acts = not_true (is_effect_free o.base) acting;
        value = value;
        calm_base = calm;
        calm = o.calm;
        calm_others = o.calm_others;
        dropped = both_true (encloses false (key_of o.link)) (enclose (keys_over o.others)) key keys;
        shape = chain_is n c ∙ ap chain o.is;
        written = ap (λ t. pair t void_zero) base;
      } in
      (inl (inr row), omega (arith, ltb-true _ _ less))

pub folded_falls : (s : Seat) (n w : Tree) → written s n ≡ Some w → Falls FoldedRow s n w
folded_falls s n w e =
    tries (Falls FoldedRow s n) w (may_end n && is_lighter s void_zero n) void_zero (after_written s n) (end_row s n)
    (tries (Falls FoldedRow s n) w (may_end_after n && is_lighter s (base_then n) n) (base_then n) (folded_written s n) (after_row s n) linked_row) e
  where
    linked_row : folded_written s n ≡ Some w → Falls FoldedRow s n w
    linked_row e = let r = links_are_row s n w e in (inr r, chains_fall s n w r)

pub folded_row : (edition : ℕ) (s : Seat) (n w : Tree) → written s n ≡ Some w → ChoicesIn edition (Expr s) n w
folded_row edition s n w e = let (r, less) = folded_falls s n w e in of r less
  where
    of : FoldedRow s n w → weight (Expr s) w < weight (Expr s) n → ChoicesIn edition (Expr s) n w
    of (inl r) less = (record { row = ChainEnd r; lighter = less }, tt)
    of (inr r) less = (record { row = ChainLink r; lighter = less }, tt)

-- ---- and what a row reads is written

after_first : (s : Seat) (n : Tree) → is_some (after_written s n) ≡ true → is_some (written s n) ≡ true
after_first s n h = later_true (may_end n && is_lighter s void_zero n) void_zero (after_written s n) h

pub folded_passes : (s : Seat) (n w : Tree) → ChainRow s n w → is_some (written s n) ≡ true
folded_passes s n w r = after_first s n (later_true (may_end_after n && is_lighter s (base_then n) n) (base_then n) (folded_written s n) (links_pass s n w r))

idle_passes : (s : Seat) (n w : Tree) → Row10 n w → weight (Expr s) n < 2 ^ 64 → weight (Expr s) w < weight (Expr s) n → is_some (written s n) ≡ true
idle_passes s n w r small less =
    let t : Tree = links_over r.others (linked true r.link r.base) in
    let same = ap (weight (Expr s)) r.shape in
    let made = ap (weight (Expr s)) r.written in
    let base = base_is r.link r.base r.known r.calm r.others r.calm_others in
    ap (λ t. is_some (written s t)) r.shape
    ∙ first_true (may_end (chain t) && is_lighter s void_zero (chain t)) void_zero (after_written s (chain t))
    (both_true (may_end (chain t)) (is_lighter s void_zero (chain t))
    (both_true (ends_at_once t) _ (ends_passes r.link r.base r.known r.calm r.others r.calm_others) (both_true (is_effect_free (base_of t)) (encloses false t) (ap is_effect_free base ∙ r.idle) r.dropped))
    (lighter_test s void_zero (chain t) (omega (arith, small, same)) (omega (arith, less, same, made))))

acting_passes : (s : Seat) (n w : Tree) → Row10Then n w → weight (Expr s) n < 2 ^ 64 → weight (Expr s) w < weight (Expr s) n → is_some (written s n) ≡ true
acting_passes s n w r small less =
    let t : Tree = links_over r.others (linked true r.link r.base) in
    let base = base_is r.link r.base r.known r.calm r.others r.calm_others in
    let (key, keys) = and_parts (encloses false (key_of r.link)) (enclose (keys_over r.others)) r.dropped in
    let same = ap (weight (Expr s)) r.shape in
    let made = ap (weight (Expr s)) (ap (λ t. pair t void_zero) base ∙ sym r.written) in
    ap (λ t. is_some (written s t)) r.shape
    ∙ after_first s (chain t) (first_true (may_end_after (chain t) && is_lighter s (base_then (chain t)) (chain t)) (base_then (chain t)) (folded_written s (chain t))
    (both_true (may_end_after (chain t)) (is_lighter s (base_then (chain t)) (chain t))
    (both_true (ends_at_once t) _ (ends_passes r.link r.base r.known r.calm r.others r.calm_others)
    (both_true (acts (base_of t)) (links_enclose t)
    (ap acts base ∙ both_true (not (is_effect_free r.base)) _ (ap not r.acts) (both_true (stands r.base) (is_calm r.base) r.value r.calm_base))
    (enclosing r.link r.base r.known r.calm r.others r.calm_others ∙ both_true (enclose (keys_over r.others)) (encloses false (key_of r.link)) keys key)))
    (lighter_test s (base_then (chain t)) (chain t) (omega (arith, small, same)) (omega (arith, less, same, made)))))

pub end_passes : (s : Seat) (n w : Tree) → EndRow n w → weight (Expr s) n < 2 ^ 64 → weight (Expr s) w < weight (Expr s) n → is_some (written s n) ≡ true
end_passes s n w (inl r) small less = idle_passes s n w r small less
end_passes s n w (inr r) small less = acting_passes s n w r small less

-- something is written for a chain alone
pub of_chain : (s : Seat) (n : Tree) → is_some (written s n) ≡ true → is_chain n ≡ true
of_chain s n e = first_of_three (is_chain n) (ends_idly (part n 0)) (is_lighter s void_zero n) (ends_after (part n 0)) (is_lighter s (base_then n) n) (Some void_zero) (Some (base_then n)) (wrapped (outcome (not s.new_callee) (part n 0)) (folded (not s.new_callee) (part n 0))) e
  where
    first_of_three : (b c l d m : Bool) (x y z : Option Tree) → is_some (if (b && c) && l then x else (if (b && d) && m then y else (if b then z else None))) ≡ true → b ≡ true
    first_of_three true c l d m x y z e = refl
    first_of_three false c l d m x y z e = e
