-- What the rows of optional chains write keeps all that a program has to keep, and is lighter.
use Rattle.std.proofs.Common.{◌≡◌, ℕ, suc, ◌+◌, ◌<◌, ◌≤◌, Bool, true, false, List, [], ◌∷◌, refl, sym, ap, subst, ◌∙◌, inl, inr, true≢false, arith}
use Rattle.std.specs.Prelude.{◌&&◌, ◌||◌, ◌++◌, not, nat_lt, if◌then◌else◌}
use Rattle.std.proofs.lemmas.Bool.{and_parts, false≢true}
use Rattle.std.proofs.lemmas.List.{append-nil}
use Rattle.mini_model.specs.declared.place.Position.TheVariants.{Expr}
use Rattle.mini_model.specs.declared.seat.Seat.{Seat}
use Rattle.mini_model.specs.declared.shape.Shape.TheVariants as shape
use Rattle.mini_model.specs.Tree.{Tree, Trees, node, none, ◌▸◌, listed, shape_of, child_or_absent}
use Rattle.mini_model.specs.Position.{callee_seat, object_seat, chained_seat}
use Rattle.mini_model.specs.Weight.{outline, outlines, weight, place_weight}
use Rattle.mini_accept.specs.WellShaped.{Depth, in_module, in_body, nested, Class, a_statement, an_init, an_arrow_body, an_expression, a_link, a_chain, an_argument, a_label, a_key, a_private_or_key, an_inner_key, a_default_export, Slot, one, one_or_absent, many, filling, refused, has_optional, is_not_positive_number, fits}
use Rattle.mini_kept.specs.KeepsShapes.{AskedAlike}
use Rattle.mini_kept.specs.KeepsFrames.{is_body_slot}
use Rattle.mini_kept.proofs.Bools.{both}
use Rattle.mini_kept.proofs.Expressions.{refused_here, TakesExpressionIn, TakesExpression, expression, expression_taken}
use Rattle.mini_kept.proofs.FrameRows.{expression_slot}
use Rattle.mini_terms.specs.Parts.{is_link}
use Rattle.mini_rows.specs.Arranged.{KeptAt}
use Rattle.mini_rows.specs.Sketches.{still, rearranges_expression, Chain, Sketch, part, under, end, ◌▹◌, Parts, list_at, filled, AsValue, Hole, Part, Stretch, Leaps, parts_of, stands_in, has_as_often, has_each, all_settled, stays, staying, is_rearranged, stands_well, is_expression}
use Rattle.mini_rows.specs.Chains.{Link, a_member, a_computed, a_call, linked, chain}
use Rattle.mini_rows.specs.ChainLinks.{is_there, Marked, marked, links_over, has_mark, chain_if, Row64, Row11, ChainRow}
use Rattle.mini_rows.proofs.ArrangedExpressions.{expressions_arranged}
use Rattle.mini_rows.proofs.Arranging.{often_each}
use Rattle.mini_rows.proofs.ChainHoles.{link_sketch, tree_of, list_of, hole, link_holes, filled_link, stands_link, often_itself}

-- ---- links as sketches, from the last one on, each with the part at the next index

abbrev sketch_over : ℕ → List Marked → (ℕ → Sketch) → Sketch
sketch_over i [] base = base i
sketch_over i (marked o l ∷ ms) base = link_sketch o i l (sketch_over (suc i) ms base)

abbrev trees_over : List Marked → Link → Trees
trees_over [] l = tree_of l ▸ none
trees_over (marked o m ∷ ms) l = tree_of m ▸ trees_over ms l

abbrev lists_over : List Marked → Link → List Trees
lists_over [] l = list_of l ∷ []
lists_over (marked o m ∷ ms) l = list_of m ∷ lists_over ms l

-- the parts from i on are those of the links
abbrev StandOver : Trees → List Trees → ℕ → List Marked → Link → Type 0
StandOver ts tss i [] l = (child_or_absent ts i ≡ tree_of l) × (list_at tss i ≡ list_of l)
StandOver ts tss i (marked o m ∷ ms) l = ((child_or_absent ts i ≡ tree_of m) × (list_at tss i ≡ list_of m)) × StandOver ts tss (suc i) ms l

behind : (x : Tree) (xs : Trees) (ts : Trees) (tss : List Trees) (i : ℕ) (ms : List Marked) (l : Link) → StandOver ts tss i ms l → StandOver (x ▸ ts) (xs ∷ tss) (suc i) ms l
behind x xs ts tss i [] l h = h
behind x xs ts tss i (marked o m ∷ ms) l h = (h.0, behind x xs ts tss (suc i) ms l h.1)

themselves : (ms : List Marked) (l : Link) → StandOver (trees_over ms l) (lists_over ms l) 0 ms l
themselves [] l = (refl, refl)
themselves (marked o m ∷ ms) l = ((refl, refl), behind (tree_of m) (list_of m) (trees_over ms l) (lists_over ms l) 0 ms l (themselves ms l))

-- what the innermost link is filled to, wherever its part stands
abbrev FilledTo : Parts → Link → (ℕ → Sketch) → Tree → Type 0
FilledTo ps l base t = (j : ℕ) → child_or_absent ps.trees j ≡ tree_of l → list_at ps.lists j ≡ list_of l → filled ps (base j) ≡ t

filled_over : (ps : Parts) (l : Link) (base : ℕ → Sketch) (t : Tree) → FilledTo ps l base t → (i : ℕ) (ms : List Marked) → StandOver ps.trees ps.lists i ms l → filled ps (sketch_over i ms base) ≡ links_over ms t
filled_over ps l base t f i [] h = f i h.0 h.1
filled_over ps l base t f i (marked o m ∷ ms) h = filled_link ps o i m (sketch_over (suc i) ms base) (links_over ms t) (filled_over ps l base t f (suc i) ms h.1) h.0.0 h.0.1

-- their parts, in order

abbrev holes_over : ℕ → List Marked → (ℕ → List Hole) → List Hole
holes_over i [] hs = hs i
holes_over i (marked o l ∷ ms) hs = holes_over (suc i) ms hs ++ (hole i l ∷ [])

over_holes : (base : ℕ → Sketch) (hs : ℕ → List Hole) → ((j : ℕ) → parts_of AsValue (base j) ≡ hs j) → (i : ℕ) (ms : List Marked) → parts_of AsValue (sketch_over i ms base) ≡ holes_over i ms hs
over_holes base hs f i [] = f i
over_holes base hs f i (marked o l ∷ ms) = link_holes o i l (sketch_over (suc i) ms base) (holes_over (suc i) ms hs) (over_holes base hs f (suc i) ms)

over_stands : (base : ℕ → Sketch) → ((j : ℕ) → stands_well still AsValue (base j) ≡ true) → (i : ℕ) (ms : List Marked) → stands_well still AsValue (sketch_over i ms base) ≡ true
over_stands base f i [] = f i
over_stands base f i (marked o l ∷ ms) = stands_link still o i l (sketch_over (suc i) ms base) (over_stands base f (suc i) ms)

link_expression : (o : Bool) (i : ℕ) (l : Link) (s : Sketch) → is_expression (link_sketch o i l s) ≡ true
link_expression o i (a_member k) s = refl
link_expression o i (a_computed k) s = refl
link_expression o i (a_call ts) s = refl

over_expression : (base : ℕ → Sketch) → ((j : ℕ) → is_expression (base j) ≡ true) → (i : ℕ) (ms : List Marked) → is_expression (sketch_over i ms base) ≡ true
over_expression base f i [] = f i
over_expression base f i (marked o l ∷ ms) = link_expression o i l (sketch_over (suc i) ms base)

-- ---- the same parts in the same order are no others

settled_still : (hs : List Hole) → all_settled still hs ≡ hs
settled_still [] = refl
settled_still (Part i c ∷ hs) = ap (λ gs. Part i c ∷ gs) (settled_still hs)
settled_still (Stretch i c ∷ hs) = ap (λ gs. Stretch i c ∷ gs) (settled_still hs)
settled_still (Leaps l ∷ hs) = ap (λ gs. Leaps l ∷ gs) (settled_still hs)

staying_still : (gs hs : List Hole) → has_each gs hs ≡ true → has_each gs (staying still hs) ≡ true
staying_still gs [] e = refl
staying_still gs (h ∷ hs) e = let (first, rest) = and_parts (stands_in gs h) (has_each gs hs) e in go (stays still h) first (staying_still gs hs rest)
  where
    go : (b : Bool) → stands_in gs h ≡ true → has_each gs (staying still hs) ≡ true → has_each gs (if b then h ∷ staying still hs else staying still hs) ≡ true
    go true first rest = both (stands_in gs h) (has_each gs (staying still hs)) first rest
    go false first rest = rest

same_rearranged : (hs : List Hole) → is_rearranged still hs hs ≡ true
same_rearranged hs =
    (λ j. has_as_often (settled_still hs j) (settled_still hs j) && has_each (settled_still hs j) (staying still (settled_still hs j)))
    ∙ both (has_as_often hs hs) (has_each hs (staying still hs)) (often_itself hs) (staying_still hs hs (often_each hs hs (often_itself hs)))

abbrev chained : Sketch → Sketch
chained s = under Chain (s ▹ end)

-- the chain, where it stays
abbrev chained_if : Bool → Sketch → Sketch
chained_if true s = chained s
chained_if false s = s

chained_holes : (s : Sketch) (hs : List Hole) → parts_of AsValue s ≡ hs → parts_of AsValue (chained s) ≡ hs
chained_holes s hs e = ap (λ gs. gs ++ []) e ∙ append-nil hs

if_holes : (b : Bool) (s : Sketch) (hs : List Hole) → parts_of AsValue s ≡ hs → parts_of AsValue (chained_if b s) ≡ hs
if_holes true s hs e = chained_holes s hs e
if_holes false s hs e = e

if_stands : (b : Bool) (s : Sketch) → stands_well still AsValue s ≡ true → stands_well still AsValue (chained_if b s) ≡ true
if_stands true s e = both (stands_well still AsValue s) true e refl
if_stands false s e = e

if_expression : (b : Bool) (s : Sketch) → is_expression s ≡ true → is_expression (chained_if b s) ≡ true
if_expression true s e = refl
if_expression false s e = e

if_filled : (ps : Parts) (b : Bool) (s : Sketch) (t : Tree) → filled ps s ≡ t → chain_if b t ≡ filled ps (chained_if b s)
if_filled ps true s t e = sym (ap chain e)
if_filled ps false s t e = sym e

-- of an innermost link over the part 0 before and after: the same parts
record Turned (l : Link) (before after : ℕ → Sketch) : Type 0 where
  first : (j : ℕ) → parts_of AsValue (before j) ≡ Part 0 AsValue ∷ (hole j l ∷ [])
  second : (j : ℕ) → parts_of AsValue (after j) ≡ Part 0 AsValue ∷ (hole j l ∷ [])
  stood : (j : ℕ) → stands_well still AsValue (before j) ≡ true
  stands : (j : ℕ) → stands_well still AsValue (after j) ≡ true
  expression : (j : ℕ) → is_expression (after j) ≡ true

module _ (q : Seat) (ms : List Marked) (l : Link) (x : Tree) (before after : ℕ → Sketch) (turned : Turned l before after) (b : Bool) where
  abbrev ps : Parts
  ps = record { trees = x ▸ trees_over ms l; lists = none ∷ lists_over ms l }

  stand : StandOver ps.trees ps.lists 1 ms l
  stand = behind x none (trees_over ms l) (lists_over ms l) 0 ms l (themselves ms l)

  abbrev holes : List Hole
  holes = holes_over 1 ms (λ j. Part 0 AsValue ∷ (hole j l ∷ []))

  abbrev earlier : Sketch
  earlier = sketch_over 1 ms before

  abbrev later : Sketch
  later = sketch_over 1 ms after

  rearranged : rearranges_expression still (chained earlier) (chained_if b later) ≡ true
  rearranged =
      both (is_expression (chained_if b later)) _ (if_expression b later (over_expression after turned.expression 1 ms))
      (both (stands_well still AsValue (chained earlier)) _ (if_stands true earlier (over_stands before turned.stood 1 ms))
      (both (stands_well still AsValue (chained_if b later)) _ (if_stands b later (over_stands after turned.stands 1 ms))
      ((λ i. is_rearranged still (chained_holes earlier holes (over_holes before (λ j. Part 0 AsValue ∷ (hole j l ∷ [])) turned.first 1 ms) i) (if_holes b later holes (over_holes after (λ j. Part 0 AsValue ∷ (hole j l ∷ [])) turned.second 1 ms) i)) ∙ same_rearranged holes)))

  links_kept : (t u : Tree) → FilledTo ps l before t → FilledTo ps l after u → KeptAt (Expr q) (chain (links_over ms t)) (chain_if b (links_over ms u))
  links_kept t u f g =
      expressions_arranged ps (chained earlier) (chained_if b later) rearranged q (chain (links_over ms t)) (chain_if b (links_over ms u))
      (if_filled ps true earlier (links_over ms t) (filled_over ps l before t f 1 ms stand)) (if_filled ps b later (links_over ms u) (filled_over ps l after u g 1 ms stand))

-- a link over the part 0, or over a chain of it

plain_holes : (o : Bool) (j : ℕ) (l : Link) → parts_of AsValue (link_sketch o j l (part 0)) ≡ Part 0 AsValue ∷ (hole j l ∷ [])
plain_holes o j l = link_holes o j l (part 0) (Part 0 AsValue ∷ []) refl

held_holes : (o : Bool) (j : ℕ) (l : Link) → parts_of AsValue (link_sketch o j l (chained (part 0))) ≡ Part 0 AsValue ∷ (hole j l ∷ [])
held_holes o j l = link_holes o j l (chained (part 0)) (Part 0 AsValue ∷ []) refl

joined_turned : (l : Link) → Turned l (λ j. link_sketch true j l (chained (part 0))) (λ j. link_sketch true j l (part 0))
joined_turned l = record {
  first = λ j. held_holes true j l;
  second = λ j. plain_holes true j l;
  stood = λ j. stands_link still true j l (chained (part 0)) refl;
  stands = λ j. stands_link still true j l (part 0) refl;
  expression = λ j. link_expression true j l (part 0);
}

closed_turned : (l : Link) → Turned l (λ j. link_sketch true j l (part 0)) (λ j. link_sketch false j l (part 0))
closed_turned l = record {
  first = λ j. plain_holes true j l;
  second = λ j. plain_holes false j l;
  stood = λ j. stands_link still true j l (part 0) refl;
  stands = λ j. stands_link still false j l (part 0) refl;
  expression = λ j. link_expression false j l (part 0);
}

-- the part 0 is what stands before the innermost link
link_filled : (x : Tree) (ms : List Marked) (l : Link) (o : Bool) (s : Sketch) (t : Tree) → filled (record { trees = x ▸ trees_over ms l; lists = none ∷ lists_over ms l }) s ≡ t → FilledTo (record { trees = x ▸ trees_over ms l; lists = none ∷ lists_over ms l }) l (λ j. link_sketch o j l s) (linked o l t)
link_filled x ms l o s t e j f g = filled_link (record { trees = x ▸ trees_over ms l; lists = none ∷ lists_over ms l }) o j l s t e f g

joined_kept : (q : Seat) (ms : List Marked) (l : Link) (t : Tree) → KeptAt (Expr q) (chain (links_over ms (linked true l (chain t)))) (chain (links_over ms (linked true l t)))
joined_kept q ms l t = links_kept q ms l t (λ j. link_sketch true j l (chained (part 0))) (λ j. link_sketch true j l (part 0)) (joined_turned l) true (linked true l (chain t)) (linked true l t) (link_filled t ms l true (chained (part 0)) (chain t) refl) (link_filled t ms l true (part 0) t refl)

closed_kept : (q : Seat) (ms : List Marked) (l : Link) (t : Tree) (b : Bool) → KeptAt (Expr q) (chain (links_over ms (linked true l t))) (chain_if b (links_over ms (linked false l t)))
closed_kept q ms l t b = links_kept q ms l t (λ j. link_sketch true j l (part 0)) (λ j. link_sketch false j l (part 0)) (closed_turned l) b (linked true l t) (linked false l t) (link_filled t ms l true (part 0) t refl) (link_filled t ms l false (part 0) t refl)

module _ (q : Seat) (n w : Tree) where
  abbrev Row64Of : (Tree → Tree → Type 0) → Row64 n w → Type 0
  Row64Of P r = P (chain (links_over r.others (linked true r.link (chain r.inner)))) (chain (links_over r.others (linked true r.link r.inner)))

  abbrev Row11Of : (Tree → Tree → Type 0) → Row11 q n w → Type 0
  Row11Of P r = P (chain (links_over r.others (linked true r.link r.base))) (chain_if (has_mark r.others) (links_over r.others (linked false r.link r.base)))

  along : (P : Tree → Tree → Type 0) → ((r : Row64 n w) → Row64Of P r) → ((r : Row11 q n w) → Row11Of P r) → ChainRow q n w → P n w
  along P f g (inl r) = subst (λ t. P t w) (sym r.shape) (subst (P (chain (links_over r.others (linked true r.link (chain r.inner))))) (sym r.written) (f r))
  along P f g (inr r) = subst (λ t. P t w) (sym r.shape) (subst (P (chain (links_over r.others (linked true r.link r.base)))) (sym r.written) (g r))

pub chains_kept : (q : Seat) (n w : Tree) → ChainRow q n w → KeptAt (Expr q) n w
chains_kept q n w = along q n w (KeptAt (Expr q)) (λ r. joined_kept q r.others r.link r.inner) (λ r. closed_kept q r.others r.link r.base (has_mark r.others))

-- ---- where they stand

module _ (strict : Bool) (t : Tree) where
  abbrev pub Inside : Type 0
  Inside = (has_optional t ≡ true) × (fits strict (one a_chain) t ≡ true)

  nowhere : (s : Bool) (d : Depth) → filling s (one (a_statement d)) shape.ChainExpression ≡ refused
  nowhere true in_module = refl
  nowhere true in_body = refl
  nowhere true nested = refl
  nowhere false in_module = refl
  nowhere false in_body = refl
  nowhere false nested = refl

  inside : (has_optional t && (fits strict (one a_chain) t && true)) ≡ true → Inside
  inside e = let (optional, rest) = and_parts (has_optional t) (fits strict (one a_chain) t && true) e in (optional, (and_parts (fits strict (one a_chain) t) true rest).0)

  chain_in : (c : Class) → fits strict (one c) (chain t) ≡ true → TakesExpressionIn c × Inside
  chain_in an_expression e = (tt, inside e)
  chain_in a_link e = (tt, inside e)
  chain_in an_argument e = (tt, inside e)
  chain_in an_init e = (tt, inside e)
  chain_in an_arrow_body e = (tt, inside e)
  chain_in a_default_export e = (tt, inside e)
  chain_in (a_key true) e = (tt, inside e)
  chain_in (a_key false) e = absurd (refused_here strict (one (a_key false)) shape.ChainExpression [] 0 (t ▸ none) refl e)
  chain_in (a_statement d) e = absurd (refused_here strict (one (a_statement d)) shape.ChainExpression [] 0 (t ▸ none) (nowhere strict d) e)
  chain_in (a_private_or_key true) e = absurd (refused_here strict (one (a_private_or_key true)) shape.ChainExpression [] 0 (t ▸ none) refl e)
  chain_in (a_private_or_key false) e = absurd (refused_here strict (one (a_private_or_key false)) shape.ChainExpression [] 0 (t ▸ none) refl e)
  chain_in (an_inner_key true) e = absurd (refused_here strict (one (an_inner_key true)) shape.ChainExpression [] 0 (t ▸ none) refl e)
  chain_in (an_inner_key false) e = absurd (refused_here strict (one (an_inner_key false)) shape.ChainExpression [] 0 (t ▸ none) refl e)
  chain_in c e = absurd (refused_here strict (one c) shape.ChainExpression [] 0 (t ▸ none) refl e)

  pub chain_at : (s : Slot) → fits strict s (chain t) ≡ true → TakesExpression s × Inside
  chain_at (one c) e = chain_in c e
  chain_at (one_or_absent c) e = chain_in c e
  chain_at s e = absurd (refused_here strict s shape.ChainExpression [] 0 (t ▸ none) refl e)

module _ (strict : Bool) where
  abbrev Links : Tree → Type 0
  Links t = fits strict (one a_link) t ≡ true

  abbrev Fits : Tree → Type 0
  Fits t = fits strict expression t ≡ true

  abbrev Ends : Tree → Type 0
  Ends t = fits strict (one a_chain) t ≡ true

  -- a link is one wherever it stands in a chain

  links : (o : Bool) (l : Link) (t : Tree) → Ends (linked o l t) → Links (linked o l t)
  links o (a_member k) t e = e
  links o (a_computed k) t e = e
  links o (a_call ts) t e = e

  ends : (o : Bool) (l : Link) (t : Tree) → Links (linked o l t) → Ends (linked o l t)
  ends o (a_member k) t e = e
  ends o (a_computed k) t e = e
  ends o (a_call ts) t e = e

  pub over_links : (ms : List Marked) (o : Bool) (l : Link) (t : Tree) → Ends (links_over ms (linked o l t)) → Links (links_over ms (linked o l t))
  over_links [] o l t e = links o l t e
  over_links (marked p m ∷ ms) o l t e = links p m (links_over ms (linked o l t)) e

  over_ends : (ms : List Marked) (o : Bool) (l : Link) (t : Tree) → Links (links_over ms (linked o l t)) → Ends (links_over ms (linked o l t))
  over_ends [] o l t e = ends o l t e
  over_ends (marked p m ∷ ms) o l t e = ends p m (links_over ms (linked o l t)) e

  -- over another node

  link_fits : (o p : Bool) (l : Link) (t u : Tree) → (Links t → Links u) → Links (linked o l t) → Links (linked p l u)
  link_fits o p (a_member k) t u f e = let (here, rest) = and_parts (fits strict (one a_link) t) (fits strict (one a_label) k && true) e in both (fits strict (one a_link) u) (fits strict (one a_label) k && true) (f here) rest
  link_fits o p (a_computed k) t u f e = let (here, rest) = and_parts (fits strict (one a_link) t) (fits strict expression k && true) e in both (fits strict (one a_link) u) (fits strict expression k && true) (f here) rest
  link_fits o p (a_call ts) t u f e = let (here, rest) = and_parts (fits strict (one a_link) t) (fits strict (many an_argument) (listed ts) && true) e in both (fits strict (one a_link) u) (fits strict (many an_argument) (listed ts) && true) (f here) rest

  over_fits : (ms : List Marked) (t u : Tree) → (Links t → Links u) → Links (links_over ms t) → Links (links_over ms u)
  over_fits [] t u f e = f e
  over_fits (marked o l ∷ ms) t u f e = link_fits o o l (links_over ms t) (links_over ms u) (over_fits ms t u f) e

  closed_link : (o : Bool) (l : Link) (t u : Tree) → (Links t → Fits u) → Links (linked o l t) → Fits (linked false l u)
  closed_link o (a_member k) t u f e = let (here, rest) = and_parts (fits strict (one a_link) t) (fits strict (one a_label) k && true) e in both (fits strict expression u) (fits strict (one a_label) k && true) (f here) rest
  closed_link o (a_computed k) t u f e = let (here, rest) = and_parts (fits strict (one a_link) t) (fits strict expression k && true) e in both (fits strict expression u) (fits strict expression k && true) (f here) rest
  closed_link o (a_call ts) t u f e = let (here, rest) = and_parts (fits strict (one a_link) t) (fits strict (many an_argument) (listed ts) && true) e in both (fits strict expression u) (fits strict (many an_argument) (listed ts) && true) (f here) rest

  closed_over : (ms : List Marked) (t u : Tree) → has_mark ms ≡ false → (Links t → Fits u) → Links (links_over ms t) → Fits (links_over ms u)
  closed_over [] t u h f e = f e
  closed_over (marked true l ∷ ms) t u h f e = absurd (true≢false h)
  closed_over (marked false l ∷ ms) t u h f e = closed_link false l (links_over ms t) (links_over ms u) (closed_over ms t u h f) e

  -- what a chain holds is a link
  held_link : (t : Tree) → is_link (shape_of t) ≡ true → Ends t → Links t
  held_link (node (shape.CallExpression b) xs n ts) h e = e
  held_link (node (shape.StaticMemberExpression b) xs n ts) h e = e
  held_link (node (shape.ComputedMemberExpression b) xs n ts) h e = e
  held_link (node (shape.PrivateFieldExpression b) xs n ts) h e = e
  held_link (node h' xs n ts) h e = absurd (false≢true h)

  -- what is no link stands as an expression where it stands as one
  pub outer_fits : (t : Tree) → is_link (shape_of t) ≡ false → Links t → Fits t
  outer_fits (node (shape.CallExpression b) xs n ts) h e = absurd (true≢false h)
  outer_fits (node (shape.StaticMemberExpression b) xs n ts) h e = absurd (true≢false h)
  outer_fits (node (shape.ComputedMemberExpression b) xs n ts) h e = absurd (true≢false h)
  outer_fits (node (shape.PrivateFieldExpression b) xs n ts) h e = absurd (true≢false h)
  outer_fits (node g xs n ts) h e = e

optional_link : (o : Bool) (l : Link) (t : Tree) → has_optional (linked o l t) ≡ (o || has_optional t)
optional_link o (a_member k) t = refl
optional_link o (a_computed k) t = refl
optional_link o (a_call ts) t = refl

or_second : (a b : Bool) → b ≡ true → (a || b) ≡ true
or_second true b e = refl
or_second false b e = e

over_optional : (ms : List Marked) (t : Tree) → has_optional t ≡ true → has_optional (links_over ms t) ≡ true
over_optional [] t e = e
over_optional (marked o l ∷ ms) t e = optional_link o l (links_over ms t) ∙ or_second o (has_optional (links_over ms t)) (over_optional ms t e)

mark_optional : (ms : List Marked) (t : Tree) → has_mark ms ≡ true → has_optional (links_over ms t) ≡ true
mark_optional [] t e = absurd (false≢true e)
mark_optional (marked true l ∷ ms) t e = optional_link true l (links_over ms t)
mark_optional (marked false l ∷ ms) t e = optional_link false l (links_over ms t) ∙ mark_optional ms t e

-- of no link a value is known
no_link_by : (t : Tree) → (not (is_there t) || not (is_link (shape_of t))) ≡ true
no_link_by (node (shape.CallExpression b) xs n ts) = refl
no_link_by (node (shape.StaticMemberExpression b) xs n ts) = refl
no_link_by (node (shape.ComputedMemberExpression b) xs n ts) = refl
no_link_by (node (shape.PrivateFieldExpression b) xs n ts) = refl
no_link_by (node h xs n ts) = or_true (not (is_there (node h xs n ts)))
  where
    or_true : (b : Bool) → (b || true) ≡ true
    or_true true = refl
    or_true false = refl

no_link : (t : Tree) → is_there t ≡ true → is_link (shape_of t) ≡ false
no_link t e = go (is_link (shape_of t)) (subst (λ b. (not b || not (is_link (shape_of t))) ≡ true) e (no_link_by t))
  where
    go : (b : Bool) → not b ≡ true → b ≡ false
    go true e = absurd (false≢true e)
    go false e = refl

chain_fits : (strict : Bool) (t : Tree) → has_optional t ≡ true → fits strict (one a_chain) t ≡ true → fits strict expression (chain t) ≡ true
chain_fits strict t o e = both (has_optional t) (fits strict (one a_chain) t && true) o (both (fits strict (one a_chain) t) true e refl)

joined_fits : (strict : Bool) (s : Slot) (ms : List Marked) (l : Link) (t : Tree) → is_link (shape_of t) ≡ true → fits strict s (chain (links_over ms (linked true l (chain t)))) ≡ true → fits strict s (chain (links_over ms (linked true l t))) ≡ true
joined_fits strict s ms l t h e =
    let (takes, (marks, held)) = chain_at strict (links_over ms (linked true l (chain t))) s e in
    expression_taken strict s (chain (links_over ms (linked true l t))) takes
    (chain_fits strict (links_over ms (linked true l t)) (over_optional ms (linked true l t) (optional_link true l t))
    (over_ends strict ms true l t (over_fits strict ms (linked true l (chain t)) (linked true l t) (link_fits strict true true l (chain t) t (λ f. held_link strict t h (chain_in strict t a_link f).1.1)) (over_links strict ms true l (chain t) held))))

module _ (strict : Bool) (ms : List Marked) (l : Link) (t : Tree) (there : is_there t ≡ true) (inner : fits strict (one a_link) (links_over ms (linked true l t)) ≡ true) where
  closed_by : (b : Bool) → has_mark ms ≡ b → fits strict expression (chain_if b (links_over ms (linked false l t))) ≡ true
  closed_by true h = chain_fits strict (links_over ms (linked false l t)) (mark_optional ms (linked false l t) h) (over_ends strict ms false l t (over_fits strict ms (linked true l t) (linked false l t) (link_fits strict true false l t t (λ f. f)) inner))
  closed_by false h = closed_over strict ms (linked true l t) (linked false l t) h (closed_link strict true l t t (outer_fits strict t (no_link t there))) inner

closed_fits : (strict : Bool) (s : Slot) (ms : List Marked) (l : Link) (t : Tree) → is_there t ≡ true → fits strict s (chain (links_over ms (linked true l t))) ≡ true → fits strict s (chain_if (has_mark ms) (links_over ms (linked false l t))) ≡ true
closed_fits strict s ms l t h e =
    let (takes, (marks, held)) = chain_at strict (links_over ms (linked true l t)) s e in
    expression_taken strict s (chain_if (has_mark ms) (links_over ms (linked false l t))) takes (closed_by strict ms l t h (over_links strict ms true l t held) (has_mark ms) refl)

pub chains_fit : (q : Seat) (n w : Tree) → ChainRow q n w → (strict : Bool) (s : Slot) → fits strict s n ≡ true → fits strict s w ≡ true
chains_fit q n w r strict s = along q n w (λ t u. fits strict s t ≡ true → fits strict s u ≡ true) (λ r. joined_fits strict s r.others r.link r.inner r.held) (λ r. closed_fits strict s r.others r.link r.base r.known) r

pub chains_slot : (q : Seat) (n w : Tree) → ChainRow q n w → (strict : Bool) (s : Slot) → fits strict s n ≡ true → is_body_slot (Expr q) s ≡ true
chains_slot q n w r strict s =
    along q n w (λ t u. fits strict s t ≡ true → is_body_slot (Expr q) s ≡ true)
    (λ r e. expression_slot (Expr q) s (chain_at strict (links_over r.others (linked true r.link (chain r.inner))) s e).0) (λ r e. expression_slot (Expr q) s (chain_at strict (links_over r.others (linked true r.link r.base)) s e).0) r

-- ---- what a parent asks

link_number : (o : Bool) (l : Link) (t : Tree) → is_not_positive_number (linked o l t) ≡ true
link_number o (a_member k) t = refl
link_number o (a_computed k) t = refl
link_number o (a_call ts) t = refl

over_number : (b : Bool) (ms : List Marked) (o : Bool) (l : Link) (t : Tree) → is_not_positive_number (chain_if b (links_over ms (linked o l t))) ≡ true
over_number true ms o l t = refl
over_number false [] o l t = link_number o l t
over_number false (marked p m ∷ ms) o l t = link_number p m (links_over ms (linked o l t))

pub chain_asked : (q : Seat) (t u : Tree) → is_not_positive_number u ≡ true → AskedAlike (Expr q) (chain t) u
chain_asked q t u e = record {
  absent = λ e. absurd (false≢true e);
  body = λ e. absurd (false≢true e);
  optional = λ e. absurd (false≢true e);
  number = λ asks f. e;
  spelled = λ s e. absurd (cc e);
  plain = refl;
}

pub chains_asked : (q : Seat) (n w : Tree) → ChainRow q n w → AskedAlike (Expr q) n w
chains_asked q n w = along q n w (AskedAlike (Expr q)) (λ r. chain_asked q _ _ refl) (λ r. chain_asked q _ _ (over_number (has_mark r.others) r.others false r.link r.base))

-- ---- lighter

-- what a chain holds weighs 4 more in a chain that is an object or a callee
object_light : (t : Tree) → is_link (shape_of t) ≡ true → weight (Expr object_seat) t + 4 ≤ weight (Expr object_seat) (chain t)
object_light (node (shape.CallExpression b) xs n ts) h = omega arith
object_light (node (shape.StaticMemberExpression b) xs n ts) h = omega arith
object_light (node (shape.ComputedMemberExpression b) xs n ts) h = omega arith
object_light (node (shape.PrivateFieldExpression b) xs n ts) h = omega arith
object_light (node h' xs n ts) h = absurd (false≢true h)

callee_light : (t : Tree) → is_link (shape_of t) ≡ true → weight (Expr callee_seat) t + 4 ≤ weight (Expr callee_seat) (chain t)
callee_light (node (shape.CallExpression b) xs n ts) h = omega arith
callee_light (node (shape.StaticMemberExpression b) xs n ts) h = omega arith
callee_light (node (shape.ComputedMemberExpression b) xs n ts) h = omega arith
callee_light (node (shape.PrivateFieldExpression b) xs n ts) h = omega arith
callee_light (node h' xs n ts) h = absurd (false≢true h)

chain_place : (s : Seat) (t u : Tree) → place_weight (Expr s) shape.ChainExpression (outlines (t ▸ none)) ≡ place_weight (Expr s) shape.ChainExpression (outlines (u ▸ none))
chain_place s t u = refl

-- in any seat

abbrev Lighter : Tree → Tree → Type 0
Lighter u t = (s : Seat) → weight (Expr s) u < weight (Expr s) t

member_place : (s : Seat) (o p : Bool) (t u k : Tree) → place_weight (Expr s) (shape.StaticMemberExpression o) (outlines (t ▸ k ▸ none)) ≡ place_weight (Expr s) (shape.StaticMemberExpression p) (outlines (u ▸ k ▸ none))
member_place s o p t u k = refl

computed_place : (s : Seat) (o p : Bool) (t u k : Tree) → place_weight (Expr s) (shape.ComputedMemberExpression o) (outlines (t ▸ k ▸ none)) ≡ place_weight (Expr s) (shape.ComputedMemberExpression p) (outlines (u ▸ k ▸ none))
computed_place s o p t u k = refl

call_place : (s : Seat) (o p : Bool) (t u k : Tree) → place_weight (Expr s) (shape.CallExpression o) (outlines (t ▸ k ▸ none)) ≡ place_weight (Expr s) (shape.CallExpression p) (outlines (u ▸ k ▸ none))
call_place s o p t u k = refl

joined_light : (l : Link) (t : Tree) → is_link (shape_of t) ≡ true → Lighter (linked true l t) (linked true l (chain t))
joined_light (a_member k) t h s = omega (arith, member_place s true true t (chain t) k, object_light t h)
joined_light (a_computed k) t h s = omega (arith, computed_place s true true t (chain t) k, object_light t h)
joined_light (a_call ts) t h s = omega (arith, call_place s true true t (chain t) (listed ts), callee_light t h)

closed_light : (l : Link) (t : Tree) → Lighter (linked false l t) (linked true l t)
closed_light (a_member k) t s = omega (arith, member_place s false true t t k)
closed_light (a_computed k) t s = omega (arith, computed_place s false true t t k)
closed_light (a_call ts) t s = omega (arith, call_place s false true t t (listed ts))

over_light : (ms : List Marked) (t u : Tree) → Lighter u t → Lighter (links_over ms u) (links_over ms t)
over_light [] t u h s = h s
over_light (marked o (a_member k) ∷ ms) t u h s = omega (arith, member_place s o o (links_over ms u) (links_over ms t) k, over_light ms t u h object_seat)
over_light (marked o (a_computed k) ∷ ms) t u h s = omega (arith, computed_place s o o (links_over ms u) (links_over ms t) k, over_light ms t u h object_seat)
over_light (marked o (a_call ts) ∷ ms) t u h s = omega (arith, call_place s o o (links_over ms u) (links_over ms t) (listed ts), over_light ms t u h callee_seat)

chain_light : (s : Seat) (t u : Tree) → Lighter u t → weight (Expr s) (chain u) < weight (Expr s) (chain t)
chain_light s t u h = omega (arith, chain_place s u t, h (chained_seat s))

-- what a link has parentheses for, a chain has, but as a callee of `new`
less : (x y z c : Bool) → z ≡ false → (if x || (false || ((y && false) || (z && c))) then 4 else 0) ≤ (if x || (false || ((y && true) || (z && false))) then 4 else 0)
less true y z c e = omega arith
less false y true c e = absurd (true≢false e)
less false true false c e = omega arith
less false false false c e = omega arith

moved : (s : Seat) → s.new_callee ≡ false → (o : Bool) (l : Link) (t : Tree) → weight (Expr s) (linked o l t) ≤ weight (Expr s) (chain (linked o l t))
moved s e o (a_member k) t = omega (arith, less (nat_lt 16 s.level) s.access s.new_callee false e)
moved s e o (a_computed k) t = omega (arith, less (nat_lt 16 s.level) s.access s.new_callee false e)
moved s e o (a_call ts) t = omega (arith, less (nat_lt 16 s.level) s.access s.new_callee true e)

over_moved : (s : Seat) → s.new_callee ≡ false → (ms : List Marked) (o : Bool) (l : Link) (t : Tree) → weight (Expr s) (links_over ms (linked o l t)) ≤ weight (Expr s) (chain (links_over ms (linked o l t)))
over_moved s e [] o l t = moved s e o l t
over_moved s e (marked p m ∷ ms) o l t = moved s e p m (links_over ms (linked o l t))

closed_falls : (s : Seat) → s.new_callee ≡ false → (ms : List Marked) (l : Link) (t : Tree) (b : Bool) → weight (Expr s) (chain_if b (links_over ms (linked false l t))) < weight (Expr s) (chain (links_over ms (linked true l t)))
closed_falls s e ms l t true = chain_light s (links_over ms (linked true l t)) (links_over ms (linked false l t)) (over_light ms (linked true l t) (linked false l t) (closed_light l t))
closed_falls s e ms l t false = omega (arith, over_moved s e ms false l t, chain_light s (links_over ms (linked true l t)) (links_over ms (linked false l t)) (over_light ms (linked true l t) (linked false l t) (closed_light l t)))

pub chains_fall : (s : Seat) (n w : Tree) → ChainRow s n w → weight (Expr s) w < weight (Expr s) n
chains_fall s n w =
    along s n w (λ t u. weight (Expr s) u < weight (Expr s) t)
    (λ r. chain_light s _ _ (over_light r.others (linked true r.link (chain r.inner)) (linked true r.link r.inner) (joined_light r.link r.inner r.held)))
    (λ r. closed_falls s r.called r.others r.link r.base (has_mark r.others))

link_outline : (o : Bool) (l : Link) (t u : Tree) → outline (chain u) ≡ outline (linked o l t)
link_outline o (a_member k) t u = refl
link_outline o (a_computed k) t u = refl
link_outline o (a_call ts) t u = refl

over_outline : (b : Bool) (ms : List Marked) (o : Bool) (l : Link) (t u : Tree) → outline (chain u) ≡ outline (chain_if b (links_over ms (linked o l t)))
over_outline true ms o l t u = refl
over_outline false [] o l t u = link_outline o l t u
over_outline false (marked p m ∷ ms) o l t u = link_outline p m (links_over ms (linked o l t)) u

pub chains_outline : (s : Seat) (n w : Tree) → ChainRow s n w → outline n ≡ outline w
chains_outline s n w = along s n w (λ t u. outline t ≡ outline u) (λ r. refl) (λ r. over_outline (has_mark r.others) r.others false r.link r.base (links_over r.others (linked true r.link r.base)))
