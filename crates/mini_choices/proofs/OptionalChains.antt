-- What is written for a conditional that asks whether a name is null or undefined is what a row says, and where nothing is no row reads it.
use Rattle.std.proofs.Common.{◌≡◌, ℕ, suc, ◌+◌, ◌<◌, ◌≤◌, Bool, true, false, List, [], ◌∷◌, Option, Some, None, refl, sym, ap, subst, ◌∙◌, inl, inr, true≢false, arith}
use Rattle.std.specs.Prelude.{◌⊎◌, ◌&&◌, ◌||◌, not, is_some, is_none, codes, if◌then◌else◌}
use Rattle.std.proofs.lemmas.Bool.{and_parts}
use Rattle.mini_model.specs.declared.name.Name.{Name}
use Rattle.mini_model.specs.declared.operator.BinaryOperator.{BinaryOperator}
use Rattle.mini_model.specs.declared.operator.BinaryOperator.TheVariants.{Equality, Inequality}
use Rattle.mini_model.specs.declared.place.Position.TheVariants.{Expr}
use Rattle.mini_model.specs.declared.seat.Seat.{Seat}
use Rattle.mini_model.specs.Tree.{Tree, Trees, node, none, ◌▸◌, children, child_or_absent, count, node_count, node_counts, shape_of, identifier, conditional, null_literal}
use Rattle.mini_model.specs.Weight.{same_text}
use Rattle.mini_node.specs.Children.{part, names_of, number_of, rest_children}
use Rattle.mini_node.specs.Equal.{same_tree}
use Rattle.mini_node.specs.Kinds.{binary, is_conditional, is_identifier, is_null, is_static_member, is_computed_member, is_call_expression, binary_operator}
use Rattle.mini_node.specs.Made.{static_member_is, computed_member_is, call_expression_is, identifier_is, conditional_is, binary_is, null_is}
use Rattle.mini_node.specs.Walks.{next_child, no_rest}
use Rattle.mini_node.proofs.Equality.{tree_same, tree_itself}
use Rattle.mini_rows.specs.Editions.{ChoicesIn}
use Rattle.mini_rows.specs.Choices.{OptionalChain}
use Rattle.mini_terms.specs.Exact.{kept_by_value}
use Rattle.mini_rows.specs.Chains.{is_closed_shape, is_open_shape, is_word_shape, is_calm, are_calm, Link, a_member, a_computed, a_call, linked, spine, is_calm_link, are_calm_links, chain, if_nullish, Row46Chain}
use Rattle.mini_rows.proofs.ChainLawful.{chain_row_lighter}
use Rattle.mini_choices.specs.Assigning.{is_declared}
use Rattle.mini_choices.specs.Forms.{is_undefined}
use Rattle.mini_choices.specs.MinimizeConditionalBranches.{is_equal_in, is_unequal_in}
use Rattle.mini_choices.specs.InjectOptionalChaining.{is_link, is_spine, is_over, opened, with_first, optional_over, optional_in, chained, is_eval, asks_name, reads_name, is_read_last, is_read_first, first_written, written}
use Rattle.mini_choices.proofs.Trials.{not_true, both_true, tries, first_true, later_true}
use Rattle.mini_choices.proofs.FormsAre.{either_true, undefined_is, undefined_passes}

-- ---- arguments, one after another

pub calm_is : (t : Tree) → is_calm t ≡ is_closed_shape (shape_of t) || (is_open_shape (shape_of t) && are_calm (children t))
calm_is (node h xs n ts) = refl

pub calm_below : (t : Tree) → node_counts (children t) + 1 ≡ node_count t
calm_below (node h xs n ts) = omega arith

pub calm_stops : (ts : Trees) (i : ℕ) → i < count ts → is_calm (child_or_absent ts i) ≡ false → are_calm (rest_children i ts) ≡ are_calm ts → false ≡ are_calm ts
calm_stops ts i h e inv = sym (ap (λ b. b && are_calm (rest_children (suc i) ts)) e) ∙ sym (ap are_calm (next_child ts i h)) ∙ inv

pub calm_goes_on : (ts : Trees) (i : ℕ) → i < count ts → is_calm (child_or_absent ts i) ≡ true → are_calm (rest_children i ts) ≡ are_calm ts → are_calm (rest_children (i + 1) ts) ≡ are_calm ts
calm_goes_on ts i h e inv = let next : i + 1 ≡ suc i = omega arith in ap (λ k. are_calm (rest_children k ts)) next ∙ sym (ap (λ b. b && are_calm (rest_children (suc i) ts)) e) ∙ sym (ap are_calm (next_child ts i h)) ∙ inv

pub calm_ends : (ts : Trees) (i : ℕ) → count ts ≤ i → are_calm (rest_children i ts) ≡ are_calm ts → true ≡ are_calm ts
calm_ends ts i h inv = sym (ap are_calm (no_rest ts i h)) ∙ inv

-- ---- links, one after another

over_first : (x : Tree) (ts : Trees) → is_over x ts ≡ (if is_identifier (child_or_absent ts 0) then same_tree (child_or_absent ts 0) x else is_spine x (child_or_absent ts 0))
over_first x none = refl
over_first x (t ▸ ts) = refl

pub spine_below : (x t : Tree) → is_link t ≡ true → is_spine x t ≡ (if is_identifier (part t 0) then same_tree (part t 0) x else is_spine x (part t 0))
spine_below x (node h xs n ts) e = ap (λ b. b && is_over x ts) e ∙ over_first x ts

pub spine_there : (x t : Tree) → is_link t ≡ false → is_spine x t ≡ false
spine_there x (node h xs n ts) e = ap (λ b. b && is_over x ts) e

optional_first : (u : Tree) (ts : Trees) → optional_in u ts ≡ optional_over u (child_or_absent ts 0)
optional_first u none = refl
optional_first u (t ▸ ts) = refl

abbrev over_first_child : Tree → Trees → (Trees → Tree) → (Trees → Tree) → Bool → Tree
over_first_child u ts opens goes b = if b then opens (with_first ts u) else goes (with_first ts (optional_in u ts))

pub over_name : (u t : Tree) → is_link t ≡ true → is_identifier (part t 0) ≡ true → optional_over u t ≡ node (opened (shape_of t)) (names_of t) (number_of t) (with_first (children t) u)
over_name u (node h xs n ts) e f =
    ap (λ b. if b then over_first_child u ts (node (opened h) xs n) (node h xs n) (is_identifier (child_or_absent ts 0)) else node h xs n ts) e
    ∙ ap (over_first_child u ts (node (opened h) xs n) (node h xs n)) f

pub over_link : (u t : Tree) → is_link t ≡ true → is_identifier (part t 0) ≡ false → optional_over u t ≡ node (shape_of t) (names_of t) (number_of t) (with_first (children t) (optional_over u (part t 0)))
over_link u (node h xs n ts) e f =
    ap (λ b. if b then over_first_child u ts (node (opened h) xs n) (node h xs n) (is_identifier (child_or_absent ts 0)) else node h xs n ts) e
    ∙ ap (over_first_child u ts (node (opened h) xs n) (node h xs n)) f
    ∙ ap (λ t. node h xs n (with_first ts t)) (optional_first u ts)

pub over_other : (u t : Tree) → is_link t ≡ false → optional_over u t ≡ t
over_other u (node h xs n ts) e = ap (λ b. if b then over_first_child u ts (node (opened h) xs n) (node h xs n) (is_identifier (child_or_absent ts 0)) else node h xs n ts) e

-- ---- what is read of the name is a spine

record LinkOf (t : Tree) : Type 0 where
  link : Link
  calm : is_calm_link link ≡ true
  is : t ≡ linked false link (part t 0)

link_of : (t : Tree) → is_link t ≡ true → LinkOf t
link_of t e = go (either_true (is_static_member t && is_word_shape (shape_of (part t 1))) _ e)
  where
    rest : ((is_computed_member t && is_calm (part t 1)) ≡ true) ⊎ ((is_call_expression t && are_calm (children (part t 1))) ≡ true) → LinkOf t
    rest (inl h) = let (kind, calm) = and_parts (is_computed_member t) (is_calm (part t 1)) h in record { link = a_computed (part t 1); calm = calm; is = computed_member_is t kind }
    rest (inr h) = let (kind, calm) = and_parts (is_call_expression t) (are_calm (children (part t 1))) h in record { link = a_call (children (part t 1)); calm = calm; is = call_expression_is t kind }

    go : ((is_static_member t && is_word_shape (shape_of (part t 1))) ≡ true) ⊎ (((is_computed_member t && is_calm (part t 1)) || (is_call_expression t && are_calm (children (part t 1)))) ≡ true) → LinkOf t
    go (inl h) = let (kind, calm) = and_parts (is_static_member t) (is_word_shape (shape_of (part t 1))) h in record { link = a_member (part t 1); calm = calm; is = static_member_is t kind }
    go (inr h) = rest (either_true (is_computed_member t && is_calm (part t 1)) (is_call_expression t && are_calm (children (part t 1))) h)

or_false : (b : Bool) → b ≡ true → b || false ≡ true
or_false true e = refl
or_false false e = e

or_first : (b c : Bool) → b ≡ true → b || c ≡ true
or_first true c e = refl
or_first false c e = absurd (true≢false (sym e))

link_passes : (l : Link) (t : Tree) → is_calm_link l ≡ true → is_link (linked false l t) ≡ true
link_passes (a_member k) t p = or_first (is_word_shape (shape_of k)) (false || false) p
link_passes (a_computed k) t p = or_false (is_calm k) p
link_passes (a_call ts) t p = p

-- a link is optional over the name, and stands over this
linked_over_name : (u : Tree) (l : Link) (t : Tree) → is_calm_link l ≡ true → is_identifier t ≡ true → optional_over u (linked false l t) ≡ linked true l u
linked_over_name u (a_member k) t p e = over_name u (linked false (a_member k) t) (link_passes (a_member k) t p) e
linked_over_name u (a_computed k) t p e = over_name u (linked false (a_computed k) t) (link_passes (a_computed k) t p) e
linked_over_name u (a_call ts) t p e = over_name u (linked false (a_call ts) t) (link_passes (a_call ts) t p) e

linked_over_link : (u : Tree) (l : Link) (t : Tree) → is_calm_link l ≡ true → is_identifier t ≡ false → optional_over u (linked false l t) ≡ linked false l (optional_over u t)
linked_over_link u (a_member k) t p e = over_link u (linked false (a_member k) t) (link_passes (a_member k) t p) e
linked_over_link u (a_computed k) t p e = over_link u (linked false (a_computed k) t) (link_passes (a_computed k) t p) e
linked_over_link u (a_call ts) t p e = over_link u (linked false (a_call ts) t) (link_passes (a_call ts) t p) e

pub record SpineOf (x t : Tree) : Type 0 where
  pub last : Link
  pub others : List Link
  pub calm : are_calm_links last others ≡ true
  pub is : t ≡ spine false x last others
  pub over : (u : Tree) → optional_over u t ≡ spine true u last others

over_one : (x t : Tree) (l : LinkOf t) → is_identifier (part t 0) ≡ true → same_tree (part t 0) x ≡ true → SpineOf x t
over_one x t l i e =
    let same = tree_same (part t 0) x e in
    record {
      last = l.link;
      others = [];
      calm = l.calm;
      is = l.is ∙ ap (linked false l.link) same;
      over = λ u. ap (optional_over u) l.is ∙ linked_over_name u l.link (part t 0) l.calm i;
    }

over_more : (x t : Tree) (l : LinkOf t) → is_identifier (part t 0) ≡ false → SpineOf x (part t 0) → SpineOf x t
over_more x t l i below = record {
  last = l.link;
  others = below.last ∷ below.others;
  calm = both_true (is_calm_link l.link) (are_calm_links below.last below.others) l.calm below.calm;
  is = l.is ∙ ap (linked false l.link) below.is;
  over = λ u. ap (optional_over u) l.is ∙ linked_over_link u l.link (part t 0) l.calm i ∙ ap (linked false l.link) (below.over u);
}

by_link : (x t : Tree) → (is_spine x (part t 0) ≡ true → SpineOf x (part t 0)) → is_spine x t ≡ true → SpineOf x t
by_link x t below e = go (is_link t) refl
  where
    of : (l : LinkOf t) (b : Bool) → is_identifier (part t 0) ≡ b → (if b then same_tree (part t 0) x else is_spine x (part t 0)) ≡ true → SpineOf x t
    of l true i h = over_one x t l i h
    of l false i h = over_more x t l i (below h)

    go : (b : Bool) → is_link t ≡ b → SpineOf x t
    go true h = of (link_of t h) (is_identifier (part t 0)) refl (sym (spine_below x t h) ∙ e)
    go false h = absurd (true≢false (sym e ∙ spine_there x t h))

mutual
  pub spine_of : (x t : Tree) → is_spine x t ≡ true → SpineOf x t
  spine_of x (node h xs n ts) e = by_link x (node h xs n ts) (spine_in x ts) e

  spine_in : (x : Tree) (ts : Trees) → is_spine x (child_or_absent ts 0) ≡ true → SpineOf x (child_or_absent ts 0)
  spine_in x none e = absurd (true≢false (sym e))
  spine_in x (t ▸ ts) e = spine_of x t e

-- ---- and what is one passes

no_name : (o : Bool) (l : Link) (t : Tree) → is_identifier (linked o l t) ≡ false
no_name o (a_member k) t = refl
no_name o (a_computed k) t = refl
no_name o (a_call ts) t = refl

spine_no_name : (x : Tree) (l : Link) (ls : List Link) → is_identifier (spine false x l ls) ≡ false
spine_no_name x l [] = no_name false l x
spine_no_name x l (m ∷ ls) = no_name false l (spine false x m ls)

first_of_link : (l : Link) (t : Tree) → part (linked false l t) 0 ≡ t
first_of_link (a_member k) t = refl
first_of_link (a_computed k) t = refl
first_of_link (a_call ts) t = refl

spine_by : (x t : Tree) (l : Link) → is_calm_link l ≡ true → (if is_identifier t then same_tree t x else is_spine x t) ≡ true → is_spine x (linked false l t) ≡ true
spine_by x t l p e = spine_below x (linked false l t) (link_passes l t p) ∙ ap (λ u. if is_identifier u then same_tree u x else is_spine x u) (first_of_link l t) ∙ e

pub spine_passes : (x : Name) (l : Link) (ls : List Link) → are_calm_links l ls ≡ true → is_spine (identifier x) (spine false (identifier x) l ls) ≡ true
spine_passes x l [] p = spine_by (identifier x) (identifier x) l p (tree_itself (identifier x))
spine_passes x l (m ∷ ls) p =
    let (here, rest) = and_parts (is_calm_link l) (are_calm_links m ls) p in
    let below = spine false (identifier x) m ls in
    spine_by (identifier x) below l here (ap (λ b. if b then same_tree below (identifier x) else is_spine (identifier x) below) (spine_no_name (identifier x) m ls) ∙ spine_passes x m ls rest)

-- ---- what is written is what the row says

pub equal_is : (t : Tree) → is_equal_in (binary_operator t) ≡ true → t ≡ binary Equality (part t 0) (part t 1)
equal_is t e = go (binary_operator t) refl e
  where
    go : (o : Option BinaryOperator) → binary_operator t ≡ o → is_equal_in o ≡ true → t ≡ binary Equality (part t 0) (part t 1)
    go (Some Equality) h e = binary_is t Equality h
    go o h e = absurd (cc e)

pub unequal_is : (t : Tree) → is_unequal_in (binary_operator t) ≡ true → t ≡ binary Inequality (part t 0) (part t 1)
unequal_is t e = go (binary_operator t) refl e
  where
    go : (o : Option BinaryOperator) → binary_operator t ≡ o → is_unequal_in o ≡ true → t ≡ binary Inequality (part t 0) (part t 1)
    go (Some Inequality) h e = binary_is t Inequality h
    go o h e = absurd (cc e)

-- the name that is asked
record Asked (t : Tree) : Type 0 where
  name : Name
  named : part t 0 ≡ identifier name
  null : part t 1 ≡ null_literal
  declared : is_none name.symbol ≡ false
  indirect : same_text name.spelling (codes "eval") ≡ false

asked_is : (t : Tree) → asks_name t ≡ true → Asked t
asked_is t e =
    let (null, rest) = and_parts (is_null (part t 1)) (is_identifier (part t 0) && (is_declared (part t 0) && not (is_eval (names_of (part t 0))))) e in
    let (is, last) = and_parts (is_identifier (part t 0)) (is_declared (part t 0) && not (is_eval (names_of (part t 0)))) rest in
    let (declared, plain) = and_parts (is_declared (part t 0)) (not (is_eval (names_of (part t 0)))) last in
    let (x, h) = identifier_is (part t 0) is in
    record {
      name = x;
      named = h;
      null = null_is (part t 1) null;
      declared = not_true (is_none x.symbol) (sym (ap is_declared h) ∙ declared);
      indirect = sym (ap (λ t. is_eval (names_of t)) h) ∙ not_true (is_eval (names_of (part t 0))) plain;
    }

module _ (s : Seat) (n : Tree) where
  chains : (equal : Bool) (test missing read : Tree) → (a : Asked test) → is_undefined missing ≡ true → is_spine (part test 0) read ≡ true → n ≡ if_nullish equal a.name missing read → Row46Chain s n (kept_by_value s.guard (chain (optional_over (part test 0) read)))
  chains equal test missing read a u e is =
      let sp = spine_of (identifier a.name) read (subst (λ x. is_spine x read ≡ true) a.named e) in
      record {
        equal = equal;
        name = a.name;
        missing = missing;
        last = sp.last;
        others = sp.others;
        declared = a.declared;
        indirect = a.indirect;
        undefined = undefined_is missing u;
        calm = sp.calm;
        shape = is ∙ ap (if_nullish equal a.name missing) sp.is;
        written = ap (λ t. kept_by_value s.guard (chain t)) (ap (λ u. optional_over u read) a.named ∙ sp.over (identifier a.name));
      }

  last_row : is_read_last n ≡ true → Row46Chain s n (kept_by_value s.guard (chained n (part n 2)))
  last_row h =
      let (chooses, h2) = and_parts (is_conditional n) (is_equal_in (binary_operator (part n 0)) && reads_name (part n 0) (part n 1) (part n 2)) h in
      let (compares, h3) = and_parts (is_equal_in (binary_operator (part n 0))) (reads_name (part n 0) (part n 1) (part n 2)) h2 in
      let (asks, h4) = and_parts (asks_name (part n 0)) (is_undefined (part n 1) && is_spine (part (part n 0) 0) (part n 2)) h3 in
      let (undefined, spined) = and_parts (is_undefined (part n 1)) (is_spine (part (part n 0) 0) (part n 2)) h4 in
      let a = asked_is (part n 0) asks in
      let test : part n 0 ≡ binary Equality (identifier a.name) null_literal = equal_is (part n 0) compares ∙ (λ i. binary Equality (a.named i) (a.null i)) in
      chains true (part n 0) (part n 1) (part n 2) a undefined spined (conditional_is n chooses ∙ ap (λ t. conditional t (part n 1) (part n 2)) test)

  first_row : is_read_first n ≡ true → Row46Chain s n (kept_by_value s.guard (chained n (part n 1)))
  first_row h =
      let (chooses, h2) = and_parts (is_conditional n) (is_unequal_in (binary_operator (part n 0)) && reads_name (part n 0) (part n 2) (part n 1)) h in
      let (compares, h3) = and_parts (is_unequal_in (binary_operator (part n 0))) (reads_name (part n 0) (part n 2) (part n 1)) h2 in
      let (asks, h4) = and_parts (asks_name (part n 0)) (is_undefined (part n 2) && is_spine (part (part n 0) 0) (part n 1)) h3 in
      let (undefined, spined) = and_parts (is_undefined (part n 2)) (is_spine (part (part n 0) 0) (part n 1)) h4 in
      let a = asked_is (part n 0) asks in
      let test : part n 0 ≡ binary Inequality (identifier a.name) null_literal = unequal_is (part n 0) compares ∙ (λ i. binary Inequality (a.named i) (a.null i)) in
      chains false (part n 0) (part n 2) (part n 1) a undefined spined (conditional_is n chooses ∙ ap (λ t. conditional t (part n 1) (part n 2)) test)

pub chain_is_row : (s : Seat) (n w : Tree) → written s n ≡ Some w → Row46Chain s n w
chain_is_row s n w e =
    tries (Row46Chain s n) w (is_read_last n) (kept_by_value s.guard (chained n (part n 2))) (first_written s n) (last_row s n)
    (tries (Row46Chain s n) w (is_read_first n) (kept_by_value s.guard (chained n (part n 1))) None (first_row s n) (λ e. absurd (cc e))) e

pub chain_row : (edition : ℕ) → 2020 ≤ edition → (s : Seat) (n w : Tree) → written s n ≡ Some w → ChoicesIn edition (Expr s) n w
chain_row edition late s n w e = let r = chain_is_row s n w e in (record { row = OptionalChain r; lighter = chain_row_lighter s n w r }, late)

-- ---- and what the row reads is written

name_passes : (x : Name) → is_none x.symbol ≡ false → same_text x.spelling (codes "eval") ≡ false → is_declared (identifier x) && not (is_eval (names_of (identifier x))) ≡ true
name_passes x d h = both_true (is_declared (identifier x)) (not (is_eval (names_of (identifier x)))) (ap not d) (ap not h)

module _ (s : Seat) (n w : Tree) (r : Row46Chain s n w) where
  abbrev named : Tree
  named = identifier r.name

  abbrev read : Tree
  read = spine false named r.last r.others

  reads : (is_declared named && not (is_eval (names_of named))) && (is_undefined r.missing && is_spine named read) ≡ true
  reads = both_true (is_declared named && not (is_eval (names_of named))) (is_undefined r.missing && is_spine named read) (name_passes r.name r.declared r.indirect) (both_true (is_undefined r.missing) (is_spine named read) (undefined_passes r.missing r.undefined) (spine_passes r.name r.last r.others r.calm))

  passes_by : (equal : Bool) → is_some (written s (if_nullish equal r.name r.missing read)) ≡ true
  passes_by true =
      let t : Tree = if_nullish true r.name r.missing read in
      first_true (is_read_last t) (kept_by_value s.guard (chained t read)) (first_written s t) reads
  passes_by false =
      let t : Tree = if_nullish false r.name r.missing read in
      later_true (is_read_last t) (kept_by_value s.guard (chained t r.missing)) (first_written s t) (first_true (is_read_first t) (kept_by_value s.guard (chained t read)) None reads)

  pub chain_passes : is_some (written s n) ≡ true
  chain_passes = ap (λ t. is_some (written s t)) r.shape ∙ passes_by r.equal
