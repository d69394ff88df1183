-- Where a name stands that the next declarator reads.
use Rattle.std.proofs.Common.{◌≡◌, ℕ, suc, ◌+◌, ◌<◌, Bool, true, false, sym, ap, ◌∙◌, subst, add-one}
use Rattle.std.specs.Prelude.{not, ◌&&◌, Option, Some, None, if◌then◌else◌}
use Rattle.std.proofs.lemmas.Bool.{and_parts}
use Rattle.mini_model.specs.Tree.{Tree, Trees, count, child_or_absent, children, shape_of}
use Rattle.mini_kept.specs.Without.{Assured}
use Rattle.mini_node.specs.Children.{names_of, part}
use Rattle.mini_node.specs.Kinds.{is_listed_shape}
use Rattle.mini_rows.specs.Unused.{is_constant, may_move}
use Rattle.mini_rows.specs.Switches.{Liberties}
use Rattle.mini_unused.specs.RemoveUnusedDeclaration.{declares_list, declares_name, is_free_at, is_lexical_shape, is_var, list_at, may_declare, may_lose}
use Rattle.mini_unused.specs.SubstituteNext.{is_declarator}
use Rattle.mini_unused.proofs.Unused.{and_both, not_true}
use Rattle.mini_past.specs.SubstitutePast.{may_pass, may_pass_by, is_read_past_then, is_past_by, is_past_by_next, is_past_next, PastNextIn, PastNextOf}

module _ (V : Assured) (W : Liberties) (o : Tree) (ts : Trees) (i : ℕ) where
  pub next_is : (free : Bool) (l : Tree) (j : ℕ) → is_past_by V free W (part l j) (part l (j + 1)) o (children l) j ts i ≡ is_past_by_next V free W l j o ts i
  next_is free l j = ap (λ k. is_past_by V free W (part l j) (part l k) o (children l) j ts i) (add-one j)

  pub none_of : may_declare o (child_or_absent ts i) ≡ false → PastNextOf V W o ts i None
  none_of e j h = ap (λ b. b && is_past_by_next V (is_free_at ts i) W (list_at ts i) j o ts i) e

  pub of_list : (f : Option ℕ) → may_declare o (child_or_absent ts i) ≡ true → 0 < count (children (child_or_absent ts i)) → PastNextIn V (is_free_at ts i) W (list_at ts i) o ts i f → PastNextOf V W o ts i f
  of_list (Some j) e h u = (h, u.0, and_both (may_declare o (child_or_absent ts i)) (is_past_by_next V (is_free_at ts i) W (list_at ts i) j o ts i) e u.1)
  of_list None e h u = λ j g. ap (λ b. b && is_past_by_next V (is_free_at ts i) W (list_at ts i) j o ts i) e ∙ u j g

  -- of a statement that was looked at
  pub of_statement : (statement l : Tree) (free : Bool) (f : Option ℕ) → statement ≡ child_or_absent ts i → may_declare o statement ≡ true → 0 < count (children statement) → l ≡ part statement 0 → free ≡ is_lexical_shape (shape_of statement) → PastNextIn V free W l o ts i f → PastNextOf V W o ts i f
  of_statement statement l free f s e h g z u =
      let there : l ≡ list_at ts i = g ∙ ap (λ t. part t 0) s in
      let is_free : free ≡ is_free_at ts i = z ∙ ap (λ t. is_lexical_shape (shape_of t)) s in
      of_list f (sym (ap (may_declare o) s) ∙ e) (subst (λ t. 0 < count (children t)) s h) (subst (λ b. PastNextIn V b W (list_at ts i) o ts i f) is_free (subst (λ t. PastNextIn V free W t o ts i f) there u))

-- what it has
pub record Found (V : Assured) (W : Liberties) (o : Tree) (ts : Trees) (i j : ℕ) : Type 0 where
  pub declares : may_declare o (child_or_absent ts i) ≡ true
  pub declared : declares_list (child_or_absent ts i) ≡ true
  pub one : declares_name (part (list_at ts i) j) ≡ true
  pub next : is_declarator (part (list_at ts i) (suc j)) ≡ true
  pub lost : may_lose (is_free_at ts i) W (names_of (part (part (list_at ts i) j) 0)) ≡ true
  pub moves : may_move W.switches (part (part (list_at ts i) j) 1) ≡ true
  pub varies : is_constant (part (part (list_at ts i) j) 1) ≡ false
  pub read : is_read_past_then V (names_of (part (part (list_at ts i) j) 0)) (part (list_at ts i) j) (part (list_at ts i) (suc j)) o (children (list_at ts i)) j ts i ≡ true

-- a declaration from which names may go is one
pub declaring : (o t : Tree) → may_declare o t ≡ true → declares_list t ≡ true
declaring o t e = by (is_listed_shape (shape_of o)) e
  where
    by : (b : Bool) → (if b then is_var t else declares_list t) ≡ true → declares_list t ≡ true
    by true e = (and_parts (declares_list t) (not (is_lexical_shape (shape_of t))) e).0
    by false e = e

-- of a declarator whose initializer may pass
pub passing : (free : Bool) (W : Liberties) (d : Tree) → may_pass_by free W d ≡ true → (declares_name d ≡ true) × (may_lose free W (names_of (part d 0)) ≡ true) × (may_move W.switches (part d 1) ≡ true) × (is_constant (part d 1) ≡ false)
passing free W d e =
    let lost = may_lose free W (names_of (part d 0)) in
    let (a, p) = and_parts (declares_name d) (lost && may_pass W.switches (part d 1)) e in
    let (b, q) = and_parts lost (may_pass W.switches (part d 1)) p in
    let (c, r) = and_parts (may_move W.switches (part d 1)) (not (is_constant (part d 1))) q in
    (a, b, c, not_true (is_constant (part d 1)) r)

pub found : (V : Assured) (W : Liberties) (o : Tree) (ts : Trees) (i j : ℕ) → is_past_next V W o ts i j ≡ true → Found V W o ts i j
found V W o ts i j e =
    let l = list_at ts i in
    let passes = may_pass_by (is_free_at ts i) W (part l j) in
    let read = is_read_past_then V (names_of (part (part l j) 0)) (part l j) (part l (suc j)) o (children l) j ts i in
    let (a, p) = and_parts (may_declare o (child_or_absent ts i)) (is_declarator (part l (suc j)) && (passes && read)) e in
    let (b, q) = and_parts (is_declarator (part l (suc j))) (passes && read) p in
    let (c, r) = and_parts passes read q in
    let (f, g, h, k) = passing (is_free_at ts i) W (part l j) c in
    record { declares = a; declared = declaring o (child_or_absent ts i) a; one = f; next = b; lost = g; moves = h; varies = k; read = r }

pub declares_there : (V : Assured) (W : Liberties) (o : Tree) (ts : Trees) (i j : ℕ) → PastNextOf V W o ts i (Some j) → declares_name (part (list_at ts i) j) ≡ true
declares_there V W o ts i j n = (found V W o ts i j n.2).one

pub next_declares_there : (V : Assured) (W : Liberties) (o : Tree) (ts : Trees) (i j : ℕ) → PastNextOf V W o ts i (Some j) → is_declarator (part (list_at ts i) (j + 1)) ≡ true
next_declares_there V W o ts i j n = ap (λ k. is_declarator (part (list_at ts i) k)) (add-one j) ∙ (found V W o ts i j n.2).next
