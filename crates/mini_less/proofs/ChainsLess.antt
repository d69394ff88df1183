-- Rows of optional chains ask less.
use Rattle.std.specs.Prelude.{◌≡◌, refl, Bool, true, false, List, [], ◌∷◌, pos, if◌then◌else◌}
use Rattle.std.proofs.Common.{inl, inr, ap, ◌∙◌, sym, subst}
use Rattle.mini_model.specs.declared.operator.BinaryOperator.TheVariants as binary_operator
use Rattle.mini_model.specs.declared.place.Position.TheVariants.{Expr}
use Rattle.mini_model.specs.declared.seat.Guard.{Guard}
use Rattle.mini_model.specs.declared.seat.Seat.{Seat}
use Rattle.mini_model.specs.declared.shape.Shape.TheVariants as shape
use Rattle.mini_model.specs.Tree.{Tree, Trees, node, none, ◌▸◌, listed, shape_of, identifier, null_literal}
use Rattle.mini_laws.specs.ScopeList.{is_eval_callee}
use Rattle.mini_terms.specs.Exact.{is_guarded, by_value, kept_by_value}
use Rattle.mini_rows.specs.ChainEnds.{EndRow}
use Rattle.mini_rows.specs.ChainLinks.{Marked, marked, links_over, has_mark, chain_if, is_lone, Row64, Row11, ChainRow}
use Rattle.mini_rows.specs.Chains.{Link, a_member, a_computed, a_call, linked, spine, chain, if_nullish, Row46Chain}
use Rattle.mini_rows.specs.Sketches.{Conditional, Sequence, Call, StaticMember, ComputedMember, Chain, Head, shape_by, is_expression_head, Asked, AsValue, AsValues}
use Rattle.mini_rows.specs.Spellings.{binary, numeral, void_zero}
use Rattle.mini_rows.proofs.ArrangedValues.{is_value}
use Rattle.mini_less.specs.Families.{LessAt}
use Rattle.mini_less.specs.Less.{Plain}
use Rattle.mini_less.proofs.Made.{ByParts, made_less}
use Rattle.mini_less.proofs.Nodes.{conditional_parts, a_sequence, a_number, a_void, made_under, MadeOf}

-- ---- it is an expression, and no name

abbrev pub IsBuilt : Tree → Type 0
IsBuilt t = (is_value (shape_of t) ≡ true) × (is_eval_callee t ≡ false)

pub linked_built : (b : Bool) (k : Link) (t : Tree) → IsBuilt (linked b k t)
linked_built b (a_member k) t = (refl, refl)
linked_built b (a_computed k) t = (refl, refl)
linked_built b (a_call ts) t = (refl, refl)

spine_built : (b : Bool) (x : Tree) (k : Link) (ls : List Link) → IsBuilt (spine b x k ls)
spine_built b x k [] = linked_built b k x
spine_built b x k (m ∷ ls) = linked_built false k (spine b x m ls)

over_built : (ms : List Marked) (t : Tree) → IsBuilt t → IsBuilt (links_over ms t)
over_built [] t e = e
over_built (marked o k ∷ ms) t e = linked_built o k (links_over ms t)

module _ (Q : Asked → Tree → Type 0) (l : ByParts Q) where
  -- a link stands over another tree, which may be called, and is optional or not
  linked_parts : (b : Bool) (k : Link) (t : Tree) → Q AsValue (linked b k t) → Q AsValue t × ((c : Bool) (u : Tree) → l.Called u → Q AsValue u → Q AsValue (linked c k u))
  linked_parts b (a_member k) t y =
      let (x, z) = l.down (StaticMember b) refl AsValue (t ▸ k ▸ none) tt y in
      (x, λ c u h q. l.up (StaticMember c) refl AsValue (u ▸ k ▸ none) tt (q, z))
  linked_parts b (a_computed k) t y =
      let (x, z) = l.down (ComputedMember b) refl AsValue (t ▸ k ▸ none) tt y in
      (x, λ c u h q. l.up (ComputedMember c) refl AsValue (u ▸ k ▸ none) tt (q, z))
  linked_parts true (a_call ts) t y =
      let (x, (z, v)) = l.down (Call true) refl AsValue (t ▸ listed ts ▸ none) tt y in
      (x, called z)
    where
      called : Q AsValues (listed ts) → (c : Bool) (u : Tree) → l.Called u → Q AsValue u → Q AsValue (linked c (a_call ts) u)
      called z true u h q = l.up (Call true) refl AsValue (u ▸ listed ts ▸ none) tt (q, (z, tt))
      called z false u h q = l.call_up AsValue u (listed ts) h q z
  linked_parts false (a_call ts) t y =
      let (k, (x, z)) = l.call_down AsValue t (listed ts) y in
      (x, called z)
    where
      called : Q AsValues (listed ts) → (c : Bool) (u : Tree) → l.Called u → Q AsValue u → Q AsValue (linked c (a_call ts) u)
      called z true u h q = l.up (Call true) refl AsValue (u ▸ listed ts ▸ none) tt (q, (z, tt))
      called z false u h q = l.call_up AsValue u (listed ts) h q z

  -- where the first link over a tree becomes optional, over another
  pub spine_made : (x : Tree) (k : Link) (ls : List Link) → Q AsValue (spine false x k ls) → Q AsValue x × ((u : Tree) → l.Called u → Q AsValue u → Q AsValue (spine true u k ls))
  spine_made x k [] y = let (z, f) = linked_parts false k x y in (z, λ u h q. f true u h q)
  spine_made x k (m ∷ ls) y =
      let (z, f) = linked_parts false k (spine false x m ls) y in
      let (v, g) = spine_made x m ls z in
      (v, λ u h q. f false (spine true u m ls) (l.nameless (spine true u m ls) (spine_built true u m ls).1) (g u h q))

  over_made : (ms : List Marked) (t : Tree) → Q AsValue (links_over ms t) → Q AsValue t × ((u : Tree) → is_eval_callee u ≡ false → IsBuilt u → Q AsValue u → Q AsValue (links_over ms u))
  over_made [] t y = (y, λ u h e q. q)
  over_made (marked o k ∷ ms) t y =
      let (z, f) = linked_parts o k (links_over ms t) y in
      let (v, g) = over_made ms t z in
      (v, λ u h e q. f o (links_over ms u) (l.nameless (links_over ms u) (over_built ms u e).1) (g u h e q))

  pub chain_part : (t : Tree) → Q AsValue (chain t) → Q AsValue t
  chain_part t y = (l.down Chain refl AsValue (t ▸ none) tt y).0

  pub a_chain : (t : Tree) → Q AsValue t → Q AsValue (chain t)
  a_chain t y = l.up Chain refl AsValue (t ▸ none) tt (y, tt)

  pub guarded_made : (g : Guard) (t : Tree) → Q AsValue t → Q AsValue (kept_by_value g t)
  guarded_made g t y = by (is_guarded g t)
    where
      by : (b : Bool) → Q AsValue (if b then by_value t else t)
      by true = a_sequence Q l (numeral (pos 0) ▸ (t ▸ none)) (a_number Q l (pos 0), (y, tt))
      by false = y

pub guarded_built : (g : Guard) (t : Tree) → IsBuilt t → IsBuilt (kept_by_value g t)
guarded_built g t e = by (is_guarded g t)
  where
    by : (b : Bool) → IsBuilt (if b then by_value t else t)
    by true = (refl, refl)
    by false = e

pub lone_there : (t : Tree) → is_lone t ≡ true → is_eval_callee t ≡ false
lone_there (node shape.Identifier xs n ts) e = absurd (cc e)
lone_there (node h xs n ts) e = refl

chain_if_built : (b : Bool) (t : Tree) → IsBuilt t → IsBuilt (chain_if b t)
chain_if_built true t e = (refl, refl)
chain_if_built false t e = e

module _ (q : Seat) (n w : Tree) where
  -- what is written is an expression, and no name
  pub built_less : (h : Head) (ts : Trees) → is_expression_head h ≡ true → n ≡ node (shape_by h) [] 0 ts → Plain h ts → (t : Tree) → w ≡ t → IsBuilt t → MadeOf n w → LessAt (Expr q) n w
  built_less h ts e a p t b i made = made_less q n w h ts e a p (λ strict x k. ap (λ t. is_value (shape_of t)) b ∙ i.0) made (λ j. ap is_eval_callee b ∙ i.1)

  pub chain_less : Row46Chain q n w → LessAt (Expr q) n w
  chain_less r = by r.equal r.shape
    where
      over_name : (Q : Asked → Tree → Type 0) → ByParts Q → Q AsValue (spine false (identifier r.name) r.last r.others) → Q AsValue w
      over_name Q l y =
          let (x, f) = spine_made Q l (identifier r.name) r.last r.others y in
          subst (Q AsValue) (sym r.written) (guarded_made Q l q.guard (chain (spine true (identifier r.name) r.last r.others)) (a_chain Q l (spine true (identifier r.name) r.last r.others) (f (identifier r.name) (l.nameless (identifier r.name) r.indirect) x)))

      written : IsBuilt (kept_by_value q.guard (chain (spine true (identifier r.name) r.last r.others)))
      written = guarded_built q.guard (chain (spine true (identifier r.name) r.last r.others)) (refl, refl)

      by : (b : Bool) → n ≡ if_nullish b r.name r.missing (spine false (identifier r.name) r.last r.others) → LessAt (Expr q) n w
      by true e = built_less Conditional (binary binary_operator.Equality (identifier r.name) null_literal ▸ r.missing ▸ spine false (identifier r.name) r.last r.others ▸ none) refl e tt (kept_by_value q.guard (chain (spine true (identifier r.name) r.last r.others))) r.written written (λ strict x k Q l y. over_name Q l (conditional_parts Q l (binary binary_operator.Equality (identifier r.name) null_literal) r.missing (spine false (identifier r.name) r.last r.others) (subst (Q AsValue) e y)).1.1)
      by false e = built_less Conditional (binary binary_operator.Inequality (identifier r.name) null_literal ▸ spine false (identifier r.name) r.last r.others ▸ r.missing ▸ none) refl e tt (kept_by_value q.guard (chain (spine true (identifier r.name) r.last r.others))) r.written written (λ strict x k Q l y. over_name Q l (conditional_parts Q l (binary binary_operator.Inequality (identifier r.name) null_literal) (spine false (identifier r.name) r.last r.others) r.missing (subst (Q AsValue) e y)).1.0)

  joined_less : Row64 n w → LessAt (Expr q) n w
  joined_less r =
      made_under q n w Chain (links_over r.others (linked true r.link (chain r.inner)) ▸ none) refl r.shape tt Chain (links_over r.others (linked true r.link r.inner) ▸ none) refl r.written (λ strict x k Q l y.
      let (z, f) = over_made Q l r.others (linked true r.link (chain r.inner)) (chain_part Q l (links_over r.others (linked true r.link (chain r.inner))) (subst (Q AsValue) r.shape y)) in
      let (v, g) = linked_parts Q l true r.link (chain r.inner) z in
      let e = linked_built true r.link r.inner in
      subst (Q AsValue) (sym r.written) (a_chain Q l (links_over r.others (linked true r.link r.inner)) (f (linked true r.link r.inner) e.1 e (optional_over Q l r.link (chain r.inner) r.inner z (chain_part Q l r.inner v)))))
    where
      -- an optional call asks nothing more of what is called
      optional_over : (Q : Asked → Tree → Type 0) (l : ByParts Q) (k : Link) (t u : Tree) → Q AsValue (linked true k t) → Q AsValue u → Q AsValue (linked true k u)
      optional_over Q l (a_member k) t u y z = l.up (StaticMember true) refl AsValue (u ▸ k ▸ none) tt (z, (l.down (StaticMember true) refl AsValue (t ▸ k ▸ none) tt y).1)
      optional_over Q l (a_computed k) t u y z = l.up (ComputedMember true) refl AsValue (u ▸ k ▸ none) tt (z, (l.down (ComputedMember true) refl AsValue (t ▸ k ▸ none) tt y).1)
      optional_over Q l (a_call ts) t u y z = l.up (Call true) refl AsValue (u ▸ listed ts ▸ none) tt (z, (l.down (Call true) refl AsValue (t ▸ listed ts ▸ none) tt y).1)

  there_less : Row11 q n w → LessAt (Expr q) n w
  there_less r =
      let e = linked_built false r.link r.base in
      built_less Chain (links_over r.others (linked true r.link r.base) ▸ none) refl r.shape tt (chain_if (has_mark r.others) (links_over r.others (linked false r.link r.base))) r.written (chain_if_built (has_mark r.others) (links_over r.others (linked false r.link r.base)) (over_built r.others (linked false r.link r.base) e)) (λ strict x k Q l y.
      let (z, f) = over_made Q l r.others (linked true r.link r.base) (chain_part Q l (links_over r.others (linked true r.link r.base)) (subst (Q AsValue) r.shape y)) in
      let (v, g) = linked_parts Q l true r.link r.base z in
      subst (Q AsValue) (sym r.written) (put Q l (has_mark r.others) (links_over r.others (linked false r.link r.base)) (f (linked false r.link r.base) e.1 e (g false r.base (l.nameless r.base (lone_there r.base r.value)) v))))
    where
      put : (Q : Asked → Tree → Type 0) → ByParts Q → (b : Bool) (t : Tree) → Q AsValue t → Q AsValue (chain_if b t)
      put Q l true t y = a_chain Q l t y
      put Q l false t y = y

  pub chains_less : ChainRow q n w → LessAt (Expr q) n w
  chains_less (inl r) = joined_less r
  chains_less (inr r) = there_less r

  pub ends_less : EndRow n w → LessAt (Expr q) n w
  ends_less (inl r) = built_less Chain (links_over r.others (linked true r.link r.base) ▸ none) refl r.shape tt void_zero r.written (refl, refl) (λ strict x k Q l y. subst (Q AsValue) (sym r.written) (a_void Q l))
  ends_less (inr r) =
      made_under q n w Chain (links_over r.others (linked true r.link r.base) ▸ none) refl r.shape tt Sequence (listed (r.base ▸ void_zero ▸ none) ▸ none) refl r.written (λ strict x k Q l y.
      let (z, f) = over_made Q l r.others (linked true r.link r.base) (chain_part Q l (links_over r.others (linked true r.link r.base)) (subst (Q AsValue) r.shape y)) in
      subst (Q AsValue) (sym r.written) (a_sequence Q l (r.base ▸ void_zero ▸ none) ((linked_parts Q l true r.link r.base z).0, (a_void Q l, tt))))
