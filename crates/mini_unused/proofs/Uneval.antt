-- Where a name goes from a list of statements without a direct eval, none comes about.
use Rattle.std.proofs.Common.{◌≡◌, ℕ, zero, suc, Bool, true, false, List, [], ◌∷◌, refl, sym, ap, ◌∙◌, subst, inl, inr, true≢false}
use Rattle.std.specs.Prelude.{not, ◌&&◌, ◌||◌, ◌⊎◌, if◌then◌else◌}
use Rattle.std.proofs.lemmas.Bool.{and_parts}
use Rattle.mini_model.specs.declared.kind.PropertyKind.TheVariants.{Init}
use Rattle.mini_model.specs.declared.kind.VariableDeclarationKind.{VariableDeclarationKind}
use Rattle.mini_model.specs.declared.kind.VariableDeclarationKind.TheVariants.{Var}
use Rattle.mini_model.specs.declared.name.Name.{Name}
use Rattle.mini_model.specs.declared.shape.Shape.{Shape}
use Rattle.mini_model.specs.declared.shape.Shape.TheVariants as shape
use Rattle.mini_model.specs.Tree.{Tree, Trees, node, none, ◌▸◌, absent, listed, shape_of, children, child_or_absent, empty_statement, expression_statement}
use Rattle.mini_laws.specs.ScopeList.{has_eval, any_has_eval, is_eval, is_eval_call, is_eval_callee}
use Rattle.mini_node.specs.Children.{names_of, part, with_child, with_part, without, is_bare, is_nameless}
use Rattle.mini_node.specs.Kinds.{is_listed}
use Rattle.mini_rows.specs.Lists.{declaration, Each, EachIn, EachOf, each_loop}
use Rattle.mini_rows.specs.Unused.{is_short, can_be_full, in_full, may_hold, is_idle, any_names, names, begins, goes_on, may_go_on, has_branches, leads, holds_list, is_childless, is_first, leads_to, put_first, put_among, is_reached, passes_at, is_called_by_value, suits, are_passed, are_passed_in, all_passed, is_head_shape, reads_first, reads_head, evaluated, reads_hidden, evaluated_hidden, takes, may_move, gathered_below}
use Rattle.mini_unused.specs.RemoveUnusedDeclaration.{declares_list, may_declare, declares_name, may_lose, is_free_at, is_unused_declarator, list_at, statement_left, let_left}
use Rattle.mini_rows.specs.declared.gathered.Gathered.{Gathered}
use Rattle.mini_rows.specs.declared.gathered.Gathered.TheVariants.{Values as OfValues}
use Rattle.mini_rows.specs.Declarations.{declarator}
use Rattle.mini_unused.specs.SubstituteNext.{reads_then, put_named, is_declarator, is_mentioned_beside, is_mentioned_elsewhere, is_read_then, declarators_next, NextGone}
use Rattle.mini_unused.specs.SubstituteSingleUse.{declaration_left, last_place, reads_next, is_declared_over, is_mentioned_around, is_read_once, NameGone, ReadGone, Gone}
use Rattle.mini_rows.proofs.Sunk.{value_passed}
use Rattle.mini_rows.proofs.ListKeptHeads.{Seat, Loop, Choice, seated}
use Rattle.mini_rows.proofs.HiddenHeads.{for_initial, Hidden, hidden, Taken, taken}
use Rattle.mini_rows.proofs.SingleUse.{Initial, as_initial, Heads, heads, mentioned}
use Rattle.mini_rows.specs.Switches.{Liberties}
use Rattle.mini_unused.proofs.NextUses.{found, next_child_left}
use Rattle.mini_unused.proofs.Unused.{a_declaration, declarator_is, declared_there, not_true}

pub neither : (a b : Bool) → (a || b) ≡ false → (a ≡ false) × (b ≡ false)
neither true b e = absurd (true≢false e)
neither false b e = (refl, e)

pub both_not : (a b : Bool) → a ≡ false → b ≡ false → (a || b) ≡ false
both_not a b e f = ap (λ c. c || b) e ∙ f

-- ---- nodes and their children

opened : (t : Tree) → has_eval t ≡ (is_eval_call (shape_of t) (children t) || any_has_eval (children t))
unfolding has_eval
opened (node h xs n ts) = refl

any_opened : (t : Tree) (ts : Trees) → any_has_eval (t ▸ ts) ≡ (has_eval t || any_has_eval ts)
unfolding has_eval
any_opened t ts = refl

nothing_there : any_has_eval none ≡ false
unfolding has_eval
nothing_there = refl

absent_there : has_eval absent ≡ false
unfolding has_eval
absent_there = refl

over : (t : Tree) → is_eval_call (shape_of t) (children t) ≡ false → any_has_eval (children t) ≡ false → has_eval t ≡ false
over t e f = opened t ∙ both_not (is_eval_call (shape_of t) (children t)) (any_has_eval (children t)) e f

below : (t : Tree) → has_eval t ≡ false → any_has_eval (children t) ≡ false
below t e = (neither (is_eval_call (shape_of t) (children t)) (any_has_eval (children t)) (sym (opened t) ∙ e)).1

first_and_others : (t : Tree) (ts : Trees) → any_has_eval (t ▸ ts) ≡ false → (has_eval t ≡ false) × (any_has_eval ts ≡ false)
first_and_others t ts e = neither (has_eval t) (any_has_eval ts) (sym (any_opened t ts) ∙ e)

all_of : (t : Tree) (ts : Trees) → has_eval t ≡ false → any_has_eval ts ≡ false → any_has_eval (t ▸ ts) ≡ false
all_of t ts e f = any_opened t ts ∙ both_not (has_eval t) (any_has_eval ts) e f

child_of : (ts : Trees) (i : ℕ) → any_has_eval ts ≡ false → has_eval (child_or_absent ts i) ≡ false
child_of none i e = absent_there
child_of (t ▸ ts) zero e = (first_and_others t ts e).0
child_of (t ▸ ts) (suc i) e = child_of ts i (first_and_others t ts e).1

pub part_of : (t : Tree) (i : ℕ) → has_eval t ≡ false → has_eval (part t i) ≡ false
part_of t i e = child_of (children t) i (below t e)

with_one : (ts : Trees) (i : ℕ) (x : Tree) → any_has_eval ts ≡ false → has_eval x ≡ false → any_has_eval (with_child ts i x) ≡ false
with_one none i x e f = e
with_one (t ▸ ts) zero x e f = all_of x ts f (first_and_others t ts e).1
with_one (t ▸ ts) (suc i) x e f = let (a, b) = first_and_others t ts e in all_of t (with_child ts i x) a (with_one ts i x b f)

without_one : (ts : Trees) (i : ℕ) → any_has_eval ts ≡ false → any_has_eval (without ts i) ≡ false
without_one none i e = e
without_one (t ▸ ts) zero e = (first_and_others t ts e).1
without_one (t ▸ ts) (suc i) e = let (a, b) = first_and_others t ts e in all_of t (without ts i) a (without_one ts i b)

-- ---- what is left of a declaration

no_statement : has_eval empty_statement ≡ false
unfolding has_eval
no_statement = refl

by_expression : (t : Tree) → has_eval t ≡ false → has_eval (expression_statement t) ≡ false
by_expression t e = over (expression_statement t) refl (all_of t none e nothing_there)

of_list : (ts : Trees) → any_has_eval ts ≡ false → has_eval (listed ts) ≡ false
of_list ts e = over (listed ts) refl e

declared : (k : VariableDeclarationKind) (ds : Trees) → any_has_eval ds ≡ false → has_eval (declaration k ds) ≡ false
declared k ds e = over (declaration k ds) refl (all_of (listed ds) none (of_list ds e) nothing_there)

chosen : (b : Bool) (t u : Tree) → has_eval t ≡ false → has_eval u ≡ false → has_eval (if b then t else u) ≡ false
chosen true t u e f = e
chosen false t u e f = f

let_without : (t : Tree) (j : ℕ) → declares_list t ≡ true → has_eval t ≡ false → has_eval (let_left t j) ≡ false
let_without t j d e =
    let (k, is) = a_declaration t d in
    ap (λ u. has_eval (let_left u j)) is ∙ declared k (without (children (part t 0)) j) (without_one (children (part t 0)) j (below (part t 0) (part_of t 0 e)))

statement_without : (t : Tree) (j : ℕ) → declares_list t ≡ true → has_eval t ≡ false → has_eval (statement_left t j) ≡ false
statement_without t j d e =
    let init = part (part (part t 0) j) 1 in
    chosen (is_idle init) (if is_bare (part t 0) 1 then empty_statement else let_left t j) (expression_statement init)
    (chosen (is_bare (part t 0) 1) empty_statement (let_left t j) no_statement (let_without t j d e))
    (by_expression init (part_of (part (part t 0) j) 1 (part_of (part t 0) j (part_of t 0 e))))

pub declaration_without : (t : Tree) (j : ℕ) → declares_list t ≡ true → has_eval t ≡ false → has_eval (declaration_left t j) ≡ false
declaration_without t j d e = chosen (is_bare (part t 0) 1) empty_statement (let_left t j) no_statement (let_without t j d e)

-- ---- what has another tree in the place of what is read first: no callee that is a name

begun : (h : Shape) (c : Tree) → begins h c ≡ true → (xs : List Name) (n : ℕ) (ts : Trees) → is_eval_callee (node h xs n ts) ≡ false
begun shape.Identifier c e xs n ts = absurd (true≢false (sym e))
begun h c e xs n ts = refl

gone_on : (h : Shape) → (goes_on h || may_go_on h) ≡ true → (xs : List Name) (n : ℕ) (ts : Trees) → is_eval_callee (node h xs n ts) ≡ false
gone_on shape.Identifier e xs n ts = absurd (true≢false (sym e))
gone_on h e xs n ts = refl

branched : (h : Shape) → has_branches h ≡ true → (xs : List Name) (n : ℕ) (ts : Trees) → is_eval_callee (node h xs n ts) ≡ false
branched shape.Identifier e xs n ts = absurd (true≢false (sym e))
branched h e xs n ts = refl

led_by : (h : Shape) (i : ℕ) (c : Tree) → leads false h i c ≡ true → (xs : List Name) (n : ℕ) (ts : Trees) → is_eval_callee (node h xs n ts) ≡ false
led_by h zero c e = begun h c e
led_by h (suc zero) c e = gone_on h e
led_by h (suc (suc zero)) c e = branched h e
led_by h (suc (suc (suc i))) c e = absurd (true≢false (sym e))

-- of some parts from a place on, the one that leads there
record Leading (x : Name) (h : Shape) (i : ℕ) (ts : Trees) : Type 0 where
  at : ℕ
  part : Tree
  leads : leads false h at part ≡ true

leading : (x : Name) (h : Shape) (i : ℕ) (ts : Trees) → leads_to x false h i ts ≡ true → Leading x h i ts
leading x h i none e = absurd (true≢false (sym e))
leading x h i (t ▸ ts) e = by (names x t) e (leading x h (suc i) ts)
  where
    by : (c : Bool) → (if c then (leads false h i t && (is_first x (holds_list h i) t && not (any_names x ts))) else leads_to x false h (suc i) ts) ≡ true → (leads_to x false h (suc i) ts ≡ true → Leading x h (suc i) ts) → Leading x h i (t ▸ ts)
    by true e f = record { at = i; part = t; leads = (and_parts (leads false h i t) (is_first x (holds_list h i) t && not (any_names x ts)) e).0 }
    by false e f = let l = f e in record { at = l.at; part = l.part; leads = l.leads }

-- what holds of a property in full, and of what is no shorthand
by_full : (P : Shape → Type 0) → P (shape.ObjectProperty Init false false false) → (h : Shape) → P h → P (in_full h)
by_full P f h p = by (is_short h)
  where
    by : (b : Bool) → P (if b then shape.ObjectProperty Init false false false else h)
    by true = f
    by false = p

-- a callee that is no name alone, with the tree in it
callee : (x : Name) (r t : Tree) → is_childless t ≡ false → is_first x false t ≡ true → is_eval_callee (put_first x r t) ≡ false
callee x r (node h ys n none) c e = absurd (true≢false c)
callee x r (node h ys n (t ▸ ts)) c e =
    let l = leading x h 0 (t ▸ ts) (and_parts (may_hold (node h ys n (t ▸ ts))) (leads_to x false h 0 (t ▸ ts)) e).1 in
    by_full (λ k. is_eval_callee (node k ys n (put_among x r (t ▸ ts))) ≡ false) refl h (led_by h l.at l.part l.leads ys n (put_among x r (t ▸ ts)))

-- ---- the tree may stand in each place on the way to the read

abbrev mutual
  pub suits_along : Name → Tree → Tree → Bool
  suits_along x r (node h ys n ts) = suits x r h ts && suits_among x r ts

  pub suits_among : Name → Tree → Trees → Bool
  suits_among x r none = true
  suits_among x r (t ▸ ts) = if names x t then suits_along x r t else suits_among x r ts

mutual
  pub passed_along : (x : Name) (m : Gathered) (r t : Tree) → are_passed_in x m r t ≡ true → suits_along x r t ≡ true
  passed_along x m r (node h ys n ts) e =
      let (a, p) = and_parts (suits x r h ts) (is_reached x m r h ts && all_passed x m r h 0 ts) e in
      let (b, q) = and_parts (is_reached x m r h ts) (all_passed x m r h 0 ts) p in
      ap (λ c. c && suits_among x r ts) a ∙ passed_among x m r h 0 ts q

  passed_among : (x : Name) (m : Gathered) (r : Tree) (h : Shape) (i : ℕ) (ts : Trees) → all_passed x m r h i ts ≡ true → suits_among x r ts ≡ true
  passed_among x m r h i none e = refl
  passed_among x m r h i (t ▸ ts) e = by (names x t) e (passed_along x (gathered_below m h i) r t) (passed_among x m r h (suc i) ts)
    where
      by : (c : Bool) → (if c then are_passed_in x (gathered_below m h i) r t else (passes_at m r h i t && all_passed x m r h (suc i) ts)) ≡ true → (are_passed_in x (gathered_below m h i) r t ≡ true → suits_along x r t ≡ true) → (all_passed x m r h (suc i) ts ≡ true → suits_among x r ts ≡ true) → (if c then suits_along x r t else suits_among x r ts) ≡ true
      by true e f g = f e
      by false e f g = g (and_parts (passes_at m r h i t) (all_passed x m r h (suc i) ts) e).1

indirect : (r : Tree) → is_called_by_value r ≡ true → is_eval_callee r ≡ false
indirect (node shape.Identifier xs n ts) e = not_true (is_eval xs) e
indirect (node h xs n ts) e = refl

-- so is one that is
called_there : (x : Name) (r t : Tree) → is_first x false t ≡ true → names x t ≡ true → (not (is_childless t && names x t) || is_called_by_value r) ≡ true → is_eval_callee (put_first x r t) ≡ false
called_there x r (node h ys n none) e f s = indirect r (sym (ap (λ c. not c || is_called_by_value r) f) ∙ s)
called_there x r (node h ys n (t ▸ ts)) e f s = callee x r (node h ys n (t ▸ ts)) refl e

-- a call is none of `eval`
called : (x : Name) (b : Bool) (h : Shape) (r t : Tree) (ts us : Trees) → leads b h 0 t ≡ true → is_first x (holds_list h 0) t ≡ true → names x t ≡ true → suits x r h (t ▸ ts) ≡ true → is_eval_call h (put_first x r t ▸ us) ≡ false
called x true (shape.CallExpression false) r t ts us e f n s = absurd (true≢false (sym e))
called x false (shape.CallExpression false) r t ts us e f n s = called_there x r t f n (and_parts (not (is_childless t && names x t) || is_called_by_value r) true s).0
called x b h r t ts us e f n s = refl

same_callee : (h : Shape) (t : Tree) (ts us : Trees) → is_eval_call h (t ▸ ts) ≡ false → is_eval_call h (t ▸ us) ≡ false
same_callee (shape.CallExpression false) t ts us e = e
same_callee h t ts us e = refl

no_callee : (h : Shape) (t : Tree) (ts : Trees) → has_eval (node h [] 0 (t ▸ ts)) ≡ false → is_eval_call h (t ▸ ts) ≡ false
unfolding has_eval
no_callee h t ts e = (either_not (is_eval_call h (t ▸ ts)) (any_has_eval (t ▸ ts)) e).0
  where
    either_not : (a b : Bool) → (a || b) ≡ false → (a ≡ false) × (b ≡ false)
    either_not true b e = absurd (true≢false e)
    either_not false b e = (refl, e)

mutual
  pub put_there : (x : Name) (b : Bool) (r t : Tree) → is_first x b t ≡ true → suits_along x r t ≡ true → has_eval r ≡ false → has_eval t ≡ false → has_eval (put_first x r t) ≡ false
  put_there x b r (node h ys n none) f s e g = e
  put_there x b r (node h [] zero (t ▸ ts)) f s e g =
      let (o, i) = and_parts (suits x r h (t ▸ ts)) (suits_among x r (t ▸ ts)) s in
      let q = (and_parts (can_be_full (node h [] 0 (t ▸ ts))) (leads_to x b h 0 (t ▸ ts)) f).1 in
      let (a, c) = put_in x b h 0 r (t ▸ ts) q i e (below (node h [] 0 (t ▸ ts)) g) in
      over (node (in_full h) [] 0 (put_among x r (t ▸ ts))) (by_full (λ k. is_eval_call k (put_among x r (t ▸ ts)) ≡ false) refl h (by (names x t) refl q o)) a
    where
      by : (c : Bool) → names x t ≡ c → (if c then (leads b h 0 t && (is_first x (holds_list h 0) t && not (any_names x ts))) else leads_to x b h 1 ts) ≡ true → suits x r h (t ▸ ts) ≡ true → is_eval_call h (put_among x r (t ▸ ts)) ≡ false
      by true n f o =
          let (l, p) = and_parts (leads b h 0 t) (is_first x (holds_list h 0) t && not (any_names x ts)) f in
          ap (λ c. is_eval_call h (if c then put_first x r t ▸ ts else t ▸ put_among x r ts)) n ∙ called x b h r t ts ts l (and_parts (is_first x (holds_list h 0) t) (not (any_names x ts)) p).0 n o
      by false n f o = ap (λ c. is_eval_call h (if c then put_first x r t ▸ ts else t ▸ put_among x r ts)) n ∙ same_callee h t ts (put_among x r ts) (no_callee h t ts g)
  put_there x b r (node h [] (suc n) (t ▸ ts)) f s e g = absurd (true≢false (sym f))
  put_there x b r (node h (y ∷ ys) n (t ▸ ts)) f s e g = absurd (true≢false (sym f))

  put_in : (x : Name) (b : Bool) (h : Shape) (i : ℕ) (r : Tree) (ts : Trees) → leads_to x b h i ts ≡ true → suits_among x r ts ≡ true → has_eval r ≡ false → any_has_eval ts ≡ false → (any_has_eval (put_among x r ts) ≡ false) × (any_has_eval ts ≡ false)
  put_in x b h i r none f s e g = absurd (true≢false (sym f))
  put_in x b h i r (t ▸ ts) f s e g =
      let (a, c) = first_and_others t ts g in
      (by (names x t) refl f s a c (put_there x (holds_list h i) r t) (put_in x b h (suc i) r ts), g)
    where
      by : (c : Bool) → names x t ≡ c → (if c then (leads b h i t && (is_first x (holds_list h i) t && not (any_names x ts))) else leads_to x b h (suc i) ts) ≡ true → (if c then suits_along x r t else suits_among x r ts) ≡ true → has_eval t ≡ false → any_has_eval ts ≡ false
          → (is_first x (holds_list h i) t ≡ true → suits_along x r t ≡ true → has_eval r ≡ false → has_eval t ≡ false → has_eval (put_first x r t) ≡ false) → (leads_to x b h (suc i) ts ≡ true → suits_among x r ts ≡ true → has_eval r ≡ false → any_has_eval ts ≡ false → (any_has_eval (put_among x r ts) ≡ false) × (any_has_eval ts ≡ false)) → any_has_eval (put_among x r (t ▸ ts)) ≡ false
      by true n f s a c one others =
          let (l, p) = and_parts (leads b h i t) (is_first x (holds_list h i) t && not (any_names x ts)) f in
          ap (λ d. any_has_eval (if d then put_first x r t ▸ ts else t ▸ put_among x r ts)) n ∙ all_of (put_first x r t) ts (one (and_parts (is_first x (holds_list h i) t) (not (any_names x ts)) p).0 s e a) c
      by false n f s a c one others = ap (λ d. any_has_eval (if d then put_first x r t ▸ ts else t ▸ put_among x r ts)) n ∙ all_of t (put_among x r ts) a (others f s e c).0

no_call : (h : Shape) → is_head_shape h ≡ true → (ts : Trees) → is_eval_call h ts ≡ false
no_call (shape.CallExpression false) e ts = absurd (true≢false (sym e))
no_call h e ts = refl

head_full : (h : Shape) → is_head_shape h ≡ true → in_full h ≡ h
head_full shape.ExpressionStatement e = refl
head_full shape.ReturnStatement e = refl
head_full shape.ThrowStatement e = refl
head_full shape.IfStatement e = refl
head_full h e = absurd (true≢false (sym e))

first_along : (x : Name) (r t : Tree) (ts : Trees) → names x t ≡ true → suits_among x r (t ▸ ts) ≡ true → suits_along x r t ≡ true
first_along x r t ts n e = sym (ap (λ c. if c then suits_along x r t else suits_among x r ts) n) ∙ e

pub put_in_head : (x : Name) (r t : Tree) → reads_first x t ≡ true → suits_along x r t ≡ true → has_eval r ≡ false → has_eval t ≡ false → has_eval (put_first x r t) ≡ false
put_in_head x r (node h ys n none) f i e g = e
put_in_head x r (node h ys n (t ▸ ts)) f i e g =
    let (l, p) = and_parts (is_head_shape h) (is_nameless (node h ys n (t ▸ ts)) && (is_first x false t && not (any_names x ts))) f in
    let (m, q) = and_parts (is_nameless (node h ys n (t ▸ ts))) (is_first x false t && not (any_names x ts)) p in
    let (s, u) = and_parts (is_first x false t) (not (any_names x ts)) q in
    let (a, c) = first_and_others t ts (below (node h ys n (t ▸ ts)) g) in
    ap (λ k. has_eval (node k ys n (put_among x r (t ▸ ts)))) (head_full h l) ∙ ap (λ d. has_eval (node h ys n (if d then put_first x r t ▸ ts else t ▸ put_among x r ts))) (mentioned x false t s) ∙ over (node h ys n (put_first x r t ▸ ts)) (no_call h l (put_first x r t ▸ ts)) (all_of (put_first x r t) ts (put_there x false r t s (first_along x r t ts (mentioned x false t s) (and_parts (suits x r h (t ▸ ts)) (suits_among x r (t ▸ ts)) i).1) e a) c)

-- in the first initializer of a declaration
put_in_initial : (x : Name) (r t : Tree) (i : Initial x t) → suits_along x r i.value ≡ true → has_eval r ≡ false → has_eval t ≡ false → has_eval (put_first x r t) ≡ false
put_in_initial x r t i s e g =
    let d = declarator i.binds i.value in
    let put = put_first x r i.value in
    let list = below (listed (d ▸ i.last)) (part_of (declaration i.kind (d ▸ i.last)) 0 (sym (ap has_eval i.is) ∙ g)) in
    let (a, b) = first_and_others d i.last list in
    let there = over (declarator i.binds put) refl (all_of i.binds (put ▸ none) (part_of d 0 a) (all_of put none (put_there x false r i.value i.once s e (part_of d 1 a)) nothing_there)) in
    ap has_eval (i.puts r) ∙ declared i.kind (declarator i.binds put ▸ i.last) (all_of (declarator i.binds put) i.last there b)

-- in what opens a scope
put_outside : (c : Seat) (a b : Tree) → (has_eval a ≡ false → has_eval b ≡ false) → has_eval (seated c a) ≡ false → has_eval (seated c b) ≡ false
put_outside (Choice cases) a b h g = let (x, y) = first_and_others a (cases ▸ none) (below (seated (Choice cases) a) g) in over (seated (Choice cases) b) refl (all_of b (cases ▸ none) (h x) y)
put_outside (Loop u v w) a b h g = let (x, y) = first_and_others a (u ▸ (v ▸ (w ▸ none))) (below (seated (Loop u v w) a) g) in over (seated (Loop u v w) b) refl (all_of b (u ▸ (v ▸ (w ▸ none))) (h x) y)

-- in what a loop over keys or values goes over
over_others : (l a b : Tree) (ts : Trees) → (has_eval a ≡ false → has_eval b ≡ false) → any_has_eval (l ▸ (a ▸ ts)) ≡ false → any_has_eval (l ▸ (b ▸ ts)) ≡ false
over_others l a b ts h g =
    let (x, y) = first_and_others l (a ▸ ts) g in
    let (z, u) = first_and_others a ts y in
    all_of l (b ▸ ts) x (all_of b ts (h z) u)

put_over : (c : Each) (l w a b : Tree) → (has_eval a ≡ false → has_eval b ≡ false) → has_eval (each_loop c l a w) ≡ false → has_eval (each_loop c l b w) ≡ false
put_over EachIn l w a b h g = over (each_loop EachIn l b w) refl (over_others l a b (w ▸ none) h (below (each_loop EachIn l a w) g))
put_over EachOf l w a b h g = over (each_loop EachOf l b w) refl (over_others l a b (w ▸ none) h (below (each_loop EachOf l a w) g))

seated_along : (x : Name) (r : Tree) (c : Seat) (t : Tree) → names x t ≡ true → suits_along x r (seated c t) ≡ true → suits_along x r t ≡ true
seated_along x r (Choice cases) t n e = first_along x r t (cases ▸ none) n (and_parts (suits x r shape.SwitchStatement (t ▸ (cases ▸ none))) (suits_among x r (t ▸ (cases ▸ none))) e).1
seated_along x r (Loop u v w) t n e = first_along x r t (u ▸ (v ▸ (w ▸ none))) n (and_parts (suits x r shape.ForStatement (t ▸ (u ▸ (v ▸ (w ▸ none))))) (suits_among x r (t ▸ (u ▸ (v ▸ (w ▸ none))))) e).1

-- in a head in which it may stand
pub put_along_head : (x : Name) (r t : Tree) → reads_head x t ≡ true → suits_along x r (evaluated t) ≡ true → has_eval r ≡ false → has_eval t ≡ false → has_eval (put_first x r t) ≡ false
put_along_head x r t f p e g = by (heads x t f)
  where
    by : Heads x t → has_eval (put_first x r t) ≡ false
    by (inl (o, q)) = put_in_head x r t o (sym (ap (suits_along x r) q) ∙ p) e g
    by (inr (inl i)) = put_in_initial x r t i (sym (ap (suits_along x r) i.evaluates) ∙ p) e g
    by (inr (inr (inr (inr i)))) =
        let d = as_initial x t i in
        let there = put_in_initial x r (declaration Var (declarator i.binds i.value ▸ i.last)) d (sym (ap (suits_along x r) i.evaluates) ∙ p) e in
        ap has_eval (i.puts r) ∙ put_outside (Loop i.test i.update i.body) (declaration Var (declarator i.binds i.value ▸ i.last)) (declaration Var (declarator i.binds (put_first x r i.value) ▸ i.last)) (λ h. sym (ap has_eval (d.puts r)) ∙ there h) (sym (ap has_eval i.is) ∙ g)
    by (inr (inr (inr (inl i)))) = ap has_eval (i.puts r) ∙ put_over i.kind i.left i.body i.value (put_first x r i.value) (put_there x false r i.value i.once (sym (ap (suits_along x r) i.evaluates) ∙ p) e) (sym (ap has_eval i.is) ∙ g)
    by (inr (inr (inl i))) = ap has_eval (i.puts r) ∙ put_outside i.seat i.value (put_first x r i.value) (put_there x false r i.value i.once (seated_along x r i.seat i.value (mentioned x false i.value i.once) (sym (ap (suits_along x r) (i.evaluates ∙ i.is)) ∙ p)) e) (sym (ap has_eval i.is) ∙ g)

-- in a loop that hides its names first
put_hidden_head : (x : Name) (r t : Tree) → reads_hidden x t ≡ true → suits_along x r (evaluated_hidden t) ≡ true → has_eval r ≡ false → has_eval t ≡ false → has_eval (put_first x r t) ≡ false
put_hidden_head x r t f p e g = by (hidden x t f)
  where
    by : Hidden x t → has_eval (put_first x r t) ≡ false
    by (inl i) =
        let d = for_initial x t i in
        let these = declaration i.kind (declarator i.binds i.value ▸ i.last) in
        let there = put_in_initial x r these d (sym (ap (suits_along x r) i.evaluates) ∙ p) e in
        ap has_eval (i.puts r) ∙ put_outside (Loop i.test i.update i.body) these (declaration i.kind (declarator i.binds (put_first x r i.value) ▸ i.last)) (λ h. sym (ap has_eval (d.puts r)) ∙ there h) (sym (ap has_eval i.is) ∙ g)
    by (inr i) = ap has_eval (i.puts r) ∙ put_over i.kind i.left i.body i.value (put_first x r i.value) (put_there x false r i.value i.once (sym (ap (suits_along x r) i.evaluates) ∙ p) e) (sym (ap has_eval i.is) ∙ g)

put_there_head : (x : Name) (r t : Tree) → takes x r t ≡ true → has_eval r ≡ false → has_eval t ≡ false → has_eval (put_first x r t) ≡ false
put_there_head x r t f e g = by (taken x r t f)
  where
    by : Taken x r t → has_eval (put_first x r t) ≡ false
    by (inl (o, p)) = put_along_head x r t o (passed_along x OfValues r (evaluated t) p) e g
    by (inr (c, (o, p))) = put_hidden_head x r t o (passed_along x OfValues r (evaluated_hidden t) p) e g

-- ---- a declaration whose declarator has another tree in what it reads first

declarator_with : (d v : Tree) → is_declarator d ≡ true → has_eval d ≡ false → has_eval v ≡ false → has_eval (with_part d 1 v) ≡ false
declarator_with d v n g f =
    let is = declarator_is d n in
    let id = part d 0 in
    let shaped : with_part d 1 v ≡ declarator id v = ap (λ t. with_part t 1 v) (is ∙ ap (λ t. declarator t (part d 1)) (sym (ap (λ t. part t 0) is))) in
    ap has_eval shaped ∙ over (declarator id v) refl (all_of id (v ▸ none) (part_of d 0 g) (all_of v none f nothing_there))

pub next_without : (t : Tree) (j : ℕ) → declares_list t ≡ true → is_declarator (part (part t 0) (suc j)) ≡ true → has_eval (put_named (names_of (part (part (part t 0) j) 0)) (part (part (part t 0) j) 1) (part (part (part t 0) (suc j)) 1)) ≡ false → has_eval t ≡ false → has_eval (with_part t 0 (declarators_next (part t 0) j)) ≡ false
next_without t j d n f e =
    let (k, is) = a_declaration t d in
    let ds = children (part t 0) in
    let one = part (part t 0) j in
    let following = part (part t 0) (suc j) in
    let list = below (part t 0) (part_of t 0 e) in
    let put = λ (c : Tree). with_part c 1 (put_named (names_of (part one 0)) (part one 1) (part c 1)) in
    let there = ap (λ c. has_eval (put c)) (next_child_left ds j) ∙ declarator_with following (put_named (names_of (part one 0)) (part one 1) (part following 1)) n (part_of (part t 0) (suc j) (part_of t 0 e)) f in
    ap (λ u. has_eval (with_part u 0 (declarators_next (part u 0) j))) is ∙ declared k (with_child (without ds j) j (put (child_or_absent (without ds j) j))) (with_one (without ds j) j (put (child_or_absent (without ds j) j)) (without_one ds j list) there)

-- ---- a list

list_with : (l : Tree) (i : ℕ) (x : Tree) → is_listed l ≡ true → has_eval l ≡ false → has_eval x ≡ false → (has_eval (with_part l i x) ≡ false) × (is_listed (with_part l i x) ≡ true)
list_with (node shape.Listed [] zero ts) i x e f g = (of_list (with_child ts i x) (with_one ts i x (below (listed ts) f) g), refl)
list_with l i x e f g = absurd (true≢false (sym e))

-- a list without a direct eval, and with none in what is outside of it
pub record Unseen (o l : Tree) : Type 0 where
  pub is_list : is_listed l ≡ true
  pub unseen : (has_eval o || has_eval l) ≡ false

pub unseen_with : (o l : Tree) (i : ℕ) (x : Tree) → Unseen o l → has_eval x ≡ false → Unseen o (with_part l i x)
unseen_with o l i x c f =
    let (a, b) = neither (has_eval o) (has_eval l) c.unseen in
    let (d, e) = list_with l i x c.is_list b f in
    record { is_list = e; unseen = both_not (has_eval o) (has_eval (with_part l i x)) a d }

pub in_list : (o l : Tree) (i : ℕ) → Unseen o l → has_eval (part l i) ≡ false
in_list o l i c = part_of l i (neither (has_eval o) (has_eval l) c.unseen).1

once_put : (xs : List Name) (o init : Tree) (ds : Trees) (j : ℕ) (ts : Trees) (i : ℕ) → is_read_once xs o init ds j ts i ≡ true → has_eval init ≡ false → has_eval (child_or_absent ts (suc i)) ≡ false → has_eval (put_named xs init (child_or_absent ts (suc i))) ≡ false
once_put [] o init ds j ts i e f g = absurd (true≢false (sym e))
once_put (x ∷ xs) o init ds j ts i e f g =
    let head = child_or_absent ts (suc i) in
    let (a, p) = and_parts (not (names x o)) (reads_next x init ts i && (not (is_declared_over x init ds j) && not (is_mentioned_around x ts i))) e in
    let read = (and_parts (reads_next x init ts i) (not (is_declared_over x init ds j) && not (is_mentioned_around x ts i)) p).0 in
    put_there_head x init head read f g

then_put : (xs : List Name) (d e o : Tree) (ds : Trees) (j : ℕ) (ts : Trees) (i : ℕ) → is_read_then xs d e o ds j ts i ≡ true → has_eval (part d 1) ≡ false → has_eval (part e 1) ≡ false → has_eval (put_named xs (part d 1) (part e 1)) ≡ false
then_put [] d e o ds j ts i h f g = absurd (true≢false (sym h))
then_put (x ∷ xs) d e o ds j ts i h f g =
    let read = (and_parts (reads_then x (part d 1) e) (not (is_mentioned_beside x d e ds j) && (not (names x o) && not (is_mentioned_elsewhere x ts i))) h).0 in
    let (first, passed) = and_parts (is_first x false (part e 1)) (are_passed x (part d 1) (part e 1)) read in
    put_there x false (part d 1) (part e 1) first (passed_along x OfValues (part d 1) (part e 1) (value_passed x (part d 1) (part e 1) passed)) f g

module _ (W : Liberties) (o l m : Tree) (c : Unseen o l) where
  name_gone : NameGone W o l m → Unseen o m
  name_gone g =
      let declares = declared_there o (child_or_absent (children l) g.at) (and_parts (may_declare o (child_or_absent (children l) g.at)) (is_unused_declarator (is_free_at (children l) g.at) W (list_at (children l) g.at) g.which o (children l) g.at) g.unused.1.2).0 in
      subst (Unseen o) (sym g.left) (unseen_with o l g.at (statement_left (part l g.at) g.which) c (statement_without (part l g.at) g.which declares (in_list o l g.at c)))

  read_gone : ReadGone W o l m → Unseen o m
  read_gone g =
      let ts = children l in
      let ds = list_at ts g.at in
      let j = last_place (children ds) in
      let d = part ds j in
      let init = part d 1 in
      let once = is_read_once (names_of (part d 0)) o init (children ds) j ts g.at in
      let lost = may_lose (is_free_at ts g.at) W (names_of (part d 0)) in
      let (declared_here, p) = and_parts (may_declare o (child_or_absent ts g.at)) (declares_name d && (lost && (may_move W.switches init && once))) g.single in
      let (a, q) = and_parts (declares_name d) (lost && (may_move W.switches init && once)) p in
      let (b, r) = and_parts lost (may_move W.switches init && once) q in
      let (e, f) = and_parts (may_move W.switches init) once r in
      let there = in_list o l g.at c in
      let value : has_eval init ≡ false = part_of d 1 (part_of ds j (part_of (part l g.at) 0 there)) in
      let left = unseen_with o l g.at (declaration_left (part l g.at) j) c (declaration_without (part l g.at) j (declared_there o (child_or_absent ts g.at) declared_here) there) in
      let head = once_put (names_of (part d 0)) o init (children ds) j ts g.at f value (in_list o l (suc g.at) c) in
      subst (Unseen o) (sym g.left) (unseen_with o (with_part l g.at (declaration_left (part l g.at) j)) (suc g.at) (put_named (names_of (part d 0)) init (part l (suc g.at))) left head)

  next_gone : NextGone W o l m → Unseen o m
  next_gone g =
      let t = found W o (children l) g.at g.which g.there.1.2 in
      let ds = list_at (children l) g.at in
      let one = part ds g.which in
      let following = part ds (suc g.which) in
      let there = part_of (part l g.at) 0 (in_list o l g.at c) in
      let put = then_put (names_of (part one 0)) one following o (children ds) g.which (children l) g.at t.read (part_of one 1 (part_of ds g.which there)) (part_of following 1 (part_of ds (suc g.which) there)) in
      subst (Unseen o) (sym g.left) (unseen_with o l g.at (with_part (part l g.at) 0 (declarators_next (part (part l g.at) 0) g.which)) c (next_without (part l g.at) g.which t.declared t.next put (in_list o l g.at c)))

  pub still_unseen : Gone W o l m → Unseen o m
  still_unseen g = by g.name
    where
      by : NameGone W o l m ⊎ (ReadGone W o l m ⊎ NextGone W o l m) → Unseen o m
      by (inl n) = name_gone n
      by (inr (inl r)) = read_gone r
      by (inr (inr s)) = next_gone s
