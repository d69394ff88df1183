-- A value stands where a head read a name: what holds by parts of the head and of the value holds
-- of the head with the value in it. Of `g(x)` and `f()` that is `g(f())`.
use Rattle.std.specs.Prelude.{ℕ, zero, suc, ◌≡◌, ◌⊎◌, refl, Bool, true, false, ◌&&◌, ◌||◌, not, List, [], ◌∷◌, if◌then◌else◌}
use Rattle.std.proofs.Common.{ap, ◌∙◌, sym, subst, inl, inr, true≢false}
use Rattle.std.proofs.lemmas.Bool.{and_parts}
use Rattle.mini_model.specs.declared.kind.PropertyKind.TheVariants.{Init}
use Rattle.mini_model.specs.declared.kind.VariableDeclarationKind.{VariableDeclarationKind}
use Rattle.mini_model.specs.declared.kind.VariableDeclarationKind.TheVariants.{Var, Let, Const}
use Rattle.mini_model.specs.declared.name.Name.{Name}
use Rattle.mini_model.specs.declared.shape.Shape.{Shape}
use Rattle.mini_model.specs.declared.shape.Shape.TheVariants as shape
use Rattle.mini_model.specs.Tree.{Tree, Trees, node, none, ◌▸◌, is_absent, identifier, shape_of}
use Rattle.mini_laws.specs.DeclaredNames.{names_of}
use Rattle.mini_laws.specs.declared.names.Declared.TheVariants as declared
use Rattle.mini_laws.specs.Naming.{is_lexical}
use Rattle.mini_laws.specs.ScopeList.{any_has_eval, calls_eval, has_eval, is_eval, is_eval_call, is_eval_callee}
use Rattle.mini_terms.specs.Reading.{is_plain_part}
use Rattle.mini_rows.specs.Lists.{Each, EachIn, EachOf, each_loop, for_loop, declaration, is_unscoped}
use Rattle.mini_rows.specs.Declarations.{declarator}
use Rattle.mini_rows.specs.Sketches.{Asked, AsValue, AsWholeItem, OfExpression, Return, Throw, If, shape_by}
use Rattle.mini_rows.specs.declared.gathered.Gathered.{Gathered}
use Rattle.mini_rows.specs.Unused.{names, any_names, is_childless, is_first, put_first, put_among, in_full, is_short, is_called_by_value, suits, is_reached, gathered_below, passes_at, are_passed_in, all_passed, evaluated, is_open_left, reads_first, reads_head}
use Rattle.mini_rows.specs.Past.{Kept, is_certain, passes_any_at, are_past_in, all_past}
use Rattle.mini_rows.proofs.Arranging.{Any, Local}
use Rattle.mini_rows.proofs.ArrangedValues.{is_value}
use Rattle.mini_rows.proofs.ListKeptHeads.{Seat, Loop, Choice, seated}
use Rattle.mini_rows.proofs.SingleUse.{Lead, Doing, Giving, Raising, Testing, Listing, head_of, by_front, Stands, Step, ends_short, found, led, both_there, plain_there, Well, path, mentioned, Initial, Outside, Over, Begun, Heads, heads, swapped}
use Rattle.mini_less.specs.Less.{AFor, AnIn, AnOf}
use Rattle.mini_less.proofs.ByLists.{ByLists, value_lexical}
use Rattle.mini_less.proofs.Flags.{none_of}
use Rattle.mini_less.proofs.ListHeads.{var_lexical}

-- ---- the value may stand there

-- it suits each node on the way to the read
abbrev mutual
  pub suits_all : Name → Tree → Tree → Bool
  suits_all x r (node h ys n ts) = suits x r h ts && suits_among x r ts

  pub suits_among : Name → Tree → Trees → Bool
  suits_among x r none = true
  suits_among x r (t ▸ ts) = if names x t then suits_all x r t else suits_among x r ts

mutual
  pub passed_suits : (x : Name) (m : Gathered) (r t : Tree) → are_passed_in x m r t ≡ true → suits_all x r t ≡ true
  passed_suits x m r (node h ys n ts) e =
      let (a, b) = and_parts (suits x r h ts) (is_reached x m r h ts && all_passed x m r h 0 ts) e in
      λ j. a j && all_passed_suit x m r h 0 ts (and_parts (is_reached x m r h ts) (all_passed x m r h 0 ts) b).1 j

  all_passed_suit : (x : Name) (m : Gathered) (r : Tree) (h : Shape) (i : ℕ) (ts : Trees) → all_passed x m r h i ts ≡ true → suits_among x r ts ≡ true
  all_passed_suit x m r h i none e = refl
  all_passed_suit x m r h i (t ▸ ts) e = by (names x t) e (passed_suits x (gathered_below m h i) r t) (all_passed_suit x m r h (suc i) ts)
    where
      by : (c : Bool) → (if c then are_passed_in x (gathered_below m h i) r t else (passes_at m r h i t && all_passed x m r h (suc i) ts)) ≡ true → (are_passed_in x (gathered_below m h i) r t ≡ true → suits_all x r t ≡ true) → (all_passed x m r h (suc i) ts ≡ true → suits_among x r ts ≡ true)
          → (if c then suits_all x r t else suits_among x r ts) ≡ true
      by true e f g = f e
      by false e f g = g (and_parts (passes_at m r h i t) (all_passed x m r h (suc i) ts) e).1

mutual
  pub past_suits : (H : Kept) (x : Name) (m : Gathered) (r t : Tree) → are_past_in H x m r t ≡ true → suits_all x r t ≡ true
  past_suits H x m r (node h ys n ts) e =
      let (a, b) = and_parts (is_certain x m r h ts) (all_past H x m r h 0 ts) e in
      λ j. (and_parts (suits x r h ts) _ a).0 j && all_past_suit H x m r h 0 ts b j

  all_past_suit : (H : Kept) (x : Name) (m : Gathered) (r : Tree) (h : Shape) (i : ℕ) (ts : Trees) → all_past H x m r h i ts ≡ true → suits_among x r ts ≡ true
  all_past_suit H x m r h i none e = refl
  all_past_suit H x m r h i (t ▸ ts) e = by (names x t) e (past_suits H x (gathered_below m h i) r t) (all_past_suit H x m r h (suc i) ts)
    where
      by : (c : Bool) → (if c then are_past_in H x (gathered_below m h i) r t else (passes_any_at H m r h t && all_past H x m r h (suc i) ts)) ≡ true → (are_past_in H x (gathered_below m h i) r t ≡ true → suits_all x r t ≡ true) → (all_past H x m r h (suc i) ts ≡ true → suits_among x r ts ≡ true)
          → (if c then suits_all x r t else suits_among x r ts) ≡ true
      by true e f g = f e
      by false e f g = g (and_parts (passes_any_at H m r h t) (all_past H x m r h (suc i) ts) e).1

-- the first of some parts reads the name
first_suits : (x : Name) (r t : Tree) (h : Shape) (ys : List Name) (n : ℕ) (ts : Trees) → names x t ≡ true → suits_all x r (node h ys n (t ▸ ts)) ≡ true → suits_all x r t ≡ true
first_suits x r t h ys n ts e f = sym (ap (λ c. if c then suits_all x r t else suits_among x r ts) e) ∙ (and_parts (suits x r h (t ▸ ts)) (suits_among x r (t ▸ ts)) f).1

-- ---- no direct eval arises

same_callee : (h : Shape) (ys : List Name) (n m : ℕ) (ts us : Trees) → is_eval_callee (node h ys n ts) ≡ is_eval_callee (node h ys m us)
same_callee shape.Identifier ys n m ts us = refl
same_callee h ys n m ts us = refl

full_callee : (b : Bool) (h : Shape) (ys : List Name) (n m : ℕ) (ts us : Trees) → is_eval_callee (node h ys n ts) ≡ false → is_eval_callee (node (if b then shape.ObjectProperty Init false false false else h) ys m us) ≡ false
full_callee true h ys n m ts us e = refl
full_callee false h ys n m ts us e = sym (same_callee h ys n m ts us) ∙ e

-- what is called by its value is no name of a direct eval
value_callee : (t : Tree) → is_called_by_value t ≡ true → is_eval_callee t ≡ false
value_callee (node shape.Identifier ys n ts) e = by (is_eval ys) e
  where
    by : (b : Bool) → not b ≡ true → b ≡ false
    by true e = sym e
    by false e = refl
value_callee (node h ys n ts) e = refl

put_callee : (x : Name) (r t : Tree) → is_eval_callee t ≡ false → ((not (is_childless t && true) || is_called_by_value r) && true) ≡ true → is_eval_callee (put_first x r t) ≡ false
put_callee x r (node h ys n none) e f = value_callee r (and_parts (is_called_by_value r) true f).0
put_callee x r (node h ys n (t ▸ ts)) e f = full_callee (is_short h) h ys n n (t ▸ ts) (put_among x r (t ▸ ts)) e

call_there : (x : Name) (r t : Tree) (ts : Trees) (c : Bool) → is_eval_callee t ≡ false → ((not (is_childless t && c) || is_called_by_value r) && true) ≡ true → calls_eval (if c then put_first x r t ▸ ts else t ▸ put_among x r ts) ≡ false
call_there x r t ts true e f = put_callee x r t e f
call_there x r t ts false e f = e

full_property : (b : Bool) (h : Shape) (us : Trees) → is_eval_call h us ≡ false → is_eval_call (if b then shape.ObjectProperty Init false false false else h) us ≡ false
full_property true h us e = refl
full_property false h us e = e

put_call : (x : Name) (r : Tree) (h : Shape) (t : Tree) (ts : Trees) → is_eval_call h (t ▸ ts) ≡ false → suits x r h (t ▸ ts) ≡ true → is_eval_call (in_full h) (put_among x r (t ▸ ts)) ≡ false
put_call x r (shape.CallExpression false) t ts e f = call_there x r t ts (names x t) e f
put_call x r (shape.ObjectProperty k m s c) t ts e f = full_property (is_short (shape.ObjectProperty k m s c)) (shape.ObjectProperty k m s c) (put_among x r (t ▸ ts)) refl
put_call x r h t ts e f = refl

module _ (x : Name) (r : Tree) (spared : has_eval r ≡ false) where
  mutual
    unfolding has_eval

    pub put_spared : (t : Tree) → suits_all x r t ≡ true → has_eval t ≡ false → has_eval (put_first x r t) ≡ false
    put_spared (node h ys n none) s f = spared
    put_spared (node h ys n (t ▸ ts)) s f =
        let (call, below) = none_of (is_eval_call h (t ▸ ts)) (any_has_eval (t ▸ ts)) f in
        let (suit, inner) = and_parts (suits x r h (t ▸ ts)) (suits_among x r (t ▸ ts)) s in
        λ j. put_call x r h t ts call suit j || puts_spared (t ▸ ts) inner below j

    puts_spared : (ts : Trees) → suits_among x r ts ≡ true → any_has_eval ts ≡ false → any_has_eval (put_among x r ts) ≡ false
    puts_spared none s f = refl
    puts_spared (t ▸ ts) s f =
        let (one, others) = none_of (has_eval t) (any_has_eval ts) f in
        by (names x t) s one others (λ s. put_spared t s one) (λ s. puts_spared ts s others)
      where
        by : (c : Bool) → (if c then suits_all x r t else suits_among x r ts) ≡ true → has_eval t ≡ false → any_has_eval ts ≡ false → (suits_all x r t ≡ true → has_eval (put_first x r t) ≡ false) → (suits_among x r ts ≡ true → any_has_eval (put_among x r ts) ≡ false)
            → any_has_eval (if c then put_first x r t ▸ ts else t ▸ put_among x r ts) ≡ false
        by true s e f g k j = g s j || f j
        by false s e f g k j = e j || k s j

-- ---- in an expression

module _ (Q : Asked → Tree → Type 0) (l : Local Any Q) where
  pub puts_local : (x : Name) (r t : Tree) → is_first x false t ≡ true → Q AsValue t → Q AsValue r → Q AsValue (put_first x r t)
  puts_local x r t e a b =
      let p = path x false t e in
      subst (Q AsValue) (sym (p.puts r)) (swapped Any Q l AsValue p.steps p.well (identifier p.read) r (λ z. b) (subst (Q AsValue) p.is a))

lead_value : (l : Lead) (b : Bool) → Stands AsValue l b → is_value (shape_by (head_of l)) ≡ true
lead_value (Listing ts) b s = absurd s
lead_value Doing b s = absurd s
lead_value Giving b s = absurd s
lead_value Raising b s = absurd s
lead_value Testing b s = absurd s
lead_value l b s = refl

found_value : (ss : List Step) → Well AsValue ss → (t : Tree) → is_value (shape_of t) ≡ true → is_value (shape_of (found ss t)) ≡ true
found_value [] w t e = e
found_value (s ∷ ss) w t e = by_front (λ l h. (b : Bool) → Stands AsValue l b → is_value (shape_by h) ≡ true) lead_value (λ a k b z. refl) (ends_short s ss) s.lead _ w.0

led_value : (ss : List Step) → Well AsValue ss → (t : Tree) → is_value (shape_of t) ≡ true → is_value (shape_of (led ss t)) ≡ true
led_value [] w t e = e
led_value (s ∷ ss) w t e = lead_value s.lead _ w.0

pub first_value : (x : Name) (t : Tree) → is_first x false t ≡ true → is_value (shape_of t) ≡ true
first_value x t e = let p = path x false t e in ap (λ u. is_value (shape_of u)) p.is ∙ found_value p.steps p.well (identifier p.read) refl

pub put_value : (x : Name) (t : Tree) → is_first x false t ≡ true → (r : Tree) → is_value (shape_of r) ≡ true → is_value (shape_of (put_first x r t)) ≡ true
put_value x t e r f = let p = path x false t e in ap (λ u. is_value (shape_of u)) (p.puts r) ∙ led_value p.steps p.well r f

-- neither is absent
pub put_there : (x : Name) (t : Tree) → is_first x false t ≡ true → (r : Tree) → is_plain_part r ≡ true → is_absent t ≡ is_absent (put_first x r t)
put_there x t e r f = let p = path x false t e in ap is_absent p.is ∙ both_there p.steps r p.read (plain_there r f) ∙ sym (ap is_absent (p.puts r))

-- ---- in a head

-- the left side of a loop declares no lexical name
open_lexical : (t : Tree) → is_open_left t ≡ true → names_of declared.Lexical t ≡ []
unfolding names_of
open_lexical (node shape.Identifier xs n ts) e = refl
open_lexical (node (shape.StaticMemberExpression o) xs n ts) e = refl
open_lexical (node (shape.ComputedMemberExpression o) xs n ts) e = refl
open_lexical (node shape.ObjectAssignmentTarget xs n ts) e = refl
open_lexical (node shape.ArrayAssignmentTarget xs n ts) e = refl
open_lexical (node (shape.VariableDeclaration Var) xs n ts) e = refl
open_lexical (node h xs n ts) e = absurd (true≢false (sym e))

-- where a head reads the name first, and what it then tells with the value there
pub record Spot (x : Name) (r head : Tree) : Type 1 where
  pub value : Tree
  pub once : is_first x false value ≡ true
  pub suit : suits_all x r (evaluated head) ≡ true → suits_all x r value ≡ true
  pub made : (Q : Asked → Tree → Type 0) → ByLists Q → Q AsWholeItem head → Q AsValue value × (Q AsValue (put_first x r value) → Q AsWholeItem (put_first x r head))
  pub form : ((is_unscoped head ≡ true) × (is_unscoped (put_first x r head) ≡ true)) ⊎ ((t : Initial x head) × (is_lexical t.kind ≡ true))

statement_unscoped : (l : Lead) → Stands AsWholeItem l true → (ts : Trees) → is_unscoped (node (shape_by (head_of l)) [] 0 ts) ≡ true
statement_unscoped Doing s ts = refl
statement_unscoped Giving s ts = refl
statement_unscoped Raising s ts = refl
statement_unscoped Testing s ts = refl
statement_unscoped l s ts = absurd s

module _ (Q : Asked → Tree → Type 0) (l : ByLists Q) where
  statement_made : (d : Lead) → Stands AsWholeItem d true → (t u : Tree) (ts : Trees) → Q AsWholeItem (node (shape_by (head_of d)) [] 0 (t ▸ ts)) → Q AsValue t × (Q AsValue u → Q AsWholeItem (node (shape_by (head_of d)) [] 0 (u ▸ ts)))
  statement_made Doing s t u ts y = let z = l.parts.down OfExpression refl AsWholeItem (t ▸ ts) tt y in (z.0, λ q. l.parts.up OfExpression refl AsWholeItem (u ▸ ts) tt (q, z.1))
  statement_made Giving s t u ts y = let z = l.parts.down Return refl AsWholeItem (t ▸ ts) tt y in (z.0, λ q. l.parts.up Return refl AsWholeItem (u ▸ ts) tt (q, z.1))
  statement_made Raising s t u ts y = let z = l.parts.down Throw refl AsWholeItem (t ▸ ts) tt y in (z.0, λ q. l.parts.up Throw refl AsWholeItem (u ▸ ts) tt (q, z.1))
  statement_made Testing s t u ts y = let z = l.parts.down If refl AsWholeItem (t ▸ ts) tt y in (z.0, λ q. l.parts.up If refl AsWholeItem (u ▸ ts) tt (q, z.1))
  statement_made d s t u ts y = absurd s

  seated_made : (s : Seat) (t u : Tree) → is_value (shape_of t) ≡ true → is_value (shape_of u) ≡ true → Q AsWholeItem (seated s t) → Q AsValue t × (Q AsValue u → Q AsWholeItem (seated s u))
  seated_made (Choice cases) t u e f y = l.switched t u cases e f y
  seated_made (Loop a b c) t u e f y =
      let z = l.loop_down AFor t (a ▸ (b ▸ (c ▸ none))) (value_lexical t e) y in
      (z.0, λ q. l.loop_up AFor u (a ▸ (b ▸ (c ▸ none))) (value_lexical u f) (q, z.1))

  over_made : (k : Each) (left t u body : Tree) → is_open_left left ≡ true → Q AsWholeItem (each_loop k left t body) → Q AsValue t × (Q AsValue u → Q AsWholeItem (each_loop k left u body))
  over_made EachIn left t u body e y =
      let z = l.loop_down AnIn left (t ▸ (body ▸ none)) (open_lexical left e) y in
      (z.1.0, λ q. l.loop_up AnIn left (u ▸ (body ▸ none)) (open_lexical left e) (z.0, (q, z.1.1)))
  over_made EachOf left t u body e y =
      let z = l.loop_down AnOf left (t ▸ (body ▸ none)) (open_lexical left e) y in
      (z.1.0, λ q. l.loop_up AnOf left (u ▸ (body ▸ none)) (open_lexical left e) (z.0, (q, z.1.1)))

  begun_made : (id t u : Tree) (ds : Trees) (a b c : Tree) → is_absent t ≡ is_absent u → Q AsWholeItem (for_loop (declaration Var (declarator id t ▸ ds)) a b c) → Q AsValue t × (Q AsValue u → Q AsWholeItem (for_loop (declaration Var (declarator id u ▸ ds)) a b c))
  begun_made id t u ds a b c e y =
      let z = l.loop_down AFor (declaration Var (declarator id t ▸ ds)) (a ▸ (b ▸ (c ▸ none))) (var_lexical (declarator id t ▸ ds)) y in
      let d = l.head_down (declarator id t ▸ ds) z.0 in
      let (value, again) = l.valued id t u e d.0 in
      (value, λ q. l.loop_up AFor (declaration Var (declarator id u ▸ ds)) (a ▸ (b ▸ (c ▸ none))) (var_lexical (declarator id u ▸ ds)) (l.head_up (declarator id u ▸ ds) (again q, d.1), z.1))

seat_unscoped : (s : Seat) (t : Tree) → is_unscoped (seated s t) ≡ true
seat_unscoped (Choice cases) t = refl
seat_unscoped (Loop a b c) t = refl

each_unscoped : (k : Each) (left t body : Tree) → is_unscoped (each_loop k left t body) ≡ true
each_unscoped EachIn left t body = refl
each_unscoped EachOf left t body = refl

module _ (x : Name) (r : Tree) (plain : is_plain_part r ≡ true) (value : is_value (shape_of r) ≡ true) where
  spot_stated : (l : Lead) → Stands AsWholeItem l true → in_full (shape_by (head_of l)) ≡ shape_by (head_of l) → (t : Tree) (ts : Trees) → (is_first x false t && not (any_names x ts)) ≡ true → evaluated (node (shape_by (head_of l)) [] 0 (t ▸ ts)) ≡ node (shape_by (head_of l)) [] 0 (t ▸ ts) → Spot x r (node (shape_by (head_of l)) [] 0 (t ▸ ts))
  spot_stated l s full t ts e f =
      let once = (and_parts (is_first x false t) (not (any_names x ts)) e).0 in
      let n = mentioned x false t once in
      let h = shape_by (head_of l) in
      let puts : put_first x r (node h [] 0 (t ▸ ts)) ≡ node h [] 0 (put_first x r t ▸ ts) = ap (λ h. node h [] 0 (put_among x r (t ▸ ts))) full ∙ ap (λ c. node h [] 0 (if c then put_first x r t ▸ ts else t ▸ put_among x r ts)) n in
      record {
        value = t;
        once = once;
        suit = λ g. first_suits x r t h [] 0 ts n (sym (ap (suits_all x r) f) ∙ g);
        made = λ Q m y.
            let (v, again) = statement_made Q m l s t (put_first x r t) ts y in
            (v, λ q. subst (Q AsWholeItem) (sym puts) (again q));
        form = inl (statement_unscoped l s (t ▸ ts), ap is_unscoped puts ∙ statement_unscoped l s (put_first x r t ▸ ts));
      }

  spot_first : (head : Tree) → reads_first x head ≡ true → evaluated head ≡ head → Spot x r head
  spot_first (node h ys n none) e f = absurd (true≢false (sym e))
  spot_first (node shape.ExpressionStatement [] zero (t ▸ ts)) e f = spot_stated Doing tt refl t ts e f
  spot_first (node shape.ReturnStatement [] zero (t ▸ ts)) e f = spot_stated Giving tt refl t ts e f
  spot_first (node shape.ThrowStatement [] zero (t ▸ ts)) e f = spot_stated Raising tt refl t ts e f
  spot_first (node shape.IfStatement [] zero (t ▸ ts)) e f = spot_stated Testing tt refl t ts e f
  spot_first t e f = absurd (true≢false (sym e))

  initial_form : (head : Tree) (t : Initial x head) → (k : VariableDeclarationKind) → t.kind ≡ k → ((is_unscoped head ≡ true) × (is_unscoped (put_first x r head) ≡ true)) ⊎ ((t : Initial x head) × (is_lexical t.kind ≡ true))
  initial_form head t Var e = inl (ap is_unscoped t.is ∙ ap (λ k. is_unscoped (declaration k (declarator t.binds t.value ▸ t.last))) e, ap is_unscoped (t.puts r) ∙ ap (λ k. is_unscoped (declaration k (declarator t.binds (put_first x r t.value) ▸ t.last))) e)
  initial_form head t Let e = inr (t, ap is_lexical e)
  initial_form head t Const e = inr (t, ap is_lexical e)

  spot_initial : (head : Tree) → Initial x head → Spot x r head
  spot_initial head t = record {
    value = t.value;
    once = t.once;
    suit = λ e. sym (ap (suits_all x r) t.evaluates) ∙ e;
    made = λ Q l y.
        let (v, again) = l.initialised t.kind t.binds t.value (put_first x r t.value) t.last (put_there x t.value t.once r plain) (subst (Q AsWholeItem) t.is y) in
        (v, λ q. subst (Q AsWholeItem) (sym (t.puts r)) (again q));
    form = initial_form head t t.kind refl;
  }

  spot_outside : (head : Tree) → Outside x head → Spot x r head
  spot_outside head t = record {
    value = t.value;
    once = t.once;
    suit = λ e. suit_seated t.seat t.value t.once (sym (ap (suits_all x r) (t.evaluates ∙ t.is)) ∙ e);
    made = λ Q l y.
        let (v, again) = seated_made Q l t.seat t.value (put_first x r t.value) (first_value x t.value t.once) (put_value x t.value t.once r value) (subst (Q AsWholeItem) t.is y) in
        (v, λ q. subst (Q AsWholeItem) (sym (t.puts r)) (again q));
    form = inl (ap is_unscoped t.is ∙ seat_unscoped t.seat t.value, ap is_unscoped (t.puts r) ∙ seat_unscoped t.seat (put_first x r t.value));
  }
    where
      suit_seated : (s : Seat) (v : Tree) → is_first x false v ≡ true → suits_all x r (seated s v) ≡ true → suits_all x r v ≡ true
      suit_seated (Choice cases) v o e = first_suits x r v shape.SwitchStatement [] 0 (cases ▸ none) (mentioned x false v o) e
      suit_seated (Loop a b c) v o e = first_suits x r v shape.ForStatement [] 0 (a ▸ (b ▸ (c ▸ none))) (mentioned x false v o) e

  spot_over : (head : Tree) → Over x head → Spot x r head
  spot_over head t = record {
    value = t.value;
    once = t.once;
    suit = λ e. sym (ap (suits_all x r) t.evaluates) ∙ e;
    made = λ Q l y.
        let (v, again) = over_made Q l t.kind t.left t.value (put_first x r t.value) t.body t.plain (subst (Q AsWholeItem) t.is y) in
        (v, λ q. subst (Q AsWholeItem) (sym (t.puts r)) (again q));
    form = inl (ap is_unscoped t.is ∙ each_unscoped t.kind t.left t.value t.body, ap is_unscoped (t.puts r) ∙ each_unscoped t.kind t.left (put_first x r t.value) t.body);
  }

  spot_begun : (head : Tree) → Begun x head → Spot x r head
  spot_begun head t = record {
    value = t.value;
    once = t.once;
    suit = λ e. sym (ap (suits_all x r) t.evaluates) ∙ e;
    made = λ Q l y.
        let (v, again) = begun_made Q l t.binds t.value (put_first x r t.value) t.last t.test t.update t.body (put_there x t.value t.once r plain) (subst (Q AsWholeItem) t.is y) in
        (v, λ q. subst (Q AsWholeItem) (sym (t.puts r)) (again q));
    form = inl (ap is_unscoped t.is, ap is_unscoped (t.puts r));
  }

  pub spot : (head : Tree) → reads_head x head ≡ true → Spot x r head
  spot head e = by (heads x head e)
    where
      by : Heads x head → Spot x r head
      by (inl (f, p)) = spot_first head f p
      by (inr (inl t)) = spot_initial head t
      by (inr (inr (inl t))) = spot_outside head t
      by (inr (inr (inr (inl t)))) = spot_over head t
      by (inr (inr (inr (inr t)))) = spot_begun head t
