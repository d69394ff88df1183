-- The constant of an expression as it is calculated, of children and of the parts of a template, one after another; and that it is the Const.
use Rattle.std.proofs.Common.{◌≡◌, ℕ, zero, suc, ◌<◌, ◌≤◌, Bool, true, false, List, [], ◌∷◌, Option, Some, None, refl, sym, ap, subst, ◌∙◌, eqb-true, arith}
use Rattle.std.specs.Prelude.{pos, ◌-◌, ◌&&◌, ◌++◌, length, nat_eq, nat_le, codes, if◌then◌else◌}
use Rattle.mini_model.specs.Numerals.{max_safe_integer}
use Rattle.mini_model.specs.declared.operator.BinaryOperator.{BinaryOperator}
use Rattle.mini_model.specs.declared.operator.LogicalOperator.{LogicalOperator}
use Rattle.mini_model.specs.declared.operator.UnaryOperator.{UnaryOperator}
use Rattle.mini_model.specs.declared.operator.UnaryOperator.TheVariants as unary_operator
use Rattle.mini_model.specs.declared.shape.Shape.{Shape}
use Rattle.mini_model.specs.declared.shape.Shape.TheVariants as shape
use Rattle.mini_model.specs.Tree.{Tree, Trees, node, none, ◌▸◌, listed, children, count, shape_of, child_or_absent}
use Rattle.mini_model.specs.Weight.{same_text}
use Rattle.mini_node.specs.Children.{part, names_of}
use Rattle.mini_laws.specs.Value.{Value, Number, String, truth, choose}
use Rattle.mini_laws.specs.Expressions.{first_kind}
use Rattle.mini_laws.specs.Naming.{NameKind, kinds, facts, texts_all}
use Rattle.mini_laws.specs.Conversion.{to_number}
use Rattle.mini_terms.specs.Calculated.{undefined_if, as_number, calculated_unary, unary_value}
use Rattle.mini_terms.specs.Const.{name_const, unary_const, binary_const, logical_const, conditional_const, member_const, text_of, all_texts, cons_text, template_const, nth_const, last_const, nth_texts, const_by, const, each_const, texts_in, each_texts, Agrees}
use Rattle.mini_terms.specs.Constant.{length_of, member_constant, text_round, nth_constants, template_constant, constant_by, constant, each_constant, constants_in, each_constants, constant_truth, ConstantIsConst, ConstantTruth}
use Rattle.mini_terms.specs.Evident.{are_lists}
use Rattle.mini_terms.specs.Kind.{is_undefined_name, kind, OfKind}
use Rattle.mini_terms.specs.Templates.{cooked_in, joined_text, text_between, text_value}
use Rattle.mini_node.specs.Kinds.{is_listed}
use Rattle.mini_node.specs.Made.{listed_is}
use Rattle.mini_terms.proofs.ConstTable.{const_sound}
use Rattle.mini_terms.proofs.KindTable.{kind_sound}
use Rattle.mini_terms.proofs.Truths.{truth_known, gives_both}
use Rattle.mini_terms.proofs.Calculated.{undefined_const, numbered, undeleted}
use Rattle.mini_terms.proofs.Joined.{texts_by, Told, told, text_is}

pub constant_is : (t : Tree) → constant t ≡ constant_by (shape_of t) (kinds (names_of t)) (children t) (each_constant (children t)) (each_constants (children t))
constant_is (node h xs n ts) = refl

-- ---- children

of_nth : (ts : Trees) (i : ℕ) → i < count ts → nth_const (each_constant ts) i ≡ constant (child_or_absent ts i)
of_nth none i e = absurd (omega (arith, e))
of_nth (t ▸ ts) zero e = refl
of_nth (t ▸ ts) (suc i) e = of_nth ts i (omega (arith, e))

pub constant_at : (t : Tree) (i : ℕ) → i < count (children t) → nth_const (each_constant (children t)) i ≡ constant (part t i)
constant_at t i e = of_nth (children t) i e

none_at : (ts : Trees) (i : ℕ) → count ts ≤ i → nth_const (each_constant ts) i ≡ None
none_at none i e = refl
none_at (t ▸ ts) zero e = absurd (omega (arith, e))
none_at (t ▸ ts) (suc i) e = none_at ts i (omega (arith, e))

pub no_constant_at : (t : Tree) (i : ℕ) → count (children t) ≤ i → nth_const (each_constant (children t)) i ≡ None
no_constant_at t i e = none_at (children t) i e

last_of : (t : Tree) (ts : Trees) → last_const (each_constant (t ▸ ts)) ≡ constant (child_or_absent (t ▸ ts) (count ts))
last_of t none = refl
last_of t (u ▸ us) = last_of u us

last_in : (ts : Trees) → zero < count ts → last_const (each_constant ts) ≡ constant (child_or_absent ts (count ts - 1))
last_in none e = absurd (omega (arith, e))
last_in (t ▸ ts) e =
    let same : count (t ▸ ts) - 1 ≡ count ts = omega arith in
    last_of t ts ∙ ap (λ k. constant (child_or_absent (t ▸ ts) k)) (sym same)

pub last_constant_at : (t : Tree) → zero < count (children t) → last_const (each_constant (children t)) ≡ constant (part t (count (children t) - 1))
last_constant_at t e = last_in (children t) e

none_last : (ts : Trees) → count ts ≤ zero → last_const (each_constant ts) ≡ None
none_last none e = refl
none_last (t ▸ ts) e = absurd (omega (arith, e))

pub no_last_constant : (t : Tree) → count (children t) ≤ zero → last_const (each_constant (children t)) ≡ None
no_last_constant t e = none_last (children t) e

-- ---- the parts of a template

pub round_is : (ps ts : Trees) → text_round ps (each_constant ts) ≡ text_between constant ps ts
round_is none ts = refl
round_is (p ▸ ps) none = refl
round_is (p ▸ ps) (t ▸ ts) = ap (λ o. joined_text (cooked_in (shape_of p)) (joined_text (text_of (constant t)) o)) (round_is ps ts)

items_are : (t : Tree) → constants_in t ≡ each_constant (children t)
items_are (node h xs n ts) = refl

items_at : (ts : Trees) (i : ℕ) → i < count ts → nth_constants (each_constants ts) i ≡ each_constant (children (child_or_absent ts i))
items_at none i h = absurd (omega (arith, h))
items_at (t ▸ ts) zero h = items_are t
items_at (t ▸ ts) (suc i) h = items_at ts i (omega (arith, h))

pub of_lists : (t : Tree) → are_lists (children t) ≡ true → 1 < count (children t) → template_constant (children t) (each_constants (children t)) ≡ text_value (text_between constant (children (part t 0)) (children (part t 1)))
of_lists t e h =
    ap (λ b. if b then text_value (text_round (children (part t 0)) (nth_constants (each_constants (children t)) 1)) else None) e
    ∙ ap (λ cs. text_value (text_round (children (part t 0)) cs)) (items_at (children t) 1 h)
    ∙ ap text_value (round_is (children (part t 0)) (children (part t 1)))

pub no_lists : (t : Tree) → are_lists (children t) ≡ false → template_constant (children t) (each_constants (children t)) ≡ None
no_lists t e = ap (λ b. if b then text_value (text_round (children (part t 0)) (nth_constants (each_constants (children t)) 1)) else None) e

-- ---- it is the Const

nothing : {A : Type 0} {a : A} {B : Type 0} → None ≡ Some a → B
nothing e = cc e

-- what the first tells the second tells too
abbrev Tells : Option Value → Option Value → Type 0
Tells c d = (v : Value) → c ≡ Some v → d ≡ Some v

abbrev AllTell : List (Option Value) → List (Option Value) → Type 0
AllTell [] [] = Unit {0}
AllTell (c ∷ cs) (d ∷ ds) = Tells c d × AllTell cs ds
AllTell cs ds = ⊥

untold : (d : Option Value) → Tells None d
untold d v e = nothing e

nth_tells : (cs ds : List (Option Value)) → AllTell cs ds → (i : ℕ) → Tells (nth_const cs i) (nth_const ds i)
nth_tells [] ds h i = untold (nth_const ds i)
nth_tells (c ∷ cs) [] h i = absurd h
nth_tells (c ∷ cs) (d ∷ ds) h zero = h.0
nth_tells (c ∷ cs) (d ∷ ds) h (suc i) = nth_tells cs ds h.1 i

last_tells : (cs ds : List (Option Value)) → AllTell cs ds → Tells (last_const cs) (last_const ds)
last_tells [] ds h = untold (last_const ds)
last_tells (c ∷ cs) [] h = absurd h
last_tells (c ∷ []) (d ∷ []) h = h.0
last_tells (c ∷ []) (d ∷ (y ∷ ds)) h = absurd h.1
last_tells (c ∷ (x ∷ cs)) (d ∷ []) h = absurd h.1
last_tells (c ∷ (x ∷ cs)) (d ∷ (y ∷ ds)) h = last_tells (x ∷ cs) (y ∷ ds) h.1

-- operators

over_tells : (o : UnaryOperator) (u v : Value) → calculated_unary o u ≡ Some v → unary_const o (Some u) ≡ Some v
over_tells unary_operator.Void u v e = e
over_tells unary_operator.LogicalNot u v e = e
over_tells unary_operator.Typeof u v e = e
over_tells unary_operator.UnaryPlus u v e = numbered unary_operator.UnaryPlus (to_number u) v e
over_tells unary_operator.UnaryNegation u v e = numbered unary_operator.UnaryNegation (to_number u) v e
over_tells unary_operator.BitwiseNot u v e = numbered unary_operator.BitwiseNot (to_number u) v e
over_tells unary_operator.Delete u v e = nothing (undeleted (as_number u) v e)

unary_tells : (o : UnaryOperator) (c d : Option Value) → Tells c d → Tells (unary_value true o c) (unary_const o d)
unary_tells unary_operator.Void c d h v e = e
unary_tells o (Some u) d h v e = ap (unary_const o) (h u refl) ∙ over_tells o u v e
unary_tells o None d h v e = nothing e

binary_tells : (o : BinaryOperator) (a b c d : Option Value) → Tells a c → Tells b d → Tells (binary_const o a b) (binary_const o c d)
binary_tells o (Some x) (Some y) c d h k v e = ap (λ z. binary_const o z d) (h x refl) ∙ ap (binary_const o (Some x)) (k y refl) ∙ e
binary_tells o (Some x) None c d h k v e = nothing e
binary_tells o None b c d h k v e = nothing e

logical_tells : (o : LogicalOperator) (a b c d : Option Value) → Tells a c → Tells b d → Tells (logical_const o a b) (logical_const o c d)
logical_tells o (Some x) (Some y) c d h k v e = ap (λ z. logical_const o z d) (h x refl) ∙ ap (logical_const o (Some x)) (k y refl) ∙ e
logical_tells o (Some x) None c d h k v e = nothing e
logical_tells o None b c d h k v e = nothing e

conditional_tells : (a b c x y z : Option Value) → Tells a x → Tells b y → Tells c z → Tells (conditional_const a b c) (conditional_const x y z)
conditional_tells (Some i) (Some j) (Some k) x y z f g h v e = ap (λ r. conditional_const r y z) (f i refl) ∙ ap (λ r. conditional_const (Some i) r z) (g j refl) ∙ ap (conditional_const (Some i) (Some j)) (h k refl) ∙ e
conditional_tells (Some i) (Some j) None x y z f g h v e = nothing e
conditional_tells (Some i) None c x y z f g h v e = nothing e
conditional_tells None b c x y z f g h v e = nothing e

length_tells : (s k : List ℕ) (v : Value) → length_of s k ≡ Some v → choose (same_text k (codes "length")) (Some (Number (pos (length s)))) None ≡ Some v
length_tells s k v e = go (same_text k (codes "length")) (nat_le (length s) max_safe_integer) e
  where
    go : (b c : Bool) → (if b && c then Some (Number (pos (length s))) else None) ≡ Some v → choose b (Some (Number (pos (length s)))) None ≡ Some v
    go true true e = e
    go true false e = nothing e
    go false c e = nothing e

member_tells : (a b c d : Option Value) → Tells a c → Tells b d → Tells (member_constant a b) (member_const c d)
member_tells (Some (String s)) (Some (String k)) c d f g v e = ap (λ x. member_const x d) (f (String s) refl) ∙ ap (member_const (Some (String s))) (g (String k) refl) ∙ length_tells s k v e
member_tells a b c d f g v e = nothing e

-- templates

text_tells : (c d : Option Value) → Tells c d → (s : List ℕ) → text_of c ≡ Some s → text_of d ≡ Some s
text_tells (Some u) d h s e = ap text_of (h u refl) ∙ e
text_tells None d h s e = nothing e

texts_tell : (cs ds : List (Option Value)) → AllTell cs ds → (parts : List (List ℕ)) → all_texts cs ≡ Some parts → all_texts ds ≡ Some parts
texts_tell [] [] h parts e = e
texts_tell [] (d ∷ ds) h parts e = absurd h
texts_tell (c ∷ cs) [] h parts e = absurd h
texts_tell (c ∷ cs) (d ∷ ds) h parts e = go (text_of c) (all_texts cs) refl (texts_tell cs ds h.1) e
  where
    go : (a : Option (List ℕ)) (b : Option (List (List ℕ))) → text_of c ≡ a → ((ss : List (List ℕ)) → b ≡ Some ss → all_texts ds ≡ Some ss) → cons_text a b ≡ Some parts → all_texts (d ∷ ds) ≡ Some parts
    go (Some s) (Some ss) k l e = ap (λ o. cons_text o (all_texts ds)) (text_tells c d h.0 s k) ∙ ap (cons_text (Some s)) (l ss refl) ∙ e
    go (Some s) None k l e = nothing e
    go None b k l e = nothing e

texts_are : (ts : Trees) → texts_by constant ts ≡ all_texts (each_constant ts)
texts_are none = refl
texts_are (t ▸ ts) = ap (cons_text (text_of (constant t))) (texts_are ts)

round_tells : (ps ts : Trees) → AllTell (each_constant ts) (each_const ts) → Tells (text_value (text_round ps (each_constant ts))) (template_const (texts_all (facts ps) ++ (texts_all (facts ts) ++ [])) (all_texts (each_const ts)))
round_tells ps ts h v e =
    let (text, (known, same)) = text_is (text_round ps (each_constant ts)) v e in
    let r : Told constant ps ts text = told constant ps ts text (sym (round_is ps ts) ∙ known) in
    let its : all_texts (each_constant ts) ≡ Some r.parts = sym (texts_are ts) ∙ r.known in
    ap (template_const (texts_all (facts ps) ++ (texts_all (facts ts) ++ []))) (texts_tell (each_constant ts) (each_const ts) h r.parts its)
    ∙ ap (λ s. Some (String s)) (r.joined (texts_all (facts ts) ++ []))
    ∙ ap (λ u. Some u) same

lists_tell : (a b : Tree) → a ≡ listed (children a) → b ≡ listed (children b) → AllTell (each_constant (children b)) (each_const (children b)) → Tells (text_value (text_round (children a) (each_constant (children b)))) (template_const (texts_all (facts (a ▸ (b ▸ none)))) (texts_in b))
lists_tell a b f g h v e =
    ap (λ x. template_const (texts_all (facts (x ▸ (b ▸ none)))) (texts_in b)) f
    ∙ ap (λ x. template_const (texts_all (facts (listed (children a) ▸ (x ▸ none)))) (texts_in x)) g
    ∙ round_tells (children a) (children b) h v e

-- what the items of each child tell
abbrev ItemsTell : Trees → Type 0
ItemsTell none = Unit {0}
ItemsTell (t ▸ ts) = AllTell (each_constant (children t)) (each_const (children t)) × ItemsTell ts

template_tells : (ts : Trees) → ItemsTell ts → Tells (template_constant ts (each_constants ts)) (template_const (texts_all (facts ts)) (nth_texts (each_texts ts) 1))
template_tells none h v e = nothing e
template_tells (a ▸ none) h v e = nothing e
template_tells (a ▸ (b ▸ (c ▸ ts))) h v e = go (nat_eq (suc (suc (suc (count ts)))) 2) refl (is_listed a && is_listed b) e
  where
    go : (x : Bool) → nat_eq (suc (suc (suc (count ts)))) 2 ≡ x → (y : Bool) → (if x && y then text_value (text_round (children a) (constants_in b)) else None) ≡ Some v → template_const (texts_all (facts (a ▸ (b ▸ (c ▸ ts))))) (texts_in b) ≡ Some v
    go true k y e = let two : suc (suc (suc (count ts))) ≡ 2 = eqb-true (suc (suc (suc (count ts)))) 2 k in absurd (omega (arith, two))
    go false k y e = nothing e
template_tells (a ▸ (b ▸ none)) h v e = go (is_listed a) (is_listed b) refl refl e
  where
    go : (x y : Bool) → is_listed a ≡ x → is_listed b ≡ y → (if x && y then text_value (text_round (children a) (constants_in b)) else None) ≡ Some v → template_const (texts_all (facts (a ▸ (b ▸ none)))) (texts_in b) ≡ Some v
    go true true k l e = lists_tell a b (listed_is a k) (listed_is b l) h.1.0 v (ap (λ cs. text_value (text_round (children a) cs)) (sym (items_are b)) ∙ e)
    go true false k l e = nothing e
    go false y k l e = nothing e

-- all

undefined_tells : (k : NameKind) → Tells (undefined_if (is_undefined_name k)) (name_const k)
undefined_tells k v e = undefined_const k v e

shape_tells : (h : Shape) (ks : List NameKind) (ts : Trees) → AllTell (each_constant ts) (each_const ts) → ItemsTell ts → Tells (constant_by h ks ts (each_constant ts) (each_constants ts)) (const_by h ks (facts ts) (each_const ts) (each_texts ts))
shape_tells shape.Listed ks ts f g v e = last_tells (each_constant ts) (each_const ts) f v e
shape_tells shape.InnerExpression ks ts f g v e = nth_tells (each_constant ts) (each_const ts) f 0 v e
shape_tells shape.Identifier ks ts f g v e = undefined_tells (first_kind ks) v e
shape_tells (shape.IdentifierName s) ks ts f g v e = e
shape_tells (shape.NumericLiteral n) ks ts f g v e = e
shape_tells (shape.StringLiteral s) ks ts f g v e = e
shape_tells (shape.BooleanLiteral b) ks ts f g v e = e
shape_tells shape.NullLiteral ks ts f g v e = e
shape_tells (shape.UnaryExpression o) ks ts f g v e = unary_tells o (nth_const (each_constant ts) 0) (nth_const (each_const ts) 0) (nth_tells (each_constant ts) (each_const ts) f 0) v e
shape_tells (shape.BinaryExpression o) ks ts f g v e = binary_tells o (nth_const (each_constant ts) 0) (nth_const (each_constant ts) 1) (nth_const (each_const ts) 0) (nth_const (each_const ts) 1) (nth_tells (each_constant ts) (each_const ts) f 0) (nth_tells (each_constant ts) (each_const ts) f 1) v e
shape_tells (shape.LogicalExpression o) ks ts f g v e = logical_tells o (nth_const (each_constant ts) 0) (nth_const (each_constant ts) 1) (nth_const (each_const ts) 0) (nth_const (each_const ts) 1) (nth_tells (each_constant ts) (each_const ts) f 0) (nth_tells (each_constant ts) (each_const ts) f 1) v e
shape_tells shape.ConditionalExpression ks ts f g v e = conditional_tells (nth_const (each_constant ts) 0) (nth_const (each_constant ts) 1) (nth_const (each_constant ts) 2) (nth_const (each_const ts) 0) (nth_const (each_const ts) 1) (nth_const (each_const ts) 2) (nth_tells (each_constant ts) (each_const ts) f 0) (nth_tells (each_constant ts) (each_const ts) f 1) (nth_tells (each_constant ts) (each_const ts) f 2) v e
shape_tells shape.SequenceExpression ks ts f g v e = nth_tells (each_constant ts) (each_const ts) f 0 v e
shape_tells (shape.StaticMemberExpression b) ks ts f g v e = member_tells (nth_const (each_constant ts) 0) (nth_const (each_constant ts) 1) (nth_const (each_const ts) 0) (nth_const (each_const ts) 1) (nth_tells (each_constant ts) (each_const ts) f 0) (nth_tells (each_constant ts) (each_const ts) f 1) v e
shape_tells (shape.ComputedMemberExpression b) ks ts f g v e = member_tells (nth_const (each_constant ts) 0) (nth_const (each_constant ts) 1) (nth_const (each_const ts) 0) (nth_const (each_const ts) 1) (nth_tells (each_constant ts) (each_const ts) f 0) (nth_tells (each_constant ts) (each_const ts) f 1) v e
shape_tells shape.TemplateLiteral ks ts f g v e = template_tells ts g v e
shape_tells h ks ts f g v e = nothing e

mutual
  tells : (t : Tree) → Tells (constant t) (const t)
  tells (node h xs n ts) = shape_tells h (kinds xs) ts (all_tell ts) (items_tell ts)

  all_tell : (ts : Trees) → AllTell (each_constant ts) (each_const ts)
  all_tell none = tt
  all_tell (t ▸ ts) = (tells t, all_tell ts)

  in_tells : (t : Tree) → AllTell (each_constant (children t)) (each_const (children t))
  in_tells (node h xs n ts) = all_tell ts

  items_tell : (ts : Trees) → ItemsTell ts
  items_tell none = tt
  items_tell (t ▸ ts) = (in_tells t, items_tell ts)

pub constant_is_const : ConstantIsConst
constant_is_const = tells

agrees : (c d : Option Value) (v : Value) → Tells c d → Agrees d v → Agrees c v
agrees (Some u) d v h p = sym_agrees d (h u refl) p
  where
    sym_agrees : (d : Option Value) → d ≡ Some u → Agrees d v → v ≡ u
    sym_agrees d k p = subst (λ x. Agrees x v) k p
agrees None d v h p = tt

pub constant_truth_is : ConstantTruth
constant_truth_is t e s = gives_both (Agrees (const t)) (OfKind (kind t)) (λ v. Agrees (constant_truth t) (truth v)) (λ v p q. truth_known (constant t) (kind t) v (agrees (constant t) (const t) v (tells t) p) q) _ (const_sound t e s) (kind_sound t e s)
