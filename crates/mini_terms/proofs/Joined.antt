-- The text of a template, one part after another, and what it is made of.
use Rattle.std.proofs.Common.{◌≡◌, ℕ, zero, suc, ◌<◌, ◌+◌, ◌≤◌, false, List, [], ◌∷◌, ◌++◌, append_assoc, Option, Some, None, true, refl, sym, ap, ◌∙◌, subst, true≢false, eq-eqb, arith}
use Rattle.std.proofs.lemmas.Bool.{false≢true}
use Rattle.std.specs.Prelude.{nat_eq}
use Rattle.mini_model.specs.declared.shape.Shape.TheVariants as shape
use Rattle.mini_model.specs.Tree.{Tree, Trees, node, none, ◌▸◌, children, count, shape_of, child_or_absent}
use Rattle.mini_node.specs.Children.{part, rest_children}
use Rattle.mini_node.specs.Walks.{from_first, next_child, no_rest}
use Rattle.mini_laws.specs.Value.{Value, String}
use Rattle.mini_laws.specs.Expressions.{interleaved}
use Rattle.mini_laws.specs.Naming.{facts, texts_all}
use Rattle.mini_terms.specs.Const.{cons_text, text_of, all_texts, template_const, const, each_const}
use Rattle.mini_terms.specs.Templates.{template, is_template, cooked_in, joined_text, text_between, text_value}

nothing : {A : Type 0} {a : A} {B : Type 0} → None ≡ Some a → B
nothing e = cc e

-- ---- one after another

joined_empty : (o : Option (List ℕ)) → joined_text (Some []) o ≡ o
joined_empty (Some s) = refl
joined_empty None = refl

joined_nothing : (a b : Option (List ℕ)) → joined_text a (joined_text b None) ≡ None
joined_nothing (Some a) (Some b) = refl
joined_nothing (Some a) None = refl
joined_nothing None b = refl

append_twice : (a b c d : List ℕ) → ((a ++ b) ++ c) ++ d ≡ a ++ (b ++ (c ++ d))
append_twice a b c d = append_assoc (a ++ b) c d ∙ append_assoc a b (c ++ d)

joined_assoc : (a b c d : Option (List ℕ)) → joined_text (joined_text (joined_text a b) c) d ≡ joined_text a (joined_text b (joined_text c d))
joined_assoc (Some a) (Some b) (Some c) (Some d) = ap (λ x. Some x) (append_twice a b c d)
joined_assoc (Some a) (Some b) (Some c) None = refl
joined_assoc (Some a) (Some b) None d = refl
joined_assoc (Some a) None c d = refl
joined_assoc None b c d = refl

module _ (f : Tree → Option Value) where
  unequal : (ps ts : Trees) → (count ps ≡ count ts + 1 → ⊥) → text_between f ps ts ≡ None
  unequal none ts h = refl
  unequal (p ▸ none) none h = absurd (h (omega arith))
  unequal (p ▸ (q ▸ ps)) none h = refl
  unequal (p ▸ ps) (t ▸ ts) h =
      ap (λ o. joined_text (cooked_in (shape_of p)) (joined_text (text_of (f t)) o)) (unequal ps ts (λ e. h (omega (arith, e))))
      ∙ joined_nothing (cooked_in (shape_of p)) (text_of (f t))

  -- what is left of both lists from this place on
  abbrev Left : Trees → Trees → ℕ → Option (List ℕ)
  Left ps ts i = text_between f (rest_children i ps) (rest_children i ts)

  abbrev pub Between : Trees → Trees → ℕ → Option (List ℕ) → Type 0
  Between ps ts i o = joined_text o (Left ps ts i) ≡ text_between f ps ts

  pub none_round : (ps ts : Trees) → nat_eq (count ps) (count ts + 1) ≡ false → None ≡ text_between f ps ts
  none_round ps ts e = sym (unequal ps ts (λ h. true≢false (sym (eq-eqb (count ps) (count ts + 1) h) ∙ e)))

  pub first_part : (ps ts : Trees) → Between ps ts 0 (Some [])
  first_part ps ts = joined_empty (Left ps ts 0) ∙ ap (λ x. text_between f x (rest_children 0 ts)) (from_first ps) ∙ ap (text_between f ps) (from_first ts)

  next_left : (ps ts : Trees) (i : ℕ) → i < count ps → i < count ts → Left ps ts i ≡ joined_text (cooked_in (shape_of (child_or_absent ps i))) (joined_text (text_of (f (child_or_absent ts i))) (Left ps ts (suc i)))
  next_left ps ts i h k = ap (λ x. text_between f x (rest_children i ts)) (next_child ps i h) ∙ ap (text_between f (child_or_absent ps i ▸ rest_children (suc i) ps)) (next_child ts i k)

  pub one_more : (ps ts : Trees) (i : ℕ) (o u : Option (List ℕ)) → count ps ≡ count ts + 1 → i < count ts → u ≡ joined_text (joined_text o (cooked_in (shape_of (child_or_absent ps i)))) (text_of (f (child_or_absent ts i))) → Between ps ts i o → Between ps ts (i + 1) u
  one_more ps ts i o u h k e inv =
      let next : i + 1 ≡ suc i = omega arith in
      ap (λ j. joined_text u (Left ps ts j)) next
      ∙ ap (λ x. joined_text x (Left ps ts (suc i))) e
      ∙ joined_assoc o (cooked_in (shape_of (child_or_absent ps i))) (text_of (f (child_or_absent ts i))) (Left ps ts (suc i))
      ∙ sym (ap (joined_text o) (next_left ps ts i (omega (arith, h, k)) k))
      ∙ inv

  pub last_piece : (ps ts : Trees) (i : ℕ) (o : Option (List ℕ)) → count ps ≡ count ts + 1 → count ts ≤ i → i ≤ count ts → Between ps ts i o → joined_text o (cooked_in (shape_of (child_or_absent ps (count ts)))) ≡ text_between f ps ts
  last_piece ps ts i o h k l inv =
      let same : count ts ≡ i = omega (arith, k, l) in
      let one : rest_children i ps ≡ child_or_absent ps i ▸ none = next_child ps i (omega (arith, h, k, l)) ∙ ap (λ x. child_or_absent ps i ▸ x) (no_rest ps (suc i) (omega (arith, h, k))) in
      ap (λ j. joined_text o (cooked_in (shape_of (child_or_absent ps j)))) same
      ∙ sym (ap (λ x. joined_text o (text_between f x (rest_children i ts))) one ∙ ap (λ x. joined_text o (text_between f (child_or_absent ps i ▸ none) x)) (no_rest ts i k))
      ∙ inv

-- ---- what it is made of

pub template_is : (t : Tree) → is_template t ≡ true → t ≡ template (children (part t 0)) (children (part t 1))
template_is (node shape.TemplateLiteral [] zero (node shape.Listed [] zero ps ▸ (node shape.Listed [] zero ts ▸ none))) e = refl
template_is (node shape.TemplateLiteral [] zero (node shape.Listed [] zero ps ▸ (u ▸ none))) e = absurd (false≢true e)
template_is (node shape.TemplateLiteral [] zero (u ▸ (v ▸ none))) e = absurd (false≢true e)
template_is t e = absurd (false≢true e)

-- a piece cooks to a text
pub cooks : (p : Tree) (s : List ℕ) → cooked_in (shape_of p) ≡ Some s → (ps : Trees) → texts_all (facts (p ▸ ps)) ≡ s ∷ texts_all (facts ps)
cooks (node (shape.TemplateElement is_tail raw (Some cooked)) xs n ts) s e ps = ap (λ c. c ∷ texts_all (facts ps)) {x = cooked} {y = s} (cc e)
cooks (node (shape.TemplateElement is_tail raw None) xs n ts) s e ps = nothing e
cooks p s e ps = nothing e

-- the texts of the parts
abbrev pub texts_by : (Tree → Option Value) → Trees → Option (List (List ℕ))
texts_by f none = Some []
texts_by f (t ▸ ts) = cons_text (text_of (f t)) (texts_by f ts)

pub record Told (f : Tree → Option Value) (ps ts : Trees) (text : List ℕ) : Type 0 where
  pub parts : List (List ℕ)
  pub known : texts_by f ts ≡ Some parts
  pub joined : (more : List (List ℕ)) → interleaved (texts_all (facts ps) ++ more) parts ≡ text

told_last : (f : Tree → Option Value) (p : Tree) (text : List ℕ) → cooked_in (shape_of p) ≡ Some text → Told f (p ▸ none) none text
told_last f p text e = record { parts = []; known = refl; joined = λ more. ap (λ ss. interleaved (ss ++ more) []) (cooks p text e none) }

told_next : (f : Tree → Option Value) (p : Tree) (ps : Trees) (t : Tree) (ts : Trees) (a b c : List ℕ) → cooked_in (shape_of p) ≡ Some a → text_of (f t) ≡ Some b → Told f ps ts c → Told f (p ▸ ps) (t ▸ ts) (a ++ (b ++ c))
told_next f p ps t ts a b c e h r = record {
  parts = b ∷ r.parts;
  known = ap (λ o. cons_text o (texts_by f ts)) h ∙ ap (cons_text (Some b)) r.known;
  joined = λ more. ap (λ ss. interleaved (ss ++ more) (b ∷ r.parts)) (cooks p a e ps) ∙ ap (λ s. a ++ (b ++ s)) (r.joined more);
}

told_more : (f : Tree → Option Value) (p : Tree) (ps : Trees) (t : Tree) (ts : Trees) (text : List ℕ) (o : Option (List ℕ)) → ((c : List ℕ) → o ≡ Some c → Told f ps ts c) → joined_text (cooked_in (shape_of p)) (joined_text (text_of (f t)) o) ≡ Some text → Told f (p ▸ ps) (t ▸ ts) text
told_more f p ps t ts text o r e = go (cooked_in (shape_of p)) (text_of (f t)) o refl refl refl e
  where
    go : (a b c : Option (List ℕ)) → cooked_in (shape_of p) ≡ a → text_of (f t) ≡ b → o ≡ c → joined_text a (joined_text b c) ≡ Some text → Told f (p ▸ ps) (t ▸ ts) text
    go (Some a) (Some b) (Some c) h k l e = let same : a ++ (b ++ c) ≡ text = cc e in subst (Told f (p ▸ ps) (t ▸ ts)) same (told_next f p ps t ts a b c h k (r c l))
    go (Some a) (Some b) None h k l e = nothing e
    go (Some a) None c h k l e = nothing e
    go None b c h k l e = nothing e

pub told : (f : Tree → Option Value) (ps ts : Trees) (text : List ℕ) → text_between f ps ts ≡ Some text → Told f ps ts text
told f none ts text e = nothing e
told f (p ▸ none) none text e = told_last f p text e
told f (p ▸ (q ▸ ps)) none text e = nothing e
told f (p ▸ ps) (t ▸ ts) text e = told_more f p ps t ts text (text_between f ps ts) (λ c l. told f ps ts c l) e

pub text_is : (o : Option (List ℕ)) (v : Value) → text_value o ≡ Some v → (text : List ℕ) × ((o ≡ Some text) × (String text ≡ v))
text_is (Some s) v e = (s, (refl, cc e))
text_is None v e = nothing e

-- ---- its constant

module _ (f : Tree → Option Value) (h : (a : Tree) (u : Value) → f a ≡ Some u → const a ≡ Some u) where
  text_known : (t : Tree) (s : List ℕ) → text_of (f t) ≡ Some s → text_of (const t) ≡ Some s
  text_known t s e = go (f t) refl e
    where
      go : (c : Option Value) → f t ≡ c → text_of c ≡ Some s → text_of (const t) ≡ Some s
      go (Some v) k e = ap text_of (h t v k) ∙ e
      go None k e = nothing e

  texts_known : (ts : Trees) (parts : List (List ℕ)) → texts_by f ts ≡ Some parts → all_texts (each_const ts) ≡ Some parts
  texts_known none parts e = e
  texts_known (t ▸ ts) parts e = go (text_of (f t)) (texts_by f ts) refl (λ ss k. texts_known ts ss k) refl e
    where
      go : (a : Option (List ℕ)) (b : Option (List (List ℕ))) → text_of (f t) ≡ a → ((ss : List (List ℕ)) → b ≡ Some ss → all_texts (each_const ts) ≡ Some ss) → b ≡ b → cons_text a b ≡ Some parts → all_texts (each_const (t ▸ ts)) ≡ Some parts
      go (Some s) (Some ss) k l m e = ap (λ o. cons_text o (all_texts (each_const ts))) (text_known t s k) ∙ ap (cons_text (Some s)) (l ss refl) ∙ e
      go (Some s) None k l m e = nothing e
      go None b k l m e = nothing e

  pub template_of : (ps ts : Trees) (v : Value) → text_value (text_between f ps ts) ≡ Some v → const (template ps ts) ≡ Some v
  template_of ps ts v e =
      let (text, (known, same)) = text_is (text_between f ps ts) v e in
      let r : Told f ps ts text = told f ps ts text known in
      ap (template_const (texts_all (facts ps) ++ (texts_all (facts ts) ++ []))) (texts_known ts r.parts r.known)
      ∙ ap (λ s. Some (String s)) (r.joined (texts_all (facts ts) ++ []))
      ∙ ap (λ u. Some u) same
