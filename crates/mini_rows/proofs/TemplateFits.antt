-- A template that stands where an expression may: its pieces and parts do, and a text that is made of them can be written.
use Rattle.std.proofs.Common.{◌≡◌, ℕ, suc, Bool, true, false, List, [], ◌++◌, Option, Some, None, refl, sym, subst, true≢false, eqb-true}
use Rattle.std.specs.Prelude.{◌&&◌, ◌==◌, nat_eq}
use Rattle.std.proofs.lemmas.Bool.{and_parts}
use Rattle.mini_model.specs.declared.shape.Shape.TheVariants as shape
use Rattle.mini_model.specs.Templates.{cooked}
use Rattle.mini_model.specs.Tree.{Tree, Trees, node, none, ◌▸◌, count, shape_of}
use Rattle.mini_accept.specs.WellShaped.{untagged, each, pieces as pieces_filling, is_same_flag, is_text_of_cooked, is_quasi, are_quasis, is_paired, fits, fill}
use Rattle.mini_laws.specs.Value.{Value}
use Rattle.mini_kept.proofs.Bools.{left}
use Rattle.mini_kept.proofs.Expressions.{expression}
use Rattle.mini_terms.specs.Const.{text_of}
use Rattle.mini_terms.specs.Templates.{template, cooked_in, joined_text, text_between}
use Rattle.mini_rows.proofs.ListShapes.{AllFit, first_fits}
use Rattle.mini_rows.proofs.Surrogates.{is_paired_joined}

nothing : {A : Type 0} {a : A} {B : Type 0} → None ≡ Some a → B
nothing e = cc e

module _ (strict : Bool) where
  -- what a template is made of
  pub record Made (ps ts : Trees) : Type 0 where
    pub counts : count ps ≡ suc (count ts)
    pub texts : are_quasis untagged ps ≡ true
    pub parts : AllFit strict expression ts

  filled_quasis : (ps : Trees) → fill strict (pieces_filling untagged) ps ≡ true → are_quasis untagged ps ≡ true
  filled_quasis none e = e
  filled_quasis (p ▸ ps) e = e

  pub template_made : (ps ts : Trees) → fits strict expression (template ps ts) ≡ true → Made ps ts
  template_made ps ts e =
      let (whole, rest) = and_parts (nat_eq (count ps) (suc (count ts))) (fill strict (pieces_filling untagged) ps && (fill strict (each expression) ts && true)) e in
      let (texts, parts) = and_parts (fill strict (pieces_filling untagged) ps) (fill strict (each expression) ts && true) rest in
      record { counts = eqb-true (count ps) (suc (count ts)) whole; texts = filled_quasis ps texts; parts = left (fill strict (each expression) ts) true parts }

-- a piece cooks to a text that can be written
quasi_paired : (last : Bool) (p : Tree) (s : List ℕ) → is_quasi untagged last p ≡ true → cooked_in (shape_of p) ≡ Some s → is_paired s ≡ true
quasi_paired last (node (shape.TemplateElement is_tail raw (Some c)) [] n none) s e h =
    let (marks, rest) = and_parts (is_same_flag is_tail last && true) ((n == 0) && (is_paired raw && (is_text_of_cooked (Some c) (cooked raw) && is_paired c))) e in
    let (unnumbered, fields) = and_parts (n == 0) (is_paired raw && (is_text_of_cooked (Some c) (cooked raw) && is_paired c)) rest in
    let (raws, others) = and_parts (is_paired raw) (is_text_of_cooked (Some c) (cooked raw) && is_paired c) fields in
    let same : c ≡ s = cc h in
    subst (λ r. is_paired r ≡ true) same (and_parts (is_text_of_cooked (Some c) (cooked raw)) (is_paired c) others).1
quasi_paired last (node (shape.TemplateElement is_tail raw None) xs n ts) s e h = nothing h
quasi_paired last (node (shape.TemplateElement is_tail raw (Some c)) xs n ts) s e h = absurd (true≢false (sym e))
quasi_paired last p s e h = nothing h

abbrev IsPaired : Option (List ℕ) → Type 0
IsPaired o = (s : List ℕ) → o ≡ Some s → is_paired s ≡ true

pairs_joined : (a b : Option (List ℕ)) → IsPaired a → IsPaired b → IsPaired (joined_text a b)
pairs_joined (Some a) (Some b) h k s e = subst (λ r. is_paired r ≡ true) {x = a ++ b} {y = s} (cc e) (is_paired_joined a b (h a refl) (k b refl))
pairs_joined (Some a) None h k s e = nothing e
pairs_joined None b h k s e = nothing e

module _ (strict : Bool) (f : Tree → Option Value) (paired : (t : Tree) → fits strict expression t ≡ true → IsPaired (text_of (f t))) where
  pub text_paired : (ps ts : Trees) → are_quasis untagged ps ≡ true → AllFit strict expression ts → IsPaired (text_between f ps ts)
  text_paired none ts e h s k = nothing k
  text_paired (p ▸ none) none e h s k = quasi_paired true p s e k
  text_paired (p ▸ (q ▸ ps)) none e h s k = nothing k
  text_paired (p ▸ none) (t ▸ ts) e h s k = pairs_joined (cooked_in (shape_of p)) (joined_text (text_of (f t)) None) (λ r l. quasi_paired true p r e l) (pairs_joined (text_of (f t)) None (paired t (first_fits strict expression t ts h).0) (λ r l. nothing l)) s k
  text_paired (p ▸ (q ▸ ps)) (t ▸ ts) e h s k =
      let (first, rest) = and_parts (is_quasi untagged false p) (are_quasis untagged (q ▸ ps)) e in
      let (fit, others) = first_fits strict expression t ts h in
      pairs_joined (cooked_in (shape_of p)) (joined_text (text_of (f t)) (text_between f (q ▸ ps) ts)) (λ r l. quasi_paired false p r first l)
      (pairs_joined (text_of (f t)) (text_between f (q ▸ ps) ts) (paired t fit) (text_paired (q ▸ ps) ts rest others)) s k
