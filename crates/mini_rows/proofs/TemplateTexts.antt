-- A template without expressions, and its text: they mean the same, and what is written keeps all that a program has to keep.
use Rattle.std.proofs.Common.{◌≡◌, ℕ, ◌<◌, Bool, true, false, List, [], Some, None, refl, sym, ap, ◌∙◌, arith}
use Rattle.std.specs.Prelude.{◌&&◌, length, nat_le}
use Rattle.std.proofs.lemmas.Bool.{and_parts, false≢true, leb-true}
use Rattle.mini_model.specs.Templates.{cooked as cooked_of}
use Rattle.mini_model.specs.declared.place.Position.TheVariants.{Expr}
use Rattle.mini_model.specs.declared.seat.Seat.{Seat}
use Rattle.mini_model.specs.declared.shape.Shape.TheVariants as shape
use Rattle.mini_model.specs.Tree.{Tree, Trees, none, ◌▸◌, leaf, listed}
use Rattle.mini_model.specs.Weight.{weight}
use Rattle.mini_accept.specs.WellShaped.{untagged, Depth, in_module, in_body, nested, Class, a_statement, an_init, an_arrow_body, an_expression, a_link, an_argument, a_key, a_private_or_key, an_inner_key, a_default_export, a_tagged_template, Slot, one, one_or_absent, quasis, filling, refused, is_paired, is_same_flag, is_text_of_cooked, fits}
use Rattle.mini_laws.specs.declared.names.Use.{Use}
use Rattle.mini_laws.specs.DeclaredNames.{has_inner}
use Rattle.mini_laws.specs.Resolved.{Environment as Names}
use Rattle.mini_laws.specs.Scopes.{scopes_by}
use Rattle.mini_laws.specs.Scoped.{Scoped}
use Rattle.mini_laws.specs.declared.names.Targets.{Targets}
use Rattle.mini_laws.specs.Symbols.{declared as declared_in, times}
use Rattle.mini_laws.specs.Early.{Path, early_names, early_jumps, scope_declarations}
use Rattle.mini_laws.specs.Demand.{Demand, As, Callee, OfType, Deleted, AnEntry, Request}
use Rattle.mini_laws.specs.State.{State, either, Environment}
use Rattle.mini_laws.specs.Step.{step, means, meaning}
use Rattle.mini_kept.specs.Carried.{numbers}
use Rattle.mini_kept.specs.Frames.{frames}
use Rattle.mini_kept.specs.KeepsNames.{unplaced, count_of}
use Rattle.mini_kept.specs.KeepsShapes.{AskedAlike}
use Rattle.mini_kept.specs.Placed.{fits_seat, fits_place}
use Rattle.mini_kept.proofs.Bools.{left}
use Rattle.mini_kept.proofs.Expressions.{refused_here, TakesExpressionIn, TakesExpression, expression_taken}
use Rattle.mini_kept.proofs.FrameLists.{same_frames}
use Rattle.mini_kept.proofs.InOrder.{in_order}
use Rattle.mini_kept.proofs.Quiet.{no_names, no_body_names, no_body_declarations, no_loop}
use Rattle.mini_rows.specs.Arranged.{KeptAt}
use Rattle.mini_rows.specs.Spellings.{text, template}
use Rattle.mini_rows.proofs.SpellAlike.{SameTree}

-- ---- they mean the same

text_does : (l : Bool) (raw s : List ℕ) (e : Environment) (q : Demand) (r : Request q) (z : State) → means e (template l raw s) q r z ≡ means e (text s) q r z
unfolding means meaning step either
text_does l raw s e (As w) r z = refl
text_does l raw s e Callee r z = refl
text_does l raw s e OfType r z = refl
text_does l raw s e Deleted r z = refl
text_does l raw s e AnEntry r z = refl
text_does l raw s e q r z = refl

pub text_same : (l : Bool) (raw s : List ℕ) → SameTree (template l raw s) (text s)
text_same l raw s = record { by = text_does l raw s; read = refl }

-- ---- where they stand

module _ (l : Bool) (raw s : List ℕ) where
  abbrev pub piece : Tree
  piece = leaf (shape.TemplateElement l raw (Some s))

  abbrev parts : Trees
  parts = listed (piece ▸ none) ▸ listed none ▸ none

  nowhere : (strict : Bool) (d : Depth) → filling strict (one (a_statement d)) shape.TemplateLiteral ≡ refused
  nowhere true in_module = refl
  nowhere true in_body = refl
  nowhere true nested = refl
  nowhere false in_module = refl
  nowhere false in_body = refl
  nowhere false nested = refl

  -- its text is one of a program
  content_paired : (strict : Bool) → (fits strict (quasis untagged) (listed (piece ▸ none)) && true) ≡ true → is_paired s ≡ true
  content_paired strict e =
      let (first, rest) = and_parts (is_same_flag l true && true) (is_paired raw && (is_text_of_cooked (Some s) (cooked_of raw) && is_paired s)) (left (fits strict (quasis untagged) (listed (piece ▸ none))) true e) in
      let (own, others) = and_parts (is_paired raw) (is_text_of_cooked (Some s) (cooked_of raw) && is_paired s) rest in
      (and_parts (is_text_of_cooked (Some s) (cooked_of raw)) (is_paired s) others).1

  template_in : (strict : Bool) (q : Seat) (c : Class) → fits_seat q c ≡ true → fits strict (one c) (template l raw s) ≡ true → TakesExpressionIn c × (is_paired s ≡ true)
  template_in strict q an_expression v e = (tt, content_paired strict e)
  template_in strict q a_link v e = (tt, content_paired strict e)
  template_in strict q an_argument v e = (tt, content_paired strict e)
  template_in strict q an_init v e = (tt, content_paired strict e)
  template_in strict q an_arrow_body v e = (tt, content_paired strict e)
  template_in strict q a_default_export v e = (tt, content_paired strict e)
  template_in strict q (a_key true) v e = (tt, content_paired strict e)
  template_in strict q (a_key false) v e = absurd (false≢true v)
  template_in strict q a_tagged_template v e = absurd (false≢true v)
  template_in strict q (a_statement d) v e = absurd (refused_here strict (one (a_statement d)) shape.TemplateLiteral [] 0 parts (nowhere strict d) e)
  template_in strict q (a_private_or_key true) v e = absurd (refused_here strict (one (a_private_or_key true)) shape.TemplateLiteral [] 0 parts refl e)
  template_in strict q (a_private_or_key false) v e = absurd (false≢true v)
  template_in strict q (an_inner_key true) v e = absurd (refused_here strict (one (an_inner_key true)) shape.TemplateLiteral [] 0 parts refl e)
  template_in strict q (an_inner_key false) v e = absurd (false≢true v)
  template_in strict q c v e = absurd (refused_here strict (one c) shape.TemplateLiteral [] 0 parts refl e)

  pub template_at : (strict : Bool) (q : Seat) (p : Slot) → fits_place (Expr q) p ≡ true → fits strict p (template l raw s) ≡ true → TakesExpression p × (is_paired s ≡ true)
  template_at strict q (one c) v e = template_in strict q c v e
  template_at strict q (one_or_absent c) v e = template_in strict q c v e
  template_at strict q p v e = absurd (false≢true v)

  pub text_fits : (strict : Bool) (q : Seat) (p : Slot) → fits_place (Expr q) p ≡ true → fits strict p (template l raw s) ≡ true → fits strict p (text s) ≡ true
  text_fits strict q p v e = let (takes, paired) = template_at strict q p v e in expression_taken strict p (text s) takes (ap (λ a. (a && true) && true) paired)

  pub text_asked : (q : Seat) → AskedAlike (Expr q) (template l raw s) (text s)
  text_asked q = record {
    absent = λ e. absurd (false≢true e);
    body = λ e. absurd (false≢true e);
    optional = λ e. absurd (false≢true e);
    number = λ asks e. refl;
    spelled = λ t e. absurd (cc e);
    plain = refl;
  }

  -- ---- what is kept

  inner_same : has_inner (text s) ≡ has_inner (template l raw s)
  unfolding has_inner
  inner_same = refl

  symbols_same : (u : Use) → declared_in u (text s) ≡ declared_in u (template l raw s)
  unfolding declared_in scopes_by
  symbols_same u = refl

  scoped_same : (u : Use) (env : Names) → Scoped u env (template l raw s) → Scoped u env (text s)
  unfolding Scoped scopes_by
  scoped_same u env e = (tt, tt)

  numbers_same : numbers (text s) ≡ numbers (template l raw s)
  unfolding numbers
  numbers_same = refl

  once_same : (p : Path) → early_names p (template l raw s) ≡ [] → early_names p (text s) ≡ []
  unfolding early_names scope_declarations
  once_same p e = refl

  targets_same : (g : Targets) (p : Path) → early_jumps g p (template l raw s) ≡ [] → early_jumps g p (text s) ≡ []
  unfolding early_jumps
  targets_same g p e = refl

  pub text_kept : (q : Seat) → KeptAt (Expr q) (template l raw s) (text s)
  text_kept q = record {
    keeps = λ strict p v e. in_order (Expr q) (template l raw s) (text s) (record {
      kept = record {
        names = λ d. no_names d (text s) refl ∙ sym (no_names d (template l raw s) refl);
        body = no_body_names (text s) refl ∙ sym (no_body_names (template l raw s) refl);
        inner = inner_same;
        symbols = λ u x. omega (arith, ap (times x) (symbols_same u));
      };
      scoped = λ u env k. scoped_same u env;
      numbers = λ k. omega (arith, ap (count_of k) numbers_same);
      declared_as_body = λ b p. ap unplaced (no_body_declarations b p (text s) refl ∙ sym (no_body_declarations b p (template l raw s) refl));
      once = once_same;
      targets = targets_same;
      loop = no_loop (text s) refl ∙ sym (no_loop (template l raw s) refl);
      root = λ k. absurd (cc k);
      block = λ k. absurd (cc k);
    });
    piece = refl;
    kind = λ strict p e. refl;
    bodies = λ strict p v e a st. tt;
    ports = λ strict d e m. (refl, refl);
    listed = λ k. absurd (cc k);
    exported = λ strict e. (refl, refl);
    frames = λ strict p v e. same_frames (frames None (template l raw s)) (frames None (text s)) refl;
    fixed = λ x. refl;
    declared = λ x c. c;
  }

-- ---- lighter

pub text_falls : (q : Seat) (l : Bool) (raw s : List ℕ) → nat_le (length s) (length raw) ≡ true → weight (Expr q) (text s) < weight (Expr q) (template l raw s)
text_falls q l raw s e = omega (arith, leb-true (length s) (length raw) e)
