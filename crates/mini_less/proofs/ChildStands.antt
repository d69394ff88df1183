-- A child stands in a slot of its place, where the node does; so what declares names in a list of
-- statements does it by declarators alone.
use Rattle.std.specs.Prelude.{ℕ, suc, ◌≡◌, refl, Bool, true, false, ◌&&◌, ◌||◌, List, [], ◌∷◌, ◌++◌, nat_le}
use Rattle.std.proofs.Common.{ap, ◌∙◌, sym, true≢false}
use Rattle.mini_accept.specs.WellShaped.{Filling, Slot, Tagging, untagged, tagged, a_declarator, a_statement, are_quasis, class_of, each, each_or_last, fill, filling, fits, is_last, is_quasi, is_strict_in, is_whole, one, pieces, refused, these}
use Rattle.mini_kept.specs.Placed.{fits_place, is_statement_list}
use Rattle.mini_kept.proofs.Bools.{left, right}
use Rattle.mini_kept.proofs.Expressions.{refused_here}
use Rattle.mini_kept.proofs.Placed.{Placed, placed_below, statements_slot}
use Rattle.mini_model.specs.declared.kind.VariableDeclarationKind.{VariableDeclarationKind}
use Rattle.mini_model.specs.declared.name.Name.{Name}
use Rattle.mini_model.specs.declared.place.Position.{Position}
use Rattle.mini_model.specs.declared.shape.Shape.{Shape}
use Rattle.mini_model.specs.declared.shape.Shape.TheVariants as shape
use Rattle.mini_model.specs.Paths.{append}
use Rattle.mini_model.specs.Position.{child_position}
use Rattle.mini_model.specs.Tree.{Tree, Trees, node, none, ◌▸◌, count, listed}
use Rattle.mini_laws.specs.DeclaredNames.{all_names, names_of}
use Rattle.mini_laws.specs.declared.names.Declared.TheVariants as declared
use Rattle.mini_shrink.proofs.Fitting.{Stood}
use Rattle.mini_rows.specs.Lists.{declaration}
use Rattle.mini_rows.proofs.ListShapes.{declaration_anywhere}
use Rattle.mini_less.specs.Families.{LessAt}
use Rattle.mini_less.proofs.Listing.{list_slot, middle_fits}

-- what has to be shown of a node only where it may stand
pub less_where : (p : Position) (n w : Tree) → (Stood p n → LessAt p n w) → LessAt p n w
less_where p n w f = record {
  asks = λ g b s. record { by = λ strict slot o fit c env st sc. ((f (record { strict = strict; slot = slot; placed = o; fit = fit })).asks g b s).by strict slot o fit c env st sc };
  fewer = λ strict slot o fit. (f (record { strict = strict; slot = slot; placed = o; fit = fit })).fewer strict slot o fit;
}

-- ---- a child

-- it is no text of a template
abbrev pub NoText : Tree → Type 0
NoText t = (g : Tagging) (last : Bool) → is_quasi g last t ≡ false

module _ (t : Tree) (post : Trees) (text : NoText t) where
  no_texts : (g : Tagging) (pre : Trees) → are_quasis g (append pre (t ▸ post)) ≡ true → ⊥
  no_texts g none e = by post e
    where
      by : (post : Trees) → are_quasis g (t ▸ post) ≡ true → ⊥
      by none e = true≢false (sym e ∙ text g true)
      by (u ▸ us) e = true≢false (sym (left (is_quasi g false t) (are_quasis g (u ▸ us)) e) ∙ text g false)
  no_texts g (p ▸ none) e = no_texts g none (right (is_quasi g false p) (are_quasis g (t ▸ post)) e)
  no_texts g (p ▸ (q ▸ pre)) e = no_texts g (q ▸ pre) (right (is_quasi g false p) (are_quasis g (append (q ▸ pre) (t ▸ post))) e)

  either_slot : (p : Position) (strict : Bool) (s r : Slot) (b : Bool) → fits_place p s ≡ true → fits_place p r ≡ true → (fits strict s t || (b && fits strict r t)) ≡ true → Stood p t
  either_slot p strict s r b x y e = by (fits strict s t) refl
    where
      by : (c : Bool) → fits strict s t ≡ c → Stood p t
      by true f = record { strict = strict; slot = s; placed = x; fit = f }
      by false f = record { strict = strict; slot = r; placed = y; fit = right b (fits strict r t) (sym (ap (λ c. c || (b && fits strict r t)) f) ∙ e) }

  among_stood : (π : ℕ → Position) (strict : Bool) (g : Filling) → Placed π g → (pre : Trees) → fill strict g (append pre (t ▸ post)) ≡ true → Stood (π (count pre)) t
  among_stood π strict refused o none e = absurd (cc e)
  among_stood π strict refused o (p ▸ pre) e = absurd (cc e)
  among_stood π strict (these []) o none e = absurd (cc e)
  among_stood π strict (these []) o (p ▸ pre) e = absurd (cc e)
  among_stood π strict (these (s ∷ ss)) o none e = record { strict = strict; slot = s; placed = o.0; fit = left (fits strict s t) (fill strict (these ss) post) e }
  among_stood π strict (these (s ∷ ss)) o (p ▸ pre) e = among_stood (λ j. π (suc j)) strict (these ss) o.1 pre (right (fits strict s p) (fill strict (these ss) (append pre (t ▸ post))) e)
  among_stood π strict (each s) o none e = record { strict = strict; slot = s; placed = o 0; fit = left (fits strict s t) (fill strict (each s) post) e }
  among_stood π strict (each s) o (p ▸ pre) e = among_stood (λ j. π (suc j)) strict (each s) (λ j. o (suc j)) pre (right (fits strict s p) (fill strict (each s) (append pre (t ▸ post))) e)
  among_stood π strict (each_or_last s r) o none e = either_slot (π 0) strict s r (is_last post) (o 0).0 (o 0).1 (left (fits strict s t || (is_last post && fits strict r t)) (fill strict (each_or_last s r) post) e)
  among_stood π strict (each_or_last s r) o (p ▸ pre) e = among_stood (λ j. π (suc j)) strict (each_or_last s r) (λ j. o (suc j)) pre (right (fits strict s p || (is_last (append pre (t ▸ post)) && fits strict r p)) (fill strict (each_or_last s r) (append pre (t ▸ post))) e)
  among_stood π strict (pieces g) o none e = elim (no_texts g none e) [ ]
  among_stood π strict (pieces g) o (p ▸ pre) e = elim (no_texts g (p ▸ pre) e) [ ]

  pub child_stood : (p : Position) (h : Shape) (xs : List Name) (n : ℕ) (pre : Trees) → Stood p (node h xs n (append pre (t ▸ post))) → Stood (child_position h p (count (append pre (t ▸ post))) (count pre)) t
  child_stood p h xs n pre s =
      let ts = append pre (t ▸ post) in
      among_stood (child_position h p (count ts)) (is_strict_in s.strict h) (filling s.strict s.slot h) (placed_below s.strict s.slot h p (count ts) s.placed) pre (right (is_whole (class_of s.slot) h xs n ts) (fill (is_strict_in s.strict h) (filling s.strict s.slot h) ts) s.fit)

-- a list is no text, nor is what holds others
pub list_no_text : (ts : Trees) → NoText (listed ts)
list_no_text none untagged last = refl
list_no_text none tagged last = refl
list_no_text (t ▸ ts) g last = refl

pub holder_no_text : (h : Shape) (n : ℕ) (t : Tree) (ts : Trees) → NoText (node h [] n (t ▸ ts))
holder_no_text h n t ts g last = refl

-- ---- a declaration in a list of statements

declarator_lexical : (strict : Bool) (t : Tree) → fits strict (one a_declarator) t ≡ true → names_of declared.Lexical t ≡ []
unfolding names_of
declarator_lexical strict (node shape.ImportDeclaration xs n ts) f = absurd (refused_here strict (one a_declarator) shape.ImportDeclaration xs n ts refl f)
declarator_lexical strict (node (shape.VariableDeclaration k) xs n ts) f = absurd (refused_here strict (one a_declarator) (shape.VariableDeclaration k) xs n ts refl f)
declarator_lexical strict (node (shape.Function true g ds) xs n ts) f = absurd (refused_here strict (one a_declarator) (shape.Function true g ds) xs n ts refl f)
declarator_lexical strict (node (shape.Class true) xs n ts) f = absurd (refused_here strict (one a_declarator) (shape.Class true) xs n ts refl f)
declarator_lexical strict (node shape.ExportNamedDeclaration xs n ts) f = absurd (refused_here strict (one a_declarator) shape.ExportNamedDeclaration xs n ts refl f)
declarator_lexical strict (node shape.ExportDefaultDeclaration xs n ts) f = absurd (refused_here strict (one a_declarator) shape.ExportDefaultDeclaration xs n ts refl f)
declarator_lexical strict (node shape.SwitchCase xs n ts) f = absurd (refused_here strict (one a_declarator) shape.SwitchCase xs n ts refl f)
declarator_lexical strict (node shape.Listed xs n ts) f = absurd (refused_here strict (one a_declarator) shape.Listed xs n ts refl f)
declarator_lexical strict (node h xs n ts) f = refl

declarators_lexical : (strict : Bool) (ts us : Trees) → fill strict (each (one a_declarator)) (append ts us) ≡ true → all_names declared.Lexical ts ≡ []
unfolding names_of
declarators_lexical strict none us e = refl
declarators_lexical strict (t ▸ ts) us e = λ j. declarator_lexical strict t (left (fits strict (one a_declarator) t) (fill strict (each (one a_declarator)) (append ts us)) e) j ++ declarators_lexical strict ts us (right (fits strict (one a_declarator) t) (fill strict (each (one a_declarator)) (append ts us)) e) j

-- the first declarators of a declaration in such a list declare no lexical name themselves
pub first_plain : (q : Position) → is_statement_list q ≡ true → (a before : Trees) (k : VariableDeclarationKind) (first others rest after : Trees) → a ≡ append before (append (declaration k (append first others) ▸ rest) after) → Stood q (listed a) → all_names declared.Lexical first ≡ []
first_plain q l a before k first others rest after is s =
    let (depth, same, fit) = statements_slot s.strict s.slot [] 0 a (list_slot q l s.slot s.placed) s.fit in
    let d = declaration k (append first others) in
    let these_fit = middle_fits s.strict (one (a_statement depth)) before (d ▸ rest) after (sym (ap (fill s.strict (each (one (a_statement depth)))) is) ∙ fit) in
    let one_fits = left (fits s.strict (one (a_statement depth)) d) (fill s.strict (each (one (a_statement depth))) rest) these_fit in
    let all = right (nat_le 1 (count (append first others))) (fill s.strict (each (one a_declarator)) (append first others) && true) (sym (declaration_anywhere s.strict depth k (append first others)) ∙ one_fits) in
    declarators_lexical s.strict first others (left (fill s.strict (each (one a_declarator)) (append first others)) true all)
