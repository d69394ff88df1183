-- Rows on templates, as equations: each is a shape and what is written in its place, with the
-- JavaScript before and after. No order of rewriting is meant.
use Rattle.std.specs.Prelude.{◌≡◌, ◌<◌, ◌⊎◌, ◌||◌, ℕ, Bool, true, is_some, List, [], ◌∷◌, ◌++◌, length, Option, Some}
use Rattle.mini_model.specs.declared.operator.BinaryOperator.TheVariants.{Addition}
use Rattle.mini_model.specs.declared.place.Position.{Position}
use Rattle.mini_model.specs.declared.place.Position.TheVariants.{Expr}
use Rattle.mini_model.specs.declared.shape.Shape.TheVariants as shape
use Rattle.mini_model.specs.Joined.{joined}
use Rattle.mini_model.specs.Paths.{append}
use Rattle.mini_model.specs.Templates.{escaped}
use Rattle.mini_model.specs.Tree.{Tree, Trees, node, none, ◌▸◌, leaf, listed, count}
use Rattle.mini_model.specs.Weight.{weight}
use Rattle.mini_terms.specs.Calculated.{operand_value}
use Rattle.mini_terms.specs.Const.{text_of}
use Rattle.mini_terms.specs.declared.kinds.Kind.TheVariants.{String as IsString}
use Rattle.mini_terms.specs.Folds.{is_effect_free}
use Rattle.mini_terms.specs.Kind.{is_primitive, kind}
use Rattle.mini_terms.specs.Parts.{leaves_nothing}
use Rattle.mini_rows.specs.Spellings.{binary}

-- ---- terms

-- a piece of a template's text: whether it is the last, the raw text, and what that cooks to
pub record Piece : Type 0 where
  pub is_tail : Bool
  pub raw : List ℕ
  pub cooked : List ℕ

abbrev pub piece : Piece → Tree
piece p = leaf (shape.TemplateElement p.is_tail p.raw (Some p.cooked))

abbrev pub pieces : List Piece → Trees
pieces [] = none
pieces (p ∷ ps) = piece p ▸ pieces ps

-- a template of these pieces of text, with the parts between them
abbrev pub template : Trees → Trees → Tree
template texts parts = node shape.TemplateLiteral [] 0 (listed texts ▸ (listed parts ▸ none))

-- two pieces as one
abbrev pub pair : Piece → Piece → Piece
pair p q = record { is_tail = q.is_tail; raw = joined (p.raw ∷ (q.raw ∷ [])); cooked = p.cooked ++ q.cooked }

-- the piece that spells a text
abbrev pub spelled : List ℕ → Piece
spelled text = record { is_tail = true; raw = escaped text; cooked = text }

-- the text of an expression's value, where it is calculated
abbrev pub told : Tree → Option (List ℕ)
told t = text_of (operand_value t)

-- ---- rows

-- 18: `` `a${1}b${c}` `` becomes `` `a1b${c}` ``, and `` `${"x"}` `` becomes `` `x` ``: a part
-- whose value is calculated goes into the text
pub record Row18 (n w : Tree) : Type 0 where
  pub before : List Piece
  pub first : Piece
  pub second : Piece
  pub after : List Piece
  pub earlier : Trees
  pub part : Tree
  pub later : Trees
  pub text : List ℕ
  pub starts : length before ≡ count earlier
  pub ends : length after ≡ count later
  pub known : told part ≡ Some text
  pub dropped : leaves_nothing part ≡ true
  pub shape : n ≡ template (append (pieces before) (piece first ▸ (piece second ▸ pieces after))) (append earlier (part ▸ later))
  pub written : w ≡ template (append (pieces before) (piece (pair (pair first (spelled text)) second) ▸ pieces after)) (append earlier later)

-- 5: `` `a${b}` + `c${d}` `` becomes `` `a${b}c${d}` ``
pub record Row5Both (n w : Tree) : Type 0 where
  pub before : List Piece
  pub last : Piece
  pub earlier : Trees
  pub first : Piece
  pub after : List Piece
  pub later : Trees
  pub starts : length before ≡ count earlier
  pub ends : length after ≡ count later
  pub shape : n ≡ binary Addition (template (append (pieces before) (piece last ▸ none)) earlier) (template (piece first ▸ pieces after) later)
  pub written : w ≡ template (append (pieces before) (piece (pair last first) ▸ pieces after)) (append earlier later)

-- 5: `` `a${b}` + "c" `` becomes `` `a${b}c` ``: what has a calculated value is added to a template
pub record Row5After (n w : Tree) : Type 0 where
  pub before : List Piece
  pub last : Piece
  pub earlier : Trees
  pub tail : Tree
  pub text : List ℕ
  pub starts : length before ≡ count earlier
  pub known : told tail ≡ Some text
  pub dropped : leaves_nothing tail ≡ true
  pub shape : n ≡ binary Addition (template (append (pieces before) (piece last ▸ none)) earlier) tail
  pub written : w ≡ template (append (pieces before) (piece (pair last (spelled text)) ▸ none)) earlier

-- 5: `` "a" + `b${c}` `` becomes `` `ab${c}` ``: a template is added to it
pub record Row5Before (n w : Tree) : Type 0 where
  pub head : Tree
  pub text : List ℕ
  pub first : Piece
  pub after : List Piece
  pub later : Trees
  pub ends : length after ≡ count later
  pub known : told head ≡ Some text
  pub dropped : leaves_nothing head ≡ true
  pub shape : n ≡ binary Addition head (template (piece first ▸ pieces after) later)
  pub written : w ≡ template (piece (pair (spelled text) first) ▸ pieces after) later

-- 5
abbrev pub Row5 : Tree → Tree → Type 0
Row5 n w = Row5Both n w ⊎ (Row5After n w ⊎ Row5Before n w)

-- 6: `` a + `x${b}` + `y` `` becomes `` a + `x${b}y` ``. The sum of a and a text is a text, so a is
-- converted once, before or after the last operand is evaluated: that is one thing where a is
-- primitive, or the value of the last operand is calculated
pub record Row6 (n w : Tree) : Type 0 where
  pub left : Tree
  pub inner : Tree
  pub tail : Tree
  pub joined : Tree
  pub known : kind inner ≡ IsString
  pub effect_free : is_effect_free tail ≡ true
  pub settled : (is_primitive (kind left) || is_some (told tail)) ≡ true
  pub sum : Row5 (binary Addition inner tail) joined
  pub shape : n ≡ binary Addition (binary Addition left inner) tail
  pub written : w ≡ binary Addition left joined

-- a row on templates reads n as w at this place
abbrev pub TemplateRow : Position → Tree → Tree → Type 0
TemplateRow (Expr s) n w = Row18 n w ⊎ (Row5 n w ⊎ Row6 n w)
TemplateRow _ n w = ⊥

-- what it writes, where it weighs less
pub record TemplateContracts (p : Position) (n w : Tree) : Type 0 where
  pub row : TemplateRow p n w
  pub lighter : weight p w < weight p n
