-- Edits of a tree that declare no symbol more often.
use Rattle.std.specs.Prelude.{ℕ, ◌≡◌, List, [], ◌∷◌}
use Rattle.mini_model.specs.declared.name.Name.{Name}
use Rattle.mini_model.specs.declared.shape.Shape.{Shape}
use Rattle.mini_model.specs.Tree.{Tree, Trees, node, none, ◌▸◌, negation, conditional}
use Rattle.mini_laws.specs.declared.names.Use.{Use}
use Rattle.mini_laws.specs.declared.names.Declared.{Declared}
use Rattle.mini_laws.specs.declared.names.Declared.TheVariants as declared
use Rattle.mini_laws.specs.DeclaredNames.{names_of, all_names, body_names, with_names, has_inner}
use Rattle.mini_laws.specs.NameMoves.{let_alone, block}
use Rattle.mini_laws.specs.Symbols.{declared as declared_in, Distinct, Within}

-- a tree that declares the same names to the scopes around it, and in its own scopes no symbol more
-- often
pub record Kept (t t' : Tree) : Type 0 where
  pub names : (d : Declared) → names_of d t' ≡ names_of d t
  pub body : body_names t' ≡ body_names t
  pub inner : has_inner t' ≡ has_inner t
  pub symbols : (u : Use) → Within (declared_in u t') (declared_in u t)

abbrev pub AllKept : Trees → Trees → Type 0
AllKept none none = Unit {0}
AllKept none (t' ▸ ts') = ⊥
AllKept (t ▸ ts) none = ⊥
AllKept (t ▸ ts) (t' ▸ ts') = Kept t t' × AllKept ts ts'

-- distinct symbols stay distinct
abbrev pub KeptIsDistinct : Type 0
KeptIsDistinct = (u : Use) (t t' : Tree) → Kept t t' → Distinct (declared_in u t) → Distinct (declared_in u t')

-- one edit after another, no edit, and edits of the children of a node
abbrev pub KeptTwice : Type 0
KeptTwice = (t t' t'' : Tree) → Kept t t' → Kept t' t'' → Kept t t''

abbrev pub KeptAsItIs : Type 0
KeptAsItIs = (t : Tree) → Kept t t

abbrev pub KeptBelow : Type 0
KeptBelow = (h : Shape) (xs : List Name) (n : ℕ) (ts ts' : Trees) → AllKept ts ts' → Kept (node h xs n ts) (node h xs n ts')

-- `!a ? b : c` becomes `a ? c : b`
abbrev pub KeptBySwap : Type 0
KeptBySwap = (a b c : Tree) → Kept (conditional (negation a) b c) (conditional a c b)

-- a block loses its first statement `let x;`, x being declared there alone
abbrev pub KeptByDrop : Type 0
KeptByDrop = (x : Name) (rest : Trees) → with_names (x ∷ []) (all_names declared.Lexical rest) ≡ x ∷ with_names [] (all_names declared.Lexical rest) → Kept (block (let_alone x ▸ rest)) (block rest)
