-- Rewrites that keep the symbols of names.
use Rattle.std.specs.Prelude.{ℕ, suc, ◌≡◌, false, List, [], ◌∷◌, ◌++◌}
use Rattle.mini_model.specs.declared.kind.VariableDeclarationKind.TheVariants.{Let}
use Rattle.mini_model.specs.declared.name.Name.{Name}
use Rattle.mini_model.specs.declared.shape.Shape.{Shape}
use Rattle.mini_model.specs.declared.shape.Shape.TheVariants as shape
use Rattle.mini_model.specs.Paths.{append}
use Rattle.mini_model.specs.Weight.{same_text}
use Rattle.mini_model.specs.Tree.{Tree, Trees, node, none, ◌▸◌, listed, absent, negation, conditional}
use Rattle.mini_laws.specs.declared.names.Use.{Use}
use Rattle.mini_laws.specs.declared.names.Binding.{Binding}
use Rattle.mini_laws.specs.declared.names.Declared.TheVariants as declared
use Rattle.mini_laws.specs.DeclaredNames.{all_names, with_names}
use Rattle.mini_laws.specs.declared.names.Opening.TheVariants as opening
use Rattle.mini_laws.specs.Scopes.{use_of, opening_of}
use Rattle.mini_laws.specs.Resolved.{Environment}
use Rattle.mini_laws.specs.Scoped.{OwnScoped, Scoped, Unmentioned, AllUnmentioned}

-- a scope loses a name whose symbol stands nowhere in a tree, and every name in it keeps its symbol
abbrev pub DropName : Type 0
DropName = (u : Use) (outer inner : Environment) (b : Binding) (t : Tree) → Scoped u (outer ++ b ∷ inner) t → Unmentioned b t → Scoped u (outer ++ inner) t

-- `!a ? b : c` becomes `a ? c : b`
abbrev pub SwapBranches : Type 0
SwapBranches = (u : Use) (env : Environment) (a b c : Tree) → Scoped u env (conditional (negation a) b c) → Scoped u env (conditional a c b)

-- `let x;`
abbrev pub let_alone : Name → Tree
let_alone x = node (shape.VariableDeclaration Let) [] 0 (listed (node shape.VariableDeclarator [] 0 (node shape.BindingIdentifier (x ∷ []) 0 none ▸ absent ▸ none) ▸ none) ▸ none)

abbrev pub block : Trees → Tree
block ts = node shape.BlockStatement [] 0 (listed ts ▸ none)

-- a block loses its first statement `let x;`, x being declared there alone and mentioned nowhere
-- else in it
abbrev pub DropLet : Type 0
DropLet = (u : Use) (env : Environment) (x : Name) (rest : Trees) → with_names (x ∷ []) (all_names declared.Lexical rest) ≡ x ∷ with_names [] (all_names declared.Lexical rest) → AllUnmentioned (record { name = x; hoists = false }) rest → Scoped u env (block (let_alone x ▸ rest)) → Scoped u env (block rest)

-- ---- past scopes that declare no name of a tree

-- none of these names has a spelling
abbrev pub NoneSpelled : List Binding → List ℕ → Type 0
NoneSpelled [] s = Unit {0}
NoneSpelled (b ∷ bs) s = (same_text b.name.spelling s ≡ false) × NoneSpelled bs s

abbrev pub NamesApart : List Binding → List Name → Type 0
NamesApart bs [] = Unit {0}
NamesApart bs (x ∷ xs) = NoneSpelled bs x.spelling × NamesApart bs xs

-- no name in a tree has the spelling of one of these
unfoldable mutual
  pub Apart : List Binding → Tree → Type 0
  Apart bs (node h xs n ts) = NamesApart bs xs × AllApart bs ts

  pub AllApart : List Binding → Trees → Type 0
  AllApart bs none = Unit {0}
  AllApart bs (t ▸ ts) = Apart bs t × AllApart bs ts

-- a tree moves out of scopes, or into some, that declare no name of it
abbrev pub MoveOut : Type 0
MoveOut = (u : Use) (outer passed inner : Environment) (t : Tree) → Apart passed t → Scoped u (outer ++ (passed ++ inner)) t → Scoped u (outer ++ inner) t

abbrev pub MoveIn : Type 0
MoveIn = (u : Use) (outer passed inner : Environment) (t : Tree) → Apart passed t → Scoped u (outer ++ inner) t → Scoped u (outer ++ (passed ++ inner)) t

-- ---- parts of nodes that open no scope

-- each of some children, the first of which has this index, with the names around the node
abbrev pub EachScoped : (ℕ → Use) → ℕ → Environment → Trees → Type 0
EachScoped uses i env none = Unit {0}
EachScoped uses i env (t ▸ ts) = Scoped (uses i) env t × EachScoped uses (suc i) env ts

-- such a node is scoped where its names and its children are
abbrev pub OfParts : Type 0
OfParts = (u : Use) (env : Environment) (h : Shape) (xs : List Name) (n : ℕ) (ts : Trees) → opening_of u h ≡ opening.Nothing → OwnScoped u env h xs ts → EachScoped (use_of h u) 0 env ts → Scoped u env (node h xs n ts)

abbrev pub ToParts : Type 0
ToParts = (u : Use) (env : Environment) (h : Shape) (xs : List Name) (n : ℕ) (ts : Trees) → opening_of u h ≡ opening.Nothing → Scoped u env (node h xs n ts) → EachScoped (use_of h u) 0 env ts

-- lists are joined and split: so items are dropped, swapped and moved from list to list
abbrev pub Join : Type 0
Join = (u : Use) (env : Environment) (ts us : Trees) → Scoped u env (listed ts) → Scoped u env (listed us) → Scoped u env (listed (append ts us))

abbrev pub Split : Type 0
Split = (u : Use) (env : Environment) (ts us : Trees) → Scoped u env (listed (append ts us)) → Scoped u env (listed ts) × Scoped u env (listed us)
