-- The questions of which Shared and Foreign are made, of a symbol and of a body with a number: each
-- says what one node tells.
use Rattle.std.specs.Prelude.{ℕ, suc, Bool, true, false, ◌&&◌, ◌||◌, not, List, [], ◌∷◌, ◌++◌, map, if◌then◌else◌}
use Rattle.std.specs.List.{list_any}
use Rattle.mini_model.specs.declared.kind.VariableDeclarationKind.{VariableDeclarationKind}
use Rattle.mini_model.specs.declared.kind.VariableDeclarationKind.TheVariants.{Var}
use Rattle.mini_model.specs.declared.name.Name.{Name}
use Rattle.mini_model.specs.declared.shape.Shape.{Shape}
use Rattle.mini_model.specs.declared.shape.Shape.TheVariants as shape
use Rattle.mini_model.specs.Tree.{Tree, Trees, node, none, ◌▸◌}
use Rattle.mini_laws.specs.declared.names.Use.{Use}
use Rattle.mini_laws.specs.declared.names.Use.TheVariants.{Read}
use Rattle.mini_laws.specs.declared.names.Binding.{Binding}
use Rattle.mini_laws.specs.declared.names.Declared.TheVariants as declared
use Rattle.mini_laws.specs.DeclaredNames.{names_of}
use Rattle.mini_laws.specs.References.{reads}
use Rattle.mini_laws.specs.Scopes.{is_alone, opened}
use Rattle.mini_laws.specs.Resolved.{Environment}
use Rattle.mini_laws.specs.Strict.{is_strict_in}
use Rattle.mini_laws.specs.ScopeList.{names_in, any_has_eval, by_symbol}
use Rattle.mini_laws.specs.Mentions.{Mention, own_mentions, is_elsewhere, same_variable, is_among, outermost}
use Rattle.mini_laws.specs.Shared.{reached_params, own_caught, given_values, write_at, own_pattern_writes}
use Rattle.mini_laws.specs.Foreign.{own_pattern_names, own_lexical, own_switched, own_params_around}
use Rattle.mini_shrink.specs.Pace.{reads_if, Setting, below, Question}

-- ---- whether something stands in a tree

-- whether a node tells it
abbrev pub Own : Type 0
Own = Setting → Environment → Shape → List Name → ℕ → Trees → Bool

abbrev pub asks : Own → Question
asks o = record { before = λ c env h xs n ts. reads_if (o c env h xs n ts); orders = λ c h ts. false; ends = λ c t. false }

abbrev pub any_of : List Bool → Bool
any_of [] = false
any_of (b ∷ bs) = b || any_of bs

unfoldable mutual
  pub finds : Own → Setting → Environment → Tree → Bool
  finds o c env (node h xs n ts) = o c env h xs n ts || any_of (finds_each o (opened c.used h ts) (below false c h n) 0 env ts)

  pub finds_each : Own → (ℕ → List Binding) → (ℕ → Setting) → ℕ → Environment → Trees → List Bool
  finds_each o sc cs i env none = []
  finds_each o sc cs i env (t ▸ ts) = finds o (cs i) (env ++ sc i) t ∷ finds_each o sc cs (suc i) (env ++ sc i) ts

-- around a program
abbrev pub at_program : Setting
at_program = record { used = Read; around = outermost; strict = false; is_body = false; belongs = true; ordered = false }

-- ---- names as they are mentioned, and as a `var` gives them a value

abbrev pub mentions_such : (Mention → Bool) → Own
mentions_such p c env h xs n ts = list_any p (own_mentions c.used c.around h xs)

abbrev pub gives_such : (Mention → Bool) → Own
gives_such p c env h xs n ts = list_any p (map (write_at c.around) (given_values c.used h xs ts))

-- either of two
abbrev pub either_of : Own → Own → Own
either_of o r c env h xs n ts = o c env h xs n ts || r c env h xs n ts

-- a node writes it, or a `var` gives it a value
abbrev pub sets_such : (Mention → Bool) → Own
sets_such p = either_of (mentions_such p) (gives_such p)

-- a pattern of a `var` gives a value to the innermost variable of a name
abbrev pub pattern_gives : ℕ → Own
pattern_gives s c env h xs n ts = is_among (by_symbol s) (own_pattern_writes c.used env h ts)

-- ---- names that stand at a node

abbrev pub names_at : (Setting → Shape → ℕ → Trees → List Name) → ℕ → Own
names_at ys s c env h xs n ts = is_among (by_symbol s) (ys c h n ts)

abbrev pub lexical_at : Setting → Shape → ℕ → Trees → List Name
lexical_at c h n ts = own_lexical c.is_body h ts

abbrev pub switched_at : Setting → Shape → ℕ → Trees → List Name
switched_at c h n ts = own_switched h ts

abbrev pub pattern_at : Setting → Shape → ℕ → Trees → List Name
pattern_at c h n ts = own_pattern_names h n ts

abbrev pub caught_at : Setting → Shape → ℕ → Trees → List Name
caught_at c h n ts = own_caught h ts

abbrev pub arguments_at : Setting → Shape → ℕ → Trees → List Name
arguments_at c h n ts = reached_params (is_strict_in c.strict h) h ts

abbrev pub params_at : ℕ → Setting → Shape → ℕ → Trees → List Name
params_at b c h n ts = own_params_around b h ts

-- those of each scope in which a direct eval stands
abbrev pub seen_from : (ℕ → List Binding) → ℕ → Trees → Name → Bool
seen_from scope i none x = false
seen_from scope i (t ▸ ts) x = (any_has_eval (t ▸ ts) && is_among x (names_in (scope i))) || seen_from scope (suc i) ts x

abbrev pub seen_at : ℕ → Own
seen_at s c env h xs n ts = seen_from (opened c.used h ts) 0 ts (by_symbol s)

-- ---- the order of reads and declarations

-- what hands a list on in which names are declared
abbrev pub hands_on : Shape → Bool
hands_on shape.Listed = true
hands_on shape.SwitchCase = true
hands_on (shape.VariableDeclaration Var) = false
hands_on (shape.VariableDeclaration k) = true
hands_on shape.ExportNamedDeclaration = true
hands_on shape.ExportDefaultDeclaration = true
hands_on h = false

-- the lexical names of a declaration that stands alone, as the branch of an `if` (ESTree has
-- `if (a) let x;`), which opens a scope of its own
abbrev pub alone_names : Use → VariableDeclarationKind → Tree → List Name
alone_names u Var t = []
alone_names u k t = if is_alone u then names_of declared.Bound t else []

-- the names that are declared one after another in a scope that a node opens
abbrev pub listed_names : Use → Shape → Trees → List Name
listed_names u (shape.Program is_module ds) (t ▸ ts) = names_of declared.Lexical t
listed_names u shape.FunctionBody (t ▸ ts) = names_of declared.Lexical t
listed_names u shape.StaticBlock (t ▸ ts) = names_of declared.Lexical t
listed_names u shape.BlockStatement (t ▸ ts) = names_of declared.Lexical t
listed_names u shape.ForStatement (t ▸ ts) = names_of declared.Lexical t
listed_names u shape.ForInStatement (t ▸ ts) = names_of declared.Lexical t
listed_names u shape.ForOfStatement (t ▸ ts) = names_of declared.Lexical t
listed_names u shape.SwitchStatement (a ▸ (t ▸ ts)) = names_of declared.Lexical t
listed_names u shape.CatchClause (t ▸ ts) = names_of declared.Bound t
listed_names u (shape.VariableDeclaration k) (t ▸ ts) = alone_names u k t
listed_names u h ts = []

-- Whether a body reads a symbol before its declaration has ended (ECMA-262, "let and const
-- Declarations": the temporal dead zone). An end is told in the scope that declares the name, after
-- the statement, the declarator or the parameter of `catch` that does
abbrev pub early : ℕ → ℕ → Question
early b s = record {
  before = λ c env h xs n ts. reads_if (list_any (λ m. same_variable (by_symbol s) m.name && not m.binds && reads m.used && not (is_elsewhere b m.around)) (own_mentions c.used c.around h xs));
  orders = λ c h ts. (hands_on h && c.ordered) || is_among (by_symbol s) (listed_names c.used h ts);
  ends = λ c t. c.ordered && (is_among (by_symbol s) (names_of declared.Lexical t) || is_among (by_symbol s) (names_of declared.Bound t));
}
