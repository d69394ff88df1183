-- The names that a statement hoists, or that a declaration gives its list, are mentioned in it,
-- where it stands or in a carried node.
use Rattle.std.specs.Prelude.{ℕ, zero, suc, ◌≡◌, ◌⊎◌, refl, Bool, true, false, ◌&&◌, ◌||◌, List, [], ◌∷◌, ◌++◌}
use Rattle.std.specs.List.{list_any}
use Rattle.std.proofs.lemmas.Bool.{and_parts}
use Rattle.std.proofs.Common.{ap, ◌∙◌, sym, inl, inr, true≢false}
use Rattle.mini_model.specs.declared.kind.VariableDeclarationKind.TheVariants.{Var, Let, Const}
use Rattle.mini_model.specs.declared.name.Name.{Name}
use Rattle.mini_model.specs.declared.shape.Shape.{Shape}
use Rattle.mini_model.specs.declared.shape.Shape.TheVariants as shape
use Rattle.mini_accept.specs.WellShaped.{Slot, Filling, these, each, each_or_last, pieces, Tagging, untagged, tagged, is_quasi_by, is_quasi, are_quasis, is_last, has_names, is_whole, class_of, filling, fits, fill}
use Rattle.mini_model.specs.Tree.{Tree, Trees, node, none, ◌▸◌, shape_of}
use Rattle.mini_laws.specs.declared.names.Around.{Around}
use Rattle.mini_laws.specs.declared.names.Declared.TheVariants as declared
use Rattle.mini_laws.specs.declared.names.Use.{Use}
use Rattle.mini_laws.specs.declared.names.Use.TheVariants.{Hoisted, Read}
use Rattle.mini_laws.specs.DeclaredNames.{names_of, first_names, all_names}
use Rattle.mini_laws.specs.Mentions.{Mention, around_child, own_mentions, mentions, mentions_from}
use Rattle.mini_laws.specs.Scopes.{use_of}
use Rattle.mini_laws.specs.Strict.{is_strict_in}
use Rattle.mini_shrink.proofs.Finding.{any_both}
use Rattle.mini_laws.specs.Shared.{is_of_function, is_arguments, is_name_of_variable, names_arguments, any_names_arguments}
use Rattle.mini_rows.specs.DeadLexicals.{is_lexical}
use Rattle.mini_less.specs.TellsLists.{Every, Names}
use Rattle.mini_less.proofs.Flags.{none_of}

-- the same place, or a carried node in it
abbrev pub Within : Around → Around → Type 0
Within a b = (b ≡ a) ⊎ (b.carried ≡ true)

-- shapes under which the names around are those of the node
abbrev hands_around : Shape → Bool
hands_around (shape.Program is_module ds) = false
hands_around (shape.Function d g ds) = false
hands_around (shape.Class d) = false
hands_around (shape.ArrowFunctionExpression ds) = false
hands_around shape.StaticBlock = false
hands_around shape.InnerExpression = false
hands_around (shape.PropertyDefinition computed is_static) = false
hands_around (shape.TemplateElement tail raw c) = false
hands_around h = true

within_child : (a b : Around) (h : Shape) (n i : ℕ) → hands_around h ≡ true → Within a b → Within a (around_child h b n i)
within_child a b (shape.Program is_module ds) n i e k = absurd (true≢false (sym e))
within_child a b (shape.Function d g ds) n i e k = absurd (true≢false (sym e))
within_child a b (shape.Class d) n i e k = absurd (true≢false (sym e))
within_child a b (shape.ArrowFunctionExpression ds) n i e k = absurd (true≢false (sym e))
within_child a b shape.StaticBlock n i e k = absurd (true≢false (sym e))
within_child a b shape.InnerExpression n i e k = absurd (true≢false (sym e))
within_child a b (shape.PropertyDefinition computed is_static) n i e k = absurd (true≢false (sym e))
within_child a b h zero i e k = k
within_child a b h (suc n) i e k = inr refl

-- a name that is bound there is asked for no less wherever it stands within
abbrev pub AsksWithin : (Mention → Bool) → Type 0
AsksWithin p = (x : Name) (u : Use) (a b : Around) → Within a b → p (record { name = x; used = Hoisted; binds = true; around = a }) ≡ true → p (record { name = x; used = u; binds = true; around = b }) ≡ true

both_names : (P : Name → Type 0) (xs ys : List Name) → Names P xs → Names P ys → Names P (xs ++ ys)
both_names P [] ys a b = b
both_names P (x ∷ xs) ys a b = (a.0, both_names P xs ys a.1 b)

-- what holds of a tree and passes to what stands in it, outside of other bodies, holds of each name
-- that it hoists, where it tells so of a name that is bound
module _ (R : Tree → Type 0) (P : Name → Type 0) (here : (xs : List Name) (n : ℕ) (ts : Trees) → R (node shape.BindingIdentifier xs n ts) → Names P xs) (down : (h : Shape) (xs : List Name) (n : ℕ) (ts : Trees) → hands_around h ≡ true → R (node h xs n ts) → Every R ts) where
  mutual
    unfolding names_of

    bound_in : (t : Tree) → R t → Names P (names_of declared.Bound t)
    bound_in (node shape.BindingIdentifier xs n ts) r = here xs n ts r
    bound_in (node shape.VariableDeclarator xs n ts) r = first_in ts (down shape.VariableDeclarator xs n ts refl r)
    bound_in (node shape.Listed xs n ts) r = all_bound_in ts (down shape.Listed xs n ts refl r)
    bound_in (node shape.ObjectPattern xs n ts) r = all_bound_in ts (down shape.ObjectPattern xs n ts refl r)
    bound_in (node shape.ArrayPattern xs n ts) r = all_bound_in ts (down shape.ArrayPattern xs n ts refl r)
    bound_in (node (shape.BindingProperty s c) xs n ts) r = all_bound_in ts (down (shape.BindingProperty s c) xs n ts refl r)
    bound_in (node shape.RestElement xs n ts) r = all_bound_in ts (down shape.RestElement xs n ts refl r)
    bound_in (node shape.AssignmentPattern xs n ts) r = all_bound_in ts (down shape.AssignmentPattern xs n ts refl r)
    bound_in (node shape.ImportSpecifier xs n ts) r = all_bound_in ts (down shape.ImportSpecifier xs n ts refl r)
    bound_in (node shape.ImportDefaultSpecifier xs n ts) r = all_bound_in ts (down shape.ImportDefaultSpecifier xs n ts refl r)
    bound_in (node shape.ImportNamespaceSpecifier xs n ts) r = all_bound_in ts (down shape.ImportNamespaceSpecifier xs n ts refl r)
    bound_in (node h xs n ts) r = tt

    first_in : (ts : Trees) → Every R ts → Names P (first_names ts)
    first_in none a = tt
    first_in (t ▸ ts) a = bound_in t a.0

    all_bound_in : (ts : Trees) → Every R ts → Names P (all_names declared.Bound ts)
    all_bound_in none a = tt
    all_bound_in (t ▸ ts) a = both_names P (names_of declared.Bound t) (all_names declared.Bound ts) (bound_in t a.0) (all_bound_in ts a.1)

  mutual
    unfolding names_of

    pub hoisted_in : (t : Tree) → R t → Names P (names_of declared.Hoisted t)
    hoisted_in (node (shape.VariableDeclaration Var) xs n ts) r = all_bound_in ts (down (shape.VariableDeclaration Var) xs n ts refl r)
    hoisted_in (node shape.Listed xs n ts) r = all_hoisted_in ts (down shape.Listed xs n ts refl r)
    hoisted_in (node shape.BlockStatement xs n ts) r = all_hoisted_in ts (down shape.BlockStatement xs n ts refl r)
    hoisted_in (node shape.IfStatement xs n ts) r = all_hoisted_in ts (down shape.IfStatement xs n ts refl r)
    hoisted_in (node shape.WhileStatement xs n ts) r = all_hoisted_in ts (down shape.WhileStatement xs n ts refl r)
    hoisted_in (node shape.DoWhileStatement xs n ts) r = all_hoisted_in ts (down shape.DoWhileStatement xs n ts refl r)
    hoisted_in (node shape.ForStatement xs n ts) r = all_hoisted_in ts (down shape.ForStatement xs n ts refl r)
    hoisted_in (node shape.ForInStatement xs n ts) r = all_hoisted_in ts (down shape.ForInStatement xs n ts refl r)
    hoisted_in (node shape.ForOfStatement xs n ts) r = all_hoisted_in ts (down shape.ForOfStatement xs n ts refl r)
    hoisted_in (node shape.LabeledStatement xs n ts) r = all_hoisted_in ts (down shape.LabeledStatement xs n ts refl r)
    hoisted_in (node shape.SwitchStatement xs n ts) r = all_hoisted_in ts (down shape.SwitchStatement xs n ts refl r)
    hoisted_in (node shape.SwitchCase xs n ts) r = all_hoisted_in ts (down shape.SwitchCase xs n ts refl r)
    hoisted_in (node shape.TryStatement xs n ts) r = all_hoisted_in ts (down shape.TryStatement xs n ts refl r)
    hoisted_in (node shape.CatchClause xs n ts) r = all_hoisted_in ts (down shape.CatchClause xs n ts refl r)
    hoisted_in (node shape.FunctionBody xs n ts) r = all_hoisted_in ts (down shape.FunctionBody xs n ts refl r)
    hoisted_in (node shape.ExportNamedDeclaration xs n ts) r = all_hoisted_in ts (down shape.ExportNamedDeclaration xs n ts refl r)
    hoisted_in (node h xs n ts) r = tt

    all_hoisted_in : (ts : Trees) → Every R ts → Names P (all_names declared.Hoisted ts)
    all_hoisted_in none a = tt
    all_hoisted_in (t ▸ ts) a = both_names P (names_of declared.Hoisted t) (all_names declared.Hoisted ts) (hoisted_in t a.0) (all_hoisted_in ts a.1)

  -- and each that a declaration gives its list, where it passes to the name of a class
  pub lexical_in : ((xs : List Name) (n : ℕ) (t : Tree) (ts : Trees) → R (node (shape.Class true) xs n (t ▸ ts)) → R t) → (t : Tree) → is_lexical t ≡ true → R t → Names P (names_of declared.Lexical t)
  unfolding names_of
  lexical_in first (node (shape.VariableDeclaration Let) xs n ts) e r = all_bound_in ts (down (shape.VariableDeclaration Let) xs n ts refl r)
  lexical_in first (node (shape.VariableDeclaration Const) xs n ts) e r = all_bound_in ts (down (shape.VariableDeclaration Const) xs n ts refl r)
  lexical_in first (node (shape.Class true) xs n none) e r = tt
  lexical_in first (node (shape.Class true) xs n (t ▸ ts)) e r = bound_in t (first xs n t ts r)
  lexical_in first (node h xs n ts) e r = absurd (true≢false (sym e))

-- ---- mentions

module _ (p : Mention → Bool) (within : AsksWithin p) (a : Around) where
  -- nothing that is asked for is mentioned in it, where it stands within the place
  record Lacking (t : Tree) : Type 0 where
    used : Use
    place : Around
    inside : Within a place
    lacks : list_any p (mentions used place t) ≡ false

  abbrev Unasked : Name → Type 0
  Unasked x = p (record { name = x; used = Hoisted; binds = true; around = a }) ≡ false

  not_there : (u : Use) (b : Around) → Within a b → (x : Name) → p (record { name = x; used = u; binds = true; around = b }) ≡ false → Unasked x
  not_there u b k x y = by (p (record { name = x; used = Hoisted; binds = true; around = a })) refl
    where
      by : (c : Bool) → p (record { name = x; used = Hoisted; binds = true; around = a }) ≡ c → c ≡ false
      by true q = absurd (true≢false (sym (within x u a b k q) ∙ y))
      by false q = refl

  own_unasked : (u : Use) (b : Around) → Within a b → (xs : List Name) → list_any p (own_mentions u b shape.BindingIdentifier xs) ≡ false → Names Unasked xs
  own_unasked u b k [] e = tt
  own_unasked u b k (x ∷ xs) e =
      let (y, z) = none_of (p (record { name = x; used = u; binds = true; around = b })) (list_any p (own_mentions u b shape.BindingIdentifier xs)) e in
      (not_there u b k x y, own_unasked u b k xs z)

  all_lacking : (us : ℕ → Use) (bs : ℕ → Around) → ((j : ℕ) → Within a (bs j)) → (i : ℕ) (ts : Trees) → list_any p (mentions_from us bs i ts) ≡ false → Every Lacking ts
  unfolding mentions
  all_lacking us bs k i none e = tt
  all_lacking us bs k i (t ▸ ts) e =
      let (x, y) = none_of (list_any p (mentions (us i) (bs i) t)) (list_any p (mentions_from us bs (suc i) ts)) (sym (any_both p (mentions (us i) (bs i) t) (mentions_from us bs (suc i) ts)) ∙ e) in
      (record { used = us i; place = bs i; inside = k i; lacks = x }, all_lacking us bs k (suc i) ts y)

  name_unasked : (xs : List Name) (n : ℕ) (ts : Trees) → Lacking (node shape.BindingIdentifier xs n ts) → Names Unasked xs
  unfolding mentions
  name_unasked xs n ts r =
      let own = own_mentions r.used r.place shape.BindingIdentifier xs in
      let later = mentions_from (use_of shape.BindingIdentifier r.used) (around_child shape.BindingIdentifier r.place n) 0 ts in
      own_unasked r.used r.place r.inside xs (none_of (list_any p own) (list_any p later) (sym (any_both p own later) ∙ r.lacks)).0

  below_lacking : (h : Shape) (xs : List Name) (n : ℕ) (ts : Trees) → hands_around h ≡ true → Lacking (node h xs n ts) → Every Lacking ts
  unfolding mentions
  below_lacking h xs n ts k r =
      let own = own_mentions r.used r.place h xs in
      let later = mentions_from (use_of h r.used) (around_child h r.place n) 0 ts in
      all_lacking (use_of h r.used) (around_child h r.place n) (λ j. within_child a r.place h n j k r.inside) 0 ts (none_of (list_any p own) (list_any p later) (sym (any_both p own later) ∙ r.lacks)).1

  pub hoisted_unasked : (u : Use) (t : Tree) → list_any p (mentions u a t) ≡ false → Names Unasked (names_of declared.Hoisted t)
  hoisted_unasked u t e = hoisted_in Lacking Unasked name_unasked below_lacking t (record { used = u; place = a; inside = inl refl; lacks = e })

  -- the name of a class stands in what is around the class
  class_lacking : (xs : List Name) (n : ℕ) (t : Tree) (ts : Trees) → Lacking (node (shape.Class true) xs n (t ▸ ts)) → Lacking t
  unfolding mentions
  class_lacking xs n t ts r =
      let first = mentions Read r.place t in
      let later = mentions_from (use_of (shape.Class true) r.used) (around_child (shape.Class true) r.place n) 1 ts in
      record { used = Read; place = r.place; inside = r.inside; lacks = (none_of (list_any p first) (list_any p later) (sym (any_both p first later) ∙ r.lacks)).0 }

  pub lexical_unasked : (u : Use) (t : Tree) → is_lexical t ≡ true → list_any p (mentions u a t) ≡ false → Names Unasked (names_of declared.Lexical t)
  lexical_unasked u t l e = lexical_in Lacking Unasked name_unasked below_lacking class_lacking t l (record { used = u; place = a; inside = inl refl; lacks = e })

-- ---- `arguments`

of_function : (h : Shape) → hands_around h ≡ true → (i : ℕ) (ts : Trees) → any_names_arguments (is_of_function h) i ts ≡ false → Every (λ t. names_arguments t ≡ false) ts
unfolding names_arguments
of_function h k i none e = tt
of_function h k i (t ▸ ts) e =
    let (x, y) = none_of (is_of_function h i && names_arguments t) (any_names_arguments (is_of_function h) (suc i) ts) e in
    (sym (ap (λ b. b && names_arguments t) (belongs h k i)) ∙ x, of_function h k (suc i) ts y)
  where
    belongs : (h : Shape) → hands_around h ≡ true → (i : ℕ) → is_of_function h i ≡ true
    belongs (shape.Function d g ds) k i = absurd (true≢false (sym k))
    belongs shape.StaticBlock k i = absurd (true≢false (sym k))
    belongs (shape.PropertyDefinition c s) k i = absurd (true≢false (sym k))
    belongs h k i = refl

-- a piece of a template's text
abbrev is_piece : Shape → Bool
is_piece (shape.TemplateElement tail raw c) = true
is_piece h = false

-- it fits somewhere, or is such a piece
data Placed (t : Tree) : Type 0 where
  Fitting : (strict : Bool) (s : Slot) → fits strict s t ≡ true → Placed t
  Piece : is_piece (shape_of t) ≡ true → Placed t

quasi_piece : (g : Tagging) (last : Bool) (h : Shape) → is_quasi_by g last h ≡ true → is_piece h ≡ true
quasi_piece untagged last (shape.TemplateElement tail raw c) e = refl
quasi_piece tagged last (shape.TemplateElement tail raw c) e = refl
quasi_piece untagged last h e = absurd (true≢false (sym e))
quasi_piece tagged last h e = absurd (true≢false (sym e))

one_piece : (g : Tagging) (last : Bool) (t : Tree) → is_quasi g last t ≡ true → Placed t
one_piece g last (node h [] n none) e = Piece (quasi_piece g last h (and_parts (is_quasi_by g last h) _ e).0)
one_piece g last t e = absurd (true≢false (sym e))

all_pieces : (g : Tagging) (ts : Trees) → are_quasis g ts ≡ true → Every Placed ts
all_pieces g none e = tt
all_pieces g (t ▸ none) e = (one_piece g true t e, tt)
all_pieces g (t ▸ (u ▸ ts)) e =
    let (x, y) = and_parts (is_quasi g false t) (are_quasis g (u ▸ ts)) e in
    (one_piece g false t x, all_pieces g (u ▸ ts) y)

or_placed : (strict : Bool) (s l : Slot) (b : Bool) (t : Tree) → (fits strict s t || (b && fits strict l t)) ≡ true → Placed t
or_placed strict s l b t e = by (fits strict s t) refl
  where
    by : (c : Bool) → fits strict s t ≡ c → Placed t
    by true q = Fitting strict s q
    by false q = Fitting strict l (and_parts b (fits strict l t) (ap (λ c. c || (b && fits strict l t)) (sym q) ∙ e)).1

all_placed : (strict : Bool) (g : Filling) (ts : Trees) → fill strict g ts ≡ true → Every Placed ts
all_placed strict (these []) none e = tt
all_placed strict (these (s ∷ ss)) (t ▸ ts) e = let (x, y) = and_parts (fits strict s t) (fill strict (these ss) ts) e in (Fitting strict s x, all_placed strict (these ss) ts y)
all_placed strict (each s) none e = tt
all_placed strict (each s) (t ▸ ts) e = let (x, y) = and_parts (fits strict s t) (fill strict (each s) ts) e in (Fitting strict s x, all_placed strict (each s) ts y)
all_placed strict (each_or_last s l) none e = tt
all_placed strict (each_or_last s l) (t ▸ ts) e = let (x, y) = and_parts (fits strict s t || (is_last ts && fits strict l t)) (fill strict (each_or_last s l) ts) e in (or_placed strict s l (is_last ts) t x, all_placed strict (each_or_last s l) ts y)
all_placed strict (pieces g) (t ▸ ts) e = all_pieces g (t ▸ ts) e
all_placed strict g ts e = absurd (true≢false (sym e))

abbrev pub NoArguments : Name → Type 0
NoArguments x = is_arguments (x ∷ []) ≡ false

-- it names no `arguments`, and has its place
abbrev Sparing : Tree → Type 0
Sparing t = (names_arguments t ≡ false) × Placed t

both_every : (ts : Trees) → Every (λ t. names_arguments t ≡ false) ts → Every Placed ts → Every Sparing ts
both_every none a b = tt
both_every (t ▸ ts) a b = ((a.0, b.0), both_every ts a.1 b.1)

one_name : (xs : List Name) → has_names shape.BindingIdentifier xs ≡ true → is_arguments xs ≡ false → Names NoArguments xs
one_name [] e f = tt
one_name (x ∷ []) e f = (f, tt)
one_name (x ∷ (y ∷ xs)) e f = absurd (true≢false (sym e))

sparing_name : (xs : List Name) (n : ℕ) (ts : Trees) → Sparing (node shape.BindingIdentifier xs n ts) → Names NoArguments xs
unfolding names_arguments
sparing_name xs n ts (a, Fitting strict s e) =
    one_name xs (and_parts (has_names shape.BindingIdentifier xs) _ (and_parts (is_whole (class_of s) shape.BindingIdentifier xs n ts) _ e).0).0
    (none_of (is_arguments xs) (any_names_arguments (is_of_function shape.BindingIdentifier) 0 ts) a).0
sparing_name xs n ts (a, Piece e) = absurd (true≢false (sym e))

sparing_down : (h : Shape) (xs : List Name) (n : ℕ) (ts : Trees) → hands_around h ≡ true → Sparing (node h xs n ts) → Every Sparing ts
unfolding names_arguments
sparing_down h xs n ts k (a, Fitting strict s e) = both_every ts (of_function h k 0 ts (none_of (is_name_of_variable h && is_arguments xs) (any_names_arguments (is_of_function h) 0 ts) a).1) (all_placed (is_strict_in strict h) (filling strict s h) ts (and_parts (is_whole (class_of s) h xs n ts) (fill (is_strict_in strict h) (filling strict s h) ts) e).1)
sparing_down (shape.TemplateElement tail raw c) xs n ts k (a, Piece e) = absurd (true≢false (sym k))
sparing_down h xs n ts k (a, Piece e) = absurd (true≢false (sym e))

pub hoisted_sparing : (strict : Bool) (s : Slot) (t : Tree) → fits strict s t ≡ true → names_arguments t ≡ false → Names NoArguments (names_of declared.Hoisted t)
hoisted_sparing strict s t e a = hoisted_in Sparing NoArguments sparing_name sparing_down t (a, Fitting strict s e)

class_sparing : (xs : List Name) (n : ℕ) (t : Tree) (ts : Trees) → Sparing (node (shape.Class true) xs n (t ▸ ts)) → Sparing t
unfolding names_arguments
class_sparing xs n t ts (a, Fitting strict s e) = (
  (none_of (names_arguments t) (any_names_arguments (is_of_function (shape.Class true)) 1 ts) a).0,
  (all_placed (is_strict_in strict (shape.Class true)) (filling strict s (shape.Class true)) (t ▸ ts) (and_parts (is_whole (class_of s) (shape.Class true) xs n (t ▸ ts)) (fill (is_strict_in strict (shape.Class true)) (filling strict s (shape.Class true)) (t ▸ ts)) e).1).0,
)
class_sparing xs n t ts (a, Piece e) = absurd (true≢false (sym e))

pub lexical_sparing : (strict : Bool) (s : Slot) (t : Tree) → is_lexical t ≡ true → fits strict s t ≡ true → names_arguments t ≡ false → Names NoArguments (names_of declared.Lexical t)
lexical_sparing strict s t l e a = lexical_in Sparing NoArguments sparing_name sparing_down class_sparing t l (a, Fitting strict s e)
