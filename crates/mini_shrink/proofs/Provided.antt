-- What a child declares for what stands around it the node spells in a scope of its own, or hands
-- on to what is spelled around the node.
use Rattle.std.specs.Prelude.{ℕ, zero, suc, ◌≤◌, nat_eq, nat_le, ◌≡◌, refl, Bool, true, false, ◌||◌, not, List, [], if◌then◌else◌}
use Rattle.std.specs.List.{list_any}
use Rattle.std.proofs.Common.{ap, ◌∙◌, sym, subst, true≢false, arith}
use Rattle.std.proofs.lemmas.Bool.{eqb-true}
use Rattle.mini_model.specs.declared.kind.VariableDeclarationKind.TheVariants.{Var, Let, Const}
use Rattle.mini_model.specs.declared.name.Name.{Name}
use Rattle.mini_model.specs.declared.shape.Shape.{Shape}
use Rattle.mini_model.specs.declared.shape.Shape.TheVariants as shape
use Rattle.mini_model.specs.Tree.{Tree, Trees, node, none, ◌▸◌, count, is_absent}
use Rattle.mini_accept.specs.WellShaped.{Class, a_loop_left, a_method, is_numbered, has_its_number, holds_its_name, has_its_parts, is_same_flag}
use Rattle.mini_laws.specs.declared.names.Use.{Use}
use Rattle.mini_laws.specs.declared.names.Use.TheVariants.{Write}
use Rattle.mini_laws.specs.declared.names.Binding.{Binding}
use Rattle.mini_laws.specs.declared.names.Declared.{Declared}
use Rattle.mini_laws.specs.declared.names.Declared.TheVariants as declared
use Rattle.mini_laws.specs.declared.names.Opening.TheVariants as opening
use Rattle.mini_laws.specs.DeclaredNames.{names_of, all_names, body_names, all_body_names, bound_names, lexical_names, has_inner, is_spelled}
use Rattle.mini_laws.specs.Foreign.{own_pattern_names}
use Rattle.mini_laws.specs.Resolved.{is_for}
use Rattle.mini_laws.specs.Scopes.{hoisted_by, use_of, is_alone, lexical_scope, body_scope, merged, name_if, scopes_by, at_or_empty, opened}
use Rattle.mini_kept.proofs.Bools.{both, or_second}
use Rattle.mini_shrink.specs.Cover.{is_hoisting, use_if, Spellings, with_scope, begins_body, spelled_first}
use Rattle.mini_shrink.proofs.Debts.{Debt, of, of_body, owed, handles, is_no_branch, parts}
use Rattle.mini_shrink.proofs.Either.{of_either}
use Rattle.mini_shrink.proofs.Spelled.{or_first, spelled_both, in_first, in_second, lexical_spelled, body_spelled, Spells, still_spelled, spelled_there, less_spelled}

-- ---- what is owed

-- names that a tree owes are spelled around it, as it uses them. Where it stands alone it owes no
-- lexical ones
abbrev pub SpellsAs : Debt → Use → Spellings → List Name → Type 0
SpellsAs (of declared.Bound) u spells xs = Spells spells (is_hoisting u) xs
SpellsAs (of declared.Lexical) u spells xs = is_alone u ≡ false → Spells spells false xs
SpellsAs (of declared.Hoisted) u spells xs = Spells spells true xs
SpellsAs of_body u spells xs = Spells spells false xs

abbrev pub Owes : Use → Spellings → Tree → Type 0
Owes u spells t = (d : Debt) → SpellsAs d u spells (owed d t)

-- of each child what the node handles is spelled there
abbrev pub Provided : Debt → Shape → (ℕ → List Binding) → (ℕ → Use) → (ℕ → Bool) → Spellings → ℕ → Spellings → Trees → Type 0
Provided d h scope uses begins first i spells none = Unit {0}
Provided d h scope uses begins first i spells (t ▸ ts) =
    (handles d h i ≡ true → SpellsAs d (uses i) (with_scope (if begins i then first else spells) (scope i)) (owed d t)) × Provided d h scope uses begins first (suc i) (with_scope (if begins i then first else spells) (scope i)) ts

-- what is known of a node
pub record Standing (c : Class) (u : Use) (spells : Spellings) (h : Shape) (xs : List Name) (n : ℕ) (ts : Trees) : Type 0 where
  pub owes : Owes u spells (node h xs n ts)
  pub number : has_its_number c h n ≡ true
  pub whole : has_its_parts c h ts ≡ true
  pub enough : nat_le (parts h) (count ts) ≡ true
  pub branch : is_no_branch h ≡ true → is_alone u ≡ false

-- ---- spellings

-- a tree's names are those of a body
mutual
  unfolding names_of body_names

  lexical_in_body : (s : List ℕ) (t : Tree) → is_spelled s (names_of declared.Lexical t) ≡ true → is_spelled s (body_names t) ≡ true
  lexical_in_body s (node shape.Listed xs n ts) e = lexical_in_bodies s ts e
  lexical_in_body s (node shape.FunctionBody xs n ts) e = absurd (true≢false (sym e))
  lexical_in_body s (node h xs n ts) e = in_first s (names_of declared.Lexical (node h xs n ts)) (names_of declared.Hoisted (node h xs n ts)) e

  lexical_in_bodies : (s : List ℕ) (ts : Trees) → is_spelled s (all_names declared.Lexical ts) ≡ true → is_spelled s (all_body_names ts) ≡ true
  lexical_in_bodies s none e = e
  lexical_in_bodies s (t ▸ ts) e =
      of_either (is_spelled s (names_of declared.Lexical t)) (is_spelled s (all_names declared.Lexical ts)) (is_spelled s (all_body_names (t ▸ ts)) ≡ true) (λ f. in_first s (body_names t) (all_body_names ts) (lexical_in_body s t f)) (λ f. in_second s (body_names t) (all_body_names ts) (lexical_in_bodies s ts f))
      (sym (spelled_both s (names_of declared.Lexical t) (all_names declared.Lexical ts)) ∙ e)

mutual
  unfolding names_of body_names

  pub hoisted_in_body : (s : List ℕ) (t : Tree) → is_spelled s (names_of declared.Hoisted t) ≡ true → is_spelled s (body_names t) ≡ true
  hoisted_in_body s (node shape.Listed xs n ts) e = hoisted_in_bodies s ts e
  hoisted_in_body s (node shape.FunctionBody xs n ts) e = hoisted_in_bodies s ts e
  hoisted_in_body s (node h xs n ts) e = in_second s (names_of declared.Lexical (node h xs n ts)) (names_of declared.Hoisted (node h xs n ts)) e

  hoisted_in_bodies : (s : List ℕ) (ts : Trees) → is_spelled s (all_names declared.Hoisted ts) ≡ true → is_spelled s (all_body_names ts) ≡ true
  hoisted_in_bodies s none e = e
  hoisted_in_bodies s (t ▸ ts) e =
      of_either (is_spelled s (names_of declared.Hoisted t)) (is_spelled s (all_names declared.Hoisted ts)) (is_spelled s (all_body_names (t ▸ ts)) ≡ true) (λ f. in_first s (body_names t) (all_body_names ts) (hoisted_in_body s t f)) (λ f. in_second s (body_names t) (all_body_names ts) (hoisted_in_bodies s ts f))
      (sym (spelled_both s (names_of declared.Hoisted t) (all_names declared.Hoisted ts)) ∙ e)

pub list_in_body : (s : List ℕ) (t : Tree) → is_spelled s (owed of_body t) ≡ true → is_spelled s (body_names t) ≡ true
unfolding names_of body_names
list_in_body s (node shape.FunctionBody xs n ts) e = lexical_in_bodies s ts e
list_in_body s (node h xs n ts) e = absurd (true≢false (sym e))

merged_bound : (s : List ℕ) (t : Tree) → is_spelled s (merged t) ≡ true → is_spelled s (bound_names t) ≡ true
merged_bound s t e = by (has_inner t) e
  where
    by : (b : Bool) → is_spelled s (if b then [] else bound_names t) ≡ true → is_spelled s (bound_names t) ≡ true
    by true f = absurd (true≢false (sym f))
    by false f = f

-- the scope of a program's or a static block's body, of a function's parameters, and of its body
pub in_whole_body : (spells : Spellings) (v : Bool) (xs ys : List Name) → ((s : List ℕ) → is_spelled s ys ≡ true → is_spelled s xs ≡ true) → Spells (with_scope spells (body_scope [] xs)) v ys
in_whole_body spells v xs ys f = spelled_there spells (body_scope [] xs) v ys (λ s e. body_spelled s v [] xs (f s e))

pub in_body : (spells : Spellings) (v : Bool) (params : Tree) (xs ys : List Name) → ((s : List ℕ) → is_spelled s ys ≡ true → is_spelled s xs ≡ true) → Spells (with_scope (with_scope spells (body_scope [] (bound_names params))) (body_scope (merged params) xs)) v ys
in_body spells v params xs ys f s e =
    let outer = with_scope spells (body_scope [] (bound_names params)) v s in
    let inner = list_any (is_for (use_if v) s) (body_scope (merged params) xs) in
    of_either (is_spelled s (merged params)) inner ((outer || inner) ≡ true)
    (λ g. or_first outer inner (in_whole_body spells v (bound_names params) (bound_names params) (λ r i. i) s (merged_bound s params g)))
    (λ g. or_second outer inner g) (body_spelled s v (merged params) xs (f s e))

in_lexical : (spells : Spellings) (xs : List Name) → Spells (with_scope spells (lexical_scope xs)) false xs
in_lexical spells xs = spelled_there spells (lexical_scope xs) false xs (λ s e. lexical_spelled s xs e)

pub begun : (b : Bool) (first spells : Spellings) (v : Bool) (xs : List Name) → b ≡ false → Spells spells v xs → Spells (if b then first else spells) v xs
begun true first spells v xs e f = absurd (true≢false e)
begun false first spells v xs e f = f

-- ---- numbers

pub zero_number : (c : Class) (h : Shape) (n : ℕ) → has_its_number c h n ≡ true → is_numbered c h ≡ false → n ≡ 0
zero_number c (shape.Program m ds) n e f = absurd (true≢false f)
zero_number c h n e f = eqb-true n 0 (sym (ap (λ b. if b then not (nat_eq n 0) else nat_eq n 0) f) ∙ e)

class_parts : (c : Class) (d : Bool) (ts : Trees) → has_its_parts c (shape.Class d) ts ≡ true → holds_its_name d ts ≡ true
class_parts (a_loop_left b) d ts e = e
class_parts a_method d ts e = e
class_parts c d ts e = e

-- ---- from an index on

abbrev later : ℕ → (ℕ → Bool) → ℕ → Bool
later zero f i = f i
later (suc k) f i = later k (λ j. f (suc j)) i

from : (k : ℕ) (f : ℕ → Bool) → ((i : ℕ) → later k f i ≡ false) → (i : ℕ) → k ≤ i → f i ≡ false
from zero f g i l = g i
from (suc k) f g zero l = absurd (omega (arith, l))
from (suc k) f g (suc i) l = from k (λ m. f (suc m)) g i (omega (arith, l))

module _ (d : Debt) (h : Shape) (scope : ℕ → List Binding) (uses : ℕ → Use) (begins : ℕ → Bool) (first : Spellings) where
  abbrev inner : ℕ → Spellings → Spellings
  inner i spells = with_scope (if begins i then first else spells) (scope i)

  -- nothing is handled
  unhandled : (i : ℕ) (spells : Spellings) (ts : Trees) → ((j : ℕ) → i ≤ j → handles d h j ≡ false) → Provided d h scope uses begins first i spells ts
  unhandled i spells none f = tt
  unhandled i spells (t ▸ ts) f = (λ e. absurd (true≢false (sym e ∙ f i (omega arith))), unhandled (suc i) (with_scope (if begins i then first else spells) (scope i)) ts (λ j l. f j (omega (arith, l))))

  -- lexical names of what stands alone, which owes none
  alone_after : (i : ℕ) (spells : Spellings) (ts : Trees) → d ≡ of declared.Lexical → ((j : ℕ) → i ≤ j → handles d h j ≡ true → is_alone (uses j) ≡ true) → Provided d h scope uses begins first i spells ts
  alone_after i spells none q f = tt
  alone_after i spells (t ▸ ts) q f = ((λ e. free q (f i (omega arith) e)), alone_after (suc i) (inner i spells) ts q (λ j l. f j (omega (arith, l))))
    where
      free : d ≡ of declared.Lexical → is_alone (uses i) ≡ true → SpellsAs d (uses i) (inner i spells) (owed d t)
      free q e = subst (λ o. SpellsAs o (uses i) (inner i spells) (owed o t)) (sym q) (λ g. absurd (true≢false (sym e ∙ g)))

module _ (d : Declared) (h : Shape) (scope : ℕ → List Binding) (uses : ℕ → Use) (begins : ℕ → Bool) (first : Spellings) (v : Bool) (used : (i : ℕ) (spells : Spellings) (xs : List Name) → Spells spells v xs → SpellsAs (of d) (uses i) spells xs) (once : (i : ℕ) → begins (suc i) ≡ false) where
  -- the names of all children are handed on
  handed_on : (i : ℕ) (spells : Spellings) (ts : Trees) → Spells (if begins i then first else spells) v (all_names d ts) → Provided (of d) h scope uses begins first i spells ts
  unfolding names_of
  handed_on i spells none f = tt
  handed_on i spells (t ▸ ts) f =
      let inside = with_scope (if begins i then first else spells) (scope i) in
      let own = λ (s : List ℕ) (e : is_spelled s (names_of d t) ≡ true). still_spelled (if begins i then first else spells) (scope i) v (all_names d (t ▸ ts)) f s (in_first s (names_of d t) (all_names d ts) e) in
      let rest = λ (s : List ℕ) (e : is_spelled s (all_names d ts) ≡ true). still_spelled (if begins i then first else spells) (scope i) v (all_names d (t ▸ ts)) f s (in_second s (names_of d t) (all_names d ts) e) in
      ((λ e. used i inside (names_of d t) own), handed_on (suc i) inside ts (begun (begins (suc i)) first inside v (all_names d ts) (once i) rest))

-- ---- each kind of names

abbrev pub ProvidedBy : Debt → Use → Spellings → Shape → ℕ → Trees → Type 0
ProvidedBy d u spells h n ts = Provided d h (opened u h ts) (use_of h u) (begins_body h n) (spelled_first u h n ts) 0 spells ts

-- the scopes of a node and what begins in it
module _ (u : Use) (spells : Spellings) (h : Shape) (n : ℕ) (ts : Trees) where
  abbrev there : ℕ → Spellings → Spellings
  there i inside = with_scope (if begins_body h n i then spelled_first u h n ts else inside) (opened u h ts i)

  rest_unhandled : (d : Debt) (i : ℕ) (inside : Spellings) (us : Trees) → ((j : ℕ) → later i (handles d h) j ≡ false) → Provided d h (opened u h ts) (use_of h u) (begins_body h n) (spelled_first u h n ts) i inside us
  rest_unhandled d i inside us f = unhandled d h (opened u h ts) (use_of h u) (begins_body h n) (spelled_first u h n ts) i inside us (from i (handles d h) f)

  all_handed : (d : Declared) (v : Bool) → ((i : ℕ) (s : Spellings) (xs : List Name) → Spells s v xs → SpellsAs (of d) (use_of h u i) s xs) → ((i : ℕ) → begins_body h n (suc i) ≡ false) → Spells (if begins_body h n 0 then spelled_first u h n ts else spells) v (all_names d ts) → ProvidedBy (of d) u spells h n ts
  all_handed d v f e g = handed_on d h (opened u h ts) (use_of h u) (begins_body h n) (spelled_first u h n ts) v f e 0 spells ts g

pub same_flag : (b : Bool) → is_same_flag b b ≡ true
same_flag true = refl
same_flag false = refl

pub hoisting_by : (u : Use) → is_hoisting (hoisted_by u) ≡ true
hoisting_by Write = refl
hoisting_by u = refl

module _ (c : Class) (u : Use) (spells : Spellings) (h : Shape) (xs : List Name) (n : ℕ) (ts : Trees) (k : Standing c u spells h xs n ts) where
  -- of a node without a number
  plain : is_numbered c h ≡ false → ((i : ℕ) → begins_body h 0 i ≡ false) → (i : ℕ) → begins_body h n i ≡ false
  plain e f i = ap (λ m. begins_body h m i) (zero_number c h n k.number e) ∙ f i

  hands : (d : Declared) (v : Bool) → ((i : ℕ) (s : Spellings) (ys : List Name) → Spells s v ys → SpellsAs (of d) (use_of h u i) s ys) → is_numbered c h ≡ false → ((i : ℕ) → begins_body h 0 i ≡ false) → Spells spells v (all_names d ts) → ProvidedBy (of d) u spells h n ts
  hands d v f e b g = all_handed u spells h n ts d v f (λ i. plain e b (suc i)) (begun (begins_body h n 0) (spelled_first u h n ts) spells v (all_names d ts) (plain e b 0) g)

  hoists : is_numbered c h ≡ false → ((i : ℕ) → begins_body h 0 i ≡ false) → Spells spells true (all_names declared.Hoisted ts) → ProvidedBy (of declared.Hoisted) u spells h n ts
  hoists e b g = hands declared.Hoisted true (λ i s ys f. f) e b g

  lists : is_numbered c h ≡ false → ((i : ℕ) → begins_body h 0 i ≡ false) → Spells spells false (all_names declared.Lexical ts) → ProvidedBy (of declared.Lexical) u spells h n ts
  lists e b g = hands declared.Lexical false (λ i s ys f a. f) e b g

provided_hoisted : (c : Class) (u : Use) (spells : Spellings) (h : Shape) (xs : List Name) (n : ℕ) (ts : Trees) → Standing c u spells h xs n ts → ProvidedBy (of declared.Hoisted) u spells h n ts
unfolding names_of scopes_by
provided_hoisted c u spells shape.Listed xs n ts k = hoists c u spells shape.Listed xs n ts k refl (λ i. refl) (k.owes (of declared.Hoisted))
provided_hoisted c u spells shape.BlockStatement xs n ts k = hoists c u spells shape.BlockStatement xs n ts k refl (λ i. refl) (k.owes (of declared.Hoisted))
provided_hoisted c u spells shape.IfStatement xs n ts k = hoists c u spells shape.IfStatement xs n ts k refl (λ i. refl) (k.owes (of declared.Hoisted))
provided_hoisted c u spells shape.WhileStatement xs n ts k = hoists c u spells shape.WhileStatement xs n ts k refl (λ i. refl) (k.owes (of declared.Hoisted))
provided_hoisted c u spells shape.DoWhileStatement xs n ts k = hoists c u spells shape.DoWhileStatement xs n ts k refl (λ i. refl) (k.owes (of declared.Hoisted))
provided_hoisted c u spells shape.ForStatement xs n ts k = hoists c u spells shape.ForStatement xs n ts k refl (λ i. refl) (k.owes (of declared.Hoisted))
provided_hoisted c u spells shape.ForInStatement xs n ts k = hoists c u spells shape.ForInStatement xs n ts k refl (λ i. refl) (k.owes (of declared.Hoisted))
provided_hoisted c u spells shape.ForOfStatement xs n ts k = hoists c u spells shape.ForOfStatement xs n ts k refl (λ i. refl) (k.owes (of declared.Hoisted))
provided_hoisted c u spells shape.LabeledStatement xs n ts k = hoists c u spells shape.LabeledStatement xs n ts k refl (λ i. refl) (k.owes (of declared.Hoisted))
provided_hoisted c u spells shape.SwitchStatement xs n ts k = hoists c u spells shape.SwitchStatement xs n ts k refl (λ i. refl) (k.owes (of declared.Hoisted))
provided_hoisted c u spells shape.SwitchCase xs n ts k = hoists c u spells shape.SwitchCase xs n ts k refl (λ i. refl) (k.owes (of declared.Hoisted))
provided_hoisted c u spells shape.TryStatement xs n ts k = hoists c u spells shape.TryStatement xs n ts k refl (λ i. refl) (k.owes (of declared.Hoisted))
provided_hoisted c u spells shape.CatchClause xs n ts k = hoists c u spells shape.CatchClause xs n ts k refl (λ i. refl) (k.owes (of declared.Hoisted))
provided_hoisted c u spells shape.FunctionBody xs n ts k = hoists c u spells shape.FunctionBody xs n ts k refl (λ i. refl) (k.owes (of declared.Hoisted))
provided_hoisted c u spells shape.ExportNamedDeclaration xs n ts k = hoists c u spells shape.ExportNamedDeclaration xs n ts k refl (λ i. refl) (k.owes (of declared.Hoisted))
provided_hoisted c u spells (shape.Program m ds) xs n none k = tt
provided_hoisted c u spells (shape.Program m ds) xs n (t ▸ ts) k =
    let h : Shape = shape.Program m ds in
    (λ e. in_whole_body (spelled_first u h n (t ▸ ts)) true (body_names t) (names_of declared.Hoisted t) (λ s f. hoisted_in_body s t f), rest_unhandled u spells h n (t ▸ ts) (of declared.Hoisted) 1 (there u spells h n (t ▸ ts) 0 spells) ts (λ j. refl))
provided_hoisted c u spells shape.StaticBlock xs n none k = tt
provided_hoisted c u spells shape.StaticBlock xs n (t ▸ ts) k =
    let h : Shape = shape.StaticBlock in
    (λ e. in_whole_body (spelled_first u h n (t ▸ ts)) true (body_names t) (names_of declared.Hoisted t) (λ s f. hoisted_in_body s t f), rest_unhandled u spells h n (t ▸ ts) (of declared.Hoisted) 1 (there u spells h n (t ▸ ts) 0 spells) ts (λ j. refl))
provided_hoisted c u spells (shape.ArrowFunctionExpression ds) xs n none k = tt
provided_hoisted c u spells (shape.ArrowFunctionExpression ds) xs n (p ▸ none) k = (λ e. absurd (true≢false (sym e)), tt)
provided_hoisted c u spells (shape.ArrowFunctionExpression ds) xs n (p ▸ (t ▸ ts)) k =
    let h : Shape = shape.ArrowFunctionExpression ds in
    let one = there u spells h n (p ▸ (t ▸ ts)) 0 spells in
    (λ e. absurd (true≢false (sym e)), (λ e. in_body (spelled_first u h n (p ▸ (t ▸ ts))) true p (body_names t) (names_of declared.Hoisted t) (λ s f. hoisted_in_body s t f), rest_unhandled u spells h n (p ▸ (t ▸ ts)) (of declared.Hoisted) 2 (there u spells h n (p ▸ (t ▸ ts)) 1 one) ts (λ j. refl)))
provided_hoisted c u spells (shape.Function d g ds) xs n none k = tt
provided_hoisted c u spells (shape.Function d g ds) xs n (id ▸ none) k = (λ e. absurd (true≢false (sym e)), tt)
provided_hoisted c u spells (shape.Function d g ds) xs n (id ▸ (p ▸ none)) k = (λ e. absurd (true≢false (sym e)), (λ e. absurd (true≢false (sym e)), tt))
provided_hoisted c u spells (shape.Function true g ds) xs n (id ▸ (p ▸ (t ▸ ts))) k =
    let h : Shape = shape.Function true g ds in
    let us = id ▸ (p ▸ (t ▸ ts)) in
    let one = there u spells h n us 0 spells in
    let two = there u spells h n us 1 one in
    (λ e. absurd (true≢false (sym e)), (λ e. absurd (true≢false (sym e)), (λ e. in_body (spelled_first u h n us) true p (body_names t) (names_of declared.Hoisted t) (λ s f. hoisted_in_body s t f), rest_unhandled u spells h n us (of declared.Hoisted) 3 (there u spells h n us 2 two) ts (λ j. refl))))
provided_hoisted c u spells (shape.Function false g ds) xs n (id ▸ (p ▸ (t ▸ ts))) k =
    let h : Shape = shape.Function false g ds in
    let us = id ▸ (p ▸ (t ▸ ts)) in
    let one = there u spells h n us 0 spells in
    let two = there u spells h n us 1 one in
    (λ e. absurd (true≢false (sym e)), (λ e. absurd (true≢false (sym e)), (λ e. in_body one true p (body_names t) (names_of declared.Hoisted t) (λ s f. hoisted_in_body s t f), rest_unhandled u spells h n us (of declared.Hoisted) 3 (there u spells h n us 2 two) ts (λ j. refl))))
provided_hoisted c u spells h xs n ts k = rest_unhandled u spells h n ts (of declared.Hoisted) 0 spells ts (λ j. refl)

provided_list : (c : Class) (u : Use) (spells : Spellings) (h : Shape) (xs : List Name) (n : ℕ) (ts : Trees) → Standing c u spells h xs n ts → ProvidedBy of_body u spells h n ts
unfolding names_of scopes_by
provided_list c u spells (shape.ArrowFunctionExpression ds) xs n none k = tt
provided_list c u spells (shape.ArrowFunctionExpression ds) xs n (p ▸ none) k = (λ e. absurd (true≢false (sym e)), tt)
provided_list c u spells (shape.ArrowFunctionExpression ds) xs n (p ▸ (t ▸ ts)) k =
    let h : Shape = shape.ArrowFunctionExpression ds in
    let one = there u spells h n (p ▸ (t ▸ ts)) 0 spells in
    (λ e. absurd (true≢false (sym e)), (λ e. in_body (spelled_first u h n (p ▸ (t ▸ ts))) false p (body_names t) (owed of_body t) (λ s f. list_in_body s t f), rest_unhandled u spells h n (p ▸ (t ▸ ts)) of_body 2 (there u spells h n (p ▸ (t ▸ ts)) 1 one) ts (λ j. refl)))
provided_list c u spells (shape.Function d g ds) xs n none k = tt
provided_list c u spells (shape.Function d g ds) xs n (id ▸ none) k = (λ e. absurd (true≢false (sym e)), tt)
provided_list c u spells (shape.Function d g ds) xs n (id ▸ (p ▸ none)) k = (λ e. absurd (true≢false (sym e)), (λ e. absurd (true≢false (sym e)), tt))
provided_list c u spells (shape.Function true g ds) xs n (id ▸ (p ▸ (t ▸ ts))) k =
    let h : Shape = shape.Function true g ds in
    let us = id ▸ (p ▸ (t ▸ ts)) in
    let one = there u spells h n us 0 spells in
    let two = there u spells h n us 1 one in
    (λ e. absurd (true≢false (sym e)), (λ e. absurd (true≢false (sym e)), (λ e. in_body (spelled_first u h n us) false p (body_names t) (owed of_body t) (λ s f. list_in_body s t f), rest_unhandled u spells h n us of_body 3 (there u spells h n us 2 two) ts (λ j. refl))))
provided_list c u spells (shape.Function false g ds) xs n (id ▸ (p ▸ (t ▸ ts))) k =
    let h : Shape = shape.Function false g ds in
    let us = id ▸ (p ▸ (t ▸ ts)) in
    let one = there u spells h n us 0 spells in
    let two = there u spells h n us 1 one in
    (λ e. absurd (true≢false (sym e)), (λ e. absurd (true≢false (sym e)), (λ e. in_body one false p (body_names t) (owed of_body t) (λ s f. list_in_body s t f), rest_unhandled u spells h n us of_body 3 (there u spells h n us 2 two) ts (λ j. refl))))
provided_list c u spells h xs n ts k = rest_unhandled u spells h n ts of_body 0 spells ts (λ j. refl)

-- what stands alone from an index on
alone_from : (u : Use) (spells : Spellings) (h : Shape) (n : ℕ) (ts : Trees) (i : ℕ) (inside : Spellings) (us : Trees) → ((j : ℕ) → handles (of declared.Lexical) h j ≡ true → i ≤ j → is_alone (use_of h u j) ≡ true) → Provided (of declared.Lexical) h (opened u h ts) (use_of h u) (begins_body h n) (spelled_first u h n ts) i inside us
alone_from u spells h n ts i inside us f = alone_after (of declared.Lexical) h (opened u h ts) (use_of h u) (begins_body h n) (spelled_first u h n ts) i inside us refl (λ j l e. f j e l)

if_alone : (u : Use) (j : ℕ) → handles (of declared.Lexical) shape.IfStatement j ≡ true → is_alone (use_of shape.IfStatement u j) ≡ true
if_alone u zero e = absurd (true≢false (sym e))
if_alone u (suc j) e = refl

while_alone : (u : Use) (j : ℕ) → handles (of declared.Lexical) shape.WhileStatement j ≡ true → is_alone (use_of shape.WhileStatement u j) ≡ true
while_alone u zero e = absurd (true≢false (sym e))
while_alone u (suc j) e = refl

do_alone : (u : Use) (j : ℕ) → handles (of declared.Lexical) shape.DoWhileStatement j ≡ true → is_alone (use_of shape.DoWhileStatement u j) ≡ true
do_alone u zero e = refl
do_alone u (suc j) e = absurd (true≢false (sym e))

for_alone : (u : Use) (j : ℕ) → handles (of declared.Lexical) shape.ForStatement j ≡ true → 1 ≤ j → is_alone (use_of shape.ForStatement u j) ≡ true
for_alone u zero e l = absurd (omega (arith, l))
for_alone u (suc zero) e l = absurd (true≢false (sym e))
for_alone u (suc (suc zero)) e l = absurd (true≢false (sym e))
for_alone u (suc (suc (suc j))) e l = refl

for_in_alone : (u : Use) (j : ℕ) → handles (of declared.Lexical) shape.ForInStatement j ≡ true → 1 ≤ j → is_alone (use_of shape.ForInStatement u j) ≡ true
for_in_alone u zero e l = absurd (omega (arith, l))
for_in_alone u (suc zero) e l = absurd (true≢false (sym e))
for_in_alone u (suc (suc j)) e l = refl

for_of_alone : (u : Use) (j : ℕ) → handles (of declared.Lexical) shape.ForOfStatement j ≡ true → 1 ≤ j → is_alone (use_of shape.ForOfStatement u j) ≡ true
for_of_alone u zero e l = absurd (omega (arith, l))
for_of_alone u (suc zero) e l = absurd (true≢false (sym e))
for_of_alone u (suc (suc j)) e l = refl

provided_lexical : (c : Class) (u : Use) (spells : Spellings) (h : Shape) (xs : List Name) (n : ℕ) (ts : Trees) → Standing c u spells h xs n ts → ProvidedBy (of declared.Lexical) u spells h n ts
unfolding names_of scopes_by
provided_lexical c u spells shape.Listed xs n ts k = lists c u spells shape.Listed xs n ts k refl (λ i. refl) (k.owes (of declared.Lexical) (k.branch refl))
provided_lexical c u spells shape.SwitchCase xs n ts k = lists c u spells shape.SwitchCase xs n ts k refl (λ i. refl) (k.owes (of declared.Lexical) (k.branch refl))
provided_lexical c u spells shape.ExportNamedDeclaration xs n ts k = lists c u spells shape.ExportNamedDeclaration xs n ts k refl (λ i. refl) (k.owes (of declared.Lexical) (k.branch refl))
provided_lexical c u spells shape.ExportDefaultDeclaration xs n ts k = lists c u spells shape.ExportDefaultDeclaration xs n ts k refl (λ i. refl) (k.owes (of declared.Lexical) (k.branch refl))
provided_lexical c u spells (shape.Program m ds) xs n none k = tt
provided_lexical c u spells (shape.Program m ds) xs n (t ▸ ts) k =
    let h : Shape = shape.Program m ds in
    (λ e a. in_whole_body (spelled_first u h n (t ▸ ts)) false (body_names t) (names_of declared.Lexical t) (λ s f. lexical_in_body s t f), rest_unhandled u spells h n (t ▸ ts) (of declared.Lexical) 1 (there u spells h n (t ▸ ts) 0 spells) ts (λ j. refl))
provided_lexical c u spells shape.StaticBlock xs n none k = tt
provided_lexical c u spells shape.StaticBlock xs n (t ▸ ts) k =
    let h : Shape = shape.StaticBlock in
    (λ e a. in_whole_body (spelled_first u h n (t ▸ ts)) false (body_names t) (names_of declared.Lexical t) (λ s f. lexical_in_body s t f), rest_unhandled u spells h n (t ▸ ts) (of declared.Lexical) 1 (there u spells h n (t ▸ ts) 0 spells) ts (λ j. refl))
provided_lexical c u spells shape.FunctionBody xs n none k = tt
provided_lexical c u spells shape.FunctionBody xs n (t ▸ ts) k =
    let h : Shape = shape.FunctionBody in
    let around = if begins_body h n 0 then spelled_first u h n (t ▸ ts) else spells in
    let list = begun (begins_body h n 0) (spelled_first u h n (t ▸ ts)) spells false (all_names declared.Lexical (t ▸ ts)) (plain c u spells h xs n (t ▸ ts) k refl (λ i. refl) 0) (k.owes of_body) in
    ((λ e a. still_spelled around [] false (names_of declared.Lexical t) (less_spelled around false (all_names declared.Lexical (t ▸ ts)) (names_of declared.Lexical t) (λ s f. in_first s (names_of declared.Lexical t) (all_names declared.Lexical ts) f) list)), rest_unhandled u spells h n (t ▸ ts) (of declared.Lexical) 1 (there u spells h n (t ▸ ts) 0 spells) ts (λ j. refl))
provided_lexical c u spells shape.BlockStatement xs n none k = tt
provided_lexical c u spells shape.BlockStatement xs n (t ▸ ts) k =
    let h : Shape = shape.BlockStatement in
    ((λ e a. in_lexical (if begins_body h n 0 then spelled_first u h n (t ▸ ts) else spells) (lexical_names t)), rest_unhandled u spells h n (t ▸ ts) (of declared.Lexical) 1 (there u spells h n (t ▸ ts) 0 spells) ts (λ j. refl))
provided_lexical c u spells shape.ForStatement xs n none k = tt
provided_lexical c u spells shape.ForStatement xs n (t ▸ ts) k =
    let h : Shape = shape.ForStatement in
    ((λ e a. in_lexical (if begins_body h n 0 then spelled_first u h n (t ▸ ts) else spells) (lexical_names t)), alone_from u spells h n (t ▸ ts) 1 (there u spells h n (t ▸ ts) 0 spells) ts (for_alone u))
provided_lexical c u spells shape.ForInStatement xs n none k = tt
provided_lexical c u spells shape.ForInStatement xs n (t ▸ ts) k =
    let h : Shape = shape.ForInStatement in
    ((λ e a. in_lexical (if begins_body h n 0 then spelled_first u h n (t ▸ ts) else spells) (lexical_names t)), alone_from u spells h n (t ▸ ts) 1 (there u spells h n (t ▸ ts) 0 spells) ts (for_in_alone u))
provided_lexical c u spells shape.ForOfStatement xs n none k = tt
provided_lexical c u spells shape.ForOfStatement xs n (t ▸ ts) k =
    let h : Shape = shape.ForOfStatement in
    ((λ e a. in_lexical (if begins_body h n 0 then spelled_first u h n (t ▸ ts) else spells) (lexical_names t)), alone_from u spells h n (t ▸ ts) 1 (there u spells h n (t ▸ ts) 0 spells) ts (for_of_alone u))
provided_lexical c u spells shape.SwitchStatement xs n none k = tt
provided_lexical c u spells shape.SwitchStatement xs n (a ▸ none) k = ((λ e. absurd (true≢false (sym e))), tt)
provided_lexical c u spells shape.SwitchStatement xs n (a ▸ (t ▸ ts)) k =
    let h : Shape = shape.SwitchStatement in
    let us = a ▸ (t ▸ ts) in
    let one = there u spells h n us 0 spells in
    ((λ e. absurd (true≢false (sym e))), ((λ e b. in_lexical (if begins_body h n 1 then spelled_first u h n us else one) (lexical_names t)), rest_unhandled u spells h n us (of declared.Lexical) 2 (there u spells h n us 1 one) ts (λ j. refl)))
provided_lexical c u spells shape.IfStatement xs n ts k = alone_from u spells shape.IfStatement n ts 0 spells ts (λ j e l. if_alone u j e)
provided_lexical c u spells shape.LabeledStatement xs n ts k = alone_from u spells shape.LabeledStatement n ts 0 spells ts (λ j e l. refl)
provided_lexical c u spells shape.WhileStatement xs n ts k = alone_from u spells shape.WhileStatement n ts 0 spells ts (λ j e l. while_alone u j e)
provided_lexical c u spells shape.DoWhileStatement xs n ts k = alone_from u spells shape.DoWhileStatement n ts 0 spells ts (λ j e l. do_alone u j e)
provided_lexical c u spells h xs n ts k = rest_unhandled u spells h n ts (of declared.Lexical) 0 spells ts (λ j. refl)

binds : (c : Class) (u : Use) (spells : Spellings) (h : Shape) (xs : List Name) (n : ℕ) (ts : Trees) → Standing c u spells h xs n ts → ((i : ℕ) → use_of h u i ≡ u) → is_numbered c h ≡ false → ((i : ℕ) → begins_body h 0 i ≡ false) → Spells spells (is_hoisting u) (all_names declared.Bound ts) → ProvidedBy (of declared.Bound) u spells h n ts
binds c u spells h xs n ts k f e b g = hands c u spells h xs n ts k declared.Bound (is_hoisting u) (λ i s ys p. subst (λ v. Spells s (is_hoisting v) ys) (sym (f i)) p) e b g

-- a pattern spells what it binds
pattern_spells : (u : Use) (h : Shape) (n : ℕ) (ts : Trees) → ((s : List ℕ) → is_spelled s (all_names declared.Bound ts) ≡ true → is_spelled s (own_pattern_names h n ts) ≡ true) → Spells (spelled_first u h n ts) (is_hoisting u) (all_names declared.Bound ts)
pattern_spells u h n ts f s e = both (is_same_flag (is_hoisting u) (is_hoisting u)) (is_spelled s (own_pattern_names h n ts)) (same_flag (is_hoisting u)) (f s e)

-- the name of a function or a class, in a scope of its own or outside
own_name : (own : Bool) (spells : Spellings) (id : Tree) → (own ≡ false → Spells spells false (bound_names id)) → Spells (with_scope spells (lexical_scope (name_if own id))) false (bound_names id)
own_name true spells id f = in_lexical spells (bound_names id)
own_name false spells id f = still_spelled spells (lexical_scope []) false (bound_names id) (f refl)

-- a declaration's name
let_name : (b : Bool) (spells : Spellings) (t : Tree) (ts : Trees) → (b ≡ false → Spells spells false (all_names declared.Bound (t ▸ ts))) → Spells (with_scope spells (at_or_empty (scopes_by (if b then opening.Bound else opening.Nothing) (t ▸ ts)) 0)) false (names_of declared.Bound t)
unfolding scopes_by names_of
let_name true spells t ts f = in_lexical spells (bound_names t)
let_name false spells t ts f = still_spelled spells [] false (names_of declared.Bound t) (less_spelled spells false (all_names declared.Bound (t ▸ ts)) (names_of declared.Bound t) (λ s e. in_first s (names_of declared.Bound t) (all_names declared.Bound ts) e) (f refl))

absent_binds : (spells : Spellings) (v : Bool) (t : Tree) → is_absent t ≡ true → Spells spells v (names_of declared.Bound t)
unfolding names_of
absent_binds spells v (node shape.Absent xs n ts) e = λ s f. absurd (true≢false (sym f))
absent_binds spells v (node h xs n ts) e = absurd (true≢false (sym e))

provided_bound : (c : Class) (u : Use) (spells : Spellings) (h : Shape) (xs : List Name) (n : ℕ) (ts : Trees) → Standing c u spells h xs n ts → ProvidedBy (of declared.Bound) u spells h n ts
unfolding names_of scopes_by
provided_bound c u spells shape.Listed xs n ts k = binds c u spells shape.Listed xs n ts k (λ i. refl) refl (λ i. refl) (k.owes (of declared.Bound))
provided_bound c u spells (shape.BindingProperty shorthand computed) xs n ts k = binds c u spells (shape.BindingProperty shorthand computed) xs n ts k (λ i. refl) refl (λ i. refl) (k.owes (of declared.Bound))
provided_bound c u spells shape.RestElement xs n ts k = binds c u spells shape.RestElement xs n ts k (λ i. refl) refl (λ i. refl) (k.owes (of declared.Bound))
provided_bound c u spells shape.ImportSpecifier xs n ts k = binds c u spells shape.ImportSpecifier xs n ts k (λ i. refl) refl (λ i. refl) (k.owes (of declared.Bound))
provided_bound c u spells shape.ImportDefaultSpecifier xs n ts k = binds c u spells shape.ImportDefaultSpecifier xs n ts k (λ i. refl) refl (λ i. refl) (k.owes (of declared.Bound))
provided_bound c u spells shape.ImportNamespaceSpecifier xs n ts k = binds c u spells shape.ImportNamespaceSpecifier xs n ts k (λ i. refl) refl (λ i. refl) (k.owes (of declared.Bound))
provided_bound c u spells shape.ObjectPattern xs zero ts k = all_handed u spells shape.ObjectPattern 0 ts declared.Bound (is_hoisting u) (λ i s ys f. f) (λ i. refl) (k.owes (of declared.Bound))
provided_bound c u spells shape.ObjectPattern xs (suc n) ts k = all_handed u spells shape.ObjectPattern (suc n) ts declared.Bound (is_hoisting u) (λ i s ys f. f) (λ i. refl) (pattern_spells u shape.ObjectPattern (suc n) ts (λ s e. e))
provided_bound c u spells shape.ArrayPattern xs zero ts k = all_handed u spells shape.ArrayPattern 0 ts declared.Bound (is_hoisting u) (λ i s ys f. f) (λ i. refl) (k.owes (of declared.Bound))
provided_bound c u spells shape.ArrayPattern xs (suc n) ts k = all_handed u spells shape.ArrayPattern (suc n) ts declared.Bound (is_hoisting u) (λ i s ys f. f) (λ i. refl) (pattern_spells u shape.ArrayPattern (suc n) ts (λ s e. e))
provided_bound c u spells shape.AssignmentPattern xs zero ts k = all_handed u spells shape.AssignmentPattern 0 ts declared.Bound (is_hoisting u) (λ i s ys f. f) (λ i. refl) (k.owes (of declared.Bound))
provided_bound c u spells shape.AssignmentPattern xs (suc n) ts k = all_handed u spells shape.AssignmentPattern (suc n) ts declared.Bound (is_hoisting u) (λ i s ys f. f) (λ i. refl) (pattern_spells u shape.AssignmentPattern (suc n) ts (λ s e. e))
provided_bound c u spells (shape.VariableDeclaration v) xs n none k = tt
provided_bound c u spells (shape.VariableDeclaration Var) xs n (t ▸ ts) k =
    let h : Shape = shape.VariableDeclaration Var in
    let around = if begins_body h n 0 then spelled_first u h n (t ▸ ts) else spells in
    let list = begun (begins_body h n 0) (spelled_first u h n (t ▸ ts)) spells true (all_names declared.Bound (t ▸ ts)) (plain c u spells h xs n (t ▸ ts) k refl (λ i. refl) 0) (k.owes (of declared.Hoisted)) in
    let own = still_spelled around [] true (names_of declared.Bound t) (less_spelled around true (all_names declared.Bound (t ▸ ts)) (names_of declared.Bound t) (λ s f. in_first s (names_of declared.Bound t) (all_names declared.Bound ts) f) list) in
    ((λ e. subst (λ v. Spells (with_scope around []) v (names_of declared.Bound t)) (sym (hoisting_by u)) own), rest_unhandled u spells h n (t ▸ ts) (of declared.Bound) 1 (there u spells h n (t ▸ ts) 0 spells) ts (λ j. refl))
provided_bound c u spells (shape.VariableDeclaration Let) xs n (t ▸ ts) k =
    let h : Shape = shape.VariableDeclaration Let in
    let around = if begins_body h n 0 then spelled_first u h n (t ▸ ts) else spells in
    let list = λ (a : is_alone u ≡ false). begun (begins_body h n 0) (spelled_first u h n (t ▸ ts)) spells false (all_names declared.Bound (t ▸ ts)) (plain c u spells h xs n (t ▸ ts) k refl (λ i. refl) 0) (k.owes (of declared.Lexical) a) in
    ((λ e. let_name (is_alone u) around t ts list), rest_unhandled u spells h n (t ▸ ts) (of declared.Bound) 1 (there u spells h n (t ▸ ts) 0 spells) ts (λ j. refl))
provided_bound c u spells (shape.VariableDeclaration Const) xs n (t ▸ ts) k =
    let h : Shape = shape.VariableDeclaration Const in
    let around = if begins_body h n 0 then spelled_first u h n (t ▸ ts) else spells in
    let list = λ (a : is_alone u ≡ false). begun (begins_body h n 0) (spelled_first u h n (t ▸ ts)) spells false (all_names declared.Bound (t ▸ ts)) (plain c u spells h xs n (t ▸ ts) k refl (λ i. refl) 0) (k.owes (of declared.Lexical) a) in
    ((λ e. let_name (is_alone u) around t ts list), rest_unhandled u spells h n (t ▸ ts) (of declared.Bound) 1 (there u spells h n (t ▸ ts) 0 spells) ts (λ j. refl))
provided_bound c u spells shape.ImportDeclaration xs n none k = tt
provided_bound c u spells shape.ImportDeclaration xs n (t ▸ ts) k =
    let h : Shape = shape.ImportDeclaration in
    let around = if begins_body h n 0 then spelled_first u h n (t ▸ ts) else spells in
    let list = begun (begins_body h n 0) (spelled_first u h n (t ▸ ts)) spells false (all_names declared.Bound (t ▸ ts)) (plain c u spells h xs n (t ▸ ts) k refl (λ i. refl) 0) (k.owes (of declared.Lexical) (k.branch refl)) in
    ((λ e. let_name false around t ts (λ f. list)), rest_unhandled u spells h n (t ▸ ts) (of declared.Bound) 1 (there u spells h n (t ▸ ts) 0 spells) ts (λ j. refl))
provided_bound c u spells shape.VariableDeclarator xs n none k = tt
provided_bound c u spells shape.VariableDeclarator xs n (t ▸ ts) k =
    let h : Shape = shape.VariableDeclarator in
    let around = if begins_body h n 0 then spelled_first u h n (t ▸ ts) else spells in
    let own = begun (begins_body h n 0) (spelled_first u h n (t ▸ ts)) spells (is_hoisting u) (names_of declared.Bound t) (plain c u spells h xs n (t ▸ ts) k refl (λ i. refl) 0) (k.owes (of declared.Bound)) in
    ((λ e. still_spelled around [] (is_hoisting u) (names_of declared.Bound t) own), rest_unhandled u spells h n (t ▸ ts) (of declared.Bound) 1 (there u spells h n (t ▸ ts) 0 spells) ts (λ j. refl))
provided_bound c u spells shape.CatchClause xs n none k = tt
provided_bound c u spells shape.CatchClause xs n (t ▸ ts) k =
    let h : Shape = shape.CatchClause in
    ((λ e. in_lexical (if begins_body h n 0 then spelled_first u h n (t ▸ ts) else spells) (bound_names t)), rest_unhandled u spells h n (t ▸ ts) (of declared.Bound) 1 (there u spells h n (t ▸ ts) 0 spells) ts (λ j. refl))
provided_bound c u spells (shape.ArrowFunctionExpression ds) xs n none k = tt
provided_bound c u spells (shape.ArrowFunctionExpression ds) xs n (p ▸ none) k = absurd (true≢false (sym k.enough))
provided_bound c u spells (shape.ArrowFunctionExpression ds) xs n (p ▸ (t ▸ ts)) k =
    let h : Shape = shape.ArrowFunctionExpression ds in
    let us = p ▸ (t ▸ ts) in
    ((λ e. in_whole_body (spelled_first u h n us) false (bound_names p) (bound_names p) (λ s f. f)), rest_unhandled u spells h n us (of declared.Bound) 1 (there u spells h n us 0 spells) (t ▸ ts) (λ j. refl))
provided_bound c u spells (shape.Function d g ds) xs n none k = tt
provided_bound c u spells (shape.Function d g ds) xs n (id ▸ none) k = absurd (true≢false (sym k.enough))
provided_bound c u spells (shape.Function d g ds) xs n (id ▸ (p ▸ none)) k = absurd (true≢false (sym k.enough))
provided_bound c u spells (shape.Function true g ds) xs n (id ▸ (p ▸ (t ▸ ts))) k =
    let h : Shape = shape.Function true g ds in
    let us = id ▸ (p ▸ (t ▸ ts)) in
    let one = there u spells h n us 0 spells in
    ((λ e. own_name (is_alone u) spells id (k.owes (of declared.Lexical))), ((λ e. in_whole_body (spelled_first u h n us) false (bound_names p) (bound_names p) (λ s f. f)), rest_unhandled u spells h n us (of declared.Bound) 2 (there u spells h n us 1 one) (t ▸ ts) (λ j. refl)))
provided_bound c u spells (shape.Function false g ds) xs n (id ▸ (p ▸ (t ▸ ts))) k =
    let h : Shape = shape.Function false g ds in
    let us = id ▸ (p ▸ (t ▸ ts)) in
    let one = there u spells h n us 0 spells in
    ((λ e. own_name true (spelled_first u h n us) id (λ f. absurd (true≢false f))), ((λ e. in_whole_body one false (bound_names p) (bound_names p) (λ s f. f)), rest_unhandled u spells h n us (of declared.Bound) 2 (there u spells h n us 1 one) (t ▸ ts) (λ j. refl)))
provided_bound c u spells (shape.Class d) xs n none k = tt
provided_bound c u spells (shape.Class d) xs n (id ▸ none) k = absurd (true≢false (sym k.enough))
provided_bound c u spells (shape.Class d) xs n (id ▸ (a ▸ none)) k = absurd (true≢false (sym k.enough))
provided_bound c u spells (shape.Class d) xs n (id ▸ (a ▸ (b ▸ none))) k = absurd (true≢false (sym k.enough))
provided_bound c u spells (shape.Class true) xs zero (id ▸ (a ▸ (b ▸ (again ▸ ts)))) k =
    let h : Shape = shape.Class true in
    let us = id ▸ (a ▸ (b ▸ (again ▸ ts))) in
    let one = there u spells h 0 us 0 spells in
    let two = there u spells h 0 us 1 one in
    let three = there u spells h 0 us 2 two in
    let own = still_spelled three [] false (bound_names again) (still_spelled two [] false (bound_names again) (in_lexical one (bound_names again))) in
    ((λ e. own_name (is_alone u) spells id (k.owes (of declared.Lexical))), ((λ e. absurd (true≢false (sym e))), ((λ e. absurd (true≢false (sym e))), ((λ e. own), rest_unhandled u spells h 0 us (of declared.Bound) 4 (there u spells h 0 us 3 three) ts (λ j. refl)))))
provided_bound c u spells (shape.Class true) xs (suc n) (id ▸ (a ▸ (b ▸ (again ▸ ts)))) k =
    let h : Shape = shape.Class true in
    let us = id ▸ (a ▸ (b ▸ (again ▸ ts))) in
    let one = there u spells h (suc n) us 0 spells in
    let two = there u spells h (suc n) us 1 one in
    let three = there u spells h (suc n) us 2 two in
    let own = still_spelled three [] false (bound_names again) (still_spelled two [] false (bound_names again) (in_lexical (spelled_first u h (suc n) us) (bound_names again))) in
    ((λ e. own_name (is_alone u) spells id (k.owes (of declared.Lexical))), ((λ e. absurd (true≢false (sym e))), ((λ e. absurd (true≢false (sym e))), ((λ e. own), rest_unhandled u spells h (suc n) us (of declared.Bound) 4 (there u spells h (suc n) us 3 three) ts (λ j. refl)))))
provided_bound c u spells (shape.Class false) xs n (id ▸ (a ▸ (b ▸ (again ▸ ts)))) k =
    let h : Shape = shape.Class false in
    let us = id ▸ (a ▸ (b ▸ (again ▸ ts))) in
    let one = there u spells h n us 0 spells in
    let two = there u spells h n us 1 one in
    let three = there u spells h n us 2 two in
    let around = if begins_body h n 0 then spelled_first u h n us else spells in
    ((λ e. own_name true around id (λ f. absurd (true≢false f))), ((λ e. absurd (true≢false (sym e))), ((λ e. absurd (true≢false (sym e))), ((λ e. absent_binds (there u spells h n us 3 three) false again (class_parts c false us k.whole)), rest_unhandled u spells h n us (of declared.Bound) 4 (there u spells h n us 3 three) ts (λ j. refl)))))
provided_bound c u spells h xs n ts k = rest_unhandled u spells h n ts (of declared.Bound) 0 spells ts (λ j. refl)

pub provided : (d : Debt) (c : Class) (u : Use) (spells : Spellings) (h : Shape) (xs : List Name) (n : ℕ) (ts : Trees) → Standing c u spells h xs n ts → ProvidedBy d u spells h n ts
provided (of declared.Bound) c u spells h xs n ts k = provided_bound c u spells h xs n ts k
provided (of declared.Lexical) c u spells h xs n ts k = provided_lexical c u spells h xs n ts k
provided (of declared.Hoisted) c u spells h xs n ts k = provided_hoisted c u spells h xs n ts k
provided of_body c u spells h xs n ts k = provided_list c u spells h xs n ts k
