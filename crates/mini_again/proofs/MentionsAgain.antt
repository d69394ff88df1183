-- The names that a program mentions, of a program that is read again.
use Rattle.std.specs.Prelude.{◌≡◌, refl, ℕ, zero, suc, nat_eq, Bool, true, false, not, ◌||◌, List, [], ◌∷◌, ◌++◌, map, Option, Some, None}
use Rattle.std.specs.List.{list_any}
use Rattle.std.proofs.Common.{ap, ◌∙◌, sym, arith}
use Rattle.std.proofs.lemmas.Bool.{eqb-true, eq-eqb}
use Rattle.std.proofs.lemmas.List.{map-append}
use Rattle.mini_laws.specs.Foreign.{has_number, any_has_number, params_with, own_params_around, params_around, all_params_around}
use Rattle.mini_laws.specs.DeclaredNames.{bound_names}
use Rattle.mini_laws.specs.Mentions.{Mention, mentions, mentions_from, own_mentions, around_by, around_child, numbering_of, is_elsewhere, same_variable, same_variable_by, is_among}
use Rattle.mini_laws.specs.Renaming.{rename_name, rename_symbol, TellsApart}
use Rattle.mini_laws.specs.Scopes.{use_of}
use Rattle.mini_laws.specs.Shared.{var_writes, var_writes_from, write_at, given_values}
use Rattle.mini_laws.specs.declared.names.Around.{Around}
use Rattle.mini_laws.specs.declared.names.Numbering.{Numbering}
use Rattle.mini_laws.specs.declared.names.Numbering.TheVariants as numbering
use Rattle.mini_laws.specs.declared.names.Use.{Use}
use Rattle.mini_laws.specs.declared.names.Declared.TheVariants as declared
use Rattle.mini_model.specs.declared.name.Name.{Name}
use Rattle.mini_model.specs.declared.name.SymbolId.{SymbolId}
use Rattle.mini_model.specs.declared.shape.Shape.{Shape}
use Rattle.mini_model.specs.declared.shape.Shape.TheVariants as shape
use Rattle.mini_model.specs.Tree.{Tree, Trees, node, none, ◌▸◌}
use Rattle.mini_again.specs.Again.{Renaming, again, all_again, other_number}
use Rattle.mini_again.proofs.Equal.{alike}
use Rattle.mini_again.proofs.LawDeclaredNamesAgain.{names_of_again}
use Rattle.mini_again.proofs.LawSharedAgain.{given_values_again}
use Rattle.mini_again.proofs.Names.{if_names_again}

-- ---- of any list

pub any_again : {A : Type 0} (g : A → A) (p q : A → Bool) → ((x : A) → p (g x) ≡ q x) → (xs : List A) → list_any p (map g xs) ≡ list_any q xs
any_again g p q e [] = refl
any_again g p q e (x ∷ xs) = ap (λ b. b || list_any p (map g xs)) (e x) ∙ ap (λ b. q x || b) (any_again g p q e xs)

-- ---- variables

same_by_again : (ρ : Renaming) (m n : Option SymbolId) (s r : List ℕ) → same_variable_by (rename_symbol ρ.symbol m) (rename_symbol ρ.symbol n) s r ≡ same_variable_by m n s r
same_by_again ρ (Some m) (Some n) s r = ρ.apart m.0 n.0
same_by_again ρ None None s r = refl
same_by_again ρ (Some m) None s r = refl
same_by_again ρ None (Some n) s r = refl

pub same_variable_again : (ρ : Renaming) (x y : Name) → same_variable (rename_name ρ.symbol x) (rename_name ρ.symbol y) ≡ same_variable x y
same_variable_again ρ x y = same_by_again ρ x.symbol y.symbol x.spelling y.spelling

pub is_among_again : (ρ : Renaming) (x : Name) (xs : List Name) → is_among (rename_name ρ.symbol x) (map (rename_name ρ.symbol) xs) ≡ is_among x xs
is_among_again ρ x xs = any_again (rename_name ρ.symbol) (same_variable (rename_name ρ.symbol x)) (same_variable x) (same_variable_again ρ x) xs

-- ---- numbers, which are told apart

abbrev pub around_again : Renaming → Around → Around
around_again ρ a = record { number = other_number ρ a.number; carried = a.carried }

abbrev pub mention_again : Renaming → Mention → Mention
mention_again ρ m = record { name = rename_name ρ.symbol m.name; used = m.used; binds = m.binds; around = around_again ρ m.around }

numbering_again : (ρ : Renaming) (h : Shape) (n : ℕ) → numbering_of h (other_number ρ n) ≡ numbering_of h n
numbering_again ρ h zero = refl
numbering_again ρ (shape.Program is_module ds) (suc n) = refl
numbering_again ρ (shape.Function d g ds) (suc n) = refl
numbering_again ρ (shape.ArrowFunctionExpression ds) (suc n) = refl
numbering_again ρ shape.StaticBlock (suc n) = refl
numbering_again ρ shape.InnerExpression (suc n) = refl
numbering_again ρ h (suc n) = refl

around_by_again : (ρ : Renaming) (k : Numbering) (a : Around) (n : ℕ) → around_by k (around_again ρ a) (other_number ρ n) ≡ around_again ρ (around_by k a n)
around_by_again ρ numbering.Body a n = refl
around_by_again ρ numbering.Carried a n = refl
around_by_again ρ numbering.Unnumbered a n = refl

any_child_again : (ρ : Renaming) (h : Shape) (a : Around) (n : ℕ) → around_by (numbering_of h (other_number ρ n)) (around_again ρ a) (other_number ρ n) ≡ around_again ρ (around_by (numbering_of h n) a n)
any_child_again ρ h a n = ap (λ k. around_by k (around_again ρ a) (other_number ρ n)) (numbering_again ρ h n) ∙ around_by_again ρ (numbering_of h n) a n

pub around_child_again : (ρ : Renaming) (h : Shape) (a : Around) (n i : ℕ) → around_child h (around_again ρ a) (other_number ρ n) i ≡ around_again ρ (around_child h a n i)
around_child_again ρ (shape.Function true g ds) a n zero = refl
around_child_again ρ (shape.Class true) a n zero = refl
around_child_again ρ (shape.Function true g ds) a n (suc i) = any_child_again ρ (shape.Function true g ds) a n
around_child_again ρ (shape.Class true) a n (suc i) = any_child_again ρ (shape.Class true) a n
around_child_again ρ h a n i = any_child_again ρ h a n

own_again : (ρ : Renaming) (u : Use) (a : Around) (h : Shape) (xs : List Name) → own_mentions u (around_again ρ a) h (map (rename_name ρ.symbol) xs) ≡ map (mention_again ρ) (own_mentions u a h xs)
own_again ρ u a shape.Identifier [] = refl
own_again ρ u a shape.Identifier (x ∷ xs) = ap (λ ms. mention_again ρ (record { name = x; used = u; binds = false; around = a }) ∷ ms) (own_again ρ u a shape.Identifier xs)
own_again ρ u a shape.BindingIdentifier [] = refl
own_again ρ u a shape.BindingIdentifier (x ∷ xs) = ap (λ ms. mention_again ρ (record { name = x; used = u; binds = true; around = a }) ∷ ms) (own_again ρ u a shape.BindingIdentifier xs)
own_again ρ u a h xs = refl

pub own_mentions_again : (ρ : Renaming) (u : Use) (a : Around) (h : Shape) (xs : List Name) → own_mentions u (around_again ρ a) h (map (rename_name ρ.symbol) xs) ≡ map (mention_again ρ) (own_mentions u a h xs)
own_mentions_again = own_again

both_again : (ρ : Renaming) (a a' b b' : List Mention) → a' ≡ map (mention_again ρ) a → b' ≡ map (mention_again ρ) b → (a' ++ b') ≡ map (mention_again ρ) (a ++ b)
both_again ρ a a' b b' e f = ap (λ xs. xs ++ b') e ∙ ap (λ ys. map (mention_again ρ) a ++ ys) f ∙ sym (map-append (mention_again ρ) a b)

mutual
  unfolding mentions

  pub mentions_again : (ρ : Renaming) (u : Use) (a : Around) (t : Tree) → mentions u (around_again ρ a) (again ρ t) ≡ map (mention_again ρ) (mentions u a t)
  mentions_again ρ u a (node h xs n ts) =
      both_again ρ _ _ _ _ (own_again ρ u a h xs) (mentions_from_again ρ (use_of h u) (around_child h a n) (around_child h (around_again ρ a) (other_number ρ n)) (around_child_again ρ h a n) 0 ts)

  mentions_from_again : (ρ : Renaming) (uses : ℕ → Use) (arounds laters : ℕ → Around) → ((i : ℕ) → laters i ≡ around_again ρ (arounds i)) → (i : ℕ) (ts : Trees) → mentions_from uses laters i (all_again ρ ts) ≡ map (mention_again ρ) (mentions_from uses arounds i ts)
  mentions_from_again ρ uses arounds laters e i none = refl
  mentions_from_again ρ uses arounds laters e i (t ▸ ts) =
      both_again ρ _ _ _ _ (ap (λ a. mentions (uses i) a (again ρ t)) (e i) ∙ mentions_again ρ (uses i) (arounds i) t) (mentions_from_again ρ uses arounds laters e (suc i) ts)

writes_again : (ρ : Renaming) (a : Around) (xs : List Name) → map (write_at (around_again ρ a)) (map (rename_name ρ.symbol) xs) ≡ map (mention_again ρ) (map (write_at a) xs)
writes_again ρ a [] = refl
writes_again ρ a (x ∷ xs) = ap (λ ms. mention_again ρ (write_at a x) ∷ ms) (writes_again ρ a xs)

mutual
  unfolding var_writes

  pub var_writes_again : (ρ : Renaming) (u : Use) (a : Around) (t : Tree) → var_writes u (around_again ρ a) (again ρ t) ≡ map (mention_again ρ) (var_writes u a t)
  var_writes_again ρ u a (node h xs n ts) =
      both_again ρ _ _ _ _ (ap (map (write_at (around_again ρ a))) (given_values_again ρ u h xs ts) ∙ writes_again ρ a (given_values u h xs ts)) (var_writes_from_again ρ (use_of h u) (around_child h a n) (around_child h (around_again ρ a) (other_number ρ n)) (around_child_again ρ h a n) 0 ts)

  var_writes_from_again : (ρ : Renaming) (uses : ℕ → Use) (arounds laters : ℕ → Around) → ((i : ℕ) → laters i ≡ around_again ρ (arounds i)) → (i : ℕ) (ts : Trees) → var_writes_from uses laters i (all_again ρ ts) ≡ map (mention_again ρ) (var_writes_from uses arounds i ts)
  var_writes_from_again ρ uses arounds laters e i none = refl
  var_writes_from_again ρ uses arounds laters e i (t ▸ ts) =
      both_again ρ _ _ _ _ (ap (λ a. var_writes (uses i) a (again ρ t)) (e i) ∙ var_writes_again ρ (uses i) (arounds i) t) (var_writes_from_again ρ uses arounds laters e (suc i) ts)

-- ---- bodies, whose numbers are told apart

same_before : (ρ : Renaming) → TellsApart ρ.number → (m n : ℕ) → other_number ρ m ≡ other_number ρ n → m ≡ n
same_before ρ far zero zero e = refl
same_before ρ far zero (suc n) e = absurd (omega arith)
same_before ρ far (suc m) zero e = absurd (omega arith)
same_before ρ far (suc m) (suc n) e = ap suc (eqb-true m n (sym (far m n) ∙ eq-eqb (ρ.number m) (ρ.number n) (omega arith)))

pub same_number_again : (ρ : Renaming) → TellsApart ρ.number → (m n : ℕ) → nat_eq (other_number ρ m) (other_number ρ n) ≡ nat_eq m n
same_number_again ρ far m n =
    alike (nat_eq (other_number ρ m) (other_number ρ n)) (nat_eq m n) (λ e. eq-eqb m n (same_before ρ far m n (eqb-true (other_number ρ m) (other_number ρ n) e))) (λ e. eq-eqb (other_number ρ m) (other_number ρ n) (ap (other_number ρ) (eqb-true m n e)))

pub is_elsewhere_again : (ρ : Renaming) → TellsApart ρ.number → (b : ℕ) (a : Around) → is_elsewhere (other_number ρ b) (around_again ρ a) ≡ is_elsewhere b a
is_elsewhere_again ρ far b a = ap (λ c. a.carried || not c) (same_number_again ρ far a.number b)

mutual
  unfolding has_number

  has_number_again : (ρ : Renaming) → TellsApart ρ.number → (b : ℕ) (t : Tree) → has_number (other_number ρ b) (again ρ t) ≡ has_number b t
  has_number_again ρ far b (node h xs n ts) = ap (λ c. c || any_has_number (other_number ρ b) (all_again ρ ts)) (same_number_again ρ far n b) ∙ ap (λ c. nat_eq n b || c) (any_has_number_again ρ far b ts)

  any_has_number_again : (ρ : Renaming) → TellsApart ρ.number → (b : ℕ) (ts : Trees) → any_has_number (other_number ρ b) (all_again ρ ts) ≡ any_has_number b ts
  any_has_number_again ρ far b none = refl
  any_has_number_again ρ far b (t ▸ ts) = ap (λ c. c || any_has_number (other_number ρ b) (all_again ρ ts)) (has_number_again ρ far b t) ∙ ap (λ c. has_number b t || c) (any_has_number_again ρ far b ts)

params_with_again : (ρ : Renaming) → TellsApart ρ.number → (b : ℕ) (t : Tree) → params_with (other_number ρ b) (again ρ t) ≡ map (rename_name ρ.symbol) (params_with b t)
params_with_again ρ far b t = simp (has_number_again ρ far b t, names_of_again ρ declared.Bound t) (if_names_again ρ (has_number b t) (bound_names t) [])

own_params_again : (ρ : Renaming) → TellsApart ρ.number → (b : ℕ) (h : Shape) (ts : Trees) → own_params_around (other_number ρ b) h (all_again ρ ts) ≡ map (rename_name ρ.symbol) (own_params_around b h ts)
own_params_again ρ far b (shape.Function d g ds) (id ▸ (params ▸ ts)) = params_with_again ρ far b params
own_params_again ρ far b (shape.ArrowFunctionExpression ds) (params ▸ ts) = params_with_again ρ far b params
own_params_again ρ far b h ts = refl

mutual
  unfolding params_around

  pub params_around_again : (ρ : Renaming) → TellsApart ρ.number → (b : ℕ) (t : Tree) → params_around (other_number ρ b) (again ρ t) ≡ map (rename_name ρ.symbol) (params_around b t)
  params_around_again ρ far b (node h xs n ts) = simp (own_params_again ρ far b h ts, all_params_around_again ρ far b ts, map-append)

  all_params_around_again : (ρ : Renaming) → TellsApart ρ.number → (b : ℕ) (ts : Trees) → all_params_around (other_number ρ b) (all_again ρ ts) ≡ map (rename_name ρ.symbol) (all_params_around b ts)
  all_params_around_again ρ far b none = refl
  all_params_around_again ρ far b (t ▸ ts) = simp (params_around_again ρ far b t, all_params_around_again ρ far b ts, map-append)
