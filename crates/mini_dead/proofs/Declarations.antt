-- A declaration of a well-shaped program holds one list of declarators, which isn't empty.
use Rattle.std.proofs.Common.{◌≡◌, ℕ, Bool, true, false, List, [], ◌∷◌, Some, None, refl, sym, ap, ◌∙◌, true≢false, inl, inr}
use Rattle.std.specs.Prelude.{◌⊎◌, nat_le, ◌&&◌, ◌||◌}
use Rattle.mini_model.specs.declared.kind.VariableDeclarationKind.{VariableDeclarationKind}
use Rattle.mini_model.specs.declared.name.Name.{Name}
use Rattle.mini_model.specs.declared.shape.Shape.{Shape}
use Rattle.mini_model.specs.declared.shape.Shape.TheVariants as shape
use Rattle.mini_model.specs.Tree.{Tree, Trees, node, none, ◌▸◌, count, children}
use Rattle.mini_accept.specs.WellShaped.{Class, a_statement, an_init, a_loop_left, a_declarator, an_exported_declaration, a_key, a_private_or_key, an_inner_key, in_module, in_body, nested, Slot, one, one_or_absent, many, Tagging, untagged, tagged, Filling, refused, these, each, each_or_last, pieces, filling, filling_by, class_of, slots_of, has_its_number, has_names, has_plain_fields, has_its_parts, is_whole, is_strict_in, is_last, first_item, is_head_by, is_quasi, is_quasi_by, are_quasis, fits, fill}
use Rattle.mini_kept.proofs.Bools.{left, right}

abbrev pub OneList : Trees → Type 0
OneList (node shape.Listed ys m (c ▸ cs) ▸ none) = Unit {0}
OneList ts = ⊥

abbrev pub OwnMade : Shape → Trees → Type 0
OwnMade (shape.VariableDeclaration k) ts = OneList ts
OwnMade h ts = Unit {0}

abbrev mutual
  pub Made : Tree → Type 0
  Made (node h xs n ts) = OwnMade h ts × AllMade ts

  pub AllMade : Trees → Type 0
  AllMade none = Unit {0}
  AllMade (t ▸ ts) = Made t × AllMade ts

slots_are : (strict : Bool) (c : Class) (k : VariableDeclarationKind) → (slots_of strict c (shape.VariableDeclaration k) ≡ Some (many a_declarator ∷ [])) ⊎ (slots_of strict c (shape.VariableDeclaration k) ≡ None)
slots_are true (a_statement d) k = inl refl
slots_are false (a_statement in_module) k = inl refl
slots_are false (a_statement in_body) k = inl refl
slots_are false (a_statement nested) k = inl refl
slots_are strict an_init k = inl refl
slots_are strict (a_loop_left b) k = inl refl
slots_are strict an_exported_declaration k = inl refl
slots_are strict (a_key true) k = inr refl
slots_are strict (a_key false) k = inr refl
slots_are strict (a_private_or_key true) k = inr refl
slots_are strict (a_private_or_key false) k = inr refl
slots_are strict (an_inner_key true) k = inr refl
slots_are strict (an_inner_key false) k = inr refl
slots_are strict c k = inr refl

abbrev NotEmpty : Trees → Type 0
NotEmpty none = ⊥
NotEmpty (c ▸ cs) = Unit {0}

head_some : (b : Bool) (k : VariableDeclarationKind) (cs : Trees) → is_head_by b k cs ≡ true → NotEmpty cs
head_some b k none e = true≢false (sym e)
head_some b k (c ▸ cs) e = tt

counted_some : (cs : Trees) → nat_le 1 (count cs) ≡ true → NotEmpty cs
counted_some none e = true≢false (sym e)
counted_some (c ▸ cs) e = tt

some_declarator : (c : Class) (k : VariableDeclarationKind) (ts : Trees) → has_its_parts c (shape.VariableDeclaration k) ts ≡ true → NotEmpty (children (first_item ts))
some_declarator (a_loop_left b) k ts e = head_some b k (children (first_item ts)) e
some_declarator c k ts e = counted_some (children (first_item ts)) e

listed : (strict : Bool) (ts : Trees) → fill strict (these (many a_declarator ∷ [])) ts ≡ true → NotEmpty (children (first_item ts)) → OneList ts
listed strict none e p = absurd (true≢false (sym e))
listed strict (node shape.Listed ys m (c ▸ cs) ▸ none) e p = tt
listed strict (node shape.Listed ys m none ▸ none) e p = absurd p
listed strict (t ▸ (u ▸ ts)) e p = absurd (true≢false (sym (right (fits strict (many a_declarator) t) _ e)))
listed strict (node h ys m cs ▸ none) e p = absurd (true≢false (sym (right (is_whole a_declarator h ys m cs) _ (left (fits strict (many a_declarator) (node h ys m cs)) _ e))))

its_parts : (c : Class) (h : Shape) (xs : List Name) (n : ℕ) (ts : Trees) → is_whole c h xs n ts ≡ true → has_its_parts c h ts ≡ true
its_parts c h xs n ts e = right (has_plain_fields h) _ (right (has_its_number c h n) _ (right (has_names h xs) _ e))

by_slots : (strict : Bool) (c : Class) (k : VariableDeclarationKind) (ts : Trees) → has_its_parts c (shape.VariableDeclaration k) ts ≡ true → fill strict (filling_by (slots_of strict c (shape.VariableDeclaration k))) ts ≡ true → OneList ts
by_slots strict c k ts p e = by (slots_are strict c k)
  where
    by : (slots_of strict c (shape.VariableDeclaration k) ≡ Some (many a_declarator ∷ [])) ⊎ (slots_of strict c (shape.VariableDeclaration k) ≡ None) → OneList ts
    by (inl q) = listed strict ts (sym (ap (λ s. fill strict (filling_by s) ts) q) ∙ e) (some_declarator c k ts p)
    by (inr q) = absurd (true≢false (sym e ∙ ap (λ s. fill strict (filling_by s) ts) q))

own_made : (strict : Bool) (s : Slot) (h : Shape) (xs : List Name) (n : ℕ) (ts : Trees) → fits strict s (node h xs n ts) ≡ true → OwnMade h ts
own_made strict (one c) (shape.VariableDeclaration k) xs n ts e =
    by_slots strict c k ts (its_parts c (shape.VariableDeclaration k) xs n ts (left (is_whole c (shape.VariableDeclaration k) xs n ts) _ e)) (right (is_whole c (shape.VariableDeclaration k) xs n ts) _ e)
own_made strict (one_or_absent c) (shape.VariableDeclaration k) xs n ts e =
    by_slots strict c k ts (its_parts c (shape.VariableDeclaration k) xs n ts (left (is_whole c (shape.VariableDeclaration k) xs n ts) _ e)) (right (is_whole c (shape.VariableDeclaration k) xs n ts) _ e)
own_made strict s (shape.VariableDeclaration k) xs n ts e = absurd (true≢false (sym (right (is_whole (class_of s) (shape.VariableDeclaration k) xs n ts) _ e)))
own_made strict s h xs n ts e = tt

quasi_made : (g : Tagging) (last : Bool) (h : Shape) → is_quasi_by g last h ≡ true → OwnMade h none
quasi_made g last (shape.VariableDeclaration k) e = no g last e
  where
    no : (g : Tagging) (last : Bool) → is_quasi_by g last (shape.VariableDeclaration k) ≡ true → ⊥
    no untagged last e = true≢false (sym e)
    no tagged last e = true≢false (sym e)
quasi_made g last h e = tt

one_quasi : (g : Tagging) (last : Bool) (t : Tree) → is_quasi g last t ≡ true → Made t
one_quasi g last (node h [] n none) e = (quasi_made g last h (left (is_quasi_by g last h) _ e), tt)
one_quasi g last (node h (x ∷ xs) n ts) e = absurd (true≢false (sym e))
one_quasi g last (node h [] n (t ▸ ts)) e = absurd (true≢false (sym e))

quasis_made : (g : Tagging) (ts : Trees) → are_quasis g ts ≡ true → AllMade ts
quasis_made g none e = tt
quasis_made g (t ▸ none) e = (one_quasi g true t e, tt)
quasis_made g (t ▸ (u ▸ ts)) e = (one_quasi g false t (left (is_quasi g false t) _ e), quasis_made g (u ▸ ts) (right (is_quasi g false t) _ e))

either_made : (a b : Bool) (P : Type 0) → (a || b) ≡ true → (a ≡ true → P) → (b ≡ true → P) → P
either_made true b P e f g = f refl
either_made false b P e f g = g e

mutual
  pub fits_made : (strict : Bool) (s : Slot) (t : Tree) → fits strict s t ≡ true → Made t
  fits_made strict s (node h xs n ts) e = (own_made strict s h xs n ts e, fill_made (is_strict_in strict h) (filling strict s h) ts (right (is_whole (class_of s) h xs n ts) _ e))

  fill_made : (strict : Bool) (f : Filling) (ts : Trees) → fill strict f ts ≡ true → AllMade ts
  fill_made strict f none e = tt
  fill_made strict refused (t ▸ ts) e = absurd (true≢false (sym e))
  fill_made strict (these []) (t ▸ ts) e = absurd (true≢false (sym e))
  fill_made strict (these (s ∷ ss)) (t ▸ ts) e = (fits_made strict s t (left (fits strict s t) _ e), fill_made strict (these ss) ts (right (fits strict s t) _ e))
  fill_made strict (each s) (t ▸ ts) e = (fits_made strict s t (left (fits strict s t) _ e), fill_made strict (each s) ts (right (fits strict s t) _ e))
  fill_made strict (each_or_last s l) (t ▸ ts) e =
      (either_made (fits strict s t) (is_last ts && fits strict l t) (Made t) (left (fits strict s t || (is_last ts && fits strict l t)) _ e) (λ p. fits_made strict s t p) (λ p. fits_made strict l t (right (is_last ts) _ p)), fill_made strict (each_or_last s l) ts (right (fits strict s t || (is_last ts && fits strict l t)) _ e))
  fill_made strict (pieces g) (t ▸ ts) e = quasis_made g (t ▸ ts) e
