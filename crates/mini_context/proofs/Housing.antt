-- Bodies, put into the lists of symbols one after another.
use Rattle.std.specs.Prelude.{ℕ, ◌≡◌, ◌<◌, refl, nat_eq, ◌&&◌, ◌||◌, not, Bool, true, false, List, [], ◌∷◌, length}
use Rattle.std.specs.List.{filter, list_any}
use Rattle.std.proofs.Common.{◌∙◌, ap, arith, sym, subst}
use Rattle.std.proofs.lemmas.List.Folds.{list_any-append}
use Rattle.mini_model.specs.declared.name.Name.{Name}
use Rattle.mini_model.specs.declared.shape.Shape.{Shape}
use Rattle.mini_model.specs.declared.shape.Shape.TheVariants as shape
use Rattle.mini_model.specs.Tree.{Tree, shape_of}
use Rattle.mini_node.specs.Children.{names_of}
use Rattle.mini_laws.specs.declared.names.Use.{Use}
use Rattle.mini_laws.specs.declared.names.Around.{Around}
use Rattle.mini_context.specs.Own.{is_binding_shape}
use Rattle.mini_context.specs.Visits.{is_binding}
use Rattle.mini_laws.specs.Mentions.{Mention, own_mentions, same_variable, is_elsewhere}
use Rattle.mini_context.specs.Tables.{named}
use Rattle.mini_context.specs.Lists.{holds, Housed}
use Rattle.mini_context.proofs.Gathering.{Adds}
use Rattle.mini_context.proofs.Marking.{or_false, or_assoc}

abbrev same_here : ℕ → ℕ → Mention → Bool
same_here s b m = same_variable (named s) m.name && not (is_elsewhere b m.around)

and_false : (b : Bool) → (b && false) ≡ false
and_false true = refl
and_false false = refl

pub houses_add : Adds Housed
houses_add = record {
  nothing = λ s. record { lists = refl; each = λ k h b. sym (or_false (holds s k b)) };
  both = λ xs ys a c d f g. record {
    lists = g.lists ∙ f.lists;
    each = λ k h b.
        let within : k < length c = omega (arith, h, f.lists) in
        let p = same_here k b in
        g.each k within b ∙ ap (λ m. m || list_any p ys) (f.each k h b) ∙ or_assoc (holds a k b) (list_any p xs) (list_any p ys)
        ∙ ap (λ m. holds a k b || m) (sym (list_any-append p xs ys));
  };
}

references_bind : (u : Use) (a : Around) (xs : List Name) → filter is_binding (own_mentions u a shape.Identifier xs) ≡ []
references_bind u a [] = refl
references_bind u a (x ∷ xs) = references_bind u a xs

others_bind : (u : Use) (a : Around) (h : Shape) (xs : List Name) → is_binding_shape h ≡ false → filter is_binding (own_mentions u a h xs) ≡ []
others_bind u a shape.Identifier xs e = references_bind u a xs
others_bind u a shape.BindingIdentifier xs e = absurd (cc e)
others_bind u a h xs e = refl

pub other_houses : (u : Use) (a : Around) (t : Tree) (h : Shape) (v : Bool) (old : List (List ℕ)) → h ≡ shape_of t → v ≡ is_binding_shape h → v ≡ false → Housed (filter is_binding (own_mentions u a (shape_of t) (names_of t))) old old
other_houses u a t h v old e f g = subst (λ r. Housed r old old) (sym (others_bind u a (shape_of t) (names_of t) (ap is_binding_shape (sym e) ∙ sym f ∙ g))) (houses_add.nothing old)

-- what stands in a carried node is at home in no body
no_home : (s b : ℕ) (m : Mention) → m.around.carried ≡ true → same_here s b m ≡ false
no_home s b m e = ap (λ v. same_variable (named s) m.name && not (v || not (nat_eq m.around.number b))) e ∙ and_false (same_variable (named s) m.name)

homeless : (s b : ℕ) (u : Use) (a : Around) → a.carried ≡ true → (xs : List Name) → list_any (same_here s b) (filter is_binding (own_mentions u a shape.BindingIdentifier xs)) ≡ false
homeless s b u a e [] = refl
homeless s b u a e (x ∷ xs) = ap (λ v. v || list_any (same_here s b) (filter is_binding (own_mentions u a shape.BindingIdentifier xs))) (no_home s b (record { name = x; used = u; binds = true; around = a }) e) ∙ homeless s b u a e xs

all_homeless : (s b : ℕ) (u : Use) (a : Around) (h : Shape) (xs : List Name) → a.carried ≡ true → list_any (same_here s b) (filter is_binding (own_mentions u a h xs)) ≡ false
all_homeless s b u a shape.Identifier xs e = ap (list_any (same_here s b)) (references_bind u a xs)
all_homeless s b u a shape.BindingIdentifier xs e = homeless s b u a e xs
all_homeless s b u a h xs e = refl

pub carried_houses : (u : Use) (a : Around) (t : Tree) (old : List (List ℕ)) → a.carried ≡ true → Housed (filter is_binding (own_mentions u a (shape_of t) (names_of t))) old old
carried_houses u a t old e = record {
  lists = refl;
  each = λ s h b. sym (ap (λ v. holds old s b || v) (all_homeless s b u a (shape_of t) (names_of t) e) ∙ or_false (holds old s b));
}
