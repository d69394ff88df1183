-- Mentions, added one after another.
use Rattle.std.specs.Prelude.{ℕ, ◌≡◌, ◌<◌, refl, ◌&&◌, ◌||◌, Bool, true, false, cond, List, [], ◌∷◌, length}
use Rattle.std.specs.List.{filter, list_any}
use Rattle.mini_laws.specs.References.{writes}
use Rattle.mini_context.specs.Own.{is_reference_shape}
use Rattle.mini_context.specs.Visits.{is_writing}
use Rattle.std.proofs.Common.{ap, ◌∙◌, arith, sym, subst}
use Rattle.std.proofs.lemmas.Bool.{false≢true}
use Rattle.std.proofs.lemmas.List.Folds.{list_any-append}
use Rattle.mini_model.specs.declared.name.Name.{Name}
use Rattle.mini_model.specs.declared.shape.Shape.{Shape}
use Rattle.mini_model.specs.declared.shape.Shape.TheVariants as shape
use Rattle.mini_model.specs.Tree.{Tree, shape_of}
use Rattle.mini_node.specs.Children.{names_of}
use Rattle.mini_laws.specs.declared.names.Use.{Use}
use Rattle.mini_laws.specs.declared.names.Around.{Around}
use Rattle.mini_laws.specs.Mentions.{Mention, own_mentions, same_variable, is_elsewhere}
use Rattle.mini_laws.specs.Shared.{is_name_of_variable}
use Rattle.mini_context.specs.declared.mentions.Mentioned.{Mentioned}
use Rattle.mini_context.specs.Tables.{named}
use Rattle.mini_context.specs.Mentioned.{is_outside, mentioned_at, Joined}
use Rattle.mini_context.proofs.Gathering.{Adds}
use Rattle.mini_context.proofs.Marking.{or_false, or_assoc}

abbrev same_elsewhere : ℕ → ℕ → Mention → Bool
same_elsewhere s b m = same_variable (named s) m.name && is_elsewhere b m.around

pub joins_add : Adds Joined
joins_add = record {
  nothing = λ s. record { symbols = refl; each = λ k h b. sym (or_false (is_outside (mentioned_at s k) b)) };
  both = λ xs ys a c d f g. record {
    symbols = g.symbols ∙ f.symbols;
    each = λ k h b.
        let within : k < length c = omega (arith, h, f.symbols) in
        let p = same_elsewhere k b in
        g.each k within b ∙ ap (λ m. m || list_any p ys) (f.each k h b) ∙ or_assoc (is_outside (mentioned_at a k) b) (list_any p xs) (list_any p ys)
        ∙ ap (λ m. is_outside (mentioned_at a k) b || m) (sym (list_any-append p xs ys));
  };
}

pub no_name : (u : Use) (a : Around) (h : Shape) → own_mentions u a h [] ≡ []
no_name u a shape.Identifier = refl
no_name u a shape.BindingIdentifier = refl
no_name u a h = refl

pub no_variable : (u : Use) (a : Around) (h : Shape) (xs : List Name) → is_name_of_variable h ≡ false → own_mentions u a h xs ≡ []
no_variable u a shape.Identifier xs e = absurd (cc e)
no_variable u a shape.BindingIdentifier xs e = absurd (cc e)
no_variable u a h xs e = refl

-- ---- a node

none_joins : (ms : List Mention) (old : List Mentioned) → ms ≡ [] → Joined ms old old
none_joins ms old e = subst (λ r. Joined r old old) (sym e) (joins_add.nothing old)

pub other_joins : (u : Use) (a : Around) (t : Tree) (h : Shape) (old : List Mentioned) → h ≡ shape_of t → is_name_of_variable h ≡ false → Joined (own_mentions u a (shape_of t) (names_of t)) old old
other_joins u a t h old e q = none_joins (own_mentions u a (shape_of t) (names_of t)) old (ap (λ k. own_mentions u a k (names_of t)) (sym e) ∙ no_variable u a h (names_of t) q)

-- ---- those that write

writes_all : (u : Use) (a : Around) (xs : List Name) → writes u ≡ true → filter is_writing (own_mentions u a shape.Identifier xs) ≡ own_mentions u a shape.Identifier xs
writes_all u a [] e = refl
writes_all u a (x ∷ xs) e =
    let m : Mention = record { name = x; used = u; binds = false; around = a } in
    ap (λ b. cond b (m ∷ filter is_writing (own_mentions u a shape.Identifier xs)) (filter is_writing (own_mentions u a shape.Identifier xs))) e
    ∙ ap (λ r. m ∷ r) (writes_all u a xs e)

writes_none : (u : Use) (a : Around) (xs : List Name) → writes u ≡ false → filter is_writing (own_mentions u a shape.Identifier xs) ≡ []
writes_none u a [] e = refl
writes_none u a (x ∷ xs) e =
    let m : Mention = record { name = x; used = u; binds = false; around = a } in
    ap (λ b. cond b (m ∷ filter is_writing (own_mentions u a shape.Identifier xs)) (filter is_writing (own_mentions u a shape.Identifier xs))) e
    ∙ writes_none u a xs e

binds_none : (u : Use) (a : Around) (xs : List Name) → filter is_writing (own_mentions u a shape.BindingIdentifier xs) ≡ []
binds_none u a [] = refl
binds_none u a (x ∷ xs) = binds_none u a xs

writes_of : (u : Use) (a : Around) (h : Shape) (xs : List Name) → is_reference_shape h ≡ true → writes u ≡ true → filter is_writing (own_mentions u a h xs) ≡ own_mentions u a h xs
writes_of u a shape.Identifier xs e f = writes_all u a xs f
writes_of u a h xs e f = absurd (false≢true e)

silent_use : (u : Use) (a : Around) (h : Shape) (xs : List Name) → writes u ≡ false → filter is_writing (own_mentions u a h xs) ≡ []
silent_use u a shape.Identifier xs f = writes_none u a xs f
silent_use u a shape.BindingIdentifier xs f = binds_none u a xs
silent_use u a h xs f = refl

silent_shape : (u : Use) (a : Around) (h : Shape) (xs : List Name) → is_reference_shape h ≡ false → filter is_writing (own_mentions u a h xs) ≡ []
silent_shape u a shape.Identifier xs f = absurd (cc f)
silent_shape u a shape.BindingIdentifier xs f = binds_none u a xs
silent_shape u a h xs f = refl

pub write_joins : (u : Use) (a : Around) (t : Tree) (h : Shape) (v w : Bool) (old new : List Mentioned) → h ≡ shape_of t → v ≡ is_reference_shape h → v ≡ true → w ≡ writes u → w ≡ true → Joined (own_mentions u a (shape_of t) (names_of t)) old new → Joined (filter is_writing (own_mentions u a (shape_of t) (names_of t))) old new
write_joins u a t h v w old new e f g i k j = subst (λ r. Joined r old new) (sym (writes_of u a (shape_of t) (names_of t) (ap is_reference_shape (sym e) ∙ sym f ∙ g) (sym i ∙ k))) j

pub use_joins : (u : Use) (a : Around) (t : Tree) (w : Bool) (old : List Mentioned) → w ≡ writes u → w ≡ false → Joined (filter is_writing (own_mentions u a (shape_of t) (names_of t))) old old
use_joins u a t w old i k = none_joins (filter is_writing (own_mentions u a (shape_of t) (names_of t))) old (silent_use u a (shape_of t) (names_of t) (sym i ∙ k))

pub shape_joins : (u : Use) (a : Around) (t : Tree) (h : Shape) (v : Bool) (old : List Mentioned) → h ≡ shape_of t → v ≡ is_reference_shape h → v ≡ false → Joined (filter is_writing (own_mentions u a (shape_of t) (names_of t))) old old
shape_joins u a t h v old e f g = none_joins (filter is_writing (own_mentions u a (shape_of t) (names_of t))) old (silent_shape u a (shape_of t) (names_of t) (ap is_reference_shape (sym e) ∙ sym f ∙ g))
