-- Names that are added where none has their spelling yet.
use Rattle.std.specs.Prelude.{ℕ, suc, ◌≡◌, refl, Bool, true, false, ◌||◌, List, [], ◌∷◌, ◌++◌, length, drop, ◌≤◌, if◌then◌else◌}
use Rattle.std.proofs.Common.{ap, ◌∙◌, sym, arith}
use Rattle.std.proofs.lemmas.List.{length-append, map-append}
use Rattle.mini_model.specs.declared.name.Name.{Name}
use Rattle.mini_model.specs.Weight.{same_text}
use Rattle.mini_laws.specs.declared.names.Use.TheVariants.{Read}
use Rattle.mini_laws.specs.declared.names.Binding.{Binding}
use Rattle.mini_laws.specs.DeclaredNames.{is_spelled, with_name, with_names}
use Rattle.mini_scope.specs.Spelled.{has_name}
use Rattle.mini_scope.specs.ScopeAt.{bound}

pub has_spelled : (h : Bool) (s : List ℕ) (xs : List Name) → has_name Read s (bound h xs) ≡ is_spelled s xs
has_spelled h s [] = refl
has_spelled h s (x ∷ xs) = ap (λ b. same_text x.spelling s || b) (has_spelled h s xs)

with_last : (seen ys : List Name) (x : Name) → with_names seen (ys ++ x ∷ []) ≡ with_name (with_names seen ys) x
unfolding with_names
with_last seen [] x = refl
with_last seen (y ∷ ys) x = with_last (with_name seen y) ys x

none_yet : (seen : List Name) → with_names seen [] ≡ seen
unfolding with_names
none_yet seen = refl

pub at_first : (h : Bool) (seen : List Name) (scope : List Binding) → scope ≡ bound h seen → scope ≡ bound h (with_names seen [])
at_first h seen scope e = e ∙ ap (bound h) (sym (none_yet seen))

-- the name is not there yet
pub added : (h : Bool) (seen ys : List Name) (x : Name) (now after : List Binding) (b : Bool) → now ≡ bound h (with_names seen ys) → b ≡ has_name Read x.spelling now → b ≡ false → after ≡ now ++ record { name = x; hoists = h } ∷ [] → after ≡ bound h (with_names seen (ys ++ x ∷ []))
added h seen ys x now after b e f g p =
    let old = with_names seen ys in
    let not_there : is_spelled x.spelling old ≡ false = sym (has_spelled h x.spelling old) ∙ ap (has_name Read x.spelling) (sym e) ∙ sym f ∙ g in
    p ∙ ap (λ r. r ++ record { name = x; hoists = h } ∷ []) e ∙ sym (map-append (λ y. record { name = y; hoists = h }) old (x ∷ []))
    ∙ ap (λ v. bound h (if v then old else old ++ x ∷ [])) (sym not_there) ∙ ap (bound h) (sym (with_last seen ys x))

-- one of its spelling is
pub kept : (h : Bool) (seen ys : List Name) (x : Name) (now : List Binding) (b : Bool) → now ≡ bound h (with_names seen ys) → b ≡ has_name Read x.spelling now → b ≡ true → now ≡ bound h (with_names seen (ys ++ x ∷ []))
kept h seen ys x now b e f g =
    let old = with_names seen ys in
    let there : is_spelled x.spelling old ≡ true = sym (has_spelled h x.spelling old) ∙ ap (has_name Read x.spelling) (sym e) ∙ sym f ∙ g in
    e ∙ ap (λ v. bound h (if v then old else old ++ x ∷ [])) (sym there) ∙ ap (bound h) (sym (with_last seen ys x))

longer_by : (seen : List Name) (x : Name) (b : Bool) → length seen ≤ length (if b then seen else seen ++ x ∷ [])
longer_by seen x true = omega arith
longer_by seen x false = omega (arith, length-append seen (x ∷ []))

pub longer : (seen xs : List Name) → length seen ≤ length (with_names seen xs)
unfolding with_names
longer seen [] = omega arith
longer seen (x ∷ xs) = omega (arith, longer_by seen x (is_spelled x.spelling seen), longer (with_name seen x) xs)

pub bound_length : (h : Bool) (xs : List Name) → length (bound h xs) ≡ length xs
bound_length h [] = refl
bound_length h (x ∷ xs) = ap suc (bound_length h xs)

drop_self : (xs : List Name) → drop (length xs) xs ≡ []
drop_self [] = refl
drop_self (x ∷ xs) = drop_self xs

-- no names
pub no_names : (h : Bool) (seen xs : List Name) → length xs ≡ 0 → [] ≡ bound h (drop (length seen) (with_names seen xs))
no_names h seen [] e = ap (bound h) (sym (ap (drop (length seen)) (none_yet seen) ∙ drop_self seen))
no_names h seen (x ∷ xs) e = absurd (omega arith)

pub alone : (h : Bool) (given names : List Name) → length given ≡ 0 → length names ≡ 1 → bound h names ≡ bound h (drop (length given) (with_names given names))
unfolding with_names
alone h [] [] e f = absurd (omega (arith, f))
alone h [] (x ∷ []) e f = refl
alone h [] (x ∷ (y ∷ names)) e f = absurd (omega (arith, f))
alone h (x ∷ given) names e f = absurd (omega (arith, e))
