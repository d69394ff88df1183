-- Declarations that clash with earlier ones.
use Rattle.std.specs.Prelude.{ℕ, ◌≡◌, ◌<◌, refl, Bool, true, false, ◌||◌, ◌&&◌, List, [], ◌∷◌, ◌++◌, length, map, None, if◌then◌else◌}
use Rattle.std.proofs.Common.{ap, ◌∙◌, sym, arith, append_assoc}
use Rattle.std.proofs.lemmas.List.{append-nil, map-append}
use Rattle.mini_model.specs.Weight.{same_text}
use Rattle.mini_laws.specs.declared.names.Binding.{Binding}
use Rattle.mini_scope.specs.Spelled.{has_name}
use Rattle.mini_laws.specs.declared.names.Declaration.{Declaration}
use Rattle.mini_laws.specs.Early.{clashes_any, clashing}
use Rattle.mini_scope.specs.Paths.{use_for}

abbrev pub as_binding : Declaration → Binding
as_binding d = record { name = record { spelling = d.spelling; symbol = None }; hoists = d.is_lexical }

has_clash : (s : List ℕ) (l : Bool) (p : List ℕ) (ds : List Declaration) → has_name (use_for l) s (map as_binding ds) ≡ clashes_any (record { spelling = s; is_lexical = l; at = p }) ds
has_clash s true p [] = refl
has_clash s false p [] = refl
has_clash s true p (d ∷ ds) = ap (λ b. same_text d.spelling s || b) (has_clash s true p ds)
has_clash s false p (d ∷ ds) = ap (λ b. (d.is_lexical && same_text d.spelling s) || b) (has_clash s false p ds)

-- what is found, and what is still to be found
pub clash_turn : (d : Declaration) (ys rest : List Declaration) (now after all : List (List ℕ)) (b : Bool) → b ≡ has_name (use_for d.is_lexical) d.spelling (map as_binding ys) → after ≡ (if b then now ++ d.at ∷ [] else now) → now ++ clashing ys (d ∷ rest) ≡ all → after ++ clashing (ys ++ d ∷ []) rest ≡ all
clash_turn d ys rest now after all true e p q =
    let c : clashes_any d ys ≡ true = sym (has_clash d.spelling d.is_lexical d.at ys) ∙ sym e in
    let more = clashing (ys ++ d ∷ []) rest in
    ap (λ r. r ++ more) p ∙ append_assoc now (d.at ∷ []) more ∙ ap (λ v. now ++ (if v then d.at ∷ more else more)) (sym c) ∙ q
clash_turn d ys rest now after all false e p q =
    let c : clashes_any d ys ≡ false = sym (has_clash d.spelling d.is_lexical d.at ys) ∙ sym e in
    let more = clashing (ys ++ d ∷ []) rest in
    ap (λ r. r ++ more) p ∙ ap (λ v. now ++ (if v then d.at ∷ more else more)) (sym c) ∙ q

pub bind_last : (ys : List Declaration) (d : Declaration) → map as_binding (ys ++ d ∷ []) ≡ map as_binding ys ++ as_binding d ∷ []
bind_last ys d = map-append as_binding ys (d ∷ [])

pub all_found : (ys : List Declaration) (now : List (List ℕ)) → now ≡ now ++ clashing ys []
all_found ys now = sym (append-nil now)

pub none_clashes : (ds : List Declaration) (found : List (List ℕ)) → length ds < 2 → found ≡ found ++ clashing [] ds
none_clashes [] found h = sym (append-nil found)
none_clashes (d ∷ []) found h = sym (append-nil found)
none_clashes (d ∷ (e ∷ ds)) found h = absurd (omega arith)
