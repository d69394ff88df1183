-- An arrow function keeps its names where its value stands for its body.
use Rattle.std.specs.Prelude.{ℕ, ◌≡◌, refl, ◌||◌, Bool, true, false, List, [], ◌∷◌, ◌++◌}
use Rattle.std.proofs.Common.{ap, ◌∙◌, sym, subst, arith}
use Rattle.std.proofs.lemmas.List.{append-nil}
use Rattle.mini_model.specs.declared.place.Position.TheVariants.{Expr}
use Rattle.mini_model.specs.declared.seat.Seat.{Seat}
use Rattle.mini_model.specs.Tree.{Tree, none, ◌▸◌}
use Rattle.mini_laws.specs.declared.names.Use.TheVariants.{Read}
use Rattle.mini_laws.specs.declared.names.Declared.TheVariants as declared
use Rattle.mini_laws.specs.declared.names.Targets.{Targets}
use Rattle.mini_laws.specs.DeclaredNames.{body_names, has_inner, bound_names}
use Rattle.mini_laws.specs.Scopes.{scopes_by, body_scope, merged}
use Rattle.mini_laws.specs.Resolved.{Environment}
use Rattle.mini_laws.specs.Scoped.{Scoped}
use Rattle.mini_laws.specs.Symbols.{symbols_in, declared as declared_in, times}
use Rattle.mini_laws.specs.Early.{Path, body_declarations, scope_declarations, clashing, at_child, early_names, targets_of, early_jumps, no_targets}
use Rattle.mini_laws.proofs.Drops.{moved}
use Rattle.mini_kept.specs.Carried.{numbers, with_number}
use Rattle.mini_kept.specs.KeepsNames.{Keeps, unplaced, count_of}
use Rattle.mini_kept.proofs.Anywhere.{once_anywhere, targets_anywhere}
use Rattle.mini_kept.proofs.Below.{empty_both, both_empty}
use Rattle.mini_kept.proofs.Instances.{read_is, quiet_kept, both_as_body}
use Rattle.mini_kept.proofs.Quiet.{IsQuiet, no_body_names, no_body_declarations, no_loop}
use Rattle.mini_rows.specs.Lists.{return_statement}
use Rattle.mini_rows.specs.Arrows.{arrow, returning}

pub three_nils : {A : Type 0} (xs : List A) → ((xs ++ []) ++ []) ++ [] ≡ xs
three_nils xs = append-nil ((xs ++ []) ++ []) ∙ append-nil (xs ++ []) ∙ append-nil xs

or_none : (b : Bool) → (b || false) ≡ b
or_none true = refl
or_none false = refl

module _ (k : ℕ) (ps v : Tree) (q : IsQuiet v) where
  abbrev before : Tree
  before = arrow k ps (returning v)

  abbrev after : Tree
  after = arrow k ps v

  -- neither body declares a name
  returns_nothing : body_names (returning v) ≡ []
  unfolding body_names
  returns_nothing = ap (λ xs. (xs ++ []) ++ []) (no_body_names (return_statement v) refl)

  bodies_declare : body_names (returning v) ≡ body_names v
  bodies_declare = returns_nothing ∙ sym (no_body_names v q)

  no_declarations : (p : Path) → body_declarations true p (returning v) ≡ body_declarations true p v
  unfolding body_declarations
  no_declarations p = ap (λ ds. (ds ++ []) ++ []) (no_body_declarations true ((p ++ 0 ∷ []) ++ 0 ∷ []) (return_statement v) refl) ∙ sym (no_body_declarations true p v q)

  inner_same : has_inner after ≡ has_inner before
  unfolding has_inner
  inner_same = ap (λ b. has_inner ps || (b || false)) (sym (or_none ((has_inner v || false) || false) ∙ or_none (has_inner v || false) ∙ or_none (has_inner v)))

  symbols_same : declared_in Read after ≡ declared_in Read before
  unfolding declared_in scopes_by
  symbols_same = λ i. symbols_in (body_scope [] (bound_names ps)) ++ (declared_in Read ps ++ (symbols_in (body_scope (merged ps) (sym bodies_declare i)) ++ (sym (three_nils (declared_in Read v)) i ++ [])))

  scoped_same : (env : Environment) → Scoped Read env before → Scoped Read env after
  unfolding Scoped scopes_by
  scoped_same env r =
      let env0 = env ++ body_scope [] (bound_names ps) in
      let same = three_nils (env0 ++ body_scope (merged ps) (body_names (returning v))) ∙ ap (λ xs. env0 ++ body_scope (merged ps) xs) bodies_declare in
      (r.0, (r.1.0, (moved Read ((((env0 ++ body_scope (merged ps) (body_names (returning v))) ++ []) ++ []) ++ []) (env0 ++ body_scope (merged ps) (body_names v)) v same r.1.1.0.1.0.1.0.1.0, tt)))

  numbers_same : numbers after ≡ numbers before
  unfolding numbers
  numbers_same = ap (λ ns. with_number k (numbers ps ++ (ns ++ []))) (sym (three_nils (numbers v)))

  once_same : (p : Path) → early_names p before ≡ [] → early_names p after ≡ []
  unfolding early_names scope_declarations
  once_same p e =
      let (clash, rest) = empty_both (clashing [] (at_child declared.Bound false p (ps ▸ (returning v ▸ none)) 0 ++ body_declarations true (p ++ 1 ∷ []) (returning v))) (early_names (p ++ 0 ∷ []) ps ++ (early_names (p ++ 1 ∷ []) (returning v) ++ [])) e in
      let (first, last) = empty_both (early_names (p ++ 0 ∷ []) ps) (early_names (p ++ 1 ∷ []) (returning v) ++ []) rest in
      let inside = sym (append-nil (early_names (p ++ 1 ∷ []) (returning v))) ∙ last in
      let there = sym (three_nils (early_names (((((p ++ 1 ∷ []) ++ 0 ∷ []) ++ 0 ∷ []) ++ 0 ∷ [])) v)) ∙ inside in
      both_empty (clashing [] (at_child declared.Bound false p (ps ▸ (v ▸ none)) 0 ++ body_declarations true (p ++ 1 ∷ []) v)) (early_names (p ++ 0 ∷ []) ps ++ (early_names (p ++ 1 ∷ []) v ++ []))
      (subst (λ ds. clashing [] (at_child declared.Bound false p (ps ▸ (v ▸ none)) 0 ++ ds) ≡ []) (no_declarations (p ++ 1 ∷ [])) clash)
      (both_empty (early_names (p ++ 0 ∷ []) ps) (early_names (p ++ 1 ∷ []) v ++ []) first (both_empty (early_names (p ++ 1 ∷ []) v) [] (once_anywhere ((((p ++ 1 ∷ []) ++ 0 ∷ []) ++ 0 ∷ []) ++ 0 ∷ []) (p ++ 1 ∷ []) v there) refl))

  targets_same : (g : Targets) (p : Path) → early_jumps g p before ≡ [] → early_jumps g p after ≡ []
  unfolding early_jumps targets_of
  targets_same g p e =
      let f : Targets = record no_targets { returns = true; yields = false } in
      let (first, last) = empty_both (early_jumps f (p ++ 0 ∷ []) ps) (early_jumps f (p ++ 1 ∷ []) (returning v) ++ []) e in
      let inside = sym (append-nil (early_jumps f (p ++ 1 ∷ []) (returning v))) ∙ last in
      let there = sym (three_nils (early_jumps f ((((p ++ 1 ∷ []) ++ 0 ∷ []) ++ 0 ∷ []) ++ 0 ∷ []) v)) ∙ inside in
      both_empty (early_jumps f (p ++ 0 ∷ []) ps) (early_jumps f (p ++ 1 ∷ []) v ++ []) first (both_empty (early_jumps f (p ++ 1 ∷ []) v) [] (targets_anywhere f ((((p ++ 1 ∷ []) ++ 0 ∷ []) ++ 0 ∷ []) ++ 0 ∷ []) (p ++ 1 ∷ []) v there) refl)

  pub arrow_keeps : (s : Seat) → Keeps (Expr s) before after
  arrow_keeps s = record {
    kept = quiet_kept before after refl refl inner_same (λ x. omega (arith, ap (times x) symbols_same));
    scoped = λ u env st r. subst (λ w. Scoped w env after) (sym (read_is u st)) (scoped_same env (subst (λ w. Scoped w env before) (read_is u st) r));
    numbers = λ n. omega (arith, ap (count_of n) numbers_same);
    declared_as_body = λ b p. ap unplaced (both_as_body b p before after refl refl);
    once = once_same;
    targets = targets_same;
    loop = no_loop after refl ∙ sym (no_loop before refl);
    root = λ p. absurd (cc p);
    block = λ p b r. absurd (cc p);
  }
