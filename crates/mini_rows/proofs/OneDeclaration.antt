-- A declaration, and a list of it alone: what means the same as such a list does so by itself.
use Rattle.std.specs.Prelude.{◌≡◌, refl, true, [], None}
use Rattle.std.proofs.Common.{ap, ◌∙◌, sym, subst₂}
use Rattle.std.proofs.lemmas.List.{append-nil}
use Rattle.mini_model.specs.declared.kind.VariableDeclarationKind.{VariableDeclarationKind}
use Rattle.mini_model.specs.Tree.{Trees, none, ◌▸◌, listed}
use Rattle.mini_laws.specs.Congruence.{ReadAlike, only}
use Rattle.mini_laws.specs.Demand.{Stat, LabelSet}
use Rattle.mini_laws.specs.Naming.{summary}
use Rattle.mini_laws.specs.Same.{Goes, Agree, Same}
use Rattle.mini_laws.specs.State.{State, Environment}
use Rattle.mini_laws.specs.Step.{means}
use Rattle.mini_laws.specs.Value.{VariableSet, is_in}
use Rattle.mini_rows.specs.Lists.{declaration}
use Rattle.mini_rows.proofs.ListStatements.{declaration_is}
use Rattle.mini_rows.proofs.ListStretches.{exec_one, listed_is}

module _ (e : Environment) (D : VariableSet) (K : VariableDeclarationKind) where
  -- labels before a declaration do nothing
  by_itself : (ds : Trees) (l : LabelSet) (z : State) → means e (listed (declaration K ds ▸ none)) (Stat None) [] z ≡ means e (declaration K ds) (Stat None) l z
  by_itself ds l z = listed_is e (declaration K ds ▸ none) [] z ∙ exec_one e (declaration K ds) z ∙ declaration_is e K ds [] z ∙ sym (declaration_is e K ds l z)

  pub one_same : (X : VariableSet) (ds es : Trees) → Same e D X (Stat None) (listed (declaration K ds ▸ none)) (listed (declaration K es ▸ none)) → Same e D X (Stat None) (declaration K ds) (declaration K es)
  one_same X ds es same = record { by = λ l z i. subst₂ (Goes true (λ v. Agree D) (Agree D) (Agree D)) (by_itself ds l z) (by_itself es l z) (same.by [] z i) }

  -- it is read alike, too
  pub one_alike : (ds es : Trees) → ReadAlike D e (summary (listed (declaration K ds ▸ none))) (summary (listed (declaration K es ▸ none))) → ReadAlike D e (summary (declaration K ds)) (summary (declaration K es))
  one_alike ds es alike = record {
    facts = refl;
    lets = λ y f. ap (is_in y) (sym (append-nil (summary (declaration K ds)).lets)) ∙ alike.lets y f ∙ ap (is_in y) (append-nil (summary (declaration K es)).lets);
    shared_lets = ap (only e.shared) (sym (append-nil (summary (declaration K ds)).lets)) ∙ alike.shared_lets ∙ ap (only e.shared) (append-nil (summary (declaration K es)).lets);
    name = refl;
    functions = refl;
  }
