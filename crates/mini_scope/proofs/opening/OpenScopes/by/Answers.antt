use Rattle.std.proofs.Common.{◌∙◌, ap, [], ◌∷◌}
use Rattle.std.proofs.lemmas.Result.{IfOk-weaker}
use Rattle.mini_node.specs.Children.{trees_of}
use Rattle.mini_laws.specs.declared.names.Opening.TheVariants as opening
use Rattle.mini_laws.specs.declared.names.Declared.TheVariants as declared
use Rattle.mini_laws.specs.DeclaredNames.{body_names, names_of}
use Rattle.mini_laws.specs.Scopes.{body_scope, lexical_scope, merged, name_if, scopes_by}
use Rattle.mini_scope.proofs.Opened.{no_scope, padded, these_scopes, one_up, two_up, three_up, four_up, few_for_one, few_for_arrow, few_for_class, few_for_second, few_for_function}
use Rattle.mini_scope.proofs.opening.OpenScopes.by.Goals as goal

pub returns-in-Nothing : goal.returns-in-Nothing
unfolding scopes_by
returns-in-Nothing c =
    let xs = c.args.nodes.now in
    no_scope c.none.result c.args.opening (trees_of xs) (ap (λ p. scopes_by p (trees_of xs)) c.in-Nothing.is) c.none.ensures

pub returns-in-empty : goal.returns-in-empty
unfolding scopes_by
returns-in-empty c =
    let xs = c.args.nodes.now in
    no_scope c.none-in-empty.result c.args.opening (trees_of xs) (ap (λ p. scopes_by p (trees_of xs)) c.in-Body.is ∙ ap (scopes_by opening.Body) (few_for_one xs c.in-empty.len_below)) c.none-in-empty.ensures

pub returns-in_default : goal.returns-in_default
unfolding scopes_by
returns-in_default c =
    let xs = c.args.nodes.now in
    no_scope c.none-in_default.result c.args.opening (trees_of xs) (ap (λ p. scopes_by p (trees_of xs)) c.in-Function.is ∙ few_for_function c.in-Function.own xs c.in_default.len_below) c.none-in_default.ensures

pub returns-in_default-nodes : goal.returns-in_default-nodes
unfolding scopes_by
returns-in_default-nodes c =
    let xs = c.args.nodes.now in
    no_scope c.none-in_default-nodes.result c.args.opening (trees_of xs) (ap (λ p. scopes_by p (trees_of xs)) c.in-Arrow.is ∙ few_for_arrow xs c.in_default-nodes.len_below) c.none-in_default-nodes.ensures

pub returns-in_default-nodes-2 : goal.returns-in_default-nodes-2
unfolding scopes_by
returns-in_default-nodes-2 c =
    let xs = c.args.nodes.now in
    no_scope c.none-in_default-nodes-2.result c.args.opening (trees_of xs) (ap (λ p. scopes_by p (trees_of xs)) c.in-Class.is ∙ few_for_class c.in-Class.own c.in-Class.inside xs c.in_default-nodes-2.len_below) c.none-in_default-nodes-2.ensures

pub returns-in-empty-nodes : goal.returns-in-empty-nodes
unfolding scopes_by
returns-in-empty-nodes c =
    let xs = c.args.nodes.now in
    no_scope c.none-in-empty-nodes.result c.args.opening (trees_of xs) (ap (λ p. scopes_by p (trees_of xs)) c.in-First.is ∙ ap (scopes_by opening.First) (few_for_one xs c.in-empty-nodes.len_below)) c.none-in-empty-nodes.ensures

pub returns-in_default-nodes-3 : goal.returns-in_default-nodes-3
unfolding scopes_by
returns-in_default-nodes-3 c =
    let xs = c.args.nodes.now in
    no_scope c.none-in_default-nodes-3.result c.args.opening (trees_of xs) (ap (λ p. scopes_by p (trees_of xs)) c.in-Second.is ∙ few_for_second xs c.in_default-nodes-3.len_below) c.none-in_default-nodes-3.ensures

pub returns-in-empty-nodes-2 : goal.returns-in-empty-nodes-2
unfolding scopes_by
returns-in-empty-nodes-2 c =
    let xs = c.args.nodes.now in
    no_scope c.none-in-empty-nodes-2.result c.args.opening (trees_of xs) (ap (λ p. scopes_by p (trees_of xs)) c.in-Bound.is ∙ ap (scopes_by opening.Bound) (few_for_one xs c.in-empty-nodes-2.len_below)) c.none-in-empty-nodes-2.ensures

pub returns-in-len1-up : goal.returns-in-len1-up
unfolding scopes_by
returns-in-len1-up c =
    let xs = c.args.nodes.now in
    these_scopes c.args.opening (trees_of xs) _ c.one.result
    (ap (λ p. scopes_by p (trees_of xs)) c.in-Body.is ∙ ap (scopes_by opening.Body) (one_up xs c.body-item.result c.in-len1-up.len_at_least c.body-item.is))
    (c.one.ensures _ (IfOk-weaker c.body_scope.result _ _ (λ s e. e ∙ ap (λ ps. body_scope ps (body_names c.body-item.result)) c.new.ensures.items) c.body_scope.ensures))

pub returns-in-len3-up : goal.returns-in-len3-up
unfolding scopes_by
returns-in-len3-up c =
    let xs = c.args.nodes.now in
    these_scopes c.args.opening (trees_of xs) _ c.filled.result
    (ap (λ p. scopes_by p (trees_of xs)) c.in-Function.is ∙ ap (scopes_by (opening.Function c.in-Function.own)) (three_up xs c.id-item.result c.params-item.result c.body-item-in-Function.result c.in-len3-up.len_at_least c.id-item.is c.params-item.is c.body-item-in-Function.is))
    (c.filled.ensures _ _ _ c.name_scope.ensures c.parameter_scope.ensures c.inner_scope.ensures)

pub returns-in-len2-up : goal.returns-in-len2-up
unfolding scopes_by
returns-in-len2-up c =
    let xs = c.args.nodes.now in
    these_scopes c.args.opening (trees_of xs) _ c.filled-in-len2-up.result
    (ap (λ p. scopes_by p (trees_of xs)) c.in-Arrow.is ∙ ap (scopes_by opening.Arrow) (two_up xs c.params-item-in-Arrow.result c.body-item-in-Arrow.result c.in-len2-up.len_at_least c.params-item-in-Arrow.is c.body-item-in-Arrow.is))
    (IfOk-weaker c.filled-in-len2-up.result _ _ (λ o e. e ∙ padded (body_scope [] (names_of declared.Bound c.params-item-in-Arrow.result) ∷ body_scope (merged c.params-item-in-Arrow.result) (body_names c.body-item-in-Arrow.result) ∷ [])) (c.filled-in-len2-up.ensures _ _ [] c.parameter_scope-in-len2-up.ensures c.inner_scope-in-len2-up.ensures c.new-in-len2-up.ensures.items))

pub returns-in-len4-up : goal.returns-in-len4-up
unfolding scopes_by
returns-in-len4-up c =
    let xs = c.args.nodes.now in
    these_scopes c.args.opening (trees_of xs) _ c.filled-in-len4-up.result
    (ap (λ p. scopes_by p (trees_of xs)) c.in-Class.is ∙ ap (scopes_by (opening.Class c.in-Class.own c.in-Class.inside)) (four_up xs c.id-item-in-Class.result c._super_class-item.result c._body-item.result c.again-item.result c.in-len4-up.len_at_least c.id-item-in-Class.is c._super_class-item.is c._body-item.is c.again-item.is))
    (IfOk-weaker c.filled-in-len4-up.result _ _ (λ o e. e ∙ padded (lexical_scope (name_if c.in-Class.own c.id-item-in-Class.result) ∷ lexical_scope (name_if c.in-Class.inside c.again-item.result) ∷ [])) (c.filled-in-len4-up.ensures _ _ [] c.name_scope-in-len4-up.ensures c.name_scope-in-len4-up-2.ensures c.new-in-len4-up.ensures.items))

pub returns-in-len1-up-nodes : goal.returns-in-len1-up-nodes
unfolding scopes_by
returns-in-len1-up-nodes c =
    let xs = c.args.nodes.now in
    these_scopes c.args.opening (trees_of xs) _ c.one-in-len1-up-nodes.result
    (ap (λ p. scopes_by p (trees_of xs)) c.in-First.is ∙ ap (scopes_by opening.First) (one_up xs c.first-item.result c.in-len1-up-nodes.len_at_least c.first-item.is))
    (c.one-in-len1-up-nodes.ensures _ c.lexical_scope.ensures)

pub returns-in-len2-up-nodes : goal.returns-in-len2-up-nodes
unfolding scopes_by
returns-in-len2-up-nodes c =
    let xs = c.args.nodes.now in
    these_scopes c.args.opening (trees_of xs) _ c.filled-in-len2-up-nodes.result
    (ap (λ p. scopes_by p (trees_of xs)) c.in-Second.is ∙ ap (scopes_by opening.Second) (two_up xs c._first-item.result c.second-item.result c.in-len2-up-nodes.len_at_least c._first-item.is c.second-item.is))
    (IfOk-weaker c.filled-in-len2-up-nodes.result _ _ (λ o e. e ∙ padded ([] ∷ lexical_scope (names_of declared.Lexical c.second-item.result) ∷ [])) (c.filled-in-len2-up-nodes.ensures [] _ [] c.new-in-len2-up-nodes.ensures.items c.lexical_scope-in-len2-up-nodes.ensures c.new-in-len2-up-nodes-2.ensures.items))

pub returns-in-len1-up-nodes-2 : goal.returns-in-len1-up-nodes-2
unfolding scopes_by
returns-in-len1-up-nodes-2 c =
    let xs = c.args.nodes.now in
    these_scopes c.args.opening (trees_of xs) _ c.one-in-len1-up-nodes-2.result
    (ap (λ p. scopes_by p (trees_of xs)) c.in-Bound.is ∙ ap (scopes_by opening.Bound) (one_up xs c.first-item-in-Bound.result c.in-len1-up-nodes-2.len_at_least c.first-item-in-Bound.is))
    (c.one-in-len1-up-nodes-2.ensures _ c.lexical_scope-in-len1-up-nodes-2.ensures)
