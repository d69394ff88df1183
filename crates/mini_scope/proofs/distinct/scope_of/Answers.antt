use Rattle.std.specs.Prelude.{IfOk}
use Rattle.std.proofs.Common.{◌≡◌, ◌∙◌, ap, arith, subst, ◌++◌, length, drop}
use Rattle.std.proofs.lemmas.List.{drop-map}
use Rattle.std.proofs.lemmas.Grind.{common_steps}
use Rattle.mini_laws.specs.DeclaredNames.{with_names}
use Rattle.mini_scope.specs.ScopeAt.{bound}
use Rattle.mini_scope.proofs.Once.{alone, no_names, longer, bound_length}
use Rattle.mini_scope.proofs.distinct.scope_of.Goals as goal

pub returns-then-is_empty : goal.returns-then-is_empty
returns-then-is_empty c = c.new.ensures.items ∙ no_names c.args.hoists c.args.given.items c.args.names.items (let nothing : length c.args.names.items ≡ 0 = grind (arith, common_steps) in nothing)

pub returns-then-len-eq1 : goal.returns-then-len-eq1
returns-then-len-eq1 c =
    let nothing : length c.args.given.items ≡ 0 = omega arith in
    let one : length c.args.names.items ≡ 1 = omega arith in
    subst (λ r. IfOk c.bindings_of.result (λ scope. scope.items ≡ r)) (alone c.args.hoists c.args.given.items c.args.names.items nothing one) c.bindings_of.ensures

pub split_off-requires : goal.split_off-requires
split_off-requires c =
    let seen = c.args.given.items in
    let whole = c.into_bindings-bindings.ensures ∙ c.in_ok-add_distinct.ensures seen (c.in_ok-add_all.ensures ∙ ap (λ r. r ++ bound c.args.hoists seen) c.new-scope.ensures) in
    omega (arith, ap length whole, bound_length c.args.hoists (with_names seen c.args.names.items), longer seen c.args.names.items)

pub returns-in-Ok : goal.returns-in-Ok
returns-in-Ok c =
    let seen = c.args.given.items in
    let whole = c.into_bindings-bindings.ensures ∙ c.in_ok-add_distinct.ensures seen (c.in_ok-add_all.ensures ∙ ap (λ r. r ++ bound c.args.hoists seen) c.new-scope.ensures) in
    let count : c.len-count.result ≡ length seen = omega arith in
    c.in-Ok.ensures.tail ∙ ap (λ k. drop k c.into_bindings-bindings.result.items) count ∙ ap (drop (length seen)) whole ∙ drop-map _ (length seen) (with_names seen c.args.names.items)
