-- Small programs less a set of symbols, worked out by hand. The symbols are g 0, f 1, b 2, x 2.
use Rattle.std.specs.Prelude.{◌≡◌, ℕ, refl, nat_eq, Bool, true, false, ◌||◌}
use Rattle.mini_model.specs.declared.kind.VariableDeclarationKind.TheVariants.{Let}
use Rattle.mini_model.specs.declared.shape.Shape.TheVariants as shape
use Rattle.mini_model.specs.Tree.{Tree, Trees, none, ◌▸◌, listed}
use Rattle.mini_laws.specs.References.{references}
use Rattle.mini_laws.specs.Programs.{script, reference_of, binding_of, plain, said, function, arrow, calls, zero_literal, b, f, g, x}
use Rattle.mini_dead.specs.Pruned.{Elsewhere}
use Rattle.mini_dead.specs.Marked.{marked, less, less_count, may_go}

abbrev one : ℕ → ℕ → Bool
one s k = nat_eq k s

abbrev two : ℕ → ℕ → ℕ → Bool
two s t k = nat_eq k s || nat_eq k t

abbrev returns : Tree → Tree
returns c = plain shape.ReturnStatement (c ▸ none)

-- function g() { .. }
abbrev in_g : Trees → Tree
in_g ts = script (function 1 (binding_of 0 g) none ts ▸ none)

-- function f() { .. }
abbrev f_with : Trees → Tree
f_with ts = function 2 (binding_of 1 f) none ts

abbrev b_with : Trees → Tree
b_with ts = function 3 (binding_of 2 b) none ts

abbrev call_of : Tree → Tree
call_of c = said (calls c none)

-- function g() { function f() { b(); } function b() {} return null; }
abbrev two_functions : Tree
two_functions = in_g (f_with (call_of (reference_of 2 b) ▸ none) ▸ b_with none ▸ returns zero_literal ▸ none)

-- function g() { return null; }
both_go : less (two 1 2) two_functions ≡ in_g (returns zero_literal ▸ none)
unfolding marked
both_go = refl

two_items : less_count (two 1 2) two_functions ≡ 2
unfolding marked
two_items = refl

-- f goes in round 1, and b, which f alone names, in round 2
one_after_the_other : may_go (two 1 2) (λ s. s) Elsewhere two_functions ≡ true
unfolding may_go references
one_after_the_other = refl

-- not at once
never_in_one_round : may_go (two 1 2) (λ s. 1) Elsewhere two_functions ≡ false
unfolding may_go references
never_in_one_round = refl

-- nor b before f
never_alone : may_go (one 2) (λ s. 1) Elsewhere two_functions ≡ false
unfolding may_go references
never_alone = refl

-- function g() { function f() { f(); } }: f is named by itself, so it goes in no round
never_by_itself : may_go (one 1) (λ s. s) Elsewhere (in_g (f_with (call_of (reference_of 1 f) ▸ none) ▸ none)) ≡ false
unfolding may_go references
never_by_itself = refl

-- function g() { function f() { b(); } function b() { f(); } }: neither goes before the other
never_each_other : may_go (two 1 2) (λ s. s) Elsewhere (in_g (f_with (call_of (reference_of 2 b) ▸ none) ▸ b_with (call_of (reference_of 1 f) ▸ none) ▸ none)) ≡ false
unfolding may_go references
never_each_other = refl

abbrev declarator : Tree → Tree → Tree
declarator name init = plain shape.VariableDeclarator (name ▸ init ▸ none)

abbrev lets : Trees → Tree
lets ts = plain (shape.VariableDeclaration Let) (listed ts ▸ none)

-- x = b()
abbrev x_of_a_call : Tree
x_of_a_call = declarator (binding_of 2 x) (calls (reference_of 3 b) none)

-- let f = () => g
abbrev f_of_an_arrow : Tree
f_of_an_arrow = declarator (binding_of 1 f) (arrow 2 none (reference_of 0 g))

-- function g() { let f = () => g, x = b(); return x; } to function g() { let x = b(); return x; }
one_declarator : less (one 1) (in_g (lets (f_of_an_arrow ▸ x_of_a_call ▸ none) ▸ returns (reference_of 2 x) ▸ none)) ≡ in_g (lets (x_of_a_call ▸ none) ▸ returns (reference_of 2 x) ▸ none)
unfolding marked
one_declarator = refl

-- function g() { let f = () => g; } to function g() {}: a declaration goes with its last declarator
the_last_declarator : less (one 1) (in_g (lets (f_of_an_arrow ▸ none) ▸ none)) ≡ in_g none
unfolding marked
the_last_declarator = refl
