-- What a node or a list becomes once a borrow of a part of it is over.
use Rattle.std.specs.Prelude.{ℕ, [], ◌∷◌, Option, Some, None}
use Rattle.std.specs.Borrow.{Lends, LendsIf, MutBor, Fml}
use Rattle.mini_model.specs.Tree.{Tree, Trees, node}
use Rattle.mini_model.specs.declared.name.Name.{Name}
use Rattle.mini_model.specs.contracts.name.Name as name'
use Rattle.mini_node.specs.Children.{with_child, with_part, with_names}
use Rattle.mini_node.specs.contracts.node.Node as node'
use Rattle.mini_node.specs.contracts.list.Nodes as nodes'

abbrev pub LendsChild : MutBor Trees → ℕ → MutBor Tree → Fml
LendsChild s at r = Lends nodes'.the_row node'.the_row s r (λ w. with_child s.now at w)

abbrev pub LendsPart : MutBor Tree → ℕ → MutBor Tree → Fml
LendsPart s at r = Lends node'.the_row node'.the_row s r (λ w. with_part s.now at w)

abbrev pub with_children : Tree → Trees → Tree
with_children (node h xs n ts) us = node h xs n us

abbrev pub LendsChildren : MutBor Tree → MutBor Trees → Fml
LendsChildren s r = Lends node'.the_row nodes'.the_row s r (with_children s.now)

abbrev pub LendsChildIf : MutBor Trees → ℕ → Option (MutBor Tree) → Fml
LendsChildIf s at r = LendsIf nodes'.the_row node'.the_row s r (λ w. with_child s.now at w) s.now

abbrev pub LendsName : MutBor Tree → Option (MutBor Name) → Fml
LendsName s r = LendsIf node'.the_row name'.the_row s r (λ w. with_names s.now (w ∷ [])) s.now

-- the name that is lent, as it is at the call
abbrev pub lent_name : Option (MutBor Name) → Option Name
lent_name None = None
lent_name (Some r) = Some r.now
