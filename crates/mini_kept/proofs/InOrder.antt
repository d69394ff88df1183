-- What keeps names in order keeps them.
use Rattle.std.proofs.Common.{ap, inl}
use Rattle.mini_model.specs.declared.place.Position.{Position}
use Rattle.mini_model.specs.Tree.{Tree}
use Rattle.mini_laws.specs.declared.names.Declared.TheVariants.{Bound, Lexical, Hoisted}
use Rattle.mini_laws.specs.Early.{body_declarations, in_body, children_of_node}
use Rattle.mini_kept.specs.KeepsNames.{Keeps}
use Rattle.mini_kept.specs.KeepsLoosely.{KeepsLoosely}
use Rattle.mini_kept.specs.SameNames.{is_among, first_symbol}
use Rattle.mini_kept.proofs.Clashes.{no_more_same}

pub in_order : (p : Position) (t u : Tree) → Keeps p t u → KeepsLoosely p t u
in_order p t u k = record {
  bound = k.kept.names Bound;
  lexical = k.kept.names Lexical;
  hoisted = λ x. ap (λ xs. is_among xs x) (k.kept.names Hoisted);
  body = λ v env s a r. ap (first_symbol r) k.kept.body;
  inner = inl k.kept.inner;
  scoped = k.scoped;
  symbols = λ v env s a. k.kept.symbols v;
  numbers = k.numbers;
  declared_as_body = λ b q. no_more_same (body_declarations b q t) (body_declarations b q u) (k.declared_as_body b q);
  once = k.once;
  targets = k.targets;
  loop = k.loop;
  root = k.root;
  block = λ e b q. no_more_same (in_body b q (children_of_node t) 0) (in_body b q (children_of_node u) 0) (k.block e b q);
}
