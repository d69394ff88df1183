-- What a context knows: options, and a program at which it has looked. What it is to know them is a
-- relation, which is handed in.
use Rattle.mini_model.specs.Tree.{Tree}
use Rattle.mini_tree.specs.declared.options.CompressOptions.{CompressOptions}

-- some options and some program
abbrev pub KnowsSome : {C : Type 0} → (C → CompressOptions → Tree → Type 0) → C → Type 0
KnowsSome knows c = (o : CompressOptions) × (q : Tree) × knows c o q

-- a fact about the options and the program that it knows
abbrev pub ByKnown : {C : Type 0} → (C → CompressOptions → Tree → Type 0) → C → (CompressOptions → Tree → Type 0) → Type 0
ByKnown knows c F = (o : CompressOptions) (q : Tree) → knows c o q → F o q

-- all that it knew
abbrev pub KnowsAsBefore : {C : Type 0} → (C → CompressOptions → Tree → Type 0) → C → C → Type 0
KnowsAsBefore knows c d = (o : CompressOptions) (q : Tree) → knows c o q → knows d o q

-- the options as before, and this program
abbrev pub KnowsAnew : {C : Type 0} → (C → CompressOptions → Tree → Type 0) → C → C → Tree → Type 0
KnowsAnew knows c d t = (o : CompressOptions) (q : Tree) → knows c o q → knows d o t
