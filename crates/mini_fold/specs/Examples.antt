-- What the calls of 3 to 9 make of small expressions, computed: each was worked out by hand from
-- the rows.
use Rattle.std.specs.Prelude.{◌≡◌, refl, Some, None, codes, pos}
use Rattle.std.specs.Fmt.{digits}
use Rattle.mini_model.specs.declared.operator.BinaryOperator.TheVariants.{Addition, BitwiseAnd, Equality}
use Rattle.mini_model.specs.Position.{whole_seat}
use Rattle.mini_laws.specs.Samples.{local}
use Rattle.mini_node.specs.Kinds.{computed_member}
use Rattle.mini_rows.specs.Spellings.{binary, numeral, text}
use Rattle.mini_fold.specs.FoldStaticMember.{computed_written}
use Rattle.mini_fold.specs.Names.{texts_written, masks_written, binary_expression_written}

-- `"abc"["length"]` becomes `3`
length_in_brackets : computed_written whole_seat (computed_member (text (codes "abc")) (text (codes "length"))) ≡ Some (numeral (pos 3))
length_in_brackets = refl

-- `"abc"["size"]` and `a["length"]` stay
other_in_brackets : computed_written whole_seat (computed_member (text (codes "abc")) (text (codes "size"))) ≡ None
other_in_brackets = refl

length_of_a_name : computed_written whole_seat (computed_member (local 0) (text (codes "length"))) ≡ None
length_of_a_name = refl

-- `a + "s" + "t"` becomes `a + "st"`
texts_joined : texts_written whole_seat (binary Addition (binary Addition (local 0) (text (codes "s"))) (text (codes "t"))) ≡ Some (binary Addition (local 0) (text (codes "st")))
texts_joined = refl

-- `a & 6 & 3` becomes `a & 2`, and `a & b & 3` stays
masks_joined : masks_written (binary BitwiseAnd (binary BitwiseAnd (local 0) (numeral (pos 6))) (numeral (pos 3))) ≡ Some (binary BitwiseAnd (local 0) (numeral (pos 2)))
unfolding digits
masks_joined = refl

masks_apart : masks_written (binary BitwiseAnd (binary BitwiseAnd (local 0) (local 1)) (numeral (pos 3))) ≡ None
masks_apart = refl

-- `a + "s" + "t"` becomes it by the call of all of them
sum_joined : binary_expression_written whole_seat (binary Addition (binary Addition (local 0) (text (codes "s"))) (text (codes "t"))) ≡ Some (binary Addition (local 0) (text (codes "st")))
sum_joined = refl

-- and of `a == b` nothing
equality_stays : binary_expression_written whole_seat (binary Equality (local 0) (local 1)) ≡ None
equality_stays = refl
