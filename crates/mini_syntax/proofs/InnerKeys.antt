-- What the tests of a key in brackets say.
use Rattle.std.proofs.Common.{◌≡◌, false, true, [], refl, inl, inr, arith}
use Rattle.std.specs.Prelude.{◌⊎◌}
use Rattle.std.proofs.lemmas.Bool.{eqb-true, false≢true}
use Rattle.mini_model.specs.declared.shape.Shape.TheVariants as shape
use Rattle.mini_model.specs.Tree.{Tree, node, none, ◌▸◌, count}
use Rattle.mini_node.specs.Children.{part, number_of}
use Rattle.mini_rows.specs.KeyHolders.{PlainKey, a_word, a_count, plain_key, IsPlainKey}
use Rattle.mini_syntax.specs.Forms.{is_inner}
use Rattle.mini_syntax.specs.SubstituteObjectProperty.{is_literal_key}
use Rattle.mini_syntax.proofs.Keys.{OtherText, SafeNumber, literal_key_is}

pub inner_is : (k : Tree) → is_inner k ≡ true → k ≡ node shape.InnerExpression [] (number_of k) (part k 0 ▸ none)
inner_is (node shape.InnerExpression [] n none) e = absurd (false≢true e)
inner_is (node shape.InnerExpression [] n (a ▸ none)) e = refl
inner_is (node shape.InnerExpression [] n (a ▸ (b ▸ ts))) e = let two : count (a ▸ (b ▸ ts)) ≡ 1 = eqb-true (count (a ▸ (b ▸ ts))) 1 e in absurd (omega (arith, two))
inner_is k e = absurd (false≢true e)

pub record Literal (k : Tree) : Type 0 where
  pub key : PlainKey
  pub is_key : IsPlainKey key
  pub is : k ≡ plain_key key

pub literal_is : (k : Tree) → is_literal_key false k ≡ true → Literal k
literal_is k e = by (literal_key_is false k e)
  where
    by : OtherText false k ⊎ SafeNumber k → Literal k
    by (inl (s, (is, other))) = record { key = a_word s; is_key = tt; is = is }
    by (inr (n, (is, safe))) = record { key = a_count n; is_key = safe; is = is }
