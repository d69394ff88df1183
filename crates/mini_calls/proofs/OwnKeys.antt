-- What the calls of keys of patterns and classes make is what their own rows say, and where they make nothing none of these reads the node.
use Rattle.std.proofs.Common.{◌≡◌, Bool, true, false, refl, sym, ap, subst, ◌∙◌, inl, inr, true≢false}
use Rattle.std.specs.Prelude.{◌⊎◌, ◌||◌, if◌then◌else◌}
use Rattle.mini_model.specs.Tree.{Tree}
use Rattle.mini_rows.specs.KeyHolders.{Row52Held, Row52Bare, Row52Declared, Row53}
use Rattle.mini_syntax.specs.CompressAssignmentTargetProperty.{is_doubled, shorthand, compressed}
use Rattle.mini_syntax.specs.SubstituteBindingProperty.{declares_brackets, declared_bare}
use Rattle.mini_syntax.specs.SubstitutePropertyKey.{spelled, is_spelled, drops_brackets, bare, held_written, is_held_written, key_written, is_key_written, target_written, is_target_written}
use Rattle.mini_syntax.proofs.BindingKeys.{declared_row, declared_reads, declared_stays}
use Rattle.mini_syntax.proofs.PropertyKeys.{spelled_row, bare_row, held_reads, bare_reads, unspelled, neither}
use Rattle.mini_syntax.proofs.ShorthandTargets.{doubled_row, doubled_reads, compressed_stays}
use Rattle.mini_calls.specs.OwnRows.{Changing, HeldKey, AnyKey, TargetKey}

pub spelled_own : Changing is_spelled spelled Row52Held
spelled_own = record { written = spelled_row; kept = unspelled; unwritten = λ n e w r. true≢false (sym (held_reads n w r) ∙ e) }

pub declared_own : Changing declares_brackets declared_bare Row52Declared
declared_own = record { written = declared_row; kept = declared_stays; unwritten = λ n e w r. true≢false (sym (declared_reads n w r) ∙ e) }

pub doubled_own : Changing is_doubled compressed Row53
doubled_own = record {
  written = λ n e. subst (Row53 n) (sym (ap (λ b. if b then shorthand n else n) e)) (doubled_row n e);
  kept = compressed_stays;
  unwritten = λ n e w r. true≢false (sym (doubled_reads n w r) ∙ e);
}

bare_rest : (n : Tree) → drops_brackets n ≡ false → (w : Tree) → Row52Bare n w → ⊥
bare_rest n e w r = true≢false (sym (bare_reads n w r) ∙ e)

-- one of two: the first where it changes the node, and else the second
module _ (first second : Tree → Bool) (made other : Tree → Tree) (R Q : Tree → Tree → Type 0) where
  abbrev either_changes : Tree → Bool
  either_changes n = first n || second n

  abbrev either_made : Tree → Tree
  either_made n = if first n then made n else other n

  either_written : ((n : Tree) → first n ≡ true → R n (made n)) → ((n : Tree) → second n ≡ true → Q n (other n)) → (n : Tree) → either_changes n ≡ true → R n (either_made n) ⊎ Q n (either_made n)
  either_written f g n e = go (first n) refl e
    where
      go : (b : Bool) → first n ≡ b → b || second n ≡ true → R n (either_made n) ⊎ Q n (either_made n)
      go true h k = inl (subst (R n) (sym (ap (λ b. if b then made n else other n) h)) (f n h))
      go false h k = inr (subst (Q n) (sym (ap (λ b. if b then made n else other n) h)) (g n k))

  either_kept : ((n : Tree) → second n ≡ false → other n ≡ n) → (n : Tree) → either_changes n ≡ false → either_made n ≡ n
  either_kept g n e = let (one, two) = neither (first n) (second n) e in ap (λ b. if b then made n else other n) one ∙ g n two

  either_rest : ((n : Tree) → first n ≡ false → (w : Tree) → R n w → ⊥) → ((n : Tree) → second n ≡ false → (w : Tree) → Q n w → ⊥) → (n : Tree) → either_changes n ≡ false → (w : Tree) → R n w ⊎ Q n w → ⊥
  either_rest f g n e w (inl r) = let (one, two) = neither (first n) (second n) e in f n one w r
  either_rest f g n e w (inr r) = let (one, two) = neither (first n) (second n) e in g n two w r

held_either : (n : Tree) → is_held_written n ≡ true → Row52Bare n (held_written n) ⊎ Row52Held n (held_written n)
held_either n e = either_written drops_brackets is_spelled bare spelled Row52Bare Row52Held bare_row spelled_row n e

held_of : (n w : Tree) → Row52Bare n w ⊎ Row52Held n w → HeldKey n w
held_of n w (inl r) = inr r
held_of n w (inr r) = inl r

of_held : (n w : Tree) → HeldKey n w → Row52Bare n w ⊎ Row52Held n w
of_held n w (inl r) = inr r
of_held n w (inr r) = inl r

pub held_own : Changing is_held_written held_written HeldKey
held_own = record {
  written = λ n e. held_of n (held_written n) (held_either n e);
  kept = either_kept drops_brackets is_spelled bare spelled Row52Bare Row52Held unspelled;
  unwritten = λ n e w r. either_rest drops_brackets is_spelled bare spelled Row52Bare Row52Held bare_rest spelled_own.unwritten n e w (of_held n w r);
}

pub key_own : Changing is_key_written key_written AnyKey
key_own = record {
  written = either_written declares_brackets is_held_written declared_bare held_written Row52Declared HeldKey declared_row held_own.written;
  kept = either_kept declares_brackets is_held_written declared_bare held_written Row52Declared HeldKey held_own.kept;
  unwritten = either_rest declares_brackets is_held_written declared_bare held_written Row52Declared HeldKey declared_own.unwritten held_own.unwritten;
}

pub target_own : Changing is_target_written target_written TargetKey
target_own = record {
  written = either_written is_doubled is_held_written compressed held_written Row53 HeldKey doubled_own.written held_own.written;
  kept = either_kept is_doubled is_held_written compressed held_written Row53 HeldKey held_own.kept;
  unwritten = either_rest is_doubled is_held_written compressed held_written Row53 HeldKey doubled_own.unwritten held_own.unwritten;
}
