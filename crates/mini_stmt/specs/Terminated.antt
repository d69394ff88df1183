-- What never ends normally.
use Rattle.std.specs.Prelude.{◌≡◌, Bool, true, false, Option, Some, None}
use Rattle.std.proofs.lemmas.Bool.{false≢true}
use Rattle.mini_model.specs.Tree.{Trees, listed}
use Rattle.mini_rows.specs.Lists.{any, are_terminated}
use Rattle.mini_rows.specs.ListLaws.{NeverEnds}
use Rattle.mini_rows.proofs.ListEnds.{terminated_never_ends}

-- a list of statements, of which one is terminated
abbrev pub ends : Trees → Bool
ends ts = any (are_terminated ts)

abbrev pub ListNeverEnds : Trees → Type 0
ListNeverEnds ts = NeverEnds (listed ts)

pub list_ends : (ts : Trees) → ends ts ≡ true → ListNeverEnds ts
list_ends ts h = terminated_never_ends (listed ts) h

-- a part that may be absent
module _ {A : Type 0} where
  abbrev pub some_ends : (A → Bool) → Option A → Bool
  some_ends f None = false
  some_ends f (Some x) = f x

  abbrev pub SomeNeverEnds : (A → Type 0) → Option A → Type 0
  SomeNeverEnds N None = ⊥
  SomeNeverEnds N (Some x) = N x

  pub some_never : (f : A → Bool) (N : A → Type 0) → ((x : A) → f x ≡ true → N x) → (o : Option A) → some_ends f o ≡ true → SomeNeverEnds N o
  some_never f N k None h = false≢true h
  some_never f N k (Some x) h = k x h
