-- What is read of a value, and what is read of that.
use Rattle.std.proofs.Common.{◌≡◌, ℕ, sym, ap, ◌∙◌, subst}
use Rattle.std.specs.Prelude.{List, Option, Some, None, option_map, IfSome, Result, Ok, Err}
use Rattle.std.specs.Result.{result_err}
use Rattle.serde_json.specs.Data.{Data}
use Rattle.mini_model.specs.Faults.{Fault, fault_of, fault_under, under, Fails, IsUnder, ◌>>=◌}
use Rattle.mini_model.specs.declared.error.MinifyError.{MinifyError}
use Rattle.mini_model.specs.Tree.{Tree}
use Rattle.mini_accept.specs.Accept.{program_at}
use Rattle.mini_accept.specs.Faults as estree
use Rattle.mini_estree.specs.Reads.{Blames, fault_told}
use Rattle.mini_certificate.specs.Certificates.{told, tree_at}

-- ---- one after another

fails_by : {X Y : Type 0} (o : Option Fault) (r : Result X Fault) (f : X → Result Y Fault) → IfSome o (λ x. r ≡ Err x) → IfSome o (λ x. (r >>= f) ≡ Err x)
fails_by None r f h = tt
fails_by (Some x) r f h = ap (λ r. r >>= f) h

pub fails_then : {X Y : Type 0} (e : MinifyError) (r : Result X Fault) (f : X → Result Y Fault) → Fails e r → Fails e (r >>= f)
fails_then e r f h = fails_by (fault_of e) r f h

pub fails_same : {X : Type 0} (e : MinifyError) (r q : Result X Fault) → q ≡ r → Fails e r → Fails e q
fails_same e r q same h = subst (Fails e) (sym same) h

-- ---- from the node above

pub read_under : {X : Type 0} (step : List ℕ) (r : Result X Fault) (x : X) → r ≡ Ok x → under step r ≡ Ok x
read_under step r x e = ap (under step) e

under_by : {X : Type 0} (step : List ℕ) (old new : Option Fault) (r : Result X Fault) → IsUnder step old new → IfSome old (λ f. r ≡ Err f) → IfSome new (λ f. under step r ≡ Err f)
under_by step old None r moved h = tt
under_by step None (Some g) r moved h = absurd (cc moved)
under_by step (Some f) (Some g) r moved h = let same : fault_under step f ≡ g = cc moved in ap (under step) h ∙ ap Err same

pub fails_under : {X : Type 0} (e e' : MinifyError) (step : List ℕ) (r : Result X Fault) → Fails e r → IsUnder step (fault_of e) (fault_of e') → Fails e' (under step r)
fails_under e e' step r h moved = under_by step (fault_of e) (fault_of e') r moved h

-- ---- of a program

pub tree_read : (depth : ℕ) (d : Data) (t : Tree) (n : ℕ) → program_at depth d ≡ Ok (t, n) → tree_at depth d ≡ Ok t
tree_read depth d t n e = ap told e

told_by : (o : Option Fault) (r : Result (Tree × ℕ) estree.Fault) → IfSome o (λ f. option_map fault_told (result_err r) ≡ Some f) → IfSome o (λ f. told r ≡ Err f)
told_by None r h = tt
told_by (Some f) (Ok x) h = absurd (cc h)
told_by (Some f) (Err g) h = let same : fault_told g ≡ f = cc h in ap Err same

pub tree_refused : (depth : ℕ) (d : Data) (e : MinifyError) → Blames e (result_err (program_at depth d)) → Fails e (tree_at depth d)
tree_refused depth d e h = told_by (fault_of e) (program_at depth d) h

-- ---- of a certificate

-- the parts of a certificate, one after another
abbrev pub parts : {A B C D : Type 0} → Result A Fault → Result B Fault → (A → Result C Fault) → (B → Result D Fault) → Result (D × C) Fault
parts a b f g = a >>= λ l. b >>= λ p. f l >>= λ log. g p >>= λ t. Ok (t, log)

module _ {A B C D : Type 0} (e : MinifyError) (f : A → Result C Fault) (g : B → Result D Fault) where
  pub first_fails : (a : Result A Fault) (b : Result B Fault) → Fails e a → Fails e (parts a b f g)
  first_fails a b h = fails_then e a _ h

  pub second_fails : (a : Result A Fault) (b : Result B Fault) (l : A) → a ≡ Ok l → Fails e b → Fails e (parts a b f g)
  second_fails a b l is h = fails_same e _ _ (ap (λ r. parts r b f g) is) (fails_then e b _ h)

  pub third_fails : (a : Result A Fault) (b : Result B Fault) (l : A) (p : B) → a ≡ Ok l → b ≡ Ok p → Fails e (f l) → Fails e (parts a b f g)
  third_fails a b l p is there h = fails_same e _ _ (ap (λ r. parts r b f g) is ∙ ap (λ r. parts (Ok l) r f g) there) (fails_then e (f l) _ h)

  pub fourth_fails : (a : Result A Fault) (b : Result B Fault) (l : A) (p : B) (log : C) → a ≡ Ok l → b ≡ Ok p → f l ≡ Ok log → Fails e (g p) → Fails e (parts a b f g)
  fourth_fails a b l p log is there read h =
      fails_same e _ _ (ap (λ r. parts r b f g) is ∙ ap (λ r. parts (Ok l) r f g) there ∙ ap (λ r. r >>= λ log. g p >>= λ t. Ok (t, log)) read) (fails_then e (g p) _ h)

pub all_read : {A B C D : Type 0} (f : A → Result C Fault) (g : B → Result D Fault) (a : Result A Fault) (b : Result B Fault) (l : A) (p : B) (log : C) (t : D) → a ≡ Ok l → b ≡ Ok p → f l ≡ Ok log → g p ≡ Ok t → parts a b f g ≡ Ok (t, log)
all_read f g a b l p log t is there read tree =
    ap (λ r. parts r b f g) is ∙ ap (λ r. parts (Ok l) r f g) there ∙ ap (λ r. r >>= λ log. g p >>= λ t. Ok (t, log)) read ∙ ap (λ r. r >>= λ t. Ok (t, log)) tree
