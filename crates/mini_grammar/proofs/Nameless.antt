-- Productions without a name, a number, a text or an operator of their own.
use Rattle.std.proofs.Common.{◌≡◌, [], false, refl}
use Rattle.mini_print.specs.Token.{Punct, Semicolon}
use Rattle.mini_model.specs.Tree.{Trees}
use Rattle.mini_print.specs.Printed.{chosen}
use Rattle.mini_grammar.specs.Pieces.{flag_of, own, own_text}
use Rattle.mini_grammar.specs.Views.{fixed_of}
use Rattle.mini_grammar.specs.declared.grammar.Fixed.{Fixed}
use Rattle.mini_grammar.specs.declared.grammar.Fixed.TheVariants as fixed

pub no_text : (x : Fixed) → own_text (fixed_of x) ≡ []
no_text fixed.Null = refl
no_text x = refl

pub no_token : (x : Fixed) → own (fixed_of x) ≡ Punct Semicolon
no_token fixed.Null = refl
no_token x = refl

pub no_flag : (x : Fixed) → flag_of (fixed_of x) ≡ false
no_flag fixed.Null = refl
no_flag x = refl

-- a production that the parts don't decide stays as it is
pub fixed_kept : (x : Fixed) (ts : Trees) → (x ≡ fixed.Arrow → ⊥) → (x ≡ fixed.ClassPlain → ⊥) → (x ≡ fixed.ClassMethod → ⊥) → (x ≡ fixed.ClassComputedMethod → ⊥) → (x ≡ fixed.Defaulted → ⊥) → (x ≡ fixed.Rest → ⊥) → (x ≡ fixed.Yield → ⊥) → (x ≡ fixed.For → ⊥) → (x ≡ fixed.ForIn → ⊥) → (x ≡ fixed.ForOf → ⊥) → (x ≡ fixed.MethodProperty → ⊥) → (x ≡ fixed.ComputedMethod → ⊥) → (x ≡ fixed.Case → ⊥) → (x ≡ fixed.CatchParam → ⊥) → (x ≡ fixed.ImportAs → ⊥) → (x ≡ fixed.ForwardAs → ⊥) → (x ≡ fixed.ExportDeclared → ⊥) → (x ≡ fixed.ExportValue → ⊥) → fixed_of x ≡ chosen ts (fixed_of x)
fixed_kept fixed.Arrow ts n0 n1 n2 n3 n4 n5 n6 n7 n8 n9 n10 n11 n12 n13 n14 n15 n16 n17 = absurd (n0 refl)
fixed_kept fixed.ClassPlain ts n0 n1 n2 n3 n4 n5 n6 n7 n8 n9 n10 n11 n12 n13 n14 n15 n16 n17 = absurd (n1 refl)
fixed_kept fixed.ClassMethod ts n0 n1 n2 n3 n4 n5 n6 n7 n8 n9 n10 n11 n12 n13 n14 n15 n16 n17 = absurd (n2 refl)
fixed_kept fixed.ClassComputedMethod ts n0 n1 n2 n3 n4 n5 n6 n7 n8 n9 n10 n11 n12 n13 n14 n15 n16 n17 = absurd (n3 refl)
fixed_kept fixed.Defaulted ts n0 n1 n2 n3 n4 n5 n6 n7 n8 n9 n10 n11 n12 n13 n14 n15 n16 n17 = absurd (n4 refl)
fixed_kept fixed.Rest ts n0 n1 n2 n3 n4 n5 n6 n7 n8 n9 n10 n11 n12 n13 n14 n15 n16 n17 = absurd (n5 refl)
fixed_kept fixed.Yield ts n0 n1 n2 n3 n4 n5 n6 n7 n8 n9 n10 n11 n12 n13 n14 n15 n16 n17 = absurd (n6 refl)
fixed_kept fixed.For ts n0 n1 n2 n3 n4 n5 n6 n7 n8 n9 n10 n11 n12 n13 n14 n15 n16 n17 = absurd (n7 refl)
fixed_kept fixed.ForIn ts n0 n1 n2 n3 n4 n5 n6 n7 n8 n9 n10 n11 n12 n13 n14 n15 n16 n17 = absurd (n8 refl)
fixed_kept fixed.ForOf ts n0 n1 n2 n3 n4 n5 n6 n7 n8 n9 n10 n11 n12 n13 n14 n15 n16 n17 = absurd (n9 refl)
fixed_kept fixed.MethodProperty ts n0 n1 n2 n3 n4 n5 n6 n7 n8 n9 n10 n11 n12 n13 n14 n15 n16 n17 = absurd (n10 refl)
fixed_kept fixed.ComputedMethod ts n0 n1 n2 n3 n4 n5 n6 n7 n8 n9 n10 n11 n12 n13 n14 n15 n16 n17 = absurd (n11 refl)
fixed_kept fixed.Case ts n0 n1 n2 n3 n4 n5 n6 n7 n8 n9 n10 n11 n12 n13 n14 n15 n16 n17 = absurd (n12 refl)
fixed_kept fixed.CatchParam ts n0 n1 n2 n3 n4 n5 n6 n7 n8 n9 n10 n11 n12 n13 n14 n15 n16 n17 = absurd (n13 refl)
fixed_kept fixed.ImportAs ts n0 n1 n2 n3 n4 n5 n6 n7 n8 n9 n10 n11 n12 n13 n14 n15 n16 n17 = absurd (n14 refl)
fixed_kept fixed.ForwardAs ts n0 n1 n2 n3 n4 n5 n6 n7 n8 n9 n10 n11 n12 n13 n14 n15 n16 n17 = absurd (n15 refl)
fixed_kept fixed.ExportDeclared ts n0 n1 n2 n3 n4 n5 n6 n7 n8 n9 n10 n11 n12 n13 n14 n15 n16 n17 = absurd (n16 refl)
fixed_kept fixed.ExportValue ts n0 n1 n2 n3 n4 n5 n6 n7 n8 n9 n10 n11 n12 n13 n14 n15 n16 n17 = absurd (n17 refl)
fixed_kept _ ts n0 n1 n2 n3 n4 n5 n6 n7 n8 n9 n10 n11 n12 n13 n14 n15 n16 n17 = refl
