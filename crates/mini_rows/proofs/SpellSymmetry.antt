-- Equality doesn't ask which side is which.
use Rattle.std.proofs.Common.{◌≡◌, Bool, true, false, Option, Some, refl, ap}
use Rattle.std.specs.Prelude.{ℤ, pos, negsuc}
use Rattle.std.proofs.lemmas.Cmp.{nat_eq_equiv, nat_list_eq_equiv}
use Rattle.mini_laws.specs.Value.{Value, Undefined, Null, Boolean, Number, String, Symbol, Object, choose, is_nullish}
use Rattle.mini_laws.specs.Operators.{strictly_equal, same_number, same_boolean, equal_counted, counted, loosely_equal}

boolean_sym : (a b : Bool) → same_boolean a b ≡ same_boolean b a
boolean_sym true true = refl
boolean_sym true false = refl
boolean_sym false true = refl
boolean_sym false false = refl

number_sym : (a b : ℤ) → same_number a b ≡ same_number b a
number_sym (pos m) (pos n) = nat_eq_equiv.symm m n
number_sym (negsuc m) (negsuc n) = nat_eq_equiv.symm m n
number_sym a b = refl

pub strictly_sym : (a b : Value) → strictly_equal a b ≡ strictly_equal b a
strictly_sym Undefined Undefined = refl
strictly_sym Undefined Null = refl
strictly_sym Undefined (Boolean n) = refl
strictly_sym Undefined (Number n) = refl
strictly_sym Undefined (String n) = refl
strictly_sym Undefined (Symbol n) = refl
strictly_sym Undefined (Object n nf) = refl
strictly_sym Null Undefined = refl
strictly_sym Null Null = refl
strictly_sym Null (Boolean n) = refl
strictly_sym Null (Number n) = refl
strictly_sym Null (String n) = refl
strictly_sym Null (Symbol n) = refl
strictly_sym Null (Object n nf) = refl
strictly_sym (Boolean m) Undefined = refl
strictly_sym (Boolean m) Null = refl
strictly_sym (Boolean m) (Boolean n) = boolean_sym m n
strictly_sym (Boolean m) (Number n) = refl
strictly_sym (Boolean m) (String n) = refl
strictly_sym (Boolean m) (Symbol n) = refl
strictly_sym (Boolean m) (Object n nf) = refl
strictly_sym (Number m) Undefined = refl
strictly_sym (Number m) Null = refl
strictly_sym (Number m) (Boolean n) = refl
strictly_sym (Number m) (Number n) = number_sym m n
strictly_sym (Number m) (String n) = refl
strictly_sym (Number m) (Symbol n) = refl
strictly_sym (Number m) (Object n nf) = refl
strictly_sym (String m) Undefined = refl
strictly_sym (String m) Null = refl
strictly_sym (String m) (Boolean n) = refl
strictly_sym (String m) (Number n) = refl
strictly_sym (String m) (String n) = nat_list_eq_equiv.symm m n
strictly_sym (String m) (Symbol n) = refl
strictly_sym (String m) (Object n nf) = refl
strictly_sym (Symbol m) Undefined = refl
strictly_sym (Symbol m) Null = refl
strictly_sym (Symbol m) (Boolean n) = refl
strictly_sym (Symbol m) (Number n) = refl
strictly_sym (Symbol m) (String n) = refl
strictly_sym (Symbol m) (Symbol n) = nat_eq_equiv.symm m n
strictly_sym (Symbol m) (Object n nf) = refl
strictly_sym (Object m mf) Undefined = refl
strictly_sym (Object m mf) Null = refl
strictly_sym (Object m mf) (Boolean n) = refl
strictly_sym (Object m mf) (Number n) = refl
strictly_sym (Object m mf) (String n) = refl
strictly_sym (Object m mf) (Symbol n) = refl
strictly_sym (Object m mf) (Object n nf) = nat_eq_equiv.symm m n

counted_sym : (a b : Value) → equal_counted a b ≡ equal_counted b a
counted_sym Undefined Undefined = ap (λ x. Some x) (strictly_sym Undefined Undefined)
counted_sym Undefined Null = ap (λ x. Some x) (strictly_sym Undefined Null)
counted_sym Undefined (Boolean n) = ap (λ x. Some x) (strictly_sym Undefined (Boolean n))
counted_sym Undefined (Number n) = ap (λ x. Some x) (strictly_sym Undefined (Number n))
counted_sym Undefined (String n) = ap (λ x. Some x) (strictly_sym Undefined (String n))
counted_sym Undefined (Symbol n) = ap (λ x. Some x) (strictly_sym Undefined (Symbol n))
counted_sym Undefined (Object n nf) = ap (λ x. Some x) (strictly_sym Undefined (Object n nf))
counted_sym Null Undefined = ap (λ x. Some x) (strictly_sym Null Undefined)
counted_sym Null Null = ap (λ x. Some x) (strictly_sym Null Null)
counted_sym Null (Boolean n) = ap (λ x. Some x) (strictly_sym Null (Boolean n))
counted_sym Null (Number n) = ap (λ x. Some x) (strictly_sym Null (Number n))
counted_sym Null (String n) = ap (λ x. Some x) (strictly_sym Null (String n))
counted_sym Null (Symbol n) = ap (λ x. Some x) (strictly_sym Null (Symbol n))
counted_sym Null (Object n nf) = ap (λ x. Some x) (strictly_sym Null (Object n nf))
counted_sym (Boolean m) Undefined = ap (λ x. Some x) (strictly_sym (Boolean m) Undefined)
counted_sym (Boolean m) Null = ap (λ x. Some x) (strictly_sym (Boolean m) Null)
counted_sym (Boolean m) (Boolean n) = ap (λ x. Some x) (strictly_sym (Boolean m) (Boolean n))
counted_sym (Boolean m) (Number n) = ap (λ x. Some x) (strictly_sym (Boolean m) (Number n))
counted_sym (Boolean m) (String n) = ap (λ x. Some x) (strictly_sym (Boolean m) (String n))
counted_sym (Boolean m) (Symbol n) = ap (λ x. Some x) (strictly_sym (Boolean m) (Symbol n))
counted_sym (Boolean m) (Object n nf) = ap (λ x. Some x) (strictly_sym (Boolean m) (Object n nf))
counted_sym (Number m) Undefined = ap (λ x. Some x) (strictly_sym (Number m) Undefined)
counted_sym (Number m) Null = ap (λ x. Some x) (strictly_sym (Number m) Null)
counted_sym (Number m) (Boolean n) = ap (λ x. Some x) (strictly_sym (Number m) (Boolean n))
counted_sym (Number m) (Number n) = ap (λ x. Some x) (strictly_sym (Number m) (Number n))
counted_sym (Number m) (String n) = refl
counted_sym (Number m) (Symbol n) = ap (λ x. Some x) (strictly_sym (Number m) (Symbol n))
counted_sym (Number m) (Object n nf) = ap (λ x. Some x) (strictly_sym (Number m) (Object n nf))
counted_sym (String m) Undefined = ap (λ x. Some x) (strictly_sym (String m) Undefined)
counted_sym (String m) Null = ap (λ x. Some x) (strictly_sym (String m) Null)
counted_sym (String m) (Boolean n) = ap (λ x. Some x) (strictly_sym (String m) (Boolean n))
counted_sym (String m) (Number n) = refl
counted_sym (String m) (String n) = ap (λ x. Some x) (strictly_sym (String m) (String n))
counted_sym (String m) (Symbol n) = ap (λ x. Some x) (strictly_sym (String m) (Symbol n))
counted_sym (String m) (Object n nf) = ap (λ x. Some x) (strictly_sym (String m) (Object n nf))
counted_sym (Symbol m) Undefined = ap (λ x. Some x) (strictly_sym (Symbol m) Undefined)
counted_sym (Symbol m) Null = ap (λ x. Some x) (strictly_sym (Symbol m) Null)
counted_sym (Symbol m) (Boolean n) = ap (λ x. Some x) (strictly_sym (Symbol m) (Boolean n))
counted_sym (Symbol m) (Number n) = ap (λ x. Some x) (strictly_sym (Symbol m) (Number n))
counted_sym (Symbol m) (String n) = ap (λ x. Some x) (strictly_sym (Symbol m) (String n))
counted_sym (Symbol m) (Symbol n) = ap (λ x. Some x) (strictly_sym (Symbol m) (Symbol n))
counted_sym (Symbol m) (Object n nf) = ap (λ x. Some x) (strictly_sym (Symbol m) (Object n nf))
counted_sym (Object m mf) Undefined = ap (λ x. Some x) (strictly_sym (Object m mf) Undefined)
counted_sym (Object m mf) Null = ap (λ x. Some x) (strictly_sym (Object m mf) Null)
counted_sym (Object m mf) (Boolean n) = ap (λ x. Some x) (strictly_sym (Object m mf) (Boolean n))
counted_sym (Object m mf) (Number n) = ap (λ x. Some x) (strictly_sym (Object m mf) (Number n))
counted_sym (Object m mf) (String n) = ap (λ x. Some x) (strictly_sym (Object m mf) (String n))
counted_sym (Object m mf) (Symbol n) = ap (λ x. Some x) (strictly_sym (Object m mf) (Symbol n))
counted_sym (Object m mf) (Object n nf) = ap (λ x. Some x) (strictly_sym (Object m mf) (Object n nf))

nullish_sym : (n m : Bool) (x y : Option Bool) → x ≡ y → choose n (Some m) (choose m (Some false) x) ≡ choose m (Some n) (choose n (Some false) y)
nullish_sym true true x y h = refl
nullish_sym true false x y h = refl
nullish_sym false true x y h = refl
nullish_sym false false x y h = h

pub loosely_sym : (a b : Value) → loosely_equal a b ≡ loosely_equal b a
loosely_sym a b = nullish_sym (is_nullish a) (is_nullish b) (equal_counted (counted a) (counted b)) (equal_counted (counted b) (counted a)) (counted_sym (counted a) (counted b))
