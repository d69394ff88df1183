-- Texts of numbers, and numbers of texts, computed.
use Rattle.std.specs.Prelude.{◌≡◌, refl, Some, None, codes, [], pos, negsuc}
use Rattle.std.specs.Fmt.{signed_decimal, digits}
use Rattle.mini_model.specs.Numerals.{safe_number}

text_of_zero : signed_decimal (pos 0) ≡ codes "0"
unfolding digits
text_of_zero = refl

text_of_minus_five : signed_decimal (negsuc 4) ≡ codes "-5"
unfolding digits
text_of_minus_five = refl

text_of_twelve : signed_decimal (pos 12) ≡ codes "12"
unfolding digits
text_of_twelve = refl

text_of_the_greatest : signed_decimal (pos 9_007_199_254_740_991) ≡ codes "9007199254740991"
unfolding digits
text_of_the_greatest = refl

zero : safe_number (codes "0") ≡ Some (pos 0)
unfolding digits
zero = refl

minus_five : safe_number (codes "-5") ≡ Some (negsuc 4)
unfolding digits
minus_five = refl

the_greatest : safe_number (codes "9007199254740991") ≡ Some (pos 9_007_199_254_740_991)
unfolding digits
the_greatest = refl

the_least : safe_number (codes "-9007199254740991") ≡ Some (negsuc 9_007_199_254_740_990)
unfolding digits
the_least = refl

past_the_greatest : safe_number (codes "9007199254740992") ≡ None
unfolding digits
past_the_greatest = refl

leading_zero : safe_number (codes "012") ≡ None
unfolding digits
leading_zero = refl

minus_zero : safe_number (codes "-0") ≡ None
unfolding digits
minus_zero = refl

plus_sign : safe_number (codes "+1") ≡ None
unfolding digits
plus_sign = refl

no_text : safe_number [] ≡ None
unfolding digits
no_text = refl

minus_alone : safe_number (codes "-") ≡ None
unfolding digits
minus_alone = refl

fraction : safe_number (codes "1.0") ≡ None
unfolding digits
fraction = refl

white_space : safe_number (codes " 1") ≡ None
unfolding digits
white_space = refl
