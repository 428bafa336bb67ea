-- The characters of the texts of decimals and moments, beside their digits.
use Rattle.std.specs.Prelude.{ℕ}

abbrev pub space : ℕ
space = 32

abbrev pub plus_sign : ℕ
plus_sign = 43

abbrev pub minus_sign : ℕ
minus_sign = 45

abbrev pub full_stop : ℕ
full_stop = 46

abbrev pub zero_digit : ℕ
zero_digit = 48

abbrev pub colon : ℕ
colon = 58

abbrev pub upper_e : ℕ
upper_e = 69

abbrev pub upper_t : ℕ
upper_t = 84

abbrev pub upper_z : ℕ
upper_z = 90

abbrev pub lower_e : ℕ
lower_e = 101

abbrev pub lower_t : ℕ
lower_t = 116

abbrev pub lower_z : ℕ
lower_z = 122
