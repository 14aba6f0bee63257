-- Signed numbers. All definitions hold 32-bit words as natural numbers below 2^32; a word that stands for a signed number
-- does so in two's complement (V8's signed integers). Two further forms are used, and each is tied here to the integer it stands for:
-- a signed part of an instruction is held sign-extended to 32 bits, and a signed number that is compared is held in excess
-- form, 2^31 more than the number, so that signed order is the order of ℕ.
use Rattle.std.specs.Prelude.{ℕ, suc, ◌+◌, ◌-◌, ◌%◌, ◌^◌, ◌≤◌, ◌<◌, ◌≡◌, cond, ltb, ℤ, pos, negsuc}
use Rattle.std.proofs.Math.IntN.{sub_ℕ}
use Rattle.std.specs.Int.Signed.{lt_z}

-- the integer that a field of n bits stands for, in two's complement
unfoldable pub signed : ℕ → ℕ → ℤ
signed n x = cond (ltb x (2 ^ (n - 1))) (pos x) (negsuc (2 ^ n - suc x))

-- a field of n bits, sign-extended to 32 bits
unfoldable pub sign_extend : ℕ → ℕ → ℕ
sign_extend n x = cond (ltb x (2 ^ (n - 1))) x (x + (2 ^ 32 - 2 ^ n))

-- the bias of the excess form: 0 in that form
abbrev pub bias : ℕ
bias = 2147483648

-- the excess form of a 32-bit word: the integer it stands for, plus the bias
abbrev pub excess : ℕ → ℕ
excess x = (x + bias) % 4294967296

-- Sign extension keeps the integer.
abbrev pub SignExtends : Type 0
SignExtends = (n x : ℕ) → 1 ≤ n → n ≤ 32 → x < 2 ^ n → signed 32 (sign_extend n x) ≡ signed n x

-- The excess form is 2^31 more than the integer.
abbrev pub ExcessIs : Type 0
ExcessIs = (x : ℕ) → x < 4294967296 → signed 32 x ≡ sub_ℕ (excess x) 2147483648

-- Signed order is the order of the excess forms.
abbrev pub ExcessOrder : Type 0
ExcessOrder = (x y : ℕ) → x < 4294967296 → y < 4294967296 → lt_z (signed 32 x) (signed 32 y) ≡ ltb (excess x) (excess y)
