-- Results are words. A shift that copies bit 31 is, of a negative word, the complement of the shifted complement: so the machine's
-- signed shift gives it, and so its result is seen to be a word.
use Prim.Native.Nat.{ℕ, suc, ◌+◌, ◌-◌, ◌*◌, ◌/◌, ◌%◌, ◌^◌, ◌<◌}
use mathlib.Core.Path.{◌≡◌, refl, sym, ap, ◌∙◌}
use mathlib.Core.Bool.{Bool, true, false}
use lib.Dec.{ltb}
use borrow.Author.Tests.{ltb-true, ltb-false, lt-leb, le-leb}
use native.Mathlib.Omega.{arith}
use native.Mathlib.Nat.{div-eq_of_lt-le, div-lt_iff_lt-mul, div-add-mod', mod-lt}
use lib.Bits.{and_lt, or_lt, xor_lt}
use lib.Pow.{shr_le, pow-add, pow_pos, pow_mono}
use Rattle.v8.proofs.Choice.{cond_both}
use Rattle.v8.specs.declared.AluOp.TheVariants.{Add, And, Or, Xor, Sub, Andn, Orn, Xnor}
use Rattle.v8.specs.declared.ShiftOp.TheVariants.{Sll, Srl, Sra}
use Rattle.std.specs.Int.{w32, cast_signed, cast_unsigned, int_shr}
use Rattle.alu.specs.Result.{not32, srl32, sra32, bit31}
use Rattle.alu.specs.Laws.{AluSmall, ShiftSmall, SethiSmall}

not_small : (y : ℕ) → not32 y < 4294967296
not_small y = omega arith

pub alu_small : AluSmall
alu_small Add x y hx hy = omega arith
alu_small And x y hx hy = and_lt 32 x y hx hy
alu_small Or x y hx hy = or_lt 32 x y hx hy
alu_small Xor x y hx hy = xor_lt 32 x y hx hy
alu_small Sub x y hx hy = omega arith
alu_small Andn x y hx hy = and_lt 32 x (not32 y) hx (not_small y)
alu_small Orn x y hx hy = or_lt 32 x (not32 y) hx (not_small y)
alu_small Xnor x y hx hy = xor_lt 32 x (not32 y) hx (not_small y)

-- the quotient of the complement is the complement of the quotient
module _ (p g y : ℕ) (pos : 0 < p) (h : y < g * p) where
  within : y / p < g
  within = (div-lt_iff_lt-mul pos).1 h

  parts : g * p ≡ y / p * p + p + (g - 1 - y / p) * p
  parts = ap (λ (n : ℕ). n * p) whole ∙ spread (y / p) (g - 1 - y / p)
    where
      whole : g ≡ y / p + 1 + (g - 1 - y / p)
      whole = omega (arith, within)

      spread : (q d : ℕ) → (q + 1 + d) * p ≡ q * p + p + d * p
      spread q d = omega arith

  complement_div : (g * p - 1 - y) / p ≡ g - 1 - y / p
  complement_div =
      div-eq_of_lt-le p
      (omega (arith, parts, div-add-mod' y p, mod-lt y pos))
      (omega (arith, parts, div-add-mod' y p, mod-lt y pos))

-- the two powers that a count parts 2^32 into
powers : (s : ℕ) → s < 32 → 2 ^ (32 - s) * 2 ^ s ≡ 4294967296
powers s h = sym (pow-add 2 (32 - s) s) ∙ ap (λ (n : ℕ). 2 ^ n) (whole s h)
  where
    whole : (s : ℕ) → s < 32 → 32 - s + s ≡ 32
    whole s h = omega arith

-- the complement of the shifted complement has the vacated bits set
fills : (x s : ℕ) → x < 4294967296 → s < 32 → not32 (not32 x / 2 ^ s) ≡ x / 2 ^ s + (4294967296 - 2 ^ (32 - s))
fills x s h k = omega (arith, quotient, within (2 ^ s) (2 ^ (32 - s)) (not32 x) (pow_pos s) word, pow_mono {i = 32 - s} {j = 32} (omega arith))
  where
    word : not32 x < 2 ^ (32 - s) * 2 ^ s
    word = rw (powers s k) (not_small x)

    back : 2 ^ (32 - s) * 2 ^ s - 1 - not32 x ≡ x
    back = omega (arith, powers s k)

    quotient : x / 2 ^ s ≡ 2 ^ (32 - s) - 1 - not32 x / 2 ^ s
    quotient = ap (λ (n : ℕ). n / 2 ^ s) (sym back) ∙ complement_div (2 ^ s) (2 ^ (32 - s)) (not32 x) (pow_pos s) word

-- the shift of the signed number that a word stands for
pub signed_shift : (x s : ℕ) → x < 4294967296 → s < 32 → cast_unsigned w32 (int_shr (cast_signed w32 x) s) ≡ sra32 x s
signed_shift x s h k = at (ltb x 2147483648) refl
  where
    past : (y : ℕ) → 4294967296 - suc y ≡ not32 y
    past y = omega arith

    at : (t : Bool) → ltb x 2147483648 ≡ t → cast_unsigned w32 (int_shr (cast_signed w32 x) s) ≡ sra32 x s
    at true e = rw (e, lt-leb 2147483648 x (ltb-true x 2147483648 e))
    at false e = rw (e, le-leb 2147483648 x (ltb-false x 2147483648 e), past x, past (not32 x / 2 ^ s)) (fills x s h k)

srl_small : (x s : ℕ) → x < 4294967296 → srl32 x s < 4294967296
srl_small x s h = omega (arith, shr_le x s)

pub shift_small : ShiftSmall
shift_small Sll x count h = omega arith
shift_small Srl x count h = srl_small x (count % 32) h
shift_small Sra x count h =
    cond_both (λ (r : ℕ). r < 4294967296) (bit31 x)
    (λ _. rw (← fills x (count % 32) h (omega arith)) (not_small (not32 x / 2 ^ (count % 32))))
    (λ _. srl_small x (count % 32) h)

pub sethi_small : SethiSmall
sethi_small n = omega arith
