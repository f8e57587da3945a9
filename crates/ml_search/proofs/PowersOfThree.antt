-- Powers of three.
use Rattle.std.specs.Prelude.{ℕ, zero, suc, ◌+◌, ◌^◌, ◌<◌, ◌≤◌}
use Rattle.std.proofs.Common.{arith}
use Rattle.std.proofs.Math.Nat.{pow-suc}

pub power_is_positive : (n : ℕ) → 1 ≤ 3 ^ n
power_is_positive zero = omega arith
power_is_positive (suc n) = omega (arith, pow-suc 3 n, power_is_positive n)

pub power_rises : (x n : ℕ) → x < n → 3 ^ x < 3 ^ n
power_rises x zero h = absurd (omega arith)
power_rises zero (suc n) h = omega (arith, pow-suc 3 n, power_is_positive n)
power_rises (suc x) (suc n) h = omega (arith, pow-suc 3 n, pow-suc 3 x, power_rises x n (omega arith))

-- two smaller powers are together smaller
pub two_powers : (x y n : ℕ) → x < n → y < n → 3 ^ x + 3 ^ y < 3 ^ n
two_powers x y zero h k = absurd (omega arith)
two_powers x y (suc n) h k = omega (arith, pow-suc 3 n, power_is_positive n, at_most x n (omega arith), at_most y n (omega arith))
  where
    at_most : (x n : ℕ) → x < suc n → 3 ^ x ≤ 3 ^ n
    at_most zero n h = power_is_positive n
    at_most (suc x) zero h = absurd (omega arith)
    at_most (suc x) (suc n) h = omega (arith, pow-suc 3 n, pow-suc 3 x, at_most x n (omega arith))
