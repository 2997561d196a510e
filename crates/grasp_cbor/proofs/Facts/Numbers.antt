-- Facts of numbers, bytes and their bounds.
use Rattle.std.proofs.Common.{ℕ, ◌≤◌, arith, ◌≡◌, ◌+◌, suc, ◌<◌, ◌^◌, ◌-◌, ◌%◌, zero, List, get_or}
use Rattle.std.specs.Int.{byte_at, bytes_high_first, from_be_bytes, w128, to_be_bytes}
use Rattle.grasp_cbor.specs.Bytes.{AllBytes}
use Rattle.grasp_cbor.specs.Head.{HeadSize, argument_limit, eight_bytes}

-- a number is at most itself
pub itself : (a : ℕ) → a ≤ a
itself a = omega arith

-- what is at most a number is at most each greater one
pub up : (a b c : ℕ) → a ≤ b → b ≤ c → a ≤ c
up a b c h k = omega (arith, h, k)

-- nothing added after a number
pub plus_none : (d : ℕ) → d ≡ d + 0
plus_none d = omega arith

-- nothing added before a number
pub none_plus : (n : ℕ) → n ≡ 0 + n
none_plus n = omega arith

-- one more now is one more in the count
pub one_more : (d e count : ℕ) → e ≡ (d + 1) + count → e ≡ d + suc count
one_more d e count h = omega (arith, h)

-- a byte less one is still a byte
pub still_below : (a : ℕ) → a < 2 ^ 8 → a - 1 < 2 ^ 8
still_below a h = omega arith

-- the next number, begun again after the last, has 32 bits
pub next_below : (number : ℕ) → (number + 1) % 2 ^ 32 < 2 ^ 32
next_below number = omega arith

-- each byte of a number is below 256
pub byte_below : (k n : ℕ) → byte_at k n < 256
byte_below zero n = omega arith
byte_below (suc k) n = omega arith

-- the bytes of a number are bytes
pub all_bytes : (k n : ℕ) → AllBytes (bytes_high_first k n)
all_bytes zero n = tt
all_bytes (suc k) n = (byte_below k n, all_bytes k n)

-- 16 bytes make a number of 128 bits
pub small_16 : (bs : List ℕ) → ((i : ℕ) → get_or bs i 0 < 256) → from_be_bytes w128 bs < 2 ^ 128
small_16 bs h = omega (arith, h 0, h 1, h 2, h 3, h 4, h 5, h 6, h 7, h 8, h 9, h 10, h 11, h 12, h 13, h 14, h 15)

-- 16 bytes of a number make it again
pub back_16 : (n : ℕ) → n < 2 ^ 128 → from_be_bytes w128 (to_be_bytes w128 n) ≡ n
back_16 n h = omega arith

-- an argument of each size has at most 64 bits
pub below_64 : (size : HeadSize) (n : ℕ) → n < argument_limit size → n < 2 ^ 64
below_64 eight_bytes n h = h
below_64 _ n h = omega (arith, h)
