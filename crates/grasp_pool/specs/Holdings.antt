-- What a pool holds, and what each change of it does to its three sets (RFC 8992, sections 4.1 and 4.2).
use Rattle.std.specs.Prelude.{◌≡◌, ℕ, ◌⊎◌, ◌↔◌, List, Contains}
use Rattle.grasp_types.specs.Prefix.{AddressBlock as Prefix, span_of}
use Rattle.grasp_pool.specs.Spans.{Apart, Covers}

-- the free addresses, as their maximal prefixes, and the reserved and the doubtful prefixes, each in rising order
pub record Holding : Type 0 where
  pub free : List Prefix
  pub reserved : List Prefix
  pub doubtful : List Prefix

-- the address is free, which is to say held
abbrev pub IsFree : Holding → ℕ → Type 0
IsFree h a = Covers h.free a

-- the prefix is reserved or doubtful
abbrev pub IsListed : Holding → Prefix → Type 0
IsListed h p = Contains h.reserved p ⊎ Contains h.doubtful p

-- what a pool has reserved or doubtful overlaps nothing that it holds and nothing else of it, and isn't both
pub record PoolApart (h : Holding) : Type 0 where
  pub held : (q : Prefix) (a : ℕ) → IsListed h q → span_of q a → ¬ IsFree h a
  pub listed : (p q : Prefix) → ¬ (p ≡ q) → IsListed h p → IsListed h q → Apart p q
  pub once : (q : Prefix) → Contains h.reserved q → ¬ Contains h.doubtful q

-- p, which was all free, is reserved
pub record Reserves (old new : Holding) (p : Prefix) : Type 0 where
  pub was : (a : ℕ) → span_of p a → IsFree old a
  pub free : (a : ℕ) → IsFree new a ↔ (IsFree old a × (¬ span_of p a))
  pub reserved : (q : Prefix) → Contains new.reserved q ↔ (Contains old.reserved q ⊎ (q ≡ p))
  pub doubtful : new.doubtful ≡ old.doubtful

-- p, which was reserved, is free again
pub record GivesBack (old new : Holding) (p : Prefix) : Type 0 where
  pub was : Contains old.reserved p
  pub free : (a : ℕ) → IsFree new a ↔ (IsFree old a ⊎ span_of p a)
  pub reserved : (q : Prefix) → Contains new.reserved q ↔ (Contains old.reserved q × (¬ (q ≡ p)))
  pub doubtful : new.doubtful ≡ old.doubtful

-- p, which was reserved, is forgotten
pub record Confirms (old new : Holding) (p : Prefix) : Type 0 where
  pub was : Contains old.reserved p
  pub free : new.free ≡ old.free
  pub reserved : (q : Prefix) → Contains new.reserved q ↔ (Contains old.reserved q × (¬ (q ≡ p)))
  pub doubtful : new.doubtful ≡ old.doubtful

-- p, which was reserved, is doubtful
pub record Doubts (old new : Holding) (p : Prefix) : Type 0 where
  pub was : Contains old.reserved p
  pub free : new.free ≡ old.free
  pub reserved : (q : Prefix) → Contains new.reserved q ↔ (Contains old.reserved q × (¬ (q ≡ p)))
  pub doubtful : (q : Prefix) → Contains new.doubtful q ↔ (Contains old.doubtful q ⊎ (q ≡ p))

-- p, which was doubtful, is free again
pub record Settles (old new : Holding) (p : Prefix) : Type 0 where
  pub was : Contains old.doubtful p
  pub free : (a : ℕ) → IsFree new a ↔ (IsFree old a ⊎ span_of p a)
  pub reserved : new.reserved ≡ old.reserved
  pub doubtful : (q : Prefix) → Contains new.doubtful q ↔ (Contains old.doubtful q × (¬ (q ≡ p)))

-- p overlaps nothing that the pool has
pub record IsNew (h : Holding) (p : Prefix) : Type 0 where
  pub free : (a : ℕ) → span_of p a → ¬ IsFree h a
  pub listed : (q : Prefix) → IsListed h q → Apart p q

-- p, which overlaps nothing that the pool has, becomes free
pub record Gains (old new : Holding) (p : Prefix) : Type 0 where
  pub was : IsNew old p
  pub free : (a : ℕ) → IsFree new a ↔ (IsFree old a ⊎ span_of p a)
  pub reserved : new.reserved ≡ old.reserved
  pub doubtful : new.doubtful ≡ old.doubtful
