-- What the functions on pools mean.
use Rattle.std.proofs.Common.{◌≡◌, ℕ, zero, suc, ◌+◌, ◌-◌, ◌<◌, ◌≤◌, ◌⊎◌, inl, inr, List, [], ◌∷◌, length, Contains, slice_index_or, refl, sym, subst, arith, Bool, true, false, cond, nat_lt, nat_le, Option, Some, None, MatchOption}
use Rattle.std.proofs.lemmas.Bool.Decides.{leb_tells}
use Rattle.grasp_types.specs.Prefix.{AddressBlock as Prefix}
use Rattle.grasp_pool.specs.Spans.{IsValid}
use Rattle.grasp_pool.specs.Canonical.{IsTidy, IsLowestFree, HasNoFree}
use Rattle.grasp_pool.specs.Holdings.{Holding, IsNew, Reserves, GivesBack, Confirms, Doubts, Settles, Gains}
use Rattle.grasp_pool.specs.Parts.{IsNarrow, first_part}
use Rattle.grasp_pool.proofs.Words.{IsCarved}
use Rattle.grasp_pool.specs.Pools.{IsPool, room_of, IsTaken, IsNotTaken}
use Rattle.grasp_pool.specs.Functions.{add, without, split_at, wide, head_part, rest_of, lowest_free, carved_list, merge, take_reply, after_take, after_back, after_confirm, after_doubt, after_settle, after_gain}
use Rattle.grasp_pool.proofs.Lists.{lt_tells}
use Rattle.grasp_pool.proofs.Equal.{add_members, add_rising, without_members, without_rising}
use Rattle.grasp_pool.proofs.Carving.{none_wide, carved}
use Rattle.grasp_pool.proofs.Changes.{listed_apart, reserved_address, doubtful_address, taken_pool, back_pool, settled_pool, confirmed_pool, doubted_pool, gained_pool}
use Rattle.grasp_pool.proofs.Growing.{add_length, without_length, IsMerged, merged}
use Rattle.grasp_pool.proofs.TakingAt.{IsLeft, part_left, part_around}

-- w is the first of the list that is no longer than n
pub record IsWideAt (ps : List Prefix) (n : ℕ) (w : Prefix) : Type 0 where
  pub place : ℕ
  pub within : place < length ps
  pub is : w ≡ slice_index_or ps place w
  pub narrow : IsNarrow ps n place
  pub short : w.length ≤ n

-- one more in front
narrow_more : (x : Prefix) (xs : List Prefix) (n i : ℕ) → n < x.length → IsNarrow xs n i → IsNarrow (x ∷ xs) n (suc i)
narrow_more x xs n i long narrow zero d lt within = long
narrow_more x xs n i long narrow (suc k) d lt within = narrow k d (omega arith) (omega arith)

pub wide_tells : (ps : List Prefix) (n : ℕ) → MatchOption (wide ps n) (IsNarrow ps n (length ps)) (λ w. IsWideAt ps n w)
unfolding wide
wide_tells [] n = λ k d lt within. absurd (omega arith)
wide_tells (x ∷ xs) n = choose (nat_le x.length n) (leb_tells x.length n) (wide xs n) (wide_tells xs n)
  where
    later : (w : Prefix) → n < x.length → IsWideAt xs n w → IsWideAt (x ∷ xs) n w
    later w long a = record { place = suc a.place; within = let b : a.place < length xs = a.within in omega arith; is = a.is; narrow = narrow_more x xs n a.place long a.narrow; short = a.short }

    rest : (o : Option Prefix) → n < x.length → MatchOption o (IsNarrow xs n (length xs)) (λ w. IsWideAt xs n w) → MatchOption o (IsNarrow (x ∷ xs) n (length (x ∷ xs))) (λ w. IsWideAt (x ∷ xs) n w)
    rest None long again = narrow_more x xs n (length xs) long again
    rest (Some w) long again = later w long again

    choose : (b : Bool) → ((b ≡ true) × (x.length ≤ n)) ⊎ ((b ≡ false) × (n < x.length)) → (o : Option Prefix) → MatchOption o (IsNarrow xs n (length xs)) (λ w. IsWideAt xs n w)
        → MatchOption (cond b (Some x) o) (IsNarrow (x ∷ xs) n (length (x ∷ xs))) (λ w. IsWideAt (x ∷ xs) n w)
    choose true (inl h) o again = record { place = zero; within = omega arith; is = refl; narrow = λ k d lt within. absurd (omega arith); short = h.1 }
    choose true (inr h) o again = absurd (cc)
    choose false (inl h) o again = absurd (cc)
    choose false (inr h) o again = rest o h.1 again

-- carving the lowest free prefix out of a list
carved_at : (ps : List Prefix) (n : ℕ) (w : Prefix) → IsTidy ps → 1 ≤ n → n ≤ 128 → IsWideAt ps n w
    → IsCarved ps (split_at (n - w.length) w w.address (without w.address ps)) n (first_part w n)
carved_at ps n w tidy some most a =
    let has : Contains ps w = (a.place, a.within, sym a.is)
    in let mid : List Prefix = without w.address ps
    in let part = part_around ps w n tidy has a.short most
    in let l : IsLeft ps (first_part w n) w mid = part_left ps (first_part w n) w tidy part.0 part.1
    in let s = l.split
    in let one : 1 ≤ w.length = l.valid.least
    in let fewer : length mid + 1 ≡ length ps = l.fewer
    in let more : length (split_at (n - w.length) w w.address mid) ≡ length mid + (n - w.length) = s.more
    in carved ps mid (split_at (n - w.length) w w.address mid) n a.place w (first_part w n) tidy a.within a.is a.narrow has (without_members w ps tidy.rising has) s.tidy part.0 refl refl s.apart s.same (omega arith)

pub lowest_carved : (ps : List Prefix) (n : ℕ) → IsTidy ps → 1 ≤ n → n ≤ 128 → MatchOption (lowest_free ps n) (HasNoFree ps n × (carved_list ps n ≡ ps)) (λ p. IsCarved ps (carved_list ps n) n p)
lowest_carved ps n tidy some most = choose (wide ps n) (wide_tells ps n)
  where
    choose : (o : Option Prefix) → MatchOption o (IsNarrow ps n (length ps)) (λ w. IsWideAt ps n w)
        → MatchOption (head_part o n) (HasNoFree ps n × (rest_of ps n o ≡ ps)) (λ p. IsCarved ps (rest_of ps n o) n p)
    choose None narrow = (none_wide ps n tidy.clean narrow, refl)
    choose (Some w) a = carved_at ps n w tidy some most a

pub lowest_is : (ps : List Prefix) (n : ℕ) → IsTidy ps → 1 ≤ n → n ≤ 128 → MatchOption (lowest_free ps n) (HasNoFree ps n) (λ p. IsLowestFree ps n p)
lowest_is ps n tidy some most = choose (lowest_free ps n) (lowest_carved ps n tidy some most)
  where
    choose : (o : Option Prefix) → MatchOption o (HasNoFree ps n × (carved_list ps n ≡ ps)) (λ p. IsCarved ps (carved_list ps n) n p)
        → MatchOption o (HasNoFree ps n) (λ p. IsLowestFree ps n p)
    choose None h = h.0
    choose (Some p) k = k.least

-- what take does where it answers a prefix
pub record IsTakenPool (h new : Holding) (n : ℕ) (p : Prefix) : Type 0 where
  pub taken : IsTaken h new n p
  pub pool : IsPool new

taken_at : (h : Holding) (n : ℕ) (p : Prefix) → IsPool h → 128 ≤ room_of h → IsCarved h.free (carved_list h.free n) n p → IsTakenPool h (after_take h n (Some p)) n p
taken_at h n p pool room k =
    let new : Holding = after_take h n (Some p)
    in let reserves : Reserves h new p = record { was = k.least.free.all; free = k.covers; reserved = add_members p h.reserved; doubtful = refl }
    in let few : length (carved_list h.free n) ≤ length h.free + 126 = k.few
    in let more : length (add p h.reserved) ≡ length h.reserved + 1 = add_length p h.reserved
    in record {
      taken = record { room = room; least = k.least; reserves = reserves };
      pool = taken_pool h new p pool reserves k.least.free.valid k.tidy (add_rising p h.reserved pool.reserved (reserved_address h pool p k.least.free)) (omega arith);
    }

take_parts : (h : Holding) (n : ℕ) → IsPool h → 1 ≤ n → n ≤ 128
    → MatchOption (take_reply h n) (IsNotTaken h h n) (λ p. IsTakenPool h (after_take h n (Some p)) n p)
take_parts h n pool some most = choose (nat_lt (room_of h) 128) (lt_tells (room_of h) 128) (lowest_free h.free n) (lowest_carved h.free n pool.free some most)
  where
    found : (o : Option Prefix) → 128 ≤ room_of h → MatchOption o (HasNoFree h.free n × (carved_list h.free n ≡ h.free)) (λ p. IsCarved h.free (carved_list h.free n) n p)
        → MatchOption o (IsNotTaken h h n) (λ p. IsTakenPool h (after_take h n (Some p)) n p)
    found None room k = record { same = refl; why = inr k.0 }
    found (Some p) room k = taken_at h n p pool room k

    choose : (b : Bool) → ((b ≡ true) × (room_of h < 128)) ⊎ ((b ≡ false) × (128 ≤ room_of h)) → (o : Option Prefix)
        → MatchOption o (HasNoFree h.free n × (carved_list h.free n ≡ h.free)) (λ p. IsCarved h.free (carved_list h.free n) n p)
        → MatchOption (cond b None o) (IsNotTaken h h n) (λ p. IsTakenPool h (after_take h n (Some p)) n p)
    choose true (inl t) o k = record { same = refl; why = inl t.1 }
    choose true (inr t) o k = absurd (cc)
    choose false (inl t) o k = absurd (cc)
    choose false (inr t) o k = found o t.1 k

pub take_answers : (h : Holding) (n : ℕ) → IsPool h → 1 ≤ n → n ≤ 128
    → MatchOption (take_reply h n) (IsNotTaken h (after_take h n (take_reply h n)) n) (λ p. IsTaken h (after_take h n (take_reply h n)) n p)
take_answers h n pool some most = choose (take_reply h n) (take_parts h n pool some most)
  where
    choose : (o : Option Prefix) → MatchOption o (IsNotTaken h h n) (λ p. IsTakenPool h (after_take h n (Some p)) n p)
        → MatchOption o (IsNotTaken h (after_take h n o) n) (λ p. IsTaken h (after_take h n o) n p)
    choose None k = k
    choose (Some p) k = k.taken

pub take_keeps : (h : Holding) (n : ℕ) → IsPool h → 1 ≤ n → n ≤ 128 → IsPool (after_take h n (take_reply h n))
take_keeps h n pool some most = choose (take_reply h n) (take_parts h n pool some most)
  where
    choose : (o : Option Prefix) → MatchOption o (IsNotTaken h h n) (λ p. IsTakenPool h (after_take h n (Some p)) n p) → IsPool (after_take h n o)
    choose None k = pool
    choose (Some p) k = k.pool

-- where the list has a part of this length, and there is room
module _ (h : Holding) (n : ℕ) (p : Prefix) (pool : IsPool h) (some : 1 ≤ n) (most : n ≤ 128) where
  part_carved : lowest_free h.free n ≡ Some p → IsCarved h.free (carved_list h.free n) n p
  part_carved e = subst (λ o. MatchOption o (HasNoFree h.free n × (carved_list h.free n ≡ h.free)) (λ q. IsCarved h.free (carved_list h.free n) n q)) e (lowest_carved h.free n pool.free some most)

  pub took_new : lowest_free h.free n ≡ Some p → (q : Prefix) → Contains h.reserved q → ¬ (q.address ≡ p.address)
  took_new e = reserved_address h pool p (part_carved e).least.free

  pub took_keeps : 128 ≤ room_of h → lowest_free h.free n ≡ Some p → IsPool (after_take h n (Some p))
  took_keeps room e = (taken_at h n p pool room (part_carved e)).pool

module _ (h : Holding) (p : Prefix) (pool : IsPool h) (has : Contains h.reserved p) where
  fewer : length (without p.address h.reserved) + 1 ≡ length h.reserved
  fewer = without_length p h.reserved has

  grown : IsMerged h.free p (merge p.length p h.free)
  grown = let le : p.length ≤ p.length = omega arith in merged p.length p h.free le pool.free (pool.valid p (inl has)) (listed_apart h pool p (inl has))

  pub back_means : GivesBack h (after_back h p) p
  back_means = record { was = has; free = grown.covers; reserved = without_members p h.reserved pool.reserved has; doubtful = refl }

  pub back_keeps : IsPool (after_back h p)
  back_keeps =
      let a : length (merge p.length p h.free) ≤ length h.free + 1 = grown.few
      in let b : length (without p.address h.reserved) + 1 ≡ length h.reserved = fewer
      in let c : (length h.free + length h.reserved) + length h.doubtful ≤ 4096 = pool.few
      in back_pool h (after_back h p) p pool back_means grown.tidy (without_rising p h.reserved pool.reserved has) (omega arith)

  pub confirm_means : Confirms h (after_confirm h p) p
  confirm_means = record { was = has; free = refl; reserved = without_members p h.reserved pool.reserved has; doubtful = refl }

  pub confirm_keeps : IsPool (after_confirm h p)
  confirm_keeps =
      let b : length (without p.address h.reserved) + 1 ≡ length h.reserved = fewer
      in let c : (length h.free + length h.reserved) + length h.doubtful ≤ 4096 = pool.few
      in confirmed_pool h (after_confirm h p) p pool confirm_means (without_rising p h.reserved pool.reserved has) (omega arith)

  pub doubt_means : Doubts h (after_doubt h p) p
  doubt_means = record { was = has; free = refl; reserved = without_members p h.reserved pool.reserved has; doubtful = add_members p h.doubtful }

  pub doubt_keeps : IsPool (after_doubt h p)
  doubt_keeps =
      let b : length (without p.address h.reserved) + 1 ≡ length h.reserved = fewer
      in let d : length (add p h.doubtful) ≡ length h.doubtful + 1 = add_length p h.doubtful
      in let c : (length h.free + length h.reserved) + length h.doubtful ≤ 4096 = pool.few
      in doubted_pool h (after_doubt h p) p pool doubt_means (without_rising p h.reserved pool.reserved has)
      (add_rising p h.doubtful pool.doubtful (doubtful_address h pool p has)) (omega arith)

module _ (h : Holding) (p : Prefix) (pool : IsPool h) (has : Contains h.doubtful p) where
  settled : IsMerged h.free p (merge p.length p h.free)
  settled = let le : p.length ≤ p.length = omega arith in merged p.length p h.free le pool.free (pool.valid p (inr has)) (listed_apart h pool p (inr has))

  pub settle_means : Settles h (after_settle h p) p
  settle_means = record { was = has; free = settled.covers; reserved = refl; doubtful = without_members p h.doubtful pool.doubtful has }

  pub settle_keeps : IsPool (after_settle h p)
  settle_keeps =
      let a : length (merge p.length p h.free) ≤ length h.free + 1 = settled.few
      in let b : length (without p.address h.doubtful) + 1 ≡ length h.doubtful = without_length p h.doubtful has
      in let c : (length h.free + length h.reserved) + length h.doubtful ≤ 4096 = pool.few
      in settled_pool h (after_settle h p) p pool settle_means settled.tidy (without_rising p h.doubtful pool.doubtful has) (omega arith)

module _ (h : Holding) (p : Prefix) (pool : IsPool h) (valid : IsValid p) (new : IsNew h p) where
  gained : IsMerged h.free p (merge p.length p h.free)
  gained = let le : p.length ≤ p.length = omega arith in merged p.length p h.free le pool.free valid (λ q k a i j. new.free a j (q, k, i))

  pub gain_means : Gains h (after_gain h p) p
  gain_means = record { was = new; free = gained.covers; reserved = refl; doubtful = refl }

  pub gain_keeps : 0 < room_of h → IsPool (after_gain h p)
  gain_keeps room =
      let a : length (merge p.length p h.free) ≤ length h.free + 1 = gained.few
      in let c : (length h.free + length h.reserved) + length h.doubtful ≤ 4096 = pool.few
      in gained_pool h (after_gain h p) p pool gain_means gained.tidy (omega arith)
