-- All of a prefix but a part of it goes into a list.
use Rattle.std.proofs.Common.{◌≡◌, ℕ, zero, suc, ◌+◌, ◌-◌, ◌<◌, ◌≤◌, ◌⊎◌, ◌↔◌, inl, inr, List, length, Contains, refl, sym, ◌∙◌, ap, subst, arith, Bool, true, false, cond, nat_lt}
use Rattle.grasp_types.specs.Prefix.{AddressBlock as Prefix, span_of}
use Rattle.grasp_pool.specs.Spans.{size, IsValid, Covers}
use Rattle.grasp_pool.specs.Canonical.{IsInside, IsTidy, lower, upper}
use Rattle.grasp_pool.specs.Parts.{ApartFrom, HasRoom, first_part}
use Rattle.grasp_pool.specs.Functions.{add, half_at, half_off, split_at}
use Rattle.grasp_pool.proofs.Addresses.{first_in}
use Rattle.grasp_pool.proofs.Cleaning.{added_clean, added_covers, new_address, buddy_alone, both_halves, halves_apart, same_then}
use Rattle.grasp_pool.proofs.Dyadic.{size_pos, same_prefix, size_halves, coarser, lower_valid, upper_valid, bounds_inside}
use Rattle.grasp_pool.proofs.Equal.{add_members, add_rising}
use Rattle.grasp_pool.proofs.Growing.{add_length}
use Rattle.grasp_pool.proofs.Lists.{lt_tells}
use Rattle.grasp_pool.proofs.Maximal.{nested_inside}
use Rattle.grasp_pool.proofs.Words.{AreHalves, IsAlone, IsSame}

-- one half of w, k, goes into the list, and h is left
pub record IsHalved (old : List Prefix) (w h k : Prefix) : Type 0 where
  pub tidy : IsTidy (add k old)
  pub apart : ApartFrom (add k old) h
  pub same : IsSame old w (add k old) h

module _ (ps : List Prefix) (w h k : Prefix) (are : AreHalves k (record { parent = w; buddy = h })) (v : IsValid k) (apart : ApartFrom ps w) where
  both : (a : ℕ) → span_of w a ↔ (span_of k a ⊎ span_of h a)
  both = both_halves k (record { parent = w; buddy = h }) are v.most

  away : ApartFrom ps k
  away q m a i j = apart q m a i ((both a).1 (inl j))

  alone : IsAlone ps k
  alone = buddy_alone ps k (record { parent = w; buddy = h }) are v.most (λ m. apart h m h.address (first_in h) ((both h.address).1 (inr (first_in h))))

  others : (a : ℕ) → span_of k a → ¬ span_of h a
  others a i j = elim are.halves [
    | inl e ↦ halves_apart w a (subst (λ x. span_of x a) e.0 i) (subst (λ x. span_of x a) e.1 j)
    | inr e ↦ halves_apart w a (subst (λ x. span_of x a) e.1 j) (subst (λ x. span_of x a) e.0 i)
  ]

  covers : (a : ℕ) → Covers (add k ps) a ↔ (Covers ps a ⊎ span_of k a)
  covers = added_covers ps (add k ps) k (add_members k ps)

  -- no entry begins where the half does that goes into the list
  pub half_new : (q : Prefix) → Contains ps q → ¬ (q.address ≡ k.address)
  half_new = new_address ps k away

  pub halved : IsTidy ps → IsHalved ps w h k
  halved tidy = record {
    tidy = record { clean = added_clean ps (add k ps) k tidy.clean (add_members k ps) v away alone; rising = add_rising k ps tidy.rising half_new };
    apart = λ q m a i j. elim ((add_members k ps q).0 m) [
      | inl m' ↦ apart q m' a i ((both a).1 (inr j))
      | inr e ↦ others a (subst (λ x. span_of x a) e i) j
    ];
    same = λ a. (
      λ s. elim s [
        | inl c ↦ elim ((covers a).0 c) [ inl c' ↦ inl c' | inr i ↦ inr ((both a).1 (inl i)) ]
        | inr i ↦ inr ((both a).1 (inr i))
      ],
      λ s. elim s [
        | inl c ↦ inl ((covers a).1 (inl c))
        | inr i ↦ elim ((both a).0 i) [ inl x ↦ inl ((covers a).1 (inr x)) | inr x ↦ inr x ]
      ],
    );
  }

-- the half h that has an address, and the other one, k
pub record AreParts (w h k : Prefix) : Type 0 where
  pub halves : AreHalves k (record { parent = w; buddy = h })
  pub valid : IsValid h
  pub other : IsValid k
  pub longer : h.length ≡ w.length + 1

module _ (w : Prefix) (v : IsValid w) (short : w.length < 128) where
  pub lower_parts : AreParts w (lower w) (upper w)
  lower_parts = record { halves = record { valid = v; length = refl; halves = inr (refl, refl) }; valid = lower_valid w short v; other = upper_valid w short v; longer = refl }

  pub upper_parts : AreParts w (upper w) (lower w)
  upper_parts = record { halves = record { valid = v; length = refl; halves = inl (refl, refl) }; valid = upper_valid w short v; other = lower_valid w short v; longer = refl }

  pub parts_at : (a : ℕ) → AreParts w (half_at w a) (half_off w a)
  parts_at a = by (nat_lt a (upper w).address)
    where
      by : (b : Bool) → AreParts w (cond b (lower w) (upper w)) (cond b (upper w) (lower w))
      by true = lower_parts
      by false = upper_parts

  -- where a longer prefix lies in w, it lies in the half that has its first address
  pub inside_half : (p : Prefix) → IsValid p → w.length < p.length → IsInside p w → IsInside p (half_at w p.address)
  inside_half p u long inside = by (nat_lt p.address (upper w).address) (lt_tells p.address (upper w).address)
    where
      by : (b : Bool) → ((b ≡ true) × (p.address < (upper w).address)) ⊎ ((b ≡ false) × ((upper w).address ≤ p.address)) → IsInside p (cond b (lower w) (upper w))
      by true (inl t) =
          let b : w.address ≤ p.address = (bounds_inside p w inside).0
          in nested_inside (lower w) p p.address (lower_valid w short v) u (omega arith) (b, t.1) (first_in p)
      by true (inr t) = absurd (cc)
      by false (inl t) = absurd (cc)
      by false (inr t) =
          let b : p.address + size p ≤ w.address + size w = (bounds_inside p w inside).1
          in let s : size w ≡ size (lower w) + size (lower w) = size_halves w short
          in let pos : 0 < size p = size_pos p
          in nested_inside (upper w) p p.address (upper_valid w short v) u (omega arith) (t.1, omega arith) (first_in p)

-- one step down, as the code takes it
pub split_step : (n f : ℕ) (w h : Prefix) (a : ℕ) (ps ps' ps'' : List Prefix) → n ≡ suc f → h ≡ half_at w a → ps' ≡ add (half_off w a) ps → ps'' ≡ split_at f h a ps' → ps'' ≡ split_at n w a ps
unfolding split_at
split_step n f w h a ps ps' ps'' e is was b = b ∙ ap (λ x. split_at f x a ps') is ∙ ap (λ l. split_at f (half_at w a) a l) was ∙ ap (λ m. split_at m w a ps) (sym e)

pub split_none : (n : ℕ) (w : Prefix) (a : ℕ) (ps : List Prefix) → n ≡ 0 → ps ≡ split_at n w a ps
unfolding split_at
split_none n w a ps e = ap (λ m. split_at m w a ps) (sym e)

-- all of w but p can go into the list
pub record CanSplit (ps : List Prefix) (w p : Prefix) : Type 0 where
  pub tidy : IsTidy ps
  pub room : HasRoom ps (p.length - w.length)
  pub valid : IsValid w
  pub longer : w.length ≤ p.length
  pub apart : ApartFrom ps w

-- and after a step still
pub split_on : (ps ps' : List Prefix) (w h p : Prefix) (a : ℕ) → CanSplit ps w p → w.length < p.length → p.length ≤ 128 → h ≡ half_at w a → ps' ≡ add (half_off w a) ps
    → CanSplit ps' h p × (p.length - h.length < p.length - w.length)
split_on ps ps' w h p a can long most is was =
    let short : w.length < 128 = omega arith
    in let k : Prefix = half_off w a
    in let parts : AreParts w (half_at w a) k = parts_at w can.valid short a
    in let half : IsHalved ps w (half_at w a) k = halved ps w (half_at w a) k parts.halves parts.other can.apart can.tidy
    in let l : (half_at w a).length ≡ w.length + 1 = parts.longer
    in let more : length (add k ps) ≡ length ps + 1 = add_length k ps
    in let room : HasRoom ps (p.length - w.length) = can.room
    in let to : CanSplit (add k ps) (half_at w a) p = record { tidy = half.tidy; room = omega arith; valid = parts.valid; longer = omega arith; apart = half.apart }
    in let to' : CanSplit ps' h p = subst (λ x. CanSplit ps' x p) (sym is) (subst (λ xs. CanSplit xs (half_at w a) p) (sym was) to)
    in let l' : h.length ≡ (half_at w a).length = ap (λ (x : Prefix). x.length) is
    in (to', omega arith)

-- the list with all of w but p
pub record IsSplit (old : List Prefix) (w p : Prefix) (new : List Prefix) (n : ℕ) : Type 0 where
  pub tidy : IsTidy new
  pub apart : ApartFrom new p
  pub same : IsSame old w new p
  pub more : length new ≡ length old + n

pub split_makes : (n : ℕ) (w p : Prefix) (ps : List Prefix) → w.length + n ≡ p.length → IsTidy ps → IsValid w → IsValid p → IsInside p w → ApartFrom ps w
    → IsSplit ps w p (split_at n w p.address ps) n
unfolding split_at
split_makes zero w p ps e tidy v u inside apart =
    let b : (w.address ≤ p.address) × (p.address + size p ≤ w.address + size w) = bounds_inside p w inside
    in let l : w.length ≡ p.length = omega arith
    in let s : size w ≡ size p = ap (λ (q : ℕ). Rattle.grasp_types.specs.Prefix.size_of q) l
    in let same : w ≡ p = same_prefix w p (omega arith) l
    in subst (λ q. IsSplit ps w q ps 0) same (record { tidy = tidy; apart = apart; same = λ a. (λ x. x, λ x. x); more = omega arith })
split_makes (suc n) w p ps e tidy v u inside apart =
    let most : p.length ≤ 128 = u.most
    in let short : w.length < 128 = omega arith
    in let h : Prefix = half_at w p.address
    in let k : Prefix = half_off w p.address
    in let parts : AreParts w h k = parts_at w v short p.address
    in let half : IsHalved ps w h k = halved ps w h k parts.halves parts.other apart tidy
    in let longer : h.length ≡ w.length + 1 = parts.longer
    in let s : IsSplit (add k ps) h p (split_at n h p.address (add k ps)) n
    = split_makes n h p (add k ps) (omega arith) half.tidy parts.valid u (inside_half w v short p u (omega arith) inside) half.apart
    in let added : length (add k ps) ≡ length ps + 1 = add_length k ps
    in let more : length (split_at n h p.address (add k ps)) ≡ length (add k ps) + n = s.more
    in record { tidy = s.tidy; apart = s.apart; same = same_then ps (add k ps) (split_at n h p.address (add k ps)) w h p half.same s.same; more = omega arith }

-- the part of w at its first address, as the code makes it
pub part_is : (w p : Prefix) (a n : ℕ) → p ≡ record { address = a; length = n } → a ≡ w.address → p ≡ first_part w n
part_is w p a n e f = e ∙ same_prefix (record { address = a; length = n }) (first_part w n) f refl

-- and it is a prefix inside
module _ (w : Prefix) (n : ℕ) (v : IsValid w) (short : w.length ≤ n) (most : n ≤ 128) where
  pub part_valid : IsValid (first_part w n)
  part_valid =
      let least : 1 ≤ w.length = v.least
      in record { least = omega arith; most = most; aligned = coarser w (first_part w n) w.address short most v.aligned; within = v.within }

  pub part_inside : IsInside (first_part w n) w
  part_inside = nested_inside w (first_part w n) w.address v part_valid short (first_in w) (first_in (first_part w n))
