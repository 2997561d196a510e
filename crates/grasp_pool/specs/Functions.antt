-- What the calls answer and leave, as functions of the rising lists. Laws say what each means for the addresses.
use Rattle.std.specs.Prelude.{ℕ, zero, suc, ◌+◌, ◌-◌, List, [], ◌∷◌, Option, Some, None, is_some, map, if◌then◌else◌, nat_le, nat_lt, ◌==◌, ◌%◌, ◌&&◌, Bool, true, false}
use Rattle.grasp_pool.specs.Spans.{size}
use Rattle.grasp_types.specs.Prefix.{AddressBlock as Prefix}
use Rattle.grasp_pool.specs.Canonical.{lower, upper}
use Rattle.grasp_pool.specs.Holdings.{Holding}
use Rattle.grasp_pool.specs.Parts.{first_part}
use Rattle.grasp_pool.specs.declared.image.PoolImage.{PoolImage}
use Rattle.grasp_pool.specs.declared.roots.RootPrefix.{RootPrefix}
use Rattle.grasp_pool.specs.Roots.{block_of}
use Rattle.grasp_pool.specs.Pools.{room_of, entries}

-- the list with p at its place
unfoldable pub add : Prefix → List Prefix → List Prefix
add p [] = p ∷ []
add p (q ∷ qs) = if nat_lt p.address q.address then p ∷ q ∷ qs else q ∷ add p qs

-- the list without the prefix at this address
unfoldable pub without : ℕ → List Prefix → List Prefix
without a [] = []
without a (q ∷ qs) = if q.address == a then qs else q ∷ without a qs

-- the half of a prefix that has this address, and the other one
abbrev pub half_at : Prefix → ℕ → Prefix
half_at w a = if nat_lt a (upper w).address then lower w else upper w

abbrev pub half_off : Prefix → ℕ → Prefix
half_off w a = if nat_lt a (upper w).address then upper w else lower w

-- halving w n times, keeping the half that has the address: each other half goes into the list
unfoldable pub split_at : ℕ → Prefix → ℕ → List Prefix → List Prefix
split_at zero w a ps = ps
split_at (suc n) w a ps = split_at n (half_at w a) a (add (half_off w a) ps)

-- the first of the list with at most this length
unfoldable pub wide : List Prefix → ℕ → Option Prefix
wide [] n = None
wide (q ∷ qs) n = if nat_le q.length n then Some q else wide qs n

-- the part of this length at its first address
abbrev pub head_part : Option Prefix → ℕ → Option Prefix
head_part None n = None
head_part (Some w) n = Some (first_part w n)

-- the list without that part
abbrev pub rest_of : List Prefix → ℕ → Option Prefix → List Prefix
rest_of ps n None = ps
rest_of ps n (Some w) = split_at (n - w.length) w w.address (without w.address ps)

-- the prefix of this length with the least address whose addresses are all covered
abbrev pub lowest_free : List Prefix → ℕ → Option Prefix
lowest_free ps n = head_part (wide ps n) n

-- the list without it
abbrev pub carved_list : List Prefix → ℕ → List Prefix
carved_list ps n = rest_of ps n (wide ps n)

-- what `take` answers
abbrev pub take_reply : Holding → ℕ → Option Prefix
take_reply h n = if nat_lt (room_of h) 128 then None else lowest_free h.free n

-- the pool after `take`
abbrev pub after_take : Holding → ℕ → Option Prefix → Holding
after_take h n None = h
after_take h n (Some p) = record { free = carved_list h.free n; reserved = add p h.reserved; doubtful = h.doubtful }

-- how far its first address is from that of its parent
abbrev pub offset_of : Prefix → ℕ
offset_of p = p.address % (size p + size p)

-- the prefix of which p is one half
abbrev pub parent_of : Prefix → Prefix
parent_of p = record { address = p.address - offset_of p; length = p.length - 1 }

-- the other half
abbrev pub buddy_of : Prefix → Prefix
buddy_of p = record { address = (p.address - offset_of p) + (size p - offset_of p); length = p.length }

-- p is in the list
unfoldable pub has : List Prefix → Prefix → Bool
has [] p = false
has (q ∷ qs) p = if (q.address == p.address) && (q.length == p.length) then true else has qs p

-- p's buddy is in the list, and the two make up a prefix
abbrev pub joins : List Prefix → Prefix → Bool
joins ps p = if nat_le 2 p.length then has ps (buddy_of p) else false

-- p goes into the list, joined with its buddies in at most n steps
unfoldable pub merge : ℕ → Prefix → List Prefix → List Prefix
merge zero p ps = add p ps
merge (suc n) p ps = if joins ps p then merge n (parent_of p) (without (buddy_of p).address ps) else add p ps

-- the list with p joined in
abbrev pub join : Prefix → List Prefix → List Prefix
join p ps = merge p.length p ps

-- the list with these prefixes put in so, one after the other
unfoldable pub each : (Prefix → List Prefix → List Prefix) → List Prefix → List Prefix → List Prefix
each put [] ps = ps
each put (q ∷ qs) ps = each put qs (put q ps)

-- the pool that is opened with these roots
abbrev pub pool_of : List RootPrefix → Holding
pool_of roots = record { free = each join (map block_of roots) []; reserved = []; doubtful = [] }

-- the pool that is opened with this image
abbrev pub pool_of_image : PoolImage → Holding
pool_of_image image = record { free = each join image.free []; reserved = []; doubtful = each add image.doubtful [] }

-- the pool after `give_back`, `confirm`, `doubt`, `settle`, and `gain` where it succeeds
abbrev pub after_back : Holding → Prefix → Holding
after_back h p = record { free = merge p.length p h.free; reserved = without p.address h.reserved; doubtful = h.doubtful }

abbrev pub after_confirm : Holding → Prefix → Holding
after_confirm h p = record { free = h.free; reserved = without p.address h.reserved; doubtful = h.doubtful }

abbrev pub after_doubt : Holding → Prefix → Holding
after_doubt h p = record { free = h.free; reserved = without p.address h.reserved; doubtful = add p h.doubtful }

abbrev pub after_settle : Holding → Prefix → Holding
after_settle h p = record { free = merge p.length p h.free; reserved = h.reserved; doubtful = without p.address h.doubtful }

abbrev pub after_gain : Holding → Prefix → Holding
after_gain h p = record { free = merge p.length p h.free; reserved = h.reserved; doubtful = h.doubtful }

-- the two have an address in common
abbrev pub overlap_test : Prefix → Prefix → Bool
overlap_test q p = nat_lt q.address (p.address + size p) && nat_lt p.address (q.address + size q)

-- one of the list overlaps p
unfoldable pub any_overlaps : List Prefix → Prefix → Bool
any_overlaps [] p = false
any_overlaps (q ∷ qs) p = if overlap_test q p then true else any_overlaps qs p

-- p overlaps no entry of the pool, which has room
abbrev pub can_gain : Holding → Prefix → Bool
can_gain h p = if any_overlaps (entries h) p then false else nat_lt 0 (room_of h)

-- the pool after `gain`, whether it succeeds or not
abbrev pub after_gaining : Holding → Prefix → Holding
after_gaining h p = if can_gain h p then after_gain h p else h

-- the first of the list that has an address in common with p; where it is no longer than p, it has all of p
unfoldable pub meeting : List Prefix → Prefix → Option Prefix
meeting [] p = None
meeting (q ∷ qs) p = if overlap_test q p then Some q else meeting qs p

-- the prefix, where it is no longer than p
abbrev pub no_longer : Prefix → Option Prefix → Option Prefix
no_longer p None = None
no_longer p (Some q) = if nat_le q.length p.length then Some q else None

-- the one of the list that has all of p
abbrev pub around : List Prefix → Prefix → Option Prefix
around ps p = no_longer p (meeting ps p)

-- the list without p, where this one of it has all of p
abbrev pub rest_at : List Prefix → Prefix → Option Prefix → List Prefix
rest_at ps p None = ps
rest_at ps p (Some w) = split_at (p.length - w.length) w p.address (without w.address ps)

-- what `take_at` answers
abbrev pub take_at_reply : Holding → Prefix → Bool
take_at_reply h p = if nat_lt (room_of h) 128 then false else is_some (around h.free p)

-- the pool after `take_at`
abbrev pub after_take_at : Holding → Prefix → Bool → Holding
after_take_at h p false = h
after_take_at h p true = record { free = rest_at h.free p (around h.free p); reserved = add p h.reserved; doubtful = h.doubtful }
