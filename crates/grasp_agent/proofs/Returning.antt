-- What is true of every agent stays so where it gives a prefix back, and where a doubtful one is settled.
use Rattle.std.proofs.Common.{◌≡◌, inl, inr, ◌+◌, ◌-◌, ◌<◌, ◌≤◌, nat_lt, Bool, true, false, cond, [], ◌∷◌, ◌++◌, length, is_some, Option, Some, None, IfSome, Contains, refl, sym, ap, subst, arith}
use Rattle.grasp_types.specs.Prefix.{AddressBlock as Prefix, IsPrefix, span_of}
use Rattle.grasp_types.specs.declared.address.Locator.{Locator}
use Rattle.grasp_types.specs.declared.session.Handle.{Handle}
use Rattle.grasp_types.specs.declared.session.Outcome.{Outcome}
use Rattle.grasp_pool.specs.Holdings.{Holding, IsNew}
use Rattle.grasp_pool.specs.Pools.{IsPool, IsTakenAt, room_of}
use Rattle.grasp_pool.specs.Functions.{add, without, merge, around, rest_at, can_gain, take_at_reply, after_take_at, after_back, after_settle}
use Rattle.grasp_pool.proofs.Addresses.{first_in}
use Rattle.grasp_pool.proofs.Changes.{listed_apart}
use Rattle.grasp_pool.proofs.Gaining.{can_gain_tells, can_gain_so}
use Rattle.grasp_pool.proofs.Growing.{add_length, without_length, merged}
use Rattle.grasp_pool.proofs.Meanings.{settle_means, settle_keeps}
use Rattle.grasp_pool.proofs.TakingAt.{IsLeft, found_around, part_left, take_at_takes, take_at_keeps}
use Rattle.grasp_agent.specs.Kept.{offer_and, offers, returned, ActStands, IsKept}
use Rattle.grasp_agent.specs.Replies.{new_return, after_settling, settled}
use Rattle.grasp_agent.specs.States.{AgentState, is_open}
use Rattle.grasp_agent.specs.declared.act.Act.{Act}
use Rattle.grasp_agent.specs.declared.back.Return.{Return}
use Rattle.grasp_agent.proofs.Offers.{offer_in}
use Rattle.grasp_agent.proofs.OfferPools.{IsBacked, middle_reserved, backed_back, backed_settled}
use Rattle.grasp_agent.proofs.Keeping.{backed, kept_of, opened, stands_again, no_act}

-- ---- a prefix is reserved for a return

module _ (h : Holding) (p : Prefix) (pool : IsPool h) (v : IsPrefix p.address p.length) (takes : take_at_reply h p ≡ true) where
  taken : IsTakenAt h (after_take_at h p true) p
  taken = subst (λ b. IsTakenAt h (after_take_at h p b) p) takes (take_at_takes h p pool v takes)

  keeps : IsPool (after_take_at h p true)
  keeps = subst (λ b. IsPool (after_take_at h p b)) takes (take_at_keeps h p pool v)

  -- it was all free, so that it wasn't reserved
  was_new : ¬ Contains h.reserved p
  was_new c = pool.held p p.address (inl c) (first_in p) (taken.reserves.was p.address (first_in p))

  -- some room is left
  left_room : 0 < room_of (after_take_at h p true)
  left_room = by (nat_lt (room_of h) 128) (around h.free p) refl takes
    where
      by : (b : Bool) (o : Option Prefix) → around h.free p ≡ o → cond b false (is_some o) ≡ true
          → 0 < room_of (record { free = rest_at h.free p o; reserved = add p h.reserved; doubtful = h.doubtful })
      by true o e f = absurd (cc)
      by false None e f = absurd (cc)
      by false (Some w) e f =
          let l : IsLeft h.free p w (without w.address h.free) = part_left h.free p w pool.free v (found_around h.free p w pool.free v e)
          in let fewer : length (without w.address h.free) + 1 ≡ length h.free = l.fewer
          in let more : length (rest_at h.free p (Some w)) ≡ length (without w.address h.free) + (p.length - w.length) = l.split.more
          in let one : 1 ≤ w.length = l.valid.least
          in let most : p.length ≤ 128 = v.most
          in let added : length (add p h.reserved) ≡ length h.reserved + 1 = add_length p h.reserved
          in let room : 128 ≤ room_of h = taken.room
          in omega arith

  -- what could be gained still can
  still_gained : (q : Prefix) → can_gain h q ≡ true → can_gain (after_take_at h p true) q ≡ true
  still_gained q e =
      let new : IsNew h q = ((can_gain_tells h q).0 e).0
      in sym (can_gain_so (after_take_at h p true) q (record {
        free = λ a i c. new.free a i ((taken.reserves.free a).0 c).0;
        listed = λ r has. elim has [
          | inl c ↦ elim ((taken.reserves.reserved r).0 c) [
            | inl old ↦ new.listed r (inl old)
            | inr is ↦ λ a i j. new.free a i (taken.reserves.was a (subst (λ x. span_of x a) is j))
          ]
          | inr c ↦ new.listed r (inr c)
        ];
      }) left_room)

-- an agent that gives nothing back yet begins a return
pub kept_returning : (s : AgentState) (p : Prefix) (peer : Locator) (pool : Holding) → s.back ≡ None → IsPrefix p.address p.length → take_at_reply s.pool p ≡ true
    → pool ≡ after_take_at s.pool p true → IsKept s → IsKept (record s { pool = pool; back = Some (new_return p peer) })
kept_returning s p peer pool none v takes is k = subst (λ h. IsKept (record s { pool = h; back = Some (new_return p peer) })) (sym is) kept
  where
    by : (o : Option Act) → IfSome o (λ a. ActStands s a)
        → IfSome o (λ a. ActStands (record s { pool = after_take_at s.pool p true; back = Some (new_return p peer) }) a)
    by None stands = tt
    by (Some a) stands =
        stands_again s (record s { pool = after_take_at s.pool p true; back = Some (new_return p peer) })
        (still_gained s.pool p k.pool v takes) refl (λ h e. refl) (λ place g at. at) a stands

    kept : IsKept (record s { pool = after_take_at s.pool p true; back = Some (new_return p peer) })
    kept =
        let h : Holding = after_take_at s.pool p true
        in let b : IsBacked s.pool (offers s.giving) = subst (λ o. IsBacked s.pool (offer_and (returned o) (offers s.giving))) none (backed s k)
        in let r : IsTakenAt s.pool h p = taken s.pool p k.pool v takes
        in kept_of (record s { pool = h; back = Some (new_return p peer) })
        (record {
          pool = keeps s.pool p k.pool v takes;
          are = offer_in s.pool.reserved h.reserved [] (offers s.giving) p r.reserves.reserved (was_new s.pool p k.pool v takes) b.are;
        }) k.few k.first k.want (λ shut. ((k.idle shut).0, (k.idle shut).1, refl, (k.idle shut).3)) (by s.act k.act)

-- ---- a return ends

-- a return ends, where the sessions' offers are left
pub kept_ended : (s : AgentState) (pool : Holding) → s.act ≡ None → IsBacked pool (offers s.giving) → IsKept s → IsKept (record s { pool = pool; back = None })
kept_ended s pool idle b k =
    let t : AgentState = record s { pool = pool; back = None }
    in kept_of t b k.few k.first k.want (λ shut. ((k.idle shut).0, (k.idle shut).1, refl, idle)) (no_act t idle)

module _ (s : AgentState) (p : Prefix) (is : returned s.back ≡ Some p) (k : IsKept s) where
  -- the pool, with the return before the sessions' offers
  with_return : IsBacked s.pool ([] ++ p ∷ offers s.giving)
  with_return = subst (λ o. IsBacked s.pool (offer_and o (offers s.giving))) is (backed s k)

  -- what is given back is reserved
  pub returned_reserved : Contains s.pool.reserved p
  returned_reserved = middle_reserved s.pool [] (offers s.giving) p with_return

  -- a return that was never offered goes back
  pub kept_unsent : s.act ≡ None → IsKept (record s { back = None; pool = after_back s.pool p })
  kept_unsent idle = kept_ended s (after_back s.pool p) idle (backed_back s.pool [] (offers s.giving) p with_return) k

  -- its session ended
  pub kept_heard : (e : Outcome) → s.act ≡ None → IsKept (record s { pool = settled s.pool p e; back = None })
  kept_heard e idle = kept_ended s (settled s.pool p e) idle (backed_settled s.pool [] (offers s.giving) p with_return e) k

pub return_reserved : (s : AgentState) (r : Return) → s.back ≡ Some r → IsKept s → Contains s.pool.reserved r.prefix
return_reserved s r is k = returned_reserved s r.prefix (ap returned is) k

-- its session began
pub kept_handed : (s : AgentState) (r : Return) (h : Handle) → s.back ≡ Some r → s.act ≡ None → is_open s.stage ≡ true → IsKept s
    → IsKept (record s { back = Some (record r { session = Some h }) })
kept_handed s r h is idle serves k =
    let t : AgentState = record s { back = Some (record r { session = Some h }) }
    in kept_of t (with_return s r.prefix (ap returned is) k) k.few k.first k.want (opened s t serves) (no_act t idle)

-- ---- a doubtful prefix is settled

module _ (s : AgentState) (p : Prefix) (has : Contains s.pool.doubtful p) (k : IsKept s) where
  -- what could be gained still can
  gained_still : (q : Prefix) → can_gain s.pool q ≡ true → can_gain (after_settle s.pool p) q ≡ true
  gained_still q e =
      let told = (can_gain_tells s.pool q).0 e
      in let new : IsNew s.pool q = told.0
      in let means = settle_means s.pool p k.pool has
      in let v : IsPrefix p.address p.length = k.pool.valid p (inr has)
      in let le : p.length ≤ p.length = omega arith
      in let few : length (merge p.length p s.pool.free) ≤ length s.pool.free + 1
      = (merged p.length p s.pool.free le k.pool.free v (listed_apart s.pool k.pool p (inr has))).few
      in let fewer : length (without p.address s.pool.doubtful) + 1 ≡ length s.pool.doubtful = without_length p s.pool.doubtful has
      in let room : 0 < room_of s.pool = told.1
      in sym (can_gain_so (after_settle s.pool p) q (record {
        free = λ a i c. elim ((means.free a).0 c) [ inl old ↦ new.free a i old | inr in_p ↦ new.listed p (inr has) a i in_p ];
        listed = λ r listed. elim listed [ inl c ↦ new.listed r (inl c) | inr c ↦ new.listed r (inr ((means.doubtful r).0 c).0) ];
      }) (omega arith))

  pub kept_settling : IsKept (after_settling s p)
  kept_settling =
      kept_of (after_settling s p) (record { pool = settle_keeps s.pool p k.pool has; are = (backed s k).are }) k.few k.first k.want k.idle (by s.act k.act)
    where
      by : (o : Option Act) → IfSome o (λ a. ActStands s a) → IfSome o (λ a. ActStands (after_settling s p) a)
      by None stands = tt
      by (Some a) stands = stands_again s (after_settling s p) gained_still refl (λ h e. refl) (λ place g at. at) a stands
