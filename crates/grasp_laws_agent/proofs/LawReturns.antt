-- How prefixes are given back.
use Rattle.std.proofs.Common.{◌≡◌, ◌⊎◌, inl, inr, ℕ, zero, suc, ◌+◌, ◌-◌, ◌<◌, ◌≤◌, ◌==◌, ◌&&◌, nat_lt, Bool, true, false, cond, List, [], ◌∷◌, ◌++◌, length, slice_get, is_some, is_none, Option, Some, None, Result, Ok, Err, refl, sym, ap, subst, ◌∙◌, arith}
use Rattle.std.proofs.lemmas.Bool.{and_parts, eqb-true}
use Rattle.std.proofs.lemmas.Bool.Decides.{eqb_tells}
use Rattle.std.proofs.lemmas.Option.{none-some, same_Some as some_same, slice_get_cases}
use Rattle.grasp_cbor.proofs.Again.{data_items-items_in}
use Rattle.grasp_cbor.proofs.Takes.{chosen}
use Rattle.grasp_cbor.specs.DataItem.{DataItem, simple_value, array, items_in, array_of}
use Rattle.grasp_types.specs.Objective.{IsValue}
use Rattle.grasp_types.specs.Prefix.{AddressBlock as Prefix, IsPrefix}
use Rattle.grasp_types.specs.declared.address.Locator.{Locator}
use Rattle.grasp_types.specs.declared.refusal.ApiRefused.TheVariants as refusal
use Rattle.grasp_types.specs.declared.reply.Reply.{Reply}
use Rattle.grasp_types.specs.declared.reply.Reply.TheVariants as reply
use Rattle.grasp_types.specs.declared.session.Handle.{Handle}
use Rattle.grasp_pool.specs.Pools.{IsPool, IsTakenAt, room_of}
use Rattle.grasp_pool.specs.Functions.{around, take_at_reply, after_take_at}
use Rattle.grasp_pool.proofs.Lists.{lt_tells}
use Rattle.grasp_pool.proofs.Meanings.{settle_means}
use Rattle.grasp_pool.proofs.TakingAt.{take_at_takes, free_is}
use Rattle.grasp_agent.specs.Calls.{objective_name, return_call, next_call}
use Rattle.grasp_agent.specs.Replies.{return_reply, after_return, is_again, after_reply}
use Rattle.grasp_agent.specs.States.{AgentState, want_session, back_session, one_of, duties_before, giving_duty, back_duty, want_duty, duty_at}
use Rattle.grasp_agent.specs.Values.{length_at, address_at, prefix_in, offered_in, is_true_item, is_true_in, returned_in}
use Rattle.grasp_agent.specs.declared.back.Return.{Return}
use Rattle.grasp_agent.specs.declared.back.ReturnFault.{ReturnFault}
use Rattle.grasp_agent.specs.declared.back.ReturnFault.TheVariants as fault
use Rattle.grasp_agent.specs.declared.duty.Duty.{Duty}
use Rattle.grasp_agent.specs.declared.duty.Duty.TheVariants as duty
use Rattle.grasp_agent.specs.declared.giving.Giving.{Giving}
use Rattle.grasp_agent.specs.declared.stage.Stage.TheVariants.{Serving}
use Rattle.grasp_agent.specs.declared.want.Want.{Want}
use Rattle.grasp_agent.proofs.Reading.{prefixes_are_read, return_again}
use Rattle.grasp_laws_agent.specs.Returns.{returning_item, ReturnsAreRead, IsAllFree, IsAnswered, Leaves, ReturnsAreAnswered, HasAsked, WantsAreRequested, ReturnsAreRequested, session_duty, want_duties, return_duties, giving_duties, duty_list, DutiesAreInOrder, SettlingsSettle, IsPassing, RefusalsAreRepeated}

-- ---- values

true_item : (t : DataItem) → is_true_item t ≡ true → t ≡ simple_value 21
true_item (simple_value n) h = ap simple_value (eqb-true n 21 h)
true_item _ h = absurd (cc)

-- the parts of a value that gives a prefix back: behind those of an offer stands true
record IsGivenBack (ts : List DataItem) (p : Prefix) : Type 0 where
  length : DataItem
  address : DataItem
  are : ts ≡ length ∷ address ∷ simple_value 21 ∷ []
  offers : prefix_in (length_at (length ∷ address ∷ [])) (address_at (length ∷ address ∷ [])) ≡ Some p

three_parts : (ts : List DataItem) (p : Prefix) → length ts ≡ 3 → is_true_in (slice_get ts 2) ≡ true
    → prefix_in (length_at ts) (address_at ts) ≡ Some p → IsGivenBack ts p
three_parts (t ∷ u ∷ w ∷ []) p is last made = record { length = t; address = u; are = ap (λ x. t ∷ u ∷ x ∷ []) (true_item w last); offers = made }
three_parts [] p is last made = absurd (omega arith)
three_parts (t ∷ []) p is last made = absurd (omega arith)
three_parts (t ∷ u ∷ []) p is last made = absurd (omega arith)
three_parts (t ∷ u ∷ w ∷ x ∷ ts) p is last made = absurd (omega arith)

back_parts : (ts : List DataItem) (p : Prefix)
    → cond (length ts == 3 && is_true_in (slice_get ts 2)) (prefix_in (length_at ts) (address_at ts)) None ≡ Some p → IsGivenBack ts p
back_parts ts p h = elim (chosen (length ts == 3 && is_true_in (slice_get ts 2)) (prefix_in (length_at ts) (address_at ts)) None (Some p) h) [
  | inl w ↦ let b = and_parts (length ts == 3) (is_true_in (slice_get ts 2)) w.0 in three_parts ts p (eqb-true (length ts) 3 b.0) b.1 w.1
  | inr w ↦ absurd (none-some p w.1)
]

giving : (v : DataItem) (p : Prefix) → returned_in (Some v) ≡ Some p → (ts : List DataItem) × (v ≡ array_of ts) × IsGivenBack ts p
unfolding returned_in
giving (array ts) p h = (items_in ts, ap array (sym (data_items-items_in ts)), back_parts (items_in ts) p h)
giving _ p h = absurd (none-some p h)

offer_value : (t u : DataItem) → IsValue (array_of (t ∷ u ∷ simple_value 21 ∷ [])) → IsValue (array_of (t ∷ u ∷ []))
offer_value t u v = record { within = v.within; encodable = (omega arith, (v.encodable.1.0, (v.encodable.1.1.0, tt))) }

made_offer : (t u : DataItem) (p : Prefix) → prefix_in (length_at (t ∷ u ∷ [])) (address_at (t ∷ u ∷ [])) ≡ Some p
    → offered_in (Some (array_of (t ∷ u ∷ []))) ≡ Some p
unfolding offered_in
made_offer t u p h = h

-- the parts behind which true stands
and_true : DataItem → DataItem
and_true (array ts) = by (items_in ts) where
  by : List DataItem → DataItem
  by (t ∷ u ∷ []) = array_of (t ∷ u ∷ simple_value 21 ∷ [])
  by _ = array ts
and_true t = t

return_read : (v : DataItem) (p : Prefix) → IsValue v → returned_in (Some v) ≡ Some p → IsPrefix p.address p.length × (v ≡ returning_item p)
unfolding and_true
return_read v p value h =
    let a = giving v p h in
    let g = a.2 in
    let is : v ≡ array_of (g.length ∷ g.address ∷ simple_value 21 ∷ []) = a.1 ∙ ap array_of g.are in
    let offer = offer_value g.length g.address (subst IsValue is value) in
    let read = (prefixes_are_read (array_of (g.length ∷ g.address ∷ [])) p offer).0 (made_offer g.length g.address p g.offers) in
    (read.0, is ∙ ap and_true read.1)

returned_none : returned_in None ≡ None
unfolding returned_in
returned_none = refl

pub returns_are_read : ReturnsAreRead
returns_are_read = (λ v p value. (return_read v p value, λ h. ap (λ t. returned_in (Some t)) h.1 ∙ return_again p h.0), returned_none)

-- ---- the beginning of a return

-- the answers exclude each other
only : (s : AgentState) (p : Prefix) (x y : Result (Unit {0}) ReturnFault) → IsAnswered s p x → IsAnswered s p y → x ≡ y
only s p (Ok a) (Ok b) h k = refl
only s p (Ok a) (Err (fault.Busy q)) h k = absurd (none-some k.0 (sym h.0 ∙ k.1))
only s p (Ok a) (Err fault.NotFree) h k = absurd (k.1 h.1)
only s p (Ok a) (Err fault.Full) h k = absurd (omega arith)
only s p (Err (fault.Busy q)) (Ok b) h k = absurd (none-some h.0 (sym k.0 ∙ h.1))
only s p (Err (fault.Busy q)) (Err (fault.Busy r)) h k =
    ap (λ z. Err (fault.Busy z)) (sym h.2 ∙ ap (λ (z : Return). z.prefix) (some_same h.0 k.0 (sym h.1 ∙ k.1)) ∙ k.2)
only s p (Err (fault.Busy q)) (Err fault.NotFree) h k = absurd (none-some h.0 (sym k.0 ∙ h.1))
only s p (Err (fault.Busy q)) (Err fault.Full) h k = absurd (none-some h.0 (sym k.0 ∙ h.1))
only s p (Err fault.NotFree) (Ok b) h k = absurd (h.1 k.1)
only s p (Err fault.NotFree) (Err (fault.Busy r)) h k = absurd (none-some k.0 (sym h.0 ∙ k.1))
only s p (Err fault.NotFree) (Err fault.NotFree) h k = refl
only s p (Err fault.NotFree) (Err fault.Full) h k = absurd (h.1 k.1)
only s p (Err fault.Full) (Ok b) h k = absurd (omega arith)
only s p (Err fault.Full) (Err (fault.Busy r)) h k = absurd (none-some k.0 (sym h.0 ∙ k.1))
only s p (Err fault.Full) (Err fault.NotFree) h k = absurd (k.1 h.1)
only s p (Err fault.Full) (Err fault.Full) h k = refl

-- an answer, with what it leaves
abbrev Answers : AgentState → Prefix → Result (Unit {0}) ReturnFault → Type 0
Answers s p x = IsAnswered s p x × ((peer : Locator) → Leaves s (after_return s p peer x) p peer x)

answers : (s : AgentState) (b : Option Return) (p : Prefix) → IsPool s.pool → IsPrefix p.address p.length
    → Answers (record s { back = b }) p (return_reply (record s { back = b }) p)
answers s (Some r) p pool v = ((r, refl, refl), λ peer. refl)
answers s None p pool v = by (around s.pool.free p) refl (nat_lt (room_of s.pool) 128) refl (lt_tells (room_of s.pool) 128)
  where
    free : (o : Option Prefix) → around s.pool.free p ≡ o → is_some o ≡ true → IsAllFree s.pool p
    free o e some = (free_is s.pool p pool v).0 (ap is_some e ∙ some)

    taken : (w : Prefix) → around s.pool.free p ≡ Some w → nat_lt (room_of s.pool) 128 ≡ false → IsTakenAt s.pool (after_take_at s.pool p true) p
    taken w e room =
        let takes : take_at_reply s.pool p ≡ true = rw (room, e) refl in
        subst (λ b. IsTakenAt s.pool (after_take_at s.pool p b) p) takes (take_at_takes s.pool p pool v takes)

    by : (o : Option Prefix) → around s.pool.free p ≡ o → (b : Bool) → nat_lt (room_of s.pool) 128 ≡ b
        → ((b ≡ true) × (room_of s.pool < 128)) ⊎ ((b ≡ false) × (128 ≤ room_of s.pool))
        → Answers (record s { back = None }) p (cond (is_none o) (Err fault.NotFree) (cond b (Err fault.Full) (Ok tt)))
    by None e b f room = ((refl, λ all. let some : is_some (around s.pool.free p) ≡ true = (free_is s.pool p pool v).1 all in absurd (cc)), λ peer. refl)
    by (Some w) e true f (inl room) = ((refl, free (Some w) e refl, room.1), λ peer. refl)
    by (Some w) e true f (inr room) = absurd (cc)
    by (Some w) e false f (inl room) = absurd (cc)
    by (Some w) e false f (inr room) = ((refl, free (Some w) e refl, room.1), λ peer. record { reserves = (taken w e f).reserves; begun = refl; same = refl })

pub returns_are_answered : ReturnsAreAnswered
returns_are_answered s p pool v =
    let a : Answers s p (return_reply s p) = answers s s.back p pool v in
    (λ x. (λ e. subst (IsAnswered s p) e a.0, λ h. only s p (return_reply s p) x a.0 h), a.1)

-- ---- requests

pub wants_are_requested : WantsAreRequested
unfolding next_call objective_name
wants_are_requested s w serves idle wants new = rw (serves, idle, wants, new) refl

returning : (s : AgentState) (r : Return) (o : Option Want) → s.stage ≡ Serving → s.act ≡ None → s.want ≡ o → HasAsked o → s.back ≡ Some r → r.session ≡ None
    → next_call s ≡ return_call r
unfolding next_call
returning s r None serves idle none asked is new = rw (serves, idle, none, is, new) refl
returning s r (Some w) serves idle wants asked is new = by w.session refl
  where
    by : (o : Option Handle) → w.session ≡ o → next_call s ≡ return_call r
    by None e = absurd (asked e)
    by (Some h) e = rw (serves, idle, wants, e, is, new) refl

pub returns_are_requested : ReturnsAreRequested
unfolding objective_name
returns_are_requested s r serves idle asked is new = returning s r s.want serves idle refl asked is new

-- ---- duties

giving_count : (n : ℕ) (gs : List Giving) → length (giving_duties n gs) ≡ length gs
giving_count n [] = refl
giving_count n (g ∷ gs) = ap suc (giving_count (n + 1) gs)

giving_at : (n k m : ℕ) (gs : List Giving) (g : Giving) → m ≡ n + k → slice_get gs k ≡ Some g → slice_get (giving_duties n gs) k ≡ Some (duty.Give m g.handle)
giving_at n k m [] g is e = absurd (none-some g e)
giving_at n zero m (x ∷ gs) g is e =
    let same : n ≡ m = omega arith in
    ap (λ z. Some (duty.Give z x.handle)) same ∙ ap (λ (z : Giving). Some (duty.Give m z.handle)) (some_same x g e)
giving_at n (suc k) m (x ∷ gs) g is e = giving_at (n + 1) k m gs g (omega arith) e

-- past the first place
past_first : (d : Duty) (later : ℕ → Duty) (place : ℕ) → later place ≡ cond (suc place == 0) d (later (suc place - 1))
past_first d later place = elim (eqb_tells (suc place) 0) [
  | inl p ↦ let same : suc place ≡ 0 = p.1 in absurd (omega arith)
  | inr p ↦ let same : place ≡ suc place - 1 = omega arith in ap later same ∙ ap (λ b. cond b d (later (suc place - 1))) (sym p.0)
]

module _ (gs : List Giving) where
  at_giving : (place : ℕ) → place < length gs → slice_get (giving_duties 0 gs) place ≡ Some (giving_duty gs place)
  at_giving place lt = elim (slice_get_cases gs place).1 [
    | inl c ↦ giving_at 0 place place gs c.0 (omega arith) c.2 ∙ rw c.2 refl
    | inr past ↦ absurd (omega arith)
  ]

  at_back : (b : Option Handle) (place : ℕ) → place < one_of b + length gs
      → slice_get (session_duty duty.Return b ++ giving_duties 0 gs) place ≡ Some (back_duty b gs place)
  at_back None place lt = at_giving place (omega arith)
  at_back (Some h) zero lt = refl
  at_back (Some h) (suc place) lt = at_giving place (omega arith) ∙ ap Some (past_first (duty.Return h) (λ n. giving_duty gs n) place)

  at_want : (w b : Option Handle) (place : ℕ) → place < one_of w + (one_of b + length gs)
      → slice_get (session_duty duty.Want w ++ (session_duty duty.Return b ++ giving_duties 0 gs)) place ≡ Some (want_duty w b gs place)
  at_want None b place lt = at_back b place (omega arith)
  at_want (Some h) b zero lt = refl
  at_want (Some h) b (suc place) lt = at_back b place (omega arith) ∙ ap Some (past_first (duty.Want h) (λ n. back_duty b gs n) place)

  at_place : (w b : Option Handle) (place : ℕ) → place < duties_before w b + length gs
      → slice_get (duty.Listen ∷ (session_duty duty.Want w ++ (session_duty duty.Return b ++ giving_duties 0 gs))) place ≡ Some (duty_at w b gs place)
  at_place w b zero lt = refl
  at_place w b (suc place) lt = at_want w b place (omega arith) ∙ ap Some (past_first duty.Listen (λ n. want_duty w b gs n) place)

  counted : (w b : Option Handle)
      → length (duty.Listen ∷ (session_duty duty.Want w ++ (session_duty duty.Return b ++ giving_duties 0 gs))) ≡ duties_before w b + length gs
  counted w b = by w b (giving_count 0 gs)
    where
      by : (w b : Option Handle) → length (giving_duties 0 gs) ≡ length gs
          → length (duty.Listen ∷ (session_duty duty.Want w ++ (session_duty duty.Return b ++ giving_duties 0 gs))) ≡ duties_before w b + length gs
      by None None e = omega arith
      by None (Some h) e = omega arith
      by (Some h) None e = omega arith
      by (Some h) (Some k) e = omega arith

wants_same : (w : Option Want) → want_duties w ≡ session_duty duty.Want (want_session w)
wants_same None = refl
wants_same (Some w) = refl

returns_same : (r : Option Return) → return_duties r ≡ session_duty duty.Return (back_session r)
returns_same None = refl
returns_same (Some r) = refl

pub duties_are_in_order : DutiesAreInOrder
duties_are_in_order s =
    let is : duty_list s
    ≡ duty.Listen ∷ (session_duty duty.Want (want_session s.want) ++ (session_duty duty.Return (back_session s.back) ++ giving_duties 0 s.giving))
    = ap (λ x. duty.Listen ∷ (x ++ (return_duties s.back ++ giving_duties 0 s.giving))) (wants_same s.want)
    ∙ ap (λ x. duty.Listen ∷ (session_duty duty.Want (want_session s.want) ++ (x ++ giving_duties 0 s.giving))) (returns_same s.back)
    in (
      ap length is ∙ counted s.giving (want_session s.want) (back_session s.back),
      λ lt. ap (λ x. slice_get x s.cursor) is ∙ at_place s.giving (want_session s.want) (back_session s.back) s.cursor lt,
    )

-- ---- settlings

pub settlings_settle : SettlingsSettle
settlings_settle s p pool has = (settle_means s.pool p pool has, refl)

-- ---- calls that are made again

passing : (r : Reply) → is_again r ≡ true → IsPassing r
passing (reply.Refused refusal.OutboxFull) e = inl refl
passing (reply.Refused refusal.OutOfMemory) e = inr (inl refl)
passing reply.OutOfMemory e = inr (inr refl)
passing _ e = absurd (cc)

again : (r : Reply) → IsPassing r → is_again r ≡ true
again r h = elim h [ inl e ↦ ap is_again e | inr k ↦ elim k [ inl e ↦ ap is_again e | inr e ↦ ap is_again e ] ]

same_again : (r : Reply) (s : AgentState) → is_again r ≡ true → after_reply s r ≡ s
unfolding after_reply
same_again r s e = rw e refl

pub refusals_are_repeated : RefusalsAreRepeated
refusals_are_repeated r = ((passing r, again r), same_again r)
