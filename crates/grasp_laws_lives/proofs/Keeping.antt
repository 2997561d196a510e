-- A life's disk has the image of the agent's pool, and what a crash leaves of it may open the agent anew.
use Rattle.std.proofs.Common.{◌≡◌, inl, inr, refl, sym, ap, ◌∙◌, subst, arith, ℕ, ◌+◌, ◌-◌, ◌*◌, ◌<◌, ◌≤◌, ◌^◌, ◌++◌, Bool, true, false, List, [], ◌∷◌, length, Result, Ok, Err}
use Rattle.std.specs.Prelude.{if◌then◌else◌}
use Rattle.grasp_agent.specs.Kept.{IsKept}
use Rattle.grasp_agent.specs.Reopening.{MayReopen}
use Rattle.grasp_agent.specs.Replies as agent
use Rattle.grasp_agent.specs.Replies.{after_reply, after_want, replied, want_reply}
use Rattle.grasp_agent.specs.States.{AgentState}
use Rattle.grasp_agent.specs.declared.want.WantFault.{WantFault}
use Rattle.grasp_disk.proofs.Moments.{moments_behind, state_made}
use Rattle.grasp_disk.specs.Calls.{DiskCall, DiskLog, DiskState, after_calls, bytes_of, state_of}
use Rattle.grasp_disk.specs.Crashes.{AtEachMoment, IsSettled}
use Rattle.grasp_laws_agent.proofs.LawKept.{kept_event, kept_reply}
use Rattle.grasp_laws_kept.proofs.Putting.{HasEither, Puts, before_puts, behind_puts}
use Rattle.grasp_laws_lives.proofs.Lives.{HasLengths, HaveLengths}
use Rattle.grasp_laws_lives.specs.Stores.{IsLeft, MayLeave, ahead, asked_around, asked_in, behind}
use Rattle.grasp_laws_members.specs.Acts.{Act, Taken, agent_after, agent_taking, agent_wanting, took, wanted}
use Rattle.grasp_laws_store.proofs.Ordering.{images_are_in_order}
use Rattle.grasp_laws_store.proofs.Reopening.{accepting_reopens, images_reopen, replies_reopen}
use Rattle.grasp_laws_store.specs.Ordering.{IsFitToKeep}
use Rattle.grasp_pool.specs.Holdings.{Holding}
use Rattle.grasp_pool.specs.declared.image.PoolImage.{PoolImage}
use Rattle.grasp_shelf.specs.Shelves.{kept_before, kept_behind}
use Rattle.grasp_store.specs.Current.{Holds, IsSound, current_in, image_on, number_of}
use Rattle.grasp_store.specs.Images.{image_before, image_of}
use Rattle.grasp_store.specs.Saving.{before_calls, behind_calls}
use Rattle.grasp_types.specs.declared.address.Locator.{Locator}
use Rattle.grasp_types.specs.declared.reply.Reply.{Reply}

-- ---- an agent and its disk

-- the agent is in order, all on its disk is synced, and the disk has the image of its pool, under a number of at most so much
pub record Keeps (a : AgentState) (s : DiskState) (most : ℕ) : Type 0 where
  pub kept : IsKept a
  pub settled : IsSettled s
  pub holds : Holds [] s.bytes (image_of a.pool)
  pub number : number_of (current_in s.bytes) ≤ most

-- what is left may open this agent anew
pub record Leaves (a : AgentState) (content : List ℕ) (most : ℕ) : Type 0 where
  pub sound : IsSound content
  pub may : MayReopen a (image_on [] content)
  pub fit : IsFitToKeep (image_on [] content)
  pub number : number_of (current_in content) ≤ most

pub keeps_more : (a : AgentState) (s : DiskState) (most more : ℕ) → most ≤ more → Keeps a s most → Keeps a s more
keeps_more a s most more le k = record { kept = k.kept; settled = k.settled; holds = k.holds; number = omega (arith, k.number, le) }

pub leaves_more : (a : AgentState) (content : List ℕ) (most more : ℕ) → most ≤ more → Leaves a content most → Leaves a content more
leaves_more a content most more le l = record { sound = l.sound; may = l.may; fit = l.fit; number = omega (arith, l.number, le) }

-- where the disk has one of two images, each of which may open the agent anew
either_leaves : (a : AgentState) (content : List ℕ) (old new : PoolImage) (most : ℕ) → HasEither [] old new most content → MayReopen a old → MayReopen a new → IsFitToKeep old → IsFitToKeep new
    → Leaves a content most
either_leaves a content old new most has may_old may_new fit_old fit_new = record {
  sound = has.sound;
  may = elim has.image [ inl same ↦ subst (MayReopen a) (sym same) may_old | inr same ↦ subst (MayReopen a) (sym same) may_new ];
  fit = elim has.image [ inl same ↦ subst IsFitToKeep (sym same) fit_old | inr same ↦ subst IsFitToKeep (sym same) fit_new ];
  number = has.number;
}

moments_leave : (s : DiskState) (calls : List DiskCall) (P : List ℕ → Type 0) (content : List ℕ) → AtEachMoment s calls P → MayLeave s calls content → P content
moments_leave s calls P content moments left = moments_behind s P calls moments left.later left.made left.all content left.becomes

-- ---- around a call of the agent

module _ (a : AgentState) (log : DiskLog) (most : ℕ) (k : Keeps a (state_of log) most) (below : most + 2 < 2 ^ 64 - 1) where
  puts_ahead : Puts [] (state_of log) (before_calls (bytes_of log) a) (image_of a.pool) (image_before a) (most + 1)
  puts_ahead = before_puts [] (state_of log) k.settled a k.holds most k.number (omega (arith, below)) (images_are_in_order.before a k.kept).good

  -- where the call isn't made
  pub ahead_leaves : (content : List ℕ) → MayLeave (state_of log) (before_calls (bytes_of log) a) content → Leaves a content (most + 1)
  ahead_leaves content left =
      either_leaves a content (image_of a.pool) (image_before a) (most + 1)
      (moments_leave (state_of log) (before_calls (bytes_of log) a) (HasEither [] (image_of a.pool) (image_before a) (most + 1)) content puts_ahead.moments left)
      (images_reopen a k.kept) (accepting_reopens a k.kept) (images_are_in_order.behind a k.kept) (images_are_in_order.before a k.kept)

  module _ (r : Reply) where
    abbrev b : AgentState
    b = after_reply a r

    kept_b : IsKept b
    kept_b = kept_reply a r k.kept

    abbrev stood : DiskLog
    stood = kept_before a log

    puts_behind : Puts [] (state_of stood) (behind_calls [] (bytes_of stood) b) (image_before a) (image_of b.pool) (most + 1 + 1)
    puts_behind =
        subst (λ (t : DiskState). Puts [] t (behind_calls [] t.bytes b) (image_before a) (image_of b.pool) (most + 1 + 1)) (sym (state_made log (before_calls (bytes_of log) a)))
        (behind_puts [] (after_calls (before_calls (bytes_of log) a) (state_of log)) puts_ahead.settled (image_before a) puts_ahead.holds (most + 1) puts_ahead.number (omega (arith, below)) b
        (images_are_in_order.behind b kept_b).good)

    -- where it was made
    pub behind_leaves : (content : List ℕ) → MayLeave (state_of (kept_before a log)) (behind_calls [] (bytes_of (kept_before a log)) (after_reply a r)) content
        → Leaves (after_reply a r) content (most + 2)
    behind_leaves content left =
        leaves_more b content (most + 1 + 1) (most + 2) (omega arith)
        (either_leaves b content (image_before a) (image_of b.pool) (most + 1 + 1)
        (moments_leave (state_of stood) (behind_calls [] (bytes_of stood) b) (HasEither [] (image_before a) (image_of b.pool) (most + 1 + 1)) content puts_behind.moments left)
        (replies_reopen a (replied r) k.kept tt) (images_reopen b kept_b) (images_are_in_order.before a k.kept) (images_are_in_order.behind b kept_b))

    pub call_keeps : Keeps (after_reply a r) (state_of (kept_behind (after_reply a r) (kept_before a log))) (most + 2)
    call_keeps =
        subst (λ (t : DiskState). Keeps b t (most + 2)) (sym (state_made stood (behind_calls [] (bytes_of stood) b)))
        (record { kept = kept_b; settled = puts_behind.settled; holds = puts_behind.holds; number = omega (arith, puts_behind.number) })

-- ---- an act

-- a want changes no pool
same_pool : (a : AgentState) (short longest : ℕ) (peer : Locator) (r : Result (Unit {0}) WantFault) → (after_want a short longest peer r).pool ≡ a.pool
same_pool a short longest peer (Ok done) = refl
same_pool a short longest peer (Err fault) = refl

want_keeps : (a : AgentState) (short longest : ℕ) (peer : Locator) (s : DiskState) (most : ℕ) → HasLengths (wanted short longest peer) → Keeps a s most → Keeps (agent_wanting a short longest peer) s most
want_keeps a short longest peer s most lengths k = record {
  kept = kept_event a (agent.wanted short longest peer) (lengths.least, lengths.rising, lengths.most) k.kept;
  settled = k.settled;
  holds = subst (λ (h : Holding). Holds [] s.bytes (image_of h)) (sym (same_pool a short longest peer (want_reply a))) k.holds;
  number = k.number;
}

took_keeps : (a : AgentState) (x : Taken) (log : DiskLog) (most : ℕ) → most + 2 < 2 ^ 64 - 1 → Keeps a (state_of log) most
    → Keeps (agent_taking a x) (state_of (asked_around a (took x) log)) (most + 2)
took_keeps a x log most below k = by_own x.own where
  by_own : (own : Bool) → Keeps (if own then after_reply a x.choice.reply else a) (state_of (if own then kept_behind (after_reply a x.choice.reply) (kept_before a log) else log)) (most + 2)
  by_own true = call_keeps a log most k below x.choice.reply
  by_own false = keeps_more a (state_of log) most (most + 2) (omega arith) k

-- ---- a life

pub life_keeps : (acts : List Act) (a : AgentState) (log : DiskLog) (most : ℕ) → HaveLengths acts → most + 2 * length acts < 2 ^ 64 - 1 → Keeps a (state_of log) most
    → Keeps (agent_after a acts) (state_of (asked_in a acts log)) (most + 2 * length acts)
life_keeps [] a log most lengths below k = keeps_more a (state_of log) most (most + 2 * length {A = Act} []) (omega arith) k
life_keeps (took x ∷ xs) a log most lengths below k =
    keeps_more (agent_after (agent_taking a x) xs) (state_of (asked_in (agent_taking a x) xs (asked_around a (took x) log))) (most + 2 + 2 * length xs) (most + 2 * length (took x ∷ xs)) (omega arith)
    (life_keeps xs (agent_taking a x) (asked_around a (took x) log) (most + 2) lengths.1 (omega (arith, below)) (took_keeps a x log most (omega (arith, below)) k))
life_keeps (wanted short longest peer ∷ xs) a log most lengths below k =
    keeps_more (agent_after (agent_wanting a short longest peer) xs) (state_of (asked_in (agent_wanting a short longest peer) xs log)) (most + 2 * length xs)
    (most + 2 * length (wanted short longest peer ∷ xs)) (omega arith)
    (life_keeps xs (agent_wanting a short longest peer) log most lengths.1 (omega (arith, below)) (want_keeps a short longest peer (state_of log) most lengths.0 k))

-- its last act is a call of the agent
after_call : (earlier : List Act) (a : AgentState) (x : Taken) → x.own ≡ true → agent_after a (earlier ++ took x ∷ []) ≡ after_reply (agent_after a earlier) x.choice.reply
after_call [] a x own = ap (λ (b : Bool). if b then after_reply a x.choice.reply else a) own
after_call (took y ∷ earlier) a x own = after_call earlier (agent_taking a y) x own
after_call (wanted short longest peer ∷ earlier) a x own = after_call earlier (agent_wanting a short longest peer) x own

longer : (earlier : List Act) (x : Act) → length (earlier ++ x ∷ []) ≡ length earlier + 1
longer [] x = refl
longer (y ∷ earlier) x = let e = longer earlier x in omega (arith, e)

front_lengths : (earlier : List Act) (x : Act) → HaveLengths (earlier ++ x ∷ []) → HaveLengths earlier
front_lengths [] x all = tt
front_lengths (y ∷ earlier) x all = (all.0, front_lengths earlier x all.1)

module _ (a : AgentState) (log : DiskLog) (acts : List Act) (content : List ℕ) (most : ℕ) (lengths : HaveLengths acts) (below : most + 2 * length acts + 2 < 2 ^ 64 - 1) (k : Keeps a (state_of log) most) where
  last_leaves : (earlier : List Act) (x : Taken) → acts ≡ earlier ++ took x ∷ [] → x.own ≡ true
      → MayLeave (state_of (kept_before (agent_after a earlier) (asked_in a earlier log)))
      (behind_calls [] (bytes_of (kept_before (agent_after a earlier) (asked_in a earlier log))) (after_reply (agent_after a earlier) x.choice.reply)) content
      → Leaves (agent_after a acts) content (most + 2 * length acts + 2)
  last_leaves earlier x is own left =
      let count : length acts ≡ length earlier + 1 = ap (λ (xs : List Act). length xs) is ∙ longer earlier (took x) in
      let earlier_lengths : HaveLengths earlier = front_lengths earlier (took x) (subst HaveLengths is lengths) in
      let stands : Keeps (agent_after a earlier) (state_of (asked_in a earlier log)) (most + 2 * length earlier) =
      life_keeps earlier a log most earlier_lengths (omega (arith, below, count)) k in
      let leaves : Leaves (after_reply (agent_after a earlier) x.choice.reply) content (most + 2 * length earlier + 2) =
      behind_leaves (agent_after a earlier) (asked_in a earlier log) (most + 2 * length earlier) stands (omega (arith, below, count)) x.choice.reply content left in
      leaves_more (agent_after a acts) content (most + 2 * length earlier + 2) (most + 2 * length acts + 2) (omega (arith, count))
      (subst (λ (b : AgentState). Leaves b content (most + 2 * length earlier + 2)) (sym (ap (agent_after a) is ∙ after_call earlier a x own)) leaves)

  pub life_leaves : IsLeft a log acts content → Leaves (agent_after a acts) content (most + 2 * length acts + 2)
  life_leaves (ahead left) =
      leaves_more (agent_after a acts) content (most + 2 * length acts + 1) (most + 2 * length acts + 2) (omega arith)
      (ahead_leaves (agent_after a acts) (asked_in a acts log) (most + 2 * length acts) (life_keeps acts a log most lengths (omega (arith, below)) k) (omega (arith, below)) content left)
  life_leaves (behind earlier x is own left) = last_leaves earlier x is own left
