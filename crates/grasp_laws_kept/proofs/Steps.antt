-- One event of a network whose nodes crash: it comes to turns, and then each disk has the image of its member's pool again.
use Rattle.std.proofs.Common.{◌≡◌, ◌≢◌, ◌⊎◌, inl, inr, ℕ, ◌+◌, ◌-◌, ◌<◌, ◌≤◌, ◌^◌, ◌++◌, List, length, Option, Some, sym, ◌∙◌, ap, subst, arith}
use Rattle.std.proofs.lemmas.Bool.{cases_eq}
use Rattle.grasp_disk.specs.Memory.{written_by}
use Rattle.grasp_agent.specs.Kept.{IsKept}
use Rattle.grasp_agent.specs.States.{AgentState}
use Rattle.grasp_pool.specs.declared.roots.RootPrefix.{RootPrefix}
use Rattle.grasp_pool.specs.Holdings.{Holding}
use Rattle.grasp_store.specs.Current.{Holds}
use Rattle.grasp_store.specs.Images.{IsGoodImage, image_of}
use Rattle.grasp_laws_agents.proofs.Reserving.{agents_are_kept}
use Rattle.grasp_laws_network.proofs.Going.{reached_more}
use Rattle.grasp_laws_network.proofs.Lists.{numbered_there}
use Rattle.grasp_laws_network.proofs.Lives.{same_present}
use Rattle.grasp_laws_network.proofs.LivesKept.{lives_are_kept}
use Rattle.grasp_laws_network.proofs.SameLives.{event_lives}
use Rattle.grasp_laws_store.proofs.Ordering.{images_are_in_order}
use Rattle.grasp_model_network.specs.Events.{Occurs, after_event}
use Rattle.grasp_model_network.specs.Plans.{IsNode}
use Rattle.grasp_model_network.specs.Runs.{IsReached}
use Rattle.grasp_model_network.specs.Setting.{Setting}
use Rattle.grasp_model_network.specs.Visits.{Choice}
use Rattle.grasp_model_network.specs.World.{Seat, WorldState, member_of, present_life, seat_at}
use Rattle.grasp_model_network.specs.declared.event.Event.{Event}
use Rattle.grasp_model_network.specs.declared.event.Event.TheVariants as event
use Rattle.grasp_model_kept.specs.Disks.{asked_before, asked_behind, disks_after, present_seat, roots_of}
use Rattle.grasp_model_kept.specs.World.{KeptState, disk_of, with_disk}
use Rattle.grasp_laws_kept.specs.Disks.{DiskStands, DisksStand}
use Rattle.grasp_laws_kept.specs.Laws.{KeptStands}
use Rattle.grasp_laws_kept.proofs.Agents.{AgentGoes, Calls, IsTold, agents_go}
use Rattle.grasp_laws_kept.proofs.Around.{call_stands, told_stands}
use Rattle.grasp_laws_kept.proofs.Disks.{disk_other, disk_put, length-with}

-- more may always be said
pub weaker : (roots : List RootPrefix) (bytes : List ℕ) (a b : AgentState) (most more : ℕ) → a.pool ≡ b.pool → most ≤ more → DiskStands roots bytes a.pool most → DiskStands roots bytes b.pool more
weaker roots bytes a b most more same le stands = record {
  holds = subst (λ (h : Holding). Holds roots bytes (image_of h)) same stands.holds;
  number = omega (arith, stands.number, le);
}

-- a network that turns lead to has each member in its present life
pub member_there : (s : Setting) (x : WorldState) → IsReached s x → (node : ℕ) → IsNode (length s.members) node → (seat : Seat) × (present_seat x node ≡ Some seat)
member_there s x r node member = numbered_there x.seats (present_life x node) ((lives_are_kept s x r).present node member)

-- members in one life are one
pub one_member : (s : Setting) (x : WorldState) → IsReached s x → (m n : ℕ) → IsNode (length s.members) m → IsNode (length s.members) n → present_life x m ≡ present_life x n → m ≡ n
one_member s x r m n is there same = sym ((lives_are_kept s x r).own m is) ∙ ap (λ (life : ℕ). member_of x life) same ∙ (lives_are_kept s x r).own n there

-- where these disks stand in this network, but for that of a member
abbrev pub OthersStand : Setting → WorldState → List (List ℕ) → ℕ → ℕ → Type 0
OthersStand s x disks node most = (n : ℕ) (seat : Seat) → IsNode (length s.members) n → n ≢ node → present_seat x n ≡ Some seat → DiskStands (roots_of s n) (disk_of disks n) seat.agent.pool most

-- they all stand once that one is put
pub put_stands : (s : Setting) (x : WorldState) (disks : List (List ℕ)) (node : ℕ) (bytes : List ℕ) (most : ℕ) → length disks ≡ length s.members → IsNode (length s.members) node → OthersStand s x disks node most
    → ((seat : Seat) → present_seat x node ≡ Some seat → DiskStands (roots_of s node) bytes seat.agent.pool most) → DisksStand s (record { world = x; disks = with_disk disks node bytes }) most
put_stands s x disks node bytes most count member others own = record {
  count = length-with disks node bytes ∙ count;
  each = λ n seat is here. elim (cases_eq n node) [
    | inl same ↦ at_own n seat same is here
    | inr apart ↦ subst (λ (b : List ℕ). DiskStands (roots_of s n) b seat.agent.pool most) (sym (disk_other disks node bytes n (subst (λ (c : ℕ). IsNode c n) (sym count) is) member.least apart)) (others n seat is apart here)
  ];
} where
  here_own : (seat : Seat) → present_seat x node ≡ Some seat → DiskStands (roots_of s node) (disk_of (with_disk disks node bytes) node) seat.agent.pool most
  here_own seat here = subst (λ (b : List ℕ). DiskStands (roots_of s node) b seat.agent.pool most) (sym (disk_put disks node bytes (subst (λ (c : ℕ). IsNode c node) (sym count) member))) (own seat here)

  at_own : (n : ℕ) (seat : Seat) → n ≡ node → IsNode (length s.members) n → present_seat x n ≡ Some seat → DiskStands (roots_of s n) (disk_of (with_disk disks node bytes) n) seat.agent.pool most
  at_own n seat same is here =
      subst (λ (m : ℕ). DiskStands (roots_of s m) (disk_of (with_disk disks node bytes) m) seat.agent.pool most) (sym same) (here_own seat (subst (λ (m : ℕ). present_seat x m ≡ Some seat) same here))

-- ---- an event

module _ (s : Setting) (k : KeptState) (most : ℕ) (stands : KeptStands s most k) (below : most + 2 < 2 ^ 64 - 1) where
  abbrev w : WorldState
  w = k.world

  pub kept_in : (x : WorldState) → IsReached s x → (node : ℕ) (seat : Seat) → present_seat x node ≡ Some seat → IsKept seat.agent
  kept_in x r node seat here = agents_are_kept s x r (present_life x node) seat here

  module _ (e : Event) (c : Choice) (o : Occurs s w e c) where
    abbrev x : WorldState
    x = after_event s w e c

    pub reached_then : IsReached s x
    reached_then = reached_more s w e c stands.reached o

    same_life : (node : ℕ) → present_life x node ≡ present_life w node
    same_life node = same_present w x node (event_lives s w e c)

    pub goes : (node : ℕ) (seat : Seat) → present_seat x node ≡ Some seat → AgentGoes w e (present_life w node) seat.agent
    goes node seat here = agents_go s w e c (present_life w node) seat (subst (λ (n : ℕ). seat_at x n ≡ Some seat) (same_life node) here)

    pub good_then : (node : ℕ) (seat : Seat) → present_seat x node ≡ Some seat → IsGoodImage (image_of seat.agent.pool)
    good_then node seat here = (images_are_in_order.behind seat.agent (kept_in x reached_then node seat here)).good

    -- a member that the event doesn't name has its disk
    unnamed : (node : ℕ) (seat : Seat) → IsNode (length s.members) node → present_seat x node ≡ Some seat
        → ((n : ℕ) → Calls e n ⊎ IsTold e n → IsNode (length s.members) n × (node ≢ n)) → DiskStands (roots_of s node) (disk_of k.disks node) seat.agent.pool (most + 2)
    unnamed node seat member here apart = by_agent (goes node seat here) where
      by_agent : AgentGoes w e (present_life w node) seat.agent → DiskStands (roots_of s node) (disk_of k.disks node) seat.agent.pool (most + 2)
      by_agent (AgentGoes.stays old there same) =
          weaker (roots_of s node) (disk_of k.disks node) old.agent seat.agent most (most + 2) (ap (λ (a : AgentState). a.pool) same) (omega arith) (stands.disks.each node old member there)
      by_agent (AgentGoes.replies n old r named is there same) = absurd ((apart n (inl named)).1 (one_member s w stands.reached node n member (apart n (inl named)).0 is))
      by_agent (AgentGoes.is_told n named is) = absurd ((apart n (inr named)).1 (one_member s w stands.reached node n member (apart n (inr named)).0 is))

    quiet : ((n : ℕ) → Calls e n ⊎ IsTold e n → ⊥) → DisksStand s (record { world = x; disks = k.disks }) (most + 2)
    quiet none = record { count = stands.disks.count; each = λ node seat member here. unnamed node seat member here (λ n named. absurd (none n named)) }

    pub others : (node : ℕ) → IsNode (length s.members) node → ((n : ℕ) → Calls e n ⊎ IsTold e n → node ≡ n) → OthersStand s x k.disks node (most + 2)
    others node member only n seat is apart here =
        unnamed n seat is here (λ m named. (subst (λ (i : ℕ). IsNode (length s.members) i) (only m named) member, λ same. apart (same ∙ sym (only m named))))

    -- ---- a call of an agent

    module _ (node : ℕ) (member : IsNode (length s.members) node) (seat : Seat) (here : present_seat x node ≡ Some seat) where
      abbrev roots : List RootPrefix
      roots = roots_of s node

      abbrev bytes : List ℕ
      bytes = disk_of k.disks node

      abbrev Around : Option Seat → Option Seat → Type 0
      Around o p = DiskStands roots (written_by bytes (asked_behind roots (written_by bytes (asked_before bytes o)) p ++ asked_before bytes o)) seat.agent.pool (most + 2)

      called : (old : Seat) → present_seat w node ≡ Some old → Around (present_seat w node) (present_seat x node)
      called old was =
          subst (λ (o : Option Seat). Around o (present_seat x node)) (sym was)
          (subst (λ (p : Option Seat). Around (Some old) p) (sym here)
          (call_stands roots bytes old.agent most (stands.disks.each node old member was) below (images_are_in_order.before old.agent (kept_in w stands.reached node old was)).good seat.agent (good_then node seat here)))

      told : (old : Seat) → present_seat w node ≡ Some old → DiskStands roots (written_by bytes (asked_behind roots bytes (present_seat x node))) seat.agent.pool (most + 2)
      told old was =
          subst (λ (p : Option Seat). DiskStands roots (written_by bytes (asked_behind roots bytes p)) seat.agent.pool (most + 2)) (sym here)
          (told_stands roots bytes old.agent most (stands.disks.each node old member was) below seat.agent (good_then node seat here))

  -- ---- each event

  by_event : (e : Event) (c : Choice) → Occurs s w e c → DisksStand s (record { world = after_event s w e c; disks = disks_after s k e (after_event s w e c) }) (most + 2)
  by_event (event.Agent node hold) c o =
      let was : (old : Seat) × (present_seat w node ≡ Some old) = member_there s w stands.reached node o.fit in
      put_stands s (after_event s w (event.Agent node hold) c) k.disks node _ (most + 2) stands.disks.count o.fit
      (others (event.Agent node hold) c o node o.fit (λ n named. elim named [ inl is ↦ is | inr none ↦ absurd none ]))
      (λ seat here. called (event.Agent node hold) c o node o.fit seat here was.0 was.1)
  by_event (event.Want node short longest peer) c o =
      let was : (old : Seat) × (present_seat w node ≡ Some old) = member_there s w stands.reached node o.fit.0 in
      put_stands s (after_event s w (event.Want node short longest peer) c) k.disks node _ (most + 2) stands.disks.count o.fit.0
      (others (event.Want node short longest peer) c o node o.fit.0 (λ n named. elim named [ inl none ↦ absurd none | inr is ↦ is ]))
      (λ seat here. told (event.Want node short longest peer) c o node o.fit.0 seat here was.0 was.1)
  by_event (event.Return node prefix peer) c o =
      let was : (old : Seat) × (present_seat w node ≡ Some old) = member_there s w stands.reached node o.fit.0 in
      put_stands s (after_event s w (event.Return node prefix peer) c) k.disks node _ (most + 2) stands.disks.count o.fit.0
      (others (event.Return node prefix peer) c o node o.fit.0 (λ n named. elim named [ inl none ↦ absurd none | inr is ↦ is ]))
      (λ seat here. told (event.Return node prefix peer) c o node o.fit.0 seat here was.0 was.1)
  by_event (event.Clock node millis) c o = quiet (event.Clock node millis) c o (λ n named. elim named [ inl none ↦ none | inr none ↦ none ])
  by_event (event.Api node asa call hold) c o = quiet (event.Api node asa call hold) c o (λ n named. elim named [ inl none ↦ none | inr none ↦ none ])
  by_event (event.Datagram index hold) c o = quiet (event.Datagram index hold) c o (λ n named. elim named [ inl none ↦ none | inr none ↦ none ])
  by_event (event.Arrive stream hold) c o = quiet (event.Arrive stream hold) c o (λ n named. elim named [ inl none ↦ none | inr none ↦ none ])
  by_event (event.Bytes stream far count hold) c o = quiet (event.Bytes stream far count hold) c o (λ n named. elim named [ inl none ↦ none | inr none ↦ none ])
  by_event (event.Cut stream far hold) c o = quiet (event.Cut stream far hold) c o (λ n named. elim named [ inl none ↦ none | inr none ↦ none ])
  by_event (event.Drain node max) c o = quiet (event.Drain node max) c o (λ n named. elim named [ inl none ↦ none | inr none ↦ none ])

  pub plain_stands : (e : Event) (c : Choice) → Occurs s k.world e c → KeptStands s (most + 2) (record { world = after_event s k.world e c; disks = disks_after s k e (after_event s k.world e c) })
  plain_stands e c o = record { reached = reached_more s w e c stands.reached o; disks = by_event e c o }
