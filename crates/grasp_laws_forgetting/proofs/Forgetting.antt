-- What the disks of a network don't forget.
use Rattle.std.proofs.Common.{◌≡◌, inl, inr, ℕ, ◌+◌, ◌-◌, ◌<◌, ◌^◌, ◌++◌, Bool, true, false, List, Contains, length, Option, Some, refl, sym, ◌∙◌, ap, subst, arith}
use Rattle.std.proofs.lemmas.List.Elements.{All-weaker}
use Rattle.std.proofs.lemmas.Option.{same_Some}
use Rattle.grasp_agent.specs.Kept.{IsKept}
use Rattle.grasp_agent.specs.Replies.{after_reply}
use Rattle.grasp_agent.specs.States.{AgentState}
use Rattle.grasp_disk.specs.Memory.{all_kept, left_by, written_by}
use Rattle.grasp_disk.specs.declared.left.Left.{Left}
use Rattle.grasp_laws_kept.specs.Disks.{DiskStands}
use Rattle.grasp_laws_kept.specs.Laws.{KeptStands}
use Rattle.grasp_laws_kept.proofs.Agents.{AgentGoes}
use Rattle.grasp_laws_kept.proofs.Around.{call_leaves, cut_leaves}
use Rattle.grasp_laws_kept.proofs.Putting.{HasEither, Puts, before_puts}
use Rattle.grasp_laws_kept.proofs.Runs.{kept_states_stand}
use Rattle.grasp_laws_kept.proofs.Steps.{goes, good_then, kept_in, member_there, reached_then}
use Rattle.grasp_laws_store.proofs.Ordering.{images_are_in_order}
use Rattle.grasp_model_kept.specs.Crashing.{CallOccurs, is_cut, made_cut, world_cut}
use Rattle.grasp_model_kept.specs.Disks.{asked_before, asked_behind, asked_here, present_seat, roots_of}
use Rattle.grasp_model_kept.specs.Runs.{kept_states}
use Rattle.grasp_model_kept.specs.World.{KeptState, disk_of, first_kept}
use Rattle.grasp_model_network.specs.Events.{Occurs, after_event}
use Rattle.grasp_model_network.specs.Plans.{IsNode}
use Rattle.grasp_model_network.specs.Runs.{IsReached}
use Rattle.grasp_model_network.specs.Setting.{Setting}
use Rattle.grasp_model_network.specs.Visits.{Choice}
use Rattle.grasp_model_network.specs.World.{Seat, WorldState, present_life, seat_at}
use Rattle.grasp_model_network.specs.declared.event.Event.TheVariants as event
use Rattle.grasp_pool.specs.Holdings.{Holding}
use Rattle.grasp_pool.specs.Listings.{all_of}
use Rattle.grasp_pool.specs.Spans.{Covers}
use Rattle.grasp_pool.specs.declared.image.PoolImage.{PoolImage}
use Rattle.grasp_pool.specs.declared.roots.RootPrefix.{RootPrefix}
use Rattle.grasp_store.specs.Current.{image_on}
use Rattle.grasp_store.specs.Images.{IsGoodImage, image_before, image_of}
use Rattle.grasp_store.specs.Saving.{before_calls, first_calls}
use Rattle.grasp_types.specs.Prefix.{AddressBlock as Prefix}
use Rattle.grasp_laws_forgetting.specs.Accepted.{Accepts, AcceptedAreKept, KeepsAccepted}
use Rattle.grasp_laws_forgetting.specs.Forgetting.{ForgetsNothing, NothingIsForgotten}
use Rattle.grasp_laws_forgetting.proofs.Replies.{HasAll, accepted_before, before_has, before_of, behind_has, behind_of, replied_has}

-- one of two images is there, and both have all of the pool
either_has : (roots : List RootPrefix) (content : List ℕ) (old new : PoolImage) (most : ℕ) (pool : Holding) → HasEither roots old new most content → HasAll old pool → HasAll new pool
    → HasAll (image_on roots content) pool
either_has roots content old new most pool is first second x has = elim is.image [
  | inl same ↦ subst (λ (i : PoolImage). Covers (all_of i) x) (sym same) (first x has)
  | inr same ↦ subst (λ (i : PoolImage). Covers (all_of i) x) (sym same) (second x has)
]

module _ (s : Setting) (k : KeptState) (most : ℕ) (stands : KeptStands s most k) (below : most + 2 < 2 ^ 64 - 1) (node : ℕ) (member : IsNode (length s.members) node)
    (seat : Seat) (here : present_seat k.world node ≡ Some seat) where
  abbrev w : WorldState
  w = k.world

  abbrev roots : List RootPrefix
  roots = roots_of s node

  abbrev bytes : List ℕ
  bytes = disk_of k.disks node

  abbrev a : AgentState
  a = seat.agent

  kept : IsKept seat.agent
  kept = kept_in s k most stands below k.world stands.reached node seat here

  ready : IsGoodImage (image_before seat.agent)
  ready = (images_are_in_order.before seat.agent kept).good

  stood : DiskStands roots bytes a.pool most
  stood = stands.disks.each node seat member here

  -- ---- before the call

  puts : Puts roots (all_kept bytes) (before_calls bytes a) (image_of a.pool) (image_before a) (most + 1)
  puts = before_puts roots (all_kept bytes) refl a stood.holds most stood.number (omega (arith, below)) ready

  saved : image_on roots (written_by bytes (asked_here k node)) ≡ image_before a
  saved = subst (λ (o : Option Seat). image_on roots (written_by bytes (asked_before bytes o)) ≡ image_before a) (sym here) puts.holds.has

  pub keeps_accepted : (p : Prefix) → Accepts seat.agent p → Contains (image_on (roots_of s node) (written_by (disk_of k.disks node) (asked_here k node))).doubtful p
  keeps_accepted p is = subst (λ (i : PoolImage). Contains i.doubtful p) (sym saved) (accepted_before seat.agent p is)

  -- ---- a crash

  module _ (calls : ℕ) (left : Left) (c : Choice) where
    -- what is left, where the disk stops before the call or doesn't
    abbrev content : Bool → List ℕ
    content b = left_by left bytes (made_cut s k node calls c b)

    abbrev Forgets : Bool → Type 0
    Forgets b = (then : Seat) → present_seat (world_cut s k.world node c b) node ≡ Some then → HasAll (image_on roots (content b)) then.agent.pool

    cut_has : HasEither roots (image_of a.pool) (image_before a) (most + 1) (content true)
    cut_has =
        subst (λ (o : Option Seat). HasEither roots (image_of a.pool) (image_before a) (most + 1) (left_by left bytes (first_calls calls (asked_before bytes o)))) (sym here)
        (cut_leaves roots bytes a most stood below ready left (length (asked_before bytes (Some seat)) - calls))

    cut_forgets : Forgets true
    cut_forgets then is =
        subst (λ (t : Seat). HasAll (image_on roots (content true)) t.agent.pool) (same_Some seat then (sym here ∙ is))
        (either_has roots (content true) (image_of a.pool) (image_before a) (most + 1) a.pool cut_has (behind_has a kept) (before_has a kept))

    module _ (o : Occurs s k.world (event.Agent node false) c) where
      abbrev x : WorldState
      x = after_event s w (event.Agent node false) c

      reached_x : IsReached s x
      reached_x = reached_then s k most stands below (event.Agent node false) c o

      module _ (then : Seat) (is : present_seat x node ≡ Some then) where
        kept_then : IsKept then.agent
        kept_then = kept_in s k most stands below x reached_x node then is

        good : IsGoodImage (image_of then.agent.pool)
        good = good_then s k most stands below (event.Agent node false) c o node then is

        -- what is left where the agent was there and then
        abbrev left_both : Option Seat → Option Seat → List ℕ
        left_both p q = left_by left bytes (first_calls (calls - length (asked_before bytes p)) (asked_behind roots (written_by bytes (asked_before bytes p)) q) ++ asked_before bytes p)

        call_has : HasEither roots (image_before a) (image_of then.agent.pool) (most + 1 + 1) (content false)
        call_has =
            subst (λ (p : Option Seat). HasEither roots (image_before a) (image_of then.agent.pool) (most + 1 + 1) (left_both p (present_seat x node))) (sym here)
            (subst (λ (q : Option Seat). HasEither roots (image_before a) (image_of then.agent.pool) (most + 1 + 1) (left_both (Some seat) q)) (sym is)
            (call_leaves roots bytes a most stood below ready then.agent good left
            (length (asked_behind roots (written_by bytes (asked_before bytes (Some seat))) (Some then)) - (calls - length (asked_before bytes (Some seat))))))

        -- the image under which the call was made has all that the agent then has
        under_has : HasAll (image_before seat.agent) then.agent.pool
        under_has = by_agent (goes s k most stands below (event.Agent node false) c o node then is) where
          same_seat : (z : Seat) → seat_at w (present_life w node) ≡ Some z → z ≡ seat
          same_seat z there = same_Some z seat (sym there ∙ here)

          by_agent : AgentGoes w (event.Agent node false) (present_life w node) then.agent → HasAll (image_before seat.agent) then.agent.pool
          by_agent (AgentGoes.stays z there same) =
              subst (λ (b : AgentState). HasAll (image_before seat.agent) b.pool) (sym (ap (λ (t : Seat). t.agent) (same_seat z there)) ∙ same) (before_has seat.agent kept)
          by_agent (AgentGoes.replies n z r named life there same) =
              subst (λ (b : AgentState). HasAll (image_before seat.agent) b.pool) (sym (same ∙ ap (λ (t : Seat). after_reply t.agent r) (same_seat z there))) (replied_has seat.agent r kept)
          by_agent (AgentGoes.is_told n named life) = absurd named

        call_forgets : HasAll (image_on roots (content false)) then.agent.pool
        call_forgets = either_has roots (content false) (image_before a) (image_of then.agent.pool) (most + 1 + 1) then.agent.pool call_has under_has (behind_has then.agent kept_then)

    pub forgets : (b : Bool) → CallOccurs s k.world node c b → (then : Seat) → present_seat (world_cut s k.world node c b) node ≡ Some then
        → HasAll (image_on (roots_of s node) (left_by left (disk_of k.disks node) (made_cut s k node calls c b))) then.agent.pool
    forgets true o then is = cut_forgets then is
    forgets false o then is = call_forgets o then is

-- ---- in each state

state_keeps : (s : Setting) (k : KeptState) → KeptStands s (2 ^ 33) k → KeepsAccepted s k
state_keeps s k stands node seat p member here is = keeps_accepted s k (2 ^ 33) stands (omega arith) node member seat here p is

state_forgets : (s : Setting) (k : KeptState) → KeptStands s (2 ^ 33) k → ForgetsNothing s k
state_forgets s k stands node calls left c then x (member, o) is has =
    let was : (seat : Seat) × (present_seat k.world node ≡ Some seat) = member_there s k.world stands.reached node member in
    forgets s k (2 ^ 33) stands (omega arith) node member was.0 was.1 calls left c (is_cut k node calls) o then is x has

pub accepted_are_kept : AcceptedAreKept
accepted_are_kept = record {
  before = λ a kept. before_of a kept;
  behind = λ a kept. behind_of a kept;
  accepted = accepted_before;
  disks = λ s hs good short run. All-weaker (KeptStands s (2 ^ 33)) (KeepsAccepted s) (state_keeps s) (kept_states s (first_kept s) hs) (kept_states_stand s hs good short run);
}

pub nothing_is_forgotten : NothingIsForgotten
nothing_is_forgotten s hs good short run = All-weaker (KeptStands s (2 ^ 33)) (ForgetsNothing s) (state_forgets s) (kept_states s (first_kept s) hs) (kept_states_stand s hs good short run)
