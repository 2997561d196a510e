-- A node that crashes: it may begin anew with what the crash has left, and then each disk has the image of its member's pool again.
use Rattle.std.proofs.Common.{◌≡◌, inl, inr, ℕ, ◌+◌, ◌-◌, ◌<◌, ◌≤◌, ◌^◌, ◌++◌, ◌∷◌, Bool, true, false, List, [], length, Option, Some, refl, sym, ◌∙◌, ap, subst, arith}
use Rattle.std.proofs.lemmas.Option.{same_Some}
use Rattle.grasp_disk.specs.Memory.{left_by, written_by}
use Rattle.grasp_disk.specs.declared.left.Left.{Left}
use Rattle.grasp_agent.specs.Kept.{IsKept}
use Rattle.grasp_agent.specs.Reopening.{MayReopen}
use Rattle.grasp_agent.specs.Replies.{replied, after_reply}
use Rattle.grasp_agent.specs.States.{AgentState}
use Rattle.grasp_pool.specs.Functions.{pool_of_image}
use Rattle.grasp_pool.specs.declared.image.PoolImage.{PoolImage}
use Rattle.grasp_pool.specs.declared.roots.RootPrefix.{RootPrefix}
use Rattle.grasp_store.specs.Current.{IsSound, current_in, image_on, number_of}
use Rattle.grasp_store.specs.Images.{IsGoodImage, image_before, image_of}
use Rattle.grasp_laws_network.proofs.Begun.{begun_pool}
use Rattle.grasp_laws_network.proofs.Going.{restarted_reached}
use Rattle.grasp_laws_network.proofs.Lists.{numbered_there}
use Rattle.grasp_laws_network.proofs.Lives.{others_present}
use Rattle.grasp_laws_network.proofs.LivesKept.{lives_are_kept}
use Rattle.grasp_laws_network.proofs.TurnsDo.{restarts_begin_anew}
use Rattle.grasp_laws_network.specs.TurnsDo.{RestartDoes}
use Rattle.grasp_laws_store.specs.Ordering.{IsFitToKeep}
use Rattle.grasp_laws_store.proofs.Ordering.{images_are_in_order, pools_have_their_images}
use Rattle.grasp_laws_store.proofs.Reopening.{accepting_reopens, images_reopen, replies_reopen}
use Rattle.grasp_model_network.specs.Events.{Occurs, after_event}
use Rattle.grasp_model_network.specs.Openings.{opened_seat}
use Rattle.grasp_model_network.specs.Plans.{IsNode}
use Rattle.grasp_model_network.specs.Restarting.{MayRestart, after_restart}
use Rattle.grasp_model_network.specs.Runs.{IsReached}
use Rattle.grasp_model_network.specs.Setting.{Member, Setting, numbered}
use Rattle.grasp_model_network.specs.Turns.{AreTurns, TakenTurn, world_turned}
use Rattle.grasp_model_network.specs.Visits.{Choice, no_choice}
use Rattle.grasp_model_network.specs.World.{Seat, WorldState, present_life, seat_at}
use Rattle.grasp_model_network.specs.declared.event.Event.TheVariants as event
use Rattle.grasp_model_network.specs.declared.turn.Turn.TheVariants as turn
use Rattle.grasp_model_kept.specs.Crashing.{CallOccurs, made_cut, turns_cut, world_cut}
use Rattle.grasp_store.specs.Saving.{first_calls}
use Rattle.grasp_model_kept.specs.Disks.{asked_before, asked_behind, present_seat, roots_of}
use Rattle.grasp_model_kept.specs.World.{KeptState, disk_of, with_disk}
use Rattle.grasp_laws_kept.specs.Disks.{DiskStands}
use Rattle.grasp_laws_kept.specs.Laws.{KeptStands}
use Rattle.grasp_laws_kept.proofs.Agents.{AgentGoes}
use Rattle.grasp_laws_kept.proofs.Around.{call_leaves, cut_leaves}
use Rattle.grasp_laws_kept.proofs.Putting.{HasEither}
use Rattle.grasp_laws_kept.proofs.Steps.{OthersStand, goes, good_then, kept_in, member_there, one_member, others, put_stands, reached_then, weaker}

-- ---- a member begins anew with what is left on its disk

-- what is left may open the member's agent anew
record IsLeft (s : Setting) (x : WorldState) (node : ℕ) (seat : Seat) (content : List ℕ) (most : ℕ) : Type 0 where
  here : present_seat x node ≡ Some seat
  sound : IsSound content
  number : number_of (current_in content) ≤ most
  may : MayReopen seat.agent (image_on (roots_of s node) content)
  fit : IsFitToKeep (image_on (roots_of s node) content)

module _ (s : Setting) (x : WorldState) (disks : List (List ℕ)) (node : ℕ) (content : List ℕ) (most : ℕ) (reached : IsReached s x) (count : length disks ≡ length s.members)
    (member : IsNode (length s.members) node) (rest : OthersStand s x disks node most) (seat : Seat) (l : IsLeft s x node seat content most) where
  abbrev image : PoolImage
  image = image_on (roots_of s node) content

  abbrev y : WorldState
  y = after_restart s x node image

  who : (m : Member) × (numbered s.members node ≡ Some m)
  who = numbered_there s.members node member

  may_restart : MayRestart s x node image
  may_restart = record { member = who.0; found = who.1; seat = seat; here = l.here; image_is = l.may }

  does : RestartDoes s x node image y
  does = restarts_begin_anew s x node image reached may_restart

  own : (z : Seat) → present_seat y node ≡ Some z → DiskStands (roots_of s node) content z.agent.pool most
  own z is =
      let same : opened_seat who.0.plan (pool_of_image image) ≡ z = same_Some (opened_seat who.0.plan (pool_of_image image)) z (sym (does.begun who.0 who.1) ∙ is)
      in let pool : z.agent.pool ≡ pool_of_image image = sym (ap (λ (t : Seat). t.agent.pool) same) ∙ begun_pool who.0.plan (pool_of_image image)
      in record {
        holds = record { sound = l.sound; has = sym (ap image_of pool ∙ pools_have_their_images image l.fit.good l.fit.order) };
        number = l.number;
      }

  others_then : OthersStand s y disks node most
  others_then n other is apart here = rest n other is apart (sym was ∙ here) where
    was : present_seat y n ≡ present_seat x n
    was =
        ap (λ (life : ℕ). seat_at y life) (others_present x y node does.lives n apart)
        ∙ does.others (present_life x n) (λ same. apart (one_member s x reached n node is member same)) ((lives_are_kept s x reached).present n is)

  begun_stands : KeptStands s most (record { world = y; disks = with_disk disks node content })
  begun_stands = record { reached = restarted_reached s x node image reached may_restart; disks = put_stands s y disks node content most count member others_then own }

-- ---- a crash

module _ (s : Setting) (k : KeptState) (most : ℕ) (stands : KeptStands s most k) (below : most + 2 < 2 ^ 64 - 1) (node : ℕ) (member : IsNode (length s.members) node) (calls : ℕ) (left : Left) (c : Choice) where
  abbrev w : WorldState
  w = k.world

  abbrev roots : List RootPrefix
  roots = roots_of s node

  abbrev bytes : List ℕ
  bytes = disk_of k.disks node

  -- what is left, where the disk stops before the call or doesn't
  abbrev content : Bool → List ℕ
  content b = left_by left bytes (made_cut s k node calls c b)

  abbrev restart_turn : Bool → TakenTurn
  restart_turn b = record { turn = turn.Restart node (image_on roots (content b)); choice = no_choice }

  pub record Crashed (b : Bool) : Type 0 where
    pub reached : IsReached s (world_cut s k.world node c b)
    pub may : MayRestart s (world_cut s k.world node c b) node (image_on (roots_of s node) (left_by left (disk_of k.disks node) (made_cut s k node calls c b)))
    pub sound : IsSound (left_by left (disk_of k.disks node) (made_cut s k node calls c b))
    pub turns : AreTurns s k.world (turns_cut node c b ++ record { turn = turn.Restart node (image_on (roots_of s node) (left_by left (disk_of k.disks node) (made_cut s k node calls c b))); choice = no_choice } ∷ [])
    pub last : after_restart s (world_cut s k.world node c b) node (image_on (roots_of s node) (left_by left (disk_of k.disks node) (made_cut s k node calls c b)))
        ≡ world_turned s k.world (turns_cut node c b ++ record { turn = turn.Restart node (image_on (roots_of s node) (left_by left (disk_of k.disks node) (made_cut s k node calls c b))); choice = no_choice } ∷ [])
    pub then_stands : KeptStands s (most + 2) (record {
      world = after_restart s (world_cut s k.world node c b) node (image_on (roots_of s node) (left_by left (disk_of k.disks node) (made_cut s k node calls c b)));
      disks = with_disk k.disks node (left_by left (disk_of k.disks node) (made_cut s k node calls c b));
    })

  old : (seat : Seat) × (present_seat w node ≡ Some seat)
  old = member_there s w stands.reached node member

  abbrev a : AgentState
  a = old.0.agent

  kept : IsKept old.0.agent
  kept = kept_in s k most stands below w stands.reached node old.0 old.1

  stood : DiskStands roots bytes a.pool most
  stood = stands.disks.each node old.0 member old.1

  ready : IsGoodImage (image_before old.0.agent)
  ready = (images_are_in_order.before old.0.agent kept).good

  -- ---- before the call

  cut_has : HasEither roots (image_of old.0.agent.pool) (image_before old.0.agent) (most + 1) (content true)
  cut_has =
      subst (λ (o : Option Seat). HasEither roots (image_of old.0.agent.pool) (image_before old.0.agent) (most + 1) (left_by left bytes (first_calls calls (asked_before bytes o)))) (sym old.1)
      (cut_leaves roots bytes old.0.agent most stood below ready left (length (asked_before bytes (Some old.0)) - calls))

  cut_left : IsLeft s w node old.0 (content true) (most + 2)
  cut_left = record {
    here = old.1;
    sound = cut_has.sound;
    number = omega (arith, cut_has.number);
    may = elim cut_has.image [
      | inl same ↦ subst (λ (i : PoolImage). MayReopen old.0.agent i) (sym same) (images_reopen old.0.agent kept)
      | inr same ↦ subst (λ (i : PoolImage). MayReopen old.0.agent i) (sym same) (accepting_reopens old.0.agent kept)
    ];
    fit = elim cut_has.image [
      | inl same ↦ subst (λ (i : PoolImage). IsFitToKeep i) (sym same) (images_are_in_order.behind old.0.agent kept)
      | inr same ↦ subst (λ (i : PoolImage). IsFitToKeep i) (sym same) (images_are_in_order.before old.0.agent kept)
    ];
  }

  cut_others : OthersStand s w k.disks node (most + 2)
  cut_others n seat is apart here = weaker (roots_of s n) (disk_of k.disks n) seat.agent seat.agent most (most + 2) refl (omega arith) (stands.disks.each n seat is here)

  cut_crash : Crashed true
  unfolding AreTurns world_turned
  cut_crash = record {
    reached = stands.reached;
    may = may_restart s w k.disks node (content true) (most + 2) stands.reached stands.disks.count member cut_others old.0 cut_left;
    sound = cut_has.sound;
    turns = (may_restart s w k.disks node (content true) (most + 2) stands.reached stands.disks.count member cut_others old.0 cut_left, tt);
    last = refl;
    then_stands = begun_stands s w k.disks node (content true) (most + 2) stands.reached stands.disks.count member cut_others old.0 cut_left;
  }

  -- ---- behind the call

  module _ (o : Occurs s k.world (event.Agent node false) c) where
    abbrev x : WorldState
    x = after_event s w (event.Agent node false) c

    reached_x : IsReached s x
    reached_x = reached_then s k most stands below (event.Agent node false) c o

    new : (seat : Seat) × (present_seat x node ≡ Some seat)
    new = member_there s x reached_x node member

    new_kept : IsKept new.0.agent
    new_kept = kept_in s k most stands below x reached_x node new.0 new.1

    good : IsGoodImage (image_of new.0.agent.pool)
    good = good_then s k most stands below (event.Agent node false) c o node new.0 new.1

    -- what is left where the agent was there and then
    abbrev left_both : Option Seat → Option Seat → List ℕ
    left_both p q = left_by left bytes (first_calls (calls - length (asked_before bytes p)) (asked_behind roots (written_by bytes (asked_before bytes p)) q) ++ asked_before bytes p)

    call_has : HasEither roots (image_before old.0.agent) (image_of new.0.agent.pool) (most + 1 + 1) (content false)
    call_has =
        subst (λ (p : Option Seat). HasEither roots (image_before old.0.agent) (image_of new.0.agent.pool) (most + 1 + 1) (left_both p (present_seat x node))) (sym old.1)
        (subst (λ (q : Option Seat). HasEither roots (image_before old.0.agent) (image_of new.0.agent.pool) (most + 1 + 1) (left_both (Some old.0) q)) (sym new.1)
        (call_leaves roots bytes old.0.agent most stood below ready new.0.agent good left
        (length (asked_behind roots (written_by bytes (asked_before bytes (Some old.0))) (Some new.0)) - (calls - length (asked_before bytes (Some old.0))))))

    -- the image under which the call was made may open the agent anew that it then is
    under_may : MayReopen new.0.agent (image_before old.0.agent)
    under_may = by_agent (goes s k most stands below (event.Agent node false) c o node new.0 new.1) where
      same_old : (z : Seat) → seat_at w (present_life w node) ≡ Some z → z ≡ old.0
      same_old z is = same_Some z old.0 (sym is ∙ old.1)

      by_agent : AgentGoes w (event.Agent node false) (present_life w node) new.0.agent → MayReopen new.0.agent (image_before old.0.agent)
      by_agent (AgentGoes.stays z there same) =
          subst (λ (b : AgentState). MayReopen b (image_before old.0.agent)) (sym (ap (λ (t : Seat). t.agent) (same_old z there)) ∙ same) (accepting_reopens old.0.agent kept)
      by_agent (AgentGoes.replies n z r named is there same) =
          subst (λ (b : AgentState). MayReopen b (image_before old.0.agent)) (sym (same ∙ ap (λ (t : Seat). after_reply t.agent r) (same_old z there))) (replies_reopen old.0.agent (replied r) kept tt)
      by_agent (AgentGoes.is_told n named is) = absurd named

    call_left : IsLeft s x node new.0 (content false) (most + 2)
    call_left = record {
      here = new.1;
      sound = call_has.sound;
      number = omega (arith, call_has.number);
      may = elim call_has.image [
        | inl same ↦ subst (λ (i : PoolImage). MayReopen new.0.agent i) (sym same) under_may
        | inr same ↦ subst (λ (i : PoolImage). MayReopen new.0.agent i) (sym same) (images_reopen new.0.agent new_kept)
      ];
      fit = elim call_has.image [
        | inl same ↦ subst (λ (i : PoolImage). IsFitToKeep i) (sym same) (images_are_in_order.before old.0.agent kept)
        | inr same ↦ subst (λ (i : PoolImage). IsFitToKeep i) (sym same) (images_are_in_order.behind new.0.agent new_kept)
      ];
    }

    call_others : OthersStand s x k.disks node (most + 2)
    call_others = others s k most stands below (event.Agent node false) c o node member (λ n named. elim named [ inl is ↦ is | inr none ↦ absurd none ])

    call_crash : Crashed false
    unfolding AreTurns world_turned
    call_crash = record {
      reached = reached_x;
      may = may_restart s x k.disks node (content false) (most + 2) reached_x stands.disks.count member call_others new.0 call_left;
      sound = call_has.sound;
      turns = (o, (may_restart s x k.disks node (content false) (most + 2) reached_x stands.disks.count member call_others new.0 call_left, tt));
      last = refl;
      then_stands = begun_stands s x k.disks node (content false) (most + 2) reached_x stands.disks.count member call_others new.0 call_left;
    }

  pub crashed : (b : Bool) → CallOccurs s k.world node c b → Crashed b
  crashed true o = cut_crash
  crashed false o = call_crash o
