-- What the agent of a life offers in a session is listed for the stream of that session, or was settled, also where the life has ended.
use Rattle.std.proofs.Common.{◌≡◌, ◌≢◌, refl, sym, ap, ◌∙◌, ℕ, Bool, true, false, inl, inr, ◌⊎◌, List, slice_get, Option, Some, None}
use Rattle.std.proofs.lemmas.Bool.{true≢false}
use Rattle.std.proofs.lemmas.Option.{none-some}
use Rattle.grasp_agent.specs.Kept.{IsKept}
use Rattle.grasp_agent.specs.Reopening.{retired}
use Rattle.grasp_agent.specs.States.{AgentState}
use Rattle.grasp_agent.specs.declared.act.Act.{Act}
use Rattle.grasp_agent.specs.declared.act.Act.TheVariants as act
use Rattle.grasp_agent.specs.declared.giving.Giving.{Giving}
use Rattle.grasp_laws_agent.proofs.Retiring.{agents_retire}
use Rattle.grasp_laws_agent.specs.Retiring.{GivingStays}
use Rattle.grasp_laws_agents.proofs.Entries.{set_back}
use Rattle.grasp_laws_agents.specs.Giving.{IsOwnSession, OffersIn, in_entry, in_return}
use Rattle.grasp_laws_network.proofs.Lives.{same_is_present}
use Rattle.grasp_laws_network.proofs.Restarted.{Restarting}
use Rattle.grasp_laws_network.proofs.Settled.{Settling}
use Rattle.grasp_laws_network.specs.Telling.{Tells}
use Rattle.grasp_model_network.proofs.Facts.{first_reached}
use Rattle.grasp_model_network.specs.GoodSetting.{IsGoodSetting}
use Rattle.grasp_model_network.specs.Runs.{IsReached, first_world}
use Rattle.grasp_model_network.specs.Setting.{Setting}
use Rattle.grasp_model_network.specs.World.{Seat, WorldState, seat_at, is_present, present_life}
use Rattle.grasp_model_network.specs.declared.event.Event.{Event}
use Rattle.grasp_pool.specs.declared.image.PoolImage.{PoolImage}
use Rattle.grasp_session.specs.Messages.{Side}
use Rattle.grasp_session.specs.Sessions.{SessionState}
use Rattle.grasp_types.specs.Prefix.{AddressBlock as Prefix}
use Rattle.grasp_types.specs.declared.session.Handle.{Handle}
use Rattle.grasp_laws_prefixes.proofs.AgentOffers as agents
use Rattle.grasp_laws_prefixes.proofs.AgentSteps.{AgentStep}
use Rattle.grasp_laws_prefixes.proofs.EntryOffers.{offers_reserved}
use Rattle.grasp_laws_prefixes.proofs.FirstPrefixes.{none_reserved}
use Rattle.grasp_laws_prefixes.proofs.Listings.{among}
use Rattle.grasp_laws_prefixes.proofs.Networks.{is_kept, told_happens}
use Rattle.grasp_laws_prefixes.proofs.QuietKeeps.{among_still, offered_before}
use Rattle.grasp_laws_prefixes.proofs.RestartKeeps as restarts
use Rattle.grasp_laws_prefixes.proofs.Returned as returns
use Rattle.grasp_laws_prefixes.proofs.Returned.{Takes, told_by}
use Rattle.grasp_laws_prefixes.proofs.Safe.{stand}
use Rattle.grasp_laws_prefixes.proofs.SettleKeeps as settles
use Rattle.grasp_laws_prefixes.proofs.Standing.{IsOfferedOn, WasSettledOn, NothingHappens, SeatGoesOn, WorldGoesOn}
use Rattle.grasp_laws_prefixes.specs.Grounds.{Grounds}
use Rattle.grasp_laws_prefixes.specs.Known.{IsListedFor, WasSettledFor}
use Rattle.grasp_laws_prefixes.specs.Settled.{FormerOffersAreKnown}

-- ---- an agent whose life ends offers what it offered

-- an entry that offers then did so before
entry_before : (o : Option Act) (old new : List Giving) (place : ℕ) (g : Giving) (p : Prefix) → GivingStays o old new → slice_get new place ≡ Some g → g.offer ≡ Some p → slice_get old place ≡ Some g
entry_before None old new place g p stays at offer = ap (λ (gs : List Giving). slice_get gs place) (sym stays) ∙ at
entry_before (Some (act.Counter h n)) old new place g p stays at offer = ap (λ (gs : List Giving). slice_get gs place) (sym stays) ∙ at
entry_before (Some (act.Accept h q)) old new place g p stays at offer = ap (λ (gs : List Giving). slice_get gs place) (sym stays) ∙ at
entry_before (Some (act.Decline h reason)) old new place g p stays at offer = ap (λ (gs : List Giving). slice_get gs place) (sym stays) ∙ at
entry_before (Some (act.Offer i h q)) old new place g p stays at offer = by_place (set_back old i emptied place g (ap (λ (gs : List Giving). slice_get gs place) (sym stays) ∙ at)) where
  emptied : Giving
  emptied = record { handle = h; offer = None; first = false }

  by_place : ((place ≡ i) × (emptied ≡ g)) ⊎ ((place ≢ i) × (slice_get old place ≡ Some g)) → slice_get old place ≡ Some g
  by_place (inl same) = absurd (none-some p (ap (λ (z : Giving). z.offer) same.1 ∙ offer))
  by_place (inr apart) = apart.1

retired_offers : (a : AgentState) (side : Side) (h : Handle) (p : Prefix) → IsKept a → OffersIn (retired a) side h p → OffersIn a side h p
retired_offers a side h p kept (in_entry far place g at on offer) =
    in_entry far place g (entry_before a.act a.giving (retired a).giving place g p ((agents_retire a).giving kept) at offer) on offer
retired_offers a side h p kept (in_return near r is on same) = in_return near r (((agents_retire a).returns r).0 is).0 on same

-- ---- what is kept

-- what the agent of a life that has ended offers in a session is listed for the stream of that session, or was settled
abbrev FormersAreKnown : WorldState → Type 0
FormersAreKnown w = (n : ℕ) (seat : Seat) → seat_at w n ≡ Some seat → is_present w n ≡ false → (side : Side) (h : Handle) (p : Prefix) → OffersIn seat.agent side h p
    → (z : SessionState) → IsOwnSession seat.core.sessions h side z → IsOfferedOn w n side z.stream p ⊎ WasSettledOn w n side z.stream p

module _ (l : Grounds) (s : Setting) where
  first_known : (good : IsGoodSetting s) → FormersAreKnown (first_world s)
  first_known good n seat here past side h p o z own =
      absurd (none_reserved s good n seat here p (offers_reserved seat.agent side h p (l.kept s (first_world s) (first_reached s good) n seat here) o))

  module _ (w : WorldState) (r : IsReached s w) (f : FormersAreKnown w) where
    quiet_known : (y : WorldState) → WorldGoesOn w y → IsReached s y ⊎ NothingHappens w y → FormersAreKnown y
    quiet_known y g said n new there past side h p o z own = from (g.seats n new there) where
      from : (seat : Seat) × (seat_at w n ≡ Some seat) × SeatGoesOn seat new → IsOfferedOn y n side z.stream p ⊎ WasSettledOn y n side z.stream p
      from b = by_session (offered_before l s w r n b.0 new b.1 b.2 side h p o z own) where
        by_session : OffersIn b.0.agent side h p × ((u : SessionState) × IsOwnSession b.0.core.sessions h side u × (u.stream ≡ z.stream))
            → IsOfferedOn y n side z.stream p ⊎ WasSettledOn y n side z.stream p
        by_session was = by_case (f n b.0 b.1 (sym (same_is_present w y n g.lives) ∙ past) side h p was.0 was.1.0 was.1.1) where
          by_case : IsOfferedOn w n side was.1.0.stream p ⊎ WasSettledOn w n side was.1.0.stream p → IsOfferedOn y n side z.stream p ⊎ WasSettledOn y n side z.stream p
          by_case (inl i) = inl (among_still l s w r y said g (stand l s w r) w.offers y.offers g.offers n side side refl was.1.0.stream z.stream p was.1.2 i)
          by_case (inr i) = inr (among_still l s w r y said g (stand l s w r) w.settled y.settled g.settled n side side refl was.1.0.stream z.stream p was.1.2 i)

    -- an agent that takes a step is of a present life
    agent_known : (y : WorldState) → IsReached s y → AgentStep w y → FormersAreKnown y
    agent_known y q a n seat found past side h p o z own = agents.by_node l s w y r q a (stand l s w r)
        (λ m v. is_present y m ≡ false → OffersIn v.agent side h p → IsOwnSession v.core.sessions h side z → IsOfferedOn y m side z.stream p ⊎ WasSettledOn y m side z.stream p)
        (λ gone there mine. absurd (true≢false (sym a.present ∙ (sym (same_is_present w y a.visit.node a.lives) ∙ gone))))
        (λ m v apart here gone there mine. by_case m apart (f m v here (sym (same_is_present w y m a.lives) ∙ gone) side h p there z mine)) n seat found past o own where
          by_case : (m : ℕ) → m ≢ a.visit.node → IsOfferedOn w m side z.stream p ⊎ WasSettledOn w m side z.stream p
              → IsOfferedOn y m side z.stream p ⊎ WasSettledOn y m side z.stream p
          by_case m apart (inl i) = inl (agents.other_still l s w y r q a (stand l s w r) m side z.stream p apart i)
          by_case m apart (inr i) = inr (agents.settled_on l s w y r q a (stand l s w r) m side z.stream p i)

    -- and so is one that takes a return
    taken_known : (x : WorldState) → Takes w x → FormersAreKnown x
    taken_known x t n seat found past side h p o z own = returns.by_node l s w x r t
        (λ m v. is_present x m ≡ false → OffersIn v.agent side h p → IsOwnSession v.core.sessions h side z → IsOfferedOn x m side z.stream p ⊎ WasSettledOn x m side z.stream p)
        (λ gone there mine. absurd (true≢false (sym t.present ∙ (sym (returns.same_presence l s w x r t t.node) ∙ gone))))
        (λ m v apart here gone there mine. by_case m apart (f m v here (sym (returns.same_presence l s w x r t m) ∙ gone) side h p there z mine)) n seat found past o own where
          by_case : (m : ℕ) → m ≢ t.node → IsOfferedOn w m side z.stream p ⊎ WasSettledOn w m side z.stream p → IsOfferedOn x m side z.stream p ⊎ WasSettledOn x m side z.stream p
          by_case m apart (inl i) = inl (returns.still_on l s w x r t m side z.stream p (λ g e. apart g) i)
          by_case m apart (inr i) = inr (returns.settled_on l s w x r t m side z.stream p i)

    told_known : (x : WorldState) (e : Event) → Tells s w e x → FormersAreKnown x
    told_known x e t = by_case (told_by l s w r e x t) where
      by_case : WorldGoesOn w x ⊎ Takes w x → FormersAreKnown x
      by_case (inl g) = quiet_known x g (inr (told_happens s w x e t))
      by_case (inr takes) = taken_known x takes

    settle_known : (x : WorldState) (node : ℕ) (q : Prefix) → Settling w node q x → FormersAreKnown x
    settle_known x node q t n seat found past side h p o z own = settles.by_life l s w x node q r t
        (λ m v. is_present x m ≡ false → OffersIn v.agent side h p → IsOwnSession v.core.sessions h side z → IsOfferedOn x m side z.stream p ⊎ WasSettledOn x m side z.stream p)
        (λ gone there mine. absurd (true≢false (sym (settles.life_present l s w x node q r t) ∙ (sym (settles.same_presence l s w x node q r t (present_life w node)) ∙ gone))))
        (λ m v apart here gone there mine.
        settles.known_on l s w x node q r t (stand l s w r) m side z.stream p (f m v here (sym (settles.same_presence l s w x node q r t m) ∙ gone) side h p there z mine)) n seat found past o own

    restart_known : (x : WorldState) (node : ℕ) (image : PoolImage) → Restarting s w node image x → FormersAreKnown x
    restart_known x node image t n seat found past side h p o z own = restarts.by_life l s w x node image r t
        (λ m v. is_present x m ≡ false → OffersIn v.agent side h p → IsOwnSession v.core.sessions h side z → IsOfferedOn x m side z.stream p ⊎ WasSettledOn x m side z.stream p)
        (λ gone there mine. inl (left there mine)) (λ gone there mine. absurd (restarts.none_offered l s w x node image r t (stand l s w r) side h p there))
        (λ m v apart here gone there mine.
        by_case m apart (f m v here (sym (restarts.same_presence l s w x node image r t (stand l s w r) m v here apart) ∙ gone) side h p there z mine)) n seat found past o own where
          -- what the life that ends offers it has reserved, and so it stays listed
          left : OffersIn (retired t.seat.agent) side h p → IsOwnSession t.seat.core.sessions h side z → IsOfferedOn x (present_life w node) side z.stream p
          left there mine =
              restarts.left_on l s w x node image r t (stand l s w r) side z.stream p
              (inl (offers_reserved (retired t.seat.agent) side h p ((agents_retire t.seat.agent).kept (restarts.was_kept l s w x node image r t)) there))
              ((stand l s w r).known.offered (present_life w node) t.seat t.here (restarts.life_present l s w x node image r t) side h p
              (retired_offers t.seat.agent side h p (restarts.was_kept l s w x node image r t) there) z mine)

          by_case : (m : ℕ) → m ≢ present_life w node → IsOfferedOn w m side z.stream p ⊎ WasSettledOn w m side z.stream p
              → IsOfferedOn x m side z.stream p ⊎ WasSettledOn x m side z.stream p
          by_case m apart (inl i) = inl (restarts.listed_on l s w x node image r t (stand l s w r) m side z.stream p apart i)
          by_case m apart (inr i) = inr (restarts.settled_on l s w x node image r t (stand l s w r) m side z.stream p i)

  formers : (w : WorldState) → IsReached s w → FormersAreKnown w
  formers w r = is_kept l s FormersAreKnown (record {
    quiet = λ x y p g said f. quiet_known x p f y g said;
    agent = λ x y p q a c f. agent_known x p f y q a;
    told = λ x y e p t f. told_known x p f y e t;
    settles = λ x y node q p t f. settle_known x p f y node q t;
    restarts = λ x y node image p t f. restart_known x p f y node image t;
  }) (first_known r.good) w r

pub former_offers_are_known : Grounds → FormerOffersAreKnown
former_offers_are_known l s w r life seat here side h p o x own = by_present (is_present w life) refl where
  by_present : (b : Bool) → is_present w life ≡ b → IsListedFor w life side x.stream p ⊎ WasSettledFor w life side x.stream p
  by_present true is = inl (among w.offers w life side x.stream p ((stand l s w r).known.offered life seat here is side h p o x own))
  by_present false is = by_case (formers l s w r life seat here is side h p o x own) where
    by_case : IsOfferedOn w life side x.stream p ⊎ WasSettledOn w life side x.stream p → IsListedFor w life side x.stream p ⊎ WasSettledFor w life side x.stream p
    by_case (inl i) = inl (among w.offers w life side x.stream p i)
    by_case (inr i) = inr (among w.settled w life side x.stream p i)
