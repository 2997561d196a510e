-- Rounds from their parts, and the end.
use Rattle.std.proofs.Common.{◌≡◌, ◌≤◌, ℕ, List, [], ◌∷◌, ◌++◌, length, refl, sym, ap, ◌∙◌, subst, filter, Bool, true, false, Result, Ok, Err}
use Rattle.std.specs.Prelude.{MatchResult}
use Rattle.grasp_cbor.proofs.Facts.Lists.{length_map}
use Rattle.grasp_core.specs.declared.node_core.NodeCore.{NodeCore}
use Rattle.grasp_crew.specs.Seats.{stays}
use Rattle.grasp_crew.specs.Servants.{woken}
use Rattle.grasp_crew.specs.declared.servant.Servant.{Servant}
use Rattle.grasp_node_main.specs.Tells.{LinksTold, Told, HandsOnly}
use Rattle.grasp_node_main.specs.Turns.{loop_call, outputs_in}
use Rattle.grasp_disk.specs.Calls.{DiskLog}
use Rattle.grasp_shared.proofs.Adding.{adds_on, adds_nothing}
use Rattle.grasp_shared.specs.Adding.{Adds}
use Rattle.grasp_shared.specs.Calls.{GoesOn, answered}
use Rattle.grasp_types.specs.declared.reply.Reply.{Reply}
use Rattle.grasp_types.specs.declared.traffic.Input.TheVariants as input
use Rattle.grasp_service_visits.specs.Calling.{GoesSome}
use Rattle.grasp_service_visits.specs.Desks.{DeskTold, TellsOnly}
use Rattle.grasp_service_visits.specs.Each.{each_after, each_adds, Each}
use Rattle.grasp_service_visits.specs.Tending.{tended, tended_told, tend_calls}
use Rattle.grasp_service_visits.specs.Visits.{AllMean, seats_after, house_after, all_visit_calls, all_visit_told}
use Rattle.grasp_shelf.specs.Shelves.{ShelfState, KeptOn}
use Rattle.grasp_service.specs.Deeds.{IsDeed, after_deed, deed_calls, kept_deeds}
use Rattle.grasp_service.specs.Exchanges.{Exchanged, has_come}
use Rattle.grasp_service.specs.Following.{ActsOn, TakesVisitors, Rests, Follows, woken_agents}
use Rattle.grasp_service.specs.Cuts.{CutsOff, IsCut}
use Rattle.grasp_service.specs.Rounds.{Round, WentOn, CutShort, CutFor, Ends, outside, crew_in, house_acted, ticks, stirs, woken_crew, round_after, round_calls, agent_calls, visitor_calls}
use Rattle.grasp_service.specs.States.{ServiceState, state_of, events_told}
use Rattle.grasp_service.specs.declared.cut.Cut.{Cut}
use Rattle.grasp_service.specs.declared.cut.Cut.TheVariants as cut
use Rattle.grasp_service.specs.declared.exchange.Exchange.{Exchange}
use Rattle.grasp_service.specs.declared.service.Service.{Service}

-- as many agents are woken as there are
woken_length : (b : Bool) (crew : List Servant) → length (woken_crew b crew) ≡ length crew
woken_length true crew = length_map woken crew
woken_length false crew = refl

module _ {B : Type 0} (stands : B → DiskLog → Type 0) (faults : B → ℕ) where
  -- a turn, and what follows it
  round_made : (a c z : Service) (b : NodeCore) (v w : ShelfState B) (wait : ℕ) (x y : Told) (k m : DeskTold) (e : Exchange) (stops : Bool)
      → Exchanged wait a.core x e b y → e.starved ≡ false → wait ≤ a.tick
      → c.core ≡ b → state_of c ≡ state_of a → Follows stands faults c v k e.reading e.came stops z w m → WentOn stands faults a v (outside x k) stops z w
      (outside y m)
  round_made a c z b v w wait x y k m e stops p calm within same state f =
      let s : ServiceState = state_of a in
      let now : ℕ = p.turn.now in
      let acts : ActsOn stands faults c v now (has_come p.turn.asking) f.acted w =
      subst (λ t. ActsOn stands faults c v now t f.acted w) p.came (subst (λ t. ActsOn stands faults c v t e.came f.acted w) p.reading f.acts) in
      let takes : TakesVisitors f.acted k now f.said f.taken f.middle = subst (λ t. TakesVisitors f.acted k t f.said f.taken f.middle) p.reading f.takes in
      let rests : Rests f.taken now f.said.some z = subst (λ t. Rests f.taken t f.said.some z) p.reading f.rests in
      let r : Round = record { wait = wait; turn = p.turn; deeds = acts.deeds; visits = takes.visits; replies = takes.replies; events = takes.events } in
      let crew : woken_agents c now (has_come p.turn.asking) ≡ crew_in s p.turn =
      ap (λ (t : ServiceState). woken_crew (stirs t now (has_come p.turn.asking)) t.house.crew) state in
      let acted : state_of f.acted ≡ record s { house = house_acted s r; ticked = ticks s now } =
      acts.state
      ∙ ap (λ (t : ServiceState). record t {
        house = record t.house { crew = each_after (after_deed now) (woken_crew (stirs t now (has_come p.turn.asking)) t.house.crew) acts.deeds };
        ticked = ticks t now;
      }) state in
      let agents : ℕ = length s.house.crew in
      let deeds : Adds b (agent_calls s r) f.acted.core =
      subst (λ n. Adds n (agent_calls s r) f.acted.core) same
      (subst (λ l. Adds c.core (each_adds (deed_calls now) 1 l acts.deeds) f.acted.core) crew acts.adds) in
      let visits : Adds f.acted.core (visitor_calls s r) f.taken.core =
      subst (λ (t : ServiceState). Adds f.acted.core
      (all_visit_calls agents now t.seats takes.visits ++ each_adds (λ place. tend_calls agents now) 0
      (seats_after now t.seats takes.visits) takes.replies) f.taken.core)
      acted (takes.adds agents) in
      record {
        round = r;
        is = record {
          within = within;
          calm = sym p.starved ∙ calm;
          acted = acts.count ∙ ap (λ l. length l) crew ∙ woken_length (stirs s now (has_come p.turn.asking)) s.house.crew;
          deeds = subst (λ l. Each (IsDeed now) l acts.deeds) crew acts.each;
          mean = subst (λ (t : ServiceState). AllMean now t.seats takes.visits) acted takes.mean;
          seen = takes.seen ∙ ap (λ (t : ServiceState). length (seats_after now t.seats takes.visits)) acted;
        };
        adds = subst (λ n. Adds a.core (round_calls s r) n) (sym rests.core)
            (adds_on a.core b f.taken.core _ _ p.adds (adds_on b f.acted.core f.taken.core _ _ deeds visits));
        state =
            rests.state ∙ ap (λ (t : ServiceState). record t { stirring = f.said.some; reading = now }) takes.state
            ∙ ap (λ (t : ServiceState). record t {
              house = house_after now t.seats t.house takes.visits;
              seats = filter stays (each_after (tended now) (seats_after now t.seats takes.visits) takes.replies);
              stirring = f.said.some;
              reading = now;
            }) acted
            ∙ ap (λ some. record (round_after s r) { stirring = some }) takes.some;
        tells = record {
          turn = p.tells;
          desk = record {
            middle = f.middle;
            came = takes.came;
            told = subst (λ lines. TellsOnly f.middle lines m)
                (takes.told ∙ ap (λ (t : ServiceState).
                (all_visit_told now t.seats t.house takes.visits ++ each_adds (λ place. tended_told now) 0 (seats_after now t.seats takes.visits) takes.replies)
                ++ events_told (filter stays (each_after (tended now) (seats_after now t.seats takes.visits) takes.replies)) takes.events) acted) f.tells;
          };
        };
        stops_is = f.stops_is;
        kept = subst (λ l. KeptOn stands faults v (kept_deeds now l acts.deeds) w) crew acts.kept;
      }

-- a turn, and some calls
abbrev cut_made : (a z : Service) (b : NodeCore) (wait : ℕ) (x y : Told) (e : Exchange) → Exchanged wait a.core x e b y → GoesSome b z.core → CutShort a x z y
cut_made a z b wait x y e p q = record { wait = wait; turn = p.turn; rest = q.calls; adds = adds_on a.core b z.core _ _ p.adds q.adds; tells = p.tells }

module _ {B : Type 0} (stands : B → DiskLog → Type 0) (faults : B → ℕ) where
  -- a turn for which the node had no memory
  pub cut_at_once : (a z : Service) (b : NodeCore) (v w : ShelfState B) (wait : ℕ) (x y : Told) (e : Exchange) → Exchanged wait a.core x e b y → z.core ≡ b
      → CutFor stands faults a v x cut.OutOfMemory z w y
  cut_at_once a z b v w wait x y e p same =
      record { cut = cut_made a z b wait x y e p (record { calls = []; adds = subst (λ n. Adds b [] n) (sym same) (adds_nothing b) }); is = tt }

  -- a turn, and what falls short
  round_cut : (a c z : Service) (b : NodeCore) (v w : ShelfState B) (wait : ℕ) (x y : Told) (e : Exchange) (why : Cut)
      → Exchanged wait a.core x e b y → CutsOff stands faults c.core e.reading (woken_agents c e.reading e.came) v why z.core w
      → c.core ≡ b → state_of c ≡ state_of a → CutFor stands faults a v x why z w y
  round_cut a c z b v w wait x y e why p f same state =
      let now : ℕ = p.turn.now in
      let crew : woken_agents c now (has_come p.turn.asking) ≡ crew_in (state_of a) p.turn =
      ap (λ (t : ServiceState). woken_crew (stirs t now (has_come p.turn.asking)) t.house.crew) state in
      let came : IsCut stands faults now (woken_agents c now (has_come p.turn.asking)) v why w =
      subst (λ t. IsCut stands faults now (woken_agents c now t) v why w) p.came
      (subst (λ t. IsCut stands faults t (woken_agents c t e.came) v why w) p.reading f.is) in
      record {
        cut = cut_made a z b wait x y e p (subst (λ n. GoesSome n z.core) same f.some);
        is = subst (λ l. IsCut stands faults now l v why w) crew came;
      }

  -- a turn, and what follows it or falls short
  pub round_through : (r : Result Bool Cut) (a c z : Service) (b : NodeCore) (v w : ShelfState B) (wait : ℕ) (x y : Told) (k m : DeskTold) (e : Exchange)
      → Exchanged wait a.core x e b y
      → MatchResult r (λ stops. Follows stands faults c v k e.reading e.came stops z w m)
      (λ why. CutsOff stands faults c.core e.reading (woken_agents c e.reading e.came) v why z.core w) → e.starved ≡ false
      → wait ≤ a.tick → c.core ≡ b → state_of c ≡ state_of a
      → MatchResult r (λ stops. WentOn stands faults a v (outside x k) stops z w (outside y m)) (λ why. CutFor stands faults a v x why z w y)
  round_through (Ok stops) a c z b v w wait x y k m e p f calm within same state =
      round_made stands faults a c z b v w wait x y k m e stops p calm within same state f
  round_through (Err why) a c z b v w wait x y k m e p f calm within same state = round_cut a c z b v w wait x y e why p f same state

pub ruleset rounding = (cut_at_once, round_through)

-- the last drain
pub ends_made : (a z : Service) (b : NodeCore) (r : Reply) (x y : LinksTold) → GoesOn a.core (answered a.reading (input.Drain 320) r) b → HandsOnly x (outputs_in r) y → z.core ≡ b → state_of z ≡ state_of a
    → Ends a x z y
ends_made a z b r x y g h same state = record {
  last = r;
  adds = subst (λ n. Adds a.core (loop_call a.reading (input.Drain 320) r ∷ []) n) (sym same) (g.goes 0);
  state = state;
  hands = h;
}
