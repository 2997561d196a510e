-- What follows the turn of a round.
use Rattle.std.proofs.Common.{◌≡◌, ℕ, List, [], ◌++◌, length, sym, ap, ◌∙◌, subst, append_assoc, Bool, filter, Result, Ok, Err}
use Rattle.std.specs.Prelude.{MatchResult}
use Rattle.grasp_core.specs.declared.node_core.NodeCore.{NodeCore}
use Rattle.grasp_crew.specs.Seats.{SeatState, stays}
use Rattle.grasp_desk.specs.declared.desk.Told.{Told as Line}
use Rattle.grasp_disk.specs.Calls.{DiskLog}
use Rattle.grasp_shared.proofs.Adding.{adds_on}
use Rattle.grasp_shared.specs.Adding.{Adds}
use Rattle.grasp_service_visits.specs.Calling.{GoesSome}
use Rattle.grasp_service_visits.specs.Desks.{DeskTold, TellsOnly}
use Rattle.grasp_service_visits.specs.Each.{each_after, each_adds, Each}
use Rattle.grasp_service_visits.specs.Serving.{house_of}
use Rattle.grasp_service_visits.specs.Tending.{TendsAll, tended, tended_told, tend_calls}
use Rattle.grasp_service_visits.specs.Visits.{TakesVisits, house_after, all_visit_calls, all_visit_told}
use Rattle.grasp_service_visits.specs.declared.house.House.{House}
use Rattle.grasp_shelf.specs.Shelves.{ShelfState, KeptOn}
use Rattle.grasp_service.specs.Deeds.{IsDeed, after_deed, deed_calls, kept_deeds, ActsAll}
use Rattle.grasp_service.specs.Following.{woken_agents, Wakes, ActsIn, ActsOn, seats_stayed, heard_calls, heard_told, HearsVisitors, TakesVisitors, Rests, Follows}
use Rattle.grasp_service.specs.Cuts.{CutsOff}
use Rattle.grasp_service.specs.Rounds.{ticks, stirs, woken_crew}
use Rattle.grasp_service.specs.States.{ServiceState, state_of, with_crew, events_told}
use Rattle.grasp_service.specs.declared.cut.Cut.{Cut}
use Rattle.grasp_service.specs.declared.cut.Cut.TheVariants as cut
use Rattle.grasp_service.specs.declared.round.Said.{Said}
use Rattle.grasp_service.specs.declared.service.Service.{Service}

-- some calls, and then some
pub some_some : (a b c : NodeCore) → GoesSome a b → GoesSome b c → GoesSome a c
some_some a b c p q = record { calls = p.calls ++ q.calls; adds = adds_on a b c _ _ p.adds q.adds }

-- ---- agents

-- the agents were woken
pub wakes_on : (a z : Service) (now : ℕ) (came woke : Bool) → woke ≡ stirs (state_of a) now came → z.house.crew.items ≡ woken_crew woke a.house.crew.items → z.ticked ≡ ticks (state_of a) now → z.core ≡ a.core
    → state_of z ≡ record (state_of a) { house = record (state_of a).house { crew = z.house.crew.items }; ticked = z.ticked } → Wakes a now came z
wakes_on a z now came woke w crew ticked core state = record {
  core = core;
  state = state ∙ ap (λ l. record (state_of a) { house = record (state_of a).house { crew = l }; ticked = z.ticked }) (crew ∙ ap (λ s. woken_crew s a.house.crew.items) w)
      ∙ ap (λ t. record (state_of a) { house = record (state_of a).house { crew = woken_agents a now came }; ticked = t }) ticked;
}

module _ {B : Type 0} (stands : B → DiskLog → Type 0) (faults : B → ℕ) where
  -- they acted
  pub acts_in : (x : Result (Unit {0}) Cut) (a z : Service) (s t : ShelfState B) (now : ℕ)
      → MatchResult x (λ _. ActsAll stands faults a.core a.house.crew.items s now z.core z.house.crew.items t)
      (λ why. CutsOff stands faults a.core now a.house.crew.items s why z.core t)
      → state_of z ≡ with_crew (state_of a) z.house.crew.items → MatchResult x (λ _. ActsIn stands faults a s now z t)
      (λ why. CutsOff stands faults a.core now a.house.crew.items s why z.core t)
  acts_in (Ok u) a z s t now p is = record { acts = p; state = is }
  acts_in (Err why) a z s t now p is = p

  -- they were woken, and acted
  acts_on : (a w z : Service) (s t : ShelfState B) (now : ℕ) (came : Bool) → Wakes a now came w → ActsIn stands faults w s now z t
      → ActsOn stands faults a s now came z t
  acts_on a w z s t now came woke p =
      let crew : w.house.crew.items ≡ woken_agents a now came = ap (λ (x : ServiceState). x.house.crew) woke.state in
      let acts = p.acts in
      record {
        deeds = acts.deeds;
        count = acts.count ∙ ap (λ l. length l) crew;
        each = subst (λ l. Each (IsDeed now) l acts.deeds) crew acts.each;
        adds = subst (λ n. Adds n (each_adds (deed_calls now) 1 (woken_agents a now came) acts.deeds) z.core) woke.core
            (subst (λ l. Adds w.core (each_adds (deed_calls now) 1 l acts.deeds) z.core) crew acts.adds);
        state = p.state ∙ ap (λ (x : ServiceState). with_crew x z.house.crew.items) woke.state
            ∙ ap (λ l. record (state_of a) { house = record (state_of a).house { crew = l }; ticked = ticks (state_of a) now })
            (acts.crew_is ∙ ap (λ l. each_after (after_deed now) l acts.deeds) crew);
        kept = subst (λ l. KeptOn stands faults s (kept_deeds now l acts.deeds) t) crew acts.kept;
      }

  pub acting : (x : Result (Unit {0}) Cut) (a w z : Service) (s t : ShelfState B) (now : ℕ) (came : Bool) → Wakes a now came w
      → MatchResult x (λ _. ActsIn stands faults w s now z t) (λ why. CutsOff stands faults w.core now w.house.crew.items s why z.core t)
      → MatchResult x (λ _. ActsOn stands faults a s now came z t) (λ why. CutsOff stands faults a.core now (woken_agents a now came) s why z.core t)
  acting (Ok u) a w z s t now came woke p = acts_on a w z s t now came woke p
  acting (Err why) a w z s t now came woke p =
      let crew : w.house.crew.items ≡ woken_agents a now came = ap (λ (x : ServiceState). x.house.crew) woke.state in
      subst (λ n. CutsOff stands faults n now (woken_agents a now came) s why z.core t) woke.core
      (subst (λ l. CutsOff stands faults w.core now l s why z.core t) crew p)

-- ---- visitors

-- what came was taken, and each seat seen to
pub visitors_heard : (a z : Service) (b c : NodeCore) (h : House) (others news : List SeatState) (first lines more : List Line) (k l : DeskTold) (now : ℕ) (some : Bool)
    → TakesVisits a.core a.house a.seats.items first k now some b h others lines l → TendsAll b others lines now c news more
    → z.core ≡ c → house_of z.house ≡ house_of h → z.seats.items ≡ filter stays news → state_of z ≡ record (state_of a) { house = house_of z.house; seats = z.seats.items }
    → HearsVisitors a first k now some z more l
visitors_heard a z b c h others news first lines more k l now some p q same house kept state =
    let visits = p.visits in
    let replies = q.replies in
    let seats : z.seats.items ≡ seats_stayed a now visits replies =
    kept ∙ ap (λ ss. filter stays ss) (q.seats_are ∙ ap (λ ss. each_after (tended now) ss replies) p.seats_are) in
    record {
      visits = visits;
      replies = replies;
      mean = p.mean;
      seen = q.count ∙ ap (λ ss. length ss) p.seats_are;
      adds = λ agents. subst (λ n. Adds a.core (heard_calls a now visits replies agents) n) (sym same)
          (adds_on a.core b c _ _ (p.adds agents) (subst (λ ss. Adds b (each_adds (λ place. tend_calls agents now) 0 ss replies) c) p.seats_are (q.adds agents)));
      state = state ∙ ap (λ x. record (state_of a) { house = x; seats = z.seats.items }) (house ∙ p.house_is)
          ∙ ap (λ ss. record (state_of a) { house = house_after now a.seats.items (state_of a).house visits; seats = ss }) seats;
      told = q.told ∙ ap (λ x. x ++ each_adds (λ place. tended_told now) 0 others replies) p.told
          ∙ append_assoc first (all_visit_told now a.seats.items (state_of a).house visits) (each_adds (λ place. tended_told now) 0 others replies)
          ∙ ap (λ ss. first ++ (all_visit_told now a.seats.items (state_of a).house visits ++ each_adds (λ place. tended_told now) 0 ss replies)) p.seats_are;
      some_is = p.some_is;
      came = p.came;
    }

-- visits were taken, and then memory was wanted
pub visits_cut : (a : NodeCore) (h : House) (seats : List SeatState) (first : List Line) (k : DeskTold) (now : ℕ) (some : Bool) (b c : NodeCore) (after : House) (others : List SeatState) (lines : List Line) (l : DeskTold)
    → TakesVisits a h seats first k now some b after others lines l → GoesSome b c → GoesSome a c
visits_cut a h seats first k now some b c after others lines l p q = some_some a b c (record { calls = all_visit_calls 0 now seats p.visits; adds = p.adds 0 }) q

pub ruleset hearing = (visitors_heard, visits_cut)

-- the lines of events
pub visitors_taken : (a z : Service) (lines : List Line) (k l : DeskTold) (now : ℕ) (some : Bool) (said : Said) (events : List (List ℕ))
    → HearsVisitors a [] k now some z lines l → said.lines ≡ lines ++ events_told z.seats.items events → said.some ≡ some → TakesVisitors a k now said z l
visitors_taken a z lines k l now some said events p all has =
    let seats : z.seats.items ≡ seats_stayed a now p.visits p.replies = ap (λ (t : ServiceState). t.seats) p.state in
    record {
      visits = p.visits;
      replies = p.replies;
      events = events;
      mean = p.mean;
      seen = p.seen;
      adds = p.adds;
      state = p.state;
      told = all ∙ ap (λ x. x ++ events_told z.seats.items events) p.told ∙ ap (λ ss. heard_told a now p.visits p.replies ++ events_told ss events) seats;
      some = has ∙ p.some_is;
      came = p.came;
    }

-- visitors were heard, and then memory was wanted
pub heard_cut : (a z : Service) (first lines : List Line) (k l : DeskTold) (now : ℕ) (some : Bool) → HearsVisitors a first k now some z lines l → GoesSome a.core z.core
heard_cut a z first lines k l now some p = record { calls = heard_calls a now p.visits p.replies 0; adds = p.adds 0 }

pub ruleset taking = (visitors_taken, heard_cut)

-- ---- all of it

module _ {B : Type 0} (stands : B → DiskLog → Type 0) (faults : B → ℕ) where
  pub follows_all : (a d v z : Service) (s t : ShelfState B) (k l m : DeskTold) (now : ℕ) (came stops : Bool) (said : Said)
      → ActsOn stands faults a s now came d t → TakesVisitors d k now said v l
      → TellsOnly l said.lines m → Rests v now said.some z → stops ≡ z.house.stopping → Follows stands faults a s k now came stops z t m
  follows_all a d v z s t k l m now came stops said p q r u e = record {
    acted = d;
    taken = v;
    said = said;
    middle = l;
    acts = p;
    takes = q;
    tells = r;
    rests = u;
    stops_is = e;
  }

  -- the agents acted, and then memory was wanted
  pub acted_cut : (a d : Service) (c : NodeCore) (s t : ShelfState B) (now : ℕ) (came : Bool) → ActsOn stands faults a s now came d t → GoesSome d.core c
      → CutsOff stands faults a.core now (woken_agents a now came) s cut.OutOfMemory c t
  acted_cut a d c s t now came p q = record {
    some = some_some a.core d.core c (record { calls = each_adds (deed_calls now) 1 (woken_agents a now came) p.deeds; adds = p.adds }) q;
    is = tt;
  }

pub ruleset following = (follows_all, acted_cut)
