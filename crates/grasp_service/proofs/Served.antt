-- A node that serves, from its opening to its end.
use Rattle.std.proofs.Common.{◌≡◌, ℕ, List, [], ◌∷◌, ◌++◌, length, refl, sym, ap, ◌∙◌, subst, inl, inr, Option, Bool, true, arith}
use Rattle.grasp_crew.specs.declared.servant.Servant.{Servant}
use Rattle.grasp_desk.specs.declared.desk.DeskPlan.{DeskPlan}
use Rattle.grasp_disk.specs.Calls.{DiskLog}
use Rattle.grasp_io.specs.declared.links.LinkPlan.{LinkPlan}
use Rattle.grasp_model_node.specs.Node.{first_node}
use Rattle.grasp_node_main.specs.Program.{NothingPassed}
use Rattle.grasp_node_main.specs.Tells.{LinksTold, Told, told}
use Rattle.grasp_node_main.specs.Turns.{turn_calls, loop_call}
use Rattle.grasp_shared.proofs.Adding.{adds_on}
use Rattle.grasp_shared.specs.Adding.{Adds}
use Rattle.grasp_shared.specs.History.{Reaches}
use Rattle.grasp_shelf.proofs.Keeping.{kept_then}
use Rattle.grasp_shelf.specs.Shelves.{ShelfState, KeptOn}
use Rattle.grasp_store.specs.declared.fault.KeepFault.{KeepFault}
use Rattle.grasp_types.specs.declared.traffic.Input.TheVariants as input
use Rattle.grasp_node_main.proofs.Told.{stays_same}
use Rattle.grasp_service_visits.specs.Desks.{DeskTold}
use Rattle.grasp_service_visits.specs.Each.{each_after, each_adds, Each}
use Rattle.grasp_service.proofs.Rounds.{went_more}
use Rattle.grasp_service.specs.Cuts.{FailsAsked, IsCut, IsCutAsking}
use Rattle.grasp_service.specs.Keeping.{kept_opening, opening_of}
use Rattle.grasp_service.specs.Openings.{IsOpening, opening_calls, opened, BeginsService}
use Rattle.grasp_service.specs.Plans.{crew_of}
use Rattle.grasp_service.specs.Rounds.{CutFor, crew_in}
use Rattle.grasp_service.specs.Rounds.{Outside, outside, WentOn, Went, Ends, AreRounds, TellsRounds, all_round_calls, rounds_after}
use Rattle.grasp_service.specs.Rounds.{kept_rounds}
use Rattle.grasp_service.specs.Served.{BeganPlan, Stopped, WentShort, ServedOn, FallsShort, ServesOpen, FallsShortOpen, StopsOn, StopsOpen}
use Rattle.grasp_service.specs.Served.{ServesBegun, StopsLater, StopsBegun, Serves, FallsShortServing, ServesShort, ServesKept, StopsServing}
use Rattle.grasp_service.specs.Served.{NobodyCame, NoRound}
use Rattle.grasp_service.specs.Served.{StopsShort, OpensDoors, OpensLinks, OpensDesk, all_opening_calls, opened_state}
use Rattle.grasp_service.specs.States.{ServiceState, state_of, first_state, with_crew}
use Rattle.grasp_service.specs.declared.cut.Cut.{Cut}
use Rattle.grasp_service.specs.declared.cut.Cut.TheVariants as cut
use Rattle.grasp_service.specs.declared.plan.ServicePlan.{ServicePlan}
use Rattle.grasp_service.specs.declared.service.Service.{Service}
use Rattle.grasp_service.specs.declared.service_end.ServiceEnd.TheVariants as ends

module _ {B : Type 0} (stands : B → DiskLog → Type 0) (faults : B → ℕ) where
  -- a round more, in which the node was stopped
  pub stopped_more : (a b c : Service) (s t u : ShelfState B) (x y z : Outside) (stops : Bool) → Went stands faults a s x b t y
      → WentOn stands faults b t y stops c u z → stops ≡ true
      → Stopped stands faults a s x c u z
  stopped_more a b c s t u x y z stops p q e = record { went = went_more stands faults a b c s t u x y z stops p q; stopping = sym q.stops_is ∙ e }

  -- rounds, and one that was cut short
  pub cut_short : (a b c : Service) (s t u : ShelfState B) (x y : Outside) (z : Told) (why : Cut) → Went stands faults a s x b t y
      → CutFor stands faults b t y.links why c u z
      → WentShort stands faults a s x why c u z
  cut_short a b c s t u x y z why p q = record { service = b; shelf = t; outside = y; went = p; cut = q.cut; is = q.is }

  -- rounds, and the last drain
  pub served_on : (a b c : Service) (s t : ShelfState B) (x y : Outside) (links : LinksTold) → Stopped stands faults a s x b t y → Ends b y.links.links c links
      → ServedOn stands faults a s x t (outside (record { readings = y.links.readings; links = links }) y.desk)
  served_on a b c s t x y links p q = record {
    rounds = p.went.rounds;
    last = q.last;
    core = c.core;
    middle = y;
    are = p.went.are;
    adds = adds_on a.core b.core c.core _ _ p.went.adds
        (subst (λ (k : ServiceState). Adds b.core (loop_call k.reading (input.Drain 320) q.last ∷ []) c.core) p.went.state q.adds);
    stopped = sym (ap (λ (k : ServiceState). k.house.stopping) p.went.state) ∙ p.stopping;
    tells = p.went.tells;
    readings = refl;
    hands = q.hands;
    desk = refl;
    kept = p.went.kept;
  }

  -- rounds, and one that was cut short
  pub stops_on : (a c : Service) (s t : ShelfState B) (x : Outside) (z : Told) (desk : DeskTold) (why : Cut) → WentShort stands faults a s x why c t z
      → StopsOn stands faults a s x why t (outside z desk)
  stops_on a c s t x z desk why p = record {
    falls = record {
      rounds = p.went.rounds;
      wait = p.cut.wait;
      turn = p.cut.turn;
      rest = p.cut.rest;
      core = c.core;
      middle = p.outside;
      are = p.went.are;
      adds = adds_on a.core p.service.core c.core _ _ p.went.adds p.cut.adds;
      tells = p.went.tells;
      tells_turn = p.cut.tells;
    };
    shelf = p.shelf;
    kept = p.went.kept;
    is = subst (λ k. IsCut stands faults p.cut.turn.now (crew_in k p.cut.turn) p.shelf why t) p.went.state p.is;
  }

  pub falls_short : (a c : Service) (s t : ShelfState B) (x : Outside) (z : Told) (desk : DeskTold) (why : Cut) → WentShort stands faults a s x why c t z
      → FallsShort a x (outside z desk)
  falls_short a c s t x z desk why p = (stops_on a c s t x z desk why p).falls

pub ruleset serving_on = (served_on, falls_short, stops_on)

-- the doors were opened
opens_doors : (joining : LinkPlan) (doors : DeskPlan) (readings : Option (List ℕ)) (x y : LinksTold) (k l : DeskTold) → OpensLinks joining x y → OpensDesk doors k l
    → OpensDoors joining doors (outside (told readings x) k) (outside (told readings y) l)
opens_doors joining doors readings x y k l p q = record { links = p; readings = refl; desk = q }

pub serves_open : {B : Type 0} (stands : B → DiskLog → Type 0) (faults : B → ℕ) (s : Service) (joining : LinkPlan) (doors : DeskPlan) (a b : ShelfState B)
    (readings : Option (List ℕ)) (x y : LinksTold) (k l : DeskTold) (after : Outside)
    → OpensLinks joining x y → OpensDesk doors k l → ServedOn stands faults s a (outside (told readings y) l) b after
    → ServesOpen stands faults s joining doors a (outside (told readings x) k) b after
serves_open stands faults s joining doors a b readings x y k l after p q r = record {
  ready = outside (told readings y) l;
  opens = opens_doors joining doors readings x y k l p q;
  served = r;
}

pub falls_open : (s : Service) (joining : LinkPlan) (doors : DeskPlan) (readings : Option (List ℕ)) (x y : LinksTold) (k l : DeskTold) (after : Outside) → OpensLinks joining x y → OpensDesk doors k l
    → FallsShort s (outside (told readings y) l) after → FallsShortOpen s joining doors (outside (told readings x) k) after
falls_open s joining doors readings x y k l after p q r = record { ready = outside (told readings y) l; opens = opens_doors joining doors readings x y k l p q; falls = r }

pub stops_open : {B : Type 0} (stands : B → DiskLog → Type 0) (faults : B → ℕ) (s : Service) (joining : LinkPlan) (doors : DeskPlan) (a b : ShelfState B)
    (why : Cut) (readings : Option (List ℕ)) (x y : LinksTold) (k l : DeskTold) (after : Outside)
    → OpensLinks joining x y → OpensDesk doors k l → StopsOn stands faults s a (outside (told readings y) l) why b after
    → StopsOpen stands faults s joining doors a (outside (told readings x) k) why b after
stops_open stands faults s joining doors a b why readings x y k l after p q r = record {
  ready = outside (told readings y) l;
  opens = opens_doors joining doors readings x y k l p q;
  stops = r;
}

-- they couldn't be
nobody_same : (k : DeskTold) → NobodyCame k k
nobody_same k = record { asks = refl; given = stays_same k.given; told = stays_same k.told; came = refl; faults = omega arith }

pub no_links : (readings : Option (List ℕ)) (x y : LinksTold) (k : DeskTold) → NothingPassed x y → NoRound (outside (told readings x) k) (outside (told readings y) k)
no_links readings x y k p = record { links = p; readings = refl; desk = nobody_same k }

pub no_desk : (readings : Option (List ℕ)) (x y : LinksTold) (k l : DeskTold) → NothingPassed x y → NobodyCame k l
    → NoRound (outside (told readings x) k) (outside (told readings y) l)
no_desk readings x y k l p q = record { links = p; readings = refl; desk = q }

pub ruleset opening = (serves_open, falls_open, no_links, no_desk)

-- the node was opened and begun
pub began : (p : ServicePlan) (a b : Service) → Reaches (first_node p.node) [] a.core → state_of a ≡ first_state p → BeginsService a b → BeganPlan p b
began p a b r s q =
    let crew : a.house.crew.items ≡ crew_of p = ap (λ (t : ServiceState). t.house.crew) s in
    let replies = q.begins.replies in
    record {
      replies = replies;
      opened = record { count = q.begins.count ∙ ap (λ c. length c) crew; each = subst (λ c. Each IsOpening c replies) crew q.begins.each };
      reached = subst (λ c. Adds a.core (each_adds opening_calls 1 c replies) b.core) crew q.begins.adds (first_node p.node) [] r;
      state =
          q.state ∙ ap (λ c. with_crew (state_of a) c) (q.begins.crew_is ∙ ap (λ c. each_after opened c replies) crew)
          ∙ ap (λ (t : ServiceState). with_crew t (each_after opened (crew_of p) replies)) s;
    }

-- and served
unfoldable pub serves : {B : Type 0} (stands : B → DiskLog → Type 0) (faults : B → ℕ) (p : ServicePlan) (s : Service) (joining : LinkPlan)
    (doors : DeskPlan) (a b : ShelfState B) (x y : Outside) → BeganPlan p s
    → ServesOpen stands faults s joining doors a x b y → Serves p joining doors x y
serves stands faults p s joining doors a b x y began o =
    let t = o.served in
    let adds =
    subst (λ (z : ServiceState). Adds s.core
    (all_round_calls z t.rounds ++ loop_call (rounds_after z t.rounds).reading (input.Drain 320) t.last ∷ []) t.core) began.state t.adds in
    let r = adds (first_node p.node) (all_opening_calls p began.replies) began.reached in
    record {
      replies = began.replies;
      rounds = t.rounds;
      last = t.last;
      to = r.to;
      opened = began.opened;
      are = subst (λ z. AreRounds z t.rounds) began.state t.are;
      stopped = subst (λ (z : ServiceState). (rounds_after z t.rounds).house.stopping ≡ true) began.state t.stopped;
      legal = r.legal;
      ready = o.ready;
      middle = t.middle;
      opens = o.opens;
      tells = subst (λ z. TellsRounds o.ready z t.rounds t.middle) began.state t.tells;
      readings = t.readings;
      hands = t.hands;
      desk = t.desk;
    }

-- and its store was asked
pub serves_kept : {B : Type 0} (stands : B → DiskLog → Type 0) (faults : B → ℕ) (p : ServicePlan) (s : Service) (joining : LinkPlan) (doors : DeskPlan)
    (a b : ShelfState B) (x y : Outside) → BeganPlan p s
    → ServesBegun stands faults s joining doors a x b y → ServesKept stands faults p joining doors a x b y
unfolding serves
serves_kept stands faults p s joining doors a b x y began o =
    let t = o.serves.served in
    let begun : KeptOn stands faults a (kept_opening (opened_state p began.replies).house.crew) o.shelf =
    subst (λ (z : ServiceState). KeptOn stands faults a (kept_opening z.house.crew) o.shelf) began.state o.begun in
    let later : KeptOn stands faults o.shelf (kept_rounds (opened_state p began.replies) t.rounds) b =
    subst (λ z. KeptOn stands faults o.shelf (kept_rounds z t.rounds) b) began.state t.kept in
    record {
      serves = serves stands faults p s joining doors o.shelf b x y began o.serves;
      kept = kept_then stands faults a o.shelf b (kept_opening (opened_state p began.replies).house.crew)
          (kept_rounds (opened_state p began.replies) t.rounds) begun later;
    }

pub serves_of : {B : Type 0} (stands : B → DiskLog → Type 0) (faults : B → ℕ) (p : ServicePlan) (joining : LinkPlan) (doors : DeskPlan) (a b : ShelfState B)
    (x y : Outside)
    → ServesKept stands faults p joining doors a x b y → Serves p joining doors x y
serves_of stands faults p joining doors a b x y k = k.serves

-- and fell short
unfoldable pub falls_serving : (p : ServicePlan) (s : Service) (joining : LinkPlan) (doors : DeskPlan) (x y : Outside) → BeganPlan p s
    → FallsShortOpen s joining doors x y → FallsShortServing p joining doors x y
falls_serving p s joining doors x y b o =
    let t = o.falls in
    let adds = subst (λ (z : ServiceState). Adds s.core (all_round_calls z t.rounds ++ (turn_calls t.turn ++ t.rest)) t.core) b.state t.adds in
    let r = adds (first_node p.node) (all_opening_calls p b.replies) b.reached in
    record {
      replies = b.replies;
      rounds = t.rounds;
      wait = t.wait;
      turn = t.turn;
      rest = t.rest;
      to = r.to;
      opened = b.opened;
      are = subst (λ z. AreRounds z t.rounds) b.state t.are;
      legal = r.legal;
      ready = o.ready;
      middle = t.middle;
      opens = o.opens;
      tells = subst (λ z. TellsRounds o.ready z t.rounds t.middle) b.state t.tells;
      tells_turn = t.tells_turn;
    }

pub serves_short : (p : ServicePlan) (s : Service) (joining : LinkPlan) (doors : DeskPlan) (x y : Outside) → BeganPlan p s → FallsShortOpen s joining doors x y → ServesShort p joining doors x y
serves_short p s joining doors x y b falls = inr (falls_serving p s joining doors x y b falls)

-- for this cause
stops_serving : {B : Type 0} (stands : B → DiskLog → Type 0) (faults : B → ℕ) (p : ServicePlan) (s : Service) (joining : LinkPlan) (doors : DeskPlan)
    (a b : ShelfState B) (x y : Outside) (why : Cut) → BeganPlan p s
    → StopsLater stands faults s joining doors a x why b y → StopsServing stands faults p joining doors a x why b y
unfolding falls_serving
stops_serving stands faults p s joining doors a b x y why began o =
    let t = o.stops.stops in
    let begun : KeptOn stands faults a (kept_opening (opened_state p began.replies).house.crew) o.shelf =
    subst (λ (z : ServiceState). KeptOn stands faults a (kept_opening z.house.crew) o.shelf) began.state o.begun in
    let later : KeptOn stands faults o.shelf (kept_rounds (opened_state p began.replies) t.falls.rounds) t.shelf =
    subst (λ z. KeptOn stands faults o.shelf (kept_rounds z t.falls.rounds) t.shelf) began.state t.kept in
    record {
      falls = falls_serving p s joining doors x y began (record { ready = o.stops.ready; opens = o.stops.opens; falls = t.falls });
      shelf = t.shelf;
      kept = kept_then stands faults a o.shelf t.shelf (kept_opening (opened_state p began.replies).house.crew)
          (kept_rounds (opened_state p began.replies) t.falls.rounds) begun later;
      is = subst (λ z. IsCut stands faults t.falls.turn.now (crew_in (rounds_after z t.falls.rounds) t.falls.turn) t.shelf why b) began.state t.is;
    }

pub stops_short : {B : Type 0} (stands : B → DiskLog → Type 0) (faults : B → ℕ) (p : ServicePlan) (s : Service) (joining : LinkPlan) (doors : DeskPlan)
    (a b : ShelfState B) (x y : Outside) (why : Cut) → BeganPlan p s
    → StopsBegun stands faults s joining doors a x why b y → StopsShort stands faults p joining doors a x why b y
stops_short stands faults p s joining doors a b x y why began (inl at_once) =
    inl (record {
      replies = began.replies;
      opened = began.opened;
      untouched = at_once.0;
      is = subst (λ (z : ServiceState). IsCutAsking stands faults a (opening_of z.house.crew) why b) began.state at_once.1;
    })
stops_short stands faults p s joining doors a b x y why began (inr later) = inr (stops_serving stands faults p s joining doors a b x y why began later)

-- nothing was touched
pub short_untouched : (p : ServicePlan) (joining : LinkPlan) (doors : DeskPlan) (x : Outside) → ServesShort p joining doors x x
short_untouched p joining doors x = inl refl

pub ruleset planning = (serves_kept, serves_short, short_untouched)

-- ---- the store behind the opening calls

module _ {B : Type 0} (stands : B → DiskLog → Type 0) (faults : B → ℕ) where
  pub serves_begun : (s : Service) (joining : LinkPlan) (doors : DeskPlan) (a t b : ShelfState B) (x y : Outside) → KeptOn stands faults a
      (kept_opening s.house.crew.items) t
      → ServesOpen stands faults s joining doors t x b y → ServesBegun stands faults s joining doors a x b y
  serves_begun s joining doors a t b x y p q = record { shelf = t; begun = p; serves = q }

  -- it was asked, and then there was a fault
  pub stops_begun : (s : Service) (crew : List Servant) (joining : LinkPlan) (doors : DeskPlan) (a t b : ShelfState B) (x y : Outside) (why : Cut)
      → crew ≡ s.house.crew.items → KeptOn stands faults a (kept_opening crew) t
      → StopsOpen stands faults s joining doors t x why b y → StopsBegun stands faults s joining doors a x why b y
  stops_begun s crew joining doors a t b x y why same p q =
      inr (record { shelf = t; begun = subst (λ l. KeptOn stands faults a (kept_opening l) t) same p; stops = q })

  -- it has a fault at once, with which the node ends
  pub stops_at_once : (s : Service) (crew : List Servant) (joining : LinkPlan) (doors : DeskPlan) (a b : ShelfState B) (x : Outside) (fault why : KeepFault)
      → crew ≡ s.house.crew.items → FailsAsked stands faults a (opening_of crew) fault b → ends.StoreFault fault ≡ ends.StoreFault why
      → StopsBegun stands faults s joining doors a x (cut.Store why) b x
  stops_at_once s crew joining doors a b x fault why same is e =
      let whys : fault ≡ why = cc in
      inl (
        refl,
        subst (λ k. FailsAsked stands faults a (opening_of s.house.crew.items) k b) whys
            (subst (λ l. FailsAsked stands faults a (opening_of l) fault b) same is),
      )

pub ruleset beginning = (serves_begun)
