-- What visitors change of a house they ordered.
use Rattle.std.proofs.Common.{◌≡◌, refl, sym, ap, ◌∙◌, subst, ◌⊎◌, inl, inr, ℕ, ◌-◌, Bool, true, false, cond, List, [], ◌∷◌, length, Option, Some, None}
use Rattle.std.proofs.lemmas.Bool.{leb-true, ltb-true}
use Rattle.std.specs.List.{AllByRecursion}
use Rattle.std.specs.Prelude.{nat_le, nat_lt}
use Rattle.grasp_config.specs.declared.level.LogLevel.{LogLevel}
use Rattle.grasp_control.specs.Requests.{IsRequestLine}
use Rattle.grasp_control.specs.declared.request.Request.{Request}
use Rattle.grasp_control.specs.declared.request.Request.TheVariants as request
use Rattle.grasp_crew.specs.Nudges.{Wanted}
use Rattle.grasp_crew.specs.Seats.{SeatState, without_await}
use Rattle.grasp_crew.specs.Steward.{StewardState, with_want, without_want}
use Rattle.grasp_crew.specs.declared.servant.Servant.{Servant}
use Rattle.grasp_crew.specs.declared.servant.Servant.TheVariants.{Steward}
use Rattle.grasp_desk.specs.declared.desk.Visiting.{Visiting}
use Rattle.grasp_desk.specs.declared.desk.Visiting.TheVariants as desk
use Rattle.grasp_laws_visits.proofs.Lists.{all_map, both_true}
use Rattle.grasp_laws_visits.specs.Orders.{Change, ChangesWereOrdered, IsChanged, IsCrewChanged, WasOrdered, adds, drops, order_of}
use Rattle.grasp_service_visits.specs.Serving.{HouseState, are_lengths, house_ordered, is_order, is_want, most_wants, want_count, wants_added, wants_dropped, with_want_of, without_want_of}
use Rattle.grasp_service_visits.specs.Visits.{AllMean, IsMeant, Meaning, MeantBy, Said, VisitMeans, Visited, asks, bad, house_after, house_heard, house_visited, said_house, seat_of, seats_visited}
use Rattle.grasp_types.specs.declared.address.Locator.{Locator}

-- ---- one visit

-- a line changed nothing, or it was an order, of a seat that is no guest's
pub record MeansOrder (s : SeatState) (h : HouseState) (line : List ℕ) (new : HouseState) : Type 0 where
  pub order : Request
  pub ordered : new ≡ house_ordered h order
  pub no_guest : s.guest ≡ false
  pub written : IsRequestLine line order

line_orders : (s : SeatState) (h : HouseState) (line : List ℕ) (m : Meaning) → IsMeant line m → (said_house (without_await s) h m ≡ h) ⊎ MeansOrder s h line (said_house (without_await s) h m)
line_orders s h line (asks q) meant = by_order (is_order q) s.guest refl where
  by_order : (order g : Bool) → s.guest ≡ g
      → (cond order (cond g h (house_ordered h q)) h ≡ h) ⊎ MeansOrder s h line (cond order (cond g h (house_ordered h q)) h)
  by_order true true e = inl refl
  by_order true false e = inr (record { order = q; ordered = refl; no_guest = e; written = meant })
  by_order false g e = inl refl
line_orders s h line (bad at) meant = inl refl

-- a visit changed nothing, or it was an order
pub record GaveOrder (now : ℕ) (seats : List SeatState) (h : HouseState) (v : Visited) (vs : List Visited) : Type 0 where
  pub order : Request
  pub ordered : house_visited seats h v.visiting v.said ≡ house_ordered h order
  pub was : WasOrdered now seats (v ∷ vs) order

gave : (now : ℕ) (seats : List SeatState) (h : HouseState) (x : Visiting) (said : Said) (vs : List Visited) → VisitMeans seats x said
    → (house_visited seats h x said ≡ h) ⊎ GaveOrder now seats h (record { visiting = x; said = said }) vs
gave now seats h (desk.Line visitor line) said vs means = by_seat (seat_of visitor seats) refl means where
  by_line : (s : SeatState) → seat_of visitor seats ≡ Some s
      → (said_house (without_await s) h said.meaning ≡ h) ⊎ MeansOrder s h line (said_house (without_await s) h said.meaning)
      → (house_visited seats h (desk.Line visitor line) said ≡ h) ⊎ GaveOrder now seats h (record { visiting = desk.Line visitor line; said = said }) vs
  by_line s e (inl same) = inl (ap (λ (o : Option SeatState). house_heard o h said.meaning) e ∙ same)
  by_line s e (inr o) =
      inr
      (record {
        order = o.order;
        ordered = ap (λ (x : Option SeatState). house_heard x h said.meaning) e ∙ o.ordered;
        was = record { before = []; after = vs; visitor = visitor; line = line; said = said; are = refl; seat = s; sits = e; no_guest = o.no_guest; written = o.written };
      })

  by_seat : (o : Option SeatState) → seat_of visitor seats ≡ o → MeantBy o line said.meaning
      → (house_visited seats h (desk.Line visitor line) said ≡ h) ⊎ GaveOrder now seats h (record { visiting = desk.Line visitor line; said = said }) vs
  by_seat None e meant = inl (ap (λ (o : Option SeatState). house_heard o h said.meaning) e)
  by_seat (Some s) e meant = by_line s e (line_orders s h line said.meaning meant)
gave now seats h _ said vs means = inl refl

-- what was ordered among the later visits was among all of them
later : (now : ℕ) (seats : List SeatState) (v : Visited) (vs : List Visited) (q : Request) → WasOrdered now (seats_visited now seats v.visiting v.said) vs q → WasOrdered now seats (v ∷ vs) q
later now seats v vs q w = record {
  before = v ∷ w.before;
  after = w.after;
  visitor = w.visitor;
  line = w.line;
  said = w.said;
  are = ap (λ (l : List Visited). v ∷ l) w.are;
  seat = w.seat;
  sits = w.sits;
  no_guest = w.no_guest;
  written = w.written;
}

-- ---- what an order changes

abbrev a_want : ℕ → ℕ → Locator → Wanted
a_want least most peer = record { length = least; longest = most; peer = peer }

abbrev house_in : List Servant → LogLevel → Bool → HouseState
house_in crew level stopping = record { crew = crew; level = level; stopping = stopping }

stopping_ordered : (h : HouseState) (q : Request) → ((house_ordered h q).stopping ≡ h.stopping) ⊎ (((house_ordered h q).stopping ≡ true) × (q ≡ request.Stop))
stopping_ordered h (request.Want least most peer) = by_lengths (are_lengths least most) where
  by_lengths : (b : Bool) → ((cond b (record h { crew = wants_added h.crew (a_want least most peer) }) h).stopping ≡ h.stopping)
      ⊎ (((cond b (record h { crew = wants_added h.crew (a_want least most peer) }) h).stopping ≡ true) × (request.Want least most peer ≡ request.Stop))
  by_lengths true = inl refl
  by_lengths false = inl refl
stopping_ordered h request.Stop = inr (refl, refl)
stopping_ordered h _ = inl refl

level_ordered : (h : HouseState) (q : Request) → ((house_ordered h q).level ≡ h.level) ⊎ (q ≡ request.Log (house_ordered h q).level)
level_ordered h (request.Want least most peer) = by_lengths (are_lengths least most) where
  by_lengths : (b : Bool) → ((cond b (record h { crew = wants_added h.crew (a_want least most peer) }) h).level ≡ h.level)
      ⊎ (request.Want least most peer ≡ request.Log (cond b (record h { crew = wants_added h.crew (a_want least most peer) }) h).level)
  by_lengths true = inl refl
  by_lengths false = inl refl
level_ordered h (request.Log level) = inr refl
level_ordered h _ = inl refl

-- an order changed nothing of the agents, or it changed what the first wants
pub record ChangedBy (m : StewardState) (rest : List Servant) (q : Request) (new : List Servant) : Type 0 where
  pub change : Change
  pub first : StewardState
  pub changed : IsChanged m change first
  pub are : new ≡ Steward first ∷ rest
  pub order : q ≡ order_of change

added : (m : StewardState) (rest : List Servant) (w : Wanted)
    → (wants_added (Steward m ∷ rest) w ≡ Steward m ∷ rest) ⊎ ChangedBy m rest (request.Want w.length w.longest w.peer) (wants_added (Steward m ∷ rest) w)
added m rest w = by_room (nat_lt (length m.wants) most_wants) refl where
  by_room : (b : Bool) → nat_lt (length m.wants) most_wants ≡ b
      → (cond b (with_want_of (Steward m ∷ rest) w) (Steward m ∷ rest) ≡ Steward m ∷ rest)
      ⊎ ChangedBy m rest (request.Want w.length w.longest w.peer) (cond b (with_want_of (Steward m ∷ rest) w) (Steward m ∷ rest))
  by_room true e = inr (record { change = adds w; first = with_want m w; changed = (ltb-true (length m.wants) 256 e, refl); are = refl; order = refl })
  by_room false e = inl refl

dropped_of : (m : StewardState) (rest : List Servant) (number : ℕ)
    → (wants_dropped (Steward m ∷ rest) number ≡ Steward m ∷ rest) ⊎ ChangedBy m rest (request.Unwant number) (wants_dropped (Steward m ∷ rest) number)
dropped_of m rest number = by_number (is_want (Steward m ∷ rest) number) refl where
  by_number : (b : Bool) → is_want (Steward m ∷ rest) number ≡ b
      → (cond b (without_want_of (Steward m ∷ rest) (number - 1)) (Steward m ∷ rest) ≡ Steward m ∷ rest)
      ⊎ ChangedBy m rest (request.Unwant number) (cond b (without_want_of (Steward m ∷ rest) (number - 1)) (Steward m ∷ rest))
  by_number true e =
      let both = both_true (nat_lt 0 number) (nat_le number (length m.wants)) e in
      inr
      (record {
        change = drops number;
        first = without_want m (number - 1);
        changed = (ltb-true 0 number both.0, leb-true number (length m.wants) both.1, refl);
        are = refl;
        order = refl;
      })
  by_number false e = inl refl

crew_ordered : (m : StewardState) (rest : List Servant) (level : LogLevel) (stopping : Bool) (q : Request)
    → ((house_ordered (record { crew = Steward m ∷ rest; level = level; stopping = stopping }) q).crew ≡ Steward m ∷ rest)
    ⊎ ChangedBy m rest q (house_ordered (record { crew = Steward m ∷ rest; level = level; stopping = stopping }) q).crew
crew_ordered m rest level stopping (request.Want least most peer) = by_lengths (are_lengths least most) where
  by_lengths : (b : Bool)
      → ((cond b (house_in (wants_added (Steward m ∷ rest) (a_want least most peer)) level stopping) (house_in (Steward m ∷ rest) level stopping)).crew ≡ Steward m ∷ rest)
      ⊎ ChangedBy m rest (request.Want least most peer)
      (cond b (house_in (wants_added (Steward m ∷ rest) (a_want least most peer)) level stopping) (house_in (Steward m ∷ rest) level stopping)).crew
  by_lengths true = added m rest (a_want least most peer)
  by_lengths false = inl refl
crew_ordered m rest level stopping (request.Unwant number) = dropped_of m rest number
crew_ordered m rest level stopping _ = inl refl

-- ---- all visits

abbrev Stops : ℕ → List SeatState → HouseState → List Visited → Bool → Type 0
Stops now seats h vs b = (b ≡ h.stopping) ⊎ ((b ≡ true) × WasOrdered now seats vs request.Stop)

abbrev Levels : ℕ → List SeatState → HouseState → List Visited → LogLevel → Type 0
Levels now seats h vs l = (l ≡ h.level) ⊎ WasOrdered now seats vs (request.Log l)

module _ (now : ℕ) (seats : List SeatState) (h : HouseState) (v : Visited) (vs : List Visited) where
  abbrev others : List SeatState
  others = seats_visited now seats v.visiting v.said

  abbrev next : HouseState
  next = house_visited seats h v.visiting v.said

  stops_ordered : (end : Bool) (o : GaveOrder now seats h v vs) → end ≡ next.stopping
      → ((house_ordered h o.order).stopping ≡ h.stopping) ⊎ (((house_ordered h o.order).stopping ≡ true) × (o.order ≡ request.Stop)) → Stops now seats h (v ∷ vs) end
  stops_ordered end o same (inl e) = inl (same ∙ (ap (λ (x : HouseState). x.stopping) o.ordered ∙ e))
  stops_ordered end o same (inr e) = inr (same ∙ (ap (λ (x : HouseState). x.stopping) o.ordered ∙ e.0), subst (WasOrdered now seats (v ∷ vs)) e.1 o.was)

  stops_visited : (end : Bool) → end ≡ next.stopping → (next ≡ h) ⊎ GaveOrder now seats h v vs → Stops now seats h (v ∷ vs) end
  stops_visited end same (inl e) = inl (same ∙ ap (λ (x : HouseState). x.stopping) e)
  stops_visited end same (inr o) = stops_ordered end o same (stopping_ordered h o.order)

  stops_behind : (end : Bool) → VisitMeans seats v.visiting v.said → Stops now others next vs end → Stops now seats h (v ∷ vs) end
  stops_behind end means (inl e) = stops_visited end e (gave now seats h v.visiting v.said vs means)
  stops_behind end means (inr w) = inr (w.0, later now seats v vs request.Stop w.1)

  levels_ordered : (end : LogLevel) (o : GaveOrder now seats h v vs) → end ≡ next.level
      → ((house_ordered h o.order).level ≡ h.level) ⊎ (o.order ≡ request.Log (house_ordered h o.order).level) → Levels now seats h (v ∷ vs) end
  levels_ordered end o same (inl e) = inl (same ∙ (ap (λ (x : HouseState). x.level) o.ordered ∙ e))
  levels_ordered end o same (inr e) =
      inr (subst (WasOrdered now seats (v ∷ vs)) (e ∙ ap (λ (l : LogLevel). request.Log l) (sym (same ∙ ap (λ (x : HouseState). x.level) o.ordered))) o.was)

  levels_visited : (end : LogLevel) → end ≡ next.level → (next ≡ h) ⊎ GaveOrder now seats h v vs → Levels now seats h (v ∷ vs) end
  levels_visited end same (inl e) = inl (same ∙ ap (λ (x : HouseState). x.level) e)
  levels_visited end same (inr o) = levels_ordered end o same (level_ordered h o.order)

  levels_behind : (end : LogLevel) → VisitMeans seats v.visiting v.said → Levels now others next vs end → Levels now seats h (v ∷ vs) end
  levels_behind end means (inl e) = levels_visited end e (gave now seats h v.visiting v.said vs means)
  levels_behind end means (inr w) = inr (later now seats v vs (request.Log end) w)

stops : (vs : List Visited) (now : ℕ) (seats : List SeatState) (h : HouseState) → AllMean now seats vs → Stops now seats h vs (house_after now seats h vs).stopping
stops [] now seats h mean = inl refl
stops (v ∷ vs) now seats h mean =
    stops_behind now seats h v vs (house_after now (others now seats h v vs) (next now seats h v vs) vs).stopping mean.0
    (stops vs now (others now seats h v vs) (next now seats h v vs) mean.1)

levels : (vs : List Visited) (now : ℕ) (seats : List SeatState) (h : HouseState) → AllMean now seats vs → Levels now seats h vs (house_after now seats h vs).level
levels [] now seats h mean = inl refl
levels (v ∷ vs) now seats h mean =
    levels_behind now seats h v vs (house_after now (others now seats h v vs) (next now seats h v vs) vs).level mean.0
    (levels vs now (others now seats h v vs) (next now seats h v vs) mean.1)

-- these changes led to these agents, and each was ordered
pub record Crews (now : ℕ) (seats : List SeatState) (vs : List Visited) (m : StewardState) (rest : List Servant) (end : List Servant) : Type 0 where
  pub changes : List Change
  pub changed : IsCrewChanged m rest changes end
  pub ordered : AllByRecursion (λ (c : Change). WasOrdered now seats vs (order_of c)) changes

module _ (now : ℕ) (seats : List SeatState) (h : HouseState) (v : Visited) (vs : List Visited) (rest end : List Servant)
    (hyp : (m : StewardState) → (next now seats h v vs).crew ≡ Steward m ∷ rest → Crews now (others now seats h v vs) vs m rest end) where
  lifted : (changes : List Change) → AllByRecursion (λ (c : Change). WasOrdered now (others now seats h v vs) vs (order_of c)) changes
      → AllByRecursion (λ (c : Change). WasOrdered now seats (v ∷ vs) (order_of c)) changes
  lifted changes all =
      all_map (λ (c : Change). WasOrdered now (others now seats h v vs) vs (order_of c)) (λ (c : Change). WasOrdered now seats (v ∷ vs) (order_of c)) changes
      (λ c w. later now seats v vs (order_of c) w) all

  crew_same : (m : StewardState) → (next now seats h v vs).crew ≡ Steward m ∷ rest → Crews now seats (v ∷ vs) m rest end
  crew_same m e = let r = hyp m e in record { changes = r.changes; changed = r.changed; ordered = lifted r.changes r.ordered }

  crew_changed : (m : StewardState) (o : GaveOrder now seats h v vs) → ChangedBy m rest o.order (house_ordered h o.order).crew → Crews now seats (v ∷ vs) m rest end
  crew_changed m o c =
      let r = hyp c.first (ap (λ (x : HouseState). x.crew) o.ordered ∙ c.are) in
      record {
        changes = c.change ∷ r.changes;
        changed = record { first = r.changed.first; changed = (c.first, c.changed, r.changed.changed); are = r.changed.are };
        ordered = (subst (WasOrdered now seats (v ∷ vs)) c.order o.was, lifted r.changes r.ordered);
      }

  crew_by : (m : StewardState) (o : GaveOrder now seats h v vs)
      → ((house_ordered h o.order).crew ≡ Steward m ∷ rest) ⊎ ChangedBy m rest o.order (house_ordered h o.order).crew → Crews now seats (v ∷ vs) m rest end
  crew_by m o (inl e) = crew_same m (ap (λ (x : HouseState). x.crew) o.ordered ∙ e)
  crew_by m o (inr c) = crew_changed m o c

  at_crew : (m : StewardState) (q : Request) → h.crew ≡ Steward m ∷ rest → ((house_ordered h q).crew ≡ Steward m ∷ rest) ⊎ ChangedBy m rest q (house_ordered h q).crew
  at_crew m q is =
      subst (λ (crew : List Servant). ((house_ordered (house_in crew h.level h.stopping) q).crew ≡ Steward m ∷ rest)
      ⊎ ChangedBy m rest q (house_ordered (house_in crew h.level h.stopping) q).crew) (sym is)
      (crew_ordered m rest h.level h.stopping q)

  crew_visited : (m : StewardState) → h.crew ≡ Steward m ∷ rest → (next now seats h v vs ≡ h) ⊎ GaveOrder now seats h v vs → Crews now seats (v ∷ vs) m rest end
  crew_visited m is (inl e) = crew_same m (ap (λ (x : HouseState). x.crew) e ∙ is)
  crew_visited m is (inr o) = crew_by m o (at_crew m o.order is)

crews : (vs : List Visited) (now : ℕ) (seats : List SeatState) (h : HouseState) (m : StewardState) (rest : List Servant) → AllMean now seats vs → h.crew ≡ Steward m ∷ rest
    → Crews now seats vs m rest (house_after now seats h vs).crew
crews [] now seats h m rest mean is = record { changes = []; changed = record { first = m; changed = refl; are = is }; ordered = tt }
crews (v ∷ vs) now seats h m rest mean is =
    crew_visited now seats h v vs rest (house_after now (others now seats h v vs) (next now seats h v vs) vs).crew
    (λ n e. crews vs now (others now seats h v vs) (next now seats h v vs) n rest mean.1 e) m is (gave now seats h v.visiting v.said vs mean.0)

-- ---- agents of which the first doesn't manage prefixes

abbrev IsWithout : List Servant → Type 0
IsWithout crew = (m : StewardState) (rest : List Servant) → ¬ (crew ≡ Steward m ∷ rest)

with_same : (crew : List Servant) (w : Wanted) → IsWithout crew → with_want_of crew w ≡ crew
with_same [] w without = refl
with_same (Steward m ∷ rest) w without = absurd (without m rest refl)
with_same (_ ∷ rest) w without = refl

without_same : (crew : List Servant) (place : ℕ) → IsWithout crew → without_want_of crew place ≡ crew
without_same [] place without = refl
without_same (Steward m ∷ rest) place without = absurd (without m rest refl)
without_same (_ ∷ rest) place without = refl

if_same : (b : Bool) (xs ys : List Servant) → xs ≡ ys → cond b xs ys ≡ ys
if_same true xs ys e = e
if_same false xs ys e = refl

ordered_same : (h : HouseState) (q : Request) → IsWithout h.crew → (house_ordered h q).crew ≡ h.crew
ordered_same h (request.Want least most peer) without = by_lengths (are_lengths least most) where
  by_lengths : (b : Bool) → (cond b (record h { crew = wants_added h.crew (a_want least most peer) }) h).crew ≡ h.crew
  by_lengths true =
      if_same (nat_lt (want_count h.crew) most_wants) (with_want_of h.crew (a_want least most peer)) h.crew (with_same h.crew (a_want least most peer) without)
  by_lengths false = refl
ordered_same h (request.Unwant number) without =
    if_same (is_want h.crew number) (without_want_of h.crew (number - 1)) h.crew (without_same h.crew (number - 1) without)
ordered_same h _ without = refl

said_others : (s : SeatState) (h : HouseState) (m : Meaning) → IsWithout h.crew → (said_house s h m).crew ≡ h.crew
said_others s h (asks q) without = by_order (is_order q) s.guest where
  by_order : (order g : Bool) → (cond order (cond g h (house_ordered h q)) h).crew ≡ h.crew
  by_order true true = refl
  by_order true false = ordered_same h q without
  by_order false g = refl
said_others s h (bad at) without = refl

heard_others : (o : Option SeatState) (h : HouseState) (m : Meaning) → IsWithout h.crew → (house_heard o h m).crew ≡ h.crew
heard_others None h m without = refl
heard_others (Some s) h m without = said_others (without_await s) h m without

visited_others : (seats : List SeatState) (h : HouseState) (x : Visiting) (said : Said) → IsWithout h.crew → (house_visited seats h x said).crew ≡ h.crew
visited_others seats h (desk.Line visitor line) said without = heard_others (seat_of visitor seats) h said.meaning without
visited_others seats h _ said without = refl

all_others : (vs : List Visited) (now : ℕ) (seats : List SeatState) (h : HouseState) → IsWithout h.crew → (house_after now seats h vs).crew ≡ h.crew
all_others [] now seats h without = refl
all_others (v ∷ vs) now seats h without =
    let e : (house_visited seats h v.visiting v.said).crew ≡ h.crew = visited_others seats h v.visiting v.said without in
    all_others vs now (seats_visited now seats v.visiting v.said) (house_visited seats h v.visiting v.said)
    (λ m rest is. without m rest (sym e ∙ is)) ∙ e

pub changes_were_ordered : ChangesWereOrdered
changes_were_ordered = record {
  stopping = λ now seats h vs mean. stops vs now seats h mean;
  level = λ now seats h vs mean. levels vs now seats h mean;
  crew = λ now seats h vs m rest mean is.
      let r : Crews now seats vs m rest (house_after now seats h vs).crew = crews vs now seats h m rest mean is in
      (r.changes, r.changed, r.ordered);
  others = λ now seats h vs without. all_others vs now seats h without;
}
