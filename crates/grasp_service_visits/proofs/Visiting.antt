-- What comes of visitors, one after the other.
use Rattle.std.proofs.Common.{◌≡◌, ◌≤◌, ◌<◌, ◌+◌, ℕ, List, [], ◌∷◌, ◌++◌, refl, sym, ap, ◌∙◌, subst, arith, append_assoc, Bool, true, false, ◌||◌, Result, Ok, Err, inl, inr, length}
use Rattle.std.specs.Prelude.{MatchResult}
use Rattle.std.proofs.lemmas.List.{append-nil, length-append}
use Rattle.grasp_cbor.specs.declared.memory.OutOfMemory.{OutOfMemory as Starved}
use Rattle.grasp_core.specs.declared.node_core.NodeCore.{NodeCore}
use Rattle.grasp_crew.specs.Seats.{SeatState}
use Rattle.grasp_desk.specs.declared.desk.Told.{Told}
use Rattle.grasp_desk.specs.declared.desk.Visiting.{Visiting}
use Rattle.grasp_desk.specs.declared.desk.Visiting.TheVariants.{Came, Line, Left, Nothing, OutOfMemory}
use Rattle.grasp_shared.proofs.Adding.{adds_on, adds_nothing}
use Rattle.grasp_shared.specs.Adding.{Adds}
use Rattle.grasp_desk.specs.Desk.{IsNext, Gives}
use Rattle.grasp_io.specs.Memory.{one_more}
use Rattle.grasp_io.specs.Told.{Stays}
use Rattle.grasp_service_visits.proofs.Desks.{rests_same, visits_one, visits_on, came_once, came_nothing}
use Rattle.grasp_service_visits.proofs.Going.{visit_adds}
use Rattle.grasp_service_visits.proofs.Hearing.{nothing_visits, starved_visits}
use Rattle.grasp_service_visits.specs.Calling.{GoesSome}
use Rattle.grasp_service_visits.specs.Desks.{DeskTold, is_visit, DeskRests, AsksInVain, VisitsOnce, VisitsAll}
use Rattle.grasp_service_visits.specs.Serving.{HouseState, house_of}
use Rattle.grasp_service_visits.specs.Visits.{TakesSome, TakesNothing, TakesOnce}
use Rattle.grasp_service_visits.specs.Visits.{Visited, TakesVisits, AllMean, visitings, has_some, seats_visited, house_visited, visit_calls, visit_told, seats_after, house_after, all_visit_calls, all_visit_told}
use Rattle.grasp_service_visits.specs.Parts.{Visits, TakesIn}
use Rattle.grasp_service_visits.specs.declared.house.House.{House}

true_is_false : true ≡ false → ⊥
true_is_false e = cc

-- ---- one list behind another

visitings_both : (vs ws : List Visited) → visitings (vs ++ ws) ≡ visitings vs ++ visitings ws
visitings_both [] ws = refl
visitings_both (v ∷ vs) ws = ap (λ l. v.visiting ∷ l) (visitings_both vs ws)

seats_both : (now : ℕ) (seats : List SeatState) (vs ws : List Visited) → seats_after now seats (vs ++ ws) ≡ seats_after now (seats_after now seats vs) ws
seats_both now seats [] ws = refl
seats_both now seats (v ∷ vs) ws = seats_both now (seats_visited now seats v.visiting v.said) vs ws

house_both : (now : ℕ) (seats : List SeatState) (h : HouseState) (vs ws : List Visited)
    → house_after now seats h (vs ++ ws) ≡ house_after now (seats_after now seats vs) (house_after now seats h vs) ws
house_both now seats h [] ws = refl
house_both now seats h (v ∷ vs) ws = house_both now (seats_visited now seats v.visiting v.said) (house_visited seats h v.visiting v.said) vs ws

calls_both : (agents now : ℕ) (seats : List SeatState) (vs ws : List Visited)
    → all_visit_calls agents now seats (vs ++ ws) ≡ all_visit_calls agents now seats vs ++ all_visit_calls agents now (seats_after now seats vs) ws
calls_both agents now seats [] ws = refl
calls_both agents now seats (v ∷ vs) ws =
    let next : List SeatState = seats_visited now seats v.visiting v.said in
    let first = visit_calls agents now seats v.visiting v.said in
    ap (λ l. first ++ l) (calls_both agents now next vs ws)
    ∙ sym (append_assoc first (all_visit_calls agents now next vs) (all_visit_calls agents now (seats_after now next vs) ws))

told_both : (now : ℕ) (seats : List SeatState) (h : HouseState) (vs ws : List Visited)
    → all_visit_told now seats h (vs ++ ws) ≡ all_visit_told now seats h vs ++ all_visit_told now (seats_after now seats vs) (house_after now seats h vs) ws
told_both now seats h [] ws = refl
told_both now seats h (v ∷ vs) ws =
    let next : List SeatState = seats_visited now seats v.visiting v.said in
    let after : HouseState = house_visited seats h v.visiting v.said in
    let first = visit_told h.crew after.crew seats v.visiting v.said in
    ap (λ l. first ++ l) (told_both now next after vs ws)
    ∙ sym (append_assoc first (all_visit_told now next after vs) (all_visit_told now (seats_after now next vs) (house_after now next after vs) ws))

mean_both : (now : ℕ) (seats : List SeatState) (vs ws : List Visited) → AllMean now seats vs → AllMean now (seats_after now seats vs) ws
    → AllMean now seats (vs ++ ws)
mean_both now seats [] ws p q = q
mean_both now seats (v ∷ vs) ws p q = (p.0, mean_both now (seats_visited now seats v.visiting v.said) vs ws p.1 q)

some_both : (vs ws : List Visited) → has_some (vs ++ ws) ≡ (has_some vs || has_some ws)
some_both [] ws = refl
some_both (v ∷ vs) ws = refl

-- ---- what was taken

-- nothing came
pub takes_none : (core : NodeCore) (house : House) (seats : List SeatState) (lines : List Told) (old new : DeskTold) (now : ℕ) → DeskRests old new
    → TakesSome 0 core house seats lines old now false core house seats lines new
takes_none core house seats lines old new now p = record {
  visits = [];
  count_is = refl;
  mean = tt;
  adds = λ agents. adds_nothing core;
  seats_are = refl;
  house_is = refl;
  told = sym (append-nil lines);
  came = p;
  some_is = refl;
}

-- this came
takes_one : (a b : NodeCore) (house after : House) (seats others : List SeatState) (olds news : List Told) (old new : DeskTold) (now : ℕ) (v : Visiting)
    → Visits a house seats olds now v b after others news → VisitsOnce old v new → TakesSome 1 a house seats olds old now true b after others news new
takes_one a b house after seats others olds news old new now v p q =
    let h : HouseState = house_visited seats (house_of house) v p.said in
    let lines : _ → List Told = λ crew. visit_told house.crew.items crew seats v p.said in
    record {
      visits = record { visiting = v; said = p.said } ∷ [];
      count_is = refl;
      mean = (p.means, tt);
      adds = λ agents. subst (λ l. Adds a l b) (sym (append-nil (visit_calls agents now seats v p.said))) (visit_adds a b now seats v p.said agents p.went);
      seats_are = p.seats_are;
      house_is = p.house_is;
      told = p.told ∙ ap (λ (x : HouseState). olds ++ lines x.crew) p.house_is ∙ ap (λ l. olds ++ l) (sym (append-nil (lines h.crew)));
      came = visits_one old new v q;
      some_is = refl;
    }

-- this was taken, and then that
takes_on : (u v : ℕ) (a b c : NodeCore) (x y z : House) (p q r : List SeatState) (k l m : List Told) (d e f : DeskTold) (now : ℕ) (g h i : Bool)
    → TakesSome u a x p k d now g b y q l e → TakesSome v b y q l e now h c z r m f → i ≡ (g || h) → TakesSome (u + v) a x p k d now i c z r m f
takes_on n j a b c x y z p q r k l m d e f now g h i s t o = record {
  visits = s.visits ++ t.visits;
  count_is =
      ap (λ ws. length ws) (visitings_both s.visits t.visits) ∙ length-append (visitings s.visits) (visitings t.visits)
      ∙ ap (λ o. o + length (visitings t.visits)) s.count_is ∙ ap (λ o. n + o) t.count_is;
  mean = mean_both now p s.visits t.visits s.mean (subst (λ seats. AllMean now seats t.visits) s.seats_are t.mean);
  adds = λ agents.
      subst (λ u. Adds a u c) (sym (calls_both agents now p s.visits t.visits))
      (adds_on a b c _ _ (s.adds agents) (subst (λ seats. Adds b (all_visit_calls agents now seats t.visits) c) s.seats_are (t.adds agents)));
  seats_are = t.seats_are ∙ ap (λ seats. seats_after now seats t.visits) s.seats_are ∙ sym (seats_both now p s.visits t.visits);
  house_is =
      t.house_is ∙ ap (λ seats. house_after now seats (house_of y) t.visits) s.seats_are
      ∙ ap (λ u. house_after now (seats_after now p s.visits) u t.visits) s.house_is ∙ sym (house_both now p (house_of x) s.visits t.visits);
  told =
      t.told ∙ ap (λ lines. lines ++ all_visit_told now q (house_of y) t.visits) s.told
      ∙ append_assoc k (all_visit_told now p (house_of x) s.visits) (all_visit_told now q (house_of y) t.visits)
      ∙ ap (λ lines. k ++ lines)
      (ap (λ seats. all_visit_told now p (house_of x) s.visits ++ all_visit_told now seats (house_of y) t.visits) s.seats_are
      ∙ ap (λ u. all_visit_told now p (house_of x) s.visits ++ all_visit_told now (seats_after now p s.visits) u t.visits) s.house_is
      ∙ sym (told_both now p (house_of x) s.visits t.visits));
  came = subst (λ vs. VisitsAll d vs f) (sym (visitings_both s.visits t.visits)) (visits_on d e f (visitings s.visits) (visitings t.visits) s.came t.came);
  some_is = o ∙ ap (λ u. u || h) s.some_is ∙ ap (λ u. has_some s.visits || u) t.some_is ∙ sym (some_both s.visits t.visits);
}

or_false : (g h : Bool) → h ≡ false → g ≡ (g || h)
or_false true h e = refl
or_false false h e = sym e

or_true : (g h : Bool) → h ≡ true → true ≡ (g || h)
or_true true h e = refl
or_true false h e = sym e

-- so many were taken, and the desk was asked so long
takes_ending : (n : ℕ) (a c : NodeCore) (x z : House) (p r : List SeatState) (k m : List Told) (d e f : DeskTold) (now : ℕ) (g : Bool)
    → TakesSome n a x p k d now g c z r m e → n < 16 → AsksInVain e f → TakesVisits a x p k d now g c z r m f
takes_ending n a c x z p r k m d e f now g s few asks = record {
  visits = s.visits;
  mean = s.mean;
  adds = s.adds;
  seats_are = s.seats_are;
  house_is = s.house_is;
  told = s.told;
  came = record { middle = e; came = s.came; ends = inl (subst (λ o. o < 16) (sym s.count_is) few, asks) };
  some_is = s.some_is;
}

-- and then nothing came
takes_end : (n : ℕ) (a b c : NodeCore) (x y z : House) (p q r : List SeatState) (k l m : List Told) (d e f : DeskTold) (now : ℕ) (g : Bool)
    → TakesSome n a x p k d now g b y q l e → TakesNothing b y q l e now c z r m f → n < 16 → TakesVisits a x p k d now g c z r m f
takes_end n a b c x y z p q r k l m d e f now g s t few =
    let same : n + 0 ≡ n = omega arith in
    let all : TakesSome (n + 0) a x p k d now g c z r m e =
    takes_on n 0 a b c x y z p q r k l m d e e now g false g s t.takes (or_false g false refl) in
    takes_ending n a c x z p r k m d e f now g (subst (λ o. TakesSome o a x p k d now g c z r m e) same all) few t.asks

pub takes_last : (n : ℕ) (a b c : NodeCore) (x y z : House) (p q r : List SeatState) (k l m : List Told) (d e f : DeskTold) (now : ℕ) (g h : Bool)
    → TakesSome n a x p k d now g b y q l e → TakesOnce b y q l e now h c z r m f → h ≡ false → n < 16 → TakesVisits a x p k d now g c z r m f
takes_last n a b c x y z p q r k l m d e f now g false s t o few = takes_end n a b c x y z p q r k l m d e f now g s t few
takes_last n a b c x y z p q r k l m d e f now g true s t o few = absurd (true_is_false o)

-- and then something came
pub takes_next : (n : ℕ) (a b c : NodeCore) (x y z : House) (p q r : List SeatState) (k l m : List Told) (d e f : DeskTold) (now : ℕ) (g h : Bool)
    → TakesSome n a x p k d now g b y q l e → TakesOnce b y q l e now h c z r m f → h ≡ true → TakesSome (n + 1) a x p k d now true c z r m f
takes_next n a b c x y z p q r k l m d e f now g true s t o = takes_on n 1 a b c x y z p q r k l m d e f now g true true s t (or_true g true refl)
takes_next n a b c x y z p q r k l m d e f now g false s t o = absurd (true_is_false (sym o))

-- as many came as are asked for
pub takes_full : (n : ℕ) (a c : NodeCore) (x z : House) (p r : List SeatState) (k m : List Told) (d f : DeskTold) (now : ℕ) (g : Bool)
    → TakesSome n a x p k d now g c z r m f → n ≡ 16 → TakesVisits a x p k d now g c z r m f
takes_full n a c x z p r k m d f now g s full = record {
  visits = s.visits;
  mean = s.mean;
  adds = s.adds;
  seats_are = s.seats_are;
  house_is = s.house_is;
  told = s.told;
  came = record { middle = f; came = s.came; ends = inr (s.count_is ∙ full, refl) };
  some_is = s.some_is;
}

-- and then the history went on
pub takes_cut : (n : ℕ) (a b c : NodeCore) (x y : House) (p q : List SeatState) (k l : List Told) (d e : DeskTold) (now : ℕ) (g : Bool)
    → TakesSome n a x p k d now g b y q l e → GoesSome b c → GoesSome a c
takes_cut n a b c x y p q k l d e now g s t = record { calls = all_visit_calls 0 now p s.visits ++ t.calls; adds = adds_on a b c _ _ (s.adds 0) t.adds }

-- nothing came, so nothing was taken
takes_rest : (a b : NodeCore) (h k : House) (seats others : List SeatState) (olds news : List Told) (old new : DeskTold) (now : ℕ) → b ≡ a
    → house_of k ≡ house_of h → others ≡ seats → news ≡ olds ++ [] → DeskRests old new
    → TakesSome 0 a h seats olds old now false b k others news new
takes_rest a b h k seats others olds news old new now e u o n p = record {
  visits = [];
  count_is = refl;
  mean = tt;
  adds = λ agents. subst (λ x. Adds a [] x) (sym e) (adds_nothing a);
  seats_are = o;
  house_is = u;
  told = n;
  came = p;
  some_is = refl;
}

-- what an asking came to
takes_this : (a b : NodeCore) (h k : House) (seats others : List SeatState) (olds news : List Told) (x y : DeskTold) (now : ℕ) (v : Visiting)
    → Visits a h seats olds now v b k others news
    → y.is_open ≡ x.is_open → Stays x.plans y.plans → y.asks ≡ one_more x.asks → Gives x.given y.given v → Stays x.told y.told → IsNext x.came y.came v → x.faults ≤ y.faults
    → TakesOnce a h seats olds x now (is_visit v) b k others news y
takes_this a b h k seats others olds news x y now (Came visitor guest) q is p c g t n f =
    takes_one a b h k seats others olds news x y now (Came visitor guest) q (came_once x y (Came visitor guest) refl is p c g t n f)
takes_this a b h k seats others olds news x y now (Line visitor line) q is p c g t n f =
    takes_one a b h k seats others olds news x y now (Line visitor line) q (came_once x y (Line visitor line) refl is p c g t n f)
takes_this a b h k seats others olds news x y now (Left visitor) q is p c g t n f =
    takes_one a b h k seats others olds news x y now (Left visitor) q (came_once x y (Left visitor) refl is p c g t n f)
takes_this a b h k seats others olds news x y now Nothing q is p c g t n f = record {
  takes = takes_rest a b h k seats others olds news x x now q.went q.house_is q.seats_are q.told (rests_same x);
  asks = came_nothing x y Nothing refl is p c g t n f;
}
takes_this a b h k seats others olds news x y now OutOfMemory q is p c g t n f = record {
  takes = takes_rest a b h k seats others olds news x x now q.went q.house_is q.seats_are q.told (rests_same x);
  asks = came_nothing x y OutOfMemory refl is p c g t n f;
}

pub takes_in : (r : Result Bool Starved) (a b : NodeCore) (h k : House) (seats others : List SeatState) (olds news : List Told) (x y : DeskTold) (now : ℕ)
    (v : Visiting)
    → MatchResult r (λ some. TakesIn a h seats olds now v some b k others news) (λ _. GoesSome a b)
    → y.is_open ≡ x.is_open → Stays x.plans y.plans → y.asks ≡ one_more x.asks → Gives x.given y.given v → Stays x.told y.told → IsNext x.came y.came v → x.faults ≤ y.faults
    → MatchResult r (λ some. TakesOnce a h seats olds x now some b k others news y) (λ _. GoesSome a b)
takes_in (Ok some) a b h k seats others olds news x y now v q is p c g t n f =
    subst (λ u. TakesOnce a h seats olds x now u b k others news y) (sym q.some_is)
    (takes_this a b h k seats others olds news x y now v q.visits is p c g t n f)
takes_in (Err e) a b h k seats others olds news x y now v q is p c g t n f = q

-- where nothing came, all is as it was
pub takes_still : (a : NodeCore) (h : House) (seats : List SeatState) (olds : List Told) (now : ℕ) (v : Visiting) → is_visit v ≡ false
    → TakesIn a h seats olds now v false a h seats olds
takes_still a h seats olds now Nothing e = record { visits = nothing_visits a h seats olds now; some_is = refl }
takes_still a h seats olds now OutOfMemory e = record { visits = starved_visits a h seats olds now; some_is = refl }
takes_still a h seats olds now (Came visitor guest) e = absurd (true_is_false e)
takes_still a h seats olds now (Line visitor line) e = absurd (true_is_false e)
takes_still a h seats olds now (Left visitor) e = absurd (true_is_false e)
